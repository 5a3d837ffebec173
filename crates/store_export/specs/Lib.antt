pub mod Exports
pub mod Reports
pub mod HiveExports
pub mod HivePrints
