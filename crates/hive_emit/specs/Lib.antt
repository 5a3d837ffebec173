pub mod Forms
pub mod SecurityTables
pub mod EmittedKeys
pub mod KeyCosts
pub mod CellWrites
pub mod Values
pub mod KeyLists
pub mod CellCosts
