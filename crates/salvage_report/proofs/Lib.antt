pub mod Ways
pub mod OpenedBins
