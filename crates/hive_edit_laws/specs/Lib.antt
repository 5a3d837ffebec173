pub mod KeyPlaces
pub mod SubkeyEdits
pub mod RecordEdits
pub mod ValueEdits
pub mod Found
pub mod Shifts
pub mod SubkeyLists
pub mod KeyCells
