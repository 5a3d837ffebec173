mod MarkedPages
mod Logs
mod WaysBack
mod CellChanges
