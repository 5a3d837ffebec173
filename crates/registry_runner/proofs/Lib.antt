mod Playing
mod Folding
mod Ending
mod LineProofs
mod PartProofs
