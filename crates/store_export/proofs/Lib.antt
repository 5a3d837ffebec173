mod Hives
mod Told
mod FilePrints
