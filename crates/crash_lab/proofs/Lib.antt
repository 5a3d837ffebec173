mod Flushing
mod Lines
mod Shutting
mod TreeTexts
