mod Answered
mod Begun
mod Naming
mod Fresh
