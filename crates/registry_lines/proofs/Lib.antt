pub mod Hearing
mod Sessions
mod Answered
