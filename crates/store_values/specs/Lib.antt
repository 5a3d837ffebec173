pub mod Answers
pub mod Listed
pub mod Changes
pub mod Outcomes
pub mod KeptCommits
pub mod FileAnswers
pub mod FileLookups
