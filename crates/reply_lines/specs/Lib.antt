pub mod Replies
pub mod Statuses
pub mod PrintedRefusals
