pub mod ServedReplies
