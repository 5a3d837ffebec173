mod Accounts
mod Captured
