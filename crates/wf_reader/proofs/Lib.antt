mod Kept
mod Rows
