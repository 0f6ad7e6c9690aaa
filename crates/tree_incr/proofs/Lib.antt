mod Adding
mod Counted
mod Found
