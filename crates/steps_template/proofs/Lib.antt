mod Turns
mod Following
