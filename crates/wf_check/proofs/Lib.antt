mod Firsts
mod Cleared
mod Parts
mod Tasks
mod Checked
mod Circles
