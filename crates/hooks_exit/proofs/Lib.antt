mod Finished
mod Meant
