mod Renaming
mod Bounds
mod Ways
mod Began
mod Fronts
mod Adds
mod Carried
mod Unstarted
