mod Fronts
mod Spelled
