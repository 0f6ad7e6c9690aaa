mod Plain
mod WorkedPlain
