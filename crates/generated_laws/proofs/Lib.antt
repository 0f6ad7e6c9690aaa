mod Names
mod Texts
mod Said
mod Read
mod Verdicts
mod Whole
mod Documents
