pub mod Complete
pub mod Ends
pub mod Refusing
pub mod Sizes
pub mod Submitting
