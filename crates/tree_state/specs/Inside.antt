-- What speaks only of private code.
pub mod Among
pub mod Begun
pub mod Chunks
pub mod Kids
pub mod Lower
pub mod LowerChunks
pub mod Sizes
pub mod Stocks
pub mod Sums
