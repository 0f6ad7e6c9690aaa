-- What speaks only of this crate's private code.
pub mod Parts
pub mod Pods
pub mod Same
