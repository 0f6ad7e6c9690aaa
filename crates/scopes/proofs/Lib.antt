pub mod Said
pub mod ValueIn
