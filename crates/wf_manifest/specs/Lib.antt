pub mod JsonCode
pub mod Valid
pub mod FirstForm
