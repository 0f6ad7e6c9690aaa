pub mod Looked
pub mod Neither
pub mod Said
pub mod Calls
pub mod GroupTags
pub mod TaskTags
