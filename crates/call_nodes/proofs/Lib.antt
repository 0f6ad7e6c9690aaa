pub mod DeclByDecl
pub mod Gathered
pub mod ItemName
