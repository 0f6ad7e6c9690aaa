pub mod Book
pub mod Inside
pub use Rattle.books.specs.Books
pub use Rattle.books.specs.Laws
pub use Rattle.tree_types.specs.declared.entry.HolderKey
pub use Rattle.tree_types.specs.declared.entry.Limit
pub use Rattle.tree_types.specs.declared.entry.Rank
pub use Rattle.tree_types.specs.declared.path.LockId
