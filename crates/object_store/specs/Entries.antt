-- By which call an entry is accepted. Which call takes which entries is this project's own.
use Rattle.std.specs.Prelude.{◌≡◌, Bool, true, false, Some}
use Rattle.tree_types.specs.declared.entry.Key.{Key}
use Rattle.tree_types.specs.declared.entry.Entry.{Entry}
use Rattle.tree_types.specs.declared.entry.Entry.TheVariants.{Submit, Create}
use Rattle.history.specs.Keys.{key_of}

-- a submission and the creation of a pod make an object
abbrev pub is_making : Entry → Bool
is_making (Submit _ _ _) = true
is_making (Create _ _ _ _) = true
is_making _ = false

-- it makes the object of this key
abbrev pub MakesObject : Entry → Key → Type 0
MakesObject e k = (key_of e ≡ Some k) × (is_making e ≡ true)

-- it changes the object of this key
abbrev pub ChangesObject : Entry → Key → Type 0
ChangesObject e k = (key_of e ≡ Some k) × (is_making e ≡ false)
