-- The versions that are kept of an object, and what they tell of all of them.
use Rattle.std.specs.Prelude.{◌≡◌, ℕ, ◌+◌, ◌-◌, ◌*◌, ◌<◌, ◌≤◌, List, [], ◌∷◌, ◌++◌, length, slice_get, Option, Some, None}
use Rattle.tree_types.specs.declared.entry.Entry.{Entry}
use Rattle.object_store.specs.declared.line.Made.{Made}
use Rattle.object_store.specs.declared.line.Change.{Change}

-- so many versions are a row
abbrev pub row_size : ℕ
row_size = 16

abbrev pub change : ℕ → ℕ → Change
change place tick = record { place = place; tick = tick }

-- two versions from before the last row, the last row, and how each version but the very first came
pub record Rows (C : Type 0) : Type 0 where
  pub rows : List (Made C)
  pub first : Made C
  pub later : List (Made C)
  pub changes : List Change

module _ {C : Type 0} where
  -- where the last row begins
  abbrev pub last_start : Rows C → ℕ
  last_start r = length r.changes - length r.later

  -- the last row is no longer than a row; of the full rows before it as many have a kept version as there are, but two
  -- at most
  pub record IsRowed (rows later : List (Made C)) (changes : List Change) : Type 0 where
    pub few : length later < row_size
    pub most : length rows ≤ 2
    pub full : row_size * length rows + length later ≤ length changes
    pub counted : length rows < 2 → length changes ≡ row_size * length rows + length later

  abbrev pub first_among : List (Made C) → Made C → Made C
  first_among [] m = m
  first_among (n ∷ ns) m = n

  -- the first version of all
  abbrev pub first_of : Rows C → Made C
  first_of r = first_among r.rows r.first

  -- of an object with one version
  abbrev pub fresh : Made C → Rows C
  fresh m = record { rows = []; first = m; later = []; changes = [] }

  -- where the kept versions stand among all: the very first, the one that is a row before the last row, and the last row
  pub record StandsIn (r : Rows C) (all : List (Made C)) : Type 0 where
    pub counted : length all ≡ length r.changes + 1
    pub first : slice_get all 0 ≡ Some (first_of r)
    pub row_before : (m : Made C) → slice_get r.rows 1 ≡ Some m → slice_get all (last_start r - row_size) ≡ Some m
    pub last_row : (i : ℕ) (m : Made C) → slice_get (r.first ∷ r.later) i ≡ Some m → slice_get all (last_start r + i) ≡ Some m

  -- one version more, which came so
  pub record OneMore (old : Rows C) (made : Made C) (c : Change) (new : Rows C) : Type 0 where
    pub stands : (all : List (Made C)) → StandsIn old all → StandsIn new (all ++ made ∷ [])
    pub changes : new.changes ≡ old.changes ++ c ∷ []
    pub first : first_of new ≡ first_of old

module _ {C : Type 0} (apply : C → Entry → Option C) (entries : List Entry) where
  -- the entry at the change's place leads from the version at the position to the next, which was made at the tick
  pub record Leads (all : List (Made C)) (at : ℕ) (c : Change) : Type 0 where
    pub from : Made C
    pub entry : Entry
    pub to : Made C
    pub is_from : slice_get all at ≡ Some from
    pub is_entry : slice_get entries c.place ≡ Some entry
    pub is_to : slice_get all (at + 1) ≡ Some to
    pub leads : apply from.content entry ≡ Some to.content
    pub ticks : to.tick ≡ c.tick

  -- all versions of an object can be made again: each kept one stands in its place, and each change leads to the next
  pub record IsLine (r : Rows C) (all : List (Made C)) : Type 0 where
    pub stands : StandsIn r all
    pub steps : (at : ℕ) (c : Change) → slice_get r.changes at ≡ Some c → Leads all at c

  -- no versions where there is no object
  abbrev pub Held : Option (Rows C) → List (Made C) → Type 0
  Held None all = all ≡ []
  Held (Some r) all = IsLine r all
