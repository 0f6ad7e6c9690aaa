-- What the private functions that read a name find.
use Rattle.std.specs.Prelude.{◌≡◌, ◌≢◌, ℕ, Bool, false, List, [], ◌∷◌, ◌++◌}
use Rattle.node_names.specs.declared.seg.Seg.{Seg}
use Rattle.node_names.specs.declared.seg.Seg.TheVariants.{Exit, Group, Call, Item, Attempt}
use Rattle.base_types.specs.Bytes.{is_name_byte}
use Rattle.node_names.specs.Names.{suffix, IsSound}

-- a run of bytes that pass the test cannot go on in this text
abbrev pub Stops : (ℕ → Bool) → List ℕ → Type 0
Stops test [] = Unit {0}
Stops test (b ∷ bs) = test b ≡ false

-- behind a name of a step, the name does not go on
abbrev pub EndsBefore : Seg → List ℕ → Type 0
EndsBefore Exit rest = Stops is_name_byte rest
EndsBefore (Call name) rest = Stops is_name_byte rest
EndsBefore (Group i) rest = Unit {0}
EndsBefore (Item i text) rest = Unit {0}
EndsBefore (Attempt k) rest = Unit {0}

-- a text begins with the suffix of this segment
pub record BeginsWith (seg : Seg) (text rest : List ℕ) : Type 0 where
  pub sound : IsSound seg
  pub is : text ≡ suffix seg ++ rest
  pub ends : EndsBefore seg rest

-- it begins with no suffix
abbrev pub BeginsWithNone : List ℕ → Type 0
BeginsWithNone text = (seg : Seg) (rest : List ℕ) → IsSound seg → EndsBefore seg rest → text ≢ suffix seg ++ rest
