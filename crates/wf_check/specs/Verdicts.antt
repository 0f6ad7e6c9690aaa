-- What the rules say of a manifest. Their order is this project's own.
use Rattle.std.specs.Prelude.{◌≡◌, ℕ, ℤ, List, [], ◌∷◌, if◌then◌else◌, ◌==◌, Result, Ok, Err}
use Rattle.field_kinds.specs.Reading.{Read, ◌>>=◌, refuse_by}
use Rattle.field_kinds.specs.Refusing.{Refuses}
use Rattle.field_kinds.specs.declared.refused.KindRefused.{KindRefused}
use Rattle.field_kinds.specs.Rules as rules
use Rattle.wf_manifest.specs.declared.manifest.Manifest.{Manifest}
use Rattle.wf_places.specs.declared.place.Place.{Place}
use Rattle.wf_places.specs.Places.{manifest_places}

-- the first place at which the rule is broken is refused
abbrev pub asked : ℕ → List Place → Read (Unit {0})
asked rule [] = Ok tt
asked rule (p ∷ ps) = if p.rule == rule then refuse_by rule p.field else asked rule ps

-- each rule is asked of all places before the next
unfoldable pub checked : List Place → Read (Unit {0})
checked places = do
  _ ← asked rules.double_name places
  _ ← asked rules.bad_name places
  _ ← asked rules.unknown_name places
  _ ← asked rules.depends_mix places
  _ ← asked rules.cycle places
  _ ← asked rules.unknown_lock places
  _ ← asked rules.misplaced_tag places
  _ ← asked rules.unknown_parameter places
  asked rules.not_ancestor places

-- where these semaphores have limits
abbrev pub verdict : List (List ℕ) → Manifest → Read (Unit {0})
verdict limited m = checked (manifest_places limited m)

-- some limits let the manifest pass
abbrev pub IsChecked : Manifest → Type 0
IsChecked m = (limited : List (List ℕ)) × (verdict limited m ≡ Ok tt)

-- What is given passes, or the refusal is what is said.
abbrev pub Checks : {X : Type 0} → (X → Manifest) → Result X KindRefused → Manifest → Read (Unit {0}) → Type 0
Checks see (Ok x) m said = (see x ≡ m) × (said ≡ Ok tt)
Checks see (Err refusal) m said = Refuses refusal said

abbrev pub renamed : List ℕ → ℤ → Manifest → Manifest
renamed name created m = record m { name = name; created = created }
