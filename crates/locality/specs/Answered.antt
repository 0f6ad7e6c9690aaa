-- Answers that are the same at some paths, and what a recorded fact changes of them.
use Rattle.std.specs.Prelude.{◌≡◌, [], ◌∷◌, ◌++◌, true, false, Option, Some, None, All}
use Rattle.tree_types.specs.declared.fact.Fact.{Fact}
use Rattle.tree_types.specs.declared.fact.Fact.TheVariants.{Started, Settled, Carried, Granted, Memo, Armed, Due, Resumed, Begun}
use Rattle.tree_types.specs.Places.{sels_eq}
use Rattle.meaning.specs.declared.lines.Place.{Place}
use Rattle.meaning.specs.Answers.{Sels, Facts, Answers, answers}
use Rattle.locality.specs.Paths.{begins_with, IsOff}

-- the same is answered at this path and at each path below it
pub record SameBelow (A B : Answers) (at : Sels) : Type 0 where
  pub outcome : (place : Place) → begins_with place.sels at ≡ true → A.outcome place ≡ B.outcome place
  pub granted : (p : Sels) → begins_with p at ≡ true → A.granted p ≡ B.granted p
  pub memo : (p : Sels) → begins_with p at ≡ true → A.memo p ≡ B.memo p
  pub armed : (p : Sels) → begins_with p at ≡ true → A.armed p ≡ B.armed p
  pub due : (p : Sels) → begins_with p at ≡ true → A.due p ≡ B.due p
  pub resumed : (p : Sels) → begins_with p at ≡ true → A.resumed p ≡ B.resumed p
  pub begun : (p : Sels) → begins_with p at ≡ true → A.begun p ≡ B.begun p

-- the same is answered, but at one path
pub record SameBut (A B : Answers) (changed : Sels) : Type 0 where
  pub started : A.started ≡ B.started
  pub outcome : (place : Place) → sels_eq place.sels changed ≡ false → A.outcome place ≡ B.outcome place
  pub granted : (p : Sels) → sels_eq p changed ≡ false → A.granted p ≡ B.granted p
  pub memo : (p : Sels) → sels_eq p changed ≡ false → A.memo p ≡ B.memo p
  pub armed : (p : Sels) → sels_eq p changed ≡ false → A.armed p ≡ B.armed p
  pub due : (p : Sels) → sels_eq p changed ≡ false → A.due p ≡ B.due p
  pub resumed : (p : Sels) → sels_eq p changed ≡ false → A.resumed p ≡ B.resumed p
  pub begun : (p : Sels) → sels_eq p changed ≡ false → A.begun p ≡ B.begun p

-- the path at which a fact says something; a start is of the workflow, and of no path
abbrev pub sels_of : Fact → Option Sels
sels_of Started = None
sels_of (Settled p outcome) = Some p.sels
sels_of (Carried p outcome) = Some p.sels
sels_of (Granted p) = Some p.sels
sels_of (Memo p answer) = Some p.sels
sels_of (Armed p tick) = Some p.sels
sels_of (Due p) = Some p.sels
sels_of (Resumed p) = Some p.sels
sels_of (Begun p) = Some p.sels

-- what changes, if anything does, is neither at this path nor below it
abbrev pub IsOffIf : Option Sels → Sels → Type 0
IsOffIf None at = Unit {0}
IsOffIf (Some changed) at = IsOff changed at

-- a fact that says nothing at this path nor below it
abbrev pub FactIsOff : Sels → Fact → Type 0
FactIsOff at f = IsOffIf (sels_of f) at

-- ---- the laws

-- off the changed path the same is answered, also below
abbrev pub OffIsSame : Type 0
OffIsSame = (A B : Answers) (changed at : Sels) → SameBut A B changed → IsOff changed at → SameBelow A B at

-- a fact of a path changes what is answered at this path alone
abbrev pub FactsAreLocal : Type 0
FactsAreLocal =
    (J : Facts) (f : Fact) (changed : Sels) → sels_of f ≡ Some changed →
    SameBut (answers (J ++ f ∷ [])) (answers J) changed

-- facts that say nothing at a path nor below it change nothing there
abbrev pub JournalsAreLocal : Type 0
JournalsAreLocal =
    (J K : Facts) (at : Sels) → All (FactIsOff at) K → SameBelow (answers (J ++ K)) (answers J) at

-- a start is answered as such, and changes nothing that is answered at a path
abbrev pub StartsOnlyStart : Type 0
StartsOnlyStart = (J : Facts) → answers (J ++ Started ∷ []) ≡ record (answers J) { started = true }
