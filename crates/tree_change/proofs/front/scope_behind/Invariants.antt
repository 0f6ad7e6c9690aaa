use Rattle.std.proofs.Common.{◌≡◌, ℕ, take}
use Rattle.meaning.specs.declared.lines.Place.{Place}
use Rattle.meaning.specs.Steps.{Caller}
use Rattle.scopes.specs.Values.{HasValuesOf}
use Rattle.tree_change.specs.Inside.Groups.{first_groups}
use Rattle.tree_change.proofs.front.scope_behind.Given as goal

-- the tags of the groups before this one are there
abbrev pub invariant-loop-i : goal.invariant-loop-i
invariant-loop-i l =
    (called : Caller) (place : Place) (n : ℕ) → l.states ≡ (first_groups called place l.scope l.groups n).all →
    HasValuesOf l.behind (first_groups called place l.scope (take n l.groups) l.i).scope
