-- How many nodes stand in rows, and in the nodes over them.
use Rattle.std.proofs.Common.{◌≡◌, suc, ◌+◌, List, [], ◌∷◌, ◌++◌, refl, ap, ◌∙◌, arith}
use Rattle.wf_manifest.specs.declared.templates.OutputDecl.{OutputDecl}
use Rattle.meaning.specs.declared.lines.Place.{Place}
use Rattle.meaning.specs.Lines.{Parts, call, Made, row_of, then_parts}
use Rattle.meaning.specs.Steps.{Member, makings, group_made, Groups, steps_by}
use Rattle.meaning.specs.Calls.{loop_made}
use Rattle.tree_state.specs.Counting.{count_below, count}
use Rattle.tree_state.proofs.Counts.{count_then}
use Rattle.row_states.specs.Rows.{count_row}

-- a row, and one more call behind it
pub row_then : (ms : List Made) (m : Made) → row_of (ms ++ m ∷ []) ≡ then_parts (row_of ms) (row_of (m ∷ []))
row_then [] m = refl
row_then (x ∷ ms) m = ap (λ (p : Parts). call x.own x.parts p) (row_then ms m)

pub count_one : (m : Made) → count_row (m ∷ []) ≡ count m
count_one m = omega arith

pub count_row_then : (ms : List Made) (m : Made) → count_row (ms ++ m ∷ []) ≡ count_row ms + count m
count_row_then ms m =
    ap count_below (row_then ms m) ∙ count_then (row_of ms) (row_of (m ∷ [])) ∙ ap (λ n. count_row ms + n) (count_one m)

-- ---- the nodes over rows

pub count_group : (place : Place) (ms : List Member) → count (group_made place ms) ≡ suc (count_row (makings ms))
count_group place ms = refl

pub count_loop : (place : Place) (ds : List OutputDecl) (ms : List Made) → count (loop_made place ds ms) ≡ suc (count_row ms)
count_loop place ds ms = refl

pub count_steps :
    (place : Place) (declared : List OutputDecl) (groups : Groups) →
    count (steps_by place declared groups) ≡ suc (count_row groups.all)
count_steps place declared groups = refl
