-- Kids of which each is a call.
use Rattle.std.proofs.Common.{◌≡◌, ℕ, zero, suc, ◌≤◌, length, arith, List, [], ◌∷◌, Option, Some, None, option_map, refl, sym, ap, ◌∙◌, Bor}
use Rattle.std.specs.Prelude.{slice_get, option_copied}
use Rattle.std.specs.Slice.{IsItemAt}
use Rattle.std.proofs.lemmas.Option.{slice_get_read, slice_get_past}
use Rattle.std.specs.declared.sync.Arc.{Arc}
use Rattle.std.specs.declared.alloc.Global.{Global}
use Rattle.meaning.specs.Lines.{Parts, Made, row_in}
use Rattle.tree_state.specs.declared.state.Line.{Line}
use Rattle.tree_state.specs.declared.state.Line.TheVariants.{MayBegin, Asks}
use Rattle.tree_state.specs.declared.state.Kid.{Kid}
use Rattle.tree_state.specs.Replacing.{call_at}
use Rattle.tree_state.specs.Inside.Kids.{own_line, line_then, state_then, parts_of}

own_row : (l : Line) (p : Parts) → row_in (own_line l p) ≡ row_in p
own_row (MayBegin x) p = refl
own_row (Asks w) p = refl

line_row : (l : Option (Arc Line Global)) (p : Parts) → row_in (line_then l p) ≡ row_in p
line_row None p = refl
line_row (Some l) p = own_row l.value p

own_call : (l : Line) (p : Parts) (i : ℕ) → call_at (own_line l p) i ≡ call_at p i
own_call (MayBegin x) p i = refl
own_call (Asks w) p i = refl

line_call : (l : Option (Arc Line Global)) (p : Parts) (i : ℕ) → call_at (line_then l p) i ≡ call_at p i
line_call None p i = refl
line_call (Some l) p i = own_call l.value p i

-- each kid is one call at most
few_then : (s : Option (Arc Made Global)) (p : Parts) (n : ℕ) → length (row_in p) ≤ n → length (row_in (state_then s p)) ≤ suc n
few_then None p n few = omega (arith, few)
few_then (Some s) p n few = omega (arith, few)

few : (ks : List Kid) → length (row_in (parts_of ks)) ≤ length ks
few [] = omega arith
few (k ∷ ks) =
    let own = few_then k.state (parts_of ks) (length ks) (few ks) in
    omega (arith, own, ap (λ (ms : List Made). length ms) (line_row k.line (state_then k.state (parts_of ks))))

-- what the call of a kid made
abbrev pub made_at : Option Kid → Option Made
made_at None = None
made_at (Some k) = option_map (λ (s : Arc Made Global). s.value) k.state

-- the call of this position among a kid's and those of the kids behind it
abbrev pub made_from : Option (Arc Made Global) → List Kid → ℕ → Option Made
made_from s ks zero = option_map (λ (a : Arc Made Global). a.value) s
made_from s ks (suc i) = made_at (slice_get ks i)

first_made : (k : Kid) (ks : List Kid) (i : ℕ) → made_from k.state ks i ≡ made_at (slice_get (k ∷ ks) i)
first_made k ks zero = refl
first_made k ks (suc i) = refl

from_state : (s : Option (Arc Made Global)) (ks : List Kid) (i : ℕ) → length (row_in (state_then s (parts_of ks))) ≡ suc (length ks) →
    ((j : ℕ) → length (row_in (parts_of ks)) ≡ length ks → call_at (parts_of ks) j ≡ made_at (slice_get ks j)) → call_at (state_then s (parts_of ks)) i ≡ made_from s ks i
from_state None ks i is ih = absurd (omega (arith, is, few ks))
from_state (Some s) ks zero is ih = refl
from_state (Some s) ks (suc i) is ih =
    let rest : length (row_in (parts_of ks)) ≡ length ks = omega (arith, is) in
    ih i rest

-- where there are as many calls as kids, a call's position is its kid's
pub alone : (ks : List Kid) (i : ℕ) → length (row_in (parts_of ks)) ≡ length ks → call_at (parts_of ks) i ≡ made_at (slice_get ks i)
alone [] i is = refl
alone (k ∷ ks) i is =
    let rest = state_then k.state (parts_of ks) in
    let own : length (row_in rest) ≡ suc (length ks) = sym (ap (λ (ms : List Made). length ms) (line_row k.line rest)) ∙ is in
    line_call k.line rest i ∙ from_state k.state ks i own (λ j e. alone ks j e) ∙ first_made k ks i

-- what a list of kids lends at a position
pub lent : (ks : List Kid) (i : ℕ) (r : Option (Bor Kid)) → IsItemAt ks i r → option_copied r ≡ slice_get ks i
lent ks i None (_, _, _, past, _) = sym (slice_get_past ks i past)
lent ks i (Some k) (_, here, _, within, _) = sym (slice_get_read ks (length ks) i k.now refl within.0 here)

module _ (chunk : Parts) (seen ks : List Kid) (i : ℕ) (r : Option (Bor Kid)) (view_is : parts_of ks ≡ chunk) (same : seen ≡ ks)
    (count : length (row_in (parts_of ks)) ≡ length ks) (at : IsItemAt seen i r) where
  pub lent_call : call_at chunk i ≡ made_at (option_copied r)
  lent_call =
      ap (λ (p : Parts). call_at p i) (sym view_is)
      ∙ alone ks i count
      ∙ ap made_at (ap (λ (xs : List Kid). slice_get xs i) (sym same) ∙ sym (lent seen i r at))
