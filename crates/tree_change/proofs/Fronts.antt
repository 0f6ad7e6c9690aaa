-- Groups of steps from the first on: where all of them Succeeded, those behind them begin in the scope behind them.
use Rattle.std.proofs.Common.{◌≡◌, ℕ, zero, suc, ◌+◌, ◌<◌, ◌≤◌, List, [], ◌∷◌, ◌++◌, Bool, true, false, cond, length, take, drop, Some, refl, sym, ap, ◌∙◌, subst, arith, codes}
use Rattle.std.specs.Prelude.{slice_get}
use Rattle.tree_types.specs.Phases.{is_succeeded}
use Rattle.wf_manifest.specs.declared.calls.Call.{Call}
use Rattle.scopes.specs.Substitution.{Scope}
use Rattle.meaning.specs.declared.lines.Place.{Place}
use Rattle.meaning.specs.Lines.{Made}
use Rattle.meaning.specs.Steps.{Caller, Member, Groups, members_at, group_made, group_phase, group_tags, group_place, before_groups, groups_by, groups_from, steps_phase}
use Rattle.mentions.specs.Unasked.{HasOtherValuesOf}
use Rattle.mentions.proofs.GroupTags.{group_tags_begin_so}
use Rattle.tree_walk.proofs.Groups.{behind}

-- all groups Succeeded
abbrev pub Went : List Made → Type 0
Went ms = is_succeeded (steps_phase ms) ≡ true

module _ (called : Caller) (place : Place) where
  abbrev From : ℕ → Scope → List (List Call) → Groups
  From i s gs = groups_from called place i s gs

  abbrev Ms : ℕ → Scope → List Call → List Member
  Ms i s cs = members_at called place i s cs

  abbrev Node : ℕ → Scope → List Call → Made
  Node i s cs = group_made (group_place place i) (Ms i s cs)

  -- the scope behind a group
  abbrev Next : ℕ → Scope → List Call → Scope
  Next i s cs = group_tags (Ms i s cs) ++ s

  -- a group of this outcome, with those that follow it
  abbrev By : ℕ → Scope → List Call → List (List Call) → Bool → Groups
  By i s cs gs b = groups_by (Node i s cs) (group_tags (Ms i s cs)) s (λ (t : Scope). From (suc i) t gs) b

  abbrev Over : ℕ → Scope → List Call → Bool
  Over i s cs = is_succeeded (group_phase (Ms i s cs))

  -- the phase of groups of which the first has this outcome
  abbrev By_phase : ℕ → Scope → List Call → List Made → Bool → Type 0
  By_phase i s cs ms b = is_succeeded (cond b (steps_phase ms) (group_phase (Ms i s cs))) ≡ true

  later_went : (i : ℕ) (s : Scope) (cs : List Call) (ms : List Made) → Over i s cs ≡ true → Went (Node i s cs ∷ ms) → Went ms
  later_went i s cs ms is over = subst (By_phase i s cs ms) is over

  first_went : (i : ℕ) (s : Scope) (cs : List Call) (ms : List Made) → Over i s cs ≡ false → Went (Node i s cs ∷ ms) → ⊥
  first_went i s cs ms is over = let fell : Over i s cs ≡ true = subst (By_phase i s cs ms) is over in absurd (cc (fell, is))

  went_on : (i : ℕ) (s : Scope) (cs : List Call) (ms : List Made) → Over i s cs ≡ true → Went ms → Went (Node i s cs ∷ ms)
  went_on i s cs ms is over = subst (By_phase i s cs ms) (sym is) over

  -- ---- where so many groups Succeeded, the others follow them

  abbrev Both : ℕ → ℕ → Scope → Groups → Groups → List (List Call) → List (List Call) → Type 0
  Both n i s whole front gs fs = whole ≡ behind front.all (From (i + length fs) front.scope (drop n gs))

  both_by : (n i : ℕ) (s : Scope) (cs : List Call) (gs : List (List Call)) (b : Bool) → Over i s cs ≡ b → Went (By i s cs (take n gs) b).all →
      (Went (From (suc i) (Next i s cs) (take n gs)).all → Both n (suc i) (Next i s cs) (From (suc i) (Next i s cs) gs) (From (suc i) (Next i s cs) (take n gs)) gs (take n gs)) →
      Both (suc n) i s (By i s cs gs b) (By i s cs (take n gs) b) (cs ∷ gs) (cs ∷ take n gs)
  both_by n i s cs gs true is over more =
      let front = From (suc i) (Next i s cs) (take n gs) in
      let next : suc i + length (take n gs) ≡ i + suc (length (take n gs)) = omega arith in
      ap (before_groups (Node i s cs)) (more (later_went i s cs front.all is over))
      ∙ ap (λ (k : ℕ). behind (Node i s cs ∷ front.all) (From k front.scope (drop n gs))) next
  both_by n i s cs gs false is over more = absurd (first_went i s cs [] is over)

  pub groups_both : (n i : ℕ) (s : Scope) (gs : List (List Call)) → Went (From i s (take n gs)).all → Both n i s (From i s gs) (From i s (take n gs)) gs (take n gs)
  groups_both zero i s [] over = let same : i ≡ i + 0 = omega arith in ap (λ (k : ℕ). From k s []) same
  groups_both zero i s (cs ∷ gs) over = let same : i ≡ i + 0 = omega arith in ap (λ (k : ℕ). From k s (cs ∷ gs)) same
  groups_both (suc n) i s [] over = refl
  groups_both (suc n) i s (cs ∷ gs) over = both_by n i s cs gs (Over i s cs) refl over (λ later. groups_both n (suc i) (Next i s cs) gs later)

  -- ---- where a group exists, those in front of it Succeeded

  pub record Stands (n i : ℕ) (s : Scope) (whole : Groups) (front : Groups) (gs : List (List Call)) : Type 0 where
    pub low : n < length gs
    pub went : Went front.all
    pub first : take n whole.all ≡ front.all
    pub long : length front.all ≡ n

  stands_by : (n i : ℕ) (s : Scope) (cs : List Call) (gs : List (List Call)) (b : Bool) → Over i s cs ≡ b → suc n < length (By i s cs gs b).all →
      (n < length (From (suc i) (Next i s cs) gs).all → Stands n (suc i) (Next i s cs) (From (suc i) (Next i s cs) gs) (From (suc i) (Next i s cs) (take n gs)) gs) →
      Stands (suc n) i s (By i s cs gs b) (By i s cs (take n gs) b) (cs ∷ gs)
  stands_by n i s cs gs true is lt more =
      let rest = more (omega (arith, lt)) in
      record {
        low = omega (arith, rest.low);
        went = went_on i s cs (From (suc i) (Next i s cs) (take n gs)).all is rest.went;
        first = ap (λ (ms : List Made). Node i s cs ∷ ms) rest.first;
        long = omega (arith, rest.long);
      }
  stands_by n i s cs gs false is lt more = absurd (omega (arith, lt))

  pub groups_stand : (n i : ℕ) (s : Scope) (gs : List (List Call)) → n < length (From i s gs).all → Stands n i s (From i s gs) (From i s (take n gs)) gs
  groups_stand n i s [] lt = absurd (omega (arith, lt))
  groups_stand zero i s (cs ∷ gs) lt = record { low = omega arith; went = refl; first = refl; long = refl }
  groups_stand (suc n) i s (cs ∷ gs) lt = stands_by n i s cs gs (Over i s cs) refl lt (λ l. groups_stand n (suc i) (Next i s cs) gs l)

  at_by : (n i : ℕ) (s : Scope) (ds cs : List Call) (gs : List (List Call)) (b : Bool) → suc n < length (By i s ds gs b).all →
      (n < length (From (suc i) (Next i s ds) gs).all → slice_get (From (suc i) (Next i s ds) gs).all n ≡ Some (Node (suc i + n) (From (suc i) (Next i s ds) (take n gs)).scope cs)) →
      slice_get (By i s ds gs b).all (suc n) ≡ Some (Node (i + suc n) (By i s ds (take n gs) b).scope cs)
  at_by n i s ds cs gs true lt more =
      let next : suc i + n ≡ i + suc n = omega arith in
      more (omega (arith, lt)) ∙ ap (λ (k : ℕ). Some (Node k (From (suc i) (Next i s ds) (take n gs)).scope cs)) next
  at_by n i s ds cs gs false lt more = absurd (omega (arith, lt))

  first_at : (i : ℕ) (s : Scope) (cs : List Call) (gs : List (List Call)) (b : Bool) → slice_get (By i s cs gs b).all 0 ≡ Some (Node i s cs)
  first_at i s cs gs true = refl
  first_at i s cs gs false = refl

  -- the group that exists at a position
  pub groups_at : (n i : ℕ) (s : Scope) (gs : List (List Call)) (cs : List Call) → slice_get gs n ≡ Some cs → n < length (From i s gs).all →
      slice_get (From i s gs).all n ≡ Some (Node (i + n) (From i s (take n gs)).scope cs)
  groups_at n i s [] cs at lt = absurd (cc (at))
  groups_at zero i s (ds ∷ gs) cs at lt =
      let here : ds ≡ cs = cc in
      let same : i ≡ i + 0 = omega arith in
      first_at i s ds gs (Over i s ds)
      ∙ ap (λ (xs : List Call). Some (Node i s xs)) here
      ∙ ap (λ (k : ℕ). Some (Node k s cs)) same
  groups_at (suc n) i s (ds ∷ gs) cs at lt = at_by n i s ds cs gs (Over i s ds) lt (λ l. groups_at n (suc i) (Next i s ds) gs cs at l)

  -- ---- one group more

  abbrev then_group : Groups → Made → Scope → Groups
  then_group groups g tags = record { all = groups.all ++ g ∷ []; scope = tags ++ groups.scope }

  -- the group of a position, behind so many that Succeeded
  abbrev One : ℕ → ℕ → Groups → Groups → List Call → Type 0
  One n i more front cs = more ≡ then_group front (Node (i + n) front.scope cs) (group_tags (Ms (i + n) front.scope cs))

  one_alone : (i : ℕ) (s : Scope) (cs : List Call) (b : Bool) → By i s cs [] b ≡ record { all = Node i s cs ∷ []; scope = Next i s cs }
  one_alone i s cs true = refl
  one_alone i s cs false = refl

  one_by : (n i : ℕ) (s : Scope) (ds cs : List Call) (gs : List (List Call)) (b : Bool) → Over i s ds ≡ b → Went (By i s ds (take n gs) b).all →
      (Went (From (suc i) (Next i s ds) (take n gs)).all → One n (suc i) (From (suc i) (Next i s ds) (take (suc n) gs)) (From (suc i) (Next i s ds) (take n gs)) cs) →
      One (suc n) i (By i s ds (take (suc n) gs) b) (By i s ds (take n gs) b) cs
  one_by n i s ds cs gs true is over more =
      let front = From (suc i) (Next i s ds) (take n gs) in
      let next : suc i + n ≡ i + suc n = omega arith in
      ap (before_groups (Node i s ds)) (more (later_went i s ds front.all is over))
      ∙ ap (λ (k : ℕ). then_group (before_groups (Node i s ds) front) (Node k front.scope cs) (group_tags (Ms k front.scope cs))) next
  one_by n i s ds cs gs false is over more = absurd (first_went i s ds [] is over)

  pub groups_one : (n i : ℕ) (s : Scope) (gs : List (List Call)) (cs : List Call) → slice_get gs n ≡ Some cs → Went (From i s (take n gs)).all → One n i (From i s (take (suc n) gs)) (From i s (take n gs)) cs
  groups_one n i s [] cs at over = absurd (cc (at))
  groups_one zero i s (ds ∷ gs) cs at over =
      let here : ds ≡ cs = cc in
      let same : i ≡ i + 0 = omega arith in
      one_alone i s ds (Over i s ds)
      ∙ ap (λ (xs : List Call). record { all = Node i s xs ∷ []; scope = Next i s xs }) here
      ∙ ap (λ (k : ℕ). record { all = Node k s cs ∷ []; scope = Next k s cs }) same
  groups_one (suc n) i s (ds ∷ gs) cs at over = one_by n i s ds cs gs (Over i s ds) refl over (λ later. groups_one n (suc i) (Next i s ds) gs cs at later)

  -- a group that did not succeed is the last
  stop_by : (n i : ℕ) (s : Scope) (ds cs : List Call) (gs : List (List Call)) (b : Bool) → Over i s ds ≡ b → Went (By i s ds (take n gs) b).all → Over (i + suc n) (By i s ds (take n gs) b).scope cs ≡ false →
      (Went (From (suc i) (Next i s ds) (take n gs)).all → Over (suc i + n) (From (suc i) (Next i s ds) (take n gs)).scope cs ≡ false → One n (suc i) (From (suc i) (Next i s ds) gs) (From (suc i) (Next i s ds) (take n gs)) cs) →
      One (suc n) i (By i s ds gs b) (By i s ds (take n gs) b) cs
  stop_by n i s ds cs gs true is over fell more =
      let front = From (suc i) (Next i s ds) (take n gs) in
      let next : suc i + n ≡ i + suc n = omega arith in
      ap (before_groups (Node i s ds)) (more (later_went i s ds front.all is over) (ap (λ (k : ℕ). Over k front.scope cs) next ∙ fell))
      ∙ ap (λ (k : ℕ). then_group (before_groups (Node i s ds) front) (Node k front.scope cs) (group_tags (Ms k front.scope cs))) next
  stop_by n i s ds cs gs false is over fell more = absurd (first_went i s ds [] is over)

  pub groups_stop : (n i : ℕ) (s : Scope) (gs : List (List Call)) (cs : List Call) → slice_get gs n ≡ Some cs → Went (From i s (take n gs)).all → Over (i + n) (From i s (take n gs)).scope cs ≡ false →
      One n i (From i s gs) (From i s (take n gs)) cs
  groups_stop n i s [] cs at over fell = absurd (cc (at))
  groups_stop zero i s (ds ∷ gs) cs at over fell =
      let here : ds ≡ cs = cc in
      let same : i ≡ i + 0 = omega arith in
      let fell_here : Over i s ds ≡ false = ap (λ (xs : List Call). Over i s xs) here ∙ ap (λ (k : ℕ). Over k s cs) same ∙ fell in
      ap (By i s ds gs) fell_here
      ∙ ap (λ (xs : List Call). record { all = Node i s xs ∷ []; scope = Next i s xs }) here
      ∙ ap (λ (k : ℕ). record { all = Node k s cs ∷ []; scope = Next k s cs }) same
  groups_stop (suc n) i s (ds ∷ gs) cs at over fell =
      stop_by n i s ds cs gs (Over i s ds) refl over fell (λ later low. groups_stop n (suc i) (Next i s ds) gs cs at later low)

  -- ---- all groups that exist

  abbrev Later : ℕ → Scope → List Call → List (List Call) → Bool → ℕ
  Later i s cs gs true = length (From (suc i) (Next i s cs) gs).all
  Later i s cs gs false = 0

  long_by : (i : ℕ) (s : Scope) (cs : List Call) (gs : List (List Call)) (b : Bool) → length (By i s cs gs b).all ≡ suc (Later i s cs gs b)
  long_by i s cs gs true = refl
  long_by i s cs gs false = refl

  whole_by : (i : ℕ) (s : Scope) (cs : List Call) (gs : List (List Call)) (b : Bool) → From (suc i) (Next i s cs) (take (length (From (suc i) (Next i s cs) gs).all) gs) ≡ From (suc i) (Next i s cs) gs →
      By i s cs (take (Later i s cs gs b) gs) b ≡ By i s cs gs b
  whole_by i s cs gs true more = ap (before_groups (Node i s cs)) more
  whole_by i s cs gs false more = refl

  -- groups are made by as many lists of calls
  pub groups_whole : (i : ℕ) (s : Scope) (gs : List (List Call)) → From i s (take (length (From i s gs).all) gs) ≡ From i s gs
  groups_whole i s [] = refl
  groups_whole i s (cs ∷ gs) =
      ap (λ (k : ℕ). From i s (take k (cs ∷ gs))) (long_by i s cs gs (Over i s cs))
      ∙ whole_by i s cs gs (Over i s cs) (groups_whole (suc i) (Next i s cs) gs)

  few_by : (i : ℕ) (s : Scope) (cs : List Call) (gs : List (List Call)) (b : Bool) → length (From (suc i) (Next i s cs) gs).all ≤ length gs → length (By i s cs gs b).all ≤ suc (length gs)
  few_by i s cs gs true less = omega (arith, less)
  few_by i s cs gs false less = omega arith

  pub groups_few : (i : ℕ) (s : Scope) (gs : List (List Call)) → length (From i s gs).all ≤ length gs
  groups_few i s [] = omega arith
  groups_few i s (cs ∷ gs) = few_by i s cs gs (Over i s cs) (groups_few (suc i) (Next i s cs) gs)

  -- ---- the tags of groups begin with `steps.`

  others_by : (i : ℕ) (s : Scope) (cs : List Call) (gs : List (List Call)) (b : Bool) → HasOtherValuesOf (codes "steps.") (Next i s cs) (From (suc i) (Next i s cs) gs).scope →
      HasOtherValuesOf (codes "steps.") s (By i s cs gs b).scope
  others_by i s cs gs true more tag other = sym (group_tags_begin_so (Ms i s cs) s tag other) ∙ more tag other
  others_by i s cs gs false more tag other = sym (group_tags_begin_so (Ms i s cs) s tag other)

  pub groups_others : (i : ℕ) (s : Scope) (gs : List (List Call)) → HasOtherValuesOf (codes "steps.") s (From i s gs).scope
  groups_others i s [] tag other = refl
  groups_others i s (cs ∷ gs) tag other = others_by i s cs gs (Over i s cs) (groups_others (suc i) (Next i s cs) gs) tag other
