-- The tags of groups that are gone through, made from what the groups made.
use Rattle.std.proofs.Common.{◌≡◌, ℕ, zero, suc, ◌+◌, ◌<◌, ◌≤◌, List, [], ◌∷◌, ◌++◌, Bool, true, false, length, take, map, Result, Ok, Err, Some, inr, refl, sym, ap, ◌∙◌, subst, arith, codes}
use Rattle.std.specs.Prelude.{slice_get, IsTrue, OnOk}
use Rattle.std.proofs.lemmas.List.{take_all}
use Rattle.base_types.specs.declared.memory.Memory.{Memory}
use Rattle.tree_types.specs.Phases.{is_succeeded}
use Rattle.wf_manifest.specs.declared.calls.Call.{Call}
use Rattle.wf_manifest.specs.declared.templates.OutputDecl.{OutputDecl}
use Rattle.scopes.specs.Substitution.{Scope, value_in}
use Rattle.scopes.specs.Values.{HasValuesOf}
use Rattle.scopes.proofs.ValueIn.{over_alike}
use Rattle.meaning.specs.declared.lines.Place.{Place}
use Rattle.meaning.specs.Lines.{Made, row_in}
use Rattle.meaning.proofs.Flattening.{row_in_row}
use Rattle.meaning.specs.Steps.{Caller, Member, Groups, members_at, makings, group_made, group_tags, group_place, groups_from, steps_phase}
use Rattle.mentions.specs.Mentions.{group_asks, outputs_ask}
use Rattle.mentions.specs.Unasked.{HasOtherValuesOf}
use Rattle.mentions.proofs.Said.{unasked_in_outputs}
use Rattle.scope_laws.proofs.Texts.{computed_agrees}
use Rattle.tree_walk.proofs.Groups.{members_calls}
use Rattle.tree_change.specs.Inside.Groups.{first_groups, IsSeen, IsEnd, SeesAlike, IsSaid}
use Rattle.tree_change.specs.declared.front.Front.{Front}
use Rattle.tree_change.proofs.Fronts.{groups_stand, groups_at, groups_one, groups_whole, groups_few, groups_others}
use Rattle.tree_change.proofs.Given.{some_same}

-- ---- positions

pub low_at : {X : Type 0} (xs : List X) (i : ℕ) (x : X) → slice_get xs i ≡ Some x → i < length xs
low_at [] i x at = absurd (cc (at))
low_at (y ∷ xs) zero x at = omega arith
low_at (y ∷ xs) (suc i) x at = omega (arith, low_at xs i x at)

pub taken_at : {X : Type 0} (n i : ℕ) (xs : List X) → i < length (take n xs) → slice_get (take n xs) i ≡ slice_get xs i
taken_at zero i xs lt = absurd (omega (arith, lt))
taken_at (suc n) i [] lt = refl
taken_at (suc n) zero (x ∷ xs) lt = refl
taken_at (suc n) (suc i) (x ∷ xs) lt = taken_at n i xs (omega (arith, lt))

pub take_short : {X : Type 0} (n : ℕ) (xs : List X) → length (take n xs) ≤ length xs
take_short zero xs = omega arith
take_short (suc n) [] = omega arith
take_short (suc n) (x ∷ xs) = omega (arith, take_short n xs)

-- ---- one group after the other

module _ (called : Caller) (place : Place) (scope : Scope) (gs : List (List Call)) (n : ℕ) (states : List Made) (is : states ≡ (first_groups called place scope gs n).all) where
  abbrev fs : List (List Call)
  fs = take n gs

  abbrev front : ℕ → Groups
  front i = first_groups called place scope fs i

  abbrev Tagged : Scope → ℕ → Type 0
  Tagged behind i = HasValuesOf behind (front i).scope

  pub tags_more : (i : ℕ) (behind more tags : Scope) (state : Made) (cs : List Call) (members : List Made) → slice_get states i ≡ Some state → slice_get gs i ≡ Some cs → members ≡ row_in state.parts →
      ((ms : List Member) → map (λ (m : Member). m.0) ms ≡ cs → makings ms ≡ members → HasValuesOf tags (group_tags ms)) → more ≡ tags ++ behind → Tagged behind i → Tagged more (i + 1)
  tags_more i behind more tags state cs members at call row told added so_far =
      let all : states ≡ (groups_from called place 0 scope fs).all = is in
      let low : i < length (groups_from called place 0 scope fs).all = subst (λ (ms : List Made). i < length ms) all (low_at states i state at) in
      let few = groups_few called place 0 scope fs in
      let here : slice_get fs i ≡ Some cs = taken_at n i gs (omega (arith, low, few)) ∙ call in
      let stands = groups_stand called place i 0 scope fs low in
      let ms = members_at called place (0 + i) (front i).scope cs in
      let one = groups_one called place i 0 scope fs cs here stands.went in
      let node : state ≡ group_made (group_place place (0 + i)) ms = some_same state (group_made (group_place place (0 + i)) ms) (slice_get states i) at (ap (λ (xs : List Made). slice_get xs i) all ∙ groups_at called place i 0 scope fs cs here low) in
      let made : makings ms ≡ members = sym (row ∙ ap (λ (b : Made). row_in b.parts) node ∙ row_in_row (makings ms)) in
      let over = over_alike (group_tags ms) (front i).scope tags behind (told ms (members_calls called (group_place place (0 + i)) (front i).scope 0 cs) made) so_far in
      let next : suc i ≡ i + 1 = omega arith in
      λ tag. ap (λ (s : Scope). value_in s tag) added
      ∙ over tag
      ∙ ap (λ (x : Groups). value_in x.scope tag) (sym one)
      ∙ ap (λ (k : ℕ). value_in (front k).scope tag) next

  pub tags_done : (i : ℕ) (behind : Scope) → length states ≤ i → i ≤ length states → Tagged behind i → HasValuesOf behind (first_groups called place scope gs n).scope
  tags_done i behind past low so_far =
      let all : states ≡ (groups_from called place 0 scope fs).all = is in
      let here : i ≡ length (groups_from called place 0 scope fs).all = omega (arith, past, low, ap length all) in
      λ tag. so_far tag ∙ ap (λ (k : ℕ). value_in (front k).scope tag) here ∙ ap (λ (x : Groups). value_in x.scope tag) (groups_whole called place 0 scope fs)

-- ---- where nothing has asked yet

pub seen_first : (tagged : Bool) (here scope behind : Scope) (states : List Made) → here ≡ scope → (IsTrue tagged → states ≡ []) → (states ≡ [] → behind ≡ scope) → IsSeen tagged here scope behind
seen_first true here scope behind states is empty first = λ tag. ap (λ (s : Scope). value_in s tag) (is ∙ sym (first (empty refl)))
seen_first false here scope behind states is empty first = is

-- ---- where nothing asks for a tag

seen_all : (tagged : Bool) (here scope behind : Scope) → tagged ≡ true → IsSeen tagged here scope behind → HasValuesOf here behind
seen_all true here scope behind is seen = seen
seen_all false here scope behind is seen = absurd (cc (is))

seen_none : (tagged : Bool) (here scope behind : Scope) → tagged ≡ false → IsSeen tagged here scope behind → here ≡ scope
seen_none true here scope behind is seen = absurd (cc (is))
seen_none false here scope behind is seen = seen

module _ (called : Caller) (place : Place) (scope : Scope) (gs : List (List Call)) where
  -- the groups give all other tags the values that their template gives them
  others : (here : Scope) → here ≡ scope → HasOtherValuesOf (codes "steps.") here (groups_from called place 0 scope gs).scope
  others here is tag other = ap (λ (s : Scope). value_in s tag) is ∙ groups_others called place 0 scope gs tag other

  pub sees_unasked : (tagged : Bool) (here : Scope) (cs : List Call) → tagged ≡ false → IsSeen tagged here scope (groups_from called place 0 scope gs).scope → group_asks (codes "steps.") cs ≡ false →
      SeesAlike here (groups_from called place 0 scope gs).scope cs
  sees_unasked tagged here cs off seen unasked = inr (others here (seen_none tagged here scope (groups_from called place 0 scope gs).scope off seen), unasked)

  -- ---- what the declared outputs say

  abbrev whole : Groups
  whole = groups_from called place 0 scope gs

  pub said_tagged : (front : Front) (declared : List OutputDecl) → front.tagged ≡ true → IsEnd front scope whole → IsSaid front.row declared whole
  said_tagged front declared on is = (is.0, (λ over. computed_agrees front.row.scope whole.scope (seen_all front.tagged front.row.scope scope whole.scope on (is.1 over)) declared))

  pub said_fallen : (front : Front) (declared : List OutputDecl) (b : Bool) → b ≡ is_succeeded (steps_phase front.row.states) → b ≡ false → IsEnd front scope whole → IsSaid front.row declared whole
  said_fallen front declared b succeeded off is =
      let fell : is_succeeded (steps_phase whole.all) ≡ false = ap (λ (ms : List Made). is_succeeded (steps_phase ms)) (sym is.0) ∙ sym succeeded ∙ off in
      (is.0, (λ over. absurd (cc (fell, over))))

  pub said_unasked : (front : Front) (declared : List OutputDecl) → front.tagged ≡ false → outputs_ask (codes "steps.") declared ≡ false → IsEnd front scope whole → IsSaid front.row declared whole
  said_unasked front declared off unasked is =
      (is.0, (λ over. unasked_in_outputs (codes "steps.") front.row.scope whole.scope declared (others front.row.scope (seen_none front.tagged front.row.scope scope whole.scope off (is.1 over))) unasked))

  -- once the tags are made
  pub whole_first : (states : List Made) → states ≡ whole.all → states ≡ (first_groups called place scope gs (length gs)).all
  whole_first states is = is ∙ ap (λ (fs : List (List Call)). (groups_from called place 0 scope fs).all) (sym (take_all (length gs) gs (omega arith)))

  pub said_made : (r : Result (Unit {0}) Memory) (front : Front) (new : Front) (declared : List OutputDecl) → IsEnd front scope whole → OnOk r (new.row.states ≡ front.row.states) →
      OnOk r (HasValuesOf new.row.scope (first_groups called place scope gs (length gs)).scope) → OnOk r (IsSaid new.row declared whole)
  said_made (Err e) front new declared is states tags = tt
  said_made (Ok u) front new declared is states tags =
      let values : HasValuesOf new.row.scope whole.scope = subst (λ (fs : List (List Call)). HasValuesOf new.row.scope (groups_from called place 0 scope fs).scope) (take_all (length gs) gs (omega arith)) tags in
      (states ∙ is.0, (λ over. computed_agrees new.row.scope whole.scope values declared))
