-- One call in the place of another, while all others stay.
use Rattle.std.proofs.Common.{◌≡◌, ℕ, zero, suc, ◌+◌, ◌-◌, ◌<◌, ◌≤◌, List, [], ◌∷◌, ◌++◌, length, false, Option, Some, Ok, Err, codes, refl, sym, ap, ◌∙◌, arith}
use Rattle.std.specs.Prelude.{slice_get, map}
use Rattle.serde_json.specs.Data.{Data}
use Rattle.tree_types.specs.declared.path.Sel.TheVariants.{Step, Item}
use Rattle.tree_types.specs.declared.phase.Phase.TheVariants.{Running}
use Rattle.tree_types.specs.Phases.{is_succeeded}
use Rattle.wf_manifest.specs.declared.calls.Call.{Call}
use Rattle.wf_manifest.specs.declared.manifest.Manifest.{Manifest}
use Rattle.wf_manifest.specs.declared.calls.Loop.{Loop}
use Rattle.scopes.specs.Substitution.{Found, Scope}
use Rattle.fanout.specs.Items.{items}
use Rattle.tree_change.specs.Inside.OneItem.{IsItemAt}
use Rattle.meaning.specs.declared.lines.Place.{Place}
use Rattle.meaning.specs.Answers.{Sels, Answers}
use Rattle.meaning.specs.Lines.{Parts, nothing, call, may_begin, asks, Made, row_of, row_in, all_finished}
use Rattle.meaning.proofs.Flattening.{row_in_row}
use Rattle.meaning.specs.Steps.{Caller, Member, members, member_place, makings, group_made}
use Rattle.meaning.specs.Calls.{declared_by, template_named, loop_made, item_made, items_made, looped, calls}
use Rattle.locality.specs.Answered.{SameBut}
use Rattle.tree_state.specs.declared.refused.TreeRefused.{TreeRefused}
use Rattle.tree_state.specs.declared.refused.TreeRefused.TheVariants.{TooLarge, Memory}
use Rattle.tree_state.specs.Counting.{count_below, count, TakesAll, Gives}
use Rattle.tree_state.specs.Replacing.{call_at, replaced, with_call, with_item}
use Rattle.tree_walk.specs.declared.over.Group.{Group}
use Rattle.tree_walk.specs.Walking.{group_seen}
use Rattle.tree_walk.proofs.Groups.{members_calls}
use Rattle.tree_walk.proofs.Tasks.{is_low}
use Rattle.tree_change.specs.Entered.{IsRunning}
use Rattle.tree_change.specs.Inside.Groups.{KeepsGroup}
use Rattle.tree_change.proofs.Changing.{items_other, item_stood, members_other, member_stood}
use Rattle.tree_change.proofs.Given.{some_same}
use Rattle.tree_change.proofs.Rows.{none_past, making, makings_are, group_runs, group_other, loop_other}

-- ---- room

count_replaced : (p : Parts) (i : ℕ) (one z : Made) → call_at p i ≡ Some one → count_below (replaced p i z) + count one ≡ count_below p + count z
count_replaced nothing i one z at = absurd (cc)
count_replaced (call own inner rest) zero one z at =
    let same : record { own = own; parts = inner } ≡ one = cc in
    omega (arith, ap count same)
count_replaced (call own inner rest) (suc i) one z at = omega (arith, count_replaced rest i one z at)
count_replaced (may_begin p rest) i one z at = count_replaced rest i one z at
count_replaced (asks w rest) i one z at = count_replaced rest i one z at

count_among : (p : Parts) (i : ℕ) (one : Made) → call_at p i ≡ Some one → count one ≤ count_below p
count_among nothing i one at = absurd (cc)
count_among (call own inner rest) zero one at =
    let same : record { own = own; parts = inner } ≡ one = cc in
    omega (arith, ap count same)
count_among (call own inner rest) (suc i) one at = omega (arith, count_among rest i one at)
count_among (may_begin p rest) i one at = count_among rest i one at
count_among (asks w rest) i one at = count_among rest i one at

-- the room of all nodes but those of one call is taken, and then that of the call in its place
module _ (old whole one z : Made) (i : ℕ) (at : call_at old.parts i ≡ Some one) (parts : whole.parts ≡ replaced old.parts i z) where
  counted : count_below whole.parts + count one ≡ count_below old.parts + count z
  counted = ap (λ (p : Parts). count_below p + count one) parts ∙ count_replaced old.parts i one z at

  pub others_fail : (before after : ℕ) (e : TreeRefused) → TakesAll (count old - count one) before after (Err e) → Gives before after (Err e) whole
  others_fail before after TooLarge less = omega (arith, less, counted, count_among old.parts i one at)
  others_fail before after Memory less = tt

  pub one_fails : (before mid after : ℕ) (e : TreeRefused) → mid + (count old - count one) ≡ before → Gives mid after (Err e) z → Gives before after (Err e) whole
  one_fails before mid after TooLarge taken fails = omega (arith, taken, fails, counted, count_among old.parts i one at)
  one_fails before mid after Memory taken fails = tt

  pub one_fits : (before mid after : ℕ) → mid + (count old - count one) ≡ before → after + count z ≡ mid → after + count whole ≡ before
  one_fits before mid after taken given = omega (arith, taken, given, counted, count_among old.parts i one at)

-- ---- a looped call

module _ (m : Manifest) (X : Answers) (g : Scope) (f : Caller) (prefix : List ℕ) (place : Place) (scope : Scope) (c : Call) where
  looped_parts : (ds : List Data) → (looped m X g f prefix place scope c (Ok ds)).parts ≡ row_of (items_made m X g f prefix place scope c ds)
  looped_parts [] = refl
  looped_parts (d ∷ ds) = refl

  looped_is : (ds : List Data) (i : ℕ) (x : Data) → slice_get ds i ≡ Some x →
      looped m X g f prefix place scope c (Ok ds) ≡ loop_made place (declared_by (template_named m c.template)) (items_made m X g f prefix place scope c ds)
  looped_is [] i x found = absurd (cc)
  looped_is (d ∷ ds) i x found = refl

-- an item that was found is the one that stands there
pub item_told : (scope : Scope) (l : Loop) (place : ℕ) (x : Data) (found : Option Data) → found ≡ Some x →
    ((all : List Data) (y : Data) → items scope l ≡ Ok all → slice_get all place ≡ Some y → found ≡ Some y) → IsItemAt scope l place x
item_told scope l place x found is told = λ all y listed stands. some_same x y found is (told all y listed stands)

-- items that made something are listed
are_listed : (m : Manifest) (X : Answers) (g : Scope) (f : Caller) (prefix : List ℕ) (place : Place) (scope : Scope) (c : Call) (said : Found (List Data)) (old one : Made) (i : ℕ) →
    call_at old.parts i ≡ Some one → old ≡ looped m X g f prefix place scope c said → (ds : List Data) × (said ≡ Ok ds)
are_listed m X g f prefix place scope c (Ok ds) old one i at was = (ds, refl)
are_listed m X g f prefix place scope c (Err fault) old one i at was =
    let none : call_at (looped m X g f prefix place scope c (Err fault)).parts i ≡ Some one = sym (ap (λ (b : Made). call_at b.parts i) was) ∙ at in
    absurd (cc none)

module _ (m : Manifest) (A B : Answers) (g : Scope) (left : ℕ) (prefix : List ℕ) (place : Place) (scope : Scope) (c : Call) (l : Loop) (i : ℕ) (rest : Sels) (same : SameBut A B (place.sels ++ Item i ∷ rest)) (old one : Made)
    (at : call_at old.parts i ≡ Some one) (was : old ≡ looped m B g (calls m B g left) prefix place scope c (items scope l)) where
  all : (ds : List Data) × (items scope l ≡ Ok ds)
  all = are_listed m B g (calls m B g left) prefix place scope c (items scope l) old one i at was

  abbrev ds : List Data
  ds = all.0

  abbrev mine : ℕ → Data → Made
  mine = item_made m A g (calls m A g left) prefix place scope c

  abbrev theirs : ℕ → Data → Made
  theirs = item_made m B g (calls m B g left) prefix place scope c

  abbrev xs : List Made
  xs = items_made m A g (calls m A g left) prefix place scope c ds

  abbrev ys : List Made
  ys = items_made m B g (calls m B g left) prefix place scope c ds

  abbrev whole : Made
  whole = looped m A g (calls m A g left) prefix place scope c (items scope l)

  whole_is : whole ≡ looped m A g (calls m A g left) prefix place scope c (Ok ds)
  whole_is = ap (looped m A g (calls m A g left) prefix place scope c) all.1

  was_so : old ≡ looped m B g (calls m B g left) prefix place scope c (Ok ds)
  was_so = was ∙ ap (looped m B g (calls m B g left) prefix place scope c) all.1

  parts_were : old.parts ≡ row_of ys
  parts_were = ap (λ (b : Made). b.parts) was_so ∙ looped_parts m B g (calls m B g left) prefix place scope c ds

  stood : call_at (row_of ys) i ≡ Some one
  stood = sym (ap (λ (p : Parts). call_at p i) parts_were) ∙ at

  there : (x : Data) × (slice_get ds i ≡ Some x)
  there = none_past theirs 0 i ds one stood

  module _ (x : Data) (is_item : IsItemAt scope l i x) where
    found : slice_get ds i ≡ Some x
    found = there.1 ∙ ap Some (sym (is_item ds there.0 all.1 there.1))

    -- what the item made
    pub item_had : one ≡ theirs i x
    item_had = item_stood m B g left prefix place scope c ds i one x stood found

    rows : row_of xs ≡ replaced (row_of ys) i (mine i x)
    rows = items_other m A B g (place.sels ++ Item i ∷ rest) same left prefix place scope c i rest ds (mine i x) refl (λ y there_too. ap (λ (d : Data). mine i d) (some_same y x (slice_get ds i) there_too found))

    parts_now : whole.parts ≡ replaced old.parts i (mine i x)
    parts_now = ap (λ (b : Made). b.parts) whole_is ∙ looped_parts m A g (calls m A g left) prefix place scope c ds ∙ rows ∙ ap (λ (p : Parts). replaced p i (mine i x)) (sym parts_were)

    pub items_fail : (before after : ℕ) (e : TreeRefused) → TakesAll (count old - count one) before after (Err e) → Gives before after (Err e) whole
    items_fail before after e less = others_fail old whole one (mine i x) i at parts_now before after e less

    pub item_fails : (before mid after : ℕ) (e : TreeRefused) → mid + (count old - count one) ≡ before → Gives mid after (Err e) (mine i x) → Gives before after (Err e) whole
    item_fails before mid after e taken fails = one_fails old whole one (mine i x) i at parts_now before mid after e taken fails

    module _ (state z : Made) (is : state ≡ with_item old i z) (before mid after : ℕ) (taken : mid + (count old - count one) ≡ before) (given : (z ≡ mine i x) × (after + count (mine i x) ≡ mid)) where
      put : state ≡ with_item old i (mine i x)
      put = is ∙ ap (λ (b : Made). with_item old i b) given.0

      room : after + count whole ≡ before
      room = one_fits old whole one (mine i x) i at parts_now before mid after taken given.1

      -- the loop runs on
      pub item_put : all_finished (row_in old.parts) ≡ false → all_finished (row_in state.parts) ≡ false → (state ≡ whole) × (after + count whole ≡ before)
      item_put open_then open_now =
          let were_open : all_finished ys ≡ false = sym (ap (λ (ms : List Made). all_finished ms) (row_in_row ys)) ∙ sym (ap (λ (p : Parts). all_finished (row_in p)) parts_were) ∙ open_then in
          let are_open : all_finished (row_in (replaced old.parts i (mine i x))) ≡ false = sym (ap (λ (b : Made). all_finished (row_in b.parts)) put) ∙ open_now in
          let declared = declared_by (template_named m c.template) in
          let before_so = was_so ∙ looped_is m B g (calls m B g left) prefix place scope c ds i x found in (
            put ∙ sym (loop_other place declared xs ys old (mine i x) i before_so were_open rows are_open) ∙ sym (looped_is m A g (calls m A g left) prefix place scope c ds i x found) ∙ sym whole_is,
            room,
          )

      -- all its items are gone through
      pub items_listed : (states : List Made) (made : Made) → states ≡ row_in state.parts → made ≡ loop_made place (declared_by (template_named m c.template)) states → (made ≡ whole) × (after + count whole ≡ before)
      items_listed states made listed over =
          let every : states ≡ xs = listed ∙ ap (λ (b : Made). row_in b.parts) put ∙ ap (λ (p : Parts). row_in p) (ap (λ (p : Parts). replaced p i (mine i x)) parts_were ∙ sym rows) ∙ row_in_row xs in
          (over ∙ ap (λ (ms : List Made). loop_made place (declared_by (template_named m c.template)) ms) every ∙ sym (looped_is m A g (calls m A g left) prefix place scope c ds i x found) ∙ sym whole_is, room)

-- ---- a group of steps

-- what there is too little room for
pub group_fails : (before after : ℕ) (q : Place) (ms : List Member) (e : TreeRefused) → Gives before after (Err e) (group_made q ms) → KeepsGroup before after (Err e) q ms
group_fails before after q ms TooLarge fails = fails
group_fails before after q ms Memory fails = tt

module _ (m : Manifest) (A B : Answers) (g : Scope) (left : ℕ) (q : Place) (scope : Scope) (cs : List Call) (j : ℕ) (rest : Sels) (same : SameBut A B (q.sels ++ Step j ∷ rest)) (old one : Made)
    (at : call_at old.parts j ≡ Some one) (was : old ≡ group_made q (members (calls m B g left) q scope cs)) where
  abbrev now_made : ℕ → Call → Made
  now_made = making (calls m A g left) q scope

  abbrev ms : List Member
  ms = members (calls m A g left) q scope cs

  abbrev ns : List Member
  ns = members (calls m B g left) q scope cs

  abbrev group : Made
  group = group_made q ms

  members_were : old.parts ≡ row_of (makings ns)
  members_were = ap (λ (b : Made). b.parts) was

  had : call_at (row_of (makings ns)) j ≡ Some one
  had = sym (ap (λ (p : Parts). call_at p j) members_were) ∙ at

  named : (c : Call) × (slice_get cs j ≡ Some c)
  named = none_past (making (calls m B g left) q scope) 0 j cs one (sym (ap (λ (bs : List Made). call_at (row_of bs) j) (makings_are (calls m B g left) q scope 0 cs)) ∙ had)

  pub member_low : j < length cs
  member_low = is_low cs j named.0 named.1

  module _ (c : Call) (found : slice_get cs j ≡ Some c) where
    -- what the member made
    pub member_had : one ≡ calls m B g left (codes "steps.") (member_place q j c) scope c
    member_had = member_stood m A B (q.sels ++ Step j ∷ rest) same g left q scope cs j one c had found

    rows_now : row_of (makings ms) ≡ replaced (row_of (makings ns)) j (now_made j c)
    rows_now = members_other m A B (q.sels ++ Step j ∷ rest) same g left q scope cs j rest (now_made j c) refl (λ d there_too. ap (λ (x : Call). now_made j x) (some_same d c (slice_get cs j) there_too found))

    members_now : group.parts ≡ replaced old.parts j (now_made j c)
    members_now = rows_now ∙ ap (λ (p : Parts). replaced p j (now_made j c)) (sym members_were)

    pub member_fails : (before mid after : ℕ) (e : TreeRefused) → mid + (count old - count one) ≡ before → Gives mid after (Err e) (now_made j c) → KeepsGroup before after (Err e) q ms
    member_fails before mid after e taken fails = group_fails before after q ms e (one_fails old group one (now_made j c) j at members_now before mid after e taken fails)

    module _ (state z : Made) (is : state ≡ with_call old j z) (before mid after : ℕ) (taken : mid + (count old - count one) ≡ before) (given : (z ≡ now_made j c) × (after + count (now_made j c) ≡ mid)) where
      put_so : state ≡ with_call old j (now_made j c)
      put_so = is ∙ ap (λ (b : Made). with_call old j b) given.0

      room_left : after + count group ≡ before
      room_left = one_fits old group one (now_made j c) j at members_now before mid after taken given.1

      -- the group runs on
      pub member_put : (kept : Group) → kept.state ≡ state → all_finished (row_in old.parts) ≡ false → all_finished (row_in state.parts) ≡ false → KeepsGroup before after (Ok kept) q ms
      member_put kept keeps open_then open_now =
          let ran : IsRunning old = group_runs q ns old was open_then in
          let are_open : all_finished (row_in (replaced old.parts j (now_made j c))) ≡ false = sym (ap (λ (b : Made). all_finished (row_in b.parts)) put_so) ∙ open_now in
          let whole_so : state ≡ group = put_so ∙ sym (group_other q ms ns old j (now_made j c) was ran rows_now are_open) in
          let runs : kept.state.own.node.phase ≡ Running = ap (λ (b : Made). b.own.node.phase) (keeps ∙ put_so) ∙ ran in
          let on : is_succeeded kept.state.own.node.phase ≡ false = ap is_succeeded runs in
          ((keeps ∙ whole_so, (λ over. absurd (cc (on, over)))), room_left)

      -- all its members are gone through
      pub members_listed : (states : List Made) (kept : Group) → states ≡ row_in state.parts →
          ((bs : List Member) → map (λ (b : Member). b.0) bs ≡ cs → makings bs ≡ states → group_seen q bs kept) → KeepsGroup before after (Ok kept) q ms
      members_listed states kept listed over =
          let all : states ≡ makings ms = listed ∙ ap (λ (b : Made). row_in b.parts) put_so ∙ ap (λ (p : Parts). row_in p) (ap (λ (p : Parts). replaced p j (now_made j c)) members_were ∙ sym rows_now) ∙ row_in_row (makings ms) in
          let seen = over ms (members_calls (calls m A g left) q scope 0 cs) (sym all) in
          ((seen.0, (λ over. seen.1)), room_left)

  pub members_fail : (before after : ℕ) (e : TreeRefused) → TakesAll (count old - count one) before after (Err e) → KeepsGroup before after (Err e) q ms
  members_fail before after e less = group_fails before after q ms e (others_fail old group one (now_made j named.0) j at (members_now named.0 named.1) before after e less)
