-- Groups of steps that are made again, one after the other: in a scope in which they see what they ask for.
use Rattle.std.proofs.Common.{◌≡◌, ℕ, zero, suc, ◌+◌, ◌<◌, ◌≤◌, List, [], ◌∷◌, ◌++◌, Bool, true, false, cond, length, take, drop, Ok, Err, Some, inl, inr, refl, sym, ap, ap₂, ◌∙◌, subst, arith, codes}
use Rattle.std.specs.Prelude.{slice_get, IsTrue, is_some, if◌then◌else◌}
use Rattle.std.proofs.lemmas.List.{take_all}
use Rattle.tree_types.specs.Phases.{is_succeeded}
use Rattle.tree_types.specs.declared.phase.Phase.{Phase}
use Rattle.tree_types.specs.declared.path.Sel.TheVariants.{Group as group_sel}
use Rattle.wf_manifest.specs.declared.calls.Call.{Call}
use Rattle.wf_manifest.specs.declared.manifest.Manifest.{Manifest}
use Rattle.scopes.specs.Substitution.{Scope, value_in}
use Rattle.scopes.specs.Values.{HasValuesOf}
use Rattle.scopes.proofs.ValueIn.{over_alike, drop_place}
use Rattle.meaning.specs.declared.lines.Place.{Place}
use Rattle.meaning.specs.Answers.{Sels, Answers}
use Rattle.meaning.specs.Lines.{Made, Parts, nothing, call, may_begin, asks, row_in}
use Rattle.meaning.specs.Steps.{Caller, Member, Groups, members_at, group_made, group_phase, group_tags, group_place, groups_from, steps_phase}
use Rattle.meaning.specs.Calls.{calls}
use Rattle.locality.specs.Answered.{SameBut}
use Rattle.locality.proofs.OffPath.{groups_in_front_stay}
use Rattle.mentions.proofs.Calls.{unasked_in_groups}
use Rattle.scope_laws.specs.Agreeing.{Agree, GroupsAlike}
use Rattle.scope_laws.proofs.Bodies.{members_agree}
use Rattle.tree_state.specs.declared.refused.TreeRefused.{TreeRefused}
use Rattle.tree_state.specs.declared.refused.TreeRefused.TheVariants.{TooLarge, Memory}
use Rattle.tree_state.specs.Counting.{count}
use Rattle.tree_state.specs.Replacing.{call_at}
use Rattle.row_states.specs.Rows.{count_row}
use Rattle.tree_walk.specs.Walking.{GivesGroups, GivesRow}
use Rattle.tree_walk.specs.declared.over.Group.{Group}
use Rattle.tree_walk.proofs.Groups.{behind, groups_fail}
use Rattle.tree_walk.proofs.Rooms.{count_row_then, count_row_both, long_more}
use Rattle.tree_change.specs.declared.front.Front.{Front}
use Rattle.tree_change.specs.Inside.Groups.{group_kept, KeepsGroup, first_groups, with_group, IsSeen, IsFront, KeepsFront, SeesAlike}
use Rattle.tree_change.proofs.Calling.{alike}
use Rattle.tree_change.proofs.Fronts.{Went, groups_both, groups_stand, groups_at, groups_one, groups_stop}
use Rattle.tree_change.proofs.Given.{some_same}
use Rattle.tree_change.proofs.Keeping.{group_refused, last_fell}

take_few : {X : Type 0} (n : ℕ) (xs : List X) → length (take n xs) ≤ n
take_few zero xs = omega arith
take_few (suc n) [] = omega arith
take_few (suc n) (x ∷ xs) = omega (arith, take_few n xs)

take_long : {X : Type 0} (n : ℕ) (xs : List X) (x : X) → slice_get xs n ≡ Some x → length (take n xs) ≡ n
take_long n [] x at = absurd (cc (at))
take_long zero (y ∷ xs) x at = refl
take_long (suc n) (y ∷ xs) x at = omega (arith, take_long n xs x at)

-- a call that exists has a low position
pub call_low : (p : Parts) (j : ℕ) → IsTrue (is_some (call_at p j)) → j < length (row_in p)
call_low nothing j there = absurd (cc (there))
call_low (call own inner rest) zero there = omega arith
call_low (call own inner rest) (suc j) there = omega (arith, call_low rest j there)
call_low (may_begin p rest) j there = call_low rest j there
call_low (asks w rest) j there = call_low rest j there

-- ---- one more that Succeeded

went_by : (x : Made) (later more : Phase) (b : Bool) → is_succeeded x.own.node.phase ≡ b → is_succeeded (cond (is_succeeded x.own.node.phase) later x.own.node.phase) ≡ true → (is_succeeded later ≡ true → is_succeeded more ≡ true) →
    is_succeeded (cond (is_succeeded x.own.node.phase) more x.own.node.phase) ≡ true
went_by x later more true on went next =
    ap (λ (b : Bool). is_succeeded (cond b more x.own.node.phase)) on ∙ next (sym (ap (λ (b : Bool). is_succeeded (cond b later x.own.node.phase)) on) ∙ went)
went_by x later more false off went next =
    let fell : is_succeeded (cond (is_succeeded x.own.node.phase) later x.own.node.phase) ≡ false = ap (λ (b : Bool). is_succeeded (cond b later x.own.node.phase)) off ∙ off in
    absurd (cc (fell, went))

went_last : (xs : List Made) (g : Made) → Went xs → is_succeeded g.own.node.phase ≡ true → Went (xs ++ g ∷ [])
went_last [] g went over = ap (λ (b : Bool). is_succeeded (cond b (steps_phase []) g.own.node.phase)) over
went_last (x ∷ xs) g went over = went_by x (steps_phase xs) (steps_phase (xs ++ g ∷ [])) (is_succeeded x.own.node.phase) refl went (λ w. went_last xs g w over)

-- ---- what a group makes in a scope in which it sees what it asks for

module _ (m : Manifest) (A : Answers) (g : Scope) (left : ℕ) where
  pub members_seen : (place : Place) (i : ℕ) (here behind : Scope) (cs : List Call) → SeesAlike here behind cs → members_at (calls m A g left) place i here cs ≡ members_at (calls m A g left) place i behind cs
  members_seen place i here behind cs (inl values) = members_agree (calls m A g left) (calls m A g left) (alike m A g left) (group_place place i) here behind cs values
  members_seen place i here behind cs (inr others) = unasked_in_groups m A g left (codes "steps.") (group_place place i) here behind cs others.0 others.1

-- ---- the groups in front of the one that the path goes down into

module _ (m : Manifest) (A B : Answers) (g : Scope) (left : ℕ) (place : Place) (scope : Scope) (gs : List (List Call)) (j : ℕ) (rest : Sels) (same : SameBut A B (place.sels ++ group_sel j ∷ rest))
    (old : List Made) (was : old ≡ (groups_from (calls m B g left) place 0 scope gs).all) where
  abbrev front : Groups
  front = first_groups (calls m A g left) place scope gs j

  abbrev before : Groups
  before = first_groups (calls m B g left) place scope gs j

  stay : front ≡ before
  stay = groups_in_front_stay A B (place.sels ++ group_sel j ∷ rest) same m g left place 0 scope (take j gs) j rest refl (omega (arith, take_few j gs))

  module _ (low : j < length old) where
    lower : j < length (groups_from (calls m B g left) place 0 scope gs).all
    lower = omega (arith, ap length was)

    pub front_calls : j < length gs
    front_calls = (groups_stand (calls m B g left) place j 0 scope gs lower).low

    pub front_shared : take j old ≡ front.all
    front_shared = ap (take j) was ∙ (groups_stand (calls m B g left) place j 0 scope gs lower).first ∙ ap (λ (x : Groups). x.all) (sym stay)

    pub front_went : Went front.all
    front_went = ap (λ (x : Groups). is_succeeded (steps_phase x.all)) stay ∙ (groups_stand (calls m B g left) place j 0 scope gs lower).went

    pub front_long : length front.all ≡ j
    front_long = ap (λ (x : Groups). length x.all) stay ∙ (groups_stand (calls m B g left) place j 0 scope gs lower).long

    -- with no group in front, the scope is that of the template
    pub front_alone : front.all ≡ [] → front.scope ≡ scope
    front_alone none =
        let first : j ≡ 0 = omega (arith, front_long, ap length none) in
        ap (λ (k : ℕ). (first_groups (calls m A g left) place scope gs k).scope) first

    pub front_fails : (room after : ℕ) (e : TreeRefused) → GivesRow room after (Err e) (take j old) → KeepsFront room after (Err e) scope (groups_from (calls m A g left) place 0 scope gs)
    front_fails room after TooLarge fails =
        let shared = ap count_row front_shared in
        let whole = ap (λ (x : Groups). count_row x.all) (groups_both (calls m A g left) place j 0 scope gs front_went) in
        let both = count_row_both front.all (groups_from (calls m A g left) place (0 + length (take j gs)) front.scope (drop j gs)).all in
        omega (arith, fails, shared, whole, both)
    front_fails room after Memory fails = tt

    -- the group itself is what its members made, in any scope in which it sees what it asks for
    pub group_stood : (i : ℕ) (cs : List Call) (here : Scope) (one : Made) → i ≡ j → slice_get gs i ≡ Some cs → slice_get old j ≡ Some one → SeesAlike here (first_groups (calls m A g left) place scope gs i).scope cs →
        one ≡ group_made (group_place place i) (members_at (calls m B g left) place i here cs)
    group_stood i cs here one it at there sees =
        let now : (first_groups (calls m A g left) place scope gs i).scope ≡ before.scope = ap (λ (k : ℕ). (first_groups (calls m A g left) place scope gs k).scope) it ∙ ap (λ (x : Groups). x.scope) stay in
        let found : slice_get gs j ≡ Some cs = subst (λ (k : ℕ). slice_get gs k ≡ Some cs) it at in
        let stood = groups_at (calls m B g left) place j 0 scope gs cs found lower in
        let turn : 0 + j ≡ i = omega (arith, it) in
        let node : one ≡ group_made (group_place place (0 + j)) (members_at (calls m B g left) place (0 + j) before.scope cs) =
        some_same one (group_made (group_place place (0 + j)) (members_at (calls m B g left) place (0 + j) before.scope cs)) (slice_get old j) there (ap (λ (xs : List Made). slice_get xs j) was ∙ stood) in
        node
        ∙ ap (λ (k : ℕ). group_made (group_place place k) (members_at (calls m B g left) place k before.scope cs)) turn
        ∙ ap (λ (s : Scope). group_made (group_place place i) (members_at (calls m B g left) place i s cs)) (sym now)
        ∙ ap (λ (ms : List Member). group_made (group_place place i) ms) (sym (members_seen m B g left place i here (first_groups (calls m A g left) place scope gs i).scope cs sees))

-- ---- one group more

module _ (called : Caller) (place : Place) (scope : Scope) (gs : List (List Call)) where
  abbrev first : ℕ → Groups
  first n = first_groups called place scope gs n

  abbrev whole : Groups
  whole = groups_from called place 0 scope gs

  pub groups_end : (i : ℕ) (front : Front) (room after : ℕ) → length gs ≤ i → IsFront front scope (first i) → after + count_row (first i).all ≡ room → KeepsFront room after (Ok front) scope whole
  groups_end i front room after past is taken =
      subst (λ (fs : List (List Call)). KeepsFront room after (Ok front) scope (groups_from called place 0 scope fs)) (take_all i gs past) ((is.0, (λ over. is.1)), taken)

  module _ (agree : Agree called called) (i : ℕ) (cs : List Call) (at : slice_get gs i ≡ Some cs) (went : Went (first i).all) where
    abbrev ms : List Member
    ms = members_at called place i (first i).scope cs

    abbrev g : Made
    g = group_made (group_place place i) ms

    abbrev one_more : ℕ → Groups
    one_more k = record {
      all = (first i).all ++ group_made (group_place place k) (members_at called place k (first i).scope cs) ∷ [];
      scope = group_tags (members_at called place k (first i).scope cs) ++ (first i).scope;
    }

    turn : 0 + i ≡ i
    turn = omega arith

    next_is : first (i + 1) ≡ one_more i
    next_is = let next : i + 1 ≡ suc i = omega arith in ap first next ∙ groups_one called place i 0 scope gs cs at went ∙ ap one_more turn

    refused : (room mid after : ℕ) (e : TreeRefused) → mid + count_row (first i).all ≡ room → KeepsGroup mid after (Err e) (group_place place i) ms → GivesGroups room after (Err e) whole
    refused room mid after e taken fails =
        let there : 0 + length (take i gs) ≡ i = omega (arith, take_long i gs cs at) in
        let both = groups_both called place i 0 scope gs went ∙ ap (λ (k : ℕ). behind (first i).all (groups_from called place k (first i).scope (drop i gs))) there in
        let told : GroupsAlike (behind (first i).all (groups_from called place i (first i).scope (drop i gs))) whole =
        record { all = ap (λ (x : Groups). x.all) (sym both); scope = λ tag. ap (λ (x : Groups). value_in x.scope tag) (sym both) } in
        groups_fail called agree place scope gs (first i).all i (first i).scope cs (drop i gs) (drop_place gs i cs at) told (group_place place i) room mid after e refl taken (group_refused mid after (group_place place i) ms e fails)

    -- there is too little room for the group
    pub group_fails : (room mid after : ℕ) (e : TreeRefused) → mid + count_row (first i).all ≡ room → KeepsGroup mid after (Err e) (group_place place i) ms → KeepsFront room after (Err e) scope whole
    group_fails room mid after TooLarge taken fails = refused room mid after TooLarge taken fails
    group_fails room mid after Memory taken fails = tt

    module _ (front new : Front) (group : Group) (added : new ≡ with_group front group) (is : IsFront front scope (first i)) (kept : group_kept (group_place place i) ms group) (b : Bool) (phase : is_succeeded group.state.own.node.phase ≡ b) where
      states_more : (with_group front group).row.states ≡ (one_more i).all
      states_more = ap₂ (λ (xs : List Made) (x : Made). xs ++ x ∷ []) is.0 kept.0

      seen_more : (tagged : Bool) (here : Scope) → IsSeen tagged here scope (first i).scope → HasValuesOf group.tags (group_tags ms) → IsSeen tagged (if tagged then group.tags ++ here else here) scope (one_more i).scope
      seen_more true here seen told = over_alike (group_tags ms) (first i).scope group.tags here told seen
      seen_more false here seen told = seen

      phase_here : is_succeeded g.own.node.phase ≡ b
      phase_here = ap (λ (x : Made). is_succeeded x.own.node.phase) (sym kept.0) ∙ phase

      -- the next one follows
      pub next_front : b ≡ true → IsFront new scope (first (i + 1))
      next_front over =
          subst (λ (f : Front). IsFront f scope (first (i + 1))) (sym added)
          (subst (λ (x : Groups). IsFront (with_group front group) scope x) (sym next_is)
          (states_more, seen_more front.tagged front.row.scope is.1 (kept.1 (phase ∙ over))))

      pub next_went : b ≡ true → Went (first (i + 1)).all
      next_went over = ap (λ (x : Groups). is_succeeded (steps_phase x.all)) next_is ∙ went_last (first i).all g went (phase_here ∙ over)

      pub next_long : length (first i).all ≡ i → length (first (i + 1)).all ≡ i + 1
      next_long long = ap (λ (x : Groups). length x.all) next_is ∙ long_more (first i).all g i long

      pub next_room : (room mid after : ℕ) → mid + count_row (first i).all ≡ room → after + count g ≡ mid → after + count_row (first (i + 1)).all ≡ room
      next_room room mid after taken more = omega (arith, ap (λ (x : Groups). count_row x.all) next_is, count_row_then (first i).all g, taken, more)

      -- it is the last one
      pub last_front : b ≡ false → (room mid after : ℕ) → mid + count_row (first i).all ≡ room → after + count g ≡ mid → KeepsFront room after (Ok new) scope whole
      last_front stops room mid after taken more =
          let fell : is_succeeded (group_phase ms) ≡ false = phase_here ∙ stops in
          let fell_there : is_succeeded (group_phase (members_at called place (0 + i) (first i).scope cs)) ≡ false = ap (λ (k : ℕ). is_succeeded (group_phase (members_at called place k (first i).scope cs))) turn ∙ fell in
          let whole_is : whole ≡ one_more i = groups_stop called place i 0 scope gs cs at went fell_there ∙ ap one_more turn in
          let not_all : is_succeeded (steps_phase (one_more i).all) ≡ false = last_fell (first i).all g fell in
          subst (λ (f : Front). KeepsFront room after (Ok f) scope whole) (sym added)
          (subst (λ (x : Groups). KeepsFront room after (Ok (with_group front group)) scope x) (sym whole_is)
          ((states_more, (λ over. absurd (cc (not_all, over)))), omega (arith, count_row_then (first i).all g, taken, more)))
