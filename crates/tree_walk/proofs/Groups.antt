-- Groups and their members, one after the other.
use Rattle.std.proofs.Common.{◌≡◌, ℕ, suc, ◌+◌, ◌<◌, ◌≤◌, Bool, true, false, List, [], ◌∷◌, ◌++◌, append_assoc, length, get_or, drop, drop-cons, map, Ok, Err, refl, sym, ap, ◌∙◌, subst, arith, codes}
use Rattle.std.proofs.lemmas.List.{append-nil, drop_all}
use Rattle.tree_types.specs.Phases.{is_succeeded}
use Rattle.wf_manifest.specs.declared.calls.Call.{Call}
use Rattle.scopes.specs.Substitution.{Scope, value_in}
use Rattle.scopes.proofs.ValueIn.{over_alike}
use Rattle.meaning.specs.declared.lines.Place.{Place}
use Rattle.meaning.specs.Lines.{numbered, Made}
use Rattle.meaning.specs.Steps.{Caller, Member, Groups, member, member_place, members, members_at, makings, group_made, group_phase, group_tags, group_place, groups_by, groups_from}
use Rattle.tree_state.specs.declared.refused.TreeRefused.{TreeRefused}
use Rattle.tree_state.specs.declared.refused.TreeRefused.TheVariants.{TooLarge, Memory}
use Rattle.tree_state.specs.Counting.{count}
use Rattle.row_states.specs.Rows.{count_row}
use Rattle.scope_laws.specs.Agreeing.{Agree, GroupsAlike}
use Rattle.scope_laws.proofs.Bodies.{groups_agree}
use Rattle.tree_walk.specs.declared.over.Row.{Row}
use Rattle.tree_walk.specs.declared.over.Group.{Group}
use Rattle.tree_walk.specs.Walking.{GivesGroup, GivesGroups, group_seen}
use Rattle.tree_walk.proofs.Rooms.{count_row_both, count_row_then}

-- groups behind others
abbrev pub behind : List Made → Groups → Groups
behind before groups = record groups { all = before ++ groups.all }

-- what a member makes
abbrev pub member_at : Caller → Place → Scope → ℕ → Call → Made
member_at called group scope j c = called (codes "steps.") (member_place group j c) scope c

pub members_row : (called : Caller) (group : Place) (scope : Scope) (j : ℕ) (cs : List Call) → makings (numbered (member called group scope) j cs) ≡ numbered (member_at called group scope) j cs
members_row called group scope j [] = refl
members_row called group scope j (c ∷ cs) = ap (λ ms. member_at called group scope j c ∷ ms) (members_row called group scope (suc j) cs)

pub members_calls : (called : Caller) (group : Place) (scope : Scope) (j : ℕ) (cs : List Call) → map (λ (m : Member). m.0) (numbered (member called group scope) j cs) ≡ cs
members_calls called group scope j [] = refl
members_calls called group scope j (c ∷ cs) = ap (λ ds. c ∷ ds) (members_calls called group scope (suc j) cs)

pub turn : {X : Type 0} (items xs : List X) (i k : ℕ) (x : X) → items ≡ xs → i ≡ k → k < length items → x ≡ get_or items k x → drop i xs ≡ x ∷ drop (i + 1) xs
turn items xs i k x same counted lt is =
    let next : suc i ≡ i + 1 = omega arith in
    let here : x ≡ get_or xs i x = subst (λ (n : ℕ). x ≡ get_or xs n x) (sym counted) (subst (λ ys. x ≡ get_or ys k x) same is) in
    let l : i < length xs = subst (λ (n : ℕ). n < length xs) (sym counted) (subst (λ ys. k < length ys) same lt) in
    drop-cons xs i x l ∙ ap (λ y. y ∷ drop (suc i) xs) (sym here) ∙ ap (λ n. x ∷ drop n xs) next

pub member_here : (called : Caller) (group : Place) (scope : Scope) (j : ℕ) (c : Call) (at : Place) → at ≡ member_place group j c → called (codes "steps.") at scope c ≡ member_at called group scope j c
member_here called group scope j c at is = ap (λ (p : Place). called (codes "steps.") p scope c) is

-- ---- a group over its members

pub group_done : (before mid after : ℕ) (place : Place) (ms : List Member) (states : List Made) (g : Group) → before ≡ suc mid → (states ≡ makings ms) × (after + count_row (makings ms) ≡ mid) → group_seen place ms g →
    GivesGroup before after (Ok g) place ms
group_done before mid after place ms states g taken given seen = (seen, omega (arith, taken, given.1))

-- ---- groups, one after the other

module _ (called : Caller) (agree : Agree called called) (place : Place) (scope : Scope) (gs : List (List Call)) where
  abbrev whole : Groups
  whole = groups_from called place 0 scope gs

  abbrev Told : List Made → ℕ → Scope → List (List Call) → Type 0
  Told states i here rest = GroupsAlike (behind states (groups_from called place i here rest)) whole

  pub groups_begin : (row : Row) → row ≡ record { states = []; scope = scope } → Told row.states 0 row.scope gs
  groups_begin row is = subst (λ (r : Row). Told r.states 0 r.scope gs) (sym is) (record { all = refl; scope = λ tag. refl })

  pub groups_done : (row : Row) (i before after : ℕ) → length gs ≤ i → Told row.states i row.scope (drop i gs) → after + count_row row.states ≡ before → GivesGroups before after (Ok row) whole
  groups_done row i before after past told room =
      let end = subst (λ rest. Told row.states i row.scope rest) (drop_all i gs past) told in
      let all : row.states ≡ whole.all = sym (append-nil row.states) ∙ end.all in
      (all, end.scope, omega (arith, ap count_row all, room))

  module _ (states : List Made) (i : ℕ) (here : Scope) (cs : List Call) (rest : List (List Call)) (parts : rest ≡ cs ∷ drop (i + 1) gs) (told : Told states i here rest) where
    abbrev ms : List Member
    ms = members_at called place i here cs

    abbrev g : Made
    g = group_made (group_place place i) ms

    abbrev later : Scope → Groups
    later inner = groups_from called place (suc i) inner (drop (i + 1) gs)

    told_here : GroupsAlike (behind states (groups_by g (group_tags ms) here later (is_succeeded (group_phase ms)))) whole
    told_here = subst (λ xs. Told states i here xs) parts told

    told_at : (b : Bool) → is_succeeded (group_phase ms) ≡ b → GroupsAlike (behind states (groups_by g (group_tags ms) here later b)) whole
    told_at b is = subst (λ x. GroupsAlike (behind states (groups_by g (group_tags ms) here later x)) whole) is told_here

    first_counts : (b : Bool) → count_row states + count g ≤ count_row (behind states (groups_by g (group_tags ms) here later b)).all
    first_counts true = omega (arith, count_row_both states (g ∷ (later (group_tags ms ++ here)).all))
    first_counts false = omega (arith, count_row_both states (g ∷ []))

    pub groups_fail : (at : Place) (before mid after : ℕ) (e : TreeRefused) → at ≡ group_place place i → mid + count_row states ≡ before →
        GivesGroup mid after (Err e) at (members called at here cs) → GivesGroups before after (Err e) whole
    groups_fail at before mid after TooLarge is room fails =
        let same : count (group_made at (members called at here cs)) ≡ count g = ap (λ (p : Place). count (group_made p (members called p here cs))) is in
        let less = first_counts (is_succeeded (group_phase ms)) in
        omega (arith, same, less, ap count_row told_here.all, room, fails)
    groups_fail at before mid after Memory is room fails = tt

    module _ (at : Place) (is : at ≡ group_place place i) (group : Group) (row : Row) (added : row ≡ record { states = states ++ group.state ∷ []; scope = group.tags ++ here })
        (seen : group_seen at (members called at here cs) group) (b : Bool) (phase : is_succeeded group.state.own.node.phase ≡ b) where
      seen_here : group_seen (group_place place i) ms group
      seen_here = subst (λ (p : Place). group_seen p (members called p here cs) group) is seen

      phase_here : is_succeeded (group_phase ms) ≡ b
      phase_here = ap (λ (m : Made). is_succeeded m.own.node.phase) (sym seen_here.0) ∙ phase

      pub groups_room : (before mid after : ℕ) → mid + count_row states ≡ before → after + count (group_made at (members called at here cs)) ≡ mid → after + count_row row.states ≡ before
      groups_room before mid after room more =
          let same : count group.state ≡ count (group_made at (members called at here cs)) = ap count seen.0 in
          omega (arith, ap (λ (r : Row). count_row r.states) added, count_row_then states group.state, same, room, more)

      pub groups_next : b ≡ true → Told row.states (i + 1) row.scope (drop (i + 1) gs)
      groups_next goes_on =
          let step : suc i ≡ i + 1 = omega arith in
          let before = told_at true (phase_here ∙ goes_on) in
          let again = groups_agree called called agree place (suc i) (group.tags ++ here) (group_tags ms ++ here) (drop (i + 1) gs) (over_alike (group_tags ms) here group.tags here seen_here.1 (λ tag. refl)) in
          let all : (states ++ group.state ∷ []) ++ (later (group.tags ++ here)).all ≡ whole.all =
          append_assoc states (group.state ∷ []) (later (group.tags ++ here)).all
          ∙ ap (λ m. states ++ m ∷ (later (group.tags ++ here)).all) seen_here.0
          ∙ ap (λ ns. states ++ g ∷ ns) again.all
          ∙ before.all in
          let told_later : Told (states ++ group.state ∷ []) (suc i) (group.tags ++ here) (drop (i + 1) gs) = record { all = all; scope = λ tag. again.scope tag ∙ before.scope tag } in
          subst (λ (r : Row). Told r.states (i + 1) r.scope (drop (i + 1) gs)) (sym added)
          (subst (λ (n : ℕ). Told (states ++ group.state ∷ []) n (group.tags ++ here) (drop (i + 1) gs)) step told_later)

      pub groups_stop : b ≡ false → (before mid after : ℕ) → mid + count_row states ≡ before → after + count (group_made at (members called at here cs)) ≡ mid → GivesGroups before after (Ok row) whole
      groups_stop stops before mid after room more =
          let end = told_at false (phase_here ∙ stops) in
          let all : row.states ≡ whole.all = ap (λ (r : Row). r.states) added ∙ ap (λ m. states ++ m ∷ []) seen_here.0 ∙ end.all in
          let scope_here = over_alike (group_tags ms) here group.tags here seen_here.1 (λ tag. refl) in
          (all, (λ tag. ap (λ (r : Row). value_in r.scope tag) added ∙ scope_here tag ∙ end.scope tag), omega (arith, ap count_row all, groups_room before mid after room more))
