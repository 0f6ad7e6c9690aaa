-- A board of all tasks tells how the DAG ends.
use Rattle.std.proofs.Common.{◌≡◌, ℕ, zero, suc, ◌+◌, ◌<◌, List, [], ◌∷◌, ◌++◌, length, map, get_or, Bool, true, false, not, ◌&&◌, Option, Some, None, refl, sym, ap, ◌∙◌, subst, arith}
use Rattle.std.specs.Prelude.{slice_get, if◌then◌else◌}
use Rattle.std.proofs.lemmas.List.{ext_get_or, length-map}
use Rattle.std.proofs.lemmas.Option.{slice_get_within}
use Rattle.tree_types.specs.declared.phase.Phase.{Phase}
use Rattle.tree_types.specs.declared.phase.Phase.TheVariants.{Running}
use Rattle.wf_manifest.specs.declared.calls.Task.{Task}
use Rattle.wf_manifest.specs.declared.calls.Dag.{Dag}
use Rattle.scopes.specs.Substitution.{Scope}
use Rattle.meaning.specs.declared.lines.Place.{Place}
use Rattle.meaning.specs.Answers.{Answers}
use Rattle.meaning.specs.Lines.{numbered, Parts, nothing, call, may_begin, asks, Made, then_parts}
use Rattle.meaning.specs.Steps.{Caller}
use Rattle.meaning.specs.Dags as dags
use Rattle.meaning.specs.Dags.{Names, Standing, waiting, ready, exists, is_existing, is_ready, branch_of, own_tags, look, Standings, standing, standings, target_names, targets, dag_over, dag_phase, task_place, task_then, tasks_below, dag_tags}
use Rattle.growth.specs.Rounds.{RoundsSettle}
use Rattle.dag_plan.specs.declared.plan.DagPlan.{DagPlan}
use Rattle.dag_plan.specs.Order.{first}
use Rattle.dag_plan.specs.Plans.{AreAt, IsPlan}
use Rattle.dag_template.specs.declared.stands.Stand.{Stand}
use Rattle.dag_template.specs.Stands.{sight, waits}
use Rattle.dag_template.specs.Following.{worst_target, is_doomed, is_over, phase_seen}
use Rattle.dag_template.proofs.Places.{first_low}
use Rattle.dag_template.proofs.StepSeen.{failed_seen, worst_seen, rests_seen, readies_seen}
use Rattle.dag_board.specs.declared.board.Board.{Board}
use Rattle.dag_board.specs.declared.ending.DagEnd.{DagEnd}
use Rattle.dag_board.specs.Boards.{stood, made_of, stand_at, state_at, IsBoard}
use Rattle.dag_board.specs.Ends.{Ends}
use Rattle.dag_board.specs.Inside.Befores.{made_tags}
use Rattle.dag_board.specs.Inside.Parts.{or_running, part_then, parts_from, tags_from}
use Rattle.dag_board.proofs.Lookups.{look_stood, stood_is, rows_are, long}

seen_at : (ss : Standings) (p : ℕ) → get_or (map (λ s. sight s.1) ss) p waits ≡ sight (stood ss p)
seen_at [] p = refl
seen_at (s ∷ ss) zero = refl
seen_at (s ∷ ss) (suc p) = seen_at ss p

phase_told : (over : Bool) (p : Phase) → or_running (if over then Some p else None) ≡ (if over then p else Running)
phase_told true p = refl
phase_told false p = refl

part_is : (doomed : Bool) (at : Place) (x : Standing) (more : Parts) → part_then (not doomed && is_ready x) at (made_of x) more ≡ task_then doomed at x more
part_is doomed at (exists m branch seen) more = refl
part_is true at ready more = refl
part_is false at ready more = refl
part_is true at waiting more = refl
part_is false at waiting more = refl

tags_is : (n : List ℕ) (x : Standing) → made_tags n (made_of x) ≡ own_tags n x
tags_is n waiting = refl
tags_is n ready = refl
tags_is n (exists m branch seen) = refl

module _ (d : Dag) (plan : DagPlan) (p : IsPlan d plan) (b : Board) (settle : RoundsSettle) (A : Answers) (called : Caller) (place : Place) (scope : Scope) (shown : IsBoard A called place scope d plan.order b) where
  abbrev ss : Standings
  ss = standings A called place scope d

  all_stand : (q : ℕ) → q < length d.tasks → stand_at b q ≡ sight (stood ss q)
  all_stand q low = (shown.shown q (p.order.whole q low)).stand

  all_state : (q : ℕ) → q < length d.tasks → state_at b q ≡ made_of (stood ss q)
  all_state q low = (shown.shown q (p.order.whole q low)).state

  pub stands_are : b.stands.items ≡ map (λ s. sight s.1) ss
  stands_are =
      ext_get_or waits b.stands.items (map (λ s. sight s.1) ss)
      (shown.fits.stands ∙ sym (length-map ss (λ s. sight s.1) ∙ long A called place scope d settle p.ranked))
      (λ q low. all_stand q (omega (arith, low, shown.fits.stands)) ∙ sym (seen_at ss q))

  abbrev goals : List Standing
  goals = map (look ss) (target_names d)

  found_are : (ns : Names) (qs : List ℕ) → AreAt d.tasks ns qs → map (λ q. get_or b.stands.items q waits) qs ≡ map sight (map (look ss) ns)
  found_are [] [] at = refl
  found_are [] (q ∷ qs) at = absurd cc
  found_are (n ∷ ns) [] at = absurd cc
  found_are (n ∷ ns) (q ∷ qs) at =
      let here : first d.tasks n ≡ Some q = cc at in
      let rest : map (first d.tasks) ns ≡ map Some qs = cc at in
      let one : stand_at b q ≡ sight (look ss n) =
      all_stand q (first_low d.tasks n q here) ∙ sym (ap sight (look_stood A called place scope d settle p.ranked n q here)) in
      λ i. one i ∷ found_are ns qs rest i

  pub targets_are : map (λ q. get_or b.stands.items q waits) plan.targets ≡ map sight goals
  targets_are = found_are (target_names d) plan.targets p.targets

  pub doomed_is : is_doomed d.fail_fast (map sight goals) ≡ dags.is_doomed d ss
  doomed_is = ap (λ (c : Bool). d.fail_fast && c) (failed_seen goals)

  pub phase_is : or_running (phase_seen (dags.is_doomed d ss) (map (λ s. sight s.1) ss) (map sight goals)) ≡ dag_phase d ss
  phase_is =
      let over : is_over (dags.is_doomed d ss) (map (λ s. sight s.1) ss) ≡ dag_over d ss =
      λ i. rests_seen ss i && not (not (dags.is_doomed d ss) && readies_seen ss i) in
      phase_told (is_over (dags.is_doomed d ss) (map (λ s. sight s.1) ss)) (worst_target (map sight goals))
      ∙ (λ i. if over i then worst_seen goals i else Running)

  pub end_told :
      (end : DagEnd) (stands found : List Stand) → stands ≡ b.stands.items →
      found ≡ map (λ q. get_or b.stands.items q waits) plan.targets → end.doomed ≡ is_doomed d.fail_fast found →
      end.phase ≡ or_running (phase_seen end.doomed stands found) → Ends A called place scope d end
  end_told end stands found stands_is found_is doomed phase =
      let doom : end.doomed ≡ dags.is_doomed d ss =
      doomed ∙ ap (is_doomed d.fail_fast) (found_is ∙ targets_are) ∙ doomed_is in
      let all : stands ≡ map (λ s. sight s.1) ss = stands_is ∙ stands_are in
      let few : found ≡ map sight goals = found_is ∙ targets_are in
      record { doomed = doom; phase = phase ∙ (λ i. or_running (phase_seen (doom i) (all i) (few i))) ∙ phase_is }

  -- ---- the tasks one by one

  abbrev by_all : ℕ → Task → Standing
  by_all i t = standing A called place scope d (look ss) i t

  abbrev rows : ℕ → List Task → Standings
  rows i us = numbered (λ j t. (t, by_all j t)) i us

  record ShowsOne (i : ℕ) (t : Task) : Type 0 where
    state : state_at b i ≡ made_of (by_all i t)
    ready : (stand_at b i).ready ≡ is_ready (by_all i t)

  abbrev AllShown : ℕ → List Task → Type 0
  AllShown i [] = Unit {0}
  AllShown i (t ∷ us) = ShowsOne i t × AllShown (suc i) us

  shown_from : (i : ℕ) (us : List Task) → ((q : ℕ) (t : Task) → slice_get us q ≡ Some t → ShowsOne (i + q) t) → AllShown i us
  shown_from i [] h = tt
  shown_from i (t ∷ us) h =
      let here : i + 0 ≡ i = omega arith in (
        subst (λ (x : ℕ). ShowsOne x t) here (h 0 t refl),
        shown_from (suc i) us (λ q u at. (let next : i + suc q ≡ suc i + q = omega arith in subst (λ (x : ℕ). ShowsOne x u) next (h (suc q) u at))),
      )

  all_shown : AllShown 0 d.tasks
  all_shown = shown_from 0 d.tasks one
    where
      one : (q : ℕ) (t : Task) → slice_get d.tasks q ≡ Some t → ShowsOne (0 + q) t
      one q t at =
          let here : q ≡ 0 + q = omega arith in
          let low : q < length d.tasks = slice_get_within d.tasks q t at in
          let is : stood ss q ≡ by_all q t = stood_is A called place scope d settle p.ranked q t at in
          subst (λ (x : ℕ). ShowsOne x t) here
          (record {
            state = all_state q low ∙ ap made_of is;
            ready = ap (λ (s : Stand). s.ready) (all_stand q low) ∙ ap is_ready is;
          })

  parts_by : (doomed : Bool) (i : ℕ) (us : List Task) → AllShown i us → parts_from doomed place b i us ≡ tasks_below doomed place i (rows i us)
  parts_by doomed i [] h = refl
  parts_by doomed i (t ∷ us) h =
      (λ j. part_then (not doomed && h.0.ready j) (task_place place i t) (h.0.state j) (parts_by doomed (suc i) us h.1 j))
      ∙ part_is doomed (task_place place i t) (by_all i t) (tasks_below doomed place (suc i) (rows (suc i) us))

  pub parts_are : (doomed : Bool) → parts_from doomed place b 0 d.tasks ≡ tasks_below doomed place 0 ss
  parts_are doomed =
      parts_by doomed 0 d.tasks all_shown
      ∙ sym (ap (λ (xs : Standings). tasks_below doomed place 0 xs) (rows_are A called place scope d settle p.ranked))

  tags_by : (i : ℕ) (us : List Task) → AllShown i us → tags_from b i us ≡ dag_tags (rows i us)
  tags_by i [] h = refl
  tags_by i (t ∷ us) h =
      let one : made_tags t.call.name (state_at b i) ≡ own_tags t.call.name (by_all i t) =
      ap (made_tags t.call.name) h.0.state ∙ tags_is t.call.name (by_all i t) in
      λ j. one j ++ tags_by (suc i) us h.1 j

  pub tags_are : tags_from b 0 d.tasks ≡ dag_tags ss
  tags_are = tags_by 0 d.tasks all_shown ∙ sym (ap dag_tags (rows_are A called place scope d settle p.ranked))

-- ---- parts behind parts

pub then_nothing : (x : Parts) → then_parts x nothing ≡ x
then_nothing nothing = refl
then_nothing (call own inner rest) = ap (call own inner) (then_nothing rest)
then_nothing (may_begin q rest) = ap (may_begin q) (then_nothing rest)
then_nothing (asks w rest) = ap (asks w) (then_nothing rest)

then_assoc : (x y z : Parts) → then_parts (then_parts x y) z ≡ then_parts x (then_parts y z)
then_assoc nothing y z = refl
then_assoc (call own inner rest) y z = ap (call own inner) (then_assoc rest y z)
then_assoc (may_begin q rest) y z = ap (may_begin q) (then_assoc rest y z)
then_assoc (asks w rest) y z = ap (asks w) (then_assoc rest y z)

part_apart : (begins : Bool) (at : Place) (s : Option Made) (more : Parts) → then_parts (part_then begins at s nothing) more ≡ part_then begins at s more
part_apart begins at (Some m) more = refl
part_apart true at None more = refl
part_apart false at None more = refl

-- one part more
pub part_more :
    (x : Parts) (begins : Bool) (at : Place) (s : Option Made) (more : Parts) →
    then_parts (then_parts x (part_then begins at s nothing)) more ≡ then_parts x (part_then begins at s more)
part_more x begins at s more = then_assoc x (part_then begins at s nothing) more ∙ ap (then_parts x) (part_apart begins at s more)
