-- The tags of the tasks before a task.
use Rattle.std.proofs.Common.{◌≡◌, ℕ, zero, suc, ◌<◌, List, [], ◌∷◌, ◌++◌, length, map, Bool, true, false, cond, Option, Some, None, not, ◌||◌, refl, sym, ap, ◌∙◌, subst, inl, inr, arith}
use Rattle.std.specs.Prelude.{flat_map, slice_get}
use Rattle.std.specs.List.{Contains, list_all}
use Rattle.wf_manifest.specs.declared.calls.Task.{Task}
use Rattle.wf_manifest.specs.declared.calls.Dag.{Dag}
use Rattle.depends_expr.specs.Expression.{Expression}
use Rattle.depends_expr.specs.Truth.{truth, named}
use Rattle.scopes.specs.Substitution.{Scope}
use Rattle.scopes.specs.Values.{HasValuesOf}
use Rattle.scopes.proofs.ValueIn.{append_alike, alike_trans, over_alike}
use Rattle.task_order.specs.Orders.{row, waited}
use Rattle.task_order.proofs.Among.{Among}
use Rattle.meaning.specs.declared.lines.Place.{Place}
use Rattle.meaning.specs.Answers.{Answers}
use Rattle.meaning.specs.Steps.{Caller}
use Rattle.meaning.specs.Dags.{Names, awaited, named_by, parents, is_meant, is_over, is_existing, result_of, Standing, waiting, ready, exists, own_tags, tags_up_to, tags_before, task_place, Look, look, free_by, decided_by, waits_by, meant, meant_by, standing, Standings, standings}
use Rattle.growth.specs.Rounds.{RoundsSettle}
use Rattle.dag_plan.specs.declared.plan.DagPlan.{DagPlan}
use Rattle.dag_plan.specs.Order.{first}
use Rattle.dag_plan.specs.Plans.{AreAt, IsPlan}
use Rattle.dag_plan.proofs.Positions.{at_first}
use Rattle.dag_template.specs.declared.stands.Stand.{Stand}
use Rattle.dag_template.proofs.Ordered.{task_at}
use Rattle.dag_board.specs.declared.board.Board.{Board}
use Rattle.dag_board.specs.Boards.{stood, name_at, made_of, stand_at, state_at, IsBoard}
use Rattle.dag_board.specs.Inside.Befores.{place_in, parents_at, up_to, ancestors, made_tags, board_tags}
use Rattle.dag_board.proofs.Lookups.{look_stood, stood_is, named_at}
use Rattle.dag_board.proofs.Values.{alike_refl, alike_is, all_append, firsts_alike, waited_alike}
use Rattle.dag_board.proofs.Reaching.{rows_within, rows_ordered}
use Rattle.dag_board.proofs.Upwards.{row_before, row_low, up_is, place_low}

-- the tags of the tasks at these positions
abbrev pub tags_at : List Task → Standings → List ℕ → Scope
tags_at ts ss ps = flat_map (λ p. own_tags (name_at ts p) (stood ss p)) ps

-- the tags of the tasks before a task that exists
abbrev pub seen_of : Standing → Scope
seen_of (exists m branch seen) = seen
seen_of _ = []

made_is : (n : List ℕ) (x : Standing) → made_tags n (made_of x) ≡ own_tags n x
made_is n waiting = refl
made_is n ready = refl
made_is n (exists m branch seen) = refl

split_up : (n : List ℕ) (x : Standing) → own_tags n x ++ seen_of x ≡ tags_up_to n x
split_up n waiting = refl
split_up n ready = refl
split_up n (exists m branch seen) = refl

-- a task that exists sees the tags of its parents and of their ancestors
module _ (A : Answers) (called : Caller) (place : Place) (scope : Scope) (d : Dag) (at : Look) (i : ℕ) (t : Task) where
  abbrev seen_if : Standing → Scope → Scope
  seen_if s seen = cond (is_existing s) seen []

  free_sees : (seen : Scope) (c : Bool) → seen_of (free_by A called place scope d seen i t c) ≡ seen_if (free_by A called place scope d seen i t c) seen
  free_sees seen false = refl
  free_sees seen true = refl

  decided_sees : (e : Expression) (c : Bool) → seen_of (decided_by A called place scope d at i t e c) ≡ seen_if (decided_by A called place scope d at i t e c) (tags_before at (named e))
  decided_sees e false = refl
  decided_sees e true = free_sees (tags_before at (named e)) (not d.fail_fast || A.begun (task_place place i t).sels)

  waits_sees : (e : Expression) (c : Bool) → seen_of (waits_by A called place scope d at i t e c) ≡ seen_if (waits_by A called place scope d at i t e c) (tags_before at (named e))
  waits_sees e false = refl
  waits_sees e true = decided_sees e (truth (λ n. result_of (at n)) e)

  meant_sees : (o : Option Expression) → seen_of (meant A called place scope d at i t o) ≡ seen_if (meant A called place scope d at i t o) (tags_before at (named_by o))
  meant_sees None = free_sees [] (not d.fail_fast || A.begun (task_place place i t).sels)
  meant_sees (Some e) = waits_sees e (list_all (λ n. is_over (at n)) (named e))

  by_meant_sees : (c : Bool) → seen_of (meant_by A called place scope d at i t c) ≡ seen_if (meant_by A called place scope d at i t c) (tags_before at (parents d.tasks t))
  by_meant_sees false = refl
  by_meant_sees true = meant_sees (awaited d.tasks t)

  standing_sees : seen_of (standing A called place scope d at i t) ≡ seen_if (standing A called place scope d at i t) (tags_before at (parents d.tasks t))
  standing_sees = by_meant_sees (is_meant d t)

module _ (d : Dag) (plan : DagPlan) (p : IsPlan d plan) (b : Board) (settle : RoundsSettle) (A : Answers) (called : Caller) (place : Place) (scope : Scope) (done : List ℕ) (shown : IsBoard A called place scope d done b) where
  abbrev ss : Standings
  ss = standings A called place scope d

  abbrev tag_of : ℕ → Scope
  tag_of q = own_tags (name_at d.tasks q) (stood ss q)

  abbrev up : ℕ → Scope
  up q = tags_up_to (name_at d.tasks q) (stood ss q)

  -- what the board has of tasks that are done
  pub done_tags : (ps : List ℕ) → ((q : ℕ) → Among q ps → Contains done q) → board_tags d.tasks b ps ≡ tags_at d.tasks ss ps
  done_tags [] h = refl
  done_tags (q ∷ qs) h =
      let one : made_tags (name_at d.tasks q) (state_at b q) ≡ tag_of q =
      ap (made_tags (name_at d.tasks q)) (shown.shown q (h q (inl refl))).state ∙ made_is (name_at d.tasks q) (stood ss q) in
      λ i. one i ++ done_tags qs (λ r a. h r (inr a)) i

  -- by positions, and by names
  by_names : (ns : Names) (qs : List ℕ) → AreAt d.tasks ns qs → flat_map up qs ≡ flat_map (λ n. tags_up_to n (look ss n)) ns
  by_names [] [] at = refl
  by_names [] (q ∷ qs) at = absurd cc
  by_names (n ∷ ns) [] at = absurd cc
  by_names (n ∷ ns) (q ∷ qs) at =
      let here : first d.tasks n ≡ Some q = cc at in
      let rest : map (first d.tasks) ns ≡ map Some qs = cc at in
      let (t, t_at, t_name, found) = at_first d.tasks n q here in
      let name : name_at d.tasks q ≡ n = named_at d.tasks q t t_at ∙ t_name in
      let stands : stood ss q ≡ look ss n = sym (look_stood A called place scope d settle p.ranked n q here) in
      λ i. tags_up_to (name i) (stands i) ++ by_names ns qs rest i

  -- a row, and what the tasks of its positions see
  row_up : (t : Task) (qs : List ℕ) → AreAt d.tasks (waited t) qs → HasValuesOf (flat_map up qs) (tags_before (look ss) (parents d.tasks t))
  row_up t qs at =
      let u : List ℕ → Scope = λ n. tags_up_to n (look ss n) in
      alike_trans (flat_map up qs) (flat_map u (waited t)) (flat_map u (parents d.tasks t))
      (alike_is (flat_map up qs) (flat_map u (waited t)) (by_names (waited t) qs at)) (waited_alike u d.tasks t)

  all_up :
      (qs : List ℕ) → ((q : ℕ) → Among q qs → HasValuesOf (flat_map tag_of (up_to plan b q)) (up q)) →
      HasValuesOf (flat_map tag_of (flat_map (up_to plan b) qs)) (flat_map up qs)
  all_up [] h = alike_refl []
  all_up (q ∷ qs) h =
      let u : ℕ → List ℕ = up_to plan b in
      alike_trans (flat_map tag_of (u q ++ flat_map u qs)) (flat_map tag_of (u q) ++ flat_map tag_of (flat_map u qs)) (up q ++ flat_map up qs)
      (alike_is (flat_map tag_of (u q ++ flat_map u qs)) (flat_map tag_of (u q) ++ flat_map tag_of (flat_map u qs)) (all_append tag_of (u q) (flat_map u qs)))
      (over_alike (up q) (flat_map up qs) (flat_map tag_of (u q)) (flat_map tag_of (flat_map u qs))
      (h q (inl refl)) (all_up qs (λ r a. h r (inr a))))

  module _ (closed : (q r : ℕ) → Contains done q → Among r (row plan.rows q) → Contains done r) where
    -- a task that is done, with its ancestors
    one_up : (k q : ℕ) → q < length plan.rows → place_in plan.order q < k → Contains done q → HasValuesOf (flat_map tag_of (up_to plan b q)) (up q)
    one_up zero q low h c = absurd (omega (arith, h))
    one_up (suc k) q low h c =
        let within = rows_within d plan p in
        let order = rows_ordered d plan p in
        let task = task_at d.tasks q (omega (arith, p.long, low)) in
        let t : Task = task.0 in
        let seen : Scope = tags_before (look ss) (parents d.tasks t) in
        let sees : seen_of (stood ss q) ≡ cond (is_existing (stood ss q)) seen [] =
        subst (λ (s : Standing). seen_of s ≡ cond (is_existing s) seen []) (sym (stood_is A called place scope d settle p.ranked q t task.1))
        (standing_sees A called place scope d (look ss) q t) in
        let there : (stand_at b q).existing ≡ is_existing (stood ss q) = ap (λ (s : Stand). s.existing) (shown.shown q c).stand in
        let behind : HasValuesOf (flat_map tag_of (flat_map (up_to plan b) (parents_at plan b q))) (seen_of (stood ss q)) =
        subst (λ (s : Scope). HasValuesOf (flat_map tag_of (flat_map (up_to plan b) (parents_at plan b q))) s) (sym sees)
        (subst (λ (e : Bool). HasValuesOf (flat_map tag_of (flat_map (up_to plan b) (parents_at plan b q))) (cond e seen [])) there
        (go (stand_at b q).existing t task.1
        (λ r a. one_up k r (row_low plan b within order q r low a)
        (let before = place_low (place_in plan.order q) plan.order r (row_before plan b within order q r low a) in omega (arith, h, before))
        (closed q r c a)))) in
        alike_trans (flat_map tag_of (up_to plan b q)) (tag_of q ++ flat_map tag_of (flat_map (up_to plan b) (parents_at plan b q))) (up q)
        (alike_is (flat_map tag_of (up_to plan b q)) (tag_of q ++ flat_map tag_of (flat_map (up_to plan b) (parents_at plan b q)))
        (ap (flat_map tag_of) (up_is plan b within order q low)))
        (alike_trans (tag_of q ++ flat_map tag_of (flat_map (up_to plan b) (parents_at plan b q))) (tag_of q ++ seen_of (stood ss q)) (up q)
        (append_alike (tag_of q) (flat_map tag_of (flat_map (up_to plan b) (parents_at plan b q))) (seen_of (stood ss q)) behind)
        (alike_is (tag_of q ++ seen_of (stood ss q)) (up q) (split_up (name_at d.tasks q) (stood ss q))))
      where
        go :
            (e : Bool) (t : Task) → slice_get d.tasks q ≡ Some t →
            ((r : ℕ) → Among r (row plan.rows q) → HasValuesOf (flat_map tag_of (up_to plan b r)) (up r)) →
            HasValuesOf (flat_map tag_of (flat_map (up_to plan b) (cond e (row plan.rows q) []))) (cond e (tags_before (look ss) (parents d.tasks t)) [])
        go false t at each = alike_refl []
        go true t at each =
            alike_trans (flat_map tag_of (flat_map (up_to plan b) (row plan.rows q))) (flat_map up (row plan.rows q)) (tags_before (look ss) (parents d.tasks t))
            (all_up (row plan.rows q) each) (row_up t (row plan.rows q) (p.rows q t at))

    -- the ancestors of a task whose parents are done
    pub ancestors_alike :
        (t : Task) (qs : List ℕ) → AreAt d.tasks (waited t) qs → ((q : ℕ) → Among q qs → q < length plan.rows) → ((q : ℕ) → Among q qs → Contains done q) →
        HasValuesOf (tags_at d.tasks ss (ancestors plan b qs)) (tags_before (look ss) (parents d.tasks t))
    ancestors_alike t qs at low h =
        let seen : Scope = tags_before (look ss) (parents d.tasks t) in
        alike_trans (tags_at d.tasks ss (ancestors plan b qs)) (flat_map tag_of (flat_map (up_to plan b) qs)) seen
        (firsts_alike tag_of (flat_map (up_to plan b) qs))
        (alike_trans (flat_map tag_of (flat_map (up_to plan b) qs)) (flat_map up qs) seen
        (all_up qs (λ q a. one_up (suc (place_in plan.order q)) q (low q a) (omega arith) (h q a)))
        (row_up t qs at))
