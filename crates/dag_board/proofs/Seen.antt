-- The scope of the task whose turn is next.
use Rattle.std.proofs.Common.{◌≡◌, ◌<◌, ◌++◌, ℕ, List, [], Some, length, get_or, take, sym, ◌∙◌, subst, arith}
use Rattle.std.specs.Prelude.{slice_get}
use Rattle.std.specs.List.{All, Contains}
use Rattle.std.proofs.lemmas.Option.{get_or_from_slice_get}
use Rattle.wf_manifest.specs.declared.calls.Task.{Task}
use Rattle.wf_manifest.specs.declared.calls.Dag.{Dag}
use Rattle.scopes.specs.Substitution.{Scope}
use Rattle.scopes.specs.Values.{HasValuesOf}
use Rattle.scopes.proofs.ValueIn.{alike_trans, over_alike}
use Rattle.task_order.specs.Orders.{waited, AreWithin, IsOrder}
use Rattle.task_order.proofs.Among.{Among, among_from, contains_from}
use Rattle.meaning.specs.declared.lines.Place.{Place}
use Rattle.meaning.specs.Answers.{Answers}
use Rattle.meaning.specs.Steps.{Caller}
use Rattle.meaning.specs.Dags.{Standings, standings}
use Rattle.growth.specs.Rounds.{RoundsSettle}
use Rattle.dag_plan.specs.declared.plan.DagPlan.{DagPlan}
use Rattle.dag_plan.specs.Order.{Follows}
use Rattle.dag_plan.specs.Plans.{AreAt, IsPlan}
use Rattle.dag_board.specs.declared.board.Board.{Board}
use Rattle.dag_template.proofs.Places.{places_low}
use Rattle.dag_board.specs.Boards.{IsBoard, seen_by, IsTurn}
use Rattle.dag_board.specs.Turns.{Sees}
use Rattle.dag_board.specs.Inside.Befores.{place_in, ancestors, board_tags}
use Rattle.dag_board.proofs.Values.{alike_refl, alike_is}
use Rattle.dag_board.proofs.Reaching.{row_done, all_each, each_all, rows_within, rows_ordered}
use Rattle.dag_board.proofs.Upwards.{place_low, take_more, taken, in_row, row_low, row_before, ancestors_each}
use Rattle.dag_board.proofs.Befores.{tags_at, done_tags, ancestors_alike}

pub row_at :
    (d : Dag) (plan : DagPlan) → IsPlan d plan → (i : ℕ) (t : Task) (row read : List ℕ) → slice_get d.tasks i ≡ Some t →
    slice_get plan.rows i ≡ Some row → read ≡ row → AreAt d.tasks (waited t) read
row_at d plan p i t row read at is same =
    subst (AreAt d.tasks (waited t)) (get_or_from_slice_get plan.rows i row [] is ∙ sym same) (p.rows i t at)

-- the ancestors of a task stand in the DAG
pub ancestors_low :
    (d : Dag) (plan : DagPlan) → IsPlan d plan → (b : Board) (ps : List ℕ) → All (λ q. q < length d.tasks) ps →
    All (λ q. q < length d.tasks) (ancestors plan b ps)
ancestors_low d plan p b ps low =
    let within = rows_within d plan p in
    let order = rows_ordered d plan p in
    subst (λ (n : ℕ). All (λ q. q < n) (ancestors plan b ps)) p.long
    (let few = each_all (λ q. q < length plan.rows) ps (subst (λ (n : ℕ). All (λ q. q < n) ps) (sym p.long) low) in
    all_each (λ q. q < length plan.rows) (ancestors plan b ps)
    (ancestors_each plan b within order (λ q. q < length plan.rows) (λ q r q_low here a. row_low plan b within order q r q_low (in_row plan b within order q r a)) ps few few))

module _ (d : Dag) (plan : DagPlan) (p : IsPlan d plan) (b : Board) (settle : RoundsSettle) (i : ℕ) (row read : List ℕ) (is : slice_get plan.rows i ≡ Some row) (same : read ≡ row) where
  abbrev within : AreWithin plan.rows
  within = rows_within d plan p

  abbrev order : IsOrder plan.rows plan.order
  order = rows_ordered d plan p

  module _ (A : Answers) (called : Caller) (place : Place) (scope : Scope) (k : ℕ) (t : Task) (shown : IsBoard A called place scope d (take k plan.order) b) (turn : IsTurn d plan k i t) where
    abbrev ss : Standings
    ss = standings A called place scope d

    abbrev done : List ℕ
    done = take k plan.order

    at : AreAt d.tasks (waited t) read
    at = row_at d plan p i t row read turn.task is same

    read_low : (q : ℕ) → Among q read → q < length plan.rows
    read_low q a =
        each_all (λ v. v < length plan.rows) read (subst (λ (n : ℕ). All (λ v. v < n) read) (sym p.long) (places_low d.tasks (waited t) read at)) q a

    follows : Follows d.tasks done t
    follows = p.order.behind k t turn.low (subst (λ (x : ℕ). slice_get d.tasks x ≡ Some t) (sym turn.here) turn.task)

    parents_done : (q : ℕ) → Among q read → Contains done q
    parents_done q a = row_done d.tasks done t read at follows q a

    -- those that are done were behind those that they waited for
    closed : (q r : ℕ) → Contains done q → Among r (get_or plan.rows q []) → Contains done r
    closed q r c a =
        let in_order : q < length plan.rows = each_all (λ v. v < length plan.rows) plan.order order.within q (taken k plan.order q (among_from done q c)) in
        let early_q = place_low k plan.order q (among_from done q c) in
        contains_from done r (take_more (place_in plan.order q) k plan.order r (omega (arith, early_q)) (row_before plan b within order q r in_order a))

    ancestors_done : (q : ℕ) → Among q (ancestors plan b read) → Contains done q
    ancestors_done =
        ancestors_each plan b within order (Contains done) (λ q r low c a. closed q r c (in_row plan b within order q r a)) read read_low parents_done

    -- the tags of its ancestors
    tags_seen : HasValuesOf (tags_at d.tasks ss (ancestors plan b read)) (seen_by A called place scope d t)
    tags_seen = ancestors_alike d plan p b settle A called place scope done shown closed t read at read_low parents_done

    pub board_seen : HasValuesOf (board_tags d.tasks b (ancestors plan b read)) (seen_by A called place scope d t)
    board_seen =
        alike_trans (board_tags d.tasks b (ancestors plan b read)) (tags_at d.tasks ss (ancestors plan b read)) (seen_by A called place scope d t)
        (alike_is (board_tags d.tasks b (ancestors plan b read)) (tags_at d.tasks ss (ancestors plan b read))
        (done_tags d plan p b settle A called place scope done shown (ancestors plan b read) ancestors_done))
        tags_seen

  pub sees :
      (found : List ℕ) (tags around inner : Scope) → found ≡ ancestors plan b read → HasValuesOf tags (board_tags d.tasks b found) →
      inner ≡ tags ++ around → Sees d plan b i around inner
  sees found tags around inner found_is told inner_is A called place scope k t shown turn =
      let seen = seen_by A called place scope d t in
      alike_trans inner (tags ++ around) (seen ++ around) (alike_is inner (tags ++ around) inner_is)
      (over_alike seen around tags around
      (alike_trans tags (board_tags d.tasks b (ancestors plan b read)) seen
      (subst (λ (ps : List ℕ). HasValuesOf tags (board_tags d.tasks b ps)) found_is told)
      (board_seen A called place scope k t shown turn))
      (alike_refl around))
