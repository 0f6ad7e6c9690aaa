-- The tasks of a DAG, one by one.
use Rattle.std.proofs.Common.{◌≡◌, ℕ, zero, suc, ◌+◌, ◌<◌, ◌≤◌, Bool, true, false, not, ◌||◌, List, [], ◌∷◌, ◌++◌, length, get_or, take, Some, Ok, Err, refl, sym, ap, ◌∙◌, subst, arith, codes}
use Rattle.std.specs.Prelude.{slice_get}
use Rattle.std.proofs.lemmas.List.{take_all}
use Rattle.tree_types.specs.declared.phase.Phase.{Phase}
use Rattle.wf_manifest.specs.declared.calls.Task.{Task}
use Rattle.wf_manifest.specs.declared.calls.Dag.{Dag}
use Rattle.scopes.specs.Substitution.{Scope}
use Rattle.scopes.specs.Values.{HasValuesOf}
use Rattle.meaning.specs.declared.lines.Place.{Place}
use Rattle.meaning.specs.Answers.{Answers}
use Rattle.meaning.specs.Lines.{Made}
use Rattle.meaning.specs.Steps.{Caller, covered}
use Rattle.meaning.specs.Dags.{Standing, waiting, ready, exists, Standings, standings, task_place, free_by, free, omitted}
use Rattle.tree_state.specs.declared.refused.TreeRefused.{TreeRefused}
use Rattle.tree_state.specs.declared.refused.TreeRefused.TheVariants.{TooLarge, Memory}
use Rattle.tree_state.specs.Counting.{count, Takes, Gives}
use Rattle.dag_plan.specs.declared.plan.DagPlan.{DagPlan}
use Rattle.dag_plan.specs.Plans.{IsPlan}
use Rattle.dag_template.specs.declared.judging.Verdict.{Verdict}
use Rattle.dag_template.specs.declared.judging.Verdict.TheVariants.{Waits, Holds, Denied}
use Rattle.dag_board.specs.declared.board.Board.{Board}
use Rattle.dag_board.specs.Boards.{IsBoard, IsTurn, stands_at, seen_by, stood}
use Rattle.dag_board.specs.Turns.{Tells, Begins, Omits, IsReady, WaitingIsShown}
use Rattle.scope_laws.specs.Agreeing.{Agree}
use Rattle.tree_walk.specs.Tasks.{stood_count, count_at, GivesTask, GivesBoard}
use Rattle.tree_walk.proofs.Sums.{count_next, count_start}

pub got : (xs : List ℕ) (k x : ℕ) → slice_get xs k ≡ Some x → get_or xs k 0 ≡ x
got [] k x is = absurd (cc)
got (y ∷ ys) zero x is = let same : y ≡ x = cc in same
got (y ∷ ys) (suc k) x is = got ys k x is

pub is_low : {X : Type 0} (xs : List X) (k : ℕ) (x : X) → slice_get xs k ≡ Some x → k < length xs
is_low [] k x is = absurd (cc)
is_low (y ∷ ys) zero x is = omega arith
is_low (y ∷ ys) (suc k) x is = omega (arith, is_low ys k x is)

module _ (A : Answers) (called : Caller) (agree : Agree called called) (place : Place) (scope : Scope) (d : Dag) (plan : DagPlan) (k i : ℕ) (t : Task) (turn : IsTurn d plan k i t) where
  abbrev Shown : ℕ → Board → Type 0
  Shown n b = IsBoard A called place scope d (take n plan.order) b

  abbrev seen : Scope
  seen = seen_by A called place scope d t

  abbrev stands : Standing
  stands = stands_at A called place scope d i

  pub task_waits : (b : Board) (room : ℕ) (v : Verdict) → WaitingIsShown → IsPlan d plan → Shown k b → v ≡ Waits → Tells d plan b i v → Shown (suc k) b × (room + stood_count stands ≡ room)
  task_waits b room v law is shown waits tells =
      let tells_waits : Tells d plan b i Waits = subst (λ x. Tells d plan b i x) waits tells in
      let standing : stands ≡ waiting = tells_waits A called place scope k t shown turn in
      (law d plan b i is A called place scope k t shown turn standing, omega (arith, ap stood_count standing))

  pub stands_free : (b : Board) → Shown k b → Tells d plan b i Holds → stands ≡ free A called place scope d seen i t
  stands_free b shown tells = tells A called place scope k t shown turn

  stands_omitted : (b : Board) (branch : Phase) → Shown k b → Tells d plan b i (Denied branch) → stands ≡ omitted A called place scope d branch seen i t
  stands_omitted b branch shown tells = tells A called place scope k t shown turn

  pub task_omitted : (old new : Board) (branch : Phase) (before after : ℕ) → Shown k old → Tells d plan old i (Denied branch) → before ≡ suc after → Omits d plan old new i place branch →
      Shown (suc k) new × (after + stood_count stands ≡ before)
  task_omitted old new branch before after shown tells taken omits =
      let standing = stands_omitted old branch shown tells in
      (omits A called scope k t shown turn standing, omega (arith, ap stood_count standing, taken))

  pub task_no_room : (b : Board) (new : Board) (branch : Phase) (before after : ℕ) (e : TreeRefused) → Shown k b → Tells d plan b i (Denied branch) → Takes before after (Err e) →
      GivesTask before after (Err e) (Shown (suc k) new) (stood_count stands)
  task_no_room b new branch before after TooLarge shown tells none = omega (arith, ap stood_count (stands_omitted b branch shown tells), none)
  task_no_room b new branch before after Memory shown tells none = tt

  module _ (at : Place) (is_at : at ≡ task_place place i t) (free_here : stands ≡ free A called place scope d seen i t) (begins : Bool) (told : begins ≡ (not d.fail_fast || A.begun at.sels)) where
    stands_by_begins : (b : Bool) → begins ≡ b → stands ≡ free_by A called place scope d seen i t b
    stands_by_begins b is =
        free_here ∙ ap (λ x. free_by A called place scope d seen i t x) (ap (λ (p : Place). not d.fail_fast || A.begun p.sels) (sym is_at) ∙ sym told ∙ is)

    pub task_ready : (old new : Board) (room : ℕ) → begins ≡ false → Shown k old → IsReady d plan old new i → Shown (suc k) new × (room + stood_count stands ≡ room)
    task_ready old new room is shown sets =
        let standing : stands ≡ ready = stands_by_begins false is in
        (sets A called place scope k t shown turn standing, omega (arith, ap stood_count standing))

    module _ (is : begins ≡ true) (inner : Scope) (values : HasValuesOf inner (seen ++ scope)) where
      made_here : called (codes "tasks.") at inner t.call ≡ called (codes "tasks.") (task_place place i t) (seen ++ scope) t.call
      made_here = ap (λ (p : Place). called (codes "tasks.") p inner t.call) is_at ∙ agree (codes "tasks.") (task_place place i t) inner (seen ++ scope) t.call values

      stands_begun : (m : Made) → m ≡ called (codes "tasks.") at inner t.call → stands ≡ exists m (covered t.call.continue_on m.own.node.phase) seen
      stands_begun m made = stands_by_begins true is ∙ ap (λ (x : Made). exists x (covered t.call.continue_on x.own.node.phase) seen) (sym (made ∙ made_here))

      pub task_begun : (old new : Board) (state : Made) (before after : ℕ) → Shown k old → (state ≡ called (codes "tasks.") at inner t.call) × (after + count (called (codes "tasks.") at inner t.call) ≡ before) →
          Begins d plan old new i state → Shown (suc k) new × (after + stood_count stands ≡ before)
      task_begun old new state before after shown given begins_now =
          let standing = stands_begun state given.0 in
          (begins_now A called place scope k t shown turn standing, omega (arith, ap stood_count standing, ap count given.0, given.1))

      pub task_fails : (new : Board) (before after : ℕ) (e : TreeRefused) → Gives before after (Err e) (called (codes "tasks.") at inner t.call) → GivesTask before after (Err e) (Shown (suc k) new) (stood_count stands)
      task_fails new before after TooLarge fails = omega (arith, ap stood_count (stands_begun (called (codes "tasks.") at inner t.call) refl), fails)
      task_fails new before after Memory fails = tt

-- ---- all tasks

module _ (A : Answers) (called : Caller) (place : Place) (scope : Scope) (d : Dag) (plan : DagPlan) where
  abbrev ss : Standings
  ss = standings A called place scope d

  pub tasks_next : (k room before after n : ℕ) → k < length plan.order → room + count_at ss (take k plan.order) ≡ before → n ≡ stood_count (stood ss (get_or plan.order k 0)) → after + n ≡ room → after + count_at ss (take (suc k) plan.order) ≡ before
  tasks_next k room before after n low so_far is more = omega (arith, count_next ss plan.order k low, so_far, is, more)

  pub tasks_fail : (k room before after : ℕ) (Shown : Type 0) (e : TreeRefused) → k < length plan.order → room + count_at ss (take k plan.order) ≡ before → GivesTask room after (Err e) Shown (stood_count (stood ss (get_or plan.order k 0))) →
      GivesBoard A called place scope d plan.order before after (Err e)
  tasks_fail k room before after Shown TooLarge low so_far fails = omega (arith, count_next ss plan.order k low, count_start ss plan.order (suc k), so_far, fails)
  tasks_fail k room before after Shown Memory low so_far fails = tt

  pub tasks_done : (b : Board) (k before after : ℕ) → length plan.order ≤ k → IsBoard A called place scope d (take k plan.order) b → after + count_at ss (take k plan.order) ≡ before → GivesBoard A called place scope d plan.order before after (Ok b)
  tasks_done b k before after past shown room =
      let all : take k plan.order ≡ plan.order = take_all k plan.order past in
      (subst (λ o. IsBoard A called place scope d o b) all shown, subst (λ o. after + count_at ss o ≡ before) all room)
