-- How the tasks of a DAG stand once one of them ended and those that wait for it were looked at.
use Rattle.std.specs.Prelude.{◌≡◌, ◌⊎◌, ℕ, zero, suc, ◌<◌, ◌==◌, length, List, [], ◌∷◌, true, false, map, Option, Some, None, slice_get}
use Rattle.std.specs.List.{AllByRecursion, list_any}
use Rattle.wf_manifest.specs.declared.calls.Task.{Task}
use Rattle.wf_manifest.specs.declared.calls.Dag.{Dag}
use Rattle.scopes.specs.Substitution.{Scope}
use Rattle.meaning.specs.declared.lines.Place.{Place}
use Rattle.meaning.specs.Answers.{Answers}
use Rattle.meaning.specs.Lines.{Made, row_in, all_finished}
use Rattle.meaning.specs.Steps.{Caller, covered}
use Rattle.meaning.specs.Dags.{Standing, waiting, ready, exists, is_over, is_at_rest, look, Standings, standing, tasks_below}
use Rattle.dag_board.specs.Boards.{stood}
use Rattle.dag_stays.specs.Over.{StandsOver}

-- one task stands otherwise
abbrev pub put : Standings → ℕ → Standing → Standings
put [] p x = []
put (s ∷ ss) zero x = (s.0, x) ∷ ss
put (s ∷ ss) (suc p) x = s ∷ put ss p x

-- a task that existed makes this now
abbrev pub again : Task → Made → Standing → Standing
again t z (exists m branch seen) = exists z (covered t.call.continue_on z.own.node.phase) seen
again t z s = s

-- the task at position j makes this now, and the others stand as before
abbrev pub ended : Standings → ℕ → Task → Made → Standings
ended ss j t z = put ss j (again t z (stood ss j))

-- a standing that keeps the DAG from its end
abbrev pub Goes : Standing → Type 0
Goes s = (s ≡ ready) ⊎ (is_at_rest s ≡ false)

module _ (A : Answers) (called : Caller) (place : Place) (scope : Scope) (d : Dag) where
  abbrev pub standing_of : Standings → ℕ → Option Task → Standing
  standing_of us k None = waiting
  standing_of us k (Some u) = standing A called place scope d (look us) k u

  -- how the task at a position stands, given how the others do
  abbrev pub stands_behind : Standings → ℕ → Standing
  stands_behind us k = standing_of us k (slice_get d.tasks k)

  -- those at these positions stand so, given how all stood by the first list
  abbrev pub followed : Standings → Standings → List ℕ → Standings
  followed us ss [] = ss
  followed us ss (k ∷ ks) = followed us (put ss k (stands_behind us k)) ks

  -- a node stands over the tasks of the DAG, of which those at these positions wait
  pub record AreBehind (us : Standings) (ks : List ℕ) (b : Made) : Type 0 where
    pub over : StandsOver false place us b
    pub tasks : map (λ s. s.0) us ≡ d.tasks
    pub waiting : (k : ℕ) → list_any (λ n. n == k) ks ≡ true → stood us k ≡ waiting

  -- the same node over what stands behind them, and none of them is over
  pub record HasFollowed (us : Standings) (ks : List ℕ) (b state : Made) : Type 0 where
    pub own : state.own ≡ b.own
    pub parts : state.parts ≡ tasks_below false place 0 (followed us us ks)
    pub not_over : AllByRecursion (λ k. is_over (stands_behind us k) ≡ false) ks

  -- one of them may begin, or runs
  pub record OneGoes (us : Standings) (ks : List ℕ) : Type 0 where
    pub k : ℕ
    pub low : k < length d.tasks
    pub among : list_any (λ n. n == k) ks ≡ true
    pub goes : Goes (stands_behind us k)

  -- the DAG is not over
  abbrev pub GoesOn : Standings → List ℕ → Made → Type 0
  GoesOn us ks state = (all_finished (row_in state.parts) ≡ false) ⊎ OneGoes us ks
