-- What is kept while the tasks are looked at that wait for one that ended.
use Rattle.std.specs.Prelude.{◌≡◌, ℕ, List, Option, Some, None, false, true, IsTrue}
use Rattle.wf_manifest.specs.declared.calls.Task.{Task}
use Rattle.wf_manifest.specs.declared.calls.Dag.{Dag}
use Rattle.scopes.specs.Substitution.{Scope}
use Rattle.meaning.specs.declared.lines.Place.{Place}
use Rattle.meaning.specs.Answers.{Answers}
use Rattle.meaning.specs.Lines.{Made, Parts, nothing, then_parts}
use Rattle.meaning.specs.Steps.{Caller}
use Rattle.meaning.specs.Dags.{waiting, is_over, look, Standings, task_place, task_then}
use Rattle.mentions.proofs.TaskTags.{so, seen_by}
use Rattle.tree_state.specs.declared.inserting.Entry.{Entry}
use Rattle.tree_state.specs.Inserting.{entry_then}
use Rattle.dag_stays.specs.Behind.{stands_behind, HasFollowed, Goes, OneGoes, GoesOn}
use Rattle.tree_change.specs.declared.behind.Follower.{Follower}
use Rattle.tree_change.specs.declared.behind.Follower.TheVariants.{Waits, Enters}
use Rattle.tree_change.specs.declared.behind.Followed.{Followed}

-- the tree that stands last
abbrev pub newest : Option Made → Made → Made
newest None middle = middle
newest (Some state) middle = state

-- the tags of the tasks that a task waits for begin with `tasks.`
abbrev pub AreTagged : Standings → Type 0
AreTagged us = (n : List ℕ) → so (seen_by (look us n)) ≡ true

module _ (A : Answers) (called : Caller) (place : Place) (scope : Scope) (d : Dag) (us : Standings) where
  -- a task is not over and keeps the DAG from its end, and this stands for it
  pub record EntersSo (k : ℕ) (e : Entry) : Type 0 where
    pub not_over : is_over (stands_behind A called place scope d us k) ≡ false
    pub goes : Goes (stands_behind A called place scope d us k)
    pub entry :
        (t : Task) (more : Parts) →
        task_then false (task_place place k t) (stands_behind A called place scope d us k) more ≡ then_parts (entry_then e nothing) more

  abbrev pub TellsFollower : ℕ → Follower → Type 0
  TellsFollower k Waits = stands_behind A called place scope d us k ≡ waiting
  TellsFollower k (Enters e) = EntersSo k e

  -- the tasks at these positions were looked at
  pub record IsSoFar (done : List ℕ) (middle : Made) (so_far : Followed) : Type 0 where
    pub followed : HasFollowed A called place scope d us done middle (newest so_far.state middle)
    pub goes : IsTrue so_far.goes_on → OneGoes A called place scope d us done

  -- all of them were, and the DAG is not over
  abbrev pub HasAllBehind : List ℕ → Made → Made → Type 0
  HasAllBehind ks middle state = HasFollowed A called place scope d us ks middle state × GoesOn A called place scope d us ks state
