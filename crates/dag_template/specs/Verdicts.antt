-- How a task stands is told by its verdict.
use Rattle.std.specs.Prelude.{◌≡◌, ℕ, Bool, true, false}
use Rattle.wf_manifest.specs.declared.calls.Task.{Task}
use Rattle.wf_manifest.specs.declared.calls.Dag.{Dag}
use Rattle.scopes.specs.Substitution.{Scope}
use Rattle.meaning.specs.declared.lines.Place.{Place}
use Rattle.meaning.specs.Answers.{Answers}
use Rattle.meaning.specs.Steps.{Caller}
use Rattle.meaning.specs.Dags.{parents, is_meant, Standing, waiting, Look, tags_before, free, omitted, standing}
use Rattle.dag_template.specs.declared.judging.Verdict.{Verdict}
use Rattle.dag_template.specs.declared.judging.Verdict.TheVariants.{Waits, Holds, Denied}
use Rattle.dag_template.specs.Stands.{sight, verdict}

module _ (A : Answers) (called : Caller) (place : Place) (scope : Scope) (d : Dag) where
  -- how a task stands, by the tags of the tasks that it depends on and by its verdict
  abbrev pub stands_as : Scope → ℕ → Task → Verdict → Standing
  stands_as seen i t Waits = waiting
  stands_as seen i t Holds = free A called place scope d seen i t
  stands_as seen i t (Denied branch) = omitted A called place scope d branch seen i t

  -- how a task stands that is a target or an ancestor of one, or that is neither
  abbrev pub stands_if : Scope → ℕ → Task → Bool → Verdict → Standing
  stands_if seen i t false v = waiting
  stands_if seen i t true v = stands_as seen i t v

  -- how a task stands, given how those stand that it depends on
  abbrev pub stands_by : Look → ℕ → Task → Bool → Verdict → Standing
  stands_by at i t meant v = stands_if (tags_before at (parents d.tasks t)) i t meant v

-- so each task stands
abbrev pub StandsByVerdict : Type 0
StandsByVerdict =
    (A : Answers) (called : Caller) (place : Place) (scope : Scope) (d : Dag) (at : Look) (i : ℕ) (t : Task) →
    standing A called place scope d at i t
    ≡ stands_by A called place scope d at i t (is_meant d t) (verdict d.tasks (λ n. sight (at n)) t)
