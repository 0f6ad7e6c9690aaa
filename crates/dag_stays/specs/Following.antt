-- What becomes of a task, by the calls that stand below a DAG's node.
use Rattle.std.specs.Prelude.{◌≡◌, ℕ, [], Bool, true, false, not, ◌||◌, map, Some, slice_get}
use Rattle.tree_types.specs.declared.phase.Phase.{Phase}
use Rattle.tree_types.specs.declared.phase.Phase.TheVariants.{Succeeded}
use Rattle.tree_types.specs.Phases.{is_succeeded, is_skipped}
use Rattle.wf_manifest.specs.declared.calls.Task.{Task}
use Rattle.wf_manifest.specs.declared.calls.Dag.{Dag}
use Rattle.scopes.specs.Substitution.{Scope}
use Rattle.meaning.specs.declared.lines.Place.{Place}
use Rattle.meaning.specs.Answers.{Answers}
use Rattle.meaning.specs.Lines.{Made}
use Rattle.meaning.specs.Steps.{Caller}
use Rattle.meaning.specs.Dags.{parents, Standing, waiting, exists, look, Standings, has_failed, tags_before, free, omitted, standing}
use Rattle.dag_board.specs.Boards.{stood}
use Rattle.dag_template.specs.declared.stands.Stand.{Stand}
use Rattle.dag_template.specs.Stands.{sight, waits}
use Rattle.dag_stays.specs.declared.following.Following.{Following}
use Rattle.dag_stays.specs.declared.following.Following.TheVariants.{Waits, Freed, Omitted}
use Rattle.dag_stays.specs.Over.{StandsOver}

-- what others see of a standing, but for its branch phase and for whether it may begin
abbrev pub seen : Standing → Stand
seen (exists m branch tags) = sight (exists m Succeeded [])
seen _ = waits

-- it is not over, or ended well
abbrev pub is_spared : Standing → Bool
is_spared (exists m branch tags) = not m.own.finished || (is_succeeded m.own.node.phase || is_skipped m.own.node.phase)
is_spared _ = true

-- a task that ended well did not fail, as its branch phase tells it
abbrev pub IsGood : Standing → Type 0
IsGood s = is_spared s ≡ true → has_failed s ≡ false

abbrev pub AreGood : Standings → Type 0
AreGood ss = (p : ℕ) → IsGood (stood ss p)

module _ (A : Answers) (called : Caller) (place : Place) (scope : Scope) (d : Dag) (ss : Standings) where
  abbrev pub tags_seen : Task → Scope
  tags_seen t = tags_before (look ss) (parents d.tasks t)

  -- so a task stands of which this becomes, given how the others do
  abbrev pub StandsSo : ℕ → Task → Standing → Following → Type 0
  StandsSo k t s Waits = s ≡ waiting
  StandsSo k t s Freed = s ≡ free A called place scope d (tags_seen t) k t
  StandsSo k t s Omitted = (branch : Phase) × (s ≡ omitted A called place scope d branch (tags_seen t) k t)

-- where a node stands over the tasks of the DAG, this becomes of the one at a position
abbrev pub TellsFollowing : Dag → ℕ → Made → Following → Type 0
TellsFollowing d k b becomes =
    (doomed : Bool) (A : Answers) (called : Caller) (place : Place) (scope : Scope) (ss : Standings) (t : Task) →
    StandsOver doomed place ss b → map (λ s. s.0) ss ≡ d.tasks → slice_get d.tasks k ≡ Some t →
    StandsSo A called place scope d ss k t (standing A called place scope d (look ss) k t) becomes
