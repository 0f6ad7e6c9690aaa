-- What a DAG makes whose tasks were all gone through.
use Rattle.std.specs.Prelude.{◌≡◌, List, ◌++◌}
use Rattle.tree_types.specs.declared.phase.Phase.{Phase}
use Rattle.tree_types.specs.declared.node.Node.{Node}
use Rattle.tree_types.specs.declared.node.Kind.TheVariants as kind
use Rattle.tree_types.specs.declared.node.Note.TheVariants as note
use Rattle.wf_manifest.specs.declared.templates.OutputDecl.{OutputDecl}
use Rattle.wf_manifest.specs.declared.calls.Dag.{Dag}
use Rattle.scopes.specs.Substitution.{Scope}
use Rattle.scopes.specs.Values.{HasValuesOf}
use Rattle.meaning.specs.declared.lines.Place.{Place}
use Rattle.meaning.specs.Answers.{Answers}
use Rattle.meaning.specs.Lines.{no_outputs, Made}
use Rattle.meaning.specs.Outputs.{computed, ended_node}
use Rattle.meaning.specs.Steps.{Caller}
use Rattle.meaning.specs.Dags.{standings, is_doomed, dag_phase, dag_tags, dag_made}
use Rattle.dag_plan.specs.declared.plan.DagPlan.{DagPlan}
use Rattle.dag_board.specs.declared.board.Board.{Board}
use Rattle.dag_board.specs.declared.ending.DagEnd.{DagEnd}
use Rattle.dag_board.specs.Boards.{IsBoard}

-- whether the DAG is doomed, and its phase
pub record Ends (A : Answers) (called : Caller) (place : Place) (scope : Scope) (d : Dag) (end : DagEnd) : Type 0 where
  pub doomed : end.doomed ≡ is_doomed d (standings A called place scope d)
  pub phase : end.phase ≡ dag_phase d (standings A called place scope d)

module _ (d : Dag) (plan : DagPlan) (b : Board) where
  abbrev pub TellsEnd : DagEnd → Type 0
  TellsEnd end =
      (A : Answers) (called : Caller) (place : Place) (scope : Scope) →
      IsBoard A called place scope d plan.order b → Ends A called place scope d end

  -- the scope of its outputs: with the tags of all tasks
  abbrev pub SeesAll : Scope → Scope → Type 0
  SeesAll around inner =
      (A : Answers) (called : Caller) (place : Place) (scope : Scope) → IsBoard A called place scope d plan.order b →
      HasValuesOf inner (dag_tags (standings A called place scope d) ++ around)

  -- the DAG's node, where its phase is this one
  abbrev pub HasNode : Place → Scope → List OutputDecl → Phase → Node → Type 0
  HasNode place scope declared phase n =
      (A : Answers) (called : Caller) → IsBoard A called place scope d plan.order b →
      n ≡ ended_node place kind.DAG phase note.None no_outputs
      (computed (dag_tags (standings A called place scope d) ++ scope) declared)

  -- what the DAG makes at a place in a scope
  abbrev pub Makes : Place → Scope → List OutputDecl → Made → Type 0
  Makes place scope declared m =
      (A : Answers) (called : Caller) → IsBoard A called place scope d plan.order b →
      m ≡ dag_made A called place scope declared d
