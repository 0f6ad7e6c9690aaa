-- The outputs are computed in a scope with the same values.
use Rattle.std.proofs.Common.{◌≡◌, ◌≢◌, ◌++◌, refl, sym, ap, ◌∙◌}
use Rattle.tree_types.specs.declared.phase.Phase.{Phase}
use Rattle.tree_types.specs.declared.phase.Phase.TheVariants.{Pending, Running, Succeeded, Skipped, Failed, Error, Omitted}
use Rattle.tree_types.specs.declared.node.Kind.TheVariants as kind
use Rattle.tree_types.specs.declared.node.Note.TheVariants as note
use Rattle.meaning.specs.declared.lines.Place.{Place}
use Rattle.meaning.specs.Lines.{node, no_outputs}
use Rattle.meaning.specs.Outputs.{Ending, computed, ended_node}
use Rattle.meaning.specs.Dags.{standings, dag_tags}
use Rattle.scope_laws.proofs.Texts.{computed_agrees}
use Rattle.dag_board.specs.Ends.{HasNode}
use Rattle.dag_board.proofs.Results.{ok_more}
use Rattle.dag_board.proofs.board.Board.node.Goals as goal

-- a DAG that did not succeed has no outputs
without_outputs : (place : Place) (p : Phase) → p ≢ Succeeded → (e : Ending) → ended_node place kind.DAG p note.None no_outputs e ≡ node place kind.DAG p note.None no_outputs
without_outputs place Pending other e = refl
without_outputs place Running other e = refl
without_outputs place Succeeded other e = absurd (other refl)
without_outputs place Skipped other e = refl
without_outputs place Failed other e = refl
without_outputs place Error other e = refl
without_outputs place Omitted other e = refl

pub returns-in_default : goal.returns-in_default
returns-in_default c = λ A called shown.
    let around = c.args.scope.now in
    let ending = computed (dag_tags (standings A called c.args.place.now around c.args.dag.now) ++ around) c.args.declared.now in
    c.bare.ensures
    ∙ ap (λ (p : Place). node p kind.DAG c.args.phase note.None no_outputs) c.in_ok-at.ensures
    ∙ sym (without_outputs c.args.place.now c.args.phase c.before.in_default.not-Succeeded ending)

pub returns : goal.returns
returns c =
    let d = c.args.dag.now in
    let plan = c.args.plan.now in
    let b = c.args.self.now in
    let place = c.args.place.now in
    let around = c.args.scope.now in
    let declared = c.args.declared.now in
    let phase = c.args.phase in
    let inner = c.in_ok-inner.inner in
    let copy = c.in_ok-at.at in
    ok_more c.computed_node.result (λ n. n ≡ ended_node copy kind.DAG phase note.None no_outputs (computed inner declared))
    (HasNode d plan b place around declared phase)
    (λ n e A called shown.
    (let all = dag_tags (standings A called place around d) ++ around in
    let same = c.in_ok-inner.ensures A called place around shown in
    let place_is = c.in_ok-at.ensures in
    e ∙ (λ i. ended_node (place_is i) kind.DAG phase note.None no_outputs (computed_agrees inner all same declared i))))
    c.computed_node.ensures
