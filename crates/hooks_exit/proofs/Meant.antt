-- The phase of a workflow, by the phases of its top nodes, is the one that is meant.
use Rattle.std.proofs.Common.{◌≡◌, refl, ap, ◌∙◌}
use Rattle.std.specs.Prelude.{ℕ, List, Bool, true, false, ◌&&◌, Option, Some, None, option_map, if◌then◌else◌}
use Rattle.tree_types.specs.declared.phase.Phase.{Phase}
use Rattle.tree_types.specs.declared.phase.Phase.TheVariants.{Running}
use Rattle.tree_types.specs.Phases.{fulfilled}
use Rattle.wf_manifest.specs.declared.manifest.Manifest.{Manifest}
use Rattle.meaning.specs.Answers.{Answers}
use Rattle.meaning.specs.Lines.{Made}
use Rattle.meaning.specs.Trees.{most_depth, globals_of, root, exit_root, status_tags, main_made, exit_of, exit_if, workflow_phase, ended_phase, granted_phase, started_phase}
use Rattle.hooks_exit.specs.Exits.{phase_of, PhaseIsMeant}
use Rattle.hooks_exit.proofs.Finished.{Tied, top_tied}

abbrev TiedIfSome : Option Made → Type 0
TiedIfSome None = Unit {0}
TiedIfSome (Some h) = Tied h

one_test : (a b : Bool) (x y : Phase) → (if a then (if b then x else y) else y) ≡ (if a && b then x else y)
one_test true b x y = refl
one_test false b x y = refl

by_phases :
    (b : Made) (o : Option Made) → Tied b → TiedIfSome o →
    (if b.own.finished then ended_phase b o else Running) ≡ phase_of b.own.node.phase (option_map (λ h. h.own.node.phase) o)
by_phases b None tied of_exit = ap (λ (x : Bool). if x then b.own.node.phase else Running) tied
by_phases b (Some h) tied of_exit =
    let both : Phase = workflow_phase b.own.node.phase (Some h.own.node.phase) in
    ap (λ (x : Bool). if x then (if h.own.finished then both else Running) else Running) tied
    ∙ ap (λ (x : Bool). if fulfilled b.own.node.phase then (if x then both else Running) else Running) of_exit
    ∙ one_test (fulfilled b.own.node.phase) (fulfilled h.own.node.phase) both Running

exit_tied : (m : Manifest) (A : Answers) (b : Made) (over : Bool) (name : Option (List ℕ)) → TiedIfSome (exit_if over m A b name)
exit_tied m A b true (Some name) = top_tied most_depth m A (status_tags m b) (exit_root m) name
exit_tied m A b true None = tt
exit_tied m A b false (Some name) = tt
exit_tied m A b false None = tt

pub meant : PhaseIsMeant
meant m A started granted =
    let b : Made = main_made m A in
    ap (started_phase m A) started ∙ ap (granted_phase m A) granted
    ∙ by_phases b (exit_of m A b) (top_tied most_depth m A (globals_of m) (root m) m.entrypoint) (exit_tied m A b b.own.finished m.on_exit)
