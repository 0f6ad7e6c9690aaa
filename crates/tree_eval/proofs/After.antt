-- A workflow that runs on, by what its entrypoint makes.
use Rattle.std.proofs.Common.{◌≡◌, ◌+◌, ◌≤◌, Bool, true, false, cond, [], ◌∷◌, length, Option, Some, None, refl, sym, ap, ap₂, ◌∙◌, arith}
use Rattle.base_types.specs.Limits.{most_nodes}
use Rattle.tree_types.specs.declared.path.Sel.TheVariants.{Main, Exit}
use Rattle.tree_types.specs.declared.path.LockId.{LockId}
use Rattle.tree_types.specs.declared.phase.Phase.{Phase}
use Rattle.tree_types.specs.declared.phase.Phase.TheVariants.{Running}
use Rattle.tree_types.specs.Places.{sels_eq}
use Rattle.wf_manifest.specs.declared.manifest.Manifest.{Manifest}
use Rattle.meaning.specs.Answers.{Sels, Answers}
use Rattle.meaning.specs.Lines.{Made}
use Rattle.meaning.specs.Trees.{main_made, exit_if, exit_of, lock_granted, ended_phase, running_phase, granted_phase, started_phase, phase, lines, nodes_in}
use Rattle.locality.specs.Answered.{SameBut}
use Rattle.tree_state.specs.Counting.{count}
use Rattle.tree_eval.specs.declared.tops.Tops.{Tops}
use Rattle.tree_eval.specs.Whole.{Pair, pair, Whole, whole}
use Rattle.tree_eval.specs.Inside.Tops.{count_exit, meant_tops, count_tops}
use Rattle.tree_eval.specs.Inside.Stages.{Runs}
use Rattle.tree_eval.proofs.Running.{pair_run, nodes_run}

module _ (m : Manifest) (A : Answers) where
  granted_by : (b : Bool) → granted_phase m A b ≡ Running → b ≡ true
  granted_by false e = absurd (cc)
  granted_by true e = refl

  started_by : (b : Bool) → started_phase m A b ≡ Running → b ≡ true
  started_by false e = absurd (cc)
  started_by true e = refl

  -- a workflow whose phase is Running runs
  pub runs_by_phase : phase m A ≡ Running → Runs m A
  runs_by_phase e =
      let started = started_by A.started e in
      record { started = started; granted = granted_by (lock_granted A m.lock) (sym (ap (started_phase m A) started) ∙ e) }

  phase_runs : Runs m A → phase m A ≡ running_phase m A (main_made m A)
  phase_runs runs = ap (started_phase m A) runs.started ∙ ap (granted_phase m A) runs.granted

  -- while its entrypoint is not finished it has no exit handler, and is Running
  pub runs_on : Runs m A → (main : Made) → main ≡ main_made m A → main.own.finished ≡ false → record { main = main; exit = None; phase = Running } ≡ whole m A
  runs_on runs main is open_main =
      let finished : (main_made m A).own.finished ≡ false = sym (ap (λ (b : Made). b.own.finished) is) ∙ open_main in
      let none : exit_of m A (main_made m A) ≡ None = ap (λ (b : Bool). exit_if b m A (main_made m A) m.on_exit) finished in
      let running : phase m A ≡ Running = phase_runs runs ∙ ap (λ (b : Bool). cond b (ended_phase (main_made m A) (exit_of m A (main_made m A))) Running) finished in
      let both : pair m A ≡ (main, None) = pair_run m A runs ∙ ap₂ (λ (b : Made) (o : Option Made). (b, o)) (sym is) none in
      sym (ap₂ (λ (q : Pair) (p : Phase). record { main = q.0; exit = q.1; phase = p }) both running)

  pub few_nodes : Runs m A → (main : Made) → main ≡ main_made m A → main.own.finished ≡ false → count main ≤ most_nodes → length (nodes_in (lines m A)) ≤ most_nodes
  few_nodes runs main is open_main few =
      let finished : (main_made m A).own.finished ≡ false = sym (ap (λ (b : Made). b.own.finished) is) ∙ open_main in
      let none : exit_of m A (main_made m A) ≡ None = ap (λ (b : Bool). exit_if b m A (main_made m A) m.on_exit) finished in
      let counted : count_tops (meant_tops m A) ≡ count main + 0 = ap₂ (λ (b : Made) (o : Option Made). count b + count_exit o) (sym is) none in
      omega (arith, nodes_run m A runs, counted, few)

-- what was made while a workflow ran
module _ (m : Manifest) (B : Answers) (w : Whole) (is : w ≡ whole m B) where
  pub ran : w.phase ≡ Running → Runs m B
  ran running = runs_by_phase m B (sym (ap (λ (w : Whole). w.phase) is) ∙ running)

  pub was_main : Runs m B → w.main ≡ main_made m B
  was_main runs = ap (λ (w : Whole). w.main) is ∙ ap (λ (q : Pair). q.0) (pair_run m B runs)

-- a workflow that ran, and of which one fact more is recorded that is not its own, runs
runs_off : (m : Manifest) (A B : Answers) (changed : Sels) → SameBut A B changed → sels_eq [] changed ≡ false → Runs m B → Runs m A
runs_off m A B changed same off runs = record {
  started = same.started ∙ runs.started;
  granted = by m.lock runs.granted;
}
  where
    by : (o : Option LockId) → lock_granted B o ≡ true → lock_granted A o ≡ true
    by None e = refl
    by (Some l) e = same.granted [] off ∙ e

-- as one below its entrypoint
pub runs_still : (m : Manifest) (A B : Answers) (changed rest : Sels) → SameBut A B changed → changed ≡ Main ∷ rest → Runs m B → Runs m A
runs_still m A B changed rest same way = runs_off m A B changed same (ap (sels_eq []) way)

-- or below its exit handler
pub runs_behind : (m : Manifest) (A B : Answers) (rest : Sels) → SameBut A B (Exit ∷ rest) → Runs m B → Runs m A
runs_behind m A B rest same = runs_off m A B (Exit ∷ rest) same refl

-- what both made while a workflow ran
pub was_both : (m : Manifest) (B : Answers) (tops : Tops) (p : Phase) → record { main = tops.main; exit = tops.exit; phase = p } ≡ whole m B → Runs m B → tops ≡ meant_tops m B
was_both m B tops p is runs =
    ap (λ (w : Whole). record { main = w.main; exit = w.exit }) is
    ∙ ap (λ (q : Pair). record { main = q.0; exit = q.1 }) (pair_run m B runs)
