-- From what the entrypoint and the exit handler make to the whole.
use Rattle.std.proofs.Common.{◌≡◌, ℕ, ◌+◌, ◌<◌, ◌≤◌, Bool, true, false, List, [], ◌++◌, length, length-append, Option, Some, None, Result, Ok, Err, refl, sym, ap, ◌∙◌, subst, arith}
use Rattle.std.specs.Prelude.{IsErrAnd}
use Rattle.base_types.specs.Limits.{most_nodes}
use Rattle.tree_types.specs.declared.path.LockId.{LockId}
use Rattle.tree_types.specs.declared.phase.Phase.{Phase}
use Rattle.tree_types.specs.declared.node.Node.{Node}
use Rattle.wf_manifest.specs.declared.manifest.Manifest.{Manifest}
use Rattle.meaning.specs.declared.lines.Line.{Line}
use Rattle.meaning.specs.Answers.{Answers}
use Rattle.meaning.specs.Lines.{Made, lines_in}
use Rattle.meaning.specs.Trees.{main_made, running_lines, lines_started, lines_locked, lines_by, lock_granted, lines, exit_lines, node_in, nodes_in, phase}
use Rattle.hooks_exit.specs.Exits.{PhaseIsMeant}
use Rattle.tree_state.specs.declared.refused.TreeRefused.{TreeRefused}
use Rattle.tree_state.specs.declared.refused.TreeRefused.TheVariants.{TooLarge, Memory}
use Rattle.tree_state.proofs.Tellings.{filter_append}
use Rattle.tree_state.proofs.Counts.{counted}
use Rattle.tree_eval.specs.declared.tops.Tops.{Tops}
use Rattle.tree_eval.specs.Whole.{Pair, running_pair, locked_pair, started_pair, pair_by, pair, Whole, LinesAreMeant}
use Rattle.tree_eval.specs.Inside.Tops.{count_exit, meant_tops, count_tops, lines_of, phase_of, GivesTops}
use Rattle.tree_eval.specs.Inside.Stages.{GivesWhole, Runs}

counted_exit : (o : Option Made) → length (nodes_in (exit_lines o)) ≡ count_exit o
counted_exit None = refl
counted_exit (Some h) = counted h

-- the nodes of both are as many as are counted
pub counted_tops : (tops : Tops) → length (nodes_in (lines_of tops)) ≡ count_tops tops
counted_tops tops =
    let both : length (nodes_in (lines_of tops)) ≡ length (nodes_in (lines_in tops.main)) + length (nodes_in (exit_lines tops.exit)) =
    ap (λ (ns : List Node). length ns) (filter_append node_in (lines_in tops.main) (exit_lines tops.exit)) ∙ length-append (nodes_in (lines_in tops.main)) (nodes_in (exit_lines tops.exit)) in
    omega (arith, both, counted tops.main, counted_exit tops.exit)

module _ (m : Manifest) (A : Answers) where
  granted_lines : (o : Option LockId) → lock_granted A o ≡ true → lines_started m A o ≡ running_lines m A (main_made m A)
  granted_lines None e = refl
  granted_lines (Some l) e = ap (lines_locked m A l) e

  lines_run : Runs m A → lines m A ≡ lines_of (meant_tops m A)
  lines_run runs = ap (lines_by m A) runs.started ∙ granted_lines m.lock runs.granted

  pub nodes_run : Runs m A → length (nodes_in (lines m A)) ≡ count_tops (meant_tops m A)
  nodes_run runs = ap (λ (ls : List Line). length (nodes_in ls)) (lines_run runs) ∙ counted_tops (meant_tops m A)

  phase_run : Runs m A → PhaseIsMeant → phase m A ≡ phase_of (meant_tops m A)
  phase_run runs law = law m A runs.started runs.granted

  granted_pair : (o : Option LockId) → lock_granted A o ≡ true → started_pair m A o ≡ running_pair m A
  granted_pair None e = refl
  granted_pair (Some l) e = ap (locked_pair m A l) e

  pub pair_run : Runs m A → pair m A ≡ running_pair m A
  pair_run runs = ap (pair_by m A) runs.started ∙ granted_pair m.lock runs.granted

  fails_by : Runs m A → (e : TreeRefused) → GivesTops (Err e) m A → GivesWhole (Err e) m A
  fails_by runs TooLarge many = subst (λ (n : ℕ). most_nodes < n) (sym (nodes_run runs)) many
  fails_by runs Memory none = tt

  pub run_fails : Runs m A → (r : Result Whole TreeRefused) (e : TreeRefused) → IsErrAnd r (λ z. z ≡ e) → GivesTops (Err e) m A → GivesWhole r m A
  run_fails runs (Ok x) e is fails = absurd is
  run_fails runs (Err z) e is fails = fails_by runs z (subst (λ (w : TreeRefused). GivesTops (Err w) m A) (sym is) fails)

  abbrev whole_by : Pair → Phase → Whole
  whole_by q p = record { main = q.0; exit = q.1; phase = p }

  pub run_told : Runs m A → PhaseIsMeant → (tops : Tops) (p : Phase) → GivesTops (Ok tops) m A → p ≡ phase_of tops → GivesWhole (Ok (record { main = tops.main; exit = tops.exit; phase = p })) m A
  run_told runs law tops p given seen = (
    ap (whole_by (tops.main, tops.exit)) (seen ∙ ap phase_of given.0 ∙ sym (phase_run runs law))
        ∙ ap (λ (t : Tops). whole_by (t.main, t.exit) (phase m A)) given.0
        ∙ ap (λ (q : Pair). whole_by q (phase m A)) (sym (pair_run runs)),
    subst (λ (n : ℕ). n ≤ most_nodes) (sym (nodes_run runs)) given.1,
  )

-- ---- its lines

module _ (m : Manifest) (A : Answers) where
  locked_lines : (l : LockId) (b : Bool) → lines_in (locked_pair m A l b).0 ++ exit_lines (locked_pair m A l b).1 ≡ lines_locked m A l b
  locked_lines l false = refl
  locked_lines l true = refl

  started_lines : (o : Option LockId) → lines_in (started_pair m A o).0 ++ exit_lines (started_pair m A o).1 ≡ lines_started m A o
  started_lines None = refl
  started_lines (Some l) = locked_lines l (A.granted [])

  lines_when : (b : Bool) → lines_in (pair_by m A b).0 ++ exit_lines (pair_by m A b).1 ≡ lines_by m A b
  lines_when false = refl
  lines_when true = started_lines m.lock

pub lines_meant : LinesAreMeant
lines_meant m A = lines_when m A A.started
