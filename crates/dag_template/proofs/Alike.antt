-- A task stands alike by what all tasks make, and by their states alone.
use Rattle.std.proofs.Common.{◌≡◌, refl, sym, ap, subst}
use Rattle.std.specs.Prelude.{ℕ, List, [], ◌∷◌, Bool, true, false, not, ◌&&◌, ◌||◌, Option, Some, None, map}
use Rattle.std.specs.List.{list_all}
use Rattle.tree_types.specs.Phases.{worst_of}
use Rattle.depends_expr.specs.declared.results.TaskResult.{TaskResult}
use Rattle.depends_expr.specs.Expression.{Expression, bare, has, negation, both, either}
use Rattle.depends_expr.specs.Truth.{holds, bare_holds, truth, named}
use Rattle.wf_manifest.specs.declared.calls.Task.{Task}
use Rattle.wf_manifest.specs.declared.calls.Dag.{Dag}
use Rattle.scopes.specs.Substitution.{Scope}
use Rattle.meaning.specs.declared.lines.Place.{Place}
use Rattle.meaning.specs.Answers.{Answers}
use Rattle.meaning.specs.Steps.{Caller, covered}
use Rattle.meaning.specs.Dags.{Names, awaited, is_meant, Standing, waiting, ready, exists, is_over, result_of, branch_of, is_existing, is_ready, is_at_rest, tags_before, Look, task_place, begun_task, free_by, free, decided_by, waits_by, meant, meant_by, standing}
use Rattle.dag_template.specs.declared.states.TaskState.{TaskState}
use Rattle.dag_template.specs.States.{state_of, phase_of, stated, nowhere, as_stated, as_begun}
use Rattle.dag_template.specs.Seen.{seen}
use Rattle.dag_template.proofs.Awaiting.{Each, each_left, each_right}

-- others see two standings alike
pub record Alike (x y : Standing) : Type 0 where
  pub existing : is_existing x ≡ is_existing y
  pub ready : is_ready x ≡ is_ready y
  pub over : is_over x ≡ is_over y
  pub rest : is_at_rest x ≡ is_at_rest y
  pub result : result_of x ≡ result_of y
  pub branch : branch_of x ≡ branch_of y

pub alike_refl : (x : Standing) → Alike x x
alike_refl x = record { existing = refl; ready = refl; over = refl; rest = refl; result = refl; branch = refl }

-- ---- by looks that are alike at some names

module _ (a b : Look) where
  abbrev pub AlikeAt : List ℕ → Type 0
  AlikeAt n = Alike (a n) (b n)

  pub over_same : (ns : Names) → Each AlikeAt ns → list_all (λ n. is_over (a n)) ns ≡ list_all (λ n. is_over (b n)) ns
  over_same [] h = refl
  over_same (n ∷ ns) h = λ i. h.0.over i && over_same ns h.1 i

  pub branches_same : (ns : Names) → Each AlikeAt ns → map (λ n. branch_of (a n)) ns ≡ map (λ n. branch_of (b n)) ns
  branches_same [] h = refl
  branches_same (n ∷ ns) h = λ i. h.0.branch i ∷ branches_same ns h.1 i

  pub truth_same :
      (e : Expression) → Each AlikeAt (named e) → truth (λ n. result_of (a n)) e ≡ truth (λ n. result_of (b n)) e
  truth_same (bare n) h = ap (λ (r : TaskResult). bare_holds r) h.0.result
  truth_same (has n w) h = ap (λ (r : TaskResult). holds r w) h.0.result
  truth_same (negation e) h = ap not (truth_same e h)
  truth_same (both d e) h =
      λ i. truth_same d (each_left AlikeAt (named d) (named e) h) i && truth_same e (each_right AlikeAt (named d) (named e) h) i
  truth_same (either d e) h =
      λ i. truth_same d (each_left AlikeAt (named d) (named e) h) i || truth_same e (each_right AlikeAt (named d) (named e) h) i

-- ---- one task, whose state tells how it stands

begun_told : (begun : Bool) (s : TaskState) (x : Standing) → s ≡ seen begun x → s.begun ≡ begun
begun_told begun s waiting e = ap (λ (r : TaskState). r.begun) e
begun_told begun s ready e = ap (λ (r : TaskState). r.begun) e
begun_told begun s (exists m branch tags) e = ap (λ (r : TaskState). r.begun) e

module _ (A : Answers) (called : Caller) (place : Place) (scope : Scope) (d : Dag) (states : List TaskState) (a b : Look) (i : ℕ) (t : Task) where
  abbrev begun : Bool
  begun = A.begun (task_place place i t).sels

  abbrev Tells : Standing → Type 0
  Tells x = state_of states i ≡ seen begun x

  begun_alike :
      (tags more : Scope) → Tells (begun_task A called place scope d tags i t) →
      Alike (begun_task A called place scope d tags i t) (begun_task (as_begun states) (as_stated states) nowhere [] d more i t)
  begun_alike tags more e =
      subst
      (λ (s : TaskState).
      Alike (begun_task A called place scope d tags i t)
      (exists (stated (task_place nowhere i t) s) (covered t.call.continue_on (phase_of s)) more))
      (sym e) (record { existing = refl; ready = refl; over = refl; rest = refl; result = refl; branch = refl })

  free_alike_by :
      (tags more : Scope) (c : Bool) → Tells (free_by A called place scope d tags i t c) →
      Alike (free_by A called place scope d tags i t c) (free_by (as_begun states) (as_stated states) nowhere [] d more i t c)
  free_alike_by tags more true e = begun_alike tags more e
  free_alike_by tags more false e = alike_refl ready

  free_alike :
      (tags more : Scope) → Tells (free A called place scope d tags i t) →
      Alike (free A called place scope d tags i t) (free (as_begun states) (as_stated states) nowhere [] d more i t)
  free_alike tags more e =
      subst
      (λ (x : Bool).
      Alike (free A called place scope d tags i t)
      (free_by (as_begun states) (as_stated states) nowhere [] d more i t (not d.fail_fast || x)))
      (sym (begun_told begun (state_of states i) (free A called place scope d tags i t) e))
      (free_alike_by tags more (not d.fail_fast || begun) e)

  decided_alike :
      (w : Expression) (c : Bool) → Each (AlikeAt a b) (named w) → Tells (decided_by A called place scope d a i t w c) →
      Alike (decided_by A called place scope d a i t w c)
      (decided_by (as_begun states) (as_stated states) nowhere [] d b i t w c)
  decided_alike w true h e = free_alike (tags_before a (named w)) (tags_before b (named w)) e
  decided_alike w false h e = record {
    existing = refl;
    ready = refl;
    over = refl;
    rest = refl;
    result = refl;
    branch = ap worst_of (branches_same a b (named w) h);
  }

  waits_alike :
      (w : Expression) (c : Bool) → Each (AlikeAt a b) (named w) → Tells (waits_by A called place scope d a i t w c) →
      Alike (waits_by A called place scope d a i t w c) (waits_by (as_begun states) (as_stated states) nowhere [] d b i t w c)
  waits_alike w false h e = alike_refl waiting
  waits_alike w true h e =
      subst
      (λ (x : Bool).
      Alike (waits_by A called place scope d a i t w true)
      (decided_by (as_begun states) (as_stated states) nowhere [] d b i t w x))
      (truth_same a b w h) (decided_alike w (truth (λ n. result_of (a n)) w) h e)

  meant_alike :
      (o : Option Expression) → ((w : Expression) → o ≡ Some w → Each (AlikeAt a b) (named w)) →
      Tells (meant A called place scope d a i t o) →
      Alike (meant A called place scope d a i t o) (meant (as_begun states) (as_stated states) nowhere [] d b i t o)
  meant_alike None h e = free_alike [] [] e
  meant_alike (Some w) h e =
      subst
      (λ (x : Bool).
      Alike (meant A called place scope d a i t (Some w))
      (waits_by (as_begun states) (as_stated states) nowhere [] d b i t w x))
      (over_same a b (named w) (h w refl)) (waits_alike w (list_all (λ n. is_over (a n)) (named w)) (h w refl) e)

  meant_alike_by :
      (c : Bool) → ((w : Expression) → awaited d.tasks t ≡ Some w → Each (AlikeAt a b) (named w)) →
      Tells (meant_by A called place scope d a i t c) →
      Alike (meant_by A called place scope d a i t c) (meant_by (as_begun states) (as_stated states) nowhere [] d b i t c)
  meant_alike_by true h e = meant_alike (awaited d.tasks t) h e
  meant_alike_by false h e = alike_refl waiting

  pub standing_alike :
      ((w : Expression) → awaited d.tasks t ≡ Some w → Each (AlikeAt a b) (named w)) →
      Tells (standing A called place scope d a i t) →
      Alike (standing A called place scope d a i t) (standing (as_begun states) (as_stated states) nowhere [] d b i t)
  standing_alike h e = meant_alike_by (is_meant d t) h e
