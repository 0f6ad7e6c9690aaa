-- A task that ran had begun, and made what its call makes.
use Rattle.std.proofs.Common.{◌≡◌, ℕ, [], ◌++◌, Bool, true, false, not, ◌||◌, Option, Some, None, codes, sym, ap, ◌∙◌}
use Rattle.std.specs.Prelude.{slice_get}
use Rattle.std.specs.List.{list_all}
use Rattle.tree_types.specs.declared.phase.Phase.TheVariants.{Running, Omitted}
use Rattle.tree_types.specs.declared.node.Kind.TheVariants as kind
use Rattle.tree_types.specs.declared.node.Note.TheVariants as note
use Rattle.depends_expr.specs.Expression.{Expression}
use Rattle.depends_expr.specs.Truth.{truth, named}
use Rattle.wf_manifest.specs.declared.calls.Task.{Task}
use Rattle.wf_manifest.specs.declared.calls.Dag.{Dag}
use Rattle.wf_manifest.specs.Valid.{HasRank}
use Rattle.scopes.specs.Substitution.{Scope}
use Rattle.meaning.specs.declared.lines.Place.{Place}
use Rattle.meaning.specs.Answers.{Answers}
use Rattle.meaning.specs.Lines.{Made, alone}
use Rattle.meaning.specs.Steps.{Caller}
use Rattle.meaning.specs.Dags.{named_by, parents, awaited, is_meant, is_over, result_of, Look, look, task_place, tags_before, free_by, decided_by, waits_by, meant, meant_by, standings}
use Rattle.growth.specs.Rounds.{RoundsSettle}
use Rattle.dag_board.specs.Boards.{made_of, stood}
use Rattle.dag_board.proofs.Lookups.{stood_is}

module _ (B : Answers) (other : Caller) (place : Place) (scope : Scope) (d : Dag) where
  module _ (at : Look) (i : ℕ) (t : Task) (m : Made) (runs : m.own.node.phase ≡ Running) where
    abbrev Was : Scope → Type 0
    Was seen = m ≡ other (codes "tasks.") (task_place place i t) (seen ++ scope) t.call

    was_free : (seen : Scope) (b : Bool) → made_of (free_by B other place scope d seen i t b) ≡ Some m → Was seen
    was_free seen false is = absurd (cc)
    was_free seen true is = let same : other (codes "tasks.") (task_place place i t) (seen ++ scope) t.call ≡ m = cc is in sym same

    was_decided : (e : Expression) (b : Bool) → made_of (decided_by B other place scope d at i t e b) ≡ Some m → Was (tags_before at (named e))
    was_decided e true is = was_free (tags_before at (named e)) (not d.fail_fast || B.begun (task_place place i t).sels) is
    was_decided e false is =
        let same : alone (task_place place i t) kind.Skipped Omitted note.DependsFalse ≡ m = cc is in
        let phase : Omitted ≡ Running = ap (λ (x : Made). x.own.node.phase) same ∙ runs in
        absurd (cc phase)

    was_waiting : (e : Expression) (b : Bool) → made_of (waits_by B other place scope d at i t e b) ≡ Some m → Was (tags_before at (named e))
    was_waiting e false is = absurd (cc)
    was_waiting e true is = was_decided e (truth (λ n. result_of (at n)) e) is

    was_meant : (w : Option Expression) → made_of (meant B other place scope d at i t w) ≡ Some m → Was (tags_before at (named_by w))
    was_meant None is = was_free [] (not d.fail_fast || B.begun (task_place place i t).sels) is
    was_meant (Some e) is = was_waiting e (list_all (λ n. is_over (at n)) (named e)) is

    was_by : (b : Bool) → made_of (meant_by B other place scope d at i t b) ≡ Some m → Was (tags_before at (parents d.tasks t))
    was_by false is = absurd (cc)
    was_by true is = was_meant (awaited d.tasks t) is

  pub had_begun : RoundsSettle → HasRank d.tasks → (i : ℕ) (t : Task) → slice_get d.tasks i ≡ Some t → (m : Made) → m.own.node.phase ≡ Running → made_of (stood (standings B other place scope d) i) ≡ Some m →
      m ≡ other (codes "tasks.") (task_place place i t) (tags_before (look (standings B other place scope d)) (parents d.tasks t) ++ scope) t.call
  had_begun settle ranked i t here m runs is =
      let at = look (standings B other place scope d) in
      was_by at i t m runs (is_meant d t) (ap made_of (sym (stood_is B other place scope d settle ranked i t here)) ∙ is)
