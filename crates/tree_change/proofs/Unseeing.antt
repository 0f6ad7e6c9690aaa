-- What a task makes that sees no tag of those that it waits for.
use Rattle.std.proofs.Common.{◌≡◌, inl, inr, ℕ, ◌++◌, Option, codes, sym, ap}
use Rattle.depends_expr.specs.Expression.{Expression}
use Rattle.wf_manifest.specs.declared.calls.Task.{Task}
use Rattle.wf_manifest.specs.declared.calls.Dag.{Dag}
use Rattle.wf_manifest.specs.declared.manifest.Manifest.{Manifest}
use Rattle.scopes.specs.Substitution.{Scope}
use Rattle.meaning.specs.declared.lines.Place.{Place}
use Rattle.meaning.specs.Answers.{Answers}
use Rattle.meaning.specs.Dags.{look, named_by, parents, tags_before, standings}
use Rattle.meaning.specs.Calls.{calls}
use Rattle.mentions.proofs.Calls.{unasked_in_calls}
use Rattle.mentions.proofs.TaskTags.{task_tags_begin_so}
use Rattle.tree_change.specs.Inside.Unseeing.{SeesNone}

module _ (m : Manifest) (A B : Answers) (g : Scope) (left : ℕ) (place : Place) (scope : Scope) (d : Dag) (t : Task) where
  abbrev seen : Option Expression → Scope
  seen w = tags_before (look (standings B (calls m B g left) place scope d)) (named_by w)

  -- behind their tags it makes the same
  pub makes_same : (at : Place) → SeesNone d.tasks t →
      calls m A g left (codes "tasks.") at scope t.call
      ≡ calls m A g left (codes "tasks.") at (tags_before (look (standings B (calls m B g left) place scope d)) (parents d.tasks t) ++ scope) t.call
  makes_same at (inl none) = ap (λ (w : Option Expression). calls m A g left (codes "tasks.") at (seen w ++ scope) t.call) (sym none)
  makes_same at (inr unasked) =
      let ns = parents d.tasks t in
      unasked_in_calls m A g left (codes "tasks.") (codes "tasks.") at scope (tags_before (look (standings B (calls m B g left) place scope d)) ns ++ scope) t.call
      (λ tag other. sym (task_tags_begin_so B (calls m B g left) place scope d ns scope tag other))
      unasked
