-- The tags of what the task made.
use Rattle.std.proofs.Common.{◌≡◌, ◌++◌, List, ℕ, Option, Some, None, sym, ap, subst, ◌∙◌, ◌<◌}
use Rattle.std.specs.Prelude.{codes}
use Rattle.std.proofs.lemmas.List.{get_or_default}
use Rattle.scopes.specs.Values.{HasValuesOf}
use Rattle.meaning.specs.Lines.{Made, tags_of}
use Rattle.dag_board.specs.Boards.{name_at, state_at}
use Rattle.dag_board.specs.Inside.Befores.{made_tags}
use Rattle.dag_board.proofs.Lookups.{named_at}
use Rattle.dag_board.proofs.Results.{done_more}
use Rattle.dag_board.proofs.board.Board.add_tags.Goals as goal

pub returns-in-Some : goal.returns-in-Some
returns-in-Some c =
    let b = c.args.self.now in
    let p = c.args.place in
    let m : Made = c.in-Some.state in
    let new = c.add_tags_of.new.tags in
    let old = c.args.tags.now in
    let low = subst (λ (n : ℕ). p < n) (sym c.requires.fits.states) c.requires.place in
    let state : state_at b p ≡ Some m = get_or_default b.states.items p None c.index.result.now low ∙ sym c.index.ensures ∙ c.in-Some.is in
    let name : name_at c.args.dag.now.tasks p ≡ c.get.result.now.call.name = named_at c.args.dag.now.tasks p c.get.result.now c.get.ensures in
    done_more c.add_tags_of.result
    ((n : Made) → n.own.node ≡ c.node.result.now → HasValuesOf new (tags_of (codes "tasks." ++ c.get.result.now.call.name) n ++ old))
    (HasValuesOf new (made_tags (name_at c.args.dag.now.tasks p) (state_at b p) ++ old))
    (λ h. subst (λ (x : Option Made). HasValuesOf new (made_tags (name_at c.args.dag.now.tasks p) x ++ old)) (sym state)
    (subst (λ (n : List ℕ). HasValuesOf new (tags_of (codes "tasks." ++ n) m ++ old)) (sym name) (h m (sym (c.node.ensures ∙ ap (λ (x : Made). x.own.node) c.state.ensures)))))
    c.add_tags_of.ensures
