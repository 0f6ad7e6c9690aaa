-- The fact changes what is answered at its path alone.
use Rattle.std.proofs.Common.{◌≡◌, Some, sym, ap, ◌∙◌, subst}
use Rattle.meaning.specs.Answers.{Sels, Facts, answers}
use Rattle.locality.specs.Answered.{sels_of, SameBut}
use Rattle.tree_incr.proofs.next.along.Goals as goal

pub along-requires-clause-same : goal.along-requires-clause-same
along-requires-clause-same c =
    let more = c.requires.more in
    let path : sels_of more.fact ≡ Some c.as_slice.result.now = sym more.path ∙ c.in-Some.is ∙ ap (λ (p : Sels). Some p) (sym c.as_slice.ensures) in
    subst (λ (J : Facts). SameBut (answers J) (answers c.args.known.now) c.as_slice.result.now) (sym more.added)
    (c.facts_are_local.ensures c.args.known.now more.fact c.as_slice.result.now path)
