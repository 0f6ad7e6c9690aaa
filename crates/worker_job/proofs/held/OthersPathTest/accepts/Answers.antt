-- Another path is one of other selectors.
use Rattle.std.proofs.Common.{Bool, not, ◌&&◌, sym, ◌∙◌, ap}
use Rattle.tree_types.proofs.Sels.{sels_tested}
use Rattle.worker_job.specs.Inside.Held.{such}
use Rattle.worker_job.proofs.held.OthersPathTest.accepts.Goals as goal

pub returns-then-ne : goal.returns-then-ne
returns-then-ne c =
    let test = c.args.self.now in
    c.is_such.ensures
    ∙ ap (λ (b : Bool). b && such test.stands.standing test.stands.object.now c.args.path.now)
    (sym (ap not (sym (sels_tested c.args.path.now.sels test.path.now.sels)) ∙ sym c.ne.ensures ∙ c.if-ne.true))

pub returns-else-ne : goal.returns-else-ne
returns-else-ne c =
    let test = c.args.self.now in
    c.if-ne.false
    ∙ ap (λ (b : Bool). b && such test.stands.standing test.stands.object.now c.args.path.now)
    (sym (ap not (sym (sels_tested c.args.path.now.sels test.path.now.sels)) ∙ sym c.ne.ensures ∙ c.if-ne.false))
