use Rattle.std.proofs.Common.{true≢false, sym, ◌∙◌}
use Rattle.std.specs.Prelude.{Some, None}
use Rattle.worker_job.specs.Readings as reads
use Rattle.worker_job.proofs.Wanted.{noded}
use Rattle.worker_job.proofs.Holding.{none_released, first_released}
use Rattle.worker_job.proofs.reading.Reading.first_kept.Goals as goal

pub returns-in-None-find_node : goal.returns-in-None-find_node
returns-in-None-find_node c =
    let r = c.args.self.now in
    noded r.object.now.manifest r.object.now.journal c.state.result.now (reads.releasing r) None c.state.ensures c.in-None-find_node.ensures

pub returns-in-Some-find_node : goal.returns-in-Some-find_node
returns-in-Some-find_node c =
    let r = c.args.self.now in
    c.kept.ensures
    ∙ noded r.object.now.manifest r.object.now.journal c.state.result.now (reads.releasing r) (Some c.in-Some-find_node.node.now) c.state.ensures c.in-Some-find_node.ensures

pub returns-in-Nothing : goal.returns-in-Nothing
returns-in-Nothing c = none_released c.args.self.now c.in-Nothing.ensures

pub returns-in-None : goal.returns-in-None
returns-in-None c =
    c.in-None.ensures
    ∙ first_released c.args.self.now c.in-One.path.now c.in-One.ensures.0 c.in-One.ensures.1 c.in-One.ensures.2
    (λ e. true≢false (sym (c.is_empty.ensures.1 e) ∙ c.if-not-is_empty.true))

pub returns-in-Some : goal.returns-in-Some
returns-in-Some c =
    c.in-Some.ensures
    ∙ first_released c.args.self.now c.in-One.path.now c.in-One.ensures.0 c.in-One.ensures.1 c.in-One.ensures.2
    (λ e. true≢false (sym (c.is_empty.ensures.1 e) ∙ c.if-not-is_empty.true))
