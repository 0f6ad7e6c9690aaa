-- One fact more is added, or makes too large a tree.
use Rattle.std.proofs.Common.{◌++◌, take, ap, ◌∙◌}
use Rattle.meaning.specs.Answers.{Facts}
use Rattle.tree_incr.specs.Workflows.{added}
use Rattle.wf_object.proofs.Bounds.{told, error_is, past_given}
use Rattle.wf_object.proofs.Fronts.{Fronted, one_more, next_front, large_at}
use Rattle.wf_object.proofs.closing.with_facts.Goals as goal

pub returns-in_err-state-2-clause-large : goal.returns-in_err-state-2-clause-large
returns-in_err-state-2-clause-large c h =
    let front : Fronted c.args.from.now c.loop-fact.state (take c.loop-fact.fact-index c.args.facts.now) = record { manifest = c.loop-fact.invariant.manifest; facts = c.loop-fact.invariant.facts } in
    let large = error_is c.from_residual-in_err-state-2.result c.in_err-state-2.field-0.0 c.from_residual-in_err-state-2.ensures.1 h in
    large_at c.args.from.now c.loop-fact.state c.args.facts.now c.loop-fact.fact-index c.fact-item.result c.in_ok-copy.field-0 front c.loop-fact-test.true c.fact-item.is c.in_ok-copy.ensures
    (past_given c.in_err-state-2.field-0.0 (added c.loop-fact.state c.in_ok-copy.field-0) large c.in_err-state-2.ensures)

pub loop-fact-preserved : goal.loop-fact-preserved
loop-fact-preserved c =
    let front : Fronted c.args.from.now c.loop-fact.state (take c.loop-fact.fact-index c.args.facts.now) = record { manifest = c.loop-fact.invariant.manifest; facts = c.loop-fact.invariant.facts } in
    let more = one_more c.args.from.now c.loop-fact.state (take c.loop-fact.fact-index c.args.facts.now) c.in_ok-copy.field-0 front c.in_ok-state-2.state (c.in_ok-state-2.ensures (told c.in_ok-state-2.state)) in
    record {
      manifest = more.manifest;
      facts = more.facts ∙ ap (λ (J : Facts). c.args.from.now.facts ++ J) (next_front c.args.facts.now c.loop-fact.fact-index c.fact-item.result c.in_ok-copy.field-0 c.loop-fact-test.true c.fact-item.is c.in_ok-copy.ensures);
    }
