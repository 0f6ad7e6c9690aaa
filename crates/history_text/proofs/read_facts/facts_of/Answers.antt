use Rattle.std.proofs.Common.{Some, sym, ap, ◌∙◌, arith}
use Rattle.serde_json.specs.View.{view}
use Rattle.history_text.specs.Inside.Reading.{fact_of}
use Rattle.history_text.proofs.AllOf.{step_at, failed}
use Rattle.history_text.proofs.read_facts.facts_of.Goals as goal

pub returns-in-Err : goal.returns-in-Err
returns-in-Err c =
    failed fact_of view c.args.parts.now c.loop-part.part-index c.part-item.result c.part-item.is (omega arith) (λ fact. fact) (λ facts. facts) c.in-Err.fault c.loop-part.facts c.loop-part.invariant c.in-Err.ensures

pub loop-part-preserved : goal.loop-part-preserved
loop-part-preserved c =
    step_at fact_of view c.args.parts.now c.loop-part.part-index c.part-item.result c.part-item.is (omega arith) c.loop-part.facts c.in-Ok.fact c.loop-part.invariant c.in-Ok.ensures
    ∙ ap Some (sym c.in_ok-push-in-Ok.ensures.ok)
