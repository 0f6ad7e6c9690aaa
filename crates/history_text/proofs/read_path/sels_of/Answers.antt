use Rattle.std.proofs.Common.{Some, sym, ap, ◌∙◌, arith}
use Rattle.history_text.specs.Inside.Reading.{sel_of}
use Rattle.history_text.proofs.AllOf.{step, stop}
use Rattle.history_text.proofs.read_path.sels_of.Goals as goal

pub returns-in-None : goal.returns-in-None
returns-in-None c = stop sel_of (λ part. part.now) c.args.parts.now c.loop-part.part-index _ (omega arith) c.loop-part.sels c.loop-part.invariant (sym c.sel_of.ensures ∙ c.in-None.is)

pub loop-part-preserved : goal.loop-part-preserved
loop-part-preserved c =
    step sel_of (λ part. part.now) c.args.parts.now c.loop-part.part-index _ (omega arith) c.loop-part.sels c.in-Some.sel c.loop-part.invariant (sym c.sel_of.ensures ∙ c.in-Some.is)
    ∙ ap Some (sym c.in_ok-push-in-Some.ensures.ok)
