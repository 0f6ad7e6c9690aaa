-- The document that is asked for was run.
use Rattle.std.proofs.Common.{subst, Ok}
use Rattle.wf_program.specs.declared.asked.Asked.{Asked}
use Rattle.wf_program.specs.Runs.{Edge}
use Rattle.wf_program.specs.Inside.Ends.{Asks}
use Rattle.wf_program.proofs.Ends.{run_ends}
use Rattle.wf_program.proofs.top.end_of.Goals as goal

pub returns-in-Ok-Run-clause-ends : goal.returns-in-Ok-Run-clause-ends
returns-in-Ok-Run-clause-ends g c =
    let source : Edge = record {
      bytes_before = g.S.Source.left c.args.source.now;
      bytes_after = g.S.Source.left c.what_is_asked.new.source;
      faults_before = g.S.Source.faults c.args.source.now;
      faults_after = g.S.Source.faults c.what_is_asked.new.source;
    } in
    let asks = subst (λ (a : Asked). Asks c.args.words.now source (Ok a)) c.in-Ok-Run.field-0-is c.in-Ok-Run.ensures in
    run_ends c.args.words.now source c.in-Ok-Run.document c.in-Ok-Run.shown c.in-Ok-Run.mode (g.O.Outage.faults c.args.outage) asks.0 _ _ _ c.run.ensures.left
