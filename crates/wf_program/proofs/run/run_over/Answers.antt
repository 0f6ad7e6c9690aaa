-- The store is new, so that every workflow is submitted.
use Rattle.std.proofs.Common.{sym, subst}
use Rattle.command_words.specs.declared.order.Mode.{Mode}
use Rattle.wf_object.specs.Documents.{law_of}
use Rattle.wf_program.specs.Inside.Ends.{kept_of, EndedSo}
use Rattle.wf_program.proofs.Submitting.{Laws, plain_by, swept_so, simulated_so}
use Rattle.wf_program.proofs.run.run_over.Goals as goal

pub returns-in-Simulate : goal.returns-in-Simulate
returns-in-Simulate g c =
    let before = g.O.Outage.faults c.args.store.now.outage in
    let laws : Laws = record { go_well = c.submissions_go_well.ensures; plain_runs = c.plain_runs_as_planned.ensures; plays = c.plays_lawfully.ensures; once = c.meets_once.ensures; said = c.state_is_as_said.ensures } in
    subst (λ (m : Mode). EndedSo m before c.args.document.now (kept_of g.O.Outage.faults c.simulate.new.store) c.simulate.result) (sym c.in-Simulate.is)
    (simulated_so laws c.args.document.now c.args.store.now.history c.simulate.new.store.history c.requires.new
    c.requires.sound.names c.simulate.ensures.on c.simulate.new.store.row before (g.O.Outage.faults c.simulate.new.store.outage) c.simulate.result
    c.simulate.ensures.simulated c.simulate.ensures.fault)

pub returns-in-Run : goal.returns-in-Run
returns-in-Run g c =
    let laws : Laws = record { go_well = c.submissions_go_well.ensures; plain_runs = c.plain_runs_as_planned.ensures; plays = c.plays_lawfully.ensures; once = c.meets_once.ensures; said = c.state_is_as_said.ensures } in
    swept_so laws c.args.document.now c.args.store.now.history c.sweep.new.store.history c.requires.new
    c.requires.sound.names c.sweep.ensures.on c.sweep.new.store.row (g.O.Outage.faults c.args.store.now.outage)
    (g.O.Outage.faults c.sweep.new.store.outage) c.args.mode (plain_by c.args.mode c.in-Run.is) c.sweep.result c.sweep.ensures.swept
    c.sweep.ensures.fault
