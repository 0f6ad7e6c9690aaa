-- The next of what the jobs work on and of commands.
use Rattle.std.proofs.Common.{List, ◌++◌, ◌∙◌, ap, sym, subst}
use Rattle.std.specs.List.{flat_map}
use Rattle.history.specs.History.{Event, clock_of}
use Rattle.law.specs.Contents.{Content}
use Rattle.law.specs.Due.{command_tick}
use Rattle.next_step.specs.Ticks.{ticks_by, least_above}
use Rattle.tree_state.specs.Finding.{sooner}
use Rattle.wf_object.specs.Documents.{law_of, command_of}
use Rattle.sim_schedule.specs.declared.jobs.Job.{Job}
use Rattle.sim_schedule.specs.Inside.Jobs.{given, AllWait}
use Rattle.sim_schedule.specs.Inside.Rosters.{ticks_of}
use Rattle.sim_schedule.proofs.Dues.{by_roster, mapped_twice}
use Rattle.sim_schedule.proofs.Ends.{flows_all_wait, pods_all_wait}
use Rattle.sim_schedule.proofs.due.next_after.Goals as goal

pub returns : goal.returns
returns g c = λ is known.
    let D = law_of c.args.document.now in
    let h = c.args.store.now.history in
    let flows = subst (AllWait D h) (sym c.as_slice.ensures) (flows_all_wait D h c.args.roster.now is) in
    let pods = subst (AllWait D h) (sym c.as_slice-2.ensures) (pods_all_wait D h c.args.roster.now is known) in
    by_roster D h c.args.roster.now is (λ x. command_tick (command_of x)) c.args.document.now.commands (clock_of h) c.clock.result
    c.in_ok-workflows.workflows c.in_ok-pods.pods c.next_command-said.result c.sooner-2.result c.clock.ensures
    (c.in_ok-workflows.ensures D flows ∙ ap (λ (js : List Job). least_above (clock_of h) (flat_map (λ j. ticks_of D h (given j)) js)) c.as_slice.ensures)
    (c.in_ok-pods.ensures D pods ∙ ap (λ (js : List Job). least_above (clock_of h) (flat_map (λ j. ticks_of D h (given j)) js)) c.as_slice-2.ensures)
    (rw (← c.as_slice-3.ensures) c.next_command-said.ensures)
    (c.sooner-2.ensures ∙ ap (λ o. sooner o c.next_command-said.result) c.sooner.ensures)
    ∙ ap (λ ts. least_above (clock_of h) (flat_map (λ (e : Event Content). ticks_by D h e.entry) h.events ++ ts))
    (sym (mapped_twice command_tick command_of c.args.document.now.commands))
