-- The first group that is not made, or did not succeed, decides.
use Rattle.std.proofs.Common.{◌∙◌, sym, ap, add-one}
use Rattle.steps_template.specs.Groups.{group_phase}
use Rattle.steps_template.proofs.Turns.{stops, goes_on}
use Rattle.steps_template.proofs.groups.steps_next.Goals as goal

pub returns-then-not-is_succeeded : goal.returns-then-not-is_succeeded
returns-then-not-is_succeeded c =
    let phase = c.group_phase-phase.ensures ∙ ap group_phase c.as_slice.ensures in
    c.stopped.ensures
    ∙ sym (stops c.args.groups.now c.loop-i.i c.index-groups-i.result c.loop-i-test.true c.index-groups-i.is c.group_phase-phase.result
    c.if-not-group.false phase (sym c.is_succeeded.ensures ∙ c.if-not-is_succeeded.true))
    ∙ c.loop-i.invariant

pub loop-i-preserved : goal.loop-i-preserved
loop-i-preserved c =
    let phase = c.group_phase-phase.ensures ∙ ap group_phase c.as_slice.ensures in
    rw add-one (sym (goes_on c.args.groups.now c.loop-i.i c.index-groups-i.result c.loop-i-test.true c.index-groups-i.is c.group_phase-phase.result
    c.if-not-group.false phase (sym c.is_succeeded.ensures ∙ c.if-not-is_succeeded.false))
    ∙ c.loop-i.invariant)
