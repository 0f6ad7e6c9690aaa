use Rattle.std.proofs.Common.{◌≡◌, ◌++◌, List, Some, length, min, sym, ap, ◌∙◌, append-nil, arith}
use Rattle.std.specs.Prelude.{map}
use Rattle.meaning.specs.Steps.{Member}
use Rattle.steps_template.specs.Opened.{seen}
use Rattle.row_states.proofs.Members.{none_left, seen_with}
use Rattle.row_states.proofs.group.members_of.Goals as goal

pub loop-i-preserved : goal.loop-i-preserved
loop-i-preserved c =
    seen_with c.args.calls.now c.args.states.now c.loop-i.i c.get.result.now c.state.result.now c.loop-i.members c.push.new.self c.member_of.result
    c.get.ensures (c.get-in-loop-i.ensures ∙ ap Some (sym c.state.ensures)) c.in_ok-push.ensures.ok (c.member_of.ensures)
    ∙ c.loop-i.invariant

pub returns : goal.returns
returns c =
    let all : c.loop-i.i ≡ min (length c.args.calls.now) (length c.args.states.now) =
    omega (arith, c.loop-i-test.false, c.loop-i.auto.i-end, c.min-count.ensures, c.len.ensures, c.len-2.ensures) in
    sym (append-nil c.loop-i.members)
    ∙ ap (λ (z : List Member). c.loop-i.members ++ map seen z) (sym (none_left c.args.calls.now c.args.states.now c.loop-i.i all))
    ∙ c.loop-i.invariant
