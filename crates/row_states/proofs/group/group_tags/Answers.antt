use Rattle.std.proofs.Common.{Some, sym, ap, ap₂, ◌∙◌, arith, List, min}
use Rattle.scopes.specs.Substitution.{Scope, value_in}
use Rattle.meaning.specs.Steps.{Member, group_tags}
use Rattle.row_states.proofs.Members.{none_left, tags_with, tags_of_members}
use Rattle.row_states.proofs.group.group_tags.Goals as goal

pub loop-left-init : goal.loop-left-init
loop-left-init c = record {
  called = omega (arith, c.min-left.ensures, c.len.ensures, c.len-2.ensures);
  made = omega (arith, c.min-left.ensures, c.len.ensures, c.len-2.ensures);
  told = λ tag.
      ap (λ (s : Scope). value_in s tag) c.new-tags.ensures
      ∙ ap (λ (ms : List Member). value_in (group_tags ms) tag)
      (sym (none_left c.args.calls.now c.args.states.now c.min-left.result (c.min-left.ensures ∙ ap₂ min c.len.ensures c.len-2.ensures)));
}

pub loop-left-preserved : goal.loop-left-preserved
loop-left-preserved c =
    let called = c.get.result.now in
    let made = c.state.result.now in
    record {
      called = omega (arith, c.loop-left.invariant.called);
      made = omega (arith, c.loop-left.invariant.made);
      told =
          tags_with c.args.calls.now c.args.states.now c.loop-left.left called made c.loop-left-test.true c.get.ensures (c.get-in-loop-left.ensures ∙ ap Some (sym c.state.ensures))
          c.loop-left.tags c.add_tags_of.new.tags (c.in_ok-add_tags_of.ensures made (sym c.node.ensures)) c.loop-left.invariant.told;
    }

pub returns : goal.returns
returns c = λ ms calls makes.
    tags_of_members ms c.args.calls.now c.args.states.now calls makes c.loop-left.left c.loop-left.tags (omega (arith, c.loop-left-test.false)) c.loop-left.invariant.told
