-- The declared outputs see all that they ask for.
use Rattle.std.proofs.Common.{length, sym, ◌∙◌}
use Rattle.tree_change.proofs.Tagging.{said_tagged, said_fallen, said_unasked, whole_first, said_made}
use Rattle.tree_change.proofs.front.Front.ready_for_outputs.Goals as goal

pub returns-then-self : goal.returns-then-self
returns-then-self c called place is = said_tagged called place c.args.scope.now c.args.groups.now c.args.self.now c.args.declared.now c.if-self.true is

pub returns-then-not-have_succeeded : goal.returns-then-not-have_succeeded
returns-then-not-have_succeeded c called place is =
    said_fallen called place c.args.scope.now c.args.groups.now c.args.self.now c.args.declared.now c.have_succeeded.result c.have_succeeded.ensures c.if-not-have_succeeded.true is

pub returns-then-outputs_ask_for : goal.returns-then-outputs_ask_for
returns-then-outputs_ask_for c called place is =
    said_made called place c.args.scope.now c.args.groups.now c.tag.result c.args.self.now c.tag.new.self c.args.declared.now is c.tag.ensures.states
    (c.tag.ensures.scope called place (length c.args.groups.now) (whole_first called place c.args.scope.now c.args.groups.now c.args.self.now.row.states is.0))

pub returns : goal.returns
returns c called place is =
    said_unasked called place c.args.scope.now c.args.groups.now c.args.self.now c.args.declared.now c.if-self.false (sym c.outputs_ask_for.ensures ∙ c.if-outputs_ask_for.false) is
