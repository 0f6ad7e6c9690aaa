-- The fact is added, and then the journal is closed.
use Rattle.std.proofs.Common.{◌++◌, [], ◌∷◌, ap₂, ◌∙◌}
use Rattle.tree_types.specs.declared.fact.Fact.{Fact}
use Rattle.meaning.specs.Answers.{Facts}
use Rattle.wf_object.proofs.Bounds.{told, added_fits}
use Rattle.wf_object.proofs.Adds.{add_err, close_err, close_same, close_ok}
use Rattle.wf_object.proofs.object.WfObject.add.Goals as goal

pub returns-in_err-state : goal.returns-in_err-state
returns-in_err-state c = add_err c.args.self.now c.self.inside.state c.self.view_is c.args.fact c.in_err-state.field-0.0 c.in_err-state.ensures c.from_residual-in_err-state.result c.from_residual-in_err-state.ensures.1

pub close-requires : goal.close-requires
close-requires c = added_fits c.self.inside.state c.args.fact c.in_ok-state.state (c.in_ok-state.ensures (told c.in_ok-state.state))

pub returns-in_err-state-2 : goal.returns-in_err-state-2
returns-in_err-state-2 c =
    close_err c.args.self.now c.self.inside.state c.self.view_is c.args.fact c.in_ok-state.state (c.in_ok-state.ensures (told c.in_ok-state.state)) c.push.new.self c.in_err-state-2.field-0.0 c.in_err-state-2.ensures
    c.from_residual-in_err-state-2.result c.from_residual-in_err-state-2.ensures.1

pub over-requires : goal.over-requires
over-requires c =
    close_same c.args.self.now c.self.inside.state c.self.view_is c.args.fact c.in_ok-state.state (c.in_ok-state.ensures (told c.in_ok-state.state)) c.push.new.self
    (c.in_ok-push.ensures.ok ∙ ap₂ (λ (J : Facts) (f : Fact). J ++ f ∷ []) c.in_ok-facts.ensures c.in_ok-copy.ensures) c.in_ok-state-2.state c.in_ok-state-2.facts c.in_ok-state-2.ensures

pub returns : goal.returns
returns c =
    close_ok c.args.self.now c.self.inside.state c.self.view_is c.args.fact c.in_ok-state.state (c.in_ok-state.ensures (told c.in_ok-state.state)) c.push.new.self
    (c.in_ok-push.ensures.ok ∙ ap₂ (λ (J : Facts) (f : Fact). J ++ f ∷ []) c.in_ok-facts.ensures c.in_ok-copy.ensures) c.in_ok-state-2.state c.in_ok-state-2.facts c.in_ok-state-2.ensures
    c.requires c.in_ok-over.field-0 c.in_ok-over.ensures
