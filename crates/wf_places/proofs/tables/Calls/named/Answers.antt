use Rattle.std.proofs.Common.{Some, None, ap, ◌∙◌}
use Rattle.std.specs.Prelude.{slice_get}
use Rattle.wf_places.proofs.Positions.{call_told}
use Rattle.wf_places.proofs.tables.Calls.named.Goals as goal

pub returns-in-Some : goal.returns-in-Some
returns-in-Some c = call_told (λ call. call.now) c.self.inside.calls.items c.args.self.now c.self.inside.names c.args.name.now c.position.result (Some c.in-Some.call.now) c.self.view_is c.self.invariant c.position.ensures (c.in-Some.ensures ∙ ap (λ xs. slice_get xs c.position.result) c.as_slice.ensures.value)

pub returns-in-None : goal.returns-in-None
returns-in-None c = call_told (λ call. call.now) c.self.inside.calls.items c.args.self.now c.self.inside.names c.args.name.now c.position.result None c.self.view_is c.self.invariant c.position.ensures (c.in-None.ensures ∙ ap (λ xs. slice_get xs c.position.result) c.as_slice.ensures.value)
