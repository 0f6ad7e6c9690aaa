use Rattle.std.proofs.Common.{ap, ◌∙◌}
use Rattle.std.specs.Prelude.{slice_get}
use Rattle.wf_places.proofs.Positions.{output_told, no_output_told}
use Rattle.wf_places.proofs.tables.TemplateTable.has_output.Goals as goal

pub returns-in-Some : goal.returns-in-Some
returns-in-Some c = output_told c.self.inside.all.now c.args.self.now c.self.inside.names c.self.inside.outputs.items c.args.name.now c.args.output.now c.position.result c.in-Some.outputs.now c.has.result c.self.view_is c.self.invariant.names_are c.self.invariant.outputs_are c.position.ensures (c.in-Some.ensures ∙ ap (λ xs. slice_get xs c.position.result) c.as_slice.ensures.value) c.has.ensures

pub returns-in-None : goal.returns-in-None
returns-in-None c = no_output_told c.self.inside.all.now c.args.self.now c.self.inside.names c.self.inside.outputs.items c.args.name.now c.args.output.now c.position.result c.self.view_is c.self.invariant.names_are c.self.invariant.outputs_are c.position.ensures (c.in-None.ensures ∙ ap (λ xs. slice_get xs c.position.result) c.as_slice.ensures.value)
