use Rattle.std.proofs.Common.{Option, ap, ◌∙◌}
use Rattle.std.specs.declared.sync.Arc.{Arc}
use Rattle.std.specs.declared.alloc.Global.{Global}
use Rattle.meaning.specs.Lines.{nothing}
use Rattle.tree_state.specs.declared.state.Line.{Line}
use Rattle.tree_state.specs.Inserting.{begins_later, ends_later}
use Rattle.tree_state.specs.Inside.Kids.{own_line, line_then, state_then}
use Rattle.tree_state.proofs.Inserts.{first_line}
use Rattle.tree_state.proofs.state.Kid.begins_later.Goals as goal

pub returns-in-Some-default : goal.returns-in-Some-default
returns-in-Some-default c = λ told rest.
    ap (λ (l : Option (Arc Line Global)). begins_later c.args.at (line_then l (state_then c.args.self.now.state rest))) c.in-Some-default.is-0
    ∙ first_line c.args.at c.in-Some-default.line.value (state_then c.args.self.now.state rest) c.is_later.result
    (λ b. c.is_later.ensures b ∙ ap (λ (l : Line). ends_later c.args.at b (own_line l nothing)) c.deref.ensures) told
