use Rattle.std.proofs.Common.{◌≡◌, true, false, sym, ap₂, ◌∙◌}
use Rattle.std.specs.Prelude.{bytes_eq}
use Rattle.call_nodes.proofs.DeclByDecl.{param_here, param_later}
use Rattle.call_nodes.proofs.endings.param_of.Goals as goal

pub returns-then-eq : goal.returns-then-eq
returns-then-eq c =
    let same : bytes_eq c.get-param.result.now.name c.args.name.now ≡ true =
    sym (ap₂ bytes_eq c.as_str.ensures c.as_str-in-loop-i.ensures) ∙ sym c.eq.ensures ∙ c.if-eq.true in
    sym c.loop-i.invariant ∙ param_here c.args.name.now c.args.params.now c.loop-i.i c.get-param.result.now c.get-param.ensures same

pub loop-i-preserved : goal.loop-i-preserved
loop-i-preserved c =
    let differs : bytes_eq c.get-param.result.now.name c.args.name.now ≡ false =
    sym (ap₂ bytes_eq c.as_str.ensures c.as_str-in-loop-i.ensures) ∙ sym c.eq.ensures ∙ c.if-eq.false in
    param_later c.args.name.now c.args.params.now c.loop-i.i c.get-param.result.now c.get-param.ensures differs ∙ c.loop-i.invariant
