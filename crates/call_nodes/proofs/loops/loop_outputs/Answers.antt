use Rattle.std.proofs.Common.{◌≡◌, ◌+◌, ◌++◌, ◌∙◌, ap, ap₂, List, ℕ, map, drop, Bor, arith}
use Rattle.tree_types.specs.declared.outcome.Param.{Param}
use Rattle.tree_types.specs.declared.outcome.Outputs.{Outputs}
use Rattle.call_nodes.specs.Inside.Loops.{output}
use Rattle.call_nodes.proofs.Gathered.{mapped_more, all_mapped, made_of, loop_outputs_of}
use Rattle.call_nodes.proofs.loops.loop_outputs.Goals as goal

pub loop-i-preserved : goal.loop-i-preserved
loop-i-preserved c =
    let i = c.loop-i.i in
    let ds = c.args.declared.now in
    let os : List Outputs = map (λ (o : Bor Outputs). o.now) c.args.items.now in
    let param : Param = record { name = c.in_ok-copy.field-0; value = c.in_ok-output_text.field-0 } in
    let made : param ≡ output os c.get.result.now =
    ap₂ (λ (n v : List ℕ). record { name = n; value = v }) c.in_ok-copy.ensures c.in_ok-output_text.ensures in
    ap (λ (ps : List Param). ps ++ map (output os) (drop (i + 1) ds)) c.in_ok-push.ensures.ok
    ∙ mapped_more (output os) c.loop-i.params ds i c.get.result.now param c.get.ensures made
    ∙ c.loop-i.invariant

pub returns : goal.returns
returns c ms e =
    let os : List Outputs = map (λ (o : Bor Outputs). o.now) c.args.items.now in
    let ds = c.args.declared.now in
    let all : c.loop-i.params ≡ map (output os) ds = all_mapped (output os) c.loop-i.params ds c.loop-i.i c.loop-i.invariant (omega arith) in
    ap₂ made_of c.in_ok-results_text.ensures all
    ∙ loop_outputs_of ds ms os e
