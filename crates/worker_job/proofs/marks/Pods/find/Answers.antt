-- What the state asks for is what the workflow asks for.
use Rattle.std.proofs.Common.{List, map, sym, ap, ◌∙◌, subst}
use Rattle.std.specs.Prelude.{Bool, IfSome}
use Rattle.std.specs.List.{find}
use Rattle.tree_types.specs.declared.want.Want.{Want}
use Rattle.tree_eval.specs.Pods.{NoneAmong}
use Rattle.worker_job.specs.Inside.{look_told}
use Rattle.worker_job.specs.Inside.Marks.{such}
use Rattle.worker_job.proofs.Marked.{asks_same}
use Rattle.worker_job.proofs.marks.Pods.find.Goals as goal

pub returns-clause-first : goal.returns-clause-first
returns-clause-first c none =
    let f = c.args.self.now.object.now in
    let t : Want → Bool = such c.args.sought (map look_told c.args.self.now.looks.now) f in
    c.find_pod_behind.ensures.first (subst (λ (ws : List Want). NoneAmong c.args.known t ws) (sym (asks_same f c.state.result.now c.state.ensures)) none) ∙ ap (λ (ws : List Want). find t ws) (asks_same f c.state.result.now c.state.ensures)

pub returns-clause-known : goal.returns-clause-known
returns-clause-known c none =
    let f = c.args.self.now.object.now in
    let t : Want → Bool = such c.args.sought (map look_told c.args.self.now.looks.now) f in
    subst (λ (ws : List Want). IfSome c.find_pod_behind.result (λ p. NoneAmong p.0 t ws)) (asks_same f c.state.result.now c.state.ensures)
    (c.find_pod_behind.ensures.known (subst (λ (ws : List Want). NoneAmong c.args.known t ws) (sym (asks_same f c.state.result.now c.state.ensures)) none))
