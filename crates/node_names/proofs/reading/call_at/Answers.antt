use Rattle.std.proofs.Common.{◌≡◌, true, false, sym, ◌∙◌}
use Rattle.std.specs.Prelude.{codes}
use Rattle.std.proofs.lemmas.Slice.Eq.{bytes_eq-Decides}
use Rattle.node_names.proofs.BeginsWithNone.{no_name}
use Rattle.node_names.proofs.reading.call_at.Goals as goal

pub returns-then-not-is_name : goal.returns-then-not-is_name
returns-then-not-is_name c =
    let name = c.split_name.result.0.now in
    no_name c.args.after.now name c.split_name.result.1.now c.split_name.ensures.whole c.split_name.ensures.name c.split_name.ensures.stops
    (λ same. absurd (let both : false ≡ true = c.if-eq.ensures ∙ (bytes_eq-Decides name (codes "onExit")).1 same in cc))
    (sym c.if-not-is_name.ensures)
