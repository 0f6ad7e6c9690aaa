-- The test on paths is that of the definitions.
use Rattle.std.proofs.Common.{Bool, ◌&&◌, sym, ◌∙◌, ap}
use Rattle.tree_types.specs.Places.{sels_eq}
use Rattle.tree_types.proofs.Sels.{sels_tested}
use Rattle.memo_cache.proofs.table.is_by.Goals as goal

pub returns-then-eq : goal.returns-then-eq
returns-then-eq c =
    let mine = c.args.saved.now.writer.path.sels in
    let given = c.args.path.now.sels in
    c.eq-then-eq.ensures
    ∙ sels_tested mine given
    ∙ ap (λ (b : Bool). b && sels_eq mine given) (sym (sym c.eq.ensures ∙ c.if-eq.true))
