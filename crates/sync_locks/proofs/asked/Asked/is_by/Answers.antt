-- The test on paths is that of the definitions.
use Rattle.std.proofs.Common.{◌≡◌, Bool, true, false, ◌&&◌, bytes_eq, refl, sym, ◌∙◌, ap}
use Rattle.tree_types.proofs.Sels.{sels_tested}
use Rattle.sync_locks.proofs.asked.Asked.is_by.Goals as goal

and_true : (b : Bool) → b ≡ (b && true)
and_true true = refl
and_true false = refl

and_false : (b : Bool) → false ≡ (b && false)
and_false true = refl
and_false false = refl

pub returns-then-eq : goal.returns-then-eq
returns-then-eq c =
    let given = c.args.path.now.sels in
    let mine = c.args.self.now.key in
    let same = bytes_eq c.args.workflow.now mine.workflow in
    c.eq-then-eq.ensures ∙ and_true same ∙ ap (λ (b : Bool). same && b) (sym (sym (sels_tested given mine.path.sels) ∙ sym c.eq.ensures ∙ c.if-eq.true))

pub returns-else-eq : goal.returns-else-eq
returns-else-eq c =
    let given = c.args.path.now.sels in
    let mine = c.args.self.now.key in
    let same = bytes_eq c.args.workflow.now mine.workflow in
    c.if-eq.false ∙ and_false same ∙ ap (λ (b : Bool). same && b) (sym (sym (sels_tested given mine.path.sels) ∙ sym c.eq.ensures ∙ c.if-eq.false))
