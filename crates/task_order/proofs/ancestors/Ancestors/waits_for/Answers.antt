use Rattle.std.proofs.Common.{◌≡◌, Some, sym, ap, ◌∙◌, subst, arith}
use Rattle.task_order.specs.Ancestors.{IsAncestor}
use Rattle.task_order.specs.Orders.{place}
use Rattle.task_order.specs.Inside.Rows.{has, bits_of}
use Rattle.task_order.proofs.NameLists.{place_reads}
use Rattle.task_order.proofs.Reached.{bits_at}
use Rattle.task_order.proofs.ancestors.Ancestors.waits_for.Goals as goal

pub returns : goal.returns
returns c =
    let table = c.self.inside.table in
    let name = c.args.name.now in
    let ancestor = c.args.ancestor.now in
    let v = c.in-Some.place in
    let p = c.in-Some-place.wanted in
    let at_v : place table name ≡ Some v = sym c.place.ensures ∙ c.in-Some.is in
    let at_p : place table ancestor ≡ Some p = sym c.place-2.ensures ∙ c.in-Some-place.is in
    let low = (place_reads table name v at_v).0 in
    let long = c.self.invariant.long in
    let here : c.has.result ≡ has (bits_of c.self.inside.rows.items v) p = c.has.ensures ∙ ap (λ ws. has ws p) (sym (bits_at c.self.inside.rows.items v c.index.result.now (omega (arith, low, long)) c.index.ensures)) in
    let exact = c.self.invariant.exact name ancestor v p at_v at_p in
    (λ t. subst (λ ts. IsAncestor ts ancestor name) c.self.view_is (exact.0 (sym here ∙ t)), λ is. here ∙ exact.1 (subst (λ ts. IsAncestor ts ancestor name) (sym c.self.view_is) is))
