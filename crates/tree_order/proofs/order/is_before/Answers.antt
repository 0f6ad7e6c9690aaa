-- Selector by selector: at the first that differs, or where one of them ends.
use Rattle.std.proofs.Common.{◌+◌, ◌≤◌, length, ◌∙◌, sym, refl, arith}
use Rattle.tree_order.proofs.Compared.{ends_first, ends_behind, differs, agrees}
use Rattle.tree_order.proofs.order.is_before.Goals as goal

pub loop-position-init : goal.loop-position-init
loop-position-init c = (omega arith, refl)

pub returns-in_default : goal.returns-in_default
returns-in_default c =
    ends_first c.args.path.now c.args.other.now c.loop-position.position c.loop-position.invariant.1 c.in_default.ensures.lookup.3 c.loop-position-test.true

pub returns-then-not-is_same : goal.returns-then-not-is_same
returns-then-not-is_same c =
    let at = c.in-Some.ensures.lookup in
    c.comes_first.ensures
    ∙ differs c.args.path.now c.args.other.now c.loop-position.position c.loop-position.invariant.1 c.in-Some.sel.now at.3.0 c.loop-position-test.true at.1 (sym c.is_same.ensures ∙ c.if-not-is_same.true)

pub loop-position-preserved : goal.loop-position-preserved
loop-position-preserved c =
    let at = c.in-Some.ensures.lookup in
    let within : c.loop-position.position + 1 ≤ length c.args.path.now = omega (arith, at.3.0) in
    (within, agrees c.args.path.now c.args.other.now c.loop-position.position c.loop-position.invariant.1 c.in-Some.sel.now at.3.0 c.loop-position-test.true at.1 (sym c.is_same.ensures ∙ c.if-not-is_same.false))

pub returns : goal.returns
returns c =
    ends_behind c.args.path.now c.args.other.now c.loop-position.position c.loop-position.invariant.1 (omega (arith, c.loop-position-test.false))
