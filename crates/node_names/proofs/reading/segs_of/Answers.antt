use Rattle.std.proofs.Common.{rules, List, ℕ, length, subst, sym, ap}
use Rattle.std.proofs.lemmas.Bool.{eqb-true, eqb-false}
use Rattle.std.proofs.lemmas.List.{nil_from_length}
use Rattle.node_names.specs.declared.seg.Seg.{Seg}
use Rattle.std.specs.Str.Pattern.{LacksTextAt}
use Rattle.node_names.proofs.IsWay.{IsReadTo, at_start, step, stuck, at_end, no_root, shorter, stripped}
use Rattle.node_names.proofs.reading.segs_of.Goals as goal

pub returns-in_default : goal.returns-in_default
returns-in_default c =
    no_root c.args.root.now c.args.name.now
    (subst (λ (t : List ℕ). LacksTextAt t c.args.name.now 0) c.as_str-2.ensures (subst (λ (t : List ℕ). LacksTextAt c.as_str-2.result.now t 0) c.as_str.ensures c.in_default.ensures.cases))

pub loop-rest-init : goal.loop-rest-init
loop-rest-init c = (search rules, subst (λ way. IsReadTo c.in-Some.suffixes.now way c.in-Some.suffixes.now) (sym c.new-way.ensures) (at_start c.in-Some.suffixes.now))

pub loop-rest-preserved : goal.loop-rest-preserved
loop-rest-preserved c =
    let begins = rw c.in-Ok-Some.field-0-is at c.in-Ok-Some.ensures in
    let way = step c.in-Some.suffixes.now c.loop-rest.way c.loop-rest.rest.now c.in-Ok-Some.after.now c.in-Ok-Some.seg c.loop-rest.invariant.1 begins in
    (search rules, subst (λ (way : List Seg). IsReadTo c.in-Some.suffixes.now way c.in-Ok-Some.after.now) (sym c.in_ok-push-in-Ok-Some.ensures.ok) way)

pub loop-rest-smaller : goal.loop-rest-smaller
loop-rest-smaller c = shorter c.in-Ok-Some.seg c.loop-rest.rest.now c.in-Ok-Some.after.now (rw c.in-Ok-Some.field-0-is at c.in-Ok-Some.ensures)

pub returns-in-Ok-None : goal.returns-in-Ok-None
returns-in-Ok-None c =
    let name = stripped c.args.root.now c.args.name.now c.as_str-2.result.now c.as_str.result.now c.in-Some.suffixes.now c.in-Some.ensures.cases.0 c.as_str-2.ensures c.as_str.ensures c.in-Some.ensures.cases.1.1 c.in-Some.ensures.cases.2 in
    let none = rw c.in-Ok-None.field-0-is at c.in-Ok-None.ensures in
    stuck c.args.root.now c.args.name.now c.in-Some.suffixes.now c.loop-rest.way c.loop-rest.rest.now name c.loop-rest.invariant.1 none
    (λ empty. eqb-false (length c.loop-rest.rest.now) 0 (sym c.loop-rest-test.ensures) (ap length empty))

pub returns : goal.returns
returns c =
    let name = stripped c.args.root.now c.args.name.now c.as_str-2.result.now c.as_str.result.now c.in-Some.suffixes.now c.in-Some.ensures.cases.0 c.as_str-2.ensures c.as_str.ensures c.in-Some.ensures.cases.1.1 c.in-Some.ensures.cases.2 in
    at_end c.args.root.now c.args.name.now c.in-Some.suffixes.now c.loop-rest.way c.loop-rest.rest.now name c.loop-rest.invariant.1 (nil_from_length c.loop-rest.rest.now (eqb-true (length c.loop-rest.rest.now) 0 (sym c.loop-rest-test.ensures)))
