use Rattle.std.proofs.Common.{refl, sym, ap, arith}
use Rattle.history.specs.History.{number_of}
use Rattle.object_store.proofs.Seen.{seen_there, seen_risen, seen_unmoved}
use Rattle.object_store.proofs.ledger.Ledger.next_number.Goals as goal

pub unreachable-requires : goal.unreachable-requires
unreachable-requires g c =
    let from = c.args.from.now in
    seen_there g.C.Content.apply c.args.self.now from.key from.version from.content from.tick c.requires c.in_default.ensures

pub returns-then-found-from : goal.returns-then-found-from
returns-then-found-from g c =
    let from = c.args.from.now in
    (refl, sym (ap number_of c.in-Some.ensures), seen_risen g.C.Content.apply c.args.self.now from.key from.version from.content from.tick c.in-Some.found c.in-Some.field-0-1.now c.requires c.in-Some.ensures c.if-found-from.true)

pub returns-in-Some-checked_add : goal.returns-in-Some-checked_add
returns-in-Some-checked_add g c =
    let from = c.args.from.now in
    (seen_unmoved g.C.Content.apply c.args.self.now from.key from.version from.content from.tick c.in-Some.found c.in-Some.field-0-1.now c.requires c.in-Some.ensures c.if-found-from.false, omega (arith, c.in-Some-checked_add.ensures, c.if-found-from.false))

pub returns-in-None : goal.returns-in-None
returns-in-None g c =
    let from = c.args.from.now in
    seen_unmoved g.C.Content.apply c.args.self.now from.key from.version from.content from.tick c.in-Some.found c.in-Some.field-0-1.now c.requires c.in-Some.ensures c.if-found-from.false
