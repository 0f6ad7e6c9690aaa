use Rattle.object_store.specs.Versions.{versions}
use Rattle.object_store.proofs.Seen.{line_present, stands_none}
use Rattle.object_store.proofs.ledger.Ledger.present.Goals as goal

pub returns-in-Some : goal.returns-in-Some
returns-in-Some g c =
    let apply = g.C.Content.apply in
    let line = c.in-Some.ensures in
    line_present apply _ c.args.self.now c.args.key.now c.in-Some.line.now c.last.result.now c.count.result line c.count.ensures (c.last.ensures (versions apply c.args.self.now c.args.key.now) line.stands)

pub returns-in-None : goal.returns-in-None
returns-in-None g c = stands_none g.C.Content.apply c.args.self.now c.args.key.now c.in-None.ensures
