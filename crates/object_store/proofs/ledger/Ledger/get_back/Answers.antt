use Rattle.std.proofs.Common.{map, sym, ap, ◌∙◌}
use Rattle.std.specs.Prelude.{slice_get}
use Rattle.std.proofs.lemmas.Option.{MatchOption-at_some}
use Rattle.history.specs.History.{Event}
use Rattle.object_store.specs.Inside.Rows.{IsLine}
use Rattle.object_store.specs.Versions.{made, versions}
use Rattle.object_store.proofs.Rows.{next_within, next_leads, next_stands}
use Rattle.object_store.proofs.ledger.Ledger.get_back.Goals as goal

pub get-requires : goal.get-requires
get-requires g c =
    let apply = g.C.Content.apply in
    let all = versions apply c.args.self.now c.args.key.now in
    let es = map (λ (e : Event _). e.entry) c.args.self.now.events in
    let line : IsLine apply es c.in_ok-line.line.now all = MatchOption-at_some _ _ c.in_ok-line.line c.in_ok-line.ensures.ok_part c.find.ensures in
    rw c.entries.ensures (next_within apply es c.in_ok-line.line.now all c.loop-i.i c.change-change.result.now line c.change-change.ensures)

pub after-requires : goal.after-requires
after-requires g c =
    let apply = g.C.Content.apply in
    let all = versions apply c.args.self.now c.args.key.now in
    let es = map (λ (e : Event _). e.entry) c.args.self.now.events in
    let line : IsLine apply es c.in_ok-line.line.now all = MatchOption-at_some _ _ c.in_ok-line.line c.in_ok-line.ensures.ok_part c.find.ensures in
    next_leads apply es c.in_ok-line.line.now all c.loop-i.i (made c.loop-i.content c.loop-i.tick) c.change-change.result.now line c.loop-i.invariant c.change-change.ensures c.get.result.now
    (sym (ap (λ xs. slice_get xs c.change-change.result.now.place) c.entries.ensures) ∙ c.get.ensures)

pub loop-i-preserved : goal.loop-i-preserved
loop-i-preserved g c =
    let apply = g.C.Content.apply in
    let all = versions apply c.args.self.now c.args.key.now in
    let es = map (λ (e : Event _). e.entry) c.args.self.now.events in
    let line : IsLine apply es c.in_ok-line.line.now all = MatchOption-at_some _ _ c.in_ok-line.line c.in_ok-line.ensures.ok_part c.find.ensures in
    next_stands apply es c.in_ok-line.line.now all c.loop-i.i (made c.loop-i.content c.loop-i.tick) c.change-change.result.now line c.loop-i.invariant c.change-change.ensures c.get.result.now
    (sym (ap (λ xs. slice_get xs c.change-change.result.now.place) c.entries.ensures) ∙ c.get.ensures) c.in_ok-content-2.content c.in_ok-content-2.ensures
