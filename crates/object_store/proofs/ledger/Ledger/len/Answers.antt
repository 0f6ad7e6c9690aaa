use Rattle.std.proofs.Common.{drop, length, sym, ap, ◌∙◌}
use Rattle.std.proofs.lemmas.List.{length-map}
use Rattle.history.specs.History.{History}
use Rattle.object_store.specs.Inside.Lines.{firsts}
use Rattle.object_store.specs.Inside.Kept.{paired}
use Rattle.object_store.proofs.Keeping.{entries_of_paired}
use Rattle.object_store.proofs.ledger.Ledger.len.Goals as goal

pub returns : goal.returns
returns g c =
    let s = c.self.inside in
    let events = paired s.entries (drop s.begun (firsts s.objects.entries)) in
    c.len.ensures
    ∙ ap length (sym (entries_of_paired s.entries (drop s.begun (firsts s.objects.entries))))
    ∙ length-map events (λ e. e.entry)
    ∙ ap (λ (h : History _). length h.events) c.self.view_is
