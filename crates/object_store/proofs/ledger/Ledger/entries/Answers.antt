use Rattle.std.proofs.Common.{drop, map, sym, ap, ◌∙◌}
use Rattle.history.specs.History.{History}
use Rattle.object_store.specs.Inside.Lines.{firsts}
use Rattle.object_store.proofs.Keeping.{entries_of_paired}
use Rattle.object_store.proofs.ledger.Ledger.entries.Goals as goal

pub returns : goal.returns
returns g c =
    let s = c.self.inside in
    sym (entries_of_paired s.entries (drop s.begun (firsts s.objects.entries))) ∙ ap (λ (h : History _). map (λ e. e.entry) h.events) c.self.view_is
