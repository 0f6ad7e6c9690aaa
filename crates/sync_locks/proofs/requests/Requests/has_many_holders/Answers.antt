-- As many hold as are listed.
use Rattle.std.proofs.Common.{◌≡◌, length, nat_lt, ◌∙◌, ap, arith}
use Rattle.std.proofs.lemmas.List.{length-map}
use Rattle.sync_locks.specs.declared.holder.Holder.{Holder}
use Rattle.sync_locks.specs.Inside.Holders.{places_in}
use Rattle.sync_locks.specs.Book.{has_many_holders}
use Rattle.sync_locks.specs.Inside.Rows.{requests_in}
use Rattle.sync_locks.proofs.Holders.{count_listed}
use Rattle.sync_locks.proofs.requests.Requests.has_many_holders.Goals as goal

pub returns : goal.returns
returns c =
    let s = c.self.inside in
    let many : c.len.result ≡ length (places_in s.holding.items) = omega (arith, c.len.ensures, length-map s.holding.items (λ (h : Holder). h.place)) in
    ap (nat_lt 32) (many ∙ count_listed (places_in s.holding.items) (requests_in s.asked s.states) c.self.invariant.kept.held) ∙ ap has_many_holders c.self.view_is
