use Rattle.std.proofs.Common.{[], refl}
use Rattle.object_store.specs.Inside.Lines.{line_at}
use Rattle.object_store.proofs.Keeping.{kept_new}
use Rattle.object_store.proofs.ledger.Ledger.new.Goals as goal

pub invariant_of-result : goal.invariant_of-result
invariant_of-result g c = rw (c.new-2.ensures.empty, c.new.ensures) (kept_new g.C.Content.apply (line_at []) (λ k. refl))
