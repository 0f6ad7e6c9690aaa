use Rattle.std.proofs.Common.{refl, ap, ◌∙◌}
use Rattle.history.specs.History.{event, grown}
use Rattle.tree_types.specs.declared.entry.Entry.TheVariants.{Tick}
use Rattle.std.specs.Prelude.{None}
use Rattle.object_store.specs.Inside.Lines.{line_at, firsts}
use Rattle.object_store.proofs.Keeping.{kept_ticking, grown_changing}
use Rattle.object_store.proofs.ledger.Ledger.tick.Goals as goal

pub invariant_of-self-2 : goal.invariant_of-self-2
invariant_of-self-2 g c =
    let s = c.self.inside in
    rw c.in_ok-push.ensures.ok (kept_ticking g.C.Content.apply s.begun (firsts s.objects.entries) (line_at s.objects.entries) s.entries s.clock c.self.invariant c.args.to)

pub returns-clause-adds : goal.returns-clause-adds
returns-clause-adds g c =
    let s = c.self.inside in
    rw c.in_ok-push.ensures.ok
    (grown_changing g.C.Content.apply s.begun (firsts s.objects.entries) (line_at s.objects.entries) s.entries s.clock c.self.invariant (Tick c.args.to) refl
    ∙ ap (λ h. grown h (event (Tick c.args.to) None)) c.self.view_is)
