use Rattle.std.proofs.Common.{◌≡◌, List, [], drop, sym, ◌∙◌, ap, map, subst, Option, Some, None, MatchOption, Bor}
use Rattle.std.specs.Option.{option_copied}
use Rattle.tree_types.specs.declared.entry.Entry.{Entry}
use Rattle.history.specs.History.{History}
use Rattle.object_store.specs.Versions.{versions}
use Rattle.object_store.specs.declared.line.Made.{Made}
use Rattle.object_store.specs.Inside.Rows.{Rows, Held, IsLine}
use Rattle.object_store.specs.Inside.Kept.{history_of}
use Rattle.object_store.specs.Inside.Lines.{firsts}
use Rattle.object_store.proofs.Keeping.{entries_of_paired}
use Rattle.object_store.proofs.KeyTests.{lookup-key_eq}
use Rattle.object_store.proofs.ledger.Ledger.find.Goals as goal

found : {C : Type 0} (apply : C → Entry → Option C) (es : List Entry) (r : Option (Bor (Rows C))) (ms : List (Made C)) → Held apply es (option_copied r) ms → MatchOption r (ms ≡ []) (λ l. IsLine apply es l.now ms)
found apply es None ms h = h
found apply es (Some l) ms h = h

pub returns : goal.returns
returns g c =
    let apply = g.C.Content.apply in
    let s = c.self.inside in
    let key = c.args.key.now in
    let entries = sym (entries_of_paired s.entries (drop s.begun (firsts s.objects.entries))) ∙ ap (λ (h : History _). map (λ e. e.entry) h.events) c.self.view_is in
    let held : Held apply s.entries (option_copied c.get.result) (versions apply (history_of s.begun (firsts s.objects.entries) s.entries) key) =
    subst (λ o. Held apply s.entries o (versions apply (history_of s.begun (firsts s.objects.entries) s.entries) key)) (sym (c.get.ensures.value ∙ lookup-key_eq key s.objects.entries)) (c.self.invariant.held key) in
    found apply _ c.get.result (versions apply c.args.self.now key)
    (subst (λ es. Held apply es (option_copied c.get.result) (versions apply c.args.self.now key)) entries
    (subst (λ h. Held apply s.entries (option_copied c.get.result) (versions apply h key)) c.self.view_is held))
