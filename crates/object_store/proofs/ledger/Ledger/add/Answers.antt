use Rattle.std.proofs.Common.{◌∷◌, [], ◌++◌, sym, ap, ◌∙◌, subst}
use Rattle.std.specs.Prelude.{Some}
use Rattle.history.specs.History.{event, grown}
use Rattle.object_store.specs.Inside.Lines.{line_at, firsts}
use Rattle.object_store.specs.Inside.Changes.{Inserts}
use Rattle.object_store.specs.Inside.Kept.{Kept, history_of}
use Rattle.object_store.proofs.Keeping.{kept_making, grown_making}
use Rattle.object_store.proofs.Rows.{nothing_held}
use Rattle.object_store.proofs.Seen.{none_stands}
use Rattle.object_store.proofs.ledger.Ledger.add.Goals as goal

pub insert-requires-clause-new : goal.insert-requires-clause-new
insert-requires-clause-new g c =
    let s = c.self.inside in
    ap (λ es. line_at es c.args.key) c.reserve.ensures.entries
    ∙ nothing_held g.C.Content.apply s.entries (line_at s.objects.entries c.args.key) _ (c.self.invariant.held c.args.key) (none_stands g.C.Content.apply _ c.args.self.now c.args.key c.self.view_is c.requires.new)

pub invariant_of-self-2 : goal.invariant_of-self-2
invariant_of-self-2 g c =
    let s = c.self.inside in
    let es = c.insert.new.objects.entries in
    let inserted = subst (λ xs. Inserts xs c.args.key c.args.content s.clock es) c.reserve.ensures.entries c.insert.ensures in
    let none = nothing_held g.C.Content.apply s.entries (line_at s.objects.entries c.args.key) _ (c.self.invariant.held c.args.key) (none_stands g.C.Content.apply _ c.args.self.now c.args.key c.self.view_is c.requires.new) in
    rw c.in_ok-push.ensures.ok
    (subst (λ fs. Kept g.C.Content.apply s.begun fs (line_at es) (s.entries ++ c.args.change ∷ []) s.clock) (sym inserted.behind)
    (kept_making g.C.Content.apply s.begun (firsts s.objects.entries) (line_at s.objects.entries) s.entries s.clock c.self.invariant c.args.change c.args.key c.args.content (line_at es) c.requires.entry none inserted.lines))

pub returns-clause-ok : goal.returns-clause-ok
returns-clause-ok g c =
    let s = c.self.inside in
    let es = c.insert.new.objects.entries in
    let inserted = subst (λ xs. Inserts xs c.args.key c.args.content s.clock es) c.reserve.ensures.entries c.insert.ensures in
    ap (λ fs. history_of s.begun fs c.push.new.self) inserted.behind
    ∙ ap (history_of s.begun (firsts s.objects.entries ++ (c.args.key, c.args.content) ∷ [])) c.in_ok-push.ensures.ok
    ∙ grown_making g.C.Content.apply s.begun (firsts s.objects.entries) (line_at s.objects.entries) s.entries s.clock c.self.invariant c.args.change (c.args.key, c.args.content) c.requires.entry.1
    ∙ ap (λ h. grown h (event c.args.change (Some c.args.content))) c.self.view_is
