use Rattle.std.proofs.Common.{◌∷◌, [], ◌++◌, sym, ap, ◌∙◌, subst, Result, Ok, Err, OnErr, OnOk}
use Rattle.std.specs.Prelude.{None}
use Rattle.history.specs.History.{event, grown, version_at}
use Rattle.object_store.specs.Inside.Lines.{line_at, firsts}
use Rattle.object_store.specs.Inside.Kept.{Kept, history_of}
use Rattle.object_store.proofs.Keeping.{kept_changing, grown_changing}
use Rattle.object_store.proofs.Rows.{none_held}
use Rattle.object_store.proofs.Seen.{some_stands}
use Rattle.object_store.proofs.ledger.Ledger.change.Goals as goal

-- both outcomes lead there
either : {T E : Type 0} (r : Result T E) (A B D F K : Type 0) → OnOk r A → OnOk r B → OnErr r D → OnErr r F → (A → B → K) → (D → F → K) → K
either (Ok x) A B D F K a b d f ok err = ok a b
either (Err e) A B D F K a b d f ok err = err d f

on_ok : {T E : Type 0} (r : Result T E) (A B K : Type 0) → OnOk r A → OnOk r B → (A → B → K) → OnOk r K
on_ok (Ok x) A B K a b ok = ok a b
on_ok (Err e) A B K a b ok = tt

pub append-requires : goal.append-requires
append-requires g c = λ none.
    some_stands g.C.Content.apply _ c.args.self.now c.args.from.now.key _ c.self.view_is c.requires.unmoved (none_held g.C.Content.apply c.self.inside.entries (line_at c.self.inside.objects.entries c.args.from.now.key) _ (c.self.invariant.held c.args.from.now.key) none)

pub invariant_of-self : goal.invariant_of-self
invariant_of-self g c =
    let s = c.self.inside in
    let from = c.args.from.now in
    let apply = g.C.Content.apply in
    let new = c.append.new.objects.entries in
    let e = c.append.ensures in
    either c.append.result _ _ _ _ _ e.ok e.added e.err e.same
    (λ appends added.
    rw added (subst (λ fs. Kept apply s.begun fs (line_at new) (s.entries ++ c.args.change ∷ []) s.clock) (sym appends.same)
    (kept_changing apply s.begun (firsts s.objects.entries) (line_at s.objects.entries) s.entries s.clock c.self.invariant c.args.change from.key
    record { number = from.version; content = from.content } c.args.next (line_at new) c.requires.entry (ap (λ h. version_at apply h from.key) c.self.view_is ∙ c.requires.unmoved) c.requires.leads
    appends.from appends.to appends.was appends.more appends.lines)))
    (λ unmoved same. rw same (subst (λ os. Kept apply s.begun (firsts os) (line_at os) s.entries s.clock) (sym unmoved) c.self.invariant))

pub returns-clause-ok : goal.returns-clause-ok
returns-clause-ok g c =
    let s = c.self.inside in
    let e = c.append.ensures in
    on_ok c.append.result _ _ _ e.ok e.added
    (λ appends added.
    ap (λ fs. history_of s.begun fs c.append.new.entries) appends.same
    ∙ ap (history_of s.begun (firsts s.objects.entries)) added
    ∙ grown_changing g.C.Content.apply s.begun (firsts s.objects.entries) (line_at s.objects.entries) s.entries s.clock c.self.invariant c.args.change c.requires.entry.1
    ∙ ap (λ h. grown h (event c.args.change None)) c.self.view_is)
