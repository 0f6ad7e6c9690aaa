use Rattle.std.proofs.Common.{length, sym, ap, ◌∙◌, subst}
use Rattle.std.proofs.lemmas.List.{length-map}
use Rattle.object_store.specs.Inside.Rows.{first_of}
use Rattle.object_store.specs.Inside.Lines.{line_at, firsts}
use Rattle.object_store.specs.Inside.Changes.{Inserts}
use Rattle.object_store.specs.Inside.Kept.{Kept, history_of}
use Rattle.object_store.proofs.Keeping.{kept_begun, begun_is}
use Rattle.object_store.proofs.ledger.Ledger.begin.Goals as goal

pub invariant_of-self-2 : goal.invariant_of-self-2
invariant_of-self-2 g c =
    let s = c.self.inside in
    let inserted = subst (λ xs. Inserts xs c.args.key c.args.content 0 c.insert.new.objects.entries) c.reserve.ensures.entries c.insert.ensures in
    let es = c.insert.new.objects.entries in
    let up = c.len-self-inside.ensures.len ∙ sym (length-map es (λ e. (e.0, (first_of e.1).content))) ∙ ap length inserted.behind in
    subst (λ fs. Kept g.C.Content.apply c.len-self-inside.result fs (line_at es) s.entries s.clock) (sym inserted.behind)
    (kept_begun g.C.Content.apply s.begun (firsts s.objects.entries) (line_at s.objects.entries) s.entries s.clock c.self.invariant c.args.self.now c.self.view_is c.requires.first
    c.args.key c.args.content c.len-self-inside.result (line_at es) up c.requires.new inserted.lines)

pub returns-clause-ok : goal.returns-clause-ok
returns-clause-ok g c =
    let s = c.self.inside in
    let inserted = subst (λ xs. Inserts xs c.args.key c.args.content 0 c.insert.new.objects.entries) c.reserve.ensures.entries c.insert.ensures in
    let es = c.insert.new.objects.entries in
    let up = c.len-self-inside.ensures.len ∙ sym (length-map es (λ e. (e.0, (first_of e.1).content))) ∙ ap length inserted.behind in
    ap (λ fs. history_of c.len-self-inside.result fs s.entries) inserted.behind
    ∙ begun_is g.C.Content.apply s.begun (firsts s.objects.entries) (line_at s.objects.entries) s.entries s.clock c.self.invariant c.args.self.now c.self.view_is c.requires.first c.args.key c.args.content c.len-self-inside.result up
