-- Where each kid is a call, the one at the position is looked at.
use Rattle.std.proofs.Common.{◌≡◌, length, List, Option, Some, option_map, sym, ap, ◌∙◌}
use Rattle.std.specs.Prelude.{option_copied}
use Rattle.std.specs.declared.sync.Arc.{Arc}
use Rattle.std.specs.declared.alloc.Global.{Global}
use Rattle.meaning.specs.Lines.{Made, row_in}
use Rattle.tree_state.specs.Inside.Kids.{parts_of}
use Rattle.tree_state.specs.declared.state.Kid.{Kid}
use Rattle.tree_state.specs.declared.sum.Sum.{Sum}
use Rattle.tree_state.proofs.Alone.{lent_call, made_at}
use Rattle.tree_state.proofs.chunk.Chunk.call_at.Goals as goal

pub returns-in-None : goal.returns-in-None
returns-in-None c =
    let kids = c.self.inside.kids.items in
    let count : length (row_in (parts_of kids)) ≡ length kids = sym (ap (λ (s : Sum). s.calls) c.self.invariant) ∙ c.if-self-len.true ∙ c.len.ensures ∙ sym c.deref.ensures.len ∙ ap (λ (ks : List Kid). length ks) c.deref.ensures.value in
    ap (λ r. made_at (option_copied r)) (sym c.in-None.is)
    ∙ sym (lent_call c.args.self.now c.deref.result.now kids c.args.position c.get.result c.self.view_is c.deref.ensures.value count c.get.ensures.lookup)

pub returns-in-None-state : goal.returns-in-None-state
returns-in-None-state c =
    let kids = c.self.inside.kids.items in
    let count : length (row_in (parts_of kids)) ≡ length kids = sym (ap (λ (s : Sum). s.calls) c.self.invariant) ∙ c.if-self-len.true ∙ c.len.ensures ∙ sym c.deref.ensures.len ∙ ap (λ (ks : List Kid). length ks) c.deref.ensures.value in
    ap (λ (s : Option (Arc Made Global)). option_map (λ (a : Arc Made Global). a.value) s) (sym c.in-None-state.is)
    ∙ ap (λ r. made_at (option_copied r)) (sym c.in-Some.is)
    ∙ sym (lent_call c.args.self.now c.deref.result.now kids c.args.position c.get.result c.self.view_is c.deref.ensures.value count c.get.ensures.lookup)

pub returns-in-Some-state : goal.returns-in-Some-state
returns-in-Some-state c =
    let kids = c.self.inside.kids.items in
    let count : length (row_in (parts_of kids)) ≡ length kids = sym (ap (λ (s : Sum). s.calls) c.self.invariant) ∙ c.if-self-len.true ∙ c.len.ensures ∙ sym c.deref.ensures.len ∙ ap (λ (ks : List Kid). length ks) c.deref.ensures.value in
    ap Some (c.behind-state.view_is ∙ c.deref-in-Some-state.ensures)
    ∙ ap (λ (s : Option (Arc Made Global)). option_map (λ (a : Arc Made Global). a.value) s) (sym c.in-Some-state.is)
    ∙ ap (λ r. made_at (option_copied r)) (sym c.in-Some.is)
    ∙ sym (lent_call c.args.self.now c.deref.result.now kids c.args.position c.get.result c.self.view_is c.deref.ensures.value count c.get.ensures.lookup)
