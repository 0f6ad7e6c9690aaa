-- The chunks in front, the kids of one with the kid among them, and the chunks behind.
use Rattle.std.proofs.Common.{◌≡◌, ◌+◌, ◌<◌, List, length, take, drop, false, sym, ap, ◌∙◌, subst, arith}
use Rattle.std.proofs.lemmas.List.{take_all}
use Rattle.std.specs.declared.sync.Arc.{Arc}
use Rattle.std.specs.declared.alloc.Global.{Global}
use Rattle.meaning.specs.Lines.{Parts, nothing, then_parts}
use Rattle.tree_state.specs.declared.inserting.Behind.{Behind}
use Rattle.tree_state.specs.Inserting.{ends_later}
use Rattle.tree_state.specs.Inside.Among.{TellsBehind}
use Rattle.tree_state.specs.Inside.Chunks.{all_of}
use Rattle.tree_state.specs.Inside.Kids.{parts_of}
use Rattle.tree_state.proofs.Kids.{then_moves, then_nothing}
use Rattle.tree_state.proofs.Chunks.{chunks_from}
use Rattle.tree_state.proofs.Inserts.{ends_or_begins, chunks_split, put_in, range_behind}
use Rattle.tree_state.proofs.filled.Filled.with_kid.Goals as goal

pub returns-in-Later : goal.returns-in-Later
returns-in-Later c =
    let full = c.self.inside.full.items in
    let last = c.self.inside.last in
    let seen = c.as_slice-full.result.now in
    let n = c.chunks_before-count.result in
    let kids = c.kids.result.now in
    let front = c.add_chunks.new.self in
    let old = c.add_among.new.self in
    let among = c.in_ok-add_among.ensures in
    let all : take n seen ≡ seen = take_all n seen (omega (arith, c.if-count-full.true)) in
    let whole : take n seen ≡ full = all ∙ c.as_slice-full.ensures.value in
    let front_is : front ≡ all_of (take n seen) = c.in_ok-add_chunks.ensures ∙ ap (λ (p : Parts). then_parts p (all_of (take n seen))) c.new-new.ensures in
    let last_is : parts_of kids ≡ last = c.kids.ensures in
    put_in c.args.at c.args.kid c.args.self.now front nothing old old kids c.in_ok-add_among.field-0 among
    (sym c.self.view_is
    ∙ ap (λ (p : Parts). then_parts p last) (sym (front_is ∙ ap all_of whole))
    ∙ ap (λ (p : Parts). then_parts front p) (sym last_is ∙ sym (then_nothing (parts_of kids))))
    (ap (λ (p : Parts). ends_later c.args.at false p) front_is ∙ c.chunks_before-count.ensures.ends)
    (ends_or_begins c.args.at kids among.place c.in_ok-add_among.field-0 c.in-Later.is among.tells)
    (sym (then_nothing old))

pub returns : goal.returns
returns c =
    let full = c.self.inside.full.items in
    let last = c.self.inside.last in
    let seen = c.as_slice-full.result.now in
    let n = c.chunks_before-count.result in
    let item = c.index-full-count.result in
    let kids = c.kids-2.result.now in
    let front = c.add_chunks.new.self in
    let old = c.add_among-2.new.self in
    let rest = all_of (drop (n + 1) seen) in
    let later = then_parts rest last in
    let among = c.in_ok-add_among-2.ensures in
    let low : n < length seen = omega (arith, c.chunks_before-count.ensures.low, c.if-count-full.false) in
    let front_is : front ≡ all_of (take n seen) = c.in_ok-add_chunks.ensures ∙ ap (λ (p : Parts). then_parts p (all_of (take n seen))) c.new-new.ensures in
    let item_is : parts_of kids ≡ item.value = c.kids-2.ensures ∙ c.deref.ensures in
    let last_is : parts_of c.kids-3.result.now ≡ last = c.kids-3.ensures in
    put_in c.args.at c.args.kid c.args.self.now front later old c.add_kids.new.self kids c.in_ok-add_among-2.field-0 among
    (sym c.self.view_is
    ∙ ap (λ (cs : List (Arc Parts Global)). then_parts (all_of cs) last) (sym c.as_slice-full.ensures.value)
    ∙ ap (λ (p : Parts). then_parts p last) (chunks_split seen n)
    ∙ then_moves (all_of (take n seen)) (all_of (drop n seen)) last
    ∙ ap (λ (p : Parts). then_parts (all_of (take n seen)) p) (chunks_from seen last n item low c.index-full-count.is)
    ∙ ap (λ (p : Parts). then_parts p (then_parts item.value later)) (sym front_is)
    ∙ ap (λ (p : Parts). then_parts front (then_parts p later)) (sym item_is))
    (ap (λ (p : Parts). ends_later c.args.at false p) front_is ∙ c.chunks_before-count.ensures.ends)
    (subst (λ (b : Behind). TellsBehind c.args.at kids among.place b) c.in-Later-2.is among.tells later)
    (c.in_ok-add_kids.ensures
    ∙ ap (λ (p : Parts). then_parts p (parts_of c.kids-3.result.now)) (c.in_ok-end_chunk.ensures ∙ c.in_ok-add_chunks-2.ensures ∙ ap (λ (cs : List (Arc Parts Global)). then_parts old (all_of cs)) (range_behind seen (n + 1)))
    ∙ ap (λ (p : Parts). then_parts (then_parts old rest) p) last_is
    ∙ then_moves old rest last)
