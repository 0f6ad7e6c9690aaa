-- The holder is listed, and the first waiter for its lock takes its place.
use Rattle.std.proofs.Common.{List, length, set, refl, sym, ap, ◌∙◌, arith}
use Rattle.std.specs.Prelude.{slice_get}
use Rattle.std.specs.List.{remove}
use Rattle.std.proofs.lemmas.List.{length-set}
use Rattle.std.proofs.lemmas.Option.{get_or_from_slice_get}
use Rattle.books.specs.declared.LockState.{LockState}
use Rattle.books.specs.declared.LockState.TheVariants.{Holding, Released}
use Rattle.sync_locks.specs.Inside.Rows.{requests_in}
use Rattle.sync_locks.specs.Inside.Holders.{places_in}
use Rattle.sync_locks.proofs.Stands.{length_seen}
use Rattle.sync_locks.proofs.Stored.{stored_freed, stored_passed}
use Rattle.sync_locks.proofs.Released.{lock_is, holder_within, is_found, found, freed_kept, none_takes, taker_within, passed_kept, first_takes}
use Rattle.sync_locks.proofs.requests.Requests.release.Goals as goal

pub unwrap-held-requires : goal.unwrap-held-requires
unwrap-held-requires c =
    let s = c.self.inside in
    is_found s.asked s.states s.table (places_in s.holding.items) s.waiting c.self.invariant.kept c.args.self.now c.self.view_is c.args.place c.requires c.as_slice.result.now c.position_of.result (ap places_in c.as_slice.ensures.value) c.position_of.ensures

pub asked-requires : goal.asked-requires
asked-requires c =
    let s = c.self.inside in
    holder_within s.asked s.states s.table (places_in s.holding.items) s.waiting c.self.invariant.kept c.args.self.now c.self.view_is c.args.place c.requires

pub with_set-requires : goal.with_set-requires
with_set-requires c =
    let s = c.self.inside in
    let within = holder_within s.asked s.states s.table (places_in s.holding.items) s.waiting c.self.invariant.kept c.args.self.now c.self.view_is c.args.place c.requires in
    omega (arith, within, length_seen s.asked s.states c.args.self.now c.self.invariant.kept.each_stands c.self.view_is)

pub invariant_of-self : goal.invariant_of-self
invariant_of-self c =
    let s = c.self.inside in
    let at = found s.asked s.states s.table (places_in s.holding.items) s.waiting c.self.invariant.kept c.args.self.now c.self.view_is c.args.place c.requires c.as_slice.result.now c.position_of.result c.unwrap-held.result (ap places_in c.as_slice.ensures.value) c.unwrap-held.ensures c.position_of.ensures in
    rw (c.remove.ensures.items, c.in_ok-states-in-None.ensures)
    (stored_freed s.asked (set s.states c.args.place Released) s.table s.holding.items s.waiting c.unwrap-held.result c.self.invariant.bucketed
    (freed_kept s.asked s.states s.table (places_in s.holding.items) s.waiting c.self.invariant.kept c.args.self.now c.self.view_is c.args.place c.requires c.unwrap-held.result at))

pub with_set-requires-in-Some : goal.with_set-requires-in-Some
with_set-requires-in-Some c =
    let s = c.self.inside in
    let within = holder_within s.asked s.states s.table (places_in s.holding.items) s.waiting c.self.invariant.kept c.args.self.now c.self.view_is c.args.place c.requires in
    omega (arith, within, length_seen s.asked s.states c.args.self.now c.self.invariant.kept.each_stands c.self.view_is)

pub with_set-requires-in-Some-2 : goal.with_set-requires-in-Some-2
with_set-requires-in-Some-2 c =
    let s = c.self.inside in
    let at = found s.asked s.states s.table (places_in s.holding.items) s.waiting c.self.invariant.kept c.args.self.now c.self.view_is c.args.place c.requires c.as_slice.result.now c.position_of.result c.unwrap-held.result (ap places_in c.as_slice.ensures.value) c.unwrap-held.ensures c.position_of.ensures in
    let within = taker_within s.asked s.states s.table (places_in s.holding.items) s.waiting c.self.invariant.kept c.args.self.now c.self.view_is c.args.place c.requires c.unwrap-held.result at c.orders_ranks.ensures c.asked.result.now.lock.text s.waiting refl c.in-Some.turn c.unwrap-first.result c.in-Some.ensures (sym (get_or_from_slice_get s.waiting c.in-Some.turn c.unwrap-first.result c.unwrap-first.result (sym c.get.ensures ∙ c.unwrap-first.ensures))) in
    omega (arith, within, ap (λ (xs : List LockState). length xs) c.in_ok-freed-in-Some.ensures, length-set s.states c.args.place Released)

pub holder_at-requires : goal.holder_at-requires
holder_at-requires c =
    let s = c.self.inside in
    let at = found s.asked s.states s.table (places_in s.holding.items) s.waiting c.self.invariant.kept c.args.self.now c.self.view_is c.args.place c.requires c.as_slice.result.now c.position_of.result c.unwrap-held.result (ap places_in c.as_slice.ensures.value) c.unwrap-held.ensures c.position_of.ensures in
    let within = taker_within s.asked s.states s.table (places_in s.holding.items) s.waiting c.self.invariant.kept c.args.self.now c.self.view_is c.args.place c.requires c.unwrap-held.result at c.orders_ranks.ensures c.asked.result.now.lock.text s.waiting refl c.in-Some.turn c.unwrap-first.result c.in-Some.ensures (sym (get_or_from_slice_get s.waiting c.in-Some.turn c.unwrap-first.result c.unwrap-first.result (sym c.get.ensures ∙ c.unwrap-first.ensures))) in
    omega (arith, within, length-set s.states c.args.place Released, c.self.invariant.kept.each_stands)

pub invariant_of-self-in-Some : goal.invariant_of-self-in-Some
invariant_of-self-in-Some c =
    let s = c.self.inside in
    let at = found s.asked s.states s.table (places_in s.holding.items) s.waiting c.self.invariant.kept c.args.self.now c.self.view_is c.args.place c.requires c.as_slice.result.now c.position_of.result c.unwrap-held.result (ap places_in c.as_slice.ensures.value) c.unwrap-held.ensures c.position_of.ensures in
    rw (c.in_ok-waiting-in-Some.ensures, c.in_ok-states-in-Some.ensures, c.in_ok-freed-in-Some.ensures)
    (stored_passed s.asked (set (set s.states c.args.place Released) c.unwrap-first.result Holding) s.table s.holding.items (remove s.waiting c.in-Some.turn) c.unwrap-held.result c.self.invariant.bucketed c.unwrap-first.result c.holder_at.result c.holder_at.ensures.place c.holder_at.ensures.bucket
    (passed_kept s.asked s.states s.table (places_in s.holding.items) s.waiting c.self.invariant.kept c.args.self.now c.self.view_is c.args.place c.requires c.unwrap-held.result at c.orders_ranks.ensures c.asked.result.now.lock.text s.waiting refl c.in-Some.turn c.unwrap-first.result c.in-Some.ensures (sym (get_or_from_slice_get s.waiting c.in-Some.turn c.unwrap-first.result c.unwrap-first.result (sym c.get.ensures ∙ c.unwrap-first.ensures)))))

pub returns-in_ok-states-in-None-clause-ok : goal.returns-in_ok-states-in-None-clause-ok
returns-in_ok-states-in-None-clause-ok c r e =
    let s = c.self.inside in
    let at = found s.asked s.states s.table (places_in s.holding.items) s.waiting c.self.invariant.kept c.args.self.now c.self.view_is c.args.place c.requires c.as_slice.result.now c.position_of.result c.unwrap-held.result (ap places_in c.as_slice.ensures.value) c.unwrap-held.ensures c.position_of.ensures in
    ap (λ (states : List LockState). requests_in s.asked states) c.in_ok-states-in-None.ensures
    ∙ none_takes s.asked s.states s.table (places_in s.holding.items) s.waiting c.self.invariant.kept c.args.self.now c.self.view_is c.args.place c.requires c.unwrap-held.result at c.orders_ranks.ensures c.asked.result.now.lock.text s.waiting refl c.in-None.ensures r (lock_is c.asked.result.now (slice_get c.args.self.now c.args.place) r c.asked.ensures e) e

pub returns-in_ok-states-in-Some-clause-ok : goal.returns-in_ok-states-in-Some-clause-ok
returns-in_ok-states-in-Some-clause-ok c r e =
    let s = c.self.inside in
    let at = found s.asked s.states s.table (places_in s.holding.items) s.waiting c.self.invariant.kept c.args.self.now c.self.view_is c.args.place c.requires c.as_slice.result.now c.position_of.result c.unwrap-held.result (ap places_in c.as_slice.ensures.value) c.unwrap-held.ensures c.position_of.ensures in
    ap (λ (states : List LockState). requests_in s.asked states) (c.in_ok-states-in-Some.ensures ∙ ap (λ (states : List LockState). set states c.unwrap-first.result Holding) c.in_ok-freed-in-Some.ensures)
    ∙ first_takes s.asked s.states s.table (places_in s.holding.items) s.waiting c.self.invariant.kept c.args.self.now c.self.view_is c.args.place c.requires c.unwrap-held.result at c.orders_ranks.ensures c.asked.result.now.lock.text s.waiting refl c.in-Some.turn c.unwrap-first.result c.in-Some.ensures (sym (get_or_from_slice_get s.waiting c.in-Some.turn c.unwrap-first.result c.unwrap-first.result (sym c.get.ensures ∙ c.unwrap-first.ensures))) r (lock_is c.asked.result.now (slice_get c.args.self.now c.args.place) r c.asked.ensures e) e
