-- The bucket of the key has the place at its end, the lists have it by its state, and the request stands there.
use Rattle.std.proofs.Common.{◌≡◌, ℕ, length, List, [], ◌∷◌, ◌++◌, refl, ◌∙◌, ap, ap₂, arith}
use Rattle.std.specs.List.{insert}
use Rattle.std.proofs.lemmas.Option.{slice_get_within}
use Rattle.std.proofs.lemmas.List.Edits.{insert_end}
use Rattle.books.specs.declared.Request.{Request}
use Rattle.sync_locks.specs.Inside.Rows.{request_of, requests_in}
use Rattle.sync_locks.specs.Inside.Tables.{places_of}
use Rattle.sync_locks.specs.declared.holder.Holder.{Holder}
use Rattle.sync_locks.specs.Inside.Holders.{places_in}
use Rattle.sync_locks.proofs.Stands.{requests_more, length_seen}
use Rattle.sync_locks.proofs.Bucketed.{places_with}
use Rattle.sync_locks.proofs.Stored.{bucketed_added}
use Rattle.sync_locks.proofs.Kept.{kept_added}
use Rattle.sync_locks.proofs.requests.Requests.add.Goals as goal

pub with_place-requires : goal.with_place-requires
with_place-requires c =
    let own = c.bucket_of-key.result in
    slice_get_within c.self.inside.table own (places_of own (requests_in c.self.inside.asked c.self.inside.states)) (c.self.invariant.kept.tabled.each own c.bucket_of-key.ensures.few)

pub waiting_with-requires : goal.waiting_with-requires
waiting_with-requires c = c.turn_for-turn.ensures.bound

pub with-requires : goal.with-requires
with-requires c =
    let s = c.self.inside in
    let long = length_seen s.asked s.states c.args.self.now c.self.invariant.kept.each_stands c.self.view_is in
    omega (arith, c.in_ok-place.ensures, c.len.ensures, long)

pub invariant_of-self-2 : goal.invariant_of-self-2
invariant_of-self-2 c =
    let s = c.self.inside in
    let place_is = c.in_ok-place.ensures ∙ c.len.ensures in
    let long = length_seen s.asked s.states c.args.self.now c.self.invariant.kept.each_stands c.self.view_is in
    let at : c.in_ok-place.place ≡ length s.states = omega (arith, place_is, long) in
    let states_are : c.in_ok-states.states ≡ s.states ++ c.args.state ∷ [] = c.in_ok-states.ensures ∙ ap (λ (i : ℕ). insert s.states i c.args.state) at ∙ insert_end s.states c.args.state in
    let new : Holder = record { place = c.in_ok-place.place; bucket = c.bucket_of-key.result } in record {
      kept =
          kept_added c.orders_ranks.ensures s.asked s.states s.table (places_in s.holding.items) s.waiting c.self.invariant.kept c.args.asked c.args.state c.args.self.now c.self.view_is
          s.waiting refl c.turn_for-turn.result c.turn_for-turn.ensures.bound c.turn_for-turn.ensures.parted
          c.bucket_of-key.result c.bucket_of-key.ensures.is c.bucket_of-key.ensures.few
          c.in_ok-place.place place_is c.in_ok-bucket.bucket (c.in_ok-bucket.ensures ∙ c.bucket.ensures)
          c.in_ok-all.all c.in_ok-all.ensures c.in_ok-states.states states_are c.in_ok-table.table c.in_ok-table.ensures
          (places_in c.hold_new.new.holding.items) (ap places_in c.in_ok-hold_new.ensures.ok ∙ places_with c.args.state new s.holding.items) c.in_ok-waiting.waiting c.in_ok-waiting.ensures;
      bucketed =
          bucketed_added s.asked c.args.asked c.args.state new s.holding.items c.self.invariant.bucketed (omega (arith, place_is, long, c.self.invariant.kept.each_stands)) c.bucket_of-key.ensures.is
          c.in_ok-all.all c.in_ok-all.ensures c.hold_new.new.holding.items c.in_ok-hold_new.ensures.ok;
    }

pub returns-clause-ok : goal.returns-clause-ok
returns-clause-ok c =
    let asked_are : c.in_ok-all.all ≡ c.self.inside.asked ++ c.args.asked ∷ [] = c.in_ok-all.ensures in
    let s = c.self.inside in
    let long = length_seen s.asked s.states c.args.self.now c.self.invariant.kept.each_stands c.self.view_is in
    let at : c.in_ok-place.place ≡ length s.states = omega (arith, c.in_ok-place.ensures, c.len.ensures, long) in
    let states_are : c.in_ok-states.states ≡ s.states ++ c.args.state ∷ [] = c.in_ok-states.ensures ∙ ap (λ (i : ℕ). insert s.states i c.args.state) at ∙ insert_end s.states c.args.state in
    ap₂ requests_in asked_are states_are
    ∙ requests_more c.self.inside.asked c.self.inside.states c.args.asked c.args.state c.self.invariant.kept.each_stands
    ∙ ap (λ (rs : List Request). rs ++ request_of c.args.asked c.args.state ∷ []) c.self.view_is
