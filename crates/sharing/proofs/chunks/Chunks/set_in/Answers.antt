-- The chunk is in a full block, or in the last one.
use Rattle.std.proofs.Common.{◌≡◌, ◌-◌, ◌*◌, ◌/◌, ◌%◌, ◌≤◌, ◌<◌, [], length, get_or, set, sym, ◌∙◌, ap, subst, arith}
use Rattle.std.specs.Prelude.{slice_set, slice_index_or}
use Rattle.sharing.specs.Inside.Chunks.{items_of}
use Rattle.sharing.proofs.Places.{full_within, full_set, full_set_chunked, full_chunk, last_within, last_set, last_chunk}
use Rattle.sharing.proofs.chunks.Chunks.set_in.Goals as goal

pub set_within-requires-clause-row : goal.set_within-requires-clause-row
set_within-requires-clause-row g c =
    full_within c.self.inside.full c.self.inside.last c.args.chunk c.self.invariant (omega arith)

pub set_within-requires-clause-position : goal.set_within-requires-clause-position
set_within-requires-clause-position g c =
    let within : c.args.position < length (get_or (items_of c.self.inside.full c.self.inside.last) c.args.chunk []) = rw c.self.view_is c.requires.position in
    subst (λ xs. c.args.position < length xs) (full_chunk c.self.inside.full c.self.inside.last c.args.chunk c.self.invariant (omega arith)) within

pub invariant_of-self : goal.invariant_of-self
invariant_of-self g c =
    let full = c.self.inside.full in
    let i = c.args.chunk in
    rw c.in_ok-set_within.ensures.ok (full_set_chunked full c.self.inside.last i (set (get_or (get_or full (i / 64) []) (i % 64) []) c.args.position c.args.item) c.self.invariant (omega arith))

pub set_in-requires-clause-row : goal.set_in-requires-clause-row
set_in-requires-clause-row g c =
    let full = c.self.inside.full in
    let last = c.self.inside.last in
    let b = c.len-full.result * 64 in
    let before : b ≡ length full * 64 = omega arith in
    let past : b ≤ c.args.chunk = omega arith in
    let within : c.args.chunk < length (items_of full last) = rw c.self.view_is c.requires.chunk in
    last_within full last c.args.chunk b c.self.invariant before past within

pub set_in-requires-clause-position : goal.set_in-requires-clause-position
set_in-requires-clause-position g c =
    let full = c.self.inside.full in
    let last = c.self.inside.last in
    let b = c.len-full.result * 64 in
    let before : b ≡ length full * 64 = omega arith in
    let past : b ≤ c.args.chunk = omega arith in
    let within : c.args.position < length (get_or (items_of full last) c.args.chunk []) = rw c.self.view_is c.requires.position in
    subst (λ xs. c.args.position < length xs) (last_chunk full last c.args.chunk b c.self.invariant before past) within

pub returns-in_ok-set_within-clause-ok : goal.returns-in_ok-set_within-clause-ok
returns-in_ok-set_within-clause-ok g c =
    let full = c.self.inside.full in
    let last = c.self.inside.last in
    let i = c.args.chunk in
    let k = c.self.invariant in
    rw c.in_ok-set_within.ensures.ok (full_set full last i (set (get_or (get_or full (i / 64) []) (i % 64) []) c.args.position c.args.item) k (omega arith))
    ∙ ap (λ xs. set (items_of full last) i (set xs c.args.position c.args.item)) (sym (full_chunk full last i k (omega arith)))
    ∙ ap (λ xs. slice_set xs i (slice_set (slice_index_or xs i []) c.args.position c.args.item)) c.self.view_is

pub returns-in_ok-set_in-clause-ok : goal.returns-in_ok-set_in-clause-ok
returns-in_ok-set_in-clause-ok g c =
    let full = c.self.inside.full in
    let last = c.self.inside.last in
    let i = c.args.chunk in
    let k = c.self.invariant in
    let b = c.len-full.result * 64 in
    let before : b ≡ length full * 64 = omega arith in
    let past : b ≤ i = omega arith in
    rw c.in_ok-set_in.ensures.ok (last_set full last i b (set (get_or last (i - b) []) c.args.position c.args.item) k before past)
    ∙ ap (λ xs. set (items_of full last) i (set xs c.args.position c.args.item)) (sym (last_chunk full last i b k before past))
    ∙ ap (λ xs. slice_set xs i (slice_set (slice_index_or xs i []) c.args.position c.args.item)) c.self.view_is
