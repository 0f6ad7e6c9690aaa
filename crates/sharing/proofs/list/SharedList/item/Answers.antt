-- The item of the last chunk, or of a full one.
use Rattle.std.proofs.Common.{◌≡◌, ◌≤◌, ◌-◌, ◌*◌, ◌/◌, ◌%◌, ◌<◌, [], length, sym, ◌∙◌, ap, arith}
use Rattle.std.specs.Prelude.{slice_get}
use Rattle.std.proofs.lemmas.Option.{slice_get_within, get_or_from_slice_get}
use Rattle.sharing.proofs.Places.{none_past, before_last, full_get, last_get}
use Rattle.sharing.proofs.list.SharedList.item.Goals as goal

pub overflow_sub-position : goal.overflow_sub-position
overflow_sub-position g c =
    let full = c.self.inside.full in
    let before = before_last full c.self.inside.last c.self.inside.len c.self.invariant in
    omega (arith, c.len.ensures, before, none_past full (c.args.position / 64) c.in-None.ensures)

pub returns-in-None : goal.returns-in-None
returns-in-None g c =
    let full = c.self.inside.full in
    let last = c.self.inside.last in
    let i = c.args.position in
    let b = c.self.inside.len - c.len.result in
    let before : b ≡ length full * 64 = ap (λ n. c.self.inside.len - n) c.len.ensures ∙ before_last full last c.self.inside.len c.self.invariant in
    let past : b ≤ i = omega (arith, before, none_past full (i / 64) c.in-None.ensures) in
    c.get-in-None.ensures ∙ sym (last_get full last i b c.self.invariant.chunked before past) ∙ ap (λ xs. slice_get xs i) c.self.view_is

pub returns-in-Some : goal.returns-in-Some
returns-in-Some g c =
    let full = c.self.inside.full in
    let i = c.args.position in
    let chunk = c.in-Some.chunk.now in
    let within : i / 64 < length full = slice_get_within full (i / 64) chunk (sym c.in-Some.ensures) in
    c.get-in-Some.ensures ∙ ap (λ xs. slice_get xs (i % 64)) (sym (get_or_from_slice_get full (i / 64) chunk [] (sym c.in-Some.ensures))) ∙ sym (full_get full c.self.inside.last i c.self.invariant.chunked within) ∙ ap (λ xs. slice_get xs i) c.self.view_is
