-- The chunk of the last block, or of a full one.
use Rattle.std.proofs.Common.{◌≡◌, ◌≤◌, ◌*◌, ◌/◌, ◌%◌, ◌<◌, [], length, sym, ◌∙◌, ap, arith}
use Rattle.std.specs.Prelude.{slice_get}
use Rattle.std.proofs.lemmas.Option.{slice_get_within, get_or_from_slice_get}
use Rattle.sharing.proofs.Places.{none_past, full_get, last_get}
use Rattle.sharing.proofs.chunks.Chunks.get.Goals as goal

pub returns-in-None : goal.returns-in-None
returns-in-None g c =
    let full = c.self.inside.full in
    let i = c.args.position in
    let before : c.len-full.result * 64 ≡ length full * 64 = omega arith in
    let past : c.len-full.result * 64 ≤ i = omega (arith, none_past full (i / 64) c.in-None.ensures) in
    c.get-in-None.ensures ∙ sym (last_get full c.self.inside.last i (c.len-full.result * 64) c.self.invariant before past) ∙ ap (λ xs. slice_get xs i) c.self.view_is

pub returns-in-Some : goal.returns-in-Some
returns-in-Some g c =
    let full = c.self.inside.full in
    let i = c.args.position in
    let block = c.in-Some.block.now in
    let within : i / 64 < length full = slice_get_within full (i / 64) block (sym c.in-Some.ensures) in
    c.get-in-Some.ensures ∙ ap (λ xs. slice_get xs (i % 64)) (sym (get_or_from_slice_get full (i / 64) block [] (sym c.in-Some.ensures))) ∙ sym (full_get full c.self.inside.last i c.self.invariant within) ∙ ap (λ xs. slice_get xs i) c.self.view_is
