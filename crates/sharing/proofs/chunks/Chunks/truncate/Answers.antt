-- The chunks end in the last block, or in a full one, a part of which is the last one then.
use Rattle.std.proofs.Common.{◌≡◌, ◌*◌, ◌≤◌, ◌<◌, ◌/◌, [], length, take, sym, ◌∙◌, ap, arith}
use Rattle.std.proofs.lemmas.Option.{slice_get_within, get_or_from_slice_get}
use Rattle.sharing.proofs.Places.{none_past, full_take, full_take_chunked, last_take}
use Rattle.sharing.proofs.chunks.Chunks.truncate.Goals as goal

pub invariant_of-self-in-Some : goal.invariant_of-self-in-Some
invariant_of-self-in-Some g c =
    let full = c.self.inside.full in
    let i = c.args.count in
    let block = c.in-Some.last.now in
    let here = get_or_from_slice_get full (i / 64) block [] (sym c.in-Some.ensures) in
    rw (c.in_ok-truncate-in-Some-2.ensures.ok, c.in_ok-truncate-in-Some.ensures.ok, c.in_ok-last-in-Some.ensures, ← here) (full_take_chunked full c.self.inside.last i c.self.invariant)

pub returns-in_ok-truncate-in-None-clause-ok : goal.returns-in_ok-truncate-in-None-clause-ok
returns-in_ok-truncate-in-None-clause-ok g c =
    let full = c.self.inside.full in
    let i = c.args.count in
    let before : c.len-full.result * 64 ≡ length full * 64 = omega arith in
    let past : c.len-full.result * 64 ≤ i = omega (arith, none_past full (i / 64) c.in-None.ensures) in
    rw c.in_ok-truncate-in-None.ensures.ok (last_take full c.self.inside.last i (c.len-full.result * 64) c.self.invariant before past) ∙ ap (take i) c.self.view_is

pub returns-in_ok-truncate-in-Some-2-clause-ok : goal.returns-in_ok-truncate-in-Some-2-clause-ok
returns-in_ok-truncate-in-Some-2-clause-ok g c =
    let full = c.self.inside.full in
    let i = c.args.count in
    let block = c.in-Some.last.now in
    let within : i / 64 < length full = slice_get_within full (i / 64) block (sym c.in-Some.ensures) in
    let here = get_or_from_slice_get full (i / 64) block [] (sym c.in-Some.ensures) in
    rw (c.in_ok-truncate-in-Some-2.ensures.ok, c.in_ok-truncate-in-Some.ensures.ok, c.in_ok-last-in-Some.ensures, ← here) (full_take full c.self.inside.last i c.self.invariant within) ∙ ap (take i) c.self.view_is
