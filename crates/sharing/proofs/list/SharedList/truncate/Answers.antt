-- The list ends in the last chunk, or in a full one, a part of which is the last one then.
use Rattle.std.proofs.Common.{◌≡◌, ◌-◌, ◌*◌, ◌≤◌, ◌<◌, ◌/◌, [], length, take, sym, ◌∙◌, ap, arith}
use Rattle.std.proofs.lemmas.Option.{slice_get_within, get_or_from_slice_get}
use Rattle.sharing.proofs.Places.{none_past, before_last, full_take, full_take_kept, last_take, last_take_kept}
use Rattle.sharing.proofs.list.SharedList.truncate.Goals as goal

pub overflow_sub-count : goal.overflow_sub-count
overflow_sub-count g c =
    let full = c.self.inside.full in
    let before = before_last full c.self.inside.last c.self.inside.len c.self.invariant in
    omega (arith, c.len.ensures, before, none_past full (c.args.count / 64) c.in-None.ensures)

pub invariant_of-self-in-None : goal.invariant_of-self-in-None
invariant_of-self-in-None g c =
    let full = c.self.inside.full in
    let last = c.self.inside.last in
    let i = c.args.count in
    let b = c.self.inside.len - c.len.result in
    let before : b ≡ length full * 64 = ap (λ n. c.self.inside.len - n) c.len.ensures ∙ before_last full last c.self.inside.len c.self.invariant in
    let past : b ≤ i = omega (arith, before, none_past full (i / 64) c.in-None.ensures) in
    rw c.in_ok-truncate-in-None.ensures.ok (last_take_kept full last i c.self.inside.len b c.self.invariant c.if-count-self.false before past)

pub invariant_of-self-in-Some : goal.invariant_of-self-in-Some
invariant_of-self-in-Some g c =
    let full = c.self.inside.full in
    let i = c.args.count in
    let chunk = c.in-Some.last.now in
    let within : i / 64 < length full = slice_get_within full (i / 64) chunk (sym c.in-Some.ensures) in
    let here = get_or_from_slice_get full (i / 64) chunk [] (sym c.in-Some.ensures) in
    rw (c.in_ok-truncate-in-Some-2.ensures.ok, c.in_ok-truncate-in-Some.ensures.ok, c.in_ok-last-in-Some.ensures, ← here) (full_take_kept full c.self.inside.last i c.self.inside.len c.self.invariant c.if-count-self.false within)

pub returns-in_ok-truncate-in-None-clause-ok : goal.returns-in_ok-truncate-in-None-clause-ok
returns-in_ok-truncate-in-None-clause-ok g c =
    let full = c.self.inside.full in
    let last = c.self.inside.last in
    let i = c.args.count in
    let b = c.self.inside.len - c.len.result in
    let before : b ≡ length full * 64 = ap (λ n. c.self.inside.len - n) c.len.ensures ∙ before_last full last c.self.inside.len c.self.invariant in
    let past : b ≤ i = omega (arith, before, none_past full (i / 64) c.in-None.ensures) in
    rw c.in_ok-truncate-in-None.ensures.ok (last_take full last i b c.self.invariant.chunked before past) ∙ ap (take i) c.self.view_is

pub returns-in_ok-truncate-in-Some-2-clause-ok : goal.returns-in_ok-truncate-in-Some-2-clause-ok
returns-in_ok-truncate-in-Some-2-clause-ok g c =
    let full = c.self.inside.full in
    let i = c.args.count in
    let chunk = c.in-Some.last.now in
    let within : i / 64 < length full = slice_get_within full (i / 64) chunk (sym c.in-Some.ensures) in
    let here = get_or_from_slice_get full (i / 64) chunk [] (sym c.in-Some.ensures) in
    rw (c.in_ok-truncate-in-Some-2.ensures.ok, c.in_ok-truncate-in-Some.ensures.ok, c.in_ok-last-in-Some.ensures, ← here) (full_take full c.self.inside.last i c.self.invariant.chunked within) ∙ ap (take i) c.self.view_is
