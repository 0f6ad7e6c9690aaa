-- One item of a full chunk, or of the last one, is replaced.
use Rattle.std.proofs.Common.{◌≡◌, ◌-◌, ◌*◌, ◌/◌, ◌≤◌, ◌<◌, length, ◌∙◌, ap, arith}
use Rattle.std.specs.Prelude.{slice_set}
use Rattle.sharing.proofs.Places.{before_last, full_within, full_set, full_set_kept, last_set}
use Rattle.sharing.proofs.list.SharedList.set.Goals as goal

pub set_in-requires-clause-chunk : goal.set_in-requires-clause-chunk
set_in-requires-clause-chunk g c =
    omega (arith, c.len.ensures, before_last c.self.inside.full c.self.inside.last c.self.inside.len c.self.invariant)

pub set_in-requires-clause-position : goal.set_in-requires-clause-position
set_in-requires-clause-position g c =
    let full = c.self.inside.full in
    let before = before_last full c.self.inside.last c.self.inside.len c.self.invariant in
    let within : c.args.position / 64 < length full = omega (arith, c.len.ensures, before) in
    full_within full c.self.inside.last c.args.position c.self.invariant.chunked within

pub invariant_of-self : goal.invariant_of-self
invariant_of-self g c =
    let full = c.self.inside.full in
    let before = before_last full c.self.inside.last c.self.inside.len c.self.invariant in
    let within : c.args.position / 64 < length full = omega (arith, c.len.ensures, before) in
    rw (c.in_ok-set_in.ensures.ok, c.in_ok-item.ensures) (full_set_kept full c.self.inside.last c.args.position c.self.inside.len c.args.item c.self.invariant within)

pub returns-in_ok-set_in-clause-ok : goal.returns-in_ok-set_in-clause-ok
returns-in_ok-set_in-clause-ok g c =
    let full = c.self.inside.full in
    let last = c.self.inside.last in
    let i = c.args.position in
    let x = c.args.item in
    let before = before_last full last c.self.inside.len c.self.invariant in
    let within : i / 64 < length full = omega (arith, c.len.ensures, before) in
    rw (c.in_ok-set_in.ensures.ok, c.in_ok-item.ensures) (full_set full last i x c.self.invariant.chunked within) ∙ ap (λ xs. slice_set xs i x) c.self.view_is

pub returns-in_ok-set-clause-ok : goal.returns-in_ok-set-clause-ok
returns-in_ok-set-clause-ok g c =
    let full = c.self.inside.full in
    let last = c.self.inside.last in
    let i = c.args.position in
    let x = c.args.item in
    let b = c.self.inside.len - c.len.result in
    let before : b ≡ length full * 64 = ap (λ n. c.self.inside.len - n) c.len.ensures ∙ before_last full last c.self.inside.len c.self.invariant in
    let past : b ≤ i = omega arith in
    rw (c.in_ok-set.ensures.ok, c.in_ok-item.ensures) (last_set full last i b x c.self.invariant.chunked before past) ∙ ap (λ xs. slice_set xs i x) c.self.view_is
