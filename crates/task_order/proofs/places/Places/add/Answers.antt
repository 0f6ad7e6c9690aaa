use Rattle.std.proofs.Common.{◌≡◌, ◌<◌, ◌/◌, ◌%◌, ◌*◌, ◌^◌, length, get_or, set, ap, ◌∙◌, arith}
use Rattle.std.specs.Prelude.{bit_or}
use Rattle.std.proofs.lemmas.List.{get_or_default}
use Rattle.task_order.specs.Inside.Rows.{has}
use Rattle.task_order.proofs.Bits.{has_added}
use Rattle.task_order.proofs.places.Places.add.Goals as goal

pub returns-clause-added : goal.returns-clause-added
returns-clause-added c =
    let words = c.args.self.now.words.items in
    let place = c.args.place in
    let below : place / 64 < length words = omega arith in
    let is : c.index_mut.result.now ≡ get_or words (place / 64) 0 = c.index_mut.ensures.value ∙ get_or_default words (place / 64) c.index_mut.result.now 0 below in
    λ p. ap (λ x. has (set words (place / 64) (bit_or x (1 * 2 ^ (place % 64) % 2 ^ 64))) p) is ∙ has_added words place p below
