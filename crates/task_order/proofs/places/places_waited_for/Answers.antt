use Rattle.std.proofs.Common.{◌≡◌, ◌∙◌, ◌<◌, ◌+◌, ◌/◌, ◌==◌, ◌||◌, [], length, get_or, vec_len, refl, ap, arith}
use Rattle.std.specs.List.{list_any}
use Rattle.std.proofs.lemmas.List.{get_or_default}
use Rattle.std.proofs.lemmas.List.Elements.{All-set}
use Rattle.task_order.specs.Orders.{row}
use Rattle.task_order.specs.Inside.Rows.{has, bits_of}
use Rattle.task_order.proofs.Reached.{exact_more, all_exact}
use Rattle.task_order.proofs.places.places_waited_for.Goals as goal

pub loop-k-preserved : goal.loop-k-preserved
loop-k-preserved c =
    let waits = c.args.waits.now in
    let sets = c.loop-k.rows.items in
    let v = get_or c.args.order.now c.loop-k.k 0 in
    let set = c.in_ok-set.set in
    let below : v < length waits = c.requires.order.within c.loop-k.k 0 c.loop-k-test.true in
    let size = c.loop-k.invariant.size in
    let long : length sets ≡ length waits = omega (arith, size) in
    let read : length c.as_slice.result.now ≡ length waits = ap length c.as_slice.ensures.value ∙ long in
    let row_is : c.as_slice-in-loop-k.result.now ≡ row waits v = c.as_slice-in-loop-k.ensures ∙ c.index-waits-place.is ∙ get_or_default waits v c.index-waits-place.result [] below in
    record {
      size = size;
      long = All-set (λ s. vec_len s.words ≡ length waits / 64 + 1) sets v set (c.in_ok-set.ensures.long ∙ ap (λ n. n / 64 + 1) read) c.loop-k.invariant.long;
      exact =
          exact_more waits sets c.args.order.now c.loop-k.k v set c.requires.order long c.loop-k-test.true refl c.loop-k.invariant.exact
          (λ p. c.in_ok-set.ensures.gathers p
          ∙ ap (λ rs. list_any (λ d. (p == d) || has (bits_of rs d) p) c.as_slice-in-loop-k.result.now) c.as_slice.ensures.value
          ∙ ap (λ ds. list_any (λ d. (p == d) || has (bits_of sets d) p) ds) row_is);
    }

pub returns : goal.returns
returns c =
    let size = c.loop-k.invariant.size in
    let long : length c.loop-k.rows.items ≡ length c.args.waits.now = omega (arith, size) in
    all_exact c.args.waits.now c.loop-k.rows.items c.args.order.now c.loop-k.k c.requires.order long c.loop-k-test.false c.loop-k.invariant.exact
