-- The first pod that is found: one of the node's own, else the first kid's that has one.
use Rattle.std.proofs.Common.{rules, ◌≡◌, ◌+◌, ◌*◌, ◌<◌, ◌≤◌, ◌^◌, ◌++◌, List, get_or, drop, length, subst, refl, sym, ap, ◌∙◌, arith}
use denote.Param.Weighed.{at_most}
use Rattle.std.specs.declared.sync.Arc.{Arc}
use Rattle.std.specs.declared.alloc.Global.{Global}
use Rattle.tree_types.specs.declared.want.Want.{Want}
use Rattle.meaning.specs.Lines.{Parts, then_parts, lines_below}
use Rattle.tree_state.specs.declared.sum.Sum.{Sum}
use Rattle.tree_state.specs.declared.state.Kid.{Kid}
use Rattle.tree_state.specs.Finding.{pods_in, found_at}
use Rattle.tree_state.specs.declared.below.Below.TheDeep.{deep-Kid}
use Rattle.tree_state.specs.Counting.{count_below}
use Rattle.tree_state.specs.Inside.Chunks.{all_of}
use Rattle.tree_state.specs.Inside.Kids.{kid_parts}
use Rattle.tree_state.specs.Inside.Lower.{kids_are_lower}
use Rattle.tree_state.specs.Inside.LowerChunks.{chunks_are_lower, both_counted}
use Rattle.tree_state.specs.Inside.Sizes.{chunk_size, below_size, made_size}
use Rattle.tree_state.proofs.Kids.{made_of}
use Rattle.tree_state.proofs.Chunks.{chunks_read, last_left}
use Rattle.tree_state.proofs.Positions.{pods_among, pods_then, found_skips, has_left, rest_left, fits, node_has, node_fits, both_fit, node_rest, kid_has, kid_fits, kid_next, kid_passes}
use Rattle.tree_state.proofs.+find_pod.Goals as goal

pub filled::Filled::find_pod_at-returns-then-at-pods : goal.filled::Filled::find_pod_at-returns-then-at-pods
filled::Filled::find_pod_at-returns-then-at-pods g t c =
    let p = g.T.WantTest.accepts c.args.test.now in
    let all = pods_among (lines_below c.args.self.now) in
    let le : c.args.at + length all ≤ c.args.from = omega (arith, c.if-at-pods.true, ap (λ (s : Sum). s.pods) c.self.invariant, ap (λ (q : Parts). length (pods_among (lines_below q))) c.self.view_is) in
    sym (found_skips c.args.from p c.args.at all le)

pub chunk::Chunk::find_pod_at-returns-then-at-pods : goal.chunk::Chunk::find_pod_at-returns-then-at-pods
chunk::Chunk::find_pod_at-returns-then-at-pods g t c =
    let p = g.T.WantTest.accepts c.args.test.now in
    let all = pods_among (lines_below c.args.self.now) in
    let le : c.args.at + length all ≤ c.args.from = omega (arith, c.if-at-pods.true, ap (λ (s : Sum). s.pods) c.self.invariant, ap (λ (q : Parts). length (pods_among (lines_below q))) c.self.view_is) in
    sym (found_skips c.args.from p c.args.at all le)

pub filled::Filled::find_pod_at-find_pod_at-requires : goal.filled::Filled::find_pod_at-find_pod_at-requires
filled::Filled::find_pod_at-find_pod_at-requires g t c =
    let p = g.T.WantTest.accepts c.args.test.now in
    let all = pods_among (lines_below c.args.self.now) in
    let cs = c.deref-chunk-items.result.now in
    let last = c.self.inside.last in
    let i = c.loop-chunk.chunk-index in
    let item = c.chunk-item.result in
    let own = pods_among (lines_below item.value) in
    let rest = pods_among (lines_below (then_parts (all_of (drop (i + 1) cs)) last)) in
    let ws = pods_among (lines_below (then_parts (all_of (drop i cs)) last)) in
    let split : ws ≡ own ++ rest = chunks_read (λ (a b : List Want). a ++ b) pods_among pods_then cs last i item c.loop-chunk-test.true c.chunk-item.is in
    let few : c.loop-chunk.next + length (pods_among (lines_below c.deref.result.now)) < 2 ^ 64 = omega (arith, fits c.args.from p (found_at c.args.from c.args.at p all) (c.args.at + length all) c.loop-chunk.next ws own rest split c.loop-chunk.invariant (length own) refl c.requires, ap (λ (q : Parts). length (pods_among (lines_below q))) c.deref.ensures) in
    let within : i < length cs = c.loop-chunk-test.true in
    let lower : chunk_size c.deref.result.now + 1 ≤ 6 * count_below c.args.self.now + 3 = omega (arith, ap chunk_size c.deref.ensures, ap (λ (x : Arc Parts Global). chunk_size x.value) c.chunk-item.is, at_most (λ (x : Arc Parts Global). chunk_size x.value + 1) cs i item within, chunks_are_lower cs, both_counted (all_of cs) last, ap (λ (ds : List (Arc Parts Global)). count_below (all_of ds)) c.deref-chunk-items.ensures.value, both_counted (all_of c.self.inside.full.items) last, ap count_below c.self.view_is) in
    λ κs le. (omega (arith, lower, c.decreases), (search rules, few))

pub filled::Filled::find_pod_at-find_pod_at-requires-2 : goal.filled::Filled::find_pod_at-find_pod_at-requires-2
filled::Filled::find_pod_at-find_pod_at-requires-2 g t c =
    let p = g.T.WantTest.accepts c.args.test.now in
    let all = pods_among (lines_below c.args.self.now) in
    let cs = c.deref-chunk-items.result.now in
    let last = c.self.inside.last in
    let i = c.loop-chunk.chunk-index in
    let end : length cs ≤ i = omega (arith, c.loop-chunk-test.false) in
    let few : c.loop-chunk.next + length (pods_among (lines_below last)) < 2 ^ 64 = omega (arith, c.loop-chunk.invariant.1, ap (λ (q : Parts). length (pods_among (lines_below q))) (last_left cs last i end), c.requires) in
    let lower : chunk_size last + 1 ≤ 6 * count_below c.args.self.now + 3 = omega (arith, both_counted (all_of c.self.inside.full.items) last, ap count_below c.self.view_is) in
    λ κs le. (omega (arith, lower, c.decreases), (search rules, few))

pub filled::Filled::find_pod_at-returns-in-Some : goal.filled::Filled::find_pod_at-returns-in-Some
filled::Filled::find_pod_at-returns-in-Some g t c =
    let p = g.T.WantTest.accepts c.args.test.now in
    let all = pods_among (lines_below c.args.self.now) in
    let cs = c.deref-chunk-items.result.now in
    let last = c.self.inside.last in
    let i = c.loop-chunk.chunk-index in
    let item = c.chunk-item.result in
    let own = pods_among (lines_below item.value) in
    let rest = pods_among (lines_below (then_parts (all_of (drop (i + 1) cs)) last)) in
    let ws = pods_among (lines_below (then_parts (all_of (drop i cs)) last)) in
    let split : ws ≡ own ++ rest = chunks_read (λ (a b : List Want). a ++ b) pods_among pods_then cs last i item c.loop-chunk-test.true c.chunk-item.is in
    has_left c.args.from p (found_at c.args.from c.args.at p all) (c.args.at + length all) c.loop-chunk.next ws own rest split c.loop-chunk.invariant (c.in-Some.ensures ∙ ap (λ (q : Parts). found_at c.args.from c.loop-chunk.next p (pods_among (lines_below q))) c.deref.ensures)

pub filled::Filled::find_pod_at-overflow_add-next : goal.filled::Filled::find_pod_at-overflow_add-next
filled::Filled::find_pod_at-overflow_add-next g t c =
    let p = g.T.WantTest.accepts c.args.test.now in
    let all = pods_among (lines_below c.args.self.now) in
    let cs = c.deref-chunk-items.result.now in
    let last = c.self.inside.last in
    let i = c.loop-chunk.chunk-index in
    let item = c.chunk-item.result in
    let own = pods_among (lines_below item.value) in
    let rest = pods_among (lines_below (then_parts (all_of (drop (i + 1) cs)) last)) in
    let ws = pods_among (lines_below (then_parts (all_of (drop i cs)) last)) in
    let split : ws ≡ own ++ rest = chunks_read (λ (a b : List Want). a ++ b) pods_among pods_then cs last i item c.loop-chunk-test.true c.chunk-item.is in
    omega (arith, fits c.args.from p (found_at c.args.from c.args.at p all) (c.args.at + length all) c.loop-chunk.next ws own rest split c.loop-chunk.invariant c.pods-next.result (c.pods-next.ensures.all ∙ ap (λ (q : Parts). length (pods_among (lines_below q))) c.deref-in-loop-chunk.ensures) c.requires)

pub filled::Filled::find_pod_at-loop-chunk-preserved : goal.filled::Filled::find_pod_at-loop-chunk-preserved
filled::Filled::find_pod_at-loop-chunk-preserved g t c =
    let p = g.T.WantTest.accepts c.args.test.now in
    let all = pods_among (lines_below c.args.self.now) in
    let cs = c.deref-chunk-items.result.now in
    let last = c.self.inside.last in
    let i = c.loop-chunk.chunk-index in
    let item = c.chunk-item.result in
    let own = pods_among (lines_below item.value) in
    let rest = pods_among (lines_below (then_parts (all_of (drop (i + 1) cs)) last)) in
    let ws = pods_among (lines_below (then_parts (all_of (drop i cs)) last)) in
    let split : ws ≡ own ++ rest = chunks_read (λ (a b : List Want). a ++ b) pods_among pods_then cs last i item c.loop-chunk-test.true c.chunk-item.is in
    rest_left c.args.from p (found_at c.args.from c.args.at p all) (c.args.at + length all) c.loop-chunk.next ws own rest split c.loop-chunk.invariant c.pods-next.result (c.pods-next.ensures.all ∙ ap (λ (q : Parts). length (pods_among (lines_below q))) c.deref-in-loop-chunk.ensures) (c.in_default.ensures ∙ ap (λ (q : Parts). found_at c.args.from c.loop-chunk.next p (pods_among (lines_below q))) c.deref.ensures)

pub chunk::Chunk::find_pod_at-find_pod_at-requires : goal.chunk::Chunk::find_pod_at-find_pod_at-requires
chunk::Chunk::find_pod_at-find_pod_at-requires g t c =
    let p = g.T.WantTest.accepts c.args.test.now in
    let all = pods_among (lines_below c.args.self.now) in
    let few : c.loop-kid.next + length (pods_among (lines_below (kid_parts c.kid-item.result))) < 2 ^ 64 = kid_fits c.args.from p (found_at c.args.from c.args.at p all) (c.args.at + length all) c.loop-kid.next c.deref-kid-items.result.now c.loop-kid.kid-index c.kid-item.result c.loop-kid-test.true c.kid-item.is c.loop-kid.invariant (length (pods_among (lines_below (kid_parts c.kid-item.result)))) refl c.requires in
    let kids = c.self.inside.kids.items in
    let here : c.kid-item.result ≡ get_or kids c.loop-kid.kid-index c.kid-item.result = c.kid-item.is ∙ ap (λ (ks : List Kid). get_or ks c.loop-kid.kid-index c.kid-item.result) c.deref-kid-items.ensures.value in
    let within : c.loop-kid.kid-index < length kids = subst (λ (ks : List Kid). c.loop-kid.kid-index < length ks) c.deref-kid-items.ensures.value c.loop-kid-test.true in
    let lower : deep-Kid c.kid-item.result ≤ 6 * count_below c.args.self.now + 2 = omega (arith, ap (λ (k : Kid). deep-Kid k) here, at_most (λ k. deep-Kid k) kids c.loop-kid.kid-index c.kid-item.result within, kids_are_lower kids, ap count_below c.self.view_is) in
    λ κs le. (omega (arith, lower, c.decreases), (search rules, few))

pub chunk::Chunk::find_pod_at-returns-in-Some : goal.chunk::Chunk::find_pod_at-returns-in-Some
chunk::Chunk::find_pod_at-returns-in-Some g t c =
    let p = g.T.WantTest.accepts c.args.test.now in
    let all = pods_among (lines_below c.args.self.now) in
    kid_has c.args.from p (found_at c.args.from c.args.at p all) (c.args.at + length all) c.loop-kid.next c.deref-kid-items.result.now c.loop-kid.kid-index c.kid-item.result c.loop-kid-test.true c.kid-item.is c.loop-kid.invariant c.in-Some.ensures

pub chunk::Chunk::find_pod_at-overflow_add-next : goal.chunk::Chunk::find_pod_at-overflow_add-next
chunk::Chunk::find_pod_at-overflow_add-next g t c =
    let p = g.T.WantTest.accepts c.args.test.now in
    let all = pods_among (lines_below c.args.self.now) in
    omega (arith, kid_fits c.args.from p (found_at c.args.from c.args.at p all) (c.args.at + length all) c.loop-kid.next c.deref-kid-items.result.now c.loop-kid.kid-index c.kid-item.result c.loop-kid-test.true c.kid-item.is c.loop-kid.invariant c.pods-pods.result c.pods-pods.ensures c.requires)

pub chunk::Chunk::find_pod_at-loop-kid-preserved : goal.chunk::Chunk::find_pod_at-loop-kid-preserved
chunk::Chunk::find_pod_at-loop-kid-preserved g t c =
    let p = g.T.WantTest.accepts c.args.test.now in
    let all = pods_among (lines_below c.args.self.now) in
    kid_next c.args.from p (found_at c.args.from c.args.at p all) (c.args.at + length all) c.loop-kid.next c.deref-kid-items.result.now c.loop-kid.kid-index c.kid-item.result c.loop-kid-test.true c.kid-item.is c.loop-kid.invariant c.pods-pods.result c.pods-pods.ensures c.in_default.ensures

pub chunk::Chunk::find_pod_at-loop-kid-preserved-then-pods-eq0-2 : goal.chunk::Chunk::find_pod_at-loop-kid-preserved-then-pods-eq0-2
chunk::Chunk::find_pod_at-loop-kid-preserved-then-pods-eq0-2 g t c =
    let p = g.T.WantTest.accepts c.args.test.now in
    let all = pods_among (lines_below c.args.self.now) in
    kid_passes c.args.from p (found_at c.args.from c.args.at p all) (c.args.at + length all) c.loop-kid.next c.deref-kid-items.result.now c.loop-kid.kid-index c.kid-item.result c.loop-kid-test.true c.kid-item.is c.loop-kid.invariant c.pods-pods.result c.pods-pods.ensures (omega (arith, c.if-pods-eq0-2.true))

pub state::State::find_pod_at-pod_in-requires : goal.state::State::find_pod_at-pod_in-requires
state::State::find_pod_at-pod_in-requires g t c =
    node_fits c.args.from (g.T.WantTest.accepts c.args.test.now) c.args.at (made_of c.self.inside) c.args.self.now c.self.view_is (length (pods_in c.self.inside.wants)) refl c.requires

pub state::State::find_pod_at-returns-in-Some : goal.state::State::find_pod_at-returns-in-Some
state::State::find_pod_at-returns-in-Some g t c =
    node_has c.args.from (g.T.WantTest.accepts c.args.test.now) c.args.at (made_of c.self.inside) c.args.self.now c.self.view_is c.in-Some.ensures

pub state::State::find_pod_at-overflow_add-at : goal.state::State::find_pod_at-overflow_add-at
state::State::find_pod_at-overflow_add-at g t c =
    omega (arith, node_fits c.args.from (g.T.WantTest.accepts c.args.test.now) c.args.at (made_of c.self.inside) c.args.self.now c.self.view_is c.count_of.result c.count_of.ensures.all c.requires)

pub state::State::find_pod_at-find_pod_at-requires : goal.state::State::find_pod_at-find_pod_at-requires
state::State::find_pod_at-find_pod_at-requires g t c =
    let few : c.args.at + c.count_of.result + length (pods_among (lines_below c.self.inside.below)) < 2 ^ 64 = both_fit c.args.from (g.T.WantTest.accepts c.args.test.now) c.args.at (made_of c.self.inside) c.args.self.now c.self.view_is c.count_of.result c.count_of.ensures.all (length (pods_among (lines_below c.self.inside.below))) refl c.requires in
    let lower : below_size c.self.inside.below + 1 ≤ made_size c.args.self.now = omega (arith, ap made_size c.self.view_is) in
    λ κs le. (omega (arith, lower, c.decreases), (search rules, few))

pub state::State::find_pod_at-returns : goal.state::State::find_pod_at-returns
state::State::find_pod_at-returns g t c =
    c.find_pod_at.ensures ∙ (node_rest c.args.from (g.T.WantTest.accepts c.args.test.now) c.args.at (made_of c.self.inside) c.args.self.now c.self.view_is c.count_of.result c.count_of.ensures.all c.in_default.ensures).0
