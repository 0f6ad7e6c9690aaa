use Rattle.std.proofs.Common.{sym, ap, ◌∙◌}
use Rattle.meaning.specs.Lines.{Parts, Made, then_parts, lines_in, lines_below}
use Rattle.tree_state.specs.declared.kinds.WantKind.TheVariants.{Timer}
use Rattle.tree_state.specs.declared.sum.Sum.{Sum}
use Rattle.tree_state.specs.Finding.{sooner}
use Rattle.tree_state.specs.Inside.Kids.{parts_of}
use Rattle.tree_state.specs.Inside.Chunks.{all_of}
use Rattle.tree_state.proofs.Kids.{made_of}
use Rattle.tree_state.proofs.Chunks.{chunk_timer}
use Rattle.tree_state.proofs.Firsts.{asks_none}
use Rattle.tree_state.proofs.Found.{lacks_timers, own_timers, timer_kept}
use Rattle.tree_state.proofs.Readings.{timer_among}
use Rattle.tree_state.proofs.+next_timer.Goals as goal

pub filled::Filled::next_timer-returns-then-not-of : goal.filled::Filled::next_timer-returns-then-not-of
filled::Filled::next_timer-returns-then-not-of t c =
    sym (lacks_timers c.args.clock (lines_below (then_parts (all_of c.self.inside.full.items) c.self.inside.last)) (asks_none Timer (lines_below (then_parts (all_of c.self.inside.full.items) c.self.inside.last)) c.self.inside.sum.asks c.of.result (ap (λ (s : Sum). s.asks) c.self.invariant) c.of.ensures c.if-not-of.true)) ∙ ap (λ (p : Parts). timer_among c.args.clock (lines_below p)) c.self.view_is

pub chunk::Chunk::next_timer-returns-then-not-of : goal.chunk::Chunk::next_timer-returns-then-not-of
chunk::Chunk::next_timer-returns-then-not-of t c =
    sym (lacks_timers c.args.clock (lines_below (parts_of c.self.inside.kids.items)) (asks_none Timer (lines_below (parts_of c.self.inside.kids.items)) c.self.inside.sum.asks c.of.result (ap (λ (s : Sum). s.asks) c.self.invariant) c.of.ensures c.if-not-of.true)) ∙ ap (λ (p : Parts). timer_among c.args.clock (lines_below p)) c.self.view_is

pub chunk::Chunk::next_timer-loop-kid-preserved : goal.chunk::Chunk::next_timer-loop-kid-preserved
chunk::Chunk::next_timer-loop-kid-preserved t c =
    timer_kept c.args.clock c.deref-kid-items.result.now c.loop-kid.kid-index c.kid-item.result c.loop-kid.next c.sooner-next.result c.next_timer.result (timer_among c.args.clock (lines_below c.args.self.now))
    c.loop-kid-test.true c.kid-item.is c.next_timer.ensures c.sooner-next.ensures c.loop-kid.invariant

pub filled::Filled::next_timer-loop-chunk-preserved : goal.filled::Filled::next_timer-loop-chunk-preserved
filled::Filled::next_timer-loop-chunk-preserved t c =
    chunk_timer c.args.clock c.deref-chunk-items.result.now c.self.inside.last c.loop-chunk.chunk-index c.chunk-item.result c.loop-chunk.next c.sooner-next.result c.next_timer.result (timer_among c.args.clock (lines_below c.args.self.now))
    c.loop-chunk-test.true c.chunk-item.is (c.next_timer.ensures ∙ ap (λ (p : Parts). timer_among c.args.clock (lines_below p)) c.deref.ensures) c.sooner-next.ensures c.loop-chunk.invariant

pub state::State::next_timer-returns : goal.state::State::next_timer-returns
state::State::next_timer-returns t c =
    c.sooner.ensures ∙ ap (sooner c.next_in-own.result) c.next_timer.ensures ∙ own_timers c.args.clock (made_of c.self.inside) c.next_in-own.result c.next_in-own.ensures ∙ ap (λ (m : Made). timer_among c.args.clock (lines_in m)) c.self.view_is
