use Rattle.std.proofs.Common.{◌∙◌, ◌==◌, ◌||◌, get_or, refl, ap}
use Rattle.std.specs.List.{list_any}
use Rattle.std.proofs.lemmas.List.{take_all}
use Rattle.task_order.specs.Inside.Rows.{has, bits_of}
use Rattle.task_order.proofs.Reached.{gathered_more}
use Rattle.task_order.proofs.places.gathered.Goals as goal

pub loop-i-preserved : goal.loop-i-preserved
loop-i-preserved c =
    record {
      long = c.add.ensures.long ∙ c.add_all.ensures.long ∙ c.loop-i.invariant.long;
      gathers = λ p.
          gathered_more c.args.rows.now c.args.waits.now c.loop-i.i p (get_or c.args.waits.now c.loop-i.i 0) c.index-rows-waits.result (has c.loop-i.set.words.items p) (has c.add_all.new.self.words.items p) (has c.add.new.self.words.items p)
          c.loop-i-test.true refl (c.requires.within c.loop-i.i 0 c.loop-i-test.true) c.index-rows-waits.is (c.loop-i.invariant.gathers p) (c.add_all.ensures.added p) (c.add.ensures.added p);
    }

pub returns-clause-gathers : goal.returns-clause-gathers
returns-clause-gathers c =
    λ p. c.loop-i.invariant.gathers p ∙ ap (λ ds. list_any (λ d. (p == d) || has (bits_of c.args.rows.now d) p) ds) (take_all c.loop-i.i c.args.waits.now c.loop-i-test.false)
