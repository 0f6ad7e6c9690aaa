-- One task more is looked for.
use Rattle.std.proofs.Common.{◌≡◌, suc, ℕ, ◌+◌, ◌-◌, ◌++◌, ◌∷◌, [], drop, List, Option, append_assoc, sym, ap, ◌∙◌, arith}
use Rattle.meaning.specs.Lines.{Made}
use Rattle.dag_stays.specs.ByTask.{by_task}
use Rattle.dag_stays.proofs.Found.{next_is, one_most}
use Rattle.dag_stays.proofs.sought.by_task.Goals as goal

pub loop-i-preserved : goal.loop-i-preserved
loop-i-preserved c =
    let i = c.loop-i.i in
    let at = c.loop-i.at in
    let calls = c.args.calls.now in
    let depth = c.args.depth in
    let one : Option Made = c.in_ok-one.one in
    let left = c.args.count - (i + 1) in
    let lefts : suc left ≡ c.args.count - i = omega (arith, c.loop-i-test.true) in
    let next : suc i ≡ i + 1 = omega arith in
    record {
      low = omega (arith, c.loop-i.invariant.low, c.one_if-at.ensures, one_most one);
      told =
          ap (λ (xs : List (Option Made)). xs ++ by_task depth (i + 1) left (drop (at + c.one_if-at.result) calls)) c.in_ok-push.ensures.items
          ∙ append_assoc c.loop-i.found.items (one ∷ []) (by_task depth (i + 1) left (drop (at + c.one_if-at.result) calls))
          ∙ (λ j. c.loop-i.found.items ++ one ∷ by_task depth (sym next j) left (drop (at + c.one_if-at.ensures j) calls))
          ∙ ap (λ (xs : List (Option Made)). c.loop-i.found.items ++ xs) (sym (next_is depth i left at calls one c.in_ok-one.ensures))
          ∙ ap (λ (n : ℕ). c.loop-i.found.items ++ by_task depth i n (drop at calls)) lefts
          ∙ c.loop-i.invariant.told;
    }
