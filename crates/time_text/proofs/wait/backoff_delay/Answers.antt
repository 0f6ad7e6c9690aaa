use Rattle.std.proofs.Common.{◌≡◌, ◌⊎◌, min, arith, inl, inr, sym, ◌∙◌}
use Rattle.base_types.specs.Limits.{most_seconds}
use Rattle.time_text.proofs.Delay.{delay_by_zero, delay_unchanged}
use Rattle.time_text.proofs.wait.backoff_delay.Goals as goal

pub returns-then-k-gt1 : goal.returns-then-k-gt1
returns-then-k-gt1 c = grind (arith, delay_by_zero c.args.duration c.args.k)

pub returns-else-factor-eq0 : goal.returns-else-factor-eq0
returns-else-factor-eq0 c =
    let first : c.min.result ≡ min most_seconds c.args.duration = omega arith in
    let at : (c.args.k ≡ 1) ⊎ (c.args.factor ≡ 1) = elim c.else-factor-eq0.either [ inl zero ↦ inl (omega arith) | inr other ↦ inr (omega arith) ] in
    first ∙ sym (delay_unchanged c.args.duration c.args.factor c.args.k at)
