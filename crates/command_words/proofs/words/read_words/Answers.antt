use Rattle.std.proofs.Common.{◌≡◌, Err, ap, sym, map, ◌∙◌}
use Rattle.command_words.specs.declared.refused.WordsRefused.TheVariants.{Usage}
use Rattle.command_words.proofs.Soundness.{sound_order, no_order}
use Rattle.command_words.proofs.words.read_words.Goals as goal

pub returns-in-Ok-clause-usage : goal.returns-in-Ok-clause-usage
returns-in-Ok-clause-usage c = λ is_usage.
    let same = ap (map (λ word. word.now)) c.as_slice.ensures.value ∙ c.in_ok-texts.ensures in
    sound_order (map (λ word. word.now) c.as_slice.result.now) c.args.words.now c.in-Ok.matches same c.in-Ok.ensures.ok ∙ sym c.in-None.ensures

pub returns-clause-usage : goal.returns-clause-usage
returns-clause-usage c = λ is_usage.
    let same = ap (map (λ word. word.now)) c.as_slice.ensures.value ∙ c.in_ok-texts.ensures in
    let usage : c.in-Err.refused ≡ Usage = cc in
    no_order (map (λ word. word.now) c.as_slice.result.now) c.args.words.now same (c.in-Err.ensures.usage (ap Err usage))

pub returns-in-Some-clause-read : goal.returns-in-Some-clause-read
returns-in-Some-clause-read c =
    let same = ap (map (λ word. word.now)) c.as_slice.ensures.value ∙ c.in_ok-texts.ensures in
    sound_order (map (λ word. word.now) c.as_slice.result.now) c.args.words.now c.in-Ok.matches same c.in-Ok.ensures.ok ∙ sym c.in-Some.ensures
