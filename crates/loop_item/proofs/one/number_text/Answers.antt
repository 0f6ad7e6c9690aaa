-- Digits are parsed as they stand.
use Rattle.std.proofs.Common.{◌≡◌, ◌<◌, ◌^◌, Ok, ap, sym, ◌∙◌, decimal, List}
use Rattle.tag_text.specs.declared.part.Part.{Part}
use Rattle.tag_text.specs.Parts.{Parsed, parsed, as_it_stands}
use Rattle.loop_item.proofs.Digits.{parsed_decimal}
use Rattle.loop_item.proofs.one.number_text.Goals as goal

same_parts : (a b : List Part) (p : Parsed) → p ≡ Ok a → p ≡ Ok b → a ≡ b
same_parts a b p e f = cc

pub returns-in-Ok : goal.returns-in-Ok
returns-in-Ok c =
    let low : c.args.number < 2 ^ 64 = c.ranges.number.fits in
    let says = ap parsed (c.as_str.ensures.value ∙ c.in_ok-digits.ensures.ok) ∙ parsed_decimal c.args.number low in
    let told = c.in-Ok.ensures (λ e. absurd (cc)) in
    same_parts c.in-Ok.text (as_it_stands (decimal c.args.number)) (parsed c.as_str.result.now) (sym told) says
