use Rattle.std.proofs.Common.{◌≡◌, rules, [], ◌∷◌, ◌++◌, Some, None, option_map, sym, ◌∙◌, ap, subst, lit<}
use Rattle.std.proofs.lemmas.Str.Pattern.{strip_prefix_char, split_parts}
use Rattle.fanout.specs.Inside.Shapes.{plain, around, parts_in}
use Rattle.fanout.proofs.FormatParts.{step_double, step_number, step_bad, step_plain}
use Rattle.fanout.proofs.format.read_front.Goals as goal

pub returns-in_default : goal.returns-in_default
returns-in_default c =
    let rest = c.loop-plain.rest.now in
    let none = split_parts 37 rest None c.in_default.ensures.cases (lit< tt) in
    step_plain c.args.text.now c.loop-plain.before rest c.loop-plain.invariant.1 none

pub loop-plain-preserved : goal.loop-plain-preserved
loop-plain-preserved c =
    let rest = c.loop-plain.rest.now in
    let t = c.in-Some.plain.now in
    let behind = c.in-Some.behind.now in
    let more = c.in-Some-strip_prefix.more.now in
    let cut = split_parts 37 rest (Some (c.in-Some.plain, c.in-Some.behind)) c.in-Some.ensures.cases (lit< tt) in
    let double = strip_prefix_char 37 behind (Some c.in-Some-strip_prefix.more) c.in-Some-strip_prefix.ensures.cases (lit< tt) in
    let said = step_double c.args.text.now c.loop-plain.before t behind rest c.loop-plain.invariant.1 cut.0 cut.1 more double in
    let now : c.push-in-loop-plain.new.self ≡ (c.loop-plain.before ++ t) ++ 37 ∷ [] =
    c.in_ok-push-2.ensures.ok ∙ ap (λ x. x ++ 37 ∷ []) c.in_ok-push.ensures.ok in
    (search rules, subst (λ x. parts_in c.args.text.now ≡ option_map (λ qs. plain x ++ qs) (parts_in more)) (sym now) said)

pub returns-in_default-read_width : goal.returns-in_default-read_width
returns-in_default-read_width c =
    let rest = c.loop-plain.rest.now in
    let t = c.in-Some.plain.now in
    let behind = c.in-Some.behind.now in
    let cut = split_parts 37 rest (Some (c.in-Some.plain, c.in-Some.behind)) c.in-Some.ensures.cases (lit< tt) in
    let other = strip_prefix_char 37 behind None c.in_default-strip_prefix.ensures.cases (lit< tt) in
    step_bad c.args.text.now c.loop-plain.before t behind rest c.loop-plain.invariant.1 cut.0 cut.1 other c.in_default-read_width.ensures

pub returns-in_default-strip_prefix : goal.returns-in_default-strip_prefix
returns-in_default-strip_prefix c =
    let rest = c.loop-plain.rest.now in
    let t = c.in-Some.plain.now in
    let behind = c.in-Some.behind.now in
    let width = c.in-Some-read_width.width in
    let after = c.in-Some-read_width.after.now in
    let cut = split_parts 37 rest (Some (c.in-Some.plain, c.in-Some.behind)) c.in-Some.ensures.cases (lit< tt) in
    let other = strip_prefix_char 37 behind None c.in_default-strip_prefix.ensures.cases (lit< tt) in
    let said = step_number c.args.text.now c.loop-plain.before t behind rest c.loop-plain.invariant.1 cut.0 cut.1 other width after c.in-Some-read_width.ensures in
    let now : c.push.new.self ≡ c.loop-plain.before ++ t = c.in_ok-push.ensures.ok in
    said ∙ ap (λ x. option_map (around x width) (parts_in after)) (sym now)
