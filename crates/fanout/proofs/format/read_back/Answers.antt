use Rattle.std.proofs.Common.{◌≡◌, rules, [], ◌∷◌, ◌++◌, Some, None, option_map, sym, ◌∙◌, ap, subst, lit<}
use Rattle.std.proofs.lemmas.Str.Pattern.{strip_prefix_char, split_parts}
use Rattle.fanout.specs.Inside.Shapes.{plain, parts_in}
use Rattle.fanout.proofs.FormatParts.{step_double, step_second, step_last}
use Rattle.fanout.proofs.format.read_back.Goals as goal

pub returns-in_default-strip_prefix : goal.returns-in_default-strip_prefix
returns-in_default-strip_prefix c =
    let rest = c.loop-plain.rest.now in
    let t = c.in-Some.plain.now in
    let behind = c.in-Some.behind.now in
    let cut = split_parts 37 rest (Some (c.in-Some.plain, c.in-Some.behind)) c.in-Some.ensures.cases (lit< tt) in
    let other = strip_prefix_char 37 behind None c.in_default-strip_prefix.ensures.cases (lit< tt) in
    step_second c.args.text.now c.loop-plain.after t behind rest c.loop-plain.invariant.1 cut.0 cut.1 other

pub loop-plain-preserved : goal.loop-plain-preserved
loop-plain-preserved c =
    let rest = c.loop-plain.rest.now in
    let t = c.in-Some.plain.now in
    let behind = c.in-Some.behind.now in
    let more = c.in-Some-strip_prefix.more.now in
    let cut = split_parts 37 rest (Some (c.in-Some.plain, c.in-Some.behind)) c.in-Some.ensures.cases (lit< tt) in
    let double = strip_prefix_char 37 behind (Some c.in-Some-strip_prefix.more) c.in-Some-strip_prefix.ensures.cases (lit< tt) in
    let said = step_double c.args.text.now c.loop-plain.after t behind rest c.loop-plain.invariant.1 cut.0 cut.1 more double in
    let now : c.push-in-Some.new.self ≡ (c.loop-plain.after ++ t) ++ 37 ∷ [] =
    c.in_ok-push-2.ensures.ok ∙ ap (λ x. x ++ 37 ∷ []) c.in_ok-push.ensures.ok in
    (search rules, subst (λ x. parts_in c.args.text.now ≡ option_map (λ qs. plain x ++ qs) (parts_in more)) (sym now) said)

pub returns : goal.returns
returns c =
    let rest = c.loop-plain.rest.now in
    let none = split_parts 37 rest None c.in_default.ensures.cases (lit< tt) in
    let said = step_last c.args.text.now c.loop-plain.after rest c.loop-plain.invariant.1 none in
    let now : c.push-2.new.self ≡ c.loop-plain.after ++ rest = c.in_ok-push-3.ensures.ok in
    said ∙ ap (λ x. Some (plain x)) (sym now)
