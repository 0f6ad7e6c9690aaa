use Rattle.std.proofs.Common.{◌≡◌, rules, ◌++◌, Some, None, sym, ◌∙◌, ap, subst, lit<, OnOk}
use Rattle.std.proofs.lemmas.Str.Pattern.{split_parts}
use Rattle.fanout.proofs.NameText.{without_closing, closing_cut, closing_end}
use Rattle.fanout.proofs.texts.push_without_closing.Goals as goal

pub loop-front-preserved : goal.loop-front-preserved
loop-front-preserved c =
    let l = c.loop-front in
    let rest = l.rest.now in
    let front = c.in-Some.front.now in
    let behind = c.in-Some.behind.now in
    let cut = split_parts 41 rest (Some (c.in-Some.front, c.in-Some.behind)) c.in-Some.ensures.cases (lit< tt) in
    let said = closing_cut l.text front behind rest (c.args.text.now ++ without_closing c.args.more.now) l.invariant.1 cut.0 cut.1 in
    (search rules, said ∙ ap (λ t. t ++ without_closing behind) (sym c.in_ok-push.ensures.ok))

pub returns : goal.returns
returns c =
    let l = c.loop-front in
    let none = split_parts 41 l.rest.now None c.in_default.ensures.cases (lit< tt) in
    let all = closing_end l.text l.rest.now (c.args.text.now ++ without_closing c.args.more.now) l.invariant.1 none in
    subst (λ t. OnOk c.push-2.result (c.push-2.new.self ≡ t)) (sym all) c.push-2.ensures.ok
