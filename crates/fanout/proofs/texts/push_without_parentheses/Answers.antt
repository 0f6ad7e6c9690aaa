use Rattle.std.proofs.Common.{◌≡◌, rules, ◌++◌, Some, None, sym, ◌∙◌, ap, subst, lit<, OnOk}
use Rattle.fanout.specs.ItemTexts.{without_parentheses}
use Rattle.std.proofs.lemmas.Str.Pattern.{split_parts}
use Rattle.fanout.proofs.NameText.{opening_cut, opening_end}
use Rattle.fanout.proofs.texts.push_without_parentheses.Goals as goal

pub loop-front-preserved : goal.loop-front-preserved
loop-front-preserved c =
    let l = c.loop-front in
    let rest = l.rest.now in
    let front = c.in-Some.front.now in
    let behind = c.in-Some.behind.now in
    let cut = split_parts 40 rest (Some (c.in-Some.front, c.in-Some.behind)) c.in-Some.ensures.cases (lit< tt) in
    let said = opening_cut l.text front behind rest (c.args.text.now ++ without_parentheses c.args.more.now) l.invariant.1 cut.0 cut.1 in
    (search rules, said ∙ ap (λ t. t ++ without_parentheses behind) (sym c.in_ok-push_without_closing.ensures))

pub returns : goal.returns
returns c =
    let l = c.loop-front in
    let none = split_parts 40 l.rest.now None c.in_default.ensures.cases (lit< tt) in
    let all = opening_end l.text l.rest.now (c.args.text.now ++ without_parentheses c.args.more.now) l.invariant.1 none in
    subst (λ t. OnOk c.push_without_closing-2.result (c.push_without_closing-2.new.text ≡ t)) (sym all) c.push_without_closing-2.ensures
