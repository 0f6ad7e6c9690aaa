use Rattle.std.proofs.Common.{◌≡◌, ◌++◌, Some, sym, ap, subst, ◌∙◌}
use Rattle.serde_json.specs.Find.{as_object}
use Rattle.serde_json.specs.View.{view, members_view}
use Rattle.scopes.specs.Values.{HasValuesOfEither}
use Rattle.fanout.specs.Items.{is_whole}
use Rattle.fanout.specs.ItemTexts.{item_tags, member_tags}
use Rattle.fanout.proofs.ItemTags.{of_map, only_later, on_err, on_err_too}
use Rattle.fanout.proofs.NameText.{whole_members}
use Rattle.fanout.proofs.tags.add_item_tags.Goals as goal

pub add_members-requires : goal.add_members-requires
add_members-requires c =
    let value = c.value.result.now in
    let members = members_view c.in-Some.members.now.entries in
    let here : as_object (view value) ≡ Some members = sym c.in-Some.ensures in
    whole_members (view value) members here (ap is_whole c.value.ensures ∙ c.requires)

pub returns-in_err-add_members-clause-err : goal.returns-in_err-add_members-clause-err
returns-in_err-add_members-clause-err c =
    let old = c.args.tags.now in
    let new = c.add_members.new.tags in
    let members = members_view c.in-Some.members.now.entries in
    let either = of_map new old (view c.value.result.now) members (sym c.in-Some.ensures) c.in_err-add_members.ensures.err in
    on_err c.from_residual.result (HasValuesOfEither new old (item_tags c.args.item.now ++ old))
    (subst (λ d. HasValuesOfEither new old (item_tags d ++ old)) c.value.ensures either)

pub returns-clause-err : goal.returns-clause-err
returns-clause-err c =
    let old = c.args.tags.now in
    let before = c.add_members.new.tags in
    let new = c.add_item-2.new.tags in
    let value = view c.value.result.now in
    let members = members_view c.in-Some.members.now.entries in
    let either = of_map before old value members (sym c.in-Some.ensures) (only_later before old (member_tags members ++ old) c.in_ok-add_members.ensures.ok) in
    let here = subst (λ d. HasValuesOfEither before old (item_tags d ++ old)) c.value.ensures either in
    on_err_too c.add_item-2.result (new ≡ before) (HasValuesOfEither new old (item_tags c.args.item.now ++ old))
    (λ same. subst (λ s. HasValuesOfEither s old (item_tags c.args.item.now ++ old)) (sym same) here)
    c.add_item-2.ensures.err
