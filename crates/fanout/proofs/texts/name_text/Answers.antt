use Rattle.std.proofs.Common.{◌≡◌, Some, sym, ap, ◌∙◌}
use Rattle.serde_json.specs.Find.{as_object}
use Rattle.serde_json.specs.View.{view, members_view}
use Rattle.fanout.specs.Items.{is_whole}
use Rattle.fanout.proofs.NameText.{whole_members}
use Rattle.fanout.proofs.texts.name_text.Goals as goal

pub pairs_text-requires : goal.pairs_text-requires
pairs_text-requires c =
    let value = c.value-value.result.now in
    let members = members_view c.in-Some.members.now.entries in
    let here : as_object (view value) ≡ Some members = sym c.in-Some.ensures in
    whole_members (view value) members here (ap is_whole c.value-value.ensures ∙ c.requires)
