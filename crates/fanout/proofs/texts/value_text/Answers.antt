use Rattle.std.proofs.Common.{◌≡◌, false, None, sym, ◌∙◌}
use Rattle.serde_json.specs.Find.{as_str}
use Rattle.serde_json.specs.View.{view}
use Rattle.serde_json.specs.Written.{has_float}
use Rattle.fanout.proofs.ItemText.{item_text-other, has_float-is_whole}
use Rattle.fanout.proofs.texts.value_text.Goals as goal

pub returns-in_ok-from_string-in-None : goal.returns-in_ok-from_string-in-None
returns-in_ok-from_string-in-None c =
    let value = c.args.value.now in
    let whole : has_float (view value) ≡ false = has_float-is_whole (view value) c.requires in
    let none : as_str (view value) ≡ None = sym c.in-None.ensures in
    c.in_ok-from_string-in-None.ensures ∙ c.in_ok-to_string-in-None.ensures.text whole ∙ sym (item_text-other (view value) none)
