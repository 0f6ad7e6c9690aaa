use Rattle.std.proofs.Common.{◌∙◌, ap}
use Rattle.serde_json.specs.Written.{has_float, compact_text}
use Rattle.history_text.proofs.NoFloat.{in_entry}
use Rattle.history_text.proofs.history.print_entry.Goals as goal

pub returns : goal.returns
returns c =
    let same = c.in_ok-entry_value.ensures in
    c.in_ok-to_vec.ensures.text (ap has_float same ∙ in_entry c.args.entry.now) ∙ ap compact_text same
