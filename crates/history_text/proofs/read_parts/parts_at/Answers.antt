use Rattle.std.proofs.Common.{Some, map, option_map, sym, ap, ◌∙◌}
use Rattle.serde_json.specs.Find.{as_array}
use Rattle.serde_json.specs.View.{view, items_view}
use Rattle.history_text.specs.Inside.Reading.{◌>>=◌, parts_in}
use Rattle.history_text.proofs.PartsIn.{parts_in-items_of}
use Rattle.history_text.proofs.read_parts.parts_at.Goals as goal

pub returns-in-Some : goal.returns-in-Some
returns-in-Some c =
    let list = sym c.as_array.ensures ∙ ap (option_map (λ v. items_view v.now.items)) c.in-Some.is in
    ap (λ o. o >>= as_array >>= λ ds. Some (parts_in ds)) c.in_ok-part_at.ensures
    ∙ ap (λ o. o >>= λ ds. Some (parts_in ds)) list
    ∙ ap Some (parts_in-items_of (map view c.in-Some.parts.now.items) ∙ ap (map view) (sym c.as_slice.ensures.value))
