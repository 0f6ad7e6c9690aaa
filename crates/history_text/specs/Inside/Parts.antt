-- A JSON list that is being made.
use Rattle.std.specs.Prelude.{List, map}
use Rattle.serde_json.specs.Data.{Data}
use Rattle.serde_json.specs.View.{view}
use Rattle.history_text.specs.declared.list.Items.{Items}

abbrev pub parts_of : Items → List Data
parts_of items = map view items.values.items
