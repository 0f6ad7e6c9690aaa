-- The items that are read so far, before what is left.
use Rattle.std.proofs.Common.{List, ◌++◌, Ok, Err}
use Rattle.item_reader.specs.declared.items.Item.{Item}
use Rattle.bundle_rules.specs.Findings.{Found}

abbrev pub with_front : List Item → Found (List Item) → Found (List Item)
with_front front (Ok xs) = Ok (front ++ xs)
with_front front (Err refused) = Err refused
