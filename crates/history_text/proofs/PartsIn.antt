-- The parts of a list that was read.
use Rattle.std.proofs.Common.{◌≡◌, List, [], ◌∷◌, refl, ap}
use Rattle.serde_json.specs.Data.{Data}
use Rattle.serde_json.specs.View.{items_of}
use Rattle.history_text.specs.Inside.Reading.{parts_in}

pub parts_in-items_of : (parts : List Data) → parts_in (items_of parts) ≡ parts
parts_in-items_of [] = refl
parts_in-items_of (part ∷ parts) = ap (λ l. part ∷ l) (parts_in-items_of parts)
