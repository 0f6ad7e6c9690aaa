-- How many workflows a document has, those of resubmissions among them.
use Rattle.std.specs.Prelude.{ℕ, suc, List, [], ◌∷◌, ◌++◌, drop, Ok}
use Rattle.base_types.specs.Limits.{most_workflows}
use Rattle.field_kinds.specs.Rules as rules
use Rattle.item_reader.specs.declared.items.Item.{Item}
use Rattle.item_reader.specs.declared.items.Item.TheVariants as item
use Rattle.bundle_rules.specs.declared.claims.Claim.TheVariants as claim
use Rattle.bundle_rules.specs.Findings.{Found, refuse}
use Rattle.bundle_rules.specs.declared.claims.Spot.{Spot}
use Rattle.bundle_rules.specs.Claims.{spot, resubmission_spots}

abbrev pub workflow_spots : ℕ → List Item → List Spot
workflow_spots i [] = []
workflow_spots i (item.Workflow m ∷ xs) = spot i [] (claim.Workflow m.name) ∷ workflow_spots (suc i) xs
workflow_spots i (_ ∷ xs) = workflow_spots (suc i) xs

-- those of the first commands
abbrev pub made_spots : ℕ → List Item → List Spot
made_spots i [] = []
made_spots i (item.Commands cs ∷ xs) = resubmission_spots i 0 cs
made_spots i (_ ∷ xs) = made_spots (suc i) xs

abbrev pub none_over : List Spot → Found (Unit {0})
none_over [] = Ok tt
none_over (s ∷ ss) = refuse s.item rules.too_many s.path

-- the workflows count in the order of items, then the resubmissions; the first beyond the limit is refused
abbrev pub workflows_counted : List Item → Found (Unit {0})
workflows_counted xs = none_over (drop most_workflows (workflow_spots 0 xs ++ made_spots 0 xs))
