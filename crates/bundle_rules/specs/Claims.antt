-- What a document may say once, and where it says it.
use Rattle.std.specs.Prelude.{ℕ, suc, List, [], ◌∷◌, ◌++◌, Bool, true, false, ◌&&◌, if◌then◌else◌, Ok, bytes_eq, codes}
use Rattle.std.specs.List.{list_any}
use Rattle.json_fields.specs.Paths.{Path, field_of, member_of}
use Rattle.field_kinds.specs.Rules as rules
use Rattle.item_reader.specs.declared.commands.Command.{Command}
use Rattle.item_reader.specs.declared.commands.Command.TheVariants.{Resume, Resubmit}
use Rattle.item_reader.specs.declared.outcomes.PlannedPod.{PlannedPod}
use Rattle.item_reader.specs.declared.items.Item.{Item}
use Rattle.item_reader.specs.declared.items.Item.TheVariants as item
use Rattle.bundle_rules.specs.declared.claims.Claim.{Claim}
use Rattle.bundle_rules.specs.declared.claims.Claim.TheVariants as claim
use Rattle.bundle_rules.specs.declared.claims.Spot.{Spot}
use Rattle.bundle_rules.specs.Findings.{Found, refuse}

abbrev pub same_claim : Claim → Claim → Bool
same_claim claim.Outcomes claim.Outcomes = true
same_claim claim.Commands claim.Commands = true
same_claim claim.Schedule claim.Schedule = true
same_claim (claim.Workflow a) (claim.Workflow b) = bytes_eq a b
same_claim (claim.Config a) (claim.Config b) = bytes_eq a b
same_claim (claim.Pod a n) (claim.Pod b m) = bytes_eq a b && bytes_eq n m
same_claim _ _ = false

-- a place within an item, and what it claims
abbrev pub spot : ℕ → Path → Claim → Spot
spot i path c = record { item = i; path = path; claim = c }

-- a member of a list of the item
abbrev pub member_at : List ℕ → ℕ → Path
member_at list j = member_of (field_of [] list) j

-- `commands[j].name`
abbrev pub name_at : ℕ → Path
name_at j = field_of (member_at (codes "commands") j) (codes "name")

-- the members of `pods`, from position j on
abbrev pub pod_spots : ℕ → ℕ → List PlannedPod → List Spot
pod_spots i j [] = []
pod_spots i j (p ∷ ps) = spot i (member_at (codes "pods") j) (claim.Pod p.workflow p.node) ∷ pod_spots i (suc j) ps

abbrev pub command_spots : ℕ → ℕ → Command → List Spot
command_spots i j (Resume tick workflow) = []
command_spots i j (Resubmit tick old name memoized created) = spot i (name_at j) (claim.Workflow name) ∷ []

-- the workflows that resubmissions make
abbrev pub resubmission_spots : ℕ → ℕ → List Command → List Spot
resubmission_spots i j [] = []
resubmission_spots i j (c ∷ cs) = command_spots i j c ++ resubmission_spots i (suc j) cs

abbrev pub item_spots : ℕ → Item → List Spot
item_spots i (item.Workflow m) = spot i [] (claim.Workflow m.name) ∷ []
item_spots i (item.Config c) = spot i [] (claim.Config c.name) ∷ []
item_spots i (item.Outcomes plan) = spot i [] claim.Outcomes ∷ pod_spots i 0 plan.pods
item_spots i (item.Commands cs) = spot i [] claim.Commands ∷ resubmission_spots i 0 cs
item_spots i (item.Schedule s) = spot i [] claim.Schedule ∷ []

-- the spots of items, from item i on
abbrev pub spots : ℕ → List Item → List Spot
spots i [] = []
spots i (x ∷ xs) = item_spots i x ++ spots (suc i) xs

-- the first spot whose claim is made before
abbrev pub first_second : List Claim → List Spot → Found (Unit {0})
first_second before [] = Ok tt
first_second before (s ∷ ss) =
    if list_any (same_claim s.claim) before then refuse s.item rules.second s.path
    else first_second (before ++ s.claim ∷ []) ss

-- nothing is said twice
abbrev pub seconds_asked : List Item → Found (Unit {0})
seconds_asked xs = first_second [] (spots 0 xs)
