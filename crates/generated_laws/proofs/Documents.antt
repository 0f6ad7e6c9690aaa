-- The document that a seed makes.
use Rattle.std.proofs.Common.{◌≡◌, ℕ, zero, suc, ◌+◌, ◌/◌, ◌%◌, ◌≤◌, ◌==◌, Bool, true, false, List, [], ◌∷◌, ◌++◌, length, Ok, refl, ap, ◌∙◌, arith, map, if◌then◌else◌, length-append, add-one}
use Rattle.std.specs.Prelude.{flat_map}
use Rattle.std.proofs.lemmas.Bool.{le-ltb}
use Rattle.std.specs.List.{AllByRecursion}
use Rattle.std.proofs.lemmas.List.Elements.{All-from_recursion}
use Rattle.wf_manifest.specs.Valid.{Valid}
use Rattle.std.proofs.lemmas.List.{length-map}
use Rattle.serde_json.specs.Data.{Data}
use Rattle.serde_json.specs.Events.{items_len}
use Rattle.serde_json.specs.View.{items_of}
use Rattle.base_types.specs.Limits.{most_list_items, most_size, most_workflows}
use Rattle.item_reader.specs.Items.{item}
use Rattle.item_reader.specs.declared.outcomes.Plan.{Plan}
use Rattle.item_reader.specs.declared.items.Item.{Item}
use Rattle.item_reader.specs.declared.items.Item.TheVariants as item_of
use Rattle.bundle_rules.specs.LockLimits.{limits_of}
use Rattle.wf_bundle.specs.Documents as documents
use Rattle.wf_bundle.specs.Documents.{values, items_from, whole_asked, document_in, document_of}
use Rattle.generator.specs.declared.draws.Shape.{Shape}
use Rattle.generator.specs.declared.draws.Shape.TheVariants.{Pod, Steps, Dag, Loop as Looped}
use Rattle.generator.specs.declared.draws.Drawn.{Drawn}
use Rattle.generator.specs.Draws.{next, number, shape_of, drawn_by, drawn}
use Rattle.generator.specs.Bundles.{name, workflow, pods_of, outcomes, document, bundle_of}
use Rattle.generated_laws.specs.Generated.{AreDocuments, names_drawn}
use Rattle.generated_laws.proofs.Said.{planned, plan_of, all_said, IsShort, AreFrom}
use Rattle.generated_laws.proofs.Read.{read_drawn, read_pods, read_outcomes}
use Rattle.generated_laws.proofs.Verdicts.{PassedIsValid, valid_shape}
use Rattle.generated_laws.proofs.Whole.{counted, named, scheduled, checked, said_once}

-- ---- what is drawn

short_if : (b : Bool) (x y : Shape) → IsShort x → IsShort y → IsShort (if b then x else y)
short_if true x y h k = h
short_if false x y h k = k

short : (v : ℕ) → IsShort (shape_of v)
short v =
    short_if (v % 4 == 0) Pod _ tt (
    short_if (v % 4 == 1) Steps _ tt (short_if (v % 4 == 2) Dag (Looped (1 + v / 32 % 20)) tt (omega arith))
    )

drawn_from : (n s i last : ℕ) → i + n ≡ last → AreFrom i last (drawn s i n)
unfolding drawn_by
drawn_from zero s i last h = omega arith
drawn_from (suc n) s i last h = (refl, short (number (next s)), rw (← add-one i) (drawn_from n (next s) (i + 1) last (omega arith)))

drawn_long : (n s i : ℕ) → length (drawn s i n) ≡ n
drawn_long zero s i = refl
drawn_long (suc n) s i = ap suc (drawn_long n (next s) (suc i))

-- ---- items

items_read : (ds : List Drawn) (i from last : ℕ) (data_last : Data) (read : Item) → AreFrom from last ds → ((j : ℕ) → item j [] data_last ≡ Ok read)
    → items_from i (items_of (map workflow ds ++ data_last ∷ [])) ≡ Ok (all_said ds read)
items_read [] i from last d read shorts h = rw (h i) refl
items_read (x ∷ ds) i from last d read shorts h = rw (read_drawn i x shorts.1, items_read ds (suc i) (from + 1) last d read shorts.2 h) refl

count : (ds : List Data) → items_len (items_of ds) ≡ length ds
count [] = refl
count (d ∷ ds) = ap suc (count ds)

values_read : (ds : List Data) → length ds ≤ most_list_items → values [] (document ds) ≡ Ok (items_of ds)
values_read ds h =
    let few : items_len (items_of ds) ≤ most_list_items = omega (arith, count ds) in
    rw (le-ltb most_list_items (items_len (items_of ds)) few) refl

-- the items of what is made
abbrev items_made : List Drawn → List Data
items_made ds = map workflow ds ++ outcomes (flat_map pods_of ds) ∷ []

abbrev items_said : List Drawn → List Item
items_said ds = all_said ds (item_of.Outcomes (plan_of ds))

made_long : (ds : List Drawn) → length (items_made ds) ≡ length ds + 1
made_long ds = length-append (map workflow ds) _ ∙ ap (λ n. n + 1) (length-map ds workflow)

items_are : (ds : List Drawn) (last : ℕ) → AreFrom 0 last ds → length ds ≤ most_size → documents.items_of (bundle_of ds) ≡ Ok (items_said ds)
unfolding documents.items_of
items_are ds last from few =
    let fit : length (items_made ds) ≤ most_list_items = omega (arith, made_long ds) in
    rw (values_read (items_made ds) fit)
    (items_read ds 0 0 last (outcomes (flat_map pods_of ds)) _ from (λ j. read_outcomes j (flat_map pods_of ds) (flat_map planned ds) (read_pods ds)))

-- ---- documents

whole_passes : (ds : List Drawn) (last : ℕ) → AreFrom 0 last ds → last ≤ 100000 → whole_asked (items_said ds) ≡ Ok tt
unfolding whole_asked
whole_passes ds last from few = rw (said_once ds last from few, named ds (plan_of ds)) (scheduled ds (plan_of ds))

document_passes : (ds : List Drawn) (last : ℕ) → AreFrom 0 last ds → last ≤ 100000 → document_in (items_said ds) ≡ Ok (documents.document (items_said ds))
unfolding document_in
document_passes ds last from few =
    rw (checked (documents.limited (limits_of (items_said ds))) ds 0 (plan_of ds), whole_passes ds last from few) refl

reads_as : (ds : List Drawn) (last : ℕ) → AreFrom 0 last ds → last ≤ 100000 → length ds ≤ most_size → document_of (bundle_of ds) ≡ Ok (documents.document (items_said ds))
unfolding document_of
reads_as ds last from few fit =
    let within : length ds ≤ most_workflows = omega arith in
    rw (items_are ds last from fit, counted ds (plan_of ds) within) (document_passes ds last from few)

-- ---- what it says

names_said : (ds : List Drawn) (p : Plan) → map (λ m. m.name) (flat_map documents.workflow_in (all_said ds (item_of.Outcomes p))) ≡ names_drawn ds
names_said [] p = refl
names_said (d ∷ ds) p = ap (λ ns. name d.position ∷ ns) (names_said ds p)

no_commands : (ds : List Drawn) (p : Plan) → flat_map documents.commands_in (all_said ds (item_of.Outcomes p)) ≡ []
no_commands [] p = refl
no_commands (d ∷ ds) p = no_commands ds p

valid_said : PassedIsValid → (ds : List Drawn) (p : Plan) → AllByRecursion Valid (flat_map documents.workflow_in (all_said ds (item_of.Outcomes p)))
valid_said law [] p = tt
valid_said law (d ∷ ds) p = (valid_shape law (name d.position) d.shape, valid_said law ds p)

pub are_documents : PassedIsValid → AreDocuments
are_documents law seed size h =
    let long : length (drawn seed 0 size) ≤ most_size = omega (arith, drawn_long size seed 0) in
    let few : size ≤ 100000 = omega arith in
    record {
      read = documents.document (items_said (drawn seed 0 size));
      reads = reads_as (drawn seed 0 size) size (drawn_from size seed 0 size (omega arith)) few long;
      workflows = names_said (drawn seed 0 size) (plan_of (drawn seed 0 size));
      valid = All-from_recursion _ _ (valid_said law (drawn seed 0 size) (plan_of (drawn seed 0 size)));
      no_commands = ap (documents.first_or []) (no_commands (drawn seed 0 size) (plan_of (drawn seed 0 size)));
    }
