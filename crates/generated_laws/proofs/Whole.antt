-- What is asked of the document as a whole.
use Rattle.std.proofs.Common.{◌≡◌, ℕ, suc, ◌+◌, ◌<◌, ◌≤◌, Bool, true, false, List, [], ◌∷◌, ◌++◌, length, drop, Ok, refl, ap, ◌∙◌, arith, if◌then◌else◌}
use Rattle.std.specs.Prelude.{flat_map}
use Rattle.std.specs.List.{list_any}
use Rattle.std.proofs.lemmas.List.{append-nil}
use Rattle.std.proofs.lemmas.List.Folds.{list_any-append}
use Rattle.std.proofs.Math.ListN.{drop_of_length-le}
use Rattle.base_types.specs.Limits.{most_workflows}
use Rattle.item_reader.specs.declared.outcomes.PlannedPod.{PlannedPod}
use Rattle.item_reader.specs.declared.outcomes.Plan.{Plan}
use Rattle.item_reader.specs.declared.items.Item.TheVariants as item_of
use Rattle.bundle_rules.specs.declared.claims.Claim.{Claim}
use Rattle.bundle_rules.specs.declared.claims.Claim.TheVariants as claim
use Rattle.bundle_rules.specs.declared.claims.Spot.{Spot}
use Rattle.bundle_rules.specs.Claims.{same_claim, pod_spots, spots, first_second, seconds_asked}
use Rattle.bundle_rules.specs.Counts.{workflow_spots, made_spots, workflows_counted, none_over}
use Rattle.bundle_rules.specs.Names.{first_broken, items_asked, names_asked}
use Rattle.bundle_rules.specs.Schedules.{schedules_in, schedules_asked}
use Rattle.wf_bundle.specs.Documents.{items_checked}
use Rattle.field_kinds.specs.Rules as rules
use Rattle.generator.specs.declared.draws.Shape.{Shape}
use Rattle.generator.specs.declared.draws.Drawn.{Drawn}
use Rattle.generator.specs.Bundles.{name}
use Rattle.generated_laws.proofs.Names.{names_apart}
use Rattle.generated_laws.proofs.Said.{failing, planned, plan, all_said, AreFrom}
use Rattle.generated_laws.proofs.Verdicts.{passes}

-- ---- counts

workflows_long : (ds : List Drawn) (i : ℕ) (p : Plan) → length (workflow_spots i (all_said ds (item_of.Outcomes p))) ≡ length ds
workflows_long [] i p = refl
workflows_long (d ∷ ds) i p = ap suc (workflows_long ds (suc i) p)

none_made : (ds : List Drawn) (i : ℕ) (p : Plan) → made_spots i (all_said ds (item_of.Outcomes p)) ≡ []
none_made [] i p = refl
none_made (d ∷ ds) i p = none_made ds (suc i) p

counted_by : (spots made : List Spot) → made ≡ [] → length spots ≤ most_workflows → none_over (drop most_workflows (spots ++ made)) ≡ Ok tt
counted_by spots made none few =
    ap (λ xs. none_over (drop most_workflows (spots ++ xs))) none
    ∙ ap (λ xs. none_over (drop most_workflows xs)) (append-nil spots)
    ∙ ap none_over (drop_of_length-le spots few)

pub counted : (ds : List Drawn) (p : Plan) → length ds ≤ most_workflows → workflows_counted (all_said ds (item_of.Outcomes p)) ≡ Ok tt
counted ds p h =
    let few : length (workflow_spots 0 (all_said ds (item_of.Outcomes p))) ≤ most_workflows = omega (arith, workflows_long ds 0 p) in
    counted_by (workflow_spots 0 (all_said ds (item_of.Outcomes p))) (made_spots 0 (all_said ds (item_of.Outcomes p))) (none_made ds 0 p) few

-- ---- what is named, and schedules

none_named : (all before : List (List ℕ)) (ds : List Drawn) (i : ℕ) (p : Plan) → items_asked all before i (all_said ds (item_of.Outcomes p)) ≡ []
none_named all before [] i p = refl
none_named all before (d ∷ ds) i p = none_named all (before ++ []) ds (suc i) p

pub named : (ds : List Drawn) (p : Plan) → names_asked (all_said ds (item_of.Outcomes p)) ≡ Ok tt
named ds p = ap (first_broken rules.no_workflow) (none_named _ _ ds 0 p)

none_scheduled : (ds : List Drawn) (i : ℕ) (p : Plan) → schedules_in i (all_said ds (item_of.Outcomes p)) ≡ []
none_scheduled [] i p = refl
none_scheduled (d ∷ ds) i p = none_scheduled ds (suc i) p

pub scheduled : (ds : List Drawn) (p : Plan) → schedules_asked (all_said ds (item_of.Outcomes p)) ≡ Ok tt
scheduled ds p = ap (first_broken rules.bad_schedule) (none_scheduled ds 0 p)

-- ---- each workflow

pub checked : (limited : List (List ℕ)) (ds : List Drawn) (i : ℕ) (p : Plan) → items_checked limited i (all_said ds (item_of.Outcomes p)) ≡ Ok tt
checked limited [] i p = refl
checked limited (d ∷ ds) i p = rw (passes limited (name d.position) d.shape, checked limited ds (suc i) p) refl

-- ---- nothing is said twice

-- none of these claims is a workflow from this position on, the outcomes or a pod
record Clear (before : List Claim) (i : ℕ) : Type 0 where
  workflows : (j : ℕ) → i ≤ j → j < 100000 → list_any (same_claim (claim.Workflow (name j))) before ≡ false
  outcomes : list_any (same_claim claim.Outcomes) before ≡ false
  pods : (a n : List ℕ) → list_any (same_claim (claim.Pod a n)) before ≡ false

-- nor a pod of such a workflow
abbrev PodsClear : List Claim → ℕ → Type 0
PodsClear before i = (j : ℕ) (n : List ℕ) → i ≤ j → j < 100000 → list_any (same_claim (claim.Pod (name j) n)) before ≡ false

neither : (p : Claim → Bool) (before : List Claim) (c : Claim) → list_any p before ≡ false → p c ≡ false → list_any p (before ++ c ∷ []) ≡ false
neither p before c none not_c = list_any-append p before (c ∷ []) ∙ rw (none, not_c) refl

clear_more : (before : List Claim) (i : ℕ) → Clear before i → Clear (before ++ claim.Workflow (name i) ∷ []) (i + 1)
clear_more before i c = record {
  workflows = λ j h k. neither (same_claim (claim.Workflow (name j))) before (claim.Workflow (name i)) (c.workflows j (omega arith) k) (names_apart i j (omega arith) k);
  outcomes = neither (same_claim claim.Outcomes) before (claim.Workflow (name i)) c.outcomes refl;
  pods = λ a n. neither (same_claim (claim.Pod a n)) before (claim.Workflow (name i)) (c.pods a n) refl;
}

pods_clear : (before : List Claim) (i : ℕ) → Clear before i → (j : ℕ) → PodsClear (before ++ claim.Outcomes ∷ []) j
pods_clear before i c from j n h k = neither (same_claim (claim.Pod (name j) n)) before claim.Outcomes (c.pods (name j) n) refl

pods_more : (before : List Claim) (i : ℕ) (node : List ℕ) → PodsClear before i → PodsClear (before ++ claim.Pod (name i) node ∷ []) (i + 1)
pods_more before i node c j n h k =
    neither (same_claim (claim.Pod (name j) n)) before (claim.Pod (name i) node) (c j n (omega arith) k) (rw (names_apart i j (omega arith) k) refl)

later : (before : List Claim) (i : ℕ) → PodsClear before i → PodsClear before (i + 1)
later before i c j n h k = c j n (omega arith) k

-- the last position is not before the first
at_most : (d : Drawn) (ds : List Drawn) (i last : ℕ) → AreFrom i last (d ∷ ds) → i < last
at_most d [] i last from = let end = from.2 in omega arith
at_most d (e ∷ ds) i last from = let end = at_most e ds (i + 1) last from.2 in omega arith

pods_if : (b : Bool) (i last at k : ℕ) (shape : Shape) (rest : List PlannedPod) (before : List Claim) → i < 100000 → PodsClear before i
    → ((more : List Claim) (j : ℕ) → PodsClear more (i + 1) → first_second more (pod_spots at j rest) ≡ Ok tt)
    → first_second before (pod_spots at k ((if b then failing (name i) shape ∷ [] else []) ++ rest)) ≡ Ok tt
pods_if true i last at k shape rest before h c others =
    let new = c i (failing (name i) shape).node (omega arith) h in
    rw new (others (before ++ claim.Pod (name i) (failing (name i) shape).node ∷ []) (suc k) (pods_more before i (failing (name i) shape).node c))
pods_if false i last at k shape rest before h c others = others before k (later before i c)

pods_differ : (ds : List Drawn) (i last at k : ℕ) (before : List Claim) → AreFrom i last ds → last ≤ 100000 → PodsClear before i
    → first_second before (pod_spots at k (flat_map planned ds)) ≡ Ok tt
pods_differ [] i last at k before from few c = refl
pods_differ (d ∷ ds) i last at k before from few c =
    let here : d.position ≡ i = from.0 in
    let below = at_most d ds i last from in
    rw here (
    pods_if d.fails i last at k d.shape (flat_map planned ds) before (omega arith) c (
    λ more j clear. pods_differ ds (i + 1) last at j more from.2 few clear
    )
    )

all_differ : (ds : List Drawn) (i last at : ℕ) (before : List Claim) (pods : List PlannedPod) → AreFrom i last ds → last ≤ 100000 → Clear before i
    → ((more : List Claim) (item : ℕ) → PodsClear more 0 → first_second more (pod_spots item 0 pods) ≡ Ok tt)
    → first_second before (spots at (all_said ds (item_of.Outcomes (plan pods)))) ≡ Ok tt
all_differ [] i last at before pods from few c others =
    let none = c.outcomes in
    rw (none, append-nil (pod_spots at 0 pods)) (others (before ++ claim.Outcomes ∷ []) at (pods_clear before i c 0))
all_differ (d ∷ ds) i last at before pods from few c others =
    let here : d.position ≡ i = from.0 in
    let below = at_most d ds i last from in
    let new = c.workflows i (omega arith) (omega arith) in
    rw (here, new) (all_differ ds (i + 1) last (suc at) (before ++ claim.Workflow (name i) ∷ []) pods from.2 few (clear_more before i c) others)

nothing_yet : Clear [] 0
nothing_yet = record { workflows = λ j h k. refl; outcomes = refl; pods = λ a n. refl }

pub said_once : (ds : List Drawn) (last : ℕ) → AreFrom 0 last ds → last ≤ 100000 → seconds_asked (all_said ds (item_of.Outcomes (plan (flat_map planned ds)))) ≡ Ok tt
said_once ds last from few =
    all_differ ds 0 last 0 [] (flat_map planned ds) from few nothing_yet (λ more item clear. pods_differ ds 0 last item 0 more from few clear)
