-- Where nothing is said twice, no two outcomes are planned for one pod.
use Rattle.std.proofs.Common.{◌≡◌, ℕ, suc, List, [], ◌∷◌, ◌++◌, map, Bool, true, false, ◌||◌, ◌&&◌, not, cond, Ok, refl, sym, ap, subst, ◌∙◌, append_assoc}
use Rattle.std.specs.Prelude.{codes}
use Rattle.std.specs.List.{list_any, flat_map}
use Rattle.std.proofs.lemmas.List.{map-append, append-nil}
use Rattle.std.proofs.lemmas.List.Folds.{list_any-append}
use Rattle.field_kinds.specs.Rules as rules
use Rattle.item_reader.specs.declared.outcomes.PlannedPod.{PlannedPod}
use Rattle.item_reader.specs.declared.items.Item.{Item}
use Rattle.item_reader.specs.declared.items.Item.TheVariants as item
use Rattle.bundle_rules.specs.declared.claims.Claim.{Claim}
use Rattle.bundle_rules.specs.declared.claims.Claim.TheVariants as claim
use Rattle.bundle_rules.specs.declared.claims.Spot.{Spot}
use Rattle.bundle_rules.specs.Findings.{refuse}
use Rattle.bundle_rules.specs.Claims.{same_claim, spot, pod_spots, item_spots, spots, first_second, member_at}
use Rattle.wf_bundle.specs.Outcomes.{is_same_pod, pods_differ_from, pods_differ}
use Rattle.wf_bundle.specs.Documents.{plan_in, first_or, no_plan}

abbrev claims : List Spot → List Claim
claims ss = map (λ s. s.claim) ss

-- one spot: its claim is not made before, and nothing is said twice behind it
one : (before : List Claim) (s : Spot) (ss : List Spot) → first_second before (s ∷ ss) ≡ Ok tt → (list_any (same_claim s.claim) before ≡ false) × (first_second (before ++ s.claim ∷ []) ss ≡ Ok tt)
one before s ss e = by (list_any (same_claim s.claim) before) refl e
  where
    by : (b : Bool) → list_any (same_claim s.claim) before ≡ b → cond b (refuse s.item rules.second s.path) (first_second (before ++ s.claim ∷ []) ss) ≡ Ok tt → (list_any (same_claim s.claim) before ≡ false) × (first_second (before ++ s.claim ∷ []) ss ≡ Ok tt)
    by true is e = absurd cc
    by false is e = (is, e)

both : (before : List Claim) (a b : List Spot) → first_second before (a ++ b) ≡ Ok tt → (first_second before a ≡ Ok tt) × (first_second (before ++ claims a) b ≡ Ok tt)
both before [] b e = (refl, subst (λ cs. first_second cs b ≡ Ok tt) (sym (append-nil before)) e)
both before (s ∷ a) b e =
    let here = one before s (a ++ b) e in
    let rest = both (before ++ s.claim ∷ []) a b here.1 in
    (again here.0 rest.0, subst (λ cs. first_second cs b ≡ Ok tt) (append_assoc before (s.claim ∷ []) (claims a)) rest.1)
  where
    again : list_any (same_claim s.claim) before ≡ false → first_second (before ++ s.claim ∷ []) a ≡ Ok tt → first_second before (s ∷ a) ≡ Ok tt
    again is e = ap (λ b. cond b (refuse s.item rules.second s.path) (first_second (before ++ s.claim ∷ []) a)) is ∙ e

-- ---- pods

abbrev pod_claim : PlannedPod → Claim
pod_claim p = claim.Pod p.workflow p.node

same_pods : (p : PlannedPod) (earlier : List PlannedPod) → list_any (same_claim (pod_claim p)) (map pod_claim earlier) ≡ list_any (is_same_pod p) earlier
same_pods p [] = refl
same_pods p (q ∷ qs) = ap (λ b. is_same_pod p q || b) (same_pods p qs)

right_false : (a b : Bool) → (a || b) ≡ false → b ≡ false
right_false true b e = absurd cc
right_false false b e = e

new_and : (b rest : Bool) → b ≡ false → rest ≡ true → (not b && rest) ≡ true
new_and true rest e f = absurd cc
new_and false rest e f = f

pods_new : (i j : ℕ) (other : List Claim) (earlier ps : List PlannedPod) → first_second (other ++ map pod_claim earlier) (pod_spots i j ps) ≡ Ok tt → pods_differ_from earlier ps ≡ true
pods_new i j other earlier [] e = refl
pods_new i j other earlier (p ∷ ps) e =
    let before = other ++ map pod_claim earlier in
    let here = one before (spot i (member_at (codes "pods") j) (pod_claim p)) (pod_spots i (suc j) ps) e in
    let parts = sym (list_any-append (same_claim (pod_claim p)) other (map pod_claim earlier)) ∙ here.0 in
    let new = sym (same_pods p earlier) ∙ right_false (list_any (same_claim (pod_claim p)) other) (list_any (same_claim (pod_claim p)) (map pod_claim earlier)) parts in
    let grown : before ++ pod_claim p ∷ [] ≡ other ++ map pod_claim (earlier ++ p ∷ []) =
    append_assoc other (map pod_claim earlier) (pod_claim p ∷ []) ∙ ap (λ cs. other ++ cs) (sym (map-append pod_claim earlier (p ∷ []))) in
    new_and (list_any (is_same_pod p) earlier) (pods_differ_from (earlier ++ p ∷ []) ps) new
    (pods_new i (suc j) other (earlier ++ p ∷ []) ps (subst (λ cs. first_second cs (pod_spots i (suc j) ps) ≡ Ok tt) grown here.1))

-- ---- items

pub plan_differs : (before : List Claim) (i : ℕ) (xs : List Item) → first_second before (spots i xs) ≡ Ok tt → pods_differ (first_or no_plan (flat_map plan_in xs)).pods ≡ true
plan_differs before i [] e = refl
plan_differs before i (item.Outcomes plan ∷ xs) e =
    let first = both before (item_spots i (item.Outcomes plan)) (spots (suc i) xs) e in
    let behind = one before (spot i [] claim.Outcomes) (pod_spots i 0 plan.pods) first.0 in
    let other = before ++ claim.Outcomes ∷ [] in
    pods_new i 0 other [] plan.pods (subst (λ cs. first_second cs (pod_spots i 0 plan.pods) ≡ Ok tt) (sym (append-nil other)) behind.1)
plan_differs before i (item.Workflow m ∷ xs) e = let s = both before (item_spots i (item.Workflow m)) (spots (suc i) xs) e in plan_differs (before ++ claims (item_spots i (item.Workflow m))) (suc i) xs s.1
plan_differs before i (item.Config c ∷ xs) e = let s = both before (item_spots i (item.Config c)) (spots (suc i) xs) e in plan_differs (before ++ claims (item_spots i (item.Config c))) (suc i) xs s.1
plan_differs before i (item.Commands cs ∷ xs) e = let s = both before (item_spots i (item.Commands cs)) (spots (suc i) xs) e in plan_differs (before ++ claims (item_spots i (item.Commands cs))) (suc i) xs s.1
plan_differs before i (item.Schedule s ∷ xs) e = let r = both before (item_spots i (item.Schedule s)) (spots (suc i) xs) e in plan_differs (before ++ claims (item_spots i (item.Schedule s))) (suc i) xs r.1
