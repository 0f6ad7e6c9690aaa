-- Where nothing is said twice, no two workflows have one name.
use Rattle.std.proofs.Common.{◌≡◌, ℕ, suc, List, [], ◌∷◌, ◌++◌, map, Bool, true, false, ◌||◌, cond, Ok, Err, refl, sym, subst, ◌∙◌, append_assoc, inl, inr}
use Rattle.std.specs.Prelude.{bytes_eq}
use Rattle.std.specs.List.{list_any, flat_map}
use Rattle.std.proofs.lemmas.Bool.{false≢true}
use Rattle.std.proofs.lemmas.List.{append-nil}
use Rattle.std.proofs.lemmas.List.Folds.{list_any-append}
use Rattle.std.proofs.lemmas.Slice.Eq.{bytes_eq-Decides}
use Rattle.serde_json.specs.Data.{Data}
use Rattle.field_kinds.specs.Reading.{◌>>=◌}
use Rattle.field_kinds.specs.Rules as rules
use Rattle.wf_manifest.specs.declared.manifest.Manifest.{Manifest}
use Rattle.growth.specs.Growth.{Among}
use Rattle.item_reader.specs.declared.items.Item.{Item}
use Rattle.item_reader.specs.declared.items.Item.TheVariants as item
use Rattle.bundle_rules.specs.declared.claims.Claim.{Claim}
use Rattle.bundle_rules.specs.declared.claims.Claim.TheVariants as claim
use Rattle.bundle_rules.specs.declared.claims.Spot.{Spot}
use Rattle.bundle_rules.specs.Findings.{refuse}
use Rattle.bundle_rules.specs.Claims.{same_claim, spot, item_spots, spots, first_second, seconds_asked}
use Rattle.bundle_rules.specs.Names.{names_asked}
use Rattle.bundle_rules.specs.Schedules.{schedules_asked}
use Rattle.wf_bundle.specs.declared.document.Document.{Document}
use Rattle.wf_bundle.specs.Documents.{whole_asked, workflow_in, document_of}
use Rattle.run_laws.specs.Submissions.{NamesDiffer}
use Rattle.document_laws.proofs.Passes.{found_ok, passed}

-- ---- spots

abbrev claims : List Spot → List Claim
claims ss = map (λ s. s.claim) ss

-- one spot: its claim is not made before, and nothing is said twice behind it
one : (before : List Claim) (s : Spot) (ss : List Spot) → first_second before (s ∷ ss) ≡ Ok tt → (list_any (same_claim s.claim) before ≡ false) × (first_second (before ++ s.claim ∷ []) ss ≡ Ok tt)
one before s ss e = by (list_any (same_claim s.claim) before) refl e
  where
    by : (b : Bool) → list_any (same_claim s.claim) before ≡ b → cond b (refuse s.item rules.second s.path) (first_second (before ++ s.claim ∷ []) ss) ≡ Ok tt → (list_any (same_claim s.claim) before ≡ false) × (first_second (before ++ s.claim ∷ []) ss ≡ Ok tt)
    by true is e = absurd cc
    by false is e = (is, e)

-- nothing is said twice behind some spots
behind : (before : List Claim) (a b : List Spot) → first_second before (a ++ b) ≡ Ok tt → first_second (before ++ claims a) b ≡ Ok tt
behind before [] b e = subst (λ cs. first_second cs b ≡ Ok tt) (sym (append-nil before)) e
behind before (s ∷ a) b e =
    let here = one before s (a ++ b) e in
    subst (λ cs. first_second cs b ≡ Ok tt) (append_assoc before (s.claim ∷ []) (claims a)) (behind (before ++ s.claim ∷ []) a b here.1)

-- ---- names

abbrev New : List Claim → List ℕ → Type 0
New before name = list_any (same_claim (claim.Workflow name)) before ≡ false

left_false : (a b : Bool) → (a || b) ≡ false → a ≡ false
left_false true b e = absurd cc
left_false false b e = refl

right_false : (a b : Bool) → (a || b) ≡ false → b ≡ false
right_false true b e = absurd cc
right_false false b e = e

module _ (before more : List Claim) (name : List ℕ) (e : New (before ++ more) name) where
  parts : (list_any (same_claim (claim.Workflow name)) before || list_any (same_claim (claim.Workflow name)) more) ≡ false
  parts = sym (list_any-append (same_claim (claim.Workflow name)) before more) ∙ e

  new_before : New before name
  new_before = left_false (list_any (same_claim (claim.Workflow name)) before) (list_any (same_claim (claim.Workflow name)) more) parts

  new_behind : New more name
  new_behind = right_false (list_any (same_claim (claim.Workflow name)) before) (list_any (same_claim (claim.Workflow name)) more) parts

-- what is claimed has this name no more
other_name : (x m : List ℕ) → New (claim.Workflow m ∷ []) x → x ≡ m → ⊥
other_name x m e same = false≢true (sym (left_false (bytes_eq x m) false e) ∙ (bytes_eq-Decides x m).1 same)

record Apart (before : List Claim) (ms : List Manifest) : Type 0 where
  pub differ : NamesDiffer ms
  pub new : (x : Manifest) → Among x ms → New before x.name

-- before claims more
fewer : (before more : List Claim) (ms : List Manifest) → Apart (before ++ more) ms → Apart before ms
fewer before more ms a = record { differ = a.differ; new = λ x i. new_before before more x.name (a.new x i) }

with_one : (before : List Claim) (m : Manifest) (ms : List Manifest) → New before m.name → Apart (before ++ claim.Workflow m.name ∷ []) ms → Apart before (m ∷ ms)
with_one before m ms here rest = record {
  differ = (λ x i same. other_name x.name m.name (new_behind before (claim.Workflow m.name ∷ []) x.name (rest.new x i)) same, rest.differ);
  new = new;
}
  where
    new : (x : Manifest) → Among x (m ∷ ms) → New before x.name
    new x (inl e) = subst (λ (y : Manifest). New before y.name) e here
    new x (inr i) = new_before before (claim.Workflow m.name ∷ []) x.name (rest.new x i)

apart : (before : List Claim) (i : ℕ) (xs : List Item) → first_second before (spots i xs) ≡ Ok tt → Apart before (flat_map workflow_in xs)
apart before i [] e = record { differ = tt; new = λ x a. absurd a }
apart before i (item.Workflow m ∷ xs) e =
    let here = one before (spot i [] (claim.Workflow m.name)) (spots (suc i) xs) e in
    with_one before m (flat_map workflow_in xs) here.0 (apart (before ++ claim.Workflow m.name ∷ []) (suc i) xs here.1)
apart before i (item.Config c ∷ xs) e =
    let s = item_spots i (item.Config c) in
    fewer before (claims s) (flat_map workflow_in xs) (apart (before ++ claims s) (suc i) xs (behind before s (spots (suc i) xs) e))
apart before i (item.Outcomes plan ∷ xs) e =
    let s = item_spots i (item.Outcomes plan) in
    fewer before (claims s) (flat_map workflow_in xs) (apart (before ++ claims s) (suc i) xs (behind before s (spots (suc i) xs) e))
apart before i (item.Commands cs ∷ xs) e =
    let s = item_spots i (item.Commands cs) in
    fewer before (claims s) (flat_map workflow_in xs) (apart (before ++ claims s) (suc i) xs (behind before s (spots (suc i) xs) e))
apart before i (item.Schedule s ∷ xs) e =
    let t = item_spots i (item.Schedule s) in
    fewer before (claims t) (flat_map workflow_in xs) (apart (before ++ claims t) (suc i) xs (behind before t (spots (suc i) xs) e))

-- ---- documents

whole_apart : (xs : List Item) → whole_asked xs ≡ Ok tt → NamesDiffer (flat_map workflow_in xs)
unfolding whole_asked
whole_apart xs e =
    let s = found_ok (seconds_asked xs) (λ _. names_asked xs >>= λ _. schedules_asked xs) tt e in
    (apart [] 0 xs s.1).differ

pub names_differ : (d : Data) (D : Document) → document_of d ≡ Ok D → NamesDiffer D.workflows
names_differ d D e =
    let p = passed d D e in
    subst (λ (x : Document). NamesDiffer x.workflows) p.is (whole_apart p.items p.whole)
