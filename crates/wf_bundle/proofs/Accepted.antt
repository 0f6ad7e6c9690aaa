-- What an accepted document keeps: each of its workflows is valid.
use Rattle.std.proofs.Common.{◌≡◌, ℕ, suc, ◌+◌, List, [], ◌∷◌, Option, Some, None, true, Ok, Err, refl, sym, ap, ◌∙◌, subst, append_assoc, add-one}
use Rattle.std.specs.Prelude.{All, IsTrue}
use Rattle.std.specs.List.{AllByRecursion, flat_map}
use Rattle.std.proofs.lemmas.List.Elements.{All-nil, All-cons}
use Rattle.serde_json.specs.Data.{Data, Items, no_items, item as value}
use Rattle.field_kinds.specs.Reading.{Read, ◌>>=◌}
use Rattle.field_kinds.proofs.Makes.{Makes, then_ok, ok_is, makes_object}
use Rattle.wf_manifest.specs.declared.manifest.Manifest.{Manifest}
use Rattle.wf_manifest.specs.Valid.{Valid, lists_are_short, parameters_are_short, retries_fit}
use Rattle.wf_reader.specs.Short.{IsShort, ReadsShort}
use Rattle.wf_reader.specs.Workflows.{workflow}
use Rattle.item_reader.specs.declared.items.Item.{Item}
use Rattle.item_reader.specs.declared.items.Item.TheVariants as item
use Rattle.item_reader.specs.declared.items.ItemKind.{ItemKind}
use Rattle.item_reader.specs.declared.items.ItemKind.TheVariants as kind
use Rattle.item_reader.specs.ConfigMaps.{config_fields}
use Rattle.item_reader.specs.PodOutcomes.{plan_fields}
use Rattle.item_reader.specs.Commands.{commands}
use Rattle.item_reader.specs.Schedules.{schedule_fields}
use Rattle.item_reader.specs.Items.{item_by, item_fields, kind_of, item as item_at}
use Rattle.wf_check.specs.Verdicts.{verdict}
use Rattle.bundle_rules.specs.Findings.{Found, of_item}
use Rattle.bundle_rules.specs.LockLimits.{limits_of}
use Rattle.wf_bundle.specs.declared.document.Document.{Document}
use Rattle.bundle_rules.specs.declared.refused.BundleRefused.{BundleRefused}
use Rattle.bundle_rules.specs.declared.refused.BundleRefused.TheVariants.{Memory, Rule}
use Rattle.bundle_rules.specs.Findings.{IsRefusedAs}
use Rattle.bundle_rules.specs.Claims.{seconds_asked}
use Rattle.bundle_rules.specs.Names.{names_asked}
use Rattle.bundle_rules.specs.Schedules.{schedules_asked}
use Rattle.wf_bundle.specs.declared.parts.Parts.{Parts}
use Rattle.wf_bundle.specs.Outcomes.{pods_differ}
use Rattle.wf_bundle.specs.Inside.Parts.{parts_in, parts_of, joined, taken_from, taken, behind_found, accepted, made}
use Rattle.wf_bundle.proofs.Seconds.{plan_differs}
use Rattle.wf_bundle.specs.Documents.{config_in, plan_in, commands_in, schedule_in, first_or, no_plan, values, items_from, items_of, item_checked, items_checked, limited, whole_asked, workflow_in, document, document_in}

-- what was found of a step that refused nothing
pub found_ok : {A B : Type 0} (r : Found A) (f : A → Found B) (y : B) → (r >>= f) ≡ Ok y → (x : A) × (r ≡ Ok x) × (f x ≡ Ok y)
found_ok (Ok x) f y e = (x, refl, e)
found_ok (Err refused) f y e = absurd cc

pub found_is : {A : Type 0} (x y : A) → (let r : Found A = Ok x in r) ≡ Ok y → x ≡ y
found_is x y e = cc

of_item_ok : {A : Type 0} (i : ℕ) (r : Read A) (x : A) → of_item i r ≡ Ok x → r ≡ Ok x
of_item_ok i (Ok y) x e = cc
of_item_ok i (Err refusal) x e = absurd cc

-- ---- the first pass

abbrev ItemKept : Item → Type 0
ItemKept (item.Workflow m) = IsShort m
ItemKept _ = Unit {0}

module _ (short : ReadsShort) where
  by_kind : (i : ℕ) (found : ItemKind) → Makes (item_by i (Some found)) ItemKept
  by_kind i kind.Workflow at d x e = let s = then_ok (workflow i at d) _ x e in subst ItemKept (ok_is _ _ s.2) (short i at d s.0 s.1)
  by_kind i kind.Config at d x e = let s = then_ok (config_fields at d) _ x e in subst ItemKept (ok_is _ _ s.2) tt
  by_kind i kind.Outcomes at d x e = let s = then_ok (plan_fields at d) _ x e in subst ItemKept (ok_is _ _ s.2) tt
  by_kind i kind.Commands at d x e = let s = then_ok (commands at d) _ x e in subst ItemKept (ok_is _ _ s.2) tt
  by_kind i kind.Schedule at d x e = let s = then_ok (schedule_fields at d) _ x e in subst ItemKept (ok_is _ _ s.2) tt

  by_found : (i : ℕ) (found : Option ItemKind) → Makes (item_by i found) ItemKept
  by_found i None at d x e = absurd cc
  by_found i (Some found) at d x e = by_kind i found at d x e

  item_kept : (i : ℕ) → Makes (item_at i) ItemKept
  item_kept i = makes_object (item_fields i) ItemKept (λ at d x e. by_found i (kind_of d) at d x e)

  pub items_kept : (i : ℕ) (ds : Items) (xs : List Item) → items_from i ds ≡ Ok xs → AllByRecursion ItemKept xs
  items_kept i no_items xs e = subst (AllByRecursion ItemKept) (found_is [] xs e) tt
  items_kept i (value d ds) xs e =
      let a = found_ok (of_item i (item_at i [] d)) (λ x. items_from (suc i) ds >>= λ ys. Ok (x ∷ ys)) xs e in
      let b = found_ok (items_from (suc i) ds) (λ ys. Ok (a.0 ∷ ys)) xs a.2 in
      subst (AllByRecursion ItemKept) (found_is (a.0 ∷ b.0) xs b.2) (item_kept i [] d a.0 (of_item_ok i (item_at i [] d) a.0 a.1), items_kept (suc i) ds b.0 b.1)

-- ---- the second pass

abbrev Checks : Type 0
Checks = (limited : List (List ℕ)) (m : Manifest) → verdict limited m ≡ Ok tt → IsShort m → Valid m

module _ (valid : Checks) (limited : List (List ℕ)) where
  pub all_valid : (i : ℕ) (xs : List Item) → AllByRecursion ItemKept xs → items_checked limited i xs ≡ Ok tt → All Valid (flat_map workflow_in xs)
  all_valid i [] kept e = All-nil Valid
  all_valid i (item.Workflow m ∷ xs) kept e =
      let s = found_ok (of_item i (verdict limited m)) (λ _. items_checked limited (suc i) xs) tt e in
      All-cons Valid m (flat_map workflow_in xs) (valid limited m (of_item_ok i (verdict limited m) tt s.1) kept.0) (all_valid (suc i) xs kept.1 s.2)
  all_valid i (item.Config c ∷ xs) kept e = all_valid (suc i) xs kept.1 e
  all_valid i (item.Outcomes p ∷ xs) kept e = all_valid (suc i) xs kept.1 e
  all_valid i (item.Commands cs ∷ xs) kept e = all_valid (suc i) xs kept.1 e
  all_valid i (item.Schedule s ∷ xs) kept e = all_valid (suc i) xs kept.1 e

-- ---- the document

-- what passes and is short is valid
abbrev Law : Type 0
Law = (limits : List (List ℕ)) (m : Manifest) → verdict limits m ≡ Ok tt →
    IsTrue (lists_are_short m) → IsTrue (parameters_are_short m) → IsTrue (retries_fit m) → Valid m

pub accepted_valid : ReadsShort → Law → (d : Data) (xs : List Item) (D : Document) → items_of d ≡ Ok xs → document_in xs ≡ Ok D → All Valid D.workflows
unfolding items_of document_in
accepted_valid reads_short law d xs D e f =
    let checks : Checks = λ limits m e short. law limits m e short.lists short.parameters short.retries in
    let a = found_ok (of_item 0 (values [] d)) (items_from 0) xs e in
    let s = found_ok (items_checked (limited (limits_of xs)) 0 xs) (λ _. whole_asked xs >>= λ _. Ok (document xs)) D f in
    let w = found_ok (whole_asked xs) (λ _. Ok (document xs)) D s.2 in
    subst (λ (x : Document). All Valid x.workflows) (found_is (document xs) D w.2) (all_valid checks (limited (limits_of xs)) 0 xs (items_kept reads_short 0 a.0 xs a.2) s.1)

-- ---- one turn of the second pass

joined_more : (p : Parts) (x : Item) (xs : List Item) → joined (joined p (parts_in x)) (parts_of xs) ≡ joined p (parts_of (x ∷ xs))
joined_more p x xs = λ i. record {
  workflows = append_assoc p.workflows (workflow_in x) (flat_map workflow_in xs) i;
  configs = append_assoc p.configs (config_in x) (flat_map config_in xs) i;
  plans = append_assoc p.plans (plan_in x) (flat_map plan_in xs) i;
  commands = append_assoc p.commands (commands_in x) (flat_map commands_in xs) i;
  schedules = append_assoc p.schedules (schedule_in x) (flat_map schedule_in xs) i;
}

pub taken_more : (limits : List (List ℕ)) (i : ℕ) (p more : Parts) (x : Item) (xs : List Item) (whole : Found Parts) → item_checked limits i x ≡ Ok tt → more ≡ joined p (parts_in x) → taken_from limits i p (x ∷ xs) ≡ whole → taken_from limits (i + 1) more xs ≡ whole
taken_more limits i p more x xs whole passed e told =
    let rest = items_checked limits (suc i) xs in
    let all : Parts = joined p (parts_of (x ∷ xs)) in
    rw add-one (ap (λ (q : Parts). taken_from limits (suc i) q xs) e
    ∙ ap (λ (q : Parts). behind_found rest q) (joined_more p x xs)
    ∙ sym (ap (λ (r : Found (Unit {0})). behind_found (r >>= λ _. rest) all) passed)
    ∙ told)

pub refused_later : (limits : List (List ℕ)) (i : ℕ) (p : Parts) (x : Item) (xs : List Item) (whole : Found Parts) (e : BundleRefused) → IsRefusedAs e (item_checked limits i x) → taken_from limits i p (x ∷ xs) ≡ whole → IsRefusedAs e whole
refused_later limits i p x xs whole Memory is told = tt
refused_later limits i p x xs whole (Rule item rule field) is told =
    let rest = items_checked limits (suc i) xs in
    sym told ∙ ap (λ (r : Found (Unit {0})). behind_found (r >>= λ _. rest) (joined p (parts_of (x ∷ xs)))) is

-- ---- the parts

seconds_first : (xs : List Item) → whole_asked xs ≡ Ok tt → seconds_asked xs ≡ Ok tt
unfolding whole_asked
seconds_first xs e = (found_ok (seconds_asked xs) (λ _. names_asked xs >>= λ _. schedules_asked xs) tt e).1

pub differ_behind : (limits : List (List ℕ)) (xs : List Item) (p q : Parts) → taken limits xs ≡ Ok p → behind_found (whole_asked xs) p ≡ Ok q → pods_differ (first_or no_plan q.plans).pods ≡ true
differ_behind limits xs p q e f =
    let s = found_ok (items_checked limits 0 xs) (λ _. Ok (parts_of xs)) p e in
    let w = found_ok (whole_asked xs) (λ _. Ok p) q f in
    subst (λ (r : Parts). pods_differ (first_or no_plan r.plans).pods ≡ true) (found_is (parts_of xs) p s.2 ∙ found_is p q w.2) (plan_differs [] 0 xs (seconds_first xs w.1))

pub document_is : (xs : List Item) → document_in xs ≡ made (limits_of xs) (accepted (limited (limits_of xs)) xs)
unfolding document_in
document_is xs = by (items_checked (limited (limits_of xs)) 0 xs) (whole_asked xs)
  where
    by : (checked whole : Found (Unit {0})) → (checked >>= λ _. whole >>= λ _. Ok (document xs)) ≡ made (limits_of xs) (checked >>= λ _. behind_found whole (parts_of xs))
    by (Ok x) (Ok y) = refl
    by (Ok x) (Err refused) = refl
    by (Err refused) whole = refl
