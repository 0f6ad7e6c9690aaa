-- A document that was read has passed each of the passes.
use Rattle.std.proofs.Common.{◌≡◌, List, Ok, Err, refl}
use Rattle.serde_json.specs.Data.{Data}
use Rattle.field_kinds.specs.Reading.{◌>>=◌}
use Rattle.item_reader.specs.declared.items.Item.{Item}
use Rattle.bundle_rules.specs.Findings.{Found}
use Rattle.bundle_rules.specs.Counts.{workflows_counted}
use Rattle.bundle_rules.specs.LockLimits.{limits_of}
use Rattle.wf_bundle.specs.declared.document.Document.{Document}
use Rattle.wf_bundle.specs.Documents.{items_of, items_checked, limited, whole_asked, document, document_in, document_of}

-- what was found where nothing was refused
pub found_ok : {A B : Type 0} (r : Found A) (f : A → Found B) (y : B) → (r >>= f) ≡ Ok y → (x : A) × (r ≡ Ok x) × (f x ≡ Ok y)
found_ok (Ok x) f y e = (x, refl, e)
found_ok (Err refused) f y e = absurd cc

found_is : {A : Type 0} (x y : A) → (let r : Found A = Ok x in r) ≡ Ok y → x ≡ y
found_is x y e = cc

-- the document is that of some items, in which the third pass found nothing
pub record Passed (D : Document) : Type 0 where
  pub items : List Item
  pub whole : whole_asked items ≡ Ok tt
  pub is : document items ≡ D

passed_in : (xs : List Item) (D : Document) → document_in xs ≡ Ok D → Passed D
unfolding document_in
passed_in xs D e =
    let c = found_ok (items_checked (limited (limits_of xs)) 0 xs) (λ _. whole_asked xs >>= λ _. Ok (document xs)) D e in
    let w = found_ok (whole_asked xs) (λ _. Ok (document xs)) D c.2 in
    record { items = xs; whole = w.1; is = found_is (document xs) D w.2 }

pub passed : (d : Data) (D : Document) → document_of d ≡ Ok D → Passed D
unfolding document_of
passed d D e =
    let a = found_ok (items_of d) (λ xs. workflows_counted xs >>= λ _. document_in xs) D e in
    let b = found_ok (workflows_counted a.0) (λ _. document_in a.0) D a.2 in
    passed_in a.0 D b.2
