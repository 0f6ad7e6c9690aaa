-- The test by which code compares keys is that of the definitions, and keys that pass it have one bucket.
use Rattle.std.proofs.Common.{◌≡◌, ℕ, zero, suc, Bool, true, false, cond, ◌&&◌, List, [], ◌∷◌, Some, option_map, bytes_eq, eq-eqb, refl, sym, ap₂, ◌∙◌}
use Rattle.std.specs.Prelude.{IsSome}
use Rattle.std.proofs.lemmas.Slice.Eq.{bytes_eq-Decides}
use Rattle.tree_types.specs.declared.entry.HolderKey.{HolderKey}
use Rattle.tree_types.specs.Places.{sels_eq}
use Rattle.tree_types.proofs.Sels.{sels_same}
use Rattle.books.specs.declared.Request.{Request}
use Rattle.books.specs.Books.{request_of}
use Rattle.books.specs.Laws.{is_of}
use Rattle.sync_locks.specs.Book.{state_in, is_filed_at}
use Rattle.sync_locks.specs.Inside.Buckets.{bucket_of}
use Rattle.sync_locks.specs.Inside.Tables.{belongs}

both_true : (a b : Bool) → (a && b) ≡ true → (a ≡ true) × (b ≡ true)
both_true true b e = (refl, e)
both_true false b e = absurd (cc e)

-- a request of a key belongs to the bucket of the key
pub belongs_there : (key : HolderKey) (r : Request) → is_of key r ≡ true → belongs (bucket_of key.workflow key.path.sels) r ≡ true
belongs_there key r e =
    let two = both_true (bytes_eq key.workflow r.key.workflow) (sels_eq key.path.sels r.key.path.sels) e in
    eq-eqb (bucket_of r.key.workflow r.key.path.sels) (bucket_of key.workflow key.path.sels)
    (sym (ap₂ bucket_of ((bytes_eq-Decides key.workflow r.key.workflow).0 two.0) (sels_same key.path.sels r.key.path.sels two.1)))

-- the key of a request that was filed has a request
pub filed_known : (key : HolderKey) (rs : List Request) (i : ℕ) → is_filed_at i key rs ≡ true → IsSome (state_in key rs)
filed_known key [] i e = absurd (cc e)
filed_known key (r ∷ rs) i e = by (is_of key r) refl i e (λ j f. filed_known key rs j f)
  where
    by : (b : Bool) → is_of key r ≡ b → (j : ℕ) → is_filed_at j key (r ∷ rs) ≡ true → ((k : ℕ) → is_filed_at k key rs ≡ true → IsSome (state_in key rs)) →
        IsSome (option_map (λ (x : Request). x.state) (cond b (Some r) (request_of rs key)))
    by true is j e ih = refl
    by false is zero e ih = absurd (let no : true ≡ false = sym e ∙ is in cc no)
    by false is (suc j) e ih = ih j e
