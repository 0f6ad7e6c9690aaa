-- What is stored of requests: without any, with one more, and after a release.
use Rattle.std.proofs.Common.{◌≡◌, ℕ, true, List, [], ◌∷◌, ◌++◌, length, set, replicate, sym, ◌∙◌, ap, subst, arith}
use Rattle.std.specs.List.{AllPass, remove}
use Rattle.books.specs.declared.LockState.{LockState}
use Rattle.buckets.specs.Buckets.{buckets}
use Rattle.sync_locks.specs.declared.asked.Asked.{Asked}
use Rattle.sync_locks.specs.declared.holder.Holder.{Holder}
use Rattle.sync_locks.specs.Inside.Buckets.{bucket_of}
use Rattle.sync_locks.specs.Inside.Tables.{IsKept}
use Rattle.sync_locks.specs.Inside.Holders.{places_in, is_bucketed, holding_with, IsStored}
use Rattle.sync_locks.proofs.Kept.{kept_none}
use Rattle.sync_locks.proofs.Bucketed.{places_set, places_without, bucketed_with, bucketed_without, bucketed_set}

pub stored_none : IsStored [] [] (replicate buckets []) [] []
stored_none = record { kept = kept_none; bucketed = λ k d h. absurd (omega (arith, h)) }

-- the buckets of the lists as they are told, with a request more
pub bucketed_added :
    (asked : List Asked) (a : Asked) (s : LockState) (h : Holder) (holding : List Holder) → AllPass (is_bucketed asked) holding →
    h.place ≡ length asked → h.bucket ≡ bucket_of a.key.workflow a.key.path.sels →
    (asked' : List Asked) → asked' ≡ asked ++ a ∷ [] → (holding' : List Holder) → holding' ≡ holding_with s h holding →
    AllPass (is_bucketed asked') holding'
bucketed_added asked a s h holding all at own asked' asked_is holding' holding_is = rw (asked_is, holding_is) (bucketed_with asked a s h holding at (sym own) all)

module _ (asked : List Asked) (states : List LockState) (table : List (List ℕ)) (holding : List Holder) (waiting : List ℕ) (k : ℕ) (all : AllPass (is_bucketed asked) holding) where
  -- one holds no longer
  pub stored_freed : IsKept asked states table (remove (places_in holding) k) waiting → IsStored asked states table (remove holding k) waiting
  stored_freed kept = record {
    kept = subst (λ (xs : List ℕ). IsKept asked states table xs waiting) (sym (places_without holding k)) kept;
    bucketed = bucketed_without asked holding k all;
  }

  -- another holds in its place
  pub stored_passed : (p : ℕ) (h : Holder) → h.place ≡ p → is_bucketed asked h ≡ true → IsKept asked states table (set (places_in holding) k p) waiting → IsStored asked states table (set holding k h) waiting
  stored_passed p h at own kept = record {
    kept =
        subst (λ (xs : List ℕ). IsKept asked states table xs waiting)
        (sym (places_set holding k h ∙ ap (λ (n : ℕ). set (places_in holding) k n) at))
        kept;
    bucketed = bucketed_set asked holding k all h own;
  }
