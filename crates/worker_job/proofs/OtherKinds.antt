-- What was read is of another kind than its key's: the job ends.
use Rattle.std.proofs.Common.{◌≡◌, ℕ, false, refl, sym, subst, Option, Some, None, is_some, true≢false}
use Rattle.tree_types.specs.declared.entry.Key.{Key}
use Rattle.tree_types.specs.declared.entry.Key.TheVariants.{Locks, Caches}
use Rattle.law.specs.Contents.{Content, OfWorkflow, OfPod, OfLocks, OfCaches}
use Rattle.wf_object.specs.Kept.{locks_in, caches_in}
use Rattle.next_step.specs.Views.{Views}
use Rattle.next_step.specs.Replies.{Ending, by_absence, ended, taken}

pub none_by : {A : Type 0} (o : Option A) → is_some o ≡ false → o ≡ None
none_by None e = refl
none_by (Some x) e = absurd (true≢false e)

pub no_locks : (v : Views) (k : Key) (n t : ℕ) (c : Content) → k ≡ Locks → locks_in (Some c) ≡ None → (e : Ending) × (taken v k n t c ≡ ended e)
no_locks v k n t c e none = subst (λ j. (x : Ending) × (taken v j n t c ≡ ended x)) (sym e) (by c none)
  where
    by : (c : Content) → locks_in (Some c) ≡ None → (x : Ending) × (taken v Locks n t c ≡ ended x)
    by (OfWorkflow f) q = (by_absence, refl)
    by (OfPod pod) q = (by_absence, refl)
    by (OfLocks b) q = absurd cc
    by (OfCaches ss) q = (by_absence, refl)

pub no_caches : (v : Views) (k : Key) (n t : ℕ) (c : Content) → k ≡ Caches → caches_in (Some c) ≡ None → (e : Ending) × (taken v k n t c ≡ ended e)
no_caches v k n t c e none = subst (λ j. (x : Ending) × (taken v j n t c ≡ ended x)) (sym e) (by c none)
  where
    by : (c : Content) → caches_in (Some c) ≡ None → (x : Ending) × (taken v Caches n t c ≡ ended x)
    by (OfWorkflow f) q = (by_absence, refl)
    by (OfPod pod) q = (by_absence, refl)
    by (OfLocks b) q = (by_absence, refl)
    by (OfCaches ss) q = absurd cc
