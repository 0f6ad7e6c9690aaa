-- The locks that are asked for are asked for on until they are granted: so their number tells that none is new.
use Rattle.std.proofs.Common.{◌≡◌, ◌≤◌, ◌+◌, ◌⊎◌, Bool, true, false, List, [], ◌∷◌, ◌++◌, length, refl, sym, ap, ◌∙◌, subst, inl, inr, arith}
use Rattle.tree_types.specs.declared.path.Path.{Path}
use Rattle.tree_types.specs.declared.path.LockId.{LockId}
use Rattle.tree_types.specs.declared.fact.Fact.{Fact}
use Rattle.tree_types.specs.declared.fact.Fact.TheVariants.{Started, Settled, Carried, Granted, Memo, Armed, Due, Resumed, Begun}
use Rattle.tree_types.specs.declared.want.Want.{Want}
use Rattle.tree_types.specs.declared.want.Want.TheVariants as want
use Rattle.tree_types.specs.Places.{sels_eq}
use Rattle.tree_types.specs.Journals.{is_alike, knows}
use Rattle.tree_types.proofs.Sels.{sels_same}
use Rattle.wf_manifest.specs.declared.manifest.Manifest.{Manifest}
use Rattle.meaning.specs.Answers.{path, Sels, Facts, answers}
use Rattle.meaning.specs.Trees.{wants}
use Rattle.growth.specs.Growth.{Among}
use Rattle.growth.proofs.Journals.{last_known, asked_new}
use Rattle.askings.specs.Once.{AreAlike}
use Rattle.askings.proofs.AsksOnce.{asks_once}
use Rattle.tree_state.specs.declared.kinds.WantKind.TheVariants.{Lock}
use Rattle.pod_laws.specs.NewPods.{NoneNew, IsAnswer}
use Rattle.pod_laws.specs.NewLocks.{locks, NoneNewLocksByCount}
use Rattle.pod_laws.proofs.Few.{none_new, none_new_but}
use Rattle.pod_laws.proofs.OfKind.{want_of, is_kind, same_alike}
use Rattle.pod_laws.proofs.Asked.{on, apart}

-- a lock of this path
abbrev LockOf : Path → Want → Type 0
LockOf q w = (l : LockId) × (w ≡ want.Lock q l)

alike : (q : Path) (v w : Want) → LockOf q v → LockOf q w → AreAlike v w
alike q v w a b = subst (λ (x : Want). AreAlike x w) (sym a.1) (subst (λ (x : Want). AreAlike (want.Lock q a.0) x) (sym b.1) refl)

module _ (m : Manifest) (J : Facts) where
  -- two of them that are asked for are the same
  one_lock : (q : Path) (v w : Want) → Among v (locks m J) → Among w (locks m J) → LockOf q v → LockOf q w → v ≡ w
  one_lock q v w h i a b =
      same_alike (wants m J) (asks_once m (answers J)) v w (want_of Lock v (wants m J) h) (want_of Lock w (wants m J) i) (alike q v w a b) (alike q w v b a)

  not_granted : (p : Path) (l : LockId) → Among (want.Lock p l) (locks m J) → knows J (Granted p) ≡ false
  not_granted p l h = asked_new m J (Granted p) (l, want_of Lock (want.Lock p l) (wants m J) h)

  -- one that the fact does not grant is asked for on
  lock_on : (f : Fact) → IsAnswer m J f → (p : Path) (l : LockId) → Among (want.Lock p l) (locks m J) → is_alike f (Granted p) ≡ false →
      Among (want.Lock p l) (locks m (J ++ f ∷ []))
  lock_on f a p l h other = on m J Lock f a (want.Lock p l) h (still (knows (J ++ f ∷ []) (Granted p)) refl)
    where
      still : (b : Bool) → knows (J ++ f ∷ []) (Granted p) ≡ b → knows (J ++ f ∷ []) (Granted p) ≡ false
      still false e = e
      still true e = absurd (cc (sym (last_known (Granted p) J f e (not_granted p l h)) ∙ other))

  -- all that are asked for are locks
  each_lock : (P : Want → Type 0) → ((p : Path) (l : LockId) → Among (want.Lock p l) (locks m J) → P (want.Lock p l)) → (w : Want) → Among w (locks m J) → P w
  each_lock P is (want.Lock p l) h = is p l h
  each_lock P is (want.Pod p) h = absurd (cc (is_kind Lock (want.Pod p) (wants m J) h))
  each_lock P is (want.LookUp p c k g) h = absurd (cc (is_kind Lock (want.LookUp p c k g) (wants m J) h))
  each_lock P is (want.Arming p) h = absurd (cc (is_kind Lock (want.Arming p) (wants m J) h))
  each_lock P is (want.Timer p t) h = absurd (cc (is_kind Lock (want.Timer p t) (wants m J) h))
  each_lock P is (want.Save p c k o) h = absurd (cc (is_kind Lock (want.Save p c k o) (wants m J) h))

  -- ---- counted

  -- a fact that grants nothing
  none_by : (f : Fact) → IsAnswer m J f → ((p : Path) → is_alike f (Granted p) ≡ false) →
      length (locks m (J ++ f ∷ [])) ≤ length (locks m J) → NoneNew (locks m (J ++ f ∷ [])) (locks m J)
  none_by f a other few w h =
      none_new (locks m J) (locks m (J ++ f ∷ [])) (apart m J Lock)
      (each_lock (λ (v : Want). Among v (locks m (J ++ f ∷ []))) (λ p l i. lock_on f a p l i (other p))) few w h

  -- a grant
  module _ (q : Path) (a : IsAnswer m J (Granted q)) where
    abbrev later : List Want
    later = locks m (J ++ Granted q ∷ [])

    left : (p : Path) (l : LockId) → Among (want.Lock p l) (locks m J) → LockOf q (want.Lock p l) ⊎ Among (want.Lock p l) later
    left p l i = by (sels_eq q.sels p.sels) refl
      where
        by : (b : Bool) → sels_eq q.sels p.sels ≡ b → LockOf q (want.Lock p l) ⊎ Among (want.Lock p l) later
        by true e = inl (l, ap (λ (s : Sels). want.Lock (path s) l) (sym (sels_same q.sels p.sels e)))
        by false e = inr (lock_on (Granted q) a p l i e)

    granted_by : 1 + length later ≤ length (locks m J) → NoneNew later (locks m J)
    granted_by few w h =
        none_new_but (LockOf q) (locks m J) later (apart m J Lock) (each_lock (λ (v : Want). LockOf q v ⊎ Among v later) left) (one_lock q) few w h

pub none_new_locks_by_count : NoneNewLocksByCount
none_new_locks_by_count m J (Granted q) a few = granted_by m J q a (omega (arith, few))
none_new_locks_by_count m J (Carried q o) a few = absurd a
none_new_locks_by_count m J (Begun q) a few = absurd a
none_new_locks_by_count m J Started a few = none_by m J Started a (λ p. refl) (omega (arith, few))
none_new_locks_by_count m J (Settled q o) a few = none_by m J (Settled q o) a (λ p. refl) (omega (arith, few))
none_new_locks_by_count m J (Memo q o) a few = none_by m J (Memo q o) a (λ p. refl) (omega (arith, few))
none_new_locks_by_count m J (Armed q t) a few = none_by m J (Armed q t) a (λ p. refl) (omega (arith, few))
none_new_locks_by_count m J (Due q) a few = none_by m J (Due q) a (λ p. refl) (omega (arith, few))
none_new_locks_by_count m J (Resumed q) a few = none_by m J (Resumed q) a (λ p. refl) (omega (arith, few))
