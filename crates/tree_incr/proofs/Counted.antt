-- What counts tell of the pods and locks that a workflow asks for.
use Rattle.std.proofs.Common.{◌≡◌, ℕ, ◌+◌, ◌≤◌, Bool, true, false, cond, List, [], ◌∷◌, ◌++◌, length, Option, Some, refl, sym, ap, ◌∙◌, subst, inl, inr, arith}
use Rattle.std.specs.List.{find}
use Rattle.tree_types.specs.declared.path.Path.{Path}
use Rattle.tree_types.specs.declared.fact.Fact.{Fact}
use Rattle.tree_types.specs.declared.node.Node.{Node}
use Rattle.tree_types.specs.declared.node.Kind.TheVariants as kind
use Rattle.tree_types.specs.declared.phase.Phase.TheVariants.{Running}
use Rattle.tree_types.specs.declared.want.Want.TheVariants as want
use Rattle.tree_types.specs.Places.{sels_eq}
use Rattle.tree_types.proofs.Sels.{sels_same}
use Rattle.wf_manifest.specs.declared.manifest.Manifest.{Manifest}
use Rattle.meaning.specs.Answers.{path, Sels, Facts, answers}
use Rattle.meaning.specs.Trees.{tree, wants}
use Rattle.growth.specs.Growth.{Among}
use Rattle.askings.specs.Owners.{WaitsAsk}
use Rattle.pod_laws.specs.NewPods.{pods, IsAnswer, answered, NoneNewByCount, OneNewByCount, NamesAreKept, FrontIsKept}
use Rattle.pod_laws.specs.NewLocks.{locks, granted, NoneNewLocksByCount}
use Rattle.pod_laws.proofs.Asked.{pod_of}
use Rattle.tree_incr.specs.declared.new_pods.NewPods.{NewPods}
use Rattle.tree_incr.specs.declared.new_pods.NewPods.TheVariants.{None, OneAtMost, Unknown}
use Rattle.tree_incr.specs.NewPods.{TellsNewPods, FitsCounts}
use Rattle.tree_incr.specs.NewLocks.{LastAddsNoLock}

-- ---- a node that is found by its path

module _ (p : Sels) where
  abbrev is_there : Node → Bool
  is_there n = sels_eq n.path.sels p

  found_by : (n x : Node) (ns : List Node) (b : Bool) → is_there x ≡ b → Some n ≡ cond b (Some x) (find is_there ns) →
      (Some n ≡ find is_there ns → Among n ns × (is_there n ≡ true)) → Among n (x ∷ ns) × (is_there n ≡ true)
  found_by n x ns true is e later = let same : n ≡ x = cc in (inl (sym same), ap is_there same ∙ is)
  found_by n x ns false is e later = let l = later e in (inr l.0, l.1)

  found : (n : Node) (ns : List Node) → Some n ≡ find is_there ns → Among n ns × (is_there n ≡ true)
  found n [] e = absurd (cc)
  found n (x ∷ ns) e = found_by n x ns (is_there x) refl e (λ l. found n ns l)

-- one that is a pod and runs is asked for
pub is_asked : WaitsAsk → (m : Manifest) (J : Facts) (p : Path) (n : Node) → Some n ≡ find (λ o. sels_eq o.path.sels p.sels) (tree m J) →
    (n.kind ≡ kind.Pod) × (n.phase ≡ Running) → Among (want.Pod p) (pods m J)
is_asked law m J p n at runs =
    let here = found p.sels n (tree m J) at in
    let same : n.path ≡ p = ap path (sels_same n.path.sels p.sels here.1) in
    pod_of p (wants m J) (subst (λ (q : Path). Among (want.Pod q) (wants m J)) same ((law m (answers J) n here.0).pod runs.0 runs.1))

-- ---- by counts

module _ (none_new : NoneNewByCount) (one_new : OneNewByCount) (names : NamesAreKept) (front : FrontIsKept) (m : Manifest) (J : Facts) (f : Fact) (is : IsAnswer m J f) where
  pub told_by : (many before now : ℕ) (r : NewPods) → many ≡ answered f → before ≡ length (pods m J) → now ≡ length (pods m (J ++ f ∷ [])) →
      FitsCounts many before now r → TellsNewPods r record { manifest = m; facts = J ++ f ∷ [] }
  told_by many before now None a b n fits = record {
    before = J;
    fact = f;
    last = refl;
    names = names m J f is;
    front = front m J f is;
    pods = none_new m J f is (omega (arith, a, b, n, fits));
  }
  told_by many before now OneAtMost a b n fits = record {
    before = J;
    fact = f;
    last = refl;
    names = names m J f is;
    front = front m J f is;
    pods = one_new m J f is (omega (arith, a, b, n, fits));
  }
  told_by many before now Unknown a b n fits = tt

-- ---- locks

pub no_lock_by : NoneNewLocksByCount → (m : Manifest) (J : Facts) (f : Fact) → IsAnswer m J f → (many before now : ℕ) → many ≡ granted f →
    before ≡ length (locks m J) → now ≡ length (locks m (J ++ f ∷ [])) → many + now ≤ before → LastAddsNoLock record { manifest = m; facts = J ++ f ∷ [] }
no_lock_by law m J f is many before now a b n fits = record { before = J; fact = f; last = refl; locks = law m J f is (omega (arith, a, b, n, fits)) }
