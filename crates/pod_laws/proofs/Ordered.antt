-- The pods that a tree asks for stand in the order of their paths, so those that are left stand as they stood.
use Rattle.std.proofs.Common.{◌≡◌, ◌⊎◌, inl, inr, true, List, [], ◌∷◌, ◌++◌, refl, sym, ap, ◌∙◌, subst}
use Rattle.tree_types.specs.declared.fact.Fact.{Fact}
use Rattle.tree_types.specs.declared.fact.Fact.TheVariants.{Started, Settled, Carried, Granted, Memo, Armed, Due, Resumed, Begun}
use Rattle.tree_types.specs.declared.want.Want.{Want}
use Rattle.tree_types.specs.declared.want.Want.TheVariants as want
use Rattle.wf_manifest.specs.declared.manifest.Manifest.{Manifest}
use Rattle.meaning.specs.declared.lines.Line.{Line}
use Rattle.meaning.specs.declared.lines.Line.TheVariants.{Stands, Asks, MayBegin}
use Rattle.meaning.specs.Answers.{path, Sels, Facts, answers}
use Rattle.meaning.specs.Trees.{lines, nodes_in, wants_in}
use Rattle.growth.specs.Growth.{Among}
use Rattle.askings.proofs.AsksOnce.{Within, none, skips, takes, pods as of_pods, picked, stood, few_lines}
use Rattle.tree_state.specs.Finding.{pods_in}
use Rattle.tree_order.specs.Order.{path_before, InOrder, paths_of}
use Rattle.tree_order.proofs.Paths.{paths_apart}
use Rattle.tree_order.proofs.Nodes.{nodes_in_order}
use Rattle.pod_laws.specs.NewPods.{pods, KeepsFront, FrontIsKept}
use Rattle.pod_laws.proofs.Asked.{Stay, stay, stay_but, all_stay}
use Rattle.pod_laws.proofs.Fronts.{Ordered, front_left}

-- ---- in the order of their paths

abbrev place : Want → Sels
place (want.Pod p) = p.sels
place _ = []

-- one stands before the other
abbrev Before : Want → Want → Type 0
Before v w = path_before (place v) (place w) ≡ true

apart : (v w : Want) → Before v w → Before w v → ⊥
apart v w a b = paths_apart (place v) (place w) a b

stood_paths : (ls : List Line) → stood ls ≡ paths_of (nodes_in ls)
stood_paths [] = refl
stood_paths (Stands n ∷ ls) = ap (λ (ps : List Sels). n.path.sels ∷ ps) (stood_paths ls)
stood_paths (Asks w ∷ ls) = stood_paths ls
stood_paths (MayBegin p ∷ ls) = stood_paths ls

within_among : (x : Sels) (xs ys : List Sels) → Within xs ys → Among x xs → Among x ys
within_among x xs ys none a = a
within_among x xs ys (skips {xs = us} {ys = vs} y w) a = inr (within_among x us vs w a)
within_among x xs ys (takes {xs = us} {ys = vs} u v e w) (inl f) = inl (sym e ∙ f)
within_among x xs ys (takes {xs = us} {ys = vs} u v e w) (inr a) = inr (within_among x us vs w a)

within_order : (xs ys : List Sels) → Within xs ys → InOrder ys → InOrder xs
within_order xs ys none o = tt
within_order xs ys (skips {xs = us} {ys = vs} y w) o = within_order us vs w o.1
within_order xs ys (takes {xs = us} {ys = vs} u v e w) o =
    ((λ q a. ap (λ (p : Sels). path_before p q) e ∙ o.0 q (within_among q us vs w a)), within_order us vs w o.1)

-- the paths of the pods among wants
place_among : (w : Want) (ls : List Line) → Among w (pods_in (wants_in ls)) → Among (place w) (picked of_pods ls)
place_among w [] a = absurd a
place_among w (Stands n ∷ ls) a = place_among w ls a
place_among w (MayBegin p ∷ ls) a = place_among w ls a
place_among w (Asks (want.Pod p) ∷ ls) (inl e) = inl (ap place e)
place_among w (Asks (want.Pod p) ∷ ls) (inr a) = inr (place_among w ls a)
place_among w (Asks (want.Lock p l) ∷ ls) a = place_among w ls a
place_among w (Asks (want.LookUp p c k g) ∷ ls) a = place_among w ls a
place_among w (Asks (want.Arming p) ∷ ls) a = place_among w ls a
place_among w (Asks (want.Timer p t) ∷ ls) a = place_among w ls a
place_among w (Asks (want.Save p c k o) ∷ ls) a = place_among w ls a

pods_ordered : (ls : List Line) → InOrder (picked of_pods ls) → Ordered Before apart (pods_in (wants_in ls))
pods_ordered [] o = tt
pods_ordered (Stands n ∷ ls) o = pods_ordered ls o
pods_ordered (MayBegin p ∷ ls) o = pods_ordered ls o
pods_ordered (Asks (want.Pod p) ∷ ls) o = ((λ w a. o.0 (place w) (place_among w ls a)), pods_ordered ls o.1)
pods_ordered (Asks (want.Lock p l) ∷ ls) o = pods_ordered ls o
pods_ordered (Asks (want.LookUp p c k g) ∷ ls) o = pods_ordered ls o
pods_ordered (Asks (want.Arming p) ∷ ls) o = pods_ordered ls o
pods_ordered (Asks (want.Timer p t) ∷ ls) o = pods_ordered ls o
pods_ordered (Asks (want.Save p c k o) ∷ ls) r = pods_ordered ls r

ordered : (m : Manifest) (J : Facts) → Ordered Before apart (pods m J)
ordered m J =
    let ls = lines m (answers J) in
    pods_ordered ls (within_order (picked of_pods ls) (stood ls) (few_lines of_pods m (answers J)) (subst InOrder (sym (stood_paths ls)) (nodes_in_order m (answers J))))

-- ---- once one fact more is recorded

module _ (m : Manifest) (J : Facts) (f : Fact) where
  -- all that are left, but for this one
  kept_but : (gone : Want) → ((w : Want) → Among w (pods m J) → (gone ≡ w) ⊎ Among w (pods m (J ++ f ∷ []))) → KeepsFront (pods m (J ++ f ∷ [])) (pods m J)
  kept_but gone left passes n e new = front_left Before apart passes gone n (pods m J) (pods m (J ++ f ∷ [])) (ordered m J) (ordered m (J ++ f ∷ [])) left new e

  kept : Stay m J f (pods m (J ++ f ∷ [])) → KeepsFront (pods m (J ++ f ∷ [])) (pods m J)
  kept s = kept_but (want.Arming (path [])) (λ w h. inr (all_stay m J f (pods m (J ++ f ∷ [])) s w h))

pub front_is_kept : FrontIsKept
front_is_kept m J (Settled q o) a =
    let f = Settled q o in
    kept_but m J f (want.Pod q) (λ w h. all_stay m J f (want.Pod q ∷ pods m (J ++ f ∷ [])) (stay_but m J q o a) w h)
front_is_kept m J (Carried q o) a = absurd a
front_is_kept m J (Begun q) a = absurd a
front_is_kept m J Started a = kept m J Started (stay m J Started a (λ p. refl) (λ p. refl))
front_is_kept m J (Granted q) a = kept m J (Granted q) (stay m J (Granted q) a (λ p. refl) (λ p. refl))
front_is_kept m J (Memo q o) a = kept m J (Memo q o) (stay m J (Memo q o) a (λ p. refl) (λ p. refl))
front_is_kept m J (Armed q t) a = kept m J (Armed q t) (stay m J (Armed q t) a (λ p. refl) (λ p. refl))
front_is_kept m J (Due q) a = kept m J (Due q) (stay m J (Due q) a (λ p. refl) (λ p. refl))
front_is_kept m J (Resumed q) a = kept m J (Resumed q) (stay m J (Resumed q) a (λ p. refl) (λ p. refl))
