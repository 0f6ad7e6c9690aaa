-- Positions, each once.
use Rattle.std.proofs.Common.{◌≡◌, ◌⊎◌, ℕ, List, [], ◌∷◌, ◌++◌, Bool, true, false, cond, ◌==◌, refl, sym, ap, ◌∙◌, subst, inl, inr, rules}
use Rattle.std.specs.Prelude.{flat_map}
use Rattle.std.specs.List.{list_any}
use Rattle.std.proofs.lemmas.Bool.{eqb-true}
use Rattle.task_order.proofs.Among.{Among, among_left, among_right, among_either, any_from, any_at}
use Rattle.dag_board.specs.Inside.Firsts.{add_first, firsts}

-- ---- what a function gives of some positions

pub among_flat : (f : ℕ → List ℕ) (qs : List ℕ) (q p : ℕ) → Among q qs → Among p (f q) → Among p (flat_map f qs)
among_flat f [] q p there in_one = absurd there
among_flat f (r ∷ rs) q p (inl same) in_one =
    among_left (f r) (flat_map f rs) p (subst (λ (x : ℕ). Among p (f x)) (sym same) in_one)
among_flat f (r ∷ rs) q p (inr later) in_one = among_right (f r) (flat_map f rs) p (among_flat f rs q p later in_one)

pub flat_among : (f : ℕ → List ℕ) (qs : List ℕ) (p : ℕ) → Among p (flat_map f qs) → (q : ℕ) × Among q qs × Among p (f q)
flat_among f [] p there = absurd there
flat_among f (r ∷ rs) p there =
    elim (among_either (f r) (flat_map f rs) p there) [
      | inl here ↦ (r, inl refl, here)
      | inr later ↦ more (flat_among f rs p later)
    ]
  where
    more : ((q : ℕ) × Among q rs × Among p (f q)) → (q : ℕ) × Among q (r ∷ rs) × Among p (f q)
    more (q, among, in_one) = (q, inr among, in_one)

pub flat_same : (f g : ℕ → List ℕ) (qs : List ℕ) → ((q : ℕ) → Among q qs → f q ≡ g q) → flat_map f qs ≡ flat_map g qs
flat_same f g [] e = refl
flat_same f g (q ∷ qs) e = λ i. e q (inl refl) i ++ flat_same f g qs (λ r a. e r (inr a)) i

-- ---- the positions so far, and more

pub add_cases : (ps : List ℕ) (p q : ℕ) → Among q (add_first ps p) → Among q ps ⊎ (p ≡ q)
add_cases ps p q among = go (list_any (λ r. p == r) ps) among
  where
    last : Among q ps ⊎ Among q (p ∷ []) → Among q ps ⊎ (p ≡ q)
    last (inl a) = inl a
    last (inr (inl same)) = inr same
    last (inr (inr none)) = absurd none

    go : (b : Bool) → Among q (cond b ps (ps ++ p ∷ [])) → Among q ps ⊎ (p ≡ q)
    go true a = inl a
    go false a = last (among_either ps (p ∷ []) q a)

pub has_told : (ps : List ℕ) (p : ℕ) → list_any (λ q. p == q) ps ≡ true → Among p ps
has_told ps p e =
    let (q, among, same) = any_at (λ q. p == q) ps e in
    subst (λ (x : ℕ). Among x ps) (sym (eqb-true p q same)) among

own_test : (p : ℕ) → (p == p) ≡ true
own_test p = search rules

told_has : (ps : List ℕ) (p : ℕ) → Among p ps → list_any (λ q. p == q) ps ≡ true
told_has ps p among = any_from (λ q. p == q) ps p among (own_test p)

pub add_again : (ps : List ℕ) (p : ℕ) → Among p ps → add_first ps p ≡ ps
add_again ps p among = ap (λ (b : Bool). cond b ps (ps ++ p ∷ [])) (told_has ps p among)

pub add_keeps : (ps : List ℕ) (p q : ℕ) → Among q ps → Among q (add_first ps p)
add_keeps ps p q among = go (list_any (λ r. p == r) ps)
  where
    go : (b : Bool) → Among q (cond b ps (ps ++ p ∷ []))
    go true = among
    go false = among_left ps (p ∷ []) q among

pub add_has : (ps : List ℕ) (p : ℕ) → Among p (add_first ps p)
add_has ps p = go (list_any (λ r. p == r) ps) refl
  where
    go : (b : Bool) → list_any (λ r. p == r) ps ≡ b → Among p (cond b ps (ps ++ p ∷ []))
    go true e = has_told ps p e
    go false e = among_right ps (p ∷ []) p (inl refl)

pub firsts_from : (ps qs : List ℕ) (q : ℕ) → Among q (firsts ps qs) → Among q ps ⊎ Among q qs
firsts_from ps [] q among = inl among
firsts_from ps (r ∷ rs) q among =
    elim (firsts_from (add_first ps r) rs q among) [
      | inl before ↦ here (add_cases ps r q before)
      | inr later ↦ inr (inr later)
    ]
  where
    here : Among q ps ⊎ (r ≡ q) → Among q ps ⊎ Among q (r ∷ rs)
    here (inl a) = inl a
    here (inr same) = inr (inl same)

pub firsts_keep : (ps qs : List ℕ) (p : ℕ) → Among p ps → Among p (firsts ps qs)
firsts_keep ps [] p among = among
firsts_keep ps (q ∷ qs) p among = firsts_keep (add_first ps q) qs p (add_keeps ps q p among)

pub firsts_have : (ps qs : List ℕ) (p : ℕ) → Among p qs → Among p (firsts ps qs)
firsts_have ps [] p among = absurd among
firsts_have ps (q ∷ qs) p (inl same) =
    firsts_keep (add_first ps q) qs p (subst (λ (x : ℕ). Among x (add_first ps q)) same (add_has ps q))
firsts_have ps (q ∷ qs) p (inr later) = firsts_have (add_first ps q) qs p later

-- what is among them adds nothing
pub firsts_again : (ps qs : List ℕ) → ((q : ℕ) → Among q qs → Among q ps) → firsts ps qs ≡ ps
firsts_again ps [] h = refl
firsts_again ps (q ∷ qs) h =
    ap (λ (xs : List ℕ). firsts xs qs) (add_again ps q (h q (inl refl))) ∙ firsts_again ps qs (λ r a. h r (inr a))
