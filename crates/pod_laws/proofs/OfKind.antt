-- The wants of one kind among some in which nothing is asked for twice.
use Rattle.std.proofs.Common.{◌≡◌, Bool, true, false, cond, List, [], ◌∷◌, refl, sym, ap, ◌∙◌, subst, inl, inr}
use Rattle.std.specs.List.{filter}
use Rattle.tree_types.specs.declared.want.Want.{Want}
use Rattle.tree_types.specs.declared.want.Want.TheVariants as want
use Rattle.growth.specs.Growth.{Among}
use Rattle.askings.specs.Once.{AreAlike, NoneTwice}
use Rattle.tree_state.specs.declared.kinds.WantKind.{WantKind}
use Rattle.tree_state.specs.Asking.{is_of}
use Rattle.pod_laws.proofs.Few.{Distinct}

-- ---- wants of one path

itself : (w : Want) → AreAlike w w
itself (want.Pod p) = refl
itself (want.Lock p l) = refl
itself (want.LookUp p c k a) = refl
itself (want.Arming p) = refl
itself (want.Timer p t) = refl
itself (want.Save p c k o) = refl

-- two that are alike are the same
pub same_alike : (ws : List Want) → NoneTwice ws → (v w : Want) → Among v ws → Among w ws → AreAlike v w → AreAlike w v → v ≡ w
same_alike [] apart v w hv hw a b = absurd hv
same_alike (x ∷ ws) apart v w (inl e) (inl f) a b = sym e ∙ f
same_alike (x ∷ ws) apart v w (inl e) (inr h) a b = absurd (apart.0 w h (subst (λ (y : Want). AreAlike y w) (sym e) a))
same_alike (x ∷ ws) apart v w (inr h) (inl f) a b = absurd (apart.0 v h (subst (λ (y : Want). AreAlike y v) (sym f) b))
same_alike (x ∷ ws) apart v w (inr h) (inr i) a b = same_alike ws apart.1 v w h i a b

-- ---- those of a kind

module _ (k : WantKind) where
  abbrev pub those : List Want → List Want
  those ws = filter (is_of k) ws

  pub want_of : (w : Want) (ws : List Want) → Among w (those ws) → Among w ws
  want_of w [] h = absurd h
  want_of w (x ∷ ws) h = by (is_of k x) h (want_of w ws)
    where
      by : (b : Bool) → Among w (cond b (x ∷ those ws) (those ws)) → (Among w (those ws) → Among w ws) → Among w (x ∷ ws)
      by true (inl e) behind = inl e
      by true (inr h) behind = inr (behind h)
      by false h behind = inr (behind h)

  pub of_kind : (w : Want) (ws : List Want) → is_of k w ≡ true → Among w ws → Among w (those ws)
  of_kind w [] is h = absurd h
  of_kind w (x ∷ ws) is (inl e) = by (is_of k x) (ap (is_of k) e ∙ is)
    where
      by : (b : Bool) → b ≡ true → Among w (cond b (x ∷ those ws) (those ws))
      by true f = inl e
      by false f = absurd (cc f)
  of_kind w (x ∷ ws) is (inr h) = by (is_of k x) (of_kind w ws is h)
    where
      by : (b : Bool) → Among w (those ws) → Among w (cond b (x ∷ those ws) (those ws))
      by true a = inr a
      by false a = a

  pub is_kind : (w : Want) (ws : List Want) → Among w (those ws) → is_of k w ≡ true
  is_kind w [] h = absurd h
  is_kind w (x ∷ ws) h = by (is_of k x) refl h (is_kind w ws)
    where
      by : (b : Bool) → is_of k x ≡ b → Among w (cond b (x ∷ those ws) (those ws)) → (Among w (those ws) → is_of k w ≡ true) → is_of k w ≡ true
      by true is (inl e) behind = sym (ap (is_of k) e) ∙ is
      by true is (inr h) behind = behind h
      by false is h behind = behind h

  pub distinct : (ws : List Want) → NoneTwice ws → Distinct (those ws)
  distinct [] apart = tt
  distinct (x ∷ ws) apart = by (is_of k x) (distinct ws apart.1)
    where
      by : (b : Bool) → Distinct (those ws) → Distinct (cond b (x ∷ those ws) (those ws))
      by true d = ((λ y h e. apart.0 y (want_of y ws h) (subst (AreAlike x) e (itself x))), d)
      by false d = d
