-- A workflow with one fact more.
use Rattle.std.proofs.Common.{◌≡◌, ◌++◌, Bool, true, false, cond, [], ◌∷◌, length, Result, Ok, Err, refl, sym, ap, ◌∙◌, subst}
use Rattle.std.specs.Prelude.{IsErrAnd, nat_le}
use Rattle.base_types.specs.Limits.{most_nodes}
use Rattle.tree_types.specs.declared.fact.Fact.{Fact}
use Rattle.wf_manifest.specs.declared.manifest.Manifest.{Manifest}
use Rattle.meaning.specs.Answers.{Facts, answers}
use Rattle.meaning.specs.Trees.{tree}
use Rattle.tree_state.specs.declared.refused.TreeRefused.{TreeRefused}
use Rattle.tree_state.specs.declared.refused.TreeRefused.TheVariants.{TooLarge, Memory}
use Rattle.tree_eval.specs.Whole.{Whole, whole, meant_whole}
use Rattle.tree_incr.specs.Inside.{IsTreeOf}
use Rattle.tree_incr.specs.Workflows.{Workflow, with_fact, added}

-- ---- what is within a bound

is_within : {A : Type 0} (b : Bool) (t w : A) → Ok t ≡ cond b (Ok w) (Err TooLarge) → (t ≡ w) × (b ≡ true)
is_within true t w e = (cc, refl)
is_within false t w e = absurd (cc)

is_past : {A : Type 0} (b : Bool) (e : TreeRefused) (w : A) → Err e ≡ cond b (Ok w) (Err TooLarge) → (e ≡ TooLarge) × (b ≡ false)
is_past true e w h = absurd (cc)
is_past false e w h = (cc, refl)

-- want of memory alone is free
abbrev pub IsTold : {A : Type 0} → Result A TreeRefused → Type 0
IsTold r = r ≡ Err Memory → ⊥

pub is_told : {A : Type 0} (t : A) → IsTold (Ok t)
is_told t h = cc

error_of : {A : Type 0} (r : Result A TreeRefused) (e : TreeRefused) → r ≡ Err e → r ≡ Err Memory → e ≡ Memory
error_of r e is h = cc

abbrev fits : Manifest → Facts → Bool
fits m J = nat_le (length (tree m J)) most_nodes

module _ (w : Workflow) (f : Fact) (K : Facts) (more : K ≡ w.facts ++ f ∷ []) where
  -- the tree is the meaning's, and within the bound
  pub tree_within : (t : Whole) → Ok t ≡ meant_whole w.manifest (answers K) → t ≡ whole w.manifest (answers K)
  tree_within t given = (is_within (fits w.manifest K) t (whole w.manifest (answers K)) given).0

  pub added_within : (t : Whole) (x : Workflow) → Ok t ≡ meant_whole w.manifest (answers K) → x ≡ record { manifest = w.manifest; facts = K } → Ok x ≡ added w f
  added_within t x given is =
      let within : fits w.manifest K ≡ true = (is_within (fits w.manifest K) t (whole w.manifest (answers K)) given).1 in
      let here : fits w.manifest (w.facts ++ f ∷ []) ≡ true = ap (fits w.manifest) (sym more) ∙ within in
      ap (λ (y : Workflow). Ok y) (is ∙ ap (λ (J : Facts). record { manifest = w.manifest; facts = J }) more)
      ∙ ap (λ (b : Bool). cond b (Ok (with_fact w f)) (Err TooLarge)) (sym here)

  past_by : (e : TreeRefused) → Err e ≡ meant_whole w.manifest (answers K) → Err e ≡ added w f
  past_by e given =
      let past = is_past (fits w.manifest K) e (whole w.manifest (answers K)) given in
      let here : fits w.manifest (w.facts ++ f ∷ []) ≡ false = ap (fits w.manifest) (sym more) ∙ past.1 in
      ap (λ (y : TreeRefused). Err y) past.0
      ∙ ap (λ (b : Bool). cond b (Ok (with_fact w f)) (Err TooLarge)) (sym here)

  -- or there are too many nodes
  pub added_past : (r : Result Workflow TreeRefused) (e : TreeRefused) → IsErrAnd r (λ z. z ≡ e) → ((s : Result Whole TreeRefused) → s ≡ Err e → IsTold s → s ≡ meant_whole w.manifest (answers K)) → IsTold r → r ≡ added w f
  added_past (Ok x) e is given told = absurd is
  added_past (Err z) e is given told =
      let is_memory : (s : Result Whole TreeRefused) → s ≡ Err e → s ≡ Err Memory → ⊥ = λ s same h. told (ap (λ (y : TreeRefused). Err y) (is ∙ error_of s e same h)) in
      ap (λ (y : TreeRefused). Err y) is ∙ past_by e (given (Err e) refl (is_memory (Err e) refl))

-- ---- the same of equal facts

tree_of : (m : Manifest) (J K : Facts) (t : Whole) → K ≡ J → t ≡ whole m (answers K) → IsTreeOf t m J
tree_of m J K t same is = record { meant = subst (λ (x : Facts). t ≡ whole m (answers x)) same is }

-- what is told of a workflow by its tree over one fact more is told of it over the facts that are kept
pub told_after : (Tells : Workflow → Type 0) (w : Workflow) (f : Fact) (K : Facts) (t : Whole) → K ≡ w.facts ++ f ∷ [] → Ok t ≡ meant_whole w.manifest (answers K) →
    (IsTreeOf t w.manifest (w.facts ++ f ∷ []) → Tells (with_fact w f)) → Tells record { manifest = w.manifest; facts = K }
told_after Tells w f K t more given told =
    subst (λ (x : Facts). Tells record { manifest = w.manifest; facts = x }) (sym more)
    (told (tree_of w.manifest (w.facts ++ f ∷ []) K t more (tree_within w f K more t given)))
