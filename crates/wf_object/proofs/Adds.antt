-- What is answered where a fact is added.
use Rattle.std.proofs.Common.{◌≡◌, ◌≤◌, ◌++◌, false, [], ◌∷◌, length, Result, Ok, Err, sym, ap, ◌∙◌, subst, append_assoc}
use Rattle.std.specs.Prelude.{IsErrAnd}
use Rattle.tree_types.specs.declared.fact.Fact.{Fact}
use Rattle.tree_types.specs.Journals.{knows}
use Rattle.wf_manifest.specs.declared.manifest.Manifest.{Manifest}
use Rattle.meaning.specs.Answers.{Facts}
use Rattle.meaning.specs.Trees.{tree, most_nodes, Closes}
use Rattle.tree_state.specs.declared.refused.TreeRefused.{TreeRefused}
use Rattle.tree_state.specs.declared.refused.TreeRefused.TheVariants.{TooLarge, Memory}
use Rattle.tree_incr.specs.Workflows.{Workflow, with_fact, added}
use Rattle.law.specs.Contents.{Flow, flow}
use Rattle.law.specs.Justified.{Adds}
use Rattle.law.specs.Due.{here, IsTooLarge}
use Rattle.wf_object.specs.Inside.Closing.{Closed, Passes, CloseGives}
use Rattle.wf_object.specs.Added.{AddGives}
use Rattle.wf_object.proofs.Bounds.{past_given, added_is, added_past}

abbrev flow_of : Workflow → Flow
flow_of w = flow w.manifest w.facts

module _ (w : Workflow) (x : Fact) where
  pub first_large : Err TooLarge ≡ added w x → IsTooLarge (flow_of w) x
  first_large given = record { after = w.facts ++ x ∷ []; way = here; large = added_past w x given }

  module _ (s : Workflow) (is : s ≡ with_fact w x) where
    pub later_large : Passes s → IsTooLarge (flow_of w) x
    later_large p =
        let at : Passes (with_fact w x) = subst Passes is p in
        record { after = at.after; way = at.way; large = at.large }

    module _ (t : Workflow) (facts : Facts) (c : Closed s t (x ∷ []) facts) where
      at : Closed (with_fact w x) t (x ∷ []) facts
      at = subst (λ (v : Workflow). Closed v t (x ∷ []) facts) is c

      journal : t.facts ≡ w.facts ++ facts
      journal = at.journal ∙ append_assoc w.facts (x ∷ []) at.beginnings ∙ ap (λ (J : Facts). w.facts ++ J) (sym at.behind)

      pub adds : knows w.facts x ≡ false → Adds (flow_of w) x facts
      adds new = record {
        beginnings = at.beginnings;
        parts = at.behind;
        closes = subst (Closes w.manifest (w.facts ++ x ∷ [])) journal at.closes;
        fits = subst (λ (J : Facts). length (tree w.manifest J) ≤ most_nodes) journal (subst (λ (m : Manifest). length (tree m t.facts) ≤ most_nodes) at.manifest at.fits);
        is_new = new;
      }

      pub manifest_same : t.manifest ≡ w.manifest
      manifest_same = at.manifest

      pub flow_after : flow t.manifest t.facts ≡ flow w.manifest (w.facts ++ facts)
      flow_after = ap (λ (m : Manifest). flow m t.facts) at.manifest ∙ ap (flow w.manifest) journal

-- ---- for a workflow that is seen so

module _ (f : Flow) (w : Workflow) (seen : flow_of w ≡ f) (x : Fact) where
  pub add_err : (e : TreeRefused) → ((◌≡◌ {A = Result Workflow TreeRefused} (Err e) (Err Memory) → ⊥) → Err e ≡ added w x) → (r : Result (Flow × Facts) TreeRefused) → IsErrAnd r (λ z. z ≡ e) → AddGives f x r
  add_err e given (Ok y) is = absurd is
  add_err e given (Err TooLarge) is = subst (λ (g : Flow). IsTooLarge g x) seen (first_large w x (past_given e (added w x) (sym is) given))
  add_err e given (Err Memory) is = tt

  module _ (s : Workflow) (given : Ok s ≡ added w x) (told : Facts) where
    pub close_err : (e : TreeRefused) → CloseGives s told (Err e) → (r : Result (Flow × Facts) TreeRefused) → IsErrAnd r (λ z. z ≡ e) → AddGives f x r
    close_err e closes (Ok y) is = absurd is
    close_err e closes (Err TooLarge) is =
        let passes : CloseGives s told (Err TooLarge) = subst (λ (z : TreeRefused). CloseGives s told (Err z)) (sym is) closes in
        subst (λ (g : Flow). IsTooLarge g x) seen (later_large w x s (added_is w x s given) passes)
    close_err e closes (Err Memory) is = tt

    module _ (is_told : told ≡ x ∷ []) (t : Workflow) (facts : Facts) (c : Closed s t told facts) where
      behind : Closed s t (x ∷ []) facts
      behind = subst (λ (l : Facts). Closed s t l facts) is_told c

      pub close_same : t.manifest ≡ f.manifest
      close_same = manifest_same w x s (added_is w x s given) t facts behind ∙ ap (λ (g : Flow). g.manifest) seen

      pub close_ok : knows f.journal x ≡ false → (o : Flow) → o ≡ flow t.manifest t.facts → Adds f x facts × (o ≡ flow f.manifest (f.journal ++ facts))
      close_ok new o is =
          let known : knows w.facts x ≡ false = ap (λ (g : Flow). knows g.journal x) seen ∙ new in (
            subst (λ (g : Flow). Adds g x facts) seen (adds w x s (added_is w x s given) t facts behind known),
            is ∙ flow_after w x s (added_is w x s given) t facts behind ∙ ap (λ (g : Flow). flow g.manifest (g.journal ++ facts)) seen,
          )
