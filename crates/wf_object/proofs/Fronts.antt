-- A list of facts that is added, fact by fact.
use Rattle.std.proofs.Common.{◌≡◌, ℕ, ◌+◌, ◌<◌, ◌++◌, [], ◌∷◌, length, take, drop, get_or, Ok, Err, refl, sym, ap, ◌∙◌, subst, append_assoc}
use Rattle.std.proofs.lemmas.List.{take_more, take-append-drop}
use Rattle.tree_types.specs.declared.fact.Fact.{Fact}
use Rattle.wf_manifest.specs.declared.manifest.Manifest.{Manifest}
use Rattle.meaning.specs.Answers.{Facts}
use Rattle.meaning.specs.Trees.{tree, most_nodes}
use Rattle.tree_state.specs.declared.refused.TreeRefused.TheVariants.{TooLarge}
use Rattle.tree_incr.specs.Workflows.{Workflow, with_fact, added}
use Rattle.wf_object.specs.Inside.Closing.{TooLargeIn}
use Rattle.wf_object.proofs.Bounds.{added_is, added_past}

-- this front of the facts is added
pub record Fronted (from state : Workflow) (front : Facts) : Type 0 where
  pub manifest : state.manifest ≡ from.manifest
  pub facts : state.facts ≡ from.facts ++ front

module _ (from state : Workflow) (front : Facts) (f : Fact) (a : Fronted from state front) where
  journal : state.facts ++ f ∷ [] ≡ from.facts ++ (front ++ f ∷ [])
  journal = ap (λ (J : Facts). J ++ f ∷ []) a.facts ∙ append_assoc from.facts front (f ∷ [])

  pub one_more : (next : Workflow) → Ok next ≡ added state f → Fronted from next (front ++ f ∷ [])
  one_more next given =
      let is : next ≡ with_fact state f = added_is state f next given in
      record { manifest = ap (λ (w : Workflow). w.manifest) is ∙ a.manifest; facts = ap (λ (w : Workflow). w.facts) is ∙ journal }

  pub too_large : (back : Facts) → Err TooLarge ≡ added state f → TooLargeIn from.manifest from.facts ((front ++ f ∷ []) ++ back)
  too_large back given =
      let past : most_nodes < length (tree state.manifest (state.facts ++ f ∷ [])) = added_past state f given in
      let named : most_nodes < length (tree from.manifest (state.facts ++ f ∷ [])) = subst (λ (m : Manifest). most_nodes < length (tree m (state.facts ++ f ∷ []))) a.manifest past in
      record { front = front ++ f ∷ []; back = back; parts = refl; large = subst (λ (J : Facts). most_nodes < length (tree from.manifest J)) journal named }

pub next_front : (fs : Facts) (i : ℕ) (item f : Fact) → i < length fs → item ≡ get_or fs i item → f ≡ item → take i fs ++ f ∷ [] ≡ take (i + 1) fs
next_front fs i item f h e same = ap (λ (x : Fact). take i fs ++ x ∷ []) (same ∙ e) ∙ sym (take_more fs i item h)

-- a front of a list that was added, and one fact of it that makes too large a tree
pub large_at : (from state : Workflow) (fs : Facts) (i : ℕ) (item f : Fact) → Fronted from state (take i fs) → i < length fs → item ≡ get_or fs i item → f ≡ item → Err TooLarge ≡ added state f → TooLargeIn from.manifest from.facts fs
large_at from state fs i item f a h e same given =
    let all : (take i fs ++ f ∷ []) ++ drop (i + 1) fs ≡ fs = ap (λ (xs : Facts). xs ++ drop (i + 1) fs) (next_front fs i item f h e same) ∙ take-append-drop (i + 1) fs in
    subst (TooLargeIn from.manifest from.facts) all (too_large from state (take i fs) f a (drop (i + 1) fs) given)
