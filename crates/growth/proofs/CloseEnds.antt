-- A loop that closes a journal ends, or passes the bound on the nodes.
use Rattle.std.proofs.Common.{◌≡◌, refl, ◌∙◌, ap, ◌⊎◌, ◌+◌, ◌≤◌, ◌<◌, arith, length}
use Rattle.std.proofs.Math.Logic.{inl, inr}
use Rattle.std.specs.Prelude.{ℕ, zero, suc, List, [], ◌∷◌}
use Rattle.std.proofs.lemmas.List.{length-append}
use Rattle.tree_types.specs.declared.path.Path.{Path}
use Rattle.tree_types.specs.declared.fact.Fact.TheVariants.{Begun}
use Rattle.wf_manifest.specs.declared.manifest.Manifest.{Manifest}
use Rattle.meaning.specs.Answers.{Facts}
use Rattle.meaning.specs.Trees.{most_nodes, tree, beginnings, begin_at, Closes, closed, begins}
use Rattle.growth.specs.Writes.{IsSubmission, OneByOne, stay, begins_first, begun_paths, BeginsInTurn, none_yet, one_more, EndsWithin, BeginningsAddNodes, CloseEnds}
use Rattle.growth.proofs.GrowingJournals.{steps_then}
use Rattle.growth.proofs.BegunAreNodes.{paths_last, begun_are_nodes}

one_longer : (J : Facts) (p : Path) → length (begun_paths (begin_at J p)) ≡ length (begun_paths J) + 1
one_longer J p = ap length (paths_last J (Begun p)) ∙ length-append (begun_paths J) (p ∷ [])

module _ (m : Manifest) (S : Facts) (s : IsSubmission S) where
  next_steps : (J : Facts) (p : Path) (ps : List Path) → beginnings m J ≡ p ∷ ps → OneByOne m S J → OneByOne m S (begin_at J p)
  next_steps J p ps e t = steps_then m S J (begin_at J p) t (begins_first p ps e stay)

  add_nodes : (J K : Facts) (n : ℕ) → OneByOne m S J → BeginsInTurn m n J K → length (begun_paths J) + n ≤ length (tree m K)
  add_nodes J K zero t none_yet = let h : length (begun_paths J) ≤ length (tree m J) = begun_are_nodes m S J s t in omega arith
  add_nodes J K (suc n) t (one_more {p = p} {ps = ps} e b) =
      let h : length (begun_paths (begin_at J p)) + n ≤ length (tree m K) = add_nodes (begin_at J p) K n (next_steps J p ps e t) b in
      let c : length (begun_paths (begin_at J p)) ≡ length (begun_paths J) + 1 = one_longer J p in
      omega arith

  one_before : (J : Facts) (p : Path) (ps : List Path) (n : ℕ) → beginnings m J ≡ p ∷ ps → EndsWithin m n (begin_at J p) → EndsWithin m (suc n) J
  one_before J p ps n e x = record {
    count = suc x.count;
    few = (let h : x.count ≤ n = x.few in omega arith);
    reached = x.reached;
    begins = one_more e x.begins;
    ends = go x.ends;
  }
    where
      go : Closes m (begin_at J p) x.reached ⊎ (most_nodes < length (tree m x.reached)) → Closes m J x.reached ⊎ (most_nodes < length (tree m x.reached))
      go (inl c) = inl (begins e c)
      go (inr h) = inr h

  at_once : (J : Facts) (n : ℕ) → Closes m J J ⊎ (most_nodes < length (tree m J)) → EndsWithin m n J
  at_once J n h = record { count = 0; few = omega arith; reached = J; begins = none_yet; ends = h }

  -- of n more beginnings the last passes the bound
  ends_within : (n : ℕ) (J : Facts) → OneByOne m S J → most_nodes < length (begun_paths J) + n → EndsWithin m n J
  ends_within zero J t h =
      let k : length (begun_paths J) ≤ length (tree m J) = begun_are_nodes m S J s t in
      at_once J zero (inr (omega arith))
  ends_within (suc n) J t h = go (beginnings m J) refl (λ p ps e. ends_within n (begin_at J p) (next_steps J p ps e t) (let c : length (begun_paths (begin_at J p)) ≡ length (begun_paths J) + 1 = one_longer J p in omega arith))
    where
      go : (bs : List Path) → beginnings m J ≡ bs → ((p : Path) (ps : List Path) → beginnings m J ≡ p ∷ ps → EndsWithin m n (begin_at J p)) → EndsWithin m (suc n) J
      go [] e f = at_once J (suc n) (inl (closed e))
      go (p ∷ ps) e f = one_before J p ps n e (f p ps e)

pub beginnings_add_nodes : BeginningsAddNodes
beginnings_add_nodes m S J K n s t b = let h : length (begun_paths J) + n ≤ length (tree m K) = add_nodes m S s J K n t b in omega arith

pub close_ends : CloseEnds
close_ends m S J s t = ends_within m S s (most_nodes + 1) J t (omega arith)
