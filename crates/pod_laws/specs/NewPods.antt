-- Which pods a tree asks for once one fact more is recorded, beside those that it asked for before.
use Rattle.std.specs.Prelude.{◌≡◌, ◌≤◌, ◌+◌, ℕ, suc, Bool, false, List, [], ◌∷◌, ◌++◌, length, take, Option, None, option_map}
use Rattle.std.specs.List.{find}
use Rattle.tree_types.specs.declared.path.Path.{Path}
use Rattle.tree_types.specs.declared.node.Node.{Node}
use Rattle.tree_types.specs.declared.fact.Fact.{Fact}
use Rattle.tree_types.specs.declared.fact.Fact.TheVariants.{Settled, Carried, Begun}
use Rattle.tree_types.specs.declared.want.Want.{Want}
use Rattle.tree_types.specs.declared.want.Want.TheVariants as want
use Rattle.tree_types.specs.Places.{sels_eq}
use Rattle.wf_manifest.specs.declared.manifest.Manifest.{Manifest}
use Rattle.meaning.specs.Answers.{Sels, Facts}
use Rattle.meaning.specs.Trees.{tree, wants}
use Rattle.growth.specs.Growth.{Among}
use Rattle.tree_state.specs.Finding.{pods_in}

-- the pods that the tree of some facts asks for
abbrev pub pods : Manifest → Facts → List Want
pods m J = pods_in (wants m J)

-- the name of the node of a path
abbrev pub name_at : List Node → Sels → Option (List ℕ)
name_at ns p = option_map (λ n. n.name) (find (λ n. sels_eq n.path.sels p) ns)

-- each of the newer is among the older
abbrev pub NoneNew : List Want → List Want → Type 0
NoneNew newer older = (w : Want) → Among w newer → Among w older

-- of the newer one at the most is not among the older
abbrev pub OneNew : List Want → List Want → Type 0
OneNew newer older =
    (v w : Want) → Among v newer → Among w newer → (Among v older → ⊥) → (Among w older → ⊥) → v ≡ w

-- Where none of so many older ones from the first passes a test, and no new one passes it, none of one fewer of the newer ones
-- does: of the older ones one at the most is gone, and the others stand in their order.
abbrev pub KeepsFront : List Want → List Want → Type 0
KeepsFront newer older =
    (passes : Want → Bool) (n : ℕ) → find passes (take (suc n) older) ≡ None →
    ((w : Want) → Among w newer → (Among w older → ⊥) → passes w ≡ false) → find passes (take n newer) ≡ None

-- A fact that answers what is asked for: a pod that is settled was asked for. Of what is carried over, and of a task that
-- begins, nothing is said.
abbrev pub IsAnswer : Manifest → Facts → Fact → Type 0
IsAnswer m J (Settled p outcome) = Among (want.Pod p) (pods m J)
IsAnswer m J (Carried p outcome) = ⊥
IsAnswer m J (Begun p) = ⊥
IsAnswer m J _ = Unit {0}

-- how many pods it answers
abbrev pub answered : Fact → ℕ
answered (Settled p outcome) = 1
answered _ = 0

-- the pods that were asked for keep the names of their nodes
abbrev pub KeepsNames : Manifest → Facts → Facts → Type 0
KeepsNames m J K = (p : Path) → Among (want.Pod p) (pods m J) → name_at (tree m K) p.sels ≡ name_at (tree m J) p.sels

-- ---- the laws

-- where no more pods are asked for than are left of those before, they are these
abbrev pub NoneNewByCount : Type 0
NoneNewByCount =
    (m : Manifest) (J : Facts) (f : Fact) → IsAnswer m J f →
    answered f + length (pods m (J ++ f ∷ [])) ≤ length (pods m J) → NoneNew (pods m (J ++ f ∷ [])) (pods m J)

-- where one more is asked for, one at the most is new
abbrev pub OneNewByCount : Type 0
OneNewByCount =
    (m : Manifest) (J : Facts) (f : Fact) → IsAnswer m J f →
    answered f + length (pods m (J ++ f ∷ [])) ≤ length (pods m J) + 1 → OneNew (pods m (J ++ f ∷ [])) (pods m J)

-- they keep their names
abbrev pub NamesAreKept : Type 0
NamesAreKept = (m : Manifest) (J : Facts) (f : Fact) → IsAnswer m J f → KeepsNames m J (J ++ f ∷ [])

-- and of those in front of them one at the most is gone
abbrev pub FrontIsKept : Type 0
FrontIsKept = (m : Manifest) (J : Facts) (f : Fact) → IsAnswer m J f → KeepsFront (pods m (J ++ f ∷ [])) (pods m J)
