-- The nodes of a tree stand in the order of their paths.
use Rattle.std.proofs.Common.{◌≡◌, ℕ, ◌≤◌, refl, sym, ◌∙◌, ap, ap₂, true≢false}
use Rattle.std.proofs.Math.Logic.{inl, inr}
use Rattle.std.proofs.lemmas.List.{append_assoc, append-nil}
use Rattle.std.specs.Prelude.{suc, List, [], ◌∷◌, ◌++◌, Bool, true, false, Option, Some, None}
use Rattle.tree_types.specs.declared.path.Path.{Path}
use Rattle.tree_types.specs.declared.path.Sel.TheVariants.{Main, Exit}
use Rattle.tree_types.specs.declared.node.Node.{Node}
use Rattle.wf_manifest.specs.declared.calls.Call.{Call}
use Rattle.wf_manifest.specs.declared.calls.Task.{Task}
use Rattle.wf_manifest.specs.declared.templates.Body.{Body}
use Rattle.wf_manifest.specs.declared.templates.Body.TheVariants as body
use Rattle.wf_manifest.specs.declared.templates.Retry.{Retry}
use Rattle.wf_manifest.specs.declared.templates.Template.{Template}
use Rattle.meaning.specs.declared.lines.Place.{Place}
use Rattle.meaning.specs.declared.lines.Line.{Line}
use Rattle.meaning.specs.declared.lines.Line.TheVariants.{Stands, Asks, MayBegin}
use Rattle.meaning.specs.Answers.{Sels}
use Rattle.meaning.specs.Pods.{further}
use Rattle.meaning.specs.Trees.{root, lines, nodes_in}
use Rattle.growth.specs.Growth.{Among}
use Rattle.growth.proofs.Lines.{Any}
use Rattle.growth.proofs.Keeping.{At}
use Rattle.growth.proofs.Geometry.{Descent, down, Geometry, IsSame, Apart, Kin, kin_numbers}
use Rattle.growth.proofs.SoundBodies.{attempt_step, tries, group_step, member_step, task_step, StepsFit, AttemptsFit}
use Rattle.growth.proofs.SoundCalls.{BodyFits, TemplatesFit, lines_whole}
use Rattle.tree_order.specs.Order.{sel_before, path_before, InOrder, paths_of, NodesInOrder}
use Rattle.tree_order.proofs.Paths.{behind_front, child_before, exit_last, less}

-- at the place or below it
abbrev Below : Place → Node → Type 0
Below p n = (r : Sels) × (n.path.sels ≡ p.sels ++ r)

-- the first does not stand before the second
abbrev NotBefore : Node → Node → Type 0
NotBefore n k = path_before n.path.sels k.path.sels ≡ false

abbrev Before : Descent → Descent → Type 0
Before s t = sel_before s.0 t.0 ≡ true

at_path : (p : Place) (n : Node) → At p n → n.path.sels ≡ p.sels ++ []
at_path p n a = ap (λ (x : Path). x.sels) a.path ∙ sym (append-nil p.sels)

below_child : (p : Place) (s : Descent) (n : Node) → Below (down p s) n → (r : Sels) × (n.path.sels ≡ p.sels ++ s.0 ∷ r)
below_child p s n h = (h.0, h.1 ∙ append_assoc p.sels (s.0 ∷ []) h.0)

-- two nodes below a place stand as what is behind it
behind : (p a b : Sels) (n k : Node) → n.path.sels ≡ p ++ a → k.path.sels ≡ p ++ b → path_before a b ≡ true → NotBefore n k → ⊥
behind p a b n k e f is not =
    true≢false (sym is ∙ sym (behind_front p a b) ∙ sym (ap₂ path_before e f) ∙ not)

pub order : Geometry
order = record {
  Below = Below;
  Same = NotBefore;
  Fits = λ s. Unit {0};
  Differ = Before;
  here = λ p n a. ([], at_path p n a);
  child = λ p s n f h. (let a = below_child p s n h in (s.0 ∷ a.0, a.1));
  apart = λ p s t n k f g d h i e. (let a = below_child p s n h in let b = below_child p t k i in behind p.sels (s.0 ∷ a.0) (t.0 ∷ b.0) n k a.1 b.1 (child_before s.0 t.0 a.0 b.0 d) e);
  above = λ p s n k f a h e. (let b = below_child p s k h in behind p.sels [] (s.0 ∷ b.0) n k (at_path p n a) b.1 refl e);
  exit = tt;
  leaves = λ s e f. exit_last s.0 e;
  groups = λ i j l. less i j l;
  item = λ i d l. tt;
  items = λ i j c d l. less i j l;
  attempts = λ i j l. less i j l;
  roots = λ m n k a h e. behind [] (Main ∷ []) (Exit ∷ h.0) n k (at_path (root m) n a) h.1 refl e;
  under_roots = λ m s n k f g h i e. (let a = below_child (root m) s n h in behind [] (Main ∷ s.0 ∷ a.0) (Exit ∷ i.0) n k a.1 i.1 refl e);
}

-- ---- each manifest fits

module _ {X : Type 0} (step : ℕ → X → Descent) (apart : (i j : ℕ) (x y : X) → suc i ≤ j → Before (step i x) (step j y)) where
  numbers_fit : (i : ℕ) (xs : List X) → Kin order step i xs
  unfolding order
  numbers_fit i xs = kin_numbers order step (λ j x. tt) apart i xs

members_fit : (i : ℕ) (cs : List Call) → Kin order member_step i cs
members_fit i cs = numbers_fit member_step (λ j k c d l. less j k l) i cs

tasks_fit : (i : ℕ) (ts : List Task) → Kin order task_step i ts
tasks_fit i ts = numbers_fit task_step (λ j k c d l. less j k l) i ts

groups_fit : (i : ℕ) (gs : List (List Call)) → Kin order group_step i gs
groups_fit i gs = numbers_fit group_step (λ j k c d l. less j k l) i gs

attempts_fit : (r : Retry) → Kin order attempt_step 0 (tries (further r))
attempts_fit r = numbers_fit attempt_step (λ j k c d l. less j k l) 0 (tries (further r))

steps_fit : (gs : List (List Call)) → StepsFit order gs
steps_fit [] = tt
steps_fit (cs ∷ gs) = (members_fit 0 cs, steps_fit gs)

body_fits : (b : Body) → BodyFits order b
body_fits body.Pod = tt
body_fits (body.Steps gs) = (steps_fit gs, groups_fit 0 gs)
body_fits (body.Dag d) = tasks_fit 0 d.tasks
body_fits (body.Suspend o) = tt

retry_fits : (o : Option Retry) → AttemptsFit order o
retry_fits None = tt
retry_fits (Some r) = attempts_fit r

all_fit : (ts : List Template) → TemplatesFit order ts
all_fit [] = tt
all_fit (t ∷ ts) = ((body_fits t.body, retry_fits t.retry), all_fit ts)

-- ---- the nodes stand in order

not_before : (n : Node) (ls : List Line) (q : Sels) → Among q (paths_of (nodes_in ls)) → path_before n.path.sels q ≡ false → Any (IsSame order n) ls
unfolding order
not_before n [] q a e = a
not_before n (Stands k ∷ ls) q (inl s) e = inl (ap (path_before n.path.sels) s ∙ e)
not_before n (Stands k ∷ ls) q (inr a) e = inr (not_before n ls q a e)
not_before n (Asks w ∷ ls) q a e = inr (not_before n ls q a e)
not_before n (MayBegin p ∷ ls) q a e = inr (not_before n ls q a e)

stands_before : (n : Node) (ls : List Line) (q : Sels) → (Any (IsSame order n) ls → ⊥) → Among q (paths_of (nodes_in ls)) → (b : Bool) → path_before n.path.sels q ≡ b → b ≡ true
stands_before n ls q apart a true e = refl
stands_before n ls q apart a false e = absurd (apart (not_before n ls q a e))

in_order : (ls : List Line) → Apart order ls → InOrder (paths_of (nodes_in ls))
in_order [] h = tt
in_order (Stands n ∷ ls) h = ((λ q a. stands_before n ls q h.0 a (path_before n.path.sels q) refl), in_order ls h.1)
in_order (Asks w ∷ ls) h = in_order ls h.1
in_order (MayBegin p ∷ ls) h = in_order ls h.1

pub nodes_in_order : NodesInOrder
nodes_in_order m A = in_order (lines m A) (lines_whole order A m (all_fit m.templates)).apart
