-- What is carried over is no start, and without a start the tree is its root alone.
use Rattle.std.proofs.Common.{◌≡◌, ◌<◌, ◌≤◌, ◌||◌, Bool, true, false, List, [], ◌∷◌, ◌++◌, length, Option, Some, None, option_and_then, filter_map, refl, ap, ◌∙◌, sym, subst, arith}
use Rattle.std.specs.List.{cons_option}
use Rattle.tree_types.specs.declared.fact.Fact.{Fact}
use Rattle.tree_types.specs.declared.fact.Fact.TheVariants.{Started}
use Rattle.tree_types.specs.declared.node.Node.{Node}
use Rattle.tree_types.specs.declared.node.Kind.{Kind}
use Rattle.tree_types.specs.declared.node.Kind.TheVariants as kind
use Rattle.tree_types.specs.declared.outcome.Outcome.{Outcome}
use Rattle.tree_types.specs.Journals.{is_alike, knows}
use Rattle.wf_manifest.specs.declared.manifest.Manifest.{Manifest}
use Rattle.meaning.specs.Answers.{Facts, answers}
use Rattle.meaning.specs.Trees.{tree, lines_by, nodes_in, most_nodes}
use Rattle.law.specs.Contents.{Flow}
use Rattle.law.specs.Justified.{tree_of, has_succeeded, outcome_in, carried_if, carried_pod, carried_by, carried_facts}
use Rattle.wf_object.specs.Inside.Closing.{TooLargeIn}

-- ---- no start

abbrev NoStart : Option Fact → Type 0
NoStart None = Unit {0}
NoStart (Some f) = knows (f ∷ []) Started ≡ false

if_none : (n : Node) (o : Outcome) (b : Bool) → has_succeeded n ≡ b → NoStart (carried_if n o)
if_none n o true e = rw e refl
if_none n o false e = rw e tt

pod_none : (n : Node) (o : Option Outcome) → NoStart (option_and_then (carried_if n) o)
pod_none n None = tt
pod_none n (Some o) = if_none n o (has_succeeded n) refl

kind_none : (J : Facts) (n : Node) (k : Kind) → NoStart (carried_pod J n k)
kind_none J n kind.Pod = pod_none n (outcome_in J n.path.sels)
kind_none J n kind.Steps = tt
kind_none J n kind.StepGroup = tt
kind_none J n kind.DAG = tt
kind_none J n kind.TaskGroup = tt
kind_none J n kind.Retry = tt
kind_none J n kind.Suspend = tt
kind_none J n kind.Skipped = tt

or_false : (a b : Bool) → (a || false) ≡ false → b ≡ false → (a || b) ≡ false
or_false true b h e = h
or_false false b h e = e

one_more : (x : Option Fact) (fs : Facts) → NoStart x → knows fs Started ≡ false → knows (cons_option x fs) Started ≡ false
one_more None fs h ih = ih
one_more (Some f) fs h ih = or_false (is_alike f Started) (knows fs Started) h ih

none_started : (J : Facts) (ns : List Node) → knows (filter_map (carried_by J) ns) Started ≡ false
none_started J [] = refl
none_started J (n ∷ ns) = one_more (carried_by J n) (filter_map (carried_by J) ns) (kind_none J n n.kind) (none_started J ns)

pub carried_unstarted : (memoized : Bool) (f : Flow) → knows (carried_facts memoized f) Started ≡ false
carried_unstarted false f = refl
carried_unstarted true f = none_started f.journal (tree_of f)

-- ---- the root alone

or_first : (a b : Bool) → (a || b) ≡ false → a ≡ false
or_first true b h = h
or_first false b h = refl

or_second : (a b : Bool) → (a || b) ≡ false → b ≡ false
or_second true b h = absurd (cc)
or_second false b h = h

both_false : (a b : Bool) → a ≡ false → b ≡ false → (a || b) ≡ false
both_false true b h e = h
both_false false b h e = e

front_unstarted : (front back : Facts) → knows (front ++ back) Started ≡ false → knows front Started ≡ false
front_unstarted [] back h = refl
front_unstarted (f ∷ front) back h =
    both_false (is_alike f Started) (knows front Started) (or_first (is_alike f Started) (knows (front ++ back) Started) h)
    (front_unstarted front back (or_second (is_alike f Started) (knows (front ++ back) Started) h))

one_node : (m : Manifest) (J : Facts) (b : Bool) → b ≡ false → length (nodes_in (lines_by m (answers J) b)) ≤ most_nodes
one_node m J false e = omega arith
one_node m J true e = absurd (cc)

-- so no list of facts that are carried over makes too large a tree
pub never_large : (m : Manifest) (J facts : Facts) → J ≡ [] → knows facts Started ≡ false → TooLargeIn m J facts → ⊥
never_large m J facts empty h t =
    let front : knows t.front Started ≡ false = front_unstarted t.front t.back (ap (λ (fs : Facts). knows fs Started) (sym t.parts) ∙ h) in
    let large : most_nodes < length (tree m t.front) = subst (λ (K : Facts). most_nodes < length (tree m (K ++ t.front))) empty t.large in
    let small : length (tree m t.front) ≤ most_nodes = one_node m t.front (knows t.front Started) front in
    omega arith
