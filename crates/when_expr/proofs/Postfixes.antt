-- Steps in postfix order build the condition that they are of.
use Rattle.std.specs.Prelude.{◌≡◌, ◌≤◌, List, [], ◌∷◌, ◌++◌, refl}
use Rattle.std.proofs.Common.{ap, sym, ◌∙◌, append_assoc, append-nil}
use Rattle.when_expr.specs.declared.steps.Step.{Step}
use Rattle.when_expr.specs.declared.steps.Step.TheVariants.{Test, Not, And, Or}
use Rattle.when_expr.specs.declared.steps.Comparison.{Comparison}
use Rattle.when_expr.specs.declared.steps.Comparison.TheVariants as o
use Rattle.when_expr.specs.declared.steps.Side.{Side}
use Rattle.when_expr.specs.declared.steps.Side.TheVariants as s
use Rattle.when_expr.specs.Expression.{Order, equal, unequal, below, at_most, above, at_least, Term, quoted, word, Condition, literal, test, negated, all_of, any_of}
use Rattle.when_expr.specs.Inside.Postfix.{order_of, comparison_of, term_of, side_of, postfix, built, top, condition_of, peak, IsWhole}

pub order_again : (o : Order) → order_of (comparison_of o) ≡ o
order_again equal = refl
order_again unequal = refl
order_again below = refl
order_again at_most = refl
order_again above = refl
order_again at_least = refl

pub term_again : (t : Term) → term_of (side_of t) ≡ t
term_again (quoted t) = refl
term_again (word t) = refl

pub built_postfix : (e : Condition) (rest : List Step) (es : List Condition) → built (postfix e ++ rest) es ≡ built rest (e ∷ es)
built_postfix (literal b) rest es = refl
built_postfix (test l o r) rest es = λ i. built rest (test (term_again l i) (order_again o i) (term_again r i) ∷ es)
built_postfix (negated e) rest es = ap (λ x. built x es) (append_assoc (postfix e) (Not ∷ []) rest) ∙ built_postfix e (Not ∷ rest) es
built_postfix (all_of d e) rest es =
    ap (λ x. built x es) (append_assoc (postfix d) (postfix e ++ And ∷ []) rest ∙ ap (λ x. postfix d ++ x) (append_assoc (postfix e) (And ∷ []) rest))
    ∙ built_postfix d (postfix e ++ (And ∷ rest)) es ∙ built_postfix e (And ∷ rest) (d ∷ es)
built_postfix (any_of d e) rest es =
    ap (λ x. built x es) (append_assoc (postfix d) (postfix e ++ Or ∷ []) rest ∙ ap (λ x. postfix d ++ x) (append_assoc (postfix e) (Or ∷ []) rest))
    ∙ built_postfix d (postfix e ++ (Or ∷ rest)) es ∙ built_postfix e (Or ∷ rest) (d ∷ es)

-- the steps of an condition are its steps alone
pub condition_again : (steps : List Step) (e : Condition) → steps ≡ postfix e → condition_of steps ≡ e
condition_again steps e p = ap condition_of (p ∙ sym (append-nil (postfix e))) ∙ ap top (built_postfix e [] [])

-- steps that are those of an condition
abbrev pub AreSteps : List Step → Type 0
AreSteps steps = steps ≡ postfix (condition_of steps)

abbrev pub Build : List Step → Condition → Type 0
Build steps e = AreSteps steps × (condition_of steps ≡ e)

pub are_steps : (steps : List Step) (e : Condition) → steps ≡ postfix e → Build steps e
are_steps steps e p = (p ∙ ap postfix (sym (condition_again steps e p)), condition_again steps e p)

pub negated_steps : (a c : List Step) → AreSteps a → c ≡ a ++ Not ∷ [] → Build c (negated (condition_of a))
negated_steps a c h p = are_steps c _ (p ∙ ap (λ x. x ++ Not ∷ []) h)

pub all_steps : (a b c : List Step) → AreSteps a → AreSteps b → c ≡ a ++ (b ++ And ∷ []) → Build c (all_of (condition_of a) (condition_of b))
all_steps a b c g h p = are_steps c _ (p ∙ λ i. g i ++ (h i ++ And ∷ []))

pub any_steps : (a b c : List Step) → AreSteps a → AreSteps b → c ≡ a ++ (b ++ Or ∷ []) → Build c (any_of (condition_of a) (condition_of b))
any_steps a b c g h p = are_steps c _ (p ∙ λ i. g i ++ (h i ++ Or ∷ []))

side_again : (s : Side) → side_of (term_of s) ≡ s
side_again (s.Quoted t) = refl
side_again (s.Word t) = refl

comparison_again : (c : Comparison) → comparison_of (order_of c) ≡ c
comparison_again o.Equal = refl
comparison_again o.Unequal = refl
comparison_again o.Below = refl
comparison_again o.AtMost = refl
comparison_again o.Above = refl
comparison_again o.AtLeast = refl

pub test_steps : (c : List Step) (l : Side) (m : Comparison) (r : Side) → c ≡ Test l m r ∷ [] → Build c (test (term_of l) (order_of m) (term_of r))
test_steps c l m r p = are_steps c _ (p ∙ λ i. Test (sym (side_again l) i) (sym (comparison_again m) i) (sym (side_again r) i) ∷ [])

pub draft_whole : (xs : List Step) → AreSteps xs → peak (condition_of xs) ≤ 131 → IsWhole xs
draft_whole xs a l = record { whole = a; low = l }
