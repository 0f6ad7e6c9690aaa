-- Steps in postfix order build the expression that they are of.
use Rattle.std.specs.Prelude.{◌≡◌, ℕ, List, [], ◌∷◌, ◌++◌, refl}
use Rattle.std.proofs.Common.{ap, sym, ◌∙◌, append_assoc, append-nil}
use Rattle.depends_expr.specs.declared.steps.Step.{Step}
use Rattle.depends_expr.specs.declared.steps.Step.TheVariants.{Not, And, Or}
use Rattle.depends_expr.specs.Expression.{Word, succeeded, failed, errored, skipped, omitted, daemoned, any_succeeded, all_failed, Expression, bare, has, negation, both, either}
use Rattle.depends_expr.specs.Inside.Postfix.{word_of, outcome_of, postfix, built, top, expression_of}

pub word_again : (w : Word) → word_of (outcome_of w) ≡ w
word_again succeeded = refl
word_again failed = refl
word_again errored = refl
word_again skipped = refl
word_again omitted = refl
word_again daemoned = refl
word_again any_succeeded = refl
word_again all_failed = refl

pub built_postfix : (e : Expression) (rest : List (Step (List ℕ))) (es : List Expression) → built (postfix e ++ rest) es ≡ built rest (e ∷ es)
built_postfix (bare n) rest es = refl
built_postfix (has n w) rest es = ap (λ x. built rest (has n x ∷ es)) (word_again w)
built_postfix (negation e) rest es = ap (λ x. built x es) (append_assoc (postfix e) (Not ∷ []) rest) ∙ built_postfix e (Not ∷ rest) es
built_postfix (both d e) rest es =
    ap (λ x. built x es) (append_assoc (postfix d) (postfix e ++ And ∷ []) rest ∙ ap (λ x. postfix d ++ x) (append_assoc (postfix e) (And ∷ []) rest))
    ∙ built_postfix d (postfix e ++ (And ∷ rest)) es ∙ built_postfix e (And ∷ rest) (d ∷ es)
built_postfix (either d e) rest es =
    ap (λ x. built x es) (append_assoc (postfix d) (postfix e ++ Or ∷ []) rest ∙ ap (λ x. postfix d ++ x) (append_assoc (postfix e) (Or ∷ []) rest))
    ∙ built_postfix d (postfix e ++ (Or ∷ rest)) es ∙ built_postfix e (Or ∷ rest) (d ∷ es)

-- the steps of an expression are its steps alone
pub expression_again : (steps : List (Step (List ℕ))) (e : Expression) → steps ≡ postfix e → expression_of steps ≡ e
expression_again steps e p = ap expression_of (p ∙ sym (append-nil (postfix e))) ∙ ap top (built_postfix e [] [])

-- steps that are those of an expression
abbrev pub AreSteps : List (Step (List ℕ)) → Type 0
AreSteps steps = steps ≡ postfix (expression_of steps)

abbrev pub Build : List (Step (List ℕ)) → Expression → Type 0
Build steps e = AreSteps steps × (expression_of steps ≡ e)

pub are_steps : (steps : List (Step (List ℕ))) (e : Expression) → steps ≡ postfix e → Build steps e
are_steps steps e p = (p ∙ ap postfix (sym (expression_again steps e p)), expression_again steps e p)

pub negation_steps : (a c : List (Step (List ℕ))) → AreSteps a → c ≡ a ++ Not ∷ [] → Build c (negation (expression_of a))
negation_steps a c h p = are_steps c _ (p ∙ ap (λ x. x ++ Not ∷ []) h)

pub both_steps : (a b c : List (Step (List ℕ))) → AreSteps a → AreSteps b → c ≡ a ++ (b ++ And ∷ []) → Build c (both (expression_of a) (expression_of b))
both_steps a b c g h p = are_steps c _ (p ∙ λ i. g i ++ (h i ++ And ∷ []))

pub either_steps : (a b c : List (Step (List ℕ))) → AreSteps a → AreSteps b → c ≡ a ++ (b ++ Or ∷ []) → Build c (either (expression_of a) (expression_of b))
either_steps a b c g h p = are_steps c _ (p ∙ λ i. g i ++ (h i ++ Or ∷ []))
