-- What a task's `depends` says: an expression over the results of other tasks (Argo's enhanced depends logic).
use Rattle.std.specs.Prelude.{◌≡◌, ℕ, zero, suc, List, refl}
use Rattle.std.proofs.Common.{ap}
use base.Stored.{Gv, gnil, gnum, gcons, Coded}
use Rattle.base_types.specs.Coding.{coded_by_tree, bytes_tree, tree_bytes, bytes_back}

-- a result of a task
pub data Word : Type 0 where
  succeeded : Word
  failed : Word
  errored : Word
  skipped : Word
  omitted : Word
  daemoned : Word
  any_succeeded : Word
  all_failed : Word

-- a task's name alone, a task's result, and the connectives
pub data Expression : Type 0 where
  bare : List ℕ → Expression
  has : List ℕ → Word → Expression
  negation : Expression → Expression
  both : Expression → Expression → Expression
  either : Expression → Expression → Expression

-- ---- the code by which contracts tell expressions apart

abbrev pub word_number : Word → ℕ
word_number succeeded = 0
word_number failed = 1
word_number errored = 2
word_number skipped = 3
word_number omitted = 4
word_number daemoned = 5
word_number any_succeeded = 6
word_number all_failed = 7

abbrev pub number_word : ℕ → Word
number_word zero = succeeded
number_word (suc zero) = failed
number_word (suc (suc zero)) = errored
number_word (suc (suc (suc zero))) = skipped
number_word (suc (suc (suc (suc zero)))) = omitted
number_word (suc (suc (suc (suc (suc zero))))) = daemoned
number_word (suc (suc (suc (suc (suc (suc zero)))))) = any_succeeded
number_word _ = all_failed

pub word_back : (w : Word) → number_word (word_number w) ≡ w
word_back succeeded = refl
word_back failed = refl
word_back errored = refl
word_back skipped = refl
word_back omitted = refl
word_back daemoned = refl
word_back any_succeeded = refl
word_back all_failed = refl

abbrev pub expression_tree : Expression → Gv
expression_tree (bare n) = gcons (gnum 0) (bytes_tree n)
expression_tree (has n w) = gcons (gnum 1) (gcons (gnum (word_number w)) (bytes_tree n))
expression_tree (negation e) = gcons (gnum 2) (expression_tree e)
expression_tree (both d e) = gcons (gnum 3) (gcons (expression_tree d) (expression_tree e))
expression_tree (either d e) = gcons (gnum 4) (gcons (expression_tree d) (expression_tree e))

abbrev pub tree_expression : Gv → Expression
tree_expression (gcons (gnum (suc zero)) (gcons (gnum w) n)) = has (tree_bytes n) (number_word w)
tree_expression (gcons (gnum (suc (suc zero))) e) = negation (tree_expression e)
tree_expression (gcons (gnum (suc (suc (suc zero)))) (gcons d e)) = both (tree_expression d) (tree_expression e)
tree_expression (gcons (gnum (suc (suc (suc (suc zero))))) (gcons d e)) = either (tree_expression d) (tree_expression e)
tree_expression (gcons _ n) = bare (tree_bytes n)
tree_expression _ = bare (tree_bytes gnil)

pub expression_back : (e : Expression) → tree_expression (expression_tree e) ≡ e
expression_back (bare n) = ap bare (bytes_back n)
expression_back (has n w) = λ i. has (bytes_back n i) (word_back w i)
expression_back (negation e) = ap negation (expression_back e)
expression_back (both d e) = λ i. both (expression_back d i) (expression_back e i)
expression_back (either d e) = λ i. either (expression_back d i) (expression_back e i)

abbrev pub expression_code : Coded Expression
expression_code = coded_by_tree expression_tree tree_expression expression_back
