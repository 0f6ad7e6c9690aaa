-- What a `when` says (the language of these conditions is this project's own; Argo's `when` takes more).
use Rattle.std.specs.Prelude.{◌≡◌, ℕ, zero, suc, List, Bool, true, false, refl}
use Rattle.std.proofs.Common.{ap}
use base.Stored.{Gv, gnil, gnum, gcons, Coded}
use Rattle.base_types.specs.Coding.{coded_by_tree, bytes_tree, tree_bytes, bytes_back}

pub data Order : Type 0 where
  equal : Order
  unequal : Order
  below : Order
  at_most : Order
  above : Order
  at_least : Order

-- a side of a test: quoted text, or a word
pub data Term : Type 0 where
  quoted : List ℕ → Term
  word : List ℕ → Term

-- `true` or `false`, a test of two terms, and the connectives
pub data Condition : Type 0 where
  literal : Bool → Condition
  test : Term → Order → Term → Condition
  negated : Condition → Condition
  all_of : Condition → Condition → Condition
  any_of : Condition → Condition → Condition

-- ---- the code by which contracts tell conditions apart

abbrev pub order_number : Order → ℕ
order_number equal = 0
order_number unequal = 1
order_number below = 2
order_number at_most = 3
order_number above = 4
order_number at_least = 5

abbrev pub number_order : ℕ → Order
number_order zero = equal
number_order (suc zero) = unequal
number_order (suc (suc zero)) = below
number_order (suc (suc (suc zero))) = at_most
number_order (suc (suc (suc (suc zero)))) = above
number_order _ = at_least

pub order_back : (o : Order) → number_order (order_number o) ≡ o
order_back equal = refl
order_back unequal = refl
order_back below = refl
order_back at_most = refl
order_back above = refl
order_back at_least = refl

abbrev pub truth_number : Bool → ℕ
truth_number false = 0
truth_number true = 1

abbrev pub number_truth : ℕ → Bool
number_truth zero = false
number_truth _ = true

pub truth_back : (b : Bool) → number_truth (truth_number b) ≡ b
truth_back false = refl
truth_back true = refl

abbrev pub term_tree : Term → Gv
term_tree (quoted t) = gcons (gnum 0) (bytes_tree t)
term_tree (word t) = gcons (gnum 1) (bytes_tree t)

abbrev pub tree_term : Gv → Term
tree_term (gcons (gnum zero) t) = quoted (tree_bytes t)
tree_term (gcons _ t) = word (tree_bytes t)
tree_term _ = word (tree_bytes gnil)

pub term_back : (t : Term) → tree_term (term_tree t) ≡ t
term_back (quoted t) = ap quoted (bytes_back t)
term_back (word t) = ap word (bytes_back t)

abbrev pub condition_tree : Condition → Gv
condition_tree (literal b) = gcons (gnum 0) (gnum (truth_number b))
condition_tree (test l o r) = gcons (gnum 1) (gcons (term_tree l) (gcons (gnum (order_number o)) (term_tree r)))
condition_tree (negated c) = gcons (gnum 2) (condition_tree c)
condition_tree (all_of c d) = gcons (gnum 3) (gcons (condition_tree c) (condition_tree d))
condition_tree (any_of c d) = gcons (gnum 4) (gcons (condition_tree c) (condition_tree d))

abbrev pub tree_condition : Gv → Condition
tree_condition (gcons (gnum (suc zero)) (gcons l (gcons (gnum o) r))) =
    test (tree_term l) (number_order o) (tree_term r)
tree_condition (gcons (gnum (suc (suc zero))) c) = negated (tree_condition c)
tree_condition (gcons (gnum (suc (suc (suc zero)))) (gcons c d)) = all_of (tree_condition c) (tree_condition d)
tree_condition (gcons (gnum (suc (suc (suc (suc zero))))) (gcons c d)) = any_of (tree_condition c) (tree_condition d)
tree_condition (gcons _ (gnum b)) = literal (number_truth b)
tree_condition _ = literal (number_truth 0)

pub condition_back : (c : Condition) → tree_condition (condition_tree c) ≡ c
condition_back (literal b) = ap literal (truth_back b)
condition_back (test l o r) = λ i. test (term_back l i) (order_back o i) (term_back r i)
condition_back (negated c) = ap negated (condition_back c)
condition_back (all_of c d) = λ i. all_of (condition_back c i) (condition_back d i)
condition_back (any_of c d) = λ i. any_of (condition_back c i) (condition_back d i)

abbrev pub condition_code : Coded Condition
condition_code = coded_by_tree condition_tree tree_condition condition_back
