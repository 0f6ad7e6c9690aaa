-- Names, each once, and their places.
use Rattle.std.proofs.Common.{◌≡◌, ◌⊎◌, ℕ, ◌<◌, ◌≤◌, true, false, cond, List, [], ◌∷◌, ◌++◌, length, get_or, Some, None, refl, sym, ap, ◌∙◌, subst, inl, inr, arith}
use Rattle.std.specs.Prelude.{bytes_eq}
use Rattle.std.specs.List.{list_any, position_or_len, Contains}
use Rattle.std.proofs.lemmas.Bool.{cond_both, cases_lt, lt-ltb}
use Rattle.std.proofs.lemmas.List.{get_or_default}
use Rattle.std.proofs.lemmas.List.Quantifiers.{position-Some}
use Rattle.std.proofs.lemmas.List.Sums.{fails_before_first}
use Rattle.depends_expr.specs.Truth.{add_name, add_names}
use Rattle.task_order.specs.Orders.{place}
use Rattle.task_order.proofs.Among.{Among, among_from, contains_from, among_left, among_right, among_either, listed, same_text, text_same}

pub one_kept : (names : List (List ℕ)) (name other : List ℕ) → Among other names → Among other (add_name names name)
one_kept names name other among =
    cond_both (list_any (bytes_eq name) names) names (names ++ name ∷ []) (Among other)
    (λ _. among) (λ _. among_left names (name ∷ []) other among)

pub one_added : (names : List (List ℕ)) (name : List ℕ) → Among name (add_name names name)
one_added names name =
    cond_both (list_any (bytes_eq name) names) names (names ++ name ∷ []) (Among name)
    (λ there. listed names name there) (λ _. among_right names (name ∷ []) name (inl refl))

one_only : (names : List (List ℕ)) (name other : List ℕ) → Among other (add_name names name) → Among other names ⊎ (name ≡ other)
one_only names name other =
    cond_both (list_any (bytes_eq name) names) names (names ++ name ∷ []) (λ ns. Among other ns → Among other names ⊎ (name ≡ other))
    (λ _ among. inl among)
    (λ _ among. elim (among_either names (name ∷ []) other among) [
      | inl before ↦ inl before
      | inr (inl same) ↦ inr same
      | inr (inr none) ↦ absurd none
    ])

pub kept : (names more : List (List ℕ)) (name : List ℕ) → Among name names → Among name (add_names names more)
kept names [] name among = among
kept names (m ∷ ms) name among = kept (add_name names m) ms name (one_kept names m name among)

pub all_added : (names more : List (List ℕ)) (name : List ℕ) → Among name more → Among name (add_names names more)
all_added names [] name among = absurd among
all_added names (m ∷ ms) name (inl same) =
    kept (add_name names m) ms name (subst (λ n. Among n (add_name names m)) same (one_added names m))
all_added names (m ∷ ms) name (inr later) = all_added (add_name names m) ms name later

pub only : (names more : List (List ℕ)) (name : List ℕ) → Among name (add_names names more) → Among name names ⊎ Among name more
only names [] name among = inl among
only names (m ∷ ms) name among =
    elim (only (add_name names m) ms name among) [
      | inl before ↦ first (one_only names m name before)
      | inr later ↦ inr (inr later)
    ]
  where
    first : Among name names ⊎ (m ≡ name) → Among name names ⊎ Among name (m ∷ ms)
    first (inl old) = inl old
    first (inr same) = inr (inl same)

-- ---- places

pub place_reads : (table : List (List ℕ)) (name : List ℕ) (i : ℕ) → place table name ≡ Some i → (i < length table) × (get_or table i [] ≡ name)
place_reads table name i is =
    let found = position-Some (bytes_eq name) table i [] is in
    (found.0, sym (same_text name (get_or table i []) found.1))

pub place_told : (table : List (List ℕ)) (a b : List ℕ) (i : ℕ) → place table a ≡ Some i → place table b ≡ Some i → a ≡ b
place_told table a b i at_a at_b = sym (place_reads table a i at_a).1 ∙ (place_reads table b i at_b).1

pub place_found : (table : List (List ℕ)) (name : List ℕ) → Among name table → (i : ℕ) × (place table name ≡ Some i)
place_found table name among =
    let first = position_or_len (bytes_eq name) table in
    elim (cases_lt first (length table)) [
      | inl below ↦ (first, ap (λ b. cond b (Some first) None) (lt-ltb first (length table) below))
      | inr past ↦ absurd (fails past (contains_from table name among))
    ]
  where
    fails : length table ≤ position_or_len (bytes_eq name) table → Contains table name → ⊥
    fails past (k, below, is) =
        let before : bytes_eq name (get_or table k name) ≡ false = fails_before_first (bytes_eq name) table k name (omega arith) in
        let here : bytes_eq name (get_or table k name) ≡ true = text_same name (get_or table k name) (sym is) in
        absurd cc

pub place_in : (table : List (List ℕ)) (name : List ℕ) (i : ℕ) → place table name ≡ Some i → Among name table
place_in table name i is =
    let found = place_reads table name i is in
    among_from table name (i, found.0, get_or_default table i name [] found.0 ∙ found.1)
