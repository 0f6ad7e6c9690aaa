-- Where the tasks of names stand.
use Rattle.std.proofs.Common.{◌≡◌, ℕ, zero, suc, ◌+◌, List, [], ◌∷◌, ◌++◌, length, map, Bool, true, false, not, ◌&&◌, ◌||◌, cond, Option, Some, None, refl, sym, ap, ◌∙◌, subst, append_assoc, inl, inr, arith}
use Rattle.std.specs.Prelude.{bytes_eq, nat_lt, option_map, slice_get}
use Rattle.std.specs.List.{cons_option, position_or_len}
use Rattle.std.proofs.lemmas.Bool.{cases_lt, lt-ltb, le-ltb}
use Rattle.std.proofs.lemmas.List.Folds.{list_any-append}
use Rattle.base_types.specs.Names.{is_among, differ_from, all_differ}
use Rattle.depends_expr.specs.Truth.{add_names}
use Rattle.wf_manifest.specs.declared.calls.Call.{Call}
use Rattle.wf_manifest.specs.declared.calls.Task.{Task}
use Rattle.task_order.specs.Ancestors.{names}
use Rattle.task_order.specs.Orders.{place, places}
use Rattle.task_order.proofs.Among.{Among, same_text, text_same}
use Rattle.meaning.specs.Dags.{Names, task_named}
use Rattle.dag_plan.specs.Order.{first}
use Rattle.dag_plan.specs.Plans.{AreAt}

-- ---- tests

same_bools : (a b : Bool) → (a ≡ true → b ≡ true) → (b ≡ true → a ≡ true) → a ≡ b
same_bools true b f g = sym (f refl)
same_bools false true f g = g refl
same_bools false false f g = refl

pub turned : (a b : List ℕ) → bytes_eq a b ≡ bytes_eq b a
turned a b =
    same_bools (bytes_eq a b) (bytes_eq b a) (λ e. text_same b a (sym (same_text a b e))) (λ e. text_same a b (sym (same_text b a e)))

-- ---- a name's place is that of its first task

shifted : (a l : ℕ) → cond (nat_lt (1 + a) (suc l)) (Some (1 + a)) None ≡ option_map suc (cond (nat_lt a l) (Some a) None)
shifted a l =
    elim (cases_lt a l) [
      | inl below ↦
          let more : 1 + a ≡ suc a = omega arith in
          ap (λ (b : Bool). cond b (Some (1 + a)) None) (lt-ltb (1 + a) (suc l) (omega arith))
          ∙ ap (λ (n : ℕ). Some n) more
          ∙ sym (ap (λ (b : Bool). option_map suc (cond b (Some a) None)) (lt-ltb a l below))
      | inr past ↦
          ap (λ (b : Bool). cond b (Some (1 + a)) None) (le-ltb (1 + a) (suc l) (omega arith))
          ∙ sym (ap (λ (b : Bool). option_map suc (cond b (Some a) None)) (le-ltb a l past))
    ]

place_more : (n m : List ℕ) (ns : Names) → place (m ∷ ns) n ≡ cond (bytes_eq n m) (Some 0) (option_map suc (place ns n))
place_more n m ns = go (bytes_eq n m) refl
  where
    go : (b : Bool) → bytes_eq n m ≡ b → place (m ∷ ns) n ≡ cond b (Some 0) (option_map suc (place ns n))
    go true e =
        let zero_is : position_or_len (bytes_eq n) (m ∷ ns) ≡ 0 = ap (λ (b : Bool). cond (not b) (1 + position_or_len (bytes_eq n) ns) 0) e in
        ap (λ (k : ℕ). cond (nat_lt k (length (m ∷ ns))) (Some k) None) zero_is
        ∙ ap (λ (b : Bool). cond b (Some 0) None) (lt-ltb 0 (length (m ∷ ns)) (omega arith))
    go false e =
        let later_is : position_or_len (bytes_eq n) (m ∷ ns) ≡ 1 + position_or_len (bytes_eq n) ns =
        ap (λ (b : Bool). cond (not b) (1 + position_or_len (bytes_eq n) ns) 0) e in
        ap (λ (k : ℕ). cond (nat_lt k (length (m ∷ ns))) (Some k) None) later_is
        ∙ shifted (position_or_len (bytes_eq n) ns) (length ns)

pub place_first : (ts : List Task) (n : List ℕ) → place (names ts) n ≡ first ts n
place_first [] n = refl
place_first (t ∷ ts) n =
    place_more n t.call.name (names ts)
    ∙ ap (λ (b : Bool). cond b (Some 0) (option_map suc (place (names ts) n))) (turned n t.call.name)
    ∙ ap (λ (o : Option ℕ). cond (bytes_eq t.call.name n) (Some 0) (option_map suc o)) (place_first ts n)

-- ---- names of which none stands twice

and_both : (a b : Bool) → (a && b) ≡ true → (a ≡ true) × (b ≡ true)
and_both true b e = (refl, e)
and_both false b e = absurd cc

not_true : (a : Bool) → not a ≡ true → a ≡ false
not_true true e = absurd cc
not_true false e = refl

or_left_false : (a b : Bool) → (a || b) ≡ false → a ≡ false
or_left_false true b e = absurd cc
or_left_false false b e = refl

or_right_false : (a b : Bool) → (a || b) ≡ false → b ≡ false
or_right_false true b e = absurd cc
or_right_false false b e = e

all_new : (before ns : Names) → differ_from before ns ≡ true → add_names before ns ≡ before ++ ns
all_new before [] e = sym (append_nil before)
  where
    append_nil : (xs : Names) → xs ++ [] ≡ xs
    append_nil [] = refl
    append_nil (x ∷ xs) = ap (λ (ys : Names). x ∷ ys) (append_nil xs)
all_new before (n ∷ ns) e =
    let parts = and_both (not (is_among before n)) (differ_from (before ++ n ∷ []) ns) e in
    ap (λ (b : Bool). add_names (cond b before (before ++ n ∷ [])) ns) (not_true (is_among before n) parts.0)
    ∙ all_new (before ++ n ∷ []) ns parts.1 ∙ append_assoc before (n ∷ []) ns

-- so the table of names is the names in their order
pub table_is : (ts : List Task) → all_differ (names ts) ≡ true → add_names [] (names ts) ≡ names ts
table_is ts e = all_new [] (names ts) e

apart : (before ns : Names) (n : List ℕ) → differ_from before ns ≡ true → Among n ns → is_among before n ≡ false
apart before [] n e among = absurd among
apart before (m ∷ ms) n e (inl same) =
    let parts = and_both (not (is_among before m)) (differ_from (before ++ m ∷ []) ms) e in
    ap (is_among before) (sym same) ∙ not_true (is_among before m) parts.0
apart before (m ∷ ms) n e (inr later) =
    let parts = and_both (not (is_among before m)) (differ_from (before ++ m ∷ []) ms) e in
    or_left_false (is_among before n) (is_among (m ∷ []) n)
    (sym (list_any-append (bytes_eq n) before (m ∷ [])) ∙ apart (before ++ m ∷ []) ms n parts.1 later)

apart_last : (before ns : Names) (m n : List ℕ) → differ_from (before ++ m ∷ []) ns ≡ true → Among n ns → bytes_eq n m ≡ false
apart_last before ns m n e among =
    or_left_false (bytes_eq n m) false
    (or_right_false (is_among before n) (is_among (m ∷ []) n)
    (sym (list_any-append (bytes_eq n) before (m ∷ [])) ∙ apart (before ++ m ∷ []) ns n e among))

at_named : (ts : List Task) (p : ℕ) (t : Task) → slice_get ts p ≡ Some t → Among t.call.name (names ts)
at_named [] p t e = absurd cc
at_named (u ∷ us) zero t e = inl (let same : u ≡ t = cc e in ap (λ (x : Task). x.call.name) same)
at_named (u ∷ us) (suc p) t e = inr (at_named us p t e)

own_from :
    (before : Names) (ts : List Task) (p : ℕ) (t : Task) → differ_from before (names ts) ≡ true → slice_get ts p ≡ Some t →
    first ts t.call.name ≡ Some p
own_from before [] p t e at = absurd cc
own_from before (u ∷ us) zero t e at =
    let same : u ≡ t = cc at in
    ap (λ (b : Bool). cond b (Some 0) (option_map suc (first us t.call.name))) (text_same u.call.name t.call.name (ap (λ (x : Task). x.call.name) same))
own_from before (u ∷ us) (suc p) t e at =
    let parts = and_both (not (is_among before u.call.name)) (differ_from (before ++ u.call.name ∷ []) (names us)) e in
    let other : bytes_eq u.call.name t.call.name ≡ false =
    turned u.call.name t.call.name ∙ apart_last before (names us) u.call.name t.call.name parts.1 (at_named us p t at) in
    ap (λ (b : Bool). cond b (Some 0) (option_map suc (first us t.call.name))) other
    ∙ ap (option_map suc) (own_from (before ++ u.call.name ∷ []) us p t parts.1 at)

-- each task is the first of its name
pub own_place : (ts : List Task) → all_differ (names ts) ≡ true → (p : ℕ) (t : Task) → slice_get ts p ≡ Some t → first ts t.call.name ≡ Some p
own_place ts e p t at = own_from [] ts p t e at

-- ---- the task at a name's first position

some_suc : (o : Option ℕ) (p : ℕ) → option_map suc o ≡ Some p → (q : ℕ) × (p ≡ suc q) × (o ≡ Some q)
some_suc None p e = absurd cc
some_suc (Some q) p e = (q, (let same : suc q ≡ p = cc e in sym same), refl)

-- it has this name, and is the one that the name finds
pub at_first : (ts : List Task) (n : List ℕ) (p : ℕ) → first ts n ≡ Some p → (t : Task) × (slice_get ts p ≡ Some t) × (t.call.name ≡ n) × (task_named ts n ≡ Some t)
at_first [] n p e = absurd cc
at_first (u ∷ us) n p e = go (at_first us n) (bytes_eq u.call.name n) refl e
  where
    go : ((q : ℕ) → first us n ≡ Some q → (t : Task) × (slice_get us q ≡ Some t) × (t.call.name ≡ n) × (task_named us n ≡ Some t)) →
        (b : Bool) → bytes_eq u.call.name n ≡ b → cond b (Some 0) (option_map suc (first us n)) ≡ Some p →
        (t : Task) × (slice_get (u ∷ us) p ≡ Some t) × (t.call.name ≡ n) × (task_named (u ∷ us) n ≡ Some t)
    go rest true f k =
        let here : 0 ≡ p = cc k in (
          u,
          subst (λ (x : ℕ). slice_get (u ∷ us) x ≡ Some u) here refl,
          same_text u.call.name n f,
          ap (λ (b : Bool). cond b (Some u) (task_named us n)) f,
        )
    go rest false f k =
        let (q, is, later) = some_suc (first us n) p k in
        let (t, at, same, found) = rest q later in (
          t,
          subst (λ (x : ℕ). slice_get (u ∷ us) x ≡ Some t) (sym is) at,
          same,
          ap (λ (b : Bool). cond b (Some u) (task_named us n)) f ∙ found,
        )

-- a name of no task finds none
pub not_first : (ts : List Task) (n : List ℕ) → first ts n ≡ None → task_named ts n ≡ None
not_first [] n e = refl
not_first (u ∷ us) n e = go (not_first us n) (bytes_eq u.call.name n) refl e
  where
    none_suc : (o : Option ℕ) → option_map suc o ≡ None → o ≡ None
    none_suc None e = refl
    none_suc (Some q) e = absurd cc

    go : (first us n ≡ None → task_named us n ≡ None) → (b : Bool) → bytes_eq u.call.name n ≡ b → cond b (Some 0) (option_map suc (first us n)) ≡ None → task_named (u ∷ us) n ≡ None
    go rest true f k = absurd cc
    go rest false f k = ap (λ (b : Bool). cond b (Some u) (task_named us n)) f ∙ rest (none_suc (first us n) k)

-- a task of this name stands somewhere
pub is_first : (ts : List Task) (n : List ℕ) → Among n (names ts) → (p : ℕ) × (first ts n ≡ Some p)
is_first [] n among = absurd among
is_first (u ∷ us) n among = go (is_first us n) (bytes_eq u.call.name n) refl among
  where
    later : ((p : ℕ) × (first us n ≡ Some p)) → (p : ℕ) × (option_map suc (first us n) ≡ Some p)
    later (p, e) = (suc p, ap (option_map suc) e)

    go : (Among n (names us) → (p : ℕ) × (first us n ≡ Some p)) → (b : Bool) → bytes_eq u.call.name n ≡ b → Among n (names (u ∷ us)) → (p : ℕ) × (cond b (Some 0) (option_map suc (first us n)) ≡ Some p)
    go rest true f a = (0, refl)
    go rest false f (inl same) = absurd (let other : bytes_eq u.call.name n ≡ true = text_same u.call.name n same in cc)
    go rest false f (inr more) = later (rest more)

-- ---- names that are all tasks'

pub all_at : (ts : List Task) (ns : Names) → ((n : List ℕ) → Among n ns → Among n (names ts)) → AreAt ts ns (places (names ts) ns)
all_at ts [] h = refl
all_at ts (n ∷ ns) h =
    let (p, is) = is_first ts n (h n (inl refl)) in
    let at : place (names ts) n ≡ Some p = place_first ts n ∙ is in
    (λ i. is i ∷ all_at ts ns (λ m a. h m (inr a)) i)
    ∙ sym (ap (λ (o : Option ℕ). map Some (cons_option o (places (names ts) ns))) at)

-- ---- the names of the calls of tasks

pub call_names : (ts : List Task) → map (λ (c : Call). c.name) (map (λ (t : Task). t.call) ts) ≡ names ts
call_names [] = refl
call_names (t ∷ ts) = ap (λ (ns : Names). t.call.name ∷ ns) (call_names ts)
