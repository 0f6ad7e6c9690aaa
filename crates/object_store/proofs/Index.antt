-- The index of objects: what an insertion and a write at a key leave.
use Rattle.std.proofs.Common.{◌≡◌, Bool, true, false, cond, List, [], ◌∷◌, ◌++◌, refl, sym, ◌∙◌, ap}
use Rattle.std.specs.Prelude.{Option, Some, None}
use Rattle.std.specs.Map.{lookup, set_value}
use Rattle.std.proofs.lemmas.List.{map-append}
use Rattle.tree_types.specs.declared.entry.Key.{Key}
use Rattle.history.specs.Keys.{same_key}
use Rattle.history.proofs.Keys.{same_key-true, same_key-refl}
use Rattle.object_store.specs.declared.line.Made.{Made}
use Rattle.object_store.specs.declared.line.Change.{Change}
use Rattle.object_store.specs.Inside.Rows.{Rows, first_of, fresh, OneMore}
use Rattle.object_store.specs.Inside.Lines.{line_at, firsts}
use Rattle.object_store.specs.Inside.Changes.{Appends, Inserts}
use Rattle.object_store.proofs.KeyTests.{key_eq, key_eq-same, lookup-key_eq}

-- no key is both
pub apart : (j k l : Key) → same_key k l ≡ false → same_key j l ≡ true → same_key j k ≡ true → ⊥
apart j k l n a b =
    let same : same_key k k ≡ same_key k l = ap (same_key k) (sym (same_key-true j k b) ∙ same_key-true j l a) in
    let no : true ≡ false = sym (same_key-refl k) ∙ same ∙ n in
    cc

module _ {C : Type 0} where
  pub set_value-key_eq : (k : Key) (es : List (Key × Rows C)) (l : Rows C) → set_value (key_eq k) es l ≡ set_value (same_key k) es l
  set_value-key_eq k [] l = refl
  set_value-key_eq k (e ∷ es) l =
      ap (λ b. cond b ((e.0, l) ∷ es) (e ∷ set_value (key_eq k) es l)) (key_eq-same k e.0)
      ∙ ap (λ fs. cond (same_key k e.0) ((e.0, l) ∷ es) (e ∷ fs)) (set_value-key_eq k es l)

  -- ---- behind the others

  swapped : (a b : Bool) (x y : Rows C) (o : Option (Rows C)) → (a ≡ true → b ≡ true → ⊥) → cond a (Some x) (cond b (Some y) o) ≡ cond b (Some y) (cond a (Some x) o)
  swapped true true x y o n = absurd (n refl refl)
  swapped true false x y o n = refl
  swapped false true x y o n = refl
  swapped false false x y o n = refl

  not_here : (b : Bool) (x : Rows C) (o : Option (Rows C)) → cond b (Some x) o ≡ None → b ≡ false
  not_here true x o e = absurd (cc)
  not_here false x o e = refl

  not_there : (b : Bool) (x : Rows C) (o : Option (Rows C)) → cond b (Some x) o ≡ None → o ≡ None
  not_there true x o e = absurd (cc)
  not_there false x o e = e

  look_behind : (es : List (Key × Rows C)) (k : Key) (l : Rows C) → lookup (same_key k) es ≡ None → (j : Key) → lookup (same_key j) (es ++ (k, l) ∷ []) ≡ cond (same_key j k) (Some l) (lookup (same_key j) es)
  look_behind [] k l n j = refl
  look_behind (e ∷ es) k l n j =
      let here : same_key k e.0 ≡ false = not_here (same_key k e.0) e.1 (lookup (same_key k) es) n in
      let there = not_there (same_key k e.0) e.1 (lookup (same_key k) es) n in
      ap (cond (same_key j e.0) (Some e.1)) (look_behind es k l there j)
      ∙ swapped (same_key j e.0) (same_key j k) e.1 l (lookup (same_key j) es) (apart j k e.0 here)

  pub inserted : (es : List (Key × Rows C)) (k : Key) (m : Made C) → line_at es k ≡ None → Inserts es k m.content m.tick (es ++ (k, fresh m) ∷ [])
  inserted es k m new = record { lines = look_behind es k (fresh m) new; behind = map-append (λ (e : Key × Rows C). (e.0, (first_of e.1).content)) es ((k, fresh m) ∷ []) }

  -- ---- at a key

  hidden : (b : Bool) (x y : Rows C) (o : Option (Rows C)) → cond b (Some x) o ≡ cond b (Some x) (cond b (Some y) o)
  hidden true x y o = refl
  hidden false x y o = refl

  look_set : (es : List (Key × Rows C)) (k : Key) (o l : Rows C) → lookup (same_key k) es ≡ Some o → (j : Key) → lookup (same_key j) (set_value (same_key k) es l) ≡ cond (same_key j k) (Some l) (lookup (same_key j) es)
  look_set [] k o l at j = absurd (cc)
  look_set (e ∷ es) k o l at j = by (same_key k e.0) refl at (λ rest. look_set es k o l rest j)
    where
      by : (b : Bool) → same_key k e.0 ≡ b → cond b (Some e.1) (lookup (same_key k) es) ≡ Some o
          → (lookup (same_key k) es ≡ Some o → lookup (same_key j) (set_value (same_key k) es l) ≡ cond (same_key j k) (Some l) (lookup (same_key j) es))
          → lookup (same_key j) (cond b ((e.0, l) ∷ es) (e ∷ set_value (same_key k) es l)) ≡ cond (same_key j k) (Some l) (cond (same_key j e.0) (Some e.1) (lookup (same_key j) es))
      by true s a ih =
          let keys : k ≡ e.0 = same_key-true k e.0 s in
          hidden (same_key j e.0) l e.1 (lookup (same_key j) es)
          ∙ ap (λ q. cond (same_key j q) (Some l) (cond (same_key j e.0) (Some e.1) (lookup (same_key j) es))) (sym keys)
      by false s a ih =
          ap (cond (same_key j e.0) (Some e.1)) (ih a)
          ∙ swapped (same_key j e.0) (same_key j k) e.1 l (lookup (same_key j) es) (apart j k e.0 s)

  firsts_set : (es : List (Key × Rows C)) (k : Key) (o l : Rows C) → first_of l ≡ first_of o → lookup (same_key k) es ≡ Some o → firsts (set_value (same_key k) es l) ≡ firsts es
  firsts_set [] k o l same at = absurd (cc)
  firsts_set (e ∷ es) k o l same at = by (same_key k e.0) at (λ rest. firsts_set es k o l same rest)
    where
      by : (b : Bool) → cond b (Some e.1) (lookup (same_key k) es) ≡ Some o → (lookup (same_key k) es ≡ Some o → firsts (set_value (same_key k) es l) ≡ firsts es)
          → firsts (cond b ((e.0, l) ∷ es) (e ∷ set_value (same_key k) es l)) ≡ firsts (e ∷ es)
      by true a ih =
          let here : e.1 ≡ o = some_is e.1 o a in
          ap (λ (m : Made C). (e.0, m.content) ∷ firsts es) (same ∙ sym (ap first_of here))
        where
          some_is : (x y : Rows C) → Some x ≡ Some y → x ≡ y
          some_is x y q = cc
      by false a ih = ap (λ os. (e.0, (first_of e.1).content) ∷ os) (ih a)

  -- the key's line has one version more
  pub appended : (es fs : List (Key × Rows C)) (k : Key) (o l : Rows C) (m : Made C) (c : Change) → lookup (key_eq k) es ≡ Some o → OneMore o m c l → fs ≡ set_value (key_eq k) es l → Appends es k m c fs
  appended es fs k o l m c at more is =
      let at' : lookup (same_key k) es ≡ Some o = sym (lookup-key_eq k es) ∙ at in
      let is' : fs ≡ set_value (same_key k) es l = is ∙ set_value-key_eq k es l in
      record {
        from = o;
        to = l;
        was = at';
        more = more;
        lines = λ j. ap (λ gs. line_at gs j) is' ∙ look_set es k o l at' j;
        same = ap firsts is' ∙ firsts_set es k o l more.first at';
      }

  set_value-same : (es : List (Key × Rows C)) (k : Key) (o : Rows C) → lookup (key_eq k) es ≡ Some o → set_value (key_eq k) es o ≡ es
  set_value-same [] k o at = absurd (cc)
  set_value-same (e ∷ es) k o at = by (key_eq k e.0) at (λ rest. set_value-same es k o rest)
    where
      by : (b : Bool) → cond b (Some e.1) (lookup (key_eq k) es) ≡ Some o → (lookup (key_eq k) es ≡ Some o → set_value (key_eq k) es o ≡ es) → cond b ((e.0, o) ∷ es) (e ∷ set_value (key_eq k) es o) ≡ e ∷ es
      by true a ih = ap (λ l. (e.0, l) ∷ es) (sym (some_is e.1 o a))
        where
          some_is : (x y : Rows C) → Some x ≡ Some y → x ≡ y
          some_is x y q = cc
      by false a ih = ap (λ fs. e ∷ fs) (ih a)

  -- the key's line is as it was
  pub unchanged : (es fs : List (Key × Rows C)) (k : Key) (o l : Rows C) → lookup (key_eq k) es ≡ Some o → l ≡ o → fs ≡ set_value (key_eq k) es l → fs ≡ es
  unchanged es fs k o l at same is = is ∙ ap (set_value (key_eq k) es) same ∙ set_value-same es k o at
