-- No way between tasks needs more steps than there are tasks: what is reached within n steps grows with n until it stays.
use Rattle.std.proofs.Common.{◌≡◌, ◌⊎◌, ℕ, zero, suc, ◌+◌, ◌-◌, ◌<◌, ◌≤◌, Bool, true, false, cond, ◌&&◌, ◌||◌, List, [], ◌∷◌, length, refl, sym, ap, ◌∙◌, subst, inl, inr, arith}
use Rattle.std.specs.Prelude.{bytes_eq}
use Rattle.std.specs.List.{list_any}
use Rattle.std.proofs.lemmas.Bool.{cases_Bool}
use Rattle.std.proofs.lemmas.List.{length-map}
use Rattle.std.proofs.lemmas.Slice.Eq.{bytes_eq-Decides}
use Rattle.base_types.specs.Names.{is_among}
use Rattle.wf_manifest.specs.declared.calls.Task.{Task}
use Rattle.wf_manifest.specs.Valid.{waits_for}
use Rattle.task_order.specs.Ancestors.{names}
use Rattle.wf_places.specs.Circles.{is_waiting, waits, is_ancestor_within, is_ancestor}

-- ---- tests of a list that pass more often

abbrev pub Implies : {A : Type 0} → (A → Bool) → (A → Bool) → Type 0
Implies {A} p q = (x : A) → p x ≡ true → q x ≡ true

abbrev pub Same : {A : Type 0} → (A → Bool) → (A → Bool) → List A → Type 0
Same p q [] = Unit {0}
Same p q (x ∷ xs) = (p x ≡ q x) × Same p q xs

abbrev pub count : {A : Type 0} → (A → Bool) → List A → ℕ
count p [] = 0
count p (x ∷ xs) = cond (p x) 1 0 + count p xs

one_le : (b c : Bool) → (b ≡ true → c ≡ true) → cond b 1 0 ≤ cond c 1 0
one_le true true f = omega arith
one_le true false f = let e : false ≡ true = f refl in absurd cc
one_le false true f = omega arith
one_le false false f = omega arith

count_le : {A : Type 0} (p q : A → Bool) → Implies p q → (xs : List A) → count p xs ≤ count q xs
count_le p q f [] = omega arith
count_le p q f (x ∷ xs) =
    let h = one_le (p x) (q x) (f x) in
    let t = count_le p q f xs in
    omega (arith, h, t)

count_most : {A : Type 0} (p : A → Bool) (xs : List A) → count p xs ≤ length xs
count_most p [] = omega arith
count_most p (x ∷ xs) =
    let h = one_le (p x) true (λ e. refl) in
    let t = count_most p xs in
    omega (arith, h, t)

pub grow : {A : Type 0} (p q : A → Bool) → Implies p q → (xs : List A) → Same p q xs ⊎ (count p xs < count q xs)
grow p q f [] = inl tt
grow p q f (x ∷ xs) = join (p x) (q x) (f x) (grow p q f xs) (count_le p q f xs)
  where
    join : (b c : Bool) → (b ≡ true → c ≡ true) → Same p q xs ⊎ (count p xs < count q xs) → count p xs ≤ count q xs → ((b ≡ c) × Same p q xs) ⊎ (cond b 1 0 + count p xs < cond c 1 0 + count q xs)
    join true true g (inl s) le = inl (refl, s)
    join true true g (inr l) le = inr (omega (arith, l))
    join false false g (inl s) le = inl (refl, s)
    join false false g (inr l) le = inr (omega (arith, l))
    join false true g r le = inr (omega (arith, le))
    join true false g r le = let e : false ≡ true = g refl in absurd cc

or_right : (a b : Bool) → b ≡ true → (a || b) ≡ true
or_right true b e = refl
or_right false b e = e

or_mono : (w m n : Bool) → (m ≡ true → n ≡ true) → (w || m) ≡ true → (w || n) ≡ true
or_mono true m n f e = refl
or_mono false m n f e = f e

any_mono : {A : Type 0} (w p q : A → Bool) → Implies p q → (xs : List A) → list_any (λ o. w o && p o) xs ≡ true → list_any (λ o. w o && q o) xs ≡ true
any_mono w p q f [] e = e
any_mono w p q f (x ∷ xs) e = either (w x) (p x) (q x) _ _ (f x) (any_mono w p q f xs) e
  where
    either : (v b c m n : Bool) → (b ≡ true → c ≡ true) → (m ≡ true → n ≡ true) → ((v && b) || m) ≡ true → ((v && c) || n) ≡ true
    either true true true m n g h e = refl
    either true true false m n g h e = let k : false ≡ true = g refl in absurd cc
    either true false c m n g h e = or_right c n (h e)
    either false b c m n g h e = h e

any_same : {A : Type 0} (w p q : A → Bool) (xs : List A) → Same p q xs → list_any (λ o. w o && p o) xs ≡ list_any (λ o. w o && q o) xs
any_same w p q [] s = refl
any_same w p q (x ∷ xs) s =
    ap (λ b. (w x && b) || list_any (λ o. w o && p o) xs) s.0 ∙ ap (λ b. (w x && q x) || b) (any_same w p q xs s.1)

same_all : {A : Type 0} (p q : A → Bool) → ((x : A) → p x ≡ q x) → (xs : List A) → Same p q xs
same_all p q f [] = tt
same_all p q f (x ∷ xs) = (f x, same_all p q f xs)

-- where a test passes as often as there are names, it passes for each
full : (p : List ℕ → Bool) (xs : List (List ℕ)) → length xs ≤ count p xs → (u : List ℕ) → is_among xs u ≡ true → p u ≡ true
full p [] le u e = absurd cc
full p (x ∷ xs) le u e =
    elim (cases_Bool (p x)) [
      | inl here ↦
          let rest : length xs ≤ count p xs = fewer (p x) le in
          elim (cases_Bool (bytes_eq u x)) [
            | inl is ↦ ap p ((bytes_eq-Decides u x).0 is) ∙ here
            | inr other ↦ full p xs rest u (sym (ap (λ b. b || is_among xs u) other) ∙ e)
          ]
      | inr not ↦
          let most = count_most p xs in
          let less = least (p x) not le in
          absurd (omega (arith, most, less))
    ]
  where
    least : (b : Bool) → b ≡ false → suc (length xs) ≤ cond b 1 0 + count p xs → suc (length xs) ≤ count p xs
    least true is le = absurd cc
    least false is le = omega (arith, le)

    fewer : (b : Bool) → suc (length xs) ≤ cond b 1 0 + count p xs → length xs ≤ count p xs
    fewer true le = omega (arith, le)
    fewer false le = omega (arith, le)

-- ---- numbers of steps

-- j more than k
abbrev more : ℕ → ℕ → ℕ
more zero k = k
more (suc j) k = suc (more j k)

more_is : (j k : ℕ) → more j k ≡ j + k
more_is zero k = omega arith
more_is (suc j) k = let e = more_is j k in omega (arith, e)

module _ (tasks : List Task) (ancestor : List ℕ) where
  abbrev within : ℕ → List ℕ → Bool
  within n u = is_ancestor_within n tasks ancestor u

  mono : (n : ℕ) (u : List ℕ) → within n u ≡ true → within (suc n) u ≡ true
  mono zero u e = absurd cc
  mono (suc n) u e =
      or_mono (waits tasks u ancestor) _ _ (any_mono (waits tasks u) (within n) (within (suc n)) (mono n) (names tasks)) e

  pub mono_more : (j k : ℕ) (u : List ℕ) → within k u ≡ true → within (more j k) u ≡ true
  mono_more zero k u e = e
  mono_more (suc j) k u e = mono (more j k) u (mono_more j k u e)

  steady : (k : ℕ) → Same (within k) (within (suc k)) (names tasks) → (u : List ℕ) → within (suc k) u ≡ within (suc (suc k)) u
  steady k s u =
      ap (λ b. waits tasks u ancestor || b) (any_same (waits tasks u) (within k) (within (suc k)) (names tasks) s)

  keeps : (k : ℕ) → Same (within k) (within (suc k)) (names tasks) → (j : ℕ) → Same (within (more j k)) (within (suc (more j k))) (names tasks)
  keeps k s zero = s
  keeps k s (suc j) =
      same_all (within (suc (more j k))) (within (suc (suc (more j k)))) (steady (more j k) (keeps k s j)) (names tasks)

  stays : (k : ℕ) → Same (within k) (within (suc k)) (names tasks) → (j : ℕ) (u : List ℕ) → within (suc k) u ≡ within (suc (more j k)) u
  stays k s zero u = refl
  stays k s (suc j) u = stays k s j u ∙ steady (more j k) (keeps k s j) u

  -- before k steps nothing more is reached, or k names at least are reached
  pigeons : (k : ℕ) → ((j : ℕ) × (j < k) × Same (within j) (within (suc j)) (names tasks)) ⊎ (k ≤ count (within k) (names tasks))
  pigeons zero = inr (omega arith)
  pigeons (suc k) = step (pigeons k) (grow (within k) (within (suc k)) (mono k) (names tasks))
    where
      step : ((j : ℕ) × (j < k) × Same (within j) (within (suc j)) (names tasks)) ⊎ (k ≤ count (within k) (names tasks)) → Same (within k) (within (suc k)) (names tasks) ⊎ (count (within k) (names tasks) < count (within (suc k)) (names tasks)) → ((j : ℕ) × (j < suc k) × Same (within j) (within (suc j)) (names tasks)) ⊎ (suc k ≤ count (within (suc k)) (names tasks))
      step (inl (j, lt, s)) g = inl (j, omega (arith, lt), s)
      step (inr le) (inl s) = inl (k, omega arith, s)
      step (inr le) (inr lt) = inr (omega (arith, le, lt))

  -- a name from which something is reached is that of a task
  waiting_known : (ts : List Task) (u other : List ℕ) → list_any (is_waiting u other) ts ≡ true → is_among (names ts) u ≡ true
  waiting_known [] u other e = absurd cc
  waiting_known (t ∷ ts) u other e =
      elim (cases_Bool (bytes_eq t.call.name u)) [
        | inl is ↦
            let same : bytes_eq u t.call.name ≡ true = (bytes_eq-Decides u t.call.name).1 (sym ((bytes_eq-Decides t.call.name u).0 is)) in
            ap (λ b. b || is_among (names ts) u) same
        | inr not ↦
            or_right (bytes_eq u t.call.name) (is_among (names ts) u) (waiting_known ts u other (sym (ap (λ b. (b && is_among (waits_for t) other) || list_any (is_waiting u other) ts) not) ∙ e))
      ]

  and_right : (a b : Bool) → (a && b) ≡ true → b ≡ true
  and_right true b e = e
  and_right false b e = absurd cc

  waits_known : (u other : List ℕ) → waits tasks u other ≡ true → is_among (names tasks) u ≡ true
  waits_known u other e =
      waiting_known tasks u other (and_right (is_among (names tasks) other) (list_any (is_waiting u other) tasks) e)

  any_known : (n : ℕ) (u : List ℕ) (xs : List (List ℕ)) → list_any (λ o. waits tasks u o && within n o) xs ≡ true → is_among (names tasks) u ≡ true
  any_known n u [] e = absurd cc
  any_known n u (x ∷ xs) e = either (waits tasks u x) (within n x) (waits_known u x) (any_known n u xs) e
    where
      either : (w r : Bool) → (w ≡ true → is_among (names tasks) u ≡ true) → (list_any (λ o. waits tasks u o && within n o) xs ≡ true → is_among (names tasks) u ≡ true) → ((w && r) || list_any (λ o. waits tasks u o && within n o) xs) ≡ true → is_among (names tasks) u ≡ true
      either true r f g e = f refl
      either false r f g e = g e

  pub within_known : (n : ℕ) (u : List ℕ) → within n u ≡ true → is_among (names tasks) u ≡ true
  within_known zero u e = absurd cc
  within_known (suc n) u e =
      either (waits tasks u ancestor) (waits_known u ancestor) (any_known n u (names tasks)) e
    where
      either : (w : Bool) → (w ≡ true → is_among (names tasks) u ≡ true) → (list_any (λ o. waits tasks u o && within n o) (names tasks) ≡ true → is_among (names tasks) u ≡ true) → (w || list_any (λ o. waits tasks u o && within n o) (names tasks)) ≡ true → is_among (names tasks) u ≡ true
      either true f g e = f refl
      either false f g e = g e

  reached : (m n : ℕ) (u : List ℕ) → within m u ≡ true → ((j : ℕ) × (j < n) × Same (within j) (within (suc j)) (names tasks)) ⊎ (n ≤ count (within n) (names tasks)) → n ≡ length (names tasks) → within n u ≡ true
  reached m n u e (inl (j, lt, s)) is =
      let late : more (suc j) m ≡ suc (more m j) = (let a = more_is (suc j) m in let b = more_is m j in omega (arith, a, b)) in
      let end : suc (more (n - suc j) j) ≡ n = (let a = more_is (n - suc j) j in omega (arith, a, lt)) in
      let there : within (suc (more m j)) u ≡ true = subst (λ (k : ℕ). within k u ≡ true) late (mono_more (suc j) m u e) in
      let early : within (suc j) u ≡ true = stays j s m u ∙ there in
      subst (λ (k : ℕ). within k u ≡ true) end (sym (stays j s (n - suc j) u) ∙ early)
  reached m n u e (inr le) is =
      full (within n) (names tasks) (subst (λ (k : ℕ). k ≤ count (within n) (names tasks)) is le) u (within_known m u e)

  -- what is reached at all is reached within as many steps as there are tasks
  pub bounded : (m : ℕ) (u : List ℕ) → within m u ≡ true → is_ancestor tasks ancestor u ≡ true
  bounded m u e =
      let long : length tasks ≡ length (names tasks) = sym (length-map tasks (λ t. t.call.name)) in
      reached m (length tasks) u e (pigeons (length tasks)) long
