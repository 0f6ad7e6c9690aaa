-- The first pod that passes a test, of the entrypoint or else of the exit handler, where none of so many from the first does.
use Rattle.std.proofs.Common.{◌≡◌, ℕ, zero, suc, ◌+◌, ◌-◌, ◌<◌, ◌≤◌, nat_le, Bool, true, false, cond, ◌&&◌, List, [], ◌∷◌, ◌++◌, length, length-append, take, min, ◌^◌, Option, Some, None, option_map, refl, sym, ap, ◌∙◌, subst, arith}
use Rattle.std.specs.List.{find}
use Rattle.std.specs.Option.{option_or}
use Rattle.std.proofs.lemmas.Bool.{leb-true, leb-false}
use Rattle.std.proofs.lemmas.List.Folds.{find-append}
use Rattle.tree_types.specs.declared.want.Want.{Want}
use Rattle.meaning.specs.declared.lines.Line.{Line}
use Rattle.meaning.specs.Lines.{Made, lines_in}
use Rattle.meaning.specs.Trees.{wants_in, exit_lines}
use Rattle.tree_state.specs.declared.kinds.WantKind.TheVariants.{Pod}
use Rattle.tree_state.specs.Finding.{pods_in, found_at, found_from}
use Rattle.tree_state.proofs.OfKind.{kind_then}
use Rattle.tree_eval.specs.declared.tops.Tops.{Tops}
use Rattle.tree_eval.specs.Inside.Tops.{lines_of}
use Rattle.tree_eval.specs.Pods.{NoneAmong}
use Rattle.tree_eval.proofs.Positions.{Found, moved, found_in_both}

abbrev want_of : Found → Option Want
want_of o = option_map (λ (f : ℕ × Want). f.1) o

module _ (t : Want → Bool) where
  -- ---- where none of so many passes, the first from there on is the first of all

  none_here : (x : Want) (ws : List Want) (b : Bool) → t x ≡ b → cond b (Some x) (find t ws) ≡ None → (t x ≡ false) × (find t ws ≡ None)
  none_here x ws true is none = absurd (cc)
  none_here x ws false is none = (is, none)

  none_then : (x : Want) (ws : List Want) → t x ≡ false → find t ws ≡ None → find t (x ∷ ws) ≡ None
  none_then x ws off none = ap (λ (b : Bool). cond b (Some x) (find t ws)) off ∙ none

  -- those before a position, of a list whose first has this one
  abbrev NoneBefore : ℕ → ℕ → List Want → Type 0
  NoneBefore n at ws = find t (take (n - at) ws) ≡ None

  abbrev place : Found → ℕ
  place None = 0
  place (Some g) = g.0

  same_count : (m n : ℕ) (ws : List Want) → m ≡ n → find t (take m ws) ≡ find t (take n ws)
  same_count m n ws e = ap (λ (k : ℕ). find t (take k ws)) e

  none_later : (n at : ℕ) (x : Want) (ws : List Want) → nat_le n at ≡ false → NoneBefore n at (x ∷ ws) → (t x ≡ false) × NoneBefore n (suc at) ws
  none_later n at x ws before none =
      let lt : at < n = leb-false n at before in
      let more : n - at ≡ suc (n - suc at) = omega (arith, lt) in
      none_here x (take (n - suc at) ws) (t x) refl (sym (same_count (n - at) (suc (n - suc at)) (x ∷ ws) more) ∙ none)

  none_past : (n at : ℕ) (ws : List Want) → nat_le n at ≡ true → NoneBefore n (suc at) ws
  none_past n at ws past =
      let le : n ≤ at = leb-true n at past in
      let nothing : n - suc at ≡ 0 = omega (arith, le) in
      same_count (n - suc at) 0 ws nothing

  first_by : (from at : ℕ) (x : Want) (ws : List Want) (p b : Bool) → nat_le from at ≡ p → t x ≡ b → NoneBefore from at (x ∷ ws) → (NoneBefore from (suc at) ws → want_of (found_at from (suc at) t ws) ≡ find t ws) → want_of (cond (p && b) (Some (at, x)) (found_at from (suc at) t ws)) ≡ cond b (Some x) (find t ws)
  first_by from at x ws true true past is none rest = refl
  first_by from at x ws true false past is none rest = rest (none_past from at ws past)
  first_by from at x ws false b before is none rest =
      let nones = none_later from at x ws before none in
      rest nones.1 ∙ sym (ap (λ (b : Bool). cond b (Some x) (find t ws)) (sym is ∙ nones.0))

  first_at : (from at : ℕ) (ws : List Want) → NoneBefore from at ws → want_of (found_at from at t ws) ≡ find t ws
  first_at from at [] none = refl
  first_at from at (x ∷ ws) none = first_by from at x ws (nat_le from at) (t x) refl refl none (first_at from (suc at) ws)

  -- what is found stands no earlier than the first, and within the list
  bounds_by : (from at : ℕ) (x : Want) (ws : List Want) (f : ℕ × Want) (b : Bool) → Some f ≡ cond b (Some (at, x)) (found_at from (suc at) t ws) → (Some f ≡ found_at from (suc at) t ws → (suc at ≤ f.0) × (f.0 ≤ suc at + length ws)) → (at ≤ f.0) × (f.0 ≤ at + length (x ∷ ws))
  bounds_by from at x ws f true e rest =
      let here : f.0 ≡ at = ap place e in
      (omega (arith, here), omega (arith, here))
  bounds_by from at x ws f false e rest =
      let both = rest e in
      (omega (arith, both.0), omega (arith, both.1))

  bounds : (from at : ℕ) (ws : List Want) (f : ℕ × Want) → Some f ≡ found_at from at t ws → (at ≤ f.0) × (f.0 ≤ at + length ws)
  bounds from at [] f is = absurd (cc)
  bounds from at (x ∷ ws) f is = bounds_by from at x ws f (nat_le from at && t x) is (bounds from (suc at) ws f)

  -- and none before it passes
  until_later : (from at : ℕ) (x : Want) (ws : List Want) (f : ℕ × Want) → t x ≡ false → Some f ≡ found_at from (suc at) t ws → NoneBefore f.0 (suc at) ws → NoneBefore f.0 at (x ∷ ws)
  until_later from at x ws f off e none =
      let past : suc at ≤ f.0 = (bounds from (suc at) ws f e).0 in
      let more : f.0 - at ≡ suc (f.0 - suc at) = omega (arith, past) in
      same_count (f.0 - at) (suc (f.0 - suc at)) (x ∷ ws) more ∙ none_then x (take (f.0 - suc at) ws) off none

  until_by : (from at : ℕ) (x : Want) (ws : List Want) (f : ℕ × Want) (p b : Bool) → nat_le from at ≡ p → t x ≡ b → NoneBefore from at (x ∷ ws) → Some f ≡ cond (p && b) (Some (at, x)) (found_at from (suc at) t ws) → (NoneBefore from (suc at) ws → Some f ≡ found_at from (suc at) t ws → NoneBefore f.0 (suc at) ws) → NoneBefore f.0 at (x ∷ ws)
  until_by from at x ws f true true past is none e rest =
      let here : f.0 ≡ at = ap place e in
      let nothing : f.0 - at ≡ 0 = omega (arith, here) in
      same_count (f.0 - at) 0 (x ∷ ws) nothing
  until_by from at x ws f true false past is none e rest = until_later from at x ws f is e (rest (none_past from at ws past) e)
  until_by from at x ws f false b before is none e rest =
      let nones = none_later from at x ws before none in
      until_later from at x ws f nones.0 e (rest nones.1 e)

  none_until : (from at : ℕ) (ws : List Want) (f : ℕ × Want) → NoneBefore from at ws → Some f ≡ found_at from at t ws → NoneBefore f.0 at ws
  none_until from at [] f none is = absurd (cc)
  none_until from at (x ∷ ws) f none is = until_by from at x ws f (nat_le from at) (t x) refl refl none is (none_until from (suc at) ws f)

  all_before : (n : ℕ) (ws : List Want) → find t (take (n - 0) ws) ≡ find t (take n ws)
  all_before n ws = let e : n - 0 ≡ n = omega arith in same_count (n - 0) n ws e

  pub first_from : (n : ℕ) (ws : List Want) → NoneAmong n t ws → want_of (found_from n t ws) ≡ find t ws
  first_from n ws none = first_at n 0 ws (all_before n ws ∙ none)

  pub none_till : (n : ℕ) (ws : List Want) (f : ℕ × Want) → NoneAmong n t ws → Some f ≡ found_from n t ws → NoneAmong f.0 t ws
  none_till n ws f none is = sym (all_before f.0 ws) ∙ none_until n 0 ws f (all_before n ws ∙ none) is

  pub stands_within : (n : ℕ) (ws : List Want) (f : ℕ × Want) → Some f ≡ found_from n t ws → f.0 ≤ length ws
  stands_within n ws f is = omega (arith, (bounds n 0 ws f is).1)

  -- ---- of two lists

  none_nothing : (n : ℕ) → NoneAmong n t []
  none_nothing zero = refl
  none_nothing (suc n) = refl

  none_front : (n : ℕ) (xs ys : List Want) → NoneAmong n t (xs ++ ys) → NoneAmong n t xs
  none_front n [] ys none = none_nothing n
  none_front zero (x ∷ xs) ys none = refl
  none_front (suc n) (x ∷ xs) ys none =
      let nones = none_here x (take n (xs ++ ys)) (t x) refl none in
      none_then x (take n xs) nones.0 (none_front n xs ys nones.1)

  none_front_of : (n : ℕ) (xs ys : List Want) → n ≤ length xs → NoneAmong n t xs → NoneAmong n t (xs ++ ys)
  none_front_of zero xs ys fits none = refl
  none_front_of (suc n) [] ys fits none = absurd (omega (arith, fits))
  none_front_of (suc n) (x ∷ xs) ys fits none =
      let nones = none_here x (take n xs) (t x) refl none in
      none_then x (take n (xs ++ ys)) nones.0 (none_front_of n xs ys (omega (arith, fits)) nones.1)

  none_back : (n : ℕ) (xs ys : List Want) → NoneAmong n t (xs ++ ys) → NoneAmong (n - length xs) t ys
  none_back n [] ys none = all_before n ys ∙ none
  none_back zero (x ∷ xs) ys none = let e : 0 - suc (length xs) ≡ 0 = omega arith in same_count (0 - suc (length xs)) 0 ys e
  none_back (suc n) (x ∷ xs) ys none =
      let e : suc n - suc (length xs) ≡ n - length xs = omega arith in
      same_count (suc n - suc (length xs)) (n - length xs) ys e ∙ none_back n xs ys (none_here x (take n (xs ++ ys)) (t x) refl none).1

  none_all : (xs ys : List Want) → find t xs ≡ None → NoneAmong (length xs) t (xs ++ ys)
  none_all [] ys none = refl
  none_all (x ∷ xs) ys none =
      let nones = none_here x xs (t x) refl none in
      none_then x (take (length xs) (xs ++ ys)) nones.0 (none_all xs ys nones.1)

  -- of none of so many from the first, none of fewer
  none_fewer : (k n : ℕ) (ws : List Want) → k ≤ n → NoneAmong n t ws → NoneAmong k t ws
  none_fewer zero n ws few none = refl
  none_fewer (suc k) zero ws few none = absurd (omega (arith, few))
  none_fewer (suc k) (suc n) [] few none = refl
  none_fewer (suc k) (suc n) (x ∷ ws) few none =
      let nones = none_here x (take n ws) (t x) refl none in
      none_then x (take k ws) nones.0 (none_fewer k n ws (omega (arith, few)) nones.1)

  none_behind : (k : ℕ) (xs ys : List Want) → find t xs ≡ None → NoneAmong k t ys → NoneAmong (length xs + k) t (xs ++ ys)
  none_behind k [] ys none more = let e : 0 + k ≡ k = omega arith in same_count (0 + k) k ys e ∙ more
  none_behind k (x ∷ xs) ys none more =
      let nones = none_here x xs (t x) refl none in
      let e : suc (length xs) + k ≡ suc (length xs + k) = omega arith in
      same_count (suc (length xs) + k) (suc (length xs + k)) (x ∷ (xs ++ ys)) e
      ∙ none_then x (take (length xs + k) (xs ++ ys)) nones.0 (none_behind k xs ys nones.1 more)

abbrev pub pods_of : List Line → List Want
pods_of ls = pods_in (wants_in ls)

module _ (tops : Tops) (t : Want → Bool) where
  abbrev main_pods : List Want
  main_pods = pods_of (lines_in tops.main)

  abbrev exit_pods : List Want
  exit_pods = pods_of (exit_lines tops.exit)

  both : pods_of (lines_of tops) ≡ main_pods ++ exit_pods
  both = kind_then Pod (lines_in tops.main) (exit_lines tops.exit)

  all_found : find t (pods_of (lines_of tops)) ≡ option_or (find t main_pods) (find t exit_pods)
  all_found = ap (find t) both ∙ find-append t main_pods exit_pods

  module _ (n : ℕ) (none : NoneAmong n t (pods_of (lines_of tops))) where
    none_both : NoneAmong n t (main_pods ++ exit_pods)
    none_both = subst (NoneAmong n t) both none

    main_first : want_of (found_from n t main_pods) ≡ find t main_pods
    main_first = first_from t n main_pods (none_front t n main_pods exit_pods none_both)

    -- the entrypoint has one
    pub main_pod : (f : ℕ × Want) → Some f ≡ found_from n t main_pods → Some f.1 ≡ find t (pods_of (lines_of tops))
    main_pod f has = ap (λ (o : Option Want). option_or o (find t exit_pods)) (ap want_of has ∙ main_first) ∙ sym all_found

    pub main_known : (f : ℕ × Want) → Some f ≡ found_from n t main_pods → NoneAmong f.0 t (pods_of (lines_of tops))
    main_known f has =
        subst (NoneAmong f.0 t) (sym both)
        (none_front_of t f.0 main_pods exit_pods (stands_within t n main_pods f has)
        (none_till t n main_pods f (none_front t n main_pods exit_pods none_both) has))

    -- it has none
    module _ (lacks : None ≡ found_from n t main_pods) where
      main_none : find t main_pods ≡ None
      main_none = sym (ap want_of lacks ∙ main_first)

      pub no_exit : tops.exit ≡ None → None ≡ find t (pods_of (lines_of tops))
      no_exit gone =
          ap (λ (e : Option Made). find t (pods_of (exit_lines e))) (sym gone)
          ∙ ap (λ (o : Option Want). option_or o (find t exit_pods)) (sym main_none)
          ∙ sym all_found

      pub exit_pod : (e : Made) (o : Option Want) (f : Found) (k before : ℕ) → tops.exit ≡ Some e → o ≡ want_of f → f ≡ found_from k t (pods_of (lines_in e)) → k ≡ n - before → before ≡ length main_pods → o ≡ find t (pods_of (lines_of tops))
      exit_pod e o f k before is seen found rest count =
          seen
          ∙ ap want_of found
          ∙ ap (λ (k : ℕ). want_of (found_from k t (pods_of (lines_in e)))) (rest ∙ ap (λ (b : ℕ). n - b) count)
          ∙ ap (λ (x : Option Made). want_of (found_from (n - length main_pods) t (pods_of (exit_lines x)))) (sym is)
          ∙ first_from t (n - length main_pods) exit_pods (none_back t n main_pods exit_pods none_both)
          ∙ ap (λ (o : Option Want). option_or o (find t exit_pods)) (sym main_none)
          ∙ sym all_found

      -- the exit handler has one
      pub exit_known : (e : Made) (f : ℕ × Want) (k before known : ℕ) → tops.exit ≡ Some e → Some f ≡ found_from k t (pods_of (lines_in e)) → k ≡ n - before → before ≡ length main_pods → known ≤ before + f.0 → NoneAmong known t (pods_of (lines_of tops))
      exit_known e f k before known is found rest count few =
          let from : k ≡ n - length main_pods = rest ∙ ap (λ (b : ℕ). n - b) count in
          let here : Some f ≡ found_from (n - length main_pods) t exit_pods =
          found
          ∙ ap (λ (k : ℕ). found_from k t (pods_of (lines_in e))) from
          ∙ ap (λ (x : Option Made). found_from (n - length main_pods) t (pods_of (exit_lines x))) (sym is) in
          let till : NoneAmong f.0 t exit_pods = none_till t (n - length main_pods) exit_pods f (none_back t n main_pods exit_pods none_both) here in
          let both_till : NoneAmong (length main_pods + f.0) t (main_pods ++ exit_pods) = none_behind t f.0 main_pods exit_pods main_none till in
          subst (NoneAmong known t) (sym both) (none_fewer t known (length main_pods + f.0) (main_pods ++ exit_pods) (omega (arith, few, count)) both_till)

  -- ---- where it stands

  module _ (n : ℕ) where
    exact_both : found_from n t (pods_of (lines_of tops)) ≡ option_or (found_from n t main_pods) (moved (length main_pods) (found_from (n - length main_pods) t exit_pods))
    exact_both = ap (found_from n t) both ∙ found_in_both t n main_pods exit_pods

    pub main_exact : (f : ℕ × Want) → Some f ≡ found_from n t main_pods → Some f ≡ found_from n t (pods_of (lines_of tops))
    main_exact f has =
        ap (λ (o : Found). option_or o (moved (length main_pods) (found_from (n - length main_pods) t exit_pods))) has ∙ sym exact_both

    module _ (lacks : None ≡ found_from n t main_pods) where
      exit_alone : moved (length main_pods) (found_from (n - length main_pods) t exit_pods) ≡ found_from n t (pods_of (lines_of tops))
      exit_alone =
          ap (λ (o : Found). option_or o (moved (length main_pods) (found_from (n - length main_pods) t exit_pods))) lacks ∙ sym exact_both

      pub no_exit_exact : tops.exit ≡ None → None ≡ found_from n t (pods_of (lines_of tops))
      no_exit_exact gone =
          ap (λ (e : Option Made). moved (length main_pods) (found_from (n - length main_pods) t (pods_of (exit_lines e)))) (sym gone) ∙ exit_alone

      pub exit_exact : (e : Made) (f : Found) (k before : ℕ) → tops.exit ≡ Some e → f ≡ found_from k t (pods_of (lines_in e)) → k ≡ n - before → before ≡ length main_pods → moved before f ≡ found_from n t (pods_of (lines_of tops))
      exit_exact e f k before is found rest count =
          ap (λ (b : ℕ). moved b f) count
          ∙ ap (λ (o : Found). moved (length main_pods) o) (
          found
          ∙ ap (λ (k : ℕ). found_from k t (pods_of (lines_in e))) (rest ∙ ap (λ (b : ℕ). n - b) count)
          ∙ ap (λ (x : Option Made). found_from (n - length main_pods) t (pods_of (exit_lines x))) (sym is)
          )
          ∙ exit_alone

  -- what stands there can be counted where all can
  pub counts : (e : Made) (f : ℕ × Want) (k before sum : ℕ) → tops.exit ≡ Some e → Some f ≡ found_from k t (pods_of (lines_in e)) → before ≡ length main_pods → length (pods_of (lines_of tops)) < 2 ^ 64 → sum ≡ min (before + f.0) (2 ^ 64 - 1) → sum ≡ before + f.0
  counts e f k before sum is found count few sums =
      let within : f.0 ≤ length (pods_of (lines_in e)) = stands_within t k (pods_of (lines_in e)) f found in
      let same : length exit_pods ≡ length (pods_of (lines_in e)) = ap (λ (x : Option Made). length (pods_of (exit_lines x))) is in
      let all : length (pods_of (lines_of tops)) ≡ length main_pods + length exit_pods = ap length both ∙ length-append main_pods exit_pods in
      omega (arith, within, same, all, few, count, sums)
