-- The pieces of a text before a place. T is the whole text, and r the rest from the place on.
use Rattle.std.specs.Prelude.{◌≡◌, ℕ, suc, ◌≤◌, ◌-◌, List, [], ◌∷◌, IsTrue, Option, Some, None}
use Rattle.std.proofs.Common.{ap, sym, subst, arith}
use Rattle.base_types.specs.Bytes.{is_space}
use Rattle.base_types.specs.Limits.{most_levels}
use Rattle.connectives.specs.Grammar.{Text, Joins, Language, Spaces, no_space, space, Or, one_and, more_or, And, one_not, more_and, Not, not_sign, group, operand, Says}
use Rattle.connectives.specs.declared.state.Level.{Level}
use Rattle.connectives.specs.Reading.{negate, times, plus, joined}

-- some `!`, with room n before them and m behind
pub data Nots : ℕ → ℕ → Text → Text → Type 0 where
  no_not : {n : ℕ} {t : Text} → Nots n n t t
  add : {n m : ℕ} {t u r : Text} → Nots n (suc m) t (33 ∷ u) → Spaces u r → Nots n m t r

-- nothing, or a pending operand with its `||`
pub data Sum {E : Type 0} (L : Language E) : ℕ → Text → Option E → Text → Type 0 where
  no_sum : {n : ℕ} {t : Text} → Sum L n t None t
  some_sum : {n : ℕ} {t u r : Text} {e : E} → Or L n t e (124 ∷ 124 ∷ u) → Spaces u r → Sum L n t (Some e) r

-- nothing, or a pending operand with its `&&`
pub data Product {E : Type 0} (L : Language E) : ℕ → Text → Option E → Text → Type 0 where
  no_product : {n : ℕ} {t : Text} → Product L n t None t
  some_product : {n : ℕ} {t u r : Text} {e : E} → And L n t e (38 ∷ 38 ∷ u) → Spaces u r → Product L n t (Some e) r

-- a level from its beginning at t
pub data Within {E : Type 0} (L : Language E) : ℕ → Text → Level E → Text → Type 0 where
  within : {n m : ℕ} {t u v r : Text} {sum product : Option E} →
      Sum L n t sum u → Product L n u product v → Nots n m v r →
      Within L n t (record { sum = sum; product = product; begun = n; room = m }) r

-- all of the levels around, from the front of the text
pub data Outer {E : Type 0} (L : Language E) : Text → List (Level E) → ℕ → Text → Type 0 where
  outermost : {T r : Text} → Spaces T r → Outer L T [] most_levels r
  inner : {T t w r : Text} {ls : List (Level E)} {l : Level E} {n m : ℕ} →
      l.room ≡ suc m → Outer L T ls n t → Within L n t l (40 ∷ w) → Spaces w r → Outer L T (l ∷ ls) m r

pub record At {E : Type 0} (L : Language E) (T : Text) (level : Level E) (outer : List (Level E)) (r : Text) : Type 0 where
  pub begun : ℕ
  pub from : Text
  pub around : Outer L T outer begun from
  pub inside : Within L begun from level r

pub record Past {E : Type 0} (L : Language E) (T : Text) (e : E) (sum : Option E) (outer : List (Level E)) (room : ℕ) (r : Text) : Type 0 where
  pub from : Text
  pub last : Text
  pub around : Outer L T outer room from
  pub before : Sum L room from sum last
  pub chain : And L room last e r

-- ---- spaces at the end

pub spaces_more : {t : Text} {b : ℕ} {r : Text} → IsTrue (is_space b) → (u : Text) → u ≡ b ∷ r → Spaces t u → Spaces t r
spaces_more {t} {b} {r} h u p no_space = subst (λ x. Spaces x r) (sym p) (space h no_space)
spaces_more {t} {b} {r} h u p (space s g) = space s (spaces_more h u p g)

-- an operand takes the spaces behind it
abbrev pub Spaced : {E : Type 0} → Language E → Type 0
Spaced {E} L = (b : ℕ) (t u r : Text) (e : E) → IsTrue (is_space b) → u ≡ b ∷ r → L.IsOperand t e u → L.IsOperand t e r

not_more : {E : Type 0} {L : Language E} {n : ℕ} {t u : Text} {e : E} → Spaced L → (b : ℕ) (r : Text) → IsTrue (is_space b) → u ≡ b ∷ r → Not L n t e u → Not L n t e r
not_more f b r h p (not_sign s g) = not_sign s (not_more f b r h p g)
not_more f b r h p (group {r = x} s g q) = group s g (spaces_more h x p q)
not_more f b r h p (operand {t = t} {r = u} {e = e} g) = operand (f b t u r e h p g)

pub and_more : {E : Type 0} {L : Language E} {n : ℕ} {t u : Text} {e : E} → Spaced L → (b : ℕ) (r : Text) → IsTrue (is_space b) → u ≡ b ∷ r → And L n t e u → And L n t e r
and_more f b r h p (one_not g) = one_not (not_more f b r h p g)
and_more f b r h p (more_and g s k) = more_and g s (not_more f b r h p k)

outer_more : {E : Type 0} {L : Language E} {T u : Text} {ls : List (Level E)} {n : ℕ} (b : ℕ) (r : Text) → IsTrue (is_space b) → u ≡ b ∷ r → Outer L T ls n u → Outer L T ls n r
outer_more b r h p (outermost {r = u} s) = outermost (spaces_more h u p s)
outer_more b r h p (inner {r = u} e o i s) = inner e o i (spaces_more h u p s)

-- ---- a whole operand

nots_below : {n m : ℕ} {t r : Text} → Nots n m t r → m ≤ n
nots_below no_not = omega arith
nots_below (add g s) = let h = nots_below g in omega (arith, h)

pub negations : {E : Type 0} (j : Joins E) (b n : ℕ) (e : E) → suc n ≤ b → negate j (b - n) e ≡ negate j (b - suc n) (j.negated e)
negations j b n e h = let p : b - n ≡ suc (b - suc n) = omega arith in ap (λ k. negate j k e) p

pub none_open : {E : Type 0} (j : Joins E) (n : ℕ) (e : E) → negate j (n - n) e ≡ e
none_open j n e = let p : n - n ≡ 0 = omega arith in ap (λ k. negate j k e) p

nots_close : {E : Type 0} (L : Language E) {n m : ℕ} {t r : Text} → Nots n m t r → (e : E) (q : Text) → Not L m r e q → Not L n t (negate L.joins (n - m) e) q
nots_close L (no_not {n = n} {t = t}) e q h = subst (λ x. Not L n t x q) (sym (none_open L.joins n e)) h
nots_close L (add {n = n} {m = m} {t = t} g s) e q h = subst (λ x. Not L n t x q) (sym (negations L.joins n m e (nots_below g))) (nots_close L g (L.joins.negated e) q (not_sign s h))

product_close : {E : Type 0} {L : Language E} {n : ℕ} {t r : Text} {p : Option E} → Product L n t p r → (e : E) (q : Text) → Not L n r e q → And L n t (times L.joins p e) q
product_close no_product e q h = one_not h
product_close (some_product g s) e q h = more_and g s h

pub sum_close : {E : Type 0} {L : Language E} {n : ℕ} {t r : Text} {p : Option E} → Sum L n t p r → (e : E) (q : Text) → And L n r e q → Or L n t (plus L.joins p e) q
sum_close no_sum e q h = one_and h
sum_close (some_sum g s) e q h = more_or g s h

pub operand_within : {E : Type 0} (L : Language E) (T : Text) (e : E) (level : Level E) (outer : List (Level E)) (q r : Text) (n : ℕ) (t : Text) → Outer L T outer n t → Within L n t level q → Not L level.room q e r → Past L T (joined L.joins e level) level.sum outer level.begun r
operand_within L T e level outer q r n t o (within {u = u} s p k) h = record { from = t; last = u; around = o; before = s; chain = product_close p _ r (nots_close L k e r h) }

pub operand_at : {E : Type 0} (L : Language E) (T : Text) (e : E) (level : Level E) (outer : List (Level E)) (q r : Text) → At L T level outer q → Not L level.room q e r → Past L T (joined L.joins e level) level.sum outer level.begun r
operand_at L T e level outer q r a h = operand_within L T e level outer q r a.begun a.from a.around a.inside h

-- ---- one byte more

-- the space belongs to the last piece that there is
blank_sum : {E : Type 0} {L : Language E} {T t q : Text} {ls : List (Level E)} {n : ℕ} {sum : Option E} (b : ℕ) (r : Text) → IsTrue (is_space b) → q ≡ b ∷ r → Outer L T ls n t → Sum L n t sum q → At L T (record { sum = sum; product = None; begun = n; room = n }) ls r
blank_sum b r h p o (no_sum {n = n} {t = t}) = record { begun = n; from = r; around = outer_more b r h p o; inside = within no_sum no_product no_not }
blank_sum b r h p o (some_sum {n = n} {t = t} {r = q} g s) = record { begun = n; from = t; around = o; inside = within (some_sum g (spaces_more h q p s)) no_product no_not }

blank_product : {E : Type 0} {L : Language E} {T t u q : Text} {ls : List (Level E)} {n : ℕ} {sum product : Option E} (b : ℕ) (r : Text) → IsTrue (is_space b) → q ≡ b ∷ r → Outer L T ls n t → Sum L n t sum u → Product L n u product q → At L T (record { sum = sum; product = product; begun = n; room = n }) ls r
blank_product b r h p o s no_product = blank_sum b r h p o s
blank_product {t = t} b r h p o s (some_product {n = n} {r = q} g k) = record { begun = n; from = t; around = o; inside = within s (some_product g (spaces_more h q p k)) no_not }

blank_nots : {E : Type 0} {L : Language E} {T t u v q : Text} {ls : List (Level E)} {n m : ℕ} {sum product : Option E} (b : ℕ) (r : Text) → IsTrue (is_space b) → q ≡ b ∷ r → Outer L T ls n t → Sum L n t sum u → Product L n u product v → Nots n m v q → At L T (record { sum = sum; product = product; begun = n; room = m }) ls r
blank_nots b r h p o s d no_not = blank_product b r h p o s d
blank_nots {t = t} b r h p o s d (add {n = n} {r = q} g k) = record { begun = n; from = t; around = o; inside = within s d (add g (spaces_more h q p k)) }

pub blank_within : {E : Type 0} {L : Language E} {T t q : Text} {ls : List (Level E)} {n : ℕ} {l : Level E} (b : ℕ) (r : Text) → IsTrue (is_space b) → q ≡ b ∷ r → Outer L T ls n t → Within L n t l q → At L T l ls r
blank_within b r h p o (within s d k) = blank_nots b r h p o s d k

pub not_within : {E : Type 0} {L : Language E} {n m : ℕ} {t r q : Text} {sum product : Option E} {begun : ℕ} (room : ℕ) → room ≡ suc m → q ≡ 33 ∷ r → Within L n t (record { sum = sum; product = product; begun = begun; room = room }) q → Within L n t (record { sum = sum; product = product; begun = begun; room = m }) r
not_within {E} {L} {n} {m} {t} {r} room e p (within {u = u} {v = v} s d k) = within s d (add (subst (λ x. Nots n x v (33 ∷ r)) e (subst (λ x. Nots n room v x) p k)) no_space)

closed_outer : {E : Type 0} {L : Language E} {T t : Text} {l : Level E} {ls : List (Level E)} {m : ℕ} (r : Text) (e : E) → Outer L T (l ∷ ls) m t → Or L m t e (41 ∷ r) → Past L T (joined L.joins e l) l.sum ls l.begun r
closed_outer {E} {L} {T} {t} {l} {ls} {m} r e (inner {t = t0} {w = w} {n = n} p o i s) h = operand_within L T e l ls (40 ∷ w) r n t0 o i (subst (λ x. Not L x (40 ∷ w) e r) (sym p) (group s h no_space))

-- behind a parenthesis that closes
pub closed : {E : Type 0} {L : Language E} (T r : Text) (e : E) (sum : Option E) (level : Level E) (outer : List (Level E)) (room : ℕ) → Past L T e sum (level ∷ outer) room (41 ∷ r) → Past L T (joined L.joins (plus L.joins sum e) level) level.sum outer level.begun r
closed {L = L} T r e sum level outer room a = closed_outer r (plus L.joins sum e) a.around (sum_close a.before e _ a.chain)

outermost_at : {E : Type 0} {L : Language E} {T t : Text} {n : ℕ} {e : E} → Outer L T [] n t → Or L n t e [] → Says L T e
outermost_at (outermost {r = t} s) h = (t, s, h)

-- the end of the text
pub ended : {E : Type 0} {L : Language E} (T : Text) (e : E) (sum : Option E) (room : ℕ) → Past L T e sum [] room [] → Says L T (plus L.joins sum e)
ended T e sum room a = outermost_at a.around (sum_close a.before e [] a.chain)
