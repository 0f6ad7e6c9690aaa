-- The grammar of texts whose operands are joined by `||`, `&&`, `!` and parentheses (this project's own; the same for each
-- language of such texts).
use Rattle.std.specs.Prelude.{ℕ, suc, ◌≤◌, List, [], ◌∷◌, ◌++◌, length, take, IsTrue}
use Rattle.base_types.specs.Bytes.{is_space}
use Rattle.base_types.specs.Limits.{most_levels}

abbrev pub Text : Type 0
Text = List ℕ

-- how what texts say is joined
pub record Joins (E : Type 0) : Type 0 where
  pub negated : E → E
  pub all_of : E → E → E
  pub any_of : E → E → E

-- In "t is such a symbol, then u", t is a text and u is the rest of it.
-- IsOperand t e r: t is an operand that says e, then r
pub record Language (E : Type 0) : Type 1 where
  pub joins : Joins E
  pub IsOperand : Text → E → Text → Type 0

-- t is some spaces, perhaps none, then u
pub data Spaces : Text → Text → Type 0 where
  no_space : {t : Text} → Spaces t t
  space : {b : ℕ} {t u : Text} → IsTrue (is_space b) → Spaces t u → Spaces (b ∷ t) u

-- ---- the grammar. "Or L n t e r": t is an `or` that says e, then r, and at most n `!` and `(` are open in it at once.
-- Chains are nested to the left. (Nested to the right they would have the same truth.)
mutual
  -- or = and { "||" and }
  pub data Or {E : Type 0} (L : Language E) : ℕ → Text → E → Text → Type 0 where
    one_and : {n : ℕ} {t r : Text} {e : E} → And L n t e r → Or L n t e r
    more_or : {n : ℕ} {t u v r : Text} {d e : E} →
        Or L n t d (124 ∷ 124 ∷ u) → Spaces u v → And L n v e r → Or L n t (L.joins.any_of d e) r

  -- and = not { "&&" not }
  pub data And {E : Type 0} (L : Language E) : ℕ → Text → E → Text → Type 0 where
    one_not : {n : ℕ} {t r : Text} {e : E} → Not L n t e r → And L n t e r
    more_and : {n : ℕ} {t u v r : Text} {d e : E} →
        And L n t d (38 ∷ 38 ∷ u) → Spaces u v → Not L n v e r → And L n t (L.joins.all_of d e) r

  -- not = "!" not | "(" or ")" | operand
  pub data Not {E : Type 0} (L : Language E) : ℕ → Text → E → Text → Type 0 where
    not_sign : {n : ℕ} {u v r : Text} {e : E} →
        Spaces u v → Not L n v e r → Not L (suc n) (33 ∷ u) (L.joins.negated e) r
    group : {n : ℕ} {u v w r : Text} {e : E} →
        Spaces u v → Or L n v e (41 ∷ w) → Spaces w r → Not L (suc n) (40 ∷ u) e r
    operand : {n : ℕ} {t r : Text} {e : E} → L.IsOperand t e r → Not L n t e r

-- the text is of the grammar, and says e
abbrev pub Says : {E : Type 0} → Language E → Text → E → Type 0
Says L text e = (t : Text) × Spaces text t × Or L most_levels t e []

-- some text of the grammar begins so
abbrev pub IsStart : {E : Type 0} → Language E → Text → Type 0
IsStart {E} L front = (rest : Text) × (e : E) × Says L (front ++ rest) e

-- the longest front of the text that some text of the grammar begins with ends at this byte
pub record StartEndsAt {E : Type 0} (L : Language E) (text : Text) (place : ℕ) : Type 0 where
  pub within : place ≤ length text
  pub begins : IsStart L (take place text)
  pub longest : (k : ℕ) → k ≤ length text → IsStart L (take k text) → k ≤ place

-- the text is not of the grammar, and this is the place of the fault
pub record IsBadAt {E : Type 0} (L : Language E) (text : Text) (place : ℕ) : Type 0 where
  pub refused : (e : E) → Says L text e → ⊥
  pub fault : StartEndsAt L text place
