-- What is to be shown of the operands of a language, for its texts to be read as the grammar says.
use Rattle.std.specs.Prelude.{◌≡◌, ℕ, [], ◌∷◌, ◌++◌, Bool, true, IsTrue, Option, None, Some}
use Rattle.base_types.specs.Bytes.{is_space}
use Rattle.connectives.specs.Grammar.{Text, Language}
use Rattle.connectives.specs.Reading.{Machine, kind, read, past_operand}
use Rattle.connectives.specs.declared.state.Around.{Around}
use Rattle.connectives.specs.declared.state.State.TheVariants.{Wants, Done}
use Rattle.connectives.specs.declared.state.Next.{Next}
use Rattle.connectives.specs.declared.state.Next.TheVariants.{Inside, Ended, Before, Stuck}
use Rattle.connectives.proofs.ByteKinds.{ends_operand}

-- an operand ends before this text
abbrev pub is_end : Text → Bool
is_end [] = true
is_end (b ∷ t) = ends_operand (kind b)

abbrev pub IsBegun : {I : Type 0} → (I → Text → Text → Type 0) → Option I → Text → Text → Type 0
IsBegun Begun None y r = Unit {0}
IsBegun Begun (Some i) y r = Begun i y r

-- what a byte makes of the operand that has begun with the text y
abbrev pub IsNext : {E I : Type 0} → Language E → (I → Text → Text → Type 0) → Next E I → ℕ → Text → Text → Type 0
IsNext L Begun (Inside i) b y r = Begun i y r
IsNext L Begun (Ended e) b y r = L.IsOperand y e r
IsNext L Begun (Before e) b y r = L.IsOperand y e (b ∷ r)
IsNext L Begun Stuck b y r = Unit {0}

abbrev pub IsStopped : {E : Type 0} → Language E → Option E → Text → Type 0
IsStopped L None y = Unit {0}
IsStopped L (Some e) y = L.IsOperand y e []

-- Begun i y r: an operand has begun with y, of which r is still to come
pub record Facts {E I : Type 0} (L : Language E) (m : Machine E I) : Type 1 where
  pub Begun : I → Text → Text → Type 0
  pub begins : (b : ℕ) (r : Text) → IsBegun Begun (m.begin b) (b ∷ r) r
  pub goes_on : (i : I) (b : ℕ) (y r : Text) → Begun i y (b ∷ r) → IsNext L Begun (m.go_on i b) b y r
  pub stops : (i : I) (y : Text) → Begun i y [] → IsStopped L (m.stop i) y
  -- an operand takes the spaces behind it
  pub spaced : (b : ℕ) (t u r : Text) (e : E) → IsTrue (is_space b) → u ≡ b ∷ r → L.IsOperand t e u → L.IsOperand t e r
  -- what is an operand is read
  pub reads : (t r : Text) (e : E) → L.IsOperand t e r → IsTrue (is_end r) → (a : Around E) →
      read L.joins m (Wants a) t ≡ read L.joins m (Done (past_operand L.joins e a)) r
  -- what has begun can be ended
  pub finishes : (i : I) (y r : Text) → Begun i y r →
      (p : Text) × (e : E) × ((z u : Text) → Begun i z (p ++ u) → L.IsOperand z e u)
  pub sample : (p : Text) × (e : E) × ((u : Text) → L.IsOperand (p ++ u) e u)
