-- The grammar of a `when` (the language of these conditions is this project's own).
use Rattle.std.specs.Prelude.{ℕ, ◌∷◌, ◌++◌, length, Bool, true, false, not, ◌&&◌, ◌||◌, ◌==◌, nat_lt, IsTrue, codes}
use Rattle.std.specs.List.{list_all, list_any}
use Rattle.base_types.specs.Bytes.{is_space}
use Rattle.connectives.specs.Grammar.{Text, Joins, Language, Spaces, Says}
use Rattle.when_expr.specs.Expression.{Order, equal, unequal, below, at_most, above, at_least, Term, quoted, word, Condition, literal, test, negated, all_of, any_of}

-- ---- symbols. In "t is such a symbol, then u", t is a text and u is the rest of it

-- `'` or `"`
abbrev pub is_quote : ℕ → Bool
is_quote b = (b == 39) || (b == 34)

abbrev pub is_sign : ℕ → Bool
is_sign b = list_any (λ sign. b == sign) (codes "!()&|=<>")

-- any other byte (characters beyond ASCII are of such bytes)
abbrev pub is_word_byte : ℕ → Bool
is_word_byte b = not (is_space b || is_quote b || is_sign b)

-- one of them or more
abbrev pub is_word : Text → Bool
is_word w = list_all is_word_byte w && nat_lt 0 (length w)

abbrev pub lacks : ℕ → Text → Bool
lacks q t = list_all (λ b. not (b == q)) t

abbrev pub sign : Order → Text
sign equal = codes "=="
sign unequal = codes "!="
sign below = codes "<"
sign at_most = codes "<="
sign above = codes ">"
sign at_least = codes ">="

abbrev pub spelling : Bool → Text
spelling true = codes "true"
spelling false = codes "false"

-- t is a term, then r: a word, or text between two quotes of one kind that is without this quote
pub data TermIs : Text → Term → Text → Type 0 where
  a_word : {u r : Text} (w : Text) → IsTrue (is_word w) → Spaces u r → TermIs (w ++ u) (word w) r
  in_quotes : {u r : Text} (q : ℕ) (w : Text) →
      IsTrue (is_quote q) → IsTrue (lacks q w) → Spaces u r → TermIs (q ∷ (w ++ (q ∷ u))) (quoted w) r

-- operand = term op term | "true" | "false"
pub data IsOperand : Text → Condition → Text → Type 0 where
  a_test : {t u v r : Text} {l m : Term} (o : Order) →
      TermIs t l (sign o ++ u) → Spaces u v → TermIs v m r → IsOperand t (test l o m) r
  a_literal : {u r : Text} (b : Bool) → Spaces u r → IsOperand (spelling b ++ u) (literal b) r

abbrev pub when_joins : Joins Condition
when_joins = record { negated = negated; all_of = all_of; any_of = any_of }

abbrev pub when_language : Language Condition
when_language = record { joins = when_joins; IsOperand = IsOperand }

-- the text is of the grammar, and says c
abbrev pub IsWhen : Text → Condition → Type 0
IsWhen text c = Says when_language text c
