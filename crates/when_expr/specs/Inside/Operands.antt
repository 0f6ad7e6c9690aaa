-- The reading of an operand of a `when`, byte by byte.
use Rattle.std.specs.Prelude.{ℕ, [], ◌∷◌, ◌++◌, true, false, ◌==◌, Option, Some, None, if◌then◌else◌, bytes_eq}
use Rattle.base_types.specs.Bytes.{is_space}
use Rattle.connectives.specs.Grammar.{Text}
use Rattle.connectives.specs.Reading.{Machine}
use Rattle.connectives.specs.declared.state.Next.{Next}
use Rattle.connectives.specs.declared.state.Next.TheVariants.{Inside, Ended, Before, Stuck}
use Rattle.when_expr.specs.declared.steps.Comparison.{Comparison}
use Rattle.when_expr.specs.declared.steps.Comparison.TheVariants as c
use Rattle.when_expr.specs.declared.steps.Side.{Side}
use Rattle.when_expr.specs.declared.steps.Side.TheVariants.{Quoted, Word}
use Rattle.when_expr.specs.declared.inner.Letter.{Letter}
use Rattle.when_expr.specs.declared.inner.Letter.TheVariants as k
use Rattle.when_expr.specs.declared.inner.Mark.{Mark}
use Rattle.when_expr.specs.declared.inner.Mark.TheVariants as m
use Rattle.when_expr.specs.declared.inner.Place.{Place}
use Rattle.when_expr.specs.declared.inner.Place.TheVariants.{First, Second}
use Rattle.when_expr.specs.declared.inner.Inner.{Inner}
use Rattle.when_expr.specs.declared.inner.Inner.TheVariants.{InQuote, InWord, HasTerm, InOrder, WantsTerm}
use Rattle.when_expr.specs.Expression.{Condition, literal, test}
use Rattle.when_expr.specs.Grammar.{is_quote, spelling}
use Rattle.when_expr.specs.Inside.Postfix.{term_of, order_of}

abbrev pub sign_letter : ℕ → Letter
sign_letter b =
    if b == 33 then k.Bang
    else (if b == 40 then k.Opening
    else (if b == 41 then k.Ending
    else (if b == 38 then k.Ending
    else (if b == 124 then k.Ending
    else (if b == 61 then k.Equals
    else (if b == 60 then k.Less
    else (if b == 62 then k.Greater
    else k.OfWord)))))))

-- what a byte is to operands
abbrev pub letter : ℕ → Letter
letter b = if is_space b then k.Blank else (if is_quote b then k.Quote else sign_letter b)

-- ---- literals

abbrev pub literal_word : Text → Option Condition
literal_word w =
    if bytes_eq w (spelling true) then Some (literal true)
    else (if bytes_eq w (spelling false) then Some (literal false) else None)

-- the literal that a term may be, where no order follows
abbrev pub literal_of : Side → Option Condition
literal_of (Quoted t) = None
literal_of (Word w) = literal_word w

abbrev pub on_literal : Option Condition → Next Condition Inner
on_literal None = Stuck
on_literal (Some e) = Before e

-- ---- one byte more

-- behind a first term
abbrev pub on_term : Letter → Side → Next Condition Inner
on_term k.OfWord t = Stuck
on_term k.Blank t = Inside (HasTerm t)
on_term k.Quote t = Stuck
on_term k.Bang t = Inside (InOrder m.Bang t)
on_term k.Opening t = Stuck
on_term k.Ending t = on_literal (literal_of t)
on_term k.Equals t = Inside (InOrder m.Equals t)
on_term k.Less t = Inside (InOrder m.Less t)
on_term k.Greater t = Inside (InOrder m.Greater t)

-- where a second term is to come
abbrev pub on_second : Letter → ℕ → Side → Comparison → Next Condition Inner
on_second k.OfWord b t o = Inside (InWord (b ∷ []) (Second t o))
on_second k.Blank b t o = Inside (WantsTerm t o)
on_second k.Quote b t o = Inside (InQuote b [] (Second t o))
on_second k.Bang b t o = Stuck
on_second k.Opening b t o = Stuck
on_second k.Ending b t o = Stuck
on_second k.Equals b t o = Stuck
on_second k.Less b t o = Stuck
on_second k.Greater b t o = Stuck

-- the order of a first byte and a `=`
abbrev pub long_order : Mark → Comparison
long_order m.Equals = c.Equal
long_order m.Bang = c.Unequal
long_order m.Less = c.AtMost
long_order m.Greater = c.AtLeast

abbrev pub on_short : Letter → ℕ → Mark → Side → Next Condition Inner
on_short k b m.Equals t = Stuck
on_short k b m.Bang t = Stuck
on_short k b m.Less t = on_second k b t c.Below
on_short k b m.Greater t = on_second k b t c.Above

-- behind the first byte of an order
abbrev pub on_order : Letter → ℕ → Mark → Side → Next Condition Inner
on_order k.Equals b m t = Inside (WantsTerm t (long_order m))
on_order k b m t = on_short k b m t

abbrev pub on_ended : Letter → Text → Place → Next Condition Inner
on_ended k w First = on_term k (Word w)
on_ended k w (Second l o) = Before (test (term_of l) (order_of o) (term_of (Word w)))

abbrev pub on_word : Letter → ℕ → Text → Place → Next Condition Inner
on_word k.OfWord b w p = Inside (InWord (w ++ b ∷ []) p)
on_word k b w p = on_ended k w p

-- behind a quote that closes
abbrev pub on_closed : Text → Place → Next Condition Inner
on_closed t First = Inside (HasTerm (Quoted t))
on_closed t (Second l o) = Ended (test (term_of l) (order_of o) (term_of (Quoted t)))

abbrev pub on_quote : ℕ → ℕ → Text → Place → Next Condition Inner
on_quote b q t p = if b == q then on_closed t p else Inside (InQuote q (t ++ b ∷ []) p)

abbrev pub on_first : Letter → ℕ → Option Inner
on_first k.OfWord b = Some (InWord (b ∷ []) First)
on_first k.Quote b = Some (InQuote b [] First)
on_first _ b = None

abbrev pub begin : ℕ → Option Inner
begin b = on_first (letter b) b

abbrev pub go_on : Inner → ℕ → Next Condition Inner
go_on (InQuote q t p) b = on_quote b q t p
go_on (InWord w p) b = on_word (letter b) b w p
go_on (HasTerm t) b = on_term (letter b) t
go_on (InOrder m t) b = on_order (letter b) b m t
go_on (WantsTerm t o) b = on_second (letter b) b t o

abbrev pub stop : Inner → Option Condition
stop (InQuote q t p) = None
stop (InWord w First) = literal_word w
stop (InWord w (Second l o)) = Some (test (term_of l) (order_of o) (term_of (Word w)))
stop (HasTerm t) = literal_of t
stop (InOrder m t) = None
stop (WantsTerm t o) = None

abbrev pub when_machine : Machine Condition Inner
when_machine = record { begin = begin; go_on = go_on; stop = stop }
