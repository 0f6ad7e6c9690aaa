-- What reading a `depends` answers, against its meaning.
use Rattle.std.proofs.Common.{◌≡◌, ℕ, List, Option, Some, None, refl}
use Rattle.connectives.specs.Grammar.{IsBadAt}
use Rattle.depends_expr.specs.Expression.{Expression}
use Rattle.depends_expr.specs.Grammar.{IsDepends, depends_language}
use Rattle.depends_expr.specs.Meaning.{depends_of}
use Rattle.depends_expr.proofs.OperandFacts.{says}

pub said : (t : List ℕ) (e : Expression) → IsDepends t e → depends_of t ≡ Some e
said t e is = (says t e).1 is

pub unsaid : (t : List ℕ) (place : ℕ) → IsBadAt depends_language t place → depends_of t ≡ None
unsaid t place bad = by (depends_of t) refl
  where
    by : (o : Option Expression) → depends_of t ≡ o → depends_of t ≡ None
    by None is = is
    by (Some e) is = absurd (bad.refused e ((says t e).0 is))
