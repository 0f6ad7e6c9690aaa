-- The reading of an operand of a `depends`, byte by byte.
use Rattle.std.specs.Prelude.{ℕ, List, [], ◌∷◌, ◌++◌, length, Bool, true, false, ◌==◌, nat_lt, Option, Some, None, if◌then◌else◌, bytes_eq}
use Rattle.std.specs.List.{list_any}
use Rattle.base_types.specs.Bytes.{is_name_byte}
use Rattle.base_types.specs.Limits.{longest_name}
use Rattle.connectives.specs.Grammar.{Text}
use Rattle.connectives.specs.Reading.{Machine}
use Rattle.connectives.specs.declared.state.Next.{Next}
use Rattle.connectives.specs.declared.state.Next.TheVariants.{Inside, Ended, Before, Stuck}
use Rattle.depends_expr.specs.declared.operands.Inner.{Inner}
use Rattle.depends_expr.specs.declared.operands.Inner.TheVariants.{InName, InResult}
use Rattle.depends_expr.specs.Expression.{Word, succeeded, failed, errored, skipped, omitted, daemoned, any_succeeded, all_failed, Expression, bare, has}
use Rattle.depends_expr.specs.Grammar.{spelling}

-- the result that a text spells
abbrev pub words : List Word
words = succeeded ∷ failed ∷ errored ∷ skipped ∷ omitted ∷ daemoned ∷ any_succeeded ∷ all_failed ∷ []

abbrev pub spelled : Text → List Word → Option Word
spelled t [] = None
spelled t (w ∷ ws) = if bytes_eq (spelling w) t then Some w else spelled t ws

-- what is left of a text behind its front
abbrev pub behind : Text → Text → Option Text
behind [] t = Some t
behind (b ∷ bs) [] = None
behind (b ∷ bs) (c ∷ cs) = if b == c then behind bs cs else None

abbrev pub is_found : Option Text → Bool
is_found None = false
is_found (Some t) = true

-- whether some result's text begins so
abbrev pub begins_word : Text → Bool
begins_word t = list_any (λ w. is_found (behind t (spelling w))) words

abbrev pub longer_name : Text → ℕ → Next Expression Inner
longer_name name b = if nat_lt (length name) longest_name then Inside (InName (name ++ b ∷ [])) else Stuck

abbrev pub on_name : Text → ℕ → Next Expression Inner
on_name name b =
    if is_name_byte b then longer_name name b
    else (if b == 46 then Inside (InResult name []) else Before (bare name))

abbrev pub on_part : Bool → Text → Text → Next Expression Inner
on_part true name part = Inside (InResult name part)
on_part false name part = Stuck

abbrev pub on_result : Option Word → Text → Text → Next Expression Inner
on_result None name part = on_part (begins_word part) name part
on_result (Some word) name part = Ended (has name word)

abbrev pub begin : ℕ → Option Inner
begin b = if is_name_byte b then Some (InName (b ∷ [])) else None

abbrev pub go_on : Inner → ℕ → Next Expression Inner
go_on (InName name) b = on_name name b
go_on (InResult name part) b = on_result (spelled (part ++ b ∷ []) words) name (part ++ b ∷ [])

abbrev pub stop : Inner → Option Expression
stop (InName name) = Some (bare name)
stop (InResult name part) = None

abbrev pub depends_machine : Machine Expression Inner
depends_machine = record { begin = begin; go_on = go_on; stop = stop }
