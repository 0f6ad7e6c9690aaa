-- The reading of a text, byte by byte: what is open after it, or that no text of the grammar begins so.
use Rattle.std.specs.Prelude.{ℕ, zero, suc, List, [], ◌∷◌, ◌-◌, ◌==◌, Option, Some, None, if◌then◌else◌}
use Rattle.base_types.specs.Bytes.{is_space}
use Rattle.base_types.specs.Limits.{most_levels}
use Rattle.connectives.specs.Grammar.{Text, Joins}
use Rattle.connectives.specs.declared.state.Kind.{Kind}
use Rattle.connectives.specs.declared.state.Kind.TheVariants.{Blank, Bang, Opening, Closing, Ampersand, Bar, Other}
use Rattle.connectives.specs.declared.state.Level.{Level}
use Rattle.connectives.specs.declared.state.Around.{Around}
use Rattle.connectives.specs.declared.state.Behind.{Behind}
use Rattle.connectives.specs.declared.state.State.{State}
use Rattle.connectives.specs.declared.state.State.TheVariants.{Wants, Within, Done, HalfAnd, HalfOr}
use Rattle.connectives.specs.declared.state.Next.{Next}
use Rattle.connectives.specs.declared.state.Next.TheVariants.{Inside, Ended, Before, Stuck}

-- how a language reads its operands, from the first byte on
pub record Machine (E I : Type 0) : Type 0 where
  pub begin : ℕ → Option I  -- by a byte that is neither space nor connective
  pub go_on : I → ℕ → Next E I
  pub stop : I → Option E  -- the operand of a text that ends here

abbrev pub kind : ℕ → Kind
kind b =
    if is_space b then Blank
    else (if b == 33 then Bang
    else (if b == 40 then Opening
    else (if b == 41 then Closing
    else (if b == 38 then Ampersand
    else (if b == 124 then Bar
    else Other)))))

abbrev pub fresh : {E : Type 0} → ℕ → Level E
fresh room = record { sum = None; product = None; begun = room; room = room }

abbrev pub start : {E I : Type 0} → State E I
start = Wants (record { level = fresh most_levels; outer = [] })

-- ---- operands

abbrev pub negate : {E : Type 0} → Joins E → ℕ → E → E
negate j zero e = e
negate j (suc k) e = negate j k (j.negated e)

abbrev pub times : {E : Type 0} → Joins E → Option E → E → E
times j None e = e
times j (Some d) e = j.all_of d e

abbrev pub plus : {E : Type 0} → Joins E → Option E → E → E
plus j None e = e
plus j (Some d) e = j.any_of d e

-- behind a whole operand, its `!` are closed, and a pending `&&` takes it
abbrev pub joined : {E : Type 0} → Joins E → E → Level E → E
joined j e level = times j level.product (negate j (level.begun - level.room) e)

abbrev pub past : {E : Type 0} → Joins E → E → Level E → List (Level E) → Behind E
past j e level outer = record { last = joined j e level; sum = level.sum; outer = outer; room = level.begun }

abbrev pub past_operand : {E : Type 0} → Joins E → E → Around E → Behind E
past_operand j e a = past j e a.level a.outer

-- ---- one byte more

abbrev pub add_not : {E I : Type 0} → ℕ → Level E → List (Level E) → Option (State E I)
add_not zero level outer = None
add_not (suc room) level outer = Some (Wants (record {
  level = record { sum = level.sum; product = level.product; begun = level.begun; room = room };
  outer = outer;
}))

abbrev pub open_level : {E I : Type 0} → ℕ → Level E → List (Level E) → Option (State E I)
open_level zero level outer = None
open_level (suc room) level outer = Some (Wants (record { level = fresh room; outer = level ∷ outer }))

abbrev pub close_level : {E I : Type 0} → Joins E → E → Option E → List (Level E) → Option (State E I)
close_level j e sum [] = None
close_level j e sum (level ∷ outer) = Some (Done (past j (plus j sum e) level outer))

abbrev pub begun : {E I : Type 0} → Option I → Around E → Option (State E I)
begun None a = None
begun (Some i) a = Some (Within i a)

abbrev pub on_wants : {E I : Type 0} → Machine E I → Kind → ℕ → Around E → Option (State E I)
on_wants m Blank b a = Some (Wants a)
on_wants m Bang b a = add_not a.level.room a.level a.outer
on_wants m Opening b a = open_level a.level.room a.level a.outer
on_wants m Closing b a = None
on_wants m Ampersand b a = None
on_wants m Bar b a = None
on_wants m Other b a = begun (m.begin b) a

abbrev pub on_done : {E I : Type 0} → Joins E → Kind → Behind E → Option (State E I)
on_done j Blank x = Some (Done x)
on_done j Bang x = None
on_done j Opening x = None
on_done j Closing x = close_level j x.last x.sum x.outer
on_done j Ampersand x = Some (HalfAnd x)
on_done j Bar x = Some (HalfOr x)
on_done j Other x = None

abbrev pub on_next : {E I : Type 0} → Joins E → Next E I → ℕ → Around E → Option (State E I)
on_next j (Inside i) b a = Some (Within i a)
on_next j (Ended e) b a = Some (Done (past_operand j e a))
on_next j (Before e) b a = on_done j (kind b) (past_operand j e a)
on_next j Stuck b a = None

abbrev pub after_and : {E : Type 0} → Behind E → Around E
after_and x = record {
  level = record { sum = x.sum; product = Some x.last; begun = x.room; room = x.room };
  outer = x.outer;
}

abbrev pub after_or : {E : Type 0} → Joins E → Behind E → Around E
after_or j x = record {
  level = record { sum = Some (plus j x.sum x.last); product = None; begun = x.room; room = x.room };
  outer = x.outer;
}

-- what a byte makes of a state: None where no text of the grammar goes on so
abbrev pub step : {E I : Type 0} → Joins E → Machine E I → State E I → ℕ → Option (State E I)
step j m (Wants a) b = on_wants m (kind b) b a
step j m (Within i a) b = on_next j (m.go_on i b) b a
step j m (Done x) b = on_done j (kind b) x
step j m (HalfAnd x) b = if b == 38 then Some (Wants (after_and x)) else None
step j m (HalfOr x) b = if b == 124 then Some (Wants (after_or j x)) else None

-- ---- a whole text

abbrev pub whole : {E : Type 0} → Joins E → E → Option E → List (Level E) → Option E
whole j e sum [] = Some (plus j sum e)
whole j e sum (level ∷ outer) = None

abbrev pub whole_behind : {E : Type 0} → Joins E → Behind E → Option E
whole_behind j x = whole j x.last x.sum x.outer

abbrev pub stopped : {E : Type 0} → Joins E → Option E → Around E → Option E
stopped j None a = None
stopped j (Some e) a = whole_behind j (past_operand j e a)

-- what a text says that ends in this state
abbrev pub final : {E I : Type 0} → Joins E → Machine E I → State E I → Option E
final j m (Wants a) = None
final j m (Within i a) = stopped j (m.stop i) a
final j m (Done x) = whole_behind j x
final j m (HalfAnd x) = None
final j m (HalfOr x) = None

abbrev pub then_read : {E I : Type 0} → Option (State E I) → (State E I → Option E) → Option E
then_read None go = None
then_read (Some s) go = go s

-- what the text says that goes on so
abbrev pub read : {E I : Type 0} → Joins E → Machine E I → State E I → Text → Option E
read j m s [] = final j m s
read j m s (b ∷ bs) = then_read (step j m s b) (λ t. read j m t bs)

abbrev pub then_place : {E I : Type 0} → Option (State E I) → (State E I → ℕ) → ℕ
then_place None go = 0
then_place (Some s) go = suc (go s)

-- how many bytes there are before the first with which no text of the grammar goes on
abbrev pub place : {E I : Type 0} → Joins E → Machine E I → State E I → Text → ℕ
place j m s [] = 0
place j m s (b ∷ bs) = then_place (step j m s b) (λ t. place j m t bs)
