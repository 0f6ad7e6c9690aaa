-- What is an operand is read.
use Rattle.std.specs.Prelude.{◌≡◌, ℕ, [], ◌∷◌, ◌++◌, length, Bool, true, false, not, ◌==◌, nat_lt, IsTrue, Option, codes, refl}
use Rattle.std.proofs.Common.{ap, sym, ◌∙◌, append_assoc, append-nil}
use Rattle.std.specs.List.{list_all}
use Rattle.std.proofs.lemmas.Bool.{false≢true, and_parts, cond-true, cond-false, not-true, eq-eqb}
use Rattle.connectives.specs.Grammar.{Text, Spaces, no_space, space}
use Rattle.connectives.specs.declared.state.Around.{Around}
use Rattle.connectives.specs.declared.state.State.{State}
use Rattle.connectives.specs.declared.state.State.TheVariants.{Wants, Within, Done}
use Rattle.connectives.specs.declared.state.Next.{Next}
use Rattle.connectives.specs.declared.state.Next.TheVariants.{Before}
use Rattle.connectives.specs.Reading.{begun, on_wants, on_next, then_read, past_operand, read}
use Rattle.connectives.proofs.ByteKinds.{other_kind}
use Rattle.connectives.proofs.Facts.{is_end}
use Rattle.connectives.proofs.Taken.{spaces_done}
use Rattle.when_expr.specs.declared.steps.Comparison.{Comparison}
use Rattle.when_expr.specs.declared.steps.Comparison.TheVariants as c
use Rattle.when_expr.specs.declared.steps.Side.{Side}
use Rattle.when_expr.specs.declared.steps.Side.TheVariants.{Quoted, Word}
use Rattle.when_expr.specs.declared.inner.Letter.{Letter}
use Rattle.when_expr.specs.declared.inner.Letter.TheVariants as k
use Rattle.when_expr.specs.declared.inner.Mark.TheVariants as m
use Rattle.when_expr.specs.declared.inner.Place.{Place}
use Rattle.when_expr.specs.declared.inner.Place.TheVariants.{First, Second}
use Rattle.when_expr.specs.declared.inner.Inner.{Inner}
use Rattle.when_expr.specs.declared.inner.Inner.TheVariants.{InQuote, InWord, HasTerm, WantsTerm}
use Rattle.when_expr.specs.Expression.{Order, equal, unequal, below, at_most, above, at_least, Term, word, Condition, literal, test}
use Rattle.when_expr.specs.Grammar.{is_quote, is_word_byte, is_word, lacks, sign, spelling, TermIs, a_word, in_quotes, IsOperand, a_test, a_literal, when_joins, when_language}
use Rattle.when_expr.specs.Inside.Postfix.{term_of, side_of, order_of, comparison_of}
use Rattle.when_expr.specs.Inside.Operands.{letter, on_term, on_second, on_order, on_word, on_closed, on_first, when_machine}
use Rattle.when_expr.proofs.Letters.{space_letter, quote_letter, word_letter, end_letter}
use Rattle.when_expr.proofs.Postfixes.{order_again, term_again}

abbrev run : State Condition Inner → Text → Option Condition
run s t = read when_joins when_machine s t

-- what a byte makes of an operand, and the rest
abbrev go : Next Condition Inner → ℕ → Around Condition → Text → Option Condition
go n b a t = then_read (on_next when_joins n b a) (λ x. run x t)

abbrev behind : Condition → Around Condition → State Condition Inner
behind e a = Done (past_operand when_joins e a)

spaces_term : {t u : Text} → Spaces t u → (x : Side) (a : Around Condition) → run (Within (HasTerm x) a) t ≡ run (Within (HasTerm x) a) u
spaces_term no_space x a = refl
spaces_term (space {b} {t} {u} s h) x a = ap (λ k. go (on_term k x) b a t) (space_letter b s) ∙ spaces_term h x a

spaces_second : {t u : Text} → Spaces t u → (x : Side) (o : Comparison) (a : Around Condition) → run (Within (WantsTerm x o) a) t ≡ run (Within (WantsTerm x o) a) u
spaces_second no_space x o a = refl
spaces_second (space {b} {t} {u} s h) x o a = ap (λ k. go (on_second k b x o) b a t) (space_letter b s) ∙ spaces_second h x o a

-- ---- what may stand at the front of a text

abbrev front_is : (Letter → Bool) → Text → Bool
front_is allows [] = true
front_is allows (b ∷ t) = allows (letter b)

-- no word goes on
abbrev ends_word : Letter → Bool
ends_word k.OfWord = false
ends_word _ = true

-- no sign of an order goes on
abbrev no_equals : Letter → Bool
no_equals k.Equals = false
no_equals _ = true

spaces_front : {t u : Text} (allows : Letter → Bool) → IsTrue (allows k.Blank) → Spaces t u → IsTrue (front_is allows u) → IsTrue (front_is allows t)
spaces_front allows e no_space h = h
spaces_front allows e (space {b} {t} {u} s g) h = ap allows (space_letter b s) ∙ e

end_ends_word : (u : Text) → IsTrue (is_end u) → IsTrue (front_is ends_word u)
end_ends_word [] h = refl
end_ends_word (b ∷ u) h = ap ends_word (end_letter b h)

order_ends_word : (o : Order) (u : Text) → IsTrue (front_is ends_word (sign o ++ u))
order_ends_word equal u = refl
order_ends_word unequal u = refl
order_ends_word below u = refl
order_ends_word at_most u = refl
order_ends_word above u = refl
order_ends_word at_least u = refl

word_front : (w u : Text) → IsTrue (is_word w) → IsTrue (front_is no_equals (w ++ u))
word_front [] u h = absurd (false≢true h)
word_front (b ∷ bs) u h =
    let bytes = and_parts (list_all is_word_byte (b ∷ bs)) (nat_lt 0 (length (b ∷ bs))) h in
    let each = and_parts (is_word_byte b) (list_all is_word_byte bs) bytes.0 in
    ap no_equals (word_letter b each.0)

term_front : {t r : Text} {x : Term} → TermIs t x r → IsTrue (front_is no_equals t)
term_front (a_word {u = u} w h s) = word_front w u h
term_front (in_quotes q w h g s) = ap no_equals (quote_letter q h)

-- ---- words and quotes

word_goes_on : (before w u : Text) (p : Place) (a : Around Condition) → IsTrue (list_all is_word_byte w) → run (Within (InWord before p) a) (w ++ u) ≡ run (Within (InWord (before ++ w) p) a) u
word_goes_on before [] u p a h = ap (λ x. run (Within (InWord x p) a) u) (sym (append-nil before))
word_goes_on before (b ∷ bs) u p a h =
    let parts = and_parts (is_word_byte b) (list_all is_word_byte bs) h in
    ap (λ k. go (on_word k b before p) b a (bs ++ u)) (word_letter b parts.0)
    ∙ word_goes_on (before ++ b ∷ []) bs u p a parts.1
    ∙ ap (λ x. run (Within (InWord x p) a) u) (append_assoc before (b ∷ []) bs)

-- the first byte of an operand
first_byte : (b : ℕ) (t : Text) (f : ℕ → Bool) (k : Letter) (a : Around Condition) → f 32 ≡ false → f 9 ≡ false → f 33 ≡ false → f 40 ≡ false → f 41 ≡ false → f 38 ≡ false → f 124 ≡ false → IsTrue (f b) → letter b ≡ k → run (Wants a) (b ∷ t) ≡ then_read (begun (on_first k b) a) (λ x. run x t)
first_byte b t f k a c d e g h i j u l =
    ap (λ n. then_read (on_wants when_machine n b a) (λ x. run x t)) (other_kind f b c d e g h i j u)
    ∙ ap (λ n. then_read (begun (on_first n b) a) (λ x. run x t)) l

first_word : (w u : Text) (a : Around Condition) → IsTrue (is_word w) → run (Wants a) (w ++ u) ≡ run (Within (InWord w First) a) u
first_word [] u a h = absurd (false≢true h)
first_word (b ∷ bs) u a h =
    let bytes = and_parts (list_all is_word_byte (b ∷ bs)) (nat_lt 0 (length (b ∷ bs))) h in
    let each = and_parts (is_word_byte b) (list_all is_word_byte bs) bytes.0 in
    first_byte b (bs ++ u) is_word_byte k.OfWord a refl refl refl refl refl refl refl each.0 (word_letter b each.0)
    ∙ word_goes_on (b ∷ []) bs u First a each.1

second_word : (w u : Text) (l : Side) (o : Comparison) (a : Around Condition) → IsTrue (is_word w) → run (Within (WantsTerm l o) a) (w ++ u) ≡ run (Within (InWord w (Second l o)) a) u
second_word [] u l o a h = absurd (false≢true h)
second_word (b ∷ bs) u l o a h =
    let bytes = and_parts (list_all is_word_byte (b ∷ bs)) (nat_lt 0 (length (b ∷ bs))) h in
    let each = and_parts (is_word_byte b) (list_all is_word_byte bs) bytes.0 in
    ap (λ k. go (on_second k b l o) b a (bs ++ u)) (word_letter b each.0) ∙ word_goes_on (b ∷ []) bs u (Second l o) a each.1

first_end : (k : Letter) (b : ℕ) (w : Text) → IsTrue (ends_word k) → on_word k b w First ≡ on_term k (Word w)
first_end k.OfWord b w h = absurd (false≢true h)
first_end k.Blank b w h = refl
first_end k.Quote b w h = refl
first_end k.Bang b w h = refl
first_end k.Opening b w h = refl
first_end k.Ending b w h = refl
first_end k.Equals b w h = refl
first_end k.Less b w h = refl
first_end k.Greater b w h = refl

first_word_ends : (u w : Text) (a : Around Condition) → IsTrue (front_is ends_word u) → run (Within (InWord w First) a) u ≡ run (Within (HasTerm (Word w)) a) u
first_word_ends [] w a h = refl
first_word_ends (b ∷ u) w a h = ap (λ n. go n b a u) (first_end (letter b) b w h)

second_end : (k : Letter) (b : ℕ) (w : Text) (l : Side) (o : Comparison) → IsTrue (ends_word k) → on_word k b w (Second l o) ≡ Before (test (term_of l) (order_of o) (word w))
second_end k.OfWord b w l o h = absurd (false≢true h)
second_end k.Blank b w l o h = refl
second_end k.Quote b w l o h = refl
second_end k.Bang b w l o h = refl
second_end k.Opening b w l o h = refl
second_end k.Ending b w l o h = refl
second_end k.Equals b w l o h = refl
second_end k.Less b w l o h = refl
second_end k.Greater b w l o h = refl

second_word_ends : (u w : Text) (l : Side) (o : Comparison) (a : Around Condition) → IsTrue (front_is ends_word u) → run (Within (InWord w (Second l o)) a) u ≡ run (behind (test (term_of l) (order_of o) (word w)) a) u
second_word_ends [] w l o a h = refl
second_word_ends (b ∷ u) w l o a h = ap (λ n. go n b a u) (second_end (letter b) b w l o h)

quote_closes : (q : ℕ) (t u : Text) (p : Place) (a : Around Condition) → run (Within (InQuote q t p) a) (q ∷ u) ≡ go (on_closed t p) q a u
quote_closes q t u p a = ap (λ n. go n q a u) (cond-true (q == q) (on_closed t p) _ (eq-eqb q q refl))

quote_goes_on : (q : ℕ) (before t u : Text) (p : Place) (a : Around Condition) → IsTrue (lacks q t) → run (Within (InQuote q before p) a) (t ++ u) ≡ run (Within (InQuote q (before ++ t) p) a) u
quote_goes_on q before [] u p a h = ap (λ x. run (Within (InQuote q x p) a) u) (sym (append-nil before))
quote_goes_on q before (b ∷ bs) u p a h =
    let parts = and_parts (not (b == q)) (list_all (λ c. not (c == q)) bs) h in
    ap (λ n. go n b a (bs ++ u)) (cond-false (b == q) (on_closed before p) _ (not-true (b == q) parts.0))
    ∙ quote_goes_on q (before ++ b ∷ []) bs u p a parts.1
    ∙ ap (λ x. run (Within (InQuote q x p) a) u) (append_assoc before (b ∷ []) bs)

-- ---- tests

first_term : {t r : Text} {x : Term} → TermIs t x r → IsTrue (front_is ends_word r) → (a : Around Condition) → run (Wants a) t ≡ run (Within (HasTerm (side_of x)) a) r
first_term (a_word {u = u} w h s) z a = first_word w u a h ∙ first_word_ends u w a (spaces_front ends_word refl s z) ∙ spaces_term s (Word w) a
first_term (in_quotes {u = u} q w h g s) z a =
    first_byte q (w ++ (q ∷ u)) is_quote k.Quote a refl refl refl refl refl refl refl h (quote_letter q h)
    ∙ quote_goes_on q [] w (q ∷ u) First a g ∙ quote_closes q w u First a ∙ spaces_term s (Quoted w) a

second_term : {t r : Text} {x : Term} → TermIs t x r → IsTrue (front_is ends_word r) → (l : Side) (o : Comparison) (a : Around Condition) → run (Within (WantsTerm l o) a) t ≡ run (behind (test (term_of l) (order_of o) x) a) r
second_term (a_word {u = u} w h s) z l o a = second_word w u l o a h ∙ second_word_ends u w l o a (spaces_front ends_word refl s z) ∙ spaces_done when_language when_machine s _
second_term (in_quotes {u = u} q w h g s) z l o a =
    ap (λ k. go (on_second k q l o) q a (w ++ (q ∷ u))) (quote_letter q h)
    ∙ quote_goes_on q [] w (q ∷ u) (Second l o) a g ∙ quote_closes q w u (Second l o) a ∙ spaces_done when_language when_machine s _

below_step : (k : Letter) (b : ℕ) (l : Side) → IsTrue (no_equals k) → on_order k b m.Less l ≡ on_second k b l c.Below
below_step k.OfWord b l h = refl
below_step k.Blank b l h = refl
below_step k.Quote b l h = refl
below_step k.Bang b l h = refl
below_step k.Opening b l h = refl
below_step k.Ending b l h = refl
below_step k.Equals b l h = absurd (false≢true h)
below_step k.Less b l h = refl
below_step k.Greater b l h = refl

above_step : (k : Letter) (b : ℕ) (l : Side) → IsTrue (no_equals k) → on_order k b m.Greater l ≡ on_second k b l c.Above
above_step k.OfWord b l h = refl
above_step k.Blank b l h = refl
above_step k.Quote b l h = refl
above_step k.Bang b l h = refl
above_step k.Opening b l h = refl
above_step k.Ending b l h = refl
above_step k.Equals b l h = absurd (false≢true h)
above_step k.Less b l h = refl
above_step k.Greater b l h = refl

order_read : (o : Order) (u : Text) (l : Side) (a : Around Condition) → IsTrue (front_is no_equals u) → run (Within (HasTerm l) a) (sign o ++ u) ≡ run (Within (WantsTerm l (comparison_of o)) a) u
order_read equal u l a h = refl
order_read unequal u l a h = refl
order_read below [] l a h = refl
order_read below (b ∷ u) l a h = ap (λ n. go n b a u) (below_step (letter b) b l h)
order_read at_most u l a h = refl
order_read above [] l a h = refl
order_read above (b ∷ u) l a h = ap (λ n. go n b a u) (above_step (letter b) b l h)
order_read at_least u l a h = refl

-- ---- literals

literal_ends : (r : Text) (b : Bool) (a : Around Condition) → IsTrue (is_end r) → run (Within (HasTerm (Word (spelling b))) a) r ≡ run (behind (literal b) a) r
literal_ends [] true a h = refl
literal_ends [] false a h = refl
literal_ends (c ∷ r) true a h = ap (λ k. go (on_term k (Word (spelling true))) c a r) (end_letter c h)
literal_ends (c ∷ r) false a h = ap (λ k. go (on_term k (Word (spelling false))) c a r) (end_letter c h)

literal_read : (b : Bool) (u r : Text) (a : Around Condition) → Spaces u r → IsTrue (is_end r) → run (Wants a) (spelling b ++ u) ≡ run (behind (literal b) a) r
literal_read true u r a s z = first_word_ends u (codes "true") a (spaces_front ends_word refl s (end_ends_word r z)) ∙ spaces_term s _ a ∙ literal_ends r true a z
literal_read false u r a s z = first_word_ends u (codes "false") a (spaces_front ends_word refl s (end_ends_word r z)) ∙ spaces_term s _ a ∙ literal_ends r false a z

pub reads : {t r : Text} {e : Condition} → IsOperand t e r → IsTrue (is_end r) → (a : Around Condition) → run (Wants a) t ≡ run (behind e a) r
reads (a_test {t = t} {u = u} {v = v} {r = r} {l = l} {m = x} o g s k) z a =
    let left = side_of l in
    let order = comparison_of o in
    first_term g (order_ends_word o u) a ∙ order_read o u left a (spaces_front no_equals refl s (term_front k)) ∙ spaces_second s left order a
    ∙ second_term k (end_ends_word r z) left order a ∙ λ i. run (behind (test (term_again l i) (order_again o i) x) a) r
reads (a_literal {u} {r} b s) z a = literal_read b u r a s z
