-- What has been read of an operand is of the grammar.
use Rattle.std.specs.Prelude.{◌≡◌, ℕ, ◌<◌, [], ◌∷◌, ◌++◌, length, Bool, true, false, not, ◌==◌, nat_lt, bytes_eq, IsTrue, Option, Some, None, refl}
use Rattle.std.proofs.Common.{sym, subst, arith, append_assoc, length-append}
use Rattle.std.specs.List.{list_all}
use Rattle.std.proofs.lemmas.Bool.{and_from, and_parts, lt-ltb, cond_both, eqb-true, not_from_false}
use Rattle.std.proofs.lemmas.Slice.Eq.{bytes_eq-Decides}
use Rattle.base_types.specs.Bytes.{is_space}
use Rattle.connectives.specs.Grammar.{Text, Spaces, no_space, space}
use Rattle.connectives.specs.declared.state.Next.{Next}
use Rattle.connectives.specs.declared.state.Next.TheVariants.{Inside}
use Rattle.connectives.proofs.Options.{none_some, some_same}
use Rattle.connectives.proofs.Facts.{IsBegun, IsNext, IsStopped}
use Rattle.connectives.proofs.Levels.{spaces_more}
use Rattle.when_expr.specs.declared.steps.Comparison.{Comparison}
use Rattle.when_expr.specs.declared.steps.Comparison.TheVariants as c
use Rattle.when_expr.specs.declared.steps.Side.{Side}
use Rattle.when_expr.specs.declared.steps.Side.TheVariants.{Quoted, Word}
use Rattle.when_expr.specs.declared.inner.Letter.{Letter}
use Rattle.when_expr.specs.declared.inner.Letter.TheVariants as k
use Rattle.when_expr.specs.declared.inner.Mark.{Mark}
use Rattle.when_expr.specs.declared.inner.Mark.TheVariants as m
use Rattle.when_expr.specs.declared.inner.Place.{Place}
use Rattle.when_expr.specs.declared.inner.Place.TheVariants.{First, Second}
use Rattle.when_expr.specs.declared.inner.Inner.{Inner}
use Rattle.when_expr.specs.declared.inner.Inner.TheVariants.{InQuote, InWord, HasTerm, InOrder, WantsTerm}
use Rattle.when_expr.specs.Expression.{Term, equal, quoted, word, Condition, literal, test}
use Rattle.when_expr.specs.Grammar.{is_quote, is_word_byte, is_word, lacks, sign, spelling, TermIs, a_word, in_quotes, IsOperand, a_test, a_literal, when_language}
use Rattle.when_expr.specs.Inside.Postfix.{term_of, order_of}
use Rattle.when_expr.specs.Inside.Operands.{letter, literal_word, literal_of, on_literal, on_term, on_second, long_order, on_short, on_order, on_ended, on_word, on_closed, on_quote, on_first, begin, go_on, stop}
use Rattle.when_expr.proofs.Letters.{LetterSays, letter_says, letter_is_word}

abbrev mark_byte : Mark → ℕ
mark_byte m.Equals = 61
mark_byte m.Bang = 33
mark_byte m.Less = 60
mark_byte m.Greater = 62

-- an operand has begun with y, of which the term at z is to come
abbrev Waits : Place → Text → Text → Type 0
Waits First y z = y ≡ z
Waits (Second l o) y z = (u : Text) × TermIs y (term_of l) (sign (order_of o) ++ u) × Spaces u z

abbrev pub Begun : Inner → Text → Text → Type 0
Begun (InQuote q t p) y r = Waits p y (q ∷ (t ++ r)) × IsTrue (is_quote q) × IsTrue (lacks q t)
Begun (InWord w p) y r = Waits p y (w ++ r) × IsTrue (is_word w)
Begun (HasTerm t) y r = TermIs y (term_of t) r
Begun (InOrder m t) y r = TermIs y (term_of t) (mark_byte m ∷ r)
Begun (WantsTerm t o) y r = Waits (Second t o) y r

abbrev IsGone : Next Condition Inner → ℕ → Text → Text → Type 0
IsGone n b y r = IsNext when_language Begun n b y r

-- ---- spaces at the end

term_more : {t u : Text} {x : Term} (b : ℕ) (r : Text) → IsTrue (is_space b) → u ≡ b ∷ r → TermIs t x u → TermIs t x r
term_more b r h p (a_word {r = x} w i s) = a_word w i (spaces_more h x p s)
term_more b r h p (in_quotes {r = x} q w i j s) = in_quotes q w i j (spaces_more h x p s)

pub operand_more : {t u : Text} {e : Condition} (b : ℕ) (r : Text) → IsTrue (is_space b) → u ≡ b ∷ r → IsOperand t e u → IsOperand t e r
operand_more b r h p (a_test o g s k) = a_test o g s (term_more b r h p k)
operand_more b r h p (a_literal {r = x} l s) = a_literal l (spaces_more h x p s)

-- ---- words and quotes

one_byte_word : (b : ℕ) → letter b ≡ k.OfWord → IsTrue (is_word (b ∷ []))
one_byte_word b h = and_from _ _ (and_from _ _ (letter_is_word b h) refl) refl

all_bytes : (w : Text) (b : ℕ) → IsTrue (list_all is_word_byte w) → IsTrue (is_word_byte b) → IsTrue (list_all is_word_byte (w ++ b ∷ []))
all_bytes [] b h i = and_from _ _ i refl
all_bytes (c ∷ cs) b h i =
    let parts = and_parts (is_word_byte c) (list_all is_word_byte cs) h in
    and_from _ _ parts.0 (all_bytes cs b parts.1 i)

longer_is_word : (w : Text) (b : ℕ) → IsTrue (is_word w) → letter b ≡ k.OfWord → IsTrue (is_word (w ++ b ∷ []))
longer_is_word w b h k =
    let parts = and_parts (list_all is_word_byte w) (nat_lt 0 (length w)) h in
    let some : 0 < length (w ++ b ∷ []) = rw length-append (omega arith) in
    and_from _ _ (all_bytes w b parts.0 (letter_is_word b k)) (lt-ltb _ _ some)

all_lack : (q : ℕ) (t : Text) (b : ℕ) → IsTrue (lacks q t) → (b == q) ≡ false → IsTrue (lacks q (t ++ b ∷ []))
all_lack q [] b h i = and_from _ _ (not_from_false (b == q) i) refl
all_lack q (c ∷ cs) b h i =
    let parts = and_parts (not (c == q)) (list_all (λ x. not (x == q)) cs) h in
    and_from _ _ parts.0 (all_lack q cs b parts.1 i)

-- ---- one byte more

literal_word_is : (w : Text) (e : Condition) → literal_word w ≡ Some e → (b : Bool) × (w ≡ spelling b) × (e ≡ literal b)
literal_word_is w e p =
    cond_both (bytes_eq w (spelling true)) (Some (literal true)) _ (λ x. x ≡ Some e → (b : Bool) × (w ≡ spelling b) × (e ≡ literal b))
    (λ h p. (true, (bytes_eq-Decides w (spelling true)).0 h, sym (some_same p)))
    (λ _. cond_both (bytes_eq w (spelling false)) (Some (literal false)) None (λ x. x ≡ Some e → (b : Bool) × (w ≡ spelling b) × (e ≡ literal b))
    (λ h p. (false, (bytes_eq-Decides w (spelling false)).0 h, sym (some_same p)))
    (λ _ p. absurd (none_some p)))
    p

-- a term that is a literal is an operand
literal_operand : (x : Side) (e : Condition) (y r : Text) → literal_of x ≡ Some e → TermIs y (term_of x) r → IsOperand y e r
literal_operand (Word w) e y r p (a_word {u = u} v i s) =
    let found = literal_word_is v e p in
    subst (λ z. IsOperand (v ++ u) z r) (sym found.2) (subst (λ z. IsOperand (z ++ u) (literal found.0) r) (sym found.1) (a_literal found.0 s))
literal_operand (Quoted w) e y r p (in_quotes q v i j s) = absurd (none_some p)

literal_goes : (b : ℕ) (x : Side) (found : Option Condition) (y r : Text) → literal_of x ≡ found → TermIs y (term_of x) (b ∷ r) → IsGone (on_literal found) b y r
literal_goes b x None y r f t = tt
literal_goes b x (Some e) y r f t = literal_operand x e y (b ∷ r) f t

term_goes : (k : Letter) (b : ℕ) (x : Side) (y r : Text) → LetterSays b k → TermIs y (term_of x) (b ∷ r) → IsGone (on_term k x) b y r
term_goes k.OfWord b x y r h t = tt
term_goes k.Blank b x y r h t = term_more b r h refl t
term_goes k.Quote b x y r h t = tt
term_goes k.Bang b x y r h t = subst (λ z. TermIs y (term_of x) (z ∷ r)) h t
term_goes k.Opening b x y r h t = tt
term_goes k.Ending b x y r h t = literal_goes b x (literal_of x) y r refl t
term_goes k.Equals b x y r h t = subst (λ z. TermIs y (term_of x) (z ∷ r)) h t
term_goes k.Less b x y r h t = subst (λ z. TermIs y (term_of x) (z ∷ r)) h t
term_goes k.Greater b x y r h t = subst (λ z. TermIs y (term_of x) (z ∷ r)) h t

second_goes : (k : Letter) (b : ℕ) (l : Side) (o : Comparison) (y r : Text) → letter b ≡ k → LetterSays b k → Waits (Second l o) y (b ∷ r) → IsGone (on_second k b l o) b y r
second_goes k.OfWord b l o y r e h t = (t, one_byte_word b e)
second_goes k.Blank b l o y r e h (u, g, s) = (u, g, spaces_more h _ refl s)
second_goes k.Quote b l o y r e h t = (t, h, refl)
second_goes k.Bang b l o y r e h t = tt
second_goes k.Opening b l o y r e h t = tt
second_goes k.Ending b l o y r e h t = tt
second_goes k.Equals b l o y r e h t = tt
second_goes k.Less b l o y r e h t = tt
second_goes k.Greater b l o y r e h t = tt

long_goes : (m : Mark) (x : Side) (y r : Text) → TermIs y (term_of x) (mark_byte m ∷ (61 ∷ r)) → Waits (Second x (long_order m)) y r
long_goes m.Equals x y r t = (r, t, no_space)
long_goes m.Bang x y r t = (r, t, no_space)
long_goes m.Less x y r t = (r, t, no_space)
long_goes m.Greater x y r t = (r, t, no_space)

short_goes : (k : Letter) (b : ℕ) (m : Mark) (x : Side) (y r : Text) → letter b ≡ k → LetterSays b k → TermIs y (term_of x) (mark_byte m ∷ (b ∷ r)) → IsGone (on_short k b m x) b y r
short_goes k b m.Equals x y r e h t = tt
short_goes k b m.Bang x y r e h t = tt
short_goes k b m.Less x y r e h t = second_goes k b x c.Below y r e h (b ∷ r, t, no_space)
short_goes k b m.Greater x y r e h t = second_goes k b x c.Above y r e h (b ∷ r, t, no_space)

order_goes : (k : Letter) (b : ℕ) (m : Mark) (x : Side) (y r : Text) → letter b ≡ k → LetterSays b k → TermIs y (term_of x) (mark_byte m ∷ (b ∷ r)) → IsGone (on_order k b m x) b y r
order_goes k.Equals b m x y r e h t = long_goes m x y r (subst (λ z. TermIs y (term_of x) (mark_byte m ∷ (z ∷ r))) h t)
order_goes k.OfWord b m x y r e h t = short_goes k.OfWord b m x y r e h t
order_goes k.Blank b m x y r e h t = short_goes k.Blank b m x y r e h t
order_goes k.Quote b m x y r e h t = short_goes k.Quote b m x y r e h t
order_goes k.Bang b m x y r e h t = short_goes k.Bang b m x y r e h t
order_goes k.Opening b m x y r e h t = short_goes k.Opening b m x y r e h t
order_goes k.Ending b m x y r e h t = short_goes k.Ending b m x y r e h t
order_goes k.Less b m x y r e h t = short_goes k.Less b m x y r e h t
order_goes k.Greater b m x y r e h t = short_goes k.Greater b m x y r e h t

ended_goes : (k : Letter) (b : ℕ) (w : Text) (p : Place) (y r : Text) → LetterSays b k → Waits p y (w ++ (b ∷ r)) → IsTrue (is_word w) → IsGone (on_ended k w p) b y r
ended_goes k b w First y r h at i = term_goes k b (Word w) y r h (subst (λ z. TermIs z (word w) (b ∷ r)) (sym at) (a_word w i no_space))
ended_goes k b w (Second l o) y r h (u, g, s) i = a_test (order_of o) g s (a_word w i no_space)

word_goes : (k : Letter) (b : ℕ) (w : Text) (p : Place) (y r : Text) → letter b ≡ k → LetterSays b k → Waits p y (w ++ (b ∷ r)) → IsTrue (is_word w) → IsGone (on_word k b w p) b y r
word_goes k.OfWord b w p y r e h t i = (subst (λ z. Waits p y z) (sym (append_assoc w (b ∷ []) r)) t, longer_is_word w b i e)
word_goes k.Blank b w p y r e h t i = ended_goes k.Blank b w p y r h t i
word_goes k.Quote b w p y r e h t i = ended_goes k.Quote b w p y r h t i
word_goes k.Bang b w p y r e h t i = ended_goes k.Bang b w p y r h t i
word_goes k.Opening b w p y r e h t i = ended_goes k.Opening b w p y r h t i
word_goes k.Ending b w p y r e h t i = ended_goes k.Ending b w p y r h t i
word_goes k.Equals b w p y r e h t i = ended_goes k.Equals b w p y r h t i
word_goes k.Less b w p y r e h t i = ended_goes k.Less b w p y r h t i
word_goes k.Greater b w p y r e h t i = ended_goes k.Greater b w p y r h t i

closed_goes : (b q : ℕ) (t : Text) (p : Place) (y r : Text) → Waits p y (q ∷ (t ++ (q ∷ r))) → IsTrue (is_quote q) → IsTrue (lacks q t) → IsGone (on_closed t p) b y r
closed_goes b q t First y r at i j = subst (λ z. TermIs z (quoted t) r) (sym at) (in_quotes q t i j no_space)
closed_goes b q t (Second l o) y r (u, g, s) i j = a_test (order_of o) g s (in_quotes q t i j no_space)

quote_goes : (b q : ℕ) (t : Text) (p : Place) (y r : Text) → Begun (InQuote q t p) y (b ∷ r) → IsGone (on_quote b q t p) b y r
quote_goes b q t p y r h =
    cond_both (b == q) (on_closed t p) (Inside (InQuote q (t ++ b ∷ []) p)) (λ n. IsGone n b y r)
    (λ same. closed_goes b q t p y r (subst (λ x. Waits p y (q ∷ (t ++ (x ∷ r)))) (eqb-true b q same) h.0) h.1 h.2)
    (λ other. (subst (λ x. Waits p y (q ∷ x)) (sym (append_assoc t (b ∷ []) r)) h.0, h.1, all_lack q t b h.2 other))

first_goes : (k : Letter) (b : ℕ) (r : Text) → letter b ≡ k → LetterSays b k → IsBegun Begun (on_first k b) (b ∷ r) r
first_goes k.OfWord b r e h = (refl, one_byte_word b e)
first_goes k.Quote b r e h = (refl, h, refl)
first_goes k.Blank b r e h = tt
first_goes k.Bang b r e h = tt
first_goes k.Opening b r e h = tt
first_goes k.Ending b r e h = tt
first_goes k.Equals b r e h = tt
first_goes k.Less b r e h = tt
first_goes k.Greater b r e h = tt

pub begins : (b : ℕ) (r : Text) → IsBegun Begun (begin b) (b ∷ r) r
begins b r = first_goes (letter b) b r refl (letter_says b)

pub goes_on : (i : Inner) (b : ℕ) (y r : Text) → Begun i y (b ∷ r) → IsNext when_language Begun (go_on i b) b y r
goes_on (InQuote q t p) b y r h = quote_goes b q t p y r h
goes_on (InWord w p) b y r h = word_goes (letter b) b w p y r refl (letter_says b) h.0 h.1
goes_on (HasTerm x) b y r h = term_goes (letter b) b x y r (letter_says b) h
goes_on (InOrder m x) b y r h = order_goes (letter b) b m x y r refl (letter_says b) h
goes_on (WantsTerm x o) b y r h = second_goes (letter b) b x o y r refl (letter_says b) h

-- ---- the end

literal_stops : (x : Side) (found : Option Condition) (y : Text) → literal_of x ≡ found → TermIs y (term_of x) [] → IsStopped when_language found y
literal_stops x None y f t = tt
literal_stops x (Some e) y f t = literal_operand x e y [] f t

pub stops : (i : Inner) (y : Text) → Begun i y [] → IsStopped when_language (stop i) y
stops (InQuote q t p) y h = tt
stops (InWord w First) y h = literal_stops (Word w) (literal_word w) y refl (subst (λ z. TermIs z (word w) []) (sym h.0) (a_word w h.1 no_space))
stops (InWord w (Second l o)) y ((u, g, s), i) = a_test (order_of o) g s (a_word w i no_space)
stops (HasTerm x) y h = literal_stops x (literal_of x) y refl h
stops (InOrder m x) y h = tt
stops (WantsTerm x o) y h = tt

-- ---- what has begun can be ended: by `==a ` behind a first term, `a ` in place of a second one

term_ends : (x : Term) (y u : Text) → TermIs y x (61 ∷ (61 ∷ (97 ∷ (32 ∷ u)))) → IsOperand y (test x equal (word (97 ∷ []))) u
term_ends x y u t = a_test equal t no_space (a_word (97 ∷ []) refl (space refl no_space))

pub finishes : (i : Inner) (y r : Text) → Begun i y r → (p : Text) × (e : Condition) × ((z u : Text) → Begun i z (p ++ u) → IsOperand z e u)
finishes (InQuote q t First) y r h = (q ∷ (61 ∷ (61 ∷ (97 ∷ (32 ∷ [])))), test (quoted t) equal (word (97 ∷ [])), λ z u g. term_ends (quoted t) z u (subst (λ x. TermIs x (quoted t) (61 ∷ (61 ∷ (97 ∷ (32 ∷ u))))) (sym g.0) (in_quotes q t g.1 g.2 no_space)))
finishes (InQuote q t (Second l o)) y r h = (q ∷ [], test (term_of l) (order_of o) (quoted t), λ z u g. a_test (order_of o) g.0.1 g.0.2 (in_quotes q t g.1 g.2 no_space))
finishes (InWord w First) y r h = (61 ∷ (61 ∷ (97 ∷ (32 ∷ []))), test (word w) equal (word (97 ∷ [])), λ z u g. term_ends (word w) z u (subst (λ x. TermIs x (word w) (61 ∷ (61 ∷ (97 ∷ (32 ∷ u))))) (sym g.0) (a_word w g.1 no_space)))
finishes (InWord w (Second l o)) y r h = (32 ∷ [], test (term_of l) (order_of o) (word w), λ z u g. a_test (order_of o) g.0.1 g.0.2 (a_word w g.1 (space refl no_space)))
finishes (HasTerm x) y r h = (61 ∷ (61 ∷ (97 ∷ (32 ∷ []))), test (term_of x) equal (word (97 ∷ [])), λ z u g. term_ends (term_of x) z u g)
finishes (InOrder m x) y r h = (61 ∷ (97 ∷ (32 ∷ [])), test (term_of x) (order_of (long_order m)) (word (97 ∷ [])), λ z u g. (let w = long_goes m x z (97 ∷ (32 ∷ u)) g in a_test (order_of (long_order m)) w.1 w.2 (a_word (97 ∷ []) refl (space refl no_space))))
finishes (WantsTerm x o) y r h = (97 ∷ (32 ∷ []), test (term_of x) (order_of o) (word (97 ∷ [])), λ z u g. a_test (order_of o) g.1 g.2 (a_word (97 ∷ []) refl (space refl no_space)))
