-- What is read is of the grammar: what a state says of the text before it.
use Rattle.std.specs.Prelude.{◌≡◌, ℕ, zero, suc, List, [], ◌∷◌, ◌==◌, Option, Some, None, refl}
use Rattle.std.proofs.Common.{subst}
use Rattle.std.proofs.lemmas.Bool.{cond_both, eqb-true}
use Rattle.base_types.specs.Limits.{most_levels}
use Rattle.connectives.specs.Grammar.{Text, Language, no_space, And, Or, operand, Says}
use Rattle.connectives.specs.declared.state.Kind.{Kind}
use Rattle.connectives.specs.declared.state.Kind.TheVariants.{Blank, Bang, Opening, Closing, Ampersand, Bar, Other}
use Rattle.connectives.specs.declared.state.Level.{Level}
use Rattle.connectives.specs.declared.state.Around.{Around}
use Rattle.connectives.specs.declared.state.Behind.{Behind}
use Rattle.connectives.specs.declared.state.State.{State}
use Rattle.connectives.specs.declared.state.State.TheVariants as s
use Rattle.connectives.specs.declared.state.Next.{Next}
use Rattle.connectives.specs.declared.state.Next.TheVariants.{Inside, Ended, Before, Stuck}
use Rattle.connectives.specs.Reading.{Machine, kind, start, plus, past_operand, add_not, open_level, close_level, begun, on_wants, on_done, on_next, after_and, after_or, step, whole, stopped, final, then_read, read}
use Rattle.connectives.proofs.ByteKinds.{KindSays, kind_says}
use Rattle.connectives.proofs.Options.{none_some, some_same}
use Rattle.connectives.proofs.Facts.{Facts, IsBegun, IsNext, IsStopped}
use Rattle.connectives.proofs.Levels.{outermost, inner, within, no_sum, some_sum, no_product, some_product, no_not, At, Past, and_more, sum_close, operand_at, blank_within, not_within, closed, ended}

module _ {E I : Type 0} (L : Language E) (m : Machine E I) (F : Facts L m) where
  abbrev pub HoldsPast : Text → Behind E → Text → Type 0
  HoldsPast T x r = Past L T x.last x.sum x.outer x.room r

  abbrev pub HoldsAt : Text → Around E → Text → Type 0
  HoldsAt T a r = At L T a.level a.outer r

  -- what a state says of the text before it
  abbrev pub Holds : Text → State E I → Text → Type 0
  Holds T (s.Wants a) r = HoldsAt T a r
  Holds T (s.Within i a) r = (y : Text) × HoldsAt T a y × F.Begun i y r
  Holds T (s.Done x) r = HoldsPast T x r
  Holds T (s.HalfAnd x) r = HoldsPast T x (38 ∷ r)
  Holds T (s.HalfOr x) r = HoldsPast T x (124 ∷ r)

  abbrev pub Holding : Text → Option (State E I) → Text → Type 0
  Holding T None r = Unit {0}
  Holding T (Some t) r = Holds T t r

  pub operand_holds : (T : Text) (e : E) (a : Around E) (q r : Text) → HoldsAt T a q → L.IsOperand q e r → HoldsPast T (past_operand L.joins e a) r
  operand_holds T e a q r at h = operand_at L T e a.level a.outer q r at (operand h)

  add_not_holds : (T r : Text) (room : ℕ) (level : Level E) (outer : List (Level E)) → level.room ≡ room → At L T level outer (33 ∷ r) → Holding T (add_not room level outer) r
  add_not_holds T r zero level outer e a = tt
  add_not_holds T r (suc room) level outer e a = record { begun = a.begun; from = a.from; around = a.around; inside = not_within level.room e refl a.inside }

  open_level_holds : (T r : Text) (room : ℕ) (level : Level E) (outer : List (Level E)) → level.room ≡ room → At L T level outer (40 ∷ r) → Holding T (open_level room level outer) r
  open_level_holds T r zero level outer e a = tt
  open_level_holds T r (suc room) level outer e a = record { begun = room; from = r; around = inner e a.around a.inside no_space; inside = within no_sum no_product no_not }

  close_level_holds : (T r : Text) (e : E) (sum : Option E) (outer : List (Level E)) (room : ℕ) → Past L T e sum outer room (41 ∷ r) → Holding T (close_level L.joins e sum outer) r
  close_level_holds T r e sum [] room a = tt
  close_level_holds T r e sum (level ∷ outer) room a = closed T r e sum level outer room a

  begun_holds : (T r : Text) (b : ℕ) (i : Option I) (a : Around E) → HoldsAt T a (b ∷ r) → IsBegun F.Begun i (b ∷ r) r → Holding T (begun i a) r
  begun_holds T r b None a at h = tt
  begun_holds T r b (Some i) a at h = (b ∷ r, at, h)

  on_wants_holds : (T r : Text) (k : Kind) (b : ℕ) (a : Around E) → KindSays b k → HoldsAt T a (b ∷ r) → Holding T (on_wants m k b a) r
  on_wants_holds T r Blank b a h at = blank_within b r h refl at.around at.inside
  on_wants_holds T r Bang b a h at = add_not_holds T r a.level.room a.level a.outer refl (subst (λ x. HoldsAt T a (x ∷ r)) h at)
  on_wants_holds T r Opening b a h at = open_level_holds T r a.level.room a.level a.outer refl (subst (λ x. HoldsAt T a (x ∷ r)) h at)
  on_wants_holds T r Closing b a h at = tt
  on_wants_holds T r Ampersand b a h at = tt
  on_wants_holds T r Bar b a h at = tt
  on_wants_holds T r Other b a h at = begun_holds T r b (m.begin b) a at (F.begins b r)

  on_done_holds : (T r : Text) (k : Kind) (b : ℕ) (x : Behind E) → KindSays b k → HoldsPast T x (b ∷ r) → Holding T (on_done L.joins k x) r
  on_done_holds T r Blank b x h a = record { from = a.from; last = a.last; around = a.around; before = a.before; chain = and_more F.spaced b r h refl a.chain }
  on_done_holds T r Bang b x h a = tt
  on_done_holds T r Opening b x h a = tt
  on_done_holds T r Closing b x h a = close_level_holds T r x.last x.sum x.outer x.room (subst (λ c. HoldsPast T x (c ∷ r)) h a)
  on_done_holds T r Ampersand b x h a = subst (λ c. HoldsPast T x (c ∷ r)) h a
  on_done_holds T r Bar b x h a = subst (λ c. HoldsPast T x (c ∷ r)) h a
  on_done_holds T r Other b x h a = tt

  on_next_holds : (T r : Text) (n : Next E I) (b : ℕ) (a : Around E) (y : Text) → HoldsAt T a y → IsNext L F.Begun n b y r → Holding T (on_next L.joins n b a) r
  on_next_holds T r (Inside i) b a y at h = (y, at, h)
  on_next_holds T r (Ended e) b a y at h = operand_holds T e a y r at h
  on_next_holds T r (Before e) b a y at h = on_done_holds T r (kind b) b (past_operand L.joins e a) (kind_says b) (operand_holds T e a y (b ∷ r) at h)
  on_next_holds T r Stuck b a y at h = tt

  half_and_holds : (T r : Text) (b : ℕ) (x : Behind E) → HoldsPast T x (38 ∷ (b ∷ r)) → Holding T (step L.joins m (s.HalfAnd x) b) r
  half_and_holds T r b x a =
      cond_both (b == 38) (Some (s.Wants (after_and x))) None (λ n. Holding T n r)
      (λ same. record { begun = x.room; from = a.from; around = a.around; inside = within a.before (some_product (subst (λ c. And L x.room a.last x.last (38 ∷ (c ∷ r))) (eqb-true b 38 same) a.chain) no_space) no_not })
      (λ _. tt)

  half_or_holds : (T r : Text) (b : ℕ) (x : Behind E) → HoldsPast T x (124 ∷ (b ∷ r)) → Holding T (step L.joins m (s.HalfOr x) b) r
  half_or_holds T r b x a =
      cond_both (b == 124) (Some (s.Wants (after_or L.joins x))) None (λ n. Holding T n r)
      (λ same. record { begun = x.room; from = a.from; around = a.around; inside = within (some_sum (subst (λ c. Or L x.room a.from (plus L.joins x.sum x.last) (124 ∷ (c ∷ r))) (eqb-true b 124 same) (sum_close a.before x.last _ a.chain)) no_space) no_product no_not })
      (λ _. tt)

  pub step_holds : (T : Text) (t : State E I) (b : ℕ) (r : Text) → Holds T t (b ∷ r) → Holding T (step L.joins m t b) r
  step_holds T (s.Wants a) b r h = on_wants_holds T r (kind b) b a (kind_says b) h
  step_holds T (s.Within i a) b r h = on_next_holds T r (m.go_on i b) b a h.0 h.1 (F.goes_on i b h.0 r h.2)
  step_holds T (s.Done x) b r h = on_done_holds T r (kind b) b x (kind_says b) h
  step_holds T (s.HalfAnd x) b r h = half_and_holds T r b x h
  step_holds T (s.HalfOr x) b r h = half_or_holds T r b x h

  -- ---- the end

  whole_holds : (T : Text) (e : E) (sum : Option E) (outer : List (Level E)) (room : ℕ) (x : E) → whole L.joins e sum outer ≡ Some x → Past L T e sum outer room [] → Says L T x
  whole_holds T e sum [] room x p a = subst (λ y. Says L T y) (some_same p) (ended T e sum room a)
  whole_holds T e sum (l ∷ ls) room x p a = absurd (none_some p)

  stopped_holds : (T : Text) (o : Option E) (a : Around E) (y : Text) (x : E) → stopped L.joins o a ≡ Some x → HoldsAt T a y → IsStopped L o y → Says L T x
  stopped_holds T None a y x p at h = absurd (none_some p)
  stopped_holds T (Some e) a y x p at h =
      let b = past_operand L.joins e a in
      whole_holds T b.last b.sum b.outer b.room x p (operand_holds T e a y [] at h)

  final_holds : (T : Text) (t : State E I) (e : E) → final L.joins m t ≡ Some e → Holds T t [] → Says L T e
  final_holds T (s.Wants a) e p h = absurd (none_some p)
  final_holds T (s.Within i a) e p h = stopped_holds T (m.stop i) a h.0 e p h.1 (F.stops i h.0 h.2)
  final_holds T (s.Done x) e p h = whole_holds T x.last x.sum x.outer x.room e p h
  final_holds T (s.HalfAnd x) e p h = absurd (none_some p)
  final_holds T (s.HalfOr x) e p h = absurd (none_some p)

  on_read_holds : (T : Text) (r : Text) (e : E) (next : Option (State E I)) → ((t : State E I) → read L.joins m t r ≡ Some e → Holds T t r → Says L T e) → then_read next (λ t. read L.joins m t r) ≡ Some e → Holding T next r → Says L T e
  on_read_holds T r e None go p h = absurd (none_some p)
  on_read_holds T r e (Some t) go p h = go t p h

  pub read_holds : (T : Text) (t : State E I) (r : Text) (e : E) → read L.joins m t r ≡ Some e → Holds T t r → Says L T e
  read_holds T t [] e p h = final_holds T t e p h
  read_holds T t (b ∷ r) e p h = on_read_holds T r e (step L.joins m t b) (λ x q g. read_holds T x r e q g) p (step_holds T t b r h)

  pub start_holds : (T : Text) → Holds T start T
  start_holds T = record { begun = most_levels; from = T; around = outermost no_space; inside = within no_sum no_product no_not }

  -- what is read is of the grammar
  pub meant : (text : Text) (e : E) → read L.joins m start text ≡ Some e → Says L text e
  meant text e p = read_holds text start text e p (start_holds text)
