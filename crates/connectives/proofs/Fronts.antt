-- Where the longest front ends that some text of the grammar begins with.
use Rattle.std.specs.Prelude.{◌≡◌, ◌↔◌, ℕ, zero, suc, ◌≤◌, List, [], ◌∷◌, ◌++◌, length, take, Option, Some, None, refl}
use Rattle.std.proofs.Common.{ap, sym, subst, ◌∙◌, arith}
use Rattle.connectives.specs.Grammar.{Text, Language, Says, IsStart, StartEndsAt, IsBadAt}
use Rattle.connectives.specs.declared.state.Level.{Level}
use Rattle.connectives.specs.declared.state.Around.{Around}
use Rattle.connectives.specs.declared.state.Behind.{Behind}
use Rattle.connectives.specs.declared.state.State.{State}
use Rattle.connectives.specs.declared.state.State.TheVariants as s
use Rattle.connectives.specs.Reading.{Machine, start, plus, past, past_operand, after_and, after_or, step, then_read, read, then_place, place}
use Rattle.connectives.proofs.Options.{none_some, some_same}
use Rattle.connectives.proofs.Facts.{Facts}
use Rattle.connectives.proofs.Held.{Holds, Holding, operand_holds, step_holds, read_holds, start_holds, meant}
use Rattle.connectives.proofs.Taken.{taken}

module _ {E I : Type 0} (L : Language E) (m : Machine E I) (F : Facts L m) where
  -- ---- each state can be completed

  closed : (outer : List (Level E)) (e : E) (sum : Option E) (room : ℕ) → (q : Text) × (x : E) × (read L.joins m (s.Done (record { last = e; sum = sum; outer = outer; room = room })) q ≡ Some x)
  closed [] e sum room = ([], plus L.joins sum e, refl)
  closed (l ∷ ls) e sum room =
      let b = past L.joins (plus L.joins sum e) l ls in
      let rest = closed ls b.last b.sum b.room in
      (41 ∷ rest.0, rest.1, rest.2)

  -- what completes a state, whatever text has led to it
  abbrev Completes : State E I → Text → Type 0
  Completes t q = (T : Text) → Holds L m F T t q → (e : E) × Says L T e

  past_closed : (x : Behind E) → (q : Text) × Completes (s.Done x) q
  past_closed x = let rest = closed x.outer x.last x.sum x.room in (rest.0, λ T h. (rest.1, read_holds L m F T (s.Done x) rest.0 rest.1 rest.2 h))

  wants_closed : (a : Around E) → (q : Text) × Completes (s.Wants a) q
  wants_closed a =
      let p = F.sample in
      let rest = past_closed (past_operand L.joins p.1 a) in
      (p.0 ++ rest.0, λ T h. rest.1 T (operand_holds L m F T p.1 a (p.0 ++ rest.0) rest.0 h (p.2 rest.0)))

  completed : (t : State E I) (T r : Text) → Holds L m F T t r → (q : Text) × Completes t q
  completed (s.Wants a) T r h = wants_closed a
  completed (s.Within i a) T r h =
      let p = F.finishes i h.0 r h.2 in
      let rest = past_closed (past_operand L.joins p.1 a) in
      (p.0 ++ rest.0, λ T g. rest.1 T (operand_holds L m F T p.1 a g.0 rest.0 g.1 (p.2 g.0 rest.0 g.2)))
  completed (s.Done x) T r h = past_closed x
  completed (s.HalfAnd x) T r h = let rest = wants_closed (after_and x) in (38 ∷ rest.0, λ T g. rest.1 T (step_holds L m F T (s.HalfAnd x) 38 rest.0 g))
  completed (s.HalfOr x) T r h = let rest = wants_closed (after_or L.joins x) in (124 ∷ rest.0, λ T g. rest.1 T (step_holds L m F T (s.HalfOr x) 124 rest.0 g))

  -- ---- fronts that lead to a state

  abbrev lead : Option (State E I) → (State E I → Option (State E I)) → Option (State E I)
  lead None go = None
  lead (Some t) go = go t

  abbrev after : State E I → Text → Option (State E I)
  after t [] = Some t
  after t (b ∷ p) = lead (step L.joins m t b) (λ x. after x p)

  on_after_holds : (T : Text) (p q : Text) (t : State E I) (next : Option (State E I)) → ((x : State E I) → after x p ≡ Some t → Holds L m F T x (p ++ q) → Holds L m F T t q) → lead next (λ x. after x p) ≡ Some t → Holding L m F T next (p ++ q) → Holds L m F T t q
  on_after_holds T p q t None go l h = absurd (none_some l)
  on_after_holds T p q t (Some x) go l h = go x l h

  after_holds : (T : Text) (x : State E I) (p q : Text) (t : State E I) → after x p ≡ Some t → Holds L m F T x (p ++ q) → Holds L m F T t q
  after_holds T x [] q t l h = subst (λ y. Holds L m F T y q) (some_same l) h
  after_holds T x (b ∷ p) q t l h = on_after_holds T p q t (step L.joins m x b) (λ y k g. after_holds T y p q t k g) l (step_holds L m F T x b (p ++ q) h)

  leads_start : (p : Text) (t : State E I) → after start p ≡ Some t → IsStart L p
  leads_start p t l =
      let held = after_holds (p ++ []) start p [] t l (start_holds L m F (p ++ [])) in
      let more = completed t (p ++ []) [] held in
      let whole = more.1 (p ++ more.0) (after_holds (p ++ more.0) start p more.0 t l (start_holds L m F (p ++ more.0))) in
      (more.0, whole.0, whole.1)

  on_read_leads : (next : Option (State E I)) (p q : Text) (e : E) → ((x : State E I) → read L.joins m x (p ++ q) ≡ Some e → (t : State E I) × (after x p ≡ Some t)) → then_read next (λ x. read L.joins m x (p ++ q)) ≡ Some e → (t : State E I) × (lead next (λ x. after x p) ≡ Some t)
  on_read_leads None p q e go r = absurd (none_some r)
  on_read_leads (Some x) p q e go r = go x r

  read_leads : (x : State E I) (p q : Text) (e : E) → read L.joins m x (p ++ q) ≡ Some e → (t : State E I) × (after x p ≡ Some t)
  read_leads x [] q e r = (x, refl)
  read_leads x (b ∷ p) q e r = on_read_leads (step L.joins m x b) p q e (λ y k. read_leads y p q e k) r

  start_leads : (p : Text) → IsStart L p → (t : State E I) × (after start p ≡ Some t)
  start_leads p (q, e, h) = read_leads start p q e (taken L m F (p ++ q) e h)

  -- ---- the place

  on_place_within : (next : Option (State E I)) (t : Text) → ((x : State E I) → place L.joins m x t ≤ length t) → then_place next (λ x. place L.joins m x t) ≤ suc (length t)
  on_place_within None t go = omega arith
  on_place_within (Some x) t go = omega (arith, go x)

  place_within : (x : State E I) (t : Text) → place L.joins m x t ≤ length t
  place_within x [] = omega arith
  place_within x (b ∷ t) = on_place_within (step L.joins m x b) t (λ y. place_within y t)

  on_place_leads : (x : State E I) (b : ℕ) (t : Text) (next : Option (State E I)) → step L.joins m x b ≡ next → ((y : State E I) → (z : State E I) × (after y (take (place L.joins m y t) t) ≡ Some z)) → (z : State E I) × (after x (take (then_place next (λ y. place L.joins m y t)) (b ∷ t)) ≡ Some z)
  on_place_leads x b t None e go = (x, refl)
  on_place_leads x b t (Some y) e go = let led = go y in (led.0, ap (λ n. lead n (λ z. after z (take (place L.joins m y t) t))) e ∙ led.1)

  place_leads : (x : State E I) (t : Text) → (z : State E I) × (after x (take (place L.joins m x t) t) ≡ Some z)
  place_leads x [] = (x, refl)
  place_leads x (b ∷ t) = on_place_leads x b t (step L.joins m x b) refl (λ y. place_leads y t)

  on_place_longest : (next : Option (State E I)) (t : Text) (k : ℕ) (z : State E I) → k ≤ length t → ((y : State E I) → k ≤ length t → after y (take k t) ≡ Some z → k ≤ place L.joins m y t) → lead next (λ y. after y (take k t)) ≡ Some z → suc k ≤ then_place next (λ y. place L.joins m y t)
  on_place_longest None t k z l go h = absurd (none_some h)
  on_place_longest (Some y) t k z l go h = omega (arith, go y l h)

  place_longest : (x : State E I) (t : Text) (k : ℕ) (z : State E I) → k ≤ length t → after x (take k t) ≡ Some z → k ≤ place L.joins m x t
  place_longest x t zero z l h = omega arith
  place_longest x [] (suc k) z l h = omega arith
  place_longest x (b ∷ t) (suc k) z l h = on_place_longest (step L.joins m x b) t k z (omega arith) (λ y. place_longest y t k z) h

  -- the place where reading stops is that of the fault
  pub place_ends : (text : Text) → StartEndsAt L text (place L.joins m start text)
  place_ends text = record {
    within = place_within start text;
    begins = (let led = place_leads start text in leads_start _ led.0 led.1);
    longest = λ k l h. (let led = start_leads (take k text) h in place_longest start text k led.0 l led.1);
  }

  -- what is not read is not of the grammar
  pub bad : (text : Text) → read L.joins m start text ≡ None → IsBadAt L text (place L.joins m start text)
  bad text p = record { refused = λ e h. none_some (sym p ∙ taken L m F text e h); fault = place_ends text }

  -- what reading finds is what the grammar says
  pub says : (text : Text) (e : E) → (read L.joins m start text ≡ Some e) ↔ Says L text e
  says text e = (meant L m F text e, taken L m F text e)

  -- a text says one thing
  pub one_meaning : (text : Text) (d e : E) → Says L text d → Says L text e → d ≡ e
  one_meaning text d e g h = some_same (sym (taken L m F text d g) ∙ taken L m F text e h)
