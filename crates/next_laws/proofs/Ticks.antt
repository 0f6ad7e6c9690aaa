-- Why the least of the ticks above the clock is the next at which something is due.
use Rattle.std.proofs.Common.{◌≡◌, ◌⊎◌, inl, inr, ℕ, ◌<◌, ◌≤◌, le_refl, le_trans, Bool, true, false, cond, nat_lt, List, [], ◌∷◌, ◌++◌, map, filter_map, flat_map, refl, sym, ◌∙◌, ap, subst, Option, Some, None, arith}
use Rattle.std.specs.List.{cons_option}
use Rattle.std.proofs.lemmas.Bool.Decides.{nat_tests}
use Rattle.tree_types.specs.declared.path.Path.{Path}
use Rattle.tree_types.specs.declared.outcome.Outcome.{Outcome}
use Rattle.tree_types.specs.declared.want.Want.{Want}
use Rattle.tree_types.specs.declared.want.Want.TheVariants as want
use Rattle.tree_types.specs.declared.entry.Entry.{Entry}
use Rattle.tree_types.specs.declared.entry.Entry.TheVariants.{Submit, Write, Create, Finish, File, Release, Save, Tick}
use Rattle.meaning.specs.Answers.{Facts}
use Rattle.meaning.specs.Lines.{later}
use Rattle.growth.specs.Growth.{Among}
use Rattle.history.specs.History.{Event, grown, clock_of}
use Rattle.law.specs.Documents.{Text, PlannedOutcome, Document}
use Rattle.law.specs.Contents.{Flow, PodObject, Content, Story, flow_of, pod_of, HasFlow}
use Rattle.law.specs.Justified.{wants_of, Justified, IsLawful}
use Rattle.law.specs.Due.{command_tick, PodDueAt, TimerAt, CommandAt, DueAt, by_pod, by_timer, by_command, IsNext}
use Rattle.lawful.proofs.Facts.{some_same, none_some, among_either}
use Rattle.lawful.proofs.Changes.{FlowChange, same, submitted, written, flow_change, PodChange, same_pod, created, ended_now, pod_change}
use Rattle.lawful.proofs.IsAsSaid.{by_lawful}
use Rattle.next_step.specs.Ticks.{planned_end, unfinished_end, pod_end, timer_tick, timers, ticks_by, due_ticks, if_above, least_above, next_tick}
use Rattle.next_laws.specs.NextTicks.{NextTickIsNext}
use Rattle.next_laws.proofs.Firsts.{among_filter}

-- ---- members

pub among_left : {A : Type 0} (xs ys : List A) (x : A) → Among x xs → Among x (xs ++ ys)
among_left [] ys x i = absurd i
among_left (y ∷ xs) ys x (inl e) = inl e
among_left (y ∷ xs) ys x (inr i) = inr (among_left xs ys x i)

pub among_right : {A : Type 0} (xs ys : List A) (x : A) → Among x ys → Among x (xs ++ ys)
among_right [] ys x i = i
among_right (y ∷ xs) ys x i = inr (among_right xs ys x i)

among_flat : {A B : Type 0} (f : A → List B) (xs : List A) (x : A) (y : B) → Among x xs → Among y (f x) → Among y (flat_map f xs)
among_flat f [] x y i j = absurd i
among_flat f (z ∷ xs) x y (inl e) j = among_left (f z) (flat_map f xs) y (subst (λ q. Among y (f q)) (sym e) j)
among_flat f (z ∷ xs) x y (inr i) j = among_right (f z) (flat_map f xs) y (among_flat f xs x y i j)

flat_among : {A B : Type 0} (f : A → List B) (xs : List A) (y : B) → Among y (flat_map f xs) → (x : A) × Among x xs × Among y (f x)
flat_among f [] y i = absurd i
flat_among {A} {B} f (x ∷ xs) y i = by (among_either y (f x) (flat_map f xs) i) (λ j. flat_among f xs y j)
  where
    by : Among y (f x) ⊎ Among y (flat_map f xs) → (Among y (flat_map f xs) → (z : A) × Among z xs × Among y (f z)) → (z : A) × Among z (x ∷ xs) × Among y (f z)
    by (inl j) ih = (x, inl refl, j)
    by (inr j) ih = let r = ih j in (r.0, inr r.1, r.2)

among_map : {A B : Type 0} (f : A → B) (xs : List A) (x : A) → Among x xs → Among (f x) (map f xs)
among_map f [] x i = absurd i
among_map f (z ∷ xs) x (inl e) = inl (ap f e)
among_map f (z ∷ xs) x (inr i) = inr (among_map f xs x i)

map_among : {A B : Type 0} (f : A → B) (xs : List A) (y : B) → Among y (map f xs) → (x : A) × Among x xs × (f x ≡ y)
map_among f [] y i = absurd i
map_among f (x ∷ xs) y (inl e) = (x, inl refl, e)
map_among f (x ∷ xs) y (inr i) = let r = map_among f xs y i in (r.0, inr r.1, r.2)

filter_among : {A B : Type 0} (f : A → Option B) (xs : List A) (y : B) → Among y (filter_map f xs) → (x : A) × Among x xs × (f x ≡ Some y)
filter_among f [] y i = absurd i
filter_among {A} {B} f (x ∷ xs) y i = by (f x) refl i (λ j. filter_among f xs y j)
  where
    by : (o : Option B) → f x ≡ o → Among y (cons_option o (filter_map f xs)) → (Among y (filter_map f xs) → (z : A) × Among z xs × (f z ≡ Some y)) → (z : A) × Among z (x ∷ xs) × (f z ≡ Some y)
    by None e j ih = let r = ih j in (r.0, inr r.1, r.2)
    by (Some z) e (inl q) ih = (x, inl refl, e ∙ ap Some q)
    by (Some z) e (inr j) ih = let r = ih j in (r.0, inr r.1, r.2)

-- ---- what stands was made by an entry

pub record Made (h : Story) (P : Entry → Type 0) : Type 0 where
  pub by : Event Content
  pub place : Among by h.events
  pub makes : P by.entry

made_on : (h : Story) (e : Event Content) (P : Entry → Type 0) → Made h P → Made (grown h e) P
made_on h e P m = record { by = m.by; place = among_left h.events (e ∷ []) m.by m.place; makes = m.makes }

made_now : (h : Story) (e : Event Content) (P : Entry → Type 0) → P e.entry → Made (grown h e) P
made_now h e P p = record { by = e; place = among_right h.events (e ∷ []) e (inl refl); makes = p }

pub record IsCreate (w n : Text) (e : Entry) : Type 0 where
  pub path : Path
  pub begin : ℕ
  pub is : e ≡ Create w n path begin

pub record IsSubmit (w : Text) (e : Entry) : Type 0 where
  pub old : Option Text
  pub facts : Facts
  pub is : e ≡ Submit w old facts

module _ (D : Document) where
  abbrev pub PodsMade : Story → Type 0
  PodsMade h = (w n : Text) (pod : PodObject) → pod_of h w n ≡ Some pod → Made h (IsCreate w n)

  pods_step : (h : Story) (e : Event Content) → IsLawful D h → Justified D h e → PodsMade h → PodsMade (grown h e)
  pods_step h e l j ih w n pod s = by (pod_change D h w n pod e j s)
    where
      by : PodChange D h e w n pod → Made (grown h e) (IsCreate w n)
      by (same_pod q) = made_on h e (IsCreate w n) (ih w n pod q)
      by (created p t q cj m) = made_now h e (IsCreate w n) record { path = p; begin = t; is = q }
      by (ended_now o q fj is) = made_on h e (IsCreate w n) (ih w n fj.pod fj.stands)

  pub pods_made : (h : Story) → IsLawful D h → PodsMade h
  pods_made h l = by_lawful D PodsMade pods_step (λ w n pod s. none_some pod s) h l

  abbrev pub FlowsMade : Story → Type 0
  FlowsMade h = (w : Text) (f : Flow) → HasFlow h w f → Made h (IsSubmit w)

  flows_step : (h : Story) (e : Event Content) → IsLawful D h → Justified D h e → FlowsMade h → FlowsMade (grown h e)
  flows_step h e l j ih w f s = by (flow_change D h w f e j s)
    where
      by : FlowChange D h e w f → Made (grown h e) (IsSubmit w)
      by (same q) = made_on h e (IsSubmit w) (ih w f q)
      by (submitted old facts q sj m) = made_now h e (IsSubmit w) record { old = old; facts = facts; is = q }
      by (written n facts q wj is) = made_on h e (IsSubmit w) (ih w wj.flow wj.stands)

  pub flows_made : (h : Story) → IsLawful D h → FlowsMade h
  flows_made h l = by_lawful D FlowsMade flows_step (λ w f s. none_some f s) h l

  -- ---- a tick at which something is due is one of the ticks

  module _ (h : Story) (t : ℕ) where
    abbrev by_events : List ℕ
    by_events = flat_map (λ (e : Event Content). ticks_by D h e.entry) h.events

    abbrev by_commands : List ℕ
    by_commands = map command_tick D.commands

    at_entry : (e : Event Content) (x : Entry) → Among e h.events → e.entry ≡ x → Among t (ticks_by D h x) → Among t (due_ticks D h)
    at_entry e x i q j = among_left by_events by_commands t (among_flat (λ (y : Event Content). ticks_by D h y.entry) h.events e t i (subst (λ y. Among t (ticks_by D h y)) (sym q) j))

    pod_in_ticks : IsLawful D h → PodDueAt D h t → Among t (due_ticks D h)
    pod_in_ticks l p =
        let m = pods_made h l p.workflow p.name p.pod p.stands in
        at_entry m.by (Create p.workflow p.name m.makes.path m.makes.begin) m.place m.makes.is
        (subst (λ o. Among t (pod_end (D.planned p.workflow p.name) o)) (sym p.stands)
        (subst (λ o. Among t (unfinished_end p.pod (D.planned p.workflow p.name) o)) (sym p.unfinished)
        (subst (λ o. Among t (planned_end p.pod o)) (sym p.planned) (inl (sym p.at)))))

    timer_in_ticks : IsLawful D h → TimerAt h t → Among t (due_ticks D h)
    timer_in_ticks l p =
        let m = flows_made h l p.workflow p.flow p.stands in
        at_entry m.by (Submit p.workflow m.makes.old m.makes.facts) m.place m.makes.is
        (subst (λ o. Among t (timers o)) (sym p.stands) (among_filter timer_tick (wants_of p.flow) (want.Timer p.path t) t p.asks refl))

    command_in_ticks : CommandAt D t → Among t (due_ticks D h)
    command_in_ticks c = among_right by_events by_commands t (subst (λ x. Among x by_commands) (sym c.at) (among_map command_tick D.commands c.command c.given))

    in_ticks : IsLawful D h → DueAt D h t → Among t (due_ticks D h)
    in_ticks l (by_pod p) = pod_in_ticks l p
    in_ticks l (by_timer p) = timer_in_ticks l p
    in_ticks l (by_command c) = command_in_ticks c

    -- ---- and each of the ticks is one at which something is due

    only : (x : ℕ) → Among t (x ∷ []) → t ≡ x
    only x (inl e) = sym e
    only x (inr i) = absurd i

    pod_due : (w n : Text) (o : Option PodObject) → pod_of h w n ≡ o → Among t (pod_end (D.planned w n) o) → DueAt D h t
    pod_due w n None e i = absurd i
    pod_due w n (Some pod) e i = by pod.outcome refl i
      where
        at : (p : Option PlannedOutcome) → pod.outcome ≡ None → D.planned w n ≡ p → Among t (planned_end pod p) → DueAt D h t
        at None u q j = absurd j
        at (Some p) u q j = by_pod record { workflow = w; name = n; pod = pod; stands = e; unfinished = u; plan = p; planned = q; at = only (later pod.begin p.seconds) j }

        by : (o : Option Outcome) → pod.outcome ≡ o → Among t (unfinished_end pod (D.planned w n) o) → DueAt D h t
        by (Some o) q j = absurd j
        by None q j = at (D.planned w n) q refl j

    timer_of : (a : Want) → timer_tick a ≡ Some t → (p : Path) × (a ≡ want.Timer p t)
    timer_of (want.Timer p u) e = (p, ap (want.Timer p) (some_same u t e))
    timer_of (want.Pod p) e = none_some t e
    timer_of (want.Lock p l) e = none_some t e
    timer_of (want.LookUp p c k g) e = none_some t e
    timer_of (want.Arming p) e = none_some t e
    timer_of (want.Save p c k o) e = none_some t e

    timer_due : (w : Text) (o : Option Flow) → flow_of h w ≡ o → Among t (timers o) → DueAt D h t
    timer_due w None e i = absurd i
    timer_due w (Some f) e i =
        let r = filter_among timer_tick (wants_of f) t i in
        let q = timer_of r.0 r.2 in
        by_timer record { workflow = w; flow = f; stands = e; path = q.0; asks = subst (λ a. Among a (wants_of f)) q.1 r.1 }

    entry_due : (e : Entry) → Among t (ticks_by D h e) → DueAt D h t
    entry_due (Create w n p u) i = pod_due w n (pod_of h w n) refl i
    entry_due (Submit w old facts) i = timer_due w (flow_of h w) refl i
    entry_due (Write w n facts) i = absurd i
    entry_due (Finish w n o) i = absurd i
    entry_due (File l k r) i = absurd i
    entry_due (Release l k) i = absurd i
    entry_due (Save a b k o u) i = absurd i
    entry_due (Tick u) i = absurd i

    ticks_are_due : Among t (due_ticks D h) → DueAt D h t
    ticks_are_due i = by (among_either t by_events by_commands i)
      where
        by : Among t by_events ⊎ Among t by_commands → DueAt D h t
        by (inl j) = let r = flat_among (λ (e : Event Content). ticks_by D h e.entry) h.events t j in entry_due r.0.entry r.2
        by (inr j) = let r = map_among command_tick D.commands t j in by_command record { command = r.0; given = r.1; at = sym r.2 }

-- ---- the least above

data Least (clock : ℕ) (ts : List ℕ) : Option ℕ → Type 0 where
  no_least : ((t : ℕ) → Among t ts → t ≤ clock) → Least clock ts None
  least : (n : ℕ) → Among n ts → clock < n → ((t : ℕ) → Among t ts → clock < t → n ≤ t) → Least clock ts (Some n)

is_less : (a b : ℕ) → nat_lt a b ≡ true → a < b
is_less a b e = grind (arith, nat_tests)

is_not_less : (a b : ℕ) → nat_lt a b ≡ false → b ≤ a
is_not_less a b e = grind (arith, nat_tests)

not_above : (clock t : ℕ) {X : Type 0} → t ≤ clock → clock < t → X
not_above clock t a b = absurd (omega (arith, a, b))

module _ (clock x : ℕ) (ts : List ℕ) where
  none_above : x ≤ clock → ((t : ℕ) → Among t ts → t ≤ clock) → (t : ℕ) → Among t (x ∷ ts) → t ≤ clock
  none_above e f t (inl q) = subst (λ y. y ≤ clock) q e
  none_above e f t (inr i) = f t i

  only_first : ((t : ℕ) → Among t ts → t ≤ clock) → (t : ℕ) → Among t (x ∷ ts) → clock < t → x ≤ t
  only_first f t (inl q) e = subst (λ y. x ≤ y) q (le_refl x)
  only_first f t (inr i) e = not_above clock t (f t i) e

  both_above : (n m : ℕ) → m ≤ n → m ≤ x → ((t : ℕ) → Among t ts → clock < t → n ≤ t) → (t : ℕ) → Among t (x ∷ ts) → clock < t → m ≤ t
  both_above n m a b f t (inl q) e = subst (λ y. m ≤ y) q b
  both_above n m a b f t (inr i) e = le_trans a (f t i e)

  rest_above : (n : ℕ) → x ≤ clock → ((t : ℕ) → Among t ts → clock < t → n ≤ t) → (t : ℕ) → Among t (x ∷ ts) → clock < t → n ≤ t
  rest_above n a f t (inl q) e = not_above clock t (subst (λ y. y ≤ clock) q a) e
  rest_above n a f t (inr i) e = f t i e

  less_first : (n : ℕ) → x < n → x ≤ n
  less_first n e = omega (arith, e)

  smaller : (n : ℕ) → clock < x → Among n ts → clock < n → ((t : ℕ) → Among t ts → clock < t → n ≤ t) → (b : Bool) → nat_lt x n ≡ b → Least clock (x ∷ ts) (Some (cond b x n))
  smaller n c i d f true q = least x (inl refl) c (both_above n x (less_first n (is_less x n q)) (le_refl x) f)
  smaller n c i d f false q = least n (inr i) d (both_above n n (le_refl n) (is_not_less x n q) f)

  least_next : (b : Bool) → nat_lt clock x ≡ b → (o : Option ℕ) → Least clock ts o → Least clock (x ∷ ts) (if_above b x o)
  least_next true e o (no_least f) = least x (inl refl) (is_less clock x e) (only_first f)
  least_next true e o (least n i d f) = smaller n (is_less clock x e) i d f (nat_lt x n) refl
  least_next false e o (no_least f) = no_least (none_above (is_not_less clock x e) f)
  least_next false e o (least n i d f) = least n (inr i) d (rest_above n (is_not_less clock x e) f)

least_is : (clock : ℕ) (ts : List ℕ) → Least clock ts (least_above clock ts)
least_is clock [] = no_least (λ t i. absurd i)
least_is clock (x ∷ ts) = least_next clock x ts (nat_lt clock x) refl (least_above clock ts) (least_is clock ts)

pub next_tick_is_next : NextTickIsNext
next_tick_is_next D h l = by (next_tick D h) (least_is (clock_of h) (due_ticks D h))
  where
    by : (o : Option ℕ) → Least (clock_of h) (due_ticks D h) o → IsNext D h o
    by o (no_least f) = λ t d. f t (in_ticks D h t l d)
    by o (least n i c f) = (ticks_are_due D h n i, c, λ t d e. f t (in_ticks D h t l d) e)
