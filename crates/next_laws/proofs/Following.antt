-- Why each step of a schedule can be played, with no call that fails.
use Rattle.std.proofs.Common.{◌≡◌, ◌⊎◌, inl, inr, ℕ, zero, suc, ◌+◌, ◌<◌, ◌≤◌, Bool, true, false, cond, nat_eq, nat_lt, nat_le, List, [], ◌∷◌, refl, sym, ◌∙◌, ap, subst, Option, Some, None, arith}
use Rattle.std.specs.Prelude.{unwrap_or}
use Rattle.std.proofs.lemmas.Bool.Decides.{nat_tests}
use Rattle.tree_types.specs.declared.fact.Fact.{Fact}
use Rattle.tree_types.specs.declared.fact.Fact.TheVariants as fact
use Rattle.tree_types.specs.declared.outcome.Outcome.{Outcome}
use Rattle.tree_types.specs.declared.entry.Key.{Key}
use Rattle.tree_types.specs.declared.entry.Key.TheVariants.{Workflow, Pod, Locks, Caches}
use Rattle.meaning.specs.Answers.{Facts}
use Rattle.growth.specs.Writes as writes
use Rattle.history.specs.Keys.{is_about}
use Rattle.history.specs.History.{Event, Version, number_of, map_content, clock_of, grown, next_version, version_at, IsVersionOf}
use Rattle.history.specs.Versions.{back_of}
use Rattle.history.proofs.Keys.{same_key-refl}
use Rattle.history.proofs.Extends.{version_at-grown}
use Rattle.history.proofs.Carrying.{still_stands, absent_at}
use Rattle.law.specs.Documents.{Text, PlannedOutcome, ended_by, Document}
use Rattle.law.specs.Contents.{Flow, PodObject, Book, Content, OfWorkflow, OfPod, OfLocks, OfCaches, flow, begun_pod, apply, Story, number_at, flow_in, HasFlow}
use Rattle.law.specs.Justified.{Adds, carried_facts, renamed, IsLawful}
use Rattle.law.specs.Due.{Matter, record_fact, file, create, save, release, submit, IsTooLarge}
use Rattle.lawful.proofs.Facts.{none_some}
use Rattle.lawful.proofs.Journals.{lawful_then, journals_lawful}
use Rattle.lawful.proofs.AddsOrIsTooLarge.{adds_or_is_too_large}
use Rattle.next_step.specs.Views.{Seen, Views}
use Rattle.next_step.specs.Next.{Next, get, act, done, next_by, worker_next}
use Rattle.next_step.specs.Changes.{Change, change_of, AddsFor, ViewsOf, number_seen}
use Rattle.next_step.specs.Runner.{RunNext, read, finish, already_finished, no_outcome, not_due, due_at, by_plan, by_outcome, runner_next, finish_change}
use Rattle.next_step.specs.Replies.{Reply, found, accepted, no_object, exists, conflict, seen}
use Rattle.next_step.specs.Calls.{Did}
use Rattle.next_step.specs.Backward.{GotBack}
use Rattle.next_step.specs.Hands.{Given, for_flow, for_pod, Hand, CallNote, answer_of}
use Rattle.next_step.specs.Plays.{EndsJob, Stepped, has_none, gets, changes, is_full, is_done, gets_pod, finishes, ends, ScheduleStep, give_job, make_step, restart, set_lag, set_clock, Stage, Plays, gave, stepped, restarted, lagged, ticked, stayed}
use Rattle.next_laws.specs.Playing.{HasSeen, Fails, NoneFails, IsPlayed, StepIsPlayed}
use Rattle.next_laws.proofs.Reasons.{Reason, by_start, by_end, by_grant, by_wait, by_look, by_arming, by_timer, by_command, by_absence, by_save, by_past, by_over, reason}
use Rattle.next_laws.proofs.Acting.{act_is_new}
use Rattle.next_laws.proofs.ReadingBack.{reads_something}

-- ---- what the store answers

record Gets (h : Story) (back : ℕ) (k : Key) : Type 0 where
  reply : Reply
  got : GotBack h back k reply
  well : Fails (answer_of reply) → ⊥

gets_answer : (h : Story) (back : ℕ) (k : Key) → Gets h back k
gets_answer h back k = by (version_at apply h k) refl
  where
    by : (o : Option (Version Content)) → version_at apply h k ≡ o → Gets h back k
    by None e = record { reply = no_object; got = e; well = λ f. f }
    by (Some v) e = let r = reads_something h k back v e in record { reply = found r.0; got = r.1; well = λ f. f }

record Does (h : Story) (c : Change) : Type 0 where
  reply : Reply
  story : Story
  did : Did h c reply story
  well : Fails (answer_of reply) → ⊥

-- the change is of what its entry is about, from a version that the object has had; from none a content is made
pub record IsFit (h : Story) (c : Change) : Type 0 where
  pub about : is_about c.key c.event.entry ≡ true
  pub had : c.number ≤ number_at h c.key
  pub makes : c.number ≡ 0 → (x : Content) × (c.event.made ≡ Some x)

first_is : (e : Event Content) → (x : Content) × (e.made ≡ Some x) → (v : Version Content) × (next_version apply None e ≡ Some v)
first_is e m = (record { number = 1; content = m.0 }, ap (λ (o : Option Content). elim o [ None ↦ None | Some x ↦ Some record { number = 1; content = x } ]) m.1)

module _ (h : Story) (c : Change) (fit : IsFit h c) where
  next_is : (o : Option (Version Content)) → number_of o ≡ c.number → (v : Version Content) × (next_version apply o c.event ≡ Some v)
  next_is (Some v) e = (record { number = v.number + 1; content = unwrap_or (apply v.content c.event.entry) v.content }, refl)
  next_is None e = first_is c.event (fit.makes (sym e))

  accepts : number_at h c.key ≡ c.number → Does h c
  accepts e =
      let n = next_is (version_at apply h c.key) e in
      let stood : version_at apply (grown h c.event) c.key ≡ Some n.0 =
      version_at-grown apply h c.event c.key ∙ ap (λ b. cond b (next_version apply (version_at apply h c.key) c.event) (version_at apply h c.key)) fit.about ∙ n.1 in
      record {
        reply = accepted (seen n.0.number n.0.content (clock_of (grown h c.event)));
        story = grown h c.event;
        did = record { unmoved = e; grows = refl; shows = record { stood = stood; clock = refl } };
        well = λ f. f;
      }

  refuses : (number_at h c.key ≡ c.number → ⊥) → (n : ℕ) → c.number ≡ n → Does h c
  refuses d zero e = record { reply = exists; story = h; did = (e, above, refl); well = λ f. f }
    where
      above : 0 < number_at h c.key
      above = positive (number_at h c.key) (λ q. d (q ∙ sym e))
        where
          positive : (m : ℕ) → (m ≡ 0 → ⊥) → 0 < m
          positive zero f = absurd (f refl)
          positive (suc m) f = omega arith
  refuses d (suc n) e = record { reply = conflict c.number (number_at h c.key); story = h; did = (starts, refl, refl, moved, refl); well = λ f. f }
    where
      starts : 0 < c.number
      starts = subst (λ m. 0 < m) (sym e) (omega arith)

      apart : (a b : ℕ) → a ≤ b → (b ≡ a → ⊥) → a < b
      apart a b l f = by (nat_eq b a) refl
        where
          by : (t : Bool) → nat_eq b a ≡ t → a < b
          by true q = absurd (f (grind (arith, nat_tests)))
          by false q = grind (arith, nat_tests)

      moved : c.number < number_at h c.key
      moved = apart c.number (number_at h c.key) fit.had d

  change_answer : Does h c
  change_answer = by (nat_eq (number_at h c.key) c.number) refl
    where
      differs : nat_eq (number_at h c.key) c.number ≡ false → number_at h c.key ≡ c.number → ⊥
      differs a b = grind (arith, nat_tests)

      by : (b : Bool) → nat_eq (number_at h c.key) c.number ≡ b → Does h c
      by true e = accepts (grind (arith, nat_tests))
      by false e = refuses (differs e) c.number refl

-- ---- each change that is next is fit

-- an object that was seen has a number, and its number was passed or stands
pub record WasSeen (h : Story) (k : Key) (n : ℕ) : Type 0 where
  pub had : n ≤ number_at h k
  pub some : n ≡ 0 → ⊥

pub was_seen : (h : Story) (k : Key) (n : ℕ) (c : Content) (t : ℕ) → IsVersionOf apply h k n c t → WasSeen h k n
was_seen h k n c t is =
    let now = still_stands apply h is.before k record { number = n; content = c } is.extends is.stood in
    record {
      had = subst (λ m. n ≤ m) (sym (ap number_of now.is_now)) now.risen;
      some = λ e. none_some record { number = n; content = c } (sym (absent_at apply is.before k (ap number_of is.stood ∙ e)) ∙ is.stood);
    }

fit_write : (h : Story) (c : Change) → is_about c.key c.event.entry ≡ true → WasSeen h c.key c.number → IsFit h c
fit_write h c a s = record { about = a; had = s.had; makes = λ e. absurd (s.some e) }

module _ (D : Document) (h : Story) (w : Text) (v : Views) (s : Seen Flow) (views : ViewsOf h w v) (viewed : v.flow ≡ Some s) (facts : Facts) where
  flow_seen : WasSeen h (Workflow w) s.number
  flow_seen =
      let a = views.flow s viewed in
      was_seen h (Workflow w) s.number (OfWorkflow s.content) s.tick record { before = views.moment; extends = views.extends; stood = a.stood; clock = a.clock }

  book_seen : (b : Seen Book) → v.book ≡ Some b → WasSeen h Locks (number_seen v.book)
  book_seen b e = subst (λ o. WasSeen h Locks (number_seen o)) (sym e) (was_seen h Locks b.number (OfLocks b.content) b.tick (views.book b e))

  abbrev pub Fit : Matter → Type 0
  Fit m = IsFit h (change_of w v s facts m)

  fact_fit : Fit (record_fact fact.Started)
  fact_fit = fit_write h (change_of w v s facts (record_fact fact.Started)) (same_key-refl (Workflow w)) flow_seen

  pub fit_by : (m : Matter) → Reason D w v s m → Fit m
  fit_by m (by_start k) = fact_fit
  fit_by m (by_end p o r) = fact_fit
  fit_by m (by_grant p l r i k) = fact_fit
  fit_by m (by_look p c e a q r) = fact_fit
  fit_by m (by_arming p i) = fact_fit
  fit_by m (by_timer p t i r) = fact_fit
  fit_by m (by_command n a c r) = fact_fit
  fit_by m (by_wait p l name r) = record { about = refl; had = (book_seen r.book r.seen).had; makes = λ e. absurd ((book_seen r.book r.seen).some e) }
  fit_by m (by_past p r over k) = record { about = refl; had = (book_seen k.book k.seen).had; makes = λ e. absurd ((book_seen k.book k.seen).some e) }
  fit_by m (by_save p cache entry o c r new) =
      let k = views.saves c r.seen in
      let a = was_seen h Caches c.number (OfCaches c.content) c.tick record { before = k.then; extends = k.extends; stood = k.shown.stood; clock = k.shown.clock } in
      let b = subst (λ q. WasSeen h Caches (number_seen q)) (sym r.seen) a in
      record { about = refl; had = b.had; makes = λ e. absurd (b.some e) }
  fit_by m (by_absence p name r) = record { about = same_key-refl (Pod w name); had = omega arith; makes = λ e. (OfPod (begun_pod p s.tick), refl) }
  fit_by m (by_over c r) = record { about = same_key-refl (Workflow c.name); had = omega arith; makes = λ e. (OfWorkflow (flow (renamed s.content.manifest c.name c.created) (carried_facts c.memoized s.content)), refl) }

-- ---- what is written with a fact

-- a change has its facts, or is a fact that makes too large a tree
data Written (s : Seen Flow) (m : Matter) : Type 0 where
  adds : (facts : Facts) → AddsFor s facts m → Written s m
  large : (x : Fact) → m ≡ record_fact x → IsTooLarge s.content x → Written s m

written : (D : Document) (h : Story) (w : Text) (v : Views) (s : Seen Flow) (m : Matter) → IsLawful D h → ViewsOf h w v → v.flow ≡ Some s → worker_next D w v ≡ act m → Written s m
written D h w v s (record_fact x) l views viewed e = by (adds_or_is_too_large s.content x journal (act_is_new D w v s x viewed e).0)
  where
    stands : HasFlow views.moment w s.content
    stands = ap (λ o. flow_in (map_content o)) (views.flow s viewed).stood

    journal : writes.IsLawfulJournal s.content.manifest s.content.journal
    journal = journals_lawful D views.moment (lawful_then D h views.moment views.extends l) w s.content stands

    by : ((facts : Facts) × Adds s.content x facts) ⊎ IsTooLarge s.content x → Written s (record_fact x)
    by (inl a) = adds a.0 a.1
    by (inr t) = large x refl t
written D h w v s (file l k r) lh views viewed e = adds [] tt
written D h w v s (create p name) lh views viewed e = adds [] tt
written D h w v s (save c k q o) lh views viewed e = adds [] tt
written D h w v s (release l k) lh views viewed e = adds [] tt
written D h w v s (submit c) lh views viewed e = adds [] tt

-- ---- a step of a hand

record Steps (D : Document) (h : Story) (i : ℕ) (a : Hand) : Type 0 where
  notes : List CallNote
  story : Story
  hand : Hand
  steps : Stepped D h i a notes story hand
  well : NoneFails notes

steps_so : (D : Document) (h : Story) (i : ℕ) (a : Hand) (notes : List CallNote) (g : Story) (b : Hand) → Stepped D h i a notes g b → NoneFails notes → Steps D h i a
steps_so D h i a notes g b s well = record { notes = notes; story = g; hand = b; steps = s; well = well }

module _ (D : Document) (h : Story) (l : IsLawful D h) (i : ℕ) (a : Hand) where
  act_steps : (w : Text) (js : List Given) (m : Matter) (s : Seen Flow) → a.jobs ≡ for_flow w ∷ js → ViewsOf h w a.views → worker_next D w a.views ≡ act m → a.views.flow ≡ Some s → Steps D h i a
  act_steps w js m s e views n viewed = by (written D h w a.views s m l views viewed n)
    where
      by : Written s m → Steps D h i a
      by (large x q t) = steps_so D h i a _ _ _ (is_full w js x s e (n ∙ ap act q) viewed t) tt
      by (adds facts k) =
          let r = change_answer h (change_of w a.views s facts m) (fit_by D h w a.views s views viewed facts m (reason D w a.views s m viewed n)) in
          steps_so D h i a _ _ _ (changes w js m s facts r.reply r.story e n viewed k r.did) (r.well, tt)

  flow_steps : (w : Text) (js : List Given) (m : Matter) (o : Option (Seen Flow)) → a.views.flow ≡ o → a.jobs ≡ for_flow w ∷ js → ViewsOf h w a.views → worker_next D w a.views ≡ act m → Steps D h i a
  flow_steps w js m None viewed e views n = absurd (no_act (sym (ap (next_by D w a.views) viewed) ∙ n))
    where
      no_act : get (Workflow w) ≡ act m → ⊥
      no_act q = cc
  flow_steps w js m (Some s) viewed e views n = act_steps w js m s e views n viewed

  worker_steps : (w : Text) (js : List Given) (n : Next) → a.jobs ≡ for_flow w ∷ js → ViewsOf h w a.views → worker_next D w a.views ≡ n → Steps D h i a
  worker_steps w js (get k) e views n = let r = gets_answer h (back_of k a.lag) k in steps_so D h i a _ _ _ (gets w js k r.reply e n r.got) (r.well, tt)
  worker_steps w js (act m) e views n = flow_steps w js m a.views.flow refl e views n
  worker_steps w js done e views n = steps_so D h i a _ _ _ (is_done w js e n) tt

  never_reads : (w name : Text) (x : Seen PodObject) → runner_next D w name (Some x) ≡ read → ⊥
  never_reads w name x e = by x.content.outcome e
    where
      if_due : (b : Bool) (o : Outcome) (t : ℕ) → cond b (finish o) (not_due t) ≡ read → ⊥
      if_due true o t q = cc
      if_due false o t q = cc

      planned : (o : Option PlannedOutcome) → by_plan x o ≡ read → ⊥
      planned None q = cc
      planned (Some p) q = if_due (nat_le (due_at x p) x.tick) (ended_by p x.content.begin x.tick) (due_at x p) q

      by : (o : Option Outcome) → by_outcome D w name x o ≡ read → ⊥
      by (Some o) q = cc
      by None q = planned (D.planned w name) q

  runner_by : (w name : Text) (js : List Given) (x : Seen PodObject) (r : RunNext) → a.jobs ≡ for_pod w name ∷ js → a.pod ≡ Some x → IsVersionOf apply h (Pod w name) x.number (OfPod x.content) x.tick → runner_next D w name (Some x) ≡ r → Steps D h i a
  runner_by w name js x (finish o) e p is n =
      let c = finish_change w name x o in
      let r = change_answer h c (fit_write h c (same_key-refl (Pod w name)) (was_seen h (Pod w name) x.number (OfPod x.content) x.tick is)) in
      steps_so D h i a _ _ _ (finishes w name js x o r.reply r.story e p n r.did) (r.well, tt)
  runner_by w name js x read e p is n = absurd (never_reads w name x n)
  runner_by w name js x already_finished e p is n = steps_so D h i a _ _ _ (ends w name js x e p (subst EndsJob (sym n) tt)) tt
  runner_by w name js x no_outcome e p is n = steps_so D h i a _ _ _ (ends w name js x e p (subst EndsJob (sym n) tt)) tt
  runner_by w name js x (not_due t) e p is n = steps_so D h i a _ _ _ (ends w name js x e p (subst EndsJob (sym n) tt)) tt

  runner_steps : (w name : Text) (js : List Given) (o : Option (Seen PodObject)) → a.pod ≡ o → a.jobs ≡ for_pod w name ∷ js → ((x : Seen PodObject) → a.pod ≡ Some x → IsVersionOf apply h (Pod w name) x.number (OfPod x.content) x.tick) → Steps D h i a
  runner_steps w name js None p e is = let r = gets_answer h a.lag (Pod w name) in steps_so D h i a _ _ _ (gets_pod w name js r.reply e p r.got) (r.well, tt)
  runner_steps w name js (Some x) p e is = runner_by w name js x (runner_next D w name (Some x)) e p (is x p) refl

  hand_steps : (js : List Given) → a.jobs ≡ js → HasSeen h js a.views a.pod → Steps D h i a
  hand_steps [] e s = steps_so D h i a _ _ _ (has_none e) tt
  hand_steps (for_flow w ∷ js) e s = worker_steps w js (worker_next D w a.views) e s.0 refl
  hand_steps (for_pod w name ∷ js) e s = runner_steps w name js a.pod refl e s.1

-- ---- a step of the schedule

plays_so : (D : Document) (p : Stage) (o : ScheduleStep) (notes : List CallNote) (q : Stage) → Plays D p o notes q → NoneFails notes → IsPlayed D p o
plays_so D p o notes q x well = record { notes = notes; next = q; plays = x; answered = well }

clock_plays : (D : Document) (p : Stage) (t : ℕ) → IsPlayed D p (set_clock t)
clock_plays D p t = by (nat_lt (clock_of p.story) t) refl
  where
    by : (b : Bool) → nat_lt (clock_of p.story) t ≡ b → IsPlayed D p (set_clock t)
    by true e = plays_so D p _ _ _ (ticked t (grind (arith, nat_tests))) ((λ f. f), tt)
    by false e = plays_so D p _ _ _ (stayed t (grind (arith, nat_tests))) ((λ f. f), tt)

pub step_is_played : StepIsPlayed
step_is_played D p (give_job i job) r a = plays_so D p _ _ _ (gave i job a.0 a.1) tt
step_is_played D p (make_step i) r a =
    let s = hand_steps D p.story r.lawful i a.0 a.0.jobs refl (r.hands i a.0 a.1) in
    plays_so D p _ _ _ (stepped i a.0 s.hand s.notes s.story a.1 s.steps) s.well
step_is_played D p (restart i) r a = plays_so D p _ _ _ (restarted i a.0 a.1) tt
step_is_played D p (set_lag i back) r a = plays_so D p _ _ _ (lagged i back a.0 a.1) tt
step_is_played D p (set_clock t) r a = clock_plays D p t
