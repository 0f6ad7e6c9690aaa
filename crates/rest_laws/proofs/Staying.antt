-- Why a workflow rests until an entry concerns it.
use Rattle.std.proofs.Common.{◌≡◌, ◌⊎◌, inl, inr, ℕ, ◌≤◌, Bool, true, false, cond, ◌&&◌, ◌||◌, nat_lt, nat_le, bytes_eq, List, [], ◌∷◌, ◌++◌, append_assoc, append-nil, refl, sym, ◌∙◌, ap, ap₂, subst, Option, Some, None, is_none, option_map, option_and_then, true≢false, arith}
use Rattle.std.proofs.lemmas.Bool.Decides.{nat_tests}
use Rattle.std.specs.List.{list_any}
use Rattle.std.proofs.lemmas.List.Folds.{list_any-append}
use Rattle.tree_types.specs.declared.path.Path.{Path}
use Rattle.tree_types.specs.declared.phase.Phase.{Phase}
use Rattle.tree_types.specs.declared.phase.Phase.TheVariants as phase
use Rattle.tree_types.specs.declared.node.Kind.{Kind}
use Rattle.tree_types.specs.declared.node.Kind.TheVariants as kind
use Rattle.tree_types.specs.declared.node.Node.{Node}
use Rattle.tree_types.specs.declared.fact.Fact.TheVariants as fact
use Rattle.tree_types.specs.declared.want.Want.{Want}
use Rattle.tree_types.specs.declared.want.Want.TheVariants as want
use Rattle.tree_types.specs.declared.entry.Key.TheVariants.{Workflow, Pod, Caches}
use Rattle.tree_types.specs.declared.entry.HolderKey.{HolderKey}
use Rattle.tree_types.specs.declared.entry.Entry.{Entry}
use Rattle.tree_types.specs.declared.entry.Entry.TheVariants.{Submit, Write, Create, Finish, File, Release, Save, Tick}
use Rattle.meaning.specs.Answers.{first_of, armed_in}
use Rattle.growth.specs.Growth.{Among}
use Rattle.history.specs.Keys.{is_about}
use Rattle.history.specs.History.{Event, Version, Extends, map_content, clock_of, grown, version_at}
use Rattle.history.specs.Sometime.{Stood}
use Rattle.history.proofs.Carrying.{was_justified, clock_rises}
use Rattle.books.specs.declared.Request.{Request}
use Rattle.books.specs.Books.{filed, freed, held, request, request_of, key_eq, release_one}
use Rattle.books.proofs.Requests.{GoesOn, or_else, filed_goes_on, freed_goes_on}
use Rattle.saves.specs.declared.Saved.{Saved}
use Rattle.saves.specs.Saves.{is_by, has_saved}
use Rattle.law.specs.Documents.{Text, Command, Resume, Resubmit, Document}
use Rattle.law.specs.Contents.{Flow, PodObject, Content, OfWorkflow, OfPod, OfLocks, OfCaches, save_of, apply, Story, HasFlow, flow_in, pod_in, saves_in, flow_of, pod_of, book_of, saves_of}
use Rattle.law.specs.Justified.{tree_of, wants_of, key, Justified, IsLawful}
use Rattle.law.specs.Due.{record_fact, save, submit, node_name, is_over, asked_by, if_unknown, if_absent, settling, filing, looking, arming, timing, resumes, resumed_node, resuming_by, resuming, creating, saving, submitting, command_tick}
use Rattle.lawful.proofs.Changes.{Found, BookChange, same_book, filed_now, freed_now, book_change, about_next, else_next, FlowNext, flow_stays, flow_goes_on, flow_next}
use Rattle.lawful.proofs.Facts.{none_some, some_none}
use Rattle.lawful.proofs.Journals.{lawful_then}
use Rattle.lawful.proofs.Moments.{book_stands}
use Rattle.lawful.proofs.Still.{ticks_rise}
use Rattle.next_step.specs.Ticks.{timer_tick, timers, least_above, if_above}
use Rattle.next_laws.proofs.Firsts.{among_filter}
use Rattle.next_laws.proofs.ContentKinds.{kind_of, kinds_are}
use Rattle.run_laws.specs.Pods.{followed}
use Rattle.rest_laws.specs.Rest.{NothingDue, Rests, concerns, concerned, IsAsleep, falls_between}
use Rattle.rest_laws.proofs.Dues.{still_none, gives_of}

-- what is asked about a workflow, as histories go on: all is as it was, but that more is filed, saved and submitted
record Leaves (h g : Story) (w : Text) : Type 0 where
  flow : flow_of g w ≡ flow_of h w
  pods : (n : Text) → pod_of g w n ≡ pod_of h w n
  requests : (k : HolderKey) → request_of (book_of g) k ≡ None → request_of (book_of h) k ≡ None
  saves : (k : HolderKey) → has_saved k (saves_of h) ≡ true → has_saved k (saves_of g) ≡ true
  flows : (name : Text) → flow_of g name ≡ None → flow_of h name ≡ None

-- ---- then nothing more is due

any_among : {A : Type 0} (p q : A → Bool) (xs : List A) → ((x : A) → Among x xs → p x ≡ q x) → list_any p xs ≡ list_any q xs
any_among p q [] e = refl
any_among p q (x ∷ xs) e = ap₂ (λ a b. a || b) (e x (inl refl)) (any_among p q xs (λ y i. e y (inr i)))

unless_all : {A : Type 0} (a b c m n : Bool) (x : A) → (n ≡ true → m ≡ true) → cond (a && (b && (c && m))) (Some x) None ≡ None → cond (a && (b && (c && n))) (Some x) None ≡ None
unless_all false b c m n x i e = refl
unless_all true false c m n x i e = refl
unless_all true true false m n x i e = refl
unless_all true true true m false x i e = refl
unless_all true true true m true x i e = some_none x (sym (ap (λ t. cond t (Some x) None) (i refl)) ∙ e)

-- what the clock makes due of a workflow, at the later moment as before
record SameHour (D : Document) (h g : Story) (f : Flow) : Type 0 where
  timers : (p : Path) (tick : ℕ) → Among (want.Timer p tick) (wants_of f) → nat_le tick (clock_of g) ≡ nat_le tick (clock_of h)
  commands : (c : Command) → Among c D.commands → nat_le (command_tick c) (clock_of g) ≡ nat_le (command_tick c) (clock_of h)

module _ (D : Document) (h g : Story) (w : Text) (f : Flow) (l : Leaves h g w) (hour : SameHour D h g f) where
  settles_less : (a : Want) → settling D h w f a ≡ None → settling D g w f a ≡ None
  settles_less (want.Pod p) e = ap (λ o. option_map (λ x. record_fact (fact.Settled p x)) (option_and_then (λ (pod : PodObject). pod.outcome) o)) (at (node_name f p.sels)) ∙ e
    where
      at : (o : Option Text) → option_and_then (pod_of g w) o ≡ option_and_then (pod_of h w) o
      at None = refl
      at (Some n) = l.pods n
  settles_less (want.Lock p k) e = refl
  settles_less (want.LookUp p c k a) e = refl
  settles_less (want.Arming p) e = refl
  settles_less (want.Timer p t) e = refl
  settles_less (want.Save p c k o) e = refl

  files_less : (a : Want) → filing D h w f a ≡ None → filing D g w f a ≡ None
  files_less (want.Lock p k) e = by (asked_by D g w f p) refl
    where
      by : (o : Option Request) → asked_by D g w f p ≡ o → if_unknown D g w f p k o ≡ None
      by None q = ap (if_unknown D h w f p k) (sym (l.requests (key w p) q)) ∙ e
      by (Some r) q = refl
  files_less (want.Pod p) e = refl
  files_less (want.LookUp p c k a) e = refl
  files_less (want.Arming p) e = refl
  files_less (want.Timer p t) e = refl
  files_less (want.Save p c k o) e = refl

  looks_less : (a : Want) → looking D h w f a ≡ None → looking D g w f a ≡ None
  looks_less (want.LookUp p c k a) e = some_none _ e
  looks_less (want.Pod p) e = refl
  looks_less (want.Lock p k) e = refl
  looks_less (want.Arming p) e = refl
  looks_less (want.Timer p t) e = refl
  looks_less (want.Save p c k o) e = refl

  arms_less : (a : Want) → arming D h w f a ≡ None → arming D g w f a ≡ None
  arms_less (want.Arming p) e = some_none _ e
  arms_less (want.Pod p) e = refl
  arms_less (want.Lock p k) e = refl
  arms_less (want.LookUp p c k a) e = refl
  arms_less (want.Timer p t) e = refl
  arms_less (want.Save p c k o) e = refl

  rings_less : (a : Want) → Among a (wants_of f) → timing D h w f a ≡ None → timing D g w f a ≡ None
  rings_less (want.Timer p t) i e = ap (λ b. cond b (Some (record_fact (fact.Due p))) None) (hour.timers p t i) ∙ e
  rings_less (want.Pod p) i e = refl
  rings_less (want.Lock p k) i e = refl
  rings_less (want.LookUp p c k a) i e = refl
  rings_less (want.Arming p) i e = refl
  rings_less (want.Save p c k o) i e = refl

  resumes_same : (armed : ℕ) (c : Command) → Among c D.commands → resumes D g w f armed c ≡ resumes D h w f armed c
  resumes_same armed (Resume c) i = ap (λ b. bytes_eq c.workflow w && (nat_le armed c.tick && b)) (hour.commands (Resume c) i)
  resumes_same armed (Resubmit c) i = refl

  resumes_less : (n : Node) → resuming D h w f n ≡ None → resuming D g w f n ≡ None
  resumes_less n e = by n.kind n.phase ∙ e
    where
      at : (o : Option ℕ) → resumed_node D g w f n o ≡ resumed_node D h w f n o
      at None = refl
      at (Some t) = ap (λ b. cond b (Some (record_fact (fact.Resumed n.path))) None) (any_among (resumes D g w f t) (resumes D h w f t) D.commands (resumes_same t))

      by : (k : Kind) (p : Phase) → resuming_by D g w f n k p ≡ resuming_by D h w f n k p
      by kind.Suspend phase.Running = at (first_of (armed_in n.path.sels) f.journal)
      by _ _ = refl

  creates_less : (a : Want) → creating D h w f a ≡ None → creating D g w f a ≡ None
  creates_less (want.Pod p) e = at (node_name f p.sels) ∙ e
    where
      at : (o : Option Text) → option_and_then (λ n. if_absent D g w f p n (pod_of g w n)) o ≡ option_and_then (λ n. if_absent D h w f p n (pod_of h w n)) o
      at None = refl
      at (Some n) = ap (if_absent D h w f p n) (l.pods n)
  creates_less (want.Lock p k) e = refl
  creates_less (want.LookUp p c k a) e = refl
  creates_less (want.Arming p) e = refl
  creates_less (want.Timer p t) e = refl
  creates_less (want.Save p c k o) e = refl

  saves_less : (a : Want) → saving D h w f a ≡ None → saving D g w f a ≡ None
  saves_less (want.Save p c k o) e = by (has_saved (key w p) (saves_of h)) refl
    where
      by : (b : Bool) → has_saved (key w p) (saves_of h) ≡ b → saving D g w f (want.Save p c k o) ≡ None
      by true q = ap (λ b. cond b None (Some (save c k (key w p) o))) (l.saves (key w p) q)
      by false q = some_none (save c k (key w p) o) (sym (ap (λ b. cond b None (Some (save c k (key w p) o))) q) ∙ e)
  saves_less (want.Pod p) e = refl
  saves_less (want.Lock p k) e = refl
  saves_less (want.LookUp p c k a) e = refl
  saves_less (want.Arming p) e = refl
  saves_less (want.Timer p t) e = refl

  submits_less : (c : Command) → Among c D.commands → submitting D h w f c ≡ None → submitting D g w f c ≡ None
  submits_less (Resubmit c) i e =
      subst (λ b. cond (bytes_eq c.old w && (b && (is_over f && is_none (flow_of g c.name)))) (Some (submit c)) None ≡ None) (sym (hour.commands (Resubmit c) i))
      (unless_all (bytes_eq c.old w) (nat_le c.tick (clock_of h)) (is_over f) (is_none (flow_of h c.name)) (is_none (flow_of g c.name)) (submit c) (new (flow_of g c.name) refl) e)
    where
      new : (o : Option Flow) → flow_of g c.name ≡ o → is_none o ≡ true → is_none (flow_of h c.name) ≡ true
      new None q i = ap is_none (l.flows c.name q)
      new (Some x) q i = absurd (true≢false (sym i))
  submits_less (Resume c) i e = refl

  nothing_more : NothingDue D h w f → NothingDue D g w f
  nothing_more n = record {
    started = n.started;
    settled = still_none (settling D h w f) (settling D g w f) (wants_of f) (λ a i. settles_less a) n.settled;
    filed = still_none (filing D h w f) (filing D g w f) (wants_of f) (λ a i. files_less a) n.filed;
    looked_up = still_none (looking D h w f) (looking D g w f) (wants_of f) (λ a i. looks_less a) n.looked_up;
    armed = still_none (arming D h w f) (arming D g w f) (wants_of f) (λ a i. arms_less a) n.armed;
    rung = still_none (timing D h w f) (timing D g w f) (wants_of f) rings_less n.rung;
    resumed = still_none (resuming D h w f) (resuming D g w f) (tree_of f) (λ n i. resumes_less n) n.resumed;
    created = still_none (creating D h w f) (creating D g w f) (wants_of f) (λ a i. creates_less a) n.created;
    saved = still_none (saving D h w f) (saving D g w f) (wants_of f) (λ a i. saves_less a) n.saved;
    submitted = still_none (submitting D h w f) (submitting D g w f) D.commands submits_less n.submitted;
  }

-- ---- what an entry leaves that does not concern the workflow

tells : {X : Type 0} → true ≡ false → X
tells e = absurd (true≢false e)

no_flow : (w : Text) (e : Entry) → concerns w e ≡ false → is_about (Workflow w) e ≡ false
no_flow w (Submit x old facts) e = e
no_flow w (Write x n facts) e = e
no_flow w (Tick t) e = refl
no_flow w (Create x n p t) e = refl
no_flow w (Finish x n o) e = refl
no_flow w (File k y r) e = refl
no_flow w (Release k y) e = refl
no_flow w (Save c k y o t) e = refl

no_pod : (w m : Text) (e : Entry) → concerns w e ≡ false → is_about (Pod w m) e ≡ false
no_pod w m (Create x n p t) e = ap (λ b. b && bytes_eq m n) e
no_pod w m (Finish x n o) e = ap (λ b. b && bytes_eq m n) e
no_pod w m (Submit x old facts) e = refl
no_pod w m (Write x n facts) e = refl
no_pod w m (Tick t) e = refl
no_pod w m (File k y r) e = refl
no_pod w m (Release k y) e = refl
no_pod w m (Save c k y o t) e = refl

-- what is filed stays filed
was_none : (a b : Option Request) → GoesOn a b → b ≡ None → a ≡ None
was_none None b i e = refl
was_none (Some r) b (inl q) e = none_some r (sym e ∙ q)
was_none (Some r) b (inr q) e = none_some (held r) (sym e ∙ q.1)

neither : (a b : Option Request) → or_else a b ≡ None → a ≡ None
neither None b e = refl
neither (Some r) b e = some_none r e

no_image : (k : HolderKey) (o : Option Request) → option_map (release_one k) o ≡ None → o ≡ None
no_image k None e = refl
no_image k (Some r) e = some_none (release_one k r) e

module _ (D : Document) (h : Story) (e : Event Content) (l : IsLawful D h) (j : Justified D h e) where
  still_filed : (k : HolderKey) → request_of (book_of (grown h e)) k ≡ None → request_of (book_of h) k ≡ None
  still_filed k none = by (book_change D h e (book_stands D h l) j)
    where
      by : BookChange D h e → request_of (book_of h) k ≡ None
      by (same_book t q) = ap (λ rs. request_of rs k) (sym q) ∙ none
      by (filed_now lock y r t why q) =
          let new : Option Request = cond (key_eq k y) (Some (request lock y r)) None in
          neither (request_of (book_of h) k) new
          (was_none (or_else (request_of (book_of h) k) new) (request_of (filed D.limits lock y r (book_of h)) k)
          (filed_goes_on D.limits lock y r (book_of h) k) (ap (λ rs. request_of rs k) (sym q) ∙ none))
      by (freed_now lock y t why q) =
          no_image y (request_of (book_of h) k)
          (was_none (option_map (release_one y) (request_of (book_of h) k)) (request_of (freed D.limits y (book_of h)) k)
          (freed_goes_on D.limits y (book_of h) k) (ap (λ rs. request_of rs k) (sym q) ∙ none))

  -- the saves as they stand
  record SavesThere : Type 0 where
    saved : List Saved
    found : Found (version_at apply h Caches) (OfCaches saved)

  saves_there : SavesThere
  saves_there = let k = kinds_are D h l in by k.caches.version k.caches.version.content refl k.caches.is (k.kinds Caches k.caches.version k.caches.is)
    where
      by : (v : Version Content) (c : Content) → v.content ≡ c → version_at apply h Caches ≡ Some v → kind_of v.content ≡ 3 → SavesThere
      by v (OfCaches ss) q is k = record { saved = ss; found = record { version = v; is = is; content = q } }
      by v (OfWorkflow f) q is k = absurd cc
      by v (OfPod pod) q is k = absurd cc
      by v (OfLocks b) q is k = absurd cc

  still_saved : (k : HolderKey) → has_saved k (saves_of h) ≡ true → has_saved k (saves_of (grown h e)) ≡ true
  still_saved k t = by e.entry refl
    where
      s : SavesThere
      s = saves_there

      before : saves_of h ≡ s.saved
      before = ap (λ o. saves_in (map_content o)) s.found.is ∙ ap (λ c. saves_in (Some c)) s.found.content

      more : (x : Saved) → has_saved k (s.saved ++ x ∷ []) ≡ true
      more x = list_any-append (is_by k) s.saved (x ∷ []) ∙ ap (λ b. b || list_any (is_by k) (x ∷ [])) (ap (has_saved k) (sym before) ∙ t)

      else : is_about Caches e.entry ≡ false → has_saved k (saves_of (grown h e)) ≡ true
      else a = ap (λ o. has_saved k (saves_in o)) (else_next h e Caches a) ∙ t

      by : (en : Entry) → e.entry ≡ en → has_saved k (saves_of (grown h e)) ≡ true
      by (Save c y v o u) q =
          let about : is_about Caches e.entry ≡ true = ap (is_about Caches) q in
          let new : Saved = save_of c y v o u in
          let made : apply (OfCaches s.saved) e.entry ≡ Some (OfCaches (s.saved ++ new ∷ [])) = ap (apply (OfCaches s.saved)) q in
          ap (λ o. has_saved k (saves_in o)) (about_next h e Caches (OfCaches s.saved) (OfCaches (s.saved ++ new ∷ [])) s.found about made) ∙ more new
      by (Submit x old facts) q = else (ap (is_about Caches) q)
      by (Write x n facts) q = else (ap (is_about Caches) q)
      by (Create x n p u) q = else (ap (is_about Caches) q)
      by (Finish x n o) q = else (ap (is_about Caches) q)
      by (File y k r) q = else (ap (is_about Caches) q)
      by (Release y k) q = else (ap (is_about Caches) q)
      by (Tick u) q = else (ap (is_about Caches) q)

  still_submitted : (name : Text) → flow_of (grown h e) name ≡ None → flow_of h name ≡ None
  still_submitted name none = by (flow_of h name) refl
    where
      goes : (f : Flow) → FlowNext D h e name f → flow_of h name ≡ None
      goes f (flow_stays q) = none_some f (sym none ∙ q)
      goes f (flow_goes_on n facts why is q) = none_some _ (sym none ∙ q)

      by : (o : Option Flow) → flow_of h name ≡ o → flow_of h name ≡ None
      by None q = q
      by (Some f) q = goes f (flow_next D h name f q e j)

  leaves : (w : Text) → concerns w e.entry ≡ false → Leaves h (grown h e) w
  leaves w c = record {
    flow = ap flow_in (else_next h e (Workflow w) (no_flow w e.entry c));
    pods = λ n. ap pod_in (else_next h e (Pod w n) (no_pod w n e.entry c));
    requests = still_filed;
    saves = still_saved;
    flows = still_submitted;
  }

-- ---- over many entries

leaves_all : (h : Story) (w : Text) → Leaves h h w
leaves_all h w = record { flow = refl; pods = λ n. refl; requests = λ k e. e; saves = λ k e. e; flows = λ n e. e }

leaves_then : (h k g : Story) (w : Text) → Leaves h k w → Leaves k g w → Leaves h g w
leaves_then h k g w a b = record {
  flow = b.flow ∙ a.flow;
  pods = λ n. b.pods n ∙ a.pods n;
  requests = λ r e. a.requests r (b.requests r e);
  saves = λ r e. b.saves r (a.saves r e);
  flows = λ n e. a.flows n (b.flows n e);
}

either : (a b : Bool) → (a || b) ≡ false → (a ≡ false) × (b ≡ false)
either false b e = (refl, e)
either true b e = tells e

leaves_many : (D : Document) (h : Story) (w : Text) (es : List (Event Content)) → IsLawful D (followed h es) → concerned w es ≡ false → Leaves h (followed h es) w
leaves_many D h w [] l c = subst (λ events. Leaves h record { start = h.start; events = events } w) (sym (append-nil h.events)) (leaves_all h w)
leaves_many D h w (e ∷ es) l c =
    let g : Story = followed h (e ∷ es) in
    let begun : Extends g h = record { same_start = refl; rest = e ∷ es; goes_on = refl } in
    let goes : g.events ≡ (grown h e).events ++ es = sym (append_assoc h.events (e ∷ []) es) in
    let stood : Stood g h e = record { extends = record { same_start = refl; rest = es; goes_on = goes } } in
    let j : Justified D h e = was_justified (Justified D) g h e stood l.each in
    let same : followed (grown h e) es ≡ g = ap (λ events. record { start = h.start; events = events }) (sym goes) in
    let both = either (concerns w e.entry) (concerned w es) c in
    let rest : Leaves (grown h e) g w = subst (λ k. Leaves (grown h e) k w) same (leaves_many D (grown h e) w es (subst (IsLawful D) (sym same) l) both.1) in
    leaves_then h (grown h e) g w (leaves D h e (lawful_then D g h begun l) j w both.0) rest

-- ---- as long as the clock stands, and where no command falls due

pub stays : (D : Document) (h : Story) (w : Text) (es : List (Event Content)) → IsLawful D (followed h es) → concerned w es ≡ false → clock_of (followed h es) ≡ clock_of h → Rests D h w → Rests D (followed h es) w
stays D h w es l c t r = λ f s.
    let g : Story = followed h es in
    let x = leaves_many D h w es l c in
    nothing_more D h g w f x
    record { timers = λ p u i. ap (nat_le u) t; commands = λ k i. ap (nat_le (command_tick k)) t }
    (r f (sym x.flow ∙ s))

not_between : (at then now : ℕ) → then ≤ now → (nat_lt then at && nat_le at now) ≡ false → nat_le at now ≡ nat_le at then
not_between at then now on e = by (nat_lt then at) refl e
  where
    later : nat_lt then at ≡ true → nat_le at now ≡ false → nat_le at then ≡ false
    later p q = grind (arith, nat_tests)

    sooner : nat_lt then at ≡ false → (nat_le at now ≡ true) × (nat_le at then ≡ true)
    sooner p = (grind (arith, nat_tests), grind (arith, nat_tests))

    by : (b : Bool) → nat_lt then at ≡ b → (b && nat_le at now) ≡ false → nat_le at now ≡ nat_le at then
    by true p q = q ∙ sym (later p q)
    by false p q = (sooner p).0 ∙ sym (sooner p).1

none_falls : (then now : ℕ) (cs : List Command) → list_any (falls_between then now) cs ≡ false → (c : Command) → Among c cs → falls_between then now c ≡ false
none_falls then now [] e c i = absurd i
none_falls then now (d ∷ cs) e c (inl is) = ap (falls_between then now) (sym is) ∙ (either (falls_between then now d) (list_any (falls_between then now) cs) e).0
none_falls then now (d ∷ cs) e c (inr i) = none_falls then now cs (either (falls_between then now d) (list_any (falls_between then now) cs) e).1 c i

pub sleeps_on : (D : Document) (h : Story) (w : Text) (es : List (Event Content)) → IsLawful D (followed h es) → concerned w es ≡ false → list_any (falls_between (clock_of h) (clock_of (followed h es))) D.commands ≡ false → IsAsleep D h w → IsAsleep D (followed h es) w
sleeps_on D h w es l c none r = λ f s.
    let g : Story = followed h es in
    let on : Extends g h = record { same_start = refl; rest = es; goes_on = refl } in
    let up : clock_of h ≤ clock_of g = clock_rises (Justified D) (ticks_rise D) g h on l.each in
    let x = leaves_many D h w es l c in
    let z = r f (sym x.flow ∙ s) in
    record {
      no_timer = z.no_timer;
      rests = nothing_more D h g w f x record {
        timers = λ p u i. absurd (z.no_timer p u i);
        commands = λ k i. not_between (command_tick k) (clock_of h) (clock_of g) up (none_falls (clock_of h) (clock_of g) D.commands none k i);
      } z.rests;
    }

-- ---- and a workflow that rests sleeps where no timer is ahead

none_ahead : (now t : ℕ) (ts : List ℕ) → Among t ts → least_above now ts ≡ None → nat_lt now t ≡ false
none_ahead now t [] i e = absurd i
none_ahead now t (u ∷ ts) i e = by (nat_lt now u) refl e i (λ j r. none_ahead now t ts j r)
  where
    by : (b : Bool) → nat_lt now u ≡ b → if_above b u (least_above now ts) ≡ None → (u ≡ t) ⊎ Among t ts → (Among t ts → least_above now ts ≡ None → nat_lt now t ≡ false) → nat_lt now t ≡ false
    by true q r i ih = some_none _ r
    by false q r (inl is) ih = ap (nat_lt now) (sym is) ∙ q
    by false q r (inr j) ih = ih j r

not_reached : (now t : ℕ) → nat_lt now t ≡ false → nat_le t now ≡ true
not_reached now t e = grind (arith, nat_tests)

pub sleeps : (D : Document) (h : Story) (w : Text) → least_above (clock_of h) (timers (flow_of h w)) ≡ None → Rests D h w → IsAsleep D h w
sleeps D h w none r = λ f s. record { rests = r f s; no_timer = λ p t i. by f s p t i }
  where
    by : (f : Flow) → HasFlow h w f → (p : Path) (t : ℕ) → Among (want.Timer p t) (wants_of f) → ⊥
    by f s p t i =
        let asked : Among t (timers (flow_of h w)) = subst (λ o. Among t (timers o)) (sym s) (among_filter timer_tick (wants_of f) (want.Timer p t) t i refl) in
        let reached : nat_le t (clock_of h) ≡ true = not_reached (clock_of h) t (none_ahead (clock_of h) t (timers (flow_of h w)) asked none) in
        let due : timing D h w f (want.Timer p t) ≡ None = gives_of (timing D h w f) (wants_of f) (want.Timer p t) i (r f s).rung in
        some_none (record_fact (fact.Due p)) (sym (ap (λ b. cond b (Some (record_fact (fact.Due p))) None) reached) ∙ due)
