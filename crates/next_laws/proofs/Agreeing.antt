-- What is next by fresh views is the first that is due.
use Rattle.std.proofs.Common.{◌≡◌, ◌⊎◌, inl, inr, ℕ, Bool, true, false, not, cond, ◌&&◌, ◌||◌, nat_le, bytes_eq, List, [], ◌∷◌, ◌++◌, append_assoc, append-nil, filter_map, refl, sym, ◌∙◌, ap, ap₂, subst, Option, Some, None, is_some, is_none, option_map, option_and_then, option_to_list, true≢false}
use Rattle.std.specs.List.{list_any, cons_option}
use Rattle.tree_types.specs.declared.path.Path.{Path}
use Rattle.tree_types.specs.declared.phase.Phase.{Phase}
use Rattle.tree_types.specs.declared.phase.Phase.TheVariants as phase
use Rattle.tree_types.specs.declared.fact.Fact.TheVariants as fact
use Rattle.tree_types.specs.declared.node.Kind.{Kind}
use Rattle.tree_types.specs.declared.node.Kind.TheVariants as kind
use Rattle.tree_types.specs.declared.node.Node.{Node}
use Rattle.tree_types.specs.declared.outcome.Outcome.{Outcome}
use Rattle.tree_types.specs.declared.want.Want.{Want}
use Rattle.tree_types.specs.declared.want.Want.TheVariants as want
use Rattle.tree_types.specs.declared.entry.Key.TheVariants as of_key
use Rattle.tree_types.specs.Phases.{fulfilled}
use Rattle.tree_types.specs.Journals.{knows}
use Rattle.meaning.specs.Answers.{Sels, path, first_of, armed_in}
use Rattle.growth.specs.Growth.{Among}
use Rattle.history.specs.History.{clock_of, map_content}
use Rattle.books.specs.declared.Request.{Request}
use Rattle.books.specs.Books.{request_of}
use Rattle.saves.specs.declared.Saved.{Saved}
use Rattle.saves.specs.Saves.{look, has_saved}
use Rattle.law.specs.Documents.{Text, Command, Resume, Resubmit, Document}
use Rattle.law.specs.Contents.{Flow, PodObject, Book, Story, flow_in, pod_in, requests_in, saves_in, flow_of, pod_of, book_of, saves_of, HasFlow}
use Rattle.law.specs.Justified.{tree_of, wants_of, key, IsLawful}
use Rattle.law.specs.Due.{Matter, record_fact, file, create, save, release, submit, node_name, name_at, is_over, due_of}
use Rattle.law.specs.Due as due
use Rattle.lawful.proofs.Facts.{none_some, some_none}
use Rattle.lawful.proofs.Journals.{later_of}
use Rattle.lawful.proofs.PodsGuarded.{key_asked}
use Rattle.next_step.specs.Views.{Seen, Look, Views, look_at, found_in, pod_seen, head, first_given}
use Rattle.next_step.specs.Next.{Next, get, act, done, Step, acting, has_locks, first_step, next_by, worker_next, steps}
use Rattle.next_step.specs.Next as step
use Rattle.next_laws.specs.Fresh.{IsPodNow, IsSubmitted, Fresh, IsTaken, NextIs, FreshActsAreDue}
use Rattle.next_laws.proofs.Firsts.{none_given}
use Rattle.next_laws.proofs.Locks.{asks_has}

-- ---- heads

or_head : {A : Type 0} → Option A → Option A → Option A
or_head None b = b
or_head (Some x) b = Some x

head_append : {A : Type 0} (xs ys : List A) → head (xs ++ ys) ≡ or_head (head xs) (head ys)
unfolding or_head
head_append [] ys = refl
head_append (x ∷ xs) ys = refl

head_cons : {A : Type 0} (o : Option A) (xs : List A) → head (cons_option o xs) ≡ or_head o (head xs)
unfolding or_head
head_cons None xs = refl
head_cons (Some x) xs = refl

filter_same : {A B : Type 0} (q g : A → Option B) (xs : List A) → ((x : A) → Among x xs → q x ≡ g x) → filter_map q xs ≡ filter_map g xs
filter_same q g [] same = refl
filter_same q g (x ∷ xs) same = ap₂ cons_option (same x (inl refl)) (filter_same q g xs (λ y i. same y (inr i)))

filter_none : {A B : Type 0} (g : A → Option B) (xs : List A) → ((x : A) → Among x xs → g x ≡ None) → filter_map g xs ≡ []
filter_none g [] none = refl
filter_none g (x ∷ xs) none = ap₂ cons_option (none x (inl refl)) (filter_none g xs (λ y i. none y (inr i)))

any_false : {A : Type 0} (test : A → Bool) (xs : List A) (x : A) → list_any test xs ≡ false → Among x xs → test x ≡ false
any_false test [] x e i = absurd i
any_false {A} test (y ∷ ys) x e i = by (test y) refl e i (λ h j. any_false test ys x h j)
  where
    by : (b : Bool) → test y ≡ b → (b || list_any test ys) ≡ false → Among x (y ∷ ys) → (list_any test ys ≡ false → Among x ys → test x ≡ false) → test x ≡ false
    by true t h j ih = absurd (true≢false h)
    by false t h (inl q) ih = ap test (sym q) ∙ t
    by false t h (inr j) ih = ih h j

any_same : {A : Type 0} (p q : A → Bool) (xs : List A) → ((x : A) → p x ≡ q x) → list_any p xs ≡ list_any q xs
any_same p q [] e = refl
any_same p q (x ∷ xs) e = ap₂ (λ a b. a || b) (e x) (any_same p q xs e)

module _ (D : Document) (h : Story) (w : Text) (v : Views) (s : Seen Flow) (lawful : IsLawful D h) (fresh : Fresh h w v) (viewed : v.flow ≡ Some s) where
  abbrev f : Flow
  f = s.content

  abbrev ws : List Want
  ws = wants_of f

  stands : HasFlow h w f
  stands = ap (λ o. flow_in (map_content o)) (fresh.flow s viewed).stood

  tick : clock_of h ≡ s.tick
  tick = (fresh.flow s viewed).clock

  book_is : (b : Seen Book) → v.book ≡ Some b → b.content.requests ≡ book_of h
  book_is b t = sym (ap (λ o. requests_in (map_content o)) (fresh.book b t))

  saves_are : (c : Seen (List Saved)) → v.saves ≡ Some c → c.content ≡ saves_of h
  saves_are c t = sym (ap (λ o. saves_in (map_content o)) (fresh.saves c t).stood)

  pod_is : (name : Text) (l : Look) → look_at v name ≡ Some l → option_map (λ (x : Seen PodObject). x.content) l.found ≡ pod_of h w name
  pod_is name l t = by l.found (fresh.pods name l t)
    where
      by : (o : Option (Seen PodObject)) → IsPodNow h w name o → option_map (λ (x : Seen PodObject). x.content) o ≡ pod_of h w name
      by None e = sym (ap (λ o. pod_in (map_content o)) e)
      by (Some x) e = sym (ap (λ o. pod_in (map_content o)) e)

  -- ---- what a step does, and what is due of its kind; no step ends the job

  abbrev Agrees : Step → Option Matter → Type 0
  Agrees None o = o ≡ None
  Agrees (Some (get k)) o = Unit {0}
  Agrees (Some (act x)) o = (o ≡ Some x) ⊎ IsTaken h x
  Agrees (Some done) o = ⊥

  acting_agrees : (a b : Option Matter) → a ≡ b → Agrees (acting a) b
  acting_agrees None b e = sym e
  acting_agrees (Some x) b e = inl (sym e)

  list_agrees : (a b : List Matter) → a ≡ b → Agrees (acting (head a)) (head b)
  list_agrees a b e = acting_agrees (head a) (head b) (ap head e)

  asked_agrees : (q g : Want → Option Matter) → ((a : Want) → Among a ws → q a ≡ g a) → Agrees (acting (step.asked D w v s q)) (head (filter_map g ws))
  asked_agrees q g same = list_agrees (filter_map q ws) (filter_map g ws) (filter_same q g ws same)

  earlier : (x : Matter) (a b : Option Matter) → (a ≡ Some x) ⊎ IsTaken h x → (or_head a b ≡ Some x) ⊎ IsTaken h x
  unfolding or_head
  earlier x None b (inl e) = none_some x e
  earlier x (Some y) b (inl e) = inl e
  earlier x a b (inr k) = inr k

  goes_on : (n : Next) (a b : Option Matter) → Agrees (Some n) a → Agrees (Some n) (or_head a b)
  goes_on (get k) a b p = tt
  goes_on (act x) a b p = earlier x a b p
  goes_on done a b p = absurd p

  leads : (n : Next) (a b : Option Matter) → Agrees (Some n) a → NextIs h n (or_head a b)
  leads (get k) a b p = tt
  leads (act x) a b p = earlier x a b p
  leads done a b p = absurd p

  nothing_before : (b a : Option Matter) → a ≡ None → or_head a b ≡ b
  unfolding or_head
  nothing_before b None e = refl
  nothing_before b (Some x) e = some_none x e

  chain : (o : Step) (ss : List Step) (a b : List Matter) → Agrees o (head a) → (o ≡ None → NextIs h (first_step ss) (head b)) → NextIs h (first_step (o ∷ ss)) (head (a ++ b))
  chain None ss a b p rest = subst (NextIs h (first_step ss)) (sym (head_append a b ∙ nothing_before (head b) (head a) p)) (rest refl)
  chain (Some n) ss a b p rest = subst (NextIs h n) (sym (head_append a b)) (leads n (head a) (head b) p)

  first_agrees : {A : Type 0} (q : A → Step) (g : A → Option Matter) (xs : List A) → ((x : A) → Agrees (q x) (g x)) → Agrees (first_given q xs) (head (filter_map g xs))
  first_agrees q g [] each = refl
  first_agrees {A} q g (x ∷ xs) each = subst (Agrees (first_given q (x ∷ xs))) (sym (head_cons (g x) (filter_map g xs))) (by (q x) (each x) (first_agrees q g xs each))
    where
      by : (o : Step) → Agrees o (g x) → Agrees (first_given q xs) (head (filter_map g xs)) → Agrees (head (cons_option o (filter_map q xs))) (or_head (g x) (head (filter_map g xs)))
      by None e ih = subst (Agrees (first_given q xs)) (sym (nothing_before (head (filter_map g xs)) (g x) e)) ih
      by (Some n) e ih = goes_on n (g x) (head (filter_map g xs)) e

  -- ---- the book

  asked_has : (p : Path) (r : Request) → request_of (book_of h) (key w p) ≡ Some r → has_locks f.manifest ≡ true
  asked_has p r e =
      let a = key_asked D (key w p) h lawful r e in
      let q = a.holds in
      let l = later_of D h a.moment w q.flow f a.extends lawful.each q.stands stands in
      subst (λ m. has_locks m ≡ true) (sym l.manifest) (asks_has q.flow.manifest q.flow.journal p r.lock q.asks)

  unviewed : (b : Bool) (o : Option (Seen Book)) → cond (b && is_none o) (Some (get of_key.Locks)) None ≡ None → o ≡ None → b ≡ false
  unviewed false o e q = refl
  unviewed true None e q = some_none (get of_key.Locks) e
  unviewed true (Some x) e q = some_none x q

  module _ (read : step.read_book D w v s ≡ None) where
    -- the view of the book shows of a path what the book shows
    requests_same : (p : Path) → step.request_in D w v s p v.book ≡ due.asked_by D h w f p
    requests_same p = by v.book refl
      where
        none : v.book ≡ None → (o : Option Request) → due.asked_by D h w f p ≡ o → None ≡ o
        none t None q = refl
        none t (Some r) q = absurd (true≢false (sym (asked_has p r q) ∙ unviewed (has_locks f.manifest) v.book read t))

        by : (o : Option (Seen Book)) → v.book ≡ o → step.request_in D w v s p o ≡ due.asked_by D h w f p
        by None t = none t (due.asked_by D h w f p) refl
        by (Some b) t = ap (λ rs. request_of rs (key w p)) (book_is b t)

    granting_same : (a : Want) → Among a ws → step.granting D w v s a ≡ due.granting D h w f a
    granting_same (want.Lock p l) i = by (step.request_in D w v s p v.book) ∙ ap (due.if_holding D h w f p) (requests_same p)
      where
        by : (o : Option Request) → step.if_holding D w v s p o ≡ due.if_holding D h w f p o
        by None = refl
        by (Some r) = refl
    granting_same (want.Pod p) i = refl
    granting_same (want.LookUp p c k g) i = refl
    granting_same (want.Arming p) i = refl
    granting_same (want.Timer p t) i = refl
    granting_same (want.Save p c k o) i = refl

    filing_same : (a : Want) → Among a ws → step.filing D w v s a ≡ due.filing D h w f a
    filing_same (want.Lock p l) i = by v.book refl
      where
        if_same : (o : Option Request) → step.if_unknown D w v s p l o ≡ due.if_unknown D h w f p l o
        if_same None = refl
        if_same (Some r) = refl

        by : (o : Option (Seen Book)) → v.book ≡ o → option_and_then (λ (b : Seen Book). step.if_unknown D w v s p l (request_of b.content.requests (key w p))) o ≡ due.if_unknown D h w f p l (due.asked_by D h w f p)
        by None t = absurd (true≢false (sym (asks_has f.manifest f.journal p l i) ∙ unviewed (has_locks f.manifest) v.book read t))
        by (Some b) t = if_same (request_of b.content.requests (key w p)) ∙ ap (λ rs. due.if_unknown D h w f p l (request_of rs (key w p))) (book_is b t)
    filing_same (want.Pod p) i = refl
    filing_same (want.LookUp p c k g) i = refl
    filing_same (want.Arming p) i = refl
    filing_same (want.Timer p t) i = refl
    filing_same (want.Save p c k o) i = refl

    held_same : (p : Path) → step.release_held D w v s p (step.request_in D w v s p v.book) ≡ due.release_held D h w f p (due.asked_by D h w f p)
    held_same p = by (step.request_in D w v s p v.book) ∙ ap (due.release_held D h w f p) (requests_same p)
      where
        by : (o : Option Request) → step.release_held D w v s p o ≡ due.release_held D h w f p o
        by None = refl
        by (Some r) = refl

    releasing_same : (n : Node) → Among n (tree_of f) → step.releasing D w v s n ≡ due.releasing D h w f n
    releasing_same n i = ap (λ o. cond (fulfilled n.phase) o None) (by n.path.sels)
      where
        by : (q : Sels) → step.release_node D w v s q n.path ≡ due.release_node D h w f q n.path
        by [] = refl
        by (t ∷ q) = held_same n.path

    own_same : step.release_own D w v s ≡ due.release_own D h w f
    own_same = ap (λ o. cond (is_over f) o None) (held_same (path []))

    release_agrees : Agrees (step.release_one D w v s) (head (option_to_list (due.release_own D h w f) ++ filter_map (due.releasing D h w f) (tree_of f)))
    release_agrees = list_agrees (option_to_list (step.release_own D w v s) ++ filter_map (step.releasing D w v s) (tree_of f)) (option_to_list (due.release_own D h w f) ++ filter_map (due.releasing D h w f) (tree_of f)) (ap₂ (λ o ms. option_to_list o ++ ms) own_same (filter_same (step.releasing D w v s) (due.releasing D h w f) (tree_of f) releasing_same))

  -- ---- the pods

  looked : (name : Text) (o : Option Look) → step.unless_looked D w v s name o ≡ None → (l : Look) × (o ≡ Some l)
  looked name None e = some_none (get (of_key.Pod w name)) e
  looked name (Some l) e = (l, refl)

  module _ (read : step.read_pod D w v s ≡ None) where
    -- each pod that is asked for was looked at
    wanted_looked : (p : Path) → Among (want.Pod p) ws → (name : Text) → node_name f p.sels ≡ Some name → (l : Look) × (look_at v name ≡ Some l)
    wanted_looked p i name e = looked name (look_at v name) (sym (ap (λ o. option_and_then (λ (m : Text). step.unless_looked D w v s m (look_at v m)) o) e) ∙ none_given (step.reading D w v s) ws read (want.Pod p) i)

    seen_same : (p : Path) → Among (want.Pod p) ws → (name : Text) → node_name f p.sels ≡ Some name → pod_seen v name ≡ pod_of h w name
    seen_same p i name e = let l = wanted_looked p i name e in ap (λ o. option_map (λ (x : Seen PodObject). x.content) (found_in o)) l.1 ∙ pod_is name l.0 l.1

    pods_same : (p : Path) → Among (want.Pod p) ws → (o : Option Text) → node_name f p.sels ≡ o → option_and_then (pod_seen v) o ≡ option_and_then (pod_of h w) o
    pods_same p i None e = refl
    pods_same p i (Some name) e = seen_same p i name e

    settling_same : (a : Want) → Among a ws → step.settling D w v s a ≡ due.settling D h w f a
    settling_same (want.Pod p) i = ap (λ o. option_map (λ (y : Outcome). record_fact (fact.Settled p y)) (option_and_then (λ (pod : PodObject). pod.outcome) o)) (pods_same p i (node_name f p.sels) refl)
    settling_same (want.Lock p l) i = refl
    settling_same (want.LookUp p c k g) i = refl
    settling_same (want.Arming p) i = refl
    settling_same (want.Timer p t) i = refl
    settling_same (want.Save p c k o) i = refl

    absent_same : (p : Path) → Among (want.Pod p) ws → (o : Option Text) → node_name f p.sels ≡ o → option_and_then (λ (m : Text). step.if_noted D w v s p m (look_at v m)) o ≡ option_and_then (λ (m : Text). due.if_absent D h w f p m (pod_of h w m)) o
    absent_same p i None e = refl
    absent_same p i (Some name) e =
        let l = wanted_looked p i name e in
        ap (step.if_noted D w v s p name) l.1 ∙ by l.0.found ∙ ap (due.if_absent D h w f p name) (pod_is name l.0 l.1)
      where
        by : (o : Option (Seen PodObject)) → cond (is_some o) None (Some (create p name)) ≡ due.if_absent D h w f p name (option_map (λ (x : Seen PodObject). x.content) o)
        by None = refl
        by (Some x) = refl

    creating_same : (a : Want) → Among a ws → step.creating D w v s a ≡ due.creating D h w f a
    creating_same (want.Pod p) i = absent_same p i (node_name f p.sels) refl
    creating_same (want.Lock p l) i = refl
    creating_same (want.LookUp p c k g) i = refl
    creating_same (want.Arming p) i = refl
    creating_same (want.Timer p t) i = refl
    creating_same (want.Save p c k o) i = refl

  -- ---- the saves

  looking_agrees : (a : Want) → Agrees (step.looking D w v s a) (due.looking D h w f a)
  looking_agrees (want.LookUp p cache entry age) = by v.saves refl
    where
      by : (o : Option (Seen (List Saved))) → v.saves ≡ o → Agrees (step.by_saves D w v s o (step.looked_up D w v s p cache entry age)) (Some (record_fact (fact.Memo p (look (saves_of h) cache entry (clock_of h) age))))
      by None t = tt
      by (Some c) t = inl (ap₂ (λ ss now. Some (record_fact (fact.Memo p (look ss cache entry now age)))) (sym (saves_are c t)) (fresh.saves c t).clock)
  looking_agrees (want.Pod p) = refl
  looking_agrees (want.Lock p l) = refl
  looking_agrees (want.Arming p) = refl
  looking_agrees (want.Timer p t) = refl
  looking_agrees (want.Save p c k o) = refl

  saving_same : (c : Seen (List Saved)) → v.saves ≡ Some c → (a : Want) → Among a ws → step.saving D w v s c.content a ≡ due.saving D h w f a
  saving_same c t (want.Save p cache entry o) i = ap (λ ss. cond (has_saved (key w p) ss) None (Some (save cache entry (key w p) o))) (saves_are c t)
  saving_same c t (want.Pod p) i = refl
  saving_same c t (want.Lock p l) i = refl
  saving_same c t (want.LookUp p k y g) i = refl
  saving_same c t (want.Arming p) i = refl
  saving_same c t (want.Timer p u) i = refl

  no_save : (a : Want) → step.is_save D w v s a ≡ false → due.saving D h w f a ≡ None
  no_save (want.Save p cache entry o) e = absurd (true≢false e)
  no_save (want.Pod p) e = refl
  no_save (want.Lock p l) e = refl
  no_save (want.LookUp p k y g) e = refl
  no_save (want.Arming p) e = refl
  no_save (want.Timer p u) e = refl

  save_agrees : Agrees (step.save_one D w v s) (head (filter_map (due.saving D h w f) ws))
  save_agrees = by (list_any (step.is_save D w v s) ws) refl
    where
      with_saves : (o : Option (Seen (List Saved))) → v.saves ≡ o → Agrees (step.by_saves D w v s o (step.save_by D w v s)) (head (filter_map (due.saving D h w f) ws))
      with_saves None t = tt
      with_saves (Some c) t = asked_agrees (step.saving D w v s c.content) (due.saving D h w f) (saving_same c t)

      by : (b : Bool) → list_any (step.is_save D w v s) ws ≡ b → Agrees (cond b (step.by_saves D w v s v.saves (step.save_by D w v s)) None) (head (filter_map (due.saving D h w f) ws))
      by true t = with_saves v.saves refl
      by false t = ap head (filter_none (due.saving D h w f) ws (λ a i. no_save a (any_false (step.is_save D w v s) ws a t i)))

  -- ---- the clock

  arming_same : (a : Want) → Among a ws → step.arming D w v s a ≡ due.arming D h w f a
  arming_same (want.Arming p) i = ap (λ t. Some (record_fact (fact.Armed p t))) (sym tick)
  arming_same (want.Pod p) i = refl
  arming_same (want.Lock p l) i = refl
  arming_same (want.LookUp p k y g) i = refl
  arming_same (want.Timer p u) i = refl
  arming_same (want.Save p c k o) i = refl

  timing_same : (a : Want) → Among a ws → step.timing D w v s a ≡ due.timing D h w f a
  timing_same (want.Timer p t) i = ap (λ now. cond (nat_le t now) (Some (record_fact (fact.Due p))) None) (sym tick)
  timing_same (want.Pod p) i = refl
  timing_same (want.Lock p l) i = refl
  timing_same (want.LookUp p k y g) i = refl
  timing_same (want.Arming p) i = refl
  timing_same (want.Save p c k o) i = refl

  resumes_same : (armed : ℕ) (c : Command) → step.resumes D w v s armed c ≡ due.resumes D h w f armed c
  resumes_same armed (Resume c) = ap (λ now. bytes_eq c.workflow w && (nat_le armed c.tick && nat_le c.tick now)) (sym tick)
  resumes_same armed (Resubmit c) = refl

  resuming_same : (n : Node) → Among n (tree_of f) → step.resuming D w v s n ≡ due.resuming D h w f n
  resuming_same n i = by n.kind n.phase
    where
      at : (o : Option ℕ) → step.resumed_node D w v s n o ≡ due.resumed_node D h w f n o
      at None = refl
      at (Some t) = ap (λ b. cond b (Some (record_fact (fact.Resumed n.path))) None) (any_same (step.resumes D w v s t) (due.resumes D h w f t) D.commands (resumes_same t))

      by : (k : Kind) (p : Phase) → step.resuming_by D w v s n k p ≡ due.resuming_by D h w f n k p
      by kind.Suspend phase.Running = at (first_of (armed_in n.path.sels) f.journal)
      by _ _ = refl

  -- ---- resubmissions

  known : (name : Text) → list_any (bytes_eq name) v.tried ≡ true → is_none (flow_of h name) ≡ false
  known name e = ap is_none (fresh.tried name e).1

  submitted : (name : Text) (o : Option Flow) → flow_of h name ≡ o → is_none o ≡ false → IsSubmitted h name
  submitted name None q e = absurd (true≢false e)
  submitted name (Some g) q e = (g, q)

  submitting_agrees : (c : Command) → Agrees (acting (step.submitting D w v s c)) (due.submitting D h w f c)
  submitting_agrees (Resume c) = refl
  submitting_agrees (Resubmit c) = subst (λ now. Agrees (acting (step.submitting D w v s (Resubmit c))) (cond (bytes_eq c.old w && (nat_le c.tick now && (is_over f && is_none (flow_of h c.name)))) (Some (submit c)) None)) (sym tick) (by (bytes_eq c.old w) (nat_le c.tick s.tick) (is_over f) (list_any (bytes_eq c.name) v.tried) (is_none (flow_of h c.name)) refl refl)
    where
      by : (x y z t u : Bool) → list_any (bytes_eq c.name) v.tried ≡ t → is_none (flow_of h c.name) ≡ u → Agrees (acting (cond (x && (y && (z && not t))) (Some (submit c)) None)) (cond (x && (y && (z && u))) (Some (submit c)) None)
      by false y z t u p q = refl
      by true false z t u p q = refl
      by true true false t u p q = refl
      by true true true true true p q = absurd (true≢false (sym q ∙ known c.name p))
      by true true true true false p q = refl
      by true true true false true p q = inl refl
      by true true true false false p q = inr (submitted c.name (flow_of h c.name) refl q)

  acting_first : {A : Type 0} (q : A → Option Matter) (xs : List A) → first_given (λ x. acting (q x)) xs ≡ acting (first_given q xs)
  acting_first q [] = refl
  acting_first {A} q (x ∷ xs) = by (q x) (acting_first q xs)
    where
      by : (o : Option Matter) → first_given (λ x. acting (q x)) xs ≡ acting (first_given q xs) → head (cons_option (acting o) (filter_map (λ x. acting (q x)) xs)) ≡ acting (head (cons_option o (filter_map q xs)))
      by None ih = ih
      by (Some y) ih = refl

  submit_agrees : Agrees (step.resubmit D w v s) (head (filter_map (due.submitting D h w f) D.commands))
  submit_agrees = subst (λ o. Agrees o (head (filter_map (due.submitting D h w f) D.commands))) (acting_first (step.submitting D w v s) D.commands) (first_agrees (λ c. acting (step.submitting D w v s c)) (due.submitting D h w f) D.commands submitting_agrees)

  -- ---- all of them

  start_agrees : Agrees (step.start D w v s) (head (due.due_start D h w f))
  start_agrees = by (knows f.journal fact.Started)
    where
      by : (b : Bool) → Agrees (cond b None (Some (act (record_fact fact.Started)))) (head (cond b [] (record_fact fact.Started ∷ [])))
      by true = refl
      by false = inl refl

  reads_book : Agrees (step.read_book D w v s) None
  reads_book = by (has_locks f.manifest && is_none v.book)
    where
      by : (b : Bool) → Agrees (cond b (Some (get of_key.Locks)) None) None
      by true = tt
      by false = refl

  reads_pod : Agrees (step.read_pod D w v s) None
  reads_pod = subst (Agrees (step.read_pod D w v s)) (ap head (filter_none (λ (a : Want). None) ws (λ a i. refl))) (first_agrees (step.reading D w v s) (λ a. None) ws reading)
    where
      one : (name : Text) (o : Option Look) → Agrees (step.unless_looked D w v s name o) None
      one name None = tt
      one name (Some l) = refl

      named : (o : Option Text) → Agrees (option_and_then (λ (name : Text). step.unless_looked D w v s name (look_at v name)) o) None
      named None = refl
      named (Some name) = one name (look_at v name)

      reading : (a : Want) → Agrees (step.reading D w v s a) None
      reading (want.Pod p) = named (node_name f p.sels)
      reading (want.Lock p l) = refl
      reading (want.LookUp p k y g) = refl
      reading (want.Arming p) = refl
      reading (want.Timer p u) = refl
      reading (want.Save p c k o) = refl

  -- the parts of what is due, grouped to the right
  grouped : (a b c d e g i j k l m n o : List Matter) → a ++ (b ++ (c ++ (d ++ (e ++ (g ++ (i ++ (j ++ (k ++ (l ++ ((m ++ n) ++ (o ++ []))))))))))) ≡ a ++ b ++ c ++ d ++ e ++ g ++ i ++ j ++ k ++ l ++ m ++ n ++ o
  grouped a b c d e g i j k l m n o = simp (append_assoc, append-nil) refl

  steps_due : NextIs h (first_step (steps D w v s)) (head (due_of D h w f))
  steps_due = subst (λ ms. NextIs h (first_step (steps D w v s)) (head ms))
      (grouped (due.due_start D h w f) (filter_map (due.settling D h w f) ws) (filter_map (due.granting D h w f) ws) (filter_map (due.filing D h w f) ws) (filter_map (due.looking D h w f) ws) (filter_map (due.arming D h w f) ws) (filter_map (due.timing D h w f) ws) (filter_map (due.resuming D h w f) (tree_of f)) (filter_map (due.creating D h w f) ws) (filter_map (due.saving D h w f) ws) (option_to_list (due.release_own D h w f)) (filter_map (due.releasing D h w f) (tree_of f)) (filter_map (due.submitting D h w f) D.commands))
      (chain (step.read_book D w v s) _ [] _ reads_book (λ book.
      chain (step.read_pod D w v s) _ [] _ reads_pod (λ pod.
      chain (step.start D w v s) _ (due.due_start D h w f) _ start_agrees (λ e.
      chain (step.settle D w v s) _ (filter_map (due.settling D h w f) ws) _ (asked_agrees (step.settling D w v s) (due.settling D h w f) (settling_same pod)) (λ e.
      chain (step.grant D w v s) _ (filter_map (due.granting D h w f) ws) _ (asked_agrees (step.granting D w v s) (due.granting D h w f) (granting_same book)) (λ e.
      chain (step.file_one D w v s) _ (filter_map (due.filing D h w f) ws) _ (asked_agrees (step.filing D w v s) (due.filing D h w f) (filing_same book)) (λ e.
      chain (step.look_up D w v s) _ (filter_map (due.looking D h w f) ws) _ (first_agrees (step.looking D w v s) (due.looking D h w f) ws looking_agrees) (λ e.
      chain (step.arm D w v s) _ (filter_map (due.arming D h w f) ws) _ (asked_agrees (step.arming D w v s) (due.arming D h w f) arming_same) (λ e.
      chain (step.ring D w v s) _ (filter_map (due.timing D h w f) ws) _ (asked_agrees (step.timing D w v s) (due.timing D h w f) timing_same) (λ e.
      chain (step.resume D w v s) _ (filter_map (due.resuming D h w f) (tree_of f)) _ (list_agrees (filter_map (step.resuming D w v s) (tree_of f)) (filter_map (due.resuming D h w f) (tree_of f)) (filter_same (step.resuming D w v s) (due.resuming D h w f) (tree_of f) resuming_same)) (λ e.
      chain (step.create_one D w v s) _ (filter_map (due.creating D h w f) ws) _ (asked_agrees (step.creating D w v s) (due.creating D h w f) (creating_same pod)) (λ e.
      chain (step.save_one D w v s) _ (filter_map (due.saving D h w f) ws) _ save_agrees (λ e.
      chain (step.release_one D w v s) _ (option_to_list (due.release_own D h w f) ++ filter_map (due.releasing D h w f) (tree_of f)) _ (release_agrees book) (λ e.
      chain (step.resubmit D w v s) [] (filter_map (due.submitting D h w f) D.commands) [] submit_agrees (λ e. refl)))))))))))))))

-- what is next by fresh views is what is due
pub fresh_acts_are_due : FreshActsAreDue
fresh_acts_are_due D h w v s l fresh viewed = subst (λ o. NextIs h (next_by D w v o) (head (due_of D h w s.content))) (sym viewed) (steps_due D h w v s l fresh viewed)
