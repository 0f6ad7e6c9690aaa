-- Why an act is next: what its step has seen.
use Rattle.std.proofs.Common.{◌≡◌, ℕ, ◌≤◌, Bool, true, false, not, ◌&&◌, nat_le, bytes_eq, List, [], ◌∷◌, ◌++◌, filter_map, find, refl, sym, ◌∙◌, ap, subst, Option, Some, None, is_some, is_none, option_and_then, option_to_list, true≢false, arith}
use Rattle.std.specs.List.{list_any}
use Rattle.std.proofs.lemmas.Bool.Decides.{nat_tests}
use Rattle.tree_types.specs.declared.path.Path.{Path}
use Rattle.tree_types.specs.declared.path.LockId.{LockId}
use Rattle.tree_types.specs.declared.phase.Phase.{Phase}
use Rattle.tree_types.specs.declared.phase.Phase.TheVariants as phase
use Rattle.tree_types.specs.declared.fact.Fact.TheVariants as fact
use Rattle.tree_types.specs.declared.node.Kind.{Kind}
use Rattle.tree_types.specs.declared.node.Kind.TheVariants as kind
use Rattle.tree_types.specs.declared.node.Node.{Node}
use Rattle.tree_types.specs.declared.outcome.Outcome.{Outcome}
use Rattle.tree_types.specs.declared.outcome.Outputs.{Outputs}
use Rattle.tree_types.specs.declared.want.Want.{Want}
use Rattle.tree_types.specs.declared.want.Want.TheVariants as want
use Rattle.tree_types.specs.declared.entry.Key.{Key}
use Rattle.tree_types.specs.declared.entry.Key.TheVariants as of_key
use Rattle.tree_types.specs.Phases.{fulfilled}
use Rattle.tree_types.specs.Journals.{knows}
use Rattle.meaning.specs.Answers.{Sels, path, first_of, armed_in}
use Rattle.growth.specs.Growth.{Among}
use Rattle.history.proofs.Keys.{bytes_eq-true}
use Rattle.books.specs.declared.Request.{Request}
use Rattle.books.specs.declared.LockState.{LockState}
use Rattle.books.specs.declared.LockState.TheVariants.{Waiting, Holding, Released}
use Rattle.books.specs.Books.{request_of, is_holding}
use Rattle.saves.specs.declared.Saved.{Saved}
use Rattle.saves.specs.Saves.{look, has_saved}
use Rattle.law.specs.Documents.{Text, Resumption, Resubmission, Command, Resume, Resubmit, Document}
use Rattle.law.specs.Contents.{Flow, PodObject, Book}
use Rattle.law.specs.Justified.{tree_of, wants_of, key, rank}
use Rattle.law.specs.Due.{Matter, record_fact, file, create, save, release, submit, is_at, node_name, name_at, is_over}
use Rattle.lawful.proofs.Facts.{some_same, none_some, same_path}
use Rattle.lawful.proofs.DueIsJustified.{found}
use Rattle.next_step.specs.Views.{Seen, Look, Views, look_at, found_in, pod_seen, head, first_given}
use Rattle.next_step.specs.Next.{Next, get, act, done, Step, acting, has_locks, first_step, next_by, worker_next, steps}
use Rattle.next_step.specs.Next as step
use Rattle.next_laws.proofs.Firsts.{given_by, any_given, mapped, chained, if_then, if_some, unless_some, both}

-- the node of a path
pub record NodeAt (f : Flow) (p : Path) (name : Text) : Type 0 where
  pub node : Node
  pub place : Among node (tree_of f)
  pub path : node.path ≡ p
  pub named : node.name ≡ name

pub node_at : (f : Flow) (p : Path) (name : Text) → node_name f p.sels ≡ Some name → NodeAt f p name
node_at f p name e =
    let m = mapped (λ (n : Node). n.name) (find (is_at p.sels) (tree_of f)) name e in
    let r = found (is_at p.sels) (tree_of f) m.0 m.1 in
    record { node = m.0; place = r.0; path = same_path m.0.path p r.1; named = m.2 }

-- ---- what each kind of act has seen, by the views v of which s is that of the workflow

module _ (D : Document) (w : Text) (v : Views) (s : Seen Flow) where
  abbrev Asks : Want → Type 0
  Asks a = Among a (wants_of s.content)

  pub record SeesEnded (p : Path) (o : Outcome) : Type 0 where
    pub asks : Asks (want.Pod p)
    pub name : Text
    pub named : node_name s.content p.sels ≡ Some name
    pub pod : Seen PodObject
    pub seen : found_in (look_at v name) ≡ Some pod
    pub outcome : pod.content.outcome ≡ Some o

  -- what the book that was seen says of a path
  pub record SeesHeld (p : Path) (r : Request) : Type 0 where
    pub book : Seen Book
    pub seen : v.book ≡ Some book
    pub stands : request_of book.content.requests (key w p) ≡ Some r
    pub holding : r.state ≡ Holding

  pub record SeesWaiting (p : Path) (l : LockId) (name : Text) : Type 0 where
    pub asks : Asks (want.Lock p l)
    pub book : Seen Book
    pub seen : v.book ≡ Some book
    pub unknown : request_of book.content.requests (key w p) ≡ None
    pub named : name_at s.content p.sels ≡ Some name

  pub record SeesSaves (a : Want) (c : Seen (List Saved)) : Type 0 where
    pub asks : Asks a
    pub seen : v.saves ≡ Some c

  pub record SeesSuspended (n : Node) (armed : ℕ) (c : Resumption) : Type 0 where
    pub place : Among n (tree_of s.content)
    pub is_suspend : n.kind ≡ kind.Suspend
    pub runs : n.phase ≡ phase.Running
    pub armed_then : first_of (armed_in n.path.sels) s.content.journal ≡ Some armed
    pub given : Among (Resume c) D.commands
    pub of_this : c.workflow ≡ w
    pub after : armed ≤ c.tick
    pub reached : c.tick ≤ s.tick

  pub record SeesAbsent (p : Path) (name : Text) : Type 0 where
    pub asks : Asks (want.Pod p)
    pub named : node_name s.content p.sels ≡ Some name
    pub look : Look
    pub seen : look_at v name ≡ Some look
    pub absent : look.found ≡ None

  pub record SeesOver (c : Resubmission) : Type 0 where
    pub given : Among (Resubmit c) D.commands
    pub of_this : c.old ≡ w
    pub reached : c.tick ≤ s.tick
    pub over : is_over s.content ≡ true
    pub untried : list_any (bytes_eq c.name) v.tried ≡ false

  -- the path is the empty one and the workflow is over, or its node is fulfilled
  pub data IsPast : Path → Type 0 where
    own_past : is_over s.content ≡ true → IsPast (path [])
    node_past :
        (n : Node) → Among n (tree_of s.content) → fulfilled n.phase ≡ true → (n.path.sels ≡ [] → ⊥) → IsPast n.path

  pub data Reason : Matter → Type 0 where
    by_start : knows s.content.journal fact.Started ≡ false → Reason (record_fact fact.Started)
    by_end : (p : Path) (o : Outcome) → SeesEnded p o → Reason (record_fact (fact.Settled p o))
    by_grant :
        (p : Path) (l : LockId) (r : Request) → Asks (want.Lock p l) → SeesHeld p r → Reason (record_fact (fact.Granted p))
    by_wait :
        (p : Path) (l : LockId) (name : Text) → SeesWaiting p l name →
        Reason (file l (key w p) (rank s.content.manifest p.sels name))
    by_look :
        (p : Path) (cache entry : Text) (age : Option ℕ) (c : Seen (List Saved)) →
        SeesSaves (want.LookUp p cache entry age) c →
        Reason (record_fact (fact.Memo p (look c.content cache entry c.tick age)))
    by_arming : (p : Path) → Asks (want.Arming p) → Reason (record_fact (fact.Armed p s.tick))
    by_timer : (p : Path) (tick : ℕ) → Asks (want.Timer p tick) → tick ≤ s.tick → Reason (record_fact (fact.Due p))
    by_command : (n : Node) (armed : ℕ) (c : Resumption) → SeesSuspended n armed c → Reason (record_fact (fact.Resumed n.path))
    by_absence : (p : Path) (name : Text) → SeesAbsent p name → Reason (create p name)
    by_save :
        (p : Path) (cache entry : Text) (o : Outputs) (c : Seen (List Saved)) →
        SeesSaves (want.Save p cache entry o) c → has_saved (key w p) c.content ≡ false →
        Reason (save cache entry (key w p) o)
    by_past : (p : Path) (r : Request) → IsPast p → SeesHeld p r → Reason (release r.lock (key w p))
    by_over : (c : Resubmission) → SeesOver c → Reason (submit c)

-- ---- each step

get_act : {B : Type 0} (k : Key) (x : Matter) → Some (get k) ≡ Some (act x) → B
get_act k x e = absurd cc

act_same : (x y : Matter) → Some (act x) ≡ Some (act y) → x ≡ y
act_same x y e = cc

acted : (o : Option Matter) (x : Matter) → acting o ≡ Some (act x) → o ≡ Some x
acted None x e = none_some (act x) e
acted (Some y) x e = ap Some (act_same y x e)

at_most : (a b : ℕ) → nat_le a b ≡ true → a ≤ b
at_most a b h = grind (arith, nat_tests)

holding_is : (t : LockState) → is_holding t ≡ true → t ≡ Holding
holding_is Holding e = refl
holding_is Waiting e = absurd (true≢false (sym e))
holding_is Released e = absurd (true≢false (sym e))

not_true : (b : Bool) → not b ≡ true → b ≡ false
not_true false e = refl
not_true true e = absurd (true≢false (sym e))

none_found : {A : Type 0} (o : Option A) → is_some o ≡ false → o ≡ None
none_found None e = refl
none_found (Some x) e = absurd (true≢false e)

module _ (D : Document) (w : Text) (v : Views) (s : Seen Flow) where
  abbrev Good : Matter → Type 0
  Good x = Reason D w v s x

  abbrev Wanted : Want → Type 0
  Wanted a = Among a (wants_of s.content)

  start_good : (x : Matter) → step.start D w v s ≡ Some (act x) → Good x
  start_good x e =
      let u = unless_some (knows s.content.journal fact.Started) (act (record_fact fact.Started)) (act x) e in
      subst Good (act_same (record_fact fact.Started) x (ap Some u.1)) (by_start u.0)

  settling_good : (x : Matter) (a : Want) → Wanted a → step.settling D w v s a ≡ Some x → Good x
  settling_good x (want.Pod p) i e =
      let o = mapped (λ (o : Outcome). record_fact (fact.Settled p o)) (option_and_then (λ (pod : PodObject). pod.outcome) (step.pod_at D w v s p.sels)) x e in
      let pod = chained (λ (pod : PodObject). pod.outcome) (step.pod_at D w v s p.sels) o.0 o.1 in
      let name = chained (pod_seen v) (node_name s.content p.sels) pod.0 pod.1 in
      let x = mapped (λ (x : Seen PodObject). x.content) (found_in (look_at v name.0)) pod.0 name.2 in
      subst Good o.2 (by_end p o.0 record { asks = i; name = name.0; named = name.1; pod = x.0; seen = x.1; outcome = ap (λ (q : PodObject). q.outcome) x.2 ∙ pod.2 })
  settling_good x (want.Lock p l) i e = none_some x e
  settling_good x (want.LookUp p c k g) i e = none_some x e
  settling_good x (want.Arming p) i e = none_some x e
  settling_good x (want.Timer p t) i e = none_some x e
  settling_good x (want.Save p c k o) i e = none_some x e

  -- what is in the book that was seen
  held : (p : Path) (r : Request) → step.request_in D w v s p v.book ≡ Some r → is_holding r.state ≡ true → SeesHeld D w v s p r
  held p r e h =
      let b = chained (λ (b : Seen Book). request_of b.content.requests (key w p)) v.book r e in
      record { book = b.0; seen = b.1; stands = b.2; holding = holding_is r.state h }

  granted_good : (p : Path) (l : LockId) (x : Matter) → Wanted (want.Lock p l) → (o : Option Request) → step.request_in D w v s p v.book ≡ o → step.if_holding D w v s p o ≡ Some x → Good x
  granted_good p l x i None q e = none_some x e
  granted_good p l x i (Some r) q e =
      let t = if_some (is_holding r.state) (record_fact (fact.Granted p)) x e in
      subst Good t.1 (by_grant p l r i (held p r q t.0))

  granting_good : (x : Matter) (a : Want) → Wanted a → step.granting D w v s a ≡ Some x → Good x
  granting_good x (want.Lock p l) i e = granted_good p l x i (step.request_in D w v s p v.book) refl e
  granting_good x (want.Pod p) i e = none_some x e
  granting_good x (want.LookUp p c k g) i e = none_some x e
  granting_good x (want.Arming p) i e = none_some x e
  granting_good x (want.Timer p t) i e = none_some x e
  granting_good x (want.Save p c k o) i e = none_some x e

  unknown_good : (p : Path) (l : LockId) (x : Matter) → Wanted (want.Lock p l) → (b : Seen Book) → v.book ≡ Some b → (o : Option Request) → request_of b.content.requests (key w p) ≡ o → step.if_unknown D w v s p l o ≡ Some x → Good x
  unknown_good p l x i b t (Some r) q e = none_some x e
  unknown_good p l x i b t None q e =
      let n = mapped (λ (n : Text). file l (key w p) (rank s.content.manifest p.sels n)) (name_at s.content p.sels) x e in
      subst Good n.2 (by_wait p l n.0 record { asks = i; book = b; seen = t; unknown = q; named = n.1 })

  filing_good : (x : Matter) (a : Want) → Wanted a → step.filing D w v s a ≡ Some x → Good x
  filing_good x (want.Lock p l) i e =
      let b = chained (λ (b : Seen Book). step.if_unknown D w v s p l (request_of b.content.requests (key w p))) v.book x e in
      unknown_good p l x i b.0 b.1 (request_of b.0.content.requests (key w p)) refl b.2
  filing_good x (want.Pod p) i e = none_some x e
  filing_good x (want.LookUp p c k g) i e = none_some x e
  filing_good x (want.Arming p) i e = none_some x e
  filing_good x (want.Timer p t) i e = none_some x e
  filing_good x (want.Save p c k o) i e = none_some x e

  -- what is done by the saves was seen in them
  seen_saves : (answer : Seen (List Saved) → Option Matter) (x : Matter) (o : Option (Seen (List Saved))) → v.saves ≡ o → step.by_saves D w v s o answer ≡ Some (act x) → (c : Seen (List Saved)) × (v.saves ≡ Some c) × (answer c ≡ Some x)
  seen_saves answer x None t e = get_act of_key.Caches x e
  seen_saves answer x (Some c) t e = (c, t, acted (answer c) x e)

  looking_good : (x : Matter) (a : Want) → Wanted a → step.looking D w v s a ≡ Some (act x) → Good x
  looking_good x (want.LookUp p cache entry age) i e =
      let c = seen_saves (step.looked_up D w v s p cache entry age) x v.saves refl e in
      subst Good (some_same (record_fact (fact.Memo p (look c.0.content cache entry c.0.tick age))) x c.2) (by_look p cache entry age c.0 record { asks = i; seen = c.1 })
  looking_good x (want.Pod p) i e = none_some (act x) e
  looking_good x (want.Lock p l) i e = none_some (act x) e
  looking_good x (want.Arming p) i e = none_some (act x) e
  looking_good x (want.Timer p t) i e = none_some (act x) e
  looking_good x (want.Save p c k o) i e = none_some (act x) e

  arming_good : (x : Matter) (a : Want) → Wanted a → step.arming D w v s a ≡ Some x → Good x
  arming_good x (want.Arming p) i e = subst Good (some_same (record_fact (fact.Armed p s.tick)) x e) (by_arming p i)
  arming_good x (want.Pod p) i e = none_some x e
  arming_good x (want.Lock p l) i e = none_some x e
  arming_good x (want.LookUp p c k g) i e = none_some x e
  arming_good x (want.Timer p t) i e = none_some x e
  arming_good x (want.Save p c k o) i e = none_some x e

  timing_good : (x : Matter) (a : Want) → Wanted a → step.timing D w v s a ≡ Some x → Good x
  timing_good x (want.Timer p t) i e =
      let r = if_some (nat_le t s.tick) (record_fact (fact.Due p)) x e in
      subst Good r.1 (by_timer p t i (at_most t s.tick r.0))
  timing_good x (want.Pod p) i e = none_some x e
  timing_good x (want.Lock p l) i e = none_some x e
  timing_good x (want.LookUp p c k g) i e = none_some x e
  timing_good x (want.Arming p) i e = none_some x e
  timing_good x (want.Save p c k o) i e = none_some x e

  resumed_by : (n : Node) (armed : ℕ) → Among n (tree_of s.content) → n.kind ≡ kind.Suspend → n.phase ≡ phase.Running → first_of (armed_in n.path.sels) s.content.journal ≡ Some armed → (c : Command) → Among c D.commands → step.resumes D w v s armed c ≡ true → Good (record_fact (fact.Resumed n.path))
  resumed_by n armed i k r q (Resubmit c) j e = absurd (true≢false (sym e))
  resumed_by n armed i k r q (Resume c) j e =
      let a = both (bytes_eq c.workflow w) (nat_le armed c.tick && nat_le c.tick s.tick) e in
      let b = both (nat_le armed c.tick) (nat_le c.tick s.tick) a.1 in
      by_command n armed c record {
        place = i;
        is_suspend = k;
        runs = r;
        armed_then = q;
        given = j;
        of_this = bytes_eq-true c.workflow w a.0;
        after = at_most armed c.tick b.0;
        reached = at_most c.tick s.tick b.1;
      }

  resumed_good : (x : Matter) (n : Node) → Among n (tree_of s.content) → n.kind ≡ kind.Suspend → n.phase ≡ phase.Running → (o : Option ℕ) → first_of (armed_in n.path.sels) s.content.journal ≡ o → step.resumed_node D w v s n o ≡ Some x → Good x
  resumed_good x n i k r None q e = none_some x e
  resumed_good x n i k r (Some armed) q e =
      let a = if_some (list_any (step.resumes D w v s armed) D.commands) (record_fact (fact.Resumed n.path)) x e in
      let c = any_given (step.resumes D w v s armed) D.commands a.0 in
      subst Good a.1 (resumed_by n armed i k r q c.0 c.1 c.2)

  resuming_good : (x : Matter) (n : Node) → Among n (tree_of s.content) → step.resuming D w v s n ≡ Some x → Good x
  resuming_good x n i e = by n.kind n.phase refl refl e
    where
      by : (k : Kind) (r : Phase) → n.kind ≡ k → n.phase ≡ r → step.resuming_by D w v s n k r ≡ Some x → Good x
      by kind.Suspend phase.Running k r h = resumed_good x n i k r (first_of (armed_in n.path.sels) s.content.journal) refl h
      by _ _ k r h = none_some x h

  noted_good : (p : Path) (name : Text) (x : Matter) → Wanted (want.Pod p) → node_name s.content p.sels ≡ Some name → (o : Option Look) → look_at v name ≡ o → step.if_noted D w v s p name o ≡ Some x → Good x
  noted_good p name x i q None t e = none_some x e
  noted_good p name x i q (Some l) t e =
      let u = unless_some (is_some l.found) (create p name) x e in
      subst Good u.1 (by_absence p name record { asks = i; named = q; look = l; seen = t; absent = none_found l.found u.0 })

  creating_good : (x : Matter) (a : Want) → Wanted a → step.creating D w v s a ≡ Some x → Good x
  creating_good x (want.Pod p) i e =
      let n = chained (λ (name : Text). step.if_noted D w v s p name (look_at v name)) (node_name s.content p.sels) x e in
      noted_good p n.0 x i n.1 (look_at v n.0) refl n.2
  creating_good x (want.Lock p l) i e = none_some x e
  creating_good x (want.LookUp p c k g) i e = none_some x e
  creating_good x (want.Arming p) i e = none_some x e
  creating_good x (want.Timer p t) i e = none_some x e
  creating_good x (want.Save p c k o) i e = none_some x e

  saving_good : (c : Seen (List Saved)) → v.saves ≡ Some c → (x : Matter) (a : Want) → Wanted a → step.saving D w v s c.content a ≡ Some x → Good x
  saving_good c t x (want.Save p cache entry o) i e =
      let u = unless_some (has_saved (key w p) c.content) (save cache entry (key w p) o) x e in
      subst Good u.1 (by_save p cache entry o c record { asks = i; seen = t } u.0)
  saving_good c t x (want.Pod p) i e = none_some x e
  saving_good c t x (want.Lock p l) i e = none_some x e
  saving_good c t x (want.LookUp p k y g) i e = none_some x e
  saving_good c t x (want.Arming p) i e = none_some x e
  saving_good c t x (want.Timer p u) i e = none_some x e

  save_good : (x : Matter) → step.save_one D w v s ≡ Some (act x) → Good x
  save_good x e =
      let u = if_then (list_any (step.is_save D w v s) (wants_of s.content)) (step.by_saves D w v s v.saves (step.save_by D w v s)) (act x) e in
      let c = seen_saves (step.save_by D w v s) x v.saves refl u.1 in
      let g = given_by (step.saving D w v s c.0.content) (wants_of s.content) x c.2 in
      saving_good c.0 c.1 x g.0 g.1 g.2

  released_good : (p : Path) (x : Matter) → IsPast D w v s p → (o : Option Request) → step.request_in D w v s p v.book ≡ o → step.release_held D w v s p o ≡ Some x → Good x
  released_good p x past None q e = none_some x e
  released_good p x past (Some r) q e =
      let t = if_some (is_holding r.state) (release r.lock (key w p)) x e in
      subst Good t.1 (by_past p r past (held p r q t.0))

  own_good : (x : Matter) → step.release_own D w v s ≡ Some x → Good x
  own_good x e =
      let t = if_then (is_over s.content) (step.release_held D w v s (path []) (step.request_in D w v s (path []) v.book)) x e in
      released_good (path []) x (own_past t.0) (step.request_in D w v s (path []) v.book) refl t.1

  releasing_good : (x : Matter) (n : Node) → Among n (tree_of s.content) → step.releasing D w v s n ≡ Some x → Good x
  releasing_good x n i e = let t = if_then (fulfilled n.phase) (step.release_node D w v s n.path.sels n.path) x e in by n.path.sels refl t.0 t.1
    where
      by : (p : Sels) → n.path.sels ≡ p → fulfilled n.phase ≡ true → step.release_node D w v s p n.path ≡ Some x → Good x
      by [] q over r = none_some x r
      by (a ∷ p) q over r = released_good n.path x (node_past n i over (λ z. absurd cc)) (step.request_in D w v s n.path v.book) refl r

  release_good : (x : Matter) → step.release_one D w v s ≡ Some (act x) → Good x
  release_good x e = by (step.release_own D w v s) refl (acted (head (option_to_list (step.release_own D w v s) ++ filter_map (step.releasing D w v s) (tree_of s.content))) x e)
    where
      by : (o : Option Matter) → step.release_own D w v s ≡ o → head (option_to_list o ++ filter_map (step.releasing D w v s) (tree_of s.content)) ≡ Some x → Good x
      by None t h = let g = given_by (step.releasing D w v s) (tree_of s.content) x h in releasing_good x g.0 g.1 g.2
      by (Some y) t h = own_good x (t ∙ h)

  submitting_good : (x : Matter) (c : Command) → Among c D.commands → step.submitting D w v s c ≡ Some x → Good x
  submitting_good x (Resume c) i e = none_some x e
  submitting_good x (Resubmit c) i e =
      let t = if_some (bytes_eq c.old w && (nat_le c.tick s.tick && (is_over s.content && step.untried D w v s c.name))) (submit c) x e in
      let a = both (bytes_eq c.old w) (nat_le c.tick s.tick && (is_over s.content && step.untried D w v s c.name)) t.0 in
      let b = both (nat_le c.tick s.tick) (is_over s.content && step.untried D w v s c.name) a.1 in
      let d = both (is_over s.content) (step.untried D w v s c.name) b.1 in
      subst Good t.1 (by_over c record {
        given = i;
        of_this = bytes_eq-true c.old w a.0;
        reached = at_most c.tick s.tick b.0;
        over = d.0;
        untried = not_true (list_any (bytes_eq c.name) v.tried) d.1;
      })

  -- ---- the first of them

  abbrev AllGood : List Step → Type 0
  AllGood [] = Unit {0}
  AllGood (o ∷ ss) = ((x : Matter) → o ≡ Some (act x) → Good x) × AllGood ss

  first_good : (ss : List Step) (x : Matter) → first_step ss ≡ act x → AllGood ss → Good x
  first_good [] x e a = absurd cc
  first_good (None ∷ ss) x e a = first_good ss x e a.1
  first_good (Some n ∷ ss) x e a = a.0 x (ap Some e)

  asked_good : (give : Want → Option Matter) → ((x : Matter) (a : Want) → Wanted a → give a ≡ Some x → Good x) → (x : Matter) → acting (step.asked D w v s give) ≡ Some (act x) → Good x
  asked_good give good x e = let g = given_by give (wants_of s.content) x (acted (step.asked D w v s give) x e) in good x g.0 g.1 g.2

  reads_book : (x : Matter) → step.read_book D w v s ≡ Some (act x) → Good x
  reads_book x e = get_act of_key.Locks x (if_then (has_locks s.content.manifest && is_none v.book) (Some (get of_key.Locks)) (act x) e).1

  reads_pod : (x : Matter) (a : Want) → step.reading D w v s a ≡ Some (act x) → Good x
  reads_pod x (want.Pod p) e = let c = chained (λ (name : Text). step.unless_looked D w v s name (look_at v name)) (node_name s.content p.sels) (act x) e in by c.0 (look_at v c.0) c.2
    where
      by : (name : Text) (o : Option Look) → step.unless_looked D w v s name o ≡ Some (act x) → Good x
      by name None h = get_act (of_key.Pod w name) x h
      by name (Some l) h = none_some (act x) h
  reads_pod x (want.Lock p l) e = none_some (act x) e
  reads_pod x (want.LookUp p c k g) e = none_some (act x) e
  reads_pod x (want.Arming p) e = none_some (act x) e
  reads_pod x (want.Timer p t) e = none_some (act x) e
  reads_pod x (want.Save p c k o) e = none_some (act x) e

  all_good : AllGood (steps D w v s)
  all_good = (
    reads_book,
    (
      (λ x e. let g = given_by (step.reading D w v s) (wants_of s.content) (act x) e in reads_pod x g.0 g.2),
      (
        start_good,
        (
          asked_good (step.settling D w v s) settling_good,
          (
            asked_good (step.granting D w v s) granting_good,
            (
              asked_good (step.filing D w v s) filing_good,
              (
                (λ x e. let g = given_by (step.looking D w v s) (wants_of s.content) (act x) e in looking_good x g.0 g.1 g.2),
                (
                  asked_good (step.arming D w v s) arming_good,
                  (
                    asked_good (step.timing D w v s) timing_good,
                    (
                      (λ x e. let g = given_by (step.resuming D w v s) (tree_of s.content) x (acted (first_given (step.resuming D w v s) (tree_of s.content)) x e) in resuming_good x g.0 g.1 g.2),
                      (
                        asked_good (step.creating D w v s) creating_good,
                        (
                          save_good,
                          (
                            release_good,
                            (
                              (λ x e. let g = given_by (step.submitting D w v s) D.commands x (acted (first_given (step.submitting D w v s) D.commands) x e) in submitting_good x g.0 g.1 g.2),
                              tt,
                            ),
                          ),
                        ),
                      ),
                    ),
                  ),
                ),
              ),
            ),
          ),
        ),
      ),
    ),
  )

-- each act that is next has a reason
pub reason : (D : Document) (w : Text) (v : Views) (s : Seen Flow) (x : Matter) → v.flow ≡ Some s → worker_next D w v ≡ act x → Reason D w v s x
reason D w v s x viewed e = first_good D w v s (steps D w v s) x (ap (next_by D w v) (sym viewed) ∙ e) (all_good D w v s)
