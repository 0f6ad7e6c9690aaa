-- Marks: what they say of the first pod that gives something, and what is left of them once a pod was looked at.
use Rattle.std.proofs.Common.{◌≡◌, ℕ, zero, suc, ◌<◌, ◌≤◌, arith, Bool, true, false, true≢false, cond, ◌&&◌, List, [], ◌∷◌, map, take, refl, sym, ap, ap₂, ◌∙◌, Bor, Option, Some, None, option_map, option_and_then, option_copied}
use Rattle.std.specs.Prelude.{is_some, is_none, if◌then◌else◌, bytes_eq}
use Rattle.std.specs.List.{find}
use Rattle.tree_types.specs.declared.path.Path.{Path}
use Rattle.tree_types.specs.declared.fact.Fact.TheVariants as fact
use Rattle.tree_types.specs.declared.want.Want.{Want}
use Rattle.tree_types.specs.declared.want.Want.TheVariants as want
use Rattle.meaning.specs.Trees.{wants}
use Rattle.tree_state.specs.declared.kinds.WantKind.TheVariants as kind
use Rattle.tree_state.specs.Asking.{is_of}
use Rattle.growth.specs.Growth.{Among}
use Rattle.tree_state.specs.Finding.{pods_in}
use Rattle.tree_eval.specs.Pods.{NoneAmong}
use Rattle.tree_incr.specs.Workflows.{Workflow}
use Rattle.law.specs.Documents.{Text}
use Rattle.law.specs.Contents.{Flow, PodObject}
use Rattle.law.specs.Due.{record_fact, create, node_name}
use Rattle.law.specs.Justified.{wants_of}
use Rattle.next_step.specs.Views.{Seen, Look, first_given, is_look, found_in, look_at, pod_seen}
use Rattle.worker_job.specs.declared.reading.Reading.{Reading}
use Rattle.worker_job.specs.declared.job.SeenPod.{SeenPod}
use Rattle.worker_job.specs.declared.marks.Marks.{Marks}
use Rattle.worker_job.specs.declared.marks.Read.{Read}
use Rattle.worker_job.specs.declared.marks.Read.TheVariants.{First, AllBut}
use Rattle.next_step.specs.Next as next
use Rattle.next_step.specs.Next.{get}
use Rattle.tree_types.specs.declared.entry.Key.TheVariants as of_key
use Rattle.worker_job.specs.Readings as reads
use Rattle.worker_job.specs.Inside.{pod_told}
use Rattle.worker_job.specs.Inside.Marks.{pod_name, by_name, looks_so, has_ended, notes_absent, unread, ended, absent, all, IsKnown, IsOnlyUnread, IsReadMark, IsMarked, MarksFit, none, seen_ended, read_after, settled_after, created_after, after}
use Rattle.worker_job.proofs.Asked.{OnlyOf, found_same, asked_found}
use Rattle.worker_job.proofs.Passing.{lacks_by, finds}
use Rattle.worker_job.proofs.Wanted.{reading_only}
use Rattle.looks.specs.declared.Look.{Look as Looked}
use Rattle.looks.specs.Named.{is_named}
use Rattle.worker_job.specs.Inside.{look_told}
use Rattle.worker_job.proofs.Looking.{look_mapped}

-- ---- tests that none passes

module _ (p q : Want → Bool) (sub : (a : Want) → q a ≡ true → p a ≡ true) where
  none_by : (x : Want) (xs : List Want) (b c : Bool) → q x ≡ b → p x ≡ c → cond c (Some x) (find p xs) ≡ None → (find p xs ≡ None → find q xs ≡ None) → cond b (Some x) (find q xs) ≡ None
  none_by x xs b true is on lacks rest = absurd (cc)
  none_by x xs true false is off lacks rest = absurd (true≢false (sym (sub x is) ∙ off))
  none_by x xs false false is off lacks rest = rest lacks

  pub none_weaker : (xs : List Want) → find p xs ≡ None → find q xs ≡ None
  none_weaker [] lacks = refl
  none_weaker (x ∷ xs) lacks = none_by x xs (q x) (p x) refl refl lacks (none_weaker xs)

module _ (t : Want → Bool) where
  any_by : (n : ℕ) (x : Want) (xs : List Want) (b : Bool) → t x ≡ b → cond b (Some x) (find t xs) ≡ None → (find t xs ≡ None → find t (take n xs) ≡ None) → cond b (Some x) (find t (take n xs)) ≡ None
  any_by n x xs true is lacks rest = absurd (cc)
  any_by n x xs false is lacks rest = rest lacks

  -- where none of all passes, none of the first does
  pub none_any : (n : ℕ) (xs : List Want) → find t xs ≡ None → NoneAmong n t xs
  none_any zero xs lacks = refl
  none_any (suc n) [] lacks = refl
  none_any (suc n) (x ∷ xs) lacks = any_by n x xs (t x) refl lacks (none_any n xs)

  fewer_by : (x : Want) (xs ys : List Want) (b : Bool) → cond b (Some x) (find t ys) ≡ None → (find t ys ≡ None → find t xs ≡ None) → cond b (Some x) (find t xs) ≡ None
  fewer_by x xs ys true lacks rest = absurd (cc)
  fewer_by x xs ys false lacks rest = rest lacks

  -- where none of the first passes, none of fewer does
  pub none_fewer : (m n : ℕ) (xs : List Want) → m ≤ n → NoneAmong n t xs → NoneAmong m t xs
  none_fewer zero n xs low lacks = refl
  none_fewer (suc m) zero xs low lacks = absurd (omega arith)
  none_fewer (suc m) (suc n) [] low lacks = refl
  none_fewer (suc m) (suc n) (x ∷ xs) low lacks = fewer_by x (take m xs) (take n xs) (t x) lacks (none_fewer m n xs (omega arith))

  kind_by : (x : Want) (k b : Bool) (o : Option Want) (rest : List Want) → is_of kind.Pod x ≡ k → t x ≡ b → find t rest ≡ o → find t (cond k (x ∷ rest) rest) ≡ cond (k && b) (Some x) o
  kind_by x true b o rest is on e = ap (λ (b : Bool). cond b (Some x) (find t rest)) on ∙ ap (cond b (Some x)) e
  kind_by x false b o rest is on e = e

  -- the first pod that passes is the first want that is a pod and passes
  pub find_pods : (xs : List Want) → find t (pods_in xs) ≡ find (λ a. is_of kind.Pod a && t a) xs
  find_pods [] = refl
  find_pods (x ∷ xs) = kind_by x (is_of kind.Pod x) (t x) (find (λ a. is_of kind.Pod a && t a) xs) (pods_in xs) refl refl (find_pods xs)

-- ---- the first pod that gives something

module _ {B : Type 0} (give : Want → Option B) (t : Want → Bool) where
  pub podded :
      (xs : List Want) (o : Option Want) → OnlyOf kind.Pod give → ((a : Want) → is_some (give a) ≡ t a) →
      o ≡ find t (pods_in xs) → option_and_then give o ≡ first_given give xs
  podded xs o off same found =
      ap (option_and_then give)
      (found
      ∙ find_pods t xs
      ∙ found_same (λ a. is_of kind.Pod a && t a) (λ a. is_of kind.Pod a && is_some (give a)) xs (λ a. ap (λ (b : Bool). is_of kind.Pod a && b) (sym (same a))))
      ∙ sym (asked_found kind.Pod give xs off)

-- where none of all passes, none of so many does
pub known_any : (t : Want → Bool) (n : ℕ) (ws : List Want) → find t ws ≡ None → IsKnown n t ws
known_any t n ws lacks = record { first = none_any t n ws lacks; whole = λ _. lacks }

-- of none nothing is known
pub known_none : (t : Want → Bool) (ws : List Want) → IsKnown 0 t ws
known_none t ws = record { first = refl; whole = λ e. absurd (omega (arith, e)) }

-- of so many that are fewer than all
pub known_fewer : (t : Want → Bool) (m n : ℕ) (ws : List Want) → m ≤ n → m < all → NoneAmong n t ws → IsKnown m t ws
known_fewer t m n ws low few lacks =
    record { first = none_fewer t m n ws low lacks; whole = λ e. absurd (omega (arith, e, few)) }

-- what a state asks for is what its workflow asks for
pub asks_same : (f : Flow) (state : Workflow) → state ≡ record { manifest = f.manifest; facts = f.journal } → pods_in (wants state.manifest state.facts) ≡ pods_in (wants_of f)
asks_same f state is = ap (λ (s : Workflow). pods_in (wants s.manifest s.facts)) is

-- the same of equal looks and of an equal workflow
module _ (test : List Look → Flow → Want → Bool) {ls ks : List Look} {f g : Flow} (looks : ks ≡ ls) (flow : g ≡ f) where
  same_test : test ks g ≡ test ls f
  same_test = ap (λ (ls : List Look). test ls g) looks ∙ ap (λ (f : Flow). test ls f) flow

  same_pods : pods_in (wants_of g) ≡ pods_in (wants_of f)
  same_pods = ap (λ (f : Flow). pods_in (wants_of f)) flow

  pub known_by : (n : ℕ) → NoneAmong n (test ls f) (pods_in (wants_of f)) → NoneAmong n (test ks g) (pods_in (wants_of g))
  known_by n known = ap₂ (λ (t : Want → Bool) (ws : List Want). find t (take n ws)) same_test same_pods ∙ known

  pub found_by : {o : Option Want} → o ≡ find (test ks g) (pods_in (wants_of g)) → o ≡ find (test ls f) (pods_in (wants_of f))
  found_by found = found ∙ ap₂ (λ (t : Want → Bool) (ws : List Want). find t ws) same_test same_pods

-- ---- the last look at a pod that is asked for

pub looks_told :
    (test : Option Look → Bool) (ls : List (Looked SeenPod)) (f : Flow) (a : Want) (name : List ℕ) (o : Option (Looked SeenPod)) →
    Some name ≡ pod_name f a → o ≡ find (is_named name) ls → test (option_map look_told o) ≡ looks_so test (map look_told ls) f a
looks_told test ls f a name o seen found =
    ap test (ap (option_map look_told) found ∙ look_mapped name ls) ∙ ap (by_name test (map look_told ls)) seen

pub none_told : (r : Option (Bor (Looked SeenPod))) → is_none r ≡ is_none (option_map look_told (option_copied r))
none_told None = refl
none_told (Some l) = refl

pub none_found : (o : Option SeenPod) → is_none o ≡ is_none (option_map pod_told o)
none_found None = refl
none_found (Some s) = refl

pub some_lent : {X : Type 0} (r : Option (Bor X)) → is_some r ≡ is_some (option_copied r)
some_lent None = refl
some_lent (Some x) = refl

-- ---- what a pod gives to the steps

module _ (r : Reading) where
  abbrev looks : List Look
  looks = r.job.now.views.pods

  abbrev flow : Flow
  flow = r.object.now

  reading_by : (name : Text) (o : Option Look) → is_some (next.unless_looked (reads.law r) (reads.workflow r) (reads.views r) (reads.flow r) name o) ≡ is_none o
  reading_by name None = refl
  reading_by name (Some l) = refl

  reading_named : (o : Option Text) → is_some (option_and_then (λ name. next.unless_looked (reads.law r) (reads.workflow r) (reads.views r) (reads.flow r) name (look_at r.job.now.views name)) o) ≡ by_name is_none looks o
  reading_named None = refl
  reading_named (Some name) = reading_by name (look_at r.job.now.views name)

  pub reads_unread : (a : Want) → is_some (reads.reading r a) ≡ unread looks flow a
  reads_unread (want.Pod p) = reading_named (node_name flow p.sels)
  reads_unread (want.Lock p l) = refl
  reads_unread (want.LookUp p cache entry age) = refl
  reads_unread (want.Arming p) = refl
  reads_unread (want.Timer p tick) = refl
  reads_unread (want.Save p cache entry o) = refl

  named_read : (name : Text) (a : Want) → pod_name flow a ≡ Some name → unread looks flow a ≡ true → reads.reading r a ≡ Some (get (of_key.Pod (reads.workflow r) name))
  named_read name (want.Pod p) named un = read_by (find (is_look name) looks) refl
    where
      read_by : (o : Option Look) → find (is_look name) looks ≡ o → reads.reading r (want.Pod p) ≡ Some (get (of_key.Pod (reads.workflow r) name))
      read_by None is =
          ap (option_and_then (λ name. next.unless_looked (reads.law r) (reads.workflow r) (reads.views r) (reads.flow r) name (look_at r.job.now.views name))) named
          ∙ ap (next.unless_looked (reads.law r) (reads.workflow r) (reads.views r) (reads.flow r) name) is
      read_by (Some l) is =
          absurd (true≢false (sym un ∙ ap (by_name is_none looks) named ∙ ap is_none is))
  named_read name (want.Lock p l) named un = absurd (cc)
  named_read name (want.LookUp p cache entry age) named un = absurd (cc)
  named_read name (want.Arming p) named un = absurd (cc)
  named_read name (want.Timer p tick) named un = absurd (cc)
  named_read name (want.Save p cache entry o) named un = absurd (cc)

  -- the pod that alone was not looked at is read
  pub reads_only : (name : Text) → IsOnlyUnread looks flow name → Some (get (of_key.Pod (reads.workflow r) name)) ≡ reads.asked r (reads.reading r)
  reads_only name only =
      let first = finds (unread looks flow) (pods_in (wants_of flow)) only.one.pod only.one.asked (ap (by_name is_none looks) only.one.named ∙ ap is_none only.one.unread) in
      sym (named_read name first.one (only.no_other first.one first.among first.passes) first.passes)
      ∙ podded (reads.reading r) (unread looks flow) (wants_of flow) (Some first.one) (reading_only r) reads_unread (sym first.found)

  settling_seen : (p : Path) (o : Option (Seen PodObject)) → is_some (option_map (λ o. record_fact (fact.Settled p o)) (option_and_then (λ (pod : PodObject). pod.outcome) (option_map (λ (x : Seen PodObject). x.content) o))) ≡ has_ended o
  settling_seen p None = refl
  settling_seen p (Some x) = by x.content.outcome
    where
      by : (o : _) → is_some (option_map (λ o. record_fact (fact.Settled p o)) o) ≡ is_some o
      by None = refl
      by (Some o) = refl

  settling_named : (p : Path) (o : Option Text) → is_some (option_map (λ o. record_fact (fact.Settled p o)) (option_and_then (λ (pod : PodObject). pod.outcome) (option_and_then (pod_seen r.job.now.views) o))) ≡ by_name (λ o. has_ended (found_in o)) looks o
  settling_named p None = refl
  settling_named p (Some name) = settling_seen p (found_in (look_at r.job.now.views name))

  pub settles_ended : (a : Want) → is_some (reads.settling r a) ≡ ended looks flow a
  settles_ended (want.Pod p) = settling_named p (node_name flow p.sels)
  settles_ended (want.Lock p l) = refl
  settles_ended (want.LookUp p cache entry age) = refl
  settles_ended (want.Arming p) = refl
  settles_ended (want.Timer p tick) = refl
  settles_ended (want.Save p cache entry o) = refl

  creating_by : (p : Path) (name : Text) (o : Option Look) → is_some (next.if_noted (reads.law r) (reads.workflow r) (reads.views r) (reads.flow r) p name o) ≡ notes_absent o
  creating_by p name None = refl
  creating_by p name (Some l) = by l.found
    where
      by : (o : Option (Seen PodObject)) → is_some (if is_some o then None else Some (create p name)) ≡ is_none o
      by None = refl
      by (Some x) = refl

  creating_named : (p : Path) (o : Option Text) → is_some (option_and_then (λ name. next.if_noted (reads.law r) (reads.workflow r) (reads.views r) (reads.flow r) p name (look_at r.job.now.views name)) o) ≡ by_name notes_absent looks o
  creating_named p None = refl
  creating_named p (Some name) = creating_by p name (look_at r.job.now.views name)

  pub creates_absent : (a : Want) → is_some (reads.creating r a) ≡ absent looks flow a
  creates_absent (want.Pod p) = creating_named p (node_name flow p.sels)
  creates_absent (want.Lock p l) = refl
  creates_absent (want.LookUp p cache entry age) = refl
  creates_absent (want.Arming p) = refl
  creates_absent (want.Timer p tick) = refl
  creates_absent (want.Save p cache entry o) = refl

-- ---- marks once a pod was looked at

module _ (test : Option Look → Bool) (l : Look) (ls : List Look) (off : test (Some l) ≡ false) where
  one_more : (o : Option Look) (b : Bool) → test (cond b (Some l) o) ≡ true → test o ≡ true
  one_more o true e = absurd (true≢false (sym e ∙ off))
  one_more o false e = e

  named_more : (o : Option Text) → by_name test (l ∷ ls) o ≡ true → by_name test ls o ≡ true
  named_more None e = e
  named_more (Some name) e = one_more (find (is_look name) ls) (is_look name l) e

  still : (f : Flow) (n : ℕ) → IsKnown n (looks_so test ls f) (pods_in (wants_of f)) → IsKnown n (looks_so test (l ∷ ls) f) (pods_in (wants_of f))
  still f n known =
      let weaker = none_weaker (looks_so test ls f) (looks_so test (l ∷ ls) f) (λ a. named_more (pod_name f a)) in
      record { first = weaker (take n (pods_in (wants_of f))) known.first; whole = λ e. weaker (pods_in (wants_of f)) (known.whole e) }

abbrev pub look_with : List ℕ → Option SeenPod → Look
look_with name found = record { name = name; found = option_map pod_told found }

module _ (ls : List Look) (f : Flow) (name : List ℕ) where
  -- the name that was not looked at is this one, or another
  only_after : (found : Option SeenPod) (x : Text) (b : Bool) → bytes_eq name x ≡ b → IsOnlyUnread ls f x → IsReadMark (look_with name found ∷ ls) f (cond b (First all) (AllBut x))
  only_after found x true same only =
      let now = look_with name found ∷ ls in
      known_any (unread now f) all (pods_in (wants_of f))
      (lacks_by (unread now f) (pods_in (wants_of f)) (λ a here. read_by a here (unread now f a) refl))
    where
      now_read : (a : Want) → pod_name f a ≡ Some x → unread (look_with name found ∷ ls) f a ≡ false
      now_read a named =
          ap (by_name is_none (look_with name found ∷ ls)) named
          ∙ ap (λ (b : Bool). is_none (cond b (Some (look_with name found)) (find (is_look x) ls))) same

      read_by : (a : Want) → Among a (pods_in (wants_of f)) → (b : Bool) → unread (look_with name found ∷ ls) f a ≡ b → b ≡ false
      read_by a here false is = refl
      read_by a here true is =
          sym is ∙ now_read a (only.no_other a here (named_more is_none (look_with name found) ls refl (pod_name f a) is))
  only_after found x false other only = record {
    one = record {
      pod = only.one.pod;
      asked = only.one.asked;
      named = only.one.named;
      unread = ap (λ (b : Bool). cond b (Some (look_with name found)) (find (is_look x) ls)) other ∙ only.one.unread;
    };
    no_other = λ a here un. only.no_other a here (named_more is_none (look_with name found) ls refl (pod_name f a) un);
  }

  read_mark_after : (found : Option SeenPod) (k : Read) → IsReadMark ls f k → IsReadMark (look_with name found ∷ ls) f (read_after name k)
  read_mark_after found (First n) known = still is_none (look_with name found) ls refl f n known
  read_mark_after found (AllBut x) only = only_after found x (bytes_eq name x) refl only

  settled_by : (s : SeenPod) (n : ℕ) (b : Bool) → seen_ended s ≡ b → IsKnown n (ended ls f) (pods_in (wants_of f)) → IsKnown (cond b 0 n) (ended (look_with name (Some s) ∷ ls) f) (pods_in (wants_of f))
  settled_by s n true is known = known_none (ended (look_with name (Some s) ∷ ls) f) (pods_in (wants_of f))
  settled_by s n false is known = still (λ o. has_ended (found_in o)) (look_with name (Some s)) ls is f n known

  settled_mark_after : (found : Option SeenPod) (n : ℕ) → IsKnown n (ended ls f) (pods_in (wants_of f)) → IsKnown (settled_after found n) (ended (look_with name found ∷ ls) f) (pods_in (wants_of f))
  settled_mark_after None n known = still (λ o. has_ended (found_in o)) (look_with name None) ls refl f n known
  settled_mark_after (Some s) n known = settled_by s n (seen_ended s) refl known

  created_mark_after : (found : Option SeenPod) (n : ℕ) → IsKnown n (absent ls f) (pods_in (wants_of f)) → IsKnown (created_after found n) (absent (look_with name found ∷ ls) f) (pods_in (wants_of f))
  created_mark_after None n known = known_none (absent (look_with name None ∷ ls) f) (pods_in (wants_of f))
  created_mark_after (Some s) n known = still notes_absent (look_with name (Some s)) ls refl f n known

pub marks_after : (ls : List Look) (o : Option Flow) (name : List ℕ) (found : Option SeenPod) (k : Marks) → MarksFit ls o k → MarksFit (look_with name found ∷ ls) o (after name found k)
marks_after ls None name found k fit = tt
marks_after ls (Some f) name found k fit = record {
  read = read_mark_after ls f name found k.read fit.read;
  settled = settled_mark_after ls f name found k.settled fit.settled;
  created = created_mark_after ls f name found k.created fit.created;
}

-- no marks are always right
pub marked_none : (ls : List Look) (f : Flow) → IsMarked ls f none
marked_none ls f = record {
  read = known_none (unread ls f) (pods_in (wants_of f));
  settled = known_none (ended ls f) (pods_in (wants_of f));
  created = known_none (absent ls f) (pods_in (wants_of f));
}

pub marks_none : (ls : List Look) (o : Option Flow) → MarksFit ls o none
marks_none ls None = tt
marks_none ls (Some f) = marked_none ls f
