-- Pods, attempts, suspended nodes and steps grow: what is finished stays, and each line is kept.
use Rattle.tree_types.specs.declared.path.Sel.{Sel}
use Rattle.std.proofs.Math.Logic.{inl, inr}
use Rattle.std.proofs.Common.{◌≡◌, refl, sym, ◌∙◌, ap, subst, ◌+◌, arith}
use Rattle.std.specs.Prelude.{ℕ, zero, suc, List, [], ◌∷◌, ◌++◌, Bool, true, false, cond, ◌||◌, Option, Some, None, Ok, Err, map, length, codes}
use Rattle.tree_types.specs.declared.phase.Phase.{Phase}
use Rattle.tree_types.specs.declared.phase.Phase.TheVariants.{Pending, Running, Succeeded, Skipped, Failed, Error, Omitted}
use Rattle.tree_types.specs.declared.node.Kind.TheVariants as kind
use Rattle.tree_types.specs.declared.node.Note.{Note}
use Rattle.tree_types.specs.declared.node.Note.TheVariants as note
use Rattle.tree_types.specs.declared.node.Node.{Node}
use Rattle.tree_types.specs.declared.outcome.Outcome.{Outcome}
use Rattle.tree_types.specs.declared.want.Want.{Want}
use Rattle.tree_types.specs.declared.want.Want.TheVariants as want
use Rattle.tree_types.specs.Phases.{fulfilled, is_succeeded}
use Rattle.tag_text.specs.declared.part.Part.{Part}
use Rattle.wf_manifest.specs.declared.calls.Call.{Call}
use Rattle.wf_manifest.specs.declared.templates.OutputDecl.{OutputDecl}
use Rattle.wf_manifest.specs.declared.templates.Backoff.{Backoff}
use Rattle.wf_manifest.specs.declared.templates.Retry.{Retry}
use Rattle.scopes.specs.Substitution.{Found, Scope}
use Rattle.meaning.specs.declared.lines.Place.{Place}
use Rattle.meaning.specs.declared.lines.Line.{Line}
use Rattle.meaning.specs.declared.lines.Line.TheVariants.{Stands, Asks}
use Rattle.meaning.specs.Answers.{path, Sels, Answers}
use Rattle.meaning.specs.Lines.{Made, lines_in, later, no_outputs, node, made, lines_of, all_finished, nothing, row_of, asked, then_parts, lines_below}
use Rattle.meaning.specs.Outputs.{completed, computed, defaulted, ended_node}
use Rattle.meaning.specs.Pods.{outputs_of, running_pod, pod_by, pod_made, Attempts, ends_with, before_attempts, first_begin, further, attempt, may_start, ended_attempt, started_by, retried_by, follows, attempt_by, attempts_from, attempts, next_timer, retry_node, retry_by, retry_made}
use Rattle.meaning.specs.Suspends.{seconds_of, timer_wants, suspend_wants, suspend_by, suspended, suspend_made}
use Rattle.meaning.specs.Steps.{Caller, Member, member_place, member, makings, group_phase, group_made, group_tags, Groups, before_groups, group_place, groups_by, members_at, groups_from, steps_phase, steps_by, steps_made}
use Rattle.growth.specs.Growth.{SaysMore, New}
use Rattle.growth.proofs.Numbered.{Pairs, pairs_from, pairs_same}
use Rattle.growth.proofs.Lines.{Any, IsWant, any_right, from_under, Begins, Holds, past_wants, one_of, Proper, Under, Inside, AtChild, From, Fair, fair_child, fair_rest, fair_below, fair_map, from_inside, rows_fair, under_at_child}
use Rattle.growth.proofs.Keeping.{not_both, AllKept, Later, Grew, Begun, all_left, all_right, all_append, all_beside, all_same, same_top, unchanged, begun_beside, begun_below, begun_nothing, rows_kept, rows_begun, At, node_at, ending_ends, same_place, open_follows, made_later}
use Rattle.growth.proofs.OnePath.{paths, groups_fit, attempts_fit}
use Rattle.growth.proofs.SoundBodies.{group_at, step_at, group_ways, step_ways, members_laid, StepsFit, Topped, pod_proper, retry_at, retry_proper, suspend_topped, Sound, at_child, members_proper, group_called, groups_sound}
use Rattle.meaning.proofs.Flattening.{lines_tried}

-- a node that is not fulfilled, in whose place anything may come
pub open_later : (A B : Answers) (p : Place) (n : Node) (ws : List Want) (b : Made) → At p n → fulfilled n.phase ≡ false → AllKept A B (map Asks ws) (lines_in b) → Topped paths B p b → Later A B (made n ws nothing) b
open_later A B p n ws b at_n f w h = record {
  done = λ t. not_both (fulfilled n.phase) t f;
  top = λ t. not_both (fulfilled n.phase) t f;
  kept = ((b.own.node, inl refl, open_follows p n b.own.node at_n h.at f), all_append A B (map Asks ws) [] (lines_in b) w tt);
}

-- ---- pods

abbrev ended_pod_node : Place → List OutputDecl → Note × Outcome → Node
ended_pod_node p d o = ended_node p kind.Pod o.1.phase o.0 (outputs_of o.1) (completed d (outputs_of o.1))

pub pod_by_later : (A B : Answers) (p : Place) (d : List OutputDecl) (x y : Option (Note × Outcome)) → ((o : Note × Outcome) → x ≡ Some o → y ≡ Some o) → B.outcome p ≡ y → Later A B (pod_by p d x) (pod_by p d y)
pod_by_later A B p d None None h e = unchanged A B refl
pod_by_later A B p d (Some o) y h e = unchanged A B (ap (pod_by p d) (h o refl))
pod_by_later A B p d None (Some o) h e =
    let n : Node = node p kind.Pod Running note.None no_outputs in
    made_later A B n (ended_pod_node p d o) (want.Pod (path p.sels) ∷ []) [] nothing nothing (open_follows p n (ended_pod_node p d o) (node_at p kind.Pod Running note.None no_outputs) (ending_ends p kind.Pod o.1.phase o.0 (outputs_of o.1) (completed d (outputs_of o.1))).at refl) ((λ t u. absurd (cc (u p refl, e))), tt) tt (λ t. not_both false t refl)

-- what is kept of a last one
pub last_kept : (A B : Answers) (g k : Made) (ks : List Made) → Later A B g k → AllKept A B (lines_of (g ∷ [])) (lines_of (k ∷ ks))
last_kept A B g k ks h = all_append A B (lines_in g) [] (lines_of (k ∷ ks)) (all_left A B (lines_in g) (lines_in k) (lines_of ks) h.kept) tt

module _ (A B : Answers) (g : SaysMore A B) where
  pod_later : (p : Place) (d : List OutputDecl) → Later A B (pod_made A p d) (pod_made B p d)
  pod_later p d = pod_by_later A B p d (A.outcome p) (B.outcome p) (g.outcome p) refl

  pub pod_grew : (p : Place) (d : List OutputDecl) → Grew A B (pod_made A p d) (pod_made B p d)
  pod_grew p d = record { later = pod_later p d; begun = begun_nothing (New A B) A (lines_in (pod_made A p d)) (lines_in (pod_made B p d)) (pod_proper paths A p d (A.outcome p) refl) }

  -- ---- attempts

  module _ (p : Place) (ds : List OutputDecl) (r : Retry) where
    -- what the attempts from one on come to; where the next one waits for its timer, they stay until it is due
    record TryLater (k : ℕ) (a b : Attempts) : Type 0 where
      done : a.over ≡ true → b ≡ a
      kept : AllKept A B (lines_of a.all) (lines_of b.all)
      waits : (tick : ℕ) → a.next ≡ Some tick → B.due (attempt p (k + length a.all)).sels ≡ false → b ≡ a

    start_later : (b : Option Backoff) (k : ℕ) → may_start A p b k ≡ true → may_start B p b k ≡ true
    start_later None k e = refl
    start_later (Some b) k e = g.due (attempt p k).sels e

    -- an attempt that starts by B alone was due
    start_due : (b : Option Backoff) (k : ℕ) → may_start A p b k ≡ false → may_start B p b k ≡ true → B.due (attempt p k).sels ≡ true
    start_due None k e f = not_both true refl e
    start_due (Some b) k e f = f

    module _ (k : ℕ) (o : Note × Outcome) (begin : ℕ) (rest more : ℕ → Attempts) (h : TryLater (suc k) (rest begin) (more begin)) where
      abbrev m : Made
      m = ended_attempt p ds k o

      next_due : (i : ℕ) → i ≡ suc k → may_start A p r.backoff (suc k) ≡ false → may_start B p r.backoff (suc k) ≡ true → B.due (attempt p i).sels ≡ true
      next_due i s e f = subst (λ (j : ℕ). B.due (attempt p j).sels ≡ true) (sym s) (start_due r.backoff (suc k) e f)

      started_later : (b c : Bool) → may_start A p r.backoff (suc k) ≡ b → may_start B p r.backoff (suc k) ≡ c → TryLater k (started_by A p ds r k o begin rest b) (started_by B p ds r k o begin more c)
      started_later false false e f = record { done = λ _. refl; kept = all_same A B (lines_of (m ∷ [])); waits = λ tick n d. refl }
      started_later false true e f = record { done = λ t. not_both false t refl; kept = last_kept A B m m (more begin).all (unchanged A B refl); waits = λ tick n d. (let s : k + 1 ≡ suc k = omega arith in not_both (B.due (attempt p (k + 1)).sels) (next_due (k + 1) s e f) d) }
      started_later true false e f = not_both (may_start B p r.backoff (suc k)) (start_later r.backoff (suc k) e) f
      started_later true true e f = record {
        done = λ t. ap (before_attempts m) (h.done t);
        kept = all_beside A B (lines_in m) (lines_in m) (lines_of (rest begin).all) (lines_of (more begin).all) (all_same A B (lines_in m)) h.kept;
        waits = λ tick n d. (let s : k + suc (length (rest begin).all) ≡ suc k + length (rest begin).all = omega arith in ap (before_attempts m) (h.waits tick n (subst (λ (i : ℕ). B.due (attempt p i).sels ≡ false) s d)));
      }

      retried_later : (b : Bool) → TryLater k (retried_by A p ds r k o begin rest b) (retried_by B p ds r k o begin more b)
      retried_later false = record { done = λ _. refl; kept = all_same A B (lines_of (m ∷ [])); waits = λ tick n d. refl }
      retried_later true = started_later (may_start A p r.backoff (suc k)) (may_start B p r.backoff (suc k)) refl refl

    module _ (k : ℕ) (first : Option ℕ) (rest more : ℕ → Attempts) where
      abbrev tried : Place
      tried = attempt p k

      -- a running last attempt, and what its place comes to
      running_kept : (o : Note × Outcome) (ks : List Made) → B.outcome tried ≡ Some o → AllKept A B (lines_of (running_pod tried ∷ [])) (lines_of (ended_attempt p ds k o ∷ ks))
      running_kept o ks e = last_kept A B (running_pod tried) (ended_attempt p ds k o) ks (pod_by_later A B tried ds None (Some o) (λ x e. absurd (cc e)) e)

      running_started : (o : Note × Outcome) (begin : ℕ) (b : Bool) → B.outcome tried ≡ Some o → AllKept A B (lines_of (running_pod tried ∷ [])) (lines_of (started_by B p ds r k o begin more b).all)
      running_started o begin false e = running_kept o [] e
      running_started o begin true e = running_kept o (more begin).all e

      running_retried : (o : Note × Outcome) (begin : ℕ) (b : Bool) → B.outcome tried ≡ Some o → AllKept A B (lines_of (running_pod tried ∷ [])) (lines_of (retried_by B p ds r k o begin more b).all)
      running_retried o begin false e = running_kept o [] e
      running_retried o begin true e = running_started o begin (may_start B p r.backoff (suc k)) e

      attempt_later : ((begin : ℕ) → TryLater (suc k) (rest begin) (more begin)) → (x y : Option (Note × Outcome)) → ((o : Note × Outcome) → x ≡ Some o → y ≡ Some o) → B.outcome tried ≡ y → TryLater k (attempt_by A p ds r k first rest x) (attempt_by B p ds r k first more y)
      attempt_later h None None f e = record { done = λ t. not_both false t refl; kept = all_same A B (lines_of (running_pod tried ∷ [])); waits = λ tick n d. refl }
      attempt_later h None (Some o) f e = record { done = λ t. not_both false t refl; kept = running_retried o (first_begin first o.1) (follows p ds r o k (first_begin first o.1)) e; waits = λ tick n d. absurd (cc n) }
      attempt_later h (Some o) y f e = subst (λ (z : Option (Note × Outcome)). TryLater k (attempt_by A p ds r k first rest (Some o)) (attempt_by B p ds r k first more z)) (sym (f o refl)) (retried_later k o (first_begin first o.1) rest more (h (first_begin first o.1)) (follows p ds r o k (first_begin first o.1)))

    last_later : (k : ℕ) (a b : Made) → Later A B a b → TryLater k (ends_with a a.own.finished) (ends_with b b.own.finished)
    last_later k a b l = record { done = λ t. ap (λ (x : Made). ends_with x x.own.finished) (l.done t); kept = last_kept A B a b [] l; waits = λ tick n d. absurd (cc n) }

    tries_later : (n k : ℕ) (first : Option ℕ) → TryLater k (attempts_from A p ds r n k first) (attempts_from B p ds r n k first)
    tries_later zero k first = last_later k (pod_made A (attempt p k) ds) (pod_made B (attempt p k) ds) (pod_later (attempt p k) ds)
    tries_later (suc n) k first = attempt_later k first (λ begin. attempts_from A p ds r n (suc k) (Some begin)) (λ begin. attempts_from B p ds r n (suc k) (Some begin)) (λ begin. tries_later n (suc k) (Some begin)) (A.outcome (attempt p k)) (B.outcome (attempt p k)) (g.outcome (attempt p k)) refl

    over_retry : (a : Attempts) (b : Bool) → fulfilled (retry_node p a b).phase ≡ true → b ≡ true
    over_retry a true e = refl
    over_retry a false e = not_both false e refl

    -- the timer of the next attempt is asked for until it is due
    abbrev timer_of : Attempts → ℕ → Want
    timer_of a tick = want.Timer (path (attempt p (length a.all)).sels) tick

    -- attempts, and the timer of the next one behind them
    laid : (a : Attempts) → lines_of a.all ++ map Asks (next_timer p a.all a.next) ≡ lines_below (then_parts (row_of a.all) (asked (next_timer p a.all a.next)))
    laid a = sym (lines_tried (row_of a.all) (next_timer p a.all a.next))

    timer_there : (a : Attempts) (tick : ℕ) → a.next ≡ Some tick → Any (IsWant (timer_of a tick)) (lines_in (retry_by p a))
    timer_there a tick e = inr (subst (Any (IsWant (timer_of a tick))) (laid a) (any_right (IsWant (timer_of a tick)) (lines_of a.all) (map Asks (next_timer p a.all a.next)) (subst (λ (x : Option ℕ). Any (IsWant (timer_of a tick)) (map Asks (next_timer p a.all x))) (sym e) (inl refl))))

    timer_kept : (a b : Attempts) (t : Option ℕ) → a.next ≡ t → TryLater 0 a b → AllKept A B (map Asks (next_timer p a.all t)) (lines_in (retry_by p b))
    timer_kept a b None e h = tt
    timer_kept a b (Some tick) e h = ((λ k u. (let s : 0 + length a.all ≡ length a.all = omega arith in subst (λ (x : Attempts). Any (IsWant (timer_of a tick)) (lines_in (retry_by p x))) (sym (h.waits tick e (subst (λ (i : ℕ). B.due (attempt p i).sels ≡ false) (sym s) u.0))) (timer_there a tick e))), tt)

    retry_by_later : (a b : Attempts) → TryLater 0 a b → Later A B (retry_by p a) (retry_by p b)
    retry_by_later a b h =
        let same = λ (t : fulfilled (retry_node p a a.over).phase ≡ true). h.done (over_retry a a.over t) in
        let o : Node = retry_node p b b.over in
        let ws = next_timer p a.all a.next in
        let vs = next_timer p b.all b.next in
        record {
          done = λ t. ap (retry_by p) (same t);
          top = λ t. same_top (ap (retry_by p) (same t));
          kept = (
            (o, inl refl, same_place p (retry_node p a a.over) o (retry_at paths A p ds r a a.over) (retry_at paths A p ds r b b.over) (λ t. ap (λ (x : Attempts). retry_node p x x.over) (same t))),
            subst (λ (ls : List Line). AllKept A B ls (lines_in (retry_by p b))) (laid a) (all_append A B (lines_of a.all) (map Asks ws) (lines_in (retry_by p b))
                (all_right A B (lines_of a.all) (Stands o ∷ []) (lines_below (then_parts (row_of b.all) (asked vs))) (subst (AllKept A B (lines_of a.all)) (laid b) (all_left A B (lines_of a.all) (lines_of b.all) (map Asks vs) h.kept)))
                (timer_kept a b a.next refl h)),
          );
        }

    pub retry_grew : Grew A B (retry_made A p ds r) (retry_made B p ds r)
    retry_grew = record { later = retry_by_later (attempts A p ds r) (attempts B p ds r) (tries_later (further r) 0 None); begun = begun_nothing (New A B) A (lines_in (retry_made A p ds r)) (lines_in (retry_made B p ds r)) (retry_proper paths A p ds r (attempts_fit r)) }

  -- ---- suspended nodes

  both_false : (a b : Bool) → a ≡ false → b ≡ false → (a || b) ≡ false
  both_false true b e f = absurd (cc e)
  both_false false b e f = f

  either_stays : (a b c d : Bool) → (a ≡ true → c ≡ true) → (b ≡ true → d ≡ true) → (a || b) ≡ true → (c || d) ≡ true
  either_stays true b c d f h e = ap (λ (x : Bool). x || d) (f refl)
  either_stays false true true d f h e = refl
  either_stays false true false d f h e = h refl
  either_stays false false c d f h e = not_both false e refl

  -- a suspended node asks to be armed until it is armed, and for its timer until it is due or resumed
  module _ (p : Place) (ds : List OutputDecl) (n : Option ℕ) where
    armed_kept : (t : Option ℕ) → A.armed p.sels ≡ t → AllKept A B (map Asks (suspend_wants p n t)) (lines_in (suspend_by p ds n (B.armed p.sels) false))
    armed_kept None e = ((λ k u. subst (λ (x : Option ℕ). Any (IsWant (want.Arming (path p.sels))) (Stands (node p kind.Suspend Running note.None no_outputs) ∷ (map Asks (suspend_wants p n x) ++ []))) (sym u.0) (inr (inl refl))), tt)
    armed_kept (Some tick) e = timer_kept n
      where
        timer_kept : (o : Option ℕ) → AllKept A B (map Asks (timer_wants p tick o)) (Stands (node p kind.Suspend Running note.None no_outputs) ∷ (map Asks (suspend_wants p o (B.armed p.sels)) ++ []))
        timer_kept None = tt
        timer_kept (Some x) = ((λ k u. subst (λ (y : Option ℕ). Any (IsWant (want.Timer (path p.sels) (later tick x))) (Stands (node p kind.Suspend Running note.None no_outputs) ∷ (map Asks (suspend_wants p (Some x) y) ++ []))) (sym (k p.sels tick e)) (inr (inl refl))), tt)

    -- once it is due or resumed, neither is unanswered
    answered_kept : (B.due p.sels || B.resumed p.sels) ≡ true → (t : Option ℕ) (ks : List Line) → AllKept A B (map Asks (suspend_wants p n t)) ks
    answered_kept e None ks = ((λ k u. not_both (B.due p.sels || B.resumed p.sels) e (both_false (B.due p.sels) (B.resumed p.sels) u.1 u.2)), tt)
    answered_kept e (Some tick) ks = timer_gone n
      where
        timer_gone : (o : Option ℕ) → AllKept A B (map Asks (timer_wants p tick o)) ks
        timer_gone None = tt
        timer_gone (Some x) = ((λ k u. not_both (B.due p.sels || B.resumed p.sels) e (both_false (B.due p.sels) (B.resumed p.sels) u.0 u.1)), tt)

    suspend_by_later : (a b : Bool) → (a ≡ true → b ≡ true) → (B.due p.sels || B.resumed p.sels) ≡ b → Topped paths B p (suspend_by p ds n (B.armed p.sels) b) → Later A B (suspend_by p ds n (A.armed p.sels) a) (suspend_by p ds n (B.armed p.sels) b)
    suspend_by_later true true h e t = unchanged A B refl
    suspend_by_later true false h e t = not_both false (h refl) refl
    suspend_by_later false false h e t = open_later A B p (node p kind.Suspend Running note.None no_outputs) (suspend_wants p n (A.armed p.sels)) _ (node_at p kind.Suspend Running note.None no_outputs) refl (armed_kept (A.armed p.sels) refl) t
    suspend_by_later false true h e t = open_later A B p (node p kind.Suspend Running note.None no_outputs) (suspend_wants p n (A.armed p.sels)) _ (node_at p kind.Suspend Running note.None no_outputs) refl (answered_kept e (A.armed p.sels) (lines_in (suspend_by p ds n (B.armed p.sels) true))) t

  suspended_later : (p : Place) (ds : List OutputDecl) (f : Found (Option ℕ)) → Topped paths B p (suspended B p ds f) → Later A B (suspended A p ds f) (suspended B p ds f)
  suspended_later p ds (Err fault) t = unchanged A B refl
  suspended_later p ds (Ok n) t = suspend_by_later p ds n _ _ (either_stays (A.due p.sels) (A.resumed p.sels) (B.due p.sels) (B.resumed p.sels) (g.due p.sels) (g.resumed p.sels)) refl t

  made_holds : (q : Sels) (n : Node) (ws : List Want) → Holds q (lines_in (made n ws nothing)) → ⊥
  made_holds q n ws h = past_wants (Begins q) ws [] (λ w x. x) (one_of (λ x. absurd x) (λ x. x) h)

  suspend_by_holds : (q : Sels) (p : Place) (ds : List OutputDecl) (n : Option ℕ) (a : Bool) → Holds q (lines_in (suspend_by p ds n (A.armed p.sels) a)) → ⊥
  suspend_by_holds q p ds n true h = made_holds q (ended_node p kind.Suspend Succeeded note.None no_outputs (defaulted ds)) [] h
  suspend_by_holds q p ds n false h = made_holds q (node p kind.Suspend Running note.None no_outputs) (suspend_wants p n (A.armed p.sels)) h

  suspended_holds : (q : Sels) (p : Place) (ds : List OutputDecl) (f : Found (Option ℕ)) → Holds q (lines_in (suspended A p ds f)) → ⊥
  suspended_holds q p ds (Err fault) h = made_holds q (node p kind.Suspend Error fault no_outputs) [] h
  suspended_holds q p ds (Ok n) h = suspend_by_holds q p ds n (A.due p.sels || A.resumed p.sels) h

  pub suspend_grew : (p : Place) (s : Scope) (ds : List OutputDecl) (o : Option (List Part)) → Grew A B (suspend_made A p s ds o) (suspend_made B p s ds o)
  suspend_grew p s ds o = record { later = suspended_later p ds (seconds_of s o) (suspend_topped paths B p s ds o); begun = λ q n h. absurd (suspended_holds q p ds (seconds_of s o) h) }

-- ---- a group

-- members of two lists are of one call, and the second grew from the first
abbrev pub MemberGrew : Answers → Answers → ℕ → Member → Member → Type 0
MemberGrew A B i m n = (n.0 ≡ m.0) × Grew A B m.1 n.1

pub finished_group : (b : Bool) (p : Phase) → fulfilled (cond b p Running) ≡ true → b ≡ true
finished_group true p e = refl
finished_group false p e = not_both false e refl

abbrev pub MembersGrew : Answers → Answers → List Member → List Member → Type 0
MembersGrew A B ms ns = Pairs (MemberGrew A B) 0 ms ns

member_same : (A B : Answers) (i : ℕ) (m n : Member) → MemberGrew A B i m n → m.1.own.finished ≡ true → n ≡ m
member_same A B i m n h e = λ j. (h.0 j, h.1.later.done e j)

group_same : (A B : Answers) (ms ns : List Member) → MembersGrew A B ms ns → fulfilled (group_phase ms) ≡ true → ns ≡ ms
group_same A B ms ns h e = pairs_same (λ m. m.1.own.finished) (λ xs. all_finished (makings xs)) (MemberGrew A B) 0 ms ns (λ m xs. refl) (member_same A B) h (finished_group (all_finished (makings ms)) _ e)

abbrev group_node : Place → List Member → Node
group_node p ms = node p kind.StepGroup (group_phase ms) note.None no_outputs

pub group_grew : (A B : Answers) (p : Place) (ms ns : List Member) → MembersGrew A B ms ns → Grew A B (group_made p ms) (group_made p ns)
group_grew A B p ms ns h = record {
  later = made_later A B (group_node p ms) (group_node p ns) [] [] (row_of (makings ms)) (row_of (makings ns)) (record { path = refl; name = refl; depth = refl; unchanged = λ t. ap (group_node p) (group_same A B ms ns h t) }) tt (rows_kept members_laid members_laid A B (MemberGrew A B) 0 ms ns (λ j x y r. r.1.later.kept) h) (λ t. ap (group_made p) (group_same A B ms ns h t));
  begun = begun_below (New A B) (group_node p ms) (group_node p ns) [] [] (lines_of (makings ms)) (lines_of (makings ns)) (rows_begun members_laid members_laid (New A B) (MemberGrew A B) 0 ms ns (λ j x y r. r.1.begun) h);
}

-- ---- the groups

pub record GroupsGrew (A B : Answers) (a b : Groups) : Type 0 where
  pub done : fulfilled (steps_phase a.all) ≡ true → b ≡ a
  pub kept : AllKept A B (lines_of a.all) (lines_of b.all)
  pub begun : Begun (New A B) (lines_of a.all) (lines_of b.all)

pub succeeded_fulfilled : (p : Phase) → is_succeeded p ≡ true → fulfilled p ≡ true
succeeded_fulfilled Succeeded e = refl
succeeded_fulfilled Skipped e = refl
succeeded_fulfilled Failed e = refl
succeeded_fulfilled Error e = refl
succeeded_fulfilled Omitted e = refl
succeeded_fulfilled Pending e = not_both false e refl
succeeded_fulfilled Running e = not_both false e refl

steps_phase_past : (g : Made) (gs : List Made) → is_succeeded g.own.node.phase ≡ true → steps_phase (g ∷ gs) ≡ steps_phase gs
steps_phase_past g gs e = ap (λ b. cond b (steps_phase gs) g.own.node.phase) e

steps_phase_at : (g : Made) (gs : List Made) → is_succeeded g.own.node.phase ≡ false → steps_phase (g ∷ gs) ≡ g.own.node.phase
steps_phase_at g gs e = ap (λ b. cond b (steps_phase gs) g.own.node.phase) e

past_grew : (A B : Answers) (g : Made) (r s : Groups) → is_succeeded g.own.node.phase ≡ true → Begun (New A B) (lines_in g) (lines_in g) → GroupsGrew A B r s → GroupsGrew A B (before_groups g r) (before_groups g s)
past_grew A B g r s e b h = record { done = λ t. ap (before_groups g) (h.done (ap fulfilled (sym (steps_phase_past g r.all e)) ∙ t)); kept = all_beside A B (lines_in g) (lines_in g) (lines_of r.all) (lines_of s.all) (all_same A B (lines_in g)) h.kept; begun = begun_beside (New A B) (lines_in g) (lines_in g) (lines_of r.all) (lines_of s.all) b h.begun }

-- what a call made grows, and what newly begins stands, if what newly begins below its place may begin there
abbrev pub Growing : Answers → Answers → Caller → Caller → Type 0
Growing A B run ran = (prefix : List ℕ) (p : Place) (s : Scope) (c : Call) → Fair (New A B) (Under p.sels) (lines_in (run prefix p s c)) → Grew A B (run prefix p s c) (ran prefix p s c)

module _ (A B : Answers) (run ran : Caller) (sound : Sound paths A run) (grows : Growing A B run ran) where
  -- what newly begins at or below a child, begins below it
  pub fair_under : (P : Sels) (s : Sel) (ls : List Line) → Fair (New A B) (AtChild P s) ls → Fair (New A B) (Under (P ++ s ∷ [])) ls
  fair_under P s ls f = fair_map (New A B) (AtChild P s) (Under (P ++ s ∷ [])) ls (under_at_child P s) f

  module _ (p : Place) (i : ℕ) (s : Scope) (cs : List Call) where
    abbrev q : Place
    q = group_place p i

    abbrev before : List Member
    before = members_at run p i s cs

    abbrev now : List Member
    now = members_at ran p i s cs

    abbrev g : Made
    g = group_made q before

    abbrev h : Made
    h = group_made q now

    -- the members of a group by which what newly begins may begin
    members_grew : Fair (New A B) (Under q.sels) (lines_in g) → MembersGrew A B before now
    members_grew f =
        let below = fair_below (New A B) (From step_at q.sels 0) (group_node q before) [] (lines_of (makings before)) (fair_map (New A B) (Under q.sels) (From step_at q.sels 0) (lines_in g) (λ x k. from_under step_at step_ways q.sels 0 x k) f) in
        let each = rows_fair step_at step_ways q.sels members_laid A (New A B) 0 before (members_proper paths A run sound q s 0 cs) below in
        pairs_from (member run q s) (member ran q s) (λ j m. Fair (New A B) (AtChild q.sels (step_at j)) (lines_in m.1)) (MemberGrew A B) 0 cs (λ j c k. (refl, grows (codes "steps.") (member_place q j c) s c (fair_under q.sels (step_at j) (lines_in (member run q s j c).1) k))) each

    -- a last group, whatever groups follow it later
    last_begun : Grew A B g h → (ks : List Made) → Begun (New A B) (lines_of (g ∷ [])) (lines_of (h ∷ ks))
    last_begun l ks = begun_beside (New A B) (lines_in g) (lines_in h) [] (lines_of ks) l.begun (λ x n k. absurd k)

    abbrev last_groups : List Member → Groups
    last_groups ms = record { all = group_made q ms ∷ []; scope = group_tags ms ++ s }

    chosen : (rest more : Scope → Groups) → ((inner : Scope) → Proper A (From group_at p.sels (suc i)) (lines_of (rest inner).all)) → ((inner : Scope) → Fair (New A B) (From group_at p.sels (suc i)) (lines_of (rest inner).all) → GroupsGrew A B (rest inner) (more inner)) → Proper A (Under q.sels) (lines_in g) → (b c : Bool) → is_succeeded (group_phase before) ≡ b → is_succeeded (group_phase now) ≡ c → Fair (New A B) (From group_at p.sels i) (lines_of (groups_by g (group_tags before) s rest b).all) → GroupsGrew A B (groups_by g (group_tags before) s rest b) (groups_by h (group_tags now) s more c)
    chosen rest more proper step own true c e f fair =
        let inner : Scope = group_tags before ++ s in
        let ms = members_grew (fair_under p.sels (group_at i) (lines_in g) (fair_child group_at group_ways p.sels (New A B) A i (lines_in g) (lines_of (rest inner).all) (proper inner) fair)) in
        let same : now ≡ before = group_same A B before now ms (succeeded_fulfilled _ e) in
        let l = past_grew A B g (rest inner) (more inner) e (subst (λ (x : List Member). Begun (New A B) (lines_in g) (lines_in (group_made q x))) same (group_grew A B q before now ms).begun) (step inner (fair_rest group_at group_ways p.sels (New A B) A i (lines_in g) (lines_of (rest inner).all) (at_child paths A p.sels (group_at i) (lines_in g) own) fair)) in
        let c_true : c ≡ true = sym f ∙ ap (λ (x : List Member). is_succeeded (group_phase x)) same ∙ e in
        subst (λ (x : Bool). GroupsGrew A B (before_groups g (rest inner)) (groups_by h (group_tags now) s more x)) (sym c_true) (subst (λ (x : List Member). GroupsGrew A B (before_groups g (rest inner)) (before_groups (group_made q x) (more (group_tags x ++ s)))) (sym same) l)
    chosen rest more proper step own false c e f fair = other c f
      where
        other : (c : Bool) → is_succeeded (group_phase now) ≡ c → GroupsGrew A B (last_groups before) (groups_by h (group_tags now) s more c)
        other c f =
            let ms = members_grew (fair_under p.sels (group_at i) (lines_in g) (fair_child group_at group_ways p.sels (New A B) A i (lines_in g) [] tt fair)) in
            let same = λ (t : fulfilled (steps_phase (g ∷ [])) ≡ true). group_same A B before now ms (ap fulfilled (sym (steps_phase_at g [] e)) ∙ t) in
            ends c f ms same
          where
            ends : (c : Bool) → is_succeeded (group_phase now) ≡ c → MembersGrew A B before now → (fulfilled (steps_phase (g ∷ [])) ≡ true → now ≡ before) → GroupsGrew A B (last_groups before) (groups_by h (group_tags now) s more c)
            ends true f ms same = record { done = λ t. not_both (is_succeeded (group_phase now)) f (ap (λ (x : List Member). is_succeeded (group_phase x)) (same t) ∙ e); kept = last_kept A B g h (more (group_tags now ++ s)).all (group_grew A B q before now ms).later; begun = last_begun (group_grew A B q before now ms) (more (group_tags now ++ s)).all }
            ends false f ms same = record { done = λ t. ap last_groups (same t); kept = last_kept A B g h [] (group_grew A B q before now ms).later; begun = last_begun (group_grew A B q before now ms) [] }

  groups_grew : (p : Place) (i : ℕ) (s : Scope) (gs : List (List Call)) → StepsFit paths gs → Fair (New A B) (From group_at p.sels i) (lines_of (groups_from run p i s gs).all) → GroupsGrew A B (groups_from run p i s gs) (groups_from ran p i s gs)
  groups_grew p i s [] k f = record { done = λ _. refl; kept = tt; begun = λ q n h. absurd h }
  groups_grew p i s (cs ∷ gs) k f = chosen p i s cs (λ inner. groups_from run p (suc i) inner gs) (λ inner. groups_from ran p (suc i) inner gs) (λ inner. (groups_sound paths A run sound p (suc i) inner gs k.1 (groups_fit (suc i) gs)).proper) (λ inner. groups_grew p (suc i) inner gs k.1) (group_called paths A run sound (group_place p i) s cs k.0).proper _ _ refl refl f

  -- ---- a steps node

  abbrev steps_node : Place → List OutputDecl → Groups → Node
  steps_node p ds x = ended_node p kind.Steps (steps_phase x.all) note.None no_outputs (computed x.scope ds)

  pub steps_grew : (p : Place) (s : Scope) (ds : List OutputDecl) (gs : List (List Call)) → StepsFit paths gs → Fair (New A B) (Inside p.sels) (lines_in (steps_made run p s ds gs)) → Grew A B (steps_made run p s ds gs) (steps_made ran p s ds gs)
  steps_grew p s ds gs k f =
      let a = groups_from run p 0 s gs in
      let b = groups_from ran p 0 s gs in
      let below = fair_below (New A B) (From group_at p.sels 0) (steps_node p ds a) [] (lines_of a.all) (fair_map (New A B) (Inside p.sels) (From group_at p.sels 0) (lines_in (steps_made run p s ds gs)) (from_inside group_at group_ways p.sels 0) f) in
      let h = groups_grew p 0 s gs k below in
      let e = λ (x : Groups). ending_ends p kind.Steps (steps_phase x.all) note.None no_outputs (computed x.scope ds) in
      let same = λ (t : fulfilled (steps_node p ds a).phase ≡ true). h.done ((e a).fulfilled t) in
      record {
        later = made_later A B (steps_node p ds a) (steps_node p ds b) [] [] (row_of a.all) (row_of b.all) (same_place p (steps_node p ds a) (steps_node p ds b) (e a).at (e b).at (λ t. ap (steps_node p ds) (same t))) tt h.kept (λ t. ap (steps_by p ds) (same t));
        begun = begun_below (New A B) (steps_node p ds a) (steps_node p ds b) [] [] (lines_of a.all) (lines_of b.all) h.begun;
      }
