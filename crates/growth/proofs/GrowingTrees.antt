-- A tree grows under answers that say more, if what newly begins may begin; what is over stays.
use Rattle.std.proofs.Common.{◌≡◌, refl, sym, ◌∙◌, ap, subst, ◌⊎◌}
use Rattle.std.proofs.Math.Logic.{inl, inr}
use Rattle.std.specs.Prelude.{ℕ, List, [], ◌∷◌, ◌++◌, Bool, true, false, Option, Some, None, cond}
use Rattle.tree_types.specs.declared.path.Path.{Path}
use Rattle.tree_types.specs.declared.path.Sel.TheVariants.{Main, Exit}
use Rattle.tree_types.specs.declared.path.LockId.{LockId}
use Rattle.tree_types.specs.declared.phase.Phase.{Phase}
use Rattle.tree_types.specs.declared.phase.Phase.TheVariants.{Pending, Running, Succeeded}
use Rattle.tree_types.specs.declared.node.Note.{Note}
use Rattle.tree_types.specs.declared.node.Note.TheVariants as note
use Rattle.tree_types.specs.declared.node.Node.{Node}
use Rattle.tree_types.specs.declared.outcome.Outcome.{Outcome}
use Rattle.tree_types.specs.declared.want.Want.{Want}
use Rattle.tree_types.specs.declared.want.Want.TheVariants as want
use Rattle.tree_types.specs.Phases.{fulfilled}
use Rattle.wf_manifest.specs.declared.manifest.Manifest.{Manifest}
use Rattle.scopes.specs.Substitution.{Scope}
use Rattle.meaning.specs.declared.lines.Place.{Place}
use Rattle.meaning.specs.declared.lines.Line.{Line}
use Rattle.meaning.specs.declared.lines.Line.TheVariants.{Stands, Asks, MayBegin}
use Rattle.meaning.specs.Answers.{path, Sels, MemoAnswer, Answers}
use Rattle.meaning.specs.Lines.{Made, lines_in, no_outputs}
use Rattle.meaning.specs.Calls.{kind_named, calls}
use Rattle.meaning.specs.Trees.{globals_of, root, exit_root, top_call, main_made, status_tags, exit_made, exit_if, exit_of, exit_lines, running_lines, pending_root, lines_locked, lines_started, lines_by, lines, nodes_in, wants_in, beginnings_in, ended_phase, running_phase, granted_phase, lock_granted, started_phase}
use Rattle.growth.specs.Growth.{Among, Follows, Grown, SaysMore, New, IsFair, GrowsByAnswers, IsOver, Stays, IsSave, AsksOnlySaves, KeepsTicks, Unanswered}
use Rattle.growth.proofs.Lines.{Any, IsNode, IsWant, Has, Holds, Open, Unresumed, Proper, Anywhere, Under, Inside, inside_under, Fair, fair_left, fair_right, not_begun}
use Rattle.growth.proofs.Keeping.{not_both, Kept, AllKept, Later, Begun, Grew, all_left, all_beside, all_same, begun_beside, node_at, open_follows}
use Rattle.growth.proofs.OnePath.{paths, all_fit}
use Rattle.growth.proofs.SoundCalls.{calls_sound, main_topped, exit_sound, lines_whole}
use Rattle.growth.proofs.GrowingCalls.{plain_grew, calls_grew}

main_apart : (p : Sels) → Under (Main ∷ []) p → Under (Exit ∷ []) p → ⊥
main_apart p h k = let e : ◌≡◌ {A = Sels} (Main ∷ h.0 ∷ h.1) (Exit ∷ k.0 ∷ k.1) = sym h.2 ∙ k.2 in absurd (cc e)

-- how lines grow: each line is kept, and what newly begins stands
pub record Grows (A B : Answers) (ls ks : List Line) : Type 0 where
  pub kept : AllKept A B ls ks
  pub begun : Begun (New A B) ls ks

module _ (m : Manifest) (A B : Answers) where
  pending_kept : (n : Note) → AllKept A B (Stands (pending_root m n) ∷ []) (running_lines m B (main_made m B))
  pending_kept n =
      let t = main_topped paths B m (all_fit m.templates) in
      let o : Node = pending_root m n in
      let x : Made = main_made m B in
      let k : Kept o (lines_in x) = (x.own.node, inl refl, open_follows (root m) o x.own.node (node_at (root m) (kind_named m m.entrypoint) Pending n no_outputs) t.at refl) in
      all_left A B (Stands o ∷ []) (lines_in x) (exit_lines (exit_of m B x)) (k, tt)

  -- a root that was not started
  bare_locked : (l : LockId) (b : Bool) → AllKept A B (Stands (pending_root m note.None) ∷ []) (lines_locked m B l b)
  bare_locked l true = pending_kept note.None
  bare_locked l false = ((pending_root m (note.Waiting l), inl refl, open_follows (root m) (pending_root m note.None) (pending_root m (note.Waiting l)) (node_at (root m) (kind_named m m.entrypoint) Pending note.None no_outputs) (node_at (root m) (kind_named m m.entrypoint) Pending (note.Waiting l) no_outputs) refl), tt)

  bare_kept : (o : Option LockId) → AllKept A B (Stands (pending_root m note.None) ∷ []) (lines_started m B o)
  bare_kept None = pending_kept note.None
  bare_kept (Some l) = bare_locked l (B.granted [])

  -- the tree of what was not started
  pub unstarted_kept : (u : Bool) → AllKept A B (Stands (pending_root m note.None) ∷ []) (lines_by m B u)
  unstarted_kept true = bare_kept m.lock
  unstarted_kept false = all_same A B (Stands (pending_root m note.None) ∷ [])

module _ (m : Manifest) (A B : Answers) (g : SaysMore A B) where
  abbrev AllFair : List Line → Type 0
  AllFair ls = Fair (New A B) Anywhere ls

  top_grew : (flow : Scope) (p : Place) (n : List ℕ) → Fair (New A B) (Under p.sels) (lines_in (top_call m A flow p n)) → Grew A B (top_call m A flow p n) (top_call m B flow p n)
  top_grew flow p n f = plain_grew m A B g flow (calls m A flow 31) (calls m B flow 31) (calls_sound paths A m (all_fit m.templates) flow 31) (calls_sound paths B m (all_fit m.templates) flow 31) (calls_grew m A B g flow 31) p flow n m.arguments f

  abbrev a : Made
  a = main_made m A

  abbrev b : Made
  b = main_made m B

  abbrev exit_a : List Line
  exit_a = exit_lines (exit_of m A a)

  -- what newly begins below the entrypoint, and below the exit handler
  main_fair : AllFair (running_lines m A a) → Fair (New A B) (Under (Main ∷ [])) (lines_in a)
  main_fair f = fair_left (New A B) Anywhere (Under (Main ∷ [])) (Under (Exit ∷ [])) A (lines_in a) exit_a (λ p h. tt) main_apart (exit_sound paths A m (all_fit m.templates) a).proper f

  exit_fair : AllFair (running_lines m A a) → Fair (New A B) (Under (Exit ∷ [])) exit_a
  exit_fair f = fair_right (New A B) Anywhere (Under (Exit ∷ [])) (Inside (Main ∷ [])) A (lines_in a) exit_a (λ p h. tt) (λ p x y. main_apart p (inside_under (Main ∷ []) p y) x) (main_topped paths A m (all_fit m.templates)).proper f

  main_grew : AllFair (running_lines m A a) → Grew A B a b
  main_grew f = top_grew (globals_of m) (root m) m.entrypoint (main_fair f)

  nothing_grows : (ks : List Line) → Grows A B [] ks
  nothing_grows ks = record { kept = tt; begun = λ p n h. absurd h }

  -- the exit handler of what is finished
  exit_made_grew : (n : List ℕ) → b ≡ a → Fair (New A B) (Under (Exit ∷ [])) (lines_in (exit_made m A a n)) → Grew A B (exit_made m A a n) (exit_made m B b n)
  exit_made_grew n e fair = subst (λ (x : Made). Grew A B (exit_made m A a n) (exit_made m B x n)) (sym e) (top_grew (status_tags m a) (exit_root m) n fair)

  exit_grows : Later A B a b → (o : Option (List ℕ)) (t u : Bool) → a.own.finished ≡ t → b.own.finished ≡ u → Fair (New A B) (Under (Exit ∷ [])) (exit_lines (exit_if t m A a o)) → Grows A B (exit_lines (exit_if t m A a o)) (exit_lines (exit_if u m B b o))
  exit_grows l None true u e f fair = nothing_grows (exit_lines (exit_if u m B b None))
  exit_grows l None false u e f fair = nothing_grows (exit_lines (exit_if u m B b None))
  exit_grows l (Some n) false u e f fair = nothing_grows (exit_lines (exit_if u m B b (Some n)))
  exit_grows l (Some n) true false e f fair = not_both b.own.finished (ap (λ (x : Made). x.own.finished) (l.done e) ∙ e) f
  exit_grows l (Some n) true true e f fair = let x = exit_made_grew n (l.done e) fair in record { kept = x.later.kept; begun = x.begun }

  running_grows : AllFair (running_lines m A a) → Grows A B (running_lines m A a) (running_lines m B b)
  running_grows f =
      let l = main_grew f in
      let x = exit_grows l.later m.on_exit a.own.finished b.own.finished refl refl (exit_fair f) in
      let exit_b : List Line = exit_lines (exit_of m B b) in
      record { kept = all_beside A B (lines_in a) (lines_in b) exit_a exit_b l.later.kept x.kept; begun = begun_beside (New A B) (lines_in a) (lines_in b) exit_a exit_b l.begun x.begun }

  none_begin : (N : Sels → Type 0) (n : Node) (w : Want) (ks : List Line) → Begun N (Stands n ∷ Asks w ∷ []) ks
  none_begin N n w ks p i (inl x) = absurd x
  none_begin N n w ks p i (inr (inl x)) = absurd x
  none_begin N n w ks p i (inr (inr x)) = absurd x

  locked_grows : (l : LockId) (t u : Bool) → (t ≡ true → u ≡ true) → B.granted [] ≡ u → AllFair (lines_locked m A l t) → Grows A B (lines_locked m A l t) (lines_locked m B l u)
  locked_grows l true true h e f = running_grows f
  locked_grows l true false h e f = not_both false (h refl) refl
  locked_grows l false true h e f = record { kept = ((pending_kept m A B (note.Waiting l)).0, ((λ k u. not_both (B.granted []) e u), tt)); begun = none_begin (New A B) (pending_root m (note.Waiting l)) (want.Lock (path []) l) (running_lines m B b) }
  locked_grows l false false h e f = record { kept = all_same A B (lines_locked m A l false); begun = none_begin (New A B) (pending_root m (note.Waiting l)) (want.Lock (path []) l) (lines_locked m B l false) }

  started_grows : (o : Option LockId) → AllFair (lines_started m A o) → Grows A B (lines_started m A o) (lines_started m B o)
  started_grows None f = running_grows f
  started_grows (Some l) f = locked_grows l (A.granted []) (B.granted []) (g.granted []) refl f

  by_grows : (t u : Bool) → (t ≡ true → u ≡ true) → AllFair (lines_by m A t) → Grows A B (lines_by m A t) (lines_by m B u)
  by_grows true true h f = started_grows m.lock f
  by_grows true false h f = not_both false (h refl) refl
  by_grows false u h f = record { kept = unstarted_kept m A B u; begun = λ p n k. absurd (one k) }
    where
      one : ⊥ ⊎ ⊥ → ⊥
      one (inl x) = x
      one (inr x) = x

  pub tree_grows : AllFair (lines m A) → Grows A B (lines m A) (lines m B)
  tree_grows f = by_grows A.started B.started g.started f

  -- ---- what is over stays

  if_then : (c : Bool) (x y : Phase) → fulfilled y ≡ false → fulfilled (cond c x y) ≡ true → (c ≡ true) × (fulfilled x ≡ true)
  if_then true x y f e = (refl, e)
  if_then false x y f e = not_both (fulfilled y) e f

  exit_stays : (o : Option (List ℕ)) → b ≡ a → a.own.finished ≡ true → (t : Bool) → a.own.finished ≡ t → fulfilled (ended_phase a (exit_if t m A a o)) ≡ true → Fair (New A B) (Under (Exit ∷ [])) (exit_lines (exit_if t m A a o)) → exit_lines (exit_if t m B a o) ≡ exit_lines (exit_if t m A a o)
  exit_stays None e f true t over fair = refl
  exit_stays None e f false t over fair = refl
  exit_stays (Some n) e f false t over fair = refl
  exit_stays (Some n) e f true t over fair = ap (λ (x : Made). (lines_in x)) ((top_grew (status_tags m a) (exit_root m) n fair).later.done (if_then (exit_made m A a n).own.finished _ Running refl over).0)

  running_stays : fulfilled (running_phase m A a) ≡ true → AllFair (running_lines m A a) → running_lines m B b ≡ running_lines m A a
  running_stays over f =
      let two = if_then a.own.finished (ended_phase a (exit_of m A a)) Running refl over in
      let same : b ≡ a = (main_grew f).later.done two.0 in
      let exits : exit_lines (exit_of m B b) ≡ exit_a = ap (λ (x : Made). exit_lines (exit_of m B x)) same ∙ exit_stays m.on_exit same two.0 a.own.finished refl two.1 (exit_fair f) in
      (λ i. (lines_in (same i)) ++ exits i)

  locked_stays : (l : LockId) (t u : Bool) → (t ≡ true → u ≡ true) → fulfilled (granted_phase m A t) ≡ true → AllFair (lines_locked m A l t) → lines_locked m B l u ≡ lines_locked m A l t
  locked_stays l true true h over f = running_stays over f
  locked_stays l true false h over f = not_both false (h refl) refl
  locked_stays l false u h over f = not_both false over refl

  started_stays : (o : Option LockId) → fulfilled (granted_phase m A (lock_granted A o)) ≡ true → AllFair (lines_started m A o) → lines_started m B o ≡ lines_started m A o
  started_stays None over f = running_stays over f
  started_stays (Some l) over f = locked_stays l (A.granted []) (B.granted []) (g.granted []) over f

  by_stays : (t u : Bool) → (t ≡ true → u ≡ true) → fulfilled (started_phase m A t) ≡ true → AllFair (lines_by m A t) → lines_by m B u ≡ lines_by m A t
  by_stays true true h over f = started_stays m.lock over f
  by_stays true false h over f = not_both false (h refl) refl
  by_stays false u h over f = not_both false over refl

  pub tree_stays : IsOver m A → AllFair (lines m A) → lines m B ≡ lines m A
  tree_stays over f = by_stays A.started B.started g.started over f

-- ---- the same of lists of nodes, wants and beginnings

pub among_nodes : (n : Node) (ls : List Line) → Any (IsNode n) ls → Among n (nodes_in ls)
among_nodes n [] h = h
among_nodes n (Stands o ∷ ls) (inl e) = inl e
among_nodes n (Stands o ∷ ls) (inr h) = inr (among_nodes n ls h)
among_nodes n (Asks w ∷ ls) (inl x) = absurd x
among_nodes n (Asks w ∷ ls) (inr h) = among_nodes n ls h
among_nodes n (MayBegin p ∷ ls) (inl x) = absurd x
among_nodes n (MayBegin p ∷ ls) (inr h) = among_nodes n ls h

pub grown_of : (A B : Answers) (ls ks : List Line) → AllKept A B ls ks → Grown (nodes_in ls) (nodes_in ks)
grown_of A B [] ks h k i = absurd i
grown_of A B (Stands n ∷ ls) ks h k (inl e) = (h.0.0, among_nodes h.0.0 ks h.0.1, subst (λ (x : Node). Follows x h.0.0) e h.0.2)
grown_of A B (Stands n ∷ ls) ks h k (inr i) = grown_of A B ls ks h.1 k i
grown_of A B (Asks w ∷ ls) ks h k i = grown_of A B ls ks h.1 k i
grown_of A B (MayBegin p ∷ ls) ks h k i = grown_of A B ls ks h.1 k i

among_wants : (w : Want) (ls : List Line) → Any (IsWant w) ls → Among w (wants_in ls)
among_wants w [] h = h
among_wants w (Asks v ∷ ls) (inl e) = inl e
among_wants w (Asks v ∷ ls) (inr h) = inr (among_wants w ls h)
among_wants w (Stands n ∷ ls) (inl x) = absurd x
among_wants w (Stands n ∷ ls) (inr h) = among_wants w ls h
among_wants w (MayBegin p ∷ ls) (inl x) = absurd x
among_wants w (MayBegin p ∷ ls) (inr h) = among_wants w ls h

-- what is asked for is asked for until it is answered
pub asked_of : (A B : Answers) (w : Want) (ls ks : List Line) → AllKept A B ls ks → KeepsTicks A B → Unanswered B w → Among w (wants_in ls) → Among w (wants_in ks)
asked_of A B w [] ks h k u i = absurd i
asked_of A B w (Stands n ∷ ls) ks h k u i = asked_of A B w ls ks h.1 k u i
asked_of A B w (MayBegin p ∷ ls) ks h k u i = asked_of A B w ls ks h.1 k u i
asked_of A B w (Asks v ∷ ls) ks h k u (inr i) = asked_of A B w ls ks h.1 k u i
asked_of A B w (Asks v ∷ ls) ks h k u (inl e) = among_wants w ks (subst (λ (x : Want). Any (IsWant x) ks) e (h.0 k (subst (Unanswered B) (sym e) u)))

pub holds_of : (p : Path) (ls : List Line) → Among p (beginnings_in ls) → Holds p.sels ls
holds_of p [] i = i
holds_of p (Stands n ∷ ls) i = inr (holds_of p ls i)
holds_of p (Asks w ∷ ls) i = inr (holds_of p ls i)
holds_of p (MayBegin q ∷ ls) (inl e) = inl (ap (λ (x : Path). x.sels) e)
holds_of p (MayBegin q ∷ ls) (inr i) = inr (holds_of p ls i)

-- what is asked for is not answered
pub open_of : (A : Answers) (D : Sels → Type 0) (w : Want) (ls : List Line) → Proper A D ls → Among w (wants_in ls) → Open A w
open_of A D w [] h i = absurd i
open_of A D w (Stands n ∷ ls) h i = open_of A D w ls h.1 i
open_of A D w (Asks v ∷ ls) h (inl e) = subst (Open A) e h.0
open_of A D w (Asks v ∷ ls) h (inr i) = open_of A D w ls h.1 i
open_of A D w (MayBegin p ∷ ls) h i = open_of A D w ls h.1 i

-- a suspended node that runs was not resumed
pub unresumed_of : (A : Answers) (D : Sels → Type 0) (n : Node) (ls : List Line) → Proper A D ls → Among n (nodes_in ls) → Unresumed A n
unresumed_of A D n [] h i = absurd i
unresumed_of A D n (Stands o ∷ ls) h (inl e) = subst (Unresumed A) e h.0
unresumed_of A D n (Stands o ∷ ls) h (inr i) = unresumed_of A D n ls h.1 i
unresumed_of A D n (Asks v ∷ ls) h i = unresumed_of A D n ls h.1 i
unresumed_of A D n (MayBegin p ∷ ls) h i = unresumed_of A D n ls h.1 i

-- a node that stands in lines is one of their nodes
pub node_of : (p : Sels) (ls : List Line) → Has p ls → (n : Node) × Among n (nodes_in ls) × (n.path.sels ≡ p)
node_of p [] h = absurd h
node_of p (Stands n ∷ ls) (inl e) = (n, inl refl, e)
node_of p (Stands n ∷ ls) (inr h) = let x = node_of p ls h in (x.0, inr x.1, x.2)
node_of p (Asks w ∷ ls) (inl x) = absurd x
node_of p (Asks w ∷ ls) (inr h) = node_of p ls h
node_of p (MayBegin q ∷ ls) (inl x) = absurd x
node_of p (MayBegin q ∷ ls) (inr h) = node_of p ls h

pub fair_of : (m : Manifest) (A B : Answers) → IsFair m A B → Fair (New A B) Anywhere (lines m A)
fair_of m A B f p d n = holds_of (path p) (lines m A) (f p n)

pub begun_by_answers : (m : Manifest) (A B : Answers) → SaysMore A B → IsFair m A B → (p : Sels) → New A B p → (n : Node) × Among n (nodes_in (lines m B)) × (n.path.sels ≡ p)
begun_by_answers m A B g f p n = node_of p (lines m B) ((tree_grows m A B g (fair_of m A B f)).begun p n (fair_of m A B f p tt n))

-- what may begin has not begun
pub not_begun_yet : (m : Manifest) (A : Answers) (p : Path) → Among p (beginnings_in (lines m A)) → A.begun p.sels ≡ false
not_begun_yet m A p i = not_begun A Anywhere p.sels (lines m A) (lines_whole paths A m (all_fit m.templates)).proper (holds_of p (lines m A) i)

pub asks_on_by_answers : (m : Manifest) (A B : Answers) → SaysMore A B → IsFair m A B → KeepsTicks A B → (w : Want) → Unanswered B w → Among w (wants_in (lines m A)) → Among w (wants_in (lines m B))
asks_on_by_answers m A B g f k w u i = asked_of A B w (lines m A) (lines m B) (tree_grows m A B g (fair_of m A B f)).kept k u i

pub grows_by_answers : GrowsByAnswers
grows_by_answers m A B g f = grown_of A B (lines m A) (lines m B) (tree_grows m A B g (fair_of m A B f)).kept

pub stays : Stays
stays m A B g f over = tree_stays m A B g over (fair_of m A B f)

-- ---- what is over asks for nothing but saves: with all else answered it would stay, and ask for what is answered

pub some_or : {X : Type 0} → X → Option X → X
some_or x None = x
some_or x (Some y) = y

abbrev pub failing : Outcome
failing = record { phase = Succeeded; result = None; params = []; transient = false; begin = 0; finish = 0; ended = refl }

-- all that can be asked is answered
abbrev pub answered : Answers → Answers
answered A = record A {
  outcome = λ p. Some (some_or (note.None, failing) (A.outcome p));
  granted = λ p. true;
  memo = λ p. Some (some_or None (A.memo p));
  armed = λ p. Some (some_or 0 (A.armed p));
  due = λ p. true;
  resumed = λ p. true;
}

pub answered_more : (A : Answers) → SaysMore A (answered A)
unfolding some_or
answered_more A = record {
  started = λ e. e;
  outcome = λ p o e. ap (λ (x : Option (Note × Outcome)). Some (some_or (note.None, failing) x)) e;
  granted = λ p e. refl;
  memo = λ p o e. ap (λ (x : Option MemoAnswer). Some (some_or None x)) e;
  due = λ p e. refl;
  resumed = λ p e. refl;
  begun = λ p e. e;
}

pub only_save : (A : Answers) (w : Want) → Open (answered A) w → IsSave w
only_save A (want.Pod p) h = absurd (cc h.2)
only_save A (want.Lock p l) h = absurd (cc h)
only_save A (want.LookUp p cache key age) h = absurd (cc h)
only_save A (want.Arming p) h = absurd (cc h)
only_save A (want.Timer p tick) h = absurd (cc h)
only_save A (want.Save p cache key outputs) h = tt

pub asks_only_saves : AsksOnlySaves
asks_only_saves m A w over i =
    let B : Answers = answered A in
    let same : lines m B ≡ lines m A = stays m A B (answered_more A) (λ p n. not_both (A.begun p) n.0 n.1) over in
    only_save A w (open_of B Anywhere w (lines m B) (lines_whole paths B m (all_fit m.templates)).proper (subst (λ (ls : List Line). Among w (wants_in ls)) (sym same) i))
