-- Where no path that holds a lock waits, none is granted, and where one alone does, it is; where none is over, none is released, and the
-- first that is over is.
use Rattle.std.proofs.Common.{◌≡◌, ◌⊎◌, ◌<◌, inl, inr, Bool, true, false, not, ◌&&◌, cond, List, [], ◌∷◌, length, filter_map, true≢false, refl, sym, ◌∙◌, ap, subst, arith}
use Rattle.std.specs.Prelude.{Option, Some, None, option_map}
use Rattle.std.specs.List.{find, cons_option}
use Rattle.tree_types.specs.declared.path.Sel.{Sel}
use Rattle.tree_types.specs.declared.path.Sel.TheVariants.{Main}
use Rattle.tree_types.specs.declared.path.Path.{Path}
use Rattle.tree_types.specs.declared.path.LockId.{LockId}
use Rattle.tree_types.specs.declared.phase.Phase.{Phase}
use Rattle.tree_types.specs.declared.phase.Phase.TheVariants as phase
use Rattle.tree_types.specs.declared.node.Note.{Note}
use Rattle.tree_types.specs.declared.node.Note.TheVariants as note
use Rattle.tree_types.specs.declared.fact.Fact.TheVariants as fact
use Rattle.tree_types.specs.declared.node.Node.{Node}
use Rattle.tree_types.specs.declared.want.Want.{Want}
use Rattle.tree_types.specs.declared.want.Want.TheVariants as want
use Rattle.tree_types.specs.Places.{sels_eq}
use Rattle.tree_types.specs.Phases.{fulfilled}
use Rattle.tree_types.proofs.Sels.{sels_same, sels_are}
use Rattle.meaning.specs.Answers.{Sels, path, answers}
use Rattle.growth.specs.Growth.{Among}
use Rattle.growth.proofs.Numbered.{both_true}
use Rattle.growth.proofs.OnePath.{one_path}
use Rattle.askings.specs.Owners.{waiting_at}
use Rattle.askings.proofs.HasNode.{has_node}
use Rattle.askings.proofs.WaitsAsk.{waits_ask}
use Rattle.askings.proofs.OverAsksNot.{same_node}
use Rattle.books.specs.declared.Request.{Request}
use Rattle.books.specs.Books.{request_of}
use Rattle.wf_object.specs.Kept.{law_book}
use Rattle.sync_locks.specs.Book as locks
use Rattle.tree_order.specs.Order.{path_before, InOrder, paths_of}
use Rattle.tree_order.proofs.Nodes.{nodes_in_order}
use Rattle.law.specs.Contents.{Flow, Book}
use Rattle.law.specs.Justified.{tree_of, wants_of, key}
use Rattle.law.specs.Due.{Matter, record_fact, release, is_at}
use Rattle.next_step.specs.Views.{Seen, head, first_given}
use Rattle.next_step.specs.Next as next
use Rattle.worker_job.specs.declared.reading.Reading.{Reading}
use Rattle.worker_job.specs.Readings as reads
use Rattle.worker_job.specs.declared.held.Held.{Held}
use Rattle.worker_job.specs.declared.held.Held.TheVariants as held
use Rattle.worker_job.specs.Inside.Held.{waits_by, waits, is_over, stands, stands_at, may_wait, IsOne, TellsAlone, TellsFirst}
use Rattle.worker_job.proofs.Asked.{none_by}
use Rattle.worker_job.proofs.Passing.{finds, found_in}

-- ---- what the first of a list gives

module _ {A B : Type 0} (give : A → Option B) where
  pub none_among : (xs : List A) → ((x : A) → Among x xs → give x ≡ None) → first_given give xs ≡ None
  none_among [] none = refl
  none_among (x ∷ xs) none =
      none_by give x xs (give x) (none x (inl refl)) (none_among xs (λ y there. none y (inr there)))

  -- where one gives this, and no other gives anything else
  module _ (y : B) where
    one_by : (xs : List A) (o : Option B) → (o ≡ None) ⊎ (o ≡ Some y) → (o ≡ Some y) ⊎ (first_given give xs ≡ Some y) → head (cons_option o (filter_map give xs)) ≡ Some y
    one_by xs o (inr is) there = ap (λ (o : Option B). head (cons_option o (filter_map give xs))) is
    one_by xs o (inl is) (inl here) = absurd (let e = sym is ∙ here in cc)
    one_by xs o (inl is) (inr later) = ap (λ (o : Option B). head (cons_option o (filter_map give xs))) is ∙ later

    pub one_among : (xs : List A) (x : A) → Among x xs → give x ≡ Some y → ((z : A) → Among z xs → (give z ≡ None) ⊎ (give z ≡ Some y)) → first_given give xs ≡ Some y
    one_among [] x there is each = absurd there
    one_among (z ∷ xs) x (inl here) is each = one_by xs (give z) (each z (inl refl)) (inl (ap give here ∙ is))
    one_among (z ∷ xs) x (inr there) is each =
        one_by xs (give z) (each z (inl refl)) (inr (one_among xs x there is (λ w later. each w (inr later))))

among_paths : (n : Node) (ns : List Node) → Among n ns → Among n.path.sels (paths_of ns)
among_paths n [] there = absurd there
among_paths n (z ∷ ns) (inl here) = inl (ap (λ (x : Node). x.path.sels) here)
among_paths n (z ∷ ns) (inr there) = inr (among_paths n ns there)

-- where one node gives this, and none that stands before it gives anything
module _ {B : Type 0} (give : Node → Option B) (y : B) where
  pub first_among : (ns : List Node) → InOrder (paths_of ns) → (n : Node) → Among n ns → give n ≡ Some y → ((z : Node) → Among z ns → path_before z.path.sels n.path.sels ≡ true → give z ≡ None) → first_given give ns ≡ Some y
  first_among [] order n there is before = absurd there
  first_among (z ∷ ns) order n (inl here) is before =
      ap (λ (o : Option B). head (cons_option o (filter_map give ns))) (ap give here ∙ is)
  first_among (z ∷ ns) order n (inr there) is before =
      ap (λ (o : Option B). head (cons_option o (filter_map give ns))) (before z (inl refl) (order.0 n.path.sels (among_paths n ns there)))
      ∙ first_among ns order.1 n there is (λ w later. before w (inr later))

-- ---- the node of a path is the one that is found there

module _ (f : Flow) where
  pub stands_there : (n : Node) → Among n (tree_of f) → (so : Node → Bool) (p : Sels) → n.path.sels ≡ p → so n ≡ true → stands_at so f p ≡ true
  stands_there n there so p at is =
      let found = finds (is_at p) (tree_of f) n there (at_own n p at) in
      let same : found.one ≡ n =
      same_node (tree_of f) (one_path f.manifest (answers f.journal)) found.one n found.among there
      (ap path (sels_same found.one.path.sels p found.passes ∙ sym at)) in
      ap (stands so) found.found ∙ ap so same ∙ is
    where
      at_own : (n : Node) (p : Sels) → n.path.sels ≡ p → is_at p n ≡ true
      at_own n p at = ap (λ (q : Sels). is_at q n) (sym at) ∙ sels_are n.path.sels

  -- a node that stands so at a path
  pub record NodeAt (so : Node → Bool) (p : Sels) : Type 0 where
    pub node : Node
    pub there : Among node (tree_of f)
    pub at : node.path.sels ≡ p
    pub is : so node ≡ true

  node_by : (so : Node → Bool) (p : Sels) (o : Option Node) → find (is_at p) (tree_of f) ≡ o → stands so o ≡ true → NodeAt so p
  node_by so p None e is = absurd (true≢false (sym is))
  node_by so p (Some n) e is =
      let found = found_in (is_at p) (tree_of f) n e in
      record { node = n; there = found.0; at = sels_same n.path.sels p found.1; is = is }

  pub node_at : (so : Node → Bool) (p : Sels) → stands_at so f p ≡ true → NodeAt so p
  node_at so p is = node_by so p (find (is_at p) (tree_of f)) refl is

  -- ---- a node that waits for a lock

  pub waits_for : (l : LockId) (n : Node) → n.phase ≡ phase.Pending → n.note ≡ note.Waiting l → waits n ≡ true
  waits_for l n pending is = ap (λ (p : Phase). waits_by p n.note) pending ∙ ap (waits_by phase.Pending) is

  waited : (p : Phase) (o : Note) → waits_by p o ≡ true → (p ≡ phase.Pending) × (l : LockId) × (o ≡ note.Waiting l)
  waited phase.Pending (note.Waiting l) e = (refl, l, refl)
  waited phase.Pending note.None e = absurd (true≢false (sym e))
  waited phase.Pending _ e = absurd (true≢false (sym e))
  waited _ o e = absurd (true≢false (sym e))

  pub awaited : (p : Sels) (l : LockId) → Among (want.Lock (path p) l) (wants_of f) → may_wait f p ≡ true
  awaited [] l asked = refl
  awaited (s ∷ p) l asked =
      let owner = has_node f.manifest (answers f.journal) (want.Lock (path (s ∷ p)) l) asked in
      let waiting = stands_there owner.0 owner.1 waits (s ∷ p) owner.2.0 (waits_for l owner.0 owner.2.1 owner.2.2) in
      ap (λ (b : Bool). not b && stands_at waits f (s ∷ p)) owner.2.4 ∙ waiting

  own_path : (q : Sels) (s t : Sel) (p : Sels) → s ∷ t ∷ p ≡ waiting_at q → q ≡ s ∷ t ∷ p
  own_path [] s t p e = absurd (let z : s ∷ t ∷ p ≡ Main ∷ [] = e in cc)
  own_path (u ∷ q) s t p e = sym e

  -- it asks for it by its own path, where this is not the root's
  pub asked_there : (p : Sels) → 1 < length p → may_wait f p ≡ true → (l : LockId) × Among (want.Lock (path p) l) (wants_of f)
  asked_there [] long is = absurd (omega (arith, long))
  asked_there (s ∷ []) long is = absurd (omega (arith, long))
  asked_there (s ∷ t ∷ p) long is =
      let n = node_at waits (s ∷ t ∷ p) (both_true (not ((answers f.journal).granted (s ∷ t ∷ p))) (stands_at waits f (s ∷ t ∷ p)) is).1 in
      let w = waited n.node.phase n.node.note n.is in
      let asks = (waits_ask f.manifest (answers f.journal) n.node n.there).lock w.1 w.0 w.2 in
      let own : asks.0.sels ≡ s ∷ t ∷ p = own_path asks.0.sels s t p (sym n.at ∙ asks.1) in
      (w.1, subst (λ (q : Sels). Among (want.Lock (path q) w.1) (wants_of f)) own asks.2)

-- ---- what is told

module _ (holds by passes : Path → Bool) (same : (p : Path) → by p ≡ holds p) where
  one_same : (p : Path) (Other : Path → Type 0) → IsOne holds passes p Other → IsOne by passes p Other
  one_same p Other tells = (same p ∙ tells.0, tells.1, λ q is such. tells.2 q (sym (same q) ∙ is) such)

  pub alone_same : (h : Held) → TellsAlone holds passes h → TellsAlone by passes h
  alone_same held.Nothing tells = λ p is. tells p (sym (same p) ∙ is)
  alone_same (held.One p) tells = one_same p.now (λ q. q ≡ p.now) tells
  alone_same held.Unknown tells = tells

  pub first_same : (h : Held) → TellsFirst holds passes h → TellsFirst by passes h
  first_same held.Nothing tells = λ p is. tells p (sym (same p) ∙ is)
  first_same (held.One p) tells = one_same p.now (λ q. path_before q.sels p.now.sels ≡ false) tells
  first_same held.Unknown tells = tells

-- the one path that is not another than this
pub only_path : (q p : Path) (such : Bool) → (not (sels_eq q.sels p.sels) && such) ≡ false → such ≡ true → q ≡ p
only_path q p such e is = by (sels_eq q.sels p.sels) refl (ap (λ (b : Bool). not (sels_eq q.sels p.sels) && b) (sym is) ∙ e)
  where
    by : (b : Bool) → sels_eq q.sels p.sels ≡ b → (not b && true) ≡ false → q ≡ p
    by true same e = ap path (sels_same q.sels p.sels same)
    by false same e = absurd (true≢false e)

module _ (r : Reading) where
  abbrev f : Flow
  f = r.object.now

  abbrev NothingSuch : (Path → Bool) → Type 0
  NothingSuch passes = (p : Path) → reads.is_held r p ≡ true → passes p ≡ false

  abbrev OnlySuch : (Path → Bool) → Path → Type 0
  OnlySuch passes p = (q : Path) → reads.is_held r q ≡ true → passes q ≡ true → q ≡ p

  abbrev FirstSuch : (Path → Bool) → Path → Type 0
  FirstSuch passes p = (q : Path) → reads.is_held r q ≡ true → passes q ≡ true → path_before q.sels p.sels ≡ false

  -- ---- grants

  granted_by : (p : Path) (o : Option Request) (b : Bool) → locks.holds o ≡ b → next.if_holding (reads.law r) (reads.workflow r) (reads.views r) (reads.flow r) p o ≡ cond b (Some (record_fact (fact.Granted p))) None
  granted_by p None b e = ap (λ (c : Bool). cond c (Some (record_fact (fact.Granted p))) None) e
  granted_by p (Some q) b e = ap (λ (c : Bool). cond c (Some (record_fact (fact.Granted p))) None) e

  not_held : (p : Path) (passes b : Bool) → passes ≡ true → (b ≡ true → passes ≡ false) → b ≡ false
  not_held p passes true is none = absurd (true≢false (sym is ∙ none refl))
  not_held p passes false is none = refl

  granting_none : NothingSuch (λ p. may_wait f p.sels) → (a : Want) → Among a (wants_of f) → reads.granting r a ≡ None
  granting_none none (want.Lock p l) asked =
      granted_by p (reads.request r p) false (not_held p (may_wait f p.sels) (reads.is_held r p) (awaited f p.sels l asked) (none p))
  granting_none none _ asked = refl

  pub none_granted : NothingSuch (λ p. may_wait f p.sels) → None ≡ reads.asked r (reads.granting r)
  none_granted none = sym (none_among (reads.granting r) (wants_of f) (granting_none none))

  granting_one : (p : Path) → OnlySuch (λ q. may_wait f q.sels) p → (a : Want) → Among a (wants_of f) → (reads.granting r a ≡ None) ⊎ (reads.granting r a ≡ Some (record_fact (fact.Granted p)))
  granting_one p only (want.Lock q l) asked = by (reads.is_held r q) refl
    where
      by : (b : Bool) → reads.is_held r q ≡ b → (reads.granting r (want.Lock q l) ≡ None) ⊎ (reads.granting r (want.Lock q l) ≡ Some (record_fact (fact.Granted p)))
      by true e =
          inr
          (granted_by q (reads.request r q) true e
          ∙ ap (λ (x : Path). Some (record_fact (fact.Granted x))) (only q e (awaited f q.sels l asked)))
      by false e = inl (granted_by q (reads.request r q) false e)
  granting_one p only _ asked = inl refl

  pub one_granted : (p : Path) → reads.is_held r p ≡ true → may_wait f p.sels ≡ true → OnlySuch (λ q. may_wait f q.sels) p → 1 < length p.sels → Some (record_fact (fact.Granted p)) ≡ reads.asked r (reads.granting r)
  one_granted p held is only long =
      let asks = asked_there f p.sels long is in
      sym
      (one_among (reads.granting r) (record_fact (fact.Granted p)) (wants_of f) (want.Lock p asks.0) asks.1
      (granted_by p (reads.request r p) true held)
      (granting_one p only))

  -- ---- releases

  released_by : (p : Path) (o : Option Request) → locks.holds o ≡ false → next.release_held (reads.law r) (reads.workflow r) (reads.views r) (reads.flow r) p o ≡ None
  released_by p None e = refl
  released_by p (Some q) e = ap (λ (b : Bool). cond b (Some (release q.lock (key (reads.workflow r) p))) None) e

  of_node : (q : Sels) (p : Path) → next.release_held (reads.law r) (reads.workflow r) (reads.views r) (reads.flow r) p (reads.request r p) ≡ None → next.release_node (reads.law r) (reads.workflow r) (reads.views r) (reads.flow r) q p ≡ None
  of_node [] p e = refl
  of_node (t ∷ q) p e = e

  releasing_by : (n : Node) (b : Bool) → fulfilled n.phase ≡ b → (fulfilled n.phase ≡ true → reads.is_held r n.path ≡ false) → cond b (next.release_node (reads.law r) (reads.workflow r) (reads.views r) (reads.flow r) n.path.sels n.path) None ≡ None
  releasing_by n true is none = of_node n.path.sels n.path (released_by n.path (reads.request r n.path) (none is))
  releasing_by n false is none = refl

  pub none_released : NothingSuch (λ p. stands_at is_over f p.sels) → None ≡ reads.first_node r (reads.releasing r)
  none_released none =
      sym
      (none_among (reads.releasing r) (tree_of f)
      (λ n there. releasing_by n (fulfilled n.phase) refl
      (λ is. not_held n.path (stands_at is_over f n.path.sels) (reads.is_held r n.path) (stands_there f n there is_over n.path.sels refl is) (none n.path))))

  -- what holds gives its release
  gives_release : (p : Path) (o : Option Request) → locks.holds o ≡ true → (m : Matter) × (next.release_held (reads.law r) (reads.workflow r) (reads.views r) (reads.flow r) p o ≡ Some m)
  gives_release p None e = absurd (true≢false (sym e))
  gives_release p (Some q) e =
      (release q.lock (key (reads.workflow r) p), ap (λ (b : Bool). cond b (Some (release q.lock (key (reads.workflow r) p))) None) e)

  at_path : (p : Path) (s : Sel) (q : Sels) → p.sels ≡ s ∷ q → next.release_node (reads.law r) (reads.workflow r) (reads.views r) (reads.flow r) p.sels p ≡ reads.release_held r p
  at_path p s q e = ap (λ (x : Sels). next.release_node (reads.law r) (reads.workflow r) (reads.views r) (reads.flow r) x p) e

  releasing_before : (p : Path) → FirstSuch (λ q. stands_at is_over f q.sels) p → (n : Node) → Among n (tree_of f) → path_before n.path.sels p.sels ≡ true → reads.releasing r n ≡ None
  releasing_before p first n there before =
      releasing_by n (fulfilled n.phase) refl
      (λ over. not_held n.path (path_before n.path.sels p.sels) (reads.is_held r n.path) before
      (λ held. first n.path held (stands_there f n there is_over n.path.sels refl over)))

  released_of : (p : Path) (x : Sels) → p.sels ≡ x → reads.is_held r p ≡ true → stands_at is_over f p.sels ≡ true → FirstSuch (λ q. stands_at is_over f q.sels) p → (x ≡ [] → ⊥) → reads.release_held r p ≡ reads.first_node r (reads.releasing r)
  released_of p [] at held is first long = absurd (long refl)
  released_of p (s ∷ q) at held is first long =
      let n = node_at f is_over p.sels is in
      let gives = gives_release p (reads.request r p) held in
      let same : n.node.path ≡ p = ap path n.at in
      gives.1
      ∙ sym
      (first_among (reads.releasing r) gives.0 (tree_of f) (nodes_in_order f.manifest (answers f.journal)) n.node n.there
      (ap (λ (b : Bool). cond b (next.release_node (reads.law r) (reads.workflow r) (reads.views r) (reads.flow r) n.node.path.sels n.node.path) None) n.is
      ∙ ap (λ (x : Path). next.release_node (reads.law r) (reads.workflow r) (reads.views r) (reads.flow r) x.sels x) same
      ∙ at_path p s q at
      ∙ gives.1)
      (λ z among before. releasing_before p first z among (ap (path_before z.path.sels) (sym n.at) ∙ before)))

  pub first_released : (p : Path) → reads.is_held r p ≡ true → stands_at is_over f p.sels ≡ true → FirstSuch (λ q. stands_at is_over f q.sels) p → (p.sels ≡ [] → ⊥) → reads.release_held r p ≡ reads.first_node r (reads.releasing r)
  first_released p held is first long = released_of p p.sels refl held is first long

  -- ---- the view of the book

  pub held_in : (book : locks.Book) → Some (law_book book) ≡ option_map (λ (b : Seen Book). b.content) (reads.views r).book → (p : Path) → reads.is_held r p ≡ locks.is_held (locks.key_by (reads.workflow r) p) book.requests
  held_in book e p = by (reads.views r).book e
    where
      by : (o : Option (Seen Book)) → Some (law_book book) ≡ option_map (λ (b : Seen Book). b.content) o → locks.holds (next.request_in (reads.law r) (reads.workflow r) (reads.views r) (reads.flow r) p o) ≡ locks.is_held (locks.key_by (reads.workflow r) p) book.requests
      by None e = absurd (cc e)
      by (Some b) e =
          ap (λ (x : Book). locks.holds (request_of x.requests (key (reads.workflow r) p))) (let z : b.content ≡ law_book book = cc in z)

  pub none_in : None ≡ option_map (λ (b : Seen Book). b.content) (reads.views r).book → (p : Path) → reads.is_held r p ≡ false
  none_in e p = by (reads.views r).book e
    where
      by : (o : Option (Seen Book)) → None ≡ option_map (λ (b : Seen Book). b.content) o → locks.holds (next.request_in (reads.law r) (reads.workflow r) (reads.views r) (reads.flow r) p o) ≡ false
      by None e = refl
      by (Some b) e = absurd (cc e)
