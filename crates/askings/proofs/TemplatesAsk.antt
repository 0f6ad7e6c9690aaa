-- What its template makes a node ask for is asked for: timers and saves.
use Rattle.std.proofs.Common.{◌≡◌, refl, sym, ◌∙◌, ap, subst}
use Rattle.std.proofs.Math.Logic.{inl, inr}
use Rattle.std.specs.Prelude.{ℕ, suc, List, [], ◌∷◌, ◌++◌, Some}
use Rattle.tree_types.specs.declared.path.Path.{Path}
use Rattle.tree_types.specs.declared.path.Sel.TheVariants.{Attempt}
use Rattle.tree_types.specs.declared.phase.Phase.TheVariants.{Pending, Running, Succeeded}
use Rattle.tree_types.specs.declared.node.Kind.TheVariants as kind
use Rattle.tree_types.specs.declared.node.Note.TheVariants as note
use Rattle.tree_types.specs.declared.node.Node.{Node}
use Rattle.tree_types.specs.declared.want.Want.{Want}
use Rattle.tree_types.specs.declared.want.Want.TheVariants as want
use Rattle.tag_text.specs.declared.part.Part.{Part}
use Rattle.wf_manifest.specs.declared.templates.Memoize.{Memoize}
use Rattle.wf_manifest.specs.declared.manifest.Manifest.{Manifest}
use Rattle.meaning.specs.declared.lines.Place.{Place}
use Rattle.meaning.specs.declared.lines.Line.{Line}
use Rattle.meaning.specs.declared.lines.Line.TheVariants.{Stands, Asks, MayBegin}
use Rattle.meaning.specs.Answers.{path, Sels, Answers}
use Rattle.meaning.specs.Lines.{later, no_outputs, node}
use Rattle.meaning.specs.Trees.{pending_root, lines, nodes_in, wants_in}
use Rattle.growth.specs.Growth.{Among}
use Rattle.growth.proofs.Lines.{Every, every_append, every_map}
use Rattle.askings.specs.Owners.{memo_at}
use Rattle.askings.specs.ByTemplate.{duration_at, AsksTimer, AsksNext, AsksSave, AsksByTemplate, TemplatesAsk}
use Rattle.askings.proofs.Tours.{Idle, Unsaved, Tour}
use Rattle.askings.proofs.TourCalls.{tour}
use Rattle.askings.proofs.WaitsAsk.{among_left, among_right}

module _ (m : Manifest) (A : Answers) (ns : List Node) where
  abbrev Served : List Want → Node → Type 0
  Served ws n = AsksByTemplate m A ns ws n

  -- more may be asked for
  served_more : (ws vs : List Want) (n : Node) → ((w : Want) → Among w ws → Among w vs) → Served ws n → Served vs n
  served_more ws vs n f h = record {
    timer = λ duration armed k r d e. (let x = h.timer duration armed k r d e in record { scope = x.scope; is_scope = x.is_scope; seconds = x.seconds; read = x.read; asked = f (want.Timer n.path (later armed x.seconds)) x.asked });
    next = λ k r none. (let x = h.next k r none in record { last = x.last; stands = x.stands; tick = x.tick; due = x.due; asked = f (want.Timer (path (n.path.sels ++ Attempt (suc x.last) ∷ [])) x.tick) x.asked });
    save = λ c s e q. (let x = h.save c s e q in record { scope = x.scope; is_scope = x.is_scope; key = x.key; read = x.read; asked = f (want.Save n.path c.cache x.key n.outputs) x.asked });
  }

  abbrev ServedIn : List Want → Line → Type 0
  ServedIn ws (Stands n) = Served ws n
  ServedIn ws _ = Unit {0}

  abbrev AllServed : List Want → List Line → Type 0
  AllServed ws ls = Every (ServedIn ws) ls

  all_more : (ws vs : List Want) (ls : List Line) → ((w : Want) → Among w ws → Among w vs) → AllServed ws ls → AllServed vs ls
  all_more ws vs ls f h = every_map (ServedIn ws) (ServedIn vs) ls (λ l. at l) h
    where
      at : (l : Line) → ServedIn ws l → ServedIn vs l
      at (Stands n) k = served_more ws vs n f k
      at (Asks w) k = tt
      at (MayBegin p) k = tt

  abbrev Good : List Line → Type 0
  Good ls = AllServed (wants_in ls) ls

  good_both : (ls ks : List Line) → Good ls → Good ks → Good (ls ++ ks)
  good_both ls ks g h = every_append (ServedIn (wants_in (ls ++ ks))) ls ks (all_more (wants_in ls) (wants_in (ls ++ ks)) ls (λ w. among_left w ls ks) g) (all_more (wants_in ks) (wants_in (ls ++ ks)) ks (λ w. among_right w ls ks) h)

  -- a pending node, and a pod, ask for nothing by their template
  pending_served : (ws : List Want) (n : Node) → n.phase ≡ Pending → Served ws n
  pending_served ws n e = record {
    timer = λ duration armed k r d x. absurd (cc (e, r));
    next = λ k r none. absurd (cc (e, r));
    save = λ c s x q. absurd (cc (e, s));
  }

  pod_served : (ws : List Want) (p : Place) → Served ws (node p kind.Pod Running note.None no_outputs)
  pod_served ws p = record {
    timer = λ duration armed k r d x. absurd (cc k);
    next = λ k r none. absurd (cc k);
    save = λ c s x q. absurd (cc s);
  }

module _ (m : Manifest) (A : Answers) (whole : List Line) where
  abbrev Asked : List Line → Type 0
  Asked ls = Good m A (nodes_in whole) ls

  abbrev ServedHere : List Want → Node → Type 0
  ServedHere ws n = Served m A (nodes_in whole) ws n

  idle_served : (ws : List Want) (n : Node) → Idle A whole n → Unsaved m A n → ServedHere ws n
  idle_served ws n i u = record {
    timer = λ duration armed k r d x. absurd (i.suspended k r);
    next = λ k r none. absurd (none (i.retry k r));
    save = λ c s x q. absurd (u c s x q);
  }

  abbrev suspended_node : Place → Node
  suspended_node p = node p kind.Suspend Running note.None no_outputs

  abbrev retry_node : Place → Node
  retry_node p = node p kind.Retry Running note.None no_outputs

  -- a suspended node, whose timer is asked for where it is armed and has a duration
  suspended_served : (ws : List Want) (p : Place) → ((duration : List Part) (armed : ℕ) → duration_at m p.sels ≡ Some duration → A.armed p.sels ≡ Some armed → AsksTimer m A ws (suspended_node p) duration armed) → ServedHere ws (suspended_node p)
  suspended_served ws p f = record {
    timer = λ duration armed k r d e. f duration armed d e;
    next = λ k r none. absurd (cc k);
    save = λ c s x q. absurd (cc s);
  }

  retry_served : (ws : List Want) (p : Place) → AsksNext m A (nodes_in whole) ws (retry_node p) → ServedHere ws (retry_node p)
  retry_served ws p x = record {
    timer = λ duration armed k r d e. absurd (cc k);
    next = λ k r none. x;
    save = λ c s x q. absurd (cc s);
  }

  saved_served : (ws : List Want) (n : Node) (p : Sels) (c : Memoize) → n.path ≡ path p → n.phase ≡ Succeeded → memo_at m p ≡ Some c → AsksSave m A ws n c → ServedHere ws n
  saved_served ws n p c e s y x = record {
    timer = λ duration armed k r d z. absurd (cc (s, r));
    next = λ k r none. absurd (cc (s, r));
    save = λ d _ z q. (
        let there : memo_at m p ≡ Some d = ap (λ (t : Path). memo_at m t.sels) (sym e) ∙ z in
        let same : c ≡ d = cc (y, there) in
        subst (AsksSave m A ws n) same x);
  }

  serves : Tour m A whole
  serves = record {
    Known = λ q. Unit {0};
    Good = Asked;
    none = tt;
    both = good_both m A (nodes_in whole);
    begins = λ p. (tt, tt);
    stands = λ n ls i u g. (idle_served (wants_in ls) n i u, g);
    pod = λ p e g f. (pod_served m A (nodes_in whole) (want.Pod (path p.sels) ∷ []) p, (tt, tt));
    lock = λ p k l x e u f. (pending_served m A (nodes_in whole) (want.Lock (path p.sels) l ∷ []) (node p k Pending (note.Waiting l) no_outputs) refl, (tt, tt));
    look = λ p k c key e f. (pending_served m A (nodes_in whole) (want.LookUp (path p.sels) c.cache key c.max_age ∷ []) (node p k Pending (note.Looking c.cache) no_outputs) refl, (tt, tt));
    arming = λ p a e f. (suspended_served (want.Arming (path p.sels) ∷ []) p (λ duration armed d x. absurd (cc (e, x))), (tt, tt));
    timer = λ p sc duration armed seconds own a e d r f. (
        let ws : List Want = want.Timer (path p.sels) (later armed seconds) ∷ [] in
        let here : AsksTimer m A ws (suspended_node p) duration armed = record { scope = sc; is_scope = own; seconds = seconds; read = r; asked = inl refl } in (
          suspended_served ws p (λ other tick y z. (
              let text : duration ≡ other = cc (d, y) in
              let when : armed ≡ tick = cc (e, z) in
              subst (λ (t : ℕ). AsksTimer m A ws (suspended_node p) other t) when (subst (λ (t : List Part). AsksTimer m A ws (suspended_node p) t armed) text here))),
          (tt, tt),
        ));
    resting = λ p armed a e d. (suspended_served [] p (λ duration tick x y. absurd (cc (d, x))), tt);
    retry = λ p last tick ls x d t g f. (
        let w : Want = want.Timer (path (p.sels ++ Attempt (suc last) ∷ [])) tick in
        let ks : List Line = Asks w ∷ [] in
        let asks : Among w (wants_in (ls ++ ks)) = among_right w ls ks (inl refl) in
        (retry_served (wants_in (ls ++ ks)) p (record { last = last; stands = x; tick = tick; due = d; asked = asks }), good_both m A (nodes_in whole) ls ks g (tt, tt)));
    save = λ n p o c sc key ls own r e x s y z g f. (
        let w : Want = want.Save (path p) c.cache key o in
        let asks : Among (want.Save n.path c.cache key n.outputs) (w ∷ wants_in ls) = inl (λ i. want.Save (sym e i) c.cache key (sym x i)) in
        (saved_served (w ∷ wants_in ls) n p c e s y (record { scope = sc; is_scope = own; key = key; read = r; asked = asks }), (tt, all_more m A (nodes_in whole) (wants_in ls) (w ∷ wants_in ls) ls (λ v a. inr a) g)));
    root = λ l e u f. (pending_served m A (nodes_in whole) (want.Lock (path []) l ∷ []) (pending_root m (note.Waiting l)) refl, (tt, tt));
    own = λ e. tt;
    guarded = λ p b e t q f h. h tt;
  }

  served_of : (ws : List Want) (n : Node) (ls : List Line) → AllServed m A (nodes_in whole) ws ls → Among n (nodes_in ls) → ServedHere ws n
  served_of ws n [] h i = absurd i
  served_of ws n (Asks w ∷ ls) h i = served_of ws n ls h.1 i
  served_of ws n (MayBegin p ∷ ls) h i = served_of ws n ls h.1 i
  served_of ws n (Stands o ∷ ls) h (inl e) = subst (ServedHere ws) e h.0
  served_of ws n (Stands o ∷ ls) h (inr i) = served_of ws n ls h.1 i

pub templates_ask : TemplatesAsk
unfolding serves
templates_ask m A n i = served_of m A (lines m A) (wants_in (lines m A)) n (lines m A) (tour m A (serves m A (lines m A))) i
