-- A call grows: locks, memory, hooks and loops round a body that grows.
use Rattle.std.proofs.Common.{◌≡◌, refl, sym, ◌∙◌, ap, subst, ◌⊎◌}
use Rattle.std.proofs.Math.Logic.{inl, inr}
use Rattle.std.specs.Prelude.{ℕ, zero, suc, List, [], ◌∷◌, ◌++◌, Bool, true, false, Option, Some, None, Ok, Err}
use Rattle.serde_json.specs.Data.{Data}
use Rattle.tree_types.specs.declared.path.Sel.TheVariants.{Exit}
use Rattle.tree_types.specs.declared.path.LockId.{LockId}
use Rattle.tree_types.specs.declared.phase.Phase.{Phase}
use Rattle.tree_types.specs.declared.phase.Phase.TheVariants.{Pending, Running, Succeeded, Skipped, Failed, Error, Omitted}
use Rattle.tree_types.specs.declared.node.Note.TheVariants as note
use Rattle.tree_types.specs.declared.node.Node.{Node}
use Rattle.tree_types.specs.declared.outcome.Outputs.{Outputs}
use Rattle.tree_types.specs.declared.want.Want.TheVariants as want
use Rattle.tree_types.specs.Phases.{fulfilled, is_succeeded}
use Rattle.wf_manifest.specs.declared.calls.Argument.{Argument}
use Rattle.wf_manifest.specs.declared.calls.Loop.{Loop}
use Rattle.wf_manifest.specs.declared.calls.Hook.{Hook}
use Rattle.wf_manifest.specs.declared.calls.Call.{Call}
use Rattle.wf_manifest.specs.declared.templates.OutputDecl.{OutputDecl}
use Rattle.wf_manifest.specs.declared.templates.Memoize.{Memoize}
use Rattle.wf_manifest.specs.declared.templates.Retry.{Retry}
use Rattle.wf_manifest.specs.declared.templates.Body.{Body}
use Rattle.wf_manifest.specs.declared.templates.Body.TheVariants as body
use Rattle.wf_manifest.specs.declared.templates.Template.{Template}
use Rattle.wf_manifest.specs.declared.manifest.Manifest.{Manifest}
use Rattle.scopes.specs.Substitution.{Found, Scope, said}
use Rattle.fanout.specs.Items.{items}
use Rattle.fanout.specs.ItemTexts.{item_tags}
use Rattle.meaning.specs.declared.lines.Place.{Place}
use Rattle.meaning.specs.declared.lines.Line.{Line}
use Rattle.meaning.specs.declared.lines.Line.TheVariants.{Stands, Asks}
use Rattle.meaning.specs.Answers.{path, Sels, MemoAnswer, Answers}
use Rattle.meaning.specs.Lines.{Made, lines_in, no_outputs, node, lines_of, all_finished, tags_of}
use Rattle.meaning.specs.Steps.{Caller}
use Rattle.meaning.specs.Calls.{template_named, kind_of, kind_named, template_scope, hook_runs, hook_place, then_hook, loop_node, loop_made, item_place, stopped_before_loop, stopped_at_item, unless_stopped, body_by, body_made, saving_if, saving, remembered, keyed, memo_made, locked, template_by, template_made, entry, call_by, call_of_template, hook_made, hooked_if, hooked, one_made, item_made, items_made, declared_by, looped, each_made, call_made, calls}
use Rattle.growth.specs.Growth.{SaysMore, New}
use Rattle.growth.proofs.Numbered.{Pairs, pairs_from, pairs_same}
use Rattle.growth.proofs.Lines.{behind_first, Any, IsNode, IsWant, IsAt, Begins, Proper, Nowhere, Under, Inside, AtChild, From, Fair, fair_left, fair_right, fair_below, fair_map, rows_fair, inside_under, exit_apart, child_under, from_under}
use Rattle.growth.proofs.Keeping.{all_right, same_place, not_both, SameTop, Later, Begun, Grew, kept_in, all_left, all_beside, same_top, unchanged, begun_beside, begun_left, begun_below, still, rows_kept, rows_begun, At, node_at, AllKept}
use Rattle.growth.proofs.OnePath.{paths, all_fit}
use Rattle.growth.proofs.SoundBodies.{topped_called, items_laid, Topped, Sound}
use Rattle.growth.proofs.SoundCalls.{item_at, item_ways, BodyFits, TemplateFits, FoundFits, named_fits, base_topped, remembered_topped, locked_topped, template_topped, hook_topped, Stops, before_loop_stops, at_item_stops, items_proper, calls_sound}
use Rattle.growth.proofs.GrowingBodies.{open_later, succeeded_fulfilled, pod_grew, retry_grew, suspend_grew, Growing, fair_under, steps_grew}
use Rattle.growth.proofs.GrowingDags.{dag_grew}
use Rattle.meaning.proofs.Flattening.{lines_hooked}

-- ---- a line more behind the first

-- what is not asked for stands before and after
module _ (P : Line → Type 0) (x : Line) where
  pub any_behind : (ls : List Line) → Any P ls → Any P (behind_first x ls)
  any_behind [] h = inr h
  any_behind (l ∷ ls) (inl h) = inl h
  any_behind (l ∷ ls) (inr h) = inr (inr h)

  past_behind : (ls : List Line) → (P x → ⊥) → Any P (behind_first x ls) → Any P ls
  past_behind [] f (inl h) = absurd (f h)
  past_behind [] f (inr h) = h
  past_behind (l ∷ ls) f (inl h) = inl h
  past_behind (l ∷ ls) f (inr (inl h)) = absurd (f h)
  past_behind (l ∷ ls) f (inr (inr h)) = inr h

-- what others see decides the tags
same_tags : (label : List ℕ) (a b : Made) → SameTop a b → tags_of label b ≡ tags_of label a
same_tags label a b h = ap (λ (x : Phase × Outputs). tags_of label (record a { own = record a.own { node = record a.own.node { phase = x.0; outputs = x.1 } } })) (let e : ◌≡◌ {A = Phase × Outputs} (b.own.node.phase, b.own.node.outputs) (a.own.node.phase, a.own.node.outputs) = λ i. (h.phase i, h.outputs i) in e)

runs_fulfilled : (ph : Phase) → hook_runs ph ≡ true → fulfilled ph ≡ true
runs_fulfilled Succeeded e = refl
runs_fulfilled Failed e = refl
runs_fulfilled Error e = refl
runs_fulfilled Skipped e = refl
runs_fulfilled Omitted e = refl
runs_fulfilled Pending e = not_both false e refl
runs_fulfilled Running e = not_both false e refl

hooked_kept : (A B : Answers) (ls ks a b h k : List Line) → ls ≡ a ++ h → ks ≡ b ++ k → AllKept A B (a ++ h) (b ++ k) → AllKept A B ls ks
hooked_kept A B ls ks a b h k e f x = subst (λ (y : List Line). AllKept A B y ks) (sym e) (subst (AllKept A B (a ++ h)) (sym f) x)

hooked_begun : (N : Sels → Type 0) (ls ks a b h k : List Line) → ls ≡ a ++ h → ks ≡ b ++ k → Begun N (a ++ h) (b ++ k) → Begun N ls ks
hooked_begun N ls ks a b h k e f x = subst (λ (y : List Line). Begun N y ks) (sym e) (subst (Begun N (a ++ h)) (sym f) x)

then_hook_later : (A B : Answers) (a b h k : Made) → a.own.finished ≡ true → Later A B a b → Later A B h k → Later A B (then_hook a h) (then_hook b k)
then_hook_later A B a b h k f l r = record { done = λ d. (λ i. then_hook (l.done f i) (r.done d i)); top = λ d. (let s = same_top (l.done f) in record { phase = s.phase; outputs = s.outputs }); kept = hooked_kept A B (lines_in (then_hook a h)) (lines_in (then_hook b k)) (lines_in a) (lines_in b) (lines_in h) (lines_in k) (lines_hooked a h) (lines_hooked b k) (all_beside A B (lines_in a) (lines_in b) (lines_in h) (lines_in k) l.kept r.kept) }

-- ---- loops

abbrev MadesGrew : Answers → Answers → List Made → List Made → Type 0
MadesGrew A B ms ns = Pairs (λ i m n. Grew A B m n) 0 ms ns

loop_fulfilled : (p : Place) (ds : List OutputDecl) (ms : List Made) (b : Bool) → fulfilled (loop_node p ds ms b).phase ≡ true → b ≡ true
loop_fulfilled p ds ms true e = refl
loop_fulfilled p ds ms false e = not_both false e refl

loop_at : (p : Place) (ds : List OutputDecl) (ms : List Made) (b : Bool) → At p (loop_node p ds ms b)
loop_at p ds ms true = record { path = refl; name = refl; depth = refl }
loop_at p ds ms false = record { path = refl; name = refl; depth = refl }

loop_grew : (A B : Answers) (p : Place) (ds : List OutputDecl) (ms ns : List Made) → MadesGrew A B ms ns → Grew A B (loop_made p ds ms) (loop_made p ds ns)
loop_grew A B p ds ms ns h =
    let n : Node = loop_node p ds ms (all_finished ms) in
    let o : Node = loop_node p ds ns (all_finished ns) in
    let same = λ (t : fulfilled n.phase ≡ true). pairs_same (λ m. m.own.finished) all_finished (λ i x y. Grew A B x y) 0 ms ns (λ m xs. refl) (λ i x y r e. r.later.done e) h (loop_fulfilled p ds ms (all_finished ms) t) in
    let follows = same_place p n o (loop_at p ds ms (all_finished ms)) (loop_at p ds ns (all_finished ns)) (λ t. ap (λ (x : List Made). loop_node p ds x (all_finished x)) (same t)) in
    let kept = rows_kept items_laid items_laid A B (λ i x y. Grew A B x y) 0 ms ns (λ j x y r. r.later.kept) h in
    record {
      later = record {
        done = λ t. ap (loop_made p ds) (same t);
        top = λ t. same_top (ap (loop_made p ds) (same t));
        kept = ((o, inl refl, follows), all_right A B (lines_of ms) (Stands o ∷ []) (lines_of ns) kept);
      };
      begun = begun_below (New A B) n o [] [] (lines_of ms) (lines_of ns) (rows_begun items_laid items_laid (New A B) (λ i x y. Grew A B x y) 0 ms ns (λ j x y r. r.begun) h);
    }

module _ (m : Manifest) (A B : Answers) (g : SaysMore A B) (flow : Scope) (run ran : Caller) (sound : Sound paths A run) (sounds : Sound paths B ran) (grows : Growing A B run ran) where
  -- fair for what a template makes, for a call
  abbrev FairIn : Place → Made → Type 0
  FairIn p b = Fair (New A B) (Inside p.sels) (lines_in b)

  abbrev FairAt : Place → Made → Type 0
  FairAt p b = Fair (New A B) (Under p.sels) (lines_in b)

  fair_in : (p : Place) (b : Made) → FairAt p b → FairIn p b
  fair_in p b f = fair_map (New A B) (Under p.sels) (Inside p.sels) (lines_in b) (inside_under p.sels) f

  -- a node alone, with what it asks for, stays
  leaf_still : (b : Made) → Proper A Nowhere (lines_in b) → Grew A B b b
  leaf_still b h = still A B b h

  body_grew : (p : Place) (s : Scope) (ds : List OutputDecl) (r : Option Retry) (b : Body) → BodyFits paths b → FairIn p (body_by A run p s ds r b) → Grew A B (body_by A run p s ds r b) (body_by B ran p s ds r b)
  body_grew p s ds None body.Pod k f = pod_grew A B g p ds
  body_grew p s ds (Some r) body.Pod k f = retry_grew A B g p ds r
  body_grew p s ds None (body.Steps gs) k f = steps_grew A B run ran sound grows p s ds gs k.0 f
  body_grew p s ds (Some r) (body.Steps gs) k f = steps_grew A B run ran sound grows p s ds gs k.0 f
  body_grew p s ds None (body.Dag d) k f = dag_grew A B g run ran sound sounds grows p s d ds f
  body_grew p s ds (Some r) (body.Dag d) k f = dag_grew A B g run ran sound sounds grows p s d ds f
  body_grew p s ds None (body.Suspend o) k f = suspend_grew A B g p s ds o
  body_grew p s ds (Some r) (body.Suspend o) k f = suspend_grew A B g p s ds o

  -- ---- memory and locks

  module _ (p : Place) (c : Memoize) (key : List ℕ) where
    -- the wanted save of what b made
    abbrev save : Made → Line
    save b = Asks (want.Save (path p.sels) c.cache key b.own.node.outputs)

    -- what Succeeded is finished, and so unchanged; before that the first asks for no save
    saving_later : (a b : Made) (t u : Bool) → is_succeeded a.own.node.phase ≡ t → is_succeeded b.own.node.phase ≡ u → Topped paths A p a → Later A B a b → Later A B (saving_if t p c key a) (saving_if u p c key b)
    saving_later a b true true e f top l = unchanged A B (ap (λ (x : Made). saving_if true p c key x) (l.done (top.over ∙ succeeded_fulfilled a.own.node.phase e)))
    saving_later a b true false e f top l = not_both (is_succeeded b.own.node.phase) (ap (λ (x : Made). is_succeeded x.own.node.phase) (l.done (top.over ∙ succeeded_fulfilled a.own.node.phase e)) ∙ e) f
    saving_later a b false false e f top l = l
    saving_later a b false true e f top l = record {
      done = λ d. not_both (is_succeeded a.own.node.phase) (sym (ap (λ (x : Made). is_succeeded x.own.node.phase) (l.done d)) ∙ f) e;
      top = λ d. not_both (is_succeeded a.own.node.phase) (sym (ap is_succeeded (l.top d).phase) ∙ f) e;
      kept = kept_in A B (lines_in a) (lines_in b) (behind_first (save b) (lines_in b)) (λ o. any_behind (IsNode o) (save b) (lines_in b)) (λ w. any_behind (IsWant w) (save b) (lines_in b)) l.kept;
    }

    saving_begun : (a b : Made) (t u : Bool) → Begun (New A B) (lines_in a) (lines_in b) → Begun (New A B) (lines_in (saving_if t p c key a)) (lines_in (saving_if u p c key b))
    saving_begun a b false false h = h
    saving_begun a b true false h = λ q n k. h q n (past_behind (Begins q) (save a) (lines_in a) (λ x. x) k)
    saving_begun a b false true h = λ q n k. any_behind (IsAt q) (save b) (lines_in b) (h q n k)
    saving_begun a b true true h = λ q n k. any_behind (IsAt q) (save b) (lines_in b) (h q n (past_behind (Begins q) (save a) (lines_in a) (λ x. x) k))

    saving_grew : (a b : Made) → Topped paths A p a → Grew A B a b → Grew A B (saving p c key a) (saving p c key b)
    saving_grew a b top l = record { later = saving_later a b (is_succeeded a.own.node.phase) (is_succeeded b.own.node.phase) refl refl top l.later; begun = saving_begun a b (is_succeeded a.own.node.phase) (is_succeeded b.own.node.phase) l.begun }

    fair_saving : (b : Made) (t : Bool) → FairIn p (saving_if t p c key b) → FairIn p b
    fair_saving b false f = f
    fair_saving b true f = λ q i n. past_behind (Begins q) (save b) (lines_in b) (λ x. x) (f q i n)

  none_begin : (q : Sels) → ⊥ ⊎ (⊥ ⊎ ⊥) → ⊥
  none_begin q (inl x) = x
  none_begin q (inr (inl x)) = x
  none_begin q (inr (inr x)) = x

  module _ (t : Template) (fits : TemplateFits paths t) where
    base_grew : (p : Place) (s : Scope) → FairIn p (body_made A run p s t) → Grew A B (body_made A run p s t) (body_made B ran p s t)
    base_grew p s f = body_grew p s t.outputs t.retry t.body fits.0 f

    remembered_grew : (p : Place) (s : Scope) (c : Memoize) (key : List ℕ) (a b : Option MemoAnswer) → ((o : MemoAnswer) → a ≡ Some o → b ≡ Some o) → B.memo p.sels ≡ b → FairIn p (remembered A run p s t c key a) → Grew A B (remembered A run p s t c key a) (remembered B ran p s t c key b)
    remembered_grew p s c key None None h e f = record { begun = λ q n k. absurd (none_begin q k); later = unchanged A B refl }
    remembered_grew p s c key None (Some o) h e f = record { begun = λ q n k. absurd (none_begin q k); later = open_later A B p (node p (kind_of t) Pending (note.Looking c.cache) no_outputs) (want.LookUp (path p.sels) c.cache key c.max_age ∷ []) _ (node_at p (kind_of t) Pending (note.Looking c.cache) no_outputs) refl ((λ k u. absurd (cc (u, e))), tt) (remembered_topped paths B m flow ran (all_fit m.templates) sounds t fits p s c key (Some o) e) }
    remembered_grew p s c key (Some None) b h e f =
        let x : Made = body_made A run p s t in
        subst (λ (z : Option MemoAnswer). Grew A B (remembered A run p s t c key (Some None)) (remembered B ran p s t c key z)) (sym (h None refl)) (saving_grew p c key x (body_made B ran p s t) (base_topped paths A m flow run (all_fit m.templates) sound t fits p s) (base_grew p s (fair_saving p c key x (is_succeeded x.own.node.phase) f)))
    remembered_grew p s c key (Some (Some o)) b h e f = subst (λ (x : Option MemoAnswer). Grew A B (remembered A run p s t c key (Some (Some o))) (remembered B ran p s t c key x)) (sym (h (Some o) refl)) (leaf_still _ ((λ _ r. absurd (cc r)), tt))

    keyed_grew : (p : Place) (s : Scope) (c : Memoize) (k : Found (List ℕ)) → FairIn p (keyed A run p s t c k) → Grew A B (keyed A run p s t c k) (keyed B ran p s t c k)
    keyed_grew p s c (Err fault) f = leaf_still _ ((λ _ r. absurd (cc r)), tt)
    keyed_grew p s c (Ok key) f = remembered_grew p s c key (A.memo p.sels) (B.memo p.sels) (g.memo p.sels) refl f

    pub memo_grew : (p : Place) (s : Scope) (c : Option Memoize) → FairIn p (memo_made A run p s t c) → Grew A B (memo_made A run p s t c) (memo_made B ran p s t c)
    memo_grew p s None f = base_grew p s f
    memo_grew p s (Some c) f = keyed_grew p s c (said s c.key) f

    locked_grew : (p : Place) (s : Scope) (l : LockId) (a b : Bool) → (a ≡ true → b ≡ true) → B.granted p.sels ≡ b → FairIn p (locked A run p s t l a) → Grew A B (locked A run p s t l a) (locked B ran p s t l b)
    locked_grew p s l true b h e f = subst (λ (x : Bool). Grew A B (locked A run p s t l true) (locked B ran p s t l x)) (sym (h refl)) (memo_grew p s t.memoize f)
    locked_grew p s l false false h e f = record { begun = λ q n k. absurd (none_begin q k); later = unchanged A B refl }
    locked_grew p s l false true h e f = record { begun = λ q n k. absurd (none_begin q k); later = open_later A B p (node p (kind_of t) Pending (note.Waiting l) no_outputs) (want.Lock (path p.sels) l ∷ []) _ (node_at p (kind_of t) Pending (note.Waiting l) no_outputs) refl ((λ k u. not_both (B.granted p.sels) e u), tt) (locked_topped paths B m flow ran (all_fit m.templates) sounds t fits p s l true e) }

    template_by_grew : (p : Place) (s : Scope) (l : Option LockId) → FairIn p (template_by A run p s t l) → Grew A B (template_by A run p s t l) (template_by B ran p s t l)
    template_by_grew p s None f = memo_grew p s t.memoize f
    template_by_grew p s (Some l) f = locked_grew p s l (A.granted p.sels) (B.granted p.sels) (g.granted p.sels) refl f

    template_grew : (p : Place) (s : Scope) → FairIn p (template_made A run p s t) → Grew A B (template_made A run p s t) (template_made B ran p s t)
    template_grew p s f = template_by_grew p s t.lock f

  -- ---- a call of a template, whatever follows it

  module _ (p : Place) (follow later : Made → Made) (after : (a b : Made) → Topped paths A p a → (FairIn p a → Grew A B a b) → FairAt p (follow a) → Grew A B (follow a) (later b)) where
    entry_grew : (t : Template) (k : Found Scope) → TemplateFits paths t → FairAt p (entry A run p t follow k) → Grew A B (entry A run p t follow k) (entry B ran p t later k)
    entry_grew t (Err fault) fits f = leaf_still _ ((λ _ r. absurd (cc r)), tt)
    entry_grew t (Ok inner) fits f = after (template_made A run p inner t) (template_made B ran p inner t) (template_topped paths A m flow run (all_fit m.templates) sound t fits p inner) (template_grew t fits p inner) f

    call_by_grew : (s : Scope) (given : List Argument) (o : Option Template) → FoundFits paths o → FairAt p (call_by A flow run p s given follow o) → Grew A B (call_by A flow run p s given follow o) (call_by B flow ran p s given later o)
    call_by_grew s given None fits f = leaf_still _ ((λ _ r. absurd (cc r)), tt)
    call_by_grew s given (Some t) fits f = entry_grew t (template_scope flow s given t.inputs) fits f

    call_grew_by : (s : Scope) (n : List ℕ) (given : List Argument) → FairAt p (call_of_template m A flow run p s n given follow) → Grew A B (call_of_template m A flow run p s n given follow) (call_of_template m B flow ran p s n given later)
    call_grew_by s n given f = call_by_grew s given (template_named m n) (named_fits paths m n (all_fit m.templates)) f

  pub plain_grew : (p : Place) (s : Scope) (n : List ℕ) (given : List Argument) → FairAt p (call_of_template m A flow run p s n given (λ x. x)) → Grew A B (call_of_template m A flow run p s n given (λ x. x)) (call_of_template m B flow ran p s n given (λ x. x))
  plain_grew p s n given f = call_grew_by p (λ x. x) (λ x. x) (λ a b top l k. l (fair_in p a k)) s n given f

  -- ---- hooks

  module _ (label : List ℕ) (p : Place) (s : Scope) (h : Hook) (a b : Made) (top : Topped paths A p a) (later : FairIn p a → Grew A B a b) where
    abbrev hook : Made
    hook = hook_made m A flow run label p s h a

    hook_grew : SameTop a b → FairAt (hook_place p) hook → Grew A B hook (hook_made m B flow ran label p s h b)
    hook_grew e f = subst (λ (x : Scope). Grew A B hook (call_of_template m B flow ran (hook_place p) (x ++ s) h.template h.arguments (λ y. y))) (sym (same_tags label a b e)) (plain_grew (hook_place p) (tags_of label a ++ s) h.template h.arguments f)

    hooked_if_grew : (t u : Bool) → hook_runs a.own.node.phase ≡ t → hook_runs b.own.node.phase ≡ u → FairAt p (hooked_if m A flow run t label p s h a) → Grew A B (hooked_if m A flow run t label p s h a) (hooked_if m B flow ran u label p s h b)
    hooked_if_grew true u e f fair =
        let r : Made = hook_made m B flow ran label p s h b in
        let both = subst (Fair (New A B) (Under p.sels)) (lines_hooked a hook) fair in
        let proper = topped_called paths A (hook_place p) hook (hook_topped paths A m flow run (all_fit m.templates) sound label p s h a) in
        let l : Grew A B a b = later (fair_left (New A B) (Under p.sels) (Inside p.sels) (Under (hook_place p).sels) A (lines_in a) (lines_in hook) (inside_under p.sels) (exit_apart p.sels) proper.proper both) in
        let below : FairAt (hook_place p) hook = fair_right (New A B) (Under p.sels) (Under (hook_place p).sels) (Inside p.sels) A (lines_in a) (lines_in hook) (child_under p.sels Exit) (λ q x y. exit_apart p.sels q y x) top.proper both in
        let over : a.own.finished ≡ true = top.over ∙ runs_fulfilled a.own.node.phase e in
        let same : u ≡ true = sym f ∙ ap (λ (x : Made). hook_runs x.own.node.phase) (l.later.done over) ∙ e in
        let hooks : Grew A B hook r = hook_grew (same_top (l.later.done over)) below in
        subst (λ (x : Bool). Grew A B (then_hook a hook) (hooked_if m B flow ran x label p s h b)) (sym same) (record { later = then_hook_later A B a b hook r over l.later hooks.later; begun = hooked_begun (New A B) (lines_in (then_hook a hook)) (lines_in (then_hook b r)) (lines_in a) (lines_in b) (lines_in hook) (lines_in r) (lines_hooked a hook) (lines_hooked b r) (begun_beside (New A B) (lines_in a) (lines_in b) (lines_in hook) (lines_in r) l.begun hooks.begun) })
    hooked_if_grew false false e f fair = later (fair_in p a fair)
    hooked_if_grew false true e f fair =
        let l : Grew A B a b = later (fair_in p a fair) in
        let r : Made = hook_made m B flow ran label p s h b in
        let both : lines_in b ++ lines_in r ≡ lines_in (then_hook b r) = sym (lines_hooked b r) in
        record {
          later = record { done = λ d. not_both (hook_runs a.own.node.phase) (sym (ap (λ (x : Made). hook_runs x.own.node.phase) (l.later.done d)) ∙ f) e; top = λ d. not_both (hook_runs a.own.node.phase) (sym (ap hook_runs (l.later.top d).phase) ∙ f) e; kept = subst (AllKept A B (lines_in a)) both (all_left A B (lines_in a) (lines_in b) (lines_in r) l.later.kept) };
          begun = subst (Begun (New A B) (lines_in a)) both (begun_left (New A B) (lines_in a) (lines_in b) (lines_in r) l.begun);
        }

  hooked_grew : (label : List ℕ) (p : Place) (s : Scope) (h : Option Hook) (a b : Made) → Topped paths A p a → (FairIn p a → Grew A B a b) → FairAt p (hooked m A flow run label p s h a) → Grew A B (hooked m A flow run label p s h a) (hooked m B flow ran label p s h b)
  hooked_grew label p s None a b top l f = l (fair_in p a f)
  hooked_grew label p s (Some h) a b top l f = hooked_if_grew label p s h a b top l _ _ refl refl f

  -- ---- a call as a whole

  unless_grew : (p : Place) (o : Option Made) (a b : Made) → Stops paths A m flow run (all_fit m.templates) sound p o → (FairAt p a → Grew A B a b) → FairAt p (unless_stopped o a) → Grew A B (unless_stopped o a) (unless_stopped o b)
  unless_grew p None a b h l f = l f
  unless_grew p (Some stop) a b h l f = leaf_still stop h.idle

  pub one_grew : (prefix : List ℕ) (p : Place) (s : Scope) (c : Call) → FairAt p (one_made m A flow run prefix p s c) → Grew A B (one_made m A flow run prefix p s c) (one_made m B flow ran prefix p s c)
  one_grew prefix p s c f = unless_grew p (stopped_at_item p (kind_named m c.template) s c.when) _ _ (at_item_stops paths A m flow run (all_fit m.templates) sound p (kind_named m c.template) s c.when) (call_grew_by p (hooked m A flow run (prefix ++ c.name) p s c.exit) (hooked m B flow ran (prefix ++ c.name) p s c.exit) (hooked_grew (prefix ++ c.name) p s c.exit) s c.template c.arguments) f

  looped_grew : (prefix : List ℕ) (p : Place) (s : Scope) (c : Call) (k : Found (List Data)) → FairAt p (looped m A flow run prefix p s c k) → Grew A B (looped m A flow run prefix p s c k) (looped m B flow ran prefix p s c k)
  looped_grew prefix p s c (Err fault) f = leaf_still _ ((λ _ r. absurd (cc r)), tt)
  looped_grew prefix p s c (Ok []) f = leaf_still _ ((λ _ r. absurd (cc r)), tt)
  looped_grew prefix p s c (Ok (d ∷ ds)) f =
      let xs : List Made = items_made m A flow run prefix p s c (d ∷ ds) in
      let os : List OutputDecl = declared_by (template_named m c.template) in
      let below = fair_below (New A B) (From item_at p.sels 0) (loop_node p os xs (all_finished xs)) [] (lines_of xs) (fair_map (New A B) (Under p.sels) (From item_at p.sels 0) (lines_in (loop_made p os xs)) (from_under item_at item_ways p.sels 0) f) in
      let each = rows_fair item_at item_ways p.sels items_laid A (New A B) 0 xs (items_proper paths A m flow run (all_fit m.templates) sound prefix p s c 0 (d ∷ ds)) below in
      loop_grew A B p os xs (items_made m B flow ran prefix p s c (d ∷ ds)) (pairs_from (item_made m A flow run prefix p s c) (item_made m B flow ran prefix p s c) (λ j y. Fair (New A B) (AtChild p.sels (item_at j)) (lines_in y)) (λ j y z. Grew A B y z) 0 (d ∷ ds) (λ j x k. one_grew prefix (item_place p j x) (item_tags x ++ s) c (fair_under A B run ran sound grows p.sels (item_at j) (lines_in (item_made m A flow run prefix p s c j x)) k)) each)

  each_grew : (prefix : List ℕ) (p : Place) (s : Scope) (c : Call) (l : Option Loop) → FairAt p (each_made m A flow run prefix p s c l) → Grew A B (each_made m A flow run prefix p s c l) (each_made m B flow ran prefix p s c l)
  each_grew prefix p s c None f = one_grew prefix p s c f
  each_grew prefix p s c (Some l) f = looped_grew prefix p s c (items s l) f

  pub call_grew : Growing A B (call_made m A flow run) (call_made m B flow ran)
  call_grew prefix p s c f = unless_grew p (stopped_before_loop p (kind_named m c.template) s c.when) _ _ (before_loop_stops paths A m flow run (all_fit m.templates) sound p (kind_named m c.template) s c.when) (each_grew prefix p s c c.each) f

-- at every depth
pub calls_grew : (m : Manifest) (A B : Answers) → SaysMore A B → (flow : Scope) (n : ℕ) → Growing A B (calls m A flow n) (calls m B flow n)
calls_grew m A B g flow zero = λ prefix p s c f. still A B _ ((λ _ r. absurd (cc r)), tt)
calls_grew m A B g flow (suc n) = call_grew m A B g flow (calls m A flow n) (calls m B flow n) (calls_sound paths A m (all_fit m.templates) flow n) (calls_sound paths B m (all_fit m.templates) flow n) (calls_grew m A B g flow n)
