-- What a call makes is sound, and so is a whole tree.
use Rattle.std.proofs.Common.{◌≡◌, refl, sym, ap, subst, ◌≤◌, ◌⊎◌, arith, length}
use Rattle.std.proofs.Math.Logic.{inl, inr}
use Rattle.std.specs.Prelude.{ℕ, zero, suc, List, [], ◌∷◌, ◌++◌, Bool, true, false, not, cond, Option, Some, None, Ok, Err, bytes_eq}
use Rattle.std.specs.List.{find}
use Rattle.serde_json.specs.Data.{Data}
use Rattle.base_types.specs.Limits.{most_items}
use Rattle.tree_types.specs.declared.path.Sel.{Sel}
use Rattle.tree_types.specs.declared.path.Path.{Path}
use Rattle.tree_types.specs.declared.path.Sel.TheVariants.{Main, Exit, Item}
use Rattle.tree_types.specs.declared.path.LockId.{LockId}
use Rattle.tree_types.specs.declared.phase.Phase.TheVariants.{Pending, Succeeded, Skipped, Error}
use Rattle.tree_types.specs.declared.node.Kind.{Kind}
use Rattle.tree_types.specs.declared.node.Kind.TheVariants as kind
use Rattle.tree_types.specs.declared.node.Note.TheVariants as note
use Rattle.tree_types.specs.declared.node.Node.{Node}
use Rattle.tree_types.specs.declared.want.Want.TheVariants as want
use Rattle.tree_types.specs.Phases.{is_succeeded}
use Rattle.node_names.specs.declared.seg.Seg.TheVariants as seg
use Rattle.tag_text.specs.declared.part.Part.{Part}
use Rattle.wf_manifest.specs.declared.calls.Argument.{Argument}
use Rattle.wf_manifest.specs.declared.calls.Loop.{Loop}
use Rattle.wf_manifest.specs.declared.calls.Hook.{Hook}
use Rattle.wf_manifest.specs.declared.calls.Call.{Call}
use Rattle.wf_manifest.specs.declared.templates.OutputDecl.{OutputDecl}
use Rattle.wf_manifest.specs.declared.templates.Memoize.{Memoize}
use Rattle.wf_manifest.specs.declared.templates.Retry.{Retry}
use Rattle.wf_manifest.specs.declared.templates.Body.{Body}
use Rattle.wf_manifest.specs.declared.templates.Body.TheVariants as body
use Rattle.wf_manifest.specs.declared.templates.Template.{Template}
use Rattle.wf_manifest.specs.declared.manifest.Manifest.{Manifest}
use Rattle.scopes.specs.Substitution.{Found, Scope, said, has_item_tag}
use Rattle.fanout.specs.Items.{items}
use Rattle.fanout.specs.ItemTexts.{item_tags, name_text}
use Rattle.meaning.specs.declared.lines.Place.{Place}
use Rattle.meaning.specs.declared.lines.Line.{Line}
use Rattle.meaning.specs.declared.lines.Line.TheVariants.{Stands}
use Rattle.meaning.specs.Answers.{path, MemoAnswer, Answers}
use Rattle.meaning.specs.Lines.{Made, lines_in, numbered, no_outputs, node, alone, lines_of, all_finished, tags_of}
use Rattle.meaning.specs.Steps.{Caller}
use Rattle.meaning.specs.Calls.{template_named, kind_of, kind_named, template_scope, truth_said, stopped_by, stopped_if, stopped_before_loop, stopped_at_item, unless_stopped, hook_runs, hook_place, loop_node, loop_made, item_place, body_by, body_made, saving_if, remembered, keyed, memo_made, locked, template_by, template_made, entry, call_by, call_of_template, hook_made, hooked_if, hooked, one_made, item_made, items_made, declared_by, looped, each_made, call_made, calls, then_hook}
use Rattle.meaning.specs.Trees.{globals_of, root, exit_root, top_call, main_made, status_tags, exit_made, exit_if, exit_of, exit_lines, running_lines, lines_locked, lines_started, lines_by, lines}
use Rattle.growth.proofs.Numbered.{All, all_numbered}
use Rattle.growth.proofs.Lines.{any_left, IsAt, Unresumed, Proper, proper_append, proper_map, Nowhere, Anywhere, Under, Inside, AtChild, From, child_under, Ways, from_under, rows_proper, Has}
use Rattle.growth.proofs.Keeping.{At, node_at}
use Rattle.growth.proofs.Geometry.{Descent, Geometry, Apart, Placed, placed_map, placed_append, placed_none, Inner, Top, outer, top_below, hook_below, top_apart_hook, placed_made, Kin, Kids, kids_inner, rows_placed, kin_below}
use Rattle.growth.proofs.FewItems.{items_few}
use Rattle.growth.proofs.SoundBodies.{items_laid, GroupsFit, AttemptsFit, DagFits, Topped, Called, topped_called, leaf_topped, alone_topped, pod_topped, retry_topped, suspend_topped, Sound, at_child, steps_topped, dag_topped}
use Rattle.meaning.proofs.Flattening.{lines_hooked}

abbrev pub item_at : ℕ → Sel
item_at i = Item i

pub item_ways : Ways item_at
item_ways = record { differ = λ i j e. cc e; inner = λ i. refl }

abbrev pub item_step : ℕ → Data → Descent
item_step i d = (Item i, seg.Item i (name_text d))

-- ---- which manifests' names fit

module _ (G : Geometry) where
  abbrev pub BodyFits : Body → Type 0
  BodyFits body.Pod = Unit {0}
  BodyFits (body.Steps gs) = GroupsFit G gs
  BodyFits (body.Dag d) = DagFits G d
  BodyFits (body.Suspend o) = Unit {0}

  abbrev pub TemplateFits : Template → Type 0
  TemplateFits t = BodyFits t.body × AttemptsFit G t.retry

  abbrev pub TemplatesFit : List Template → Type 0
  TemplatesFit [] = Unit {0}
  TemplatesFit (t ∷ ts) = TemplateFits t × TemplatesFit ts

  abbrev pub FoundFits : Option Template → Type 0
  FoundFits None = Unit {0}
  FoundFits (Some t) = TemplateFits t

  find_fits : (p : Template → Bool) (ts : List Template) → TemplatesFit ts → FoundFits (find p ts)
  find_fits p [] h = tt
  find_fits p (t ∷ ts) h = go (p t) (find_fits p ts h.1)
    where
      go : (b : Bool) → FoundFits (find p ts) → FoundFits (cond b (Some t) (find p ts))
      go true r = h.0
      go false r = r

  pub named_fits : (m : Manifest) (n : List ℕ) → TemplatesFit m.templates → FoundFits (template_named m n)
  named_fits m n h = find_fits (λ t. bytes_eq t.name n) m.templates h

module _ (G : Geometry) (A : Answers) where
  items_kin : (ds : List Data) → length ds ≤ most_items → Kin G item_step 0 ds
  items_kin ds few = kin_below G item_step most_items (λ j d l. G.item j d l) (λ j k c d l. G.items j k c d l) 0 ds (omega arith)

  module _ (m : Manifest) (flow : Scope) (run : Caller) (fit : TemplatesFit G m.templates) (sound : Sound G A run) where
    body_topped : (p : Place) (s : Scope) (ds : List OutputDecl) (r : Option Retry) (b : Body) → BodyFits G b → AttemptsFit G r → Topped G A p (body_by A run p s ds r b)
    body_topped p s ds None body.Pod k a = pod_topped G A p ds (A.outcome p) refl
    body_topped p s ds (Some r) body.Pod k a = retry_topped G A p ds r a
    body_topped p s ds None (body.Steps gs) k a = steps_topped G A run sound p s ds gs k.0 k.1
    body_topped p s ds (Some r) (body.Steps gs) k a = steps_topped G A run sound p s ds gs k.0 k.1
    body_topped p s ds None (body.Dag d) k a = dag_topped G A run sound p s d ds k
    body_topped p s ds (Some r) (body.Dag d) k a = dag_topped G A run sound p s d ds k
    body_topped p s ds None (body.Suspend o) k a = suspend_topped G A p s ds o
    body_topped p s ds (Some r) (body.Suspend o) k a = suspend_topped G A p s ds o

    -- ---- memory and locks

    pub saving_topped : (p : Place) (c : Memoize) (key : List ℕ) (b : Made) (t : Bool) → Topped G A p b → Topped G A p (saving_if t p c key b)
    saving_topped p c key b false h = h
    saving_topped p c key b true h = record {
      at = h.at;
      over = h.over;
      proper = (h.proper.0, (tt, h.proper.1));
      placed = record { lies = (h.placed.lies.0, (tt, h.placed.lies.1)); apart = ((λ k. alone h.placed.apart.0 k), (tt, h.placed.apart.1)) };
    }
      where
        alone : {X : Type 0} → (X → ⊥) → ⊥ ⊎ X → ⊥
        alone f (inl y) = y
        alone f (inr y) = f y

    module _ (t : Template) (fits : TemplateFits G t) where
      pub base_topped : (p : Place) (s : Scope) → Topped G A p (body_made A run p s t)
      base_topped p s = body_topped p s t.outputs t.retry t.body fits.0 fits.1

      pub remembered_topped : (p : Place) (s : Scope) (c : Memoize) (key : List ℕ) (a : Option MemoAnswer) → A.memo p.sels ≡ a → Topped G A p (remembered A run p s t c key a)
      remembered_topped p s c key None e = leaf_topped G A p (node p (kind_of t) Pending (note.Looking c.cache) no_outputs) (want.LookUp (path p.sels) c.cache key c.max_age ∷ []) (node_at p (kind_of t) Pending (note.Looking c.cache) no_outputs) (λ _ r. absurd (cc r)) (e, tt)
      remembered_topped p s c key (Some None) e = saving_topped p c key (body_made A run p s t) (is_succeeded (body_made A run p s t).own.node.phase) (base_topped p s)
      remembered_topped p s c key (Some (Some o)) e = leaf_topped G A p (node p (kind_of t) Succeeded (note.Hit c.cache key) o) [] (node_at p (kind_of t) Succeeded (note.Hit c.cache key) o) (λ _ r. absurd (cc r)) tt

      keyed_topped : (p : Place) (s : Scope) (c : Memoize) (f : Found (List ℕ)) → Topped G A p (keyed A run p s t c f)
      keyed_topped p s c (Err fault) = alone_topped G A p (kind_of t) Error fault (λ r. absurd (cc r))
      keyed_topped p s c (Ok key) = remembered_topped p s c key (A.memo p.sels) refl

      pub memo_topped : (p : Place) (s : Scope) (c : Option Memoize) → Topped G A p (memo_made A run p s t c)
      memo_topped p s None = base_topped p s
      memo_topped p s (Some c) = keyed_topped p s c (said s c.key)

      pub locked_topped : (p : Place) (s : Scope) (l : LockId) (b : Bool) → A.granted p.sels ≡ b → Topped G A p (locked A run p s t l b)
      locked_topped p s l true e = memo_topped p s t.memoize
      locked_topped p s l false e = leaf_topped G A p (node p (kind_of t) Pending (note.Waiting l) no_outputs) (want.Lock (path p.sels) l ∷ []) (node_at p (kind_of t) Pending (note.Waiting l) no_outputs) (λ _ r. absurd (cc r)) (e, tt)

      template_by_topped : (p : Place) (s : Scope) (l : Option LockId) → Topped G A p (template_by A run p s t l)
      template_by_topped p s None = memo_topped p s t.memoize
      template_by_topped p s (Some l) = locked_topped p s l (A.granted p.sels) refl

      pub template_topped : (p : Place) (s : Scope) → Topped G A p (template_made A run p s t)
      template_topped p s = template_by_topped p s t.lock

    -- ---- a call of a template, whatever follows it

    module _ (p : Place) (follow : Made → Made) (R : Made → Type 0) (after : (b : Made) → Topped G A p b → R (follow b)) (instead : (b : Made) → Topped G A p b → R b) where
      entry_is : (t : Template) (f : Found Scope) → TemplateFits G t → R (entry A run p t follow f)
      entry_is t (Err fault) k = instead (alone p (kind_of t) Error fault) (alone_topped G A p (kind_of t) Error fault (λ r. absurd (cc r)))
      entry_is t (Ok inner) k = after (template_made A run p inner t) (template_topped t k p inner)

      pub call_by_is : (s : Scope) (given : List Argument) (o : Option Template) → FoundFits G o → R (call_by A flow run p s given follow o)
      call_by_is s given None k = instead (alone p kind.Pod Error note.None) (alone_topped G A p kind.Pod Error note.None (λ r. absurd (cc r)))
      call_by_is s given (Some t) k = entry_is t (template_scope flow s given t.inputs) k

    pub plain_topped : (p : Place) (s : Scope) (n : List ℕ) (given : List Argument) → Topped G A p (call_of_template m A flow run p s n given (λ x. x))
    plain_topped p s n given = call_by_is p (λ x. x) (Topped G A p) (λ b h. h) (λ b h. h) s given (template_named m n) (named_fits G m n fit)

    -- ---- hooks

    pub hook_topped : (label : List ℕ) (p : Place) (s : Scope) (h : Hook) (b : Made) → Topped G A (hook_place p) (hook_made m A flow run label p s h b)
    hook_topped label p s h b = plain_topped (hook_place p) (tags_of label b ++ s) h.template h.arguments

    hooked_if_called : (label : List ℕ) (p : Place) (s : Scope) (h : Hook) (b : Made) (t : Bool) → Topped G A p b → Called G A p (hooked_if m A flow run t label p s h b)
    hooked_if_called label p s h b false top = topped_called G A p b top
    hooked_if_called label p s h b true top =
        let c = topped_called G A p b top in
        let k : Made = hook_made m A flow run label p s h b in
        let d = topped_called G A (hook_place p) k (hook_topped label p s h b) in
        let both : lines_in b ++ lines_in k ≡ lines_in (then_hook b k) = sym (lines_hooked b k) in
        record {
          has = subst (Has p.sels) both (any_left (IsAt p.sels) (lines_in b) (lines_in k) c.has);
          proper = subst (Proper A (Under p.sels)) both (proper_append A (Under p.sels) (lines_in b) (lines_in k) c.proper (proper_map A (Under (p.sels ++ Exit ∷ [])) (Under p.sels) (lines_in k) (child_under p.sels Exit) d.proper));
          placed = subst (Placed G (G.Below p)) both (placed_append G (Top G p) (G.Below (hook_place p)) (G.Below p) (lines_in b) (lines_in k) (top_below G p) (hook_below G p) (top_apart_hook G p) top.placed d.placed);
        }

    hooked_called : (label : List ℕ) (p : Place) (s : Scope) (h : Option Hook) (b : Made) → Topped G A p b → Called G A p (hooked m A flow run label p s h b)
    hooked_called label p s None b top = topped_called G A p b top
    hooked_called label p s (Some h) b top = hooked_if_called label p s h b (hook_runs b.own.node.phase) top

    -- ---- what a `when` puts in a call's place

    pub record Stop (p : Place) (b : Made) : Type 0 where
      pub called : Called G A p b
      pub idle : Proper A Nowhere (lines_in b)

    abbrev pub Stops : Place → Option Made → Type 0
    Stops p None = Unit {0}
    Stops p (Some b) = Stop p b

    stopped_by_stops : (p : Place) (k : Kind) (f : Found Bool) → Stops p (stopped_by p k f)
    stopped_by_stops p k (Err fault) = record { called = topped_called G A p (alone p k Error fault) (alone_topped G A p k Error fault (λ r. absurd (cc r))); idle = ((λ _ r. absurd (cc r)), tt) }
    stopped_by_stops p k (Ok false) = record { called = topped_called G A p (alone p kind.Skipped Skipped note.WhenFalse) (alone_topped G A p kind.Skipped Skipped note.WhenFalse (λ r. absurd (cc r))); idle = ((λ _ r. absurd (cc r)), tt) }
    stopped_by_stops p k (Ok true) = tt

    stopped_if_stops : (p : Place) (k : Kind) (s : Scope) (t : List Part) (b : Bool) → Stops p (stopped_if b p k s t)
    stopped_if_stops p k s t true = stopped_by_stops p k (truth_said s t)
    stopped_if_stops p k s t false = tt

    pub before_loop_stops : (p : Place) (k : Kind) (s : Scope) (w : Option (List Part)) → Stops p (stopped_before_loop p k s w)
    before_loop_stops p k s None = tt
    before_loop_stops p k s (Some t) = stopped_if_stops p k s t (not (has_item_tag t))

    pub at_item_stops : (p : Place) (k : Kind) (s : Scope) (w : Option (List Part)) → Stops p (stopped_at_item p k s w)
    at_item_stops p k s None = tt
    at_item_stops p k s (Some t) = stopped_if_stops p k s t (has_item_tag t)

    unless_called : (p : Place) (o : Option Made) (b : Made) → Stops p o → Called G A p b → Called G A p (unless_stopped o b)
    unless_called p None b h k = k
    unless_called p (Some x) b h k = h.called

    -- ---- a call as a whole

    pub one_called : (prefix : List ℕ) (p : Place) (s : Scope) (c : Call) → Called G A p (one_made m A flow run prefix p s c)
    one_called prefix p s c = unless_called p (stopped_at_item p (kind_named m c.template) s c.when) _ (at_item_stops p (kind_named m c.template) s c.when) (call_by_is p (hooked m A flow run (prefix ++ c.name) p s c.exit) (Called G A p) (hooked_called (prefix ++ c.name) p s c.exit) (topped_called G A p) s c.arguments (template_named m c.template) (named_fits G m c.template fit))

    pub items_proper : (prefix : List ℕ) (p : Place) (s : Scope) (c : Call) (i : ℕ) (ds : List Data) → All (λ j y. Proper A (AtChild p.sels (item_at j)) (lines_in y)) i (numbered (item_made m A flow run prefix p s c) i ds)
    items_proper prefix p s c i ds = all_numbered (item_made m A flow run prefix p s c) (λ j y. Proper A (AtChild p.sels (item_at j)) (lines_in y)) i ds (λ j d. at_child G A p.sels (item_at j) (lines_in (item_made m A flow run prefix p s c j d)) (one_called prefix (item_place p j d) (item_tags d ++ s) c).proper)

    pub loop_at : (p : Place) (ds : List OutputDecl) (ms : List Made) (b : Bool) → At p (loop_node p ds ms b)
    loop_at p ds ms true = record { path = refl; name = refl; depth = refl }
    loop_at p ds ms false = record { path = refl; name = refl; depth = refl }

    loop_unresumed : (p : Place) (ds : List OutputDecl) (ms : List Made) (b : Bool) → Unresumed A (loop_node p ds ms b)
    loop_unresumed p ds ms true e _ = absurd (cc e)
    loop_unresumed p ds ms false e _ = absurd (cc e)

    loop_called : (prefix : List ℕ) (p : Place) (s : Scope) (c : Call) (os : List OutputDecl) (ds : List Data) → length ds ≤ most_items → Called G A p (loop_made p os (items_made m A flow run prefix p s c ds))
    loop_called prefix p s c os ds few =
        let ms : List Made = items_made m A flow run prefix p s c ds in
        let n : Node = loop_node p os ms (all_finished ms) in
        let inner : Placed G (Inner G p) (lines_of ms) = placed_map G (Kids G item_step p 0 ds) (Inner G p) (lines_of ms) (kids_inner G item_step p 0 ds (λ j x. refl) (items_kin ds few)) (rows_placed G item_step items_laid (item_made m A flow run prefix p s c) p 0 ds (items_kin ds few) (λ j d. (one_called prefix (item_place p j d) (item_tags d ++ s) c).placed)) in
        record {
          has = inl (ap (λ (x : Path). x.sels) (loop_at p os ms (all_finished ms)).path);
          proper = (loop_unresumed p os ms (all_finished ms), proper_map A (From item_at p.sels 0) (Under p.sels) (lines_of ms) (from_under item_at item_ways p.sels 0) (rows_proper item_at item_ways p.sels items_laid A 0 ms (items_proper prefix p s c 0 ds)));
          placed = outer G p (Stands n ∷ lines_of ms) (placed_made G p n [] (lines_of ms) (loop_at p os ms (all_finished ms)) inner);
        }

    looped_called : (prefix : List ℕ) (p : Place) (s : Scope) (c : Call) (f : Found (List Data)) → ((ds : List Data) → f ≡ Ok ds → length ds ≤ most_items) → Called G A p (looped m A flow run prefix p s c f)
    looped_called prefix p s c (Err fault) few = topped_called G A p (alone p kind.TaskGroup Error fault) (alone_topped G A p kind.TaskGroup Error fault (λ r. absurd (cc r)))
    looped_called prefix p s c (Ok []) few = topped_called G A p (alone p kind.Skipped Skipped note.NoItems) (alone_topped G A p kind.Skipped Skipped note.NoItems (λ r. absurd (cc r)))
    looped_called prefix p s c (Ok (d ∷ ds)) few = loop_called prefix p s c (declared_by (template_named m c.template)) (d ∷ ds) (few (d ∷ ds) refl)

    each_called : (prefix : List ℕ) (p : Place) (s : Scope) (c : Call) (l : Option Loop) → Called G A p (each_made m A flow run prefix p s c l)
    each_called prefix p s c None = one_called prefix p s c
    each_called prefix p s c (Some l) = looped_called prefix p s c (items s l) (items_few s l)

    pub call_called : Sound G A (call_made m A flow run)
    call_called prefix p s c = unless_called p (stopped_before_loop p (kind_named m c.template) s c.when) _ (before_loop_stops p (kind_named m c.template) s c.when) (each_called prefix p s c c.each)

  module _ (m : Manifest) (fit : TemplatesFit G m.templates) where
    -- at every depth
    pub calls_sound : (flow : Scope) (n : ℕ) → Sound G A (calls m A flow n)
    calls_sound flow zero = λ prefix p s c. topped_called G A p (alone p (kind_named m c.template) Error note.TooDeep) (alone_topped G A p (kind_named m c.template) Error note.TooDeep (λ r. absurd (cc r)))
    calls_sound flow (suc n) = call_called m flow (calls m A flow n) fit (calls_sound flow n)

    -- ---- the tree

    pub top_topped : (flow : Scope) (p : Place) (n : List ℕ) → Topped G A p (top_call m A flow p n)
    top_topped flow p n = plain_topped m flow (calls m A flow 31) fit (calls_sound flow 31) p flow n m.arguments

    pub main_topped : Topped G A (root m) (main_made m A)
    main_topped = top_topped (globals_of m) (root m) m.entrypoint

    -- the lines of the exit handler, if it runs
    pub record Exiting (ls : List Line) : Type 0 where
      pub proper : Proper A (Under (Exit ∷ [])) ls
      pub placed : Placed G (G.Below (exit_root m)) ls

    exit_if_sound : (b : Made) (t : Bool) (o : Option (List ℕ)) → Exiting (exit_lines (exit_if t m A b o))
    exit_if_sound b true None = record { proper = tt; placed = placed_none G (G.Below (exit_root m)) }
    exit_if_sound b false None = record { proper = tt; placed = placed_none G (G.Below (exit_root m)) }
    exit_if_sound b false (Some n) = record { proper = tt; placed = placed_none G (G.Below (exit_root m)) }
    exit_if_sound b true (Some n) = let c = topped_called G A (exit_root m) (exit_made m A b n) (top_topped (status_tags m b) (exit_root m) n) in record { proper = c.proper; placed = c.placed }

    pub exit_sound : (b : Made) → Exiting (exit_lines (exit_of m A b))
    exit_sound b = exit_if_sound b b.own.finished m.on_exit

    -- lines of a whole tree
    pub record Whole (ls : List Line) : Type 0 where
      pub proper : Proper A Anywhere ls
      pub apart : Apart G ls

    ends_apart : (n k : Node) → Top G (root m) n → G.Below (exit_root m) k → G.Same n k → ⊥
    ends_apart n k (inl a) h s = G.roots m n k a h s
    ends_apart n k (inr i) h s = G.under_roots m i.0 n k i.1 i.2 i.3 h s

    running_whole : Whole (running_lines m A (main_made m A))
    running_whole =
        let b = main_made m A in
        let ks = exit_lines (exit_of m A b) in
        let e = exit_sound b in
        record {
          proper = proper_append A Anywhere (lines_in b) ks (proper_map A (Inside (Main ∷ [])) Anywhere (lines_in b) (λ p h. tt) main_topped.proper) (proper_map A (Under (Exit ∷ [])) Anywhere ks (λ p h. tt) e.proper);
          apart = (placed_append G (Top G (root m)) (G.Below (exit_root m)) (λ n. Unit {0}) (lines_in b) ks (λ n h. tt) (λ n h. tt) ends_apart main_topped.placed e.placed).apart;
        }

    locked_whole : (l : LockId) (t : Bool) → A.granted [] ≡ t → Whole (lines_locked m A l t)
    locked_whole l false e = record { proper = ((λ _ r. absurd (cc r)), (e, tt)); apart = ((λ h. one h), (tt, tt)) }
      where
        one : ⊥ ⊎ ⊥ → ⊥
        one (inl x) = x
        one (inr x) = x
    locked_whole l true e = running_whole

    started_whole : (o : Option LockId) → Whole (lines_started m A o)
    started_whole None = running_whole
    started_whole (Some l) = locked_whole l (A.granted []) refl

    by_whole : (t : Bool) → Whole (lines_by m A t)
    by_whole false = record { proper = ((λ _ r. absurd (cc r)), tt); apart = ((λ h. h), tt) }
    by_whole true = started_whole m.lock

    -- nothing that a tree asks for is answered yet, and its nodes are told apart
    pub lines_whole : Whole (lines m A)
    lines_whole = by_whole A.started
