-- A tour of a call, of every depth, and of a whole tree.
use Rattle.std.proofs.Common.{◌≡◌, refl, sym, ◌∙◌, ap, subst}
use Rattle.std.proofs.Math.Logic.{inl, inr}
use Rattle.std.specs.Prelude.{ℕ, zero, suc, List, [], ◌∷◌, ◌++◌, Bool, true, false, not, Option, Some, None, Ok, Err}
use Rattle.serde_json.specs.Data.{Data}
use Rattle.tree_types.specs.declared.path.Sel.{Sel}
use Rattle.tree_types.specs.declared.path.Sel.TheVariants.{Main, Exit, Item}
use Rattle.tree_types.specs.declared.path.LockId.{LockId}
use Rattle.tree_types.specs.declared.path.Path.{Path}
use Rattle.tree_types.specs.declared.phase.Phase.{Phase}
use Rattle.tree_types.specs.declared.phase.Phase.TheVariants.{Pending, Running, Succeeded, Skipped, Failed, Error, Omitted}
use Rattle.tree_types.specs.declared.node.Kind.{Kind}
use Rattle.tree_types.specs.declared.node.Kind.TheVariants as kind
use Rattle.tree_types.specs.declared.node.Note.TheVariants as note
use Rattle.tree_types.specs.declared.node.Node.{Node}
use Rattle.tree_types.specs.declared.outcome.Param.{Param}
use Rattle.tree_types.specs.declared.want.Want.TheVariants as want
use Rattle.tree_types.specs.Phases.{fulfilled, is_succeeded}
use Rattle.tag_text.specs.declared.part.Part.{Part as TagPart}
use Rattle.wf_manifest.specs.declared.calls.Argument.{Argument}
use Rattle.wf_manifest.specs.declared.calls.Loop.{Loop}
use Rattle.wf_manifest.specs.declared.calls.Hook.{Hook}
use Rattle.wf_manifest.specs.declared.calls.Call.{Call}
use Rattle.wf_manifest.specs.declared.templates.Input.{Input}
use Rattle.wf_manifest.specs.declared.templates.OutputDecl.{OutputDecl}
use Rattle.wf_manifest.specs.declared.templates.Memoize.{Memoize}
use Rattle.wf_manifest.specs.declared.templates.Retry.{Retry}
use Rattle.wf_manifest.specs.declared.templates.Body.{Body}
use Rattle.wf_manifest.specs.declared.templates.Body.TheVariants as body
use Rattle.wf_manifest.specs.declared.templates.Template.{Template}
use Rattle.wf_manifest.specs.declared.manifest.Manifest.{Manifest}
use Rattle.scopes.specs.Substitution.{Found, ◌>>=◌, Scope, said, input_tags, has_item_tag}
use Rattle.fanout.specs.Items.{items}
use Rattle.fanout.specs.ItemTexts.{item_tags}
use Rattle.meaning.specs.declared.lines.Place.{Place}
use Rattle.meaning.specs.declared.lines.Line.{Line}
use Rattle.meaning.specs.declared.lines.Line.TheVariants.{Stands, Asks, MayBegin}
use Rattle.meaning.specs.Answers.{path, Sels, MemoAnswer, Answers}
use Rattle.meaning.specs.Lines.{Made, lines_in, node, lines_of, all_finished, tags_of}
use Rattle.meaning.specs.Steps.{Caller}
use Rattle.meaning.specs.Calls.{template_named, kind_of, kind_named, arguments_said, inputs_said, template_scope, truth_said, stopped_by, stopped_if, stopped_before_loop, stopped_at_item, unless_stopped, hook_runs, hook_place, loop_node, loop_made, item_place, body_by, body_made, saving_if, remembered, keyed, memo_made, locked, template_by, template_made, entry, call_by, call_of_template, hook_made, hooked_if, hooked, one_made, item_made, items_made, declared_by, looped, each_made, call_made, calls}
use Rattle.meaning.specs.Guards.{of_template, of_loop, spot_named, template_spot, called_spot, handler_spot}
use Rattle.meaning.specs.Trees.{pending_root, globals_of, root, exit_root, top_call, main_made, status_tags, exit_if, exit_of, exit_lines, running_lines, lines_locked, lines_started, lines_by, lines}
use Rattle.growth.specs.Growth.{New}
use Rattle.growth.proofs.Numbered.{All, all_numbered, both_true}
use Rattle.growth.proofs.Lines.{Every, every_map, IsNode, Fine, Under, Inside, Proper, Fair}
use Rattle.growth.proofs.Keeping.{not_both, Grew}
use Rattle.growth.proofs.OnePath.{paths, all_fit}
use Rattle.growth.proofs.SoundBodies.{items_laid, Sound}
use Rattle.growth.proofs.SoundCalls.{TemplateFits, FoundFits, named_fits, memo_topped, loop_at, one_called, calls_sound}
use Rattle.growth.proofs.GrowingBodies.{Growing}
use Rattle.growth.proofs.GrowingCalls.{any_behind, memo_grew, one_grew, calls_grew}
use Rattle.growth.proofs.GrowingTrees.{answered, answered_more, only_save}
use Rattle.askings.specs.Owners.{memo_of_spot, memo_at}
use Rattle.askings.specs.ByTemplate.{AreGlobals, IsTemplateScope}
use Rattle.askings.proofs.Walks.{Stood, stood_lock, stood_in, stood_not_empty, no_lock, Within, within_child, within_hook}
use Rattle.askings.proofs.Tours.{Part, part_left, part_right, Quiet, Idle, over_idle, unsucceeded, unmemoized, LockGranted, Headed, topped_headed, Tour}
use Rattle.askings.proofs.TourBodies.{Placed, BodyGood, alone_good, rows_good, pod_good, retry_good, suspend_good, RunGood, RunQuiet, rows_quiet, steps_good, dag_good, after_node}
use Rattle.meaning.proofs.Flattening.{lines_hooked}

-- what asks for what is not answered where all is answered, asks for a save
quiet_of : (A : Answers) (D : Sels → Type 0) (ls : List Line) → Proper (answered A) D ls → Every Quiet ls
quiet_of A D ls h = every_map (Fine (answered A) D) Quiet ls (λ l. at l) h
  where
    at : (l : Line) → Fine (answered A) D l → Quiet l
    at (Stands n) f = tt
    at (Asks w) f = only_save A w f
    at (MayBegin p) f = tt

-- nothing has newly begun where all is answered
none_new : (A : Answers) (p : Sels) → New A (answered A) p → ⊥
none_new A p n = not_both (A.begun p) n.0 n.1

module _ (m : Manifest) (A : Answers) (whole : List Line) (T : Tour m A whole) (own : T.Known []) where
  abbrev Good : List Line → Type 0
  Good ls = T.Good ls

  abbrev PartOf : List Line → Type 0
  PartOf ls = Part whole ls

  abbrev GoodPart : List Line → Type 0
  GoodPart ls = PartOf ls → Good ls

  abbrev BodyOf : Place → Made → Type 0
  BodyOf p b = BodyGood m A whole T own p b

  abbrev SetAt : Place → Option Hook → Template → Type 0
  SetAt p hook t = Placed m A whole T own p hook t

  module _ (flow : Scope) (known : AreGlobals m A flow) (run ran : Caller) (sound : Sound paths A run) (sounds : Sound paths (answered A) ran) (grows : Growing A (answered A) run ran) (good : RunGood m A whole T own run) where
    -- what is finished asks for nothing but saves
    grown_quiet : (D : Sels → Type 0) (b c : Made) → Grew A (answered A) b c → Proper (answered A) D (lines_in c) → b.own.finished ≡ true → Every Quiet (lines_in b)
    grown_quiet D b c g h over = quiet_of A D (lines_in b) (subst (λ (x : Made). Proper (answered A) D (lines_in x)) (g.later.done over) h)

    -- what newly begins, begins anywhere
    fair : (D : Sels → Type 0) (ls : List Line) → Fair (New A (answered A)) D ls
    fair D ls q i n = absurd (none_new A q n)

    run_quiet : RunQuiet m A whole T own run
    run_quiet prefix p s c = grown_quiet (Under p.sels) (run prefix p s c) (ran prefix p s c) (grows prefix p s c (fair (Under p.sels) (lines_in (run prefix p s c)))) (sounds prefix p s c).proper

    -- ---- a template

    body_good : (p : Place) (s : Scope) (t : Template) (hook : Option Hook) → SetAt p hook t → IsTemplateScope m A s → (r : Option Retry) (b : Body) → t.retry ≡ r → t.body ≡ b → PartOf (lines_in (body_by A run p s t.outputs r b)) → BodyOf p (body_by A run p s t.outputs r b)
    body_good p s t hook a k None body.Pod i e f = pod_good m A whole T own p t.outputs (A.outcome p) refl a.within a.here f
    body_good p s t hook a k (Some r) body.Pod i e f = retry_good m A whole T own p t.outputs r t hook i a f
    body_good p s t hook a k None (body.Steps gs) i e f = steps_good m A whole T own run good run_quiet p t hook gs e a s t.outputs f
    body_good p s t hook a k (Some r) (body.Steps gs) i e f = steps_good m A whole T own run good run_quiet p t hook gs e a s t.outputs f
    body_good p s t hook a k None (body.Dag d) i e f = dag_good m A whole T own run good run_quiet p s d t hook e a t.outputs f
    body_good p s t hook a k (Some r) (body.Dag d) i e f = dag_good m A whole T own run good run_quiet p s d t hook e a t.outputs f
    body_good p s t hook a k None (body.Suspend o) i e f = suspend_good m A whole T own p s t.outputs t hook a k o e f
    body_good p s t hook a k (Some r) (body.Suspend o) i e f = suspend_good m A whole T own p s t.outputs t hook a k o e f

    succeeded : (ph : Phase) → is_succeeded ph ≡ true → ph ≡ Succeeded
    succeeded Succeeded e = refl
    succeeded Skipped e = not_both false e refl
    succeeded Failed e = not_both false e refl
    succeeded Error e = not_both false e refl
    succeeded Omitted e = not_both false e refl
    succeeded Pending e = not_both false e refl
    succeeded Running e = not_both false e refl

    saving_good : (p : Place) (s : Scope) (c : Memoize) (key : List ℕ) (b : Made) (t : Bool) → IsTemplateScope m A s → said s c.key ≡ Ok key → memo_at m p.sels ≡ Some c → is_succeeded b.own.node.phase ≡ t → (PartOf (lines_in b) → BodyOf p b) → GoodPart (lines_in (saving_if t p c key b))
    saving_good p s c key b false k r e x h f = (h f).good (unsucceeded m A b.own.node x)
    saving_good p s c key b true k r e q h f =
        let x : Line = Asks (want.Save (path p.sels) c.cache key b.own.node.outputs) in
        let part : PartOf (lines_in b) = λ n i. f n (any_behind (IsNode n) x (lines_in b) i) in
        let y = h part in
        T.save b.own.node p.sels b.own.node.outputs c s key (after_node m A whole T own b) k r y.at.path refl (succeeded b.own.node.phase q) e y.succeeded (y.tail q) part

    module _ (t : Template) (hook : Option Hook) where
      remembered_good : (p : Place) (s : Scope) (c : Memoize) (key : List ℕ) → said s c.key ≡ Ok key → t.memoize ≡ Some c → SetAt p hook t → IsTemplateScope m A s → (o : Option MemoAnswer) → A.memo p.sels ≡ o → GoodPart (lines_in (remembered A run p s t c key o))
      remembered_good p s c key r e a k None q f = T.look p (kind_of t) c key (ap memo_of_spot a.stood.is ∙ e) f
      remembered_good p s c key r e a k (Some None) q f = saving_good p s c key (body_made A run p s t) _ k r (ap memo_of_spot a.stood.is ∙ e) refl (body_good p s t hook a k t.retry t.body refl refl) f
      remembered_good p s c key r e a k (Some (Some o)) q f = T.stands (node p (kind_of t) Succeeded (note.Hit c.cache key) o) [] (over_idle A whole (node p (kind_of t) Succeeded (note.Hit c.cache key) o) refl (λ k r h. absurd (not_both true refl h))) (λ d y z x. absurd (cc (q, x))) T.none

      keyed_good : (p : Place) (s : Scope) (c : Memoize) → t.memoize ≡ Some c → SetAt p hook t → IsTemplateScope m A s → (x : Found (List ℕ)) → said s c.key ≡ x → GoodPart (lines_in (keyed A run p s t c x))
      keyed_good p s c e a k (Err fault) r f = alone_good m A whole T own p (kind_of t) Error fault refl refl
      keyed_good p s c e a k (Ok key) r f = remembered_good p s c key r e a k (A.memo p.sels) refl f

      memo_good : (p : Place) (s : Scope) → SetAt p hook t → IsTemplateScope m A s → (o : Option Memoize) → t.memoize ≡ o → GoodPart (lines_in (memo_made A run p s t o))
      memo_good p s a k None e f =
          let x = body_good p s t hook a k t.retry t.body refl refl f in
          x.good (unmemoized m A (body_made A run p s t).own.node (ap (λ (q : Path). memo_at m q.sels) x.at.path ∙ ap memo_of_spot a.stood.is ∙ e))
      memo_good p s a k (Some c) e f = keyed_good p s c e a k (said s c.key) refl f

      abbrev memoized : Place → Scope → Made
      memoized p s = memo_made A run p s t t.memoize

      -- once its node is fulfilled it asks for nothing but saves
      memo_quiet : (p : Place) (s : Scope) → TemplateFits paths t → (memoized p s).own.finished ≡ true → Every Quiet (lines_in (memoized p s))
      memo_quiet p s fits = grown_quiet (Inside p.sels) (memoized p s) (memo_made (answered A) ran p s t t.memoize) (memo_grew m A (answered A) (answered_more A) flow run ran sound sounds grows t fits p s t.memoize (fair (Inside p.sels) (lines_in (memoized p s)))) (memo_topped paths (answered A) m flow ran (all_fit m.templates) sounds t fits p s t.memoize).proper

      -- behind its lock
      behind_good : (p : Place) (s : Scope) → TemplateFits paths t → Stood m p.sels (of_template t hook) → Within T.Known p.sels → IsTemplateScope m A s → LockGranted m A p.sels → GoodPart (lines_in (memoized p s))
      behind_good p s fits stood w k g f = T.guarded p (memoized p s) g (topped_headed A p (memoized p s) (memo_topped paths A m flow run (all_fit m.templates) sound t fits p s t.memoize)) (memo_quiet p s fits) f (λ h. memo_good p s (record { stood = stood; within = w; here = h }) k t.memoize refl f)

      locked_good : (p : Place) (s : Scope) → TemplateFits paths t → Stood m p.sels (of_template t hook) → Within T.Known p.sels → IsTemplateScope m A s → (l : LockId) → t.lock ≡ Some l → (b : Bool) → A.granted p.sels ≡ b → GoodPart (lines_in (locked A run p s t l b))
      locked_good p s fits stood w k l e false g f = T.lock p (kind_of t) l (stood_not_empty m p.sels (of_template t hook) stood) (stood_lock m p.sels (of_template t hook) stood ∙ e) g f
      locked_good p s fits stood w k l e true g f = behind_good p s fits stood w k (λ x c. g) f

      template_good : (p : Place) (s : Scope) → TemplateFits paths t → Stood m p.sels (of_template t hook) → Within T.Known p.sels → IsTemplateScope m A s → (o : Option LockId) → t.lock ≡ o → GoodPart (lines_in (template_by A run p s t o))
      template_good p s fits stood w k None e f = behind_good p s fits stood w k (no_lock m p.sels (of_template t hook) (A.granted p.sels ≡ true) stood e) f
      template_good p s fits stood w k (Some l) e f = locked_good p s fits stood w k l e (A.granted p.sels) refl f

    -- ---- a call of a template, whatever follows it

    -- what its arguments and inputs make is a template's scope
    inputs_made : (x : Found (List Param)) (inner : Scope) → (x >>= λ ps. Ok (input_tags ps ++ flow)) ≡ Ok inner → IsTemplateScope m A inner
    inputs_made (Err fault) inner e = absurd (cc e)
    inputs_made (Ok ps) inner e = record { inputs = ps; globals = flow; are_globals = known; is = cc e }

    arguments_made : (x : Found Scope) (f : Scope → Found (List Param)) (inner : Scope) → (x >>= λ vs. f vs >>= λ ps. Ok (input_tags ps ++ flow)) ≡ Ok inner → IsTemplateScope m A inner
    arguments_made (Err fault) f inner e = absurd (cc e)
    arguments_made (Ok vs) f inner e = inputs_made (f vs) inner e

    template_is : (s : Scope) (given : List Argument) (is : List Input) (inner : Scope) → template_scope flow s given is ≡ Ok inner → IsTemplateScope m A inner
    template_is s given is inner e = arguments_made (arguments_said s given) (λ vs. inputs_said flow vs is) inner e

    module _ (p : Place) (hook : Option Hook) (w : Within T.Known p.sels) (follow : Made → Made) (after : (b : Made) (t : Template) → Stood m p.sels (of_template t hook) → GoodPart (lines_in b) → GoodPart (lines_in (follow b))) where
      entry_good : (t : Template) → Stood m p.sels (of_template t hook) → TemplateFits paths t → (s : Found Scope) → ((inner : Scope) → s ≡ Ok inner → IsTemplateScope m A inner) → GoodPart (lines_in (entry A run p t follow s))
      entry_good t stood fits (Err fault) k f = alone_good m A whole T own p (kind_of t) Error fault refl refl
      entry_good t stood fits (Ok inner) k f = after (template_made A run p inner t) t stood (template_good t hook p inner fits stood w (k inner refl) t.lock refl) f

      call_by_good : (s : Scope) (given : List Argument) (o : Option Template) → FoundFits paths o → Stood m p.sels (template_spot hook o) → GoodPart (lines_in (call_by A flow run p s given follow o))
      call_by_good s given None fits stood f = alone_good m A whole T own p kind.Pod Error note.None refl refl
      call_by_good s given (Some t) fits stood f = entry_good t stood fits (template_scope flow s given t.inputs) (λ inner e. template_is s given t.inputs inner e) f

      call_good_by : (s : Scope) (n : List ℕ) (given : List Argument) → Stood m p.sels (spot_named m n hook) → GoodPart (lines_in (call_of_template m A flow run p s n given follow))
      call_good_by s n given stood f = call_by_good s given (template_named m n) (named_fits paths m n (all_fit m.templates)) stood f

    pub plain_good : (p : Place) (s : Scope) (n : List ℕ) (given : List Argument) (hook : Option Hook) → Within T.Known p.sels → Stood m p.sels (spot_named m n hook) → GoodPart (lines_in (call_of_template m A flow run p s n given (λ x. x)))
    plain_good p s n given hook w stood f = call_good_by p hook w (λ x. x) (λ b t a h. h) s n given stood f

    -- ---- hooks

    hooked_if_good : (label : List ℕ) (p : Place) (s : Scope) (h : Hook) → Within T.Known p.sels → (b : Made) (t : Template) → Stood m p.sels (of_template t (Some h)) → GoodPart (lines_in b) → (x : Bool) → GoodPart (lines_in (hooked_if m A flow run x label p s h b))
    hooked_if_good label p s h w b t stood g false f = g f
    hooked_if_good label p s h w b t stood g true f =
        let k : Made = hook_made m A flow run label p s h b in
        let both : PartOf (lines_in b ++ lines_in k) = subst PartOf (lines_hooked b k) f in
        subst Good (sym (lines_hooked b k)) (T.both (lines_in b) (lines_in k) (g (part_left whole (lines_in b) (lines_in k) both)) (plain_good (hook_place p) (tags_of label b ++ s) h.template h.arguments None (within_hook T.Known p.sels w) (stood_in m p.sels Exit (of_template t (Some h)) stood) (part_right whole (lines_in b) (lines_in k) both)))

    hooked_good : (label : List ℕ) (p : Place) (s : Scope) (hook : Option Hook) → Within T.Known p.sels → (b : Made) (t : Template) → Stood m p.sels (of_template t hook) → GoodPart (lines_in b) → GoodPart (lines_in (hooked m A flow run label p s hook b))
    hooked_good label p s None w b t stood g f = g f
    hooked_good label p s (Some h) w b t stood g f = hooked_if_good label p s h w b t stood g (hook_runs b.own.node.phase) f

    -- ---- a call as a whole

    abbrev StopGood : Option Made → Type 0
    StopGood None = Unit {0}
    StopGood (Some b) = Good (lines_in b)

    stopped_by_good : (p : Place) (k : Kind) (r : Found Bool) → StopGood (stopped_by p k r)
    stopped_by_good p k (Err fault) = alone_good m A whole T own p k Error fault refl refl
    stopped_by_good p k (Ok false) = alone_good m A whole T own p kind.Skipped Skipped note.WhenFalse refl refl
    stopped_by_good p k (Ok true) = tt

    stopped_if_good : (p : Place) (k : Kind) (s : Scope) (t : List TagPart) (b : Bool) → StopGood (stopped_if b p k s t)
    stopped_if_good p k s t true = stopped_by_good p k (truth_said s t)
    stopped_if_good p k s t false = tt

    before_loop_good : (p : Place) (k : Kind) (s : Scope) (w : Option (List TagPart)) → StopGood (stopped_before_loop p k s w)
    before_loop_good p k s None = tt
    before_loop_good p k s (Some t) = stopped_if_good p k s t (not (has_item_tag t))

    at_item_good : (p : Place) (k : Kind) (s : Scope) (w : Option (List TagPart)) → StopGood (stopped_at_item p k s w)
    at_item_good p k s None = tt
    at_item_good p k s (Some t) = stopped_if_good p k s t (has_item_tag t)

    unless_good : (o : Option Made) (b : Made) → StopGood o → GoodPart (lines_in b) → GoodPart (lines_in (unless_stopped o b))
    unless_good None b h g f = g f
    unless_good (Some x) b h g f = h

    one_good : (prefix : List ℕ) (p : Place) (s : Scope) (c : Call) → Within T.Known p.sels → Stood m p.sels (spot_named m c.template c.exit) → GoodPart (lines_in (one_made m A flow run prefix p s c))
    one_good prefix p s c w stood = unless_good (stopped_at_item p (kind_named m c.template) s c.when) _ (at_item_good p (kind_named m c.template) s c.when) (call_good_by p c.exit w (hooked m A flow run (prefix ++ c.name) p s c.exit) (hooked_good (prefix ++ c.name) p s c.exit w) s c.template c.arguments stood)

    one_quiet : (prefix : List ℕ) (p : Place) (s : Scope) (c : Call) → (one_made m A flow run prefix p s c).own.finished ≡ true → Every Quiet (lines_in (one_made m A flow run prefix p s c))
    one_quiet prefix p s c = grown_quiet (Under p.sels) (one_made m A flow run prefix p s c) (one_made m (answered A) flow ran prefix p s c) (one_grew m A (answered A) (answered_more A) flow run ran sound sounds grows prefix p s c (fair (Under p.sels) (lines_in (one_made m A flow run prefix p s c)))) (one_called paths (answered A) m flow ran (all_fit m.templates) sounds prefix p s c).proper

    items_quiet : (i : ℕ) (ms : List Made) → All (λ j x. x.own.finished ≡ true → Every Quiet (lines_in x)) i ms → all_finished ms ≡ true → All (λ j x. Every Quiet (lines_in x)) i ms
    items_quiet i [] h e = tt
    items_quiet i (x ∷ ms) h e = let two = both_true x.own.finished (all_finished ms) e in (h.0 two.0, items_quiet (suc i) ms h.1 two.1)

    module _ (prefix : List ℕ) (p : Place) (s : Scope) (c : Call) (w : Within T.Known p.sels) (stood : Stood m p.sels (of_loop c)) where
      loop_over : (ds : List OutputDecl) (ms : List Made) (b : Bool) → fulfilled (loop_node p ds ms b).phase ≡ true → b ≡ true
      loop_over ds ms true e = refl
      loop_over ds ms false e = not_both false e refl

      abbrev items_of : List Data → List Made
      items_of ds = items_made m A flow run prefix p s c ds

      abbrev outputs_of : List OutputDecl
      outputs_of = declared_by (template_named m c.template)

      abbrev loop_of : List Data → Made
      loop_of ds = loop_made p outputs_of (items_of ds)

      abbrev top_of : List Data → Node
      top_of ds = loop_node p outputs_of (items_of ds) (all_finished (items_of ds))

      loop_quiet : (ds : List Data) → (loop_of ds).own.finished ≡ true → Every Quiet (lines_in (loop_of ds))
      loop_quiet ds e = (tt, rows_quiet m A whole T own items_laid 0 (items_of ds) (items_quiet 0 (items_of ds) (all_numbered (item_made m A flow run prefix p s c) (λ j x. x.own.finished ≡ true → Every Quiet (lines_in x)) 0 ds (λ j x. one_quiet prefix (item_place p j x) (item_tags x ++ s) c)) (loop_over outputs_of (items_of ds) (all_finished (items_of ds)) e)))

      loop_idle : (ds : List Data) → Idle A whole (top_of ds)
      loop_idle ds = go (all_finished (items_of ds))
        where
          go : (b : Bool) → Idle A whole (loop_node p outputs_of (items_of ds) b)
          go true = record { suspended = λ e r. absurd (cc e); pod = λ e r. absurd (cc e); pending = λ r. refl; retry = λ e r. absurd (cc e); succeeded = λ e. absurd (cc e) }
          go false = record { suspended = λ e r. absurd (cc e); pod = λ e r. absurd (cc e); pending = λ r. refl; retry = λ e r. absurd (cc e); succeeded = λ e. absurd (cc e) }

      loop_good : (ds : List Data) → GoodPart (lines_in (loop_of ds))
      loop_good ds f =
          let ms : List Made = items_of ds in
          let head : Headed p (loop_of ds) = record { at = loop_at paths A m flow run (all_fit m.templates) sound p outputs_of ms (all_finished ms); over = refl } in
          T.guarded p (loop_of ds) (no_lock m p.sels (of_loop c) (A.granted p.sels ≡ true) stood refl) head (loop_quiet ds) f (λ h. T.stands (top_of ds) (lines_of ms) (loop_idle ds) (unmemoized m A (top_of ds) (ap (λ (q : Path). memo_at m q.sels) head.at.path ∙ ap memo_of_spot stood.is)) (rows_good m A whole T own items_laid 0 ms (all_numbered (item_made m A flow run prefix p s c) (λ j y. GoodPart (lines_in y)) 0 ds (λ j x. one_good prefix (item_place p j x) (item_tags x ++ s) c (within_child T.Known p.sels (Item j) w h) (stood_in m p.sels (Item j) (of_loop c) stood))) (part_right whole (Stands (top_of ds) ∷ []) (lines_of ms) f)))

    looped_good : (prefix : List ℕ) (p : Place) (s : Scope) (c : Call) → Within T.Known p.sels → Stood m p.sels (of_loop c) → (r : Found (List Data)) → GoodPart (lines_in (looped m A flow run prefix p s c r))
    looped_good prefix p s c w stood (Err fault) f = alone_good m A whole T own p kind.TaskGroup Error fault refl refl
    looped_good prefix p s c w stood (Ok []) f = alone_good m A whole T own p kind.Skipped Skipped note.NoItems refl refl
    looped_good prefix p s c w stood (Ok (d ∷ ds)) f = loop_good prefix p s c w stood (d ∷ ds) f

    each_good : (prefix : List ℕ) (p : Place) (s : Scope) (c : Call) → Within T.Known p.sels → (l : Option Loop) → Stood m p.sels (called_spot m c l) → GoodPart (lines_in (each_made m A flow run prefix p s c l))
    each_good prefix p s c w None stood = one_good prefix p s c w stood
    each_good prefix p s c w (Some l) stood = looped_good prefix p s c w stood (items s l)

    pub call_good : RunGood m A whole T own (call_made m A flow run)
    call_good prefix p s c stood w = unless_good (stopped_before_loop p (kind_named m c.template) s c.when) _ (before_loop_good p (kind_named m c.template) s c.when) (each_good prefix p s c w c.each stood)

  -- ---- every depth, and the tree

  abbrev calls_of : Answers → Scope → ℕ → Caller
  calls_of B flow n = calls m B flow n

  calls_good : (flow : Scope) → AreGlobals m A flow → (n : ℕ) → RunGood m A whole T own (calls m A flow n)
  calls_good flow known zero = λ prefix p s c stood w f. alone_good m A whole T own p (kind_named m c.template) Error note.TooDeep refl refl
  calls_good flow known (suc n) = call_good flow known (calls m A flow n) (calls m (answered A) flow n) (calls_sound paths A m (all_fit m.templates) flow n) (calls_sound paths (answered A) m (all_fit m.templates) flow n) (calls_grew m A (answered A) (answered_more A) flow n) (calls_good flow known n)

  too_long : (x y : Sel) (r t : Sels) → x ∷ [] ≡ y ∷ (r ++ t) → r ++ t ≡ []
  too_long x y r t e = cc e

  not_none : (s : Sel) (r t : Sels) → r ++ s ∷ t ≡ [] → ⊥
  not_none s [] t e = absurd (cc e)
  not_none s (y ∷ r) t e = absurd (cc e)

  top_within : (x : Sel) → Within T.Known (x ∷ [])
  top_within x [] a = own
  top_within x (y ∷ q) a = absurd (not_none a.first q a.rest (too_long x y q (a.first ∷ a.rest) a.path))

  top_good : (flow : Scope) → AreGlobals m A flow → (p : Place) (x : Sel) (n : List ℕ) → p.sels ≡ x ∷ [] → Stood m p.sels (spot_named m n None) → GoodPart (lines_in (top_call m A flow p n))
  top_good flow known p x n e stood = plain_good flow known (calls m A flow 31) (calls m (answered A) flow 31) (calls_sound paths A m (all_fit m.templates) flow 31) (calls_sound paths (answered A) m (all_fit m.templates) flow 31) (calls_grew m A (answered A) (answered_more A) flow 31) (calls_good flow known 31) p flow n m.arguments None (subst (Within T.Known) (sym e) (top_within x)) stood

  main_good : GoodPart (lines_in (main_made m A))
  main_good = top_good (globals_of m) (inl refl) (root m) Main m.entrypoint refl (record { head = Main; rest = []; path = refl; top = refl; is = refl })

  exit_good : (b : Made) → b ≡ main_made m A → (t : Bool) (o : Option (List ℕ)) → m.on_exit ≡ o → GoodPart (exit_lines (exit_if t m A b o))
  exit_good b same true None e f = T.none
  exit_good b same false None e f = T.none
  exit_good b same false (Some n) e f = T.none
  exit_good b same true (Some n) e f = top_good (status_tags m b) (inr (ap (status_tags m) same)) (exit_root m) Exit n refl (record { head = Exit; rest = []; path = refl; top = refl; is = ap (handler_spot m) e }) f

  pub running_good : GoodPart (running_lines m A (main_made m A))
  running_good f =
      let b = main_made m A in
      let ks = exit_lines (exit_of m A b) in
      T.both (lines_in b) ks (main_good (part_left whole (lines_in b) ks f)) (exit_good b refl b.own.finished m.on_exit refl (part_right whole (lines_in b) ks f))

-- what holds of the lines of a whole tree
module _ (m : Manifest) (A : Answers) (T : Tour m A (lines m A)) where
  abbrev GoodLines : List Line → Type 0
  GoodLines ls = Part (lines m A) ls → T.Good ls

  locked_tour : (l : LockId) → m.lock ≡ Some l → (b : Bool) → A.granted [] ≡ b → GoodLines (lines_locked m A l b)
  locked_tour l e false g f = T.root l e g f
  locked_tour l e true g f = running_good m A (lines m A) T (T.own (λ x c. g)) f

  started_tour : (o : Option LockId) → m.lock ≡ o → GoodLines (lines_started m A o)
  started_tour None e f = running_good m A (lines m A) T (T.own (λ l c. absurd (cc (e, c)))) f
  started_tour (Some l) e f = locked_tour l e (A.granted []) refl f

  by_tour : (b : Bool) → GoodLines (lines_by m A b)
  by_tour false f = T.stands (pending_root m note.None) [] (record { suspended = λ e r. absurd (cc r); pod = λ e r. absurd (cc r); pending = λ r. refl; retry = λ e r. absurd (cc r); succeeded = λ e r. absurd (cc r) }) (unsucceeded m A (pending_root m note.None) refl) T.none
  by_tour true f = started_tour m.lock refl f

  pub tour : T.Good (lines m A)
  tour = by_tour A.started (λ n h. h)
