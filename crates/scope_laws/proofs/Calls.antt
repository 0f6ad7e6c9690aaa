-- Calls in scopes with the same values.
use Rattle.std.proofs.Common.{◌≡◌, ℕ, zero, suc, List, [], ◌∷◌, ◌++◌, Bool, true, false, Option, Some, None, Ok, Err, refl, ap, ◌∙◌}
use Rattle.serde_json.specs.Data.{Data}
use Rattle.tree_types.specs.declared.path.LockId.{LockId}
use Rattle.tree_types.specs.declared.phase.Phase.TheVariants.{Error}
use Rattle.wf_manifest.specs.declared.calls.Argument.{Argument}
use Rattle.wf_manifest.specs.declared.calls.Loop.{Loop}
use Rattle.wf_manifest.specs.declared.calls.Hook.{Hook}
use Rattle.wf_manifest.specs.declared.calls.Call.{Call}
use Rattle.wf_manifest.specs.declared.templates.OutputDecl.{OutputDecl}
use Rattle.wf_manifest.specs.declared.templates.Memoize.{Memoize}
use Rattle.wf_manifest.specs.declared.templates.Retry.{Retry}
use Rattle.wf_manifest.specs.declared.templates.Body.{Body}
use Rattle.wf_manifest.specs.declared.templates.Body.TheVariants as body
use Rattle.wf_manifest.specs.declared.templates.Template.{Template}
use Rattle.wf_manifest.specs.declared.manifest.Manifest.{Manifest}
use Rattle.scopes.specs.Substitution.{Found, Scope, said}
use Rattle.scopes.specs.Values.{HasValuesOf}
use Rattle.scopes.proofs.ValueIn.{append_alike}
use Rattle.scopes.proofs.Said.{said_alike}
use Rattle.fanout.specs.Items.{items}
use Rattle.fanout.specs.ItemTexts.{item_tags}
use Rattle.meaning.specs.declared.lines.Place.{Place}
use Rattle.meaning.specs.Answers.{MemoAnswer, Answers}
use Rattle.meaning.specs.Lines.{Made, alone, tags_of}
use Rattle.meaning.specs.Steps.{Caller}
use Rattle.meaning.specs.Calls.{template_named, kind_of, kind_named, template_scope, unless_stopped, hook_runs, hook_place, then_hook, loop_made, declared_by, item_place, saving, body_by, body_made, remembered, keyed, memo_made, locked, template_by, template_made, entry, call_by, call_of_template, hook_made, hooked_if, hooked, one_made, item_made, items_made, looped, each_made, call_made, calls}
use Rattle.meaning.specs.Trees.{most_depth, top_call}
use Rattle.scope_laws.specs.Agreeing.{Agree, FollowAlike, FoundAlike, CallsAgree, BodiesAgree, MemosAgree, TemplatesAgree, CallsOfTemplatesAgree, TopCallsAgree}
use Rattle.scope_laws.proofs.Texts.{stopped_before_loop_agrees, stopped_at_item_agrees, items_agree, template_scopes_agree}
use Rattle.scope_laws.proofs.Bodies.{numbered_same, suspend_agrees, steps_agree}
use Rattle.scope_laws.proofs.Dags.{dag_agrees}

-- ---- templates

module _ (A : Answers) (called other : Caller) (agree : Agree called other) where
  module _ (place : Place) (scope around : Scope) (same : HasValuesOf scope around) where
    body_by_agrees : (ds : List OutputDecl) (r : Option Retry) (b : Body) → body_by A called place scope ds r b ≡ body_by A other place around ds r b
    body_by_agrees ds None body.Pod = refl
    body_by_agrees ds (Some r) body.Pod = refl
    body_by_agrees ds None (body.Steps gs) = steps_agree called other agree place scope around ds gs same
    body_by_agrees ds (Some r) (body.Steps gs) = steps_agree called other agree place scope around ds gs same
    body_by_agrees ds None (body.Dag d) = dag_agrees A called other agree place scope around same d ds
    body_by_agrees ds (Some r) (body.Dag d) = dag_agrees A called other agree place scope around same d ds
    body_by_agrees ds None (body.Suspend t) = suspend_agrees A place scope around ds t same
    body_by_agrees ds (Some r) (body.Suspend t) = suspend_agrees A place scope around ds t same

    pub body_agrees : (t : Template) → body_made A called place scope t ≡ body_made A other place around t
    body_agrees t = body_by_agrees t.outputs t.retry t.body

    remembered_agrees : (t : Template) (c : Memoize) (key : List ℕ) (o : Option MemoAnswer) → remembered A called place scope t c key o ≡ remembered A other place around t c key o
    remembered_agrees t c key None = refl
    remembered_agrees t c key (Some None) = ap (saving place c key) (body_agrees t)
    remembered_agrees t c key (Some (Some kept)) = refl

    keyed_agrees : (t : Template) (c : Memoize) (f : Found (List ℕ)) → keyed A called place scope t c f ≡ keyed A other place around t c f
    keyed_agrees t c (Err fault) = refl
    keyed_agrees t c (Ok key) = remembered_agrees t c key (A.memo place.sels)

    pub memo_agrees : (t : Template) (o : Option Memoize) → memo_made A called place scope t o ≡ memo_made A other place around t o
    memo_agrees t None = body_agrees t
    memo_agrees t (Some c) = ap (keyed A called place scope t c) (said_alike scope around c.key same) ∙ keyed_agrees t c (said around c.key)

    pub locked_agrees : (t : Template) (l : LockId) (b : Bool) → locked A called place scope t l b ≡ locked A other place around t l b
    locked_agrees t l false = refl
    locked_agrees t l true = memo_agrees t t.memoize

    template_by_agrees : (t : Template) (l : Option LockId) → template_by A called place scope t l ≡ template_by A other place around t l
    template_by_agrees t None = memo_agrees t t.memoize
    template_by_agrees t (Some l) = locked_agrees t l (A.granted place.sels)

pub bodies_agree : BodiesAgree
bodies_agree A called other place scope around t agree same = body_agrees A called other agree place scope around same t

pub memos_agree : MemosAgree
memos_agree A called other place scope around t c agree same = memo_agrees A called other agree place scope around same t c

pub templates_agree : TemplatesAgree
templates_agree A called other place scope around t agree same = template_by_agrees A called other agree place scope around same t t.lock

-- ---- calls of templates

module _ (A : Answers) (called other : Caller) (agree : Agree called other) (place : Place) (follow later : Made → Made) (after : FollowAlike follow later) where
  pub entries_agree : (t : Template) (f e : Found Scope) → FoundAlike f e → entry A called place t follow f ≡ entry A other place t later e
  entries_agree t (Ok inner) (Ok outer) same =
      ap follow (templates_agree A called other place inner outer t agree same) ∙ after (template_made A other place outer t)
  entries_agree t (Err fault) (Err same_fault) e = ap (alone place (kind_of t) Error) e
  entries_agree t (Ok inner) (Err fault) none = absurd none
  entries_agree t (Err fault) (Ok inner) none = absurd none

  call_by_agrees : (g h scope around : Scope) (given : List Argument) (o : Option Template) → HasValuesOf g h → HasValuesOf scope around → call_by A g called place scope given follow o ≡ call_by A h other place around given later o
  call_by_agrees g h scope around given None same like = refl
  call_by_agrees g h scope around given (Some t) same like =
      entries_agree t (template_scope g scope given t.inputs) (template_scope h around given t.inputs) (template_scopes_agree g h scope around given t.inputs same like)

pub calls_of_templates_agree : CallsOfTemplatesAgree
calls_of_templates_agree m A g h called other place scope around name given follow later same agree like after =
    call_by_agrees A called other agree place follow later after g h scope around given (template_named m name) same like

-- ---- calls

module _ (m : Manifest) (A : Answers) (g h : Scope) (same : HasValuesOf g h) (called other : Caller) (agree : Agree called other) where
  -- the same is done with the template's node
  pub call_of_template_agrees : (place : Place) (scope around : Scope) (name : List ℕ) (given : List Argument) (follow : Made → Made) → HasValuesOf scope around → call_of_template m A g called place scope name given follow ≡ call_of_template m A h other place around name given follow
  call_of_template_agrees place scope around name given follow like =
      calls_of_templates_agree m A g h called other place scope around name given follow follow same agree like (λ b. refl)

  pub hook_agrees : (label : List ℕ) (place : Place) (scope around : Scope) (hook : Hook) (b : Made) → HasValuesOf scope around → hook_made m A g called label place scope hook b ≡ hook_made m A h other label place around hook b
  hook_agrees label place scope around hook b like =
      call_of_template_agrees (hook_place place) (tags_of label b ++ scope) (tags_of label b ++ around) hook.template hook.arguments (λ x. x) (append_alike (tags_of label b) scope around like)

  hooked_if_agrees : (label : List ℕ) (place : Place) (scope around : Scope) (hook : Hook) (b : Made) (runs : Bool) → HasValuesOf scope around → hooked_if m A g called runs label place scope hook b ≡ hooked_if m A h other runs label place around hook b
  hooked_if_agrees label place scope around hook b false like = refl
  hooked_if_agrees label place scope around hook b true like = ap (then_hook b) (hook_agrees label place scope around hook b like)

  pub hooked_agrees : (label : List ℕ) (place : Place) (scope around : Scope) (hook : Option Hook) (b : Made) → HasValuesOf scope around → hooked m A g called label place scope hook b ≡ hooked m A h other label place around hook b
  hooked_agrees label place scope around None b like = refl
  hooked_agrees label place scope around (Some hook) b like = hooked_if_agrees label place scope around hook b (hook_runs b.own.node.phase) like

  pub one_agrees : (prefix : List ℕ) (place : Place) (scope around : Scope) (c : Call) → HasValuesOf scope around → one_made m A g called prefix place scope c ≡ one_made m A h other prefix place around c
  one_agrees prefix place scope around c like =
      let label : List ℕ = prefix ++ c.name in
      let made = calls_of_templates_agree m A g h called other place scope around c.template c.arguments (hooked m A g called label place scope c.exit) (hooked m A h other label place around c.exit) same agree like (λ b. hooked_agrees label place scope around c.exit b like) in
      λ i. unless_stopped (stopped_at_item_agrees scope around like place (kind_named m c.template) c.when i) (made i)

  pub item_agrees : (prefix : List ℕ) (place : Place) (scope around : Scope) (c : Call) (i : ℕ) (d : Data) → HasValuesOf scope around → item_made m A g called prefix place scope c i d ≡ item_made m A h other prefix place around c i d
  item_agrees prefix place scope around c i d like =
      one_agrees prefix (item_place place i d) (item_tags d ++ scope) (item_tags d ++ around) c (append_alike (item_tags d) scope around like)

  pub items_made_agree : (prefix : List ℕ) (place : Place) (scope around : Scope) (c : Call) (ds : List Data) → HasValuesOf scope around → items_made m A g called prefix place scope c ds ≡ items_made m A h other prefix place around c ds
  items_made_agree prefix place scope around c ds like =
      numbered_same (item_made m A g called prefix place scope c) (item_made m A h other prefix place around c) 0 ds (λ i d. item_agrees prefix place scope around c i d like)

  looped_agrees : (prefix : List ℕ) (place : Place) (scope around : Scope) (c : Call) (f : Found (List Data)) → HasValuesOf scope around → looped m A g called prefix place scope c f ≡ looped m A h other prefix place around c f
  looped_agrees prefix place scope around c (Err fault) like = refl
  looped_agrees prefix place scope around c (Ok []) like = refl
  looped_agrees prefix place scope around c (Ok (d ∷ ds)) like =
      ap (loop_made place (declared_by (template_named m c.template))) (items_made_agree prefix place scope around c (d ∷ ds) like)

  pub each_agrees : (prefix : List ℕ) (place : Place) (scope around : Scope) (c : Call) (l : Option Loop) → HasValuesOf scope around → each_made m A g called prefix place scope c l ≡ each_made m A h other prefix place around c l
  each_agrees prefix place scope around c None like = one_agrees prefix place scope around c like
  each_agrees prefix place scope around c (Some l) like =
      ap (looped m A g called prefix place scope c) (items_agree scope around like l) ∙ looped_agrees prefix place scope around c (items around l) like

  pub call_agrees : Agree (call_made m A g called) (call_made m A h other)
  call_agrees prefix place scope around c like =
      let made = each_agrees prefix place scope around c c.each like in
      λ i. unless_stopped (stopped_before_loop_agrees scope around like place (kind_named m c.template) c.when i) (made i)

pub calls_agree : CallsAgree
calls_agree m A g h zero same = λ prefix place scope around c like. refl
calls_agree m A g h (suc left) same = call_agrees m A g h same (calls m A g left) (calls m A h left) (calls_agree m A g h left same)

pub top_calls_agree : TopCallsAgree
top_calls_agree zero m A g h place template same = refl
top_calls_agree (suc left) m A g h place template same =
    call_of_template_agrees m A g h same (calls m A g left) (calls m A h left) (calls_agree m A g h left same) place g h template m.arguments (λ b. b) same

pub top_call_agrees : (m : Manifest) (A : Answers) (g h : Scope) (place : Place) (template : List ℕ) → HasValuesOf g h → top_call m A g place template ≡ top_call m A h place template
top_call_agrees m A g h place template same = top_calls_agree most_depth m A g h place template same
