-- Calls, where the same is answered.
use Rattle.std.proofs.Common.{◌≡◌, ℕ, zero, suc, List, [], ◌∷◌, ◌++◌, Bool, true, false, Option, Some, None, Ok, Err, length, refl, ap, ◌∙◌}
use Rattle.serde_json.specs.Data.{Data}
use Rattle.tree_types.specs.declared.path.Sel.TheVariants.{Exit, Item, Task as task_sel}
use Rattle.tree_types.specs.declared.path.LockId.{LockId}
use Rattle.wf_manifest.specs.declared.calls.Argument.{Argument}
use Rattle.wf_manifest.specs.declared.calls.Loop.{Loop}
use Rattle.wf_manifest.specs.declared.calls.Hook.{Hook}
use Rattle.wf_manifest.specs.declared.calls.Call.{Call}
use Rattle.wf_manifest.specs.declared.templates.OutputDecl.{OutputDecl}
use Rattle.wf_manifest.specs.declared.templates.Memoize.{Memoize}
use Rattle.wf_manifest.specs.declared.templates.Retry.{Retry}
use Rattle.wf_manifest.specs.declared.templates.Body.{Body}
use Rattle.wf_manifest.specs.declared.templates.Body.TheVariants as body
use Rattle.wf_manifest.specs.declared.templates.Template.{Template}
use Rattle.wf_manifest.specs.declared.manifest.Manifest.{Manifest}
use Rattle.scopes.specs.Substitution.{Found, Scope, said}
use Rattle.fanout.specs.Items.{items}
use Rattle.fanout.specs.ItemTexts.{item_tags}
use Rattle.meaning.specs.declared.lines.Place.{Place}
use Rattle.meaning.specs.Answers.{MemoAnswer, Answers}
use Rattle.meaning.specs.Lines.{Made, tags_of}
use Rattle.meaning.specs.Steps.{Caller}
use Rattle.meaning.specs.Calls.{template_named, kind_named, template_scope, unless_stopped, stopped_at_item, stopped_before_loop, hook_runs, hook_place, then_hook, loop_made, declared_by, item_place, saving, body_by, body_made, remembered, keyed, memo_made, locked, template_by, template_made, entry, call_by, hooked_if, hooked, one_made, item_made, items_made, looped, each_made, call_made, calls}
use Rattle.locality.specs.Answered.{SameBelow}
use Rattle.locality.specs.Local.{SameCallers, SameChildren, CallsAreLocal, CallsOffStay, TopCallsAreLocal, TopCallsOffStay, CallsOfTemplatesAreLocal, SingleCallsAreLocal, HooksAreLocal, HookedAreLocal, ItemsAreLocal, LoopsAreLocal, TemplatesAreLocal, MemosAreLocal, BodiesAreLocal}
use Rattle.locality.proofs.Paths.{begins_itself}
use Rattle.locality.proofs.Answered.{same_further, off_is_same}
use Rattle.locality.proofs.Leaves.{pods_are_local, suspended_are_local, retry_same}
use Rattle.locality.proofs.Rows.{numbered_within, steps_same}
use Rattle.locality.proofs.Dags.{dags_are_local}

-- ---- templates

module _ (A B : Answers) (called other : Caller) (each : SameCallers A B called other) (place : Place) (scope : Scope) (same : SameBelow A B place.sels) where
  body_by_same : (ds : List OutputDecl) (r : Option Retry) (b : Body) → body_by A called place scope ds r b ≡ body_by B other place scope ds r b
  body_by_same ds None body.Pod = pods_are_local A B place ds same
  body_by_same ds (Some r) body.Pod = retry_same A B place ds r same
  body_by_same ds None (body.Steps gs) = steps_same A B called other each place scope ds gs same
  body_by_same ds (Some r) (body.Steps gs) = steps_same A B called other each place scope ds gs same
  body_by_same ds None (body.Dag d) =
      dags_are_local A B called other place scope ds d each (λ j l u. same_further A B place.sels (task_sel j ∷ []) same)
  body_by_same ds (Some r) (body.Dag d) =
      dags_are_local A B called other place scope ds d each (λ j l u. same_further A B place.sels (task_sel j ∷ []) same)
  body_by_same ds None (body.Suspend t) = suspended_are_local A B place scope ds t same
  body_by_same ds (Some r) (body.Suspend t) = suspended_are_local A B place scope ds t same

  body_same : (t : Template) → body_made A called place scope t ≡ body_made B other place scope t
  body_same t = body_by_same t.outputs t.retry t.body

  remembered_same : (t : Template) (c : Memoize) (key : List ℕ) (o : Option MemoAnswer) → remembered A called place scope t c key o ≡ remembered B other place scope t c key o
  remembered_same t c key None = refl
  remembered_same t c key (Some None) = ap (saving place c key) (body_same t)
  remembered_same t c key (Some (Some kept)) = refl

  keyed_same : (t : Template) (c : Memoize) (f : Found (List ℕ)) → keyed A called place scope t c f ≡ keyed B other place scope t c f
  keyed_same t c (Err fault) = refl
  keyed_same t c (Ok key) =
      ap (remembered A called place scope t c key) (same.memo place.sels (begins_itself place.sels)) ∙ remembered_same t c key (B.memo place.sels)

  memo_same : (t : Template) (o : Option Memoize) → memo_made A called place scope t o ≡ memo_made B other place scope t o
  memo_same t None = body_same t
  memo_same t (Some c) = keyed_same t c (said scope c.key)

  locked_same : (t : Template) (l : LockId) (b : Bool) → locked A called place scope t l b ≡ locked B other place scope t l b
  locked_same t l false = refl
  locked_same t l true = memo_same t t.memoize

  template_by_same : (t : Template) (l : Option LockId) → template_by A called place scope t l ≡ template_by B other place scope t l
  template_by_same t None = memo_same t t.memoize
  template_by_same t (Some l) =
      ap (locked A called place scope t l) (same.granted place.sels (begins_itself place.sels)) ∙ locked_same t l (B.granted place.sels)

pub bodies_are_local : BodiesAreLocal
bodies_are_local A B called other place scope t each same = body_same A B called other each place scope same t

pub memos_are_local : MemosAreLocal
memos_are_local A B called other place scope t c each same = memo_same A B called other each place scope same t c

pub templates_are_local : TemplatesAreLocal
templates_are_local A B called other place scope t each same = template_by_same A B called other each place scope same t t.lock

-- ---- calls of templates

module _ (A B : Answers) (called other : Caller) (each : SameCallers A B called other) (place : Place) (same : SameBelow A B place.sels) (follow later : Made → Made) (after : (b : Made) → follow b ≡ later b) where
  entry_same : (t : Template) (f : Found Scope) → entry A called place t follow f ≡ entry B other place t later f
  entry_same t (Err fault) = refl
  entry_same t (Ok inner) =
      ap follow (templates_are_local A B called other place inner t each same) ∙ after (template_made B other place inner t)

  call_by_same : (g scope : Scope) (given : List Argument) (o : Option Template) → call_by A g called place scope given follow o ≡ call_by B g other place scope given later o
  call_by_same g scope given None = refl
  call_by_same g scope given (Some t) = entry_same t (template_scope g scope given t.inputs)

pub calls_of_templates_are_local : CallsOfTemplatesAreLocal
calls_of_templates_are_local m A B g called other place scope name given follow later each same after =
    call_by_same A B called other each place same follow later after g scope given (template_named m name)

pub hooks_are_local : HooksAreLocal
hooks_are_local m A B g called other label place scope h b each same =
    calls_of_templates_are_local m A B g called other (hook_place place) (tags_of label b ++ scope) h.template h.arguments (λ x. x) (λ x. x) each same (λ x. refl)

-- ---- calls

module _ (m : Manifest) (A B : Answers) (g : Scope) (called other : Caller) (each : SameCallers A B called other) where
  hooked_if_same : (label : List ℕ) (place : Place) (scope : Scope) (h : Hook) (b : Made) (runs : Bool) → SameBelow A B (hook_place place).sels
      → hooked_if m A g called runs label place scope h b ≡ hooked_if m B g other runs label place scope h b
  hooked_if_same label place scope h b false same = refl
  hooked_if_same label place scope h b true same = ap (then_hook b) (hooks_are_local m A B g called other label place scope h b each same)

  hooked_same : (label : List ℕ) (place : Place) (scope : Scope) (h : Option Hook) (b : Made) → SameBelow A B (hook_place place).sels → hooked m A g called label place scope h b ≡ hooked m B g other label place scope h b
  hooked_same label place scope None b same = refl
  hooked_same label place scope (Some h) b same = hooked_if_same label place scope h b (hook_runs b.own.node.phase) same

  one_same : (prefix : List ℕ) (place : Place) (scope : Scope) (c : Call) → SameBelow A B place.sels → one_made m A g called prefix place scope c ≡ one_made m B g other prefix place scope c
  one_same prefix place scope c same =
      let label : List ℕ = prefix ++ c.name in
      ap (unless_stopped (stopped_at_item place (kind_named m c.template) scope c.when)) (calls_of_templates_are_local m A B g called other place scope c.template c.arguments (hooked m A g called label place scope c.exit) (hooked m B g other label place scope c.exit) each same (λ b. hooked_same label place scope c.exit b (same_further A B place.sels (Exit ∷ []) same)))

  items_same : (prefix : List ℕ) (place : Place) (scope : Scope) (c : Call) (ds : List Data) → SameChildren A B place Item 0 (length ds) → items_made m A g called prefix place scope c ds ≡ items_made m B g other prefix place scope c ds
  items_same prefix place scope c ds same =
      numbered_within (item_made m A g called prefix place scope c) (item_made m B g other prefix place scope c) 0 ds (λ j d l u. one_same prefix (item_place place j d) (item_tags d ++ scope) c (same j l u))

  looped_same : (prefix : List ℕ) (place : Place) (scope : Scope) (c : Call) (f : Found (List Data)) → SameBelow A B place.sels → looped m A g called prefix place scope c f ≡ looped m B g other prefix place scope c f
  looped_same prefix place scope c (Err fault) same = refl
  looped_same prefix place scope c (Ok []) same = refl
  looped_same prefix place scope c (Ok (d ∷ ds)) same =
      ap (loop_made place (declared_by (template_named m c.template))) (items_same prefix place scope c (d ∷ ds) (λ j l u. same_further A B place.sels (Item j ∷ []) same))

  each_same : (prefix : List ℕ) (place : Place) (scope : Scope) (c : Call) (l : Option Loop) → SameBelow A B place.sels → each_made m A g called prefix place scope c l ≡ each_made m B g other prefix place scope c l
  each_same prefix place scope c None same = one_same prefix place scope c same
  each_same prefix place scope c (Some l) same = looped_same prefix place scope c (items scope l) same

  call_same : SameCallers A B (call_made m A g called) (call_made m B g other)
  call_same prefix place scope c same =
      ap (unless_stopped (stopped_before_loop place (kind_named m c.template) scope c.when)) (each_same prefix place scope c c.each same)

pub hooked_are_local : HookedAreLocal
hooked_are_local m A B g called other label place scope h b each same = hooked_same m A B g called other each label place scope h b same

pub single_calls_are_local : SingleCallsAreLocal
single_calls_are_local m A B g called other prefix place scope c each same = one_same m A B g called other each prefix place scope c same

pub items_are_local : ItemsAreLocal
items_are_local m A B g called other prefix place scope c i d each same =
    one_same m A B g called other each prefix (item_place place i d) (item_tags d ++ scope) c same

pub loops_are_local : LoopsAreLocal
loops_are_local m A B g called other prefix place scope c ds each same = items_same m A B g called other each prefix place scope c ds same

pub calls_are_local : CallsAreLocal
calls_are_local m A B g zero = λ prefix place scope c same. refl
calls_are_local m A B g (suc left) = call_same m A B g (calls m A g left) (calls m B g left) (calls_are_local m A B g left)

pub calls_off_stay : CallsOffStay
calls_off_stay m A B changed g left prefix place scope c same off =
    calls_are_local m A B g left prefix place scope c (off_is_same A B changed place.sels same off)

pub top_calls_are_local : TopCallsAreLocal
top_calls_are_local zero m A B g place template same = refl
top_calls_are_local (suc left) m A B g place template same =
    calls_of_templates_are_local m A B g (calls m A g left) (calls m B g left) place g template m.arguments (λ b. b) (λ b. b) (calls_are_local m A B g left) same (λ b. refl)

pub top_calls_off_stay : TopCallsOffStay
top_calls_off_stay left m A B changed g place template same off =
    top_calls_are_local left m A B g place template (off_is_same A B changed place.sels same off)
