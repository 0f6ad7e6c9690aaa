-- What a template makes is finished exactly where its node is fulfilled: no exit hook follows it.
use Rattle.std.proofs.Common.{◌≡◌, refl}
use Rattle.std.specs.Prelude.{ℕ, zero, suc, List, Bool, true, false, ◌||◌, Option, Some, None, Ok, Err}
use Rattle.tree_types.specs.declared.path.LockId.{LockId}
use Rattle.tree_types.specs.declared.outcome.Outcome.{Outcome}
use Rattle.tree_types.specs.declared.node.Note.{Note}
use Rattle.tree_types.specs.Phases.{fulfilled, is_succeeded}
use Rattle.wf_manifest.specs.declared.calls.Argument.{Argument}
use Rattle.wf_manifest.specs.declared.templates.OutputDecl.{OutputDecl}
use Rattle.wf_manifest.specs.declared.templates.Memoize.{Memoize}
use Rattle.wf_manifest.specs.declared.templates.Retry.{Retry}
use Rattle.wf_manifest.specs.declared.templates.Body.{Body}
use Rattle.wf_manifest.specs.declared.templates.Body.TheVariants as body
use Rattle.wf_manifest.specs.declared.templates.Template.{Template}
use Rattle.wf_manifest.specs.declared.manifest.Manifest.{Manifest}
use Rattle.wf_manifest.specs.Valid.{template_named}
use Rattle.scopes.specs.Substitution.{Found, Scope, said}
use Rattle.meaning.specs.declared.lines.Place.{Place}
use Rattle.meaning.specs.Answers.{MemoAnswer, Answers}
use Rattle.meaning.specs.Lines.{Made}
use Rattle.meaning.specs.Pods.{pod_by}
use Rattle.meaning.specs.Steps.{Caller}
use Rattle.meaning.specs.Suspends.{seconds_of, suspend_by, suspended}
use Rattle.meaning.specs.Calls.{saving_if, body_by, body_made, remembered, keyed, memo_made, locked, template_by, template_scope, entry, call_by, calls}
use Rattle.meaning.specs.Trees.{top_call_within}

abbrev pub Tied : Made → Type 0
Tied b = b.own.finished ≡ fulfilled b.own.node.phase

pod_tied : (place : Place) (ds : List OutputDecl) (o : Option (Note × Outcome)) → Tied (pod_by place ds o)
pod_tied place ds None = refl
pod_tied place ds (Some o) = refl

suspend_tied :
    (place : Place) (ds : List OutputDecl) (seconds armed : Option ℕ) (over : Bool) →
    Tied (suspend_by place ds seconds armed over)
suspend_tied place ds seconds armed true = refl
suspend_tied place ds seconds armed false = refl

suspended_tied :
    (A : Answers) (place : Place) (ds : List OutputDecl) (seconds : Found (Option ℕ)) → Tied (suspended A place ds seconds)
suspended_tied A place ds (Err fault) = refl
suspended_tied A place ds (Ok seconds) =
    suspend_tied place ds seconds (A.armed place.sels) (A.due place.sels || A.resumed place.sels)

saving_tied :
    (saves : Bool) (place : Place) (c : Memoize) (key : List ℕ) (b : Made) → Tied b → Tied (saving_if saves place c key b)
saving_tied true place c key b tied = tied
saving_tied false place c key b tied = tied

module _ (A : Answers) (called : Caller) where
  body_tied :
      (place : Place) (scope : Scope) (ds : List OutputDecl) (r : Option Retry) (b : Body) →
      Tied (body_by A called place scope ds r b)
  body_tied place scope ds None body.Pod = pod_tied place ds (A.outcome place)
  body_tied place scope ds (Some r) body.Pod = refl
  body_tied place scope ds r (body.Steps gs) = refl
  body_tied place scope ds r (body.Dag d) = refl
  body_tied place scope ds r (body.Suspend duration) = suspended_tied A place ds (seconds_of scope duration)

  made_tied : (place : Place) (scope : Scope) (t : Template) → Tied (body_made A called place scope t)
  made_tied place scope t = body_tied place scope t.outputs t.retry t.body

  remembered_tied :
      (place : Place) (scope : Scope) (t : Template) (c : Memoize) (key : List ℕ) (answer : Option MemoAnswer) →
      Tied (remembered A called place scope t c key answer)
  remembered_tied place scope t c key None = refl
  remembered_tied place scope t c key (Some None) =
      let b : Made = body_made A called place scope t in
      saving_tied (is_succeeded b.own.node.phase) place c key b (made_tied place scope t)
  remembered_tied place scope t c key (Some (Some kept)) = refl

  keyed_tied :
      (place : Place) (scope : Scope) (t : Template) (c : Memoize) (key : Found (List ℕ)) →
      Tied (keyed A called place scope t c key)
  keyed_tied place scope t c (Err fault) = refl
  keyed_tied place scope t c (Ok key) = remembered_tied place scope t c key (A.memo place.sels)

  memo_tied : (place : Place) (scope : Scope) (t : Template) (c : Option Memoize) → Tied (memo_made A called place scope t c)
  memo_tied place scope t None = made_tied place scope t
  memo_tied place scope t (Some c) = keyed_tied place scope t c (said scope c.key)

  locked_tied :
      (place : Place) (scope : Scope) (t : Template) (l : LockId) (granted : Bool) →
      Tied (locked A called place scope t l granted)
  locked_tied place scope t l true = memo_tied place scope t t.memoize
  locked_tied place scope t l false = refl

  template_tied : (place : Place) (scope : Scope) (t : Template) (l : Option LockId) → Tied (template_by A called place scope t l)
  template_tied place scope t None = memo_tied place scope t t.memoize
  template_tied place scope t (Some l) = locked_tied place scope t l (A.granted place.sels)

  entry_tied : (place : Place) (t : Template) (inner : Found Scope) → Tied (entry A called place t (λ b. b) inner)
  entry_tied place t (Err fault) = refl
  entry_tied place t (Ok inner) = template_tied place inner t t.lock

  call_tied :
      (globals : Scope) (place : Place) (scope : Scope) (given : List Argument) (t : Option Template) →
      Tied (call_by A globals called place scope given (λ b. b) t)
  call_tied globals place scope given None = refl
  call_tied globals place scope given (Some t) = entry_tied place t (template_scope globals scope given t.inputs)

pub top_tied :
    (left : ℕ) (m : Manifest) (A : Answers) (globals : Scope) (place : Place) (name : List ℕ) →
    Tied (top_call_within left m A globals place name)
top_tied zero m A globals place name = refl
top_tied (suc left) m A globals place name =
    call_tied A (calls m A globals left) globals place globals m.arguments (template_named m name)
