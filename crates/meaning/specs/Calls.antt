-- What a call makes: its condition, its loop, its arguments, the template's node, its exit hook.
use Rattle.std.specs.Prelude.{ℕ, zero, suc, List, [], ◌∷◌, ◌++◌, Bool, true, false, not, ◌&&◌, Option, Some, None, Ok, Err, map}
use Rattle.std.specs.List.{list_any, list_all}
use Rattle.serde_json.specs.Data.{Data, null, string, array, Items, no_items, item}
use Rattle.serde_json.specs.Written.{compact_text}
use Rattle.tree_types.specs.declared.path.Sel.TheVariants.{Exit, Item}
use Rattle.tree_types.specs.declared.path.LockId.{LockId}
use Rattle.tree_types.specs.declared.phase.Phase.{Phase}
use Rattle.tree_types.specs.declared.phase.Phase.TheVariants.{Pending, Running, Succeeded, Skipped, Error}
use Rattle.tree_types.specs.declared.node.Kind.{Kind}
use Rattle.tree_types.specs.declared.node.Kind.TheVariants as kind
use Rattle.tree_types.specs.declared.node.Note.TheVariants as note
use Rattle.tree_types.specs.declared.node.Node.{Node}
use Rattle.tree_types.specs.declared.outcome.Param.{Param}
use Rattle.tree_types.specs.declared.outcome.Outputs.{Outputs}
use Rattle.tree_types.specs.declared.want.Want.TheVariants as want
use Rattle.tree_types.specs.Phases.{fulfilled, is_skipped, is_omitted, is_succeeded, is_failed, worst_of}
use Rattle.node_names.specs.declared.seg.Seg.TheVariants as seg
use Rattle.tag_text.specs.declared.part.Part.{Part}
use Rattle.when_expr.specs.Expression.{Condition}
use Rattle.when_expr.specs.Meaning.{when_of}
use Rattle.when_expr.specs.Truth.{truth}
use Rattle.wf_manifest.specs.declared.calls.Argument.{Argument}
use Rattle.wf_manifest.specs.declared.calls.Loop.{Loop}
use Rattle.wf_manifest.specs.declared.calls.Hook.{Hook}
use Rattle.wf_manifest.specs.declared.calls.Call.{Call}
use Rattle.wf_manifest.specs.declared.templates.Input.{Input}
use Rattle.wf_manifest.specs.declared.templates.OutputDecl.{OutputDecl}
use Rattle.wf_manifest.specs.declared.templates.Memoize.{Memoize}
use Rattle.wf_manifest.specs.declared.templates.Retry.{Retry}
use Rattle.wf_manifest.specs.declared.templates.Body.{Body}
use Rattle.wf_manifest.specs.declared.templates.Body.TheVariants as body
use Rattle.wf_manifest.specs.declared.templates.Template.{Template}
use Rattle.wf_manifest.specs.declared.manifest.Manifest.{Manifest}
pub use Rattle.wf_manifest.specs.Valid.{template_named}
use Rattle.scopes.specs.Substitution.{Found, ◌>>=◌, Scope, value_in, said, said_option, input_tags, has_item_tag}
use Rattle.fanout.specs.Items.{items}
use Rattle.fanout.specs.ItemTexts.{item_tags, name_text}
use Rattle.meaning.specs.declared.lines.Place.{Place}
use Rattle.meaning.specs.Answers.{path, MemoAnswer, Answers}
use Rattle.meaning.specs.Lines.{numbered, below, Made, nothing, row_of, then_parts, no_outputs, node, made, alone, all_finished, tags_of}
use Rattle.meaning.specs.Outputs.{param, with_value}
use Rattle.meaning.specs.Pods.{pod_made, retry_made}
use Rattle.meaning.specs.Suspends.{suspend_made}
use Rattle.meaning.specs.Steps.{Caller, steps_made}
use Rattle.meaning.specs.Dags.{dag_made}

-- ---- templates (field reference, `Template`)

abbrev pub kind_of_pod : Option Retry → Kind
kind_of_pod None = kind.Pod
kind_of_pod (Some r) = kind.Retry

abbrev pub kind_of_body : Option Retry → Body → Kind
kind_of_body retry body.Pod = kind_of_pod retry
kind_of_body retry (body.Steps gs) = kind.Steps
kind_of_body retry (body.Dag d) = kind.DAG
kind_of_body retry (body.Suspend s) = kind.Suspend

-- the kind of a template's nodes
abbrev pub kind_of : Template → Kind
kind_of t = kind_of_body t.retry t.body

-- a valid manifest has a template for each call, so no node is ever of a missing one
abbrev pub kind_found : Option Template → Kind
kind_found None = kind.Pod
kind_found (Some t) = kind_of t

abbrev pub kind_named : Manifest → List ℕ → Kind
kind_named m n = kind_found (template_named m n)

-- ---- arguments and inputs (Argo, "Parameters"; field reference, `Arguments` and `Inputs`)

-- each argument is substituted in its order, also one that no input takes
abbrev pub arguments_said : Scope → List Argument → Found Scope
arguments_said scope [] = Ok []
arguments_said scope (a ∷ rest) = do
  v ← said scope a.value
  vs ← arguments_said scope rest
  Ok ((a.name, v) ∷ vs)

abbrev pub value_or_default : Scope → Option (List Part) → Option (List Part) → Found (Option (List ℕ))
value_or_default globals (Some t) default = said_option globals (Some t)
value_or_default globals None default = said_option globals default

abbrev pub input_by : Scope → Input → Option (List ℕ) → Found (Option (List ℕ))
input_by globals i (Some v) = Ok (Some v)
input_by globals i None = value_or_default globals i.value i.default

-- an input takes the argument of its name, else its `value`, else its `default`, in which the workflow's tags may stand
abbrev pub input_value : Scope → Scope → Input → Found (Option (List ℕ))
input_value globals given i = input_by globals i (value_in given i.name)

-- the inputs with their values; a valid manifest gives each input one
abbrev pub inputs_said : Scope → Scope → List Input → Found (List Param)
inputs_said globals given [] = Ok []
inputs_said globals given (i ∷ rest) = do
  v ← input_value globals given i
  ps ← inputs_said globals given rest
  Ok (with_value i.name v ps)

-- the scope of a template's own texts: its inputs and the workflow's tags
abbrev pub template_scope : Scope → Scope → List Argument → List Input → Found Scope
template_scope globals scope given inputs = do
  vs ← arguments_said scope given
  ps ← inputs_said globals vs inputs
  Ok (input_tags ps ++ globals)

-- ---- conditions (Argo, "Conditionals"; the language of `when` is this project's own)

abbrev pub truth_found : Option Bool → Found Bool
truth_found (Some b) = Ok b
truth_found None = Err note.NotNumbers

abbrev pub truth_read : Option Condition → Found Bool
truth_read (Some c) = truth_found (truth c)
truth_read None = Err note.BadWhen

-- the truth of a `when`, once its tags are replaced
abbrev pub truth_of_text : List ℕ → Found Bool
truth_of_text t = truth_read (when_of t)

abbrev pub truth_said : Scope → List Part → Found Bool
truth_said scope t = said scope t >>= truth_of_text

-- the node that stands in the place of a call whose `when` is at fault or false; none where it is true
abbrev pub stopped_by : Place → Kind → Found Bool → Option Made
stopped_by place k (Err fault) = Some (alone place k Error fault)
stopped_by place k (Ok false) = Some (alone place kind.Skipped Skipped note.WhenFalse)
stopped_by place k (Ok true) = None

-- a `when` with an item tag is evaluated for each item, one without before the loop
abbrev pub stopped_if : Bool → Place → Kind → Scope → List Part → Option Made
stopped_if true place k scope t = stopped_by place k (truth_said scope t)
stopped_if false place k scope t = None

abbrev pub stopped_before_loop : Place → Kind → Scope → Option (List Part) → Option Made
stopped_before_loop place k scope None = None
stopped_before_loop place k scope (Some t) = stopped_if (not (has_item_tag t)) place k scope t

abbrev pub stopped_at_item : Place → Kind → Scope → Option (List Part) → Option Made
stopped_at_item place k scope None = None
stopped_at_item place k scope (Some t) = stopped_if (has_item_tag t) place k scope t

abbrev pub unless_stopped : Option Made → Made → Made
unless_stopped None b = b
unless_stopped (Some stop) b = stop

-- ---- exit hooks (Argo, "Exit handlers" and "Lifecycle-Hook")
-- their moment, and that their phase changes no other, are this project's own

-- an exit hook runs behind a node that is fulfilled and neither Skipped nor Omitted
abbrev pub hook_runs : Phase → Bool
hook_runs p = fulfilled p && not (is_skipped p) && not (is_omitted p)

abbrev pub hook_place : Place → Place
hook_place place = below place Exit seg.Exit

-- a hook stands behind all else below the node, and the call is finished once the hook is
abbrev pub then_hook : Made → Made → Made
then_hook b h = record {
  own = record b.own { finished = h.own.finished };
  parts = then_parts b.parts (row_of (h ∷ []));
}

-- ---- loops (Argo, "Loops"; the TaskGroup node and the outputs of a looped call are this project's own)

abbrev pub json_items : List (Option (List ℕ)) → Items
json_items [] = no_items
json_items (None ∷ ts) = item null (json_items ts)
json_items (Some t ∷ ts) = item (string t) (json_items ts)

-- a compact JSON list of texts, with null for an item that has none
abbrev pub json_text : List (Option (List ℕ)) → List ℕ
json_text ts = compact_text (array (json_items ts))

abbrev pub item_output : List Made → OutputDecl → List ℕ
item_output ms d = json_text (map (λ m. param d.name m.own.node.outputs.params) ms)

-- the results, and each output that the template declares, as lists in item order
abbrev pub loop_outputs : List OutputDecl → List Made → Outputs
loop_outputs ds ms = record {
  result = Some (json_text (map (λ m. m.own.node.outputs.result) ms));
  params = map (λ d. record { name = d.name; value = item_output ms d }) ds;
}

-- the worst of its children once all are finished, Running before
abbrev pub loop_node : Place → List OutputDecl → List Made → Bool → Node
loop_node place ds ms true =
    node place kind.TaskGroup (worst_of (map (λ m. m.own.node.phase) ms)) note.None (loop_outputs ds ms)
loop_node place ds ms false = node place kind.TaskGroup Running note.None no_outputs

abbrev pub loop_made : Place → List OutputDecl → List Made → Made
loop_made place ds ms =
    let n = loop_node place ds ms (all_finished ms) in
    record {
      own = record {
        node = n;
        wants = [];
        finished = fulfilled n.phase;
        any_succeeded = list_any (λ m. is_succeeded m.own.node.phase) ms;
        all_failed = list_all (λ m. is_failed m.own.node.phase) ms;
      };
      parts = row_of ms;
    }

-- what a looped call's template declares
abbrev pub declared_by : Option Template → List OutputDecl
declared_by None = []
declared_by (Some t) = t.outputs

abbrev pub item_place : Place → ℕ → Data → Place
item_place place i d = below place (Item i) (seg.Item i (name_text d))

-- ---- memoized templates (Argo, "Step level memoization")

-- a node that missed and then is Succeeded asks to be saved
abbrev pub saving_if : Bool → Place → Memoize → List ℕ → Made → Made
saving_if false place c key b = b
saving_if true place c key b =
    let save = want.Save (path place.sels) c.cache key b.own.node.outputs in
    record b { own = record b.own { wants = save ∷ b.own.wants } }

abbrev pub saving : Place → Memoize → List ℕ → Made → Made
saving place c key b = saving_if (is_succeeded b.own.node.phase) place c key b

-- a node whose look-up is not answered
abbrev pub looking : Place → Template → Memoize → List ℕ → Made
looking place t c key =
    made (node place (kind_of t) Pending (note.Looking c.cache) no_outputs)
    (want.LookUp (path place.sels) c.cache key c.max_age ∷ []) nothing

-- ---- a call

module _ (A : Answers) (called : Caller) where
  -- ---- the template's node

  abbrev pub body_by : Place → Scope → List OutputDecl → Option Retry → Body → Made
  body_by place scope ds None body.Pod = pod_made A place ds
  body_by place scope ds (Some r) body.Pod = retry_made A place ds r
  body_by place scope ds r (body.Steps gs) = steps_made called place scope ds gs
  body_by place scope ds r (body.Dag d) = dag_made A called place scope ds d
  body_by place scope ds r (body.Suspend duration) = suspend_made A place scope ds duration

  -- a template's body, in the template's scope
  abbrev pub body_made : Place → Scope → Template → Made
  body_made place scope t = body_by place scope t.outputs t.retry t.body

  -- no answer is recorded, a miss is, or a hit
  abbrev pub remembered : Place → Scope → Template → Memoize → List ℕ → Option MemoAnswer → Made
  remembered place scope t c key None = looking place t c key
  remembered place scope t c key (Some None) = saving place c key (body_made place scope t)
  remembered place scope t c key (Some (Some kept)) =
      made (node place (kind_of t) Succeeded (note.Hit c.cache key) kept) [] nothing

  abbrev pub keyed : Place → Scope → Template → Memoize → Found (List ℕ) → Made
  keyed place scope t c (Err fault) = alone place (kind_of t) Error fault
  keyed place scope t c (Ok key) = remembered place scope t c key (A.memo place.sels)

  abbrev pub memo_made : Place → Scope → Template → Option Memoize → Made
  memo_made place scope t None = body_made place scope t
  memo_made place scope t (Some c) = keyed place scope t c (said scope c.key)

  -- Synchronization (Argo, "Template-level synchronization"): a node waits until its lock is granted
  abbrev pub locked : Place → Scope → Template → LockId → Bool → Made
  locked place scope t l false =
      made (node place (kind_of t) Pending (note.Waiting l) no_outputs) (want.Lock (path place.sels) l ∷ []) nothing
  locked place scope t l true = memo_made place scope t t.memoize

  abbrev pub template_by : Place → Scope → Template → Option LockId → Made
  template_by place scope t None = memo_made place scope t t.memoize
  template_by place scope t (Some l) = locked place scope t l (A.granted place.sels)

  -- the template's node: first its lock, then its memoized answer, then its body
  abbrev pub template_made : Place → Scope → Template → Made
  template_made place scope t = template_by place scope t t.lock

  -- ---- a call of a template with arguments, and what follows the template's node

  abbrev pub entry : Place → Template → (Made → Made) → Found Scope → Made
  entry place t follow (Err fault) = alone place (kind_of t) Error fault
  entry place t follow (Ok inner) = follow (template_made place inner t)

module _ (A : Answers) (globals : Scope) (called : Caller) where
  abbrev pub call_by : Place → Scope → List Argument → (Made → Made) → Option Template → Made
  call_by place scope given follow None = alone place kind.Pod Error note.None
  call_by place scope given follow (Some t) =
      entry A called place t follow (template_scope globals scope given t.inputs)

module _ (m : Manifest) (A : Answers) (globals : Scope) (called : Caller) where
  abbrev pub call_of_template : Place → Scope → List ℕ → List Argument → (Made → Made) → Made
  call_of_template place scope name given follow =
      call_by A globals called place scope given follow (template_named m name)

  -- a hook's arguments may name the tags of its own step or task
  abbrev pub hook_made : List ℕ → Place → Scope → Hook → Made → Made
  hook_made label place scope h b =
      call_of_template (hook_place place) (tags_of label b ++ scope) h.template h.arguments (λ x. x)

  abbrev pub hooked_if : Bool → List ℕ → Place → Scope → Hook → Made → Made
  hooked_if false label place scope h b = b
  hooked_if true label place scope h b = then_hook b (hook_made label place scope h b)

  abbrev pub hooked : List ℕ → Place → Scope → Option Hook → Made → Made
  hooked label place scope None b = b
  hooked label place scope (Some h) b = hooked_if (hook_runs b.own.node.phase) label place scope h b

  -- ---- a call as a whole

  -- one item of a call, or a call without a loop
  abbrev pub one_made : List ℕ → Place → Scope → Call → Made
  one_made prefix place scope c =
      unless_stopped (stopped_at_item place (kind_named m c.template) scope c.when)
      (call_of_template place scope c.template c.arguments (hooked (prefix ++ c.name) place scope c.exit))

  abbrev pub item_made : List ℕ → Place → Scope → Call → ℕ → Data → Made
  item_made prefix place scope c i d = one_made prefix (item_place place i d) (item_tags d ++ scope) c

  abbrev pub items_made : List ℕ → Place → Scope → Call → List Data → List Made
  items_made prefix place scope c ds = numbered (item_made prefix place scope c) 0 ds

  abbrev pub looped : List ℕ → Place → Scope → Call → Found (List Data) → Made
  looped prefix place scope c (Err fault) = alone place kind.TaskGroup Error fault
  looped prefix place scope c (Ok []) = alone place kind.Skipped Skipped note.NoItems
  looped prefix place scope c (Ok (d ∷ ds)) =
      loop_made place (declared_by (template_named m c.template)) (items_made prefix place scope c (d ∷ ds))

  abbrev pub each_made : List ℕ → Place → Scope → Call → Option Loop → Made
  each_made prefix place scope c None = one_made prefix place scope c
  each_made prefix place scope c (Some l) = looped prefix place scope c (items scope l)

  -- first the `when` without an item tag, then the loop, then each item
  abbrev pub call_made : Caller
  call_made prefix place scope c =
      unless_stopped (stopped_before_loop place (kind_named m c.template) scope c.when)
      (each_made prefix place scope c c.each)

module _ (m : Manifest) (A : Answers) (globals : Scope) where
  -- a call with so many depths left, its own among them: with none left it is too deep
  abbrev pub calls : ℕ → Caller
  calls zero = λ prefix place scope c. alone place (kind_named m c.template) Error note.TooDeep
  calls (suc left) = call_made m A globals (calls left)
