-- The places of calls: parameters, steps, tasks and exit hooks.
use Rattle.std.specs.Prelude.{ℕ, suc, ◌+◌, List, [], ◌∷◌, ◌++◌, take, length, Bool, not, Option, Some, None, is_some, is_none, codes, if◌then◌else◌}
use Rattle.serde_json.specs.Data.{Data, string, array, object, Items, no_items, item, Members, no_members, member}
use Rattle.base_types.specs.Bytes.{is_name}
use Rattle.base_types.specs.Names.{is_among}
use Rattle.node_names.specs.Names.{is_step_name}
use Rattle.json_fields.specs.Paths.{Path, field_of, member_of}
use Rattle.field_kinds.specs.Rules as rules
use Rattle.tag_text.specs.Parts.{parts_of}
use Rattle.tag_text.specs.declared.part.Part.{Part}
use Rattle.wf_manifest.specs.declared.calls.Argument.{Argument}
use Rattle.wf_manifest.specs.declared.calls.Hook.{Hook}
use Rattle.wf_manifest.specs.declared.calls.Call.{Call}
use Rattle.wf_manifest.specs.declared.calls.Loop.{Loop}
use Rattle.wf_manifest.specs.declared.calls.Loop.TheVariants as each
use Rattle.wf_manifest.specs.declared.templates.Template.{Template}
use Rattle.wf_manifest.specs.Valid.{argument_names, gives_values}
use Rattle.wf_places.specs.declared.place.Place.{Place}
use Rattle.wf_places.specs.Broken.{broken, plain_places, name_places}
use Rattle.wf_places.specs.Tags.{Around, first, of_calls, of_items, named_template, call_names, text_places, text_if_there}

-- ---- parameters

-- the arguments that are left, the first of these having that position among the names
abbrev pub argument_places : Around → List (List ℕ) → Path → ℕ → List Argument → List Place
argument_places a names at i [] = []
argument_places a names at i (x ∷ xs) =
    name_places (is_among (take i names) x.name) (is_name x.name) (member_of at i)
    ++ text_places a (field_of (member_of at i) (codes "value")) x.value
    ++ argument_places a names at (suc i) xs

abbrev pub arguments_places : Around → Path → List Argument → List Place
arguments_places a at xs = argument_places a (argument_names xs) (field_of at (codes "arguments.parameters")) 0 xs

-- ---- what is called

-- the name of a template
abbrev pub template_places : List Template → Path → List ℕ → List Place
template_places ts path name =
    broken rules.unknown_name (is_none (named_template ts name)) path ++ plain_places path name

-- an input of what is called has neither an argument nor a value of its own
abbrev pub lacks_value : List Template → List ℕ → List Argument → Bool
lacks_value ts name given = not (gives_values (named_template ts name) given)

-- ---- loops

-- the texts of a value; keys are no texts
abbrev mutual
  pub data_places : Around → Path → Data → List Place
  data_places a at (string text) = text_places a at (parts_of text)
  data_places a at (array ds) = items_places a at 0 ds
  data_places a at (object ms) = members_places a at ms
  data_places a at _ = []

  pub items_places : Around → Path → ℕ → Items → List Place
  items_places a at i no_items = []
  items_places a at i (item d ds) = data_places a (member_of at i) d ++ items_places a at (suc i) ds

  pub members_places : Around → Path → Members → List Place
  members_places a at no_members = []
  members_places a at (member key d ms) = data_places a (field_of at key) d ++ members_places a at ms

abbrev pub sequence_places : Around → Path → Option (List Part) → Option (List Part) → Option (List Part) → Option (List Part) → List Place
sequence_places a at count start end format =
    text_if_there a (field_of at (codes "withSequence.count")) count
    ++ text_if_there a (field_of at (codes "withSequence.start")) start
    ++ text_if_there a (field_of at (codes "withSequence.end")) end
    ++ text_if_there a (field_of at (codes "withSequence.format")) format

abbrev pub loop_places : Around → Path → Option Loop → List Place
loop_places a at None = []
loop_places a at (Some (each.Items d)) = data_places a (field_of at (codes "withItems")) d
loop_places a at (Some (each.Param text)) = text_places a (field_of at (codes "withParam")) text
loop_places a at (Some (each.Sequence count start end format)) =
    sequence_places a at count start end format

-- ---- exit hooks

-- a hook that was given by `onExit` stands there
abbrev pub hook_path : Path → Hook → Path
hook_path at hook =
    if hook.short then field_of at (codes "onExit") else field_of at (codes "hooks.exit")

abbrev pub hook_template_path : Path → Hook → Path
hook_template_path path hook = if hook.short then path else field_of path (codes "template")

abbrev pub hook_call : Around → Path → Hook → List Place
hook_call a path hook =
    broken rules.unknown_parameter (lacks_value a.templates hook.template hook.arguments) path
    ++ template_places a.templates (hook_template_path path hook) hook.template
    ++ arguments_places a path hook.arguments

-- it may name its own step or task
abbrev pub in_hook : Around → List ℕ → Around
in_hook a own = record a { own = Some own }

abbrev pub hook_places : Around → Path → List ℕ → Option Hook → List Place
hook_places a at own None = []
hook_places a at own (Some hook) = hook_call (in_hook a own) (hook_path at hook) hook

-- ---- steps and tasks

-- a looped call may name its item
abbrev pub call_reach : Call → ℕ
call_reach c = if is_some c.each then of_items else of_calls

abbrev pub looped : Around → Call → Around
looped a c = record a { reach = call_reach c }

-- what stands up to the arguments, of a call whose name an earlier one may have
abbrev pub call_front : Around → Bool → Path → Call → List Place
call_front a again at c =
    broken rules.unknown_parameter (lacks_value a.templates c.template c.arguments) at
    ++ name_places again (is_step_name c.name) at
    ++ template_places a.templates (field_of at (codes "template")) c.template
    ++ arguments_places (looped a c) at c.arguments

-- and what stands behind them
abbrev pub call_back : Around → Path → Call → List Place
call_back a at c =
    text_if_there (looped a c) (field_of at (codes "when")) c.when
    ++ loop_places a at c.each
    ++ hook_places (looped a c) at c.name c.exit

-- the step behind so many of the template
abbrev pub step_places : Around → ℕ → Path → Call → List Place
step_places a k at c =
    call_front a (is_among (take k (call_names a.steps)) c.name) at c ++ call_back a at c

-- the steps of a group that are left, behind so many of the template and of the group
abbrev pub group_places : Around → Path → ℕ → ℕ → List Call → List Place
group_places a at k j [] = []
group_places a at k j (c ∷ cs) = step_places a k (member_of at j) c ++ group_places a at (suc k) (suc j) cs

-- a group may name the steps before it
abbrev pub behind : Around → ℕ → Around
behind a k = record a { before = first k }

-- the groups that are left, behind so many steps and groups
abbrev pub groups_places : Around → Path → ℕ → ℕ → List (List Call) → List Place
groups_places a at k g [] = []
groups_places a at k g (cs ∷ gs) =
    group_places (behind a k) (member_of at g) k 0 cs ++ groups_places a at (k + length cs) (suc g) gs
