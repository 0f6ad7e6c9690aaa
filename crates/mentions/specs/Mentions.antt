-- Which texts ask for a tag that begins with a prefix.
use Rattle.std.specs.Prelude.{ℕ, List, Bool, false, ◌||◌, Option, Some, None, nat_eq}
use Rattle.std.specs.List.{starts_with, list_any}
use Rattle.serde_json.specs.Data.{Data, null, boolean, number, string, array, object, Items, no_items, item, Members, no_members, member}
use Rattle.tag_text.specs.declared.part.Part.{Part}
use Rattle.tag_text.specs.declared.part.Part.TheVariants.{Plain, Tag}
use Rattle.tag_text.specs.Parts.{parts_of}
use Rattle.wf_manifest.specs.declared.calls.Argument.{Argument}
use Rattle.wf_manifest.specs.declared.calls.Loop.{Loop}
use Rattle.wf_manifest.specs.declared.calls.Loop.TheVariants as each
use Rattle.wf_manifest.specs.declared.calls.Hook.{Hook}
use Rattle.wf_manifest.specs.declared.calls.Call.{Call}
use Rattle.wf_manifest.specs.declared.templates.OutputDecl.{OutputDecl}

-- ---- texts

abbrev pub part_asks : List ℕ → Part → Bool
part_asks prefix (Plain t) = false
part_asks prefix (Tag n) = starts_with nat_eq n prefix

abbrev pub text_asks : List ℕ → List Part → Bool
text_asks prefix t = list_any (part_asks prefix) t

-- the same of a text that may be absent
abbrev pub option_asks : List ℕ → Option (List Part) → Bool
option_asks prefix None = false
option_asks prefix (Some t) = text_asks prefix t

-- the texts inside a JSON value, in lists and maps too; keys are not read as texts with tags
abbrev mutual
  pub value_asks : List ℕ → Data → Bool
  value_asks prefix (string t) = text_asks prefix (parts_of t)
  value_asks prefix (array ds) = values_ask prefix ds
  value_asks prefix (object ms) = members_ask prefix ms
  value_asks prefix null = false
  value_asks prefix (boolean b) = false
  value_asks prefix (number n) = false

  pub values_ask : List ℕ → Items → Bool
  values_ask prefix no_items = false
  values_ask prefix (item d ds) = value_asks prefix d || values_ask prefix ds

  pub members_ask : List ℕ → Members → Bool
  members_ask prefix no_members = false
  members_ask prefix (member k d ms) = value_asks prefix d || members_ask prefix ms

-- ---- calls

abbrev pub argument_asks : List ℕ → Argument → Bool
argument_asks prefix a = text_asks prefix a.value

abbrev pub arguments_ask : List ℕ → List Argument → Bool
arguments_ask prefix given = list_any (argument_asks prefix) given

abbrev pub loop_asks : List ℕ → Loop → Bool
loop_asks prefix (each.Items d) = value_asks prefix d
loop_asks prefix (each.Param t) = text_asks prefix t
loop_asks prefix (each.Sequence count start end format) =
    option_asks prefix count || option_asks prefix start || option_asks prefix end || option_asks prefix format

abbrev pub each_asks : List ℕ → Option Loop → Bool
each_asks prefix None = false
each_asks prefix (Some l) = loop_asks prefix l

abbrev pub hook_asks : List ℕ → Option Hook → Bool
hook_asks prefix None = false
hook_asks prefix (Some h) = arguments_ask prefix h.arguments

-- its condition, its arguments, those of its exit hook, and its loop
abbrev pub call_asks : List ℕ → Call → Bool
call_asks prefix c =
    option_asks prefix c.when || arguments_ask prefix c.arguments || hook_asks prefix c.exit || each_asks prefix c.each

abbrev pub group_asks : List ℕ → List Call → Bool
group_asks prefix cs = list_any (call_asks prefix) cs

-- ---- declared outputs

abbrev pub output_asks : List ℕ → OutputDecl → Bool
output_asks prefix d = option_asks prefix d.from

abbrev pub outputs_ask : List ℕ → List OutputDecl → Bool
outputs_ask prefix ds = list_any (output_asks prefix) ds
