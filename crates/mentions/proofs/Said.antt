-- What texts say where they do not ask for the tags on which two scopes differ.
use Rattle.std.proofs.Common.{◌≡◌, ℕ, List, [], ◌∷◌, ◌++◌, ◌||◌, Bool, true, false, not, Option, Some, None, Ok, refl, ap}
use Rattle.serde_json.specs.Data.{Data, null, boolean, number, string, array, object, Items, no_items, item, Members, no_members, member}
use Rattle.serde_json.specs.Read.{read}
use Rattle.tree_types.specs.declared.node.Kind.{Kind}
use Rattle.tag_text.specs.declared.part.Part.{Part}
use Rattle.tag_text.specs.declared.part.Part.TheVariants.{Plain, Tag}
use Rattle.tag_text.specs.Parts.{parts_of}
use Rattle.wf_manifest.specs.declared.calls.Argument.{Argument}
use Rattle.wf_manifest.specs.declared.calls.Loop.{Loop}
use Rattle.wf_manifest.specs.declared.calls.Loop.TheVariants as each
use Rattle.wf_manifest.specs.declared.templates.Input.{Input}
use Rattle.wf_manifest.specs.declared.templates.OutputDecl.{OutputDecl}
use Rattle.scopes.specs.Substitution.{◌>>=◌, Scope, found_value, part_said, said, said_option, input_tags, has_item_tag}
use Rattle.fanout.specs.Items.{said_in, said_in_items, said_in_members, items_of_data, items_of_read, sequence_items, items}
use Rattle.meaning.specs.declared.lines.Place.{Place}
use Rattle.meaning.specs.Outputs.{with_value, found, lack_by, first_lack, or_default, from_or_default, computed}
use Rattle.meaning.specs.Calls.{arguments_said, inputs_said, template_scope, truth_of_text, truth_said, stopped_by, stopped_if, stopped_before_loop, stopped_at_item}
use Rattle.mentions.specs.Mentions.{part_asks, text_asks, option_asks, value_asks, values_ask, members_ask, arguments_ask, loop_asks, output_asks, outputs_ask}
use Rattle.mentions.specs.Unasked.{HasOtherValuesOf, UnaskedInOutputs}
use Rattle.mentions.proofs.Neither.{neither}

module _ (prefix : List ℕ) (scope around : Scope) (same : HasOtherValuesOf prefix scope around) where
  part_same : (p : Part) → part_asks prefix p ≡ false → part_said scope p ≡ part_said around p
  part_same (Plain t) none = refl
  part_same (Tag n) none = ap (found_value n) (same n none)

  pub text_same : (t : List Part) → text_asks prefix t ≡ false → said scope t ≡ said around t
  text_same [] none = refl
  text_same (p ∷ t) none =
      let each_none = neither (part_asks prefix p) (text_asks prefix t) none in
      λ i. part_same p each_none.0 i >>= λ front. text_same t each_none.1 i >>= λ rest. Ok (front ++ rest)

  pub option_same : (t : Option (List Part)) → option_asks prefix t ≡ false → said_option scope t ≡ said_option around t
  option_same None none = refl
  option_same (Some t) none = λ i. text_same t none i >>= λ v. Ok (Some v)

  -- ---- arguments, and the scope that they give to a template

  pub arguments_same : (given : List Argument) → arguments_ask prefix given ≡ false → arguments_said scope given ≡ arguments_said around given
  arguments_same [] none = refl
  arguments_same (a ∷ rest) none =
      let each_none = neither (text_asks prefix a.value) (arguments_ask prefix rest) none in
      λ i. text_same a.value each_none.0 i >>= λ v. arguments_same rest each_none.1 i >>= λ vs. Ok ((a.name, v) ∷ vs)

  pub template_scope_same : (g : Scope) (given : List Argument) (inputs : List Input) → arguments_ask prefix given ≡ false → template_scope g scope given inputs ≡ template_scope g around given inputs
  template_scope_same g given inputs none =
      λ i. arguments_same given none i >>= λ vs. inputs_said g vs inputs >>= λ ps. Ok (input_tags ps ++ g)

  -- ---- conditions

  truth_same : (t : List Part) → text_asks prefix t ≡ false → truth_said scope t ≡ truth_said around t
  truth_same t none = λ i. text_same t none i >>= truth_of_text

  stopped_same : (b : Bool) (place : Place) (k : Kind) (t : List Part) → text_asks prefix t ≡ false → stopped_if b place k scope t ≡ stopped_if b place k around t
  stopped_same true place k t none = ap (stopped_by place k) (truth_same t none)
  stopped_same false place k t none = refl

  pub stopped_before_loop_same : (place : Place) (k : Kind) (t : Option (List Part)) → option_asks prefix t ≡ false → stopped_before_loop place k scope t ≡ stopped_before_loop place k around t
  stopped_before_loop_same place k None none = refl
  stopped_before_loop_same place k (Some t) none = stopped_same (not (has_item_tag t)) place k t none

  pub stopped_at_item_same : (place : Place) (k : Kind) (t : Option (List Part)) → option_asks prefix t ≡ false → stopped_at_item place k scope t ≡ stopped_at_item place k around t
  stopped_at_item_same place k None none = refl
  stopped_at_item_same place k (Some t) none = stopped_same (has_item_tag t) place k t none

  -- ---- items

  mutual
    value_same : (d : Data) → value_asks prefix d ≡ false → said_in scope d ≡ said_in around d
    value_same null none = refl
    value_same (boolean b) none = refl
    value_same (number n) none = refl
    value_same (string t) none = λ i. text_same (parts_of t) none i >>= λ v. Ok (string v)
    value_same (array ds) none = λ i. values_same ds none i >>= λ es. Ok (array es)
    value_same (object ms) none = λ i. members_same ms none i >>= λ es. Ok (object es)

    values_same : (ds : Items) → values_ask prefix ds ≡ false → said_in_items scope ds ≡ said_in_items around ds
    values_same no_items none = refl
    values_same (item d ds) none =
        let each_none = neither (value_asks prefix d) (values_ask prefix ds) none in
        λ i. value_same d each_none.0 i >>= λ e. values_same ds each_none.1 i >>= λ es. Ok (item e es)

    members_same : (ms : Members) → members_ask prefix ms ≡ false → said_in_members scope ms ≡ said_in_members around ms
    members_same no_members none = refl
    members_same (member k d ms) none =
        let each_none = neither (value_asks prefix d) (members_ask prefix ms) none in
        λ i. value_same d each_none.0 i >>= λ e. members_same ms each_none.1 i >>= λ es. Ok (member k e es)

  pub items_same : (l : Loop) → loop_asks prefix l ≡ false → items scope l ≡ items around l
  items_same (each.Items d) none = λ i. value_same d none i >>= items_of_data
  items_same (each.Param t) none = λ i. text_same t none i >>= λ v. items_of_read (read v)
  items_same (each.Sequence count start end format) none =
      let last = neither (option_asks prefix count || option_asks prefix start || option_asks prefix end) (option_asks prefix format) none in
      let third = neither (option_asks prefix count || option_asks prefix start) (option_asks prefix end) last.0 in
      let first = neither (option_asks prefix count) (option_asks prefix start) third.0 in
      λ i. option_same count first.0 i >>= λ c. option_same start first.1 i >>= λ s. option_same end third.1 i >>= λ e. option_same format last.1 i >>= λ f. sequence_items c s e f

  -- ---- declared outputs

  from_same : (default : Option (List ℕ)) (t : Option (List Part)) → option_asks prefix t ≡ false → from_or_default scope default t ≡ from_or_default around default t
  from_same default None none = refl
  from_same default (Some t) none = ap (or_default default) (text_same t none)

  -- what an output is computed as in a scope
  abbrev value_of : Scope → OutputDecl → Option (List ℕ)
  value_of s d = from_or_default s d.default d.from

  found_same : (ds : List OutputDecl) → outputs_ask prefix ds ≡ false → found (value_of scope) ds ≡ found (value_of around) ds
  found_same [] none = refl
  found_same (d ∷ ds) none =
      let each_none = neither (output_asks prefix d) (outputs_ask prefix ds) none in
      λ i. with_value d.name (from_same d.default d.from each_none.0 i) (found_same ds each_none.1 i)

  lack_same : (ds : List OutputDecl) → outputs_ask prefix ds ≡ false → first_lack (value_of scope) ds ≡ first_lack (value_of around) ds
  lack_same [] none = refl
  lack_same (d ∷ ds) none =
      let each_none = neither (output_asks prefix d) (outputs_ask prefix ds) none in
      λ i. lack_by d.name (from_same d.default d.from each_none.0 i) (lack_same ds each_none.1 i)

  pub computed_same : (ds : List OutputDecl) → outputs_ask prefix ds ≡ false → computed scope ds ≡ computed around ds
  computed_same ds none =
      λ i. record { outputs = record { result = None; params = found_same ds none i }; lack = lack_same ds none i }

pub unasked_in_outputs : UnaskedInOutputs
unasked_in_outputs prefix scope around ds same none = computed_same prefix scope around same ds none
