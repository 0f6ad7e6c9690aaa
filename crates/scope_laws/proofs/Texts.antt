-- What texts say in scopes with the same values: arguments, inputs, conditions, items, outputs and durations.
use Rattle.std.proofs.Common.{◌≡◌, ℕ, List, [], ◌∷◌, ◌++◌, Bool, true, false, not, Option, Some, None, Ok, Err, refl, ap, ◌∙◌, subst}
use Rattle.serde_json.specs.Data.{Data, null, boolean, number, string, array, object, Items, no_items, item, Members, no_members, member}
use Rattle.serde_json.specs.Read.{read}
use Rattle.tree_types.specs.declared.node.Kind.{Kind}
use Rattle.tree_types.specs.declared.outcome.Param.{Param}
use Rattle.tag_text.specs.declared.part.Part.{Part}
use Rattle.tag_text.specs.Parts.{parts_of}
use Rattle.time_text.specs.Durations.{duration_of}
use Rattle.wf_manifest.specs.declared.calls.Argument.{Argument}
use Rattle.wf_manifest.specs.declared.calls.Loop.{Loop}
use Rattle.wf_manifest.specs.declared.calls.Loop.TheVariants as each
use Rattle.wf_manifest.specs.declared.templates.Input.{Input}
use Rattle.wf_manifest.specs.declared.templates.OutputDecl.{OutputDecl}
use Rattle.scopes.specs.Substitution.{Found, ◌>>=◌, Scope, value_in, said_option, input_tags, has_item_tag}
use Rattle.scopes.specs.Values.{HasValuesOf}
use Rattle.scopes.proofs.ValueIn.{append_alike}
use Rattle.scopes.proofs.Said.{said_alike}
use Rattle.fanout.specs.Items.{said_in, said_in_items, said_in_members, items_of_data, items_of_read, sequence_items, items}
use Rattle.meaning.specs.declared.lines.Place.{Place}
use Rattle.meaning.specs.Outputs.{with_value, or_default, from_or_default, ending_with, computed}
use Rattle.meaning.specs.Suspends.{seconds_read, seconds_of}
use Rattle.meaning.specs.Calls.{arguments_said, value_or_default, input_by, input_value, inputs_said, template_scope, truth_of_text, truth_said, stopped_by, stopped_if, stopped_before_loop, stopped_at_item}
use Rattle.scope_laws.specs.Agreeing.{FoundAlike, TemplateScopesAgree}

-- ---- texts in one pair of scopes

module _ (scope around : Scope) (same : HasValuesOf scope around) where
  pub said_option_agrees : (t : Option (List Part)) → said_option scope t ≡ said_option around t
  said_option_agrees None = refl
  said_option_agrees (Some t) = λ i. said_alike scope around t same i >>= λ v. Ok (Some v)

  pub arguments_agree : (given : List Argument) → arguments_said scope given ≡ arguments_said around given
  arguments_agree [] = refl
  arguments_agree (a ∷ rest) =
      λ i. said_alike scope around a.value same i >>= λ v. arguments_agree rest i >>= λ vs. Ok ((a.name, v) ∷ vs)

  pub value_or_default_agrees : (value default : Option (List Part)) → value_or_default scope value default ≡ value_or_default around value default
  value_or_default_agrees (Some t) default = said_option_agrees (Some t)
  value_or_default_agrees None default = said_option_agrees default

  -- ---- conditions

  pub truth_agrees : (t : List Part) → truth_said scope t ≡ truth_said around t
  truth_agrees t = λ i. said_alike scope around t same i >>= truth_of_text

  stopped_agrees : (b : Bool) (place : Place) (k : Kind) (t : List Part) → stopped_if b place k scope t ≡ stopped_if b place k around t
  stopped_agrees true place k t = ap (stopped_by place k) (truth_agrees t)
  stopped_agrees false place k t = refl

  pub stopped_before_loop_agrees : (place : Place) (k : Kind) (t : Option (List Part)) → stopped_before_loop place k scope t ≡ stopped_before_loop place k around t
  stopped_before_loop_agrees place k None = refl
  stopped_before_loop_agrees place k (Some t) = stopped_agrees (not (has_item_tag t)) place k t

  pub stopped_at_item_agrees : (place : Place) (k : Kind) (t : Option (List Part)) → stopped_at_item place k scope t ≡ stopped_at_item place k around t
  stopped_at_item_agrees place k None = refl
  stopped_at_item_agrees place k (Some t) = stopped_agrees (has_item_tag t) place k t

  -- ---- items

  mutual
    pub said_in_agrees : (d : Data) → said_in scope d ≡ said_in around d
    said_in_agrees null = refl
    said_in_agrees (boolean b) = refl
    said_in_agrees (number n) = refl
    said_in_agrees (string t) = λ i. said_alike scope around (parts_of t) same i >>= λ v. Ok (string v)
    said_in_agrees (array ds) = λ i. said_in_items_agrees ds i >>= λ es. Ok (array es)
    said_in_agrees (object ms) = λ i. said_in_members_agrees ms i >>= λ es. Ok (object es)

    pub said_in_items_agrees : (ds : Items) → said_in_items scope ds ≡ said_in_items around ds
    said_in_items_agrees no_items = refl
    said_in_items_agrees (item d ds) =
        λ i. said_in_agrees d i >>= λ e. said_in_items_agrees ds i >>= λ es. Ok (item e es)

    pub said_in_members_agrees : (ms : Members) → said_in_members scope ms ≡ said_in_members around ms
    said_in_members_agrees no_members = refl
    said_in_members_agrees (member k d ms) =
        λ i. said_in_agrees d i >>= λ e. said_in_members_agrees ms i >>= λ es. Ok (member k e es)

  pub items_agree : (l : Loop) → items scope l ≡ items around l
  items_agree (each.Items d) = λ i. said_in_agrees d i >>= items_of_data
  items_agree (each.Param t) = λ i. said_alike scope around t same i >>= λ v. items_of_read (read v)
  items_agree (each.Sequence count start end format) =
      λ i. said_option_agrees count i >>= λ c. said_option_agrees start i >>= λ s. said_option_agrees end i >>= λ e. said_option_agrees format i >>= λ f. sequence_items c s e f

  -- ---- outputs and durations

  from_agrees : (default : Option (List ℕ)) (t : Option (List Part)) → from_or_default scope default t ≡ from_or_default around default t
  from_agrees default None = refl
  from_agrees default (Some t) = ap (or_default default) (said_alike scope around t same)

  pub computed_agrees : (ds : List OutputDecl) → computed scope ds ≡ computed around ds
  computed_agrees ds = λ i. ending_with (λ d. from_agrees d.default d.from i) ds

  pub seconds_agree : (t : Option (List Part)) → seconds_of scope t ≡ seconds_of around t
  seconds_agree None = refl
  seconds_agree (Some t) = λ i. said_alike scope around t same i >>= λ v. seconds_read (duration_of v)

-- ---- inputs

module _ (g h : Scope) (same : HasValuesOf g h) where
  pub input_by_agrees : (i : Input) (v : Option (List ℕ)) → input_by g i v ≡ input_by h i v
  input_by_agrees i (Some v) = refl
  input_by_agrees i None = value_or_default_agrees g h same i.value i.default

  pub input_value_agrees : (given others : Scope) (i : Input) → HasValuesOf given others → input_value g given i ≡ input_value h others i
  input_value_agrees given others i like = ap (input_by g i) (like i.name) ∙ input_by_agrees i (value_in others i.name)

  pub inputs_agree : (given others : Scope) (inputs : List Input) → HasValuesOf given others → inputs_said g given inputs ≡ inputs_said h others inputs
  inputs_agree given others [] like = refl
  inputs_agree given others (i ∷ rest) like =
      λ j. input_value_agrees given others i like j >>= λ v. inputs_agree given others rest like j >>= λ ps. Ok (with_value i.name v ps)

  over_inputs : (inputs : Found (List Param)) → FoundAlike (inputs >>= λ ps. Ok (input_tags ps ++ g)) (inputs >>= λ ps. Ok (input_tags ps ++ h))
  over_inputs (Ok ps) = append_alike (input_tags ps) g h same
  over_inputs (Err fault) = refl

  -- what a template is entered with, once its arguments are substituted
  abbrev entered : Scope → List Input → Found Scope → Found Scope
  entered globals inputs given = given >>= λ vs. inputs_said globals vs inputs >>= λ ps. Ok (input_tags ps ++ globals)

  entered_alike : (inputs : List Input) (given : Found Scope) → FoundAlike (entered g inputs given) (entered h inputs given)
  entered_alike inputs (Ok vs) =
      subst (λ (f : Found (List Param)). FoundAlike (entered g inputs (Ok vs)) (f >>= λ ps. Ok (input_tags ps ++ h))) (inputs_agree vs vs inputs (λ tag. refl)) (over_inputs (inputs_said g vs inputs))
  entered_alike inputs (Err fault) = refl

pub template_scopes_agree : TemplateScopesAgree
template_scopes_agree g h scope around given inputs same like =
    subst (λ (f : Found Scope). FoundAlike (template_scope g scope given inputs) (entered g h same h inputs f)) (arguments_agree scope around like given) (entered_alike g h same inputs (arguments_said scope given))
