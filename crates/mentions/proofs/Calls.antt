-- What calls make in scopes that differ on tags alone for which they do not ask.
use Rattle.std.proofs.Common.{◌≡◌, ℕ, zero, suc, List, [], ◌∷◌, ◌++◌, ◌||◌, Bool, true, false, Option, Some, None, Ok, Err, refl, ap, ◌∙◌}
use Rattle.std.specs.Prelude.{if◌then◌else◌, bytes_eq, codes}
use Rattle.serde_json.specs.Data.{Data}
use Rattle.wf_manifest.specs.declared.calls.Argument.{Argument}
use Rattle.wf_manifest.specs.declared.calls.Loop.{Loop}
use Rattle.wf_manifest.specs.declared.calls.Hook.{Hook}
use Rattle.wf_manifest.specs.declared.calls.Call.{Call}
use Rattle.wf_manifest.specs.declared.templates.Template.{Template}
use Rattle.wf_manifest.specs.declared.manifest.Manifest.{Manifest}
use Rattle.scopes.specs.Substitution.{Found, Scope}
use Rattle.fanout.specs.Items.{items}
use Rattle.fanout.specs.ItemTexts.{item_tags}
use Rattle.meaning.specs.declared.lines.Place.{Place}
use Rattle.meaning.specs.Answers.{Answers}
use Rattle.meaning.specs.Lines.{numbered, Made, tags_of}
use Rattle.meaning.specs.Steps.{Caller, member, member_place}
use Rattle.meaning.specs.Calls.{template_named, kind_named, unless_stopped, hook_runs, hook_place, then_hook, loop_made, declared_by, item_place, entry, call_by, call_of_template, hook_made, hooked_if, hooked, one_made, item_made, items_made, looped, each_made, call_made, calls}
use Rattle.mentions.specs.Mentions.{option_asks, arguments_ask, hook_asks, each_asks, call_asks, group_asks}
use Rattle.mentions.specs.Unasked.{HasOtherValuesOf, UnaskedInCalls, UnaskedInGroups}
use Rattle.mentions.proofs.Neither.{neither}
use Rattle.mentions.proofs.Said.{template_scope_same, stopped_before_loop_same, stopped_at_item_same, items_same}

-- the same tags in front of two such scopes
pub behind_same : (prefix : List ℕ) (front scope around : Scope) → HasOtherValuesOf prefix scope around → HasOtherValuesOf prefix (front ++ scope) (front ++ around)
behind_same prefix [] scope around same = same
behind_same prefix (e ∷ front) scope around same = λ tag other.
    ap (λ o. if bytes_eq e.0 tag then Some e.1 else o) (behind_same prefix front scope around same tag other)

-- a call that does not ask, part by part
record AsksNot (prefix : List ℕ) (c : Call) : Type 0 where
  when : option_asks prefix c.when ≡ false
  arguments : arguments_ask prefix c.arguments ≡ false
  exit : hook_asks prefix c.exit ≡ false
  each : each_asks prefix c.each ≡ false

asks_not : (prefix : List ℕ) (c : Call) → call_asks prefix c ≡ false → AsksNot prefix c
asks_not prefix c none =
    let last = neither (option_asks prefix c.when || arguments_ask prefix c.arguments || hook_asks prefix c.exit) (each_asks prefix c.each) none in
    let third = neither (option_asks prefix c.when || arguments_ask prefix c.arguments) (hook_asks prefix c.exit) last.0 in
    let first = neither (option_asks prefix c.when) (arguments_ask prefix c.arguments) third.0 in
    record { when = first.0; arguments = first.1; exit = third.1; each = last.1 }

module _ (m : Manifest) (A : Answers) (g : Scope) (called : Caller) (prefix : List ℕ) where
  -- arguments that say the same enter a template in the same scope
  call_by_same : (place : Place) (scope around : Scope) (given : List Argument) (follow later : Made → Made) (o : Option Template) → HasOtherValuesOf prefix scope around → arguments_ask prefix given ≡ false
      → ((b : Made) → follow b ≡ later b) → call_by A g called place scope given follow o ≡ call_by A g called place around given later o
  call_by_same place scope around given follow later None same none after = refl
  call_by_same place scope around given follow later (Some t) same none after =
      λ i. entry A called place t (λ b. after b i) (template_scope_same prefix scope around same g given t.inputs none i)

  call_of_template_same : (place : Place) (scope around : Scope) (name : List ℕ) (given : List Argument) (follow later : Made → Made) → HasOtherValuesOf prefix scope around → arguments_ask prefix given ≡ false
      → ((b : Made) → follow b ≡ later b) → call_of_template m A g called place scope name given follow ≡ call_of_template m A g called place around name given later
  call_of_template_same place scope around name given follow later same none after =
      call_by_same place scope around given follow later (template_named m name) same none after

  -- ---- exit hooks

  hook_same : (label : List ℕ) (place : Place) (scope around : Scope) (h : Hook) (b : Made) → HasOtherValuesOf prefix scope around → arguments_ask prefix h.arguments ≡ false
      → hook_made m A g called label place scope h b ≡ hook_made m A g called label place around h b
  hook_same label place scope around h b same none =
      let tags = tags_of label b in
      call_of_template_same (hook_place place) (tags ++ scope) (tags ++ around) h.template h.arguments (λ x. x) (λ x. x) (behind_same prefix tags scope around same) none (λ x. refl)

  hooked_if_same : (label : List ℕ) (place : Place) (scope around : Scope) (h : Hook) (b : Made) (runs : Bool) → HasOtherValuesOf prefix scope around → arguments_ask prefix h.arguments ≡ false
      → hooked_if m A g called runs label place scope h b ≡ hooked_if m A g called runs label place around h b
  hooked_if_same label place scope around h b false same none = refl
  hooked_if_same label place scope around h b true same none = ap (then_hook b) (hook_same label place scope around h b same none)

  hooked_same : (label : List ℕ) (place : Place) (scope around : Scope) (h : Option Hook) (b : Made) → HasOtherValuesOf prefix scope around → hook_asks prefix h ≡ false
      → hooked m A g called label place scope h b ≡ hooked m A g called label place around h b
  hooked_same label place scope around None b same none = refl
  hooked_same label place scope around (Some h) b same none = hooked_if_same label place scope around h b (hook_runs b.own.node.phase) same none

  -- ---- a call as a whole

  module _ (label : List ℕ) (c : Call) (asks : AsksNot prefix c) where
    one_same : (place : Place) (scope around : Scope) → HasOtherValuesOf prefix scope around → one_made m A g called label place scope c ≡ one_made m A g called label place around c
    one_same place scope around same =
        let name : List ℕ = label ++ c.name in
        let made = call_of_template_same place scope around c.template c.arguments (hooked m A g called name place scope c.exit) (hooked m A g called name place around c.exit) same asks.arguments
        (λ b. hooked_same name place scope around c.exit b same asks.exit) in
        λ i. unless_stopped (stopped_at_item_same prefix scope around same place (kind_named m c.template) c.when asks.when i) (made i)

    item_same : (place : Place) (scope around : Scope) (i : ℕ) (d : Data) → HasOtherValuesOf prefix scope around → item_made m A g called label place scope c i d ≡ item_made m A g called label place around c i d
    item_same place scope around i d same =
        one_same (item_place place i d) (item_tags d ++ scope) (item_tags d ++ around) (behind_same prefix (item_tags d) scope around same)

    items_made_same : (place : Place) (scope around : Scope) (ds : List Data) → HasOtherValuesOf prefix scope around → items_made m A g called label place scope c ds ≡ items_made m A g called label place around c ds
    items_made_same place scope around ds same = λ j. numbered (λ i d. item_same place scope around i d same j) 0 ds

    looped_same : (place : Place) (scope around : Scope) (f : Found (List Data)) → HasOtherValuesOf prefix scope around → looped m A g called label place scope c f ≡ looped m A g called label place around c f
    looped_same place scope around (Err fault) same = refl
    looped_same place scope around (Ok []) same = refl
    looped_same place scope around (Ok (d ∷ ds)) same =
        ap (loop_made place (declared_by (template_named m c.template))) (items_made_same place scope around (d ∷ ds) same)

    each_same : (place : Place) (scope around : Scope) (l : Option Loop) → HasOtherValuesOf prefix scope around → each_asks prefix l ≡ false → each_made m A g called label place scope c l ≡ each_made m A g called label place around c l
    each_same place scope around None same none = one_same place scope around same
    each_same place scope around (Some l) same none =
        ap (looped m A g called label place scope c) (items_same prefix scope around same l none) ∙ looped_same place scope around (items around l) same

    call_same : (place : Place) (scope around : Scope) → HasOtherValuesOf prefix scope around → call_made m A g called label place scope c ≡ call_made m A g called label place around c
    call_same place scope around same =
        let made = each_same place scope around c.each same asks.each in
        λ i. unless_stopped (stopped_before_loop_same prefix scope around same place (kind_named m c.template) c.when asks.when i) (made i)

pub unasked_in_calls : UnaskedInCalls
unasked_in_calls m A g zero prefix label place scope around c same none = refl
unasked_in_calls m A g (suc left) prefix label place scope around c same none =
    call_same m A g (calls m A g left) prefix label c (asks_not prefix c none) place scope around same

-- ---- groups

module _ (m : Manifest) (A : Answers) (g : Scope) (left : ℕ) (prefix : List ℕ) (group : Place) (scope around : Scope) (same : HasOtherValuesOf prefix scope around) where
  members_same : (i : ℕ) (cs : List Call) → group_asks prefix cs ≡ false → numbered (member (calls m A g left) group scope) i cs ≡ numbered (member (calls m A g left) group around) i cs
  members_same i [] none = refl
  members_same i (c ∷ cs) none =
      let each_none = neither (call_asks prefix c) (group_asks prefix cs) none in
      let made = unasked_in_calls m A g left prefix (codes "steps.") (member_place group i c) scope around c same each_none.0 in
      λ j. (c, made j) ∷ members_same (suc i) cs each_none.1 j

pub unasked_in_groups : UnaskedInGroups
unasked_in_groups m A g left prefix group scope around cs same none = members_same m A g left prefix group scope around same 0 cs none
