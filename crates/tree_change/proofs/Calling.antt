-- What a call makes again, step by step: what it was tells how it goes on.
use Rattle.std.proofs.Common.{◌≡◌, ℕ, zero, suc, ◌+◌, ◌-◌, ◌≤◌, Bool, true, false, List, [], ◌∷◌, ◌++◌, Option, Some, None, Result, refl, sym, ap, ◌∙◌, subst, arith}
use Rattle.serde_json.specs.Data.{Data}
use Rattle.wf_manifest.specs.declared.calls.Argument.{Argument}
use Rattle.wf_manifest.specs.declared.calls.Hook.{Hook}
use Rattle.wf_manifest.specs.declared.calls.Loop.{Loop}
use Rattle.wf_manifest.specs.declared.calls.Call.{Call}
use Rattle.wf_manifest.specs.declared.templates.Memoize.{Memoize}
use Rattle.wf_manifest.specs.declared.templates.Template.{Template}
use Rattle.tree_types.specs.Phases.{is_succeeded}
use Rattle.wf_manifest.specs.declared.manifest.Manifest.{Manifest}
use Rattle.scopes.specs.Substitution.{Scope}
use Rattle.scopes.specs.Values.{HasValuesOf}
use Rattle.fanout.specs.Items.{items}
use Rattle.fanout.specs.ItemTexts.{item_tags}
use Rattle.meaning.specs.declared.lines.Place.{Place}
use Rattle.meaning.specs.Answers.{Answers}
use Rattle.meaning.specs.Lines.{Made, row_of}
use Rattle.meaning.specs.Steps.{Caller}
use Rattle.meaning.specs.Calls.{template_named, kind_named, template_scope, stopped_before_loop, unless_stopped, hook_runs, then_hook, item_place, template_made, entry, call_by, call_of_template, hook_made, hooked_if, hooked, one_made, item_made, looped, saving_if, saving, each_made, calls}
use Rattle.tree_state.specs.declared.refused.TreeRefused.{TreeRefused}
use Rattle.tree_state.specs.Counting.{count, Gives}
use Rattle.tree_state.proofs.Counts.{count_then}
use Rattle.call_texts.specs.Told.{StandsFor}
use Rattle.scope_laws.specs.Agreeing.{Agree}
use Rattle.scope_laws.proofs.Calls.{calls_agree, one_agrees, templates_agree}
use Rattle.tree_change.specs.Entered.{IsRunning}
use Rattle.tree_change.proofs.Entering.{made_inside, runs_alone}
use Rattle.tree_change.proofs.Changing.{went_on}

module _ (m : Manifest) (A : Answers) (g : Scope) where
  -- calls with so many depths left agree with themselves
  pub alike : (left : ℕ) → Agree (calls m A g left) (calls m A g left)
  alike left = calls_agree m A g g left (λ tag. refl)

  module _ (left : ℕ) where
    abbrev called : Caller
    called = calls m A g left

    -- a template that is called, in a scope with the values of its own
    pub called_enters : (place : Place) (scope inner : Scope) (name : List ℕ) (given : List Argument) (follow : Made → Made) (t : Template) (before after : ℕ) (r : Result Made TreeRefused) →
        Some t ≡ template_named m name → StandsFor HasValuesOf inner (template_scope g scope given t.inputs) → Gives before after r (follow (template_made A called place inner t)) →
        Gives before after r (call_of_template m A g called place scope name given follow)
    called_enters place scope inner name given follow t before after r found told made =
        subst (λ o. Gives before after r (call_by A g called place scope given follow o)) found
        (subst (λ f. Gives before after r (entry A called place t follow f)) (sym told.found)
        (subst (λ x. Gives before after r (follow x)) (templates_agree A called called place inner told.value t (alike left) told.stands) made))

    pub item_done : (prefix : List ℕ) (place at : Place) (scope inner : Scope) (c : Call) (i : ℕ) (d : Data) (before after : ℕ) (r : Result Made TreeRefused) →
        HasValuesOf inner (item_tags d ++ scope) → at ≡ item_place place i d → Gives before after r (one_made m A g called prefix at inner c) → Gives before after r (item_made m A g called prefix place scope c i d)
    item_done prefix place at scope inner c i d before after r values is made =
        subst (λ x. Gives before after r x) (one_agrees m A g g (λ tag. refl) called called (alike left) prefix (item_place place i d) inner (item_tags d ++ scope) c values)
        (subst (λ (p : Place). Gives before after r (one_made m A g called prefix p inner c)) is made)

    -- ---- exit hooks

    count_hooked : (b h : Made) → count (then_hook b h) ≡ count b + count h
    count_hooked b h = omega (arith, count_then b.parts (row_of (h ∷ [])))

    longer_if : (runs : Bool) (label : List ℕ) (place : Place) (scope : Scope) (h : Hook) (b : Made) → count b ≤ count (hooked_if m A g called runs label place scope h b)
    longer_if false label place scope h b = omega arith
    longer_if true label place scope h b = omega (arith, count_hooked b (hook_made m A g called label place scope h b))

    pub hooked_longer : (label : List ℕ) (place : Place) (scope : Scope) (exit : Option Hook) (b : Made) → count b ≤ count (hooked m A g called label place scope exit b)
    hooked_longer label place scope None b = omega arith
    hooked_longer label place scope (Some h) b = longer_if (hook_runs b.own.node.phase) label place scope h b

-- ---- caches

-- a save counts no node
pub count_saving : (place : Place) (c : Memoize) (key : List ℕ) (b : Made) → count b ≡ count (saving place c key b)
count_saving place c key b = by_phase (is_succeeded b.own.node.phase)
  where
    by_phase : (x : Bool) → count b ≡ count (saving_if x place c key b)
    by_phase true = refl
    by_phase false = refl

-- ---- what a call was

module _ (m : Manifest) (A B : Answers) (g : Scope) where
  -- a call that ran went on past its condition
  goes_on : (left : ℕ) (prefix : List ℕ) (place : Place) (scope : Scope) (c : Call) (old : Made) → (left ≡ 0 → ⊥) → old ≡ calls m B g left prefix place scope c → IsRunning old →
      (stopped_before_loop place (kind_named m c.template) scope c.when ≡ None) × (old ≡ each_made m B g (calls m B g (left - 1)) prefix place scope c c.each)
  goes_on zero prefix place scope c old deep is runs = absurd (deep refl)
  goes_on (suc n) prefix place scope c old deep is runs =
      let went = went_on m A B g n prefix place scope c old is runs in
      let less : n ≡ suc n - 1 = omega arith in
      (went.0, went.1 ∙ ap (λ (k : ℕ). each_made m B g (calls m B g k) prefix place scope c c.each) less)

  goes_on_again : (left : ℕ) (prefix : List ℕ) (place : Place) (scope : Scope) (c : Call) (before after : ℕ) (r : Result Made TreeRefused) → (left ≡ 0 → ⊥) →
      stopped_before_loop place (kind_named m c.template) scope c.when ≡ None →
      Gives before after r (each_made m A g (calls m A g (left - 1)) prefix place scope c c.each) → Gives before after r (calls m A g left prefix place scope c)
  goes_on_again zero prefix place scope c before after r deep none given = absurd (deep refl)
  goes_on_again (suc n) prefix place scope c before after r deep none given =
      let less : suc n - 1 ≡ n = omega arith in
      subst (λ stop. Gives before after r (unless_stopped stop (each_made m A g (calls m A g n) prefix place scope c c.each))) (sym none)
      (subst (λ k. Gives before after r (each_made m A g (calls m A g k) prefix place scope c c.each)) less given)

  module _ (left : ℕ) (prefix : List ℕ) (place : Place) (scope : Scope) (c : Call) (old : Made) (deep : left ≡ 0 → ⊥) (is : old ≡ calls m B g left prefix place scope c) (runs : IsRunning old) where
    pub one_again : (before after : ℕ) (r : Result Made TreeRefused) → c.each ≡ None → Gives before after r (one_made m A g (calls m A g (left - 1)) prefix place scope c) → Gives before after r (calls m A g left prefix place scope c)
    one_again before after r single given =
        goes_on_again left prefix place scope c before after r deep (goes_on left prefix place scope c old deep is runs).0
        (subst (λ (o : Option Loop). Gives before after r (each_made m A g (calls m A g (left - 1)) prefix place scope c o)) (sym single) given)

    pub one_was : c.each ≡ None → old ≡ one_made m B g (calls m B g (left - 1)) prefix place scope c
    one_was single = (goes_on left prefix place scope c old deep is runs).1 ∙ ap (each_made m B g (calls m B g (left - 1)) prefix place scope c) single

    -- a looped call
    pub looped_was : (l : Loop) → c.each ≡ Some l → old ≡ looped m B g (calls m B g (left - 1)) prefix place scope c (items scope l)
    looped_was l each = (goes_on left prefix place scope c old deep is runs).1 ∙ ap (each_made m B g (calls m B g (left - 1)) prefix place scope c) each

    pub looped_again : (l : Loop) (before after : ℕ) (r : Result Made TreeRefused) → c.each ≡ Some l →
        Gives before after r (looped m A g (calls m A g (left - 1)) prefix place scope c (items scope l)) → Gives before after r (calls m A g left prefix place scope c)
    looped_again l before after r each given =
        goes_on_again left prefix place scope c before after r deep (goes_on left prefix place scope c old deep is runs).0
        (subst (λ (o : Option Loop). Gives before after r (each_made m A g (calls m A g (left - 1)) prefix place scope c o)) (sym each) given)

-- a template that was entered, in a scope with the values of its own
pub template_was : (m : Manifest) (B : Answers) (g : Scope) (left : ℕ) (label : List ℕ) (place : Place) (scope inner : Scope) (name : List ℕ) (given : List Argument) (exit : Option Hook) (t : Template) (old : Made) →
    Some t ≡ template_named m name → StandsFor HasValuesOf inner (template_scope g scope given t.inputs) →
    old ≡ call_of_template m B g (calls m B g left) place scope name given (hooked m B g (calls m B g left) label place scope exit) → IsRunning old →
    old ≡ template_made B (calls m B g left) place inner t
template_was m B g left label place scope inner name given exit t old found told is runs =
    let other = calls m B g left in
    let made = template_made B other place told.value t in
    let entered = made_inside m B g other place scope name given (hooked m B g other label place scope exit) t told.value (record { found = sym found; said = told.found }) in
    let whole : old ≡ hooked m B g other label place scope exit made = is ∙ entered in
    whole
    ∙ runs_alone m B g other label place scope exit made (sym (ap (λ (b : Made). b.own.node.phase) whole) ∙ runs)
    ∙ sym (templates_agree B other other place inner told.value t (alike m B g left) told.stands)

-- an item, as one call at its place
pub item_was : (m : Manifest) (B : Answers) (g : Scope) (left : ℕ) (prefix : List ℕ) (place at : Place) (scope inner : Scope) (c : Call) (i : ℕ) (d : Data) (old : Made) →
    HasValuesOf inner (item_tags d ++ scope) → at ≡ item_place place i d → old ≡ item_made m B g (calls m B g left) prefix place scope c i d → old ≡ one_made m B g (calls m B g left) prefix at inner c
item_was m B g left prefix place at scope inner c i d old values here is =
    is
    ∙ sym (one_agrees m B g g (λ tag. refl) (calls m B g left) (calls m B g left) (alike m B g left) prefix (item_place place i d) inner (item_tags d ++ scope) c values)
    ∙ ap (λ (p : Place). one_made m B g (calls m B g left) prefix p inner c) (sym here)
