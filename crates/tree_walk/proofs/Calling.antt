-- What a call makes, step by step.
use Rattle.std.proofs.Common.{◌≡◌, ℕ, zero, suc, ◌+◌, ◌-◌, ◌<◌, ◌≤◌, Bool, true, false, List, [], ◌∷◌, ◌++◌, Option, Some, None, Result, Ok, Err, refl, sym, ap, ◌∙◌, subst, arith}
use Rattle.serde_json.specs.Data.{Data}
use Rattle.tree_types.specs.declared.node.Kind.TheVariants as kind
use Rattle.tree_types.specs.declared.node.Note.TheVariants as note
use Rattle.tree_types.specs.declared.phase.Phase.TheVariants.{Skipped, Error}
use Rattle.tree_types.specs.Phases.{is_succeeded}
use Rattle.wf_manifest.specs.declared.calls.Argument.{Argument}
use Rattle.wf_manifest.specs.declared.calls.Hook.{Hook}
use Rattle.wf_manifest.specs.declared.calls.Call.{Call}
use Rattle.wf_manifest.specs.declared.templates.Template.{Template}
use Rattle.wf_manifest.specs.declared.templates.Memoize.{Memoize}
use Rattle.wf_manifest.specs.declared.templates.OutputDecl.{OutputDecl}
use Rattle.wf_manifest.specs.declared.manifest.Manifest.{Manifest}
use Rattle.scopes.specs.Substitution.{Scope}
use Rattle.scopes.specs.Values.{HasValuesOf}
use Rattle.fanout.specs.ItemTexts.{item_tags}
use Rattle.meaning.specs.declared.lines.Place.{Place}
use Rattle.meaning.specs.Answers.{Answers}
use Rattle.meaning.specs.Lines.{Made, alone, row_of, tags_of}
use Rattle.meaning.specs.Steps.{Caller, groups_from, steps_by, steps_made}
use Rattle.meaning.specs.Calls.{template_named, kind_named, template_scope, stopped_before_loop, unless_stopped, hook_runs, hook_place, then_hook, item_place, saving_if, saving, template_made, entry, call_by, call_of_template, hook_made, hooked_if, hooked, one_made, item_made, each_made, calls}
use Rattle.tree_state.specs.declared.refused.TreeRefused.{TreeRefused}
use Rattle.tree_state.specs.declared.refused.TreeRefused.TheVariants.{TooLarge, Memory}
use Rattle.tree_state.specs.Counting.{count, Gives}
use Rattle.tree_state.proofs.Counts.{count_then}
use Rattle.call_texts.specs.declared.halt.Halt.{Halt}
use Rattle.call_texts.specs.declared.halt.Halt.TheVariants.{Fault, Memory as NoMemory}
use Rattle.call_texts.specs.Told.{Stops, StandsFor}
use Rattle.scope_laws.specs.Agreeing.{Agree, FollowAlike}
use Rattle.scope_laws.proofs.Bodies.{steps_by_agrees}
use Rattle.scope_laws.proofs.Calls.{calls_agree, calls_of_templates_agree, one_agrees, templates_agree}
use Rattle.tree_walk.specs.declared.over.Row.{Row}
use Rattle.tree_walk.specs.Walking.{AddsHook, GivesHalted, GivesGroups, groups_kept}

module _ (m : Manifest) (A : Answers) (g : Scope) where
  -- calls with so many depths left agree with themselves
  pub alike : (left : ℕ) → Agree (calls m A g left) (calls m A g left)
  alike left = calls_agree m A g g left (λ tag. refl)

  -- a call that goes on has one depth less
  pub goes_deeper : (left : ℕ) (prefix : List ℕ) (place : Place) (scope : Scope) (c : Call) (b : Bool) (before after : ℕ) (r : Result Made TreeRefused) → (left ≡ 0 → ⊥) → b ≡ true →
      Stops place (kind_named m c.template) (Ok b) (stopped_before_loop place (kind_named m c.template) scope c.when) →
      Gives before after r (each_made m A g (calls m A g (left - 1)) prefix place scope c c.each) → Gives before after r (calls m A g left prefix place scope c)
  goes_deeper zero prefix place scope c b before after r deep on stops given = absurd (deep refl)
  goes_deeper (suc n) prefix place scope c b before after r deep on stops given =
      let less : suc n - 1 ≡ n = omega arith in
      let none : stopped_before_loop place (kind_named m c.template) scope c.when ≡ None = subst (λ x. Stops place (kind_named m c.template) (Ok x) (stopped_before_loop place (kind_named m c.template) scope c.when)) on stops in
      subst (λ stop. Gives before after r (unless_stopped stop (each_made m A g (calls m A g n) prefix place scope c c.each))) (sym none)
      (subst (λ k. Gives before after r (each_made m A g (calls m A g k) prefix place scope c c.each)) less given)

  -- what its condition keeps from going on is what the call makes
  stays_so : (n : ℕ) (prefix : List ℕ) (place : Place) (scope : Scope) (c : Call) (stop : Made) (before after : ℕ) (r : Result Made TreeRefused) →
      stopped_before_loop place (kind_named m c.template) scope c.when ≡ Some stop → Gives before after r stop → Gives before after r (calls m A g (suc n) prefix place scope c)
  stays_so n prefix place scope c stop before after r stopped given =
      subst (λ x. Gives before after r (unless_stopped x (each_made m A g (calls m A g n) prefix place scope c c.each))) (sym stopped) given

  -- a call whose condition is false stays alone
  pub stays_out : (left : ℕ) (prefix : List ℕ) (place : Place) (scope : Scope) (c : Call) (b : Bool) (before after : ℕ) (r : Result Made TreeRefused) → (left ≡ 0 → ⊥) → b ≡ false →
      Stops place (kind_named m c.template) (Ok b) (stopped_before_loop place (kind_named m c.template) scope c.when) →
      Gives before after r (alone place kind.Skipped Skipped note.WhenFalse) → Gives before after r (calls m A g left prefix place scope c)
  stays_out zero prefix place scope c b before after r deep off stops given = absurd (deep refl)
  stays_out (suc n) prefix place scope c b before after r deep off stops given =
      stays_so n prefix place scope c (alone place kind.Skipped Skipped note.WhenFalse) before after r
      (subst (λ x. Stops place (kind_named m c.template) (Ok x) (stopped_before_loop place (kind_named m c.template) scope c.when)) off stops) given

  -- and so does one whose condition has a fault
  pub halts : (left : ℕ) (prefix : List ℕ) (place : Place) (scope : Scope) (c : Call) (h : Halt) (before after : ℕ) (r : Result Made TreeRefused) → (left ≡ 0 → ⊥) →
      Stops place (kind_named m c.template) (Err h) (stopped_before_loop place (kind_named m c.template) scope c.when) →
      GivesHalted before after r place (kind_named m c.template) h → Gives before after r (calls m A g left prefix place scope c)
  halts zero prefix place scope c h before after r deep stops given = absurd (deep refl)
  halts (suc n) prefix place scope c (Fault fault) before after r deep stops given =
      stays_so n prefix place scope c (alone place (kind_named m c.template) Error fault) before after r stops given
  halts (suc n) prefix place scope c NoMemory before after r deep stops given =
      subst (λ x. Gives before after x (calls m A g (suc n) prefix place scope c)) (sym given) tt

  module _ (left : ℕ) where
    abbrev called : Caller
    called = calls m A g left

    -- a template that is called, in a scope with the values of its own
    pub called_enters : (place : Place) (scope inner : Scope) (name : List ℕ) (given : List Argument) (follow : Made → Made) (t : Template) (before after : ℕ) (r : Result Made TreeRefused) →
        Some t ≡ template_named m name → StandsFor HasValuesOf inner (template_scope g scope given t.inputs) → Gives before after r (follow (template_made A called place inner t)) →
        Gives before after r (call_of_template m A g called place scope name given follow)
    called_enters place scope inner name given follow t before after r found told made =
        subst (λ o. Gives before after r (call_by A g called place scope given follow o)) found
        (subst (λ f. Gives before after r (entry A called place t follow f)) (sym told.found)
        (subst (λ x. Gives before after r (follow x)) (templates_agree A called called place inner told.value t (alike left) told.stands) made))

    pub item_done : (prefix : List ℕ) (place at : Place) (scope inner : Scope) (c : Call) (i : ℕ) (d : Data) (before after : ℕ) (r : Result Made TreeRefused) →
        HasValuesOf inner (item_tags d ++ scope) → at ≡ item_place place i d → Gives before after r (one_made m A g called prefix at inner c) → Gives before after r (item_made m A g called prefix place scope c i d)
    item_done prefix place at scope inner c i d before after r values is made =
        subst (λ x. Gives before after r x) (one_agrees m A g g (λ tag. refl) called called (alike left) prefix (item_place place i d) inner (item_tags d ++ scope) c values)
        (subst (λ (p : Place). Gives before after r (one_made m A g called prefix p inner c)) is made)

    -- ---- exit hooks

    count_hooked : (b h : Made) → count (then_hook b h) ≡ count b + count h
    count_hooked b h = omega (arith, count_then b.parts (row_of (h ∷ [])))

    longer_if : (runs : Bool) (label : List ℕ) (place : Place) (scope : Scope) (h : Hook) (b : Made) → count b ≤ count (hooked_if m A g called runs label place scope h b)
    longer_if false label place scope h b = omega arith
    longer_if true label place scope h b = omega (arith, count_hooked b (hook_made m A g called label place scope h b))

    pub hooked_longer : (label : List ℕ) (place : Place) (scope : Scope) (exit : Option Hook) (b : Made) → count b ≤ count (hooked m A g called label place scope exit b)
    hooked_longer label place scope None b = omega arith
    hooked_longer label place scope (Some h) b = longer_if (hook_runs b.own.node.phase) label place scope h b

    hook_added : (b h : Made) (before after : ℕ) (made result : Result Made TreeRefused) → Gives before after made h → AddsHook b made result → Gives (before + count b) after result (then_hook b h)
    hook_added b h before after (Ok x) (Ok both) given adds = (adds ∙ ap (λ y. then_hook b y) given.0, omega (arith, count_hooked b h, given.1))
    hook_added b h before after (Ok x) (Err TooLarge) given adds = absurd (cc)
    hook_added b h before after (Ok x) (Err Memory) given adds = tt
    hook_added b h before after (Err TooLarge) result given adds =
        subst (λ r. Gives (before + count b) after r (then_hook b h)) (sym adds) (let more : before + count b < count (then_hook b h) = omega (arith, count_hooked b h, given) in more)
    hook_added b h before after (Err Memory) result given adds = subst (λ r. Gives (before + count b) after r (then_hook b h)) (sym adds) tt

    pub hook_done : (label : List ℕ) (place at : Place) (scope inner : Scope) (hook : Hook) (b : Made) (follow : Made → Made) (before after : ℕ) (made result : Result Made TreeRefused) →
        FollowAlike follow (λ x. x) → hook_runs b.own.node.phase ≡ true → at ≡ hook_place place → HasValuesOf inner (tags_of label b ++ scope) →
        Gives before after made (call_of_template m A g called at inner hook.template hook.arguments follow) → AddsHook b made result →
        Gives (before + count b) after result (hooked_if m A g called (hook_runs b.own.node.phase) label place scope hook b)
    hook_done label place at scope inner hook b follow before after made result same runs is values given adds =
        let as_meant : call_of_template m A g called at inner hook.template hook.arguments follow ≡ hook_made m A g called label place scope hook b =
        ap (λ (p : Place). call_of_template m A g called p inner hook.template hook.arguments follow) is
        ∙ called_alike (hook_place place) inner (tags_of label b ++ scope) hook.template hook.arguments follow same values in
        subst (λ x. Gives (before + count b) after result (hooked_if m A g called x label place scope hook b)) (sym runs)
        (hook_added b (hook_made m A g called label place scope hook b) before after made result (subst (λ x. Gives before after made x) as_meant given) adds)
      where
        called_alike : (p : Place) (s u : Scope) (name : List ℕ) (args : List Argument) (f : Made → Made) → FollowAlike f (λ x. x) → HasValuesOf s u →
            call_of_template m A g called p s name args f ≡ call_of_template m A g called p u name args (λ x. x)
        called_alike p s u name args f same values = calls_of_templates_agree m A g g called called p s u name args f (λ x. x) (λ tag. refl) (alike left) values same

    pub entered_hooks : (label : List ℕ) (place : Place) (scope : Scope) (exit : Option Hook) (t state : Made) (before mid after : ℕ) (r : Result Made TreeRefused) →
        (state ≡ t) × (mid + count t ≡ before) → Gives (mid + count state) after r (hooked m A g called label place scope exit state) → Gives before after r (hooked m A g called label place scope exit t)
    entered_hooks label place scope exit t state before mid after r given made =
        let room : mid + count state ≡ before = omega (arith, ap count given.0, given.1) in
        subst (λ x. Gives before after r (hooked m A g called label place scope exit x)) given.0
        (subst (λ n. Gives n after r (hooked m A g called label place scope exit state)) room made)

-- ---- memoized templates

pub count_saving : (place : Place) (c : Memoize) (key : List ℕ) (b : Made) → count b ≡ count (saving place c key b)
count_saving place c key b = by_phase (is_succeeded b.own.node.phase)
  where
    by_phase : (x : Bool) → count b ≡ count (saving_if x place c key b)
    by_phase true = refl
    by_phase false = refl

-- ---- steps

pub steps_done : (called : Caller) (place : Place) (scope : Scope) (declared : List OutputDecl) (gs : List (List Call)) (row : Row) (state : Made) (before mid after : ℕ) → before ≡ suc mid →
    GivesGroups mid after (Ok row) (groups_from called place 0 scope gs) → state ≡ steps_by place declared (groups_kept row) → (state ≡ steps_made called place scope declared gs) × (after + count (steps_made called place scope declared gs) ≡ before)
steps_done called place scope declared gs row state before mid after taken given is =
    (is ∙ steps_by_agrees place declared (groups_kept row) (groups_from called place 0 scope gs) (record { all = given.0; scope = given.1 }), omega (arith, given.2, taken))
