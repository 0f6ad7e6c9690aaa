-- What stands in lists and calls at which no rule is broken.
use Rattle.std.proofs.Common.{◌≡◌, ℕ, suc, ◌+◌, Bool, true, false, ◌&&◌, not, List, [], ◌∷◌, ◌++◌, length, take, map, Option, Some, None, refl, sym, ap, ◌∙◌, subst, append_assoc, arith}
use Rattle.std.specs.Prelude.{is_some, is_none, codes}
use Rattle.std.specs.List.{list_all}
use Rattle.std.proofs.Math.Seq.{take-append_seam}
use Rattle.std.proofs.lemmas.List.{length-append, length-map, map-append}
use Rattle.base_types.specs.Bytes.{is_name}
use Rattle.base_types.specs.Names.{is_among, differ_from, all_differ}
use Rattle.node_names.specs.Names.{is_step_name}
use Rattle.json_fields.specs.Paths.{Path, field_of, member_of}
use Rattle.field_kinds.specs.Rules as rules
use Rattle.wf_manifest.specs.declared.calls.Argument.{Argument}
use Rattle.wf_manifest.specs.declared.calls.Hook.{Hook}
use Rattle.wf_manifest.specs.declared.calls.Call.{Call}
use Rattle.wf_manifest.specs.declared.templates.Input.{Input}
use Rattle.wf_manifest.specs.declared.templates.OutputDecl.{OutputDecl}
use Rattle.wf_manifest.specs.declared.manifest.Manifest.{Manifest}
use Rattle.wf_manifest.specs.Valid.{argument_names, hook_lists, call_lists, calls_in, has_template, hook_is_there, call_is_there, gives_values, hook_gives_values, call_gives_values, template_named}
use Rattle.wf_places.specs.Broken.{broken, plain_places, name_places}
use Rattle.wf_places.specs.Tags.{Around, call_names, text_places, text_if_there}
use Rattle.wf_places.specs.Calls.{argument_places, arguments_places, template_places, lacks_value, loop_places, hook_path, hook_template_path, hook_places, in_hook, looped, call_front, call_back, group_places, behind, groups_places}
use Rattle.wf_places.specs.Places.{input_places, source_places, output_places}
use Rattle.wf_check.proofs.Cleared.{Clear, left, right, unbroken, holds}

pub and_true : (a b : Bool) → a ≡ true → b ≡ true → (a && b) ≡ true
and_true true b e f = f
and_true false b e f = absurd cc

not_false : (b : Bool) → b ≡ false → not b ≡ true
not_false true e = absurd cc
not_false false e = refl

not_not : (b : Bool) → not b ≡ false → b ≡ true
not_not true e = refl
not_not false e = absurd cc

some_is : {A : Type 0} (o : Option A) → is_none o ≡ false → is_some o ≡ true
some_is None e = absurd cc
some_is (Some x) e = refl

-- ---- names

-- each is none of those before it
abbrev pub Fresh : List (List ℕ) → ℕ → List (List ℕ) → Type 0
Fresh names i [] = Unit {0}
Fresh names i (n ∷ ns) = (is_among (take i names) n ≡ false) × Fresh names (suc i) ns

pub fresh_more : (names xs ys : List (List ℕ)) (i : ℕ) → Fresh names i xs → Fresh names (i + length xs) ys → Fresh names i (xs ++ ys)
fresh_more names [] ys i f g = subst (λ (k : ℕ). Fresh names k ys) (let e : i + 0 ≡ i = omega arith in e) g
fresh_more names (x ∷ xs) ys i f g =
    (f.0, fresh_more names xs ys (suc i) f.1 (subst (λ (k : ℕ). Fresh names k ys) (let e : i + suc (length xs) ≡ suc i + length xs = omega arith in e) g))

differs : (before ns : List (List ℕ)) → Fresh (before ++ ns) (length before) ns → differ_from before ns ≡ true
differs before [] f = refl
differs before (n ∷ ns) f =
    let here : not (is_among before n) ≡ true = not_false (is_among before n) (sym (ap (λ ms. is_among ms n) (take-append_seam before (n ∷ ns))) ∙ f.0) in
    let longer : length (before ++ n ∷ []) ≡ suc (length before) = (let e = length-append before (n ∷ []) in omega (arith, e)) in
    let rest : Fresh ((before ++ n ∷ []) ++ ns) (length (before ++ n ∷ [])) ns = subst (λ (k : ℕ). Fresh ((before ++ n ∷ []) ++ ns) k ns) (sym longer) (subst (λ ms. Fresh ms (suc (length before)) ns) (sym (append_assoc before (n ∷ []) ns)) f.1) in
    and_true (not (is_among before n)) (differ_from (before ++ n ∷ []) ns) here (differs (before ++ n ∷ []) ns rest)

pub all_fresh : (names : List (List ℕ)) → Fresh names 0 names → all_differ names ≡ true
all_fresh names f = differs [] names f

pub named : (again fits : Bool) (at : Path) → Clear (name_places again fits at) → (again ≡ false) × (fits ≡ true)
named again fits at c =
    let path = field_of at (codes "name") in
    let first = broken rules.double_name again path in
    let second = broken rules.bad_name (not fits) path in
    (unbroken rules.double_name refl again path (left first second c), holds rules.bad_name refl fits path (right first second c))

-- ---- parameters

-- names that differ and are of their grammar
abbrev pub Good : List (List ℕ) → Type 0
Good names = (all_differ names ≡ true) × (list_all is_name names ≡ true)

abbrev Going : List (List ℕ) → ℕ → List (List ℕ) → Type 0
Going names i ns = Fresh names i ns × (list_all is_name ns ≡ true)

going : (names : List (List ℕ)) (i : ℕ) (n : List ℕ) (ns : List (List ℕ)) → (is_among (take i names) n ≡ false) × (is_name n ≡ true) → Going names (suc i) ns → Going names i (n ∷ ns)
going names i n ns here rest = ((here.0, rest.0), and_true (is_name n) (list_all is_name ns) here.1 rest.1)

arguments_going : (a : Around) (names : List (List ℕ)) (at : Path) (i : ℕ) (xs : List Argument) → Clear (argument_places a names at i xs) → Going names i (argument_names xs)
arguments_going a names at i [] c = (tt, refl)
arguments_going a names at i (x ∷ xs) c =
    let first = name_places (is_among (take i names) x.name) (is_name x.name) (member_of at i) in
    let second = text_places a (field_of (member_of at i) (codes "value")) x.value in
    let rest = argument_places a names at (suc i) xs in
    going names i x.name (argument_names xs)
    (named (is_among (take i names) x.name) (is_name x.name) (member_of at i) (left first second (left (first ++ second) rest c)))
    (arguments_going a names at (suc i) xs (right (first ++ second) rest c))

pub arguments_good : (a : Around) (at : Path) (xs : List Argument) → Clear (arguments_places a at xs) → Good (argument_names xs)
arguments_good a at xs c =
    let going = arguments_going a (argument_names xs) (field_of at (codes "arguments.parameters")) 0 xs c in
    (all_fresh (argument_names xs) going.0, going.1)

abbrev input_names : List Input → List (List ℕ)
input_names xs = map (λ x. x.name) xs

inputs_going : (a : Around) (names : List (List ℕ)) (at : Path) (i : ℕ) (xs : List Input) → Clear (input_places a names at i xs) → Going names i (input_names xs)
inputs_going a names at i [] c = (tt, refl)
inputs_going a names at i (x ∷ xs) c =
    let first = name_places (is_among (take i names) x.name) (is_name x.name) (member_of at i) in
    let second = text_if_there a (field_of (member_of at i) (codes "value")) x.value in
    let third = text_if_there a (field_of (member_of at i) (codes "default")) x.default in
    let rest = input_places a names at (suc i) xs in
    going names i x.name (input_names xs)
    (named (is_among (take i names) x.name) (is_name x.name) (member_of at i) (left first second (left (first ++ second) third (left ((first ++ second) ++ third) rest c))))
    (inputs_going a names at (suc i) xs (right ((first ++ second) ++ third) rest c))

pub inputs_good : (a : Around) (at : Path) (xs : List Input) → Clear (input_places a (input_names xs) at 0 xs) → Good (input_names xs)
inputs_good a at xs c =
    let going = inputs_going a (input_names xs) at 0 xs c in
    (all_fresh (input_names xs) going.0, going.1)

abbrev out_names : List OutputDecl → List (List ℕ)
out_names xs = map (λ o. o.name) xs

outputs_going : (a : Around) (names : List (List ℕ)) (at : Path) (i : ℕ) (xs : List OutputDecl) → Clear (output_places a names at i xs) → Going names i (out_names xs)
outputs_going a names at i [] c = (tt, refl)
outputs_going a names at i (x ∷ xs) c =
    let first = name_places (is_among (take i names) x.name) (is_name x.name) (member_of at i) in
    let second = source_places a (member_of at i) x in
    let rest = output_places a names at (suc i) xs in
    going names i x.name (out_names xs)
    (named (is_among (take i names) x.name) (is_name x.name) (member_of at i) (left first second (left (first ++ second) rest c)))
    (outputs_going a names at (suc i) xs (right (first ++ second) rest c))

pub outputs_good : (a : Around) (at : Path) (xs : List OutputDecl) → Clear (output_places a (out_names xs) at 0 xs) → Good (out_names xs)
outputs_good a at xs c =
    let going = outputs_going a (out_names xs) at 0 xs c in
    (all_fresh (out_names xs) going.0, going.1)

-- ---- what is called

module _ (m : Manifest) where
  -- the same, with the templates of the manifest
  abbrev pub of_manifest : Around → Around
  of_manifest a = record a { templates = m.templates }

  pub template_there : (path : Path) (name : List ℕ) → Clear (template_places m.templates path name) → has_template m name ≡ true
  template_there path name c =
      some_is (template_named m name) (unbroken rules.unknown_name refl (is_none (template_named m name)) path (left (broken rules.unknown_name (is_none (template_named m name)) path) (plain_places path name) c))

  pub value_given : (path : Path) (name : List ℕ) (given : List Argument) → Clear (broken rules.unknown_parameter (lacks_value m.templates name given) path) → gives_values (template_named m name) given ≡ true
  value_given path name given c = holds rules.unknown_parameter refl (gives_values (template_named m name) given) path c

  pub record HookGood (hook : Option Hook) : Type 0 where
    pub there : hook_is_there m hook ≡ true
    pub values : hook_gives_values m hook ≡ true
    pub differ : list_all all_differ (hook_lists hook) ≡ true
    pub names : list_all (list_all is_name) (hook_lists hook) ≡ true

  hook_good : (a : Around) (at : Path) (own : List ℕ) (hook : Option Hook) → Clear (hook_places (of_manifest a) at own hook) → HookGood hook
  hook_good a at own None c = record { there = refl; values = refl; differ = refl; names = refl }
  hook_good a at own (Some hook) c =
      let path = hook_path at hook in
      let b = in_hook (of_manifest a) own in
      let first = broken rules.unknown_parameter (lacks_value m.templates hook.template hook.arguments) path in
      let second = template_places m.templates (hook_template_path path hook) hook.template in
      let third = arguments_places b path hook.arguments in
      let good = arguments_good b path hook.arguments (right (first ++ second) third c) in
      record {
        there = template_there (hook_template_path path hook) hook.template (right first second (left (first ++ second) third c));
        values = value_given path hook.template hook.arguments (left first second (left (first ++ second) third c));
        differ = and_true (all_differ (argument_names hook.arguments)) true good.0 refl;
        names = and_true (list_all is_name (argument_names hook.arguments)) true good.1 refl;
      }

  -- ---- steps and tasks

  pub record CallGood (c : Call) : Type 0 where
    pub step : is_step_name c.name ≡ true
    pub there : call_is_there m c ≡ true
    pub values : call_gives_values m c ≡ true
    pub differ : list_all all_differ (call_lists c) ≡ true
    pub names : list_all (list_all is_name) (call_lists c) ≡ true

  pub call_good : (a : Around) (again : Bool) (at : Path) (call : Call) → Clear (call_front (of_manifest a) again at call) → Clear (call_back (of_manifest a) at call) → (again ≡ false) × CallGood call
  call_good a again at call front back =
      let b = looped (of_manifest a) call in
      let first = broken rules.unknown_parameter (lacks_value m.templates call.template call.arguments) at in
      let second = name_places again (is_step_name call.name) at in
      let third = template_places m.templates (field_of at (codes "template")) call.template in
      let fourth = arguments_places b at call.arguments in
      let three = left ((first ++ second) ++ third) fourth front in
      let two = left (first ++ second) third three in
      let name = named again (is_step_name call.name) at (right first second two) in
      let good = arguments_good b at call.arguments (right ((first ++ second) ++ third) fourth front) in
      let whens = text_if_there b (field_of at (codes "when")) call.when in
      let loops = loop_places (of_manifest a) at call.each in
      let hook = hook_good b at call.name call.exit (right (whens ++ loops) (hook_places b at call.name call.exit) back) in
      let given = value_given at call.template call.arguments (left first second two) in
      let known = template_there (field_of at (codes "template")) call.template (right (first ++ second) third three) in (
        name.0,
        record {
          step = name.1;
          there = and_true (has_template m call.template) (hook_is_there m call.exit) known hook.there;
          values = and_true (gives_values (template_named m call.template) call.arguments) (hook_gives_values m call.exit) given hook.values;
          differ = and_true (all_differ (argument_names call.arguments)) (list_all all_differ (hook_lists call.exit)) good.0 hook.differ;
          names = and_true (list_all is_name (argument_names call.arguments)) (list_all (list_all is_name) (hook_lists call.exit)) good.1 hook.names;
        },
      )

  abbrev pub AreGood : List Call → Type 0
  AreGood [] = Unit {0}
  AreGood (c ∷ cs) = CallGood c × AreGood cs

  pub good_more : (cs ds : List Call) → AreGood cs → AreGood ds → AreGood (cs ++ ds)
  good_more [] ds g h = h
  good_more (c ∷ cs) ds g h = (g.0, good_more cs ds g.1 h)

  group_good : (a : Around) (at : Path) (k j : ℕ) (cs : List Call) → Clear (group_places (of_manifest a) at k j cs) → Fresh (call_names a.steps) k (call_names cs) × AreGood cs
  group_good a at k j [] c = (tt, tt)
  group_good a at k j (call ∷ cs) c =
      let here = member_of at j in
      let again = is_among (take k (call_names a.steps)) call.name in
      let front = call_front (of_manifest a) again here call in
      let back = call_back (of_manifest a) here call in
      let rest = group_places (of_manifest a) at (suc k) (suc j) cs in
      let both = left (front ++ back) rest c in
      let good = call_good a again here call (left front back both) (right front back both) in
      let later = group_good a at (suc k) (suc j) cs (right (front ++ back) rest c) in
      ((good.0, later.0), (good.1, later.1))

  pub groups_good : (a : Around) (at : Path) (k g : ℕ) (gs : List (List Call)) → Clear (groups_places (of_manifest a) at k g gs) → Fresh (call_names a.steps) k (call_names (calls_in gs)) × AreGood (calls_in gs)
  groups_good a at k g [] c = (tt, tt)
  groups_good a at k g (cs ∷ gs) c =
      let first = group_places (behind (of_manifest a) k) (member_of at g) k 0 cs in
      let rest = groups_places (of_manifest a) at (k + length cs) (suc g) gs in
      let here = group_good (behind a k) (member_of at g) k 0 cs (left first rest c) in
      let later = groups_good a at (k + length cs) (suc g) gs (right first rest c) in
      let long : length (call_names cs) ≡ length cs = length-map cs (λ (c : Call). c.name) in
      let shifted = subst (λ (n : ℕ). Fresh (call_names a.steps) (k + n) (call_names (calls_in gs))) (sym long) later.0 in (
        subst (Fresh (call_names a.steps) k) (sym (map-append (λ (c : Call). c.name) cs (calls_in gs))) (fresh_more (call_names a.steps) (call_names cs) (call_names (calls_in gs)) k here.0 shifted),
        good_more cs (calls_in gs) here.1 later.1,
      )
