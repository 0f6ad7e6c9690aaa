-- What templates that are read keep of `Valid`: their lists and retries are within their limits.
use Rattle.std.proofs.Common.{◌≡◌, ℕ, ◌≤◌, Bool, true, false, ◌||◌, cond, List, [], ◌∷◌, map, Option, Some, None, refl, subst}
use Rattle.std.specs.Prelude.{IsTrue, IfSome, ◌&&◌, codes, nat_lt, nat_le}
use Rattle.std.specs.List.{list_all, flat_map}
use Rattle.std.specs.Str.Parse.{digits_value}
use Rattle.std.proofs.lemmas.Bool.{and_from, ltb-false, le-leb}
use Rattle.base_types.specs.Limits.{most_members, most_retries}
use Rattle.wf_manifest.specs.declared.templates.Input.{Input}
use Rattle.wf_manifest.specs.declared.templates.OutputDecl.{OutputDecl}
use Rattle.wf_manifest.specs.declared.templates.Body.{Body}
use Rattle.wf_manifest.specs.declared.templates.Policy.TheVariants.{OnFailure}
use Rattle.wf_manifest.specs.declared.templates.Retry.{Retry}
use Rattle.wf_manifest.specs.declared.templates.Template.{Template}
use Rattle.wf_manifest.specs.Valid.{calls_of, call_lists, template_lists, is_short, body_is_short, limit_fits, retry_fits}
use Rattle.field_kinds.specs.Kinds.{text, any_text, of, json_object, object_of, list_of}
use Rattle.field_kinds.specs.Fields.{optional, required, default, refused_all, unsupported_if}
use Rattle.field_kinds.proofs.Makes.{Makes, then_ok, ok_is, makes_of, makes_object, makes_optional, makes_required, makes_default}
use Rattle.call_reader.specs.Calls.{groups, dag_fields}
use Rattle.call_reader.proofs.Kept.{ShortOf, short_list, short_names, anything, GroupsKept, groups_kept, DagKept, dag_kept}
use Rattle.template_reader.specs.declared.bodies.BodyKind.{BodyKind}
use Rattle.template_reader.specs.declared.bodies.BodyKind.TheVariants as kind
use Rattle.template_reader.specs.declared.templates.TemplateHead.{TemplateHead}
use Rattle.template_reader.specs.declared.templates.TemplateTail.{TemplateTail}
use Rattle.template_reader.specs.Locks.{lock_said}
use Rattle.template_reader.specs.Texts.{is_short_number, within, retry_limit, policy_named}
use Rattle.template_reader.specs.Templates.{first_body, input_fields, inputs_fields, inputs, output_fields, outputs_fields, outputs, memoize_fields, backoff_fields, is_no_pod, retry_fields, suspend_fields, body_by, behind, no_others, body_in, template_refused, head_fields, tail_fields, template_of, template_fields}

abbrev Short : {A : Type 0} → List A → Type 0
Short xs = IsTrue (is_short xs)

abbrev Any : {A : Type 0} → A → Type 0
Any x = Unit {0}

-- ---- inputs and outputs

inputs_fields_kept : Makes inputs_fields Short
unfolding inputs_fields
inputs_fields_kept at d xs e =
    let a = then_ok (refused_all (codes "artifacts" ∷ []) at d) _ xs e in
    (makes_default (list_of most_members (object_of input_fields)) (ShortOf Any) [] (codes "parameters") (refl, tt) (short_list (object_of input_fields) Any (anything (object_of input_fields))) at d xs a.2).0

inputs_kept : Makes inputs Short
inputs_kept = makes_default (object_of inputs_fields) Short [] (codes "inputs") refl (makes_object inputs_fields Short inputs_fields_kept)

outputs_fields_kept : (found : Option BodyKind) → Makes (outputs_fields found) Short
unfolding outputs_fields
outputs_fields_kept found at d xs e =
    let a = then_ok (refused_all (codes "artifacts" ∷ codes "result" ∷ codes "exitCode" ∷ []) at d) _ xs e in
    (makes_default (list_of most_members (object_of (output_fields found))) (ShortOf Any) [] (codes "parameters") (refl, tt) (short_list (object_of (output_fields found)) Any (anything (object_of (output_fields found)))) at d xs a.2).0

outputs_kept : (found : Option BodyKind) → Makes (outputs found) Short
outputs_kept found =
    makes_default (object_of (outputs_fields found)) Short [] (codes "outputs") refl (makes_object (outputs_fields found) Short (outputs_fields_kept found))

-- ---- bodies

-- its lists, and the lists of parameters of its calls
abbrev BodyKept : Body → Type 0
BodyKept b = IsTrue (body_is_short b) × IsTrue (list_all is_short (flat_map call_lists (calls_of b)))

body_kept : (found : Option BodyKind) → Makes (body_by found) BodyKept
body_kept None at d b e = absurd cc
body_kept (Some kind.Container) at d b e = let a = then_ok (optional json_object (codes "container") at d) _ b e in subst BodyKept (ok_is _ _ a.2) (refl, refl)
body_kept (Some kind.Script) at d b e = let a = then_ok (optional json_object (codes "script") at d) _ b e in subst BodyKept (ok_is _ _ a.2) (refl, refl)
body_kept (Some kind.Steps) at d b e =
    let a = then_ok (required groups (codes "steps") at d) _ b e in
    subst BodyKept (ok_is _ _ a.2) (makes_required groups GroupsKept (codes "steps") groups_kept at d a.0 a.1)
body_kept (Some kind.Dag) at d b e =
    let a = then_ok (required (object_of dag_fields) (codes "dag") at d) _ b e in
    subst BodyKept (ok_is _ _ a.2) (makes_required (object_of dag_fields) DagKept (codes "dag") (makes_object dag_fields DagKept dag_kept) at d a.0 a.1)
body_kept (Some kind.Suspend) at d b e = let a = then_ok (required (object_of suspend_fields) (codes "suspend") at d) _ b e in subst BodyKept (ok_is _ _ a.2) (refl, refl)

only_body_kept : (found : Option BodyKind) → Makes (body_in found) BodyKept
unfolding body_in
only_body_kept found at d b e =
    let a = then_ok (body_by found at d) _ b e in
    let o = then_ok (no_others (behind found) at d) _ b a.2 in
    subst BodyKept (ok_is _ _ o.2) (body_kept found at d a.0 a.1)

-- ---- retries

abbrev RetryKept : Option Retry → Type 0
RetryKept retry = IsTrue (retry_fits retry)

abbrev number : ℕ → Option ℕ
number n = Some n

right_false : (a b : Bool) → (a || b) ≡ false → b ≡ false
right_false true b e = absurd cc
right_false false b e = e

within_fits : (n x : ℕ) (out : Bool) → (nat_lt n 0 || nat_lt most_retries n) ≡ out → cond out None (number n) ≡ number x → IsTrue (nat_le x most_retries)
within_fits n x true is e = absurd cc
within_fits n x false is e =
    let same : n ≡ x = cc in
    let few : n ≤ most_retries = ltb-false most_retries n (right_false (nat_lt n 0) (nat_lt most_retries n) is) in
    subst (λ k. IsTrue (nat_le k most_retries)) same (le-leb n most_retries few)

number_fits : (t : List ℕ) (x : ℕ) (short : Bool) → cond short (within 0 most_retries (digits_value 10 t)) None ≡ number x → IsTrue (nat_le x most_retries)
number_fits t x true e = let n = digits_value 10 t in within_fits n x (nat_lt n 0 || nat_lt most_retries n) refl e
number_fits t x false e = absurd cc

limit_kept : Makes (of retry_limit any_text) (λ limit. IsTrue (nat_le limit most_retries))
limit_kept at d x e = let t = makes_of retry_limit any_text at d x e in number_fits t.0 x (is_short_number t.0) t.1

limit_said : (limit : Option ℕ) → IfSome limit (λ limit. IsTrue (nat_le limit most_retries)) → IsTrue (limit_fits limit)
limit_said None fits = refl
limit_said (Some limit) fits = fits

retry_fields_kept : (found : Option BodyKind) → Makes (retry_fields found) (λ r. IsTrue (limit_fits r.limit))
unfolding retry_fields
retry_fields_kept found at d r e =
    let a = then_ok (refused_all (codes "expression" ∷ codes "affinity" ∷ []) at d) _ r e in
    let b = then_ok (unsupported_if (is_no_pod found) at) _ r a.2 in
    let l = then_ok (optional (of retry_limit any_text) (codes "limit") at d) _ r b.2 in
    let p = then_ok (default OnFailure (of policy_named any_text) (codes "retryPolicy") at d) _ r l.2 in
    let o = then_ok (optional (object_of backoff_fields) (codes "backoff") at d) _ r p.2 in
    let fits = limit_said l.0 (makes_optional (of retry_limit any_text) (λ limit. IsTrue (nat_le limit most_retries)) (codes "limit") limit_kept at d l.0 l.1) in
    subst (λ r. IsTrue (limit_fits r.limit)) (ok_is (record { limit = l.0; policy = p.0; backoff = o.0 }) r o.2) fits

retry_said : (retry : Option Retry) → IfSome retry (λ r. IsTrue (limit_fits r.limit)) → RetryKept retry
retry_said None fits = refl
retry_said (Some r) fits = fits

retry_kept : (found : Option BodyKind) → Makes (optional (object_of (retry_fields found)) (codes "retryStrategy")) RetryKept
retry_kept found at d retry e =
    let fields = retry_fields found in
    let fits = makes_object fields (λ r. IsTrue (limit_fits r.limit)) (retry_fields_kept found) in
    retry_said retry (makes_optional (object_of fields) (λ r. IsTrue (limit_fits r.limit)) (codes "retryStrategy") fits at d retry e)

-- ---- templates

-- its lists, its lists of parameters, and its retries
pub record TemplateKept (t : Template) : Type 0 where
  pub body : IsTrue (body_is_short t.body)
  pub lists : IsTrue (list_all is_short (template_lists t))
  pub retries : IsTrue (retry_fits t.retry)

lists_kept : (t : Template) → Short t.inputs → Short t.outputs → BodyKept t.body → RetryKept t.retry → TemplateKept t
lists_kept t taken given made fits =
    let inputs = map (λ (i : Input). i.name) t.inputs in
    let outputs = map (λ (o : OutputDecl). o.name) t.outputs in
    let rest = list_all is_short (flat_map call_lists (calls_of t.body)) in record {
      body = made.0;
      lists = and_from (is_short inputs) (is_short outputs && rest) (short_names (λ (i : Input). i.name) t.inputs taken)
          (and_from (is_short outputs) rest (short_names (λ (o : OutputDecl). o.name) t.outputs given) made.1);
      retries = fits;
    }

record HeadKept (head : TemplateHead) : Type 0 where
  inputs : Short head.inputs
  outputs : Short head.outputs

head_kept : (namespace : List ℕ) → Makes (head_fields namespace) HeadKept
unfolding head_fields
head_kept namespace at d head e =
    let a = then_ok (template_refused at d) _ head e in
    let b = then_ok (required text (codes "name") at d) _ head a.2 in
    let i = then_ok (inputs at d) _ head b.2 in
    let o = then_ok (outputs (first_body d) at d) _ head i.2 in
    let l = then_ok (lock_said namespace at d) _ head o.2 in
    subst HeadKept (ok_is (record { name = b.0; inputs = i.0; outputs = o.0; lock = l.0 }) head l.2) (record { inputs = inputs_kept at d i.0 i.1; outputs = outputs_kept (first_body d) at d o.0 o.1 })

record TailKept (tail : TemplateTail) : Type 0 where
  body : BodyKept tail.body
  retry : RetryKept tail.retry

tail_kept : Makes tail_fields TailKept
unfolding tail_fields
tail_kept at d tail e =
    let m = then_ok (optional (object_of (memoize_fields (first_body d))) (codes "memoize") at d) _ tail e in
    let r = then_ok (optional (object_of (retry_fields (first_body d))) (codes "retryStrategy") at d) _ tail m.2 in
    let s = then_ok (body_in (first_body d) at d) _ tail r.2 in
    subst TailKept (ok_is (record { memoize = m.0; retry = r.0; body = s.0 }) tail s.2) (record { body = only_body_kept (first_body d) at d s.0 s.1; retry = retry_kept (first_body d) at d r.0 r.1 })

pub template_kept : (namespace : List ℕ) → Makes (template_fields namespace) TemplateKept
unfolding template_fields
template_kept namespace at d t e =
    let a = then_ok (head_fields namespace at d) _ t e in
    let b = then_ok (tail_fields at d) _ t a.2 in
    let head = head_kept namespace at d a.0 a.1 in
    let tail = tail_kept at d b.0 b.1 in
    subst TemplateKept (ok_is (template_of a.0 b.0) t b.2) (lists_kept (template_of a.0 b.0) head.inputs head.outputs tail.body tail.retry)
