-- The tags of a group begin with `steps.`; and how tags that all begin so pass by others.
use Rattle.std.proofs.Common.{◌≡◌, ℕ, List, [], ◌∷◌, ◌++◌, ◌&&◌, Bool, true, false, Option, Some, None, refl, ap, ◌∙◌, eq-eqb}
use Rattle.std.specs.Prelude.{if◌then◌else◌, bytes_eq, codes, nat_eq}
use Rattle.std.specs.List.{starts_with, list_all}
use Rattle.std.proofs.lemmas.Slice.Eq.{bytes_eq-Decides}
use Rattle.tree_types.specs.declared.outcome.Param.{Param}
use Rattle.tree_types.specs.Phases.{fulfilled, phase_text}
use Rattle.scopes.specs.Substitution.{Scope, value_in}
use Rattle.meaning.specs.Lines.{Made, result_tag, output_tags, status_tag, tags_of}
use Rattle.meaning.specs.Steps.{Member, group_tags}
use Rattle.mentions.specs.Unasked.{GroupTagsBeginSo}

-- ---- tags that all begin so

-- the first one begins so, and the others do
parts : (a b : Bool) → (a && b) ≡ true → (a ≡ true) × (b ≡ true)
parts true b e = (refl, e)
parts false b e = absurd (cc)

starts : (start name more : List ℕ) → starts_with nat_eq ((start ++ name) ++ more) start ≡ true
starts [] name more = refl
starts (c ∷ start) name more =
    ap (λ (b : Bool). b && starts_with nat_eq ((start ++ name) ++ more) start) (eq-eqb c c refl) ∙ starts start name more

starts_far : (start name more last : List ℕ) → starts_with nat_eq (((start ++ name) ++ more) ++ last) start ≡ true
starts_far [] name more last = refl
starts_far (c ∷ start) name more last =
    ap (λ (b : Bool). b && starts_with nat_eq (((start ++ name) ++ more) ++ last) start) (eq-eqb c c refl) ∙ starts_far start name more last

module _ (start : List ℕ) where
  abbrev begins_so : List ℕ → Bool
  begins_so tag = starts_with nat_eq tag start

  abbrev pub begin_so : Scope → Bool
  begin_so tags = list_all (λ e. begins_so e.0) tags

  pub both : (front back : Scope) → begin_so front ≡ true → begin_so back ≡ true → begin_so (front ++ back) ≡ true
  both [] back one two = two
  both (e ∷ front) back one two =
      let of = parts (begins_so e.0) (begin_so front) one in
      ap (λ (b : Bool). b && begin_so (front ++ back)) of.0 ∙ both front back of.1 two

  one_more : (tag value : List ℕ) (tags : Scope) → begins_so tag ≡ true → begin_so tags ≡ true → begin_so ((tag, value) ∷ tags) ≡ true
  one_more tag value tags one others = ap (λ (b : Bool). b && begin_so tags) one ∙ others

  module _ (name : List ℕ) where
    abbrev label : List ℕ
    label = start ++ name

    result_so : (r : Option (List ℕ)) → begin_so (result_tag label r) ≡ true
    result_so None = refl
    result_so (Some r) = one_more (label ++ codes ".outputs.result") r [] (starts start name (codes ".outputs.result")) refl

    outputs_so : (ps : List Param) → begin_so (output_tags label ps) ≡ true
    outputs_so [] = refl
    outputs_so (p ∷ ps) =
        let more = codes ".outputs.parameters." in
        one_more (label ++ more ++ p.name) p.value (output_tags label ps) (starts_far start name more p.name) (outputs_so ps)

    all_or_none : (tags : Scope) (b : Bool) → begin_so tags ≡ true → begin_so (if b then tags else []) ≡ true
    all_or_none tags true so = so
    all_or_none tags false so = refl

    pub tags_so : (m : Made) → begin_so (tags_of label m) ≡ true
    tags_so m =
        let n = m.own.node in
        let rest = result_tag label n.outputs.result ++ output_tags label n.outputs.params in
        all_or_none (status_tag label n.phase ++ rest) (fulfilled n.phase)
        (one_more (label ++ codes ".status") (phase_text n.phase) rest (starts start name (codes ".status"))
        (both (result_tag label n.outputs.result) (output_tags label n.outputs.params) (result_so n.outputs.result) (outputs_so n.outputs.params)))

  -- behind them each other tag keeps its value
  differs : (one tag : List ℕ) → begins_so one ≡ true → begins_so tag ≡ false → (b : Bool) → bytes_eq one tag ≡ b → b ≡ false
  differs one tag begins other false is = refl
  differs one tag begins other true is =
      let same : begins_so one ≡ begins_so tag = ap begins_so ((bytes_eq-Decides one tag).0 is) in
      absurd (cc)

  pub passed : (tags scope : Scope) (tag : List ℕ) → begin_so tags ≡ true → begins_so tag ≡ false → value_in (tags ++ scope) tag ≡ value_in scope tag
  passed [] scope tag so other = refl
  passed (e ∷ tags) scope tag so other =
      let of = parts (begins_so e.0) (begin_so tags) so in
      ap (λ (b : Bool). if b then Some e.1 else value_in (tags ++ scope) tag) (differs e.0 tag of.0 other (bytes_eq e.0 tag) refl) ∙ passed tags scope tag of.1 other

-- ---- a group

group_so : (ms : List Member) → begin_so (codes "steps.") (group_tags ms) ≡ true
group_so [] = refl
group_so (m ∷ ms) = both (codes "steps.") (tags_of (codes "steps." ++ m.0.name) m.1) (group_tags ms) (tags_so (codes "steps.") m.0.name m.1) (group_so ms)

pub group_tags_begin_so : GroupTagsBeginSo
group_tags_begin_so ms scope = λ tag other. passed (codes "steps.") (group_tags ms) scope tag (group_so ms) other
