-- The members of a group, one by one.
use Rattle.std.proofs.Common.{◌≡◌, ℕ, zero, suc, ◌+◌, ◌-◌, ◌<◌, min, List, [], ◌∷◌, ◌++◌, length, drop, Some, refl, ap, ap₂, sym, ◌∙◌, arith}
use Rattle.std.specs.Prelude.{map, zip, slice_get, codes}
use Rattle.wf_manifest.specs.declared.calls.Call.{Call}
use Rattle.scopes.specs.Substitution.{Scope, value_in}
use Rattle.scopes.specs.Values.{HasValuesOf}
use Rattle.scopes.proofs.ValueIn.{drop_place, append_alike}
use Rattle.meaning.specs.Lines.{Made, tags_of}
use Rattle.meaning.specs.Steps.{Member, makings, group_tags}
use Rattle.steps_template.specs.declared.groups.Member.{Member as Seen}
use Rattle.steps_template.specs.Opened.{seen}

-- ---- they are their calls and what these made

zipped : (ms : List Member) → zip (map (λ (m : Member). m.0) ms) (makings ms) ≡ ms
zipped [] = refl
zipped (m ∷ ms) = ap (λ (rest : List Member). m ∷ rest) (zipped ms)

module _ (ms : List Member) (cs : List Call) (made : List Made) (calls : map (λ (m : Member). m.0) ms ≡ cs) (makes : makings ms ≡ made) where
  pub are_members : zip cs made ≡ ms
  are_members = sym (ap₂ (λ (c : List Call) (m : List Made). zip c m) calls makes) ∙ zipped ms

  -- their tags, once none is left
  pub tags_of_members : (left : ℕ) (tags : Scope) → left ≡ 0 → HasValuesOf tags (group_tags (drop left (zip cs made))) → HasValuesOf tags (group_tags ms)
  tags_of_members left tags none told q =
      told q ∙ ap (λ (n : ℕ). value_in (group_tags (drop n (zip cs made))) q) none ∙ ap (λ (z : List Member). value_in (group_tags z) q) are_members

-- ---- none is left behind the last

drop_none : {A : Type 0} (n : ℕ) → drop {A = A} n [] ≡ []
drop_none zero = refl
drop_none (suc n) = refl

pub none_left : (cs : List Call) (ms : List Made) (n : ℕ) → n ≡ min (length cs) (length ms) → drop n (zip cs ms) ≡ []
none_left [] ms n e = drop_none n
none_left (c ∷ cs) [] n e = drop_none n
none_left (c ∷ cs) (m ∷ ms) zero e = absurd (omega (arith, e))
none_left (c ∷ cs) (m ∷ ms) (suc n) e = none_left cs ms n (omega (arith, e))

-- ---- one member before those behind it

member_at : (cs : List Call) (ms : List Made) (i : ℕ) (c : Call) (m : Made) → slice_get cs i ≡ Some c → slice_get ms i ≡ Some m → slice_get (zip cs ms) i ≡ Some (c, m)
member_at [] ms i c m at there = absurd (cc)
member_at (x ∷ cs) [] i c m at there = absurd (cc)
member_at (x ∷ cs) (y ∷ ms) zero c m at there =
    let called : Some x ≡ Some c = at in
    let made : Some y ≡ Some m = there in
    let same_call : x ≡ c = cc in
    let same_made : y ≡ m = cc in
    ap₂ (λ (a : Call) (b : Made). Some (a, b)) same_call same_made
member_at (x ∷ cs) (y ∷ ms) (suc i) c m at there = member_at cs ms i c m at there

module _ (cs : List Call) (ms : List Made) (left : ℕ) (c : Call) (m : Made) (some : 0 < left) (at : slice_get cs (left - 1) ≡ Some c) (there : slice_get ms (left - 1) ≡ Some m) where
  one_more : drop (left - 1) (zip cs ms) ≡ (c, m) ∷ drop left (zip cs ms)
  one_more =
      let place : (left - 1) + 1 ≡ left = omega (arith, some) in
      drop_place (zip cs ms) (left - 1) (c, m) (member_at cs ms (left - 1) c m at there)
      ∙ ap (λ (n : ℕ). (c, m) ∷ drop n (zip cs ms)) place

  pub tags_with : (old new : Scope) → HasValuesOf new (tags_of (codes "steps." ++ c.name) m ++ old) → HasValuesOf old (group_tags (drop left (zip cs ms)))
      → HasValuesOf new (group_tags (drop (left - 1) (zip cs ms)))
  tags_with old new added told q =
      let its : Scope = tags_of (codes "steps." ++ c.name) m in
      added q
      ∙ append_alike its old (group_tags (drop left (zip cs ms))) told q
      ∙ ap (λ (z : List Member). value_in (group_tags z) q) (sym one_more)

-- ---- how they stand, from the first to the last

then_one : (old : List Seen) (x : Seen) (more : List Seen) → (old ++ x ∷ []) ++ more ≡ old ++ x ∷ more
then_one [] x more = refl
then_one (y ∷ old) x more = ap (λ (rest : List Seen). y ∷ rest) (then_one old x more)

pub seen_with :
    (cs : List Call) (ms : List Made) (i : ℕ) (c : Call) (m : Made) (old new : List Seen) (x : Seen) →
    slice_get cs i ≡ Some c → slice_get ms i ≡ Some m → new ≡ old ++ x ∷ [] → x ≡ seen (c, m) →
    new ++ map seen (drop (i + 1) (zip cs ms)) ≡ old ++ map seen (drop i (zip cs ms))
seen_with cs ms i c m old new x at there is its =
    let left : List Seen = map seen (drop (i + 1) (zip cs ms)) in
    ap (λ (xs : List Seen). xs ++ left) is
    ∙ then_one old x left
    ∙ ap (λ (y : Seen). old ++ y ∷ left) its
    ∙ ap (λ (rest : List Member). old ++ map seen rest) (sym (drop_place (zip cs ms) i (c, m) (member_at cs ms i c m at there)))
