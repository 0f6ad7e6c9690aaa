-- Places that the rules let pass: none of the rules is broken there.
use Rattle.std.proofs.Common.{◌≡◌, ℕ, Bool, true, false, ◌||◌, not, List, [], ◌∷◌, ◌++◌, Ok, Err, refl, sym, ap, ◌∙◌}
use Rattle.std.specs.Prelude.{◌==◌, if◌then◌else◌}
use Rattle.std.specs.List.{list_any}
use Rattle.json_fields.specs.Paths.{Path}
use Rattle.field_kinds.specs.Reading.{Read, ◌>>=◌, refuse_by}
use Rattle.field_kinds.specs.Rules as rules
use Rattle.wf_places.specs.declared.place.Place.{Place}
use Rattle.wf_places.specs.Broken.{broken}
use Rattle.wf_check.specs.Verdicts.{asked, checked}

abbrev order : List ℕ
order =
    rules.double_name ∷ rules.bad_name ∷ rules.unknown_name ∷ rules.depends_mix ∷ rules.cycle ∷ rules.unknown_lock ∷ rules.misplaced_tag ∷ rules.unknown_parameter ∷ rules.not_ancestor ∷ []

abbrev pub is_asked : ℕ → Bool
is_asked rule = list_any (λ other. rule == other) order

abbrev pub Clear : List Place → Type 0
Clear [] = Unit {0}
Clear (p ∷ ps) = (is_asked p.rule ≡ false) × Clear ps

abbrev AllOk : List ℕ → List Place → Type 0
AllOk [] ps = Unit {0}
AllOk (r ∷ rs) ps = (asked r ps ≡ Ok tt) × AllOk rs ps

one : (r : ℕ) (p : Place) (ps : List Place) → asked r (p ∷ ps) ≡ Ok tt → ((p.rule == r) ≡ false) × (asked r ps ≡ Ok tt)
one r p ps e = by (p.rule == r) refl e
  where
    by : (b : Bool) → (p.rule == r) ≡ b → (if b then refuse_by r p.field else asked r ps) ≡ Ok tt → ((p.rule == r) ≡ false) × (asked r ps ≡ Ok tt)
    by true is h = absurd cc
    by false is h = (is, h)

each : (rs : List ℕ) (p : Place) (ps : List Place) → AllOk rs (p ∷ ps) → (list_any (λ other. p.rule == other) rs ≡ false) × AllOk rs ps
each [] p ps h = (refl, tt)
each (r ∷ rs) p ps h =
    let here = one r p ps h.0 in
    let later = each rs p ps h.1 in
    (ap (λ b. b || list_any (λ other. p.rule == other) rs) here.0 ∙ later.0, (here.1, later.1))

all_clear : (ps : List Place) → AllOk order ps → Clear ps
all_clear [] h = tt
all_clear (p ∷ ps) h = let here = each order p ps h in (here.0, all_clear ps here.1)

ask : (a rest : Read (Unit {0})) → (a >>= λ _. rest) ≡ Ok tt → (a ≡ Ok tt) × (rest ≡ Ok tt)
ask (Ok x) rest e = (refl, e)
ask (Err refusal) rest e = absurd cc

pub checked_clear : (ps : List Place) → checked ps ≡ Ok tt → Clear ps
unfolding checked
checked_clear ps e =
    let r9 = asked rules.not_ancestor ps in
    let r8 = asked rules.unknown_parameter ps >>= λ _. r9 in
    let r7 = asked rules.misplaced_tag ps >>= λ _. r8 in
    let r6 = asked rules.unknown_lock ps >>= λ _. r7 in
    let r5 = asked rules.cycle ps >>= λ _. r6 in
    let r4 = asked rules.depends_mix ps >>= λ _. r5 in
    let r3 = asked rules.unknown_name ps >>= λ _. r4 in
    let r2 = asked rules.bad_name ps >>= λ _. r3 in
    let a1 = ask (asked rules.double_name ps) r2 e in
    let a2 = ask (asked rules.bad_name ps) r3 a1.1 in
    let a3 = ask (asked rules.unknown_name ps) r4 a2.1 in
    let a4 = ask (asked rules.depends_mix ps) r5 a3.1 in
    let a5 = ask (asked rules.cycle ps) r6 a4.1 in
    let a6 = ask (asked rules.unknown_lock ps) r7 a5.1 in
    let a7 = ask (asked rules.misplaced_tag ps) r8 a6.1 in
    let a8 = ask (asked rules.unknown_parameter ps) r9 a7.1 in
    all_clear ps (a1.0, (a2.0, (a3.0, (a4.0, (a5.0, (a6.0, (a7.0, (a8.0, (a8.1, tt)))))))))

pub left : (xs ys : List Place) → Clear (xs ++ ys) → Clear xs
left [] ys c = tt
left (x ∷ xs) ys c = (c.0, left xs ys c.1)

pub right : (xs ys : List Place) → Clear (xs ++ ys) → Clear ys
right [] ys c = c
right (x ∷ xs) ys c = right xs ys c.1

-- a rule that is asked is not broken
pub unbroken : (rule : ℕ) → is_asked rule ≡ true → (is : Bool) (path : Path) → Clear (broken rule is path) → is ≡ false
unbroken rule known true path c = let e : false ≡ true = sym c.0 ∙ known in absurd cc
unbroken rule known false path c = refl

pub holds : (rule : ℕ) → is_asked rule ≡ true → (is : Bool) (path : Path) → Clear (broken rule (not is) path) → is ≡ true
holds rule known true path c = refl
holds rule known false path c = let e : false ≡ true = sym c.0 ∙ known in absurd cc
