-- One draw more.
use Rattle.std.proofs.Common.{◌≡◌, ℕ, suc, ◌+◌, ◌-◌, ◌<◌, List, [], ◌∷◌, ◌++◌, ap, sym, ◌∙◌, refl, arith, append_assoc, add-one}
use Rattle.generator.specs.declared.draws.Drawn.{Drawn}
use Rattle.generator.specs.Draws.{next, number, drawn_by, drawn}

-- while some are left, the next one is the first of them
draws_one : (s i n : ℕ) → i < n → drawn s i (n - i) ≡ drawn_by i (number (next s)) ∷ drawn (next s) (i + 1) (n - (i + 1))
draws_one s i n h =
    let left : n - i ≡ suc (n - (i + 1)) = omega arith in
    ap (drawn s i) left ∙ rw add-one refl

-- it goes from what is left to what is drawn
pub draws_more : (ds es : List Drawn) (s t i n : ℕ) (d : Drawn) (all : List Drawn) → i < n → t ≡ next s → d ≡ drawn_by i (number t)
    → es ≡ ds ++ d ∷ [] → ds ++ drawn s i (n - i) ≡ all → es ++ drawn t (i + 1) (n - (i + 1)) ≡ all
draws_more ds es s t i n d all h stepped made pushed so =
    rw (pushed, made, stepped) (append_assoc ds _ _ ∙ ap (λ xs. ds ++ xs) (sym (draws_one s i n h)) ∙ so)
