-- A part that is longer than a text is not its front.
use Rattle.std.specs.Prelude.{◌≡◌, ◌<◌, [], ◌∷◌, length, false, ◌==◌, refl, None}
use Rattle.std.proofs.Common.{arith}
use Rattle.std.proofs.lemmas.Bool.{cond_both}
use Rattle.connectives.specs.Grammar.{Text}
use Rattle.depends_expr.specs.Inside.Operands.{behind, is_found}

pub too_long : (p t : Text) → length t < length p → false ≡ is_found (behind p t)
too_long [] t h = absurd (omega arith)
too_long (b ∷ bs) [] h = refl
too_long (b ∷ bs) (c ∷ cs) h = cond_both (b == c) (behind bs cs) None (λ x. false ≡ is_found x) (λ _. too_long bs cs (omega arith)) (λ _. refl)
