-- A new turn meets the rule.
use Rattle.std.proofs.Common.{◌≡◌, ℕ, ◌<◌, ◌^◌, zero, suc, true, List, [], ◌∷◌, length, refl, sym, subst, arith}
use Rattle.std.proofs.lemmas.Bool.Decides.{nat_tests}
use mathlib.Core.Option.{some}
use lib.ListN.{get_elem?}
use Rattle.atomic_table.specs.Table.{opening}
use Rattle.store_turn.specs.declared.rule.View.{View}
use Rattle.store_turn.specs.Lists.{StartsWith}
use Rattle.store_turn.specs.Places.{within}
use Rattle.store_turn.specs.Steps.{first_view}
use Rattle.store_turn.specs.Tickets.{InTurn, ViewOk}
use Rattle.store_turn.proofs.Lists.{some_one, some_none, home_one, true_false, starts_here, starts_none}

only_first : {A : Type 0} (P : A → Type 0) (x : A) → P x → (j : ℕ) (y : A) → get_elem? (x ∷ []) j ≡ some y → P y
only_first P x p zero y e = subst P (some_one x y e) p
only_first P x p (suc j) y e = cc

no_ticket_out : (k : ℕ) → 0 ≡ within 0 0 k
no_ticket_out k = grind (arith, nat_tests)

module _ {E T B : Type 0} (list : T → List E) (base : T → B) where
  pub opens : (n : ℕ) (y : T) → n ≡ length (list y) → n < 2 ^ 64 → InTurn list base (base y) (opening (n ∷ 0 ∷ 0 ∷ []) (y ∷ []) (first_view (list y) (base y)))
  opens n y e fits = record {
    entries = n;
    drawn = 0;
    next = 0;
    words = refl;
    small = fits;
    out = refl;
    each = λ k. no_ticket_out k;
    shares = refl;
    views = only_first (λ (x : View E B). ViewOk (base y) 0 n x) (first_view (list y) (base y))
        record { part = omega arith; served = λ q. absurd (true_false (sym q)); read = λ q. absurd (true_false (sym q)); short = omega arith; based = λ _. refl; left = starts_none (list y); right = starts_none (list y); placed = record { rises = tt; low = λ x e. absurd (omega arith) } };
    under = λ j z ez r i x ex. absurd (only_first (λ (x : View E B). x.read ≡ true → ⊥) (first_view (list y) (base y)) (λ q. true_false (sym q)) j z ez r);
    home = λ z h. subst (λ z. (length (list z) ≡ n) × (base z ≡ base y) × ((j : ℕ) (x : View E B) → get_elem? (first_view (list y) (base y) ∷ []) j ≡ some x → StartsWith (list z) x.seen)) (home_one y z h)
        (sym e, refl, only_first (λ (x : View E B). StartsWith (list y) x.seen) (first_view (list y) (base y)) (starts_here (list y)));
    one = (some y, refl);
    full = (0, (first_view (list y) (base y), refl, record { share = omega arith; all = sym e }));
    away = λ q. absurd (some_none y q);
    taken = λ j x ex r. absurd (only_first (λ (x : View E B). x.read ≡ true → ⊥) (first_view (list y) (base y)) (λ q. true_false (sym q)) j x ex r);
    places = λ x. omega arith;
  }
