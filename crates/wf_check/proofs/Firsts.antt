-- What the answer of a rule says of the places.
use Rattle.std.proofs.Common.{◌≡◌, ◌≢◌, ℕ, Bool, true, false, List, [], ◌∷◌, Ok, Err, refl, sym, ap}
use Rattle.std.specs.Prelude.{◌==◌, if◌then◌else◌}
use Rattle.std.proofs.lemmas.Bool.{eqb-true, eqb-false}
use Rattle.std.proofs.lemmas.List.Elements.{All-nil, All-cons}
use Rattle.field_kinds.specs.Reading.{Refusal, refuse_by}
use Rattle.wf_places.specs.declared.place.Place.{Place}
use Rattle.wf_check.specs.Verdicts.{asked}
use Rattle.wf_check.specs.Laws.{NoneBreaks, IsFirst}

pub asked_ok : (rule : ℕ) (places : List Place) → asked rule places ≡ Ok tt → NoneBreaks rule places
asked_ok rule [] e = All-nil (λ p. p.rule ≢ rule)
asked_ok rule (p ∷ ps) e = by (p.rule == rule) refl e (asked_ok rule ps)
  where
    by : (b : Bool) → (p.rule == rule) ≡ b → (if b then refuse_by rule p.field else asked rule ps) ≡ Ok tt → (asked rule ps ≡ Ok tt → NoneBreaks rule ps) → NoneBreaks rule (p ∷ ps)
    by true is h later = absurd cc
    by false is h later = All-cons (λ q. q.rule ≢ rule) p ps (eqb-false p.rule rule is) (later h)

pub asked_err : (rule : ℕ) (places : List Place) (refusal : Refusal) → asked rule places ≡ Err refusal → IsFirst rule places refusal
asked_err rule [] refusal e = absurd cc
asked_err rule (p ∷ ps) refusal e = by (p.rule == rule) refl e (asked_err rule ps refusal)
  where
    by : (b : Bool) → (p.rule == rule) ≡ b → (if b then refuse_by rule p.field else asked rule ps) ≡ Err refusal → (asked rule ps ≡ Err refusal → IsFirst rule ps refusal) → IsFirst rule (p ∷ ps) refusal
    by true is h later =
        let same : record { rule = rule; field = p.field } ≡ refusal = cc in
        record {
          front = [];
          place = p;
          rest = ps;
          stands = refl;
          breaks = eqb-true p.rule rule is;
          none_before = All-nil (λ q. q.rule ≢ rule);
          refused = sym same;
        }
    by false is h later =
        let first = later h in
        record {
          front = p ∷ first.front;
          place = first.place;
          rest = first.rest;
          stands = ap (λ qs. p ∷ qs) first.stands;
          breaks = first.breaks;
          none_before = All-cons (λ q. q.rule ≢ rule) p first.front (eqb-false p.rule rule is) first.none_before;
          refused = first.refused;
        }
