use Rattle.std.proofs.Common.{◌≡◌, ◌-◌, ◌∷◌, length, Option, Some, None, refl, sym, ap, ◌∙◌, subst, Bor, unwrap_or}
use Rattle.std.specs.Prelude.{slice_get}
use Rattle.std.specs.Option.{option_copied}
use Rattle.object_store.specs.Inside.Rows.{StandsIn}
use Rattle.object_store.proofs.Places.{get_last}
use Rattle.object_store.proofs.Rows.{last_stands}
use Rattle.object_store.proofs.line.Line.last.Goals as goal

behind : {A : Type 0} (o : Option (Bor A)) (d : Bor A) → unwrap_or (option_copied o) d.now ≡ (unwrap_or o d).now
behind None d = refl
behind (Some b) d = refl

pub returns : goal.returns
returns g c = λ ms stands.
    let s = c.self.inside in
    let at_end : slice_get (s.first ∷ s.later.items) (length s.later.items) ≡ Some c.unwrap_or.result.now =
    get_last s.first s.later.items
    ∙ ap (λ xs. Some (unwrap_or (slice_get xs (length xs - 1)) s.first)) (sym c.deref.ensures.value)
    ∙ ap (λ o. Some (unwrap_or o s.first)) (sym c.last.ensures.value)
    ∙ ap Some (behind c.last.result _)
    ∙ ap (λ b. Some b.now) (sym c.unwrap_or.ensures) in
    let here = subst (λ r. StandsIn r ms) (sym c.self.view_is) stands in
    subst (λ r. slice_get ms (length r.changes) ≡ Some c.unwrap_or.result.now) c.self.view_is (last_stands _ ms c.unwrap_or.result.now c.self.invariant here at_end)
