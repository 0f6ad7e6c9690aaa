-- A marked task stays.
use Rattle.std.proofs.Common.{◌≡◌, List, Bool, true, Some, sym, ap, ◌∙◌}
use Rattle.std.specs.Prelude.{slice_get}
use Rattle.dag_stays.specs.Unmoved.{is_marked}
use Rattle.dag_stays.specs.Knowing.{Stays}
use Rattle.dag_stays.proofs.Told.{some_more, stays_told}
use Rattle.dag_stays.proofs.were.Were.stays.Goals as goal

pub returns : goal.returns
returns c =
    let w = c.args.self.now in
    let i = c.args.i in
    let on : is_marked w.marks i ≡ true = ap (λ (ms : List Bool). is_marked ms i) (sym c.as_slice.ensures) ∙ sym c.is_marked.ensures ∙ c.if-not-is_marked.false in
    some_more c.made_at.result (λ old. slice_get w.made.items i ≡ Some (Some old.now)) (λ old. Stays w i old.now) (λ old found. stays_told w i old.now found on) c.made_at.ensures
