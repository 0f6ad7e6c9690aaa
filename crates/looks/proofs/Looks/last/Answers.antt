use Rattle.std.proofs.Common.{ap, ◌∙◌}
use Rattle.std.specs.Prelude.{slice_get}
use Rattle.looks.proofs.Places.{lent, none_found, one_found}
use Rattle.looks.proofs.Looks.last.Goals as goal

pub returns-in-None : goal.returns-in-None
returns-in-None g c =
    none_found c.self.inside.places c.self.inside.looks.items c.args.self.now c.args.name.now c.self.invariant c.self.view_is c.in-None.ensures.value

pub returns-in-Some : goal.returns-in-Some
returns-in-Some g c =
    lent c.deref.result.now c.in-Some.place.now c.get-in-Some.result c.get-in-Some.ensures.lookup
    ∙ ap (λ xs. slice_get xs c.in-Some.place.now) c.deref.ensures.value
    ∙ one_found c.self.inside.places c.self.inside.looks.items c.args.self.now c.args.name.now c.in-Some.place.now c.self.invariant c.self.view_is c.in-Some.ensures.value
