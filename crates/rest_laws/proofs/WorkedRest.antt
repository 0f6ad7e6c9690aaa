-- A workflow that rests while its lock is released, and whose job then finds nothing to do.
use Rattle.std.proofs.Common.{◌≡◌, Bool, true, false, cond, [], ◌∷◌, refl, sym, ap, subst, Some, None, lit≤}
use Rattle.tree_types.specs.declared.entry.Entry.TheVariants.{Release, Tick}
use Rattle.history.specs.History.{Event, event}
use Rattle.history.proofs.Extends.{lawful-grown}
use Rattle.books.specs.declared.Request.{Request}
use Rattle.books.specs.Books.{is_holding, key_eq, released, held, request}
use Rattle.law.specs.Contents.{Content, flow}
use Rattle.law.specs.Justified.{key, Justified, IsLawful}
use Rattle.lawful.proofs.Facts.{some_same, none_some}
use Rattle.lawful.proofs.WorkedLocks.{w, mutex, m, D, k, r, J3, story, eight_lawful}
use Rattle.lawful.proofs.WorkedPremises.{valid_document}
use Rattle.next_step.specs.Hands.{for_flow}
use Rattle.run_laws.specs.Pods.{followed}
use Rattle.run_laws.specs.Whole.{went, Ran}
use Rattle.rest_laws.specs.Rest.{NothingDue, HoldsNone, Rests, IsAsleep}
use Rattle.rest_laws.proofs.Rest.{workflows_rest}

-- its pod has ended and nothing but the release of its lock is due
rests_before : Rests D (story 7) w
rests_before = λ f s. subst (NothingDue D (story 7) w) (some_same (flow m J3) f s)
    record { started = refl; settled = refl; filed = refl; looked_up = refl; armed = refl; rung = refl; resumed = refl; created = refl; saved = refl; submitted = refl }

-- the release does not concern what else is due of it
rests_behind : Rests D (story 8) w
rests_behind = workflows_rest.stays D (story 7) w (event (Release mutex k) None ∷ []) eight_lawful refl refl rests_before

holds_none : HoldsNone (story 8) w
holds_none p q e = by (key_eq (key w p) k) e
  where
    gone : Request
    gone = released (held (request mutex k r))

    by : (b : Bool) → cond b (Some gone) None ≡ Some q → is_holding q.state ≡ false
    by true e = ap (λ (x : Request). is_holding x.state) (sym (some_same gone q e))
    by false e = none_some q e

finds_nothing : Ran D (story 8) (for_flow w) went (story 8)
finds_nothing = workflows_rest.idle D (story 8) w valid_document eight_lawful holds_none rests_behind

rests_again : Rests D (story 8) w
rests_again = workflows_rest.rests D (story 8) (story 8) w valid_document eight_lawful finds_nothing refl

-- no timer is ahead of it, so that it sleeps, also where the clock moves
sleeps_then : IsAsleep D (story 8) w
sleeps_then = workflows_rest.sleeps D (story 8) w refl rests_behind

abbrev tick : Event Content
tick = event (Tick 5) None

ticked_lawful : IsLawful D (followed (story 8) (tick ∷ []))
ticked_lawful = record { start = refl; each = lawful-grown (Justified D) (story 8) tick eight_lawful.each (refl, lit≤ tt) }

sleeps_at_five : IsAsleep D (followed (story 8) (tick ∷ [])) w
sleeps_at_five = workflows_rest.sleeps_on D (story 8) w (tick ∷ []) ticked_lawful refl refl sleeps_then
