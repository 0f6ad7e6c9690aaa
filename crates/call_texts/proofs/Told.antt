-- A halt goes through what follows.
use Rattle.std.proofs.Common.{ap}
use Rattle.scopes.specs.Substitution.{Found, ◌>>=◌}
use Rattle.call_texts.specs.declared.halt.Halt.{Halt}
use Rattle.call_texts.specs.declared.halt.Halt.TheVariants.{Fault, Memory}
use Rattle.call_texts.specs.Told.{Halts}

pub passes : {A B : Type 0} (halt : Halt) (meant : Found A) (later : A → Found B) → Halts halt meant → Halts halt (meant >>= later)
passes (Fault fault) meant later halts = ap (λ x. x >>= later) halts
passes Memory meant later halts = tt
