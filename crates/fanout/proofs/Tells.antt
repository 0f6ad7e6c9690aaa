-- A fault goes through what follows.
use Rattle.std.proofs.Common.{◌≡◌, Result, Err, ap, sym, subst}
use Rattle.fanout.specs.declared.refused.FanRefused.{FanRefused}
use Rattle.fanout.specs.declared.refused.FanRefused.TheVariants.{NotList, BadItem, BadNumber, BadFormat, TooManyItems, Unresolved, Memory}
use Rattle.scopes.specs.Substitution.{Found, ◌>>=◌}
use Rattle.fanout.specs.Faults.{Tells}

pub passes : {A B C D : Type 0} (see : A → B) (show : C → D) (e : FanRefused) (m : Found B) (f : B → Found D) → Tells see (Err e) m → Tells show (Err e) (m >>= f)
passes see show NotList m f told = ap (λ x. x >>= f) told
passes see show BadItem m f told = ap (λ x. x >>= f) told
passes see show BadNumber m f told = ap (λ x. x >>= f) told
passes see show BadFormat m f told = ap (λ x. x >>= f) told
passes see show TooManyItems m f told = ap (λ x. x >>= f) told
passes see show (Unresolved tag) m f told = ap (λ x. x >>= f) told
passes see show Memory m f told = tt

-- the same of an answer that is that fault
pub stops : {A B C D : Type 0} (see : A → B) (show : C → D) (e : FanRefused) (r : Result C FanRefused) (m : Found B) (f : B → Found D) → r ≡ Err e → Tells see (Err e) m → Tells show r (m >>= f)
stops see show e r m f is told = subst (λ x. Tells show x (m >>= f)) (sym is) (passes see show e m f told)
