-- Whether a submission is there, by what its call was answered.
use Rattle.std.specs.Prelude.{◌≡◌, Bool, true, false, Result, Ok, Err}
use Rattle.base_types.specs.declared.memory.Memory.{Memory}
use Rattle.object_store.specs.declared.snapshot.Snapshot.{Snapshot}
use Rattle.object_store.specs.declared.refused.StoreRefused.{StoreRefused}
use Rattle.object_store.specs.declared.refused.StoreRefused.TheVariants as refused
use Rattle.law.specs.Contents.{Content}

-- it was made now, or was there before; a call that failed made none
abbrev pub IsDone : Result (Snapshot Content) StoreRefused → Result Bool Memory → Type 0
IsDone (Ok s) r = r ≡ Ok true
IsDone (Err refused.Exists) r = r ≡ Ok true
IsDone (Err refused.Fault) r = r ≡ Ok false
IsDone (Err e) (Ok done) = ⊥
IsDone (Err e) (Err m) = Unit {0}
