-- What holds of a result.
use Rattle.std.specs.Prelude.{Result, Ok, Err, IfOk, OnOk}

pub ok_more : {V E : Type 0} (r : Result V E) (P Q : V → Type 0) → ((v : V) → P v → Q v) → IfOk r P → IfOk r Q
ok_more (Ok v) P Q f h = f v h
ok_more (Err e) P Q f h = tt

pub done_more : {V E : Type 0} (r : Result V E) (P Q : Type 0) → (P → Q) → OnOk r P → OnOk r Q
done_more (Ok v) P Q f h = f h
done_more (Err e) P Q f h = tt
