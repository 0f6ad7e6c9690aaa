use Rattle.std.proofs.Common.{sym, Result, Ok, Err, OnOk, OnErr}
use Rattle.object_store.proofs.Index.{appended, unchanged}
use Rattle.object_store.proofs.ledger.append.Goals as goal

on_ok : {T E : Type 0} (r : Result T E) (A B : Type 0) → OnOk r A → (A → B) → OnOk r B
on_ok (Ok x) A B a to = to a
on_ok (Err e) A B a to = tt

on_err : {T E : Type 0} (r : Result T E) (A B : Type 0) → OnErr r A → (A → B) → OnErr r B
on_err (Ok x) A B a to = tt
on_err (Err e) A B a to = to a

pub returns-clause-ok : goal.returns-clause-ok
returns-clause-ok g c =
    on_ok c.add.result _ _ c.add.ensures.ok
    (λ more. appended c.args.objects.now.entries _ c.args.key.now c.in-Some.line.now c.add.new.self c.args.made _ (sym c.in-Some.ensures.value) more (c.get_mut.follows.holds _).0)

pub returns-clause-err : goal.returns-clause-err
returns-clause-err g c =
    on_err c.add.result _ _ c.add.ensures.err
    (λ same. unchanged c.args.objects.now.entries _ c.args.key.now c.in-Some.line.now c.add.new.self (sym c.in-Some.ensures.value) same (c.get_mut.follows.holds _).0)
