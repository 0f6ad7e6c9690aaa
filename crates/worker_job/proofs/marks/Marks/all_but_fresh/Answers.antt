-- The pod that was not looked at is the one that is new.
use Rattle.std.proofs.Common.{◌≡◌, ℕ, map, sym, subst}
use Rattle.std.specs.Prelude.{IfSome}
use Rattle.law.specs.Documents.{Text}
use Rattle.worker_job.specs.declared.marks.Marks.{Marks}
use Rattle.worker_job.specs.declared.marks.Read.TheVariants.{AllBut}
use Rattle.worker_job.specs.Inside.{look_told}
use Rattle.worker_job.specs.Inside.Marks.{IsUnread, IsMarked}
use Rattle.worker_job.proofs.Lasting.{marked_but}
use Rattle.worker_job.proofs.marks.Marks.all_but_fresh.Goals as goal

abbrev all_but : Text → ℕ → ℕ → Marks
all_but name settled created = record { read = AllBut name; settled = settled; created = created }

same_marks : {a b : Text} {m n s t : ℕ} → a ≡ b → m ≡ n → s ≡ t → all_but a m s ≡ all_but b n t
same_marks name settled created = cc

pub returns-in_ok-copy-in-Some : goal.returns-in_ok-copy-in-Some
returns-in_ok-copy-in-Some c =
    let f = c.args.before.now in
    let g = c.args.pods.now.object.now in
    let ls = map look_told c.args.pods.now.looks.now in
    let k = c.args.self.now in
    let name = c.in-Some.name.now in
    let fresh : IsUnread ls g name = subst (λ o. IfSome o (λ name. IsUnread ls g name.now)) c.in-Some.is c.in_ok-fresh_name.ensures in
    subst (IsMarked ls g) (sym (same_marks c.in_ok-copy-in-Some.ensures c.one_fewer.ensures c.one_fewer-in-Some.ensures))
    (marked_but ls f g name c.requires.one k c.requires.marked (c.is_all.ensures c.if-not-is_all.false) fresh)
