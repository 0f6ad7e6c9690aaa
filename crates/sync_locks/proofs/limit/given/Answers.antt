-- The rest begins with the limit that is looked at.
use Rattle.std.proofs.Common.{◌≡◌, ℕ, suc, ◌+◌, ◌<◌, ◌≤◌, Bool, true, false, cond, bytes_eq, length, List, drop, get_or, refl, sym, ◌∙◌, ap, subst, add-one}
use Rattle.std.proofs.Math.Seq.{drop-cons}
use Rattle.std.proofs.lemmas.List.{drop_all}
use Rattle.tree_types.specs.declared.entry.Limit.{Limit}
use Rattle.books.specs.Books as books
use Rattle.sync_locks.proofs.limit.given.Goals as goal

-- what is given from a place on
from_here : (limits items : List Limit) (i : ℕ) (l : Limit) (lock : List ℕ) (b : Bool) → items ≡ limits → i < length items → l ≡ get_or items i l → bytes_eq l.lock.text lock ≡ b → books.given (drop i limits) lock ≡ cond b l.limit (books.given (drop (i + 1) limits) lock)
from_here limits items i l lock b same h e t =
    ap (λ (x : List Limit). books.given x lock) (drop-cons limits i l (subst (λ (x : List Limit). i < length x) same h))
    ∙ ap (λ (x : Limit). cond (bytes_eq x.lock.text lock) x.limit (books.given (drop (suc i) limits) lock)) (sym (e ∙ ap (λ (x : List Limit). get_or x i l) same))
    ∙ ap (λ (x : Bool). cond x l.limit (books.given (drop (suc i) limits) lock)) t
    ∙ ap (λ (n : ℕ). cond b l.limit (books.given (drop n limits) lock)) (sym (add-one i))

pub loop-limit-init : goal.loop-limit-init
loop-limit-init c = refl

pub returns-then-eq : goal.returns-then-eq
returns-then-eq c = sym (c.loop-limit.invariant ∙ from_here c.args.limits.now c.as_slice-limit-items.result.now c.loop-limit.limit-index c.limit-item.result c.args.lock.now.text true c.as_slice-limit-items.ensures c.loop-limit-test.true c.limit-item.is (sym c.eq.ensures ∙ c.if-eq.true))

pub loop-limit-preserved : goal.loop-limit-preserved
loop-limit-preserved c = c.loop-limit.invariant ∙ from_here c.args.limits.now c.as_slice-limit-items.result.now c.loop-limit.limit-index c.limit-item.result c.args.lock.now.text false c.as_slice-limit-items.ensures c.loop-limit-test.true c.limit-item.is (sym c.eq.ensures ∙ c.if-eq.false)

pub returns : goal.returns
returns c = sym (c.loop-limit.invariant ∙ ap (λ (x : List Limit). books.given x c.args.lock.now.text) (drop_all c.loop-limit.limit-index c.args.limits.now (subst (λ (x : List Limit). length x ≤ c.loop-limit.limit-index) c.as_slice-limit-items.ensures c.loop-limit-test.false)))
