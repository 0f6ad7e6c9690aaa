use Rattle.std.proofs.Common.{◌++◌, ◌∷◌, [], length, take, ap, ◌∙◌, subst, arith}
use Rattle.object_store.specs.Inside.Rows.{Rows, change, OneMore}
use Rattle.object_store.proofs.Rows.{pushed, rolled}
use Rattle.object_store.proofs.line.Line.add.Goals.{then-len-lt-ROW+in_ok-reserve_one-2+in_ok-push, else-len-lt-ROW+in_ok-try_reserve_exact+in_ok-push-2}
use Rattle.object_store.proofs.line.Line.add.Goals as goal

pub returns-clause-ok : goal.returns-clause-ok
returns-clause-ok g c =
    let s = c.self.inside in
    let made = c.args.made in
    let came = change (length c.args.entries.now) made.tick in
    let mid = c.if-len-lt-ROW.self-inside in
    let now : Rows _ = record { rows = mid.rows.items; first = mid.first; later = mid.later.items; changes = c.push_reserved-2.new.self.items } in
    subst (λ r. OneMore r made came now) c.self.view_is
    (elim c.if-len-lt-ROW.branch [
      | then-len-lt-ROW+in_ok-reserve_one-2+in_ok-push w ↦
          pushed _ now made came c.self.invariant
          (ap (λ i. i.rows.items) w.self-inside-is)
          (ap (λ i. i.first) w.self-inside-is)
          (ap (λ i. i.later.items) w.self-inside-is ∙ w.push_reserved.ensures.items ∙ ap (λ ms. ms ++ made ∷ []) w.reserve_one-then-len-lt-ROW.ensures.same)
          (c.push_reserved-2.ensures.items ∙ ap (λ cs. cs ++ change c.len.result made.tick ∷ []) (ap (λ i. i.changes.items) w.self-inside-is ∙ c.reserve_one.ensures.same) ∙ ap (λ n. s.changes.items ++ change n made.tick ∷ []) c.len.ensures)
      | else-len-lt-ROW+in_ok-try_reserve_exact+in_ok-push-2 w ↦
          rolled _ now made came
          (let few = c.self.invariant.few in omega (arith, w.if-len-lt-ROW.false, c.len-2.ensures))
          (ap (λ i. i.rows.items) w.self-inside-is ∙ w.push_reserved-else-len-lt-ROW.ensures.items ∙ ap (λ ms. ms ++ w.replace.result ∷ []) (w.truncate.ensures.items ∙ ap (take 1) w.try_reserve_exact.ensures.items) ∙ ap (λ m. take 1 s.rows.items ++ m ∷ []) w.replace.ensures.value)
          (ap (λ i. i.first) w.self-inside-is ∙ w.replace.ensures.after)
          (ap (λ i. i.later.items) w.self-inside-is ∙ w.clear.ensures.items)
          (c.push_reserved-2.ensures.items ∙ ap (λ cs. cs ++ change c.len.result made.tick ∷ []) (ap (λ i. i.changes.items) w.self-inside-is ∙ c.reserve_one.ensures.same) ∙ ap (λ n. s.changes.items ++ change n made.tick ∷ []) c.len.ensures)
    ])
