-- The workflow goes on by one fact, and what is told of its locks is of this fact.
use Rattle.std.proofs.Common.{◌≡◌, ◌+◌, length, ap, ◌∙◌, arith}
use Rattle.meaning.specs.Answers.{Facts}
use Rattle.worker_job.proofs.Filing.{none_new_by}
use Rattle.worker_job.proofs.job.adds_no_lock.Goals as goal

pub returns-then-more-eq1 : goal.returns-then-more-eq1
returns-then-more-eq1 c = λ adds.
    let f = c.args.before.now in
    let g = c.args.object.now in
    let newer : c.len.result ≡ length g.journal = c.len.ensures ∙ ap (λ (J : Facts). length J) c.journal.ensures in
    let older : c.len-2.result ≡ length f.journal = c.len-2.ensures ∙ ap (λ (J : Facts). length J) c.journal-2.ensures in
    let one : length g.journal ≡ length f.journal + 1 = omega (arith, newer, older, c.if-more-eq1.true) in
    none_new_by f g c.requires one c.state.result.now c.state.ensures (c.adds_no_lock.ensures adds)
