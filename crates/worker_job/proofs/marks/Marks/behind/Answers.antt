-- The workflow goes on by one fact, and what is told of its pods is of this fact.
use Rattle.std.proofs.Common.{◌≡◌, ◌+◌, length, sym, ap, ◌∙◌, subst, arith, map}
use Rattle.meaning.specs.Answers.{Facts}
use Rattle.pod_laws.specs.NewPods.{NoneNew, OneNew}
use Rattle.worker_job.specs.Inside.{look_told}
use Rattle.worker_job.specs.Inside.Marks.{IsMarked}
use Rattle.worker_job.proofs.Lasting.{goes_on_by, still_marked}
use Rattle.worker_job.proofs.marks.Marks.behind.Goals as goal

pub all_but_fresh-requires-clause-one : goal.all_but_fresh-requires-clause-one
all_but_fresh-requires-clause-one c =
    let f = c.args.before.now in
    let g = c.args.pods.now.object.now in
    let newer : c.len.result ≡ length g.journal = c.len.ensures ∙ ap (λ (J : Facts). length J) c.journal.ensures in
    let older : c.len-2.result ≡ length f.journal = c.len-2.ensures ∙ ap (λ (J : Facts). length J) c.journal-2.ensures in
    let one : length g.journal ≡ length f.journal + 1 = omega (arith, newer, older, c.if-more-ne1.false) in
    goes_on_by OneNew f g c.requires.more one c.state.result.now c.state.ensures c.in-OneAtMost.ensures

pub returns-in-None : goal.returns-in-None
returns-in-None c =
    let f = c.args.before.now in
    let g = c.args.pods.now.object.now in
    let ls = map look_told c.args.pods.now.looks.now in
    let newer : c.len.result ≡ length g.journal = c.len.ensures ∙ ap (λ (J : Facts). length J) c.journal.ensures in
    let older : c.len-2.result ≡ length f.journal = c.len-2.ensures ∙ ap (λ (J : Facts). length J) c.journal-2.ensures in
    let one : length g.journal ≡ length f.journal + 1 = omega (arith, newer, older, c.if-more-ne1.false) in
    subst (IsMarked ls g) (sym c.left.ensures)
    (still_marked ls f g (goes_on_by NoneNew f g c.requires.more one c.state.result.now c.state.ensures c.in-None.ensures) c.args.self.now c.requires.marked)
