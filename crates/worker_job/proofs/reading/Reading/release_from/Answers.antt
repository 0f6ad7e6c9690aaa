-- The workflow does not hold its own lock, so that the first node's goes.
use Rattle.std.proofs.Common.{◌≡◌, ◌++◌, Option, Some, None, sym, ap, ◌∙◌, subst}
use Rattle.std.specs.Prelude.{IfOk, option_map}
use Rattle.std.specs.List.{filter_map}
use Rattle.std.specs.Option.{option_to_list}
use Rattle.law.specs.Due.{Matter, release}
use Rattle.law.specs.Justified.{tree_of, key}
use Rattle.next_step.specs.Views.{head}
use Rattle.next_step.specs.Next.{Step, act}
use Rattle.worker_job.specs.Readings as reads
use Rattle.worker_job.specs.Readings.{step_told}
use Rattle.worker_job.proofs.reading.Reading.release_from.Goals as goal

pub returns-in-Some-first_kept : goal.returns-in-Some-first_kept
returns-in-Some-first_kept c =
    let r = c.args.self.now in
    let lock = c.in-Some-first_kept.lock.now in
    let at = c.in-Some-first_kept.path.now in
    let own : reads.release_own r ≡ None = sym c.in_default.ensures in
    let node : reads.first_node r (reads.releasing r) ≡ Some (release lock (key (reads.workflow r) at)) = sym c.in-Some-first_kept.ensures in
    let same : reads.released r lock at ≡ reads.release_one r =
    sym (ap (option_map act) (ap (λ (o : Option Matter). head (option_to_list o ++ filter_map (reads.releasing r) (tree_of r.object.now))) own ∙ node)) in
    subst (λ (s : Step). IfOk c.release-in-Some-first_kept.result (λ step. step_told step ≡ s)) same c.release-in-Some-first_kept.ensures
