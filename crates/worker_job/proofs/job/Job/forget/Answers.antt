-- The looks at other names are left.
use Rattle.std.proofs.Common.{List, not, filter, ◌∙◌, ap}
use Rattle.looks.specs.declared.Look.{Look}
use Rattle.looks.specs.Named.{is_named}
use Rattle.worker_job.specs.declared.job.SeenPod.{SeenPod}
use Rattle.worker_job.proofs.Changed.{with_left}
use Rattle.worker_job.proofs.job.Job.forget.Goals as goal

pub returns-clause-views : goal.returns-clause-views
returns-clause-views c =
    with_left c.self.inside c.args.self.now c.args.name.now c.in_ok-self-inside.field-0 c.self.view_is
    (c.in_ok-self-inside.ensures
    ∙ ap (λ (ls : List (Look SeenPod)). filter (λ l. not (is_named c.args.name.now l)) ls) c.replace-looks.ensures.value)
