-- The code of a runner, by which contracts tell two of them apart.
use Rattle.std.specs.Prelude.{ℕ, List, Option, refl}
use Rattle.std.specs.Coded.{codes, Coded, code_by, coded×, coded_option, coded_ℕ}
use Rattle.law.specs.Contents.{PodObject}
use Rattle.wf_object.specs.ContentCode.{pod_code}
use Rattle.next_step.specs.Views.{Seen}
use Rattle.pod_runner.specs.declared.runner.PodJob.{PodJob}
use Rattle.pod_runner.specs.Running.{Running, running}

jobs_code : Coded (List PodJob)
jobs_code = hlevel codes

seen_code : Coded (Seen PodObject)
seen_code =
    code_by (ℕ × (PodObject × ℕ)) (coded× coded_ℕ (coded× pod_code coded_ℕ)) (λ s. (s.number, (s.content, s.tick)))
    (λ p. record { number = p.0; content = p.1.0; tick = p.1.1 }) (λ _. refl)

pub running_code : Coded Running
running_code =
    code_by (List PodJob × Option (Seen PodObject)) (coded× jobs_code (coded_option seen_code)) (λ r. (r.jobs, r.pod))
    (λ p. running p.0 p.1) (λ _. refl)
