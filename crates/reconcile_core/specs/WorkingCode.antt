-- The code of a worker, by which contracts tell two of them apart.
use Rattle.std.specs.Prelude.{List, [], refl}
use Rattle.std.specs.Coded.{Coded, code_by, coded×, coded_list, coded_ℕ}
use Rattle.law.specs.Documents.{Text}
use Rattle.worker_job.specs.Jobs.{OneJob}
use Rattle.worker_job.specs.JobCode.{job_code}
use Rattle.reconcile_core.specs.Workers.{Working, working}

names_code : Coded (List Text)
names_code = coded_list (coded_list coded_ℕ)

pub working_code : Coded Working
working_code = code_by (List Text × OneJob) (coded× names_code job_code) (λ k. (k.jobs, record { workflow = []; views = k.views })) (λ p. working p.0 p.1.views) (λ _. refl)
