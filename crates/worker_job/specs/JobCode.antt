-- The code of a job, by which contracts tell two of them apart.
use Rattle.std.specs.Prelude.{ℕ, List, Option, refl}
use Rattle.std.specs.Coded.{codes, Coded, code_by, coded×, coded_list, coded_option, coded_ℕ}
use Rattle.tree_types.specs.declared.entry.Limit.{Limit}
use Rattle.books.specs.declared.Request.{Request}
use Rattle.saves.specs.declared.Saved.{Saved}
use Rattle.law.specs.Documents.{Text}
use Rattle.law.specs.Contents.{Flow, PodObject, Book}
use Rattle.wf_object.specs.ContentCode.{flow_code, pod_code}
use Rattle.next_step.specs.Views.{Seen, Look, Views}
use Rattle.worker_job.specs.Jobs.{OneJob}

text_code : Coded Text
text_code = coded_list coded_ℕ

limits_code : Coded (List Limit)
limits_code = hlevel codes

requests_code : Coded (List Request)
requests_code = hlevel codes

saves_code : Coded (List Saved)
saves_code = hlevel codes

book_code : Coded Book
book_code =
    code_by (List Limit × List Request) (coded× limits_code requests_code) (λ b. (b.limits, b.requests))
    (λ p. record { limits = p.0; requests = p.1 }) (λ _. refl)

seen_code : {C : Type 0} → Coded C → Coded (Seen C)
seen_code {C} c =
    code_by (ℕ × (C × ℕ)) (coded× coded_ℕ (coded× c coded_ℕ)) (λ s. (s.number, (s.content, s.tick)))
    (λ p. record { number = p.0; content = p.1.0; tick = p.1.1 }) (λ _. refl)

look_code : Coded Look
look_code =
    code_by (Text × Option (Seen PodObject)) (coded× text_code (coded_option (seen_code pod_code)))
    (λ l. (l.name, l.found)) (λ p. record { name = p.0; found = p.1 }) (λ _. refl)

-- the views, one after the other
abbrev Parts : Type 0
Parts = Option (Seen Flow) × (Option (Seen Book) × (Option (Seen (List Saved)) × (List Look × List Text)))

parts_code : Coded Parts
parts_code =
    coded× (coded_option (seen_code flow_code))
    (coded× (coded_option (seen_code book_code))
    (coded× (coded_option (seen_code saves_code)) (coded× (coded_list look_code) (coded_list text_code))))

views_code : Coded Views
views_code =
    code_by Parts parts_code (λ v. (v.flow, (v.book, (v.saves, (v.pods, v.tried)))))
    (λ p. record { flow = p.0; book = p.1.0; saves = p.1.1.0; pods = p.1.1.1.0; tried = p.1.1.1.1 }) (λ _. refl)

pub job_code : Coded OneJob
job_code =
    code_by (Text × Views) (coded× text_code views_code) (λ j. (j.workflow, j.views))
    (λ p. record { workflow = p.0; views = p.1 }) (λ _. refl)
