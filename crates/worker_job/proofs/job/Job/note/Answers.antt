-- What is left of the marks once a pod was looked at.
use Rattle.std.proofs.Common.{◌≡◌, List, ◌∷◌, map, sym, ap, ◌∙◌, subst}
use Rattle.next_step.specs.Views.{Look}
use Rattle.worker_job.specs.declared.marks.Marks.{Marks}
use Rattle.worker_job.specs.Inside.{look_told, looks_of, flow_of}
use Rattle.worker_job.specs.Inside.Marks.{MarksFit, after}
use Rattle.worker_job.proofs.Marked.{look_with, marks_after}
use Rattle.worker_job.proofs.job.Job.note.Goals as goal

pub marks_behind-marks-requires : goal.marks_behind-marks-requires
marks_behind-marks-requires c =
    let told : map look_told c.add.new.self ≡ look_with c.args.name c.args.found ∷ looks_of c.self.inside = ap (map look_told) c.in_ok-add.ensures in
    let marks : c.after-marks.result ≡ after c.args.name c.args.found c.self.inside.marks = c.after-marks.ensures ∙ ap (after c.args.name c.args.found) c.replace.ensures.value in
    subst (λ (ls : List Look). MarksFit ls (flow_of c.self.inside) c.after-marks.result) (sym told)
    (subst (λ (k : Marks). MarksFit (look_with c.args.name c.args.found ∷ looks_of c.self.inside) (flow_of c.self.inside) k) (sym marks)
    (marks_after (looks_of c.self.inside) (flow_of c.self.inside) c.args.name c.args.found c.self.inside.marks c.self.invariant.marked))
