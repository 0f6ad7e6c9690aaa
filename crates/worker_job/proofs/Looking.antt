-- The last look at a name, as the views have it.
use Rattle.std.proofs.Common.{◌≡◌, ℕ, Bool, true, false, cond, List, [], ◌∷◌, map, refl, sym, ◌∙◌, ap, Bor}
use Rattle.std.specs.Prelude.{bytes_eq, Option, Some, None, option_map, option_copied}
use Rattle.std.specs.List.{find}
use Rattle.looks.specs.declared.Look.{Look}
use Rattle.looks.specs.Named.{is_named}
use Rattle.next_step.specs.Views.{Look as PodLook, is_look, look_at}
use Rattle.worker_job.specs.declared.job.SeenPod.{SeenPod}
use Rattle.worker_job.specs.declared.job.Job.TheInside.{Inside}
use Rattle.worker_job.specs.Jobs.{OneJob}
use Rattle.worker_job.specs.Inside.{job_of, look_told}

told_by :
    (b : Bool) (l : Look SeenPod) (o : Option (Look SeenPod)) (p : Option PodLook) → option_map look_told o ≡ p →
    option_map look_told (cond b (Some l) o) ≡ cond b (Some (look_told l)) p
told_by true l o p e = refl
told_by false l o p e = e

pub look_mapped :
    (name : List ℕ) (ls : List (Look SeenPod)) →
    option_map look_told (find (is_named name) ls) ≡ find (is_look name) (map look_told ls)
look_mapped name [] = refl
look_mapped name (l ∷ ls) =
    told_by (bytes_eq l.name name) l (find (is_named name) ls) (find (is_look name) (map look_told ls)) (look_mapped name ls)

pub unlooked :
    (name : List ℕ) (ls : List (Look SeenPod)) → None ≡ find (is_named name) ls →
    find (is_look name) (map look_told ls) ≡ None
unlooked name ls found = sym (look_mapped name ls) ∙ ap (option_map look_told) (sym found)

told_lent : (r : Option (Bor (Look SeenPod))) → option_map (λ l. look_told l.now) r ≡ option_map look_told (option_copied r)
told_lent None = refl
told_lent (Some l) = refl

pub looked :
    (a : Inside) (j : OneJob) (name : List ℕ) (r : Option (Bor (Look SeenPod))) → job_of a ≡ j →
    option_copied r ≡ find (is_named name) a.looks → option_map (λ l. look_told l.now) r ≡ look_at j.views name
looked a j name r shown found =
    told_lent r
    ∙ ap (option_map look_told) found
    ∙ look_mapped name a.looks
    ∙ ap (λ (j : OneJob). look_at j.views name) shown
