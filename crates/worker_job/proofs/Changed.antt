-- What a job kept, as its views have it: the names that were tried, and the looks that are left.
use Rattle.std.proofs.Common.{◌≡◌, Bool, true, false, cond, not, List, [], ◌∷◌, map, filter, reverse, refl, ◌∙◌, ap}
use Rattle.std.specs.Prelude.{bytes_eq}
use Rattle.std.specs.List.{list_any}
use Rattle.std.proofs.lemmas.List.Sorted.{list_any-IsPermutation, IsPermutation-reverse}
use Rattle.looks.specs.declared.Look.{Look}
use Rattle.looks.specs.Named.{is_named}
use Rattle.law.specs.Documents.{Text}
use Rattle.next_step.specs.Views.{Look as PodLook, is_look}
use Rattle.worker_job.specs.declared.job.SeenPod.{SeenPod}
use Rattle.worker_job.specs.declared.job.Job.TheInside.{Inside}
use Rattle.worker_job.specs.Jobs.{OneJob}
use Rattle.worker_job.specs.Inside.{job_of, views_of, look_told}

pub tried_before :
    (a : Inside) (j : OneJob) (name : Text) (names : List Text) (b : Bool) → job_of a ≡ j →
    b ≡ list_any (bytes_eq name) names → names ≡ a.tried → b ≡ list_any (bytes_eq name) j.views.tried
tried_before a j name names b shown among lent =
    among
    ∙ ap (list_any (bytes_eq name)) lent
    ∙ list_any-IsPermutation (bytes_eq name) a.tried (reverse a.tried) (IsPermutation-reverse a.tried)
    ∙ ap (λ (j : OneJob). list_any (bytes_eq name) j.views.tried) shown

-- ---- looks that are left

told_if :
    (b : Bool) (l : Look SeenPod) (ls : List (Look SeenPod)) →
    map look_told (cond b (l ∷ ls) ls) ≡ cond b (look_told l ∷ map look_told ls) (map look_told ls)
told_if true l ls = refl
told_if false l ls = refl

left_told :
    (name : Text) (ls : List (Look SeenPod)) →
    map look_told (filter (λ l. not (is_named name l)) ls) ≡ filter (λ l. not (is_look name l)) (map look_told ls)
left_told name [] = refl
left_told name (l ∷ ls) =
    told_if (not (bytes_eq l.name name)) l (filter (λ l. not (is_named name l)) ls)
    ∙ ap (λ ps. cond (not (bytes_eq l.name name)) (look_told l ∷ ps) ps) (left_told name ls)

pub with_left :
    (a : Inside) (j : OneJob) (name : Text) (looks : List (Look SeenPod)) → job_of a ≡ j →
    looks ≡ filter (λ l. not (is_named name l)) a.looks →
    views_of (record a { looks = looks })
    ≡ record j.views { pods = filter (λ l. not (is_look name l)) j.views.pods }
with_left a j name looks shown left =
    ap (λ (ls : List (Look SeenPod)). views_of (record a { looks = ls })) left
    ∙ ap (λ (ps : List PodLook). record (views_of a) { pods = ps }) (left_told name a.looks)
    ∙ ap (λ (j : OneJob). record j.views { pods = filter (λ l. not (is_look name l)) j.views.pods }) shown
