-- Why no object has moved on where nobody disturbs.
use Rattle.std.proofs.Common.{◌≡◌, ℕ, ap, subst, Some, refl, arith}
use Rattle.tree_types.specs.declared.outcome.Outcome.{Outcome}
use Rattle.tree_types.specs.declared.entry.Key.{Key}
use Rattle.tree_types.specs.declared.entry.Key.TheVariants.{Pod}
use Rattle.history.specs.History.{number_of, version_at}
use Rattle.law.specs.Documents.{Text, Document}
use Rattle.law.specs.Contents.{PodObject, Content, OfWorkflow, OfPod, OfLocks, OfCaches, apply, Story}
use Rattle.law.specs.Justified.{IsLawful}
use Rattle.lawful.specs.Manifests.{HasValidWorkflows}
use Rattle.lawful.proofs.Facts.{some_same, none_some}
use Rattle.next_step.specs.Views.{Seen, Views}
use Rattle.next_step.specs.Changes.{ShownAt}
use Rattle.next_step.specs.Replies.{Reply, found, accepted, no_object, exists, conflict, fault, seen}
use Rattle.next_step.specs.Runner.{finish_change}
use Rattle.next_step.specs.Calls.{Got, Did}
use Rattle.next_step.specs.Hands.{Given}
use Rattle.next_step.specs.Rounds.{WorkerEnds, by_done, by_full, by_get, by_change, pod_of_reply, JobRan, worker_ran, runner_missed, runner_rested, runner_finished}
use Rattle.next_laws.specs.Jobs.{IsConflict, GoesWell}
use Rattle.next_laws.proofs.Rounds.{undisturbed_goes_well}
use Rattle.run_laws.specs.Whole.{was_moved, told_by, told_of_end, told_of_job}
use Rattle.run_laws.specs.Rounds.{NeverMoved}

told_moved : (r : Reply) (a b : ℕ) → was_moved a b ≡ told_by r → IsConflict r
told_moved (conflict x y) a b e = tt
told_moved (found x) a b e = absurd cc
told_moved (accepted x) a b e = absurd cc
told_moved no_object a b e = absurd cc
told_moved exists a b e = absurd cc
told_moved fault a b e = absurd cc

got_no_conflict : (h : Story) (k : Key) (r : Reply) → Got h k r → IsConflict r → ⊥
got_no_conflict h k (conflict a b) g c = g
got_no_conflict h k (found x) g c = c
got_no_conflict h k (accepted x) g c = c
got_no_conflict h k no_object g c = c
got_no_conflict h k exists g c = c
got_no_conflict h k fault g c = c

pod_shown : (h : Story) (w name : Text) (r : Reply) (x : Seen PodObject) → Got h (Pod w name) r → pod_of_reply r ≡ Some x → ShownAt h (Pod w name) x.number (OfPod x.content) x.tick
pod_shown h w name (found y) x g e = by y.content refl e
  where
    by : (c : Content) → y.content ≡ c → pod_of_reply (found (seen y.number c y.tick)) ≡ Some x → ShownAt h (Pod w name) x.number (OfPod x.content) x.tick
    by (OfPod pod) q e =
        subst (λ (z : Seen PodObject). ShownAt h (Pod w name) z.number (OfPod z.content) z.tick) (some_same (seen y.number pod y.tick) x e)
        (subst (λ c. ShownAt h (Pod w name) y.number c y.tick) q g)
    by (OfWorkflow f) q e = none_some x e
    by (OfLocks b) q e = none_some x e
    by (OfCaches ss) q e = none_some x e
pod_shown h w name no_object x g e = none_some x e
pod_shown h w name exists x g e = none_some x e
pod_shown h w name fault x g e = none_some x e
pod_shown h w name (accepted y) x g e = none_some x e
pod_shown h w name (conflict a b) x g e = none_some x e

-- what was just read stands as it was read
finish_no_conflict : (h g : Story) (w name : Text) (x : Seen PodObject) (o : Outcome) (r : Reply) → ShownAt h (Pod w name) x.number (OfPod x.content) x.tick → Did h (finish_change w name x o) r g → IsConflict r → ⊥
finish_no_conflict h g w name x o (conflict a b) is d c =
    let p : number_of (version_at apply h (Pod w name)) ≡ x.number = ap number_of is.stood in
    let q = d.1 in
    let r = d.2 in
    let s = d.3 in
    omega (arith, p, q, r, s)
finish_no_conflict h g w name x o (found y) is d c = c
finish_no_conflict h g w name x o (accepted y) is d c = c
finish_no_conflict h g w name x o no_object is d c = c
finish_no_conflict h g w name x o exists is d c = c
finish_no_conflict h g w name x o fault is d c = c

end_unmoved : (D : Document) (w : Text) (h : Story) (v : Views) (calls faults : ℕ) (g : Story) → GoesWell D w h v → (end : WorkerEnds D w h v calls faults g) → (a b : ℕ) → was_moved a b ≡ told_of_end end → ⊥
end_unmoved D w h v calls faults g well (by_done e) a b t = cc
end_unmoved D w h v calls faults g well (by_full x s e viewed l) a b t = cc
end_unmoved D w h v calls faults g well (by_get k r e n got on) a b t = got_no_conflict h k r got (told_moved r a b t)
end_unmoved D w h v calls faults g well (by_change m s facts r i e n viewed adds d on) a b t = well.no_conflict m s facts r g n viewed d (told_moved r a b t)

job_unmoved : (D : Document) (h g : Story) (job : Given) (calls faults : ℕ) → HasValidWorkflows D → IsLawful D h → (ran : JobRan D h job calls faults g) → (a b : ℕ) → was_moved a b ≡ told_of_job ran → ⊥
job_unmoved D h g job calls faults valid l (worker_ran w i j u last fail ran end) a b t = end_unmoved D w i u last fail g (undisturbed_goes_well D w h i u valid l ran) end a b t
job_unmoved D h g job calls faults valid l (runner_missed w name r got e) a b t = got_no_conflict h (Pod w name) r got (told_moved r a b t)
job_unmoved D h g job calls faults valid l (runner_rested w name r x got e n) a b t = cc
job_unmoved D h g job calls faults valid l (runner_finished w name r s x o i got e n d) a b t = finish_no_conflict h g w name x o s (pod_shown h w name r x got e) d (told_moved s a b t)

pub never_moved : NeverMoved
never_moved D h g job a b valid l r = job_unmoved D h g job r.calls r.faults valid l r.ran a b r.is_told
