-- What the answer of a call makes of a worker's job.
use Rattle.std.specs.Prelude.{ℕ, not, ◌∷◌, filter, Option, Some, None}
use Rattle.tree_types.specs.declared.entry.Key.{Key}
use Rattle.tree_types.specs.declared.entry.Key.TheVariants.{Workflow, Pod, Locks, Caches}
use Rattle.law.specs.Documents.{Text}
use Rattle.law.specs.Contents.{PodObject, Content, OfWorkflow, OfPod, OfLocks, OfCaches}
use Rattle.law.specs.Due.{Matter, record_fact, file, create, save, release, submit}
use Rattle.next_step.specs.Views.{Seen, Views, is_look}
use Rattle.next_step.specs.Next.{Next, get, act, done}

-- what a call answered: the object as it stands then, or why it is refused; a conflict tells the version that was
-- expected and the one that was found
pub data Reply : Type 0 where
  found : Seen Content → Reply
  accepted : Seen Content → Reply
  no_object : Reply
  exists : Reply
  conflict : ℕ → ℕ → Reply
  fault : Reply

pub data Ending : Type 0 where
  by_done : Ending
  by_absence : Ending
  by_refusal : Ending

-- a job with its views, or how it ended
pub data Job : Type 0 where
  goes_on : Views → Job
  ended : Ending → Job

abbrev pub seen : {C : Type 0} → ℕ → C → ℕ → Seen C
seen n c tick = record { number = n; content = c; tick = tick }

-- a new look at a pod
abbrev pub with_look : Views → Text → Option (Seen PodObject) → Views
with_look v name o = record v { pods = record { name = name; found = o } ∷ v.pods }

-- what was read is the view of its key, and the saves are to be read after the workflow; a content of another kind than
-- its key's ends the job
abbrev pub taken : Views → Key → ℕ → ℕ → Content → Job
taken v (Workflow w) n tick (OfWorkflow f) = goes_on (record v { flow = Some (seen n f tick); saves = None })
taken v (Pod w name) n tick (OfPod pod) = goes_on (with_look v name (Some (seen n pod tick)))
taken v Locks n tick (OfLocks b) = goes_on (record v { book = Some (seen n b tick) })
taken v Caches n tick (OfCaches ss) = goes_on (record v { saves = Some (seen n ss tick) })
taken v _ n tick c = ended by_absence

-- an absent pod is noted; that anything else is absent ends the job
abbrev pub missed : Views → Key → Job
missed v (Pod w name) = goes_on (with_look v name None)
missed v _ = ended by_absence

-- what was accepted is the view of its key, and a write of the workflow drops the view of the saves
abbrev pub did : Views → Matter → ℕ → ℕ → Content → Job
did v (record_fact x) n tick (OfWorkflow f) = goes_on (record v { flow = Some (seen n f tick); saves = None })
did v (file l k r) n tick (OfLocks b) = goes_on (record v { book = Some (seen n b tick) })
did v (release l k) n tick (OfLocks b) = goes_on (record v { book = Some (seen n b tick) })
did v (save c e k o) n tick (OfCaches ss) = goes_on (record v { saves = Some (seen n ss tick) })
did v (create p name) n tick (OfPod pod) = goes_on (with_look v name (Some (seen n pod tick)))
did v (submit c) n tick x = goes_on (record v { tried = c.name ∷ v.tried })
did v _ n tick c = ended by_absence

-- a pod that is there already loses its note, so that it is read again; a resubmission is noted as tried
abbrev pub there : Views → Matter → Job
there v (create p name) = goes_on (record v { pods = filter (λ l. not (is_look name l)) v.pods })
there v (submit c) = goes_on (record v { tried = c.name ∷ v.tried })
there v _ = ended by_refusal

-- any other refusal ends the job
abbrev pub after : Views → Next → Reply → Job
after v (get k) (found x) = taken v k x.number x.tick x.content
after v (get k) no_object = missed v k
after v (act m) (accepted x) = did v m x.number x.tick x.content
after v (act m) exists = there v m
after v done r = ended by_done
after v _ r = ended by_refusal
