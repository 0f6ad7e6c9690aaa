-- What the matters and steps of the code mean.
use Rattle.tree_types.specs.declared.entry.Key.{Key}
use Rattle.tree_types.specs.declared.entry.Key.TheVariants as of_key
use Rattle.law.specs.Documents.{Text, Resubmission as Resubmits}
use Rattle.law.specs.Due as due
use Rattle.next_step.specs.Next as next
use Rattle.worker_job.specs.declared.matter.Resubmission.{Resubmission}
use Rattle.worker_job.specs.declared.matter.Matter.{Matter}
use Rattle.worker_job.specs.declared.matter.Matter.TheVariants.{RecordFact, File, Create, Save, Release, Submit}
use Rattle.worker_job.specs.declared.matter.Next.{Next}
use Rattle.worker_job.specs.declared.matter.Next.TheVariants.{Get, Act, Done}

abbrev pub resubmission_told : Resubmission → Resubmits
resubmission_told r =
    record { tick = r.tick; old = r.old; name = r.name; memoized = r.memoized; created = r.created }

abbrev pub matter_told : Matter → due.Matter
matter_told (RecordFact x) = due.record_fact x
matter_told (File lock k rank) = due.file lock k rank
matter_told (Create p name) = due.create p name
matter_told (Save cache entry k outputs) = due.save cache entry k outputs
matter_told (Release lock k) = due.release lock k
matter_told (Submit r) = due.submit (resubmission_told r)

abbrev pub next_told : Next → next.Next
next_told (Get k) = next.get k
next_told (Act m) = next.act (matter_told m)
next_told Done = next.done

-- the key of the object that a matter changes
abbrev pub key_of : Text → due.Matter → Key
key_of w (due.record_fact x) = of_key.Workflow w
key_of w (due.file lock k rank) = of_key.Locks
key_of w (due.create p name) = of_key.Pod w name
key_of w (due.save cache entry k outputs) = of_key.Caches
key_of w (due.release lock k) = of_key.Locks
key_of w (due.submit r) = of_key.Workflow r.name
