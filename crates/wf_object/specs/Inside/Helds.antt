-- How a content is kept.
use Rattle.law.specs.Contents.{Content, OfWorkflow, OfPod, OfLocks, OfCaches}
use Rattle.wf_object.specs.Kept.{law_book}
use Rattle.wf_object.specs.declared.content.Held.{Held}
use Rattle.wf_object.specs.declared.content.Held.TheVariants.{Workflow, Pod, Locks, Caches}

abbrev pub content_of : Held → Content
content_of (Workflow f) = OfWorkflow f
content_of (Pod pod) = OfPod pod
content_of (Locks b) = OfLocks (law_book b)
content_of (Caches ss) = OfCaches ss
