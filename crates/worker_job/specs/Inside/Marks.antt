-- Pods that are asked for, by the last looks at them, and which of them give nothing to a step.
use Rattle.std.specs.Prelude.{◌≡◌, ◌≤◌, ℕ, ◌-◌, ◌^◌, ◌==◌, if◌then◌else◌, Bool, true, false, bytes_eq, List, find, Option, Some, None, is_some, is_none, option_and_then}
use Rattle.tree_types.specs.declared.path.Path.{Path}
use Rattle.tree_types.specs.declared.want.Want.{Want}
use Rattle.tree_types.specs.declared.want.Want.TheVariants as want
use Rattle.growth.specs.Growth.{Among}
use Rattle.tree_state.specs.Finding.{pods_in}
use Rattle.tree_eval.specs.Pods.{NoneAmong}
use Rattle.pod_laws.specs.NewPods.{KeepsFront}
use Rattle.law.specs.Documents.{Text}
use Rattle.law.specs.Contents.{Flow, PodObject}
use Rattle.law.specs.Due.{node_name}
use Rattle.law.specs.Justified.{wants_of}
use Rattle.next_step.specs.Views.{Seen, Look, is_look, found_in}
use Rattle.worker_job.specs.declared.job.SeenPod.{SeenPod}
use Rattle.worker_job.specs.declared.marks.Marks.{Marks}
use Rattle.worker_job.specs.declared.marks.Read.{Read}
use Rattle.worker_job.specs.declared.marks.Read.TheVariants.{First, AllBut}
use Rattle.worker_job.specs.declared.marks.Sought.{Sought}
use Rattle.worker_job.specs.declared.marks.Found.{Found}
use Rattle.worker_job.specs.declared.marks.Sought.TheVariants.{Unread, Ended, Absent}

-- the name of a pod that is asked for
abbrev pub pod_name : Flow → Want → Option Text
pod_name f (want.Pod p) = node_name f p.sels
pod_name f _ = None

-- ---- a pod that is asked for, whose last look, if there is one, is such

abbrev pub by_name : (Option Look → Bool) → List Look → Option Text → Bool
by_name test ls None = false
by_name test ls (Some name) = test (find (is_look name) ls)

abbrev pub looks_so : (Option Look → Bool) → List Look → Flow → Want → Bool
looks_so test ls f a = by_name test ls (pod_name f a)

abbrev pub has_ended : Option (Seen PodObject) → Bool
has_ended o = is_some (option_and_then (λ x. x.content.outcome) o)

abbrev pub notes_absent : Option Look → Bool
notes_absent None = false
notes_absent (Some l) = is_none l.found

-- it was not looked at
abbrev pub unread : List Look → Flow → Want → Bool
unread ls f a = looks_so is_none ls f a

-- it had ended
abbrev pub ended : List Look → Flow → Want → Bool
ended ls f a = looks_so (λ o. has_ended (found_in o)) ls f a

-- it was not there
abbrev pub absent : List Look → Flow → Want → Bool
absent ls f a = looks_so notes_absent ls f a

abbrev pub such : Sought → List Look → Flow → Want → Bool
such Unread = unread
such Ended = ended
such Absent = absent

-- ---- marks

-- the count that stands for all
abbrev pub all : ℕ
all = 2 ^ 64 - 1

-- none of so many from the first passes
pub record IsKnown (n : ℕ) (accepts : Want → Bool) (ws : List Want) : Type 0 where
  pub first : NoneAmong n accepts ws
  pub whole : all ≤ n → find accepts ws ≡ None

-- a pod that is asked for has this name, and was not looked at
pub record IsUnread (ls : List Look) (f : Flow) (name : Text) : Type 0 where
  pub pod : Want
  pub asked : Among pod (pods_in (wants_of f))
  pub named : pod_name f pod ≡ Some name
  pub unread : find (is_look name) ls ≡ None

-- and there is no other
pub record IsOnlyUnread (ls : List Look) (f : Flow) (name : Text) : Type 0 where
  pub one : IsUnread ls f name
  pub no_other : (a : Want) → Among a (pods_in (wants_of f)) → unread ls f a ≡ true → pod_name f a ≡ Some name

-- which pods give nothing to the step that reads
abbrev pub IsReadMark : List Look → Flow → Read → Type 0
IsReadMark ls f (First n) = IsKnown n (unread ls f) (pods_in (wants_of f))
IsReadMark ls f (AllBut name) = IsOnlyUnread ls f name

-- and how many from the first give nothing to the step that settles, and to the one that creates
pub record IsMarked (ls : List Look) (f : Flow) (k : Marks) : Type 0 where
  pub read : IsReadMark ls f k.read
  pub settled : IsKnown k.settled (ended ls f) (pods_in (wants_of f))
  pub created : IsKnown k.created (absent ls f) (pods_in (wants_of f))

-- of the workflow, where it was read
abbrev pub MarksFit : List Look → Option Flow → Marks → Type 0
MarksFit ls None k = Unit {0}
MarksFit ls (Some f) k = IsMarked ls f k

-- ---- the first such pod, where it is kept

-- where one is kept, it is this
pub record IsOf (sought : Sought) (pod : Want) (found : Option Found) : Type 0 where
  pub is : (x : Found) → found ≡ Some x → x ≡ record { sought = sought; want = pod }

-- where one is kept, it is the first such pod that is asked for
pub record FoundIs (ls : List Look) (f : Flow) (found : Option Found) : Type 0 where
  pub first : (x : Found) → found ≡ Some x → find (such x.sought ls f) (pods_in (wants_of f)) ≡ Some x.want

-- of the workflow, where it was read
pub record FoundFits (ls : List Look) (flow : Option Flow) (found : Option Found) : Type 0 where
  pub of : (f : Flow) → flow ≡ Some f → FoundIs ls f found

abbrev pub none : Marks
none = record { read = First 0; settled = 0; created = 0 }

-- ---- what is left of the marks once the pod of a name was looked at

-- whether a pod that was read had ended
abbrev pub seen_ended : SeenPod → Bool
seen_ended s = is_some s.pod.outcome

abbrev pub read_after : Text → Read → Read
read_after name (First n) = First n
read_after name (AllBut x) = if bytes_eq name x then First all else AllBut x

abbrev pub settled_after : Option SeenPod → ℕ → ℕ
settled_after None n = n
settled_after (Some s) n = if seen_ended s then 0 else n

abbrev pub created_after : Option SeenPod → ℕ → ℕ
created_after None n = 0
created_after (Some s) n = n

abbrev pub after : Text → Option SeenPod → Marks → Marks
after name found k = record {
  read = read_after name k.read;
  settled = settled_after found k.settled;
  created = created_after found k.created;
}

-- ---- what is left of them once the workflow has one fact more

-- the pods that were asked for keep their names and, but for one at the most, what stands in front of them; and those that are
-- asked for now are such
pub record GoesOnBy (Holds : List Want → List Want → Type 0) (f g : Flow) : Type 0 where
  pub names : (p : Path) → Among (want.Pod p) (pods_in (wants_of f)) → node_name g p.sels ≡ node_name f p.sels
  pub front : KeepsFront (pods_in (wants_of g)) (pods_in (wants_of f))
  pub pods : Holds (pods_in (wants_of g)) (pods_in (wants_of f))

-- so many fewer from the first, since one of them may be gone; all are all
abbrev pub one_fewer : ℕ → ℕ
one_fewer n = if n == all then n else (n - 1)

abbrev pub read_left : Read → Read
read_left (First n) = First (one_fewer n)
read_left (AllBut name) = First 0

-- where no pod is new
abbrev pub left : Marks → Marks
left k = record { read = read_left k.read; settled = one_fewer k.settled; created = one_fewer k.created }
