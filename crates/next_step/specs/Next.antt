-- What a worker does next: the first of the steps that applies to its views and notes.
use Rattle.std.specs.Prelude.{ℕ, Bool, true, false, not, ◌&&◌, ◌||◌, nat_le, bytes_eq, List, [], ◌∷◌, ◌++◌, filter_map, Option, Some, None, is_some, is_none, option_map, option_and_then, option_to_list, if◌then◌else◌}
use Rattle.std.specs.List.{list_any}
use Rattle.tree_types.specs.declared.path.Path.{Path}
use Rattle.tree_types.specs.declared.path.LockId.{LockId}
use Rattle.tree_types.specs.declared.phase.Phase.{Phase}
use Rattle.tree_types.specs.declared.fact.Fact.TheVariants as fact
use Rattle.tree_types.specs.declared.node.Kind.{Kind}
use Rattle.tree_types.specs.declared.node.Node.{Node}
use Rattle.tree_types.specs.declared.want.Want.{Want}
use Rattle.tree_types.specs.declared.want.Want.TheVariants as want
use Rattle.tree_types.specs.declared.entry.Key.{Key}
use Rattle.tree_types.specs.declared.entry.Key.TheVariants as of_key
use Rattle.tree_types.specs.Journals.{knows}
use Rattle.wf_manifest.specs.declared.manifest.Manifest.{Manifest}
use Rattle.meaning.specs.Answers.{Sels}
use Rattle.books.specs.declared.Request.{Request}
use Rattle.books.specs.Books.{request_of}
use Rattle.saves.specs.declared.Saved.{Saved}
use Rattle.law.specs.Documents.{Text, Command, Resume, Resubmit, Document}
use Rattle.law.specs.Contents.{Flow, PodObject, Book}
use Rattle.law.specs.Justified.{tree_of, wants_of, key}
use Rattle.law.specs.Due.{Matter, record_fact, create, submit, node_name, is_over, settled_by, granted_if, granted_by, filed_if, memo_of, armed_at, rung_at, resumes_at, resumed_if, resumed_by, saved_by, released_if, released_at, released_by, released_own}
use Rattle.next_step.specs.Views.{Seen, Look, Views, look_at, pod_seen, head, first_given}

-- a read, one change, or the end of the job
pub data Next : Type 0 where
  get : Key → Next
  act : Matter → Next
  done : Next

-- what a step does, where it applies
abbrev pub Step : Type 0
Step = Option Next

abbrev pub acting : Option Matter → Step
acting m = option_map act m

-- the manifest or one of its templates has a lock
abbrev pub has_locks : Manifest → Bool
has_locks m = is_some m.lock || list_any (λ t. is_some t.lock) m.templates

module _ (D : Document) (w : Text) (v : Views) (s : Seen Flow) where
  -- put to each want of the view in tree order, until one of them gives something
  abbrev pub asked : {B : Type 0} → (Want → Option B) → Option B
  asked give = first_given give (wants_of s.content)

  -- ---- reads

  -- the lock book, where there is a lock and no view of the book
  abbrev pub read_book : Step
  read_book = if has_locks s.content.manifest && is_none v.book then Some (get of_key.Locks) else None

  -- a pod that is asked for, and was not looked at
  abbrev pub unless_looked : Text → Option Look → Step
  unless_looked name None = Some (get (of_key.Pod w name))
  unless_looked name (Some l) = None

  abbrev pub reading : Want → Step
  reading (want.Pod p) = option_and_then (λ name. unless_looked name (look_at v name)) (node_name s.content p.sels)
  reading _ = None

  abbrev pub read_pod : Step
  read_pod = asked reading

  -- ---- facts

  -- Started
  abbrev pub start : Step
  start = if knows s.content.journal fact.Started then None else Some (act (record_fact fact.Started))

  -- Settled, of a pod that is asked for and finished
  abbrev pub pod_at : Sels → Option PodObject
  pod_at p = option_and_then (pod_seen v) (node_name s.content p)

  abbrev pub settling : Want → Option Matter
  settling = settled_by pod_at

  abbrev pub settle : Step
  settle = acting (asked settling)

  -- Granted, of a path that waits and that the book shows as holding
  abbrev pub request_in : Path → Option (Seen Book) → Option Request
  request_in p o = option_and_then (λ b. request_of b.content.requests (key w p)) o

  abbrev pub if_holding : Path → Option Request → Option Matter
  if_holding = granted_if

  abbrev pub granting : Want → Option Matter
  granting = granted_by (λ p. request_in p v.book)

  abbrev pub grant : Step
  grant = acting (asked granting)

  -- ---- a filing, of a path that waits and that the book does not know

  abbrev pub if_unknown : Path → LockId → Option Request → Option Matter
  if_unknown = filed_if w s.content

  abbrev pub filing : Want → Option Matter
  filing (want.Lock p l) =
      option_and_then (λ b. if_unknown p l (request_of b.content.requests (key w p))) v.book
  filing _ = None

  abbrev pub file_one : Step
  file_one = acting (asked filing)

  -- ---- further facts

  -- the saves are read first, where there is no view of them
  abbrev pub by_saves : Option (Seen (List Saved)) → (Seen (List Saved) → Option Matter) → Step
  by_saves None answer = Some (get of_key.Caches)
  by_saves (Some c) answer = acting (answer c)

  -- Memo, with the answer of the saves at the tick at which they were read
  abbrev pub looked_up : Path → Text → Text → Option ℕ → Seen (List Saved) → Option Matter
  looked_up p cache entry age c = memo_of c.content c.tick p cache entry age

  abbrev pub looking : Want → Step
  looking (want.LookUp p cache entry age) = by_saves v.saves (looked_up p cache entry age)
  looking _ = None

  abbrev pub look_up : Step
  look_up = asked looking

  -- Armed, at the view's tick
  abbrev pub arming : Want → Option Matter
  arming = armed_at s.tick

  abbrev pub arm : Step
  arm = acting (asked arming)

  -- Due, of a timer that the view's tick has reached
  abbrev pub timing : Want → Option Matter
  timing = rung_at s.tick

  abbrev pub ring : Step
  ring = acting (asked timing)

  -- Resumed, of a suspended node that a command resumes
  abbrev pub resumes : ℕ → Command → Bool
  resumes = resumes_at D w s.content s.tick

  abbrev pub resumed_node : Node → Option ℕ → Option Matter
  resumed_node = resumed_if D w s.content s.tick

  abbrev pub resuming_by : Node → Kind → Phase → Option Matter
  resuming_by = resumed_by D w s.content s.tick

  abbrev pub resuming : Node → Option Matter
  resuming n = resuming_by n n.kind n.phase

  abbrev pub resume : Step
  resume = acting (first_given resuming (tree_of s.content))

  -- ---- the creation of a pod that is asked for, and was noted as absent

  abbrev pub if_noted : Path → Text → Option Look → Option Matter
  if_noted p name None = None
  if_noted p name (Some l) = if is_some l.found then None else Some (create p name)

  abbrev pub creating : Want → Option Matter
  creating (want.Pod p) = option_and_then (λ name. if_noted p name (look_at v name)) (node_name s.content p.sels)
  creating _ = None

  abbrev pub create_one : Step
  create_one = acting (asked creating)

  -- ---- a save that is asked for, and not among the saves

  abbrev pub saving : List Saved → Want → Option Matter
  saving = saved_by w

  abbrev pub is_save : Want → Bool
  is_save (want.Save p cache entry o) = true
  is_save _ = false

  abbrev pub save_by : Seen (List Saved) → Option Matter
  save_by c = asked (saving c.content)

  abbrev pub save_one : Step
  save_one = if list_any is_save (wants_of s.content) then by_saves v.saves save_by else None

  -- ---- the release of a lock that is held; the workflow's own stands before all others

  abbrev pub release_held : Path → Option Request → Option Matter
  release_held = released_if w

  abbrev pub release_own : Option Matter
  release_own = released_own w s.content (λ p. request_in p v.book)

  abbrev pub release_node : Sels → Path → Option Matter
  release_node = released_at w (λ p. request_in p v.book)

  abbrev pub releasing : Node → Option Matter
  releasing = released_by w (λ p. request_in p v.book)

  abbrev pub release_one : Step
  release_one = acting (head (option_to_list release_own ++ filter_map releasing (tree_of s.content)))

  -- ---- a resubmission of this workflow that was not tried

  abbrev pub untried : Text → Bool
  untried name = not (list_any (bytes_eq name) v.tried)

  abbrev pub submitting : Command → Option Matter
  submitting (Resubmit c) =
      if bytes_eq c.old w && (nat_le c.tick s.tick && (is_over s.content && untried c.name))
      then Some (submit c) else None
  submitting (Resume c) = None

  abbrev pub resubmit : Step
  resubmit = acting (first_given submitting D.commands)

  -- ---- the steps in their order; before them the workflow is read

  abbrev pub steps : List Step
  steps =
      read_book ∷ read_pod ∷ start ∷ settle ∷ grant ∷ file_one ∷ look_up ∷ arm ∷ ring ∷ resume ∷ create_one ∷
      save_one ∷ release_one ∷ resubmit ∷ []

-- the first that applies; where none does the job is done
abbrev pub first_step : List Step → Next
first_step [] = done
first_step (None ∷ ss) = first_step ss
first_step (Some n ∷ ss) = n

-- without a view of the workflow it is read
abbrev pub next_by : Document → Text → Views → Option (Seen Flow) → Next
next_by D w v None = get (of_key.Workflow w)
next_by D w v (Some s) = first_step (steps D w v s)

-- what a worker does next in its job on a workflow
abbrev pub worker_next : Document → Text → Views → Next
worker_next D w v = next_by D w v v.flow
