-- What a worker has read and noted in one job.
use Rattle.std.specs.Prelude.{ℕ, Bool, bytes_eq, List, [], ◌∷◌, find, filter_map, Option, Some, None, option_map, option_and_then}
use Rattle.saves.specs.declared.Saved.{Saved}
use Rattle.law.specs.Documents.{Text}
use Rattle.law.specs.Contents.{Flow, PodObject, Book}

-- an object as it was read: its version, its content, and the clock then
pub record Seen (C : Type 0) : Type 0 where
  pub number : ℕ
  pub content : C
  pub tick : ℕ

-- a look at a pod: the pod as it was read, or noted as absent
pub record Look : Type 0 where
  pub name : Text
  pub found : Option (Seen PodObject)

-- the views and notes of one job; the last look at a pod stands first
pub record Views : Type 0 where
  pub flow : Option (Seen Flow)
  pub book : Option (Seen Book)
  pub saves : Option (Seen (List Saved))
  pub pods : List Look
  -- the names of the resubmissions that were tried
  pub tried : List Text

-- with them a job begins
abbrev pub nothing : Views
nothing = record { flow = None; book = None; saves = None; pods = []; tried = [] }

abbrev pub is_look : Text → Look → Bool
is_look name l = bytes_eq l.name name

abbrev pub look_at : Views → Text → Option Look
look_at v name = find (is_look name) v.pods

abbrev pub found_in : Option Look → Option (Seen PodObject)
found_in o = option_and_then (λ l. l.found) o

-- the pod of a name, as it was read
abbrev pub pod_seen : Views → Text → Option PodObject
pod_seen v name = option_map (λ x. x.content) (found_in (look_at v name))

-- ---- the first of several

abbrev pub head : {A : Type 0} → List A → Option A
head [] = None
head (x ∷ xs) = Some x

-- the first that is given, where each is asked in turn
abbrev pub first_given : {A B : Type 0} → (A → Option B) → List A → Option B
first_given give xs = head (filter_map give xs)
