-- The locks of workflows and templates (field reference, `Synchronization`, `Mutex` and `SemaphoreRef`). How locks are
-- written, and that they have no namespace beside the workflow's, is this project's own.
use Rattle.std.specs.Prelude.{ℕ, List, [], ◌∷◌, ◌++◌, Bool, true, is_some, if◌then◌else◌, Option, Some, None, Ok, bytes_eq, codes}
use Rattle.serde_json.specs.Data.{Data, string}
use Rattle.serde_json.specs.Find.{get}
use Rattle.json_fields.specs.Paths.{Path, field_of}
use Rattle.tree_types.specs.declared.path.LockId.{LockId}
use Rattle.field_kinds.specs.Reading.{Read, ◌>>=◌, Kind, refuse_by}
use Rattle.field_kinds.specs.Rules as rules
use Rattle.field_kinds.specs.Kinds.{text, of, object_of}
use Rattle.field_kinds.specs.Fields.{optional, required, default, refused_all, unsupported, no_second}
use Rattle.template_reader.specs.declared.locks.ConfigKey.{ConfigKey}
use Rattle.template_reader.specs.Names.{resource_name, config_key, mutex_name}

-- ---- namespaces

-- the workflow's own namespace; an empty text says nothing
abbrev pub is_own : List ℕ → List ℕ → Bool
is_own own [] = true
is_own own (b ∷ bs) = bytes_eq (b ∷ bs) own

abbrev pub foreign : List ℕ → Path → Option Data → Read (Unit {0})
foreign own path (Some (string t)) = if is_own own t then Ok tt else refuse_by rules.unsupported path
foreign own path found = unsupported path found

-- a namespace that is not the workflow's is refused
abbrev pub no_foreign_namespace : List ℕ → Kind (Unit {0})
no_foreign_namespace own at d = foreign own (field_of at (codes "namespace")) (get (codes "namespace") d)

-- ---- locks

-- The lock is written `mutex/NAME`.
abbrev pub mutex_lock : List ℕ → LockId
mutex_lock name = record { text = codes "mutex/" ++ name }

unfoldable pub mutex_fields : List ℕ → Kind LockId
mutex_fields own at d = do
  _ ← refused_all (codes "database" ∷ []) at d
  _ ← no_foreign_namespace own at d
  name ← required (of mutex_name text) (codes "name") at d
  _ ← optional text (codes "namespace") at d
  Ok (mutex_lock name)

-- a key in a ConfigMap
unfoldable pub key_fields : Kind ConfigKey
key_fields at d = do
  name ← required (of resource_name text) (codes "name") at d
  key ← required (of config_key text) (codes "key") at d
  Ok (record { name = name; key = key })

-- The lock of a key in the ConfigMap of this name is written `semaphore/MAP/KEY`.
abbrev pub semaphore_lock : List ℕ → List ℕ → LockId
semaphore_lock name key = record { text = (codes "semaphore/" ++ name) ++ codes "/" ++ key }

unfoldable pub semaphore_fields : List ℕ → Kind LockId
semaphore_fields own at d = do
  _ ← refused_all (codes "database" ∷ []) at d
  _ ← no_foreign_namespace own at d
  key ← required (object_of key_fields) (codes "configMapKeyRef") at d
  _ ← optional text (codes "namespace") at d
  Ok (semaphore_lock key.name key.key)

abbrev pub or_lock : Option LockId → Option LockId → Option LockId
or_lock (Some mutex) _ = Some mutex
or_lock None semaphore = semaphore

unfoldable pub lock_fields : List ℕ → Kind (Option LockId)
lock_fields own at d = do
  _ ← refused_all (codes "mutexes" ∷ codes "semaphores" ∷ []) at d
  mutex ← optional (object_of (mutex_fields own)) (codes "mutex") at d
  _ ← no_second (is_some mutex) (codes "semaphore") at d
  semaphore ← optional (object_of (semaphore_fields own)) (codes "semaphore") at d
  Ok (or_lock mutex semaphore)

-- The lock of a workflow or a template, in the workflow's namespace. `synchronization` with neither is as if absent.
abbrev pub lock_said : List ℕ → Kind (Option LockId)
lock_said own = default None (object_of (lock_fields own)) (codes "synchronization")
