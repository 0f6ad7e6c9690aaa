-- The limits that ConfigMaps give to the semaphores that workflows name (field reference, `SemaphoreRef`). That the first
-- of two ConfigMaps of one name counts is this project's own.
use Rattle.std.specs.Prelude.{ℕ, List, [], ◌∷◌, ◌++◌, Option, Some, None, if◌then◌else◌}
use Rattle.std.specs.List.{flat_map}
use Rattle.base_types.specs.Names.{is_among}
use Rattle.tree_types.specs.declared.path.LockId.{LockId}
use Rattle.tree_types.specs.declared.outcome.Param.{Param}
use Rattle.tree_types.specs.declared.entry.Limit.{Limit}
use Rattle.wf_manifest.specs.declared.manifest.Manifest.{Manifest}
use Rattle.template_reader.specs.Texts.{lock_limit}
use Rattle.template_reader.specs.Locks.{semaphore_lock}
use Rattle.item_reader.specs.declared.configs.Config.{Config}
use Rattle.item_reader.specs.declared.items.Item.{Item}
use Rattle.item_reader.specs.declared.items.Item.TheVariants as item

-- ---- the locks that workflows name

abbrev pub lock_text : Option LockId → List (List ℕ)
lock_text None = []
lock_text (Some lock) = lock.text ∷ []

-- its own lock, and those of its templates
abbrev pub locks_of : Manifest → List (List ℕ)
locks_of m = lock_text m.lock ++ flat_map (λ t. lock_text t.lock) m.templates

abbrev pub locks_in : Item → List (List ℕ)
locks_in (item.Workflow m) = locks_of m
locks_in _ = []

abbrev pub locks : List Item → List (List ℕ)
locks xs = flat_map locks_in xs

-- ---- the limits that ConfigMaps give to them

abbrev pub limit_by : LockId → Option ℕ → List Limit
limit_by lock None = []
limit_by lock (Some n) = record { lock = lock; limit = n } ∷ []

-- none where the text is no limit
abbrev pub limit_if_named : List (List ℕ) → LockId → List ℕ → List Limit
limit_if_named named lock text = if is_among named lock.text then limit_by lock (lock_limit text) else []

abbrev pub entry_limit : List (List ℕ) → List ℕ → Param → List Limit
entry_limit named config entry = limit_if_named named (semaphore_lock config entry.name) entry.value

abbrev pub config_limits : List (List ℕ) → Config → List Limit
config_limits named c = flat_map (entry_limit named c.name) c.entries

-- of the ConfigMaps of one name the first counts; `before` are the names so far
abbrev pub item_limits : List (List ℕ) → List (List ℕ) → Item → List Limit
item_limits named before (item.Config c) = if is_among before c.name then [] else config_limits named c
item_limits named before _ = []

abbrev pub config_names : Item → List (List ℕ)
config_names (item.Config c) = c.name ∷ []
config_names _ = []

abbrev pub limits_from : List (List ℕ) → List (List ℕ) → List Item → List Limit
limits_from named before [] = []
limits_from named before (x ∷ xs) = item_limits named before x ++ limits_from named (before ++ config_names x) xs

-- the limits of a document
abbrev pub limits_of : List Item → List Limit
limits_of xs = limits_from (locks xs) [] xs
