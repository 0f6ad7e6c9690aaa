-- The versions that an object had, oldest first, and which of them a get reads that lags.
use Rattle.std.specs.Prelude.{ℕ, ◌-◌, max, cond, List, [], ◌∷◌, ◌++◌, Option, Some, None, unwrap_or}
use Rattle.tree_types.specs.declared.entry.Key.{Key}
use Rattle.tree_types.specs.declared.entry.Key.TheVariants.{Caches}
use Rattle.tree_types.specs.declared.entry.Entry.{Entry}
use Rattle.history.specs.Keys.{is_about, tick_of}
use Rattle.history.specs.History.{History, Event, Version, next_version, step_at, version_at_start}

-- ---- all of them, each as what is told of a version and of the clock when it was made

module _ {C M : Type 0} (apply : C → Entry → Option C) (told : Version C → ℕ → M) where
  -- an object that was made at a tick is one version more
  abbrev pub made_at : ℕ → Option (Version C) → List M
  made_at tick None = []
  made_at tick (Some v) = told v tick ∷ []

  -- what an entry adds
  abbrev pub added_by : Key → ℕ → Option (Version C) → Event C → List M
  added_by k tick v e = cond (is_about k e.entry) (made_at tick (next_version apply v e)) []

  -- what these entries add
  abbrev pub later_versions : Key → ℕ → Option (Version C) → List (Event C) → List M
  later_versions k tick v [] = []
  later_versions k tick v (e ∷ es) =
      added_by k tick v e ++ later_versions k (unwrap_or (tick_of e.entry) tick) (step_at apply k v e) es

  -- the versions of a key's object: its content at the start, and what each entry about it made of it
  abbrev pub versions_of : History C → Key → List M
  versions_of h k =
      made_at 0 (version_at_start apply k h.start) ++ later_versions k 0 (version_at_start apply k h.start) h.events

-- ---- lags

-- the number that is lower by so many, but at least 1
abbrev pub lowered : ℕ → ℕ → ℕ
lowered number back = max (number - back) 1

-- how many versions a get reads back under a lag: the saves are read as they stand
abbrev pub back_of : Key → ℕ → ℕ
back_of Caches lag = 0
back_of _ lag = lag

-- the lag that is left: a get of anything else uses it up, whatever it is answered
abbrev pub lag_after : Key → ℕ → ℕ
lag_after Caches lag = lag
lag_after _ lag = 0
