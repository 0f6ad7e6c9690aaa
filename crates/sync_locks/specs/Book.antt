-- What contracts see of a lock book, and what they say of it.
use Rattle.std.specs.Prelude.{ℕ, suc, Bool, false, ◌&&◌, ◌||◌, cond, nat_lt, bytes_eq, List, [], ◌∷◌, Option, Some, None, option_map, slice_get}
use Rattle.std.specs.List.{list_any}
use Rattle.tree_types.specs.declared.path.Path.{Path}
use Rattle.tree_types.specs.declared.path.LockId.{LockId}
use Rattle.tree_types.specs.declared.entry.HolderKey.{HolderKey}
use Rattle.tree_types.specs.declared.entry.Limit.{Limit}
use Rattle.tree_types.specs.declared.entry.Rank.{Rank}
use Rattle.books.specs.declared.Request.{Request}
use Rattle.books.specs.declared.LockState.{LockState}
use Rattle.books.specs.Books.{Text, is_holding, count, filed, freed, request_of}
use Rattle.books.specs.Laws.{is_of}

-- the limits, and the requests in order of filing
pub record Book : Type 0 where
  pub limits : List Limit
  pub requests : List Request

abbrev pub unfilled : List Limit → Book
unfilled limits = record { limits = limits; requests = [] }

-- with a new request, and the grants that follow
abbrev pub with_filed : LockId → HolderKey → Rank → Book → Book
with_filed lock key rank book = record book { requests = filed book.limits lock key rank book.requests }

-- with the request of a key released, and the grants that follow
abbrev pub with_freed : HolderKey → Book → Book
with_freed key book = record book { requests = freed book.limits key book.requests }

-- how the request of a key stands, if it has one
abbrev pub state_in : HolderKey → List Request → Option LockState
state_in key rs = option_map (λ (r : Request). r.state) (request_of rs key)

abbrev pub key_by : Text → Path → HolderKey
key_by workflow path = record { workflow = workflow; path = path }

-- there is one, and it holds its lock
abbrev pub holds : Option Request → Bool
holds None = false
holds (Some r) = is_holding r.state

-- the request of a key holds its lock
abbrev pub is_held : HolderKey → List Request → Bool
is_held key rs = holds (request_of rs key)

-- so many that hold are looked at one by one
abbrev pub few : ℕ
few = 32

abbrev pub holds_now : Request → Bool
holds_now r = is_holding r.state

abbrev pub has_many_holders : List Request → Bool
has_many_holders rs = nat_lt few (count holds_now rs)

abbrev pub is_of_workflow : Text → Request → Bool
is_of_workflow workflow r = bytes_eq workflow r.key.workflow

-- a request of this workflow holds its lock, or more hold than are looked at
abbrev pub may_hold : Text → List Request → Bool
may_hold workflow rs = has_many_holders rs || list_any (λ r. holds_now r && is_of_workflow workflow r) rs

-- it is of this workflow, and for a path that passes
abbrev pub is_where : Text → (Path → Bool) → Request → Bool
is_where workflow test r = is_of_workflow workflow r && test r.key.path

-- such a request holds its lock
abbrev pub is_held_where : Text → (Path → Bool) → List Request → Bool
is_held_where workflow test rs = list_any (λ r. holds_now r && is_where workflow test r) rs

-- which lock a key asked for, and how its request stands
abbrev pub standing : Request → LockId × LockState
standing r = (r.lock, r.state)

abbrev pub standing_of : HolderKey → List Request → Option (LockId × LockState)
standing_of key rs = option_map standing (request_of rs key)

-- where the first request that passes stands in the order of filing, from 0
abbrev pub place : (Request → Bool) → List Request → Option ℕ
place test [] = None
place test (r ∷ rs) = cond (test r) (Some 0) (option_map suc (place test rs))

-- where the request of a key stands, if it has one
abbrev pub place_of : HolderKey → List Request → Option ℕ
place_of key rs = place (is_of key) rs

-- there is a request, and it is of this key
abbrev pub is_by : HolderKey → Option Request → Bool
is_by key None = false
is_by key (Some r) = is_of key r

-- the request at a place is of this key
abbrev pub is_filed_at : ℕ → HolderKey → List Request → Bool
is_filed_at place key rs = is_by key (slice_get rs place)
