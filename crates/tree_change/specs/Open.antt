-- Nodes that are past their lock and their cache.
use Rattle.std.specs.Prelude.{◌≡◌, ℕ, List, Bool, true, false, Option, Some, None, Ok, Err}
use Rattle.tree_types.specs.declared.path.LockId.{LockId}
use Rattle.wf_manifest.specs.declared.templates.Memoize.{Memoize}
use Rattle.wf_manifest.specs.declared.templates.Template.{Template}
use Rattle.scopes.specs.Substitution.{Found, Scope, said}
use Rattle.meaning.specs.declared.lines.Place.{Place}
use Rattle.meaning.specs.Answers.{MemoAnswer, Answers}

-- the lock, if there is one, is granted
abbrev pub unlocked : Bool → Option LockId → Bool
unlocked granted None = true
unlocked granted (Some l) = granted

-- the cache had nothing
abbrev pub missed : Option MemoAnswer → Bool
missed (Some None) = true
missed _ = false

abbrev pub unkept : Found (List ℕ) → Option MemoAnswer → Bool
unkept (Ok key) answer = missed answer
unkept (Err fault) answer = false

abbrev pub past_cache : Scope → Option Memoize → Option MemoAnswer → Bool
past_cache scope None answer = true
past_cache scope (Some c) answer = unkept (said scope c.key) answer

pub record IsOpen (A : Answers) (place : Place) (scope : Scope) (t : Template) : Type 0 where
  pub unlocked : unlocked (A.granted place.sels) t.lock ≡ true
  pub unkept : past_cache scope t.memoize (A.memo place.sels) ≡ true
