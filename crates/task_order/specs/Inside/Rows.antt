-- Sets of places as bits, and the ancestors that they hold.
use Rattle.std.specs.Prelude.{◌≡◌, ◌↔◌, ℕ, zero, suc, ◌<◌, ◌/◌, ◌%◌, ◌==◌, List, [], ◌∷◌, length, Bool, IsTrue, Some, get_or}
use Rattle.std.specs.Int.{bit_at}
use Rattle.wf_manifest.specs.declared.calls.Task.{Task}
use Rattle.task_order.specs.declared.places.Places.{Places}
use Rattle.task_order.specs.Ancestors.{IsAncestor}
use Rattle.task_order.specs.Orders.{place, Reaches}

-- a place is in a set
abbrev pub has : List ℕ → ℕ → Bool
has words p = bit_at (get_or words (p / 64) 0) (p % 64) == 1

-- the words of a set
abbrev pub bits_of : List Places → ℕ → List ℕ
bits_of [] v = []
bits_of (set ∷ sets) zero = set.words.items
bits_of (set ∷ sets) (suc v) = bits_of sets v

-- each set has exactly what its place reaches
pub record HoldReached (waits : List (List ℕ)) (sets : List Places) : Type 0 where
  pub long : length sets ≡ length waits
  pub exact : (v p : ℕ) → v < length waits → IsTrue (has (bits_of sets v) p) ↔ Reaches waits p v

-- the sets tell the ancestors of tasks
pub record AreAncestors (tasks : List Task) (table : List (List ℕ)) (sets : List Places) : Type 0 where
  pub long : length sets ≡ length table
  pub exact : (name ancestor : List ℕ) (v p : ℕ) → place table name ≡ Some v → place table ancestor ≡ Some p →
      IsTrue (has (bits_of sets v) p) ↔ IsAncestor tasks ancestor name
  pub there : (name ancestor : List ℕ) → IsAncestor tasks ancestor name →
      (v : ℕ) × (p : ℕ) × (place table name ≡ Some v) × (place table ancestor ≡ Some p)
