-- Lists of which one goes on from another.
use Rattle.std.specs.Prelude.{◌≡◌, cond, nat_lt, List, ◌++◌, length}

-- the second is a beginning of the first
pub record StartsWith {E : Type 0} (xs ys : List E) : Type 0 where
  pub rest : List E
  pub goes_on : xs ≡ ys ++ rest

abbrev pub longer : {E : Type 0} → List E → List E → List E
longer xs ys = cond (nat_lt (length xs) (length ys)) ys xs
