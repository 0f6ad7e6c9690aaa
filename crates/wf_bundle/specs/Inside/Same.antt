-- Two texts that are equal to two others are fed to a hash alike, and compare alike.
use Rattle.std.specs.Prelude.{◌≡◌, ℕ, List, ◌&&◌, ◌++◌, bytes_eq, IsTrue}
use Rattle.std.specs.Hash as fed
use Rattle.std.specs.Cmp.{first_so, second_so}
use Rattle.std.specs.Cmp.Lexicographic.{bytes_decides}

module _ (a b x y : List ℕ) where
  first_same : IsTrue (bytes_eq a x && bytes_eq b y) → a ≡ x
  first_same h = (bytes_decides a x).0 (first_so (bytes_eq a x) (bytes_eq b y) h)

  second_same : IsTrue (bytes_eq a x && bytes_eq b y) → b ≡ y
  second_same h = (bytes_decides b y).0 (second_so (bytes_eq a x) (bytes_eq b y) h)

  pub fed_alike : IsTrue (bytes_eq a x && bytes_eq b y) → fed.str a ++ fed.str b ≡ fed.str x ++ fed.str y
  fed_alike h = λ i. fed.str (first_same h i) ++ fed.str (second_same h i)

  pub same_tests : (v w : List ℕ)
      → IsTrue (bytes_eq a x && bytes_eq b y) → (bytes_eq a v && bytes_eq b w) ≡ (bytes_eq x v && bytes_eq y w)
  same_tests v w h = λ i. bytes_eq (first_same h i) v && bytes_eq (second_same h i) w
