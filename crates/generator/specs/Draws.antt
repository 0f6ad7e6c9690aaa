-- What is drawn for each workflow, by a linear congruence of 64 bits. All of it is this project's own.
use Rattle.std.specs.Prelude.{ℕ, zero, suc, ◌+◌, ◌*◌, ◌/◌, ◌%◌, ◌^◌, ◌==◌, Bool, if◌then◌else◌, List, [], ◌∷◌}
use Rattle.generator.specs.declared.draws.Shape.{Shape}
use Rattle.generator.specs.declared.draws.Shape.TheVariants.{Pod, Steps, Dag, Loop}
use Rattle.generator.specs.declared.draws.Drawn.{Drawn}

-- what is kept from one draw to the next; at first it is the seed
unfoldable pub next : ℕ → ℕ
next s = (s * 6364136223846793005 + 1442695040888963407) % 2 ^ 64

-- the number that is drawn: the high bits
abbrev pub number : ℕ → ℕ
number s = s / 8589934592

-- what the entrypoint is; a loop has 1 to 20 items
abbrev pub shape_of : ℕ → Shape
shape_of v =
    if v % 4 == 0 then Pod
    else (if v % 4 == 1 then Steps
    else (if v % 4 == 2 then Dag else Loop (1 + v / 32 % 20)))

-- a pod of one workflow in eight fails
abbrev pub fails : ℕ → Bool
fails v = v / 4 % 8 == 0

-- the workflow at a position, by its number
unfoldable pub drawn_by : ℕ → ℕ → Drawn
drawn_by position v = record { position = position; shape = shape_of v; fails = fails v }

-- so many workflows, the first of them at this position
abbrev pub drawn : ℕ → ℕ → ℕ → List Drawn
drawn s position zero = []
drawn s position (suc n) = drawn_by position (number (next s)) ∷ drawn (next s) (suc position) n
