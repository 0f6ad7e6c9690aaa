-- What `duration_of` says by the form of a text.
use Rattle.std.proofs.Common.{◌≡◌, ℕ, ◌<◌, true, false, List, [], ◌∷◌, length, arith}
use Rattle.std.proofs.lemmas.Bool.{cond-true, cond-false}
use Rattle.std.specs.Str.Parse.{digits_value}
use Rattle.time_text.specs.Durations.{is_number, within_most, seconds_of_parts, duration_of}

pub duration_of-number : (t : List ℕ) → is_number t ≡ true → duration_of t ≡ within_most (digits_value 10 t)
duration_of-number [] form = cc
duration_of-number (b ∷ bs) form = cond-true (is_number (b ∷ bs)) (within_most (digits_value 10 (b ∷ bs))) (seconds_of_parts (b ∷ bs)) form

pub duration_of-parts : (t : List ℕ) → is_number t ≡ false → 0 < length t → duration_of t ≡ seconds_of_parts t
duration_of-parts [] form some = absurd (omega arith)
duration_of-parts (b ∷ bs) form some = cond-false (is_number (b ∷ bs)) (within_most (digits_value 10 (b ∷ bs))) (seconds_of_parts (b ∷ bs)) form
