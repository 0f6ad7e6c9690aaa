-- All buckets and lists are empty.
use Rattle.std.proofs.Common.{◌≡◌, ℕ, List, [], replicate, ◌∙◌, ap}
use Rattle.buckets.specs.Buckets.{buckets}
use Rattle.sync_locks.proofs.Stored.{stored_none}
use Rattle.sync_locks.proofs.requests.Requests.new.Goals as goal

pub invariant_of-result : goal.invariant_of-result
invariant_of-result c =
    let table : List (List ℕ) = c.in_ok-filled.field-0 in
    let filled : table ≡ replicate buckets [] = c.in_ok-filled.ensures ∙ ap (λ (bucket : List ℕ). replicate buckets bucket) c.in_ok-empty.ensures in
    rw (c.in_ok-new.ensures, c.in_ok-new-2.ensures, filled, c.new-4.ensures.items, c.in_ok-new-3.ensures) stored_none
