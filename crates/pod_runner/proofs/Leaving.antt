-- What some calls leave of a client, and then some more.
use Rattle.std.proofs.Common.{◌≡◌, ℕ, ◌+◌, ◌-◌, ◌^◌, ◌≤◌, List, min, refl, sym, ◌∙◌, subst, arith}
use Rattle.tree_types.specs.declared.entry.Key.{Key}
use Rattle.io_edge.specs.Cause.{Rose}
use Rattle.history.specs.History.{Event}
use Rattle.history.proofs.Extends.{extends_itself, extends_later}
use Rattle.store_client.specs.Calls.{StaysLawful}
use Rattle.law.specs.Contents.{Content, Story}
use Rattle.reply_laws.specs.Replies.{LeavesClient}

module _ {S L P : Type 0} (begins : L → List (Key × Content) → Type 0) (justified : L → Story → Event Content → Type 0) (seen : S → Story) (law : S → L) (place : S → P) (faults : S → ℕ) where
  pub leaves_itself : (a : S) → LeavesClient begins justified seen law place faults a a
  leaves_itself a = record { later = extends_itself (seen a); lawful = λ is. is; same_law = refl; same_place = refl; rising = omega arith }

  pub leaves_later : (a b c : S) → LeavesClient begins justified seen law place faults a b → LeavesClient begins justified seen law place faults b c → LeavesClient begins justified seen law place faults a c
  leaves_later a b c x y = record {
    later = extends_later (seen c) (seen b) (seen a) y.later x.later;
    lawful = λ is. subst (λ l. StaysLawful begins justified l (seen b) (seen c)) x.same_law y.lawful (x.lawful is);
    same_law = y.same_law ∙ x.same_law;
    same_place = y.same_place ∙ x.same_place;
    rising = omega (arith, x.rising, y.rising);
  }

rises : (most a b c : ℕ) → a ≤ b → min (b + 1) most ≤ c → min (a + 1) most ≤ c
rises most a b c x y = omega arith

pub rose_later : (a b c : ℕ) → a ≤ b → Rose b c → Rose a c
rose_later a b c x y = rises (2 ^ 64 - 1) a b c x y
