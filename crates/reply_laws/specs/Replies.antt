-- What the answer of a client's call is to a worker or a runner.
use Rattle.std.specs.Prelude.{◌≡◌, ◌≤◌, ℕ, List, Result, Ok, Err}
use Rattle.tree_types.specs.declared.entry.Key.{Key}
use Rattle.history.specs.History.{Event, Extends}
use Rattle.object_store.specs.declared.snapshot.Snapshot.{Snapshot}
use Rattle.object_store.specs.declared.refused.StoreRefused.{StoreRefused}
use Rattle.object_store.specs.declared.refused.StoreRefused.TheVariants as refused
use Rattle.store_client.specs.Calls.{CountsOthers, StaysLawful}
use Rattle.law.specs.Contents.{Content, Story}
use Rattle.next_step.specs.Views.{Seen}
use Rattle.next_step.specs.Changes.{Change}
use Rattle.next_step.specs.Replies.{Reply, found, accepted, no_object, exists, conflict, fault, seen}
use Rattle.next_step.specs.Calls.{Did}

abbrev pub seen_in : Snapshot Content → Seen Content
seen_in s = seen s.version s.content s.tick

-- want of memory is no reply, and no call of a job is answered that the clock is behind
abbrev pub refusal : StoreRefused → Reply
refusal refused.NoObject = no_object
refusal refused.Exists = exists
refusal (refused.Conflict expected there) = conflict expected there
refusal refused.Fault = fault
refusal _ = no_object

-- of a get
abbrev pub read_reply : Result (Snapshot Content) StoreRefused → Reply
read_reply (Ok s) = found (seen_in s)
read_reply (Err r) = refusal r

-- of a create or a write
abbrev pub change_reply : Result (Snapshot Content) StoreRefused → Reply
change_reply (Ok s) = accepted (seen_in s)
change_reply (Err r) = refusal r

-- a change is answered at a history that goes on from what was seen by the entries of others
pub record DidBehind
    (seen : Story) (c : Change) (r : Reply) (now : Story) (others_before others_now : ℕ) : Type 0 where
  pub at : Story
  pub later : Extends at seen
  pub others : CountsOthers seen at others_before others_now
  pub did : Did at c r now

-- What some calls leave of a client, by its meanings: its history goes on and stays lawful, its law and its place stay, and
-- its faults never fall.
pub record LeavesClient
    {S L P : Type 0} (begins : L → List (Key × Content) → Type 0) (justified : L → Story → Event Content → Type 0)
    (seen : S → Story) (law : S → L) (place : S → P) (faults : S → ℕ) (before after : S) : Type 0 where
  pub later : Extends (seen after) (seen before)
  pub lawful : StaysLawful begins justified (law before) (seen before) (seen after)
  pub same_law : law after ≡ law before
  pub same_place : place after ≡ place before
  pub rising : faults before ≤ faults after
