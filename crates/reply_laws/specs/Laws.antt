-- Each call of a client is answered as the definitions of a job's next step have it.
use Rattle.std.specs.Prelude.{◌≡◌, ◌≢◌, ℕ, Some, None, Result, Err, IfOk}
use Rattle.tree_types.specs.declared.entry.Key.{Key}
use Rattle.tree_types.specs.declared.entry.Entry.{Entry}
use Rattle.history.specs.History.{event}
use Rattle.history.specs.Versions.{back_of}
use Rattle.object_store.specs.declared.snapshot.Snapshot.{Snapshot}
use Rattle.object_store.specs.declared.refused.StoreRefused.{StoreRefused}
use Rattle.object_store.specs.declared.refused.StoreRefused.TheVariants as refused
use Rattle.object_store.specs.Entries.{MakesObject, ChangesObject}
use Rattle.object_store.specs.Answers.{IsOf}
use Rattle.store_client.specs.Calls.{Got, Created, Wrote}
use Rattle.law.specs.Contents.{Content, apply, Story}
use Rattle.next_step.specs.Changes.{change}
use Rattle.next_step.specs.Backward.{GotBack}
use Rattle.next_laws.specs.Viewing.{Answers}
use Rattle.reply_laws.specs.Replies.{read_reply, change_reply, DidBehind}

-- a get reads what stood so many versions back, and what it reads is of the history
pub record GetsAreAnswered : Type 0 where
  pub back :
      (k : Key) (lag : ℕ) (seen now : Story) (r : Result (Snapshot Content) StoreRefused) (before after : ℕ) →
      Got apply k (back_of k lag) seen r now before after → r ≢ Err refused.Memory →
      GotBack now (back_of k lag) k (read_reply r)
  pub read :
      (k : Key) (lag : ℕ) (seen now : Story) (r : Result (Snapshot Content) StoreRefused) (before after : ℕ) →
      Got apply k (back_of k lag) seen r now before after → IfOk r (λ s. IsOf apply s now) →
      r ≢ Err refused.Memory → Answers now k (read_reply r)
  pub key :
      (k : Key) (lag : ℕ) (seen now : Story) (r : Result (Snapshot Content) StoreRefused) (before after : ℕ) →
      Got apply k (back_of k lag) seen r now before after → IfOk r (λ s. s.key ≡ k)

-- a create makes an object where there was none
abbrev pub CreatesAreDone : Type 0
CreatesAreDone =
    (k : Key) (x : Content) (e : Entry) (seen now : Story) (r : Result (Snapshot Content) StoreRefused)
    (before after : ℕ) → MakesObject e k → Created apply k x (event e (Some x)) seen r now before after →
    r ≢ Err refused.Memory →
    DidBehind seen (change k 0 (event e (Some x))) (change_reply r) now before after

-- a write changes an object that stands as it was read
abbrev pub WritesAreDone : Type 0
WritesAreDone =
    (from : Snapshot Content) (next : Content) (e : Entry) (seen now : Story)
    (r : Result (Snapshot Content) StoreRefused) (before after : ℕ) → ChangesObject e from.key →
    apply from.content e ≡ Some next → IsOf apply from seen →
    Wrote apply from next (event e None) seen r now before after → r ≢ Err refused.Memory →
    DidBehind seen (change from.key from.version (event e None)) (change_reply r) now before after
