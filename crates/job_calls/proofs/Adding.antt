-- Why the history after a change goes on from what was seen before it, and what the object is then.
use Rattle.std.proofs.Common.{◌≡◌, ℕ, sym, ap, subst, Option, Result, Ok, Err}
use Rattle.std.specs.Prelude.{IfOk}
use Rattle.tree_types.specs.declared.entry.Key.{Key}
use Rattle.history.specs.History.{Event, Extends, Version}
use Rattle.history.proofs.Extends.{extends_grown, extends_later}
use Rattle.object_store.specs.declared.snapshot.Snapshot.{Snapshot}
use Rattle.object_store.specs.declared.refused.StoreRefused.{StoreRefused}
use Rattle.object_store.specs.Answers.{Adds, CreateGives, WriteGives}
use Rattle.law.specs.Contents.{Content, Story}

pub adds_later : (seen at now : Story) (e : Event Content) (r : Result (Snapshot Content) StoreRefused) → Extends at seen → Adds at e r now → Extends now seen
adds_later seen at now e (Ok s) b a = extends_later now at seen (subst (λ (h : Story). Extends h at) (sym a) (extends_grown at e)) b
adds_later seen at now e (Err x) b a = subst (λ (h : Story). Extends h seen) (sym a) b

pub made_content : (key : Key) (content : Content) (clock : ℕ) (o : Option (Version Content)) (r : Result (Snapshot Content) StoreRefused) → CreateGives key content clock o r → IfOk r (λ s. s.content ≡ content)
made_content key content clock o (Ok s) gives = ap (λ (s : Snapshot Content). s.content) gives.1
made_content key content clock o (Err x) gives = tt

pub written_content : (from : Snapshot Content) (next : Content) (clock : ℕ) (o : Option (Version Content)) (r : Result (Snapshot Content) StoreRefused) → WriteGives from next clock o r → IfOk r (λ s. s.content ≡ next)
written_content from next clock o (Ok s) gives = ap (λ (s : Snapshot Content). s.content) gives.1
written_content from next clock o (Err x) gives = tt
