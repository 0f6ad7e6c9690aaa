-- The first step that applies, and what gives the steps their answers.
use Rattle.std.proofs.Common.{◌≡◌, Bool, true, false, ◌&&◌, ◌||◌, cond, List, [], ◌∷◌, true≢false, refl, sym, ◌∙◌, ap}
use Rattle.std.specs.Prelude.{ℕ, bytes_eq, Option, Some, None, option_map}
use Rattle.std.specs.List.{list_any}
use Rattle.tree_types.specs.declared.phase.Phase.{Phase}
use Rattle.tree_types.specs.declared.phase.Phase.TheVariants as phase
use Rattle.tree_types.specs.declared.fact.Fact.TheVariants as fact
use Rattle.tree_types.specs.declared.node.Kind.{Kind}
use Rattle.tree_types.specs.declared.node.Kind.TheVariants as kind
use Rattle.tree_types.specs.declared.node.Node.{Node}
use Rattle.meaning.specs.Answers.{Sels, first_of, armed_in}
use Rattle.law.specs.Documents.{Text, Command, Resume, Resubmit, Document}
use Rattle.law.specs.Contents.{Flow, Book, Content, flow_in}
use Rattle.law.specs.Justified.{tree_of}
use Rattle.object_store.specs.declared.snapshot.Snapshot.{Snapshot}
use Rattle.law.specs.Due.{record_fact}
use Rattle.next_step.specs.Views.{Seen, Views}
use Rattle.next_step.specs.Next as next
use Rattle.next_step.specs.Next.{Step, first_step, worker_next}
use Rattle.next_step.specs.Replies.{seen}
use Rattle.worker_job.specs.declared.reading.Reading.{Reading}
use Rattle.worker_job.specs.Jobs.{ShowsFlow}
use Rattle.worker_job.specs.Readings as reads
use Rattle.worker_job.specs.Readings.{step_told}
use Rattle.worker_job.specs.Told.{next_told}
use Rattle.worker_job.specs.declared.matter.Next.{Next as Act}
use Rattle.worker_job.proofs.Asked.{none_first}

-- ---- the chain

pub skips : (o : Option Act) (s : Step) (ss : List Step) → step_told o ≡ s → o ≡ None → first_step (s ∷ ss) ≡ first_step ss
skips o s ss told is = ap (λ (t : Step). first_step (t ∷ ss)) (sym told ∙ ap step_told is)

pub chooses : (n : Act) (o : Option Act) (s : Step) (ss : List Step) → step_told o ≡ s → o ≡ Some n → next_told n ≡ first_step (s ∷ ss)
chooses n o s ss told is = ap (λ (t : Step). first_step (t ∷ ss)) (sym (ap step_told is) ∙ told)

-- ---- resumptions

both_false : (a b : Bool) → a ≡ false → (a && b) ≡ false
both_false a b e = ap (λ a. a && b) e

-- a list of which none is such has none that is more
none_by : {A : Type 0} (f g : A → Bool) (x : A) (xs : List A) (b : Bool) → f x ≡ b → (f x ≡ false → g x ≡ false) → (list_any f xs ≡ false → list_any g xs ≡ false) → (b || list_any f xs) ≡ false → (g x || list_any g xs) ≡ false
none_by f g x xs true t each rest h = absurd (true≢false h)
none_by f g x xs false t each rest h = ap (λ a. a || list_any g xs) (each t) ∙ rest h

none_of : {A : Type 0} (f g : A → Bool) (xs : List A) → ((x : A) → f x ≡ false → g x ≡ false) → list_any f xs ≡ false → list_any g xs ≡ false
none_of f g [] each e = refl
none_of f g (x ∷ xs) each e = none_by f g x xs (f x) refl (each x) (λ h. none_of f g xs each h) e

module _ (r : Reading) where
  one_command : (armed : ℕ) (c : Command) → reads.is_resumption (reads.workflow r) c ≡ false → reads.resumes r armed c ≡ false
  one_command armed (Resume c) e = both_false (bytes_eq c.workflow (reads.workflow r)) _ e
  one_command armed (Resubmit c) e = refl

  -- no command resumes nodes of this workflow
  abbrev pub NoneResumes : Type 0
  NoneResumes = list_any (reads.is_resumption (reads.workflow r)) (reads.law r).commands ≡ false

  resumed_none : NoneResumes → (n : Node) (o : Option ℕ) → next.resumed_node (reads.law r) (reads.workflow r) (reads.views r) (reads.flow r) n o ≡ None
  resumed_none e n None = refl
  resumed_none e n (Some armed) =
      ap (λ (b : Bool). cond b (Some (record_fact (fact.Resumed n.path))) None)
      (none_of (reads.is_resumption (reads.workflow r)) (reads.resumes r armed) (reads.law r).commands (one_command armed) e)

  resuming_none : NoneResumes → (n : Node) (k : Kind) (p : Phase) → next.resuming_by (reads.law r) (reads.workflow r) (reads.views r) (reads.flow r) n k p ≡ None
  resuming_none e n kind.Suspend phase.Running = resumed_none e n (first_of (armed_in n.path.sels) r.object.now.journal)
  resuming_none e n _ _ = refl

  pub none_resumes : NoneResumes → None ≡ reads.first_node r (reads.resuming r)
  none_resumes e = sym (none_first (reads.resuming r) (tree_of r.object.now) (λ n. resuming_none e n n.kind n.phase))

-- ---- by the view of the workflow

pub viewed :
    (D : Document) (w : Text) (v : Views) (s : Snapshot Content) (object : Flow) → ShowsFlow s w v →
    Some object ≡ flow_in (Some s.content) → first_step (next.steps D w v (seen s.version object s.tick)) ≡ worker_next D w v
viewed D w v s object shows found =
    let same : Some object ≡ Some shows.flow = found ∙ ap (λ (c : Content). flow_in (Some c)) shows.content in
    ap (next.next_by D w v) (ap (option_map (λ (f : Flow). seen s.version f s.tick)) same ∙ sym shows.viewed)
