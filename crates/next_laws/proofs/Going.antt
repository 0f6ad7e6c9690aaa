-- Where its workflow stands, a job goes on behind each get that does not fail.
use Rattle.std.proofs.Common.{◌≡◌, ℕ, refl, sym, ◌∙◌, ap, subst, Option, Some, None, arith}
use Rattle.tree_types.specs.declared.entry.Key.{Key}
use Rattle.tree_types.specs.declared.entry.Key.TheVariants.{Workflow, Pod, Locks, Caches}
use Rattle.history.specs.History.{Version, map_content, version_at}
use Rattle.law.specs.Documents.{Text, Document}
use Rattle.law.specs.Contents.{Flow, Content, OfWorkflow, OfPod, OfLocks, OfCaches, apply, Story, flow_in, HasFlow}
use Rattle.law.specs.Justified.{IsLawful}
use Rattle.lawful.proofs.Facts.{none_some}
use Rattle.next_step.specs.Views.{Views}
use Rattle.next_step.specs.Next.{get}
use Rattle.next_step.specs.Replies.{Reply, found, accepted, no_object, exists, conflict, fault, Job, Ending, goes_on, ended, taken, after}
use Rattle.next_step.specs.Calls.{Got}
use Rattle.next_step.specs.Rounds.{faults_of}
use Rattle.next_laws.proofs.Gets.{OwnKey}
use Rattle.next_laws.proofs.ContentKinds.{kind_of, kind_under, kinds_are}

pub record GoesOn (j : Job) : Type 0 where
  pub views : Views
  pub is : j ≡ goes_on views

-- it has not ended
pub not_ended : {B : Type 0} (j : Job) (e : Ending) → GoesOn j → j ≡ ended e → B
not_ended j e g q = by (sym g.is ∙ q)
  where
    by : {B : Type 0} → goes_on g.views ≡ ended e → B
    by r = absurd cc

-- a content of the key's kind becomes a view
taken_goes : (v : Views) (k : Key) (n t : ℕ) (c : Content) → kind_of c ≡ kind_under k → GoesOn (taken v k n t c)
taken_goes v (Workflow w) n t (OfWorkflow f) e = record { views = _; is = refl }
taken_goes v (Pod w m) n t (OfPod pod) e = record { views = _; is = refl }
taken_goes v Locks n t (OfLocks b) e = record { views = _; is = refl }
taken_goes v Caches n t (OfCaches ss) e = record { views = _; is = refl }
taken_goes v (Workflow w) n t (OfPod pod) e = absurd cc
taken_goes v (Workflow w) n t (OfLocks b) e = absurd cc
taken_goes v (Workflow w) n t (OfCaches ss) e = absurd cc
taken_goes v (Pod w m) n t (OfWorkflow f) e = absurd cc
taken_goes v (Pod w m) n t (OfLocks b) e = absurd cc
taken_goes v (Pod w m) n t (OfCaches ss) e = absurd cc
taken_goes v Locks n t (OfWorkflow f) e = absurd cc
taken_goes v Locks n t (OfPod pod) e = absurd cc
taken_goes v Locks n t (OfCaches ss) e = absurd cc
taken_goes v Caches n t (OfWorkflow f) e = absurd cc
taken_goes v Caches n t (OfPod pod) e = absurd cc
taken_goes v Caches n t (OfLocks b) e = absurd cc

module _ (D : Document) (h : Story) (l : IsLawful D h) (w : Text) (f : Flow) (s : HasFlow h w f) where
  -- the workflow is there
  stood : (o : Option (Version Content)) → flow_in (map_content o) ≡ Some f → o ≡ None → ⊥
  stood o e q = none_some f (sym (ap (λ x. flow_in (map_content x)) q) ∙ e)

  -- of what a job gets only a pod may be absent
  missed_goes : (v : Views) (k : Key) → OwnKey w k → version_at apply h k ≡ None → GoesOn (after v (get k) no_object)
  missed_goes v (Workflow y) own g = absurd (stood (version_at apply h (Workflow w)) s (subst (λ z. version_at apply h (Workflow z) ≡ None) own g))
  missed_goes v (Pod y name) own g = record { views = _; is = refl }
  missed_goes v Locks own g = let x = (kinds_are D h l).locks in none_some x.version (sym g ∙ x.is)
  missed_goes v Caches own g = let x = (kinds_are D h l).caches in none_some x.version (sym g ∙ x.is)

  pub get_goes : (v : Views) (k : Key) (r : Reply) → OwnKey w k → Got h k r → faults_of r ≡ 0 → GoesOn (after v (get k) r)
  get_goes v k (found x) own g z = taken_goes v k x.number x.tick x.content ((kinds_are D h l).kinds k record { number = x.number; content = x.content } g.stood)
  get_goes v k no_object own g z = missed_goes v k own g
  get_goes v k fault own g z = absurd (omega (arith, z))
  get_goes v k (accepted x) own g z = absurd g
  get_goes v k exists own g z = absurd g
  get_goes v k (conflict a b) own g z = absurd g
