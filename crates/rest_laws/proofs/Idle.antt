-- Where nothing is due of a workflow its job finds nothing to do.
use Rattle.std.proofs.Common.{◌≡◌, ◌⊎◌, inl, inr, ℕ, zero, suc, ◌+◌, ◌<◌, [], ◌∷◌, refl, sym, ◌∙◌, ap, subst, Option, Some, None, arith}
use Rattle.tree_types.specs.declared.entry.Key.{Key}
use Rattle.tree_types.specs.declared.entry.Key.TheVariants.{Workflow}
use Rattle.history.specs.History.{Version, clock_of, version_at}
use Rattle.history.proofs.Extends.{extends_itself}
use Rattle.history.proofs.Carrying.{absent_at}
use Rattle.law.specs.Documents.{Text, Document}
use Rattle.law.specs.Contents.{Flow, Content, OfWorkflow, apply, Story, number_at, HasFlow}
use Rattle.law.specs.Justified.{IsLawful}
use Rattle.law.specs.Due.{Matter, record_fact, file, create, save, release, submit, due_of}
use Rattle.lawful.proofs.Changes.{Found, flow_found}
use Rattle.lawful.proofs.Facts.{none_some}
use Rattle.next_step.specs.Views.{Seen, Views, nothing, head}
use Rattle.next_step.specs.Next.{Next, get, act, done, worker_next}
use Rattle.next_step.specs.Changes.{change_of}
use Rattle.next_step.specs.Replies.{Reply, found, no_object, exists, by_absence, seen}
use Rattle.next_step.specs.Calls.{Got, Did, Undisturbed, stays, reads, acts, calls_of}
use Rattle.next_step.specs.Hands.{for_flow}
use Rattle.next_step.specs.Rounds.{faults_of, by_done, by_get, worker_ran}
use Rattle.next_laws.specs.Fresh.{Fresh, IsTaken, NextIs, IsSubmitted}
use Rattle.next_laws.specs.Sizes.{calls_left, MayGet}
use Rattle.next_laws.proofs.Agreeing.{fresh_acts_are_due}
use Rattle.next_laws.proofs.Falling.{reads_leave_fewer, refusals_leave_fewer}
use Rattle.next_laws.proofs.Gets.{own_key}
use Rattle.next_laws.proofs.Going.{get_goes}
use Rattle.next_laws.proofs.Keeping.{FreshJob, got_fresh, acted_fresh, fresh_nothing}
use Rattle.run_laws.specs.Whole.{went, Ran}

-- a job goes on from these views, over the history as it is, until it is done
record IsDone (D : Document) (h : Story) (w : Text) (v : Views) : Type 0 where
  views : Views
  ran : Undisturbed D w h v h views
  done : worker_next D w views ≡ done

above_zero : (n : ℕ) → (n ≡ 0 → ⊥) → 0 < n
above_zero zero f = absurd (f refl)
above_zero (suc n) f = omega arith

module _ (D : Document) (h : Story) (l : IsLawful D h) (w : Text) where
  -- a get that does not fail
  record Gets (k : Key) : Type 0 where
    reply : Reply
    got : Got h k reply
    may : MayGet h k reply
    well : faults_of reply ≡ 0

  gets : (k : Key) → Gets k
  gets k = by (version_at apply h k) refl
    where
      by : (o : Option (Version Content)) → version_at apply h k ≡ o → Gets k
      by None e = record { reply = no_object; got = e; may = e; well = refl }
      by (Some v) e = record { reply = found (seen v.number v.content (clock_of h)); got = record { stood = e; clock = refl }; may = tt; well = refl }

  -- what was submitted has a number
  has_number : (name : Text) → IsSubmitted h name → 0 < number_at h (Workflow name)
  has_number name s = above_zero (number_at h (Workflow name)) none
    where
      none : number_at h (Workflow name) ≡ 0 → ⊥
      none z = let f = flow_found (version_at apply h (Workflow name)) s.0 s.1 in none_some f.version (sym (absent_at apply h (Workflow name) z) ∙ f.is)

  module _ (f : Flow) (stands : HasFlow h w f) where
    abbrev Ends : ℕ → Type 0
    Ends n = (v : Views) (s : Seen Flow) → calls_left D h w v s.content < n → Fresh h w v → v.flow ≡ Some s → due_of D h w s.content ≡ [] → IsDone D h w v

    -- a resubmission under a name that is taken is tried, and refused
    tries : (n : ℕ) → Ends n → (v : Views) (s : Seen Flow) (m : Matter) → calls_left D h w v s.content < suc n → Fresh h w v → v.flow ≡ Some s → due_of D h w s.content ≡ [] → worker_next D w v ≡ act m → IsTaken h m → IsDone D h w v
    tries n ends v s (submit c) below fresh viewed none e taken =
        let x : Views = record v { tried = c.name ∷ v.tried } in
        let did : Did h (change_of w v s [] (submit c)) exists h = (refl, has_number c.name taken, refl) in
        let fewer = refusals_leave_fewer D h w v x s [] (submit c) exists viewed e did refl in
        let is_fresh : Fresh h w x = acted_fresh D w h h h v l (extends_itself h) (extends_itself h) fresh s viewed [] (submit c) exists did in
        let less = fewer.fewer in
        let rest = ends x s (omega (arith, below, less)) is_fresh fewer.same none in
        record { views = rest.views; ran = acts (submit c) s [] exists x e viewed tt did refl rest.ran; done = rest.done }
    tries n ends v s (record_fact x) below fresh viewed none e taken = absurd taken
    tries n ends v s (file y k r) below fresh viewed none e taken = absurd taken
    tries n ends v s (create p name) below fresh viewed none e taken = absurd taken
    tries n ends v s (save a k y o) below fresh viewed none e taken = absurd taken
    tries n ends v s (release y k) below fresh viewed none e taken = absurd taken

    reads_on : (n : ℕ) → Ends n → (v : Views) (s : Seen Flow) (k : Key) → calls_left D h w v s.content < suc n → Fresh h w v → v.flow ≡ Some s → due_of D h w s.content ≡ [] → worker_next D w v ≡ get k → IsDone D h w v
    reads_on n ends v s k below fresh viewed none e =
        let g = gets k in
        let own = own_key D w v k e in
        let on = get_goes D h l w f stands v k g.reply own g.got g.well in
        let x = on.views in
        let fewer = reads_leave_fewer D h w v x s k g.reply viewed e g.may on.is in
        let is_fresh : Fresh h w x = subst (FreshJob h w) on.is (got_fresh h w v fresh k own g.reply g.got) in
        let less = fewer.fewer in
        let rest = ends x s (omega (arith, below, less)) is_fresh fewer.same none in
        record { views = rest.views; ran = reads k g.reply x e g.got on.is rest.ran; done = rest.done }

    acts_on : (n : ℕ) → Ends n → (v : Views) (s : Seen Flow) (m : Matter) → calls_left D h w v s.content < suc n → Fresh h w v → v.flow ≡ Some s → due_of D h w s.content ≡ [] → worker_next D w v ≡ act m → (head (due_of D h w s.content) ≡ Some m) ⊎ IsTaken h m → IsDone D h w v
    acts_on n ends v s m below fresh viewed none e (inl q) = none_some m (sym (ap head none) ∙ q)
    acts_on n ends v s m below fresh viewed none e (inr t) = tries n ends v s m below fresh viewed none e t

    goes : (n : ℕ) → Ends n → (v : Views) (s : Seen Flow) → calls_left D h w v s.content < suc n → Fresh h w v → v.flow ≡ Some s → due_of D h w s.content ≡ [] → (next : Next) → worker_next D w v ≡ next → NextIs h next (head (due_of D h w s.content)) → IsDone D h w v
    goes n ends v s below fresh viewed none (get k) e is = reads_on n ends v s k below fresh viewed none e
    goes n ends v s below fresh viewed none (act m) e is = acts_on n ends v s m below fresh viewed none e is
    goes n ends v s below fresh viewed none done e is = record { views = v; ran = stays; done = e }

    ends : (n : ℕ) → Ends n
    ends zero v s below fresh viewed none = absurd (omega (arith, below))
    ends (suc n) v s below fresh viewed none = goes n (ends n) v s below fresh viewed none (worker_next D w v) refl (fresh_acts_are_due D h w v s l fresh viewed)

    -- a whole job: first the workflow is read
    whole : due_of D h w f ≡ [] → IsDone D h w nothing
    whole none = by (flow_found (version_at apply h (Workflow w)) f stands)
      where
        by : Found (version_at apply h (Workflow w)) (OfWorkflow f) → IsDone D h w nothing
        by x =
            let s : Seen Flow = seen x.version.number f (clock_of h) in
            let v : Views = record nothing { flow = Some s } in
            let shown : version_at apply h (Workflow w) ≡ Some record { number = x.version.number; content = OfWorkflow f } = x.is ∙ ap (λ c. Some record { number = x.version.number; content = c }) x.content in
            let got : Got h (Workflow w) (found (seen x.version.number (OfWorkflow f) (clock_of h))) = record { stood = shown; clock = refl } in
            let is_fresh : Fresh h w v = got_fresh h w nothing (fresh_nothing h w) (Workflow w) refl (found (seen x.version.number (OfWorkflow f) (clock_of h))) got in
            let n = calls_left D h w v f in
            let rest = ends (suc n) v s (below n) is_fresh refl none in
            record { views = rest.views; ran = reads (Workflow w) (found (seen x.version.number (OfWorkflow f) (clock_of h))) v refl got refl rest.ran; done = rest.done }
          where
            below : (n : ℕ) → n < suc n
            below n = omega arith

    pub idle_ran : due_of D h w f ≡ [] → Ran D h (for_flow w) went h
    idle_ran none =
        let x = whole none in
        record { calls = calls_of x.ran + 0; faults = 0; ran = worker_ran w h h x.views 0 0 x.ran (by_done x.done); is_told = refl }

  -- a job finds nothing to do where no workflow stands, either
  pub missing_ran : version_at apply h (Workflow w) ≡ None → Ran D h (for_flow w) went h
  missing_ran q = record { calls = 1; faults = 0; ran = worker_ran w h h nothing 1 0 stays (by_get (Workflow w) no_object by_absence refl q refl); is_told = refl }
