-- A worked round in which no entry came: the pod of a workflow takes five seconds, and neither the worker nor the pod's runner
-- has anything to do. So the state is idle.
use Rattle.std.proofs.Common.{◌≡◌, Bool, true, false, cond, ◌&&◌, bytes_eq, [], ◌∷◌, refl, sym, subst, Option, Some, None, inl, arith}
use Rattle.tree_types.specs.declared.phase.Phase.TheVariants as phase
use Rattle.tree_types.specs.declared.fact.Fact.TheVariants as fact
use Rattle.tree_types.specs.declared.node.Kind.TheVariants as kind
use Rattle.tree_types.specs.declared.node.Note.TheVariants as note
use Rattle.tree_types.specs.declared.entry.Key.TheVariants.{Workflow, Pod}
use Rattle.tree_types.specs.declared.entry.Entry.TheVariants.{Submit, Write, Create}
use Rattle.meaning.specs.Lines.{no_outputs}
use Rattle.meaning.specs.Trees.{closed}
use Rattle.history.specs.History.{Event, event, Version, next_version, map_content}
use Rattle.history.proofs.Keys.{bytes_eq-true, first_of, second_of}
use Rattle.history.proofs.Carrying.{sometime_now}
use Rattle.law.specs.Documents.{Text}
use Rattle.law.specs.Contents.{Flow, PodObject, Content, OfWorkflow, OfPod, flow, begun_pod, apply, flow_in, pod_in, pod_of, HasFlow}
use Rattle.law.specs.Justified.{PodWanted, IsLawful}
use Rattle.law.specs.Due.{IsNext, IsIdle}
use Rattle.lawful.proofs.Facts.{none_some}
use Rattle.next_step.specs.Views.{Seen, Views, nothing}
use Rattle.next_step.specs.Replies.{found, seen}
use Rattle.next_step.specs.Calls.{stays, reads}
use Rattle.next_laws.specs.Jobs.{as_done, WorkerRan, RunnerRan, StillRound}
use Rattle.next_laws.proofs.Ticks.{next_tick_is_next}
use Rattle.next_laws.proofs.Rounds.{still_round_is_idle}
use Rattle.next_laws.proofs.WorkedConflict.{w, m, D, g, main, running}

running_lawful : IsLawful D running
running_lawful = record {
  start = refl;
  each = (
    record { absent = refl; manifest = m; given = inl refl; name = refl; no_facts = refl; content = refl },
    (
      (
        refl,
        record {
          flow = flow m [];
          stands = refl;
          number = refl;
          fact = fact.Started;
          adds = record { beginnings = []; parts = refl; closes = closed refl; fits = omega arith; is_new = refl };
          justified = tt;
        },
      ),
      (
        record {
          absent = refl;
          wanted = sometime_now (PodWanted w w main 0) g record {
            flow = flow m (fact.Started ∷ []);
            stands = refl;
            node = record { path = main; name = w; kind = kind.Pod; phase = phase.Running; note = note.None; outputs = no_outputs; depth = 1 };
            place = inl refl;
            path = refl;
            named = refl;
            asks = inl refl;
            now = refl;
          };
          content = refl;
        },
        tt,
      ),
    ),
  );
}

-- ---- the worker's job: two reads

abbrev at_two : Seen Flow
at_two = seen 2 (flow m (fact.Started ∷ [])) 0

abbrev pod_view : Seen PodObject
pod_view = seen 1 (begun_pod main 0) 0

abbrev v1 : Views
v1 = record nothing { flow = Some at_two }

abbrev v2 : Views
v2 = record v1 { pods = record { name = w; found = Some pod_view } ∷ [] }

worker_ran : WorkerRan D running w
worker_ran = record {
  views = v2;
  ran =
      reads (Workflow w) (found (seen 2 (OfWorkflow (flow m (fact.Started ∷ []))) 0)) v1 refl record { stood = refl; clock = refl } refl
      (reads (Pod w w) (found (seen 1 (OfPod (begun_pod main 0)) 0)) v2 refl record { stood = refl; clock = refl } refl stays);
  end = as_done refl;
}

-- ---- the runner's job: the pod is not due

runner_ran : RunnerRan D running w w
runner_ran = record { view = pod_view; shown = record { stood = refl; clock = refl }; rests = tt }

-- ---- no other workflow and no other pod is there

abbrev step : Bool → Option (Version Content) → Event Content → Option (Version Content)
step b v e = cond b (next_version apply v e) v

abbrev flow_stood : Bool → Option (Version Content)
flow_stood b = step b (step b None (event (Submit w None []) (Some (OfWorkflow (flow m []))))) (event (Write w 2 (fact.Started ∷ [])) None)

one_name : (v : Text) (f : Flow) → HasFlow running v f → w ≡ v
one_name v f s = by (bytes_eq v w) refl s
  where
    by : (b : Bool) → bytes_eq v w ≡ b → flow_in (map_content (flow_stood b)) ≡ Some f → w ≡ v
    by true e s = sym (bytes_eq-true v w e)
    by false e s = none_some f s

abbrev pod_stood : Bool → Option (Version Content)
pod_stood b = step b None (event (Create w w main 0) (Some (OfPod (begun_pod main 0))))

one_pod : (v n : Text) (pod : PodObject) → pod_of running v n ≡ Some pod → RunnerRan D running v n
one_pod v n pod s = by (bytes_eq v w && bytes_eq n w) refl s
  where
    of_w : (bytes_eq v w && bytes_eq n w) ≡ true → RunnerRan D running v n
    of_w e =
        let same_v : w ≡ v = sym (bytes_eq-true v w (first_of (bytes_eq v w) (bytes_eq n w) e)) in
        let same_n : w ≡ n = sym (bytes_eq-true n w (second_of (bytes_eq v w) (bytes_eq n w) e)) in
        subst (λ (x : Text). RunnerRan D running x n) same_v (subst (λ (x : Text). RunnerRan D running w x) same_n runner_ran)

    by : (b : Bool) → (bytes_eq v w && bytes_eq n w) ≡ b → pod_in (map_content (pod_stood b)) ≡ Some pod → RunnerRan D running v n
    by true e s = of_w e
    by false e s = none_some pod s

still_round : StillRound D running
still_round = record {
  workers = λ v f s. subst (WorkerRan D running) (one_name v f s) worker_ran;
  runners = λ v n pod s e. one_pod v n pod s;
}

is_idle : IsIdle D running
is_idle = still_round_is_idle D running running_lawful still_round

-- and the next tick is the end of the pod
is_next : IsNext D running (Some 5)
is_next = next_tick_is_next D running running_lawful
