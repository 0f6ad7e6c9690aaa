-- A pod that takes five seconds, before its end.
use Rattle.std.proofs.Common.{◌≡◌, [], ◌∷◌, refl, inl, Some, arith}
use Rattle.tree_types.specs.declared.phase.Phase.TheVariants as phase
use Rattle.tree_types.specs.declared.fact.Fact.TheVariants as fact
use Rattle.tree_types.specs.declared.node.Kind.TheVariants as kind
use Rattle.tree_types.specs.declared.node.Note.TheVariants as note
use Rattle.meaning.specs.Lines.{no_outputs}
use Rattle.meaning.specs.Trees.{closed}
use Rattle.history.proofs.Carrying.{sometime_now}
use Rattle.history.proofs.Extends.{extends_itself}
use Rattle.law.specs.Contents.{flow, begun_pod, pod_of}
use Rattle.law.specs.Justified.{PodWanted, IsLawful}
use Rattle.next_step.specs.Hands.{for_pod}
use Rattle.next_step.specs.Ticks.{pod_end}
use Rattle.next_step.specs.Rounds.{if_unfinished}
use Rattle.next_laws.proofs.WorkedConflict.{w, m, D, g, main, running}
use Rattle.run_laws.specs.Whole.{went, Ran}
use Rattle.rest_laws.specs.Pods.{EndsAt}
use Rattle.rest_laws.proofs.Pods.{pods_wait}

ends_at_five : EndsAt D running w w (Some 5)
ends_at_five = record { pod = begun_pod main 0; stands = refl; planned = refl }

finds_nothing : Ran D running (for_pod w w) went running
finds_nothing = pods_wait.idle D running w w (Some 5) ends_at_five refl

waits_until_five : pod_end (D.planned w w) (pod_of running w w) ≡ 5 ∷ []
waits_until_five = pods_wait.next D running w w (Some 5) ends_at_five refl

running_lawful : IsLawful D running
running_lawful = record {
  start = refl;
  each = (
    record { absent = refl; manifest = m; given = inl refl; name = refl; no_facts = refl; content = refl },
    (
      (
        refl,
        record {
          flow = flow m [];
          stands = refl;
          number = refl;
          fact = fact.Started;
          adds = record { beginnings = []; parts = refl; closes = closed refl; fits = omega arith; is_new = refl };
          justified = tt;
        },
      ),
      (
        record {
          absent = refl;
          wanted = sometime_now (PodWanted w w main 0) g record {
            flow = flow m (fact.Started ∷ []);
            stands = refl;
            node = record { path = main; name = w; kind = kind.Pod; phase = phase.Running; note = note.None; outputs = no_outputs; depth = 1 };
            place = inl refl;
            path = refl;
            named = refl;
            asks = inl refl;
            now = refl;
          };
          content = refl;
        },
        tt,
      ),
    ),
  );
}

has_not_ended : if_unfinished (for_pod w w) (pod_of running w w) ≡ Some (for_pod w w)
has_not_ended = pods_wait.unfinished D running w w (Some 5) running_lawful ends_at_five refl

still_five : EndsAt D running w w (Some 5)
still_five = pods_wait.stays D running running w w (Some 5) (extends_itself running) running_lawful ends_at_five
