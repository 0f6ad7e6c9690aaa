-- What a run counts, entry by entry.
use Rattle.std.specs.Prelude.{ℕ, ◌+◌, List, length, sum_by, count_by, filter_map, Option, Some, None}
use Rattle.tree_types.specs.declared.phase.Phase.{Phase}
use Rattle.tree_types.specs.declared.phase.Phase.TheVariants.{Pending, Running, Succeeded, Failed, Error}
use Rattle.tree_types.specs.declared.entry.Entry.{Entry}
use Rattle.tree_types.specs.declared.entry.Entry.TheVariants.{Submit, Create}
use Rattle.tree_types.specs.Phases.{is_succeeded, is_failed, is_error}
use Rattle.tree_print.specs.declared.counts.Counts.{Counts}
use Rattle.law.specs.Documents.{Text}
use Rattle.law.specs.Contents.{Flow, Story, flow_of}
use Rattle.law.specs.Justified.{tree_of}
use Rattle.run_laws.specs.Submissions.{submitted_name}
use Rattle.run_texts.specs.RunTexts.{phase_of, is_pending, is_running, stands_in, nodes_in, is_create}

-- one workflow more in this phase; those of other phases are in none of the five counts
abbrev pub in_phase : Phase → Counts → Counts
in_phase Pending c = record c { pending = c.pending + 1 }
in_phase Running c = record c { running = c.running + 1 }
in_phase Succeeded c = record c { succeeded = c.succeeded + 1 }
in_phase Failed c = record c { failed = c.failed + 1 }
in_phase Error c = record c { error = c.error + 1 }
in_phase _ c = c

-- a workflow more that stands so
abbrev pub with_standing : Flow → Counts → Counts
with_standing f c =
    let more = in_phase (phase_of f) c in record more { nodes = more.nodes + length (tree_of f) }

abbrev pub one_more : Counts → Counts
one_more c = record c { workflows = c.workflows + 1 }

-- a workflow more that was submitted
abbrev pub with_flow : Option Flow → Counts → Counts
with_flow None c = one_more c
with_flow (Some f) c = with_standing f (one_more c)

-- one entry more
abbrev pub with_entry : Story → Entry → Counts → Counts
with_entry h (Submit w old facts) c = with_flow (flow_of h w) c
with_entry h (Create w node p begin) c = record c { pods = c.pods + 1 }
with_entry h _ c = c

-- of these workflows, and so many pods
abbrev pub counts_by : Story → List Text → ℕ → Counts
counts_by h ws pods = record {
  workflows = length ws;
  pending = count_by (λ w. stands_in is_pending (flow_of h w)) ws;
  running = count_by (λ w. stands_in is_running (flow_of h w)) ws;
  succeeded = count_by (λ w. stands_in is_succeeded (flow_of h w)) ws;
  failed = count_by (λ w. stands_in is_failed (flow_of h w)) ws;
  error = count_by (λ w. stands_in is_error (flow_of h w)) ws;
  nodes = sum_by (λ w. nodes_in (flow_of h w)) ws;
  pods = pods;
}

-- by these entries
abbrev pub counts_over : Story → List Entry → Counts
counts_over h entries = counts_by h (filter_map submitted_name entries) (count_by is_create entries)
