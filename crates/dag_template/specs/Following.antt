-- What follows tasks that are seen so.
use Rattle.std.specs.Prelude.{ℕ, suc, List, [], ◌∷◌, Bool, not, ◌&&◌, ◌||◌, Option, Some, None, if◌then◌else◌}
use Rattle.std.specs.List.{list_any, list_all}
use Rattle.tree_types.specs.declared.phase.Phase.{Phase}
use Rattle.tree_types.specs.declared.phase.Phase.TheVariants.{Succeeded}
use Rattle.tree_types.specs.Phases.{worst}
use Rattle.meaning.specs.Dags.{is_bad}
use Rattle.dag_template.specs.declared.states.DagStep.{DagStep}
use Rattle.dag_template.specs.declared.stands.Stand.{Stand}
use Rattle.dag_template.specs.declared.next.Asked.{Asked}
use Rattle.dag_template.specs.declared.next.Asked.TheVariants.{Existing, Denied, Ready}

abbrev pub answers : Asked → Stand → Bool
answers Existing s = s.existing
answers Denied s = s.denied
answers Ready s = s.ready

-- the positions, the first of which is i, of the tasks of which the answer is yes
abbrev pub places_seen : ℕ → Asked → List Stand → List ℕ
places_seen i asked [] = []
places_seen i asked (s ∷ ss) =
    if answers asked s then i ∷ places_seen (suc i) asked ss else places_seen (suc i) asked ss

abbrev pub has_failed : Stand → Bool
has_failed s = s.existing && (s.over && is_bad s.branch)

abbrev pub is_at_rest : Stand → Bool
is_at_rest s = not s.existing || s.over

-- the worst branch phase of those that exist
abbrev pub worst_target : List Stand → Phase
worst_target [] = Succeeded
worst_target (s ∷ ss) = if s.existing then worst s.branch (worst_target ss) else worst_target ss

abbrev pub is_doomed : Bool → List Stand → Bool
is_doomed fail_fast targets = fail_fast && list_any has_failed targets

abbrev pub is_over : Bool → List Stand → Bool
is_over doomed ss = list_all is_at_rest ss && not (not doomed && list_any (λ s. s.ready) ss)

-- the phase of a DAG that is over
abbrev pub phase_seen : Bool → List Stand → List Stand → Option Phase
phase_seen doomed ss targets = if is_over doomed ss then Some (worst_target targets) else None

abbrev pub step_seen : Bool → List Stand → List Stand → DagStep
step_seen fail_fast ss targets = record {
  exist = places_seen 0 Existing ss;
  omit = places_seen 0 Denied ss;
  begin = if is_doomed fail_fast targets then [] else places_seen 0 Ready ss;
  phase = phase_seen (is_doomed fail_fast targets) ss targets;
}
