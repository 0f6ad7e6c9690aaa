-- What is known of the tasks of a DAG from before a fact was recorded below one of them.
use Rattle.std.specs.Prelude.{◌≡◌, ℕ, List, ◌∷◌, ◌++◌, length, map, Some, slice_get, codes}
use Rattle.tree_types.specs.declared.path.Sel.TheVariants.{Task as task_sel}
use Rattle.wf_manifest.specs.declared.calls.Task.{Task}
use Rattle.wf_manifest.specs.declared.calls.Dag.{Dag}
use Rattle.wf_manifest.specs.declared.templates.OutputDecl.{OutputDecl}
use Rattle.wf_manifest.specs.declared.manifest.Manifest.{Manifest}
use Rattle.scopes.specs.Substitution.{Scope}
use Rattle.meaning.specs.declared.lines.Place.{Place}
use Rattle.meaning.specs.Answers.{Sels, Answers}
use Rattle.meaning.specs.Lines.{Made, row_in}
use Rattle.meaning.specs.Dags.{task_place, standings, dag_made}
use Rattle.meaning.specs.Calls.{calls}
use Rattle.locality.specs.Answered.{SameBut}
use Rattle.dag_plan.specs.declared.plan.DagPlan.{DagPlan}
use Rattle.dag_plan.specs.Plans.{IsPlan}
use Rattle.dag_board.specs.Boards.{made_of, stands_at, seen_by}
use Rattle.dag_stays.specs.declared.were.Were.{Were}
use Rattle.dag_stays.specs.Unmoved.{AreApart}

-- they stood so by these answers
pub record WereSo (m : Manifest) (B : Answers) (g : Scope) (left : ℕ) (place : Place) (scope : Scope) (d : Dag) (plan : DagPlan) (j : ℕ) (w : Were) : Type 0 where
  pub made : w.made.items ≡ map (λ s. made_of s.1) (standings B (calls m B g left) place scope d)
  pub apart : AreApart plan.rows j w.marks
  pub task : w.j ≡ j

-- where the DAG stood over these calls
abbrev pub Knows : Dag → DagPlan → List Made → ℕ → ℕ → Were → Type 0
Knows d plan ms depth j w =
    (m : Manifest) (B : Answers) (g : Scope) (left : ℕ) (place : Place) (scope : Scope) (declared : List OutputDecl) →
    ms ≡ row_in (dag_made B (calls m B g left) place scope declared d).parts → depth ≡ length place.sels →
    WereSo m B g left place scope d plan j w

-- by answers that differ below the task at position j alone, the task at position i exists and makes the same
abbrev pub Stays : Were → ℕ → Made → Type 0
Stays w i old =
    (m : Manifest) (A B : Answers) (g : Scope) (left : ℕ) (place : Place) (scope : Scope) (d : Dag) (plan : DagPlan) (j : ℕ)
    (rest : Sels) (t : Task) → IsPlan d plan → WereSo m B g left place scope d plan j w →
    SameBut A B (place.sels ++ task_sel j ∷ rest) → slice_get d.tasks i ≡ Some t →
    made_of (stands_at A (calls m A g left) place scope d i) ≡ Some old

-- it is the task at position j, and its call made this in the scope that it has by the new answers
abbrev pub Ran : DagPlan → Were → ℕ → Made → Type 0
Ran plan w i old =
    (m : Manifest) (A B : Answers) (g : Scope) (left : ℕ) (place : Place) (scope : Scope) (d : Dag) (j : ℕ) (rest : Sels)
    (t : Task) → IsPlan d plan → WereSo m B g left place scope d plan j w →
    SameBut A B (place.sels ++ task_sel j ∷ rest) → slice_get d.tasks i ≡ Some t →
    (i ≡ j)
    × (old ≡ calls m B g left (codes "tasks.") (task_place place i t) (seen_by A (calls m A g left) place scope d t ++ scope) t.call)
