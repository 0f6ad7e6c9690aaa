-- The standings of a DAG without rounds: a list that solves its equations.
use Rattle.std.specs.Prelude.{◌≡◌}
use Rattle.wf_manifest.specs.declared.calls.Dag.{Dag}
use Rattle.wf_manifest.specs.Valid.{HasRank}
use Rattle.scopes.specs.Substitution.{Scope}
use Rattle.meaning.specs.declared.lines.Place.{Place}
use Rattle.meaning.specs.Answers.{Answers}
use Rattle.meaning.specs.Steps.{Caller}
use Rattle.meaning.specs.Dags.{Standings, look, standings_by, standings}

-- each task of the list, in the order of the DAG, stands as it does given how the others stand by the list
abbrev pub Solves : Answers → Caller → Place → Scope → Dag → Standings → Type 0
Solves A called place scope d ss = ss ≡ standings_by A called place scope d (look ss)

-- where tasks have a rank, as a valid manifest's have, a list that solves the equations of a DAG is its standings
abbrev pub RoundsSettle : Type 0
RoundsSettle =
    (A : Answers) (called : Caller) (place : Place) (scope : Scope) (d : Dag) (ss : Standings) → HasRank d.tasks →
    Solves A called place scope d ss → ss ≡ standings A called place scope d
