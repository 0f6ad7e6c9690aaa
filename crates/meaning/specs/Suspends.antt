-- Suspended nodes (Argo, "Suspending"; field reference, `SuspendTemplate`).
-- Arming, and that outputs are their defaults, are this project's own.
use Rattle.std.specs.Prelude.{ℕ, List, [], ◌∷◌, Bool, true, false, ◌||◌, Option, Some, None, Result, Ok, Err}
use Rattle.tree_types.specs.declared.phase.Phase.TheVariants.{Running, Succeeded, Error}
use Rattle.tree_types.specs.declared.node.Kind.TheVariants as kind
use Rattle.tree_types.specs.declared.node.Note.TheVariants as note
use Rattle.tree_types.specs.declared.want.Want.{Want}
use Rattle.tree_types.specs.declared.want.Want.TheVariants as want
use Rattle.tag_text.specs.declared.part.Part.{Part}
use Rattle.wf_manifest.specs.declared.templates.OutputDecl.{OutputDecl}
use Rattle.time_text.specs.declared.duration.DurationRefused.{DurationRefused}
use Rattle.time_text.specs.Durations.{duration_of}
use Rattle.scopes.specs.Substitution.{Found, ◌>>=◌, Scope, said}
use Rattle.meaning.specs.declared.lines.Place.{Place}
use Rattle.meaning.specs.Answers.{path, Answers}
use Rattle.meaning.specs.Lines.{later, Made, nothing, no_outputs, node, made, alone}
use Rattle.meaning.specs.Outputs.{defaulted, ended_node}

abbrev pub seconds_read : Result ℕ DurationRefused → Found (Option ℕ)
seconds_read (Ok n) = Ok (Some n)
seconds_read (Err e) = Err note.BadDuration

-- the seconds of `duration`, if there is one
abbrev pub seconds_of : Scope → Option (List Part) → Found (Option ℕ)
seconds_of scope None = Ok None
seconds_of scope (Some t) = said scope t >>= λ v. seconds_read (duration_of v)

abbrev pub timer_wants : Place → ℕ → Option ℕ → List Want
timer_wants place tick None = []
timer_wants place tick (Some n) = want.Timer (path place.sels) (later tick n) ∷ []

-- an unarmed node asks to be armed, an armed one with a duration for its timer
abbrev pub suspend_wants : Place → Option ℕ → Option ℕ → List Want
suspend_wants place seconds None = want.Arming (path place.sels) ∷ []
suspend_wants place seconds (Some tick) = timer_wants place tick seconds

-- it is Succeeded once it is due or resumed, and runs before
abbrev pub suspend_by : Place → List OutputDecl → Option ℕ → Option ℕ → Bool → Made
suspend_by place declared seconds armed true =
    made (ended_node place kind.Suspend Succeeded note.None no_outputs (defaulted declared)) [] nothing
suspend_by place declared seconds armed false =
    made (node place kind.Suspend Running note.None no_outputs) (suspend_wants place seconds armed) nothing

abbrev pub suspended : Answers → Place → List OutputDecl → Found (Option ℕ) → Made
suspended A place declared (Err fault) = alone place kind.Suspend Error fault
suspended A place declared (Ok seconds) =
    suspend_by place declared seconds (A.armed place.sels) (A.due place.sels || A.resumed place.sels)

abbrev pub suspend_made : Answers → Place → Scope → List OutputDecl → Option (List Part) → Made
suspend_made A place scope declared duration = suspended A place declared (seconds_of scope duration)
