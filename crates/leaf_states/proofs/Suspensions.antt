-- The phase of a suspended node tells whether it is over.
use Rattle.std.proofs.Common.{◌≡◌, ℕ, List, [], Bool, true, false, ◌||◌, Option, None, refl, sym, ◌∙◌}
use Rattle.std.specs.Prelude.{Result, IfOk}
use Rattle.base_types.specs.declared.memory.Memory.{Memory}
use Rattle.tree_types.specs.declared.phase.Phase.{Phase}
use Rattle.tree_types.specs.declared.phase.Phase.TheVariants.{Running, Succeeded}
use Rattle.wf_manifest.specs.declared.templates.OutputDecl.{OutputDecl}
use Rattle.meaning.specs.declared.lines.Place.{Place}
use Rattle.meaning.specs.Lines.{Made}
use Rattle.meaning.specs.Suspends.{suspend_by}
use Rattle.suspend_resume.specs.Suspension.{IsPhase}

abbrev phase_by : Place → Bool → Phase
phase_by place over = (suspend_by place [] None None over).own.node.phase

over_by : (place : Place) (over : Bool) → phase_by place over ≡ Succeeded → over ≡ true
over_by place true e = refl
over_by place false e = absurd (cc)

running_by : (place : Place) (over : Bool) → ¬ phase_by place over ≡ Succeeded → over ≡ false
running_by place true e = absurd (e refl)
running_by place false e = refl

module _ (place : Place) (due resumed : Bool) (phase : Phase) (is : IsPhase due resumed phase) where
  pub is_over : phase ≡ Succeeded → due || resumed ≡ true
  is_over e = over_by place (due || resumed) (is place [] None None refl ∙ e)

  pub runs : (¬ phase ≡ Succeeded) → due || resumed ≡ false
  runs e = running_by place (due || resumed) (λ s. e (sym (is place [] None None refl) ∙ s))

-- what is still suspended declares what it likes
pub as_running :
    (place : Place) (declared : List OutputDecl) (seconds armed : Option ℕ) (over : Bool) (result : Result Made Memory) → over ≡ false →
    IfOk result (λ state. state ≡ suspend_by place [] seconds armed false) →
    IfOk result (λ state. state ≡ suspend_by place declared seconds armed over)
as_running place declared seconds armed true result e told = absurd (cc)
as_running place declared seconds armed false result e told = told
