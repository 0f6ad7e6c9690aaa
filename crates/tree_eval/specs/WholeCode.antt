-- The code of a workflow's whole, by which contracts tell two of them apart.
use Rattle.std.specs.Prelude.{Option, refl}
use Rattle.std.specs.Coded.{codes, Coded, code_by, coded×, coded_option}
use Rattle.tree_types.specs.declared.phase.Phase.{Phase}
use Rattle.meaning.specs.Lines.{Made}
use Rattle.tree_state.specs.MadeCode.{made_code}
use Rattle.tree_eval.specs.Whole.{Whole}

phase_code : Coded Phase
phase_code = hlevel codes

pub whole_code : Coded Whole
whole_code = code_by (Made × (Option Made × Phase)) (coded× made_code (coded× (coded_option made_code) phase_code)) (λ w. (w.main, (w.exit, w.phase))) (λ p. record { main = p.0; exit = p.1.0; phase = p.1.1 }) (λ _. refl)
