use Rattle.std.proofs.Common.{ap₂, ◌∙◌}
use Rattle.std.proofs.lemmas.Result.{IfOk-weaker}
use Rattle.clap.specs.Words.{with_rule}
use Rattle.command_words.proofs.command.command.Goals as goal

pub returns : goal.returns
returns c =
    let with_mode = c.in_ok-arg.ensures.shape c.mode.ensures.local ∙ ap₂ with_rule c.bare.ensures c.mode.ensures.rule in
    let with_workers = c.in_ok-arg-2.ensures.shape c.valued.ensures.local ∙ ap₂ with_rule with_mode c.valued.ensures.rule in
    let with_history = c.in_ok-arg-3.ensures.shape c.flag.ensures.local ∙ ap₂ with_rule with_workers c.flag.ensures.rule in
    let with_summary = c.in_ok-arg-4.ensures.shape c.flag-2.ensures.local ∙ ap₂ with_rule with_history c.flag-2.ensures.rule in
    let with_seed = c.in_ok-arg-5.ensures.shape c.valued-2.ensures.local ∙ ap₂ with_rule with_summary c.valued-2.ensures.rule in
    let with_size = c.in_ok-arg-6.ensures.shape c.valued-3.ensures.local ∙ ap₂ with_rule with_seed c.valued-3.ensures.rule in
    IfOk-weaker c.arg-7.result _ _
    (λ r adds. adds.shape c.flag-3.ensures.local ∙ ap₂ with_rule with_size c.flag-3.ensures.rule) c.arg-7.ensures
