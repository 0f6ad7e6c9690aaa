use Rattle.std.proofs.Common.{List, ℕ, ◌++◌, ap, ◌∙◌, append_assoc}
use Rattle.std.specs.Prelude.{codes}
use Rattle.run_texts.proofs.large.push_line.Goals as goal

pub returns : goal.returns
returns c =
    c.in_ok-push_name.ensures ∙ ap (λ (t : List ℕ). t ++ (c.args.name.now ++ codes "\n")) c.in_ok-extend.ensures.ok
    ∙ append_assoc c.args.text.now (codes "argo: too large: ") (c.args.name.now ++ codes "\n")
