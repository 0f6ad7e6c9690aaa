-- What is printed of what is told.
use Rattle.std.proofs.Common.{◌≡◌, ℕ, List, Result, IfOk, ap, subst, ◌∙◌}
use Rattle.tree_types.specs.Texts.{tree_text}
use Rattle.tree_print.specs.declared.counts.Counts.{Counts}
use Rattle.tree_print.specs.Summary.{summary_text}
use Rattle.tree_eval.specs.declared.whole.Evaluated.{Evaluated}
use Rattle.tree_incr.specs.Workflows.{Workflow, told}
use Rattle.law.specs.Contents.{Flow, Story}
use Rattle.run_texts.specs.RunTexts.{flow_text, counts_of, summary_of}

pub tree_told : {E : Type 0} (r : Result (List ℕ) E) (name : List ℕ) (f : Flow) (s : Workflow) (e : Evaluated) → e ≡ told s → s ≡ record { manifest = f.manifest; facts = f.journal } → IfOk r (λ text. text ≡ tree_text name e.phase e.tree.nodes) → IfOk r (λ text. text ≡ flow_text name f)
tree_told r name f s e known same given =
    subst (λ (x : Evaluated). IfOk r (λ text. text ≡ tree_text name x.phase x.tree.nodes)) (known ∙ ap (λ (w : Workflow). told w) same) given

pub summary_told : {E : Type 0} (r : Result (List ℕ) E) (h : Story) (k : Counts) → k ≡ counts_of h → IfOk r (λ text. text ≡ summary_text k) → IfOk r (λ text. text ≡ summary_of h)
summary_told r h k known given = subst (λ (x : Counts). IfOk r (λ text. text ≡ summary_text x)) known given
