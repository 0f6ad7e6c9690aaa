-- One turn of the loop over commands.
use Rattle.std.proofs.Common.{◌≡◌, ℕ, suc, ◌<◌, List, [], ◌∷◌, ◌++◌, length, get_or, drop, ap, sym, append_assoc, drop-cons, ◌∙◌}
use Rattle.item_reader.specs.declared.commands.Command.{Command}
use Rattle.bundle_rules.specs.declared.asked.Asked.{Asked}
use Rattle.bundle_rules.specs.Names.{made_by, made, command_asked, commands_asked}

module _ (cs : List Command) (j : ℕ) (c : Command) (lt : j < length cs) (is : c ≡ get_or cs j c) where
  split : drop j cs ≡ c ∷ drop (suc j) cs
  split = drop-cons cs j c lt ∙ ap (λ (x : Command). x ∷ drop (suc j) cs) (sym is)

  pub named_more :
      (names more whole : List (List ℕ)) → more ≡ names ++ made_by c → names ++ made (drop j cs) ≡ whole →
      more ++ made (drop (suc j) cs) ≡ whole
  named_more names more whole e old =
      ap (λ (ns : List (List ℕ)). ns ++ made (drop (suc j) cs)) e ∙ append_assoc names (made_by c) (made (drop (suc j) cs))
      ∙ sym (ap (λ (xs : List Command). names ++ made xs) split) ∙ old

  pub listed_more :
      (all names more : List (List ℕ)) (i : ℕ) (before after whole : List Asked) (a : Asked) →
      a ≡ command_asked all names i j c → after ≡ before ++ a ∷ [] → more ≡ names ++ made_by c →
      before ++ commands_asked all names i j (drop j cs) ≡ whole →
      after ++ commands_asked all more i (suc j) (drop (suc j) cs) ≡ whole
  listed_more all names more i before after whole a asked e n old =
      ap (λ (ps : List Asked). ps ++ commands_asked all more i (suc j) (drop (suc j) cs)) e
      ∙ append_assoc before (a ∷ []) (commands_asked all more i (suc j) (drop (suc j) cs))
      ∙ ap (λ (x : Asked). before ++ x ∷ commands_asked all more i (suc j) (drop (suc j) cs)) asked
      ∙ ap (λ (ns : List (List ℕ)). before ++ command_asked all names i j c ∷ commands_asked all ns i (suc j) (drop (suc j) cs)) n
      ∙ sym (ap (λ (xs : List Command). before ++ commands_asked all names i j xs) split) ∙ old
