use Rattle.std.proofs.Common.{◌≡◌, map, true, refl, ap, sym, subst, ◌∙◌, inl, inr}
use Rattle.clap.specs.Words.{App, Kinds, HasKind, app_of, fault_of, is_simple, is_simple_and_free, matches_of}
use Rattle.command_words.specs.Command.{argo}
use Rattle.command_words.proofs.words.matches_in.Goals as goal

is_plain : is_simple argo ≡ true
is_plain = refl

is_free : is_simple_and_free argo ≡ true
is_free = refl

pub returns-in-Ok-clause-ok : goal.returns-in-Ok-clause-ok
returns-in-Ok-clause-ok c =
    let is : app_of c.in_ok-command.command ≡ argo = c.in_ok-command.ensures in
    let words = map (λ word. word.now) c.args.words.now in
    record {
      sound = ap (λ (a : App). fault_of a words) (sym is) ∙ c.in-Ok.ensures.kinds (ap is_simple_and_free is ∙ is_free);
      rows = (c.in-Ok.ensures.matches (ap is_simple is ∙ is_plain)).0 ∙ ap (λ (a : App). matches_of a words) is;
    }

pub returns-in-Err-clause-usage : goal.returns-in-Err-clause-usage
returns-in-Err-clause-usage c = λ usage none.
    let is : app_of c.in_ok-command.command ≡ argo = c.in_ok-command.ensures in
    let words = map (λ word. word.now) c.args.words.now in
    let no_kinds = ap (λ (a : App). fault_of a words) is ∙ none in
    let kinds = c.in-Err.ensures.kinds (ap is_simple_and_free is ∙ is_free) in
    elim (subst (λ (ks : Kinds). HasKind ks c.in-Err.error) no_kinds kinds) [
      | inl memory ↦ c.refused_by.ensures (cc) memory
      | inr among ↦ among
    ]
