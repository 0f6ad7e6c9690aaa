-- What reading a condition tells, and one part more that is looked at.
use Rattle.std.proofs.Common.{◌≡◌, ℕ, ◌+◌, Bool, true, false, List, drop, Option, Some, None, Result, Err, refl, sym, ap, ◌∙◌, subst}
use Rattle.std.specs.Prelude.{◌||◌, slice_get}
use Rattle.tree_types.specs.declared.node.Note.TheVariants.{BadWhen}
use Rattle.tag_text.specs.declared.part.Part.{Part}
use Rattle.connectives.specs.Grammar.{IsBadAt}
use Rattle.when_expr.specs.Expression.{Condition}
use Rattle.when_expr.specs.Grammar.{when_language, IsWhen}
use Rattle.when_expr.specs.Meaning.{when_of, WhenSays}
use Rattle.scopes.specs.Substitution.{has_item_tag, is_item_tag}
use Rattle.scopes.proofs.ValueIn.{drop_place}
use Rattle.meaning.specs.Calls.{truth_read, truth_of_text}
use Rattle.call_texts.specs.declared.halt.Halt.{Halt}
use Rattle.call_texts.specs.Told.{Says}

pub is_read : (text : List ℕ) (c : Condition) (r : Result Bool Halt) → WhenSays → IsWhen text c → Says r (truth_read (Some c)) → Says r (truth_of_text text)
is_read text c r law says told = subst (λ (o : Option Condition). Says r (truth_read o)) (sym ((law text c).1 says)) told

unread : (text : List ℕ) (place : ℕ) → WhenSays → IsBadAt when_language text place → (o : Option Condition) → when_of text ≡ o → truth_read o ≡ Err BadWhen
unread text place law bad None is = refl
unread text place law bad (Some c) is = absurd (bad.refused c ((law text c).0 is))

pub is_bad : (text : List ℕ) (place : ℕ) → WhenSays → IsBadAt when_language text place → truth_of_text text ≡ Err BadWhen
is_bad text place law bad = unread text place law bad (when_of text) refl

-- ---- tags of items

pub tag_here : (text : List Part) (i : ℕ) (part : Part) (total : Bool) → slice_get text i ≡ Some part → is_item_tag part ≡ true → has_item_tag (drop i text) ≡ total → true ≡ total
tag_here text i part total at here so_far =
    sym (ap (λ (ps : List Part). has_item_tag ps) (drop_place text i part at) ∙ ap (λ b. b || has_item_tag (drop (i + 1) text)) here) ∙ so_far

pub tag_later : (text : List Part) (i : ℕ) (part : Part) (total : Bool) → slice_get text i ≡ Some part → is_item_tag part ≡ false → has_item_tag (drop i text) ≡ total → has_item_tag (drop (i + 1) text) ≡ total
tag_later text i part total at here so_far =
    sym (ap (λ (ps : List Part). has_item_tag ps) (drop_place text i part at) ∙ ap (λ b. b || has_item_tag (drop (i + 1) text)) here) ∙ so_far
