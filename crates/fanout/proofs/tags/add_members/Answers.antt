use Rattle.std.proofs.Common.{◌≡◌, true, [], ◌∷◌, ◌++◌, codes, string_bytes, subst, sym}
use Rattle.std.proofs.lemmas.Bool.{and_parts}
use Rattle.serde_json.specs.View.{view, members_view}
use Rattle.serde_json.proofs.Views.{Entry}
use Rattle.std.specs.List.Sorted.{IsStrictlySortedBy}
use Rattle.std.specs.Map.{keys_of}
use Rattle.std.specs.String.{string_cmp}
use Rattle.scopes.specs.Values.{HasValuesOf, HasValuesOfEither}
use Rattle.scopes.proofs.ValueIn.{alike_trans}
use Rattle.fanout.specs.Items.{is_whole, members_are_whole}
use Rattle.fanout.specs.ItemTexts.{item_text, member_tags}
use Rattle.fanout.proofs.ItemTags.{with_members, with_members-alike, with_members-all, between_next, sorted_next, either_alike, on_err}
use Rattle.fanout.proofs.tags.add_members.Goals as goal

pub loop-key-preserved : goal.loop-key-preserved
loop-key-preserved c =
    let l = c.loop-key in
    let e : Entry = (c.in-Some.key.now, c.in-Some.value.now) in
    let left = c.next.new.self in
    let step : l.key-iterator ≡ e ∷ left = c.in-Some.ensures.steps in
    let all = with_members c.args.tags.now (members_view c.args.members.now.entries) in
    let more = (codes "item." ++ string_bytes e.0, item_text (view e.1)) ∷ l.tags in
    let added : HasValuesOf c.add_member.new.tags more =
    subst (λ k. HasValuesOf c.add_member.new.tags ((codes "item." ++ k, item_text (view e.1)) ∷ l.tags)) c.as_str.ensures.value c.in_ok-add_member.ensures.ok in
    let given = subst (λ es. HasValuesOf (with_members l.tags (members_view es)) all) step l.invariant.given in
    let whole = subst (λ es. members_are_whole (members_view es) ≡ true) step l.invariant.whole in
    let given_here = subst (λ es. HasValuesOf (with_members l.tags (members_view es)) all) step l.invariant.given in
    let sorted = subst (λ es. IsStrictlySortedBy string_cmp (keys_of es)) step l.invariant.sorted in
    record {
      sorted = sorted_next e left sorted;
      between = between_next e left l.tags c.args.tags.now all c.add_member.new.tags sorted l.invariant.between given_here added;
      given = alike_trans (with_members c.add_member.new.tags (members_view left)) (with_members more (members_view left)) all (with_members-alike c.add_member.new.tags more (members_view left) added) given;
      whole = (and_parts (is_whole (view e.1)) (members_are_whole (members_view left)) whole).1;
    }

pub returns-clause-ok : goal.returns-clause-ok
returns-clause-ok c =
    let l = c.loop-key in
    let end : l.key-iterator ≡ [] = c.in-None.ensures.steps.0 in
    let old = c.args.tags.now in
    let entries = c.args.members.now.entries in
    let all = with_members old (members_view entries) in
    let given = subst (λ es. HasValuesOf (with_members l.tags (members_view es)) all) end l.invariant.given in
    alike_trans l.tags all (member_tags (members_view entries) ++ old) given (with_members-all entries old c.iter-key-items.ensures.ordered)

pub returns-in_err-add_member-clause-err : goal.returns-in_err-add_member-clause-err
returns-in_err-add_member-clause-err c =
    let l = c.loop-key in
    let old = c.args.tags.now in
    let entries = c.args.members.now.entries in
    let all = with_members old (members_view entries) in
    let new = c.add_member.new.tags in
    let between = subst (λ s. HasValuesOfEither s old all) (sym c.in_err-add_member.ensures.err) l.invariant.between in
    on_err c.from_residual.result (HasValuesOfEither new old (member_tags (members_view entries) ++ old))
    (either_alike new old all (member_tags (members_view entries) ++ old) between (with_members-all entries old c.iter-key-items.ensures.ordered))
