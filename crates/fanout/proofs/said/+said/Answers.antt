use Rattle.std.proofs.Common.{◌≡◌, Ok, Err, [], ◌∷◌, ◌++◌, string_bytes, sym, ap, ◌∙◌, subst, append_assoc, Vec, Global}
use Rattle.serde_json.specs.declared.value.Value.{Value}
use Rattle.std.specs.List.Sorted.{IsStrictlySortedBy}
use Rattle.std.specs.Map.{keys_of}
use Rattle.std.specs.String.{string_cmp}
use Rattle.serde_json.specs.Data.{put}
use Rattle.serde_json.specs.View.{view, items_view, members_view}
use Rattle.serde_json.proofs.Views.{Entry, members_view-insert_entry}
use Rattle.fanout.specs.Faults.{Tells}
use Rattle.fanout.specs.Items.{said_in_items}
use Rattle.fanout.proofs.SaidIn.{values_fault, values_next, members_fault, members_next}
use Rattle.fanout.proofs.said.+said.Goals as goal

pub said_values-returns-in-Err : goal.said_values-returns-in-Err
said_values-returns-in-Err t c =
    let l = c.loop-value in
    let told = values_fault c.args.scope.now c.deref-value-items.result.now l.value-index c.value-item.result (items_view l.said.items) c.in-Err.fault c.loop-value-test.true c.value-item.is l.invariant c.in-Err.ensures in
    subst
    (λ xs. Tells (λ (w : Vec Value Global). items_view w.items) (Err c.in-Err.fault) (said_in_items c.args.scope.now (items_view xs)))
    c.deref-value-items.ensures.value
    told

pub said_values-loop-value-preserved : goal.said_values-loop-value-preserved
said_values-loop-value-preserved t c =
    let l = c.loop-value in
    values_next c.args.scope.now c.deref-value-items.result.now l.said.items l.value-index c.value-item.result c.in-Ok.value c.loop-value-test.true c.value-item.is l.invariant c.in-Ok.ensures
    ∙ ap (λ xs. Ok (items_view xs)) (sym c.in_ok-push-in-Ok.ensures.items)

pub said_members-returns-in-Err : goal.said_members-returns-in-Err
said_members-returns-in-Err t c =
    let l = c.loop-key in
    let done = l.invariant.0 in
    let e : Entry = (c.in-Some.key.now, c.in-Some.member.now) in
    let left = c.next.new.self in
    let all : c.args.members.now.entries ≡ done ++ e ∷ left = l.invariant.1 ∙ ap (λ es. done ++ es) c.in-Some.ensures.steps in
    rw all (members_fault c.args.scope.now done (members_view l.said.entries) e left c.in-Err.fault l.invariant.2 c.in-Err.ensures)

pub said_members-loop-key-preserved : goal.said_members-loop-key-preserved
said_members-loop-key-preserved t c =
    let l = c.loop-key in
    let done = l.invariant.0 in
    let e : Entry = (c.in-Some.key.now, c.in-Some.member.now) in
    let left = c.next.new.self in
    let all : c.args.members.now.entries ≡ done ++ e ∷ left = l.invariant.1 ∙ ap (λ es. done ++ es) c.in-Some.ensures.steps in
    let sorted = subst (λ es. IsStrictlySortedBy string_cmp (keys_of es)) all c.iter-key-items.ensures.ordered in
    let named : string_bytes c.in_ok-name.name ≡ string_bytes e.0 = c.in_ok-name.ensures.cases in
    let value = c.in-Ok.value in
    let now : members_view c.insert.new.self.entries ≡ put (string_bytes e.0) (view value) (members_view l.said.entries) =
    ap members_view c.in_ok-insert-in-Ok.ensures.entries
    ∙ members_view-insert_entry l.said.entries c.in_ok-name.name value
    ∙ ap (λ k. put k (view value) (members_view l.said.entries)) named in (
      done ++ e ∷ [],
      all ∙ sym (append_assoc done (e ∷ []) left),
      members_next c.args.scope.now done (members_view l.said.entries) (members_view c.insert.new.self.entries) e left (view value) sorted l.invariant.2 c.in-Ok.ensures now,
    )
