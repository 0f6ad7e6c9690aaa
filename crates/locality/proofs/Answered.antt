-- Answers that are the same at a path and below it, or but at one path; and what a last fact changes of them.
use Rattle.std.proofs.Common.{◌≡◌, refl, sym, ◌∙◌, ap, subst}
use Rattle.std.proofs.lemmas.List.{append_assoc, append-nil}
use Rattle.std.proofs.lemmas.List.Elements.{recursion_from_All}
use Rattle.std.specs.List.{AllByRecursion}
use Rattle.std.proofs.lemmas.List.Folds.{list_any-append}
use Rattle.std.proofs.Math.Bool.{or-false}
use Rattle.std.specs.Prelude.{[], ◌∷◌, ◌++◌, Bool, true, false, cond, ◌||◌, Option, Some, None}
use Rattle.tree_types.specs.declared.path.Path.{Path}
use Rattle.tree_types.specs.declared.fact.Fact.{Fact}
use Rattle.tree_types.specs.declared.fact.Fact.TheVariants.{Started, Settled, Carried, Granted, Memo, Armed, Due, Resumed, Begun}
use Rattle.tree_types.specs.Places.{sels_eq}
use Rattle.tree_types.specs.Journals.{is_alike, knows}
use Rattle.meaning.specs.Answers.{path, Sels, Facts, Answers, first_or, first_of, settled_in, carried_in, memo_in, armed_in, outcome_of, outcome_at, answers}
use Rattle.locality.specs.Answered.{SameBelow, SameBut, sels_of, IsOffIf, FactIsOff, OffIsSame, FactsAreLocal, JournalsAreLocal, StartsOnlyStart}
use Rattle.locality.proofs.Paths.{apart_back, begins_above, off_differs}

-- ---- the same answers

-- below a path the same is answered below each child
pub same_further : (A B : Answers) (at more : Sels) → SameBelow A B at → SameBelow A B (at ++ more)
same_further A B at more same = record {
  outcome = λ place e. same.outcome place (begins_above place.sels at more e);
  granted = λ p e. same.granted p (begins_above p at more e);
  memo = λ p e. same.memo p (begins_above p at more e);
  armed = λ p e. same.armed p (begins_above p at more e);
  due = λ p e. same.due p (begins_above p at more e);
  resumed = λ p e. same.resumed p (begins_above p at more e);
  begun = λ p e. same.begun p (begins_above p at more e);
}

pub off_is_same : OffIsSame
off_is_same A B changed at same off = record {
  outcome = λ place e. same.outcome place (off_differs changed at place.sels off e);
  granted = λ p e. same.granted p (off_differs changed at p off e);
  memo = λ p e. same.memo p (off_differs changed at p off e);
  armed = λ p e. same.armed p (off_differs changed at p off e);
  due = λ p e. same.due p (off_differs changed at p off e);
  resumed = λ p e. same.resumed p (off_differs changed at p off e);
  begun = λ p e. same.begun p (off_differs changed at p off e);
}

pub same_itself : (A : Answers) (at : Sels) → SameBelow A A at
same_itself A at = record {
  outcome = λ place e. refl;
  granted = λ p e. refl;
  memo = λ p e. refl;
  armed = λ p e. refl;
  due = λ p e. refl;
  resumed = λ p e. refl;
  begun = λ p e. refl;
}

pub same_back : (A B : Answers) (at : Sels) → SameBelow A B at → SameBelow B A at
same_back A B at same = record {
  outcome = λ place e. sym (same.outcome place e);
  granted = λ p e. sym (same.granted p e);
  memo = λ p e. sym (same.memo p e);
  armed = λ p e. sym (same.armed p e);
  due = λ p e. sym (same.due p e);
  resumed = λ p e. sym (same.resumed p e);
  begun = λ p e. sym (same.begun p e);
}

pub same_then : (A B C : Answers) (at : Sels) → SameBelow A B at → SameBelow B C at → SameBelow A C at
same_then A B C at same then = record {
  outcome = λ place e. same.outcome place e ∙ then.outcome place e;
  granted = λ p e. same.granted p e ∙ then.granted p e;
  memo = λ p e. same.memo p e ∙ then.memo p e;
  armed = λ p e. same.armed p e ∙ then.armed p e;
  due = λ p e. same.due p e ∙ then.due p e;
  resumed = λ p e. same.resumed p e ∙ then.resumed p e;
  begun = λ p e. same.begun p e ∙ then.begun p e;
}

pub but_back : (A B : Answers) (changed : Sels) → SameBut A B changed → SameBut B A changed
but_back A B changed same = record {
  started = sym same.started;
  outcome = λ place e. sym (same.outcome place e);
  granted = λ p e. sym (same.granted p e);
  memo = λ p e. sym (same.memo p e);
  armed = λ p e. sym (same.armed p e);
  due = λ p e. sym (same.due p e);
  resumed = λ p e. sym (same.resumed p e);
  begun = λ p e. sym (same.begun p e);
}

-- ---- a last fact that is not read

unread : {X : Type 0} (read : Fact → Option X) (J : Facts) (f : Fact) → read f ≡ None → first_of read (J ++ f ∷ []) ≡ first_of read J
unread read [] f e = ap (λ o. first_or o None) e
unread read (k ∷ J) f e = ap (first_or (read k)) (unread read J f e)

unknown : (J : Facts) (f k : Fact) → is_alike f k ≡ false → knows (J ++ f ∷ []) k ≡ knows J k
unknown J f k e =
    list_any-append (λ known. is_alike known k) J (f ∷ []) ∙ ap (λ (b : Bool). knows J k || (b || false)) e ∙ or-false (knows J k)

known : (J : Facts) (f k : Fact) → is_alike f k ≡ true → knows (J ++ f ∷ []) k ≡ true
known [] f k e = ap (λ (b : Bool). b || false) e
known (x ∷ J) f k e = ap (λ (b : Bool). is_alike x k || b) (known J f k e) ∙ or_true (is_alike x k)
  where
    or_true : (b : Bool) → (b || true) ≡ true
    or_true true = refl
    or_true false = refl

pub outcome_unread : (J : Facts) (f : Fact) (p : Sels) → settled_in p f ≡ None → carried_in p f ≡ None → outcome_at (J ++ f ∷ []) p ≡ outcome_at J p
outcome_unread J f p e h = λ i. outcome_of (unread (settled_in p) J f e i) (unread (carried_in p) J f h i)

-- ---- a fact of another path

module _ (changed q : Sels) (off : sels_eq q changed ≡ false) where
  elsewhere : (p : Path) → Some p.sels ≡ Some changed → sels_eq p.sels q ≡ false
  elsewhere p e = let same : p.sels ≡ changed = cc e in ap (λ (x : Sels). sels_eq x q) same ∙ apart_back q changed off

  not_read : {X : Type 0} (p : Path) (x : X) → Some p.sels ≡ Some changed → ◌≡◌ {A = Option X} (cond (sels_eq p.sels q) (Some x) None) None
  not_read p x e = ap (λ (b : Bool). cond b (Some x) None) (elsewhere p e)

  settled_elsewhere : (f : Fact) → sels_of f ≡ Some changed → settled_in q f ≡ None
  settled_elsewhere (Settled p o) e = not_read p o e
  settled_elsewhere _ e = refl

  carried_elsewhere : (f : Fact) → sels_of f ≡ Some changed → carried_in q f ≡ None
  carried_elsewhere (Carried p o) e = not_read p o e
  carried_elsewhere _ e = refl

  memo_elsewhere : (f : Fact) → sels_of f ≡ Some changed → memo_in q f ≡ None
  memo_elsewhere (Memo p answer) e = not_read p answer e
  memo_elsewhere _ e = refl

  armed_elsewhere : (f : Fact) → sels_of f ≡ Some changed → armed_in q f ≡ None
  armed_elsewhere (Armed p tick) e = not_read p tick e
  armed_elsewhere _ e = refl

  granted_elsewhere : (f : Fact) → sels_of f ≡ Some changed → is_alike f (Granted (path q)) ≡ false
  granted_elsewhere (Granted p) e = elsewhere p e
  granted_elsewhere _ e = refl

  due_elsewhere : (f : Fact) → sels_of f ≡ Some changed → is_alike f (Due (path q)) ≡ false
  due_elsewhere (Due p) e = elsewhere p e
  due_elsewhere _ e = refl

  resumed_elsewhere : (f : Fact) → sels_of f ≡ Some changed → is_alike f (Resumed (path q)) ≡ false
  resumed_elsewhere (Resumed p) e = elsewhere p e
  resumed_elsewhere _ e = refl

  begun_elsewhere : (f : Fact) → sels_of f ≡ Some changed → is_alike f (Begun (path q)) ≡ false
  begun_elsewhere (Begun p) e = elsewhere p e
  begun_elsewhere _ e = refl

starts_none : (f : Fact) (changed : Sels) → sels_of f ≡ Some changed → is_alike f Started ≡ false
starts_none Started changed e = absurd (cc e)
starts_none _ changed e = refl

pub facts_are_local : FactsAreLocal
facts_are_local J f changed is = record {
  started = unknown J f Started (starts_none f changed is);
  outcome = λ place off. outcome_unread J f place.sels (settled_elsewhere changed place.sels off f is) (carried_elsewhere changed place.sels off f is);
  granted = λ p off. unknown J f (Granted (path p)) (granted_elsewhere changed p off f is);
  memo = λ p off. unread (memo_in p) J f (memo_elsewhere changed p off f is);
  armed = λ p off. unread (armed_in p) J f (armed_elsewhere changed p off f is);
  due = λ p off. unknown J f (Due (path p)) (due_elsewhere changed p off f is);
  resumed = λ p off. unknown J f (Resumed (path p)) (resumed_elsewhere changed p off f is);
  begun = λ p off. unknown J f (Begun (path p)) (begun_elsewhere changed p off f is);
}

-- so nothing changes at a path
pub start_elsewhere : (J : Facts) (at : Sels) → SameBelow (answers (J ++ Started ∷ [])) (answers J) at
start_elsewhere J at = record {
  outcome = λ place e. outcome_unread J Started place.sels refl refl;
  granted = λ p e. unknown J Started (Granted (path p)) refl;
  memo = λ p e. unread (memo_in p) J Started refl;
  armed = λ p e. unread (armed_in p) J Started refl;
  due = λ p e. unknown J Started (Due (path p)) refl;
  resumed = λ p e. unknown J Started (Resumed (path p)) refl;
  begun = λ p e. unknown J Started (Begun (path p)) refl;
}

pub starts_only_start : StartsOnlyStart
starts_only_start J = λ i. record {
  started = known J Started Started refl i;
  outcome = λ place. outcome_unread J Started place.sels refl refl i;
  granted = λ p. unknown J Started (Granted (path p)) refl i;
  memo = λ p. unread (memo_in p) J Started refl i;
  armed = λ p. unread (armed_in p) J Started refl i;
  due = λ p. unknown J Started (Due (path p)) refl i;
  resumed = λ p. unknown J Started (Resumed (path p)) refl i;
  begun = λ p. unknown J Started (Begun (path p)) refl i;
}

-- ---- facts elsewhere

fact_elsewhere : (J : Facts) (f : Fact) (at : Sels) (p : Option Sels) → sels_of f ≡ p → IsOffIf p at → SameBelow (answers (J ++ f ∷ [])) (answers J) at
fact_elsewhere J f at (Some changed) is off =
    off_is_same (answers (J ++ f ∷ [])) (answers J) changed at (facts_are_local J f changed is) off
fact_elsewhere J Started at None is off = start_elsewhere J at
fact_elsewhere J _ at None is off = absurd (cc is)

facts_elsewhere : (J K : Facts) (at : Sels) → AllByRecursion (FactIsOff at) K → SameBelow (answers (J ++ K)) (answers J) at
facts_elsewhere J [] at off =
    subst (λ (x : Facts). SameBelow (answers x) (answers J) at) (sym (append-nil J)) (same_itself (answers J) at)
facts_elsewhere J (f ∷ K) at off =
    let next : Facts = J ++ f ∷ [] in
    subst (λ (x : Facts). SameBelow (answers x) (answers J) at) (append_assoc J (f ∷ []) K)
    (same_then (answers (next ++ K)) (answers next) (answers J) at (facts_elsewhere next K at off.1) (fact_elsewhere J f at (sels_of f) refl off.0))

pub journals_are_local : JournalsAreLocal
journals_are_local J K at off = facts_elsewhere J K at (recursion_from_All (FactIsOff at) K off)
