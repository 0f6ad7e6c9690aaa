-- Why a job that nobody disturbs is undisturbed: each of its steps is the next, answered at the history that the one before
-- left.
use Rattle.std.proofs.Common.{◌≡◌, ℕ, ◌+◌, ◌≤◌, List, [], ◌∷◌, ◌++◌, length, length-append, append-nil, refl, ◌∙◌, ap, ap₂, subst, Option, Some, None, arith}
use Rattle.tree_types.specs.declared.entry.Key.{Key}
use Rattle.history.specs.History.{Version, Extends, clock_of, version_at}
use Rattle.store_client.specs.Calls.{CountsOthers}
use Rattle.law.specs.Documents.{Text, Document}
use Rattle.law.specs.Contents.{Flow, Content, apply, Story}
use Rattle.law.specs.Due.{Matter}
use Rattle.next_step.specs.Views.{Seen, Views}
use Rattle.next_step.specs.Next.{get, act, worker_next}
use Rattle.next_step.specs.Changes.{change_of, AddsFor, ShownAt}
use Rattle.next_step.specs.Replies.{Reply, found, accepted, no_object, exists, conflict, fault, goes_on, after, seen}
use Rattle.next_step.specs.Calls.{Got, Did, Undisturbed, stays, reads, acts}
use Rattle.next_step.specs.Backward.{seen_at, GotBack}
use Rattle.meaning.specs.Answers.{Facts}
use Rattle.lawful.proofs.Facts.{some_same, none_some}

-- ---- the history at which a call is answered

no_rest : {A : Type 0} (xs : List A) → length xs ≡ 0 → xs ≡ []
no_rest [] e = refl
no_rest (x ∷ xs) e = absurd (omega (arith, e))

-- without entries of others it is what was seen
pub same_at : (at seen : Story) (n : ℕ) → Extends at seen → CountsOthers seen at n n → at ≡ seen
same_at at seen n b c =
    let l : length at.events ≡ length seen.events + length b.rest = ap length b.goes_on ∙ length-append seen.events b.rest in
    let none : b.rest ≡ [] = no_rest b.rest (omega (arith, l, c)) in
    ap₂ (λ start events. record { start = start; events = events }) b.same_start (b.goes_on ∙ ap (λ es. seen.events ++ es) none ∙ append-nil seen.events)

-- the entries of others are never fewer
pub others_rise : (at seen : Story) (before now : ℕ) → Extends at seen → CountsOthers seen at before now → before ≤ now
others_rise at seen before now b c =
    let l : length at.events ≡ length seen.events + length b.rest = ap length b.goes_on ∙ length-append seen.events b.rest in
    omega (arith, l, c)

-- what is read without a lag stands
pub got_now : (h : Story) (k : Key) (r : Reply) → GotBack h 0 k r → Got h k r
got_now h k (found x) g = by (version_at apply h k) refl g
  where
    by : (o : Option (Version Content)) → version_at apply h k ≡ o → seen_at (clock_of h) o ≡ Some x → ShownAt h k x.number x.content x.tick
    by None q e = none_some x e
    by (Some v) q e = subst (λ (y : Seen Content). ShownAt h k y.number y.content y.tick) (some_same (seen v.number v.content (clock_of h)) x e) record { stood = q; clock = refl }
got_now h k no_object g = g
got_now h k fault g = tt
got_now h k (accepted x) g = absurd g
got_now h k exists g = absurd g
got_now h k (conflict a b) g = absurd g

-- ---- one call more, at the end of a job

module _ (D : Document) (w : Text) where
  pub then_reads : (h g : Story) (v u : Views) → Undisturbed D w h v g u → (k : Key) (r : Reply) (x : Views) → worker_next D w u ≡ get k → Got g k r → after u (get k) r ≡ goes_on x → Undisturbed D w h v g x
  then_reads h g v u stays k r x e got on = reads k r x e got on stays
  then_reads h g v u (reads j q y n was goes rest) k r x e got on = reads j q y n was goes (then_reads h g y u rest k r x e got on)
  then_reads h g v u (acts {i = i} m s facts q y n viewed adds d goes rest) k r x e got on = acts m s facts q y n viewed adds d goes (then_reads i g y u rest k r x e got on)

  pub then_acts : (h g : Story) (v u : Views) → Undisturbed D w h v g u → (m : Matter) (s : Seen Flow) (facts : Facts) (r : Reply) (x : Views) (l : Story) → worker_next D w u ≡ act m → u.flow ≡ Some s → AddsFor s facts m → Did g (change_of w u s facts m) r l → after u (act m) r ≡ goes_on x → Undisturbed D w h v l x
  then_acts h g v u stays m s facts r x l e viewed adds d on = acts m s facts r x e viewed adds d on stays
  then_acts h g v u (reads j q y n was goes rest) m s facts r x l e viewed adds d on = reads j q y n was goes (then_acts h g y u rest m s facts r x l e viewed adds d on)
  then_acts h g v u (acts {i = i} o t fs q y n seen_then more did goes rest) m s facts r x l e viewed adds d on =
      acts o t fs q y n seen_then more did goes (then_acts i g y u rest m s facts r x l e viewed adds d on)
