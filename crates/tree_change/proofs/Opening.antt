-- A template's node that runs is behind its lock and its cache.
use Rattle.std.proofs.Common.{◌≡◌, List, Bool, true, false, Option, Some, None, Ok, Err, refl, sym, ap, ◌∙◌}
use Rattle.std.specs.Prelude.{ℕ}
use Rattle.tree_types.specs.declared.path.LockId.{LockId}
use Rattle.tree_types.specs.Phases.{is_succeeded}
use Rattle.wf_manifest.specs.declared.templates.Memoize.{Memoize}
use Rattle.wf_manifest.specs.declared.templates.Template.{Template}
use Rattle.scopes.specs.Substitution.{Found, Scope, said}
use Rattle.meaning.specs.declared.lines.Place.{Place}
use Rattle.meaning.specs.Answers.{MemoAnswer, Answers}
use Rattle.meaning.specs.Lines.{Made}
use Rattle.meaning.specs.Steps.{Caller}
use Rattle.meaning.specs.Calls.{saving_if, saving, body_made, remembered, keyed, memo_made, locked, template_by, template_made}
use Rattle.tree_change.specs.Entered.{IsRunning}
use Rattle.tree_change.specs.Open.{unlocked, missed, unkept, past_cache, IsOpen}

-- ---- a save changes no phase

saved_phase : (r : Bool) (place : Place) (c : Memoize) (key : List ℕ) (b : Made) → (saving_if r place c key b).own.node.phase ≡ b.own.node.phase
saved_phase true place c key b = refl
saved_phase false place c key b = refl

not_saved : (place : Place) (c : Memoize) (key : List ℕ) (b : Made) → IsRunning b → saving place c key b ≡ b
not_saved place c key b runs = ap (λ (r : Bool). saving_if r place c key b) (ap is_succeeded runs)

module _ (A : Answers) (called : Caller) (place : Place) (scope : Scope) (t : Template) where
  -- ---- the cache

  unkept_by : (c : Memoize) (key : List ℕ) (o : Option MemoAnswer) → IsRunning (remembered A called place scope t c key o) → missed o ≡ true
  unkept_by c key None runs = absurd (cc)
  unkept_by c key (Some None) runs = refl
  unkept_by c key (Some (Some kept)) runs = absurd (cc)

  said_by : (c : Memoize) (f : Found (List ℕ)) → IsRunning (keyed A called place scope t c f) → unkept f (A.memo place.sels) ≡ true
  said_by c (Err fault) runs = absurd (cc)
  said_by c (Ok key) runs = unkept_by c key (A.memo place.sels) runs

  said_runs : (o : Option Memoize) → IsRunning (memo_made A called place scope t o) → past_cache scope o (A.memo place.sels) ≡ true
  said_runs None runs = refl
  said_runs (Some c) runs = said_by c (said scope c.key) runs

  -- what is made past the cache is the body, but for a save
  remembered_phase : (c : Memoize) (key : List ℕ) (o : Option MemoAnswer) → missed o ≡ true → (remembered A called place scope t c key o).own.node.phase ≡ (body_made A called place scope t).own.node.phase
  remembered_phase c key None past = absurd (cc)
  remembered_phase c key (Some None) past = saved_phase (is_succeeded (body_made A called place scope t).own.node.phase) place c key (body_made A called place scope t)
  remembered_phase c key (Some (Some kept)) past = absurd (cc)

  keyed_phase : (c : Memoize) (f : Found (List ℕ)) → unkept f (A.memo place.sels) ≡ true → (keyed A called place scope t c f).own.node.phase ≡ (body_made A called place scope t).own.node.phase
  keyed_phase c (Err fault) past = absurd (cc)
  keyed_phase c (Ok key) past = remembered_phase c key (A.memo place.sels) past

  memo_phase : (o : Option Memoize) → past_cache scope o (A.memo place.sels) ≡ true → (memo_made A called place scope t o).own.node.phase ≡ (body_made A called place scope t).own.node.phase
  memo_phase None past = refl
  memo_phase (Some c) past = keyed_phase c (said scope c.key) past

  remembered_open : (c : Memoize) (key : List ℕ) (o : Option MemoAnswer) → missed o ≡ true → IsRunning (body_made A called place scope t) → remembered A called place scope t c key o ≡ body_made A called place scope t
  remembered_open c key None past runs = absurd (cc)
  remembered_open c key (Some None) past runs = not_saved place c key (body_made A called place scope t) runs
  remembered_open c key (Some (Some kept)) past runs = absurd (cc)

  keyed_open : (c : Memoize) (f : Found (List ℕ)) → unkept f (A.memo place.sels) ≡ true → IsRunning (body_made A called place scope t) → keyed A called place scope t c f ≡ body_made A called place scope t
  keyed_open c (Err fault) past runs = absurd (cc)
  keyed_open c (Ok key) past runs = remembered_open c key (A.memo place.sels) past runs

  memo_open : (o : Option Memoize) → past_cache scope o (A.memo place.sels) ≡ true → IsRunning (body_made A called place scope t) → memo_made A called place scope t o ≡ body_made A called place scope t
  memo_open None past runs = refl
  memo_open (Some c) past runs = keyed_open c (said scope c.key) past runs

  -- ---- the lock

  granted_by : (l : LockId) (b : Bool) → IsRunning (locked A called place scope t l b) → b ≡ true
  granted_by l false runs = absurd (cc)
  granted_by l true runs = refl

  granted_runs : (o : Option LockId) → IsRunning (template_by A called place scope t o) → unlocked (A.granted place.sels) o ≡ true
  granted_runs None runs = refl
  granted_runs (Some l) runs = granted_by l (A.granted place.sels) runs

  past_lock : (o : Option LockId) → unlocked (A.granted place.sels) o ≡ true → template_by A called place scope t o ≡ memo_made A called place scope t t.memoize
  past_lock None granted = refl
  past_lock (Some l) granted = ap (locked A called place scope t l) granted

  -- ---- both

  -- a template's node that runs is past both
  pub is_open : IsRunning (template_made A called place scope t) → IsOpen A place scope t
  is_open runs =
      let granted = granted_runs t.lock runs in
      let memo : IsRunning (memo_made A called place scope t t.memoize) = sym (ap (λ (b : Made). b.own.node.phase) (past_lock t.lock granted)) ∙ runs in
      record { unlocked = granted; unkept = said_runs t.memoize memo }

  pub open_phase : IsOpen A place scope t → (template_made A called place scope t).own.node.phase ≡ (body_made A called place scope t).own.node.phase
  open_phase past = ap (λ (b : Made). b.own.node.phase) (past_lock t.lock past.unlocked) ∙ memo_phase t.memoize past.unkept

  -- and is its body
  pub open_made : IsOpen A place scope t → IsRunning (body_made A called place scope t) → template_made A called place scope t ≡ body_made A called place scope t
  open_made past runs = past_lock t.lock past.unlocked ∙ memo_open t.memoize past.unkept runs

  -- a template without a cache is its body past its lock, in any phase
  pub plain_made : t.memoize ≡ None → unlocked (A.granted place.sels) t.lock ≡ true → template_made A called place scope t ≡ body_made A called place scope t
  plain_made plain granted = past_lock t.lock granted ∙ ap (memo_made A called place scope t) plain

  -- what is made past the cache is saved where it is to be
  remembered_missed : (c : Memoize) (key : List ℕ) (o : Option MemoAnswer) → missed o ≡ true → remembered A called place scope t c key o ≡ saving place c key (body_made A called place scope t)
  remembered_missed c key None past = absurd (cc)
  remembered_missed c key (Some None) past = refl
  remembered_missed c key (Some (Some kept)) past = absurd (cc)

  pub saved_made : (c : Memoize) (key : List ℕ) → IsOpen A place scope t → t.memoize ≡ Some c → said scope c.key ≡ Ok key → template_made A called place scope t ≡ saving place c key (body_made A called place scope t)
  saved_made c key past cached is =
      let answer = A.memo place.sels in
      let none : missed answer ≡ true =
      sym (ap (λ (f : Found (List ℕ)). unkept f answer) is) ∙ sym (ap (λ (o : Option Memoize). past_cache scope o answer) cached) ∙ past.unkept in
      past_lock t.lock past.unlocked
      ∙ ap (memo_made A called place scope t) cached
      ∙ ap (keyed A called place scope t c) is
      ∙ remembered_missed c key answer none

-- the same is open by other answers that are alike at its place
pub open_alike : (A B : Answers) (place : Place) (scope : Scope) (t : Template) → A.granted place.sels ≡ B.granted place.sels → A.memo place.sels ≡ B.memo place.sels → IsOpen B place scope t → IsOpen A place scope t
open_alike A B place scope t granted memo past = record {
  unlocked = ap (λ (b : Bool). unlocked b t.lock) granted ∙ past.unlocked;
  unkept = ap (past_cache scope t.memoize) memo ∙ past.unkept;
}
