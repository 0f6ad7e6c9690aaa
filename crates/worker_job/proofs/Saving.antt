-- What is left to be saved: no more where there are more saves, and what gives something to be saved is left.
use Rattle.std.proofs.Common.{◌≡◌, Bool, true, false, cond, not, ◌&&◌, ◌||◌, List, [], ◌∷◌, ◌++◌, refl, sym, ap, ◌∙◌, subst, Option, Some, None}
use Rattle.std.specs.Prelude.{ℕ, is_some, option_map}
use Rattle.std.specs.List.{list_any}
use Rattle.tree_types.specs.declared.path.Path.{Path}
use Rattle.tree_types.specs.declared.want.Want.{Want}
use Rattle.tree_types.specs.declared.want.Want.TheVariants as want
use Rattle.meaning.specs.Trees.{wants}
use Rattle.tree_state.specs.declared.kinds.WantKind.TheVariants as kind
use Rattle.ahead.specs.Left.{AheadOf, FindsBy}
use Rattle.ahead.proofs.Laws.{finds_among}
use Rattle.saves.specs.declared.Saved.{Saved}
use Rattle.saves.specs.Saves.{has_saved, is_by}
use Rattle.law.specs.Documents.{Text}
use Rattle.law.specs.Contents.{Flow, Content}
use Rattle.object_store.specs.declared.snapshot.Snapshot.{Snapshot}
use Rattle.wf_object.specs.Kept.{caches_in}
use Rattle.law.specs.Due.{save}
use Rattle.law.specs.Justified.{wants_of, key}
use Rattle.tree_incr.specs.Workflows.{Workflow}
use Rattle.next_step.specs.Views.{Seen}
use Rattle.next_step.specs.Replies.{seen}
use Rattle.worker_job.specs.declared.reading.Reading.{Reading}
use Rattle.worker_job.specs.Readings as reads
use Rattle.worker_job.specs.Jobs.{HasMoreSaves}
use Rattle.worker_job.specs.Inside.{kept_saves, saves_seen}
use Rattle.worker_job.specs.Inside.Saving.{is_left, SavingFits}

-- ---- more saves

any_by : (f : Saved → Bool) (ss more : List Saved) (b : Bool) → not (b || list_any f (ss ++ more)) ≡ true → (not (list_any f (ss ++ more)) ≡ true → not (list_any f ss) ≡ true) → not (b || list_any f ss) ≡ true
any_by f ss more true e rest = e
any_by f ss more false e rest = rest e

none_of : (f : Saved → Bool) (ss more : List Saved) → not (list_any f (ss ++ more)) ≡ true → not (list_any f ss) ≡ true
none_of f [] more e = refl
none_of f (s ∷ ss) more e = any_by f ss more (f s) e (none_of f ss more)

left_in : (w : Text) (ss more : List Saved) (a : Want) → is_left w (ss ++ more) a ≡ true → is_left w ss a ≡ true
left_in w ss more (want.Save p cache entry o) e = none_of (is_by (key w p)) ss more e
left_in w ss more (want.Pod p) e = e
left_in w ss more (want.Lock p l) e = e
left_in w ss more (want.LookUp p cache entry age) e = e
left_in w ss more (want.Arming p) e = e
left_in w ss more (want.Timer p tick) e = e

-- what is left now was left before
pub left_before : (w : Text) (ss ts : List Saved) → HasMoreSaves ss ts → (a : Want) → is_left w ts a ≡ true → is_left w ss a ≡ true
left_before w ss ts more a e = left_in w ss more.more a (subst (λ (ts : List Saved). is_left w ts a ≡ true) more.saves e)

-- ---- the saves that were read

-- those that a view has
pub kept_fits : (P : List Saved → Type 0) (v : Option (Seen (List Saved))) (ss : List Saved) (tick : ℕ) → Some (ss, tick) ≡ kept_saves v → ((c : Seen (List Saved)) → v ≡ Some c → P c.content) → P ss
kept_fits P None ss tick found each = absurd (cc)
kept_fits P (Some c) ss tick found each =
    let pair : (ss, tick) ≡ (c.content, c.tick) = cc in
    subst P (sym (ap (λ (k : List Saved × ℕ). k.0) pair)) (each c refl)

-- by those in a snapshot
pub in_saves :
    (w : Text) (flow : Option (Seen Flow)) (t : Snapshot Content) (ss : List Saved) (ahead : Option (List Want)) →
    Some ss ≡ caches_in (Some t.content) →
    ((s : Seen Flow) → flow ≡ Some s → AheadOf kind.Save (is_left w ss) ahead (wants_of s.content)) →
    SavingFits ahead w flow (saves_seen t)
in_saves w flow t ss ahead kept left = λ s viewed. record {
  fits = λ c shown.
      let read : Some (seen t.version ss t.tick) ≡ Some c = ap (option_map (λ (x : List Saved). seen t.version x t.tick)) kept ∙ shown in
      let here : seen t.version ss t.tick ≡ c = cc in
      subst (λ (x : Seen (List Saved)). AheadOf kind.Save (is_left w x.content) ahead (wants_of s.content)) here (left s viewed);
}

-- ---- what gives something is left

module _ (r : Reading) (ss : List Saved) where
  saving_by : (p : Path) (cache entry : Text) (o : _) (b : Bool) → is_some (cond b None (Some (save cache entry (key (reads.workflow r) p) o))) ≡ not b
  saving_by p cache entry o true = refl
  saving_by p cache entry o false = refl

  saving_left : (a : Want) → is_some (reads.saving r ss a) ≡ true → is_left (reads.workflow r) ss a ≡ true
  saving_left (want.Save p cache entry o) e = sym (saving_by p cache entry o (has_saved (key (reads.workflow r) p) ss)) ∙ e
  saving_left (want.Pod p) e = e
  saving_left (want.Lock p l) e = e
  saving_left (want.LookUp p cache entry age) e = e
  saving_left (want.Arming p) e = e
  saving_left (want.Timer p tick) e = e

  -- so it is found among what is left
  pub saving_among :
      (state : Workflow) → state ≡ record { manifest = r.object.now.manifest; facts = r.object.now.journal } →
      AheadOf kind.Save (is_left (reads.workflow r) ss) r.to_save.now (wants_of r.object.now) →
      FindsBy kind.Save (λ a. is_some (reads.saving r ss a)) r.to_save.now (wants state.manifest state.facts)
  saving_among state is left =
      subst (λ (x : Workflow). FindsBy kind.Save (λ a. is_some (reads.saving r ss a)) r.to_save.now (wants x.manifest x.facts)) (sym is)
      (finds_among kind.Save (is_left (reads.workflow r) ss) (λ a. is_some (reads.saving r ss a)) r.to_save.now (wants_of r.object.now) saving_left left)
