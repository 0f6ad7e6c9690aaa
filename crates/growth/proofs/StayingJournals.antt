-- A workflow that is over keeps its tree in longer lawful journals.
use Rattle.std.proofs.Common.{◌≡◌, refl, subst, ◌⊎◌}
use Rattle.std.proofs.Math.Logic.{inl, inr}
use Rattle.std.specs.Prelude.{List, ◌∷◌, ◌++◌, Bool, true, false}
use Rattle.tree_types.specs.declared.path.Path.{Path}
use Rattle.tree_types.specs.declared.fact.Fact.{Fact}
use Rattle.tree_types.specs.declared.fact.Fact.TheVariants.{Started, Begun}
use Rattle.tree_types.specs.Journals.{knows}
use Rattle.wf_manifest.specs.declared.manifest.Manifest.{Manifest}
use Rattle.meaning.specs.declared.lines.Line.{Line}
use Rattle.meaning.specs.Answers.{path, Sels, Facts, Answers, answers}
use Rattle.meaning.specs.Trees.{lines, beginnings_in, beginnings, begin_at}
use Rattle.growth.specs.Growth.{Among, SaysMore, New, IsFair, IsOver}
use Rattle.growth.specs.Writes.{Asked, OneByOne, stay, asks, begins_first, StaysInJournals}
use Rattle.growth.proofs.Keeping.{not_both}
use Rattle.growth.proofs.GrowingTrees.{stays}
use Rattle.growth.proofs.Journals.{last_known, one_says_more, asked_says_more, asked_begins_none}
use Rattle.growth.proofs.GrowingJournals.{with_fact, begun_is_first, lawful_steps}
use Rattle.growth.proofs.Ticks.{over_started}

says_then : (A B C : Answers) → SaysMore A B → SaysMore B C → SaysMore A C
says_then A B C f g = record {
  started = λ e. g.started (f.started e);
  outcome = λ p o e. g.outcome p o (f.outcome p o e);
  granted = λ p e. g.granted p (f.granted p e);
  memo = λ p a e. g.memo p a (f.memo p a e);
  due = λ p e. g.due p (f.due p e);
  resumed = λ p e. g.resumed p (f.resumed p e);
  begun = λ p e. g.begun p (f.begun p e);
}

module _ (m : Manifest) (I : Facts) (over : IsOver m (answers I)) where
  -- a longer list says more, and only what might begin has begun
  record Reached (J : Facts) : Type 0 where
    more : SaysMore (answers I) (answers J)
    fair : IsFair m (answers I) (answers J)

  itself : Reached I
  itself = record {
    more = record { started = λ e. e; outcome = λ p o e. e; granted = λ p e. e; memo = λ p a e. e; due = λ p e. e; resumed = λ p e. e; begun = λ p e. e };
    fair = λ p n. not_both (knows I (Begun (path p))) n.0 n.1;
  }

  same_lines : (J : Facts) → Reached J → lines m (answers J) ≡ lines m (answers I)
  same_lines J h = stays m (answers I) (answers J) h.more h.fair over

  -- what newly began had begun, or begins with the last fact
  begun_by : (J : Facts) (f : Fact) (p : Sels) → Reached J → New (answers I) (answers (with_fact J f)) p → (New (answers J) (answers (with_fact J f)) p → Among (path p) (beginnings_in (lines m (answers I)))) → Among (path p) (beginnings_in (lines m (answers I)))
  begun_by J f p h n last = go (knows J (Begun (path p))) refl
    where
      go : (b : Bool) → knows J (Begun (path p)) ≡ b → Among (path p) (beginnings_in (lines m (answers I)))
      go true e = h.fair p (e, n.1)
      go false e = last (n.0, e)

  asked_reached : (J : Facts) (f : Fact) → Asked m J f → Reached J → Reached (with_fact J f)
  asked_reached J f a h = record {
    more = says_then (answers I) (answers J) (answers (with_fact J f)) h.more (asked_says_more m J f a);
    fair = λ p n. begun_by J f p h n (λ k. absurd (asked_begins_none m J f a (path p) (last_known (Begun (path p)) J f k.0 k.1)));
  }

  begun_reached : (J : Facts) (q : Path) (qs : List Path) → beginnings m J ≡ q ∷ qs → Reached J → Reached (begin_at J q)
  begun_reached J q qs e h = record {
    more = says_then (answers I) (answers J) (answers (begin_at J q)) h.more (one_says_more J (Begun q) (λ p x c. refl));
    fair = λ p n. begun_by J (Begun q) p h n (λ k. subst (λ (ls : List Line). Among (path p) (beginnings_in ls)) (same_lines J h) (begun_is_first m J q qs e p k));
  }

  reached : (J K : Facts) → OneByOne m J K → Reached J → Reached K
  reached J K stay h = h
  reached J K (asks f a s) h = reached (with_fact J f) K s (asked_reached J f a h)
  reached J K (begins_first p ps e s) h = reached (begin_at J p) K s (begun_reached J p ps e h)

  then_stays : (K : Facts) → (knows I Started ≡ false) ⊎ OneByOne m I (I ++ K) → lines m (answers (I ++ K)) ≡ lines m (answers I)
  then_stays K (inl e) = not_both (knows I Started) (over_started m (answers I) (knows I Started) over) e
  then_stays K (inr s) = same_lines (I ++ K) (reached I (I ++ K) s itself)

pub stays_in_journals : StaysInJournals
stays_in_journals m I K j over = then_stays m I over K (lawful_steps m I K j)
