-- What a workflow's tree is asked for is the first that is given.
use Rattle.std.proofs.Common.{◌≡◌, ℕ, true, ◌&&◌, true≢false, refl, sym, ◌∙◌, ap, Bor, List, Option, Some, None, option_map, option_and_then}
use Rattle.std.specs.Prelude.{is_some, option_copied}
use Rattle.std.specs.List.{find, list_any}
use Rattle.tree_types.specs.declared.path.Path.{Path}
use Rattle.tree_types.specs.declared.entry.Key.TheVariants as of_key
use Rattle.tree_types.specs.declared.node.Node.{Node}
use Rattle.tree_types.specs.declared.want.Want.{Want}
use Rattle.tree_types.specs.declared.want.Want.TheVariants as want
use Rattle.wf_manifest.specs.declared.manifest.Manifest.{Manifest}
use Rattle.saves.specs.declared.Saved.{Saved}
use Rattle.meaning.specs.Answers.{Facts, Sels}
use Rattle.tree_types.specs.Places.{sels_eq}
use Rattle.law.specs.Documents.{Text}
use Rattle.law.specs.Due.{Matter, is_at}
use Rattle.meaning.specs.Trees.{tree, wants}
use Rattle.tree_state.specs.declared.kinds.WantKind.{WantKind}
use Rattle.tree_state.specs.declared.kinds.WantKind.TheVariants as kind
use Rattle.tree_state.specs.Asking.{is_of}
use Rattle.tree_incr.specs.Workflows.{Workflow}
use Rattle.next_step.specs.Views.{Seen, first_given}
use Rattle.next_step.specs.Next as next
use Rattle.next_step.specs.Next.{get, act}
use Rattle.worker_job.specs.declared.reading.Reading.{Reading}
use Rattle.worker_job.specs.Readings as reads
use Rattle.worker_job.specs.Inside.{kept_saves}
use Rattle.worker_job.proofs.Asked.{OnlyOf, EachOf, first_found, any_found, asked_found, asked_first}

module _ {B : Type 0} (m : Manifest) (J : Facts) (state : Workflow) where
  -- the first want of the kind that gives something
  pub wanted :
      (k : WantKind) (give : Want → Option B) (o : Option Want) → OnlyOf k give →
      state ≡ record { manifest = m; facts = J } →
      o ≡ find (λ a. is_of k a && is_some (give a)) (wants state.manifest state.facts) →
      option_and_then give o ≡ first_given give (wants m J)
  wanted k give o off same found =
      ap (option_and_then give)
      (found
      ∙ ap (λ (s : Workflow). find (λ a. is_of k a && is_some (give a)) (wants s.manifest s.facts)) same)
      ∙ sym (asked_found k give (wants m J) off)

  -- the first want of the kind, where each of it gives something
  pub wanted_first :
      (k : WantKind) (give : Want → Option B) (o : Option Want) → EachOf k give →
      state ≡ record { manifest = m; facts = J } → o ≡ find (is_of k) (wants state.manifest state.facts) →
      option_and_then give o ≡ first_given give (wants m J)
  wanted_first k give o each same found =
      ap (option_and_then give)
      (found ∙ ap (λ (s : Workflow). find (is_of k) (wants s.manifest s.facts)) same)
      ∙ sym (asked_first k give (wants m J) each)

  -- the first node that gives something
  pub noded :
      (give : Node → Option B) (o : Option Node) → state ≡ record { manifest = m; facts = J } →
      o ≡ find (λ n. is_some (give n)) (tree state.manifest state.facts) →
      option_and_then give o ≡ first_given give (tree m J)
  noded give o same found =
      ap (option_and_then give)
      (found ∙ ap (λ (s : Workflow). find (λ n. is_some (give n)) (tree s.manifest s.facts)) same)
      ∙ sym (first_found give (tree m J))

module _ (m : Manifest) (J : Facts) (state : Workflow) where
  -- a path's node
  pub node_found :
      (q p : Sels) (o : Option Node) → state ≡ record { manifest = m; facts = J } → q ≡ p →
      o ≡ find (λ n. sels_eq n.path.sels q) (tree state.manifest state.facts) → o ≡ find (is_at p) (tree m J)
  node_found q p o same path found =
      found
      ∙ ap (λ (s : Workflow). find (λ n. sels_eq n.path.sels q) (tree s.manifest s.facts)) same
      ∙ ap (λ (p : Sels). find (is_at p) (tree m J)) path

  -- and its name
  pub named :
      (q p : Sels) (o : Option Node) → state ≡ record { manifest = m; facts = J } → q ≡ p →
      o ≡ find (λ n. sels_eq n.path.sels q) (tree state.manifest state.facts) →
      option_map (λ (n : Node). n.name) o ≡ option_map (λ (n : Node). n.name) (find (is_at p) (tree m J))
  named q p o same path found = ap (option_map (λ (n : Node). n.name)) (node_found q p o same path found)

-- ---- which kinds of wants give something

module _ (r : Reading) where
  pub reading_only : OnlyOf kind.Pod (reads.reading r)
  reading_only (want.Pod p) e = absurd (true≢false e)
  reading_only _ e = refl

  pub settling_only : OnlyOf kind.Pod (reads.settling r)
  settling_only (want.Pod p) e = absurd (true≢false e)
  settling_only _ e = refl

  pub granting_only : OnlyOf kind.Lock (reads.granting r)
  granting_only (want.Lock p l) e = absurd (true≢false e)
  granting_only _ e = refl

  pub filing_only : OnlyOf kind.Lock (reads.filing r)
  filing_only (want.Lock p l) e = absurd (true≢false e)
  filing_only _ e = refl

  pub timing_only : OnlyOf kind.Timer (reads.timing r)
  timing_only (want.Timer p tick) e = absurd (true≢false e)
  timing_only _ e = refl

  pub creating_only : OnlyOf kind.Pod (reads.creating r)
  creating_only (want.Pod p) e = absurd (true≢false e)
  creating_only _ e = refl

  pub saving_only : (ss : List Saved) → OnlyOf kind.Save (reads.saving r ss)
  saving_only ss (want.Save p cache entry o) e = absurd (true≢false e)
  saving_only ss _ e = refl

  pub arming_each : EachOf kind.Arming (reads.arming r)
  arming_each (want.Pod p) = refl
  arming_each (want.Lock p l) = refl
  arming_each (want.LookUp p cache entry age) = refl
  arming_each (want.Arming p) = refl
  arming_each (want.Timer p tick) = refl
  arming_each (want.Save p cache entry o) = refl

  -- a look-up always gives something: the saves are read, or they answer
  looked :
      (p : Path) (cache entry : Text) (age : Option ℕ) (o : Option (Seen (List Saved))) →
      true ≡ is_some (next.by_saves (reads.law r) (reads.workflow r) (reads.views r) (reads.flow r) o
      (next.looked_up (reads.law r) (reads.workflow r) (reads.views r) (reads.flow r) p cache entry age))
  looked p cache entry age None = refl
  looked p cache entry age (Some c) = refl

  pub looking_each : EachOf kind.LookUp (reads.looking r)
  looking_each (want.Pod p) = refl
  looking_each (want.Lock p l) = refl
  looking_each (want.LookUp p cache entry age) = looked p cache entry age (reads.views r).saves
  looking_each (want.Arming p) = refl
  looking_each (want.Timer p tick) = refl
  looking_each (want.Save p cache entry o) = refl

  -- ---- saves

  same_save : (a : Want) → is_of kind.Save a ≡ next.is_save (reads.law r) (reads.workflow r) (reads.views r) (reads.flow r) a
  same_save (want.Pod p) = refl
  same_save (want.Lock p l) = refl
  same_save (want.LookUp p cache entry age) = refl
  same_save (want.Arming p) = refl
  same_save (want.Timer p tick) = refl
  same_save (want.Save p cache entry o) = refl

  found_save : (xs : List Want) → is_some (find (is_of kind.Save) xs) ≡ list_any (next.is_save (reads.law r) (reads.workflow r) (reads.views r) (reads.flow r)) xs
  found_save xs = any_found (is_of kind.Save) (next.is_save (reads.law r) (reads.workflow r) (reads.views r) (reads.flow r)) xs same_save

  some_lent : (o : Option (Bor Want)) → is_some o ≡ is_some (option_copied o)
  some_lent None = refl
  some_lent (Some a) = refl

  pub save_asked :
      (state : Workflow) (o : Option (Bor Want)) →
      state ≡ record { manifest = r.object.now.manifest; facts = r.object.now.journal } →
      option_copied o ≡ find (is_of kind.Save) (wants state.manifest state.facts) → is_some o ≡ reads.asks_save r
  save_asked state o same found =
      some_lent o
      ∙ ap is_some
      (found ∙ ap (λ (s : Workflow). find (is_of kind.Save) (wants s.manifest s.facts)) same)
      ∙ found_save (wants r.object.now.manifest r.object.now.journal)

  -- the saves are read first, where there is no view of them
  pub saves_read :
      (o : Option (Seen (List Saved))) (answer : Seen (List Saved) → Option Matter) → None ≡ kept_saves o →
      Some (get of_key.Caches) ≡ next.by_saves (reads.law r) (reads.workflow r) (reads.views r) (reads.flow r) o answer
  saves_read None answer e = refl
  saves_read (Some c) answer e = absurd (true≢false (sym (ap is_some e)))

  pub saves_there :
      (o : Option (Seen (List Saved))) (ss : List Saved) (tick : ℕ) (answer : List Saved → Option Matter) → Some (ss, tick) ≡ kept_saves o →
      option_map act (answer ss) ≡ next.by_saves (reads.law r) (reads.workflow r) (reads.views r) (reads.flow r) o (λ c. answer c.content)
  saves_there None ss tick answer e = absurd (true≢false (ap is_some e))
  saves_there (Some c) ss tick answer e = ap (λ (k : Option (List Saved × ℕ)). option_and_then (λ (k : List Saved × ℕ). option_map act (answer k.0)) k) e
