-- Marks that outlast a fact by which a workflow asks for no new pod, or for one that was not looked at.
use Rattle.std.proofs.Common.{◌≡◌, ℕ, zero, suc, ◌+◌, inl, inr, Bool, true, false, true≢false, cond, List, [], ◌∷◌, ◌++◌, length, take, length-append, refl, sym, ap, ap₂, ◌∙◌, subst, Option, None, arith}
use Rattle.std.specs.Prelude.{◌==◌, ◌-◌, is_none}
use Rattle.std.specs.List.{find}
use Rattle.std.proofs.Math.Seq.{take-append_seam}
use Rattle.std.proofs.lemmas.Bool.Decides.{nat_tests}
use Rattle.tree_types.specs.declared.path.Path.{Path}
use Rattle.tree_types.specs.declared.want.Want.{Want}
use Rattle.tree_types.specs.declared.want.Want.TheVariants as want
use Rattle.wf_manifest.specs.declared.manifest.Manifest.{Manifest}
use Rattle.meaning.specs.Answers.{Facts}
use Rattle.meaning.specs.Trees.{tree}
use Rattle.growth.specs.Growth.{Among}
use Rattle.tree_state.specs.Finding.{pods_in}
use Rattle.tree_eval.specs.Pods.{NoneAmong}
use Rattle.pod_laws.specs.NewPods.{pods, name_at, NoneNew, OneNew, KeepsFront}
use Rattle.tree_incr.specs.Workflows.{Workflow}
use Rattle.tree_incr.specs.NewPods.{LastAdds}
use Rattle.law.specs.Documents.{Text}
use Rattle.law.specs.Contents.{Flow}
use Rattle.law.specs.Due.{node_name}
use Rattle.law.specs.Justified.{wants_of}
use Rattle.next_step.specs.Views.{Look, found_in}
use Rattle.worker_job.specs.declared.marks.Marks.{Marks}
use Rattle.worker_job.specs.declared.marks.Read.{Read}
use Rattle.worker_job.specs.declared.marks.Read.TheVariants.{First, AllBut}
use Rattle.worker_job.specs.Jobs.{HasMore}
use Rattle.worker_job.specs.Inside.Marks.{pod_name, by_name, looks_so, has_ended, notes_absent, unread, all, IsKnown, IsUnread, IsOnlyUnread, IsReadMark, IsMarked, GoesOnBy, one_fewer, read_left, left}
use Rattle.worker_job.proofs.Passing.{off_at, lacks_by}
use Rattle.worker_job.proofs.Marked.{known_any, known_none}

-- ---- the pods that were asked for keep their names, so that a test of their last looks says what it said

among_take : {A : Type 0} (n : ℕ) (xs : List A) (x : A) → Among x (take n xs) → Among x xs
among_take zero xs x here = absurd here
among_take (suc n) [] x here = absurd here
among_take (suc n) (y ∷ ys) x (inl is) = inl is
among_take (suc n) (y ∷ ys) x (inr there) = inr (among_take n ys x there)

module _ (ls : List Look) (f g : Flow) (names : (p : Path) → Among (want.Pod p) (pods_in (wants_of f)) → node_name g p.sels ≡ node_name f p.sels) where
  same_name : (a : Want) → Among a (pods_in (wants_of f)) → pod_name g a ≡ pod_name f a
  same_name (want.Pod p) here = names p here
  same_name (want.Lock p l) here = refl
  same_name (want.LookUp p cache entry age) here = refl
  same_name (want.Arming p) here = refl
  same_name (want.Timer p tick) here = refl
  same_name (want.Save p cache entry o) here = refl

  module _ (test : Option Look → Bool) where
    off_before : (a : Want) → Among a (pods_in (wants_of f)) → find (looks_so test ls f) (pods_in (wants_of f)) ≡ None → looks_so test ls g a ≡ false
    off_before a here lacks =
        ap (by_name test ls) (same_name a here) ∙ off_at (looks_so test ls f) (pods_in (wants_of f)) a here lacks

    -- none of those from the first passes by its name of now
    front_before : (n : ℕ) → NoneAmong n (looks_so test ls f) (pods_in (wants_of f)) → NoneAmong n (looks_so test ls g) (pods_in (wants_of f))
    front_before n lacks =
        lacks_by (looks_so test ls g) (take n (pods_in (wants_of f))) (λ a here. ap (by_name test ls) (same_name a (among_take n (pods_in (wants_of f)) a here)) ∙ off_at (looks_so test ls f) (take n (pods_in (wants_of f))) a here lacks)

    -- a new one does not pass
    abbrev NewOff : Type 0
    NewOff = (a : Want) → Among a (pods_in (wants_of g)) → (Among a (pods_in (wants_of f)) → ⊥) → looks_so test ls g a ≡ false

    module _ (front : KeepsFront (pods_in (wants_of g)) (pods_in (wants_of f))) (new_off : NewOff) where
      front_now : (n : ℕ) → NoneAmong n (looks_so test ls f) (pods_in (wants_of f)) → NoneAmong (n - 1) (looks_so test ls g) (pods_in (wants_of g))
      front_now zero lacks = refl
      front_now (suc n) lacks =
          let fewer : n ≡ suc n - 1 = omega arith in
          subst (λ k. NoneAmong k (looks_so test ls g) (pods_in (wants_of g))) fewer (front (looks_so test ls g) n (front_before (suc n) lacks) new_off)

      known_by : (n : ℕ) (b : Bool) → (n == all) ≡ b → (find (looks_so test ls f) (pods_in (wants_of f)) ≡ None → find (looks_so test ls g) (pods_in (wants_of g)) ≡ None) → IsKnown n (looks_so test ls f) (pods_in (wants_of f)) → IsKnown (cond b n (n - 1)) (looks_so test ls g) (pods_in (wants_of g))
      known_by n true is still known =
          known_any (looks_so test ls g) n (pods_in (wants_of g)) (still (known.whole (grind (arith, nat_tests))))
      known_by n false is still known = record {
        first = front_now n known.first;
        whole = λ e. still (known.whole (omega (arith, e)));
      }

      -- what is known of those from the first
      known_still : (n : ℕ) → (find (looks_so test ls f) (pods_in (wants_of f)) ≡ None → find (looks_so test ls g) (pods_in (wants_of g)) ≡ None) → IsKnown n (looks_so test ls f) (pods_in (wants_of f)) → IsKnown (one_fewer n) (looks_so test ls g) (pods_in (wants_of g))
      known_still n still known = known_by n (n == all) refl still known

    -- where no pod is new
    none_still : NoneNew (pods_in (wants_of g)) (pods_in (wants_of f)) → find (looks_so test ls f) (pods_in (wants_of f)) ≡ None → find (looks_so test ls g) (pods_in (wants_of g)) ≡ None
    none_still none lacks =
        lacks_by (looks_so test ls g) (pods_in (wants_of g)) (λ a here. off_before a (none a here) lacks)

    none_off : NoneNew (pods_in (wants_of g)) (pods_in (wants_of f)) → NewOff
    none_off none a here new = absurd (new (none a here))

  -- ---- where one pod at the most is new, and this is one that was not looked at, while each of those before was

  module _ (one : OneNew (pods_in (wants_of g)) (pods_in (wants_of f))) (looked : find (unread ls f) (pods_in (wants_of f)) ≡ None) (name : Text) (fresh : IsUnread ls g name) where
    looks_fresh : (test : Option Look → Bool) → looks_so test ls g fresh.pod ≡ test None
    looks_fresh test = ap (by_name test ls) fresh.named ∙ ap test fresh.unread

    -- it was not asked for before
    is_new : (a : Want) → unread ls g a ≡ true → Among a (pods_in (wants_of f)) → ⊥
    is_new a un old = true≢false (sym un ∙ off_before is_none a old looked)

    only_unread : IsOnlyUnread ls g name
    only_unread = record {
      one = fresh;
      no_other = λ a here un.
          ap (pod_name g) (sym (one fresh.pod a fresh.asked here (is_new fresh.pod (looks_fresh is_none)) (is_new a un)))
          ∙ fresh.named;
    }

    one_off : (test : Option Look → Bool) → test None ≡ false → NewOff test
    one_off test off a here new =
        ap (looks_so test ls g) (sym (one fresh.pod a fresh.asked here (is_new fresh.pod (looks_fresh is_none)) new)) ∙ looks_fresh test ∙ off

    module _ (test : Option Look → Bool) (off : test None ≡ false) (lacks : find (looks_so test ls f) (pods_in (wants_of f)) ≡ None) where
      off_now : (a : Want) → Among a (pods_in (wants_of g)) → (b : Bool) → looks_so test ls g a ≡ b → b ≡ false
      off_now a here false is = refl
      off_now a here true is =
          let newer : Among a (pods_in (wants_of f)) → ⊥ = λ old. true≢false (sym is ∙ off_before test a old lacks) in
          let same : fresh.pod ≡ a = one fresh.pod a fresh.asked here (is_new fresh.pod (looks_fresh is_none)) newer in
          sym is ∙ ap (looks_so test ls g) (sym same) ∙ looks_fresh test ∙ off

      one_still : find (looks_so test ls g) (pods_in (wants_of g)) ≡ None
      one_still =
          lacks_by (looks_so test ls g) (pods_in (wants_of g)) (λ a here. off_now a here (looks_so test ls g a) refl)

-- ---- the marks

abbrev settles : Option Look → Bool
settles o = has_ended (found_in o)

module _ (ls : List Look) (f g : Flow) where
  read_still : GoesOnBy NoneNew f g → (k : Read) → IsReadMark ls f k → IsReadMark ls g (read_left k)
  read_still goes (First n) known = known_still ls f g goes.names is_none goes.front (none_off ls f g goes.names is_none goes.pods) n (none_still ls f g goes.names is_none goes.pods) known
  read_still goes (AllBut name) only = known_none (unread ls g) (pods_in (wants_of g))

  -- what is left of them where no pod is new
  pub still_marked : GoesOnBy NoneNew f g → (k : Marks) → IsMarked ls f k → IsMarked ls g (left k)
  still_marked goes k marked = record {
    read = read_still goes k.read marked.read;
    settled = known_still ls f g goes.names settles goes.front (none_off ls f g goes.names settles goes.pods) k.settled (none_still ls f g goes.names settles goes.pods) marked.settled;
    created = known_still ls f g goes.names notes_absent goes.front (none_off ls f g goes.names notes_absent goes.pods) k.created (none_still ls f g goes.names notes_absent goes.pods) marked.created;
  }

  -- and where one was not looked at, of those after one at the most is new
  pub marked_but : (name : Text) → GoesOnBy OneNew f g → (k : Marks) → IsMarked ls f k → k.read ≡ First all → IsUnread ls g name → IsMarked ls g (record { read = AllBut name; settled = one_fewer k.settled; created = one_fewer k.created })
  marked_but name goes k marked is fresh =
      let known : IsKnown all (unread ls f) (pods_in (wants_of f)) = subst (IsReadMark ls f) is marked.read in
      let looked = known.whole (omega arith) in
      record {
        read = only_unread ls f g goes.names goes.pods looked name fresh;
        settled = known_still ls f g goes.names settles goes.front (one_off ls f g goes.names goes.pods looked name fresh settles refl) k.settled (one_still ls f g goes.names goes.pods looked name fresh settles refl) marked.settled;
        created = known_still ls f g goes.names notes_absent goes.front (one_off ls f g goes.names goes.pods looked name fresh notes_absent refl) k.created (one_still ls f g goes.names goes.pods looked name fresh notes_absent refl) marked.created;
      }

-- ---- a journal that has one fact more

same_front : {A : Type 0} (xs ys zs ws : List A) → xs ++ zs ≡ ys ++ ws → length xs ≡ length ys → xs ≡ ys
same_front xs ys zs ws same long =
    sym (take-append_seam xs zs) ∙ ap₂ take long same ∙ take-append_seam ys ws

pub one_more : {A : Type 0} (J K before more : List A) (x : A) → K ≡ before ++ x ∷ [] → K ≡ J ++ more → length K ≡ length J + 1 → before ≡ J
one_more J K before more x last grows long =
    let long_last : length K ≡ length before + 1 = ap length last ∙ length-append before (x ∷ []) in
    same_front before J (x ∷ []) more (sym last ∙ grows) (omega (arith, long, long_last))

module _ (Stand : List Want → List Want → Type 0) (f g : Flow) where
  abbrev Names : Manifest → Facts → Type 0
  Names m J =
      (p : Path) → Among (want.Pod p) (pods m J) → name_at (tree g.manifest g.journal) p.sels ≡ name_at (tree m J) p.sels

  pub goes_on_by : HasMore f g → length g.journal ≡ length f.journal + 1 → (state : Workflow) → state ≡ record { manifest = g.manifest; facts = g.journal } → LastAdds Stand state → GoesOnBy Stand f g
  goes_on_by has one state is told =
      let adds = subst (LastAdds Stand) is told in
      let same : adds.before ≡ f.journal = one_more f.journal g.journal adds.before has.more adds.fact adds.last has.journal one in
      record {
        names = subst (λ m. Names m f.journal) has.manifest (subst (Names g.manifest) same adds.names);
        front = subst (λ m. KeepsFront (pods g.manifest g.journal) (pods m f.journal)) has.manifest
            (subst (λ J. KeepsFront (pods g.manifest g.journal) (pods g.manifest J)) same adds.front);
        pods = subst (λ m. Stand (pods g.manifest g.journal) (pods m f.journal)) has.manifest
            (subst (λ J. Stand (pods g.manifest g.journal) (pods g.manifest J)) same adds.pods);
      }
