-- The content of a key is of the key's kind, and the lock book and the saves are always there.
use Rattle.std.proofs.Common.{◌≡◌, ℕ, ◌+◌, ◌<◌, Bool, true, false, cond, [], refl, sym, ◌∙◌, ap, subst, Option, Some, None, unwrap_or, true≢false, arith}
use Rattle.tree_types.specs.declared.entry.Key.{Key}
use Rattle.tree_types.specs.declared.entry.Key.TheVariants.{Workflow, Pod, Locks, Caches}
use Rattle.tree_types.specs.declared.entry.Entry.{Entry}
use Rattle.tree_types.specs.declared.entry.Entry.TheVariants.{Submit, Write, Create, Finish, File, Release, Save, Tick}
use Rattle.history.specs.Keys.{is_about}
use Rattle.history.specs.History.{Event, Version, number_of, map_content, version_at, next_version, grown}
use Rattle.history.proofs.Extends.{version_at-grown}
use Rattle.history.specs.Carrying.{empty}
use Rattle.law.specs.Documents.{Text, Document}
use Rattle.law.specs.Contents.{Content, OfWorkflow, OfPod, OfLocks, OfCaches, apply, Story, starts, flow_in}
use Rattle.law.specs.Justified.{JustifiedBy, Justified, IsLawful}
use Rattle.lawful.proofs.Facts.{some_same, none_some}
use Rattle.lawful.proofs.IsAsSaid.{by_lawful}
use Rattle.next_laws.specs.Fresh.{IsSubmitted}

abbrev pub kind_of : Content → ℕ
kind_of (OfWorkflow f) = 0
kind_of (OfPod pod) = 1
kind_of (OfLocks b) = 2
kind_of (OfCaches ss) = 3

abbrev pub kind_under : Key → ℕ
kind_under (Workflow w) = 0
kind_under (Pod w name) = 1
kind_under Locks = 2
kind_under Caches = 3

kind_stays : (c : Content) (e : Entry) → kind_of (unwrap_or (apply c e) c) ≡ kind_of c
kind_stays (OfWorkflow f) (Write w n facts) = refl
kind_stays (OfWorkflow f) _ = refl
kind_stays (OfPod pod) (Finish w n o) = refl
kind_stays (OfPod pod) _ = refl
kind_stays (OfLocks b) (File l k r) = refl
kind_stays (OfLocks b) (Release l k) = refl
kind_stays (OfLocks b) _ = refl
kind_stays (OfCaches ss) (Save a b k o t) = refl
kind_stays (OfCaches ss) _ = refl

-- an object stands
pub record IsThere (h : Story) (k : Key) : Type 0 where
  pub version : Version Content
  pub is : version_at apply h k ≡ Some version

abbrev KindIs : Key → Option (Version Content) → Type 0
KindIs k o = (v : Version Content) → o ≡ Some v → kind_of v.content ≡ kind_under k

pub record Kinds (h : Story) : Type 0 where
  pub locks : IsThere h Locks
  pub caches : IsThere h Caches
  pub kinds : (k : Key) (v : Version Content) → version_at apply h k ≡ Some v → kind_of v.content ≡ kind_under k

there_on : (h : Story) (e : Event Content) (k : Key) → IsThere h k → IsThere (grown h e) k
there_on h e k x = by (is_about k e.entry) refl
  where
    by : (b : Bool) → is_about k e.entry ≡ b → IsThere (grown h e) k
    by true t = record { version = record { number = x.version.number + 1; content = unwrap_or (apply x.version.content e.entry) x.version.content }; is = version_at-grown apply h e k ∙ ap (λ b. cond b (next_version apply (version_at apply h k) e) (version_at apply h k)) t ∙ ap (λ o. next_version apply o e) x.is }
    by false t = record { version = x.version; is = version_at-grown apply h e k ∙ ap (λ b. cond b (next_version apply (version_at apply h k) e) (version_at apply h k)) t ∙ x.is }

not_about : {X : Type 0} → false ≡ true → X
not_about e = absurd (true≢false (sym e))

module _ (D : Document) where
  -- a content that an entry makes under a new key
  made_kind : (h : Story) → Kinds h → (k : Key) → version_at apply h k ≡ None → (e : Entry) (m : Option Content) → JustifiedBy D h m e → is_about k e ≡ true → (c : Content) → m ≡ Some c → kind_of c ≡ kind_under k
  made_kind h i (Workflow x) a (Submit w None facts) m j t c q = ap kind_of (some_same c (OfWorkflow _) (sym q ∙ j.content))
  made_kind h i (Workflow x) a (Submit w (Some old) facts) m j t c q = ap kind_of (some_same c (OfWorkflow _) (sym q ∙ j.content))
  made_kind h i (Workflow x) a (Write w n facts) m j t c q = none_some c (sym j.0 ∙ q)
  made_kind h i (Pod x y) a (Create w n p u) m j t c q = ap kind_of (some_same c (OfPod _) (sym q ∙ j.content))
  made_kind h i (Pod x y) a (Finish w n o) m j t c q = none_some c (sym j.0 ∙ q)
  made_kind h i Locks a e m j t c q = none_some i.locks.version (sym a ∙ i.locks.is)
  made_kind h i Caches a e m j t c q = none_some i.caches.version (sym a ∙ i.caches.is)
  made_kind h i (Workflow x) a (Create w n p u) m j t c q = not_about t
  made_kind h i (Workflow x) a (Finish w n o) m j t c q = not_about t
  made_kind h i (Workflow x) a (File l k r) m j t c q = not_about t
  made_kind h i (Workflow x) a (Release l k) m j t c q = not_about t
  made_kind h i (Workflow x) a (Save u b k o s) m j t c q = not_about t
  made_kind h i (Workflow x) a (Tick u) m j t c q = not_about t
  made_kind h i (Pod x y) a (Submit w old facts) m j t c q = not_about t
  made_kind h i (Pod x y) a (Write w n facts) m j t c q = not_about t
  made_kind h i (Pod x y) a (File l k r) m j t c q = not_about t
  made_kind h i (Pod x y) a (Release l k) m j t c q = not_about t
  made_kind h i (Pod x y) a (Save u b k o s) m j t c q = not_about t
  made_kind h i (Pod x y) a (Tick u) m j t c q = not_about t

  kinds_step : (h : Story) (e : Event Content) → IsLawful D h → Justified D h e → Kinds h → Kinds (grown h e)
  kinds_step h e l j i = record { locks = there_on h e Locks i.locks; caches = there_on h e Caches i.caches; kinds = λ k. subst (KindIs k) (sym (version_at-grown apply h e k)) (by k (is_about k e.entry) refl) }
    where
      first : (k : Key) → version_at apply h k ≡ None → is_about k e.entry ≡ true → (m : Option Content) → e.made ≡ m → KindIs k (elim m [ None ↦ None | Some c ↦ Some record { number = 1; content = c } ])
      first k a t None r v q = none_some v q
      first k a t (Some c) r v q = ap (λ (x : Version Content). kind_of x.content) (sym (some_same record { number = 1; content = c } v q)) ∙ made_kind h i k a e.entry e.made j t c r

      next : (k : Key) (o : Option (Version Content)) → version_at apply h k ≡ o → is_about k e.entry ≡ true → KindIs k (next_version apply o e)
      next k None a t = first k a t e.made refl
      next k (Some v) a t = λ x q. ap (λ (y : Version Content). kind_of y.content) (sym (some_same record { number = v.number + 1; content = unwrap_or (apply v.content e.entry) v.content } x q)) ∙ kind_stays v.content e.entry ∙ i.kinds k v a

      by : (k : Key) (b : Bool) → is_about k e.entry ≡ b → KindIs k (cond b (next_version apply (version_at apply h k) e) (version_at apply h k))
      by k true t = next k (version_at apply h k) refl t
      by k false t = i.kinds k

  start_kind : (k : Key) → KindIs k (version_at apply (empty (starts D)) k)
  start_kind Locks v e = ap (λ (x : Version Content). kind_of x.content) (sym (some_same record { number = 1; content = OfLocks record { limits = D.limits; requests = [] } } v e))
  start_kind Caches v e = ap (λ (x : Version Content). kind_of x.content) (sym (some_same record { number = 1; content = OfCaches [] } v e))
  start_kind (Workflow w) v e = none_some v e
  start_kind (Pod w n) v e = none_some v e

  start_kinds : Kinds (empty (starts D))
  start_kinds = record {
    locks = record { version = record { number = 1; content = OfLocks record { limits = D.limits; requests = [] } }; is = refl };
    caches = record { version = record { number = 1; content = OfCaches [] }; is = refl };
    kinds = start_kind;
  }

  pub kinds_are : (h : Story) → IsLawful D h → Kinds h
  kinds_are h l = by_lawful D Kinds kinds_step start_kinds h l

-- what stands under a workflow's key is a workflow
pub is_submitted : (D : Document) (h : Story) (name : Text) → IsLawful D h → 0 < number_of (version_at apply h (Workflow name)) → IsSubmitted h name
is_submitted D h name l p = by (version_at apply h (Workflow name)) refl
  where
    flow_by : (v : Version Content) (c : Content) → v.content ≡ c → version_at apply h (Workflow name) ≡ Some v → kind_of c ≡ 0 → IsSubmitted h name
    flow_by v (OfWorkflow f) q e k = (f, ap (λ o. flow_in (map_content o)) e ∙ ap (λ c. flow_in (Some c)) q)
    flow_by v (OfPod pod) q e k = absurd cc
    flow_by v (OfLocks b) q e k = absurd cc
    flow_by v (OfCaches ss) q e k = absurd cc

    by : (o : Option (Version Content)) → version_at apply h (Workflow name) ≡ o → IsSubmitted h name
    by None e = absurd (let n : number_of (version_at apply h (Workflow name)) ≡ 0 = ap number_of e in omega (arith, n, p))
    by (Some v) e = flow_by v v.content refl e ((kinds_are D h l).kinds (Workflow name) v e)
