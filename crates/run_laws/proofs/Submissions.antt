-- Why the workflows of a document can be submitted one after the other, and why that moves no clock.
use Rattle.std.proofs.Common.{◌≡◌, inl, inr, ℕ, ◌≤◌, Bool, true, false, cond, bytes_eq, List, [], ◌∷◌, ◌++◌, map, length, refl, sym, ◌∙◌, ap, Option, None, arith}
use Rattle.std.proofs.lemmas.List.{map-append}
use Rattle.tree_types.specs.declared.entry.Key.TheVariants.{Workflow}
use Rattle.tree_types.specs.declared.entry.Entry.TheVariants.{Submit, Tick}
use Rattle.wf_manifest.specs.declared.manifest.Manifest.{Manifest}
use Rattle.meaning.specs.Answers.{Facts}
use Rattle.growth.specs.Growth.{Among}
use Rattle.history.specs.History.{Event, Extends, next_version, version_from, grown}
use Rattle.history.proofs.Keys.{bytes_eq-true}
use Rattle.law.specs.Documents.{Text, Document}
use Rattle.law.specs.Contents.{Content, apply, Story, starts}
use Rattle.law.specs.Due.{IsPaced}
use Rattle.next_laws.proofs.Ticks.{among_right}
use Rattle.run_laws.specs.Submissions.{submitted, submission, begun, NamesDiffer, SubmissionsGoWell}

-- ---- a name that is new

apart : (ms ls : List Manifest) (m : Manifest) → NamesDiffer (ms ++ m ∷ ls) → (x : Manifest) → Among x ms → x.name ≡ m.name → ⊥
apart [] ls m d x i e = absurd i
apart (y ∷ ms) ls m d x (inl q) e = d.0 m (among_right ms (m ∷ ls) m (inl refl)) (sym e ∙ ap (λ (z : Manifest). z.name) (sym q))
apart (y ∷ ms) ls m d x (inr i) e = apart ms ls m d.1 x i e

still_absent : (n : Text) (ms : List Manifest) → ((x : Manifest) → Among x ms → x.name ≡ n → ⊥) → version_from apply (Workflow n) None (map submission ms) ≡ None
still_absent n [] other = refl
still_absent n (m ∷ ms) other = ap (λ v. version_from apply (Workflow n) v (map submission ms)) (by (bytes_eq n m.name) refl) ∙ still_absent n ms (λ x i. other x (inr i))
  where
    by : (b : Bool) → bytes_eq n m.name ≡ b → cond b (next_version apply None (submission m)) None ≡ None
    by true e = absurd (other m (inl refl) (sym (bytes_eq-true n m.name e)))
    by false e = refl

-- ---- the next submission

grows_by : (D : Document) (ms : List Manifest) (m : Manifest) → grown (begun D ms) (submission m) ≡ begun D (ms ++ m ∷ [])
grows_by D ms m = ap (λ es. record { start = starts D; events = es }) (sym (map-append submission ms (m ∷ [])))

names_are : (D : Document) (ms : List Manifest) → submitted (begun D ms) ≡ map (λ (m : Manifest). m.name) ms
names_are D [] = refl
names_are D (m ∷ ms) = ap (λ ns. m.name ∷ ns) (names_are D ms)

-- ---- a submission is no tick

no_tick : {B : Type 0} (w : Text) (old : Option Text) (facts : Facts) (t : ℕ) → Submit w old facts ≡ Tick t → B
no_tick w old facts t e = absurd cc

first_same : {A : Type 0} (x y : A) (xs ys : List A) → x ∷ xs ≡ y ∷ ys → x ≡ y
first_same x y xs ys e = cc

rest_same : {A : Type 0} (x y : A) (xs ys : List A) → x ∷ xs ≡ y ∷ ys → xs ≡ ys
rest_same x y xs ys e = cc

not_before : (ms : List Manifest) (ks rest more : List (Event Content)) (e : Event Content) (t : ℕ) → e.entry ≡ Tick t → map submission ms ++ more ≡ (ks ++ e ∷ []) ++ rest → length ms ≤ length ks
not_before [] ks rest more e t q s = omega arith
not_before (m ∷ ms) [] rest more e t q s =
    no_tick m.name None [] t (ap (λ (x : Event Content). x.entry) (first_same (submission m) e (map submission ms ++ more) rest s) ∙ q)
not_before (m ∷ ms) (k ∷ ks) rest more e t q s =
    let r = not_before ms ks rest more e t q (rest_same (submission m) k (map submission ms ++ more) ((ks ++ e ∷ []) ++ rest) s) in
    omega (arith, r)

paced_from : (D : Document) (h : Story) → Extends h (begun D D.workflows) → IsPaced D (length D.workflows) h → IsPaced D 0 h
paced_from D h b p k e t s q n =
    p k e t s q (not_before D.workflows k.events s.extends.rest b.rest e t q (sym b.goes_on ∙ s.extends.goes_on))

pub submissions_go_well : SubmissionsGoWell
submissions_go_well = record {
  absent = λ D ms ls m d. still_absent m.name ms (apart ms ls m d);
  grows = grows_by;
  names = names_are;
  paced = paced_from;
}
