-- Nothing is due where no part of what is due is there, and the other way round.
use Rattle.std.proofs.Common.{◌≡◌, ◌⊎◌, inl, inr, Bool, true, false, cond, List, [], ◌∷◌, ◌++◌, filter_map, refl, sym, ◌∙◌, ap, ap₂, Option, Some, None}
use Rattle.std.specs.Prelude.{option_to_list}
use Rattle.std.specs.List.{cons_option}
use Rattle.tree_types.specs.declared.node.Node.{Node}
use Rattle.tree_types.specs.declared.path.Path.{Path}
use Rattle.tree_types.specs.declared.want.Want.{Want}
use Rattle.tree_types.specs.declared.want.Want.TheVariants as want
use Rattle.tree_types.specs.declared.fact.Fact.TheVariants as fact
use Rattle.tree_types.specs.Phases.{fulfilled}
use Rattle.meaning.specs.Answers.{Sels, path}
use Rattle.growth.specs.Growth.{Among}
use Rattle.books.specs.declared.Request.{Request}
use Rattle.law.specs.Documents.{Text, Document}
use Rattle.law.specs.Contents.{Flow, Story}
use Rattle.law.specs.Justified.{tree_of, wants_of, key}
use Rattle.law.specs.Due.{Matter, record_fact, release, due_start, asked_by, if_holding, settling, granting, filing, looking, arming, timing, resuming, creating, saving, release_held, release_node, release_own, releasing, submitting, is_over, due_of}
use Rattle.rest_laws.specs.Rest.{NothingDue, HoldsNone}

-- ---- lists without members

none_left : {A : Type 0} (xs ys : List A) → xs ++ ys ≡ [] → xs ≡ []
none_left [] ys e = refl
none_left (x ∷ xs) ys e = absurd cc

none_right : {A : Type 0} (xs ys : List A) → xs ++ ys ≡ [] → ys ≡ []
none_right [] ys e = e
none_right (x ∷ xs) ys e = absurd cc

none_both : {A : Type 0} (xs ys : List A) → xs ≡ [] → ys ≡ [] → xs ++ ys ≡ []
none_both xs ys e q = ap₂ (λ us vs. us ++ vs) e q

-- where nothing is given by one, nothing is by another that gives less
module _ {A B C : Type 0} (give : A → Option B) (less : A → Option C) where
  pub still_none : (xs : List A) → ((x : A) → Among x xs → give x ≡ None → less x ≡ None) → filter_map give xs ≡ [] → filter_map less xs ≡ []
  still_none [] fewer e = refl
  still_none (x ∷ xs) fewer e = by (give x) refl e (still_none xs (λ y i. fewer y (inr i)))
    where
      by : (o : Option B) → give x ≡ o → cons_option o (filter_map give xs) ≡ [] → (filter_map give xs ≡ [] → filter_map less xs ≡ []) → cons_option (less x) (filter_map less xs) ≡ []
      by None q r ih = ap (λ o. cons_option o (filter_map less xs)) (fewer x (inl refl) q) ∙ ih r
      by (Some y) q r ih = absurd cc

-- what is given of a member is given
pub gives_of : {A B : Type 0} (give : A → Option B) (xs : List A) (x : A) → Among x xs → filter_map give xs ≡ [] → give x ≡ None
gives_of give [] x i e = absurd i
gives_of give (y ∷ xs) x i e = by (give y) refl e i (λ j r. gives_of give xs x j r)
  where
    by : (o : Option _) → give y ≡ o → cons_option o (filter_map give xs) ≡ [] → (y ≡ x) ⊎ Among x xs → (Among x xs → filter_map give xs ≡ [] → give x ≡ None) → give x ≡ None
    by None q r (inl is) ih = ap give (sym is) ∙ q
    by None q r (inr j) ih = ih j r
    by (Some z) q r i ih = absurd cc

pub gives_none : {A B : Type 0} (give : A → Option B) (xs : List A) → ((x : A) → give x ≡ None) → filter_map give xs ≡ []
gives_none give [] h = refl
gives_none give (x ∷ xs) h = ap (λ o. cons_option o (filter_map give xs)) (h x) ∙ gives_none give xs h

module _ (D : Document) (h : Story) (w : Text) (f : Flow) where
  -- ---- the parts of what is due

  abbrev asking : (Want → Option Matter) → List Matter
  asking give = filter_map give (wants_of f)

  abbrev before_settled : List Matter
  before_settled = due_start D h w f ++ asking (settling D h w f)

  abbrev before_filed : List Matter
  before_filed = before_settled ++ asking (granting D h w f) ++ asking (filing D h w f)

  abbrev before_armed : List Matter
  before_armed = before_filed ++ asking (looking D h w f) ++ asking (arming D h w f)

  abbrev before_resumed : List Matter
  before_resumed = before_armed ++ asking (timing D h w f) ++ filter_map (resuming D h w f) (tree_of f)

  abbrev before_saved : List Matter
  before_saved = before_resumed ++ asking (creating D h w f) ++ asking (saving D h w f)

  abbrev before_released : List Matter
  before_released = before_saved ++ option_to_list (release_own D h w f) ++ filter_map (releasing D h w f) (tree_of f)

  pub nothing_due : due_of D h w f ≡ [] → NothingDue D h w f
  nothing_due e =
      let submits = filter_map (submitting D h w f) D.commands in
      let released = none_left before_released submits e in
      let owns = option_to_list (release_own D h w f) in
      let saved = none_left before_saved owns (none_left (before_saved ++ owns) (filter_map (releasing D h w f) (tree_of f)) released) in
      let creates = asking (creating D h w f) in
      let saves = asking (saving D h w f) in
      let made = none_left (before_resumed ++ creates) saves saved in
      let resumed = none_left before_resumed creates made in
      let rings = asking (timing D h w f) in
      let resumes = filter_map (resuming D h w f) (tree_of f) in
      let rung = none_left (before_armed ++ rings) resumes resumed in
      let armed = none_left before_armed rings rung in
      let looks = asking (looking D h w f) in
      let arms = asking (arming D h w f) in
      let looked = none_left (before_filed ++ looks) arms armed in
      let filed = none_left before_filed looks looked in
      let grants = asking (granting D h w f) in
      let files = asking (filing D h w f) in
      let settled = none_left before_settled grants (none_left (before_settled ++ grants) files filed) in
      record {
        started = none_left (due_start D h w f) (asking (settling D h w f)) settled;
        settled = none_right (due_start D h w f) (asking (settling D h w f)) settled;
        filed = none_right (before_settled ++ grants) files filed;
        looked_up = none_right before_filed looks looked;
        armed = none_right (before_filed ++ looks) arms armed;
        rung = none_right before_armed rings rung;
        resumed = none_right (before_armed ++ rings) resumes resumed;
        created = none_right before_resumed creates made;
        saved = none_right (before_resumed ++ creates) saves saved;
        submitted = none_right before_released submits e;
      }

  -- ---- where no lock is held, nothing is granted or released

  module _ (unheld : HoldsNone h w) where
    not_granted : (p : Path) (o : Option Request) → asked_by D h w f p ≡ o → if_holding D h w f p o ≡ None
    not_granted p None e = refl
    not_granted p (Some r) e = ap (λ b. cond b (Some (record_fact (fact.Granted p))) None) (unheld p r e)

    not_released : (p : Path) (o : Option Request) → asked_by D h w f p ≡ o → release_held D h w f p o ≡ None
    not_released p None e = refl
    not_released p (Some r) e = ap (λ b. cond b (Some (release r.lock (key w p))) None) (unheld p r e)

    grants_none : (a : Want) → granting D h w f a ≡ None
    grants_none (want.Lock p l) = not_granted p (asked_by D h w f p) refl
    grants_none (want.Pod p) = refl
    grants_none (want.LookUp p c e g) = refl
    grants_none (want.Arming p) = refl
    grants_none (want.Timer p t) = refl
    grants_none (want.Save p c e o) = refl

    no_node : (q : Sels) (p : Path) → release_node D h w f q p ≡ None
    no_node [] p = refl
    no_node (s ∷ q) p = not_released p (asked_by D h w f p) refl

    releases_none : (n : Node) → releasing D h w f n ≡ None
    releases_none n = by (fulfilled n.phase)
      where
        by : (b : Bool) → cond b (release_node D h w f n.path.sels n.path) None ≡ None
        by true = no_node n.path.sels n.path
        by false = refl

    own_none : release_own D h w f ≡ None
    own_none = by (is_over f)
      where
        by : (b : Bool) → cond b (release_held D h w f (path []) (asked_by D h w f (path []))) None ≡ None
        by true = not_released (path []) (asked_by D h w f (path [])) refl
        by false = refl

    pub due_none : NothingDue D h w f → due_of D h w f ≡ []
    due_none n =
        let settled = none_both (due_start D h w f) (asking (settling D h w f)) n.started n.settled in
        let grants = asking (granting D h w f) in
        let granted = none_both before_settled grants settled (gives_none (granting D h w f) (wants_of f) grants_none) in
        let filed = none_both (before_settled ++ grants) (asking (filing D h w f)) granted n.filed in
        let looks = asking (looking D h w f) in
        let armed = none_both (before_filed ++ looks) (asking (arming D h w f)) (none_both before_filed looks filed n.looked_up) n.armed in
        let rings = asking (timing D h w f) in
        let resumed = none_both (before_armed ++ rings) (filter_map (resuming D h w f) (tree_of f)) (none_both before_armed rings armed n.rung) n.resumed in
        let creates = asking (creating D h w f) in
        let saved = none_both (before_resumed ++ creates) (asking (saving D h w f)) (none_both before_resumed creates resumed n.created) n.saved in
        let owns = option_to_list (release_own D h w f) in
        let own = none_both before_saved owns saved (ap option_to_list own_none) in
        let released = none_both (before_saved ++ owns) (filter_map (releasing D h w f) (tree_of f)) own (gives_none (releasing D h w f) (tree_of f) releases_none) in
        none_both before_released (filter_map (submitting D h w f) D.commands) released n.submitted
