-- Lines: what holds of each, what holds of one, and the regions of a tree in which they lie.
use Rattle.std.proofs.Common.{◌≡◌, sym, ◌∙◌, ap, subst, ◌≤◌, ◌⊎◌, arith}
use Rattle.std.proofs.Math.Logic.{inl, inr}
use Rattle.std.proofs.lemmas.List.{append_assoc}
use Rattle.std.specs.Prelude.{ℕ, suc, List, [], ◌∷◌, ◌++◌, Bool, true, false, None, map}
use Rattle.tree_types.specs.declared.path.Sel.{Sel}
use Rattle.tree_types.specs.declared.path.Sel.TheVariants.{Exit}
use Rattle.tree_types.specs.declared.phase.Phase.TheVariants.{Running}
use Rattle.tree_types.specs.declared.node.Kind.TheVariants as kind
use Rattle.tree_types.specs.declared.node.Node.{Node}
use Rattle.tree_types.specs.declared.want.Want.{Want}
use Rattle.tree_types.specs.declared.want.Want.TheVariants as want
use Rattle.meaning.specs.declared.lines.Place.{Place}
use Rattle.meaning.specs.declared.lines.Line.{Line}
use Rattle.meaning.specs.declared.lines.Line.TheVariants.{Stands, Asks, MayBegin}
use Rattle.meaning.specs.Answers.{Sels, Answers}
use Rattle.growth.proofs.Numbered.{All, Laid}

-- ---- a line right behind the first

abbrev pub behind_first : Line → List Line → List Line
behind_first x [] = x ∷ []
behind_first x (l ∷ ls) = l ∷ x ∷ ls

-- ---- each line, and one of the lines

abbrev pub Every : (Line → Type 0) → List Line → Type 0
Every P [] = Unit {0}
Every P (l ∷ ls) = P l × Every P ls

abbrev pub Any : (Line → Type 0) → List Line → Type 0
Any P [] = ⊥
Any P (l ∷ ls) = P l ⊎ Any P ls

pub one_of : {X Y Z : Type 0} → (X → Z) → (Y → Z) → X ⊎ Y → Z
one_of f g (inl x) = f x
one_of f g (inr y) = g y

first_two : {X Y Z : Type 0} → X ⊎ (Y ⊎ Z) → (X ⊎ Y) ⊎ Z
first_two (inl x) = inl (inl x)
first_two (inr (inl y)) = inl (inr y)
first_two (inr (inr z)) = inr z

in_second : {X Y Z : Type 0} → (Y → Z) → X ⊎ Y → X ⊎ Z
in_second f (inl x) = inl x
in_second f (inr y) = inr (f y)

module _ (P : Line → Type 0) where
  pub every_append : (ls ks : List Line) → Every P ls → Every P ks → Every P (ls ++ ks)
  every_append [] ks h k = k
  every_append (l ∷ ls) ks h k = (h.0, every_append ls ks h.1 k)

  pub every_map : (Q : Line → Type 0) (ls : List Line) → ((l : Line) → P l → Q l) → Every P ls → Every Q ls
  every_map Q [] f h = tt
  every_map Q (l ∷ ls) f h = (f l h.0, every_map Q ls f h.1)

  pub any_append : (ls ks : List Line) → Any P (ls ++ ks) → Any P ls ⊎ Any P ks
  any_append [] ks h = inr h
  any_append (l ∷ ls) ks h = first_two (in_second (any_append ls ks) h)

  pub any_left : (ls ks : List Line) → Any P ls → Any P (ls ++ ks)
  any_left [] ks h = absurd h
  any_left (l ∷ ls) ks h = in_second (any_left ls ks) h

  pub any_right : (ls ks : List Line) → Any P ks → Any P (ls ++ ks)
  any_right [] ks h = h
  any_right (l ∷ ls) ks h = inr (any_right ls ks h)

  -- what is asked for is no such line
  pub no_wants : (ws : List Want) → ((w : Want) → P (Asks w) → ⊥) → Any P (map Asks ws) → ⊥
  no_wants [] f h = h
  no_wants (w ∷ ws) f h = one_of (f w) (no_wants ws f) h

  pub past_wants : (ws : List Want) (ls : List Line) → ((w : Want) → P (Asks w) → ⊥) → Any P (map Asks ws ++ ls) → Any P ls
  past_wants ws ls f h = one_of (λ k. absurd (no_wants ws f k)) (λ k. k) (any_append (map Asks ws) ls h)

  -- what holds of each, of the one
  pub every_any : (Q : Line → Type 0) (R : Type 0) (ls : List Line) → ((l : Line) → P l → Q l → R) → Every P ls → Any Q ls → R
  every_any Q R [] f h k = absurd k
  every_any Q R (l ∷ ls) f h k = one_of (f l h.0) (every_any Q R ls f h.1) k

-- ---- readings of a line

-- this node stands here
abbrev pub IsNode : Node → Line → Type 0
IsNode n (Stands o) = o ≡ n
IsNode n _ = ⊥

-- this is asked for here
abbrev pub IsWant : Want → Line → Type 0
IsWant w (Asks v) = v ≡ w
IsWant w _ = ⊥

-- a node of this path stands here
abbrev pub IsAt : Sels → Line → Type 0
IsAt p (Stands n) = n.path.sels ≡ p
IsAt p _ = ⊥

-- the task of this path may begin
abbrev pub Begins : Sels → Line → Type 0
Begins p (MayBegin q) = q.sels ≡ p
Begins p _ = ⊥

abbrev pub Has : Sels → List Line → Type 0
Has p ls = Any (IsAt p) ls

abbrev pub Holds : Sels → List Line → Type 0
Holds p ls = Any (Begins p) ls

-- ---- what is proper of a line

-- nothing answers a want yet
abbrev pub Open : Answers → Want → Type 0
Open A (want.Pod p) = (place : Place) × (place.sels ≡ p.sels) × (A.outcome place ≡ None)
Open A (want.Lock p l) = A.granted p.sels ≡ false
Open A (want.LookUp p cache key age) = A.memo p.sels ≡ None
Open A (want.Arming p) = A.armed p.sels ≡ None
Open A (want.Timer p tick) = A.due p.sels ≡ false
Open A (want.Save p cache key outputs) = Unit {0}

-- a suspended node that runs was not resumed
abbrev pub Unresumed : Answers → Node → Type 0
Unresumed A n = n.kind ≡ kind.Suspend → n.phase ≡ Running → A.resumed n.path.sels ≡ false

-- what is asked for is not answered, and what may begin has not begun and lies in a region
abbrev pub Fine : Answers → (Sels → Type 0) → Line → Type 0
Fine A D (Stands n) = Unresumed A n
Fine A D (Asks w) = Open A w
Fine A D (MayBegin p) = D p.sels × (A.begun p.sels ≡ false)

abbrev pub Proper : Answers → (Sels → Type 0) → List Line → Type 0
Proper A D ls = Every (Fine A D) ls

abbrev pub AllOpen : Answers → List Want → Type 0
AllOpen A [] = Unit {0}
AllOpen A (w ∷ ws) = Open A w × AllOpen A ws

-- what newly begins in a region may begin by these lines
abbrev pub Fair : (Sels → Type 0) → (Sels → Type 0) → List Line → Type 0
Fair N D ls = (p : Sels) → D p → N p → Holds p ls

pub not_begun : (A : Answers) (D : Sels → Type 0) (p : Sels) (ls : List Line) → Proper A D ls → Holds p ls → A.begun p ≡ false
not_begun A D p ls h k = every_any (Fine A D) (Begins p) (A.begun p ≡ false) ls (λ l. at l) h k
  where
    at : (l : Line) → Fine A D l → Begins p l → A.begun p ≡ false
    at (Stands n) f b = absurd b
    at (Asks w) f b = absurd b
    at (MayBegin q) f b = subst (λ (x : Sels). A.begun x ≡ false) b f.1

pub proper_holds : (A : Answers) (D : Sels → Type 0) (p : Sels) (ls : List Line) → Proper A D ls → Holds p ls → D p
proper_holds A D p ls h k = every_any (Fine A D) (Begins p) (D p) ls (λ l. at l) h k
  where
    at : (l : Line) → Fine A D l → Begins p l → D p
    at (Stands n) f b = absurd b
    at (Asks w) f b = absurd b
    at (MayBegin q) f b = subst D b f.0

pub proper_append : (A : Answers) (D : Sels → Type 0) (ls ks : List Line) → Proper A D ls → Proper A D ks → Proper A D (ls ++ ks)
proper_append A D ls ks h k = every_append (Fine A D) ls ks h k

pub proper_map : (A : Answers) (D E : Sels → Type 0) (ls : List Line) → ((p : Sels) → D p → E p) → Proper A D ls → Proper A E ls
proper_map A D E ls f h = every_map (Fine A D) (Fine A E) ls (λ l. at l) h
  where
    at : (l : Line) → Fine A D l → Fine A E l
    at (Stands n) k = k
    at (Asks w) k = k
    at (MayBegin q) k = (f q.sels k.0, k.1)

pub proper_wants : (A : Answers) (D : Sels → Type 0) (ws : List Want) → AllOpen A ws → Proper A D (map Asks ws)
proper_wants A D [] o = tt
proper_wants A D (w ∷ ws) o = (o.0, proper_wants A D ws o.1)

-- ---- what newly begins, part by part

in_left : {A B : Type 0} → (B → ⊥) → A ⊎ B → A
in_left f (inl a) = a
in_left f (inr b) = absurd (f b)

in_right : {A B : Type 0} → (A → ⊥) → A ⊎ B → B
in_right f (inl a) = absurd (f a)
in_right f (inr b) = b

-- a part of lines is fair where no other part can begin anything of its region
pub fair_left : (N D E F : Sels → Type 0) (A : Answers) (ls ks : List Line) → ((p : Sels) → E p → D p) → ((p : Sels) → E p → F p → ⊥) → Proper A F ks → Fair N D (ls ++ ks) → Fair N E ls
fair_left N D E F A ls ks f d h k = λ p e n. in_left (λ b. d p e (proper_holds A F p ks h b)) (any_append (Begins p) ls ks (k p (f p e) n))

pub fair_right : (N D E F : Sels → Type 0) (A : Answers) (ls ks : List Line) → ((p : Sels) → E p → D p) → ((p : Sels) → E p → F p → ⊥) → Proper A F ls → Fair N D (ls ++ ks) → Fair N E ks
fair_right N D E F A ls ks f d h k = λ p e n. in_right (λ a. d p e (proper_holds A F p ls h a)) (any_append (Begins p) ls ks (k p (f p e) n))

pub fair_map : (N D E : Sels → Type 0) (ls : List Line) → ((p : Sels) → E p → D p) → Fair N D ls → Fair N E ls
fair_map N D E ls f k = λ p e h. k p (f p e) h

-- below a node
pub fair_below : (N D : Sels → Type 0) (n : Node) (ws : List Want) (ls : List Line) → Fair N D (Stands n ∷ (map Asks ws ++ ls)) → Fair N D ls
fair_below N D n ws ls k = λ p d h. past_wants (Begins p) ws ls (λ w x. x) (in_right (λ x. x) (k p d h))

-- ---- regions

abbrev pub is_exit : Sel → Bool
is_exit Exit = true
is_exit _ = false

abbrev pub Nowhere : Sels → Type 0
Nowhere p = ⊥

abbrev pub Anywhere : Sels → Type 0
Anywhere p = Unit {0}

-- strictly below a path
abbrev pub Under : Sels → Sels → Type 0
Under P p = (s : Sel) × (r : Sels) × (p ≡ P ++ s ∷ r)

-- strictly below a path, and not in its exit hook
abbrev pub Inside : Sels → Sels → Type 0
Inside P p = (s : Sel) × (r : Sels) × (p ≡ P ++ s ∷ r) × (is_exit s ≡ false)

-- at or below a child of a path
abbrev pub AtChild : Sels → Sel → Sels → Type 0
AtChild P s p = (r : Sels) × (p ≡ P ++ s ∷ r)

-- strictly below a child of a path
abbrev pub Deep : Sels → Sels → Type 0
Deep P p = (s : Sel) × (t : Sel) × (r : Sels) × (p ≡ P ++ s ∷ t ∷ r)

-- at or below the children of a path from one on
abbrev pub From : (ℕ → Sel) → Sels → ℕ → Sels → Type 0
From at P i p = (j : ℕ) × (r : Sels) × (i ≤ j) × (p ≡ P ++ at j ∷ r)

pub cancel : (P a b : Sels) → P ++ a ≡ P ++ b → a ≡ b
cancel [] a b e = e
cancel (s ∷ P) a b e = cancel P a b (cc e)

pub deeper : (P : Sels) (s t : Sel) (r p : Sels) → p ≡ (P ++ s ∷ []) ++ t ∷ r → p ≡ P ++ s ∷ t ∷ r
deeper P s t r p e = e ∙ append_assoc P (s ∷ []) (t ∷ r)

pub inside_under : (P p : Sels) → Inside P p → Under P p
inside_under P p h = (h.0, h.1, h.2)

pub child_under : (P : Sels) (s : Sel) (p : Sels) → Under (P ++ s ∷ []) p → Under P p
child_under P s p h = (s, h.0 ∷ h.1, deeper P s h.0 h.1 p h.2)

pub under_at_child : (P : Sels) (s : Sel) (p : Sels) → Under (P ++ s ∷ []) p → AtChild P s p
under_at_child P s p h = (h.0 ∷ h.1, deeper P s h.0 h.1 p h.2)

pub under_deep : (P : Sels) (s : Sel) (p : Sels) → Under (P ++ s ∷ []) p → Deep P p
under_deep P s p h = (s, h.0, h.1, deeper P s h.0 h.1 p h.2)

-- a child itself is not below a child
pub child_not_deep : (P : Sels) (s : Sel) → Deep P (P ++ s ∷ []) → ⊥
child_not_deep P s h = absurd (cc (cancel P (s ∷ []) (h.0 ∷ h.1 ∷ h.2) h.3))

pub same_sel : (P : Sels) (s t : Sel) (a b : Sels) → P ++ s ∷ a ≡ P ++ t ∷ b → s ≡ t
same_sel P s t a b e = cc (cancel P (s ∷ a) (t ∷ b) e)

pub exit_apart : (P p : Sels) → Inside P p → Under (P ++ Exit ∷ []) p → ⊥
exit_apart P p h k = let e : h.0 ≡ Exit = same_sel P h.0 Exit h.1 (k.0 ∷ k.1) (sym h.2 ∙ deeper P Exit k.0 k.1 p k.2) in let f : true ≡ false = ap is_exit (sym e) ∙ h.3 in absurd (cc f)

-- ---- the children of a path

-- selectors by number, each another, and none of them Exit
pub record Ways (at : ℕ → Sel) : Type 0 where
  pub differ : (i j : ℕ) → at i ≡ at j → i ≡ j
  pub inner : (i : ℕ) → is_exit (at i) ≡ false

module _ (at : ℕ → Sel) (w : Ways at) (P : Sels) where
  pub from_next : (i : ℕ) (p : Sels) → From at P (suc i) p → From at P i p
  from_next i p h = let l : suc i ≤ h.0 = h.2 in (h.0, h.1, omega arith, h.3)

  pub at_child_from : (i : ℕ) (p : Sels) → AtChild P (at i) p → From at P i p
  at_child_from i p h = (i, h.0, omega arith, h.1)

  pub child_apart : (i : ℕ) (p : Sels) → AtChild P (at i) p → From at P (suc i) p → ⊥
  child_apart i p h k =
      let l : suc i ≤ k.0 = k.2 in
      let e : i ≡ k.0 = w.differ i k.0 (same_sel P (at i) (at k.0) h.0 k.1 (sym h.1 ∙ k.3)) in
      absurd (omega arith)

  pub from_inside : (i : ℕ) (p : Sels) → From at P i p → Inside P p
  from_inside i p h = (at h.0, h.1, h.3, w.inner h.0)

  pub from_under : (i : ℕ) (p : Sels) → From at P i p → Under P p
  from_under i p h = (at h.0, h.1, h.3)

  -- a child's lines before those of the children after it
  pub child_then : (A : Answers) (i : ℕ) (ls ks : List Line) → Proper A (AtChild P (at i)) ls → Proper A (From at P (suc i)) ks → Proper A (From at P i) (ls ++ ks)
  child_then A i ls ks h k = proper_append A (From at P i) ls ks (proper_map A (AtChild P (at i)) (From at P i) ls (at_child_from i) h) (proper_map A (From at P (suc i)) (From at P i) ks (from_next i) k)

  pub fair_child : (N : Sels → Type 0) (A : Answers) (i : ℕ) (ls ks : List Line) → Proper A (From at P (suc i)) ks → Fair N (From at P i) (ls ++ ks) → Fair N (AtChild P (at i)) ls
  fair_child N A i ls ks h k = fair_left N (From at P i) (AtChild P (at i)) (From at P (suc i)) A ls ks (at_child_from i) (child_apart i) h k

  pub fair_rest : (N : Sels → Type 0) (A : Answers) (i : ℕ) (ls ks : List Line) → Proper A (AtChild P (at i)) ls → Fair N (From at P i) (ls ++ ks) → Fair N (From at P (suc i)) ks
  fair_rest N A i ls ks h k = fair_right N (From at P i) (From at P (suc i)) (AtChild P (at i)) A ls ks (from_next i) (λ p e f. child_apart i p f e) h k

  -- the lines of things in a row
  module _ {Y : Type 0} (L : Laid Y) (A : Answers) where
    abbrev pub ProperOne : ℕ → Y → Type 0
    ProperOne j y = Proper A (AtChild P (at j)) (L.one j y)

    pub rows_proper : (i : ℕ) (ys : List Y) → All ProperOne i ys → Proper A (From at P i) (L.rows i ys)
    rows_proper i [] h = subst (Proper A (From at P i)) (sym (L.none i)) tt
    rows_proper i (y ∷ ys) h = subst (Proper A (From at P i)) (sym (L.more i y ys)) (child_then A i (L.one i y) (L.rows (suc i) ys) h.0 (rows_proper (suc i) ys h.1))

    -- what newly begins in a row, thing by thing
    pub rows_fair : (N : Sels → Type 0) (i : ℕ) (ys : List Y) → All ProperOne i ys → Fair N (From at P i) (L.rows i ys) → All (λ j y. Fair N (AtChild P (at j)) (L.one j y)) i ys
    rows_fair N i [] h f = tt
    rows_fair N i (y ∷ ys) h f =
        let g : Fair N (From at P i) (L.one i y ++ L.rows (suc i) ys) = subst (Fair N (From at P i)) (L.more i y ys) f in
        (fair_child N A i (L.one i y) (L.rows (suc i) ys) (rows_proper (suc i) ys h.1) g, rows_fair N (suc i) ys h.1 (fair_rest N A i (L.one i y) (L.rows (suc i) ys) h.0 g))

-- a row of things whose lines all lie in one region
pub rows_in : {Y : Type 0} (L : Laid Y) (A : Answers) (D : Sels → Type 0) (i : ℕ) (ys : List Y) → All (λ j y. Proper A D (L.one j y)) i ys → Proper A D (L.rows i ys)
rows_in L A D i [] h = subst (Proper A D) (sym (L.none i)) tt
rows_in L A D i (y ∷ ys) h = subst (Proper A D) (sym (L.more i y ys)) (proper_append A D (L.one i y) (L.rows (suc i) ys) h.0 (rows_in L A D (suc i) ys h.1))
