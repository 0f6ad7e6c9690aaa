-- What is kept of lines, and what newly begins stands.
use Rattle.std.proofs.Common.{◌≡◌, refl, sym, ◌∙◌, ap, subst}
use Rattle.std.proofs.Math.Logic.{inl, inr}
use Rattle.std.specs.Prelude.{ℕ, suc, List, [], ◌∷◌, ◌++◌, Bool, true, false, Option, Some, None, map}
use Rattle.tree_types.specs.declared.phase.Phase.{Phase}
use Rattle.tree_types.specs.declared.phase.Phase.TheVariants.{Pending, Running, Succeeded, Skipped, Failed, Error, Omitted}
use Rattle.tree_types.specs.declared.node.Kind.{Kind}
use Rattle.tree_types.specs.declared.node.Note.{Note}
use Rattle.tree_types.specs.declared.node.Note.TheVariants as note
use Rattle.tree_types.specs.declared.node.Node.{Node}
use Rattle.tree_types.specs.declared.outcome.Outputs.{Outputs}
use Rattle.tree_types.specs.declared.want.Want.{Want}
use Rattle.tree_types.specs.Phases.{fulfilled}
use Rattle.meaning.specs.declared.lines.Place.{Place}
use Rattle.meaning.specs.declared.lines.Line.{Line}
use Rattle.meaning.specs.declared.lines.Line.TheVariants.{Stands, Asks, MayBegin}
use Rattle.meaning.specs.Answers.{path, Sels, Answers}
use Rattle.meaning.specs.Lines.{Made, Parts, lines_over, lines_below, lines_in, node, made}
use Rattle.meaning.specs.Outputs.{Ending, succeeded_node, ended_node}
use Rattle.growth.specs.Growth.{Follows, New, KeepsTicks, Unanswered}
use Rattle.growth.proofs.Numbered.{Pairs, Laid}
use Rattle.growth.proofs.Lines.{Every, Any, one_of, every_append, every_map, any_append, any_left, any_right, past_wants, IsNode, IsWant, IsAt, Begins, Has, Holds, Proper, Nowhere, proper_holds}

pub not_both : {X : Type 0} (b : Bool) → b ≡ true → b ≡ false → X
not_both b t f = absurd (cc (t, f))

-- some later node of a node stands in lines
abbrev pub Kept : Node → List Line → Type 0
Kept n ks = (o : Node) × Any (IsNode o) ks × Follows n o

-- a node is kept, and what is asked for by A is asked for in lines by B until B answers it
abbrev pub KeptLine : Answers → Answers → List Line → Line → Type 0
KeptLine A B ks (Stands n) = Kept n ks
KeptLine A B ks (Asks w) = KeepsTicks A B → Unanswered B w → Any (IsWant w) ks
KeptLine A B ks (MayBegin p) = Unit {0}

abbrev pub AllKept : Answers → Answers → List Line → List Line → Type 0
AllKept A B ls ks = Every (KeptLine A B ks) ls

-- what others see of a call is the same
pub record SameTop (a b : Made) : Type 0 where
  pub phase : b.own.node.phase ≡ a.own.node.phase
  pub outputs : b.own.node.outputs ≡ a.own.node.outputs

-- what a call made, and what it makes later: what is finished is unchanged, what others see of a fulfilled
-- node is unchanged, and each line is kept
pub record Later (A B : Answers) (a b : Made) : Type 0 where
  pub done : a.own.finished ≡ true → b ≡ a
  pub top : fulfilled a.own.node.phase ≡ true → SameTop a b
  pub kept : AllKept A B (lines_in a) (lines_in b)

pub same_node : (n : Node) → Follows n n
same_node n = record { path = refl; name = refl; depth = refl; unchanged = λ _. refl }

module _ (A B : Answers) where
  -- where each node of some lines stands in others too, and what is asked for there is asked for
  pub kept_in : (ls ks ms : List Line) → ((o : Node) → Any (IsNode o) ks → Any (IsNode o) ms) → ((w : Want) → Any (IsWant w) ks → Any (IsWant w) ms) → AllKept A B ls ks → AllKept A B ls ms
  kept_in ls ks ms f g h = every_map (KeptLine A B ks) (KeptLine A B ms) ls (λ l. at l) h
    where
      at : (l : Line) → KeptLine A B ks l → KeptLine A B ms l
      at (Stands n) k = (k.0, f k.0 k.1, k.2)
      at (Asks w) k = λ t u. g w (k t u)
      at (MayBegin p) k = tt

  pub all_left : (ls ks more : List Line) → AllKept A B ls ks → AllKept A B ls (ks ++ more)
  all_left ls ks more h = kept_in ls ks (ks ++ more) (λ o. any_left (IsNode o) ks more) (λ w. any_left (IsWant w) ks more) h

  pub all_right : (ls front ks : List Line) → AllKept A B ls ks → AllKept A B ls (front ++ ks)
  all_right ls front ks h = kept_in ls ks (front ++ ks) (λ o. any_right (IsNode o) front ks) (λ w. any_right (IsWant w) front ks) h

  pub all_append : (ls ms ks : List Line) → AllKept A B ls ks → AllKept A B ms ks → AllKept A B (ls ++ ms) ks
  all_append ls ms ks h k = every_append (KeptLine A B ks) ls ms h k

  kept_same : (l : Line) (ls : List Line) → KeptLine A B (l ∷ ls) l
  kept_same (Stands n) ls = (n, inl refl, same_node n)
  kept_same (Asks w) ls = λ t u. inl refl
  kept_same (MayBegin p) ls = tt

  pub all_same : (ls : List Line) → AllKept A B ls ls
  all_same [] = tt
  all_same (l ∷ ls) = (kept_same l ls, all_right ls (l ∷ []) ls (all_same ls))

  -- side by side
  pub all_beside : (a b c d : List Line) → AllKept A B a b → AllKept A B c d → AllKept A B (a ++ c) (b ++ d)
  all_beside a b c d h k = all_append a c (b ++ d) (all_left a b d h) (all_right c b d k)

pub same_top : {a b : Made} → b ≡ a → SameTop a b
same_top e = record { phase = ap (λ (m : Made). m.own.node.phase) e; outputs = ap (λ (m : Made). m.own.node.outputs) e }

pub unchanged : (A B : Answers) {a b : Made} → b ≡ a → Later A B a b
unchanged A B {a} {b} e = record { done = λ _. e; top = λ _. same_top e; kept = subst (λ (m : Made). AllKept A B (lines_in a) (lines_in m)) (sym e) (all_same A B (lines_in a)) }

-- ---- what newly begins

-- what newly begins, and by the first lines may begin, stands in the second
abbrev pub Begun : (Sels → Type 0) → List Line → List Line → Type 0
Begun N ls ks = (p : Sels) → N p → Holds p ls → Has p ks

-- how what a call made grows
pub record Grew (A B : Answers) (a b : Made) : Type 0 where
  pub later : Later A B a b
  pub begun : Begun (New A B) (lines_in a) (lines_in b)

pub begun_beside : (N : Sels → Type 0) (a b c d : List Line) → Begun N a b → Begun N c d → Begun N (a ++ c) (b ++ d)
begun_beside N a b c d f g p n h = one_of (λ x. any_left (IsAt p) b d (f p n x)) (λ y. any_right (IsAt p) b d (g p n y)) (any_append (Begins p) a c h)

pub begun_left : (N : Sels → Type 0) (a b d : List Line) → Begun N a b → Begun N a (b ++ d)
begun_left N a b d f p n h = any_left (IsAt p) b d (f p n h)

-- below a node
pub begun_below : (N : Sels → Type 0) (n o : Node) (ws vs : List Want) (ls ks : List Line) → Begun N ls ks → Begun N (lines_over n ws ls) (lines_over o vs ks)
begun_below N n o ws vs ls ks f p i h = inr (any_right (IsAt p) (map Asks vs) ks (f p i (past_wants (Begins p) ws ls (λ w x. x) (one_of (λ x. absurd x) (λ x. x) h))))

-- where nothing may begin
pub begun_nothing : (N : Sels → Type 0) (A : Answers) (ls ks : List Line) → Proper A Nowhere ls → Begun N ls ks
begun_nothing N A ls ks h p n k = absurd (proper_holds A Nowhere p ls h k)

-- what stays as it is, and by which nothing may begin
pub still : (A B : Answers) (b : Made) → Proper A Nowhere (lines_in b) → Grew A B b b
still A B b h = record { later = unchanged A B refl; begun = begun_nothing (New A B) A (lines_in b) (lines_in b) h }

-- ---- rows of things

module _ {Y : Type 0} (L M : Laid Y) where
  pub rows_kept : (A B : Answers) (R : ℕ → Y → Y → Type 0) (i : ℕ) (xs ys : List Y) → ((j : ℕ) (x y : Y) → R j x y → AllKept A B (L.one j x) (M.one j y)) → Pairs R i xs ys → AllKept A B (L.rows i xs) (M.rows i ys)
  rows_kept A B R i [] [] f h = subst (λ (ls : List Line). AllKept A B ls (M.rows i [])) (sym (L.none i)) tt
  rows_kept A B R i [] (y ∷ ys) f h = absurd h
  rows_kept A B R i (x ∷ xs) [] f h = absurd h
  rows_kept A B R i (x ∷ xs) (y ∷ ys) f h = subst (λ (ls : List Line). AllKept A B ls (M.rows i (y ∷ ys))) (sym (L.more i x xs)) (subst (AllKept A B (L.one i x ++ L.rows (suc i) xs)) (sym (M.more i y ys)) (all_beside A B (L.one i x) (M.one i y) (L.rows (suc i) xs) (M.rows (suc i) ys) (f i x y h.0) (rows_kept A B R (suc i) xs ys f h.1)))

  pub rows_begun : (N : Sels → Type 0) (R : ℕ → Y → Y → Type 0) (i : ℕ) (xs ys : List Y) → ((j : ℕ) (x y : Y) → R j x y → Begun N (L.one j x) (M.one j y)) → Pairs R i xs ys → Begun N (L.rows i xs) (M.rows i ys)
  rows_begun N R i [] [] f h = subst (λ (ls : List Line). Begun N ls (M.rows i [])) (sym (L.none i)) (λ p n k. absurd k)
  rows_begun N R i [] (y ∷ ys) f h = absurd h
  rows_begun N R i (x ∷ xs) [] f h = absurd h
  rows_begun N R i (x ∷ xs) (y ∷ ys) f h = subst (λ (ls : List Line). Begun N ls (M.rows i (y ∷ ys))) (sym (L.more i x xs)) (subst (Begun N (L.one i x ++ L.rows (suc i) xs)) (sym (M.more i y ys)) (begun_beside N (L.one i x) (M.one i y) (L.rows (suc i) xs) (M.rows (suc i) ys) (f i x y h.0) (rows_begun N R (suc i) xs ys f h.1)))

-- ---- a node at a place

pub record At (p : Place) (n : Node) : Type 0 where
  pub path : n.path ≡ path p.sels
  pub name : n.name ≡ p.name
  pub depth : n.depth ≡ p.depth

pub node_at : (p : Place) (k : Kind) (ph : Phase) (note : Note) (o : Outputs) → At p (node p k ph note o)
node_at p k ph note o = record { path = refl; name = refl; depth = refl }

-- a node that ends so has its place and kind, and is fulfilled only where that phase is
pub record Ends (p : Place) (k : Kind) (ph : Phase) (n : Node) : Type 0 where
  pub at : At p n
  pub kind : n.kind ≡ k
  pub fulfilled : fulfilled n.phase ≡ true → fulfilled ph ≡ true

succeeded_ends : (p : Place) (k : Kind) (n : Note) (o : Outputs) (lack : Option (List ℕ)) → Ends p k Succeeded (succeeded_node p k n o lack)
succeeded_ends p k n o None = record { at = node_at p k Succeeded n o; kind = refl; fulfilled = λ e. refl }
succeeded_ends p k n o (Some name) = record { at = node_at p k Error (note.NoOutput name) o; kind = refl; fulfilled = λ e. refl }

pub ending_ends : (p : Place) (k : Kind) (ph : Phase) (note : Note) (o : Outputs) (d : Ending) → Ends p k ph (ended_node p k ph note o d)
ending_ends p k Succeeded note o d = succeeded_ends p k note d.outputs d.lack
ending_ends p k Pending note o d = record { at = node_at p k Pending note o; kind = refl; fulfilled = λ e. e }
ending_ends p k Running note o d = record { at = node_at p k Running note o; kind = refl; fulfilled = λ e. e }
ending_ends p k Skipped note o d = record { at = node_at p k Skipped note o; kind = refl; fulfilled = λ e. e }
ending_ends p k Failed note o d = record { at = node_at p k Failed note o; kind = refl; fulfilled = λ e. e }
ending_ends p k Error note o d = record { at = node_at p k Error note o; kind = refl; fulfilled = λ e. e }
ending_ends p k Omitted note o d = record { at = node_at p k Omitted note o; kind = refl; fulfilled = λ e. e }

-- two nodes of one place, the same where the first is fulfilled
pub same_place : (p : Place) (n o : Node) → At p n → At p o → (fulfilled n.phase ≡ true → o ≡ n) → Follows n o
same_place p n o at_n at_o e = record { path = at_o.path ∙ sym at_n.path; name = at_o.name ∙ sym at_n.name; depth = at_o.depth ∙ sym at_n.depth; unchanged = e }

-- a node that is not fulfilled is followed by any node at its place
pub open_follows : (p : Place) (n o : Node) → At p n → At p o → fulfilled n.phase ≡ false → Follows n o
open_follows p n o at_n at_o f = same_place p n o at_n at_o (λ t. not_both (fulfilled n.phase) t f)

-- a node over lines, and what it makes later
pub made_later : (A B : Answers) (n o : Node) (ws vs : List Want) (ls ks : Parts) → Follows n o → AllKept A B (map Asks ws) (lines_in (made o vs ks)) → AllKept A B (lines_below ls) (lines_below ks) → (fulfilled n.phase ≡ true → made o vs ks ≡ made n ws ls) → Later A B (made n ws ls) (made o vs ks)
made_later A B n o ws vs ls ks f w h e = record { done = e; top = λ t. same_top (e t); kept = ((o, inl refl, f), all_append A B (map Asks ws) (lines_below ls) (lines_in (made o vs ks)) w (all_right A B (lines_below ls) (Stands o ∷ map Asks vs) (lines_below ks) h)) }
