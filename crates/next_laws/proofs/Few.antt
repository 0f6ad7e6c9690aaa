-- A tree asks for no more pods than it has nodes, so the calls that are left to a job are bounded.
use Rattle.std.proofs.Common.{◌≡◌, ◌⊎◌, inl, inr, ℕ, ◌+◌, ◌*◌, ◌≤◌, le_refl, Bool, true, false, cond, bytes_eq, List, [], ◌∷◌, length, filter_map, refl, sym, ◌∙◌, ap, Option, Some, None, is_some, arith}
use Rattle.std.specs.List.{list_any, sum_by, cons_option}
use Rattle.std.proofs.lemmas.List.Sums.{sum_by-cons}
use Rattle.tree_types.specs.declared.node.Node.{Node}
use Rattle.tree_types.specs.declared.want.Want.{Want}
use Rattle.tree_types.specs.declared.want.Want.TheVariants as want
use Rattle.tree_types.specs.declared.entry.Key.TheVariants as of_key
use Rattle.meaning.specs.Answers.{answers}
use Rattle.growth.specs.Growth.{Among}
use Rattle.askings.specs.Once.{NoneTwice}
use Rattle.askings.proofs.AsksOnce.{asks_once}
use Rattle.askings.proofs.HasNode.{has_node}
use Rattle.history.specs.History.{Version, version_at}
use Rattle.law.specs.Documents.{Text, Command, Resume, Resubmit}
use Rattle.law.specs.Contents.{Flow, Content, apply}
use Rattle.law.specs.Justified.{tree_of, wants_of}
use Rattle.law.specs.Due.{node_name}
use Rattle.next_step.specs.Views.{Look, Views, look_at}
use Rattle.next_laws.specs.Sizes.{if_unseen, pod_name, pod_names, pod_calls, calls_for_pod, calls_for_command, CallsAreBounded}

-- a list without one of its members
record Without (n : Node) (ns : List Node) : Type 0 where
  others : List Node
  count : length ns ≡ length others + 1
  split : (k : Node) → Among k ns → (n ≡ k) ⊎ Among k others

without : (n : Node) (ns : List Node) → Among n ns → Without n ns
without n [] i = absurd i
without n (m ∷ ns) (inl e) = record { others = ns; count = omega arith; split = λ k i. first k i }
  where
    first : (k : Node) → (m ≡ k) ⊎ Among k ns → (n ≡ k) ⊎ Among k ns
    first k (inl q) = inl (sym e ∙ q)
    first k (inr j) = inr j
without n (m ∷ ns) (inr i) = let w = without n ns i in record { others = m ∷ w.others; count = (let c = w.count in omega (arith, c)); split = λ k j. first w k j }
  where
    rest : (k : Node) (os : List Node) → (n ≡ k) ⊎ Among k os → (n ≡ k) ⊎ Among k (m ∷ os)
    rest k os (inl e) = inl e
    rest k os (inr j) = inr (inr j)

    first : (w : Without n ns) (k : Node) → (m ≡ k) ⊎ Among k ns → (n ≡ k) ⊎ Among k (m ∷ w.others)
    first w k (inl e) = inr (inl e)
    first w k (inr j) = rest k w.others (w.split k j)

-- ---- the pods that are asked for have nodes of their own

abbrev IsAsked : Want → List Node → Type 0
IsAsked (want.Pod p) ns = (n : Node) × Among n ns × (n.path ≡ p)
IsAsked _ ns = Unit {0}

abbrev AllAsked : List Want → List Node → Type 0
AllAsked ws ns = (a : Want) → Among a ws → IsAsked a ns

module _ (f : Flow) where
  -- whatever the list of wants, no two of which are alike, each pod among which has a node in the other list
  names_fit : (ws : List Want) (ns : List Node) → NoneTwice ws → AllAsked ws ns → length (filter_map (pod_name f) ws) ≤ length ns
  names_fit [] ns d h = omega arith
  names_fit (want.Pod p ∷ ws) ns d h = by (h (want.Pod p) (inl refl)) (λ others a. names_fit ws others d.1 a)
    where
      apart : (k : (n : Node) × Among n ns × (n.path ≡ p)) (w : Without k.0 ns) (a : Want) → Among a ws → IsAsked a ns → IsAsked a w.others
      apart k w (want.Pod q) i m = at (w.split m.0 m.1)
        where
          at : (k.0 ≡ m.0) ⊎ Among m.0 w.others → IsAsked (want.Pod q) w.others
          at (inl e) = absurd (d.0 (want.Pod q) i (sym k.2 ∙ ap (λ (n : Node). n.path) e ∙ m.2))
          at (inr j) = (m.0, j, m.2)
      apart k w (want.Lock q l) i m = tt
      apart k w (want.LookUp q c e g) i m = tt
      apart k w (want.Arming q) i m = tt
      apart k w (want.Timer q t) i m = tt
      apart k w (want.Save q c e o) i m = tt

      named : (o : Option Text) (n : ℕ) → length (filter_map (pod_name f) ws) ≤ n → length (cons_option o (filter_map (pod_name f) ws)) ≤ n + 1
      named None n e = omega (arith, e)
      named (Some name) n e = omega (arith, e)

      by : (n : Node) × Among n ns × (n.path ≡ p) → ((others : List Node) → AllAsked ws others → length (filter_map (pod_name f) ws) ≤ length others) → length (cons_option (node_name f p.sels) (filter_map (pod_name f) ws)) ≤ length ns
      by k ih =
          let w = without k.0 ns k.1 in
          let e = ih w.others (λ a i. apart k w a i (h a (inr i))) in
          let c = w.count in
          let r = named (node_name f p.sels) (length w.others) e in
          omega (arith, c, r)
  names_fit (want.Lock p l ∷ ws) ns d h = names_fit ws ns d.1 (λ a i. h a (inr i))
  names_fit (want.LookUp p c e g ∷ ws) ns d h = names_fit ws ns d.1 (λ a i. h a (inr i))
  names_fit (want.Arming p ∷ ws) ns d h = names_fit ws ns d.1 (λ a i. h a (inr i))
  names_fit (want.Timer p t ∷ ws) ns d h = names_fit ws ns d.1 (λ a i. h a (inr i))
  names_fit (want.Save p c e o ∷ ws) ns d h = names_fit ws ns d.1 (λ a i. h a (inr i))

  asked_all : AllAsked (wants_of f) (tree_of f)
  asked_all (want.Pod p) i = let n = has_node f.manifest (answers f.journal) (want.Pod p) i in (n.0, n.1, n.2.0)
  asked_all (want.Lock p l) i = tt
  asked_all (want.LookUp p c e g) i = tt
  asked_all (want.Arming p) i = tt
  asked_all (want.Timer p t) i = tt
  asked_all (want.Save p c e o) i = tt

  -- no more pods are asked for than there are nodes
  few_names : length (pod_names f) ≤ length (tree_of f)
  few_names = names_fit (wants_of f) (tree_of f) (asks_once f.manifest (answers f.journal)) asked_all

-- ---- the calls

sum_most : {A : Type 0} (f : A → ℕ) (k : ℕ) (xs : List A) → ((x : A) → f x ≤ k) → sum_by f xs ≤ k * length xs
sum_most f k [] each = omega arith
sum_most f k (x ∷ xs) each =
    let a = each x in
    let b = sum_most f k xs each in
    let c = sum_by-cons f x xs in
    grind (arith, a, b, c)

pod_most : (o : Option (Version Content)) (l : Option Look) → pod_calls o l ≤ 2
pod_most o None = omega arith
pod_most None (Some l) = omega arith
pod_most (Some x) (Some l) = by (is_some l.found)
  where
    by : (b : Bool) → cond b 0 2 ≤ 2
    by true = omega arith
    by false = le_refl 2

command_most : (v : Views) (c : Command) → calls_for_command v c ≤ 1
command_most v (Resume c) = omega arith
command_most v (Resubmit c) = by (list_any (bytes_eq c.name) v.tried)
  where
    by : (b : Bool) → cond b 0 1 ≤ 1
    by true = omega arith
    by false = le_refl 1

unseen_most : {A : Type 0} (o : Option A) → if_unseen o ≤ 1
unseen_most None = le_refl 1
unseen_most (Some x) = omega arith

pub calls_are_bounded : CallsAreBounded
calls_are_bounded D h w v f =
    let a = few_names f in
    let b = sum_most (calls_for_pod h w v) 2 (pod_names f) (λ name. pod_most (version_at apply h (of_key.Pod w name)) (look_at v name)) in
    let c = sum_most (calls_for_command v) 1 D.commands (command_most v) in
    let d = unseen_most v.book in
    let e = unseen_most v.saves in
    omega (arith, a, b, c, d, e)
