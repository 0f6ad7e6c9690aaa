-- One more in each loop.
use Rattle.std.proofs.Common.{◌≡◌, ℕ, zero, suc, ◌+◌, ◌<◌, List, [], ◌∷◌, ◌++◌, length, get_or, take, replicate, fold, Option, Some, None, refl, sym, ap, ◌∙◌, append_assoc, add-one}
use Rattle.std.specs.Prelude.{slice_get}
use Rattle.std.specs.List.{cons_option}
use Rattle.std.specs.Option.{option_to_list}
use Rattle.std.proofs.lemmas.List.{map-append, take_more}
use Rattle.std.proofs.lemmas.List.Elements.{filter_map-append}
use Rattle.depends_expr.specs.Truth.{add_name, add_names}
use Rattle.wf_manifest.specs.declared.calls.Task.{Task}
use Rattle.task_order.specs.Ancestors.{names}
use Rattle.task_order.specs.Orders.{place, places}
use Rattle.task_order.specs.Inside.Graphs.{added}

add_names_more : (ns ms : List (List ℕ)) (m : List ℕ) → add_names ns (ms ++ m ∷ []) ≡ add_name (add_names ns ms) m
add_names_more ns [] m = refl
add_names_more ns (k ∷ ks) m = add_names_more (add_name ns k) ks m

pub table_more : (tasks : List Task) (i : ℕ) (t : Task) (old new : List (List ℕ)) (name : List ℕ) → i < length tasks → name ≡ (get_or tasks i t).call.name → old ≡ add_names [] (names (take i tasks)) → new ≡ add_name old name → new ≡ add_names [] (names (take (i + 1) tasks))
table_more tasks i t old new name below is so_far more =
    more
    ∙ ap (λ ns. add_name ns name) so_far
    ∙ ap (λ n. add_name (add_names [] (names (take i tasks))) n) is
    ∙ sym (add_names_more [] (names (take i tasks)) (get_or tasks i t).call.name)
    ∙ ap (λ ns. add_names [] ns) (sym (map-append (λ (x : Task). x.call.name) (take i tasks) (get_or tasks i t ∷ [])))
    ∙ ap (λ ts. add_names [] (names ts)) (sym (take_more tasks i t below))

fold_more : {A B : Type 0} (f : B → A → B) (b : B) (xs : List A) (x : A) → fold f b (xs ++ x ∷ []) ≡ f (fold f b xs) x
fold_more f b [] x = refl
fold_more f b (y ∷ ys) x = fold_more f (f b y) ys x

pub rows_more : (table : List (List ℕ)) (start old new : List (List ℕ)) (tasks : List Task) (i : ℕ) (t : Task) → i < length tasks → t ≡ get_or tasks i t → old ≡ fold (added table) start (take i tasks) → new ≡ added table old t → new ≡ fold (added table) start (take (i + 1) tasks)
rows_more table start old new tasks i t below at so_far more =
    more
    ∙ ap (λ ws. added table ws t) so_far
    ∙ ap (λ (x : Task). added table (fold (added table) start (take i tasks)) x) at
    ∙ sym (fold_more (added table) start (take i tasks) (get_or tasks i t))
    ∙ ap (λ ts. fold (added table) start ts) (sym (take_more tasks i t below))

pub replicate_more : {A : Type 0} (n : ℕ) (x : A) (old new : List A) → old ≡ replicate n x → new ≡ old ++ x ∷ [] → new ≡ replicate (n + 1) x
replicate_more n x old new so_far more = more ∙ ap (λ xs. xs ++ x ∷ []) so_far ∙ push n ∙ ap (λ k. replicate k x) (sym (add-one n))
  where
    push : (n : ℕ) → replicate n x ++ x ∷ [] ≡ replicate (suc n) x
    push zero = refl
    push (suc n) = ap (λ xs. x ∷ xs) (push n)

got_more : {A : Type 0} (xs : List A) (i : ℕ) (x : A) → slice_get xs i ≡ Some x → take (suc i) xs ≡ take i xs ++ x ∷ []
got_more [] i x e = absurd (cc)
got_more (y ∷ ys) zero x e = let h : Some y ≡ Some x = e in let same : y ≡ x = cc in ap (λ z. z ∷ []) same
got_more (y ∷ ys) (suc i) x e = ap (λ zs. y ∷ zs) (got_more ys i x e)

one_place : (table : List (List ℕ)) (n : List ℕ) → places table (n ∷ []) ≡ option_to_list (place table n)
one_place table n = split (place table n)
  where
    split : (o : Option ℕ) → cons_option o [] ≡ option_to_list o
    split None = refl
    split (Some p) = refl

-- the places of a name more
pub named_more : (table ns : List (List ℕ)) (start old new : List ℕ) (i : ℕ) (n : List ℕ) (o : Option ℕ) → slice_get ns i ≡ Some n → o ≡ place table n → old ≡ start ++ places table (take i ns) → new ≡ old ++ option_to_list o → new ≡ start ++ places table (take (i + 1) ns)
named_more table ns start old new i n o at is so_far more =
    more
    ∙ ap (λ xs. xs ++ option_to_list o) so_far
    ∙ append_assoc start (places table (take i ns)) (option_to_list o)
    ∙ ap (λ xs. start ++ (places table (take i ns) ++ xs)) (ap option_to_list is ∙ sym (one_place table n))
    ∙ ap (λ xs. start ++ xs) (sym (filter_map-append (place table) (take i ns) (n ∷ [])))
    ∙ ap (λ xs. start ++ places table xs) (sym (got_more ns i n at))
    ∙ ap (λ k. start ++ places table (take k ns)) (sym (add-one i))

pub place_more : (table ns : List (List ℕ)) (start old new : List ℕ) (i : ℕ) (n m : List ℕ) (o : Option ℕ) → i < length ns → n ≡ get_or ns i n → m ≡ n → o ≡ place table m → old ≡ start ++ places table (take i ns) → new ≡ old ++ option_to_list o → new ≡ start ++ places table (take (i + 1) ns)
place_more table ns start old new i n m o below at same is so_far more =
    more
    ∙ ap (λ xs. xs ++ option_to_list o) so_far
    ∙ append_assoc start (places table (take i ns)) (option_to_list o)
    ∙ ap (λ xs. start ++ (places table (take i ns) ++ xs)) (ap option_to_list (is ∙ ap (place table) (same ∙ at)) ∙ sym (one_place table (get_or ns i n)))
    ∙ ap (λ xs. start ++ xs) (sym (filter_map-append (place table) (take i ns) (get_or ns i n ∷ [])))
    ∙ ap (λ xs. start ++ places table xs) (sym (take_more ns i n below))
