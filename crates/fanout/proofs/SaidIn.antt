-- The substitution of the texts in a list or a map, value by value.
use Rattle.std.proofs.Common.{◌≡◌, ℕ, suc, ◌+◌, ◌<◌, List, [], ◌∷◌, ◌++◌, length, get_or, take, drop, map, refl, sym, ap, ◌∙◌, subst, add-one, Ok, Err, String, Vec, BTreeMap, Global, append-nil, string_bytes, nat_cmp, Less, Greater}
use Rattle.std.proofs.lemmas.Cmp.{nat_list_cmp_total}
use Rattle.std.proofs.lemmas.List.{take-append-drop}
use Rattle.std.proofs.Math.Seq.{drop-cons, take-suc}
use Rattle.std.specs.Cmp.Lexicographic.{slice_cmp}
use Rattle.std.specs.List.{AllByRecursion}
use Rattle.std.specs.List.Sorted.{IsStrictlySortedBy}
use Rattle.std.specs.Map.{keys_of}
use Rattle.std.specs.String.{string_cmp}
use Rattle.std.specs.Ordering.{ordering_reverse}
use Rattle.serde_json.specs.Data.{Data, Items, no_items, item, Members, no_members, member, put}
use Rattle.serde_json.specs.View.{view, items_of, items_view, members_view}
use Rattle.serde_json.specs.declared.value.Value.{Value}
use Rattle.serde_json.proofs.Views.{Entry}
use Rattle.scopes.specs.Substitution.{Found, ◌>>=◌, Scope, said}
use Rattle.tag_text.specs.Parts.{as_it_stands}
use Rattle.fanout.specs.Faults.{Tells}
use Rattle.fanout.specs.declared.refused.FanRefused.{FanRefused}
use Rattle.fanout.proofs.Tells.{passes}
use Rattle.fanout.specs.Items.{said_in, said_in_items, said_in_members}

-- ---- lists

abbrev pub onto : Items → Items → Items
onto no_items ys = ys
onto (item d ds) ys = item d (onto ds ys)

after_one : (sx : Found Data) (sm : Found Items) (e : Data) (fs : Items) →
    ((sx >>= λ y. sm >>= λ ys. Ok (onto fs (item y ys))) >>= λ zs. Ok (item e zs)) ≡ (sx >>= λ y. sm >>= λ ys. Ok (onto (item e fs) (item y ys)))
after_one (Err n) sm e fs = refl
after_one (Ok y) (Err n) e fs = refl
after_one (Ok y) (Ok ys) e fs = refl

front_said : (a : Found Data) (b : Found Items) (es : Items) (r : Found Items) (sx : Found Data) (sm : Found Items) →
    (a >>= λ e. b >>= λ fs. Ok (item e fs)) ≡ Ok es →
    ((fs : Items) → b ≡ Ok fs → r ≡ (sx >>= λ y. sm >>= λ ys. Ok (onto fs (item y ys)))) →
    (a >>= λ e. r >>= λ zs. Ok (item e zs)) ≡ (sx >>= λ y. sm >>= λ ys. Ok (onto es (item y ys)))
front_said (Err n) b es r sx sm h ih = cc
front_said (Ok e) (Err n) es r sx sm h ih = cc
front_said (Ok e) (Ok fs) es r sx sm h ih =
    let same : item e fs ≡ es = cc in
    ap (λ x. x >>= λ zs. Ok (item e zs)) (ih fs refl) ∙ after_one sx sm e fs ∙ ap (λ z. sx >>= λ y. sm >>= λ ys. Ok (onto z (item y ys))) same

-- a list whose front is substituted is as its next value and the rest
said_in_items-append : (scope : Scope) (ds : List Data) (es : Items) (x : Data) (more : List Data) → said_in_items scope (items_of ds) ≡ Ok es →
    said_in_items scope (items_of (ds ++ x ∷ more)) ≡ (said_in scope x >>= λ y. said_in_items scope (items_of more) >>= λ ys. Ok (onto es (item y ys)))
said_in_items-append scope [] es x more h =
    let same : no_items ≡ es = cc in
    ap (λ z. said_in scope x >>= λ y. said_in_items scope (items_of more) >>= λ ys. Ok (onto z (item y ys))) same
said_in_items-append scope (d ∷ ds) es x more h =
    front_said (said_in scope d) (said_in_items scope (items_of ds)) es (said_in_items scope (items_of (ds ++ x ∷ more))) (said_in scope x) (said_in_items scope (items_of more)) h
    (λ fs e. said_in_items-append scope ds fs x more e)

map-append : (vs ws : List Value) → map view (vs ++ ws) ≡ map view vs ++ map view ws
map-append [] ws = refl
map-append (v ∷ vs) ws = ap (λ x. view v ∷ x) (map-append vs ws)

onto-push : (ds : List Data) (y : Data) → onto (items_of ds) (item y no_items) ≡ items_of (ds ++ y ∷ [])
onto-push [] y = refl
onto-push (d ∷ ds) y = ap (λ x. item d x) (onto-push ds y)

split_at : (vs : List Value) (i : ℕ) (x : Value) → i < length vs → x ≡ get_or vs i x → vs ≡ take i vs ++ x ∷ drop (i + 1) vs
split_at vs i x at is =
    sym (take-append-drop i vs) ∙ ap (λ l. take i vs ++ l) (drop-cons vs i x at ∙ ap (λ y. y ∷ drop (suc i) vs) (sym is) ∙ ap (λ n. x ∷ drop n vs) (sym (add-one i)))

-- a value after those that are substituted
pub values_at : (scope : Scope) (vs : List Value) (i : ℕ) (x : Value) (es : Items) → i < length vs → x ≡ get_or vs i x → said_in_items scope (items_view (take i vs)) ≡ Ok es →
    said_in_items scope (items_view vs) ≡ (said_in scope (view x) >>= λ y. said_in_items scope (items_view (drop (i + 1) vs)) >>= λ ys. Ok (onto es (item y ys)))
values_at scope vs i x es at is done =
    ap (λ l. said_in_items scope (items_view l)) (split_at vs i x at is)
    ∙ ap (λ l. said_in_items scope (items_of l)) (map-append (take i vs) (x ∷ drop (i + 1) vs))
    ∙ said_in_items-append scope (map view (take i vs)) es (view x) (map view (drop (i + 1) vs)) done

-- one more value is substituted
pub values_next : (scope : Scope) (vs ws : List Value) (i : ℕ) (x w : Value) → i < length vs → x ≡ get_or vs i x →
    said_in_items scope (items_view (take i vs)) ≡ Ok (items_view ws) → said_in scope (view x) ≡ Ok (view w) →
    said_in_items scope (items_view (take (i + 1) vs)) ≡ Ok (items_view (ws ++ w ∷ []))
values_next scope vs ws i x w at is done here =
    let taken : take (i + 1) vs ≡ take i vs ++ x ∷ [] = ap (λ n. take n vs) (add-one i) ∙ take-suc vs i x at ∙ ap (λ y. take i vs ++ y ∷ []) (sym is) in
    ap (λ l. said_in_items scope (items_view l)) taken
    ∙ ap (λ l. said_in_items scope (items_of l)) (map-append (take i vs) (x ∷ []))
    ∙ said_in_items-append scope (map view (take i vs)) (items_view ws) (view x) [] done
    ∙ ap (λ r. r >>= λ y. Ok (onto (items_view ws) (item y no_items))) here
    ∙ ap Ok (onto-push (map view ws) (view w) ∙ ap items_of (sym (map-append ws (w ∷ []))))

-- the first fault of a list
pub values_fault : (scope : Scope) (vs : List Value) (i : ℕ) (x : Value) (es : Items) (fault : FanRefused) → i < length vs → x ≡ get_or vs i x → said_in_items scope (items_view (take i vs)) ≡ Ok es →
    Tells view (Err fault) (said_in scope (view x)) → Tells (λ (w : Vec Value Global). items_view w.items) (Err fault) (said_in_items scope (items_view vs))
values_fault scope vs i x es fault at is done told =
    subst (λ m. Tells (λ (w : Vec Value Global). items_view w.items) (Err fault) m) (sym (values_at scope vs i x es at is done))
    (passes view (λ (w : Vec Value Global). items_view w.items) fault (said_in scope (view x)) (λ y. said_in_items scope (items_view (drop (i + 1) vs)) >>= λ ys. Ok (onto es (item y ys))) told)

-- ---- maps

abbrev pub joined : Members → Members → Members
joined no_members ys = ys
joined (member k d ds) ys = member k d (joined ds ys)

member_after : (sx : Found Data) (sm : Found Members) (k l : List ℕ) (e : Data) (fs : Members) →
    ((sx >>= λ y. sm >>= λ ys. Ok (joined fs (member l y ys))) >>= λ zs. Ok (member k e zs)) ≡ (sx >>= λ y. sm >>= λ ys. Ok (joined (member k e fs) (member l y ys)))
member_after (Err n) sm k l e fs = refl
member_after (Ok y) (Err n) k l e fs = refl
member_after (Ok y) (Ok ys) k l e fs = refl

member_said : (a : Found Data) (b : Found Members) (k l : List ℕ) (es : Members) (r : Found Members) (sx : Found Data) (sm : Found Members) →
    (a >>= λ e. b >>= λ fs. Ok (member k e fs)) ≡ Ok es →
    ((fs : Members) → b ≡ Ok fs → r ≡ (sx >>= λ y. sm >>= λ ys. Ok (joined fs (member l y ys)))) →
    (a >>= λ e. r >>= λ zs. Ok (member k e zs)) ≡ (sx >>= λ y. sm >>= λ ys. Ok (joined es (member l y ys)))
member_said (Err n) b k l es r sx sm h ih = cc
member_said (Ok e) (Err n) k l es r sx sm h ih = cc
member_said (Ok e) (Ok fs) k l es r sx sm h ih =
    let same : member k e fs ≡ es = cc in
    ap (λ x. x >>= λ zs. Ok (member k e zs)) (ih fs refl) ∙ member_after sx sm k l e fs ∙ ap (λ z. sx >>= λ y. sm >>= λ ys. Ok (joined z (member l y ys))) same

-- a member after those that are substituted
pub members_at : (scope : Scope) (done : List Entry) (es : Members) (x : Entry) (more : List Entry) → said_in_members scope (members_view done) ≡ Ok es →
    said_in_members scope (members_view (done ++ x ∷ more))
    ≡ (said_in scope (view x.1) >>= λ y. said_in_members scope (members_view more) >>= λ ys. Ok (joined es (member (string_bytes x.0) y ys)))
members_at scope [] es x more h =
    let same : no_members ≡ es = cc in
    ap (λ z. said_in scope (view x.1) >>= λ y. said_in_members scope (members_view more) >>= λ ys. Ok (joined z (member (string_bytes x.0) y ys))) same
members_at scope (d ∷ done) es x more h =
    member_said (said_in scope (view d.1)) (said_in_members scope (members_view done)) (string_bytes d.0) (string_bytes x.0) es (said_in_members scope (members_view (done ++ x ∷ more))) (said_in scope (view x.1)) (said_in_members scope (members_view more)) h
    (λ fs e. members_at scope done fs x more e)

below_middle : (first : Entry) (done : List Entry) (x : Entry) (more : List Entry) → AllByRecursion (λ y. string_cmp first.0 y ≡ Less) (keys_of (done ++ x ∷ more)) → string_cmp first.0 x.0 ≡ Less
below_middle first [] x more h = h.0
below_middle first (d ∷ done) x more h = below_middle first done x more h.1

put_front : (a : Found Data) (b : Found Members) (k l : List ℕ) (es : Members) (d : Data) → slice_cmp nat_cmp l k ≡ Greater →
    (a >>= λ e. b >>= λ fs. Ok (member k e fs)) ≡ Ok es → ((fs : Members) → b ≡ Ok fs → put l d fs ≡ joined fs (member l d no_members)) → put l d es ≡ joined es (member l d no_members)
put_front (Err n) b k l es d above h ih = cc
put_front (Ok e) (Err n) k l es d above h ih = cc
put_front (Ok e) (Ok fs) k l es d above h ih =
    let same : member k e fs ≡ es = cc in
    subst (λ z. put l d z ≡ joined z (member l d no_members)) same (rw above (ap (λ z. member k e z) (ih fs refl)))

-- the next key is above those before it, so its value goes last
pub members_put : (scope : Scope) (done : List Entry) (es : Members) (x : Entry) (more : List Entry) (d : Data) → IsStrictlySortedBy string_cmp (keys_of (done ++ x ∷ more)) →
    said_in_members scope (members_view done) ≡ Ok es → put (string_bytes x.0) d es ≡ joined es (member (string_bytes x.0) d no_members)
unfolding IsStrictlySortedBy
members_put scope [] es x more d sorted h = let same : no_members ≡ es = cc in subst (λ z. put (string_bytes x.0) d z ≡ joined z (member (string_bytes x.0) d no_members)) same refl
members_put scope (first ∷ done) es x more d sorted h =
    let above : slice_cmp nat_cmp (string_bytes x.0) (string_bytes first.0) ≡ Greater =
    nat_list_cmp_total.antisymm (string_bytes x.0) (string_bytes first.0) ∙ ap ordering_reverse (below_middle first done x more sorted.0) in
    put_front (said_in scope (view first.1)) (said_in_members scope (members_view done)) (string_bytes first.0) (string_bytes x.0) es d above h
    (λ fs e. members_put scope done fs x more d sorted.1 e)

-- one more member is substituted
pub members_next : (scope : Scope) (done : List Entry) (es new : Members) (x : Entry) (more : List Entry) (d : Data) → IsStrictlySortedBy string_cmp (keys_of (done ++ x ∷ more)) →
    said_in_members scope (members_view done) ≡ Ok es → said_in scope (view x.1) ≡ Ok d → new ≡ put (string_bytes x.0) d es →
    said_in_members scope (members_view (done ++ x ∷ [])) ≡ Ok new
members_next scope done es new x more d sorted done_said here is =
    members_at scope done es x [] done_said
    ∙ ap (λ r. r >>= λ y. Ok (joined es (member (string_bytes x.0) y no_members))) here
    ∙ ap Ok (sym (is ∙ members_put scope done es x more d sorted done_said))

-- the first fault of a map
pub members_fault : (scope : Scope) (done : List Entry) (es : Members) (x : Entry) (more : List Entry) (fault : FanRefused) → said_in_members scope (members_view done) ≡ Ok es →
    Tells view (Err fault) (said_in scope (view x.1)) → Tells (λ (w : BTreeMap (String Global) Value). members_view w.entries) (Err fault) (said_in_members scope (members_view (done ++ x ∷ more)))
members_fault scope done es x more fault done_said told =
    subst (λ m. Tells (λ (w : BTreeMap (String Global) Value). members_view w.entries) (Err fault) m) (sym (members_at scope done es x more done_said))
    (passes view (λ (w : BTreeMap (String Global) Value). members_view w.entries) fault (said_in scope (view x.1)) (λ y. said_in_members scope (members_view more) >>= λ ys. Ok (joined es (member (string_bytes x.0) y ys))) told)

-- a text that is no text with tags
pub said-as_it_stands : (scope : Scope) (t : List ℕ) → said scope (as_it_stands t) ≡ Ok t
said-as_it_stands scope [] = refl
said-as_it_stands scope (b ∷ t) = ap (λ x. Ok (b ∷ x)) (append-nil t)
