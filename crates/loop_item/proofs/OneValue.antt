-- Of a list one value says what it says among the others.
use Rattle.std.proofs.Common.{◌≡◌, ℕ, zero, suc, ◌<◌, ◌&&◌, Bool, true, List, [], ◌∷◌, length, get_or, Option, Some, IfSome, IsTrue, Ok, Err, refl, sym, ap, ◌∙◌, subst, cond}
use Rattle.std.specs.Prelude.{slice_get, nat_le}
use Rattle.std.specs.List.{list_all}
use Rattle.std.proofs.lemmas.Option.{slice_get_within, get_or_from_slice_get}
use Rattle.base_types.specs.Limits.{most_items}
use Rattle.tree_types.specs.declared.node.Note.TheVariants.{BadItem, TooManyItems}
use Rattle.serde_json.specs.Data.{Data, array, Items, no_items, item}
use Rattle.serde_json.specs.View.{view, items_view}
use Rattle.serde_json.specs.declared.value.Value.{Value}
use Rattle.wf_manifest.specs.declared.calls.Loop.TheVariants as each
use Rattle.scopes.specs.Substitution.{Found, ◌>>=◌, Scope}
use Rattle.loop_item.proofs.AtPlace.{holds_at}
use Rattle.loop_item.proofs.Found.{went_on, if_ok, same_ok}
use Rattle.fanout.specs.Items.{said_in, said_in_items, is_whole, list_of, few_items, items_of_data, items}

-- ---- texts

-- the value that says an item
record SaidAt (scope : Scope) (ds : Items) (i : ℕ) (x : Data) : Type 0 where
  value : Data
  at : slice_get (list_of ds) i ≡ Some value
  says : said_in scope value ≡ Ok x

said_here : (scope : Scope) (d : Data) (ds : Items) (e : Data) (rest : Items) (i : ℕ) (x : Data) → said_in scope d ≡ Ok e
    → ((j : ℕ) → slice_get (list_of rest) j ≡ Some x → SaidAt scope ds j x) → slice_get (e ∷ list_of rest) i ≡ Some x → SaidAt scope (item d ds) i x
said_here scope d ds e rest zero x one more at =
    let same : e ≡ x = cc in
    record { value = d; at = refl; says = one ∙ ap (λ (z : Data). Ok z) same }
said_here scope d ds e rest (suc i) x one more at = let there = more i at in record { value = there.value; at = there.at; says = there.says }

said_at : (scope : Scope) (ds es : Items) (i : ℕ) (x : Data) → said_in_items scope ds ≡ Ok es → slice_get (list_of es) i ≡ Some x → SaidAt scope ds i x
said_at scope no_items es i x said at =
    let none : no_items ≡ es = same_ok no_items es said in
    let nothing : slice_get (list_of no_items) i ≡ Some x = subst (λ (zs : Items). slice_get (list_of zs) i ≡ Some x) (sym none) at in
    absurd (cc)
said_at scope (item d ds) es i x said at =
    let first = went_on (said_in scope d) (λ e. said_in_items scope ds >>= λ rest. Ok (item e rest)) es said in
    let later = went_on (said_in_items scope ds) (λ rest. Ok (item first.0 rest)) es first.2 in
    let is : item first.0 later.0 ≡ es = same_ok (item first.0 later.0) es later.2 in
    let here : slice_get (first.0 ∷ list_of later.0) i ≡ Some x = subst (λ (zs : Items). slice_get (list_of zs) i ≡ Some x) (sym is) at in
    said_here scope d ds first.0 later.0 i x first.1 (λ j there. said_at scope ds later.0 j x later.1 there) here

-- ---- values

listed : (vs : List Value) (i : ℕ) (d : Data) → slice_get (list_of (items_view vs)) i ≡ Some d → (v : Value) × (slice_get vs i ≡ Some v) × (view v ≡ d)
listed [] i d at = absurd (cc)
listed (v ∷ vs) zero d at = (v, refl, cc)
listed (v ∷ vs) (suc i) d at = listed vs i d at

all_at : {A : Type 0} (test : A → Bool) (xs : List A) (i : ℕ) (x : A) → list_all test xs ≡ true → slice_get xs i ≡ Some x → test x ≡ true
all_at {A = A} test xs i x all at = subst (λ (o : Option A). IfSome o (λ y. IsTrue (test y))) at (holds_at test xs i (slice_get xs i) refl all)

-- a value alone
alone : (scope : Scope) (d x : Data) → said_in scope d ≡ Ok x → is_whole x ≡ true → items scope (each.Items (array (item d no_items))) ≡ Ok (x ∷ [])
alone scope d x says whole =
    ap (λ (f : Found Data). ((f >>= λ e. Ok (item e no_items)) >>= λ es. Ok (array es)) >>= items_of_data) says
    ∙ ap (λ b. cond (b && true) (few_items (x ∷ [])) (Err BadItem)) whole

-- the values of a list that says these items, and the item at a place
module _ (scope : Scope) (vs : List Value) (i : ℕ) (all : List Data) (x : Data) (meant : items scope (each.Items (array (items_view vs))) ≡ Ok all) (at : slice_get all i ≡ Some x) where
  abbrev SaidAll : Type 0
  SaidAll = (es : Items) × (said_in_items scope (items_view vs) ≡ Ok es) × (list_all is_whole (list_of es) ≡ true) × (list_of es ≡ all)

  said_all : SaidAll
  said_all =
      let read = went_on (said_in_items scope (items_view vs) >>= λ es. Ok (array es)) items_of_data all meant in
      let wrapped = went_on (said_in_items scope (items_view vs)) (λ es. Ok (array es)) read.0 read.1 in
      let is : array wrapped.0 ≡ read.0 = same_ok (array wrapped.0) read.0 wrapped.2 in
      let ds = list_of wrapped.0 in
      let whole = if_ok (list_all is_whole ds) (few_items ds) BadItem all (ap items_of_data is ∙ read.2) in
      let few = if_ok (nat_le (length ds) most_items) (Ok ds) TooManyItems all whole.1 in
      (wrapped.0, wrapped.1, whole.0, same_ok ds all few.1)

  there : slice_get (list_of said_all.0) i ≡ Some x
  there = ap (λ (ds : List Data). slice_get ds i) said_all.3 ∙ at

  said_there : SaidAt scope (items_view vs) i x
  said_there = said_at scope (items_view vs) said_all.0 i x said_all.1 there

  value_there : (v : Value) × (slice_get vs i ≡ Some v) × (view v ≡ said_there.value)
  value_there = listed vs i said_there.value said_there.at

  -- it stands in the list
  pub within : i < length vs
  within = slice_get_within vs i value_there.0 value_there.1

  -- and is said alone as among the others
  pub one_value : (v : Value) → v ≡ get_or vs i v → items scope (each.Items (array (item (view v) no_items))) ≡ Ok (x ∷ [])
  one_value v is =
      let read : v ≡ value_there.0 = is ∙ get_or_from_slice_get vs i value_there.0 v value_there.1 in
      ap (λ (d : Data). items scope (each.Items (array (item d no_items)))) (ap view read ∙ value_there.2)
      ∙ alone scope said_there.value x said_there.says (all_at is_whole (list_of said_all.0) i x said_all.2 there)
