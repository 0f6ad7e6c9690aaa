-- A path is read back from its text.
use Rattle.std.proofs.Common.{◌≡◌, ℕ, ◌+◌, ◌-◌, ◌*◌, ◌/◌, ◌%◌, ◌^◌, ◌<◌, Bool, true, false, ◌==◌, ◌&&◌, cond, List, [], ◌∷◌, ◌++◌, length, map, codes, decimal, Option, Some, None, refl, ap, ◌∙◌, arith, append-nil}
use Rattle.std.specs.Prelude.{flat_map, nat_lt}
use Rattle.std.specs.Char.{is_ascii_digit}
use Rattle.std.specs.List.{AllByRecursion, slice_split}
use Rattle.std.proofs.lemmas.Bool.{and_from, ne_eqb, le-leb, lt-ltb}
use Rattle.std.proofs.lemmas.Fmt.{decimal_by_steps}
use Rattle.std.proofs.lemmas.List.Splits.{slice_split_none, slice_split_at}
use Rattle.std.proofs.lemmas.List.Elements.{All-from_recursion}
use Rattle.tree_types.specs.declared.path.Sel.{Sel}
use Rattle.tree_types.specs.declared.path.Sel.TheVariants.{Main, Exit, Group, Step, Task, Item, Attempt}
use Rattle.tree_types.specs.declared.path.Path.{Path}
use Rattle.history_text.specs.Lines.{sel_text, path_text}
use Rattle.history_text.specs.Readable.{FitsSel, FitsPath}
use Rattle.history_text.specs.Inside.Reading.{◌>>=◌, all_of, number_after, sel_by, sel_of, path_of}

-- ---- numbers

after_test : (b : Bool) (x y : Option ℕ) (ys : List ℕ) → y ≡ (x >>= λ m. number_after m ys) → cond b y None ≡ (cond b x None >>= λ m. number_after m ys)
after_test true x y ys e = e
after_test false x y ys e = refl

number_after-append : (n : ℕ) (xs ys : List ℕ) → number_after n (xs ++ ys) ≡ (number_after n xs >>= λ m. number_after m ys)
number_after-append n [] ys = refl
number_after-append n (c ∷ cs) ys =
    let next = 10 * n + (c - 48) in
    after_test (is_ascii_digit c && nat_lt next (2 ^ 32)) (number_after next cs) (number_after next (cs ++ ys)) ys (number_after-append next cs ys)

number_after-digit : (n d : ℕ) → d < 10 → 10 * n + d < 2 ^ 32 → number_after n ((48 + d) ∷ []) ≡ Some (10 * n + d)
number_after-digit n d small fits =
    let same : (48 + d) - 48 ≡ d = omega arith in
    let digit : is_ascii_digit (48 + d) ≡ true = and_from _ _ (le-leb 48 (48 + d) (omega arith)) (le-leb (48 + d) 57 (omega arith)) in
    rw (same, and_from _ _ digit (lt-ltb (10 * n + d) (2 ^ 32) fits))

number_back : (n : ℕ) → n < 2 ^ 64 → n < 2 ^ 32 → number_after 0 (decimal n) ≡ Some n
number_back =
    decimal_by_steps (λ n ds. n < 2 ^ 32 → number_after 0 ds ≡ Some n)
    (λ n h fits. number_after-digit 0 n h (omega arith) ∙ ap Some (omega arith))
    (λ n ds h front fits.
    number_after-append 0 ds ((48 + n % 10) ∷ [])
    ∙ ap (λ o. o >>= λ m. number_after m ((48 + n % 10) ∷ [])) (front (omega arith))
    ∙ number_after-digit (n / 10) (n % 10) (omega arith) (omega arith)
    ∙ ap Some (omega arith))

-- ---- selectors

numbered_back : (letter i : ℕ) (sel : Sel) → i < 2 ^ 32 → sel_by letter i ≡ Some sel → (number_after 0 (decimal i) >>= sel_by letter) ≡ Some sel
numbered_back letter i sel fits by = ap (λ o. o >>= sel_by letter) (number_back i (omega arith) fits) ∙ by

sel_back : (sel : Sel) → FitsSel sel → sel_of (sel_text sel) ≡ Some sel
sel_back Main h = refl
sel_back Exit h = refl
sel_back (Group i) h = numbered_back 103 i (Group i) h refl
sel_back (Step i) h = numbered_back 115 i (Step i) h refl
sel_back (Task i) h = numbered_back 116 i (Task i) h refl
sel_back (Item i) h = numbered_back 105 i (Item i) h refl
sel_back (Attempt k) h = numbered_back 97 k (Attempt k) h refl

pub all_back : {A B : Type 0} (f : B → Option A) (g : A → B) (P : A → Type 0) → ((x : A) → P x → f (g x) ≡ Some x) → (xs : List A) → AllByRecursion P xs → all_of f (map g xs) ≡ Some xs
all_back f g P back [] h = refl
all_back f g P back (x ∷ xs) h = rw (back x h.0, all_back f g P back xs h.1)

-- ---- the slashes between them

abbrev NoSlash : List ℕ → Type 0
NoSlash xs = AllByRecursion (λ b. (b == 47) ≡ false) xs

NoSlash-append : (xs ys : List ℕ) → NoSlash xs → NoSlash ys → NoSlash (xs ++ ys)
NoSlash-append [] ys p q = q
NoSlash-append (x ∷ xs) ys p q = (p.0, NoSlash-append xs ys p.1 q)

other : (x : ℕ) → (x ≡ 47 → ⊥) → NoSlash (x ∷ [])
other x h = (ne_eqb x 47 h, tt)

NoSlash-decimal : (n : ℕ) → n < 2 ^ 64 → NoSlash (decimal n)
NoSlash-decimal = decimal_by_steps (λ n ds. NoSlash ds) (λ n h. other (48 + n) (λ e. omega arith)) (λ n ds h p. NoSlash-append ds _ p (other (48 + n % 10) (λ e. omega arith)))

NoSlash-sel_text : (sel : Sel) → FitsSel sel → NoSlash (sel_text sel)
NoSlash-sel_text Main h = (refl, (refl, (refl, (refl, tt))))
NoSlash-sel_text Exit h = (refl, (refl, (refl, (refl, tt))))
NoSlash-sel_text (Group i) h = (refl, NoSlash-decimal i (omega arith))
NoSlash-sel_text (Step i) h = (refl, NoSlash-decimal i (omega arith))
NoSlash-sel_text (Task i) h = (refl, NoSlash-decimal i (omega arith))
NoSlash-sel_text (Item i) h = (refl, NoSlash-decimal i (omega arith))
NoSlash-sel_text (Attempt k) h = (refl, NoSlash-decimal k (omega arith))

abbrev further_text : List Sel → List ℕ
further_text sels = flat_map (λ sel. codes "/" ++ sel_text sel) sels

abbrev is_slash : ℕ → Bool
is_slash b = b == 47

split_further : (front : List ℕ) (sels : List Sel) → NoSlash front → AllByRecursion FitsSel sels → slice_split is_slash (front ++ further_text sels) ≡ front ∷ map sel_text sels
split_further front [] p h = ap (slice_split is_slash) (append-nil front) ∙ slice_split_none is_slash front (All-from_recursion _ front p)
split_further front (sel ∷ sels) p h =
    slice_split_at is_slash front 47 (sel_text sel ++ further_text sels) (All-from_recursion _ front p) refl
    ∙ ap (λ parts. front ∷ parts) (split_further (sel_text sel) sels (NoSlash-sel_text sel h.0) h.1)

begins : (sel : Sel) (rest : List ℕ) → (length (sel_text sel ++ rest) == 0) ≡ false
begins Main rest = ne_eqb (length (sel_text Main ++ rest)) 0 (λ e. omega arith)
begins Exit rest = ne_eqb (length (sel_text Exit ++ rest)) 0 (λ e. omega arith)
begins (Group i) rest = ne_eqb (length (sel_text (Group i) ++ rest)) 0 (λ e. omega arith)
begins (Step i) rest = ne_eqb (length (sel_text (Step i) ++ rest)) 0 (λ e. omega arith)
begins (Task i) rest = ne_eqb (length (sel_text (Task i) ++ rest)) 0 (λ e. omega arith)
begins (Item i) rest = ne_eqb (length (sel_text (Item i) ++ rest)) 0 (λ e. omega arith)
begins (Attempt k) rest = ne_eqb (length (sel_text (Attempt k) ++ rest)) 0 (λ e. omega arith)

abbrev as_path : List Sel → Option Path
as_path sels = Some (record { sels = sels })

sels_back : (sels : List Sel) → AllByRecursion FitsSel sels → path_of (path_text sels) ≡ Some (record { sels = sels })
sels_back [] h = refl
sels_back (sel ∷ sels) h =
    let parts = split_further (sel_text sel) sels (NoSlash-sel_text sel h.0) h.1 in
    ap (λ b. cond b (as_path []) (all_of sel_of (slice_split is_slash (path_text (sel ∷ sels))) >>= as_path)) (begins sel (further_text sels))
    ∙ ap (λ l. all_of sel_of l >>= as_path) parts
    ∙ ap (λ o. o >>= as_path) (all_back sel_of sel_text FitsSel sel_back (sel ∷ sels) h)

pub path_back : (path : Path) → FitsPath path → path_of (path_text path.sels) ≡ Some path
path_back path h = sels_back path.sels h
