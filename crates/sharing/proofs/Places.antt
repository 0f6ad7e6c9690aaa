-- A position of a list in chunks of 64, as code finds it.
use Rattle.std.proofs.Common.{◌≡◌, ℕ, zero, suc, ◌+◌, ◌-◌, ◌*◌, ◌/◌, ◌%◌, ◌<◌, ◌≤◌, List, [], ◌∷◌, ◌++◌, length, get_or, set, take, replicate, sym, ◌∙◌, ap, arith, length-append, length-take}
use Rattle.std.specs.Prelude.{Option, None, slice_get}
use Rattle.std.specs.Option.{unwrap_or}
use Rattle.std.proofs.lemmas.List.{append-nil, length-set, length-replicate}
use Rattle.std.proofs.lemmas.Option.{none-some, unwrap_or-slice_get}
use Rattle.sharing.specs.Inside.Chunks.{joined, items_of, EachLong, IsChunked, IsKept}
use Rattle.sharing.proofs.Chunked.{length-joined, joined-push, each-long-push, each-long-set, each-long-take, long-at, get_in_full, get_in_last, set_in_full, set_in_last, take_in_full, take_in_last}

module _ {X : Type 0} where
  pub none_past : (xs : List (List X)) (i : ℕ) → None ≡ slice_get xs i → length xs ≤ i
  none_past [] i e = omega arith
  none_past (x ∷ xs) zero e = absurd (none-some x e)
  none_past (x ∷ xs) (suc i) e = omega (arith, none_past xs i e)

  -- how many items stand before the last chunk
  pub before_last : (full : List (List X)) (last : List X) (len : ℕ) → IsKept full last len → len - length last ≡ length full * 64
  before_last full last len k = omega (arith, k.len_is, length-append (joined full) last, length-joined 64 full k.chunked.all_full)

  pub last_in_list : (full : List (List X)) (last : List X) (len : ℕ) → IsKept full last len → length last ≤ len
  last_in_list full last len k = omega (arith, k.len_is, length-append (joined full) last)

  -- ---- the chunk is full

  pub full_within : (full : List (List X)) (last : List X) (i : ℕ) → IsChunked full last → i / 64 < length full → i % 64 < length (get_or full (i / 64) [])
  full_within full last i k h = omega (arith, long-at 64 full (i / 64) k.all_full h)

  pub full_get : (full : List (List X)) (last : List X) (i : ℕ) → IsChunked full last → i / 64 < length full → slice_get (items_of full last) i ≡ slice_get (get_or full (i / 64) []) (i % 64)
  full_get full last i k h = get_in_full 64 full last (i / 64) (i % 64) i k.all_full h (omega arith) (omega arith)

  pub full_set : (full : List (List X)) (last : List X) (i : ℕ) (x : X) → IsChunked full last → i / 64 < length full → items_of (set full (i / 64) (set (get_or full (i / 64) []) (i % 64) x)) last ≡ set (items_of full last) i x
  full_set full last i x k h = set_in_full 64 full last (i / 64) (i % 64) i x k.all_full h (omega arith) (omega arith)

  pub full_set_chunked : (full : List (List X)) (last : List X) (i : ℕ) (x : X) → IsChunked full last → i / 64 < length full → IsChunked (set full (i / 64) (set (get_or full (i / 64) []) (i % 64) x)) last
  full_set_chunked full last i x k h = record {
    all_full = each-long-set 64 full (i / 64) (set (get_or full (i / 64) []) (i % 64) x) k.all_full (length-set (get_or full (i / 64) []) (i % 64) x ∙ long-at 64 full (i / 64) k.all_full h);
    last_fits = k.last_fits;
  }

  pub full_set_kept : (full : List (List X)) (last : List X) (i len : ℕ) (x : X) → IsKept full last len → i / 64 < length full → IsKept (set full (i / 64) (set (get_or full (i / 64) []) (i % 64) x)) last len
  full_set_kept full last i len x k h = record {
    chunked = full_set_chunked full last i x k.chunked h;
    len_is = k.len_is ∙ sym (ap length (full_set full last i x k.chunked h) ∙ length-set (items_of full last) i x);
  }

  pub full_take : (full : List (List X)) (last : List X) (i : ℕ) → IsChunked full last → i / 64 < length full → items_of (take (i / 64) full) (take (i % 64) (get_or full (i / 64) [])) ≡ take i (items_of full last)
  full_take full last i k h = take_in_full 64 full last (i / 64) (i % 64) i k.all_full h (omega arith) (omega arith)

  -- ---- the item is in the last chunk, which stands behind b items

  pub last_within : (full : List (List X)) (last : List X) (i b : ℕ) → IsChunked full last → b ≡ length full * 64 → b ≤ i → i < length (items_of full last) → i - b < length last
  last_within full last i b k e h w = omega (arith, length-append (joined full) last, length-joined 64 full k.all_full)

  pub last_get : (full : List (List X)) (last : List X) (i b : ℕ) → IsChunked full last → b ≡ length full * 64 → b ≤ i → slice_get (items_of full last) i ≡ slice_get last (i - b)
  last_get full last i b k e h =
      get_in_last 64 full last i k.all_full (omega arith) ∙ ap (λ (n : ℕ). slice_get last (i - n)) (sym e)

  pub last_set : (full : List (List X)) (last : List X) (i b : ℕ) (x : X) → IsChunked full last → b ≡ length full * 64 → b ≤ i → items_of full (set last (i - b) x) ≡ set (items_of full last) i x
  last_set full last i b x k e h =
      ap (λ (n : ℕ). items_of full (set last (i - n) x)) e ∙ set_in_last 64 full last i x k.all_full (omega arith)

  pub last_set_chunked : (full : List (List X)) (last : List X) (j : ℕ) (x : X) → IsChunked full last → IsChunked full (set last j x)
  last_set_chunked full last j x k = record { all_full = k.all_full; last_fits = omega (arith, length-set last j x, k.last_fits) }

  pub last_take : (full : List (List X)) (last : List X) (i b : ℕ) → IsChunked full last → b ≡ length full * 64 → b ≤ i → items_of full (take (i - b) last) ≡ take i (items_of full last)
  last_take full last i b k e h =
      ap (λ (n : ℕ). items_of full (take (i - n) last)) e ∙ take_in_last 64 full last i k.all_full (omega arith)

  -- ---- fewer items

  take_len : (full : List (List X)) (last xs : List X) (i len : ℕ) → IsKept full last len → i < len → xs ≡ take i (items_of full last) → i ≡ length xs
  take_len full last xs i len k h e = omega (arith, ap length e, length-take i (items_of full last), k.len_is)

  pub full_take_chunked : (full : List (List X)) (last : List X) (i : ℕ) → IsChunked full last → IsChunked (take (i / 64) full) (take (i % 64) (get_or full (i / 64) []))
  full_take_chunked full last i k = record {
    all_full = each-long-take 64 full (i / 64) k.all_full;
    last_fits = omega (arith, length-take (i % 64) (get_or full (i / 64) []));
  }

  pub full_take_kept : (full : List (List X)) (last : List X) (i len : ℕ) → IsKept full last len → i < len → i / 64 < length full → IsKept (take (i / 64) full) (take (i % 64) (get_or full (i / 64) [])) i
  full_take_kept full last i len k w h = record {
    chunked = full_take_chunked full last i k.chunked;
    len_is = take_len full last _ i len k w (full_take full last i k.chunked h);
  }

  pub last_take_chunked : (full : List (List X)) (last : List X) (j : ℕ) → IsChunked full last → IsChunked full (take j last)
  last_take_chunked full last j k = record { all_full = k.all_full; last_fits = omega (arith, k.last_fits, length-take j last) }

  pub last_take_kept : (full : List (List X)) (last : List X) (i len b : ℕ) → IsKept full last len → i < len → b ≡ length full * 64 → b ≤ i → IsKept full (take (i - b) last) i
  last_take_kept full last i len b k w e h = record {
    chunked = last_take_chunked full last (i - b) k.chunked;
    len_is = take_len full last _ i len k w (last_take full last i b k.chunked e h);
  }

  -- ---- one item more

  pub filled_up : (full : List (List X)) (last : List X) → IsChunked full last → 64 ≤ length last → IsChunked (full ++ last ∷ []) []
  filled_up full last k h = record {
    all_full = each-long-push 64 full last k.all_full (omega arith);
    last_fits = omega arith;
  }

  pub filled_same : (full : List (List X)) (last : List X) → items_of (full ++ last ∷ []) [] ≡ items_of full last
  filled_same full last = append-nil (joined (full ++ last ∷ [])) ∙ joined-push full last

  -- ---- one item many times

  each_long_replicate : (n q : ℕ) (c : List X) → length c ≡ n → EachLong n (replicate q c)
  each_long_replicate n zero c e = tt
  each_long_replicate n (suc q) c e = (e, each_long_replicate n q c e)

  times : (m n : ℕ) (x : X) → m ≡ n → replicate m x ≡ replicate n x
  times m n x e = ap (λ (k : ℕ). replicate k x) e

  replicate-add : (m n : ℕ) (x : X) → replicate m x ++ replicate n x ≡ replicate (m + n) x
  replicate-add zero n x = times n (0 + n) x (omega arith)
  replicate-add (suc m) n x = ap (λ (xs : List X). x ∷ xs) (replicate-add m n x) ∙ times (suc (m + n)) (suc m + n) x (omega arith)

  replicate-joined : (n q : ℕ) (x : X) → joined (replicate q (replicate n x)) ≡ replicate (q * n) x
  replicate-joined n zero x = times 0 (0 * n) x (omega arith)
  replicate-joined n (suc q) x = ap (λ (xs : List X). replicate n x ++ xs) (replicate-joined n q x) ∙ replicate-add n (q * n) x ∙ times (n + q * n) (suc q * n) x (omega arith)

  pub replicated : (i : ℕ) (x : X) → items_of (replicate (i / 64) (replicate 64 x)) (replicate (i % 64) x) ≡ replicate i x
  replicated i x =
      ap (λ (xs : List X). xs ++ replicate (i % 64) x) (replicate-joined 64 (i / 64) x) ∙ replicate-add (i / 64 * 64) (i % 64) x ∙ times (i / 64 * 64 + i % 64) i x (omega arith)

  pub replicated_chunked : (i : ℕ) (x : X) → IsChunked (replicate (i / 64) (replicate 64 x)) (replicate (i % 64) x)
  replicated_chunked i x = record {
    all_full = each_long_replicate 64 (i / 64) (replicate 64 x) (length-replicate 64 x);
    last_fits = omega (arith, length-replicate (i % 64) x);
  }

  pub replicated_kept : (i : ℕ) (x : X) → IsKept (replicate (i / 64) (replicate 64 x)) (replicate (i % 64) x) i
  replicated_kept i x = record {
    chunked = replicated_chunked i x;
    len_is = sym (ap length (replicated i x) ∙ length-replicate i x);
  }

-- ---- chunks in blocks

module _ {Y : Type 0} where
  got : (xs ys : List (List Y)) (i j : ℕ) → slice_get xs i ≡ slice_get ys j → get_or xs i [] ≡ get_or ys j []
  got xs ys i j e =
      sym (unwrap_or-slice_get xs i []) ∙ ap (λ (o : Option (List Y)). unwrap_or o []) e ∙ unwrap_or-slice_get ys j []

  pub full_chunk : (full : List (List (List Y))) (last : List (List Y)) (i : ℕ) → IsChunked full last → i / 64 < length full → get_or (items_of full last) i [] ≡ get_or (get_or full (i / 64) []) (i % 64) []
  full_chunk full last i k h = got (items_of full last) (get_or full (i / 64) []) i (i % 64) (full_get full last i k h)

  pub last_chunk : (full : List (List (List Y))) (last : List (List Y)) (i b : ℕ) → IsChunked full last → b ≡ length full * 64 → b ≤ i → get_or (items_of full last) i [] ≡ get_or last (i - b) []
  last_chunk full last i b k e h = got (items_of full last) last i (i - b) (last_get full last i b k e h)
