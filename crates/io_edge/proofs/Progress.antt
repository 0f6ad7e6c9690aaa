-- How far a transfer has come.
use Rattle.std.proofs.Common.{◌≡◌, ℕ, ◌+◌, ◌<◌, ◌≤◌, List, [], ◌++◌, length, take, drop, refl, sym, ◌∙◌, ap, subst, arith, length-append, take-append-drop, ◌-◌, length-drop, min, Result, Err, length-take-le}
use Rattle.std.proofs.lemmas.List.{append-nil, append_assoc, take_at, take_all, drop_all, drop-drop}
use Rattle.std.proofs.KnownBytes.{Appends-nil, Appends-trans, Appends-kept, Consumes-nil, Consumes-trans}
use Rattle.std.specs.Io.KnownBytes.{Appends, Consumes, Keeps}
use Rattle.std.specs.declared.option.Option.{Option}
use Rattle.io_edge.specs.Transfer.{StoppedAt, Took}

-- of `bytes` the sink has taken `front`, and `rest` is to come
pub record Wrote (old new : Option (List ℕ)) (before now : ℕ) (bytes rest : List ℕ) : Type 0 where
  pub front : List ℕ
  pub split : bytes ≡ front ++ rest
  pub added : Appends old new front
  pub same : now ≡ before

pub nothing_wrote : (old : Option (List ℕ)) (before : ℕ) (bytes : List ℕ) → Wrote old old before before bytes bytes
nothing_wrote old before bytes = record { front = []; split = refl; added = Appends-nil old; same = refl }

pub wrote_more : (old mid new : Option (List ℕ)) (before between now : ℕ) (bytes rest : List ℕ) (n : ℕ) → Wrote old mid before between bytes rest → Appends mid new (take n rest) → now ≡ between → Wrote old new before now bytes (drop n rest)
wrote_more old mid new before between now bytes rest n wrote more same = record {
  front = wrote.front ++ take n rest;
  split = wrote.split ∙ ap (λ (l : List ℕ). wrote.front ++ l) (sym (take-append-drop n rest)) ∙ sym (append_assoc wrote.front (take n rest) (drop n rest));
  added = Appends-trans old mid new wrote.front (take n rest) wrote.added more;
  same = same ∙ wrote.same;
}

pub wrote_all : (old new : Option (List ℕ)) (before now : ℕ) (bytes : List ℕ) → Wrote old new before now bytes [] → Appends old new bytes
wrote_all old new before now bytes wrote = subst (λ (l : List ℕ). Appends old new l) (sym (wrote.split ∙ append-nil wrote.front)) wrote.added

pub stopped : (old mid new : Option (List ℕ)) (before now : ℕ) (bytes rest : List ℕ) → Wrote old mid before now bytes rest → 0 < length rest → Keeps mid new → (n : ℕ) × StoppedAt old new bytes n
stopped old mid new before now bytes rest wrote some kept =
    let front_is : take (length wrote.front) bytes ≡ wrote.front = ap (λ (l : List ℕ). take (length wrote.front) l) wrote.split ∙ take_at wrote.front rest (length wrote.front) refl in (
      length wrote.front,
      record {
        short = omega (arith, ap length wrote.split, length-append wrote.front rest, some);
        start = subst (λ (l : List ℕ). Appends old new l) (sym front_is) (Appends-kept old mid new wrote.front wrote.added kept);
      },
    )

-- the same, as a slice of the rest is seen
pub wrote_to : (old mid new : Option (List ℕ)) (before between now : ℕ) (bytes rest : List ℕ) (n : ℕ) → Wrote old mid before between bytes rest → Appends mid new (take n rest) → now ≡ between → Wrote old new before now bytes (take (length rest - n) (drop n rest))
wrote_to old mid new before between now bytes rest n wrote more same =
    subst (λ (l : List ℕ). Wrote old new before now bytes l) (sym (take_all (length rest - n) (drop n rest) (omega (arith, length-drop n rest)))) (wrote_more old mid new before between now bytes rest n wrote more same)

-- of the source `bytes` have been read
pub record Read (old new : Option (List ℕ)) (before now most : ℕ) (bytes : List ℕ) : Type 0 where
  pub consumed : Consumes old new bytes
  pub same : now ≡ before
  pub fits : length bytes ≤ most

pub nothing_read : (old : Option (List ℕ)) (before most : ℕ) → Read old old before before most []
nothing_read old before most = record { consumed = Consumes-nil old; same = refl; fits = omega arith }

pub read_more : (old mid new : Option (List ℕ)) (before between now most : ℕ) (bytes more : List ℕ) → Read old mid before between most bytes → Consumes mid new more → now ≡ between → length more ≤ most - length bytes → Read old new before now most (bytes ++ more)
read_more old mid new before between now most bytes more read next same fits = record {
  consumed = Consumes-trans old mid new bytes more read.consumed next;
  same = same ∙ read.same;
  fits = omega (arith, length-append bytes more, read.fits, fits);
}

-- one byte more than are allowed was read
pub too_long : {E : Type 0} (old mid new : Option (List ℕ)) (before between most : ℕ) (bytes piece : List ℕ) (n : ℕ) (refusal : E) → Read old mid before between most bytes → Consumes mid new (take n piece) → n ≤ length piece → length piece ≤ most - length bytes + 1 → most - length bytes < n → (all : List ℕ) × Took old new most refusal (let r : Result (List ℕ) E = Err refusal in r) all
too_long old mid new before between most bytes piece n refusal read next bound asked over =
    let all = bytes ++ take n piece in
    let long : length all ≡ most + 1 = omega (arith, length-append bytes (take n piece), length-take-le n piece bound, read.fits, bound, asked, over) in (
      all,
      record {
        consumed = Consumes-trans old mid new bytes (take n piece) read.consumed next;
        given = tt;
        bound = omega (arith, long);
        one_more = (λ _. long, λ _. refl);
      },
    )

-- another refusal, after `bytes` and some more were read
pub refused : {E : Type 0} (old mid new : Option (List ℕ)) (before between most : ℕ) (bytes more : List ℕ) (refusal other : E) → ((let r : Result (List ℕ) E = Err other in r) ≡ Err refusal → ⊥) → Read old mid before between most bytes → Consumes mid new more → length more ≤ most - length bytes → (all : List ℕ) × Took old new most refusal (let r : Result (List ℕ) E = Err other in r) all
refused old mid new before between most bytes more refusal other differ read next fits =
    let short : length (bytes ++ more) ≤ most = omega (arith, length-append bytes more, read.fits, fits) in (
      bytes ++ more,
      record {
        consumed = Consumes-trans old mid new bytes more read.consumed next;
        given = tt;
        bound = omega (arith, short);
        one_more = (λ is. absurd (differ is), λ is. absurd (omega (arith, short, is)));
      },
    )

-- what a read of a source in memory copies is the front of what it had left
pub gave_front : (bytes copied into : List ℕ) (at piece n : ℕ) → at ≤ length bytes → 0 < piece → n ≡ min (min (length (take (length bytes - at) (drop at bytes))) (length into)) piece → copied ≡ take n (take (length bytes - at) (drop at bytes)) → (drop at bytes ≡ take n (copied ++ drop n into) ++ drop (at + n) bytes) × (n ≡ 0 → 0 < length (copied ++ drop n into) → drop (at + n) bytes ≡ [])
gave_front bytes copied into at piece n in_range some count copy = (split, at_end)
  where
    whole : take (length bytes - at) (drop at bytes) ≡ drop at bytes
    whole = take_all (length bytes - at) (drop at bytes) (omega (arith, length-drop at bytes))

    is_front : copied ≡ take n (drop at bytes)
    is_front = copy ∙ ap (λ (l : List ℕ). take n l) whole

    short : n ≤ length (drop at bytes)
    short = omega (arith, count, ap length whole)

    sized : length copied ≡ n
    sized = ap length is_front ∙ length-take-le n (drop at bytes) short

    split : drop at bytes ≡ take n (copied ++ drop n into) ++ drop (at + n) bytes
    split = sym (take-append-drop n (drop at bytes))
        ∙ ap (λ (l : List ℕ). l ++ drop n (drop at bytes)) (sym (take_at copied (drop n into) n sized ∙ is_front))
        ∙ ap (λ (l : List ℕ). take n (copied ++ drop n into) ++ l) (drop-drop n at bytes)

    at_end : n ≡ 0 → 0 < length (copied ++ drop n into) → drop (at + n) bytes ≡ []
    at_end none room = drop_all (at + n) bytes (omega (arith, none, room, count, some, sized, ap length whole, length-append copied (drop n into), length-drop n into, length-drop at bytes))
