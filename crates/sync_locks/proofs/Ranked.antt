-- The order of ranks.
use Rattle.std.proofs.Common.{◌≡◌, Bool, true, false, refl, sym, ◌∙◌, ap, true≢false, Ordering, Less, Equal, Greater}
use Rattle.std.specs.Ordering.{is_lt, ordering_reverse}
use Rattle.std.specs.Cmp.{IsTotalOrder}
use Rattle.tree_types.specs.declared.entry.Rank.{Rank}
use Rattle.books.specs.Books.{rank_cmp, before}

module _ (total : IsTotalOrder rank_cmp) where
  less_of : (o : Ordering) → is_lt o ≡ true → o ≡ Less
  less_of Less h = refl
  less_of Equal h = absurd (true≢false (sym h))
  less_of Greater h = absurd (true≢false (sym h))

  own_reverse : (o : Ordering) → o ≡ ordering_reverse o → is_lt o ≡ false
  own_reverse Less e = absurd (true≢false (ap is_lt e))
  own_reverse Equal e = refl
  own_reverse Greater e = refl

  pub not_itself : (a : Rank) → before a a ≡ false
  not_itself a = own_reverse (rank_cmp a a) (total.antisymm a a)

  before_both : (a b c : Rank) → before a b ≡ true → before b c ≡ true → before a c ≡ true
  before_both a b c h k = ap is_lt (total.trans a b c (less_of (rank_cmp a b) h) (less_of (rank_cmp b c) k))

  -- what ranks before another ranks before all that do not rank before that one
  pub before_rest : (r x q : Rank) → before r x ≡ true → before q x ≡ false → before r q ≡ true
  before_rest r x q h k = by (rank_cmp r q) refl
    where
      by : (o : Ordering) → rank_cmp r q ≡ o → before r q ≡ true
      by Less e = ap is_lt e
      by Equal e = absurd (true≢false (sym h ∙ ap is_lt (total.congr r q x e) ∙ k))
      by Greater e = absurd (true≢false (sym (before_both q r x (ap is_lt (total.antisymm q r ∙ ap ordering_reverse e)) h) ∙ k))

  -- what ranks before another does not rank behind it
  pub not_behind : (a b : Rank) → before a b ≡ true → before b a ≡ false
  not_behind a b h = by (before b a) refl
    where
      by : (c : Bool) → before b a ≡ c → c ≡ false
      by true e = absurd (true≢false (sym (before_both a b a h e) ∙ not_itself a))
      by false e = refl
