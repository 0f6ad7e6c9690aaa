-- How many nodes stand in what a call makes, and how many more there may be.
use Rattle.std.specs.Prelude.{◌≡◌, ℕ, suc, ◌+◌, ◌<◌, Result, Ok, Err}
use Rattle.meaning.specs.Lines.{Parts, nothing, call, may_begin, asks, Made}
use Rattle.tree_state.specs.declared.refused.TreeRefused.{TreeRefused}
use Rattle.tree_state.specs.declared.refused.TreeRefused.TheVariants.{TooLarge, Memory}

abbrev pub count_below : Parts → ℕ
count_below nothing = 0
count_below (call own inner rest) = suc (count_below inner + count_below rest)
count_below (may_begin p rest) = count_below rest
count_below (asks w rest) = count_below rest

-- its node, and those below it
abbrev pub count : Made → ℕ
count m = suc (count_below m.parts)

-- the room of one node is taken, or there is none
abbrev pub Takes : ℕ → ℕ → Result (Unit {0}) TreeRefused → Type 0
Takes before after (Ok u) = before ≡ suc after
Takes before after (Err TooLarge) = before ≡ 0
Takes before after (Err Memory) = Unit {0}

-- the room of so many nodes is taken, or there is too little
abbrev pub TakesAll : ℕ → ℕ → ℕ → Result (Unit {0}) TreeRefused → Type 0
TakesAll n before after (Ok u) = after + n ≡ before
TakesAll n before after (Err TooLarge) = before < n
TakesAll n before after (Err Memory) = Unit {0}

-- what a call makes, for which the room is taken; or there is too little room for it
abbrev pub Gives : ℕ → ℕ → Result Made TreeRefused → Made → Type 0
Gives before after (Ok s) m = (s ≡ m) × (after + count m ≡ before)
Gives before after (Err TooLarge) m = before < count m
Gives before after (Err Memory) m = Unit {0}

-- the same of what stands below a node, by what is kept of it
abbrev pub GivesBelow : {A : Type 0} → ℕ → ℕ → (A → Parts → Type 0) → Result A TreeRefused → Parts → Type 0
GivesBelow before after Keeps (Ok a) p = Keeps a p × (after + count_below p ≡ before)
GivesBelow before after Keeps (Err TooLarge) p = before < count_below p
GivesBelow before after Keeps (Err Memory) p = Unit {0}
