-- Which kinds of wants stand among some lines.
use Rattle.std.specs.Prelude.{Bool, true, false, List, [], ◌∷◌, Option, Some, None}
use Rattle.std.specs.List.{list_any}
use Rattle.tree_types.specs.declared.want.Want.{Want}
use Rattle.tree_types.specs.declared.want.Want.TheVariants as want
use Rattle.meaning.specs.declared.lines.Line.{Line}
use Rattle.meaning.specs.Trees.{wants_in}
use Rattle.tree_state.specs.declared.kinds.WantKind.{WantKind}
use Rattle.tree_state.specs.declared.kinds.WantKind.TheVariants.{Pod, Lock, LookUp, Arming, Timer, Save}

abbrev pub kind_of_want : Want → WantKind
kind_of_want (want.Pod p) = Pod
kind_of_want (want.Lock p l) = Lock
kind_of_want (want.LookUp p cache key age) = LookUp
kind_of_want (want.Arming p) = Arming
kind_of_want (want.Timer p tick) = Timer
kind_of_want (want.Save p cache key o) = Save

abbrev pub same_kind : WantKind → WantKind → Bool
same_kind Pod Pod = true
same_kind Lock Lock = true
same_kind LookUp LookUp = true
same_kind Arming Arming = true
same_kind Timer Timer = true
same_kind Save Save = true
same_kind _ _ = false

abbrev pub is_of : WantKind → Want → Bool
is_of k w = same_kind k (kind_of_want w)

-- some line asks for something of this kind
abbrev pub ask_for : WantKind → List Line → Bool
ask_for k ls = list_any (is_of k) (wants_in ls)

-- the first of a list
abbrev pub first : {A : Type 0} → List A → Option A
first [] = None
first (x ∷ xs) = Some x
