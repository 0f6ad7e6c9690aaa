-- What the first fact of a kind and path says is what the meaning reads.
use Rattle.std.proofs.Common.{◌≡◌, Bool, true, false, cond, List, [], ◌∷◌, refl, sym}
use Rattle.std.specs.Prelude.{Option, Some, None, option_and_then, if◌then◌else◌}
use Rattle.std.specs.List.{find}
use Rattle.tree_types.specs.declared.path.Sel.{Sel}
use Rattle.tree_types.specs.declared.fact.Fact.{Fact}
use Rattle.tree_types.specs.declared.fact.Fact.TheVariants.{Settled, Carried, Memo, Armed}
use Rattle.tree_types.specs.Places.{sels_eq}
use Rattle.meaning.specs.Answers.{first_or, first_of, settled_in, carried_in, memo_in, armed_in}
use Rattle.shared_facts.specs.declared.kind.Kind.TheVariants as kind
use Rattle.shared_facts.specs.Inside.Kinds.{is_of}
use Rattle.shared_facts.specs.Inside.Reads as reads

-- the fact is of the path, or one behind it is
read_by : {A : Type 0} (read : Fact → Option A) (f : Fact) (x : A) (b : Bool) (rest : Option A) (o : Option Fact) → read f ≡ Some x → rest ≡ option_and_then read o → first_or (if b then Some x else None) rest ≡ option_and_then read (cond b (Some f) o)
read_by read f x true rest o says e = sym says
read_by read f x false rest o says e = e

pub settled_read : (p : List Sel) (J : List Fact) → first_of (settled_in p) J ≡ option_and_then reads.settled (find (is_of kind.Settled p) J)
settled_read p [] = refl
settled_read p (Settled q o ∷ J) = read_by reads.settled (Settled q o) o (sels_eq q.sels p) (first_of (settled_in p) J) (find (is_of kind.Settled p) J) refl (settled_read p J)
settled_read p (_ ∷ J) = settled_read p J

pub carried_read : (p : List Sel) (J : List Fact) → first_of (carried_in p) J ≡ option_and_then reads.carried (find (is_of kind.Carried p) J)
carried_read p [] = refl
carried_read p (Carried q o ∷ J) = read_by reads.carried (Carried q o) o (sels_eq q.sels p) (first_of (carried_in p) J) (find (is_of kind.Carried p) J) refl (carried_read p J)
carried_read p (_ ∷ J) = carried_read p J

pub memo_read : (p : List Sel) (J : List Fact) → first_of (memo_in p) J ≡ option_and_then reads.memo (find (is_of kind.Memo p) J)
memo_read p [] = refl
memo_read p (Memo q answer ∷ J) = read_by reads.memo (Memo q answer) answer (sels_eq q.sels p) (first_of (memo_in p) J) (find (is_of kind.Memo p) J) refl (memo_read p J)
memo_read p (_ ∷ J) = memo_read p J

pub armed_read : (p : List Sel) (J : List Fact) → first_of (armed_in p) J ≡ option_and_then reads.armed (find (is_of kind.Armed p) J)
armed_read p [] = refl
armed_read p (Armed q tick ∷ J) = read_by reads.armed (Armed q tick) tick (sels_eq q.sels p) (first_of (armed_in p) J) (find (is_of kind.Armed p) J) refl (armed_read p J)
armed_read p (_ ∷ J) = armed_read p J
