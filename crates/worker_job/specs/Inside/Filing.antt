-- Which locks are to be filed, and what of them is left.
use Rattle.std.specs.Prelude.{◌≡◌, Bool, true, false, ◌&&◌, List, Option, Some, None, is_none}
use Rattle.std.specs.List.{find}
use Rattle.tree_types.specs.declared.want.Want.{Want}
use Rattle.tree_types.specs.declared.want.Want.TheVariants as want
use Rattle.tree_state.specs.declared.kinds.WantKind.TheVariants as kind
use Rattle.tree_state.specs.Asking.{is_of}
use Rattle.books.specs.declared.Request.{Request}
use Rattle.books.specs.Books.{request_of}
use Rattle.law.specs.Documents.{Text}
use Rattle.law.specs.Contents.{Flow, Book}
use Rattle.law.specs.Justified.{wants_of, key}
use Rattle.next_step.specs.Views.{Seen}
use Rattle.worker_job.specs.Inside.Left.{LeftOf, LeftFits}

-- a path asks for a lock and filed no request
abbrev pub is_unknown : Text → List Request → Want → Bool
is_unknown w rs (want.Lock p l) = is_none (request_of rs (key w p))
is_unknown w rs _ = false

-- there is none
abbrev pub NoneUnknown : Text → List Request → List Want → Type 0
NoneUnknown w rs ws = find (λ a. is_of kind.Lock a && is_unknown w rs a) ws ≡ None

-- where it is known, there is none of a workflow by the book, where this was read
pub record FiledOf (b : Bool) (w : Text) (f : Flow) (book : Option (Seen Book)) : Type 0 where
  pub none : b ≡ true → (c : Seen Book) → book ≡ Some c → NoneUnknown w c.content.requests (wants_of f)

-- the same of the workflow, where it was read
abbrev pub FiledFits : Bool → Text → Option (Seen Flow) → Option (Seen Book) → Type 0
FiledFits b w flow book = (s : Seen Flow) → flow ≡ Some s → FiledOf b w s.content book

-- by a book
abbrev pub to_file : Text → Book → Want → Bool
to_file w b a = is_unknown w b.requests a

-- what is left of a workflow by the book
abbrev pub FilingOf : Option (List Want) → Text → Flow → Option (Seen Book) → Type 0
FilingOf ahead w f book = LeftOf kind.Lock (to_file w) ahead f book

-- the same of the workflow, where it was read
abbrev pub FilingFits : Option (List Want) → Text → Option (Seen Flow) → Option (Seen Book) → Type 0
FilingFits ahead w flow book = LeftFits kind.Lock (to_file w) ahead flow book
