-- The command line as clap reads it: one positional argument for the mode, and six options.
use Rattle.std.specs.Prelude.{◌≡◌, List, [], ◌∷◌, Some, Bool, true, false, codes, fold}
use Rattle.clap.specs.Words.{App, Kinds, Rule, Text, fault_of, found_of, matches_of, new_app, new_rule, rows_of, with_rule}
use Rattle.clap.specs.declared.builder.action.ArgAction.TheVariants.{Set, SetTrue}
use Rattle.clap.specs.declared.parser.matches.ArgMatches.{ArgMatches}

abbrev pub mode : Rule
mode = record (new_rule (codes "mode")) { required = true; action = Some Set }

-- an option that takes a value
abbrev pub valued : Text → Rule
valued name = record (new_rule name) { long = Some name; action = Some Set }

-- an option that takes none
abbrev pub flag : Text → Rule
flag name = record (new_rule name) { long = Some name; action = Some SetTrue }

-- the words behind the program's name, with no help and no version
abbrev pub bare : App
bare =
    let app = new_app (codes "argo") in
    record app { top = record app.top { no_binary_name = true; disable_help_flag = true; disable_version_flag = true } }

abbrev pub options : List Rule
options =
    valued (codes "workers") ∷ flag (codes "history") ∷ flag (codes "summary") ∷ valued (codes "seed")
    ∷ valued (codes "size") ∷ flag (codes "bundle") ∷ []

-- the whole command
abbrev pub argo : App
argo = fold with_rule (with_rule bare mode) options

abbrev pub is_empty : Kinds → Bool
is_empty [] = true
is_empty (kind ∷ kinds) = false

-- clap finds nothing wrong with the words
abbrev pub is_sound : List Text → Bool
is_sound words = is_empty (fault_of argo words)

-- the words are of the command, and these are their matches
pub record IsRead (words : List Text) (matches : ArgMatches) : Type 0 where
  pub sound : fault_of argo words ≡ []
  pub rows : rows_of (found_of matches) ≡ matches_of argo words
