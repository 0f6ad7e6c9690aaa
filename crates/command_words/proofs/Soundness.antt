-- Words of which clap finds no fault, or some.
use Rattle.std.proofs.Common.{◌≡◌, ◌≢◌, List, [], ◌∷◌, false, None, refl, subst}
use Rattle.clap.specs.Words.{Kinds, Text, fault_of, rows_of, found_of}
use Rattle.clap.specs.declared.parser.matches.ArgMatches.{ArgMatches}
use Rattle.command_words.specs.Command.{argo, is_empty, IsRead}
use Rattle.command_words.specs.Orders.{order_in, order_of}

empty_not : (ks : Kinds) → ks ≢ [] → is_empty ks ≡ false
empty_not [] some = absurd (some refl)
empty_not (k ∷ ks) some = refl

pub sound_order :
    (given words : List Text) (m : ArgMatches) → given ≡ words → IsRead given m →
    order_of words ≡ order_in (rows_of (found_of m))
sound_order given words m same read =
    subst (λ (ws : List Text). order_of ws ≡ order_in (rows_of (found_of m))) same
    (rw (read.sound, read.rows) refl)

pub no_order : (given words : List Text) → given ≡ words → fault_of argo given ≢ [] → order_of words ≡ None
no_order given words same some =
    subst (λ (ws : List Text). order_of ws ≡ None) same (rw (empty_not (fault_of argo given) some) refl)
