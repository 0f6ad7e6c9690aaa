-- Words and what they ask for, computed.
use Rattle.std.proofs.Common.{◌≡◌, [], ◌∷◌, Some, None, true, false, refl, codes}
use Rattle.clap.proofs.OnLiterals.{clap_on_literals}
use Rattle.command_words.specs.declared.order.Mode.TheVariants.{Run, Generate}
use Rattle.command_words.specs.Orders.{order_of}

run_alone : order_of (codes "run" ∷ []) ≡ Some record { mode = Run; workers = 1; history = false; summary = false; seed = 1; size = 100; bundle = false }
unfolding clap_on_literals
run_alone = refl

run_with_all :
    order_of (codes "run" ∷ codes "--workers" ∷ codes "64" ∷ codes "--history" ∷ codes "--summary" ∷ [])
    ≡ Some record { mode = Run; workers = 64; history = true; summary = true; seed = 1; size = 100; bundle = false }
unfolding clap_on_literals
run_with_all = refl

generate_with_all :
    order_of (codes "generate" ∷ codes "--seed=9999999999999999999" ∷ codes "--size=0" ∷ codes "--bundle" ∷ [])
    ≡ Some record { mode = Generate; workers = 1; history = false; summary = false; seed = 9999999999999999999; size = 0; bundle = true }
unfolding clap_on_literals
generate_with_all = refl

no_words : order_of [] ≡ None
unfolding clap_on_literals
no_words = refl

no_mode : order_of (codes "walk" ∷ []) ≡ None
unfolding clap_on_literals
no_mode = refl

too_many_workers : order_of (codes "run" ∷ codes "--workers" ∷ codes "65" ∷ []) ≡ None
unfolding clap_on_literals
too_many_workers = refl

no_workers : order_of (codes "run" ∷ codes "--workers" ∷ codes "0" ∷ []) ≡ None
unfolding clap_on_literals
no_workers = refl

too_many_digits : order_of (codes "generate" ∷ codes "--seed" ∷ codes "00000000000000000001" ∷ []) ≡ None
unfolding clap_on_literals
too_many_digits = refl

check_takes_no_size : order_of (codes "check" ∷ codes "--size" ∷ codes "3" ∷ []) ≡ None
unfolding clap_on_literals
check_takes_no_size = refl

simulate_takes_no_workers : order_of (codes "simulate" ∷ codes "--workers" ∷ codes "1" ∷ []) ≡ None
unfolding clap_on_literals
simulate_takes_no_workers = refl

help_is_no_option : order_of (codes "run" ∷ codes "--help" ∷ []) ≡ None
unfolding clap_on_literals
help_is_no_option = refl
