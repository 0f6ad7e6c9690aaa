-- The code of a hand, by which contracts tell two of them apart.
use Rattle.std.specs.Prelude.{◌≡◌, ◌⊎◌, ℕ, List, [], refl}
use Rattle.std.specs.Coded.{Coded, code_by, coded×, coded⊎, coded_list, coded_ℕ}
use Rattle.std.proofs.Common.{inl, inr}
use Rattle.law.specs.Documents.{Text}
use Rattle.next_step.specs.Hands.{Given, for_flow, for_pod, Hand}
use Rattle.pod_runner.specs.Running.{Running, running}
use Rattle.pod_runner.specs.RunningCode.{running_code}
use Rattle.reconcile_core.specs.Workers.{Working, working}
use Rattle.reconcile_core.specs.WorkingCode.{working_code}

text_code : Coded Text
text_code = coded_list coded_ℕ

abbrev Names : Type 0
Names = Text ⊎ (Text × Text)

abbrev names_of : Given → Names
names_of (for_flow w) = inl w
names_of (for_pod w name) = inr (w, name)

abbrev given_by : Names → Given
given_by (inl w) = for_flow w
given_by (inr p) = for_pod p.0 p.1

given_back : (x : Given) → given_by (names_of x) ≡ x
given_back (for_flow w) = refl
given_back (for_pod w name) = refl

given_code : Coded Given
given_code = code_by Names (coded⊎ text_code (coded× text_code text_code)) names_of given_by given_back

-- the views as a worker's, and the pod as a runner's
abbrev Parts : Type 0
Parts = List Given × (Working × (Running × ℕ))

pub hand_code : Coded Hand
hand_code =
    code_by Parts (coded× (coded_list given_code) (coded× working_code (coded× running_code coded_ℕ)))
    (λ a. (a.jobs, (working [] a.views, (running [] a.pod, a.lag))))
    (λ p. record { jobs = p.0; views = p.1.0.views; pod = p.1.1.0.pod; lag = p.1.1.1 }) (λ _. refl)
