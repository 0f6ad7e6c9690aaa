-- What is of the grammar is read.
use Rattle.std.specs.Prelude.{◌≡◌, ℕ, suc, ◌≤◌, List, [], ◌∷◌, IsTrue, Option, Some, None, refl}
use Rattle.std.proofs.Common.{ap, ◌∙◌, arith}
use Rattle.connectives.specs.Grammar.{Text, Language, Spaces, no_space, space, Or, one_and, more_or, And, one_not, more_and, Not, not_sign, group, operand, Says}
use Rattle.connectives.specs.declared.state.Level.{Level}
use Rattle.connectives.specs.declared.state.Around.{Around}
use Rattle.connectives.specs.declared.state.Behind.{Behind}
use Rattle.connectives.specs.declared.state.State.{State}
use Rattle.connectives.specs.declared.state.State.TheVariants as s
use Rattle.connectives.specs.Reading.{Machine, start, times, plus, past, on_wants, on_done, then_read, read}
use Rattle.connectives.proofs.ByteKinds.{space_kind}
use Rattle.connectives.proofs.Facts.{Facts, is_end}
use Rattle.connectives.proofs.Levels.{negations, none_open}

module _ {E I : Type 0} (L : Language E) (m : Machine E I) where
  pub spaces_wanting : {t u : Text} → Spaces t u → (a : Around E) → read L.joins m (s.Wants a) t ≡ read L.joins m (s.Wants a) u
  spaces_wanting no_space a = refl
  spaces_wanting (space {b} {t} {u} i h) a = ap (λ k. then_read (on_wants m k b a) (λ x. read L.joins m x t)) (space_kind b i) ∙ spaces_wanting h a

  pub spaces_done : {t u : Text} → Spaces t u → (x : Behind E) → read L.joins m (s.Done x) t ≡ read L.joins m (s.Done x) u
  spaces_done no_space x = refl
  spaces_done (space {b} {t} {u} i h) x = ap (λ k. then_read (on_done L.joins k x) (λ z. read L.joins m z t)) (space_kind b i) ∙ spaces_done h x

module _ {E I : Type 0} (L : Language E) (m : Machine E I) (F : Facts L m) where
  abbrev wanting : Option E → Option E → ℕ → ℕ → List (Level E) → State E I
  wanting sum product begun room outer = s.Wants (record { level = record { sum = sum; product = product; begun = begun; room = room }; outer = outer })

  abbrev behind : E → Option E → List (Level E) → ℕ → State E I
  behind last sum outer room = s.Done (record { last = last; sum = sum; outer = outer; room = room })

  -- what an `or` has left behind
  abbrev OrRead : ℕ → Text → E → Text → Type 0
  OrRead n t e r = (outer : List (Level E)) → (last : E) × (sum : Option E) × (plus L.joins sum last ≡ e) × (read L.joins m (wanting None None n n outer) t ≡ read L.joins m (behind last sum outer n) r)

  mutual
    or_read : {n : ℕ} {t r : Text} {e : E} → Or L n t e r → IsTrue (is_end r) → OrRead n t e r
    or_read (one_and {n} {t} {r} {e} h) z = λ outer. (e, None, refl, and_read h z None outer)
    or_read (more_or {n} {t} {u} {v} {r} {d} {e} g i h) z = λ outer.
        let left = or_read g refl outer in
        (e, Some d, refl, left.3 ∙ ap (λ x. read L.joins m (wanting (Some x) None n n outer) u) left.2 ∙ spaces_wanting L m i _ ∙ and_read h z (Some d) outer)

    and_read : {n : ℕ} {t r : Text} {e : E} → And L n t e r → IsTrue (is_end r) → (sum : Option E) (outer : List (Level E)) → read L.joins m (wanting sum None n n outer) t ≡ read L.joins m (behind e sum outer n) r
    and_read (one_not {n} {t} {r} {e} h) z sum outer = not_read h z sum None n outer (omega arith) ∙ ap (λ x. read L.joins m (behind x sum outer n) r) (none_open L.joins n e)
    and_read (more_and {n} {t} {u} {v} {r} {d} {e} g i h) z sum outer = and_read g refl sum outer ∙ spaces_wanting L m i _ ∙ not_read h z sum (Some d) n outer (omega arith) ∙ ap (λ x. read L.joins m (behind (L.joins.all_of d x) sum outer n) r) (none_open L.joins n e)

    not_read : {n : ℕ} {t r : Text} {e : E} → Not L n t e r → IsTrue (is_end r) → (sum product : Option E) (begun : ℕ) (outer : List (Level E)) → n ≤ begun → read L.joins m (wanting sum product begun n outer) t ≡ read L.joins m (s.Done (past L.joins e (record { sum = sum; product = product; begun = begun; room = n }) outer)) r
    not_read (not_sign {n} {u} {v} {r} {e} i h) z sum product begun outer l =
        spaces_wanting L m i _ ∙ not_read h z sum product begun outer (omega arith) ∙ ap (λ x. read L.joins m (behind (times L.joins product x) sum outer begun) r) (negations L.joins begun n e l)
    not_read (group {n} {u} {v} {w} {r} {e} i h q) z sum product begun outer l =
        let level : Level E = record { sum = sum; product = product; begun = begun; room = suc n } in
        let inside = or_read h refl (level ∷ outer) in
        spaces_wanting L m i _ ∙ inside.3 ∙ ap (λ x. read L.joins m (s.Done (past L.joins x level outer)) w) inside.2 ∙ spaces_done L m q _
    not_read (operand {n} {t} {r} {e} h) z sum product begun outer l = F.reads t r e h z (record { level = record { sum = sum; product = product; begun = begun; room = n }; outer = outer })

  -- a text of the grammar is read
  pub taken : (text : Text) (e : E) → Says L text e → read L.joins m start text ≡ Some e
  taken text e (t, i, h) =
      let whole_read = or_read h refl [] in
      spaces_wanting L m i _ ∙ whole_read.3 ∙ ap Some whole_read.2
