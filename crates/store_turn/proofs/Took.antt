-- The steps of a turn, one after another.
use Rattle.std.proofs.Common.{◌≡◌, ℕ, ◌+◌, ◌≤◌, Bool, true, false, cond, List, [], ◌∷◌, ◌++◌, length, refl, sym, ◌∙◌, ap, ap₂, arith, subst}
use Rattle.std.specs.Prelude.{Some, nat_lt}
use Rattle.atomic_table.specs.Seated.{TableId}
use Rattle.atomic_table.specs.Table.{Me}
use Rattle.store_turn.specs.declared.rule.View.{View}
use Rattle.store_turn.specs.Inside.Turns.{as_seat, Served, TookOut, Did, Committed}
use Rattle.store_turn.specs.Lists.{StartsWith}
use Rattle.store_turn.specs.Places.{PlacesIn, places_after}
use Rattle.store_turn.specs.Seats.{AsSeat, Took}
use Rattle.store_turn.specs.Steps.{at_rest}
use Rattle.store_turn.proofs.Lists.{same_list, not_more, is_more, starts_length}
use Rattle.store_turn.proofs.Places.{rising_snoc, below_snoc}

pub held_one : {A : Type 0} (x y : A) (xs ys : List (ℕ × A)) → (0, x) ∷ xs ≡ (0, y) ∷ ys → x ≡ y
held_one {A} x y xs ys e = ap (λ (l : List (ℕ × A)). elim l [ [] ↦ x | h ∷ t ↦ h.1 ]) e

module _ {E B T : Type 0} (list : T → List E) (base : T → B) (v : View E B) (waited found : Me T (View E B)) (served : Served v waited)
    (read : TookOut list base waited found) where
  -- the value that is out begins with what the seat had seen, and has its base
  pub begins_from : (x : T) → list x ≡ found.0.seen → StartsWith (list x) v.seen
  begins_from x e = subst (λ l. StartsWith l v.seen) (sym (e ∙ ap (λ m. m.0.seen) read.now))
      (subst (λ l. StartsWith (list read.value) l) (ap (λ m. m.0.seen) served.now) read.later)

  pub base_from : (x : T) → Some (base x) ≡ found.0.base → Some (base x) ≡ v.base
  base_from x e = e ∙ ap (λ m. m.0.base) read.now ∙ ap (λ m. m.0.base) served.now

  module _ {R : Type 0} (gives : T → R → T → Type 0) (r : R) (more : Bool) (left done over : Me T (View E B)) (did : Did list base gives found r more left)
      (passed : over ≡ (at_rest done.0, [])) (old_id new_id : TableId) where
    took_by : done.0.seen ≡ list did.after → done.0.places ≡ places_after v.places (list did.before) (list did.after) → Took list base gives (as_seat old_id v) r (as_seat new_id over.0)
    took_by seen places = record {
      before = did.before;
      after = did.after;
      later = begins_from did.before (sym did.seen);
      same = sym (base_from did.before (
          ap (λ x. Some (base x)) (sym (held_one read.value did.before [] [] (sym (ap (λ m. m.1) read.now) ∙ did.had)))
          ∙ sym read.same ∙ sym (ap (λ m. m.0.base) read.now)));
      gave = did.gave;
      grew = did.grew;
      fits = did.fits;
      sees = ap (λ m. m.0.seen) passed ∙ seen;
      puts = ap (λ m. m.0.places) passed ∙ places;
    }

    had_places : left.0.places ≡ v.places
    had_places = ap (λ m. m.0.places) did.now ∙ ap (λ m. m.0.places) read.now ∙ ap (λ m. m.0.places) served.now

    had_seen : left.0.seen ≡ list did.before
    had_seen = ap (λ m. m.0.seen) did.now ∙ did.seen

    pub took_more : more ≡ true → Committed list base left done → Took list base gives (as_seat old_id v) r (as_seat new_id over.0)
    took_more t c = took_by
        (ap (λ m. m.0.seen) c.now ∙ ap list (held_one c.value did.after [] [] (sym c.out ∙ ap (λ m. m.1) did.now)))
        (ap (λ m. m.0.places) c.now ∙ ap₂ (λ ps l. ps ++ length l ∷ []) had_places had_seen
        ∙ ap (λ b. cond b (v.places ++ length (list did.before) ∷ []) v.places) (sym t ∙ did.told))

    pub took_none : more ≡ false → done ≡ left → Took list base gives (as_seat old_id v) r (as_seat new_id over.0)
    took_none t c = took_by
        (ap (λ m. m.0.seen) c ∙ had_seen ∙ sym (same_list (list did.before) (list did.after) did.grew.later (not_more (length (list did.before)) (length (list did.after)) (sym did.told ∙ t))))
        (ap (λ m. m.0.places) c ∙ had_places ∙ ap (λ b. cond b (v.places ++ length (list did.before) ∷ []) v.places) (sym t ∙ did.told))

placed_by : {E : Type 0} (ps : List ℕ) (xs ys zs : List E) (b : Bool) → nat_lt (length ys) (length zs) ≡ b → PlacesIn (length xs) ps → length xs ≤ length ys → length ys ≤ length zs → length zs ≤ length ys + 1 → PlacesIn (length zs) (cond b (ps ++ length ys ∷ []) ps)
placed_by ps xs ys zs true e p h k m = record {
  rises = rising_snoc ps (length ys) p.rises (λ x q. let a = p.low x q in omega arith);
  low = below_snoc ps (length ys) (length zs) (λ x q. let a = p.low x q in omega arith) (let t = is_more (length ys) (length zs) e in omega arith);
}
placed_by ps xs ys zs false e p h k m = record { rises = p.rises; low = λ x q. let a = p.low x q in omega arith }

module _ {E B T R : Type 0} (list : T → List E) (base : T → B) (gives : T → R → T → Type 0) (old : AsSeat E B) (r : R) (new : AsSeat E B) where
  -- the place of a new entry is above all that the seat had
  pub took_placed : Took list base gives old r new → PlacesIn (length old.seen) old.places → PlacesIn (length new.seen) new.places
  took_placed t p =
      let q = placed_by old.places old.seen (list t.before) (list t.after) (nat_lt (length (list t.before)) (length (list t.after))) refl p (starts_length (list t.before) old.seen t.later) (starts_length (list t.after) (list t.before) t.grew.later) t.grew.at_most in
      subst (λ l. PlacesIn (length l) new.places) (sym t.sees) (subst (λ ps. PlacesIn (length (list t.after)) ps) (sym t.puts) q)
