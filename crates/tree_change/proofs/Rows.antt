-- Rows of calls of which one changed.
use Rattle.std.proofs.Common.{◌≡◌, ℕ, zero, suc, ◌+◌, ◌<◌, List, [], ◌∷◌, ◌++◌, Bool, true, false, cond, Some, codes, refl, sym, ap, ap₂, ◌∙◌, arith}
use Rattle.std.specs.Prelude.{slice_get, map, ◌&&◌}
use Rattle.std.specs.List.{list_all}
use Rattle.tree_types.specs.declared.phase.Phase.{Phase}
use Rattle.tree_types.specs.declared.phase.Phase.TheVariants.{Running}
use Rattle.tree_types.specs.declared.node.Kind.TheVariants as kind
use Rattle.tree_types.specs.declared.node.Note.TheVariants as note
use Rattle.tree_types.specs.Phases.{fulfilled, is_succeeded, worst_of}
use Rattle.wf_manifest.specs.declared.calls.Call.{Call}
use Rattle.wf_manifest.specs.declared.templates.OutputDecl.{OutputDecl}
use Rattle.scopes.specs.Substitution.{Scope}
use Rattle.meaning.specs.declared.lines.Place.{Place}
use Rattle.meaning.specs.Lines.{numbered, Made, Parts, call, row_of, row_in, no_outputs, node, made, all_finished}
use Rattle.meaning.specs.Outputs.{computed, ended_node}
use Rattle.meaning.proofs.Flattening.{row_in_row}
use Rattle.meaning.specs.Steps.{Caller, Member, member, member_place, member_phase, makings, group_phase, group_made, group_tags, Groups, before_groups, group_place, groups_by, members_at, groups_from, steps_phase, steps_made}
use Rattle.meaning.specs.Calls.{loop_node, loop_made}
use Rattle.tree_state.specs.Replacing.{call_at, replaced, with_call, some_succeeded, all_fell, with_item}
use Rattle.tree_change.specs.Entered.{IsRunning}

-- ---- rows of which one call is another

module _ {X : Type 0} (f h : ℕ → X → Made) where
  rest_same : (i : ℕ) (xs : List X) → ((k : ℕ) (x : X) → i < suc k → f k x ≡ h k x) → row_of (numbered f i xs) ≡ row_of (numbered h i xs)
  rest_same i [] same = refl
  rest_same i (x ∷ xs) same =
      ap₂ (λ (m : Made) (p : Parts). call m.own m.parts p) (same i x (omega arith)) (rest_same (suc i) xs (λ k y lt. same k y (omega arith)))

  -- all but the one at position j, from number i on, are the same
  pub row_other : (i j : ℕ) (xs : List X) (z : Made) → ((k : ℕ) (x : X) → (k ≡ i + j → ⊥) → f k x ≡ h k x) → ((x : X) → slice_get xs j ≡ Some x → f (i + j) x ≡ z) →
      row_of (numbered f i xs) ≡ replaced (row_of (numbered h i xs)) j z
  row_other i j [] z same here = refl
  row_other i zero (x ∷ xs) z same here =
      ap₂ (λ (m : Made) (p : Parts). call m.own m.parts p) (ap (λ (n : ℕ). f n x) (omega arith) ∙ here x refl) (rest_same (suc i) xs (λ k y lt. same k y (λ e. omega (arith, e))))
  row_other i (suc j) (x ∷ xs) z same here =
      ap₂ (λ (m : Made) (p : Parts). call m.own m.parts p) (same i x (λ e. omega (arith, e)))
      (row_other (suc i) j xs z (λ k y apart. same k y (λ e. apart (omega (arith, e)))) (λ y at. ap (λ (n : ℕ). f n y) (omega arith) ∙ here y at))

-- the call of a position
pub numbered_at : {X : Type 0} (f : ℕ → X → Made) (i j : ℕ) (xs : List X) (x : X) → slice_get xs j ≡ Some x → call_at (row_of (numbered f i xs)) j ≡ Some (f (i + j) x)
numbered_at f i j [] x at = absurd (cc)
numbered_at {X} f i zero (y ∷ xs) x at =
    let same : y ≡ x = cc in
    ap₂ (λ (v : X) (n : ℕ). Some (f n v)) same (omega arith)
numbered_at f i (suc j) (y ∷ xs) x at = numbered_at f (suc i) j xs x at ∙ ap (λ (n : ℕ). Some (f n x)) (omega arith)

-- and of no position but those of the row
pub none_past : {X : Type 0} (f : ℕ → X → Made) (i j : ℕ) (xs : List X) (b : Made) → call_at (row_of (numbered f i xs)) j ≡ Some b → (x : X) × (slice_get xs j ≡ Some x)
none_past f i j [] b at = absurd (cc)
none_past f i zero (x ∷ xs) b at = (x, refl)
none_past f i (suc j) (x ∷ xs) b at = none_past f (suc i) j xs b at

-- ---- the members of a group

abbrev pub making : Caller → Place → Scope → ℕ → Call → Made
making f q s k c = f (codes "steps.") (member_place q k c) s c

pub makings_are : (f : Caller) (q : Place) (s : Scope) (i : ℕ) (cs : List Call) → makings (numbered (member f q s) i cs) ≡ numbered (making f q s) i cs
makings_are f q s i [] = refl
makings_are f q s i (c ∷ cs) = ap (λ (ms : List Made). making f q s i c ∷ ms) (makings_are f q s (suc i) cs)

-- ---- a group

finished_row : (ms : List Member) → list_all (λ m. m.own.finished) (row_in (row_of (makings ms))) ≡ all_finished (makings ms)
finished_row ms = ap (λ (xs : List Made). all_finished xs) (row_in_row (makings ms))

abbrev over_phase : Place → Phase → Parts → Made
over_phase q p parts = made (node q kind.StepGroup p note.None no_outputs) [] parts

runs_open : (ms : List Member) → all_finished (makings ms) ≡ false → group_phase ms ≡ Running
runs_open ms off = ap (λ (b : Bool). cond b (worst_of (map member_phase ms)) Running) off

-- a group of which a member is not finished runs
pub group_runs : (q : Place) (ms : List Member) (old : Made) → old ≡ group_made q ms → all_finished (row_in old.parts) ≡ false → IsRunning old
group_runs q ms old is off =
    let open_row : all_finished (makings ms) ≡ false = sym (finished_row ms) ∙ sym (ap (λ (b : Made). all_finished (row_in b.parts)) is) ∙ off in
    ap (λ (b : Made). b.own.node.phase) is ∙ runs_open ms open_row

-- a group of which a member is not finished, with one other member
pub group_other : (q : Place) (xs ys : List Member) (old : Made) (j : ℕ) (z : Made) → old ≡ group_made q ys → IsRunning old →
    row_of (makings xs) ≡ replaced (row_of (makings ys)) j z → list_all (λ m. m.own.finished) (row_in (replaced old.parts j z)) ≡ false →
    group_made q xs ≡ with_call old j z
group_other q xs ys old j z is runs rows off =
    let parts : replaced old.parts j z ≡ row_of (makings xs) = ap (λ (b : Made). replaced b.parts j z) is ∙ sym rows in
    let open_row : all_finished (makings xs) ≡ false = sym (finished_row xs) ∙ ap (λ (p : Parts). list_all (λ m. m.own.finished) (row_in p)) (sym parts) ∙ off in
    let phase_now : group_phase xs ≡ Running = runs_open xs open_row in
    let phase_old : group_phase ys ≡ Running = sym (ap (λ (b : Made). b.own.node.phase) is) ∙ runs in
    ap₂ (over_phase q) (phase_now ∙ sym phase_old) rows ∙ ap (λ (b : Made). with_call b j z) (sym is)

-- ---- the groups of a steps template

module _ (called other : Caller) (place : Place) where
  first_of : (g : Made) (tags s : Scope) (rest : Scope → Groups) (b : Bool) → call_at (row_of (groups_by g tags s rest b).all) 0 ≡ Some g
  first_of g tags s rest true = refl
  first_of g tags s rest false = refl

  further_of : (g : Made) (tags s : Scope) (rest : Scope → Groups) (b : Bool) (i : ℕ) (old : Made) → call_at (row_of (groups_by g tags s rest b).all) (suc i) ≡ Some old → b ≡ true
  further_of g tags s rest true i old at = refl
  further_of g tags s rest false i old at = absurd (cc)

  pub record Changed (s : Scope) (k i : ℕ) (gs : List (List Call)) (z : Made) : Type 0 where
    pub rows : row_of (groups_from called place k s gs).all ≡ replaced (row_of (groups_from other place k s gs).all) i z
    pub now : steps_phase (groups_from called place k s gs).all ≡ Running
    pub before : steps_phase (groups_from other place k s gs).all ≡ Running

  at_front : (s : Scope) (k i : ℕ) (cs : List Call) (gs : List (List Call)) (z : Made) →
      members_at called place k s cs ≡ members_at other place k s cs → is_succeeded (group_phase (members_at other place k s cs)) ≡ true →
      Changed (group_tags (members_at other place k s cs) ++ s) (suc k) i gs z → Changed s k (suc i) (cs ∷ gs) z
  at_front s k i cs gs z same went rest =
      let ms = members_at other place k s cs in
      let g = group_made (group_place place k) ms in
      let inner : Scope = group_tags ms ++ s in
      let mine = groups_from called place (suc k) inner gs in
      let theirs = groups_from other place (suc k) inner gs in
      let now : groups_from called place k s (cs ∷ gs) ≡ before_groups g mine =
      ap (λ (xs : List Member). groups_by (group_made (group_place place k) xs) (group_tags xs) s (λ (t : Scope). groups_from called place (suc k) t gs) (is_succeeded (group_phase xs))) same
      ∙ ap (groups_by g (group_tags ms) s (λ (t : Scope). groups_from called place (suc k) t gs)) went in
      let was : groups_from other place k s (cs ∷ gs) ≡ before_groups g theirs = ap (groups_by g (group_tags ms) s (λ (t : Scope). groups_from other place (suc k) t gs)) went in
      record {
        rows = ap (λ (x : Groups). row_of x.all) now ∙ ap (λ (p : Parts). call g.own g.parts p) rest.rows ∙ ap (λ (x : Groups). replaced (row_of x.all) (suc i) z) (sym was);
        now = ap (λ (x : Groups). steps_phase x.all) now ∙ ap (λ (b : Bool). cond b (steps_phase mine.all) (group_phase ms)) went ∙ rest.now;
        before = ap (λ (x : Groups). steps_phase x.all) was ∙ ap (λ (b : Bool). cond b (steps_phase theirs.all) (group_phase ms)) went ∙ rest.before;
      }

  at_group : (s : Scope) (k : ℕ) (cs : List Call) (gs : List (List Call)) (z : Made) →
      group_made (group_place place k) (members_at called place k s cs) ≡ z → IsRunning z → group_phase (members_at other place k s cs) ≡ Running →
      Changed s k zero (cs ∷ gs) z
  at_group s k cs gs z is runs open_row =
      let xs = members_at called place k s cs in
      let ys = members_at other place k s cs in
      let g = group_made (group_place place k) ys in
      let stays : is_succeeded (group_phase xs) ≡ false = ap is_succeeded (ap (λ (b : Made). b.own.node.phase) is ∙ runs) in
      let stayed : is_succeeded (group_phase ys) ≡ false = ap is_succeeded open_row in
      let now : groups_from called place k s (cs ∷ gs) ≡ record { all = group_made (group_place place k) xs ∷ []; scope = group_tags xs ++ s } =
      ap (groups_by (group_made (group_place place k) xs) (group_tags xs) s (λ (t : Scope). groups_from called place (suc k) t gs)) stays in
      let was : groups_from other place k s (cs ∷ gs) ≡ record { all = g ∷ []; scope = group_tags ys ++ s } = ap (groups_by g (group_tags ys) s (λ (t : Scope). groups_from other place (suc k) t gs)) stayed in
      record {
        rows = ap (λ (x : Groups). row_of x.all) now ∙ ap (λ (b : Made). row_of (b ∷ [])) is ∙ ap (λ (x : Groups). replaced (row_of x.all) zero z) (sym was);
        now = ap (λ (x : Groups). steps_phase x.all) now ∙ ap (λ (b : Bool). cond b (steps_phase []) (group_phase xs)) stays ∙ (ap (λ (b : Made). b.own.node.phase) is ∙ runs);
        before = ap (λ (x : Groups). steps_phase x.all) was ∙ ap (λ (b : Bool). cond b (steps_phase []) (group_phase ys)) stayed ∙ open_row;
      }

  -- all groups but the running one at position i, from group k on, are the same
  pub groups_other : (i k : ℕ) (s : Scope) (gs : List (List Call)) (old z : Made) →
      ((n : ℕ) (t : Scope) (cs : List Call) → n < k + i → members_at called place n t cs ≡ members_at other place n t cs) →
      ((t : Scope) (cs : List Call) → slice_get gs i ≡ Some cs → old ≡ group_made (group_place place (k + i)) (members_at other place (k + i) t cs) → group_made (group_place place (k + i)) (members_at called place (k + i) t cs) ≡ z) →
      call_at (row_of (groups_from other place k s gs).all) i ≡ Some old → IsRunning old → IsRunning z → Changed s k i gs z
  groups_other i k s [] old z front here at runs open_now = absurd (cc)
  groups_other zero k s (cs ∷ gs) old z front here at runs open_now =
      let ys = members_at other place k s cs in
      let g = group_made (group_place place k) ys in
      let is : old ≡ g = cc (at, first_of g (group_tags ys) s (λ (t : Scope). groups_from other place (suc k) t gs) (is_succeeded (group_phase ys))) in
      let same : k ≡ k + 0 = omega arith in
      at_group s k cs gs z
      (ap (λ (n : ℕ). group_made (group_place place n) (members_at called place n s cs)) same ∙ here s cs refl (is ∙ ap (λ (n : ℕ). group_made (group_place place n) (members_at other place n s cs)) same))
      open_now
      (sym (ap (λ (b : Made). b.own.node.phase) is) ∙ runs)
  groups_other (suc i) k s (cs ∷ gs) old z front here at runs open_now =
      let ys = members_at other place k s cs in
      let g = group_made (group_place place k) ys in
      let went = further_of g (group_tags ys) s (λ (t : Scope). groups_from other place (suc k) t gs) (is_succeeded (group_phase ys)) i old at in
      let was : groups_from other place k s (cs ∷ gs) ≡ before_groups g (groups_from other place (suc k) (group_tags ys ++ s) gs) = ap (groups_by g (group_tags ys) s (λ (t : Scope). groups_from other place (suc k) t gs)) went in
      let next : suc k + i ≡ k + suc i = omega arith in
      at_front s k i cs gs z (front k s cs (omega arith)) went
      (groups_other i (suc k) (group_tags ys ++ s) gs old z
      (λ n t ds lt. front n t ds (omega arith))
      (λ t ds found is. ap (λ (n : ℕ). group_made (group_place place n) (members_at called place n t ds)) next ∙ here t ds found (is ∙ ap (λ (n : ℕ). group_made (group_place place n) (members_at other place n t ds)) next))
      (sym (ap (λ (x : Groups). call_at (row_of x.all) (suc i)) was) ∙ at) runs open_now)

  abbrev over_groups : Phase → Scope → List OutputDecl → Parts → Made
  over_groups p scope declared parts = made (ended_node place kind.Steps p note.None no_outputs (computed scope declared)) [] parts

  -- a steps template with one other running group
  pub steps_other : (i : ℕ) (s : Scope) (declared : List OutputDecl) (gs : List (List Call)) (old z : Made) → old ≡ steps_made other place s declared gs → Changed s 0 i gs z → steps_made called place s declared gs ≡ with_call old i z
  steps_other i s declared gs old z is changed =
      let mine = groups_from called place 0 s gs in
      let theirs = groups_from other place 0 s gs in
      ap₂ (λ (p : Phase) (parts : Parts). over_groups p mine.scope declared parts) changed.now changed.rows
      ∙ ap (λ (p : Phase). over_groups p theirs.scope declared (replaced (row_of theirs.all) i z)) (sym changed.before)
      ∙ ap (λ (b : Made). with_call b i z) (sym is)

-- ---- a looped call

-- a row with a call that is not finished
pub unfinished_row : (ms : List Made) (i : ℕ) (one : Made) → call_at (row_of ms) i ≡ Some one → one.own.finished ≡ false → all_finished ms ≡ false
unfinished_row [] i one at off = absurd (cc)
unfinished_row (m ∷ ms) zero one at off =
    let same : record { own = m.own; parts = m.parts } ≡ one = cc in
    ap (λ (b : Bool). b && all_finished ms) (ap (λ (x : Made). x.own.finished) same ∙ off)
unfinished_row (m ∷ ms) (suc i) one at off = ap (λ (b : Bool). m.own.finished && b) (unfinished_row ms i one at off) ∙ never m.own.finished
  where
    never : (b : Bool) → (b && false) ≡ false
    never true = refl
    never false = refl

abbrev loop_over : Place → List OutputDecl → List Made → Bool → Made
loop_over place ds ms over = record {
  own = record {
    node = loop_node place ds ms over;
    wants = [];
    finished = fulfilled (loop_node place ds ms over).phase;
    any_succeeded = some_succeeded ms;
    all_failed = all_fell ms;
  };
  parts = row_of ms;
}

abbrev over_seen : Place → List Made → Parts → Made
over_seen place seen parts = record {
  own = record {
    node = node place kind.TaskGroup Running note.None no_outputs;
    wants = [];
    finished = false;
    any_succeeded = some_succeeded seen;
    all_failed = all_fell seen;
  };
  parts = parts;
}

-- a loop of which an item is not finished, with one other item
pub loop_other : (place : Place) (ds : List OutputDecl) (xs ys : List Made) (old z : Made) (i : ℕ) → old ≡ loop_made place ds ys → all_finished ys ≡ false →
    row_of xs ≡ replaced (row_of ys) i z → all_finished (row_in (replaced old.parts i z)) ≡ false → loop_made place ds xs ≡ with_item old i z
loop_other place ds xs ys old z i is open_then rows off =
    let parts : replaced old.parts i z ≡ row_of xs = ap (λ (b : Made). replaced b.parts i z) is ∙ sym rows in
    let open_now : all_finished xs ≡ false = sym (ap (λ (ms : List Made). all_finished ms) (row_in_row xs)) ∙ ap (λ (p : Parts). all_finished (row_in p)) (sym parts) ∙ off in
    let was : old ≡ loop_over place ds ys false = is ∙ ap (loop_over place ds ys) open_then in
    ap (loop_over place ds xs) open_now
    ∙ ap (λ (ms : List Made). over_seen place ms (row_of xs)) (sym (row_in_row xs))
    ∙ ap (λ (p : Parts). over_seen place (row_in p) p) rows
    ∙ ap (λ (b : Made). with_item b i z) (sym was)
