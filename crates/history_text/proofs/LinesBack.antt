-- The lines of bytes, and the entries that they are.
use Rattle.std.proofs.Common.{◌≡◌, ℕ, ◌+◌, List, [], ◌∷◌, ◌++◌, length, take, drop, Some, Err, true, refl, sym, ap, ap₂, ◌∙◌, arith, append_assoc, length-append}
use Rattle.std.proofs.lemmas.List.{take-append-drop}
use Rattle.tree_types.specs.declared.entry.Entry.{Entry}
use Rattle.history_text.specs.Lines.{entry_text, entry_line, history_text}
use Rattle.history_text.specs.Readable.{IsReadable, AreReadable}
use Rattle.history_text.specs.Histories.{BeginsWithNone}
use Rattle.history_text.specs.Inside.Bytes.{is_one_line, EndsAt, IsLine, IsFirst}
use Rattle.history_text.specs.declared.fault.Fault.{Fault}
use Rattle.history_text.specs.declared.fault.Fault.TheVariants.{Other, Memory}
use Rattle.history_text.proofs.Feeds.{feed_inside, same_lines}
use Rattle.history_text.proofs.LineBack.{one_line, same_entry}

feed_behind : (entry : Entry) (more : List ℕ) → entry_line entry ++ more ≡ entry_text entry ++ 10 ∷ more
feed_behind entry more = append_assoc (entry_text entry) (10 ∷ []) more

pub no_feed : (bytes : List ℕ) → is_one_line bytes ≡ true → BeginsWithNone bytes
no_feed bytes h entry more readable same =
    let whole : entry_text entry ++ 10 ∷ more ≡ bytes = sym (feed_behind entry more) ∙ same in
    feed_inside (entry_text entry) more (ap is_one_line whole ∙ h)

pub no_line : (bytes : List ℕ) (n : ℕ) (fault : Fault) → EndsAt bytes (Some n) → IsLine (take n bytes) (Err fault) → IsFirst bytes (Err fault)
no_line bytes n Other ends none = λ entry more readable same.
    let cut : bytes ≡ take n bytes ++ 10 ∷ drop (n + 1) bytes = sym (take-append-drop n bytes) ∙ ap (λ l. take n bytes ++ l) ends.2 in
    let line = same_lines (entry_text entry) (take n bytes) more (drop (n + 1) bytes) (one_line entry readable) ends.1 (sym (feed_behind entry more) ∙ same ∙ cut) in
    none entry readable line.0
no_line bytes n Memory ends none = tt

-- ---- histories

-- what begins with the line of an entry does so in one way
unique : (e f : Entry) (us vs : List ℕ) → IsReadable e → IsReadable f → entry_line e ++ us ≡ entry_line f ++ vs → (e ≡ f) × (us ≡ vs)
unique e f us vs p q same =
    let both = same_lines (entry_text e) (entry_text f) us vs (one_line e p) (one_line f q) (sym (feed_behind e us) ∙ same ∙ feed_behind f vs) in
    (same_entry e f p q both.0, both.1)

some_line : (e : Entry) (rest : List ℕ) → entry_line e ++ rest ≡ [] → ⊥
some_line e rest h = let n = ap length (sym (feed_behind e rest) ∙ h) in omega (arith, length-append (entry_text e) (10 ∷ rest))

pub same_history : (es fs : List Entry) → AreReadable es → AreReadable fs → history_text es ≡ history_text fs → es ≡ fs
same_history [] [] p q e = refl
same_history [] (f ∷ fs) p q e = absurd (some_line f (history_text fs) (sym e))
same_history (x ∷ es) [] p q e = absurd (some_line x (history_text es) e)
same_history (x ∷ es) (f ∷ fs) p q e =
    let both = unique x f (history_text es) (history_text fs) p.0 q.0 e in
    ap₂ (λ (y : Entry) (ys : List Entry). y ∷ ys) both.0 (same_history es fs p.1 q.1 both.1)

-- bytes that go on behind the lines of some entries with none are no history's
pub stuck : (before : List Entry) (rest : List ℕ) → AreReadable before → (rest ≡ [] → ⊥) → BeginsWithNone rest → (es : List Entry) → AreReadable es → history_text es ≡ history_text before ++ rest → ⊥
stuck [] rest p further none [] q e = further (sym e)
stuck [] rest p further none (x ∷ es) q e = none x (history_text es) q.0 e
stuck (b ∷ before) rest p further none [] q e = some_line b (history_text before ++ rest) (sym (append_assoc (entry_line b) (history_text before) rest) ∙ sym e)
stuck (b ∷ before) rest p further none (x ∷ es) q e =
    let both = unique x b (history_text es) (history_text before ++ rest) q.0 p.0 (e ∙ append_assoc (entry_line b) (history_text before) rest) in
    stuck before rest p.1 further none es q.1 both.1
