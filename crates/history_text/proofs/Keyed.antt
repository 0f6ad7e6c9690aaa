-- The rank of an entry that is read is that of its key.
use Rattle.std.proofs.Common.{◌≡◌, ◌↔◌, ℕ, ℤ, Bool, true, false, cond, List, [], ◌∷◌, codes, Option, Some, None, IsTrue, IfSome, refl}
use Rattle.std.specs.Prelude.{bytes_eq}
use Rattle.serde_json.specs.Data.{Data}
use Rattle.tree_types.specs.declared.path.Sel.{Sel}
use Rattle.tree_types.specs.declared.path.LockId.{LockId}
use Rattle.tree_types.specs.declared.entry.Entry.{Entry}
use Rattle.tree_types.specs.declared.entry.Entry.TheVariants.{Submit, Write, Create, Finish, File, Release, Save, Tick}
use Rattle.tree_types.specs.declared.entry.HolderKey.{HolderKey}
use Rattle.tree_types.specs.declared.entry.Rank.{Rank}
use Rattle.history_text.specs.Readable.{RanksByKey}
use Rattle.history_text.specs.Inside.Reading.{◌>>=◌, part_at, text_at, text_or_null_at, whole_at, integer_at, priority_at, path_at, outcome_at, outputs_at, facts_at, lock_at, key_at, is_empty, rank_of, submit_of, write_of, create_of, finish_of, file_of, release_of, save_of, tick_of, entry_by, entry_of}

abbrev Keyed : Option Entry → Type 0
Keyed found = IfSome found RanksByKey

one : {A : Type 0} (make : A → Entry) → ((a : A) → RanksByKey (make a)) → (o : Option A) → Keyed (o >>= λ a. Some (make a))
one make kept None = tt
one make kept (Some a) = kept a

two : {A B : Type 0} (make : A → B → Entry) → ((a : A) (b : B) → RanksByKey (make a b)) → (o : Option A) (p : Option B) → Keyed (o >>= λ a. p >>= λ b. Some (make a b))
two make kept None p = tt
two make kept (Some a) p = one (make a) (kept a) p

three : {A B C : Type 0} (make : A → B → C → Entry) → ((a : A) (b : B) (c : C) → RanksByKey (make a b c)) → (o : Option A) (p : Option B) (q : Option C)
    → Keyed (o >>= λ a. p >>= λ b. q >>= λ c. Some (make a b c))
three make kept None p q = tt
three make kept (Some a) p q = two (make a) (kept a) p q

four : {A B C D : Type 0} (make : A → B → C → D → Entry) → ((a : A) (b : B) (c : C) (d : D) → RanksByKey (make a b c d)) → (o : Option A) (p : Option B) (q : Option C) (r : Option D)
    → Keyed (o >>= λ a. p >>= λ b. q >>= λ c. r >>= λ d. Some (make a b c d))
four make kept None p q r = tt
four make kept (Some a) p q r = three (make a) (kept a) p q r

five : {A B C D E : Type 0} (make : A → B → C → D → E → Entry) → ((a : A) (b : B) (c : C) (d : D) (e : E) → RanksByKey (make a b c d e))
    → (o : Option A) (p : Option B) (q : Option C) (r : Option D) (s : Option E) → Keyed (o >>= λ a. p >>= λ b. q >>= λ c. r >>= λ d. s >>= λ e. Some (make a b c d e))
five make kept None p q r s = tt
five make kept (Some a) p q r s = four (make a) (kept a) p q r s

-- ---- the rank of a key

own_of : (sels : List Sel) → IsTrue (is_empty sels) ↔ (sels ≡ [])
own_of [] = (λ _. refl, λ _. refl)
own_of (sel ∷ sels) = (λ e. absurd cc, λ e. absurd cc)

abbrev rank_by : HolderKey → ℤ → ℤ → List ℕ → Rank
rank_by key priority created name = record { priority = priority; created = created; workflow = key.workflow; own = is_empty key.path.sels; name = name }

filed : (lock : LockId) (key : HolderKey) (o p : Option ℤ) (q : Option (List ℕ))
    → Keyed ((o >>= λ priority. p >>= λ created. q >>= λ name. Some (rank_by key priority created name)) >>= λ rank. Some (File lock key rank))
filed lock key None p q = tt
filed lock key (Some priority) None q = tt
filed lock key (Some priority) (Some created) None = tt
filed lock key (Some priority) (Some created) (Some name) = (refl, own_of key.path.sels)

filed_at : (lock : LockId) (key : HolderKey) (part : Option Data) → Keyed ((part >>= rank_of key) >>= λ rank. Some (File lock key rank))
filed_at lock key None = tt
filed_at lock key (Some part) = filed lock key (priority_at 0 part) (integer_at 1 part) (text_at 2 part)

filed_by : (lock : Option LockId) (key : Option HolderKey) (part : Option Data) → Keyed (lock >>= λ l. key >>= λ k. (part >>= rank_of k) >>= λ rank. Some (File l k rank))
filed_by None key part = tt
filed_by (Some lock) None part = tt
filed_by (Some lock) (Some key) part = filed_at lock key part

-- ---- all entries

chosen : (b : Bool) (x y : Option Entry) → Keyed x → Keyed y → Keyed (cond b x y)
chosen true x y p q = p
chosen false x y p q = q

by_word : (word : List ℕ) (d : Data) → Keyed (entry_by word d)
by_word word d =
    chosen (bytes_eq word (codes "submit")) (submit_of d) _ (three Submit (λ _ _ _. tt) (text_at 1 d) (text_or_null_at 2 d) (facts_at 3 d))
    (chosen (bytes_eq word (codes "write")) (write_of d) _ (three Write (λ _ _ _. tt) (text_at 1 d) (whole_at 2 d) (facts_at 3 d))
    (chosen (bytes_eq word (codes "create")) (create_of d) _ (four Create (λ _ _ _ _. tt) (text_at 1 d) (text_at 2 d) (path_at 3 d) (whole_at 4 d))
    (chosen (bytes_eq word (codes "finish")) (finish_of d) _ (three Finish (λ _ _ _. tt) (text_at 1 d) (text_at 2 d) (outcome_at 3 d))
    (chosen (bytes_eq word (codes "file")) (file_of d) _ (filed_by (lock_at 1 d) (key_at 2 3 d) (part_at 4 d))
    (chosen (bytes_eq word (codes "release")) (release_of d) _ (two Release (λ _ _. tt) (lock_at 1 d) (key_at 2 3 d))
    (chosen (bytes_eq word (codes "save")) (save_of d) _ (five Save (λ _ _ _ _ _. tt) (text_at 1 d) (text_at 2 d) (key_at 3 4 d) (outputs_at 5 d) (whole_at 6 d))
    (chosen (bytes_eq word (codes "tick")) (tick_of d) None (one Tick (λ _. tt) (whole_at 1 d))
    tt)))))))

after_word : (word : Option (List ℕ)) (d : Data) → Keyed (word >>= λ w. entry_by w d)
after_word None d = tt
after_word (Some word) d = by_word word d

pub keyed : (d : Data) → IfSome (entry_of d) RanksByKey
keyed d = after_word (text_at 0 d) d
