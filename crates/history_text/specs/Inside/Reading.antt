-- The entry of a line's data. Data of no entry has none, or has some entry that is written otherwise.
use Rattle.std.specs.Prelude.{◌≡◌, refl, ℕ, ℤ, ◌+◌, ◌-◌, ◌*◌, ◌^◌, ◌&&◌, ◌==◌, nat_lt, Bool, true, false, if◌then◌else◌, List, [], ◌∷◌, Option, Some, None, Result, Ok, Err, option_and_then, length, bytes_eq, codes}
use Rattle.std.specs.Char.{is_ascii_digit}
use Rattle.std.specs.List.{slice_split}
use lib.Signed.{mag}
use Rattle.serde_json.specs.Data.{Data, null, string, Items, no_items, item}
use Rattle.serde_json.specs.Find.{at, as_str, as_bool, as_number, as_array, as_u64, as_i64}
use Rattle.tree_types.specs.declared.phase.Phase.{Phase}
use Rattle.tree_types.specs.declared.phase.Phase.TheVariants.{Succeeded, Failed, Error}
use Rattle.tree_types.specs.declared.path.Sel.{Sel}
use Rattle.tree_types.specs.declared.path.Sel.TheVariants.{Main, Exit, Group, Step, Task, Item, Attempt}
use Rattle.tree_types.specs.declared.path.Path.{Path}
use Rattle.tree_types.specs.declared.path.LockId.{LockId}
use Rattle.tree_types.specs.declared.outcome.Param.{Param}
use Rattle.tree_types.specs.declared.outcome.Outcome.{Outcome}
use Rattle.tree_types.specs.declared.outcome.Outputs.{Outputs}
use Rattle.tree_types.specs.declared.fact.Fact.{Fact}
use Rattle.tree_types.specs.declared.fact.Fact.TheVariants.{Started, Settled, Carried, Granted, Memo, Armed, Due, Resumed, Begun}
use Rattle.tree_types.specs.declared.entry.Entry.{Entry}
use Rattle.tree_types.specs.declared.entry.Entry.TheVariants.{Submit, Write, Create, Finish, File, Release, Save, Tick}
use Rattle.tree_types.specs.declared.entry.HolderKey.{HolderKey}
use Rattle.tree_types.specs.declared.entry.Rank.{Rank}
use Rattle.history_text.specs.declared.left.Left.{Left}
use Rattle.history_text.specs.declared.fault.Fault.{Fault}
use Rattle.history_text.specs.declared.fault.Fault.TheVariants.{Other, Memory}

-- what comes later is asked only where there is a value
infixl 10 ◌>>=◌
abbrev pub ◌>>=◌ : {A B : Type 0} → Option A → (A → Option B) → Option B
found >>= later = option_and_then later found

-- a call answered, seen by `see`, what is meant, or that nothing is, or that there was no memory
abbrev pub Gives : {X Y : Type 0} → (X → Y) → Result X Fault → Option Y → Type 0
Gives see (Ok x) meant = meant ≡ Some (see x)
Gives see (Err Other) meant = meant ≡ None
Gives see (Err Memory) meant = Unit {0}

-- each one's, in order; none where one has none
abbrev pub all_of : {A B : Type 0} → (A → Option B) → List A → Option (List B)
all_of f [] = Some []
all_of f (x ∷ xs) = f x >>= λ y. all_of f xs >>= λ ys. Some (y ∷ ys)

-- ---- places

-- the number of 32 bits that these digits go on with
abbrev pub number_after : ℕ → List ℕ → Option ℕ
number_after n [] = Some n
number_after n (c ∷ cs) =
    if is_ascii_digit c && nat_lt (10 * n + (c - 48)) (2 ^ 32) then number_after (10 * n + (c - 48)) cs else None

abbrev pub sel_by : ℕ → ℕ → Option Sel
sel_by letter n =
    if letter == 103 then Some (Group n)
    else (if letter == 115 then Some (Step n)
    else (if letter == 116 then Some (Task n)
    else (if letter == 105 then Some (Item n)
    else (if letter == 97 then Some (Attempt n)
    else None))))

abbrev pub numbered : List ℕ → Option Sel
numbered [] = None
numbered (letter ∷ digits) = number_after 0 digits >>= sel_by letter

abbrev pub sel_of : List ℕ → Option Sel
sel_of part =
    if bytes_eq part (codes "main") then Some Main
    else (if bytes_eq part (codes "exit") then Some Exit
    else numbered part)

abbrev pub path_of : List ℕ → Option Path
path_of text =
    if length text == 0 then Some (record { sels = [] })
    else (all_of sel_of (slice_split (λ b. b == 47) text) >>= λ sels. Some (record { sels = sels }))

-- ---- the parts of a list

abbrev pub part_at : ℕ → Data → Option Data
part_at i d = at i d

abbrev pub text_at : ℕ → Data → Option (List ℕ)
text_at i d = part_at i d >>= as_str

abbrev pub whole_at : ℕ → Data → Option ℕ
whole_at i d = part_at i d >>= as_number >>= as_u64

abbrev pub integer_at : ℕ → Data → Option ℤ
integer_at i d = part_at i d >>= as_number >>= as_i64

abbrev pub flag_at : ℕ → Data → Option Bool
flag_at i d = part_at i d >>= as_bool

abbrev pub path_at : ℕ → Data → Option Path
path_at i d = text_at i d >>= path_of

abbrev pub text_or_null_of : Data → Option (Option (List ℕ))
text_or_null_of null = Some None
text_or_null_of (string s) = Some (Some s)
text_or_null_of _ = None

abbrev pub text_or_null_at : ℕ → Data → Option (Option (List ℕ))
text_or_null_at i d = part_at i d >>= text_or_null_of

abbrev pub parts_in : Items → List Data
parts_in no_items = []
parts_in (item d ds) = d ∷ parts_in ds

-- the parts of the list that stands at this place
abbrev pub parts_at : ℕ → Data → Option (List Data)
parts_at i d = part_at i d >>= as_array >>= λ ds. Some (parts_in ds)

abbrev pub param_of : Data → Option Param
param_of d = text_at 0 d >>= λ name. text_at 1 d >>= λ value. Some (record { name = name; value = value })

abbrev pub params_at : ℕ → Data → Option (List Param)
params_at i d = parts_at i d >>= all_of param_of

abbrev pub outputs_of : Data → Option Outputs
outputs_of d = text_or_null_at 0 d >>= λ result. params_at 1 d >>= λ params. Some (record { result = result; params = params })

abbrev pub outputs_at : ℕ → Data → Option Outputs
outputs_at i d = part_at i d >>= outputs_of

-- the phases in which a pod can end
abbrev pub end_of : List ℕ → Option Phase
end_of word =
    if bytes_eq word (codes "Succeeded") then Some Succeeded
    else (if bytes_eq word (codes "Failed") then Some Failed
    else (if bytes_eq word (codes "Error") then Some Error
    else None))

abbrev pub outcome_by : Phase → Left → Option Outcome
outcome_by Succeeded left =
    Some (record { phase = Succeeded; result = left.result; params = left.params; transient = left.transient; begin = left.begin; finish = left.finish; ended = refl })
outcome_by Failed left =
    Some (record { phase = Failed; result = left.result; params = left.params; transient = left.transient; begin = left.begin; finish = left.finish; ended = refl })
outcome_by Error left =
    Some (record { phase = Error; result = left.result; params = left.params; transient = left.transient; begin = left.begin; finish = left.finish; ended = refl })
outcome_by _ left = None

-- what an outcome says beside its phase
abbrev pub left_of : Data → Option Left
left_of d =
    text_or_null_at 1 d >>= λ result. params_at 2 d >>= λ params. flag_at 3 d >>= λ transient. whole_at 4 d >>= λ begin. whole_at 5 d >>= λ finish.
    Some (record { result = result; params = params; transient = transient; begin = begin; finish = finish })

abbrev pub outcome_of : Data → Option Outcome
outcome_of d = text_at 0 d >>= end_of >>= λ phase. left_of d >>= outcome_by phase

abbrev pub outcome_at : ℕ → Data → Option Outcome
outcome_at i d = part_at i d >>= outcome_of

-- ---- facts

abbrev pub settled_of : Data → Option Fact
settled_of d = path_at 1 d >>= λ path. outcome_at 2 d >>= λ outcome. Some (Settled path outcome)

abbrev pub carried_of : Data → Option Fact
carried_of d = path_at 1 d >>= λ path. outcome_at 2 d >>= λ outcome. Some (Carried path outcome)

abbrev pub answer_of : List ℕ → Data → Option (Option Outputs)
answer_of word d =
    if bytes_eq word (codes "hit") then (outputs_at 3 d >>= λ outputs. Some (Some outputs))
    else (if bytes_eq word (codes "miss") then Some None
    else None)

abbrev pub memo_of : Data → Option Fact
memo_of d = path_at 1 d >>= λ path. text_at 2 d >>= λ word. answer_of word d >>= λ answer. Some (Memo path answer)

abbrev pub armed_of : Data → Option Fact
armed_of d = path_at 1 d >>= λ path. whole_at 2 d >>= λ tick. Some (Armed path tick)

abbrev pub fact_by : List ℕ → Data → Option Fact
fact_by word d =
    if bytes_eq word (codes "started") then Some Started
    else (if bytes_eq word (codes "settled") then settled_of d
    else (if bytes_eq word (codes "carried") then carried_of d
    else (if bytes_eq word (codes "granted") then (path_at 1 d >>= λ path. Some (Granted path))
    else (if bytes_eq word (codes "memo") then memo_of d
    else (if bytes_eq word (codes "armed") then armed_of d
    else (if bytes_eq word (codes "due") then (path_at 1 d >>= λ path. Some (Due path))
    else (if bytes_eq word (codes "resumed") then (path_at 1 d >>= λ path. Some (Resumed path))
    else (if bytes_eq word (codes "begun") then (path_at 1 d >>= λ path. Some (Begun path))
    else None))))))))

abbrev pub fact_of : Data → Option Fact
fact_of d = text_at 0 d >>= λ word. fact_by word d

abbrev pub facts_at : ℕ → Data → Option (List Fact)
facts_at i d = parts_at i d >>= all_of fact_of

-- ---- entries

abbrev pub lock_at : ℕ → Data → Option LockId
lock_at i d = text_at i d >>= λ text. Some (record { text = text })

-- a key whose workflow and path stand at these places
abbrev pub key_at : ℕ → ℕ → Data → Option HolderKey
key_at i j d = text_at i d >>= λ workflow. path_at j d >>= λ path. Some (record { workflow = workflow; path = path })

-- a number of 32 signed bits
abbrev pub in_32_bits : ℤ → Option ℤ
in_32_bits z = if nat_lt (mag z) (2 ^ 31) then Some z else None

abbrev pub priority_at : ℕ → Data → Option ℤ
priority_at i d = integer_at i d >>= in_32_bits

abbrev pub is_empty : List Sel → Bool
is_empty [] = true
is_empty (sel ∷ sels) = false

-- the rank that a key has with these data
abbrev pub rank_of : HolderKey → Data → Option Rank
rank_of key d =
    priority_at 0 d >>= λ priority. integer_at 1 d >>= λ created. text_at 2 d >>= λ name.
    Some (record { priority = priority; created = created; workflow = key.workflow; own = is_empty key.path.sels; name = name })

abbrev pub rank_at : HolderKey → ℕ → Data → Option Rank
rank_at key i d = part_at i d >>= rank_of key

abbrev pub submit_of : Data → Option Entry
submit_of d = text_at 1 d >>= λ workflow. text_or_null_at 2 d >>= λ old. facts_at 3 d >>= λ facts. Some (Submit workflow old facts)

abbrev pub write_of : Data → Option Entry
write_of d = text_at 1 d >>= λ workflow. whole_at 2 d >>= λ version. facts_at 3 d >>= λ facts. Some (Write workflow version facts)

abbrev pub create_of : Data → Option Entry
create_of d =
    text_at 1 d >>= λ workflow. text_at 2 d >>= λ node. path_at 3 d >>= λ path. whole_at 4 d >>= λ begin.
    Some (Create workflow node path begin)

abbrev pub finish_of : Data → Option Entry
finish_of d = text_at 1 d >>= λ workflow. text_at 2 d >>= λ node. outcome_at 3 d >>= λ outcome. Some (Finish workflow node outcome)

abbrev pub file_of : Data → Option Entry
file_of d = lock_at 1 d >>= λ lock. key_at 2 3 d >>= λ key. rank_at key 4 d >>= λ rank. Some (File lock key rank)

abbrev pub release_of : Data → Option Entry
release_of d = lock_at 1 d >>= λ lock. key_at 2 3 d >>= λ key. Some (Release lock key)

abbrev pub save_of : Data → Option Entry
save_of d =
    text_at 1 d >>= λ cache. text_at 2 d >>= λ key. key_at 3 4 d >>= λ writer. outputs_at 5 d >>= λ outputs. whole_at 6 d >>= λ tick.
    Some (Save cache key writer outputs tick)

abbrev pub tick_of : Data → Option Entry
tick_of d = whole_at 1 d >>= λ to. Some (Tick to)

abbrev pub entry_by : List ℕ → Data → Option Entry
entry_by word d =
    if bytes_eq word (codes "submit") then submit_of d
    else (if bytes_eq word (codes "write") then write_of d
    else (if bytes_eq word (codes "create") then create_of d
    else (if bytes_eq word (codes "finish") then finish_of d
    else (if bytes_eq word (codes "file") then file_of d
    else (if bytes_eq word (codes "release") then release_of d
    else (if bytes_eq word (codes "save") then save_of d
    else (if bytes_eq word (codes "tick") then tick_of d
    else None)))))))

abbrev pub entry_of : Data → Option Entry
entry_of d = text_at 0 d >>= λ word. entry_by word d
