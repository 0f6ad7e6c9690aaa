-- The rules by which a document is refused. The rules and the numbers by which they are printed are this project's own;
-- what is asked by them is said where they are cited.
use Rattle.std.specs.Prelude.{ℕ}

-- ---- a value, as it is read

-- the kind of an item is none that is known, or its `apiVersion` is another
abbrev pub unknown_kind : ℕ
unknown_kind = 1

-- a required field is not there
abbrev pub missing : ℕ
missing = 2

-- a value has another kind, or a number is out of its range
abbrev pub wrong_kind : ℕ
wrong_kind = 3

-- a field may not say anything, or not beside another
abbrev pub unsupported : ℕ
unsupported = 4

-- a text is not of its grammar
abbrev pub bad_text : ℕ
bad_text = 5

-- a list, or the document, is too long
abbrev pub too_many : ℕ
too_many = 6

-- ---- a resource, once it is read

-- what is named is not there: a template, a task in `depends`, `dependencies` or `target`, or a step or task in a tag
abbrev pub unknown_name : ℕ
unknown_name = 11

-- two of one list have one name
abbrev pub double_name : ℕ
double_name = 12

-- a name of a step, task or parameter is not of its grammar
abbrev pub bad_name : ℕ
bad_name = 13

-- a tag names a parameter that is not declared, or a call gives an input no value
abbrev pub unknown_parameter : ℕ
unknown_parameter = 14

-- a tag names a step of no earlier group, or a task that is no ancestor
abbrev pub not_ancestor : ℕ
not_ancestor = 15

-- tasks depend on each other in a circle
abbrev pub cycle : ℕ
cycle = 16

-- a DAG says in two ways what its tasks wait for
abbrev pub depends_mix : ℕ
depends_mix = 17

-- a semaphore has no limit
abbrev pub unknown_lock : ℕ
unknown_lock = 18

-- a tag is none that is known, or stands where it may not
abbrev pub misplaced_tag : ℕ
misplaced_tag = 19

-- ---- the document as a whole

-- a second one for the same thing, as two outcomes for one pod
abbrev pub second : ℕ
second = 21

-- a command or a step of the schedule names a workflow that is not there
abbrev pub no_workflow : ℕ
no_workflow = 22

-- a step of the schedule is of none of its forms, or of no hand
abbrev pub bad_schedule : ℕ
bad_schedule = 23
