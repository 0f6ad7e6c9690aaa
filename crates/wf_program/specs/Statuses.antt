-- The exit status of each end of a run, and its text. All of it is this project's own.
use Rattle.std.specs.Prelude.{ℕ, List, [], ◌++◌, codes, decimal}
use Rattle.wf_program.specs.declared.status.Status.{Status}
use Rattle.wf_program.specs.declared.status.Status.TheVariants.{Done, Usage, ReadFault, WriteFault, NotJson, Refused, StoreFault, TooLarge, Memory, TooLong}

abbrev pub code_of : Status → ℕ
code_of Done = 0
code_of Usage = 2
code_of ReadFault = 3
code_of WriteFault = 4
code_of NotJson = 5
code_of Refused = 6
code_of StoreFault = 7
code_of TooLarge = 8
code_of Memory = 9
code_of TooLong = 10

-- The texts that are the same in every run. Done, NotJson, Refused and TooLarge have a text of their run, and WriteFault
-- has none.
abbrev pub fixed_text : Status → List ℕ
fixed_text Usage = codes "argo: usage: argo run/simulate/check/generate [options]\n"
fixed_text ReadFault = codes "argo: read fault\n"
fixed_text StoreFault = codes "argo: store fault\n"
fixed_text Memory = codes "argo: out of memory\n"
fixed_text TooLong = codes "argo: input too long\n"
fixed_text _ = []

-- the text of NotJson, where so many bytes were read
abbrev pub not_json_text : ℕ → List ℕ
not_json_text count = codes "argo: not JSON, " ++ decimal count ++ codes " bytes\n"
