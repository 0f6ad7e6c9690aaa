-- The limits, each in one place. All of them are this project's own but for the lengths of a workflow's name (Kubernetes,
-- "Object Names and IDs") and of a key of a ConfigMap.
use Rattle.std.specs.Prelude.{ℕ}

-- ---- texts

-- the bytes of a document
abbrev pub longest_input : ℕ
longest_input = 16777216

-- the bytes of the name of a step or task
abbrev pub longest_name : ℕ
longest_name = 128

-- the bytes of the name of a workflow
abbrev pub longest_workflow_name : ℕ
longest_workflow_name = 253

-- the `!` and `(` that are open at once in a `when` or a `depends`
abbrev pub most_levels : ℕ
most_levels = 64

-- the seconds of a span of time: 365 days
abbrev pub most_seconds : ℕ
most_seconds = 31536000

-- the bytes of the name of a key of a ConfigMap (Kubernetes, "ConfigMaps")
abbrev pub longest_config_key : ℕ
longest_config_key = 253

-- the greatest tick that a document may name, in seconds of Unix time
abbrev pub latest_tick : ℕ
latest_tick = 1000000000000

-- ---- documents

-- the items of a document
abbrev pub most_list_items : ℕ
most_list_items = 10000

-- the workflows of a document, those of resubmissions among them
abbrev pub most_workflows : ℕ
most_workflows = 500

-- the steps of a schedule
abbrev pub most_schedule_steps : ℕ
most_schedule_steps = 100000

-- ---- manifests

-- the members of a list: templates, groups, the steps of a group, the tasks of a DAG, parameters and arguments
abbrev pub most_members : ℕ
most_members = 1000

-- the retries that `limit` may allow
abbrev pub most_retries : ℕ
most_retries = 1000

-- the factor of a backoff
abbrev pub most_factor : ℕ
most_factor = 1000

-- the holders of a lock that a ConfigMap may allow
abbrev pub most_holders : ℕ
most_holders = 1000

-- ---- runs

-- the workers of a run
abbrev pub most_workers : ℕ
most_workers = 64

-- the workflows that `generate` makes
abbrev pub most_size : ℕ
most_size = 500

-- ---- trees

-- the depth of a call
abbrev pub most_depth : ℕ
most_depth = 32

-- the items of a loop
abbrev pub most_items : ℕ
most_items = 1000

-- the attempts of a retry without a limit
abbrev pub most_attempts : ℕ
most_attempts = 100

-- the nodes of a tree
abbrev pub most_nodes : ℕ
most_nodes = 10000
