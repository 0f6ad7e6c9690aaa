-- Tasks that see no tag of those that they wait for.
use Rattle.std.specs.Prelude.{◌≡◌, ◌⊎◌, List, None, false, codes}
use Rattle.wf_manifest.specs.declared.calls.Task.{Task}
use Rattle.meaning.specs.Dags.{awaited}
use Rattle.mentions.specs.Mentions.{call_asks}

-- it waits for none, or asks for no such tag
abbrev pub SeesNone : List Task → Task → Type 0
SeesNone ts t = (awaited ts t ≡ None) ⊎ (call_asks (codes "tasks.") t.call ≡ false)
