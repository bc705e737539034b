-- What a source and a sink in memory tell.
use Rattle.std.specs.Prelude.{ℕ, List, Option, Some, drop}
use Rattle.hay_run.specs.declared.held.HeldScript.{HeldScript}
use Rattle.hay_run.specs.declared.held.HeldTranscript.{HeldTranscript}

-- the bytes left
abbrev pub script_left : HeldScript → Option (List ℕ)
script_left source = Some (drop source.taken source.bytes.items)

-- no read fails
abbrev pub script_faults : HeldScript → ℕ
script_faults source = 0

-- the bytes written
abbrev pub transcript_written : HeldTranscript → Option (List ℕ)
transcript_written sink = Some sink.bytes.items

-- how many writes have failed
abbrev pub transcript_faults : HeldTranscript → ℕ
transcript_faults sink = sink.faults
