-- The device calls of each work on one replica, in order: what each does where it is made, and what its failure does.
use Rattle.std.specs.Prelude.{ℕ, zero, suc, ◌+◌, ◌-◌, List, [], ◌∷◌, ◌++◌, length, drop, not, false, nat_lt, ◌&&◌, if◌then◌else◌, Option, Some, None, slice_get, option_map, is_some}
use Rattle.hay_needle.specs.declared.needle.Pair.{Pair}
use Rattle.hay_needle.specs.declared.needle.Photo.{Photo}
use Rattle.hay_needle.specs.declared.needle.Needle.{Needle}
use Rattle.hay_needle.specs.declared.needle.Version.TheVariants.{Two}
use Rattle.hay_needle.specs.Tables.{lacks, is_live}
use Rattle.hay_core.specs.declared.machine.Side.{Side}
use Rattle.hay_core.specs.declared.machine.Doubt.TheVariants as doubt
use Rattle.hay_core.specs.declared.machine.Work.{Work}
use Rattle.hay_core.specs.declared.machine.Work.TheVariants as work
use Rattle.hay_core.specs.declared.calls.Copied.{Copied}
use Rattle.hay_core.specs.declared.calls.Effect.{Effect}
use Rattle.hay_core.specs.declared.calls.Effect.TheVariants.{Quiet, Doubts, Settles, MarksRows, SettlesRows, Repeats, Makes, Copies}
use Rattle.hay_core.specs.declared.calls.Harm.{Harm}
use Rattle.hay_core.specs.declared.calls.Harm.TheVariants.{Freezes, Fails, Ends, GoesOn}
use Rattle.hay_core.specs.declared.calls.DeviceCall.{DeviceCall}

abbrev pub call : Harm → Effect → DeviceCall
call harm effect = record { effect = effect; harm = harm }

-- a gated append: body, sync, magic, sync
abbrev pub gated : Harm → Effect → Effect → List DeviceCall
gated harm magic sync = call harm Quiet ∷ call harm Quiet ∷ call harm magic ∷ call harm sync ∷ []

abbrev pub live_needle : Pair → Photo → Needle
live_needle pair photo = record { version = Two; pair = pair; photo = photo; deleted = false }

-- PUT: one gated append
abbrev pub put_calls : Needle → List DeviceCall
put_calls needle = gated Freezes (Doubts (doubt.Cell needle)) (Settles (doubt.Cell needle))

-- DELETE: the flag in the current file and its sync, and the flag in the next generation's file, where the pair has a needle there
abbrev pub delete_calls : Pair → Side → List DeviceCall
delete_calls pair s =
    call Freezes (Doubts (doubt.Flag pair)) ∷ call Freezes (Settles (doubt.Flag pair))
    ∷ (if (is_some s.copy && not (lacks pair s.fresh)) then call GoesOn (Repeats pair) ∷ [] else [])

-- FLUSH: one gated append, where records are wanting
abbrev pub flush_calls : Side → List DeviceCall
flush_calls s = if nat_lt s.rows (length s.current) then gated Fails MarksRows SettlesRows else []

-- START of a compaction: two removals, and the front of either new file
abbrev pub start_calls : List DeviceCall
start_calls = call Ends Quiet ∷ call Ends Quiet ∷ call Ends Quiet ∷ call Ends Makes ∷ []

-- STEP of a compaction: the live needles among those that are examined
abbrev pub one_more : Copied → Copied
one_more x = record { needle = x.needle; passed = x.passed + 1 }

-- the first live one of these needles, within the first `budget` of them
abbrev pub copy_next : ℕ → List Needle → Option Copied
copy_next zero needles = None
copy_next (suc budget) [] = None
copy_next (suc budget) (n ∷ needles) =
    if is_live n needles then Some (record { needle = n; passed = 1 }) else option_map one_more (copy_next budget needles)

abbrev pub copy_call : Option Copied → Option DeviceCall
copy_call None = None
copy_call (Some x) = Some (call Ends (Copies x))

abbrev pub step_call : Option ℕ → ℕ → Side → Option DeviceCall
step_call None budget s = None
step_call (Some examined) budget s = copy_call (copy_next budget (drop examined s.current))

-- FINISH: copies of what is left; the new index's block, where a needle was copied, and a sync of either new file; the row of the
-- head file, from which on no compaction stands; and the removal of the old files, of which the progress counts afresh
abbrev pub closing_calls : List Needle → List DeviceCall
closing_calls [] = call Ends Quiet ∷ call Ends Quiet ∷ []
closing_calls (n ∷ needles) = call Ends Quiet ∷ call Ends Quiet ∷ call Ends Quiet ∷ []

abbrev pub finish_calls : List Needle → List DeviceCall
finish_calls copied = closing_calls copied ++ gated Freezes (Doubts doubt.Head) (Settles doubt.Head)

abbrev pub removals : List DeviceCall
removals = call GoesOn Quiet ∷ call GoesOn Quiet ∷ []

abbrev pub closing_call : Option Copied → ℕ → Side → Option DeviceCall
closing_call None progress s = slice_get (finish_calls s.fresh) progress
closing_call (Some x) progress s = copy_call (Some x)

abbrev pub finish_call : Option ℕ → ℕ → Side → Option DeviceCall
finish_call None progress s = slice_get removals progress
finish_call (Some examined) progress s = closing_call (copy_next (length s.current) (drop examined s.current)) progress s

-- THE NEXT CALL

abbrev pub call_at : Work → ℕ → Side → Option DeviceCall
call_at (work.Put pair photo) progress s = slice_get (put_calls (live_needle pair photo)) progress
call_at (work.Del pair) progress s = slice_get (delete_calls pair s) progress
call_at (work.Flush side) progress s = slice_get (flush_calls s) progress
call_at (work.Start side) progress s = slice_get start_calls progress
call_at (work.Step side cells) progress s = step_call s.copy (cells - progress) s
call_at (work.Finish side) progress s = finish_call s.copy progress s

abbrev pub call_from : Work → Option ℕ → Side → Option DeviceCall
call_from w None s = None
call_from w (Some progress) s = call_at w progress s

-- the device call of the holding that is next on this replica, if there is one
abbrev pub call_of : Work → Side → Option DeviceCall
call_of w s = call_from w s.progress s
