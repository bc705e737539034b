-- What the notes of an opening tell.
use Rattle.std.proofs.Common.{ℕ, ◌+◌, ◌<◌, ◌≤◌, ◌^◌, Bool, true, false, List, [], ◌∷◌, length, arith}
use Rattle.std.specs.List.{AllByRecursion}
use Rattle.std.proofs.Math.Nat.{mod-le}
use Rattle.hay_needle.specs.declared.settings.Settings.{Settings}
use Rattle.hay_needle.specs.declared.settings.TheConstants.{MAX_REPLICAS, MAX_VOLUMES}
use Rattle.hay_reply.specs.Fits.{FitsNote}
use Rattle.hay_legal.specs.Known.{machine_of}
use Rattle.hay_legal.specs.Restarts.{kept_note, replica_notes}

-- THE NOTES

note_fits : (v m line : ℕ) (kept : Bool) → v < 2 ^ 32 → m < 2 ^ 32 → line < 2 ^ 64 → FitsNote (kept_note v m line kept)
note_fits v m line true volume machine large = (volume, machine, large)
note_fits v m line false volume machine large = (volume, machine, large)

-- each has numbers of its fields' types
pub notes_fit : (settings : Settings) (v line j : ℕ) (kept : List Bool) → v < MAX_VOLUMES → j + length kept ≤ MAX_REPLICAS → line < 2 ^ 64
    → AllByRecursion FitsNote (replica_notes settings v line j kept)
notes_fit settings v line j [] low few large = tt
notes_fit settings v line j (is ∷ kept) low few large =
    let most = mod-le (v + j) settings.machines in
    let machine : machine_of settings v j < 2 ^ 32 = omega (arith, most, low, few) in
    (note_fits v (machine_of settings v j) line is (omega (arith, low)) machine large, notes_fit settings v line (j + 1) kept low (omega (arith, few)) large)
