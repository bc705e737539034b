use Rattle.hay_audit.proofs.Noting.{NotesRead}
use Rattle.std.proofs.Common.{◌-◌, length}
use Rattle.hay_audit.proofs.notes.read_notes.Given as goal

abbrev pub invariant-loop-alloc : goal.invariant-loop-alloc
invariant-loop-alloc l = NotesRead l.text l.count l.notes l.behind

abbrev pub decreases-loop-alloc : goal.decreases-loop-alloc
decreases-loop-alloc l = l.count - length l.notes
