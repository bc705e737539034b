use Rattle.std.proofs.Common.{◌≡◌, ◌≤◌, ◌+◌, ◌++◌, map, vec_len, vec_capacity}
use Rattle.std.specs.List.{AllByRecursion}
use Rattle.std.specs.Vec.Iter.{into_iter_items, into_iter_len}
use Rattle.hay_reply.specs.Fits.{FitsNote}
use Rattle.hay_cluster_block.specs.Notes.{note_of_log}
use Rattle.hay_cluster_block.proofs.notes.log_notes.Given as goal

abbrev pub invariant-loop-log : goal.invariant-loop-log
invariant-loop-log l = record {
  notes : l.notes.items ++ map note_of_log (into_iter_items l.log-iterator) ≡ map note_of_log l.fn.logs.items;
  fits : AllByRecursion FitsNote l.notes.items;
  room : vec_len l.notes + into_iter_len l.log-iterator ≤ vec_capacity l.notes;
}
