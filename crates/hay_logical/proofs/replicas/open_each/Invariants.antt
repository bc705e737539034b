use Rattle.std.proofs.Common.{◌≡◌, ◌≤◌, ℕ, length}
use Rattle.hay_needle.specs.declared.needle.Pair.{Pair}
use Rattle.hay_map.specs.Places.{place_in}
use Rattle.hay_map.specs.Rows.{row_at}
use Rattle.hay_map.specs.declared.place.Place.TheVariants as place
use Rattle.hay_logical.specs.Draws.{DrewRecordedAt}
use Rattle.hay_logical.specs.ReplicaCalls.{KeepsDisk, LeftAt, OpensAt}
use Rattle.hay_logical.proofs.Calls.{Counted}
use Rattle.hay_logical.proofs.Lists.{Went}
use Rattle.hay_logical.proofs.replicas.open_each.Given as goal

abbrev pub invariant-loop-j : goal.invariant-loop-j
invariant-loop-j g l = record {
  went : Went (λ i r r'. OpensAt g.D.Disk.Tells g.D.Disk.files g.D.Piece.Piece.Tells l.rows i r r' × Counted g.D.Disk.fault_count g.D.Disk.fuse_count r r'
      × LeftAt g.D.Disk.Tells g.D.Disk.files r r' × (g.D.Disk.Tells → KeepsDisk g.D.Disk.files r r')
      × (g.D.Disk.Tells → DrewRecordedAt g.D.Disk.files g.D.Disk.drawn l.rows i r r')) l.j l.fn.replicas l.replicas;
  width : l.rows.replicas ≡ length l.fn.replicas;
  long : (pair : Pair) → length (row_at l.rows pair) ≡ l.rows.replicas;
  empty : (pair : Pair) (i : ℕ) → l.j ≤ i → place_in (row_at l.rows pair) i ≡ place.None;
}
