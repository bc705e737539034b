use Rattle.std.proofs.Common.{◌≡◌, map}
use Rattle.std.specs.Prelude.{Some}
use Rattle.std.specs.List.{AllByRecursion, AllZip, range_with_len}
use Rattle.hay_reply.specs.Fits.{FitsRefused}
use Rattle.hay_legal.specs.declared.known.Known.{Known}
use Rattle.hay_legal.specs.Known.{refusal_of, try_at}
use Rattle.hay_legal.specs.Suiting.{Refuses}
use Rattle.hay_cluster.specs.Seen.{RefusesPhoto, store_seen}
use Rattle.hay_cluster.specs.State.{Stands}
use Rattle.hay_cluster.proofs.cluster.Cluster.find_taker.Given as goal

abbrev pub invariant-loop-turn : goal.invariant-loop-turn
invariant-loop-turn g l = record {
  known : g.D.Disk.Tells → (k : Known) → Stands g.D.Disk.files g.D.Piece.Piece.Tells g.D.Disk.fault_count g.D.Disk.fuse_count g.A.Arm.fault_count l.fn.self k →
      map (refusal_of l.fn.self.settings k l.size) (map (try_at l.fn.self.settings l.pair) (range_with_len 0 l.turn)) ≡ map Some l.refused;
  refuses : AllZip (Refuses l.fn.self.settings l.size) (map (try_at l.fn.self.settings l.pair) (range_with_len 0 l.turn)) l.refused;
  fits : AllByRecursion FitsRefused l.refused;
  seen : AllZip (RefusesPhoto l.fn.self.settings (store_seen l.fn.self) l.size) (map (try_at l.fn.self.settings l.pair) (range_with_len 0 l.turn)) l.refused;
}
