use Rattle.std.proofs.Common.{◌≡◌, ◌^◌, ◌<◌, ◌≤◌, ◌⊎◌, [], length}
use Rattle.std.specs.Vec.{vec_capacity}
use Rattle.hay_disk.specs.Counts.{StaysSure}
use Rattle.hay_reader.specs.Causes.{PassesRow}
use Rattle.hay_reader.proofs.Passing.{arm_use}
use Rattle.hay_reader.proofs.seat.LaneSeat.show_more.Given as goal

abbrev pub invariant-loop-step : goal.invariant-loop-step
invariant-loop-step g l = record {
  passed : PassesRow g.P.Piece.Tells (arm_use (g.A.Arm.is_sure l.initial.self) (g.A.Arm.fault_count l.initial.self) (g.A.Arm.fault_count l.self)) l.start l.row l.cookie l.fn.passed l.causes;
  long : length l.causes ≡ l.step;
  within : l.step ≤ length l.row;
  later : g.A.Arm.fault_count l.initial.self ≤ g.A.Arm.fault_count l.self;
  most : (g.A.Arm.fault_count l.self ≡ g.A.Arm.fault_count l.initial.self) ⊎ (g.A.Arm.fault_count l.self < 2 ^ 64);
  stays_sure : StaysSure (g.A.Arm.is_sure l.initial.self) (g.A.Arm.is_sure l.self) (g.A.Arm.fault_count l.initial.self) (g.A.Arm.fault_count l.self);
  empty : l.out.items ≡ [];
  room : vec_capacity l.initial.out ≤ vec_capacity l.out;
}
