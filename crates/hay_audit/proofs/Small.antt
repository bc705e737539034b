-- Sizes of one replica, among those of all.
use Rattle.std.proofs.Common.{◌≡◌, ℕ, zero, suc, ◌<◌, ◌≤◌, List, [], ◌∷◌, length, subst, sym, arith}
use Rattle.std.specs.Prelude.{◌^◌, slice_index_or}
use Rattle.std.specs.List.{AllByRecursion as Each}
use Rattle.hay_legal.specs.declared.known.ReplicaKnown.{ReplicaKnown}
use Rattle.hay_legal.specs.declared.known.VolumeKnown.{VolumeKnown}
use Rattle.hay_legal.specs.Known.{empty_replica, empty_volume}
use Rattle.hay_audit_steps.specs.Boxes.{Box}
use Rattle.hay_audit_steps.specs.Slacks.{Slack, no_slack}
use Rattle.hay_audit.specs.Sizes.{IsSlight, IsSmall, IsSmallAt, MayGrow, VolumeMayGrow}

pub each_index : {X : Type 0} (P : X → Type 0) (xs : List X) (i : ℕ) (d : X) → P d → Each P xs → P (slice_index_or xs i d)
each_index P [] i d g h = g
each_index P (x ∷ xs) zero d g h = h.0
each_index P (x ∷ xs) (suc i) d g h = each_index P xs i d g h.1

pub small_at : (box : Box) (v j : ℕ) → IsSmall box → IsSmallAt box v j
small_at box v j h = record {
  replica = each_index MayGrow (slice_index_or box.base.volumes v empty_volume).replicas j empty_replica (omega arith, omega arith, omega arith, omega arith, tt)
      (each_index VolumeMayGrow box.base.volumes v empty_volume (tt, tt) h.volumes).1;
  most = each_index IsSlight (slice_index_or box.high v []) j no_slack (record { end = omega arith; cells = omega arith; bare = omega arith })
      (each_index (λ row. Each IsSlight row) box.high v [] tt h.most);
}

pub each_at : {X : Type 0} (P : X → Type 0) (xs : List X) (i : ℕ) (x : X) → i < length xs → x ≡ slice_index_or xs i x → Each P xs → P x
each_at P [] i x less is h = absurd (omega (arith, less))
each_at P (y ∷ xs) zero x less is h = subst (λ (z : _). P z) (sym is) h.0
each_at P (y ∷ xs) (suc i) x less is h = each_at P xs i x (omega (arith, less)) is h.1
