-- What openings read, told of the disks that are given back.
use Rattle.std.proofs.Common.{◌≡◌, ℕ, ◌+◌, ◌<◌, ◌≤◌, sym, subst, arith}
use Rattle.std.proofs.Math.Nat.{mul-le-mul_left}
use Rattle.std.specs.Prelude.{None}
use Rattle.hay_needle.specs.declared.settings.Settings.{Settings}
use Rattle.hay_open.specs.Stored.{volume_file}
use Rattle.hay_legal.specs.declared.known.Known.{Known}
use Rattle.hay_legal.specs.Known.{disk_count, replica_at, slot_of, volume_at}
use Rattle.hay_legal.specs.Stands.{Contents}
use Rattle.hay_physical.specs.Draws.{DrewLittle}
use Rattle.hay_logical.specs.Fits.{super_of}
use Rattle.hay_disk.specs.Shelf.{HeldDisk}
use Rattle.hay_cluster.specs.Draws.{EachDrewLittle, FlushedDrewLittle, no_look}
use Rattle.hay_cluster.specs.Outside.{read_of}

in_slots : (settings : Settings) (v j : ℕ) → v < settings.volumes → j < settings.replicas → slot_of settings v j < disk_count settings
in_slots settings v j volume replica =
    let up : v + 1 ≤ settings.volumes = omega (arith, volume) in
    let product = mul-le-mul_left settings.replicas up in
    omega (arith, product, replica)

-- the disks are given back with what was read of them
module _ (settings : Settings) (contents : ℕ → Contents) (before drawn : ℕ → ℕ → ℕ) (given : ℕ → HeldDisk) (read : (slot : ℕ) → slot < disk_count settings → read_of (given slot) ≡ contents slot)
    (drew : (slot : ℕ) → slot < disk_count settings → (given slot).drawn ≡ drawn slot) where
  pub given_drew : EachDrewLittle settings contents no_look before drawn → EachDrewLittle settings (λ slot. read_of (given slot)) no_look before (λ slot. (given slot).drawn)
  given_drew each v j volume replica =
      let slot = slot_of settings v j in
      let within = in_slots settings v j volume replica in
      subst (λ (c : Contents). DrewLittle (super_of settings v j) c None (before slot) (given slot).drawn) (sym (read slot within))
      (subst (λ (f : ℕ → ℕ). DrewLittle (super_of settings v j) (contents slot) None (before slot) f) (sym (drew slot within)) (each v j volume replica))

  pub given_flushed : (k : Known) → FlushedDrewLittle settings k before drawn → FlushedDrewLittle settings k before (λ slot. (given slot).drawn)
  given_flushed k each v j volume replica bare =
      let slot = slot_of settings v j in
      let within = in_slots settings v j volume replica in
      let file = volume_file (replica_at (volume_at k v) j).generation in
      subst (λ (f : ℕ → ℕ). f file ≤ before slot file + (64 + 36 + 8)) (sym (drew slot within)) (each v j volume replica bare)
