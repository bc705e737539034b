use Rattle.std.proofs.Common.{◌≡◌, ◌∙◌, ℕ, false, ap, subst, sym, inl, inr}
use Rattle.std.proofs.lemmas.Bool.{cases_eq}
use Rattle.hay_disk.specs.Shelf.{HeldDisk, HeldArm}
use Rattle.hay_disk.specs.Disk.{KeepsOthers}
use Rattle.hay_memdisk.proofs.Lending.{lent}
use Rattle.haystack.proofs.tests.store.stop_directory.Goals as goal

none_out : (one : ℕ) (old new : ℕ → HeldDisk) → ((slot : ℕ) → (old slot).is_out ≡ false) → KeepsOthers one old new → (new one).is_out ≡ false
    → (slot : ℕ) → (new slot).is_out ≡ false
none_out one old new all others back slot = elim (cases_eq slot one) [
  | inl same ↦ subst (λ (n : ℕ). (new n).is_out ≡ false) (sym same) back
  | inr apart ↦ ap (λ (held : HeldDisk). held.is_out) (others slot apart) ∙ all slot
]

pub returns-in-Some-clause-disks : goal.returns-in-Some-clause-disks
returns-in-Some-clause-disks c =
    let has = lent _ _ c.in-Some.is (c.disk_mut.follows.holds c.power_cycle.new.self) in
    none_out 0 _ _ c.requires.disks has.others (ap (λ (held : HeldDisk). held.is_out) has.disk)

pub returns-in-Some-clause-arms : goal.returns-in-Some-clause-arms
returns-in-Some-clause-arms c = λ lane.
    let has = lent _ _ c.in-Some.is (c.disk_mut.follows.holds c.power_cycle.new.self) in
    ap (λ (arms : ℕ → HeldArm). (arms lane).is_out) has.arms ∙ c.requires.arms lane
