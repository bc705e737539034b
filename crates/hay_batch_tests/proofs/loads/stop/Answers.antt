use Rattle.std.proofs.Common.{◌≡◌, ◌<◌, ◌∙◌, ℕ, false, ap, subst, sym, inl, inr}
use Rattle.std.proofs.lemmas.Bool.{cases_eq}
use Rattle.hay_disk.specs.Shelf.{HeldDisk}
use Rattle.hay_disk.specs.Disk.{KeepsOthers}
use Rattle.hay_memdisk.proofs.Lending.{lent}
use Rattle.hay_batch_tests.proofs.loads.stop.Goals as goal

none_out : (count one : ℕ) (old new : ℕ → HeldDisk) → ((slot : ℕ) → slot < count → (old slot).is_out ≡ false) → KeepsOthers one old new → (new one).is_out ≡ false
    → (slot : ℕ) → slot < count → (new slot).is_out ≡ false
none_out count one old new all others back slot low = elim (cases_eq slot one) [
  | inl same ↦ subst (λ (n : ℕ). (new n).is_out ≡ false) (sym same) back
  | inr apart ↦ ap (λ (held : HeldDisk). held.is_out) (others slot apart) ∙ all slot low
]

pub returns-in-Some : goal.returns-in-Some
returns-in-Some c =
    let has = lent _ _ c.in-Some.is (c.disk_mut.follows.holds c.power_cycle.new.self) in
    none_out 3 c.args.slot _ _ c.requires has.others (ap (λ (held : HeldDisk). held.is_out) has.disk)
