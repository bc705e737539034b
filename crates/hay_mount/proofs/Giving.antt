-- How disks are given back from the last slot down, and what was taken before.
use Rattle.std.proofs.Common.{◌≡◌, Bool, false, ℕ, ◌+◌, ◌<◌, List, [], ◌∷◌, ◌++◌, length, refl, sym, ap, subst, ◌∙◌, arith, append_assoc, inl, inr}
use Rattle.std.proofs.lemmas.List.{length-append, append-nil}
use Rattle.std.proofs.lemmas.Bool.{cases_lt}
use Rattle.hay_disk.specs.Disk.{Files, IsImage, KeepsOthers}
use Rattle.hay_disk.specs.Shelf.{HeldArm, HeldDisk}
use Rattle.hay_disk.proofs.Images.{solid_whole}
use Rattle.hay_mount.specs.Mounts.{AreArmsIn, AreIn, InOrder, IsArmBack, IsGivenArm, IsGivenDisk, IsMountedArm, IsMountedDisk, IsPutBack, SameFrom}
use Rattle.hay_mount.proofs.Orders.{InOrder-at, InOrder-map, InOrder-zip}

-- Of all items these are left, and the others were given back.
pub record Gives {X H : Type 0} (P : H → X → Type 0) (all rest : List X) (old new : ℕ → H) : Type 0 where
  pub given : List X
  pub split : all ≡ rest ++ given
  pub placed : InOrder (λ n x. P (new n) x) (length rest) given
  pub below : (n : ℕ) → n < length rest → new n ≡ old n
  pub above : SameFrom (length all) old new

module _ {X H : Type 0} (P : H → X → Type 0) where
  pub gives-none : (all : List X) (old : ℕ → H) → Gives P all all old old
  gives-none all old = record { given = []; split = sym (append-nil all); placed = tt; below = λ n low. refl; above = λ n low. refl }

  pub gives-one : (all rest rest' : List X) (x : X) (old mid new : ℕ → H) → rest ≡ rest' ++ x ∷ [] → Gives P all rest old mid
      → P (new (length rest')) x → KeepsOthers (length rest') mid new → Gives P all rest' old new
  gives-one all rest rest' x old mid new is gives put others =
      let long : length rest ≡ length rest' + 1 = ap length is ∙ length-append rest' (x ∷ []) in
      let whole : length all ≡ length rest + length gives.given = ap length gives.split ∙ length-append rest gives.given in
      record {
        given = x ∷ gives.given;
        split = gives.split ∙ ap (λ l. l ++ gives.given) is ∙ append_assoc rest' (x ∷ []) gives.given;
        placed = (
          put,
          InOrder-map (λ n y. P (mid n) y) (λ n y. P (new n) y) (length rest' + 1) gives.given
              (λ k y low high here. subst (λ h. P h y) (sym (others k (λ same. absurd (omega arith)))) here)
              (subst (λ k. InOrder (λ n y. P (mid n) y) k gives.given) long gives.placed),
        );
        below = λ n low. others n (λ same. absurd (omega arith)) ∙ gives.below n (omega arith);
        above = λ n low. others n (λ same. absurd (omega arith)) ∙ gives.above n low;
      }

  pub gives-all : (all rest : List X) (old new : ℕ → H) → rest ≡ [] → Gives P all rest old new → InOrder (λ n x. P (new n) x) 0 all
  gives-all all rest old new none gives =
      subst (λ xs. InOrder (λ n x. P (new n) x) 0 xs) (sym (gives.split ∙ ap (λ l. l ++ gives.given) none))
      (subst (λ l. InOrder (λ n x. P (new n) x) (length l) gives.given) none gives.placed)

-- What was taken and was given back is as it was.
module _ {D : Type 0} (Tells : Type 0) (files : D → Files) (drawn : D → ℕ → ℕ) (faults fuses : D → ℕ) where
  back_at : (old new : HeldDisk) (disk : D) → IsMountedDisk Tells files drawn faults fuses old disk → IsGivenDisk Tells files drawn faults fuses new disk → IsPutBack Tells old new
  back_at old new disk taken given = record {
    kept = λ tells. inr (λ image may n.
        solid_whole (files disk n) (image n) (taken.solid tells n) (subst (λ (held : Files). IsImage (held n) (image n)) (given.files_are tells) (may n)) ∙ taken.now tells n);
    now = λ tells n. ap (λ (held : Files). (held n).now) (given.files_are tells) ∙ taken.now tells n;
    drawn_is = λ tells n. given.drawn_is tells n ∙ taken.drawn_is tells n;
    fault_count = given.fault_count ∙ taken.fault_count;
    fuse_count = given.fuse_count ∙ taken.fuse_count;
    back = given.back;
  }

  not_taken : (old new : HeldDisk) → new ≡ old → old.is_out ≡ false → IsPutBack Tells old new
  not_taken old new same in_place = record {
    kept = λ tells. inl (ap (λ (held : HeldDisk). held.files) same);
    now = λ tells n. ap (λ (held : HeldDisk). (held.files n).now) same;
    drawn_is = λ tells n. ap (λ (held : HeldDisk). held.drawn n) same;
    fault_count = ap (λ (held : HeldDisk). held.fault_count) same;
    fuse_count = ap (λ (held : HeldDisk). held.fuse_count) same;
    back = ap (λ (held : HeldDisk). held.is_out) same ∙ in_place;
  }

  pub disks_back : (slots : ℕ) (disks : List D) (old mid new : ℕ → HeldDisk) → AreIn slots old
      → InOrder (λ slot disk. IsMountedDisk Tells files drawn faults fuses (old slot) disk) 0 disks → SameFrom (length disks) old mid
      → InOrder (λ slot disk. IsGivenDisk Tells files drawn faults fuses (new slot) disk) 0 disks → SameFrom (length disks) mid new
      → (slot : ℕ) → slot < slots → IsPutBack Tells (old slot) (new slot)
  disks_back slots disks old mid new in_place taken same given others slot below =
      elim (cases_lt slot (length disks)) [
        | inl low ↦ InOrder-at (λ k disk. IsMountedDisk Tells files drawn faults fuses (old k) disk × IsGivenDisk Tells files drawn faults fuses (new k) disk)
            (λ k. IsPutBack Tells (old k) (new k)) 0 disks
            (λ k disk both. back_at (old k) (new k) disk both.0 both.1) (InOrder-zip _ _ 0 disks taken given) slot (omega arith) (omega arith)
        | inr high ↦ not_taken (old slot) (new slot) (others slot high ∙ same slot high) (in_place slot below)
      ]

module _ {A : Type 0} (faults : A → ℕ) (sure : A → Bool) where
  arm_at : (old new : HeldArm) (arm : A) → IsMountedArm faults sure old arm → IsGivenArm faults sure new arm → IsArmBack old new
  arm_at old new arm taken given = record { fault_count = given.fault_count ∙ taken.fault_count; is_sure = given.is_sure ∙ taken.is_sure; back = given.back }

  arm_left : (old new : HeldArm) → new ≡ old → old.is_out ≡ false → IsArmBack old new
  arm_left old new same in_place = record {
    fault_count = ap (λ (held : HeldArm). held.fault_count) same;
    is_sure = ap (λ (held : HeldArm). held.is_sure) same;
    back = ap (λ (held : HeldArm). held.is_out) same ∙ in_place;
  }

  pub arms_back : (lanes : ℕ) (arms : List A) (old mid new : ℕ → HeldArm) → AreArmsIn lanes old
      → InOrder (λ lane arm. IsMountedArm faults sure (old lane) arm) 0 arms → SameFrom (length arms) old mid
      → InOrder (λ lane arm. IsGivenArm faults sure (new lane) arm) 0 arms → SameFrom (length arms) mid new
      → (lane : ℕ) → lane < lanes → IsArmBack (old lane) (new lane)
  arms_back lanes arms old mid new in_place taken same given others lane below =
      elim (cases_lt lane (length arms)) [
        | inl low ↦ InOrder-at (λ k arm. IsMountedArm faults sure (old k) arm × IsGivenArm faults sure (new k) arm) (λ k. IsArmBack (old k) (new k)) 0 arms
            (λ k arm both. arm_at (old k) (new k) arm both.0 both.1) (InOrder-zip _ _ 0 arms taken given) lane (omega arith) (omega arith)
        | inr high ↦ arm_left (old lane) (new lane) (others lane high ∙ same lane high) (in_place lane below)
      ]
