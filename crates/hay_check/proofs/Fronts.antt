-- The superblocks, the head and the cells of a disk have one reading: they are damaged at one place, or not at all.
use Rattle.std.proofs.Common.{◌≡◌, inl, inr, ℕ, ◌+◌, ◌≤◌, List, [], ◌∷◌, length, take, drop, sym, ap, subst, ◌∙◌, arith, Err, length-take, length-drop}
use Rattle.std.proofs.lemmas.List.{take-take}
use Rattle.std.proofs.lemmas.Option.{same_Some}
use Rattle.hay_needle.specs.declared.needle.Cell.{Cell}
use Rattle.hay_needle.specs.declared.settings.Super.{Super}
use Rattle.hay_needle.specs.declared.superblock.SuperFault.{SuperFault}
use Rattle.hay_needle.specs.Needle.{needle_magic, needle_of_cell}
use Rattle.hay_needle.specs.Sizes.{needle_total}
use Rattle.hay_needle.specs.Super.{SuperFits, fault_place, super_bytes}
use Rattle.hay_needle.proofs.Needles.{length-needle}
use Rattle.hay_needle.proofs.Supers.{is_only}
use Rattle.hay_needle.specs.declared.settings.TheConstants.{LAST_GENERATION}
use Rattle.hay_disk.specs.Gate.{IsClosed}
use Rattle.hay_head.specs.Head.{IsDamagedHead, IsHead, head_row}
use Rattle.hay_head.specs.Rows.{IsSuperFaultAt}
use Rattle.hay_head.proofs.HeadLaws.{one_damage, undamaged as head_undamaged}
use Rattle.hay_head.proofs.RowLaws.{front_is as head_front}
use Rattle.hay_volume.specs.Cells.{HasCells, IsBrokenAt, StandsCell}
use Rattle.hay_volume.proofs.Readings.{cell_begins, cells_first, same_cell, undamaged as cells_undamaged}
use Rattle.hay_open.specs.Stored.{head_super, index_super, volume_super}
use Rattle.hay_check.specs.Damage.{IsDamagedVolume}

-- SUPERBLOCKS

pub super_once : (sup : Super) (file : List ℕ) (at other : ℕ) → IsSuperFaultAt sup file at → IsSuperFaultAt sup file other → at ≡ other
super_once sup file at other a b =
    let same : a.fault ≡ b.fault = same_Some a.fault b.fault (sym a.first ∙ b.first) in
    sym a.place ∙ ap (λ (fault : SuperFault). fault_place fault) same ∙ b.place

pub super_whole : (sup : Super) (file : List ℕ) (at : ℕ) → SuperFits sup → take 64 file ≡ super_bytes sup → IsSuperFaultAt sup file at → ⊥
super_whole sup file at fits begins damage =
    let none = is_only (take 64 file) sup (Err damage.fault) fits (sym damage.first) (take-take 64 64 file (omega arith) ∙ begins) in
    absurd cc

-- THE HEAD

pub head_whole : (sup : Super) (file : List ℕ) (generation at : ℕ) → SuperFits sup → IsHead (super_bytes sup) file generation → IsDamagedHead sup file at → ⊥
head_whole sup file generation at fits is (inl fault) = super_whole sup file at fits (head_front head_row (super_bytes sup) file _ _ is.rows) fault
head_whole sup file generation at fits is (inr broken) = head_undamaged (super_bytes sup) file generation at is broken

pub head_once : (sup : Super) (file : List ℕ) (at other : ℕ) → SuperFits sup → IsDamagedHead sup file at → IsDamagedHead sup file other → at ≡ other
head_once sup file at other fits (inl a) (inl b) = super_once sup file at other a b
head_once sup file at other fits (inl a) (inr b) = absurd (super_whole sup file at fits (head_front head_row (super_bytes sup) file _ _ b.lead) a)
head_once sup file at other fits (inr a) (inl b) = absurd (super_whole sup file other fits (head_front head_row (super_bytes sup) file _ _ a.lead) b)
head_once sup file at other fits (inr a) (inr b) = one_damage (super_bytes sup) file at other a b

-- THE CELLS

whole_at : (at : ℕ) (file : List ℕ) (cell : Cell) → StandsCell at file cell → IsBrokenAt at file → ⊥
whole_at at file cell here (inl short) =
    omega (arith, ap length here.stand, length-take (length here.needle) (drop at file), length-drop at file, length-needle here.needle (needle_of_cell cell) here.is.is)
whole_at at file cell here (inr broken) = broken.1 (needle_of_cell cell) (cell_begins at file cell here)

broken_once : (at p q : ℕ) (file : List ℕ) (cells more : List Cell) → HasCells at file cells p → IsBrokenAt p file → HasCells at file more q → IsBrokenAt q file → p ≡ q
broken_once at p q file [] [] has broken again worse = omega (arith, has.ends, again.ends, ap length has.are, ap length again.are)
broken_once at p q file [] (d ∷ more) has broken again worse =
    let here : p ≡ at = omega (arith, has.ends, ap length has.are) in
    absurd (whole_at at file d (cells_first at q file d more again).0 (subst (λ n. IsBrokenAt n file) here broken))
broken_once at p q file (c ∷ cells) [] has broken again worse =
    let here : q ≡ at = omega (arith, again.ends, ap length again.are) in
    absurd (whole_at at file c (cells_first at p file c cells has).0 (subst (λ n. IsBrokenAt n file) here worse))
broken_once at p q file (c ∷ cells) (d ∷ more) has broken again worse =
    let first = cells_first at p file c cells has in
    let second = cells_first at q file d more again in
    let total : needle_total (length d.bytes) ≡ needle_total (length c.bytes) = ap (λ (x : Cell). needle_total (length x.bytes)) (sym (same_cell at file c d first.0 second.0)) in
    broken_once (at + needle_total (length c.bytes)) p q file cells more first.1 broken (subst (λ n. HasCells (at + n) file more q) total second.1) worse

pub volume_once : (sup : Super) (file : List ℕ) (at other : ℕ) → SuperFits sup → IsDamagedVolume sup file at → IsDamagedVolume sup file other → at ≡ other
volume_once sup file at other fits (inl a) (inl b) = super_once sup file at other a b
volume_once sup file at other fits (inl a) (inr b) = absurd (super_whole sup file at fits b.0 a)
volume_once sup file at other fits (inr a) (inl b) = absurd (super_whole sup file other fits a.0 b)
volume_once sup file at other fits (inr a) (inr b) = broken_once 64 at other file (a.1).cells (b.1).cells (a.1).lead (a.1).broken (b.1).lead (b.1).broken

pub volume_whole : (sup : Super) (file : List ℕ) (cells : List Cell) (end at : ℕ) → SuperFits sup → take 64 file ≡ super_bytes sup → HasCells 64 file cells end
    → IsClosed needle_magic end file → IsDamagedVolume sup file at → ⊥
volume_whole sup file cells end at fits begins has closed (inl fault) = super_whole sup file at fits begins fault
volume_whole sup file cells end at fits begins has closed (inr damage) = cells_undamaged 64 end at file cells (damage.1).cells has closed (damage.1).lead (damage.1).broken

-- THE NUMBERS OF SUPERBLOCKS

pub head_fits : (sup : Super) → SuperFits sup → SuperFits (head_super sup)
head_fits sup fits = record {
  machines = fits.machines;
  volumes = fits.volumes;
  replicas = fits.replicas;
  volume = fits.volume;
  replica = fits.replica;
  capacity = fits.capacity;
  generation = omega arith;
}

pub volume_fits : (sup : Super) (generation : ℕ) → generation ≤ LAST_GENERATION → SuperFits sup → SuperFits (volume_super sup generation)
volume_fits sup generation most fits = record {
  machines = fits.machines;
  volumes = fits.volumes;
  replicas = fits.replicas;
  volume = fits.volume;
  replica = fits.replica;
  capacity = fits.capacity;
  generation = omega arith;
}

pub index_fits : (sup : Super) (generation : ℕ) → generation ≤ LAST_GENERATION → SuperFits sup → SuperFits (index_super sup generation)
index_fits sup generation most fits = record {
  machines = fits.machines;
  volumes = fits.volumes;
  replicas = fits.replicas;
  volume = fits.volume;
  replica = fits.replica;
  capacity = fits.capacity;
  generation = omega arith;
}
