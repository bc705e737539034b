-- What the head, the superblock of the volume file and the index say.
use Rattle.std.proofs.Common.{◌≡◌, inl, inr, ℕ, ◌≤◌, List, take, sym, ap, subst, ◌∙◌, Err, Result}
use Rattle.hay_needle.specs.declared.settings.Super.{Super}
use Rattle.hay_needle.specs.Super.{super_bytes}
use Rattle.hay_needle.specs.declared.settings.TheConstants.{LAST_GENERATION}
use Rattle.hay_disk.specs.Disk.{Files}
use Rattle.hay_head.specs.Head.{IsDamagedHead, IsHead}
use Rattle.hay_head.specs.Rows.{IsSuperFaultAt}
use Rattle.hay_head.proofs.HeadLaws.{one_generation}
use Rattle.hay_index.specs.declared.record.Record.{Record}
use Rattle.hay_index.specs.Records.{IsDamagedIndex, IsIndex}
use Rattle.hay_open.specs.declared.fault.Refusal.{Refusal}
use Rattle.hay_open.specs.declared.fault.Refusal.TheVariants.{Damaged}
use Rattle.hay_open.specs.Damage.{IsDamagedFront, IsRecorded}
use Rattle.hay_open.specs.Stored.{head_super, index_file, index_super, volume_file, volume_super}

-- a refusal that was passed on
pub same_refusal : {T : Type 0} (r : Result T Refusal) (passed fault : Refusal) (file at : ℕ) → r ≡ Err passed → passed ≡ fault → r ≡ Err (Damaged file at) → fault ≡ Damaged file at
same_refusal r passed fault file at is from damaged = cc

pub volume_number : (superblock file : List ℕ) (generation number : ℕ) → IsHead superblock file generation → (generation ≤ LAST_GENERATION → number ≡ volume_file generation)
    → number ≡ volume_file generation
volume_number superblock file generation number head is = is head.most

pub index_number : (superblock file : List ℕ) (generation number : ℕ) → IsHead superblock file generation → (generation ≤ LAST_GENERATION → number ≡ index_file generation)
    → number ≡ index_file generation
index_number superblock file generation number head is = is head.most

-- the files as the calls before left them
pub there : (A : List ℕ → Type 0) (f g : Files) (number file : ℕ) → g ≡ f → number ≡ file → A (g number).now → A (f file).now
there A f g number file same is holds = subst (λ n. A (f n).now) is (subst (λ (fs : Files). A (fs number).now) same holds)

pub back : (A : List ℕ → Type 0) (f g : Files) (number file : ℕ) → g ≡ f → number ≡ file → A (f file).now → A (g number).now
back A f g number file same is holds = subst (λ (fs : Files). A (fs number).now) (sym same) (subst (λ n. A (f n).now) (sym is) holds)

pub front_fault : (sup vsup : Super) (f g : Files) (generation file number at : ℕ) → IsHead (super_bytes (head_super sup)) (f 0).now generation → g ≡ f
    → (generation ≤ LAST_GENERATION → number ≡ volume_file generation)
    → vsup ≡ volume_super sup generation → (file ≡ number) × IsSuperFaultAt vsup (g number).now at → IsDamagedFront sup (λ n. (f n).now) file at
front_fault sup vsup f g generation file number at head same numbered vsup_is fault =
    let is = numbered head.most in
    inr (
      generation,
      head,
      inl (
        fault.0 ∙ is,
        there (λ l. IsSuperFaultAt (volume_super sup generation) l at) f g number (volume_file generation) same is
            (subst (λ (s : Super). IsSuperFaultAt s (g number).now at) vsup_is fault.1),
      ),
    )

pub front_begins : (sup vsup : Super) (f g : Files) (generation number : ℕ) → IsHead (super_bytes (head_super sup)) (f 0).now generation → g ≡ f
    → (generation ≤ LAST_GENERATION → number ≡ volume_file generation)
    → vsup ≡ volume_super sup generation → take 64 (g number).now ≡ super_bytes vsup → take 64 (f (volume_file generation)).now ≡ super_bytes (volume_super sup generation)
front_begins sup vsup f g generation number head same numbered vsup_is begins =
    there (λ l. take 64 l ≡ super_bytes (volume_super sup generation)) f g number (volume_file generation) same (numbered head.most) (begins ∙ ap super_bytes vsup_is)

pub index_fault : (sup vsup isup : Super) (f g h : Files) (generation file number at volume : ℕ) → IsHead (super_bytes (head_super sup)) (f 0).now generation → g ≡ f
    → (generation ≤ LAST_GENERATION → volume ≡ volume_file generation)
    → vsup ≡ volume_super sup generation → take 64 (g volume).now ≡ super_bytes vsup
    → h ≡ f → (generation ≤ LAST_GENERATION → number ≡ index_file generation) → isup ≡ index_super sup generation → (file ≡ number) × IsDamagedIndex isup (h number).now at
    → IsDamagedFront sup (λ n. (f n).now) file at
index_fault sup vsup isup f g h generation file number at volume head same numbered vsup_is begins later counted isup_is fault =
    let is = counted head.most in
    inr (
      generation,
      head,
      inr (
        front_begins sup vsup f g generation volume head same numbered vsup_is begins,
        fault.0 ∙ is,
        there (λ l. IsDamagedIndex (index_super sup generation) l at) f h number (index_file generation) later is (subst (λ (s : Super). IsDamagedIndex s (h number).now at) isup_is fault.1),
      ),
    )

-- where the disk has records, the superblock and the index are those that were sought
pub sought_front : (sup vsup : Super) (f g : Files) (generation other number end : ℕ) (records : List Record) → IsHead (super_bytes (head_super sup)) (f 0).now generation → g ≡ f
    → (generation ≤ LAST_GENERATION → number ≡ volume_file generation)
    → vsup ≡ volume_super sup generation → IsRecorded sup (λ n. (f n).now) other records end → take 64 (g number).now ≡ super_bytes vsup
sought_front sup vsup f g generation other number end records head same numbered vsup_is is =
    let one : other ≡ generation = one_generation (super_bytes (head_super sup)) (f 0).now other generation is.head head in
    let begins : take 64 (f (volume_file generation)).now ≡ super_bytes (volume_super sup generation) = subst (λ n. take 64 (f (volume_file n)).now ≡ super_bytes (volume_super sup n)) one is.begins in
    back (λ l. take 64 l ≡ super_bytes vsup) f g number (volume_file generation) same (numbered head.most) (begins ∙ ap super_bytes (sym vsup_is))

pub sought_index : (sup isup : Super) (f h : Files) (generation other number end : ℕ) (records : List Record) → IsHead (super_bytes (head_super sup)) (f 0).now generation → h ≡ f
    → (generation ≤ LAST_GENERATION → number ≡ index_file generation)
    → isup ≡ index_super sup generation → IsRecorded sup (λ n. (f n).now) other records end → IsIndex (super_bytes isup) (h number).now records end
sought_index sup isup f h generation other number end records head later counted isup_is is =
    let one : other ≡ generation = one_generation (super_bytes (head_super sup)) (f 0).now other generation is.head head in
    let index : IsIndex (super_bytes (index_super sup generation)) (f (index_file generation)).now records end =
    subst (λ n. IsIndex (super_bytes (index_super sup n)) (f (index_file n)).now records end) one is.index in
    back (λ l. IsIndex (super_bytes isup) l records end) f h number (index_file generation) later (counted head.most)
    (subst (λ (s : Super). IsIndex (super_bytes s) (f (index_file generation)).now records end) (sym isup_is) index)

-- where none of the three is damaged
pub front_undamaged : (sup vsup isup : Super) (f g h : Files) (generation file at volume index : ℕ) → IsHead (super_bytes (head_super sup)) (f 0).now generation
    → (IsDamagedHead (head_super sup) (f 0).now at → ⊥)
    → g ≡ f → (generation ≤ LAST_GENERATION → volume ≡ volume_file generation) → vsup ≡ volume_super sup generation → (IsSuperFaultAt vsup (g volume).now at → ⊥)
    → h ≡ f → (generation ≤ LAST_GENERATION → index ≡ index_file generation) → isup ≡ index_super sup generation → (IsDamagedIndex isup (h index).now at → ⊥)
    → IsDamagedFront sup (λ n. (f n).now) file at → ⊥
front_undamaged sup vsup isup f g h generation file at volume index is head same numbered vsup_is fault later counted isup_is broken (inl damage) = head damage.1
front_undamaged sup vsup isup f g h generation file at volume index is head same numbered vsup_is fault later counted isup_is broken (inr (other, also, inl damage)) =
    let one : other ≡ generation = one_generation (super_bytes (head_super sup)) (f 0).now other generation also is in
    let here : IsSuperFaultAt (volume_super sup generation) (f (volume_file generation)).now at = subst (λ n. IsSuperFaultAt (volume_super sup n) (f (volume_file n)).now at) one damage.1 in
    fault (back (λ l. IsSuperFaultAt vsup l at) f g volume (volume_file generation) same (numbered is.most)
    (subst (λ (s : Super). IsSuperFaultAt s (f (volume_file generation)).now at) (sym vsup_is) here))
front_undamaged sup vsup isup f g h generation file at volume index is head same numbered vsup_is fault later counted isup_is broken (inr (other, also, inr damage)) =
    let one : other ≡ generation = one_generation (super_bytes (head_super sup)) (f 0).now other generation also is in
    let here : IsDamagedIndex (index_super sup generation) (f (index_file generation)).now at = subst (λ n. IsDamagedIndex (index_super sup n) (f (index_file n)).now at) one damage.2 in
    broken (back (λ l. IsDamagedIndex isup l at) f h index (index_file generation) later (counted is.most)
    (subst (λ (s : Super). IsDamagedIndex s (f (index_file generation)).now at) (sym isup_is) here))
