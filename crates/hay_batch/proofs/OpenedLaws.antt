-- A store that was opened on the disks of a shelf, or was not.
use Rattle.std.proofs.Common.{◌≡◌, inl, inr, ◌<◌, ◌+◌, ◌*◌, ℕ, zero, suc, false, List, length, refl, sym, ap, subst, ◌∙◌, arith}
use Rattle.std.proofs.Math.Path.{fun_ext}
use Rattle.hay_needle.specs.declared.settings.Settings.{Settings}
use Rattle.hay_needle.specs.declared.settings.Super.{Super}
use Rattle.hay_needle.specs.Super.{super_bytes}
use Rattle.hay_disk.specs.Counts.{Rose}
use Rattle.hay_disk.specs.Disk.{Files, IsSolid}
use Rattle.hay_disk.specs.Shelf.{HeldDisk}
use Rattle.hay_mount.specs.Mounts.{InOrder, IsGivenDisk, IsMountedDisk}
use Rattle.hay_dirfile.specs.Journal.{IsDamagedJournal}
use Rattle.hay_dirfile.specs.declared.fault.OpenFault.{OpenFault as JournalFault}
use Rattle.hay_dirfile.specs.declared.fault.OpenFault.TheVariants as journal
use Rattle.hay_dirfile.specs.declared.journal.Journal.{Journal}
use Rattle.hay_open.specs.declared.fault.OpenFault.{OpenFault}
use Rattle.hay_open.specs.declared.fault.OpenFault.TheVariants as opening
use Rattle.hay_open.specs.Damage.{IsOpeningDamage}
use Rattle.hay_open.specs.Stored.{IsSlotFile, IsVoid, OpensAs, Stored, volume_file, volume_super}
use Rattle.hay_volume.specs.Cells.{IsVolume}
use Rattle.hay_volume.specs.declared.volume.VolumeFile.{VolumeFile}
use Rattle.hay_batch.specs.declared.fault.LoadOpenFault.{LoadOpenFault}
use Rattle.hay_batch.specs.declared.fault.LoadOpenFault.TheVariants.{Shelf, Open, NoMemory}
use Rattle.hay_batch.specs.declared.directory.LoadDirectory.{LoadDirectory}
use Rattle.hay_batch.specs.declared.opening.OpenJournal.{OpenJournal}
use Rattle.hay_batch.specs.declared.replica.LoadReplica.{LoadReplica}
use Rattle.hay_batch.specs.declared.store.LoadStore.{LoadStore}
use Rattle.hay_batch.specs.Directories.{HoldsRows}
use Rattle.hay_batch.specs.Directories as directories
use Rattle.hay_batch.specs.Faults.{not_opened, of_journal}
use Rattle.hay_batch.specs.Openings.{directory_of, journal_super}
use Rattle.hay_batch.specs.Replicas.{At, Holds, IsReady}
use Rattle.hay_batch.specs.Shelves.{AreSoundBelow, EachDisk, IsDamagedDisk, IsLeft, IsLimited, IsOpenAs, IsUndamagedBelow, OpensRows, OpensSlot, OpensStore, RecallsEnd}
use Rattle.hay_batch.specs.Shelves.{RecallsRows, StandsAs, StoredStore, contents_of, disk_count, place_super, reads_of, replica_super, slot_of}
use Rattle.hay_batch.specs.Slots.{IsAtRest, IsSound, IsSoundJournal, MovesDisks, OpensDisks, OpensFile, OpensJournal, RefusesBehind, RefusesDisks, RefusesFirst}
use Rattle.hay_batch.specs.Stores.{IsReadyStore, IsShaped, ReplicaAt, Stands}
use Rattle.hay_batch.proofs.Lists.{at_below, at_there}
use Rattle.hay_batch.proofs.ShelfLaws.{damaged_at, damaged_first, order_here, place_is, reads_given, reads_taken, rests_taken, slot_directory, slot_given, slot_replica}
use Rattle.hay_batch.proofs.ShelfLaws.{slot_untouched, undamaged_below}

-- a disk that is damaged is not void
damaged_some : (sup : Super) (contents : ℕ → List ℕ) (file at : ℕ) → IsOpeningDamage sup contents file at → IsVoid contents → ⊥
unfolding IsOpeningDamage
damaged_some sup contents file at damage = damage.0

-- what is kept of a journal is that of the Directory
pub directory_is : {D : Type 0} (d : LoadDirectory D) (kept : OpenJournal) → d.journal ≡ kept.journal → d.homes ≡ kept.homes → d.rows ≡ kept.rows → d ≡ directory_of d.disk kept
directory_is {D} d kept journal homes rows =
    let with_journal : Journal → LoadDirectory D = λ x. record { disk = d.disk; journal = x; homes = d.homes; rows = d.rows } in
    let with_homes : List ((ℕ × ℕ) × ℕ) → LoadDirectory D = λ x. record { disk = d.disk; journal = kept.journal; homes = x; rows = d.rows } in
    let with_rows : ℕ → LoadDirectory D = λ x. record { disk = d.disk; journal = kept.journal; homes = kept.homes; rows = x } in
    ap with_journal journal ∙ ap with_homes homes ∙ ap with_rows rows

-- WHICH FAULT WAS TOLD

file_failed : (place slot faults : ℕ) (fault : OpenFault) → not_opened place fault ≡ Open slot (opening.Failed faults) → (place ≡ slot) × (fault ≡ opening.Failed faults)
file_failed place slot faults (opening.Failed n) is = (cc, cc)
file_failed place slot faults (opening.Damaged file at) is = absurd cc
file_failed place slot faults opening.NoMemory is = absurd cc

file_damaged : (place slot file at : ℕ) (fault : OpenFault) → not_opened place fault ≡ Open slot (opening.Damaged file at) → (place ≡ slot) × (fault ≡ opening.Damaged file at)
file_damaged place slot file at (opening.Failed n) is = absurd cc
file_damaged place slot file at (opening.Damaged f a) is = (cc, cc)
file_damaged place slot file at opening.NoMemory is = absurd cc

file_memory : (place slot : ℕ) (fault : OpenFault) → not_opened place fault ≡ Open slot opening.NoMemory → ⊥
file_memory place slot (opening.Failed n) is = absurd cc
file_memory place slot (opening.Damaged f a) is = absurd cc
file_memory place slot opening.NoMemory is = absurd cc

file_shelf : (place faults : ℕ) (fault : OpenFault) → not_opened place fault ≡ Shelf faults → ⊥
file_shelf place faults (opening.Failed n) is = absurd cc
file_shelf place faults (opening.Damaged f a) is = absurd cc
file_shelf place faults opening.NoMemory is = absurd cc

journal_failed : (faults : ℕ) (fault : JournalFault) → of_journal fault ≡ opening.Failed faults → fault ≡ journal.Failed faults
journal_failed faults (journal.Failed n) is = cc
journal_failed faults (journal.Damaged f a) is = absurd cc
journal_failed faults journal.NoMemory is = absurd cc

journal_damaged : (file at : ℕ) (fault : JournalFault) → of_journal fault ≡ opening.Damaged file at → fault ≡ journal.Damaged file at
journal_damaged file at (journal.Failed n) is = absurd cc
journal_damaged file at (journal.Damaged f a) is = cc
journal_damaged file at journal.NoMemory is = absurd cc

-- THE DISKS THAT WERE TAKEN

module _ {D : Type 0} (Tells : Type 0) (files : D → Files) (drawn : D → ℕ → ℕ) (faults fuses : D → ℕ) (settings : Settings) (limits : IsLimited settings) (held : ℕ → HeldDisk)
    (old new : List D) (count : length old ≡ disk_count settings)
    (taken : InOrder (λ slot disk. IsMountedDisk Tells files drawn faults fuses (held slot) disk) 0 old) (many : length new ≡ length old) where
  taken_at : (slot : ℕ) (d : D) → At old slot d → IsMountedDisk Tells files drawn faults fuses (held slot) d
  taken_at slot d at = order_here (λ n disk. IsMountedDisk Tells files drawn faults fuses (held n) disk) old slot d at taken

  was_at : (slot : ℕ) (d' : D) → At new slot d' → (d : D) × At old slot d
  was_at slot d' at = at_there old slot (let below = at_below new slot d' at in omega (arith, below, many))

  is_at : (slot : ℕ) → slot < disk_count settings → (d' : D) × At new slot d'
  is_at slot below = at_there new slot (omega (arith, below, many, count))

  pub rests_at : (slot : ℕ) (d : D) → At old slot d → IsAtRest Tells files d
  unfolding taken_at
  rests_at slot d at = rests_taken Tells files drawn faults fuses (held slot) d (taken_at slot d at)

  reads_at : Tells → (slot : ℕ) (d : D) → At old slot d → ◌≡◌ {A = ℕ → List ℕ} (λ n. (files d n).now) (reads_of held slot)
  unfolding taken_at
  reads_at tells slot d at = reads_taken Tells files drawn faults fuses (held slot) d tells (taken_at slot d at)

  -- what each slot's disk is
  pub opened_slot : MovesDisks Tells files faults fuses old new → (slot : ℕ) (d' : D) → At new slot d' → OpensSlot Tells slot (held slot) (files d') (faults d') (fuses d')
  unfolding taken_at was_at
  opened_slot moves zero d' at =
      let d = was_at zero d' at in
      slot_directory Tells files drawn faults fuses (held 0) d.0 d' (taken_at 0 d.0 d.1) (moves.first d.0 d' d.1 at)
  opened_slot moves (suc n) d' at =
      let d = was_at (suc n) d' at in
      let here : suc n ≡ n + 1 = omega arith in
      elim (moves.others n d.0 d' (subst (λ i. At old i d.0) here d.1) (subst (λ i. At new i d') here at)) [
        | inl same ↦ slot_untouched Tells files drawn faults fuses (suc n) (held (suc n)) d.0 d' (omega arith) (taken_at (suc n) d.0 d.1) same
        | inr opens ↦ slot_replica Tells files drawn faults fuses (suc n) (held (suc n)) d.0 d' (omega arith) (taken_at (suc n) d.0 d.1) opens
      ]

  -- A STORE THAT WAS OPENED

  -- The store is made of these disks and of what was kept of them.
  pub record IsMadeOf (kept : OpenJournal) (volumes : List VolumeFile) (store : LoadStore D) : Type 0 where
    pub settings_are : store.settings ≡ settings
    pub shape : IsShaped store
    pub disk : At new 0 store.directory.disk
    pub directory : store.directory ≡ directory_of store.directory.disk kept
    pub replicas : (v j : ℕ) (r : LoadReplica D) → ReplicaAt store v j r → At new (v * settings.replicas + j + 1) r.disk × At volumes (v * settings.replicas + j) r.volume

  pub made_of : (kept : OpenJournal) (volumes : List VolumeFile) (store : LoadStore D) (list : List D) → list ≡ new → store.settings ≡ settings → IsShaped store
      → store.directory.journal ≡ kept.journal → store.directory.homes ≡ kept.homes → store.directory.rows ≡ kept.rows
      → At list 0 store.directory.disk → ((v j : ℕ) (r : LoadReplica D) → ReplicaAt store v j r
      → At list (v * settings.replicas + j + 1) r.disk × At volumes (v * settings.replicas + j) r.volume) → IsMadeOf kept volumes store
  made_of kept volumes store list whole same shape journal homes rows first others = record {
    settings_are = same;
    shape = shape;
    disk = subst (λ (l : List D). At l 0 store.directory.disk) whole first;
    directory = directory_is store.directory kept journal homes rows;
    replicas = λ v j r there. (subst (λ (l : List D). At l (v * settings.replicas + j + 1) r.disk) whole (others v j r there).0, (others v j r there).1);
  }

  module _ (kept : OpenJournal) (volumes : List VolumeFile) (store : LoadStore D) (opens : OpensDisks Tells files faults fuses settings old new kept volumes) (m : IsMadeOf kept volumes store) where
    inside : (v j : ℕ) (r : LoadReplica D) → ReplicaAt store v j r → (v < settings.volumes) × (j < settings.replicas)
    inside v j r there =
        let below = at_below store.volumes.items v there.0 there.1 in
        let below' = at_below there.0.replicas.items j r there.2 in
        let all = m.shape.volumes in
        let each = m.shape.replicas v there.0 there.1 in
        let first : store.settings.volumes ≡ settings.volumes = ap (λ (x : Settings). x.volumes) m.settings_are in
        let second : store.settings.replicas ≡ settings.replicas = ap (λ (x : Settings). x.replicas) m.settings_are in
        (omega (arith, below, all, first), omega (arith, below', each, second))

    -- what a replica of the store was opened as, and the Directory
    record WasFile (v j : ℕ) (r : LoadReplica D) : Type 0 where
      disk : D
      there : At old (v * settings.replicas + j + 1) disk
      is : OpensFile Tells files faults fuses (replica_super settings v j) disk r.disk r.volume

    record WasJournal : Type 0 where
      disk : D
      there : At old 0 disk
      is : OpensJournal Tells files faults fuses settings disk store.directory.disk kept

    was_file : (v j : ℕ) (r : LoadReplica D) → ReplicaAt store v j r → WasFile v j r
    unfolding was_at inside
    was_file v j r at =
        let both = m.replicas v j r at in
        let d = was_at (v * settings.replicas + j + 1) r.disk both.0 in
        record {
          disk = d.0;
          there = d.1;
          is = subst (λ (sup : Super). OpensFile Tells files faults fuses sup d.0 r.disk r.volume) (place_is settings v j (v * settings.replicas + j) (inside v j r at).1 refl)
              (opens.others.each (v * settings.replicas + j) d.0 r.disk r.volume d.1 both.0 both.1);
        }

    was_journal : WasJournal
    unfolding was_at
    was_journal = let d = was_at 0 store.directory.disk m.disk in record { disk = d.0; there = d.1; is = opens.first d.0 store.directory.disk d.1 m.disk }

    pub made_ready : Tells → IsReadyStore files store
    unfolding was_file was_journal
    made_ready tells = record {
      directory = subst (λ (d : LoadDirectory D). directories.IsReady files d) (sym m.directory) (was_journal.is.ready tells);
      replicas = λ v j r there. (was_file v j r there).is.ready tells;
    }

    pub made_rows : RecallsRows Tells settings (reads_of held 0 0) store.directory.homes store.directory.rows
    unfolding was_journal reads_at
    made_rows =
        let kept_rows = was_journal.is.recalls in
        let first : RecallsRows Tells settings (reads_of held 0 0) kept.homes kept.rows = record {
          rows = kept_rows.rows;
          are = kept_rows.are;
          many = kept_rows.many;
          within = kept_rows.within;
          reads = λ tells. subst (λ (c : ℕ → List ℕ). OpensRows settings (c 0) kept_rows.rows) (reads_at tells 0 was_journal.disk was_journal.there) (kept_rows.reads tells);
        } in
        subst (λ (d : LoadDirectory D). RecallsRows Tells settings (reads_of held 0 0) d.homes d.rows) (sym m.directory) first

    -- what a replica's disk was opened as, by what was read of its slot
    opens_here : Tells → (v j : ℕ) (s : Stored) (disk : D) → At old (v * settings.replicas + j + 1) disk → OpensAs (replica_super settings v j) (reads_of held (slot_of settings v j)) s
        → OpensAs (replica_super settings v j) (λ n. (files disk n).now) s
    unfolding reads_at
    opens_here tells v j s disk there is =
        let slot : v * settings.replicas + j + 1 ≡ slot_of settings v j = omega arith in
        subst (λ (c : ℕ → List ℕ). OpensAs (replica_super settings v j) c s) (sym (reads_at tells (v * settings.replicas + j + 1) disk there))
        (subst (λ n. OpensAs (replica_super settings v j) (reads_of held n) s) (sym slot) is)

    pub made_ends : (v j : ℕ) (r : LoadReplica D) → ReplicaAt store v j r → RecallsEnd Tells (replica_super settings v j) (reads_of held (slot_of settings v j)) r.volume
    unfolding was_file opens_here
    made_ends v j r there =
        let w = was_file v j r there in
        let recalls = w.is.recalls in
        record { from = recalls.from; room = recalls.room; found = λ tells s is. recalls.found tells s (opens_here tells v j s w.disk w.there is) }

    open_holds : (sup : Super) (s : Stored) (r : LoadReplica D) → IsOpenAs files sup s r → IsReady files r → Holds files (super_bytes (volume_super sup s.generation)) s.cells r
    open_holds sup s r opened ready =
        let number : volume_file s.generation ≡ r.volume.file = sym (ap (λ (x : VolumeFile). x.file) opened.volume) in
        let end : s.end ≡ r.volume.end = sym (ap (λ (x : VolumeFile). x.end) opened.volume) in
        record {
          is = subst (λ n. IsVolume (super_bytes (volume_super sup s.generation)) (files r.disk n).now s.cells r.volume.end) number
              (subst (λ e. IsVolume (super_bytes (volume_super sup s.generation)) (files r.disk (volume_file s.generation)).now s.cells e) end opened.rests.is.volume);
          solid = subst (λ n. IsSolid (files r.disk n)) number opened.rests.volume;
          ready = ready;
        }

    open_as : Tells → (s : StoredStore) → OpensStore settings (reads_of held) s → (v j : ℕ) (r : LoadReplica D) → ReplicaAt store v j r → IsOpenAs files (replica_super settings v j) (s.replicas v j) r
    unfolding was_file inside opens_here
    open_as tells s finds v j r there =
        let w = was_file v j r there in
        let low = inside v j r there in
        w.is.opened tells (s.replicas v j) (opens_here tells v j (s.replicas v j) w.disk w.there (finds.replicas v j low.0 low.1))

    pub made_stands : Tells → (s : StoredStore) → OpensStore settings (reads_of held) s → StandsAs files store s
    unfolding was_file was_journal reads_at open_holds open_as
    made_stands tells s finds =
        let rows : OpensRows settings (files was_journal.disk 0).now s.rows =
        subst (λ (c : ℕ → List ℕ). OpensRows settings (c 0) s.rows) (sym (reads_at tells 0 was_journal.disk was_journal.there)) finds.rows in
        let holds : HoldsRows files (super_bytes (journal_super settings)) settings.volumes s.rows store.directory =
        subst (λ (d : LoadDirectory D). HoldsRows files (super_bytes (journal_super settings)) settings.volumes s.rows d) (sym m.directory) (was_journal.is.opened tells s.rows rows) in
        record {
          contents = subst (λ (x : Settings). Stands files store (contents_of x s)) (sym m.settings_are) (record {
            directory = subst (λ (x : Settings). HoldsRows files (super_bytes (journal_super settings)) x.volumes s.rows store.directory) (sym m.settings_are) holds;
            replicas = λ v j r there. open_holds (replica_super settings v j) (s.replicas v j) r (open_as tells s finds v j r there) ((was_file v j r there).is.ready tells);
            ends = λ v j r there. ap (λ (x : VolumeFile). x.end) (open_as tells s finds v j r there).volume;
          });
          replicas = λ v j r there. subst (λ (x : Settings). IsOpenAs files (replica_super x v j) (s.replicas v j) r) (sym m.settings_are) (open_as tells s finds v j r there);
        }

    pub made_disks : MovesDisks Tells files faults fuses old new → EachDisk (λ slot disk. OpensSlot Tells slot (held slot) (files disk) (faults disk) (fuses disk)) store
    unfolding opened_slot
    made_disks moves = record {
      directory = opened_slot moves 0 store.directory.disk m.disk;
      replicas = λ v j r there.
          let slot : v * settings.replicas + j + 1 ≡ slot_of store.settings v j = (let e = ap (λ (x : Settings). slot_of x v j) m.settings_are in omega (arith, e)) in
          opened_slot moves (slot_of store.settings v j) r.disk (subst (λ n. At new n r.disk) slot (m.replicas v j r there).0);
    }

    pub made_sound : Tells → IsUndamagedBelow settings (disk_count settings) (reads_of held)
    unfolding was_journal reads_at is_at
    made_sound tells = undamaged_below settings (reads_of held) (disk_count settings) limits (omega arith)
        (λ _ some at damage.
        let path = reads_at tells 0 was_journal.disk was_journal.there in
        (was_journal.is.sound tells).before (subst (λ (c : ℕ → List ℕ). 0 < length (c 0)) (sym path) some) at
        (subst (λ (c : ℕ → List ℕ). IsDamagedJournal (journal_super settings) (c 0) at) (sym path) damage))
        (λ i below file at damage.
        let d = at_there old (i + 1) (omega (arith, below, count)) in
        let d' = is_at (i + 1) below in
        let volume = at_there volumes i (let all = opens.others.count in omega (arith, below, count, all)) in
        ((opens.others.each i d.0 d'.0 volume.0 d.1 d'.1 volume.1).sound tells).before file at
        (subst (λ (c : ℕ → List ℕ). IsOpeningDamage (place_super settings i) c file at) (sym (reads_at tells (i + 1) d.0 d.1)) damage))

  -- A STORE THAT WAS NOT OPENED

  module _ (given : ℕ → HeldDisk) (back : InOrder (λ slot disk. IsGivenDisk Tells files drawn faults fuses (given slot) disk) 0 new) where
    given_at : (slot : ℕ) (d' : D) → At new slot d' → IsGivenDisk Tells files drawn faults fuses (given slot) d'
    given_at slot d' at = order_here (λ n disk. IsGivenDisk Tells files drawn faults fuses (given n) disk) new slot d' at back

    gives_at : Tells → (slot : ℕ) (d' : D) → At new slot d' → ◌≡◌ {A = ℕ → List ℕ} (λ n. (files d' n).now) (reads_of given slot)
    unfolding given_at
    gives_at tells slot d' at = reads_given Tells files drawn faults fuses (given slot) d' tells (given_at slot d' at)

    pub left_slots : MovesDisks Tells files faults fuses old new → (slot : ℕ) → slot < disk_count settings → IsLeft Tells slot (held slot) (given slot)
    unfolding is_at given_at
    left_slots moves slot below =
        let d' = is_at slot below in inr (slot_given Tells files drawn faults fuses slot (held slot) (given slot) d'.0 (given_at slot d'.0 d'.1) (opened_slot moves slot d'.0 d'.1))

    pub back_slots : (slot : ℕ) → slot < disk_count settings → (given slot).is_out ≡ false
    unfolding is_at given_at
    back_slots slot below = let d' = is_at slot below in (given_at slot d'.0 d'.1).back

    -- where disks failed, the count is that of the disk in the slot
    rose_at : (slot n : ℕ) (d d' : D) → At old slot d → At new slot d' → Rose (faults d) (faults d') × (n ≡ faults d')
        → Rose (held slot).fault_count (given slot).fault_count × (n ≡ (given slot).fault_count)
    unfolding taken_at given_at
    rose_at slot n d d' at at' both =
        let first : faults d ≡ (held slot).fault_count = (taken_at slot d at).fault_count in
        let second : faults d' ≡ (given slot).fault_count = sym (given_at slot d' at').fault_count in
        (subst (λ a. Rose a (given slot).fault_count) first (subst (λ b. Rose (faults d) b) second both.0), both.1 ∙ second)

    -- nothing in lower slots was damaged, nor is
    lower_sound : (place : ℕ) → Tells → place + 1 < disk_count settings → ((d d' : D) → At old 0 d → At new 0 d' → IsSoundJournal files settings d d')
        → ((i : ℕ) (d d' : D) → i < place → At old (i + 1) d → At new (i + 1) d' → IsSound files (place_super settings i) d d')
        → IsUndamagedBelow settings (place + 1) (reads_of held) × IsUndamagedBelow settings (place + 1) (reads_of given)
    unfolding reads_at gives_at is_at
    lower_sound place tells most first others =
        let d0 = at_there old 0 (omega (arith, count)) in
        let e0 = is_at 0 (omega arith) in
        let path = reads_at tells 0 d0.0 d0.1 in
        let path' = gives_at tells 0 e0.0 e0.1 in
        let sound = first d0.0 e0.0 d0.1 e0.1 in (
          undamaged_below settings (reads_of held) (place + 1) limits (omega (arith, most))
              (λ _ some at damage. sound.before (subst (λ (c : ℕ → List ℕ). 0 < length (c 0)) (sym path) some) at
              (subst (λ (c : ℕ → List ℕ). IsDamagedJournal (journal_super settings) (c 0) at) (sym path) damage))
              (λ i below file at damage.
              let low : i + 1 < disk_count settings = omega (arith, below, most) in
              let d = at_there old (i + 1) (omega (arith, low, count)) in
              let d' = is_at (i + 1) low in
              (others i d.0 d'.0 (omega (arith, below)) d.1 d'.1).before file at (subst (λ (c : ℕ → List ℕ). IsOpeningDamage (place_super settings i) c file at)
              (sym (reads_at tells (i + 1) d.0 d.1)) damage)),
          undamaged_below settings (reads_of given) (place + 1) limits (omega (arith, most))
              (λ _ some at damage. sound.behind at (subst (λ (c : ℕ → List ℕ). IsDamagedJournal (journal_super settings) (c 0) at) (sym path') damage))
              (λ i below file at damage.
              let low : i + 1 < disk_count settings = omega (arith, below, most) in
              let d = at_there old (i + 1) (omega (arith, low, count)) in
              let d' = is_at (i + 1) low in
              (others i d.0 d'.0 (omega (arith, below)) d.1 d'.1).behind file at (subst (λ (c : ℕ → List ℕ). IsOpeningDamage (place_super settings i) c file at)
              (sym (gives_at tells (i + 1) d'.0 d'.1)) damage)),
        )

    -- and they are formatted
    lower_formatted : (place : ℕ) → Tells → place + 1 < disk_count settings → ((d d' : D) → At old 0 d → At new 0 d' → IsSoundJournal files settings d d')
        → ((i : ℕ) (d d' : D) → i < place → At old (i + 1) d → At new (i + 1) d' → IsSound files (place_super settings i) d d')
        → (slot : ℕ) → slot < place + 1 → IsVoid (reads_of given slot) → ⊥
    unfolding gives_at is_at
    lower_formatted place tells most first others zero below void =
        let d = at_there old 0 (omega (arith, count)) in
        let d' = is_at 0 (omega arith) in
        (first d.0 d'.0 d.1 d'.1).formatted (ap (λ (c : ℕ → List ℕ). c 0) (gives_at tells 0 d'.0 d'.1) ∙ void)
    lower_formatted place tells most first others (suc i) below void =
        let low : i + 1 < disk_count settings = omega (arith, below, most) in
        let next : suc i ≡ i + 1 = omega arith in
        let d = at_there old (i + 1) (omega (arith, low, count)) in
        let d' = is_at (i + 1) low in
        (others i d.0 d'.0 (omega (arith, below)) d.1 d'.1).formatted (ap (λ (c : ℕ → List ℕ). c 0) (gives_at tells (i + 1) d'.0 d'.1) ∙ subst (λ (n : ℕ). IsVoid (reads_of given n)) next void)

    -- what is told of a disk that failed
    pub record FailedIn (slot n : ℕ) : Type 0 where
      pub within : slot < disk_count settings
      pub rose : Rose (held slot).fault_count (given slot).fault_count
      pub is : n ≡ (given slot).fault_count
      pub lowest : Tells → IsUndamagedBelow settings slot (reads_of held)
      pub sound : Tells → AreSoundBelow settings slot (reads_of given)

    -- and of one that is damaged
    pub record DamagedIn (slot file at : ℕ) : Type 0 where
      pub within : slot < disk_count settings
      pub file_is : IsSlotFile slot file
      pub before : Tells → IsDamagedDisk settings (reads_of held) slot file at
      pub behind : Tells → IsDamagedDisk settings (reads_of given) slot file at
      pub sound : Tells → AreSoundBelow settings slot (reads_of given)

    behind_within : (place : ℕ) (d : D) → At old (place + 1) d → place + 1 < disk_count settings
    behind_within place d at = let below = at_below old (place + 1) d at in omega (arith, below, count)

    failed_behind : (told : LoadOpenFault) (place n : ℕ) → RefusesBehind Tells files faults fuses settings old new told → told ≡ Open place (opening.Failed n) → FailedIn place n
    unfolding rose_at lower_sound lower_formatted behind_within
    failed_behind told slot n b is =
        let one = b.one in
        let e = file_failed (one.place + 1) slot n one.fault (sym one.tells ∙ is) in
        let rises = rose_at (one.place + 1) n one.before one.after one.was one.is (one.refused.failed n e.1) in
        let low = behind_within one.place one.before one.was in
        subst (λ k. FailedIn k n) e.0 (record {
          within = low;
          rose = rises.0;
          is = rises.1;
          lowest = λ tells. (lower_sound one.place tells low (b.first tells) (one.earlier tells)).0;
          sound = λ tells. record {
            formatted = lower_formatted one.place tells low (b.first tells) (one.earlier tells);
            undamaged = (lower_sound one.place tells low (b.first tells) (one.earlier tells)).1;
          };
        })

    failed_first : (told : LoadOpenFault) (slot n : ℕ) → RefusesFirst Tells files faults fuses settings old new told → told ≡ Open slot (opening.Failed n) → FailedIn slot n
    unfolding rose_at
    failed_first told slot n f is =
        let e = file_failed 0 slot n (of_journal f.fault) (sym f.tells ∙ is) in
        let rises = rose_at 0 n f.before f.after f.was f.is (f.refused.failed n (journal_failed n f.fault e.1)) in
        subst (λ k. FailedIn k n) e.0 (record {
          within = omega arith;
          rose = rises.0;
          is = rises.1;
          lowest = λ tells slot' file at below. absurd (omega (arith, below));
          sound = λ tells. record {
            formatted = λ slot' below. absurd (omega (arith, below));
            undamaged = λ slot' file' at' below. absurd (omega (arith, below));
          };
        })

    pub refused_failed : (told : LoadOpenFault) (slot n : ℕ) → RefusesDisks Tells files faults fuses settings old new told → told ≡ Open slot (opening.Failed n) → FailedIn slot n
    unfolding failed_behind failed_first
    refused_failed told slot n (inl memory) is = absurd (let both : NoMemory ≡ Open slot (opening.Failed n) = sym memory ∙ is in cc)
    refused_failed told slot n (inr (inl f)) is = failed_first told slot n f is
    refused_failed told slot n (inr (inr b)) is = failed_behind told slot n b is

    damaged_behind : (told : LoadOpenFault) (slot file at : ℕ) → RefusesBehind Tells files faults fuses settings old new told → told ≡ Open slot (opening.Damaged file at) → DamagedIn slot file at
    unfolding reads_at gives_at lower_sound lower_formatted behind_within
    damaged_behind told slot file at b is =
        let one = b.one in
        let e = file_damaged (one.place + 1) slot file at one.fault (sym one.tells ∙ is) in
        let low = behind_within one.place one.before one.was in
        subst (λ k. DamagedIn k file at) e.0 (record {
          within = low;
          file_is = (λ first. absurd (omega (arith, first)), λ behind. one.refused.file file at e.1);
          before = λ tells.
              let path = reads_at tells (one.place + 1) one.before one.was in
              damaged_at settings (reads_of held) one.place file at low
              (subst (λ (c : ℕ → List ℕ). IsOpeningDamage (place_super settings one.place) c file at) path (one.refused.damaged tells file at e.1))
              (λ s opens. one.refused.only tells file at e.1 s (subst (λ (c : ℕ → List ℕ). OpensAs (place_super settings one.place) c s) (sym path) opens))
              (lower_sound one.place tells low (b.first tells) (one.earlier tells)).0;
          behind = λ tells.
              let damage = one.refused.damaged tells file at e.1 in
              let same : ◌≡◌ {A = ℕ → List ℕ} (λ n. (files one.before n).now) (reads_of given (one.place + 1)) =
              fun_ext (λ n. sym (one.refused.disk.kept tells (damaged_some (place_super settings one.place) (λ n. (files one.before n).now) file at damage) n))
              ∙ gives_at tells (one.place + 1) one.after one.is in
              damaged_at settings (reads_of given) one.place file at low
              (subst (λ (c : ℕ → List ℕ). IsOpeningDamage (place_super settings one.place) c file at) same damage)
              (λ s opens. one.refused.only tells file at e.1 s (subst (λ (c : ℕ → List ℕ). OpensAs (place_super settings one.place) c s) (sym same) opens))
              (lower_sound one.place tells low (b.first tells) (one.earlier tells)).1;
          sound = λ tells. record {
            formatted = lower_formatted one.place tells low (b.first tells) (one.earlier tells);
            undamaged = (lower_sound one.place tells low (b.first tells) (one.earlier tells)).1;
          };
        })

    damaged_front : (told : LoadOpenFault) (slot file at : ℕ) → RefusesFirst Tells files faults fuses settings old new told → told ≡ Open slot (opening.Damaged file at) → DamagedIn slot file at
    unfolding reads_at gives_at
    damaged_front told slot file at f is =
        let e = file_damaged 0 slot file at (of_journal f.fault) (sym f.tells ∙ is) in
        let fault = journal_damaged file at f.fault e.1 in
        subst (λ k. DamagedIn k file at) e.0 (record {
          within = omega arith;
          file_is = (λ first. f.refused.file file at fault, λ behind. absurd (omega (arith, behind)));
          before = λ tells.
              let path = reads_at tells 0 f.before f.was in
              let damage = f.refused.damaged tells file at fault in
              damaged_first settings (reads_of held) file at (f.refused.file file at fault) (subst (λ (c : ℕ → List ℕ). IsDamagedJournal (journal_super settings) (c 0) at) path damage.1)
              (λ rows opens. f.refused.only tells file at fault rows (subst (λ (c : ℕ → List ℕ). OpensRows settings (c 0) rows) (sym path) opens));
          behind = λ tells.
              let damage = f.refused.damaged tells file at fault in
              let same : (files f.before 0).now ≡ reads_of given 0 0 =
              sym (ap (λ (x : Files). (x 0).now) (f.refused.disk.same tells damage.0)) ∙ ap (λ (c : ℕ → List ℕ). c 0) (gives_at tells 0 f.after f.is) in
              damaged_first settings (reads_of given) file at (f.refused.file file at fault) (subst (λ (l : List ℕ). IsDamagedJournal (journal_super settings) l at) same damage.1)
              (λ rows opens. f.refused.only tells file at fault rows (subst (λ (l : List ℕ). OpensRows settings l rows) (sym same) opens));
          sound = λ tells. record {
            formatted = λ slot' below. absurd (omega (arith, below));
            undamaged = λ slot' file' at' below. absurd (omega (arith, below));
          };
        })

    pub refused_damaged : (told : LoadOpenFault) (slot file at : ℕ) → RefusesDisks Tells files faults fuses settings old new told → told ≡ Open slot (opening.Damaged file at) → DamagedIn slot file at
    unfolding damaged_behind damaged_front
    refused_damaged told slot file at (inl memory) is = absurd (let both : NoMemory ≡ Open slot (opening.Damaged file at) = sym memory ∙ is in cc)
    refused_damaged told slot file at (inr (inl f)) is = damaged_front told slot file at f is
    refused_damaged told slot file at (inr (inr b)) is = damaged_behind told slot file at b is

  pub refused_memory : (told : LoadOpenFault) (slot : ℕ) → RefusesDisks Tells files faults fuses settings old new told → told ≡ Open slot opening.NoMemory → ⊥
  refused_memory told slot (inl memory) is = let both : NoMemory ≡ Open slot opening.NoMemory = sym memory ∙ is in absurd cc
  refused_memory told slot (inr (inl f)) is = file_memory 0 slot (of_journal f.fault) (sym f.tells ∙ is)
  refused_memory told slot (inr (inr b)) is = file_memory (b.one.place + 1) slot b.one.fault (sym b.one.tells ∙ is)

  pub refused_shelf : (told : LoadOpenFault) (n : ℕ) → RefusesDisks Tells files faults fuses settings old new told → told ≡ Shelf n → ⊥
  refused_shelf told n (inl memory) is = let both : NoMemory ≡ Shelf n = sym memory ∙ is in absurd cc
  refused_shelf told n (inr (inl f)) is = file_shelf 0 n (of_journal f.fault) (sym f.tells ∙ is)
  refused_shelf told n (inr (inr b)) is = file_shelf (b.one.place + 1) n b.one.fault (sym b.one.tells ∙ is)
