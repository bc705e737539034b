-- Openings that were refused, and the run around what was served.
use Rattle.std.proofs.Common.{◌≡◌, ◌≢◌, ◌⊎◌, inl, inr, ℕ, zero, suc, ◌<◌, ◌≤◌, List, [], ◌++◌, take, Option, Some, None, refl, sym, ap, subst, ◌∙◌, append_assoc, arith}
use Rattle.std.specs.Prelude.{slice_index, Result, Ok, Err, OnOk, ◌==◌, if◌then◌else◌}
use Rattle.std.proofs.lemmas.List.{append-nil}
use Rattle.hay_disk.specs.Counts.{Rose}
use Rattle.hay_disk.specs.Disk.{Files, MayLeave}
use Rattle.hay_disk.specs.Shelf.{HeldDisk, HeldArm}
use Rattle.hay_disk.specs.Streams.{Wrote, WrotePart}
use Rattle.hay_mount.specs.Mounts.{IsArmBack}
use Rattle.hay_needle.specs.declared.settings.Settings.{Settings}
use Rattle.hay_reply.specs.declared.Note.{Note}
use Rattle.hay_reply.specs.declared.Note.TheVariants as told
use Rattle.hay_reply.specs.Replies.{header_line, note_line}
use Rattle.hay_legal.specs.declared.known.Known.{Known}
use Rattle.hay_legal.specs.Known.{CameUp, disk_count, replica_at, volume_at}
use Rattle.hay_legal.specs.Stands.{Contents, Outside, found_of}
use Rattle.hay_legal.specs.Statuses as statuses
use Rattle.hay_legal.specs.Statuses.{Ending, read_contents, status_of}
use Rattle.hay_legal.specs.Statuses.Ending.{ReadAll, OutputFault, InputFault, NoMemory, NotOpened, TooLong}
use Rattle.hay_legal.proofs.Reopening.{new_outcome}
use Rattle.hay_cluster.specs.Causes.{HasFile}
use Rattle.hay_cluster.specs.declared.fault.ClusterFault.{ClusterFault}
use Rattle.hay_cluster.specs.declared.fault.ClusterFault.TheVariants as refusal
use Rattle.hay_directory.specs.Rows.{OpensRows}
use Rattle.hay_logical.specs.Fits.{IsReplica}
use Rattle.hay_cluster.specs.Outside.{AreSoundBelow, CountsOn, IsDamagedDisk, IsFirstDamage, IsKept, IsNotWhole, IsUndamaged, IsUndamagedBelow, IsVoid, outside_of}
use Rattle.hay_cluster.specs.Store.{Open, contents_in}
use Rattle.hay_cluster.proofs.OpeningDamage.{slot_found}
use Rattle.hay_run.specs.declared.stops.Stop.{Stop}
use Rattle.hay_run.specs.declared.stops.Stop.TheVariants as stop
use Rattle.hay_run.specs.Stops.{ending_of, note_of}
use Rattle.hay_run.specs.Runs.{HasOpened, IsFirstRefusal, IsLaterRefusal, IsTaken, IsNotOpened, IsNotOpenedBehind, IsUnread, RanTo, RefusedLater, WasRead}
use Rattle.hay_run.specs.Turns.{Standing, counts_of, RefusedFor, Halts}
use Rattle.hay_run.proofs.Counting.{rose_more}
use Rattle.hay_run.proofs.Restarting.{rose_came_up}
use Rattle.hay_run.proofs.Turning.{rises_same}
use Rattle.hay_run.proofs.Ran.{LastWants, RanPart, last_none, ran_output, ran_memory, front_take, wants_none}

pub on_ok_both : {T E : Type 0} (P Q : Type 0) (r : Result T E) → OnOk r P → OnOk r Q → OnOk r (P × Q)
on_ok_both P Q (Ok x) p q = (p, q)
on_ok_both P Q (Err e) p q = tt

-- no disk was touched
pub untouched : (settings : Settings) (taken : Outside) (k : Known) → IsTaken settings taken k
    → statuses.IsUnopened IsReplica OpensRows IsVoid settings k taken taken
untouched settings taken k is = record {
  images = λ image may. (
    read_contents taken,
    λ slot within. inr (inr (refl, λ file. refl)),
    new_outcome (IsReplica settings) (OpensRows settings) settings k (read_contents taken) is.new is.found,
  );
  faults = λ slot within. let same = is.faults slot within in omega (arith, same);
  fuses = is.fuses;
  arms = is.arms;
}

-- what an opening finds is not damaged
pub not_damaged : (settings : Settings) → 1 ≤ settings.replicas → (taken : Outside) (k : Known) → IsTaken settings taken k → (slot file at : ℕ)
    → IsDamagedDisk settings (read_contents taken) slot file at → ⊥
not_damaged settings some taken k is zero file at damaged = damaged.not_whole.directory refl k.directory.rows is.found.directory
not_damaged settings some taken k is (suc n) file at damaged =
    let there = slot_found settings n some damaged.within in
    let found = found_of (replica_at (volume_at k there.0) there.1) in
    let P : ℕ → Type 0 = λ slot. IsReplica settings there.0 there.1 (read_contents taken slot) found in
    damaged.not_whole.replica there.0 there.1 there.2 there.3 (sym there.4) found (subst P there.4 (is.found.replicas there.0 there.1 there.2 there.3))

-- disks of the same contents
undamaged_as : (settings : Settings) (slot : ℕ) (a b : ℕ → Contents) → ((lower : ℕ) → lower < slot → a lower ≡ b lower) → IsUndamagedBelow settings slot a → IsUndamagedBelow settings slot b
undamaged_as settings slot a b below_same lowest lower file at below some there =
    let is = below_same lower below in
    lowest lower file at below (subst (λ (c : Contents). IsVoid c → ⊥) (sym is) some) (subst (λ (c : Contents). IsFirstDamage settings lower file at c) (sym is) there)

sound_as : (settings : Settings) (slot : ℕ) (a b : ℕ → Contents) → ((lower : ℕ) → lower < slot → a lower ≡ b lower) → AreSoundBelow settings slot a → AreSoundBelow settings slot b
sound_as settings slot a b below_same sound = record {
  formatted = λ lower below void. sound.formatted lower below (subst IsVoid (sym (below_same lower below)) void);
  undamaged = undamaged_as settings slot a b below_same sound.undamaged;
}

damaged_as : (settings : Settings) (slot file at : ℕ) (a b : ℕ → Contents) → a slot ≡ b slot → ((lower : ℕ) → lower < slot → a lower ≡ b lower)
    → IsDamagedDisk settings a slot file at → IsDamagedDisk settings b slot file at
damaged_as settings slot file at a b same below_same d = record {
  within = d.within;
  not_whole = subst (λ (c : Contents). IsNotWhole settings slot c) same d.not_whole;
  place = subst (λ (c : Contents). IsFirstDamage settings slot file at c) same d.place;
  lowest = undamaged_as settings slot a b below_same d.lowest;
}

no_last : LastWants []
no_last = last_none [] tt

-- what a refused opening has left of the disks of a store
abbrev pub AreKept : Settings → (ℕ → HeldDisk) → (ℕ → HeldDisk) → Type 0
AreKept settings disks disks' = (slot : ℕ) → slot < disk_count settings → IsKept slot (disks slot) (disks' slot)

-- The shelf as it was and as it is behind an opening that was refused: k was held.
module _ (settings : Settings) (shelf shelf' : ℕ) (disks disks' : ℕ → HeldDisk) (arms arms' : ℕ → HeldArm) (k : Known) (taken : IsTaken settings (outside_of shelf disks arms) k)
    (kept : AreKept settings disks disks')
    (counts : (slot : ℕ) → slot < disk_count settings → CountsOn (disks slot) (disks' slot).fault_count (disks' slot).fuse_count)
    (back : (lane : ℕ) → lane < 8 → IsArmBack (arms lane) (arms' lane))
    (some : 1 ≤ settings.replicas) where
  stands_in : (slot : ℕ) (image : ℕ → (ℕ → List ℕ)) → MayLeave (disks' slot).files (image slot) → IsKept slot (disks slot) (disks' slot)
      → statuses.StandsIn IsReplica OpensRows IsVoid settings (outside_of shelf disks arms) (outside_of shelf' disks' arms') image slot (read_contents (outside_of shelf disks arms) slot)
  stands_in slot image may (inl void) = inr (inl (record { was = void.void; stands_for = void.void; nothing = void.nothing (image slot) may }))
  stands_in slot image may (inr (inl same)) = inr (inr (same, λ file. refl))
  stands_in slot image may (inr (inr all)) = inl (λ file. sym (all (image slot) may file))

  unopened : statuses.IsUnopened IsReplica OpensRows IsVoid settings k (outside_of shelf disks arms) (outside_of shelf' disks' arms')
  unopened = record {
    images = λ image may. (
      read_contents (outside_of shelf disks arms),
      λ slot within. stands_in slot image (may slot within) (kept slot within),
      new_outcome (IsReplica settings) (OpensRows settings) settings k (read_contents (outside_of shelf disks arms)) taken.new taken.found,
    );
    faults = λ slot within. let same = taken.faults slot within in let rise = (counts slot within).faults_rise in omega (arith, same, rise);
    fuses = λ slot within. taken.fuses slot within ∙ sym (counts slot within).fuses_are;
    arms = λ lane within. taken.arms lane within ∙ sym (back lane within).fault_count;
  }

  tells_of : (Tells : Type 0) → Tells → (note : Note) → IsFirstRefusal Tells settings (outside_of shelf disks arms) (outside_of shelf' disks' arms') note
      → statuses.TellsFirst settings k (outside_of shelf disks arms) (outside_of shelf' disks' arms') note
  tells_of Tells tells note (inl (count, is, rose, told)) = inr (count, is, rose_came_up shelf shelf' count rose told)
  tells_of Tells tells note (inr (inl (slot, (count, is, within, rose, told), lowest))) =
      inl (
        slot,
        count,
        is,
        within,
        subst (λ n. CameUp n count (disks' slot).fault_count) (sym (taken.faults slot within)) (rose_came_up (disks slot).fault_count (disks' slot).fault_count count rose told),
      )
  tells_of Tells tells note (inr (inr (slot, file, at, is, within, why))) = absurd (not_damaged settings some (outside_of shelf disks arms) k taken slot file at (why tells).0)

  module _ (script held : List ℕ) (written' : Option (List ℕ)) where
    -- a note was written behind the header, or a front of it
    noted : (note : Note) → statuses.TellsFirst settings k (outside_of shelf disks arms) (outside_of shelf' disks' arms') note
        → WrotePart (Some (held ++ header_line settings)) (note_line note) written'
        → RanPart settings k script (Some script) (outside_of shelf disks arms) (outside_of shelf' disks' arms') held written'
    noted note tells wrote = record {
      read = [];
      bytes = (script, refl, refl);
      text = header_line settings ++ take wrote.0 (note_line note);
      wrote = wrote.1 ∙ ap (λ (l : List ℕ). Some l) (append_assoc held (header_line settings) (take wrote.0 (note_line note)));
      opened = k;
      opening = rises_same k;
      turns = [];
      t = k;
      legal = refl;
      last = no_last;
      fits = tt;
      ends = inr (inr (inl (record {
        none = refl;
        unread = refl;
        note = note;
        tells = tells;
        wrote = (
          take wrote.0 (note_line note),
          front_take wrote.0 (note_line note),
          ap (λ (l : List ℕ). l ++ take wrote.0 (note_line note)) (sym (append-nil (header_line settings))),
        );
        left = unopened;
      })));
    }

    -- nothing was written behind the header
    header_alone : written' ≡ Some (held ++ header_line settings) → RanPart settings k script (Some script) (outside_of shelf disks arms) (outside_of shelf' disks' arms') held written'
    header_alone same = record {
      read = [];
      bytes = (script, refl, refl);
      text = header_line settings;
      wrote = same;
      opened = k;
      opening = rises_same k;
      turns = [];
      t = k;
      legal = refl;
      last = no_last;
      fits = tt;
      ends = inr (inl (record { none = refl; unread = refl; wrote = ([], refl); left = unopened }));
    }

    note_whole : (note : Note) → statuses.TellsFirst settings k (outside_of shelf disks arms) (outside_of shelf' disks' arms') note
        → Wrote (Some (held ++ header_line settings)) (note_line note) written'
        → RanTo settings k NotOpened script (Some script) (outside_of shelf disks arms) (outside_of shelf' disks' arms') held written'
    note_whole note tells wrote = record {
      read = [];
      bytes = (script, refl, refl);
      text = (header_line settings ++ []) ++ note_line note;
      wrote = wrote ∙ ap (λ (l : List ℕ). Some l) (append_assoc held (header_line settings) (note_line note)
          ∙ ap (λ (l : List ℕ). held ++ (l ++ note_line note)) (sym (append-nil (header_line settings))));
      runs = record {
        opened = k;
        opening = rises_same k;
        turns = [];
        t = k;
        legal = refl;
        wanting = wants_none NotOpened [] tt;
        ends = inl (record { none = refl; unread = refl; note = note; tells = tells; wrote = (note_line note, refl, refl); left = unopened });
      };
      fits = tt;
    }

    not_store : {X : Type 0} (why : Stop) → why ≢ stop.Store → (why ≡ stop.Store) ⊎ X → X
    not_store why not (inl is) = absurd (not is)
    not_store why not (inr x) = x

    abbrev Because : Type 0 → ClusterFault → Type 0
    Because Tells fault = (note : Note) → note_of fault ≡ Some note → IsFirstRefusal Tells settings (outside_of shelf disks arms) (outside_of shelf' disks' arms') note

    broken : (Tells : Type 0) → Tells → (fault : ClusterFault) (why : Stop) (note : Option Note) → note_of fault ≡ note → Because Tells fault
        → ((note : Note) → note_of fault ≡ Some note → (why ≡ stop.Store) ⊎ WrotePart (Some (held ++ header_line settings)) (note_line note) written')
        → (note_of fault ≡ None → (why ≡ stop.NoMemory) × (written' ≡ Some (held ++ header_line settings)))
        → why ≢ stop.Store → RanPart settings k script (Some script) (outside_of shelf disks arms) (outside_of shelf' disks' arms') held written'
    broken Tells tells fault why (Some note) is cause part wanting not =
        noted note (tells_of Tells tells note (cause note is)) (not_store why not (part note is))
    broken Tells tells fault why None is cause part wanting not = header_alone (wanting is).1

    -- how the refusal of an opening was told
    pub ran_unopened : (Tells : Type 0) → Tells → (fault : ClusterFault) (why : Stop) → Because Tells fault
        → (why ≡ stop.Store → (note : Note) × (note_of fault ≡ Some note) × Wrote (Some (held ++ header_line settings)) (note_line note) written')
        → ((note : Note) → note_of fault ≡ Some note → (why ≡ stop.Store) ⊎ WrotePart (Some (held ++ header_line settings)) (note_line note) written')
        → (note_of fault ≡ None → (why ≡ stop.NoMemory) × (written' ≡ Some (held ++ header_line settings)))
        → (why ≡ stop.Output) ⊎ (why ≡ stop.NoMemory) ⊎ (why ≡ stop.Store)
        → RanTo settings k (ending_of why) script (Some script) (outside_of shelf disks arms) (outside_of shelf' disks' arms') held written'
    ran_unopened Tells tells fault stop.Store cause whole part wanting kinds =
        let note = whole refl in note_whole note.0 (tells_of Tells tells note.0 (cause note.0 note.1)) note.2
    ran_unopened Tells tells fault stop.Output cause whole part wanting kinds =
        ran_output settings k script (Some script) (outside_of shelf disks arms) (outside_of shelf' disks' arms') held written'
        (broken Tells tells fault stop.Output (note_of fault) refl cause part wanting (λ is. cc))
    ran_unopened Tells tells fault stop.NoMemory cause whole part wanting kinds =
        ran_memory settings k script (Some script) (outside_of shelf disks arms) (outside_of shelf' disks' arms') held written'
        (broken Tells tells fault stop.NoMemory (note_of fault) refl cause part wanting (λ is. cc))
    ran_unopened Tells tells fault stop.Input cause whole part wanting (inl is) = cc
    ran_unopened Tells tells fault stop.Input cause whole part wanting (inr (inl is)) = cc
    ran_unopened Tells tells fault stop.Input cause whole part wanting (inr (inr is)) = cc
    ran_unopened Tells tells fault stop.TooLong cause whole part wanting (inl is) = cc
    ran_unopened Tells tells fault stop.TooLong cause whole part wanting (inr (inl is)) = cc
    ran_unopened Tells tells fault stop.TooLong cause whole part wanting (inr (inr is)) = cc

-- The header was not written whole, and no disk was touched.
pub ran_header : (settings : Settings) (taken : Outside) (k : Known) → IsTaken settings taken k
    → (script held : List ℕ) (written' : Option (List ℕ)) → WrotePart (Some held) (header_line settings) written'
    → RanPart settings k script (Some script) taken taken held written'
ran_header settings taken k is script held written' wrote = record {
  read = [];
  bytes = (script, refl, refl);
  text = take wrote.0 (header_line settings);
  wrote = wrote.1;
  opened = k;
  opening = rises_same k;
  turns = [];
  t = k;
  legal = refl;
  last = no_last;
  fits = tt;
  ends = inr (inl (record {
    none = refl;
    unread = refl;
    wrote = (
      (front_take wrote.0 (header_line settings)).0,
      append-nil (header_line settings) ∙ (front_take wrote.0 (header_line settings)).1,
    );
    left = untouched settings taken k is;
  }));
}

-- WHY A STORE IS NOT OPENED

module _ (Tells : Type 0) (settings : Settings) (taken given : Outside) where
  -- as the refusal of the first opening says
  pub cause_of : (fault : ClusterFault)
      → ((count : ℕ) → fault ≡ refusal.Shelf count → Rose taken.shelf given.shelf × (count ≡ given.shelf))
      → ((slot count : ℕ) → fault ≡ refusal.Failed slot count → (slot < disk_count settings) × Rose (taken.faults slot) (given.faults slot) × (count ≡ given.faults slot))
      → (Tells → (slot count : ℕ) → fault ≡ refusal.Failed slot count → IsUndamagedBelow settings slot (read_contents taken) × AreSoundBelow settings slot (read_contents given))
      → ((slot file at : ℕ) → fault ≡ refusal.Damaged slot file at → HasFile settings slot file)
      → (Tells → (slot file at : ℕ) → fault ≡ refusal.Damaged slot file at → IsDamagedDisk settings (read_contents taken) slot file at × IsDamagedDisk settings (read_contents given) slot file at
      × AreSoundBelow settings slot (read_contents given))
      → (note : Note) → note_of fault ≡ Some note → IsFirstRefusal Tells settings taken given note
  cause_of (refusal.Shelf count) of_shelf of_disk of_lower within of_damage note is =
      let same : note ≡ told.OpenShelf count = cc in let rose = of_shelf count refl in inl (count, same, rose.0, rose.1)
  cause_of (refusal.Failed slot count) of_shelf of_disk of_lower within of_damage note is =
      let same : note ≡ told.OpenFailed slot count = cc in let rose = of_disk slot count refl in inr (inl (slot, (count, same, rose.0, rose.1, rose.2), λ tells. of_lower tells slot count refl))
  cause_of (refusal.Damaged slot file at) of_shelf of_disk of_lower within of_damage note is =
      let same : note ≡ told.OpenDamaged slot file at = cc in inr (inr (slot, file, at, same, within slot file at refl, λ tells. of_damage tells slot file at refl))
  cause_of refusal.NoMemory of_shelf of_disk of_lower within of_damage note is = cc

  -- as the refusal of a restart says
  module _ {D P A : Type 0} (Begins : Standing D P A) (files : D → Files) (faults : D → ℕ) (store store' : Open D P A)
      (same : store.settings ≡ settings)
      (later : (slot : ℕ) → slot < disk_count settings → taken.faults slot ≤ slice_index (counts_of faults store) slot)
      (back : (slot : ℕ) → slot < disk_count settings → given.faults slot ≡ slice_index (counts_of faults store') slot)
      (contents : Tells → (slot : ℕ) → slot < disk_count settings → read_contents given slot ≡ contents_in files store' slot)
      (stands : Tells → (k : Known) → IsTaken settings taken k → (t : Known) × Begins store t)
      (sound : Tells → IsUndamaged settings (read_contents taken)) where
    cause_later : (note : Note) → RefusedFor Tells Begins files faults store store' note → IsLaterRefusal Tells settings taken given note
    cause_later note (inl (slot, count, is, below, rose, count_is, lowest)) =
        let within : slot < disk_count settings = subst (λ (s : Settings). slot < disk_count s) same below in
        inl (
          slot,
          (
            count,
            is,
            within,
            subst (λ n. Rose (taken.faults slot) n) (sym (back slot within)) (rose_more (taken.faults slot) (slice_index (counts_of faults store) slot)
                (slice_index (counts_of faults store') slot) (later slot within) rose),
            count_is ∙ sym (back slot within),
          ),
          λ tells. sound_as settings slot (contents_in files store') (read_contents given) (λ lower low. sym (contents tells lower (omega (arith, low, within))))
              (subst (λ (s : Settings). AreSoundBelow s slot (contents_in files store')) same (lowest tells)),
        )
    cause_later note (inr (slot, file, at, is, below, why)) =
        inr (
          slot,
          file,
          at,
          is,
          subst (λ (s : Settings). HasFile s slot file) same below,
          λ tells.
              let damaged : IsDamagedDisk settings (contents_in files store') slot file at = subst (λ (s : Settings). IsDamagedDisk s (contents_in files store') slot file at) same (why tells).1 in (
                λ k held. let s = stands tells k held in (why tells).0 s.0 s.1,
                sound tells,
                damaged_as settings slot file at (contents_in files store') (read_contents given) (sym (contents tells slot damaged.within))
                    (λ lower below. sym (contents tells lower (let within = damaged.within in omega (arith, below, within)))) damaged,
                sound_as settings slot (contents_in files store') (read_contents given) (λ lower below. sym (contents tells lower (let within = damaged.within in omega (arith, below, within))))
                    (subst (λ (s : Settings). AreSoundBelow s slot (contents_in files store')) same (why tells).2),
              ),
        )

    pub refused_later : (left left' written written' : Option (List ℕ)) → (IsUnread left left' → ⊥) → Halts Tells Begins files faults store store' written written'
        → RefusedLater Tells settings taken given left left' written written'
    refused_later left left' written written' read h = record { note = h.note; why = cause_later h.note h.why; told = h.told; read = read }

-- what was written behind the header
pub behind_header : (Tells : Type 0) (settings : Settings) (disks disks' : ℕ → HeldDisk) (taken given : Outside) (left left' before mid after : Option (List ℕ))
    → ((held : List ℕ) → before ≡ Some held → mid ≡ Some (held ++ header_line settings))
    → IsNotOpenedBehind Tells settings disks disks' taken given left left' mid after → IsNotOpened Tells settings disks disks' taken given left left' before after
behind_header Tells settings disks disks' taken given left left' None mid after headed (inl h) =
    inl (record { note = h.note; why = h.why; told = λ held is. cc; unread = h.unread; kept = h.kept; counts = h.counts })
behind_header Tells settings disks disks' taken given left left' None mid after headed (inr h) = inr (record { note = h.note; why = h.why; told = λ held is. cc; read = h.read })
behind_header Tells settings disks disks' taken given left left' (Some old) mid after headed (inl h) =
    inl (record { note = h.note; why = h.why; told = λ held is. h.told held (headed old refl ∙ is); unread = h.unread; kept = h.kept; counts = h.counts })
behind_header Tells settings disks disks' taken given left left' (Some old) mid after headed (inr h) =
    inr (record { note = h.note; why = h.why; told = λ held is. h.told held (headed old refl ∙ is); read = h.read })

pub ran_unwritten : (settings : Settings) (taken : Outside) (k : Known) → IsTaken settings taken k
    → (script held : List ℕ) (written' : Option (List ℕ)) → WrotePart (Some held) (header_line settings) written'
    → (r : Result (Unit {0}) Stop) (why : Stop) → r ≡ Err why → (r ≡ Err stop.Output) ⊎ (r ≡ Err stop.NoMemory)
    → RanTo settings k (ending_of why) script (Some script) taken taken held written'
ran_unwritten settings taken k is_taken script held written' wrote r stop.Output is kinds =
    ran_output settings k script (Some script) taken taken held written' (ran_header settings taken k is_taken script held written' wrote)
ran_unwritten settings taken k is_taken script held written' wrote r stop.NoMemory is kinds =
    ran_memory settings k script (Some script) taken taken held written' (ran_header settings taken k is_taken script held written' wrote)
ran_unwritten settings taken k is_taken script held written' wrote r stop.Input is (inl e) = cc
ran_unwritten settings taken k is_taken script held written' wrote r stop.Input is (inr e) = cc
ran_unwritten settings taken k is_taken script held written' wrote r stop.TooLong is (inl e) = cc
ran_unwritten settings taken k is_taken script held written' wrote r stop.TooLong is (inr e) = cc
ran_unwritten settings taken k is_taken script held written' wrote r stop.Store is (inl e) = cc
ran_unwritten settings taken k is_taken script held written' wrote r stop.Store is (inr e) = cc

-- ENDINGS BY THEIR STATUSES

ending_at : ℕ → Ending
ending_at n = if n == 3 then OutputFault else if n == 4 then InputFault else if n == 5 then NoMemory else if n == 6 then NotOpened else if n == 7 then TooLong else ReadAll

ending_back : (ending : Ending) → ending_at (status_of ending) ≡ ending
unfolding ending_at
ending_back ReadAll = refl
ending_back OutputFault = refl
ending_back InputFault = refl
ending_back NoMemory = refl
ending_back NotOpened = refl
ending_back TooLong = refl

same_ending : (one other : Ending) → status_of one ≡ status_of other → one ≡ other
same_ending one other same = sym (ending_back one) ∙ ap ending_at same ∙ ending_back other

module _ (settings : Settings) (k : Known) (script : List ℕ) (left : Option (List ℕ)) (taken given : Outside) (held : List ℕ) (written' : Option (List ℕ)) (ending : Ending) where
  pub ran_by : (other : Ending) → status_of other ≡ status_of ending → RanTo settings k other script left taken given held written' → RanTo settings k ending script left taken given held written'
  ran_by other same ran = subst (λ e. RanTo settings k e script left taken given held written') (same_ending other ending same) ran

-- Nothing was read or written, and no disk was touched.
pub ran_nothing : (settings : Settings) (taken : Outside) (k : Known) → IsTaken settings taken k
    → (script held : List ℕ) (written : Option (List ℕ)) → written ≡ Some held → (ending : Ending) → status_of NoMemory ≡ status_of ending
    → RanTo settings k ending script (Some script) taken taken held written
ran_nothing settings taken k is_taken script held written same ending is =
    ran_by settings k script (Some script) taken taken held written ending NoMemory is
    (ran_memory settings k script (Some script) taken taken held written (record {
      read = [];
      bytes = (script, refl, refl);
      text = [];
      wrote = same ∙ ap (λ (l : List ℕ). Some l) (sym (append-nil held));
      opened = k;
      opening = rises_same k;
      turns = [];
      t = k;
      legal = refl;
      last = no_last;
      fits = tt;
      ends = inr (inl (record { none = refl; unread = refl; wrote = (header_line settings ++ [], refl); left = untouched settings taken k is_taken }));
    }))

pub store_by : (why : Stop) → status_of (ending_of why) ≡ 6 → why ≡ stop.Store
store_by stop.Output e = absurd (omega (arith, e))
store_by stop.Input e = absurd (omega (arith, e))
store_by stop.NoMemory e = absurd (omega (arith, e))
store_by stop.Store e = refl
store_by stop.TooLong e = absurd (omega (arith, e))

open_then : (why : Stop) → (status_of (ending_of why) ≡ 0) ⊎ (status_of (ending_of why) ≡ 4) ⊎ (status_of (ending_of why) ≡ 7) → HasOpened (Err why)
open_then stop.Input is = tt
open_then stop.TooLong is = tt
open_then stop.Output (inl is) = absurd (omega (arith, is))
open_then stop.Output (inr (inl is)) = absurd (omega (arith, is))
open_then stop.Output (inr (inr is)) = absurd (omega (arith, is))
open_then stop.NoMemory (inl is) = absurd (omega (arith, is))
open_then stop.NoMemory (inr (inl is)) = absurd (omega (arith, is))
open_then stop.NoMemory (inr (inr is)) = absurd (omega (arith, is))
open_then stop.Store (inl is) = absurd (omega (arith, is))
open_then stop.Store (inr (inl is)) = absurd (omega (arith, is))
open_then stop.Store (inr (inr is)) = absurd (omega (arith, is))

-- a run that stopped with one of these statuses, or behind something that was read, had opened its store
pub opened_by : {W : Type 0} (why : Stop) (status : ℕ) → status ≡ status_of (ending_of why) → (status ≡ 0) ⊎ (status ≡ 4) ⊎ (status ≡ 7) ⊎ W → HasOpened (Err why) ⊎ W
opened_by why status same (inl is) = inl (open_then why (inl (sym same ∙ is)))
opened_by why status same (inr (inl is)) = inl (open_then why (inr (inl (sym same ∙ is))))
opened_by why status same (inr (inr (inl is))) = inl (open_then why (inr (inr (sym same ∙ is))))
opened_by why status same (inr (inr (inr read))) = inr read

-- a store that was not opened
pub none_opened : {W : Type 0} (why : Stop) → (why ≡ stop.Output) ⊎ (why ≡ stop.NoMemory) ⊎ (why ≡ stop.Store) → (W → ⊥) → HasOpened (Err why) ⊎ W → ⊥
none_opened why kinds none (inr read) = none read
none_opened stop.Output kinds none (inl opened) = opened
none_opened stop.NoMemory kinds none (inl opened) = opened
none_opened stop.Store kinds none (inl opened) = opened
none_opened stop.Input (inl is) none (inl opened) = cc
none_opened stop.Input (inr (inl is)) none (inl opened) = cc
none_opened stop.Input (inr (inr is)) none (inl opened) = cc
none_opened stop.TooLong (inl is) none (inl opened) = cc
none_opened stop.TooLong (inr (inl is)) none (inl opened) = cc
none_opened stop.TooLong (inr (inr is)) none (inl opened) = cc

pub not_read : (left : Option (List ℕ)) → WasRead left left → ⊥
not_read left read = read.2 read.1

-- what holds of an ending holds of the one with its status
pub by_status : (P : Ending → Type 0) (one other : Ending) → status_of one ≡ status_of other → P one → P other
by_status P one other same h = subst P (same_ending one other same) h
