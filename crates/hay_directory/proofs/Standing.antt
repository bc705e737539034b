-- What a directory stands for behind each call.
use Rattle.std.proofs.Common.{◌≡◌, inr, ◌<◌, ◌≤◌, ◌+◌, ℕ, Bool, true, false, List, [], ◌∷◌, ◌++◌, length, Option, Some, None, refl, sym, ap, subst, ◌∙◌, arith, length-append}
use Rattle.std.proofs.lemmas.Bool.{true≢false}
use Rattle.std.specs.Prelude.{slice_set, replicate, IfSome, is_some, option_map, Result, Ok, Err, OnErr}
use Rattle.hay_core.specs.declared.entry.CoreTag.{CoreTag}
use Rattle.hay_disk.specs.Disk.{Files, FileState, IsFree, IsImage, IsSolid, MayLeave}
use Rattle.hay_disk.specs.Gate.{IsGate}
use Rattle.hay_disk.proofs.Images.{solid_whole}
use Rattle.hay_dirfile.specs.declared.fault.OpenFault.{OpenFault}
use Rattle.hay_dirfile.specs.Journal.{journal_magic}
use Rattle.hay_legal.specs.declared.known.DirKnown.{DirKnown}
use Rattle.hay_legal.specs.declared.known.HomeRow.{HomeRow}
use Rattle.hay_legal.specs.declared.known.PendingRow.{PendingRow}
use Rattle.hay_legal.specs.Known.{home_in}
use Rattle.hay_legal.specs.Restarts.{directory_with, kept_row, row_notes}
use Rattle.hay_reply.specs.declared.Note.{Note}
use Rattle.hay_needle.specs.declared.needle.Pair.{Pair}
use Rattle.hay_needle.specs.declared.settings.Settings.{Settings}
use Rattle.hay_needle.specs.declared.settings.TheConstants.{MAX_MACHINES}
use Rattle.hay_directory.specs.declared.mode.Mode.{Mode}
use Rattle.hay_directory.specs.declared.mode.Mode.TheVariants.{Closed, Open, Frozen}
use Rattle.hay_directory.specs.declared.mode.Unsure.{Unsure}
use Rattle.hay_directory.specs.Homes.{HomesWithin, KeepsHomes, SetsHome}
use Rattle.hay_directory.specs.Notes.{notes_by}
use Rattle.hay_directory.specs.Rows.{dir_row, HasJournal, OpensRows}
use Rattle.hay_directory.specs.State.{State, StandsFor, StoppedFor, HoldsFor, WrittenFor, Stands, Stopped, Holds, HoldsRows, IsSettled, IsUnsure, IsDue, FindsRows, IsKept}
use Rattle.hay_directory.specs.State.{IsSound, mode_of, unsure_of, unsure_row, home_of, is_closed, is_frozen}
use Rattle.hay_directory.proofs.HomeLaws.{AreHomes, homes_settled, kept_within, notes_are}
use Rattle.hay_directory.proofs.RowLaws.{Adds, Leaves, journal_left, not_void, opens_journal, row_added, row_left}

-- WHAT CANNOT BE: that a directory is both up and closed

pub not_closed : (drained none : List Bool) → false ≡ true → drained ≡ none
not_closed drained none closed = absurd (true≢false (sym closed))

pub not_up : {D : Type 0} (files : D → Files) (d : State D) → true ≡ false → (known : DirKnown) × StandsFor files d known d.drained
not_up files d up = absurd (true≢false up)

-- WHAT IS KNOWN WHERE NOTHING IS PENDING

not_pending : (mode : Mode) (pending : Option PendingRow) → mode ≡ mode_of pending → mode ≡ Open → pending ≡ None
not_pending mode None is serves = refl
not_pending mode (Some pending) is serves = absurd cc

-- what is up and not frozen is open
pub serving : (mode : Mode) → is_closed mode ≡ false → is_frozen mode ≡ false → mode ≡ Open
serving (Closed unsure) up thawed = absurd (true≢false up)
serving Open up thawed = refl
serving (Frozen unsure) up thawed = absurd (true≢false thawed)

pub record StandsOpen {D : Type 0} (files : D → Files) (d : State D) (known : DirKnown) : Type 0 where
  pub none : known.pending ≡ None
  pub settled : IsSettled d.settings (files d.disk 0) d.journal.end known.rows
  pub homes : AreHomes d.homes known.rows

pub stands_open : {D : Type 0} (files : D → Files) (d : State D) (known : DirKnown) (drained : List Bool) → StandsFor files d known drained → d.mode ≡ Open → StandsOpen files d known
stands_open files d known drained s serves =
    let none : known.pending ≡ None = not_pending d.mode known.pending s.mode serves in
    record {
      none = none;
      settled = subst (λ p. HoldsRows d.settings (files d.disk 0) d.journal.end known.rows p) none s.holds;
      homes = record { are = s.homes };
    }

frozen_mode : (pending : Option PendingRow) → is_frozen (mode_of pending) ≡ is_some pending
frozen_mode None = refl
frozen_mode (Some pending) = refl

-- whether it is frozen
pub stands_frozen : {D : Type 0} (files : D → Files) (d : State D) (known : DirKnown) (drained : List Bool) → StandsFor files d known drained → is_frozen d.mode ≡ known.frozen
stands_frozen files d known drained s = ap is_frozen s.mode ∙ frozen_mode known.pending ∙ sym s.frozen

-- BEHIND A SETTLING

-- A directory may take a row: it is open, there is the volume, and the pair has no home.
pub record Takes {D : Type 0} (d : State D) (row : HomeRow) : Type 0 where
  pub serves : d.mode ≡ Open
  pub below : row.volume < d.settings.volumes
  pub homeless : home_of d row.pair ≡ None

pub takes : {D : Type 0} (d now : State D) (row : HomeRow) → d ≡ now → is_closed now.mode ≡ false → is_frozen now.mode ≡ false → row.volume < now.settings.volumes
    → home_of now row.pair ≡ None → Takes d row
takes d now row same up thawed below homeless =
    subst (λ (x : State _). Takes x row) (sym same) (record { serves = serving now.mode up thawed; below = below; homeless = homeless })

-- the rows with one more
abbrev pub with_row : DirKnown → HomeRow → DirKnown
with_row known row = record known { rows = known.rows ++ row ∷ [] }

-- with a row that failed
abbrev pub with_pending : DirKnown → CoreTag → HomeRow → DirKnown
with_pending known tag row = record known { frozen = true; pending = Some (record { tag = tag; row = row }) }

-- a row that the disk has
pub row_written : {D : Type 0} (files : D → Files) (d d' : State D) (known : DirKnown) (drained : List Bool) (row : HomeRow) → StandsFor files d known drained → Takes d row
    → d'.settings ≡ d.settings → d'.drained ≡ d.drained
    → KeepsHomes d.homes d'.homes
    → Adds (dir_row row) d.journal.end (files d.disk 0).now (files d'.disk 0).now → IsSolid (files d'.disk 0) → IsGate journal_magic d'.journal.end (files d'.disk 0)
    → d'.journal.end ≡ d.journal.end + 24
    → d'.count ≡ d.count → WrittenFor files d' known drained row
row_written files d d' known drained row s t settings drains kept adds solid gate ends counts =
    let o = stands_open files d known drained s t.serves in
    record {
      serves = o.none;
      frozen = s.frozen ∙ ap is_some o.none;
      holds =
          subst (λ k. IsSettled k (files d'.disk 0) d'.journal.end (known.rows ++ row ∷ [])) (sym settings)
          (row_added d.settings (files d.disk 0) (files d'.disk 0) d.journal.end d'.journal.end known.rows row o.settled t.below adds solid gate ends);
      homeless = sym (s.homes row.pair) ∙ t.homeless;
      homes = λ pair. kept.at pair ∙ s.homes pair;
      count = counts ∙ s.count;
      drained_is = s.drained_is ∙ sym drains;
    }

-- and that is shown
pub stands_shown : {D : Type 0} (files : D → Files) (d d' : State D) (known : DirKnown) (drained : List Bool) (row : HomeRow) → WrittenFor files d known drained row
    → d'.mode ≡ Open → d'.settings ≡ d.settings → d'.drained ≡ d.drained
    → SetsHome row.pair (Some row.volume) d.homes d'.homes → d'.disk ≡ d.disk → d'.journal ≡ d.journal
    → d'.count ≡ d.count + 1 → StandsFor files d' (with_row known row) drained
stands_shown files d d' known drained row w serves settings drains set disk journal counts =
    let rows = known.rows ++ row ∷ [] in
    let here = subst (λ x. IsSettled d.settings (files x 0) d.journal.end rows) (sym disk) w.holds in
    let there = subst (λ j. IsSettled d.settings (files d'.disk 0) j.end rows) (sym journal) here in
    let settled = subst (λ k. IsSettled k (files d'.disk 0) d'.journal.end rows) (sym settings) there in
    record {
      mode = serves ∙ ap mode_of (sym w.serves);
      frozen = w.frozen ∙ ap is_some (sym w.serves);
      holds = subst (λ p. HoldsRows d'.settings (files d'.disk 0) d'.journal.end rows p) (sym w.serves) settled;
      homes = (homes_settled known.rows row d.homes d'.homes (record { are = w.homes }) w.homeless set).are;
      count = counts ∙ ap (λ (n : ℕ). n + 1) w.count ∙ sym (length-append known.rows (row ∷ []));
      drained_is = w.drained_is ∙ sym drains;
    }

-- want of memory
pub stands_kept : {D : Type 0} (files : D → Files) (d d' : State D) (known : DirKnown) (drained : List Bool) → StandsFor files d known drained → d'.mode ≡ d.mode
    → d'.settings ≡ d.settings → d'.drained ≡ d.drained
    → KeepsHomes d.homes d'.homes → files d'.disk ≡ files d.disk → d'.journal ≡ d.journal → d'.count ≡ d.count → StandsFor files d' known drained
stands_kept files d d' known drained s modes settings drains kept same ends counts =
    let here = subst (λ f. HoldsRows d.settings (f 0) d.journal.end known.rows known.pending) (sym same) s.holds in
    let there = subst (λ j. HoldsRows d.settings (files d'.disk 0) j.end known.rows known.pending) (sym ends) here in
    record {
      mode = modes ∙ s.mode;
      frozen = s.frozen;
      holds = subst (λ k. HoldsRows k (files d'.disk 0) d'.journal.end known.rows known.pending) (sym settings) there;
      homes = λ pair. kept.at pair ∙ s.homes pair;
      count = counts ∙ s.count;
      drained_is = s.drained_is ∙ sym drains;
    }

-- a row that the disk may have
pub stands_failed : {D : Type 0} (files : D → Files) (d d' : State D) (known : DirKnown) (drained : List Bool) (tag : CoreTag) (row : HomeRow) → StandsFor files d known drained → Takes d row
    → d'.mode ≡ Frozen (record { tag = tag; row = dir_row row }) → d'.settings ≡ d.settings → d'.drained ≡ d.drained
    → KeepsHomes d.homes d'.homes → Leaves (dir_row row) d.journal.end (files d.disk 0) (files d'.disk 0) → d'.count ≡ d.count
    → StandsFor files d' (with_pending known tag row) drained
stands_failed files d d' known drained tag row s t frozen settings drains kept leaves counts =
    let o = stands_open files d known drained s t.serves in
    let free : home_in known.rows row.pair ≡ None = sym (s.homes row.pair) ∙ t.homeless in
    record {
      mode = frozen;
      frozen = refl;
      holds =
          subst (λ k. IsUnsure k (files d'.disk 0) known.rows row) (sym settings) (row_left d.settings (files d.disk 0) (files d'.disk 0) d.journal.end known.rows row o.settled t.below leaves free);
      homes = λ pair. kept.at pair ∙ s.homes pair;
      count = counts ∙ s.count;
      drained_is = s.drained_is ∙ sym drains;
    }

-- the drained machines that are known are those that it has
pub stands_now : {D : Type 0} (files : D → Files) (d : State D) (known : DirKnown) (drained : List Bool) → StandsFor files d known drained → StandsFor files d known d.drained
stands_now files d known drained s = subst (λ l. StandsFor files d known l) s.drained_is s

-- what is kept in memory where a row is pending whose pair has no home
pub kept_failed : {D : Type 0} (d d' : State D) (unsure : Unsure) → IsKept d → home_of d (unsure.row).pair ≡ None → d'.mode ≡ Frozen unsure → KeepsHomes d.homes d'.homes
    → length d'.homes ≡ length d.homes → d'.count ≡ d.count → IsKept d'
kept_failed d d' unsure is homeless frozen homes same counts = record {
  few = omega (arith, is.few, same, counts);
  homeless = subst (λ (m : Mode). IfSome (unsure_of m) (λ u. home_of d' u.row.pair ≡ None)) (sym frozen) (homes.at (unsure.row).pair ∙ homeless);
}

-- a row that is pending is of a pair that has no home
pub kept_homeless : {D : Type 0} (d : State D) (unsure : Unsure) → IsKept d → d.mode ≡ Frozen unsure → home_of d (unsure.row).pair ≡ None
kept_homeless d unsure is frozen = subst (λ (m : Mode). IfSome (unsure_of m) (λ u. home_of d u.row.pair ≡ None)) frozen is.homeless

-- what is kept in memory where a row is shown
pub kept_shown : {D : Type 0} (d d' : State D) → IsKept d → length d'.homes ≡ length d.homes + 1 → d'.count ≡ d.count + 1 → d'.mode ≡ Open → IsKept d'
kept_shown d d' is more counts serves = record {
  few = omega (arith, is.few, more, counts);
  homeless = subst (λ (m : Mode). IfSome (unsure_of m) (λ u. home_of d' u.row.pair ≡ None)) (sym serves) tt;
}

-- what holds of every directory holds of one that has the row pending
pub sound_failed : {D : Type 0} (Tells : Type 0) (files : D → Files) (d d' : State D) (tag : CoreTag) (row : HomeRow) → IsSound Tells files d → Takes d row
    → d'.mode ≡ Frozen (record { tag = tag; row = dir_row row }) → d'.settings ≡ d.settings → d'.drained ≡ d.drained
    → KeepsHomes d.homes d'.homes → length d'.homes ≡ length d.homes → (Tells → Leaves (dir_row row) d.journal.end (files d.disk 0) (files d'.disk 0)) → d'.count ≡ d.count
    → IsSound Tells files d'
sound_failed Tells files d d' tag row is t frozen settings drains homes same leaves counts = record {
  machines = subst (λ (s : Settings). s.machines ≤ MAX_MACHINES) (sym settings) is.machines;
  long = ap length drains ∙ is.long ∙ ap (λ (s : Settings). s.machines) (sym settings);
  within = subst (λ (s : Settings). HomesWithin s.volumes d'.homes) (sym settings) (kept_within d.settings.volumes d.homes d'.homes is.within homes);
  kept = λ up. kept_failed d d' (record { tag = tag; row = dir_row row }) (is.kept (ap is_closed t.serves)) t.homeless frozen homes same counts;
  pending = subst (λ (m : Mode). IfSome (unsure_of m) (λ unsure. unsure.row.volume < d'.settings.volumes)) (sym frozen)
      (subst (λ (s : Settings). row.volume < s.volumes) (sym settings) t.below);
  undrained = λ closed. not_closed d'.drained (replicate d'.settings.machines false) (ap is_closed (sym frozen) ∙ closed);
  stands = λ tells up.
      let old = is.stands tells (ap is_closed t.serves) in (
        with_pending old.0 tag row,
        stands_now files d' (with_pending old.0 tag row) d.drained (stands_failed files d d' old.0 d.drained tag row old.1 t frozen settings drains homes (leaves tells) counts),
      );
}

-- something is known of a directory that is up
pub stood_now : {D : Type 0} (Tells : Type 0) (files : D → Files) (d old : State D) → IsSound Tells files d → d ≡ old → is_closed old.mode ≡ false → Tells
    → (known : DirKnown) × Stands files old known old.drained
unfolding Stands
stood_now {D} Tells files d old sound is up tells =
    subst (λ (x : State D). (known : DirKnown) × StandsFor files x known x.drained) is (sound.stands tells (ap (λ (x : State D). is_closed x.mode) is ∙ up))

-- BEHIND A FUSE OR A DRAIN

-- another disk with the same files, and other drains
pub stands_moved : {D : Type 0} (files : D → Files) (d : State D) (disk : D) (known : DirKnown) (drained more drains : List Bool) → StandsFor files d known drained
    → files disk ≡ files d.disk → drains ≡ more
    → StandsFor files (record d { disk = disk; drained = more }) known drains
stands_moved files d disk known drained more drains s same is = record {
  mode = s.mode;
  frozen = s.frozen;
  holds = subst (λ f. HoldsRows d.settings (f 0) d.journal.end known.rows known.pending) (sym same) s.holds;
  homes = s.homes;
  count = s.count;
  drained_is = is;
}

-- other drains
pub stands_drained : {D : Type 0} (files : D → Files) (d d' : State D) (known : DirKnown) (drained : List Bool) (machine : ℕ) (is_drained : Bool) → StandsFor files d known drained
    → d' ≡ record d { drained = slice_set d.drained machine is_drained }
    → StandsFor files d' known (slice_set drained machine is_drained)
stands_drained files d d' known drained machine is_drained s is =
    let set : List Bool → List Bool = λ l. slice_set l machine is_drained in
    subst (λ (x : State _). StandsFor files x known (set drained)) (sym is) (stands_moved files d d.disk known drained (set d.drained) (set drained) s refl (ap set s.drained_is))

-- BEHIND A STOP

-- A stop leaves one of the images of each file.
pub record Stops {D : Type 0} (files : D → Files) (d d' : State D) : Type 0 where
  pub settings : d'.settings ≡ d.settings
  pub mode : d'.mode ≡ Closed (unsure_of d.mode)
  pub left : MayLeave (files d.disk) (λ n. (files d'.disk n).now)
  pub solid : (n : ℕ) → IsSolid (files d'.disk n)
  pub free : (n : ℕ) → IsFree (files d'.disk n)

unsure_mode : (pending : Option PendingRow) → unsure_of (mode_of pending) ≡ option_map unsure_row pending
unsure_mode None = refl
unsure_mode (Some pending) = refl

due : (settings : Settings) (file : FileState) (end : ℕ) (rows : List HomeRow) (pending : Option PendingRow) → HoldsRows settings file end rows pending → IsDue rows pending
due settings file end rows None holds = tt
due settings file end rows (Some pending) holds = holds.homeless

closed_as : {D : Type 0} (d : State D) (d' : State D) (unsure : Option Unsure) → d'.mode ≡ Closed (unsure_of d.mode) → unsure_of d.mode ≡ unsure → d'.mode ≡ Closed unsure
closed_as d d' unsure mode is = mode ∙ ap (λ (u : Option Unsure). Closed u) is

pub stopped_open : {D : Type 0} (files : D → Files) (d d' : State D) (known : DirKnown) (drained : List Bool) → StandsFor files d known drained → Stops files d d' → StoppedFor files d' known
stopped_open files d d' known drained s stops =
    let found = journal_left d.settings (files d.disk 0) d.journal.end known.rows known.pending (files d'.disk 0).now s.holds (stops.left 0) in
    record {
      mode = closed_as d d' (option_map unsure_row known.pending) stops.mode (ap unsure_of s.mode ∙ unsure_mode known.pending);
      solid = stops.solid;
      free = stops.free;
      kept = found.0;
      journal = subst (λ k. HasJournal k (files d'.disk 0).now (known.rows ++ kept_row known.pending found.0)) (sym stops.settings) found.1;
      due = due d.settings (files d.disk 0) d.journal.end known.rows known.pending s.holds;
    }

pub stopped_again : {D : Type 0} (files : D → Files) (d d' : State D) (known : DirKnown) → StoppedFor files d known → Stops files d d' → StoppedFor files d' known
stopped_again files d d' known s stops =
    let now : (files d'.disk 0).now ≡ (files d.disk 0).now = solid_whole (files d.disk 0) (files d'.disk 0).now (s.solid 0) (stops.left 0) in
    let here = subst (λ l. HasJournal d.settings l (known.rows ++ kept_row known.pending s.kept)) (sym now) s.journal in
    record {
      mode = closed_as d d' (option_map unsure_row known.pending) stops.mode (ap unsure_of s.mode);
      solid = stops.solid;
      free = stops.free;
      kept = s.kept;
      journal = subst (λ k. HasJournal k (files d'.disk 0).now (known.rows ++ kept_row known.pending s.kept)) (sym stops.settings) here;
      due = s.due;
    }

pub holds_behind : {D : Type 0} (files : D → Files) (d d' : State D) (known : DirKnown) → HoldsFor files d known → Stops files d d' → HoldsFor files d' known
holds_behind files d d' known h stops = record {
  images = λ image is.
      let now : image 0 ≡ (files d'.disk 0).now = solid_whole (files d'.disk 0) (image 0) (stops.solid 0) is in
      let found = h.images image (subst (λ l. IsImage (files d.disk 0) l) (sym now) (stops.left 0)) in
      (found.0, subst (λ k. OpensRows k image (known.rows ++ kept_row known.pending found.0)) (sym stops.settings) found.1);
}

-- BEHIND AN OPENING

pub stands_opened : {D : Type 0} (files : D → Files) (settings : Settings) (old : FileState) (d' : State D) (drained : List Bool) (rows : List HomeRow)
    (found : FindsRows settings old (files d'.disk 0) d'.journal.end d'.homes d'.count rows) → d'.settings ≡ settings → d'.mode ≡ Open → d'.drained ≡ drained
    → StandsFor files d' (directory_with rows) drained
stands_opened files settings old d' drained rows found same mode drains = record {
  mode = mode;
  frozen = refl;
  holds = subst (λ k. IsSettled k (files d'.disk 0) d'.journal.end rows) (sym same) found.settled;
  homes = found.homes_are;
  count = found.count_is;
  drained_is = sym drains;
}

-- and behind a stop
pub reopened : {D : Type 0} (files : D → Files) (d d' : State D) (drained : List Bool) (known : DirKnown) (notes : List Note) (rows : List HomeRow)
    (found : FindsRows d.settings (files d.disk 0) (files d'.disk 0) d'.journal.end d'.homes d'.count rows) → StoppedFor files d known
    → d'.settings ≡ d.settings → d'.mode ≡ Open → d'.drained ≡ drained → notes ≡ notes_by (unsure_of d.mode) (home_of d')
    → (kept : Bool) × (notes ≡ row_notes known.pending kept) × (rows ≡ known.rows ++ kept_row known.pending kept)
    × StandsFor files d' (directory_with (known.rows ++ kept_row known.pending kept)) drained
reopened files d d' drained known notes rows found s settings mode drains told =
    let same : rows ≡ known.rows ++ kept_row known.pending s.kept = found.only (known.rows ++ kept_row known.pending s.kept) (inr s.journal) in
    let homes : AreHomes d'.homes (known.rows ++ kept_row known.pending s.kept) = subst (λ l. AreHomes d'.homes l) same (record { are = found.homes_are }) in (
      s.kept,
      told ∙ ap (λ u. notes_by u (home_of d')) (ap unsure_of s.mode) ∙ notes_are known.rows known.pending s.kept d'.homes s.due homes,
      same,
      subst (λ l. StandsFor files d' (directory_with l) drained) same (stands_opened files d.settings (files d.disk 0) d' drained rows found settings mode drains),
    )

-- a refusal keeps what stood
pub stopped_still : {D : Type 0} (files : D → Files) (d d' : State D) (known : DirKnown) → StoppedFor files d known → d'.settings ≡ d.settings → d'.mode ≡ d.mode
    → (0 < length (files d.disk 0).now → files d'.disk ≡ files d.disk) → StoppedFor files d' known
stopped_still files d d' known s settings modes keeps =
    let same = keeps (not_void d.settings (files d.disk 0).now (known.rows ++ kept_row known.pending s.kept) s.journal) in
    let here = subst (λ f. HasJournal d.settings (f 0).now (known.rows ++ kept_row known.pending s.kept)) (sym same) s.journal in
    record {
      mode = modes ∙ s.mode;
      solid = subst (λ f. (n : ℕ) → IsSolid (f n)) (sym same) s.solid;
      free = subst (λ f. (n : ℕ) → IsFree (f n)) (sym same) s.free;
      kept = s.kept;
      journal = subst (λ k. HasJournal k (files d'.disk 0).now (known.rows ++ kept_row known.pending s.kept)) (sym settings) here;
      due = s.due;
    }

-- WHAT A `?` PASSES ON

pub on_err : {T E : Type 0} (r : Result T E) (P : Type 0) → P → OnErr r P
on_err (Ok x) P p = tt
on_err (Err e) P p = p

pub same_fault : {T : Type 0} (r : Result T OpenFault) (passed fault said : OpenFault) → r ≡ Err passed → passed ≡ fault → r ≡ Err said → fault ≡ said
same_fault r passed fault said is from told = cc

-- WHAT FOLLOWS, FOR WHO HOLDS A DIRECTORY

-- In every image of an serves directory's disk an opening finds its rows.
pub stands_holds : {D : Type 0} (files : D → Files) (directory : State D) (known : DirKnown) (drained : List Bool) → Stands files directory known drained → Holds files directory known
unfolding Stands Holds
stands_holds files d known drained s = record {
  images = λ image is.
      let found = journal_left d.settings (files d.disk 0) d.journal.end known.rows known.pending (image 0) s.holds is in
      (found.0, opens_journal d.settings image (known.rows ++ kept_row known.pending found.0) found.1);
}

-- and so of a stopped one's
pub stopped_holds : {D : Type 0} (files : D → Files) (directory : State D) (known : DirKnown) → Stopped files directory known → Holds files directory known
unfolding Stopped Holds
stopped_holds files d known s = record {
  images = λ image is.
      let now : image 0 ≡ (files d.disk 0).now = solid_whole (files d.disk 0) (image 0) (s.solid 0) is in
      (s.kept, opens_journal d.settings image (known.rows ++ kept_row known.pending s.kept) (subst (λ l. HasJournal d.settings l (known.rows ++ kept_row known.pending s.kept)) (sym now) s.journal));
}

pub holds_opens : {D : Type 0} (files : D → Files) (directory : State D) (known : DirKnown) (image : ℕ → List ℕ) → Holds files directory known → IsImage (files directory.disk 0) (image 0)
    → (kept : Bool) × OpensRows directory.settings image (known.rows ++ kept_row known.pending kept)
unfolding Holds
holds_opens files d known image h is = h.images image is

-- a home by what is kept in memory
pub stands_home : {D : Type 0} (files : D → Files) (directory : State D) (known : DirKnown) (drained : List Bool) (pair : Pair) → Stands files directory known drained
    → home_of directory pair ≡ home_in known.rows pair
unfolding Stands
stands_home files d known drained pair s = s.homes pair
