-- What stands behind the lock.
use Rattle.std.specs.Prelude.{◌≡◌, ℕ, ◌<◌, ◌≤◌, ◌==◌, Bool, false, List, [], ◌∷◌, ◌++◌, true, slice_index_or, map, Option, Some, None, if◌then◌else◌, fold}
use mathlib.Core.List.{IsPrefix}
use Rattle.std.specs.List.{AllByRecursion as Each}
use Rattle.hay_core.specs.declared.entry.CoreTag.{CoreTag}
use Rattle.hay_core.specs.declared.entry.Entry.{Entry}
use Rattle.hay_disk.specs.Disk.{Files}
use Rattle.hay_front.specs.declared.front.Tag.{Tag}
use Rattle.hay_legal.specs.declared.known.Run.{Run}
use Rattle.hay_legal.specs.declared.known.VolumeKnown.{VolumeKnown}
use Rattle.hay_history.specs.LaneSteps.{Did, Follows, HasRun, Standing}
use Rattle.hay_history.specs.LaneSteps.Did.{Begins, Ends, Entered, Examines, Flushes, Freezes, Fuses, Pends, Poises, Sticks, Swaps, Tries}
use Rattle.hay_history.specs.Histories.{begun_in}
use Rattle.hay_logical.specs.Stands.{IsTightAt, Stands}
use Rattle.hay_logical.specs.Volumes.{IsOfSettings, IsOpenVolume, Volume}
use Rattle.hay_map.specs.MapRows.{MapRows}
use Rattle.hay_map.specs.Rows.{row_at}
use Rattle.hay_map.specs.declared.place.Place.{Place}
use Rattle.hay_meeting.specs.declared.act.VolumeAct.{VolumeAct}
use Rattle.hay_meeting.specs.declared.act.VolumeDid.{VolumeDid}
use Rattle.hay_meeting.specs.declared.act.VolumeDid.TheVariants as did
use Rattle.hay_meeting.specs.Acts.{IsSized, begun_of, did_of, entry_of, nobody, volume_lock}
use Rattle.hay_meeting.specs.Locks.{Doing, entries, left, past, replayed}
use Rattle.hay_needle.specs.declared.needle.Pair.{Pair}
use Rattle.hay_physical.specs.OpenCopies.{Copy}
use Rattle.hay_turn.specs.Slots.{acts_in}
use Rattle.hay_views.specs.declared.places.Published.{Published}
use Rattle.hay_views.specs.MapPasts.{begun_at, entered_by, row_of, with_published}
use Rattle.hay_volume_lock.specs.Acts.{SetNoFuse, counts}
use Rattle.hay_volume_lock.specs.Ended.{ended_at}
use Rattle.hay_volume_lock.specs.Since.{SinceBegun}
use Rattle.hay_volume_lock.specs.declared.guarded.Guarded.{Guarded}
use Rattle.hay_volume_lock.specs.declared.guarded.Opened.{Opened}

-- the count of the disk of replica j
abbrev pub count_at : {D : Type 0} → (D → ℕ) → List (Copy D) → ℕ → ℕ
count_at count replicas j = slice_index_or (counts count replicas) j 0

-- an open volume of a store; its rows were published first
pub record IsOpened {D P : Type 0} (opened : Opened D P) : Type 0 where
  pub of : IsOfSettings (opened.volume).settings (opened.volume).number
  pub is_open : IsOpenVolume opened.volume
  pub rows : MapRows P
  pub base : (opened.view).base ≡ Some (begun_at opened.volume rows, opened.volume)
  pub width : rows.replicas ≡ ((opened.volume).settings).replicas

-- the row of a pair behind what was published
abbrev pub published_row : {D P : Type 0} → Volume D P → MapRows P → List (Published P) → Pair → List (Place P)
published_row volume rows deeds pair = row_of (fold with_published (begun_at volume rows) deeds) pair

-- ENTRIES

-- the tag of an act, for the log of a front
abbrev pub tag_of : VolumeAct → Tag
tag_of act = record { seat = act.seat; lane = (act.tag).lane; line = (act.tag).line }

abbrev pub add_tag : Option Entry → Tag → List Tag → List Tag
add_tag None tag rest = rest
add_tag (Some change) tag rest = tag ∷ rest

-- those of the acts that entered a change
abbrev pub tags_of : List VolumeAct → List Tag
tags_of [] = []
tags_of (act ∷ acts) = add_tag (entry_of act.did) (tag_of act) (tags_of acts)

-- COMPACTIONS THAT DELETES ENDED

-- a delete ended the replica's compaction, since its disk failed
abbrev pub ends_at : ℕ → VolumeDid → Bool
ends_at j (did.Entered change ended) = slice_index_or ended j false
ends_at j did.Tries = false
ends_at j (did.Pends m change failed) = false
ends_at j (did.Freezes m) = false
ends_at j (did.Flushes i) = false
ends_at j (did.Sticks i) = false
ends_at j (did.Begins i) = false
ends_at j (did.Examines i n) = false
ends_at j (did.Ends i) = false
ends_at j (did.Swaps i end cells frozen) = false
ends_at j (did.Poises m i) = false
ends_at j (did.Fuses i) = false

-- it ended the replica's compaction, or made its files the current ones, as lines of the lane alone do that began it
abbrev pub EndsOwn : Did → ℕ → Type 0
EndsOwn (Ends i) j = i ≡ j
EndsOwn (Swaps i end cells freezes) j = i ≡ j
EndsOwn Tries j = ⊥
EndsOwn (Entered change) j = ⊥
EndsOwn (Pends m change failed) j = ⊥
EndsOwn (Freezes m) j = ⊥
EndsOwn (Flushes i) j = ⊥
EndsOwn (Sticks i) j = ⊥
EndsOwn (Begins i) j = ⊥
EndsOwn (Examines i n) j = ⊥
EndsOwn (Poises m i) j = ⊥
EndsOwn (Fuses i) j = ⊥

-- the count of the replica's disk behind the last delete that ended a compaction which a line of the lane had begun: before an act
-- and behind it, and behind acts
abbrev pub ended_in : ℕ → ℕ → CoreTag → VolumeAct → Option ℕ → Option ℕ
ended_in j lane begun act before = if ends_at j act.did then (if begun.lane == lane then Some (slice_index_or act.faults j 0) else before) else before

abbrev pub ended_of : ℕ → ℕ → CoreTag → Option ℕ → List VolumeAct → Option ℕ
ended_of j lane begun before [] = before
ended_of j lane begun before (act ∷ acts) = ended_of j lane (begun_in j act.tag (did_of act.did) begun) (ended_in j lane begun act before) acts

-- what stands of the volume where it was opened, if that is known of it, and behind acts
abbrev pub standing_of : {D P : Type 0} → (D → ℕ) → (D → ℕ) → Opened D P → VolumeKnown → Standing
standing_of faults fuses opened k = record { volume = k; faults = count_at faults (opened.volume).replicas; fuses = count_at fuses (opened.volume).replicas }

abbrev pub stood_of : {D P : Type 0} → (D → ℕ) → (D → ℕ) → Opened D P → VolumeKnown → List VolumeAct → Standing
stood_of faults fuses opened k acts = left volume_lock (standing_of faults fuses opened k) acts

module _ {D P : Type 0} (Tells : Type 0) (files : D → Files) (PieceTells : Type 0) (faults fuses : D → ℕ) where
  -- The volume that was opened stands where these acts left it, whatever it stood for, and its rows were published with what they
  -- entered.
  pub record IsKept (opened : Opened D P) (acts : List VolumeAct) (kept : Guarded D P) : Type 0 where
    pub from : IsOpened opened
    pub settings : kept.settings ≡ (opened.volume).settings
    pub same_settings : (kept.logical).settings ≡ (opened.volume).settings
    pub number : (kept.logical).number ≡ (opened.volume).number
    pub is_open : IsOpenVolume kept.logical
    pub stands : Tells → (k : VolumeKnown) → Stands files PieceTells opened.volume k
        → Stands files PieceTells kept.logical (stood_of faults fuses opened k acts).volume
    pub follows : Tells → (k : VolumeKnown) → Stands files PieceTells opened.volume k
        → Follows (opened.volume).settings (opened.volume).number (standing_of faults fuses opened k) (replayed volume_lock (standing_of faults fuses opened k) acts)
    pub sized : Each (IsSized ((opened.volume).settings).replicas) acts
    -- the counts of each disk, whatever it tells
    pub fault_counts : (k : VolumeKnown) (j : ℕ) → (stood_of faults fuses opened k acts).faults j ≡ count_at faults (kept.logical).replicas j
    pub fuse_counts : (k : VolumeKnown) (j : ℕ) → (stood_of faults fuses opened k acts).fuses j ≡ count_at fuses (kept.logical).replicas j
    pub rises : (j : ℕ) → count_at faults (opened.volume).replicas j ≤ count_at faults (kept.logical).replicas j
    pub fuses_stay : SetNoFuse acts → (j : ℕ) → count_at fuses (kept.logical).replicas j ≡ count_at fuses (opened.volume).replicas j
    pub front : ((kept.front).shown).front ≡ (opened.view).front
    pub base : ((kept.front).shown).base ≡ (opened.view).base
    pub entered : entered_by ((kept.front).shown).deeds ≡ entries volume_lock acts
    -- unless it is frozen, its front publishes changes, and its rows are those that are published
    pub serves : (kept.logical).frozen ≡ None → (kept.front).closed ≡ false
    pub rows : (kept.logical).frozen ≡ None → (pair : Pair) → published_row opened.volume from.rows ((kept.front).shown).deeds pair ≡ row_at (kept.logical).rows pair
    pub tags : map (λ e. e.tag) (kept.front).log ≡ tags_of acts
    -- a seat's acts are for lines of its own lane
    pub lanes : Each (λ act. act.seat ≡ (act.tag).lane) acts
    -- who began the compaction of each replica last
    pub begun : (j : ℕ) → j < ((opened.volume).settings).replicas → slice_index_or kept.begun j nobody ≡ begun_of j nobody acts
    -- the count behind the last delete that ended one which a line of the lane had begun
    pub ended : (j lane : ℕ) → j < ((opened.volume).settings).replicas → lane < 8 → ended_at kept.ended j lane ≡ ended_of j lane nobody None acts
    -- lines of the lane that began a compaction end it, and deletes end such as stood
    pub owned : (doing : Doing VolumeAct) → IsPrefix (past doing) acts → (j : ℕ) → j < ((opened.volume).settings).replicas
        → EndsOwn (did_of (doing.act).did) j → (doing.act).seat ≡ (begun_of j nobody doing.held).lane
    pub cuts : Tells → (k : VolumeKnown) → Stands files PieceTells opened.volume k → (doing : Doing VolumeAct) → IsPrefix (past doing) acts → (j : ℕ)
        → ends_at j (doing.act).did ≡ true → (run : Run) × HasRun (stood_of faults fuses opened k doing.held) j run
    -- a compaction since whose beginning no entry came has copied just what stands
    pub tight : Tells → (kept.logical).frozen ≡ None → (k : VolumeKnown) → Stands files PieceTells opened.volume k → (j : ℕ)
        → SinceBegun (standing_of faults fuses opened k) j acts (IsTightAt files kept.logical j)

  -- a holding for the line made this act, or none; a view shows nothing of it
  pub record GoesOn (tag : CoreTag) (old new : Guarded D P) (made : Option VolumeAct) : Type 0 where
    pub kept : (opened : Opened D P) (held : List VolumeAct) → IsKept opened held old → IsKept opened (held ++ acts_in made) new
    pub tags : Each (λ act. act.tag ≡ tag) (acts_in made)
    pub seats : Each (λ act. act.seat ≡ tag.lane) (acts_in made)
    pub quiet : entries volume_lock (acts_in made) ≡ []
    pub shown : new.front ≡ old.front
