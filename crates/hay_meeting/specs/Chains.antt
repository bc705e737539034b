-- The lines of a lane, one behind the other, and what is known of all lanes before lines and behind them.
use Rattle.std.specs.Prelude.{◌≡◌, ◌≢◌, ℕ, ◌-◌, ◌^◌, ◌<◌, ◌≤◌, ◌==◌, Bool, List, [], ◌∷◌, length, map, filter, slice_get, Some}
use Rattle.std.specs.List.{AllByRecursion as Each}
use mathlib.Core.List.{IsPrefix}
use Rattle.hay_needle.specs.declared.settings.Settings.{Settings}
use Rattle.hay_legal.specs.declared.known.Known.{Known}
use Rattle.hay_legal.specs.declared.turn.LaneItem.{LaneItem}
use Rattle.hay_legal.specs.declared.known.Run.{Run}
use Rattle.hay_legal.specs.Known.{EachPair, arm_count, disk_count, replica_at, volume_at}
use Rattle.hay_legal.specs.Subject.{IsOf}
use Rattle.hay_history.specs.Commands.{IsRegular}
use Rattle.hay_turn.specs.Acts.{acts_of, AllBelow}
use Rattle.hay_meeting.specs.Acts.{AreSound, Happened, Start, begun_of, nobody, row_lock, volume_lock}
use Rattle.hay_meeting.specs.Locks.{Lock, LockSight, entries}
use Rattle.hay_meeting.specs.Sights.{Doings, IsLegalLine, Sight, StandsAt, Work}
use Rattle.hay_script.specs.declared.words.TheConstants.{MAX_LANES}

-- a line, and what its lane had seen before it was answered and behind that
pub record Note : Type 0 where
  pub item : LaneItem
  pub before : Sight
  pub after : Sight

-- what a lane saw and did in the answer to one line
pub record GoesOn (settings : Settings) (start : Start) (drained : List Bool) (note : Note) : Type 0 where
  pub doings : Doings
  pub work : Work note.item note.before note.after doings
  pub legal : IsLegalLine settings start drained note.before note.after note.item

-- Each line begins where the one before it ended.
abbrev pub IsChain : Settings → Start → List Bool → ℕ → Sight → List Note → Sight → Type 0
IsChain settings start drained lane a [] b = b ≡ a
IsChain settings start drained lane a (note ∷ notes) b =
    (note.before ≡ a) × ((note.item).lane ≡ lane) × GoesOn settings start drained note × IsChain settings start drained lane note.after notes b

abbrev pub items_of : List Note → List LaneItem
items_of notes = map (λ note. note.item) notes

-- ALL LANES, of which none does anything

module _ {S E X T : Type 0} (lock : Lock S E X T) (at : Sight → LockSight E X) (lanes : ℕ) (sights : List Sight) where
  -- h is all that happened on a lock, each lane's own acts are its own in h, and h shows what each lane has been shown
  pub record WholeAt (h : List E) : Type 0 where
    pub below : AllBelow lock.seat lanes h
    pub seen : (lane : ℕ) (s : Sight) → slice_get sights lane ≡ Some s → IsPrefix (at s).seen h
    pub own : (lane : ℕ) (s : Sight) → slice_get sights lane ≡ Some s → acts_of lock.seat lane h ≡ (at s).own
    pub shown : (lane : ℕ) (s : Sight) → slice_get sights lane ≡ Some s → IsPrefix (at s).shown (entries lock h)

  -- these acts have happened on a lock, each lane has seen them and been shown what they show, and its own ones are its own
  pub record BeginsAtLock (h : List E) : Type 0 where
    pub seen : (lane : ℕ) (s : Sight) → slice_get sights lane ≡ Some s → IsPrefix h (at s).seen
    pub own : (lane : ℕ) (s : Sight) → slice_get sights lane ≡ Some s → acts_of lock.seat lane h ≡ (at s).own
    pub shown : (lane : ℕ) (s : Sight) → slice_get sights lane ≡ Some s → IsPrefix (entries lock h) (at s).shown

-- what a round of all lanes tells of the old sights, and of the new ones
pub record IsWhole (settings : Settings) (start : Start) (lanes : ℕ) (sights : List Sight) (h : Happened) : Type 0 where
  pub many : length sights ≡ lanes
  pub sound : AreSound settings start h
  pub volumes : (v : ℕ) → WholeAt volume_lock (λ s. s.volumes v) lanes sights (h.volumes v)
  pub directory : WholeAt row_lock (λ s. s.directory) lanes sights h.directory

pub record BeginsAt (lanes : ℕ) (sights : List Sight) (h : Happened) : Type 0 where
  pub many : length sights ≡ lanes
  pub volumes : (v : ℕ) → BeginsAtLock volume_lock (λ s. s.volumes v) lanes sights (h.volumes v)
  pub directory : BeginsAtLock row_lock (λ s. s.directory) lanes sights h.directory

-- the counts of the lanes' arms are those of the store
abbrev pub ArmsAre : List Sight → Known → Type 0
ArmsAre sights k = (lane : ℕ) (s : Sight) → slice_get sights lane ≡ Some s → s.arm ≡ arm_count k lane

-- The lines of all lanes, each lane's in its order, where these machines are drained.
pub record AreLanes (settings : Settings) (start : Start) (drained : List Bool) (lanes : ℕ) (before after : List Sight) (items : List LaneItem) : Type 0 where
  pub notes : ℕ → List Note
  pub low : Each (λ item. item.lane < lanes) items
  pub each : (lane : ℕ) → filter (λ item. item.lane == lane) items ≡ items_of (notes lane)
  pub chain : (lane : ℕ) (a b : Sight) → slice_get before lane ≡ Some a → slice_get after lane ≡ Some b
      → IsChain settings start drained lane a (notes lane) b

-- The store stands at t behind all acts. It has as many volumes, disks and arms as at k, and the arms of other lanes stand where they stood.
pub record EndsAs (settings : Settings) (start : Start) (lanes : ℕ) (h : Happened) (k t : Known) : Type 0 where
  pub stands : StandsAt settings start t h
  pub count : length t.volumes ≡ length k.volumes
  pub fuse_slots : length t.fuses ≡ length k.fuses
  pub fault_slots : length t.faults ≡ length k.faults
  pub arm_slots : length t.arms ≡ length k.arms
  pub other_arms : (lane : ℕ) → lanes ≤ lane → arm_count t lane ≡ arm_count k lane
  pub faults_end : Each (λ f. f ≤ 2 ^ 64 - 1) t.faults
  pub arms_end : Each (λ f. f ≤ 2 ^ 64 - 1) t.arms

-- each compaction that stands at k was begun by a line of lane 0
abbrev pub RunsArePlain : Settings → Known → Happened → Type 0
RunsArePlain settings k h =
    (v j : ℕ) (run : Run) → v < settings.volumes → j < settings.replicas → (replica_at (volume_at k v) j).run ≡ Some run
    → (begun_of j nobody (h.volumes v)).lane ≡ 0

-- The store stands at k behind these acts, and it is such as the next lines need it.
pub record StoreAt (settings : Settings) (start : Start) (k : Known) (h : Happened) : Type 0 where
  pub stands : StandsAt settings start k h
  pub store : IsOf settings k
  pub regular : IsRegular settings k
  pub disks : length k.faults ≡ disk_count settings
  pub runs : RunsArePlain settings k h

-- What all lanes are known to be before lines and behind them: h0 had happened, and the store stood at k; h has, and it stands at t.
pub record Lines (settings : Settings) (start : Start) (lanes : ℕ) (before after : List Sight) (items : List LaneItem) (h0 h : Happened) (k t : Known) : Type 0 where
  pub some : 0 < lanes
  pub few : lanes ≤ MAX_LANES
  pub from : StoreAt settings start k h0
  pub begins : BeginsAt lanes before h0
  pub arms_before : ArmsAre before k
  pub lines : AreLanes settings start k.drained lanes before after items
  pub distinct : EachPair (λ a b. a.line ≢ b.line) items
  pub ends : IsWhole settings start lanes after h
  pub arms_behind : ArmsAre after t
  pub last : EndsAs settings start lanes h k t
