-- What replies tell of the needles of volume files, where the disks tell what they hold.
use Rattle.std.specs.Prelude.{◌≡◌, ◌⊎◌, ◌≤◌, ◌<◌, ℕ, List, None, Some}
use Rattle.hay_needle.specs.declared.needle.Pair.{Pair}
use Rattle.hay_needle.specs.declared.settings.Settings.{Settings}
use Rattle.hay_script.specs.declared.Command.{Command}
use Rattle.hay_script.specs.declared.Command.TheVariants as asks
use Rattle.hay_reply.specs.declared.Cause.{Cause}
use Rattle.hay_reply.specs.declared.Cause.TheVariants.{Arm, Disk, Damage}
use Rattle.hay_reply.specs.declared.Reply.{Reply}
use Rattle.hay_reply.specs.declared.Reply.TheVariants as reply
use Rattle.hay_legal.specs.Known.{replica_on, slot_of}
use Rattle.hay_legal.specs.Stands.{Contents}
use Rattle.hay_volume.specs.Needles.{LacksNeedleOf}
use Rattle.hay_open.specs.Stored.{volume_file}
use Rattle.hay_logical.specs.Needles.{HasLiveNeedles, HeadsLead, HeadsLeadOn, IsToldBy, LacksCell, LacksCellAnew, LacksCellLeft, LacksSeen}
use Rattle.hay_logical.specs.Fits.{At}
use Rattle.hay_logical.specs.Notes.{ToldUnsure}
use Rattle.hay_logical.specs.Seen.{ReplicaSeen, SeesAt, VolumeSeen, begun}
use Rattle.hay_logical.specs.Sights.{ErasesSights, FindsPhoto, Sight, Sights}
use Rattle.hay_logical.specs.Sights.Sight.{Gone, Live, Never, Unseen}
use Rattle.hay_cluster.specs.declared.maintenance.Maintenance.{Maintenance}
use Rattle.hay_cluster.specs.declared.maintenance.Maintenance.TheVariants as work
use Rattle.hay_cluster.specs.Maintenance.{done_as}
use Rattle.hay_cluster.specs.Seen.{IsFrozenBy, StoreSeen, VolumeAt, home_seen}
use Rattle.hay_cluster.specs.Sights.{KeepsPhotos, Told, told_by}
use Rattle.hay_cluster.specs.Sights.Told.{Absent, Damaged, Deleted, Failed, Missing, Nothing, Shown, Stored, Swapped, Unreadable, Wanting}

-- of replica j of volume v, and of what reads of its current volume file give, it is so
abbrev pub FileAt : Settings → (ℕ → Contents) → StoreSeen → ℕ → ℕ → (ReplicaSeen → List ℕ → Type 0) → Type 0
FileAt settings contents seen v j Is = VolumeAt v (SeesAt j (λ r. Is r (contents (slot_of settings v j) (volume_file r.generation)))) seen

-- A look at the volume's replica on this machine met damage: no needle of the size that is recorded begins at the place of the pair.
abbrev pub IsDamagedLookOn : Settings → (ℕ → Contents) → StoreSeen → ℕ → Pair → ℕ → ℕ → Type 0
IsDamagedLookOn settings contents seen v pair m place =
    (j : ℕ) × (replica_on settings v m ≡ Some j) × FileAt settings contents seen v j (λ r file. LacksSeen file place (seen.places v pair j))

-- A compaction that was to do such work did: the heads of cells lead to this place, each with its whole needle where it was copied, and
-- no needle that ends before the cells do begins there.
abbrev pub LacksWork : Sights → ℕ → Maintenance → ℕ → ReplicaSeen → List ℕ → Type 0
LacksWork sights j (work.Step cells) place r file = LacksCell sights j cells place r file
LacksWork sights j work.Finish place r file = LacksCellLeft sights j place r file
LacksWork sights j work.Compact place r file = LacksCellAnew sights j place r file
LacksWork sights j work.Flush place r file = ⊥
LacksWork sights j work.Begin place r file = ⊥

-- so it is where a compaction on this machine is answered that it met damage
abbrev pub RunsIntoDamage : Settings → (ℕ → Contents) → StoreSeen → Maintenance → ℕ → ℕ → Reply → Type 0
RunsIntoDamage settings contents seen asked v m said =
    (by place : ℕ) → said ≡ reply.Damaged v by place → (j : ℕ) → replica_on settings v m ≡ Some j → FileAt settings contents seen v j (LacksWork (seen.places v) j asked place)

-- What reads of the disks give, and what is seen, is that of before the command. Of damage that a read tells Passing does.
abbrev pub TellsDamage : Settings → (ℕ → Contents) → StoreSeen → Command → Reply → Type 0
TellsDamage settings contents seen (asks.Del pair) said = (v m place : ℕ) → said ≡ reply.Damaged v m place → IsDamagedLookOn settings contents seen v pair m place
TellsDamage settings contents seen (asks.Step v m cells) said = RunsIntoDamage settings contents seen (work.Step cells) v m said
TellsDamage settings contents seen (asks.Finish v m) said = RunsIntoDamage settings contents seen work.Finish v m said
TellsDamage settings contents seen (asks.Compact v m) said = RunsIntoDamage settings contents seen work.Compact v m said
TellsDamage settings contents seen (asks.Put pair photo) said = Unit {0}
TellsDamage settings contents seen (asks.Read pair cookie) said = Unit {0}
TellsDamage settings contents seen (asks.Get url) said = Unit {0}
TellsDamage settings contents seen (asks.Url pair) said = Unit {0}
TellsDamage settings contents seen (asks.Flush v m) said = Unit {0}
TellsDamage settings contents seen (asks.Begin v m) said = Unit {0}
TellsDamage settings contents seen (asks.Drain m) said = Unit {0}
TellsDamage settings contents seen (asks.Undrain m) said = Unit {0}
TellsDamage settings contents seen (asks.Fuse v m calls) said = Unit {0}
TellsDamage settings contents seen (asks.FuseDir calls) said = Unit {0}
TellsDamage settings contents seen (asks.Restart pick) said = Unit {0}

-- A read passes replica j over for damage only where no needle of the size that is recorded begins at the place of the pair. At a photo
-- that was looked at there is one.
abbrev pub LacksPlace : Settings → (ℕ → Contents) → StoreSeen → ℕ → ℕ → Sight → Type 0
LacksPlace settings contents seen v j Never = ⊥
LacksPlace settings contents seen v j (Live at) = ⊥
LacksPlace settings contents seen v j Gone = ⊥
LacksPlace settings contents seen v j (Unseen at size) = FileAt settings contents seen v j (λ r file. LacksNeedleOf size at file)

abbrev pub LacksFor : Settings → (ℕ → Contents) → StoreSeen → ℕ → Pair → ℕ → Cause → Type 0
LacksFor settings contents seen v pair j (Arm count) = Unit {0}
LacksFor settings contents seen v pair j (Disk count) = Unit {0}
LacksFor settings contents seen v pair j (Damage place) = LacksPlace settings contents seen v j (seen.places v pair j)

-- WHAT LOOKS AND STEPS MADE

-- Behind looks at the places of a pair each is so, on each replica, by the needle that stands there.
abbrev pub AreToldAs : Settings → (ℕ → Contents) → StoreSeen → ℕ → Pair → Sights → Type 0
AreToldAs settings contents seen v pair behind = (j : ℕ) → j < settings.replicas → FileAt settings contents seen v j (λ r file. IsToldBy file (seen.places v pair j) (behind pair j))

-- the photo of a pair was found by such looks, and is gone
pub record DeletesAsTold (settings : Settings) (contents : ℕ → Contents) (seen : StoreSeen) (v : ℕ) (pair : Pair) (behind : Sights) : Type 0 where
  pub found : Sights
  pub finds : FindsPhoto pair settings.replicas (seen.places v) found
  pub erases : ErasesSights pair found behind
  pub told : AreToldAs settings contents seen v pair found

-- So it is of a read of a pair and of a delete, by what the reply tells. Where memory was wanting nothing was looked at, or the pair's home.
abbrev pub LooksTold : Settings → (ℕ → Contents) → StoreSeen → StoreSeen → Pair → Told → Type 0
LooksTold settings contents old new pair (Shown v m) = AreToldAs settings contents old v pair (new.places v)
LooksTold settings contents old new pair (Missing v m) = AreToldAs settings contents old v pair (new.places v)
LooksTold settings contents old new pair (Unreadable v causes) = AreToldAs settings contents old v pair (new.places v)
LooksTold settings contents old new pair (Deleted v) = DeletesAsTold settings contents old v pair (new.places v)
LooksTold settings contents old new pair (Absent v) = AreToldAs settings contents old v pair (new.places v)
LooksTold settings contents old new pair (Failed v m) = AreToldAs settings contents old v pair (new.places v)
LooksTold settings contents old new pair (Damaged v m at) = AreToldAs settings contents old v pair (new.places v)
LooksTold settings contents old new pair Wanting = KeepsPhotos old new ⊎ ((v : ℕ) → home_seen old pair ≡ Some v → AreToldAs settings contents old v pair (new.places v))
LooksTold settings contents old new pair (Stored v) = Unit {0}
LooksTold settings contents old new pair (Swapped v m) = Unit {0}
LooksTold settings contents old new pair Nothing = Unit {0}

-- What work that was done found in the file: the heads of the cells that a step examined stand one behind another, from its next one on to
-- the one that is next then, and those of a swap as far as the cells go, each with its whole needle where it was copied.
abbrev pub LeadsWork : Sights → ℕ → Maintenance → ℕ → ReplicaSeen → ReplicaSeen → List ℕ → Type 0
LeadsWork sights j (work.Step cells) number r r' file = HeadsLead sights j number r.next r'.next file
LeadsWork sights j work.Finish number r r' file = HeadsLeadOn sights j r file
LeadsWork sights j work.Compact number r r' file = HeadsLeadOn sights j (begun r) file
LeadsWork sights j work.Flush number r r' file = Unit {0}
LeadsWork sights j work.Begin number r r' file = Unit {0}

-- What work that wanted memory did: a step, which may have examined some of its cells, and whose compaction stands. Any other work that
-- did examined nothing, or its compaction has ended.
abbrev pub LeadsPart : Sights → ℕ → Maintenance → ReplicaSeen → ReplicaSeen → List ℕ → Type 0
LeadsPart sights j (work.Step cells) r r' file = (number : ℕ) × (number ≤ cells) × HeadsLead sights j number r.next r'.next file
LeadsPart sights j work.Finish r r' file = Unit {0}
LeadsPart sights j work.Compact r r' file = Unit {0}
LeadsPart sights j work.Flush r r' file = Unit {0}
LeadsPart sights j work.Begin r r' file = Unit {0}

-- What a swap that froze the volume found, since it failed where the new files may be the current ones: as one that was done did. No other
-- work freezes a volume.
abbrev pub LeadsSwap : Sights → ℕ → Maintenance → ReplicaSeen → List ℕ → Type 0
LeadsSwap sights j work.Finish r file = HeadsLeadOn sights j r file
LeadsSwap sights j work.Compact r file = HeadsLeadOn sights j (begun r) file
LeadsSwap sights j (work.Step cells) r file = ⊥
LeadsSwap sights j work.Flush r file = ⊥
LeadsSwap sights j work.Begin r file = ⊥

-- a volume that was not frozen is
abbrev pub FreezesAt : ℕ → StoreSeen → StoreSeen → Type 0
FreezesAt v old new = VolumeAt v (λ volume. volume.frozen ≡ None) old × (m : ℕ) × IsFrozenBy new v m

-- So it is of the replica on this machine, by what the work is answered, and by whether it froze the volume.
pub record WorkTold (settings : Settings) (contents : ℕ → Contents) (old new : StoreSeen) (asked : Maintenance) (v m : ℕ) (said : Reply) : Type 0 where
  pub done : (number : ℕ) → said ≡ done_as v m asked number → (j : ℕ) → replica_on settings v m ≡ Some j
      → FileAt settings contents old v j (λ r file. VolumeAt v (SeesAt j (λ r'. LeadsWork (old.places v) j asked number r r' file)) new)
  pub part : said ≡ reply.NoMem → (j : ℕ) → replica_on settings v m ≡ Some j
      → FileAt settings contents old v j (λ r file. VolumeAt v (SeesAt j (λ r'. LeadsPart (old.places v) j asked r r' file)) new)
  pub froze : FreezesAt v old new → (j : ℕ) → replica_on settings v m ≡ Some j → FileAt settings contents old v j (LeadsSwap (old.places v) j asked)

-- What reads of the disks give is that of before the command: so no damage is met without being told.
abbrev pub MeetsNeedles : Settings → (ℕ → Contents) → StoreSeen → StoreSeen → Command → Reply → Type 0
MeetsNeedles settings contents old new (asks.Read pair cookie) said = LooksTold settings contents old new pair (told_by said)
MeetsNeedles settings contents old new (asks.Get url) said = LooksTold settings contents old new url.pair (told_by said)
MeetsNeedles settings contents old new (asks.Del pair) said = LooksTold settings contents old new pair (told_by said)
MeetsNeedles settings contents old new (asks.Step v m cells) said = WorkTold settings contents old new (work.Step cells) v m said
MeetsNeedles settings contents old new (asks.Put pair photo) said = Unit {0}
MeetsNeedles settings contents old new (asks.Url pair) said = Unit {0}
MeetsNeedles settings contents old new (asks.Flush v m) said = Unit {0}
MeetsNeedles settings contents old new (asks.Compact v m) said = WorkTold settings contents old new work.Compact v m said
MeetsNeedles settings contents old new (asks.Begin v m) said = Unit {0}
MeetsNeedles settings contents old new (asks.Finish v m) said = WorkTold settings contents old new work.Finish v m said
MeetsNeedles settings contents old new (asks.Drain m) said = Unit {0}
MeetsNeedles settings contents old new (asks.Undrain m) said = Unit {0}
MeetsNeedles settings contents old new (asks.Fuse v m calls) said = Unit {0}
MeetsNeedles settings contents old new (asks.FuseDir calls) said = Unit {0}
MeetsNeedles settings contents old new (asks.Restart pick) said = Unit {0}

-- OPENINGS

-- Each place that is seen as a photo's has its needle, which is not deleted, on each replica.
abbrev pub PhotosStand : Settings → (ℕ → Contents) → StoreSeen → Type 0
PhotosStand settings contents seen = (v j : ℕ) → v < settings.volumes → j < settings.replicas
    → FileAt settings contents seen v j (λ r file. HasLiveNeedles (seen.places v) j file)

-- Behind a restart a place of a deletion that was pending, and that the opening left not looked at, has no needle of its size, and one that
-- is a photo's has its needle, which is not deleted.
abbrev pub PendingTold : Settings → (ℕ → Contents) → StoreSeen → StoreSeen → Type 0
PendingTold settings contents before after = (v j : ℕ) (old : VolumeSeen) → At before.volumes v old → j < settings.replicas
    → FileAt settings contents after v j (λ r file. ToldUnsure old.unsure (after.places v) j file)
