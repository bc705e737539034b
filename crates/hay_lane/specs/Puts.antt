-- What the parts of a put tell, and how it is answered.
use Rattle.std.specs.Prelude.{◌≡◌, ◌⊎◌, ℕ, true, Bool, List, [], ◌∷◌, map, Option, Some, None}
use Rattle.std.specs.List.{list_any}
use Rattle.hay_needle.specs.declared.needle.Pair.{Pair}
use Rattle.hay_needle.specs.declared.needle.Cookie.{Cookie}
use Rattle.hay_needle.specs.declared.settings.Settings.{Settings}
use Rattle.hay_reply.specs.declared.Refused.{Refused}
use Rattle.hay_reply.specs.declared.Refused.TheVariants.{Closed, NoRoom}
use Rattle.hay_reply.specs.declared.ClosedBy.{ClosedBy}
use Rattle.hay_reply.specs.declared.Reply.{Reply}
use Rattle.hay_reply.specs.declared.Reply.TheVariants as reply
use Rattle.hay_core.specs.declared.entry.CoreTag.{CoreTag}
use Rattle.hay_legal.specs.Known.{all_tries}
use Rattle.hay_legal.specs.Plain.{as_closed, wants_room}
use Rattle.hay_meeting.specs.Acts.{Start}
use Rattle.hay_meeting.specs.Facts.{drained_in}
use Rattle.hay_meeting.specs.Sights.{Sight}
use Rattle.hay_holdings.specs.Lines.{HasTaker, Refuses, Tried}
use Rattle.hay_holdings.specs.Sights.{AtVolume, Idle}
use Rattle.hay_holdings.specs.Volumes.{RoomFits}
use Rattle.hay_directory.specs.declared.fault.DirFault.{DirFault}
use Rattle.hay_directory.specs.declared.fault.DirFault.TheVariants as settling
use Rattle.hay_shared_volume.specs.declared.answers.Put.{Put}
use Rattle.hay_shared_volume.specs.declared.answers.Put.TheVariants as put
use Rattle.hay_shared_volume.specs.declared.answers.Room.{Room}
use Rattle.hay_shared_volume.specs.declared.answers.Room.TheVariants as room
use Rattle.hay_lane.specs.declared.put.Tries.{Tries}
use Rattle.hay_lane.specs.declared.put.Tries.TheVariants as tries
use Rattle.hay_lane.specs.Replies.{IsReadOnly}

module _ (settings : Settings) (start : Start) (drained : List Bool) (tag : CoreTag) where
  -- a call found that a volume takes a photo of this size, or why it does not
  abbrev pub TryTells : ℕ → ℕ → Option Refused → Sight → Sight → Type 0
  TryTells v size None a b = (drained_in settings drained v ≡ None) × AtVolume v (RoomFits settings start v tag size) a b
  TryTells v size (Some refused) a b = AtVolume v (Refuses settings start drained v tag size refused) a b

  -- and calls, which of a pair's tries takes it first, or why none does
  abbrev pub TriesTell : Pair → ℕ → Tries → Sight → Sight → Type 0
  TriesTell pair size (tries.Taker v) a b = HasTaker settings start drained tag pair size v a b
  TriesTell pair size (tries.Nobody refused) a b = Tried settings start drained tag pair size (all_tries settings pair) refused a b
  TriesTell pair size tries.NoMemory a b = Idle tag a b

-- why a volume that no drain closes does not take a photo
abbrev pub room_refusal : ℕ → Room → Option Refused
room_refusal v room.Fits = None
room_refusal v (room.Frozen m) = Some (Closed v m)
room_refusal v (room.Lacks m end need) = Some (NoRoom v m end need)

-- of a pair that got no home
abbrev pub settle_reply : DirFault → Reply
settle_reply settling.Frozen = reply.ReadOnlyDir
settle_reply settling.NoMemory = reply.NoMem
settle_reply (settling.Failed faults) = reply.FailedDir faults

-- where all tries refuse so
abbrev pub IsRefusal : List Refused → Reply → Type 0
IsRefusal refused r =
    ((r ≡ reply.Full refused) × (list_any wants_room refused ≡ true))
    ⊎ ((by : List ClosedBy) × (r ≡ reply.ReadOnly by) × (map as_closed by ≡ refused))
    ⊎ (r ≡ reply.NoMem)

-- at the pair's home, where there are so many rows
abbrev pub IsPutReply : ℕ → ℕ → Cookie → Put → Reply → Type 0
IsPutReply v d cookie (put.Stored p) r = r ≡ reply.Stored v p d cookie
IsPutReply v d cookie (put.Frozen m) r = IsReadOnly v m r
IsPutReply v d cookie (put.Lacks m end need) r = (r ≡ reply.Full (NoRoom v m end need ∷ [])) ⊎ (r ≡ reply.NoMem)
IsPutReply v d cookie (put.Failed m f) r = r ≡ reply.Failed v m f
IsPutReply v d cookie put.NoMemory r = r ≡ reply.NoMem
