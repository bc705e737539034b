-- States of which some sizes are not known: each of these lies in a range above the lowest.
use Rattle.std.specs.Prelude.{◌≡◌, ℕ, ◌+◌, ◌<◌, min, max, List, [], ◌∷◌, length, slice_index_or, slice_set}
use Rattle.std.specs.List.{AllZip, AllByRecursion as Each}
use Rattle.hay_legal.specs.declared.known.ReplicaKnown.{ReplicaKnown}
use Rattle.hay_legal.specs.declared.known.VolumeKnown.{VolumeKnown}
use Rattle.hay_legal.specs.declared.known.Known.{Known}
use Rattle.hay_legal.specs.Known.{volume_at}
use Rattle.hay_audit_steps.specs.CheckerSteps.{AnyOf, IsStepOf}
use Rattle.hay_audit_steps.specs.Slacks.{Slack, fill_replica, no_slack, Lies}
use Rattle.hay_audit_steps.specs.Parts.{Part, In}

abbrev pub fill_replicas : List Slack → List ReplicaKnown → List ReplicaKnown
fill_replicas [] replicas = replicas
fill_replicas (x ∷ xs) [] = []
fill_replicas (x ∷ xs) (replica ∷ replicas) = fill_replica x replica ∷ fill_replicas xs replicas

abbrev pub fill_volume : List Slack → VolumeKnown → VolumeKnown
fill_volume xs volume = record volume { replicas = fill_replicas xs volume.replicas }

abbrev pub fill_volumes : List (List Slack) → List VolumeKnown → List VolumeKnown
fill_volumes [] volumes = volumes
fill_volumes (xs ∷ xss) [] = []
fill_volumes (xs ∷ xss) (volume ∷ volumes) = fill_volume xs volume ∷ fill_volumes xss volumes

abbrev pub fill : List (List Slack) → Known → Known
fill xss k = record k { volumes = fill_volumes xss k.volumes }

abbrev pub Within : List (List Slack) → List (List Slack) → Type 0
Within xss slack = AllZip (λ xs most. AllZip Lies xs most) xss slack

-- Sizes above those of `base`, each between the lowest and the highest that it may be.
pub record Box : Type 0 where
  pub base : Known
  pub low : List (List Slack)
  pub high : List (List Slack)

pub record Between (low xss high : List (List Slack)) : Type 0 where
  pub least : Within low xss
  pub most : Within xss high

abbrev pub Has : Box → Known → Type 0
Has box k = (xss : List (List Slack)) × Between box.low xss box.high × (k ≡ fill xss box.base)

-- the boxes behind a box, by a row of the table of legal turns
abbrev pub IsBoxStep : (Known → Known → Type 0) → Box → List Box → Type 0
IsBoxStep row box next = IsStepOf Has row box next

-- the same ranges above another state
abbrev pub ranged : Box → Known → Box
ranged box k = record box { base = k }

-- there is a range for this replica
abbrev pub IsPlace : List (List Slack) → ℕ → ℕ → Type 0
IsPlace xss v j = (v < length xss) × (j < length (slice_index_or xss v []))

-- a box that has such a replica, and some sizes within its ranges
pub record IsFilled (box : Box) (v j : ℕ) : Type 0 where
  pub low : IsPlace box.low v j
  pub high : IsPlace box.high v j
  pub volume : j < length (volume_at box.base v).replicas
  pub some : Within box.low box.high

-- RANGES THAT ARE CUT

abbrev pub slack_at : List (List Slack) → ℕ → ℕ → Slack
slack_at xss v j = slice_index_or (slice_index_or xss v []) j no_slack

abbrev pub set_slack : List (List Slack) → ℕ → ℕ → Slack → List (List Slack)
set_slack xss v j x = slice_set xss v (slice_set (slice_index_or xss v []) j x)

-- the box up to an end, and above it
abbrev pub up_to : Box → ℕ → ℕ → ℕ → Box
up_to box v j most = record box { high = set_slack box.high v j (record (slack_at box.high v j) { end = min (slack_at box.high v j).end most }) }

abbrev pub above : Box → ℕ → ℕ → ℕ → Box
above box v j most = record box { low = set_slack box.low v j (record (slack_at box.low v j) { end = max (slack_at box.low v j).end (most + 1) }) }

-- Parts are a box's: a state is in the box exactly where it is in one of them.
pub record IsCut (box : Box) (parts : List Box) : Type 0 where
  pub inside : Each (λ d. (k : Known) → Has d k → Has box k) parts
  pub whole : (k : Known) → Has box k → AnyOf (λ d. Has d k) parts

-- A BOX, REPLICA BY REPLICA

abbrev pub part_of : ReplicaKnown → Slack → Slack → Part
part_of base low high = record { base = base; low = low; high = high }

abbrev pub InReplicas : List ReplicaKnown → List Slack → List Slack → List ReplicaKnown → Type 0
InReplicas [] [] [] [] = Unit {0}
InReplicas (b ∷ bases) (l ∷ lows) (h ∷ highs) (r ∷ replicas) = In (part_of b l h) r × InReplicas bases lows highs replicas
InReplicas _ _ _ _ = ⊥

pub record InVolume (base : VolumeKnown) (lows highs : List Slack) (volume : VolumeKnown) : Type 0 where
  pub same : volume ≡ record base { replicas = volume.replicas }
  pub replicas : InReplicas base.replicas lows highs volume.replicas

abbrev pub InVolumes : List VolumeKnown → List (List Slack) → List (List Slack) → List VolumeKnown → Type 0
InVolumes [] [] [] [] = Unit {0}
InVolumes (b ∷ bases) (ls ∷ lows) (hs ∷ highs) (v ∷ volumes) = InVolume b ls hs v × InVolumes bases lows highs volumes
InVolumes _ _ _ _ = ⊥

pub record EachIn (box : Box) (k : Known) : Type 0 where
  pub same : k ≡ record box.base { volumes = k.volumes }
  pub volumes : InVolumes box.base.volumes box.low box.high k.volumes

-- a box has a range for each replica
abbrev pub IsShaped : Box → Type 0
IsShaped box = AllZip (λ volume lows. length volume.replicas ≡ length lows) box.base.volumes box.low
