-- The boxes behind a put: a box is cut until each of its states takes the photo, or refuses it, in one way.
use Rattle.std.specs.Prelude.{ℕ, suc, ◌+◌, ◌-◌, ◌&&◌, nat_lt, is_none, is_some, Bool, true, false, List, [], ◌∷◌, ◌++◌, length, map, flat_map, Option, Some, None, option_map, if◌then◌else◌}
use Rattle.std.specs.List.{list_any, range_with_len}
use Rattle.hay_needle.specs.declared.needle.Pair.{Pair}
use Rattle.hay_needle.specs.declared.settings.Settings.{Settings}
use Rattle.hay_needle.specs.Sizes.{needle_total}
use Rattle.hay_core.specs.declared.entry.CoreTag.{CoreTag}
use Rattle.hay_reply.specs.declared.Refused.{Refused}
use Rattle.hay_reply.specs.declared.Refused.TheVariants.{NoRoom, Closed}
use Rattle.hay_reply.specs.declared.Reply.{Reply}
use Rattle.hay_reply.specs.declared.Reply.TheVariants.{Stored, Full, ReadOnly, ReadOnlyDir, Failed, FailedDir}
use Rattle.hay_legal.specs.declared.known.Known.{Known}
use Rattle.hay_legal.specs.Known.{volume_at, home_of, closed, lacks_room, refusal_of, slot_of, replica_on, taker_of, tries_of}
use Rattle.hay_legal.specs.Plain.{as_closed, put_frozen, replica_of, wants_room}
use Rattle.hay_audit_steps.specs.BoxNext.{stored_if}
use Rattle.hay_audit_steps.specs.Boxes.{Box, IsShaped, Within, above, fill, ranged, set_slack, slack_at, up_to}
use Rattle.hay_audit_steps.specs.Next.{is_at, is_dir_open, is_least, keep_if, refuse_so, rises_to, row_failed_by, with_fault}
use Rattle.hay_audit_steps.specs.Places.{is_between}

-- a range for each replica, and some sizes within
pub record IsWhole (box : Box) : Type 0 where
  pub shaped : IsShaped box
  pub some : Within box.low box.high

-- the state of a box with the lowest sizes
abbrev pub lowest : Box → Known
lowest box = fill box.low box.base

-- which replicas of a volume lack room
abbrev pub rooms : Settings → ℕ → Known → ℕ → List Bool
rooms settings size k v = map (lacks_room settings size) (volume_at k v).replicas

-- CUTS BY WHAT HAS ROOM

-- the box, if it has an end there
abbrev pub where_end : ℕ → ℕ → Box → List Box
where_end v j box = if is_least (slack_at box.low v j).end (slack_at box.high v j).end then box ∷ [] else []

abbrev pub cut_at : ℕ → ℕ → ℕ → Box → List Box
cut_at v j most box = where_end v j (up_to box v j most) ++ where_end v j (above box v j most)

abbrev pub least_need : ℕ → ℕ → ℕ → Box → ℕ
least_need size v j box = (replica_of box.base v j).end + needle_total size + 8

abbrev pub room_cut : Settings → ℕ → ℕ → ℕ → Box → List Box
room_cut settings size v j box =
    if nat_lt settings.capacity (least_need size v j box) then box ∷ [] else cut_at v j (settings.capacity - least_need size v j box) box

abbrev pub volume_cuts : Settings → ℕ → ℕ → List ℕ → Box → List Box
volume_cuts settings size v [] box = box ∷ []
volume_cuts settings size v (j ∷ js) box = flat_map (volume_cuts settings size v js) (room_cut settings size v j box)

abbrev pub replicas_at : Box → ℕ → List ℕ
replicas_at box v = range_with_len 0 (length (volume_at box.base v).replicas)

abbrev pub try_cuts : Settings → ℕ → List ℕ → Box → List Box
try_cuts settings size [] box = box ∷ []
try_cuts settings size (v ∷ tries) box = flat_map (try_cuts settings size tries) (volume_cuts settings size v (replicas_at box v) box)

-- A TRY THAT REFUSES, WHOSE ENDS ARE PRINTED

abbrev pub with_end : Box → ℕ → ℕ → ℕ → Box
with_end box v j n = record box {
  low = set_slack box.low v j (record (slack_at box.low v j) { end = n });
  high = set_slack box.high v j (record (slack_at box.high v j) { end = n });
}

-- the sizes of the box with this end
abbrev pub at_end : Box → ℕ → ℕ → ℕ → List Box
at_end box v j end =
    if is_between ((replica_of box.base v j).end + (slack_at box.low v j).end) end ((replica_of box.base v j).end + (slack_at box.high v j).end)
    then with_end box v j (end - (replica_of box.base v j).end) ∷ []
    else []

abbrev pub first_true : List Bool → Option ℕ
first_true [] = None
first_true (true ∷ bs) = Some 0
first_true (false ∷ bs) = option_map suc (first_true bs)

abbrev pub full_at : Box → ℕ → ℕ → Option ℕ → List Box
full_at box v end None = []
full_at box v end (Some j) = at_end box v j end

-- the sizes with which a volume that is closed by this machine, or by none, may refuse so
abbrev pub refused_at : Settings → ℕ → Box → ℕ → Option ℕ → Refused → List Box
refused_at settings size box v None (NoRoom v' m' end need) = full_at box v end (first_true (rooms settings size (lowest box) v))
refused_at settings size box v None (Closed v' m') = []
refused_at settings size box v (Some m) (NoRoom v' m' end need) = []
refused_at settings size box v (Some m) (Closed v' m') = box ∷ []

abbrev pub all_refused_at : Settings → ℕ → List ℕ → List Refused → Box → List Box
all_refused_at settings size [] [] box = box ∷ []
all_refused_at settings size (v ∷ tries) (r ∷ refused) box = flat_map (all_refused_at settings size tries refused) (refused_at settings size box v (closed settings box.base v) r)
all_refused_at settings size _ _ box = []

-- EACH REPLY

abbrev pub failed_if : Settings → Known → CoreTag → Pair → List ℕ → ℕ → ℕ → ℕ → Option ℕ → Option ℕ → List Known
failed_if settings b tag pair bytes v m f taker None = []
failed_if settings b tag pair bytes v m f taker (Some j) =
    keep_if (is_at taker v && (is_dir_open b pair && rises_to b (slot_of settings v j) f)) (with_fault (put_frozen settings b tag pair bytes v m true) (slot_of settings v j) f)

-- the states behind a put, by the volume that takes it
abbrev pub put_by : Settings → Known → CoreTag → Pair → List ℕ → Reply → Option ℕ → List Known
put_by settings b tag pair bytes (Stored v p d c) taker = stored_if settings b tag pair bytes v p d c taker
put_by settings b tag pair bytes ReadOnlyDir taker = keep_if (is_none (home_of b pair) && (is_some taker && b.directory.frozen)) b
put_by settings b tag pair bytes (Failed v m f) taker = failed_if settings b tag pair bytes v m f taker (replica_on settings v m)
put_by settings b tag pair bytes (FailedDir f) taker = row_failed_by b tag pair f taker
put_by settings b tag pair bytes _ taker = []

abbrev pub taken_boxes : Settings → CoreTag → Pair → List ℕ → Reply → Box → List Box
taken_boxes settings tag pair bytes reply box = map (ranged box) (put_by settings box.base tag pair bytes reply (taker_of settings (lowest box) pair (length bytes)))

-- each try refuses so, and the rest is said of them
abbrev pub refuse_box : Settings → Pair → ℕ → List Refused → Bool → Box → List Box
refuse_box settings pair size refused rest box =
    map (ranged box) (keep_if (refuse_so (map (refusal_of settings (lowest box) size) (tries_of settings box.base pair)) refused && rest) box.base)

abbrev pub refused_boxes : Settings → Pair → ℕ → List Refused → Bool → Box → List Box
refused_boxes settings pair size refused rest box =
    flat_map (refuse_box settings pair size refused rest) (all_refused_at settings size (tries_of settings box.base pair) refused box)

abbrev pub put_box : Settings → CoreTag → Pair → List ℕ → Reply → Box → List Box
put_box settings tag pair bytes (Full refused) box = refused_boxes settings pair (length bytes) refused (list_any wants_room refused) box
put_box settings tag pair bytes (ReadOnly by) box = refused_boxes settings pair (length bytes) (map as_closed by) true box
put_box settings tag pair bytes reply box = taken_boxes settings tag pair bytes reply box

abbrev pub put_boxes : Settings → CoreTag → Pair → List ℕ → Reply → Box → List Box
put_boxes settings tag pair bytes reply box = flat_map (put_box settings tag pair bytes reply) (try_cuts settings (length bytes) (tries_of settings box.base pair) box)
