-- The boxes behind a plain line, where sizes are known by their ranges.
use Rattle.std.specs.Prelude.{ℕ, ◌+◌, ◌-◌, ◌==◌, ◌&&◌, not, is_none, nat_lt, Bool, List, [], ◌∷◌, length, Option, is_some, if◌then◌else◌}
use Rattle.std.specs.List.{list_any}
use Rattle.hay_needle.specs.declared.needle.Pair.{Pair}
use Rattle.hay_needle.specs.declared.needle.Cookie.{Cookie}
use Rattle.hay_needle.specs.declared.settings.Settings.{Settings}
use Rattle.hay_needle.specs.Tables.{live_end}
use Rattle.hay_needle.specs.declared.settings.TheConstants.{LAST_GENERATION}
use Rattle.hay_url.specs.Url.{cookie_of}
use Rattle.hay_core.specs.declared.entry.CoreTag.{CoreTag}
use Rattle.hay_script.specs.declared.Command.TheVariants as command
use Rattle.hay_reply.specs.declared.Reply.{Reply}
use Rattle.hay_reply.specs.declared.Reply.TheVariants as reply
use Rattle.hay_legal.specs.declared.known.Known.{Known}
use Rattle.hay_legal.specs.declared.turn.Item.{Item}
use Rattle.hay_legal.specs.declared.turn.Item.TheVariants as item
use Rattle.hay_legal.specs.Known.{volume_at, closed, lacks_room, now, settled}
use Rattle.hay_legal.specs.Plain.{change_volume, change_replica, swapped, as_it_is, replica_of}
use Rattle.hay_audit_steps.specs.Slacks.{Slack, no_slack}
use Rattle.hay_audit_steps.specs.Boxes.{Box, slack_at, set_slack}
use Rattle.hay_audit_steps.specs.Next.{is_at, is_dir_open, cookie_eq, keep_if, stored, names, is_open}

-- a line with such a reply, whose row looks at no sizes but those that change with all else
abbrev pub IsSizeless : Item → Reply → Type 0
IsSizeless (item.Command (command.Put pair bytes)) r = ⊥
IsSizeless (item.Command (command.Flush v m)) (reply.Flushed v' m' n) = ⊥
IsSizeless (item.Command (command.Compact v m)) (reply.Compacted v' m' g) = ⊥
IsSizeless (item.Command (command.Step v m n)) (reply.Stepped v' m' n') = ⊥
IsSizeless (item.Command (command.Finish v m)) (reply.Compacted v' m' g) = ⊥
IsSizeless _ r = Unit {0}

-- A PUT

-- a volume that is open, and lacks room on none of its replicas
abbrev pub takes : Settings → Known → ℕ → ℕ → Bool
takes settings k size v = is_none (closed settings k v) && not (list_any (lacks_room settings size) (volume_at k v).replicas)

-- the state of a put that was stored, by the volume that takes it
abbrev pub stored_if : Settings → Known → CoreTag → Pair → List ℕ → ℕ → ℕ → ℕ → Cookie → Option ℕ → List Known
stored_if settings b tag pair bytes v p d c taker =
    keep_if (is_at taker v && (is_dir_open b pair && (cookie_eq c (cookie_of settings.secret pair.key)
    && ((p == length (volume_at b v).log + 1) && (d == length (settled b.directory.rows pair v))))))
    (stored b tag pair bytes v c)

-- A FINISH, WHICH LEAVES RANGES OF SIZES

abbrev pub least_end : Known → ℕ → ℕ → ℕ
least_end b v j = live_end (now (volume_at b v) (replica_of b v j))

abbrev pub least_cells : Known → ℕ → ℕ → ℕ
least_cells b v j = length (now (volume_at b v) (replica_of b v j))

-- the greatest that the sizes were
abbrev pub most_end : Box → ℕ → ℕ → ℕ
most_end box v j = (replica_of box.base v j).end + (slack_at box.high v j).end

abbrev pub most_cells : Box → ℕ → ℕ → ℕ
most_cells box v j = (replica_of box.base v j).cells + (slack_at box.high v j).cells

abbrev pub room_above : Box → ℕ → ℕ → Slack
room_above box v j = record { end = most_end box v j - least_end box.base v j; cells = most_cells box v j - least_cells box.base v j; bare = 0 }

abbrev pub swapped_box : Box → ℕ → ℕ → Box
swapped_box box v j = record {
  base = change_volume (change_replica box.base v j (swapped (least_end box.base v j) (least_cells box.base v j))) v as_it_is;
  low = set_slack box.low v j no_slack;
  high = set_slack box.high v j (room_above box v j);
}

-- the sizes that a swap leaves lie somewhere in a box
abbrev pub has_sizes : Box → ℕ → ℕ → Bool
has_sizes box v j = nat_lt (least_end box.base v j) (most_end box v j + 1) && nat_lt (least_cells box.base v j) (most_cells box v j + 1)

abbrev pub may_finish : Known → ℕ → ℕ → Bool
may_finish b v j = is_some (replica_of b v j).run && nat_lt (replica_of b v j).generation LAST_GENERATION

abbrev pub finished_boxes : Box → ℕ → ℕ → ℕ → ℕ → ℕ → ℕ → List Box
finished_boxes box v m j v' m' g =
    if names v m v' m' && (is_open box.base v && (may_finish box.base v j && ((g == (replica_of box.base v j).generation + 1) && has_sizes box v j)))
    then swapped_box box v j ∷ []
    else []
