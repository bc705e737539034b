-- What acts leave of the mode of a Directory, and of the log of its front.
use Rattle.std.specs.Prelude.{◌≢◌, List, [], ◌∷◌, Option, Some, None}
use Rattle.std.specs.List.{AllByRecursion as Each}
use Rattle.hay_core.specs.declared.entry.CoreTag.{CoreTag}
use Rattle.hay_legal.specs.declared.known.HomeRow.{HomeRow}
use Rattle.hay_front.specs.declared.front.Tag.{Tag}
use Rattle.hay_meeting.specs.declared.act.DirAct.{DirAct}
use Rattle.hay_meeting.specs.declared.act.DirDid.{DirDid}
use Rattle.hay_meeting.specs.declared.act.DirDid.TheVariants as did
use Rattle.hay_meeting.specs.Acts.{row_of}
use Rattle.hay_directory.specs.declared.mode.Mode.{Mode}
use Rattle.hay_directory.specs.declared.mode.Mode.TheVariants.{Frozen}
use Rattle.hay_directory.specs.Rows.{dir_row}

-- a row that is pending freezes the Directory, with the tag of its line
abbrev pub mode_by : CoreTag → DirDid → Mode → Mode
mode_by tag did.TriesRow mode = mode
mode_by tag (did.AddsRow row) mode = mode
mode_by tag (did.PendsRow row) mode = Frozen (record { tag = tag; row = dir_row row })
mode_by tag (did.Drains m is) mode = mode
mode_by tag did.FusesRow mode = mode

abbrev pub mode_behind : Mode → List DirAct → Mode
mode_behind mode [] = mode
mode_behind mode (act ∷ acts) = mode_behind (mode_by act.tag act.did mode) acts

-- the tag of an act, for the log of the front
abbrev pub tag_of : DirAct → Tag
tag_of act = record { seat = act.seat; lane = (act.tag).lane; line = (act.tag).line }

abbrev pub add_tag : Option HomeRow → Tag → List Tag → List Tag
add_tag None tag rest = rest
add_tag (Some row) tag rest = tag ∷ rest

-- those of the acts that added a row
abbrev pub tags_of : List DirAct → List Tag
tags_of [] = []
tags_of (act ∷ acts) = add_tag (row_of act.did) (tag_of act) (tags_of acts)

-- none of these acts set a fuse
abbrev pub SetNoFuse : List DirAct → Type 0
SetNoFuse acts = Each (λ act. act.did ≢ did.FusesRow) acts
