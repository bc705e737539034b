-- What a part of the script has for a photo. The contracts of inner functions alone cite this file.
use Rattle.std.specs.Prelude.{ℕ, List, None}
use Rattle.hay_drill.specs.declared.script.Part.{Part}
use Rattle.hay_drill.specs.declared.script.Part.TheVariants.{Uploads, Replacements, Deletions, LaneReads, Reads}
use Rattle.hay_drill.specs.Script.{uploads, replacement, deletion, lane_reads, reads}

abbrev pub photo_text : Part → ℕ → ℕ → List ℕ
photo_text Uploads first i = uploads first i
photo_text Replacements first i = replacement first i
photo_text Deletions first i = deletion first i
photo_text LaneReads first i = lane_reads first i
photo_text Reads first i = reads None first i
