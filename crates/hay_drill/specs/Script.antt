-- The script of a day's use. Photos of four sizes are put, every fifth key gets another largest photo, and every seventh key's second photo is
-- deleted. The records of all replicas are flushed. In a block four lanes read all photos while a fifth compacts every replica. Then the power
-- is cut, and all photos are read again.
use Rattle.std.specs.Prelude.{ℕ, ◌+◌, ◌-◌, ◌%◌, ◌^◌, ◌==◌, List, [], ◌∷◌, ◌++◌, replicate, Option, None, Some, codes, decimal, flat_map, if◌then◌else◌}
use Rattle.std.specs.List.{range_with_len}
use Rattle.hex.specs.Hex.{encode_lower}
use Rattle.hay_needle.specs.declared.settings.Settings.{Settings}
use Rattle.hay_needle.specs.declared.settings.TheConstants.{USUAL_CAPACITY}
use Rattle.hay_url.specs.Url.{cookie_of, cookie_text}

-- the store in which the script is run
abbrev pub settings : Settings
settings = record { machines = 4; volumes = 8; replicas = 2; capacity = USUAL_CAPACITY; secret = replicate 32 0 }

-- LINES

-- the key of photo i: keys go on at 0 behind the last one
abbrev pub key_of : ℕ → ℕ → ℕ
key_of first i = (first + i) % 2 ^ 64

abbrev pub alts : List ℕ
alts = 1 ∷ 2 ∷ 3 ∷ 4 ∷ []

-- the bytes of a photo, by its alternate key
abbrev pub size_of : ℕ → ℕ
size_of alt = if alt == 1 then 65536 else if alt == 2 then 16384 else if alt == 3 then 4096 else 1024

-- each byte of the photo is this one
abbrev pub put_line : ℕ → ℕ → ℕ → List ℕ
put_line key alt byte =
    codes "put " ++ decimal key ++ codes " " ++ decimal alt ++ codes " x" ++ decimal (size_of alt) ++ codes ":" ++ encode_lower (byte ∷ []) ++ codes "\n"

abbrev pub del_line : ℕ → List ℕ
del_line key = codes "del " ++ decimal key ++ codes " 2\n"

-- in a lane of a block, or behind it
abbrev pub lane_text : Option ℕ → List ℕ
lane_text None = []
lane_text (Some lane) = decimal lane ++ codes " "

abbrev pub read_line : Option ℕ → ℕ → ℕ → List ℕ
read_line lane key alt =
    lane_text lane ++ codes "read " ++ decimal key ++ codes " " ++ decimal alt ++ codes " " ++ cookie_text (cookie_of settings.secret key) ++ codes "\n"

-- PARTS

-- what is written for photo 0 and so on, one photo behind the other
abbrev pub each_photo : (ℕ → List ℕ) → ℕ → List ℕ
each_photo text count = flat_map text (range_with_len 0 count)

abbrev pub uploads : ℕ → ℕ → List ℕ
uploads first i = flat_map (λ alt. put_line (key_of first i) alt (i % 256)) alts

abbrev pub replacement : ℕ → ℕ → List ℕ
replacement first i = if i % 5 == 0 then put_line (key_of first i) 1 (255 - i % 256) else []

abbrev pub deletion : ℕ → ℕ → List ℕ
deletion first i = if i % 7 == 0 then del_line (key_of first i) else []

abbrev pub reads : Option ℕ → ℕ → ℕ → List ℕ
reads lane first i = flat_map (read_line lane (key_of first i)) alts

abbrev pub lane_reads : ℕ → ℕ → List ℕ
lane_reads first i = reads (Some (i % 4)) first i

-- a line for each replica: replica j of volume v is on machine v + j, where machine 0 is behind the last
abbrev pub replica_line : List ℕ → ℕ → ℕ → List ℕ
replica_line verb v j = verb ++ codes " " ++ decimal v ++ codes " " ++ decimal ((v + j) % settings.machines) ++ codes "\n"

abbrev pub volume_lines : List ℕ → ℕ → List ℕ
volume_lines verb v = flat_map (replica_line verb v) (range_with_len 0 settings.replicas)

abbrev pub each_replica : List ℕ → List ℕ
each_replica verb = flat_map (volume_lines verb) (range_with_len 0 settings.volumes)

-- THE SCRIPT

abbrev pub block : ℕ → ℕ → List ℕ
block count first = codes "lanes 5\n" ++ each_photo (lane_reads first) count ++ each_replica (codes "4 compact") ++ codes "end\n"

-- of so many photos, from the first key on
abbrev pub drill_script : ℕ → ℕ → List ℕ
drill_script count first =
    each_photo (uploads first) count
    ++ each_photo (replacement first) count
    ++ each_photo (deletion first) count
    ++ each_replica (codes "flush")
    ++ block count first
    ++ codes "restart 0\n"
    ++ each_photo (reads None first) count
