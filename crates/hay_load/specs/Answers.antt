-- What batches and bad lines are answered, and what the disks of the store hold then.
use Rattle.std.specs.Prelude.{◌≡◌, ◌⊎◌, ◌<◌, ◌≤◌, ◌+◌, ◌-◌, ◌%◌, ◌^◌, min, ℕ, List, [], ◌∷◌, ◌++◌, length, map, nat_eq, if◌then◌else◌, Some, None, All}
use Rattle.hay_needle.specs.declared.settings.Settings.{Settings}
use Rattle.hay_dirfile.specs.declared.row.DirRow.{DirRow}
use Rattle.hay_reply.specs.declared.Reply.TheVariants.{BadLine}
use Rattle.hay_batch.specs.declared.fault.FullTry.{FullTry}
use Rattle.hay_batch.specs.declared.photo.NewPhoto.{NewPhoto}
use Rattle.hay_batch.specs.Batches.{batch_total, new_row}
use Rattle.hay_batch.specs.Homes.{home_in}
use Rattle.hay_batch.specs.Replicas.{At}
use Rattle.hay_batch.specs.Shelves.{StoredStore, with_stored}
use Rattle.hay_batch.specs.Stores.{try_at}
use Rattle.hay_load.specs.declared.reply.LoadReply.{LoadReply}
use Rattle.hay_load.specs.declared.reply.LoadReply.TheVariants.{Loaded, Known, Other}
use Rattle.hay_load.specs.Gathering.{Group, Batch, Bad, key_of}
use Rattle.hay_load.specs.Replies.{full_reply, load_line}

-- WHAT IS REMEMBERED

-- What a load remembers of a store, whatever its disks tell: its rows, and where the cells of each replica end.
pub record Remembered : Type 0 where
  pub rows : List DirRow
  pub ends : ℕ → ℕ → ℕ

-- the same of what is stored
abbrev pub remembered_of : StoredStore → Remembered
remembered_of s = record { rows = s.rows; ends = λ v j. (s.replicas v j).end }

-- with a batch in a volume: its rows behind the others, and on each replica of the volume its needles
abbrev pub with_remembered : ℕ → List NewPhoto → Remembered → Remembered
with_remembered v photos known = record {
  rows = known.rows ++ map (new_row v) photos;
  ends = λ u j. if nat_eq u v then known.ends u j + batch_total photos else known.ends u j;
}

-- HOMES AND ROOM

-- none of these photos has a home by these rows
abbrev pub AreHomeless : List DirRow → List NewPhoto → Type 0
AreHomeless rows photos = All (λ (photo : NewPhoto). home_in rows photo.pair ≡ None) photos

-- the volume is the home of the first of these photos that has one
pub record IsFirstHomeIn (rows : List DirRow) (photos : List NewPhoto) (volume : ℕ) : Type 0 where
  pub at : ℕ
  pub photo : NewPhoto
  pub there : At photos at photo
  pub home : home_in rows photo.pair ≡ Some volume
  pub before : (i : ℕ) (other : NewPhoto) → i < at → At photos i other → home_in rows other.pair ≡ None

-- needles of so many bytes and the end mark fit on this replica
abbrev pub FitsOn : Settings → Remembered → ℕ → ℕ → ℕ → Type 0
FitsOn settings known need v j = known.ends v j + need + 8 ≤ settings.capacity

abbrev pub FitsIn : Settings → Remembered → ℕ → ℕ → Type 0
FitsIn settings known need v = (j : ℕ) → j < settings.replicas → FitsOn settings known need v j

-- The volume of this turn has no room, and this names its lowest replica that lacks it.
pub record IsTryIn (settings : Settings) (known : Remembered) (key need turn : ℕ) (full : FullTry) : Type 0 where
  pub volume : full.volume ≡ try_at settings key turn
  pub needs : full.need ≡ need
  pub j : ℕ
  pub replica : j < settings.replicas
  pub lacks : settings.capacity < known.ends full.volume j + need + 8
  pub below : (i : ℕ) → i < j → FitsOn settings known need full.volume i
  pub machine : full.machine ≡ (full.volume + j) % settings.machines
  pub end : full.end ≡ known.ends full.volume j

-- those of the first turns, so many, in order
pub record AreTriesIn (settings : Settings) (known : Remembered) (key need turns : ℕ) (tries : List FullTry) : Type 0 where
  pub count : length tries ≡ turns
  pub are : (turn : ℕ) (full : FullTry) → At tries turn full → IsTryIn settings known key need turn full

-- The volume is the first try with room: those before it are these.
pub record IsFirstRoomIn (settings : Settings) (known : Remembered) (key need volume : ℕ) : Type 0 where
  pub turn : ℕ
  pub is : volume ≡ try_at settings key turn
  pub tries : List FullTry
  pub before : AreTriesIn settings known key need turn tries
  pub room : FitsIn settings known need volume

-- no photo has a home, and the volume is the first try with room for the batch
pub record MayLoad (settings : Settings) (known : Remembered) (photos : List NewPhoto) (volume : ℕ) : Type 0 where
  pub homeless : AreHomeless known.rows photos
  pub room : IsFirstRoomIn settings known (key_of photos) (batch_total photos) volume

-- ANSWERS

-- a photo has a home
pub record IsKnown (known : Remembered) (photos : List NewPhoto) (reply : LoadReply) : Type 0 where
  pub volume : ℕ
  pub home : IsFirstHomeIn known.rows photos volume
  pub told : reply ≡ Known volume

-- no photo has one, and no try has room
pub record IsFull (settings : Settings) (known : Remembered) (photos : List NewPhoto) (reply : LoadReply) : Type 0 where
  pub homeless : AreHomeless known.rows photos
  pub tries : List FullTry
  pub are : AreTriesIn settings known (key_of photos) (batch_total photos) settings.volumes tries
  pub told : reply ≡ full_reply tries

-- the batch is not loaded, for one of these
abbrev pub IsNotLoaded : Settings → Remembered → List NewPhoto → LoadReply → Type 0
IsNotLoaded settings known photos reply = IsKnown known photos reply ⊎ IsFull settings known photos reply

-- the batch is loaded into the volume
pub record IsLoaded (settings : Settings) (s : StoredStore) (photos : List NewPhoto) (reply : LoadReply) (new : StoredStore) : Type 0 where
  pub volume : ℕ
  pub may : MayLoad settings (remembered_of s) photos volume
  pub told : reply ≡ Loaded volume (length photos) (length new.rows)
  pub stored : new ≡ with_stored volume photos s

-- a batch is refused, and nothing changes, or it is loaded
abbrev pub AnswersBatch : Settings → StoredStore → List NewPhoto → LoadReply → StoredStore → Type 0
AnswersBatch settings s photos reply new = (IsNotLoaded settings (remembered_of s) photos reply × (new ≡ s)) ⊎ IsLoaded settings s photos reply new

-- the groups are answered in order by these replies, from what was stored to what is then
abbrev pub AnswersAll : Settings → StoredStore → List Group → List LoadReply → StoredStore → Type 0
AnswersAll settings s [] [] new = new ≡ s
AnswersAll settings s [] (reply ∷ replies) new = ⊥
AnswersAll settings s (group ∷ groups) [] new = ⊥
AnswersAll settings s (Bad line ∷ groups) (reply ∷ replies) new = (reply ≡ Other BadLine) × AnswersAll settings s groups replies new
AnswersAll settings s (Batch line photos ∷ groups) (reply ∷ replies) new =
    (mid : StoredStore) × AnswersBatch settings s photos reply mid × AnswersAll settings mid groups replies new

-- WHATEVER THE DISKS TELL

-- what a counter says of so many
abbrev pub counted : ℕ → ℕ
counted n = min n (2 ^ 64 - 1)

-- the batch is loaded into the volume
pub record SuitsLoaded (settings : Settings) (known : Remembered) (photos : List NewPhoto) (reply : LoadReply) (new : Remembered) : Type 0 where
  pub volume : ℕ
  pub may : MayLoad settings known photos volume
  pub told : reply ≡ Loaded volume (length photos) (counted (length new.rows))
  pub added : new ≡ with_remembered volume photos known

-- the replies that a batch may have where this is remembered, and what is remembered then
abbrev pub SuitsBatch : Settings → Remembered → List NewPhoto → LoadReply → Remembered → Type 0
SuitsBatch settings known photos reply new = (IsNotLoaded settings known photos reply × (new ≡ known)) ⊎ SuitsLoaded settings known photos reply new

-- the groups have such replies in order, and a bad line just its own
abbrev pub SuitAll : Settings → Remembered → List Group → List LoadReply → Remembered → Type 0
SuitAll settings known [] [] new = new ≡ known
SuitAll settings known [] (reply ∷ replies) new = ⊥
SuitAll settings known (group ∷ groups) [] new = ⊥
SuitAll settings known (Bad line ∷ groups) (reply ∷ replies) new = (reply ≡ Other BadLine) × SuitAll settings known groups replies new
SuitAll settings known (Batch line photos ∷ groups) (reply ∷ replies) new =
    (mid : Remembered) × SuitsBatch settings known photos reply mid × SuitAll settings mid groups replies new

-- THE LINES

-- the lines of these replies
abbrev pub reply_lines : List Group → List LoadReply → List ℕ
reply_lines [] replies = []
reply_lines (group ∷ groups) [] = []
reply_lines (Bad line ∷ groups) (reply ∷ replies) = load_line line reply ++ reply_lines groups replies
reply_lines (Batch line photos ∷ groups) (reply ∷ replies) = load_line line reply ++ reply_lines groups replies
