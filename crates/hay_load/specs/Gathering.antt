-- Which batches the lines of a script make.
use Rattle.std.specs.Prelude.{◌≡◌, ◌+◌, ℕ, ◌==◌, ◌&&◌, nat_lt, nat_le, Bool, not, List, [], ◌∷◌, ◌++◌, length, Option, Some, None, All, if◌then◌else◌}
use Rattle.std.specs.List.{list_all}
use Rattle.hay_needle.specs.declared.needle.Pair.{Pair}
use Rattle.hay_needle.specs.declared.settings.Settings.{Settings}
use Rattle.hay_url.specs.Url.{cookie_of}
use Rattle.hay_script.specs.declared.Command.{Command}
use Rattle.hay_script.specs.declared.Command.TheVariants as command
use Rattle.hay_script.specs.declared.Line.{Line}
use Rattle.hay_script.specs.declared.Line.TheVariants as line
use Rattle.hay_batch.specs.declared.photo.NewPhoto.{NewPhoto}
use Rattle.hay_batch.specs.Batches.{AreDistinct, IsBatch, batch_total, max_total, photo_total}
use Rattle.hay_batch.specs.declared.photo.TheConstants.{MAX_PHOTOS}

-- the photo that a put stores
abbrev pub photo_of : Settings → Pair → List ℕ → NewPhoto
photo_of settings pair bytes = record { pair = pair; cookie = cookie_of settings.secret pair.key; bytes = bytes }

-- ONE BATCH

-- the key of a batch, which is that of its first photo
abbrev pub key_of : List NewPhoto → ℕ
key_of [] = 0
key_of (photo ∷ photos) = photo.pair.key

-- the photos are a batch, of one key and of distinct pairs
pub record IsGathered (photos : List NewPhoto) : Type 0 where
  pub batch : IsBatch photos
  pub key : All (λ (photo : NewPhoto). photo.pair.key ≡ key_of photos) photos
  pub distinct : AreDistinct photos

-- the other photo is of the same key, and not of the same pair
abbrev pub is_beside : NewPhoto → NewPhoto → Bool
is_beside photo other = (other.pair.key == photo.pair.key) && not (other.pair.alt == photo.pair.alt)

-- with the photo these are no more than fit in a batch
abbrev pub fits_behind : NewPhoto → List NewPhoto → Bool
fits_behind photo photos = nat_lt (length photos) MAX_PHOTOS && nat_le (batch_total photos + photo_total photo) max_total

-- a photo may come behind these in their batch
abbrev pub joins : List NewPhoto → NewPhoto → Bool
joins photos photo = list_all (is_beside photo) photos && fits_behind photo photos

-- ALL LINES

-- Lines that are answered together: a batch, by the number of its first line, or a bad line.
pub data Group : Type 0 where
  Batch : (line : ℕ) (photos : List NewPhoto) → Group
  Bad : (line : ℕ) → Group

-- a batch that is open
pub record OpenBatch : Type 0 where
  pub line : ℕ
  pub photos : List NewPhoto

abbrev pub closed : Option OpenBatch → List Group
closed None = []
closed (Some batch) = Batch batch.line batch.photos ∷ []

-- What a line makes: the groups that it ends, and the batch that is open behind it.
pub record Step : Type 0 where
  pub groups : List Group
  pub held : Option OpenBatch

-- a put joins the open batch where it may, and opens another where not
abbrev pub put_step : ℕ → Option OpenBatch → NewPhoto → Step
put_step number None photo = record { groups = []; held = Some (record { line = number; photos = photo ∷ [] }) }
put_step number (Some batch) photo = if joins batch.photos photo
    then record { groups = []; held = Some (record { line = batch.line; photos = batch.photos ++ photo ∷ [] }) }
    else record { groups = closed (Some batch); held = Some (record { line = number; photos = photo ∷ [] }) }

-- a line that is no put ends the open batch, and is a bad line
abbrev pub bad_step : ℕ → Option OpenBatch → Step
bad_step number held = record { groups = closed held ++ Bad number ∷ []; held = None }

abbrev pub command_step : Settings → ℕ → Option OpenBatch → Command → Step
command_step settings number held (command.Put pair bytes) = put_step number held (photo_of settings pair bytes)
command_step settings number held (command.Read pair cookie) = bad_step number held
command_step settings number held (command.Get url) = bad_step number held
command_step settings number held (command.Del pair) = bad_step number held
command_step settings number held (command.Url pair) = bad_step number held
command_step settings number held (command.Flush volume machine) = bad_step number held
command_step settings number held (command.Compact volume machine) = bad_step number held
command_step settings number held (command.Begin volume machine) = bad_step number held
command_step settings number held (command.Step volume machine cells) = bad_step number held
command_step settings number held (command.Finish volume machine) = bad_step number held
command_step settings number held (command.Drain machine) = bad_step number held
command_step settings number held (command.Undrain machine) = bad_step number held
command_step settings number held (command.Fuse volume machine calls) = bad_step number held
command_step settings number held (command.FuseDir calls) = bad_step number held
command_step settings number held (command.Restart pick) = bad_step number held

-- a line that says nothing is skipped
abbrev pub line_step : Settings → ℕ → Option OpenBatch → Line → Step
line_step settings number held line.Skip = record { groups = []; held = held }
line_step settings number held (line.Plain asks) = command_step settings number held asks
line_step settings number held line.Bad = bad_step number held
line_step settings number held (line.InLane lane asks) = bad_step number held
line_step settings number held (line.Lanes lanes) = bad_step number held
line_step settings number held line.End = bad_step number held

-- what lines make of which the first has this number, behind an open batch
abbrev pub groups_from : Settings → ℕ → Option OpenBatch → List Line → List Group
groups_from settings number held [] = closed held
groups_from settings number held (said ∷ lines) =
    let step = line_step settings number held said in step.groups ++ groups_from settings (number + 1) step.held lines

-- the batches and bad lines of a script
abbrev pub groups_of : Settings → List Line → List Group
groups_of settings lines = groups_from settings 1 None lines
