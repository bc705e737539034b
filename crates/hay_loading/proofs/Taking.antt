-- Groups that were answered and told, one after another.
use Rattle.std.proofs.Common.{◌≡◌, ℕ, ◌≤◌, List, [], ◌∷◌, ◌++◌, Bool, true, false, Option, Some, None, refl, ap, arith}
use Rattle.std.specs.Prelude.{if◌then◌else◌}
use Rattle.hay_needle.specs.declared.settings.Settings.{Settings}
use Rattle.hay_disk.specs.Disk.{Files}
use Rattle.hay_disk.specs.Streams.{Wrote}
use Rattle.hay_script.specs.declared.Command.{Command}
use Rattle.hay_script.specs.declared.Command.TheVariants as command
use Rattle.hay_script.specs.declared.Line.{Line}
use Rattle.hay_script.specs.declared.Line.TheVariants as line
use Rattle.hay_batch.specs.declared.photo.NewPhoto.{NewPhoto}
use Rattle.hay_batch.specs.declared.store.LoadStore.{LoadStore}
use Rattle.hay_load.specs.Gathering.{Group, OpenBatch, Step, bad_step, closed, command_step, joins, line_step, photo_of, put_step}
use Rattle.hay_load.specs.Loads.{Loads}
use Rattle.hay_load.proofs.Taking.{loads_more, loads_none}
use Rattle.hay_loading.specs.Endings.{batch_count}
use Rattle.hay_loading.specs.Lines.{Told}
use Rattle.hay_loading.proofs.Sinks.{wrote_more, wrote_nothing}

-- BATCHES OF ONE LINE

count_closed : (held : Option OpenBatch) → batch_count (closed held) ≤ 1
count_closed None = omega arith
count_closed (Some batch) = omega arith

count_bad : (number : ℕ) (held : Option OpenBatch) → batch_count (bad_step number held).groups ≤ 1
count_bad number None = omega arith
count_bad number (Some batch) = omega arith

abbrev put_by : ℕ → OpenBatch → NewPhoto → Bool → Step
put_by number batch photo b = if b then record { groups = []; held = Some (record { line = batch.line; photos = batch.photos ++ photo ∷ [] }) } else record
    { groups = closed (Some batch); held = Some (record { line = number; photos = photo ∷ [] }) }

count_by : (number : ℕ) (batch : OpenBatch) (photo : NewPhoto) (b : Bool) → batch_count (put_by number batch photo b).groups ≤ 1
count_by number batch photo true = omega arith
count_by number batch photo false = omega arith

count_put : (number : ℕ) (held : Option OpenBatch) (photo : NewPhoto) → batch_count (put_step number held photo).groups ≤ 1
count_put number None photo = omega arith
count_put number (Some batch) photo = count_by number batch photo (joins batch.photos photo)

count_command : (settings : Settings) (number : ℕ) (held : Option OpenBatch) (asks : Command) → batch_count (command_step settings number held asks).groups ≤ 1
count_command settings number held (command.Put pair bytes) = count_put number held (photo_of settings pair bytes)
count_command settings number held (command.Read pair cookie) = count_bad number held
count_command settings number held (command.Get url) = count_bad number held
count_command settings number held (command.Del pair) = count_bad number held
count_command settings number held (command.Url pair) = count_bad number held
count_command settings number held (command.Flush volume machine) = count_bad number held
count_command settings number held (command.Compact volume machine) = count_bad number held
count_command settings number held (command.Begin volume machine) = count_bad number held
count_command settings number held (command.Step volume machine cells) = count_bad number held
count_command settings number held (command.Finish volume machine) = count_bad number held
count_command settings number held (command.Drain machine) = count_bad number held
count_command settings number held (command.Undrain machine) = count_bad number held
count_command settings number held (command.Fuse volume machine calls) = count_bad number held
count_command settings number held (command.FuseDir calls) = count_bad number held
count_command settings number held (command.Restart pick) = count_bad number held

pub count_line : (settings : Settings) (number : ℕ) (held : Option OpenBatch) (said : Line) → batch_count (line_step settings number held said).groups ≤ 1
count_line settings number held line.Skip = omega arith
count_line settings number held (line.Plain asks) = count_command settings number held asks
count_line settings number held line.Bad = count_bad number held
count_line settings number held (line.InLane lane asks) = count_bad number held
count_line settings number held (line.Lanes lanes) = count_bad number held
count_line settings number held line.End = count_bad number held

pub count_end : (held : Option OpenBatch) → batch_count (closed held) ≤ 1
unfolding count_closed
count_end held = count_closed held

-- ANSWERS AND LINES

module _ {D : Type 0} (Tells : Type 0) (files : D → Files) where
  -- behind a text
  pub loads_behind : (text told : List ℕ) (groups : List Group) (old new : LoadStore D) → Loads Tells files groups old new [] told → Loads Tells files groups old new text (text ++ told)
  loads_behind text told groups old new loads = record {
    replies = loads.replies;
    many = loads.many;
    fit = loads.fit;
    suited = loads.suited;
    told = ap (λ (l : List ℕ). text ++ l) loads.told;
    answers = loads.answers;
  }

  pub told_none : (store : LoadStore D) (written : Option (List ℕ)) → Told Tells files Wrote [] store store written written
  told_none store written = record { text = []; loads = loads_none Tells files store store [] [] refl refl; wrote = wrote_nothing written }

  pub told_more : (groups more : List Group) (old mid new : LoadStore D) (before middle after : Option (List ℕ)) → mid.settings ≡ old.settings
      → Told Tells files Wrote groups old mid before middle → Told Tells files Wrote more mid new middle after → Told Tells files Wrote (groups ++ more) old new before after
  told_more groups more old mid new before middle after same first second = record {
    text = first.text ++ second.text;
    loads = loads_more Tells files groups more old mid new [] first.text (first.text ++ second.text) same first.loads (loads_behind first.text second.text more mid new second.loads);
    wrote = wrote_more before middle after first.text second.text first.wrote second.wrote;
  }
