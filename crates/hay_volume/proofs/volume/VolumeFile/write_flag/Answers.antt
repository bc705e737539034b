use Rattle.std.proofs.Common.{◌≡◌, ◌+◌, [], ◌∷◌, arith}
use Rattle.std.proofs.Common.{ℕ, List, Some, true}
use Rattle.std.specs.List.{slice_get}
use Rattle.hay_disk.specs.Disk.{overwrite}
use Rattle.hay_needle.specs.declared.needle.Cell.{Cell}
use Rattle.hay_volume.specs.Cells.{HasPlace, IsVolume, with_flag}
use Rattle.hay_volume.proofs.FlagLaws.{byte_there, flags_place, flag_written, flag_either, on_ok, changes_there, written_there, free_there}
use Rattle.hay_volume.proofs.volume.VolumeFile.write_flag.Goals as goal

pub write_over-requires-clause-inside : goal.write_over-requires-clause-inside
write_over-requires-clause-inside g c = λ tells.
    let fits = g.met.D.Disk.fits c.args.disk.now c.args.self.now.file tells in
    let place : c.saturating_add.result ≡ c.args.at + 28 =
    flags_place c.args.at c.saturating_add.result (g.D.Disk.files c.args.disk.now c.args.self.now.file).now (c.requires.inside tells) fits c.saturating_add.ensures in
    let inside = (c.requires.inside tells) in
    omega arith

pub write_over-requires-clause-free : goal.write_over-requires-clause-free
write_over-requires-clause-free g c = λ tells k from to.
    let fits = g.met.D.Disk.fits c.args.disk.now c.args.self.now.file tells in
    let place : c.saturating_add.result ≡ c.args.at + 28 =
    flags_place c.args.at c.saturating_add.result (g.D.Disk.files c.args.disk.now c.args.self.now.file).now (c.requires.inside tells) fits c.saturating_add.ensures in
    free_there c.args.at c.saturating_add.result k (g.D.Disk.files c.args.disk.now c.args.self.now.file) place from to (c.requires.free tells)

pub returns-clause-changes : goal.returns-clause-changes
returns-clause-changes g c = λ tells.
    let fits = g.met.D.Disk.fits c.args.disk.now c.args.self.now.file tells in
    let place : c.saturating_add.result ≡ c.args.at + 28 =
    flags_place c.args.at c.saturating_add.result (g.D.Disk.files c.args.disk.now c.args.self.now.file).now (c.requires.inside tells) fits c.saturating_add.ensures in
    changes_there c.args.at c.saturating_add.result (g.D.Disk.files c.args.disk.now c.args.self.now.file) (g.D.Disk.files c.write_over.new.disk c.args.self.now.file) place
    (c.write_over.ensures.changes tells)

pub returns-clause-flagged : goal.returns-clause-flagged
returns-clause-flagged g c = λ tells.
    let fits = g.met.D.Disk.fits c.args.disk.now c.args.self.now.file tells in
    let place : c.saturating_add.result ≡ c.args.at + 28 =
    flags_place c.args.at c.saturating_add.result (g.D.Disk.files c.args.disk.now c.args.self.now.file).now (c.requires.inside tells) fits c.saturating_add.ensures in
    let old : List ℕ = (g.D.Disk.files c.args.disk.now c.args.self.now.file).now in
    let new : List ℕ = (g.D.Disk.files c.write_over.new.disk c.args.self.now.file).now in
    on_ok c.write_over.result (new ≡ overwrite c.saturating_add.result (1 ∷ []) old)
    ((superblock : List ℕ) (cells : List Cell) (end : ℕ) → IsVolume superblock old cells end → HasPlace c.args.at cells → IsVolume superblock new (with_flag c.args.at true cells) end)
    (λ written superblock cells end volume has. flag_written superblock old new cells end c.args.at (c.requires.inside tells)
    (written_there c.args.at c.saturating_add.result (1 ∷ []) old new place written) volume has)
    (c.write_over.ensures.written tells)

pub returns-clause-byte : goal.returns-clause-byte
returns-clause-byte g c = λ tells.
    let fits = g.met.D.Disk.fits c.args.disk.now c.args.self.now.file tells in
    let place : c.saturating_add.result ≡ c.args.at + 28 =
    flags_place c.args.at c.saturating_add.result (g.D.Disk.files c.args.disk.now c.args.self.now.file).now (c.requires.inside tells) fits c.saturating_add.ensures in
    let old : List ℕ = (g.D.Disk.files c.args.disk.now c.args.self.now.file).now in
    let new : List ℕ = (g.D.Disk.files c.write_over.new.disk c.args.self.now.file).now in
    on_ok c.write_over.result (new ≡ overwrite c.saturating_add.result (1 ∷ []) old) (slice_get new (c.args.at + 28) ≡ Some 1)
    (λ written. byte_there (c.args.at + 28) 1 old new (c.requires.inside tells) (written_there c.args.at c.saturating_add.result (1 ∷ []) old new place written))
    (c.write_over.ensures.written tells)

pub returns-clause-either : goal.returns-clause-either
returns-clause-either g c = λ tells superblock cells end volume has.
    let fits = g.met.D.Disk.fits c.args.disk.now c.args.self.now.file tells in
    let place : c.saturating_add.result ≡ c.args.at + 28 =
    flags_place c.args.at c.saturating_add.result (g.D.Disk.files c.args.disk.now c.args.self.now.file).now (c.requires.inside tells) fits c.saturating_add.ensures in
    flag_either superblock (g.D.Disk.files c.args.disk.now c.args.self.now.file) (g.D.Disk.files c.write_over.new.disk c.args.self.now.file) cells end c.args.at (c.requires.inside tells)
    (changes_there c.args.at c.saturating_add.result (g.D.Disk.files c.args.disk.now c.args.self.now.file) (g.D.Disk.files c.write_over.new.disk c.args.self.now.file) place
    (c.write_over.ensures.changes tells)) volume has
