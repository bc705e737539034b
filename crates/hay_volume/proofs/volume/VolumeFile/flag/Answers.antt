use Rattle.std.proofs.Common.{◌+◌, ◌∙◌, ap, sym, subst, List, ℕ, true, arith}
use Rattle.std.specs.List.{slice_get}
use Rattle.hay_needle.specs.Needle.{needle_magic}
use Rattle.hay_disk.proofs.Steps.{changes_keeps}
use Rattle.hay_disk.proofs.Logs.{gate_changes}
use Rattle.hay_volume.specs.Cells.{IsVolume, with_flag}
use Rattle.hay_volume.proofs.FlagLaws.{flag_left}
use Rattle.hay_volume.proofs.volume.VolumeFile.flag.Goals as goal

pub returns-in_err-write_flag-clause-left : goal.returns-in_err-write_flag-clause-left
returns-in_err-write_flag-clause-left g c = λ tells superblock cells end image volume has solid leaves.
    flag_left superblock (g.D.Disk.files c.args.disk.now c.args.self.now.file) (g.D.Disk.files c.write_flag.new.disk c.args.self.now.file) image cells end c.args.at
    (c.requires.inside tells) solid (c.write_flag.ensures.changes tells) leaves volume has

pub returns-in_err-write_flag-clause-gate : goal.returns-in_err-write_flag-clause-gate
returns-in_err-write_flag-clause-gate g c = λ tells end low gate.
    gate_changes needle_magic end (c.args.at + 28) 1 (g.D.Disk.files c.args.disk.now c.args.self.now.file) (g.D.Disk.files c.write_flag.new.disk c.args.self.now.file) (omega arith)
    gate (c.write_flag.ensures.changes tells)

pub returns-in_err-sync-clause-left : goal.returns-in_err-sync-clause-left
returns-in_err-sync-clause-left g c = λ tells superblock cells end image volume has solid leaves.
    flag_left superblock (g.D.Disk.files c.args.disk.now c.args.self.now.file) (g.D.Disk.files c.sync.new.self c.args.self.now.file) image cells end c.args.at (c.requires.inside tells) solid
    (changes_keeps (c.args.at + 28) 1 (g.D.Disk.files c.args.disk.now c.args.self.now.file) (g.D.Disk.files c.write_flag.new.disk c.args.self.now.file)
    (g.D.Disk.files c.sync.new.self c.args.self.now.file) (c.write_flag.ensures.changes tells) (c.sync.ensures.keeps tells)) leaves volume has

pub returns-in_err-sync-clause-gate : goal.returns-in_err-sync-clause-gate
returns-in_err-sync-clause-gate g c = λ tells end low gate.
    gate_changes needle_magic end (c.args.at + 28) 1 (g.D.Disk.files c.args.disk.now c.args.self.now.file) (g.D.Disk.files c.sync.new.self c.args.self.now.file) (omega arith) gate
    (changes_keeps (c.args.at + 28) 1 (g.D.Disk.files c.args.disk.now c.args.self.now.file) (g.D.Disk.files c.write_flag.new.disk c.args.self.now.file)
    (g.D.Disk.files c.sync.new.self c.args.self.now.file) (c.write_flag.ensures.changes tells) (c.sync.ensures.keeps tells))

pub returns-in_err-sync-clause-changes : goal.returns-in_err-sync-clause-changes
returns-in_err-sync-clause-changes g c = λ tells.
    changes_keeps (c.args.at + 28) 1 (g.D.Disk.files c.args.disk.now c.args.self.now.file) (g.D.Disk.files c.write_flag.new.disk c.args.self.now.file)
    (g.D.Disk.files c.sync.new.self c.args.self.now.file) (c.write_flag.ensures.changes tells) (c.sync.ensures.keeps tells)

pub returns-clause-left : goal.returns-clause-left
returns-clause-left g c = λ tells superblock cells end image volume has solid leaves.
    flag_left superblock (g.D.Disk.files c.args.disk.now c.args.self.now.file) (g.D.Disk.files c.sync.new.self c.args.self.now.file) image cells end c.args.at (c.requires.inside tells) solid
    (changes_keeps (c.args.at + 28) 1 (g.D.Disk.files c.args.disk.now c.args.self.now.file) (g.D.Disk.files c.write_flag.new.disk c.args.self.now.file)
    (g.D.Disk.files c.sync.new.self c.args.self.now.file) (c.write_flag.ensures.changes tells) (c.sync.ensures.keeps tells)) leaves volume has

pub returns-clause-gate : goal.returns-clause-gate
returns-clause-gate g c = λ tells end low gate.
    gate_changes needle_magic end (c.args.at + 28) 1 (g.D.Disk.files c.args.disk.now c.args.self.now.file) (g.D.Disk.files c.sync.new.self c.args.self.now.file) (omega arith) gate
    (changes_keeps (c.args.at + 28) 1 (g.D.Disk.files c.args.disk.now c.args.self.now.file) (g.D.Disk.files c.write_flag.new.disk c.args.self.now.file)
    (g.D.Disk.files c.sync.new.self c.args.self.now.file) (c.write_flag.ensures.changes tells) (c.sync.ensures.keeps tells))

pub returns-clause-changes : goal.returns-clause-changes
returns-clause-changes g c = λ tells.
    changes_keeps (c.args.at + 28) 1 (g.D.Disk.files c.args.disk.now c.args.self.now.file) (g.D.Disk.files c.write_flag.new.disk c.args.self.now.file)
    (g.D.Disk.files c.sync.new.self c.args.self.now.file) (c.write_flag.ensures.changes tells) (c.sync.ensures.keeps tells)

pub returns-clause-flagged : goal.returns-clause-flagged
returns-clause-flagged g c = λ tells superblock cells end volume has.
    subst (λ (l : List ℕ). IsVolume superblock l (with_flag c.args.at true cells) end) (sym (c.sync.ensures.keeps tells).now) (c.in_ok-write_flag.ensures.flagged tells superblock cells end volume has)

pub returns-clause-byte : goal.returns-clause-byte
returns-clause-byte g c = λ tells.
    ap (λ (l : List ℕ). slice_get l (c.args.at + 28)) (c.sync.ensures.keeps tells).now ∙ c.in_ok-write_flag.ensures.byte tells
