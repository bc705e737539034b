use Rattle.std.proofs.Common.{◌∙◌, ℕ, ap}
use Rattle.hay_disk.specs.Shelf.{HeldDisk}
use Rattle.hay_disk_tests.proofs.folder.a_piece_outlives_its_file.Goals as goal

pub take_disk-requires : goal.take_disk-requires
take_disk-requires g c =
    ap (λ (at : ℕ → HeldDisk). (at 1).is_out) c.in_ok-arm.ensures.slots
    ∙ ap (λ (held : HeldDisk). held.is_out) (c.in_ok-shelf.ensures.disks 1)
