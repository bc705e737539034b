use Rattle.std.proofs.Common.{◌∙◌, ℕ, ap, rules}
use Rattle.hay_disk.specs.Shelf.{HeldDisk}
use Rattle.hay_disk_tests.proofs.folder.a_disk_that_is_out_is_refused.Goals as goal

pub take_disk-requires-4 : goal.take_disk-requires-4
take_disk-requires-4 g c =
    ap (λ (held : HeldDisk). held.is_out) (c.in_ok-other.ensures.others 1 (λ e. cc))
    ∙ ap (λ (at : ℕ → HeldDisk). (at 1).is_out) (c.in-Err.ensures.refused (search rules))
    ∙ ap (λ (held : HeldDisk). held.is_out) (c.in_ok-second.ensures.disks 1)
