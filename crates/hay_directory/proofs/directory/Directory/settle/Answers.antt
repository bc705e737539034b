use Rattle.hay_directory.specs.declared.mode.Unsure.{Unsure}
use Rattle.hay_directory.specs.declared.mode.WrittenRow.{WrittenRow}
use Rattle.hay_directory.specs.Seen.{ShowSeen, directory_seen}
use Rattle.std.proofs.Common.{subst}
use Rattle.hay_directory.proofs.SeenLaws.{settle_seen}
use Rattle.hay_directory.proofs.directory.Directory.settle.Goals as goal

pub returns-clause-seen : goal.returns-clause-seen
returns-clause-seen g c =
    let unsure : Unsure = record { tag = c.args.tag; row = record { pair = c.args.pair; volume = c.args.volume } } in
    let mid = directory_seen c.write_row.new.self in
    let new = directory_seen c.show_row.new.self in
    let wrote = c.in_ok-written.ensures in
    settle_seen unsure _ mid new wrote.seen (subst (λ (w : WrittenRow). ShowSeen w.unsure mid new) wrote.row c.show_row.ensures.seen)
