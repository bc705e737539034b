use Rattle.std.proofs.Common.{inl, ◌∙◌}
use Rattle.hay_disk.proofs.Steps.{changes_keeps}
use Rattle.hay_disk.proofs.Gates.{behind_is, closed_behind, whole_or_closed, body_changes, magic_changes, magic_stands}
use Rattle.hay_disk.proofs.Logs.{gate_next, log_grows, log_stays, not_mark}
use Rattle.hay_disk.proofs.gate.gate_append.Goals as goal

-- until the body is on the disk there is no magic

pub returns-in_err-write-clause-whole : goal.returns-in_err-write-clause-whole
returns-in_err-write-clause-whole g c = λ tells image is.
    let fits = g.met.D.Disk.fits c.args.disk.now c.args.file tells in
    let place = behind_is _ _ _ _ (c.requires.gate tells) fits c.saturating_add-behind.ensures in
    inl (closed_behind _ _ _ _ _ _ image place (c.requires.gate tells) (c.write.ensures.changes tells) is)

pub returns-in_err-write-clause-changes : goal.returns-in_err-write-clause-changes
returns-in_err-write-clause-changes g c = λ tells.
    let fits = g.met.D.Disk.fits c.args.disk.now c.args.file tells in
    let place = behind_is _ _ _ _ (c.requires.gate tells) fits c.saturating_add-behind.ensures in
    body_changes _ _ _ _ _ place (c.write.ensures.changes tells)

pub returns-in_err-write-clause-stays : goal.returns-in_err-write-clause-stays
returns-in_err-write-clause-stays g c = λ tells some.
    log_stays _ _ _ _ _ _ c.ranges.magic.fits some (returns-in_err-write-clause-changes g c tells) (returns-in_err-write-clause-whole g c tells)

pub returns-in_err-sync-clause-whole : goal.returns-in_err-sync-clause-whole
returns-in_err-sync-clause-whole g c = λ tells image is.
    let fits = g.met.D.Disk.fits c.args.disk.now c.args.file tells in
    let place = behind_is _ _ _ _ (c.requires.gate tells) fits c.saturating_add-behind.ensures in
    inl (closed_behind _ _ _ _ _ _ image place (c.requires.gate tells) (changes_keeps _ _ _ _ _ (c.write.ensures.changes tells) (c.sync.ensures.keeps tells)) is)

pub returns-in_err-sync-clause-changes : goal.returns-in_err-sync-clause-changes
returns-in_err-sync-clause-changes g c = λ tells.
    let fits = g.met.D.Disk.fits c.args.disk.now c.args.file tells in
    let place = behind_is _ _ _ _ (c.requires.gate tells) fits c.saturating_add-behind.ensures in
    body_changes _ _ _ _ _ place (changes_keeps _ _ _ _ _ (c.write.ensures.changes tells) (c.sync.ensures.keeps tells))

pub returns-in_err-sync-clause-stays : goal.returns-in_err-sync-clause-stays
returns-in_err-sync-clause-stays g c = λ tells some.
    log_stays _ _ _ _ _ _ c.ranges.magic.fits some (returns-in_err-sync-clause-changes g c tells) (returns-in_err-sync-clause-whole g c tells)

-- then the record stands or not

pub returns-in_err-write-2-clause-whole : goal.returns-in_err-write-2-clause-whole
returns-in_err-write-2-clause-whole g c = λ tells image is.
    let fits = g.met.D.Disk.fits c.args.disk.now c.args.file tells in
    let place = behind_is _ _ _ _ (c.requires.gate tells) fits c.saturating_add-behind.ensures in
    whole_or_closed _ _ _ _ _ _ _ _ image place (c.requires.gate tells) c.requires.mark ((c.sync.ensures.keeps tells).now ∙ c.in_ok-write.ensures.written tells)
    (c.in_ok-sync.ensures.solid tells) c.to_be_bytes.ensures (c.write-2.ensures.changes tells) is

pub returns-in_err-write-2-clause-changes : goal.returns-in_err-write-2-clause-changes
returns-in_err-write-2-clause-changes g c = λ tells.
    let fits = g.met.D.Disk.fits c.args.disk.now c.args.file tells in
    let place = behind_is _ _ _ _ (c.requires.gate tells) fits c.saturating_add-behind.ensures in
    magic_changes _ _ _ _ _ _ _ _ place c.to_be_bytes.ensures (changes_keeps _ _ _ _ _ (c.write.ensures.changes tells) (c.sync.ensures.keeps tells)) (c.write-2.ensures.changes tells)

pub returns-in_err-write-2-clause-stays : goal.returns-in_err-write-2-clause-stays
returns-in_err-write-2-clause-stays g c = λ tells some.
    log_stays _ _ _ _ _ _ c.ranges.magic.fits some (returns-in_err-write-2-clause-changes g c tells) (returns-in_err-write-2-clause-whole g c tells)

pub returns-in_err-sync-2-clause-whole : goal.returns-in_err-sync-2-clause-whole
returns-in_err-sync-2-clause-whole g c = λ tells image is.
    let fits = g.met.D.Disk.fits c.args.disk.now c.args.file tells in
    let place = behind_is _ _ _ _ (c.requires.gate tells) fits c.saturating_add-behind.ensures in
    whole_or_closed _ _ _ _ _ _ _ _ image place (c.requires.gate tells) c.requires.mark ((c.sync.ensures.keeps tells).now ∙ c.in_ok-write.ensures.written tells)
    (c.in_ok-sync.ensures.solid tells) c.to_be_bytes.ensures (changes_keeps _ _ _ _ _ (c.write-2.ensures.changes tells) (c.sync-2.ensures.keeps tells)) is

pub returns-in_err-sync-2-clause-changes : goal.returns-in_err-sync-2-clause-changes
returns-in_err-sync-2-clause-changes g c = λ tells.
    let fits = g.met.D.Disk.fits c.args.disk.now c.args.file tells in
    let place = behind_is _ _ _ _ (c.requires.gate tells) fits c.saturating_add-behind.ensures in
    magic_changes _ _ _ _ _ _ _ _ place c.to_be_bytes.ensures (changes_keeps _ _ _ _ _ (c.write.ensures.changes tells) (c.sync.ensures.keeps tells))
    (changes_keeps _ _ _ _ _ (c.write-2.ensures.changes tells) (c.sync-2.ensures.keeps tells))

pub returns-in_err-sync-2-clause-stays : goal.returns-in_err-sync-2-clause-stays
returns-in_err-sync-2-clause-stays g c = λ tells some.
    log_stays _ _ _ _ _ _ c.ranges.magic.fits some (returns-in_err-sync-2-clause-changes g c tells) (returns-in_err-sync-2-clause-whole g c tells)

-- and in the end it stands

pub returns-clause-whole : goal.returns-clause-whole
returns-clause-whole g c = λ tells image is.
    let fits = g.met.D.Disk.fits c.args.disk.now c.args.file tells in
    let place = behind_is _ _ _ _ (c.requires.gate tells) fits c.saturating_add-behind.ensures in
    whole_or_closed _ _ _ _ _ _ _ _ image place (c.requires.gate tells) c.requires.mark ((c.sync.ensures.keeps tells).now ∙ c.in_ok-write.ensures.written tells)
    (c.in_ok-sync.ensures.solid tells) c.to_be_bytes.ensures (changes_keeps _ _ _ _ _ (c.write-2.ensures.changes tells) (c.sync-2.ensures.keeps tells)) is

pub returns-clause-changes : goal.returns-clause-changes
returns-clause-changes g c = λ tells.
    let fits = g.met.D.Disk.fits c.args.disk.now c.args.file tells in
    let place = behind_is _ _ _ _ (c.requires.gate tells) fits c.saturating_add-behind.ensures in
    magic_changes _ _ _ _ _ _ _ _ place c.to_be_bytes.ensures (changes_keeps _ _ _ _ _ (c.write.ensures.changes tells) (c.sync.ensures.keeps tells))
    (changes_keeps _ _ _ _ _ (c.write-2.ensures.changes tells) (c.sync-2.ensures.keeps tells))

pub returns-clause-stays : goal.returns-clause-stays
returns-clause-stays g c = λ tells some.
    log_stays _ _ _ _ _ _ c.ranges.magic.fits some (returns-clause-changes g c tells) (returns-clause-whole g c tells)

pub returns-clause-stands : goal.returns-clause-stands
returns-clause-stands g c = λ tells.
    let fits = g.met.D.Disk.fits c.args.disk.now c.args.file tells in
    let place = behind_is _ _ _ _ (c.requires.gate tells) fits c.saturating_add-behind.ensures in
    magic_stands _ _ _ _ _ _ _ _ place (c.requires.gate tells).closed.room ((c.sync.ensures.keeps tells).now ∙ c.in_ok-write.ensures.written tells) c.to_be_bytes.ensures
    ((c.sync-2.ensures.keeps tells).now ∙ c.in_ok-write-2.ensures.written tells)

pub returns-clause-grows : goal.returns-clause-grows
returns-clause-grows g c = λ tells some. log_grows _ _ _ _ _ c.ranges.magic.fits some (returns-clause-stands g c tells)

pub returns-clause-next : goal.returns-clause-next
returns-clause-next g c = λ tells some.
    gate_next _ _ _ _ _ _ (c.requires.gate tells) (not_mark _ c.ranges.magic.fits some) c.requires.mark (returns-clause-stands g c tells) (c.in_ok-sync-2.ensures.solid tells)
    (returns-clause-changes g c tells)
