use Rattle.std.proofs.Common.{◌≡◌, ◌≤◌, ◌<◌, ◌++◌, ◌∷◌, [], inl, inr, None, Some, Err, List, refl, sym, ap, subst, ◌∙◌, append-nil, length}
use Rattle.hay_needle.specs.declared.settings.Settings.{Settings}
use Rattle.hay_front.specs.declared.front.Tag.{Tag}
use Rattle.hay_meeting.specs.declared.act.DirAct.{DirAct}
use Rattle.hay_meeting.specs.Acts.{row_did_of, row_lock}
use Rattle.hay_meeting.specs.Locks.{entries}
use Rattle.hay_directory.specs.declared.fault.DirFault.{DirFault}
use Rattle.hay_directory.specs.declared.mode.WrittenRow.{WrittenRow}
use Rattle.hay_directory.specs.Homes.{SetsHome}
use Rattle.hay_directory.specs.Rows.{home_row}
use Rattle.hay_directory.specs.State.{IsRowWritten, LeavesMode, Stands, home_of, is_frozen}
use Rattle.hay_views.proofs.HomeLaw.{may_publish}
use Rattle.hay_directory_lock.specs.Standing.{HomeFront}
use Rattle.hay_directory_lock.proofs.Acting.{added, pended, tried}
use Rattle.hay_directory_lock.proofs.Answering.{failed_in, found_home, not_true, published}
use Rattle.hay_meeting.specs.declared.act.DirDid.TheVariants as did
use Rattle.hay_directory_lock.proofs.Unfused.{one_unfused}
use Rattle.hay_directory_lock.proofs.kept.KeptDirectory.settle.Goals as goal

pub returns-in-Some-clause-settles : goal.returns-in-Some-clause-settles
returns-in-Some-clause-settles g c = λ start begun acts k at.
    let files = g.D.Disk.files in let faults = g.D.Disk.fault_count in let fuses = g.D.Disk.fuse_count in (
      published g.D.Disk.Tells files faults fuses acts _ _ c.front.result k c.front.ensures.counted ∙ ap (λ (l : List DirAct). length (entries row_lock l)) (sym (append-nil acts)),
      inl (refl, found_home g.D.Disk.Tells files faults fuses start at acts _ _ c.args.row.pair (Some c.in-Some.home) k (sym c.in-Some.ensures.kept)),
    )

pub returns-in-Err-NoMemory-clause-kept : goal.returns-in-Err-NoMemory-clause-kept
returns-in-Err-NoMemory-clause-kept g c = λ begun acts k.
    let wrote = c.in-Err-NoMemory.ensures in
    let modes = subst (λ (e : DirFault). LeavesMode (record { tag = c.args.tag; row = c.args.row }) c.args.self.now.directory.mode c.write_row.new.self.mode e)
    c.in-Err-NoMemory.field-0-is wrote.refused_mode in
    tried g.D.Disk.Tells g.D.Disk.files g.D.Disk.fault_count g.D.Disk.fuse_count k c.args.tag c.of-act.result c.write_row.new.self c.of-act.ensures wrote.settings
    (λ known drained tells stands. wrote.no_memory tells known drained stands (ap Err c.in-Err-NoMemory.field-0-is)) wrote.homes wrote.drained modes wrote.later wrote.fuses

pub returns-in-Err-Failed-clause-kept : goal.returns-in-Err-Failed-clause-kept
returns-in-Err-Failed-clause-kept g c = λ begun acts k.
    let wrote = c.in-Err-Failed.ensures in
    let modes = subst (λ (e : DirFault). LeavesMode (record { tag = c.args.tag; row = c.args.row }) c.args.self.now.directory.mode c.write_row.new.self.mode e) c.in-Err-Failed.field-0-is
    wrote.refused_mode in
    let thawed = not_true (is_frozen c.args.self.now.directory.mode) (λ frozen. absurd (cc (wrote.frozen frozen, c.in-Err-Failed.field-0-is))) in
    let homeless : home_of c.args.self.now.directory c.args.row.pair ≡ None = sym c.in_default.ensures.kept in
    pended g.D.Disk.Tells g.D.Disk.files g.D.Disk.fault_count g.D.Disk.fuse_count k c.args.tag c.of-act-in-Err-Failed.result c.write_row.new.self (home_row c.args.row) c.args.self.now.front
    c.of-act-in-Err-Failed.ensures wrote.settings (λ known drained tells stands. wrote.pending tells known drained c.in-Err-Failed.faults stands (ap Err c.in-Err-Failed.field-0-is))
    wrote.homes wrote.drained modes wrote.later wrote.fuses thawed homeless refl refl

pub returns-in-Err-Failed-clause-settles : goal.returns-in-Err-Failed-clause-settles
returns-in-Err-Failed-clause-settles g c = λ start begun acts k at.
    let wrote = c.in-Err-Failed.ensures in
    let failed = wrote.failed c.in-Err-Failed.faults (ap Err c.in-Err-Failed.field-0-is) in
    let told = failed_in g.D.Disk.Tells g.D.Disk.files g.D.Disk.fault_count g.D.Disk.fuse_count start at acts c.of-act-in-Err-Failed.result c.args.self.now.directory c.write_row.new.self
    c.args.self.now.front c.args.self.now.front c.in-Err-Failed.faults k (returns-in-Err-Failed-clause-kept g c begun acts k) failed.0 failed.1 in (
      ap (λ (a : DirAct). row_did_of a.did) c.of-act-in-Err-Failed.ensures,
      (told.0, c.in-Err-Failed.faults-is ∙ told.1),
    )

pub publish-requires-clause-fact : goal.publish-requires-clause-fact
publish-requires-clause-fact g c =
    let k = c.requires.kept.2 in
    let below = subst (λ n. c.args.row.volume < n) (sym (k.from).volumes) (subst (λ (s : Settings). c.args.row.volume < s.volumes) (k.of).settings c.requires.volume) in
    λ m b is. may_publish c.args.self.now.front.shown (k.from).homes (home_row c.args.row) (k.base ∙ (k.from).base) c.show_all.ensures.fact below m b is

pub returns-in_default-publish-clause-kept : goal.returns-in_default-publish-clause-kept
returns-in_default-publish-clause-kept g c = λ begun acts k.
    let wrote = c.in-Ok.ensures in
    let thawed = not_true (is_frozen c.args.self.now.directory.mode) (λ frozen. absurd (cc (wrote.frozen frozen))) in
    let homeless : home_of c.args.self.now.directory c.args.row.pair ≡ None = sym c.in_default.ensures.kept in
    pended g.D.Disk.Tells g.D.Disk.files g.D.Disk.fault_count g.D.Disk.fuse_count k c.args.tag c.of-act-in_default-publish.result c.write_row.new.self (home_row c.args.row) c.publish.new.self
    c.of-act-in_default-publish.ensures wrote.settings (λ known drained tells stands. wrote.given_up tells known drained stands) wrote.homes wrote.drained wrote.unshown.mode wrote.later
    wrote.fuses thawed homeless
    (ap (λ (f : HomeFront). f.shown) c.in_default-publish.ensures.refused) (ap (λ (f : HomeFront). f.log) c.in_default-publish.ensures.refused)

pub returns-clause-kept : goal.returns-clause-kept
returns-clause-kept g c = λ begun acts k.
    let files = g.D.Disk.files in
    let wrote = c.in-Ok.ensures in
    let shown = c.show_row.ensures in
    let done = c.in-Ok-publish.ensures.done.0 in
    let thawed = not_true (is_frozen c.args.self.now.directory.mode) (λ frozen. absurd (cc (wrote.frozen frozen))) in
    let homeless : home_of c.args.self.now.directory c.args.row.pair ≡ None = sym c.in_default.ensures.kept in
    let set = subst (λ (w : WrittenRow). SetsHome w.unsure.row.pair (Some w.unsure.row.volume) c.write_row.new.self.homes c.show_row.new.self.homes) wrote.row shown.home in
    added g.D.Disk.Tells files g.D.Disk.fault_count g.D.Disk.fuse_count k c.args.tag c.of-act-2.result c.show_row.new.self (home_row c.args.row) c.publish.new.self
    c.of-act-2.ensures (shown.settings ∙ wrote.settings)
    (λ known drained tells stands. subst (λ (w : WrittenRow). Stands files c.show_row.new.self (record known { rows = known.rows ++ home_row w.unsure.row ∷ [] }) drained) wrote.row
    (shown.shown tells known drained (subst (λ (w : WrittenRow). IsRowWritten files c.write_row.new.self known drained (home_row w.unsure.row)) (sym wrote.row)
    (wrote.written tells known drained stands))))
    c.write_row.new.self.homes wrote.homes set (shown.drained ∙ wrote.drained) shown.serves
    (subst (λ n. g.D.Disk.fault_count c.args.self.now.directory.disk ≤ n) (sym (ap g.D.Disk.fault_count shown.disk)) wrote.later) (ap g.D.Disk.fuse_count shown.disk ∙ wrote.fuses) thawed homeless
    (ap (λ (f : HomeFront). f.shown) done) (ap (λ (f : HomeFront). f.log) done
    ∙ ap (λ (tag : Tag). c.args.self.now.front.log ++ record { tag = tag; deed = home_row c.args.row } ∷ []) c.front_tag.ensures) (ap (λ (f : HomeFront). f.closed) done)

pub returns-clause-settles : goal.returns-clause-settles
returns-clause-settles g c = λ start begun acts k at.
    let files = g.D.Disk.files in let faults = g.D.Disk.fault_count in let fuses = g.D.Disk.fuse_count in
    let homeless : home_of c.args.self.now.directory c.args.row.pair ≡ None = sym c.in_default.ensures.kept in (
      published g.D.Disk.Tells files faults fuses (acts ++ c.of-act-2.result ∷ []) _ _ c.front-2.result (returns-clause-kept g c begun acts k) c.front-2.ensures.counted,
      inr (refl, ap (λ (a : DirAct). row_did_of a.did) c.of-act-2.ensures, found_home g.D.Disk.Tells files faults fuses start at acts _ _ c.args.row.pair None k homeless),
    )

pub returns-in-Err-NoMemory-clause-unfused : goal.returns-in-Err-NoMemory-clause-unfused
returns-in-Err-NoMemory-clause-unfused g c = one_unfused did.TriesRow c.of-act.result (λ e. cc e) (ap (λ (a : DirAct). a.did) c.of-act.ensures)

pub returns-in-Err-Failed-clause-unfused : goal.returns-in-Err-Failed-clause-unfused
returns-in-Err-Failed-clause-unfused g c = one_unfused (did.PendsRow (home_row c.args.row)) c.of-act-in-Err-Failed.result (λ e. cc e) (ap (λ (a : DirAct). a.did) c.of-act-in-Err-Failed.ensures)

pub returns-in_default-publish-clause-unfused : goal.returns-in_default-publish-clause-unfused
returns-in_default-publish-clause-unfused g c =
    one_unfused (did.PendsRow (home_row c.args.row)) c.of-act-in_default-publish.result (λ e. cc e) (ap (λ (a : DirAct). a.did) c.of-act-in_default-publish.ensures)

pub returns-clause-unfused : goal.returns-clause-unfused
returns-clause-unfused g c = one_unfused (did.AddsRow (home_row c.args.row)) c.of-act-2.result (λ e. cc e) (ap (λ (a : DirAct). a.did) c.of-act-2.ensures)
