use Rattle.std.proofs.Common.{◌≤◌, length, sym, ◌∙◌, arith}
use Rattle.hay_needle.specs.declared.settings.TheConstants.{MAX_REPLICAS}
use Rattle.hay_logical.specs.Draws.{looked_pair}
use Rattle.hay_logical.proofs.Drawing.{drew_all}
use Rattle.hay_logical.proofs.Looks.{found_all, if_err_then, kept_all, left_all, on_err_now, on_ok_now, on_ok_then, opened_all, opened_open, reached_all, refused_all, thawed_all, told_all}
use Rattle.hay_logical.proofs.Through.{counts_through}
use Rattle.hay_logical.proofs.sights.open_all.Goals as goal

pub see_broken_off-requires : goal.see_broken_off-requires
see_broken_off-requires g c =
    let count = c.open_each.ensures.counts.count in
    let few = c.requires.most in record {
      most = (let most : length c.open_each.new.replicas ≤ MAX_REPLICAS = omega (arith, count, few) in most);
      width = c.open_each.ensures.width ∙ c.requires.width ∙ sym count;
      «open» = opened_open g.D.Disk.Tells g.D.Disk.files g.D.Piece.Piece.Tells c.args.replicas.now c.open_each.new.replicas c.open_each.new.rows count c.in-Ok.ensures.opened;
      reach = c.open_each.ensures.reach;
    }

pub returns-in-Ok-clause-counts : goal.returns-in-Ok-clause-counts
returns-in-Ok-clause-counts g c =
    counts_through g.D.Disk.fault_count g.D.Disk.fuse_count c.args.replicas.now c.open_each.new.replicas c.see_broken_off.new.replicas c.open_each.ensures.counts c.see_broken_off.ensures.counts

pub returns-in-Ok-clause-thawed : goal.returns-in-Ok-clause-thawed
returns-in-Ok-clause-thawed g c =
    on_err_now c.see_broken_off.result (thawed_all g.D.Disk.Tells g.D.Disk.files g.D.Piece.Piece.Tells g.D.Disk.fault_count g.D.Disk.fuse_count c.args.replicas.now
    c.open_each.new.replicas c.see_broken_off.new.replicas c.open_each.new.rows c.see_broken_off.new.rows c.open_each.ensures.counts c.see_broken_off.ensures.counts
    c.see_broken_off.ensures.looks c.in-Ok.ensures.opened)

pub returns-in-Ok-clause-opened : goal.returns-in-Ok-clause-opened
returns-in-Ok-clause-opened g c =
    on_ok_now c.see_broken_off.result (opened_all g.D.Disk.Tells g.D.Disk.files g.D.Piece.Piece.Tells g.D.Disk.fault_count g.D.Disk.fuse_count c.args.replicas.now
    c.open_each.new.replicas c.see_broken_off.new.replicas c.open_each.new.rows c.see_broken_off.new.rows c.open_each.ensures.counts c.see_broken_off.ensures.counts
    c.see_broken_off.ensures.looks c.in-Ok.ensures.opened)

pub returns-in-Ok-clause-seen : goal.returns-in-Ok-clause-seen
returns-in-Ok-clause-seen g c = λ tells.
    on_ok_then c.see_broken_off.result (found_all g.D.Disk.Tells g.D.Disk.files g.D.Piece.Piece.Tells g.D.Disk.fault_count g.D.Disk.fuse_count c.args.replicas.now
    c.open_each.new.replicas c.see_broken_off.new.replicas c.open_each.new.rows c.see_broken_off.new.rows c.open_each.ensures.counts c.see_broken_off.ensures.counts
    c.see_broken_off.ensures.looks c.in-Ok.ensures.opened tells) (c.see_broken_off.ensures.seen tells)

pub returns-in-Ok-clause-left : goal.returns-in-Ok-clause-left
returns-in-Ok-clause-left g c =
    left_all g.D.Disk.Tells g.D.Disk.files g.D.Piece.Piece.Tells g.D.Disk.fault_count g.D.Disk.fuse_count c.args.replicas.now c.open_each.new.replicas c.see_broken_off.new.replicas
    c.open_each.new.rows c.see_broken_off.new.rows c.open_each.ensures.counts c.see_broken_off.ensures.counts c.see_broken_off.ensures.looks c.open_each.ensures.left

pub returns-in-Ok-clause-kept : goal.returns-in-Ok-clause-kept
returns-in-Ok-clause-kept g c =
    λ tells. kept_all g.D.Disk.Tells g.D.Disk.files g.D.Piece.Piece.Tells g.D.Disk.fault_count g.D.Disk.fuse_count c.args.replicas.now c.open_each.new.replicas
    c.see_broken_off.new.replicas c.open_each.new.rows c.see_broken_off.new.rows c.open_each.ensures.counts c.see_broken_off.ensures.counts c.see_broken_off.ensures.looks tells
    (c.open_each.ensures.kept tells)

pub returns-in-Ok-clause-reach : goal.returns-in-Ok-clause-reach
returns-in-Ok-clause-reach g c =
    reached_all g.D.Disk.Tells g.D.Disk.files g.D.Piece.Piece.Tells g.D.Disk.fault_count g.D.Disk.fuse_count c.args.replicas.now c.open_each.new.replicas
    c.see_broken_off.new.replicas c.open_each.new.rows c.see_broken_off.new.rows c.open_each.ensures.counts c.see_broken_off.ensures.counts c.see_broken_off.ensures.looks c.open_each.ensures.reach

pub returns-in-Ok-clause-refused : goal.returns-in-Ok-clause-refused
returns-in-Ok-clause-refused g c =
    if_err_then c.see_broken_off.result (refused_all g.D.Disk.Tells g.D.Disk.files g.D.Piece.Piece.Tells g.D.Disk.fault_count g.D.Disk.fuse_count c.args.replicas.now
    c.open_each.new.replicas c.see_broken_off.new.replicas c.open_each.new.rows c.see_broken_off.new.rows c.open_each.ensures.counts c.see_broken_off.ensures.counts
    c.see_broken_off.ensures.looks c.in-Ok.ensures.opened) c.see_broken_off.ensures.refused

pub returns-in-Ok-clause-drew : goal.returns-in-Ok-clause-drew
returns-in-Ok-clause-drew g c = λ tells.
    on_ok_now c.see_broken_off.result
    (drew_all g.D.Disk.files g.D.Disk.drawn c.open_each.new.rows g.D.Disk.Tells g.D.Disk.fault_count g.D.Disk.fuse_count (looked_pair c.args.unsure.now) c.args.replicas.now
    c.open_each.new.replicas c.see_broken_off.new.replicas c.see_broken_off.new.rows tells
    c.open_each.ensures.counts c.see_broken_off.ensures.looks (c.in-Ok.ensures.drew tells) (c.see_broken_off.ensures.drawn tells))

pub returns-in-Ok-clause-told : goal.returns-in-Ok-clause-told
returns-in-Ok-clause-told g c = λ tells.
    on_ok_then c.see_broken_off.result
    (told_all g.D.Disk.Tells g.D.Disk.files g.D.Piece.Piece.Tells g.D.Disk.fault_count g.D.Disk.fuse_count c.args.replicas.now c.open_each.new.replicas
    c.see_broken_off.new.replicas c.open_each.new.rows c.see_broken_off.new.rows c.open_each.ensures.counts
    c.see_broken_off.ensures.counts c.see_broken_off.ensures.looks c.in-Ok.ensures.opened tells c.args.unsure.now)
    (c.see_broken_off.ensures.told tells)
