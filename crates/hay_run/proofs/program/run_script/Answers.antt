use Rattle.std.proofs.Common.{◌≡◌, ◌<◌, ◌++◌, Some, List, [], ℕ, length, map, refl, sym, ap, subst, ◌∙◌, arith, inl, inr}
use Rattle.std.specs.Prelude.{Bool, Err, Option, slice_index, Result}
use Rattle.std.proofs.lemmas.List.{length-map}
use Rattle.std.proofs.lemmas.Result.{on_ok_weaker, err_from_is_err_and}
use Rattle.hay_needle.specs.declared.settings.Settings.{Settings}
use Rattle.hay_mount.specs.Mounts.{AreIn, AreOut, SameFrom}
use Rattle.hay_disk.specs.Shelf.{HeldDisk}
use Rattle.hay_disk.specs.Streams.{Wrote, WrotePart}
use Rattle.hay_reply.specs.Replies.{header_line, note_line}
use Rattle.hay_legal.specs.declared.known.Known.{Known}
use Rattle.hay_legal.specs.Known.{disk_count}
use Rattle.hay_legal.specs.Stands.{Contents, StandsOn}
use Rattle.hay_directory.specs.Rows.{OpensRows}
use Rattle.hay_logical.specs.Fits.{IsReplica}
use Rattle.hay_cluster.specs.Draws.{EachDrewLittle, FlushedDrewLittle, no_look}
use Rattle.hay_cluster.specs.Outside.{outside_of, read_of}
use Rattle.hay_cluster.specs.State.{Stands, Holds}
use Rattle.hay_cluster.specs.Store.{disks_of}
use Rattle.hay_cluster.proofs.GivenDraws.{given_drew, given_flushed}
use Rattle.hay_cluster.proofs.Standing.{stands_holds}
use Rattle.hay_run.specs.declared.stops.Stop.TheVariants as stop
use Rattle.hay_run.specs.Runs.{RanTo}
use Rattle.hay_run.specs.Stops.{ending_of}
use Rattle.hay_run.specs.Turns.{Serves, ServedUntil}
use Rattle.hay_legal.specs.Statuses.{Ending, read_contents}
use Rattle.hay_run.specs.Causing.{AllCaused, BeginsAt, CausedRun, CausedUntil, EndsAt, Tally, tally_of, ending_in}
use Rattle.hay_run.specs.Draws.{drawn_of}
use Rattle.hay_run.proofs.Caused.{all_caused, by_outcome, refused_caused, until_caused, header_caused}
use Rattle.hay_run.proofs.Counting.{NoneFalls-at, arm_there, count_at, lane_of, sure_at}
use Rattle.hay_run.proofs.Drawing.{nothing_asked, nothing_done}
use Rattle.hay_run.proofs.Fuses.{all_at, run_keeps, run_unfused, same_kept}
use Rattle.hay_run.proofs.Giving.{given_formatted, same_more}
use Rattle.hay_run.proofs.Ran.{ran_all, ran_stopped}
use Rattle.hay_run.proofs.Refusing.{cause_of, none_opened, not_read, on_ok_both, ran_unopened, refused_later, behind_header, ran_unwritten}
use Rattle.hay_run.proofs.Unread.{was_read}
use Rattle.hay_run.specs.declared.stops.Stop.{Stop}
use Rattle.hay_run.proofs.Turning.{appends_more}
use Rattle.hay_run.proofs.program.run_script.Goals as goal

-- what is lent is taken back

pub close-requires-clause-disks_out : goal.close-requires-clause-disks_out
close-requires-clause-disks_out g c =
    let is_settings = c.serve-cluster.ensures.settings ∙ c.in-Ok.ensures.settings in
    let P : Settings → Type 0 = λ s. AreOut (disk_count s) (g.H.Shelf.disks c.open.new.shelf) in
    subst P (sym is_settings) c.in-Ok.ensures.disks_out

pub returns-clause-disks_back : goal.returns-clause-disks_back
returns-clause-disks_back g c =
    let is_settings = c.serve-cluster.ensures.settings ∙ c.in-Ok.ensures.settings in
    let P : Settings → Type 0 = λ s. AreIn (disk_count s) (g.H.Shelf.disks c.close.new.shelf) in
    subst P is_settings c.close.ensures.disks_back

pub returns-clause-other_slots : goal.returns-clause-other_slots
returns-clause-other_slots g c =
    let is_settings = c.serve-cluster.ensures.settings ∙ c.in-Ok.ensures.settings in
    let P : Settings → Type 0 = λ s. SameFrom (disk_count s) (g.H.Shelf.disks c.open.new.shelf) (g.H.Shelf.disks c.close.new.shelf) in
    same_more (disk_count c.args.settings) (g.H.Shelf.disks c.args.shelf.now) (g.H.Shelf.disks c.open.new.shelf) (g.H.Shelf.disks c.close.new.shelf)
    c.in-Ok.ensures.other_slots (subst P is_settings c.close.ensures.other_slots)

pub returns-clause-other_lanes : goal.returns-clause-other_lanes
returns-clause-other_lanes g c =
    same_more 8 (g.H.Shelf.arms c.args.shelf.now) (g.H.Shelf.arms c.open.new.shelf) (g.H.Shelf.arms c.close.new.shelf) c.in-Ok.ensures.other_lanes c.close.ensures.other_lanes

pub returns-clause-faults : goal.returns-clause-faults
returns-clause-faults g c = λ slot within.
    let D = g.H.Disk.Disk in
    let is_settings = c.serve-cluster.ensures.settings ∙ c.in-Ok.ensures.settings in
    let P : Settings → Type 0 = λ s. slot < disk_count s in
    let first = (c.in-Ok.ensures.counts slot within).faults_rise in
    let later = NoneFalls-at (map D.fault_count (disks_of c.in-Ok.cluster)) (map D.fault_count (disks_of c.serve-cluster.result.0)) slot c.serve-cluster.ensures.faults in
    let last = c.close.ensures.fault_counts slot (subst P (sym is_settings) within) in omega (arith, first, later, last)

pub returns-clause-fuses : goal.returns-clause-fuses
returns-clause-fuses g c = λ slot within.
    let D = g.H.Disk.Disk in
    let A = g.H.Arm.Arm in
    let old = tally_of D.files D.drawn D.fault_count D.fuse_count A.fault_count A.is_sure c.in-Ok.cluster in
    let new = tally_of D.files D.drawn D.fault_count D.fuse_count A.fault_count A.is_sure c.serve-cluster.result.0 in
    let is_settings = c.serve-cluster.ensures.settings ∙ c.in-Ok.ensures.settings in
    let first : slice_index old.fuses slot ≡ (g.H.Shelf.disks c.args.shelf.now slot).fuse_count = (c.in-Ok.ensures.counts slot within).fuses_are in
    let last = c.close.ensures.fuse_counts slot (subst (λ (s : Settings). slot < disk_count s) (sym is_settings) within) in
    let kept =
    run_keeps D.Tells c.in-Ok.cluster.settings old new (g.S.Source.left c.args.source.now) (g.K.Sink.written c.write_header.new.sink) (g.S.Source.left c.serve-cluster.new.source)
    (g.K.Sink.written c.serve-cluster.new.sink) c.serve-cluster.result.1 c.serve-cluster.ensures.caused c.serve-cluster.ensures.stop_caused in
    rw (last, ← first) (all_at old.fuses new.fuses slot kept)

pub returns-clause-unfused : goal.returns-clause-unfused
returns-clause-unfused g c = λ asks slot within.
    let D = g.H.Disk.Disk in
    let A = g.H.Arm.Arm in
    let old = tally_of D.files D.drawn D.fault_count D.fuse_count A.fault_count A.is_sure c.in-Ok.cluster in
    let new = tally_of D.files D.drawn D.fault_count D.fuse_count A.fault_count A.is_sure c.serve-cluster.result.0 in
    let is_settings = c.serve-cluster.ensures.settings ∙ c.in-Ok.ensures.settings in
    let first : slice_index old.fuses slot ≡ (g.H.Shelf.disks c.args.shelf.now slot).fuse_count = (c.in-Ok.ensures.counts slot within).fuses_are in
    let last = c.close.ensures.fuse_counts slot (subst (λ (s : Settings). slot < disk_count s) (sym is_settings) within) in
    let same =
    run_unfused D.Tells c.in-Ok.cluster.settings asks.0 asks.2 old new (g.S.Source.left c.args.source.now) (g.K.Sink.written c.write_header.new.sink)
    (g.S.Source.left c.serve-cluster.new.source) (g.K.Sink.written c.serve-cluster.new.sink) c.serve-cluster.result.1 asks.1 c.serve-cluster.ensures.caused
    c.serve-cluster.ensures.stop_caused in
    last ∙ ap (λ (fuses : List ℕ). slice_index fuses slot) same ∙ first

pub returns-clause-arm_faults : goal.returns-clause-arm_faults
returns-clause-arm_faults g c = λ lane within.
    let A = g.H.Arm.Arm in
    let first = c.in-Ok.ensures.arm_counts lane within in
    let later = NoneFalls-at (map A.fault_count c.in-Ok.cluster.arms) (map A.fault_count c.serve-cluster.result.0.arms) lane c.serve-cluster.ensures.arm_faults in
    let last = c.close.ensures.arm_counts lane within in omega (arith, first, later, last)

pub returns-in-Err-clause-faults : goal.returns-in-Err-clause-faults
returns-in-Err-clause-faults g c = λ slot within. (c.in-Err.ensures.back_counts slot within).faults_rise

pub returns-in-Err-clause-fuses : goal.returns-in-Err-clause-fuses
returns-in-Err-clause-fuses g c = λ slot within.
    same_kept (g.H.Shelf.disks c.args.shelf.now slot).fuse_count (g.H.Shelf.disks c.open.new.shelf slot).fuse_count (c.in-Err.ensures.back_counts slot within).fuses_are

pub returns-in-Err-clause-unfused : goal.returns-in-Err-clause-unfused
returns-in-Err-clause-unfused g c = λ asks slot within. (c.in-Err.ensures.back_counts slot within).fuses_are

pub returns-in_err-write_header-clause-fuses : goal.returns-in_err-write_header-clause-fuses
returns-in_err-write_header-clause-fuses g c = λ slot within.
    same_kept (g.H.Shelf.disks c.args.shelf.now slot).fuse_count (g.H.Shelf.disks c.args.shelf.now slot).fuse_count refl

pub returns-in-Err-clause-arm_faults : goal.returns-in-Err-clause-arm_faults
returns-in-Err-clause-arm_faults g c = λ lane within. let same = (c.in-Err.ensures.back_arms lane within).fault_count in omega (arith, same)

-- what was answered

pub returns-clause-ran : goal.returns-clause-ran
returns-clause-ran g c = λ tells.
    let D = g.H.Disk.Disk in
    let A = g.H.Arm.Arm in
    let taken = outside_of (g.H.Shelf.fault_count c.args.shelf.now) (g.H.Shelf.disks c.args.shelf.now) (g.H.Shelf.arms c.args.shelf.now) in
    let given = outside_of (g.H.Shelf.fault_count c.close.new.shelf) (g.H.Shelf.disks c.close.new.shelf) (g.H.Shelf.arms c.close.new.shelf) in
    let store' = c.serve-cluster.result.0 in
    let is_settings : store'.settings ≡ c.args.settings = c.serve-cluster.ensures.settings ∙ c.in-Ok.ensures.settings in
    let closed : (known : Known) → Holds D.files D.fault_count D.fuse_count A.fault_count store' known → StandsOn (IsReplica c.args.settings) (OpensRows c.args.settings) c.args.settings known given =
    λ known held.
    let P : Settings → Type 0 = λ s. StandsOn (IsReplica s) (OpensRows s) s known given in
    subst P is_settings (c.close.ensures.stands tells known held) in
    on_ok_weaker c.serve-cluster.result.1 (λ both k taken_is script held told told_first.
    let told_sink : g.K.Sink.written c.write_header.new.sink ≡ Some (held ++ header_line c.args.settings) = rw told_first at c.in_ok-write_header.ensures.wrote in
    let opened = c.in-Ok.ensures.opened tells k taken_is in
    let served : Serves D.Tells (Stands D.files g.H.Disk.Piece.Piece.Tells D.fault_count D.fuse_count A.fault_count) (Some script) c.in-Ok.cluster
    (Some (held ++ header_line c.args.settings)) store' (g.K.Sink.written c.serve-cluster.new.sink) =
    rw (told, told_sink) at both.0 in
    let over : g.S.Source.left c.serve-cluster.new.source ≡ Some [] = rw told at both.1 in
    ran_all D.Tells (Stands D.files g.H.Disk.Piece.Piece.Tells D.fault_count D.fuse_count A.fault_count) (Holds D.files D.fault_count D.fuse_count A.fault_count) c.args.settings
    taken given c.in-Ok.cluster store' k opened.0
    tells opened.1 c.in-Ok.ensures.settings is_settings opened.2 (λ between is known stands.
    stands_holds D.files g.H.Disk.Piece.Piece.Tells D.fault_count D.fuse_count A.fault_count between known stands) closed
    script held (g.S.Source.left c.serve-cluster.new.source) (g.K.Sink.written c.serve-cluster.new.sink)
    served.asked served.all (served.answers tells opened.0 opened.2) over)
    (on_ok_both _ _ c.serve-cluster.result.1 c.serve-cluster.ensures.served c.serve-cluster.ensures.ended)

pub returns-clause-stopped : goal.returns-clause-stopped
returns-clause-stopped g c = λ tells why is k taken_is script held told told_first.
    let told_sink : g.K.Sink.written c.write_header.new.sink ≡ Some (held ++ header_line c.args.settings) = rw told_first at c.in_ok-write_header.ensures.wrote in
    let D = g.H.Disk.Disk in
    let A = g.H.Arm.Arm in
    let taken = outside_of (g.H.Shelf.fault_count c.args.shelf.now) (g.H.Shelf.disks c.args.shelf.now) (g.H.Shelf.arms c.args.shelf.now) in
    let given = outside_of (g.H.Shelf.fault_count c.close.new.shelf) (g.H.Shelf.disks c.close.new.shelf) (g.H.Shelf.arms c.close.new.shelf) in
    let store' = c.serve-cluster.result.0 in
    let is_settings : store'.settings ≡ c.args.settings = c.serve-cluster.ensures.settings ∙ c.in-Ok.ensures.settings in
    let closed : (known : Known) → Holds D.files D.fault_count D.fuse_count A.fault_count store' known → StandsOn (IsReplica c.args.settings) (OpensRows c.args.settings) c.args.settings known given =
    λ known held.
    let P : Settings → Type 0 = λ s. StandsOn (IsReplica s) (OpensRows s) s known given in
    subst P is_settings (c.close.ensures.stands tells known held) in
    let opened = c.in-Ok.ensures.opened tells k taken_is in
    let u : ServedUntil D.Tells (Stands D.files g.H.Disk.Piece.Piece.Tells D.fault_count D.fuse_count A.fault_count) (Holds D.files D.fault_count D.fuse_count A.fault_count) why
    (Some script) c.in-Ok.cluster (Some (held ++ header_line c.args.settings)) (g.S.Source.left c.serve-cluster.new.source) store' (g.K.Sink.written c.serve-cluster.new.sink) =
    rw (told, told_sink) at (c.serve-cluster.ensures.stopped why is) in
    ran_stopped D.Tells (Stands D.files g.H.Disk.Piece.Piece.Tells D.fault_count D.fuse_count A.fault_count) (Holds D.files D.fault_count D.fuse_count A.fault_count)
    c.args.settings taken given c.in-Ok.cluster store' k opened.0
    tells opened.1 c.in-Ok.ensures.settings is_settings opened.2 (λ between is known stands.
    stands_holds D.files g.H.Disk.Piece.Piece.Tells D.fault_count D.fuse_count A.fault_count between known stands) closed
    script held (g.S.Source.left c.serve-cluster.new.source) (g.K.Sink.written c.serve-cluster.new.sink)
    u.asked u.number u.rest u.mid u.text u.held u.took u.settings (u.answers tells opened.0 opened.2)
    why u.none (λ e last left_is.
    let long = c.serve-cluster.ensures.long (cc (is, e)) script told in
    let same : long.0 ≡ last = (let n = long.1 in cc (n, left_is)) in omega (arith, long.2, ap length same)) u.stops

pub returns-clause-store : goal.returns-clause-store
returns-clause-store g c = λ is.
    let D = g.H.Disk.Disk in
    let A = g.H.Arm.Arm in
    let taken = outside_of (g.H.Shelf.fault_count c.args.shelf.now) (g.H.Shelf.disks c.args.shelf.now) (g.H.Shelf.arms c.args.shelf.now) in
    let given = outside_of (g.H.Shelf.fault_count c.close.new.shelf) (g.H.Shelf.disks c.close.new.shelf) (g.H.Shelf.arms c.close.new.shelf) in
    let store' = c.serve-cluster.result.0 in
    let is_settings : store'.settings ≡ c.args.settings = c.serve-cluster.ensures.settings ∙ c.in-Ok.ensures.settings in
    let P : Settings → ℕ → Type 0 = λ s slot. slot < disk_count s in
    behind_header D.Tells c.args.settings (g.H.Shelf.disks c.args.shelf.now) (g.H.Shelf.disks c.close.new.shelf)
    (outside_of (g.H.Shelf.fault_count c.args.shelf.now) (g.H.Shelf.disks c.args.shelf.now) (g.H.Shelf.arms c.args.shelf.now))
    (outside_of (g.H.Shelf.fault_count c.close.new.shelf) (g.H.Shelf.disks c.close.new.shelf) (g.H.Shelf.arms c.close.new.shelf))
    (g.S.Source.left c.args.source.now) (g.S.Source.left c.serve-cluster.new.source) (g.K.Sink.written c.args.sink.now) (g.K.Sink.written c.write_header.new.sink)
    (g.K.Sink.written c.serve-cluster.new.sink)
    (λ held told. (let wrote : Wrote (Some held) (header_line c.args.settings) (g.K.Sink.written c.write_header.new.sink) = rw told at c.in_ok-write_header.ensures.wrote in wrote))
    (inr (refused_later D.Tells c.args.settings taken given
    (Stands D.files g.H.Disk.Piece.Piece.Tells D.fault_count D.fuse_count A.fault_count) D.files D.fault_count c.in-Ok.cluster store' c.in-Ok.ensures.settings
    (λ slot within. (c.in-Ok.ensures.counts slot within).faults_rise)
    (λ slot within. c.close.ensures.fault_counts slot (subst (λ s. P s slot) (sym is_settings) within))
    (λ tells slot within. c.close.ensures.contents tells slot (subst (λ s. P s slot) (sym is_settings) within))
    (λ tells k taken_is. let opened = c.in-Ok.ensures.opened tells k taken_is in (opened.0, opened.2))
    c.in-Ok.ensures.sound (g.S.Source.left c.args.source.now) (g.S.Source.left c.serve-cluster.new.source) (g.K.Sink.written c.write_header.new.sink) (g.K.Sink.written c.serve-cluster.new.sink)
    (λ unread.
    let u : ServedUntil D.Tells (Stands D.files g.H.Disk.Piece.Piece.Tells D.fault_count D.fuse_count A.fault_count) (Holds D.files D.fault_count D.fuse_count A.fault_count)
    stop.Store (Some unread.0) c.in-Ok.cluster (g.K.Sink.written c.write_header.new.sink) (g.S.Source.left c.serve-cluster.new.source) store' (g.K.Sink.written c.serve-cluster.new.sink) =
    rw unread.1 at (c.serve-cluster.ensures.stopped stop.Store is) in
    was_read D.Tells (Stands D.files g.H.Disk.Piece.Piece.Tells D.fault_count D.fuse_count A.fault_count) (Holds D.files D.fault_count D.fuse_count A.fault_count) unread.0
    (g.S.Source.left c.serve-cluster.new.source) c.in-Ok.cluster store' (g.K.Sink.written c.write_header.new.sink) (g.K.Sink.written c.serve-cluster.new.sink) u unread.2)
    (c.serve-cluster.ensures.halted is)))

-- each arm that is sure is given back so
pub returns-clause-sure_arms : goal.returns-clause-sure_arms
returns-clause-sure_arms g c = λ lane within sure.
    let A = g.H.Arm.Arm in
    let arms = c.in-Ok.cluster.arms in
    let some = arm_there arms lane (subst (λ n. lane < n) (sym c.in-Ok.ensures.lanes) within) in
    let arms' = c.serve-cluster.result.0.arms in
    let later = sure_at A.is_sure A.fault_count arms arms' lane some.0 c.serve-cluster.ensures.sure_arms some.1 in
    let still = later.2 (c.in-Ok.ensures.sure_arms lane some.0 some.1 ∙ sure) in (
      c.close.ensures.sure_arms lane later.0 later.1 ∙ still.0,
      c.close.ensures.arm_counts lane within ∙ count_at A.fault_count arms' lane later.0 later.1 ∙ still.1
          ∙ sym (count_at A.fault_count arms lane some.0 some.1) ∙ c.in-Ok.ensures.arm_counts lane within,
    )

pub returns-clause-sound : goal.returns-clause-sound
returns-clause-sound g c = λ tells opened. c.in-Ok.ensures.sound tells

-- each disk of a store that was opened is formatted
pub returns-clause-formatted : goal.returns-clause-formatted
returns-clause-formatted g c = λ tells opened k taken_is.
    let start = c.in-Ok.ensures.opened tells k taken_is in
    given_formatted g.H.Disk.Disk.files c.args.settings c.serve-cluster.result.0 (g.H.Shelf.disks c.close.new.shelf) (c.serve-cluster.ensures.settings ∙ c.in-Ok.ensures.settings)
    (c.close.ensures.contents tells) (c.serve-cluster.ensures.formatted tells start.0 start.2)

-- what was written, and its causes
pub returns-clause-caused : goal.returns-clause-caused
returns-clause-caused g c = λ script held told told_first.
    let told_sink : g.K.Sink.written c.write_header.new.sink ≡ Some (held ++ header_line c.args.settings) = rw told_first at c.in_ok-write_header.ensures.wrote in
    let D = g.H.Disk.Disk in
    let A = g.H.Arm.Arm in
    let disks : ℕ → HeldDisk = g.H.Shelf.disks c.args.shelf.now in
    let disks' : ℕ → HeldDisk = g.H.Shelf.disks c.close.new.shelf in
    let sure : ℕ → Bool = (λ lane. (g.H.Shelf.arms c.args.shelf.now lane).is_sure) in
    let taken = outside_of (g.H.Shelf.fault_count c.args.shelf.now) (g.H.Shelf.disks c.args.shelf.now) (g.H.Shelf.arms c.args.shelf.now) in
    let given = outside_of (g.H.Shelf.fault_count c.close.new.shelf) (g.H.Shelf.disks c.close.new.shelf) (g.H.Shelf.arms c.close.new.shelf) in
    let old = tally_of D.files D.drawn D.fault_count D.fuse_count A.fault_count A.is_sure c.in-Ok.cluster in
    let new = tally_of D.files D.drawn D.fault_count D.fuse_count A.fault_count A.is_sure c.serve-cluster.result.0 in
    let left = g.S.Source.left c.serve-cluster.new.source in
    let written = g.K.Sink.written c.serve-cluster.new.sink in
    let is_settings = c.serve-cluster.ensures.settings ∙ c.in-Ok.ensures.settings in
    let begins : BeginsAt g.H.Disk.Disk.Tells c.args.settings taken sure old = record {
      disks = length-map (disks_of c.in-Ok.cluster) D.fault_count ∙ c.in-Ok.ensures.disks;
      fused = length-map (disks_of c.in-Ok.cluster) D.fuse_count ∙ c.in-Ok.ensures.disks;
      lanes = (length-map c.in-Ok.cluster.arms A.fault_count ∙ c.in-Ok.ensures.lanes, length-map c.in-Ok.cluster.arms A.is_sure ∙ c.in-Ok.ensures.lanes);
      faults = λ slot within. (c.in-Ok.ensures.counts slot within).faults_rise;
      fuses = λ slot within. (c.in-Ok.ensures.counts slot within).fuses_are;
      arms = c.in-Ok.ensures.arm_counts;
      stay_sure = λ lane within is.
          let arm = arm_there c.in-Ok.cluster.arms lane (subst (λ n. lane < n) (sym c.in-Ok.ensures.lanes) within) in
          lane_of A.is_sure c.in-Ok.cluster.arms lane arm.0 arm.1 (c.in-Ok.ensures.sure_arms lane arm.0 arm.1 ∙ is);
      seen = c.in-Ok.ensures.opens;
      reads = c.in-Ok.ensures.reads;
      reads_each = c.in-Ok.ensures.reads_each;
      live = c.in-Ok.ensures.live;
      contents = c.in-Ok.ensures.contents;
      formatted = c.in-Ok.ensures.formatted;
    } in
    let ends : EndsAt g.H.Disk.Disk.Tells c.args.settings new given = record {
      faults = subst (λ s. (slot : ℕ) → slot < disk_count s → given.faults slot ≡ slice_index new.counts.disks slot) is_settings c.close.ensures.fault_counts;
      fuses = subst (λ s. (slot : ℕ) → slot < disk_count s → given.fuses slot ≡ slice_index new.fuses slot) is_settings c.close.ensures.fuse_counts;
      arms = c.close.ensures.arm_counts;
      contents = λ tells. subst (λ s. (slot : ℕ) → slot < disk_count s → read_contents given slot ≡ new.contents slot) is_settings (c.close.ensures.contents tells);
    } in
    by_outcome (λ (e : Ending). CausedRun D.Tells c.args.settings e script left taken given sure disks disks' held written) c.serve-cluster.result.1
    (on_ok_weaker c.serve-cluster.result.1 (λ both.
    let all : AllCaused g.H.Disk.Disk.Tells c.args.settings old new (Some script) (Some (held ++ header_line c.args.settings)) written = rw (c.in-Ok.ensures.settings, told, told_sink) at both.0 in
    all_caused D.Tells c.args.settings script left taken given sure disks disks' held written old new begins ends c.in-Ok.ensures.sound all (rw told at both.1))
    (on_ok_both _ _ c.serve-cluster.result.1 c.serve-cluster.ensures.caused c.serve-cluster.ensures.ended))
    (λ why is.
    let u : CausedUntil g.H.Disk.Disk.Tells c.args.settings old new why (Some script) (Some (held ++ header_line c.args.settings)) left written =
    rw (c.in-Ok.ensures.settings, told, told_sink) at (c.serve-cluster.ensures.stop_caused why is) in
    until_caused D.Tells c.args.settings script left taken given sure disks disks' held written old new begins ends c.in-Ok.ensures.sound why
    (λ e last left_is.
    let long = c.serve-cluster.ensures.long (cc (is, e)) script told in
    let same : long.0 ≡ last = (let n = long.1 in cc (n, left_is)) in omega (arith, long.2, ap length same)) u)

-- the store was not opened

pub returns-in-Err-clause-caused : goal.returns-in-Err-clause-caused
returns-in-Err-clause-caused g c = λ script held told told_first.
    let told_sink : g.K.Sink.written c.write_header.new.sink ≡ Some (held ++ header_line c.args.settings) = rw told_first at c.in_ok-write_header.ensures.wrote in
    let shelf = g.H.Shelf.fault_count c.args.shelf.now in
    let shelf' = g.H.Shelf.fault_count c.open.new.shelf in
    let disks : ℕ → HeldDisk = g.H.Shelf.disks c.args.shelf.now in
    let disks' : ℕ → HeldDisk = g.H.Shelf.disks c.open.new.shelf in
    let sure : ℕ → Bool = (λ lane. (g.H.Shelf.arms c.args.shelf.now lane).is_sure) in
    let taken = outside_of shelf (g.H.Shelf.disks c.args.shelf.now) (g.H.Shelf.arms c.args.shelf.now) in
    let given = outside_of shelf' (g.H.Shelf.disks c.open.new.shelf) (g.H.Shelf.arms c.open.new.shelf) in
    refused_caused g.H.Disk.Disk.Tells c.args.settings script (g.S.Source.left c.args.source.now) taken given sure disks disks' held (g.K.Sink.written c.write_refusal.new.sink)
    c.in-Err.ensures.kept (λ lane within. (c.in-Err.ensures.back_arms lane within).fault_count) (λ slot within. (c.in-Err.ensures.back_counts slot within).fuses_are)
    c.write_refusal.result c.in-Err.fault c.write_refusal.ensures.fits
    (cause_of g.H.Disk.Disk.Tells c.args.settings taken given c.in-Err.fault c.in-Err.ensures.shelf c.in-Err.ensures.failed
    (λ t slot count e. (c.in-Err.ensures.failed_lowest t slot count (ap (λ f. Err f) e), c.in-Err.ensures.failed_first t slot count (ap (λ f. Err f) e)))
    (λ slot file at e. c.in-Err.ensures.damaged_within slot file at (ap (λ f. Err f) e))
    (λ t slot file at e. (
      (c.in-Err.ensures.damaged t slot file at (ap (λ f. Err f) e)).0,
      (c.in-Err.ensures.damaged t slot file at (ap (λ f. Err f) e)).1,
      c.in-Err.ensures.damaged_first t slot file at (ap (λ f. Err f) e),
    )))
    (rw told_sink at c.write_refusal.ensures.told) (rw told_sink at c.write_refusal.ensures.part)
    (λ none. let w = c.write_refusal.ensures.wanting none in (w.0, ap g.K.Sink.written w.1 ∙ told_sink)) c.write_refusal.ensures.stops told

pub returns-in-Err-clause-sure_arms : goal.returns-in-Err-clause-sure_arms
returns-in-Err-clause-sure_arms g c = λ lane within sure. let back = c.in-Err.ensures.back_arms lane within in (back.is_sure ∙ sure, back.fault_count)

pub returns-in-Err-clause-stopped : goal.returns-in-Err-clause-stopped
returns-in-Err-clause-stopped g c = λ tells why is k taken_is script held told told_first.
    let told_sink : g.K.Sink.written c.write_header.new.sink ≡ Some (held ++ header_line c.args.settings) = rw told_first at c.in_ok-write_header.ensures.wrote in
    let D = g.H.Disk.Disk in
    let shelf = g.H.Shelf.fault_count c.args.shelf.now in
    let shelf' = g.H.Shelf.fault_count c.open.new.shelf in
    let disks = g.H.Shelf.disks c.args.shelf.now in
    let disks' = g.H.Shelf.disks c.open.new.shelf in
    let arms = g.H.Shelf.arms c.args.shelf.now in
    let arms' = g.H.Shelf.arms c.open.new.shelf in
    let same : c.write_refusal.result ≡ why = cc in
    let written' = g.K.Sink.written c.write_refusal.new.sink in
    let P : Option (List ℕ) → Type 0 = λ left. RanTo c.args.settings k (ending_of why) script left (outside_of shelf disks arms) (outside_of shelf' disks' arms') held written' in
    subst P (sym told)
    (ran_unopened c.args.settings shelf shelf' disks disks' arms arms' k taken_is (c.in-Err.ensures.kept tells) c.in-Err.ensures.back_counts c.in-Err.ensures.back_arms c.requires.built.some_replicas
    script held written' D.Tells tells c.in-Err.fault why
    (cause_of D.Tells c.args.settings (outside_of shelf disks arms) (outside_of shelf' disks' arms') c.in-Err.fault
    c.in-Err.ensures.shelf c.in-Err.ensures.failed (λ t slot count e. (
      c.in-Err.ensures.failed_lowest t slot count (ap (λ f. Err f) e),
      c.in-Err.ensures.failed_first t slot count (ap (λ f. Err f) e),
    )) (λ slot file at e. c.in-Err.ensures.damaged_within slot file at (ap (λ f. Err f) e))
    (λ t slot file at e. (
      (c.in-Err.ensures.damaged t slot file at (ap (λ f. Err f) e)).0,
      (c.in-Err.ensures.damaged t slot file at (ap (λ f. Err f) e)).1,
      c.in-Err.ensures.damaged_first t slot file at (ap (λ f. Err f) e),
    )))
    (rw (told_sink, same) at c.write_refusal.ensures.told) (rw (told_sink, same) at c.write_refusal.ensures.part)
    (λ none. let w = c.write_refusal.ensures.wanting none in (sym same ∙ w.0, ap g.K.Sink.written w.1 ∙ told_sink)) (rw same at c.write_refusal.ensures.stops))

pub returns-in-Err-clause-store : goal.returns-in-Err-clause-store
returns-in-Err-clause-store g c = λ is.
    let D = g.H.Disk.Disk in
    let shelf = g.H.Shelf.fault_count c.args.shelf.now in
    let shelf' = g.H.Shelf.fault_count c.open.new.shelf in
    let note = c.write_refusal.ensures.told (let e = is in cc e) in
    behind_header D.Tells c.args.settings (g.H.Shelf.disks c.args.shelf.now) (g.H.Shelf.disks c.open.new.shelf)
    (outside_of (g.H.Shelf.fault_count c.args.shelf.now) (g.H.Shelf.disks c.args.shelf.now) (g.H.Shelf.arms c.args.shelf.now))
    (outside_of (g.H.Shelf.fault_count c.open.new.shelf) (g.H.Shelf.disks c.open.new.shelf) (g.H.Shelf.arms c.open.new.shelf))
    (g.S.Source.left c.args.source.now) (g.S.Source.left c.args.source.now) (g.K.Sink.written c.args.sink.now) (g.K.Sink.written c.write_header.new.sink) (g.K.Sink.written c.write_refusal.new.sink)
    (λ held told. (let wrote : Wrote (Some held) (header_line c.args.settings) (g.K.Sink.written c.write_header.new.sink) = rw told at c.in_ok-write_header.ensures.wrote in wrote))
    (inl (record {
      note = note.0;
      why = cause_of D.Tells c.args.settings (outside_of shelf (g.H.Shelf.disks c.args.shelf.now) (g.H.Shelf.arms c.args.shelf.now))
          (outside_of shelf' (g.H.Shelf.disks c.open.new.shelf) (g.H.Shelf.arms c.open.new.shelf)) c.in-Err.fault
          c.in-Err.ensures.shelf c.in-Err.ensures.failed (λ t slot count e. (
            c.in-Err.ensures.failed_lowest t slot count (ap (λ f. Err f) e),
            c.in-Err.ensures.failed_first t slot count (ap (λ f. Err f) e),
          )) (λ slot file at e. c.in-Err.ensures.damaged_within slot file at (ap (λ f. Err f) e))
          (λ t slot file at e. (
            (c.in-Err.ensures.damaged t slot file at (ap (λ f. Err f) e)).0,
            (c.in-Err.ensures.damaged t slot file at (ap (λ f. Err f) e)).1,
            c.in-Err.ensures.damaged_first t slot file at (ap (λ f. Err f) e),
          )) note.0 note.1;
      told = λ held told_sink. (let wrote : Wrote (Some held) (note_line note.0) (g.K.Sink.written c.write_refusal.new.sink) = rw told_sink at note.2 in wrote);
      unread = refl;
      kept = c.in-Err.ensures.kept;
      counts = c.in-Err.ensures.back_counts;
    }))

pub returns-in-Err-clause-sound : goal.returns-in-Err-clause-sound
returns-in-Err-clause-sound g c = λ tells opened.
    absurd (none_opened c.write_refusal.result c.write_refusal.ensures.stops (not_read (g.S.Source.left c.args.source.now)) opened)

pub returns-in-Err-clause-formatted : goal.returns-in-Err-clause-formatted
returns-in-Err-clause-formatted g c = λ tells opened.
    absurd (none_opened c.write_refusal.result c.write_refusal.ensures.stops (not_read (g.S.Source.left c.args.source.now)) opened)

pub returns-clause-sink : goal.returns-clause-sink
returns-clause-sink g c = λ output.
    let before = c.write_header.ensures.count in
    elim (c.serve-cluster.ensures.sink output) [
      | inl less ↦ inl (omega (arith, before, less))
      | inr most ↦ inr most
    ]

pub returns-clause-appends : goal.returns-clause-appends
returns-clause-appends g c =
    appends_more (g.K.Sink.written c.args.sink.now) (g.K.Sink.written c.write_header.new.sink) (g.K.Sink.written c.serve-cluster.new.sink) c.write_header.ensures.appends
    c.serve-cluster.ensures.appends

pub returns-in-Err-clause-appends : goal.returns-in-Err-clause-appends
returns-in-Err-clause-appends g c =
    appends_more (g.K.Sink.written c.args.sink.now) (g.K.Sink.written c.write_header.new.sink) (g.K.Sink.written c.write_refusal.new.sink) c.write_header.ensures.appends
    c.write_refusal.ensures.appends

-- what was read, where nothing was asked

pub returns-clause-drew : goal.returns-clause-drew
returns-clause-drew g c = λ tells.
    let D = g.H.Disk.Disk in
    let A = g.H.Arm.Arm in
    let old = tally_of D.files D.drawn D.fault_count D.fuse_count A.fault_count A.is_sure c.in-Ok.cluster in
    let new = tally_of D.files D.drawn D.fault_count D.fuse_count A.fault_count A.is_sure c.serve-cluster.result.0 in
    let given = g.H.Shelf.disks c.close.new.shelf in
    let before = drawn_of (g.H.Shelf.disks c.args.shelf.now) in
    let is_settings = c.serve-cluster.ensures.settings ∙ c.in-Ok.ensures.settings in
    on_ok_weaker c.serve-cluster.result.1 (λ all nothing.
    let same : new ≡ old =
    nothing_asked D.Tells c.in-Ok.cluster.settings old new (g.S.Source.left c.args.source.now) (g.K.Sink.written c.write_header.new.sink) (g.K.Sink.written c.serve-cluster.new.sink) all nothing in
    given_drew c.args.settings new.contents before new.drawn given
    (subst (λ s. (slot : ℕ) → slot < disk_count s → read_of (given slot) ≡ new.contents slot) is_settings (c.close.ensures.contents tells))
    (subst (λ s. (slot : ℕ) → slot < disk_count s → (given slot).drawn ≡ new.drawn slot) is_settings (c.close.ensures.drawn tells))
    (subst (λ (t : Tally). EachDrewLittle c.args.settings t.contents no_look before t.drawn) (sym same) (c.in-Ok.ensures.drew tells))) c.serve-cluster.ensures.caused

pub returns-clause-flushed : goal.returns-clause-flushed
returns-clause-flushed g c = λ tells.
    let D = g.H.Disk.Disk in
    let A = g.H.Arm.Arm in
    let old = tally_of D.files D.drawn D.fault_count D.fuse_count A.fault_count A.is_sure c.in-Ok.cluster in
    let new = tally_of D.files D.drawn D.fault_count D.fuse_count A.fault_count A.is_sure c.serve-cluster.result.0 in
    let given = g.H.Shelf.disks c.close.new.shelf in
    let before = drawn_of (g.H.Shelf.disks c.args.shelf.now) in
    let is_settings = c.serve-cluster.ensures.settings ∙ c.in-Ok.ensures.settings in
    on_ok_weaker c.serve-cluster.result.1 (λ all k taken nothing.
    let same : new ≡ old =
    nothing_asked D.Tells c.in-Ok.cluster.settings old new (g.S.Source.left c.args.source.now) (g.K.Sink.written c.write_header.new.sink) (g.K.Sink.written c.serve-cluster.new.sink) all nothing in
    given_flushed c.args.settings new.contents before new.drawn given
    (subst (λ s. (slot : ℕ) → slot < disk_count s → read_of (given slot) ≡ new.contents slot) is_settings (c.close.ensures.contents tells))
    (subst (λ s. (slot : ℕ) → slot < disk_count s → (given slot).drawn ≡ new.drawn slot) is_settings (c.close.ensures.drawn tells))
    k (subst (λ (t : Tally). FlushedDrewLittle c.args.settings k before t.drawn) (sym same) (c.in-Ok.ensures.flushed tells k taken))) c.serve-cluster.ensures.caused

-- what is left of the disks, where nothing was asked

pub returns-clause-contents : goal.returns-clause-contents
returns-clause-contents g c = λ tells nothing.
    let D = g.H.Disk.Disk in
    let A = g.H.Arm.Arm in
    let old = tally_of D.files D.drawn D.fault_count D.fuse_count A.fault_count A.is_sure c.in-Ok.cluster in
    let new = tally_of D.files D.drawn D.fault_count D.fuse_count A.fault_count A.is_sure c.serve-cluster.result.0 in
    let given = g.H.Shelf.disks c.close.new.shelf in
    let is_settings = c.serve-cluster.ensures.settings ∙ c.in-Ok.ensures.settings in
    let closed = subst (λ s. (slot : ℕ) → slot < disk_count s → read_of (given slot) ≡ new.contents slot) is_settings (c.close.ensures.contents tells) in
    let same : new ≡ old =
    nothing_done D.Tells c.in-Ok.cluster.settings old new (g.S.Source.left c.args.source.now) (g.K.Sink.written c.write_header.new.sink) (g.S.Source.left c.serve-cluster.new.source)
    (g.K.Sink.written c.serve-cluster.new.sink)
    c.serve-cluster.result.1 c.serve-cluster.ensures.caused c.serve-cluster.ensures.stop_caused nothing in
    λ slot file below some.
    ap (λ (contents : Contents). contents file) (closed slot below) ∙ ap (λ (t : Tally). t.contents slot file) same ∙ c.in-Ok.ensures.contents tells slot file below some

pub returns-in-Err-clause-contents : goal.returns-in-Err-clause-contents
returns-in-Err-clause-contents g c = λ tells nothing. c.in-Err.ensures.contents_back tells

-- the header was not written

pub returns-in_err-write_header-clause-stopped : goal.returns-in_err-write_header-clause-stopped
returns-in_err-write_header-clause-stopped g c = λ tells why is.
    let wrong : Result (Unit {0}) Stop = Err c.in_err-write_header.field-0.0 in
    let same : wrong ≡ Err why = (let p = err_from_is_err_and c.from_residual.result c.from_residual.ensures.1 in cc (p.1, p.2)) in
    λ k taken script held told told_sink.
    let outside = outside_of (g.H.Shelf.fault_count c.args.shelf.now) (g.H.Shelf.disks c.args.shelf.now) (g.H.Shelf.arms c.args.shelf.now) in
    let written' = g.K.Sink.written c.write_header.new.sink in
    let wrote : WrotePart (Some held) (header_line c.args.settings) written' = rw told_sink at c.in_err-write_header.ensures.part in
    let P : Option (List ℕ) → Type 0 = λ left. RanTo c.args.settings k (ending_of why) script left outside outside held written' in
    subst P (sym told) (ran_unwritten c.args.settings outside k taken script held written' wrote wrong why same c.in_err-write_header.ensures.stops)

pub returns-in_err-write_header-clause-caused : goal.returns-in_err-write_header-clause-caused
returns-in_err-write_header-clause-caused g c = λ script held told told_sink.
    let p = err_from_is_err_and c.from_residual.result c.from_residual.ensures.1 in
    let disks : ℕ → HeldDisk = g.H.Shelf.disks c.args.shelf.now in
    let disks' : ℕ → HeldDisk = g.H.Shelf.disks c.args.shelf.now in
    let sure : ℕ → Bool = (λ lane. (g.H.Shelf.arms c.args.shelf.now lane).is_sure) in
    let outside = outside_of (g.H.Shelf.fault_count c.args.shelf.now) (g.H.Shelf.disks c.args.shelf.now) (g.H.Shelf.arms c.args.shelf.now) in
    let written' = g.K.Sink.written c.write_header.new.sink in
    let wrote : WrotePart (Some held) (header_line c.args.settings) written' = rw told_sink at c.in_err-write_header.ensures.part in
    let wrong : Result (Unit {0}) Stop = Err c.in_err-write_header.field-0.0 in
    let same : wrong ≡ c.from_residual.result = cc (p.1, p.2) in
    let P : Result (Unit {0}) Stop → Type 0 =
    λ r. CausedRun g.H.Disk.Disk.Tells c.args.settings (ending_in r) script (g.S.Source.left c.args.source.now) outside outside sure disks disks' held written' in
    subst P same (header_caused g.H.Disk.Disk.Tells c.args.settings script (g.S.Source.left c.args.source.now) outside outside sure disks disks' held written'
    (λ tells slot within. inr (inl refl)) (λ lane within. refl) (λ slot within. refl) wrong c.in_err-write_header.ensures.stops wrote told)
