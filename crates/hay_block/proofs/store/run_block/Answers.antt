use Rattle.std.proofs.Common.{◌≡◌, ◌≤◌, ◌-◌, ◌^◌, ℕ, List, Vec, Global, length, map, refl, sym, ap, subst, ◌∙◌, arith}
use Rattle.std.specs.List.{AllByRecursion, AllZip}
use Rattle.std.proofs.lemmas.List.{length-map}
use Rattle.hay_front.specs.declared.front.Tag.{Tag}
use Rattle.hay_reply.specs.declared.Reply.{Reply}
use Rattle.hay_reply.specs.Fits.{FitsReply}
use Rattle.hay_legal.specs.declared.known.VolumeKnown.{VolumeKnown}
use Rattle.hay_block.specs.declared.store.BlockNotes.{BlockNotes}
use Rattle.hay_block.specs.declared.worker.Job.{Job}
use Rattle.hay_block.specs.Frames.{IsSameStore, RanAll}
use Rattle.hay_block.specs.Lines.{AnswersBad, AnswersSuited, IsServed}
use Rattle.hay_shared_volume.specs.Making.{AreUnseen, IsVolumeOf, VolumeStands, count_of}
use Rattle.hay_block.specs.Stores.{AreStill, AreUpwards, AreVolumes, line_of_tag, notes_from}
use Rattle.hay_block.proofs.Blocks.{block_told}
use Rattle.hay_block.proofs.Lists.{each_mapped, each_unmapped, err_at, ok_at, ok_weaker, zip_long, zip_unmapped}
use Rattle.hay_block.proofs.Whole.{all_bad, all_blame, all_fit, all_later, all_replied, all_suit, counts_rise, directory_same, made_rows, same_arms, seated_rows, still_counts}
use Rattle.hay_block.proofs.Staying.{still_self}
use Rattle.hay_block.proofs.Unfused.{block_unfused, same_fuses, still_fuses}
use Rattle.hay_block.proofs.Upwards.{notes_upwards}
use Rattle.hay_shared_volume.specs.Seats.{IsSeatOf, WasAt, sight_of}
use Rattle.hay_logical.specs.Volumes.{Volume}
use Rattle.hay_block.proofs.store.run_block.Goals as goal

pub notes_of-notes-requires-clause-many : goal.notes_of-notes-requires-clause-many
notes_of-notes-requires-clause-many g c =
    ap length c.as_slice-in-Ok-answer.ensures.value ∙ (zip_long (λ (volume : (Volume g.row.D.Denot g.row.P.Denot)) (front : ℕ). (known : VolumeKnown)
    → (VolumeStands g.D.Disk.Tells g.D.Disk.files g.P.Piece.Tells) volume known → front ≡ length known.log) c.args.parts.volumes.items c.in-Ok.ready.fronts.items
    c.in-Ok.ensures.fronts ∙ c.requires.volumes.many)

pub notes_of-notes-requires-clause-as_many : goal.notes_of-notes-requires-clause-as_many
notes_of-notes-requires-clause-as_many g c =
    let ran =
    ok_at (λ (replies : Vec (Vec Reply Global) Global). RanAll (IsSeatOf {P = g.row.P.Denot}) g.L.DirectoryCalls.fits
    (WasAt g.D.Disk.Tells g.D.Disk.files g.P.Piece.Tells g.D.Disk.fault_count g.D.Disk.fuse_count) g.L.DirectoryCalls.is_at sight_of g.L.DirectoryCalls.sight g.A.Arm.is_sure
    g.A.Arm.fault_count (VolumeStands g.D.Disk.Tells g.D.Disk.files g.P.Piece.Tells) (count_of g.D.Disk.fault_count) (count_of g.D.Disk.fuse_count)
    c.args.settings c.in-Ok-new.lock c.in-Ok.ready.drained c.args.parts.volumes.items c.in-Ok-new.seats.items c.args.parts.arms.items c.run_locked-locked.result.0.volumes.items
    c.run_locked-locked.result.1.items c.run_locked-locked.result.0.seats.items c.run_locked-locked.result.0.arms.items (map (λ (js : Vec Job Global). js.items) c.args.jobs.now)
    (map (λ (rs : Vec Reply Global). rs.items) replies.items)) c.run_locked-locked.result.2 c.in-Ok-answer.replies c.in-Ok-answer.is c.run_locked-locked.ensures.answered in
    ap length c.as_slice-in-Ok-answer-2.ensures.value ∙ ran.many_told

pub returns-in-Ok-answer : goal.returns-in-Ok-answer
returns-in-Ok-answer g c =
    let made =
    made_rows g.L.DirectoryLocks.is_made (length c.run_locked-locked.result.0.seats.items) c.in-Ok-new.ensures.made c.run_locked-locked.ensures.lock
    (omega (arith, c.run_locked-locked.ensures.seats.many)) in
    let seated =
    seated_rows g.L.DirectoryCalls.fits c.args.settings c.in-Ok-new.lock c.run_locked-locked.result.0.lock c.run_locked-locked.result.0.seats.items
    c.run_locked-locked.ensures.seats c.run_locked-locked.ensures.lock in
    let left = c.unlocked-parts.ensures.left c.args.parts.directory c.args.settings made seated in
    let long = length-map c.args.jobs.now (λ (js : Vec Job Global). js.items) in
    let given : length c.args.parts.arms.items ≡ length (map (λ (js : Vec Job Global). js.items) c.args.jobs.now) = omega (arith, c.requires.arms, long) in
    let Ran : List (Volume g.row.D.Denot g.row.P.Denot) → List g.row.A.Denot → Type 0 =
    λ volumes arms. RanAll (IsSeatOf {P = g.row.P.Denot}) g.L.DirectoryCalls.fits (WasAt g.D.Disk.Tells g.D.Disk.files g.P.Piece.Tells g.D.Disk.fault_count g.D.Disk.fuse_count)
    g.L.DirectoryCalls.is_at sight_of g.L.DirectoryCalls.sight g.A.Arm.is_sure g.A.Arm.fault_count (VolumeStands g.D.Disk.Tells g.D.Disk.files g.P.Piece.Tells)
    (count_of g.D.Disk.fault_count) (count_of g.D.Disk.fuse_count)
    c.args.settings c.in-Ok-new.lock c.in-Ok.ready.drained c.args.parts.volumes.items c.in-Ok-new.seats.items c.args.parts.arms.items volumes c.run_locked-locked.result.1.items
    c.run_locked-locked.result.0.seats.items arms (map (λ (js : Vec Job Global). js.items) c.args.jobs.now)
    (map (λ (rs : Vec Reply Global). rs.items) c.in-Ok-answer.replies.items) in
    let ran : Ran c.unlocked-parts.result.0.volumes.items c.unlocked-parts.result.0.arms.items =
    subst (λ (z : Vec (Volume g.row.D.Denot g.row.P.Denot) Global). Ran z.items c.unlocked-parts.result.0.arms.items) (sym c.unlocked-parts.ensures.volumes)
    (subst (λ z. Ran c.run_locked-locked.result.0.volumes.items z) (sym (ap (λ (z : Vec g.row.A.Denot Global). z.items) c.unlocked-parts.ensures.arms))
    (ok_at (λ (replies : Vec (Vec Reply Global) Global). RanAll (IsSeatOf {P = g.row.P.Denot}) g.L.DirectoryCalls.fits
    (WasAt g.D.Disk.Tells g.D.Disk.files g.P.Piece.Tells g.D.Disk.fault_count g.D.Disk.fuse_count) g.L.DirectoryCalls.is_at sight_of g.L.DirectoryCalls.sight g.A.Arm.is_sure
    g.A.Arm.fault_count (VolumeStands g.D.Disk.Tells g.D.Disk.files g.P.Piece.Tells) (count_of g.D.Disk.fault_count) (count_of g.D.Disk.fuse_count)
    c.args.settings c.in-Ok-new.lock c.in-Ok.ready.drained c.args.parts.volumes.items c.in-Ok-new.seats.items c.args.parts.arms.items c.run_locked-locked.result.0.volumes.items
    c.run_locked-locked.result.1.items c.run_locked-locked.result.0.seats.items c.run_locked-locked.result.0.arms.items (map (λ (js : Vec Job Global). js.items) c.args.jobs.now)
    (map (λ (rs : Vec Reply Global). rs.items) replies.items)) c.run_locked-locked.result.2 c.in-Ok-answer.replies c.in-Ok-answer.is c.run_locked-locked.ensures.answered)) in
    let many : length c.args.parts.volumes.items ≡ c.args.settings.volumes = c.requires.volumes.many in
    let many_behind : length c.unlocked-parts.result.0.volumes.items ≡ c.args.settings.volumes =
    ap (λ (z : Vec (Volume g.row.D.Denot g.row.P.Denot) Global). length z.items) c.unlocked-parts.ensures.volumes ∙ c.run_locked-locked.ensures.volumes.many in
    let Served : List Job → Type 0 = λ js. AllByRecursion (λ (job : Job). IsServed job.item) js in
    let served : AllByRecursion Served (map (λ (js : Vec Job Global). js.items) c.args.jobs.now) = each_mapped (λ (js : Vec Job Global). js.items) Served c.args.jobs.now c.requires.served in
    let small : AllByRecursion (λ (arm : g.row.A.Denot). g.A.Arm.fault_count arm ≤ 2 ^ 64 - 1) c.unlocked-parts.result.0.arms.items =
    subst (AllByRecursion (λ (arm : g.row.A.Denot). g.A.Arm.fault_count arm ≤ 2 ^ 64 - 1)) c.as_slice.ensures.value c.read_counts.ensures in
    let told : List (List ℕ) = map (λ (own : Vec Tag Global). map line_of_tag own.items) c.run_locked-locked.result.1.items in
    let as_many : length c.in-Ok.ready.fronts.items ≡ length c.args.parts.volumes.items =
    zip_long (λ (volume : (Volume g.row.D.Denot g.row.P.Denot)) (front : ℕ). (known : VolumeKnown) → (VolumeStands g.D.Disk.Tells g.D.Disk.files g.P.Piece.Tells) volume known
    → front ≡ length known.log) c.args.parts.volumes.items c.in-Ok.ready.fronts.items c.in-Ok.ensures.fronts in
    let logs =
    ok_weaker (λ (n : BlockNotes). n.logs.items ≡ notes_from 0 c.as_slice-in-Ok-answer.result.now (map (λ (own : Vec Tag Global). map line_of_tag own.items) c.as_slice-in-Ok-answer-2.result.now))
    (λ n. n.logs.items ≡ notes_from 0 c.in-Ok.ready.fronts.items told)
    (λ n is. is ∙ (ap (λ z. notes_from 0 z (map (λ (own : Vec Tag Global). map line_of_tag own.items) c.as_slice-in-Ok-answer-2.result.now)) c.as_slice-in-Ok-answer.ensures.value
    ∙ ap (λ (z : List (Vec Tag Global)). notes_from 0 c.in-Ok.ready.fronts.items (map (λ (own : Vec Tag Global). map line_of_tag own.items) z)) c.as_slice-in-Ok-answer-2.ensures.value))
    c.notes_of-notes.result c.notes_of-notes.ensures.logs in
    let added =
    ok_weaker (λ (n : BlockNotes). n.added ≡ c.unlocked-parts.result.1) (λ n. n.added.items ≡ c.unlocked-parts.result.1.items) (λ n is. ap (λ (z : Vec Tag Global). z.items) is)
    c.notes_of-notes.result c.notes_of-notes.ensures.added in
    record {
      volumes =
          subst (λ (z : Vec (Volume g.row.D.Denot g.row.P.Denot) Global). AreVolumes IsVolumeOf c.args.settings z.items) (sym c.unlocked-parts.ensures.volumes) c.run_locked-locked.ensures.volumes;
      directory = left.1;
      arms = ap (λ (z : Vec g.row.A.Denot Global). length z.items) c.unlocked-parts.ensures.arms ∙ c.run_locked-locked.ensures.arms;
      refused = tt;
      replies =
          zip_unmapped (λ (js : Vec Job Global). js.items) (λ (rs : Vec Reply Global). rs.items) (λ js rs. length js ≡ length rs) c.args.jobs.now c.in-Ok-answer.replies.items
          (all_replied ran (sym given));
      suits =
          zip_unmapped (λ (js : Vec Job Global). js.items) (λ (rs : Vec Reply Global). rs.items) (AllZip (AnswersSuited c.args.settings)) c.args.jobs.now
          c.in-Ok-answer.replies.items (all_suit ran (sym given));
      bad = zip_unmapped (λ (js : Vec Job Global). js.items) (λ (rs : Vec Reply Global). rs.items) (AllZip AnswersBad) c.args.jobs.now c.in-Ok-answer.replies.items (all_bad ran (sym given));
      blames = all_blame ran (sym given);
      fits = each_unmapped (λ (rs : Vec Reply Global). rs.items) (AllByRecursion FitsReply) c.in-Ok-answer.replies.items (all_fit ran (sym given));
      upwards = ok_weaker (λ (n : BlockNotes). n.logs.items ≡ notes_from 0 c.in-Ok.ready.fronts.items told) (λ n. AreUpwards c.args.settings.volumes n.logs.items)
          (λ n is. subst (AreUpwards c.args.settings.volumes) (sym is) (notes_upwards c.args.settings.volumes c.in-Ok.ready.fronts.items told (as_many ∙ many))) c.notes_of-notes.result logs;
      arms_rise = all_later ran (sym given);
      rises = record { volumes = counts_rise ran many; rows = left.0.rises };
      unfused = block_unfused ran c.in-Ok-new.ensures.unseen (sym given) many left.0;
      legal = λ k others stood others_end items are distinct.
          let rows = ok_weaker (λ (n : BlockNotes). n.rows ≡ c.in-Ok.ready.rows) (λ n. n.rows ≡ length k.directory.rows)
          (λ n is. is ∙ c.in-Ok.ensures.rows k.directory k.drained stood.rows) c.notes_of-notes.result c.notes_of-notes.ensures.rows in
          block_told ran c.requires.fit many many_behind c.in-Ok-new.ensures.unseen c.in-Ok-new.ensures.told left.0 given (omega (arith, c.requires.some, long))
          (omega (arith, c.requires.few, long)) served stood
          (c.in-Ok.ensures.drained k.directory k.drained stood.rows) (c.in-Ok-new.ensures.regular k.directory k.drained stood.rows) others_end small
          c.in-Ok.ready.fronts.items c.in-Ok.ensures.fronts c.notes_of-notes.result logs rows added items are distinct;
    }

pub returns-in-Ok-new : goal.returns-in-Ok-new
returns-in-Ok-new g c =
    let made =
    made_rows g.L.DirectoryLocks.is_made (length c.run_locked-locked.result.0.seats.items) c.in-Ok-new.ensures.made c.run_locked-locked.ensures.lock
    (omega (arith, c.run_locked-locked.ensures.seats.many)) in
    let seated =
    seated_rows g.L.DirectoryCalls.fits c.args.settings c.in-Ok-new.lock c.run_locked-locked.result.0.lock c.run_locked-locked.result.0.seats.items
    c.run_locked-locked.ensures.seats c.run_locked-locked.ensures.lock in
    let left = c.unlocked-parts.ensures.left c.args.parts.directory c.args.settings made seated in
    let back =
    err_at (IsSameStore (VolumeStands g.D.Disk.Tells g.D.Disk.files g.P.Piece.Tells) (count_of g.D.Disk.fault_count) (count_of g.D.Disk.fuse_count) c.args.settings
    (record { lock = c.in-Ok-new.lock; seats = c.in-Ok-new.seats; volumes = c.args.parts.volumes; arms = c.args.parts.arms }) c.run_locked-locked.result.0)
    c.run_locked-locked.result.2 c.in-Err-answer.error c.in-Err-answer.is c.run_locked-locked.ensures.refused in
    let unseen : AreUnseen g.L.DirectoryCalls.sight c.run_locked-locked.result.0.seats.items = subst (AreUnseen g.L.DirectoryCalls.sight) (sym back.seats) c.in-Ok-new.ensures.unseen in
    let directory : c.unlocked-parts.result.0.directory ≡ c.args.parts.directory = directory_same left.0 unseen in
    let still : AreStill (VolumeStands g.D.Disk.Tells g.D.Disk.files g.P.Piece.Tells) (count_of g.D.Disk.fault_count) (count_of g.D.Disk.fuse_count) c.args.settings
    c.args.parts.volumes.items c.unlocked-parts.result.0.volumes.items =
    subst (λ (z : Vec (Volume g.row.D.Denot g.row.P.Denot) Global). AreStill (VolumeStands g.D.Disk.Tells g.D.Disk.files g.P.Piece.Tells) (count_of g.D.Disk.fault_count)
    (count_of g.D.Disk.fuse_count) c.args.settings c.args.parts.volumes.items z.items) (sym c.unlocked-parts.ensures.volumes) back.volumes in
    let same : c.unlocked-parts.result.0.arms.items ≡ c.args.parts.arms.items = ap (λ (z : Vec g.row.A.Denot Global). z.items) c.unlocked-parts.ensures.arms ∙ back.arms in
    record {
      volumes =
          subst (λ (z : Vec (Volume g.row.D.Denot g.row.P.Denot) Global). AreVolumes IsVolumeOf c.args.settings z.items) (sym c.unlocked-parts.ensures.volumes) c.run_locked-locked.ensures.volumes;
      directory = left.1;
      arms = ap (λ (z : Vec g.row.A.Denot Global). length z.items) c.unlocked-parts.ensures.arms ∙ c.run_locked-locked.ensures.arms;
      refused = record { volumes = still; directory = directory; arms = same };
      replies = tt;
      suits = tt;
      bad = tt;
      blames = tt;
      fits = tt;
      upwards = tt;
      arms_rise = same_arms g.A.Arm.is_sure g.A.Arm.fault_count same;
      rises = still_counts still directory;
      unfused = still_fuses still directory;
      legal = tt;
    }

pub returns-in_default-clause-arms_rise : goal.returns-in_default-clause-arms_rise
returns-in_default-clause-arms_rise g c = same_arms g.A.Arm.is_sure g.A.Arm.fault_count refl

pub returns-clause-refused : goal.returns-clause-refused
returns-clause-refused g c = record {
  volumes = still_self c.args.parts.volumes.items;
  directory = c.in-Err.ensures.refused;
  arms = refl;
}

pub returns-clause-arms_rise : goal.returns-clause-arms_rise
returns-clause-arms_rise g c = same_arms g.A.Arm.is_sure g.A.Arm.fault_count refl

pub returns-in_default-clause-unfused : goal.returns-in_default-clause-unfused
returns-in_default-clause-unfused g c = same_fuses refl

pub returns-clause-unfused : goal.returns-clause-unfused
returns-clause-unfused g c = same_fuses c.in-Err.ensures.refused
