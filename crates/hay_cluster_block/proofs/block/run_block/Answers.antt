use Rattle.std.proofs.Common.{◌≡◌, ◌≤◌, ◌++◌, ◌-◌, ◌^◌, ℕ, List, Vec, Global, map, length, drop, reverse, refl, sym, ap, subst, ◌∙◌, vec_capacity}
use Rattle.std.specs.Prelude.{IfOk}
use Rattle.std.specs.List.{AllByRecursion, AllZip}
use Rattle.hay_needle.specs.declared.settings.Settings.{Settings}
use Rattle.hay_reply.specs.declared.Note.{Note}
use Rattle.hay_reply.specs.declared.Reply.{Reply}
use Rattle.hay_legal.specs.Known.{NoneFalls}
use Rattle.hay_directory.specs.State.{home_of}
use Rattle.hay_block.specs.declared.store.BlockNotes.{BlockNotes}
use Rattle.hay_block.specs.declared.worker.Job.{Job}
use Rattle.hay_block.specs.Lines.{AnswersSuited, AreItems, BlameArms}
use Rattle.hay_block.specs.Stores.{AreUpwards}
use Rattle.hay_cluster.specs.Causes.{StaySure}
use Rattle.hay_cluster.specs.Store.{Open, disks_of}
use Rattle.hay_cluster.proofs.Moves.{none_falls}
use Rattle.hay_cluster_block.proofs.Behind.{notes_of_block}
use Rattle.hay_cluster_block.proofs.RowsTold.{rows_told}
use Rattle.hay_cluster_block.proofs.Rising.{all_arms, all_split, arms_sure, blame_all, others_back, others_small, same_arms}
use Rattle.hay_cluster_block.proofs.Standing.{made, made_of}
use Rattle.hay_cluster_block.proofs.Whole.{arms_later, arms_stay, counts_rise, fuses_same, is_up, many_behind, ran, room_again, shape_again, stays, stays_self, were}
use Rattle.hay_cluster_block.specs.Blocks.{StaysAs}
use Rattle.hay_cluster_block.specs.Notes.{AreWithin, entered_rows}
use Rattle.hay_cluster_block.proofs.block.run_block.Goals as goal

pub run_on_locks-parts-requires-clause-volumes : goal.run_on_locks-parts-requires-clause-volumes
run_on_locks-parts-requires-clause-volumes g c κs within =
    let p = c.into_parts-directory in
    let was =
    made_of c.args.cluster p.result.settings p.result.directory p.result.volumes.items p.result.arms.items (sym p.ensures.settings) (sym p.ensures.directory)
    (sym p.ensures.volumes) (sym p.ensures.arms) in
    were was p.ensures.shape c.requires.up

pub restored-requires-clause-shape : goal.restored-requires-clause-shape
restored-requires-clause-shape g c =
    let p = c.into_parts-directory in
    let was =
    made_of c.args.cluster p.result.settings p.result.directory p.result.volumes.items p.result.arms.items (sym p.ensures.settings) (sym p.ensures.directory)
    (sym p.ensures.volumes) (sym p.ensures.arms) in
    let q = c.run_on_locks-parts in
    shape_again was p.ensures.shape c.requires.up q.result.0.directory q.result.0.volumes.items (length c.args.jobs.now) c.in-Ok.arms.items c.in-Ok.others.items
    q.result.0.arms.items c.in-Ok.ensures.first c.in-Ok.ensures.others c.requires.few q.ensures.arms
    q.ensures.volumes q.ensures.directory

pub restored-requires-in-Err-answer-clause-shape : goal.restored-requires-in-Err-answer-clause-shape
restored-requires-in-Err-answer-clause-shape g c =
    let p = c.into_parts-directory in
    let was =
    made_of c.args.cluster p.result.settings p.result.directory p.result.volumes.items p.result.arms.items (sym p.ensures.settings) (sym p.ensures.directory)
    (sym p.ensures.volumes) (sym p.ensures.arms) in
    let q = c.run_on_locks-parts in
    shape_again was p.ensures.shape c.requires.up q.result.0.directory q.result.0.volumes.items (length c.args.jobs.now) c.in-Ok.arms.items c.in-Ok.others.items
    q.result.0.arms.items c.in-Ok.ensures.first c.in-Ok.ensures.others c.requires.few q.ensures.arms
    q.ensures.volumes q.ensures.directory

pub returns-in-Ok-answer-clause-up : goal.returns-in-Ok-answer-clause-up
returns-in-Ok-answer-clause-up g c =
    let p = c.into_parts-directory in
    let was =
    made_of c.args.cluster p.result.settings p.result.directory p.result.volumes.items p.result.arms.items (sym p.ensures.settings) (sym p.ensures.directory)
    (sym p.ensures.volumes) (sym p.ensures.arms) in
    let q = c.run_on_locks-parts in
    let is = made_of c.restored.result p.result.settings q.result.0.directory q.result.0.volumes.items (q.result.0.arms.items ++ reverse c.in-Ok.others.items)
    c.restored.ensures.settings c.restored.ensures.directory c.restored.ensures.volumes c.restored.ensures.arms in
    is_up was p.ensures.shape c.requires.up is q.ensures.volumes q.ensures.directory

pub returns-in-Ok-answer-clause-counts : goal.returns-in-Ok-answer-clause-counts
returns-in-Ok-answer-clause-counts g c =
    let p = c.into_parts-directory in
    let was =
    made_of c.args.cluster p.result.settings p.result.directory p.result.volumes.items p.result.arms.items (sym p.ensures.settings) (sym p.ensures.directory)
    (sym p.ensures.volumes) (sym p.ensures.arms) in
    let q = c.run_on_locks-parts in
    let is = made_of c.restored.result p.result.settings q.result.0.directory q.result.0.volumes.items (q.result.0.arms.items ++ reverse c.in-Ok.others.items)
    c.restored.ensures.settings c.restored.ensures.directory c.restored.ensures.volumes c.restored.ensures.arms in
    counts_rise was p.ensures.shape c.requires.up is q.ensures.volumes q.ensures.directory g.D.Disk.fault_count q.ensures.rises

pub returns-in-Ok-answer-clause-arm_counts : goal.returns-in-Ok-answer-clause-arm_counts
returns-in-Ok-answer-clause-arm_counts g c =
    let p = c.into_parts-directory in
    let was =
    made_of c.args.cluster p.result.settings p.result.directory p.result.volumes.items p.result.arms.items (sym p.ensures.settings) (sym p.ensures.directory)
    (sym p.ensures.volumes) (sym p.ensures.arms) in
    let q = c.run_on_locks-parts in
    let is = made_of c.restored.result p.result.settings q.result.0.directory q.result.0.volumes.items (q.result.0.arms.items ++ reverse c.in-Ok.others.items)
    c.restored.ensures.settings c.restored.ensures.directory c.restored.ensures.volumes c.restored.ensures.arms in
    let later =
    all_arms g.A.Arm.is_sure g.A.Arm.fault_count (length c.args.jobs.now) p.result.arms.items c.in-Ok.arms.items q.result.0.arms.items c.in-Ok.others.items
    c.in-Ok.ensures.first c.in-Ok.ensures.others q.ensures.arms_rise in
    arms_later was p.ensures.shape c.requires.up is g.A.Arm.is_sure g.A.Arm.fault_count later

pub returns-in-Ok-answer-clause-sure_arms : goal.returns-in-Ok-answer-clause-sure_arms
returns-in-Ok-answer-clause-sure_arms g c =
    let p = c.into_parts-directory in
    let was =
    made_of c.args.cluster p.result.settings p.result.directory p.result.volumes.items p.result.arms.items (sym p.ensures.settings) (sym p.ensures.directory)
    (sym p.ensures.volumes) (sym p.ensures.arms) in
    let q = c.run_on_locks-parts in
    let is = made_of c.restored.result p.result.settings q.result.0.directory q.result.0.volumes.items (q.result.0.arms.items ++ reverse c.in-Ok.others.items)
    c.restored.ensures.settings c.restored.ensures.directory c.restored.ensures.volumes c.restored.ensures.arms in
    let later =
    all_arms g.A.Arm.is_sure g.A.Arm.fault_count (length c.args.jobs.now) p.result.arms.items c.in-Ok.arms.items q.result.0.arms.items c.in-Ok.others.items
    c.in-Ok.ensures.first c.in-Ok.ensures.others q.ensures.arms_rise in
    arms_stay was p.ensures.shape c.requires.up is g.A.Arm.is_sure g.A.Arm.fault_count later

pub returns-in-Ok-answer-clause-other_arms : goal.returns-in-Ok-answer-clause-other_arms
returns-in-Ok-answer-clause-other_arms g c =
    let p = c.into_parts-directory in
    let n : ℕ = length c.args.jobs.now in
    let q = c.run_on_locks-parts in
    ap (drop n) c.restored.ensures.arms
    ∙ (others_back n p.result.arms.items c.in-Ok.others.items q.result.0.arms.items c.in-Ok.ensures.others q.ensures.arms ∙ ap (drop n) p.ensures.arms)

pub returns-in-Err-answer-clause-up : goal.returns-in-Err-answer-clause-up
returns-in-Err-answer-clause-up g c =
    let p = c.into_parts-directory in
    let was =
    made_of c.args.cluster p.result.settings p.result.directory p.result.volumes.items p.result.arms.items (sym p.ensures.settings) (sym p.ensures.directory)
    (sym p.ensures.volumes) (sym p.ensures.arms) in
    let q = c.run_on_locks-parts in
    let is = made_of c.restored-in-Err-answer.result p.result.settings q.result.0.directory q.result.0.volumes.items (q.result.0.arms.items ++ reverse c.in-Ok.others.items)
    c.restored-in-Err-answer.ensures.settings c.restored-in-Err-answer.ensures.directory c.restored-in-Err-answer.ensures.volumes c.restored-in-Err-answer.ensures.arms in
    is_up was p.ensures.shape c.requires.up is q.ensures.volumes q.ensures.directory

pub returns-in-Err-answer-clause-counts : goal.returns-in-Err-answer-clause-counts
returns-in-Err-answer-clause-counts g c =
    let p = c.into_parts-directory in
    let was =
    made_of c.args.cluster p.result.settings p.result.directory p.result.volumes.items p.result.arms.items (sym p.ensures.settings) (sym p.ensures.directory)
    (sym p.ensures.volumes) (sym p.ensures.arms) in
    let q = c.run_on_locks-parts in
    let is = made_of c.restored-in-Err-answer.result p.result.settings q.result.0.directory q.result.0.volumes.items (q.result.0.arms.items ++ reverse c.in-Ok.others.items)
    c.restored-in-Err-answer.ensures.settings c.restored-in-Err-answer.ensures.directory c.restored-in-Err-answer.ensures.volumes c.restored-in-Err-answer.ensures.arms in
    counts_rise was p.ensures.shape c.requires.up is q.ensures.volumes q.ensures.directory g.D.Disk.fault_count q.ensures.rises

pub returns-in-Err-answer-clause-arm_counts : goal.returns-in-Err-answer-clause-arm_counts
returns-in-Err-answer-clause-arm_counts g c =
    let p = c.into_parts-directory in
    let was =
    made_of c.args.cluster p.result.settings p.result.directory p.result.volumes.items p.result.arms.items (sym p.ensures.settings) (sym p.ensures.directory)
    (sym p.ensures.volumes) (sym p.ensures.arms) in
    let q = c.run_on_locks-parts in
    let is = made_of c.restored-in-Err-answer.result p.result.settings q.result.0.directory q.result.0.volumes.items (q.result.0.arms.items ++ reverse c.in-Ok.others.items)
    c.restored-in-Err-answer.ensures.settings c.restored-in-Err-answer.ensures.directory c.restored-in-Err-answer.ensures.volumes c.restored-in-Err-answer.ensures.arms in
    let later =
    all_arms g.A.Arm.is_sure g.A.Arm.fault_count (length c.args.jobs.now) p.result.arms.items c.in-Ok.arms.items q.result.0.arms.items c.in-Ok.others.items
    c.in-Ok.ensures.first c.in-Ok.ensures.others q.ensures.arms_rise in
    arms_later was p.ensures.shape c.requires.up is g.A.Arm.is_sure g.A.Arm.fault_count later

pub returns-in-Err-answer-clause-sure_arms : goal.returns-in-Err-answer-clause-sure_arms
returns-in-Err-answer-clause-sure_arms g c =
    let p = c.into_parts-directory in
    let was =
    made_of c.args.cluster p.result.settings p.result.directory p.result.volumes.items p.result.arms.items (sym p.ensures.settings) (sym p.ensures.directory)
    (sym p.ensures.volumes) (sym p.ensures.arms) in
    let q = c.run_on_locks-parts in
    let is = made_of c.restored-in-Err-answer.result p.result.settings q.result.0.directory q.result.0.volumes.items (q.result.0.arms.items ++ reverse c.in-Ok.others.items)
    c.restored-in-Err-answer.ensures.settings c.restored-in-Err-answer.ensures.directory c.restored-in-Err-answer.ensures.volumes c.restored-in-Err-answer.ensures.arms in
    let later =
    all_arms g.A.Arm.is_sure g.A.Arm.fault_count (length c.args.jobs.now) p.result.arms.items c.in-Ok.arms.items q.result.0.arms.items c.in-Ok.others.items
    c.in-Ok.ensures.first c.in-Ok.ensures.others q.ensures.arms_rise in
    arms_stay was p.ensures.shape c.requires.up is g.A.Arm.is_sure g.A.Arm.fault_count later

pub returns-in-Err-answer-clause-other_arms : goal.returns-in-Err-answer-clause-other_arms
returns-in-Err-answer-clause-other_arms g c =
    let p = c.into_parts-directory in
    let n : ℕ = length c.args.jobs.now in
    let q = c.run_on_locks-parts in
    ap (drop n) c.restored-in-Err-answer.ensures.arms
    ∙ (others_back n p.result.arms.items c.in-Ok.others.items q.result.0.arms.items c.in-Ok.ensures.others q.ensures.arms ∙ ap (drop n) p.ensures.arms)

pub returns-in-Ok-answer-clause-suits : goal.returns-in-Ok-answer-clause-suits
returns-in-Ok-answer-clause-suits g c =
    let p = c.into_parts-directory in
    let q = c.run_on_locks-parts in
    subst (λ (s : Settings). AllZip (λ (js : Vec Job Global) (rs : Vec Reply Global). AllZip (AnswersSuited s) js.items rs.items) c.args.jobs.now
    c.told-replies.result.replies.items) p.ensures.settings
    (subst (λ (z : Vec (Vec Reply Global) Global). AllZip (λ (js : Vec Job Global) (rs : Vec Reply Global). AllZip (AnswersSuited p.result.settings) js.items rs.items)
    c.args.jobs.now z.items) (sym c.told-replies.ensures.replies)
    (rw c.in-Ok-answer.is at q.ensures.suits))

pub returns-in-Ok-answer-clause-blames : goal.returns-in-Ok-answer-clause-blames
returns-in-Ok-answer-clause-blames g c =
    let p = c.into_parts-directory in
    let q = c.run_on_locks-parts in
    let replies = c.in-Ok-answer.answers.replies.items in
    let blames =
    blame_all g.A.Arm.is_sure g.A.Arm.fault_count (length c.args.jobs.now) p.result.arms.items c.in-Ok.arms.items q.result.0.arms.items (reverse c.in-Ok.others.items)
    (map (λ (rs : Vec Reply Global). rs.items) replies) c.in-Ok.ensures.first (rw c.in-Ok-answer.is at q.ensures.blames) in
    subst (λ (z : Vec (Vec Reply Global) Global). BlameArms g.A.Arm.is_sure g.A.Arm.fault_count c.args.cluster.arms c.restored.result.arms
    (map (λ (rs : Vec Reply Global). rs.items) z.items)) (sym c.told-replies.ensures.replies)
    (subst (λ (z : List g.row.A.Denot). BlameArms g.A.Arm.is_sure g.A.Arm.fault_count c.args.cluster.arms z (map (λ (rs : Vec Reply Global). rs.items) replies))
    (sym c.restored.ensures.arms)
    (subst (λ (z : List g.row.A.Denot). BlameArms g.A.Arm.is_sure g.A.Arm.fault_count z (q.result.0.arms.items ++ reverse c.in-Ok.others.items)
    (map (λ (rs : Vec Reply Global). rs.items) replies)) p.ensures.arms blames))

pub returns-in-Ok-answer-clause-notes : goal.returns-in-Ok-answer-clause-notes
returns-in-Ok-answer-clause-notes g c =
    let p = c.into_parts-directory in
    let q = c.run_on_locks-parts in
    let upwards =
    subst (λ (s : Settings). IfOk c.in-Ok-answer.answers.notes (λ (notes : BlockNotes). AreUpwards s.volumes notes.logs.items)) p.ensures.settings (rw c.in-Ok-answer.is at q.ensures.upwards) in
    let was =
    made_of c.args.cluster p.result.settings p.result.directory p.result.volumes.items p.result.arms.items (sym p.ensures.settings) (sym p.ensures.directory)
    (sym p.ensures.volumes) (sym p.ensures.arms) in
    let shape =
    shape_again was p.ensures.shape c.requires.up q.result.0.directory q.result.0.volumes.items (length c.args.jobs.now) c.in-Ok.arms.items c.in-Ok.others.items
    q.result.0.arms.items c.in-Ok.ensures.first c.in-Ok.ensures.others c.requires.few q.ensures.arms
    q.ensures.volumes q.ensures.directory in
    let within =
    subst (λ (s : Settings). IfOk c.in-Ok-answer.answers.notes (λ (e : BlockNotes). IfOk c.told-replies.result.notes
    (λ (notes : Vec Note Global). AreWithin s.volumes (entered_rows (home_of q.result.0.directory) c.args.jobs.now e)))) (shape.directory ∙ p.ensures.settings) c.told-replies.ensures.within in
    notes_of_block c.args.cluster.settings.volumes (home_of q.result.0.directory) c.args.jobs.now c.in-Ok-answer.answers.notes c.told-replies.result.notes upwards within
    c.told-replies.ensures.notes c.told-replies.ensures.wanted c.told-replies.ensures.fits

pub returns-in-Ok-answer-clause-rows : goal.returns-in-Ok-answer-clause-rows
returns-in-Ok-answer-clause-rows g c =
    let q = c.run_on_locks-parts in
    rows_told q.result.0.directory c.restored.result.directory c.args.jobs.now c.restored.ensures.directory c.in-Ok-answer.answers.notes c.told-replies.result.notes
    c.told-replies.ensures.notes c.told-replies.ensures.wanted

pub returns-in-Ok-answer-clause-legal : goal.returns-in-Ok-answer-clause-legal
returns-in-Ok-answer-clause-legal g c =
    let p = c.into_parts-directory in
    let was =
    made_of c.args.cluster p.result.settings p.result.directory p.result.volumes.items p.result.arms.items (sym p.ensures.settings) (sym p.ensures.directory)
    (sym p.ensures.volumes) (sym p.ensures.arms) in
    let q = c.run_on_locks-parts in
    let is = made_of c.restored.result p.result.settings q.result.0.directory q.result.0.volumes.items (q.result.0.arms.items ++ reverse c.in-Ok.others.items)
    c.restored.ensures.settings c.restored.ensures.directory c.restored.ensures.volumes c.restored.ensures.arms in
    let many =
    many_behind was p.ensures.shape c.requires.up (length c.args.jobs.now) c.in-Ok.arms.items c.in-Ok.others.items q.result.0.arms.items c.in-Ok.ensures.first
    c.in-Ok.ensures.others c.requires.few q.ensures.arms in
    let split = all_split (length c.args.jobs.now) p.result.arms.items c.in-Ok.arms.items c.in-Ok.others.items c.in-Ok.ensures.first c.in-Ok.ensures.others in
    let small = others_small g.A.Arm.fault_count (2 ^ 64 - 1) c.in-Ok.others.items
    (subst (AllByRecursion (λ (arm : g.row.A.Denot). g.A.Arm.fault_count arm ≤ 2 ^ 64 - 1)) c.as_slice.ensures.value c.read_counts.ensures) in
    let said : c.told-replies.result.replies ≡ c.in-Ok-answer.answers.replies = c.told-replies.ensures.replies in
    let replied = subst (λ (z : Vec (Vec Reply Global) Global). AllZip (λ (js : Vec Job Global) (rs : Vec Reply Global). length js.items ≡ length rs.items) c.args.jobs.now z.items) (sym said)
    (rw c.in-Ok-answer.is at q.ensures.replies) in
    let legal = rw c.in-Ok-answer.is at q.ensures.legal in
    ran was p.ensures.shape c.requires.up is q.ensures.volumes q.ensures.directory many g.D.Disk.Tells g.D.Disk.files g.P.Piece.Tells g.D.Disk.fault_count g.D.Disk.fuse_count g.A.Arm.fault_count
    c.args.jobs.now c.told-replies.result.replies.items c.in-Ok.arms.items (reverse c.in-Ok.others.items) q.result.0.arms.items split refl replied c.in-Ok-answer.answers.notes
    c.told-replies.result.notes c.told-replies.ensures.notes c.told-replies.ensures.wanted
    (λ k stand items are distinct. legal k (map g.A.Arm.fault_count (reverse c.in-Ok.others.items)) stand small items
    (subst (λ (z : Vec (Vec Reply Global) Global). AreItems (map (λ (js : Vec Job Global). js.items) c.args.jobs.now) (map (λ (rs : Vec Reply Global). rs.items) z.items) items) said are) distinct)

pub returns-in-Err-answer-clause-refused : goal.returns-in-Err-answer-clause-refused
returns-in-Err-answer-clause-refused g c =
    let p = c.into_parts-directory in
    let was =
    made_of c.args.cluster p.result.settings p.result.directory p.result.volumes.items p.result.arms.items (sym p.ensures.settings) (sym p.ensures.directory)
    (sym p.ensures.volumes) (sym p.ensures.arms) in
    let q = c.run_on_locks-parts in
    let is = made_of c.restored-in-Err-answer.result p.result.settings q.result.0.directory q.result.0.volumes.items (q.result.0.arms.items ++ reverse c.in-Ok.others.items)
    c.restored-in-Err-answer.ensures.settings c.restored-in-Err-answer.ensures.directory c.restored-in-Err-answer.ensures.volumes c.restored-in-Err-answer.ensures.arms in
    let many =
    many_behind was p.ensures.shape c.requires.up (length c.args.jobs.now) c.in-Ok.arms.items c.in-Ok.others.items q.result.0.arms.items c.in-Ok.ensures.first
    c.in-Ok.ensures.others c.requires.few q.ensures.arms in
    let split = all_split (length c.args.jobs.now) p.result.arms.items c.in-Ok.arms.items c.in-Ok.others.items c.in-Ok.ensures.first c.in-Ok.ensures.others in
    let back = rw c.in-Err-answer.is at q.ensures.refused in
    stays was p.ensures.shape c.requires.up is q.ensures.volumes q.ensures.directory many g.D.Disk.Tells g.D.Disk.files g.P.Piece.Tells g.D.Disk.fault_count g.D.Disk.fuse_count g.A.Arm.fault_count
    back.directory (ap (λ (z : List g.row.A.Denot). z ++ reverse c.in-Ok.others.items) back.arms ∙ sym split) back.volumes

pub returns-in-Err-clause-counts : goal.returns-in-Err-clause-counts
returns-in-Err-clause-counts g c =
    let p = c.into_parts-directory in
    let was =
    made_of c.args.cluster p.result.settings p.result.directory p.result.volumes.items p.result.arms.items (sym p.ensures.settings) (sym p.ensures.directory)
    (sym p.ensures.volumes) (sym p.ensures.arms) in
    let is =
    made_of c.from_parts.result p.result.settings p.result.directory p.result.volumes.items c.in-Err.arms.items c.from_parts.ensures.settings c.from_parts.ensures.directory
    c.from_parts.ensures.volumes c.from_parts.ensures.arms in
    let same : c.from_parts.result ≡ c.args.cluster =
    is ∙ (ap (λ (z : Vec g.row.A.Denot Global). made p.result.settings p.result.directory p.result.volumes.items z.items) c.in-Err.ensures.refused ∙ sym was) in
    subst (λ (z : Open g.row.D.Denot g.row.P.Denot g.row.A.Denot). NoneFalls (map g.D.Disk.fault_count (disks_of c.args.cluster)) (map g.D.Disk.fault_count (disks_of z))) (sym same)
    (none_falls (map g.D.Disk.fault_count (disks_of c.args.cluster)))

pub returns-in-Err-clause-arm_counts : goal.returns-in-Err-clause-arm_counts
returns-in-Err-clause-arm_counts g c =
    let p = c.into_parts-directory in
    let was =
    made_of c.args.cluster p.result.settings p.result.directory p.result.volumes.items p.result.arms.items (sym p.ensures.settings) (sym p.ensures.directory)
    (sym p.ensures.volumes) (sym p.ensures.arms) in
    let is =
    made_of c.from_parts.result p.result.settings p.result.directory p.result.volumes.items c.in-Err.arms.items c.from_parts.ensures.settings c.from_parts.ensures.directory
    c.from_parts.ensures.volumes c.from_parts.ensures.arms in
    let same : c.from_parts.result ≡ c.args.cluster =
    is ∙ (ap (λ (z : Vec g.row.A.Denot Global). made p.result.settings p.result.directory p.result.volumes.items z.items) c.in-Err.ensures.refused ∙ sym was) in
    subst (λ (z : Open g.row.D.Denot g.row.P.Denot g.row.A.Denot). NoneFalls (map g.A.Arm.fault_count c.args.cluster.arms) (map g.A.Arm.fault_count z.arms)) (sym same)
    (none_falls (map g.A.Arm.fault_count c.args.cluster.arms))

pub returns-in-Err-clause-sure_arms : goal.returns-in-Err-clause-sure_arms
returns-in-Err-clause-sure_arms g c =
    let p = c.into_parts-directory in
    let was =
    made_of c.args.cluster p.result.settings p.result.directory p.result.volumes.items p.result.arms.items (sym p.ensures.settings) (sym p.ensures.directory)
    (sym p.ensures.volumes) (sym p.ensures.arms) in
    let is =
    made_of c.from_parts.result p.result.settings p.result.directory p.result.volumes.items c.in-Err.arms.items c.from_parts.ensures.settings c.from_parts.ensures.directory
    c.from_parts.ensures.volumes c.from_parts.ensures.arms in
    let same : c.from_parts.result ≡ c.args.cluster =
    is ∙ (ap (λ (z : Vec g.row.A.Denot Global). made p.result.settings p.result.directory p.result.volumes.items z.items) c.in-Err.ensures.refused ∙ sym was) in
    subst (λ (z : Open g.row.D.Denot g.row.P.Denot g.row.A.Denot). StaySure g.A.Arm.is_sure g.A.Arm.fault_count c.args.cluster.arms z.arms) (sym same)
    (arms_sure g.A.Arm.is_sure g.A.Arm.fault_count c.args.cluster.arms c.args.cluster.arms (same_arms g.A.Arm.is_sure g.A.Arm.fault_count c.args.cluster.arms))

pub returns-in-Err-clause-other_arms : goal.returns-in-Err-clause-other_arms
returns-in-Err-clause-other_arms g c =
    let p = c.into_parts-directory in
    let n : ℕ = length c.args.jobs.now in
    ap (drop n) c.from_parts.ensures.arms
    ∙ (ap (λ (z : Vec g.row.A.Denot Global). drop n z.items) c.in-Err.ensures.refused ∙ ap (drop n) p.ensures.arms)

pub restored-requires-clause-room : goal.restored-requires-clause-room
restored-requires-clause-room g c =
    let p = c.into_parts-directory in
    let was =
    made_of c.args.cluster p.result.settings p.result.directory p.result.volumes.items p.result.arms.items (sym p.ensures.settings) (sym p.ensures.directory)
    (sym p.ensures.volumes) (sym p.ensures.arms) in
    let q = c.run_on_locks-parts in
    room_again was p.ensures.shape c.requires.up (vec_capacity c.in-Ok.others) (length c.args.jobs.now) c.in-Ok.arms.items c.in-Ok.others.items q.result.0.arms.items
    c.in-Ok.ensures.first c.in-Ok.ensures.others c.requires.few q.ensures.arms
    c.in-Ok.ensures.room

pub restored-requires-in-Err-answer-clause-room : goal.restored-requires-in-Err-answer-clause-room
restored-requires-in-Err-answer-clause-room g c =
    let p = c.into_parts-directory in
    let was =
    made_of c.args.cluster p.result.settings p.result.directory p.result.volumes.items p.result.arms.items (sym p.ensures.settings) (sym p.ensures.directory)
    (sym p.ensures.volumes) (sym p.ensures.arms) in
    let q = c.run_on_locks-parts in
    room_again was p.ensures.shape c.requires.up (vec_capacity c.in-Ok.others) (length c.args.jobs.now) c.in-Ok.arms.items c.in-Ok.others.items q.result.0.arms.items
    c.in-Ok.ensures.first c.in-Ok.ensures.others c.requires.few q.ensures.arms
    c.in-Ok.ensures.room

pub returns-in-Err-clause-refused : goal.returns-in-Err-clause-refused
returns-in-Err-clause-refused g c =
    let p = c.into_parts-directory in
    let was =
    made_of c.args.cluster p.result.settings p.result.directory p.result.volumes.items p.result.arms.items (sym p.ensures.settings) (sym p.ensures.directory)
    (sym p.ensures.volumes) (sym p.ensures.arms) in
    let is =
    made_of c.from_parts.result p.result.settings p.result.directory p.result.volumes.items c.in-Err.arms.items c.from_parts.ensures.settings c.from_parts.ensures.directory
    c.from_parts.ensures.volumes c.from_parts.ensures.arms in
    let same : c.from_parts.result ≡ c.args.cluster =
    is ∙ (ap (λ (z : Vec g.row.A.Denot Global). made p.result.settings p.result.directory p.result.volumes.items z.items) c.in-Err.ensures.refused ∙ sym was) in
    subst (λ (z : Open g.row.D.Denot g.row.P.Denot g.row.A.Denot). StaysAs g.D.Disk.Tells g.D.Disk.files g.P.Piece.Tells g.D.Disk.fault_count g.D.Disk.fuse_count
    g.A.Arm.fault_count c.args.cluster z) (sym same)
    (stays_self g.D.Disk.Tells g.D.Disk.files g.P.Piece.Tells g.D.Disk.fault_count g.D.Disk.fuse_count g.A.Arm.fault_count c.args.cluster)

pub returns-in-Ok-answer-clause-fuses : goal.returns-in-Ok-answer-clause-fuses
returns-in-Ok-answer-clause-fuses g c =
    let p = c.into_parts-directory in
    let was =
    made_of c.args.cluster p.result.settings p.result.directory p.result.volumes.items p.result.arms.items (sym p.ensures.settings) (sym p.ensures.directory)
    (sym p.ensures.volumes) (sym p.ensures.arms) in
    let q = c.run_on_locks-parts in
    let is = made_of c.restored.result p.result.settings q.result.0.directory q.result.0.volumes.items (q.result.0.arms.items ++ reverse c.in-Ok.others.items)
    c.restored.ensures.settings c.restored.ensures.directory c.restored.ensures.volumes c.restored.ensures.arms in
    fuses_same was p.ensures.shape c.requires.up is q.ensures.volumes q.ensures.directory g.D.Disk.fuse_count q.ensures.unfused

pub returns-in-Err-answer-clause-fuses : goal.returns-in-Err-answer-clause-fuses
returns-in-Err-answer-clause-fuses g c =
    let p = c.into_parts-directory in
    let was =
    made_of c.args.cluster p.result.settings p.result.directory p.result.volumes.items p.result.arms.items (sym p.ensures.settings) (sym p.ensures.directory)
    (sym p.ensures.volumes) (sym p.ensures.arms) in
    let q = c.run_on_locks-parts in
    let is = made_of c.restored-in-Err-answer.result p.result.settings q.result.0.directory q.result.0.volumes.items (q.result.0.arms.items ++ reverse c.in-Ok.others.items)
    c.restored-in-Err-answer.ensures.settings c.restored-in-Err-answer.ensures.directory c.restored-in-Err-answer.ensures.volumes c.restored-in-Err-answer.ensures.arms in
    fuses_same was p.ensures.shape c.requires.up is q.ensures.volumes q.ensures.directory g.D.Disk.fuse_count q.ensures.unfused

pub returns-in-Err-clause-fuses : goal.returns-in-Err-clause-fuses
returns-in-Err-clause-fuses g c =
    let p = c.into_parts-directory in
    let was =
    made_of c.args.cluster p.result.settings p.result.directory p.result.volumes.items p.result.arms.items (sym p.ensures.settings) (sym p.ensures.directory)
    (sym p.ensures.volumes) (sym p.ensures.arms) in
    let is =
    made_of c.from_parts.result p.result.settings p.result.directory p.result.volumes.items c.in-Err.arms.items c.from_parts.ensures.settings c.from_parts.ensures.directory
    c.from_parts.ensures.volumes c.from_parts.ensures.arms in
    let same : c.from_parts.result ≡ c.args.cluster =
    is ∙ (ap (λ (z : Vec g.row.A.Denot Global). made p.result.settings p.result.directory p.result.volumes.items z.items) c.in-Err.ensures.refused ∙ sym was) in
    ap (λ (z : Open g.row.D.Denot g.row.P.Denot g.row.A.Denot). map g.D.Disk.fuse_count (disks_of z)) same
