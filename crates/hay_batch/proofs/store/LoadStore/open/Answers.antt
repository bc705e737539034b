use Rattle.std.proofs.Common.{◌≡◌, ◌∙◌, ◌++◌, List, length, take, drop, refl, sym, ap, subst, arith}
use Rattle.hay_mount.specs.Mounts.{InOrder, IsGivenDisk, IsMountedDisk}
use Rattle.hay_batch.specs.Shelves.{disk_count}
use Rattle.hay_batch.proofs.OpenedLaws.{back_slots, left_slots, made_disks, made_ends, made_of, made_ready, made_rows, made_sound, made_stands, refused_damaged, refused_failed, rests_at}
use Rattle.hay_batch.proofs.StoreLaws.{items_written}
use Rattle.hay_batch.proofs.store.LoadStore.open.Goals as goal

pub open_disks-requires-clause-rests : goal.open_disks-requires-clause-rests
open_disks-requires-clause-rests g c =
    let xs = c.in-Ok.disks.items in
    let value : c.as_mut_slice.result.now ≡ xs = c.as_mut_slice.ensures.value in
    let taken : InOrder (λ slot disk. IsMountedDisk g.D.Disk.Tells g.D.Disk.files g.D.Disk.drawn g.D.Disk.fault_count g.D.Disk.fuse_count (g.H.Shelf.disks c.args.shelf.now slot)
    disk) 0 c.as_mut_slice.result.now =
    subst (λ (l : List g.row.D.Denot). InOrder (λ slot disk. IsMountedDisk g.D.Disk.Tells g.D.Disk.files g.D.Disk.drawn g.D.Disk.fault_count g.D.Disk.fuse_count
    (g.H.Shelf.disks c.args.shelf.now slot) disk) 0 l) (sym value) c.in-Ok.ensures.disks in
    let count : length c.as_mut_slice.result.now ≡ disk_count c.args.settings = ap (λ (l : List g.row.D.Denot). length l) value ∙ c.in-Ok.ensures.count ∙ c.disk_count.ensures.is in
    rests_at g.D.Disk.Tells g.D.Disk.files g.D.Disk.drawn g.D.Disk.fault_count g.D.Disk.fuse_count c.args.settings c.requires.limits (g.H.Shelf.disks c.args.shelf.now)
    c.as_mut_slice.result.now c.as_mut_slice.result.now count taken refl

pub returns-in-Ok-open_disks-clause-opened : goal.returns-in-Ok-open_disks-clause-opened
returns-in-Ok-open_disks-clause-opened g c =
    let xs = c.in-Ok.disks.items in
    let ws = c.open_disks.new.disks in
    let value : c.as_mut_slice.result.now ≡ xs = c.as_mut_slice.ensures.value in
    let taken : InOrder (λ slot disk. IsMountedDisk g.D.Disk.Tells g.D.Disk.files g.D.Disk.drawn g.D.Disk.fault_count g.D.Disk.fuse_count (g.H.Shelf.disks c.args.shelf.now slot)
    disk) 0 c.as_mut_slice.result.now =
    subst (λ (l : List g.row.D.Denot). InOrder (λ slot disk. IsMountedDisk g.D.Disk.Tells g.D.Disk.files g.D.Disk.drawn g.D.Disk.fault_count g.D.Disk.fuse_count
    (g.H.Shelf.disks c.args.shelf.now slot) disk) 0 l) (sym value) c.in-Ok.ensures.disks in
    let count : length c.as_mut_slice.result.now ≡ disk_count c.args.settings = ap (λ (l : List g.row.D.Denot). length l) value ∙ c.in-Ok.ensures.count ∙ c.disk_count.ensures.is in
    let many : length ws ≡ length c.as_mut_slice.result.now = c.open_disks.ensures.moves.count in
    let whole : take c.in-Ok.disks.len (ws ++ drop (length ws) xs) ≡ ws =
    items_written c.in-Ok.disks.len ws xs (omega (arith, c.in-Ok.disks.ok.0)) (many ∙ ap (λ (l : List g.row.D.Denot). length l) value) in
    let told = c.assemble.ensures in
    let store = c.assemble.result in
    let kept = c.in-Ok-open_disks.kept in
    let files = c.in-Ok-open_disks.files.items in
    let opens = c.in-Ok-open_disks.ensures.opened in
    let made =
    made_of g.D.Disk.Tells g.D.Disk.files g.D.Disk.drawn g.D.Disk.fault_count g.D.Disk.fuse_count c.args.settings c.requires.limits (g.H.Shelf.disks c.args.shelf.now)
    c.as_mut_slice.result.now c.open_disks.new.disks count taken many kept files store (take c.in-Ok.disks.len (ws ++ drop (length ws) xs)) whole told.settings told.shape
    told.journal.0 told.journal.1 told.journal.2 told.directory told.replicas in
    λ tells s finds. made_stands g.D.Disk.Tells g.D.Disk.files g.D.Disk.drawn g.D.Disk.fault_count g.D.Disk.fuse_count c.args.settings c.requires.limits
    (g.H.Shelf.disks c.args.shelf.now) c.as_mut_slice.result.now c.open_disks.new.disks count taken many kept files store opens made tells s finds

pub returns-in-Ok-open_disks-clause-sound : goal.returns-in-Ok-open_disks-clause-sound
returns-in-Ok-open_disks-clause-sound g c =
    let xs = c.in-Ok.disks.items in
    let ws = c.open_disks.new.disks in
    let value : c.as_mut_slice.result.now ≡ xs = c.as_mut_slice.ensures.value in
    let taken : InOrder (λ slot disk. IsMountedDisk g.D.Disk.Tells g.D.Disk.files g.D.Disk.drawn g.D.Disk.fault_count g.D.Disk.fuse_count (g.H.Shelf.disks c.args.shelf.now slot)
    disk) 0 c.as_mut_slice.result.now =
    subst (λ (l : List g.row.D.Denot). InOrder (λ slot disk. IsMountedDisk g.D.Disk.Tells g.D.Disk.files g.D.Disk.drawn g.D.Disk.fault_count g.D.Disk.fuse_count
    (g.H.Shelf.disks c.args.shelf.now slot) disk) 0 l) (sym value) c.in-Ok.ensures.disks in
    let count : length c.as_mut_slice.result.now ≡ disk_count c.args.settings = ap (λ (l : List g.row.D.Denot). length l) value ∙ c.in-Ok.ensures.count ∙ c.disk_count.ensures.is in
    let many : length ws ≡ length c.as_mut_slice.result.now = c.open_disks.ensures.moves.count in
    let whole : take c.in-Ok.disks.len (ws ++ drop (length ws) xs) ≡ ws =
    items_written c.in-Ok.disks.len ws xs (omega (arith, c.in-Ok.disks.ok.0)) (many ∙ ap (λ (l : List g.row.D.Denot). length l) value) in
    let told = c.assemble.ensures in
    let store = c.assemble.result in
    let kept = c.in-Ok-open_disks.kept in
    let files = c.in-Ok-open_disks.files.items in
    let opens = c.in-Ok-open_disks.ensures.opened in
    let made =
    made_of g.D.Disk.Tells g.D.Disk.files g.D.Disk.drawn g.D.Disk.fault_count g.D.Disk.fuse_count c.args.settings c.requires.limits (g.H.Shelf.disks c.args.shelf.now)
    c.as_mut_slice.result.now c.open_disks.new.disks count taken many kept files store (take c.in-Ok.disks.len (ws ++ drop (length ws) xs)) whole told.settings told.shape
    told.journal.0 told.journal.1 told.journal.2 told.directory told.replicas in
    λ tells. made_sound g.D.Disk.Tells g.D.Disk.files g.D.Disk.drawn g.D.Disk.fault_count g.D.Disk.fuse_count c.args.settings c.requires.limits (g.H.Shelf.disks c.args.shelf.now)
    c.as_mut_slice.result.now c.open_disks.new.disks count taken many kept files store opens made tells

pub returns-in-Ok-open_disks-clause-disks : goal.returns-in-Ok-open_disks-clause-disks
returns-in-Ok-open_disks-clause-disks g c =
    let xs = c.in-Ok.disks.items in
    let ws = c.open_disks.new.disks in
    let value : c.as_mut_slice.result.now ≡ xs = c.as_mut_slice.ensures.value in
    let taken : InOrder (λ slot disk. IsMountedDisk g.D.Disk.Tells g.D.Disk.files g.D.Disk.drawn g.D.Disk.fault_count g.D.Disk.fuse_count (g.H.Shelf.disks c.args.shelf.now slot)
    disk) 0 c.as_mut_slice.result.now =
    subst (λ (l : List g.row.D.Denot). InOrder (λ slot disk. IsMountedDisk g.D.Disk.Tells g.D.Disk.files g.D.Disk.drawn g.D.Disk.fault_count g.D.Disk.fuse_count
    (g.H.Shelf.disks c.args.shelf.now slot) disk) 0 l) (sym value) c.in-Ok.ensures.disks in
    let count : length c.as_mut_slice.result.now ≡ disk_count c.args.settings = ap (λ (l : List g.row.D.Denot). length l) value ∙ c.in-Ok.ensures.count ∙ c.disk_count.ensures.is in
    let many : length ws ≡ length c.as_mut_slice.result.now = c.open_disks.ensures.moves.count in
    let whole : take c.in-Ok.disks.len (ws ++ drop (length ws) xs) ≡ ws =
    items_written c.in-Ok.disks.len ws xs (omega (arith, c.in-Ok.disks.ok.0)) (many ∙ ap (λ (l : List g.row.D.Denot). length l) value) in
    let told = c.assemble.ensures in
    let store = c.assemble.result in
    let kept = c.in-Ok-open_disks.kept in
    let files = c.in-Ok-open_disks.files.items in
    let opens = c.in-Ok-open_disks.ensures.opened in
    let made =
    made_of g.D.Disk.Tells g.D.Disk.files g.D.Disk.drawn g.D.Disk.fault_count g.D.Disk.fuse_count c.args.settings c.requires.limits (g.H.Shelf.disks c.args.shelf.now)
    c.as_mut_slice.result.now c.open_disks.new.disks count taken many kept files store (take c.in-Ok.disks.len (ws ++ drop (length ws) xs)) whole told.settings told.shape
    told.journal.0 told.journal.1 told.journal.2 told.directory told.replicas in
    made_disks g.D.Disk.Tells g.D.Disk.files g.D.Disk.drawn g.D.Disk.fault_count g.D.Disk.fuse_count c.args.settings c.requires.limits (g.H.Shelf.disks c.args.shelf.now)
    c.as_mut_slice.result.now c.open_disks.new.disks count taken many kept files store opens made c.open_disks.ensures.moves

pub returns-in-Ok-open_disks-clause-ready : goal.returns-in-Ok-open_disks-clause-ready
returns-in-Ok-open_disks-clause-ready g c =
    let xs = c.in-Ok.disks.items in
    let ws = c.open_disks.new.disks in
    let value : c.as_mut_slice.result.now ≡ xs = c.as_mut_slice.ensures.value in
    let taken : InOrder (λ slot disk. IsMountedDisk g.D.Disk.Tells g.D.Disk.files g.D.Disk.drawn g.D.Disk.fault_count g.D.Disk.fuse_count (g.H.Shelf.disks c.args.shelf.now slot)
    disk) 0 c.as_mut_slice.result.now =
    subst (λ (l : List g.row.D.Denot). InOrder (λ slot disk. IsMountedDisk g.D.Disk.Tells g.D.Disk.files g.D.Disk.drawn g.D.Disk.fault_count g.D.Disk.fuse_count
    (g.H.Shelf.disks c.args.shelf.now slot) disk) 0 l) (sym value) c.in-Ok.ensures.disks in
    let count : length c.as_mut_slice.result.now ≡ disk_count c.args.settings = ap (λ (l : List g.row.D.Denot). length l) value ∙ c.in-Ok.ensures.count ∙ c.disk_count.ensures.is in
    let many : length ws ≡ length c.as_mut_slice.result.now = c.open_disks.ensures.moves.count in
    let whole : take c.in-Ok.disks.len (ws ++ drop (length ws) xs) ≡ ws =
    items_written c.in-Ok.disks.len ws xs (omega (arith, c.in-Ok.disks.ok.0)) (many ∙ ap (λ (l : List g.row.D.Denot). length l) value) in
    let told = c.assemble.ensures in
    let store = c.assemble.result in
    let kept = c.in-Ok-open_disks.kept in
    let files = c.in-Ok-open_disks.files.items in
    let opens = c.in-Ok-open_disks.ensures.opened in
    let made =
    made_of g.D.Disk.Tells g.D.Disk.files g.D.Disk.drawn g.D.Disk.fault_count g.D.Disk.fuse_count c.args.settings c.requires.limits (g.H.Shelf.disks c.args.shelf.now)
    c.as_mut_slice.result.now c.open_disks.new.disks count taken many kept files store (take c.in-Ok.disks.len (ws ++ drop (length ws) xs)) whole told.settings told.shape
    told.journal.0 told.journal.1 told.journal.2 told.directory told.replicas in
    λ tells. made_ready g.D.Disk.Tells g.D.Disk.files g.D.Disk.drawn g.D.Disk.fault_count g.D.Disk.fuse_count c.args.settings c.requires.limits (g.H.Shelf.disks c.args.shelf.now)
    c.as_mut_slice.result.now c.open_disks.new.disks count taken many kept files store opens made tells

pub returns-in-Ok-open_disks-clause-homes : goal.returns-in-Ok-open_disks-clause-homes
returns-in-Ok-open_disks-clause-homes g c =
    let xs = c.in-Ok.disks.items in
    let ws = c.open_disks.new.disks in
    let value : c.as_mut_slice.result.now ≡ xs = c.as_mut_slice.ensures.value in
    let taken : InOrder (λ slot disk. IsMountedDisk g.D.Disk.Tells g.D.Disk.files g.D.Disk.drawn g.D.Disk.fault_count g.D.Disk.fuse_count (g.H.Shelf.disks c.args.shelf.now slot)
    disk) 0 c.as_mut_slice.result.now =
    subst (λ (l : List g.row.D.Denot). InOrder (λ slot disk. IsMountedDisk g.D.Disk.Tells g.D.Disk.files g.D.Disk.drawn g.D.Disk.fault_count g.D.Disk.fuse_count
    (g.H.Shelf.disks c.args.shelf.now slot) disk) 0 l) (sym value) c.in-Ok.ensures.disks in
    let count : length c.as_mut_slice.result.now ≡ disk_count c.args.settings = ap (λ (l : List g.row.D.Denot). length l) value ∙ c.in-Ok.ensures.count ∙ c.disk_count.ensures.is in
    let many : length ws ≡ length c.as_mut_slice.result.now = c.open_disks.ensures.moves.count in
    let whole : take c.in-Ok.disks.len (ws ++ drop (length ws) xs) ≡ ws =
    items_written c.in-Ok.disks.len ws xs (omega (arith, c.in-Ok.disks.ok.0)) (many ∙ ap (λ (l : List g.row.D.Denot). length l) value) in
    let told = c.assemble.ensures in
    let store = c.assemble.result in
    let kept = c.in-Ok-open_disks.kept in
    let files = c.in-Ok-open_disks.files.items in
    let opens = c.in-Ok-open_disks.ensures.opened in
    let made =
    made_of g.D.Disk.Tells g.D.Disk.files g.D.Disk.drawn g.D.Disk.fault_count g.D.Disk.fuse_count c.args.settings c.requires.limits (g.H.Shelf.disks c.args.shelf.now)
    c.as_mut_slice.result.now c.open_disks.new.disks count taken many kept files store (take c.in-Ok.disks.len (ws ++ drop (length ws) xs)) whole told.settings told.shape
    told.journal.0 told.journal.1 told.journal.2 told.directory told.replicas in
    made_rows g.D.Disk.Tells g.D.Disk.files g.D.Disk.drawn g.D.Disk.fault_count g.D.Disk.fuse_count c.args.settings c.requires.limits (g.H.Shelf.disks c.args.shelf.now)
    c.as_mut_slice.result.now c.open_disks.new.disks count taken many kept files store opens made

pub returns-in-Ok-open_disks-clause-ends : goal.returns-in-Ok-open_disks-clause-ends
returns-in-Ok-open_disks-clause-ends g c =
    let xs = c.in-Ok.disks.items in
    let ws = c.open_disks.new.disks in
    let value : c.as_mut_slice.result.now ≡ xs = c.as_mut_slice.ensures.value in
    let taken : InOrder (λ slot disk. IsMountedDisk g.D.Disk.Tells g.D.Disk.files g.D.Disk.drawn g.D.Disk.fault_count g.D.Disk.fuse_count (g.H.Shelf.disks c.args.shelf.now slot)
    disk) 0 c.as_mut_slice.result.now =
    subst (λ (l : List g.row.D.Denot). InOrder (λ slot disk. IsMountedDisk g.D.Disk.Tells g.D.Disk.files g.D.Disk.drawn g.D.Disk.fault_count g.D.Disk.fuse_count
    (g.H.Shelf.disks c.args.shelf.now slot) disk) 0 l) (sym value) c.in-Ok.ensures.disks in
    let count : length c.as_mut_slice.result.now ≡ disk_count c.args.settings = ap (λ (l : List g.row.D.Denot). length l) value ∙ c.in-Ok.ensures.count ∙ c.disk_count.ensures.is in
    let many : length ws ≡ length c.as_mut_slice.result.now = c.open_disks.ensures.moves.count in
    let whole : take c.in-Ok.disks.len (ws ++ drop (length ws) xs) ≡ ws =
    items_written c.in-Ok.disks.len ws xs (omega (arith, c.in-Ok.disks.ok.0)) (many ∙ ap (λ (l : List g.row.D.Denot). length l) value) in
    let told = c.assemble.ensures in
    let store = c.assemble.result in
    let kept = c.in-Ok-open_disks.kept in
    let files = c.in-Ok-open_disks.files.items in
    let opens = c.in-Ok-open_disks.ensures.opened in
    let made =
    made_of g.D.Disk.Tells g.D.Disk.files g.D.Disk.drawn g.D.Disk.fault_count g.D.Disk.fuse_count c.args.settings c.requires.limits (g.H.Shelf.disks c.args.shelf.now)
    c.as_mut_slice.result.now c.open_disks.new.disks count taken many kept files store (take c.in-Ok.disks.len (ws ++ drop (length ws) xs)) whole told.settings told.shape
    told.journal.0 told.journal.1 told.journal.2 told.directory told.replicas in
    made_ends g.D.Disk.Tells g.D.Disk.files g.D.Disk.drawn g.D.Disk.fault_count g.D.Disk.fuse_count c.args.settings c.requires.limits (g.H.Shelf.disks c.args.shelf.now)
    c.as_mut_slice.result.now c.open_disks.new.disks count taken many kept files store opens made

pub returns-in-Err-open_disks-clause-left : goal.returns-in-Err-open_disks-clause-left
returns-in-Err-open_disks-clause-left g c =
    let xs = c.in-Ok.disks.items in
    let ws = c.open_disks.new.disks in
    let value : c.as_mut_slice.result.now ≡ xs = c.as_mut_slice.ensures.value in
    let taken : InOrder (λ slot disk. IsMountedDisk g.D.Disk.Tells g.D.Disk.files g.D.Disk.drawn g.D.Disk.fault_count g.D.Disk.fuse_count (g.H.Shelf.disks c.args.shelf.now slot)
    disk) 0 c.as_mut_slice.result.now =
    subst (λ (l : List g.row.D.Denot). InOrder (λ slot disk. IsMountedDisk g.D.Disk.Tells g.D.Disk.files g.D.Disk.drawn g.D.Disk.fault_count g.D.Disk.fuse_count
    (g.H.Shelf.disks c.args.shelf.now slot) disk) 0 l) (sym value) c.in-Ok.ensures.disks in
    let count : length c.as_mut_slice.result.now ≡ disk_count c.args.settings = ap (λ (l : List g.row.D.Denot). length l) value ∙ c.in-Ok.ensures.count ∙ c.disk_count.ensures.is in
    let many : length ws ≡ length c.as_mut_slice.result.now = c.open_disks.ensures.moves.count in
    let whole : take c.in-Ok.disks.len (ws ++ drop (length ws) xs) ≡ ws =
    items_written c.in-Ok.disks.len ws xs (omega (arith, c.in-Ok.disks.ok.0)) (many ∙ ap (λ (l : List g.row.D.Denot). length l) value) in
    let given = g.H.Shelf.disks c.give_disks.new.shelf in
    let back : InOrder (λ slot disk. IsGivenDisk g.D.Disk.Tells g.D.Disk.files g.D.Disk.drawn g.D.Disk.fault_count g.D.Disk.fuse_count (given slot) disk) 0 ws =
    subst (λ (l : List g.row.D.Denot). InOrder (λ slot disk. IsGivenDisk g.D.Disk.Tells g.D.Disk.files g.D.Disk.drawn g.D.Disk.fault_count g.D.Disk.fuse_count (given slot) disk) 0
    l) whole c.give_disks.ensures.given in
    let refused = c.in-Err-open_disks.ensures.refused in
    left_slots g.D.Disk.Tells g.D.Disk.files g.D.Disk.drawn g.D.Disk.fault_count g.D.Disk.fuse_count c.args.settings c.requires.limits (g.H.Shelf.disks c.args.shelf.now)
    c.as_mut_slice.result.now c.open_disks.new.disks count taken many given back c.open_disks.ensures.moves

pub returns-in-Err-open_disks-clause-back : goal.returns-in-Err-open_disks-clause-back
returns-in-Err-open_disks-clause-back g c =
    let xs = c.in-Ok.disks.items in
    let ws = c.open_disks.new.disks in
    let value : c.as_mut_slice.result.now ≡ xs = c.as_mut_slice.ensures.value in
    let taken : InOrder (λ slot disk. IsMountedDisk g.D.Disk.Tells g.D.Disk.files g.D.Disk.drawn g.D.Disk.fault_count g.D.Disk.fuse_count (g.H.Shelf.disks c.args.shelf.now slot)
    disk) 0 c.as_mut_slice.result.now =
    subst (λ (l : List g.row.D.Denot). InOrder (λ slot disk. IsMountedDisk g.D.Disk.Tells g.D.Disk.files g.D.Disk.drawn g.D.Disk.fault_count g.D.Disk.fuse_count
    (g.H.Shelf.disks c.args.shelf.now slot) disk) 0 l) (sym value) c.in-Ok.ensures.disks in
    let count : length c.as_mut_slice.result.now ≡ disk_count c.args.settings = ap (λ (l : List g.row.D.Denot). length l) value ∙ c.in-Ok.ensures.count ∙ c.disk_count.ensures.is in
    let many : length ws ≡ length c.as_mut_slice.result.now = c.open_disks.ensures.moves.count in
    let whole : take c.in-Ok.disks.len (ws ++ drop (length ws) xs) ≡ ws =
    items_written c.in-Ok.disks.len ws xs (omega (arith, c.in-Ok.disks.ok.0)) (many ∙ ap (λ (l : List g.row.D.Denot). length l) value) in
    let given = g.H.Shelf.disks c.give_disks.new.shelf in
    let back : InOrder (λ slot disk. IsGivenDisk g.D.Disk.Tells g.D.Disk.files g.D.Disk.drawn g.D.Disk.fault_count g.D.Disk.fuse_count (given slot) disk) 0 ws =
    subst (λ (l : List g.row.D.Denot). InOrder (λ slot disk. IsGivenDisk g.D.Disk.Tells g.D.Disk.files g.D.Disk.drawn g.D.Disk.fault_count g.D.Disk.fuse_count (given slot) disk) 0
    l) whole c.give_disks.ensures.given in
    let refused = c.in-Err-open_disks.ensures.refused in
    back_slots g.D.Disk.Tells g.D.Disk.files g.D.Disk.drawn g.D.Disk.fault_count g.D.Disk.fuse_count c.args.settings c.requires.limits (g.H.Shelf.disks c.args.shelf.now)
    c.as_mut_slice.result.now c.open_disks.new.disks count taken many given back

pub returns-in-Err-open_disks-clause-failed : goal.returns-in-Err-open_disks-clause-failed
returns-in-Err-open_disks-clause-failed g c =
    let xs = c.in-Ok.disks.items in
    let ws = c.open_disks.new.disks in
    let value : c.as_mut_slice.result.now ≡ xs = c.as_mut_slice.ensures.value in
    let taken : InOrder (λ slot disk. IsMountedDisk g.D.Disk.Tells g.D.Disk.files g.D.Disk.drawn g.D.Disk.fault_count g.D.Disk.fuse_count (g.H.Shelf.disks c.args.shelf.now slot)
    disk) 0 c.as_mut_slice.result.now =
    subst (λ (l : List g.row.D.Denot). InOrder (λ slot disk. IsMountedDisk g.D.Disk.Tells g.D.Disk.files g.D.Disk.drawn g.D.Disk.fault_count g.D.Disk.fuse_count
    (g.H.Shelf.disks c.args.shelf.now slot) disk) 0 l) (sym value) c.in-Ok.ensures.disks in
    let count : length c.as_mut_slice.result.now ≡ disk_count c.args.settings = ap (λ (l : List g.row.D.Denot). length l) value ∙ c.in-Ok.ensures.count ∙ c.disk_count.ensures.is in
    let many : length ws ≡ length c.as_mut_slice.result.now = c.open_disks.ensures.moves.count in
    let whole : take c.in-Ok.disks.len (ws ++ drop (length ws) xs) ≡ ws =
    items_written c.in-Ok.disks.len ws xs (omega (arith, c.in-Ok.disks.ok.0)) (many ∙ ap (λ (l : List g.row.D.Denot). length l) value) in
    let given = g.H.Shelf.disks c.give_disks.new.shelf in
    let back : InOrder (λ slot disk. IsGivenDisk g.D.Disk.Tells g.D.Disk.files g.D.Disk.drawn g.D.Disk.fault_count g.D.Disk.fuse_count (given slot) disk) 0 ws =
    subst (λ (l : List g.row.D.Denot). InOrder (λ slot disk. IsGivenDisk g.D.Disk.Tells g.D.Disk.files g.D.Disk.drawn g.D.Disk.fault_count g.D.Disk.fuse_count (given slot) disk) 0
    l) whole c.give_disks.ensures.given in
    let refused = c.in-Err-open_disks.ensures.refused in
    λ slot n is.
    let f =
    refused_failed g.D.Disk.Tells g.D.Disk.files g.D.Disk.drawn g.D.Disk.fault_count g.D.Disk.fuse_count c.args.settings c.requires.limits (g.H.Shelf.disks c.args.shelf.now)
    c.as_mut_slice.result.now c.open_disks.new.disks count taken many given back c.in-Err-open_disks.fault slot n refused is in
    (f.within, f.rose, f.is, λ tells. (f.lowest tells, f.sound tells))

pub returns-in-Err-open_disks-clause-damaged : goal.returns-in-Err-open_disks-clause-damaged
returns-in-Err-open_disks-clause-damaged g c =
    let xs = c.in-Ok.disks.items in
    let ws = c.open_disks.new.disks in
    let value : c.as_mut_slice.result.now ≡ xs = c.as_mut_slice.ensures.value in
    let taken : InOrder (λ slot disk. IsMountedDisk g.D.Disk.Tells g.D.Disk.files g.D.Disk.drawn g.D.Disk.fault_count g.D.Disk.fuse_count (g.H.Shelf.disks c.args.shelf.now slot)
    disk) 0 c.as_mut_slice.result.now =
    subst (λ (l : List g.row.D.Denot). InOrder (λ slot disk. IsMountedDisk g.D.Disk.Tells g.D.Disk.files g.D.Disk.drawn g.D.Disk.fault_count g.D.Disk.fuse_count
    (g.H.Shelf.disks c.args.shelf.now slot) disk) 0 l) (sym value) c.in-Ok.ensures.disks in
    let count : length c.as_mut_slice.result.now ≡ disk_count c.args.settings = ap (λ (l : List g.row.D.Denot). length l) value ∙ c.in-Ok.ensures.count ∙ c.disk_count.ensures.is in
    let many : length ws ≡ length c.as_mut_slice.result.now = c.open_disks.ensures.moves.count in
    let whole : take c.in-Ok.disks.len (ws ++ drop (length ws) xs) ≡ ws =
    items_written c.in-Ok.disks.len ws xs (omega (arith, c.in-Ok.disks.ok.0)) (many ∙ ap (λ (l : List g.row.D.Denot). length l) value) in
    let given = g.H.Shelf.disks c.give_disks.new.shelf in
    let back : InOrder (λ slot disk. IsGivenDisk g.D.Disk.Tells g.D.Disk.files g.D.Disk.drawn g.D.Disk.fault_count g.D.Disk.fuse_count (given slot) disk) 0 ws =
    subst (λ (l : List g.row.D.Denot). InOrder (λ slot disk. IsGivenDisk g.D.Disk.Tells g.D.Disk.files g.D.Disk.drawn g.D.Disk.fault_count g.D.Disk.fuse_count (given slot) disk) 0
    l) whole c.give_disks.ensures.given in
    let refused = c.in-Err-open_disks.ensures.refused in
    λ slot file at is.
    let f =
    refused_damaged g.D.Disk.Tells g.D.Disk.files g.D.Disk.drawn g.D.Disk.fault_count g.D.Disk.fuse_count c.args.settings c.requires.limits (g.H.Shelf.disks c.args.shelf.now)
    c.as_mut_slice.result.now c.open_disks.new.disks count taken many given back c.in-Err-open_disks.fault slot file at refused is in
    (f.within, f.file_is, λ tells. (f.before tells, f.behind tells, f.sound tells))
