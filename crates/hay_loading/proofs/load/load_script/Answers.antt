use Rattle.std.proofs.Common.{◌≡◌, ◌<◌, Some, sym, ap, subst, ◌∙◌}
use Rattle.hay_needle.specs.declared.settings.Settings.{Settings}
use Rattle.hay_mount.specs.Mounts.{AreIn, AreOut, SameFrom}
use Rattle.hay_batch.specs.Shelves.{disk_count, reads_of}
use Rattle.hay_loading.proofs.Counting.{counts_left, counts_on}
use Rattle.hay_loading.specs.declared.stops.Stop.TheVariants as stop
use Rattle.hay_loading.proofs.Ending.{ends_open, halts_input, halts_long}
use Rattle.hay_loading.proofs.Remembering.{begins_first, first_of, remembers_first}
use Rattle.hay_loading.proofs.Refusing.{ends_refused, not_read}
use Rattle.hay_loading.proofs.Serving.{counts_at, serves_at, settings_at, store_begun, until_at}
use Rattle.hay_loading.proofs.load.load_script.Goals as goal

pub close-requires-clause-out : goal.close-requires-clause-out
close-requires-clause-out g c =
    let same = settings_at c.new-load.result.store c.in-Ok.store c.serve-outcome.new.load.store (store_begun c.new-load.result c.in-Ok.store c.new-load.ensures.made)
    c.serve-outcome.ensures.shape.0 ∙ c.in-Ok.ensures.shape.0 in
    let P : Settings → Type 0 = λ s. AreOut (disk_count s) (g.H.Shelf.disks c.open.new.shelf) in
    subst P (sym same) c.in-Ok.ensures.out

pub returns-in-Err-clause-ends : goal.returns-in-Err-clause-ends
returns-in-Err-clause-ends g c = λ script before told header.
    ends_refused g.H.Disk.Disk.Tells c.args.settings script (g.H.Shelf.disks c.args.shelf.now) (g.H.Shelf.disks c.open.new.shelf) (g.H.Shelf.fault_count c.args.shelf.now)
    (g.H.Shelf.fault_count c.open.new.shelf)
    before (g.K.Sink.written c.args.sink.now) (g.K.Sink.written c.write_refusal.new.sink) (g.S.Source.left c.args.source.now) told c.in-Err.fault c.write_refusal.ensures.fits
    c.in-Err.ensures.left c.in-Err.ensures.shelf c.in-Err.ensures.failed
    c.in-Err.ensures.damaged header
    c.write_refusal.result c.write_refusal.ensures.told c.write_refusal.ensures.part (λ e. ap g.K.Sink.written (c.write_refusal.ensures.wanting e)) c.write_refusal.ensures.stops

pub returns-in-Err-clause-sound : goal.returns-in-Err-clause-sound
returns-in-Err-clause-sound g c = λ tells ends. absurd (not_read c.write_refusal.result (g.S.Source.left c.args.source.now) c.write_refusal.ensures.stops ends)

pub returns-clause-sound : goal.returns-clause-sound
returns-clause-sound g c = λ tells ends. c.in-Ok.ensures.sound tells

pub returns-clause-ends : goal.returns-clause-ends
returns-clause-ends g c = λ script before told header.
    let D = g.H.Disk.Disk in
    let same : c.serve-outcome.new.load.store.settings ≡ c.args.settings = settings_at c.new-load.result.store c.in-Ok.store c.serve-outcome.new.load.store
    (store_begun c.new-load.result c.in-Ok.store c.new-load.ensures.made) c.serve-outcome.ensures.shape.0 ∙ c.in-Ok.ensures.shape.0 in
    let begun = g.K.Sink.written c.args.sink.now in
    let after = g.K.Sink.written c.serve-outcome.new.sink in
    let began = store_begun c.new-load.result c.in-Ok.store c.new-load.ensures.made in
    ends_open D.Tells D.files D.drawn D.fault_count D.fuse_count c.args.settings (g.H.Shelf.disks c.close.new.shelf) c.serve-outcome.new.load.store same
    c.serve-outcome.ensures.shape.1 c.close.ensures.given
    script (g.H.Shelf.disks c.args.shelf.now) (g.H.Shelf.fault_count c.args.shelf.now) (g.H.Shelf.fault_count c.close.new.shelf) before begun after c.in-Ok.store
    c.in-Ok.ensures.shape.0 c.in-Ok.ensures.shape.1
    c.in-Ok.ensures.opened c.in-Ok.ensures.disks header c.requires.limits.some_volumes
    (first_of D.Tells c.args.settings (reads_of (g.H.Shelf.disks c.args.shelf.now)) c.in-Ok.store c.in-Ok.ensures.shape.0 c.in-Ok.ensures.shape.1 c.in-Ok.ensures.homes c.in-Ok.ensures.ends)
    (begins_first D.Tells c.args.settings (reads_of (g.H.Shelf.disks c.args.shelf.now)) c.in-Ok.store c.in-Ok.ensures.shape.0 c.in-Ok.ensures.shape.1 c.in-Ok.ensures.homes c.in-Ok.ensures.ends)
    (remembers_first D.Tells c.args.settings (reads_of (g.H.Shelf.disks c.args.shelf.now)) c.in-Ok.store c.in-Ok.ensures.shape.0 c.in-Ok.ensures.shape.1 c.in-Ok.ensures.homes c.in-Ok.ensures.ends)
    (g.S.Source.left c.serve-outcome.new.source) c.serve-outcome.result
    (λ done is. serves_at D.Tells D.files (Some script) c.new-load.result.store c.in-Ok.store c.serve-outcome.new.load.store begun after began (rw (is, told) at c.serve-outcome.ensures.served))
    (λ why is. until_at D.Tells D.files D.fault_count D.fuse_count why (Some script) (g.S.Source.left c.serve-outcome.new.source) c.new-load.result.store c.in-Ok.store
    c.serve-outcome.new.load.store begun after began
    (rw told at c.serve-outcome.ensures.stopped why is))

pub returns-clause-disks_back : goal.returns-clause-disks_back
returns-clause-disks_back g c =
    let same = settings_at c.new-load.result.store c.in-Ok.store c.serve-outcome.new.load.store (store_begun c.new-load.result c.in-Ok.store c.new-load.ensures.made)
    c.serve-outcome.ensures.shape.0 ∙ c.in-Ok.ensures.shape.0 in
    let P : Settings → Type 0 = λ s. AreIn (disk_count s) (g.H.Shelf.disks c.close.new.shelf) in
    subst P same c.close.ensures.back

pub returns-clause-other_slots : goal.returns-clause-other_slots
returns-clause-other_slots g c = λ slot above.
    let same = settings_at c.new-load.result.store c.in-Ok.store c.serve-outcome.new.load.store (store_begun c.new-load.result c.in-Ok.store c.new-load.ensures.made)
    c.serve-outcome.ensures.shape.0 ∙ c.in-Ok.ensures.shape.0 in
    let P : Settings → Type 0 = λ s. SameFrom (disk_count s) (g.H.Shelf.disks c.open.new.shelf) (g.H.Shelf.disks c.close.new.shelf) in
    subst P same c.close.ensures.others slot above ∙ c.in-Ok.ensures.others slot above

pub returns-clause-counts : goal.returns-clause-counts
returns-clause-counts g c = λ slot below.
    let D = g.H.Disk.Disk in
    let same = settings_at c.new-load.result.store c.in-Ok.store c.serve-outcome.new.load.store (store_begun c.new-load.result c.in-Ok.store c.new-load.ensures.made)
    c.serve-outcome.ensures.shape.0 ∙ c.in-Ok.ensures.shape.0 in
    counts_on D.Tells D.files D.drawn D.fault_count D.fuse_count (g.H.Shelf.disks c.args.shelf.now) (g.H.Shelf.disks c.close.new.shelf) c.in-Ok.store
    c.serve-outcome.new.load.store c.in-Ok.ensures.shape.1 c.serve-outcome.ensures.shape.1
    (settings_at c.new-load.result.store c.in-Ok.store c.serve-outcome.new.load.store (store_begun c.new-load.result c.in-Ok.store c.new-load.ensures.made) c.serve-outcome.ensures.shape.0)
    c.in-Ok.ensures.disks (counts_at D.fault_count D.fuse_count c.new-load.result.store c.in-Ok.store c.serve-outcome.new.load.store
    (store_begun c.new-load.result c.in-Ok.store c.new-load.ensures.made) c.serve-outcome.ensures.counts) c.close.ensures.given slot
    (subst (λ (s : Settings). slot < disk_count s) (sym same) below)

pub returns-in-Err-clause-counts : goal.returns-in-Err-clause-counts
returns-in-Err-clause-counts g c = λ slot below.
    counts_left g.H.Disk.Disk.Tells slot (g.H.Shelf.disks c.args.shelf.now slot) (g.H.Shelf.disks c.open.new.shelf slot) (c.in-Err.ensures.left slot below)

pub returns-clause-halts : goal.returns-clause-halts
returns-clause-halts g c = λ stops script before told header.
    let D = g.H.Disk.Disk in
    let same : c.serve-outcome.new.load.store.settings ≡ c.args.settings = settings_at c.new-load.result.store c.in-Ok.store c.serve-outcome.new.load.store
    (store_begun c.new-load.result c.in-Ok.store c.new-load.ensures.made) c.serve-outcome.ensures.shape.0 ∙ c.in-Ok.ensures.shape.0 in
    let begun = g.K.Sink.written c.args.sink.now in
    let after = g.K.Sink.written c.serve-outcome.new.sink in
    let left' = g.S.Source.left c.serve-outcome.new.source in
    halts_input D.Tells D.files D.drawn D.fault_count D.fuse_count c.args.settings (g.H.Shelf.disks c.close.new.shelf) c.serve-outcome.new.load.store same
    c.serve-outcome.ensures.shape.1 c.close.ensures.given
    script (g.H.Shelf.disks c.args.shelf.now) (g.H.Shelf.fault_count c.args.shelf.now) (g.H.Shelf.fault_count c.close.new.shelf) before begun after c.in-Ok.store
    c.in-Ok.ensures.shape.0 c.in-Ok.ensures.shape.1
    c.in-Ok.ensures.opened c.in-Ok.ensures.disks header c.requires.limits.some_volumes
    (first_of D.Tells c.args.settings (reads_of (g.H.Shelf.disks c.args.shelf.now)) c.in-Ok.store c.in-Ok.ensures.shape.0 c.in-Ok.ensures.shape.1 c.in-Ok.ensures.homes c.in-Ok.ensures.ends)
    (begins_first D.Tells c.args.settings (reads_of (g.H.Shelf.disks c.args.shelf.now)) c.in-Ok.store c.in-Ok.ensures.shape.0 c.in-Ok.ensures.shape.1 c.in-Ok.ensures.homes c.in-Ok.ensures.ends)
    (remembers_first D.Tells c.args.settings (reads_of (g.H.Shelf.disks c.args.shelf.now)) c.in-Ok.store c.in-Ok.ensures.shape.0 c.in-Ok.ensures.shape.1 c.in-Ok.ensures.homes c.in-Ok.ensures.ends)
    left'
    (until_at D.Tells D.files D.fault_count D.fuse_count stop.Input (Some script) left' c.new-load.result.store c.in-Ok.store c.serve-outcome.new.load.store begun after
    (store_begun c.new-load.result c.in-Ok.store c.new-load.ensures.made) (rw told at c.serve-outcome.ensures.stopped stop.Input stops))

pub returns-clause-halts_over : goal.returns-clause-halts_over
returns-clause-halts_over g c = λ stops script before told header.
    let D = g.H.Disk.Disk in
    let same : c.serve-outcome.new.load.store.settings ≡ c.args.settings = settings_at c.new-load.result.store c.in-Ok.store c.serve-outcome.new.load.store
    (store_begun c.new-load.result c.in-Ok.store c.new-load.ensures.made) c.serve-outcome.ensures.shape.0 ∙ c.in-Ok.ensures.shape.0 in
    let begun = g.K.Sink.written c.args.sink.now in
    let after = g.K.Sink.written c.serve-outcome.new.sink in
    let left' = g.S.Source.left c.serve-outcome.new.source in
    halts_long D.Tells D.files D.drawn D.fault_count D.fuse_count c.args.settings (g.H.Shelf.disks c.close.new.shelf) c.serve-outcome.new.load.store same
    c.serve-outcome.ensures.shape.1 c.close.ensures.given
    script (g.H.Shelf.disks c.args.shelf.now) (g.H.Shelf.fault_count c.args.shelf.now) (g.H.Shelf.fault_count c.close.new.shelf) before begun after c.in-Ok.store
    c.in-Ok.ensures.shape.0 c.in-Ok.ensures.shape.1
    c.in-Ok.ensures.opened c.in-Ok.ensures.disks header c.requires.limits.some_volumes
    (first_of D.Tells c.args.settings (reads_of (g.H.Shelf.disks c.args.shelf.now)) c.in-Ok.store c.in-Ok.ensures.shape.0 c.in-Ok.ensures.shape.1 c.in-Ok.ensures.homes c.in-Ok.ensures.ends)
    (begins_first D.Tells c.args.settings (reads_of (g.H.Shelf.disks c.args.shelf.now)) c.in-Ok.store c.in-Ok.ensures.shape.0 c.in-Ok.ensures.shape.1 c.in-Ok.ensures.homes c.in-Ok.ensures.ends)
    (remembers_first D.Tells c.args.settings (reads_of (g.H.Shelf.disks c.args.shelf.now)) c.in-Ok.store c.in-Ok.ensures.shape.0 c.in-Ok.ensures.shape.1 c.in-Ok.ensures.homes c.in-Ok.ensures.ends)
    left'
    (until_at D.Tells D.files D.fault_count D.fuse_count stop.TooLong (Some script) left' c.new-load.result.store c.in-Ok.store c.serve-outcome.new.load.store begun after
    (store_begun c.new-load.result c.in-Ok.store c.new-load.ensures.made) (rw told at c.serve-outcome.ensures.stopped stop.TooLong stops))
