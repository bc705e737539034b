use Rattle.std.proofs.Common.{◌≡◌, ◌≤◌, ◌+◌, sym, ap, ◌∙◌, subst, arith}
use Rattle.hay_needle.specs.declared.settings.TheConstants.{LAST_GENERATION}
use Rattle.hay_compact.specs.Finishing.{AreThePlaces}
use Rattle.hay_disk.specs.Disk.{Files, FileState}
use Rattle.hay_disk.specs.Gate.{IsGate}
use Rattle.hay_head.specs.Head.{head_magic, row_place}
use Rattle.hay_open.specs.Finds.{ArePlacesWithin}
use Rattle.hay_open.specs.Stored.{last_cell, volume_file}
use Rattle.hay_physical.specs.declared.state.OpenFiles.{OpenFiles}
use Rattle.hay_physical.specs.Replicas.{FilesReady, FilesStand, HasWholeNeedle}
use Rattle.hay_physical.proofs.Whole.{whole_of}
use Rattle.hay_physical.proofs.Views.{by_result, if_ok, if_ok_on, if_ok_unit, on_ok_both, on_ok_one}
use Rattle.hay_physical.proofs.Standing.{on_err}
use Rattle.hay_physical.proofs.SwapLaws.{made_kept, old_apart, old_index_apart, swap_counts, swap_finds, swap_flags, swap_ready, swap_stands, unfrozen_ready, unfrozen_stands}
use Rattle.hay_physical.proofs.Removing.{removed_since}
use Rattle.hay_compact.specs.Finishing.{IsSeen}
use Rattle.hay_map.specs.Rows.{last_place}
use Rattle.hay_map.specs.declared.place.Place.TheVariants as place
use Rattle.hay_physical.proofs.Views.{if_ok_so, on_err_so}
use Rattle.hay_physical.proofs.state.OpenFiles.make_current.Goals as goal

pub swap-requires-clause-gate : goal.swap-requires-clause-gate
swap-requires-clause-gate g c = λ tells.
    let same : g.D.Disk.files c.finish.new.disk 0 ≡ g.D.Disk.files c.args.disk.now 0 = c.finish.ensures.others tells 0 (λ e. omega arith) (λ e. omega arith) in
    subst (λ (f : FileState). IsGate head_magic (row_place (c.args.self.now.head.generation + 1)) f) (sym same) (c.requires.ready tells).head

pub returns-in-Ok-clause-open : goal.returns-in-Ok-clause-open
returns-in-Ok-clause-open g c =
    if_ok_unit c.swap.result _ _ (λ places is. (ap (λ (o : OpenFiles). o.frozen) is.1 ∙ c.requires.open, ap (λ (o : OpenFiles). o.index.frozen) is.1 ∙ c.in-Ok.ensures.thawed)) c.swap.ensures.swapped

pub returns-in-Ok-clause-stands : goal.returns-in-Ok-clause-stands
returns-in-Ok-clause-stands g c = λ tells sup s fresh f making.
    let files = g.D.Disk.files in
    let fin = c.in-Ok.ensures.finished tells sup fresh making in
    let switches =
    c.swap.ensures.switches tells (old_apart (files c.args.disk.now) c.args.self.now (c.requires.ready tells)) (old_index_apart (files c.args.disk.now) c.args.self.now (c.requires.ready tells)) in
    if_ok c.swap.result _ _ _
    (λ places is both. (
      swap_stands g.D.Piece.Piece.Tells sup (files c.args.disk.now) (files c.finish.new.disk) (files c.swap.new.disk) c.args.self.now c.swap.new.self s c.args.compactor fresh
          c.in-Ok.finished f (c.finish.ensures.others tells) c.requires.next fin is.1 both.0 both.1,
      subst (λ x. AreThePlaces g.D.Piece.Piece.Tells fresh x.items) (sym is.0) fin.places,
    ))
    c.swap.ensures.swapped (on_ok_both c.swap.result _ _ switches (c.swap.ensures.others tells))

pub returns-in-Ok-clause-flags : goal.returns-in-Ok-clause-flags
returns-in-Ok-clause-flags g c = λ tells.
    let files = g.D.Disk.files in
    let m = c.requires.making tells in
    let fin = c.in-Ok.ensures.finished tells m.sup m.fresh m.making in
    if_ok c.swap.result _ _ _
    (λ places is but pair.
    swap_flags g.D.Piece.Piece.Tells m.sup (files c.finish.new.disk) (files c.swap.new.disk) c.args.self.now c.swap.new.self c.args.compactor m.fresh c.in-Ok.finished pair _ fin is.1
    (made_kept (files c.args.disk.now) (files c.finish.new.disk) (files c.swap.new.disk) c.args.self.now c.args.compactor (c.requires.ready tells) c.requires.next but)
    (subst (λ x. AreThePlaces g.D.Piece.Piece.Tells m.fresh x.items) (sym is.0) fin.places pair))
    c.swap.ensures.swapped (c.swap.ensures.others tells)

pub returns-in-Ok-clause-ready : goal.returns-in-Ok-clause-ready
returns-in-Ok-clause-ready g c = λ tells going.
    let files = g.D.Disk.files in
    let m = c.requires.making tells in
    let r = c.requires.ready tells in
    let fin = c.in-Ok.ensures.finished tells m.sup m.fresh m.making in
    let switches = c.swap.ensures.switches tells (old_apart (files c.args.disk.now) c.args.self.now r) (old_index_apart (files c.args.disk.now) c.args.self.now r) in
    by_result c.swap.result (FilesReady (files c.swap.new.disk) c.swap.new.self)
    (if_ok c.swap.result _ _ _
    (λ places is both.
    swap_ready g.D.Piece.Piece.Tells m.sup (files c.finish.new.disk) (files c.swap.new.disk) c.args.self.now c.swap.new.self c.args.compactor m.fresh c.in-Ok.finished c.requires.next fin is.1 both.0
    (made_kept (files c.args.disk.now) (files c.finish.new.disk) (files c.swap.new.disk) c.args.self.now c.args.compactor r c.requires.next both.1))
    c.swap.ensures.swapped (on_ok_both c.swap.result _ _ switches (c.swap.ensures.others tells)))
    (on_err c.swap.result _ _ _
    (λ is kept. subst (λ (f : Files). FilesReady f c.swap.new.self) (sym (kept going))
    (unfrozen_ready (files c.args.disk.now) (files c.finish.new.disk) c.args.self.now c.swap.new.self c.args.compactor r (c.finish.ensures.others tells) c.requires.next is))
    c.swap.ensures.err (c.swap.ensures.kept tells))

pub returns-in-Ok-clause-kept : goal.returns-in-Ok-clause-kept
returns-in-Ok-clause-kept g c = λ tells sup s f.
    let files = g.D.Disk.files in
    on_err c.swap.result _ _ _
    (λ is kept going. subst (λ (x : Files). FilesStand sup x c.swap.new.self s) (sym (kept going))
    (unfrozen_stands sup (files c.args.disk.now) (files c.finish.new.disk) c.args.self.now c.swap.new.self c.args.compactor s f (c.finish.ensures.others tells) c.requires.next is))
    c.swap.ensures.err (c.swap.ensures.kept tells)

pub returns-in-Ok-clause-unsure : goal.returns-in-Ok-clause-unsure
returns-in-Ok-clause-unsure g c = λ tells sup s fresh f making.
    let files = g.D.Disk.files in
    let fin = c.in-Ok.ensures.finished tells sup fresh making in
    on_err c.swap.result _ _ _
    (λ left rest froze. swap_finds g.D.Piece.Piece.Tells sup (files c.args.disk.now) (files c.finish.new.disk) (files c.swap.new.disk) c.args.self.now s c.args.compactor fresh
    c.in-Ok.finished f (c.finish.ensures.others tells) c.requires.next fin left rest)
    (c.swap.ensures.left tells) (c.swap.ensures.err_others tells)

pub returns-in-Ok-clause-moved : goal.returns-in-Ok-clause-moved
returns-in-Ok-clause-moved g c = if_ok_unit c.swap.result _ _ (λ places is. ap (λ (o : OpenFiles). o.head.generation) is.1) c.swap.ensures.swapped

pub returns-in-Ok-clause-removed : goal.returns-in-Ok-clause-removed
returns-in-Ok-clause-removed g c = λ tells.
    on_ok_one c.swap.result _ _
    (removed_since (g.D.Disk.files c.swap.new.disk) c.args.self.now.volume.file c.args.self.now.index.file (g.D.Disk.fault_count c.args.disk.now)
    (g.D.Disk.fault_count c.finish.new.disk) (g.D.Disk.fault_count c.swap.new.disk)
    c.finish.ensures.counted.later)
    (c.swap.ensures.removed tells)

pub returns-in-Ok-clause-seen : goal.returns-in-Ok-clause-seen
returns-in-Ok-clause-seen g c = λ tells.
    let m = c.requires.making tells in
    let fin = c.in-Ok.ensures.finished tells m.sup m.fresh m.making in
    if_ok_so c.swap.result _ _ (λ places is pair. subst (λ x. IsSeen (last_place x.items pair place.Gone)) (sym is.0) (fin.seen pair)) c.swap.ensures.swapped

pub returns-in-Ok-clause-counted : goal.returns-in-Ok-clause-counted
returns-in-Ok-clause-counted g c = λ tells.
    let files = g.D.Disk.files in
    let m = c.requires.making tells in
    let fin = c.in-Ok.ensures.finished tells m.sup m.fresh m.making in
    if_ok_on c.swap.result _ _ _
    (λ places is but sup t f.
    swap_counts g.D.Piece.Piece.Tells m.sup sup (files c.finish.new.disk) (files c.swap.new.disk) c.args.self.now c.swap.new.self t c.args.compactor m.fresh c.in-Ok.finished fin is.1
    (made_kept (files c.args.disk.now) (files c.finish.new.disk) (files c.swap.new.disk) c.args.self.now c.args.compactor (c.requires.ready tells) c.requires.next but) m.making.noted f)
    c.swap.ensures.swapped (c.swap.ensures.others tells)

pub returns-in-Ok-clause-limit : goal.returns-in-Ok-clause-limit
returns-in-Ok-clause-limit g c = λ capacity old next.
    by_result c.swap.result (c.swap.new.self.volume.capacity ≡ capacity)
    (if_ok_so c.swap.result _ _ (λ places is. ap (λ (o : OpenFiles). o.volume.capacity) is.1 ∙ c.in-Ok.ensures.capacity ∙ next) c.swap.ensures.swapped)
    (on_err_so c.swap.result _ _ (λ is. ap (λ (o : OpenFiles). o.volume.capacity) is ∙ old) c.swap.ensures.err)

pub returns-in-Ok-clause-most : goal.returns-in-Ok-clause-most
returns-in-Ok-clause-most g c = λ old.
    let next = c.requires.next in
    let small = c.requires.small in
    by_result c.swap.result (c.swap.new.self.head.generation ≤ LAST_GENERATION)
    (if_ok_so c.swap.result _ _ (λ places is. subst (λ (o : OpenFiles). o.head.generation ≤ LAST_GENERATION) (sym is.1) (omega arith)) c.swap.ensures.swapped)
    (on_err_so c.swap.result _ _ (λ is. subst (λ (o : OpenFiles). o.head.generation ≤ LAST_GENERATION) (sym is) old) c.swap.ensures.err)

pub returns-in-Ok-clause-from : goal.returns-in-Ok-clause-from
returns-in-Ok-clause-from g c = λ old.
    by_result c.swap.result (64 ≤ c.swap.new.self.volume.end)
    (if_ok_so c.swap.result _ _ (λ places is. subst (λ (o : OpenFiles). 64 ≤ o.volume.end) (sym is.1) c.in-Ok.ensures.from) c.swap.ensures.swapped)
    (on_err_so c.swap.result _ _ (λ is. subst (λ (o : OpenFiles). 64 ≤ o.volume.end) (sym is) old) c.swap.ensures.err)

pub returns-in-Ok-clause-shorter : goal.returns-in-Ok-clause-shorter
returns-in-Ok-clause-shorter g c = if_ok_unit c.swap.result _ _ (λ places is. subst (λ (o : OpenFiles). o.volume.end ≤ c.args.compactor.next) (sym is.1) c.in-Ok.ensures.shorter) c.swap.ensures.swapped

pub returns-in-Ok-clause-flushed : goal.returns-in-Ok-clause-flushed
returns-in-Ok-clause-flushed g c = if_ok_unit c.swap.result _ _ (λ places is. ap (λ (o : OpenFiles). o.index.pending) is.1 ∙ c.in-Ok.ensures.flushed) c.swap.ensures.swapped

pub returns-in-Ok-clause-named : goal.returns-in-Ok-clause-named
returns-in-Ok-clause-named g c = λ old.
    let IsNamed : OpenFiles → Type 0 = λ o. o.volume.file ≡ volume_file o.head.generation in
    by_result c.swap.result (IsNamed c.swap.new.self)
    (if_ok_so c.swap.result _ _ (λ places is. subst IsNamed (sym is.1) (c.in-Ok.ensures.named ∙ ap volume_file c.requires.next)) c.swap.ensures.swapped)
    (on_err_so c.swap.result _ _ (λ is. subst IsNamed (sym is) old) c.swap.ensures.err)

pub returns-in-Ok-clause-within : goal.returns-in-Ok-clause-within
returns-in-Ok-clause-within g c =
    if_ok_so c.swap.result _ _
    (λ places is. subst (λ (o : OpenFiles). ArePlacesWithin o.volume.end places.items) (sym is.1)
    (subst (λ x. ArePlacesWithin c.in-Ok.finished.volume.end x.items) (sym is.0) c.in-Ok.ensures.within)) c.swap.ensures.swapped

pub returns-in-Ok-clause-needles : goal.returns-in-Ok-clause-needles
returns-in-Ok-clause-needles g c = λ tells.
    let m = c.requires.making tells in
    let fin = c.in-Ok.ensures.finished tells m.sup m.fresh m.making in
    if_ok_so c.swap.result _ _
    (λ places is pair. subst (λ x. HasWholeNeedle g.D.Piece.Piece.Tells (last_place x.items pair place.Gone)) (sym is.0)
    (whole_of g.D.Piece.Piece.Tells (last_cell m.fresh pair) (last_place c.in-Ok.finished.places.items pair place.Gone) (fin.places pair)))
    c.swap.ensures.swapped

pub returns-in-Ok-clause-head_file : goal.returns-in-Ok-clause-head_file
returns-in-Ok-clause-head_file g c = λ tells.
    on_err_so c.swap.result _ _ (λ kept going. ap (λ (f : Files). f 0) (kept going) ∙ c.finish.ensures.others tells 0 (λ e. omega arith) (λ e. omega arith)) (c.swap.ensures.kept tells)
