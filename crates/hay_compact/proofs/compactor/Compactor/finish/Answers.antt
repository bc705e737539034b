use Rattle.std.proofs.Common.{◌≡◌, ◌∙◌, ap, arith, subst, sym}
use Rattle.std.specs.Prelude.{All}
use Rattle.hay_index.specs.declared.index.IndexFile.{IndexFile}
use Rattle.hay_volume.specs.declared.volume.VolumeFile.{VolumeFile}
use Rattle.hay_needle.specs.Super.{super_bytes}
use Rattle.hay_volume.specs.Cells.{IsVolume}
use Rattle.hay_open.specs.Stored.{VolumeRests, volume_super}
use Rattle.hay_compact.specs.Copying.{IsMaking, Making, RowWithin, Stage, stored_of}
use Rattle.hay_compact.specs.Finishing.{IsFinished}
use Rattle.hay_compact.proofs.Finishes.{all_anew, files_apart, finished_of, ready_to_seal}
use Rattle.hay_compact.proofs.compactor.Compactor.finish.Goals as goal

pub seal_all-requires-clause-ready : goal.seal_all-requires-clause-ready
seal_all-requires-clause-ready g c = λ tells.
    let files = g.D.Disk.files in
    let s : Stage = record {
      generation = c.self.inside.generation;
      capacity = c.self.inside.capacity;
      volume = c.self.inside.volume;
      index = c.self.inside.index;
      standing = c.self.inside.standing;
      next = c.self.inside.next;
      bytes = c.self.inside.bytes.items;
    } in
    let under = subst (λ (x : Stage). IsMaking (files c.args.disk.now) x) (sym c.self.view_is) (c.requires tells) in
    let h = under.making in
    let apart = files_apart under.sup (files c.args.disk.now) s under.fresh h in
    let file = c.file-file.ensures in
    let index : c.flush_loose.new.self.file ≡ s.index.file = ap (λ (i : IndexFile). i.file) c.in_ok-flush_loose.ensures.moved in
    let stays : (files c.sync.new.self) c.file-file.result ≡ (files c.args.disk.now) c.file-file.result =
    c.sync.ensures.others tells c.file-file.result (λ e. apart (sym (sym file ∙ e ∙ index))) ∙ c.flush_loose.ensures.others tells c.file-file.result (λ e. apart (sym (sym file ∙ e))) in (
      under.sup,
      stored_of s under.fresh,
      ready_to_seal under.sup (files c.args.disk.now) (files c.sync.new.self) (files c.sync-2.new.self) s under.fresh c.file-file.result h file stays (c.sync-2.ensures.keeps tells)
          (c.in_ok-sync-2.ensures.solid tells),
      c.as_slice.ensures.value ∙ c.in_ok-records.ensures ∙ h.noted,
    )

pub returns-clause-others : goal.returns-clause-others
returns-clause-others g c = λ tells other first second.
    let s : Stage = record {
      generation = c.self.inside.generation;
      capacity = c.self.inside.capacity;
      volume = c.self.inside.volume;
      index = c.self.inside.index;
      standing = c.self.inside.standing;
      next = c.self.inside.next;
      bytes = c.self.inside.bytes.items;
    } in
    let under = subst (λ (x : Stage). IsMaking (g.D.Disk.files c.args.disk.now) x) (sym c.self.view_is) (c.requires tells) in
    let h = under.making in
    let generation : s.generation ≡ c.args.self.generation = ap (λ (x : Stage). x.generation) c.self.view_is in
    let index : c.flush_loose.new.self.file ≡ s.index.file = ap (λ (i : IndexFile). i.file) c.in_ok-flush_loose.ensures.moved in
    let file = c.file-file.ensures in
    let names_volume = h.names_volume in
    let names_index = h.names_index in
    c.seal_all.ensures.others tells other (λ e. first (omega arith)) ∙ c.sync-2.ensures.others tells other (λ e. first (omega arith))
    ∙ c.sync.ensures.others tells other (λ e. second (omega arith)) ∙ c.flush_loose.ensures.others tells other (λ e. second (omega arith))

pub returns-clause-drawn : goal.returns-clause-drawn
returns-clause-drawn g c = λ tells n. c.seal_all.ensures.drawn tells n ∙ c.sync-2.ensures.drawn tells n ∙ c.sync.ensures.drawn tells n ∙ c.flush_loose.ensures.drawn tells n

pub returns-clause-finished : goal.returns-clause-finished
returns-clause-finished g c = λ tells sup fresh making.
    let files = g.D.Disk.files in
    let s : Stage = record {
      generation = c.self.inside.generation;
      capacity = c.self.inside.capacity;
      volume = c.self.inside.volume;
      index = c.self.inside.index;
      standing = c.self.inside.standing;
      next = c.self.inside.next;
      bytes = c.self.inside.bytes.items;
    } in
    let h = subst (λ (x : Stage). Making sup (files c.args.disk.now) x fresh) (sym c.self.view_is) making in
    let apart = files_apart sup (files c.args.disk.now) s fresh h in
    let file = c.file-file.ensures in
    let index : c.flush_loose.new.self.file ≡ s.index.file = ap (λ (i : IndexFile). i.file) c.in_ok-flush_loose.ensures.moved in
    let stays : (files c.sync.new.self) c.file-file.result ≡ (files c.args.disk.now) c.file-file.result =
    c.sync.ensures.others tells c.file-file.result (λ e. apart (sym (sym file ∙ e ∙ index))) ∙ c.flush_loose.ensures.others tells c.file-file.result (λ e. apart (sym (sym file ∙ e))) in
    let can =
    ready_to_seal sup (files c.args.disk.now) (files c.sync.new.self) (files c.sync-2.new.self) s fresh c.file-file.result h file stays (c.sync-2.ensures.keeps tells)
    (c.in_ok-sync-2.ensures.solid tells) in
    let noted = c.as_slice.ensures.value ∙ c.in_ok-records.ensures ∙ h.noted in
    let rests = subst (λ k. VolumeRests sup ((files c.seal_all.new.disk) k) (stored_of s fresh)) file (c.seal_all.ensures.rests tells sup (stored_of s fresh) can.rests noted) in
    let last : (files c.seal_all.new.disk) s.index.file ≡ (files c.sync.new.self) s.index.file =
    c.seal_all.ensures.others tells s.index.file (λ e. apart (e ∙ file)) ∙ c.sync-2.ensures.others tells s.index.file (λ e. apart (e ∙ file)) in
    subst (λ (x : Stage). IsFinished g.D.Piece.Piece.Tells sup (files c.seal_all.new.disk)
    (record { volume = c.adopt.result; index = c.flush_loose.new.self; places = c.in_ok-places.places }) x fresh) c.self.view_is
    (finished_of g.D.Piece.Piece.Tells sup (files c.args.disk.now) (files c.flush_loose.new.disk) (files c.sync.new.self) (files c.seal_all.new.disk) s fresh
    (record { volume = c.adopt.result; index = c.flush_loose.new.self; places = c.in_ok-places.places })
    h c.self.invariant.thawed
    (c.adopt.ensures ∙ ap (λ k. let v : VolumeFile = record { file = k; end = c.end.result; capacity = s.capacity } in v) file
    ∙ ap (λ k. let v : VolumeFile = record { file = s.volume.file; end = k; capacity = s.capacity } in v) c.end.ensures)
    c.in_ok-flush_loose.ensures.moved (c.in_ok-flush_loose.ensures.added tells) (c.flush_loose.ensures.changes tells).free
    (c.sync.ensures.keeps tells) (c.in_ok-sync.ensures.solid tells) last rests (c.in_ok-places.ensures.places tells sup (stored_of s fresh) can noted)
    (c.in_ok-places.ensures.seen tells sup (stored_of s fresh) can noted))

pub returns-clause-anew : goal.returns-clause-anew
returns-clause-anew g c = λ tells superblock cells end is.
    let files = g.D.Disk.files in
    let s : Stage = record {
      generation = c.self.inside.generation;
      capacity = c.self.inside.capacity;
      volume = c.self.inside.volume;
      index = c.self.inside.index;
      standing = c.self.inside.standing;
      next = c.self.inside.next;
      bytes = c.self.inside.bytes.items;
    } in
    let under = subst (λ (x : Stage). IsMaking (files c.args.disk.now) x) (sym c.self.view_is) (c.requires tells) in
    let h = under.making in
    let apart = files_apart under.sup (files c.args.disk.now) s under.fresh h in
    let file = c.file-file.ensures in
    let index : c.flush_loose.new.self.file ≡ s.index.file = ap (λ (i : IndexFile). i.file) c.in_ok-flush_loose.ensures.moved in
    let stays : (files c.sync.new.self) c.file-file.result ≡ (files c.args.disk.now) c.file-file.result =
    c.sync.ensures.others tells c.file-file.result (λ e. apart (sym (sym file ∙ e ∙ index))) ∙ c.flush_loose.ensures.others tells c.file-file.result (λ e. apart (sym (sym file ∙ e))) in
    let can =
    ready_to_seal under.sup (files c.args.disk.now) (files c.sync.new.self) (files c.sync-2.new.self) s under.fresh c.file-file.result h file stays
    (c.sync-2.ensures.keeps tells) (c.in_ok-sync-2.ensures.solid tells) in
    let noted = c.as_slice.ensures.value ∙ c.in_ok-records.ensures ∙ h.noted in
    let rests = c.seal_all.ensures.rests tells under.sup (stored_of s under.fresh) can.rests noted in
    let here : c.adopt.result.file ≡ c.file-file.result = ap (λ (v : VolumeFile). v.file) c.adopt.ensures in
    all_anew superblock (super_bytes (volume_super under.sup s.generation)) ((files c.seal_all.new.disk) c.file-file.result).now cells under.fresh end s.volume.end
    (subst (λ k. IsVolume superblock ((files c.seal_all.new.disk) k).now cells end) here is) rests.is h.anew

pub returns-clause-from : goal.returns-clause-from
returns-clause-from g c =
    let from = c.self.invariant.from in
    omega (arith, ap (λ (v : VolumeFile). v.end) c.adopt.ensures, c.end.ensures)

pub returns-clause-shorter : goal.returns-clause-shorter
returns-clause-shorter g c =
    let behind = c.self.invariant.behind in
    omega (arith, ap (λ (v : VolumeFile). v.end) c.adopt.ensures, c.end.ensures, ap (λ (s : Stage). s.next) c.self.view_is)

pub returns-clause-flushed : goal.returns-clause-flushed
returns-clause-flushed g c = ap (λ (i : IndexFile). i.pending) c.in_ok-flush_loose.ensures.moved

pub returns-clause-within : goal.returns-clause-within
returns-clause-within g c =
    let noted = c.as_slice.ensures.value ∙ c.in_ok-records.ensures in
    let end : c.adopt.result.end ≡ c.self.inside.volume.end = ap (λ (v : VolumeFile). v.end) c.adopt.ensures ∙ c.end.ensures in
    c.in_ok-places.ensures.within c.adopt.result.end (subst (λ n. All (RowWithin n) c.as_slice.result.now) (sym end)
    (subst (λ l. All (RowWithin c.self.inside.volume.end) l) (sym noted) c.self.invariant.within))
