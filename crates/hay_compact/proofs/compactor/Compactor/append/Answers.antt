use Rattle.std.proofs.Common.{◌≡◌, ◌<◌, ◌+◌, ◌^◌, ◌∙◌, ◌++◌, ◌∷◌, [], List, ℕ, length, cond, true, refl, ap, arith, sym, subst, Some}
use Rattle.std.specs.Prelude.{slice_range}
use Rattle.hay_needle.specs.Tables.{pair_eq}
use Rattle.hay_needle.specs.Needle.{live}
use Rattle.hay_volume.specs.Cells.{IsMarked}
use Rattle.hay_volume.specs.declared.fault.CellFault.{CellFault}
use Rattle.hay_volume.specs.declared.fault.VolumeFault.{VolumeFault}
use Rattle.hay_index.specs.declared.record.Record.{Record}
use Rattle.hay_index.specs.declared.index.IndexFile.{IndexFile}
use Rattle.hay_volume.specs.declared.volume.VolumeFile.{VolumeFile}
use Rattle.hay_compact.specs.Standing.{last_in}
use Rattle.hay_compact.specs.Copying.{Copying, HasRead, IsCopy, IsMaking, MovesOn, Stage, renewed}
use Rattle.hay_compact.proofs.Copyings.{making_of}
use Rattle.hay_compact.proofs.Copied.{anew_fits, anew_long, read_fits, read_long, photo_seen, stays_safe, copy_makes, copy_copies, copied_at, copy_stands, making_stands, unnoted}
use Rattle.hay_compact.proofs.compactor.Compactor.append.Goals as goal

pub overflow_add-self : goal.overflow_add-self
overflow_add-self g c =
    let fits : c.self.inside.next + c.total_of.result < 2 ^ 64 =
    read_fits c.args.self.now.next c.self.inside.next c.total_of.result c.args.self.now.bytes c.args.cell c.requires.read (ap (λ (s : Stage). s.next) c.self.view_is) c.total_of.ensures in
    omega arith

pub slice_bounds-photo-end : goal.slice_bounds-photo-end
slice_bounds-photo-end g c =
    let long = read_long c.args.self.now.next c.args.self.now.bytes c.args.cell c.requires.read in
    omega (arith, c.as_slice.ensures.len, ap (λ (s : Stage). length s.bytes) c.self.view_is)

pub refusal-requires : goal.refusal-requires
refusal-requires g c =
    let s : Stage = record {
      generation = c.self.inside.generation;
      capacity = c.self.inside.capacity;
      volume = c.self.inside.volume;
      index = c.self.inside.index;
      standing = c.self.inside.standing;
      next = c.self.inside.next;
      bytes = c.self.inside.bytes.items;
    } in
    let peeked = subst (λ (x : Stage). HasRead x.next x.bytes c.args.cell) (sym c.self.view_is) c.requires.read in
    let photo : List ℕ = slice_range c.as_slice.result.now 36 (36 + c.args.cell.size) in
    let seen = photo_seen c.args.cell.size c.as_slice.result.now s.bytes c.as_slice.ensures.value in
    let long = ap length c.as_slice-2.ensures.value ∙ anew_long s.next s.bytes photo c.encode_marked.new.out.items c.args.cell peeked seen c.in_ok-encode_marked.ensures in
    c.in-Err.ensures.room (anew_fits s c.as_slice-2.result.now c.args.cell peeked c.self.invariant long)

pub invariant_of-self-in-Ok : goal.invariant_of-self-in-Ok
invariant_of-self-in-Ok g c =
    let s : Stage = record {
      generation = c.self.inside.generation;
      capacity = c.self.inside.capacity;
      volume = c.self.inside.volume;
      index = c.self.inside.index;
      standing = c.self.inside.standing;
      next = c.self.inside.next;
      bytes = c.self.inside.bytes.items;
    } in
    let row : Record = record { pair = c.args.cell.pair; at = c.end.result; size = c.args.cell.size } in
    let peeked = subst (λ (x : Stage). HasRead x.next x.bytes c.args.cell) (sym c.self.view_is) c.requires.read in
    let photo : List ℕ = slice_range c.as_slice.result.now 36 (36 + c.args.cell.size) in
    let seen = photo_seen c.args.cell.size c.as_slice.result.now s.bytes c.as_slice.ensures.value in
    let long = ap length c.as_slice-2.ensures.value ∙ anew_long s.next s.bytes photo c.encode_marked.new.out.items c.args.cell peeked seen c.in_ok-encode_marked.ensures in
    stays_safe s c.append_loose.new.self c.note.new.self row c.args.cell c.total_of.result c.as_slice-2.result.now peeked long c.self.invariant
    c.in-Ok.ensures.moved c.in_ok-note.ensures.ok c.end.ensures refl c.total_of.ensures

pub returns-in-Ok-clause-making : goal.returns-in-Ok-clause-making
returns-in-Ok-clause-making g c = λ tells.
    let s : Stage = record {
      generation = c.self.inside.generation;
      capacity = c.self.inside.capacity;
      volume = c.self.inside.volume;
      index = c.self.inside.index;
      standing = c.self.inside.standing;
      next = c.self.inside.next;
      bytes = c.self.inside.bytes.items;
    } in
    let row : Record = record { pair = c.args.cell.pair; at = c.end.result; size = c.args.cell.size } in
    let under = subst (λ (x : Stage). IsMaking (g.D.Disk.files c.args.disk.now) x) (sym c.self.view_is) (c.requires.making tells) in
    let peeked = subst (λ (x : Stage). HasRead x.next x.bytes c.args.cell) (sym c.self.view_is) c.requires.read in
    let photo : List ℕ = slice_range c.as_slice.result.now 36 (36 + c.args.cell.size) in
    let seen = photo_seen c.args.cell.size c.as_slice.result.now s.bytes c.as_slice.ensures.value in
    record {
      sup = under.sup;
      fresh = under.fresh ++ renewed s.volume.end peeked.cell ∷ [];
      making =
          copy_makes under.sup (g.D.Disk.files c.args.disk.now) (g.D.Disk.files c.append_loose.new.disk) s c.append_loose.new.self c.note.new.self c.set.new.self under.fresh
          (s.next + c.total_of.result) peeked.cell c.args.cell row photo
          under.making peeked.is c.requires.alive seen (ap (λ (v : VolumeFile). v.file) c.in-Ok.ensures.moved)
          (λ superblock cells. c.in-Ok.ensures.added tells superblock cells c.args.cell.pair c.args.cell.cookie photo
          (subst (λ (l : List ℕ). IsMarked l (live c.args.cell.pair c.args.cell.cookie photo)) (sym c.as_slice-2.ensures.value) c.in_ok-encode_marked.ensures))
          (c.append_loose.ensures.changes tells).free (c.append_loose.ensures.others tells)
          c.in_ok-note.ensures.ok (ap (λ k. let r : Record = record { pair = c.args.cell.pair; at = k; size = c.args.cell.size } in r) c.end.ensures)
          (λ pair. c.set.ensures pair ∙ ap (λ k. cond (pair_eq c.args.cell.pair pair) (Some (copied_at k)) (last_in c.reserve.new.self pair)) c.in-Ok.ensures.place
          ∙ ap (λ o. cond (pair_eq c.args.cell.pair pair) (Some (copied_at s.volume.end)) o) (c.in_ok-reserve.ensures.same pair));
    }

pub returns-in-Ok-clause-examined : goal.returns-in-Ok-clause-examined
returns-in-Ok-clause-examined g c = λ tells sup old current fresh examined cell copying is copy latest.
    let s : Stage = record {
      generation = c.self.inside.generation;
      capacity = c.self.inside.capacity;
      volume = c.self.inside.volume;
      index = c.self.inside.index;
      standing = c.self.inside.standing;
      next = c.self.inside.next;
      bytes = c.self.inside.bytes.items;
    } in
    let row : Record = record { pair = c.args.cell.pair; at = c.end.result; size = c.args.cell.size } in
    let h = subst (λ (x : Stage). Copying sup (g.D.Disk.files c.args.disk.now) old x current fresh examined) (sym c.self.view_is) copying in
    let this = subst (λ (x : Stage). IsCopy x.next x.bytes c.args.cell cell) (sym c.self.view_is) copy in
    let photo : List ℕ = slice_range c.as_slice.result.now 36 (36 + c.args.cell.size) in
    let seen = photo_seen c.args.cell.size c.as_slice.result.now s.bytes c.as_slice.ensures.value in
    let file : c.append_loose.new.self.file ≡ s.volume.file = ap (λ (v : VolumeFile). v.file) c.in-Ok.ensures.moved in
    let made =
    copy_makes sup (g.D.Disk.files c.args.disk.now) (g.D.Disk.files c.append_loose.new.disk) s c.append_loose.new.self c.note.new.self c.set.new.self fresh
    (s.next + c.total_of.result) cell c.args.cell row photo
    (making_of sup (g.D.Disk.files c.args.disk.now) old s current fresh examined h) this c.requires.alive seen file
    (λ superblock cells. c.in-Ok.ensures.added tells superblock cells c.args.cell.pair c.args.cell.cookie photo
    (subst (λ (l : List ℕ). IsMarked l (live c.args.cell.pair c.args.cell.cookie photo)) (sym c.as_slice-2.ensures.value) c.in_ok-encode_marked.ensures))
    (c.append_loose.ensures.changes tells).free (c.append_loose.ensures.others tells)
    c.in_ok-note.ensures.ok (ap (λ k. let r : Record = record { pair = c.args.cell.pair; at = k; size = c.args.cell.size } in r) c.end.ensures)
    (λ pair. c.set.ensures pair ∙ ap (λ k. cond (pair_eq c.args.cell.pair pair) (Some (copied_at k)) (last_in c.reserve.new.self pair)) c.in-Ok.ensures.place
    ∙ ap (λ o. cond (pair_eq c.args.cell.pair pair) (Some (copied_at s.volume.end)) o) (c.in_ok-reserve.ensures.same pair)) in
    let step =
    copy_copies sup (g.D.Disk.files c.args.disk.now) (g.D.Disk.files c.append_loose.new.disk) old s c.append_loose.new.self c.note.new.self c.set.new.self current fresh
    examined c.total_of.result cell c.args.cell (Some c.args.self.now.next)
    h is this latest c.requires.alive (ap (λ (x : Stage). Some x.next) (sym c.self.view_is)) c.total_of.ensures
    file (ap (λ (i : IndexFile). i.file) c.in_ok-note.ensures.ok) (c.append_loose.ensures.others tells) made in
    subst (λ k. MovesOn sup (g.D.Disk.files c.append_loose.new.disk) old (record s {
      volume = c.append_loose.new.self;
      index = c.note.new.self;
      standing = c.set.new.self;
      next = s.next + c.total_of.result;
    }) current fresh examined cell k true)
    (ap (λ (x : Stage). x.volume.end) c.self.view_is) step

pub returns-in-Err-clause-stands : goal.returns-in-Err-clause-stands
returns-in-Err-clause-stands g c = λ tells memory sup old current fresh examined copying.
    let s : Stage = record {
      generation = c.self.inside.generation;
      capacity = c.self.inside.capacity;
      volume = c.self.inside.volume;
      index = c.self.inside.index;
      standing = c.self.inside.standing;
      next = c.self.inside.next;
      bytes = c.self.inside.bytes.items;
    } in
    let why : c.refusal.result ≡ CellFault.NoMemory = cc in
    let wants : c.in-Err.fault ≡ VolumeFault.NoMemory = c.refusal.ensures.no_memory why in
    let index : c.unnote.new.self ≡ s.index =
    unnoted s.index c.unnote.new.self c.note.new.self c.unnote.ensures.0 (record { pair = c.args.cell.pair; at = c.end.result; size = c.args.cell.size }) c.unnote.ensures.1
    c.in_ok-note.ensures.ok in
    copy_stands sup (g.D.Disk.files c.args.disk.now) (g.D.Disk.files c.append_loose.new.disk) old c.args.self.now
    (record s { volume = c.append_loose.new.self; index = c.unnote.new.self; standing = c.reserve.new.self }) c.reserve.new.self current fresh examined copying
    (c.in-Err.ensures.kept tells (λ failed. let e : VolumeFault.NoMemory ≡ VolumeFault.Failed = sym wants ∙ failed in cc))
    (λ pair. c.in_ok-reserve.ensures.same pair ∙ ap (λ (x : Stage). last_in x.standing pair) c.self.view_is)
    (ap (λ (v : VolumeFile). let x : Stage = record s { volume = v; index = c.unnote.new.self; standing = c.reserve.new.self } in x) c.in-Err.ensures.stayed
    ∙ ap (λ (i : IndexFile). let x : Stage = record s { index = i; standing = c.reserve.new.self } in x) index
    ∙ ap (λ (x : Stage). record x { standing = c.reserve.new.self }) c.self.view_is)

pub returns-in-Err-clause-made : goal.returns-in-Err-clause-made
returns-in-Err-clause-made g c = λ tells memory.
    let s : Stage = record {
      generation = c.self.inside.generation;
      capacity = c.self.inside.capacity;
      volume = c.self.inside.volume;
      index = c.self.inside.index;
      standing = c.self.inside.standing;
      next = c.self.inside.next;
      bytes = c.self.inside.bytes.items;
    } in
    let why : c.refusal.result ≡ CellFault.NoMemory = cc in
    let wants : c.in-Err.fault ≡ VolumeFault.NoMemory = c.refusal.ensures.no_memory why in
    let index : c.unnote.new.self ≡ s.index =
    unnoted s.index c.unnote.new.self c.note.new.self c.unnote.ensures.0 (record { pair = c.args.cell.pair; at = c.end.result; size = c.args.cell.size }) c.unnote.ensures.1
    c.in_ok-note.ensures.ok in
    let under = c.requires.making tells in
    record {
      sup = under.sup;
      fresh = under.fresh;
      making =
          making_stands under.sup (g.D.Disk.files c.args.disk.now) (g.D.Disk.files c.append_loose.new.disk) c.args.self.now
          (record s { volume = c.append_loose.new.self; index = c.unnote.new.self; standing = c.reserve.new.self }) c.reserve.new.self under.fresh under.making
          (c.in-Err.ensures.kept tells (λ failed. let e : VolumeFault.NoMemory ≡ VolumeFault.Failed = sym wants ∙ failed in cc))
          (λ pair. c.in_ok-reserve.ensures.same pair ∙ ap (λ (x : Stage). last_in x.standing pair) c.self.view_is)
          (ap (λ (v : VolumeFile). let x : Stage = record s { volume = v; index = c.unnote.new.self; standing = c.reserve.new.self } in x) c.in-Err.ensures.stayed
          ∙ ap (λ (i : IndexFile). let x : Stage = record s { index = i; standing = c.reserve.new.self } in x) index
          ∙ ap (λ (x : Stage). record x { standing = c.reserve.new.self }) c.self.view_is);
    }
