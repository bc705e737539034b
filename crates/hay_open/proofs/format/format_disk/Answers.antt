use Rattle.std.proofs.Common.{◌≡◌, ℕ, [], refl, ap, subst, ◌∙◌, arith}
use Rattle.hay_needle.specs.declared.settings.Super.{Super}
use Rattle.hay_disk.specs.Disk.{Changes, IsFree, IsSolid, Keeps, KeepsOthers}
use Rattle.hay_volume.specs.declared.volume.VolumeFile.{VolumeFile}
use Rattle.hay_volume.specs.Cells.{IsVolume}
use Rattle.hay_index.specs.declared.index.IndexFile.{IndexFile}
use Rattle.hay_index.specs.Records.{IsIndex}
use Rattle.hay_needle.specs.Super.{SuperFits, super_bytes}
use Rattle.hay_open.proofs.Formatting.{Frames, frames, all_solid, fresh_head, fresh_index, fresh_volume, new_left, still_free, void_left}
use Rattle.hay_open.proofs.Undamaged.{fresh_undamaged, fresh_whole}
use Rattle.hay_open.proofs.format.format_disk.Goals as goal

pub format-requires-3 : goal.format-requires-3
format-requires-3 g c = λ tells k from to.
    let f = g.D.Disk.files in
    let v : c.volume_file-volume_number.result ≡ 1 = c.volume_file-volume_number.ensures (omega arith) in
    let x : c.index_file-index_number.result ≡ 2 = c.index_file-index_number.ensures (omega arith) in
    let head : f c.sync-2.new.self 0 ≡ f c.args.disk.now 0 =
    c.sync-2.ensures.others tells 0 (λ is. omega arith) ∙ c.format-2.ensures.others tells 0 (λ is. omega arith) ∙ c.sync.ensures.others tells 0 (λ is. omega arith)
    ∙ c.format.ensures.others tells 0 (λ is. omega arith) ∙ c.remove-2.ensures.others tells 0 (λ is. omega arith) ∙ c.remove.ensures.others tells 0 (λ is. omega arith) in
    ap (λ file. file.sealed k) head ∙ c.requires.free tells 0 k

steps : (g : _) (c : goal.After-new g) → g.D.Disk.Tells → Frames (g.D.Disk.files c.args.disk.now) (g.D.Disk.files c.remove.new.self) (g.D.Disk.files c.remove-2.new.self)
    (g.D.Disk.files c.format.new.disk)
    (g.D.Disk.files c.sync.new.self) (g.D.Disk.files c.format-2.new.disk) (g.D.Disk.files c.sync-2.new.self) (g.D.Disk.files c.format-3.new.disk)
steps g c tells =
    let v : c.volume_file-volume_number.result ≡ 1 = c.volume_file-volume_number.ensures (omega arith) in
    let x : c.index_file-index_number.result ≡ 2 = c.index_file-index_number.ensures (omega arith) in
    let f = g.D.Disk.files in
    frames (f c.args.disk.now) (f c.remove.new.self) (f c.remove-2.new.self) (f c.format.new.disk) (f c.sync.new.self) (f c.format-2.new.disk) (f c.sync-2.new.self) (f c.format-3.new.disk)
    (subst (λ n. KeepsOthers n (f c.args.disk.now) (f c.remove.new.self)) v (c.remove.ensures.others tells))
    (subst (λ n. KeepsOthers n (f c.remove.new.self) (f c.remove-2.new.self)) x (c.remove-2.ensures.others tells))
    (subst (λ n. KeepsOthers n (f c.remove-2.new.self) (f c.format.new.disk)) v (c.format.ensures.others tells))
    (subst (λ n. KeepsOthers n (f c.format.new.disk) (f c.sync.new.self)) v (c.sync.ensures.others tells))
    (subst (λ n. KeepsOthers n (f c.sync.new.self) (f c.format-2.new.disk)) x (c.format-2.ensures.others tells))
    (subst (λ n. KeepsOthers n (f c.format-2.new.disk) (f c.sync-2.new.self)) x (c.sync-2.ensures.others tells))
    (c.format-3.ensures.others tells)

pub returns-clause-others : goal.returns-clause-others
returns-clause-others g c = λ tells n far. (steps g c tells).others n far

pub returns-clause-solid : goal.returns-clause-solid
returns-clause-solid g c = λ tells.
    let v : c.volume_file-volume_number.result ≡ 1 = c.volume_file-volume_number.ensures (omega arith) in
    let x : c.index_file-index_number.result ≡ 2 = c.index_file-index_number.ensures (omega arith) in
    let f = g.D.Disk.files in
    all_solid (f c.args.disk.now) (f c.remove.new.self) (f c.remove-2.new.self) (f c.format.new.disk) (f c.sync.new.self) (f c.format-2.new.disk) (f c.sync-2.new.self) (f c.format-3.new.disk)
    (steps g c tells) (c.requires.solid tells) (c.in_ok-head.ensures.solid tells) (subst (λ n. IsSolid (f c.sync.new.self n)) v (c.in_ok-sync.ensures.solid tells))
    (subst (λ n. IsSolid (f c.sync-2.new.self n)) x (c.in_ok-sync-2.ensures.solid tells))

pub returns-clause-opened : goal.returns-clause-opened
returns-clause-opened g c = λ tells.
    let v : c.volume_file-volume_number.result ≡ 1 = c.volume_file-volume_number.ensures (omega arith) in
    let x : c.index_file-index_number.result ≡ 2 = c.index_file-index_number.ensures (omega arith) in
    let f = g.D.Disk.files in
    let by = steps g c tells in
    let sup = c.args.sup.now in
    let free0 : IsFree (f c.sync-2.new.self 0) = λ k. ap (λ file. file.sealed k) by.head ∙ c.requires.free tells 0 k in
    let volume_solid = subst (λ n. IsSolid (f c.sync.new.self n)) v (c.in_ok-sync.ensures.solid tells) in
    let volume_keeps = subst (λ n. Keeps (f c.format.new.disk n) (f c.sync.new.self n)) v (c.sync.ensures.keeps tells) in
    let volume_free =
    still_free (f c.remove.new.self 1) (f c.remove-2.new.self 1) (f c.format.new.disk 1) (f c.sync.new.self 1)
    (subst (λ n. IsFree (f c.remove.new.self n)) v (c.in_ok-remove.ensures.free tells)) by.volume_gone
    (subst (λ n. Changes 0 72 (f c.remove-2.new.self n) (f c.format.new.disk n)) v (c.format.ensures.changes tells)) volume_keeps in
    let index_solid = subst (λ n. IsSolid (f c.sync-2.new.self n)) x (c.in_ok-sync-2.ensures.solid tells) in
    let index_keeps = subst (λ n. Keeps (f c.format-2.new.disk n) (f c.sync-2.new.self n)) x (c.sync-2.ensures.keeps tells) in
    let index_free =
    still_free (f c.remove-2.new.self 2) (f c.sync.new.self 2) (f c.format-2.new.disk 2) (f c.sync-2.new.self 2)
    (subst (λ n. IsFree (f c.remove-2.new.self n)) x (c.in_ok-remove-2.ensures.free tells)) by.index_gone
    (subst (λ n. Changes 0 72 (f c.sync.new.self n) (f c.format-2.new.disk n)) x (c.format-2.ensures.changes tells)) index_keeps in
    let made : ℕ → ℕ → VolumeFile = λ n room. record { file = n; end = 64; capacity = room } in
    let index_made = c.in_ok-index.ensures.made in
    record {
      generation = ap (λ head. head.generation) c.in_ok-head.ensures.made;
      lags = omega arith;
      head =
          fresh_head sup c.head_super.result (f c.format-3.new.disk 0) c.head_super.ensures (c.in_ok-head.ensures.fresh tells) (c.in_ok-head.ensures.solid tells)
          (c.in_ok-head.ensures.next tells free0);
      volume = c.in_ok-volume.ensures.made ∙ ap (λ n. made n c.volume_super.result.settings.capacity) v ∙ ap (λ (s : Super). made 1 s.settings.capacity) c.volume_super.ensures.is;
      cells = fresh_volume sup c.volume_super.result (f c.format.new.disk 1) (f c.sync.new.self 1) (f c.format-3.new.disk 1) c.volume_super.ensures.is
          (subst (λ n. IsVolume (super_bytes c.volume_super.result) (f c.format.new.disk n).now _ 64) v (c.in_ok-volume.ensures.empty tells)) volume_keeps volume_solid volume_free by.volume_stays;
      index_number = ap (λ (i : IndexFile). i.file) index_made ∙ x;
      noted = ap (λ (i : IndexFile). i.pending) index_made;
      index = fresh_index sup c.index_super.result (f c.format-2.new.disk 2) (f c.sync-2.new.self 2) (f c.format-3.new.disk 2) c.in_ok-index.index.end c.index_super.ensures
          (subst (λ n. IsIndex (super_bytes c.index_super.result) (f c.format-2.new.disk n).now _ 64) x (c.in_ok-index.ensures.empty tells)) index_keeps index_solid index_free
          by.index_stays (ap (λ (i : IndexFile). i.end) index_made);
      records = refl;
      orphans = refl;
    }

pub returns-in_err-remove-clause-nothing : goal.returns-in_err-remove-clause-nothing
returns-in_err-remove-clause-nothing g c = λ tells void image leaves other s opens.
    let v : c.volume_file-volume_number.result ≡ 1 = c.volume_file-volume_number.ensures (omega arith) in
    let x : c.index_file-index_number.result ≡ 2 = c.index_file-index_number.ensures (omega arith) in
    let f = g.D.Disk.files in
    let head : f c.remove.new.self 0 ≡ f c.args.disk.now 0 = c.remove.ensures.others tells 0 (λ is. omega arith) in
    void_left other (f c.args.disk.now) (f c.remove.new.self) image s head void (c.requires.solid tells 0) leaves opens

pub returns-in_err-remove-2-clause-nothing : goal.returns-in_err-remove-2-clause-nothing
returns-in_err-remove-2-clause-nothing g c = λ tells void image leaves other s opens.
    let v : c.volume_file-volume_number.result ≡ 1 = c.volume_file-volume_number.ensures (omega arith) in
    let x : c.index_file-index_number.result ≡ 2 = c.index_file-index_number.ensures (omega arith) in
    let f = g.D.Disk.files in
    let head : f c.remove-2.new.self 0 ≡ f c.args.disk.now 0 = c.remove-2.ensures.others tells 0 (λ is. omega arith) ∙ c.remove.ensures.others tells 0 (λ is. omega arith) in
    void_left other (f c.args.disk.now) (f c.remove-2.new.self) image s head void (c.requires.solid tells 0) leaves opens

pub returns-in_err-volume-clause-nothing : goal.returns-in_err-volume-clause-nothing
returns-in_err-volume-clause-nothing g c = λ tells void image leaves other s opens.
    let v : c.volume_file-volume_number.result ≡ 1 = c.volume_file-volume_number.ensures (omega arith) in
    let x : c.index_file-index_number.result ≡ 2 = c.index_file-index_number.ensures (omega arith) in
    let f = g.D.Disk.files in
    let head : f c.format.new.disk 0 ≡ f c.args.disk.now 0 =
    c.format.ensures.others tells 0 (λ is. omega arith) ∙ c.remove-2.ensures.others tells 0 (λ is. omega arith) ∙ c.remove.ensures.others tells 0 (λ is. omega arith) in
    void_left other (f c.args.disk.now) (f c.format.new.disk) image s head void (c.requires.solid tells 0) leaves opens

pub returns-in_err-sync-clause-nothing : goal.returns-in_err-sync-clause-nothing
returns-in_err-sync-clause-nothing g c = λ tells void image leaves other s opens.
    let v : c.volume_file-volume_number.result ≡ 1 = c.volume_file-volume_number.ensures (omega arith) in
    let x : c.index_file-index_number.result ≡ 2 = c.index_file-index_number.ensures (omega arith) in
    let f = g.D.Disk.files in
    let head : f c.sync.new.self 0 ≡ f c.args.disk.now 0 =
    c.sync.ensures.others tells 0 (λ is. omega arith) ∙ c.format.ensures.others tells 0 (λ is. omega arith) ∙ c.remove-2.ensures.others tells 0 (λ is. omega arith)
    ∙ c.remove.ensures.others tells 0 (λ is. omega arith) in
    void_left other (f c.args.disk.now) (f c.sync.new.self) image s head void (c.requires.solid tells 0) leaves opens

pub returns-in_err-index-clause-nothing : goal.returns-in_err-index-clause-nothing
returns-in_err-index-clause-nothing g c = λ tells void image leaves other s opens.
    let v : c.volume_file-volume_number.result ≡ 1 = c.volume_file-volume_number.ensures (omega arith) in
    let x : c.index_file-index_number.result ≡ 2 = c.index_file-index_number.ensures (omega arith) in
    let f = g.D.Disk.files in
    let head : f c.format-2.new.disk 0 ≡ f c.args.disk.now 0 =
    c.format-2.ensures.others tells 0 (λ is. omega arith) ∙ c.sync.ensures.others tells 0 (λ is. omega arith) ∙ c.format.ensures.others tells 0 (λ is. omega arith)
    ∙ c.remove-2.ensures.others tells 0 (λ is. omega arith) ∙ c.remove.ensures.others tells 0 (λ is. omega arith) in
    void_left other (f c.args.disk.now) (f c.format-2.new.disk) image s head void (c.requires.solid tells 0) leaves opens

pub returns-in_err-sync-2-clause-nothing : goal.returns-in_err-sync-2-clause-nothing
returns-in_err-sync-2-clause-nothing g c = λ tells void image leaves other s opens.
    let v : c.volume_file-volume_number.result ≡ 1 = c.volume_file-volume_number.ensures (omega arith) in
    let x : c.index_file-index_number.result ≡ 2 = c.index_file-index_number.ensures (omega arith) in
    let f = g.D.Disk.files in
    let head : f c.sync-2.new.self 0 ≡ f c.args.disk.now 0 =
    c.sync-2.ensures.others tells 0 (λ is. omega arith) ∙ c.format-2.ensures.others tells 0 (λ is. omega arith) ∙ c.sync.ensures.others tells 0 (λ is. omega arith)
    ∙ c.format.ensures.others tells 0 (λ is. omega arith) ∙ c.remove-2.ensures.others tells 0 (λ is. omega arith) ∙ c.remove.ensures.others tells 0 (λ is. omega arith) in
    void_left other (f c.args.disk.now) (f c.sync-2.new.self) image s head void (c.requires.solid tells 0) leaves opens

pub returns-in_err-head-clause-nothing : goal.returns-in_err-head-clause-nothing
returns-in_err-head-clause-nothing g c = λ tells void image leaves other s opens.
    let v : c.volume_file-volume_number.result ≡ 1 = c.volume_file-volume_number.ensures (omega arith) in
    let x : c.index_file-index_number.result ≡ 2 = c.index_file-index_number.ensures (omega arith) in
    let f = g.D.Disk.files in
    let by = frames (f c.args.disk.now) (f c.remove.new.self) (f c.remove-2.new.self) (f c.format.new.disk) (f c.sync.new.self) (f c.format-2.new.disk) (f c.sync-2.new.self) (f c.format-3.new.disk)
    (subst (λ n. KeepsOthers n (f c.args.disk.now) (f c.remove.new.self)) v (c.remove.ensures.others tells))
    (subst (λ n. KeepsOthers n (f c.remove.new.self) (f c.remove-2.new.self)) x (c.remove-2.ensures.others tells))
    (subst (λ n. KeepsOthers n (f c.remove-2.new.self) (f c.format.new.disk)) v (c.format.ensures.others tells))
    (subst (λ n. KeepsOthers n (f c.format.new.disk) (f c.sync.new.self)) v (c.sync.ensures.others tells))
    (subst (λ n. KeepsOthers n (f c.sync.new.self) (f c.format-2.new.disk)) x (c.format-2.ensures.others tells))
    (subst (λ n. KeepsOthers n (f c.format-2.new.disk) (f c.sync-2.new.self)) x (c.sync-2.ensures.others tells))
    (c.format-3.ensures.others tells) in
    new_left c.args.sup.now c.volume_super.result other (f c.args.disk.now) (f c.format.new.disk) (f c.sync.new.self) (f c.sync-2.new.self) (f c.format-3.new.disk) image s by.head
    void (c.requires.solid tells 0) c.volume_super.ensures.is
    (subst (λ n. IsVolume (super_bytes c.volume_super.result) (f c.format.new.disk n).now [] 64) v (c.in_ok-volume.ensures.empty tells))
    (subst (λ n. Keeps (f c.format.new.disk n) (f c.sync.new.self n)) v (c.sync.ensures.keeps tells))
    (subst (λ n. IsSolid (f c.sync.new.self n)) v (c.in_ok-sync.ensures.solid tells)) by.volume_stays (c.format-3.ensures.changes tells) leaves opens

pub returns-clause-nothing : goal.returns-clause-nothing
returns-clause-nothing g c = λ tells void image leaves other s opens.
    let v : c.volume_file-volume_number.result ≡ 1 = c.volume_file-volume_number.ensures (omega arith) in
    let x : c.index_file-index_number.result ≡ 2 = c.index_file-index_number.ensures (omega arith) in
    let f = g.D.Disk.files in
    let by = steps g c tells in
    new_left c.args.sup.now c.volume_super.result other (f c.args.disk.now) (f c.format.new.disk) (f c.sync.new.self) (f c.sync-2.new.self) (f c.format-3.new.disk) image s by.head
    void (c.requires.solid tells 0) c.volume_super.ensures.is
    (subst (λ n. IsVolume (super_bytes c.volume_super.result) (f c.format.new.disk n).now [] 64) v (c.in_ok-volume.ensures.empty tells))
    (subst (λ n. Keeps (f c.format.new.disk n) (f c.sync.new.self n)) v (c.sync.ensures.keeps tells))
    (subst (λ n. IsSolid (f c.sync.new.self n)) v (c.in_ok-sync.ensures.solid tells)) by.volume_stays (c.format-3.ensures.changes tells) leaves opens

pub returns-clause-reads : goal.returns-clause-reads
returns-clause-reads g c = λ tells.
    fresh_whole g.D.Piece.Piece.Tells c.args.sup.now (g.D.Disk.files c.format-3.new.disk) _ (returns-clause-opened g c tells) c.new.ensures.items

pub returns-clause-whole : goal.returns-clause-whole
returns-clause-whole g c = λ tells file at.
    let short = g.met.D.Disk.fits in
    fresh_undamaged g.D.Piece.Piece.Tells c.args.sup.now (g.D.Disk.files c.format-3.new.disk) _ file at (λ n. short c.format-3.new.disk n tells)
    (subst (λ (s : Super). SuperFits s) c.volume_super.ensures.is c.volume_super.ensures.fits) (returns-clause-opened g c tells) c.new.ensures.items
