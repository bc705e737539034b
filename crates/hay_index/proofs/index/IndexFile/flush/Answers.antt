use Rattle.std.proofs.Common.{◌≡◌, ◌++◌, ◌+◌, inl, lit<, arith, ap, ◌∙◌, subst, length, All}
use Rattle.hay_disk.specs.Gate.{end_mark}
use Rattle.hay_index.specs.Records.{RecordFits, IsBlock, block_rest}
use Rattle.hay_index.proofs.IndexLaws.{index_kept, index_grows, index_stays, ends_in_mark, length-body, some_there, as_many, as_far}
use Rattle.hay_index.proofs.index.IndexFile.flush.Goals as goal

-- nothing was written
pub returns-then-is_empty-clause-left : goal.returns-then-is_empty-clause-left
returns-then-is_empty-clause-left g c = λ tells superblock records image is row solid leaves.
    inl (index_kept _ _ _ _ _ (c.requires.gate tells) is solid leaves)

pub returns-in_err-body-clause-left : goal.returns-in_err-body-clause-left
returns-in_err-body-clause-left g c = λ tells superblock records image is row solid leaves.
    inl (index_kept _ _ _ _ _ (c.requires.gate tells) is solid leaves)

pub gate_append-requires-clause-mark : goal.gate_append-requires-clause-mark
gate_append-requires-clause-mark g c =
    ends_in_mark c.as_slice.result.now c.as_slice-2.result.now (c.as_slice-2.ensures.value ∙ c.in_ok-body.ensures.bytes)

-- the append was begun
pub returns-in-Err-clause-left : goal.returns-in-Err-clause-left
returns-in-Err-clause-left g c = λ tells superblock records image is row solid leaves.
    let made : c.as_slice-2.result.now ≡ block_rest c.args.self.now.pending ++ end_mark =
    c.as_slice-2.ensures.value ∙ c.in_ok-body.ensures.bytes ∙ ap (λ l. block_rest l ++ end_mark) c.as_slice.ensures in
    let one : IsBlock c.args.self.now.pending = record {
      some = some_there _ _ c.if-is_empty.false c.is_empty.ensures;
      fit = subst (λ l. All RecordFits l) c.as_slice.ensures c.in_ok-body.ensures.fit;
    } in
    index_stays superblock (g.D.Disk.files c.args.disk.now c.args.self.now.file) (g.D.Disk.files c.gate_append.new.disk c.args.self.now.file) image c.as_slice-2.result.now records
    c.args.self.now.pending c.args.self.now.end made one
    (c.gate_append.ensures.stays tells (lit< tt)) is row solid leaves

pub returns-in-Err-clause-changes : goal.returns-in-Err-clause-changes
returns-in-Err-clause-changes g c = λ tells.
    let made : c.as_slice-2.result.now ≡ block_rest c.args.self.now.pending ++ end_mark =
    c.as_slice-2.ensures.value ∙ c.in_ok-body.ensures.bytes ∙ ap (λ l. block_rest l ++ end_mark) c.as_slice.ensures in
    as_many _ _ _ _ _ (omega (arith, length-body c.args.self.now.pending c.as_slice-2.result.now made)) (c.gate_append.ensures.changes tells)

pub returns-clause-left : goal.returns-clause-left
returns-clause-left g c = λ tells superblock records image is row solid leaves.
    let made : c.as_slice-2.result.now ≡ block_rest c.args.self.now.pending ++ end_mark =
    c.as_slice-2.ensures.value ∙ c.in_ok-body.ensures.bytes ∙ ap (λ l. block_rest l ++ end_mark) c.as_slice.ensures in
    let one : IsBlock c.args.self.now.pending = record {
      some = some_there _ _ c.if-is_empty.false c.is_empty.ensures;
      fit = subst (λ l. All RecordFits l) c.as_slice.ensures c.in_ok-body.ensures.fit;
    } in
    index_stays superblock (g.D.Disk.files c.args.disk.now c.args.self.now.file) (g.D.Disk.files c.gate_append.new.disk c.args.self.now.file) image c.as_slice-2.result.now records
    c.args.self.now.pending c.args.self.now.end made one
    (c.gate_append.ensures.stays tells (lit< tt)) is row solid leaves

pub returns-clause-changes : goal.returns-clause-changes
returns-clause-changes g c = λ tells.
    let made : c.as_slice-2.result.now ≡ block_rest c.args.self.now.pending ++ end_mark =
    c.as_slice-2.ensures.value ∙ c.in_ok-body.ensures.bytes ∙ ap (λ l. block_rest l ++ end_mark) c.as_slice.ensures in
    as_many _ _ _ _ _ (omega (arith, length-body c.args.self.now.pending c.as_slice-2.result.now made)) (c.gate_append.ensures.changes tells)

pub returns-clause-added : goal.returns-clause-added
returns-clause-added g c = λ tells superblock records is row.
    let made : c.as_slice-2.result.now ≡ block_rest c.args.self.now.pending ++ end_mark =
    c.as_slice-2.ensures.value ∙ c.in_ok-body.ensures.bytes ∙ ap (λ l. block_rest l ++ end_mark) c.as_slice.ensures in
    let one : IsBlock c.args.self.now.pending = record {
      some = some_there _ _ c.if-is_empty.false c.is_empty.ensures;
      fit = subst (λ l. All RecordFits l) c.as_slice.ensures c.in_ok-body.ensures.fit;
    } in
    let fits = g.met.D.Disk.fits c.gate_append.new.disk c.args.self.now.file tells in
    let room = (c.in_default.ensures.next tells (lit< tt)).closed.room in
    let long : length c.as_slice-2.result.now ≡ c.len.result = omega (arith, ap length c.as_slice-2.ensures.value, c.in_ok-body.body.ok.0, c.len.ensures) in
    let end = c.flushed.ensures.end (omega (arith, room, fits, long)) in
    index_grows superblock (g.D.Disk.files c.args.disk.now c.args.self.now.file).now (g.D.Disk.files c.gate_append.new.disk c.args.self.now.file).now c.as_slice-2.result.now
    records c.args.self.now.pending c.args.self.now.end c.flushed.new.self.end made
    (omega (arith, end, long, length-body c.args.self.now.pending c.as_slice-2.result.now made)) one (c.in_default.ensures.grows tells (lit< tt)) is row

pub returns-clause-next : goal.returns-clause-next
returns-clause-next g c = λ tells.
    let fits = g.met.D.Disk.fits c.gate_append.new.disk c.args.self.now.file tells in
    let room = (c.in_default.ensures.next tells (lit< tt)).closed.room in
    let long : length c.as_slice-2.result.now ≡ c.len.result = omega (arith, ap length c.as_slice-2.ensures.value, c.in_ok-body.body.ok.0, c.len.ensures) in
    let end = c.flushed.ensures.end (omega (arith, room, fits, long)) in
    as_far (c.args.self.now.end + length c.as_slice-2.result.now) c.flushed.new.self.end (g.D.Disk.files c.gate_append.new.disk c.args.self.now.file) (omega (arith, end, long))
    (c.in_default.ensures.next tells (lit< tt))
