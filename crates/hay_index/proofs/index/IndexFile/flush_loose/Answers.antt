use Rattle.std.proofs.Common.{◌≡◌, ◌++◌, ◌+◌, ◌*◌, arith, ap, ◌∙◌, subst, length, refl, All}
use Rattle.hay_disk.specs.Gate.{end_mark, record_of}
use Rattle.hay_index.specs.Records.{RecordFits, IsBlock, block_rest, index_magic}
use Rattle.hay_index.proofs.IndexLaws.{index_grows, whole_grows, length-whole, written_long, some_there, as_many}
use Rattle.hay_index.proofs.index.IndexFile.flush_loose.Goals as goal

pub write-requires-clause-free : goal.write-requires-clause-free
write-requires-clause-free g c = λ tells k from to.
    let made : c.as_slice-2.result.now ≡ record_of index_magic (block_rest c.args.self.now.pending ++ end_mark) =
    c.as_slice-2.ensures.value ∙ c.in_ok-block.ensures.bytes ∙ ap (λ l. record_of index_magic (block_rest l ++ end_mark)) c.as_slice.ensures in
    c.requires.free tells k from (omega (arith, to, length-whole c.args.self.now.pending c.as_slice-2.result.now made))

pub returns-in-Err-clause-changes : goal.returns-in-Err-clause-changes
returns-in-Err-clause-changes g c = λ tells.
    let made : c.as_slice-2.result.now ≡ record_of index_magic (block_rest c.args.self.now.pending ++ end_mark) =
    c.as_slice-2.ensures.value ∙ c.in_ok-block.ensures.bytes ∙ ap (λ l. record_of index_magic (block_rest l ++ end_mark)) c.as_slice.ensures in
    as_many c.args.self.now.end (length c.as_slice-2.result.now) (24 + 32 * length c.args.self.now.pending) (g.D.Disk.files c.args.disk.now c.args.self.now.file)
    (g.D.Disk.files c.write.new.self c.args.self.now.file) (length-whole c.args.self.now.pending c.as_slice-2.result.now made) (c.write.ensures.changes tells)

pub returns-clause-changes : goal.returns-clause-changes
returns-clause-changes g c = λ tells.
    let made : c.as_slice-2.result.now ≡ record_of index_magic (block_rest c.args.self.now.pending ++ end_mark) =
    c.as_slice-2.ensures.value ∙ c.in_ok-block.ensures.bytes ∙ ap (λ l. record_of index_magic (block_rest l ++ end_mark)) c.as_slice.ensures in
    as_many c.args.self.now.end (length c.as_slice-2.result.now) (24 + 32 * length c.args.self.now.pending) (g.D.Disk.files c.args.disk.now c.args.self.now.file)
    (g.D.Disk.files c.write.new.self c.args.self.now.file) (length-whole c.args.self.now.pending c.as_slice-2.result.now made) (c.write.ensures.changes tells)

pub returns-clause-added : goal.returns-clause-added
returns-clause-added g c = λ tells superblock records is row.
    let block = c.args.self.now.pending in
    let bytes = c.as_slice-2.result.now in
    let made : bytes ≡ record_of index_magic (block_rest block ++ end_mark) =
    c.as_slice-2.ensures.value ∙ c.in_ok-block.ensures.bytes ∙ ap (λ l. record_of index_magic (block_rest l ++ end_mark)) c.as_slice.ensures in
    let one : IsBlock block = record {
      some = some_there c.is_empty.result block c.if-is_empty.false c.is_empty.ensures;
      fit = subst (λ l. All RecordFits l) c.as_slice.ensures c.in_ok-block.ensures.fit;
    } in
    let fits = g.met.D.Disk.fits c.write.new.self c.args.self.now.file tells in
    let written = c.in_default.ensures.written tells in
    let room =
    written_long c.args.self.now.end bytes (g.D.Disk.files c.args.disk.now c.args.self.now.file).now (g.D.Disk.files c.write.new.self c.args.self.now.file).now (c.requires.inside tells) written in
    let long : length bytes ≡ c.len.result = omega (arith, ap length c.as_slice-2.ensures.value, c.in_ok-block.block.ok.0, c.len.ensures) in
    let size = length-whole block bytes made in
    let end = c.flushed.ensures.end (omega (arith, room, fits, long)) in
    index_grows superblock (g.D.Disk.files c.args.disk.now c.args.self.now.file).now (g.D.Disk.files c.write.new.self c.args.self.now.file).now (block_rest block ++ end_mark)
    records block c.args.self.now.end c.flushed.new.self.end refl
    (omega (arith, end, long, size)) one (whole_grows c.args.self.now.end bytes (g.D.Disk.files c.args.disk.now c.args.self.now.file).now
    (g.D.Disk.files c.write.new.self c.args.self.now.file).now block made written) is row
