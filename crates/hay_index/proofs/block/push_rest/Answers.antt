use Rattle.std.proofs.Common.{◌≡◌, ◌++◌, ◌∙◌, ap, get_or, length, subst}
use Rattle.byteorder.specs.Endian.{big_bytes}
use Rattle.hay_index.specs.Records.{RecordFits, record_bytes}
use Rattle.hay_index.proofs.RecordLaws.{encode_more, fit_more}
use Rattle.hay_index.proofs.block.push_rest.Goals as goal

pub loop-record-preserved : goal.loop-record-preserved
loop-record-preserved c =
    let row : c.record.result ≡ get_or c.args.records.now c.loop-record.record-index c.record-item.result = c.record.ensures ∙ c.record-item.is in
    record {
      bytes =
          encode_more c.args.records.now c.loop-record.record-index c.record-item.result (c.args.out.now.items ++ big_bytes 8 (length c.args.records.now)) c.loop-record.out.items
          c.extend_from_slice-in-loop-record.new.self.items c.bytes_of.result c.loop-record-test.true (c.bytes_of.ensures.bytes ∙ ap record_bytes row) c.loop-record.invariant.bytes
          c.in_ok-extend_from_slice-2.ensures.items;
      fit = fit_more c.args.records.now c.loop-record.record-index c.record-item.result c.loop-record-test.true c.loop-record.invariant.fit (subst RecordFits row c.bytes_of.ensures.fits);
    }
