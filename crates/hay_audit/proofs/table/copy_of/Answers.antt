use Rattle.std.proofs.Common.{◌≡◌, ◌∷◌, ap, sym, subst, ◌∙◌}
use Rattle.std.specs.BTreeMap.{insert_entry}
use Rattle.std.specs.Map.Iter.{deref_pair}
use Rattle.std.proofs.lemmas.Map.Iter.{rest_more}
use Rattle.hay_needle.specs.declared.needle.Photo.{Photo}
use Rattle.hay_needle.specs.Tables.{pair_cmp}
use Rattle.hay_audit.proofs.ByPair.{copy_more}
use Rattle.hay_audit.proofs.table.copy_of.Goals as goal

pub loop-pair-preserved-in_ok-insert : goal.loop-pair-preserved-in_ok-insert
loop-pair-preserved-in_ok-insert c =
    copy_more c.args.photos.now.entries c.loop-pair.copy.entries c.loop-pair.pair-iterator c.next.new.self c.insert.new.self.entries c.in-Some.pair.now c.in-Some.photo.now
    c.len-count.ensures.ordered c.loop-pair.invariant
    (rest_more deref_pair c.loop-pair.pair-iterator c.next.new.self c.next.result (c.in-Some.pair, c.in-Some.photo) c.in-Some.is c.next.ensures.steps)
    (c.in_ok-insert.ensures.entries ∙ ap (λ (photo : Photo). insert_entry pair_cmp c.loop-pair.copy.entries c.in-Some.pair.now photo) c.in_ok-duplicate.ensures.same)

pub loop-pair-preserved : goal.loop-pair-preserved
loop-pair-preserved c =
    copy_more c.args.photos.now.entries c.loop-pair.copy.entries c.loop-pair.pair-iterator c.next.new.self c.insert.new.self.entries c.in-Some.pair.now c.in-Some.photo.now
    c.len-count.ensures.ordered c.loop-pair.invariant
    (rest_more deref_pair c.loop-pair.pair-iterator c.next.new.self c.next.result (c.in-Some.pair, c.in-Some.photo) c.in-Some.is c.next.ensures.steps)
    (c.in_ok-insert.ensures.entries ∙ ap (λ (photo : Photo). insert_entry pair_cmp c.loop-pair.copy.entries c.in-Some.pair.now photo) c.in_ok-duplicate.ensures.same)
