use Rattle.std.proofs.Common.{◌≡◌, ◌∙◌, ◌++◌, ap, refl, replicate}
use Rattle.hay_needle.specs.Super.{super_bytes}
use Rattle.hay_needle.proofs.Supers.{length-super}
use borrow.Rule.Slice.PartMut.{put_mid}
use Rattle.hay_head.proofs.HeadLaws.{pasted}
use Rattle.hay_head.proofs.head.fresh_file.Goals as goal

pub returns : goal.returns
returns c =
    let front : c.copy_from_slice.new.self ≡ super_bytes c.args.sup.now = cc in
    ap (λ l. put_mid 64 24 (l ++ replicate 24 0) c.copy_from_slice-2.new.self) front ∙ pasted (super_bytes c.args.sup.now) (replicate 24 0) c.copy_from_slice-2.new.self
    (length-super c.args.sup.now) refl
    ∙ ap (λ l. super_bytes c.args.sup.now ++ l) (cc)
