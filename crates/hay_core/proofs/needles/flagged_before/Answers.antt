use Rattle.std.proofs.Common.{◌≡◌, ◌∷◌, true, false, ◌&&◌, ap, ◌∙◌}
use Rattle.std.proofs.lemmas.Bool.{and_left, and_right}
use Rattle.hay_needle.specs.declared.needle.Needle.{Needle}
use Rattle.hay_needle.specs.Tables.{flag_last, lacks, pair_eq}
use Rattle.hay_needle.proofs.TableLaws.{flag_here, flag_not_here}
use Rattle.hay_core.proofs.needles.flagged_before.Goals as goal
use Rattle.hay_core.proofs.needles.flagged_before.Goals.{then-is_same+then-lacks, else-is_same, else-is_same-via-then-is_same+else-lacks, else-is_same-via-else-is_same}

pub returns : goal.returns
returns c =
    let q = c.args.pair in
    let n = c.args.needle.now in
    let behind = c.args.behind.now in
    elim c.if-is_same.branch [
      | then-is_same+then-lacks w ↦
          let a : pair_eq n.pair q ≡ true = cc in
          let b : lacks q behind ≡ true = cc in
          let d : record n { deleted = true } ≡ c.if-is_same.copy = cc (c.in_ok-copy.ensures.same) in
          flag_here q n behind a b ∙ ap (λ (x : Needle). x ∷ flag_last q behind) d
      | else-is_same w ↦
          let d : n ≡ c.if-is_same.copy = cc (c.in_ok-copy.ensures.same) in
          let none : (pair_eq n.pair q && lacks q behind) ≡ false =
          elim w.else-is_same.branch [
            | else-is_same-via-then-is_same+else-lacks v ↦ let b : lacks q behind ≡ false = cc in and_right (pair_eq n.pair q) (lacks q behind) b
            | else-is_same-via-else-is_same v ↦ let a : pair_eq n.pair q ≡ false = cc in and_left (pair_eq n.pair q) (lacks q behind) a
          ] in
          flag_not_here q n behind none ∙ ap (λ (x : Needle). x ∷ flag_last q behind) d
    ]
