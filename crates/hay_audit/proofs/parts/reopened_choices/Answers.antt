use Rattle.std.proofs.Common.{◌≡◌, List, length, map, flat_map, get_or, sym, ap, subst, ◌∙◌, arith}
use Rattle.std.specs.List.{AllByRecursion as Each}
use Rattle.hay_core.specs.declared.entry.Entry.{Entry}
use Rattle.hay_legal.specs.declared.known.ReplicaKnown.{ReplicaKnown}
use Rattle.hay_legal.specs.declared.known.VolumeKnown.{VolumeKnown}
use Rattle.hay_legal.specs.Restarts.{is_kept, kept_entry}
use Rattle.hay_audit_steps.specs.Boxes.{part_of}
use Rattle.hay_audit_steps.specs.Parts.{Part, reopened_parts}
use Rattle.hay_audit.specs.Choosing.{behind}
use Rattle.hay_audit.specs.Sizes.{IsSlight, MayGrow}
use Rattle.hay_audit.proofs.Choosing.{choices_begin, choices_end, choices_on}
use Rattle.hay_audit.proofs.Small.{each_at}
use Rattle.hay_audit.proofs.parts.reopened_choices.Goals as goal

-- each list with each thing behind it that this replica may be found as
abbrev chosen_with : VolumeKnown → Part → List Entry → List (List Part) → List (List Part)
chosen_with volume part es made = flat_map (λ front. map (behind front) (reopened_parts volume part es)) made

pub loop-j-init : goal.loop-j-init
loop-j-init c = choices_begin _ _ _ c.in_ok-made.ensures c.new.ensures

pub choose-requires-clause-grow : goal.choose-requires-clause-grow
choose-requires-clause-grow c =
    each_at MayGrow c.as_slice-replicas.result.now c.loop-j.j c.index-replicas-j.result (omega arith) c.index-replicas-j.is
    (subst (λ (rs : List ReplicaKnown). Each MayGrow rs) (sym (c.as_slice-replicas.ensures ∙ ap (λ (v : VolumeKnown). v.replicas) c.volume.view_is)) (c.requires.grow).1)

pub choose-requires-clause-slight : goal.choose-requires-clause-slight
choose-requires-clause-slight c = each_at IsSlight c.args.highs.now c.loop-j.j c.index-highs-j.result (omega arith) c.index-highs-j.is c.requires.slight

pub loop-j-preserved : goal.loop-j-preserved
loop-j-preserved c =
    let many : length c.as_slice-replicas.result.now ≡ length (c.args.volume.now).replicas =
    ap (λ (rs : List ReplicaKnown). length rs) (c.as_slice-replicas.ensures ∙ ap (λ (v : VolumeKnown). v.replicas) c.volume.view_is) in
    let is : c.index-replicas-j.result ≡ get_or (c.args.volume.now).replicas c.loop-j.j c.index-replicas-j.result =
    subst (λ (rs : List ReplicaKnown). c.index-replicas-j.result ≡ get_or rs c.loop-j.j c.index-replicas-j.result)
    (c.as_slice-replicas.ensures ∙ ap (λ (v : VolumeKnown). v.replicas) c.volume.view_is) c.index-replicas-j.is in
    let kept : c.in_ok-made-2.made ≡ chosen_with c.args.volume.now (part_of c.index-replicas-j.result c.index-lows-j.result c.index-highs-j.result)
    (kept_entry (c.args.volume.now).pending (is_kept c.args.kept.now c.loop-j.j)) c.loop-j.made =
    c.in_ok-made-2.ensures
    ∙ ap (λ (es : List Entry). chosen_with c.args.volume.now (part_of c.index-replicas-j.result c.index-lows-j.result c.index-highs-j.result) es c.loop-j.made)
    (c.kept_change-change.ensures ∙ ap (λ (v : VolumeKnown). kept_entry v.pending (is_kept c.args.kept.now c.loop-j.j)) c.volume.view_is) in
    choices_on c.args.volume.now c.args.kept.now c.loop-j.j c.index-replicas-j.result c.index-lows-j.result c.index-highs-j.result (c.args.volume.now).replicas c.args.lows.now
    c.args.highs.now c.loop-j.made c.in_ok-made-2.made
    (omega (arith, many)) (omega (arith, many)) (omega (arith, many)) is c.index-lows-j.is c.index-highs-j.is kept
    ∙ c.loop-j.invariant

pub returns : goal.returns
returns c =
    let many : length c.as_slice-replicas.result.now ≡ length (c.args.volume.now).replicas =
    ap (λ (rs : List ReplicaKnown). length rs) (c.as_slice-replicas.ensures ∙ ap (λ (v : VolumeKnown). v.replicas) c.volume.view_is) in
    sym (choices_end c.args.volume.now c.args.kept.now c.loop-j.j (c.args.volume.now).replicas c.args.lows.now c.args.highs.now c.loop-j.made (omega (arith, many))) ∙ c.loop-j.invariant
