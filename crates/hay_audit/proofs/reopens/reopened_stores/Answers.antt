use Rattle.std.proofs.Common.{◌≡◌, ℕ, ◌-◌, ◌≤◌, Bool, List, [], ◌∷◌, length, take, drop, flat_map, get_or, Option, Some, None, sym, ap, subst, ◌∙◌, arith}
use Rattle.std.specs.Prelude.{IfNone, IfSome, map}
use Rattle.std.specs.List.{AllByRecursion as Each}
use Rattle.hay_legal.specs.declared.known.VolumeKnown.{VolumeKnown}
use Rattle.hay_audit_steps.specs.BoxReopen.{parts_of, reopened_stores, volume_kept}
use Rattle.hay_audit_steps.specs.Boxes.{Box}
use Rattle.hay_audit_steps.specs.Parts.{Part, reopened_choices}
use Rattle.hay_audit_steps.specs.Slacks.{Slack}
use Rattle.hay_audit.specs.declared.boxes.BoxState.TheInside.{Inside}
use Rattle.hay_audit.specs.declared.keeps.KeptBy.{KeptBy}
use Rattle.hay_audit.specs.Choosing.{behind}
use Rattle.hay_audit.specs.Sizes.{IsSlight, VolumeMayGrow}
use Rattle.hay_audit.proofs.Choosing.{stores_begin, stores_done, stores_on, stores_stop}
use Rattle.hay_audit.proofs.Lists.{all_behind, further_within}
use Rattle.hay_audit.proofs.Small.{each_at}
use Rattle.hay_audit.proofs.reopens.reopened_stores.Goals as goal

-- an item of an equal list
at_same : {X : Type 0} (i : ℕ) (x : X) (xs ys : List X) → xs ≡ ys → x ≡ get_or xs i x → x ≡ get_or ys i x
at_same i x xs ys e is = subst (λ (zs : List _). x ≡ get_or zs i x) e is

pub loop-v-init : goal.loop-v-init
loop-v-init c = record {
  read =
      stores_begin c.in_ok-stores.stores (reopened_stores c.args.settings.now 0 c.args.state.now.base.volumes c.args.state.now.low c.args.state.now.high c.args.notes.now)
      (c.in_ok-stores.ensures ∙ ap (λ (front : List (List Part)). front ∷ []) c.new.ensures);
  within = omega arith;
}

pub reopened_choices-requires-clause-grow : goal.reopened_choices-requires-clause-grow
reopened_choices-requires-clause-grow c =
    let volumes : c.as_slice-volumes.result.now ≡ c.args.state.now.base.volumes =
    c.as_slice-volumes.ensures ∙ ap (λ (i : Inside). i.base.volumes) c.state-inside.view_is ∙ ap (λ (b : Box). b.base.volumes) c.state.view_is in
    each_at VolumeMayGrow c.args.state.now.base.volumes c.loop-v.v c.index-volumes-at.result (omega (arith, c.loop-v-test.true, c.requires.many))
    (at_same c.loop-v.v c.index-volumes-at.result c.as_slice-volumes.result.now c.args.state.now.base.volumes volumes c.index-volumes-at.is) (c.requires.small).volumes

pub reopened_choices-requires-clause-slight : goal.reopened_choices-requires-clause-slight
reopened_choices-requires-clause-slight c =
    let highs : c.as_slice-highs.result.now ≡ c.args.state.now.high =
    let a = c.as_slice-highs.ensures in let b = ap (λ (i : Inside). i.high) c.state-inside.view_is in let d = ap (λ (b : Box). b.high) c.state.view_is in cc in
    subst (λ (row : List Slack). Each IsSlight row) (sym c.as_slice-high.ensures)
    (each_at (λ row. Each IsSlight row) c.args.state.now.high c.loop-v.v c.index-highs-at.result (omega (arith, c.loop-v-test.true, c.requires.highs))
    (at_same c.loop-v.v c.index-highs-at.result c.as_slice-highs.result.now c.args.state.now.high highs c.index-highs-at.is) (c.requires.small).most)

pub returns-in_default-clause-none : goal.returns-in_default-clause-none
returns-in_default-clause-none c =
    let volumes : c.as_slice-volumes.result.now ≡ c.args.state.now.base.volumes =
    c.as_slice-volumes.ensures ∙ ap (λ (i : Inside). i.base.volumes) c.state-inside.view_is ∙ ap (λ (b : Box). b.base.volumes) c.state.view_is in
    let lows : c.as_slice-lows.result.now ≡ c.args.state.now.low =
    let a = c.as_slice-lows.ensures in let b = ap (λ (i : Inside). i.low) c.state-inside.view_is in let d = ap (λ (b : Box). b.low) c.state.view_is in cc in
    let highs : c.as_slice-highs.result.now ≡ c.args.state.now.high =
    let a = c.as_slice-highs.ensures in let b = ap (λ (i : Inside). i.high) c.state-inside.view_is in let d = ap (λ (b : Box). b.high) c.state.view_is in cc in
    stores_stop c.args.settings.now c.loop-v.v c.loop-v.used c.loop-v.stores c.args.state.now.base.volumes c.args.state.now.low c.args.state.now.high c.args.notes.now
    (take (length c.args.notes.now - c.loop-v.used) (drop c.loop-v.used c.args.notes.now)) c.index-volumes-at.result c.index-lows-at.result c.index-highs-at.result
    (reopened_stores c.args.settings.now 0 c.args.state.now.base.volumes c.args.state.now.low c.args.state.now.high c.args.notes.now)
    (omega (arith, c.loop-v-test.true, c.requires.many)) (omega (arith, c.loop-v-test.true, c.requires.lows)) (omega (arith, c.loop-v-test.true, c.requires.highs))
    (at_same c.loop-v.v c.index-volumes-at.result c.as_slice-volumes.result.now c.args.state.now.base.volumes volumes c.index-volumes-at.is)
    (at_same c.loop-v.v c.index-lows-at.result c.as_slice-lows.result.now c.args.state.now.low lows c.index-lows-at.is)
    (at_same c.loop-v.v c.index-highs-at.result c.as_slice-highs.result.now c.args.state.now.high highs c.index-highs-at.is)
    (all_behind c.args.notes.now c.loop-v.used)
    (subst (λ (o : Option KeptBy). IfNone o (volume_kept c.args.settings.now c.loop-v.v c.index-volumes-at.result
    (take (length c.args.notes.now - c.loop-v.used) (drop c.loop-v.used c.args.notes.now)) (c.index-volumes-at.result).pending ≡ None)) c.in_default.is c.in_ok-told.ensures.none)
    (c.loop-v.invariant).read

pub loop-v-preserved : goal.loop-v-preserved
loop-v-preserved c =
    let volumes : c.as_slice-volumes.result.now ≡ c.args.state.now.base.volumes =
    c.as_slice-volumes.ensures ∙ ap (λ (i : Inside). i.base.volumes) c.state-inside.view_is ∙ ap (λ (b : Box). b.base.volumes) c.state.view_is in
    let lows : c.as_slice-lows.result.now ≡ c.args.state.now.low =
    let a = c.as_slice-lows.ensures in let b = ap (λ (i : Inside). i.low) c.state-inside.view_is in let d = ap (λ (b : Box). b.low) c.state.view_is in cc in
    let highs : c.as_slice-highs.result.now ≡ c.args.state.now.high =
    let a = c.as_slice-highs.ensures in let b = ap (λ (i : Inside). i.high) c.state-inside.view_is in let d = ap (λ (b : Box). b.high) c.state.view_is in cc in
    let told =
    subst (λ (o : Option KeptBy). IfSome o (λ t. volume_kept c.args.settings.now c.loop-v.v c.index-volumes-at.result
    (take (length c.args.notes.now - c.loop-v.used) (drop c.loop-v.used c.args.notes.now)) (c.index-volumes-at.result).pending
    ≡ Some (record { value = t.kept; rest = drop t.used (take (length c.args.notes.now - c.loop-v.used) (drop c.loop-v.used c.args.notes.now)) }))) c.in-Some.is c.in_ok-told.ensures.some in
    let within =
    subst (λ (o : Option KeptBy). IfSome o (λ t. t.used ≤ length (take (length c.args.notes.now - c.loop-v.used) (drop c.loop-v.used c.args.notes.now)))) c.in-Some.is
    c.in_ok-told.ensures.within in
    let choices : c.in_ok-choices.choices ≡ reopened_choices c.index-volumes-at.result (c.in-Some.told).kept 0
    (parts_of (c.index-volumes-at.result).replicas c.index-lows-at.result c.index-highs-at.result) =
    c.in_ok-choices.ensures
    ∙ ap (λ (kept : List Bool). reopened_choices c.index-volumes-at.result kept 0 (parts_of (c.index-volumes-at.result).replicas c.as_slice-low.result.now
    c.as_slice-high.result.now)) c.as_slice.ensures
    ∙ ap (λ (low : List Slack). reopened_choices c.index-volumes-at.result (c.in-Some.told).kept 0 (parts_of (c.index-volumes-at.result).replicas low c.as_slice-high.result.now))
    c.as_slice-low.ensures
    ∙ ap (λ (high : List Slack). reopened_choices c.index-volumes-at.result (c.in-Some.told).kept 0 (parts_of (c.index-volumes-at.result).replicas c.index-lows-at.result high))
    c.as_slice-high.ensures in
    record {
      read =
          stores_on c.args.settings.now c.loop-v.v c.loop-v.used (c.in-Some.told).used c.loop-v.stores c.in_ok-stores-2.stores c.args.state.now.base.volumes c.args.state.now.low
          c.args.state.now.high c.args.notes.now (take (length c.args.notes.now - c.loop-v.used) (drop c.loop-v.used c.args.notes.now))
          c.index-volumes-at.result c.index-lows-at.result c.index-highs-at.result (c.in-Some.told).kept
          (reopened_stores c.args.settings.now 0 c.args.state.now.base.volumes c.args.state.now.low c.args.state.now.high c.args.notes.now)
          (omega (arith, c.loop-v-test.true, c.requires.many)) (omega (arith, c.loop-v-test.true, c.requires.lows)) (omega (arith, c.loop-v-test.true, c.requires.highs))
          (at_same c.loop-v.v c.index-volumes-at.result c.as_slice-volumes.result.now c.args.state.now.base.volumes volumes c.index-volumes-at.is)
          (at_same c.loop-v.v c.index-lows-at.result c.as_slice-lows.result.now c.args.state.now.low lows c.index-lows-at.is)
          (at_same c.loop-v.v c.index-highs-at.result c.as_slice-highs.result.now c.args.state.now.high highs c.index-highs-at.is)
          (all_behind c.args.notes.now c.loop-v.used) told
          (c.in_ok-stores-2.ensures ∙ ap (λ (made : List (List Part)). flat_map (λ front. map (behind front) made) c.loop-v.stores) choices) (c.loop-v.invariant).read;
      within = further_within c.args.notes.now c.loop-v.used (c.in-Some.told).used (c.loop-v.invariant).within within;
    }

pub returns-clause-some : goal.returns-clause-some
returns-clause-some c =
    stores_done c.args.settings.now c.loop-v.v c.loop-v.used c.loop-v.stores c.args.state.now.base.volumes c.args.state.now.low c.args.state.now.high c.args.notes.now
    (reopened_stores c.args.settings.now 0 c.args.state.now.base.volumes c.args.state.now.low c.args.state.now.high c.args.notes.now)
    (omega (arith, c.loop-v-test.false, c.requires.many)) (c.loop-v.invariant).read
