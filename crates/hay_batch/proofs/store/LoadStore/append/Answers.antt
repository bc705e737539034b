use Rattle.std.proofs.Common.{◌<◌, refl, sym, ap, subst, arith, length}
use Rattle.hay_batch.specs.Replicas.{At}
use Rattle.hay_batch.proofs.Lists.{at_read}
use Rattle.hay_batch.proofs.StoreLaws.{if_err_more, on_ok_more, swapped, swapped_counts, swapped_new, swapped_old, swapped_other, swapped_shape}
use Rattle.hay_batch.proofs.store.LoadStore.append.Goals as goal

pub append_each-requires-clause-ready : goal.append_each-requires-clause-ready
append_each-requires-clause-ready g c = λ tells j r at.
    c.requires.ready tells j r (
      c.index_mut-target.result.now,
      subst (λ w. At c.args.self.now.volumes.items c.args.volume w) (sym c.index_mut-target.ensures.value)
          (at_read c.args.self.now.volumes.items c.args.volume c.index_mut-target.result.now (omega (arith, c.requires.there, c.requires.shape.volumes))),
      subst (λ l. At l j r) c.as_mut_slice.ensures.value at,
    )

pub append_each-requires-clause-room : goal.append_each-requires-clause-room
append_each-requires-clause-room g c = λ j r at.
    c.requires.room j r (
      c.index_mut-target.result.now,
      subst (λ w. At c.args.self.now.volumes.items c.args.volume w) (sym c.index_mut-target.ensures.value)
          (at_read c.args.self.now.volumes.items c.args.volume c.index_mut-target.result.now (omega (arith, c.requires.there, c.requires.shape.volumes))),
      subst (λ l. At l j r) c.as_mut_slice.ensures.value at,
    )

pub returns-clause-shape : goal.returns-clause-shape
returns-clause-shape g c =
    let made =
    swapped c.args.volume c.index_mut-target.result.now c.as_mut_slice.result.now c.append_each.new.replicas c.args.self.now c.index_mut-target.ensures.value
    (omega (arith, c.requires.there, c.requires.shape.volumes)) c.as_mut_slice.ensures.value c.append_each.ensures.count in
    (refl, swapped_shape _ _ _ _ _ _ _ made c.requires.shape)

pub returns-clause-added : goal.returns-clause-added
returns-clause-added g c =
    let made =
    swapped c.args.volume c.index_mut-target.result.now c.as_mut_slice.result.now c.append_each.new.replicas c.args.self.now c.index_mut-target.ensures.value
    (omega (arith, c.requires.there, c.requires.shape.volumes)) c.as_mut_slice.ensures.value c.append_each.ensures.count in
    on_ok_more c.append_each.result _ _ c.append_each.ensures.added (λ added j r r' was is. added j r r' (swapped_old _ _ _ _ _ _ _ made j r was) (swapped_new _ _ _ _ _ _ _ made j r' is))

pub returns-clause-left : goal.returns-clause-left
returns-clause-left g c = λ tells j r r' was is.
    let made =
    swapped c.args.volume c.index_mut-target.result.now c.as_mut_slice.result.now c.append_each.new.replicas c.args.self.now c.index_mut-target.ensures.value
    (omega (arith, c.requires.there, c.requires.shape.volumes)) c.as_mut_slice.ensures.value c.append_each.ensures.count in
    c.append_each.ensures.left tells j r r' (swapped_old _ _ _ _ _ _ _ made j r was) (swapped_new _ _ _ _ _ _ _ made j r' is)

pub returns-clause-others : goal.returns-clause-others
returns-clause-others g c = λ v j r r' apart was is.
    let made =
    swapped c.args.volume c.index_mut-target.result.now c.as_mut_slice.result.now c.append_each.new.replicas c.args.self.now c.index_mut-target.ensures.value
    (omega (arith, c.requires.there, c.requires.shape.volumes)) c.as_mut_slice.ensures.value c.append_each.ensures.count in
    swapped_other _ _ _ _ _ _ _ made v j r r' apart was is

pub returns-clause-counts : goal.returns-clause-counts
returns-clause-counts g c =
    let made =
    swapped c.args.volume c.index_mut-target.result.now c.as_mut_slice.result.now c.append_each.new.replicas c.args.self.now c.index_mut-target.ensures.value
    (omega (arith, c.requires.there, c.requires.shape.volumes)) c.as_mut_slice.ensures.value c.append_each.ensures.count in
    swapped_counts _ _ _ _ _ _ _ made g.D.Disk.fault_count g.D.Disk.fuse_count c.append_each.ensures.counts c.append_each.ensures.fuses

pub returns-clause-failed : goal.returns-clause-failed
returns-clause-failed g c =
    let made =
    swapped c.args.volume c.index_mut-target.result.now c.as_mut_slice.result.now c.append_each.new.replicas c.args.self.now c.index_mut-target.ensures.value
    (omega (arith, c.requires.there, c.requires.shape.volumes)) c.as_mut_slice.ensures.value c.append_each.ensures.count in
    if_err_more c.append_each.result _ _ _ c.append_each.ensures.failed c.append_each.ensures.there (λ fault failed there j faults is. (
      (let below = there j faults is in let within : j < c.args.self.now.settings.replicas = omega
          (arith, below, ap length made.slice, c.requires.shape.replicas c.args.volume c.index_mut-target.result.now made.was) in within),
      λ r r' was now. failed j faults is r r' (swapped_old _ _ _ _ _ _ _ made j r was) (swapped_new _ _ _ _ _ _ _ made j r' now),
    ))
