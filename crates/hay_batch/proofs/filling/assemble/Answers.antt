use Rattle.std.proofs.Common.{◌≡◌, ◌+◌, ◌*◌, ◌∷◌, ◌∙◌, List, length, sym, ap, subst, arith}
use Rattle.std.specs.Prelude.{reverse}
use Rattle.std.proofs.lemmas.List.{reverse-reverse}
use Rattle.hay_volume.specs.declared.volume.VolumeFile.{VolumeFile}
use Rattle.hay_batch.specs.declared.store.LoadVolume.{LoadVolume}
use Rattle.hay_batch.specs.Replicas.{At}
use Rattle.hay_batch.proofs.FillingLaws.{at_next, first_turned}
use Rattle.hay_batch.proofs.StoreLaws.{items_written}
use Rattle.hay_batch.proofs.filling.assemble.Goals as goal

pub returns-clause-replicas : goal.returns-clause-replicas
returns-clause-replicas g c = λ v j r there.
    let ws = c.fill_volumes.new.volumes in
    let xs = c.args.volumes.items in
    let all : c.args.volumes.len ≡ length xs = omega (arith, c.args.volumes.ok.0) in
    let same : length ws ≡ length xs = (let e = c.fill_volumes.auto.volumes in omega (arith, e, c.as_mut_slice.ensures.len, c.args.volumes.ok.0)) in
    let at : At ws v there.0 = subst (λ (l : List (LoadVolume g.row.D.Denot)). At l v there.0) (items_written c.args.volumes.len ws xs all same) there.1 in
    let filled = c.fill_volumes.ensures v there.0 at in
    let place = v * c.args.settings.replicas + j in
    let files : reverse c.reverse-2.new.self.items ≡ c.args.files.items = ap (λ (l : List VolumeFile). reverse l) c.reverse-2.ensures.items ∙ reverse-reverse c.args.files.items in
    let disks : c.args.disks.items ≡ c.in-Some.disk ∷ reverse c.pop.new.self.items =
    first_turned c.args.disks.items c.reverse.new.self.items c.pop.new.self.items c.in-Some.disk c.reverse.ensures.items (c.in-Some.ensures).items in (
      subst (λ (l : List g.row.D.Denot). At l (place + 1) r.disk) (sym disks) (at_next c.in-Some.disk (reverse c.pop.new.self.items) place r.disk (filled.disk j r there.2)),
      subst (λ (l : List VolumeFile). At l place r.volume) files (filled.file j r there.2),
    )
