-- A state is in a box exactly where each of its replicas is in its part.
use Rattle.std.proofs.Common.{◌≡◌, List, [], ◌∷◌, length, refl, sym, ap, subst, ◌∙◌, arith}
use Rattle.std.specs.List.{AllZip}
use Rattle.hay_legal.specs.declared.known.ReplicaKnown.{ReplicaKnown}
use Rattle.hay_legal.specs.declared.known.VolumeKnown.{VolumeKnown}
use Rattle.hay_legal.specs.declared.known.Known.{Known}
use Rattle.hay_audit_steps.specs.BoxLaw.{BoxesAreParts}
use Rattle.hay_audit_steps.specs.Slacks.{Lies, Slack, fill_replica}
use Rattle.hay_audit_steps.specs.Boxes.{Box, EachIn, Has, InReplicas, InVolumes, IsShaped, Within, fill_replicas, fill_volume, fill_volumes}

replicas_in : (bases : List ReplicaKnown) (lows xs highs : List Slack) → length bases ≡ length lows → AllZip Lies lows xs → AllZip Lies xs highs
    → InReplicas bases lows highs (fill_replicas xs bases)
replicas_in [] [] [] [] e h g = tt
replicas_in [] [] [] (y ∷ highs) e h g = absurd g
replicas_in [] [] (x ∷ xs) highs e h g = absurd h
replicas_in [] (l ∷ lows) xs highs e h g = absurd (omega (arith, e))
replicas_in (b ∷ bases) [] xs highs e h g = absurd (omega (arith, e))
replicas_in (b ∷ bases) (l ∷ lows) [] highs e h g = absurd h
replicas_in (b ∷ bases) (l ∷ lows) (x ∷ xs) [] e h g = absurd g
replicas_in (b ∷ bases) (l ∷ lows) (x ∷ xs) (y ∷ highs) e h g =
    (record { slack = x; least = h.0; most = g.0; is = refl }, replicas_in bases lows xs highs (omega (arith, e)) h.1 g.1)

volumes_in : (bases : List VolumeKnown) (lows xss highs : List (List Slack)) → AllZip (λ volume ls. length volume.replicas ≡ length ls) bases lows → Within lows xss → Within xss highs
    → InVolumes bases lows highs (fill_volumes xss bases)
volumes_in [] [] [] [] e h g = tt
volumes_in [] [] [] (y ∷ highs) e h g = absurd g
volumes_in [] [] (x ∷ xs) highs e h g = absurd h
volumes_in [] (l ∷ lows) xs highs e h g = absurd e
volumes_in (b ∷ bases) [] xs highs e h g = absurd e
volumes_in (b ∷ bases) (l ∷ lows) [] highs e h g = absurd h
volumes_in (b ∷ bases) (l ∷ lows) (x ∷ xs) [] e h g = absurd g
volumes_in (b ∷ bases) (l ∷ lows) (x ∷ xs) (y ∷ highs) e h g =
    (record { same = refl; replicas = replicas_in b.replicas l x y e.0 h.0 g.0 }, volumes_in bases lows xs highs e.1 h.1 g.1)

each_in : (box : Box) (k : Known) → IsShaped box → Has box k → EachIn box k
each_in box k shaped has =
    subst (λ (x : Known). EachIn box x) (sym has.2)
    (record { same = refl; volumes = volumes_in box.base.volumes box.low has.0 box.high shaped (has.1).least (has.1).most })

record Choice (bases : List ReplicaKnown) (lows highs : List Slack) (replicas : List ReplicaKnown) : Type 0 where
  xs : List Slack
  least : AllZip Lies lows xs
  most : AllZip Lies xs highs
  is : replicas ≡ fill_replicas xs bases

replicas_of : (bases : List ReplicaKnown) (lows highs : List Slack) (replicas : List ReplicaKnown) → InReplicas bases lows highs replicas → Choice bases lows highs replicas
replicas_of [] [] [] [] h = record { xs = []; least = tt; most = tt; is = refl }
replicas_of (b ∷ bases) (l ∷ lows) (y ∷ highs) (r ∷ replicas) h =
    let one = h.0 in
    let rest = replicas_of bases lows highs replicas h.1 in
    record {
      xs = one.slack ∷ rest.xs;
      least = (one.least, rest.least);
      most = (one.most, rest.most);
      is = ap (λ (x : ReplicaKnown). x ∷ replicas) one.is ∙ ap (λ (rs : List ReplicaKnown). fill_replica one.slack b ∷ rs) rest.is;
    }
replicas_of bases lows highs replicas h = absurd h

record Choices (bases : List VolumeKnown) (lows highs : List (List Slack)) (volumes : List VolumeKnown) : Type 0 where
  xss : List (List Slack)
  least : Within lows xss
  most : Within xss highs
  is : volumes ≡ fill_volumes xss bases

volumes_of : (bases : List VolumeKnown) (lows highs : List (List Slack)) (volumes : List VolumeKnown) → InVolumes bases lows highs volumes → Choices bases lows highs volumes
volumes_of [] [] [] [] h = record { xss = []; least = tt; most = tt; is = refl }
volumes_of (b ∷ bases) (l ∷ lows) (y ∷ highs) (v ∷ volumes) h =
    let one = replicas_of b.replicas l y v.replicas (h.0).replicas in
    let rest = volumes_of bases lows highs volumes h.1 in
    let filled : v ≡ fill_volume one.xs b = (h.0).same ∙ ap (λ (rs : List ReplicaKnown). record b { replicas = rs }) one.is in
    record {
      xss = one.xs ∷ rest.xss;
      least = (one.least, rest.least);
      most = (one.most, rest.most);
      is = ap (λ (x : VolumeKnown). x ∷ volumes) filled ∙ ap (λ (vs : List VolumeKnown). fill_volume one.xs b ∷ vs) rest.is;
    }
volumes_of bases lows highs volumes h = absurd h

has_each : (box : Box) (k : Known) → EachIn box k → Has box k
has_each box k h =
    let choice = volumes_of box.base.volumes box.low box.high k.volumes h.volumes in
    (choice.xss, record { least = choice.least; most = choice.most }, h.same ∙ ap (λ (vs : List VolumeKnown). record box.base { volumes = vs }) choice.is)

pub boxes_are_parts : BoxesAreParts
boxes_are_parts box k = (each_in box k, has_each box k)
