-- The replicas that were passed over, as a reply tells of them.
use Rattle.std.proofs.Common.{◌≡◌, ℕ, ◌+◌, ◌%◌, ◌<◌, List, [], ◌∷◌, ◌++◌, length, map, sym, ap, subst, ◌∙◌, arith}
use Rattle.std.proofs.Math.Nat.{mod-lt}
use Rattle.std.specs.Prelude.{slice_index}
use Rattle.std.specs.List.{AllByRecursion}
use Rattle.hay_needle.specs.declared.needle.Pair.{Pair}
use Rattle.hay_needle.specs.declared.settings.Settings.{Settings}
use Rattle.hay_reply.specs.declared.Cause.{Cause}
use Rattle.hay_reply.specs.declared.Cause.TheVariants.{Arm, Disk, Damage}
use Rattle.hay_reply.specs.declared.Passed.{Passed}
use Rattle.hay_legal.specs.Known.{machine_of, replica_on, slot_of}
use Rattle.hay_legal.specs.Plain.{order_from}
use Rattle.hay_legal.specs.Stands.{Contents}
use Rattle.hay_reader.proofs.Passing.{all_weaken}
use Rattle.hay_reader.specs.declared.causes.PassedReplica.{PassedReplica}
use Rattle.hay_cluster.specs.Causes.{Counts}
use Rattle.hay_cluster.specs.Needles.{LacksFor}
use Rattle.hay_cluster.specs.Passing.{CauseCameUp, IsOfPlace, PassesOver, StandsFor, TriesTo}
use Rattle.hay_cluster.specs.Reads.{IsPassedFor, MayHave, PassesAll, PassesFrom, PassesTo, passed_at}
use Rattle.hay_cluster.specs.Seen.{StoreSeen}
use Rattle.hay_cluster.specs.Store.{IsBuilt}
use Rattle.hay_legal.proofs.Machines.{replica_found}
use Rattle.hay_cluster.proofs.ReadSights.{told_over}
use Rattle.hay_cluster.proofs.Showing.{all_tried, in_order, machines_told, rises_each, split_tries, to_below}

module _ (Tells : Type 0) (W : Cause → Type 0) (Sure : Type 0) (sure : (f : ℕ) → Sure → W (Arm f)) (settings : Settings) (lane v start : ℕ) (before after : Counts)
    (built : IsBuilt settings) (volume : v < settings.volumes) where
  -- a failure is a cause only where its count rose
  causes_told : (over : List PassedReplica) → AllByRecursion (λ p. p.replica < settings.replicas) over
      → AllByRecursion (λ p. IsPassedFor W (slot_of settings v p.replica) (slice_index before.arms lane) (slice_index after.arms lane) before.disks after.disks p.cause) over
      → AllByRecursion (λ passed. CauseCameUp settings Sure lane v before after passed.machine passed.cause) (map (passed_at settings v) over)
  causes_told [] within each = tt
  causes_told (p ∷ over) within each = (one p.replica p.cause within.0 each.0, causes_told over within.1 each.1)
    where
      one : (j : ℕ) (cause : Cause) → j < settings.replicas → IsPassedFor W (slot_of settings v j) (slice_index before.arms lane) (slice_index after.arms lane) before.disks after.disks cause
          → CauseCameUp settings Sure lane v before after (machine_of settings v j) cause
      one j (Arm f) below came = ((λ surely. came.1 (sure f surely)), (came.0).0)
      one j (Disk f) below came = record { replica = j; there = replica_found settings v j volume below built.no_more_replicas; rose = came.0; told = came.1 }
      one j (Damage at) below came = tt

  -- they are named in the order in which they were tried
  passed_over : (contents : ℕ → Contents) (pair : Pair) (seen : StoreSeen) (over : List PassedReplica) → PassesFrom W settings lane v start before after [] over
      → MayHave (IsOfPlace Tells settings contents seen v pair) over → PassesOver Tells settings Sure contents lane v pair before after seen (map (λ p. p.replica) over)
      (map (passed_at settings v) over)
  passed_over contents pair seen over passes may = record {
    order = machines_told settings v over;
    each = causes_told over
        (all_tried (λ j. j < settings.replicas) (λ i. (start + i) % settings.replicas) (length over) 0
        (λ i low high. let some = built.some_replicas in mod-lt (start + i) (omega (arith, some))) over passes.order) passes.each;
    rises = rises_each settings v over passes.rises;
    stood = told_over settings v pair seen built volume (λ j cause. StandsFor cause (seen.places v pair j)) start over passes.order
        (all_weaken (λ p. IsOfPlace Tells settings contents seen v pair p.replica p.cause) (λ p. StandsFor p.cause (seen.places v pair p.replica)) (λ p is. is.0) over may);
    lacks = λ tells.
        told_over settings v pair seen built volume (λ j cause. LacksFor settings contents seen v pair j cause) start over passes.order
        (all_weaken (λ p. IsOfPlace Tells settings contents seen v pair p.replica p.cause) (λ p. LacksFor settings contents seen v pair p.replica p.cause) (λ p is. is.1 tells) over may);
  }

  pub passed_all : (contents : ℕ → Contents) (pair : Pair) (seen : StoreSeen) (over : List PassedReplica) (told : List Passed) → told ≡ map (passed_at settings v) over
      → PassesAll W settings lane v start before after (IsOfPlace Tells settings contents seen v pair) [] over
      → PassesOver Tells settings Sure contents lane v pair before after seen (order_from settings start) told
  passed_all contents pair seen over told is passes =
      subst (λ (causes : List Passed). PassesOver Tells settings Sure contents lane v pair before after seen (order_from settings start) causes) (sym is)
      (subst (λ (js : List ℕ). PassesOver Tells settings Sure contents lane v pair before after seen js (map (passed_at settings v) over))
      (in_order settings start over (passes.passes).order passes.all)
      (passed_over contents pair seen over passes.passes passes.stood))

  pub passed_to : (contents : ℕ → Contents) (pair : Pair) (seen : StoreSeen) (over : List PassedReplica) (j m : ℕ) → m ≡ machine_of settings v j
      → PassesTo W settings lane v start before after (IsOfPlace Tells settings contents seen v pair) [] over j → TriesTo Tells settings Sure contents lane start v m pair before after seen
  passed_to contents pair seen over j m machine to =
      let f : ℕ → ℕ = λ i. (start + i) % settings.replicas in
      let split = split_tries f (length over) settings.replicas 0 to.fewer in
      let same : f (0 + length over) ≡ j = (let e : 0 + length over ≡ length over = omega arith in ap f e) ∙ sym to.next in
      record {
        front = map (λ p. p.replica) over;
        replica = j;
        rest = split.0;
        tries = split.1 ∙ ap (λ (js : List ℕ). js ++ f (0 + length over) ∷ split.0) (sym (to.passes).order) ∙ ap (λ i. map (λ p. p.replica) over ++ i ∷ split.0) same;
        there =
            ap (replica_on settings v) machine ∙ replica_found settings v j volume (to_below W settings lane v start before after (IsOfPlace Tells settings contents seen v pair) []
            over j to) built.no_more_replicas;
        causes = map (passed_at settings v) over;
        passes = passed_over contents pair seen over to.passes to.stood;
      }
