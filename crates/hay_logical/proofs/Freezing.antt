-- A volume is frozen by the machine of one of its replicas.
use Rattle.std.proofs.Common.{◌≡◌, ℕ, ◌<◌, ◌≤◌, Some, None, refl, sym, subst, ◌∙◌, arith}
use Rattle.hay_needle.specs.declared.settings.Settings.{Settings}
use Rattle.hay_legal.specs.Known.{machine_of}
use Rattle.hay_physical.specs.declared.fault.ReplicaFault.{ReplicaFault}
use Rattle.hay_physical.specs.declared.fault.ReplicaFault.TheVariants as replica
use Rattle.hay_logical.specs.declared.refusals.Refusal.{Refusal}
use Rattle.hay_logical.specs.declared.refusals.Unfinished.{Unfinished}
use Rattle.hay_logical.specs.declared.runs.Unswapped.{Unswapped}
use Rattle.hay_logical.specs.declared.runs.Unswapped.TheVariants.{Refused, Unsure}
use Rattle.hay_logical.specs.Refusals.{RefusalBy, unfinished_by}
use Rattle.hay_logical.specs.Volumes.{IsFrozenBy}

pub never_frozen : (settings : Settings) (v : ℕ) → IsFrozenBy settings v None
never_frozen settings v = λ m is. absurd cc

pub frozen_machine : (settings : Settings) (v j m : ℕ) → j < settings.replicas → m ≡ machine_of settings v j → IsFrozenBy settings v (Some m)
frozen_machine settings v j m within is = λ other same. let e : other ≡ m = cc in (j, within, e ∙ is)

-- by a put that was broken off
pub frozen_refusal : (settings : Settings) (v at : ℕ) (fault : ReplicaFault) (said : Refusal) → 1 ≤ settings.replicas → at < settings.replicas → RefusalBy settings v at fault said
    → IsFrozenBy settings v (Some said.machine)
frozen_refusal settings v at (replica.Failed printed) said some within by = frozen_machine settings v at said.machine within by.0
frozen_refusal settings v at replica.NoMemory said some within by = frozen_machine settings v 0 said.machine (omega (arith, some)) by.0
frozen_refusal settings v at _ said some within by = absurd by

-- by a compaction that no swap ended
frozen_by_unswapped : (settings : Settings) (v j : ℕ) (u : Unswapped) → j < settings.replicas → IsFrozenBy settings v (unfinished_by settings v j u).frozen
frozen_by_unswapped settings v j (Refused fault) within = never_frozen settings v
frozen_by_unswapped settings v j (Unsure printed) within = frozen_machine settings v j (machine_of settings v j) within refl

pub frozen_unfinished : (settings : Settings) (v j : ℕ) (u : Unswapped) (said : Unfinished) → j < settings.replicas → said ≡ unfinished_by settings v j u → IsFrozenBy settings v said.frozen
frozen_unfinished settings v j u said within is = subst (λ (x : Unfinished). IsFrozenBy settings v x.frozen) (sym is) (frozen_by_unswapped settings v j u within)
