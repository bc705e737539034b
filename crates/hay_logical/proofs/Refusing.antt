-- With which refusals a put of a replica comes back.
use Rattle.std.proofs.Common.{ℕ, sym, subst}
use Rattle.hay_needle.specs.declared.settings.Settings.{Settings}
use Rattle.hay_physical.specs.declared.fault.ReplicaFault.{ReplicaFault}
use Rattle.hay_physical.specs.declared.fault.ReplicaFault.TheVariants as fault
use Rattle.hay_physical.specs.OpenCopies.{Copy}
use Rattle.hay_logical.specs.declared.refusals.Refusal.{Refusal}
use Rattle.hay_logical.specs.Answers.{BreaksPutOff}
use Rattle.hay_logical.specs.Refusals.{RefusalBy, RefusesPut}
use Rattle.hay_logical.specs.ReplicaCalls.{IsPutFault}

module _ {D : Type 0} (faults : D → ℕ) (r r' : Copy D) where
  pub refuses_put : (f : ReplicaFault) → IsPutFault faults r r' f → RefusesPut f
  refuses_put (fault.Failed n) cause = tt
  refuses_put fault.Frozen cause = absurd cause
  refuses_put (fault.Full end need capacity) cause = absurd cause
  refuses_put (fault.Busy generation) cause = absurd cause
  refuses_put (fault.Ended n) cause = absurd cause
  refuses_put fault.Worn cause = absurd cause
  refuses_put (fault.Damaged at) cause = absurd cause
  refuses_put fault.NoMemory cause = tt

-- what breaks a put off that has room
pub refusal_breaks : (settings : Settings) (v at : ℕ) (f : ReplicaFault) (refusal : Refusal) → RefusalBy settings v at f refusal → BreaksPutOff refusal.fault
refusal_breaks settings v at (fault.Failed printed) refusal is = subst BreaksPutOff (sym is.1) tt
refusal_breaks settings v at fault.Frozen refusal is = absurd is
refusal_breaks settings v at (fault.Full end need capacity) refusal is = absurd is
refusal_breaks settings v at (fault.Busy generation) refusal is = absurd is
refusal_breaks settings v at (fault.Ended printed) refusal is = absurd is
refusal_breaks settings v at fault.Worn refusal is = absurd is
refusal_breaks settings v at (fault.Damaged place) refusal is = absurd is
refusal_breaks settings v at fault.NoMemory refusal is = subst BreaksPutOff (sym is.1) tt
