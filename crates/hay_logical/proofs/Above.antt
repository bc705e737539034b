-- The replicas behind one whose disk failed in a change were not called.
use Rattle.std.proofs.Common.{◌≡◌, ℕ, ◌<◌, List, length, sym, subst, ◌∙◌, arith}
use Rattle.hay_needle.specs.declared.settings.Settings.{Settings}
use Rattle.hay_disk.specs.Disk.{Files}
use Rattle.hay_legal.specs.Known.{machine_of}
use Rattle.hay_physical.specs.declared.fault.ReplicaFault.{ReplicaFault}
use Rattle.hay_physical.specs.declared.fault.ReplicaFault.TheVariants as fault
use Rattle.hay_physical.specs.OpenCopies.{Copy}
use Rattle.hay_logical.specs.declared.fault.LogicalFault.TheVariants as logical
use Rattle.hay_logical.specs.declared.refusals.Refusal.{Refusal}
use Rattle.hay_logical.specs.Fits.{At}
use Rattle.hay_logical.specs.Refusals.{RefusalBy}
use Rattle.hay_logical.specs.ReplicaCalls.{KeepsAbove, KeepsBytes, KeepsFiles, LosesRun}
use Rattle.hay_logical.specs.Volumes.{IsOfSettings}
use Rattle.hay_logical.proofs.Bytes.{bytes_more}
use Rattle.hay_logical.proofs.Lists.{at_below, at_there}
use Rattle.hay_logical.proofs.Looking.{bytes_same}
use Rattle.hay_legal.proofs.Machines.{same_machine}

module _ {D : Type 0} (DiskTells : Type 0) (files : D → Files) (settings : Settings) (number : ℕ) where
  pub above_lost : (old new : List (Copy D)) (at m : ℕ) → IsOfSettings settings number → at < settings.replicas → m ≡ machine_of settings number at
      → ((j : ℕ) (r r' : Copy D) → at < j → At old j r → At new j r' → LosesRun DiskTells files r r') → KeepsAbove DiskTells files settings number m old new
  above_lost old new at m of within machine above tells i j low same behind r r' e f =
      let few = of.fits in
      let is : i ≡ at = same_machine settings.machines number i at (omega (arith, low, few)) (omega (arith, within, few)) (sym same ∙ machine) in
      subst (λ d. KeepsBytes (files r.disk) (files d)) (sym (above j r r' (omega (arith, is, behind)) e f).disk) (bytes_same (files r.disk))

  -- a put that was broken off
  pub above_put : (old new : List (Copy D)) (at m count : ℕ) (f : ReplicaFault) (refusal : Refusal) → IsOfSettings settings number → at < settings.replicas
      → RefusalBy settings number at f refusal → refusal.fault ≡ logical.Failed m count
      → ((j : ℕ) (r r' : Copy D) → at < j → At old j r → At new j r' → LosesRun DiskTells files r r') → KeepsAbove DiskTells files settings number m old new
  above_put old new at m count (fault.Failed printed) refusal of within by is above =
      let both : logical.Failed (machine_of settings number at) printed ≡ logical.Failed m count = sym by.1 ∙ is in
      let machine : m ≡ machine_of settings number at = cc in
      above_lost old new at m of within machine above
  above_put old new at m count fault.NoMemory refusal of within by is above =
      let wrong : logical.NoMemory ≡ logical.Failed m count = sym by.1 ∙ is in
      absurd cc
  above_put old new at m count _ refusal of within by is above = absurd by

  -- behind looks
  pub above_looked : (m : ℕ) (a b c : List (Copy D)) → length b ≡ length a → KeepsFiles DiskTells files a b → KeepsAbove DiskTells files settings number m b c
      → KeepsAbove DiskTells files settings number m a c
  above_looked m a b c count looked above tells i j low same behind r r' e f =
      let x = at_there b j (let h = at_below a j r e in let less : j < length b = omega (arith, h, count) in less) in
      bytes_more (files r.disk) (files (x.0).disk) (files r'.disk) (looked tells j r x.0 e x.1) (above tells i j low same behind x.0 r' x.1 f)

  pub above_files : (m : ℕ) (old new : List (Copy D)) → KeepsFiles DiskTells files old new → KeepsAbove DiskTells files settings number m old new
  above_files m old new keeps tells i j low same behind r r' e f = keeps tells j r r' e f
