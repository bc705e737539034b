-- What is seen of a volume behind the end of a compaction.
use Rattle.std.proofs.Common.{◌≡◌, ◌≤◌, arith, inl, inr, ℕ, List, Option, None, Some, refl, sym, ap, subst, ◌∙◌}
use Rattle.std.specs.Prelude.{map, slice_set, Result, IfSome}
use Rattle.std.proofs.lemmas.Bool.{cases_eq}
use Rattle.hay_needle.specs.declared.settings.Settings.{Settings}
use Rattle.hay_disk.specs.Disk.{Files}
use Rattle.hay_map.specs.MapRows.{MapRows}
use Rattle.hay_legal.specs.Known.{machine_of}
use Rattle.hay_physical.specs.declared.fault.ReplicaFault.TheVariants as fault
use Rattle.hay_physical.specs.OpenCopies.{Copy, IsFrozen, IsUp, end_of, goal_of}
use Rattle.hay_logical.specs.declared.runs.NewFiles.{NewFiles}
use Rattle.hay_logical.specs.declared.runs.Unswapped.{Unswapped}
use Rattle.hay_logical.specs.declared.runs.Unswapped.TheVariants.{Refused, Unsure as Perhaps}
use Rattle.hay_logical.specs.Fits.{At}
use Rattle.hay_logical.specs.Refusals.{unfinished_by}
use Rattle.hay_logical.specs.Seen.{ChangesAt, ChangesRun, CompactRefusedSeen, EndsAlone, FinishRefusedSeen, FreezesSeen, ReplicaSeen, VolumeSeen, replica_seen}
use Rattle.hay_logical.specs.ReplicaCalls.{AllIdle, IsLeftBy, Lengthens, Start, SwapsOne}
use Rattle.hay_logical.specs.ReplicaCalls.Start.{Fresh, Going}
use Rattle.hay_logical.specs.declared.fault.LogicalFault.TheVariants as refusal
use Rattle.hay_logical.proofs.Sighting.{damaged_answer}
use Rattle.hay_logical.proofs.Lists.{at_below, at_same, at_set_other, at_set_same, length-slice_set}
use Rattle.hay_logical.proofs.Seen.{map_at, none_same}
use Rattle.hay_logical.proofs.SwapShapes.{SwapCall}
use Rattle.hay_logical.proofs.Untouched.{lists_same}

pub some_next : (o : Option ℕ) (n : ℕ) → (o ≡ None → ⊥) → IfSome o (λ goal. goal ≡ n) → o ≡ Some n
some_next None n some next = absurd (some refl)
some_next (Some goal) n some next = ap Some next

pub if_some_so : {T : Type 0} (o : Option T) (P Q : T → Type 0) → ((v : T) → P v → Q v) → IfSome o P → IfSome o Q
if_some_so None P Q makes p = p
if_some_so (Some v) P Q makes p = makes v p

pub idle_seen : {D : Type 0} (replicas : List (Copy D)) → AllIdle replicas → (j : ℕ) (s : ReplicaSeen) → At (map replica_seen replicas) j s → s.goal ≡ None
idle_seen replicas idle j s e = let x = map_at replica_seen replicas j s e in ap (λ (r : ReplicaSeen). r.goal) x.2 ∙ idle j x.0 x.1

-- where the replica takes changes the others are as they were
pub calls_set : {D P : Type 0} {DiskTells : Type 0} {files : D → Files} {Tells : Type 0} {faults : D → ℕ} {start : Start} {items new : List (Copy D)} {rows rows' : MapRows P}
    {at : ℕ} {result : Result (NewFiles P) Unswapped}
    (call : SwapCall DiskTells files Tells faults start items new rows rows' at result) → IsUp call.one.after → new ≡ slice_set items at call.one.after
calls_set {D} {P} {DiskTells} {files} {Tells} {faults} {start} {items} {new} {rows} {rows'} {at} {result} call up =
    let after = call.one.after in
    let low = at_below items at call.one.before call.one.was in
    lists_same (slice_set items at after) new (call.one.count ∙ sym (length-slice_set items at after)) (λ j a b e f. elim (cases_eq j at) [
      | inl here ↦
          at_same new at b after (subst (λ n. At new n b) here f) call.one.is
          ∙ sym (at_same (slice_set items at after) at a after (subst (λ n. At (slice_set items at after) n a) here e) (at_set_same items at after low))
      | inr apart ↦ (call.one.others j a b apart (sym (at_set_other items j at after apart) ∙ e) f).1 up
    ])

-- nor do the cells end earlier where no files were made
pub refused_longer : {D : Type 0} (DiskTells : Type 0) (files : D → Files) (at : ℕ) (old new : List (Copy D)) (one : SwapsOne DiskTells files at old new)
    → ChangesRun (replica_seen one.before) (replica_seen one.after) → Lengthens old new
refused_longer {D} DiskTells files at old new one changes j r r' e f = elim (cases_eq j at) [
  | inl here ↦
      let before : one.before ≡ r = at_same old at one.before r one.was (subst (λ n. At old n r) here e) in
      let after : one.after ≡ r' = at_same new at one.after r' one.is (subst (λ n. At new n r') here f) in
      let end : end_of one.after ≡ end_of one.before = ap (λ (s : ReplicaSeen). s.end) changes in
      subst (λ (x : Copy D). end_of x ≤ end_of r') before (subst (λ (x : Copy D). end_of one.before ≤ end_of x) after (omega (arith, end)))
  | inr apart ↦ let end = ((one.others j r r' apart e f).0).end in omega (arith, end)
]

module _ (settings : Settings) (v at : ℕ) {D : Type 0} (faults : D → ℕ) (r r' : Copy D) (old new : VolumeSeen) (there : At old.replicas at (replica_seen r)) where
  abbrev Froze : Unswapped → Type 0
  Froze u = (m : ℕ) → IsFrozen r' → (unfinished_by settings v at u).frozen ≡ Some m → FreezesSeen m old.unsure old new

  pub finish_refused_seen : old.frozen ≡ None → (goal_of r ≡ None → ⊥) → (u : Unswapped) → IsLeftBy faults Going r r' u
      → ((unfinished_by settings v at u).frozen ≡ None → IsUp r' → goal_of r' ≡ None → ChangesAt at EndsAlone old new) → Froze u
      → FinishRefusedSeen settings v at old new (unfinished_by settings v at u).fault
  finish_refused_seen thawed has (Refused (fault.Failed printed)) left ends froze = inl (thawed, refl, ends refl left.0 left.1)
  finish_refused_seen thawed has (Refused (fault.Damaged place)) left ends froze = ((thawed, refl, ends refl left.0 left.1), (replica_seen r, there, left.3))
  finish_refused_seen thawed has (Refused fault.NoMemory) left ends froze = (thawed, ends refl left.0 left.1)
  finish_refused_seen thawed has (Refused (fault.Busy goal)) left ends froze = let wrong : Going ≡ Fresh = left.0 in absurd cc
  finish_refused_seen thawed has (Refused fault.Worn) left ends froze = let wrong : Going ≡ Fresh = left.0 in absurd cc
  finish_refused_seen thawed has (Refused fault.Frozen) left ends froze = absurd left
  finish_refused_seen thawed has (Refused (fault.Full end need capacity)) left ends froze = absurd left
  finish_refused_seen thawed has (Refused (fault.Ended printed)) left ends froze = absurd left
  finish_refused_seen thawed has (Perhaps printed) left ends froze = inr (refl, (replica_seen r, there, has), froze (machine_of settings v at) left.0 refl)

  pub compact_refused_seen : old.frozen ≡ None → IsUp r → ChangesRun (replica_seen r) (replica_seen r') → (u : Unswapped) → IsLeftBy faults Fresh r r' u
      → ((unfinished_by settings v at u).frozen ≡ None → IsUp r' → replica_seen r' ≡ replica_seen r → new ≡ old) → Froze u
      → CompactRefusedSeen settings v at old new (unfinished_by settings v at u).fault
  compact_refused_seen thawed up changes (Refused (fault.Failed printed)) left same froze =
      (refl, (replica_seen r, there, left.2), inl (thawed, same refl left.0 (none_same r r' changes left.1 left.2.0)))
  compact_refused_seen thawed up changes (Refused (fault.Damaged place)) left same froze =
      (((thawed, same refl left.0 (none_same r r' changes left.1 left.2.0)), refl), (replica_seen r, there, (left.2, left.3)))
  compact_refused_seen thawed up changes (Refused fault.NoMemory) left same froze = ((thawed, same refl left.0 (none_same r r' changes left.1 left.2.0)), (replica_seen r, there, left.2))
  compact_refused_seen thawed up changes (Refused (fault.Busy goal)) left same froze =
      (((thawed, same refl (subst (λ (x : Copy D). IsUp x) (sym left.2) up) (ap replica_seen left.2)), refl), (replica_seen r, there, left.1))
  compact_refused_seen thawed up changes (Refused fault.Worn) left same froze =
      (((thawed, same refl (subst (λ (x : Copy D). IsUp x) (sym left.3) up) (ap replica_seen left.3)), refl), (replica_seen r, there, (left.1, left.2)))
  compact_refused_seen thawed up changes (Refused fault.Frozen) left same froze = absurd left
  compact_refused_seen thawed up changes (Refused (fault.Full end need capacity)) left same froze = absurd left
  compact_refused_seen thawed up changes (Refused (fault.Ended printed)) left same froze = absurd left
  compact_refused_seen thawed up changes (Perhaps printed) left same froze = (refl, (replica_seen r, there, left.2), inr (froze (machine_of settings v at) left.0 refl))

-- damage is told only where the replica's compaction was refused for it
pub unfinished_damaged : (settings : Settings) (v replica : ℕ) (u : Unswapped) (m place : ℕ) → (unfinished_by settings v replica u).fault ≡ refusal.Damaged m place → u ≡ Refused (fault.Damaged place)
unfinished_damaged settings v replica (Refused f) m place e = ap (λ x. Refused x) (damaged_answer (machine_of settings v replica) f m place e)
unfinished_damaged settings v replica (Perhaps printed) m place e = absurd cc

-- and the volume is frozen only where its files may be switched
pub unfinished_unsure : (settings : Settings) (v replica : ℕ) (u : Unswapped) (m : ℕ) → (unfinished_by settings v replica u).frozen ≡ Some m → (f : ℕ) × (u ≡ Perhaps f)
unfinished_unsure settings v replica (Refused f) m e = absurd cc
unfinished_unsure settings v replica (Perhaps printed) m e = (printed, refl)
