-- Answers, from what was done.
use Rattle.std.proofs.Common.{◌≡◌, ℕ, ◌≤◌, true, false, List, [], ◌∷◌, length, map, Option, Some, None, refl, sym, ap, subst, ◌∙◌, inl, inr, arith}
use Rattle.std.specs.Prelude.{find, is_none, slice_index, Err, Result, IsErrOf}
use Rattle.std.proofs.lemmas.Bool.{cases_Bool, cond-true, cond-false}
use Rattle.hay_needle.specs.declared.needle.Pair.{Pair}
use Rattle.hay_needle.specs.declared.settings.Settings.{Settings}
use Rattle.hay_disk.specs.Counts.{Rose}
use Rattle.hay_disk.specs.Disk.{Files}
use Rattle.hay_script.specs.declared.Command.{Command}
use Rattle.hay_script.specs.declared.Command.TheVariants as command
use Rattle.hay_reply.specs.declared.Reply.{Reply}
use Rattle.hay_reply.specs.declared.Reply.TheVariants as reply
use Rattle.hay_core.specs.declared.entry.CoreTag.{CoreTag}
use Rattle.hay_legal.specs.declared.known.Known.{Known}
use Rattle.hay_legal.specs.Known.{Leaves, NoneFalls, fault_count, home_of, refusal_of, replica_on, slot_of, taker_of, tries_of}
use Rattle.hay_legal.specs.Plain.{LegalCommand, row_pending}
use Rattle.hay_directory.specs.declared.fault.DirFault.{DirFault}
use Rattle.hay_directory.specs.declared.fault.DirFault.TheVariants as settling
use Rattle.hay_cluster.specs.Causes.{IsCaused, RoseAt, RoseIn, SetsFuse, SetsFuseOn}
use Rattle.hay_cluster.specs.Parts.{Comes}
use Rattle.hay_cluster.specs.Puts.{settle_reply}
use Rattle.hay_cluster.specs.State.{Answered, Stands}
use Rattle.hay_cluster.specs.Store.{Open, disks_of}
use Rattle.hay_cluster.proofs.Moves.{falls_at, none_falls}

-- a fuse was set on the disk of the replica that is on this machine
pub sets_on : (settings : Settings) (v m j : ℕ) (before after : List ℕ) → replica_on settings v m ≡ Some j → SetsFuse (slot_of settings v j) before after → SetsFuseOn settings v m before after
sets_on settings v m j before after there sets = rw there sets

-- no count falls where nothing changed
pub same_falls : {X : Type 0} (count : X → ℕ) (xs ys : List X) → ys ≡ xs → NoneFalls (map count xs) (map count ys)
same_falls count xs ys same = subst (λ zs. NoneFalls (map count xs) (map count zs)) (sym same) (none_falls (map count xs))

pub stays : (k : Known) → Leaves k k k
stays k = record { volumes = refl; directory = refl; drained = refl; fuses = refl; faults = none_falls k.faults; arms = none_falls k.arms }

module _ {D P A : Type 0} (files : D → Files) (Tells : Type 0) (faults fuses : D → ℕ) (arm_faults : A → ℕ) where
  pub answered : (store : Open D P A) (settings : Settings) (k known : Known) (tag : CoreTag) (asked : Command) (answer : Reply) → store.settings ≡ settings
      → LegalCommand settings k tag asked answer known
      → Stands files Tells faults fuses arm_faults store known → Answered files Tells faults fuses arm_faults k tag asked answer store
  answered store settings k known tag asked answer same legal stands = record {
    known = known;
    legal = subst (λ (s : Settings). LegalCommand s k tag asked answer known) (sym same) legal;
    stands = stands;
  }

-- the taker takes
pub taker_takes : (settings : Settings) (k : Known) (pair : Pair) (size v : ℕ) → taker_of settings k pair size ≡ Some v → refusal_of settings k size v ≡ None
taker_takes settings k pair size v is = go (tries_of settings k pair) is
  where
    go : (vs : List ℕ) → find (λ u. is_none (refusal_of settings k size u)) vs ≡ Some v → refusal_of settings k size v ≡ None
    go [] h = absurd cc
    go (u ∷ vs) h =
        elim (cases_Bool (is_none (refusal_of settings k size u))) [
          | inl hit ↦
              let e : Some u ≡ Some v = sym (cond-true (is_none (refusal_of settings k size u)) (Some u) (find (λ w. is_none (refusal_of settings k size w)) vs) hit) ∙ h in
              let same : u ≡ v = cc in
              subst (λ w. refusal_of settings k size w ≡ None) same (none (refusal_of settings k size u) hit)
          | inr miss ↦ go vs (sym (cond-false (is_none (refusal_of settings k size u)) (Some u) (find (λ w. is_none (refusal_of settings k size w)) vs) miss) ∙ h)
        ]
      where
        none : {X : Type 0} (o : Option X) → is_none o ≡ true → o ≡ None
        none None t = refl
        none (Some x) t = absurd cc

-- who takes a photo depends on the volumes and the drains alone
pub refusal_same : (settings : Settings) (k k1 : Known) (size v : ℕ) → k1.volumes ≡ k.volumes → k1.drained ≡ k.drained → refusal_of settings k1 size v ≡ refusal_of settings k size v
refusal_same settings k k1 size v volumes drained =
    ap (λ vs. refusal_of settings (record k1 { volumes = vs }) size v) volumes ∙ ap (λ ds. refusal_of settings (record k1 { volumes = k.volumes; drained = ds }) size v) drained

-- CAUSES FROM AN EARLIER STATE

rose_earlier : (before mid after : ℕ) → before ≤ mid → Rose mid after → Rose before after
rose_earlier before mid after less (inl rose) = inl (omega arith)
rose_earlier before mid after less (inr end) = inr end

rose_at_earlier : (settings : Settings) (v m f : ℕ) (before mid after : List ℕ) → NoneFalls before mid → RoseAt settings v m mid after f → RoseAt settings v m before after f
rose_at_earlier settings v m f before mid after falls rose = record {
  replica = rose.replica;
  there = rose.there;
  rose = rose_earlier (slice_index before (slot_of settings v rose.replica)) (slice_index mid (slot_of settings v rose.replica)) (slice_index after (slot_of settings v rose.replica))
      (falls_at before mid (slot_of settings v rose.replica) falls) rose.rose;
  told = rose.told;
}

pub cause_earlier : (settings : Settings) (before mid after : List ℕ) (answer : Reply) → NoneFalls before mid → IsCaused settings mid after answer → IsCaused settings before after answer
cause_earlier settings before mid after (reply.Failed v m f) falls cause = rose_at_earlier settings v m f before mid after falls cause
cause_earlier settings before mid after (reply.FailedDir f) falls cause = (rose_earlier (slice_index before 0) (slice_index mid 0) (slice_index after 0) (falls_at before mid 0 falls) cause.0, cause.1)
cause_earlier settings before mid after _ falls cause = tt

-- A PAIR THAT GOT NO HOME

module _ {D P A : Type 0} (files : D → Files) (Tells : Type 0) (faults fuses : D → ℕ) (arm_faults : A → ℕ) where
  row_rose : (old new : Open D P A) (k t : Known) (f : ℕ) → Stands files Tells faults fuses arm_faults old k → Stands files Tells faults fuses arm_faults new t
      → RoseIn 0 (map faults (disks_of old)) (map faults (disks_of new)) f → (fault_count t 0 ≡ f) × Rose (fault_count k 0) f
  unfolding Stands
  row_rose old new k t f before after rose = (
    ap (λ ns. slice_index ns 0) after.fault_counts ∙ sym rose.1,
    subst (λ n. Rose n f) (ap (λ ns. slice_index ns 0) (sym before.fault_counts)) (subst (λ n. Rose (slice_index (map faults (disks_of old)) 0) n) (sym rose.1) rose.0),
  )

  pub not_settled : (old new : Open D P A) (settings : Settings) (k : Known) (tag : CoreTag) (pair : Pair) (bytes : List ℕ) (v : ℕ) (fault : DirFault)
      (outcome : Result Unit DirFault) → outcome ≡ Err fault
      → old.settings ≡ settings → new.settings ≡ settings → Stands files Tells faults fuses arm_faults old k → home_of k pair ≡ None → taker_of settings k pair (length bytes) ≡ Some v
      → (IsErrOf outcome settling.NoMemory → Comes files Tells faults fuses arm_faults k k new)
      → ((f : ℕ) → outcome ≡ Err (settling.Failed f) → Comes files Tells faults fuses arm_faults k (row_pending k tag pair v) new)
      → ((IsErrOf outcome settling.Frozen → ⊥) → k.directory.frozen ≡ false) → (IsErrOf outcome settling.Frozen → (k.directory.frozen ≡ true) × (new ≡ old))
      → ((f : ℕ) → outcome ≡ Err (settling.Failed f) → RoseIn 0 (map faults (disks_of old)) (map faults (disks_of new)) f)
      → Answered files Tells faults fuses arm_faults k tag (command.Put pair bytes) (settle_reply fault) new
  not_settled old new settings k tag pair bytes v settling.Frozen outcome is same same' stands home taker memory pending thawed frozen rose =
      let both = frozen (subst (λ (r : Result Unit DirFault). IsErrOf r settling.Frozen) (sym is) refl) in
      answered files Tells faults fuses arm_faults new settings k k tag (command.Put pair bytes) reply.ReadOnlyDir same'
      (record { volume = v; missing = home; taker = taker }, both.0, stays k) (subst (λ (st : Open D P A). Stands files Tells faults fuses arm_faults st k) (sym both.1) stands)
  not_settled old new settings k tag pair bytes v settling.NoMemory outcome is same same' stands home taker memory pending thawed frozen rose =
      let came = memory (subst (λ (r : Result Unit DirFault). IsErrOf r settling.NoMemory) (sym is) refl) in
      answered files Tells faults fuses arm_faults new settings k came.known tag (command.Put pair bytes) reply.NoMem same' (inl came.leaves) came.stands
  not_settled old new settings k tag pair bytes v (settling.Failed f) outcome is same same' stands home taker memory pending thawed frozen rose =
      let came = pending f is in
      let up = row_rose old new k came.known f stands came.stands (rose f is) in
      answered files Tells faults fuses arm_faults new settings k came.known tag (command.Put pair bytes) (reply.FailedDir f) same'
      (record {
        needs = record { volume = v; missing = home; taker = taker };
        before = thawed (λ h. not_frozen (subst (λ (r : Result Unit DirFault). IsErrOf r settling.Frozen) is h));
        count = up.0;
        rose = up.1;
        leaves = came.leaves;
      }) came.stands
    where
      not_frozen : IsErrOf {T = Unit} (Err (settling.Failed f)) settling.Frozen → ⊥
      not_frozen h = absurd cc
