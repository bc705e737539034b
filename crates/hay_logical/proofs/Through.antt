-- A volume through several looks.
use Rattle.std.proofs.Common.{◌≡◌, inl, inr, ℕ, ◌+◌, ◌<◌, List, length, None, refl, sym, ap, subst, ◌∙◌, arith}
use Rattle.std.specs.Prelude.{slice_get, slice_set}
use Rattle.std.proofs.lemmas.Bool.{cases_eq, cond-true}
use Rattle.std.proofs.lemmas.List.{get_or-set_other}
use Rattle.hay_needle.specs.declared.needle.Pair.{Pair}
use Rattle.hay_needle.specs.declared.settings.Settings.{Settings}
use Rattle.hay_needle.specs.Tables.{pair_eq}
use Rattle.hay_needle.proofs.TableLaws.{pair_refl}
use Rattle.hay_disk.specs.Disk.{Files}
use Rattle.hay_core.specs.declared.entry.CoreTag.{CoreTag}
use Rattle.hay_core.specs.declared.entry.Entry.TheVariants.{Del}
use Rattle.hay_legal.specs.declared.known.VolumeKnown.{VolumeKnown}
use Rattle.hay_legal.specs.Known.{machine_of}
use Rattle.hay_legal.specs.Plain.{ended_where}
use Rattle.hay_map.specs.MapRows.{MapRows}
use Rattle.hay_map.specs.Places.{place_in}
use Rattle.hay_map.specs.Rows.{row_at}
use Rattle.hay_map.specs.declared.place.Place.{Place}
use Rattle.hay_map.specs.declared.place.Place.TheVariants as place
use Rattle.hay_map.specs.declared.view.MapOp.TheVariants as op
use Rattle.hay_compact.specs.Finishing.{IsSeen}
use Rattle.hay_physical.specs.OpenCopies.{Copy, goal_of}
use Rattle.hay_logical.specs.declared.fault.LogicalFault.{LogicalFault}
use Rattle.hay_logical.specs.declared.fault.LogicalFault.TheVariants.{Busy, Damaged, Failed, Full, Gone, Idle, NoMemory, ReadOnly, Worn}
use Rattle.hay_logical.specs.declared.written.Erased.{Erased}
use Rattle.hay_logical.specs.Answers.{DeleteRefused, HasFailed, IsDeleteFault, IsSightFault, ended_runs}
use Rattle.hay_logical.specs.Fits.{At}
use Rattle.hay_logical.specs.Stands.{Stands}
use Rattle.hay_logical.specs.ReplicaCalls.{KeepsFiles, KeepsRuns, SetsPlaceAt}
use Rattle.hay_logical.specs.Unshown.{IsErased, IsUnshown}
use Rattle.hay_logical.specs.Volumes.{IsOpenVolume, IsSame, KeepsCounts, Volume}
use Rattle.hay_logical.proofs.Bytes.{files_more, files_same}
use Rattle.hay_logical.proofs.Calls.{counted_same, keeps_counts}
use Rattle.hay_logical.proofs.Examining.{rose_later}
use Rattle.hay_logical.proofs.Lists.{at_below, at_same, at_there}
use Rattle.hay_logical.proofs.Methods.{same_still}
use Rattle.hay_logical.proofs.Showing.{ended_same}

pub counts_through : {D : Type 0} (faults fuses : D → ℕ) (a b c : List (Copy D)) → KeepsCounts faults fuses a b → KeepsCounts faults fuses b c → KeepsCounts faults fuses a c
counts_through faults fuses a b c first second =
    let mid : (j : ℕ) (r : Copy _) → At a j r → (x : Copy _) × At b j x =
    λ j r e. (let h = at_below a j r e in let n = first.count in at_there b j (let less : j < length b = omega (arith, h, n) in less)) in
    record {
      count = second.count ∙ first.count;
      rises = λ j r r' e f. let x = mid j r e in let low = first.rises j r x.0 e x.1 in let high = second.rises j x.0 r' x.1 f in omega (arith, low, high);
      stay = λ j r r' e f. let x = mid j r e in second.stay j x.0 r' x.1 f ∙ first.stay j r x.0 e x.1;
    }

pub same_through : {D P : Type 0} (a b c : Volume D P) → length b.replicas ≡ length a.replicas → IsSame a b → IsSame b c → IsSame a c
same_through a b c count first second = record {
  settings = second.settings ∙ first.settings;
  number = second.number ∙ first.number;
  sups = λ j r r' e f.
      let x = at_there b.replicas j (let h = at_below a.replicas j r e in let less : j < length b.replicas = omega (arith, h, count) in less) in
      second.sups j x.0 r' x.1 f ∙ first.sups j r x.0 e x.1;
}

pub record Kept {D P : Type 0} (DiskTells : Type 0) (files : D → Files) (Tells : Type 0) (faults fuses : D → ℕ) (old new : Volume D P) : Type 0 where
  pub stands : DiskTells → (k : VolumeKnown) → Stands files Tells old k → Stands files Tells new k
  pub «open» : IsOpenVolume new
  pub counts : KeepsCounts faults fuses old.replicas new.replicas
  pub same : IsSame old new
  pub still : (new.frozen ≡ old.frozen) × (new.front ≡ old.front) × (new.unsure ≡ old.unsure)
  pub runs : (j : ℕ) (r r' : Copy D) → At old.replicas j r → At new.replicas j r' → goal_of r' ≡ goal_of r
  pub bytes : KeepsFiles DiskTells files old.replicas new.replicas

module _ {D P : Type 0} (DiskTells : Type 0) (files : D → Files) (Tells : Type 0) (faults fuses : D → ℕ) where
  pub kept_none : (volume : Volume D P) → IsOpenVolume volume → Kept DiskTells files Tells faults fuses volume volume
  kept_none volume is = record {
    stands = λ tells k stands. stands;
    «open» = is;
    counts = keeps_counts faults fuses volume.replicas volume.replicas refl (λ j r r' e f. counted_same faults fuses r r' (at_same volume.replicas j r' r f e));
    same = same_still volume;
    still = (refl, refl, refl);
    runs = λ j r r' e f. ap (λ (x : Copy D). goal_of x) (at_same volume.replicas j r' r f e);
    bytes = files_same DiskTells files volume.replicas;
  }

  pub kept_more : (a b c : Volume D P) → Kept DiskTells files Tells faults fuses a b → (DiskTells → (k : VolumeKnown) → Stands files Tells b k → Stands files Tells c k)
      → IsOpenVolume c → KeepsCounts faults fuses b.replicas c.replicas
      → IsSame b c → (c.frozen ≡ b.frozen) × (c.front ≡ b.front) × (c.unsure ≡ b.unsure) → ((j : ℕ) (r r' : Copy D) → At b.replicas j r → At c.replicas j r' → goal_of r' ≡ goal_of r)
      → KeepsFiles DiskTells files b.replicas c.replicas → Kept DiskTells files Tells faults fuses a c
  kept_more a b c kept stands is counts same still runs looked = record {
    stands = λ tells k was. stands tells k (kept.stands tells k was);
    «open» = is;
    counts = counts_through faults fuses a.replicas b.replicas c.replicas kept.counts counts;
    same = same_through a b c kept.counts.count kept.same same;
    still = (still.0 ∙ kept.still.0, still.1 ∙ kept.still.1, still.2 ∙ kept.still.2);
    runs = λ j r r' e f.
        let x = at_there b.replicas j (let h = at_below a.replicas j r e in let n = kept.counts.count in let less : j < length b.replicas = omega (arith, h, n) in less) in
        runs j x.0 r' x.1 f ∙ kept.runs j r x.0 e x.1;
    bytes = files_more DiskTells files a.replicas b.replicas c.replicas kept.counts.count kept.bytes looked;
  }

  -- a refusal's cause
  pub cause_later : (a b c : Volume D P) → Kept DiskTells files Tells faults fuses a b → (f : LogicalFault) → IsSightFault faults b.settings b.number b.replicas c.replicas f
      → IsSightFault faults a.settings a.number a.replicas c.replicas f
  cause_later a b c kept (Failed machine printed) cause =
      let old =
      at_there a.replicas cause.replica (let h = at_below b.replicas cause.replica cause.before cause.was in let n = kept.counts.count in let less : cause.replica
      < length a.replicas = omega (arith, h, n) in less) in
      record {
        replica = cause.replica;
        within = subst (λ (s : Settings). cause.replica < s.replicas) kept.same.settings cause.within;
        before = old.0;
        after = cause.after;
        was = old.1;
        is = cause.is;
        machine = cause.machine ∙ ap (λ (s : Settings). machine_of s b.number cause.replica) kept.same.settings ∙ ap (λ n. machine_of a.settings n cause.replica) kept.same.number;
        rose = rose_later (faults (old.0).disk) (faults (cause.before).disk) (faults (cause.after).disk) (kept.counts.rises cause.replica old.0 cause.before old.1 cause.was) cause.rose;
        printed = cause.printed;
      }
  cause_later a b c kept (Damaged m at) cause = (
    cause.0,
    subst (λ (s : Settings). cause.0 < s.replicas) kept.same.settings cause.1,
    cause.2 ∙ ap (λ (s : Settings). machine_of s b.number cause.0) kept.same.settings ∙ ap (λ n. machine_of a.settings n cause.0) kept.same.number,
  )
  cause_later a b c kept NoMemory cause = tt
  cause_later a b c kept (ReadOnly m) cause = absurd cause
  cause_later a b c kept (Gone front) cause = absurd cause
  cause_later a b c kept (Full m end need capacity) cause = absurd cause
  cause_later a b c kept (Busy m generation) cause = absurd cause
  cause_later a b c kept (Worn m) cause = absurd cause
  cause_later a b c kept Idle cause = absurd cause

-- one more place was seen
pub seen_more : {P : Type 0} (pair : Pair) (n : ℕ) (rows rows' : MapRows P) (row : List (Place P)) → SetsPlaceAt pair n (place_in row n) rows rows' → row ≡ row_at rows' pair → IsSeen (place_in row n)
    → ((j : ℕ) → j < n → IsSeen (place_in (row_at rows pair) j)) → (j : ℕ) → j < n + 1 → IsSeen (place_in (row_at rows' pair) j)
seen_more {P} pair n rows rows' row sets is here before j within = elim (cases_eq j n) [
  | inl same ↦ subst (λ i. IsSeen (place_in (row_at rows' pair) i)) (sym same) (subst (λ (l : List (Place P)). IsSeen (place_in l n)) is here)
  | inr apart ↦
      let less : j < n = omega (arith, within, apart) in
      let there : place_in (row_at rows' pair) j ≡ place_in (row_at rows pair) j =
      ap (λ l. place_in l j) (sets pair ∙ cond-true (pair_eq pair pair) (slice_set (row_at rows pair) n (place_in row n)) (row_at rows pair) (pair_refl pair))
      ∙ get_or-set_other (row_at rows pair) n j (place_in row n) place.None apart in
      subst IsSeen (sym there) (before j less)
]

-- A DELETE BEHIND THEM

-- a look is refused as a delete is
pub sight_deletes : {D : Type 0} (faults : D → ℕ) (settings : Settings) (number : ℕ) (a c : List (Copy D)) (f : LogicalFault) → IsSightFault faults settings number a c f
    → IsDeleteFault faults settings number a c f
sight_deletes faults settings number a c (Failed machine printed) cause = cause
sight_deletes faults settings number a c (Damaged m at) cause = cause
sight_deletes faults settings number a c NoMemory cause = tt
sight_deletes faults settings number a c (ReadOnly m) cause = absurd cause
sight_deletes faults settings number a c (Gone front) cause = absurd cause
sight_deletes faults settings number a c (Full m end need capacity) cause = absurd cause
sight_deletes faults settings number a c (Busy m generation) cause = absurd cause
sight_deletes faults settings number a c (Worn m) cause = absurd cause
sight_deletes faults settings number a c Idle cause = absurd cause

module _ {D P : Type 0} (files : D → Files) (Tells : Type 0) (faults fuses : D → ℕ) where
  pub look_refused : (k : VolumeKnown) (tag : CoreTag) (pair : Pair) (settings : Settings) (number : ℕ) (a c : List (Copy D)) (new : Volume D P) (f : LogicalFault)
      → IsSightFault faults settings number a c f → k.frozen ≡ None → Stands files Tells new k
      → ((m at : ℕ) → f ≡ Damaged m at → ⊥) → DeleteRefused files Tells k tag pair new f
  look_refused k tag pair settings number a c new (Failed machine printed) cause thawed stands whole = (thawed, inl stands)
  look_refused k tag pair settings number a c new (Damaged m at) cause thawed stands whole = whole m at refl
  look_refused k tag pair settings number a c new NoMemory cause thawed stands whole = (thawed, stands)
  look_refused k tag pair settings number a c new (ReadOnly m) cause thawed stands whole = absurd cause
  look_refused k tag pair settings number a c new (Gone front) cause thawed stands whole = absurd cause
  look_refused k tag pair settings number a c new (Full m end need capacity) cause thawed stands whole = absurd cause
  look_refused k tag pair settings number a c new (Busy m generation) cause thawed stands whole = absurd cause
  look_refused k tag pair settings number a c new (Worn m) cause thawed stands whole = absurd cause
  look_refused k tag pair settings number a c new Idle cause thawed stands whole = absurd cause

  module _ (a b c : Volume D P) (counts : KeepsCounts faults fuses a.replicas b.replicas) (same : IsSame a b) where
    mid : (j : ℕ) (r : Copy D) → At a.replicas j r → (x : Copy D) × At b.replicas j x
    mid j r e = (let h = at_below a.replicas j r e in let n = counts.count in at_there b.replicas j (let less : j < length b.replicas = omega (arith, h, n) in less))

    pub erased_later : ((j : ℕ) (r r' : Copy D) → At a.replicas j r → At b.replicas j r' → goal_of r' ≡ goal_of r) → (k : VolumeKnown) (pair : Pair) (e : Erased)
        → IsErased files faults Tells k pair e b c → IsErased files faults Tells k pair e a c
    erased_later runs k pair e is =
        let ended : ended_runs b.replicas c.replicas ≡ ended_runs a.replicas c.replicas = ended_same a.replicas b.replicas c.replicas counts.count runs in
        record {
          stood = is.stood;
          own = is.own;
          position = is.position;
          count = ap length (sym ended) ∙ is.count ∙ ap (λ (s : Settings). s.replicas) same.settings;
          cause = λ j r r' gone was now.
              let x = mid j r was in
              rose_later (faults r.disk) (faults (x.0).disk) (faults r'.disk) (counts.rises j r x.0 was x.1) (is.cause j x.0 r' (ap (λ l. slice_get l j) ended ∙ gone) x.1 now);
          unshown = subst (λ l. IsUnshown files Tells k (Del pair) (op.Del pair) (ended_where l k.replicas) c) ended is.unshown;
        }

    pub runs_later : ((j : ℕ) (r r' : Copy D) → At a.replicas j r → At b.replicas j r' → goal_of r' ≡ goal_of r) → KeepsRuns faults b.replicas c.replicas → KeepsRuns faults a.replicas c.replicas
    runs_later runs keeps j r r' e f =
        let x = mid j r e in
        elim (keeps j x.0 r' x.1 f) [
          | inl same ↦ inl (same ∙ runs j r x.0 e x.1)
          | inr ended ↦ inr (ended.0, rose_later (faults r.disk) (faults (x.0).disk) (faults r'.disk) (counts.rises j r x.0 e x.1) ended.1)
        ]

    failed_later : (m n : ℕ) → HasFailed faults b.settings b.number b.replicas c.replicas m n → HasFailed faults a.settings a.number a.replicas c.replicas m n
    failed_later m n cause =
        let old =
        at_there a.replicas cause.replica (let h = at_below b.replicas cause.replica cause.before cause.was in let n = counts.count in let less : cause.replica
        < length a.replicas = omega (arith, h, n) in less) in
        record {
          replica = cause.replica;
          within = subst (λ (s : Settings). cause.replica < s.replicas) same.settings cause.within;
          before = old.0;
          after = cause.after;
          was = old.1;
          is = cause.is;
          machine = cause.machine ∙ ap (λ (s : Settings). machine_of s b.number cause.replica) same.settings ∙ ap (λ n. machine_of a.settings n cause.replica) same.number;
          rose = rose_later (faults (old.0).disk) (faults (cause.before).disk) (faults (cause.after).disk) (counts.rises cause.replica old.0 cause.before old.1 cause.was) cause.rose;
          printed = cause.printed;
        }

    pub delete_later : (f : LogicalFault) → IsDeleteFault faults b.settings b.number b.replicas c.replicas f → IsDeleteFault faults a.settings a.number a.replicas c.replicas f
    delete_later (Failed machine printed) cause = failed_later machine printed cause
    delete_later (Damaged m at) cause = (
      cause.0,
      subst (λ (s : Settings). cause.0 < s.replicas) same.settings cause.1,
      cause.2 ∙ ap (λ (s : Settings). machine_of s b.number cause.0) same.settings ∙ ap (λ n. machine_of a.settings n cause.0) same.number,
    )
    delete_later NoMemory cause = tt
    delete_later (ReadOnly m) cause = (
      cause.0,
      subst (λ (s : Settings). cause.0 < s.replicas) same.settings cause.1,
      cause.2 ∙ ap (λ (s : Settings). machine_of s b.number cause.0) same.settings ∙ ap (λ n. machine_of a.settings n cause.0) same.number,
    )
    delete_later (Gone front) cause = tt
    delete_later (Full m end need capacity) cause = absurd cause
    delete_later (Busy m generation) cause = absurd cause
    delete_later (Worn m) cause = absurd cause
    delete_later Idle cause = absurd cause
