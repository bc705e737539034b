-- The replicas of an opening behind the looks at a place of each.
use Rattle.std.proofs.Common.{◌≡◌, inl, inr, ℕ, ◌+◌, ◌*◌, ◌<◌, ◌≤◌, false, List, length, Err, refl, sym, ap, subst, ◌∙◌, arith}
use Rattle.std.proofs.Math.Path.{fun_ext}
use Rattle.std.specs.Prelude.{Bool, IfErr, Ok, OnErr, OnOk, Option, Result}
use Rattle.std.proofs.lemmas.Bool.{cases_eq}
use Rattle.hay_needle.specs.declared.needle.Pair.{Pair}
use Rattle.hay_needle.specs.declared.settings.TheConstants.{LAST_GENERATION}
use Rattle.hay_disk.specs.Disk.{Files}
use Rattle.hay_map.specs.MapRows.{MapRows}
use Rattle.hay_map.specs.Places.{place_in}
use Rattle.hay_map.specs.declared.place.Place.{Place}
use Rattle.hay_map.specs.declared.place.Place.TheVariants as place
use Rattle.hay_map.specs.Rows.{row_at}
use Rattle.hay_open.specs.Damage.{IsOpeningDamage}
use Rattle.hay_open.specs.Stored.{Stored, last_cell}
use Rattle.hay_compact.specs.Finishing.{IsSeen}
use Rattle.hay_physical.specs.declared.fault.ReplicaFault.{ReplicaFault}
use Rattle.hay_physical.specs.declared.fault.ReplicaFault.TheVariants as fault
use Rattle.hay_physical.specs.declared.state.Phase.{Phase}
use Rattle.hay_physical.specs.OpenCopies.{Copy, HasFrozen, IsOpenCopy, IsOpenPhase, bare_of, contents_of, end_of, generation_of, goal_of, is_frozen, is_stuck, volume_bytes}
use Rattle.hay_physical.specs.Replicas as physical
use Rattle.hay_open.specs.declared.fault.OpenFault.{OpenFault}
use Rattle.hay_open.specs.declared.fault.OpenFault.TheVariants as open_fault
use Rattle.hay_logical.specs.Fits.{At}
use Rattle.hay_logical.specs.declared.fault.Unopened.{Unopened}
use Rattle.hay_logical.specs.Needles.{HasLiveNeedle, HasLiveNeedles, IsToldBy, LacksSeen, TellsNeedle}
use Rattle.hay_logical.specs.Notes.{IsToldPlace, ToldUnsure}
use Rattle.hay_logical.specs.Readings.{IsReadAs, last_record}
use Rattle.hay_logical.specs.Seen.{replica_seen}
use Rattle.hay_logical.specs.Sights.{AwaitsLook, LiesWithinAt, SeesPair, Sight, sight, sights_of}
use Rattle.hay_logical.specs.Sights as sighting
use Rattle.hay_logical.specs.Sights.Sight.{Gone, Live, Never, Unseen}
use Rattle.hay_logical.specs.declared.unsure.Unsure.{Unsure}
use Rattle.hay_logical.specs.ReplicaCalls.{CallsOne, IsLookFault, IsOpenFault, IsRefusedAt, IsUnseenAt, KeepsBytes, KeepsDisk, LeftAt, LooksAt, OpensAt, PlacesAre, SeesRow, SightsAt}
use Rattle.hay_logical.specs.Volumes.{CanReach, KeepsCounts}
use Rattle.hay_logical.proofs.Calls.{counted_same, keeps_counts, up_open, up_thawed}
use Rattle.hay_logical.proofs.Examining.{rose_later}
use Rattle.hay_logical.proofs.Lists.{at_below, at_same, at_there}
use Rattle.hay_logical.proofs.Finding.{looked_pair, looked_sight}
use Rattle.hay_logical.proofs.Methods.{one_after}
use Rattle.hay_logical.proofs.Sighting.{looks_one, looks_still, other_places, place_seen}
use Rattle.hay_logical.proofs.Bytes.{bytes_more, looked_bytes}
use Rattle.hay_logical.proofs.Needles.{looked_live, told_more}
use Rattle.hay_logical.proofs.SightChanges.{look_more}
use Rattle.hay_logical.proofs.Through.{counts_through}

-- a place behind a look
seen_told : (file : List ℕ) (s t : Sight) → sighting.Looks s t → IsToldBy file s t → HasLiveNeedle file s → (AwaitsLook t → ⊥) → IsToldPlace t file
seen_told file s Never looks told live seen = tt
seen_told file s Gone looks told live seen = tt
seen_told file s (Unseen at size) looks told live seen = absurd (seen tt)
seen_told file s (Live at) (inl same) told live seen = subst (λ (t : Sight). IsToldPlace t file) (sym same) (live_told s live (λ await. seen (subst AwaitsLook (sym same) await)))
  where
    live_told : (s : Sight) → HasLiveNeedle file s → (AwaitsLook s → ⊥) → IsToldPlace s file
    live_told Never live seen = tt
    live_told Gone live seen = tt
    live_told (Live there) live seen = live
    live_told (Unseen there size) live seen = absurd (seen tt)
seen_told file Never (Live at) (inr becomes) told live seen = absurd becomes
seen_told file Gone (Live at) (inr becomes) told live seen = absurd becomes
seen_told file (Live there) (Live at) (inr becomes) told live seen = absurd becomes
seen_told file (Unseen there size) (Live at) (inr (inl is)) told live seen = subst (λ (t : Sight). IsToldPlace t file) (sym is) (size, told)
seen_told file (Unseen there size) (Live at) (inr (inr is)) told live seen = absurd cc

-- one whose look met damage
lacks_told : (file : List ℕ) (at : ℕ) (s : Sight) → LacksSeen file at s → IsToldPlace s file
lacks_told file at (Unseen there size) lacks = lacks.1
lacks_told file at Never lacks = tt
lacks_told file at (Live there) lacks = absurd lacks
lacks_told file at Gone lacks = tt

module _ {D P : Type 0} (DiskTells : Type 0) (files : D → Files) (Tells : Type 0) where
  -- looks have left the bytes
  file_looked : (rows rows' : MapRows P) (j : ℕ) (r x : Copy D) → DiskTells → LooksAt DiskTells files Tells rows rows' j r x → volume_bytes files x ≡ volume_bytes files r
  file_looked rows rows' j r x tells looks = looked_bytes files r x (looks.keeps tells) (ap (λ (z : Copy D). generation_of z) looks.copy)

  pub looks_more : (a b c : MapRows P) (j : ℕ) (r x y : Copy D) → LooksAt DiskTells files Tells a b j r x → LooksAt DiskTells files Tells b c j x y → LooksAt DiskTells files Tells a c j r y
  looks_more a b c j r x y first second = record {
    copy = second.copy ∙ ap (λ (z : Copy D). record z { disk = y.disk }) first.copy;
    stands = λ tells s stands places. let mid = first.stands tells s stands places in second.stands tells s mid.0 mid.1;
    holds = λ tells stuck s t holds. second.holds tells stuck s t (first.holds tells stuck s t holds);
    keeps = λ tells. bytes_more (files r.disk) (files x.disk) (files y.disk) (first.keeps tells) (second.keeps tells);
    reach = λ tells reach. second.reach tells (first.reach tells reach);
    within = λ end lies. second.within end (first.within end lies);
    looks = λ q. look_more (sights_of a q j) (sights_of b q j) (sights_of c q j) (first.looks q) (second.looks q);
    told = λ tells q.
        told_more (volume_bytes files r) (sights_of a q j) (sights_of b q j) (sights_of c q j) (first.looks q) (second.looks q) (first.told tells q)
        (subst (λ (l : List ℕ). IsToldBy l (sights_of b q j) (sights_of c q j)) (file_looked a b j r x tells first) (second.told tells q));
  }

  module _ (faults fuses : D → ℕ) where
    -- each replica was looked at, or not
    pub record Looks (old new : List (Copy D)) (rows rows' : MapRows P) : Type 0 where
      pub each : (j : ℕ) (r r' : Copy D) → At old j r → At new j r' → LooksAt DiskTells files Tells rows rows' j r r'
      pub width : rows'.replicas ≡ rows.replicas
      pub counts : KeepsCounts faults fuses old new

    pub looks_none : (items : List (Copy D)) (rows : MapRows P) → Looks items items rows rows
    looks_none items rows = record {
      each = λ j r r' e f. subst (λ x. LooksAt DiskTells files Tells rows rows j r x) (sym (at_same items j r' r f e)) (looks_still DiskTells files Tells rows rows j r (λ q. refl));
      width = refl;
      counts = keeps_counts faults fuses items items refl (λ j r r' e f. counted_same faults fuses r r' (at_same items j r' r f e));
    }

    module _ (old items : List (Copy D)) (before rows : MapRows P) (looks : Looks old items before rows) where
      mid : (j : ℕ) (r : Copy D) → At old j r → (x : Copy D) × At items j x
      mid j r e = at_there items j (let h = at_below old j r e in let n = looks.counts.count in let less : j < length items = omega (arith, h, n) in less)

      old_at : (j : ℕ) (x : Copy D) → At items j x → (r : Copy D) × At old j r
      old_at j x f = at_there old j (let h = at_below items j x f in let n = looks.counts.count in let less : j < length old = omega (arith, h, n) in less)

      pub still_open : ((j : ℕ) (r : Copy D) → At old j r → IsOpenCopy r) → (j : ℕ) (x : Copy D) → At items j x → IsOpenCopy x
      still_open up j x f =
          let o = old_at j x f in
          subst (λ (p : Phase). IsOpenPhase p) (sym (ap (λ (z : Copy D). z.phase) (looks.each j o.0 x o.1 f).copy)) (up j o.0 o.1)

      pub still_reached : CanReach DiskTells files Tells old before → CanReach DiskTells files Tells items rows
      still_reached can = λ tells j x f. let o = old_at j x f in (looks.each j o.0 x o.1 f).reach tells (can tells j o.0 o.1)

      module _ (new : List (Copy D)) (rows' : MapRows P) (at : ℕ) (pair : Pair) (result : Result Unit ReplicaFault) (one : CallsOne at items new)
          (sights : SightsAt DiskTells files faults Tells pair rows rows' at one.before one.after result) (row : SeesRow pair at rows rows' result) (counts : KeepsCounts faults fuses items new)
          (needle : DiskTells → (x : Copy D) → At items at x → TellsNeedle (volume_bytes files x) pair at rows rows' result) where
        -- one more was looked at
        pub looks_on : Looks old new before rows'
        looks_on = record {
          each = λ j r r' e f.
              let x = mid j r e in
              looks_more before rows rows' j r x.0 r' (looks.each j r x.0 e x.1) (looks_one DiskTells files Tells faults items new rows rows' at pair result one sights row
              (λ tells. needle tells one.before one.was) j x.0 r' x.1 f);
          width = row.width ∙ looks.width;
          counts = counts_through faults fuses old items new looks.counts counts;
        }

        pub seen_on : DiskTells → ((f : ReplicaFault) → result ≡ Err f → (k : ℕ) × (f ≡ fault.Damaged k))
            → ((j : ℕ) (r : Copy D) (s : Stored) → j < at → At old j r → physical.Stands files r s → PlacesAre Tells before j s → IsSeen (place_in (row_at rows pair) j))
            → (j : ℕ) (r : Copy D) (s : Stored) → j < at + 1 → At old j r → physical.Stands files r s → PlacesAre Tells before j s → IsSeen (place_in (row_at rows' pair) j)
        seen_on tells only seen j r s within e stands places = elim (cases_eq j at) [
          | inl same ↦
              let x = mid j r e in
              let now = (looks.each j r x.0 e x.1).stands tells s stands places in
              let is : x.0 ≡ one.before = at_same items at x.0 one.before (subst (λ n. At items n x.0) same x.1) one.was in
              subst (λ n. IsSeen (place_in (row_at rows' pair) n)) (sym same)
              (place_seen DiskTells files Tells faults items new rows rows' at pair result one sights row tells s (subst (λ (z : Copy D). physical.Stands files z s) is now.0)
              (subst (λ n. PlacesAre Tells rows n s) same now.1) only)
          | inr apart ↦
              let less : j < at = omega (arith, within, apart) in
              subst IsSeen (sym (other_places pair at rows rows' result row j apart pair)) (seen j r s less e stands places)
        ]

        pub told_on : DiskTells → ((f : ReplicaFault) → result ≡ Err f → (k : ℕ) × (f ≡ fault.Damaged k))
            → place_in (row_at rows pair) at ≡ place_in (row_at before pair) at
            → ((j : ℕ) (r : Copy D) → j < at → At old j r → HasLiveNeedles (sights_of before) j (volume_bytes files r) → IsToldPlace (sights_of rows pair j) (volume_bytes files r))
            → (j : ℕ) (r : Copy D) → j < at + 1 → At old j r → HasLiveNeedles (sights_of before) j (volume_bytes files r) → IsToldPlace (sights_of rows' pair j) (volume_bytes files r)
        told_on tells only stayed told j r within e live = elim (cases_eq j at) [
          | inl same ↦
              let x = mid j r e in
              let there : At items at x.0 = subst (λ n. At items n x.0) same x.1 in
              let file = file_looked before rows j r x.0 tells (looks.each j r x.0 e x.1) in
              let stood : HasLiveNeedle (volume_bytes files r) (sights_of before pair at) = subst (λ n. HasLiveNeedle (volume_bytes files r) (sights_of before pair n)) same (live pair) in
              let stands : HasLiveNeedle (volume_bytes files x.0) (sights_of rows pair at) =
              subst (λ (p : Place P). HasLiveNeedle (volume_bytes files x.0) (sight p)) (sym stayed) (subst (λ (l : List ℕ). HasLiveNeedle l (sights_of before pair at)) (sym file) stood) in
              subst (λ n. IsToldPlace (sights_of rows' pair n) (volume_bytes files r)) (sym same)
              (subst (λ (l : List ℕ). IsToldPlace (sights_of rows' pair at) l) file (by_answer (volume_bytes files x.0) (needle tells x.0 there) stands result refl))
          | inr apart ↦
              let less : j < at = omega (arith, within, apart) in
              subst (λ (p : Place P). IsToldPlace (sight p) (volume_bytes files r)) (sym (other_places pair at rows rows' result row j apart pair)) (told j r less e live)
        ]
          where
            by_answer : (file : List ℕ) → TellsNeedle file pair at rows rows' result → HasLiveNeedle file (sights_of rows pair at) → (x : Result Unit ReplicaFault) → result ≡ x
                → IsToldPlace (sights_of rows' pair at) file
            by_answer file tells_it stands (Ok value) is =
                let sees : SeesPair pair at (sights_of rows) (sights_of rows') = subst (λ x. OnOk x (SeesPair pair at (sights_of rows) (sights_of rows'))) is row.sees in
                seen_told file (sights_of rows pair at) (sights_of rows' pair at) (sees.looks.each at) tells_it.told stands sees.seen
            by_answer file tells_it stands (Err f) is =
                let damaged = only f is in
                let still : (other : Pair) → row_at rows' other ≡ row_at rows other = subst (λ x. OnErr x ((other : Pair) → row_at rows' other ≡ row_at rows other)) is row.kept in
                subst (λ l. IsToldPlace (sight (place_in l at)) file) (sym (still pair))
                (lacks_told file damaged.0 (sights_of rows pair at) (tells_it.lacks damaged.0 (is ∙ ap (λ x. Err x) damaged.1)))

        -- the look that ended an opening
        pub unseen : (cause : OpenFault) → IsLookFault (faults (one.before).disk) (faults (one.after).disk) cause → IsUnseenAt faults old new (record { replica = at; fault = cause })
        unseen cause is =
            let o = old_at at one.before one.was in
            record {
              before = o.0;
              after = one.after;
              was = o.1;
              is = one_after at items new one;
              cause = cause_later cause is;
            }
          where
            cause_later : (f : OpenFault) → IsLookFault (faults (one.before).disk) (faults (one.after).disk) f → IsLookFault (faults (old_at at one.before one.was).0.disk) (faults (one.after).disk) f
            cause_later (open_fault.Failed printed) h =
                let o = old_at at one.before one.was in
                (rose_later (faults (o.0).disk) (faults (one.before).disk) (faults (one.after).disk) (looks.counts.rises at o.0 one.before o.1 one.was) h.0, h.1)
            cause_later (open_fault.Damaged file place) h = h
            cause_later open_fault.NoMemory h = tt

-- BEHIND AN OPENING

pub on_ok_now : {T E P : Type 0} (r : Result T E) → P → OnOk r P
on_ok_now (Ok value) p = p
on_ok_now (Err error) p = tt

pub on_err_now : {T E P : Type 0} (r : Result T E) → P → OnErr r P
on_err_now (Ok value) p = tt
on_err_now (Err error) p = p

pub on_ok_then : {T E P Q : Type 0} (r : Result T E) → (P → Q) → OnOk r P → OnOk r Q
on_ok_then (Ok value) makes p = makes p
on_ok_then (Err error) makes p = tt

pub if_err_at : {T E : Type 0} (r : Result T E) (P Q : E → Type 0) → ((error : E) → r ≡ Err error → P error → Q error) → IfErr r P → IfErr r Q
if_err_at (Ok value) P Q makes p = p
if_err_at (Err error) P Q makes p = makes error refl p

pub if_err_then : {T E : Type 0} {P Q : E → Type 0} (r : Result T E) → ((error : E) → P error → Q error) → IfErr r P → IfErr r Q
if_err_then (Ok value) makes p = tt
if_err_then (Err error) makes p = makes error p

pub disk_looked : {D : Type 0} (files : D → Files) (r x y : Copy D) → KeepsDisk files r x → KeepsBytes (files x.disk) (files y.disk) → KeepsDisk files r y
disk_looked files r x y was keeps = record {
  kept = λ some n. (keeps.now n ∙ (was.kept some n).0, keeps.solid n (was.kept some n).1);
  nothing = λ void image leaves other s opens. was.nothing void image (keeps.leaves image leaves) other s opens;
}

module _ {D P : Type 0} (DiskTells : Type 0) (files : D → Files) (Tells : Type 0) where
  pub opens_looked : (rows rows' : MapRows P) (j : ℕ) (r x y : Copy D) → OpensAt DiskTells files Tells rows j r x → LooksAt DiskTells files Tells rows rows' j x y
      → OpensAt DiskTells files Tells rows' j r y
  opens_looked rows rows' j r x y opens looks = record {
    up = subst (λ (p : Phase). HasFrozen false p) (sym (ap (λ (z : Copy D). z.phase) looks.copy)) opens.up;
    sup = ap (λ (z : Copy D). z.sup) looks.copy ∙ opens.sup;
    loose = ap (λ (z : Copy D). is_stuck z) looks.copy ∙ opens.loose;
    alone = ap (λ (z : Copy D). goal_of z) looks.copy ∙ opens.alone;
    most = subst (λ n. n ≤ LAST_GENERATION) (sym (ap (λ (z : Copy D). generation_of z) looks.copy)) opens.most;
    from = subst (λ (z : Copy D). 64 + bare_of z * 48 ≤ end_of z) (sym looks.copy) opens.from;
    within = subst (λ n. LiesWithinAt j n (sights_of rows')) (sym (ap (λ (z : Copy D). end_of z) looks.copy)) (looks.within (end_of x) opens.within);
    undamaged = opens.undamaged;
    undamaged_now = λ tells file at. subst (λ (contents : ℕ → List ℕ). IsOpeningDamage r.sup contents file at → ⊥) (sym (fun_ext (λ n. (looks.keeps tells).now n))) (opens.undamaged_now tells file at);
    formatted = λ tells void. opens.formatted tells (sym ((looks.keeps tells).now 0) ∙ void);
    opened = λ tells s finds. let was = opens.opened tells s finds in looks.stands tells s was.0 was.1;
    reopened = λ tells stuck s t holds.
        let was = opens.reopened tells stuck s t holds in
        let now = looks.stands tells was.0 was.2 was.3 in
        (was.0, was.1, now.0, now.1);
    reach = λ tells. looks.reach tells (opens.reach tells);
    found = λ tells s finds pair.
        looked_sight Tells (last_cell s.cells pair) (sights_of rows pair j) (place_in (row_at rows' pair) j) (looks.looks pair) (opens.found tells s finds pair)
        ((let was = opens.opened tells s finds in looks.stands tells s was.0 was.1).1 pair);
    live = λ tells pair.
        subst (λ (l : List ℕ). HasLiveNeedle l (sights_of rows' pair j)) (sym (file_looked DiskTells files Tells rows rows' j x y tells looks))
        (looked_live (volume_bytes files x) (sights_of rows pair j) (sights_of rows' pair j) (looks.looks pair) (looks.told tells pair) (opens.live tells pair));
    read = λ tells.
        let was = opens.read tells in
        let looked : IsReadAs x.sup (contents_of files x.disk) (replica_seen x) (λ pair. sights_of rows' pair j) = record {
          records = was.records;
          orphans = was.orphans;
          reads = was.reads;
          bare = was.bare;
          places = λ pair.
              looked_pair (volume_bytes files x) (last_cell was.orphans pair) (last_record was.records pair) (sights_of rows pair j) (sights_of rows' pair j) (looks.looks pair)
              (looks.told tells pair) (was.places pair);
        } in
        let kept : IsReadAs x.sup (contents_of files y.disk) (replica_seen x) (λ pair. sights_of rows' pair j) =
        subst (λ (contents : ℕ → List ℕ). IsReadAs x.sup contents (replica_seen x) (λ pair. sights_of rows' pair j)) (sym (fun_ext (λ n. (looks.keeps tells).now n))) looked in
        subst (λ (z : Copy D). IsReadAs z.sup (contents_of files y.disk) (replica_seen z) (λ pair. sights_of rows' pair j)) (sym looks.copy) kept;
  }

  pub left_looked : (rows rows' : MapRows P) (j : ℕ) (r x y : Copy D) → LeftAt DiskTells files r x → LooksAt DiskTells files Tells rows rows' j x y → LeftAt DiskTells files r y
  left_looked rows rows' j r x y left looks = record {
    sup = ap (λ (z : Copy D). z.sup) looks.copy ∙ left.sup;
    holds = λ tells stuck s t holds. looks.holds tells stuck s t (left.holds tells stuck s t holds);
  }

  module _ (faults fuses : D → ℕ) (olds mids news : List (Copy D)) (rows rows' : MapRows P) (counts : KeepsCounts faults fuses olds mids) (looked : KeepsCounts faults fuses mids news)
      (looks : (j : ℕ) (x y : Copy D) → At mids j x → At news j y → LooksAt DiskTells files Tells rows rows' j x y) where
    mid_of : (j : ℕ) (r : Copy D) → At olds j r → (x : Copy D) × At mids j x
    mid_of j r e = at_there mids j (let h = at_below olds j r e in let n = counts.count in let less : j < length mids = omega (arith, h, n) in less)

    mid_at : (j : ℕ) (y : Copy D) → At news j y → (x : Copy D) × At mids j x
    mid_at j y f = at_there mids j (let h = at_below news j y f in let n = looked.count in let less : j < length mids = omega (arith, h, n) in less)

    old_of : (j : ℕ) (x : Copy D) → At mids j x → (r : Copy D) × At olds j r
    old_of j x f = at_there olds j (let h = at_below mids j x f in let n = counts.count in let less : j < length olds = omega (arith, h, n) in less)

    -- what holds of each replica
    through : (Q R : ℕ → Copy D → Copy D → Type 0) → ((j : ℕ) (r x y : Copy D) → Q j r x → LooksAt DiskTells files Tells rows rows' j x y → R j r y)
        → ((j : ℕ) (r x : Copy D) → At olds j r → At mids j x → Q j r x) → (j : ℕ) (r y : Copy D) → At olds j r → At news j y → R j r y
    through Q R makes each j r y e f = let x = mid_of j r e in makes j r x.0 y (each j r x.0 e x.1) (looks j x.0 y x.1 f)

    pub left_all : ((j : ℕ) (r x : Copy D) → At olds j r → At mids j x → LeftAt DiskTells files r x) → (j : ℕ) (r y : Copy D) → At olds j r → At news j y → LeftAt DiskTells files r y
    left_all = through (λ j r x. LeftAt DiskTells files r x) (λ j r y. LeftAt DiskTells files r y) (left_looked rows rows')

    pub kept_all : DiskTells → ((j : ℕ) (r x : Copy D) → At olds j r → At mids j x → KeepsDisk files r x) → (j : ℕ) (r y : Copy D) → At olds j r → At news j y → KeepsDisk files r y
    kept_all tells = through (λ j r x. KeepsDisk files r x) (λ j r y. KeepsDisk files r y) (λ j r x y was l. disk_looked files r x y was (l.keeps tells))

    pub reached_all : CanReach DiskTells files Tells mids rows → CanReach DiskTells files Tells news rows'
    reached_all can = λ tells j y f. let x = mid_at j y f in (looks j x.0 y x.1 f).reach tells (can tells j x.0 x.1)

    module _ (opened : (j : ℕ) (r x : Copy D) → At olds j r → At mids j x → OpensAt DiskTells files Tells rows j r x) where
      pub opened_all : (j : ℕ) (r y : Copy D) → At olds j r → At news j y → OpensAt DiskTells files Tells rows' j r y
      opened_all = through (λ j r x. OpensAt DiskTells files Tells rows j r x) (λ j r y. OpensAt DiskTells files Tells rows' j r y) (opens_looked rows rows') opened

      pub thawed_all : (j : ℕ) (y : Copy D) → At news j y → is_frozen y ≡ false
      thawed_all j y f =
          let x = mid_at j y f in
          let r = old_of j x.0 x.1 in
          up_thawed y (opened_all j r.0 y r.1 f).up

      pub told_all : DiskTells → (unsure : Option Unsure)
          → ((j : ℕ) (x : Copy D) → At mids j x → HasLiveNeedles (sights_of rows) j (volume_bytes files x) → ToldUnsure unsure (sights_of rows') j (volume_bytes files x))
          → (j : ℕ) (y : Copy D) → At news j y → ToldUnsure unsure (sights_of rows') j (volume_bytes files y)
      told_all tells unsure told j y f =
          let x = mid_at j y f in
          let r = old_of j x.0 x.1 in
          subst (λ (l : List ℕ). ToldUnsure unsure (sights_of rows') j l) (sym (file_looked DiskTells files Tells rows rows' j x.0 y tells (looks j x.0 y x.1 f)))
          (told j x.0 x.1 ((opened j r.0 x.0 r.1 x.1).live tells))

      -- what is found of a replica has its places there
      pub found_all : DiskTells → {Q : ℕ → Type 0} → ((j : ℕ) (x : Copy D) (s : Stored) → At mids j x → physical.Stands files x s → PlacesAre Tells rows j s → Q j)
          → (j : ℕ) (r : Copy D) → At olds j r → (stuck : Bool) (s t : Stored) → physical.Holds files r stuck s t → Q j
      found_all tells seen j r e stuck s t holds =
          let x = mid_of j r e in
          let found = (opened j r x.0 e x.1).reopened tells stuck s t holds in
          seen j x.0 found.0 x.1 found.2 found.3

      pub refused_all : (refusal : Unopened) → IsUnseenAt faults mids news refusal → IsRefusedAt DiskTells files faults olds news refusal
      refused_all refusal look =
          let r = old_of refusal.replica look.before look.was in
          record {
            before = r.0;
            after = look.after;
            was = r.1;
            is = look.is;
            cause = by_fault r.0 look.before look.after refusal.fault (counts.rises refusal.replica r.0 look.before r.1 look.was) look.cause;
            earlier = λ tells i a b less e f. let o = opened_all i a b e f in (o.undamaged tells, o.undamaged_now tells, o.formatted tells);
          }
        where
          by_fault : (r x y : Copy D) (f : OpenFault) → faults r.disk ≤ faults x.disk → IsLookFault (faults x.disk) (faults y.disk) f → IsOpenFault DiskTells files faults r y f
          by_fault r x y (open_fault.Failed printed) low h = (rose_later (faults r.disk) (faults x.disk) (faults y.disk) low h.0, h.1)
          by_fault r x y (open_fault.Damaged file at) low h = absurd h
          by_fault r x y open_fault.NoMemory low h = tt

pub opened_open : {D P : Type 0} (DiskTells : Type 0) (files : D → Files) (Tells : Type 0) (olds mids : List (Copy D)) (rows : MapRows P) → length mids ≡ length olds
    → ((j : ℕ) (r x : Copy D) → At olds j r → At mids j x → OpensAt DiskTells files Tells rows j r x) → (j : ℕ) (x : Copy D) → At mids j x → IsOpenCopy x
opened_open DiskTells files Tells olds mids rows count opened j x f =
    let r = at_there olds j (let h = at_below mids j x f in let less : j < length olds = omega (arith, h, count) in less) in
    up_open x (opened j r.0 x r.1 f).up
