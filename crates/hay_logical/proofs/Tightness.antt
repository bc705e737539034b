-- Compactions that have copied just what stands.
use Rattle.std.proofs.Common.{◌≡◌, inl, inr, ℕ, ◌<◌, ◌-◌, true, false, List, length, drop, length-drop, Option, Some, None, refl, sym, ap, subst, ◌∙◌, arith}
use Rattle.std.specs.Prelude.{Err, Ok, Result, map}
use Rattle.std.proofs.lemmas.Bool.{cases_lt}
use Rattle.std.proofs.lemmas.List.{length-map}
use Rattle.hay_needle.specs.declared.needle.Cell.{Cell}
use Rattle.hay_needle.specs.declared.needle.Cookie.{Cookie}
use Rattle.hay_needle.specs.declared.needle.Pair.{Pair}
use Rattle.hay_needle.specs.declared.settings.Settings.{Settings}
use Rattle.hay_disk.specs.Disk.{Files}
use Rattle.hay_legal.specs.declared.known.VolumeKnown.{VolumeKnown}
use Rattle.hay_map.specs.MapRows.{MapRows}
use Rattle.hay_open.specs.Stored.{Stored, cell_record}
use Rattle.hay_physical.specs.declared.fault.ReplicaFault.{ReplicaFault}
use Rattle.hay_physical.specs.declared.fault.ReplicaFault.TheVariants as fault
use Rattle.hay_physical.specs.declared.state.OpenFiles.{OpenFiles}
use Rattle.hay_physical.specs.declared.state.Phase.TheVariants.{Open}
use Rattle.hay_physical.specs.OpenCopies.{Copy, IsUp}
use Rattle.hay_physical.specs.Replicas as physical
use Rattle.hay_physical.specs.CompactionRuns.{HasRun, Run}
use Rattle.hay_physical.proofs.Laws.{run_goal, stands_generation}
use Rattle.hay_logical.specs.declared.replicas.Broken.{Broken}
use Rattle.hay_logical.specs.declared.runs.NewFiles.{NewFiles}
use Rattle.hay_logical.specs.declared.unsure.Unsure.{Unsure}
use Rattle.hay_logical.specs.Answers.{IsTightened}
use Rattle.hay_logical.specs.Fits.{At}
use Rattle.hay_logical.specs.Stands.{RunsTight, Stands, StandsFor}
use Rattle.hay_logical.specs.Refusals.{IsUntouched}
use Rattle.hay_logical.specs.ReplicaCalls.{BeginsAt, CallsOne, FlushesAt, FusesAt, KeepsPlaces, PlacesAre, PutLeaves, SightsAt, StepsAt, StillRuns, SwapsAt, SwapsOne}
use Rattle.hay_logical.specs.ReplicaCalls.Start.{Going}
use Rattle.hay_logical.proofs.Alike.{one_standing}
use Rattle.hay_logical.proofs.Calls.{frozen_is, open_up}
use Rattle.hay_logical.proofs.Finishing.{stands_swap, tight_sizes, was_there}
use Rattle.hay_logical.proofs.Lists.{at_below, at_same, at_there}
use Rattle.hay_logical.proofs.Methods.{one_count, one_each}
use Rattle.hay_logical.proofs.Putting.{all_thawed}
use Rattle.hay_logical.proofs.Standing.{volume_with}

-- A replica stands for one only.
pub one_stored : {D : Type 0} (files : D → Files) (r : Copy D) (s t : Stored) → physical.Stands files r s → physical.Stands files r t → s ≡ t
unfolding physical.Stands
one_stored files r s t a b =
    let same = one_standing files r s t a b in
    let both : Open a.opened ≡ Open b.opened = sym a.phase ∙ b.phase in
    let opened : a.opened ≡ b.opened = cc in
    let generation : s.generation ≡ t.generation = sym (stands_generation files r s a) ∙ stands_generation files r t b in
    let rest : length (drop s.records (map cell_record s.cells)) ≡ length (drop t.records (map cell_record t.cells)) =
    ap length (sym a.stand.noted ∙ ap (λ (o : OpenFiles). o.index.pending) opened ∙ b.stand.noted) in
    let cells : length s.cells ≡ length t.cells = ap length same.1 in
    let lags = a.stand.lags in
    let more = b.stand.lags in
    let left = length-drop s.records (map cell_record s.cells) in
    let right = length-drop t.records (map cell_record t.cells) in
    let records : s.records ≡ t.records = omega (arith, rest, cells, lags, more, left, right, length-map s.cells cell_record, length-map t.cells cell_record) in
    ap (λ n. let x : Stored = record { cells = s.cells; end = s.end; records = s.records; generation = n } in x) generation
    ∙ ap (λ n. let x : Stored = record { cells = s.cells; end = s.end; records = n; generation = t.generation } in x) records
    ∙ ap (λ n. let x : Stored = record { cells = s.cells; end = n; records = t.records; generation = t.generation } in x) same.0
    ∙ ap (λ n. let x : Stored = record { cells = n; end = t.end; records = t.records; generation = t.generation } in x) same.1

-- ONE REPLICA

module _ {D : Type 0} (files : D → Files) (r r' : Copy D) where
  -- through a call that leaves what stands and the compaction
  pub tight_still : ((s : Stored) → physical.Stands files r s → physical.Stands files r' s)
      → ((s : Stored) (run : Run) → physical.Stands files r s → HasRun files r s (Some run) → HasRun files r' s (Some run)) → RunsTight files r → RunsTight files r'
  tight_still stands has t = record { stored = t.stored; stands = stands t.stored t.stands; run = t.run; has = has t.stored t.run t.stands t.has; tight = t.tight }

  module _ (DiskTells : Type 0) (faults : D → ℕ) (tells : DiskTells) where
    pub tight_begun : (goal : ℕ) (s : Stored) → physical.Stands files r s → BeginsAt DiskTells files faults r r' (Ok goal) → RunsTight files r'
    tight_begun goal s stands step =
        record { stored = s; stands = step.on.stands tells s stands; run = record { goal = goal; left = length s.cells; tight = true }; has = (step.begun tells s stands).1; tight = refl }

    pub tight_flushed : (result : Result ℕ ReplicaFault) → FlushesAt DiskTells files faults r r' result → RunsTight files r → RunsTight files r'
    tight_flushed (Ok n) step t =
        record { stored = physical.all_recorded t.stored; stands = (step.flushed tells t.stored t.stands).1; run = t.run; has = step.run tells t.stored (Some t.run) t.stands t.has; tight = t.tight }
    tight_flushed (Err f) step t =
        tight_still (λ s stands. step.refused tells s stands) (λ s run stands has. step.run_stays tells s (Some run) stands has) t

    pub tight_fused : (fuses : D → ℕ) → FusesAt DiskTells files faults fuses r r' → RunsTight files r → RunsTight files r'
    tight_fused fuses step = tight_still (step.stands tells) (λ s run stands has. step.run tells s (Some run) has)

    module _ {P : Type 0} (Tells : Type 0) (rows : MapRows P) (at cells : ℕ) (s : Stored) (stands : physical.Stands files r s) (places : PlacesAre Tells rows at s) where
      places_of : (t : RunsTight files r) → PlacesAre Tells rows at t.stored
      places_of t = subst (λ x. PlacesAre Tells rows at x) (one_stored files r s t.stored stands t.stands) places

      pub tight_stepped : (n : ℕ) → StepsAt DiskTells files faults Tells rows at cells r r' (Ok n) → RunsTight files r → RunsTight files r'
      tight_stepped n step t =
          record {
            stored = t.stored;
            stands = step.on.stands tells t.stored t.stands;
            run = record { goal = (t.run).goal; left = (t.run).left - n; tight = (t.run).tight };
            has = (step.stepped tells t.stored t.run t.stands t.has (places_of t)).1;
            tight = t.tight;
          }

      pub tight_partly : StepsAt DiskTells files faults Tells rows at cells r r' (Err fault.NoMemory) → RunsTight files r → RunsTight files r'
      tight_partly step t =
          let part = step.refused tells t.stored t.run t.stands t.has (places_of t) in
          record {
            stored = t.stored;
            stands = step.on.stands tells t.stored t.stands;
            run = record { goal = (t.run).goal; left = (t.run).left - part.number; tight = (t.run).tight };
            has = part.has;
            tight = t.tight;
          }

-- A VOLUME

abbrev pub TightIn : {D : Type 0} → (D → Files) → List (Copy D) → ℕ → Type 0
TightIn {D} files replicas j = (r : Copy D) → At replicas j r → RunsTight files r

-- where each replica keeps its compaction
pub tight_each : {D : Type 0} (files : D → Files) (old new : List (Copy D)) → length new ≡ length old → (j : ℕ)
    → ((r r' : Copy D) → At old j r → At new j r' → RunsTight files r → RunsTight files r') → TightIn files old j → TightIn files new j
tight_each files old new count j keeps tight r' f =
    let was = at_there old j (subst (λ n. j < n) count (at_below new j r' f)) in
    keeps was.0 r' was.1 f (tight was.0 was.1)

pub tight_one : {D : Type 0} (files : D → Files) (at : ℕ) (old new : List (Copy D)) (one : CallsOne at old new) → (RunsTight files one.before → RunsTight files one.after) → (j : ℕ)
    → TightIn files old j → TightIn files new j
tight_one files at old new one keeps j =
    tight_each files old new (one_count at old new one) j (λ r r' e f. one_each (λ x y. RunsTight files x → RunsTight files y) at old new one keeps (λ x t. t) j r r' e f)

-- through a look
module _ {D P : Type 0} (settings : Settings) (number : ℕ) (DiskTells : Type 0) (files : D → Files) (Tells : Type 0) (faults : D → ℕ) (items : List (Copy D))
    (rows rows' : MapRows P) (front : ℕ) (unsure : Option Unsure) (k : VolumeKnown) where
  pub tight_seen : DiskTells → (frozen : Option ℕ) → StandsFor files Tells (volume_with settings number items rows front frozen unsure) k
      → (at : ℕ) (r r' : Copy D) (pair : Pair) (result : Result Unit ReplicaFault) → At items at r
      → SightsAt DiskTells files faults Tells pair rows rows' at r r' result → RunsTight files r → RunsTight files r'
  tight_seen tells None stands at r r' pair result e sights t =
      let was = stands.by.each at r e in
      let places = subst (λ x. PlacesAre Tells rows at x) (one_stored files r was.stored t.stored was.stands t.stands) was.places in
      record { stored = t.stored; stands = (sights.stands tells t.stored t.stands places).0; run = t.run; has = sights.run tells t.stored (Some t.run) t.stands places t.has; tight = t.tight }
  tight_seen tells (Some m) stands at r r' pair result e sights t =
      let wrong : Some (t.run).goal ≡ None = sym (run_goal files r t.stored t.run t.has) ∙ (stands.by.idle at r e).1 in
      absurd cc

-- through a put that changed nothing
module _ {D : Type 0} (DiskTells : Type 0) (files : D → Files) (faults : D → ℕ) (pair : Pair) (cookie : Cookie) (bytes : List ℕ) (items new : List (Copy D)) (broken : Broken)
    (left : PutLeaves DiskTells files faults pair cookie bytes items new broken)
    (un : IsUntouched new broken) (still : StillRuns DiskTells files items new broken) (up : (j : ℕ) (r : Copy D) → At items j r → IsUp r) (tells : DiskTells) where
  there : RunsTight files left.before → RunsTight files left.after
  there t =
      let thaw = all_thawed DiskTells files faults pair cookie bytes items new broken left un up broken.at left.before left.after left.was left.is in
      tight_still files left.before left.after
      (λ s stands. elim (left.there.stands tells s stands) [
        | inl stays ↦ stays
        | inr gone ↦ let wrong : true ≡ false = sym (frozen_is left.after gone.0) ∙ thaw in absurd cc
      ])
      (λ s run stands has. still.there left.before left.after left.was left.is (open_up left.after left.there.«open» thaw) tells s (Some run) stands has)
      t

  pub tight_untouched : length new ≡ length items → (j : ℕ) → TightIn files items j → TightIn files new j
  tight_untouched count j = tight_each files items new count j (λ r r' e f t. elim (cases_lt broken.at j) [
    | inl later ↦ subst (λ (x : Copy D). RunsTight files x) (sym (still.above j r r' later e f)) t
    | inr not_later ↦
        let zero_is = un.first in
        let here : j ≡ broken.at = omega (arith, not_later, zero_is) in
        let before : r ≡ left.before = at_same items j r left.before e (subst (λ n. At items n left.before) (sym here) left.was) in
        let after : r' ≡ left.after = at_same new j r' left.after f (subst (λ n. At new n left.after) (sym here) left.is) in
        subst (λ (x : Copy D). RunsTight files x) (sym after) (there (subst (λ (x : Copy D). RunsTight files x) before t))
  ])

-- what a compaction ends with that was so
module _ {D P : Type 0} (settings : Settings) (number : ℕ) (DiskTells : Type 0) (files : D → Files) (Tells : Type 0) (faults : D → ℕ) (items new : List (Copy D))
    (rows rows' : MapRows P) (front : ℕ) (unsure : Option Unsure) (k : VolumeKnown)
    (stands : StandsFor files Tells (volume_with settings number items rows front None unsure) k) (tells : DiskTells) (at : ℕ) (one : SwapsOne DiskTells files at items new) where
  pub tightened : (now : NewFiles P) → SwapsAt DiskTells files faults Tells Going rows rows' at one.before one.after (Ok now) → KeepsPlaces rows rows' at (Ok now) → RunsTight files one.before
      → IsTightened files Tells k at (volume_with settings number new rows' front None unsure)
  unfolding Stands
  tightened now swaps places t =
      let was = was_there settings number DiskTells files Tells items new rows rows' front unsure k stands one.count tells at one in
      let same = one_stored files one.before t.stored was.stored t.stands was.stands in
      let has : HasRun files one.before was.stored (Some t.run) = subst (λ s. HasRun files one.before s (Some t.run)) same t.has in
      let made = swaps.swapped tells was.stored t.run was.stands has was.places in
      record {
        swaps = (
          made.stored.end,
          length made.stored.cells,
          tight_sizes k at was.stored made.stored t.run t.tight was.fits made.to,
          stands_swap settings number DiskTells files Tells items new rows rows' front unsure k stands one.count tells at one t.run now.generation swaps.up.0 swaps.up.1 swaps.up.2 made places.others,
        );
        sizes = λ r f s is.
            let alike = one_standing files r made.stored s (subst (λ (x : Copy D). physical.Stands files x made.stored) (at_same new at one.after r one.is f) made.stands) is in
            (alike.0, ap (λ (l : List Cell). length l) alike.1);
      }
