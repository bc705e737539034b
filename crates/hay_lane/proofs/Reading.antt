-- How far a read has come behind each call.
use Rattle.std.proofs.Common.{◌≡◌, ◌⊎◌, inl, inr, ℕ, zero, suc, ◌+◌, ◌%◌, ◌^◌, ◌<◌, ◌≤◌, Bool, List, [], ◌∷◌, ◌++◌, length, refl, sym, ap, subst, ◌∙◌, arith, Some}
use Rattle.std.specs.Prelude.{Result, Ok, Err, OnErr}
use Rattle.std.specs.List.{AllByRecursion as Each}
use Rattle.std.proofs.Math.Nat.{mod-lt}
use Rattle.std.proofs.lemmas.List.{map-append, take-append-drop}
use Rattle.hay_needle.specs.declared.needle.Pair.{Pair}
use Rattle.hay_needle.specs.declared.needle.Cookie.{Cookie}
use Rattle.hay_needle.specs.declared.needle.Outcome.{Outcome}
use Rattle.hay_needle.specs.declared.needle.Outcome.TheVariants as outcome
use Rattle.hay_needle.specs.declared.settings.Settings.{Settings}
use Rattle.hay_map.specs.Places.{place_in}
use Rattle.hay_map.specs.declared.place.Place.{Place}
use Rattle.hay_reply.specs.declared.Cause.{Cause}
use Rattle.hay_reply.specs.declared.Cause.TheVariants.{Arm, Damage, Disk}
use Rattle.hay_core.specs.declared.entry.CoreTag.{CoreTag}
use Rattle.hay_legal.specs.Known as known
use Rattle.hay_legal.specs.Plain as legal
use Rattle.hay_meeting.specs.Acts.{Start}
use Rattle.hay_meeting.specs.Facts.{table_shown}
use Rattle.hay_meeting.specs.Sights.{IsLaterSight, Sight}
use Rattle.hay_meeting.proofs.Chaining.{later_at, same_at}
use Rattle.hay_needle.specs.Tables.{outcome_at}
use Rattle.hay_holdings.specs.Lines.{ArmFailed, Looking, PassedOver, Sees, Shows}
use Rattle.hay_holdings.specs.Sights.{AtArm, AtVolume}
use Rattle.hay_holdings.specs.Volumes.{ChangedNothing, ShownAt, SightFailed, SightWanted}
use Rattle.hay_holdings.proofs.Going.{call_went, went_later}
use Rattle.hay_holdings.proofs.ReadAnswers as reading
use Rattle.hay_reader.specs.Causes.{ArmRises, ArmUse, ComeFirst, EachPair, HasArmCause, IsArm, PassesRow, passed_now}
use Rattle.hay_reader.specs.Shown.{MayMean, ReadsRow, ShowsAt, ShowsPlace}
use Rattle.hay_reader.specs.Tried.{HasItsPhoto, PlaceGives}
use Rattle.hay_reader.specs.declared.causes.PassedReplica.{PassedReplica}
use Rattle.hay_reader.specs.declared.seat.ReadReply.{ReadReply}
use Rattle.hay_reader.specs.declared.seat.ReadReply.TheVariants as read
use Rattle.hay_reader.specs.declared.trial.Shown.{Shown}
use Rattle.hay_reader.specs.declared.trial.Shown.TheVariants as shown
use Rattle.hay_reader.proofs.Outcomes.{Says, passed_for_arm, says_outcome, stops_unseen}
use Rattle.hay_reader.proofs.Passing.{all_weaken, first_more, no_shorter}
use Rattle.hay_base.specs.declared.memory.NoMemory.{NoMemory}
use Rattle.hay_shared_volume.specs.declared.answers.Looked.{Looked}
use Rattle.hay_shared_volume.specs.declared.answers.SightFault.{SightFault}
use Rattle.hay_shared_volume.specs.declared.answers.SightFault.TheVariants as fault
use Rattle.hay_lane.specs.Reads.{FrozeBehind, IsNext, IsOther, IsSightCause, PassedFirst, ReadTells, RowMeans, ShownBy, StopsBehind, causes_in, replicas_in}
use Rattle.hay_shared_volume.specs.Looks.{LookTells, PlacesTell, SeeTells, WasSeen}
use Rattle.hay_shared_volume.specs.Tellings.{StoreVolume}
use Rattle.hay_lane.proofs.Maintained.{call_as}

-- CAUSES

all_both : {X : Type 0} (Q R S : X → Type 0) → ((x : X) → Q x → R x → S x) → (xs : List X) → Each Q xs → Each R xs → Each S xs
all_both Q R S join [] q r = tt
all_both Q R S join (x ∷ xs) q r = (join x q.0 r.0, all_both Q R S join xs q.1 r.1)

arm_failed : (before after : ℕ) (cause : Cause) → HasArmCause before after cause → IsArm cause → ArmFailed before after cause
arm_failed before after (Arm f) has arm = has.0
arm_failed before after (Disk f) has arm = absurd arm
arm_failed before after (Damage at) has arm = absurd arm

arm_low : (before after : ℕ) (cause : Cause) → HasArmCause before after cause → IsArm cause → after < 2 ^ 64
arm_low before after (Arm f) has arm = has.1
arm_low before after (Disk f) has arm = absurd arm
arm_low before after (Damage at) has arm = absurd arm

rises_as : (a b : Cause) → ArmRises a b → legal.ArmRises a b
rises_as (Arm f) (Arm h) rise = rise
rises_as (Arm f) (Disk h) rise = tt
rises_as (Arm f) (Damage at) rise = tt
rises_as (Disk f) b rise = tt
rises_as (Damage at) b rise = tt

rises_all : (a : Cause) (over : List PassedReplica) → Each (λ p. ArmRises a p.cause) over → Each (legal.ArmRises a) (causes_in over)
rises_all a [] all = tt
rises_all a (p ∷ over) all = (rises_as a p.cause all.0, rises_all a over all.1)

rises_each : (over : List PassedReplica) → EachPair (λ p q. ArmRises p.cause q.cause) over → known.EachPair legal.ArmRises (causes_in over)
rises_each [] all = tt
rises_each (p ∷ over) all = (rises_all p.cause over all.0, rises_each over all.1)

each_cause : (Q : Cause → Type 0) (over : List PassedReplica) → Each (λ p. Q p.cause) over → Each Q (causes_in over)
each_cause Q [] all = tt
each_cause Q (p ∷ over) all = (all.0, each_cause Q over all.1)

as_many : (over : List PassedReplica) → length (replicas_in over) ≡ length (causes_in over)
as_many [] = refl
as_many (p ∷ over) = let rest = as_many over in omega (arith, rest)

-- A ROW

-- each place of a row may mean something
mean_any : {P : Type 0} (Tells : Type 0) (pair : Pair) (row : List (Place P)) (what : ℕ → Outcome) → ((j : ℕ) → j < length row → MayMean Tells pair (place_in row j) (what j)) → (j : ℕ)
    → (o : Outcome) × MayMean Tells pair (place_in row j) o
mean_any Tells pair [] what each j = (outcome.Nothing, tt)
mean_any Tells pair (x ∷ row) what each zero = (what 0, each 0 (omega arith))
mean_any Tells pair (x ∷ row) what each (suc j) = mean_any Tells pair row (λ i. what (suc i)) (λ i below. each (suc i) (omega (arith, below))) j

module _ (settings : Settings) (start : Start) (drained : List Bool) (tag : CoreTag) (pair : Pair) (d v first : ℕ) where
  abbrev First : ℕ → (ℕ → Outcome) → List PassedReplica → Sight → Sight → Type 0
  First p what causes a b = PassedFirst settings start drained tag pair d v first p what causes a b

  -- BY FETCHES

  -- those that this call passed over were passed over behind the others
  more_passed : {p : ℕ} {what : ℕ → Outcome} (passed now : List PassedReplica) {a m b : Sight} → First p what passed a m → AtArm m b → ComeFirst first settings.replicas (passed ++ now)
      → Each (λ o. HasArmCause m.arm b.arm o.cause) now → Each (λ o. IsArm o.cause) now → EachPair (λ o q. ArmRises o.cause q.cause) now → First p what (passed ++ now) a b
  more_passed {p} {what} passed [] {a} {m} {b} before x order each arms rises = record {
    order = order;
    looking =
        let same : passed ++ [] ≡ passed = append_none passed in
        subst (λ (l : List PassedReplica). Looking settings start drained tag pair d v p what (replicas_in l) (causes_in l) a b) (sym same)
        (reading.look_fetches settings start drained tag pair d v before.looking x);
  }
    where
      append_none : (xs : List PassedReplica) → xs ++ [] ≡ xs
      append_none [] = refl
      append_none (y ∷ ys) = ap (λ (l : List PassedReplica). y ∷ l) (append_none ys)
  more_passed {p} {what} passed (o ∷ now) {a} {m} {b} before x order each arms rises = record {
    order = order;
    looking =
        subst (λ (js : List ℕ). Looking settings start drained tag pair d v p what js (causes_in (passed ++ o ∷ now)) a b) (sym (map-append (λ (q : PassedReplica). q.replica) passed (o ∷ now)))
        (subst (λ (cs : List Cause). Looking settings start drained tag pair d v p what (replicas_in passed ++ replicas_in (o ∷ now)) cs a b)
        (sym (map-append (λ (q : PassedReplica). q.cause) passed (o ∷ now)))
        (reading.look_fetches_fail settings start drained tag pair d v (replicas_in (o ∷ now)) (causes_in (o ∷ now)) (as_many (o ∷ now))
        (each_cause (ArmFailed m.arm b.arm) (o ∷ now)
        (all_both (λ (q : PassedReplica). HasArmCause m.arm b.arm q.cause) (λ (q : PassedReplica). IsArm q.cause) (λ (q : PassedReplica). ArmFailed m.arm b.arm q.cause)
        (λ q has arm. arm_failed m.arm b.arm q.cause has arm) (o ∷ now) each arms))
        (rises_each (o ∷ now) rises) x (arm_low m.arm b.arm o.cause each.0 arms.0) before.looking));
  }

  module _ {P : Type 0} (Tells : Type 0) (sure : Bool) (row : List (Place P)) (long : length row ≡ settings.replicas) (some : 0 < settings.replicas) (what : ℕ → Outcome)
      (means : RowMeans Tells settings pair row what)
      (cookie : Cookie) (p : ℕ) {a m b : Sight} (x : AtArm m b) (passed : List PassedReplica) (before : First p what passed a m) where
    abbrev arm_use : ArmUse
    arm_use = record { sure = sure; before = m.arm; after = b.arm }

    mean_at : (j : ℕ) → (o : Outcome) × MayMean Tells pair (place_in row j) o
    mean_at = mean_any Tells pair row what (λ j below. means j (omega (arith, below, long)))

    row_passes : (causes : List PassedReplica) → PassesRow Tells arm_use first row cookie passed causes → First p what causes a b
    row_passes causes h =
        let now : List PassedReplica = passed_now passed causes in
        let parts : causes ≡ passed ++ now = sym (take-append-drop (length passed) causes) ∙ ap (λ (xs : List PassedReplica). xs ++ now) h.passes.begins in
        let order : ComeFirst first settings.replicas causes = subst (λ n. ComeFirst first n causes) long h.passes.order in
        subst (λ (l : List PassedReplica). First p what l a b) (sym parts)
        (more_passed passed now before x (subst (λ (l : List PassedReplica). ComeFirst first settings.replicas l) parts order) h.passes.each
        (all_weaken (λ (q : PassedReplica). PlaceGives Tells sure cookie [] (place_in row q.replica) (Err q.cause)) (λ (q : PassedReplica). IsArm q.cause)
        (λ q gives. let o = mean_at q.replica in passed_for_arm Tells sure cookie [] pair (place_in row q.replica) q.cause o.0 o.1 gives) now h.places) h.passes.rises)

    row_next : (n : ℕ) (causes : List PassedReplica) (j : ℕ) → j ≡ (first + n) % length row → (j ≡ (first + n) % settings.replicas) × (j < settings.replicas)
    row_next n causes j is =
        let there : j ≡ (first + n) % settings.replicas = is ∙ ap (λ k. (first + n) % k) long in
        (there, (let below = mod-lt (first + n) some in omega (arith, there, below)))

    row_shows : (put : List ℕ) (causes : List PassedReplica) (j : ℕ) (showing : Shown) (IsSo : Outcome → Type 0) → ((o : Outcome) → Says cookie put showing o → IsSo o)
        → ShowsPlace Tells arm_use first row cookie passed causes put j showing → ShownBy settings start drained tag pair d v first p what j IsSo a b
    row_shows put causes j showing IsSo says h =
        let next = row_next (length causes) causes j h.next in record {
          causes = causes;
          passed = row_passes causes h.before;
          fewer = (let fewer = h.fewer in omega (arith, fewer, long));
          next = next.0;
          is = says (what j) (says_outcome Tells sure cookie put pair (place_in row j) showing (what j) (means j next.1) h.gives);
        }

    -- what a read of a row tells
    pub row_tells : (put : List ℕ) (reply : ReadReply) → ReadsRow Tells arm_use first row cookie passed put reply → ReadTells settings start drained tag pair d v first cookie p what put reply a b
    row_tells put (read.Photo j) h = row_shows put h.0 j shown.Photo (λ o. o ≡ outcome.Photo (record { cookie = cookie; bytes = put })) (λ o is. is) h.1
    row_tells put (read.Gone j) h = row_shows put h.0 j shown.Gone (λ o. o ≡ outcome.Nothing) (λ o is. is) h.1
    row_tells put (read.WrongCookie j) h = row_shows put h.0 j shown.WrongCookie (IsOther cookie) (λ o is. is) h.1
    row_tells put (read.Unseen j causes) h = row_passes causes h.before
    row_tells put (read.Unreadable causes) h = (row_passes causes h.0, h.1 ∙ long)

-- where a read stops
module _ {P : Type 0} (Tells : Type 0) (arm : ArmUse) (first replicas : ℕ) (row : List (Place P)) (long : length row ≡ replicas) (cookie : Cookie) (passed : List PassedReplica) (put : List ℕ) where
  stops_next : (causes : List PassedReplica) (j : ℕ) → ShowsPlace Tells arm first row cookie passed causes put j shown.Unseen → IsNext first replicas causes j
  stops_next causes j h = record {
    order = subst (λ n. ComeFirst first n causes) long h.before.passes.order;
    fewer = (let fewer = h.fewer in omega (arith, fewer, long));
    next = h.next ∙ ap (λ k. (first + length causes) % k) long;
  }

  -- behind those that were passed over
  pub stops_behind : (reply : ReadReply) → ReadsRow Tells arm first row cookie passed put reply → StopsBehind first replicas (length passed) reply
  stops_behind (read.Photo j) h = tt
  stops_behind (read.Gone j) h = tt
  stops_behind (read.WrongCookie j) h = tt
  stops_behind (read.Unreadable causes) h = tt
  stops_behind (read.Unseen j causes) h = (stops_next causes j h, no_shorter passed causes h.before.passes.begins)

  -- and behind a place that was seen
  pub stops_behind_seen : (at : ℕ) → at ≡ (first + length passed) % replicas → WasSeen (place_in row at) → (reply : ReadReply) → ReadsRow Tells arm first row cookie passed put reply
      → StopsBehind first replicas (length passed + 1) reply
  stops_behind_seen at is seen (read.Photo j) h = tt
  stops_behind_seen at is seen (read.Gone j) h = tt
  stops_behind_seen at is seen (read.WrongCookie j) h = tt
  stops_behind_seen at is seen (read.Unreadable causes) h = tt
  stops_behind_seen at is seen (read.Unseen j causes) h =
      let next = stops_next causes j h in
      let most : length passed ≤ length causes = no_shorter passed causes h.before.passes.begins in (
        next,
        elim (cases_le (length passed) (length causes) most) [
          | inl same ↦
              let here : j ≡ at = next.next ∙ (ap (λ n. (first + n) % replicas) (sym same) ∙ sym is) in
              let unseen = stops_unseen Tells arm.sure cookie put (place_in row j) h.gives in
              absurd (subst (λ (q : Place P). WasSeen q) unseen.2 (subst (λ i. WasSeen (place_in row i)) (sym here) seen))
          | inr more ↦ omega (arith, more)
        ],
      )
    where
      cases_le : (i k : ℕ) → i ≤ k → (i ≡ k) ⊎ (i < k)
      cases_le zero zero le = inl refl
      cases_le zero (suc k) le = inr (omega arith)
      cases_le (suc i) zero le = absurd (omega (arith, le))
      cases_le (suc i) (suc k) le = elim (cases_le i k (omega (arith, le))) [ inl same ↦ inl (ap suc same) | inr less ↦ inr (omega (arith, less)) ]

-- what was shown at once stops nowhere
pub shows_nowhere : (first replicas n j : ℕ) (reply : ReadReply) → ShowsAt j reply → StopsBehind first replicas n reply
shows_nowhere first replicas n j (read.Photo i) is = tt
shows_nowhere first replicas n j (read.Gone i) is = tt
shows_nowhere first replicas n j (read.WrongCookie i) is = tt
shows_nowhere first replicas n j (read.Unreadable causes) is = tt
shows_nowhere first replicas n j (read.Unseen i causes) is = absurd is

-- BY LOOKS

module _ (settings : Settings) (start : Start) (drained : List Bool) (tag : CoreTag) (pair : Pair) (d v first : ℕ) where
  abbrev pub here : StoreVolume
  here = record { settings = settings; start = start; number = v }

  -- what the replicas have at the pair by the front that is shown
  abbrev pub shown_by : Sight → ℕ → Outcome
  shown_by b j = outcome_at (table_shown start v j (b.volumes v).shown) pair

  shown_there : {P : Type 0} {Tells : Type 0} {looked : Looked P} {a b : Sight} → IsLaterSight a b → PlacesTell Tells here pair looked (b.volumes v)
      → Shows settings start drained tag pair v looked.front (shown_by b) a b
  shown_there {b = b} later places = record { sight = b.volumes v; from = later.volumes v; to = same_at (b.volumes v); front = places.front; is = λ j below. refl }

  -- the first look
  pub looked_first : {P : Type 0} {Tells : Type 0} {looked : Looked P} {a m b : Sight} → Sees settings start drained tag pair d (Some v) a m → AtVolume v (LookTells Tells here pair looked) m b
      → PassedFirst settings start drained tag pair d v first looked.front (shown_by b) [] a b
  looked_first {looked = looked} {b = b} sees x = record {
    order = refl;
    looking = reading.read_looks settings start drained tag pair d v (reading.reads settings start drained tag pair d v sees)
        (call_as _ (ShownAt settings start v pair looked.front (shown_by b)) x (record { looked = (x.is).0; front = ((x.is).1).front; is = λ j below. refl }));
  }

  module _ {p : ℕ} {what : ℕ → Outcome} {causes : List PassedReplica} {a m b : Sight} (before : PassedFirst settings start drained tag pair d v first p what causes a m) where
    -- the place of the next replica was seen
    pub looked_again : {P : Type 0} {Tells : Type 0} {looked : Looked P} → AtVolume v (ChangedNothing settings start v tag) m b → PlacesTell Tells here pair looked (b.volumes v)
        → PassedFirst settings start drained tag pair d v first looked.front (shown_by b) causes a b
    looked_again x places =
        let passed = reading.read_sees settings start drained tag pair d v (before.looking).passed x in record {
          order = before.order;
          looking = record { passed = passed; shows = shown_there (went_later passed.went) places };
        }

    -- it could not be seen, since its disk failed
    pub disk_passed : {j f : ℕ} → IsNext first settings.replicas causes j → AtVolume v (SightFailed settings start v tag j f) m b
        → PassedFirst settings start drained tag pair d v first p what (causes ++ record { replica = j; cause = Disk f } ∷ []) a b
    disk_passed {j} {f} next x =
        let over : PassedReplica = record { replica = j; cause = Disk f } in
        let shows = (before.looking).shows in
        let later : IsLaterSight m b = went_later (call_went x) in
        let passed : PassedOver settings start drained tag pair d v (replicas_in causes ++ j ∷ []) (causes_in causes ++ Disk f ∷ []) a b =
        reading.sight_fails settings start drained tag pair d v (before.looking).passed x in
        record {
          order = first_more first settings.replicas causes over before.order next.next;
          looking = record {
            passed =
                subst (λ (js : List ℕ). PassedOver settings start drained tag pair d v js (causes_in (causes ++ over ∷ [])) a b)
                (sym (map-append (λ (q : PassedReplica). q.replica) causes (over ∷ [])))
                (subst (λ (cs : List Cause). PassedOver settings start drained tag pair d v (replicas_in causes ++ j ∷ []) cs a b)
                (sym (map-append (λ (q : PassedReplica). q.cause) causes (over ∷ []))) passed);
            shows = record { sight = shows.sight; from = shows.from; to = later_at shows.sight (m.volumes v) (b.volumes v) shows.to (later.volumes v); front = shows.front; is = shows.is };
          };
        }

    -- memory was wanting
    pub froze_behind : AtVolume v (SightWanted settings start v tag) m b → FrozeBehind settings start drained tag pair d v first a b
    froze_behind x = record { js = replicas_in causes; causes = causes_in causes; m = m; over = (before.looking).passed; wanted = x }

    -- where there was none to say why it was passed over, none was there to see it
    pub sight_froze : (P : Type 0) (Tells : Type 0) (bytes : List ℕ) (j : ℕ) (fault : SightFault) (e : NoMemory) → IsSightCause fault (Err e)
        → AtVolume v (SeeTells {P = P} Tells here pair tag j bytes (Err fault)) m b → FrozeBehind settings start drained tag pair d v first a b
    sight_froze P Tells bytes j (fault.Failed f) e is x = absurd cc
    sight_froze P Tells bytes j (fault.Damaged at) e is x = absurd x.is
    sight_froze P Tells bytes j fault.NoMemory e is x = froze_behind (call_as _ (SightWanted settings start v tag) x x.is)

    -- so it was passed over, if there was memory to say so
    pub sight_passed : (P : Type 0) (Tells : Type 0) (bytes : List ℕ) (j : ℕ) (fault : SightFault) (cause : Cause) → IsSightCause {E = NoMemory} fault (Ok cause)
        → IsNext first settings.replicas causes j
        → AtVolume v (SeeTells {P = P} Tells here pair tag j bytes (Err fault)) m b
        → PassedFirst settings start drained tag pair d v first p what (causes ++ record { replica = j; cause = cause } ∷ []) a b
    sight_passed P Tells bytes j (fault.Failed f) cause is next x =
        let same : cause ≡ Disk f = cc in
        subst (λ why. PassedFirst settings start drained tag pair d v first p what (causes ++ record { replica = j; cause = why } ∷ []) a b) (sym same)
        (disk_passed next (call_as _ (SightFailed settings start v tag j f) x x.is))
    sight_passed P Tells bytes j (fault.Damaged at) cause is next x = absurd x.is
    sight_passed P Tells bytes j fault.NoMemory cause is next x = absurd cc

-- what holds whatever came
pub err_with : {T E : Type 0} (r : Result T E) {Q : Type 0} → Q → OnErr r Q
err_with (Ok x) q = tt
err_with (Err e) q = q

-- the bytes of a place, as they are read on
pub same_bytes : {P : Type 0} (row : List (Place P)) {bytes others : List ℕ} {j k : ℕ} → others ≡ bytes → j ≡ k → (bytes ≡ []) ⊎ HasItsPhoto bytes (place_in row j)
    → (others ≡ []) ⊎ HasItsPhoto others (place_in row k)
same_bytes row {bytes} {others} {j} {k} same is its =
    subst (λ bs. (bs ≡ []) ⊎ HasItsPhoto bs (place_in row k)) (sym same) (subst (λ i. (bytes ≡ []) ⊎ HasItsPhoto bytes (place_in row i)) is its)
