-- What a reply says where places mean outcomes.
use Rattle.std.proofs.Common.{◌≡◌, ◌≢◌, ℕ, zero, suc, ◌+◌, ◌-◌, ◌%◌, ◌^◌, ◌<◌, ◌≤◌, ◌⊎◌, inl, inr, Bool, false, eqb, List, [], ◌∷◌, length, get_or, refl, sym, ap, subst, ◌∙◌, arith}
use Rattle.std.specs.Prelude.{take_while, not, Ok, Err}
use Rattle.std.specs.List.{AllByRecursion, AllZip, prefix_len}
use Rattle.std.proofs.Math.Nat.{mod-lt}
use Rattle.std.proofs.lemmas.Option.{slice_get-get_or}
use Rattle.std.proofs.lemmas.List.{append-nil, length-take, length-drop, get_or-drop}
use Rattle.std.proofs.lemmas.List.FromFn.{length-map-range_with_len, get_or-map-range_with_len}
use Rattle.std.proofs.lemmas.Bool.{cond_both, eq-eqb}
use Rattle.std.proofs.lemmas.Slice.Zip.{AllZip-long}
use Rattle.hay_needle.specs.declared.needle.Cookie.{Cookie}
use Rattle.hay_needle.specs.declared.needle.Needle.{Needle}
use Rattle.hay_needle.specs.declared.needle.Outcome.{Outcome}
use Rattle.hay_needle.specs.declared.needle.Outcome.TheVariants as outcome
use Rattle.hay_needle.specs.declared.needle.Pair.{Pair}
use Rattle.hay_needle.specs.declared.needle.Photo.{Photo}
use Rattle.hay_needle.specs.Needle.{BeginsWithNeedle}
use Rattle.hay_needle.proofs.Needles.{one_needle}
use Rattle.hay_reply.specs.declared.Cause.{Cause}
use Rattle.hay_reply.specs.declared.Cause.TheVariants as cause
use Rattle.hay_map.specs.Places.{IsSealed, place_in}
use Rattle.hay_map.specs.Sealed.{SealedNeedle}
use Rattle.hay_map.specs.declared.place.Place.{Place}
use Rattle.hay_map.specs.declared.place.Place.TheVariants as place
use Rattle.hay_reader.specs.Causes.{ArmRises, ArmUse, EachPair, HasArmCause, IsArm, PassesRow, PassedBefore, left_from, passed_now, tried_from}
use Rattle.hay_reader.specs.Shown.{MayMean, ReadAnswers, HasCauses, ReadsRow, Shows, ShowsPlace}
use Rattle.hay_reader.specs.Tried.{HasPhoto, PlaceGives}
use Rattle.hay_reader.proofs.Passing.{all_weaken, no_shorter}
use Rattle.hay_reader.specs.declared.seat.ReadReply.{ReadReply}
use Rattle.hay_reader.specs.declared.seat.ReadReply.TheVariants as reply
use Rattle.hay_reader.specs.declared.trial.Shown.{Shown}
use Rattle.hay_reader.specs.declared.trial.Shown.TheVariants as shown
use Rattle.hay_reader.specs.declared.causes.PassedReplica.{PassedReplica}

-- A PLACE

-- the outcome that is shown to who has this cookie; `put` are the bytes that were put out
abbrev pub Says : Cookie → List ℕ → Shown → Outcome → Type 0
Says cookie put shown.Photo what = what ≡ outcome.Photo (record { cookie = cookie; bytes = put })
Says cookie put shown.Gone what = what ≡ outcome.Nothing
Says cookie put shown.Unseen what = Unit {0}
Says cookie put shown.WrongCookie what = (photo : Photo) × (photo.cookie ≢ cookie) × (what ≡ outcome.Photo photo)

sealed_begins : (Tells : Type 0) (pair : Pair) (photo : Photo) (needle : SealedNeedle) → (sealed : IsSealed Tells pair photo needle)
    → BeginsWithNeedle needle.bytes (record { version = sealed.version; pair = pair; photo = photo; deleted = false })
sealed_begins Tells pair photo needle sealed = record { needle = needle.bytes; rest = []; parts = sym (append-nil needle.bytes); is = sealed.is }

one_photo : (Tells : Type 0) (pair : Pair) (photo other : Photo) (needle : SealedNeedle) → IsSealed Tells pair photo needle → HasPhoto needle.bytes other → outcome.Photo photo ≡ outcome.Photo other
one_photo Tells pair photo other needle sealed has =
    ap (λ (n : Needle). outcome.Photo n.photo) (one_needle needle.bytes _ has.0 (sealed_begins Tells pair photo needle sealed) has.1) ∙ ap (λ (p : Photo). outcome.Photo p) has.2

-- where a place means an outcome, that outcome is shown
pub says_outcome : {P : Type 0} (Tells : Type 0) (sure : Bool) (cookie : Cookie) (put : List ℕ) (pair : Pair) (there : Place P) (showing : Shown) (what : Outcome) → MayMean Tells pair there what
    → PlaceGives Tells sure cookie put there (Ok showing) → Says cookie put showing what
says_outcome Tells sure cookie put pair (place.Live needle) showing outcome.Nothing means gives = absurd means
says_outcome Tells sure cookie put pair (place.Live needle) shown.Photo (outcome.Photo photo) means gives = one_photo Tells pair photo _ needle means (gives.1 means.tells)
says_outcome Tells sure cookie put pair (place.Live needle) shown.Gone (outcome.Photo photo) means gives = absurd gives.0
says_outcome Tells sure cookie put pair (place.Live needle) shown.Unseen (outcome.Photo photo) means gives = absurd gives.0
says_outcome Tells sure cookie put pair (place.Live needle) shown.WrongCookie (outcome.Photo photo) means gives =
    let other = gives.1 means.tells in
    (other.0, other.1, one_photo Tells pair photo other.0 needle means other.2)
says_outcome Tells sure cookie put pair place.None shown.Gone outcome.Nothing means gives = refl
says_outcome Tells sure cookie put pair place.None shown.Photo what means gives = absurd cc
says_outcome Tells sure cookie put pair place.None shown.WrongCookie what means gives = absurd cc
says_outcome Tells sure cookie put pair place.None shown.Gone (outcome.Photo photo) means gives = absurd means
says_outcome Tells sure cookie put pair place.None shown.Unseen what means gives = tt
says_outcome Tells sure cookie put pair (place.Unseen at size) shown.Photo what means gives = absurd cc
says_outcome Tells sure cookie put pair (place.Unseen at size) shown.Gone what means gives = absurd cc
says_outcome Tells sure cookie put pair (place.Unseen at size) shown.WrongCookie what means gives = absurd cc
says_outcome Tells sure cookie put pair (place.Unseen at size) shown.Unseen what means gives = tt
says_outcome Tells sure cookie put pair place.Gone shown.Unseen what means gives = tt
says_outcome Tells sure cookie put pair place.Gone shown.Gone outcome.Nothing means gives = refl
says_outcome Tells sure cookie put pair place.Gone shown.Photo what means gives = absurd cc
says_outcome Tells sure cookie put pair place.Gone shown.WrongCookie what means gives = absurd cc
says_outcome Tells sure cookie put pair place.Gone shown.Gone (outcome.Photo photo) means gives = absurd means

-- and a replica is passed over for the arm alone
pub passed_for_arm : {P : Type 0} (Tells : Type 0) (sure : Bool) (cookie : Cookie) (put : List ℕ) (pair : Pair) (there : Place P) (why : Cause) (what : Outcome) → MayMean Tells pair there what
    → PlaceGives Tells sure cookie put there (Err why) → IsArm why
passed_for_arm Tells sure cookie put pair (place.Live needle) why outcome.Nothing means gives = absurd means
passed_for_arm Tells sure cookie put pair (place.Live needle) (cause.Arm f) (outcome.Photo photo) means gives = tt
passed_for_arm Tells sure cookie put pair (place.Live needle) (cause.Disk f) (outcome.Photo photo) means gives = gives
passed_for_arm Tells sure cookie put pair (place.Live needle) (cause.Damage at) (outcome.Photo photo) means gives = gives.1 means.tells _ (sealed_begins Tells pair photo needle means)
passed_for_arm Tells sure cookie put pair place.None why what means gives = absurd cc
passed_for_arm Tells sure cookie put pair place.Gone why what means gives = absurd cc
passed_for_arm Tells sure cookie put pair (place.Unseen at size) why what means gives = absurd cc

-- LISTS

zip_or : {A B : Type 0} (R : A → B → Type 0) (xs : List A) (ys : List B) (k : ℕ) (d : A) (e : B) → R d e → AllZip R xs ys → R (get_or xs k d) (get_or ys k e)
zip_or R [] [] k d e last all = last
zip_or R [] (y ∷ ys) k d e last all = absurd all
zip_or R (x ∷ xs) [] k d e last all = absurd all
zip_or R (x ∷ xs) (y ∷ ys) zero d e last all = all.0
zip_or R (x ∷ xs) (y ∷ ys) (suc k) d e last all = zip_or R xs ys k d e last all.1

-- the outcome of each place of a row
means_at : {P : Type 0} (Tells : Type 0) (pair : Pair) (row : List (Place P)) (outcomes : List Outcome) (j : ℕ) → AllZip (MayMean Tells pair) row outcomes
    → MayMean Tells pair (place_in row j) (get_or outcomes j outcome.Nothing)
means_at Tells pair row outcomes j means = zip_or (MayMean Tells pair) row outcomes j place.None outcome.Nothing tt means

all_both : {X : Type 0} (Q R S : X → Type 0) → ((x : X) → Q x → R x → S x) → (xs : List X) → AllByRecursion Q xs → AllByRecursion R xs → AllByRecursion S xs
all_both Q R S join [] q r = tt
all_both Q R S join (x ∷ xs) q r = (join x q.0 r.0, all_both Q R S join xs q.1 r.1)

-- THE ARM'S COUNT

-- it rose as often, or stands at its greatest value
abbrev pub Climbed : ℕ → ℕ → ℕ → Type 0
Climbed tries before now = (before + tries ≤ now) ⊎ (now ≡ 2 ^ 64 - 1)

-- what came up after a count, came up from it
from_it : (before now f : ℕ) (why : Cause) → ArmRises (cause.Arm f) why → HasArmCause before now why → HasArmCause f now why
from_it before now f (cause.Arm g) rises has = ((rises, has.0.1), has.1)
from_it before now f (cause.Disk g) rises has = has
from_it before now f (cause.Damage at) rises has = tt

climbs_on : (before now : ℕ) (why : Cause) (rest : List PassedReplica) → HasArmCause before now why → IsArm why → AllByRecursion (λ p. ArmRises why p.cause) rest
    → AllByRecursion (λ p. HasArmCause before now p.cause) rest
    → ((f : ℕ) → f ≤ now → AllByRecursion (λ p. HasArmCause f now p.cause) rest → Climbed (length rest) f now) → Climbed (suc (length rest)) before now
climbs_on before now (cause.Arm f) rest has arm rises each climbs =
    let others : AllByRecursion (λ p. HasArmCause f now p.cause) rest =
    all_both (λ (p : PassedReplica). ArmRises (cause.Arm f) p.cause) (λ (p : PassedReplica). HasArmCause before now p.cause) (λ (p : PassedReplica). HasArmCause f now p.cause)
    (λ p up came. from_it before now f p.cause up came) rest rises each in
    elim has.0.0 [
      | inl up ↦ elim (climbs f has.0.1 others) [ inl far ↦ inl (omega arith) | inr top ↦ inr top ]
      | inr top ↦ inr (omega (arith, has.0.1, has.1))
    ]
climbs_on before now (cause.Disk f) rest has arm rises each climbs = absurd has
climbs_on before now (cause.Damage at) rest has arm rises each climbs = absurd arm

pub climbs : (before now : ℕ) (causes : List PassedReplica) → before ≤ now → AllByRecursion (λ p. HasArmCause before now p.cause) causes
    → EachPair (λ a b. ArmRises a.cause b.cause) causes → AllByRecursion (λ p. IsArm p.cause) causes
    → Climbed (length causes) before now
climbs before now [] later each rises arms = inl (omega arith)
climbs before now (p ∷ rest) later each rises arms = climbs_on before now p.cause rest each.0 arms.0 rises.0 each.1 (λ f more others. climbs f now rest more others rises.1 arms.1)

short_prefix : {X : Type 0} (p : X → Bool) (xs : List X) (k : ℕ) (d : X) → k < length xs → p (get_or xs k d) ≡ false → prefix_len p xs ≤ k
short_prefix p [] k d h fails = omega arith
short_prefix p (x ∷ xs) zero d h fails = rw fails (omega arith)
short_prefix p (x ∷ xs) (suc k) d h fails =
    let rest : prefix_len p xs ≤ k = short_prefix p xs k d (omega arith) fails in
    cond_both (p x) (1 + prefix_len p xs) 0 (λ n. n ≤ suc k) (λ t. omega arith) (λ f. omega arith)

-- fewer replicas come before this one than were tried in this call
tried_before : (start replicas tries j : ℕ) (passed : List PassedReplica) → tries < replicas → length passed ≤ tries → j ≡ (start + tries) % replicas
    → length (take_while (λ i. not (eqb i j)) (left_from start replicas passed)) ≤ tries - length passed
tried_before start replicas tries j passed h earlier is =
    let order : List ℕ = tried_from start replicas replicas in
    let left : List ℕ = left_from start replicas passed in
    let k : ℕ = tries - length passed in
    let there : get_or order tries 0 ≡ j = get_or-map-range_with_len (λ (i : ℕ). (start + i) % replicas) 0 replicas tries tries 0 h (omega arith) ∙ sym is in
    let here : get_or left k 0 ≡ j = get_or-drop (length passed) order k 0 ∙ ap (λ n. get_or order n 0) (let e : length passed + k ≡ tries = omega arith in e) ∙ there in
    let stops : not (eqb (get_or left k 0) j) ≡ false = ap not (eq-eqb (get_or left k 0) j here) in
    let long : length order ≡ replicas = length-map-range_with_len (λ (i : ℕ). (start + i) % replicas) 0 replicas in
    let rest : length left ≡ length order - length passed = length-drop (length passed) order in
    let short : prefix_len (λ i. not (eqb i j)) left ≤ k = short_prefix (λ i. not (eqb i j)) left k 0 (omega arith) stops in
    omega (arith, length-take (prefix_len (λ i. not (eqb i j)) left) left)

passed_before : (start replicas tries j before now : ℕ) (passed : List PassedReplica) → tries < replicas → length passed ≤ tries → j ≡ (start + tries) % replicas
    → Climbed (tries - length passed) before now
    → PassedBefore start replicas passed j before now
passed_before start replicas tries j before now passed h earlier is climbed =
    let few = tried_before start replicas tries j passed h earlier is in
    elim climbed [ inl far ↦ inl (omega (arith, few)) | inr top ↦ inr top ]

-- A ROW

all_for_arm : {P : Type 0} (Tells : Type 0) (arm : ArmUse) (start : ℕ) (row : List (Place P)) (cookie : Cookie) (passed causes : List PassedReplica) (pair : Pair)
    (outcomes : List Outcome) → AllZip (MayMean Tells pair) row outcomes
    → PassesRow Tells arm start row cookie passed causes → AllByRecursion (λ p. IsArm p.cause) (passed_now passed causes)
all_for_arm Tells arm start row cookie passed causes pair outcomes means passes =
    all_weaken (λ (p : PassedReplica). PlaceGives Tells arm.sure cookie [] (place_in row p.replica) (Err p.cause)) (λ (p : PassedReplica). IsArm p.cause)
    (λ p gives. passed_for_arm Tells arm.sure cookie [] pair (place_in row p.replica) p.cause (get_or outcomes p.replica outcome.Nothing)
    (means_at Tells pair row outcomes p.replica means) gives) (passed_now passed causes) passes.places

shows_outcome : {P : Type 0} (Tells : Type 0) (arm : ArmUse) (start : ℕ) (row : List (Place P)) (cookie : Cookie) (passed causes : List PassedReplica) (put : List ℕ) (j : ℕ)
    (showing : Shown) (pair : Pair) (outcomes : List Outcome) → arm.before ≤ arm.after
    → AllZip (MayMean Tells pair) row outcomes → ShowsPlace Tells arm start row cookie passed causes put j showing
    → (what : Outcome) × Says cookie put showing what × Shows start arm.before arm.after passed outcomes j what
shows_outcome Tells arm start row cookie passed causes put j showing pair outcomes later means shows =
    let tries : ℕ = length causes in
    let what : Outcome = get_or outcomes j outcome.Nothing in
    let now : List PassedReplica = passed_now passed causes in
    let long : length outcomes ≡ length row = AllZip-long (MayMean Tells pair) row outcomes means in
    let some : 0 < length row = omega (arith, shows.fewer) in
    let inside : j < length outcomes = omega (arith, shows.next, mod-lt (start + tries) some) in
    let passes = shows.before.passes in
    let climbed = climbs arm.before arm.after now later passes.each passes.rises (all_for_arm Tells arm start row cookie passed causes pair outcomes means shows.before) in
    let counted : Climbed (tries - length passed) arm.before arm.after = subst (λ n. Climbed n arm.before arm.after) (length-drop (length passed) causes) climbed in (
      what,
      says_outcome Tells arm.sure cookie put pair (place_in row j) showing what (means_at Tells pair row outcomes j means) shows.gives,
      record {
        stands = slice_get-get_or outcomes j outcome.Nothing inside;
        tried = rw long (passed_before start (length row) tries j arm.before arm.after passed shows.fewer (no_shorter passed causes passes.begins) shows.next counted);
      },
    )

-- where each place of a row that was looked at means an outcome, the reply is one of these outcomes
pub answers_row : {P : Type 0} (Tells : Type 0) (arm : ArmUse) (start : ℕ) (row : List (Place P)) (cookie : Cookie) (passed : List PassedReplica) (put : List ℕ) (read : ReadReply)
    (pair : Pair) (outcomes : List Outcome) → arm.before ≤ arm.after
    → AllZip (MayMean Tells pair) row outcomes → ReadsRow Tells arm start row cookie passed put read → ReadAnswers start cookie arm.before arm.after passed outcomes put read
answers_row Tells arm start row cookie passed put (reply.Photo j) pair outcomes later means reads =
    let shows = shows_outcome Tells arm start row cookie passed reads.0 put j shown.Photo pair outcomes later means reads.1 in
    subst (λ (what : Outcome). Shows start arm.before arm.after passed outcomes j what) shows.1 shows.2
answers_row Tells arm start row cookie passed put (reply.Gone j) pair outcomes later means reads =
    let shows = shows_outcome Tells arm start row cookie passed reads.0 put j shown.Gone pair outcomes later means reads.1 in
    subst (λ (what : Outcome). Shows start arm.before arm.after passed outcomes j what) shows.1 shows.2
answers_row Tells arm start row cookie passed put (reply.WrongCookie j) pair outcomes later means reads =
    let shows = shows_outcome Tells arm start row cookie passed reads.0 put j shown.WrongCookie pair outcomes later means reads.1 in
    (shows.1.0, shows.1.1, subst (λ (what : Outcome). Shows start arm.before arm.after passed outcomes j what) shows.1.2 shows.2)
answers_row Tells arm start row cookie passed put (reply.Unseen j causes) pair outcomes later means reads = all_for_arm Tells arm start row cookie passed causes pair outcomes means reads.before
answers_row Tells arm start row cookie passed put (reply.Unreadable causes) pair outcomes later means reads = all_for_arm Tells arm start row cookie passed causes pair outcomes means reads.0

-- each replica that is told of has its cause
pub has_causes : {P : Type 0} (Tells : Type 0) (arm : ArmUse) (start : ℕ) (row : List (Place P)) (cookie : Cookie) (passed : List PassedReplica) (put : List ℕ) (read : ReadReply)
    → ReadsRow Tells arm start row cookie passed put read
    → HasCauses start row arm.before arm.after passed read
has_causes Tells arm start row cookie passed put (reply.Photo j) reads = tt
has_causes Tells arm start row cookie passed put (reply.Gone j) reads = tt
has_causes Tells arm start row cookie passed put (reply.WrongCookie j) reads = tt
has_causes Tells arm start row cookie passed put (reply.Unseen j causes) reads = (reads.before.passes, reads.fewer, reads.next)
has_causes Tells arm start row cookie passed put (reply.Unreadable causes) reads = (reads.0.passes, reads.1)

-- a read that stops at a replica stops at a place that was not looked at yet
pub stops_unseen : {P : Type 0} (Tells : Type 0) (sure : Bool) (cookie : Cookie) (put : List ℕ) (there : Place P) → PlaceGives Tells sure cookie put there (Ok shown.Unseen)
    → (at : ℕ) × (size : ℕ) × (there ≡ place.Unseen at size)
stops_unseen Tells sure cookie put (place.Live needle) gives = absurd gives.0
stops_unseen Tells sure cookie put place.None gives = absurd cc
stops_unseen Tells sure cookie put place.Gone gives = absurd cc
stops_unseen Tells sure cookie put (place.Unseen at size) gives = (at, size, refl)
