-- What a line saw of a volume that it met closed or open: a lane that met a freeze of the block meets it from then on.
use Rattle.std.proofs.Common.{◌≡◌, ◌≢◌, ◌⊎◌, inl, inr, ℕ, ◌<◌, ◌≤◌, ◌+◌, true, false, List, [], ◌∷◌, length, map, Contains, Option, Some, None, refl, sym, ap, subst, ◌∙◌}
use Rattle.std.specs.Prelude.{find}
use Rattle.std.specs.List.{AllZip, enumerate_from}
use Rattle.std.proofs.lemmas.Option.{none-some}
use Rattle.hay_needle.specs.declared.needle.Pair.{Pair}
use Rattle.hay_needle.specs.declared.needle.Cookie.{Cookie}
use Rattle.hay_needle.specs.declared.settings.Settings.{Settings}
use Rattle.hay_url.specs.declared.Url.{Url as UrlParts}
use Rattle.hay_script.specs.declared.Command.{Command}
use Rattle.hay_script.specs.declared.Command.TheVariants as command
use Rattle.hay_reply.specs.declared.ClosedBy.{ClosedBy}
use Rattle.hay_reply.specs.declared.Refused.{Refused}
use Rattle.hay_reply.specs.declared.Refused.TheVariants.{Closed, NoRoom}
use Rattle.hay_reply.specs.declared.Reply.{Reply}
use Rattle.hay_reply.specs.declared.Reply.TheVariants as reply
use Rattle.hay_core.specs.declared.entry.Entry.TheVariants as entry
use Rattle.hay_legal.specs.declared.known.Known.{Known}
use Rattle.hay_legal.specs.declared.turn.Item.{Item}
use Rattle.hay_legal.specs.declared.turn.Item.TheVariants as asks
use Rattle.hay_legal.specs.declared.turn.LaneItem.{LaneItem}
use Rattle.hay_legal.specs.Known.{all_tries, closed, closed_by, drained_of, lacks_room, machine_of, refusal_by, replica_at, replica_on, room_refusal_of, volume_at}
use Rattle.hay_needle.specs.Sizes.{needle_total}
use Rattle.hay_legal.specs.declared.known.ReplicaKnown.{ReplicaKnown}
use Rattle.hay_legal.specs.Plain.{as_closed, put_entry, start_of}
use Rattle.hay_legal.specs.Blocks.{MayBeStuck, MetFreeze, MetOpen, RefusedAsStuck, SticksBy, tag_of, volume_named}
use Rattle.hay_history.specs.LaneSteps.{Did, IsThawed, Leads, Standing, Step}
use Rattle.hay_history.specs.LaneSteps.Did.{Ends, Entered, Flushes, Pends, Poises, Sticks, Swaps}
use Rattle.hay_history.specs.Histories.{Course, History, IsMoment, OneStep, OneTry, SeesFrozen, SeesRefusal, closing_then, own, refusal_then, standing, volume_then}
use Rattle.hay_history.specs.Commands.{CameInLanes, CommandDid, CompactDid, CompactFailed, CompactRefused, DelDid, FlushDid, GetDid, HomeIsClosed, HomeRefuses, IsFrozen, IsStuck}
use Rattle.hay_history.specs.Commands.{ItemDid, PutDid, PutRefused, RanAs, ShowDid, UrlDid}
use Rattle.hay_history.proofs.Trying.{one_own}
use Rattle.hay_history.proofs.Lists.{each_in, first_or_rest, none_in, one_in}
use Rattle.hay_history.proofs.Lines.{answered, course_of, one_leads, own_leads}
use Rattle.hay_history.proofs.Placing.{on_machine}
use Rattle.hay_history.proofs.Laying.{last_step}
use Rattle.hay_history.proofs.Volumes.{frozen_on, option_map_some, stuck_then, thawed_before}
use Rattle.hay_history.proofs.Own.{line_of}

-- the line saw the volume frozen by then, or thawed from then on
abbrev pub SawFrozen : Course → ℕ → Type 0
SawFrozen c v = (n : ℕ) × (m : ℕ) × (n ≤ (c.to).volumes v) × ((volume_then c v n).frozen ≡ Some m)

abbrev pub SawThawed : Course → ℕ → Type 0
SawThawed c v = (n : ℕ) × ((c.from).volumes v ≤ n) × ((volume_then c v n).frozen ≡ None)

-- CLOSED VOLUMES

-- what is not closed is not frozen
pub thawed_of : (frozen drained : Option ℕ) → closed_by frozen drained ≡ None → (frozen ≡ None) × (drained ≡ None)
thawed_of None drained e = (refl, e)
thawed_of (Some m) drained e = absurd (none-some m (sym e))

pub thawed_room : (v : ℕ) (closing : Option ℕ) (room : Option Refused) → refusal_by v closing room ≡ None → closing ≡ None
thawed_room v None room e = refl
thawed_room v (Some m) room e = let clash : Some (Closed v m) ≡ None = e in absurd cc

-- what closes a volume that is not drained froze it
frozen_of : (frozen drained : Option ℕ) (m : ℕ) → closed_by frozen drained ≡ Some m → drained ≡ None → frozen ≡ Some m
frozen_of None drained m e none = absurd (none-some m (sym none ∙ e))
frozen_of (Some by) drained m e none = e

abbrev machine_named : Refused → ℕ
machine_named (Closed v m) = m
machine_named (NoRoom v m end need) = m

module _ (c : Course) where
  -- a refusal is of the volume that it names: as closed, or for room where the volume was open
  pub refused_closed : (size u v m n : ℕ) → refusal_then c u n size ≡ Some (Closed v m) → (u ≡ v) × (closing_then c u n ≡ Some m)
  refused_closed size u v m n e = by (closing_then c u n) refl e
    where
      by : (closing : Option ℕ) → closing_then c u n ≡ closing → refusal_by u closing (room_refusal_of c.settings u (volume_then c u n) size) ≡ Some (Closed v m)
          → (u ≡ v) × (closing_then c u n ≡ Some m)
      by (Some other) is same =
          let parts : Closed u other ≡ Closed v m = cc in
          (ap volume_named parts, is ∙ ap (λ (r : Refused). Some (machine_named r)) parts)
      by None is same =
          let lack = option_map_some (λ (at : ℕ × ReplicaKnown). NoRoom u (machine_of c.settings u at.0) (at.1).end (needle_total size))
          (find (λ at. lacks_room c.settings size at.1) (enumerate_from 0 (volume_then c u n).replicas)) (Closed v m) same in
          let clash : NoRoom u (machine_of c.settings u (lack.0).0) ((lack.0).1).end (needle_total size) ≡ Closed v m = lack.2 in
          absurd cc

  pub refused_room : (size u v m end need n : ℕ) → refusal_then c u n size ≡ Some (NoRoom v m end need) → (u ≡ v) × (closing_then c u n ≡ None)
  refused_room size u v m end need n e = by (closing_then c u n) refl e
    where
      by : (closing : Option ℕ) → closing_then c u n ≡ closing → refusal_by u closing (room_refusal_of c.settings u (volume_then c u n) size) ≡ Some (NoRoom v m end need)
          → (u ≡ v) × (closing_then c u n ≡ None)
      by (Some other) is same = let clash : Closed u other ≡ NoRoom v m end need = cc in absurd cc
      by None is same =
          let lack = option_map_some (λ (at : ℕ × ReplicaKnown). NoRoom u (machine_of c.settings u at.0) (at.1).end (needle_total size))
          (find (λ at. lacks_room c.settings size at.1) (enumerate_from 0 (volume_then c u n).replicas)) (NoRoom v m end need) same in
          (ap volume_named lack.2, is)

  -- a refusal that a reply names is one that the line saw
  try_seen : (size : ℕ) (named : Refused) (xs : List ℕ) (refused : List Refused) → AllZip (SeesRefusal c size) xs refused → Contains refused named
      → (u : ℕ) × SeesRefusal c size u named
  try_seen size named [] [] zip at = absurd (none_in named at)
  try_seen size named (x ∷ xs) [] zip at = absurd zip
  try_seen size named [] (r ∷ refused) zip at = absurd zip
  try_seen size named (x ∷ xs) (r ∷ refused) zip at = elim (first_or_rest r refused named at) [
    | inl same ↦ (x, subst (SeesRefusal c size x) same zip.0)
    | inr rest ↦ try_seen size named xs refused zip.1 rest
  ]

  home_seen : (pair : Pair) (size : ℕ) (named : Refused) (refused : List Refused) → HomeRefuses c pair size refused → Contains refused named
      → (u : ℕ) × SeesRefusal c size u named
  home_seen pair size named [] home at = absurd home
  home_seen pair size named (r ∷ []) home at = (home.1, subst (SeesRefusal c size home.1) (one_in r named at) home.3)
  home_seen pair size named (r ∷ next ∷ rest) home at = absurd home

  pub refusal_seen : (pair : Pair) (size : ℕ) (named : Refused) (refused : List Refused) → PutRefused c pair size refused → Contains refused named
      → (u : ℕ) × SeesRefusal c size u named
  refusal_seen pair size named refused did at = elim did.because [
    | inl tries ↦ try_seen size named (all_tries c.settings pair) refused tries.0.1 at
    | inr home ↦ home_seen pair size named refused home at
  ]

  -- one closed volume that a reply names
  the_closed : (v : ℕ) (by named : ClosedBy) → Contains (by ∷ []) named → named.volume ≡ v → by.volume ≡ v
  the_closed v by named at is = ap (λ (x : ClosedBy). x.volume) (one_in by named at) ∙ is

  -- a volume that a lone machine had frozen
  pub met_frozen_by : (u v : ℕ) (tries : List ClosedBy) → IsFrozen c u tries → (by : ClosedBy) × Contains tries by × (by.volume ≡ v) → SawFrozen c v
  met_frozen_by u v [] frozen names = absurd frozen
  met_frozen_by u v (by ∷ []) frozen names =
      let is : u ≡ v = sym frozen.0 ∙ the_closed v by names.0 names.1 names.2 in
      subst (SawFrozen c) is ((frozen.1).moment, by.machine, ((frozen.1).seen).1, (frozen.1).is)
  met_frozen_by u v (by ∷ next ∷ rest) frozen names = absurd frozen

  compact_frozen : (u v j : ℕ) (tries : List ClosedBy) → CompactRefused c u j tries → (by : ClosedBy) × Contains tries by × (by.volume ≡ v) → SawFrozen c v
  compact_frozen u v j tries (inl frozen) names = met_frozen_by u v tries frozen.0 names
  compact_frozen u v j [] (inr ran) names = absurd ran
  compact_frozen u v j (by ∷ []) (inr ran) names =
      let is : u ≡ v = sym ran.0 ∙ the_closed v by names.0 names.1 names.2 in
      subst (SawFrozen c) is ((ran.1).moment, by.machine, ((ran.1).seen).1, (ran.1).frozen)
  compact_frozen u v j (by ∷ next ∷ rest) (inr ran) names = absurd ran

  compact_on_frozen : (u m v : ℕ) (o : Option ℕ) (tries : List ClosedBy) → CompactDid c u m o (reply.ReadOnly tries)
      → (by : ClosedBy) × Contains tries by × (by.volume ≡ v) → SawFrozen c v
  compact_on_frozen u m v None tries did names = absurd did
  compact_on_frozen u m v (Some j) tries did names = compact_frozen u v j tries did names

-- VOLUMES THAT WERE FROZEN IN THE BLOCK

module _ {settings : Settings} {k : Known} {items : List LaneItem} {history : History} {t : Known} (h : CameInLanes settings k items history t) (item : LaneItem) where
  -- an index that a line met stuck may be so
  pub is_stuck : (v m j : ℕ) (by : List ClosedBy) → v < settings.volumes → machine_of settings v j ≡ m
      → IsStuck (course_of h item) v m j by → MayBeStuck k items v m j by
  is_stuck v m j [] below on did = absurd did
  is_stuck v m j (by ∷ []) below on did = (
    did.0,
    thawed_before h v did.1.0 below did.1.2,
    subst (λ (w : ℕ). ((replica_at (volume_at k v) j).stuck ≡ true) ⊎ ((item : LaneItem) × Contains items item × SticksBy v w item)) on
        (stuck_then h v did.1.0 j below did.1.3),
  )
  is_stuck v m j (by ∷ more ∷ rest) below on did = absurd did

  -- a volume that a machine closed then, and not before the block, was frozen then
  pub closing_frozen : (v n m : ℕ) → v < settings.volumes → IsMoment (course_of h item) v n → closed settings k v ≢ Some m
      → closing_then (course_of h item) v n ≡ Some m → SawFrozen (course_of h item) v
  closing_frozen v n m below seen new closing = by (volume_then (course_of h item) v n).frozen refl closing
    where
      by : (o : Option ℕ) → (volume_then (course_of h item) v n).frozen ≡ o → closed_by o (drained_of settings k v) ≡ Some m → SawFrozen (course_of h item) v
      by (Some u) is closing = (n, u, seen.1, is)
      by None is closing = absurd (new (ap (λ (o : Option ℕ). closed_by o (drained_of settings k v)) (thawed_before h v n below is) ∙ closing))

  -- a put that a freeze of the block refused
  put_frozen : (pair : Pair) (size v m : ℕ) (refused : List Refused) → v < settings.volumes → PutRefused (course_of h item) pair size refused
      → Contains refused (Closed v m) → closed settings k v ≢ Some m → SawFrozen (course_of h item) v
  put_frozen pair size v m refused below did at new =
      let c = course_of h item in
      let sees = refusal_seen c pair size (Closed v m) refused did at in
      let is = refused_closed c size sees.0 v m (sees.1).moment (sees.1).is in
      closing_frozen v (sees.1).moment m below (subst (λ (w : ℕ). IsMoment c w (sees.1).moment) is.0 (sees.1).seen) new
      (subst (λ (w : ℕ). closing_then c w (sees.1).moment ≡ Some m) is.0 is.1)

  home_frozen : (pair : Pair) (v m : ℕ) (tries : List ClosedBy) → v < settings.volumes → HomeIsClosed (course_of h item) pair tries
      → Contains (map as_closed tries) (Closed v m) → closed settings k v ≢ Some m → SawFrozen (course_of h item) v
  home_frozen pair v m [] below did at new = absurd did
  home_frozen pair v m (by ∷ []) below did at new =
      let c = course_of h item in
      let same : as_closed by ≡ Closed v m = one_in (as_closed by) (Closed v m) at in
      let volume : by.volume ≡ v = ap volume_named same in
      let machine : by.machine ≡ m = ap machine_named same in
      closing_frozen v (did.1).moment m below (subst (λ (w : ℕ). IsMoment c w (did.1).moment) volume (did.1).seen) new
      (subst (λ (w : ℕ). closing_then c w (did.1).moment ≡ Some m) volume ((did.1).is ∙ ap Some machine))
  home_frozen pair v m (by ∷ more ∷ rest) below did at new = absurd did

  -- a flush that was refused, but not as one of a stuck index
  flush_frozen : (u m v : ℕ) (o : Option ℕ) (tries : List ClosedBy) → replica_on settings u m ≡ o → FlushDid (course_of h item) u m o (reply.ReadOnly tries)
      → (by : ClosedBy) × Contains tries by × (by.volume ≡ v) → ((j : ℕ) → o ≡ Some j → MayBeStuck k items u m j tries → ⊥)
      → SawFrozen (course_of h item) v
  flush_frozen u m v None tries there did names never = absurd did
  flush_frozen u m v (Some j) tries there did names never = elim did.0 [
    | inl frozen ↦ met_frozen_by (course_of h item) u v tries frozen names
    | inr stuck ↦
        let on = on_machine settings u m j there in
        absurd (never j refl (is_stuck u m j tries on.0 on.2 stuck))
  ]

  freeze_as : (line lane v : ℕ) (request : Command) (r : Reply) → v < settings.volumes → CommandDid (course_of h item) request r
      → MetFreeze settings k items v (line_of line lane (asks.Command request) r) → SawFrozen (course_of h item) v
  freeze_as line lane v (command.Put pair bytes) (reply.Full refused) below did met = put_frozen pair (length bytes) v met.0 refused below did.0 met.1 met.2
  freeze_as line lane v (command.Put pair bytes) (reply.ReadOnly tries) below did met =
      put_frozen pair (length bytes) v met.0 (map as_closed tries) below did met.1 met.2
  freeze_as line lane v (command.Del pair) (reply.ReadOnly tries) below did met = home_frozen pair v met.0 tries below did.0 met.1 met.2
  freeze_as line lane v (command.Compact u m) (reply.ReadOnly tries) below did met =
      compact_on_frozen (course_of h item) u m v (replica_on settings u m) tries did met.1
  freeze_as line lane v (command.Flush u m) (reply.ReadOnly tries) below did met =
      flush_frozen u m v (replica_on settings u m) tries refl did (met.0).1 met.1
  freeze_as line lane v request r below did met = absurd met

  -- a line that met a freeze of the block saw it
  pub met_freeze : (line lane v : ℕ) (asked : Item) (r : Reply) → v < settings.volumes → ItemDid (course_of h item) asked r
      → MetFreeze settings k items v (line_of line lane asked r) → SawFrozen (course_of h item) v
  met_freeze line lane v (asks.Command request) r below did met = freeze_as line lane v request r below did met
  met_freeze line lane v asks.Bad r below did met = absurd met

  -- a flush that no freeze refused met its volume thawed
  stuck_thawed : (u m v : ℕ) (o : Option ℕ) (by : ClosedBy) → v < settings.volumes → FlushDid (course_of h item) u m o (reply.ReadOnly (by ∷ []))
      → by.volume ≡ v → (volume_at t v).frozen ≢ Some by.machine → SawThawed (course_of h item) v
  stuck_thawed u m v None by below did is other = absurd did
  stuck_thawed u m v (Some j) by below did is other = elim did.0 [
    | inl frozen ↦
        let sees = subst (λ (w : ℕ). SeesFrozen (course_of h item) w by.machine) (sym frozen.0 ∙ is) frozen.1 in
        absurd (other (frozen_on h v sees.moment by.machine below sees.is))
    | inr stuck ↦
        let thawed : SawThawed (course_of h item) u = ((stuck.1).0, ((stuck.1).1).0, (stuck.1).2) in
        subst (SawThawed (course_of h item)) (sym (stuck.0).0 ∙ is) thawed
  ]

  pub as_stuck_thawed : (line lane v : ℕ) (asked : Item) (r : Reply) → v < settings.volumes → ItemDid (course_of h item) asked r
      → RefusedAsStuck t v (line_of line lane asked r) → SawThawed (course_of h item) v
  as_stuck_thawed line lane v (asks.Command (command.Flush u m)) (reply.ReadOnly (by ∷ [])) below did met =
      stuck_thawed u m v (replica_on settings u m) by below did met.0 met.1
  as_stuck_thawed line lane v asked r below did met = absurd met

-- OPEN VOLUMES

module _ {settings : Settings} {k : Known} {items : List LaneItem} {history : History} {t : Known} (h : CameInLanes settings k items history t) (item : LaneItem)
    (among : Contains items item) where
  -- a line's steps are behind what its lane had seen
  since : (v : ℕ) (at : ℕ × Step) → Contains (own (course_of h item) v) at → ((course_of h item).from).volumes v ≤ at.0
  since v at mine =
      (each_in (λ (x : ℕ × Step). (((course_of h item).from).volumes v ≤ x.0) × (x.0 < ((course_of h item).to).volumes v)) (own (course_of h item) v) at
      ((answered h item among).steps v) mine).0

  since_one : (v : ℕ) (did : Did) (one : OneStep (course_of h item) v did) → ((course_of h item).from).volumes v ≤ one.place
  since_one v did one =
      since v (one.place, one.step) (one_own (course_of h item) v did one)

  since_try : (v : ℕ) (one : OneTry (course_of h item) v) → ((course_of h item).from).volumes v ≤ one.place
  since_try v one = since v (one.place, one.step) one.among

  -- a step that finds its volume thawed
  one_thawed : (v : ℕ) (did : Did) → v < settings.volumes → (one : OneStep (course_of h item) v did)
      → ((a b : Standing) → Leads settings v (tag_of item) did a b → IsThawed a) → SawThawed (course_of h item) v
  one_thawed v did below one thaws =
      (one.place, since_one v did one, thaws (standing (course_of h item) v one.place) (standing (course_of h item) v (one.place + 1)) (one_leads h item v did below among one))

  last_thawed : (v j : ℕ) (did : Did) → v < settings.volumes → (to : RanAs (course_of h item) v j did)
      → ((a b : Standing) → Leads settings v (tag_of item) did a b → IsThawed a) → SawThawed (course_of h item) v
  last_thawed v j did below to thaws =
      let at : ℕ × Step = (to.place, to.step) in
      let mine : Contains (own (course_of h item) v) at = last_step (course_of h item) v j did to in (
        to.place,
        since v at mine,
        thaws (standing (course_of h item) v to.place) (standing (course_of h item) v (to.place + 1))
            (subst (λ (d : Did). Leads settings v (tag_of item) d (standing (course_of h item) v to.place) (standing (course_of h item) v (to.place + 1))) to.is
            (own_leads h item v below among at mine).0),
      )

  thawed_at : (v n : ℕ) → ((course_of h item).from).volumes v ≤ n → closing_then (course_of h item) v n ≡ None → SawThawed (course_of h item) v
  thawed_at v n low opened = (n, low, (thawed_of (volume_then (course_of h item) v n).frozen (drained_of settings k v) opened).0)

  put_open : (pair : Pair) (bytes : List ℕ) (r : Reply) (v : ℕ) → PutDid (course_of h item) pair bytes r → MetOpen v r → SawThawed (course_of h item) v
  put_open pair bytes (reply.Stored u p d cookie) v did met =
      subst (SawThawed (course_of h item)) met (one_thawed u (Entered (entry.Put pair cookie bytes)) did.below did.step (λ a b leads. leads.0))
  put_open pair bytes (reply.Full refused) v did met =
      let c = course_of h item in
      let size : ℕ = length bytes in
      let sees = refusal_seen c pair size (NoRoom v met.0 met.1 met.2) refused did.0 met.3 in
      let is = refused_room c size sees.0 v met.0 met.1 met.2 (sees.1).moment (sees.1).is in
      subst (SawThawed c) is.0 (thawed_at sees.0 (sees.1).moment ((sees.1).seen).0 is.1)
  put_open pair bytes (reply.Failed u m f) v did met =
      subst (SawThawed (course_of h item)) met (one_thawed u (Pends m (put_entry settings pair bytes) true) did.below did.step (λ a b leads. leads.0))
  put_open pair bytes r v did met = search

  del_open : (pair : Pair) (r : Reply) (v : ℕ) → DelDid (course_of h item) pair r → MetOpen v r → SawThawed (course_of h item) v
  del_open pair (reply.Deleted u p d) v did met =
      subst (SawThawed (course_of h item)) met (one_thawed u (Entered (entry.Del pair)) did.below did.step (λ a b leads. leads.0))
  del_open pair (reply.Absent u p d) v did met = subst (SawThawed (course_of h item)) met (thawed_at u did.moment (did.seen).0 did.«open»)
  del_open pair (reply.Failed u m f) v did met =
      subst (SawThawed (course_of h item)) met (elim did.which [
        | inl try ↦ thawed_at u (try.0).place (since_try u try.0) (try.1).0
        | inr one ↦ thawed_at u (one.0).place (since_one u (Pends m (entry.Del pair) true) one.0) (one.1).0
      ])
  del_open pair r v did met = search

  flush_open : (u m : ℕ) (o : Option ℕ) (r : Reply) (v : ℕ) → replica_on settings u m ≡ o → FlushDid (course_of h item) u m o r → MetOpen v r → SawThawed (course_of h item) v
  flush_open u m None reply.NoMem v there did met = absurd met
  flush_open u m None r v there did met = search
  flush_open u m (Some j) (reply.Flushed u' m' n) v there did met =
      subst (SawThawed (course_of h item)) (sym (did.0).0 ∙ met) (one_thawed u (Flushes j) (on_machine settings u m j there).0 (did.1).step (λ a b leads. leads.0))
  flush_open u m (Some j) (reply.Failed u' m' f) v there did met =
      subst (SawThawed (course_of h item)) (sym (did.0).0 ∙ met) (one_thawed u (Sticks j) (on_machine settings u m j there).0 (did.1).step (λ a b leads. leads.0))
  flush_open u m (Some j) reply.NoMem v there did met = absurd met
  flush_open u m (Some j) r v there did met = search

  failed_open : (u m j f : ℕ) → u < settings.volumes → CompactFailed (course_of h item) u m j f → SawThawed (course_of h item) u
  failed_open u m j f below (inl began) = ((began.step).place, since_try u began.step, began.thawed)
  failed_open u m j f below (inr (inl ends)) = last_thawed u j (Ends j) below ends.0 (λ a b leads. leads.0)
  failed_open u m j f below (inr (inr (inl poises))) = last_thawed u j (Poises m j) below poises.0 (λ a b leads. leads.0)
  failed_open u m j f below (inr (inr (inr until))) = ((until.ran).until + 1, ((until.ran).seen).0, until.thawed)

  pub compact_open : (u m : ℕ) (o : Option ℕ) (r : Reply) (v : ℕ) → replica_on settings u m ≡ o → CompactDid (course_of h item) u m o r → MetOpen v r → SawThawed (course_of h item) v
  compact_open u m None reply.NoMem v there did met = absurd met
  compact_open u m None r v there did met = search
  compact_open u m (Some j) (reply.Compacted u' m' g) v there did met =
      let done = did.1 in
      subst (SawThawed (course_of h item)) (sym (did.0).0 ∙ met)
      (last_thawed u j (Swaps j done.0 done.1 false) (on_machine settings u m j there).0 done.2 (λ a b leads. leads.0))
  compact_open u m (Some j) (reply.Busy u' m' g) v there did met = let seen = did.2 in subst (SawThawed (course_of h item)) (sym (did.0).0 ∙ met) (seen.0, (seen.1).0, seen.2)
  compact_open u m (Some j) (reply.Worn u' m') v there did met = let seen = did.2 in subst (SawThawed (course_of h item)) (sym (did.0).0 ∙ met) (seen.0, (seen.1).0, seen.2)
  compact_open u m (Some j) (reply.Failed u' m' f) v there did met =
      subst (SawThawed (course_of h item)) (sym (did.0).0 ∙ met) (failed_open u m j f (on_machine settings u m j there).0 did.1)
  compact_open u m (Some j) reply.NoMem v there did met = absurd met
  compact_open u m (Some j) r v there did met = search

  show_open : (start : ℕ) (pair : Pair) (cookie : Cookie) (r : Reply) (v : ℕ) → ShowDid (course_of h item) start pair cookie r → MetOpen v r → SawThawed (course_of h item) v
  show_open start pair cookie reply.NoMem v did met = absurd met
  show_open start pair cookie r v did met = search

  get_open : (url : UrlParts) (o : Option ℕ) (r : Reply) (v : ℕ) → GetDid (course_of h item) url o r → MetOpen v r → SawThawed (course_of h item) v
  get_open url None reply.NoMem v did met = absurd met
  get_open url None r v did met = search
  get_open url (Some start) (reply.Moved u d) v did met = absurd met
  get_open url (Some start) reply.NoMem v did met = absurd met
  get_open url (Some start) r v did met = show_open start url.pair url.cookie r v did.0 met

  url_open : (pair : Pair) (r : Reply) (v : ℕ) → UrlDid (course_of h item) pair r → MetOpen v r → SawThawed (course_of h item) v
  url_open pair reply.NoMem v did met = absurd met
  url_open pair r v did met = search

  command_open : (request : Command) (r : Reply) (v : ℕ) → CommandDid (course_of h item) request r → MetOpen v r → SawThawed (course_of h item) v
  command_open (command.Put pair bytes) r v did met = put_open pair bytes r v did met
  command_open (command.Read pair cookie) r v did met = show_open (start_of settings (tag_of item)) pair cookie r v did met
  command_open (command.Get url) r v did met = get_open url (replica_on settings url.volume url.machine) r v did met
  command_open (command.Del pair) r v did met = del_open pair r v did met
  command_open (command.Url pair) r v did met = url_open pair r v did met
  command_open (command.Flush u m) r v did met = flush_open u m (replica_on settings u m) r v refl did met
  command_open (command.Compact u m) r v did met = compact_open u m (replica_on settings u m) r v refl did met
  command_open _ r v did met = absurd did

  -- a line that met a volume open saw it thawed
  pub met_open : (asked : Item) (r : Reply) (v : ℕ) → ItemDid (course_of h item) asked r → MetOpen v r → SawThawed (course_of h item) v
  met_open (asks.Command request) r v did met = command_open request r v did met
  met_open asks.Bad r v did met = absurd (subst (MetOpen v) did.0 met)

-- LANES

-- the step in which a line froze a volume
pub record FrozeAt (c : Course) (v : ℕ) : Type 0 where
  pub place : ℕ
  pub step : Step
  pub mine : Contains (own c v) (place, step)
  pub stands : ((c.from).volumes v ≤ place) × (place < (c.to).volumes v)
  pub thawed : (volume_then c v place).frozen ≡ None
  pub machine : ℕ
  pub frozen : (volume_then c v (place + 1)).frozen ≡ Some machine

-- the line that froze a volume, if one did, has such a step
abbrev pub FrostSeen : {settings : Settings} {k : Known} {items : List LaneItem} {history : History} {t : Known} → CameInLanes settings k items history t → ℕ → Option LaneItem → Type 0
FrostSeen {items = items} h v froze = (item : LaneItem) → froze ≡ Some item → Contains items item × FrozeAt (course_of h item) v
