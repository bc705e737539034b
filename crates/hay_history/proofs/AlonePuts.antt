-- A line alone that puts a photo is legal as a plain turn.
use Rattle.std.proofs.Common.{◌≡◌, inl, inr, ℕ, suc, ◌+◌, ◌<◌, Bool, true, false, cond, List, [], ◌∷◌, ◌++◌, length, map, take, Contains, Option, Some, None, is_none, refl, sym}
use Rattle.std.proofs.Common.{ap, ap₂, subst, ◌∙◌, arith}
use Rattle.std.specs.Prelude.{◌≢◌, ◌==◌, find, not, take_while}
use Rattle.std.specs.List.{AllByRecursion as Each, AllZip, prefix_len}
use Rattle.std.proofs.lemmas.Bool.{cases_eq, cases_lt, ne_eqb}
use Rattle.std.proofs.lemmas.Option.{none-some, same_Some}
use Rattle.hay_needle.specs.declared.needle.Pair.{Pair}
use Rattle.hay_needle.specs.declared.needle.Cookie.{Cookie}
use Rattle.hay_needle.specs.declared.settings.Settings.{Settings}
use Rattle.hay_core.specs.declared.entry.Entry.TheVariants as entry
use Rattle.hay_reply.specs.declared.Refused.{Refused}
use Rattle.hay_reply.specs.declared.Reply.{Reply}
use Rattle.hay_reply.specs.declared.Reply.TheVariants as reply
use Rattle.hay_legal.specs.declared.known.DirKnown.{DirKnown}
use Rattle.hay_legal.specs.declared.known.HomeRow.{HomeRow}
use Rattle.hay_legal.specs.declared.known.Known.{Known}
use Rattle.hay_legal.specs.declared.known.VolumeKnown.{VolumeKnown}
use Rattle.hay_legal.specs.declared.turn.LaneItem.{LaneItem}
use Rattle.hay_legal.specs.Known.{Leaves, all_tries, closed_by, drained_of, home_in, home_of, refusal_by, refusal_of, room_refusal_of, settled_by, taker_of, tries_by, volume_at, with_home}
use Rattle.hay_legal.specs.Plain.{DirectoryOpen, IsStored, LegalPut, PutFailed as LegalFailed, PutNoMem, RefusedBy, RowFailed, as_closed, change_volume, first_machine}
use Rattle.hay_legal.specs.Plain.{frozen_with, put_entry, put_frozen, row_pending, with_put}
use Rattle.hay_legal.specs.Blocks.{tag_of}
use Rattle.hay_legal.proofs.Subject.Effects.{each_try, home_added}
use Rattle.hay_history.specs.LaneSteps.{Did, IsMissing}
use Rattle.hay_history.specs.LaneSteps.Did.{Entered, Pends}
use Rattle.hay_history.specs.LaneSteps.RowDid.{AddsRow, PendsRow}
use Rattle.hay_history.specs.Histories.{History, NoRows, NoSteps, OneStep, OnlyOn, SeesHome, SeesRefusal, SeesTaker, changes, refusal_then, rows_standing, volume_then}
use Rattle.hay_history.specs.Commands.{AddedRow, CameInLanes, HomeRefuses, MayAddRow, PutDid, PutFailed, PutRefused, PutRowFailed, PutStored, PutWanting, RowPends, SeesRefusals}
use Rattle.hay_history.proofs.Alone.{leaves_as, left_one, left_still, many_changed, one_led, one_row_led, rose_to, row_rose_to, rows_left_one, rows_left_still, rows_still}
use Rattle.hay_history.proofs.Alone.{rows_still_before, rows_still_behind, still, still_before, volumes_changed}
use Rattle.hay_history.proofs.AloneReads.{home_seen, nothing_left}
use Rattle.hay_history.proofs.Beside.{block_drains, block_fuses}
use Rattle.hay_history.proofs.Lines.{course_of}
use Rattle.hay_history.proofs.Lists.{first_or_rest, in_rest, is_first, none_in, zip_weaker}
use Rattle.hay_history.proofs.Placing.{on_machine}
use Rattle.hay_history.proofs.Rows.{home_below}

-- LISTS

-- what is found first: each before it fails
find_first : (test : ℕ → Bool) (Q : ℕ → Type 0) (v : ℕ) (xs : List ℕ) → Contains xs v → test v ≡ true → ((u : ℕ) → u ≢ v → Contains xs u → Q u → test u ≡ false)
    → Each Q (take_while (λ u. not (u == v)) xs) → find test xs ≡ Some v
find_first test Q v [] among passes fails before = absurd (none_in v among)
find_first test Q v (x ∷ xs) among passes fails before = elim (cases_eq x v) [
  | inl same ↦ subst (λ (y : ℕ). find test (y ∷ xs) ≡ Some v) (sym same) (rw passes refl)
  | inr other ↦
      let goes : not (x == v) ≡ true = ap not (ne_eqb x v other) in
      let more : 1 + prefix_len (λ u. not (u == v)) xs ≡ suc (prefix_len (λ u. not (u == v)) xs) = omega arith in
      let taken : take_while (λ u. not (u == v)) (x ∷ xs) ≡ x ∷ take_while (λ u. not (u == v)) xs =
      ap (λ (b : Bool). take (cond b (1 + prefix_len (λ u. not (u == v)) xs) 0) (x ∷ xs)) goes ∙ ap (λ (n : ℕ). take n (x ∷ xs)) more in
      let rest = subst (Each Q) taken before in
      let failed : test x ≡ false = fails x other (is_first x xs) rest.0 in
      let later : Contains xs v = elim (first_or_rest x xs v among) [ inl same ↦ absurd (other same) | inr later ↦ later ] in
      rw failed (find_first test Q v xs later passes (λ u apart at. fails u apart (in_rest x xs u at)) rest.1)
]

zip_map : {A B : Type 0} (f : A → Option B) (xs : List A) (ys : List B) → AllZip (λ x y. f x ≡ Some y) xs ys → map f xs ≡ map Some ys
zip_map f [] [] zip = refl
zip_map f [] (y ∷ ys) zip = absurd zip
zip_map f (x ∷ xs) [] zip = absurd zip
zip_map f (x ∷ xs) (y ∷ ys) zip = ap₂ ◌∷◌ zip.0 (zip_map f xs ys zip.1)

module _ {settings : Settings} {k : Known} {history : History} {t : Known} (item : LaneItem) (h : CameInLanes settings k (item ∷ []) history t) where
  -- REFUSALS

  refusal_at : (v n size : ℕ) → volume_then (course_of h item) v n ≡ volume_at k v → refusal_then (course_of h item) v n size ≡ refusal_of settings k size v
  refusal_at v n size same =
      ap (λ (x : VolumeKnown). refusal_by v (closed_by x.frozen (drained_of settings k v)) (room_refusal_of settings v x size)) same

  refuses : (size v : ℕ) (refused : Refused) → v < settings.volumes → changes (course_of h item) v ≡ [] → SeesRefusal (course_of h item) size v refused
      → refusal_of settings k size v ≡ Some refused
  refuses size v refused below none sees = sym (refusal_at v sees.moment size (still item h v sees.moment below none)) ∙ sees.is

  -- THE TAKER

  -- a volume that a line saw take a photo of a pair without a home, and that does so where it changed no other
  first_taker : (pair : Pair) (size v : ℕ) → home_of k pair ≡ None → SeesTaker (course_of h item) pair size v → refusal_of settings k size v ≡ None
      → OnlyOn (course_of h item) v → taker_of settings k pair size ≡ Some v
  first_taker pair size v missing sees takes elsewhere =
      subst (λ (home : Option ℕ). find (λ u. is_none (refusal_of settings k size u)) (tries_by settings pair home) ≡ Some v) (sym missing)
      (find_first (λ u. is_none (refusal_of settings k size u)) (λ u. (refused : Refused) × SeesRefusal (course_of h item) size u refused) v (all_tries settings pair)
      sees.tried (ap is_none takes)
      (λ u other at refused. ap is_none (refuses size u refused.0 (each_try settings pair u at) (elsewhere u other) refused.1))
      sees.before)

  home_taker : (pair : Pair) (size v : ℕ) → home_of k pair ≡ Some v → refusal_of settings k size v ≡ None → taker_of settings k pair size ≡ Some v
  home_taker pair size v home takes =
      subst (λ (home : Option ℕ). find (λ u. is_none (refusal_of settings k size u)) (tries_by settings pair home) ≡ Some v) (sym home)
      (rw (ap is_none takes) refl)

  taker_below : (pair : Pair) (size v : ℕ) → SeesTaker (course_of h item) pair size v → v < settings.volumes
  taker_below pair size v sees = each_try settings pair v sees.tried

  taker_takes : (pair : Pair) (size v : ℕ) → NoSteps (course_of h item) → SeesTaker (course_of h item) pair size v → refusal_of settings k size v ≡ None
  taker_takes pair size v none sees =
      sym (refusal_at v sees.moment size (still item h v sees.moment (taker_below pair size v sees) (none v))) ∙ sees.takes

  -- ROWS

  -- what a row that the line added, or left pending, found
  missing_at : (place : ℕ) (row : HomeRow) (pair : Pair) → row.pair ≡ pair → (rows_standing (course_of h item) place).directory ≡ k.directory
      → IsMissing (rows_standing (course_of h item) place) row → (k.directory.frozen ≡ false) × (home_of k pair ≡ None)
  missing_at place row pair own same missing = (
    sym (ap (λ (x : DirKnown). x.frozen) same) ∙ missing.0,
    subst (λ (p : Pair). home_of k p ≡ None) own (sym (ap (λ (x : DirKnown). home_in x.rows row.pair) same) ∙ missing.1),
  )

  pub record RowAdded (pair : Pair) (v : ℕ) : Type 0 where
    pub missing : home_of k pair ≡ None
    pub thawed : k.directory.frozen ≡ false
    pub directory : t.directory ≡ (with_home k pair v).directory

  with_missing : (pair : Pair) (v : ℕ) → home_of k pair ≡ None
      → (with_home k pair v).directory ≡ record k.directory { rows = k.directory.rows ++ record { pair = pair; volume = v } ∷ [] }
  with_missing pair v missing = ap (λ (home : Option ℕ). record k.directory { rows = settled_by k.directory.rows pair v home }) missing

  row_added : (pair : Pair) (size : ℕ) (added : AddedRow (course_of h item) pair size) → RowAdded pair (added.row).volume
  row_added pair size added =
      let one = added.step in
      let led = one_row_led item h (AddsRow added.row) one in
      let same = rows_still_before item h one.place (AddsRow added.row) one (omega arith) in
      let found = missing_at one.place added.row pair added.own_pair same led.0 in
      let row_is : added.row ≡ record { pair = pair; volume = (added.row).volume } =
      ap (λ (p : Pair). record { pair = p; volume = (added.row).volume }) added.own_pair in
      record {
        missing = found.1;
        thawed = found.0;
        directory = rows_left_one item h (AddsRow added.row) one ∙ led.1
            ∙ ap (λ (x : DirKnown). record x { rows = x.rows ++ added.row ∷ [] }) same
            ∙ ap (λ (row : HomeRow). record k.directory { rows = k.directory.rows ++ row ∷ [] }) row_is
            ∙ sym (with_missing pair (added.row).volume found.1);
      }

  -- The home that a put saw, which its pair had, or for which it added a row.
  pub record SettledAt (pair : Pair) (size d v : ℕ) : Type 0 where
    pub directory : t.directory ≡ (with_home k pair v).directory
    pub «open» : DirectoryOpen k pair
    pub front : d ≡ length t.directory.rows
    pub taker : refusal_of settings k size v ≡ None → OnlyOn (course_of h item) v → taker_of settings k pair size ≡ Some v

  settled_before : (pair : Pair) (size d v : ℕ) → NoRows (course_of h item) → SeesHome (course_of h item) pair d (Some v) → SettledAt pair size d v
  settled_before pair size d v none sees =
      let home = home_seen item h pair d (Some v) none sees in
      let same : t.directory ≡ k.directory = rows_left_still item h none in
      record {
        directory = same ∙ sym (ap (λ (home : Option ℕ). record k.directory { rows = settled_by k.directory.rows pair v home }) home.0);
        «open» = λ missing. absurd (none-some v (sym missing ∙ home.0));
        front = home.1 ∙ sym (ap (λ (x : DirKnown). length x.rows) same);
        taker = λ takes elsewhere. home_taker pair size v home.0 takes;
      }

  -- the home that a line sees which added the row is that of the row
  added_home : (pair : Pair) (size d v : ℕ) (added : AddedRow (course_of h item) pair size) → SeesHome (course_of h item) pair d (Some v)
      → ((added.row).volume ≡ v) × (d ≡ length t.directory.rows)
  added_home pair size d v added sees =
      let one = added.step in
      let row = row_added pair size added in
      elim (cases_lt one.place sees.moment) [
        | inr early ↦
            let same = rows_still_before item h sees.moment (AddsRow added.row) one (omega (arith, early)) in
            absurd (none-some v (sym row.missing ∙ sym (ap (λ (x : DirKnown). home_in x.rows pair) same) ∙ sees.is))
        | inl late ↦
            let last : (rows_standing (course_of h item) sees.moment).directory ≡ t.directory =
            rows_still_behind item h sees.moment (AddsRow added.row) one late ∙ sym (rows_left_one item h (AddsRow added.row) one) in
            let home : home_in t.directory.rows pair ≡ Some (added.row).volume =
            ap (λ (x : DirKnown). home_in x.rows pair) (row.directory ∙ with_missing pair (added.row).volume row.missing)
            ∙ home_added k.directory.rows pair (added.row).volume row.missing in (
              same_Some (added.row).volume v (sym home ∙ sym (ap (λ (x : DirKnown). home_in x.rows pair) last) ∙ sees.is),
              sees.front ∙ ap (λ (x : DirKnown). length x.rows) last,
            )
      ]

  settled_now : (pair : Pair) (size d v : ℕ) → AddedRow (course_of h item) pair size → SeesHome (course_of h item) pair d (Some v) → SettledAt pair size d v
  settled_now pair size d v added sees =
      let home = added_home pair size d v added sees in
      let row = subst (RowAdded pair) home.0 (row_added pair size added) in
      record {
        directory = row.directory;
        «open» = λ missing. row.thawed;
        front = home.1;
        taker = λ takes elsewhere. first_taker pair size v row.missing (subst (SeesTaker (course_of h item) pair size) home.0 added.taker) takes elsewhere;
      }

  settled_at : (pair : Pair) (size d v : ℕ) → MayAddRow (course_of h item) pair size → SeesHome (course_of h item) pair d (Some v) → SettledAt pair size d v
  settled_at pair size d v (inl none) sees = settled_before pair size d v none sees
  settled_at pair size d v (inr added) sees = settled_now pair size d v added sees

  -- THE CHANGE

  -- a put that changed its home leaves this
  put_left : (pair : Pair) (size d v : ℕ) (did : Did) (change : VolumeKnown → VolumeKnown) → v < settings.volumes → OnlyOn (course_of h item) v
      → (one : OneStep (course_of h item) v did) → SettledAt pair size d v → volume_then (course_of h item) v (one.place + 1) ≡ change (volume_at k v)
      → Leaves k (with_home (change_volume k v change) pair v) t
  put_left pair size d v did change below elsewhere one settled here =
      leaves_as item h (with_home (change_volume k v change) pair v) (many_changed item h v change)
      (volumes_changed item h v change below (left_one item h v did below one ∙ here) (λ u within other. left_still item h u within (elsewhere u other)))
      settled.directory (block_drains h) (block_fuses h)

  room_before : (v size : ℕ) (did : Did) → v < settings.volumes → (one : OneStep (course_of h item) v did) → refusal_then (course_of h item) v one.place size ≡ None
      → refusal_of settings k size v ≡ None
  room_before v size did below one room = sym (refusal_at v one.place size (still_before item h v one.place did below one (omega arith))) ∙ room

  stored : (pair : Pair) (bytes : List ℕ) (v p d : ℕ) (cookie : Cookie) → PutStored (course_of h item) pair bytes v p d cookie
      → IsStored settings k (tag_of item) pair bytes v p d cookie t
  stored pair bytes v p d cookie did =
      let e : Did = Entered (entry.Put pair cookie bytes) in
      let settled = settled_at pair (length bytes) d v did.row did.home in
      let before : volume_then (course_of h item) v (did.step).place ≡ volume_at k v = still_before item h v (did.step).place e did.below did.step (omega arith) in
      let led = one_led item h v e did.below did.step in
      record {
        taker = settled.taker (room_before v (length bytes) e did.below did.step did.room) did.elsewhere;
        directory = settled.«open»;
        own = did.own_cookie;
        position = did.position ∙ ap (λ (x : VolumeKnown). length x.log + 1) before;
        rows = settled.front;
        leaves = put_left pair (length bytes) d v e (λ volume. with_put volume (tag_of item) pair cookie bytes) did.below did.elsewhere did.step settled
            (led.1 ∙ ap (λ (x : VolumeKnown). with_put x (tag_of item) pair cookie bytes) before);
      }

  pended : (pair : Pair) (bytes : List ℕ) (d v m : ℕ) (failed : Bool) → v < settings.volumes → OnlyOn (course_of h item) v
      → (one : OneStep (course_of h item) v (Pends m (put_entry settings pair bytes) failed)) → SettledAt pair (length bytes) d v
      → Leaves k (put_frozen settings k (tag_of item) pair bytes v m failed) t
  pended pair bytes d v m failed below elsewhere one settled =
      let e : Did = Pends m (put_entry settings pair bytes) failed in
      put_left pair (length bytes) d v e (frozen_with m (tag_of item) (put_entry settings pair bytes) failed) below elsewhere one settled
      ((one_led item h v e below one).1
      ∙ ap (frozen_with m (tag_of item) (put_entry settings pair bytes) failed) (still_before item h v one.place e below one (omega arith)))

  put_failed : (pair : Pair) (bytes : List ℕ) (v m f : ℕ) → PutFailed (course_of h item) pair bytes v m f → LegalFailed settings k (tag_of item) pair bytes v m f t
  put_failed pair bytes v m f did =
      let settled = settled_at pair (length bytes) did.d v did.row did.home in
      let replica : ℕ = (did.failed).0 in
      let on = on_machine settings v m replica (did.failed).1 in
      record {
        taker = settled.taker (room_before v (length bytes) (Pends m (put_entry settings pair bytes) true) did.below did.step did.room) did.elsewhere;
        directory = settled.«open»;
        replica = replica;
        there = (did.failed).1;
        rose = rose_to item h v replica (did.step).place f did.below on.1 (did.failed).2 (did.failed).3;
        leaves = pended pair bytes did.d v m true did.below did.elsewhere did.step settled;
      }

  -- A ROW THAT IS PENDING

  pub record RowLeft (pair : Pair) (size v : ℕ) : Type 0 where
    pub missing : home_of k pair ≡ None
    pub thawed : k.directory.frozen ≡ false
    pub taker : taker_of settings k pair size ≡ Some v
    pub leaves : Leaves k (row_pending k (tag_of item) pair v) t

  row_left : (pair : Pair) (size : ℕ) → NoSteps (course_of h item) → (pends : RowPends (course_of h item) pair size) → RowLeft pair size pends.v
  row_left pair size none pends =
      let row : HomeRow = record { pair = pair; volume = pends.v } in
      let one = pends.step in
      let led = one_row_led item h (PendsRow row) one in
      let same = rows_still_before item h one.place (PendsRow row) one (omega arith) in
      let found = missing_at one.place row pair refl same led.0 in
      record {
        missing = found.1;
        thawed = found.0;
        taker = first_taker pair size pends.v found.1 pends.taker (taker_takes pair size pends.v none pends.taker) (λ u other. none u);
        leaves = leaves_as item h (row_pending k (tag_of item) pair pends.v) refl (λ u within. left_still item h u within (none u))
            (rows_left_one item h (PendsRow row) one ∙ led.1
            ∙ ap (λ (x : DirKnown). record x { frozen = true; pending = Some (record { tag = tag_of item; row = row }) }) same)
            (block_drains h) (block_fuses h);
      }

  row_failed : (pair : Pair) (bytes : List ℕ) (f : ℕ) → PutRowFailed (course_of h item) pair (length bytes) f → RowFailed settings k (tag_of item) pair bytes f t
  row_failed pair bytes f did =
      let left = row_left pair (length bytes) did.nothing did.pends in
      let rose = row_rose_to item h ((did.pends).step).place f did.rose did.printed did.last in
      record {
        needs = record { volume = (did.pends).v; missing = left.missing; taker = left.taker };
        before = left.thawed;
        count = rose.0;
        rose = rose.1;
        leaves = left.leaves;
      }

  -- WANT OF MEMORY

  row_alone : (pair : Pair) (bytes : List ℕ) → NoSteps (course_of h item) → AddedRow (course_of h item) pair (length bytes) → PutNoMem settings k (tag_of item) pair bytes t
  row_alone pair bytes none added =
      let v : ℕ = (added.row).volume in
      let row = row_added pair (length bytes) added in
      inr (
        v,
        first_taker pair (length bytes) v row.missing added.taker (taker_takes pair (length bytes) v none added.taker) (λ u other. none u),
        (λ missing. row.thawed),
        inl (leaves_as item h (with_home k pair v) refl (λ u within. left_still item h u within (none u)) row.directory (block_drains h) (block_fuses h)),
      )

  put_wanting : (pair : Pair) (bytes : List ℕ) → PutWanting (course_of h item) pair bytes → PutNoMem settings k (tag_of item) pair bytes t
  put_wanting pair bytes (inl pends) =
      let left = row_left pair (length bytes) pends.0 pends.1 in
      inr ((pends.1).v, left.taker, (λ missing. left.thawed), inr (inl (left.missing, left.leaves)))
  put_wanting pair bytes (inr (inl rows, inl none)) = inl (nothing_left item h (none, rows))
  put_wanting pair bytes (inr (inr added, inl none)) = row_alone pair bytes none added
  put_wanting pair bytes (inr (row, inr left)) =
      let settled = settled_at pair (length bytes) left.d left.v row left.home in
      let below = home_below h item pair left.d left.v left.home in
      let m : ℕ = first_machine settings left.v in
      inr (
        left.v,
        settled.taker (room_before left.v (length bytes) (Pends m (put_entry settings pair bytes) false) below left.step left.takes) left.elsewhere,
        settled.«open»,
        inr (inr (pended pair bytes left.d left.v m false below left.elsewhere left.step settled)),
      )

  -- REFUSED PUTS

  tries_refused : (pair : Pair) (bytes : List ℕ) (refused : List Refused) → NoSteps (course_of h item) → NoRows (course_of h item)
      → SeesRefusals (course_of h item) pair (length bytes) refused → RefusedBy settings k pair bytes refused
  tries_refused pair bytes refused none rows sees =
      let missing = (home_seen item h pair (sees.0).0 None rows (sees.0).1).0 in
      subst (λ (home : Option ℕ). map (refusal_of settings k (length bytes)) (tries_by settings pair home) ≡ map Some refused) (sym missing)
      (zip_map (refusal_of settings k (length bytes)) (all_tries settings pair) refused
      (zip_weaker (SeesRefusal (course_of h item) (length bytes)) (λ v r. refusal_of settings k (length bytes) v ≡ Some r) (all_tries settings pair) refused
      (λ v r at is. refuses (length bytes) v r (each_try settings pair v at) (none v) is) sees.1))

  home_refused : (pair : Pair) (bytes : List ℕ) (refused : List Refused) → NoSteps (course_of h item) → MayAddRow (course_of h item) pair (length bytes)
      → HomeRefuses (course_of h item) pair (length bytes) refused → RefusedBy settings k pair bytes refused × NoRows (course_of h item)
  home_refused pair bytes [] none row did = absurd did
  home_refused pair bytes (refused ∷ []) none (inl rows) (d, v, home, sees) =
      let is = refuses (length bytes) v refused (home_below h item pair d v home) (none v) sees in (
        subst (λ (home : Option ℕ). map (refusal_of settings k (length bytes)) (tries_by settings pair home) ≡ Some refused ∷ [])
            (sym (home_seen item h pair d (Some v) rows home).0) (ap (λ (x : Option Refused). x ∷ []) is),
        rows,
      )
  home_refused pair bytes (refused ∷ []) none (inr added) (d, v, home, sees) =
      let is = refuses (length bytes) v refused (home_below h item pair d v home) (none v) sees in
      let takes = taker_takes pair (length bytes) (added.row).volume none added.taker in
      let same = (added_home pair (length bytes) d v added home).0 in
      absurd (none-some refused (sym (subst (λ (u : ℕ). refusal_of settings k (length bytes) u ≡ None) same takes) ∙ is))
  home_refused pair bytes (refused ∷ more ∷ rest) none row did = absurd did

  put_refused : (pair : Pair) (bytes : List ℕ) (refused : List Refused) → PutRefused (course_of h item) pair (length bytes) refused
      → RefusedBy settings k pair bytes refused × Leaves k k t
  put_refused pair bytes refused did = elim did.because [
    | inl tries ↦ (tries_refused pair bytes refused did.nothing tries.1 tries.0, nothing_left item h (did.nothing, tries.1))
    | inr home ↦
        let is = home_refused pair bytes refused did.nothing did.row home in (is.0, nothing_left item h (did.nothing, is.1))
  ]

  -- EVERY REPLY

  pub put_plain : (pair : Pair) (bytes : List ℕ) (r : Reply) → PutDid (course_of h item) pair bytes r → LegalPut settings k (tag_of item) pair bytes r t
  put_plain pair bytes (reply.Stored v p d cookie) did = stored pair bytes v p d cookie did
  put_plain pair bytes (reply.Full refused) did = let is = put_refused pair bytes refused did.0 in (is.0, did.1, is.1)
  put_plain pair bytes (reply.ReadOnly by) did = put_refused pair bytes (map as_closed by) did
  put_plain pair bytes reply.ReadOnlyDir did =
      let missing = (home_seen item h pair (did.2).0 None did.1 (did.2).1).0 in (
        record {
          volume = (did.3).0;
          missing = missing;
          taker = first_taker pair (length bytes) (did.3).0 missing (did.3).1 (taker_takes pair (length bytes) (did.3).0 did.0 (did.3).1) (λ u other. did.0 u);
        },
        sym (ap (λ (x : DirKnown). x.frozen) (rows_still item h (did.4).0 did.1)) ∙ (did.4).2,
        nothing_left item h (did.0, did.1),
      )
  put_plain pair bytes (reply.Failed v m f) did = put_failed pair bytes v m f did
  put_plain pair bytes (reply.FailedDir f) did = row_failed pair bytes f did
  put_plain pair bytes reply.NoMem did = put_wanting pair bytes did
  put_plain pair bytes r did = search
