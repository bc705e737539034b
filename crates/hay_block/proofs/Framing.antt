-- Frames, from those with one lock fewer to those with one more, and back.
use Rattle.std.proofs.Common.{◌≡◌, ◌<◌, ◌≤◌, ◌+◌, ◌-◌, ◌++◌, ℕ, List, [], ◌∷◌, map, length, refl, sym, ap, subst, ◌∙◌, arith, Some, slice_get, vec_len, vec_capacity, length-append, Vec, Global, Bool}
use Rattle.std.specs.List.{AllByRecursion as Each}
use Rattle.std.specs.Vec.{with_items}
use Rattle.std.proofs.lemmas.Bool.{eq-eqb}
use Rattle.std.proofs.lemmas.List.{with_items_is}
use Rattle.std.proofs.lemmas.Option.{slice_get_within}
use mathlib.Core.Logic.{dite}
use native.Mathlib.Decide.{ℕ_discrete}
use Rattle.hay_needle.specs.declared.settings.Settings.{Settings}
use Rattle.hay_core.specs.declared.entry.Entry.{Entry}
use Rattle.hay_front.specs.declared.front.Tag.{Tag}
use Rattle.hay_reply.specs.declared.Reply.{Reply}
use Rattle.hay_legal.specs.declared.known.HomeRow.{HomeRow}
use Rattle.hay_legal.specs.declared.known.VolumeKnown.{VolumeKnown}
use Rattle.hay_lanes.specs.Lanes.{AnswersLanes}
use Rattle.hay_lanes.proofs.Results.{unmapped}
use Rattle.hay_turn.specs.Acts.{AllBelow, acts_of}
use Rattle.hay_meeting.specs.declared.act.DirAct.{DirAct}
use Rattle.hay_meeting.specs.declared.act.VolumeAct.{VolumeAct}
use Rattle.hay_meeting.specs.Acts.{Start}
use Rattle.hay_meeting.specs.Locks.{Lock, LockSight}
use Rattle.hay_meeting.proofs.Closing.{there}
use Rattle.hay_lane.specs.declared.lane.Lane.{Lane}
use Rattle.hay_lane.specs.declared.lane.Shared.{Shared}
use Rattle.hay_lane.specs.Lanes.{IsSeated}
use Rattle.hay_shared_volume.specs.Tellings.{StoreVolume}
use Rattle.hay_block.specs.declared.frame.Frame.{Frame}
use Rattle.hay_block.specs.declared.worker.Job.{Job}
use Rattle.hay_shared_volume.specs.Ends.{Ended}
use Rattle.hay_block.specs.Frames.{AreSameLocks, HasFirst, HaveFirst, HaveRoom, IsFrame, RanFrom, SitsFirst, framed, with_locks}
use Rattle.hay_block.specs.Lines.{Answers}
use Rattle.hay_shared_volume.specs.Making.{AreSeated, AreUnseen}
use Rattle.hay_block.specs.Seats.{AreSeatsAt, HasMore, HaveMore}
use Rattle.hay_block.proofs.Chaining.{lanes_stay}
use Rattle.hay_block.proofs.Giving.{added_at, before_added}
use Rattle.hay_block.proofs.Lists.{each_at, each_by, last_at, same_item, zip_by}

-- LANES THAT HAVE THE FIRST SEATS

module _ {S T A : Type 0} where
  pub first_of_more : (i : ℕ) (all l m : Lane S T A) (seat : S) → HasFirst (i + 1) all m → HasMore seat l m → length (l.volumes).items ≡ i
      → HasFirst i all l × (slice_get (all.volumes).items i ≡ Some seat)
  first_of_more i all l m seat first more long = (
    record {
      seats = λ v less. sym (before_added (l.volumes).items seat v (omega (arith, less, long))) ∙ (ap (λ z. slice_get z v) (sym more.seats) ∙ first.seats v (omega (arith, less)));
      directory = sym more.directory ∙ first.directory;
      arm = sym more.arm ∙ first.arm;
    },
    sym (first.seats i (omega arith)) ∙ (ap (λ z. slice_get z i) more.seats ∙ subst (λ n. slice_get ((l.volumes).items ++ seat ∷ []) n ≡ Some seat) long (added_at (l.volumes).items seat)),
  )

  module _ {i : ℕ} {all ls ms : List (Lane S T A)} {seats : List S} (first : HaveFirst (i + 1) all ms) (more : HaveMore ls seats ms) (as_many : length seats ≡ length ls)
      (long : (n : ℕ) (l : Lane S T A) → slice_get ls n ≡ Some l → length (l.volumes).items ≡ i) where
    same_many : length ls ≡ length all
    same_many = sym more.many ∙ first.many

    step_at : (n : ℕ) (a l : Lane S T A) (seat : S) → slice_get all n ≡ Some a → slice_get ls n ≡ Some l → slice_get seats n ≡ Some seat
        → HasFirst i a l × (slice_get (a.volumes).items i ≡ Some seat)
    step_at n a l seat at_a at_l at_s =
        let m = there ms n (let within = slice_get_within ls n l at_l in let many = more.many in omega (arith, within, many)) in
        first_of_more i a l m.0 seat (first.each n a m.0 at_a m.1) (more.each n l m.0 seat at_l m.1 at_s) (long n l at_l)

    pub have_first : HaveFirst i all ls
    have_first = record {
      many = same_many;
      each = λ n a l at_a at_l.
          let seat = there seats n (let within = slice_get_within ls n l at_l in omega (arith, within, as_many)) in
          (step_at n a l seat.0 at_a at_l seat.1).0;
    }

    pub seats_at : AreSeatsAt i all seats
    seats_at = zip_by (λ a seat. slice_get (a.volumes).items i ≡ Some seat) all seats (sym (as_many ∙ same_many))
        (λ n a seat at_a at_s.
        let l = there ls n (let within = slice_get_within all n a at_a in let many = same_many in omega (arith, within, many)) in
        (step_at n a l.0 seat at_a l.1 at_s).1)

  pub all_first : (i : ℕ) (ls : List (Lane S T A)) → HaveFirst i ls ls
  all_first i ls = record {
    many = refl;
    each = λ n l m at_l at_m. let same : l ≡ m = same_item ls n at_l at_m in record {
      seats = λ v less. ap (λ (z : Lane S T A). slice_get (z.volumes).items v) (sym same);
      directory = ap (λ (z : Lane S T A). z.directory) (sym same);
      arm = ap (λ (z : Lane S T A). z.arm) (sym same);
    };
  }

-- A LOCK AT WHICH NOTHING HAPPENED

none_made : {E : Type 0} (seat : E → ℕ) (lanes : ℕ) (acts : List E) → AllBelow seat lanes acts → ((lane : ℕ) → lane < lanes → acts_of seat lane acts ≡ []) → acts ≡ []
none_made seat lanes [] below none = refl
none_made seat lanes (x ∷ acts) below none = absurd (cc (rw (eq-eqb (seat x) (seat x) refl) at (none (seat x) below.0)))

-- where no seat has made any act, there is none
pub nothing_made : {S E X Y Z : Type 0} (lock : Lock Y E X Z) (of : S → LockSight E X) (seats : List S) (history : List E) → Ended lock (map of seats) history → AreUnseen of seats → history ≡ []
nothing_made lock of seats history ended new = none_made lock.seat (length (map of seats)) history ended.below
    (λ lane less.
    let s = there (map of seats) lane less in
    let seat = unmapped of seats lane s.0 s.1 in
    ended.own lane s.0 s.1 ∙ ap (λ z. z.own) (sym seat.2 ∙ new.each lane seat.0 seat.1))

-- FRAMES

module _ {V D S T A W : Type 0} {fits : ℕ → V → Settings → ℕ → S → Type 0} {fits_rows : D → Settings → ℕ → T → Type 0} {is_of : W → Settings → ℕ → Type 0} where
  -- where all volumes have locks, lanes have their seats at all
  pub sits_at_all : (frame : Frame V D S T A W) → IsFrame fits fits_rows is_of frame → (frame.waiting).items ≡ []
      → (lane : ℕ) (l : Lane S T A) → slice_get (frame.lanes).items lane ≡ Some l → IsSeated fits fits_rows frame.shared lane l
  sits_at_all frame is none lane l at =
      let sits = is.sits lane l at in
      let full : length ((frame.shared).volumes).items ≡ ((frame.shared).settings).volumes = let all = is.all in let no = ap length none in omega (arith, all, no) in record {
        machines = (is.fit).machines;
        some = (is.fit).some;
        replicas = (is.fit).replicas;
        fewer = (is.fit).fewer;
        few = (is.fit).few;
        drains = is.drains;
        locks = full;
        seats = sits.long ∙ full;
        each = sits.each;
        rows = sits.rows;
      }

  -- a frame with other lanes, which sit so
  pub with_lanes : (frame : Frame V D S T A W) → IsFrame fits fits_rows is_of frame → (lanes : Vec (Lane S T A) Global)
      → ((lane : ℕ) (l : Lane S T A) → slice_get lanes.items lane ≡ Some l → SitsFirst fits fits_rows frame.shared lane l) → IsFrame fits fits_rows is_of (record frame { lanes = lanes })
  with_lanes frame is lanes sits = record {
    fit = is.fit;
    drains = is.drains;
    all = is.all;
    sits = sits;
    waits = is.waits;
    told = is.told;
    lock_room = is.lock_room;
    wait_room = is.wait_room;
    tag_room = is.tag_room;
  }

  -- or are as they were
  pub same_lanes : (frame : Frame V D S T A W) → IsFrame fits fits_rows is_of frame → (lanes : Vec (Lane S T A) Global) → lanes.items ≡ (frame.lanes).items
      → IsFrame fits fits_rows is_of (record frame { lanes = lanes })
  same_lanes frame is lanes same = with_lanes frame is lanes (λ lane l at. is.sits lane l (subst (λ z. slice_get z lane ≡ Some l) same at))

  -- and with the same volumes that wait
  pub same_waiting : (frame : Frame V D S T A W) → IsFrame fits fits_rows is_of frame → (waiting : Vec W Global) → waiting.items ≡ (frame.waiting).items
      → vec_capacity waiting ≡ vec_capacity frame.waiting
      → IsFrame fits fits_rows is_of (record frame { waiting = waiting })
  same_waiting frame is waiting same room = record {
    fit = is.fit;
    drains = is.drains;
    all = let all = is.all in let n = ap length same in omega (arith, all, n);
    sits = is.sits;
    waits = λ i w at. is.waits i w (subst (λ z. slice_get z i ≡ Some w) same at);
    told = let told = is.told in let n = ap length same in omega (arith, told, n);
    lock_room = is.lock_room;
    wait_room = let r = is.wait_room in omega (arith, r, room);
    tag_room = is.tag_room;
  }

module _ {V D S T A W : Type 0} (fits : ℕ → V → Settings → ℕ → S → Type 0) (fits_rows : D → Settings → ℕ → T → Type 0) (is_at : S → StoreVolume → Type 0) (is_at_rows : T → Start → Type 0)
    (of : S → LockSight VolumeAct Entry) (of_rows : T → LockSight DirAct HomeRow) (arm_sure : A → Bool) (arm_faults : A → ℕ) (stands : W → VolumeKnown → Type 0) (faults fuses : W → ℕ → ℕ) where
  abbrev gives : Shared V D → Lane S T A → ℕ → Job → Lane S T A → Reply → Type 0
  gives shared before lane job behind reply = Answers fits fits_rows is_at is_at_rows of of_rows arm_sure arm_faults shared lane job before behind reply

  -- lanes that answered still sit at the locks
  pub still_seated : (shared : Shared V D) {lanes after : List (Lane S T A)} {jobs : List (List Job)} {replies : List (List Reply)} → length jobs ≡ length lanes
      → ((lane : ℕ) (l : Lane S T A) → slice_get lanes lane ≡ Some l → IsSeated fits fits_rows shared lane l) → AnswersLanes (gives shared) lanes jobs after replies
      → (lane : ℕ) (l : Lane S T A) → slice_get after lane ≡ Some l → IsSeated fits fits_rows shared lane l
  still_seated shared given first answers =
      lanes_stay (λ lane l. IsSeated fits fits_rows shared lane l) (gives shared) (gives shared) (λ lane old job new reply is answered. (answered.seated, answered)) given first answers

  pub answered_frame : (frame : Frame V D S T A W) (is_of : W → Settings → ℕ → Type 0) → IsFrame fits fits_rows is_of frame → (frame.waiting).items ≡ [] → (lanes : Vec (Lane S T A) Global)
      → {jobs : List (List Job)} {replies : List (List Reply)} → length jobs ≡ length (frame.lanes).items → AnswersLanes (gives frame.shared) (frame.lanes).items jobs lanes.items replies
      → IsFrame fits fits_rows is_of (record frame { lanes = lanes })
  answered_frame frame is_of is none lanes given answers = with_lanes frame is lanes
      (λ lane l at. let seated = still_seated frame.shared given (sits_at_all frame is none) answers lane l at in record {
        long = seated.seats ∙ sym seated.locks;
        each = seated.each;
        rows = seated.rows;
      })

  -- THE LAST LOCK IS MADE, AND THE LINES ARE ANSWERED

  pub ran_at_all : (old new : Frame V D S T A W) (jobs : List (List Job)) (replies : List (List Reply)) (is_of : W → Settings → ℕ → Type 0) → IsFrame fits fits_rows is_of old
      → (old.waiting).items ≡ []
      → length jobs ≡ length (old.lanes).items → AnswersLanes (gives old.shared) (old.lanes).items jobs (new.lanes).items replies
      → new.waiting ≡ old.waiting → new.tags ≡ old.tags
      → RanFrom fits fits_rows is_at is_at_rows of of_rows arm_sure arm_faults stands faults fuses old new jobs replies
  ran_at_all old new jobs replies is_of is none given answers waiting tags = record {
    locks = (old.shared).volumes;
    first = λ v less. refl;
    lanes = (old.lanes).items;
    before = all_first (length ((old.shared).volumes).items) (old.lanes).items;
    seated = sits_at_all old is none;
    after = (new.lanes).items;
    answers = answers;
    behind = all_first (length ((old.shared).volumes).items) (new.lanes).items;
    volumes = λ v low high. absurd (let all = is.all in let no = ap length none in omega (arith, all, no, low, high));
    all_told =
        let no = ap length none in
        let told = is.told in
        let same = ap (λ (z : Vec (Vec Tag Global) Global). length z.items) tags in
        let same_waiting = ap (λ (z : Vec W Global). length z.items) waiting in
        omega (arith, no, told, same, same_waiting);
  }

-- ROOM FOR SEATS

module _ {V D S T A W : Type 0} {fits : ℕ → V → Settings → ℕ → S → Type 0} {fits_rows : D → Settings → ℕ → T → Type 0} {is_of : W → Settings → ℕ → Type 0}
    (frame : Frame V D S T A W) (is : IsFrame fits fits_rows is_of frame) where
  -- where a volume waits, each lane may take a seat more
  pub may_give : 0 < length (frame.waiting).items → HaveRoom ((frame.shared).settings).volumes (frame.lanes).items → Each (λ l. vec_len l.volumes < vec_capacity l.volumes) (frame.lanes).items
  may_give some room = each_by (λ (l : Lane S T A). vec_len l.volumes < vec_capacity l.volumes) (frame.lanes).items
      (λ lane l at.
      let all = is.all in
      let long = (is.sits lane l at).long in
      let count = (l.volumes).ok.0 in
      let enough = each_at (λ (z : Lane S T A). ((frame.shared).settings).volumes ≤ vec_capacity z.volumes) (frame.lanes).items lane l room at in
      omega (arith, all, long, count, enough, some))

  -- where a volume has a lock, each lane has a seat
  pub may_take : 0 < length ((frame.shared).volumes).items → Each (λ l. 0 < vec_len l.volumes) (frame.lanes).items
  may_take some = each_by (λ (l : Lane S T A). 0 < vec_len l.volumes) (frame.lanes).items
      (λ lane l at. let long = (is.sits lane l at).long in let count = (l.volumes).ok.0 in omega (arith, long, count, some))

-- lanes that have a seat more have the room that they had
pub room_stays : {S T A : Type 0} (volumes : ℕ) {old new : List (Lane S T A)} {seats : List S} → HaveMore old seats new → length seats ≡ length old → HaveRoom volumes old → HaveRoom volumes new
room_stays {S} {T} {A} volumes {old} {new} {seats} more as_many room = each_by (λ (l : Lane S T A). volumes ≤ vec_capacity l.volumes) new
    (λ lane m at.
    let within = slice_get_within new lane m at in
    let many = more.many in
    let l = there old lane (omega (arith, within, many)) in
    let seat = there seats lane (omega (arith, within, many, as_many)) in
    subst (λ n. volumes ≤ n) (sym (more.each lane l.0 m seat.0 l.1 at seat.1).room)
    (each_at (λ (z : Lane S T A). volumes ≤ vec_capacity z.volumes) old lane l.0 room l.1))

-- LANES IN A VECTOR

module _ {S T A : Type 0} (all : Vec (Lane S T A) Global) (now new : List (Lane S T A)) (seats : List S) (now_is : now ≡ all.items) (long : length now ≡ all.len) (same : length new ≡ length now) where
  pub more_in : HaveMore now seats new → HaveMore all.items seats (with_items all new).items
  more_in more = subst (HaveMore all.items seats) (sym (with_items_is all new (same ∙ long))) (subst (λ z. HaveMore z seats new) now_is more)

  pub fewer_in : HaveMore new seats now → HaveMore (with_items all new).items seats all.items
  fewer_in more = subst (λ z. HaveMore z seats all.items) (sym (with_items_is all new (same ∙ long))) (subst (HaveMore new seats) now_is more)

-- THE LAST LOCK

-- locks of which this is the last, and was made of this volume
pub last_made : {V D Q W : Type 0} (is_made : V → Q → W → Settings → ℕ → ℕ → Type 0) (old mid : Shared V D) (locks : Vec V Global) (lock : V) (room : Q) (volume : W) {n : ℕ} (lanes : ℕ)
    → locks.items ≡ (old.volumes).items ++ lock ∷ [] → AreSameLocks (with_locks old locks) mid → is_made lock room volume old.settings (length (old.volumes).items) n → n ≡ lanes
    → (slice_get (mid.volumes).items (vec_len mid.volumes - 1) ≡ Some lock) × is_made lock room volume mid.settings (vec_len mid.volumes - 1) lanes
last_made is_made old mid locks lock room volume {n} lanes locks_are same made many =
    let items : (mid.volumes).items ≡ (old.volumes).items ++ lock ∷ [] = same.volumes ∙ locks_are in
    let count : vec_len mid.volumes ≡ length (mid.volumes).items = let c = (mid.volumes).ok.0 in omega (arith, c) in
    let number : length (old.volumes).items ≡ vec_len mid.volumes - 1 = let m = length-append (old.volumes).items (lock ∷ []) in let k = ap length items in omega (arith, m, k, count) in (
      last_at (old.volumes).items (mid.volumes).items lock (vec_len mid.volumes) items count,
      subst (λ (z : Settings). is_made lock room volume z (vec_len mid.volumes - 1) lanes) (sym same.settings)
          (subst (λ v. is_made lock room volume old.settings v lanes) number (subst (is_made lock room volume old.settings (length (old.volumes).items)) many made)),
    )

-- ONE LOCK MORE

module _ {V D S T A W : Type 0} (old : Frame V D S T A W) (locks : Vec V Global) (lanes : Vec (Lane S T A) Global) (waiting : Vec W Global) where
  abbrev next : Frame V D S T A W
  next = framed old locks lanes waiting

  abbrev i : ℕ
  i = length ((old.shared).volumes).items

  module _ {fits : ℕ → V → Settings → ℕ → S → Type 0} {fits_rows : D → Settings → ℕ → T → Type 0} {is_of : W → Settings → ℕ → Type 0}
      (is : IsFrame fits fits_rows is_of old) (volume : W) (waiting_are : (old.waiting).items ≡ waiting.items ++ volume ∷ []) where
    pub one_less : length (old.waiting).items ≡ length waiting.items + 1
    one_less = let n = ap length waiting_are in let m = length-append waiting.items (volume ∷ []) in omega (arith, n, m)

    -- the volume that waits last is the next one
    pub is_next : is_of volume (old.shared).settings i
    is_next =
        let all = is.all in
        let less = one_less in
        subst (is_of volume (old.shared).settings) (let k : ((old.shared).settings).volumes - 1 - length waiting.items ≡ i = omega (arith, all, less) in k)
        (is.waits (length waiting.items) volume (subst (λ z. slice_get z (length waiting.items) ≡ Some volume) (sym waiting_are) (added_at waiting.items volume)))

    module _ (wait_room : vec_capacity waiting ≡ vec_capacity old.waiting) (lock : V) (locks_are : locks.items ≡ ((old.shared).volumes).items ++ lock ∷ [])
        (lock_room : vec_capacity locks ≡ vec_capacity (old.shared).volumes) (seats : List S) (more : HaveMore (old.lanes).items seats lanes.items)
        (seated : AreSeated (fits i) lock (old.shared).settings (length (old.lanes).items) seats) where
      pub many_locks : length locks.items ≡ i + 1
      many_locks = let n = ap length locks_are in let m = length-append ((old.shared).volumes).items (lock ∷ []) in omega (arith, n, m)

      sits_next : (lane : ℕ) (m : Lane S T A) → slice_get lanes.items lane ≡ Some m → SitsFirst fits fits_rows next.shared lane m
      sits_next lane m at =
          let within = slice_get_within lanes.items lane m at in
          let many = more.many in
          let l = there (old.lanes).items lane (omega (arith, within, many)) in
          let seat = there seats lane (let as_many = seated.many in omega (arith, within, many, as_many)) in
          let one = more.each lane l.0 m seat.0 l.1 at seat.1 in
          let sits = is.sits lane l.0 l.1 in
          let long = sits.long in
          let longer : length (m.volumes).items ≡ i + 1 = let n = ap length one.seats in let k = length-append ((l.0).volumes).items (seat.0 ∷ []) in omega (arith, n, k, long) in record {
            long = longer ∙ sym many_locks;
            each = λ v other s at_lock at_seat.
                let below : v < i + 1 = let low = slice_get_within locks.items v other at_lock in let n = many_locks in omega (arith, low, n) in
                dite (ℕ_discrete v i)
                (λ same.
                let lock_is : lock ≡ other = same_item (((old.shared).volumes).items ++ lock ∷ []) i (added_at ((old.shared).volumes).items lock)
                (sym (ap (λ z. slice_get z i) locks_are) ∙ subst (λ n. slice_get locks.items n ≡ Some other) same at_lock) in
                let seat_is : seat.0 ≡ s =
                same_item (((l.0).volumes).items ++ seat.0 ∷ []) i (subst (λ n. slice_get (((l.0).volumes).items ++ seat.0 ∷ []) n ≡ Some seat.0) long (added_at ((l.0).volumes).items seat.0))
                (sym (ap (λ z. slice_get z i) one.seats) ∙ subst (λ n. slice_get (m.volumes).items n ≡ Some s) same at_seat) in
                subst (λ n. fits n other (old.shared).settings lane s) (sym same)
                (subst (λ z. fits i z (old.shared).settings lane s) lock_is (subst (fits i lock (old.shared).settings lane) seat_is (seated.each lane seat.0 seat.1))))
                (λ differs.
                let less : v < i = omega (arith, below, differs) in
                sits.each v other s (sym (before_added ((old.shared).volumes).items lock v less) ∙ (sym (ap (λ z. slice_get z v) locks_are) ∙ at_lock))
                (sym (before_added ((l.0).volumes).items seat.0 v (omega (arith, less, long))) ∙ (sym (ap (λ z. slice_get z v) one.seats) ∙ at_seat)));
            rows = subst (fits_rows (old.shared).directory (old.shared).settings lane) (sym one.directory) sits.rows;
          }

      pub next_is_frame : (old.tags).items ≡ [] → IsFrame fits fits_rows is_of next
      next_is_frame untold = record {
        fit = is.fit;
        drains = is.drains;
        all = let all = is.all in let less = one_less in let many = many_locks in omega (arith, all, less, many);
        sits = sits_next;
        waits = λ j w at. is.waits j w (ap (λ z. slice_get z j) waiting_are ∙ (before_added waiting.items volume j (slice_get_within waiting.items j w at) ∙ at));
        told = let none = ap length untold in omega (arith, none);
        lock_room = let room = is.lock_room in omega (arith, room, lock_room);
        wait_room = let room = is.wait_room in omega (arith, room, wait_room);
        tag_room = is.tag_room;
      }

-- ONE LOCK LESS

module _ {V D S T A W : Type 0} {fits : ℕ → V → Settings → ℕ → S → Type 0} {fits_rows : D → Settings → ℕ → T → Type 0} {is_of : W → Settings → ℕ → Type 0}
    (old : Frame V D S T A W) (is : IsFrame fits fits_rows is_of old) (locks : Vec V Global) (lock : V) (locks_are : ((old.shared).volumes).items ≡ locks.items ++ lock ∷ [])
    (lanes : Vec (Lane S T A) Global) (seats : List S) (more : HaveMore lanes.items seats (old.lanes).items) (as_many : length seats ≡ length (old.lanes).items) where
  one_lock_less : length ((old.shared).volumes).items ≡ length locks.items + 1
  one_lock_less = let n = ap length locks_are in let m = length-append locks.items (lock ∷ []) in omega (arith, n, m)

  -- the lane from which a seat was taken
  taken_at : (lane : ℕ) (seat : S) → slice_get seats lane ≡ Some seat
      → (l : Lane S T A) × (m : Lane S T A) × (slice_get lanes.items lane ≡ Some l) × (slice_get (old.lanes).items lane ≡ Some m) × HasMore seat l m
  taken_at lane seat at =
      let within = slice_get_within seats lane seat at in
      let many = more.many in
      let m = there (old.lanes).items lane (omega (arith, within, as_many)) in
      let l = there lanes.items lane (omega (arith, within, as_many, many)) in
      (l.0, m.0, l.1, m.1, more.each lane l.0 m.0 seat l.1 m.1 at)

  shorter : (l m : Lane S T A) (seat : S) → HasMore seat l m → length (m.volumes).items ≡ length ((old.shared).volumes).items → length (l.volumes).items ≡ length locks.items
  shorter l m seat one long =
      let n = ap length one.seats in let k = length-append (l.volumes).items (seat ∷ []) in let less = one_lock_less in omega (arith, n, k, long, less)

  pub taken_fit : AreSeated (fits (length locks.items)) lock (old.shared).settings (length seats) seats
  taken_fit = record {
    many = refl;
    each = λ lane seat at.
        let t = taken_at lane seat at in
        let sits = is.sits lane t.1 t.3 in
        let here : length ((t.0).volumes).items ≡ length locks.items = shorter t.0 t.1 seat t.4 sits.long in
        sits.each (length locks.items) lock seat
        (subst (λ z. slice_get z (length locks.items) ≡ Some lock) (sym locks_are) (added_at locks.items lock))
        (subst (λ z. slice_get z (length locks.items) ≡ Some seat) (sym (t.4).seats)
        (subst (λ n. slice_get (((t.0).volumes).items ++ seat ∷ []) n ≡ Some seat) here (added_at ((t.0).volumes).items seat)));
  }

  module _ (waiting : Vec W Global) (behind : W) (waiting_are : waiting.items ≡ (old.waiting).items ++ behind ∷ []) (of : is_of behind (old.shared).settings (length locks.items))
      (tags : Vec (Vec Tag Global) Global) (own : Vec Tag Global) (tags_are : tags.items ≡ (old.tags).items ++ own ∷ [])
      (lock_room : vec_capacity locks ≡ vec_capacity (old.shared).volumes) (wait_room : vec_capacity waiting ≡ vec_capacity old.waiting) (tag_room : vec_capacity tags ≡ vec_capacity old.tags) where
    abbrev ended : Frame V D S T A W
    ended = record (framed old locks lanes waiting) { tags = tags }

    one_waits : length waiting.items ≡ length (old.waiting).items + 1
    one_waits = let n = ap length waiting_are in let m = length-append (old.waiting).items (behind ∷ []) in omega (arith, n, m)

    sits_ended : (lane : ℕ) (l : Lane S T A) → slice_get lanes.items lane ≡ Some l → SitsFirst fits fits_rows ended.shared lane l
    sits_ended lane l at =
        let within = slice_get_within lanes.items lane l at in
        let many = more.many in
        let m = there (old.lanes).items lane (omega (arith, within, many)) in
        let seat = there seats lane (omega (arith, within, many, as_many)) in
        let one = more.each lane l m.0 seat.0 at m.1 seat.1 in
        let sits = is.sits lane m.0 m.1 in
        let long : length (l.volumes).items ≡ length locks.items = shorter l m.0 seat.0 one sits.long in record {
          long = long;
          each = λ v other s at_lock at_seat.
              let below : v < length locks.items = slice_get_within locks.items v other at_lock in
              sits.each v other s (ap (λ z. slice_get z v) locks_are ∙ (before_added locks.items lock v below ∙ at_lock))
              (ap (λ z. slice_get z v) one.seats ∙ (before_added (l.volumes).items seat.0 v (omega (arith, below, long)) ∙ at_seat));
          rows = subst (fits_rows (old.shared).directory (old.shared).settings lane) one.directory sits.rows;
        }

    pub ended_is_frame : IsFrame fits fits_rows is_of ended
    ended_is_frame =
        let all = is.all in let less = one_lock_less in let waits = one_waits in record {
          fit = is.fit;
          drains = is.drains;
          all = omega (arith, all, less, waits);
          sits = sits_ended;
          waits = λ j w at. dite (ℕ_discrete j (length (old.waiting).items))
              (λ same.
              let w_is : behind ≡ w = same_item ((old.waiting).items ++ behind ∷ []) (length (old.waiting).items) (added_at (old.waiting).items behind)
              (sym (ap (λ z. slice_get z (length (old.waiting).items)) waiting_are) ∙ subst (λ n. slice_get waiting.items n ≡ Some w) same at) in
              subst (λ z. is_of z (old.shared).settings (((old.shared).settings).volumes - 1 - j)) w_is
              (subst (is_of behind (old.shared).settings) (let k : length locks.items ≡ ((old.shared).settings).volumes - 1 - j = omega (arith, all, less, same) in k) of))
              (λ differs.
              let below : j < length (old.waiting).items = let low = slice_get_within waiting.items j w at in omega (arith, low, waits, differs) in
              is.waits j w (sym (before_added (old.waiting).items behind j below) ∙ (sym (ap (λ z. slice_get z j) waiting_are) ∙ at)));
          told = let n = ap length tags_are in let m = length-append (old.tags).items (own ∷ []) in let told = is.told in omega (arith, n, m, told, waits);
          lock_room = let room = is.lock_room in omega (arith, room, lock_room);
          wait_room = let room = is.wait_room in omega (arith, room, wait_room);
          tag_room = let room = is.tag_room in omega (arith, room, tag_room);
        }
