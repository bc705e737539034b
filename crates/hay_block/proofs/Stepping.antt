-- What a frame ran, from the one with a lock more.
use Rattle.std.proofs.Common.{◌≡◌, ◌<◌, ◌≤◌, ◌+◌, ◌-◌, ◌++◌, ℕ, List, [], ◌∷◌, length, sym, ap, subst, ◌∙◌, arith, Some, Result, slice_get, vec_len, length-append, Vec, Global, Bool}
use Rattle.std.specs.Prelude.{IfOk, OnErr}
use Rattle.std.proofs.lemmas.Option.{slice_get_within}
use mathlib.Core.Logic.{dite}
use native.Mathlib.Decide.{ℕ_discrete}
use Rattle.hay_needle.specs.declared.settings.Settings.{Settings}
use Rattle.hay_core.specs.declared.entry.Entry.{Entry}
use Rattle.hay_reply.specs.declared.Reply.{Reply}
use Rattle.hay_legal.specs.declared.known.HomeRow.{HomeRow}
use Rattle.hay_legal.specs.declared.known.VolumeKnown.{VolumeKnown}
use Rattle.hay_meeting.specs.declared.act.DirAct.{DirAct}
use Rattle.hay_meeting.specs.declared.act.VolumeAct.{VolumeAct}
use Rattle.hay_meeting.specs.Acts.{Start, volume_lock}
use Rattle.hay_meeting.specs.Locks.{LockSight}
use Rattle.hay_meeting.proofs.Closing.{there}
use Rattle.hay_lane.specs.declared.lane.Lane.{Lane}
use Rattle.hay_shared_volume.specs.Tellings.{StoreVolume}
use Rattle.hay_block.specs.declared.frame.Frame.{Frame}
use Rattle.hay_block.specs.declared.worker.Job.{Job}
use Rattle.hay_shared_volume.specs.Ends as ends_of
use Rattle.hay_block.specs.Frames.{AreSameLocks, EndsLast, HaveFirst, IsBack, IsFrame, RanFrom, VolumeTook, framed, with_locks}
use Rattle.hay_shared_volume.specs.Making.{AreAt, AreUnseen, IsRegularVolume, LeavesVolume}
use Rattle.hay_block.specs.Seats.{AreSeatsAt, HaveMore}
use Rattle.hay_block.specs.Stores.{AreStill, IsStill}
use Rattle.hay_block.proofs.Framing.{all_first, have_first, nothing_made, seats_at}
use Rattle.hay_block.proofs.Giving.{added_at, before_added}
use Rattle.hay_block.proofs.Lists.{before_last, err_weaker, ok_weaker, same_item, zip_at, zip_long}
use Rattle.hay_block.proofs.Staying.{left_still, still_added, still_self}

-- a frame stands as it did, with other vectors of the same lanes and volumes
pub back_here : {V D S T A W : Type 0} {stands : W → VolumeKnown → Type 0} {faults fuses : W → ℕ → ℕ} (frame : Frame V D S T A W) (lanes : Vec (Lane S T A) Global) (waiting : Vec W Global)
    → lanes.items ≡ (frame.lanes).items → waiting.items ≡ (frame.waiting).items → IsBack stands faults fuses frame (record frame { lanes = lanes; waiting = waiting })
back_here {V} {D} {S} {T} {A} {W} {stands} {faults} {fuses} frame lanes waiting same_lanes same_waiting =
    let n : ℕ = length ((frame.shared).volumes).items in record {
      lanes = subst (HaveFirst n (frame.lanes).items) (sym same_lanes) (all_first n (frame.lanes).items);
      waiting = subst (AreStill stands faults fuses (frame.shared).settings (frame.waiting).items) (sym same_waiting) (still_self (frame.waiting).items);
    }

module _ {V D S T A W : Type 0} {fits : ℕ → V → Settings → ℕ → S → Type 0} {fits_rows : D → Settings → ℕ → T → Type 0} {is_of : W → Settings → ℕ → Type 0}
    {is_at : S → StoreVolume → Type 0} {is_at_rows : T → Start → Type 0}
    {of : S → LockSight VolumeAct Entry} {of_rows : T → LockSight DirAct HomeRow} {arm_sure : A → Bool} {arm_faults : A → ℕ} {stands : W → VolumeKnown → Type 0} {faults fuses : W → ℕ → ℕ}
    (old : Frame V D S T A W) (locks : Vec V Global) (lanes : Vec (Lane S T A) Global) (waiting : Vec W Global) (lock : V) {mid new : Frame V D S T A W} {volume : W} {seats : List S}
    (is_old : IsFrame fits fits_rows is_of old) (is_mid : IsFrame fits fits_rows is_of mid) (is_new : IsFrame fits fits_rows is_of new)
    (locks_are : locks.items ≡ ((old.shared).volumes).items ++ lock ∷ []) (waiting_are : (old.waiting).items ≡ waiting.items ++ volume ∷ [])
    (more : HaveMore (old.lanes).items seats lanes.items) (as_many : length seats ≡ length (old.lanes).items)
    (unseen : AreUnseen of seats) (same : AreSameLocks (with_locks old.shared locks) mid.shared)
    (ends : EndsLast fits fits_rows is_at is_at_rows of of_rows arm_sure arm_faults stands faults fuses (length ((old.shared).volumes).items) volume mid new) where
  abbrev next : Frame V D S T A W
  next = framed old locks lanes waiting

  abbrev i : ℕ
  i = length ((old.shared).volumes).items

  many_next : length ((next.shared).volumes).items ≡ i + 1
  many_next = let n = ap length locks_are in let m = length-append ((old.shared).volumes).items (lock ∷ []) in omega (arith, n, m)

  many_mid : length ((mid.shared).volumes).items ≡ i + 1
  many_mid = ap length same.volumes ∙ many_next

  many_new : length ((new.shared).volumes).items ≡ i
  many_new = let n = ap length ends.locks in let m = length-append ((new.shared).volumes).items (ends.lock ∷ []) in let k = many_mid in omega (arith, n, m, k)

  long_old : (n : ℕ) (l : Lane S T A) → slice_get (old.lanes).items n ≡ Some l → length (l.volumes).items ≡ i
  long_old n l at = (is_old.sits n l at).long

  long_new : (n : ℕ) (l : Lane S T A) → slice_get (new.lanes).items n ≡ Some l → length (l.volumes).items ≡ i
  long_new n l at = (is_new.sits n l at).long ∙ many_new

  -- the locks are those that there were before
  pub same_behind : AreSameLocks old.shared new.shared
  same_behind = record {
    settings = ends.settings ∙ same.settings;
    volumes = before_last ((new.shared).volumes).items ((old.shared).volumes).items ends.lock lock (sym ends.locks ∙ (same.volumes ∙ locks_are));
    directory = ends.directory ∙ same.directory;
    drained = ends.drained ∙ same.drained;
  }

  -- WHERE NO LINE WAS ANSWERED

  module _ (back : IsBack stands faults fuses next mid) where
    first_back : HaveFirst (i + 1) (next.lanes).items (mid.lanes).items
    first_back = subst (λ n. HaveFirst n (next.lanes).items (mid.lanes).items) many_next back.lanes

    given : AreSeatsAt i (next.lanes).items seats
    given = seats_at {i = i} {all = (next.lanes).items} {ls = (old.lanes).items} {ms = (next.lanes).items} {seats = seats} (all_first (i + 1) (next.lanes).items) more as_many long_old

    taken : AreSeatsAt i (next.lanes).items ends.seats
    taken = seats_at {i = i} {all = (next.lanes).items} {ls = (new.lanes).items} {ms = (mid.lanes).items} {seats = ends.seats} first_back ends.lanes ends.as_many long_new

    -- the seats that are taken back are those that were given
    still_unseen : AreUnseen of ends.seats
    still_unseen = record {
      each = λ lane seat at.
          let within = slice_get_within ends.seats lane seat at in
          let taken_long = zip_long (λ (l : Lane S T A) seat. slice_get (l.volumes).items i ≡ Some seat) (next.lanes).items ends.seats taken in
          let given_long = zip_long (λ (l : Lane S T A) seat. slice_get (l.volumes).items i ≡ Some seat) (next.lanes).items seats given in
          let l = there (next.lanes).items lane (omega (arith, within, taken_long)) in
          let s = there seats lane (omega (arith, within, taken_long, given_long)) in
          let was = zip_at (λ (l : Lane S T A) seat. slice_get (l.volumes).items i ≡ Some seat) (next.lanes).items seats given lane l.0 s.0 l.1 s.1 in
          let is = zip_at (λ (l : Lane S T A) seat. slice_get (l.volumes).items i ≡ Some seat) (next.lanes).items ends.seats taken lane l.0 seat l.1 at in
          subst (λ z. of z ≡ ends_of.unseen) (same_item ((l.0).volumes).items i was is) (unseen.each lane s.0 s.1);
    }

    still : IsStill stands faults fuses (old.shared).settings volume ends.behind
    still = subst (λ (z : Settings). IsStill stands faults fuses z volume ends.behind) same.settings
        (left_still ends.left (nothing_made volume_lock of ends.seats (ends.left).history (ends.left).ended still_unseen))

    pub back_one_more : IsBack stands faults fuses old new
    back_one_more =
        let first_new = have_first {i = i} {all = (next.lanes).items} {ls = (new.lanes).items} {ms = (mid.lanes).items} {seats = ends.seats} first_back ends.lanes ends.as_many long_new in
        let first_old =
        have_first {i = i} {all = (next.lanes).items} {ls = (old.lanes).items} {ms = (next.lanes).items} {seats = seats} (all_first (i + 1) (next.lanes).items) more as_many long_old in record {
          lanes = record {
            many = first_new.many ∙ sym first_old.many;
            each = λ n l m at_l at_m.
                let a = there (next.lanes).items n (let within = slice_get_within (old.lanes).items n l at_l in let many = first_old.many in omega (arith, within, many)) in
                let to = first_new.each n a.0 m a.1 at_m in
                let from = first_old.each n a.0 l a.1 at_l in record {
                  seats = λ v less. to.seats v less ∙ sym (from.seats v less);
                  directory = to.directory ∙ sym from.directory;
                  arm = to.arm ∙ sym from.arm;
                };
          };
          waiting = subst (λ z. AreStill stands faults fuses (old.shared).settings z (new.waiting).items) (sym waiting_are)
              (subst (AreStill stands faults fuses (old.shared).settings ((next.waiting).items ++ volume ∷ [])) (sym ends.waiting)
              (still_added (next.waiting).items (mid.waiting).items volume ends.behind back.waiting still));
        }

  -- WHERE THE LINES WERE ANSWERED

  module _ (at : AreAt is_at stands faults fuses (old.shared).settings i volume seats) (regular : (known : VolumeKnown) → stands volume known → IsRegularVolume (old.shared).settings known)
      {jobs : List (List Job)} {replies : List (List Reply)} (ran : RanFrom fits fits_rows is_at is_at_rows of of_rows arm_sure arm_faults stands faults fuses next mid jobs replies) where
    abbrev last : ℕ
    last = ((old.shared).settings).volumes - 1 - i

    waits_next : length (next.waiting).items ≡ last
    waits_next =
        let n = ap length waiting_are in let m = length-append (next.waiting).items (volume ∷ []) in let all = is_old.all in omega (arith, n, m, all)

    waits_mid : length (mid.waiting).items ≡ last
    waits_mid =
        let all = is_mid.all in
        let many = many_mid in
        let settings = ap (λ (z : Settings). z.volumes) same.settings in
        let before = is_old.all in
        let less = ap length waiting_are in
        let m = length-append (next.waiting).items (volume ∷ []) in
        omega (arith, all, many, settings, before, less, m)

    ran_before : HaveFirst (i + 1) ran.lanes (next.lanes).items
    ran_before = subst (λ n. HaveFirst n ran.lanes (next.lanes).items) many_next ran.before

    ran_behind : HaveFirst (i + 1) ran.after (mid.lanes).items
    ran_behind = subst (λ n. HaveFirst n ran.after (mid.lanes).items) many_next ran.behind

    took_next : VolumeTook fits fits_rows is_at is_at_rows of of_rows arm_sure arm_faults stands faults fuses (old.shared).settings ran.lanes ran.after i last (old.waiting).items
        (new.waiting).items (new.tags).items
    took_next = record {
      before = volume;
      was =
          subst (λ z. slice_get z last ≡ Some volume) (sym waiting_are) (subst (λ n. slice_get ((next.waiting).items ++ volume ∷ []) n ≡ Some volume) waits_next
          (added_at (next.waiting).items volume));
      behind = ends.behind;
      is = subst (λ z. slice_get z last ≡ Some ends.behind) (sym ends.waiting)
          (subst (λ n. slice_get ((mid.waiting).items ++ ends.behind ∷ []) n ≡ Some ends.behind) waits_mid (added_at (mid.waiting).items ends.behind));
      tags = ends.tags;
      tags_are = subst (λ z. slice_get z last ≡ Some ends.tags) (sym ends.told)
          (subst (λ n. slice_get ((mid.tags).items ++ ends.tags ∷ []) n ≡ Some ends.tags) (ran.all_told ∙ waits_mid) (added_at (mid.tags).items ends.tags));
      regular = regular;
      seats = seats;
      of_lanes = seats_at {i = i} {all = ran.lanes} {ls = (old.lanes).items} {ms = (next.lanes).items} {seats = seats} ran_before more as_many long_old;
      unseen = unseen;
      at = at;
      ended = ends.seats;
      of_after = seats_at {i = i} {all = ran.after} {ls = (new.lanes).items} {ms = (mid.lanes).items} {seats = ends.seats} ran_behind ends.lanes ends.as_many long_new;
      left = subst (λ (z : Settings). LeavesVolume of stands faults fuses z i volume ends.seats ends.behind (ends.tags).items) same.settings ends.left;
    }

    took_later : (v : ℕ) (j : ℕ)
        → VolumeTook fits fits_rows is_at is_at_rows of of_rows arm_sure arm_faults stands faults fuses (next.shared).settings ran.lanes ran.after v j (next.waiting).items
        (mid.waiting).items (mid.tags).items
        → VolumeTook fits fits_rows is_at is_at_rows of of_rows arm_sure arm_faults stands faults fuses (old.shared).settings ran.lanes ran.after v j (old.waiting).items
        (new.waiting).items (new.tags).items
    took_later v j took = record {
      before = took.before;
      was = ap (λ z. slice_get z j) waiting_are ∙ (before_added (next.waiting).items volume j (slice_get_within (next.waiting).items j took.before took.was) ∙ took.was);
      behind = took.behind;
      is = ap (λ z. slice_get z j) ends.waiting ∙ (before_added (mid.waiting).items ends.behind j (slice_get_within (mid.waiting).items j took.behind took.is) ∙ took.is);
      tags = took.tags;
      tags_are = ap (λ z. slice_get z j) ends.told ∙ (before_added (mid.tags).items ends.tags j (slice_get_within (mid.tags).items j took.tags took.tags_are) ∙ took.tags_are);
      regular = took.regular;
      seats = took.seats;
      of_lanes = took.of_lanes;
      unseen = took.unseen;
      at = took.at;
      ended = took.ended;
      of_after = took.of_after;
      left = took.left;
    }

    took : (v : ℕ) → i ≤ v → v < ((old.shared).settings).volumes
        → VolumeTook fits fits_rows is_at is_at_rows of of_rows arm_sure arm_faults stands faults fuses (old.shared).settings ran.lanes ran.after v (((old.shared).settings).volumes - 1 - v)
        (old.waiting).items (new.waiting).items (new.tags).items
    took v low high = dite (ℕ_discrete v i)
        (λ here. subst (λ n. VolumeTook fits fits_rows is_at is_at_rows of of_rows arm_sure arm_faults stands faults fuses (old.shared).settings ran.lanes ran.after n
        (((old.shared).settings).volumes - 1 - n)
        (old.waiting).items (new.waiting).items (new.tags).items) (sym here) took_next)
        (λ differs.
        let many = many_next in
        took_later v (((old.shared).settings).volumes - 1 - v) (ran.volumes v (omega (arith, low, differs, many)) high))

    pub ran_one_more : RanFrom fits fits_rows is_at is_at_rows of of_rows arm_sure arm_faults stands faults fuses old new jobs replies
    ran_one_more = record {
      locks = ran.locks;
      first = λ v less.
          let many = many_next in
          ran.first v (omega (arith, less, many)) ∙ (ap (λ z. slice_get z v) locks_are ∙ before_added ((old.shared).volumes).items lock v less);
      lanes = ran.lanes;
      before = have_first {i = i} {all = ran.lanes} {ls = (old.lanes).items} {ms = (next.lanes).items} {seats = seats} ran_before more as_many long_old;
      seated = ran.seated;
      after = ran.after;
      answers = ran.answers;
      behind = have_first {i = i} {all = ran.after} {ls = (new.lanes).items} {ms = (mid.lanes).items} {seats = ends.seats} ran_behind ends.lanes ends.as_many long_new;
      volumes = took;
      all_told =
          let n = ap length ends.told in
          let m = length-append (mid.tags).items (ends.tags ∷ []) in
          let k = ap length ends.waiting in
          let l = length-append (mid.waiting).items (ends.behind ∷ []) in
          let told = ran.all_told in
          omega (arith, n, m, k, l, told);
    }

-- what a frame ran, or where it is, from the one with a lock more
pub run_step : {V D S T A W X E : Type 0} {fits : ℕ → V → Settings → ℕ → S → Type 0} {fits_rows : D → Settings → ℕ → T → Type 0} {is_of : W → Settings → ℕ → Type 0}
    {is_at : S → StoreVolume → Type 0} {is_at_rows : T → Start → Type 0}
    {of : S → LockSight VolumeAct Entry} {of_rows : T → LockSight DirAct HomeRow} {arm_sure : A → Bool} {arm_faults : A → ℕ} {stands : W → VolumeKnown → Type 0} {faults fuses : W → ℕ → ℕ}
    (old : Frame V D S T A W) (locks : Vec V Global) (lanes : Vec (Lane S T A) Global) (waiting : Vec W Global) (lock : V) {mid new : Frame V D S T A W} {volume : W} {seats : List S}
    → IsFrame fits fits_rows is_of old → IsFrame fits fits_rows is_of mid → IsFrame fits fits_rows is_of new
    → locks.items ≡ ((old.shared).volumes).items ++ lock ∷ [] → (old.waiting).items ≡ waiting.items ++ volume ∷ []
    → HaveMore (old.lanes).items seats lanes.items → length seats ≡ length (old.lanes).items
    → AreUnseen of seats → AreSameLocks (with_locks old.shared locks) mid.shared
    → EndsLast fits fits_rows is_at is_at_rows of of_rows arm_sure arm_faults stands faults fuses (vec_len (mid.shared).volumes - 1) volume mid new
    → AreAt is_at stands faults fuses (old.shared).settings (length ((old.shared).volumes).items) volume seats
    → ((known : VolumeKnown) → stands volume known → IsRegularVolume (old.shared).settings known)
    → (jobs : List (List Job)) (answer : Result X E) (replies : X → List (List Reply))
    → AreSameLocks old.shared new.shared
    × (IfOk answer (λ r. RanFrom fits fits_rows is_at is_at_rows of of_rows arm_sure arm_faults stands faults fuses (framed old locks lanes waiting) mid jobs (replies r))
    → IfOk answer (λ r. RanFrom fits fits_rows is_at is_at_rows of of_rows arm_sure arm_faults stands faults fuses old new jobs (replies r)))
    × (OnErr answer (IsBack stands faults fuses (framed old locks lanes waiting) mid) → OnErr answer (IsBack stands faults fuses old new))
run_step {V} {D} {S} {T} {A} {W} {X} {E} {fits} {fits_rows} {is_of} {is_at} {is_at_rows} {of} {of_rows} {arm_sure} {arm_faults} {stands} {faults} {fuses} old locks lanes waiting
    lock {mid} {new} {volume} {seats}
    is_old is_mid is_new locks_are waiting_are more as_many unseen same ends at regular jobs answer replies =
    let number : vec_len (mid.shared).volumes - 1 ≡ length ((old.shared).volumes).items =
    let c = ((mid.shared).volumes).ok.0 in
    let k = ap length (same.volumes ∙ locks_are) in
    let m = length-append ((old.shared).volumes).items (lock ∷ []) in
    omega (arith, c, k, m) in
    let ended : EndsLast fits fits_rows is_at is_at_rows of of_rows arm_sure arm_faults stands faults fuses (length ((old.shared).volumes).items) volume mid new =
    subst (λ v. EndsLast fits fits_rows is_at is_at_rows of of_rows arm_sure arm_faults stands faults fuses v volume mid new) number ends in (
      same_behind old locks lanes waiting lock is_old is_mid is_new locks_are waiting_are more as_many unseen same ended,
      ok_weaker (λ r. RanFrom fits fits_rows is_at is_at_rows of of_rows arm_sure arm_faults stands faults fuses (framed old locks lanes waiting) mid jobs (replies r))
          (λ r. RanFrom fits fits_rows is_at is_at_rows of of_rows arm_sure arm_faults stands faults fuses old new jobs (replies r))
          (λ r ran. ran_one_more old locks lanes waiting lock is_old is_mid is_new locks_are waiting_are more as_many unseen same ended at regular ran) answer,
      err_weaker (IsBack stands faults fuses (framed old locks lanes waiting) mid) (IsBack stands faults fuses old new)
          (back_one_more old locks lanes waiting lock is_old is_mid is_new locks_are waiting_are more as_many unseen same ended) answer,
    )
