-- The frame in which no volume has a lock yet, and what was run from it.
use Rattle.std.proofs.Common.{◌≡◌, ◌<◌, ◌≤◌, ◌-◌, ℕ, List, [], map, length, sym, ap, subst, ◌∙◌, arith, Some, Result, slice_get, reverse, vec_capacity, Vec, Global}
use Rattle.std.specs.Prelude.{Bool, IfOk}
use Rattle.std.specs.List.{AllByRecursion as Each}
use Rattle.std.proofs.lemmas.List.{length-map, length-reverse, reverse-reverse}
use Rattle.std.proofs.lemmas.Option.{slice_get_within}
use Rattle.hay_needle.specs.declared.settings.Settings.{Settings}
use Rattle.hay_core.specs.declared.entry.Entry.{Entry}
use Rattle.hay_front.specs.declared.front.Tag.{Tag}
use Rattle.hay_reply.specs.declared.Reply.{Reply}
use Rattle.hay_legal.specs.declared.known.HomeRow.{HomeRow}
use Rattle.hay_legal.specs.declared.known.VolumeKnown.{VolumeKnown}
use Rattle.hay_meeting.specs.declared.act.DirAct.{DirAct}
use Rattle.hay_meeting.specs.declared.act.VolumeAct.{VolumeAct}
use Rattle.hay_meeting.specs.Acts.{Start}
use Rattle.hay_meeting.specs.Locks.{LockSight}
use Rattle.hay_lanes.proofs.Results.{unmapped}
use Rattle.hay_lane.specs.declared.lane.Lane.{Lane}
use Rattle.hay_lane.specs.declared.lane.Shared.{Shared}
use Rattle.hay_shared_volume.specs.Tellings.{StoreVolume}
use Rattle.hay_block.specs.declared.block.Locked.{Locked}
use Rattle.hay_block.specs.declared.worker.Job.{Job}
use Rattle.hay_block.specs.declared.frame.Frame.{Frame}
use Rattle.hay_block.specs.Frames.{AreFit, AreSameLocks, IsBack, IsFrame, IsSameStore, RanAll, RanFrom, shared_by}
use Rattle.hay_shared_volume.specs.Making.{AreSeated}
use Rattle.hay_block.specs.Stores.{AreStill, AreVolumes}
use Rattle.hay_block.proofs.Lists.{each_at, each_by, each_unmapped, map_same, mapped, ok_weaker, reversed_at}
use Rattle.hay_block.proofs.Staying.{still_reversed}

none_at : {X : Type 0} (xs : List X) (i : ℕ) {x : X} → xs ≡ [] → slice_get xs i ≡ Some x → ⊥
none_at {X} xs i {x} none at = let within = slice_get_within xs i x at in let no = ap length none in omega (arith, within, no)

module _ {V D S T A W : Type 0} (fits : ℕ → V → Settings → ℕ → S → Type 0) (fits_rows : D → Settings → ℕ → T → Type 0) (is_of : W → Settings → ℕ → Type 0) where
  pub first_frame : (frame : Frame V D S T A W) (volumes : List W) → AreFit (frame.shared).settings → length ((frame.shared).drained).items ≡ ((frame.shared).settings).machines
      → ((frame.shared).volumes).items ≡ [] → ((frame.shared).settings).volumes ≤ vec_capacity (frame.shared).volumes
      → (frame.tags).items ≡ [] → ((frame.shared).settings).volumes ≤ vec_capacity frame.tags
      → Each (λ l. (l.volumes).items ≡ []) (frame.lanes).items
      → AreSeated fits_rows (frame.shared).directory (frame.shared).settings (length (frame.lanes).items) (map (λ l. l.directory) (frame.lanes).items)
      → AreVolumes is_of (frame.shared).settings volumes → (frame.waiting).items ≡ reverse volumes → ((frame.shared).settings).volumes ≤ vec_capacity frame.waiting
      → IsFrame fits fits_rows is_of frame
  first_frame frame volumes fit drains locks lock_room tags tag_room blank seated are waiting wait_room =
      let n : ℕ = ((frame.shared).settings).volumes in
      let no_locks = ap length locks in
      let no_tags = ap length tags in
      let long = ap length waiting in
      let same = length-reverse volumes in
      let many = are.many in record {
        fit = fit;
        drains = drains;
        all = omega (arith, no_locks, long, same, many);
        sits = λ lane l at. record {
          long = ap length (each_at (λ (z : Lane S T A). (z.volumes).items ≡ []) (frame.lanes).items lane l blank at) ∙ sym no_locks;
          each = λ v lock seat at_lock. absurd (none_at ((frame.shared).volumes).items v locks at_lock);
          rows = seated.each lane l.directory (mapped (λ (z : Lane S T A). z.directory) (frame.lanes).items lane l at);
        };
        waits = λ i w at.
            let within = slice_get_within (frame.waiting).items i w at in
            are.each (n - 1 - i) w (subst (λ m. slice_get volumes (m - 1 - i) ≡ Some w) many
            (sym (reversed_at volumes i (omega (arith, within, long, same))) ∙ (ap (λ z. slice_get z i) (sym waiting) ∙ at)));
        told = omega (arith, no_tags);
        lock_room = lock_room;
        wait_room = wait_room;
        tag_room = tag_room;
      }

  -- lanes of a frame sit at the Directory's lock
  pub still_at_rows : (old new : Frame V D S T A W) → IsFrame fits fits_rows is_of new → AreSameLocks old.shared new.shared
      → AreSeated fits_rows (old.shared).directory (old.shared).settings (length (new.lanes).items) (map (λ l. l.directory) (new.lanes).items)
  still_at_rows old new is same = record {
    many = length-map (new.lanes).items (λ l. l.directory);
    each = λ lane seat at.
        let l = unmapped (λ (z : Lane S T A). z.directory) (new.lanes).items lane seat at in
        subst (λ z. fits_rows z (old.shared).settings lane seat) same.directory
        (subst (λ (z : Settings). fits_rows (new.shared).directory z lane seat) same.settings
        (subst (fits_rows (new.shared).directory (new.shared).settings lane) l.2 (is.sits lane l.0 l.1).rows));
  }

  -- the volumes that wait are those of the store, in the other order
  pub volumes_again : (old new : Frame V D S T A W) → IsFrame fits fits_rows is_of new → AreSameLocks old.shared new.shared → ((old.shared).volumes).items ≡ []
      → AreVolumes is_of (old.shared).settings (reverse (new.waiting).items)
  volumes_again old new is same none =
      let n = ap (λ (z : Settings). z.volumes) same.settings in
      let all = is.all in
      let no = ap length (same.volumes ∙ none) in
      let long = length-reverse (new.waiting).items in record {
        many = omega (arith, n, all, no, long);
        each = λ v w at.
            let within = slice_get_within (reverse (new.waiting).items) v w at in
            let below : v < length (new.waiting).items = omega (arith, within, long) in
            let j : ℕ = length (new.waiting).items - 1 - v in
            let there : slice_get (new.waiting).items j ≡ Some w = sym (reversed_at (new.waiting).items v below) ∙ at in
            let number : ((new.shared).settings).volumes - 1 - j ≡ v = omega (arith, all, no, below) in
            subst (λ (z : Settings). is_of w z v) same.settings (subst (is_of w (new.shared).settings) number (is.waits j w there));
      }

module _ {V D S T A W : Type 0} {fits : ℕ → V → Settings → ℕ → S → Type 0} {fits_rows : D → Settings → ℕ → T → Type 0} {is_of : W → Settings → ℕ → Type 0}
    {is_at : S → StoreVolume → Type 0} {is_at_rows : T → Start → Type 0}
    {of : S → LockSight VolumeAct Entry} {of_rows : T → LockSight DirAct HomeRow} {arm_sure : A → Bool} {arm_faults : A → ℕ} {stands : W → VolumeKnown → Type 0} {faults fuses : W → ℕ → ℕ} where
  -- what was run from the frame in which no volume has a lock
  pub ran_all : (old new : Frame V D S T A W) (volumes : List W) (jobs : List (List Job)) (replies : List (List Reply)) → IsFrame fits fits_rows is_of old → IsFrame fits fits_rows is_of new
      → AreSameLocks old.shared new.shared → ((old.shared).volumes).items ≡ [] → (old.waiting).items ≡ reverse volumes
      → RanFrom fits fits_rows is_at is_at_rows of of_rows arm_sure arm_faults stands faults fuses old new jobs replies
      → RanAll fits fits_rows is_at is_at_rows of of_rows arm_sure arm_faults stands faults fuses (old.shared).settings (old.shared).directory (old.shared).drained volumes
      (map (λ l. l.directory) (old.lanes).items) (map (λ l. l.arm) (old.lanes).items) (reverse (new.waiting).items) (reverse (new.tags).items)
      (map (λ l. l.directory) (new.lanes).items) (map (λ l. l.arm) (new.lanes).items) jobs replies
  ran_all old new volumes jobs replies is_old is_new same none waiting ran =
      let n : ℕ = ((old.shared).settings).volumes in
      let all_old = is_old.all in
      let all_new = is_new.all in
      let no = ap length none in
      let no_new = ap length (same.volumes ∙ none) in
      let settings = ap (λ (z : Settings). z.volumes) same.settings in
      let long = ap length waiting in
      let long_reversed = length-reverse volumes in
      let told = ran.all_told in
      let many : length volumes ≡ n = omega (arith, all_old, no, long, long_reversed) in
      let many_new : length (new.waiting).items ≡ n = omega (arith, all_new, no_new, settings) in
      let many_tags : length (new.tags).items ≡ n = omega (arith, told, many_new) in record {
        locks = ran.locks;
        lanes = ran.lanes;
        seats_are = map_same (λ (l : Lane S T A). l.directory) ran.lanes (old.lanes).items (ran.before).many (λ i a b at_a at_b. ((ran.before).each i a b at_a at_b).directory);
        arms_are = map_same (λ (l : Lane S T A). l.arm) ran.lanes (old.lanes).items (ran.before).many (λ i a b at_a at_b. ((ran.before).each i a b at_a at_b).arm);
        seated = ran.seated;
        after = ran.after;
        seats_behind_are = map_same (λ (l : Lane S T A). l.directory) ran.after (new.lanes).items (ran.behind).many (λ i a b at_a at_b. ((ran.behind).each i a b at_a at_b).directory);
        arms_behind_are = map_same (λ (l : Lane S T A). l.arm) ran.after (new.lanes).items (ran.behind).many (λ i a b at_a at_b. ((ran.behind).each i a b at_a at_b).arm);
        answers = ran.answers;
        took = λ v below.
            let t = ran.volumes v (omega (arith, no)) below in record {
              before = t.before;
              was = sym (front_at volumes n v many below) ∙ (ap (λ z. slice_get z (n - 1 - v)) (sym waiting) ∙ t.was);
              behind = t.behind;
              is = back_at (new.waiting).items n v many_new below ∙ t.is;
              tags = t.tags;
              tags_are = back_at (new.tags).items n v many_tags below ∙ t.tags_are;
              regular = t.regular;
              seats = t.seats;
              of_lanes = t.of_lanes;
              unseen = t.unseen;
              at = t.at;
              ended = t.ended;
              of_after = t.of_after;
              left = t.left;
            };
        many_told = length-reverse (new.tags).items ∙ many_tags;
      }
    where
      -- an item of the list, or of the one in the other order
      back_at : {X : Type 0} (xs : List X) (n v : ℕ) → length xs ≡ n → v < n → slice_get (reverse xs) v ≡ slice_get xs (n - 1 - v)
      back_at xs n v long below = subst (λ m. slice_get (reverse xs) v ≡ slice_get xs (m - 1 - v)) long (reversed_at xs v (omega (arith, long, below)))

      front_at : {X : Type 0} (xs : List X) (n v : ℕ) → length xs ≡ n → v < n → slice_get (reverse xs) (n - 1 - v) ≡ slice_get xs v
      front_at xs n v long below =
          let back : n - 1 - (n - 1 - v) ≡ v = omega (arith, below) in
          back_at xs n (n - 1 - v) long (omega (arith, below)) ∙ ap (slice_get xs) back

-- WHERE NO LINE WAS ANSWERED

module _ {V D S T A W : Type 0} {stands : W → VolumeKnown → Type 0} {faults fuses : W → ℕ → ℕ} (old new : Frame V D S T A W) (back : IsBack stands faults fuses old new) where
  pub seats_back : map (λ l. l.directory) (new.lanes).items ≡ map (λ l. l.directory) (old.lanes).items
  seats_back = sym (map_same (λ (l : Lane S T A). l.directory) (old.lanes).items (new.lanes).items (back.lanes).many (λ i a b at_a at_b. ((back.lanes).each i a b at_a at_b).directory))

  pub arms_back : map (λ l. l.arm) (new.lanes).items ≡ map (λ l. l.arm) (old.lanes).items
  arms_back = sym (map_same (λ (l : Lane S T A). l.arm) (old.lanes).items (new.lanes).items (back.lanes).many (λ i a b at_a at_b. ((back.lanes).each i a b at_a at_b).arm))

  pub volumes_back : (volumes : List W) → (old.waiting).items ≡ reverse volumes → AreStill stands faults fuses (old.shared).settings volumes (reverse (new.waiting).items)
  volumes_back volumes waiting = subst (λ z. AreStill stands faults fuses (old.shared).settings z (reverse (new.waiting).items)) (ap reverse waiting ∙ reverse-reverse volumes)
      (still_reversed (old.waiting).items (new.waiting).items back.waiting)

  -- so does the store
  pub store_same : (settings : Settings) (locks : Vec V Global) (lock : D) (drained : Vec Bool Global) → old.shared ≡ shared_by settings locks lock drained → (before after : Locked D T A W)
      → map (λ l. l.directory) (old.lanes).items ≡ (before.seats).items → map (λ l. l.arm) (old.lanes).items ≡ (before.arms).items → (old.waiting).items ≡ reverse (before.volumes).items
      → (after.seats).items ≡ map (λ l. l.directory) (new.lanes).items → (after.arms).items ≡ map (λ l. l.arm) (new.lanes).items → (after.volumes).items ≡ reverse (new.waiting).items
      → IsSameStore stands faults fuses settings before after
  store_same settings locks lock drained shared before after seats arms volumes seats_behind arms_behind volumes_behind = record {
    seats = seats_behind ∙ (seats_back ∙ seats);
    volumes = subst (AreStill stands faults fuses settings (before.volumes).items) (sym volumes_behind)
        (subst (λ (z : Settings). AreStill stands faults fuses z (before.volumes).items (reverse (new.waiting).items)) (ap (λ (z : Shared V D). z.settings) shared)
        (volumes_back (before.volumes).items volumes));
    arms = arms_behind ∙ (arms_back ∙ arms);
  }

-- LANES WITHOUT SEATS

module _ {S T A : Type 0} (volumes : ℕ) (lanes : List (Lane S T A)) (rooms : List (Vec S Global)) (rooms_are : map (λ l. l.volumes) lanes ≡ rooms)
    (each : Each (λ room. (room.items ≡ []) × (volumes ≤ vec_capacity room)) rooms) where
  both : Each (λ l. ((l.volumes).items ≡ []) × (volumes ≤ vec_capacity l.volumes)) lanes
  both = each_unmapped (λ (l : Lane S T A). l.volumes) (λ room. (room.items ≡ []) × (volumes ≤ vec_capacity room)) lanes
      (subst (Each (λ room. (room.items ≡ []) × (volumes ≤ vec_capacity room))) (sym rooms_are) each)

  pub blank_lanes : Each (λ l. (l.volumes).items ≡ []) lanes
  blank_lanes = each_by (λ (l : Lane S T A). (l.volumes).items ≡ []) lanes
      (λ i l at. (each_at (λ (z : Lane S T A). ((z.volumes).items ≡ []) × (volumes ≤ vec_capacity z.volumes)) lanes i l both at).0)

  pub roomy_lanes : Each (λ l. volumes ≤ vec_capacity l.volumes) lanes
  roomy_lanes = each_by (λ (l : Lane S T A). volumes ≤ vec_capacity l.volumes) lanes
      (λ i l at. (each_at (λ (z : Lane S T A). ((z.volumes).items ≡ []) × (volumes ≤ vec_capacity z.volumes)) lanes i l both at).1)

-- ALL VOLUMES, as a caller names them

module _ {V D S T A W : Type 0} (fits : ℕ → V → Settings → ℕ → S → Type 0) (fits_rows : D → Settings → ℕ → T → Type 0) (is_of : W → Settings → ℕ → Type 0)
    (is_at : S → StoreVolume → Type 0) (is_at_rows : T → Start → Type 0)
    (of : S → LockSight VolumeAct Entry) (of_rows : T → LockSight DirAct HomeRow) (arm_sure : A → Bool) (arm_faults : A → ℕ) (stands : W → VolumeKnown → Type 0) (faults fuses : W → ℕ → ℕ) where
  abbrev RanWith : (shared : Shared V D) (volumes : List W) (seats : List T) (arms : List A) (behind : List W) (tags : List (Vec Tag Global)) (seats_behind : List T) (arms_behind : List A)
      (jobs : List (List Job)) (replies : List (List Reply)) → Type 0
  RanWith shared volumes seats arms behind tags seats_behind arms_behind jobs replies =
      RanAll fits fits_rows is_at is_at_rows of of_rows arm_sure arm_faults stands faults fuses shared.settings shared.directory shared.drained volumes seats arms behind tags
      seats_behind arms_behind jobs replies

  pub ran_whole : {X E : Type 0} (old new : Frame V D S T A W) (volumes : List W) (shared : Shared V D) (seats : List T) (arms : List A) (behind : List W)
      (tags : List (Vec Tag Global)) (seats_behind : List T) (arms_behind : List A)
      → IsFrame fits fits_rows is_of old → IsFrame fits fits_rows is_of new → AreSameLocks old.shared new.shared → ((old.shared).volumes).items ≡ [] → (old.waiting).items ≡ reverse volumes
      → old.shared ≡ shared → map (λ l. l.directory) (old.lanes).items ≡ seats → map (λ l. l.arm) (old.lanes).items ≡ arms → behind ≡ reverse (new.waiting).items → tags ≡ reverse (new.tags).items
      → seats_behind ≡ map (λ l. l.directory) (new.lanes).items → arms_behind ≡ map (λ l. l.arm) (new.lanes).items → (jobs : List (List Job)) (answer : Result X E) (replies : X → List (List Reply))
      → IfOk answer (λ r. RanFrom fits fits_rows is_at is_at_rows of of_rows arm_sure arm_faults stands faults fuses old new jobs (replies r))
      → IfOk answer (λ r. RanWith shared volumes seats arms behind tags seats_behind arms_behind jobs (replies r))
  ran_whole old new volumes shared seats arms behind tags seats_behind arms_behind is_old is_new same none waiting shared_is seats_are arms_are behind_is tags_are seats_last
      arms_last jobs answer replies =
      ok_weaker (λ r. RanFrom fits fits_rows is_at is_at_rows of of_rows arm_sure arm_faults stands faults fuses old new jobs (replies r))
      (λ r. RanWith shared volumes seats arms behind tags seats_behind arms_behind jobs (replies r))
      (λ r ran.
      subst (λ z. RanWith z volumes seats arms behind tags seats_behind arms_behind jobs (replies r)) shared_is
      (subst (λ z. RanWith old.shared volumes z arms behind tags seats_behind arms_behind jobs (replies r)) seats_are
      (subst (λ z. RanWith old.shared volumes (map (λ l. l.directory) (old.lanes).items) z behind tags seats_behind arms_behind jobs (replies r)) arms_are
      (subst (λ z. RanWith old.shared volumes (map (λ l. l.directory) (old.lanes).items) (map (λ l. l.arm) (old.lanes).items) z tags seats_behind arms_behind jobs (replies r)) (sym behind_is)
      (subst (λ z. RanWith old.shared volumes (map (λ l. l.directory) (old.lanes).items) (map (λ l. l.arm) (old.lanes).items) (reverse (new.waiting).items) z seats_behind
      arms_behind jobs (replies r)) (sym tags_are)
      (subst (λ z. RanWith old.shared volumes (map (λ l. l.directory) (old.lanes).items) (map (λ l. l.arm) (old.lanes).items) (reverse (new.waiting).items)
      (reverse (new.tags).items) z arms_behind jobs (replies r))
      (sym seats_last)
      (subst (λ z. RanWith old.shared volumes (map (λ l. l.directory) (old.lanes).items) (map (λ l. l.arm) (old.lanes).items) (reverse (new.waiting).items) (reverse (new.tags).items)
      (map (λ l. l.directory) (new.lanes).items) z jobs (replies r)) (sym arms_last)
      (ran_all old new volumes jobs (replies r) is_old is_new same none waiting ran)))))))) answer
