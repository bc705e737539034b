-- A call at a seat is a step of its lane.
use Rattle.std.proofs.Common.{◌≡◌, ◌≢◌, ◌⊎◌, ℕ, ◌^◌, ◌<◌, ◌≤◌, List, length, Some, refl, sym, ap, subst, ◌∙◌, arith}
use Rattle.std.specs.Prelude.{slice_get, slice_index_or, slice_set}
use Rattle.std.proofs.lemmas.List.{with_items_is}
use Rattle.std.specs.Vec.{with_items}
use mathlib.Core.Logic.{dite}
use native.Mathlib.Decide.{ℕ_discrete}
use Rattle.hay_needle.specs.declared.settings.Settings.{Settings}
use Rattle.hay_core.specs.declared.entry.Entry.{Entry}
use Rattle.hay_legal.specs.declared.known.HomeRow.{HomeRow}
use Rattle.hay_meeting.specs.declared.act.DirAct.{DirAct}
use Rattle.hay_meeting.specs.declared.act.VolumeAct.{VolumeAct}
use Rattle.hay_meeting.specs.Acts.{Start}
use Rattle.hay_meeting.specs.Locks.{LockSight}
use Rattle.hay_holdings.specs.Rows.{DirectoryCall}
use Rattle.hay_holdings.specs.Sights.{AtArm, AtDirectory, AtVolume}
use Rattle.hay_holdings.specs.Volumes.{VolumeCall}
use Rattle.hay_lane.specs.declared.lane.Lane.{Lane}
use Rattle.hay_lane.specs.declared.lane.Shared.{Shared}
use Rattle.hay_lane.specs.Fuses.{IsUnfused, SetNoRowFuse}
use Rattle.hay_lane.specs.Lanes.{IsOf, IsSeated, known_by, sight}
use Rattle.hay_shared_volume.specs.Tellings.{Stays, StoreVolume}
use Rattle.hay_volume_lock.specs.Acts.{SetNoFuse}
use Rattle.hay_lane.proofs.Lists.{get_read, get_set, get_set_other, length_set}

module _ {V D S T A : Type 0} (fits : ℕ → V → Settings → ℕ → S → Type 0) (fits_rows : D → Settings → ℕ → T → Type 0) (shared : Shared V D) (number : ℕ) (lane : Lane S T A)
    (seated : IsSeated fits fits_rows shared number lane) where
  -- AT A VOLUME, by its lock and the seat

  module _ (v : ℕ) (below : v < (shared.settings).volumes) {locks : List V} {seats : List S} (locks_are : locks ≡ (shared.volumes).items) (seats_are : seats ≡ (lane.volumes).items)
      (lock : V) (seat : S) where
    lock_at : slice_get (shared.volumes).items v ≡ Some (slice_index_or locks v lock)
    lock_at = let e = seated.locks in let long = ap length locks_are in
        subst (λ vs. slice_get vs v ≡ Some (slice_index_or locks v lock)) locks_are (get_read locks v lock (omega (arith, below, e, long)))

    pub long_enough : v < length seats
    long_enough = let e = seated.seats in let long = ap length seats_are in omega (arith, below, e, long)

    pub seat_at : slice_get (lane.volumes).items v ≡ Some (slice_index_or seats v seat)
    seat_at = subst (λ ss. slice_get ss v ≡ Some (slice_index_or seats v seat)) seats_are (get_read seats v seat long_enough)

    -- so the seat may be called
    pub fits_here : (found : V) → found ≡ slice_index_or locks v lock → fits v found shared.settings number (slice_index_or seats v seat)
    fits_here found is = subst (λ x. fits v x shared.settings number (slice_index_or seats v seat)) (sym is) (seated.each v (slice_index_or locks v lock) (slice_index_or seats v seat) lock_at seat_at)

    -- and has become another
    module _ (found : V) (found_is : found ≡ slice_index_or locks v lock) (new : S) where
      abbrev pub moved : Lane S T A
      moved = record { volumes = with_items lane.volumes (slice_set seats v new); directory = lane.directory; arm = lane.arm }

      pub items_are : (moved.volumes).items ≡ slice_set seats v new
      items_are = with_items_is lane.volumes (slice_set seats v new) (length_set seats v new ∙ (ap length seats_are ∙ sym (lane.volumes).ok.0))

      now_at : slice_get (moved.volumes).items v ≡ Some new
      now_at = ap (λ ss. slice_get ss v) items_are ∙ get_set seats v new long_enough

      still_at : (u : ℕ) → u ≢ v → slice_get (moved.volumes).items u ≡ slice_get (lane.volumes).items u
      still_at u differs = ap (λ ss. slice_get ss u) items_are ∙ (get_set_other seats u v new differs ∙ ap (λ ss. slice_get ss u) seats_are)

      same_seat : (s : S) → slice_get (moved.volumes).items v ≡ Some s → new ≡ s
      same_seat s is = let both : Some new ≡ Some s = sym now_at ∙ is in cc

      module _ (is_at : S → StoreVolume → Type 0) (stays : Stays (fits v) is_at found (slice_index_or seats v seat) new) where
        pub still_seated : IsSeated fits fits_rows shared number moved
        still_seated = record {
          machines = seated.machines;
          some = seated.some;
          replicas = seated.replicas;
          fewer = seated.fewer;
          few = seated.few;
          drains = seated.drains;
          locks = seated.locks;
          seats = ap length items_are ∙ (length_set seats v new ∙ (ap length seats_are ∙ seated.seats));
          each = λ u volume s there has. dite (ℕ_discrete u v)
              (λ same.
              let here : slice_get (shared.volumes).items v ≡ Some volume = subst (λ w. slice_get (shared.volumes).items w ≡ Some volume) same there in
              let lock_is : found ≡ volume = let both : Some (slice_index_or locks v lock) ≡ Some volume = sym lock_at ∙ here in cc in
              let seat_is : new ≡ s = same_seat s (subst (λ w. slice_get (moved.volumes).items w ≡ Some s) same has) in
              subst (λ w. fits w volume shared.settings number s) (sym same)
              (subst (λ x. fits v x shared.settings number s) lock_is (subst (fits v found shared.settings number) seat_is (stays.fits_still shared.settings number (fits_here found found_is)))))
              (λ differs. seated.each u volume s there (sym (still_at u differs) ∙ has));
          rows = seated.rows;
        }

        pub still_of : (is_at_rows : T → Start → Type 0) (settings : Settings) (start : Start) → IsOf is_at is_at_rows settings start lane → IsOf is_at is_at_rows settings start moved
        still_of is_at_rows settings start of = record {
          each = λ u s has. dite (ℕ_discrete u v)
              (λ same.
              let seat_is : new ≡ s = same_seat s (subst (λ w. slice_get (moved.volumes).items w ≡ Some s) same has) in
              subst (λ w. is_at s (record { settings = settings; start = start; number = w })) (sym same)
              (subst (λ x. is_at x (record { settings = settings; start = start; number = v })) seat_is
              (stays.at_still (record { settings = settings; start = start; number = v }) (of.each v (slice_index_or seats v seat) seat_at))))
              (λ differs. of.each u s (sym (still_at u differs) ∙ has));
          rows = of.rows;
        }

      -- a lane that set no fuse has set none
      pub still_unfused : (of : S → LockSight VolumeAct Entry) (of_rows : T → LockSight DirAct HomeRow) → (SetNoFuse (of (slice_index_or seats v seat)).own → SetNoFuse (of new).own)
          → IsUnfused of of_rows lane → IsUnfused of of_rows moved
      still_unfused of of_rows unfused before = record {
        volumes = λ u s has. dite (ℕ_discrete u v)
            (λ same. subst (λ x. SetNoFuse (of x).own) (same_seat s (subst (λ w. slice_get (moved.volumes).items w ≡ Some s) same has))
            (unfused (before.volumes v (slice_index_or seats v seat) seat_at)))
            (λ differs. before.volumes u s (sym (still_at u differs) ∙ has));
        rows = before.rows;
      }

      -- what the call told is a step of the lane
      pub stepped : (of : S → LockSight VolumeAct Entry) (of_rows : T → LockSight DirAct HomeRow) (faults : A → ℕ) (Is : VolumeCall) → Is (of (slice_index_or seats v seat)) (of new)
          → AtVolume v Is (sight of of_rows faults lane) (sight of of_rows faults moved)
      stepped of of_rows faults Is is = record {
        is = subst (λ x. Is (known_by of (slice_get (lane.volumes).items v)) (known_by of x)) (sym now_at)
            (subst (λ x. Is (known_by of x) (of new)) (sym seat_at) is);
        others = λ u differs. ap (known_by of) (still_at u differs);
        directory = refl;
        arm = refl;
      }

  -- AT THE DIRECTORY

  module _ (new : T) where
    abbrev pub moved_rows : Lane S T A
    moved_rows = record { volumes = lane.volumes; directory = new; arm = lane.arm }

    module _ (is_at_rows : T → Start → Type 0) (stays : Stays fits_rows is_at_rows shared.directory lane.directory new) where
      pub still_seated_rows : IsSeated fits fits_rows shared number moved_rows
      still_seated_rows = record {
        machines = seated.machines;
        some = seated.some;
        replicas = seated.replicas;
        fewer = seated.fewer;
        few = seated.few;
        drains = seated.drains;
        locks = seated.locks;
        seats = seated.seats;
        each = seated.each;
        rows = stays.fits_still shared.settings number seated.rows;
      }

      pub still_of_rows : (is_at : S → StoreVolume → Type 0) (settings : Settings) (start : Start) → IsOf is_at is_at_rows settings start lane → IsOf is_at is_at_rows settings start moved_rows
      still_of_rows is_at settings start of = record { each = of.each; rows = stays.at_still start of.rows }

    pub unfused_rows : (of : S → LockSight VolumeAct Entry) (of_rows : T → LockSight DirAct HomeRow) → (SetNoRowFuse (of_rows lane.directory).own → SetNoRowFuse (of_rows new).own)
        → IsUnfused of of_rows lane → IsUnfused of of_rows moved_rows
    unfused_rows of of_rows unfused before = record { volumes = before.volumes; rows = unfused before.rows }

    pub stepped_rows : (of : S → LockSight VolumeAct Entry) (of_rows : T → LockSight DirAct HomeRow) (faults : A → ℕ) (Is : DirectoryCall) → Is (of_rows lane.directory) (of_rows new)
        → AtDirectory Is (sight of of_rows faults lane) (sight of of_rows faults moved_rows)
    stepped_rows of of_rows faults Is is = record { is = is; volumes = λ v. refl; arm = refl }

  -- AT THE ARM

  module _ (new : A) where
    abbrev pub moved_arm : Lane S T A
    moved_arm = record { volumes = lane.volumes; directory = lane.directory; arm = new }

    pub still_seated_arm : IsSeated fits fits_rows shared number moved_arm
    still_seated_arm = record {
      machines = seated.machines;
      some = seated.some;
      replicas = seated.replicas;
      fewer = seated.fewer;
      few = seated.few;
      drains = seated.drains;
      locks = seated.locks;
      seats = seated.seats;
      each = seated.each;
      rows = seated.rows;
    }

    pub still_of_arm : (is_at : S → StoreVolume → Type 0) (is_at_rows : T → Start → Type 0) (settings : Settings) (start : Start) → IsOf is_at is_at_rows settings start lane
        → IsOf is_at is_at_rows settings start moved_arm
    still_of_arm is_at is_at_rows settings start of = record { each = of.each; rows = of.rows }

    pub unfused_arm : (of : S → LockSight VolumeAct Entry) (of_rows : T → LockSight DirAct HomeRow) → IsUnfused of of_rows lane → IsUnfused of of_rows moved_arm
    unfused_arm of of_rows before = record { volumes = before.volumes; rows = before.rows }

    pub fetched : (of : S → LockSight VolumeAct Entry) (of_rows : T → LockSight DirAct HomeRow) (faults : A → ℕ) → faults lane.arm ≤ faults new → (faults new ≡ faults lane.arm) ⊎ (faults new < 2 ^ 64)
        → AtArm (sight of of_rows faults lane) (sight of of_rows faults moved_arm)
    fetched of of_rows faults later most = record { volumes = λ v. refl; directory = refl; arm = later; most = most }
