-- The answers of puts, whatever their calls answered.
use Rattle.std.proofs.Common.{◌≡◌, inl, inr, ℕ, zero, suc, ◌+◌, ◌-◌, ◌<◌, Bool, List, [], ◌∷◌, ◌++◌, length, map, refl, sym, ap, subst, ◌∙◌, arith, None, Ok, Err}
use Rattle.std.specs.List.{range_with_len}
use Rattle.std.proofs.lemmas.List.{map-append}
use Rattle.hay_needle.specs.declared.needle.Pair.{Pair}
use Rattle.hay_needle.specs.declared.needle.Cookie.{Cookie}
use Rattle.hay_needle.specs.declared.settings.Settings.{Settings}
use Rattle.hay_url.specs.Url.{cookie_of}
use Rattle.hay_script.specs.declared.Command.TheVariants as command
use Rattle.hay_reply.specs.declared.Refused.{Refused}
use Rattle.hay_reply.specs.declared.Refused.TheVariants.{Closed, NoRoom}
use Rattle.hay_reply.specs.declared.Reply.{Reply}
use Rattle.hay_reply.specs.declared.Reply.TheVariants as reply
use Rattle.hay_core.specs.declared.entry.CoreTag.{CoreTag}
use Rattle.hay_legal.specs.Known.{all_tries, try_at}
use Rattle.hay_meeting.specs.Acts.{Start}
use Rattle.hay_meeting.specs.Facts.{drained_in}
use Rattle.hay_meeting.specs.Sights.{Sight}
use Rattle.hay_holdings.specs.Lines.{Closes, HasTaker, IsAnswered, Refuses, Settled, Tried}
use Rattle.hay_holdings.specs.Rows.{DirectoryCall, MetFrozenDir, MetHome, RowAdded, RowFailed, RowWanted}
use Rattle.hay_holdings.specs.Sights.{AtDirectory, AtVolume, Idle}
use Rattle.hay_holdings.specs.Volumes as calls
use Rattle.hay_holdings.proofs.Going.{quiet_went, went_idle}
use Rattle.hay_holdings.proofs.PutAnswers as puts
use Rattle.hay_holdings.proofs.Unchanged.{idle_unchanged, wants_memory}
use Rattle.hay_directory.specs.declared.fault.DirFault.{DirFault}
use Rattle.hay_directory.specs.declared.fault.DirFault.TheVariants as settling
use Rattle.hay_shared_volume.specs.declared.answers.Put.{Put}
use Rattle.hay_shared_volume.specs.declared.answers.Put.TheVariants as put
use Rattle.hay_shared_volume.specs.declared.answers.Room.{Room}
use Rattle.hay_shared_volume.specs.declared.answers.Room.TheVariants as room
use Rattle.hay_lane.specs.Puts.{IsPutReply, IsRefusal, TryTells, room_refusal, settle_reply}
use Rattle.hay_lane.specs.Replies.{IsReadOnly}
use Rattle.hay_shared_volume.specs.Tellings.{PutTells, RoomTells}
use Rattle.hay_lane.specs.Tellings.{SettleTells}
use Rattle.hay_lane.proofs.Changed.{closes_refuses}
use Rattle.hay_lane.proofs.Maintained.{call_as}

rows_as : (Is Is' : DirectoryCall) {a b : Sight} (x : AtDirectory Is a b) → Is' a.directory b.directory → AtDirectory Is' a b
rows_as Is Is' x is = record { is = is; volumes = x.volumes; arm = x.arm }

-- THE TRIES IN THEIR ORDER

pub range_parts : (at n k : ℕ) → range_with_len at (n + suc k) ≡ range_with_len at n ++ (at + n) ∷ range_with_len (at + n + 1) k
range_parts at zero k =
    let e : zero + suc k ≡ suc k = omega arith in
    let f : at ≡ at + zero = omega arith in ap (λ n. range_with_len at n) e ∙ ap (λ i. i ∷ range_with_len (i + 1) k) f
range_parts at (suc n) k =
    let e : suc n + suc k ≡ suc (n + suc k) = omega arith in
    let f : at + 1 + n ≡ at + suc n = omega arith in
    ap (λ n. range_with_len at n) e ∙ (ap (λ xs. at ∷ xs) (range_parts (at + 1) n k) ∙ ap (λ i. at ∷ (range_with_len (at + 1) n ++ i ∷ range_with_len (i + 1) k)) f)

-- the first n of a pair's tries
abbrev pub first_tries : Settings → Pair → ℕ → List ℕ
first_tries settings pair n = map (try_at settings pair) (range_with_len 0 n)

pub tries_parts : (settings : Settings) (pair : Pair) (n k m : ℕ) → m ≡ n + suc k
    → first_tries settings pair m ≡ first_tries settings pair n ++ try_at settings pair n ∷ map (try_at settings pair) (range_with_len (n + 1) k)
tries_parts settings pair n k m is =
    let e : 0 + n ≡ n = omega arith in
    ap (first_tries settings pair) is ∙ (ap (map (try_at settings pair)) (range_parts 0 n k ∙ ap (λ i. range_with_len 0 n ++ i ∷ range_with_len (i + 1) k) e)
    ∙ map-append (try_at settings pair) (range_with_len 0 n) (n ∷ range_with_len (n + 1) k))

module _ (settings : Settings) (start : Start) (drained : List Bool) (tag : CoreTag) where
  -- ONE TRY

  module _ (v size : ℕ) {a b : Sight} where
    -- at a volume that no drain closes
    pub room_tells : (answer : Room) → drained_in settings drained v ≡ None → AtVolume v (RoomTells (record { settings = settings; start = start; number = v }) tag size answer) a b
        → TryTells settings start drained tag v size (room_refusal v answer) a b
    room_tells room.Fits open_machines x = (open_machines, x)
    room_tells (room.Frozen m) open_machines x =
        call_as (calls.MetFrozen settings start v tag m) (Refuses settings start drained v tag size (Closed v m)) x (puts.frozen_refuses settings start drained v tag size x.is)
    room_tells (room.Lacks m end need) open_machines x =
        call_as (calls.RoomLacks settings start v tag size (NoRoom v m end need)) (Refuses settings start drained v tag size (NoRoom v m end need)) x
        (puts.lacking_refuses settings start drained v tag size open_machines x.is)

  module _ {pair : Pair} {size : ℕ} (n : ℕ) {refused : List Refused} {a m b : Sight} (tried : Tried settings start drained tag pair size (first_tries settings pair n) refused a m) where
    -- one more that refuses
    pub one_more : {refusal : Refused} (v : ℕ) → v ≡ try_at settings pair n → v < settings.volumes → AtVolume v (Refuses settings start drained v tag size refusal) m b
        → Tried settings start drained tag pair size (first_tries settings pair (n + 1)) (refused ++ refusal ∷ []) a b
    one_more {refusal} v is below x =
        let e : n + 1 ≡ n + suc 0 = omega arith in
        subst (λ vs. Tried settings start drained tag pair size vs (refused ++ refusal ∷ []) a b)
        (ap (λ u. first_tries settings pair n ++ u ∷ []) is ∙ sym (tries_parts settings pair n 0 (n + 1) e))
        (puts.try_refuses settings start drained tag below tried x)

    -- the next one takes the photo
    pub takes_next : (v : ℕ) → v ≡ try_at settings pair n → n < settings.volumes → v < settings.volumes → TryTells settings start drained tag v size None m b
        → HasTaker settings start drained tag pair size v a b
    takes_next v is more below x =
        let k : ℕ = settings.volumes - n - 1 in
        let e : settings.volumes ≡ n + suc k = omega (arith, more) in
        puts.try_takes settings start drained tag (map (try_at settings pair) (range_with_len (n + 1) k)) below x.0
        (tries_parts settings pair n k settings.volumes e ∙ ap (λ u. first_tries settings pair n ++ u ∷ map (try_at settings pair) (range_with_len (n + 1) k)) (sym is)) tried x.1

    -- memory was wanting for its refusal
    pub tries_wanted : {refusal : Refused} {v : ℕ} → AtVolume v (Refuses settings start drained v tag size refusal) m b → Idle tag a b
    tries_wanted x = went_idle tried.idle (quiet_went x ((x.is).is).0)

  module _ (pair : Pair) (bytes : List ℕ) (a : Sight) where
    abbrev pub PutAnswered : Sight → Reply → Type 0
    PutAnswered b r = IsAnswered settings start drained tag (command.Put pair bytes) r a b

    pub idle_wanted : {b : Sight} → Idle tag a b → PutAnswered b reply.NoMem
    idle_wanted idle = wants_memory settings start drained (idle_unchanged idle) (command.Put pair bytes) (λ pick e. absurd (cc e))

    pub nobody_answered : {b : Sight} {refused : List Refused} {r : Reply} → Tried settings start drained tag pair (length bytes) (all_tries settings pair) refused a b
        → IsRefusal refused r → PutAnswered b r
    nobody_answered {b} tried (inl full) = subst (PutAnswered b) (sym full.0) (puts.put_full settings start drained tag bytes tried full.1)
    nobody_answered {b} tried (inr (inl closed)) = subst (PutAnswered b) (sym closed.1) (puts.put_closed settings start drained tag bytes tried (sym closed.2))
    nobody_answered {b} tried (inr (inr is)) = subst (PutAnswered b) (sym is) (idle_wanted tried.idle)

    -- THE ROW

    module _ {v : ℕ} {m b : Sight} (has : HasTaker settings start drained tag pair (length bytes) v a m) where
      pub settled_by : (home d : ℕ) → AtDirectory (SettleTells start tag (record { pair = pair; volume = v }) (Ok (home, d))) m b → Settled settings start drained tag pair (length bytes) d home a b
      settled_by home d x = elim x.is [
        | inl met ↦ puts.meets_home settings start drained tag has (rows_as _ (MetHome start tag pair home d) x met)
        | inr added ↦ subst (λ u. Settled settings start drained tag pair (length bytes) d u a b) (sym added.0)
            (puts.adds_row settings start drained tag has (rows_as _ (RowAdded start tag pair v d) x added.1))
      ]

      pub row_refused : (fault : DirFault) {r : Reply} → AtDirectory (SettleTells start tag (record { pair = pair; volume = v }) (Err fault)) m b → r ≡ settle_reply fault → PutAnswered b r
      row_refused settling.Frozen x is = subst (PutAnswered b) (sym is) (puts.put_frozen_dir settings start drained tag bytes has (rows_as _ (MetFrozenDir start tag) x x.is))
      row_refused settling.NoMemory x is = subst (PutAnswered b) (sym is) (puts.put_row_wanted settings start drained tag bytes has (rows_as _ (RowWanted start tag pair v) x x.is))
      row_refused (settling.Failed f) x is = subst (PutAnswered b) (sym is) (puts.put_failed_dir settings start drained tag bytes has (rows_as _ (RowFailed start tag pair v f) x x.is))

    -- AT THE HOME

    module _ {d v : ℕ} {m b : Sight} (settled : Settled settings start drained tag pair (length bytes) d v a m) (below : v < settings.volumes) where
      -- memory was wanting to say why it refuses
      refusal_wanted : {refusal : Refused} → AtVolume v (Refuses settings start drained v tag (length bytes) refusal) m b → PutAnswered b reply.NoMem
      refusal_wanted x = puts.put_settled_wanted settings start drained tag bytes settled below (quiet_went x ((x.is).is).0)

      closed_as : {machine : ℕ} {r : Reply} → AtVolume v (Refuses settings start drained v tag (length bytes) (Closed v machine)) m b → IsReadOnly v machine r → PutAnswered b r
      closed_as {machine} x (inl is) = subst (PutAnswered b) (sym is) (puts.put_home_closed settings start drained tag bytes settled below {by = record { volume = v; machine = machine }} x)
      closed_as x (inr is) = subst (PutAnswered b) (sym is) (refusal_wanted x)

      pub put_closed_answered : {machine : ℕ} {r : Reply} → AtVolume v (Closes settings start drained v tag machine) m b → IsReadOnly v machine r → PutAnswered b r
      put_closed_answered x is = closed_as (closes_refuses settings start drained v tag (length bytes) x) is

      module _ (open_machines : drained_in settings drained v ≡ None) (cookie : Cookie) (own : cookie ≡ cookie_of settings.secret pair.key) where
        pub put_answered : (answer : Put) (r : Reply) → AtVolume v (PutTells (record { settings = settings; start = start; number = v }) tag pair cookie bytes answer) m b
            → IsPutReply v d cookie answer r → PutAnswered b r
        put_answered (put.Stored p) r x is = subst (PutAnswered b) (sym is) (puts.put_stored settings start drained tag bytes settled below open_machines own x)
        put_answered (put.Frozen machine) r x is =
            closed_as (call_as (calls.MetFrozen settings start v tag machine) (Refuses settings start drained v tag (length bytes) (Closed v machine)) x
            (puts.frozen_refuses settings start drained v tag (length bytes) x.is)) is
        put_answered (put.Lacks machine end need) r x is =
            let lacks : AtVolume v (Refuses settings start drained v tag (length bytes) (NoRoom v machine end need)) m b =
            call_as (calls.RoomLacks settings start v tag (length bytes) (NoRoom v machine end need)) (Refuses settings start drained v tag (length bytes) (NoRoom v machine end need)) x
            (puts.lacking_refuses settings start drained v tag (length bytes) open_machines x.is) in
            elim is [
              | inl full ↦ subst (PutAnswered b) (sym full) (puts.put_home_full settings start drained tag bytes settled below refl lacks)
              | inr none ↦ subst (PutAnswered b) (sym none) (refusal_wanted lacks)
            ]
        put_answered (put.Failed machine f) r x is =
            subst (PutAnswered b) (sym is) (puts.put_failed settings start drained tag bytes settled below open_machines
            (subst (λ k. AtVolume v (calls.PutFailed settings start v tag pair k bytes machine f) m b) own x))
        put_answered put.NoMemory r x is =
            subst (PutAnswered b) (sym is) (puts.put_wanted settings start drained tag bytes settled below open_machines
            (subst (λ k. AtVolume v (calls.PutWanted settings start v tag pair k bytes) m b) own x))
