-- Blocks of lanes that are not legal, each for one wrong reply or for one wrong thing that it leaves.
use Rattle.std.specs.Prelude.{◌≡◌, ◌≢◌, ◌⊎◌, ◌++◌, cond, ℕ, zero, suc, ◌+◌, ◌-◌, ◌^◌, ◌<◌, ◌≤◌, ◌==◌, ◌&&◌, ◌||◌, not, Bool, true, false, List, [], ◌∷◌, length, take_while}
use Rattle.std.specs.Prelude.{slice_get, take, drop, count_by, Contains, Option, Some, None, flat_map, option_map}
use Rattle.std.specs.List.{AllByRecursion as Each, AllZip}
use Rattle.std.proofs.Common.{refl, sym, ap, subst, inl, inr, ◌∙◌, arith, sum_by}
use Rattle.std.proofs.lemmas.Bool.{eq-eqb}
use Rattle.std.proofs.lemmas.List.Elements.{All-contains, All-from_recursion, Contains-append_left, Contains-append_right}
use Rattle.std.proofs.lemmas.Option.{none-some, same_Some}
use Rattle.std.proofs.lemmas.List.Sums.{sum_by-cons}
use Rattle.hay_needle.specs.declared.needle.Pair.{Pair}
use Rattle.hay_needle.specs.declared.needle.Cookie.{Cookie}
use Rattle.hay_needle.specs.declared.settings.Settings.{Settings}
use Rattle.hay_needle.specs.Sizes.{needle_total}
use Rattle.hay_needle.specs.declared.settings.TheConstants.{LAST_GENERATION}
use Rattle.hay_url.specs.declared.Url.{Url as UrlParts}
use Rattle.hay_url.specs.Url.{cookie_of}
use Rattle.hay_script.specs.declared.Command.{Command}
use Rattle.hay_script.specs.declared.Command.TheVariants as command
use Rattle.hay_reply.specs.declared.Cause.TheVariants.{Disk}
use Rattle.hay_reply.specs.declared.LineVolume.{LineVolume}
use Rattle.hay_reply.specs.declared.Refused.{Refused}
use Rattle.hay_reply.specs.declared.Refused.TheVariants.{NoRoom, Closed}
use Rattle.hay_reply.specs.declared.Reply.{Reply}
use Rattle.hay_reply.specs.declared.Reply.TheVariants as reply
use Rattle.hay_core.specs.declared.entry.CoreTag.{CoreTag}
use Rattle.hay_core.specs.declared.entry.Entry.{Entry}
use Rattle.hay_core.specs.declared.entry.Entry.TheVariants as entry
use Rattle.hay_core.specs.declared.entry.Logged.{Logged}
use Rattle.hay_legal.specs.declared.known.HomeRow.{HomeRow}
use Rattle.hay_legal.specs.declared.known.Known.{Known}
use Rattle.hay_legal.specs.declared.known.Pending.{Pending}
use Rattle.hay_legal.specs.declared.known.PendingRow.{PendingRow}
use Rattle.hay_legal.specs.declared.known.Run.{Run}
use Rattle.hay_legal.specs.declared.turn.Item.TheVariants as asks
use Rattle.hay_legal.specs.declared.turn.LaneItem.{LaneItem}
use Rattle.hay_legal.specs.declared.turn.LogNote.{LogNote}
use Rattle.hay_legal.specs.declared.turn.RowNote.{RowNote}
use Rattle.hay_legal.specs.Known.{CameUp, EachPair, all_tries, closed, closed_by, drained_of, fault_count, home_of, machine_of, replica_at, replica_on, replicas_of, slot_of, volume_at}
use Rattle.hay_legal.specs.Blocks.{CompactIsLegal, DeletesOn, DiskIsLegal, FlushIsLegal, FreezeIsLegal, Freezes, HomeInBlock, FrontsGrow, InOrder, IsAt, IsEntered, IsNewRow}
use Rattle.hay_legal.specs.Blocks.{LacksRoom, LegalBlock, LineIsLegal, MayEndAt, MayHaveAdded, MayHaveFrozen, MayPrecede, MayRefuse, Printed, RecordsAreLegal, ReplicaIsLegal}
use Rattle.hay_legal.specs.Blocks.{RefusesPut, StandsBefore, SticksBy, SwappedBefore, SwappedWhere, VolumeIsLegal, WasFrozen, WasSwapped, disk_prints, end_with_puts, flushed_on}
use Rattle.hay_legal.specs.Blocks.{fronts_told, froze_at_compact, generation_print, highest_end, is_compacted, is_failed, is_put, is_wanting, lane_items, made_on, new_entries}
use Rattle.hay_legal.specs.Blocks.{new_rows, pending_behind, printed, put_total, puts_until, row_faults, row_failed, sticks_on}
use Rattle.hay_legal.proofs.Subject.Entries.{each_in_range}

-- LISTS

each_in : {X : Type 0} (P : X → Type 0) (xs : List X) (x : X) → Each P xs → Contains xs x → P x
each_in P xs x each at = All-contains P xs x (All-from_recursion P xs each) at

the_only : (x y : LaneItem) → Contains (x ∷ []) y → x ≡ y
the_only x y (zero, below, is) = is
the_only x y (suc i, below, is) = absurd (omega (arith, below))

-- what stands in the second list stands beside something in the first
zip_beside : {A B : Type 0} (R : A → B → Type 0) (xs : List A) (ys : List B) (y : B) → AllZip R xs ys → Contains ys y → (x : A) × R x y
zip_beside R [] [] y zip at = absurd (omega (arith, at.1))
zip_beside R (x ∷ xs) [] y zip at = absurd zip
zip_beside R [] (z ∷ ys) y zip at = absurd zip
zip_beside R (x ∷ xs) (z ∷ ys) y zip (zero, below, is) = (x, subst (R x) is zip.0)
zip_beside R (x ∷ xs) (z ∷ ys) y zip (suc i, below, is) = zip_beside R xs ys y zip.1 (i, omega (arith, below), is)

abbrev answered : ℕ → ℕ → Command → Reply → LaneItem
answered lane line asked answer = record { line = line; lane = lane; item = asks.Command asked; reply = answer }

-- what a line prints of the Directory's disk is printed in the block
printed_in : (xs : List LaneItem) (x : LaneItem) (f : ℕ) → Contains xs x → Contains (row_faults x.reply) f → Contains (flat_map (λ item. row_faults item.reply) xs) f
printed_in [] x f at printed = absurd (omega (arith, at.1))
printed_in (y ∷ xs) x f (zero, below, is) printed =
    Contains-append_left (row_faults y.reply) (flat_map (λ item. row_faults item.reply) xs) f (subst (λ (z : LaneItem). Contains (row_faults z.reply) f) (sym is) printed)
printed_in (y ∷ xs) x f (suc i, below, is) printed =
    Contains-append_right (row_faults y.reply) (flat_map (λ item. row_faults item.reply) xs) f (printed_in xs x f (i, omega (arith, below), is) printed)

-- a put that a log has behind its first entries is one of those behind them
put_counted : (log : List Logged) (n i : ℕ) (logged : Logged) → n ≤ i → slice_get log i ≡ Some logged → is_put logged ≡ true → 0 < count_by is_put (drop n log)
put_counted [] n i logged low at is = absurd (none-some logged at)
put_counted (x ∷ log) zero zero logged low at is =
    let one : ◌≡◌ {A = ℕ} (cond (is_put x) 1 0) 1 = ap (λ (l : Logged). cond (is_put l) 1 0) (same_Some x logged at) ∙ ap (λ (b : Bool). cond b 1 0) is in
    omega (arith, one, sum_by-cons (λ (l : Logged). cond (is_put l) 1 0) x log)
put_counted (x ∷ log) zero (suc i) logged low at is =
    omega (arith, put_counted log zero i logged (omega arith) at is, sum_by-cons (λ (l : Logged). cond (is_put l) 1 0) x log)
put_counted (x ∷ log) (suc n) zero logged low at is = absurd (omega (arith, low))
put_counted (x ∷ log) (suc n) (suc i) logged low at is = put_counted log n i logged (omega (arith, low)) at is

module _ {settings : Settings} {k : Known} {items : List LaneItem} {logs : List LogNote} {rows : RowNote} {t : Known} (b : LegalBlock settings k items logs rows t) where
  line : (item : LaneItem) → Contains items item → LineIsLegal settings k items t item
  line item among = each_in (LineIsLegal settings k items t) items item b.lines among

  volume : (v : ℕ) → v < settings.volumes → VolumeIsLegal settings k items rows t v
  volume v below = each_in_range (VolumeIsLegal settings k items rows t) 0 settings.volumes v b.volumes (omega arith) (omega (arith, below))

  -- a volume loses a replica
  pub replica_lost : (v : ℕ) → v < settings.volumes → length (volume_at t v).replicas < length (volume_at k v).replicas → ⊥
  replica_lost v below fewer = omega (arith, fewer, (volume v below).many)

  replica : (v j : ℕ) → (below : v < settings.volumes) → j < settings.replicas
      → ReplicaIsLegal settings k items t v (volume v below).froze j (replica_at (volume_at k v) j) (replica_at (volume_at t v) j)
  replica v j below within =
      each_in_range (λ i. ReplicaIsLegal settings k items t v (volume v below).froze i (replica_at (volume_at k v) i) (replica_at (volume_at t v) i)) 0 settings.replicas j
      (volume v below).replicas (omega arith) (omega (arith, within))

  -- VOLUMES THAT WERE CLOSED BEFORE THE BLOCK

  never_closed : (v m : ℕ) → closed settings k v ≡ None → closed settings k v ≡ Some m → ⊥
  never_closed v m thawed is = none-some m (sym thawed ∙ is)

  stored_on_closed : (lane n v m p d : ℕ) (c : Cookie) (pair : Pair) (bytes : List ℕ) → closed settings k v ≡ Some m
      → Contains items (answered lane n (command.Put pair bytes) (reply.Stored v p d c)) → ⊥
  stored_on_closed lane n v m p d c pair bytes is among = never_closed v m (line _ among).2.0 is

  put_failed_on_closed : (lane n v m m' f : ℕ) (pair : Pair) (bytes : List ℕ) → closed settings k v ≡ Some m
      → Contains items (answered lane n (command.Put pair bytes) (reply.Failed v m' f)) → ⊥
  put_failed_on_closed lane n v m m' f pair bytes is among = never_closed v m (line _ among).2.0 is

  no_room_on_closed : (size u v m m' end need : ℕ) → closed settings k v ≡ Some m → MayRefuse settings k items t size u (NoRoom v m' end need) → ⊥
  no_room_on_closed size u v m m' end need is may = never_closed u m may.1 (ap (closed settings k) (sym may.0) ∙ is)

  -- a group of a put's reply is a refusal of some try, or of the home
  full_refuses : (lane n : ℕ) (refused : List Refused) (named : Refused) (pair : Pair) (bytes : List ℕ) → Contains refused named
      → Contains items (answered lane n (command.Put pair bytes) (reply.Full refused)) → (u : ℕ) × MayRefuse settings k items t (length bytes) u named
  full_refuses lane n refused named pair bytes group among = by refused group (line _ among).0
    where
      by : (refused : List Refused) → Contains refused named → RefusesPut settings k items t pair bytes refused → (u : ℕ) × MayRefuse settings k items t (length bytes) u named
      by refused group (inl tries) = zip_beside (MayRefuse settings k items t (length bytes)) (all_tries settings pair) refused named tries.1 group
      by [] group (inr home) = absurd home
      by (one ∷ []) (zero, below, same) (inr home) = (home.0, subst (MayRefuse settings k items t (length bytes) home.0) same home.2)
      by (one ∷ []) (suc i, below, same) (inr home) = absurd (omega (arith, below))
      by (one ∷ more ∷ rest) group (inr home) = absurd home

  full_on_closed : (lane n v m m' end need : ℕ) (refused : List Refused) (pair : Pair) (bytes : List ℕ) → closed settings k v ≡ Some m
      → Contains refused (NoRoom v m' end need) → Contains items (answered lane n (command.Put pair bytes) (reply.Full refused)) → ⊥
  full_on_closed lane n v m m' end need refused pair bytes is group among =
      let may = full_refuses lane n refused (NoRoom v m' end need) pair bytes group among in
      no_room_on_closed (length bytes) may.0 v m m' end need is may.1

  deleted_on_closed : (lane n v m p d : ℕ) (pair : Pair) → closed settings k v ≡ Some m
      → Contains items (answered lane n (command.Del pair) (reply.Deleted v p d)) → ⊥
  deleted_on_closed lane n v m p d pair is among = never_closed v m (line _ among).1 is

  absent_on_closed : (lane n v m p d : ℕ) (pair : Pair) → closed settings k v ≡ Some m
      → Contains items (answered lane n (command.Del pair) (reply.Absent v p d)) → ⊥
  absent_on_closed lane n v m p d pair is among = never_closed v m (line _ among).1 is

  del_failed_on_closed : (lane n v m m' f : ℕ) (pair : Pair) → closed settings k v ≡ Some m
      → Contains items (answered lane n (command.Del pair) (reply.Failed v m' f)) → ⊥
  del_failed_on_closed lane n v m m' f pair is among = never_closed v m (line _ among).2 is

  -- FLUSHES AND COMPACTS OF FROZEN VOLUMES

  never_frozen : (v m : ℕ) → (volume_at k v).frozen ≡ None → (volume_at k v).frozen ≡ Some m → ⊥
  never_frozen v m thawed is = none-some m (sym thawed ∙ is)

  flush_on : (lane n v m j : ℕ) (r : Reply) → replica_on settings v m ≡ Some j → Contains items (answered lane n (command.Flush v m) r)
      → FlushIsLegal settings k items t v m (Some j) r
  flush_on lane n v m j r there among = subst (λ (o : Option ℕ). FlushIsLegal settings k items t v m o r) there (line _ among)

  compact_on : (lane n v m j : ℕ) (r : Reply) → replica_on settings v m ≡ Some j → Contains items (answered lane n (command.Compact v m) r)
      → CompactIsLegal settings k items t lane v m (Some j) r
  compact_on lane n v m j r there among = subst (λ (o : Option ℕ). CompactIsLegal settings k items t lane v m o r) there (line _ among)

  flushed_on_frozen : (lane n v m j m' v' m'' count : ℕ) → (volume_at k v).frozen ≡ Some m' → replica_on settings v m ≡ Some j
      → Contains items (answered lane n (command.Flush v m) (reply.Flushed v' m'' count)) → ⊥
  flushed_on_frozen lane n v m j m' v' m'' count is there among = never_frozen v m' (flush_on lane n v m j _ there among).1.0 is

  flush_failed_on_frozen : (lane n v m j m' v' m'' f : ℕ) → (volume_at k v).frozen ≡ Some m' → replica_on settings v m ≡ Some j
      → Contains items (answered lane n (command.Flush v m) (reply.Failed v' m'' f)) → ⊥
  flush_failed_on_frozen lane n v m j m' v' m'' f is there among = never_frozen v m' (flush_on lane n v m j _ there among).1.0 is

  flushed_on_stuck : (lane n v m j v' m' count : ℕ) → (replica_at (volume_at k v) j).stuck ≡ true → (WasSwapped k t v j → ⊥) → replica_on settings v m ≡ Some j
      → Contains items (answered lane n (command.Flush v m) (reply.Flushed v' m' count)) → ⊥
  flushed_on_stuck lane n v m j v' m' count stuck never there among = elim (flush_on lane n v m j _ there among).1.1 [
    | inl loose ↦ let clash : true ≡ false = sym stuck ∙ loose in absurd cc
    | inr swapped ↦ never swapped
  ]

  compacted_on_frozen : (lane n v m j m' v' m'' g : ℕ) → (volume_at k v).frozen ≡ Some m' → replica_on settings v m ≡ Some j
      → Contains items (answered lane n (command.Compact v m) (reply.Compacted v' m'' g)) → ⊥
  compacted_on_frozen lane n v m j m' v' m'' g is there among = never_frozen v m' (compact_on lane n v m j _ there among).1 is

  busy_on_frozen : (lane n v m j m' v' m'' g : ℕ) → (volume_at k v).frozen ≡ Some m' → replica_on settings v m ≡ Some j
      → Contains items (answered lane n (command.Compact v m) (reply.Busy v' m'' g)) → ⊥
  busy_on_frozen lane n v m j m' v' m'' g is there among = never_frozen v m' (compact_on lane n v m j _ there among).1 is

  worn_on_frozen : (lane n v m j m' v' m'' : ℕ) → (volume_at k v).frozen ≡ Some m' → replica_on settings v m ≡ Some j
      → Contains items (answered lane n (command.Compact v m) (reply.Worn v' m'')) → ⊥
  worn_on_frozen lane n v m j m' v' m'' is there among = never_frozen v m' (compact_on lane n v m j _ there among).1 is

  compact_failed_on_frozen : (lane n v m j m' v' m'' f : ℕ) → (volume_at k v).frozen ≡ Some m' → replica_on settings v m ≡ Some j
      → Contains items (answered lane n (command.Compact v m) (reply.Failed v' m'' f)) → ⊥
  compact_failed_on_frozen lane n v m j m' v' m'' f is there among = never_frozen v m' (compact_on lane n v m j _ there among).1 is

  -- a compact fails where it could not begin: beside a run of before the block that no delete ended, or at the last generation
  compact_failed_beside_run : (lane n v m j v' m' f : ℕ) (run : Run) → (replica_at (volume_at k v) j).run ≡ Some run → replica_on settings v m ≡ Some j
      → ((item : LaneItem) → Contains items item → DeletesOn settings v item → ⊥)
      → Contains items (answered lane n (command.Compact v m) (reply.Failed v' m' f)) → ⊥
  compact_failed_beside_run lane n v m j v' m' f run stands there never among = elim ((compact_on lane n v m j _ there among).2).1 [
    | inl none ↦ none-some run (sym none ∙ stands)
    | inr deleted ↦ never deleted.1 deleted.2 deleted.3
  ]

  compact_failed_at_last_generation : (lane n v m j v' m' f : ℕ) → LAST_GENERATION ≤ (replica_at (volume_at k v) j).generation → replica_on settings v m ≡ Some j
      → Contains items (answered lane n (command.Compact v m) (reply.Failed v' m' f)) → ⊥
  compact_failed_at_last_generation lane n v m j v' m' f last there among = let less = ((compact_on lane n v m j _ there among).2).0 in omega (arith, less, last)

  -- COUNTS

  -- a machine that has no replica of the volume is blamed
  put_failed_elsewhere : (lane n v m f : ℕ) (pair : Pair) (bytes : List ℕ) → replica_on settings v m ≡ None
      → Contains items (answered lane n (command.Put pair bytes) (reply.Failed v m f)) → ⊥
  put_failed_elsewhere lane n v m f pair bytes none among = let there = (line _ among).1 in none-some there.0 (sym none ∙ there.1)

  del_failed_elsewhere : (lane n v m f : ℕ) (pair : Pair) → replica_on settings v m ≡ None
      → Contains items (answered lane n (command.Del pair) (reply.Failed v m f)) → ⊥
  del_failed_elsewhere lane n v m f pair none among = let there = (line _ among).1 in none-some there.0 (sym none ∙ there.1)

  -- a replica is laid to its disk at a count above what the disk's came to
  disk_blamed_above : (v j f : ℕ) → v < settings.volumes → j < settings.replicas → fault_count t (slot_of settings v j) < f
      → Contains (flat_map (λ item. disk_prints v (machine_of settings v j) item.reply) items) f → ⊥
  disk_blamed_above v j f below within above printed =
      let disks = each_in_range (λ u. Each (DiskIsLegal settings k items t (b.counts).to_arm u) (replicas_of settings)) 0 settings.volumes v (b.counts).disk (omega arith) (omega (arith, below)) in
      let disk = each_in_range (DiskIsLegal settings k items t (b.counts).to_arm v) 0 settings.replicas j disks (omega arith) (omega (arith, within)) in
      let came = each_in (λ f. CameUp (fault_count k (slot_of settings v j)) f (fault_count t (slot_of settings v j)))
      (flat_map (λ item. disk_prints v (machine_of settings v j) item.reply) items) f disk.0.0 printed in
      let high : f ≤ fault_count t (slot_of settings v j) = came.1 in
      omega (arith, above, high)

  -- the Directory's disk is blamed, and its count did not rise
  counted : (xs : List LaneItem) (x : LaneItem) → Contains xs x → row_failed x ≤ sum_by row_failed xs
  counted [] x at = absurd (omega (arith, at.1))
  counted (y ∷ xs) x (zero, below, is) =
      let total = sum_by-cons row_failed y xs in
      let same : row_failed y ≡ row_failed x = ap row_failed is in
      omega (arith, total, same)
  counted (y ∷ xs) x (suc i, below, is) =
      let total = sum_by-cons row_failed y xs in
      let rest = counted xs x (i, omega (arith, below), is) in
      omega (arith, total, rest)

  rows_failed_without_fault : (lane n f : ℕ) (pair : Pair) (bytes : List ℕ) → fault_count t 0 ≡ fault_count k 0 → fault_count k 0 < 2 ^ 64 - 1
      → Contains items (answered lane n (command.Put pair bytes) (reply.FailedDir f)) → ⊥
  rows_failed_without_fault lane n f pair bytes same low among =
      let one : 1 ≤ sum_by row_failed items = counted items _ among in
      elim ((b.counts).directory).1 [
        | inl rose ↦ omega (arith, rose, one, same)
        | inr end ↦ omega (arith, end, low, same)
      ]

  rows_blamed_above : (lane n f : ℕ) (pair : Pair) (bytes : List ℕ) → fault_count t 0 < f
      → Contains items (answered lane n (command.Put pair bytes) (reply.FailedDir f)) → ⊥
  rows_blamed_above lane n f pair bytes above among =
      let came = each_in (λ g. CameUp (fault_count k 0) g (fault_count t 0)) (flat_map (λ item. row_faults item.reply) items) f ((b.counts).directory).0.0
      (printed_in items _ f among (zero, omega arith, refl)) in
      let high : f ≤ fault_count t 0 = came.1 in
      omega (arith, above, high)

  -- ROOM

  -- a replica that was not swapped ends where the puts made it end
  exactly : (v front j end : ℕ) → (WasSwapped k t v j → ⊥) → MayEndAt k t v (WasSwapped k t v) front j end → end ≡ end_with_puts k t v front j
  exactly v front j end kept may = elim may [ inl same ↦ same | inr swapped ↦ absurd (kept swapped.0) ]

  -- a photo is stored on a volume a replica of which is left too long
  stored_beyond_room : (lane n v j p d : ℕ) (c : Cookie) (pair : Pair) (bytes : List ℕ) → v < settings.volumes → j < settings.replicas
      → settings.capacity < (replica_at (volume_at t v) j).end + 8 → Contains items (answered lane n (command.Put pair bytes) (reply.Stored v p d c)) → ⊥
  stored_beyond_room lane n v j p d c pair bytes below within long among =
      let entered = each_in (IsEntered settings k t) items (answered lane n (command.Put pair bytes) (reply.Stored v p d c)) b.entered among in
      let logged = entered.1.0 in
      let put : entry.Put pair (cookie_of settings.secret pair.key) bytes ≡ logged.entry = same_Some _ logged.entry (entered.1.2).entry in
      let is : is_put logged ≡ true = ap (λ (e : Entry). is_put (record { tag = logged.tag; entry = e })) (sym put) in
      let some = put_counted (volume_at t v).log (length (volume_at k v).log) (p - 1) logged (omega (arith, entered.0)) entered.1.1 is in
      elim (replica v j below within).room [
        | inl none ↦ omega (arith, some, none)
        | inr room ↦ omega (arith, room, long)
      ]

  -- a put is refused for want of room on a replica, though a lower one was no shorter before the block, and neither was swapped
  room_behind_a_longer_replica : (lane n v m i j end need : ℕ) (refused : List Refused) (pair : Pair) (bytes : List ℕ) → replica_on settings v m ≡ Some j → i < j
      → (replica_at (volume_at k v) j).end ≤ (replica_at (volume_at k v) i).end → (WasSwapped k t v i → ⊥) → (WasSwapped k t v j → ⊥)
      → Contains refused (NoRoom v m end need) → Contains items (answered lane n (command.Put pair bytes) (reply.Full refused)) → ⊥
  room_behind_a_longer_replica lane n v m i j end need refused pair bytes there less longer kept_i kept_j group among =
      let may = full_refuses lane n refused (NoRoom v m end need) pair bytes group among in
      let front : ℕ = ((may.1).4).0 in
      let lacks = subst (λ (w : ℕ). LacksRoom settings k t w (WasSwapped k t w) front m end need) (sym (may.1).0) ((may.1).4).1 in
      let named : lacks.replica ≡ j = same_Some _ _ (sym lacks.there ∙ there) in
      let lower =
      each_in_range (λ i. (other : ℕ) × MayEndAt k t v (WasSwapped k t v) front i other × (other + need + 8 ≤ settings.capacity)) 0 lacks.replica i lacks.lower (omega arith)
      (omega (arith, less, named)) in
      let first : lower.0 ≡ end_with_puts k t v front i = exactly v front i lower.0 kept_i lower.1 in
      let second : end ≡ end_with_puts k t v front j = exactly v front j end kept_j (subst (λ (r : ℕ). MayEndAt k t v (WasSwapped k t v) front r end) named lacks.ended) in
      omega (arith, first, second, longer, lower.2, lacks.short)

  -- or though a lower one was too long for the photo, and was not swapped
  room_behind_a_full_replica : (lane n v m i j end need : ℕ) (refused : List Refused) (pair : Pair) (bytes : List ℕ) → replica_on settings v m ≡ Some j → i < j
      → settings.capacity < (replica_at (volume_at k v) i).end + need + 8 → (WasSwapped k t v i → ⊥)
      → Contains refused (NoRoom v m end need) → Contains items (answered lane n (command.Put pair bytes) (reply.Full refused)) → ⊥
  room_behind_a_full_replica lane n v m i j end need refused pair bytes there less full kept group among =
      let may = full_refuses lane n refused (NoRoom v m end need) pair bytes group among in
      let front : ℕ = ((may.1).4).0 in
      let lacks = subst (λ (w : ℕ). LacksRoom settings k t w (WasSwapped k t w) front m end need) (sym (may.1).0) ((may.1).4).1 in
      let named : lacks.replica ≡ j = same_Some _ _ (sym lacks.there ∙ there) in
      let lower =
      each_in_range (λ i. (other : ℕ) × MayEndAt k t v (WasSwapped k t v) front i other × (other + need + 8 ≤ settings.capacity)) 0 lacks.replica i lacks.lower (omega arith)
      (omega (arith, less, named)) in
      let first : lower.0 ≡ end_with_puts k t v front i = exactly v front i lower.0 kept lower.1 in
      omega (arith, first, full, lower.2)

  -- ROWS

  -- a volume that was open to the end of the block, and had room on each replica, refused no photo of this size
  open_refuses : (size u : ℕ) (refused : Refused) → closed settings k u ≡ None → (volume_at t u).frozen ≡ None
      → ((j : ℕ) → highest_end k t u j + needle_total size + 8 ≤ settings.capacity) → MayRefuse settings k items t size u refused → ⊥
  open_refuses size u (NoRoom u' m end need) thawed still fits may =
      let j : ℕ = (may.2).0 in
      let low : highest_end k t u j + needle_total size + 8 ≤ settings.capacity = fits j in
      let high : end ≤ highest_end k t u j = ((may.2).2).1 in
      omega (arith, low, high, may.3, ((may.4).1).short)
  open_refuses size u (Closed u' m) thawed still fits may = elim may.1 [
    | inl before ↦ never_closed u m thawed before
    | inr frozen ↦ none-some m (sym still ∙ frozen)
  ]

  -- a new row whose pair skipped such a try
  row_skips_try : (row : HomeRow) (u : ℕ) → Contains (new_rows k t) row → Contains (take_while (λ w. not (w == row.volume)) (all_tries settings row.pair)) u
      → closed settings k u ≡ None → (volume_at t u).frozen ≡ None
      → ((bytes : List ℕ) (item : LaneItem) → Contains items item → item.item ≡ asks.Command (command.Put row.pair bytes)
      → (j : ℕ) → highest_end k t u j + needle_total (length bytes) + 8 ≤ settings.capacity)
      → ⊥
  row_skips_try row u added skipped thawed still fits =
      let is = (zip_beside (IsNewRow settings k items t) rows.rows (new_rows k t) row (b.homes).each added).1 in
      let may = each_in (λ w. (refused : Refused) × MayRefuse settings k items t (length is.bytes) w refused)
      (take_while (λ w. not (w == row.volume)) (all_tries settings row.pair)) u (is.gets).before skipped in
      open_refuses (length is.bytes) u may.0 thawed still (fits is.bytes is.item is.among is.put) may.1

  -- a new row where the Directory was frozen before the block
  row_added_to_frozen : (row : HomeRow) → Contains (new_rows k t) row → k.directory.frozen ≡ true → ⊥
  row_added_to_frozen row added frozen =
      let is = (zip_beside (IsNewRow settings k items t) rows.rows (new_rows k t) row (b.homes).each added).1 in
      let clash : true ≡ false = sym frozen ∙ is.«open» in absurd cc

  rows_failed_without_pending : (lane n f : ℕ) (pair : Pair) (bytes : List ℕ) → t.directory.pending ≡ None
      → Contains items (answered lane n (command.Put pair bytes) (reply.FailedDir f)) → ⊥
  rows_failed_without_pending lane n f pair bytes none among = none-some _ (sym none ∙ (line _ among).1.2.2)

  -- the row that is left pending is for a volume that is no try of its pair
  row_pends_for_no_try : (tag : CoreTag) (pair : Pair) (v : ℕ) → k.directory.frozen ≡ false → t.directory.frozen ≡ true
      → t.directory.pending ≡ Some (record { tag = tag; row = record { pair = pair; volume = v } }) → (Contains (all_tries settings pair) v → ⊥) → ⊥
  row_pends_for_no_try tag pair v before frozen pending never = elim b.directory [
    | inl same ↦ let clash : true ≡ false = sym frozen ∙ same.0 ∙ before in absurd cc
    | inr froze ↦
        let same : record { pair = froze.pair; volume = froze.volume } ≡ record { pair = pair; volume = v } =
        ap (λ (p : PendingRow). p.row) (same_Some _ _ (sym (froze.pending).2 ∙ pending)) in
        never (subst (λ (r : HomeRow). Contains (all_tries settings r.pair) r.volume) same (froze.gets).tried)
  ]

  -- the Directory is frozen though each put that may have frozen it was of a pair with a home
  rows_frozen_by_settled : k.directory.frozen ≡ false → t.directory.frozen ≡ true
      → ((item : LaneItem) (pair : Pair) (bytes : List ℕ) → Contains items item → item.item ≡ asks.Command (command.Put pair bytes) → MayHaveFrozen item.reply
      → (v : ℕ) × (home_of k pair ≡ Some v))
      → ⊥
  rows_frozen_by_settled before frozen settled = elim b.directory [
    | inl same ↦ let clash : true ≡ false = sym frozen ∙ same.0 ∙ before in absurd cc
    | inr froze ↦
        let home = settled froze.item froze.pair froze.bytes froze.among froze.put froze.reply in
        none-some home.0 (sym (froze.gets).missing ∙ home.1)
  ]

  -- FREEZES

  put_failed_without_pending : (lane n v m f : ℕ) (pair : Pair) (bytes : List ℕ) → (volume_at t v).pending ≡ None
      → Contains items (answered lane n (command.Put pair bytes) (reply.Failed v m f)) → ⊥
  put_failed_without_pending lane n v m f pair bytes none among = none-some _ (sym none ∙ (line _ among).3.1)

  put_failed_without_freeze : (lane n v m f : ℕ) (pair : Pair) (bytes : List ℕ) → (volume_at t v).frozen ≡ None
      → Contains items (answered lane n (command.Put pair bytes) (reply.Failed v m f)) → ⊥
  put_failed_without_freeze lane n v m f pair bytes none among = none-some m (sym none ∙ (line _ among).3.0)

  -- the line that froze a volume
  froze_by : (v m : ℕ) (below : v < settings.volumes) → (volume_at k v).frozen ≡ None → (volume_at t v).frozen ≡ Some m
      → (item : LaneItem) × ((volume v below).froze ≡ Some item) × WasFrozen settings k items t v item
  froze_by v m below before frozen = by (volume v below).froze refl (volume v below).freeze
    where
      by : (o : Option LaneItem) → (volume v below).froze ≡ o → FreezeIsLegal settings k items t v o
          → (item : LaneItem) × ((volume v below).froze ≡ Some item) × WasFrozen settings k items t v item
      by None is kept = absurd (none-some m (sym before ∙ sym kept.0 ∙ frozen))
      by (Some item) is froze = (item, is, froze)

  -- REPLICAS

  -- an index is stuck behind a swap though no flush failed
  stuck_behind_swap : (v j : ℕ) → v < settings.volumes → j < settings.replicas → WasSwapped k t v j → (replica_at (volume_at t v) j).stuck ≡ true
      → ((item : LaneItem) → Contains items item → SticksBy v (machine_of settings v j) item → ⊥) → ⊥
  stuck_behind_swap v j below within swapped stuck never = elim (replica v j below within).stuck [
    | inl same ↦ let number = same.1 in omega (arith, swapped, number)
    | inr some ↦ elim some [
      | inl flush ↦ never flush.1 flush.2 flush.3
      | inr loose ↦ let clash : true ≡ false = sym stuck ∙ loose.0 in absurd cc
    ]
  ]

  flush_failed_without_stuck : (lane n v m j v' m' f : ℕ) → (replica_at (volume_at t v) j).stuck ≡ false → (WasSwapped k t v j → ⊥) → replica_on settings v m ≡ Some j
      → Contains items (answered lane n (command.Flush v m) (reply.Failed v' m' f)) → ⊥
  flush_failed_without_stuck lane n v m j v' m' f loose never there among = elim (flush_on lane n v m j _ there among).2 [
    | inl stuck ↦ let clash : true ≡ false = sym stuck ∙ loose in absurd cc
    | inr swapped ↦ never swapped
  ]

  -- a run of before the block ended though no line deleted and nothing froze
  run_ended_by_nothing : (v j : ℕ) (run : Run) → v < settings.volumes → j < settings.replicas
      → (replica_at (volume_at k v) j).run ≡ Some run → (replica_at (volume_at t v) j).run ≡ None → (volume_at t v).frozen ≡ None
      → ((item : LaneItem) → Contains items item → DeletesOn settings v item → ⊥) → ⊥
  run_ended_by_nothing v j run below within stood ended thawed never = elim (replica v j below within).run [
    | inl none ↦ none-some run (sym none.0 ∙ stood)
    | inr some ↦ elim some [
      | inl stays ↦ none-some _ (sym ended ∙ stays.0 ∙ ap (option_map _) stood)
      | inr ends ↦ elim ends.1 [
        | inl deleted ↦ never deleted.1 deleted.2 deleted.3
        | inr froze ↦ none-some (froze.1).0 (sym thawed ∙ (froze.1).1)
      ]
    ]
  ]

  -- a replica was swapped beside a run that stands on
  run_beside_swap : (v j : ℕ) (run run' : Run) → v < settings.volumes → j < settings.replicas
      → (replica_at (volume_at k v) j).run ≡ Some run → (replica_at (volume_at t v) j).run ≡ Some run' → WasSwapped k t v j → ⊥
  run_beside_swap v j run run' below within stood stands swapped = elim (replica v j below within).run [
    | inl none ↦ none-some run (sym none.0 ∙ stood)
    | inr some ↦ elim some [
      | inl stays ↦ let number = stays.1 in omega (arith, swapped, number)
      | inr ends ↦ none-some run' (sym ends.0 ∙ stands)
    ]
  ]

  -- a replica is poised though nothing froze its volume
  poised_without_freeze : (v j : ℕ) → v < settings.volumes → j < settings.replicas → (volume_at t v).frozen ≡ None
      → (replica_at (volume_at k v) j).poised ≡ false → (replica_at (volume_at t v) j).poised ≡ true → ⊥
  poised_without_freeze v j below within thawed before poised = by (volume v below).froze (volume v below).freeze (replica v j below within).poised
    where
      by : (o : Option LaneItem) → FreezeIsLegal settings k items t v o
          → (replica_at (volume_at t v) j).poised ≡ ((replica_at (volume_at k v) j).poised || froze_at_compact v (machine_of settings v j) is_failed o) → ⊥
      by None kept is = let clash : true ≡ false = sym poised ∙ is ∙ ap (λ (x : Bool). x || false) before in absurd cc
      by (Some item) froze is = none-some froze.machine (sym thawed ∙ froze.frozen)

-- BEHIND A FREEZE

-- a photo is stored by a lane on a volume that an earlier put of the lane froze
stored_behind_failure : {settings : Settings} {k : Known} {logs : List LogNote} {rows : RowNote} {t : Known} (lane n n' v m f p d : ℕ) (c : Cookie) (pair pair' : Pair) (bytes bytes' : List ℕ)
    → v < settings.volumes
    → LegalBlock settings k (answered lane n (command.Put pair bytes) (reply.Failed v m f) ∷ answered lane n' (command.Put pair' bytes') (reply.Stored v p d c) ∷ []) logs rows t → ⊥
stored_behind_failure {settings} {k} {logs} {rows} {t} lane n n' v m f p d c pair pair' bytes bytes' below b =
    let stored = (b.lines.1).0 in
    let thawed : (volume_at k v).frozen ≡ None = open_thawed (volume_at k v).frozen stored.2.0 in
    let by = froze_by b v m below thawed (b.lines.0).3.0 in
    by_item by.0 by.1 (by.2).among (by.2).machine (by.2).change (by.2).freezes
  where
    first : LaneItem
    first = answered lane n (command.Put pair bytes) (reply.Failed v m f)

    second : LaneItem
    second = answered lane n' (command.Put pair' bytes') (reply.Stored v p d c)

    open_thawed : (o : Option ℕ) → closed_by o (drained_of settings k v) ≡ None → o ≡ None
    open_thawed None e = refl
    open_thawed (Some by) e = absurd (none-some by (sym e))

    by_item : (item : LaneItem) → (volume b v below).froze ≡ Some item → Contains (first ∷ second ∷ []) item
        → (by : ℕ) (change : Option Entry) → Freezes settings k (first ∷ second ∷ []) t v by change item → ⊥
    by_item item is (zero, at, same) by change froze = (volume b v below).lanes.0.0 refl (inl (is ∙ ap (λ (x : LaneItem). Some x) (sym same))) (inr (inl refl))
    by_item item is (suc zero, at, same) by change froze = subst (λ (x : LaneItem). Freezes settings k (first ∷ second ∷ []) t v by change x) (sym same) froze
    by_item item is (suc (suc i), at, same) by change froze = omega (arith, at)

-- BLOCKS OF ONE LINE

module _ {settings : Settings} {k : Known} {logs : List LogNote} {rows : RowNote} {t : Known} (v m : ℕ) (below : v < settings.volumes)
    (before : (volume_at k v).frozen ≡ None) (frozen : (volume_at t v).frozen ≡ Some m) where
  -- the only line froze the volume
  froze_alone : (item : LaneItem) → LegalBlock settings k (item ∷ []) logs rows t → (by : ℕ) × (change : Option Entry) × Freezes settings k (item ∷ []) t v by change item
  froze_alone item b =
      let by = froze_by b v m below before frozen in
      let same : item ≡ by.0 = the_only item by.0 (by.2).among in (
        (by.2).machine,
        (by.2).change,
        subst (λ (x : LaneItem). Freezes settings k (item ∷ []) t v (by.2).machine (by.2).change x) (sym same) (by.2).freezes,
      )

  -- what is left pending is what the line left
  pending_alone : (item : LaneItem) → LegalBlock settings k (item ∷ []) logs rows t
      → (by : ℕ) × (change : Option Entry) × Freezes settings k (item ∷ []) t v by change item × ((volume_at t v).pending ≡ pending_behind (volume_at k v).pending item change)
  pending_alone item b =
      let by = froze_by b v m below before frozen in
      let same : item ≡ by.0 = the_only item by.0 (by.2).among in (
        (by.2).machine,
        (by.2).change,
        subst (λ (x : LaneItem). Freezes settings k (item ∷ []) t v (by.2).machine (by.2).change x) (sym same) (by.2).freezes,
        (by.2).pending ∙ ap (λ (x : LaneItem). pending_behind (volume_at k v).pending x (by.2).change) (sym same),
      )

  del_failed_without_pending : (lane n v' m' f : ℕ) (pair : Pair) → (volume_at t v).pending ≡ None
      → LegalBlock settings k (answered lane n (command.Del pair) (reply.Failed v' m' f) ∷ []) logs rows t → ⊥
  del_failed_without_pending lane n v' m' f pair none b =
      let item : LaneItem = answered lane n (command.Del pair) (reply.Failed v' m' f) in
      let by = pending_alone item b in
      none-some _ (sym none ∙ by.3 ∙ ap (pending_behind (volume_at k v).pending item) by.2.1.0)

  put_wants_without_pending : (lane n : ℕ) (pair : Pair) (bytes : List ℕ) → (volume_at t v).pending ≡ None
      → LegalBlock settings k (answered lane n (command.Put pair bytes) reply.NoMem ∷ []) logs rows t → ⊥
  put_wants_without_pending lane n pair bytes none b =
      let item : LaneItem = answered lane n (command.Put pair bytes) reply.NoMem in
      let by = pending_alone item b in
      none-some _ (sym none ∙ by.3 ∙ ap (pending_behind (volume_at k v).pending item) by.2.2)

  read_wants_with_pending : (lane n : ℕ) (pair : Pair) (cookie : Cookie) (left : Pending) → (volume_at k v).pending ≡ None → (volume_at t v).pending ≡ Some left
      → LegalBlock settings k (answered lane n (command.Read pair cookie) reply.NoMem ∷ []) logs rows t → ⊥
  read_wants_with_pending lane n pair cookie left none pending b =
      let item : LaneItem = answered lane n (command.Read pair cookie) reply.NoMem in
      let by = pending_alone item b in
      none-some left (sym none ∙ sym (by.3 ∙ ap (pending_behind (volume_at k v).pending item) by.2.1) ∙ pending)

  put_wants_elsewhere : (lane n : ℕ) (pair : Pair) (bytes : List ℕ) → (HomeInBlock k t pair v → ⊥)
      → LegalBlock settings k (answered lane n (command.Put pair bytes) reply.NoMem ∷ []) logs rows t → ⊥
  put_wants_elsewhere lane n pair bytes never b = never (froze_alone _ b).2.0.1

  del_wants_elsewhere : (lane n : ℕ) (pair : Pair) → (HomeInBlock k t pair v → ⊥)
      → LegalBlock settings k (answered lane n (command.Del pair) reply.NoMem ∷ []) logs rows t → ⊥
  del_wants_elsewhere lane n pair never b = never (froze_alone _ b).2.0.1

  read_wants_elsewhere : (lane n : ℕ) (pair : Pair) (cookie : Cookie) → (HomeInBlock k t pair v → ⊥)
      → LegalBlock settings k (answered lane n (command.Read pair cookie) reply.NoMem ∷ []) logs rows t → ⊥
  read_wants_elsewhere lane n pair cookie never b = never (froze_alone _ b).2.0.1

  get_of_no_replica_wants : (lane n : ℕ) (url : UrlParts) → replica_on settings url.volume url.machine ≡ None
      → LegalBlock settings k (answered lane n (command.Get url) reply.NoMem ∷ []) logs rows t → ⊥
  get_of_no_replica_wants lane n url none b = let there = (froze_alone _ b).2.2 in none-some there.0 (sym none ∙ there.1)

  flush_freezes : (lane n u w : ℕ) (r : Reply) → LegalBlock settings k (answered lane n (command.Flush u w) r ∷ []) logs rows t → ⊥
  flush_freezes lane n u w r b = (froze_alone _ b).2

  -- a compact that failed froze its volume, and its replica is not poised
  compact_failed_without_poised : (lane n v' m' f j : ℕ) → j < settings.replicas → (replica_at (volume_at t v) j).poised ≡ false
      → LegalBlock settings k (answered lane n (command.Compact v (machine_of settings v j)) (reply.Failed v' m' f) ∷ []) logs rows t → ⊥
  compact_failed_without_poised lane n v' m' f j within idle b =
      let item : LaneItem = answered lane n (command.Compact v (machine_of settings v j)) (reply.Failed v' m' f) in
      let by = froze_by b v m below before frozen in
      let same : item ≡ by.0 = the_only item by.0 (by.2).among in
      let poised = subst (λ (o : Option LaneItem). (replica_at (volume_at t v) j).poised
      ≡ ((replica_at (volume_at k v) j).poised || froze_at_compact v (machine_of settings v j) is_failed o)) (by.1 ∙ ap (λ (x : LaneItem). Some x) (sym same))
      (replica b v j below within).poised in
      let is : is_compacted v (machine_of settings v j) item ≡ true =
      ap (λ (x : Bool). x && (machine_of settings v j == machine_of settings v j)) (eq-eqb v v refl) ∙ eq-eqb (machine_of settings v j) (machine_of settings v j) refl in
      let clash : false ≡ true = sym idle ∙ poised ∙ ap (λ (x : Bool). (replica_at (volume_at k v) j).poised || (x && true)) is ∙ or_true (replica_at (volume_at k v) j).poised in
      absurd cc
    where
      or_true : (x : Bool) → (x || true) ≡ true
      or_true true = refl
      or_true false = refl

-- ORDER IN A LANE

-- one of two lines
one_of_two : (a b x : LaneItem) → Contains (a ∷ b ∷ []) x → (a ≡ x) ⊎ (b ≡ x)
one_of_two a b x (zero, below, is) = inl is
one_of_two a b x (suc i, below, is) = inr (the_only b x (i, omega (arith, below), is))

abbrev row_of : ℕ → ℕ → LineVolume
row_of line v = record { line = line; volume = v }

-- a row is added to an open Directory alone
first_row_open : (settings : Settings) (k t : Known) (items : List LaneItem) (named : LineVolume) (rows : List HomeRow)
    → AllZip (IsNewRow settings k items t) (named ∷ []) rows → k.directory.frozen ≡ false
first_row_open settings k t items named [] zip = absurd zip
first_row_open settings k t items named (row ∷ more) zip = (zip.0).«open»

module _ {settings : Settings} {k : Known} {logs : List LogNote} {t : Known} where
  -- a lane reads that its pair has no home, behind its own put that failed and gave the pair one
  own_row_is_forgotten : (v m f : ℕ) (pair pair' : Pair) (bytes : List ℕ) (cookie : Cookie)
      → LegalBlock settings k (answered 0 2 (command.Put pair bytes) (reply.Failed v m f) ∷ answered 0 3 (command.Read pair' cookie) (reply.Unknown 0) ∷ [])
      logs (record { from = 0; rows = row_of 2 v ∷ [] }) t → ⊥
  own_row_is_forgotten v m f pair pair' bytes cookie b = let rises : 1 ≤ 0 = ((((b.fronts).directory).0).0.0).0 in omega (arith, rises)

  -- a lane adds the first row behind a line that saw two
  row_is_added_before_what_was_seen : (u w v p m : ℕ) (c c' own : Cookie) (pair pair' pair'' : Pair) (bytes bytes' : List ℕ)
      → LegalBlock settings k
      (answered 0 2 (command.Read pair' own) (reply.Gone u m p 2)
      ∷ answered 0 3 (command.Put pair bytes) (reply.Stored v 1 2 c)
      ∷ answered 1 4 (command.Put pair'' bytes') (reply.Stored w 2 2 c')
      ∷ [])
      logs (record { from = 0; rows = row_of 3 v ∷ row_of 4 w ∷ [] }) t → ⊥
  row_is_added_before_what_was_seen u w v p m c c' own pair pair' pair'' bytes bytes' b =
      let rises : 2 < 1 = ((((b.fronts).directory).0).0.0).0 in omega (arith, rises)

  -- a flush is refused by the freeze that another lane's put made, as its machine tells, and its lane stores a photo then
  stored_behind_a_refused_flush : (v m m' f p d : ℕ) (c : Cookie) (pair pair' : Pair) (bytes bytes' : List ℕ) (rows : RowNote) → v < settings.volumes → m' ≢ m
      → LegalBlock settings k
      (answered 0 2 (command.Flush v m) (reply.ReadOnly (record { volume = v; machine = m' } ∷ []))
      ∷ answered 0 3 (command.Put pair bytes) (reply.Stored v p d c)
      ∷ answered 1 4 (command.Put pair' bytes') (reply.Failed v m' f)
      ∷ [])
      logs rows t → ⊥
  stored_behind_a_refused_flush v m m' f p d c pair pair' bytes bytes' rows below other b =
      let stored = (b.lines.1).0 in
      let thawed : (volume_at k v).frozen ≡ None = open_thawed (volume_at k v).frozen stored.2.0 in
      (volume b v below).lanes.0.0 refl
      (inr (inl ((thawed, (record { volume = v; machine = m' }, (0, omega arith, refl), refl)), λ j there stuck. other (stuck.0).1)))
      (inr (inl refl))
    where
      open_thawed : (o : Option ℕ) → closed_by o (drained_of settings k v) ≡ None → o ≡ None
      open_thawed None e = refl
      open_thawed (Some by) e = absurd (none-some by (sym e))

  -- a compact is refused by the freeze of the block, be its volume drained, and its lane flushes a replica of it then
  flushed_behind_a_refused_compact : (v m m' u n : ℕ) (rows : RowNote) → v < settings.volumes → (volume_at k v).frozen ≡ None
      → LegalBlock settings k
      (answered 0 2 (command.Compact v m) (reply.ReadOnly (record { volume = v; machine = u } ∷ [])) ∷ answered 0 3 (command.Flush v m') (reply.Flushed v m' n) ∷ [])
      logs rows t → ⊥
  flushed_behind_a_refused_compact v m m' u n rows below thawed b =
      (volume b v below).lanes.0.0 refl (inr (inl (thawed, (record { volume = v; machine = u }, (0, omega arith, refl), refl)))) (inr (inl refl))

  -- a flush of a frozen volume is refused as one of a stuck index, behind a line of its lane that met the freeze
  stuck_behind_a_freeze : (v m m' u : ℕ) (rows : RowNote) → v < settings.volumes → (volume_at k v).frozen ≡ None → (volume_at t v).frozen ≢ Some m'
      → LegalBlock settings k
      (answered 0 2 (command.Compact v m) (reply.ReadOnly (record { volume = v; machine = u } ∷ []))
      ∷ answered 0 3 (command.Flush v m') (reply.ReadOnly (record { volume = v; machine = m' } ∷ []))
      ∷ [])
      logs rows t → ⊥
  stuck_behind_a_freeze v m m' u rows below thawed other b =
      (volume b v below).lanes.0.0 refl (inr (inl (thawed, (record { volume = v; machine = u }, (0, omega arith, refl), refl)))) (inr (inr (inl (refl, other))))

  -- a lane that met the Directory frozen adds a row
  row_behind_a_refusal : (v p d : ℕ) (c : Cookie) (pair pair' : Pair) (bytes bytes' : List ℕ)
      → LegalBlock settings k (answered 0 2 (command.Put pair bytes) reply.ReadOnlyDir ∷ answered 0 3 (command.Put pair' bytes') (reply.Stored v p d c) ∷ [])
      logs (record { from = 0; rows = row_of 3 v ∷ [] }) t → ⊥
  row_behind_a_refusal v p d c pair pair' bytes bytes' b = elim b.directory [
    | inl same ↦
        let clash : true ≡ false = sym (b.lines.0).1 ∙ same.0 ∙ first_row_open settings k t _ _ (new_rows k t) (b.homes).each in absurd cc
    | inr froze ↦ (froze.lanes).0.0 refl (inr refl) (inr (λ e. cc))
  ]

  row_behind_its_freeze : (v p d f : ℕ) (c : Cookie) (pair pair' : Pair) (bytes bytes' : List ℕ)
      → LegalBlock settings k (answered 0 2 (command.Put pair bytes) (reply.FailedDir f) ∷ answered 0 3 (command.Put pair' bytes') (reply.Stored v p d c) ∷ [])
      logs (record { from = 0; rows = row_of 3 v ∷ [] }) t → ⊥
  row_behind_its_freeze v p d f c pair pair' bytes bytes' b = elim b.directory [
    | inl same ↦
        let left = (b.lines.0).1.2 in
        let clash : true ≡ false = sym left.1 ∙ same.0 ∙ first_row_open settings k t _ _ (new_rows k t) (b.homes).each in absurd cc
    | inr froze ↦ elim (one_of_two _ _ froze.item froze.among) [
      | inl first ↦ (froze.lanes).0.0 refl (inl (sym first)) (inr (λ e. cc))
      | inr second ↦ subst (λ (x : LaneItem). MayHaveFrozen x.reply) (sym second) froze.reply
    ]
  ]

  -- a lane reads that a pair has no home, behind a delete of it that its home refused
  home_is_forgotten : (v m d : ℕ) (pair : Pair) (cookie : Cookie) (rows : RowNote)
      → LegalBlock settings k
      (answered 0 2 (command.Del pair) (reply.ReadOnly (record { volume = v; machine = m } ∷ [])) ∷ answered 0 3 (command.Read pair cookie) (reply.Unknown d) ∷ [])
      logs rows t → ⊥
  home_is_forgotten v m d pair cookie rows b = none-some v (sym (b.lines.1).0 ∙ ((b.pairs.0.0 refl).kept pair v (refl, refl)).0)

  -- a put finds no home of its pair, behind a line of its lane that saw the home
  home_is_missed : (v m p d : ℕ) (pair : Pair) (bytes : List ℕ) (cookie : Cookie) (rows : RowNote)
      → LegalBlock settings k (answered 0 2 (command.Read pair cookie) (reply.Gone v m p d) ∷ answered 0 3 (command.Put pair bytes) reply.ReadOnlyDir ∷ [])
      logs rows t → ⊥
  home_is_missed v m p d pair bytes cookie rows b = none-some v (sym ((b.pairs.0.0 refl).missing pair refl).0 ∙ (b.lines.0).home)

  -- a put finds no home of its pair, behind one of its lane that failed at the home
  home_is_missed_behind_failure : (v m f : ℕ) (pair : Pair) (bytes bytes' : List ℕ) (rows : RowNote)
      → LegalBlock settings k (answered 0 2 (command.Put pair bytes) (reply.Failed v m f) ∷ answered 0 3 (command.Put pair bytes') reply.ReadOnlyDir ∷ [])
      logs rows t → ⊥
  home_is_missed_behind_failure v m f pair bytes bytes' rows b = (b.pairs.0.0 refl).apart pair v (refl, refl) refl

  -- a lane reads of a volume at an earlier front than its last one, behind a put that froze it
  read_behind_its_freeze : (v m m' f p d : ℕ) (pair pair' : Pair) (bytes : List ℕ) (cookie : Cookie) (rows : RowNote) → v < settings.volumes
      → (volume_at k v).frozen ≡ None → p < length (volume_at t v).log
      → LegalBlock settings k (answered 0 2 (command.Put pair bytes) (reply.Failed v m f) ∷ answered 0 3 (command.Read pair' cookie) (reply.Gone v m' p d) ∷ [])
      logs rows t → ⊥
  read_behind_its_freeze v m m' f p d pair pair' bytes cookie rows below before less b =
      let both : List LaneItem = answered 0 2 (command.Put pair bytes) (reply.Failed v m f) ∷ answered 0 3 (command.Read pair' cookie) (reply.Gone v m' p d) ∷ [] in
      let by = froze_by b v m below before (b.lines.0).3.0 in
      elim (one_of_two _ _ by.0 (by.2).among) [
        | inl first ↦
            let at = (volume b v below).settled.0.0 refl (inl (by.1 ∙ ap (λ (x : LaneItem). Some x) (sym first))) in
            let shown = subst (λ (xs : List Printed). Each (IsAt (length (volume_at t v).log)) xs)
            (ap (λ (x : Bool). cond x (printed p false ∷ []) []) (eq-eqb v v refl)) at in
            let last : p ≡ length (volume_at t v).log = shown.0 in
            omega (arith, last, less)
        | inr second ↦ subst (λ (x : LaneItem). Freezes settings k both t v (by.2).machine (by.2).change x) (sym second) (by.2).freezes
      ]

  -- a put passes a volume over that was open before the block and has room for its photo, and its lane stores a photo there then
  stored_behind_passing : (v w p p' d d' : ℕ) (c c' : Cookie) (pair pair' : Pair) (bytes bytes' : List ℕ) → v < settings.volumes → closed settings k v ≡ None
      → Contains (take_while (λ u. not (u == w)) (all_tries settings pair)) v → ((j : ℕ) → highest_end k t v j + needle_total (length bytes) + 8 ≤ settings.capacity)
      → LegalBlock settings k
      (answered 0 2 (command.Put pair bytes) (reply.Stored w p d c) ∷ answered 0 3 (command.Put pair' bytes') (reply.Stored v p' d' c') ∷ [])
      logs (record { from = 0; rows = row_of 2 w ∷ [] }) t → ⊥
  stored_behind_passing v w p p' d d' c c' pair pair' bytes bytes' below opened passed fits b =
      (volume b v below).lanes.0.0 refl
      (inr (inr (inl (
        pair,
        bytes,
        w,
        refl,
        inl (0, omega arith, refl),
        passed,
        opened,
        (λ m end need may.
            let low : highest_end k t v (may.2).0 + needle_total (length bytes) + 8 ≤ settings.capacity = fits (may.2).0 in
            let high : end ≤ highest_end k t v (may.2).0 = ((may.2).2).1 in
            omega (arith, low, high, may.3, ((may.4).1).short)),
      ))))
      (inr (inl refl))

  -- a lane gets a row for a volume that a put of it had frozen
  row_for_a_frozen_volume : (v m u f : ℕ) (pair pair' : Pair) (bytes bytes' : List ℕ) → v < settings.volumes → (volume_at k v).frozen ≡ None
      → LegalBlock settings k
      (answered 0 2 (command.Put pair bytes) (reply.Failed v m f) ∷ answered 0 3 (command.Put pair' bytes') (reply.ReadOnly (record { volume = v; machine = u } ∷ [])) ∷ [])
      logs (record { from = 0; rows = row_of 3 v ∷ [] }) t → ⊥
  row_for_a_frozen_volume v m u f pair pair' bytes bytes' below before b =
      let first : LaneItem = answered 0 2 (command.Put pair bytes) (reply.Failed v m f) in
      let second : LaneItem = answered 0 3 (command.Put pair' bytes') (reply.ReadOnly (record { volume = v; machine = u } ∷ [])) in
      let by = froze_by b v m below before (b.lines.0).3.0 in
      elim (one_of_two first second by.0 (by.2).among) [
        | inl is ↦ (volume b v below).lanes.0.0 refl (inl (by.1 ∙ ap (λ (x : LaneItem). Some x) (sym is))) (inr (inr (inr (inl (inl (0, omega arith, refl))))))
        | inr is ↦ subst (λ (x : LaneItem). Freezes settings k (first ∷ second ∷ []) t v (by.2).machine (by.2).change x) (sym is) (by.2).freezes
      ]

  -- a pair gets a row from a lane that had met its home
  row_of_a_known_home : (v w m : ℕ) (pair : Pair) (bytes : List ℕ) (r : Reply)
      → LegalBlock settings k
      (answered 0 2 (command.Del pair) (reply.ReadOnly (record { volume = v; machine = m } ∷ [])) ∷ answered 0 3 (command.Put pair bytes) r ∷ [])
      logs (record { from = 0; rows = row_of 3 w ∷ [] }) t → ⊥
  row_of_a_known_home v w m pair bytes r b = let none = (b.pairs.0.0 refl).laid pair v bytes (refl, refl) refl in absurd cc

  -- a flush fails with a higher count than that with which its disk froze the volume
  flush_failed_behind_a_freeze : (v m f g : ℕ) (pair : Pair) (bytes : List ℕ) (rows : RowNote) → v < settings.volumes → (volume_at k v).frozen ≡ None → f ≤ g → f < 2 ^ 64 - 1
      → LegalBlock settings k (answered 0 2 (command.Flush v m) (reply.Failed v m g) ∷ answered 1 3 (command.Put pair bytes) (reply.Failed v m f) ∷ []) logs rows t → ⊥
  flush_failed_behind_a_freeze v m f g pair bytes rows below before falls low b =
      let flush : LaneItem = answered 0 2 (command.Flush v m) (reply.Failed v m g) in
      let put : LaneItem = answered 1 3 (command.Put pair bytes) (reply.Failed v m f) in
      let by = froze_by b v m below before ((b.lines.1).0).3.0 in
      elim (one_of_two flush put by.0 (by.2).among) [
        | inl is ↦ subst (λ (x : LaneItem). Freezes settings k (flush ∷ put ∷ []) t v (by.2).machine (by.2).change x) (sym is) (by.2).freezes
        | inr is ↦ elim (((volume b v below).counted put m f (by.1 ∙ ap (λ (x : LaneItem). Some x) (sym is)) refl).0 g (λ same. let clash : ◌≡◌ {A = ℕ} 2 3 = same in omega (arith, clash)) refl) [
          | inl less ↦ omega (arith, less, falls)
          | inr top ↦ omega (arith, top, low)
        ]
      ]

  -- a lane reads a higher count than that with which the disk froze the volume, and stores a photo on it then
  stored_behind_a_higher_count : (v m f g p p' d d' : ℕ) (c cookie : Cookie) (pair pair' pair'' : Pair) (bytes bytes' : List ℕ) (rows : RowNote) → v < settings.volumes
      → (volume_at k v).frozen ≡ None → f < g
      → LegalBlock settings k
      (answered 0 2 (command.Read pair cookie) (reply.Unreadable v p d (record { machine = m; cause = Disk g } ∷ []))
      ∷ answered 0 3 (command.Put pair' bytes) (reply.Stored v p' d' c)
      ∷ answered 1 4 (command.Put pair'' bytes') (reply.Failed v m f)
      ∷ [])
      logs rows t → ⊥
  stored_behind_a_higher_count v m f g p p' d d' c cookie pair pair' pair'' bytes bytes' rows below before more b =
      let by = froze_by b v m below before (((b.lines.1).1).0).3.0 in
      of_three by.0 by.1 (by.2).among (by.2).machine (by.2).change (by.2).freezes
    where
      read : LaneItem
      read = answered 0 2 (command.Read pair cookie) (reply.Unreadable v p d (record { machine = m; cause = Disk g } ∷ []))

      stored : LaneItem
      stored = answered 0 3 (command.Put pair' bytes) (reply.Stored v p' d' c)

      failed : LaneItem
      failed = answered 1 4 (command.Put pair'' bytes') (reply.Failed v m f)

      of_three : (item : LaneItem) → (volume b v below).froze ≡ Some item → Contains (read ∷ stored ∷ failed ∷ []) item
          → (by : ℕ) (change : Option Entry) → Freezes settings k (read ∷ stored ∷ failed ∷ []) t v by change item → ⊥
      of_three item is (zero, at, same) by change froze = subst (λ (x : LaneItem). Freezes settings k (read ∷ stored ∷ failed ∷ []) t v by change x) (sym same) froze
      of_three item is (suc zero, at, same) by change froze = subst (λ (x : LaneItem). Freezes settings k (read ∷ stored ∷ failed ∷ []) t v by change x) (sym same) froze
      of_three item is (suc (suc zero), at, same) by change froze =
          (volume b v below).lanes.0.0 refl
          (inr (inr (inr (failed, m, f, g, p, d, record { machine = m; cause = Disk g } ∷ [], is ∙ ap (λ (x : LaneItem). Some x) (sym same), refl, refl, (0, omega arith, refl), more))))
          (inr (inl refl))
      of_three item is (suc (suc (suc i)), at, same) by change froze = omega (arith, at)

  -- a put that each of two tries refused adds the row of its pair
  row_of_a_put_that_all_refused : (v : ℕ) (pair : Pair) (bytes : List ℕ) (one two : Refused) (rest : List Refused)
      → LegalBlock settings k (answered 0 2 (command.Put pair bytes) (reply.Full (one ∷ two ∷ rest)) ∷ []) logs (record { from = 0; rows = row_of 2 v ∷ [] }) t → ⊥
  row_of_a_put_that_all_refused v pair bytes one two rest b = by (new_rows k t) (b.homes).each
    where
      put : LaneItem
      put = answered 0 2 (command.Put pair bytes) (reply.Full (one ∷ two ∷ rest))

      by : (rows : List HomeRow) → AllZip (IsNewRow settings k (put ∷ []) t) (row_of 2 v ∷ []) rows → ⊥
      by [] zip = zip
      by (row ∷ more) zip =
          let new = zip.0 in
          subst (λ (x : LaneItem). MayHaveAdded settings k (put ∷ []) t row.pair new.bytes x.reply) (sym (the_only put new.item new.among)) new.reply

-- ENDS AND RECORDS IN A LANE

-- an entry that a log has behind its first ones is among so many of those
put_totalled : (log : List Logged) (n i many : ℕ) (logged : Logged) → n ≤ i → i < n + many → slice_get log i ≡ Some logged
    → put_total logged ≤ sum_by put_total (take many (drop n log))
put_totalled [] n i many logged low high at = absurd (none-some logged at)
put_totalled (x ∷ log) zero i zero logged low high at = absurd (omega (arith, high))
put_totalled (x ∷ log) zero zero (suc many) logged low high at =
    let total : put_total x ≡ put_total logged = ap (λ (l : Logged). put_total l) (same_Some x logged at) in
    omega (arith, total, sum_by-cons put_total x (take many log))
put_totalled (x ∷ log) zero (suc i) (suc many) logged low high at =
    omega (arith, put_totalled log zero i many logged (omega arith) (omega (arith, high)) at, sum_by-cons put_total x (take many log))
put_totalled (x ∷ log) (suc n) zero many logged low high at = absurd (omega (arith, low))
put_totalled (x ∷ log) (suc n) (suc i) many logged low high at = put_totalled log n i many logged (omega (arith, low)) (omega (arith, high)) at

-- more entries stand until a later front
totals_grow : (xs : List Logged) (n m : ℕ) → n ≤ m → sum_by put_total (take n xs) ≤ sum_by put_total (take m xs)
totals_grow [] zero m le = omega arith
totals_grow [] (suc n) zero le = absurd (omega (arith, le))
totals_grow [] (suc n) (suc m) le = omega arith
totals_grow (x ∷ xs) zero m le = omega arith
totals_grow (x ∷ xs) (suc n) zero le = absurd (omega (arith, le))
totals_grow (x ∷ xs) (suc n) (suc m) le =
    omega (arith, totals_grow xs n m (omega (arith, le)), sum_by-cons put_total x (take n xs), sum_by-cons put_total x (take m xs))

abbrev full_put : ℕ → ℕ → ℕ → ℕ → ℕ → Pair → List ℕ → LaneItem
full_put line v m end need pair bytes = answered 0 line (command.Put pair bytes) (reply.Full (NoRoom v m end need ∷ []))

-- what a lane tells in two lines stands in order
told_in_order : (v low high : ℕ) (met : ℕ → ℕ) (a b : LaneItem) (x y : Printed) → a.lane ≡ 0 → b.lane ≡ 0 → fronts_told met v a ≡ x ∷ [] → fronts_told met v b ≡ y ∷ []
    → FrontsGrow low high (flat_map (fronts_told met v) (lane_items (a ∷ b ∷ []) 0)) → InOrder x y
told_in_order v low high met a b x y lane_a lane_b one_a one_b grow =
    let items : lane_items (a ∷ b ∷ []) 0 ≡ a ∷ b ∷ [] =
    ap (λ (c : Bool). cond c (a ∷ lane_items (b ∷ []) 0) (lane_items (b ∷ []) 0)) (eq-eqb a.lane 0 lane_a)
    ∙ ap (λ (c : Bool). a ∷ cond c (b ∷ []) []) (eq-eqb b.lane 0 lane_b) in
    let told : flat_map (fronts_told met v) (lane_items (a ∷ b ∷ []) 0) ≡ x ∷ y ∷ [] =
    ap (λ (xs : List LaneItem). flat_map (fronts_told met v) xs) items
    ∙ ap (λ (xs : List Printed). xs ++ (fronts_told met v b ++ [])) one_a
    ∙ ap (λ (ys : List Printed). x ∷ (ys ++ [])) one_b in
    (subst (λ (xs : List Printed). EachPair InOrder xs) told grow.0).0.0

told_full : (v m n end need : ℕ) (met : ℕ → ℕ) (pair : Pair) (bytes : List ℕ) → fronts_told met v (full_put n v m end need pair bytes) ≡ printed (met n) false ∷ []
told_full v m n end need met pair bytes = ap (λ (c : Bool). cond (c || false) (printed (met n) false ∷ []) []) (eq-eqb v v refl)

-- the end of a replica without room that was not swapped as is said
end_without_room : {settings : Settings} {k t : Known} (v m j front end need : ℕ) (Swapped : ℕ → Type 0) → replica_on settings v m ≡ Some j → (Swapped j → ⊥)
    → LacksRoom settings k t v Swapped front m end need → end ≡ end_with_puts k t v front j
end_without_room {settings} {k} {t} v m j front end need Swapped there kept lacks =
    let named : lacks.replica ≡ j = same_Some _ _ (sym lacks.there ∙ there) in
    elim (subst (λ (r : ℕ). MayEndAt k t v Swapped front r end) named lacks.ended) [ inl same ↦ same | inr swapped ↦ absurd (kept swapped.0) ]

-- the second of two lines stands before none
no_later : (a b : LaneItem) → a.line ≢ b.line → StandsBefore (a ∷ b ∷ []) b a → ⊥
no_later a b apart (zero, n, less, at, then) = apart (ap (λ (x : LaneItem). x.line) (same_Some a b at))
no_later a b apart (suc zero, zero, less, at, then) = omega (arith, less)
no_later a b apart (suc zero, suc zero, less, at, then) = omega (arith, less)
no_later a b apart (suc zero, suc (suc n), less, at, then) = none-some _ then
no_later a b apart (suc (suc i), n, less, at, then) = none-some _ at

never_swaps : (v m : ℕ) (a b : LaneItem) (Where : LaneItem → Type 0) → made_on v m a ≡ [] → made_on v m b ≡ [] → SwappedWhere (a ∷ b ∷ []) v m Where → ⊥
never_swaps v m a b Where none_a none_b swapped = elim (one_of_two a b swapped.0 swapped.1) [
  | inl first ↦ swapped.2 (ap (made_on v m) (sym first) ∙ none_a)
  | inr second ↦ swapped.2 (ap (made_on v m) (sym second) ∙ none_b)
]

module _ {settings : Settings} {k : Known} {logs : List LogNote} {rows : RowNote} {t : Known} (v m j : ℕ) (below : v < settings.volumes)
    (there : replica_on settings v m ≡ Some j) where
  -- the ends that a lane is told of a replica fall, though no line swaps it
  ends_fall : (end end' need need' : ℕ) (pair pair' : Pair) (bytes bytes' : List ℕ) → end' < end
      → LegalBlock settings k (full_put 2 v m end need pair bytes ∷ full_put 3 v m end' need' pair' bytes' ∷ []) logs rows t → ⊥
  ends_fall end end' need need' pair pair' bytes bytes' falls b =
      let told = (volume b v below).meetings in
      let rises : told.met 2 ≤ told.met 3 =
      told_in_order v _ _ told.met (full_put 2 v m end need pair bytes) (full_put 3 v m end' need' pair' bytes') (printed (told.met 2) false) (printed (told.met 3) false) refl refl
      (told_full v m 2 end need told.met pair bytes) (told_full v m 3 end' need' told.met pair' bytes') (told.fronts).0 in
      let first : end ≡ end_with_puts k t v (told.met 2) j = end_without_room v m j (told.met 2) end need _ there (never_swaps v (machine_of settings v j) _ _ _ refl refl) ((told.room).0.0 refl) in
      let second : end' ≡ end_with_puts k t v (told.met 3) j =
      end_without_room v m j (told.met 3) end' need' _ there (never_swaps v (machine_of settings v j) _ _ _ refl refl) ((told.room).1.0.0 refl) in
      let more = totals_grow (new_entries k t v) (told.met 2 - length (volume_at k v).log) (told.met 3 - length (volume_at k v).log) (omega (arith, rises)) in
      omega (arith, first, second, more, falls)

  -- a lane is told an end that its own put before had passed
  end_before_own_put : (p d end need : ℕ) (c : Cookie) (pair pair' : Pair) (bytes bytes' : List ℕ)
      → end < (replica_at (volume_at k v) j).end + needle_total (length bytes)
      → LegalBlock settings k (answered 0 2 (command.Put pair bytes) (reply.Stored v p d c) ∷ full_put 3 v m end need pair' bytes' ∷ []) logs rows t → ⊥
  end_before_own_put p d end need c pair pair' bytes bytes' short b =
      let put : LaneItem = answered 0 2 (command.Put pair bytes) (reply.Stored v p d c) in
      let told = (volume b v below).meetings in
      let rises : p ≤ told.met 3 =
      told_in_order v _ _ told.met put (full_put 3 v m end need pair' bytes') (printed p true) (printed (told.met 3) false) refl refl
      (ap (λ (x : Bool). cond x (printed p true ∷ []) []) (eq-eqb v v refl)) (told_full v m 3 end need told.met pair' bytes') (told.fronts).0 in
      let ended : end ≡ end_with_puts k t v (told.met 3) j = end_without_room v m j (told.met 3) end need _ there (never_swaps v (machine_of settings v j) _ _ _ refl refl) ((told.room).1.0.0 refl) in
      let entered = (b.entered).0 in
      let logged = entered.1.0 in
      let entry_is : entry.Put pair (cookie_of settings.secret pair.key) bytes ≡ logged.entry = same_Some _ logged.entry (entered.1.2).entry in
      let total : needle_total (length bytes) ≡ put_total logged = ap (λ (e : Entry). put_total (record { tag = logged.tag; entry = e })) entry_is in
      let some =
      put_totalled (volume_at t v).log (length (volume_at k v).log) (p - 1) (told.met 3 - length (volume_at k v).log) logged (omega (arith, entered.0))
      (omega (arith, entered.0, rises)) entered.1.1 in
      omega (arith, ended, total, some, short)

  -- a lane is told an end before that of k, and swaps the replica only then
  end_before_own_swap : (end need u w g : ℕ) (pair : Pair) (bytes : List ℕ) → end < (replica_at (volume_at k v) j).end
      → LegalBlock settings k (full_put 2 v m end need pair bytes ∷ answered 0 3 (command.Compact u w) (reply.Compacted u w g) ∷ []) logs rows t → ⊥
  end_before_own_swap end need u w g pair bytes short b =
      let full : LaneItem = full_put 2 v m end need pair bytes in
      let swap : LaneItem = answered 0 3 (command.Compact u w) (reply.Compacted u w g) in
      let told = (volume b v below).meetings in
      let ended : end ≡ end_with_puts k t v (told.met 2) j =
      end_without_room v m j (told.met 2) end need (SwappedBefore settings (full ∷ swap ∷ []) v full) there
      (λ swapped. elim (one_of_two full swap swapped.0 swapped.1) [
        | inl first ↦ swapped.2 (ap (made_on v (machine_of settings v j)) (sym first))
        | inr second ↦
            no_later full swap (λ same. let clash : ◌≡◌ {A = ℕ} 2 3 = same in omega (arith, clash))
            (subst (λ (x : LaneItem). MayPrecede (full ∷ swap ∷ []) x full) (sym second) swapped.3 refl)
      ])
      ((told.room).0.0 refl) in
      omega (arith, ended, short)

  -- a lane flushes the record of a photo that it stores only then, where no cell was without a record before
  flushed_before_own_put : (n p d : ℕ) (c : Cookie) (pair : Pair) (bytes : List ℕ) → machine_of settings v j ≡ m → j < settings.replicas → 0 < n
      → (replica_at (volume_at k v) j).bare ≡ 0 → p ≡ length (volume_at k v).log + 1
      → LegalBlock settings k (answered 0 2 (command.Flush v m) (reply.Flushed v m n) ∷ answered 0 3 (command.Put pair bytes) (reply.Stored v p d c) ∷ []) logs rows t → ⊥
  flushed_before_own_put n p d c pair bytes on within some bare first b =
      let flush : LaneItem = answered 0 2 (command.Flush v m) (reply.Flushed v m n) in
      let put : LaneItem = answered 0 3 (command.Put pair bytes) (reply.Stored v p d c) in
      let told = (volume b v below).meetings in
      let rises : told.met 2 < p =
      told_in_order v _ _ told.met flush put (printed (told.met 2) false) (printed p true) refl refl
      (ap (λ (x : Bool). cond x (printed (told.met 2) false ∷ []) []) (eq-eqb v v refl)) (ap (λ (x : Bool). cond x (printed p true ∷ []) []) (eq-eqb v v refl)) (told.fronts).0 in
      let records = each_in_range
      (λ j. RecordsAreLegal k (flush ∷ put ∷ []) t v (machine_of settings v j) told.met (replica_at (volume_at k v) j) (replica_at (volume_at t v) j))
      0 settings.replicas j told.records (omega arith) (omega (arith, within)) in
      let printed_n : flushed_on v (machine_of settings v j) flush ≡ n ∷ [] =
      ap (λ (x : Bool). cond (x && (m == machine_of settings v j)) (n ∷ []) []) (eq-eqb v v refl)
      ∙ ap (λ (x : Bool). cond x (n ∷ []) []) (eq-eqb m (machine_of settings v j) (sym on)) in
      let most : n ≤ (replica_at (volume_at k v) j).bare + puts_until k t v (told.met 2) =
      (subst (λ (xs : List ℕ). Each (λ n. n ≤ (replica_at (volume_at k v) j).bare + puts_until k t v (told.met 2)) xs) printed_n (records.first).0).0 in
      let none : told.met 2 - length (volume_at k v).log ≡ 0 = omega (arith, rises, first) in
      let nothing : puts_until k t v (told.met 2) ≡ 0 = ap (λ (x : ℕ). count_by is_put (take x (new_entries k t v))) none in
      omega (arith, most, nothing, bare, some)

-- GENERATIONS AND INDEXES IN A LANE

abbrev line_at : Option LaneItem → ℕ
line_at None = 0
line_at (Some item) = item.line

module _ (settings : Settings) (k : Known) (logs : List LogNote) (rows : RowNote) (t : Known) (v j : ℕ) (below : v < settings.volumes) (within : j < settings.replicas) where
  abbrev on : ℕ
  on = machine_of settings v j

  here : {X : Type 0} (x : X) → cond ((v == v) && (on == on)) (x ∷ []) [] ≡ x ∷ []
  here x = ap (λ (b : Bool). cond (b && (on == on)) (x ∷ []) []) (eq-eqb v v refl) ∙ ap (λ (b : Bool). cond b (x ∷ []) []) (eq-eqb on on refl)

  -- a lane flushes an index that it left stuck, though no line swapped the replica
  flushed_behind_failure : (v' m' v'' m'' f n : ℕ)
      → LegalBlock settings k (answered 0 2 (command.Flush v on) (reply.Failed v' m' f) ∷ answered 0 3 (command.Flush v on) (reply.Flushed v'' m'' n) ∷ []) logs rows t → ⊥
  flushed_behind_failure v' m' v'' m'' f n b =
      never_swaps v on _ _ _ refl refl (((replica b v j below within).index).between.0.0 refl (inl (refl, refl)) (refl, refl))

  -- a flush is refused, by a freeze or as its index is stuck, and the next one of the lane fails
  failed_behind_refusal : (v' m' f : ℕ)
      → LegalBlock settings k
      (answered 0 2 (command.Flush v on) (reply.ReadOnly (record { volume = v; machine = on } ∷ [])) ∷ answered 0 3 (command.Flush v on) (reply.Failed v' m' f) ∷ [])
      logs rows t → ⊥
  failed_behind_refusal v' m' f b =
      never_swaps v on _ _ _ refl refl (((replica b v j below within).index).between.0.0 refl (inr ((refl, refl), (refl, refl))) (refl, refl))

  -- a lane flushes an index that was stuck before the block, and swaps the replica only then
  flushed_before_swap : (v' m' n g : ℕ) → (replica_at (volume_at k v) j).stuck ≡ true
      → LegalBlock settings k (answered 0 2 (command.Flush v on) (reply.Flushed v' m' n) ∷ answered 0 3 (command.Compact v on) (reply.Compacted v on g) ∷ []) logs rows t → ⊥
  flushed_before_swap v' m' n g stuck b =
      let flush : LaneItem = answered 0 2 (command.Flush v on) (reply.Flushed v' m' n) in
      let swapped = ((replica b v j below within).index).before.0 stuck (refl, refl) in
      elim (one_of_two _ _ swapped.0 swapped.1) [
        | inl first ↦ swapped.2 (ap (made_on v on) (sym first))
        | inr second ↦ late (subst (λ (x : LaneItem). MayPrecede (flush ∷ answered 0 3 (command.Compact v on) (reply.Compacted v on g) ∷ []) x flush) (sym second) swapped.3 refl)
      ]
    where
      -- the second of two lines stands before no flush
      late : StandsBefore (answered 0 2 (command.Flush v on) (reply.Flushed v' m' n) ∷ answered 0 3 (command.Compact v on) (reply.Compacted v on g) ∷ [])
          (answered 0 3 (command.Compact v on) (reply.Compacted v on g)) (answered 0 2 (command.Flush v on) (reply.Flushed v' m' n)) → ⊥
      late (zero, n, less, at, then) = let clash : 2 ≡ 3 = ap line_at at in omega (arith, clash)
      late (suc zero, suc zero, less, at, then) = omega (arith, less)
      late (suc zero, zero, less, at, then) = omega (arith, less)
      late (suc zero, suc (suc n), less, at, then) = none-some _ then
      late (suc (suc i), n, less, at, then) = none-some _ at

  -- two lanes leave an index stuck that no line swapped
  stuck_twice : (v' m' v'' m'' f f' : ℕ) → (replica_at (volume_at t v) j).generation ≡ (replica_at (volume_at k v) j).generation
      → LegalBlock settings k (answered 0 2 (command.Flush v on) (reply.Failed v' m' f) ∷ answered 1 3 (command.Flush v on) (reply.Failed v'' m'' f') ∷ []) logs rows t → ⊥
  stuck_twice v' m' v'' m'' f f' same b =
      let bit : Bool → ℕ = λ x. cond x 1 0 in
      let count : ℕ = 1 in
      let one : bit ((v == v) && (on == on)) ≡ count = ap (λ (x : Bool). bit (x && (on == on))) (eq-eqb v v refl) ∙ ap bit (eq-eqb on on refl) in
      let first : LaneItem = answered 0 2 (command.Flush v on) (reply.Failed v' m' f) in
      let second : LaneItem = answered 1 3 (command.Flush v on) (reply.Failed v'' m'' f') in
      let least = ((replica b v j below within).index).once in
      let total = sum_by-cons (sticks_on v on) first (second ∷ []) in
      let rest = sum_by-cons (sticks_on v on) second [] in
      let most : cond (replica_at (volume_at t v) j).stuck 1 0 ≤ 1 = at_most_one (replica_at (volume_at t v) j).stuck in
      omega (arith, least, total, rest, one, same, most)
    where
      at_most_one : (x : Bool) → cond x 1 0 ≤ 1
      at_most_one true = omega arith
      at_most_one false = omega arith

  -- the generations that a lane makes fall
  generations_fall : (g g' : ℕ) → g' ≤ g
      → LegalBlock settings k (answered 0 2 (command.Compact v on) (reply.Compacted v on g) ∷ answered 0 3 (command.Compact v on) (reply.Compacted v on g') ∷ []) logs rows t → ⊥
  generations_fall g g' falls b =
      let rises : EachPair InOrder (generation_print v on (answered 0 2 (command.Compact v on) (reply.Compacted v on g))
      ++ (generation_print v on (answered 0 3 (command.Compact v on) (reply.Compacted v on g')) ++ [])) = ((replica b v j below within).generations).rising.0 in
      let first = subst (λ (xs : List Printed). EachPair InOrder (xs ++ (generation_print v on (answered 0 3 (command.Compact v on) (reply.Compacted v on g')) ++ [])))
      (here (printed g true)) rises in
      let both = subst (λ (xs : List Printed). EachPair InOrder (printed g true ∷ (xs ++ []))) (here (printed g' true)) first in
      let less : g < g' = both.0.0 in omega (arith, less, falls)

  -- a lane is told the last generation, and then want of memory froze the volume behind a swap of its own
  last_generation_behind_a_freeze : (m : ℕ) → (volume_at k v).frozen ≡ None → (volume_at t v).frozen ≡ Some m
      → LegalBlock settings k
      (answered 0 2 (command.Compact v on) (reply.Compacted v on (replica_at (volume_at t v) j).generation) ∷ answered 0 3 (command.Compact v on) reply.NoMem ∷ [])
      logs rows t → ⊥
  last_generation_behind_a_freeze m before frozen b =
      let first : LaneItem = answered 0 2 (command.Compact v on) (reply.Compacted v on (replica_at (volume_at t v) j).generation) in
      let second : LaneItem = answered 0 3 (command.Compact v on) reply.NoMem in
      let by = froze_by b v m below before frozen in
      elim (one_of_two first second by.0 (by.2).among) [
        | inl is ↦ subst (λ (x : LaneItem). Freezes settings k (first ∷ second ∷ []) t v (by.2).machine (by.2).change x) (sym is) (by.2).freezes
        | inr is ↦ last (volume b v below).froze (by.1 ∙ ap (λ (x : LaneItem). Some x) (sym is)) ((replica b v j below within).generations).inside_range
      ]
    where
      second : LaneItem
      second = answered 0 3 (command.Compact v on) reply.NoMem

      last : (froze : Option LaneItem) → froze ≡ Some second
          → Each (λ g. ((replica_at (volume_at k v) j).generation < g) × (g + cond (froze_at_compact v on is_wanting froze) 1 0 ≤ (replica_at (volume_at t v) j).generation))
          (cond ((v == v) && (on == on)) ((replica_at (volume_at t v) j).generation ∷ []) [] ++ [])
          → ⊥
      last froze is each =
          let one : ◌≡◌ {A = ℕ} (cond (froze_at_compact v on is_wanting froze) 1 0) 1 =
          ap (λ (o : Option LaneItem). cond (froze_at_compact v on is_wanting o) 1 0) is ∙ ap (λ (x : Bool). cond (x && true) 1 0) compacts in
          let shown =
          subst (λ (xs : List ℕ). Each (λ g. ((replica_at (volume_at k v) j).generation < g)
          × (g + cond (froze_at_compact v on is_wanting froze) 1 0 ≤ (replica_at (volume_at t v) j).generation)) (xs ++ []))
          (here (replica_at (volume_at t v) j).generation) each in
          omega (arith, one, shown.0.1)
        where
          compacts : is_compacted v on second ≡ true
          compacts = ap (λ (x : Bool). x && (on == on)) (eq-eqb v v refl) ∙ eq-eqb on on refl
