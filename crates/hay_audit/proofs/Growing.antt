-- How far a store may have grown behind so many items.
use Rattle.std.proofs.Common.{◌≡◌, ℕ, zero, suc, ◌+◌, ◌*◌, ◌<◌, ◌≤◌, Bool, true, false, List, [], ◌∷◌, ◌++◌, length, map, replicate, Option, Some, None, option_map, refl, sym, ap}
use Rattle.std.proofs.Common.{subst, ◌∙◌, ◌⊎◌, inl, inr, arith}
use Rattle.std.specs.Prelude.{slice_index_or, slice_set}
use Rattle.std.specs.List.{AllByRecursion as Each}
use Rattle.hay_needle.specs.declared.needle.Pair.{Pair}
use Rattle.hay_needle.specs.declared.needle.Cookie.{Cookie}
use Rattle.hay_needle.specs.declared.settings.Settings.{Settings}
use Rattle.hay_needle.specs.Sizes.{needle_total}
use Rattle.hay_needle.specs.Tables.{Table, live_end}
use Rattle.hay_needle.specs.declared.total.TheConstants.{MAX_PHOTO}
use Rattle.hay_script.specs.declared.Command.{Command}
use Rattle.hay_script.specs.declared.Command.TheVariants as command
use Rattle.hay_url.specs.declared.Url.{Url as UrlParts}
use Rattle.hay_reply.specs.declared.Note.{Note}
use Rattle.hay_reply.specs.declared.Reply.{Reply}
use Rattle.hay_reply.specs.declared.Reply.TheVariants as reply
use Rattle.hay_core.specs.declared.entry.Entry.{Entry}
use Rattle.hay_core.specs.declared.entry.Entry.TheVariants as entry
use Rattle.hay_core.specs.declared.entry.CoreTag.{CoreTag}
use Rattle.hay_core.specs.declared.entry.Logged.{Logged}
use Rattle.hay_legal.specs.declared.known.Known.{Known}
use Rattle.hay_legal.specs.declared.known.Pending.{Pending}
use Rattle.hay_legal.specs.declared.known.ReplicaKnown.{ReplicaKnown}
use Rattle.hay_legal.specs.declared.known.Run.{Run}
use Rattle.hay_legal.specs.declared.known.VolumeKnown.{VolumeKnown}
use Rattle.hay_legal.specs.declared.turn.Item.{Item}
use Rattle.hay_legal.specs.declared.turn.Item.TheVariants as item
use Rattle.hay_legal.specs.declared.turn.Turn.{Turn}
use Rattle.hay_legal.specs.declared.turn.Turn.TheVariants.{Lanes, Plain, Restart}
use Rattle.hay_legal.specs.Items.{Asked, item_of_turn}
use Rattle.hay_legal.specs.Known.{Leaves, empty_replica, empty_volume, fresh_unharmed, fresh_volume, now, replica_at, replica_on, slot_of, volume_at, with_home, with_replica}
use Rattle.hay_legal.specs.Legal.{Legal, LegalTurn, known_after}
use Rattle.hay_legal.specs.Plain.{IsAtRest, IsLoose, IsTight, LegalBegin, LegalCommand, LegalCompact, LegalDel, LegalDrain, LegalFinish, LegalFlush, LegalFuse, LegalFuseDir}
use Rattle.hay_legal.specs.Plain.{LegalGetAt, LegalPlain, LegalPut, LegalShow, LegalStep, LegalUndrain, LegalUrl, MayFinish, OnReplica, SwapFailed, SwapNoMem, Swaps, as_it_is}
use Rattle.hay_legal.specs.Plain.{change_replica, change_volume, ended_where, first_machine, frozen_by, frozen_with, grown, poised, poised_by, put_entry, put_frozen, replica_of}
use Rattle.hay_legal.specs.Plain.{row_pending, run_grown, start_of, stepped, swapped, with_bare, with_del, with_drain, with_fuses, with_put, with_run, with_stuck, without_run}
use Rattle.hay_legal.specs.Restarts.{BareIs, LegalRestart, ReopenedReplica, ReopenedReplicas, ReopenedVolume, ReopenedVolumes, StandsAsItWas, StandsSwapped, added_cells}
use Rattle.hay_legal.specs.Restarts.{added_end, is_kept, kept_entry, with_entries}
use Rattle.hay_audit.specs.Outside.{IsWithinAsked, IsWithinItem}
use Rattle.hay_audit.proofs.Small.{each_index}
use Rattle.hay_audit.proofs.Tallying.{IsAbove, log_length, log_size, log_size_more, none_above, now_above, one_above}

-- WHAT IS BOUNDED

-- where a file ends behind n items, of which each puts one photo at most
abbrev pub most_end : ℕ → ℕ
most_end n = 64 + n * 16777280

-- a change whose photo is no larger than a photo may be
abbrev pub IsPhoto : Entry → Type 0
IsPhoto (entry.Put pair cookie bytes) = length bytes ≤ MAX_PHOTO
IsPhoto (entry.Del pair) = Unit {0}

abbrev pub IsPhotoPending : Option Pending → Type 0
IsPhotoPending None = Unit {0}
IsPhotoPending (Some pending) = IsPhoto pending.entry

abbrev pub IsLeft : ℕ → Option Run → Type 0
IsLeft n None = Unit {0}
IsLeft n (Some run) = run.left ≤ n

-- a replica behind n items, behind this log of its volume
pub record IsReplicaGrown (n : ℕ) (log : List Logged) (r : ReplicaKnown) : Type 0 where
  pub end : r.end ≤ most_end n
  pub cells : r.cells ≤ n
  pub bare : r.bare ≤ n
  pub generation : r.generation ≤ n
  pub left : IsLeft n r.run
  pub photos_end : live_end r.base + log_size log ≤ most_end n
  pub photos : length r.base + length log ≤ n

pub record IsVolumeGrown (n : ℕ) (volume : VolumeKnown) : Type 0 where
  pub log : 64 + log_size volume.log ≤ most_end n
  pub pending : IsPhotoPending volume.pending
  pub replicas : Each (IsReplicaGrown n volume.log) volume.replicas

abbrev pub IsGrown : ℕ → Known → Type 0
IsGrown n k = Each (IsVolumeGrown n) k.volumes

-- EACH OF A LIST

each_to : {X : Type 0} (P Q : X → Type 0) (xs : List X) → ((x : X) → P x → Q x) → Each P xs → Each Q xs
each_to P Q [] on h = tt
each_to P Q (x ∷ xs) on h = (on x h.0, each_to P Q xs on h.1)

each_mapped : {X Y : Type 0} (P : X → Type 0) (Q : Y → Type 0) (f : X → Y) (xs : List X) → ((x : X) → P x → Q (f x)) → Each P xs → Each Q (map f xs)
each_mapped P Q f [] on h = tt
each_mapped P Q f (x ∷ xs) on h = (on x h.0, each_mapped P Q f xs on h.1)

set_each : {X : Type 0} (P Q : X → Type 0) (xs : List X) (i : ℕ) (d y : X) → ((x : X) → P x → Q x) → (P (slice_index_or xs i d) → Q y) → Each P xs → Each Q (slice_set xs i y)
set_each P Q [] i d y on at h = tt
set_each P Q (x ∷ xs) zero d y on at h = (at h.0, each_to P Q xs on h.1)
set_each P Q (x ∷ xs) (suc i) d y on at h = (on x h.0, set_each P Q xs i d y on at h.1)

each_replicated : {X : Type 0} (P : X → Type 0) (n : ℕ) (x : X) → P x → Each P (replicate n x)
each_replicated P zero x h = tt
each_replicated P (suc n) x h = (h, each_replicated P n x h)

-- MORE ITEMS

left_more : (n m : ℕ) (run : Option Run) → n ≤ m → IsLeft n run → IsLeft m run
left_more n m None less h = tt
left_more n m (Some run) less h = omega (arith, less, h)

replica_more : (n m : ℕ) (log : List Logged) (r : ReplicaKnown) → n ≤ m → IsReplicaGrown n log r → IsReplicaGrown m log r
replica_more n m log r less h = record {
  end = omega (arith, less, h.end);
  cells = omega (arith, less, h.cells);
  bare = omega (arith, less, h.bare);
  generation = omega (arith, less, h.generation);
  left = left_more n m r.run less h.left;
  photos_end = omega (arith, less, h.photos_end);
  photos = omega (arith, less, h.photos);
}

volume_more : (n m : ℕ) (volume : VolumeKnown) → n ≤ m → IsVolumeGrown n volume → IsVolumeGrown m volume
volume_more n m volume less h = record {
  log = omega (arith, less, h.log);
  pending = h.pending;
  replicas = each_to (IsReplicaGrown n volume.log) (IsReplicaGrown m volume.log) volume.replicas (λ r. replica_more n m volume.log r less) h.replicas;
}

grown_more : (n m : ℕ) (k : Known) → n ≤ m → IsGrown n k → IsGrown m k
grown_more n m k less h = each_to (IsVolumeGrown n) (IsVolumeGrown m) k.volumes (λ volume. volume_more n m volume less) h

-- the volumes alone count
by_leaves : (n : ℕ) (k e t : Known) → IsGrown n e → Leaves k e t → IsGrown n t
by_leaves n k e t h leaves = subst (λ (volumes : List VolumeKnown). Each (IsVolumeGrown n) volumes) (sym leaves.volumes) h

unchanged : (n : ℕ) (k t : Known) → IsGrown n k → Leaves k k t → IsGrown (n + 1) t
unchanged n k t h leaves = by_leaves (n + 1) k k t (grown_more n (n + 1) k (omega arith) h) leaves

-- CHANGES OF A VOLUME

volume_changed : (n m : ℕ) (k : Known) (v : ℕ) (change : VolumeKnown → VolumeKnown) → n ≤ m → (IsVolumeGrown n (volume_at k v) → IsVolumeGrown m (change (volume_at k v))) → IsGrown n k
    → IsGrown m (change_volume k v change)
volume_changed n m k v change less step h =
    set_each (IsVolumeGrown n) (IsVolumeGrown m) k.volumes v empty_volume (change (volume_at k v)) (λ volume. volume_more n m volume less) step h

replica_changed : (n m : ℕ) (k : Known) (v j : ℕ) (change : ReplicaKnown → ReplicaKnown) → n ≤ m
    → (IsVolumeGrown n (volume_at k v) → IsReplicaGrown n (volume_at k v).log (replica_of k v j) → IsReplicaGrown m (volume_at k v).log (change (replica_of k v j))) → IsGrown n k
    → IsGrown m (change_replica k v j change)
replica_changed n m k v j change less step h =
    volume_changed n m k v (λ volume. with_replica volume j (change (replica_at (volume_at k v) j))) less
    (λ here. record {
      log = omega (arith, less, here.log);
      pending = here.pending;
      replicas = set_each (IsReplicaGrown n (volume_at k v).log) (IsReplicaGrown m (volume_at k v).log) (volume_at k v).replicas j empty_replica (change (replica_at (volume_at k v) j))
          (λ r. replica_more n m (volume_at k v).log r less) (step here) here.replicas;
    })
    h

-- a change of one replica alone that adds nothing
replica_leaves : (n : ℕ) (k : Known) (v j : ℕ) (change : ReplicaKnown → ReplicaKnown) (t : Known)
    → (IsReplicaGrown (n + 1) (volume_at k v).log (replica_of k v j) → IsReplicaGrown (n + 1) (volume_at k v).log (change (replica_of k v j))) → IsGrown n k
    → Leaves k (change_replica k v j change) t → IsGrown (n + 1) t
replica_leaves n k v j change t step h leaves =
    by_leaves (n + 1) k (change_replica k v j change) t
    (replica_changed n (n + 1) k v j change (omega arith) (λ here r. step (replica_more n (n + 1) (volume_at k v).log (replica_of k v j) (omega arith) r)) h) leaves

ends_run : (n : ℕ) (log : List Logged) (r : ReplicaKnown) → IsReplicaGrown n log r → IsReplicaGrown n log (without_run r)
ends_run n log r h = record { end = h.end; cells = h.cells; bare = h.bare; generation = h.generation; left = tt; photos_end = h.photos_end; photos = h.photos }

freezes : (n m : ℕ) (volume : VolumeKnown) → IsVolumeGrown n volume → IsVolumeGrown n (frozen_by m volume)
freezes n m volume h = record {
  log = h.log;
  pending = h.pending;
  replicas = each_mapped (IsReplicaGrown n volume.log) (IsReplicaGrown n volume.log) without_run volume.replicas (λ r. ends_run n volume.log r) h.replicas;
}

freezes_with : (n m : ℕ) (tag : CoreTag) (e : Entry) (failed : Bool) (volume : VolumeKnown) → IsPhoto e → IsVolumeGrown n volume → IsVolumeGrown n (frozen_with m tag e failed volume)
freezes_with n m tag e failed volume photo h = record {
  log = h.log;
  pending = photo;
  replicas = each_mapped (IsReplicaGrown n volume.log) (IsReplicaGrown n volume.log) without_run volume.replicas (λ r. ends_run n volume.log r) h.replicas;
}

freeze_leaves : (n : ℕ) (k : Known) (v m : ℕ) (t : Known) → IsGrown n k → Leaves k (change_volume k v (frozen_by m)) t → IsGrown (n + 1) t
freeze_leaves n k v m t h leaves =
    by_leaves (n + 1) k (change_volume k v (frozen_by m)) t
    (volume_changed n (n + 1) k v (frozen_by m) (omega arith) (λ here. freezes (n + 1) m (volume_at k v) (volume_more n (n + 1) (volume_at k v) (omega arith) here)) h) leaves

freeze_with_leaves : (n : ℕ) (k : Known) (v m : ℕ) (tag : CoreTag) (e : Entry) (failed : Bool) (t : Known) → IsPhoto e → IsGrown n k
    → Leaves k (change_volume k v (frozen_with m tag e failed)) t → IsGrown (n + 1) t
freeze_with_leaves n k v m tag e failed t photo h leaves =
    by_leaves (n + 1) k (change_volume k v (frozen_with m tag e failed)) t
    (volume_changed n (n + 1) k v (frozen_with m tag e failed) (omega arith)
    (λ here. freezes_with (n + 1) m tag e failed (volume_at k v) photo (volume_more n (n + 1) (volume_at k v) (omega arith) here)) h) leaves

-- PUTS

photo_total : (size : ℕ) → size ≤ MAX_PHOTO → needle_total size ≤ 16777280
photo_total size h = omega (arith, h)

left_grown : (n : ℕ) (run : Option Run) → IsLeft n run → IsLeft (n + 1) (option_map run_grown run)
left_grown n None h = tt
left_grown n (Some run) h = omega (arith, h)

puts : (n : ℕ) (volume : VolumeKnown) (tag : CoreTag) (pair : Pair) (c : Cookie) (bytes : List ℕ) → length bytes ≤ MAX_PHOTO → IsVolumeGrown n volume
    → IsVolumeGrown (n + 1) (with_put volume tag pair c bytes)
puts n volume tag pair c bytes small h =
    let logged : Logged = record { tag = tag; entry = entry.Put pair c bytes } in
    let total = photo_total (length bytes) small in
    let size = log_size_more volume.log logged in
    let many = log_length volume.log logged in
    record {
      log = omega (arith, h.log, total, size);
      pending = h.pending;
      replicas = each_mapped (IsReplicaGrown n volume.log) (IsReplicaGrown (n + 1) (volume.log ++ logged ∷ [])) (grown (length bytes)) volume.replicas
          (λ r g. record {
            end = omega (arith, g.end, total);
            cells = omega (arith, g.cells);
            bare = omega (arith, g.bare);
            generation = omega (arith, g.generation);
            left = left_grown n r.run g.left;
            photos_end = omega (arith, g.photos_end, total, size);
            photos = omega (arith, g.photos, many);
          })
          h.replicas;
    }

photo_of : (settings : Settings) (pair : Pair) (bytes : List ℕ) → length bytes ≤ MAX_PHOTO → IsPhoto (put_entry settings pair bytes)
photo_of settings pair bytes h = h

put_grown : (n : ℕ) (settings : Settings) (k : Known) (tag : CoreTag) (pair : Pair) (bytes : List ℕ) (r : Reply) (t : Known) → length bytes ≤ MAX_PHOTO → IsGrown n k
    → LegalPut settings k tag pair bytes r t → IsGrown (n + 1) t
put_grown n settings k tag pair bytes (reply.Stored v p d c) t small g h =
    by_leaves (n + 1) k (with_home (change_volume k v (λ volume. with_put volume tag pair c bytes)) pair v) t
    (volume_changed n (n + 1) k v (λ volume. with_put volume tag pair c bytes) (omega arith) (λ here. puts n (volume_at k v) tag pair c bytes small here) g) h.leaves
put_grown n settings k tag pair bytes (reply.Full refused) t small g h = unchanged n k t g h.2
put_grown n settings k tag pair bytes (reply.ReadOnly by) t small g h = unchanged n k t g h.1
put_grown n settings k tag pair bytes reply.ReadOnlyDir t small g h = unchanged n k t g h.2
put_grown n settings k tag pair bytes (reply.Failed v m f) t small g h =
    by_leaves (n + 1) k (put_frozen settings k tag pair bytes v m true) t
    (volume_changed n (n + 1) k v (frozen_with m tag (put_entry settings pair bytes) true) (omega arith)
    (λ here. freezes_with (n + 1) m tag (put_entry settings pair bytes) true (volume_at k v) (photo_of settings pair bytes small)
    (volume_more n (n + 1) (volume_at k v) (omega arith) here)) g) h.leaves
put_grown n settings k tag pair bytes (reply.FailedDir f) t small g h =
    by_leaves (n + 1) k (row_pending k tag pair (h.needs).volume) t (grown_more n (n + 1) k (omega arith) g) h.leaves
put_grown n settings k tag pair bytes reply.NoMem t small g h =
    elim h [
      | inl leaves ↦ unchanged n k t g leaves
      | inr some ↦ elim some.3 [
        | inl leaves ↦ by_leaves (n + 1) k (with_home k pair some.0) t (grown_more n (n + 1) k (omega arith) g) leaves
        | inr others ↦ elim others [
          | inl row ↦ by_leaves (n + 1) k (row_pending k tag pair some.0) t (grown_more n (n + 1) k (omega arith) g) row.1
          | inr leaves ↦
              by_leaves (n + 1) k (put_frozen settings k tag pair bytes some.0 (first_machine settings some.0) false) t
              (volume_changed n (n + 1) k some.0 (frozen_with (first_machine settings some.0) tag (put_entry settings pair bytes) false) (omega arith)
              (λ here. freezes_with (n + 1) (first_machine settings some.0) tag (put_entry settings pair bytes) false (volume_at k some.0) (photo_of settings pair bytes small)
              (volume_more n (n + 1) (volume_at k some.0) (omega arith) here)) g)
              leaves
        ]
      ]
    ]
put_grown n settings k tag pair bytes _ t small g h = absurd h

-- READS

show_grown : (n : ℕ) (settings : Settings) (k : Known) (tag : CoreTag) (start : ℕ) (pair : Pair) (cookie : Cookie) (r : Reply) (t : Known) → IsGrown n k
    → LegalShow settings k tag start pair cookie r t → IsGrown (n + 1) t
show_grown n settings k tag start pair cookie (reply.Photo v m p d bytes) t g h = unchanged n k t g h.leaves
show_grown n settings k tag start pair cookie (reply.Gone v m p d) t g h = unchanged n k t g h.leaves
show_grown n settings k tag start pair cookie (reply.WrongCookie v m p d) t g h = unchanged n k t g (h.3).leaves
show_grown n settings k tag start pair cookie (reply.Unreadable v p d causes) t g h = unchanged n k t g h.leaves
show_grown n settings k tag start pair cookie (reply.Unknown d) t g h = unchanged n k t g h.1
show_grown n settings k tag start pair cookie reply.NoMem t g h =
    elim h [
      | inl leaves ↦ unchanged n k t g leaves
      | inr some ↦ freeze_leaves n k some.0 (first_machine settings some.0) t g some.3
    ]
show_grown n settings k tag start pair cookie _ t g h = absurd h

get_grown : (n : ℕ) (settings : Settings) (k : Known) (tag : CoreTag) (url : UrlParts) (o : Option ℕ) (r : Reply) (t : Known) → IsGrown n k
    → LegalGetAt settings k tag url o r t → IsGrown (n + 1) t
get_grown n settings k tag url (Some start) (reply.Moved v d) t g h = unchanged n k t g h.3
get_grown n settings k tag url (Some start) r t g h = show_grown n settings k tag start url.pair url.cookie r t g h.0
get_grown n settings k tag url None reply.Nowhere t g h = unchanged n k t g h
get_grown n settings k tag url None reply.NoMem t g h = unchanged n k t g h
get_grown n settings k tag url None _ t g h = absurd h

-- DELETES

ends_where : (n : ℕ) (log : List Logged) (ended : List Bool) (rs : List ReplicaKnown) → Each (IsReplicaGrown n log) rs → Each (IsReplicaGrown n log) (ended_where ended rs)
ends_where n log [] rs h = h
ends_where n log (b ∷ ended) [] h = tt
ends_where n log (true ∷ ended) (r ∷ rs) h = (ends_run n log r h.0, ends_where n log ended rs h.1)
ends_where n log (false ∷ ended) (r ∷ rs) h = (h.0, ends_where n log ended rs h.1)

log_grown : (n : ℕ) (log : List Logged) (tag : CoreTag) (pair : Pair) (r : ReplicaKnown) → IsReplicaGrown n log r → IsReplicaGrown (n + 1) (log ++ record { tag = tag; entry = entry.Del pair } ∷ []) r
log_grown n log tag pair r h =
    let logged : Logged = record { tag = tag; entry = entry.Del pair } in
    record {
      end = omega (arith, h.end);
      cells = omega (arith, h.cells);
      bare = omega (arith, h.bare);
      generation = omega (arith, h.generation);
      left = left_more n (n + 1) r.run (omega arith) h.left;
      photos_end = omega (arith, h.photos_end, log_size_more log logged);
      photos = omega (arith, h.photos, log_length log logged);
    }

deletes : (n : ℕ) (volume : VolumeKnown) (ended : List Bool) (tag : CoreTag) (pair : Pair) → IsVolumeGrown n volume → IsVolumeGrown (n + 1) (with_del ended tag pair volume)
deletes n volume ended tag pair h =
    let logged : Logged = record { tag = tag; entry = entry.Del pair } in
    record {
      log = omega (arith, h.log, log_size_more volume.log logged);
      pending = h.pending;
      replicas = ends_where (n + 1) (volume.log ++ logged ∷ []) ended volume.replicas
          (each_to (IsReplicaGrown n volume.log) (IsReplicaGrown (n + 1) (volume.log ++ logged ∷ [])) volume.replicas (λ r. log_grown n volume.log tag pair r) h.replicas);
    }

del_grown : (n : ℕ) (settings : Settings) (k : Known) (tag : CoreTag) (pair : Pair) (r : Reply) (t : Known) → IsGrown n k → LegalDel settings k tag pair r t → IsGrown (n + 1) t
del_grown n settings k tag pair (reply.Deleted v p d) t g h =
    by_leaves (n + 1) k (change_volume k v (with_del h.ended tag pair)) t
    (volume_changed n (n + 1) k v (with_del h.ended tag pair) (omega arith) (λ here. deletes n (volume_at k v) h.ended tag pair here) g) h.leaves
del_grown n settings k tag pair (reply.Absent v p d) t g h = unchanged n k t g h.leaves
del_grown n settings k tag pair (reply.Unknown d) t g h = unchanged n k t g h.1
del_grown n settings k tag pair (reply.ReadOnly by) t g h = unchanged n k t g h.1
del_grown n settings k tag pair (reply.Failed v m f) t g h =
    elim (h.leaves) [
      | inl leaves ↦ unchanged n k t g leaves
      | inr froze ↦ freeze_with_leaves n k v m tag (entry.Del pair) true t tt g froze.1
    ]
del_grown n settings k tag pair reply.NoMem t g h =
    elim h [
      | inl leaves ↦ unchanged n k t g leaves
      | inr some ↦ elim some.3 [
        | inl froze ↦ freeze_with_leaves n k some.0 (first_machine settings some.0) tag (entry.Del pair) false t tt g froze.1
        | inr leaves ↦ freeze_leaves n k some.0 (first_machine settings some.0) t g leaves
      ]
    ]
del_grown n settings k tag pair _ t g h = absurd h

url_grown : (n : ℕ) (settings : Settings) (k : Known) (tag : CoreTag) (pair : Pair) (r : Reply) (t : Known) → IsGrown n k → LegalUrl settings k tag pair r t → IsGrown (n + 1) t
url_grown n settings k tag pair (reply.Url d url) t g h = unchanged n k t g h.leaves
url_grown n settings k tag pair (reply.Unknown d) t g h = unchanged n k t g h.1
url_grown n settings k tag pair reply.NoMem t g h = unchanged n k t g h
url_grown n settings k tag pair _ t g h = absurd h

-- UPKEEP

flush_grown : (n : ℕ) (settings : Settings) (k : Known) (v m j : ℕ) (r : Reply) (t : Known) → IsGrown n k → LegalFlush settings k v m j r t → IsGrown (n + 1) t
flush_grown n settings k v m j (reply.Flushed v' m' x) t g h =
    replica_leaves n k v j (with_bare 0) t (λ r. record {
      end = r.end;
      cells = r.cells;
      bare = omega arith;
      generation = r.generation;
      left = r.left;
      photos_end = r.photos_end;
      photos = r.photos;
    }) g h.4
flush_grown n settings k v m j (reply.ReadOnly by) t g h = unchanged n k t g h.1
flush_grown n settings k v m j (reply.Failed v' m' f) t g h =
    replica_leaves n k v j with_stuck t (λ r. record { end = r.end; cells = r.cells; bare = r.bare; generation = r.generation; left = r.left; photos_end = r.photos_end; photos = r.photos }) g h.4
flush_grown n settings k v m j reply.NoMem t g h = unchanged n k t g h
flush_grown n settings k v m j _ t g h = absurd h

runs : (n : ℕ) (k : Known) (v j : ℕ) (run : Run) (t : Known) → (IsReplicaGrown (n + 1) (volume_at k v).log (replica_of k v j) → run.left ≤ n + 1) → IsGrown n k
    → Leaves k (change_replica k v j (with_run run)) t → IsGrown (n + 1) t
runs n k v j run t few g leaves =
    replica_leaves n k v j (with_run run) t (λ r. record {
      end = r.end;
      cells = r.cells;
      bare = r.bare;
      generation = r.generation;
      left = few r;
      photos_end = r.photos_end;
      photos = r.photos;
    }) g leaves

begin_grown : (n : ℕ) (settings : Settings) (k : Known) (v m j : ℕ) (r : Reply) (t : Known) → IsGrown n k → LegalBegin settings k v m j r t → IsGrown (n + 1) t
begin_grown n settings k v m j (reply.Begun v' m' x) t g h = runs n k v j (record { goal = x; left = (replica_of k v j).cells }) t (λ r. r.cells) g h.4
begin_grown n settings k v m j (reply.ReadOnly by) t g h = unchanged n k t g h.1
begin_grown n settings k v m j (reply.Busy v' m' x) t g h = unchanged n k t g h.3
begin_grown n settings k v m j (reply.Worn v' m') t g h = unchanged n k t g h.3
begin_grown n settings k v m j (reply.Failed v' m' f) t g h = unchanged n k t g h.4
begin_grown n settings k v m j reply.NoMem t g h = unchanged n k t g h
begin_grown n settings k v m j _ t g h = absurd h

-- a run that stands, with fewer cells left
fewer : (n x : ℕ) (run : Run) (o : Option Run) → o ≡ Some run → IsLeft n o → (stepped x run).left ≤ n
fewer n x run o is h = let left : run.left ≤ n = subst (λ (q : Option Run). IsLeft n q) is h in omega (arith, left)

step_grown : (n : ℕ) (settings : Settings) (k : Known) (v m j cells : ℕ) (r : Reply) (t : Known) → IsGrown n k → LegalStep settings k v m j cells r t → IsGrown (n + 1) t
step_grown n settings k v m j cells (reply.Stepped v' m' x) t g h =
    runs n k v j (stepped x (h.2).0) t (λ r. fewer (n + 1) x (h.2).0 (replica_of k v j).run (h.2).1 r.left) g (h.2).3
step_grown n settings k v m j cells (reply.ReadOnly by) t g h = unchanged n k t g h.1
step_grown n settings k v m j cells (reply.Idle v' m') t g h = unchanged n k t g h.3
step_grown n settings k v m j cells (reply.Failed v' m' f) t g h = replica_leaves n k v j without_run t (λ r. ends_run (n + 1) (volume_at k v).log (replica_of k v j) r) g h.4
step_grown n settings k v m j cells reply.NoMem t g h =
    elim h [
      | inl leaves ↦ unchanged n k t g leaves
      | inr some ↦ runs n k v j (stepped some.2 some.1) t (λ r. fewer (n + 1) some.2 some.1 (replica_of k v j).run some.3 r.left) g some.5
    ]
step_grown n settings k v m j cells _ t g h = absurd h

-- SWAPS

-- sizes that a swap may leave are bounded as what stood is
abbrev AreBounded : (Known → ℕ → ℕ → ℕ → ℕ → Type 0) → Type 0
AreBounded sizes =
    (n : ℕ) (k : Known) (v j end cells : ℕ) → sizes k v j end cells → IsReplicaGrown n (volume_at k v).log (replica_of k v j) → (end ≤ most_end n) × (cells ≤ n)

loose_bounded : AreBounded IsLoose
loose_bounded n k v j end cells h g = (omega (arith, h.1, g.end), omega (arith, h.3, g.cells))

tight_bounded : AreBounded IsTight
tight_bounded n k v j end cells h g =
    let above = now_above (volume_at k v) (replica_of k v j) in
    (omega (arith, h.0, above.end, g.photos_end), omega (arith, h.1, above.photos, g.photos))

swap_grown : (sizes : Known → ℕ → ℕ → ℕ → ℕ → Type 0) → AreBounded sizes → (besides : VolumeKnown → VolumeKnown)
    → ((n : ℕ) (volume : VolumeKnown) → IsVolumeGrown n volume → IsVolumeGrown n (besides volume))
    → (n : ℕ) (k : Known) (v j : ℕ) (t : Known) → IsGrown n k → Swaps sizes besides k v j t → IsGrown (n + 1) t
swap_grown sizes bounded besides keeps n k v j t g h =
    let after : Known = change_replica k v j (swapped h.0 h.1) in
    by_leaves (n + 1) k (change_volume after v besides) t
    (volume_changed (n + 1) (n + 1) after v besides (omega arith) (λ here. keeps (n + 1) (volume_at after v) here)
    (replica_changed n (n + 1) k v j (swapped h.0 h.1) (omega arith)
    (λ here r.
    let fits = bounded n k v j h.0 h.1 h.2 r in
    record {
      end = omega (arith, fits.0);
      cells = omega (arith, fits.1);
      bare = omega arith;
      generation = omega (arith, r.generation);
      left = tt;
      photos_end = omega (arith, r.photos_end);
      photos = omega (arith, r.photos);
    })
    g))
    h.3

swap_failed_grown : (n : ℕ) (k : Known) (v j m : ℕ) (t : Known) → IsGrown n k → SwapFailed m k v j t → IsGrown (n + 1) t
swap_failed_grown n k v j m t g h =
    elim h [
      | inl leaves ↦ replica_leaves n k v j without_run t (λ r. ends_run (n + 1) (volume_at k v).log (replica_of k v j) r) g leaves
      | inr leaves ↦
          let after : Known = change_volume k v (frozen_by m) in
          by_leaves (n + 1) k (poised_by m k v j) t
          (replica_changed (n + 1) (n + 1) after v j poised (omega arith)
          (λ here r. record { end = r.end; cells = r.cells; bare = r.bare; generation = r.generation; left = r.left; photos_end = r.photos_end; photos = r.photos })
          (volume_changed n (n + 1) k v (frozen_by m) (omega arith) (λ here. freezes (n + 1) m (volume_at k v) (volume_more n (n + 1) (volume_at k v) (omega arith) here)) g))
          leaves
    ]

swap_no_mem_grown : (settings : Settings) (ready : Known → ℕ → ℕ → Type 0) (sizes : Known → ℕ → ℕ → ℕ → ℕ → Type 0) → AreBounded sizes → (n : ℕ) (k : Known) (v j : ℕ) (t : Known) → IsGrown n k
    → SwapNoMem settings ready sizes k v j t → IsGrown (n + 1) t
swap_no_mem_grown settings ready sizes bounded n k v j t g (inl leaves) = unchanged n k t g leaves
swap_no_mem_grown settings ready sizes bounded n k v j t g (inr (thawed, is, inl leaves)) =
    replica_leaves n k v j without_run t (λ r. ends_run (n + 1) (volume_at k v).log (replica_of k v j) r) g leaves
swap_no_mem_grown settings ready sizes bounded n k v j t g (inr (thawed, is, inr swaps)) =
    swap_grown sizes bounded (frozen_by (first_machine settings v)) (λ m volume. freezes m (first_machine settings v) volume) n k v j t g swaps

finish_grown : (n : ℕ) (settings : Settings) (k : Known) (v m j : ℕ) (r : Reply) (t : Known) → IsGrown n k → LegalFinish settings k v m j r t → IsGrown (n + 1) t
finish_grown n settings k v m j (reply.Compacted v' m' x) t g h = swap_grown IsLoose loose_bounded as_it_is (λ m volume here. here) n k v j t g h.4
finish_grown n settings k v m j (reply.ReadOnly by) t g h = unchanged n k t g h.1
finish_grown n settings k v m j (reply.Idle v' m') t g h = unchanged n k t g h.3
finish_grown n settings k v m j (reply.Failed v' m' f) t g h = swap_failed_grown n k v j m t g h.4
finish_grown n settings k v m j reply.NoMem t g h = swap_no_mem_grown settings MayFinish IsLoose loose_bounded n k v j t g h
finish_grown n settings k v m j _ t g h = absurd h

compact_grown : (n : ℕ) (settings : Settings) (k : Known) (v m j : ℕ) (r : Reply) (t : Known) → IsGrown n k → LegalCompact settings k v m j r t → IsGrown (n + 1) t
compact_grown n settings k v m j (reply.Compacted v' m' x) t g h = swap_grown IsTight tight_bounded as_it_is (λ m volume here. here) n k v j t g h.4
compact_grown n settings k v m j (reply.ReadOnly by) t g h = unchanged n k t g h.1
compact_grown n settings k v m j (reply.Busy v' m' x) t g h = unchanged n k t g h.3
compact_grown n settings k v m j (reply.Worn v' m') t g h = unchanged n k t g h.3
compact_grown n settings k v m j (reply.Failed v' m' f) t g h = swap_failed_grown n k v j m t g h.4
compact_grown n settings k v m j reply.NoMem t g h = swap_no_mem_grown settings IsAtRest IsTight tight_bounded n k v j t g h
compact_grown n settings k v m j _ t g h = absurd h

-- DRAINS AND FUSES

beside : (n : ℕ) (k e t : Known) → IsGrown n k → e.volumes ≡ k.volumes → Leaves k e t → IsGrown (n + 1) t
beside n k e t g same leaves =
    by_leaves (n + 1) k e t (subst (λ (volumes : List VolumeKnown). Each (IsVolumeGrown (n + 1)) volumes) (sym same) (grown_more n (n + 1) k (omega arith) g)) leaves

drain_grown : (n : ℕ) (settings : Settings) (k : Known) (m : ℕ) (r : Reply) (t : Known) → IsGrown n k → LegalDrain settings k m r t → IsGrown (n + 1) t
drain_grown n settings k m (reply.Drained m') t g h = beside n k (with_drain k m true) t g refl h.2
drain_grown n settings k m reply.Nowhere t g h = unchanged n k t g h.1
drain_grown n settings k m reply.NoMem t g h = unchanged n k t g h
drain_grown n settings k m _ t g h = absurd h

undrain_grown : (n : ℕ) (settings : Settings) (k : Known) (m : ℕ) (r : Reply) (t : Known) → IsGrown n k → LegalUndrain settings k m r t → IsGrown (n + 1) t
undrain_grown n settings k m (reply.Undrained m') t g h = beside n k (with_drain k m false) t g refl h.2
undrain_grown n settings k m reply.Nowhere t g h = unchanged n k t g h.1
undrain_grown n settings k m reply.NoMem t g h = unchanged n k t g h
undrain_grown n settings k m _ t g h = absurd h

fuse_grown : (n : ℕ) (settings : Settings) (k : Known) (v m j x : ℕ) (r : Reply) (t : Known) → IsGrown n k → LegalFuse settings k v m j x r t → IsGrown (n + 1) t
fuse_grown n settings k v m j x (reply.Fused v' m' x') t g h = beside n k (with_fuses k (slot_of settings v j) (h.2).0) t g refl (h.2).2
fuse_grown n settings k v m j x reply.NoMem t g h = unchanged n k t g h
fuse_grown n settings k v m j x _ t g h = absurd h

fuse_dir_grown : (n : ℕ) (k : Known) (x : ℕ) (r : Reply) (t : Known) → IsGrown n k → LegalFuseDir k x r t → IsGrown (n + 1) t
fuse_dir_grown n k x (reply.FusedDir x') t g h = beside n k (with_fuses k 0 (h.1).0) t g refl (h.1).2
fuse_dir_grown n k x reply.NoMem t g h = unchanged n k t g h
fuse_dir_grown n k x _ t g h = absurd h

on_replica : (n : ℕ) (k : Known) (o : Option ℕ) (legal : ℕ → Reply → Known → Type 0) (r : Reply) (t : Known) → IsGrown n k
    → ((j : ℕ) → legal j r t → IsGrown (n + 1) t) → OnReplica k o legal r t → IsGrown (n + 1) t
on_replica n k (Some j) legal r t g each h = each j h
on_replica n k None legal reply.Nowhere t g each h = unchanged n k t g h
on_replica n k None legal reply.NoMem t g each h = unchanged n k t g h
on_replica n k None legal _ t g each h = absurd h

-- PLAIN TURNS

command_grown : (n : ℕ) (settings : Settings) (k : Known) (tag : CoreTag) (c : Command) (r : Reply) (t : Known) → IsWithinItem (item.Command c) → IsGrown n k
    → LegalCommand settings k tag c r t → IsGrown (n + 1) t
command_grown n settings k tag (command.Put pair bytes) r t small g h = put_grown n settings k tag pair bytes r t small g h
command_grown n settings k tag (command.Read pair cookie) r t small g h = show_grown n settings k tag (start_of settings tag) pair cookie r t g h
command_grown n settings k tag (command.Get url) r t small g h = get_grown n settings k tag url (replica_on settings url.volume url.machine) r t g h
command_grown n settings k tag (command.Del pair) r t small g h = del_grown n settings k tag pair r t g h
command_grown n settings k tag (command.Url pair) r t small g h = url_grown n settings k tag pair r t g h
command_grown n settings k tag (command.Flush v m) r t small g h =
    on_replica n k (replica_on settings v m) (LegalFlush settings k v m) r t g (λ j. flush_grown n settings k v m j r t g) h
command_grown n settings k tag (command.Compact v m) r t small g h =
    on_replica n k (replica_on settings v m) (LegalCompact settings k v m) r t g (λ j. compact_grown n settings k v m j r t g) h
command_grown n settings k tag (command.Begin v m) r t small g h =
    on_replica n k (replica_on settings v m) (LegalBegin settings k v m) r t g (λ j. begin_grown n settings k v m j r t g) h
command_grown n settings k tag (command.Step v m x) r t small g h =
    on_replica n k (replica_on settings v m) (λ j. LegalStep settings k v m j x) r t g (λ j. step_grown n settings k v m j x r t g) h
command_grown n settings k tag (command.Finish v m) r t small g h =
    on_replica n k (replica_on settings v m) (LegalFinish settings k v m) r t g (λ j. finish_grown n settings k v m j r t g) h
command_grown n settings k tag (command.Drain m) r t small g h = drain_grown n settings k m r t g h
command_grown n settings k tag (command.Undrain m) r t small g h = undrain_grown n settings k m r t g h
command_grown n settings k tag (command.Fuse v m x) r t small g h =
    on_replica n k (replica_on settings v m) (λ j. LegalFuse settings k v m j x) r t g (λ j. fuse_grown n settings k v m j x r t g) h
command_grown n settings k tag (command.FuseDir x) r t small g h = fuse_dir_grown n k x r t g h
command_grown n settings k tag (command.Restart pick) r t small g h = absurd h

plain_grown : (n : ℕ) (settings : Settings) (k : Known) (line : ℕ) (i : Item) (r : Reply) (t : Known) → IsWithinItem i → IsGrown n k → LegalPlain settings k line i r t → IsGrown (n + 1) t
plain_grown n settings k line (item.Command c) r t small g h = command_grown n settings k (record { lane = 0; line = line }) c r t small g h
plain_grown n settings k line item.Bad r t small g h = unchanged n k t g h.1

-- RESTARTS

-- what a replica may keep of a pending change
record IsKept (table : Table) (kept : List Entry) : Type 0 where
  above : IsAbove table (with_entries table kept) (added_end kept) (added_cells kept)
  size : added_end kept ≤ 16777280
  one : added_cells kept ≤ 1

entry_kept : (table : Table) (e : Entry) → IsPhoto e → IsKept table (e ∷ [])
entry_kept table (entry.Put pair cookie bytes) h = record { above = one_above table (entry.Put pair cookie bytes); size = photo_total (length bytes) h; one = omega arith }
entry_kept table (entry.Del pair) h = record { above = one_above table (entry.Del pair); size = omega arith; one = omega arith }

keeps : (table : Table) (pending : Option Pending) (b : Bool) → IsPhotoPending pending → IsKept table (kept_entry pending b)
keeps table None b h = record { above = none_above table; size = omega arith; one = omega arith }
keeps table (Some pending) false h = record { above = none_above table; size = omega arith; one = omega arith }
keeps table (Some pending) true h = entry_kept table pending.entry h

bare_most : (b : Bool) (most bare : ℕ) → BareIs b most bare → bare ≤ most
bare_most true most bare h = h
bare_most false most bare h = omega (arith, h)

record IsSized (n : ℕ) (r : ReplicaKnown) : Type 0 where
  end : r.end ≤ most_end n
  cells : r.cells ≤ n
  bare : r.bare ≤ n
  generation : r.generation ≤ n

stands_so : (n : ℕ) (volume : VolumeKnown) (old new : ReplicaKnown) (kept : List Entry) → IsReplicaGrown n volume.log old → added_end kept ≤ 16777280 → added_cells kept ≤ 1
    → StandsAsItWas old kept new ⊎ StandsSwapped volume old new → IsSized (n + 1) new
stands_so n volume old new kept g size one (inl h) = record {
  end = omega (arith, g.end, size, h.end);
  cells = omega (arith, g.cells, one, h.cells);
  bare = omega (arith, g.bare, one, bare_most old.stuck (old.bare + added_cells kept) new.bare h.bare);
  generation = omega (arith, g.generation, h.generation);
}
stands_so n volume old new kept g size one (inr h) = record {
  end = omega (arith, g.end, h.no_longer);
  cells = omega (arith, g.cells, h.no_more);
  bare = omega (arith, h.bare);
  generation = omega (arith, g.generation, h.generation);
}

replica_reopened : (n : ℕ) (volume : VolumeKnown) (old new : ReplicaKnown) (b : Bool) → IsPhotoPending volume.pending → IsReplicaGrown n volume.log old
    → ReopenedReplica volume old (kept_entry volume.pending b) new → IsReplicaGrown (n + 1) [] new
replica_reopened n volume old new b photo g h =
    let kept = keeps (now volume old) volume.pending b photo in
    let sized = stands_so n volume old new (kept_entry volume.pending b) g kept.size kept.one h.stands in
    let above = now_above volume old in
    let size : live_end new.base ≡ live_end (with_entries (now volume old) (kept_entry volume.pending b)) = ap (λ (table : Table). live_end table) h.base in
    let many : length new.base ≡ length (with_entries (now volume old) (kept_entry volume.pending b)) = ap (λ (table : Table). length table) h.base in
    record {
      end = sized.end;
      cells = sized.cells;
      bare = sized.bare;
      generation = sized.generation;
      left = subst (λ (o : Option Run). IsLeft (n + 1) o) (sym h.idle) tt;
      photos_end = omega (arith, size, (kept.above).end, kept.size, above.end, g.photos_end);
      photos = omega (arith, many, (kept.above).photos, kept.one, above.photos, g.photos);
    }

replicas_reopened : (n : ℕ) (volume : VolumeKnown) (kept : List Bool) (j : ℕ) (olds news : List ReplicaKnown) → IsPhotoPending volume.pending → Each (IsReplicaGrown n volume.log) olds
    → ReopenedReplicas volume kept j olds news → Each (IsReplicaGrown (n + 1) []) news
replicas_reopened n volume kept j [] [] photo g h = tt
replicas_reopened n volume kept j (old ∷ olds) (new ∷ news) photo g h =
    (replica_reopened n volume old new (is_kept kept j) photo g.0 h.0, replicas_reopened n volume kept (j + 1) olds news photo g.1 h.1)
replicas_reopened n volume kept j _ _ photo g h = absurd h

volume_reopened : (n : ℕ) (settings : Settings) (v : ℕ) (old : VolumeKnown) (kept : List Bool) (new : VolumeKnown) → IsVolumeGrown n old → ReopenedVolume settings v old kept new
    → IsVolumeGrown (n + 1) new
volume_reopened n settings v old kept new g h = record {
  log = subst (λ (log : List Logged). 64 + log_size log ≤ most_end (n + 1)) (sym h.log) (omega arith);
  pending = subst (λ (o : Option Pending). IsPhotoPending o) (sym h.pending) tt;
  replicas = subst (λ (log : List Logged). Each (IsReplicaGrown (n + 1) log) new.replicas) (sym h.log) (replicas_reopened n old kept 0 old.replicas new.replicas g.pending g.replicas h.replicas);
}

volumes_reopened : (n : ℕ) (settings : Settings) (v : ℕ) (olds : List VolumeKnown) (kepts : List (List Bool)) (news : List VolumeKnown) → Each (IsVolumeGrown n) olds
    → ReopenedVolumes settings v olds kepts news → Each (IsVolumeGrown (n + 1)) news
volumes_reopened n settings v [] [] [] g h = tt
volumes_reopened n settings v (old ∷ olds) (kept ∷ kepts) (new ∷ news) g h =
    (volume_reopened n settings v old kept new g.0 h.0, volumes_reopened n settings (v + 1) olds kepts news g.1 h.1)
volumes_reopened n settings v _ _ _ g h = absurd h

restart_grown : (n : ℕ) (settings : Settings) (k : Known) (r : Reply) (notes : List Note) (t : Known) → IsGrown n k → LegalRestart settings k r notes t → IsGrown (n + 1) t
restart_grown n settings k (reply.Restarted d) notes t g h = volumes_reopened n settings 0 k.volumes h.kept t.volumes g (h.opened).volumes
restart_grown n settings k reply.NoMem notes t g h =
    subst (λ (volumes : List VolumeKnown). Each (IsVolumeGrown (n + 1)) volumes) (sym (h.leaves).volumes) (grown_more n (n + 1) k (omega arith) g)
restart_grown n settings k _ notes t g h = absurd h

-- ALL TURNS

turn_grown : (n : ℕ) (settings : Settings) (k : Known) (turn : Turn) → IsWithinAsked (item_of_turn turn) → IsGrown n k → LegalTurn settings k turn → IsGrown (n + 1) (known_after turn)
turn_grown n settings k (Plain line i r after) small g h = plain_grown n settings k line i r after small g h
turn_grown n settings k (Lanes items logs rows after) small g h = absurd small
turn_grown n settings k (Restart line pick r notes after) small g h = restart_grown n settings k r notes after g h

-- behind turns of items that are no blocks, each with a photo at most
pub turns_grown : (n : ℕ) (settings : Settings) (k : Known) (turns : List Turn) (t : Known) → Each IsWithinAsked (map item_of_turn turns) → IsGrown n k → Legal settings k turns t
    → IsGrown (n + length turns) t
turns_grown n settings k [] t small g h = subst (λ (x : Known). IsGrown (n + 0) x) (sym h) (grown_more n (n + 0) k (omega arith) g)
turns_grown n settings k (turn ∷ turns) t small g h =
    grown_more ((n + 1) + length turns) (n + suc (length turns)) t (omega arith)
    (turns_grown (n + 1) settings (known_after turn) turns t small.1 (turn_grown n settings k turn small.0 g h.0) h.1)

-- a store as formatted
pub fresh_grown : (settings : Settings) → IsGrown 0 (fresh_unharmed settings)
fresh_grown settings =
    each_replicated (IsVolumeGrown 0) settings.volumes (fresh_volume settings)
    (record {
      log = omega arith;
      pending = tt;
      replicas = each_replicated (IsReplicaGrown 0 []) settings.replicas empty_replica
          (record { end = omega arith; cells = omega arith; bare = omega arith; generation = omega arith; left = tt; photos_end = omega arith; photos = omega arith });
    })
