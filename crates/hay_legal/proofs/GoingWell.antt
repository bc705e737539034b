-- What a plain turn leaves that is answered neither by a failed change nor for want of memory.
use Rattle.std.proofs.Common.{◌≡◌, ◌≢◌, ℕ, zero, suc, Bool, true, false, List, [], ◌∷◌, length, map, Option, Some, None, option_map, refl, sym, ap, subst, ◌∙◌, ◌⊎◌, inl, inr, arith}
use Rattle.std.specs.Prelude.{slice_get, slice_index_or, slice_set}
use Rattle.hay_needle.specs.declared.needle.Pair.{Pair}
use Rattle.hay_needle.specs.declared.needle.Cookie.{Cookie}
use Rattle.hay_needle.specs.declared.settings.Settings.{Settings}
use Rattle.hay_url.specs.declared.Url.{Url as UrlParts}
use Rattle.hay_script.specs.declared.Command.{Command}
use Rattle.hay_script.specs.declared.Command.TheVariants as command
use Rattle.hay_reply.specs.declared.Reply.{Reply}
use Rattle.hay_reply.specs.declared.Reply.TheVariants as reply
use Rattle.hay_core.specs.declared.entry.CoreTag.{CoreTag}
use Rattle.hay_legal.specs.declared.known.DirKnown.{DirKnown}
use Rattle.hay_legal.specs.declared.known.ReplicaKnown.{ReplicaKnown}
use Rattle.hay_legal.specs.declared.known.Run.{Run}
use Rattle.hay_legal.specs.declared.known.VolumeKnown.{VolumeKnown}
use Rattle.hay_legal.specs.declared.known.Known.{Known}
use Rattle.hay_legal.specs.declared.turn.Item.{Item}
use Rattle.hay_legal.specs.declared.turn.Item.TheVariants as item
use Rattle.hay_legal.specs.Known.{Leaves, empty_replica, empty_volume, is_drained, replica_at, replica_on, slot_of, volume_at, with_home, with_replica}
use Rattle.hay_legal.specs.Plain.{LegalPlain, LegalCommand, LegalPut, LegalShow, LegalGetAt, LegalDel, LegalUrl, LegalFlush, LegalBegin, LegalStep, LegalFinish, LegalCompact}
use Rattle.hay_legal.specs.Plain.{LegalDrain, LegalUndrain, LegalFuse, LegalFuseDir, OnReplica, IsLoose, IsTight, Swaps, change_replica, change_volume, disk_rose, ended_where}
use Rattle.hay_legal.specs.Plain.{grown, replica_of, run_grown, start_of, stepped, swapped, with_bare, with_del, with_drain, with_fuses, with_put, with_run, as_it_is}
use Rattle.hay_legal.specs.Refusals.{IsUntroubled}
use Rattle.hay_legal.proofs.Subject.Effects.{read_set}

-- A VOLUME

abbrev pub Runs : ReplicaKnown → Type 0
Runs replica = (run : Run) × (replica.run ≡ Some run)

-- A volume is frozen as it was, no index got stuck, and each compaction stands but those that ended.
pub record KeepsWell (Ended : ℕ → Type 0) (old new : VolumeKnown) : Type 0 where
  pub frozen : new.frozen ≡ old.frozen
  pub loose : (j : ℕ) → (replica_at old j).stuck ≡ false → (replica_at new j).stuck ≡ false
  pub runs : (j : ℕ) → Runs (replica_at old j) → Runs (replica_at new j) ⊎ Ended j

same_keeps : (Ended : ℕ → Type 0) (volume : VolumeKnown) → KeepsWell Ended volume volume
same_keeps Ended volume = record { frozen = refl; loose = λ j is. is; runs = λ j is. inl is }

replica_keeps : (Ended : ℕ → Type 0) (volume : VolumeKnown) (j : ℕ) (new : ReplicaKnown)
    → ((replica_at volume j).stuck ≡ false → new.stuck ≡ false) → (Runs (replica_at volume j) → Runs new ⊎ Ended j)
    → KeepsWell Ended volume (with_replica volume j new)
replica_keeps Ended volume j new loose runs = record {
  frozen = refl;
  loose = λ i is. elim (read_set volume.replicas j i new empty_replica) [
    | inl e ↦ ap (λ (r : ReplicaKnown). r.stuck) e ∙ is
    | inr e ↦ ap (λ (r : ReplicaKnown). r.stuck) e.1 ∙ loose (subst (λ (u : ℕ). (replica_at volume u).stuck ≡ false) e.0 is)
  ];
  runs = λ i is. elim (read_set volume.replicas j i new empty_replica) [
    | inl e ↦ inl (subst Runs (sym e) is)
    | inr e ↦ elim (runs (subst (λ (u : ℕ). Runs (replica_at volume u)) e.0 is)) [
      | inl there ↦ inl (subst Runs (sym e.1) there)
      | inr ended ↦ inr (subst Ended (sym e.0) ended)
    ]
  ];
}

grown_loose : (size : ℕ) (rs : List ReplicaKnown) (j : ℕ) → (slice_index_or rs j empty_replica).stuck ≡ false → (slice_index_or (map (grown size) rs) j empty_replica).stuck ≡ false
grown_loose size [] j is = is
grown_loose size (r ∷ rs) zero is = is
grown_loose size (r ∷ rs) (suc j) is = grown_loose size rs j is

grown_runs : (size : ℕ) (rs : List ReplicaKnown) (j : ℕ) → Runs (slice_index_or rs j empty_replica) → Runs (slice_index_or (map (grown size) rs) j empty_replica)
grown_runs size [] j is = is
grown_runs size (r ∷ rs) zero is = (run_grown is.0, ap (option_map run_grown) is.1)
grown_runs size (r ∷ rs) (suc j) is = grown_runs size rs j is

ended_loose : (ended : List Bool) (rs : List ReplicaKnown) (j : ℕ) → (slice_index_or rs j empty_replica).stuck ≡ false → (slice_index_or (ended_where ended rs) j empty_replica).stuck ≡ false
ended_loose [] rs j is = is
ended_loose (b ∷ ended) [] j is = is
ended_loose (true ∷ ended) (r ∷ rs) zero is = is
ended_loose (true ∷ ended) (r ∷ rs) (suc j) is = ended_loose ended rs j is
ended_loose (false ∷ ended) (r ∷ rs) zero is = is
ended_loose (false ∷ ended) (r ∷ rs) (suc j) is = ended_loose ended rs j is

ended_runs : (Ended : ℕ → Type 0) (ended : List Bool) (rs : List ReplicaKnown) (j : ℕ) → (slice_get ended j ≡ Some true → Ended j)
    → Runs (slice_index_or rs j empty_replica) → Runs (slice_index_or (ended_where ended rs) j empty_replica) ⊎ Ended j
ended_runs Ended [] rs j cause is = inl is
ended_runs Ended (b ∷ ended) [] j cause is = inl is
ended_runs Ended (true ∷ ended) (r ∷ rs) zero cause is = inr (cause refl)
ended_runs Ended (true ∷ ended) (r ∷ rs) (suc j) cause is = ended_runs (λ i. Ended (suc i)) ended rs j cause is
ended_runs Ended (false ∷ ended) (r ∷ rs) zero cause is = inl is
ended_runs Ended (false ∷ ended) (r ∷ rs) (suc j) cause is = ended_runs (λ i. Ended (suc i)) ended rs j cause is

-- A TURN

-- a compaction of a replica was finished, or its disk's count rose
abbrev pub Ended : Settings → Known → Reply → Known → ℕ → ℕ → Type 0
Ended settings k r t w j = ((m : ℕ) × (g : ℕ) × (r ≡ reply.Compacted w m g) × (replica_on settings w m ≡ Some j)) ⊎ (disk_rose settings k t w j ≡ true)

-- A drained machine was drained by this line, or before it.
abbrev pub Drains : Known → Reply → Known → Type 0
Drains k r t = (m : ℕ) → is_drained t m ≡ true → (r ≡ reply.Drained m) ⊎ ((is_drained k m ≡ true) × (r ≢ reply.Undrained m))

pub record Well (settings : Settings) (k : Known) (r : Reply) (t : Known) : Type 0 where
  pub each : (w : ℕ) → KeepsWell (Ended settings k r t w) (volume_at k w) (volume_at t w)
  pub directory : t.directory.frozen ≡ k.directory.frozen
  pub drains : Drains k r t

abbrev NoUndrain : Reply → Type 0
NoUndrain r = (m : ℕ) → r ≢ reply.Undrained m

module _ (settings : Settings) (k : Known) (r : Reply) (t : Known) where
  well_by : (e : Known) → ((w : ℕ) → KeepsWell (Ended settings k r t w) (volume_at k w) (volume_at e w)) → e.directory.frozen ≡ k.directory.frozen → Drains k r e → Leaves k e t
      → Well settings k r t
  well_by e each dir drains leaves = record {
    each = λ w. subst (λ (vs : List VolumeKnown). KeepsWell (Ended settings k r t w) (volume_at k w) (slice_index_or vs w empty_volume)) (sym leaves.volumes) (each w);
    directory = ap (λ (d : DirKnown). d.frozen) leaves.directory ∙ dir;
    drains = λ m is. drains m (sym (ap (λ (ds : List Bool). slice_index_or ds m false) leaves.drained) ∙ is);
  }

  still_drained : (e : Known) → e.drained ≡ k.drained → NoUndrain r → Drains k r e
  still_drained e same never m is = inr (sym (ap (λ (ds : List Bool). slice_index_or ds m false) same) ∙ is, never m)

  -- nothing but counts and fuses changed
  well_beside : (e : Known) → e.volumes ≡ k.volumes → e.directory ≡ k.directory → Drains k r e → Leaves k e t → Well settings k r t
  well_beside e volumes directory drains leaves = well_by e
      (λ w. subst (λ (vs : List VolumeKnown). KeepsWell (Ended settings k r t w) (volume_at k w) (slice_index_or vs w empty_volume)) (sym volumes)
      (same_keeps (Ended settings k r t w) (volume_at k w)))
      (ap (λ (d : DirKnown). d.frozen) directory) drains leaves

  well_same : NoUndrain r → Leaves k k t → Well settings k r t
  well_same never leaves = well_beside k refl refl (still_drained k refl never) leaves

  -- one volume changed
  each_by : (v : ℕ) (change : VolumeKnown → VolumeKnown) → KeepsWell (Ended settings k r t v) (volume_at k v) (change (volume_at k v))
      → (w : ℕ) → KeepsWell (Ended settings k r t w) (volume_at k w) (volume_at (change_volume k v change) w)
  each_by v change keeps w = elim (read_set k.volumes v w (change (volume_at k v)) empty_volume) [
    | inl e ↦ subst (λ (new : VolumeKnown). KeepsWell (Ended settings k r t w) (volume_at k w) new) (sym e) (same_keeps (Ended settings k r t w) (volume_at k w))
    | inr e ↦ subst (λ (new : VolumeKnown). KeepsWell (Ended settings k r t w) (volume_at k w) new) (sym e.1)
        (subst (λ (u : ℕ). KeepsWell (Ended settings k r t u) (volume_at k u) (change (volume_at k v))) (sym e.0) keeps)
  ]

  well_replica : (v j : ℕ) (change : ReplicaKnown → ReplicaKnown) → NoUndrain r
      → ((replica_of k v j).stuck ≡ false → (change (replica_of k v j)).stuck ≡ false) → (Runs (replica_of k v j) → Runs (change (replica_of k v j)) ⊎ Ended settings k r t v j)
      → Leaves k (change_replica k v j change) t → Well settings k r t
  well_replica v j change never loose runs leaves = well_by (change_replica k v j change)
      (each_by v (λ volume. with_replica volume j (change (replica_at volume j))) (replica_keeps (Ended settings k r t v) (volume_at k v) j (change (replica_of k v j)) loose runs))
      refl (still_drained (change_replica k v j change) refl never) leaves

-- a swap ends the compaction that stands
well_swap : (settings : Settings) (sizes : Known → ℕ → ℕ → ℕ → ℕ → Type 0) (k : Known) (v m j v' m' g : ℕ) (t : Known) → replica_on settings v m ≡ Some j → (v' ≡ v) × (m' ≡ m)
    → Swaps sizes as_it_is k v j t → Well settings k (reply.Compacted v' m' g) t
well_swap settings sizes k v m j v' m' g t on names h =
    let r : Reply = reply.Compacted v' m' g in
    let after : Known = change_replica k v j (swapped h.0 h.1) in
    let is : r ≡ reply.Compacted v m g = ap (λ (u : ℕ). reply.Compacted u m' g) names.0 ∙ ap (λ (n : ℕ). reply.Compacted v n g) names.1 in
    let first = each_by settings k r t v (λ volume. with_replica volume j (swapped h.0 h.1 (replica_at volume j)))
    (replica_keeps (Ended settings k r t v) (volume_at k v) j (swapped h.0 h.1 (replica_of k v j)) (λ loose. refl) (λ runs. inr (inl (m, g, is, on)))) in
    well_by settings k r t (change_volume after v as_it_is)
    (λ w. elim (read_set after.volumes v w (volume_at after v) empty_volume) [
      | inl e ↦ subst (λ (new : VolumeKnown). KeepsWell (Ended settings k r t w) (volume_at k w) new) (sym e) (first w)
      | inr e ↦ subst (λ (new : VolumeKnown). KeepsWell (Ended settings k r t w) (volume_at k w) new) (sym e.1)
          (subst (λ (u : ℕ). KeepsWell (Ended settings k r t u) (volume_at k u) (volume_at after v)) (sym e.0) (first v))
    ])
    refl (still_drained settings k r t (change_volume after v as_it_is) refl (λ n e. cc)) h.3

-- EACH COMMAND

put_well : (settings : Settings) (k : Known) (tag : CoreTag) (pair : Pair) (bytes : List ℕ) (r : Reply) (t : Known) → IsUntroubled r → LegalPut settings k tag pair bytes r t → Well settings k r t
put_well settings k tag pair bytes (reply.Stored v p d c) t u h =
    let r : Reply = reply.Stored v p d c in
    let put : Known = change_volume k v (λ volume. with_put volume tag pair c bytes) in
    well_by settings k r t (with_home put pair v)
    (each_by settings k r t v (λ volume. with_put volume tag pair c bytes) (record {
      frozen = refl;
      loose = grown_loose (length bytes) (volume_at k v).replicas;
      runs = λ j is. inl (grown_runs (length bytes) (volume_at k v).replicas j is);
    }))
    refl (still_drained settings k r t (with_home put pair v) refl (λ m e. cc)) h.leaves
put_well settings k tag pair bytes (reply.Full refused) t u h = well_same settings k (reply.Full refused) t (λ m e. cc) h.2
put_well settings k tag pair bytes (reply.ReadOnly by) t u h = well_same settings k (reply.ReadOnly by) t (λ m e. cc) h.1
put_well settings k tag pair bytes reply.ReadOnlyDir t u h = well_same settings k reply.ReadOnlyDir t (λ m e. cc) h.2
put_well settings k tag pair bytes (reply.Failed v m f) t u h = absurd u
put_well settings k tag pair bytes (reply.FailedDir f) t u h = absurd u
put_well settings k tag pair bytes reply.NoMem t u h = absurd u
put_well settings k tag pair bytes _ t u h = absurd h

show_well : (settings : Settings) (k : Known) (tag : CoreTag) (start : ℕ) (pair : Pair) (cookie : Cookie) (r : Reply) (t : Known) → IsUntroubled r
    → LegalShow settings k tag start pair cookie r t → Well settings k r t
show_well settings k tag start pair cookie (reply.Photo v m p d bytes) t u h = well_same settings k (reply.Photo v m p d bytes) t (λ n e. cc) h.leaves
show_well settings k tag start pair cookie (reply.Gone v m p d) t u h = well_same settings k (reply.Gone v m p d) t (λ n e. cc) h.leaves
show_well settings k tag start pair cookie (reply.WrongCookie v m p d) t u h = well_same settings k (reply.WrongCookie v m p d) t (λ n e. cc) (h.3).leaves
show_well settings k tag start pair cookie (reply.Unreadable v p d causes) t u h = well_same settings k (reply.Unreadable v p d causes) t (λ n e. cc) h.leaves
show_well settings k tag start pair cookie (reply.Unknown d) t u h = well_same settings k (reply.Unknown d) t (λ n e. cc) h.1
show_well settings k tag start pair cookie reply.NoMem t u h = absurd u
show_well settings k tag start pair cookie _ t u h = absurd h

get_well : (settings : Settings) (k : Known) (tag : CoreTag) (url : UrlParts) (o : Option ℕ) (r : Reply) (t : Known) → IsUntroubled r → LegalGetAt settings k tag url o r t → Well settings k r t
get_well settings k tag url (Some start) (reply.Moved v d) t u h = well_same settings k (reply.Moved v d) t (λ n e. cc) h.3
get_well settings k tag url (Some start) r t u h = show_well settings k tag start url.pair url.cookie r t u h.0
get_well settings k tag url None reply.Nowhere t u h = well_same settings k reply.Nowhere t (λ n e. cc) h
get_well settings k tag url None reply.NoMem t u h = absurd u
get_well settings k tag url None _ t u h = absurd h

del_well : (settings : Settings) (k : Known) (tag : CoreTag) (pair : Pair) (r : Reply) (t : Known) → IsUntroubled r → LegalDel settings k tag pair r t → Well settings k r t
del_well settings k tag pair (reply.Deleted v p d) t u h =
    let r : Reply = reply.Deleted v p d in
    let deleted : Known = change_volume k v (with_del h.ended tag pair) in
    well_by settings k r t deleted
    (each_by settings k r t v (with_del h.ended tag pair) (record {
      frozen = refl;
      loose = ended_loose h.ended (volume_at k v).replicas;
      runs = λ j. ended_runs (Ended settings k r t v) h.ended (volume_at k v).replicas j (λ is. inr (h.cause j is));
    }))
    refl (still_drained settings k r t deleted refl (λ m e. cc)) h.leaves
del_well settings k tag pair (reply.Absent v p d) t u h = well_same settings k (reply.Absent v p d) t (λ m e. cc) h.leaves
del_well settings k tag pair (reply.Unknown d) t u h = well_same settings k (reply.Unknown d) t (λ m e. cc) h.1
del_well settings k tag pair (reply.ReadOnly by) t u h = well_same settings k (reply.ReadOnly by) t (λ m e. cc) h.1
del_well settings k tag pair (reply.Failed v m f) t u h = absurd u
del_well settings k tag pair reply.NoMem t u h = absurd u
del_well settings k tag pair _ t u h = absurd h

url_well : (settings : Settings) (k : Known) (tag : CoreTag) (pair : Pair) (r : Reply) (t : Known) → IsUntroubled r → LegalUrl settings k tag pair r t → Well settings k r t
url_well settings k tag pair (reply.Url d url) t u h = well_same settings k (reply.Url d url) t (λ m e. cc) h.leaves
url_well settings k tag pair (reply.Unknown d) t u h = well_same settings k (reply.Unknown d) t (λ m e. cc) h.1
url_well settings k tag pair reply.NoMem t u h = absurd u
url_well settings k tag pair _ t u h = absurd h

flush_well : (settings : Settings) (k : Known) (v m j : ℕ) (r : Reply) (t : Known) → IsUntroubled r → LegalFlush settings k v m j r t → Well settings k r t
flush_well settings k v m j (reply.Flushed v' m' n) t u h = well_replica settings k (reply.Flushed v' m' n) t v j (with_bare 0) (λ i e. cc) (λ is. is) (λ is. inl is) h.4
flush_well settings k v m j (reply.ReadOnly by) t u h = well_same settings k (reply.ReadOnly by) t (λ i e. cc) h.1
flush_well settings k v m j (reply.Failed v' m' f) t u h = absurd u
flush_well settings k v m j reply.NoMem t u h = absurd u
flush_well settings k v m j _ t u h = absurd h

begin_well : (settings : Settings) (k : Known) (v m j : ℕ) (r : Reply) (t : Known) → IsUntroubled r → LegalBegin settings k v m j r t → Well settings k r t
begin_well settings k v m j (reply.Begun v' m' g) t u h =
    let run : Run = record { goal = g; left = (replica_of k v j).cells } in
    well_replica settings k (reply.Begun v' m' g) t v j (with_run run) (λ i e. cc) (λ is. is) (λ is. inl (run, refl)) h.4
begin_well settings k v m j (reply.ReadOnly by) t u h = well_same settings k (reply.ReadOnly by) t (λ i e. cc) h.1
begin_well settings k v m j (reply.Busy v' m' g) t u h = well_same settings k (reply.Busy v' m' g) t (λ i e. cc) h.3
begin_well settings k v m j (reply.Worn v' m') t u h = well_same settings k (reply.Worn v' m') t (λ i e. cc) h.3
begin_well settings k v m j (reply.Failed v' m' f) t u h = absurd u
begin_well settings k v m j reply.NoMem t u h = absurd u
begin_well settings k v m j _ t u h = absurd h

step_well : (settings : Settings) (k : Known) (v m j cells : ℕ) (r : Reply) (t : Known) → IsUntroubled r → LegalStep settings k v m j cells r t → Well settings k r t
step_well settings k v m j cells (reply.Stepped v' m' n) t u h =
    let run : Run = stepped n (h.2).0 in
    well_replica settings k (reply.Stepped v' m' n) t v j (with_run run) (λ i e. cc) (λ is. is) (λ is. inl (run, refl)) (h.2).3
step_well settings k v m j cells (reply.ReadOnly by) t u h = well_same settings k (reply.ReadOnly by) t (λ i e. cc) h.1
step_well settings k v m j cells (reply.Idle v' m') t u h = well_same settings k (reply.Idle v' m') t (λ i e. cc) h.3
step_well settings k v m j cells (reply.Failed v' m' f) t u h = absurd u
step_well settings k v m j cells reply.NoMem t u h = absurd u
step_well settings k v m j cells _ t u h = absurd h

finish_well : (settings : Settings) (k : Known) (v m j : ℕ) (r : Reply) (t : Known) → replica_on settings v m ≡ Some j → IsUntroubled r → LegalFinish settings k v m j r t → Well settings k r t
finish_well settings k v m j (reply.Compacted v' m' g) t on u h = well_swap settings IsLoose k v m j v' m' g t on h.0 h.4
finish_well settings k v m j (reply.ReadOnly by) t on u h = well_same settings k (reply.ReadOnly by) t (λ i e. cc) h.1
finish_well settings k v m j (reply.Idle v' m') t on u h = well_same settings k (reply.Idle v' m') t (λ i e. cc) h.3
finish_well settings k v m j (reply.Failed v' m' f) t on u h = absurd u
finish_well settings k v m j reply.NoMem t on u h = absurd u
finish_well settings k v m j _ t on u h = absurd h

compact_well : (settings : Settings) (k : Known) (v m j : ℕ) (r : Reply) (t : Known) → replica_on settings v m ≡ Some j → IsUntroubled r → LegalCompact settings k v m j r t → Well settings k r t
compact_well settings k v m j (reply.Compacted v' m' g) t on u h = well_swap settings IsTight k v m j v' m' g t on h.0 h.4
compact_well settings k v m j (reply.ReadOnly by) t on u h = well_same settings k (reply.ReadOnly by) t (λ i e. cc) h.1
compact_well settings k v m j (reply.Busy v' m' g) t on u h = well_same settings k (reply.Busy v' m' g) t (λ i e. cc) h.3
compact_well settings k v m j (reply.Worn v' m') t on u h = well_same settings k (reply.Worn v' m') t (λ i e. cc) h.3
compact_well settings k v m j (reply.Failed v' m' f) t on u h = absurd u
compact_well settings k v m j reply.NoMem t on u h = absurd u
compact_well settings k v m j _ t on u h = absurd h

-- a machine that is read as drained where one was set, or as before
drain_read : (ds : List Bool) (m n : ℕ) → slice_index_or (slice_set ds m true) n false ≡ true → (n ≡ m) ⊎ (slice_index_or ds n false ≡ true)
drain_read ds m n is = elim (read_set ds m n true false) [
  | inl e ↦ inr (sym e ∙ is)
  | inr e ↦ inl e.0
]

undrain_read : (ds : List Bool) (m n : ℕ) → slice_index_or (slice_set ds m false) n false ≡ true → (n ≢ m) × (slice_index_or ds n false ≡ true)
undrain_read [] m n is = absurd cc
undrain_read (d ∷ ds) zero zero is = absurd cc
undrain_read (d ∷ ds) zero (suc n) is = (λ e. cc, is)
undrain_read (d ∷ ds) (suc m) zero is = (λ e. cc, is)
undrain_read (d ∷ ds) (suc m) (suc n) is = let rest = undrain_read ds m n is in (λ e. rest.0 (let same : n ≡ m = omega (arith, e) in same), rest.1)

drain_well : (settings : Settings) (k : Known) (m : ℕ) (r : Reply) (t : Known) → IsUntroubled r → LegalDrain settings k m r t → Well settings k r t
drain_well settings k m (reply.Drained m') t u h =
    well_beside settings k (reply.Drained m') t (with_drain k m true) refl refl
    (λ n is. elim (drain_read k.drained m n is) [
      | inl here ↦ inl (ap reply.Drained (h.0 ∙ sym here))
      | inr before ↦ inr (before, λ e. cc)
    ])
    h.2
drain_well settings k m reply.Nowhere t u h = well_same settings k reply.Nowhere t (λ n e. cc) h.1
drain_well settings k m reply.NoMem t u h = absurd u
drain_well settings k m _ t u h = absurd h

undrain_well : (settings : Settings) (k : Known) (m : ℕ) (r : Reply) (t : Known) → IsUntroubled r → LegalUndrain settings k m r t → Well settings k r t
undrain_well settings k m (reply.Undrained m') t u h =
    well_beside settings k (reply.Undrained m') t (with_drain k m false) refl refl
    (λ n is. let read = undrain_read k.drained m n is in inr (read.1, λ e. let same : m' ≡ n = cc in read.0 (sym same ∙ h.0)))
    h.2
undrain_well settings k m reply.Nowhere t u h = well_same settings k reply.Nowhere t (λ n e. cc) h.1
undrain_well settings k m reply.NoMem t u h = absurd u
undrain_well settings k m _ t u h = absurd h

fuse_well : (settings : Settings) (k : Known) (v m j n : ℕ) (r : Reply) (t : Known) → IsUntroubled r → LegalFuse settings k v m j n r t → Well settings k r t
fuse_well settings k v m j n (reply.Fused v' m' n') t u h =
    let e : Known = with_fuses k (slot_of settings v j) (h.2).0 in
    well_beside settings k (reply.Fused v' m' n') t e refl refl (still_drained settings k (reply.Fused v' m' n') t e refl (λ i e. cc)) (h.2).2
fuse_well settings k v m j n reply.NoMem t u h = absurd u
fuse_well settings k v m j n _ t u h = absurd h

fuse_dir_well : (settings : Settings) (k : Known) (n : ℕ) (r : Reply) (t : Known) → IsUntroubled r → LegalFuseDir k n r t → Well settings k r t
fuse_dir_well settings k n (reply.FusedDir n') t u h =
    let e : Known = with_fuses k 0 (h.1).0 in
    well_beside settings k (reply.FusedDir n') t e refl refl (still_drained settings k (reply.FusedDir n') t e refl (λ i e. cc)) (h.1).2
fuse_dir_well settings k n reply.NoMem t u h = absurd u
fuse_dir_well settings k n _ t u h = absurd h

on_replica_well : (settings : Settings) (k : Known) (o : Option ℕ) (legal : ℕ → Reply → Known → Type 0) (r : Reply) (t : Known) → IsUntroubled r
    → ((j : ℕ) → o ≡ Some j → legal j r t → Well settings k r t) → OnReplica k o legal r t → Well settings k r t
on_replica_well settings k (Some j) legal r t u each h = each j refl h
on_replica_well settings k None legal reply.Nowhere t u each h = well_same settings k reply.Nowhere t (λ n e. cc) h
on_replica_well settings k None legal reply.NoMem t u each h = absurd u
on_replica_well settings k None legal _ t u each h = absurd h

command_well : (settings : Settings) (k : Known) (tag : CoreTag) (c : Command) (r : Reply) (t : Known) → IsUntroubled r → LegalCommand settings k tag c r t → Well settings k r t
command_well settings k tag (command.Put pair bytes) r t u h = put_well settings k tag pair bytes r t u h
command_well settings k tag (command.Read pair cookie) r t u h = show_well settings k tag (start_of settings tag) pair cookie r t u h
command_well settings k tag (command.Get url) r t u h = get_well settings k tag url (replica_on settings url.volume url.machine) r t u h
command_well settings k tag (command.Del pair) r t u h = del_well settings k tag pair r t u h
command_well settings k tag (command.Url pair) r t u h = url_well settings k tag pair r t u h
command_well settings k tag (command.Flush v m) r t u h = on_replica_well settings k (replica_on settings v m) (LegalFlush settings k v m) r t u (λ j on. flush_well settings k v m j r t u) h
command_well settings k tag (command.Compact v m) r t u h = on_replica_well settings k (replica_on settings v m) (LegalCompact settings k v m) r t u (λ j on. compact_well settings k v m j r t on u) h
command_well settings k tag (command.Begin v m) r t u h = on_replica_well settings k (replica_on settings v m) (LegalBegin settings k v m) r t u (λ j on. begin_well settings k v m j r t u) h
command_well settings k tag (command.Step v m n) r t u h = on_replica_well settings k (replica_on settings v m) (λ j. LegalStep settings k v m j n) r t u (λ j on. step_well settings k v m j n r t u) h
command_well settings k tag (command.Finish v m) r t u h = on_replica_well settings k (replica_on settings v m) (LegalFinish settings k v m) r t u (λ j on. finish_well settings k v m j r t on u) h
command_well settings k tag (command.Drain m) r t u h = drain_well settings k m r t u h
command_well settings k tag (command.Undrain m) r t u h = undrain_well settings k m r t u h
command_well settings k tag (command.Fuse v m n) r t u h = on_replica_well settings k (replica_on settings v m) (λ j. LegalFuse settings k v m j n) r t u (λ j on. fuse_well settings k v m j n r t u) h
command_well settings k tag (command.FuseDir n) r t u h = fuse_dir_well settings k n r t u h
command_well settings k tag (command.Restart pick) r t u h = absurd h

pub plain_well : (settings : Settings) (k : Known) (line : ℕ) (i : Item) (r : Reply) (t : Known) → IsUntroubled r → LegalPlain settings k line i r t → Well settings k r t
plain_well settings k line (item.Command c) r t u h = command_well settings k (record { lane = 0; line = line }) c r t u h
plain_well settings k line item.Bad r t u h = well_same settings k r t (λ m e. let both : reply.BadLine ≡ reply.Undrained m = sym h.0 ∙ e in cc) h.1
