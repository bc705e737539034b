-- Which changes are pending, and until when.
use Rattle.std.proofs.Common.{◌≡◌, ℕ, ◌<◌, Bool, true, false, List, [], ◌∷◌, length, Option, Some, None, refl, sym, ap, subst, ◌∙◌, ◌⊎◌, inl, inr}
use Rattle.std.specs.List.{AllByRecursion as Each}
use Rattle.std.specs.Prelude.{slice_index_or, is_none}
use Rattle.std.proofs.lemmas.List.{get_or-set_same}
use Rattle.std.proofs.lemmas.Bool.{true≢false}
use Rattle.hay_needle.specs.declared.needle.Pair.{Pair}
use Rattle.hay_needle.specs.declared.needle.Cookie.{Cookie}
use Rattle.hay_needle.specs.declared.settings.Settings.{Settings}
use Rattle.hay_script.specs.declared.Command.{Command}
use Rattle.hay_script.specs.declared.Command.TheVariants as command
use Rattle.hay_reply.specs.declared.Reply.{Reply}
use Rattle.hay_reply.specs.declared.Reply.TheVariants as reply
use Rattle.hay_core.specs.declared.entry.Entry.{Entry}
use Rattle.hay_core.specs.declared.entry.Entry.TheVariants as entry
use Rattle.hay_core.specs.declared.entry.CoreTag.{CoreTag}
use Rattle.hay_core.specs.Entries.{after}
use Rattle.hay_legal.specs.declared.known.ReplicaKnown.{ReplicaKnown}
use Rattle.hay_legal.specs.declared.known.VolumeKnown.{VolumeKnown}
use Rattle.hay_legal.specs.declared.known.Pending.{Pending}
use Rattle.hay_legal.specs.declared.known.DirKnown.{DirKnown}
use Rattle.hay_legal.specs.declared.known.Known.{Known}
use Rattle.hay_legal.specs.declared.turn.Item.{Item}
use Rattle.hay_legal.specs.declared.turn.Item.TheVariants as item
use Rattle.hay_legal.specs.declared.turn.Turn.{Turn}
use Rattle.hay_legal.specs.declared.turn.Turn.TheVariants.{Plain, Lanes, Restart}
use Rattle.hay_legal.specs.Known.{home_of, home_in, volume_at, replica_at, with_replica, empty_volume, Leaves, with_home, taker_of, tries_by, refusal_of, replica_on, closed}
use Rattle.hay_legal.specs.Known.{drained_of, refusal_by, room_refusal, closed_by}
use Rattle.hay_url.specs.declared.Url.{Url as UrlParts}
use Rattle.hay_url.specs.Url.{cookie_of}
use Rattle.hay_legal.specs.Plain.{PutFailed, LegalPlain, LegalCommand, LegalShow, LegalGetAt, start_of, LegalPut, LegalDel, LegalUrl, LegalFlush, LegalBegin, LegalStep}
use Rattle.hay_legal.specs.Plain.{LegalFinish, LegalCompact, LegalDrain, LegalUndrain, LegalFuse, LegalFuseDir, OnReplica, IsLoose, IsTight, replica_of, Swaps, SwapFailed}
use Rattle.hay_legal.specs.Plain.{SwapNoMem, IsAtRest, IsOpen, MayFinish, change_volume, change_replica, frozen_by, frozen_with, without_run, with_bare, with_stuck, with_run}
use Rattle.hay_legal.specs.Plain.{swapped, stepped, poised, poised_by, as_it_is, put_frozen, put_entry, first_machine, with_put, with_del}
use Rattle.hay_legal.specs.Legal.{Legal}
use Rattle.hay_legal.specs.Subject.{known_behind, pair_of, IsOf, IsPlain, FailedPutThatWasKeptIsRead}
use Rattle.hay_legal.proofs.Subject.Shown.{legal_split}
use Rattle.hay_legal.proofs.Subject.Effects.{read_set, find_of, taken_home}
use Rattle.hay_legal.proofs.Subject.Entries.{plain_is_of, is_of_behind, taken_bounded}
use Rattle.hay_legal.proofs.Subject.Standing.{plain_home, answered}
use Rattle.hay_legal.proofs.Subject.Reopened.{failed_put_is_pending, kept_is_read}

-- WHAT STAYS PENDING

-- A volume keeps its freeze and its pending change.
pub record Steady (old new : VolumeKnown) : Type 0 where
  pub frozen : new.frozen ≡ old.frozen
  pub pending : new.pending ≡ old.pending

pub steady_trans : (a b c : VolumeKnown) → Steady a b → Steady b c → Steady a c
steady_trans a b c h g = record { frozen = g.frozen ∙ h.frozen; pending = g.pending ∙ h.pending }

pub steady_volumes : (k t : Known) (w : ℕ) → t.volumes ≡ k.volumes → Steady (volume_at k w) (volume_at t w)
steady_volumes k t w e =
    subst (λ (vs : List VolumeKnown). Steady (volume_at k w) (slice_index_or vs w empty_volume)) (sym e) (record { frozen = refl; pending = refl })

pub steady_leaves : (k e t : Known) (w : ℕ) → Steady (volume_at k w) (volume_at e w) → Leaves k e t → Steady (volume_at k w) (volume_at t w)
steady_leaves k e t w h leaves = steady_trans (volume_at k w) (volume_at e w) (volume_at t w) h (steady_volumes e t w leaves.volumes)

pub steady_same : (k t : Known) (w : ℕ) → Leaves k k t → Steady (volume_at k w) (volume_at t w)
steady_same k t w leaves = steady_volumes k t w leaves.volumes

-- a change that freezes nothing
pub steady_change : (k : Known) (v w : ℕ) (change : VolumeKnown → VolumeKnown) → Steady (volume_at k v) (change (volume_at k v))
    → Steady (volume_at k w) (volume_at (change_volume k v change) w)
steady_change k v w change steady =
    elim (read_set k.volumes v w (change (volume_at k v)) empty_volume) [
      | inl e ↦ subst (λ (new : VolumeKnown). Steady (volume_at k w) new) (sym e) (record { frozen = refl; pending = refl })
      | inr e ↦ subst (λ (new : VolumeKnown). Steady (volume_at k w) new) (sym e.1)
          (subst (λ (u : ℕ). Steady (volume_at k u) (change (volume_at k v))) (sym e.0) steady)
    ]

-- any change of a volume that is not frozen, seen from one that is
pub steady_other : (k : Known) (v w m : ℕ) (change : VolumeKnown → VolumeKnown) → (volume_at k w).frozen ≡ Some m → ((volume_at k v).frozen ≡ Some m → ⊥)
    → Steady (volume_at k w) (volume_at (change_volume k v change) w)
steady_other k v w m change frozen never =
    elim (read_set k.volumes v w (change (volume_at k v)) empty_volume) [
      | inl e ↦ subst (λ (new : VolumeKnown). Steady (volume_at k w) new) (sym e) (record { frozen = refl; pending = refl })
      | inr e ↦ absurd (never (subst (λ (u : ℕ). (volume_at k u).frozen ≡ Some m) e.0 frozen))
    ]

pub is_open : (settings : Settings) (k : Known) (v m : ℕ) → closed settings k v ≡ None → (volume_at k v).frozen ≡ Some m → ⊥
is_open settings k v m none frozen =
    let shut : closed settings k v ≡ Some m = ap (λ (by : Option ℕ). closed_by by (drained_of settings k v)) frozen in
    let clash : None ≡ Some m = sym none ∙ shut in absurd cc

pub taker_open : (settings : Settings) (k : Known) (pair : Pair) (size v m : ℕ) → taker_of settings k pair size ≡ Some v → (volume_at k v).frozen ≡ Some m → ⊥
taker_open settings k pair size v m taker frozen =
    let takes = (find_of (λ u. is_none (refusal_of settings k size u)) (tries_by settings pair (home_of k pair)) v taker).0 in
    let shut : closed settings k v ≡ Some m = ap (λ (by : Option ℕ). closed_by by (drained_of settings k v)) frozen in
    let refuses : is_none (refusal_of settings k size v) ≡ false = ap (λ (by : Option ℕ). is_none (refusal_by v by (room_refusal settings k v size))) shut in
    true≢false (sym takes ∙ refuses)

pub not_open : (k : Known) (v m : ℕ) → (volume_at k v).frozen ≡ None → (volume_at k v).frozen ≡ Some m → ⊥
not_open k v m none frozen = let clash : None ≡ Some m = sym none ∙ frozen in absurd cc

pub steady_replica : (k : Known) (v j w : ℕ) (change : ReplicaKnown → ReplicaKnown) (t : Known) → Leaves k (change_replica k v j change) t → Steady (volume_at k w) (volume_at t w)
steady_replica k v j w change t leaves =
    steady_leaves k (change_replica k v j change) t w
    (steady_change k v w (λ volume. with_replica volume j (change (replica_at volume j))) (record { frozen = refl; pending = refl })) leaves

-- a freeze of a volume that is open
pub frozen_steady : (k : Known) (v by : ℕ) (t : Known) (w m : ℕ) → (volume_at k w).frozen ≡ Some m → IsOpen k v → Leaves k (change_volume k v (frozen_by by)) t → Steady (volume_at k w) (volume_at t w)
frozen_steady k v by t w m frozen thawed leaves =
    steady_leaves k (change_volume k v (frozen_by by)) t w (steady_other k v w m (frozen_by by) frozen (not_open k v m thawed)) leaves

pub put_steady : (settings : Settings) (k : Known) (tag : CoreTag) (pair : Pair) (bytes : List ℕ) (r : Reply) (t : Known) (w m : ℕ) → (volume_at k w).frozen ≡ Some m
    → LegalPut settings k tag pair bytes r t → Steady (volume_at k w) (volume_at t w)
put_steady settings k tag pair bytes (reply.Stored v p d c) t w m frozen h =
    let put : Known = change_volume k v (λ volume. with_put volume tag pair c bytes) in
    steady_leaves k (with_home put pair v) t w (steady_change k v w (λ volume. with_put volume tag pair c bytes) (record { frozen = refl; pending = refl })) h.leaves
put_steady settings k tag pair bytes (reply.Full refused) t w m frozen h = steady_same k t w h.2
put_steady settings k tag pair bytes (reply.ReadOnly by) t w m frozen h = steady_same k t w h.1
put_steady settings k tag pair bytes reply.ReadOnlyDir t w m frozen h = steady_same k t w h.2
put_steady settings k tag pair bytes (reply.Failed v n f) t w m frozen h =
    steady_leaves k (put_frozen settings k tag pair bytes v n true) t w
    (steady_other k v w m (frozen_with n tag (put_entry settings pair bytes) true) frozen (taker_open settings k pair (length bytes) v m h.taker)) h.leaves
put_steady settings k tag pair bytes (reply.FailedDir f) t w m frozen h = steady_volumes k t w (h.leaves).volumes
put_steady settings k tag pair bytes reply.NoMem t w m frozen (inl leaves) = steady_same k t w leaves
put_steady settings k tag pair bytes reply.NoMem t w m frozen (inr (v, taker, row, inl leaves)) = steady_volumes k t w leaves.volumes
put_steady settings k tag pair bytes reply.NoMem t w m frozen (inr (v, taker, row, inr (inl (none, leaves)))) = steady_volumes k t w leaves.volumes
put_steady settings k tag pair bytes reply.NoMem t w m frozen (inr (v, taker, row, inr (inr leaves))) =
    steady_leaves k (put_frozen settings k tag pair bytes v (first_machine settings v) false) t w
    (steady_other k v w m (frozen_with (first_machine settings v) tag (put_entry settings pair bytes) false) frozen (taker_open settings k pair (length bytes) v m taker)) leaves
put_steady settings k tag pair bytes _ t w m frozen h = absurd h

pub show_steady : (settings : Settings) (k : Known) (tag : CoreTag) (start : ℕ) (pair : Pair) (cookie : Cookie) (r : Reply) (t : Known) (w m : ℕ) → (volume_at k w).frozen ≡ Some m
    → LegalShow settings k tag start pair cookie r t → Steady (volume_at k w) (volume_at t w)
show_steady settings k tag start pair cookie (reply.Photo v n p d bytes) t w m frozen h = steady_same k t w h.leaves
show_steady settings k tag start pair cookie (reply.Gone v n p d) t w m frozen h = steady_same k t w h.leaves
show_steady settings k tag start pair cookie (reply.WrongCookie v n p d) t w m frozen h = steady_same k t w (h.3).leaves
show_steady settings k tag start pair cookie (reply.Unreadable v p d causes) t w m frozen h = steady_same k t w h.leaves
show_steady settings k tag start pair cookie (reply.Unknown d) t w m frozen h = steady_same k t w h.1
show_steady settings k tag start pair cookie reply.NoMem t w m frozen (inl leaves) = steady_same k t w leaves
show_steady settings k tag start pair cookie reply.NoMem t w m frozen (inr (v, home, thawed, leaves)) = frozen_steady k v (first_machine settings v) t w m frozen thawed leaves
show_steady settings k tag start pair cookie _ t w m frozen h = absurd h

pub get_steady : (settings : Settings) (k : Known) (tag : CoreTag) (url : UrlParts) (o : Option ℕ) (r : Reply) (t : Known) (w m : ℕ) → (volume_at k w).frozen ≡ Some m
    → LegalGetAt settings k tag url o r t → Steady (volume_at k w) (volume_at t w)
get_steady settings k tag url (Some start) (reply.Moved v d) t w m frozen h = steady_same k t w h.3
get_steady settings k tag url (Some start) r t w m frozen h = show_steady settings k tag start url.pair url.cookie r t w m frozen h.0
get_steady settings k tag url None reply.Nowhere t w m frozen h = steady_same k t w h
get_steady settings k tag url None reply.NoMem t w m frozen h = steady_same k t w h
get_steady settings k tag url None _ t w m frozen h = absurd h

pub del_steady : (settings : Settings) (k : Known) (tag : CoreTag) (pair : Pair) (r : Reply) (t : Known) (w m : ℕ) → (volume_at k w).frozen ≡ Some m
    → LegalDel settings k tag pair r t → Steady (volume_at k w) (volume_at t w)
del_steady settings k tag pair (reply.Deleted v p d) t w m frozen h =
    steady_leaves k (change_volume k v (with_del h.ended tag pair)) t w (steady_change k v w (with_del h.ended tag pair) (record { frozen = refl; pending = refl })) h.leaves
del_steady settings k tag pair (reply.Absent v p d) t w m frozen h = steady_same k t w h.leaves
del_steady settings k tag pair (reply.Unknown d) t w m frozen h = steady_same k t w h.1
del_steady settings k tag pair (reply.ReadOnly by) t w m frozen h = steady_same k t w h.1
del_steady settings k tag pair (reply.Failed v n f) t w m frozen h =
    elim (h.leaves) [
      | inl leaves ↦ steady_same k t w leaves
      | inr froze ↦ steady_leaves k (change_volume k v (frozen_with n tag (entry.Del pair) true)) t w
          (steady_other k v w m (frozen_with n tag (entry.Del pair) true) frozen (is_open settings k v m h.«open»)) froze.1
    ]
del_steady settings k tag pair reply.NoMem t w m frozen (inl leaves) = steady_same k t w leaves
del_steady settings k tag pair reply.NoMem t w m frozen (inr (v, home, none, inl (has, leaves))) =
    steady_leaves k (change_volume k v (frozen_with (first_machine settings v) tag (entry.Del pair) false)) t w
    (steady_other k v w m (frozen_with (first_machine settings v) tag (entry.Del pair) false) frozen (is_open settings k v m none)) leaves
del_steady settings k tag pair reply.NoMem t w m frozen (inr (v, home, none, inr leaves)) =
    steady_leaves k (change_volume k v (frozen_by (first_machine settings v))) t w
    (steady_other k v w m (frozen_by (first_machine settings v)) frozen (is_open settings k v m none)) leaves
del_steady settings k tag pair _ t w m frozen h = absurd h

pub url_steady : (settings : Settings) (k : Known) (tag : CoreTag) (pair : Pair) (r : Reply) (t : Known) (w : ℕ) → LegalUrl settings k tag pair r t → Steady (volume_at k w) (volume_at t w)
url_steady settings k tag pair (reply.Url d url) t w h = steady_same k t w h.leaves
url_steady settings k tag pair (reply.Unknown d) t w h = steady_same k t w h.1
url_steady settings k tag pair reply.NoMem t w h = steady_same k t w h
url_steady settings k tag pair _ t w h = absurd h

pub flush_steady : (settings : Settings) (k : Known) (v m j : ℕ) (r : Reply) (t : Known) (w : ℕ) → LegalFlush settings k v m j r t → Steady (volume_at k w) (volume_at t w)
flush_steady settings k v m j (reply.Flushed v' m' n) t w h = steady_replica k v j w (with_bare 0) t h.4
flush_steady settings k v m j (reply.ReadOnly by) t w h = steady_same k t w h.1
flush_steady settings k v m j (reply.Failed v' m' f) t w h = steady_replica k v j w with_stuck t h.4
flush_steady settings k v m j reply.NoMem t w h = steady_same k t w h
flush_steady settings k v m j _ t w h = absurd h

pub begin_steady : (settings : Settings) (k : Known) (v m j : ℕ) (r : Reply) (t : Known) (w : ℕ) → LegalBegin settings k v m j r t → Steady (volume_at k w) (volume_at t w)
begin_steady settings k v m j (reply.Begun v' m' g) t w h = steady_replica k v j w (with_run (record { goal = g; left = (replica_of k v j).cells })) t h.4
begin_steady settings k v m j (reply.ReadOnly by) t w h = steady_same k t w h.1
begin_steady settings k v m j (reply.Busy v' m' g) t w h = steady_same k t w h.3
begin_steady settings k v m j (reply.Worn v' m') t w h = steady_same k t w h.3
begin_steady settings k v m j (reply.Failed v' m' f) t w h = steady_same k t w h.4
begin_steady settings k v m j reply.NoMem t w h = steady_same k t w h
begin_steady settings k v m j _ t w h = absurd h

pub step_steady : (settings : Settings) (k : Known) (v m j cells : ℕ) (r : Reply) (t : Known) (w : ℕ) → LegalStep settings k v m j cells r t → Steady (volume_at k w) (volume_at t w)
step_steady settings k v m j cells (reply.Stepped v' m' n) t w h = steady_replica k v j w (with_run (stepped n (h.2).0)) t (h.2).3
step_steady settings k v m j cells (reply.ReadOnly by) t w h = steady_same k t w h.1
step_steady settings k v m j cells (reply.Idle v' m') t w h = steady_same k t w h.3
step_steady settings k v m j cells (reply.Failed v' m' f) t w h = steady_replica k v j w without_run t h.4
step_steady settings k v m j cells reply.NoMem t w h =
    elim h [
      | inl leaves ↦ steady_same k t w leaves
      | inr some ↦ steady_replica k v j w (with_run (stepped some.2 some.1)) t some.5
    ]
step_steady settings k v m j cells _ t w h = absurd h

pub swap_steady : (sizes : Known → ℕ → ℕ → ℕ → ℕ → Type 0) (k : Known) (v j : ℕ) (t : Known) (w : ℕ) → Swaps sizes as_it_is k v j t → Steady (volume_at k w) (volume_at t w)
swap_steady sizes k v j t w h =
    let after : Known = change_replica k v j (swapped h.0 h.1) in
    steady_leaves k (change_volume after v as_it_is) t w
    (steady_trans (volume_at k w) (volume_at after w) (volume_at (change_volume after v as_it_is) w)
    (steady_change k v w (λ volume. with_replica volume j (swapped h.0 h.1 (replica_at volume j))) (record { frozen = refl; pending = refl }))
    (steady_change after v w as_it_is (record { frozen = refl; pending = refl })))
    h.3

pub swap_failed_steady : (k : Known) (v j n : ℕ) (t : Known) (w m : ℕ) → (volume_at k w).frozen ≡ Some m → (volume_at k v).frozen ≡ None → SwapFailed n k v j t → Steady (volume_at k w) (volume_at t w)
swap_failed_steady k v j n t w m frozen none h =
    elim h [
      | inl leaves ↦ steady_replica k v j w without_run t leaves
      | inr leaves ↦
          let froze : Known = change_volume k v (frozen_by n) in
          steady_leaves k (poised_by n k v j) t w
          (steady_trans (volume_at k w) (volume_at froze w) (volume_at (change_replica froze v j poised) w)
          (steady_other k v w m (frozen_by n) frozen (not_open k v m none))
          (steady_change froze v w (λ volume. with_replica volume j (poised (replica_at volume j))) (record { frozen = refl; pending = refl })))
          leaves
    ]

pub swap_no_mem_steady : (settings : Settings) (ready : Known → ℕ → ℕ → Type 0) (sizes : Known → ℕ → ℕ → ℕ → ℕ → Type 0) (k : Known) (v j : ℕ) (t : Known) (w m : ℕ) → (volume_at k w).frozen ≡ Some m
    → SwapNoMem settings ready sizes k v j t → Steady (volume_at k w) (volume_at t w)
swap_no_mem_steady settings ready sizes k v j t w m frozen (inl leaves) = steady_same k t w leaves
swap_no_mem_steady settings ready sizes k v j t w m frozen (inr (thawed, is, inl leaves)) = steady_replica k v j w without_run t leaves
swap_no_mem_steady settings ready sizes k v j t w m frozen (inr (thawed, is, inr (end, cells, sized, leaves))) =
    let after : Known = change_replica k v j (swapped end cells) in
    let by : ℕ = first_machine settings v in
    let same : Steady (volume_at k w) (volume_at after w) =
    steady_change k v w (λ volume. with_replica volume j (swapped end cells (replica_at volume j))) (record { frozen = refl; pending = refl }) in
    let mine : Steady (volume_at k v) (volume_at after v) =
    steady_change k v v (λ volume. with_replica volume j (swapped end cells (replica_at volume j))) (record { frozen = refl; pending = refl }) in
    steady_leaves k (change_volume after v (frozen_by by)) t w
    (steady_trans (volume_at k w) (volume_at after w) (volume_at (change_volume after v (frozen_by by)) w) same
    (steady_other after v w m (frozen_by by) (same.frozen ∙ frozen) (not_open after v m (mine.frozen ∙ thawed))))
    leaves

pub finish_steady : (settings : Settings) (k : Known) (v n j : ℕ) (r : Reply) (t : Known) (w m : ℕ) → (volume_at k w).frozen ≡ Some m
    → LegalFinish settings k v n j r t → Steady (volume_at k w) (volume_at t w)
finish_steady settings k v n j (reply.Compacted v' m' g) t w m frozen h = swap_steady IsLoose k v j t w h.4
finish_steady settings k v n j (reply.ReadOnly by) t w m frozen h = steady_same k t w h.1
finish_steady settings k v n j (reply.Idle v' m') t w m frozen h = steady_same k t w h.3
finish_steady settings k v n j (reply.Failed v' m' f) t w m frozen h = swap_failed_steady k v j n t w m frozen h.1 h.4
finish_steady settings k v n j reply.NoMem t w m frozen h = swap_no_mem_steady settings MayFinish IsLoose k v j t w m frozen h
finish_steady settings k v n j _ t w m frozen h = absurd h

pub compact_steady : (settings : Settings) (k : Known) (v n j : ℕ) (r : Reply) (t : Known) (w m : ℕ) → (volume_at k w).frozen ≡ Some m
    → LegalCompact settings k v n j r t → Steady (volume_at k w) (volume_at t w)
compact_steady settings k v n j (reply.Compacted v' m' g) t w m frozen h = swap_steady IsTight k v j t w h.4
compact_steady settings k v n j (reply.ReadOnly by) t w m frozen h = steady_same k t w h.1
compact_steady settings k v n j (reply.Busy v' m' g) t w m frozen h = steady_same k t w h.3
compact_steady settings k v n j (reply.Worn v' m') t w m frozen h = steady_same k t w h.3
compact_steady settings k v n j (reply.Failed v' m' f) t w m frozen h = swap_failed_steady k v j n t w m frozen h.1 h.4
compact_steady settings k v n j reply.NoMem t w m frozen h = swap_no_mem_steady settings IsAtRest IsTight k v j t w m frozen h
compact_steady settings k v n j _ t w m frozen h = absurd h

pub drain_steady : (settings : Settings) (k : Known) (n : ℕ) (r : Reply) (t : Known) (w : ℕ) → LegalDrain settings k n r t → Steady (volume_at k w) (volume_at t w)
drain_steady settings k n (reply.Drained m') t w h = steady_volumes k t w (h.2).volumes
drain_steady settings k n reply.Nowhere t w h = steady_same k t w h.1
drain_steady settings k n reply.NoMem t w h = steady_same k t w h
drain_steady settings k n _ t w h = absurd h

pub undrain_steady : (settings : Settings) (k : Known) (n : ℕ) (r : Reply) (t : Known) (w : ℕ) → LegalUndrain settings k n r t → Steady (volume_at k w) (volume_at t w)
undrain_steady settings k n (reply.Undrained m') t w h = steady_volumes k t w (h.2).volumes
undrain_steady settings k n reply.Nowhere t w h = steady_same k t w h.1
undrain_steady settings k n reply.NoMem t w h = steady_same k t w h
undrain_steady settings k n _ t w h = absurd h

pub fuse_steady : (settings : Settings) (k : Known) (v m j n : ℕ) (r : Reply) (t : Known) (w : ℕ) → LegalFuse settings k v m j n r t → Steady (volume_at k w) (volume_at t w)
fuse_steady settings k v m j n (reply.Fused v' m' n') t w h = steady_volumes k t w ((h.2).2).volumes
fuse_steady settings k v m j n reply.NoMem t w h = steady_same k t w h
fuse_steady settings k v m j n _ t w h = absurd h

pub fuse_dir_steady : (settings : Settings) (k : Known) (n : ℕ) (r : Reply) (t : Known) (w : ℕ) → LegalFuseDir k n r t → Steady (volume_at k w) (volume_at t w)
fuse_dir_steady settings k n (reply.FusedDir n') t w h = steady_volumes k t w ((h.1).2).volumes
fuse_dir_steady settings k n reply.NoMem t w h = steady_same k t w h
fuse_dir_steady settings k n _ t w h = absurd h

pub on_replica_steady : (k : Known) (o : Option ℕ) (legal : ℕ → Reply → Known → Type 0) (r : Reply) (t : Known) (w : ℕ)
    → ((j : ℕ) → legal j r t → Steady (volume_at k w) (volume_at t w)) → OnReplica k o legal r t → Steady (volume_at k w) (volume_at t w)
on_replica_steady k (Some j) legal r t w each h = each j h
on_replica_steady k None legal reply.Nowhere t w each h = steady_same k t w h
on_replica_steady k None legal reply.NoMem t w each h = steady_same k t w h
on_replica_steady k None legal _ t w each h = absurd h

pub command_steady : (settings : Settings) (k : Known) (tag : CoreTag) (c : Command) (r : Reply) (t : Known) (w m : ℕ) → (volume_at k w).frozen ≡ Some m
    → LegalCommand settings k tag c r t → Steady (volume_at k w) (volume_at t w)
command_steady settings k tag (command.Put pair bytes) r t w m frozen h = put_steady settings k tag pair bytes r t w m frozen h
command_steady settings k tag (command.Read pair cookie) r t w m frozen h = show_steady settings k tag (start_of settings tag) pair cookie r t w m frozen h
command_steady settings k tag (command.Get url) r t w m frozen h = get_steady settings k tag url (replica_on settings url.volume url.machine) r t w m frozen h
command_steady settings k tag (command.Del pair) r t w m frozen h = del_steady settings k tag pair r t w m frozen h
command_steady settings k tag (command.Url pair) r t w m frozen h = url_steady settings k tag pair r t w h
command_steady settings k tag (command.Flush v n) r t w m frozen h =
    on_replica_steady k (replica_on settings v n) (LegalFlush settings k v n) r t w (λ j. flush_steady settings k v n j r t w) h
command_steady settings k tag (command.Compact v n) r t w m frozen h =
    on_replica_steady k (replica_on settings v n) (LegalCompact settings k v n) r t w (λ j. compact_steady settings k v n j r t w m frozen) h
command_steady settings k tag (command.Begin v n) r t w m frozen h =
    on_replica_steady k (replica_on settings v n) (LegalBegin settings k v n) r t w (λ j. begin_steady settings k v n j r t w) h
command_steady settings k tag (command.Step v n cells) r t w m frozen h =
    on_replica_steady k (replica_on settings v n) (λ j. LegalStep settings k v n j cells) r t w (λ j. step_steady settings k v n j cells r t w) h
command_steady settings k tag (command.Finish v n) r t w m frozen h =
    on_replica_steady k (replica_on settings v n) (LegalFinish settings k v n) r t w (λ j. finish_steady settings k v n j r t w m frozen) h
command_steady settings k tag (command.Drain n) r t w m frozen h = drain_steady settings k n r t w h
command_steady settings k tag (command.Undrain n) r t w m frozen h = undrain_steady settings k n r t w h
command_steady settings k tag (command.Fuse v n calls) r t w m frozen h =
    on_replica_steady k (replica_on settings v n) (λ j. LegalFuse settings k v n j calls) r t w (λ j. fuse_steady settings k v n j calls r t w) h
command_steady settings k tag (command.FuseDir calls) r t w m frozen h = fuse_dir_steady settings k calls r t w h
command_steady settings k tag (command.Restart pick) r t w m frozen h = absurd h

pub plain_steady : (settings : Settings) (k : Known) (line : ℕ) (i : Item) (r : Reply) (t : Known) (w m : ℕ) → (volume_at k w).frozen ≡ Some m
    → LegalPlain settings k line i r t → Steady (volume_at k w) (volume_at t w)
plain_steady settings k line (item.Command c) r t w m frozen h = command_steady settings k (record { lane = 0; line = line }) c r t w m frozen h
plain_steady settings k line item.Bad r t w m frozen h = steady_same k t w h.1

-- a volume that is frozen stays so, and its pending change stays pending
pub steady_over : (settings : Settings) (k t : Known) (turns : List Turn) (w m : ℕ) → (volume_at k w).frozen ≡ Some m → Each IsPlain turns → Legal settings k turns t
    → Steady (volume_at k w) (volume_at t w)
steady_over settings k t [] w m frozen answered legal = steady_volumes k t w (ap (λ (x : Known). x.volumes) legal)
steady_over settings k t (Plain line i r after ∷ turns) w m frozen answered legal =
    let first = plain_steady settings k line i r after w m frozen legal.0 in
    steady_trans (volume_at k w) (volume_at after w) (volume_at t w) first
    (steady_over settings after t turns w m (first.frozen ∙ frozen) answered.1 legal.1)
steady_over settings k t (Lanes items logs rows after ∷ turns) w m frozen answered legal = absurd answered.0
steady_over settings k t (Restart line pick r notes after ∷ turns) w m frozen answered legal = absurd answered.0

pub plain_turns_is_of : (settings : Settings) (k t : Known) (turns : List Turn) → IsOf settings k → Each IsPlain turns → Legal settings k turns t
    → IsOf settings t × ((pair : Pair) (v : ℕ) → home_of k pair ≡ Some v → home_of t pair ≡ Some v)
plain_turns_is_of settings k t [] is answered legal =
    (subst (λ (x : Known). IsOf settings x) (sym legal) is, λ pair v home. ap (λ (x : Known). home_of x pair) legal ∙ home)
plain_turns_is_of settings k t (Plain line i r after ∷ turns) is answered legal =
    let rest = plain_turns_is_of settings after t turns (plain_is_of settings k line i r after is legal.0) answered.1 legal.1 in
    (rest.0, λ pair v home. rest.1 pair v (plain_home settings k line i r after pair v legal.0 home))
plain_turns_is_of settings k t (Lanes items logs rows after ∷ turns) is answered legal = absurd answered.0
plain_turns_is_of settings k t (Restart line pick r notes after ∷ turns) is answered legal = absurd answered.0

pub failed_froze : (settings : Settings) (b : Known) (tag : CoreTag) (pair : Pair) (bytes : List ℕ) (v m f : ℕ) (after : Known) → IsOf settings b
    → PutFailed settings b tag pair bytes v m f after
    → volume_at after v ≡ frozen_with m tag (put_entry settings pair bytes) true (volume_at b v)
failed_froze settings b tag pair bytes v m f after is h =
    let test : ℕ → Bool = λ u. is_none (refusal_of settings b (length bytes) u) in
    let below : v < length b.volumes = subst (λ (n : ℕ). v < n) (sym is.volumes) (taken_bounded settings b pair v test (home_of b pair) is refl h.taker) in
    ap (λ (vs : List VolumeKnown). slice_index_or vs v empty_volume) (h.leaves).volumes
    ∙ get_or-set_same b.volumes v (frozen_with m tag (put_entry settings pair bytes) true (volume_at b v)) empty_volume below

pub failed_put_that_was_kept_is_read : FailedPutThatWasKeptIsRead
failed_put_that_was_kept_is_read settings k t earlier waiting between later line line' line'' pick d notes pair bytes v m f after after' after'' request cookie r
    is some legal answered lost alone asks =
    let parts = legal_split settings k t earlier _ legal in
    let b : Known = known_behind k earlier in
    let tag : CoreTag = record { lane = 0; line = line } in
    let now_of : IsOf settings b = is_of_behind settings k b earlier is parts.0 in
    let after_of : IsOf settings after = plain_is_of settings b line (item.Command (command.Put pair bytes)) (reply.Failed v m f) after now_of parts.1.0 in
    let rest = legal_split settings after t waiting _ parts.1.1 in
    let e : Known = known_behind after waiting in
    let froze = failed_froze settings b tag pair bytes v m f after now_of parts.1.0 in
    let pending = failed_put_is_pending settings k t earlier _ line pair bytes v m f after is legal in
    let steady = steady_over settings after e waiting v m (ap (λ (volume : VolumeKnown). volume.frozen) froze) answered rest.0 in
    let end = plain_turns_is_of settings after e waiting after_of answered rest.0 in
    kept_is_read settings after t waiting between later line' line'' pick d notes pair (cookie_of settings.secret pair.key) bytes v
    (record { tag = tag; entry = entry.Put pair (cookie_of settings.secret pair.key) bytes; failed = true }) after' after'' request cookie r
    after_of some parts.1.1
    (steady.pending ∙ pending.0) refl (end.1 pair v pending.1) lost alone asks

-- WHAT BECOMES PENDING

-- A volume's pending change is as before, or a change of a pair whose home the volume is.
abbrev pub Pends : Known → Known → ℕ → Type 0
Pends k t w =
    ((volume_at t w).pending ≡ (volume_at k w).pending)
    ⊎ ((pending : Pending) × ((volume_at t w).pending ≡ Some pending) × (home_of t (pair_of pending.entry) ≡ Some w))

pub pends_volumes : (k t : Known) (w : ℕ) → t.volumes ≡ k.volumes → Pends k t w
pends_volumes k t w e = inl (ap (λ (vs : List VolumeKnown). (slice_index_or vs w empty_volume).pending) e)

pub pends_leaves : (k e t : Known) (w : ℕ) → Pends k e w → Leaves k e t → Pends k t w
pends_leaves k e t w h leaves =
    let same : (volume_at t w).pending ≡ (volume_at e w).pending = ap (λ (vs : List VolumeKnown). (slice_index_or vs w empty_volume).pending) leaves.volumes in
    elim h [
      | inl old ↦ inl (same ∙ old)
      | inr new ↦ inr (new.0, same ∙ new.1, ap (λ (dir : DirKnown). home_in dir.rows (pair_of (new.0).entry)) leaves.directory ∙ new.2)
    ]

pub pends_same : (k t : Known) (w : ℕ) → Leaves k k t → Pends k t w
pends_same k t w leaves = pends_volumes k t w leaves.volumes

pub pends_still : (a b c : Known) (w : ℕ) → Pends a b w → (volume_at c w).pending ≡ (volume_at b w).pending → c.directory ≡ b.directory → Pends a c w
pends_still a b c w h same dir =
    elim h [
      | inl old ↦ inl (same ∙ old)
      | inr new ↦ inr (new.0, same ∙ new.1, ap (λ (d : DirKnown). home_in d.rows (pair_of (new.0).entry)) dir ∙ new.2)
    ]

-- a change that makes nothing pending
pub still_change : (k : Known) (v w : ℕ) (change : VolumeKnown → VolumeKnown) → (change (volume_at k v)).pending ≡ (volume_at k v).pending
    → (volume_at (change_volume k v change) w).pending ≡ (volume_at k w).pending
still_change k v w change same =
    elim (read_set k.volumes v w (change (volume_at k v)) empty_volume) [
      | inl e ↦ ap (λ (volume : VolumeKnown). volume.pending) e
      | inr e ↦ ap (λ (volume : VolumeKnown). volume.pending) e.1 ∙ same ∙ ap (λ (u : ℕ). (volume_at k u).pending) (sym e.0)
    ]

pub pends_change : (k : Known) (v w : ℕ) (change : VolumeKnown → VolumeKnown) (t : Known) → (change (volume_at k v)).pending ≡ (volume_at k v).pending
    → Leaves k (change_volume k v change) t → Pends k t w
pends_change k v w change t same leaves = pends_leaves k (change_volume k v change) t w (inl (still_change k v w change same)) leaves

-- a change that freezes a volume, with a change of a pair whose home it is
pub pends_frozen : (k : Known) (v w m : ℕ) (tag : CoreTag) (e : Entry) (failed : Bool) (t : Known) → t.volumes ≡ (change_volume k v (frozen_with m tag e failed)).volumes
    → home_of t (pair_of e) ≡ Some v → Pends k t w
pends_frozen k v w m tag e failed t volumes home =
    let froze : VolumeKnown = frozen_with m tag e failed (volume_at k v) in
    elim (read_set k.volumes v w froze empty_volume) [
      | inl old ↦ inl (ap (λ (vs : List VolumeKnown). (slice_index_or vs w empty_volume).pending) volumes ∙ ap (λ (volume : VolumeKnown). volume.pending) old)
      | inr new ↦ inr (
        record { tag = tag; entry = e; failed = failed },
        ap (λ (vs : List VolumeKnown). (slice_index_or vs w empty_volume).pending) volumes ∙ ap (λ (volume : VolumeKnown). volume.pending) new.1,
        home ∙ ap (λ (u : ℕ). Some u) (sym new.0),
      )
    ]

pub put_frozen_pends : (settings : Settings) (k : Known) (tag : CoreTag) (pair : Pair) (bytes : List ℕ) (v m : ℕ) (failed : Bool) (t : Known) (w : ℕ)
    → taker_of settings k pair (length bytes) ≡ Some v → Leaves k (put_frozen settings k tag pair bytes v m failed) t → Pends k t w
put_frozen_pends settings k tag pair bytes v m failed t w taker leaves =
    pends_frozen k v w m tag (put_entry settings pair bytes) failed t leaves.volumes
    (ap (λ (dir : DirKnown). home_in dir.rows pair) leaves.directory
    ∙ taken_home settings k pair v (λ u. is_none (refusal_of settings k (length bytes) u)) (home_of k pair) refl taker)

pub del_frozen_pends : (k : Known) (tag : CoreTag) (pair : Pair) (v m : ℕ) (failed : Bool) (t : Known) (w : ℕ)
    → home_of k pair ≡ Some v → Leaves k (change_volume k v (frozen_with m tag (entry.Del pair) failed)) t → Pends k t w
del_frozen_pends k tag pair v m failed t w home leaves =
    pends_frozen k v w m tag (entry.Del pair) failed t leaves.volumes (ap (λ (dir : DirKnown). home_in dir.rows pair) leaves.directory ∙ home)

pub put_pends : (settings : Settings) (k : Known) (tag : CoreTag) (pair : Pair) (bytes : List ℕ) (r : Reply) (t : Known) (w : ℕ) → LegalPut settings k tag pair bytes r t → Pends k t w
put_pends settings k tag pair bytes (reply.Stored v p d c) t w h =
    pends_leaves k (with_home (change_volume k v (λ volume. with_put volume tag pair c bytes)) pair v) t w
    (inl (still_change k v w (λ volume. with_put volume tag pair c bytes) refl)) h.leaves
put_pends settings k tag pair bytes (reply.Full refused) t w h = pends_same k t w h.2
put_pends settings k tag pair bytes (reply.ReadOnly by) t w h = pends_same k t w h.1
put_pends settings k tag pair bytes reply.ReadOnlyDir t w h = pends_same k t w h.2
put_pends settings k tag pair bytes (reply.Failed v m f) t w h = put_frozen_pends settings k tag pair bytes v m true t w h.taker h.leaves
put_pends settings k tag pair bytes (reply.FailedDir f) t w h = pends_volumes k t w (h.leaves).volumes
put_pends settings k tag pair bytes reply.NoMem t w h =
    elim h [
      | inl leaves ↦ pends_same k t w leaves
      | inr some ↦ elim some.3 [
        | inl leaves ↦ pends_volumes k t w leaves.volumes
        | inr others ↦ elim others [
          | inl row ↦ pends_volumes k t w (row.1).volumes
          | inr leaves ↦ put_frozen_pends settings k tag pair bytes some.0 (first_machine settings some.0) false t w some.1 leaves
        ]
      ]
    ]
put_pends settings k tag pair bytes _ t w h = absurd h

pub show_pends : (settings : Settings) (k : Known) (tag : CoreTag) (start : ℕ) (pair : Pair) (cookie : Cookie) (r : Reply) (t : Known) (w : ℕ)
    → LegalShow settings k tag start pair cookie r t → Pends k t w
show_pends settings k tag start pair cookie (reply.Photo v m p d bytes) t w h = pends_same k t w h.leaves
show_pends settings k tag start pair cookie (reply.Gone v m p d) t w h = pends_same k t w h.leaves
show_pends settings k tag start pair cookie (reply.WrongCookie v m p d) t w h = pends_same k t w (h.3).leaves
show_pends settings k tag start pair cookie (reply.Unreadable v p d causes) t w h = pends_same k t w h.leaves
show_pends settings k tag start pair cookie (reply.Unknown d) t w h = pends_same k t w h.1
show_pends settings k tag start pair cookie reply.NoMem t w h =
    elim h [
      | inl leaves ↦ pends_same k t w leaves
      | inr some ↦ pends_change k some.0 w (frozen_by (first_machine settings some.0)) t refl some.3
    ]
show_pends settings k tag start pair cookie _ t w h = absurd h

pub get_pends : (settings : Settings) (k : Known) (tag : CoreTag) (url : UrlParts) (o : Option ℕ) (r : Reply) (t : Known) (w : ℕ) → LegalGetAt settings k tag url o r t → Pends k t w
get_pends settings k tag url (Some start) (reply.Moved v d) t w h = pends_same k t w h.3
get_pends settings k tag url (Some start) r t w h = show_pends settings k tag start url.pair url.cookie r t w h.0
get_pends settings k tag url None reply.Nowhere t w h = pends_same k t w h
get_pends settings k tag url None reply.NoMem t w h = pends_same k t w h
get_pends settings k tag url None _ t w h = absurd h

pub del_pends : (settings : Settings) (k : Known) (tag : CoreTag) (pair : Pair) (r : Reply) (t : Known) (w : ℕ) → LegalDel settings k tag pair r t → Pends k t w
del_pends settings k tag pair (reply.Deleted v p d) t w h = pends_change k v w (with_del h.ended tag pair) t refl h.leaves
del_pends settings k tag pair (reply.Absent v p d) t w h = pends_same k t w h.leaves
del_pends settings k tag pair (reply.Unknown d) t w h = pends_same k t w h.1
del_pends settings k tag pair (reply.ReadOnly by) t w h = pends_same k t w h.1
del_pends settings k tag pair (reply.Failed v n f) t w h =
    elim (h.leaves) [
      | inl leaves ↦ pends_same k t w leaves
      | inr froze ↦ del_frozen_pends k tag pair v n true t w h.home froze.1
    ]
del_pends settings k tag pair reply.NoMem t w h =
    elim h [
      | inl leaves ↦ pends_same k t w leaves
      | inr some ↦ elim some.3 [
        | inl froze ↦ del_frozen_pends k tag pair some.0 (first_machine settings some.0) false t w some.1 froze.1
        | inr leaves ↦ pends_change k some.0 w (frozen_by (first_machine settings some.0)) t refl leaves
      ]
    ]
del_pends settings k tag pair _ t w h = absurd h

pub url_pends : (settings : Settings) (k : Known) (tag : CoreTag) (pair : Pair) (r : Reply) (t : Known) (w : ℕ) → LegalUrl settings k tag pair r t → Pends k t w
url_pends settings k tag pair (reply.Url d url) t w h = pends_same k t w h.leaves
url_pends settings k tag pair (reply.Unknown d) t w h = pends_same k t w h.1
url_pends settings k tag pair reply.NoMem t w h = pends_same k t w h
url_pends settings k tag pair _ t w h = absurd h

pub replica_pends : (k : Known) (v j w : ℕ) (change : ReplicaKnown → ReplicaKnown) (t : Known) → Leaves k (change_replica k v j change) t → Pends k t w
replica_pends k v j w change t leaves = pends_change k v w (λ volume. with_replica volume j (change (replica_at volume j))) t refl leaves

pub flush_pends : (settings : Settings) (k : Known) (v m j : ℕ) (r : Reply) (t : Known) (w : ℕ) → LegalFlush settings k v m j r t → Pends k t w
flush_pends settings k v m j (reply.Flushed v' m' n) t w h = replica_pends k v j w (with_bare 0) t h.4
flush_pends settings k v m j (reply.ReadOnly by) t w h = pends_same k t w h.1
flush_pends settings k v m j (reply.Failed v' m' f) t w h = replica_pends k v j w with_stuck t h.4
flush_pends settings k v m j reply.NoMem t w h = pends_same k t w h
flush_pends settings k v m j _ t w h = absurd h

pub begin_pends : (settings : Settings) (k : Known) (v m j : ℕ) (r : Reply) (t : Known) (w : ℕ) → LegalBegin settings k v m j r t → Pends k t w
begin_pends settings k v m j (reply.Begun v' m' g) t w h = replica_pends k v j w (with_run (record { goal = g; left = (replica_of k v j).cells })) t h.4
begin_pends settings k v m j (reply.ReadOnly by) t w h = pends_same k t w h.1
begin_pends settings k v m j (reply.Busy v' m' g) t w h = pends_same k t w h.3
begin_pends settings k v m j (reply.Worn v' m') t w h = pends_same k t w h.3
begin_pends settings k v m j (reply.Failed v' m' f) t w h = pends_same k t w h.4
begin_pends settings k v m j reply.NoMem t w h = pends_same k t w h
begin_pends settings k v m j _ t w h = absurd h

pub step_pends : (settings : Settings) (k : Known) (v m j cells : ℕ) (r : Reply) (t : Known) (w : ℕ) → LegalStep settings k v m j cells r t → Pends k t w
step_pends settings k v m j cells (reply.Stepped v' m' n) t w h = replica_pends k v j w (with_run (stepped n (h.2).0)) t (h.2).3
step_pends settings k v m j cells (reply.ReadOnly by) t w h = pends_same k t w h.1
step_pends settings k v m j cells (reply.Idle v' m') t w h = pends_same k t w h.3
step_pends settings k v m j cells (reply.Failed v' m' f) t w h = replica_pends k v j w without_run t h.4
step_pends settings k v m j cells reply.NoMem t w h =
    elim h [
      | inl leaves ↦ pends_same k t w leaves
      | inr some ↦ replica_pends k v j w (with_run (stepped some.2 some.1)) t some.5
    ]
step_pends settings k v m j cells _ t w h = absurd h

pub swap_pends : (sizes : Known → ℕ → ℕ → ℕ → ℕ → Type 0) (besides : VolumeKnown → VolumeKnown) (k : Known) (v j : ℕ) (t : Known) (w : ℕ)
    → ((volume : VolumeKnown) → (besides volume).pending ≡ volume.pending) → Swaps sizes besides k v j t → Pends k t w
swap_pends sizes besides k v j t w same h =
    let after : Known = change_replica k v j (swapped h.0 h.1) in
    pends_leaves k (change_volume after v besides) t w
    (inl (still_change after v w besides (same (volume_at after v))
    ∙ still_change k v w (λ volume. with_replica volume j (swapped h.0 h.1 (replica_at volume j))) refl))
    h.3

pub swap_failed_pends : (k : Known) (v j n : ℕ) (t : Known) (w : ℕ) → SwapFailed n k v j t → Pends k t w
swap_failed_pends k v j n t w h =
    elim h [
      | inl leaves ↦ replica_pends k v j w without_run t leaves
      | inr leaves ↦
          let froze : Known = change_volume k v (frozen_by n) in
          pends_leaves k (poised_by n k v j) t w
          (inl (still_change froze v w (λ volume. with_replica volume j (poised (replica_at volume j))) refl ∙ still_change k v w (frozen_by n) refl))
          leaves
    ]

pub swap_no_mem_pends : (settings : Settings) (ready : Known → ℕ → ℕ → Type 0) (sizes : Known → ℕ → ℕ → ℕ → ℕ → Type 0) (k : Known) (v j : ℕ) (t : Known) (w : ℕ)
    → SwapNoMem settings ready sizes k v j t → Pends k t w
swap_no_mem_pends settings ready sizes k v j t w (inl leaves) = pends_same k t w leaves
swap_no_mem_pends settings ready sizes k v j t w (inr (thawed, is, inl leaves)) = replica_pends k v j w without_run t leaves
swap_no_mem_pends settings ready sizes k v j t w (inr (thawed, is, inr swaps)) = swap_pends sizes (frozen_by (first_machine settings v)) k v j t w (λ volume. refl) swaps

pub finish_pends : (settings : Settings) (k : Known) (v n j : ℕ) (r : Reply) (t : Known) (w : ℕ) → LegalFinish settings k v n j r t → Pends k t w
finish_pends settings k v n j (reply.Compacted v' m' g) t w h = swap_pends IsLoose as_it_is k v j t w (λ volume. refl) h.4
finish_pends settings k v n j (reply.ReadOnly by) t w h = pends_same k t w h.1
finish_pends settings k v n j (reply.Idle v' m') t w h = pends_same k t w h.3
finish_pends settings k v n j (reply.Failed v' m' f) t w h = swap_failed_pends k v j n t w h.4
finish_pends settings k v n j reply.NoMem t w h = swap_no_mem_pends settings MayFinish IsLoose k v j t w h
finish_pends settings k v n j _ t w h = absurd h

pub compact_pends : (settings : Settings) (k : Known) (v n j : ℕ) (r : Reply) (t : Known) (w : ℕ) → LegalCompact settings k v n j r t → Pends k t w
compact_pends settings k v n j (reply.Compacted v' m' g) t w h = swap_pends IsTight as_it_is k v j t w (λ volume. refl) h.4
compact_pends settings k v n j (reply.ReadOnly by) t w h = pends_same k t w h.1
compact_pends settings k v n j (reply.Busy v' m' g) t w h = pends_same k t w h.3
compact_pends settings k v n j (reply.Worn v' m') t w h = pends_same k t w h.3
compact_pends settings k v n j (reply.Failed v' m' f) t w h = swap_failed_pends k v j n t w h.4
compact_pends settings k v n j reply.NoMem t w h = swap_no_mem_pends settings IsAtRest IsTight k v j t w h
compact_pends settings k v n j _ t w h = absurd h

pub drain_pends : (settings : Settings) (k : Known) (n : ℕ) (r : Reply) (t : Known) (w : ℕ) → LegalDrain settings k n r t → Pends k t w
drain_pends settings k n (reply.Drained m') t w h = pends_volumes k t w (h.2).volumes
drain_pends settings k n reply.Nowhere t w h = pends_same k t w h.1
drain_pends settings k n reply.NoMem t w h = pends_same k t w h
drain_pends settings k n _ t w h = absurd h

pub undrain_pends : (settings : Settings) (k : Known) (n : ℕ) (r : Reply) (t : Known) (w : ℕ) → LegalUndrain settings k n r t → Pends k t w
undrain_pends settings k n (reply.Undrained m') t w h = pends_volumes k t w (h.2).volumes
undrain_pends settings k n reply.Nowhere t w h = pends_same k t w h.1
undrain_pends settings k n reply.NoMem t w h = pends_same k t w h
undrain_pends settings k n _ t w h = absurd h

pub fuse_pends : (settings : Settings) (k : Known) (v m j n : ℕ) (r : Reply) (t : Known) (w : ℕ) → LegalFuse settings k v m j n r t → Pends k t w
fuse_pends settings k v m j n (reply.Fused v' m' n') t w h = pends_volumes k t w ((h.2).2).volumes
fuse_pends settings k v m j n reply.NoMem t w h = pends_same k t w h
fuse_pends settings k v m j n _ t w h = absurd h

pub fuse_dir_pends : (settings : Settings) (k : Known) (n : ℕ) (r : Reply) (t : Known) (w : ℕ) → LegalFuseDir k n r t → Pends k t w
fuse_dir_pends settings k n (reply.FusedDir n') t w h = pends_volumes k t w ((h.1).2).volumes
fuse_dir_pends settings k n reply.NoMem t w h = pends_same k t w h
fuse_dir_pends settings k n _ t w h = absurd h

pub on_replica_pends : (k : Known) (o : Option ℕ) (legal : ℕ → Reply → Known → Type 0) (r : Reply) (t : Known) (w : ℕ) → ((j : ℕ) → legal j r t → Pends k t w)
    → OnReplica k o legal r t → Pends k t w
on_replica_pends k (Some j) legal r t w each h = each j h
on_replica_pends k None legal reply.Nowhere t w each h = pends_same k t w h
on_replica_pends k None legal reply.NoMem t w each h = pends_same k t w h
on_replica_pends k None legal _ t w each h = absurd h

pub command_pends : (settings : Settings) (k : Known) (tag : CoreTag) (c : Command) (r : Reply) (t : Known) (w : ℕ) → LegalCommand settings k tag c r t → Pends k t w
command_pends settings k tag (command.Put pair bytes) r t w h = put_pends settings k tag pair bytes r t w h
command_pends settings k tag (command.Read pair cookie) r t w h = show_pends settings k tag (start_of settings tag) pair cookie r t w h
command_pends settings k tag (command.Get url) r t w h = get_pends settings k tag url (replica_on settings url.volume url.machine) r t w h
command_pends settings k tag (command.Del pair) r t w h = del_pends settings k tag pair r t w h
command_pends settings k tag (command.Url pair) r t w h = url_pends settings k tag pair r t w h
command_pends settings k tag (command.Flush v n) r t w h = on_replica_pends k (replica_on settings v n) (LegalFlush settings k v n) r t w (λ j. flush_pends settings k v n j r t w) h
command_pends settings k tag (command.Compact v n) r t w h = on_replica_pends k (replica_on settings v n) (LegalCompact settings k v n) r t w (λ j. compact_pends settings k v n j r t w) h
command_pends settings k tag (command.Begin v n) r t w h = on_replica_pends k (replica_on settings v n) (LegalBegin settings k v n) r t w (λ j. begin_pends settings k v n j r t w) h
command_pends settings k tag (command.Step v n cells) r t w h =
    on_replica_pends k (replica_on settings v n) (λ j. LegalStep settings k v n j cells) r t w (λ j. step_pends settings k v n j cells r t w) h
command_pends settings k tag (command.Finish v n) r t w h = on_replica_pends k (replica_on settings v n) (LegalFinish settings k v n) r t w (λ j. finish_pends settings k v n j r t w) h
command_pends settings k tag (command.Drain n) r t w h = drain_pends settings k n r t w h
command_pends settings k tag (command.Undrain n) r t w h = undrain_pends settings k n r t w h
command_pends settings k tag (command.Fuse v n calls) r t w h =
    on_replica_pends k (replica_on settings v n) (λ j. LegalFuse settings k v n j calls) r t w (λ j. fuse_pends settings k v n j calls r t w) h
command_pends settings k tag (command.FuseDir calls) r t w h = fuse_dir_pends settings k calls r t w h
command_pends settings k tag (command.Restart pick) r t w h = absurd h

pub plain_pends : (settings : Settings) (k : Known) (line : ℕ) (i : Item) (r : Reply) (t : Known) (w : ℕ) → LegalPlain settings k line i r t → Pends k t w
plain_pends settings k line (item.Command c) r t w h = command_pends settings k (record { lane = 0; line = line }) c r t w h
plain_pends settings k line item.Bad r t w h = pends_same k t w h.1
