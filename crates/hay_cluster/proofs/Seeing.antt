-- What is seen of a store in memory: laws of calls of its parts, and of puts and deletes.
use Rattle.std.proofs.Common.{◌≡◌, ◌⊎◌, ℕ, ◌+◌, ◌<◌, List, ◌∷◌, ◌++◌, map, Some, None, inl, inr, refl, sym, ap, subst, ◌∙◌, arith}
use Rattle.std.specs.Prelude.{slice_get, slice_set}
use Rattle.std.specs.List.{AllZip, range_with_len}
use Rattle.hay_needle.specs.declared.needle.Pair.{Pair}
use Rattle.hay_needle.specs.declared.settings.Settings.{Settings}
use Rattle.hay_core.specs.declared.entry.CoreTag.{CoreTag}
use Rattle.hay_reply.specs.declared.Refused.{Refused}
use Rattle.hay_reply.specs.declared.Refused.TheVariants.{NoRoom}
use Rattle.hay_reply.specs.declared.Reply.{Reply}
use Rattle.hay_reply.specs.declared.Reply.TheVariants as reply
use Rattle.hay_legal.specs.Known.{try_at}
use Rattle.hay_directory.specs.declared.fault.DirFault.{DirFault}
use Rattle.hay_directory.specs.declared.fault.DirFault.TheVariants as settling
use Rattle.hay_directory.specs.Seen.{DirectorySeen, KeepsSeen, SettleRefusedSeen, directory_seen}
use Rattle.hay_directory.specs.State.{State}
use Rattle.hay_logical.specs.declared.fault.LogicalFault.{LogicalFault}
use Rattle.hay_logical.specs.declared.fault.LogicalFault.TheVariants as refusal
use Rattle.hay_logical.specs.Answers.{BreaksPutOff}
use Rattle.hay_logical.specs.Fits.{At}
use Rattle.hay_logical.specs.Seen.{DeleteRefusedSeen, FullSeen, PutRefusedSeen, RoomRefusedSeen, StaysThawed, VolumeSeen, volume_seen}
use Rattle.hay_logical.specs.Volumes.{Volume}
use Rattle.hay_cluster.specs.Changes.{IsDeleteReply, IsReadOnly}
use Rattle.hay_cluster.specs.Lacks.{lack_of}
use Rattle.hay_cluster.specs.Puts.{IsPutReply, IsRefusal, settle_reply}
use Rattle.hay_cluster.specs.Seen.{AnswersDelete, AnswersPut, Closes, GetsHome, IsOpenAtHome, IsOpenTo, IsTaker, IsTurnedAside, Keeps, MovesDirectory, MovesVolume, NeedsHome}
use Rattle.hay_cluster.specs.Seen.{PutsAt, RefusesPhoto, StoreSeen, TakesPhotoAt, TurnsAside, home_seen, store_seen}
use Rattle.hay_cluster.specs.Store.{Open}
use Rattle.hay_cluster.proofs.Ranges.{range-at}
use Rattle.hay_cluster.proofs.Lists.{map-append, map-at, map-set, set-kept}
use Rattle.hay_cluster.proofs.Moves.{with_directory, with_one}

-- NOTHING IS SEEN OTHERWISE

pub keeps_directory : (seen : DirectorySeen) → KeepsSeen seen seen
keeps_directory seen = record { homes = λ pair. refl; rows = refl; pending = refl; drained = refl }

pub keeps_all : (seen : StoreSeen) → Keeps seen seen
keeps_all seen = record { volumes = refl; moves = keeps_directory seen.directory }

pub keeps_on : (old mid new : StoreSeen) → Keeps old mid → Keeps mid new → Keeps old new
keeps_on old mid new first second = record {
  volumes = second.volumes ∙ first.volumes;
  moves = record {
    homes = λ pair. second.moves.homes pair ∙ first.moves.homes pair;
    rows = second.moves.rows ∙ first.moves.rows;
    pending = second.moves.pending ∙ first.moves.pending;
    drained = second.moves.drained ∙ first.moves.drained;
  };
}

pub keeps_same : (old new : StoreSeen) → new ≡ old → Keeps old new
keeps_same old new same = subst (λ (seen : StoreSeen). Keeps old seen) (sym same) (keeps_all old)

-- CALLS OF ONE PART

module _ {D P A : Type 0} (old store : Open D P A) (is : store ≡ old) where
  pub seen_at : (v : ℕ) (before : Volume D P) → At store.volumes v before → At (store_seen old).volumes v (volume_seen before)
  seen_at v before at = ap (λ (st : Open D P A). slice_get (map volume_seen st.volumes) v) (sym is) ∙ map-at volume_seen store.volumes v before at

  pub volume_moves : (v : ℕ) (before after : Volume D P) (Moves : VolumeSeen → VolumeSeen → Type 0) → At store.volumes v before → Moves (volume_seen before) (volume_seen after)
      → MovesVolume v Moves (store_seen old) (store_seen (with_one store v after))
  volume_moves v before after Moves at moves = record {
    before = volume_seen before;
    after = volume_seen after;
    was = seen_at v before at;
    volumes = map-set volume_seen store.volumes v after ∙ ap (λ (st : Open D P A). slice_set (map volume_seen st.volumes) v (volume_seen after)) is;
    directory = subst (λ (st : Open D P A). KeepsSeen (directory_seen st.directory) (directory_seen store.directory)) is (keeps_directory (directory_seen store.directory));
    moves = moves;
  }

  pub directory_moves : (after : State D) (Moves : DirectorySeen → DirectorySeen → Type 0) → Moves (directory_seen store.directory) (directory_seen after)
      → MovesDirectory Moves (store_seen old) (store_seen (with_directory store after))
  directory_moves after Moves moves = record {
    volumes = ap (λ (st : Open D P A). map volume_seen st.volumes) is;
    moves = subst (λ (st : Open D P A). Moves (directory_seen st.directory) (directory_seen after)) is moves;
  }

module _ (v : ℕ) (old new : StoreSeen) where
  pub moves_as : (P Q : VolumeSeen → VolumeSeen → Type 0) → ((before after : VolumeSeen) → P before after → Q before after) → MovesVolume v P old new → MovesVolume v Q old new
  moves_as P Q onwards m = record { before = m.before; after = m.after; was = m.was; volumes = m.volumes; directory = m.directory; moves = onwards m.before m.after m.moves }

  pub moves_none : MovesVolume v (λ before after. after ≡ before) old new → Keeps old new
  moves_none m = record { volumes = m.volumes ∙ ap (slice_set old.volumes v) m.moves ∙ set-kept old.volumes v m.before m.was; moves = m.directory }

  pub moves_perhaps : (Q : VolumeSeen → VolumeSeen → Type 0) → MovesVolume v (λ before after. (after ≡ before) ⊎ Q before after) old new → Keeps old new ⊎ MovesVolume v Q old new
  moves_perhaps Q m = by m.moves
    where
      by : (m.after ≡ m.before) ⊎ Q m.before m.after → Keeps old new ⊎ MovesVolume v Q old new
      by (inl same) = inl (moves_none (record { before = m.before; after = m.after; was = m.was; volumes = m.volumes; directory = m.directory; moves = same }))
      by (inr moves) = inr (record { before = m.before; after = m.after; was = m.was; volumes = m.volumes; directory = m.directory; moves = moves })

thawed_or : (before after : VolumeSeen) (Q : Type 0) → StaysThawed before after ⊎ Q → (after ≡ before) ⊎ Q
thawed_or before after Q (inl still) = inl still.1
thawed_or before after Q (inr q) = inr q

-- WHAT A VOLUME REFUSES

-- a volume that takes changes is not frozen
pub open_thawed : (settings : Settings) (seen : StoreSeen) (v m : ℕ) (volume : VolumeSeen) → IsOpenTo settings seen v → At seen.volumes v volume → volume.frozen ≡ Some m → ⊥
open_thawed settings seen v m volume opens at frozen =
    let here = opens.0 in
    let one : Some here.0 ≡ Some volume = sym here.1 ∙ at in
    let same : here.0 ≡ volume = cc in
    let none : volume.frozen ≡ None = subst (λ (w : VolumeSeen). w.frozen ≡ None) same here.2.0 in
    absurd cc

-- why it lacks room
pub lack_seen : (settings : Settings) (seen : StoreSeen) (size v : ℕ) (volume : VolumeSeen) (fault : LogicalFault) (refused : Refused) → lack_of v fault ≡ Some refused → IsOpenTo settings seen v
    → At seen.volumes v volume → RoomRefusedSeen settings v size volume fault → TurnsAside settings seen size refused
lack_seen settings seen size v volume (refusal.Full m end need capacity) refused is opens at full =
    let same : NoRoom v m end need ≡ refused = cc in
    subst (λ (r : Refused). TurnsAside settings seen size r) same (opens, (volume, at, subst (λ n. FullSeen settings v size volume m end need n) full.capacity_is full))
lack_seen settings seen size v volume (refusal.ReadOnly m) refused is opens at frozen = absurd (open_thawed settings seen v m volume opens at frozen)
lack_seen settings seen size v volume (refusal.Failed m count) refused is opens at full = absurd full
lack_seen settings seen size v volume (refusal.Gone front) refused is opens at full = absurd full
lack_seen settings seen size v volume (refusal.Busy m goal) refused is opens at full = absurd full
lack_seen settings seen size v volume (refusal.Worn m) refused is opens at full = absurd full
lack_seen settings seen size v volume refusal.Idle refused is opens at full = absurd full
lack_seen settings seen size v volume (refusal.Damaged m place) refused is opens at full = absurd full
lack_seen settings seen size v volume refusal.NoMemory refused is opens at full = absurd full

-- PUTS

-- the first volume of a pair's tries that takes the photo
pub is_taker : (settings : Settings) (seen : StoreSeen) (pair : Pair) (size turn v : ℕ) (refused : List Refused) → turn < settings.volumes → v ≡ try_at settings pair turn
    → AllZip (RefusesPhoto settings seen size) (map (try_at settings pair) (range_with_len 0 turn)) refused → TakesPhotoAt settings seen size v → IsTaker settings seen pair size v
is_taker settings seen pair size turn v refused within is each takes =
    let t = try_at settings pair in
    let before = map t (range_with_len 0 turn) in
    let split = range-at 0 settings.volumes turn within in
    let last : 0 + turn ≡ turn = omega arith in (
      before,
      refused,
      map t split.0,
      ap (map t) split.1 ∙ map-append t (range_with_len 0 turn) ((0 + turn) ∷ split.0) ∙ ap (λ n. before ++ t n ∷ map t split.0) last ∙ ap (λ u. before ++ u ∷ map t split.0) (sym is),
      each,
      takes,
    )

module _ (settings : Settings) (tag : CoreTag) (pair : Pair) (size : ℕ) where
  -- the answer of the volume that became the pair's home, or is
  pub put_seen : (v : ℕ) (said : Reply) (old mid new : StoreSeen) → GetsHome settings pair size v old mid → PutsAt settings tag size v said mid new → AnswersPut settings tag pair size said old new
  put_seen v said old mid new gets (inl (p, d, c, is, moves, rows)) = subst (λ (r : Reply). AnswersPut settings tag pair size r old new) (sym is) ((mid, gets, moves), rows)
  put_seen v said old mid new gets (inr (inl (m, n, is, moves))) = subst (λ (r : Reply). AnswersPut settings tag pair size r old new) (sym is) (mid, gets, moves)
  put_seen v said old mid new gets (inr (inr (is, wants))) = subst (λ (r : Reply). AnswersPut settings tag pair size r old new) (sym is) (inr (v, mid, gets, wants))

  pub turned_seen : (refused : List Refused) (said : Reply) (seen : StoreSeen) → IsRefusal refused said → IsTurnedAside settings seen pair size refused
      → AnswersPut settings tag pair size said seen seen
  turned_seen refused (reply.Full tries) seen told turned = (keeps_all seen, subst (λ (rs : List Refused). IsTurnedAside settings seen pair size rs) (sym told.0) turned)
  turned_seen refused (reply.ReadOnly closed) seen told turned = (keeps_all seen, subst (λ (rs : List Refused). IsTurnedAside settings seen pair size rs) (sym told) turned)
  turned_seen refused reply.NoMem seen told turned = inl (keeps_all seen)
  turned_seen refused _ seen told turned = absurd told

  pub unsettled_seen : (v : ℕ) (fault : DirFault) (said : Reply) (old new : StoreSeen) → said ≡ settle_reply fault → NeedsHome settings pair size v old
      → MovesDirectory (λ before after. SettleRefusedSeen tag pair v before after fault) old new → AnswersPut settings tag pair size said old new
  unsettled_seen v settling.Frozen said old new is needs moves = subst (λ (r : Reply). AnswersPut settings tag pair size r old new) (sym is) (v, needs, moves)
  unsettled_seen v settling.NoMemory said old new is needs moves =
      subst (λ (r : Reply). AnswersPut settings tag pair size r old new) (sym is) (inl (record { volumes = moves.volumes; moves = moves.moves.1 }))
  unsettled_seen v (settling.Failed faults) said old new is needs moves = subst (λ (r : Reply). AnswersPut settings tag pair size r old new) (sym is) (v, needs, moves)

  -- what a volume did not store, though it takes the photo
  pub unstored_seen : (v : ℕ) (fault : LogicalFault) (said : Reply) (old new : StoreSeen) → IsPutReply v fault said → BreaksPutOff fault
      → MovesVolume v (λ before after. PutRefusedSeen settings v tag size before after fault) old new → PutsAt settings tag size v said old new
  unstored_seen v (refusal.Failed m count) said old new told breaks moves = inr (inl (m, count, told, moves))
  unstored_seen v refusal.NoMemory said old new told breaks moves = inr (inr (told, moves_perhaps v old new _ (moves_as v old new _ _ (λ before after. thawed_or before after _) moves)))
  unstored_seen v (refusal.ReadOnly m) said old new told breaks moves = absurd breaks
  unstored_seen v (refusal.Full m end need capacity) said old new told breaks moves = absurd breaks
  unstored_seen v (refusal.Gone front) said old new told breaks moves = absurd breaks
  unstored_seen v (refusal.Busy m goal) said old new told breaks moves = absurd breaks
  unstored_seen v (refusal.Worn m) said old new told breaks moves = absurd breaks
  unstored_seen v refusal.Idle said old new told breaks moves = absurd breaks
  unstored_seen v (refusal.Damaged m place) said old new told breaks moves = absurd breaks

-- DELETES

module _ (settings : Settings) (tag : CoreTag) (pair : Pair) (v : ℕ) where
  pub closed_seen : (m : ℕ) (said : Reply) (seen : StoreSeen) → IsReadOnly v m said → home_seen seen pair ≡ Some v → Closes settings seen v m → AnswersDelete settings tag pair said seen seen
  closed_seen m said seen (inl closed) home closes = subst (λ (r : Reply). AnswersDelete settings tag pair r seen seen) (sym closed) (keeps_all seen, (v, m, refl, home, closes))
  closed_seen m said seen (inr none) home closes = subst (λ (r : Reply). AnswersDelete settings tag pair r seen seen) (sym none) (keeps_all seen)

  module _ (rows : ℕ) (said : Reply) (old new : StoreSeen) (opens : IsOpenAtHome settings old pair v) (count : rows ≡ (new.directory).rows) where
    pub undeleted_seen : (fault : LogicalFault) → IsDeleteReply v rows fault said → MovesVolume v (λ before after. DeleteRefusedSeen tag pair before after fault) old new
        → AnswersDelete settings tag pair said old new
    undeleted_seen (refusal.Gone front) told moves =
        subst (λ (r : Reply). AnswersDelete settings tag pair r old new) (sym told)
        (opens, moves_none v old new (moves_as v old new _ _ (λ before after both. (both.0).1) moves), (moves.before, moves.was, moves.moves.1), count ∙ (moves.directory).rows)
    undeleted_seen (refusal.Failed m count) told moves =
        subst (λ (r : Reply). AnswersDelete settings tag pair r old new) (sym told) (opens, moves_perhaps v old new _ (moves_as v old new _ _ (λ before after. thawed_or before after _) moves))
    undeleted_seen (refusal.Damaged m place) told moves =
        subst (λ (r : Reply). AnswersDelete settings tag pair r old new) (sym told) (opens, moves_none v old new (moves_as v old new _ _ (λ before after still. still.1) moves))
    undeleted_seen refusal.NoMemory told moves =
        subst (λ (r : Reply). AnswersDelete settings tag pair r old new) (sym told) (moves_none v old new (moves_as v old new _ _ (λ before after still. still.1) moves))
    undeleted_seen (refusal.ReadOnly m) told moves = absurd (open_thawed settings old v m moves.before opens.1 moves.was moves.moves.1)
    undeleted_seen (refusal.Full m end need capacity) told moves = absurd told
    undeleted_seen (refusal.Busy m goal) told moves = absurd told
    undeleted_seen (refusal.Worn m) told moves = absurd told
    undeleted_seen refusal.Idle told moves = absurd told
