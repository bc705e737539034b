-- Damage that is told, of disks that tell.
use Rattle.std.specs.Option.{option_map_or}
use Rattle.std.proofs.Common.{◌≡◌, ◌⊎◌, ◌<◌, ℕ, List, [], ◌∷◌, Some, length, refl, sym, ap, subst, ◌∙◌, inl, inr, arith}
use Rattle.std.specs.Prelude.{slice_get}
use Rattle.std.proofs.lemmas.Option.{same_Some}
use Rattle.hay_needle.specs.declared.needle.Pair.{Pair}
use Rattle.hay_needle.specs.declared.settings.Settings.{Settings}
use Rattle.hay_disk.specs.Disk.{Files}
use Rattle.hay_reply.specs.declared.Reply.{Reply}
use Rattle.hay_reply.specs.declared.Reply.TheVariants as reply
use Rattle.hay_legal.specs.Known.{machine_of, replica_on, slot_of}
use Rattle.hay_legal.specs.Stands.{Contents}
use Rattle.hay_open.specs.Stored.{volume_file}
use Rattle.hay_physical.specs.OpenCopies.{Copy, KeepsHead, contents_of, generation_of, volume_bytes}
use Rattle.hay_logical.specs.Fits.{At}
use Rattle.hay_logical.specs.Needles.{AreToldBy, DeletesTold, IsDamagedLook, IsToldBy, LacksSeen, LacksSeenOn}
use Rattle.hay_logical.specs.Seen.{ReplicaSeen, VolumeSeen, replica_seen, volume_seen}
use Rattle.hay_logical.specs.Sights.{ErasesSights, FindsPhoto, Looks, LooksAtPair, Sight, Sights, sights_of}
use Rattle.hay_logical.specs.Sights.Sight.{Gone, Live, Never, Unseen}
use Rattle.hay_logical.specs.Volumes.{Volume}
use Rattle.hay_logical.specs.declared.fault.LogicalFault.{LogicalFault}
use Rattle.hay_logical.specs.declared.fault.LogicalFault.TheVariants as refusal
use Rattle.hay_cluster.specs.Changes.{IsDeleteReply, IsReadOnly}
use Rattle.hay_cluster.specs.declared.maintenance.Maintenance.{Maintenance}
use Rattle.hay_cluster.specs.declared.maintenance.Maintenance.TheVariants.{Flush, Begin, Step, Finish, Compact}
use Rattle.hay_cluster.specs.Maintenance.{IsRefusedAs, MayWantMemory, done_as}
use Rattle.hay_cluster.specs.Leaving.{AnySlot, KeepsIn}
use Rattle.hay_cluster.specs.Needles.{AreToldAs, DeletesAsTold, FileAt, IsDamagedLookOn, LooksTold}
use Rattle.hay_cluster.specs.Seen.{StoreSeen, home_seen, store_seen}
use Rattle.hay_cluster.specs.Sights.{ChangesPhotos, KeepsPhotos, told_by}
use Rattle.hay_cluster.specs.Store.{IsBuilt, IsShaped, Open, contents_in, disks_of}
use Rattle.hay_cluster.proofs.ClosingStore.{contents_at, order_item, order_self}
use Rattle.hay_cluster.proofs.Lists.{map-at, slice_get-set}
use Rattle.hay_legal.proofs.Machines.{replica_found}
use Rattle.hay_cluster.proofs.Moves.{volume_of, with_one}
use Rattle.hay_cluster.proofs.OpeningStore.{slot_below}
use Rattle.hay_cluster.proofs.OpeningTaken.{in_volume}
use Rattle.hay_cluster.proofs.Seeing.{seen_at}
use Rattle.hay_cluster.proofs.Sighting.{photos_at, seen_once}

-- FILES

told_self : (file : List ℕ) (s : Sight) → IsToldBy file s s
told_self file Never = tt
told_self file (Live at) = tt
told_self file Gone = tt
told_self file (Unseen at size) = tt

-- what is so of a file is so while reads of it, and what is seen of its volume, stay
pub file_still : (settings : Settings) (contents contents' : ℕ → Contents) (seen seen' : StoreSeen) (v j : ℕ) (Is : ReplicaSeen → List ℕ → Type 0) → v < settings.volumes → j < settings.replicas
    → seen'.volumes ≡ seen.volumes → KeepsIn settings AnySlot contents contents' → FileAt settings contents seen v j Is → FileAt settings contents' seen' v j Is
file_still settings contents contents' seen seen' v j Is volume within same keeps (w, at, (r, there, is)) = (
  w,
  subst (λ (ws : List VolumeSeen). At ws v w) (sym same) at,
  (r, there, subst (λ (file : List ℕ). Is r file) (sym (keeps (slot_of settings v j) (volume_file r.generation) (slot_below settings v j volume within) tt)) is),
)

-- two facts of one file
pub file_both : (settings : Settings) (contents : ℕ → Contents) (seen : StoreSeen) (v j : ℕ) (Is Has Both : ReplicaSeen → List ℕ → Type 0)
    → ((r : ReplicaSeen) (file : List ℕ) → Is r file → Has r file → Both r file)
    → FileAt settings contents seen v j Is → FileAt settings contents seen v j Has → FileAt settings contents seen v j Both
file_both settings contents seen v j Is Has Both makes (w, at, (r, there, is)) (w', at', (r', there', has)) =
    let one : w' ≡ w = same_Some w' w (sym at' ∙ at) in
    let here : At w.replicas j r' = subst (λ (x : VolumeSeen). At x.replicas j r') one there' in
    let two : r' ≡ r = same_Some r' r (sym here ∙ there) in (
      w,
      at,
      (
        r,
        there,
        makes r (contents (slot_of settings v j) (volume_file r.generation)) is
            (subst (λ (x : ReplicaSeen). Has x (contents (slot_of settings v j) (volume_file x.generation))) two has),
      ),
    )

-- LOOKS BEHIND LOOKS

told_once : (file : List ℕ) (a b c : Sight) → Looks a b → Looks b c → IsToldBy file a b → IsToldBy file b c → IsToldBy file a c
told_once file a b c (inl same) looks first second = subst (λ (x : Sight). IsToldBy file x c) same second
told_once file a b c (inr shown) (inl same) first second = subst (λ (x : Sight). IsToldBy file a x) (sym same) first
told_once file a b c (inr shown) (inr again) first second = absurd (seen_once a b c shown again)

pub told_further : (settings : Settings) (contents contents' : ℕ → Contents) (old mid new : StoreSeen) (v : ℕ) (pair : Pair) → v < settings.volumes → mid.volumes ≡ old.volumes
    → KeepsIn settings AnySlot contents contents'
    → ChangesPhotos v (LooksAtPair pair) old mid → ChangesPhotos v (LooksAtPair pair) mid new
    → AreToldAs settings contents old v pair (mid.places v) → AreToldAs settings contents' mid v pair (new.places v) → AreToldAs settings contents old v pair (new.places v)
told_further settings contents contents' old mid new v pair volume same keeps first second told again j within =
    file_both settings contents old v j (λ r file. IsToldBy file (old.places v pair j) (mid.places v pair j)) (λ r file. IsToldBy file (mid.places v pair j) (new.places v pair j))
    (λ r file. IsToldBy file (old.places v pair j) (new.places v pair j))
    (λ r file one two. told_once file (old.places v pair j) (mid.places v pair j) (new.places v pair j) ((first.changes).each j) ((second.changes).each j) one two) (told j within)
    (file_still settings contents' contents mid old v j (λ r file. IsToldBy file (mid.places v pair j) (new.places v pair j)) volume within (sym same)
    (λ slot file low among. sym (keeps slot file low among)) (again j within))

-- where nothing more is looked at
pub told_kept : (settings : Settings) (contents : ℕ → Contents) (old : StoreSeen) (v : ℕ) (pair : Pair) (behind behind' : Sights) → ((j : ℕ) → behind' pair j ≡ behind pair j)
    → AreToldAs settings contents old v pair behind → AreToldAs settings contents old v pair behind'
told_kept settings contents old v pair behind behind' same told j within =
    subst (λ (s : Sight). FileAt settings contents old v j (λ r file. IsToldBy file (old.places v pair j) s)) (sym (same j)) (told j within)

-- OPEN VOLUMES

-- what reads of a replica's slot give, its disk gives
slot_reads : {D P A : Type 0} (files : D → Files) (old store : Open D P A) → store ≡ old → IsShaped store → (v : ℕ) (volume : Volume D P) → At store.volumes v volume
    → (j : ℕ) (r : Copy D) (n : ℕ) → At volume.replicas j r → contents_in files old (slot_of old.settings v j) n ≡ contents_of files r.disk n
slot_reads {D} {P} {A} files old store is shape v volume at j r n there =
    subst (λ (st : Open D P A). contents_in files st (slot_of st.settings v j) n ≡ contents_of files r.disk n) is
    (ap (λ (c : Contents). c n)
    (contents_at files store (slot_of store.settings v j) r.disk (in_volume (λ k disk. slice_get (disks_of store) k ≡ Some disk) store v j volume r shape at there (order_self (disks_of store)))))

module _ {D P A : Type 0} (files : D → Files) (old store : Open D P A) (is : store ≡ old) (shape : IsShaped store) (v : ℕ) (volume : Volume D P) (at : At store.volumes v volume) where
  file_reads : (j : ℕ) (r : Copy D) → At volume.replicas j r → contents_in files old (slot_of old.settings v j) (volume_file (generation_of r)) ≡ volume_bytes files r
  file_reads j r there = slot_reads files old store is shape v volume at j r (volume_file (generation_of r)) there

  -- the head of a replica whose volume was called
  pub head_on : (Q : Type 0) (after : Volume D P) (j : ℕ) → j < (old.settings).replicas → IsShaped (with_one store v after) → length after.replicas ≡ length volume.replicas
      → ((r r' : Copy D) → At volume.replicas j r → At after.replicas j r' → Q ⊎ KeepsHead files r r')
      → Q ⊎ (contents_in files (with_one store v after) (slot_of old.settings v j) 0 ≡ contents_in files old (slot_of old.settings v j) 0)
  head_on Q after j within shaped count each =
      let next : Open D P A = with_one store v after in
      let was = volume_of store v volume shape at in
      let same : (store.settings).replicas ≡ (old.settings).replicas = ap (λ (st : Open D P A). (st.settings).replicas) is in
      let many : length volume.replicas ≡ (store.settings).replicas = was.all ∙ ap (λ (s : Settings). s.replicas) was.settings_are in
      let r = order_item volume.replicas j (let low : j < length volume.replicas = omega (arith, within, many, same) in low) in
      let r' = order_item after.replicas j (let low : j < length after.replicas = omega (arith, within, many, same, count) in low) in
      let now : contents_in files next (slot_of store.settings v j) 0 ≡ contents_of files (r'.0).disk 0 =
      slot_reads files next next refl shaped v after (slice_get-set store.volumes v volume after at) j r'.0 0 r'.1 in
      elim (each r.0 r'.0 r.1 r'.1) [
        | inl q ↦ inl q
        | inr keeps ↦ inr (subst (λ (s : Settings). contents_in files next (slot_of s v j) 0 ≡ contents_of files (r'.0).disk 0) (ap (λ (st : Open D P A). st.settings) is) now
            ∙ keeps ∙ sym (slot_reads files old store is shape v volume at j r.0 0 r.1))
      ]

  file_is : (Is : ReplicaSeen → List ℕ → Type 0) (j : ℕ) (r : Copy D) → At volume.replicas j r → Is (replica_seen r) (volume_bytes files r)
      → FileAt old.settings (contents_in files old) (store_seen old) v j Is
  file_is Is j r there h = (
    volume_seen volume,
    seen_at old store is v volume at,
    (replica_seen r, map-at replica_seen volume.replicas j r there, subst (λ (file : List ℕ). Is (replica_seen r) file) (sym (file_reads j r there)) h),
  )

  -- of a replica that there is it is so
  pub file_on : (Is : ReplicaSeen → List ℕ → Type 0) (j : ℕ) → j < (old.settings).replicas → ((r : Copy D) → At volume.replicas j r → Is (replica_seen r) (volume_bytes files r))
      → FileAt old.settings (contents_in files old) (store_seen old) v j Is
  file_on Is j within each =
      let was = volume_of store v volume shape at in
      let same : (store.settings).replicas ≡ (old.settings).replicas = ap (λ (st : Open D P A). (st.settings).replicas) is in
      let many : length volume.replicas ≡ (store.settings).replicas = was.all ∙ ap (λ (s : Settings). s.replicas) was.settings_are in
      let r = order_item volume.replicas j (let low : j < length volume.replicas = omega (arith, within, many, same) in low) in
      file_is Is j r.0 r.1 (each r.0 r.1)

  pub told_as : (pair : Pair) (behind : Sights) → AreToldBy files volume.replicas pair (sights_of volume.rows) behind → AreToldAs old.settings (contents_in files old) (store_seen old) v pair behind
  told_as pair behind told j within =
      file_on (λ r file. IsToldBy file ((store_seen old).places v pair j) (behind pair j)) j within
      (λ r there. subst (λ (seen : Sights). IsToldBy (volume_bytes files r) (seen pair j) (behind pair j)) (sym (photos_at old store is v volume at)) (told j r there))

  -- the photo that is gone was found by looks that are so
  pub deletes_as : (pair : Pair) (behind gone : Sights) → gone ≡ behind → DeletesTold files volume.replicas pair (old.settings).replicas (sights_of volume.rows) behind
      → DeletesAsTold old.settings (contents_in files old) (store_seen old) v pair gone
  deletes_as pair behind gone same deletes = record {
    found = (deletes.deletes).found;
    finds = subst (λ (seen : Sights). FindsPhoto pair (old.settings).replicas seen (deletes.deletes).found) (sym (photos_at old store is v volume at)) (deletes.deletes).finds;
    erases = subst (λ (seen : Sights). ErasesSights pair (deletes.deletes).found seen) (sym same) (deletes.deletes).erases;
    told = told_as pair (deletes.deletes).found deletes.told;
  }

  -- where nothing was looked at
  pub told_still : (pair : Pair) → AreToldAs old.settings (contents_in files old) (store_seen old) v pair ((store_seen old).places v)
  told_still pair j within =
      file_on (λ r file. IsToldBy file ((store_seen old).places v pair j) ((store_seen old).places v pair j)) j within (λ r there. told_self (volume_bytes files r) ((store_seen old).places v pair j))

  pub lacks_on : (pair : Pair) (j place : ℕ) → j < (old.settings).replicas → LacksSeenOn files volume.replicas pair j place (sights_of volume.rows)
      → FileAt old.settings (contents_in files old) (store_seen old) v j (λ r file. LacksSeen file place ((store_seen old).places v pair j))
  lacks_on pair j place within lacks =
      file_on (λ r file. LacksSeen file place ((store_seen old).places v pair j)) j within
      (λ r there. subst (λ (seen : Sights). LacksSeen (volume_bytes files r) place (seen pair j)) (sym (photos_at old store is v volume at)) (lacks r there))

  pub damaged_look : (pair : Pair) (m place : ℕ) → v < (old.settings).volumes → IsDamagedLook files volume.settings volume.number volume.replicas pair m place (sights_of volume.rows)
      → IsDamagedLookOn old.settings (contents_in files old) (store_seen old) v pair m place
  damaged_look pair m place within look =
      let was = volume_of store v volume shape at in
      let same = ap (λ (st : Open D P A). st.settings) is in
      let built : IsBuilt old.settings = subst (λ (s : Settings). IsBuilt s) same shape.built in
      let low : look.replica < (old.settings).replicas = subst (λ (s : Settings). look.replica < s.replicas) (was.settings_are ∙ same) look.within in
      let machine : m ≡ machine_of old.settings v look.replica =
      look.machine ∙ ap (λ (s : Settings). machine_of s volume.number look.replica) (was.settings_are ∙ same) ∙ ap (λ n. machine_of old.settings n look.replica) was.number in (
        look.replica,
        ap (λ n. replica_on old.settings v n) machine ∙ replica_found old.settings v look.replica within low built.no_more_replicas,
        file_is (λ s file. LacksSeen file place ((store_seen old).places v pair look.replica)) look.replica look.there look.is
            (subst (λ (seen : Sights). LacksSeen (volume_bytes files look.there) place (seen pair look.replica)) (sym (photos_at old store is v volume at)) look.lacks),
      )

-- a refusal for what closes a volume looks at nothing
pub closed_told : (settings : Settings) (contents : ℕ → Contents) (old new : StoreSeen) (pair : Pair) (v m : ℕ) (said : Reply) → IsReadOnly v m said → KeepsPhotos old new
    → LooksTold settings contents old new pair (told_by said)
closed_told settings contents old new pair v m said (inl closed) kept = subst (λ (r : Reply). LooksTold settings contents old new pair (told_by r)) (sym closed) tt
closed_told settings contents old new pair v m said (inr none) kept = subst (λ (r : Reply). LooksTold settings contents old new pair (told_by r)) (sym none) (inl kept)

-- a store of which nothing was looked at
pub none_looked : {D P A : Type 0} (files : D → Files) (old store : Open D P A) → store ≡ old → IsShaped store → (v : ℕ) (pair : Pair) → v < (old.settings).volumes
    → AreToldAs old.settings (contents_in files old) (store_seen old) v pair ((store_seen old).places v)
none_looked {D} {P} {A} files old store is shape v pair within =
    let same : (store.settings).volumes ≡ (old.settings).volumes = ap (λ (st : Open D P A). (st.settings).volumes) is in
    let many = shape.many in
    let x = order_item store.volumes v (let low : v < length store.volumes = omega (arith, within, many, same) in low) in
    told_still files old store is shape v x.0 x.1 pair

-- of the home of a pair it is so
pub home_told : (settings : Settings) (contents : ℕ → Contents) (old new : StoreSeen) (pair : Pair) (v : ℕ) → home_seen old pair ≡ Some v → AreToldAs settings contents old v pair (new.places v)
    → (w : ℕ) → home_seen old pair ≡ Some w → AreToldAs settings contents old w pair (new.places w)
home_told settings contents old new pair v home told w is = subst (λ u. AreToldAs settings contents old u pair (new.places u)) (same_Some v w (sym home ∙ is)) told

module _ (settings : Settings) (contents : ℕ → Contents) (old new : StoreSeen) (pair : Pair) (v : ℕ) (home : home_seen old pair ≡ Some v)
    (told : AreToldAs settings contents old v pair (new.places v)) where
  pub undeleted_told : (rows : ℕ) (fault : LogicalFault) (said : Reply) → IsDeleteReply v rows fault said → LooksTold settings contents old new pair (told_by said)
  undeleted_told rows (refusal.Gone front) said is = subst (λ (r : Reply). LooksTold settings contents old new pair (told_by r)) (sym is) told
  undeleted_told rows (refusal.Failed m count) said is = subst (λ (r : Reply). LooksTold settings contents old new pair (told_by r)) (sym is) told
  undeleted_told rows (refusal.Damaged m place) said is = subst (λ (r : Reply). LooksTold settings contents old new pair (told_by r)) (sym is) told
  undeleted_told rows refusal.NoMemory said is = subst (λ (r : Reply). LooksTold settings contents old new pair (told_by r)) (sym is) (inr (home_told settings contents old new pair v home told))
  undeleted_told rows (refusal.ReadOnly m) said (inl closed) = subst (λ (r : Reply). LooksTold settings contents old new pair (told_by r)) (sym closed) tt
  undeleted_told rows (refusal.ReadOnly m) said (inr none) =
      subst (λ (r : Reply). LooksTold settings contents old new pair (told_by r)) (sym none) (inr (home_told settings contents old new pair v home told))
  undeleted_told rows (refusal.Full m end need capacity) said is = absurd is
  undeleted_told rows (refusal.Busy m goal) said is = absurd is
  undeleted_told rows (refusal.Worn m) said is = absurd is
  undeleted_told rows refusal.Idle said is = absurd is

-- what reads give where the disks are as they were
pub contents_same : {D P A : Type 0} (files : D → Files) (old new : Open D P A) → disks_of new ≡ disks_of old → ◌≡◌ {A = ℕ → Contents} (contents_in files new) (contents_in files old)
contents_same {D} files old new same = let reads : List D → ℕ → Contents = λ disks slot file. option_map_or (λ disk. (files disk file).now) (slice_get disks slot) [] in ap reads same

-- REPLIES

module _ (v : ℕ) (said : Reply) (u m place : ℕ) (is : said ≡ reply.Damaged u m place) where
  pub closed_undamaged : (by : ℕ) → IsReadOnly v by said → ⊥
  closed_undamaged by (inl closed) = cc
  closed_undamaged by (inr none) = cc

  pub delete_damage : (rows : ℕ) (fault : LogicalFault) → IsDeleteReply v rows fault said → (fault ≡ refusal.Damaged m place) × (v ≡ u)
  delete_damage rows (refusal.Damaged by at) told = let both : reply.Damaged v by at ≡ reply.Damaged u m place = sym told ∙ is in
      let one : by ≡ m = cc in let two : at ≡ place = cc in let three : v ≡ u = cc in (ap (λ n. refusal.Damaged n at) one ∙ ap (refusal.Damaged m) two, three)
  delete_damage rows (refusal.Gone front) told = absurd cc
  delete_damage rows (refusal.Failed by f) told = absurd cc
  delete_damage rows (refusal.ReadOnly by) told = absurd (closed_undamaged by told)
  delete_damage rows refusal.NoMemory told = absurd cc
  delete_damage rows (refusal.Full by end need capacity) told = absurd told
  delete_damage rows (refusal.Busy by generation) told = absurd told
  delete_damage rows (refusal.Worn by) told = absurd told
  delete_damage rows refusal.Idle told = absurd told

  pub work_damage : (here : ℕ) (fault : LogicalFault) → IsRefusedAs v here fault said → fault ≡ refusal.Damaged m place
  work_damage here (refusal.Damaged by at) told = let both : reply.Damaged v by at ≡ reply.Damaged u m place = sym told ∙ is in
      let one : by ≡ m = cc in let two : at ≡ place = cc in ap (λ n. refusal.Damaged n at) one ∙ ap (refusal.Damaged m) two
  work_damage here (refusal.ReadOnly by) told = absurd (closed_undamaged by told)
  work_damage here (refusal.Failed by f) told = absurd cc
  work_damage here (refusal.Busy by generation) told = absurd cc
  work_damage here (refusal.Worn by) told = absurd cc
  work_damage here refusal.Idle told = absurd cc
  work_damage here refusal.NoMemory told = absurd cc
  work_damage here (refusal.Full by end need capacity) told = absurd told
  work_damage here (refusal.Gone front) told = absurd told

  pub done_undamaged : (here number : ℕ) (work : Maintenance) → said ≡ done_as v here work number → ⊥
  done_undamaged here number Flush done = cc
  done_undamaged here number Begin done = cc
  done_undamaged here number (Step cells) done = cc
  done_undamaged here number Finish done = cc
  done_undamaged here number Compact done = cc

-- DONE, OR NOT

-- the number that is told
pub done_number : (v m : ℕ) (work : Maintenance) (a b : ℕ) → done_as v m work a ≡ done_as v m work b → a ≡ b
done_number v m Flush a b same = cc
done_number v m Begin a b same = cc
done_number v m (Step cells) a b same = cc
done_number v m Finish a b same = cc
done_number v m Compact a b same = cc

module _ (v m n : ℕ) where
  undone : (said : Reply) → (said ≡ reply.Flushed v m n → ⊥) → (said ≡ reply.Begun v m n → ⊥) → (said ≡ reply.Stepped v m n → ⊥) → (said ≡ reply.Compacted v m n → ⊥) → (work : Maintenance)
      → said ≡ done_as v m work n → ⊥
  undone said flushed begun stepped compacted Flush is = flushed is
  undone said flushed begun stepped compacted Begin is = begun is
  undone said flushed begun stepped compacted (Step cells) is = stepped is
  undone said flushed begun stepped compacted Finish is = compacted is
  undone said flushed begun stepped compacted Compact is = compacted is

  pub nowhere_done : (work : Maintenance) → reply.Nowhere ≡ done_as v m work n → ⊥
  nowhere_done work is = undone reply.Nowhere (λ e. cc) (λ e. cc) (λ e. cc) (λ e. cc) work is

  pub memory_undone : (work : Maintenance) → reply.NoMem ≡ done_as v m work n → ⊥
  memory_undone work is = undone reply.NoMem (λ e. cc) (λ e. cc) (λ e. cc) (λ e. cc) work is

  pub refused_done : (work : Maintenance) (said : Reply) (fault : LogicalFault) → IsRefusedAs v m fault said → said ≡ done_as v m work n → ⊥
  refused_done work said (refusal.ReadOnly by) (inl told) is = undone (reply.ReadOnly (record { volume = v; machine = by } ∷ [])) (λ e. cc) (λ e. cc) (λ e. cc) (λ e. cc) work (sym told ∙ is)
  refused_done work said (refusal.ReadOnly by) (inr told) is = undone reply.NoMem (λ e. cc) (λ e. cc) (λ e. cc) (λ e. cc) work (sym told ∙ is)
  refused_done work said (refusal.Failed by f) told is = undone (reply.Failed v by f) (λ e. cc) (λ e. cc) (λ e. cc) (λ e. cc) work (sym told ∙ is)
  refused_done work said (refusal.Busy by g) told is = undone (reply.Busy v by g) (λ e. cc) (λ e. cc) (λ e. cc) (λ e. cc) work (sym told ∙ is)
  refused_done work said (refusal.Worn by) told is = undone (reply.Worn v by) (λ e. cc) (λ e. cc) (λ e. cc) (λ e. cc) work (sym told ∙ is)
  refused_done work said refusal.Idle told is = undone (reply.Idle v m) (λ e. cc) (λ e. cc) (λ e. cc) (λ e. cc) work (sym told ∙ is)
  refused_done work said (refusal.Damaged by at) told is = undone (reply.Damaged v by at) (λ e. cc) (λ e. cc) (λ e. cc) (λ e. cc) work (sym told ∙ is)
  refused_done work said refusal.NoMemory told is = undone reply.NoMem (λ e. cc) (λ e. cc) (λ e. cc) (λ e. cc) work (sym told ∙ is)
  refused_done work said (refusal.Full by end need capacity) told is = absurd told
  refused_done work said (refusal.Gone front) told is = absurd told

-- which refusals are answered that memory was wanting
pub refused_memory : (v m : ℕ) (said : Reply) (fault : LogicalFault) → IsRefusedAs v m fault said → said ≡ reply.NoMem → MayWantMemory fault
refused_memory v m said (refusal.ReadOnly by) told is = tt
refused_memory v m said (refusal.Failed by f) told is = absurd cc
refused_memory v m said (refusal.Busy by g) told is = absurd cc
refused_memory v m said (refusal.Worn by) told is = absurd cc
refused_memory v m said refusal.Idle told is = absurd cc
refused_memory v m said (refusal.Damaged by at) told is = absurd cc
refused_memory v m said refusal.NoMemory told is = tt
refused_memory v m said (refusal.Full by end need capacity) told is = absurd told
refused_memory v m said (refusal.Gone front) told is = absurd told
