-- Texts that no run has behind an opening of disks of which one may be neither void nor whole, each as a lemma.
use Rattle.std.proofs.Common.{◌≡◌, ◌≢◌, inl, inr, ℕ, ◌+◌, ◌<◌, ◌≤◌, Bool, false, List, ◌∷◌, length, Option, None, Some, refl, sym, subst, ◌∙◌}
use Rattle.std.proofs.Math.Path.{fun_ext}
use Rattle.hay_needle.specs.declared.needle.Cell.{Cell}
use Rattle.hay_needle.specs.declared.needle.Cookie.{Cookie}
use Rattle.hay_needle.specs.declared.needle.Pair.{Pair}
use Rattle.hay_needle.specs.declared.settings.Settings.{Settings}
use Rattle.hay_needle.specs.Needle.{needle_of_cell}
use Rattle.hay_needle.specs.Sizes.{needle_total}
use Rattle.hay_script.specs.declared.Command.TheVariants as asks
use Rattle.hay_reply.specs.declared.Cause.TheVariants.{Damage}
use Rattle.hay_reply.specs.declared.Passed.{Passed}
use Rattle.hay_reply.specs.declared.Reply.TheVariants.{Absent, Damaged, Deleted, Gone, Photo, Unreadable}
use Rattle.hay_legal.specs.Known.{replica_on, slot_of}
use Rattle.hay_legal.specs.Stands.{Contents, Outside}
use Rattle.hay_legal.specs.Statuses.{read_contents}
use Rattle.hay_volume.specs.Needles.{HasNeedleOf, LacksNeedleOf, LacksNeedleWithin}
use Rattle.hay_volume.proofs.Readings.{cell_begins}
use Rattle.hay_open.specs.Stored.{OpensAs, Stored as WasStored, last_cell, volume_file}
use Rattle.hay_logical.specs.Fits.{At, super_of}
use Rattle.hay_logical.specs.Needles.{HasLiveNeedle, HasLiveNeedles, IsToldBy, LacksCellAnew, LacksSeen}
use Rattle.hay_logical.specs.Seen.{IsFoundAs, ReplicaSeen, SeesAt, VolumeSeen}
use Rattle.hay_logical.specs.Sights.{AreSightsOf, AwaitsLook, IsLiveSight, IsSightOfLast, Looks, LooksAtPair, Sight, Sights}
use Rattle.hay_logical.specs.Sights.Sight.{Gone as WasGone, Live, Never, Unseen}
use Rattle.hay_cluster.specs.Needles.{AreToldAs, DeletesAsTold, FileAt, IsDamagedLookOn}
use Rattle.hay_cluster.specs.Passing.{StandsFor}
use Rattle.hay_cluster.specs.Seen.{ReadsEach, VolumeAt}
use Rattle.hay_cluster.specs.Sights.{ChangesPhotos, IsAbsent, LeavesSights}
use Rattle.hay_cluster.proofs.OpeningReads.{whole_stands}
use Rattle.hay_cluster.proofs.OpeningStore.{slot_below}
use Rattle.hay_cluster.proofs.Recorded.{HasLast, HasLastAt, IsLast, LacksLast, ShowsSeen, StandsSeen, lacking_unseen, one_deleted, record_within, seen_so, some_disk, standing_seen, standing_shows}
use Rattle.hay_run.specs.Causing.{BeginsAt, IsRestartText, Tally}
use Rattle.hay_run.proofs.Refuted.{LacksRecorded, Says, damage_so, deleted_over_a_damaged_needle, first_passed, gone_of_a_damaged_needle, photo_of_a_damaged_needle}
use Rattle.hay_run.proofs.Refuted.{sights_so, told_so, unreadable_where_a_photo_was_looked_at, unreadable_where_the_needle_stands}

-- PHOTOS WITHOUT A NEEDLE

-- a store whose opening saw a photo where no needle stands that is not deleted, on whatever disk
pub opened_on_a_photo_without_a_needle : (Tells : Type 0) (settings : Settings) (taken : Outside) (sure : ℕ → Bool) (tally : Tally) (pair : Pair) (v j at : ℕ) (volume : VolumeSeen) (r : ReplicaSeen)
    → Tells → v < settings.volumes → j < settings.replicas → At (tally.seen).volumes v volume → At volume.replicas j r → (tally.seen).places v pair j ≡ Live at
    → ((size : ℕ) → HasNeedleOf size false at (tally.contents (slot_of settings v j) (volume_file r.generation)) → ⊥) → BeginsAt Tells settings taken sure tally → ⊥
opened_on_a_photo_without_a_needle Tells settings taken sure tally pair v j at volume r tells low within there is live none begins = met (begins.live tells v j low within)
  where
    met : FileAt settings tally.contents tally.seen v j (λ o file. HasLiveNeedles ((tally.seen).places v) j file) → ⊥
    met (volume', there', (o, is', stand)) =
        let one : Some volume' ≡ Some volume = sym there' ∙ there in
        let same : volume' ≡ volume = cc in
        let two : Some o ≡ Some r = sym (subst (λ (w : VolumeSeen). At w.replicas j o) same is') ∙ is in
        let same_replica : o ≡ r = cc in
        let here : HasLiveNeedle (tally.contents (slot_of settings v j) (volume_file r.generation)) ((tally.seen).places v pair j) =
        subst (λ (x : ReplicaSeen). HasLiveNeedle (tally.contents (slot_of settings v j) (volume_file x.generation)) ((tally.seen).places v pair j)) same_replica (stand pair) in
        let has : HasLiveNeedle (tally.contents (slot_of settings v j) (volume_file r.generation)) (Live at) =
        subst (λ (s : Sight). HasLiveNeedle (tally.contents (slot_of settings v j) (volume_file r.generation)) s) live here in
        none has.0 has.1

-- behind such an opening of a disk of which no volume file has a needle that is not deleted, a look finds no photo
module _ (settings : Settings) (tally : Tally) (pair : Pair) (v j : ℕ) (none : (file size at : ℕ) → HasNeedleOf size false at (tally.contents (slot_of settings v j) file) → ⊥) where
  abbrev file : ReplicaSeen → List ℕ
  file o = tally.contents (slot_of settings v j) (volume_file o.generation)

  no_photo : (old new : Sight) (o o' : ReplicaSeen) → HasLiveNeedle (file o) old → IsToldBy (file o') old new → Looks old new → IsLiveSight new → ⊥
  no_photo old Never o o' was so looks live = live
  no_photo old WasGone o o' was so looks live = live
  no_photo old (Unseen at size) o o' was so looks live = live
  no_photo old (Live at) o o' was so (inl same) live =
      let has : HasLiveNeedle (file o) (Live at) = subst (λ (s : Sight). HasLiveNeedle (file o) s) (sym same) was in none (volume_file o.generation) has.0 at has.1
  no_photo Never (Live at) o o' was so (inr becomes) live = becomes
  no_photo WasGone (Live at) o o' was so (inr becomes) live = becomes
  no_photo (Live there) (Live at) o o' was so (inr becomes) live = becomes
  no_photo (Unseen there size) (Live at) o o' was so (inr becomes) live = none (volume_file o'.generation) size there so

  found_none : (behind : Sights) → FileAt settings tally.contents tally.seen v j (λ o bytes. HasLiveNeedles ((tally.seen).places v) j bytes)
      → FileAt settings tally.contents tally.seen v j (λ o bytes. IsToldBy bytes ((tally.seen).places v pair j) (behind pair j)) → Looks ((tally.seen).places v pair j) (behind pair j)
      → IsLiveSight (behind pair j) → ⊥
  found_none behind (w, at, (o, is, was)) (w', at', (o', is', so)) looks live = no_photo ((tally.seen).places v pair j) (behind pair j) o o' (was pair) so looks live

-- a photo that a replica showed, right behind the first opening, of whose disk no volume file has a needle that is not deleted
pub photo_of_a_disk_without_needles : (Tells : Type 0) (settings : Settings) (taken : Outside) (sure : ℕ → Bool) (before after : Tally) (pair : Pair) (cookie : Cookie) (v m f d j number : ℕ)
    (photo : List ℕ) → Tells → v < settings.volumes → j < settings.replicas → replica_on settings v m ≡ Some j
    → ((file size at : ℕ) → HasNeedleOf size false at (before.contents (slot_of settings v j) file) → ⊥) → BeginsAt Tells settings taken sure before
    → Says Tells settings before after (asks.Read pair cookie) number (Photo v m f d photo) → ⊥
photo_of_a_disk_without_needles Tells settings taken sure before after pair cookie v m f d j number photo tells low within on none begins says =
    shown (sights_so Tells settings before after (asks.Read pair cookie) number (Photo v m f d photo) says)
  where
    told : AreToldAs settings before.contents before.seen v pair ((after.seen).places v)
    told = told_so Tells settings before after (asks.Read pair cookie) number (Photo v m f d photo) tells says

    shown : LeavesSights settings (asks.Read pair cookie) (Photo v m f d photo) before.seen after.seen → ⊥
    shown (looked, (i, there, live)) =
        let same : Some i ≡ Some j = sym there ∙ on in
        let here : i ≡ j = cc in
        found_none settings before pair v j none ((after.seen).places v) (begins.live tells v j low within) (told j within) ((looked.changes).each j)
        (subst (λ k. IsLiveSight ((after.seen).places v pair k)) here live)

-- a deletion of a photo, where so it is of each replica's disk
pub deleted_of_disks_without_needles : (Tells : Type 0) (settings : Settings) (taken : Outside) (sure : ℕ → Bool) (before after : Tally) (pair : Pair) (v p d number : ℕ) → Tells
    → v < settings.volumes
    → ((j : ℕ) → j < settings.replicas → (file size at : ℕ) → HasNeedleOf size false at (before.contents (slot_of settings v j) file) → ⊥) → BeginsAt Tells settings taken sure before
    → Says Tells settings before after (asks.Del pair) number (Deleted v p d) → ⊥
deleted_of_disks_without_needles Tells settings taken sure before after pair v p d number tells low none begins says =
    let told : DeletesAsTold settings before.contents before.seen v pair ((after.seen).places v) = told_so Tells settings before after (asks.Del pair) number (Deleted v p d) tells says in
    let live = (told.finds).live in
    let j : ℕ = live.0 in
    found_none settings before pair v j (none j live.1) told.found (begins.live tells v j low live.1) (told.told j live.1) (((told.finds).looks).each j) live.2

-- DAMAGE OF WHOLE DISKS

-- damage is told where the place was that a look saw
stood_before : (place : ℕ) (old new : Sight) → Looks old new → StandsFor (Damage place) new → StandsFor (Damage place) old
stood_before place old new (inl same) stands = subst (λ (s : Sight). StandsFor (Damage place) s) same stands
stood_before place Never new (inr becomes) stands = absurd becomes
stood_before place (Live at) new (inr becomes) stands = absurd becomes
stood_before place WasGone new (inr becomes) stands = absurd becomes
stood_before place (Unseen at size) new (inr (inl live)) stands = subst (λ (s : Sight). StandsFor (Damage place) s) live stands
stood_before place (Unseen at size) new (inr (inr gone)) stands = absurd (subst (λ (s : Sight). StandsFor (Damage place) s) gone stands)

-- so it is the place of the last cell
stands_last : (place : ℕ) (o : Option Cell) (s : Sight) → IsSightOfLast o s → StandsFor (Damage place) s → (cell : Cell) × (o ≡ Some cell) × (place ≡ cell.at)
stands_last place (Some cell) Never is stands = absurd stands
stands_last place (Some cell) (Live at) is stands = (cell, refl, stands ∙ is.0)
stands_last place (Some cell) WasGone is stands = absurd stands
stands_last place (Some cell) (Unseen at size) is stands = (cell, refl, stands ∙ is.0)
stands_last place None Never is stands = absurd stands
stands_last place None (Live at) is stands = absurd is
stands_last place None WasGone is stands = absurd stands
stands_last place None (Unseen at size) is stands = absurd is

-- a read, right behind the first opening, that names damage of a whole disk where the last cell of the pair is not, whatever the other disks have
pub unreadable_elsewhere_at_first : (Tells : Type 0) (settings : Settings) (taken : Outside) (sure : ℕ → Bool) (before after : Tally) (pair : Pair) (cookie : Cookie) (v f d m j place number : ℕ)
    (s : WasStored) (causes : List Passed) → Tells → v < settings.volumes → j < settings.replicas → replica_on settings v m ≡ Some j
    → OpensAs (super_of settings v j) (read_contents taken (slot_of settings v j)) s → ((cell : Cell) → last_cell s.cells pair ≡ Some cell → place ≢ cell.at)
    → BeginsAt Tells settings taken sure before
    → Says Tells settings before after (asks.Read pair cookie) number (Unreadable v f d (record { machine = m; cause = Damage place } ∷ causes)) → ⊥
unreadable_elsewhere_at_first Tells settings taken sure before after pair cookie v f d m j place number s causes tells low within on opens other begins says =
    read (sights_so Tells settings before after (asks.Read pair cookie) number (Unreadable v f d (record { machine = m; cause = Damage place } ∷ causes)) says)
  where
    read : ChangesPhotos v (LooksAtPair pair) before.seen after.seen → ⊥
    read looked =
        let was = stood_before place ((before.seen).places v pair j) ((after.seen).places v pair j) ((looked.changes).each j)
        (first_passed Tells settings before after pair cookie v f d m j number (Damage place) causes on says) in
        let last = stands_last place (last_cell s.cells pair) ((before.seen).places v pair j) (((begins.reads tells).finds v j s low within opens).1 pair) was in
        other last.0 last.1 last.2

-- a deletion that met damage there
pub damaged_elsewhere_at_first : (Tells : Type 0) (settings : Settings) (taken : Outside) (sure : ℕ → Bool) (before after : Tally) (pair : Pair) (v m j place number : ℕ) (s : WasStored) → Tells
    → v < settings.volumes → j < settings.replicas → replica_on settings v m ≡ Some j
    → OpensAs (super_of settings v j) (read_contents taken (slot_of settings v j)) s → ((cell : Cell) → last_cell s.cells pair ≡ Some cell → place ≢ cell.at)
    → BeginsAt Tells settings taken sure before → Says Tells settings before after (asks.Del pair) number (Damaged v m place) → ⊥
damaged_elsewhere_at_first Tells settings taken sure before after pair v m j place number s tells low within on opens other begins says =
    met (damage_so Tells settings before after (asks.Del pair) number (Damaged v m place) tells says v m place refl)
  where
    stands : (file : List ℕ) (x : Sight) → LacksSeen file place x → StandsFor (Damage place) x
    stands file Never lacks = lacks
    stands file (Live at) lacks = absurd lacks
    stands file WasGone lacks = lacks
    stands file (Unseen at size) lacks = lacks.0

    met : IsDamagedLookOn settings before.contents before.seen v pair m place → ⊥
    met (i, on', (w, there, (r, is, lacks))) =
        let same : Some i ≡ Some j = sym on' ∙ on in
        let here : i ≡ j = cc in
        let was : StandsFor (Damage place) ((before.seen).places v pair i) =
        stands (before.contents (slot_of settings v i) (volume_file r.generation)) ((before.seen).places v pair i) lacks in
        let last = stands_last place (last_cell s.cells pair) ((before.seen).places v pair j) (((begins.reads tells).finds v j s low within opens).1 pair)
        (subst (λ k. StandsFor (Damage place) ((before.seen).places v pair k)) here was) in
        other last.0 last.1 last.2

-- a read that names damage of a replica whose needle stands, or was seen
unreadable_over_a_needle : (Tells : Type 0) (settings : Settings) (before after : Tally) (pair : Pair) (cookie : Cookie) (v f d m j place number : ℕ) (causes : List Passed) → Tells
    → v < settings.volumes → j < settings.replicas → replica_on settings v m ≡ Some j
    → FileAt settings before.contents before.seen v j (λ r file. StandsSeen file ((before.seen).places v pair j))
    → Says Tells settings before after (asks.Read pair cookie) number (Unreadable v f d (record { machine = m; cause = Damage place } ∷ causes)) → ⊥
unreadable_over_a_needle Tells settings before after pair cookie v f d m j place number causes tells low within on (w, there, (r, is, stands)) says =
    by_sight ((before.seen).places v pair j) refl stands stood
  where
    file : List ℕ
    file = before.contents (slot_of settings v j) (volume_file r.generation)

    stood : StandsFor (Damage place) ((before.seen).places v pair j)
    stood = read (sights_so Tells settings before after (asks.Read pair cookie) number (Unreadable v f d (record { machine = m; cause = Damage place } ∷ causes)) says)
      where
        read : ChangesPhotos v (LooksAtPair pair) before.seen after.seen → StandsFor (Damage place) ((before.seen).places v pair j)
        read looked =
            stood_before place ((before.seen).places v pair j) ((after.seen).places v pair j) ((looked.changes).each j)
            (first_passed Tells settings before after pair cookie v f d m j number (Damage place) causes on says)

    by_sight : (x : Sight) → (before.seen).places v pair j ≡ x → StandsSeen file x → StandsFor (Damage place) x → ⊥
    by_sight Never seen so damage = damage
    by_sight WasGone seen so damage = damage
    by_sight (Live at) seen so damage =
        unreadable_where_a_photo_was_looked_at Tells settings before after pair cookie v f d m j place number causes tells on (subst (λ (x : Sight). IsLiveSight x) (sym seen) tt) says
    by_sight (Unseen at size) seen so damage =
        unreadable_where_the_needle_stands Tells settings before after pair cookie v f d m j at size place number r causes tells low within on (w, there, is) seen
        (record { needle = needle_of_cell (so.1).cell; begins = cell_begins at file (so.1).cell (so.1).stands; long = (so.1).size_is }) says

-- a deletion that met damage of such a replica
damaged_over_a_needle : (Tells : Type 0) (settings : Settings) (before after : Tally) (pair : Pair) (v m j place number : ℕ) → Tells → replica_on settings v m ≡ Some j
    → FileAt settings before.contents before.seen v j (λ r file. StandsSeen file ((before.seen).places v pair j))
    → Says Tells settings before after (asks.Del pair) number (Damaged v m place) → ⊥
damaged_over_a_needle Tells settings before after pair v m j place number tells on (w, there, (r, is, stands)) says =
    met (damage_so Tells settings before after (asks.Del pair) number (Damaged v m place) tells says v m place refl)
  where
    file : ReplicaSeen → List ℕ
    file o = before.contents (slot_of settings v j) (volume_file o.generation)

    by_sight : (x : Sight) → StandsSeen (file r) x → LacksSeen (file r) place x → ⊥
    by_sight Never so lacks = lacks
    by_sight WasGone so lacks = lacks
    by_sight (Live at) so lacks = lacks
    by_sight (Unseen at size) so lacks = lacks.1 (needle_of_cell (so.1).cell) (cell_begins at (file r) (so.1).cell (so.1).stands) (so.1).size_is

    met : IsDamagedLookOn settings before.contents before.seen v pair m place → ⊥
    met (i, on', (w', there', (r', is', lacks))) =
        let same : Some i ≡ Some j = sym on' ∙ on in
        let here : i ≡ j = cc in
        let one : Some w' ≡ Some w = sym there' ∙ there in
        let same_volume : w' ≡ w = cc in
        let on_volume : At w.replicas i r' = subst (λ (o : VolumeSeen). At o.replicas i r') same_volume is' in
        let two : Some r' ≡ Some r = sym (subst (λ k. At w.replicas k r') here on_volume) ∙ is in
        let same_replica : r' ≡ r = cc in
        let at_slot : LacksSeen (file r') place ((before.seen).places v pair j) =
        subst (λ k. LacksSeen (before.contents (slot_of settings v k) (volume_file r'.generation)) place ((before.seen).places v pair k)) here lacks in
        by_sight ((before.seen).places v pair j) stands (subst (λ (o : ReplicaSeen). LacksSeen (file o) place ((before.seen).places v pair j)) same_replica at_slot)

-- a read, right behind a restart, that names damage of a disk that is whole then, at whatever place and whatever the other disks have
pub unreadable_behind_a_restart : (Tells : Type 0) (settings : Settings) (before mid after : Tally) (pair : Pair) (cookie : Cookie) (v f d m j place pick first number : ℕ)
    (text : List ℕ) (s : WasStored)
    (causes : List Passed) → Tells → v < settings.volumes → j < settings.replicas → replica_on settings v m ≡ Some j
    → OpensAs (super_of settings v j) (mid.contents (slot_of settings v j)) s → IsRestartText Tells settings before mid (asks.Restart pick) first text
    → Says Tells settings mid after (asks.Read pair cookie) number (Unreadable v f d (record { machine = m; cause = Damage place } ∷ causes)) → ⊥
unreadable_behind_a_restart Tells settings before mid after pair cookie v f d m j place pick first number text s causes tells low within on opens
    (p, rows, notes, asked, large, tells_all, fits, opens_all, many, arms, text_is, again) says =
    found (((again tells).reads).finds v j s low within opens)
  where
    file : ReplicaSeen → List ℕ
    file o = mid.contents (slot_of settings v j) (volume_file o.generation)

    by_sight : (r : ReplicaSeen) → r.generation ≡ s.generation → (o : Option Cell) → last_cell s.cells pair ≡ o → (x : Sight) → IsSightOfLast o x → StandsSeen (file r) x
    by_sight r made o last Never so = tt
    by_sight r made o last WasGone so = tt
    by_sight r made o last (Live at) so = tt
    by_sight r made None last (Unseen at size) so = absurd so
    by_sight r made (Some cell) last (Unseen at size) so =
        let bytes : List ℕ = mid.contents (slot_of settings v j) (volume_file s.generation) in
        let has : HasNeedleOf (length cell.bytes) cell.deleted cell.at bytes = whole_stands (super_of settings v j) (mid.contents (slot_of settings v j)) s pair cell opens last in (
          cell.deleted,
          subst (λ g. HasNeedleOf size cell.deleted at (mid.contents (slot_of settings v j) (volume_file g))) (sym made)
              (subst (λ n. HasNeedleOf n cell.deleted at bytes) (sym so.1) (subst (λ n. HasNeedleOf (length cell.bytes) cell.deleted n bytes) (sym so.0) has)),
        )

    found : VolumeAt v (SeesAt j (IsFoundAs s)) mid.seen × AreSightsOf s ((mid.seen).places v) j → ⊥
    found ((w, there, (r, is, found_as)), sights) =
        unreadable_over_a_needle Tells settings mid after pair cookie v f d m j place number causes tells low within on
        (w, there, (r, is, by_sight r found_as.1 (last_cell s.cells pair) refl ((mid.seen).places v pair j) (sights pair))) says

-- DISKS THAT ARE NEITHER VOID NOR WHOLE

-- A photo that the index records, of which no needle stands, is not looked at behind an opening.
recorded_unseen : (settings : Settings) (tally : Tally) (pair : Pair) (v j : ℕ) → v < settings.volumes → j < settings.replicas
    → LacksLast (super_of settings v j) (tally.contents (slot_of settings v j)) pair → ReadsEach settings tally.contents tally.seen → LacksRecorded settings tally v j pair
recorded_unseen settings tally pair v j low within (d, lacks) reads =
    lacking (seen_so settings tally.contents tally.seen pair v j low within d (λ end file x. (x ≡ Unseen d.one.at d.one.size) × LacksNeedleOf d.one.size d.one.at file)
    (λ x so. (lacking_unseen (super_of settings v j) (tally.contents (slot_of settings v j)) pair d lacks x so, lacks)) reads)
  where
    lacking : FileAt settings tally.contents tally.seen v j (λ r file. ((tally.seen).places v pair j ≡ Unseen d.one.at d.one.size) × LacksNeedleOf d.one.size d.one.at file)
        → LacksRecorded settings tally v j pair
    lacking (volume, there, (r, is, (unseen, none))) =
        record { within = within; place = d.one.at; size = d.one.size; unseen = unseen; volume = volume; there = there; replica = r; is = is; lacks = none }

-- what a first opening of such a disk reads is what was there
kept_at_first : (Tells : Type 0) (settings : Settings) (taken : Outside) (sure : ℕ → Bool) (tally : Tally) (pair : Pair) (v j : ℕ) → Tells → v < settings.volumes → j < settings.replicas
    → IsLast (super_of settings v j) (read_contents taken (slot_of settings v j)) pair → BeginsAt Tells settings taken sure tally
    → tally.contents (slot_of settings v j) ≡ read_contents taken (slot_of settings v j)
kept_at_first Tells settings taken sure tally pair v j tells low within d begins =
    fun_ext (λ file. begins.contents tells (slot_of settings v j) file (slot_below settings v j low within)
    (some_disk (super_of settings v j) (read_contents taken (slot_of settings v j)) pair d))

recorded_at_first : (Tells : Type 0) (settings : Settings) (taken : Outside) (sure : ℕ → Bool) (before : Tally) (pair : Pair) (v j : ℕ) → Tells → v < settings.volumes → j < settings.replicas
    → LacksLast (super_of settings v j) (read_contents taken (slot_of settings v j)) pair → BeginsAt Tells settings taken sure before → LacksRecorded settings before v j pair
recorded_at_first Tells settings taken sure before pair v j tells low within lacks begins =
    recorded_unseen settings before pair v j low within
    (subst (λ (contents : Contents). LacksLast (super_of settings v j) contents pair) (sym (kept_at_first Tells settings taken sure before pair v j tells low within lacks.0 begins)) lacks)
    (begins.reads_each tells)

-- a photo that a replica showed right behind the first opening, whose needle is damaged
pub photo_of_a_damaged_needle_at_first : (Tells : Type 0) (settings : Settings) (taken : Outside) (sure : ℕ → Bool) (before after : Tally) (pair : Pair) (cookie : Cookie) (v m f d j number : ℕ)
    (photo : List ℕ) → Tells → v < settings.volumes → j < settings.replicas → replica_on settings v m ≡ Some j
    → LacksLast (super_of settings v j) (read_contents taken (slot_of settings v j)) pair → BeginsAt Tells settings taken sure before
    → Says Tells settings before after (asks.Read pair cookie) number (Photo v m f d photo) → ⊥
photo_of_a_damaged_needle_at_first Tells settings taken sure before after pair cookie v m f d j number photo tells low within on lacks begins says =
    photo_of_a_damaged_needle Tells settings before after pair cookie v m f d j number photo tells on
    (recorded_at_first Tells settings taken sure before pair v j tells low within lacks begins) says

-- one that was told as gone by such a replica
pub gone_of_a_damaged_needle_at_first : (Tells : Type 0) (settings : Settings) (taken : Outside) (sure : ℕ → Bool) (before after : Tally) (pair : Pair) (cookie : Cookie) (v m f d j number : ℕ)
    → Tells → v < settings.volumes → j < settings.replicas → replica_on settings v m ≡ Some j
    → LacksLast (super_of settings v j) (read_contents taken (slot_of settings v j)) pair → BeginsAt Tells settings taken sure before
    → Says Tells settings before after (asks.Read pair cookie) number (Gone v m f d) → ⊥
gone_of_a_damaged_needle_at_first Tells settings taken sure before after pair cookie v m f d j number tells low within on lacks begins says =
    gone_of_a_damaged_needle Tells settings before after pair cookie v m f d j number tells on
    (recorded_at_first Tells settings taken sure before pair v j tells low within lacks begins) says

-- a deletion of a photo of which a replica's needle is damaged
pub deleted_over_a_damaged_needle_at_first : (Tells : Type 0) (settings : Settings) (taken : Outside) (sure : ℕ → Bool) (before after : Tally) (pair : Pair) (v p d j number : ℕ) → Tells
    → v < settings.volumes → j < settings.replicas → LacksLast (super_of settings v j) (read_contents taken (slot_of settings v j)) pair → BeginsAt Tells settings taken sure before
    → Says Tells settings before after (asks.Del pair) number (Deleted v p d) → ⊥
deleted_over_a_damaged_needle_at_first Tells settings taken sure before after pair v p d j number tells low within lacks begins says =
    deleted_over_a_damaged_needle Tells settings before after pair v p d j number tells (recorded_at_first Tells settings taken sure before pair v j tells low within lacks begins) says

-- a photo that such a replica showed right behind a restart
pub photo_of_a_damaged_needle_behind_a_restart : (Tells : Type 0) (settings : Settings) (before mid after : Tally) (pair : Pair) (cookie : Cookie) (v m f d j pick first number : ℕ)
    (text photo : List ℕ) → Tells → v < settings.volumes → j < settings.replicas → replica_on settings v m ≡ Some j
    → LacksLast (super_of settings v j) (mid.contents (slot_of settings v j)) pair → IsRestartText Tells settings before mid (asks.Restart pick) first text
    → Says Tells settings mid after (asks.Read pair cookie) number (Photo v m f d photo) → ⊥
photo_of_a_damaged_needle_behind_a_restart Tells settings before mid after pair cookie v m f d j pick first number text photo tells low within on lacks
    (p, rows, notes, asked, large, tells_all, fits, opens_all, many, arms, text_is, again) says =
    photo_of_a_damaged_needle Tells settings mid after pair cookie v m f d j number photo tells on (recorded_unseen settings mid pair v j low within lacks (again tells).reads_each) says

-- On a disk where the last recorded needle of the pair stands an opening sees it so.
standing_so : (settings : Settings) (tally : Tally) (pair : Pair) (v j : ℕ) (deleted : Bool) → v < settings.volumes → j < settings.replicas
    → HasLast (super_of settings v j) (tally.contents (slot_of settings v j)) pair deleted → ReadsEach settings tally.contents tally.seen
    → FileAt settings tally.contents tally.seen v j (λ r file. StandsSeen file ((tally.seen).places v pair j))
standing_so settings tally pair v j deleted low within (d, has) reads =
    seen_so settings tally.contents tally.seen pair v j low within d (λ end file x. StandsSeen file x)
    (standing_seen (super_of settings v j) (tally.contents (slot_of settings v j)) pair d deleted has) reads

standing_at_first : (Tells : Type 0) (settings : Settings) (taken : Outside) (sure : ℕ → Bool) (before : Tally) (pair : Pair) (v j : ℕ) (deleted : Bool) → Tells
    → v < settings.volumes → j < settings.replicas
    → HasLast (super_of settings v j) (read_contents taken (slot_of settings v j)) pair deleted → BeginsAt Tells settings taken sure before
    → HasLast (super_of settings v j) (before.contents (slot_of settings v j)) pair deleted
standing_at_first Tells settings taken sure before pair v j deleted tells low within has begins =
    subst (λ (contents : Contents). HasLast (super_of settings v j) contents pair deleted) (sym (kept_at_first Tells settings taken sure before pair v j tells low within has.0 begins)) has

-- a read, right behind the first opening, that names damage of such a disk, at whatever place and whatever else of the disk is damaged
pub unreadable_over_a_needle_at_first : (Tells : Type 0) (settings : Settings) (taken : Outside) (sure : ℕ → Bool) (before after : Tally) (pair : Pair) (cookie : Cookie)
    (v f d m j place number : ℕ) (deleted : Bool) (causes : List Passed) → Tells → v < settings.volumes → j < settings.replicas → replica_on settings v m ≡ Some j
    → HasLast (super_of settings v j) (read_contents taken (slot_of settings v j)) pair deleted → BeginsAt Tells settings taken sure before
    → Says Tells settings before after (asks.Read pair cookie) number (Unreadable v f d (record { machine = m; cause = Damage place } ∷ causes)) → ⊥
unreadable_over_a_needle_at_first Tells settings taken sure before after pair cookie v f d m j place number deleted causes tells low within on has begins says =
    unreadable_over_a_needle Tells settings before after pair cookie v f d m j place number causes tells low within on
    (standing_so settings before pair v j deleted low within (standing_at_first Tells settings taken sure before pair v j deleted tells low within has begins) (begins.reads_each tells)) says

-- or right behind a restart
pub unreadable_over_a_needle_behind_a_restart : (Tells : Type 0) (settings : Settings) (before mid after : Tally) (pair : Pair) (cookie : Cookie)
    (v f d m j place pick first number : ℕ) (text : List ℕ) (deleted : Bool) (causes : List Passed) → Tells → v < settings.volumes → j < settings.replicas
    → replica_on settings v m ≡ Some j
    → HasLast (super_of settings v j) (mid.contents (slot_of settings v j)) pair deleted → IsRestartText Tells settings before mid (asks.Restart pick) first text
    → Says Tells settings mid after (asks.Read pair cookie) number (Unreadable v f d (record { machine = m; cause = Damage place } ∷ causes)) → ⊥
unreadable_over_a_needle_behind_a_restart Tells settings before mid after pair cookie v f d m j place pick first number text deleted causes tells low within on has
    (p, rows, notes, asked, large, tells_all, fits, opens_all, many, arms, text_is, again) says =
    unreadable_over_a_needle Tells settings mid after pair cookie v f d m j place number causes tells low within on
    (standing_so settings mid pair v j deleted low within has (again tells).reads_each) says

-- a deletion that met damage of such a disk
pub damaged_over_a_needle_at_first : (Tells : Type 0) (settings : Settings) (taken : Outside) (sure : ℕ → Bool) (before after : Tally) (pair : Pair) (v m j place number : ℕ)
    (deleted : Bool) → Tells → v < settings.volumes → j < settings.replicas → replica_on settings v m ≡ Some j
    → HasLast (super_of settings v j) (read_contents taken (slot_of settings v j)) pair deleted → BeginsAt Tells settings taken sure before
    → Says Tells settings before after (asks.Del pair) number (Damaged v m place) → ⊥
damaged_over_a_needle_at_first Tells settings taken sure before after pair v m j place number deleted tells low within on has begins says =
    damaged_over_a_needle Tells settings before after pair v m j place number tells on
    (standing_so settings before pair v j deleted low within (standing_at_first Tells settings taken sure before pair v j deleted tells low within has begins) (begins.reads_each tells)) says

-- a compaction that met damage where the needle stands that is recorded last of a pair
compact_damaged_over_a_needle : (Tells : Type 0) (settings : Settings) (before after : Tally) (pair : Pair) (v m j place number : ℕ) (deleted : Bool) → Tells
    → v < settings.volumes → j < settings.replicas → replica_on settings v m ≡ Some j
    → HasLastAt place (super_of settings v j) (before.contents (slot_of settings v j)) pair deleted → ReadsEach settings before.contents before.seen
    → Says Tells settings before after (asks.Compact v m) number (Damaged v m place) → ⊥
compact_damaged_over_a_needle Tells settings before after pair v m j place number deleted tells low within on ((last, has), here) reads says =
    met (seen_so settings before.contents before.seen pair v j low within last IsHere (λ x so. (record_within (super_of settings v j) (before.contents (slot_of settings v j)) pair last, has)) reads)
    (damage_so Tells settings before after (asks.Compact v m) number (Damaged v m place) tells says m place refl j on)
  where
    IsHere : ℕ → List ℕ → Sight → Type 0
    IsHere end file x = (last.one.at + needle_total last.one.size ≤ end) × HasNeedleOf last.one.size deleted last.one.at file

    file : ReplicaSeen → List ℕ
    file o = before.contents (slot_of settings v j) (volume_file o.generation)

    met : FileAt settings before.contents before.seen v j (λ r bytes. IsHere r.end bytes ((before.seen).places v pair j))
        → FileAt settings before.contents before.seen v j (λ r bytes. LacksCellAnew ((before.seen).places v) j place r bytes) → ⊥
    met (w, there, (r, is, (ends, stands))) (w', there', (r', is', lacks)) =
        let one : Some w' ≡ Some w = sym there' ∙ there in
        let same : w' ≡ w = cc in
        let two : Some r' ≡ Some r = sym (subst (λ (o : VolumeSeen). At o.replicas j r') same is') ∙ is in
        let same_replica : r' ≡ r = cc in
        let none : LacksNeedleWithin r.end last.one.at (file r) =
        subst (λ n. LacksNeedleWithin r.end n (file r)) (sym here) (subst (λ (o : ReplicaSeen). LacksNeedleWithin o.end place (file o)) same_replica lacks.lacks) in
        none (needle_of_cell stands.cell) (cell_begins last.one.at (file r) stands.cell stands.stands)
        (subst (λ n. last.one.at + needle_total n ≤ r.end) (sym stands.size_is) ends)

-- right behind the first opening
pub compact_damaged_over_a_needle_at_first : (Tells : Type 0) (settings : Settings) (taken : Outside) (sure : ℕ → Bool) (before after : Tally) (pair : Pair)
    (v m j place number : ℕ) (deleted : Bool) → Tells → v < settings.volumes → j < settings.replicas → replica_on settings v m ≡ Some j
    → HasLastAt place (super_of settings v j) (read_contents taken (slot_of settings v j)) pair deleted → BeginsAt Tells settings taken sure before
    → Says Tells settings before after (asks.Compact v m) number (Damaged v m place) → ⊥
compact_damaged_over_a_needle_at_first Tells settings taken sure before after pair v m j place number deleted tells low within on has begins says =
    compact_damaged_over_a_needle Tells settings before after pair v m j place number deleted tells low within on
    (subst (λ (contents : Contents). HasLastAt place (super_of settings v j) contents pair deleted)
    (sym (kept_at_first Tells settings taken sure before pair v j tells low within has.0.0 begins)) has) (begins.reads_each tells) says

-- or right behind a restart
pub compact_damaged_over_a_needle_behind_a_restart : (Tells : Type 0) (settings : Settings) (before mid after : Tally) (pair : Pair) (v m j place pick first number : ℕ)
    (text : List ℕ) (deleted : Bool) → Tells → v < settings.volumes → j < settings.replicas → replica_on settings v m ≡ Some j
    → HasLastAt place (super_of settings v j) (mid.contents (slot_of settings v j)) pair deleted → IsRestartText Tells settings before mid (asks.Restart pick) first text
    → Says Tells settings mid after (asks.Compact v m) number (Damaged v m place) → ⊥
compact_damaged_over_a_needle_behind_a_restart Tells settings before mid after pair v m j place pick first number text deleted tells low within on has
    (p, rows, notes, asked, large, tells_all, fits, opens_all, many, arms, text_is, again) says =
    compact_damaged_over_a_needle Tells settings mid after pair v m j place number deleted tells low within on has (again tells).reads_each says

-- Behind looks at a pair it is not absent on a replica on whose disk the needle stands that is recorded last, and is not deleted.
shown_still : (settings : Settings) (before : Tally) (pair : Pair) (v j : ℕ) (behind : Sights) → v < settings.volumes → j < settings.replicas
    → HasLast (super_of settings v j) (before.contents (slot_of settings v j)) pair false → ReadsEach settings before.contents before.seen
    → AreToldAs settings before.contents before.seen v pair behind → Looks ((before.seen).places v pair j) (behind pair j) → IsAbsent (behind pair j) → ⊥
shown_still settings before pair v j behind low within (last, has) reads told =
    both (seen_so settings before.contents before.seen pair v j low within last (λ end file x. ShowsSeen file x)
    (standing_shows (super_of settings v j) (before.contents (slot_of settings v j)) pair last has) reads) (told j within)
  where
    by_sight : (file : List ℕ) (old new : Sight) → ShowsSeen file old → IsToldBy file old new → Looks old new → IsAbsent new → ⊥
    by_sight file Never new stands so looks none = stands
    by_sight file WasGone new stands so looks none = stands
    by_sight file (Live at) new stands so (inl same) none = subst (λ (s : Sight). IsAbsent s) same none
    by_sight file (Live at) new stands so (inr becomes) none = becomes
    by_sight file (Unseen at size) new stands so (inl same) none = subst (λ (s : Sight). IsAbsent s) same none
    by_sight file (Unseen at size) new stands so (inr (inl live)) none = subst (λ (s : Sight). IsAbsent s) live none
    by_sight file (Unseen at size) new stands so (inr (inr gone)) none =
        one_deleted size at file stands (subst (λ (s : Sight). IsToldBy file (Unseen at size) s) gone so)

    both : FileAt settings before.contents before.seen v j (λ r file. ShowsSeen file ((before.seen).places v pair j))
        → FileAt settings before.contents before.seen v j (λ r file. IsToldBy file ((before.seen).places v pair j) (behind pair j))
        → Looks ((before.seen).places v pair j) (behind pair j) → IsAbsent (behind pair j) → ⊥
    both (w, there, (r, is, stands)) (w', there', (r', is', so)) looks none =
        let one : Some w' ≡ Some w = sym there' ∙ there in
        let same : w' ≡ w = cc in
        let two : Some r' ≡ Some r = sym (subst (λ (o : VolumeSeen). At o.replicas j r') same is') ∙ is in
        let same_replica : r' ≡ r = cc in
        by_sight (before.contents (slot_of settings v j) (volume_file r.generation)) ((before.seen).places v pair j) (behind pair j) stands
        (subst (λ (o : ReplicaSeen). IsToldBy (before.contents (slot_of settings v j) (volume_file o.generation)) ((before.seen).places v pair j) (behind pair j)) same_replica so)
        looks none

-- a photo that was told as gone by such a replica
gone_over_a_needle : (Tells : Type 0) (settings : Settings) (before after : Tally) (pair : Pair) (cookie : Cookie) (v m f d j number : ℕ) → Tells → v < settings.volumes
    → j < settings.replicas → replica_on settings v m ≡ Some j
    → HasLast (super_of settings v j) (before.contents (slot_of settings v j)) pair false → ReadsEach settings before.contents before.seen
    → Says Tells settings before after (asks.Read pair cookie) number (Gone v m f d) → ⊥
gone_over_a_needle Tells settings before after pair cookie v m f d j number tells low within on has reads says =
    shown (sights_so Tells settings before after (asks.Read pair cookie) number (Gone v m f d) says)
  where
    shown : LeavesSights settings (asks.Read pair cookie) (Gone v m f d) before.seen after.seen → ⊥
    shown (looked, (i, there, none)) =
        let same : Some i ≡ Some j = sym there ∙ on in
        let here : i ≡ j = cc in
        shown_still settings before pair v j ((after.seen).places v) low within has reads (told_so Tells settings before after (asks.Read pair cookie) number (Gone v m f d) tells says)
        ((looked.changes).each j) (subst (λ k. IsAbsent ((after.seen).places v pair k)) here none)

-- right behind the first opening
pub gone_over_a_needle_at_first : (Tells : Type 0) (settings : Settings) (taken : Outside) (sure : ℕ → Bool) (before after : Tally) (pair : Pair) (cookie : Cookie)
    (v m f d j number : ℕ) → Tells → v < settings.volumes → j < settings.replicas → replica_on settings v m ≡ Some j
    → HasLast (super_of settings v j) (read_contents taken (slot_of settings v j)) pair false → BeginsAt Tells settings taken sure before
    → Says Tells settings before after (asks.Read pair cookie) number (Gone v m f d) → ⊥
gone_over_a_needle_at_first Tells settings taken sure before after pair cookie v m f d j number tells low within on has begins says =
    gone_over_a_needle Tells settings before after pair cookie v m f d j number tells low within on
    (standing_at_first Tells settings taken sure before pair v j false tells low within has begins) (begins.reads_each tells) says

-- or right behind a restart
pub gone_over_a_needle_behind_a_restart : (Tells : Type 0) (settings : Settings) (before mid after : Tally) (pair : Pair) (cookie : Cookie) (v m f d j pick first number : ℕ)
    (text : List ℕ) → Tells → v < settings.volumes → j < settings.replicas → replica_on settings v m ≡ Some j
    → HasLast (super_of settings v j) (mid.contents (slot_of settings v j)) pair false → IsRestartText Tells settings before mid (asks.Restart pick) first text
    → Says Tells settings mid after (asks.Read pair cookie) number (Gone v m f d) → ⊥
gone_over_a_needle_behind_a_restart Tells settings before mid after pair cookie v m f d j pick first number text tells low within on has
    (p, rows, notes, asked, large, tells_all, fits, opens_all, many, arms, text_is, again) says =
    gone_over_a_needle Tells settings mid after pair cookie v m f d j number tells low within on has (again tells).reads_each says

-- a deletion that found no photo where such a replica is
absent_over_a_needle : (Tells : Type 0) (settings : Settings) (before after : Tally) (pair : Pair) (v f d j number : ℕ) → Tells → v < settings.volumes → j < settings.replicas
    → HasLast (super_of settings v j) (before.contents (slot_of settings v j)) pair false → ReadsEach settings before.contents before.seen
    → Says Tells settings before after (asks.Del pair) number (Absent v f d) → ⊥
absent_over_a_needle Tells settings before after pair v f d j number tells low within has reads says =
    found (sights_so Tells settings before after (asks.Del pair) number (Absent v f d) says)
  where
    absent : (s : Sight) → (IsLiveSight s → ⊥) → (AwaitsLook s → ⊥) → IsAbsent s
    absent Never none seen = tt
    absent (Live at) none seen = none tt
    absent WasGone none seen = tt
    absent (Unseen at size) none seen = seen tt

    found : LeavesSights settings (asks.Del pair) (Absent v f d) before.seen after.seen → ⊥
    found changes =
        let finds = changes.changes in
        shown_still settings before pair v j ((after.seen).places v) low within has reads (told_so Tells settings before after (asks.Del pair) number (Absent v f d) tells says)
        ((finds.looks).each j) (absent ((after.seen).places v pair j) (λ live. finds.none (j, within, live)) (finds.all j within))

pub absent_over_a_needle_at_first : (Tells : Type 0) (settings : Settings) (taken : Outside) (sure : ℕ → Bool) (before after : Tally) (pair : Pair) (v f d j number : ℕ) → Tells
    → v < settings.volumes → j < settings.replicas
    → HasLast (super_of settings v j) (read_contents taken (slot_of settings v j)) pair false → BeginsAt Tells settings taken sure before
    → Says Tells settings before after (asks.Del pair) number (Absent v f d) → ⊥
absent_over_a_needle_at_first Tells settings taken sure before after pair v f d j number tells low within has begins says =
    absent_over_a_needle Tells settings before after pair v f d j number tells low within
    (standing_at_first Tells settings taken sure before pair v j false tells low within has begins) (begins.reads_each tells) says
