-- What a store's answer to a batch is, by what is stored on its disks.
use Rattle.std.proofs.Common.{◌≡◌, ◌⊎◌, inl, inr, ◌<◌, ◌+◌, ◌-◌, ◌^◌, min, ℕ, List, ◌++◌, length, map, All, None, Result, Err, refl, sym, ap, subst, ◌∙◌, arith, length-append}
use Rattle.std.proofs.lemmas.Bool.{cond-true, cond-false}
use Rattle.std.proofs.lemmas.Bool.Decides.{eqb_tells}
use Rattle.std.proofs.lemmas.List.{length-map}
use Rattle.std.specs.Prelude.{IfErr}
use Rattle.hay_needle.specs.declared.settings.Settings.{Settings}
use Rattle.hay_disk.specs.Disk.{Files}
use Rattle.hay_dirfile.specs.declared.row.DirRow.{DirRow}
use Rattle.hay_volume.specs.declared.volume.VolumeFile.{VolumeFile}
use Rattle.hay_batch.specs.declared.fault.FullTry.{FullTry}
use Rattle.hay_batch.specs.declared.fault.LoadFault.{LoadFault}
use Rattle.hay_batch.specs.declared.load.Loaded.{Loaded as LoadedRows}
use Rattle.hay_batch.specs.declared.photo.NewPhoto.{NewPhoto}
use Rattle.hay_batch.specs.declared.replica.LoadReplica.{LoadReplica}
use Rattle.hay_batch.specs.declared.store.LoadStore.{LoadStore}
use Rattle.hay_batch.specs.Batches.{batch_total, new_row}
use Rattle.hay_batch.specs.Directories.{IsFirstHome}
use Rattle.hay_batch.specs.Homes.{AddsHomes, AreHomes, home_among}
use Rattle.hay_batch.specs.Replicas.{HasRoom}
use Rattle.hay_batch.specs.Shelves.{LeavesBatch, MayLeaveDisks, OpensStore, StandsAs, StoredStore, with_stored}
use Rattle.hay_batch.specs.Stores.{AreTries, IsDiskFault, IsFirstRoom, IsShaped, IsTargetOf, IsTry, MovesEnds, ReplicaAt}
use Rattle.hay_batch.proofs.HomeLaws.{homes_more}
use Rattle.hay_batch.proofs.Lists.{at_below, at_there}
use Rattle.hay_batch.proofs.Loading.{replica_there, within_settings}
use Rattle.hay_load.specs.declared.reply.LoadReply.{LoadReply}
use Rattle.hay_load.specs.declared.reply.LoadReply.TheVariants.{Loaded, Known}
use Rattle.hay_load.specs.Answers.{AreHomeless, AreTriesIn, FitsOn, IsFirstHomeIn, IsFirstRoomIn, IsNotLoaded, IsTryIn, MayLoad, Remembered, counted, remembered_of, with_remembered}
use Rattle.hay_load.specs.Gathering.{key_of}
use Rattle.hay_load.specs.Loads.{Answered, LeavesNew, Remembers, Suited}
use Rattle.hay_load.specs.Replies.{full_reply}
use Rattle.hay_load.proofs.Taking.{kept_known, left_untouched}

-- HOMES

pub first_home_in : (homes : List ((ℕ × ℕ) × ℕ)) (rows : List DirRow) (photos : List NewPhoto) (volume : ℕ) → AreHomes homes rows → IsFirstHome homes photos volume → IsFirstHomeIn rows photos volume
first_home_in homes rows photos volume are first = record {
  at = first.at;
  photo = first.photo;
  there = first.there;
  home = sym (are.are first.photo.pair) ∙ first.home;
  before = λ i other low there. sym (are.are other.pair) ∙ first.before i other low there;
}

pub homeless_in : (homes : List ((ℕ × ℕ) × ℕ)) (rows : List DirRow) (photos : List NewPhoto) → AreHomes homes rows
    → All (λ (photo : NewPhoto). home_among homes photo.pair ≡ None) photos → AreHomeless rows photos
homeless_in homes rows photos are none = λ i default below. sym (are.are _) ∙ none i default below

-- WHAT IS STORED IS REMEMBERED

pub stands_remembers : {D : Type 0} (files : D → Files) (s : StoredStore) (store : LoadStore D) → StandsAs files store s → Remembers store (remembered_of s)
stands_remembers files s store stands = record {
  homes = stands.contents.directory.homes;
  count = ap (λ (n : ℕ). counted n) stands.contents.directory.count;
  ends = λ v j r there. ap (λ (x : VolumeFile). x.end) (stands.replicas v j r there).volume;
  rooms = λ v j r there. ap (λ (x : VolumeFile). x.capacity) (stands.replicas v j r there).volume;
}

-- ROOM

module _ {D : Type 0} (known : Remembered) (store : LoadStore D) (shape : IsShaped store) (was : Remembers store known) where
  fits_on : (need v j : ℕ) (r : LoadReplica D) → ReplicaAt store v j r → HasRoom need r → FitsOn store.settings known need v j
  fits_on need v j r there room = let end = was.ends v j r there in let most = was.rooms v j r there in omega (arith, end, most, room)

  pub try_in : (key need turn : ℕ) (full : FullTry) → IsTry store key need turn full → IsTryIn store.settings known key need turn full
  unfolding fits_on
  try_in key need turn full is =
      let v = full.volume in
      let there : ReplicaAt store v is.j is.r = (is.w, is.there, is.lacks.there) in
      let end = was.ends v is.j is.r there in
      let most = was.rooms v is.j is.r there in
      record {
        volume = is.volume;
        needs = is.needs;
        j = is.j;
        replica = (let below = at_below is.w.replicas.items is.j is.r is.lacks.there in let each = shape.replicas v is.w is.there in omega (arith, below, each));
        lacks = (let lacks = is.lacks.lacks in omega (arith, end, most, lacks));
        below = λ i low.
            let other = at_there is.w.replicas.items i (let below = at_below is.w.replicas.items is.j is.r is.lacks.there in omega (arith, below, low)) in
            fits_on need v i other.0 (is.w, is.there, other.1) (is.lacks.below i other.0 low other.1);
        machine = is.machine;
        end = is.end ∙ end;
      }

  pub tries_in : (key need turns : ℕ) (tries : List FullTry) → AreTries store key need turns tries → AreTriesIn store.settings known key need turns tries
  unfolding try_in
  tries_in key need turns tries are = record { count = are.count; are = λ turn full there. try_in key need turn full (are.are turn full there) }

  pub first_room_in : (key need volume : ℕ) → IsFirstRoom store key need volume → IsFirstRoomIn store.settings known key need volume
  unfolding tries_in fits_on
  first_room_in key need volume first = record {
    turn = first.turn;
    is = first.is;
    tries = first.tries;
    before = tries_in key need first.turn first.tries first.before;
    room = λ j low.
        let some = shape.some in
        let inside : volume < store.settings.volumes = (let is = first.is in omega (arith, is, some)) in
        let r = replica_there store volume j shape inside low in
        fits_on need volume j r.0 r.1 (first.room j r.0 r.1);
  }

  -- so it is of a batch without homes
  pub may_load : (photos : List NewPhoto) (volume : ℕ) → All (λ (photo : NewPhoto). home_among store.directory.homes photo.pair ≡ None) photos
      → IsFirstRoom store (key_of photos) (batch_total photos) volume → MayLoad store.settings known photos volume
  unfolding first_room_in
  may_load photos volume none room = record {
    homeless = homeless_in store.directory.homes known.rows photos was.homes none;
    room = first_room_in (key_of photos) (batch_total photos) volume room;
  }

  -- and of one that is not loaded
  pub known_refused : (photos : List NewPhoto) (volume : ℕ) → IsFirstHome store.directory.homes photos volume → IsNotLoaded store.settings known photos (Known volume)
  known_refused photos volume first = inl (record { volume = volume; home = first_home_in store.directory.homes known.rows photos volume was.homes first; told = refl })

  pub full_refused : (photos : List NewPhoto) (tries : List FullTry) (reply : LoadReply) → All (λ (photo : NewPhoto). home_among store.directory.homes photo.pair ≡ None) photos
      → AreTries store (key_of photos) (batch_total photos) store.settings.volumes tries → reply ≡ full_reply tries → IsNotLoaded store.settings known photos reply
  unfolding tries_in
  full_refused photos tries reply none are told = inr (record {
    homeless = homeless_in store.directory.homes known.rows photos was.homes none;
    tries = tries;
    are = tries_in (key_of photos) (batch_total photos) store.settings.volumes tries are;
    told = told;
  })

-- ANSWERS

module _ {D : Type 0} (files : D → Files) (s : StoredStore) (photos : List NewPhoto) (old new : LoadStore D) (shape : IsShaped old) (stands : StandsAs files old s) where
  refused_answer : (reply : LoadReply) → new ≡ old → IsNotLoaded old.settings (remembered_of s) photos reply → Answered files old.settings s photos reply new
  refused_answer reply same refused = record {
    stored = s;
    answers = inl (refused, refl);
    stands = subst (λ (store : LoadStore D). StandsAs files store s) (sym same) stands;
  }

  pub known_answer : (volume : ℕ) → new ≡ old → IsFirstHome old.directory.homes photos volume → Answered files old.settings s photos (Known volume) new
  unfolding refused_answer
  known_answer volume same first = refused_answer (Known volume) same (known_refused (remembered_of s) old shape (stands_remembers files s old stands) photos volume first)

  pub full_answer : (tries : List FullTry) (reply : LoadReply) → new ≡ old → All (λ (photo : NewPhoto). home_among old.directory.homes photo.pair ≡ None) photos
      → AreTries old (key_of photos) (batch_total photos) old.settings.volumes tries → reply ≡ full_reply tries → Answered files old.settings s photos reply new
  unfolding refused_answer
  full_answer tries reply same none are told = refused_answer reply same (full_refused (remembered_of s) old shape (stands_remembers files s old stands) photos tries reply none are told)

  pub loaded_answer : (volume rows : ℕ) → All (λ (photo : NewPhoto). home_among old.directory.homes photo.pair ≡ None) photos
      → IsFirstRoom old (key_of photos) (batch_total photos) volume → rows ≡ new.directory.rows
      → StandsAs files new (with_stored volume photos s) → Answered files old.settings s photos (Loaded volume (length photos) rows) new
  loaded_answer volume rows none room count stands' = record {
    stored = with_stored volume photos s;
    answers = inr (record {
      volume = volume;
      may = may_load (remembered_of s) old shape (stands_remembers files s old stands) photos volume none room;
      told = ap (λ n. Loaded volume (length photos) n) (count ∙ stands'.contents.directory.count);
      stored = refl;
    });
    stands = stands';
  }

-- WHATEVER THE DISKS TELL

module _ {D : Type 0} (known : Remembered) (photos : List NewPhoto) (old new : LoadStore D) (shape : IsShaped old) (was : Remembers old known) where
  refused_suits : (reply : LoadReply) → new ≡ old → IsNotLoaded old.settings known photos reply → Suited old.settings known photos reply new
  refused_suits reply same refused = record {
    known = known;
    suits = inl (refused, refl);
    remembers = subst (λ (store : LoadStore D). Remembers store known) (sym same) was;
  }

  pub known_suits : (volume : ℕ) → new ≡ old → IsFirstHome old.directory.homes photos volume → Suited old.settings known photos (Known volume) new
  unfolding refused_suits
  known_suits volume same first = refused_suits (Known volume) same (known_refused known old shape was photos volume first)

  pub full_suits : (tries : List FullTry) (reply : LoadReply) → new ≡ old → All (λ (photo : NewPhoto). home_among old.directory.homes photo.pair ≡ None) photos
      → AreTries old (key_of photos) (batch_total photos) old.settings.volumes tries → reply ≡ full_reply tries → Suited old.settings known photos reply new
  unfolding refused_suits
  full_suits tries reply same none are told = refused_suits reply same (full_refused known old shape was photos tries reply none are told)

  -- where the cells of each replica end behind a batch
  module _ (shape' : IsShaped new) (same : new.settings ≡ old.settings) (volume : ℕ) (moves : MovesEnds volume photos old new) where
    was_there : (v j : ℕ) (r' : LoadReplica D) → ReplicaAt new v j r' → (r : LoadReplica D) × ReplicaAt old v j r
    was_there v j r' there =
        let within = within_settings new v j r' shape' there in
        replica_there old v j shape (subst (λ (s : Settings). v < s.volumes) same within.0) (subst (λ (s : Settings). j < s.replicas) same within.1)

    ends_moved : (v j : ℕ) (r' : LoadReplica D) → ReplicaAt new v j r' → r'.volume.end ≡ (with_remembered volume photos known).ends v j
    unfolding was_there
    ends_moved v j r' is =
        let r = was_there v j r' is in
        elim (eqb_tells v volume) [
          | inl here ↦
              ap (λ (x : VolumeFile). x.end) (moves.here j r.0 r' (subst (λ n. ReplicaAt old n j r.0) here.1 r.1) (subst (λ n. ReplicaAt new n j r') here.1 is))
              ∙ ap (λ (n : ℕ). n + batch_total photos) (was.ends v j r.0 r.1) ∙ sym (cond-true _ _ _ here.0)
          | inr other ↦ ap (λ (x : VolumeFile). x.end) (moves.others v j r.0 r' other.1 r.1 is) ∙ was.ends v j r.0 r.1 ∙ sym (cond-false _ _ _ other.0)
        ]

    rooms_kept : (v j : ℕ) (r' : LoadReplica D) → ReplicaAt new v j r' → r'.volume.capacity ≡ new.settings.capacity
    unfolding was_there
    rooms_kept v j r' is =
        let r = was_there v j r' is in
        let most : r.0.volume.capacity ≡ new.settings.capacity = was.rooms v j r.0 r.1 ∙ ap (λ (s : Settings). s.capacity) (sym same) in
        elim (eqb_tells v volume) [
          | inl here ↦ ap (λ (x : VolumeFile). x.capacity) (moves.here j r.0 r' (subst (λ n. ReplicaAt old n j r.0) here.1 r.1) (subst (λ n. ReplicaAt new n j r') here.1 is)) ∙ most
          | inr other ↦ ap (λ (x : VolumeFile). x.capacity) (moves.others v j r.0 r' other.1 r.1 is) ∙ most
        ]

    pub loaded_suits : (count : ℕ) → All (λ (photo : NewPhoto). home_among old.directory.homes photo.pair ≡ None) photos → IsFirstRoom old (key_of photos) (batch_total photos) volume
        → count ≡ new.directory.rows → AddsHomes (map (new_row volume) photos) old.directory.homes new.directory.homes
        → new.directory.rows ≡ min (old.directory.rows + length photos) (2 ^ 64 - 1) → Suited old.settings known photos (Loaded volume (length photos) count) new
    unfolding ends_moved rooms_kept
    loaded_suits count none room is adds added =
        let all : List DirRow = known.rows ++ map (new_row volume) photos in
        let before = was.count in
        let longer = length-append known.rows (map (new_row volume) photos) in
        let many = length-map photos (new_row volume) in
        let counts : new.directory.rows ≡ counted (length all) = omega (arith, added, before, longer, many) in
        record {
          known = with_remembered volume photos known;
          suits = inr (record {
            volume = volume;
            may = may_load known old shape was photos volume none room;
            told = ap (λ (n : ℕ). Loaded volume (length photos) n) (is ∙ counts);
            added = refl;
          });
          remembers = record {
            homes = homes_more old.directory.homes new.directory.homes known.rows (map (new_row volume) photos) was.homes adds.at;
            count = omega (arith, counts);
            ends = ends_moved;
            rooms = rooms_kept;
          };
        }

-- WHAT A STOP LEAVES

pub left_new : {D : Type 0} (files : D → Files) (s : StoredStore) (photos : List NewPhoto) (old new : LoadStore D) (image : ℕ → ℕ → List ℕ) (answer : Result LoadedRows LoadFault)
    → IsShaped old → StandsAs files old s → MayLeaveDisks files new image
    → ((volume : ℕ) × (answer ≡ Err (LoadFault.Known volume)) × IsFirstHome old.directory.homes photos volume)
    ⊎ (((volume : ℕ) → answer ≡ Err (LoadFault.Known volume) → ⊥) × All (λ (photo : NewPhoto). home_among old.directory.homes photo.pair ≡ None) photos)
    → IfErr answer (λ (fault : LoadFault). (IsDiskFault fault → ⊥) → new ≡ old) → All (λ (photo : NewPhoto). photo.pair.key ≡ key_of photos) photos
    → OpensStore old.settings image s ⊎ ((volume : ℕ) × IsTargetOf old photos volume × LeavesBatch old.settings volume photos image s) → LeavesNew old.settings photos image s
left_new files s photos old new image answer shape stands leaves (inl known) kept key left = inl
    (left_untouched files s old new image (kept_known answer known.0 (new ≡ old) known.1 kept) shape stands leaves)
left_new files s photos old new image answer shape stands leaves (inr none) kept key (inl same) = inl same
left_new files s photos old new image answer shape stands leaves (inr none) kept key (inr batch) =
    inr (batch.0, may_load (remembered_of s) old shape (stands_remembers files s old stands) photos batch.0 none.1 (batch.1 (key_of photos) key), batch.2)
