-- The batches that were told as loaded stand in whatever a stop leaves.
use Rattle.std.proofs.Common.{◌≡◌, ◌≢◌, inl, inr, ℕ, zero, suc, ◌+◌, ◌<◌, Bool, true, false, cond, List, [], ◌∷◌, ◌++◌, length, map, All, Option, Some, None, refl, sym, ap, subst, ◌∙◌, arith}
use Rattle.std.specs.Option.{option_or}
use Rattle.std.specs.Prelude.{if◌then◌else◌, nat_eq}
use Rattle.std.proofs.lemmas.Bool.{cond-false, cond-true}
use Rattle.std.proofs.lemmas.List.{map-append}
use Rattle.hay_needle.specs.declared.needle.Cell.{Cell}
use Rattle.hay_needle.specs.declared.needle.Needle.{Needle}
use Rattle.hay_needle.specs.declared.needle.Outcome.{Outcome}
use Rattle.hay_needle.specs.declared.needle.Outcome.TheVariants as outcome
use Rattle.hay_needle.specs.declared.needle.Pair.{Pair}
use Rattle.hay_needle.specs.declared.settings.Settings.{Settings}
use Rattle.hay_needle.specs.Needle.{needle_of_cell}
use Rattle.hay_needle.specs.Tables.{look, look_after, pair_eq, rows_of}
use Rattle.hay_needle.proofs.TableLaws.{pair_refl, pair_same, rows_append}
use Rattle.hay_volume.specs.Cells.{needles_of}
use Rattle.hay_open.specs.Stored.{Stored}
use Rattle.hay_dirfile.specs.declared.row.DirRow.{DirRow}
use Rattle.hay_batch.specs.declared.photo.NewPhoto.{NewPhoto}
use Rattle.hay_batch.specs.Batches.{AreDistinct, new_cells, new_row, photo_total, shown_of}
use Rattle.hay_batch.specs.Homes.{home_in}
use Rattle.hay_batch.specs.Replicas.{At}
use Rattle.hay_batch.specs.Shelves.{OpensStore, OpensWithout, StoredStore, with_needles, with_stored}
use Rattle.hay_batch.proofs.HomeLaws.{home_in-append}
use Rattle.hay_batch.proofs.Showing.{batch_shows}
use Rattle.hay_load.specs.declared.reply.LoadReply.{LoadReply}
use Rattle.hay_load.specs.declared.reply.LoadReply.TheVariants.{Known, Loaded}
use Rattle.hay_load.specs.Answers.{AnswersAll, AnswersBatch, AreHomeless, IsNotLoaded, Remembered, remembered_of}
use Rattle.hay_load.specs.Gathering.{Bad, Batch, Group}
use Rattle.hay_load.specs.Loads.{LeavesFirst}
use Rattle.hay_load.specs.Replies.{full_reply}
use Rattle.hay_loading.specs.Endings.{AllStandIn, StandsIn}

-- LISTS

at_all : {X : Type 0} (P : X → Type 0) (xs : List X) (i : ℕ) (x : X) → All P xs → At xs i x → P x
at_all P [] i x all at = absurd cc
at_all P (y ∷ xs) zero x all at = let same : y ≡ x = cc in subst P same (all 0 y (omega arith))
at_all P (y ∷ xs) (suc i) x all at = at_all P xs i x (λ k d low. all (suc k) d (omega (arith, low))) at

-- PAIRS THAT A BATCH LACKS

abbrev Lacks : Pair → List NewPhoto → Type 0
Lacks pair photos = (i : ℕ) (photo : NewPhoto) → At photos i photo → photo.pair ≢ pair

other_pair : (a b : Pair) (c : Bool) → pair_eq a b ≡ c → a ≢ b → pair_eq a b ≡ false
other_pair a b true same apart = absurd (apart (pair_same a b same))
other_pair a b false same apart = same

lacks_leave : (photos : List NewPhoto) (at : ℕ) (pair : Pair) (before : Outcome) → Lacks pair photos → look_after (rows_of (needles_of (new_cells at photos))) pair before ≡ before
lacks_leave [] at pair before lacks = refl
lacks_leave (photo ∷ photos) at pair before lacks =
    let apart : pair_eq photo.pair pair ≡ false = other_pair photo.pair pair (pair_eq photo.pair pair) refl (lacks 0 photo refl) in
    lacks_leave photos (at + photo_total photo) pair (cond (pair_eq photo.pair pair) (shown_of photo) before) (λ i other there. lacks (suc i) other there)
    ∙ cond-false (pair_eq photo.pair pair) (shown_of photo) before apart

look_behind : (photos : List NewPhoto) (cells : List Cell) (at : ℕ) (pair : Pair) → Lacks pair photos
    → look (rows_of (needles_of (cells ++ new_cells at photos))) pair ≡ look (rows_of (needles_of cells)) pair
look_behind photos cells at pair lacks =
    ap (λ (l : List Needle). look (rows_of l) pair) (map-append needle_of_cell cells (new_cells at photos))
    ∙ rows_append (needles_of cells) (needles_of (new_cells at photos)) pair outcome.Nothing
    ∙ lacks_leave photos at pair (look (rows_of (needles_of cells)) pair) lacks

-- a pair with a home is none of photos without
homeless_lack : (rows : List DirRow) (photos : List NewPhoto) (pair : Pair) (volume : ℕ) → AreHomeless rows photos → home_in rows pair ≡ Some volume → Lacks pair photos
homeless_lack rows photos pair volume none home = λ i photo there same.
    let without : home_in rows photo.pair ≡ None = at_all (λ (p : NewPhoto). home_in rows p.pair ≡ None) photos i photo none there in
    let both : Some volume ≡ None = sym home ∙ ap (λ (p : Pair). home_in rows p) (sym same) ∙ without in cc

-- HOMES

home_stays : (rows more : List DirRow) (pair : Pair) (volume : ℕ) → home_in rows pair ≡ Some volume → home_in (rows ++ more) pair ≡ Some volume
home_stays rows more pair volume home = home_in-append rows more pair ∙ ap (λ (h : Option ℕ). option_or h (home_in more pair)) home

home_among_new : (volume : ℕ) (photos : List NewPhoto) (k : ℕ) (photo : NewPhoto) → At photos k photo → home_in (map (new_row volume) photos) photo.pair ≡ Some volume
home_among_new volume [] k photo at = absurd cc
home_among_new volume (first ∷ photos) zero photo at =
    let same : first ≡ photo = cc in
    cond-true (pair_eq first.pair photo.pair) (Some volume) (home_in (map (new_row volume) photos) photo.pair) (ap (λ (p : NewPhoto). pair_eq p.pair photo.pair) same ∙ pair_refl photo.pair)
home_among_new volume (first ∷ photos) (suc k) photo at = by_first (pair_eq first.pair photo.pair) (home_among_new volume photos k photo at)
  where
    by_first : (b : Bool) → home_in (map (new_row volume) photos) photo.pair ≡ Some volume → cond b (Some volume) (home_in (map (new_row volume) photos) photo.pair) ≡ Some volume
    by_first true rest = refl
    by_first false rest = rest

home_new : (rows : List DirRow) (volume : ℕ) (photos : List NewPhoto) (k : ℕ) (photo : NewPhoto) → AreHomeless rows photos → At photos k photo
    → home_in (rows ++ map (new_row volume) photos) photo.pair ≡ Some volume
home_new rows volume photos k photo none at =
    home_in-append rows (map (new_row volume) photos) photo.pair
    ∙ ap (λ (h : Option ℕ). option_or h (home_in (map (new_row volume) photos) photo.pair)) (at_all (λ (p : NewPhoto). home_in rows p.pair ≡ None) photos k photo none at)
    ∙ home_among_new volume photos k photo at

-- A PHOTO THAT IS KEPT

-- the photo is kept in this volume, and the last needle of its pair is its own on each replica
record Keeps (s : StoredStore) (volume : ℕ) (photo : NewPhoto) : Type 0 where
  at_home : home_in s.rows photo.pair ≡ Some volume
  last : (j : ℕ) → look (rows_of (needles_of (s.replicas volume j).cells)) photo.pair ≡ shown_of photo

needles_last : (b : Bool) (photos : List NewPhoto) (st : Stored) (photo : NewPhoto) → Lacks photo.pair photos → look (rows_of (needles_of st.cells)) photo.pair ≡ shown_of photo
    → look (rows_of (needles_of (if b then with_needles photos st else st).cells)) photo.pair ≡ shown_of photo
needles_last true photos st photo lacks shown = look_behind photos st.cells st.end photo.pair lacks ∙ shown
needles_last false photos st photo lacks shown = shown

-- behind another batch
keeps_more : (s : StoredStore) (volume other : ℕ) (photo : NewPhoto) (photos : List NewPhoto) → AreHomeless s.rows photos → Keeps s volume photo → Keeps (with_stored other photos s) volume photo
keeps_more s volume other photo photos none keeps = record {
  at_home = home_stays s.rows (map (new_row other) photos) photo.pair volume keeps.at_home;
  last = λ j. needles_last (nat_eq volume other) photos (s.replicas volume j) photo (homeless_lack s.rows photos photo.pair volume none keeps.at_home) (keeps.last j);
}

needles_new : (b : Bool) (photos : List NewPhoto) (st : Stored) (k : ℕ) (photo : NewPhoto) → b ≡ true → AreDistinct photos → At photos k photo
    → look (rows_of (needles_of (if b then with_needles photos st else st).cells)) photo.pair ≡ shown_of photo
needles_new true photos st k photo is distinct at = batch_shows photos st.cells st.end k photo distinct at
needles_new false photos st k photo is distinct at = absurd cc

same_number : (n : ℕ) → nat_eq n n ≡ true
same_number n = grind arith

-- in the batch that was loaded
keeps_new : (s : StoredStore) (volume k : ℕ) (photo : NewPhoto) (photos : List NewPhoto) → AreHomeless s.rows photos → AreDistinct photos → At photos k photo
    → Keeps (with_stored volume photos s) volume photo
keeps_new s volume k photo photos none distinct at = record {
  at_home = home_new s.rows volume photos k photo none at;
  last = λ j. needles_new (nat_eq volume volume) photos (s.replicas volume j) k photo (same_number volume) distinct at;
}

-- ANSWERS

keeps_batch : (settings : Settings) (s new : StoredStore) (photos : List NewPhoto) (reply : LoadReply) (volume : ℕ) (photo : NewPhoto) → AnswersBatch settings s photos reply new
    → Keeps s volume photo → Keeps new volume photo
keeps_batch settings s new photos reply volume photo (inl refused) keeps = subst (λ (x : StoredStore). Keeps x volume photo) (sym refused.1) keeps
keeps_batch settings s new photos reply volume photo (inr loaded) keeps = subst (λ (x : StoredStore). Keeps x volume photo) (sym loaded.stored)
    (keeps_more s volume loaded.volume photo photos loaded.may.homeless keeps)

keeps_all : (settings : Settings) (s new : StoredStore) (groups : List Group) (replies : List LoadReply) (volume : ℕ) (photo : NewPhoto) → AnswersAll settings s groups replies new
    → Keeps s volume photo → Keeps new volume photo
keeps_all settings s new [] [] volume photo answers keeps = subst (λ (x : StoredStore). Keeps x volume photo) (sym answers) keeps
keeps_all settings s new [] (reply ∷ replies) volume photo answers keeps = absurd answers
keeps_all settings s new (group ∷ groups) [] volume photo answers keeps = absurd answers
keeps_all settings s new (Bad line ∷ groups) (reply ∷ replies) volume photo answers keeps = keeps_all settings s new groups replies volume photo answers.1 keeps
keeps_all settings s new (Batch line photos ∷ groups) (reply ∷ replies) volume photo answers keeps =
    keeps_all settings answers.0 new groups replies volume photo answers.2 (keeps_batch settings s answers.0 photos reply volume photo answers.1 keeps)

loaded_volume : (a b m n p q : ℕ) → Loaded a m p ≡ Loaded b n q → a ≡ b
loaded_volume a b m n p q is = cc

-- a batch that was told as loaded was
-- a reply to a batch that is not loaded tells of none that is
never_loaded : (settings : Settings) (known : Remembered) (photos : List NewPhoto) (reply : LoadReply) (volume count rows : ℕ) → IsNotLoaded settings known photos reply
    → reply ≡ Loaded volume count rows → ⊥
never_loaded settings known photos reply volume count rows (inl home) is = let both : Known home.volume ≡ Loaded volume count rows = sym home.told ∙ is in absurd cc
never_loaded settings known photos reply volume count rows (inr full) is = let both : full_reply full.tries ≡ Loaded volume count rows = sym full.told ∙ is in absurd cc

keeps_told : (settings : Settings) (s new : StoredStore) (photos : List NewPhoto) (reply : LoadReply) (volume count rows k : ℕ) (photo : NewPhoto)
    → AnswersBatch settings s photos reply new → reply ≡ Loaded volume count rows → AreDistinct photos → At photos k photo
    → Keeps new volume photo × (0 < settings.volumes → volume < settings.volumes)
keeps_told settings s new photos reply volume count rows k photo (inl refused) is distinct at =
    absurd (never_loaded settings (remembered_of s) photos reply volume count rows refused.0 is)
keeps_told settings s new photos reply volume count rows k photo (inr loaded) is distinct at =
    let same : loaded.volume ≡ volume = loaded_volume loaded.volume volume (length photos) count (length new.rows) rows (sym loaded.told ∙ is) in (
      subst (λ n. Keeps new n photo) same
          (subst (λ (x : StoredStore). Keeps x loaded.volume photo) (sym loaded.stored) (keeps_new s loaded.volume k photo photos loaded.may.homeless distinct at)),
      λ some. (let turn = loaded.may.room.is in omega (arith, turn, some, same)),
    )

-- WHAT IS STORED THEN

stored_same : (settings : Settings) (s t u : StoredStore) (photos : List NewPhoto) (reply : LoadReply) → AnswersBatch settings s photos reply t → AnswersBatch settings s photos reply u → t ≡ u
stored_same settings s t u photos reply (inl first) (inl second) = first.1 ∙ sym second.1
stored_same settings s t u photos reply (inl first) (inr second) =
    absurd (never_loaded settings (remembered_of s) photos reply second.volume (length photos) (length u.rows) first.0 second.told)
stored_same settings s t u photos reply (inr first) (inl second) =
    absurd (never_loaded settings (remembered_of s) photos reply first.volume (length photos) (length t.rows) second.0 first.told)
stored_same settings s t u photos reply (inr first) (inr second) =
    let same : first.volume ≡ second.volume = loaded_volume first.volume second.volume (length photos) (length photos) (length t.rows) (length u.rows) (sym first.told ∙ second.told) in
    first.stored ∙ ap (λ (v : ℕ). with_stored v photos s) same ∙ sym second.stored

-- the replies tell what is stored
pub answers_same : (settings : Settings) (s t u : StoredStore) (groups : List Group) (replies : List LoadReply) → AnswersAll settings s groups replies t
    → AnswersAll settings s groups replies u → t ≡ u
answers_same settings s t u [] [] first second = first ∙ sym second
answers_same settings s t u [] (reply ∷ replies) first second = absurd first
answers_same settings s t u (group ∷ groups) [] first second = absurd first
answers_same settings s t u (Bad line ∷ groups) (reply ∷ replies) first second = answers_same settings s t u groups replies first.1 second.1
answers_same settings s t u (Batch line photos ∷ groups) (reply ∷ replies) first second =
    let same : second.0 ≡ first.0 = stored_same settings s second.0 first.0 photos reply second.1 first.1 in
    answers_same settings first.0 t u groups replies first.2 (subst (λ (x : StoredStore). AnswersAll settings x groups replies u) same second.2)

-- WHAT STANDS

-- the batches of these groups are of distinct pairs
abbrev pub AreApart : List Group → Type 0
AreApart groups = (i line : ℕ) (photos : List NewPhoto) → At groups i (Batch line photos) → AreDistinct photos

pub same_batch : (a b : ℕ) (p q : List NewPhoto) → Batch a p ≡ Batch b q → p ≡ q
same_batch a b p q is = cc

apart_rest : (group : Group) (groups : List Group) → AreApart (group ∷ groups) → AreApart groups
apart_rest group groups apart = λ i line photos at. apart (suc i) line photos at

keeps_at : (settings : Settings) (s new : StoredStore) (groups : List Group) (replies : List LoadReply) (i line volume count rows : ℕ) (photos : List NewPhoto) (k : ℕ)
    (photo : NewPhoto) → AreApart groups → AnswersAll settings s groups replies new
    → At groups i (Batch line photos) → At replies i (Loaded volume count rows) → At photos k photo → Keeps new volume photo × (0 < settings.volumes → volume < settings.volumes)
keeps_at settings s new [] replies i line volume count rows photos k photo apart answers at reply_at photo_at = absurd cc
keeps_at settings s new (group ∷ groups) [] i line volume count rows photos k photo apart answers at reply_at photo_at = absurd answers
keeps_at settings s new (Bad number ∷ groups) (reply ∷ replies) zero line volume count rows photos k photo apart answers at reply_at photo_at = absurd cc
keeps_at settings s new (Bad number ∷ groups) (reply ∷ replies) (suc i) line volume count rows photos k photo apart answers at reply_at photo_at =
    keeps_at settings s new groups replies i line volume count rows photos k photo (apart_rest (Bad number) groups apart) answers.1 at reply_at photo_at
keeps_at settings s new (Batch number others ∷ groups) (reply ∷ replies) zero line volume count rows photos k photo apart answers at reply_at photo_at =
    let here : Batch number others ≡ Batch line photos = cc in
    let same : others ≡ photos = same_batch number line others photos here in
    let told : reply ≡ Loaded volume count rows = cc in
    let batch : AnswersBatch settings s photos reply answers.0 = subst (λ (l : List NewPhoto). AnswersBatch settings s l reply answers.0) same answers.1 in
    let keeps = keeps_told settings s answers.0 photos reply volume count rows k photo batch told (apart 0 line photos at) photo_at in
    (keeps_all settings answers.0 new groups replies volume photo answers.2 keeps.0, keeps.1)
keeps_at settings s new (Batch number others ∷ groups) (reply ∷ replies) (suc i) line volume count rows photos k photo apart answers at reply_at photo_at =
    keeps_at settings answers.0 new groups replies i line volume count rows photos k photo (apart_rest (Batch number others) groups apart) answers.2 at reply_at photo_at

-- WHAT A STOP LEAVES

module _ (settings : Settings) (image : ℕ → ℕ → List ℕ) (t : StoredStore) (volume : ℕ) (photo : NewPhoto) (keeps : Keeps t volume photo) (within : volume < settings.volumes) where
  in_store : OpensStore settings image t → StandsIn settings image volume photo
  in_store opens = record {
    rows = t.rows;
    opens = opens.rows;
    home = keeps.at_home;
    replicas = λ j low. (t.replicas volume j, opens.replicas volume j within low, keeps.last j);
  }

  in_part : (other : ℕ) (photos : List NewPhoto) → AreHomeless t.rows photos → OpensWithout settings other photos image t → StandsIn settings image volume photo
  in_part other photos none opens = record {
    rows = t.rows;
    opens = opens.rows;
    home = keeps.at_home;
    replicas = λ j low. elim (opens.replicas volume j within low) [
      | inl is ↦ (t.replicas volume j, is, keeps.last j)
      | inr is ↦ (
        with_needles photos (t.replicas volume j),
        is,
        look_behind photos (t.replicas volume j).cells (t.replicas volume j).end photo.pair
            (homeless_lack t.rows photos photo.pair volume none keeps.at_home) ∙ keeps.last j,
      )
    ];
  }

in_whole : (settings : Settings) (image : ℕ → ℕ → List ℕ) (t : StoredStore) (volume other : ℕ) (photo : NewPhoto) (photos : List NewPhoto) → Keeps t volume photo
    → volume < settings.volumes → AreHomeless t.rows photos
    → OpensStore settings image (with_stored other photos t) → StandsIn settings image volume photo
in_whole settings image t volume other photo photos keeps within none opens = in_store settings image (with_stored other photos t) volume photo
    (keeps_more t volume other photo photos none keeps) within opens

in_first : (settings : Settings) (next : List Group) (image : ℕ → ℕ → List ℕ) (t : StoredStore) (volume : ℕ) (photo : NewPhoto) → Keeps t volume photo → volume < settings.volumes
    → LeavesFirst settings next image t → StandsIn settings image volume photo
in_first settings [] image t volume photo keeps within left = in_store settings image t volume photo keeps within left
in_first settings (Bad line ∷ next) image t volume photo keeps within left = in_store settings image t volume photo keeps within left
in_first settings (Batch line photos ∷ next) image t volume photo keeps within (inl same) = in_store settings image t volume photo keeps within same
in_first settings (Batch line photos ∷ next) image t volume photo keeps within (inr (other, may, inl part)) = in_part settings image t volume photo keeps within other photos may.homeless part
in_first settings (Batch line photos ∷ next) image t volume photo keeps within (inr (other, may, inr whole)) =
    in_whole settings image t volume other photo photos keeps within may.homeless whole

pub all_stand : (settings : Settings) (s t : StoredStore) (groups next : List Group) (replies : List LoadReply) (image : ℕ → ℕ → List ℕ) → 0 < settings.volumes → AreApart groups
    → AnswersAll settings s groups replies t → LeavesFirst settings next image t
    → AllStandIn settings groups replies image
all_stand settings s t groups next replies image some apart answers left = λ i line volume count rows photos k photo at reply_at photo_at.
    let keeps = keeps_at settings s t groups replies i line volume count rows photos k photo apart answers at reply_at photo_at in
    in_first settings next image t volume photo keeps.0 (keeps.1 some) left
