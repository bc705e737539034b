-- What no load tells, each as a lemma.
use Rattle.std.proofs.Common.{◌≡◌, ◌≢◌, ◌⊎◌, inl, inr, ℕ, zero, suc, ◌+◌, ◌%◌, ◌<◌, ◌≤◌, List, [], ◌∷◌, ◌++◌, length, map, All, Bool, true, false, Option, Some, None, refl, sym}
use Rattle.std.proofs.Common.{ap, subst, ◌∙◌, length-append, arith}
use Rattle.std.specs.Prelude.{if◌then◌else◌, nat_eq}
use Rattle.std.proofs.lemmas.Bool.{cond-true}
use Rattle.std.proofs.lemmas.List.Elements.{All-append, All-cons, All-nil}
use Rattle.hay_needle.specs.declared.needle.Pair.{Pair}
use Rattle.hay_needle.specs.declared.settings.Settings.{Settings}
use Rattle.hay_needle.specs.Tables.{pair_eq}
use Rattle.hay_disk.specs.Shelf.{HeldDisk}
use Rattle.hay_script.specs.declared.Command.TheVariants as command
use Rattle.hay_script.specs.declared.Line.{Line}
use Rattle.hay_script.specs.declared.Line.TheVariants as said
use Rattle.hay_script.specs.Script.{lines_of}
use Rattle.hay_lines.specs.Lines.{NoFeed, fed_text}
use Rattle.hay_reply.specs.declared.Note.TheVariants.{OpenDamaged}
use Rattle.hay_reply.specs.declared.Refused.{Refused}
use Rattle.hay_reply.specs.declared.Refused.TheVariants.{NoRoom}
use Rattle.hay_reply.specs.declared.Reply.TheVariants.{BadLine, Full}
use Rattle.hay_dirfile.specs.declared.row.DirRow.{DirRow}
use Rattle.hay_open.proofs.Faults.{past_the_last}
use Rattle.hay_batch.specs.declared.fault.FullTry.{FullTry}
use Rattle.hay_batch.specs.declared.photo.NewPhoto.{NewPhoto}
use Rattle.hay_batch.specs.Batches.{batch_total, new_row}
use Rattle.hay_batch.specs.Homes.{home_in}
use Rattle.hay_batch.specs.Replicas.{At}
use Rattle.hay_batch.specs.Stores.{try_at}
use Rattle.hay_batch.proofs.Lists.{at_there}
use Rattle.hay_load.specs.declared.reply.LoadReply.{LoadReply}
use Rattle.hay_load.specs.declared.reply.LoadReply.TheVariants.{Known, Loaded, Other}
use Rattle.hay_load.specs.Answers.{FitsIn, IsTryIn, Remembered, SuitAll, SuitsBatch, counted}
use Rattle.hay_load.specs.Gathering.{Bad, Batch, Group, key_of, line_step}
use Rattle.hay_load.specs.Replies.{full_reply, refused_of}
use Rattle.hay_loading.specs.Endings.{Begins, Breaks, CutsShort, IsFront, IsRefusal, ReadsTo, Refuses, Wants, WroteBoth, ended_from, groups_before, says, script_groups}
use Rattle.hay_lines.proofs.Feeding.{lines_of-fed}
use Rattle.hay_loading.proofs.Whole.{fed-feed, fed-none}

-- ROOM

one_try : (a b : FullTry) → refused_of a ≡ refused_of b → a ≡ b
one_try a b same =
    let with_volume : ℕ → FullTry = λ x. record { volume = x; machine = a.machine; end = a.end; need = a.need } in
    let with_machine : ℕ → FullTry = λ x. record { volume = b.volume; machine = x; end = a.end; need = a.need } in
    let with_end : ℕ → FullTry = λ x. record { volume = b.volume; machine = b.machine; end = x; need = a.need } in
    let with_need : ℕ → FullTry = λ x. record { volume = b.volume; machine = b.machine; end = b.end; need = x } in
    let volume : a.volume ≡ b.volume = cc in
    let machine : a.machine ≡ b.machine = cc in
    let end : a.end ≡ b.end = cc in
    let need : a.need ≡ b.need = cc in
    ap with_volume volume ∙ ap with_machine machine ∙ ap with_end end ∙ ap with_need need

same_tries : (a b : List FullTry) → map refused_of a ≡ map refused_of b → a ≡ b
same_tries [] [] same = refl
same_tries [] (y ∷ b) same = absurd cc
same_tries (x ∷ a) [] same = absurd cc
same_tries (x ∷ a) (y ∷ b) same =
    let first : refused_of x ≡ refused_of y = cc in
    let rest : map refused_of a ≡ map refused_of b = cc in
    ap (λ (t : FullTry). t ∷ a) (one_try x y first) ∙ ap (λ (l : List FullTry). y ∷ l) (same_tries a b rest)

told_tries : (a b : List FullTry) → full_reply a ≡ full_reply b → map refused_of a ≡ map refused_of b
told_tries a b same = cc

-- what a batch that finds no room tells of a volume
full_try : (settings : Settings) (known : Remembered) (photos : List NewPhoto) (reply : LoadReply) (new : Remembered) (tries : List FullTry) (turn : ℕ) (full : FullTry)
    → SuitsBatch settings known photos reply new → reply ≡ full_reply tries → At tries turn full → IsTryIn settings known (key_of photos) (batch_total photos) turn full
full_try settings known photos reply new tries turn full (inl (inl home, same)) told at = let both : Known home.volume ≡ full_reply tries = sym home.told ∙ told in absurd cc
full_try settings known photos reply new tries turn full (inl (inr without, same)) told at =
    without.are.are turn full (subst (λ (l : List FullTry). At l turn full) (same_tries tries without.tries (told_tries tries without.tries (sym told ∙ without.told))) at)
full_try settings known photos reply new tries turn full (inr loaded) told at =
    let both : full_reply tries ≡ Loaded loaded.volume (length photos) (counted (length new.rows)) = sym told ∙ loaded.told in absurd cc

-- a batch that found no room where the end that is told leaves it
pub full_with_room : (settings : Settings) (known : Remembered) (photos : List NewPhoto) (reply : LoadReply) (new : Remembered) (tries : List FullTry) (turn : ℕ) (full : FullTry)
    → SuitsBatch settings known photos reply new → reply ≡ full_reply tries → At tries turn full → full.end + full.need + 8 ≤ settings.capacity → ⊥
full_with_room settings known photos reply new tries turn full suits told at room =
    let is = full_try settings known photos reply new tries turn full suits told at in
    let lacks = is.lacks in
    let end = is.end in
    let needs = is.needs in
    omega (arith, lacks, end, needs, room)

-- ends do not fall
ends_here : (b : Bool) (end more : ℕ) → end ≤ (if b then end + more else end)
ends_here true end more = omega arith
ends_here false end more = omega arith

ends_batch : (settings : Settings) (known new : Remembered) (photos : List NewPhoto) (reply : LoadReply) (v j : ℕ) → SuitsBatch settings known photos reply new → known.ends v j ≤ new.ends v j
ends_batch settings known new photos reply v j (inl refused) = let same : new.ends v j ≡ known.ends v j = ap (λ (r : Remembered). r.ends v j) refused.1 in omega (arith, same)
ends_batch settings known new photos reply v j (inr loaded) =
    let same : new.ends v j ≡ (if nat_eq v loaded.volume then known.ends v j + batch_total photos else known.ends v j) = ap (λ (r : Remembered). r.ends v j) loaded.added in
    let grown = ends_here (nat_eq v loaded.volume) (known.ends v j) (batch_total photos) in
    omega (arith, same, grown)

ends_all : (settings : Settings) (first known : Remembered) (groups : List Group) (replies : List LoadReply) (v j : ℕ) → SuitAll settings first groups replies known → first.ends v j ≤ known.ends v j
ends_all settings first known [] [] v j suit = let same : known.ends v j ≡ first.ends v j = ap (λ (r : Remembered). r.ends v j) suit in omega (arith, same)
ends_all settings first known [] (reply ∷ replies) v j suit = absurd suit
ends_all settings first known (group ∷ groups) [] v j suit = absurd suit
ends_all settings first known (Bad line ∷ groups) (reply ∷ replies) v j suit = ends_all settings first known groups replies v j suit.1
ends_all settings first known (Batch line photos ∷ groups) (reply ∷ replies) v j suit =
    let one = ends_batch settings first suit.0 photos reply v j suit.1 in
    let more = ends_all settings suit.0 known groups replies v j suit.2 in
    omega (arith, one, more)

-- one that found none at an end within the superblock
pub full_within_the_superblock : (Tells : Type 0) (settings : Settings) (contents : ℕ → ℕ → List ℕ) (first known new : Remembered) (groups : List Group) (replies : List LoadReply)
    (photos : List NewPhoto)
    (tries : List FullTry) (turn : ℕ) (full : FullTry) → 0 < settings.volumes → Begins Tells settings contents first → SuitAll settings first groups replies known
    → SuitsBatch settings known photos (full_reply tries) new → At tries turn full → full.end < 64 → ⊥
full_within_the_superblock Tells settings contents first known new groups replies photos tries turn full some begins suit suits at low =
    let is = full_try settings known photos (full_reply tries) new tries turn full suits refl at in
    let turn_is = is.volume in
    let within : full.volume < settings.volumes = omega (arith, turn_is, some) in
    let from = begins.from full.volume is.j within is.replica in
    let grown = ends_all settings first known groups replies full.volume is.j suit in
    let end = is.end in
    omega (arith, from, grown, end, low)

-- one that found none where a batch was loaded, at an end before that batch's
pub full_before_a_batch : (settings : Settings) (first known new : Remembered) (photos others : List NewPhoto) (volume count rows : ℕ) (tries : List FullTry) (turn : ℕ) (full : FullTry)
    → ((j : ℕ) → j < settings.replicas → 64 ≤ first.ends volume j) → SuitsBatch settings first photos (Loaded volume count rows) known → SuitsBatch settings known others (full_reply tries) new
    → At tries turn full → full.volume ≡ volume → full.end < 64 + batch_total photos → ⊥
full_before_a_batch settings first known new photos others volume count rows tries turn full from (inl refused) suits at here low = elim refused.0 [
  | inl home ↦ (let told = home.told in absurd cc)
  | inr without ↦ (let told = without.told in absurd cc)
]
full_before_a_batch settings first known new photos others volume count rows tries turn full from (inr loaded) suits at here low =
    let is = full_try settings known others (full_reply tries) new tries turn full suits refl at in
    let same : loaded.volume ≡ volume = (let told = loaded.told in cc) in
    let at_volume : nat_eq full.volume loaded.volume ≡ true = same_number full.volume loaded.volume (here ∙ sym same) in
    let behind : known.ends full.volume is.j ≡ first.ends full.volume is.j + batch_total photos =
    ap (λ (r : Remembered). r.ends full.volume is.j) loaded.added ∙ cond-true _ _ _ at_volume in
    let least = subst (λ v. 64 ≤ first.ends v is.j) (sym here) (from is.j is.replica) in
    let end = is.end in
    omega (arith, behind, least, end, low)
  where
    one_number : (n : ℕ) → nat_eq n n ≡ true
    one_number n = grind arith

    same_number : (a b : ℕ) → a ≡ b → nat_eq a b ≡ true
    same_number a b same = subst (λ (n : ℕ). nat_eq a n ≡ true) same (one_number a)

-- one that was loaded elsewhere than into the first volume that it tries, where that has room
pub loaded_past_a_volume_with_room : (settings : Settings) (known new : Remembered) (photos : List NewPhoto) (volume count rows : ℕ)
    → FitsIn settings known (batch_total photos) (try_at settings (key_of photos) 0)
    → volume ≢ try_at settings (key_of photos) 0 → SuitsBatch settings known photos (Loaded volume count rows) new → ⊥
loaded_past_a_volume_with_room settings known new photos volume count rows room other (inl refused) = elim refused.0 [
  | inl home ↦ (let told = home.told in absurd cc)
  | inr without ↦ (let told = without.told in absurd cc)
]
loaded_past_a_volume_with_room settings known new photos volume count rows room other (inr loaded) =
    let same : loaded.volume ≡ volume = (let told = loaded.told in cc) in
    let first = loaded.may.room in
    by first.turn (sym same ∙ first.is) first.before.count first.before.are
  where
    by : (turn : ℕ) → volume ≡ try_at settings (key_of photos) turn → length loaded.may.room.tries ≡ turn
        → ((k : ℕ) (full : FullTry) → At loaded.may.room.tries k full → IsTryIn settings known (key_of photos) (batch_total photos) k full) → ⊥
    by zero is many are = other is
    by (suc turn) is many are =
        let full = at_there loaded.may.room.tries 0 (omega (arith, many)) in
        let try = are 0 full.0 full.1 in
        let fits = subst (λ v. FitsIn settings known (batch_total photos) v) (sym try.volume) room try.j try.replica in
        let lacks = try.lacks in
        omega (arith, fits, lacks)

-- HOMES

-- each row names a volume that there is
within_batch : (settings : Settings) (known new : Remembered) (photos : List NewPhoto) (reply : LoadReply) → 0 < settings.volumes → All (λ (row : DirRow). row.volume < settings.volumes) known.rows
    → SuitsBatch settings known photos reply new → All (λ (row : DirRow). row.volume < settings.volumes) new.rows
within_batch settings known new photos reply some within (inl refused) = subst (λ (r : Remembered). All (λ (row : DirRow). row.volume < settings.volumes) r.rows) (sym refused.1) within
within_batch settings known new photos reply some within (inr loaded) =
    subst (λ (r : Remembered). All (λ (row : DirRow). row.volume < settings.volumes) r.rows) (sym loaded.added)
    (All-append (λ (row : DirRow). row.volume < settings.volumes) known.rows (map (new_row loaded.volume) photos) within
    (rows_within photos (let is = loaded.may.room.is in omega (arith, is, some))))
  where
    rows_within : (l : List NewPhoto) → loaded.volume < settings.volumes → All (λ (row : DirRow). row.volume < settings.volumes) (map (new_row loaded.volume) l)
    rows_within [] low = All-nil (λ (row : DirRow). row.volume < settings.volumes)
    rows_within (photo ∷ l) low = All-cons (λ (row : DirRow). row.volume < settings.volumes) (new_row loaded.volume photo) (map (new_row loaded.volume) l) low (rows_within l low)

within_all : (settings : Settings) (first known : Remembered) (groups : List Group) (replies : List LoadReply) → 0 < settings.volumes → All (λ (row : DirRow). row.volume < settings.volumes) first.rows
    → SuitAll settings first groups replies known → All (λ (row : DirRow). row.volume < settings.volumes) known.rows
within_all settings first known [] [] some within suit = subst (λ (r : Remembered). All (λ (row : DirRow). row.volume < settings.volumes) r.rows) (sym suit) within
within_all settings first known [] (reply ∷ replies) some within suit = absurd suit
within_all settings first known (group ∷ groups) [] some within suit = absurd suit
within_all settings first known (Bad line ∷ groups) (reply ∷ replies) some within suit = within_all settings first known groups replies some within suit.1
within_all settings first known (Batch line photos ∷ groups) (reply ∷ replies) some within suit =
    within_all settings suit.0 known groups replies some (within_batch settings first suit.0 photos reply some within suit.1) suit.2

home_within : (volumes : ℕ) (rows : List DirRow) (pair : Pair) (volume : ℕ) → All (λ (row : DirRow). row.volume < volumes) rows → home_in rows pair ≡ Some volume → volume < volumes
home_within volumes [] pair volume within home = absurd cc
home_within volumes (row ∷ rows) pair volume within home =
    by (pair_eq row.pair pair) (λ is. home_within volumes rows pair volume (λ k d low. within (suc k) d (omega (arith, low))) is) home
  where
    by : (b : Bool) → (home_in rows pair ≡ Some volume → volume < volumes) → (if b then Some row.volume else home_in rows pair) ≡ Some volume → volume < volumes
    by true rest is = (let same : row.volume ≡ volume = cc in let low = within 0 row (omega arith) in omega (arith, same, low))
    by false rest is = rest is

-- the home that a known pair is told to have
known_home : (settings : Settings) (known new : Remembered) (photos : List NewPhoto) (volume : ℕ) → SuitsBatch settings known photos (Known volume) new
    → (pair : Pair) × (home_in known.rows pair ≡ Some volume)
known_home settings known new photos volume (inl (inl home, same)) =
    let told : home.volume ≡ volume = (let is = home.told in cc) in (home.home.photo.pair, home.home.home ∙ ap (λ n. Some n) told)
known_home settings known new photos volume (inl (inr without, same)) = (let told = without.told in absurd cc)
known_home settings known new photos volume (inr loaded) = (let told = loaded.told in absurd cc)

-- a pair that is known in a volume that the store has not
pub known_in_no_volume : (Tells : Type 0) (settings : Settings) (contents : ℕ → ℕ → List ℕ) (first known new : Remembered) (groups : List Group) (replies : List LoadReply)
    (photos : List NewPhoto) (volume : ℕ)
    → 0 < settings.volumes → Begins Tells settings contents first → SuitAll settings first groups replies known → SuitsBatch settings known photos (Known volume) new → settings.volumes ≤ volume → ⊥
known_in_no_volume Tells settings contents first known new groups replies photos volume some begins suit suits high =
    let home = known_home settings known new photos volume suits in
    let low = home_within settings.volumes known.rows home.0 volume (within_all settings first known groups replies some begins.within suit) home.1 in
    omega (arith, low, high)

-- one that is known at first, where the journal is void and tells
pub known_by_a_void_journal : (Tells : Type 0) (settings : Settings) (contents : ℕ → ℕ → List ℕ) (first new : Remembered) (photos : List NewPhoto) (volume : ℕ) → Tells → contents 0 0 ≡ []
    → Begins Tells settings contents first → SuitsBatch settings first photos (Known volume) new → ⊥
known_by_a_void_journal Tells settings contents first new photos volume tells void begins suits =
    let home = known_home settings first new photos volume suits in
    elim (begins.reads tells) [
      | inl none ↦ (let lost : home_in [] home.0 ≡ Some volume = ap (λ (l : List DirRow). home_in l home.0) (sym none.1) ∙ home.1 in absurd cc)
      | inr journal ↦ (let room = journal.closed.room in let length_is = ap (λ (l : List ℕ). length l) void in absurd (omega (arith, room, length_is)))
    ]

-- AN OPENING THAT WAS REFUSED

-- one that was, though a byte of the script was read
pub refused_with_a_byte_read : (Tells : Type 0) (settings : Settings) (byte : ℕ) (script : List ℕ) (old new : ℕ → HeldDisk) (shelf shelf' : ℕ) (before after : Option (List ℕ))
    → Refuses Tells settings (byte ∷ script) old new shelf shelf' before after (Some script) WroteBoth → ⊥
refused_with_a_byte_read Tells settings byte script old new shelf shelf' before after refuses =
    let same : script ≡ byte ∷ script = (let is = refuses.unread in cc) in
    let long = ap (λ (l : List ℕ). length l) same in
    omega (arith, long)

-- one whose line tells damage of the Directory's disk, in a file that it has not
pub damaged_in_no_file : (Tells : Type 0) (settings : Settings) (script : List ℕ) (old new : ℕ → HeldDisk) (shelf shelf' : ℕ) (before after : Option (List ℕ)) (file at : ℕ)
    → IsRefusal Tells settings script old new shelf shelf' before after (OpenDamaged 0 file at) → file ≢ 0 → ⊥
damaged_in_no_file Tells settings script old new shelf shelf' before after file at (inl told) other = let is = told.1 in absurd cc
damaged_in_no_file Tells settings script old new shelf shelf' before after file at (inr (inl told)) other = let is = told.2 in absurd cc
damaged_in_no_file Tells settings script old new shelf shelf' before after file at (inr (inr told)) other =
    let is = told.3 in
    let slot : told.0 ≡ 0 = cc in
    let same : file ≡ told.1 = cc in
    other (same ∙ told.5.0 slot)

-- one whose line tells damage of a replica's disk, in a file behind those of the last generation
pub damaged_past_the_last : (Tells : Type 0) (settings : Settings) (script : List ℕ) (old new : ℕ → HeldDisk) (shelf shelf' : ℕ) (before after : Option (List ℕ)) (slot file at : ℕ)
    → IsRefusal Tells settings script old new shelf shelf' before after (OpenDamaged slot file at) → 0 < slot → 131072 < file → ⊥
damaged_past_the_last Tells settings script old new shelf shelf' before after slot file at (inl told) behind far = let is = told.1 in absurd cc
damaged_past_the_last Tells settings script old new shelf shelf' before after slot file at (inr (inl told)) behind far = let is = told.2 in absurd cc
damaged_past_the_last Tells settings script old new shelf shelf' before after slot file at (inr (inr told)) behind far =
    let is = told.3 in
    let own : slot ≡ told.0 = cc in
    let same : file ≡ told.1 = cc in
    past_the_last told.1 (omega (arith, far, same)) (told.5.1 (omega (arith, behind, own)))

-- WHAT WAS READ

none_of : (l : List ℕ) → length l ≡ 0 → l ≡ []
none_of [] none = refl
none_of (b ∷ l) none = absurd (omega (arith, none))

no_groups : (group : Group) (groups : List Group) → IsFront (group ∷ groups) [] → ⊥
no_groups group groups front = let is = front.1 in absurd cc

-- a load that tells of groups, though the source was given back with all that it had
pub answered_unread : (settings : Settings) (script : List ℕ) (group : Group) (groups : List Group) → ReadsTo settings script (Some script) (group ∷ groups) → ⊥
answered_unread settings script group groups reads =
    let bytes = reads.bytes in
    let same : script ≡ bytes.0 = (let is = bytes.1 in cc) in
    let long = ap (λ (l : List ℕ). length l) bytes.2 ∙ length-append reads.read bytes.0 in
    let rest_is = ap (λ (l : List ℕ). length l) same in
    let nothing : reads.read ≡ [] = none_of reads.read (omega (arith, long, rest_is)) in
    elim reads.ends [
      | inl front ↦ no_groups group groups (subst (λ (l : List ℕ). IsFront (group ∷ groups) (groups_before settings l)) nothing front)
      | inr whole ↦ no_groups group groups (subst (λ (l : List ℕ). IsFront (group ∷ groups) (script_groups settings l)) (sym whole.0 ∙ nothing) whole.1)
    ]

-- the front of bytes that ends no later than their first line
first_line : (line more read rest : List ℕ) → NoFeed line → read ++ rest ≡ line ++ 10 ∷ more → length more ≤ length rest → NoFeed read ⊎ (read ≡ line ++ 10 ∷ [])
first_line line more [] rest free same short = inl tt
first_line [] more (b ∷ read) rest free same short =
    let first : b ≡ 10 = cc in
    let others : read ++ rest ≡ more = cc in
    let long = sym (length-append read rest) ∙ ap (λ (l : List ℕ). length l) others in
    inr (ap (λ (c : ℕ). c ∷ read) first ∙ ap (λ (l : List ℕ). 10 ∷ l) (none_of read (omega (arith, long, short))))
first_line (c ∷ line) more (b ∷ read) rest free same short =
    let first : b ≡ c = cc in
    let others : read ++ rest ≡ line ++ 10 ∷ more = cc in
    elim (first_line line more read rest free.1 others short) [
      | inl none ↦ inl (λ feed. free.0 (sym first ∙ feed), none)
      | inr is ↦ inr (ap (λ (d : ℕ). d ∷ read) first ∙ ap (λ (l : List ℕ). c ∷ l) is)
    ]

-- a put on the first line of a script is answered behind one more line, or at the end
one_put : (settings : Settings) (line bytes : List ℕ) (pair : Pair) → NoFeed line → says (fed_text line) ≡ said.Plain (command.Put pair bytes) → groups_before settings (line ++ 10 ∷ []) ≡ []
one_put settings line bytes pair free is =
    ap (λ (l : List ℕ). ended_from settings 1 None (map says (lines_of l))) (fed-feed line [])
    ∙ ap (λ (l : List (List ℕ)). ended_from settings 1 None (map says l)) (lines_of-fed line [] free)
    ∙ ap (λ (s : Line). (line_step settings 1 None s).groups ++ []) is

-- a load that tells of one, though its source was given back with a byte of the next line, and all that comes behind that
pub answered_on_its_line : (settings : Settings) (line more rest bytes : List ℕ) (pair : Pair) (group : Group) (groups : List Group) → NoFeed line
    → says (fed_text line) ≡ said.Plain (command.Put pair bytes) → 0 < length more → length more ≤ length rest → ReadsTo settings (line ++ 10 ∷ more) (Some rest) (group ∷ groups) → ⊥
answered_on_its_line settings line more rest bytes pair group groups free is some short reads =
    let read = reads.read in
    let had = reads.bytes in
    let rest_is : rest ≡ had.0 = (let told = had.1 in cc) in
    let same : read ++ rest ≡ line ++ 10 ∷ more = ap (λ (l : List ℕ). read ++ l) rest_is ∙ sym had.2 in
    elim reads.ends [
      | inl front ↦ elim (first_line line more read rest free same short) [
        | inl none ↦ no_groups group groups (subst (λ (l : List ℕ). IsFront (group ∷ groups) (ended_from settings 1 None (map says (lines_of l)))) (fed-none read none) front)
        | inr all ↦ no_groups group groups (subst (λ (l : List Group). IsFront (group ∷ groups) l) (ap (λ (l : List ℕ). groups_before settings l) all ∙ one_put settings line bytes pair free is) front)
      ]
      | inr whole ↦
          let long = sym (length-append read rest) ∙ ap (λ (l : List ℕ). length l) same in
          let read_is = ap (λ (l : List ℕ). length l) whole.0 in
          absurd (omega (arith, long, read_is, some, short))
    ]

-- one that was cut short so, or broke, or wanted memory
pub cut_short_on_its_line : (Tells : Type 0) (settings : Settings) (line more rest bytes : List ℕ) (old new : ℕ → HeldDisk) (shelf shelf' : ℕ) (before after : Option (List ℕ))
    (pair : Pair) → NoFeed line
    → says (fed_text line) ≡ said.Plain (command.Put pair bytes) → 0 < length more → length more ≤ length rest
    → CutsShort Tells settings (line ++ 10 ∷ more) old new shelf shelf' before after (Some rest) → ⊥
cut_short_on_its_line Tells settings line more rest bytes old new shelf shelf' before after pair free is some short cuts =
    by cuts.groups cuts.last cuts.some cuts.reads
  where
    by : (groups last : List Group) → last ≢ [] → ReadsTo settings (line ++ 10 ∷ more) (Some rest) (groups ++ last) → ⊥
    by [] [] none reads = none refl
    by [] (group ∷ last) none reads = answered_on_its_line settings line more rest bytes pair group last free is some short reads
    by (group ∷ groups) last none reads = answered_on_its_line settings line more rest bytes pair group (groups ++ last) free is some short reads

pub broke_on_its_line : (Tells : Type 0) (settings : Settings) (line more rest bytes : List ℕ) (old new : ℕ → HeldDisk) (shelf shelf' : ℕ) (before after : Option (List ℕ)) (pair : Pair)
    (Writes : Option (List ℕ) → List ℕ → List ℕ → Option (List ℕ) → Type 0) → NoFeed line
    → says (fed_text line) ≡ said.Plain (command.Put pair bytes) → 0 < length more → length more ≤ length rest
    → Breaks Tells settings (line ++ 10 ∷ more) old new shelf shelf' before after (Some rest) Writes → ⊥
broke_on_its_line Tells settings line more rest bytes old new shelf shelf' before after pair Writes free is some short breaks =
    by breaks.groups breaks.reads
  where
    by : (groups : List Group) → ReadsTo settings (line ++ 10 ∷ more) (Some rest) (groups ++ Batch breaks.line breaks.photos ∷ []) → ⊥
    by [] reads = answered_on_its_line settings line more rest bytes pair (Batch breaks.line breaks.photos) [] free is some short reads
    by (group ∷ groups) reads = answered_on_its_line settings line more rest bytes pair group (groups ++ Batch breaks.line breaks.photos ∷ []) free is some short reads

pub wanted_behind_an_answer_on_its_line : (Tells : Type 0) (settings : Settings) (line more rest bytes : List ℕ) (old new : ℕ → HeldDisk) (shelf shelf' : ℕ)
    (before after : Option (List ℕ)) (pair : Pair) → NoFeed line
    → says (fed_text line) ≡ said.Plain (command.Put pair bytes) → 0 < length more → length more ≤ length rest
    → (wants : Wants Tells settings (line ++ 10 ∷ more) old new shelf shelf' before after (Some rest)) → wants.groups ≢ [] → ⊥
wanted_behind_an_answer_on_its_line Tells settings line more rest bytes old new shelf shelf' before after pair free is some short wants answered =
    by wants.groups answered wants.reads
  where
    by : (groups : List Group) → groups ≢ [] → ReadsTo settings (line ++ 10 ∷ more) (Some rest) (groups ++ wants.next) → ⊥
    by [] some reads = some refl
    by (group ∷ groups) none reads = answered_on_its_line settings line more rest bytes pair group (groups ++ wants.next) free is some short reads

-- one whose source was given back with bytes that it never had
pub gave_back_other_bytes : (settings : Settings) (script rest : List ℕ) (groups : List Group) → ((read : List ℕ) → script ≡ read ++ rest → ⊥) → ReadsTo settings script (Some rest) groups → ⊥
gave_back_other_bytes settings script rest groups other reads =
    let bytes = reads.bytes in
    let same : bytes.0 ≡ rest = (let is = bytes.1 in cc) in
    other reads.read (bytes.2 ∙ ap (λ (l : List ℕ). reads.read ++ l) same)
