-- What a restart finds, from its notes.
use Rattle.std.proofs.Common.{◌≡◌, ℕ, zero, suc, ◌+◌, ◌<◌, ◌≤◌, ◌&&◌, Bool, true, false, not, cond, List, [], ◌∷◌, ◌++◌, length, map, drop, replicate, slice_get, Option, Some}
use Rattle.std.proofs.Common.{None, refl, sym, ap, subst, ◌∙◌, ◌⊎◌, inl, inr, arith, append_assoc, drop_of_length-le, get_or}
use Rattle.std.proofs.lemmas.List.{drop_more}
use Rattle.std.specs.List.{AllByRecursion as Each}
use Rattle.hay_needle.specs.declared.settings.Settings.{Settings}
use Rattle.hay_reply.specs.declared.Note.{Note}
use Rattle.hay_legal.specs.declared.known.DirKnown.{DirKnown}
use Rattle.hay_legal.specs.declared.known.HomeRow.{HomeRow}
use Rattle.hay_legal.specs.declared.known.Known.{Known}
use Rattle.hay_legal.specs.declared.known.PendingRow.{PendingRow}
use Rattle.hay_legal.specs.declared.known.ReplicaKnown.{ReplicaKnown}
use Rattle.hay_legal.specs.declared.known.VolumeKnown.{VolumeKnown}
use Rattle.hay_legal.specs.Known.{empty_replica, machine_of}
use Rattle.hay_legal.specs.Restarts.{undrained}
use Rattle.hay_audit_steps.specs.BoxReopen.{is_front}
use Rattle.hay_audit_steps.specs.Reached.{volume_note_count, volumes_note_count}
use Rattle.hay_audit_steps.specs.Reopen.{Read, all_below, kept_by, onto, read_kept, says}
use Rattle.hay_audit.specs.Choosing.{frame_of}

-- WHAT IS READ

-- what was read before, and then this
abbrev pub behind_kept : {X : Type 0} → List X → Option (Read (List X)) → Option (Read (List X))
behind_kept before None = None
behind_kept before (Some read) = Some (record { value = before ++ read.value; rest = read.rest })

pub kept_first : {X : Type 0} (all : List X) (whole : Option (Read (List X))) → all ≡ [] → whole ≡ behind_kept all whole
kept_first all None none = refl
kept_first all (Some read) none = ap (λ (xs : List _). Some (record { value = xs ++ read.value; rest = read.rest })) (sym none)

-- ONE ANSWER MORE

more_read : (all : List Bool) (kept : Bool) (later : Option (Read (List Bool))) → behind_kept all (onto (Some kept) later) ≡ behind_kept (all ++ kept ∷ []) later
more_read all kept None = refl
more_read all kept (Some read) = ap (λ (flags : List Bool). Some (record { value = flags; rest = read.rest })) (sym (append_assoc all (kept ∷ []) read.value))

none_behind : (all : List Bool) (later : Option (Read (List Bool))) → behind_kept all (onto None later) ≡ None
none_behind all None = refl
none_behind all (Some read) = refl

pub read_more : (settings : Settings) (v line j : ℕ) (all new : List Bool) (kept : Bool) (replicas others : List ReplicaKnown) (notes : List Note) (replica : ReplicaKnown)
    (note : Note) (rest : List Note)
    → replicas ≡ replica ∷ others → notes ≡ note ∷ rest → kept_by v (machine_of settings v j) line note ≡ Some kept → new ≡ all ++ kept ∷ []
    → behind_kept all (read_kept settings v line j replicas notes) ≡ behind_kept new (read_kept settings v line (j + 1) others rest)
read_more settings v line j all new kept replicas others notes replica note rest some first says added =
    ap (λ (rs : List ReplicaKnown). behind_kept all (read_kept settings v line j rs notes)) some
    ∙ ap (λ (ns : List Note). behind_kept all (read_kept settings v line j (replica ∷ others) ns)) first
    ∙ ap (λ (o : Option Bool). behind_kept all (onto o (read_kept settings v line (j + 1) others rest))) says
    ∙ more_read all kept (read_kept settings v line (j + 1) others rest)
    ∙ ap (λ (flags : List Bool). behind_kept flags (read_kept settings v line (j + 1) others rest)) (sym added)

pub read_other : (settings : Settings) (v line j : ℕ) (all : List Bool) (replicas others : List ReplicaKnown) (notes : List Note) (replica : ReplicaKnown) (note : Note) (rest : List Note)
    → replicas ≡ replica ∷ others → notes ≡ note ∷ rest → kept_by v (machine_of settings v j) line note ≡ None
    → behind_kept all (read_kept settings v line j replicas notes) ≡ None
read_other settings v line j all replicas others notes replica note rest some first says =
    ap (λ (rs : List ReplicaKnown). behind_kept all (read_kept settings v line j rs notes)) some
    ∙ ap (λ (ns : List Note). behind_kept all (read_kept settings v line j (replica ∷ others) ns)) first
    ∙ ap (λ (o : Option Bool). behind_kept all (onto o (read_kept settings v line (j + 1) others rest))) says
    ∙ none_behind all (read_kept settings v line (j + 1) others rest)

pub read_short : (settings : Settings) (v line j : ℕ) (all : List Bool) (replicas others : List ReplicaKnown) (notes : List Note) (replica : ReplicaKnown)
    → replicas ≡ replica ∷ others → notes ≡ [] → behind_kept all (read_kept settings v line j replicas notes) ≡ None
read_short settings v line j all replicas others notes replica some none =
    ap (λ (rs : List ReplicaKnown). behind_kept all (read_kept settings v line j rs notes)) some
    ∙ ap (λ (ns : List Note). behind_kept all (read_kept settings v line j (replica ∷ others) ns)) none

nothing_more : {X : Type 0} (xs : List X) → xs ++ [] ≡ xs
nothing_more [] = refl
nothing_more (x ∷ xs) = ap (λ (ys : List _). x ∷ ys) (nothing_more xs)

pub read_all : (settings : Settings) (v line j : ℕ) (all : List Bool) (replicas : List ReplicaKnown) (notes : List Note)
    → replicas ≡ [] → behind_kept all (read_kept settings v line j replicas notes) ≡ Some (record { value = all; rest = notes })
read_all settings v line j all replicas notes none =
    ap (λ (rs : List ReplicaKnown). behind_kept all (read_kept settings v line j rs notes)) none
    ∙ ap (λ (flags : List Bool). Some (record { value = flags; rest = notes })) (nothing_more all)

-- what stands at a place
pub at_place : {X : Type 0} (xs : List X) (i : ℕ) (x : X) → i < length xs → x ≡ get_or xs i x → drop i xs ≡ x ∷ drop (i + 1) xs
at_place xs i x below is = drop_more xs i x below ∙ ap (λ (y : _). y ∷ drop (i + 1) xs) (sym is)

pub kept_more : (settings : Settings) (v line j : ℕ) (all new : List Bool) (kept : Bool) (replicas : List ReplicaKnown) (notes : List Note) (whole : Option (Read (List Bool))) (note : Note)
    → j < length replicas → j < length notes → note ≡ get_or notes j note → kept_by v (machine_of settings v j) line note ≡ Some kept → new ≡ all ++ kept ∷ []
    → whole ≡ behind_kept all (read_kept settings v line j (drop j replicas) (drop j notes))
    → whole ≡ behind_kept new (read_kept settings v line (j + 1) (drop (j + 1) replicas) (drop (j + 1) notes))
kept_more settings v line j all new kept replicas notes whole note within there is says added so_far =
    so_far
    ∙ read_more settings v line j all new kept (drop j replicas) (drop (j + 1) replicas) (drop j notes) (get_or replicas j empty_replica) note (drop (j + 1) notes)
    (drop_more replicas j empty_replica within) (at_place notes j note there is) says added

pub kept_other : (settings : Settings) (v line j : ℕ) (all : List Bool) (replicas : List ReplicaKnown) (notes : List Note) (whole : Option (Read (List Bool))) (note : Note)
    → j < length replicas → j < length notes → note ≡ get_or notes j note → kept_by v (machine_of settings v j) line note ≡ None
    → whole ≡ behind_kept all (read_kept settings v line j (drop j replicas) (drop j notes)) → whole ≡ None
kept_other settings v line j all replicas notes whole note within there is says so_far =
    so_far
    ∙ read_other settings v line j all (drop j replicas) (drop (j + 1) replicas) (drop j notes) (get_or replicas j empty_replica) note (drop (j + 1) notes)
    (drop_more replicas j empty_replica within) (at_place notes j note there is) says

pub kept_short : (settings : Settings) (v line j : ℕ) (all : List Bool) (replicas : List ReplicaKnown) (notes : List Note) (whole : Option (Read (List Bool)))
    → j < length replicas → length notes ≤ j → whole ≡ behind_kept all (read_kept settings v line j (drop j replicas) (drop j notes)) → whole ≡ None
kept_short settings v line j all replicas notes whole within short so_far =
    so_far
    ∙ read_short settings v line j all (drop j replicas) (drop (j + 1) replicas) (drop j notes) (get_or replicas j empty_replica)
    (drop_more replicas j empty_replica within) (drop_of_length-le notes short)

pub kept_done : (settings : Settings) (v line j : ℕ) (all : List Bool) (replicas : List ReplicaKnown) (notes : List Note) (whole : Option (Read (List Bool)))
    → length replicas ≤ j → whole ≡ behind_kept all (read_kept settings v line j (drop j replicas) (drop j notes))
    → whole ≡ Some (record { value = all; rest = drop j notes })
kept_done settings v line j all replicas notes whole past so_far = so_far ∙ read_all settings v line j all (drop j replicas) (drop j notes) (drop_of_length-le replicas past)

-- NO DRAIN

pub all_undrained : (drained : List Bool) → map undrained drained ≡ replicate (length drained) false
all_undrained [] = refl
all_undrained (d ∷ drained) = ap (λ (ds : List Bool). false ∷ ds) (all_undrained drained)

-- HOW MANY NOTES

pub notes_on : (volumes : List VolumeKnown) (i count more : ℕ) (volume : VolumeKnown) → i < length volumes → volume ≡ get_or volumes i volume → more ≡ volume_note_count volume
    → count + volumes_note_count (drop i volumes) ≡ (count + more) + volumes_note_count (drop (i + 1) volumes)
notes_on volumes i count more volume below is same =
    ap (λ (vs : List VolumeKnown). count + volumes_note_count vs) (at_place volumes i volume below is)
    ∙ (let e : count + (volume_note_count volume + volumes_note_count (drop (i + 1) volumes)) ≡ (count + more) + volumes_note_count (drop (i + 1) volumes) = omega (arith, same) in e)

-- THE FIRST SO MANY

-- what is left of the answers, behind one that is this
abbrev pub front_from : Bool → List Bool → Bool
front_from true kept = is_front kept
front_from false kept = all_below (λ j. says false (slice_get kept j)) (length kept)

-- THE STORE BUT FOR ITS VOLUMES

abbrev known_by : List VolumeKnown → DirKnown → List Bool → List ℕ → List ℕ → List ℕ → Known
known_by volumes directory drained faults arms fuses = record { volumes = volumes; directory = directory; drained = drained; faults = faults; arms = arms; fuses = fuses }

abbrev directory_by : List HomeRow → Bool → Option PendingRow → DirKnown
directory_by rows frozen pending = record { rows = rows; frozen = frozen; pending = pending }

pub frame_is : (b : Known) (old none : List VolumeKnown) (directory : DirKnown) (drained drained' : List Bool) (faults arms fuses : List ℕ) (before rows more : List HomeRow)
    (frozen : Bool) (pending : Option PendingRow)
    → known_by old directory drained faults arms fuses ≡ b → directory_by before frozen pending ≡ directory → none ≡ [] → rows ≡ before ++ more → drained' ≡ replicate (length drained) false
    → known_by none (directory_by rows false None) drained' faults arms fuses ≡ frame_of b more
frame_is b old none directory drained drained' faults arms fuses before rows more frozen pending state_is directory_is empty rows_are drained_is =
    ap (λ (vs : List VolumeKnown). known_by vs (directory_by rows false None) drained' faults arms fuses) empty
    ∙ ap (λ (rs : List HomeRow). known_by [] (directory_by rs false None) drained' faults arms fuses)
    (rows_are ∙ ap (λ (rs : List HomeRow). rs ++ more) (ap (λ (d : DirKnown). d.rows) directory_is ∙ ap (λ (k : Known). k.directory.rows) state_is))
    ∙ ap (λ (ds : List Bool). known_by [] (directory_by (b.directory.rows ++ more) false None) ds faults arms fuses)
    (drained_is ∙ sym (all_undrained drained) ∙ ap (λ (k : Known). map undrained k.drained) state_is)
    ∙ ap (λ (k : Known). known_by [] (directory_by (b.directory.rows ++ more) false None) (map undrained b.drained) k.faults k.arms k.fuses) state_is

and_swap : (a b d : Bool) → a && (b && d) ≡ b && (a && d)
and_swap true true d = refl
and_swap true false d = refl
and_swap false true d = refl
and_swap false false d = refl

-- the lowest number first
below_first : (test : ℕ → Bool) (n : ℕ) → all_below test (suc n) ≡ test 0 && all_below (λ j. test (suc j)) n
below_first test zero = refl
below_first test (suc n) =
    ap (λ (b : Bool). test (suc n) && b) (below_first test n) ∙ and_swap (test (suc n)) (test 0) (all_below (λ j. test (suc j)) n)

pub front_next : (all flag : Bool) (rest : List Bool) → front_from all (flag ∷ rest) ≡ cond (flag && not all) false (front_from flag rest)
front_next true true rest = refl
front_next true false rest = refl
front_next false true rest = below_first (λ j. says false (slice_get (true ∷ rest) j)) (length rest)
front_next false false rest = below_first (λ j. says false (slice_get (false ∷ rest) j)) (length rest)

pub front_end : (all : Bool) → front_from all [] ≡ true
front_end true = refl
front_end false = refl

-- ONE ANSWER MORE OF A FRONT

stops_here : (all flag later : Bool) → flag ≡ true → all ≡ false → cond (flag && not all) false later ≡ false
stops_here false true later yes_so none = refl
stops_here true true later yes_so none = absurd cc
stops_here all false later yes_so none = absurd cc

goes_here : (all flag later : Bool) → (flag ≡ false) ⊎ (all ≡ true) → cond (flag && not all) false later ≡ later
goes_here all false later so = refl
goes_here true true later so = refl
goes_here false true later (inl lie) = absurd cc
goes_here false true later (inr lie) = absurd cc

front_more : (kept : List Bool) (i : ℕ) (all : Bool) → i < length kept → is_front kept ≡ front_from all (drop i kept)
    → is_front kept ≡ cond (get_or kept i false && not all) false (front_from (get_or kept i false) (drop (i + 1) kept))
front_more kept i all below so_far =
    so_far ∙ ap (λ (flags : List Bool). front_from all flags) (drop_more kept i false below) ∙ front_next all (get_or kept i false) (drop (i + 1) kept)

pub front_stops : (kept : List Bool) (i : ℕ) (all : Bool) → i < length kept → is_front kept ≡ front_from all (drop i kept) → get_or kept i false ≡ true → all ≡ false → false ≡ is_front kept
front_stops kept i all below so_far yes_so none =
    sym (front_more kept i all below so_far ∙ stops_here all (get_or kept i false) (front_from (get_or kept i false) (drop (i + 1) kept)) yes_so none)

pub front_goes : (kept : List Bool) (i : ℕ) (all : Bool) → i < length kept → is_front kept ≡ front_from all (drop i kept) → (get_or kept i false ≡ false) ⊎ (all ≡ true)
    → is_front kept ≡ front_from (get_or kept i false) (drop (i + 1) kept)
front_goes kept i all below so_far so =
    front_more kept i all below so_far ∙ goes_here all (get_or kept i false) (front_from (get_or kept i false) (drop (i + 1) kept)) so
