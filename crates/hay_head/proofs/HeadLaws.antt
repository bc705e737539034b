-- The rows of a head file.
use Rattle.std.proofs.Common.{◌≡◌, ◌≢◌, ◌⊎◌, inl, inr, ◌<◌, ◌≤◌, ◌+◌, ℕ, zero, suc, false, List, [], ◌∷◌, ◌++◌, length, get_or, take, drop, refl, sym, ◌∙◌, ap, subst, arith}
use Rattle.std.proofs.Common.{length-append, length-take, length-drop, append_assoc, append-nil, take-append-drop, lit<}
use borrow.Rule.Slice.PartMut.{put_mid}
use Rattle.std.specs.Prelude.{Option, Some, None, IfNone, IsNone}
use Rattle.std.specs.List.{range_with_len}
use Rattle.std.specs.Int.{bytes_high_first}
use Rattle.std.proofs.lemmas.Bool.{cases_lt}
use Rattle.std.proofs.lemmas.List.{take_at, take_all, drop_at, drop_all, drop-drop, take-take}
use Rattle.std.proofs.lemmas.List.FromFn.{length-range_with_len, get_or-range_with_len}
use Rattle.hay_needle.specs.declared.settings.TheConstants.{LAST_GENERATION}
use Rattle.hay_disk.specs.Disk.{FileState, IsImage, IsSolid, IsSolidIn, overwrite}
use Rattle.hay_disk.specs.Gate.{magic_bytes, record_of, end_mark, HasBytesAt, IsClosed, IsGate, LogGrows, LogStays}
use Rattle.hay_disk.proofs.Logs.{not_mark}
use Rattle.hay_head.specs.Rows.{HasRows, IsCutAt}
use Rattle.hay_head.specs.Head.{head_magic, head_row, row_place, LeadsTo, IsHead, IsBrokenRow, IsBrokenAt}
use Rattle.hay_head.proofs.RowLaws.{rows_grow, rows_stay, rows_lead, no_rows, numbered_row, row_magic}

pub head_row_is : (g : ℕ) → head_row g ≡ record_of head_magic (bytes_high_first 8 g)
unfolding head_row
head_row_is g = refl

pub length-head_row : (g : ℕ) → length (head_row g) ≡ 16
unfolding head_row
length-head_row g = refl

-- one generation more
range_more : (a n : ℕ) → range_with_len a (suc n) ≡ range_with_len a n ++ (a + n) ∷ []
range_more a zero = ap (λ (k : ℕ). k ∷ []) (omega arith)
range_more a (suc n) = ap (λ (l : List ℕ). a ∷ l) (range_more (a + 1) n ∙ ap (λ (k : ℕ). range_with_len (a + 1) n ++ k ∷ []) (omega arith))

next_range : (n : ℕ) → range_with_len 0 n ++ n ∷ [] ≡ range_with_len 0 (n + 1)
next_range n =
    let last : n ≡ 0 + n = omega arith in
    let more : suc n ≡ n + 1 = omega arith in
    ap (λ (k : ℕ). range_with_len 0 n ++ k ∷ []) last ∙ sym (range_more 0 n) ∙ ap (λ (k : ℕ). range_with_len 0 k) more

-- THE NEXT ROW IS APPENDED

more_head : (superblock file : List ℕ) (next : ℕ) → next ≤ LAST_GENERATION → HasRows head_row superblock file (range_with_len 0 next ++ next ∷ []) (row_place (next + 1))
    × IsClosed head_magic (row_place (next + 1)) file
    → IsHead superblock file next
more_head superblock file next most is = record {
  most = most;
  rows = subst (λ l. HasRows head_row superblock file l (row_place (next + 1))) (next_range next) is.0;
  closed = is.1;
}

pub head_grows : (superblock old new body : List ℕ) (g next : ℕ) → next ≡ g + 1 → next ≤ LAST_GENERATION → body ≡ bytes_high_first 8 next ++ end_mark
    → LogGrows head_magic (row_place next) body old new → IsHead superblock old g
    → IsHead superblock new next
head_grows superblock old new body g next nexts most body_is grows is =
    let rows : LeadsTo superblock old next = subst (λ k. LeadsTo superblock old k) (sym nexts) is.rows in
    let closed : IsClosed head_magic (row_place next) old = subst (λ k. IsClosed head_magic (row_place k) old) (sym nexts) is.closed in
    more_head superblock new next most
    (rows_grow head_magic head_row superblock old new body (bytes_high_first 8 next) (range_with_len 0 next) (row_place next) (row_place (next + 1)) next (head_row_is next) body_is
    (omega (arith, length-head_row next)) grows rows closed)

pub head_stays : (superblock body image : List ℕ) (old new : FileState) (g next : ℕ) → next ≡ g + 1 → next ≤ LAST_GENERATION → body ≡ bytes_high_first 8 next ++ end_mark
    → LogStays head_magic (row_place next) body old new
    → IsHead superblock old.now g → IsSolidIn 0 (row_place next) old → IsImage new image → IsHead superblock image g ⊎ IsHead superblock image next
head_stays superblock body image old new g next nexts most body_is stays is solid leaves =
    let rows : LeadsTo superblock old.now next = subst (λ k. LeadsTo superblock old.now k) (sym nexts) is.rows in
    let closed : IsClosed head_magic (row_place next) old.now = subst (λ k. IsClosed head_magic (row_place k) old.now) (sym nexts) is.closed in
    elim (rows_stay head_magic head_row superblock body (bytes_high_first 8 next) image old new (range_with_len 0 next) (row_place next) (row_place (next + 1)) next
    (head_row_is next) body_is (omega (arith, length-head_row next)) stays rows closed solid leaves) [
      | inl same ↦ inl (record {
        most = is.most;
        rows = subst (λ k. LeadsTo superblock image k) nexts same.0;
        closed = subst (λ k. IsClosed head_magic (row_place k) image) nexts same.1;
      })
      | inr more ↦ inr (more_head superblock image next most more)
    ]

-- A FRESH HEAD

pub formatted : (superblock bytes old new : List ℕ) → length superblock ≡ 64 → bytes ≡ superblock ++ (head_row 0 ++ end_mark) → new ≡ overwrite 0 bytes old → IsHead superblock new 0
formatted superblock bytes old new long is written =
    let tail = drop (0 + length bytes) old in
    let row = head_row 0 in
    let whole : new ≡ superblock ++ (row ++ (end_mark ++ tail)) =
    written ∙ ap (λ (l : List ℕ). l ++ tail) is ∙ append_assoc superblock (row ++ end_mark) tail ∙ ap (λ (l : List ℕ). superblock ++ l) (append_assoc row end_mark tail) in
    let behind : drop 64 new ≡ row ++ (end_mark ++ tail) = ap (λ (l : List ℕ). drop 64 l) whole ∙ drop_at superblock (row ++ (end_mark ++ tail)) 64 long in
    let stand : HasBytesAt 64 row new = ap (λ (l : List ℕ). take (length row) l) behind ∙ take_at row (end_mark ++ tail) (length row) refl in
    let both : new ≡ (superblock ++ row) ++ (end_mark ++ tail) = whole ∙ sym (append_assoc superblock row (end_mark ++ tail)) in
    let first : length (superblock ++ row) ≡ 80 = omega (arith, length-append superblock row, long, length-head_row 0) in
    let mark : take 8 (drop 80 new) ≡ end_mark = ap (λ (l : List ℕ). take 8 (drop 80 l)) both ∙ ap (λ (l : List ℕ). take 8 l) (drop_at (superblock ++ row) (end_mark ++ tail) 80 first) in
    let begins : take 64 new ≡ superblock = ap (λ (l : List ℕ). take 64 l) whole ∙ take_at superblock (row ++ (end_mark ++ tail)) 64 long in
    record {
      most = omega arith;
      rows = rows_lead head_row superblock new [] 64 80 0 (no_rows head_row superblock new long begins) stand (omega (arith, length-head_row 0));
      closed = record {
        room = omega (arith, ap length both, length-append (superblock ++ row) (end_mark ++ tail), first);
        shut = λ magic. not_mark head_magic (lit< tt) (lit< tt) (sym mark ∙ magic);
      };
    }

-- once it is on the disk, and no piece stands behind its end, the next row may be appended
pub head_gate : (superblock : List ℕ) (g next : ℕ) (file : FileState) → next ≡ g + 1 → IsHead superblock file.now g → IsSolid file
    → ((k : ℕ) → row_place next ≤ k → file.sealed k ≡ false) → IsGate head_magic (row_place next) file
head_gate superblock g next file nexts is solid free = record {
  closed = subst (λ k. IsClosed head_magic (row_place k) file.now) (sym nexts) is.closed;
  solid = λ k from to. solid.places k;
  free = free;
}

-- A ROW IS READ

-- sixteen bytes with the magic are the row of their number
row_is : (g : ℕ) (row : List ℕ) → length row ≡ 16 → take 8 row ≡ magic_bytes head_magic → take 8 (drop 8 row) ≡ bytes_high_first 8 g → row ≡ head_row g
row_is g row long magic number =
    let last : take 8 (drop 8 row) ≡ drop 8 row = take_all 8 (drop 8 row) (omega (arith, length-drop 8 row)) in
    sym (take-append-drop 8 row) ∙ ap (λ (l : List ℕ). l ++ drop 8 row) magic ∙ ap (λ (l : List ℕ). magic_bytes head_magic ++ l) (sym last ∙ number) ∙ sym (head_row_is g)

row_number : (g : ℕ) (row : List ℕ) → row ≡ head_row g → take 8 (drop 8 row) ≡ bytes_high_first 8 g
unfolding head_row
row_number g row is = ap (λ (l : List ℕ). take 8 (drop 8 l)) is

pub row_found : (g at : ℕ) (row file : List ℕ) → length row ≡ 16 → take 8 row ≡ magic_bytes head_magic → take 8 (drop 8 row) ≡ bytes_high_first 8 g → at ≡ row_place g
    → HasBytesAt at row file → HasBytesAt (row_place g) (head_row g) file
row_found g at row file long magic number place stand =
    let is : row ≡ head_row g = row_is g row long magic number in
    subst (λ k. HasBytesAt k (head_row g) file) place (subst (λ (l : List ℕ). HasBytesAt at l file) is stand)

stands_magic : (at : ℕ) (row file : List ℕ) → 8 ≤ length row → take 8 row ≡ magic_bytes head_magic → HasBytesAt at row file → take 8 (drop at file) ≡ magic_bytes head_magic
stands_magic at row file long magic stand =
    sym (take-take 8 (length row) (drop at file) long) ∙ ap (λ (l : List ℕ). take 8 l) stand ∙ magic

-- another generation than the next
pub other_row : (g at : ℕ) (row file : List ℕ) → length row ≡ 16 → take 8 row ≡ magic_bytes head_magic → take 8 (drop 8 row) ≢ bytes_high_first 8 g → at ≡ row_place g
    → HasBytesAt at row file → IsBrokenRow g file
other_row g at row file long magic number place stand =
    let here : HasBytesAt (row_place g) row file = subst (λ k. HasBytesAt k row file) place stand in
    let other : HasBytesAt (row_place g) (head_row g) file → ⊥ = λ this.
    number (row_number g row (sym here ∙ ap (λ n. take n (drop (row_place g) file)) (long ∙ sym (length-head_row g)) ∙ this)) in
    inr (inl (stands_magic (row_place g) row file (omega arith) magic here, inl other))

row_room : (at g : ℕ) (file : List ℕ) → HasBytesAt at (head_row g) file → at + 16 ≤ length file
row_room at g file stand = omega (arith, length-head_row g, ap length stand, length-take (length (head_row g)) (drop at file), length-drop at file)

-- fewer bytes than a row has
pub cut_row : (g at : ℕ) (file : List ℕ) → at ≡ row_place g → IsCutAt head_magic 16 at file → IsBrokenRow g file
cut_row g at file place (inl short) = inl (omega arith)
cut_row g at file place (inr cut) =
    let magic : take 8 (drop (row_place g) file) ≡ magic_bytes head_magic = subst (λ k. take 8 (drop k file) ≡ magic_bytes head_magic) place cut.0 in
    let short = cut.1 in
    inr (inl (magic, inl (λ stand. let room = row_room (row_place g) g file stand in omega arith)))

-- ROW AFTER ROW

pub lead_first : (superblock file : List ℕ) → length superblock ≡ 64 → take 64 file ≡ superblock → LeadsTo superblock file 0
lead_first superblock file long begins = no_rows head_row superblock file long begins

pub lead_next : (superblock file : List ℕ) (n : ℕ) → LeadsTo superblock file n → HasBytesAt (row_place n) (head_row n) file → LeadsTo superblock file (n + 1)
lead_next superblock file n lead stand =
    subst (λ l. HasRows head_row superblock file l (row_place (n + 1))) (next_range n)
    (rows_lead head_row superblock file (range_with_len 0 n) (row_place n) (row_place (n + 1)) n lead stand (omega (arith, length-head_row n)))

pub head_found : (superblock file : List ℕ) (n g : ℕ) → n ≡ g + 1 → n ≤ LAST_GENERATION + 1 → LeadsTo superblock file n → IsClosed head_magic (row_place n) file → IsHead superblock file g
head_found superblock file n g is most lead closed = record {
  most = omega arith;
  rows = subst (λ k. LeadsTo superblock file k) is lead;
  closed = subst (λ k. IsClosed head_magic (row_place k) file) is closed;
}

-- the row of each generation below n stands at its place
row_below : (superblock file : List ℕ) (n g : ℕ) → LeadsTo superblock file n → g < n → HasBytesAt (row_place g) (head_row g) file
row_below superblock file n g lead below =
    let there = numbered_row head_row 16 g superblock file (range_with_len 0 n) (row_place n) 0 length-head_row lead (omega (arith, length-range_with_len 0 n)) in
    let is : get_or (range_with_len 0 n) g 0 ≡ g = get_or-range_with_len 0 n g 0 below ∙ omega arith in
    subst (λ k. HasBytesAt (row_place g) (head_row k) file) is there

-- and where it stands there is no end mark
row_open : (g : ℕ) (file : List ℕ) → HasBytesAt (row_place g) (head_row g) file → IsClosed head_magic (row_place g) file → ⊥
row_open g file stand closed = closed.shut (row_magic head_magic (row_place g) (head_row g) (bytes_high_first 8 g) file (head_row_is g) stand)

row_whole : (g : ℕ) (file : List ℕ) → g ≤ LAST_GENERATION → HasBytesAt (row_place g) (head_row g) file → IsBrokenRow g file → ⊥
row_whole g file most stand (inl short) = let room = row_room (row_place g) g file stand in omega arith
row_whole g file most stand (inr (inl (magic, inl other))) = other stand
row_whole g file most stand (inr (inl (magic, inr beyond))) = omega arith
row_whole g file most stand (inr (inr missing)) = row_open g file stand missing.1

mark_whole : (g : ℕ) (file : List ℕ) → 0 < g → IsClosed head_magic (row_place g) file → IsBrokenRow g file → ⊥
mark_whole g file some closed (inl short) = let room = closed.room in omega arith
mark_whole g file some closed (inr (inl begun)) = closed.shut begun.0
mark_whole g file some closed (inr (inr missing)) = let none = missing.0 in omega arith

-- a head file has one generation, and no damage

pub one_generation : (superblock file : List ℕ) (g h : ℕ) → IsHead superblock file g → IsHead superblock file h → g ≡ h
one_generation superblock file g h is also =
    elim (cases_lt g h) [
      | inl below ↦ absurd (row_open (g + 1) file (row_below superblock file (h + 1) (g + 1) also.rows (omega arith)) is.closed)
      | inr least ↦ elim (cases_lt h g) [
        | inl below ↦ absurd (row_open (h + 1) file (row_below superblock file (g + 1) (h + 1) is.rows (omega arith)) also.closed)
        | inr most ↦ omega arith
      ]
    ]

pub no_broken_row : (superblock file : List ℕ) (g n : ℕ) → IsHead superblock file g → LeadsTo superblock file n → IsBrokenRow n file → ⊥
no_broken_row superblock file g n is lead broken =
    elim (cases_lt n (g + 1)) [
      | inl below ↦
          let most = is.most in
          row_whole n file (omega arith) (row_below superblock file (g + 1) n is.rows below) broken
      | inr least ↦ elim (cases_lt (g + 1) n) [
        | inl below ↦ row_open (g + 1) file (row_below superblock file n (g + 1) lead below) is.closed
        | inr most ↦
            let here : g + 1 ≡ n = omega arith in
            mark_whole n file (omega arith) (subst (λ k. IsClosed head_magic (row_place k) file) here is.closed) broken
      ]
    ]

pub undamaged : (superblock file : List ℕ) (g at : ℕ) → IsHead superblock file g → IsBrokenAt superblock file at → ⊥
undamaged superblock file g at is damage = no_broken_row superblock file g damage.next is damage.lead damage.broken

-- and a damaged one is damaged at one place
pub one_damage : (superblock file : List ℕ) (at other : ℕ) → IsBrokenAt superblock file at → IsBrokenAt superblock file other → at ≡ other
one_damage superblock file at other first second =
    let least = first.most in
    let most = second.most in
    elim (cases_lt first.next second.next) [
      | inl below ↦ absurd (row_whole first.next file (omega arith) (row_below superblock file second.next first.next second.lead below) first.broken)
      | inr other_way ↦ elim (cases_lt second.next first.next) [
        | inl below ↦ absurd (row_whole second.next file (omega arith) (row_below superblock file first.next second.next first.lead below) second.broken)
        | inr neither ↦ first.place ∙ ap row_place (let e : first.next ≡ second.next = omega arith in e) ∙ sym second.place
      ]
    ]

-- what an option holds
pub none_is : (o : Option ℕ) (P : Type 0) → o ≡ None → IfNone o P → P
none_is None P e holds = holds
none_is (Some at) P e holds = absurd cc

pub some_is_none : (o : Option ℕ) (at : ℕ) → o ≡ Some at → IsNone o → ⊥
some_is_none None at e holds = absurd cc
some_is_none (Some b) at e holds = absurd cc

-- the superblock, the row of generation 0 and the end mark
pub pasted : (front zeros row : List ℕ) → length front ≡ 64 → length zeros ≡ 24 → put_mid 64 24 (front ++ zeros) row ≡ front ++ row
pasted front zeros row long rest =
    let all : length (front ++ zeros) ≡ 88 = omega (arith, length-append front zeros) in
    ap (λ (l : List ℕ). l ++ (row ++ drop 24 (drop 64 (front ++ zeros)))) (take_at front zeros 64 long)
    ∙ ap (λ (l : List ℕ). front ++ (row ++ l)) (drop-drop 24 64 (front ++ zeros) ∙ drop_all 88 (front ++ zeros) (omega arith)) ∙ ap (λ (l : List ℕ). front ++ l) (append-nil row)
