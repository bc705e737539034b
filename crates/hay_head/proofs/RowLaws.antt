-- Files of rows, as logs.
use Rattle.std.proofs.Common.{◌≡◌, ◌⊎◌, inl, inr, ◌<◌, ◌+◌, ◌*◌, ℕ, zero, suc, List, [], ◌∷◌, ◌++◌, length, get_or, take, drop, refl, sym, ◌∙◌, ap, subst, arith, length-append, append-nil}
use Rattle.std.proofs.Math.Seq.{take-add}
use Rattle.std.proofs.lemmas.List.{take_at, drop_at, drop-drop, drop-take, take-take, flat_map_more}
use Rattle.std.specs.List.{flat_map}
use Rattle.hay_disk.specs.Disk.{FileState, IsImage, IsSolidIn}
use Rattle.hay_disk.specs.Gate.{magic_bytes, record_of, end_mark, HasBytesAt, IsClosed, IsLog, LogGrows, LogStays}
use Rattle.hay_head.specs.Rows.{HasRows}

-- A FILE OF ROWS IS A LOG

rows_length : {R : Type 0} (row : R → List ℕ) (superblock file : List ℕ) (rows : List R) (end : ℕ) → HasRows row superblock file rows end → length (superblock ++ flat_map row rows) ≡ end
rows_length row superblock file rows end has = omega (arith, length-append superblock (flat_map row rows), has.long, has.ends)

pub rows_log : {R : Type 0} (magic : ℕ) (row : R → List ℕ) (superblock file : List ℕ) (rows : List R) (end : ℕ) → HasRows row superblock file rows end → IsClosed magic end file
    → IsLog magic (superblock ++ flat_map row rows) file
rows_log magic row superblock file rows end has closed =
    let whole = rows_length row superblock file rows end has in
    record {
      begins = ap (λ k. take k file) whole ∙ has.front;
      closed = subst (λ k. IsClosed magic k file) (sym whole) closed;
    }

-- one row more
pub one_more : {R : Type 0} (magic : ℕ) (row : R → List ℕ) (superblock file bytes : List ℕ) (rows : List R) (end next : ℕ) (r : R) → length superblock ≡ 64 → 64 + length (flat_map row rows) ≡ end
    → row r ≡ record_of magic bytes → end + length (row r) ≡ next → IsLog magic ((superblock ++ flat_map row rows) ++ record_of magic bytes) file
    → HasRows row superblock file (rows ++ r ∷ []) next × IsClosed magic next file
one_more magic row superblock file bytes rows end next r long ends is nexts log =
    let all = flat_map row (rows ++ r ∷ []) in
    let more : (superblock ++ flat_map row rows) ++ record_of magic bytes ≡ superblock ++ all =
    ap (λ (l : List ℕ). (superblock ++ flat_map row rows) ++ l) (sym is) ∙ flat_map_more row superblock rows r in
    let last : length (superblock ++ all) ≡ next =
    omega (arith, ap length (flat_map_more row superblock rows r), length-append (superblock ++ flat_map row rows) (row r), length-append superblock (flat_map row rows)) in
    let whole : IsLog magic (superblock ++ all) file = subst (λ (l : List ℕ). IsLog magic l file) more log in (
      record {
        long = long;
        front = ap (λ k. take k file) (sym last) ∙ whole.begins;
        ends = omega (arith, last, length-append superblock all);
      },
      subst (λ k. IsClosed magic k file) last whole.closed,
    )

-- a gated append of a row
pub rows_grow : {R : Type 0} (magic : ℕ) (row : R → List ℕ) (superblock old new body bytes : List ℕ) (rows : List R) (end next : ℕ) (r : R) → row r ≡ record_of magic bytes → body ≡ bytes ++ end_mark
    → end + length (row r) ≡ next → LogGrows magic end body old new → HasRows row superblock old rows end → IsClosed magic end old
    → HasRows row superblock new (rows ++ r ∷ []) next × IsClosed magic next new
rows_grow magic row superblock old new body bytes rows end next r is body_is nexts grows has closed =
    one_more magic row superblock new bytes rows end next r has.long has.ends is nexts
    (grows.longer (superblock ++ flat_map row rows) bytes (rows_length row superblock old rows end has) body_is (rows_log magic row superblock old rows end has closed))

-- the same rows in another file
same_rows : {R : Type 0} (magic : ℕ) (row : R → List ℕ) (superblock file : List ℕ) (rows : List R) (end : ℕ) → length superblock ≡ 64 → 64 + length (flat_map row rows) ≡ end
    → IsLog magic (superblock ++ flat_map row rows) file → HasRows row superblock file rows end × IsClosed magic end file
same_rows magic row superblock file rows end long ends log =
    let whole : length (superblock ++ flat_map row rows) ≡ end = omega (arith, length-append superblock (flat_map row rows)) in (
      record { long = long; front = ap (λ k. take k file) (sym whole) ∙ log.begins; ends = ends },
      subst (λ k. IsClosed magic k file) whole log.closed,
    )

pub rows_stay : {R : Type 0} (magic : ℕ) (row : R → List ℕ) (superblock body bytes image : List ℕ) (old new : FileState) (rows : List R) (end next : ℕ) (r : R)
    → row r ≡ record_of magic bytes → body ≡ bytes ++ end_mark
    → end + length (row r) ≡ next → LogStays magic end body old new → HasRows row superblock old.now rows end → IsClosed magic end old.now → IsSolidIn 0 end old → IsImage new image
    → (HasRows row superblock image rows end × IsClosed magic end image) ⊎ (HasRows row superblock image (rows ++ r ∷ []) next × IsClosed magic next image)
rows_stay magic row superblock body bytes image old new rows end next r is body_is nexts stays has closed solid leaves =
    elim (stays.image (superblock ++ flat_map row rows) bytes image (rows_length row superblock old.now rows end has) body_is
    (rows_log magic row superblock old.now rows end has closed) solid leaves) [
      | inl log ↦ inl (same_rows magic row superblock image rows end has.long has.ends log)
      | inr log ↦ inr (one_more magic row superblock image bytes rows end next r has.long has.ends is nexts log)
    ]

-- THE ROWS ONE BY ONE

length-rows : {R : Type 0} (row : R → List ℕ) (w : ℕ) (rows : List R) → ((r : R) → length (row r) ≡ w) → length (flat_map row rows) ≡ length rows * w
length-rows row w [] wide = omega arith
length-rows row w (r ∷ rows) wide = omega (arith, length-append (row r) (flat_map row rows), wide r, length-rows row w rows wide)

pub stands_first : (at : ℕ) (xs ys file : List ℕ) → HasBytesAt at (xs ++ ys) file → HasBytesAt at xs file
stands_first at xs ys file stand =
    let whole : length (xs ++ ys) ≡ length xs + length ys = length-append xs ys in
    sym (take-take (length xs) (length (xs ++ ys)) (drop at file) (omega arith)) ∙ ap (λ (l : List ℕ). take (length xs) l) stand ∙ take_at xs ys (length xs) refl

pub stands_second : (at : ℕ) (xs ys file : List ℕ) → HasBytesAt at (xs ++ ys) file → HasBytesAt (at + length xs) ys file
stands_second at xs ys file stand =
    let whole : length (xs ++ ys) ≡ length xs + length ys = length-append xs ys in
    let there : drop (length xs) (drop at file) ≡ drop (at + length xs) file = drop-drop (length xs) at file ∙ ap (λ k. drop k file) (omega arith) in
    ap (λ (l : List ℕ). take (length ys) l) (sym there) ∙ sym (drop-take (length xs) (length ys) (drop at file)) ∙ ap (λ k. drop (length xs) (take k (drop at file))) (sym whole)
    ∙ ap (λ (l : List ℕ). drop (length xs) l) stand ∙ drop_at xs ys (length xs) refl

row_at : {R : Type 0} (row : R → List ℕ) (w at i : ℕ) (rows : List R) (d : R) (file : List ℕ) → ((r : R) → length (row r) ≡ w) → i < length rows → HasBytesAt at (flat_map row rows) file
    → HasBytesAt (at + i * w) (row (get_or rows i d)) file
row_at row w at i [] d file wide below stand = absurd (omega arith)
row_at row w at zero (r ∷ rows) d file wide below stand =
    subst (λ k. HasBytesAt k (row r) file) (omega arith) (stands_first at (row r) (flat_map row rows) file stand)
row_at row w at (suc i) (r ∷ rows) d file wide below stand =
    let rest : HasBytesAt (at + w) (flat_map row rows) file = subst (λ k. HasBytesAt (at + k) (flat_map row rows) file) (wide r) (stands_second at (row r) (flat_map row rows) file stand) in
    let there : (at + w) + i * w ≡ at + suc i * w = omega arith in
    subst (λ k. HasBytesAt k (row (get_or rows i d)) file) there (row_at row w (at + w) i rows d file wide (omega arith) rest)

pub rows_stand : {R : Type 0} (row : R → List ℕ) (superblock file : List ℕ) (rows : List R) (end : ℕ) → HasRows row superblock file rows end → HasBytesAt 64 (flat_map row rows) file
rows_stand row superblock file rows end has =
    let count = length (flat_map row rows) in
    sym (drop-take 64 count file) ∙ ap (λ k. drop 64 (take k file)) has.ends ∙ ap (λ (l : List ℕ). drop 64 l) has.front ∙ drop_at superblock (flat_map row rows) 64 has.long

-- the row of this number stands at its place
pub numbered_row : {R : Type 0} (row : R → List ℕ) (w i : ℕ) (superblock file : List ℕ) (rows : List R) (end : ℕ) (d : R) → ((r : R) → length (row r) ≡ w)
    → HasRows row superblock file rows end → i < length rows
    → HasBytesAt (64 + i * w) (row (get_or rows i d)) file
numbered_row row w i superblock file rows end d wide has below = row_at row w 64 i rows d file wide below (rows_stand row superblock file rows end has)

-- they end behind the last of them
pub rows_end : {R : Type 0} (row : R → List ℕ) (w : ℕ) (superblock file : List ℕ) (rows : List R) (end : ℕ) → ((r : R) → length (row r) ≡ w) → HasRows row superblock file rows end
    → end ≡ 64 + length rows * w
rows_end row w superblock file rows end wide has = omega (arith, has.ends, length-rows row w rows wide)

-- where a row stands its magic does
pub row_magic : (magic at : ℕ) (row bytes file : List ℕ) → row ≡ record_of magic bytes → HasBytesAt at row file → take 8 (drop at file) ≡ magic_bytes magic
row_magic magic at row bytes file is stand =
    let long : length row ≡ 8 + length bytes = ap length is ∙ length-append (magic_bytes magic) bytes in
    sym (take-take 8 (length row) (drop at file) (omega arith)) ∙ ap (λ (l : List ℕ). take 8 l) (stand ∙ is) ∙ take_at (magic_bytes magic) bytes 8 refl

-- the file begins with the superblock
pub front_is : {R : Type 0} (row : R → List ℕ) (superblock file : List ℕ) (rows : List R) (end : ℕ) → HasRows row superblock file rows end → take 64 file ≡ superblock
front_is row superblock file rows end has =
    sym (take-take 64 end file (omega (arith, has.ends))) ∙ ap (λ (l : List ℕ). take 64 l) has.front ∙ take_at superblock (flat_map row rows) 64 has.long

-- one row more that stands
pub rows_lead : {R : Type 0} (row : R → List ℕ) (superblock file : List ℕ) (rows : List R) (end next : ℕ) (r : R) → HasRows row superblock file rows end
    → HasBytesAt end (row r) file → end + length (row r) ≡ next
    → HasRows row superblock file (rows ++ r ∷ []) next
rows_lead row superblock file rows end next r has stand nexts = record {
  long = has.long;
  front = ap (λ k. take k file) (sym nexts) ∙ take-add end (length (row r)) file ∙ ap (λ (l : List ℕ). l ++ take (length (row r)) (drop end file)) has.front
      ∙ ap (λ (l : List ℕ). (superblock ++ flat_map row rows) ++ l) stand ∙ flat_map_more row superblock rows r;
  ends =
      omega (
        arith,
        has.ends,
        has.long,
        ap length (flat_map_more row superblock rows r),
        length-append (superblock ++ flat_map row rows) (row r),
        length-append superblock (flat_map row rows),
        length-append superblock (flat_map row (rows ++ r ∷ [])),
      );
}

-- the superblock alone
pub no_rows : {R : Type 0} (row : R → List ℕ) (superblock file : List ℕ) → length superblock ≡ 64 → take 64 file ≡ superblock → HasRows row superblock file [] 64
no_rows row superblock file long is = record { long = long; front = is ∙ sym (append-nil superblock); ends = refl }
