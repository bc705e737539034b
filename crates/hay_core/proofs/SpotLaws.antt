-- What spots show, and that it stays where files grow and are added.
use Rattle.std.proofs.Common.{◌≡◌, ℕ, zero, suc, ◌+◌, Bool, true, false, cond, List, [], ◌∷◌, ◌++◌, length, get_or, ◌<◌, Some, None, refl, sym, ap, ◌∙◌, append_assoc, length-append, subst, arith}
use Rattle.std.specs.Prelude.{slice_get, Result, Ok, Err, IfOk}
use Rattle.hay_needle.specs.declared.needle.Pair.{Pair}
use Rattle.hay_needle.specs.declared.needle.Outcome.{Outcome}
use Rattle.hay_needle.specs.declared.needle.Outcome.TheVariants as outcome
use Rattle.hay_needle.specs.declared.needle.Needle.{Needle}
use Rattle.hay_needle.specs.Tables.{pair_eq, look_after, look, needle_row, rows_of}
use Rattle.hay_needle.proofs.TableLaws.{Extends}
use Rattle.hay_core.specs.declared.machine.Spot.{Spot}
use Rattle.hay_core.specs.declared.machine.Spot.TheVariants.{Absent, Live, Gone}
use Rattle.hay_core.specs.declared.machine.Mapped.{Mapped}
use Rattle.hay_core.specs.Spots.{spot_after, spots_of, needle_at}
use Rattle.hay_core.specs.Goodness.{ShowsIn}

-- what a spot shows stays when its file grows, and when a file is added
file_more : (past : List (List Needle)) (cs ds : List Needle) → Extends cs ds → (g n : ℕ) (c : Needle) → needle_at (past ++ cs ∷ []) g n ≡ Some c
    → (d : Needle) × (needle_at (past ++ ds ∷ []) g n ≡ Some d) × (d.photo ≡ c.photo)
file_more [] cs ds h zero n c e = h n c e
file_more [] cs ds h (suc g) n c e = absurd cc
file_more (f ∷ past) cs ds h zero n c e = (c, e, refl)
file_more (f ∷ past) cs ds h (suc g) n c e = file_more past cs ds h g n c e

pub shows_more : (past : List (List Needle)) (cs ds : List Needle) (x : Spot) (o : Outcome) → Extends cs ds → ShowsIn (past ++ cs ∷ []) x o → ShowsIn (past ++ ds ∷ []) x o
shows_more past cs ds Absent o h s = s
shows_more past cs ds Gone o h s = s
shows_more past cs ds (Live g n) o h s =
    let more = file_more past cs ds h g n s.0 s.1 in
    (more.0, more.1, s.2 ∙ ap (λ x. outcome.Photo x) (sym more.2))

file_next : (files : List (List Needle)) (f : List Needle) (g n : ℕ) (c : Needle) → needle_at files g n ≡ Some c → needle_at (files ++ f ∷ []) g n ≡ Some c
file_next [] f g n c e = absurd cc
file_next (x ∷ files) f zero n c e = e
file_next (x ∷ files) f (suc g) n c e = file_next files f g n c e

pub shows_next : (files : List (List Needle)) (f : List Needle) (x : Spot) (o : Outcome) → ShowsIn files x o → ShowsIn (files ++ f ∷ []) x o
shows_next files f Absent o s = s
shows_next files f Gone o s = s
shows_next files f (Live g n) o s = (s.0, file_next files f g n s.0 s.1, s.2)

-- the map of a file shows the table of its needles
last_file : (past : List (List Needle)) (cs : List Needle) (n : ℕ) → needle_at (past ++ cs ∷ []) (length past) n ≡ slice_get cs n
last_file [] cs n = refl
last_file (f ∷ past) cs n = last_file past cs n

seam : (pre cs : List Needle) (c : Needle) → slice_get (pre ++ c ∷ cs) (length pre) ≡ Some c
seam [] cs c = refl
seam (x ∷ pre) cs c = seam pre cs c

spot_step : (files : List (List Needle)) (g n : ℕ) (c : Needle) (x : Spot) (o : Outcome) → needle_at files g n ≡ Some c → ShowsIn files x o
    → (b d : Bool) → ShowsIn files (cond b (cond d Gone (Live g n)) x) (cond b (cond d outcome.Nothing (outcome.Photo c.photo)) o)
spot_step files g n c x o at s true true = refl
spot_step files g n c x o at s true false = (c, at, refl)
spot_step files g n c x o at s false d = s

spots_from : (past : List (List Needle)) (pre cs : List Needle) (n : ℕ) (p : Pair) (x : Spot) (o : Outcome) → n ≡ length pre
    → ShowsIn (past ++ (pre ++ cs) ∷ []) x o → ShowsIn (past ++ (pre ++ cs) ∷ []) (spot_after (spots_of (length past) n cs) p x) (look_after (rows_of cs) p o)
spots_from past pre [] n p x o e s = s
spots_from past pre (c ∷ cs) n p x o e s =
    let files = past ++ (pre ++ c ∷ cs) ∷ [] in
    let at : needle_at files (length past) n ≡ Some c = last_file past (pre ++ c ∷ cs) n ∙ ap (λ k. slice_get (pre ++ c ∷ cs) k) e ∙ seam pre cs c in
    let now = spot_step files (length past) n c x o at s (pair_eq c.pair p) c.deleted in
    let same : (pre ++ c ∷ []) ++ cs ≡ pre ++ c ∷ cs = append_assoc pre (c ∷ []) cs in
    let P : List Needle → Type 0 =
    λ whole. ShowsIn (past ++ whole ∷ []) (spot_after (spots_of (length past) (n + 1) cs) p (cond (pair_eq c.pair p) (cond c.deleted Gone (Live (length past) n)) x))
    (look_after (rows_of cs) p (cond (pair_eq c.pair p) (needle_row c).outcome o)) in
    let Q : List Needle → Type 0 = λ whole. ShowsIn (past ++ whole ∷ []) (cond (pair_eq c.pair p) (cond c.deleted Gone (Live (length past) n)) x) (cond (pair_eq c.pair p) (needle_row c).outcome o) in
    let long : n + 1 ≡ length (pre ++ c ∷ []) = omega (arith, e, length-append pre (c ∷ [])) in
    subst P same (spots_from past (pre ++ c ∷ []) cs (n + 1) p (cond (pair_eq c.pair p) (cond c.deleted Gone (Live (length past) n)) x)
    (cond (pair_eq c.pair p) (needle_row c).outcome o) long (subst Q (sym same) now))

pub spots_show : (past : List (List Needle)) (cs : List Needle) (p : Pair) → ShowsIn (past ++ cs ∷ []) (spot_after (spots_of (length past) 0 cs) p Absent) (look (rows_of cs) p)
spots_show past cs p = spots_from past [] cs 0 p Absent outcome.Nothing refl refl

pub spot_append : (xs ys : List Mapped) (p : Pair) (x : Spot) → spot_after (xs ++ ys) p x ≡ spot_after ys p (spot_after xs p x)
spot_append [] ys p x = refl
spot_append (m ∷ xs) ys p x = spot_append xs ys p (cond (pair_eq m.pair p) m.spot x)

-- where a file lies among the files
pub needle_in_past : (past : List (List Needle)) (current : List Needle) (g n : ℕ) (file : List Needle) → g < length past → file ≡ get_or past g file
    → needle_at (past ++ current ∷ []) g n ≡ slice_get file n
needle_in_past [] current g n file h is = absurd (omega arith)
needle_in_past (f ∷ past) current zero n file h is = ap (λ (ns : List Needle). slice_get ns n) (sym is)
needle_in_past (f ∷ past) current (suc g) n file h is = needle_in_past past current g n file (omega arith) is

pub needle_in_current : (past : List (List Needle)) (current : List Needle) (g n : ℕ) → g ≡ length past → needle_at (past ++ current ∷ []) g n ≡ slice_get current n
needle_in_current past current g n is = ap (λ (k : ℕ). needle_at (past ++ current ∷ []) k n) is ∙ last_file past current n

pub needle_in_none : (past : List (List Needle)) (current : List Needle) (g n : ℕ) → length past < g → needle_at (past ++ current ∷ []) g n ≡ None
needle_in_none [] current zero n h = absurd (omega arith)
needle_in_none [] current (suc g) n h = refl
needle_in_none (f ∷ past) current zero n h = absurd (omega arith)
needle_in_none (f ∷ past) current (suc g) n h = needle_in_none past current g n (omega arith)

pub if_ok_same : {T E : Type 0} (r : Result T E) (a b : T) → a ≡ b → IfOk r (λ o. o ≡ a) → IfOk r (λ o. o ≡ b)
if_ok_same (Ok x) a b same h = h ∙ same
if_ok_same (Err e) a b same h = tt
