-- How long the script of a drill may be.
use Rattle.std.specs.Prelude.{flat_map, if◌then◌else◌}
use Rattle.std.specs.List.{range_with_len}
use Rattle.std.proofs.Common.{◌≡◌, ℕ, zero, suc, ◌+◌, ◌*◌, ◌-◌, ◌/◌, ◌%◌, ◌^◌, ◌≤◌, ◌<◌, ◌==◌, Bool, true, false, List, [], ◌∷◌, ◌++◌, length, length-append, Option, Some, None}
use Rattle.std.proofs.Common.{refl, sym, ap, ◌∙◌, arith, lit≤, decimal, codes}
use Rattle.std.proofs.Math.Nat.{suc-mul}
use Rattle.std.proofs.lemmas.List.FromFn.{length-range_with_len}
use Rattle.std.specs.Fmt.{digit_glyph, digits, digits_onto}
use Rattle.hex.specs.Hex.{encode_lower, lower_digits}
use Rattle.hex.proofs.HexLemmas.{length-encode_with}
use Rattle.hay_url.specs.Url.{cookie_of}
use Rattle.hay_url.proofs.Digits.{long_digits}
use Rattle.hay_script.specs.declared.words.TheConstants.{MAX_SCRIPT}
use Rattle.hay_drill.specs.Script.{alts, block, del_line, deletion, drill_script, each_photo, each_replica, key_of, lane_reads, lane_text, put_line, read_line, reads, replacement}
use Rattle.hay_drill.specs.Script.{replica_line, settings, size_of, uploads, volume_lines}

-- DECIMALS

shorter : (b : Bool) (n : ℕ) (xs ys : List ℕ) → length xs ≤ n → length ys ≤ n → length (if b then xs else ys) ≤ n
shorter true n xs ys h k = h
shorter false n xs ys h k = k

digits_most : (k n : ℕ) (acc : List ℕ) → length (digits_onto k 10 false n acc) ≤ k + length acc
digits_most zero n acc = omega arith
digits_most (suc k) n acc =
    let d = digit_glyph false (n % 10) in
    let rest : length (digits_onto k 10 false (n / 10) (d ∷ acc)) ≤ k + suc (length acc) = digits_most k (n / 10) (d ∷ acc) in
    shorter (n / 10 == 0) (suc k + length acc) (d ∷ acc) (digits_onto k 10 false (n / 10) (d ∷ acc)) (omega arith) (omega (arith, rest))

-- of a number of any size
pub decimal_most : (n : ℕ) → length (decimal n) ≤ 64
unfolding digits
decimal_most n = let most : length (digits_onto 64 10 false n []) ≤ 64 + 0 = digits_most 64 n [] in omega (arith, most)

-- MANY TEXTS

pub texts_most : {X : Type 0} (text : X → List ℕ) (most : ℕ) (xs : List X) → ((x : X) → length (text x) ≤ most) → length (flat_map text xs) ≤ length xs * most
texts_most text most [] each = omega arith
texts_most text most (x ∷ xs) each =
    let rest = texts_most text most xs each in
    let here = each x in
    let more : suc (length xs) * most ≡ length xs * most + most = suc-mul (length xs) most in
    let both : length (text x ++ flat_map text xs) ≡ length (text x) + length (flat_map text xs) = length-append (text x) (flat_map text xs) in
    omega (arith, rest, here, more, both)

-- LINES

pub put_most : (key alt byte : ℕ) → length (put_line key alt byte) ≤ 256
put_most key alt byte =
    let k = decimal_most key in
    let a = decimal_most alt in
    let s = decimal_most (size_of alt) in
    let e : length (encode_lower (byte ∷ [])) ≡ 2 = length-encode_with lower_digits (byte ∷ []) in
    simp length-append (omega (arith, k, a, s, e))

pub del_most : (key : ℕ) → length (del_line key) ≤ 128
del_most key = let k = decimal_most key in simp length-append (omega (arith, k))

lane_most : (lane : Option ℕ) → length (lane_text lane) ≤ 65
lane_most None = omega arith
lane_most (Some lane) = let l = decimal_most lane in simp length-append (omega (arith, l))

pub read_most : (lane : Option ℕ) (key alt : ℕ) → length (read_line lane key alt) ≤ 256
read_most lane key alt =
    let l = lane_most lane in
    let k = decimal_most key in
    let a = decimal_most alt in
    let c = (long_digits (cookie_of settings.secret key).0).0 in
    simp length-append (omega (arith, l, k, a, c))

replica_most : (verb : List ℕ) (v j : ℕ) → length (replica_line verb v j) ≤ length verb + 131
replica_most verb v j =
    let a = decimal_most v in
    let b = decimal_most ((v + j) % settings.machines) in
    simp length-append (omega (arith, a, b))

-- PARTS

photos_most : (text : ℕ → List ℕ) (most count : ℕ) → ((i : ℕ) → length (text i) ≤ most) → length (each_photo text count) ≤ count * most
photos_most text most count each =
    let all = texts_most text most (range_with_len 0 count) each in
    let many : length (range_with_len 0 count) ≡ count = length-range_with_len 0 count in
    let same : length (range_with_len 0 count) * most ≡ count * most = ap (λ (n : ℕ). n * most) many in
    omega (arith, all, same)

replicas_most : (verb : List ℕ) → length (each_replica verb) ≤ 8 * (2 * (length verb + 131))
replicas_most verb =
    texts_most (volume_lines verb) (2 * (length verb + 131)) (range_with_len 0 settings.volumes)
    (λ v. texts_most (replica_line verb v) (length verb + 131) (range_with_len 0 settings.replicas) (λ j. replica_most verb v j))

uploads_most : (first i : ℕ) → length (uploads first i) ≤ 1024
uploads_most first i = texts_most (λ alt. put_line (key_of first i) alt (i % 256)) 256 alts (λ alt. put_most (key_of first i) alt (i % 256))

replacement_most : (first i : ℕ) → length (replacement first i) ≤ 256
replacement_most first i = shorter (i % 5 == 0) 256 (put_line (key_of first i) 1 (255 - i % 256)) [] (put_most (key_of first i) 1 (255 - i % 256)) (omega arith)

deletion_most : (first i : ℕ) → length (deletion first i) ≤ 128
deletion_most first i = shorter (i % 7 == 0) 128 (del_line (key_of first i)) [] (del_most (key_of first i)) (omega arith)

reads_most : (lane : Option ℕ) (first i : ℕ) → length (reads lane first i) ≤ 1024
reads_most lane first i = texts_most (read_line lane (key_of first i)) 256 alts (λ alt. read_most lane (key_of first i) alt)

four_most : (a b c d : List ℕ) (m n : ℕ) → length b ≤ m → length c ≤ n → length (a ++ b ++ c ++ d) ≤ length a + m + n + length d
four_most a b c d m n h k = simp length-append (omega (arith, h, k))

seven_most : (a b c d e f g : List ℕ) (m n o p q r : ℕ) → length a ≤ m → length b ≤ n → length c ≤ o → length d ≤ p → length e ≤ q → length g ≤ r
    → length (a ++ b ++ c ++ d ++ e ++ f ++ g) ≤ m + n + o + p + q + length f + r
seven_most a b c d e f g m n o p q r h1 h2 h3 h4 h5 h6 = simp length-append (omega (arith, h1, h2, h3, h4, h5, h6))

block_most : (count first : ℕ) → length (block count first) ≤ 8 + count * 1024 + 2240 + 4
block_most count first =
    four_most (codes "lanes 5\n") (each_photo (lane_reads first) count) (each_replica (codes "4 compact")) (codes "end\n") (count * 1024) 2240
    (photos_most (lane_reads first) 1024 count (λ i. reads_most (Some (i % 4)) first i)) (replicas_most (codes "4 compact"))

-- a script of at most a thousand photos is one that a run takes
pub script_most : (count first : ℕ) → count ≤ 1000 → length (drill_script count first) ≤ MAX_SCRIPT
script_most count first few =
    let all = seven_most (each_photo (uploads first) count) (each_photo (replacement first) count) (each_photo (deletion first) count) (each_replica (codes "flush"))
    (block count first) (codes "restart 0\n") (each_photo (reads None first) count)
    (count * 1024) (count * 256) (count * 128) 2176 (8 + count * 1024 + 2240 + 4) (count * 1024)
    (photos_most (uploads first) 1024 count (uploads_most first)) (photos_most (replacement first) 256 count (replacement_most first))
    (photos_most (deletion first) 128 count (deletion_most first)) (replicas_most (codes "flush")) (block_most count first)
    (photos_most (reads None first) 1024 count (reads_most None first)) in
    omega (arith, few, all)
