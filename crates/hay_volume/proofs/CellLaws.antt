-- Cells in a row.
use Rattle.std.proofs.Common.{◌≡◌, ◌+◌, ◌≤◌, ℕ, List, [], ◌∷◌, ◌++◌, length, take, drop, refl, sym, ◌∙◌, ap, subst, arith, append_assoc, length-append, append-nil}
use Rattle.std.proofs.Math.Seq.{take-add}
use Rattle.std.proofs.lemmas.List.{take_at, drop_at, length-take-le}
use Rattle.hay_needle.specs.declared.needle.Cell.{Cell}
use Rattle.hay_needle.specs.Needle.{needle_magic}
use Rattle.hay_disk.specs.Gate.{IsLog, IsClosed}
use Rattle.hay_volume.specs.Cells.{IsCellAt, AreCellsAt, IsVolume}

-- one more cell behind the others
pub one_more : (at here : ℕ) (bytes needle : List ℕ) (cells : List Cell) (cell : Cell) → AreCellsAt at bytes cells → here ≡ at + length bytes → IsCellAt here needle cell
    → AreCellsAt at (bytes ++ needle) (cells ++ cell ∷ [])
one_more at here bytes needle [] cell are is one =
    let place : here ≡ at = omega (arith, ap length are) in (
      needle,
      [],
      ap (λ (l : List ℕ). l ++ needle) are ∙ sym (append-nil needle),
      subst (λ k. IsCellAt k needle cell) place one,
      refl,
    )
one_more at here bytes needle (first ∷ cells) cell are is one =
    let whole : here ≡ (at + length are.0) + length are.1 = omega (arith, ap length are.2, length-append are.0 are.1) in (
      are.0,
      are.1 ++ needle,
      ap (λ (l : List ℕ). l ++ needle) are.2 ∙ append_assoc are.0 are.1 needle,
      are.3,
      one_more (at + length are.0) here are.1 needle cells cell are.4 whole one,
    )

-- a volume file is a log, and the other way round

pub volume_log : (superblock file : List ℕ) (cells : List Cell) (end : ℕ) (is : IsVolume superblock file cells end)
    → IsLog needle_magic (superblock ++ is.has.needles) file
volume_log superblock file cells end is =
    let needles = is.has.needles in
    let long : length superblock ≡ 64 = sym (ap length is.begins) ∙ length-take-le 64 file (omega (arith, is.closed.room, is.has.ends)) in
    let ends : length (superblock ++ needles) ≡ end = omega (arith, length-append superblock needles, is.has.ends) in
    let begins : take (64 + length needles) file ≡ superblock ++ needles =
    take-add 64 (length needles) file ∙ ap (λ (l : List ℕ). l ++ take (length needles) (drop 64 file)) is.begins ∙ ap (λ (l : List ℕ). superblock ++ l) is.has.stand in
    record {
      begins = ap (λ k. take k file) (omega (arith, is.has.ends)) ∙ begins;
      closed = subst (λ k. IsClosed needle_magic k file) (sym ends) is.closed;
    }

pub log_volume : (superblock needles file : List ℕ) (cells : List Cell) (end : ℕ) → length superblock ≡ 64 → 64 + length needles ≡ end → AreCellsAt 64 needles cells
    → IsLog needle_magic (superblock ++ needles) file → IsVolume superblock file cells end
log_volume superblock needles file cells end long ends are log =
    let whole : length (superblock ++ needles) ≡ 64 + length needles = omega (arith, length-append superblock needles) in
    let begins : take (64 + length needles) file ≡ superblock ++ needles = ap (λ k. take k file) (sym whole) ∙ log.begins in
    let split : take 64 file ++ take (length needles) (drop 64 file) ≡ superblock ++ needles = sym (take-add 64 (length needles) file) ∙ begins in
    let room : 64 ≤ length file = omega (arith, log.closed.room) in
    let first : length (take 64 file) ≡ 64 = length-take-le 64 file room in
    let front : take 64 file ≡ superblock =
    sym (take_at (take 64 file) (take (length needles) (drop 64 file)) 64 first) ∙ ap (λ (l : List ℕ). take 64 l) split ∙ take_at superblock needles 64 long in
    let behind : take (length needles) (drop 64 file) ≡ needles =
    sym (drop_at (take 64 file) (take (length needles) (drop 64 file)) 64 first) ∙ ap (λ (l : List ℕ). drop 64 l) split ∙ drop_at superblock needles 64 long in
    record {
      begins = front;
      has = record { needles = needles; are = are; stand = behind; ends = ends };
      closed = subst (λ k. IsClosed needle_magic k file) (whole ∙ ends) log.closed;
    }

-- the superblock of a volume file has 64 bytes
pub length-superblock : (superblock file : List ℕ) (cells : List Cell) (end : ℕ) → IsVolume superblock file cells end → length superblock ≡ 64
length-superblock superblock file cells end is =
    sym (ap length is.begins) ∙ length-take-le 64 file (omega (arith, is.closed.room, is.has.ends))
