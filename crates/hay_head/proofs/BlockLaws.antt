-- Blocks of a file.
use Rattle.std.proofs.Common.{◌≡◌, ◌<◌, ◌≤◌, ◌+◌, ◌-◌, ◌^◌, ℕ, min, List, ◌++◌, length, take, drop, sym, ◌∙◌, ap, arith}
use Rattle.std.proofs.Math.Seq.{take-add}
use Rattle.std.proofs.lemmas.List.{drop-drop, drop-take, take-take}
use Rattle.hay_head.specs.Blocks.{IsBlock}

-- the bytes behind the first k of a file's rest
behind : (start k at : ℕ) (file : List ℕ) → start + k ≡ at → drop k (drop start file) ≡ drop at file
behind start k at file is = drop-drop k start file ∙ ap (λ m. drop m file) (omega arith)

-- bytes of a block are those of its file
pub block_gives : (start len at n : ℕ) (room file : List ℕ) → IsBlock start len room file → start ≤ at → at + n ≤ start + len → take n (drop (at - start) room) ≡ take n (drop at file)
block_gives start len at n room file is begun within =
    let most : (at - start) + n ≤ len = omega arith in
    let same : take ((at - start) + n) room ≡ take ((at - start) + n) (drop start file) =
    sym (take-take ((at - start) + n) len room most) ∙ ap (λ (l : List ℕ). take ((at - start) + n) l) is.bytes ∙ take-take ((at - start) + n) len (drop start file) most in
    sym (drop-take (at - start) n room) ∙ ap (λ (l : List ℕ). drop (at - start) l) same ∙ drop-take (at - start) n (drop start file)
    ∙ ap (λ (l : List ℕ). take n l) (behind start (at - start) at file (omega arith))

-- a block without its first bytes
pub block_begins : (start len at kept : ℕ) (room new file : List ℕ) → IsBlock start len room file → start ≤ at → at + kept ≡ start + len
    → take kept new ≡ take kept (drop (at - start) room) → IsBlock at kept new file
block_begins start len at kept room new file is begun ends keeps = record {
  bytes = keeps ∙ block_gives start len at kept room file is begun (omega arith);
  within = omega (arith, is.within);
}

-- a block that was read on
pub block_grows : (start len got end : ℕ) (room new file : List ℕ) → IsBlock start len room file → start < 2 ^ 64 → length file < 2 ^ 64
    → end ≡ min (start + len) 18446744073709551615 → got ≤ length file - end
    → take (len + got) new ≡ take len room ++ take got (drop end file) → IsBlock start (len + got) new file
block_grows start len got end room new file is low fits ends most read =
    let here : start + len ≡ end = omega (arith, is.within) in
    record {
      bytes =
          read ∙ ap (λ (l : List ℕ). l ++ take got (drop end file)) is.bytes ∙ ap (λ (l : List ℕ). take len (drop start file) ++ take got l) (sym (behind start len end file here))
          ∙ sym (take-add len got (drop start file));
      within = omega (arith, is.within);
    }
