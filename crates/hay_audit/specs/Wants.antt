-- Lines that tell of want of memory.
use Rattle.std.specs.Prelude.{◌≡◌, ℕ, ◌<◌, ◌^◌, ◌==◌, ◌⊎◌, ◌↔◌, Bool, true, List, [], ◌∷◌, ◌++◌, Contains, decimal, if◌then◌else◌}
use Rattle.std.specs.BTreeSet.{BTreeSet, contains}
use Rattle.std.specs.Ordering.{nat_cmp}
use Rattle.hay_reply.specs.declared.Reply.TheVariants.{NoMem}
use Rattle.hay_reply.specs.Replies.{reply_text}
use Rattle.hay_audit_steps.specs.Judged.{lines_in}

abbrev pub wanting_text : ℕ → List ℕ
wanting_text line = decimal line ++ 32 ∷ reply_text NoMem

abbrev pub before_space : List ℕ → List ℕ
before_space [] = []
before_space (b ∷ bytes) = if b == 32 then [] else b ∷ before_space bytes

-- a number is among these
abbrev pub has : BTreeSet ℕ → ℕ → Bool
has lines line = contains nat_cmp lines line

-- a text adds the number that it tells of, and no other
abbrev pub WantsMore : List ℕ → BTreeSet ℕ → BTreeSet ℕ → Type 0
WantsMore text before after =
    (line : ℕ) → line < 2 ^ 64 → (has after line ≡ true) ↔ ((has before line ≡ true) ⊎ (text ≡ wanting_text line))

-- these are the lines of which the transcript tells
abbrev pub AreWanting : List ℕ → BTreeSet ℕ → Type 0
AreWanting transcript lines = (line : ℕ) → line < 2 ^ 64 → (has lines line ≡ true) ↔ Contains (lines_in transcript) (wanting_text line)
