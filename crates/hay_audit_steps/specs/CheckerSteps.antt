-- What a step of a checker of transcripts has to keep: each kept state is one that a legal turn leaves, and of all states
-- that legal turns may leave, those with the lowest counts are kept.
use Rattle.std.specs.Prelude.{◌≡◌, ℕ, ◌⊎◌, List, [], ◌∷◌}
use Rattle.std.specs.List.{AllByRecursion as Each}
use Rattle.hay_needle.specs.declared.settings.Settings.{Settings}
use Rattle.hay_reply.specs.declared.Reply.{Reply}
use Rattle.hay_legal.specs.declared.known.Known.{Known}
use Rattle.hay_legal.specs.declared.turn.Item.{Item}
use Rattle.hay_legal.specs.Known.{NoneFalls}
use Rattle.hay_legal.specs.Plain.{LegalPlain}

-- one of the items, at least, is so
abbrev pub AnyOf : {X : Type 0} → (X → Type 0) → List X → Type 0
AnyOf P [] = ⊥
AnyOf P (x ∷ xs) = P x ⊎ AnyOf P xs

-- t stands as b does, but that its counts of faults may be higher; the numbers of fuses count for nothing
pub record Below (b t : Known) : Type 0 where
  pub volumes : t.volumes ≡ b.volumes
  pub directory : t.directory ≡ b.directory
  pub drained : t.drained ≡ b.drained
  pub faults : NoneFalls b.faults t.faults
  pub arms : NoneFalls b.arms t.arms

-- b with other counts
abbrev pub with_counts : Known → List ℕ → List ℕ → List ℕ → Known
with_counts b faults arms fuses = record b { faults = faults; arms = arms; fuses = fuses }

-- The kept states behind b are these, by a row of the table of legal turns.
pub record IsStep (row : Known → Known → Type 0) (b : Known) (next : List Known) : Type 0 where
  pub sound : Each (row b) next
  pub complete : (faults arms fuses : List ℕ) (t : Known) → NoneFalls b.faults faults → NoneFalls b.arms arms
      → row (with_counts b faults arms fuses) t → AnyOf (λ c. Below c t) next

-- The same of what may stand for several states: `Has` says for which.
pub record IsStepOf {S : Type 0} (Has : S → Known → Type 0) (row : Known → Known → Type 0) (s : S) (next : List S) : Type 0 where
  pub sound : Each (λ d. (t : Known) → Has d t → (k : Known) × Has s k × row k t) next
  pub complete : (k : Known) (faults arms fuses : List ℕ) (t : Known) → Has s k → NoneFalls k.faults faults → NoneFalls k.arms arms
      → row (with_counts k faults arms fuses) t → AnyOf (λ d. (e : Known) × Has d e × Below e t) next

-- the legal turns of a plain line
abbrev pub plain_row : Settings → ℕ → Item → Reply → Known → Known → Type 0
plain_row settings line item reply k t = LegalPlain settings k line item reply t
