-- What no check tells, each as a lemma.
use Rattle.std.proofs.Common.{◌≡◌, ℕ, ◌+◌, ◌*◌, ◌<◌, ◌≤◌, List, ◌∷◌, refl, arith}
use Rattle.hay_needle.specs.declared.settings.Settings.{Settings}
use Rattle.hay_check.specs.declared.verdict.Verdict.{Verdict}
use Rattle.hay_check.specs.declared.verdict.Verdict.TheVariants.{Damaged, Rows, Whole}
use Rattle.hay_reply.specs.declared.Note.{Note}
use Rattle.hay_legal.specs.Known.{disk_count}
use Rattle.hay_legal.specs.Stands.{Contents, Outside}
use Rattle.hay_run.specs.Checking.{AreVerdicts, IsBreak}

-- a Directory's disk that was told as a replica's
pub replica_in_slot_0 : (Tells : Type 0) (settings : Settings) (contents : ℕ → Contents) (generation cells live records end old : ℕ) (others : List Verdict)
    → AreVerdicts Tells settings contents (Whole generation cells live records end old ∷ others) → ⊥
replica_in_slot_0 Tells settings contents generation cells live records end old others are = are.kinds.0.journal refl

-- one that is damaged in another file than the journal
pub damage_beside_the_journal : (Tells : Type 0) (settings : Settings) (contents : ℕ → Contents) (file at : ℕ) (others : List Verdict) → 0 < file
    → AreVerdicts Tells settings contents (Damaged file at ∷ others) → ⊥
damage_beside_the_journal Tells settings contents file at others some are = let first = (are.kinds.0.journal refl).0 in omega (arith, first, some)

-- a replica's disk that was told as the Directory's
pub rows_in_slot_1 : (Tells : Type 0) (settings : Settings) (contents : ℕ → Contents) (rows : ℕ) (first : Verdict) (others : List Verdict)
    → AreVerdicts Tells settings contents (first ∷ Rows rows ∷ others) → ⊥
rows_in_slot_1 Tells settings contents rows first others are = are.kinds.1.0.replica (omega arith)

-- a replica with more photos than needles
pub more_photos_than_needles : (Tells : Type 0) (settings : Settings) (contents : ℕ → Contents) (generation cells live records end old : ℕ) (first : Verdict) (others : List Verdict) → cells < live
    → AreVerdicts Tells settings contents (first ∷ Whole generation cells live records end old ∷ others) → ⊥
more_photos_than_needles Tells settings contents generation cells live records end old first others more are =
    let most = (are.kinds.1.0.replica (omega arith)).1 in omega (arith, most, more)

-- one whose needles end before they can
pub needles_before_their_end : (Tells : Type 0) (settings : Settings) (contents : ℕ → Contents) (generation cells live records end old : ℕ) (first : Verdict)
    (others : List Verdict) → end < 64 + cells * 48
    → AreVerdicts Tells settings contents (first ∷ Whole generation cells live records end old ∷ others) → ⊥
needles_before_their_end Tells settings contents generation cells live records end old first others low are =
    let from = (are.kinds.1.0.replica (omega arith)).4 in omega (arith, from, low)

-- a shelf's failure behind the last disk
pub shelf_failed_behind_the_last : (settings : Settings) (taken given : Outside) (slot : ℕ) (note : Note) → disk_count settings ≤ slot → IsBreak settings taken given slot note → ⊥
shelf_failed_behind_the_last settings taken given slot note high break = let low = break.1 in omega (arith, low, high)
