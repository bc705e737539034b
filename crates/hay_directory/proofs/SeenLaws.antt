-- What is seen of a directory behind each call.
use Rattle.std.proofs.Common.{◌≡◌, inl, inr, ◌+◌, ℕ, true, false, List, Option, Some, refl, sym, ap, ◌∙◌}
use Rattle.std.specs.Prelude.{◌≢◌, is_some}
use Rattle.std.proofs.lemmas.Bool.{cases_Bool, cond-true, cond-false, true≢false}
use Rattle.hay_needle.specs.declared.needle.Pair.{Pair}
use Rattle.hay_needle.specs.Tables.{pair_eq}
use Rattle.hay_needle.proofs.TableLaws.{pair_same, pair_refl}
use Rattle.hay_directory.specs.declared.mode.Mode.{Mode}
use Rattle.hay_directory.specs.declared.mode.Mode.TheVariants.{Closed, Frozen, Open}
use Rattle.hay_directory.specs.declared.mode.Unsure.{Unsure}
use Rattle.hay_directory.specs.Homes.{SetsHome, home_among}
use Rattle.hay_directory.specs.Seen.{DirectorySeen, PendsSeen, SettleSeen, ShowSeen}
use Rattle.hay_directory.specs.State.{is_closed, is_frozen, unsure_of}

pair_unlike : (pair other : Pair) → other ≢ pair → pair_eq pair other ≡ false
pair_unlike pair other apart = elim (cases_Bool (pair_eq pair other)) [
  | inl same ↦ absurd (apart (sym (pair_same pair other same)))
  | inr unlike ↦ unlike
]

-- of a directory that is up
pub pending_frozen : (mode : Mode) → is_closed mode ≡ false → is_frozen mode ≡ is_some (unsure_of mode)
pending_frozen (Closed unsure) up = absurd (true≢false up)
pending_frozen Open up = refl
pending_frozen (Frozen unsure) up = refl

pub frozen_pending : (mode : Mode) → is_frozen mode ≡ true → (unsure : Unsure) × (unsure_of mode ≡ Some unsure)
frozen_pending (Closed unsure) frozen = absurd (true≢false (sym frozen))
frozen_pending Open frozen = absurd (true≢false (sym frozen))
frozen_pending (Frozen unsure) frozen = (unsure, refl)

-- a home that was set
pub home_set : (pair : Pair) (volume : ℕ) (old new : List ((ℕ × ℕ) × ℕ)) → SetsHome pair (Some volume) old new → home_among new pair ≡ Some volume
home_set pair volume old new set = set.at pair ∙ cond-true (pair_eq pair pair) (Some volume) (home_among old pair) (pair_refl pair)

pub others_kept : (pair other : Pair) (home : Option ℕ) (old new : List ((ℕ × ℕ) × ℕ)) → SetsHome pair home old new → other ≢ pair → home_among new other ≡ home_among old other
others_kept pair other home old new set apart = set.at other ∙ cond-false (pair_eq pair other) home (home_among old other) (pair_unlike pair other apart)

-- a row that was written, and then shown
pub settle_seen : (unsure : Unsure) (old mid new : DirectorySeen) → PendsSeen unsure old mid → ShowSeen unsure mid new → SettleSeen (unsure.row).pair (unsure.row).volume old new
settle_seen unsure old mid new pends shows = (
  pends.none,
  record {
    homeless = sym (pends.homes (unsure.row).pair) ∙ (shows.1).homeless;
    home = (shows.1).home;
    others = λ other apart. (shows.1).others other apart ∙ pends.homes other;
    rows = (shows.1).rows ∙ ap (λ (n : ℕ). n + 1) pends.rows;
    pending = (shows.1).pending;
    drained = (shows.1).drained ∙ pends.drained;
  },
)
