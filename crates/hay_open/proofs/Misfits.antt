-- Records that do not fit their needles.
use Rattle.std.proofs.Common.{◌≡◌, inl, inr, ℕ, true, not, List, take, drop, Some, ap, subst, ◌∙◌}
use Rattle.std.specs.List.{slice_get}
use Rattle.std.proofs.lemmas.Bool.{true≢false}
use Rattle.std.proofs.lemmas.Option.{slice_get_within}
use Rattle.hay_needle.specs.declared.needle.Pair.{Pair}
use Rattle.hay_needle.specs.declared.settings.Super.{Super}
use Rattle.hay_needle.specs.Super.{super_bytes}
use Rattle.hay_needle.specs.Tables.{pair_eq}
use Rattle.hay_needle.proofs.TableLaws.{pair_refl}
use Rattle.hay_disk.specs.Disk.{Files}
use Rattle.hay_needle.specs.Needle.{Head}
use Rattle.hay_needle.proofs.Needles.{one_head}
use Rattle.hay_index.specs.declared.record.Record.{Record}
use Rattle.hay_open.specs.Damage.{FitsNeedle, HasOtherNeedle, IsMisfit, IsRecorded, LacksNeedle}
use Rattle.hay_open.specs.Listing.{IsMisfitIn}
use Rattle.hay_open.specs.Stored.{index_file, index_super, volume_file}

pub fits_lacks : (r : Record) (volume : List ℕ) → FitsNeedle r volume → LacksNeedle r volume → ⊥
fits_lacks r volume fits lacks = lacks fits.head fits.stands

pub fits_other : (r : Record) (volume : List ℕ) → FitsNeedle r volume → HasOtherNeedle r volume → ⊥
fits_other r volume fits other =
    let same = one_head (take 36 (drop r.at volume)) other.0 fits.head other.1 fits.stands in
    other.2 (ap (λ (h : Head). h.pair) same ∙ fits.pair) (ap (λ (h : Head). h.size) same ∙ fits.size)

-- one that fits is no damage
pub fits_is_no_misfit : (contents : ℕ → List ℕ) (volume index number file at : ℕ) (r : Record) → FitsNeedle r (contents volume) → IsMisfitIn contents volume index r number file at → ⊥
fits_is_no_misfit contents volume index number file at r fits (inl lacks) = fits_lacks r (contents volume) fits lacks.2
fits_is_no_misfit contents volume index number file at r fits (inr other) = fits_other r (contents volume) fits other.1

pub pair_differs : (p q : Pair) → true ≡ not (pair_eq p q) → p ≡ q → ⊥
pair_differs p q differs same =
    let equal : pair_eq p q ≡ true = ap (λ (x : Pair). pair_eq x q) same ∙ pair_refl q in
    true≢false (differs ∙ ap not equal)

-- the misfit in the files of a generation
pub misfit_is : (sup : Super) (contents : ℕ → List ℕ) (generation : ℕ) (records : List Record) (end number file at : ℕ) (r : Record)
    → IsRecorded sup contents generation records end → slice_get records number ≡ Some r
    → IsMisfitIn contents (volume_file generation) (index_file generation) r number file at → IsMisfit sup contents generation records number file at
misfit_is sup contents generation records end number file at r is there (inl lacks) = (r, there, inl (lacks.0, lacks.1, lacks.2))
misfit_is sup contents generation records end number file at r is there (inr other) =
    (r, there, inr (other.0, other.1, other.2 (super_bytes (index_super sup generation)) records end is.index (slice_get_within records number r there)))

pub misfit_there : (f g : Files) (volume v index x number file at : ℕ) (r : Record) → g ≡ f → volume ≡ v → index ≡ x → IsMisfitIn (λ n. (g n).now) volume index r number file at
    → IsMisfitIn (λ n. (f n).now) v x r number file at
misfit_there f g volume v index x number file at r same is also misfit =
    subst (λ (fs : Files). IsMisfitIn (λ n. (fs n).now) v x r number file at) same
    (subst (λ n. IsMisfitIn (λ k. (g k).now) v n r number file at) also (subst (λ n. IsMisfitIn (λ k. (g k).now) n index r number file at) is misfit))
