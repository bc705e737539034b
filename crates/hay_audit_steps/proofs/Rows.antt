-- Steps by a row that leaves one state, or none.
use Rattle.std.proofs.Common.{◌≡◌, ℕ, Bool, true, false, List, [], ◌∷◌, refl, sym, subst, ◌∙◌, inl, inr}
use Rattle.std.specs.Prelude.{cond}
use Rattle.std.specs.Bool.{Decides}
use Rattle.std.specs.List.{AllByRecursion as Each}
use Rattle.hay_legal.specs.declared.known.Known.{Known}
use Rattle.hay_legal.specs.Known.{Leaves, NoneFalls}
use Rattle.hay_audit_steps.specs.CheckerSteps.{Below, AnyOf, IsStep, with_counts}
use Rattle.hay_audit_steps.proofs.Counts.{falls_refl, falls_trans}

-- a row needs something of what stands, and leaves e
pub record IsRow (row : Known → Known → Type 0) (b e : Known) (needs : Type 0) : Type 0 where
  pub yes : needs → row b e
  pub back : (faults arms fuses : List ℕ) (t : Known) → NoneFalls b.faults faults → NoneFalls b.arms arms
      → row (with_counts b faults arms fuses) t → needs × Below e t

pub stays : (b t : Known) → t.faults ≡ b.faults → t.arms ≡ b.arms → Leaves b t t
stays b t faults arms = record {
  volumes = refl;
  directory = refl;
  drained = refl;
  fuses = refl;
  faults = subst (λ (xs : List ℕ). NoneFalls b.faults xs) (sym faults) (falls_refl b.faults);
  arms = subst (λ (xs : List ℕ). NoneFalls b.arms xs) (sym arms) (falls_refl b.arms);
}

-- what comes of a state with higher counts is as what comes of the state, with higher counts
pub comes : (e k expected t : Known) → expected.volumes ≡ e.volumes → expected.directory ≡ e.directory → expected.drained ≡ e.drained
    → NoneFalls e.faults k.faults → NoneFalls e.arms k.arms → Leaves k expected t → Below e t
comes e k expected t volumes directory drained faults arms leaves = record {
  volumes = leaves.volumes ∙ volumes;
  directory = leaves.directory ∙ directory;
  drained = leaves.drained ∙ drained;
  faults = falls_trans e.faults k.faults t.faults faults leaves.faults;
  arms = falls_trans e.arms k.arms t.arms arms leaves.arms;
}

pub one_step : (row : Known → Known → Type 0) (b e : Known) (needs : Type 0) → IsRow row b e needs → needs → IsStep row b (e ∷ [])
one_step row b e needs h known = record {
  sound = (h.yes known, tt);
  complete = λ faults arms fuses t f a r. inl (h.back faults arms fuses t f a r).1;
}

-- what legal turns from a state with higher counts need, this state has
abbrev pub Forces : (Known → Known → Type 0) → Known → Type 0 → Type 0
Forces row b needs = (faults arms fuses : List ℕ) (t : Known) → NoneFalls b.faults faults → NoneFalls b.arms arms
    → row (with_counts b faults arms fuses) t → needs

pub tested : (row : Known → Known → Type 0) (b : Known) (next : List Known) (needs : Type 0) (test : Bool)
    → Decides test needs → (needs → IsStep row b next) → Forces row b needs → IsStep row b (cond test next [])
tested row b next needs true decides step forced = step (decides.0 refl)
tested row b next needs false decides step forced = record {
  sound = tt;
  complete = λ faults arms fuses t f a r. absurd (let none : false ≡ true = decides.1 (forced faults arms fuses t f a r) in cc);
}

-- a row that needs something and leaves one state
pub kept : (row : Known → Known → Type 0) (b e : Known) (needs : Type 0) (test : Bool)
    → Decides test needs → IsRow row b e needs → IsStep row b (cond test (e ∷ []) [])
kept row b e needs test decides h = tested row b (e ∷ []) needs test decides (one_step row b e needs h) (λ faults arms fuses t f a r. (h.back faults arms fuses t f a r).0)

-- no turn of this kind is legal
pub never : (row : Known → Known → Type 0) (b : Known) → Forces row b ⊥ → IsStep row b []
never row b lie = record {
  sound = tt;
  complete = λ faults arms fuses t f a r. absurd (lie faults arms fuses t f a r);
}

-- a row that needs something and leaves all as it stands
pub calm : (row : Known → Known → Type 0) (b : Known) (needs : Type 0)
    → (needs → Leaves b b b → row b b)
    → ((faults arms fuses : List ℕ) (t : Known) → row (with_counts b faults arms fuses) t → needs × Leaves (with_counts b faults arms fuses) (with_counts b faults arms fuses) t)
    → IsRow row b b needs
calm row b needs made back = record {
  yes = λ known. made known (stays b b refl refl);
  back = λ faults arms fuses t f a r.
      let both = back faults arms fuses t r in
      (both.0, comes b (with_counts b faults arms fuses) (with_counts b faults arms fuses) t refl refl refl f a both.1);
}

pub each_by : (P Q : Known → Type 0) (cs : List Known) → ((c : Known) → P c → Q c) → Each P cs → Each Q cs
each_by P Q [] step h = tt
each_by P Q (c ∷ cs) step h = (step c h.0, each_by P Q cs step h.1)

pub any_by : (P Q : Known → Type 0) (cs : List Known) → ((c : Known) → P c → Q c) → AnyOf P cs → AnyOf Q cs
any_by P Q [] step h = h
any_by P Q (c ∷ cs) step h = elim h [ inl here ↦ inl (step c here) | inr there ↦ inr (any_by P Q cs step there) ]
