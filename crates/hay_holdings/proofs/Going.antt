-- One call of a line as a step, and steps one after the other.
use Rattle.std.proofs.Common.{◌≡◌, ◌≢◌, ℕ, Bool, true, false, cond, List, [], ◌∷◌, ◌++◌, refl, sym, ap, subst, ◌∙◌, arith, append-nil, Option, None}
use Rattle.std.specs.Prelude.{◌==◌}
use Rattle.std.specs.List.{AllByRecursion as Each}
use Rattle.std.proofs.lemmas.Bool.{eq-eqb, ne_eqb}
use mathlib.Core.Logic.{dite}
use native.Mathlib.Decide.{ℕ_discrete}
use Rattle.hay_core.specs.declared.entry.CoreTag.{CoreTag}
use Rattle.hay_legal.specs.declared.turn.Item.{Item}
use Rattle.hay_reply.specs.declared.Reply.{Reply}
use Rattle.hay_meeting.specs.declared.act.DirAct.{DirAct}
use Rattle.hay_meeting.specs.declared.act.VolumeAct.{VolumeAct}
use Rattle.hay_meeting.specs.Acts.{row_lock, volume_lock}
use Rattle.hay_meeting.specs.Facts.{IsLastDoing, changed}
use Rattle.hay_meeting.specs.Locks.{Doing, Lock, LockSight, Worked}
use Rattle.hay_meeting.specs.Sights.{Doings, IsLaterSight, Sight, Work}
use Rattle.hay_meeting.proofs.Chaining.{same_at}
use Rattle.hay_meeting.proofs.Phases.{and_then, only_saw, worked_more}
use Rattle.hay_holdings.specs.Holdings.{Called, Looked, doings_in}
use Rattle.hay_holdings.specs.Lines.{line_of}
use Rattle.hay_holdings.specs.Sights.{AtArm, AtDirectory, AtVolume, Idle, Went, doings_at, no_doings, on_volume, only_rows}
use Rattle.hay_holdings.proofs.Calls.{holding_worked, looked_worked}
use Rattle.hay_holdings.specs.Volumes.{VolumeCall}
use Rattle.hay_holdings.specs.Rows.{DirectoryCall}

-- DOINGS ON ONE VOLUME

pub on_here : (v : ℕ) (ds : List (Doing VolumeAct)) → on_volume v ds v ≡ ds
on_here v ds = ap (λ (b : Bool). cond b ds []) (eq-eqb v v refl)

pub on_other : (v : ℕ) (ds : List (Doing VolumeAct)) (u : ℕ) → u ≢ v → on_volume v ds u ≡ []
on_other v ds u differs = ap (λ (b : Bool). cond b ds []) (ne_eqb u v differs)

pub on_none : (v u : ℕ) → on_volume v [] u ≡ []
on_none v u = elim (u == v) as (λ (b : Bool). cond {A = List (Doing VolumeAct)} b [] [] ≡ []) [ true ↦ refl | false ↦ refl ]

pub on_both : (v : ℕ) (ds es : List (Doing VolumeAct)) (u : ℕ) → on_volume v ds u ++ on_volume v es u ≡ on_volume v (ds ++ es) u
on_both v ds es u = elim (u == v) as (λ (b : Bool). cond b ds [] ++ cond b es [] ≡ cond b (ds ++ es) []) [ true ↦ refl | false ↦ refl ]

-- what changed something, there and elsewhere
pub changed_here : (v : ℕ) (ds : List (Doing VolumeAct)) {es : List (Doing VolumeAct)} → changed ds ≡ es → changed (on_volume v ds v) ≡ es
changed_here v ds is = ap changed (on_here v ds) ∙ is

pub changed_other : (v : ℕ) (ds : List (Doing VolumeAct)) (u : ℕ) → u ≢ v → changed (on_volume v ds u) ≡ []
changed_other v ds u differs = ap changed (on_other v ds u differs)

pub changed_nowhere : (v : ℕ) (ds : List (Doing VolumeAct)) → changed ds ≡ [] → (u : ℕ) → changed (on_volume v ds u) ≡ []
changed_nowhere v ds none u = elim (u == v) as (λ (b : Bool). changed (cond b ds []) ≡ []) [ true ↦ none | false ↦ refl ]

pub on_each : (v : ℕ) (P : Doing VolumeAct → Type 0) (ds : List (Doing VolumeAct)) → Each P ds → Each P (on_volume v ds v)
on_each v P ds each = subst (Each P) (sym (on_here v ds)) each

-- the only doing there is the last one
pub last_here : (v : ℕ) (doing : Doing VolumeAct) → IsLastDoing (on_volume v (doing ∷ []) v) doing
last_here v doing = subst (λ ds. IsLastDoing ds doing) (sym (on_here v (doing ∷ []))) (omega arith, tt)

-- STEPS

pub work_of : {tag : CoreTag} {item : Item} {reply : Reply} {a b : Sight} {doings : Doings} → Went tag a b doings → Work (line_of tag item reply) a b doings
work_of x = record { volumes = x.volumes; directory = x.directory; arm = x.arm }

pub went_later : {tag : CoreTag} {a b : Sight} {doings : Doings} → Went tag a b doings → IsLaterSight a b
went_later x = record { volumes = λ v. (x.volumes v).later; directory = (x.directory).later; arm = x.arm }

-- it is as well said of doings that are the same
pub went_same : {tag : CoreTag} {a b : Sight} {d : Doings} (e : Doings) → ((v : ℕ) → d.volumes v ≡ e.volumes v) → d.rows ≡ e.rows → Went tag a b d → Went tag a b e
went_same {tag} {a} {b} e volumes rows x = record {
  volumes = λ v. subst (Worked volume_lock tag (a.volumes v) (b.volumes v)) (volumes v) (x.volumes v);
  directory = subst (Worked row_lock tag a.directory b.directory) rows x.directory;
  arm = x.arm;
}

pub went_more : {tag : CoreTag} {a m b : Sight} {d e : Doings} → Went tag a m d → Went tag m b e → Went tag a b (and_then d e)
went_more x y = record {
  volumes = λ v. worked_more volume_lock (x.volumes v) (y.volumes v);
  directory = worked_more row_lock x.directory y.directory;
  arm = let l = x.arm in let r = y.arm in omega (arith, l, r);
}

-- where nothing came behind it
pub went_idle : {tag : CoreTag} {a m b : Sight} {d : Doings} → Went tag a m d → Idle tag m b → Went tag a b d
went_idle {d = d} x y = went_same d (λ v. append-nil (d.volumes v)) (append-nil d.rows) (went_more x y)

-- first rows, and then on a volume
pub went_rows_at : {tag : CoreTag} {a m b : Sight} {rows : List (Doing DirAct)} (v : ℕ) (ds : List (Doing VolumeAct))
    → Went tag a m (only_rows rows) → Went tag m b (doings_at v ds []) → Went tag a b (doings_at v ds rows)
went_rows_at {rows = rows} v ds x y = went_same (doings_at v ds rows) (λ u. refl) (append-nil rows) (went_more x y)

-- twice on a volume
pub went_at_both : {tag : CoreTag} {a m b : Sight} (v : ℕ) (ds es : List (Doing VolumeAct))
    → Went tag a m (doings_at v ds []) → Went tag m b (doings_at v es []) → Went tag a b (doings_at v (ds ++ es) [])
went_at_both v ds es x y = went_same (doings_at v (ds ++ es) []) (λ u. on_both v ds es u) refl (went_more x y)

same_worked : {S E X T : Type 0} (lock : Lock S E X T) {tag : CoreTag} {a b : LockSight E X} → b ≡ a → Worked lock tag a b []
same_worked lock {tag} {a} same = subst (λ z. Worked lock tag a z []) (sym same) (only_saw lock (same_at a) refl)

-- no call at all
pub idle_same : (tag : CoreTag) (a : Sight) → Idle tag a a
idle_same tag a = record { volumes = λ v. same_worked volume_lock refl; directory = same_worked row_lock refl; arm = omega arith }

-- A CALL AT A VOLUME

pub volume_went : {tag : CoreTag} {v : ℕ} {Is : VolumeCall} {s t : Sight} (ds : List (Doing VolumeAct))
    → AtVolume v Is s t → Worked volume_lock tag (s.volumes v) (t.volumes v) ds → Went tag s t (doings_at v ds [])
volume_went {tag} {v} {Is} {s} {t} ds x here = record {
  volumes = λ u. dite (ℕ_discrete u v)
      (λ same. subst (λ (w : ℕ). Worked volume_lock tag (s.volumes w) (t.volumes w) (on_volume v ds w)) (sym same)
      (subst (Worked volume_lock tag (s.volumes v) (t.volumes v)) (sym (on_here v ds)) here))
      (λ differs. subst (Worked volume_lock tag (s.volumes u) (t.volumes u)) (sym (on_other v ds u differs)) (same_worked volume_lock (x.others u differs)));
  directory = same_worked row_lock x.directory;
  arm = let e = x.arm in omega (arith, e);
}

-- a holding
pub call_went : {tag : CoreTag} {v : ℕ} {IsSo : List VolumeAct → Option VolumeAct → Type 0} {s t : Sight}
    (x : AtVolume v (λ a b. Called volume_lock tag IsSo a b) s t) → Went tag s t (doings_at v (doings_in (x.is).held (x.is).made) [])
call_went x = volume_went (doings_in (x.is).held (x.is).made) x (holding_worked volume_lock (x.is).held (x.is).made (x.is).holding)

-- one that made no act
pub idle_none : {tag : CoreTag} {a b : Sight} (v : ℕ) → Went tag a b (doings_at v [] []) → Idle tag a b
idle_none v x = went_same no_doings (on_none v) refl x

pub quiet_went : {tag : CoreTag} {v : ℕ} {IsSo : List VolumeAct → Option VolumeAct → Type 0} {s t : Sight}
    (x : AtVolume v (λ a b. Called volume_lock tag IsSo a b) s t) → (x.is).made ≡ None → Idle tag s t
quiet_went {tag} {v} {IsSo} {s} {t} x none = idle_none v (subst (λ made. Went tag s t (doings_at v (doings_in (x.is).held made) [])) none (call_went x))

-- a look
pub look_went : {tag : CoreTag} {v : ℕ} {Is : VolumeCall} {s t : Sight}
    (x : AtVolume v Is s t) → Looked (s.volumes v) (t.volumes v) → Idle tag s t
look_went {v = v} x looked = idle_none v (volume_went [] x (looked_worked looked volume_lock))

-- A CALL AT THE DIRECTORY, AND AT THE ARM

pub directory_went : {tag : CoreTag} {Is : DirectoryCall} {s t : Sight} (ds : List (Doing DirAct))
    → AtDirectory Is s t → Worked row_lock tag s.directory t.directory ds → Went tag s t (only_rows ds)
directory_went ds x here = record {
  volumes = λ u. same_worked volume_lock (x.volumes u);
  directory = here;
  arm = let e = x.arm in omega (arith, e);
}

pub row_call_went : {tag : CoreTag} {IsSo : List DirAct → Option DirAct → Type 0} {s t : Sight}
    (x : AtDirectory (λ a b. Called row_lock tag IsSo a b) s t) → Went tag s t (only_rows (doings_in (x.is).held (x.is).made))
row_call_went x = directory_went (doings_in (x.is).held (x.is).made) x (holding_worked row_lock (x.is).held (x.is).made (x.is).holding)

pub quiet_row_went : {tag : CoreTag} {IsSo : List DirAct → Option DirAct → Type 0} {s t : Sight}
    (x : AtDirectory (λ a b. Called row_lock tag IsSo a b) s t) → (x.is).made ≡ None → Idle tag s t
quiet_row_went {tag} {IsSo} {s} {t} x none = subst (λ made. Went tag s t (only_rows (doings_in (x.is).held made))) none (row_call_went x)

pub row_look_went : {tag : CoreTag} {Is : DirectoryCall} {s t : Sight}
    (x : AtDirectory Is s t) → Looked s.directory t.directory → Idle tag s t
row_look_went x looked = directory_went [] x (looked_worked looked row_lock)

pub arm_went : {tag : CoreTag} {s t : Sight} → AtArm s t → Idle tag s t
arm_went x = record { volumes = λ u. same_worked volume_lock (x.volumes u); directory = same_worked row_lock x.directory; arm = x.arm }
