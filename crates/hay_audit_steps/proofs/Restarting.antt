-- The state behind a restart.
use Rattle.std.proofs.Common.{◌≡◌, ℕ, ◌+◌, Bool, true, false, List, [], ◌∷◌, ◌++◌, length, Option, Some, None, refl, sym, ap, subst, ◌∙◌, ◌⊎◌, inl, inr, append_assoc}
use Rattle.std.specs.Prelude.{cond, ◌==◌, map}
use Rattle.std.proofs.lemmas.Bool.{cases_Bool, eqb-true, eq-eqb, cond-true, cond-false}
use Rattle.hay_needle.specs.declared.settings.Settings.{Settings}
use Rattle.hay_reply.specs.declared.Note.{Note}
use Rattle.hay_reply.specs.declared.Note.TheVariants as note
use Rattle.hay_reply.specs.declared.Reply.TheVariants as reply
use Rattle.hay_legal.specs.declared.known.PendingRow.{PendingRow}
use Rattle.hay_legal.specs.declared.known.HomeRow.{HomeRow}
use Rattle.hay_legal.specs.declared.known.VolumeKnown.{VolumeKnown}
use Rattle.hay_legal.specs.declared.known.Known.{Known}
use Rattle.hay_legal.specs.Known.{NoneFalls}
use Rattle.hay_legal.specs.Restarts.{ReopenedVolumes, IsRestarted, pending_notes, volume_notes, row_notes, kept_row, directory_with, undrained}
use Rattle.hay_audit_steps.specs.Law.{RestartsAreSteps}
use Rattle.hay_audit_steps.specs.CheckerSteps.{Below, AnyOf, with_counts}
use Rattle.hay_audit_steps.specs.Reopen.{Read, reopen, and_volumes, then_all, reopen_all, row_by, new_rows, restarted_rows, restarted_by, next_restart, IsDecided, restart_row}
use Rattle.std.specs.List.{AllByRecursion as Each}
use Rattle.hay_audit_steps.proofs.Counts.{falls_refl, falls_trans}
use Rattle.hay_audit_steps.proofs.Rows.{never}
use Rattle.hay_audit_steps.proofs.Reopens.{Reopening, reopen_sound, reopen_complete}

record AllReopening (settings : Settings) (v : ℕ) (olds : List VolumeKnown) (notes : List Note) (read : Read (List VolumeKnown)) : Type 0 where
  kept : List (List Bool)
  volumes : ReopenedVolumes settings v olds kept read.value
  told : notes ≡ volume_notes settings v olds kept ++ read.rest

some_read : (a b : Read (List VolumeKnown)) → Some a ≡ Some b → a ≡ b
some_read a b e = cc

all_sound : (settings : Settings) (v : ℕ) (olds : List VolumeKnown) (notes : List Note) (read : Read (List VolumeKnown)) → Each IsDecided olds
    → reopen_all settings v olds notes ≡ Some read → AllReopening settings v olds notes read
all_sound settings v [] notes read plain e =
    subst (λ (r : Read (List VolumeKnown)). AllReopening settings v [] notes r) (some_read (record { value = []; rest = notes }) read e) (record { kept = []; volumes = tt; told = refl })
all_sound settings v (old ∷ olds) notes read plain e =
    by_first (λ ns r g. all_sound settings (v + 1) olds ns r plain.1 g) (reopen settings v old notes) refl e
  where
    by_rest : (one : Read VolumeKnown) → Reopening settings v old notes one → (o : Option (Read (List VolumeKnown)))
        → ((r : Read (List VolumeKnown)) → o ≡ Some r → AllReopening settings (v + 1) olds one.rest r) → and_volumes one.value o ≡ Some read → AllReopening settings v (old ∷ olds) notes read
    by_rest one first None on e = absurd (let lie : None ≡ Some read = e in cc)
    by_rest one first (Some r) on e =
        let rest = on r refl in
        subst (λ (out : Read (List VolumeKnown)). AllReopening settings v (old ∷ olds) notes out) (some_read (record { value = one.value ∷ r.value; rest = r.rest }) read e)
        (record {
          kept = first.kept ∷ rest.kept;
          volumes = (first.volume, rest.volumes);
          told = first.told ∙ ap (λ (ns : List Note). pending_notes settings v old.pending first.kept ++ ns) rest.told
              ∙ sym (append_assoc (pending_notes settings v old.pending first.kept) (volume_notes settings (v + 1) olds rest.kept) r.rest);
        })

    by_first : ((ns : List Note) (r : Read (List VolumeKnown)) → reopen_all settings (v + 1) olds ns ≡ Some r → AllReopening settings (v + 1) olds ns r)
        → (o : Option (Read VolumeKnown)) → reopen settings v old notes ≡ o → then_all o (reopen_all settings (v + 1) olds) ≡ Some read → AllReopening settings v (old ∷ olds) notes read
    by_first on None p e = absurd (let lie : None ≡ Some read = e in cc)
    by_first on (Some one) p e =
        by_rest one (reopen_sound settings v old notes one plain.0 p) (reopen_all settings (v + 1) olds one.rest) (λ r g. on one.rest r g) e

all_complete : (settings : Settings) (v : ℕ) (olds news : List VolumeKnown) (kept : List (List Bool)) (rest : List Note) → Each IsDecided olds → ReopenedVolumes settings v olds kept news
    → reopen_all settings v olds (volume_notes settings v olds kept ++ rest) ≡ Some (record { value = news; rest = rest })
all_complete settings v [] [] [] rest plain h = refl
all_complete settings v (old ∷ olds) (new ∷ news) (k ∷ kept) rest plain h =
    ap (λ (ns : List Note). then_all (reopen settings v old ns) (reopen_all settings (v + 1) olds))
    (append_assoc (pending_notes settings v old.pending k) (volume_notes settings (v + 1) olds kept) rest)
    ∙ ap (λ (o : Option (Read VolumeKnown)). then_all o (reopen_all settings (v + 1) olds)) (reopen_complete settings v old new k (volume_notes settings (v + 1) olds kept ++ rest) plain.0 h.0)
    ∙ ap (λ (o : Option (Read (List VolumeKnown))). and_volumes new o) (all_complete settings (v + 1) olds news kept rest plain.1 h.1)
all_complete settings v [] [] (k ∷ kept) rest plain h = absurd h
all_complete settings v [] (new ∷ news) [] rest plain h = absurd h
all_complete settings v [] (new ∷ news) (k ∷ kept) rest plain h = absurd h
all_complete settings v (old ∷ olds) [] [] rest plain h = absurd h
all_complete settings v (old ∷ olds) [] (k ∷ kept) rest plain h = absurd h
all_complete settings v (old ∷ olds) (new ∷ news) [] rest plain h = absurd h

-- THE DIRECTORY

pub rows_back : (pending : Option PendingRow) (row : Bool) → new_rows pending (row_notes pending row) ≡ Some (kept_row pending row)
rows_back None true = refl
rows_back None false = refl
rows_back (Some pending) true = cond-true _ (Some (pending.row ∷ [])) None (eq-eqb (pending.tag).line (pending.tag).line refl)
rows_back (Some pending) false = cond-true _ (Some []) None (eq-eqb (pending.tag).line (pending.tag).line refl)

pub record RowsTold (pending : Option PendingRow) (notes : List Note) (new : List HomeRow) : Type 0 where
  pub row : Bool
  pub told : notes ≡ row_notes pending row
  pub rows : new ≡ kept_row pending row

row_told : (line : ℕ) (x : List HomeRow) (new : List HomeRow) (line' : ℕ) → cond (line' == line) (Some x) None ≡ Some new → (line' ≡ line) × (new ≡ x)
row_told line x new line' e = by_test (cases_Bool (line' == line))
  where
    by_test : ((line' == line) ≡ true) ⊎ ((line' == line) ≡ false) → (line' ≡ line) × (new ≡ x)
    by_test (inl same) = (eqb-true line' line same, (let is : Some x ≡ Some new = sym (cond-true _ (Some x) None same) ∙ e in cc))
    by_test (inr other) = absurd (let lie : None ≡ Some new = sym (cond-false _ (Some x) None other) ∙ e in cc)

pub rows_sound : (pending : Option PendingRow) (notes : List Note) (new : List HomeRow) → new_rows pending notes ≡ Some new → RowsTold pending notes new
rows_sound None [] new e = record { row = false; told = refl; rows = (let is : Some [] ≡ Some new = e in cc) }
rows_sound None (n ∷ notes) new e = absurd (let lie : None ≡ Some new = e in cc)
rows_sound (Some pending) (note.KeptDir line' ∷ []) new e =
    let h = row_told (pending.tag).line (pending.row ∷ []) new line' e in
    record { row = true; told = ap (λ (n : ℕ). note.KeptDir n ∷ []) h.0; rows = h.1 }
rows_sound (Some pending) (note.LostDir line' ∷ []) new e =
    let h = row_told (pending.tag).line [] new line' e in
    record { row = false; told = ap (λ (n : ℕ). note.LostDir n ∷ []) h.0; rows = h.1 }
rows_sound (Some pending) [] new e = absurd (let lie : None ≡ Some new = e in cc)
rows_sound (Some pending) (n ∷ []) new e = absurd (let lie : None ≡ Some new = e in cc)
rows_sound (Some pending) (n ∷ m ∷ notes) new e = absurd (let lie : None ≡ Some new = sym (two_notes n) ∙ e in cc)
  where
    two_notes : (n : Note) → row_by (pending.tag).line pending.row (n ∷ m ∷ notes) ≡ None
    two_notes (note.KeptDir line) = refl
    two_notes (note.LostDir line) = refl
    two_notes n = refl

-- THE RESTART

same_list : (a b : List HomeRow) → Some a ≡ Some b → a ≡ b
same_list a b e = cc

restarted_sound : (settings : Settings) (b : Known) (d : ℕ) (notes : List Note) (read : Read (List VolumeKnown)) (new : Option (List HomeRow))
    → AllReopening settings 0 b.volumes notes read → new_rows b.directory.pending read.rest ≡ new
    → Each (restart_row settings (reply.Restarted d) notes b) (restarted_rows b d read.value new)
restarted_sound settings b d notes read None volumes e = tt
restarted_sound settings b d notes read (Some new) volumes e = by_test (cases_Bool (d == length (b.directory.rows ++ new)))
  where
    t : Known
    t = record b { volumes = read.value; directory = directory_with (b.directory.rows ++ new); drained = map undrained b.drained }

    by_test : ((d == length (b.directory.rows ++ new)) ≡ true) ⊎ ((d == length (b.directory.rows ++ new)) ≡ false)
        → Each (restart_row settings (reply.Restarted d) notes b) (restarted_rows b d read.value (Some new))
    by_test (inr other) =
        subst (λ (cs : List Known). Each (restart_row settings (reply.Restarted d) notes b) cs)
        (sym (cond-false _ (record b { volumes = read.value; directory = directory_with (b.directory.rows ++ new); drained = map undrained b.drained } ∷ []) [] other)) tt
    by_test (inl same) =
        let rows = rows_sound b.directory.pending read.rest new e in
        subst (λ (cs : List Known). Each (restart_row settings (reply.Restarted d) notes b) cs)
        (sym (cond-true _ (record b { volumes = read.value; directory = directory_with (b.directory.rows ++ new); drained = map undrained b.drained } ∷ []) [] same)) (
          record {
            kept = volumes.kept;
            row = rows.row;
            opened = record {
              volumes = volumes.volumes;
              rows = ap (λ (xs : List HomeRow). b.directory.rows ++ xs) rows.rows;
              directory = refl;
              drained = refl;
              fuses = refl;
              faults = falls_refl b.faults;
              arms = refl;
            };
            told = volumes.told ∙ ap (λ (ns : List Note). volume_notes settings 0 b.volumes volumes.kept ++ ns) rows.told;
            rows = eqb-true d (length (b.directory.rows ++ new)) same;
          },
          tt,
        )

restarted_sounds : (settings : Settings) (b : Known) (d : ℕ) (notes : List Note) (o : Option (Read (List VolumeKnown))) → Each IsDecided b.volumes
    → reopen_all settings 0 b.volumes notes ≡ o → Each (restart_row settings (reply.Restarted d) notes b) (restarted_by b d o)
restarted_sounds settings b d notes None plain e = tt
restarted_sounds settings b d notes (Some read) plain e =
    restarted_sound settings b d notes read (new_rows b.directory.pending read.rest) (all_sound settings 0 b.volumes notes read plain e) refl

restarted_complete : (settings : Settings) (b : Known) (d : ℕ) (notes : List Note) (faults arms fuses : List ℕ) (t : Known) → Each IsDecided b.volumes → NoneFalls b.faults faults
    → NoneFalls b.arms arms
    → IsRestarted settings (with_counts b faults arms fuses) d notes t → AnyOf (λ c. Below c t) (next_restart settings b (reply.Restarted d) notes)
restarted_complete settings b d notes faults arms fuses t plain f a r =
    let new : List HomeRow = kept_row b.directory.pending r.row in
    let e : Known = record b { volumes = t.volumes; directory = directory_with (b.directory.rows ++ new); drained = map undrained b.drained } in
    let rows : t.directory.rows ≡ b.directory.rows ++ new = (r.opened).rows in
    let count : d ≡ length (b.directory.rows ++ new) = r.rows ∙ ap (λ (xs : List HomeRow). length xs) rows in
    let is : next_restart settings b (reply.Restarted d) notes ≡ e ∷ [] =
    ap (λ (ns : List Note). restarted_by b d (reopen_all settings 0 b.volumes ns)) r.told
    ∙ ap (λ (o : Option (Read (List VolumeKnown))). restarted_by b d o) (all_complete settings 0 b.volumes t.volumes r.kept (row_notes b.directory.pending r.row) plain (r.opened).volumes)
    ∙ ap (λ (o : Option (List HomeRow)). restarted_rows b d t.volumes o) (rows_back b.directory.pending r.row)
    ∙ cond-true _ (e ∷ []) [] (eq-eqb d (length (b.directory.rows ++ new)) count) in
    subst (λ (cs : List Known). AnyOf (λ c. Below c t) cs) (sym is)
    (inl (record {
      volumes = refl;
      directory = (r.opened).directory ∙ ap (λ (xs : List HomeRow). directory_with xs) rows;
      drained = (r.opened).drained;
      faults = falls_trans b.faults faults t.faults f (r.opened).faults;
      arms = subst (λ (xs : List ℕ). NoneFalls b.arms xs) (sym (r.opened).arms) a;
    }))

pub restart_step : RestartsAreSteps
restart_step settings b (reply.Restarted d) notes known plain = record {
  sound = restarted_sounds settings b d notes (reopen_all settings 0 b.volumes notes) plain refl;
  complete = λ faults arms fuses t f a r. restarted_complete settings b d notes faults arms fuses t plain f a r;
}
restart_step settings b reply.NoMem notes known plain = absurd (known refl)
restart_step settings b r notes known plain = never (restart_row settings r notes) b (λ faults arms fuses t f a lie. lie)
