-- The state behind a restart is what its notes tell.
use Rattle.std.proofs.Common.{◌≡◌, ℕ, suc, ◌+◌, ◌<◌, Bool, true, false, List, [], ◌∷◌, ◌++◌, length, Option, Some, None, refl, sym, ap, subst, ◌∙◌, ◌⊎◌, inl, inr, arith}
use Rattle.std.specs.Prelude.{cond, not, ◌&&◌, ◌||◌, ◌==◌, nat_lt, slice_get}
use Rattle.std.specs.Bool.{Decides}
use Rattle.std.specs.List.{AllByRecursion as Each}
use Rattle.std.proofs.lemmas.Bool.{cases_Bool, eqb-true, eq-eqb, and_parts, and_from, cond-true, cond-false}
use Rattle.std.proofs.lemmas.Bool.Decides.{Decides-and, Decides-like, Decides-ltb, Decides-below_and}
use Rattle.hay_needle.specs.declared.settings.Settings.{Settings}
use Rattle.hay_core.specs.declared.entry.Entry.{Entry}
use Rattle.hay_reply.specs.declared.Note.{Note}
use Rattle.hay_reply.specs.declared.Note.TheVariants as note
use Rattle.hay_legal.specs.declared.known.Pending.{Pending}
use Rattle.hay_legal.specs.declared.known.ReplicaKnown.{ReplicaKnown}
use Rattle.hay_legal.specs.declared.known.VolumeKnown.{VolumeKnown}
use Rattle.hay_legal.specs.Known.{machine_of, replica_on}
use Rattle.hay_legal.specs.Restarts.{nothing_at, KeptBelow, KeptAfter, MayKeep, kept_entry, is_kept, ReopenedReplica, ReopenedReplicas, ReopenedVolume, BareIs, kept_note}
use Rattle.hay_legal.specs.Restarts.{replica_notes, pending_notes, added_cells}
use Rattle.hay_audit_steps.specs.Reopen.{kept_by, Read, onto, read_kept, all_below, says, kept_below, kept_at, kept_on, reopened_replica, reopened_replicas, reopened, reopen_kept}
use Rattle.hay_audit_steps.specs.Reopen.{reopen_by, reopen, IsCalm, IsDecided}

-- NOTES

kept_back : (v m line : ℕ) (kept : Bool) → kept_by v m line (kept_note v m line kept) ≡ Some kept
kept_back v m line true = cond-true _ (Some true) None (and_from (v == v) _ (eq-eqb v v refl) (and_from (m == m) (line == line) (eq-eqb m m refl) (eq-eqb line line refl)))
kept_back v m line false = cond-true _ (Some false) None (and_from (v == v) _ (eq-eqb v v refl) (and_from (m == m) (line == line) (eq-eqb m m refl) (eq-eqb line line refl)))

-- what was read is what the notes tell
pub read_back : (settings : Settings) (v line j : ℕ) (replicas : List ReplicaKnown) (kept : List Bool) (rest : List Note) → length kept ≡ length replicas
    → read_kept settings v line j replicas (replica_notes settings v line j kept ++ rest) ≡ Some (record { value = kept; rest = rest })
read_back settings v line j [] [] rest e = refl
read_back settings v line j [] (x ∷ kept) rest e = absurd (omega (arith, e))
read_back settings v line j (r ∷ replicas) [] rest e = absurd (omega (arith, e))
read_back settings v line j (r ∷ replicas) (x ∷ kept) rest e =
    ap (λ (o : Option Bool). onto o (read_kept settings v line (j + 1) replicas (replica_notes settings v line (j + 1) kept ++ rest))) (kept_back v (machine_of settings v j) line x)
    ∙ ap (λ (o : Option (Read (List Bool))). onto (Some x) o) (read_back settings v line (j + 1) replicas kept rest (omega (arith, e)))

said : (v m line v' m' line' : ℕ) (x kept : Bool) → cond ((v' == v) && ((m' == m) && (line' == line))) (Some x) None ≡ Some kept
    → (v' ≡ v) × (m' ≡ m) × (line' ≡ line) × (x ≡ kept)
said v m line v' m' line' x kept e = by_test (cases_Bool ((v' == v) && ((m' == m) && (line' == line))))
  where
    by_test : (((v' == v) && ((m' == m) && (line' == line))) ≡ true) ⊎ (((v' == v) && ((m' == m) && (line' == line))) ≡ false) → (v' ≡ v) × (m' ≡ m) × (line' ≡ line) × (x ≡ kept)
    by_test (inl yes_it_is) =
        let parts = and_parts (v' == v) ((m' == m) && (line' == line)) yes_it_is in
        let others = and_parts (m' == m) (line' == line) parts.1 in
        let same : Some x ≡ Some kept = sym (cond-true _ (Some x) None yes_it_is) ∙ e in
        (eqb-true v' v parts.0, eqb-true m' m others.0, eqb-true line' line others.1, cc)
    by_test (inr it_is_not) = absurd (let lie : None ≡ Some kept = sym (cond-false _ (Some x) None it_is_not) ∙ e in cc)

kept_is : (v m line : ℕ) (n : Note) (kept : Bool) → kept_by v m line n ≡ Some kept → n ≡ kept_note v m line kept
kept_is v m line (note.Kept v' m' line') true e = let h = said v m line v' m' line' true true e in let e0 = h.0 in let e1 = h.1 in let e2 = h.2 in cc
kept_is v m line (note.Kept v' m' line') false e = absurd (let h = said v m line v' m' line' true false e in let lie : true ≡ false = h.3 in cc)
kept_is v m line (note.Lost v' m' line') false e = let h = said v m line v' m' line' false false e in let e0 = h.0 in let e1 = h.1 in let e2 = h.2 in cc
kept_is v m line (note.Lost v' m' line') true e = absurd (let h = said v m line v' m' line' false true e in let lie : false ≡ true = h.3 in cc)
kept_is v m line n kept e = absurd cc

pub record IsReading (settings : Settings) (v line j : ℕ) (replicas : List ReplicaKnown) (notes : List Note) (read : Read (List Bool)) : Type 0 where
  pub told : notes ≡ replica_notes settings v line j read.value ++ read.rest
  pub long : length read.value ≡ length replicas

pub read_is : (settings : Settings) (v line j : ℕ) (replicas : List ReplicaKnown) (notes : List Note) (read : Read (List Bool))
    → read_kept settings v line j replicas notes ≡ Some read → IsReading settings v line j replicas notes read
read_is settings v line j [] notes read e =
    let is : record { value = []; rest = notes } ≡ read = some_same _ read e in
    subst (λ (r : Read (List Bool)). IsReading settings v line j [] notes r) is (record { told = refl; long = refl })
  where
    some_same : (a b : Read (List Bool)) → Some a ≡ Some b → a ≡ b
    some_same a b e = cc
read_is settings v line j (r ∷ replicas) [] read e = absurd (let lie : None ≡ Some read = e in cc)
read_is settings v line j (r ∷ replicas) (n ∷ notes) read e =
    by_parts (λ more q. read_is settings v line (j + 1) replicas notes more q) (kept_by v (machine_of settings v j) line n) (read_kept settings v line (j + 1) replicas notes) refl refl e
  where
    by_parts : ((more : Read (List Bool)) → read_kept settings v line (j + 1) replicas notes ≡ Some more → IsReading settings v line (j + 1) replicas notes more)
        → (x : Option Bool) (o : Option (Read (List Bool))) → kept_by v (machine_of settings v j) line n ≡ x → read_kept settings v line (j + 1) replicas notes ≡ o
        → onto x o ≡ Some read → IsReading settings v line j (r ∷ replicas) (n ∷ notes) read
    by_parts on None o p q e = absurd (let lie : None ≡ Some read = e in cc)
    by_parts on (Some x) None p q e = absurd (let lie : None ≡ Some read = e in cc)
    by_parts on (Some x) (Some more) p q e =
        let rest = on more q in
        let first = kept_is v (machine_of settings v j) line n x p in
        let is : record { value = x ∷ more.value; rest = more.rest } ≡ read = some_same _ read e in
        subst (λ (out : Read (List Bool)). IsReading settings v line j (r ∷ replicas) (n ∷ notes) out) is
        (record {
          told = ap (λ (y : Note). y ∷ notes) first ∙ ap (λ (ys : List Note). kept_note v (machine_of settings v j) line x ∷ ys) rest.told;
          long = ap suc rest.long;
        })
      where
        some_same : (a b : Read (List Bool)) → Some a ≡ Some b → a ≡ b
        some_same a b e = cc

-- WHICH REPLICAS MAY KEEP IT

pub tells_says : (x : Bool) (o : Option Bool) → Decides (says x o) (o ≡ Some x)
tells_says true (Some true) = (λ h. refl, λ h. refl)
tells_says true (Some false) = (λ h. absurd cc, λ h. absurd cc)
tells_says false (Some false) = (λ h. refl, λ h. refl)
tells_says false (Some true) = (λ h. absurd cc, λ h. absurd cc)
tells_says true None = (λ h. absurd cc, λ h. absurd cc)
tells_says false None = (λ h. absurd cc, λ h. absurd cc)

pub tells_below : (test : ℕ → Bool) (P : ℕ → Type 0) → ((j : ℕ) → Decides (test j) (P j)) → (n : ℕ) → Decides (all_below test n) ((j : ℕ) → j < n → P j)
tells_below test P each n = Decides-below_and test P (all_below test) each refl (λ m. refl) n

-- a premise that is a test
tells_where : (test result : Bool) (P : Type 0) → Decides result P → Decides (not test || result) (test ≡ true → P)
tells_where true result P h = (λ e known. h.0 e, λ f. h.1 (f refl))
tells_where false result P h = (λ e lie. absurd (let none : false ≡ true = lie in cc), λ f. refl)

tells_unless : (test result : Bool) (P : Type 0) → Decides result P → Decides (test || result) (test ≡ false → P)
tells_unless false result P h = (λ e known. h.0 e, λ f. h.1 (f refl))
tells_unless true result P h = (λ e lie. absurd (let none : true ≡ false = lie in cc), λ f. refl)

tells_kept : (volume : VolumeKnown) (change : Entry) (f : ℕ) (kept : List Bool) → Decides (kept_below volume change f kept) (KeptBelow volume change f kept)
tells_kept volume change f kept =
    Decides-like _
    (λ h. record { below = h.0; nothing = h.1.0; above = λ j after within none. h.1.1 j within (less_true f j after) none })
    (λ h. (h.below, (h.nothing, λ j within after none. h.above j (less_is f j after) within none)))
    (Decides-and _ _ (tells_below (λ j. says true (slice_get kept j)) (λ j. slice_get kept j ≡ Some true) (λ j. tells_says true (slice_get kept j)) f)
    (Decides-and _ _
    (tells_below (λ j. not (nothing_at volume change j) || says true (slice_get kept j)) (λ j. nothing_at volume change j ≡ true → slice_get kept j ≡ Some true)
    (λ j. tells_where (nothing_at volume change j) (says true (slice_get kept j)) (slice_get kept j ≡ Some true) (tells_says true (slice_get kept j))) (length kept))
    (tells_below (λ j. not (nat_lt f j) || (nothing_at volume change j || says false (slice_get kept j))) (λ j. nat_lt f j ≡ true → nothing_at volume change j ≡ false → slice_get kept j ≡ Some false)
    (λ j. tells_where (nat_lt f j) _ _ (tells_unless (nothing_at volume change j) (says false (slice_get kept j)) (slice_get kept j ≡ Some false)
    (tells_says false (slice_get kept j)))) (length kept))))
  where
    less_true : (a b : ℕ) → a < b → nat_lt a b ≡ true
    less_true a b h = (Decides-ltb a b).1 h

    less_is : (a b : ℕ) → nat_lt a b ≡ true → a < b
    less_is a b h = (Decides-ltb a b).0 h

abbrev pub AfterFailed : Settings → ℕ → VolumeKnown → Entry → List Bool → Type 0
AfterFailed settings v volume change kept = (m : ℕ) × (f : ℕ) × (volume.frozen ≡ Some m) × (replica_on settings v m ≡ Some f) × KeptBelow volume change f kept

pub tells_after : (settings : Settings) (v : ℕ) (volume : VolumeKnown) (change : Entry) (kept : List Bool)
    → Decides (kept_on settings v volume change volume.frozen kept) (AfterFailed settings v volume change kept)
tells_after settings v volume change kept = by_machine volume.frozen refl
  where
    some_same : (a b : ℕ) → Some a ≡ Some b → a ≡ b
    some_same a b e = cc

    by_replica : (m : ℕ) (on : Option ℕ) → volume.frozen ≡ Some m → replica_on settings v m ≡ on → Decides (kept_at volume change on kept) (AfterFailed settings v volume change kept)
    by_replica m None e g = (
      λ h. absurd (let lie : false ≡ true = h in cc),
      λ h. absurd (let same : m ≡ h.0 = some_same m h.0 (sym e ∙ h.2) in let lie : None ≡ Some h.1 = sym g ∙ ap (λ (x : ℕ). replica_on settings v x) same ∙ h.3 in cc),
    )
    by_replica m (Some f) e g = (
      λ h. (m, f, e, g, (tells_kept volume change f kept).0 h),
      λ h.
          let same : h.0 ≡ m = some_same h.0 m (sym h.2 ∙ e) in
          let at : h.1 ≡ f = some_same h.1 f (sym h.3 ∙ ap (λ (x : ℕ). replica_on settings v x) same ∙ g) in
          (tells_kept volume change f kept).1 (subst (λ (x : ℕ). KeptBelow volume change x kept) at h.4),
    )

    by_machine : (frozen : Option ℕ) → volume.frozen ≡ frozen → Decides (kept_on settings v volume change frozen kept) (AfterFailed settings v volume change kept)
    by_machine None e = (λ h. absurd (let lie : false ≡ true = h in cc), λ h. absurd (let lie : None ≡ Some h.0 = sym e ∙ h.2 in cc))
    by_machine (Some m) e = by_replica m (replica_on settings v m) e refl

-- WHAT IS OPENED

replica_opens : (volume : VolumeKnown) (old : ReplicaKnown) (kept : List Entry) → old.stuck ≡ false → ReopenedReplica volume old kept (reopened_replica volume old kept)
replica_opens volume old kept loose = record {
  base = refl;
  stands = inl (record { end = refl; cells = refl; bare = subst (λ (stuck : Bool). BareIs stuck (old.bare + added_cells kept) (old.bare + added_cells kept)) (sym loose) refl; generation = refl });
  loose = refl;
  idle = refl;
  settled = refl;
}

pub same_new : (new : ReplicaKnown) (r : ReplicaKnown) → new.base ≡ r.base → new.end ≡ r.end → new.cells ≡ r.cells → new.bare ≡ r.bare → new.generation ≡ r.generation
    → new.stuck ≡ r.stuck → new.run ≡ r.run → new.poised ≡ r.poised → new ≡ r
same_new new r a b c d e f g h =
    ap (λ (x : _). record new { base = x }) a
    ∙ ap (λ (x : _). record new { base = r.base; end = x }) b
    ∙ ap (λ (x : _). record new { base = r.base; end = r.end; cells = x }) c
    ∙ ap (λ (x : _). record new { base = r.base; end = r.end; cells = r.cells; bare = x }) d
    ∙ ap (λ (x : _). record new { base = r.base; end = r.end; cells = r.cells; bare = r.bare; generation = x }) e
    ∙ ap (λ (x : _). record new { base = r.base; end = r.end; cells = r.cells; bare = r.bare; generation = r.generation; stuck = x }) f
    ∙ ap (λ (x : _). record new { base = r.base; end = r.end; cells = r.cells; bare = r.bare; generation = r.generation; stuck = r.stuck; run = x }) g
    ∙ ap (λ (x : _). record new { base = r.base; end = r.end; cells = r.cells; bare = r.bare; generation = r.generation; stuck = r.stuck; run = r.run; poised = x }) h

replica_back : (volume : VolumeKnown) (old new : ReplicaKnown) (kept : List Entry) → IsCalm old → ReopenedReplica volume old kept new → new ≡ reopened_replica volume old kept
replica_back volume old new kept calm h =
    elim h.stands [
      | inl stands ↦ same_new new (reopened_replica volume old kept) h.base stands.end stands.cells
          (subst (λ (stuck : Bool). BareIs stuck (old.bare + added_cells kept) new.bare) calm.0 stands.bare) stands.generation h.loose h.idle h.settled
      | inr swapped ↦ absurd (let lie : true ≡ false = sym swapped.poised ∙ calm.1 in cc)
    ]

replicas_open : (volume : VolumeKnown) (kept : List Bool) (j : ℕ) (olds : List ReplicaKnown) → Each IsCalm olds → ReopenedReplicas volume kept j olds (reopened_replicas volume kept j olds)
replicas_open volume kept j [] calm = tt
replicas_open volume kept j (old ∷ olds) calm = (replica_opens volume old (kept_entry volume.pending (is_kept kept j)) calm.0.0, replicas_open volume kept (j + 1) olds calm.1)

replicas_back : (volume : VolumeKnown) (kept : List Bool) (j : ℕ) (olds news : List ReplicaKnown) → Each IsCalm olds → ReopenedReplicas volume kept j olds news
    → news ≡ reopened_replicas volume kept j olds
replicas_back volume kept j [] [] calm h = refl
replicas_back volume kept j [] (new ∷ news) calm h = absurd h
replicas_back volume kept j (old ∷ olds) [] calm h = absurd h
replicas_back volume kept j (old ∷ olds) (new ∷ news) calm h =
    ap (λ (r : ReplicaKnown). r ∷ news) (replica_back volume old new (kept_entry volume.pending (is_kept kept j)) calm.0 h.0)
    ∙ ap (λ (rs : List ReplicaKnown). reopened_replica volume old (kept_entry volume.pending (is_kept kept j)) ∷ rs) (replicas_back volume kept (j + 1) olds news calm.1 h.1)

-- what the notes of a volume tell
pub record Reopening (settings : Settings) (v : ℕ) (old : VolumeKnown) (notes : List Note) (read : Read VolumeKnown) : Type 0 where
  pub kept : List Bool
  pub volume : ReopenedVolume settings v old kept read.value
  pub told : notes ≡ pending_notes settings v old.pending kept ++ read.rest

some_read : (a b : Read VolumeKnown) → Some a ≡ Some b → a ≡ b
some_read a b e = cc

opened_of : (settings : Settings) (v : ℕ) (old : VolumeKnown) (kept : List Bool) → IsDecided old → MayKeep settings v old old.pending kept → ReopenedVolume settings v old kept (reopened old kept)
opened_of settings v old kept plain may = record {
  may = may;
  replicas = replicas_open old kept 0 old.replicas plain.calm;
  log = refl;
  frozen = refl;
  pending = refl;
}

may_of : (settings : Settings) (v : ℕ) (old : VolumeKnown) (pending : Pending) (kept : List Bool) → pending.failed ≡ true
    → length kept ≡ length old.replicas → AfterFailed settings v old pending.entry kept → MayKeep settings v old (Some pending) kept
may_of settings v old pending kept failed long after = (long, subst (λ (b : Bool). KeptAfter settings v old pending b kept) (sym failed) after)

pub reopen_sound : (settings : Settings) (v : ℕ) (old : VolumeKnown) (notes : List Note) (read : Read VolumeKnown) → IsDecided old
    → reopen settings v old notes ≡ Some read → Reopening settings v old notes read
reopen_sound settings v old notes read plain e = by_pending old.pending refl e
  where
    by_reading : (pending : Pending) (o : Option (Read (List Bool))) → old.pending ≡ Some pending → read_kept settings v (pending.tag).line 0 old.replicas notes ≡ o
        → reopen_kept settings v old pending o ≡ Some read → Reopening settings v old notes read
    by_reading pending None is told e = absurd (let lie : None ≡ Some read = e in cc)
    by_reading pending (Some more) is told e = by_test (cases_Bool (kept_on settings v old pending.entry old.frozen more.value))
      where
        by_test : ((kept_on settings v old pending.entry old.frozen more.value) ≡ true) ⊎ ((kept_on settings v old pending.entry old.frozen more.value) ≡ false) → Reopening settings v old notes read
        by_test (inl may) =
            let reading = read_is settings v (pending.tag).line 0 old.replicas notes more told in
            let same : record { value = reopened old more.value; rest = more.rest } ≡ read =
            some_read _ read (sym (cond-true _ (Some (record { value = reopened old more.value; rest = more.rest })) None may) ∙ e) in
            let allowed : MayKeep settings v old (Some pending) more.value =
            may_of settings v old pending more.value (plain.failed pending is) reading.long ((tells_after settings v old pending.entry more.value).0 may) in
            subst (λ (r : Read VolumeKnown). Reopening settings v old notes r) same
            (record {
              kept = more.value;
              volume = opened_of settings v old more.value plain (subst (λ (o : Option Pending). MayKeep settings v old o more.value) (sym is) allowed);
              told = reading.told ∙ ap (λ (o : Option Pending). pending_notes settings v o more.value ++ more.rest) (sym is);
            })
        by_test (inr may_not) = absurd (let lie : None ≡ Some read = sym (cond-false _ (Some (record { value = reopened old more.value; rest = more.rest })) None may_not) ∙ e in cc)

    by_pending : (pending : Option Pending) → old.pending ≡ pending → reopen_by settings v old notes pending ≡ Some read → Reopening settings v old notes read
    by_pending None is e =
        subst (λ (r : Read VolumeKnown). Reopening settings v old notes r) (some_read (record { value = reopened old []; rest = notes }) read e)
        (record {
          kept = [];
          volume = opened_of settings v old [] plain (subst (λ (o : Option Pending). MayKeep settings v old o []) (sym is) refl);
          told = ap (λ (o : Option Pending). pending_notes settings v o [] ++ notes) (sym is);
        })
    by_pending (Some pending) is e = by_reading pending (read_kept settings v (pending.tag).line 0 old.replicas notes) is refl e

same_volume : (new old : VolumeKnown) (kept : List Bool) → new.log ≡ [] → new.frozen ≡ None → new.pending ≡ None → new.replicas ≡ reopened_replicas old kept 0 old.replicas → new ≡ reopened old kept
same_volume new old kept a b c d =
    ap (λ (x : _). record new { log = x }) a
    ∙ ap (λ (x : _). record new { log = []; frozen = x }) b
    ∙ ap (λ (x : _). record new { log = []; frozen = None; pending = x }) c
    ∙ ap (λ (x : _). record new { log = []; frozen = None; pending = None; replicas = x }) d

pub reopen_complete : (settings : Settings) (v : ℕ) (old new : VolumeKnown) (kept : List Bool) (rest : List Note) → IsDecided old
    → ReopenedVolume settings v old kept new → reopen settings v old (pending_notes settings v old.pending kept ++ rest) ≡ Some (record { value = new; rest = rest })
reopen_complete settings v old new kept rest plain h = by_pending old.pending refl h.may
  where
    is : new ≡ reopened old kept
    is = same_volume new old kept h.log h.frozen h.pending (replicas_back old kept 0 old.replicas new.replicas plain.calm h.replicas)

    by_pending : (pending : Option Pending) → old.pending ≡ pending → MayKeep settings v old pending kept
        → reopen_by settings v old (pending_notes settings v pending kept ++ rest) pending ≡ Some (record { value = new; rest = rest })
    by_pending None none may = ap (λ (ks : List Bool). Some (record { value = reopened old ks; rest = rest })) (sym may) ∙ ap (λ (n : VolumeKnown). Some (record { value = n; rest = rest })) (sym is)
    by_pending (Some pending) some may =
        let after : AfterFailed settings v old pending.entry kept = subst (λ (b : Bool). KeptAfter settings v old pending b kept) (plain.failed pending some) may.1 in
        ap (λ (o : Option (Read (List Bool))). reopen_kept settings v old pending o) (read_back settings v (pending.tag).line 0 old.replicas kept rest may.0)
        ∙ cond-true _ (Some (record { value = reopened old kept; rest = rest })) None ((tells_after settings v old pending.entry kept).1 after)
        ∙ ap (λ (n : VolumeKnown). Some (record { value = n; rest = rest })) (sym is)
