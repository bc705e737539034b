-- A restart of a whole store, over a box.
use Rattle.std.proofs.Common.{◌≡◌, ℕ, zero, suc, ◌+◌, ◌-◌, ◌<◌, Bool, true, false, List, [], ◌∷◌, ◌++◌, length, Option, Some, None, refl, sym, ap, subst, ◌∙◌, ◌⊎◌, inl, inr, arith, append_assoc}
use Rattle.std.specs.Prelude.{◌==◌, map, nat_lt, slice_get}
use Rattle.std.specs.Bool.{Decides}
use Rattle.std.specs.List.{AllZip, AllByRecursion as Each}
use Rattle.std.proofs.lemmas.Bool.{cases_Bool, cond-true, cond-false, eqb-true, eq-eqb}
use Rattle.std.proofs.lemmas.Bool.Decides.{nat_tests}
use Rattle.hay_needle.specs.declared.settings.Settings.{Settings}
use Rattle.hay_core.specs.declared.entry.Entry.{Entry}
use Rattle.hay_core.specs.declared.entry.Entry.TheVariants.{Put, Del}
use Rattle.hay_reply.specs.declared.Note.{Note}
use Rattle.hay_reply.specs.declared.Reply.TheVariants as reply
use Rattle.hay_legal.specs.declared.known.Pending.{Pending}
use Rattle.hay_legal.specs.declared.known.HomeRow.{HomeRow}
use Rattle.hay_legal.specs.declared.known.ReplicaKnown.{ReplicaKnown}
use Rattle.hay_legal.specs.declared.known.VolumeKnown.{VolumeKnown}
use Rattle.hay_legal.specs.declared.known.Known.{Known}
use Rattle.hay_legal.specs.Known.{NoneFalls, empty_volume}
use Rattle.hay_legal.specs.Restarts.{IsRestarted, KeptAfter, KeptFirst, MayKeep, ReopenedVolume, ReopenedVolumes, directory_with, kept_row, pending_notes, row_notes, undrained, volume_notes}
use Rattle.hay_audit_steps.specs.BoxLaw.{RestartsStepBoxes}
use Rattle.hay_audit_steps.specs.BoxReopen.{base_of, before_others, high_of, is_front, kept_first, kept_if, low_of, may_keep, parts_of, reopened_stores, restart_boxes}
use Rattle.hay_audit_steps.specs.BoxReopen.{restarted_box, restarted_from, restarted_with, then_others, volume_kept, volume_of}
use Rattle.hay_audit_steps.specs.Boxes.{Box, EachIn, Has, InReplicas, InVolumes, Within}
use Rattle.hay_audit_steps.specs.Parts.{ArePartsOf, InParts, InVolumeParts, Part, choices_with, reopened_choices}
use Rattle.hay_audit_steps.specs.Reopen.{Read, new_rows, read_kept, restart_row, says}
use Rattle.hay_audit_steps.specs.Rooms.{IsWhole}
use Rattle.hay_audit_steps.specs.Slacks.{Lies, Slack}
use Rattle.hay_audit_steps.specs.CheckerSteps.{AnyOf, Below, with_counts}
use Rattle.hay_audit_steps.proofs.Choices.{any_choice, each_choice, volumes_reopen_complete, volumes_reopen_sound}
use Rattle.hay_audit_steps.proofs.Counts.{falls_refl, falls_trans}
use Rattle.hay_audit_steps.proofs.Pointwise.{boxes_are_parts}
use Rattle.hay_audit_steps.proofs.Reopens.{IsReading, read_back, read_is, tells_after, tells_below, tells_says}
use Rattle.hay_audit_steps.proofs.Restarting.{RowsTold, rows_back, rows_sound}

-- WHICH REPLICAS KEEP A PENDING CHANGE

abbrev IsFrontOf : List Bool → ℕ → Type 0
IsFrontOf kept n = (j : ℕ) → j < length kept → slice_get kept j ≡ Some (nat_lt j n)

same_some : (a b : Bool) → Some a ≡ Some b → a ≡ b
same_some a b e = cc

tells_front : (kept : List Bool) → Decides (is_front kept) ((n : ℕ) × IsFrontOf kept n)
tells_front [] = (λ h. (0, λ j within. absurd (omega (arith, within))), λ h. refl)
tells_front (true ∷ kept) = (
  λ h. let more = (tells_front kept).0 h in (suc more.0, one_more more.0 more.1),
  λ h. (tells_front kept).1 (h.0 - 1, one_less h.0 h.1),
)
  where
    one_more : (n : ℕ) → IsFrontOf kept n → IsFrontOf (true ∷ kept) (suc n)
    one_more n f zero within = ap (λ (b : Bool). Some b) (let e : true ≡ nat_lt 0 (suc n) = grind (arith, nat_tests) in e)
    one_more n f (suc j) within = f j (omega (arith, within)) ∙ ap (λ (b : Bool). Some b) (let e : nat_lt j n ≡ nat_lt (suc j) (suc n) = grind (arith, nat_tests) in e)

    one_less : (n : ℕ) → IsFrontOf (true ∷ kept) n → IsFrontOf kept (n - 1)
    one_less n f j within =
        let first : true ≡ nat_lt 0 n = same_some true (nat_lt 0 n) (f 0 (omega arith)) in
        f (suc j) (omega (arith, within)) ∙ ap (λ (b : Bool). Some b) (let e : nat_lt (suc j) n ≡ nat_lt j (n - 1) = grind (arith, nat_tests, first) in e)
tells_front (false ∷ kept) =
    let none = tells_below (λ j. says false (slice_get kept j)) (λ j. slice_get kept j ≡ Some false) (λ j. tells_says false (slice_get kept j)) (length kept) in (
      λ h. (0, no_more (none.0 h)),
      λ h. none.1 (no_others h.0 h.1),
    )
  where
    no_more : ((j : ℕ) → j < length kept → slice_get kept j ≡ Some false) → IsFrontOf (false ∷ kept) 0
    no_more f zero within = ap (λ (b : Bool). Some b) (let e : false ≡ nat_lt 0 0 = grind (arith, nat_tests) in e)
    no_more f (suc j) within = f j (omega (arith, within)) ∙ ap (λ (b : Bool). Some b) (let e : false ≡ nat_lt (suc j) 0 = grind (arith, nat_tests) in e)

    no_others : (n : ℕ) → IsFrontOf (false ∷ kept) n → (j : ℕ) → j < length kept → slice_get kept j ≡ Some false
    no_others n f j within =
        let first : false ≡ nat_lt 0 n = same_some false (nat_lt 0 n) (f 0 (omega arith)) in
        f (suc j) (omega (arith, within)) ∙ ap (λ (b : Bool). Some b) (let e : nat_lt (suc j) n ≡ false = grind (arith, nat_tests, first) in e)

tells_may : (settings : Settings) (v : ℕ) (volume : VolumeKnown) (pending : Pending) (failed : Bool) (kept : List Bool)
    → Decides (may_keep settings v volume pending failed kept) (KeptAfter settings v volume pending failed kept)
tells_may settings v volume pending true kept = tells_after settings v volume pending.entry kept
tells_may settings v volume pending false kept = by_entry pending.entry
  where
    by_entry : (change : Entry) → Decides (kept_first change kept) (KeptFirst change kept)
    by_entry (Put pair cookie bytes) = tells_front kept
    by_entry (Del pair) = tells_below (λ j. says true (slice_get kept j)) (λ j. slice_get kept j ≡ Some true) (λ j. tells_says true (slice_get kept j)) (length kept)

record IsKept (settings : Settings) (v : ℕ) (volume : VolumeKnown) (notes : List Note) (pending : Option Pending) (read : Read (List Bool)) : Type 0 where
  may : MayKeep settings v volume pending read.value
  told : notes ≡ pending_notes settings v pending read.value ++ read.rest

some_read : (a b : Read (List Bool)) → Some a ≡ Some b → a ≡ b
some_read a b e = cc

kept_sound : (settings : Settings) (v : ℕ) (volume : VolumeKnown) (notes : List Note) (pending : Option Pending) (read : Read (List Bool))
    → volume_kept settings v volume notes pending ≡ Some read → IsKept settings v volume notes pending read
kept_sound settings v volume notes None read e =
    subst (λ (r : Read (List Bool)). IsKept settings v volume notes None r) (some_read (record { value = []; rest = notes }) read e) (record { may = refl; told = refl })
kept_sound settings v volume notes (Some pending) read e = by_reading (read_kept settings v (pending.tag).line 0 volume.replicas notes) refl e
  where
    by_reading : (o : Option (Read (List Bool))) → read_kept settings v (pending.tag).line 0 volume.replicas notes ≡ o → kept_if settings v volume pending o ≡ Some read
        → IsKept settings v volume notes (Some pending) read
    by_reading None g e = absurd (let lie : None ≡ Some read = e in cc)
    by_reading (Some r) g e =
        let reading = read_is settings v (pending.tag).line 0 volume.replicas notes r g in
        by_test reading (cases_Bool (may_keep settings v volume pending pending.failed r.value))
      where
        by_test : IsReading settings v (pending.tag).line 0 volume.replicas notes r
            → (may_keep settings v volume pending pending.failed r.value ≡ true) ⊎ (may_keep settings v volume pending pending.failed r.value ≡ false)
            → IsKept settings v volume notes (Some pending) read
        by_test reading (inl may) =
            let same : r ≡ read = some_read r read (sym (cond-true _ (Some r) None may) ∙ e) in
            subst (λ (x : Read (List Bool)). IsKept settings v volume notes (Some pending) x) same
            (record { may = (reading.long, (tells_may settings v volume pending pending.failed r.value).0 may); told = reading.told })
        by_test reading (inr may_not) = absurd (let lie : None ≡ Some read = sym (cond-false _ (Some r) None may_not) ∙ e in cc)

kept_complete : (settings : Settings) (v : ℕ) (volume : VolumeKnown) (pending : Option Pending) (kept : List Bool) (rest : List Note) → MayKeep settings v volume pending kept
    → volume_kept settings v volume (pending_notes settings v pending kept ++ rest) pending ≡ Some (record { value = kept; rest = rest })
kept_complete settings v volume None kept rest may = ap (λ (ks : List Bool). Some (record { value = ks; rest = rest })) (sym may)
kept_complete settings v volume (Some pending) kept rest may =
    ap (λ (o : Option (Read (List Bool))). kept_if settings v volume pending o) (read_back settings v (pending.tag).line 0 volume.replicas kept rest may.0)
    ∙ cond-true _ (Some (record { value = kept; rest = rest })) None ((tells_may settings v volume pending pending.failed kept).1 may.1)

-- PARTS

in_parts : (bases : List ReplicaKnown) (lows highs : List Slack) (replicas : List ReplicaKnown) → InReplicas bases lows highs replicas → InParts (parts_of bases lows highs) replicas
in_parts [] [] [] [] h = tt
in_parts (b ∷ bases) (l ∷ lows) (y ∷ highs) (r ∷ replicas) h = (h.0, in_parts bases lows highs replicas h.1)
in_parts bases lows highs replicas h = absurd h

parts_in : (bases : List ReplicaKnown) (lows highs : List Slack) (replicas : List ReplicaKnown) → length bases ≡ length lows → AllZip Lies lows highs → InParts (parts_of bases lows highs) replicas
    → InReplicas bases lows highs replicas
parts_in [] [] [] [] e some h = tt
parts_in [] [] [] (r ∷ replicas) e some h = absurd h
parts_in (b ∷ bases) (l ∷ lows) (y ∷ highs) (r ∷ replicas) e some h = (h.0, parts_in bases lows highs replicas (omega (arith, e)) some.1 h.1)
parts_in (b ∷ bases) (l ∷ lows) (y ∷ highs) [] e some h = absurd h
parts_in [] (l ∷ lows) highs replicas e some h = absurd (omega (arith, e))
parts_in (b ∷ bases) [] highs replicas e some h = absurd (omega (arith, e))
parts_in [] [] (y ∷ highs) replicas e some h = absurd some
parts_in (b ∷ bases) (l ∷ lows) [] replicas e some h = absurd some

bases_are : (bases : List ReplicaKnown) (lows highs : List Slack) → length bases ≡ length lows → AllZip Lies lows highs → map (λ part. part.base) (parts_of bases lows highs) ≡ bases
bases_are [] [] [] e some = refl
bases_are (b ∷ bases) (l ∷ lows) (y ∷ highs) e some = ap (λ (rs : List ReplicaKnown). b ∷ rs) (bases_are bases lows highs (omega (arith, e)) some.1)
bases_are [] (l ∷ lows) highs e some = absurd (omega (arith, e))
bases_are (b ∷ bases) [] highs e some = absurd (omega (arith, e))
bases_are [] [] (y ∷ highs) e some = absurd some
bases_are (b ∷ bases) (l ∷ lows) [] e some = absurd some

each_lies : (bases : List ReplicaKnown) (lows highs : List Slack) → AllZip Lies lows highs → Each (λ part. Lies part.low part.high) (parts_of bases lows highs)
each_lies [] lows highs some = tt
each_lies (b ∷ bases) [] highs some = tt
each_lies (b ∷ bases) (l ∷ lows) [] some = tt
each_lies (b ∷ bases) (l ∷ lows) (y ∷ highs) some = (some.0, each_lies bases lows highs some.1)

are_parts : (volume : VolumeKnown) (low high : List Slack) → length volume.replicas ≡ length low → AllZip Lies low high → ArePartsOf volume (parts_of volume.replicas low high)
are_parts volume low high e some = record { bases = bases_are volume.replicas low high e some; some = each_lies volume.replicas low high some }

-- ALL VOLUMES

abbrev Shape : List VolumeKnown → List (List Slack) → Type 0
Shape volumes lows = AllZip (λ volume row. length volume.replicas ≡ length row) volumes lows

-- these volumes are such as the store's parts stand for
abbrev InStore : List (List Part) → List VolumeKnown → Type 0
InStore store news = AllZip (λ parts new. InVolumeParts empty_volume parts new) store news

abbrev ComesFrom : Settings → ℕ → List VolumeKnown → List (List Slack) → List (List Slack) → List (List Bool) → List (List Part) → Type 0
ComesFrom settings v volumes lows highs kept store =
    (news : List VolumeKnown) → InStore store news → (olds : List VolumeKnown) × InVolumes volumes lows highs olds × ReopenedVolumes settings v olds kept news

record Stores (settings : Settings) (v : ℕ) (volumes : List VolumeKnown) (lows highs : List (List Slack)) (notes : List Note) (read : Read (List (List (List Part)))) : Type 0 where
  kept : List (List Bool)
  told : notes ≡ volume_notes settings v volumes kept ++ read.rest
  each : Each (ComesFrom settings v volumes lows highs kept) read.value

some_stores : (a b : Read (List (List (List Part)))) → Some a ≡ Some b → a ≡ b
some_stores a b e = cc

none_come : (settings : Settings) (v : ℕ) → ComesFrom settings v [] [] [] [] []
none_come settings v [] h = ([], tt, tt)
none_come settings v (new ∷ news) h = absurd h

one_more_comes : (settings : Settings) (v : ℕ) (volume : VolumeKnown) (volumes : List VolumeKnown) (low : List Slack) (lows : List (List Slack)) (high : List Slack)
    (highs : List (List Slack)) (kept : List Bool) (kepts : List (List Bool)) (first : List Part) (rest : List (List Part))
    → length volume.replicas ≡ length low → AllZip Lies low high
    → ((new : VolumeKnown) → InVolumeParts empty_volume first new → (old : VolumeKnown) × InVolumeParts volume (parts_of volume.replicas low high) old × ReopenedVolume settings v old kept new)
    → ComesFrom settings (v + 1) volumes lows highs kepts rest → ComesFrom settings v (volume ∷ volumes) (low ∷ lows) (high ∷ highs) (kept ∷ kepts) (first ∷ rest)
one_more_comes settings v volume volumes low lows high highs kept kepts first rest e some one others [] h = absurd h
one_more_comes settings v volume volumes low lows high highs kept kepts first rest e some one others (new ∷ news) h =
    let old = one new h.0 in
    let olds = others news h.1 in (
      old.0 ∷ olds.0,
      (record { same = (old.1).same; replicas = parts_in volume.replicas low high (old.0).replicas e some (old.1).replicas }, olds.1),
      (old.2, olds.2),
    )

stores_sound : (settings : Settings) (v : ℕ) (volumes : List VolumeKnown) (lows highs : List (List Slack)) (notes : List Note) (read : Read (List (List (List Part))))
    → Shape volumes lows → Within lows highs
    → reopened_stores settings v volumes lows highs notes ≡ Some read → Stores settings v volumes lows highs notes read
stores_sound settings v [] [] [] notes read shape some e =
    subst (λ (r : Read (List (List (List Part)))). Stores settings v [] [] [] notes r) (some_stores (record { value = [] ∷ []; rest = notes }) read e)
    (record { kept = []; told = refl; each = (none_come settings v, tt) })
stores_sound settings v (volume ∷ volumes) (low ∷ lows) (high ∷ highs) notes read shape some e =
    by_kept (λ ns r g. stores_sound settings (v + 1) volumes lows highs ns r shape.1 some.1 g) (volume_kept settings v volume notes volume.pending) refl e
  where
    parts : List Part
    parts = parts_of volume.replicas low high

    by_others : (one : Read (List Bool)) → IsKept settings v volume notes volume.pending one → (o : Option (Read (List (List (List Part)))))
        → ((r : Read (List (List (List Part)))) → o ≡ Some r → Stores settings (v + 1) volumes lows highs one.rest r)
        → before_others (reopened_choices volume one.value 0 (parts_of volume.replicas low high)) o ≡ Some read → Stores settings v (volume ∷ volumes) (low ∷ lows) (high ∷ highs) notes read
    by_others one is None on e = absurd (let lie : None ≡ Some read = e in cc)
    by_others one is (Some r) on e =
        let rest = on r refl in
        subst (λ (out : Read (List (List (List Part)))). Stores settings v (volume ∷ volumes) (low ∷ lows) (high ∷ highs) notes out)
        (some_stores (record { value = choices_with (reopened_choices volume one.value 0 (parts_of volume.replicas low high)) r.value; rest = r.rest }) read e)
        (record {
          kept = one.value ∷ rest.kept;
          told = is.told ∙ ap (λ (ns : List Note). pending_notes settings v volume.pending one.value ++ ns) rest.told
              ∙ sym (append_assoc (pending_notes settings v volume.pending one.value) (volume_notes settings (v + 1) volumes rest.kept) r.rest);
          each = each_choice _ (ComesFrom settings (v + 1) volumes lows highs rest.kept) (ComesFrom settings v (volume ∷ volumes) (low ∷ lows) (high ∷ highs) (one.value ∷ rest.kept))
              (λ first others p q. one_more_comes settings v volume volumes low lows high highs one.value rest.kept first others shape.0 some.0 p q)
              (reopened_choices volume one.value 0 (parts_of volume.replicas low high)) r.value
              (volumes_reopen_sound settings v volume (parts_of volume.replicas low high) one.value (are_parts volume low high shape.0 some.0) is.may) rest.each;
        })

    by_kept : ((ns : List Note) (r : Read (List (List (List Part)))) → reopened_stores settings (v + 1) volumes lows highs ns ≡ Some r → Stores settings (v + 1) volumes lows highs ns r)
        → (o : Option (Read (List Bool))) → volume_kept settings v volume notes volume.pending ≡ o
        → then_others volume (parts_of volume.replicas low high) o (reopened_stores settings (v + 1) volumes lows highs) ≡ Some read
        → Stores settings v (volume ∷ volumes) (low ∷ lows) (high ∷ highs) notes read
    by_kept on None g e = absurd (let lie : None ≡ Some read = e in cc)
    by_kept on (Some one) g e =
        by_others one (kept_sound settings v volume notes volume.pending one g) (reopened_stores settings (v + 1) volumes lows highs one.rest) (λ r q. on one.rest r q) e
stores_sound settings v [] (l ∷ lows) highs notes read shape some e = absurd shape
stores_sound settings v (w ∷ volumes) [] highs notes read shape some e = absurd shape
stores_sound settings v [] [] (h ∷ highs) notes read shape some e = absurd some
stores_sound settings v (w ∷ volumes) (l ∷ lows) [] notes read shape some e = absurd some

record Reads (settings : Settings) (v : ℕ) (volumes : List VolumeKnown) (lows highs : List (List Slack)) (notes rest : List Note) (news : List VolumeKnown) : Type 0 where
  stores : List (List (List Part))
  reads : reopened_stores settings v volumes lows highs notes ≡ Some (record { value = stores; rest = rest })
  any : AnyOf (λ store. InStore store news) stores

stores_complete : (settings : Settings) (v : ℕ) (volumes : List VolumeKnown) (lows highs : List (List Slack)) (olds news : List VolumeKnown) (kepts : List (List Bool))
    (rest : List Note) → Shape volumes lows → Within lows highs
    → InVolumes volumes lows highs olds → ReopenedVolumes settings v olds kepts news → Reads settings v volumes lows highs (volume_notes settings v volumes kepts ++ rest) rest news
stores_complete settings v [] [] [] [] [] [] rest shape some is h = record { stores = [] ∷ []; reads = refl; any = inl tt }
stores_complete settings v (volume ∷ volumes) (low ∷ lows) (high ∷ highs) (old ∷ olds) (new ∷ news) (kept ∷ kepts) rest shape some is h =
    let parts : List Part = parts_of volume.replicas low high in
    let one = volumes_reopen_complete settings v volume (parts_of volume.replicas low high) kept old new (are_parts volume low high shape.0 some.0)
    (record { same = (is.0).same; replicas = in_parts volume.replicas low high old.replicas (is.0).replicas }) h.0 in
    let others = stores_complete settings (v + 1) volumes lows highs olds news kepts rest shape.1 some.1 is.1 h.1 in
    record {
      stores = choices_with (reopened_choices volume kept 0 (parts_of volume.replicas low high)) others.stores;
      reads = ap (λ (ns : List Note). then_others volume (parts_of volume.replicas low high) (volume_kept settings v volume ns volume.pending) (reopened_stores settings (v + 1) volumes lows highs))
          (append_assoc (pending_notes settings v volume.pending kept) (volume_notes settings (v + 1) volumes kepts) rest)
          ∙ ap (λ (o : Option (Read (List Bool))). then_others volume (parts_of volume.replicas low high) o (reopened_stores settings (v + 1) volumes lows highs))
          (kept_complete settings v volume volume.pending kept (volume_notes settings (v + 1) volumes kepts ++ rest) one.0)
          ∙ ap (λ (o : Option (Read (List (List (List Part))))). before_others (reopened_choices volume kept 0 (parts_of volume.replicas low high)) o) others.reads;
      any = any_choice (λ first. InVolumeParts empty_volume first new) (λ store. InStore store news) (λ store. InStore store (new ∷ news)) (λ first store p q. (p, q))
          (reopened_choices volume kept 0 (parts_of volume.replicas low high)) others.stores one.1 others.any;
    }
stores_complete settings v [] [] [] [] [] (k ∷ kepts) rest shape some is h = absurd h
stores_complete settings v [] [] [] [] (n ∷ news) [] rest shape some is h = absurd h
stores_complete settings v [] [] [] [] (n ∷ news) (k ∷ kepts) rest shape some is h = absurd h
stores_complete settings v (w ∷ volumes) (l ∷ lows) (y ∷ highs) (o ∷ olds) [] [] rest shape some is h = absurd h
stores_complete settings v (w ∷ volumes) (l ∷ lows) (y ∷ highs) (o ∷ olds) [] (k ∷ kepts) rest shape some is h = absurd h
stores_complete settings v (w ∷ volumes) (l ∷ lows) (y ∷ highs) (o ∷ olds) (n ∷ news) [] rest shape some is h = absurd h
stores_complete settings v volumes lows highs olds news kepts rest shape some is h = absurd is

-- notes are of what is pending, which sizes are no part of
notes_same : (settings : Settings) (v : ℕ) (volumes : List VolumeKnown) (lows highs : List (List Slack)) (olds : List VolumeKnown) (kepts : List (List Bool)) → InVolumes volumes lows highs olds
    → volume_notes settings v olds kepts ≡ volume_notes settings v volumes kepts
notes_same settings v [] [] [] [] kepts is = refl
notes_same settings v (volume ∷ volumes) (low ∷ lows) (high ∷ highs) (old ∷ olds) [] is = refl
notes_same settings v (volume ∷ volumes) (low ∷ lows) (high ∷ highs) (old ∷ olds) (kept ∷ kepts) is =
    ap (λ (w : VolumeKnown). pending_notes settings v w.pending kept ++ volume_notes settings (v + 1) olds kepts) (is.0).same
    ∙ ap (λ (ns : List Note). pending_notes settings v volume.pending kept ++ ns) (notes_same settings (v + 1) volumes lows highs olds kepts is.1)
notes_same settings v volumes lows highs olds kepts is = absurd is

-- THE STORE

replicas_are : (parts : List Part) (replicas : List ReplicaKnown) → InReplicas (map base_of parts) (map low_of parts) (map high_of parts) replicas → InParts parts replicas
replicas_are [] [] h = tt
replicas_are (part ∷ parts) (r ∷ replicas) h = (h.0, replicas_are parts replicas h.1)
replicas_are [] (r ∷ replicas) h = absurd h
replicas_are (part ∷ parts) [] h = absurd h

are_replicas : (parts : List Part) (replicas : List ReplicaKnown) → InParts parts replicas → InReplicas (map base_of parts) (map low_of parts) (map high_of parts) replicas
are_replicas [] [] h = tt
are_replicas (part ∷ parts) (r ∷ replicas) h = (h.0, are_replicas parts replicas h.1)
are_replicas [] (r ∷ replicas) h = absurd h
are_replicas (part ∷ parts) [] h = absurd h

store_is : (store : List (List Part)) (news : List VolumeKnown) → InVolumes (map volume_of store) (map (λ parts. map low_of parts) store) (map (λ parts. map high_of parts) store)
    news → InStore store news
store_is [] [] h = tt
store_is (parts ∷ store) (new ∷ news) h = (record { same = (h.0).same; replicas = replicas_are parts new.replicas (h.0).replicas }, store_is store news h.1)
store_is [] (new ∷ news) h = absurd h
store_is (parts ∷ store) [] h = absurd h

is_store : (store : List (List Part)) (news : List VolumeKnown) → InStore store news
    → InVolumes (map volume_of store) (map (λ parts. map low_of parts) store) (map (λ parts. map high_of parts) store) news
is_store [] [] h = tt
is_store (parts ∷ store) (new ∷ news) h = (record { same = (h.0).same; replicas = are_replicas parts new.replicas (h.0).replicas }, is_store store news h.1)
is_store [] (new ∷ news) h = absurd h
is_store (parts ∷ store) [] h = absurd h

long_parts : (parts : List Part) → length (map base_of parts) ≡ length (map low_of parts)
long_parts [] = refl
long_parts (part ∷ parts) = ap suc (long_parts parts)

store_shaped : (store : List (List Part)) → Shape (map volume_of store) (map (λ parts. map low_of parts) store)
store_shaped [] = tt
store_shaped (parts ∷ store) = (long_parts parts, store_shaped store)

module _ (settings : Settings) (box : Box) (d : ℕ) (notes : List Note) (is : IsWhole box) where
  abbrev Comes : Box → Type 0
  Comes next = (t : Known) → Has next t → (k : Known) × Has box k × restart_row settings (reply.Restarted d) notes k t

  one_comes : (kept : List (List Bool)) (read_rest : List Note) (new : List HomeRow) → notes ≡ volume_notes settings 0 box.base.volumes kept ++ read_rest
      → RowsTold box.base.directory.pending read_rest new → d ≡ length (box.base.directory.rows ++ new)
      → (store : List (List Part)) → ComesFrom settings 0 box.base.volumes box.low box.high kept store → Comes (restarted_box box.base (box.base.directory.rows ++ new) store)
  one_comes kept rest new told rows count store from t has =
      let next : Box = restarted_box box.base (box.base.directory.rows ++ new) store in
      let each : EachIn (restarted_box box.base (box.base.directory.rows ++ new) store) t =
      (boxes_are_parts (restarted_box box.base (box.base.directory.rows ++ new) store) t).0 (store_shaped store) has in
      let olds = from t.volumes (store_is store t.volumes each.volumes) in
      let k : Known = record box.base { volumes = olds.0 } in (
        k,
        (boxes_are_parts box (record box.base { volumes = olds.0 })).1 (record { same = refl; volumes = olds.1 }),
        subst (λ (u : Known). IsRestarted settings (record box.base { volumes = olds.0 }) d notes u) (sym each.same)
            (record {
              kept = kept;
              row = rows.row;
              opened = record {
                volumes = olds.2;
                rows = ap (λ (xs : List HomeRow). box.base.directory.rows ++ xs) rows.rows;
                directory = refl;
                drained = refl;
                fuses = refl;
                faults = falls_refl box.base.faults;
                arms = refl;
              };
              told = told ∙ ap (λ (ns : List Note). ns ++ rest) (sym (notes_same settings 0 box.base.volumes box.low box.high olds.0 kept olds.1))
                  ∙ ap (λ (ns : List Note). volume_notes settings 0 olds.0 kept ++ ns) rows.told;
              rows = count;
            }),
      )

  each_comes : (kept : List (List Bool)) (read_rest : List Note) (new : List HomeRow) → notes ≡ volume_notes settings 0 box.base.volumes kept ++ read_rest
      → RowsTold box.base.directory.pending read_rest new → d ≡ length (box.base.directory.rows ++ new)
      → (stores : List (List (List Part))) → Each (ComesFrom settings 0 box.base.volumes box.low box.high kept) stores
      → Each Comes (map (restarted_box box.base (box.base.directory.rows ++ new)) stores)
  each_comes kept rest new told rows count [] h = tt
  each_comes kept rest new told rows count (store ∷ stores) h = (one_comes kept rest new told rows count store h.0, each_comes kept rest new told rows count stores h.1)

  rows_come : (read : Read (List (List (List Part)))) → Stores settings 0 box.base.volumes box.low box.high notes read → (new : Option (List HomeRow))
      → new_rows box.base.directory.pending read.rest ≡ new
      → Each Comes (restarted_with box.base d read.value new)
  rows_come read stores None e = tt
  rows_come read stores (Some new) e = by_test (cases_Bool (d == length (box.base.directory.rows ++ new)))
    where
      by_test : ((d == length (box.base.directory.rows ++ new)) ≡ true) ⊎ ((d == length (box.base.directory.rows ++ new)) ≡ false) → Each Comes (restarted_with box.base d read.value (Some new))
      by_test (inr other) = subst (λ (ds : List Box). Each Comes ds) (sym (cond-false _ (map (restarted_box box.base (box.base.directory.rows ++ new)) read.value) [] other)) tt
      by_test (inl same) =
          subst (λ (ds : List Box). Each Comes ds) (sym (cond-true _ (map (restarted_box box.base (box.base.directory.rows ++ new)) read.value) [] same))
          (each_comes stores.kept read.rest new stores.told (rows_sound box.base.directory.pending read.rest new e) (eqb-true d (length (box.base.directory.rows ++ new)) same) read.value stores.each)

  all_come : (o : Option (Read (List (List (List Part))))) → reopened_stores settings 0 box.base.volumes box.low box.high notes ≡ o → Each Comes (restarted_from box.base d o)
  all_come None e = tt
  all_come (Some read) e = rows_come read (stores_sound settings 0 box.base.volumes box.low box.high notes read is.shaped is.some e) (new_rows box.base.directory.pending read.rest) refl

  any_store : (rows : List HomeRow) (t : Known) (stores : List (List (List Part))) → t.directory ≡ directory_with rows → t.drained ≡ map undrained box.base.drained
      → NoneFalls box.base.faults t.faults → NoneFalls box.base.arms t.arms
      → AnyOf (λ store. InStore store t.volumes) stores → AnyOf (λ next. (e : Known) × Has next e × Below e t) (map (restarted_box box.base rows) stores)
  any_store rows t [] directory drained faults arms h = h
  any_store rows t (store ∷ stores) directory drained faults arms h = elim h [
    | inl here ↦
        let e : Known = record (restarted_box box.base rows store).base { volumes = t.volumes } in
        inl (
          record (restarted_box box.base rows store).base { volumes = t.volumes },
          (boxes_are_parts (restarted_box box.base rows store) (record (restarted_box box.base rows store).base { volumes = t.volumes })).1
              (record { same = refl; volumes = is_store store t.volumes here }),
          record { volumes = refl; directory = directory; drained = drained; faults = faults; arms = arms },
        )
    | inr there ↦ inr (any_store rows t stores directory drained faults arms there)
  ]

  restart_complete : (k : Known) (faults arms fuses : List ℕ) (t : Known) → Has box k → NoneFalls k.faults faults → NoneFalls k.arms arms
      → IsRestarted settings (with_counts k faults arms fuses) d notes t → AnyOf (λ next. (e : Known) × Has next e × Below e t) (restart_boxes settings box (reply.Restarted d) notes)
  restart_complete k faults arms fuses t has f a r =
      let each : EachIn box k = (boxes_are_parts box k).0 is.shaped has in
      let new : List HomeRow = kept_row box.base.directory.pending r.row in
      let volumes : InVolumes box.base.volumes box.low box.high k.volumes = each.volumes in
      let reads =
      stores_complete settings 0 box.base.volumes box.low box.high k.volumes t.volumes r.kept (row_notes box.base.directory.pending r.row) is.shaped is.some each.volumes (r.opened).volumes in
      let same : (x : Known) → x ≡ record box.base { volumes = x.volumes } → x.directory ≡ box.base.directory = λ x e. ap (λ (q : Known). q.directory) e in
      let rows : t.directory.rows ≡ box.base.directory.rows ++ kept_row box.base.directory.pending r.row =
      (r.opened).rows ∙ ap (λ (q : Known). q.directory.rows ++ kept_row q.directory.pending r.row) each.same in
      let count : d ≡ length (box.base.directory.rows ++ kept_row box.base.directory.pending r.row) = r.rows ∙ ap (λ (xs : List HomeRow). length xs) rows in
      let told : notes ≡ volume_notes settings 0 box.base.volumes r.kept ++ row_notes box.base.directory.pending r.row =
      r.told ∙ ap (λ (ns : List Note). ns ++ row_notes k.directory.pending r.row) (notes_same settings 0 box.base.volumes box.low box.high k.volumes r.kept each.volumes)
      ∙ ap (λ (q : Known). volume_notes settings 0 box.base.volumes r.kept ++ row_notes q.directory.pending r.row) each.same in
      let boxes : restart_boxes settings box (reply.Restarted d) notes ≡ map (restarted_box box.base (box.base.directory.rows ++ kept_row box.base.directory.pending r.row)) reads.stores =
      ap (λ (ns : List Note). restarted_from box.base d (reopened_stores settings 0 box.base.volumes box.low box.high ns)) told
      ∙ ap (λ (o : Option (Read (List (List (List Part))))). restarted_from box.base d o) reads.reads
      ∙ ap (λ (o : Option (List HomeRow)). restarted_with box.base d reads.stores o) (rows_back box.base.directory.pending r.row)
      ∙ cond-true _ (map (restarted_box box.base (box.base.directory.rows ++ kept_row box.base.directory.pending r.row)) reads.stores) []
      (eq-eqb d (length (box.base.directory.rows ++ kept_row box.base.directory.pending r.row)) count) in
      subst (λ (ds : List Box). AnyOf (λ next. (e : Known) × Has next e × Below e t) ds) (sym boxes)
      (any_store (box.base.directory.rows ++ kept_row box.base.directory.pending r.row) t reads.stores
      ((r.opened).directory ∙ ap (λ (xs : List HomeRow). directory_with xs) rows)
      ((r.opened).drained ∙ ap (λ (q : Known). map undrained q.drained) each.same)
      (subst (λ (q : Known). NoneFalls q.faults t.faults) each.same (falls_trans k.faults faults t.faults f (r.opened).faults))
      (subst (λ (q : Known). NoneFalls q.arms t.arms) each.same (subst (λ (xs : List ℕ). NoneFalls k.arms xs) (sym (r.opened).arms) a))
      reads.any)

pub restarts_step_boxes : RestartsStepBoxes
restarts_step_boxes settings box (reply.Restarted d) notes known is = record {
  sound = all_come settings box d notes is (reopened_stores settings 0 box.base.volumes box.low box.high notes) refl;
  complete = λ k faults arms fuses t has f a r. restart_complete settings box d notes is k faults arms fuses t has f a r;
}
restarts_step_boxes settings box reply.NoMem notes known is = absurd (known refl)
restarts_step_boxes settings box r notes known is = record { sound = tt; complete = λ k faults arms fuses t has f a lie. absurd lie }
