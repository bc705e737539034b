-- A line alone that marks a machine, or sets a fuse, is legal as a plain turn.
use Rattle.std.proofs.Common.{◌≡◌, ◌⊎◌, inl, inr, ℕ, ◌+◌, ◌-◌, ◌<◌, ◌≤◌, Bool, true, false, List, [], ◌∷◌, length, slice_get, Option, Some, None, ◌*◌, add-mul, one-mul}
use Rattle.std.proofs.Common.{mul-le-mul_right, refl, sym, ap, subst, ◌∙◌, arith}
use Rattle.std.specs.Prelude.{◌≢◌, slice_index, slice_set}
use Rattle.std.proofs.lemmas.Bool.{cases_eq}
use Rattle.std.proofs.lemmas.List.{get_or-set_other, get_or-set_same, length-set}
use Rattle.hay_needle.specs.declared.settings.Settings.{Settings}
use Rattle.hay_reply.specs.declared.Reply.{Reply}
use Rattle.hay_reply.specs.declared.Reply.TheVariants as reply
use Rattle.hay_legal.specs.declared.known.Known.{Known}
use Rattle.hay_legal.specs.declared.turn.Item.{Item}
use Rattle.hay_legal.specs.declared.turn.LaneItem.{LaneItem}
use Rattle.hay_legal.specs.Known.{Leaves, disk_count, fuse_count, replica_on, slot_of, volume_at}
use Rattle.hay_legal.specs.Plain.{IsFused, LegalDrain, LegalFuse, LegalFuseDir, LegalUndrain, OnReplica, with_drain, with_fuses}
use Rattle.hay_history.specs.LaneSteps.{Did, LeadsDrains, LeadsFuses, LeadsRowFuses, RowDid, RowsStanding, RowStep, Standing, Step}
use Rattle.hay_history.specs.LaneSteps.Did.{Fuses, Tries}
use Rattle.hay_history.specs.LaneSteps.RowDid.{Drains, FusesRow, TriesRow}
use Rattle.hay_history.specs.Histories.{Course, History, NoRows, NoSteps, OneRowStep, OneStep, first_of, first_rows, rows_standing, standing}
use Rattle.hay_history.specs.Commands.{CameBy, DrainDid, FuseDid, FuseDirDid, OnlyDid, OnlyDidRow, UndrainDid}
use Rattle.hay_history.proofs.Alone.{between, leaves_as, left_one, left_still, one_led, one_row_led, place_within, row_place_within, rows_between, rows_left_one, rows_left_still}
use Rattle.hay_history.proofs.Alone.{rows_still_before, rows_try_all, rows_try_but, still_before, tries_all, tries_but}
use Rattle.hay_history.proofs.AloneRuns.{nothing_leaves}
use Rattle.hay_history.proofs.Beside.{drains_same, fuses_at, fuses_same, fuses_stay, row_beside_at, row_fuses_stay, slots_same}
use Rattle.hay_history.proofs.Histories.{behind_step, rows_behind_step}
use Rattle.hay_history.proofs.Lines.{course_of, own_at, own_row_at}
use Rattle.hay_history.proofs.Placing.{on_machine}
use Rattle.hay_history.proofs.Trying.{one_own, one_own_row}

module _ {settings : Settings} {k : Known} {history : History} {t : Known} {Does : Course → Item → Reply → Type 0} (item : LaneItem)
    (h : CameBy Does settings k (item ∷ []) history t) where
  -- DRAINS

  abbrev Beside : RowDid → ℕ → Type 0
  Beside did n =
      LeadsDrains did (rows_standing (course_of h item) n).drained (rows_standing (course_of h item) (n + 1)).drained
      × LeadsRowFuses did (rows_standing (course_of h item) n).fuses (rows_standing (course_of h item) (n + 1)).fuses

  beside_at : (i : ℕ) (s : RowStep) → slice_get history.directory i ≡ Some s → Beside s.did i
  beside_at i s at =
      subst (λ (a : RowsStanding). LeadsDrains s.did (rows_standing (course_of h item) i).drained a.drained × LeadsRowFuses s.did (rows_standing (course_of h item) i).fuses a.fuses)
      (sym (rows_behind_step (first_rows k) history.directory i s at)) (row_beside_at (first_rows k) history.directory i s h.follows_rows at)

  beside_one : (did : RowDid) (one : OneRowStep (course_of h item) did) → Beside did one.place
  beside_one did one =
      let at = (own_row_at history.directory item.line (one.place, one.step) (one_own_row (course_of h item) did one)).0 in
      subst (λ (d : RowDid). Beside d one.place) one.is (beside_at one.place one.step at)

  -- what is left of the drains and of the fuses by a step of the Directory
  abbrev Same : RowsStanding → RowsStanding → Type 0
  Same a b = (b.drained ≡ a.drained) × (b.fuses ≡ a.fuses)

  same_between : (did : RowDid) (one : OneRowStep (course_of h item) did) (d n : ℕ) → (one.place < n) ⊎ (n + d ≤ one.place)
      → Same (rows_standing (course_of h item) n) (rows_standing (course_of h item) (n + d))
  same_between did one d n apart =
      rows_between Same (first_rows k) history.directory (λ a. (refl, refl)) (λ a b c x y. (y.0 ∙ x.0, y.1 ∙ x.1)) d n (λ i s low high at.
      elim (rows_try_but item h did one i s at) [
        | inl tried ↦
            let is = subst (λ (e : RowDid). Beside e i) tried (beside_at i s at) in (is.0, is.1)
        | inr here ↦
            let same : one.place ≡ i = here.0 in
            absurd (elim apart [ inl after ↦ omega (arith, after, same, low) | inr before ↦ omega (arith, before, same, high) ])
      ])

  row_left : (did : RowDid) (one : OneRowStep (course_of h item) did)
      → Same (first_rows k) (rows_standing (course_of h item) one.place)
      × Same (rows_standing (course_of h item) (one.place + 1)) (rows_standing (course_of h item) (length history.directory))
  row_left did one =
      let within = row_place_within item h (one.place, one.step) (one_own_row (course_of h item) did one) in
      let before : 0 + one.place ≡ one.place = omega arith in
      let d : ℕ = length history.directory - (one.place + 1) in
      let after : one.place + 1 + d ≡ length history.directory = omega (arith, within) in (
        subst (λ (n : ℕ). Same (first_rows k) (rows_standing (course_of h item) n)) before (same_between did one one.place 0 (inr (omega arith))),
        subst (λ (n : ℕ). Same (rows_standing (course_of h item) (one.place + 1)) (rows_standing (course_of h item) n)) after
            (same_between did one d (one.place + 1) (inl (omega arith))),
      )

  directory_same : (did : RowDid) (one : OneRowStep (course_of h item) did) → (rows_standing (course_of h item) (one.place + 1)).directory ≡ (rows_standing (course_of h item) one.place).directory
      → t.directory ≡ k.directory
  directory_same did one same = rows_left_one item h did one ∙ same ∙ rows_still_before item h one.place did one (omega arith)

  -- no step of a volume sets a fuse where the line changed none
  volumes_quiet : NoSteps (course_of h item) → (v : ℕ) → v < settings.volumes → (i : ℕ) (s : Step) → slice_get (history.volumes v) i ≡ Some s → (j : ℕ) → s.did ≢ Fuses j
  volumes_quiet none v below i s at j is = let clash : Tries ≡ Fuses j = sym (tries_all item h v below (none v) i s at) ∙ is in absurd cc

  drained_left : (m : ℕ) (is : Bool) → OnlyDidRow (course_of h item) (Drains m is) → Leaves k (with_drain k m is) t
  drained_left m is (none, one) =
      let left = row_left (Drains m is) one in
      let step = beside_one (Drains m is) one in
      leaves_as item h (with_drain k m is) refl (λ u below. left_still item h u below (none u))
      (directory_same (Drains m is) one (one_row_led item h (Drains m is) one))
      ((h.directory).drained ∙ (left.1).0 ∙ step.0 ∙ ap (λ (marks : List Bool). slice_set marks m is) (left.0).0)
      (fuses_same h (volumes_quiet none) (λ i s at fuses. elim (rows_try_but item h (Drains m is) one i s at) [
        | inl tried ↦ let clash : TriesRow ≡ FusesRow = sym tried ∙ fuses in absurd cc
        | inr here ↦ let clash : Drains m is ≡ FusesRow = sym here.1 ∙ fuses in absurd cc
      ]))

  pub drain_plain : (m : ℕ) (r : Reply) → DrainDid (course_of h item) m r → LegalDrain settings k m r t
  drain_plain m (reply.Drained m') did = (did.0, did.1, drained_left m true did.2)
  drain_plain m reply.Nowhere did = (did.0, nothing_leaves item h did.1)
  drain_plain m reply.NoMem did = nothing_leaves item h did
  drain_plain m r did = search

  pub undrain_plain : (m : ℕ) (r : Reply) → UndrainDid (course_of h item) m r → LegalUndrain settings k m r t
  undrain_plain m (reply.Undrained m') did = (did.0, did.1, drained_left m false did.2)
  undrain_plain m reply.Nowhere did = (did.0, nothing_leaves item h did.1)
  undrain_plain m reply.NoMem did = nothing_leaves item h did
  undrain_plain m r did = search

  -- FUSES

  drains_quiet : NoRows (course_of h item) → t.drained ≡ k.drained
  drains_quiet none = drains_same h (λ i s at m flag is. let clash : TriesRow ≡ Drains m flag = sym (rows_try_all item h none i s at) ∙ is in absurd cc)

  rows_unfused : NoRows (course_of h item) → fuse_count t 0 ≡ fuse_count k 0
  rows_unfused none =
      (h.directory).fuses
      ∙ row_fuses_stay (first_rows k) history.directory h.follows_rows (λ i s at is. let clash : TriesRow ≡ FusesRow = sym (rows_try_all item h none i s at) ∙ is in absurd cc)

  volume_unfused : (v j : ℕ) → v < settings.volumes → j < settings.replicas
      → ((i : ℕ) (s : Step) → slice_get (history.volumes v) i ≡ Some s → (j : ℕ) → s.did ≢ Fuses j)
      → fuse_count t (slot_of settings v j) ≡ fuse_count k (slot_of settings v j)
  volume_unfused v j below within none =
      (h.volumes v below).fuses j within ∙ fuses_stay settings v (first_of settings k v) (history.volumes v) (h.follows v below) none j

  abbrev SameFuses : Standing → Standing → Type 0
  SameFuses a b = (j : ℕ) → b.fuses j ≡ a.fuses j

  fuses_at_step : (v : ℕ) → v < settings.volumes → (i : ℕ) (s : Step) → slice_get (history.volumes v) i ≡ Some s
      → LeadsFuses s.did (standing (course_of h item) v i).fuses (standing (course_of h item) v (i + 1)).fuses
  fuses_at_step v below i s at =
      subst (λ (a : Standing). LeadsFuses s.did (standing (course_of h item) v i).fuses a.fuses) (sym (behind_step (first_of settings k v) (history.volumes v) i s at))
      (fuses_at settings v (first_of settings k v) (history.volumes v) i s (h.follows v below) at)

  fuses_between : (v : ℕ) (did : Did) (one : OneStep (course_of h item) v did) (d n : ℕ) → v < settings.volumes → (one.place < n) ⊎ (n + d ≤ one.place)
      → SameFuses (standing (course_of h item) v n) (standing (course_of h item) v (n + d))
  fuses_between v did one d n below apart =
      between SameFuses (first_of settings k v) (history.volumes v) (λ a j. refl) (λ a b c x y j. y j ∙ x j) d n (λ i s low high at.
      elim (tries_but item h v below did one i s at) [
        | inl tried ↦
            subst (λ (e : Did). LeadsFuses e (standing (course_of h item) v i).fuses (standing (course_of h item) v (i + 1)).fuses) tried (fuses_at_step v below i s at)
        | inr here ↦
            let same : one.place ≡ i = here.0 in
            absurd (elim apart [ inl after ↦ omega (arith, after, same, low) | inr before ↦ omega (arith, before, same, high) ])
      ])

  -- what a step that set a fuse leaves of the counts of its volume
  fused_volume : (v j : ℕ) → v < settings.volumes → (one : OneStep (course_of h item) v (Fuses j))
      → LeadsFuses (Fuses j) (first_of settings k v).fuses (standing (course_of h item) v (length (history.volumes v))).fuses
  fused_volume v j below one =
      let place : ℕ = one.place in
      let within = place_within item h v (place, one.step) (one_own (course_of h item) v (Fuses j) one) in
      let start : 0 + place ≡ place = omega arith in
      let d : ℕ = length (history.volumes v) - (place + 1) in
      let stop : place + 1 + d ≡ length (history.volumes v) = omega (arith, within) in
      let before : SameFuses (first_of settings k v) (standing (course_of h item) v place) =
      subst (λ (n : ℕ). SameFuses (first_of settings k v) (standing (course_of h item) v n)) start (fuses_between v (Fuses j) one place 0 below (inr (omega arith))) in
      let after : SameFuses (standing (course_of h item) v (place + 1)) (standing (course_of h item) v (length (history.volumes v))) =
      subst (λ (n : ℕ). SameFuses (standing (course_of h item) v (place + 1)) (standing (course_of h item) v n)) stop
      (fuses_between v (Fuses j) one d (place + 1) below (inl (omega arith))) in
      let at = (own_at (history.volumes v) item.line (place, one.step) (one_own (course_of h item) v (Fuses j) one)).0 in
      let led = subst (λ (e : Did). LeadsFuses e (standing (course_of h item) v place).fuses (standing (course_of h item) v (place + 1)).fuses) one.is
      (fuses_at_step v below place one.step at) in (
        elim led.0 [ inl next ↦ inl (after j ∙ next ∙ ap (λ (n : ℕ). n + 1) (before j)) | inr top ↦ inr (after j ∙ top) ],
        λ i other. after i ∙ led.1 i other ∙ before i,
      )

  fused_slots : (v j : ℕ) → v < settings.volumes → j < settings.replicas → (only : OnlyDid (course_of h item) v (Fuses j))
      → t.fuses ≡ slice_set k.fuses (slot_of settings v j) (fuse_count t (slot_of settings v j))
  fused_slots v j below within only =
      let slot : ℕ = slot_of settings v j in
      let n : ℕ = fuse_count t slot in
      let many : length (slice_set k.fuses slot n) ≡ length k.fuses = length-set k.fuses slot n in
      slots_same settings (slice_set k.fuses slot n) t.fuses (many ∙ (h.regular).slots) (h.slots ∙ sym many)
      (rows_unfused only.rows ∙ sym (get_or-set_other k.fuses slot 0 n 0 (omega arith)))
      (λ u i u_below i_within. elim (cases_eq (slot_of settings u i) slot) [
        | inl same ↦
            let here : slot < length k.fuses = omega (arith, (h.regular).slots, slot_below settings v j below within) in
            ap (fuse_count t) same ∙ sym (ap (λ (s : ℕ). slice_index (slice_set k.fuses slot n) s) same ∙ get_or-set_same k.fuses slot n 0 here)
        | inr other ↦
            elsewhere u i u_below i_within other ∙ sym (get_or-set_other k.fuses slot (slot_of settings u i) n 0 other)
      ])
    where
      slot_below : (settings : Settings) (v j : ℕ) → v < settings.volumes → j < settings.replicas → slot_of settings v j < disk_count settings
      slot_below settings v j below within =
          let room : (v + 1) * settings.replicas ≤ settings.volumes * settings.replicas = mul-le-mul_right settings.replicas (omega (arith, below)) in
          let more : (v + 1) * settings.replicas ≡ v * settings.replicas + settings.replicas = add-mul v 1 settings.replicas ∙ ap (λ (n : ℕ). v * settings.replicas + n) (one-mul settings.replicas) in
          omega (arith, room, more, within)

      elsewhere : (u i : ℕ) → u < settings.volumes → i < settings.replicas → slot_of settings u i ≢ slot_of settings v j
          → fuse_count t (slot_of settings u i) ≡ fuse_count k (slot_of settings u i)
      elsewhere u i u_below i_within apart = elim (cases_eq u v) [
        | inr other ↦ volume_unfused u i u_below i_within (λ n s at m is.
            let clash : Tries ≡ Fuses m = sym (tries_all item h u u_below (only.elsewhere u other) n s at) ∙ is in absurd cc)
        | inl same ↦
            let other : i ≢ j = λ e. apart (ap (λ (w : ℕ). slot_of settings w i) same ∙ ap (slot_of settings v) e) in
            subst (λ (w : ℕ). fuse_count t (slot_of settings w i) ≡ fuse_count k (slot_of settings w i)) (sym same)
            ((h.volumes v below).fuses i i_within ∙ (fused_volume v j below only.step).1 i other)
      ]

  fused : (v j : ℕ) → v < settings.volumes → j < settings.replicas → OnlyDid (course_of h item) v (Fuses j) → IsFused k (slot_of settings v j) t
  fused v j below within only =
      let slot : ℕ = slot_of settings v j in
      let last : fuse_count t slot ≡ (standing (course_of h item) v (length (history.volumes v))).fuses j = (h.volumes v below).fuses j within in
      let volume = fused_volume v j below only.step in (
        fuse_count t slot,
        elim volume.0 [ inl next ↦ inl (last ∙ next) | inr top ↦ inr (last ∙ top) ],
        leaves_as item h (with_fuses k slot (fuse_count t slot)) refl
            (λ u u_below. elim (cases_eq u v) [
              | inl same ↦ subst (λ (w : ℕ). volume_at t w ≡ volume_at k w) (sym same)
                  (left_one item h v (Fuses j) below only.step ∙ (one_led item h v (Fuses j) below only.step).1
                  ∙ still_before item h v (only.step).place (Fuses j) below only.step (omega arith))
              | inr other ↦ left_still item h u u_below (only.elsewhere u other)
            ])
            (rows_left_still item h only.rows) (drains_quiet only.rows) (fused_slots v j below within only),
      )

  pub fuse_plain : (v m n : ℕ) (o : Option ℕ) (r : Reply) → replica_on settings v m ≡ o → FuseDid (course_of h item) v m n o r
      → OnReplica k o (λ j. LegalFuse settings k v m j n) r t
  fuse_plain v m n None reply.Nowhere there did = nothing_leaves item h did
  fuse_plain v m n None reply.NoMem there did = nothing_leaves item h did
  fuse_plain v m n None r there did = search
  fuse_plain v m n (Some j) (reply.Fused v' m' n') there did =
      let on = on_machine settings v m j there in (did.0, did.1, fused v j on.0 on.1 did.2)
  fuse_plain v m n (Some j) reply.NoMem there did = nothing_leaves item h did
  fuse_plain v m n (Some j) r there did = search

  fused_rows : OnlyDidRow (course_of h item) FusesRow → IsFused k 0 t
  fused_rows (none, one) =
      let left = row_left FusesRow one in
      let step = beside_one FusesRow one in
      let first : (rows_standing (course_of h item) one.place).fuses ≡ fuse_count k 0 = (left.0).1 in
      let last : fuse_count t 0 ≡ (rows_standing (course_of h item) (one.place + 1)).fuses = (h.directory).fuses ∙ (left.1).1 in
      let n : ℕ = fuse_count t 0 in
      let many : length (slice_set k.fuses 0 n) ≡ length k.fuses = length-set k.fuses 0 n in
      let some : 0 < length k.fuses = omega (arith, (h.regular).slots) in (
        n,
        elim step.1 [ inl next ↦ inl (last ∙ next ∙ ap (λ (f : ℕ). f + 1) first) | inr top ↦ inr (last ∙ top) ],
        leaves_as item h (with_fuses k 0 n) refl (λ u below. left_still item h u below (none u))
            (directory_same FusesRow one (one_row_led item h FusesRow one))
            (drains_same h (λ i s at m flag is. elim (rows_try_but item h FusesRow one i s at) [
              | inl tried ↦ let clash : TriesRow ≡ Drains m flag = sym tried ∙ is in absurd cc
              | inr here ↦ let clash : FusesRow ≡ Drains m flag = sym here.1 ∙ is in absurd cc
            ]))
            (slots_same settings (slice_set k.fuses 0 n) t.fuses (many ∙ (h.regular).slots) (h.slots ∙ sym many)
            (sym (get_or-set_same k.fuses 0 n 0 some))
            (λ v j below within.
            volume_unfused v j below within (volumes_quiet none v below) ∙ sym (get_or-set_other k.fuses 0 (slot_of settings v j) n 0 (λ e. omega (arith, e))))),
      )

  pub fuse_dir_plain : (n : ℕ) (r : Reply) → FuseDirDid (course_of h item) n r → LegalFuseDir k n r t
  fuse_dir_plain n (reply.FusedDir n') did = (did.0, fused_rows did.1)
  fuse_dir_plain n reply.NoMem did = nothing_leaves item h did
  fuse_dir_plain n r did = search
