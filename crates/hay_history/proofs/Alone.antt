-- A line alone: what stands at each moment is what stood before it, or what its one change left.
use Rattle.std.proofs.Common.{◌≡◌, ◌⊎◌, inl, inr, ℕ, zero, suc, ◌+◌, ◌-◌, ◌<◌, ◌≤◌, List, [], ◌∷◌, length, slice_get, Contains, Some, refl, sym, ap, subst, ◌∙◌, arith}
use Rattle.std.specs.Prelude.{◌≢◌}
use Rattle.std.proofs.lemmas.List.{length-set}
use Rattle.std.proofs.lemmas.Bool.{cases_eq}
use Rattle.std.proofs.lemmas.List.{ext_get_or, get_or-set_other, get_or-set_same}
use Rattle.std.proofs.lemmas.Option.{slice_get_cases, slice_get_within}
use Rattle.hay_needle.specs.declared.settings.Settings.{Settings}
use Rattle.hay_disk.specs.Counts.{Rose}
use Rattle.hay_reply.specs.declared.ClosedBy.{ClosedBy}
use Rattle.hay_reply.specs.declared.Reply.{Reply}
use Rattle.hay_legal.specs.declared.known.Known.{Known}
use Rattle.hay_legal.specs.declared.known.VolumeKnown.{VolumeKnown}
use Rattle.hay_legal.specs.declared.turn.Item.{Item}
use Rattle.hay_legal.specs.declared.turn.LaneItem.{LaneItem}
use Rattle.hay_legal.specs.Known.{Leaves, empty_volume, fault_count, replica_at, slot_of, volume_at}
use Rattle.hay_legal.specs.Plain.{IsBusy, IsFrozenBy, IsOpen, IsWorn, RoseTo, change_volume}
use Rattle.hay_legal.specs.Blocks.{tag_of}
use Rattle.hay_history.specs.LaneSteps.{Did, Leads, LeadsRows, NoneFall, RowDid, RowsStanding, RowStep, Standing, Step}
use Rattle.hay_history.specs.LaneSteps.Did.{Tries}
use Rattle.hay_history.specs.LaneSteps.RowDid.{TriesRow}
use Rattle.hay_history.specs.Histories.{Course, History, NoRows, NoSteps, OneRowStep, OneStep, OneTry, OnlyOn, behind, changes, first_of, first_rows, own, own_rows, rows_behind}
use Rattle.hay_history.specs.Histories.{rows_standing, standing, volume_then}
use Rattle.hay_history.specs.Commands.{CameBy, IsFrozen, IsLast, IsLastRow, MetBusy, MetWorn, RoseIn}
use Rattle.hay_history.proofs.Histories.{along, along_rows, behind_past, rows_behind_past}
use Rattle.hay_history.proofs.Lines.{course_of, one_leads, owner, own_at, own_leads, own_leads_rows, own_row_at, row_owner}
use Rattle.hay_history.proofs.Lists.{each_in, is_first, none_in, one_in}
use Rattle.hay_history.proofs.Trying.{one_own, one_own_row, tried_or_changed, tried_or_changed_row}

-- BETWEEN TWO MOMENTS

-- what holds over each step between two moments holds between them
pub between : (R : Standing → Standing → Type 0) (before : Standing) (steps : List Step) → ((a : Standing) → R a a) → ((a b c : Standing) → R a b → R b c → R a c)
    → (d n : ℕ) → ((i : ℕ) (s : Step) → n ≤ i → i < n + d → slice_get steps i ≡ Some s → R (behind before steps i) (behind before steps (i + 1)))
    → R (behind before steps n) (behind before steps (n + d))
between R before steps same trans zero n each =
    let none : n + 0 ≡ n = omega arith in
    subst (λ (m : ℕ). R (behind before steps n) (behind before steps m)) (sym none) (same (behind before steps n))
between R before steps same trans (suc d) n each = elim (slice_get_cases steps n).1 [
  | inl some ↦
      let more : n + 1 + d ≡ n + suc d = omega arith in
      subst (λ (m : ℕ). R (behind before steps n) (behind before steps m)) more
      (trans (behind before steps n) (behind before steps (n + 1)) (behind before steps (n + 1 + d)) (each n some.0 (omega arith) (omega arith) some.2)
      (between R before steps same trans d (n + 1) (λ i s low high at. each i s (omega (arith, low)) (omega (arith, high)) at)))
  | inr past ↦
      subst (λ (a : Standing). R (behind before steps n) a)
      (behind_past before steps n past.0 ∙ sym (behind_past before steps (n + suc d) (omega (arith, past.0)))) (same (behind before steps n))
]

pub rows_between : (R : RowsStanding → RowsStanding → Type 0) (before : RowsStanding) (steps : List RowStep) → ((a : RowsStanding) → R a a)
    → ((a b c : RowsStanding) → R a b → R b c → R a c) → (d n : ℕ)
    → ((i : ℕ) (s : RowStep) → n ≤ i → i < n + d → slice_get steps i ≡ Some s → R (rows_behind before steps i) (rows_behind before steps (i + 1)))
    → R (rows_behind before steps n) (rows_behind before steps (n + d))
rows_between R before steps same trans zero n each =
    let none : n + 0 ≡ n = omega arith in
    subst (λ (m : ℕ). R (rows_behind before steps n) (rows_behind before steps m)) (sym none) (same (rows_behind before steps n))
rows_between R before steps same trans (suc d) n each = elim (slice_get_cases steps n).1 [
  | inl some ↦
      let more : n + 1 + d ≡ n + suc d = omega arith in
      subst (λ (m : ℕ). R (rows_behind before steps n) (rows_behind before steps m)) more
      (trans (rows_behind before steps n) (rows_behind before steps (n + 1)) (rows_behind before steps (n + 1 + d)) (each n some.0 (omega arith) (omega arith) some.2)
      (rows_between R before steps same trans d (n + 1) (λ i s low high at. each i s (omega (arith, low)) (omega (arith, high)) at)))
  | inr past ↦
      subst (λ (a : RowsStanding). R (rows_behind before steps n) a)
      (rows_behind_past before steps n past.0 ∙ sym (rows_behind_past before steps (n + suc d) (omega (arith, past.0)))) (same (rows_behind before steps n))
]

abbrev pub SameVolume : Standing → Standing → Type 0
SameVolume a b = b.volume ≡ a.volume

abbrev pub SameRows : RowsStanding → RowsStanding → Type 0
SameRows a b = b.directory ≡ a.directory

-- THE STEPS OF THE LINE

module _ {settings : Settings} {k : Known} {history : History} {t : Known} {Does : Course → Item → Reply → Type 0} (item : LaneItem)
    (h : CameBy Does settings k (item ∷ []) history t) where
  abbrev pub c : Course
  c = course_of h item

  pub among : Contains (item ∷ []) item
  among = is_first item []

  pub all_own : (v : ℕ) → v < settings.volumes → (i : ℕ) (s : Step) → slice_get (history.volumes v) i ≡ Some s → Contains (own c v) (i, s)
  all_own v below i s at =
      let found = owner h v i s below at in
      subst (λ (x : LaneItem). Contains (own (course_of h x) v) (i, s)) (sym (one_in item found.0 found.1)) found.3

  pub all_own_rows : (i : ℕ) (s : RowStep) → slice_get history.directory i ≡ Some s → Contains (own_rows c) (i, s)
  all_own_rows i s at =
      let found = row_owner h i s at in
      subst (λ (x : LaneItem). Contains (own_rows (course_of h x)) (i, s)) (sym (one_in item found.0 found.1)) found.3

  pub tries_all : (v : ℕ) → v < settings.volumes → changes c v ≡ [] → (i : ℕ) (s : Step) → slice_get (history.volumes v) i ≡ Some s → s.did ≡ Tries
  tries_all v below none i s at = elim (tried_or_changed c v (i, s) (all_own v below i s at)) [
    | inl tried ↦ tried
    | inr change ↦ absurd (none_in (i, s) (subst (λ (l : List (ℕ × Step)). Contains l (i, s)) none change))
  ]

  pub tries_but : (v : ℕ) → v < settings.volumes → (did : Did) (one : OneStep c v did) → (i : ℕ) (s : Step) → slice_get (history.volumes v) i ≡ Some s
      → (s.did ≡ Tries) ⊎ ((one.place ≡ i) × (s.did ≡ did))
  tries_but v below did one i s at = elim (tried_or_changed c v (i, s) (all_own v below i s at)) [
    | inl tried ↦ inl tried
    | inr change ↦
        let same = one_in (one.place, one.step) (i, s) (subst (λ (l : List (ℕ × Step)). Contains l (i, s)) one.only change) in
        inr (ap (λ (x : ℕ × Step). x.0) same, ap (λ (x : ℕ × Step). (x.1).did) (sym same) ∙ one.is)
  ]

  pub rows_try_all : NoRows c → (i : ℕ) (s : RowStep) → slice_get history.directory i ≡ Some s → s.did ≡ TriesRow
  rows_try_all none i s at = elim (tried_or_changed_row c (i, s) (all_own_rows i s at)) [
    | inl tried ↦ tried
    | inr change ↦ absurd (none_in (i, s) (subst (λ (l : List (ℕ × RowStep)). Contains l (i, s)) none change))
  ]

  pub rows_try_but : (did : RowDid) (one : OneRowStep c did) → (i : ℕ) (s : RowStep) → slice_get history.directory i ≡ Some s
      → (s.did ≡ TriesRow) ⊎ ((one.place ≡ i) × (s.did ≡ did))
  rows_try_but did one i s at = elim (tried_or_changed_row c (i, s) (all_own_rows i s at)) [
    | inl tried ↦ inl tried
    | inr change ↦
        let same = one_in (one.place, one.step) (i, s) (subst (λ (l : List (ℕ × RowStep)). Contains l (i, s)) one.only change) in
        inr (ap (λ (x : ℕ × RowStep). x.0) same, ap (λ (x : ℕ × RowStep). (x.1).did) (sym same) ∙ one.is)
  ]

  -- THE VOLUMES

  tried_same : (v : ℕ) → v < settings.volumes → (i : ℕ) (s : Step) → slice_get (history.volumes v) i ≡ Some s → s.did ≡ Tries
      → SameVolume (standing c v i) (standing c v (i + 1))
  tried_same v below i s at tried =
      subst (λ (d : Did). Leads settings v (tag_of item) d (standing c v i) (standing c v (i + 1))) tried (own_leads h item v below among (i, s) (all_own v below i s at)).0

  pub same_between : (v d n : ℕ) → v < settings.volumes → ((i : ℕ) (s : Step) → n ≤ i → i < n + d → slice_get (history.volumes v) i ≡ Some s → s.did ≡ Tries)
      → volume_then c v (n + d) ≡ volume_then c v n
  same_between v d n below tries =
      between SameVolume (first_of settings k v) (history.volumes v) (λ a. refl) (λ a b c x y. y ∙ x) d n
      (λ i s low high at. tried_same v below i s at (tries i s low high at))

  -- where the line changed nothing on a volume, it stands as it stood
  pub still : (v n : ℕ) → v < settings.volumes → changes c v ≡ [] → volume_then c v n ≡ volume_at k v
  still v n below none =
      let plus : 0 + n ≡ n = omega arith in
      subst (λ (m : ℕ). volume_then c v m ≡ volume_at k v) plus (same_between v n 0 below (λ i s low high at. tries_all v below none i s at))

  pub left_still : (v : ℕ) → v < settings.volumes → changes c v ≡ [] → volume_at t v ≡ volume_at k v
  left_still v below none = (h.volumes v below).volume ∙ still v (length (history.volumes v)) below none

  -- up to its one change, and behind it
  pub still_before : (v n : ℕ) (did : Did) → v < settings.volumes → (one : OneStep c v did) → n ≤ one.place → volume_then c v n ≡ volume_at k v
  still_before v n did below one low =
      let plus : 0 + n ≡ n = omega arith in
      subst (λ (m : ℕ). volume_then c v m ≡ volume_at k v) plus (same_between v n 0 below (λ i s from to at. elim (tries_but v below did one i s at) [
        | inl tried ↦ tried
        | inr here ↦ let same : one.place ≡ i = here.0 in absurd (omega (arith, same, low, to, plus))
      ]))

  pub still_behind : (v n : ℕ) (did : Did) → v < settings.volumes → (one : OneStep c v did) → one.place < n → volume_then c v n ≡ volume_then c v (one.place + 1)
  still_behind v n did below one high =
      let d : ℕ = n - (one.place + 1) in
      let plus : one.place + 1 + d ≡ n = omega (arith, high) in
      subst (λ (m : ℕ). volume_then c v m ≡ volume_then c v (one.place + 1)) plus (same_between v d (one.place + 1) below (λ i s from to at. elim (tries_but v below did one i s at) [
        | inl tried ↦ tried
        | inr here ↦ let same : one.place ≡ i = here.0 in absurd (omega (arith, same, from))
      ]))

  pub place_within : (v : ℕ) (at : ℕ × Step) → Contains (own c v) at → at.0 < length (history.volumes v)
  place_within v at mine = slice_get_within (history.volumes v) at.0 at.1 (own_at (history.volumes v) item.line at mine).0

  pub left_one : (v : ℕ) (did : Did) → v < settings.volumes → (one : OneStep c v did) → volume_at t v ≡ volume_then c v (one.place + 1)
  left_one v did below one =
      (h.volumes v below).volume
      ∙ still_behind v (length (history.volumes v)) did below one (place_within v (one.place, one.step) (one_own c v did one))

  pub one_led : (v : ℕ) (did : Did) → v < settings.volumes → (one : OneStep c v did)
      → Leads settings v (tag_of item) did (standing c v one.place) (standing c v (one.place + 1))
  one_led v did below one = one_leads h item v did below among one

  -- a freeze that a line met which changed nothing stood before it
  pub frozen_known : (v : ℕ) (by : List ClosedBy) → v < settings.volumes → NoSteps c → IsFrozen c v by → IsFrozenBy k v by
  frozen_known v [] below none did = absurd did
  frozen_known v (by ∷ []) below none did =
      (did.0, sym (ap (λ (x : VolumeKnown). x.frozen) (still v (did.1).moment below (none v))) ∙ (did.1).is)
  frozen_known v (by ∷ more ∷ rest) below none did = absurd did

  pub busy_known : (v j g : ℕ) → v < settings.volumes → NoSteps c → MetBusy c v j g → IsOpen k v × IsBusy k v j g
  busy_known v j g below none met =
      let same = still v met.0 below (none v) in (
        sym (ap (λ (x : VolumeKnown). x.frozen) same) ∙ met.2,
        ((met.3).0, sym (ap (λ (x : VolumeKnown). (replica_at x j).run) same) ∙ (met.3).1, (met.3).2),
      )

  pub worn_known : (v j : ℕ) → v < settings.volumes → NoSteps c → MetWorn c v j → IsOpen k v × IsWorn k v j
  worn_known v j below none met =
      let same = still v met.0 below (none v) in (
        sym (ap (λ (x : VolumeKnown). x.frozen) same) ∙ met.2,
        (sym (ap (λ (x : VolumeKnown). (replica_at x j).run) same) ∙ met.3, sym (ap (λ (x : VolumeKnown). (replica_at x j).generation) same) ∙ met.4),
      )

  -- a line with no step but a try on a volume changed nothing
  pub try_none : (v : ℕ) → OnlyOn c v → OneTry c v → NoSteps c
  try_none v elsewhere try u = elim (cases_eq u v) [
    | inl same ↦ subst (λ (w : ℕ). changes c w ≡ []) (sym same) try.none
    | inr other ↦ elsewhere u other
  ]

  -- THE DIRECTORY

  rows_tried_same : (i : ℕ) (s : RowStep) → slice_get history.directory i ≡ Some s → s.did ≡ TriesRow → SameRows (rows_standing c i) (rows_standing c (i + 1))
  rows_tried_same i s at tried =
      subst (λ (d : RowDid). LeadsRows (tag_of item) d (rows_standing c i) (rows_standing c (i + 1))) tried (own_leads_rows h item among (i, s) (all_own_rows i s at)).0

  same_rows_between : (d n : ℕ) → ((i : ℕ) (s : RowStep) → n ≤ i → i < n + d → slice_get history.directory i ≡ Some s → s.did ≡ TriesRow)
      → (rows_standing c (n + d)).directory ≡ (rows_standing c n).directory
  same_rows_between d n tries =
      rows_between SameRows (first_rows k) history.directory (λ a. refl) (λ a b c x y. y ∙ x) d n
      (λ i s low high at. rows_tried_same i s at (tries i s low high at))

  pub rows_still : (n : ℕ) → NoRows c → (rows_standing c n).directory ≡ k.directory
  rows_still n none =
      let plus : 0 + n ≡ n = omega arith in
      subst (λ (m : ℕ). (rows_standing c m).directory ≡ k.directory) plus (same_rows_between n 0 (λ i s low high at. rows_try_all none i s at))

  pub rows_left_still : NoRows c → t.directory ≡ k.directory
  rows_left_still none = (h.directory).directory ∙ rows_still (length history.directory) none

  pub rows_still_before : (n : ℕ) (did : RowDid) (one : OneRowStep c did) → n ≤ one.place → (rows_standing c n).directory ≡ k.directory
  rows_still_before n did one low =
      let plus : 0 + n ≡ n = omega arith in
      subst (λ (m : ℕ). (rows_standing c m).directory ≡ k.directory) plus (same_rows_between n 0 (λ i s from to at. elim (rows_try_but did one i s at) [
        | inl tried ↦ tried
        | inr here ↦ let same : one.place ≡ i = here.0 in absurd (omega (arith, same, low, to, plus))
      ]))

  pub rows_still_behind : (n : ℕ) (did : RowDid) (one : OneRowStep c did) → one.place < n
      → (rows_standing c n).directory ≡ (rows_standing c (one.place + 1)).directory
  rows_still_behind n did one high =
      let d : ℕ = n - (one.place + 1) in
      let plus : one.place + 1 + d ≡ n = omega (arith, high) in
      subst (λ (m : ℕ). (rows_standing c m).directory ≡ (rows_standing c (one.place + 1)).directory) plus
      (same_rows_between d (one.place + 1) (λ i s from to at. elim (rows_try_but did one i s at) [
        | inl tried ↦ tried
        | inr here ↦ let same : one.place ≡ i = here.0 in absurd (omega (arith, same, from))
      ]))

  pub row_place_within : (at : ℕ × RowStep) → Contains (own_rows c) at → at.0 < length history.directory
  row_place_within at mine = slice_get_within history.directory at.0 at.1 (own_row_at history.directory item.line at mine).0

  pub rows_left_one : (did : RowDid) (one : OneRowStep c did) → t.directory ≡ (rows_standing c (one.place + 1)).directory
  rows_left_one did one =
      (h.directory).directory
      ∙ rows_still_behind (length history.directory) did one (row_place_within (one.place, one.step) (one_own_row c did one))

  pub one_row_led : (did : RowDid) (one : OneRowStep c did) → LeadsRows (tag_of item) did (rows_standing c one.place) (rows_standing c (one.place + 1))
  one_row_led did one =
      subst (λ (d : RowDid). LeadsRows (tag_of item) d (rows_standing c one.place) (rows_standing c (one.place + 1))) one.is
      (own_leads_rows h item among (one.place, one.step) (one_own_row c did one)).0

  -- COUNTS

  abbrev pub count_at : ℕ → ℕ → ℕ → ℕ
  count_at v j n = (standing c v n).faults j

  pub counts_rise : (v j n m : ℕ) → v < settings.volumes → n ≤ m → count_at v j n ≤ count_at v j m
  counts_rise v j n m below le =
      along settings v (λ a b. NoneFall a.faults b.faults) (first_of settings k v) (history.volumes v)
      (λ a i. omega arith) (λ a b c x y i. omega (arith, x i, y i)) (λ tag did a b leads falls. falls) (h.follows v below) n m le j

  pub count_to_last : (v j n : ℕ) → v < settings.volumes → j < settings.replicas → count_at v j n ≤ fault_count t (slot_of settings v j)
  count_to_last v j n below within =
      let last : fault_count t (slot_of settings v j) ≡ count_at v j (length (history.volumes v)) = (h.volumes v below).faults j within in
      elim (slice_get_cases (history.volumes v) n).1 [
        | inl some ↦ let rises = counts_rise v j n (length (history.volumes v)) below (omega (arith, some.1)) in omega (arith, last, rises)
        | inr past ↦
            let same : count_at v j n ≡ count_at v j (length (history.volumes v)) =
            ap (λ (a : Standing). a.faults j) (behind_past (first_of settings k v) (history.volumes v) n past.0) in
            omega (arith, last, same)
      ]

  -- the count that a failed call printed stands where it was the last step
  pub rose_to : (v j place f : ℕ) → v < settings.volumes → j < settings.replicas → RoseIn c v place j f → IsLast c v place → RoseTo settings k v j f t
  rose_to v j place f below within rose last =
      let ended : behind (first_of settings k v) (history.volumes v) (place + 1) ≡ behind (first_of settings k v) (history.volumes v) (length (history.volumes v)) =
      elim (slice_get_cases (history.volumes v) (place + 1)).1 [
        | inl some ↦ absurd (
            let beyond : place + 1 ≤ place = each_in (λ (x : ℕ × Step). x.0 ≤ place) (own c v) (place + 1, some.0) last (all_own v below (place + 1) some.0 some.2) in
            omega (arith, beyond)
            )
        | inr past ↦ behind_past (first_of settings k v) (history.volumes v) (place + 1) past.0
      ] in
      let first = counts_rise v j 0 place below (omega arith) in
      let printed : f ≡ count_at v j (place + 1) = rose.1 in
      record {
        count = (h.volumes v below).faults j within ∙ sym (ap (λ (a : Standing). a.faults j) ended) ∙ sym printed;
        rose = elim rose.0 [ inl less ↦ inl (omega (arith, first, less, printed)) | inr top ↦ inr (printed ∙ top) ];
      }

  -- the same of the Directory's disk
  pub row_rose_to : (place f : ℕ) → Rose (rows_standing c place).faults (rows_standing c (place + 1)).faults → f ≡ (rows_standing c (place + 1)).faults → IsLastRow c place
      → (fault_count t 0 ≡ f) × Rose (fault_count k 0) f
  row_rose_to place f rose printed last =
      let ended : rows_behind (first_rows k) history.directory (place + 1) ≡ rows_behind (first_rows k) history.directory (length history.directory) =
      elim (slice_get_cases history.directory (place + 1)).1 [
        | inl some ↦ absurd (
            let beyond : place + 1 ≤ place = each_in (λ (x : ℕ × RowStep). x.0 ≤ place) (own_rows c) (place + 1, some.0) last (all_own_rows (place + 1) some.0 some.2) in
            omega (arith, beyond)
            )
        | inr past ↦ rows_behind_past (first_rows k) history.directory (place + 1) past.0
      ] in
      let first : fault_count k 0 ≤ (rows_standing c place).faults =
      along_rows (λ a b. a.faults ≤ b.faults) (first_rows k) history.directory
      (λ a. omega arith) (λ a b c x y. omega (arith, x, y)) (λ tag did a b leads rises. rises) h.follows_rows 0 place (omega arith) in (
        (h.directory).faults ∙ sym (ap (λ (a : RowsStanding). a.faults) ended) ∙ sym printed,
        elim rose [ inl less ↦ inl (omega (arith, first, less, printed)) | inr top ↦ inr (printed ∙ top) ],
      )

  -- WHAT THE LINE LEAVES

  pub leaves_as : (expected : Known) → length expected.volumes ≡ length k.volumes → ((u : ℕ) → u < settings.volumes → volume_at t u ≡ volume_at expected u)
      → t.directory ≡ expected.directory → t.drained ≡ expected.drained → t.fuses ≡ expected.fuses → Leaves k expected t
  leaves_as expected many each directory drained fuses = record {
    volumes = ext_get_or empty_volume t.volumes expected.volumes (h.count ∙ sym many)
        (λ u within. let below : u < settings.volumes = omega (arith, within, h.count, (h.store).volumes) in each u below);
    directory = directory;
    drained = drained;
    fuses = fuses;
    faults = h.faults;
    arms = h.arms;
  }

  -- a volume that changed, and the others
  pub volumes_changed : (v : ℕ) (change : VolumeKnown → VolumeKnown) → v < settings.volumes → volume_at t v ≡ change (volume_at k v)
      → ((u : ℕ) → u < settings.volumes → u ≢ v → volume_at t u ≡ volume_at k u)
      → (u : ℕ) → u < settings.volumes → volume_at t u ≡ volume_at (change_volume k v change) u
  volumes_changed v change below here others u within = elim (cases_eq u v) [
    | inl same ↦
        subst (λ (w : ℕ). volume_at t w ≡ volume_at (change_volume k v change) w) (sym same)
        (here ∙ sym (get_or-set_same k.volumes v (change (volume_at k v)) empty_volume (omega (arith, below, (h.store).volumes))))
    | inr other ↦ others u within other ∙ sym (get_or-set_other k.volumes v u (change (volume_at k v)) empty_volume other)
  ]

  pub many_changed : (v : ℕ) (change : VolumeKnown → VolumeKnown) → length (change_volume k v change).volumes ≡ length k.volumes
  many_changed v change = length-set k.volumes v (change (volume_at k v))
