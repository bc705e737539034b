-- A store keeps its volumes, and an acknowledged change is the last entry of its log.
use Rattle.std.proofs.Common.{length-append, ◌≡◌, ℕ, zero, suc, ◌+◌, ◌<◌, ◌≤◌, Bool, true, false, List, [], ◌∷◌, ◌++◌, length, drop, Option, Some, None, refl, sym, ap, subst, ◌∙◌}
use Rattle.std.proofs.Common.{◌⊎◌, inl, inr, arith, append_assoc}
use Rattle.std.specs.List.{AllByRecursion as Each, AllZip}
use Rattle.std.specs.Prelude.{slice_index_or, find, is_none}
use Rattle.std.specs.List.{range_with_len}
use Rattle.std.proofs.Math.Nat.{eq-or-lt_of_le}
use Rattle.std.proofs.lemmas.List.{append-nil, length-replicate, get_or-replicate, take-append-drop}
use Rattle.std.proofs.lemmas.Bool.{cases_Bool, cond-true, cond-false}
use Rattle.std.proofs.lemmas.Option.{same_Some}
use Rattle.hay_needle.specs.declared.needle.Pair.{Pair}
use Rattle.hay_needle.specs.declared.settings.Settings.{Settings}
use Rattle.hay_needle.specs.Tables.{pair_eq}
use Rattle.hay_reply.specs.declared.LineVolume.{LineVolume}
use Rattle.hay_reply.specs.declared.Reply.{Reply}
use Rattle.hay_reply.specs.declared.Reply.TheVariants as reply
use Rattle.hay_core.specs.declared.entry.Entry.TheVariants as entry
use Rattle.hay_core.specs.declared.entry.CoreTag.{CoreTag}
use Rattle.hay_core.specs.declared.entry.Logged.{Logged}
use Rattle.hay_core.specs.Entries.{after}
use Rattle.hay_legal.specs.declared.known.ReplicaKnown.{ReplicaKnown}
use Rattle.hay_legal.specs.declared.known.VolumeKnown.{VolumeKnown}
use Rattle.hay_legal.specs.declared.known.HomeRow.{HomeRow}
use Rattle.hay_legal.specs.declared.known.PendingRow.{PendingRow}
use Rattle.hay_legal.specs.declared.known.DirKnown.{DirKnown}
use Rattle.hay_legal.specs.declared.known.Known.{Known}
use Rattle.hay_legal.specs.declared.turn.Item.{Item}
use Rattle.hay_legal.specs.declared.turn.LaneItem.{LaneItem}
use Rattle.hay_legal.specs.declared.turn.LogNote.{LogNote}
use Rattle.hay_legal.specs.declared.turn.RowNote.{RowNote}
use Rattle.hay_legal.specs.declared.turn.Turn.{Turn}
use Rattle.hay_legal.specs.declared.turn.Turn.TheVariants.{Plain, Lanes, Restart}
use Rattle.hay_legal.proofs.Rising.{rises_leaves}
use Rattle.hay_legal.specs.Known.{home_of, home_in, volume_at, empty_volume, empty_replica, tries_by, all_tries, refusal_of, fresh_unharmed, fresh_volume}
use Rattle.hay_legal.specs.Plain.{IsStored, IsDeleted, LegalPlain}
use Rattle.hay_reply.specs.declared.Note.{Note}
use Rattle.hay_legal.specs.Restarts.{Reopens, ReopenedVolumes, ReopenedVolume, ReopenedReplicas, ReopenedReplica, LegalRestart, kept_row, kept_entry, is_kept}
use Rattle.hay_legal.specs.Blocks.{IsNewRow, LegalBlock, LogIsLegal, VolumeIsLegal, new_rows}
use Rattle.hay_legal.specs.Legal.{Legal, LegalTurn, known_after}
use Rattle.hay_legal.specs.Subject.{known_behind, IsOf, IsAppended, StoredIsTheLastEntry, DeletedIsTheLastEntry, LogsGrow}
use Rattle.hay_legal.proofs.Subject.Shown.{legal_split}
use Rattle.hay_legal.proofs.Subject.Effects.{Bounded, RowsGrow, each_append, calm_undisturbed, unchanged, find_of, each_try, taken_home, Disturbed, put_disturbed, del_disturbed, plain_effect}

-- A STORE KEEPS ITS VOLUMES

pub is_of_grown : (settings : Settings) (k t : Known) → IsOf settings k → length t.volumes ≡ length k.volumes
    → ((w : ℕ) → length (volume_at t w).replicas ≡ length (volume_at k w).replicas) → RowsGrow settings k t → IsOf settings t
is_of_grown settings k t is many each grow = record {
  volumes = many ∙ is.volumes;
  replicas = λ v below. each v ∙ is.replicas v below;
  homes = subst (λ (rows : List HomeRow). Bounded settings rows) (sym grow.rows) (each_append _ k.directory.rows grow.new is.homes grow.bounded);
  pending = grow.pending is.pending;
}

pub plain_is_of : (settings : Settings) (k : Known) (line : ℕ) (i : Item) (r : Reply) (t : Known) → IsOf settings k → LegalPlain settings k line i r t → IsOf settings t
plain_is_of settings k line i r t is h =
    elim (plain_effect settings k line i r t h) [
      | inl calm ↦ let same = calm_undisturbed settings k t calm in is_of_grown settings k t is same.many (λ w. (same.each w).many) same.grow
      | inr change ↦ is_of_grown settings k t is (change.3).many
          (λ w. elim ((change.3).each w) [ inl same ↦ same.many | inr adds ↦ (adds.1).many ]) (change.3).grow
    ]

pub reopened_many : (settings : Settings) (v : ℕ) (olds : List VolumeKnown) (kepts : List (List Bool)) (news : List VolumeKnown)
    → ReopenedVolumes settings v olds kepts news → length news ≡ length olds
reopened_many settings v [] [] [] h = refl
reopened_many settings v (old ∷ olds) (kept ∷ kepts) (new ∷ news) h = ap suc (reopened_many settings (v + 1) olds kepts news h.1)
reopened_many settings v [] [] (new ∷ news) h = absurd h
reopened_many settings v [] (kept ∷ kepts) news h = absurd h
reopened_many settings v (old ∷ olds) [] news h = absurd h
reopened_many settings v (old ∷ olds) (kept ∷ kepts) [] h = absurd h

-- what a restart finds of one volume, and of one replica
pub reopened_at : (settings : Settings) (n : ℕ) (olds : List VolumeKnown) (kepts : List (List Bool)) (news : List VolumeKnown) (i : ℕ) → ReopenedVolumes settings n olds kepts news → i < length olds
    → ReopenedVolume settings (n + i) (slice_index_or olds i empty_volume) (slice_index_or kepts i []) (slice_index_or news i empty_volume)
reopened_at settings n [] kepts news i h below = absurd (omega (arith, below))
reopened_at settings n (old ∷ olds) (kept ∷ kepts) (new ∷ news) zero h below =
    let plus : n ≡ n + 0 = omega arith in subst (λ (v : ℕ). ReopenedVolume settings v old kept new) plus h.0
reopened_at settings n (old ∷ olds) (kept ∷ kepts) (new ∷ news) (suc i) h below =
    let plus : n + 1 + i ≡ n + suc i = omega arith in
    let less : i < length olds = omega (arith, below) in
    subst (λ (v : ℕ). ReopenedVolume settings v (slice_index_or olds i empty_volume) (slice_index_or kepts i []) (slice_index_or news i empty_volume)) plus
    (reopened_at settings (n + 1) olds kepts news i h.1 less)
reopened_at settings n (old ∷ olds) [] news i h below = absurd h
reopened_at settings n (old ∷ olds) (kept ∷ kepts) [] i h below = absurd h

pub reopened_replica : (volume : VolumeKnown) (kept : List Bool) (n : ℕ) (olds news : List ReplicaKnown) (i : ℕ) → ReopenedReplicas volume kept n olds news → i < length olds
    → ReopenedReplica volume (slice_index_or olds i empty_replica) (kept_entry volume.pending (is_kept kept (n + i))) (slice_index_or news i empty_replica)
reopened_replica volume kept n [] news i h below = absurd (omega (arith, below))
reopened_replica volume kept n (old ∷ olds) (new ∷ news) zero h below =
    let plus : n ≡ n + 0 = omega arith in subst (λ (m : ℕ). ReopenedReplica volume old (kept_entry volume.pending (is_kept kept m)) new) plus h.0
reopened_replica volume kept n (old ∷ olds) (new ∷ news) (suc i) h below =
    let plus : n + 1 + i ≡ n + suc i = omega arith in
    let less : i < length olds = omega (arith, below) in
    subst (λ (m : ℕ). ReopenedReplica volume (slice_index_or olds i empty_replica) (kept_entry volume.pending (is_kept kept m)) (slice_index_or news i empty_replica)) plus
    (reopened_replica volume kept (n + 1) olds news i h.1 less)
reopened_replica volume kept n (old ∷ olds) [] i h below = absurd h

pub replicas_many : (volume : VolumeKnown) (kept : List Bool) (n : ℕ) (olds news : List ReplicaKnown) → ReopenedReplicas volume kept n olds news → length news ≡ length olds
replicas_many volume kept n [] [] h = refl
replicas_many volume kept n (old ∷ olds) (new ∷ news) h = ap suc (replicas_many volume kept (n + 1) olds news h.1)
replicas_many volume kept n [] (new ∷ news) h = absurd h
replicas_many volume kept n (old ∷ olds) [] h = absurd h

-- a volume of the store, over a restart
pub volume_reopened : (settings : Settings) (k : Known) (kept : List (List Bool)) (row : Bool) (t : Known) (v : ℕ) → Reopens settings k kept row t → v < length k.volumes
    → ReopenedVolume settings v (volume_at k v) (slice_index_or kept v []) (volume_at t v)
volume_reopened settings k kept row t v h below =
    let plus : 0 + v ≡ v = omega arith in
    subst (λ (u : ℕ). ReopenedVolume settings u (volume_at k v) (slice_index_or kept v []) (volume_at t v)) plus
    (reopened_at settings 0 k.volumes kept t.volumes v h.volumes below)

pub kept_row_bounded : (settings : Settings) (o : Option PendingRow) (kept : Bool) → ((pending : PendingRow) → o ≡ Some pending → (pending.row).volume < settings.volumes)
    → Bounded settings (kept_row o kept)
kept_row_bounded settings (Some pending) true bounded = (bounded pending refl, tt)
kept_row_bounded settings (Some pending) false bounded = tt
kept_row_bounded settings None kept bounded = tt

pub reopened_is_of : (settings : Settings) (k : Known) (kept : List (List Bool)) (row : Bool) (t : Known) → IsOf settings k → Reopens settings k kept row t → IsOf settings t
reopened_is_of settings k kept row t is h = record {
  volumes = reopened_many settings 0 k.volumes kept t.volumes h.volumes ∙ is.volumes;
  replicas = λ v below.
      let found = volume_reopened settings k kept row t v h (subst (λ (n : ℕ). v < n) (sym is.volumes) below) in
      replicas_many (volume_at k v) (slice_index_or kept v []) 0 (volume_at k v).replicas (volume_at t v).replicas found.replicas ∙ is.replicas v below;
  homes = subst (λ (rows : List HomeRow). Bounded settings rows) (sym h.rows)
      (each_append _ k.directory.rows (kept_row k.directory.pending row) is.homes (kept_row_bounded settings k.directory.pending row is.pending));
  pending = λ pending e. let none : None ≡ Some pending = sym (ap (λ (d : DirKnown). d.pending) h.directory) ∙ e in absurd cc;
}

pub restart_is_of : (settings : Settings) (k : Known) (r : Reply) (notes : List Note) (t : Known) → IsOf settings k → LegalRestart settings k r notes t → IsOf settings t
restart_is_of settings k (reply.Restarted d) notes t is h = reopened_is_of settings k h.kept h.row t is h.opened
restart_is_of settings k reply.NoMem notes t is h =
    let same = calm_undisturbed settings k t (unchanged settings k t (rises_leaves k t h.leaves)) in is_of_grown settings k t is same.many (λ w. (same.each w).many) same.grow
restart_is_of settings k _ notes t is h = absurd h

pub each_in_range : (P : ℕ → Type 0) (a n v : ℕ) → Each P (range_with_len a n) → a ≤ v → v < a + n → P v
each_in_range P a zero v h low high = absurd (omega (arith, low, high))
each_in_range P a (suc n) v h low high =
    elim (eq-or-lt_of_le low) [
      | inl e ↦ subst P e h.0
      | inr less ↦ each_in_range P (a + 1) n v h.1 (omega (arith, less)) (omega (arith, high))
    ]

-- each new row is for a volume of the store
rows_below : (settings : Settings) (k : Known) (items : List LaneItem) (t : Known) (named : List LineVolume) (rows : List HomeRow)
    → AllZip (IsNewRow settings k items t) named rows → Each (λ row. row.volume < settings.volumes) rows
rows_below settings k items t [] [] zip = tt
rows_below settings k items t (name ∷ named) (row ∷ rows) zip =
    (each_try settings row.pair row.volume ((zip.0).gets).tried, rows_below settings k items t named rows zip.1)
rows_below settings k items t [] (row ∷ rows) zip = absurd zip
rows_below settings k items t (name ∷ named) [] zip = absurd zip

-- Behind a legal block the store has its volumes and replicas, and each home is one of its volumes.
pub block_is_of : (settings : Settings) (k : Known) (items : List LaneItem) (logs : List LogNote) (rows : RowNote) (t : Known)
    → IsOf settings k → LegalBlock settings k items logs rows t → IsOf settings t
block_is_of settings k items logs rows t is b = record {
  volumes = b.many ∙ is.volumes;
  replicas = λ v below.
      (each_in_range (VolumeIsLegal settings k items rows t) 0 settings.volumes v b.volumes (omega arith) (omega (arith, below))).many ∙ is.replicas v below;
  homes = subst (λ (rows : List HomeRow). Each (λ row. row.volume < settings.volumes) rows)
      (ap (λ (old : List HomeRow). old ++ new_rows k t) (sym (b.homes).kept) ∙ take-append-drop (length k.directory.rows) t.directory.rows)
      (each_append (λ row. row.volume < settings.volumes) k.directory.rows (new_rows k t) is.homes
      (rows_below settings k items t rows.rows (new_rows k t) (b.homes).each));
  pending = λ pending left. elim b.directory [
    | inl same ↦ is.pending pending (sym same.1 ∙ left)
    | inr froze ↦
        subst (λ (row : HomeRow). row.volume < settings.volumes)
        (ap (λ (p : PendingRow). p.row) (same_Some _ _ (sym (froze.pending).2 ∙ left)))
        (each_try settings froze.pair froze.volume (froze.gets).tried)
  ];
}

-- over turns of every kind
pub turn_is_of : (settings : Settings) (k : Known) (turn : Turn) → IsOf settings k → LegalTurn settings k turn → IsOf settings (known_after turn)
turn_is_of settings k (Plain line i r after) is legal = plain_is_of settings k line i r after is legal
turn_is_of settings k (Lanes items logs rows after) is block = block_is_of settings k items logs rows after is block
turn_is_of settings k (Restart line pick r notes after) is legal = restart_is_of settings k r notes after is legal

pub is_of_behind : (settings : Settings) (k t : Known) (turns : List Turn) → IsOf settings k → Legal settings k turns t → IsOf settings t
is_of_behind settings k t [] is h = subst (λ (x : Known). IsOf settings x) (sym h) is
is_of_behind settings k t (turn ∷ turns) is h = is_of_behind settings (known_after turn) t turns (turn_is_of settings k turn is h.0) h.1

-- a store that was just formatted
pub is_of-fresh : (settings : Settings) → IsOf settings (fresh_unharmed settings)
is_of-fresh settings = record {
  volumes = length-replicate settings.volumes (fresh_volume settings);
  replicas = λ v below. ap (λ (volume : VolumeKnown). length volume.replicas) (get_or-replicate settings.volumes v (fresh_volume settings) empty_volume below)
      ∙ length-replicate settings.replicas empty_replica;
  homes = tt;
  pending = λ pending e. absurd cc;
}

-- STORED AND DELETED

pub home_bounded : (settings : Settings) (rows : List HomeRow) (pair : Pair) (v : ℕ) → Bounded settings rows → home_in rows pair ≡ Some v → v < settings.volumes
home_bounded settings [] pair v bounded e = absurd cc
home_bounded settings (row ∷ rows) pair v bounded e =
    elim (cases_Bool (pair_eq row.pair pair)) [
      | inl t ↦
          let found : Some row.volume ≡ Some v = sym (cond-true (pair_eq row.pair pair) (Some row.volume) (home_in rows pair) t) ∙ e in
          let is : row.volume ≡ v = cc in
          subst (λ (n : ℕ). n < settings.volumes) is bounded.0
      | inr f ↦ home_bounded settings rows pair v bounded.1 (sym (cond-false (pair_eq row.pair pair) (Some row.volume) (home_in rows pair) f) ∙ e)
    ]

pub taken_bounded : (settings : Settings) (k : Known) (pair : Pair) (v : ℕ) (test : ℕ → Bool) (home : Option ℕ) → IsOf settings k → home_of k pair ≡ home
    → find test (tries_by settings pair home) ≡ Some v → v < settings.volumes
taken_bounded settings k pair v test (Some h) is e found =
    let at = (find_of test (h ∷ []) v found).1 in
    let first : at.0 ≡ 0 = omega (arith, at.1) in
    let same : h ≡ v = subst (λ (n : ℕ). slice_index_or (h ∷ []) n v ≡ v) first at.2 in
    home_bounded settings k.directory.rows pair v is.homes (e ∙ ap (λ (n : ℕ). Some n) same)
taken_bounded settings k pair v test None is e found = each_try settings pair v (find_of test (all_tries settings pair) v found).1

pub length-added : (log : List Logged) (l : Logged) → length (log ++ l ∷ []) ≡ length log + 1
length-added log l = length-append log (l ∷ [])

pub appended : (settings : Settings) (k : Known) (v p : ℕ) (logged : Logged) (t : Known) → v < length k.volumes → p ≡ length (volume_at k v).log + 1
    → Disturbed settings k v logged t → IsAppended k v p logged t
appended settings k v p logged t below position h = record {
  here = (h.here below).log;
  position = position ∙ sym (length-added (volume_at k v).log logged) ∙ sym (ap (λ (log : List Logged). length log) (h.here below).log);
  elsewhere = λ w apart. (h.others w apart).log;
}

pub stored_is_the_last_entry : StoredIsTheLastEntry
stored_is_the_last_entry settings k t earlier later line pair bytes v p d c after is legal =
    let parts = legal_split settings k t earlier _ legal in
    let b : Known = known_behind k earlier in
    let now_of : IsOf settings b = is_of_behind settings k b earlier is parts.0 in
    let tag : CoreTag = record { lane = 0; line = line } in
    let h : IsStored settings b tag pair bytes v p d c after = parts.1.0 in
    let test : ℕ → Bool = λ u. is_none (refusal_of settings b (length bytes) u) in
    let below : v < settings.volumes = taken_bounded settings b pair v test (home_of b pair) now_of refl h.taker in
    let below_all : v < length b.volumes = subst (λ (n : ℕ). v < n) (sym now_of.volumes) below in (
      appended settings b v p (record { tag = tag; entry = entry.Put pair c bytes }) after below_all h.position (put_disturbed settings b tag pair bytes v p d c after h),
      h.own,
      ap (λ (dir : DirKnown). home_in dir.rows pair) (h.leaves).directory ∙ taken_home settings b pair v test (home_of b pair) refl h.taker,
    )

pub deleted_is_the_last_entry : DeletedIsTheLastEntry
deleted_is_the_last_entry settings k t earlier later line pair v p d after is legal =
    let parts = legal_split settings k t earlier _ legal in
    let b : Known = known_behind k earlier in
    let now_of : IsOf settings b = is_of_behind settings k b earlier is parts.0 in
    let tag : CoreTag = record { lane = 0; line = line } in
    let h : IsDeleted settings b tag pair v p d after = parts.1.0 in
    let below_all : v < length b.volumes = subst (λ (n : ℕ). v < n) (sym now_of.volumes) (home_bounded settings b.directory.rows pair v now_of.homes (h.home).home) in (
      appended settings b v p (record { tag = tag; entry = entry.Del pair }) after below_all h.position (del_disturbed settings b tag pair v p d after h),
      ap (λ (dir : DirKnown). home_in dir.rows pair) (h.leaves).directory ∙ (h.home).home,
    )

-- LOGS GROW

abbrev pub Grows : List Logged → List Logged → Type 0
Grows old log = (new : List Logged) × (log ≡ old ++ new)

pub block_grows : (settings : Settings) (k : Known) (items : List LaneItem) (logs : List LogNote) (rows : RowNote) (t : Known) (v : ℕ) → v < settings.volumes
    → LegalBlock settings k items logs rows t → Grows (volume_at k v).log (volume_at t v).log
block_grows settings k items logs rows t v below block =
    let legal : LogIsLegal settings k items t v = each_in_range (λ u. LogIsLegal settings k items t u) 0 settings.volumes v block.log (omega arith) (omega (arith, below)) in (
      drop (length (volume_at k v).log) (volume_at t v).log,
      sym (take-append-drop (length (volume_at k v).log) (volume_at t v).log)
          ∙ ap (λ (log : List Logged). log ++ drop (length (volume_at k v).log) (volume_at t v).log) legal.kept,
    )

pub plain_grows : (settings : Settings) (k : Known) (line : ℕ) (i : Item) (r : Reply) (t : Known) (v : ℕ) → LegalPlain settings k line i r t → Grows (volume_at k v).log (volume_at t v).log
plain_grows settings k line i r t v h =
    elim (plain_effect settings k line i r t h) [
      | inl calm ↦ ([], ((calm_undisturbed settings k t calm).each v).log ∙ sym (append-nil (volume_at k v).log))
      | inr change ↦ elim (change.3.each v) [
        | inl same ↦ ([], same.log ∙ sym (append-nil (volume_at k v).log))
        | inr adds ↦ (change.1 ∷ [], (adds.1).log)
      ]
    ]

pub grows_trans : (a b c : List Logged) → Grows a b → Grows b c → Grows a c
grows_trans a b c h g = (h.0 ++ g.0, g.1 ∙ ap (λ (log : List Logged). log ++ g.0) h.1 ∙ append_assoc a h.0 g.0)

pub logs_grow : LogsGrow
logs_grow settings k t [] v legal none below = ([], ap (λ (x : Known). (volume_at x v).log) legal ∙ sym (append-nil (volume_at k v).log))
logs_grow settings k t (Plain line i r after ∷ turns) v legal none below =
    grows_trans (volume_at k v).log (volume_at after v).log (volume_at t v).log
    (plain_grows settings k line i r after v legal.0) (logs_grow settings after t turns v legal.1 none.1 below)
logs_grow settings k t (Lanes items logs rows after ∷ turns) v legal none below =
    grows_trans (volume_at k v).log (volume_at after v).log (volume_at t v).log
    (block_grows settings k items logs rows after v below legal.0) (logs_grow settings after t turns v legal.1 none.1 below)
logs_grow settings k t (Restart line pick r notes after ∷ turns) v legal none below = absurd none.0
