-- A legal block keeps its photos in their homes, and what stands at a pair that no line of it changed.
use Rattle.std.specs.Prelude.{slice_get, unwrap_or, ◌≡◌, ℕ, suc, ◌+◌, ◌-◌, ◌<◌, ◌≤◌, ◌⊎◌, List, [], ◌∷◌, ◌++◌, length, map, drop, take, Contains, Option, Some, None}
use Rattle.std.specs.List.{AllByRecursion as Each, enumerate_from}
use Rattle.std.proofs.Common.{refl, sym, ap, subst, inl, inr, ◌∙◌, arith}
use Rattle.std.proofs.lemmas.Bool.{cases_Bool, cases_lt, cond-false}
use Rattle.std.proofs.lemmas.List.{get_or_past, take-append-drop}
use Rattle.std.proofs.lemmas.List.Elements.{All-contains, All-from_recursion}
use Rattle.std.proofs.lemmas.Option.{none-some, same_Some, slice_get_within, unwrap_or-slice_get}
use Rattle.std.proofs.Math.Seq.{split_at}
use Rattle.hay_needle.specs.declared.needle.Pair.{Pair}
use Rattle.hay_needle.specs.declared.needle.Outcome.{Outcome}
use Rattle.hay_needle.specs.declared.needle.Outcome.TheVariants as outcome
use Rattle.hay_needle.specs.declared.settings.Settings.{Settings}
use Rattle.hay_needle.specs.Tables.{Table, look_after, outcome_at, pair_eq}
use Rattle.hay_needle.proofs.TableLaws.{look_append, pair_same}
use Rattle.hay_script.specs.declared.Command.TheVariants as command
use Rattle.hay_reply.specs.declared.Reply.{Reply}
use Rattle.hay_reply.specs.declared.Reply.TheVariants as reply
use Rattle.hay_core.specs.declared.entry.Entry.{Entry}
use Rattle.hay_core.specs.declared.entry.Logged.{Logged}
use Rattle.hay_core.specs.Entries.{entry_row, logged_row}
use Rattle.hay_legal.specs.declared.known.HomeRow.{HomeRow}
use Rattle.hay_legal.specs.declared.known.Known.{Known}
use Rattle.hay_legal.specs.declared.known.Pending.{Pending}
use Rattle.hay_legal.specs.declared.known.VolumeKnown.{VolumeKnown}
use Rattle.hay_legal.specs.declared.turn.Item.{Item}
use Rattle.hay_legal.specs.declared.turn.Item.TheVariants as asks
use Rattle.hay_legal.specs.declared.turn.LaneItem.{LaneItem}
use Rattle.hay_legal.specs.declared.turn.LogNote.{LogNote}
use Rattle.hay_legal.specs.declared.turn.RowNote.{RowNote}
use Rattle.hay_legal.specs.declared.turn.Turn.{Turn}
use Rattle.hay_legal.specs.declared.turn.Turn.TheVariants.{Plain, Lanes, Restart}
use Rattle.hay_legal.specs.Known.{empty_volume, home_in, home_of, replica_at, volume_at}
use Rattle.hay_legal.specs.Blocks.{EnteredAt, FreezeIsLegal, Freezes, HomeAt, IsEntered, IsMade, LegalBlock, LineIsLegal, LogIsLegal, ReplicaIsLegal, VolumeIsLegal, acknowledged}
use Rattle.hay_legal.specs.Blocks.{entry_of_item, is_failed, new_entries, new_rows, pending_behind, tag_of}
use Rattle.hay_legal.specs.Legal.{LegalTurn, known_after}
use Rattle.hay_legal.specs.Subject.{IsLast, IsOf, IsTidy, Spares, TidyStays, pair_of}
use Rattle.hay_legal.proofs.Subject.Shown.{at-now, last_look, map-append_rows, outcome_of, row_pair, spared_look}
use Rattle.hay_legal.proofs.Subject.Effects.{home_stays}
use Rattle.hay_legal.proofs.Subject.Entries.{block_is_of, each_in_range, home_bounded, turn_is_of}
use Rattle.hay_legal.proofs.Subject.Tidy.{plain_tidy, restart_is_tidy}
use Rattle.hay_legal.proofs.Subject.Standing.{Standing, at_replica}

-- HOMES

module _ {settings : Settings} {k : Known} {items : List LaneItem} {logs : List LogNote} {rows : RowNote} {t : Known} (b : LegalBlock settings k items logs rows t) where
  -- the rows are those of before with the new ones behind them
  rows_are : t.directory.rows ≡ k.directory.rows ++ new_rows k t
  rows_are =
      sym (take-append-drop (length k.directory.rows) t.directory.rows) ∙ ap (λ (old : List HomeRow). old ++ new_rows k t) (b.homes).kept

  home_kept : (pair : Pair) (v : ℕ) → home_of k pair ≡ Some v → home_of t pair ≡ Some v
  home_kept pair v home = ap (λ (all : List HomeRow). home_in all pair) rows_are ∙ home_stays k.directory.rows (new_rows k t) pair v home

  -- a home at a front is the home behind the block
  home_left : (pair : Pair) (d v : ℕ) → HomeAt t pair d (Some v) → home_of t pair ≡ Some v
  home_left pair d v home =
      ap (λ (all : List HomeRow). home_in all pair) (sym (take-append-drop d t.directory.rows))
      ∙ home_stays (take d t.directory.rows) (drop d t.directory.rows) pair v home

  line : (item : LaneItem) → Contains items item → LineIsLegal settings k items t item
  line item among = All-contains (LineIsLegal settings k items t) items item (All-from_recursion (LineIsLegal settings k items t) items b.lines) among

  -- an acknowledged change is in the home of its pair
  made_home : (v p line lane : ℕ) (change : Entry) (asked : Item) (r : Reply) → LineIsLegal settings k items t (record { line = line; lane = lane; item = asked; reply = r })
      → acknowledged r ≡ Some (v, p) → entry_of_item settings asked ≡ Some change → home_of t (pair_of change) ≡ Some v
  made_home v p line lane change (asks.Command (command.Put pair bytes)) (reply.Stored u q d c) legal said is =
      let at : u ≡ v = ap (λ (x : ℕ × ℕ). x.0) (same_Some (u, q) (v, p) said) in
      let own : pair ≡ pair_of change = ap pair_of (same_Some _ change is) in
      subst (λ (x : Pair). home_of t x ≡ Some v) own (subst (λ (w : ℕ). home_of t pair ≡ Some w) at (home_left pair d u legal.0))
  made_home v p line lane change (asks.Command (command.Del pair)) (reply.Deleted u q d) legal said is =
      let at : u ≡ v = ap (λ (x : ℕ × ℕ). x.0) (same_Some (u, q) (v, p) said) in
      let own : pair ≡ pair_of change = ap pair_of (same_Some _ change is) in
      subst (λ (x : Pair). home_of t x ≡ Some v) own (subst (λ (w : ℕ). home_of t pair ≡ Some w) at (home_left pair d u legal.0))
  made_home v p line lane change (asks.Command (command.Put pair bytes)) (reply.Deleted u q d) legal said is = absurd legal
  made_home v p line lane change (asks.Command (command.Del pair)) (reply.Stored u q d c) legal said is = absurd legal
  made_home v p line lane change (asks.Command (command.Put pair bytes)) r legal said is = absurd cc
  made_home v p line lane change (asks.Command (command.Del pair)) r legal said is = absurd cc
  made_home v p line lane change (asks.Command _) r legal said is = absurd cc
  made_home v p line lane change asks.Bad r legal said is = absurd cc

  -- so is a change that is left pending
  pending_home : (v m line lane : ℕ) (change : Entry) (left : Option Entry) (asked : Item) (r : Reply) → left ≡ Some change
      → LineIsLegal settings k items t (record { line = line; lane = lane; item = asked; reply = r })
      → Freezes settings k items t v m left (record { line = line; lane = lane; item = asked; reply = r }) → home_of t (pair_of change) ≡ Some v
  pending_home v m line lane change left (asks.Command (command.Put pair bytes)) (reply.Failed u w f) is legal froze =
      let own : pair ≡ pair_of change = ap pair_of (same_Some _ change (sym froze.1 ∙ is)) in
      subst (λ (x : Pair). home_of t x ≡ Some v) own (subst (λ (x : ℕ). home_of t pair ≡ Some x) (froze.0).0 (home_left pair (legal.0).0 u (legal.0).3))
  pending_home v m line lane change left (asks.Command (command.Put pair bytes)) reply.NoMem is legal froze =
      let own : pair ≡ pair_of change = ap pair_of (same_Some _ change (sym froze.2 ∙ is)) in
      subst (λ (x : Pair). home_of t x ≡ Some v) own (home_left pair ((froze.0).1).0 v ((froze.0).1).3)
  pending_home v m line lane change left (asks.Command (command.Del pair)) (reply.Failed u w f) is legal froze =
      let own : pair ≡ pair_of change = ap pair_of (same_Some _ change (sym (froze.1).0 ∙ is)) in
      subst (λ (x : Pair). home_of t x ≡ Some v) own (subst (λ (x : ℕ). home_of t pair ≡ Some x) (froze.0).0 (home_left pair (legal.0).0 u (legal.0).3))
  pending_home v m line lane change left (asks.Command (command.Del pair)) reply.NoMem is legal froze = elim froze.2 [
    | inl none ↦ absurd (none-some change (sym none ∙ is))
    | inr deletes ↦
        let own : pair ≡ pair_of change = ap pair_of (same_Some _ change (sym deletes.0 ∙ is)) in
        subst (λ (x : Pair). home_of t x ≡ Some v) own (home_left pair ((froze.0).1).0 v ((froze.0).1).3)
  ]
  pending_home v m line lane change left (asks.Command (command.Read pair cookie)) reply.NoMem is legal froze = absurd (none-some change (sym froze.1 ∙ is))
  pending_home v m line lane change left (asks.Command (command.Get url)) reply.NoMem is legal froze = absurd (none-some change (sym froze.3 ∙ is))
  pending_home v m line lane change left (asks.Command (command.Compact u w)) (reply.Failed u' w' f) is legal froze = absurd (none-some change (sym froze.1 ∙ is))
  pending_home v m line lane change left (asks.Command (command.Compact u w)) reply.NoMem is legal froze = absurd (none-some change (sym froze.3 ∙ is))
  pending_home v m line lane change left _ r is legal froze = absurd froze

  -- TIDY STORES

  volume : (v : ℕ) → v < settings.volumes → VolumeIsLegal settings k items rows t v
  volume v below = each_in_range (VolumeIsLegal settings k items rows t) 0 settings.volumes v b.volumes (omega arith) (omega (arith, below))

  replica : (v j : ℕ) → (below : v < settings.volumes) → j < settings.replicas → (replica_at (volume_at t v) j).base ≡ (replica_at (volume_at k v) j).base
  replica v j below within =
      (each_in_range (λ i. ReplicaIsLegal settings k items t v (volume v below).froze i (replica_at (volume_at k v) i) (replica_at (volume_at t v) i)) 0 settings.replicas j
      (volume v below).replicas (omega arith) (omega (arith, within))).base

  log_of : (v : ℕ) → v < settings.volumes → LogIsLegal settings k items t v
  log_of v below = each_in_range (LogIsLegal settings k items t) 0 settings.volumes v b.log (omega arith) (omega (arith, below))

  -- each new entry of a volume is of a pair whose home it is
  new_homes : (v n : ℕ) (new : List Logged) → Each (IsMade settings items v) (enumerate_from n new) → Each (λ logged. home_of t (pair_of logged.entry) ≡ Some v) new
  new_homes v n [] made = tt
  new_homes v n (logged ∷ new) made =
      let item : LaneItem = (made.0).0 in (
        made_home v n item.line item.lane logged.entry item.item item.reply (line item (made.0).1) (made.0).2 ((made.0).3).entry,
        new_homes v (n + 1) new made.1,
      )

  -- what changes leave where nothing stood
  look_home : (v : ℕ) (pair : Pair) (new : List Logged) → Each (λ logged. home_of t (pair_of logged.entry) ≡ Some v) new
      → (look_after (map logged_row new) pair outcome.Nothing ≡ outcome.Nothing) ⊎ (home_of t pair ≡ Some v)
  look_home v pair [] homes = inl refl
  look_home v pair (l ∷ new) homes = elim (cases_Bool (pair_eq (entry_row l.entry).pair pair)) [
    | inl own ↦
        let is : pair_of l.entry ≡ pair = sym (row_pair l.entry) ∙ pair_same (entry_row l.entry).pair pair own in
        inr (subst (λ (p : Pair). home_of t p ≡ Some v) is homes.0)
    | inr other ↦ elim (look_home v pair new homes.1) [
      | inr home ↦ inr home
      | inl nothing ↦ inl (ap (λ (o : Outcome). look_after (map logged_row new) pair o)
          (cond-false (pair_eq (entry_row l.entry).pair pair) (entry_row l.entry).outcome outcome.Nothing other) ∙ nothing)
    ]
  ]

  log_grew : (v : ℕ) → v < settings.volumes → (volume_at t v).log ≡ (volume_at k v).log ++ new_entries k t v
  log_grew v below =
      sym (take-append-drop (length (volume_at k v).log) (volume_at t v).log)
      ∙ ap (λ (old : List Logged). old ++ new_entries k t v) (log_of v below).kept

  -- what stands at a pair is what the new entries make of what stood
  looked : (v j : ℕ) (pair : Pair) → v < settings.volumes → j < settings.replicas
      → at_replica (volume_at t v) j pair ≡ look_after (map logged_row (new_entries k t v)) pair (at_replica (volume_at k v) j pair)
  looked v j pair below within =
      let old : VolumeKnown = volume_at k v in
      let new : VolumeKnown = volume_at t v in
      at-now new (replica_at new j) pair
      ∙ ap (λ (log : List Logged). look_after (map logged_row log) pair (outcome_at (replica_at new j).base pair)) (log_grew v below)
      ∙ ap (λ (table : Table). look_after (map logged_row (old.log ++ new_entries k t v)) pair (outcome_at table pair)) (replica v j below within)
      ∙ ap (λ rows. look_after rows pair (outcome_at (replica_at old j).base pair)) (map-append_rows old.log (new_entries k t v))
      ∙ look_append (map logged_row old.log) (map logged_row (new_entries k t v)) pair (outcome_at (replica_at old j).base pair)
      ∙ ap (λ (o : Outcome). look_after (map logged_row (new_entries k t v)) pair o) (sym (at-now old (replica_at old j) pair))

  photos : IsTidy settings k → (v j : ℕ) (pair : Pair) → v < settings.volumes → j < settings.replicas
      → (at_replica (volume_at t v) j pair ≡ outcome.Nothing) ⊎ (home_of t pair ≡ Some v)
  photos tidy v j pair below within = elim (tidy.photos v j pair below within) [
    | inr home ↦ inr (home_kept pair v home)
    | inl nothing ↦ elim (look_home v pair (new_entries k t v) (new_homes v (length (volume_at k v).log + 1) (new_entries k t v) (log_of v below).made)) [
      | inr home ↦ inr home
      | inl still ↦ inl (looked v j pair below within ∙ ap (look_after (map logged_row (new_entries k t v)) pair) nothing ∙ still)
    ]
  ]

  pending_by : IsTidy settings k → (v : ℕ) (left : Pending) (froze : Option LaneItem) → FreezeIsLegal settings k items t v froze → (volume_at t v).pending ≡ Some left
      → home_of t (pair_of left.entry) ≡ Some v
  pending_by tidy v left None kept is = home_kept (pair_of left.entry) v (tidy.pending v left (sym kept.1 ∙ is))
  pending_by tidy v left (Some item) froze is = by froze.change refl
    where
      by : (o : Option Entry) → froze.change ≡ o → home_of t (pair_of left.entry) ≡ Some v
      by None none =
          home_kept (pair_of left.entry) v (tidy.pending v left (sym (froze.pending ∙ ap (pending_behind (volume_at k v).pending item) none) ∙ is))
      by (Some change) some =
          let same : record { tag = tag_of item; entry = change; failed = is_failed item.reply } ≡ left =
          same_Some _ left (sym (froze.pending ∙ ap (pending_behind (volume_at k v).pending item) some) ∙ is) in
          subst (λ (p : Pending). home_of t (pair_of p.entry) ≡ Some v) same
          (pending_home v froze.machine item.line item.lane change froze.change item.item item.reply some (line item froze.among) froze.freezes)

-- Behind a legal block each photo is in the home of its pair alone, and each pending change is on the home of its pair.
pub block_is_tidy : (settings : Settings) (k : Known) (items : List LaneItem) (logs : List LogNote) (rows : RowNote) (t : Known)
    → IsOf settings k → LegalBlock settings k items logs rows t → IsTidy settings k → IsTidy settings t
block_is_tidy settings k items logs rows t is b tidy = record {
  photos = photos b tidy;
  pending = λ v left there. elim (cases_lt v settings.volumes) [
    | inl below ↦ pending_by b tidy v left (volume b v below).froze (volume b v below).freeze there
    | inr past ↦
        let more : length t.volumes ≤ v = omega (arith, past, b.many, is.volumes) in
        absurd (none-some left (sym (ap (λ (x : VolumeKnown). x.pending) (get_or_past t.volumes v empty_volume more)) ∙ there))
  ];
}

-- WHAT STANDS

-- no line of a block is told that it changed the pair
abbrev pub SparesPair : Settings → Pair → List LaneItem → Type 0
SparesPair settings pair items =
    (item : LaneItem) (change : Entry) → Contains items item → entry_of_item settings item.item ≡ Some change → pair_of change ≡ pair → acknowledged item.reply ≡ None

new_spare : (settings : Settings) (pair : Pair) (items : List LaneItem) (v n : ℕ) (new : List Logged) → SparesPair settings pair items
    → Each (IsMade settings items v) (enumerate_from n new) → Spares pair new
new_spare settings pair items v n [] quiet made = tt
new_spare settings pair items v n (logged ∷ new) quiet made = (
  λ own. none-some (v, n) (sym (quiet (made.0).0 logged.entry (made.0).1 ((made.0).3).entry own) ∙ (made.0).2),
  new_spare settings pair items v (n + 1) new quiet made.1,
)

-- What stands at a pair stands behind a legal block of which no line changed it.
pub block_stands : (settings : Settings) (k : Known) (items : List LaneItem) (logs : List LogNote) (rows : RowNote) (t : Known) (pair : Pair) (shown : Outcome)
    → IsOf settings k → LegalBlock settings k items logs rows t → SparesPair settings pair items → Standing settings k pair shown → Standing settings t pair shown
block_stands settings k items logs rows t pair shown is b quiet stands =
    let v : ℕ = stands.volume in
    let below : v < settings.volumes = home_bounded settings k.directory.rows pair v is.homes stands.home in
    record {
      volume = v;
      home = home_kept b pair v stands.home;
      each = λ j within. looked b v j pair below within
          ∙ ap (look_after (map logged_row (new_entries k t v)) pair) (stands.each j within)
          ∙ spared_look (new_entries k t v) pair shown (new_spare settings pair items v (length (volume_at k v).log + 1) (new_entries k t v) quiet (log_of b v below).made);
    }

-- what is listed at a place parts the list there
parted : (log : List Logged) (n : ℕ) (logged : Logged) → slice_get log n ≡ Some logged → log ≡ take n log ++ logged ∷ drop (suc n) log
parted log n logged at =
    split_at log n logged (slice_get_within log n logged at)
    ∙ ap (λ (l : Logged). take n log ++ l ∷ drop (suc n) log) (sym (unwrap_or-slice_get log n logged) ∙ ap (λ (o : Option Logged). unwrap_or o logged) at)

-- A change that a line of a legal block is told of stands behind it, where no entry of its pair is behind its position.
pub block_changed : (settings : Settings) (k : Known) (items : List LaneItem) (logs : List LogNote) (rows : RowNote) (t : Known) (item : LaneItem) (change : Entry) (v p : ℕ)
    → IsOf settings k → LegalBlock settings k items logs rows t → Contains items item
    → entry_of_item settings item.item ≡ Some change → acknowledged item.reply ≡ Some (v, p) → Spares (pair_of change) (drop p (volume_at t v).log)
    → Standing settings t (pair_of change) (outcome_of change)
block_changed settings k items logs rows t item change v p is b among asked said spared =
    let home : home_of t (pair_of change) ≡ Some v = made_home b v p item.line item.lane change item.item item.reply (line b item among) said asked in
    let entered = subst (EnteredAt settings k t item) said
    (All-contains (IsEntered settings k t) items item (All-from_recursion (IsEntered settings k t) items b.entered) among) in
    let log : List Logged = (volume_at t v).log in
    let logged : Logged = entered.1.0 in
    let next : suc (p - 1) ≡ p = omega (arith, entered.0) in
    let own : logged.entry ≡ change = same_Some logged.entry change (sym (entered.1.2).entry ∙ asked) in
    let last : IsLast log (pair_of change) change = record {
      front = take (p - 1) log;
      tag = logged.tag;
      back = drop p log;
      parts = parted log (p - 1) logged entered.1.1
          ∙ ap (λ (n : ℕ). take (p - 1) log ++ logged ∷ drop n log) next
          ∙ ap (λ (e : Entry). take (p - 1) log ++ record { tag = logged.tag; entry = e } ∷ drop p log) own;
      own = refl;
      spared = spared;
    } in
    record {
      volume = v;
      home = home;
      each = λ j within. at-now (volume_at t v) (replica_at (volume_at t v) j) (pair_of change)
          ∙ last_look log (pair_of change) change (outcome_at (replica_at (volume_at t v) j).base (pair_of change)) last;
    }

-- OVER ALL TURNS

pub turn_is_tidy : (settings : Settings) (k : Known) (turn : Turn) → IsOf settings k → LegalTurn settings k turn → IsTidy settings k → IsTidy settings (known_after turn)
turn_is_tidy settings k (Plain line i r after) is legal tidy = plain_tidy settings k line i r after legal tidy
turn_is_tidy settings k (Lanes items logs rows after) is block tidy = block_is_tidy settings k items logs rows after is block tidy
turn_is_tidy settings k (Restart line pick r notes after) is legal tidy = restart_is_tidy settings k r notes after is legal tidy

pub tidy_stays : TidyStays
tidy_stays settings k t [] is tidy legal = subst (λ (x : Known). IsTidy settings x) (sym legal) tidy
tidy_stays settings k t (turn ∷ turns) is tidy legal =
    tidy_stays settings (known_after turn) t turns (turn_is_of settings k turn is legal.0) (turn_is_tidy settings k turn is legal.0 tidy) legal.1
