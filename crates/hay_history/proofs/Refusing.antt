-- At which fronts a volume lacked room in the block, and why it refused a photo then.
use Rattle.std.proofs.Common.{◌≡◌, ◌⊎◌, inl, inr, ℕ, zero, suc, ◌<◌, ◌≤◌, ◌+◌, ◌-◌, true, false, List, [], ◌∷◌, ◌++◌, length, Option, Some, None, refl, sym, ap, subst, ◌∙◌, arith}
use Rattle.std.proofs.Common.{append_assoc, length-append}
use Rattle.std.specs.List.{enumerate_from}
use Rattle.std.specs.Prelude.{take, sum_by, find, slice_index_or}
use Rattle.std.proofs.Math.Seq.{take-append_seam}
use Rattle.std.proofs.lemmas.Bool.{cases_Bool, cases_eq, cond-false, cond-true, ltb-false, ltb-true}
use Rattle.hay_core.specs.declared.entry.Logged.{Logged}
use Rattle.hay_needle.specs.declared.settings.Settings.{Settings}
use Rattle.hay_needle.specs.Sizes.{needle_total}
use Rattle.hay_needle.specs.Tables.{Table, live_end}
use Rattle.hay_reply.specs.declared.Refused.{Refused}
use Rattle.hay_reply.specs.declared.Refused.TheVariants.{Closed, NoRoom}
use Rattle.hay_legal.specs.declared.known.Known.{Known}
use Rattle.hay_legal.specs.declared.known.ReplicaKnown.{ReplicaKnown}
use Rattle.hay_legal.specs.declared.turn.LaneItem.{LaneItem}
use Rattle.hay_legal.specs.Known.{at_front, closed, closed_by, drained_of, empty_replica, lacks_room, machine_of, now, refusal_by, replica_at, replica_on, room_refusal_of, volume_at}
use Rattle.hay_legal.specs.Blocks.{LacksRoom, MayEnd, MayEndAt, MayRefuse, WasSwapped, entries_until, new_entries, put_total}
use Rattle.hay_history.specs.LaneSteps.{Did, Standing}
use Rattle.hay_history.specs.Histories.{History, first_of}
use Rattle.hay_history.specs.Commands.{CameInLanes}
use Rattle.hay_history.proofs.Histories.{Found, along, along_or_found}
use Rattle.hay_history.proofs.Lists.{each_below}
use Rattle.hay_history.proofs.ReplicaSteps.{effect, other_is, swaps_at}
use Rattle.hay_history.proofs.Sizes.{Grown, grown_same, grown_step, grown_trans}
use Rattle.hay_history.proofs.Volumes.{GenerationGrows, SwapsIt, closed_then, end_then, generation_persists, grown_on, moment, new_entries_at, open_before, option_map_some}
use Rattle.hay_history.proofs.Volumes.{persists_on, replica_there, replicas_many, table_at_front, volume_at_moment}

-- THE FIRST REPLICA WITHOUT ROOM

-- a replica that lacks room, and its number, where one was found
lacking_at : (settings : Settings) (size n : ℕ) (replicas : List ReplicaKnown) (at : ℕ × ReplicaKnown)
    → find (λ at. lacks_room settings size at.1) (enumerate_from n replicas) ≡ Some at
    → (j : ℕ) × (j < length replicas) × (at.0 ≡ n + j) × (slice_index_or replicas j empty_replica ≡ at.1) × (lacks_room settings size at.1 ≡ true)
lacking_at settings size n [] at found = let no : None ≡ Some at = found in absurd cc
lacking_at settings size n (r ∷ replicas) at found =
    elim (cases_Bool (lacks_room settings size r)) [
      | inl t ↦
          let first : Some (n, r) ≡ Some at =
          sym (cond-true (lacks_room settings size r) (Some (n, r)) (find (λ at. lacks_room settings size at.1) (enumerate_from (n + 1) replicas)) t) ∙ found in
          let is : (n, r) ≡ at = cc in
          let number : n ≡ at.0 = ap (λ (x : ℕ × ReplicaKnown). x.0) is in
          (0, omega arith, omega (arith, number), ap (λ (x : ℕ × ReplicaKnown). x.1) is, subst (λ (x : ℕ × ReplicaKnown). lacks_room settings size x.1 ≡ true) is t)
      | inr f ↦
          let rest = lacking_at settings size (n + 1) replicas at
          (sym (cond-false (lacks_room settings size r) (Some (n, r)) (find (λ at. lacks_room settings size at.1) (enumerate_from (n + 1) replicas)) f) ∙ found) in
          (suc rest.0, omega (arith, rest.1), omega (arith, rest.2), rest.3, rest.4)
    ]

-- those before it have room
lower_fit : (settings : Settings) (size n : ℕ) (replicas : List ReplicaKnown) (at : ℕ × ReplicaKnown)
    → find (λ at. lacks_room settings size at.1) (enumerate_from n replicas) ≡ Some at
    → (i : ℕ) → n + i < at.0 → lacks_room settings size (slice_index_or replicas i empty_replica) ≡ false
lower_fit settings size n [] at found i less = let no : None ≡ Some at = found in absurd cc
lower_fit settings size n (r ∷ replicas) at found i less =
    elim (cases_Bool (lacks_room settings size r)) [
      | inl t ↦
          let first : Some (n, r) ≡ Some at =
          sym (cond-true (lacks_room settings size r) (Some (n, r)) (find (λ at. lacks_room settings size at.1) (enumerate_from (n + 1) replicas)) t) ∙ found in
          let is : (n, r) ≡ at = cc in
          let number : n ≡ at.0 = ap (λ (x : ℕ × ReplicaKnown). x.0) is in
          absurd (omega (arith, number, less))
      | inr f ↦ by_place i less f (lower_fit settings size (n + 1) replicas at
          (sym (cond-false (lacks_room settings size r) (Some (n, r)) (find (λ at. lacks_room settings size at.1) (enumerate_from (n + 1) replicas)) f) ∙ found))
    ]
  where
    by_place : (i : ℕ) → n + i < at.0 → lacks_room settings size r ≡ false
        → ((i : ℕ) → n + 1 + i < at.0 → lacks_room settings size (slice_index_or replicas i empty_replica) ≡ false)
        → lacks_room settings size (slice_index_or (r ∷ replicas) i empty_replica) ≡ false
    by_place zero less first rest = first
    by_place (suc i) less first rest = rest i (omega (arith, less))

-- SWAPS

-- a step swaps a replica, or does not
swaps_or : (j : ℕ) (a b : Standing) (did : Did) → (swaps_at j a did ≡ 0) ⊎ SwapsIt j did a b
swaps_or j a b (Did.Swaps i end cells freezes) = elim (cases_eq i j) [
  | inl same ↦ inr (end, cells, freezes, ap (λ (n : ℕ). Did.Swaps n end cells freezes) same)
  | inr other ↦ inl (other_is i j 1 other)
]
swaps_or j a b _ = inl refl

-- THE ENDS AT A FRONT

module _ {settings : Settings} {k : Known} {items : List LaneItem} {history : History} {t : Known} (h : CameInLanes settings k items history t)
    (v : ℕ) (below : v < settings.volumes) where
  -- the entries until a moment's front are those that were added until the moment
  pub entries_then : (n : ℕ) (more : List Logged) → (volume_at_moment settings k history v n).log ≡ (volume_at k v).log ++ more
      → entries_until k t v (length (volume_at_moment settings k history v n).log) ≡ more
  entries_then n more is =
      let on = grown_on h v n below in
      let all : new_entries k t v ≡ more ++ on.0 =
      new_entries_at k t v (more ++ on.0) ((on.1).log ∙ ap (λ (log : List Logged). log ++ on.0) is ∙ append_assoc (volume_at k v).log more on.0) in
      let long : length (volume_at_moment settings k history v n).log ≡ length (volume_at k v).log + length more =
      ap (λ (log : List Logged). length log) is ∙ length-append (volume_at k v).log more in
      let since : length (volume_at_moment settings k history v n).log - length (volume_at k v).log ≡ length more = omega (arith, long) in
      ap (λ (m : ℕ). take m (new_entries k t v)) since ∙ ap (take (length more)) all ∙ take-append_seam more on.0

  -- how far a replica grew until a moment
  grown_until : (n j : ℕ) → j < settings.replicas → (swaps : ℕ) × Grown j (first_of settings k v) swaps (moment settings k history v n)
  grown_until n j within =
      along settings v (λ a b. j < length (a.volume).replicas → (swaps : ℕ) × Grown j a swaps b) (first_of settings k v) (history.volumes v)
      (λ a inside. (0, grown_same j a))
      (λ a b c x y inside.
      let first = x inside in
      let rest = y (subst (λ (m : ℕ). j < m) (sym (first.1).many) inside) in
      (first.0 + rest.0, grown_trans j a b c first.0 rest.0 first.1 rest.1))
      (λ tag did a b leads rises inside. (swaps_at j a did, grown_step j a did b (effect settings v j tag did a b leads inside)))
      (h.follows v below) 0 n (omega arith) (omega (arith, (h.store).replicas v below, within))

  -- it grew by the puts alone, or a step swapped it
  exact_or_swapped : (n j : ℕ) → j < settings.replicas
      → Grown j (first_of settings k v) 0 (moment settings k history v n) ⊎ Found (SwapsIt j) (first_of settings k v) (history.volumes v) n
  exact_or_swapped n j within =
      elim (along_or_found settings v (λ a b. j < length (a.volume).replicas → Grown j a 0 b) (SwapsIt j) (first_of settings k v) (history.volumes v)
      (λ a inside. grown_same j a)
      (λ a b c x y inside. grown_trans j a b c 0 0 (x inside) (y (subst (λ (m : ℕ). j < m) (sym (x inside).many) inside)))
      (λ tag did a b leads rises. elim (swaps_or j a b did) [
        | inl none ↦ inl (λ inside. subst (λ (m : ℕ). Grown j a m b) none (grown_step j a did b (effect settings v j tag did a b leads inside)))
        | inr swaps ↦ inr swaps
      ])
      (h.follows v below) n) [
        | inl exact ↦ inl (exact (omega (arith, (h.store).replicas v below, within)))
        | inr found ↦ inr found
      ]

  -- where it is said what a swap until a moment was
  abbrev pub SaysSwapped : (ℕ → Type 0) → ℕ → Type 0
  SaysSwapped Swapped n =
      (j : ℕ) → j < settings.replicas → WasSwapped k t v j → Found (SwapsIt j) (first_of settings k v) (history.volumes v) n → Swapped j

  ends_by : (Swapped : ℕ → Type 0) (n j swaps : ℕ) → Grown j (first_of settings k v) swaps (moment settings k history v n)
      → (0 < swaps → WasSwapped k t v j → Swapped j)
      → MayEndAt k t v Swapped (length (volume_at_moment settings k history v n).log) j (replica_at (volume_at_moment settings k history v n) j).end
  ends_by Swapped n j swaps grew says = elim grew.sizes [
    | inl same ↦ inl (omega (arith, same.1, total))
    | inr some ↦ inr (says some.0 (omega (arith, grew.generation, some.0, later)), omega (arith, some.1, standing), omega (arith, some.2, total))
  ]
    where
      total : sum_by put_total (entries_until k t v (length (volume_at_moment settings k history v n).log)) ≡ sum_by put_total grew.new
      total = ap (λ (log : List Logged). sum_by put_total log) (entries_then n grew.new grew.log)

      later : (replica_at (volume_at_moment settings k history v n) j).generation ≤ (replica_at (volume_at t v) j).generation
      later = persists_on h (GenerationGrows j) (generation_persists j) v n below

      standing : live_end (at_front (volume_at t v) (replica_at (volume_at t v) j) (length (volume_at_moment settings k history v n).log))
          ≡ live_end (now (volume_at_moment settings k history v n) (replica_at (volume_at_moment settings k history v n) j))
      standing = ap (λ (table : Table). live_end table) (table_at_front h v n j below)

  ends_at : (Swapped : ℕ → Type 0) (n j : ℕ) → SaysSwapped Swapped n → j < settings.replicas
      → MayEndAt k t v Swapped (length (volume_at_moment settings k history v n).log) j (replica_at (volume_at_moment settings k history v n) j).end
  ends_at Swapped n j says within = elim (exact_or_swapped n j within) [
    | inl exact ↦ ends_by Swapped n j 0 exact (λ some was. absurd (omega (arith, some)))
    | inr found ↦ let grew = grown_until n j within in ends_by Swapped n j grew.0 grew.1 (λ some was. says j within was found)
  ]

  there_by : (number j : ℕ) → number ≡ j → j < settings.replicas → replica_on settings v (machine_of settings v number) ≡ Some j
  there_by number j same within =
      subst (λ (i : ℕ). replica_on settings v (machine_of settings v i) ≡ Some j) (sym same) (replica_there settings v j (h.regular).machines below within)

  -- the first replica that lacks room at a moment lacks it at the moment's front
  lacks_at : (Swapped : ℕ → Type 0) (n size : ℕ) (at : ℕ × ReplicaKnown) → SaysSwapped Swapped n
      → find (λ at. lacks_room settings size at.1) (enumerate_from 0 (volume_at_moment settings k history v n).replicas) ≡ Some at
      → LacksRoom settings k t v Swapped (length (volume_at_moment settings k history v n).log) (machine_of settings v at.0) (at.1).end (needle_total size)
  lacks_at Swapped n size at says found =
      let lacking = lacking_at settings size 0 (volume_at_moment settings k history v n).replicas at found in
      let within : lacking.0 < settings.replicas = subst (λ (many : ℕ). lacking.0 < many) (replicas_many h v n below) lacking.1 in
      let number : at.0 ≡ lacking.0 = omega (arith, lacking.2) in
      record {
        replica = lacking.0;
        there = there_by at.0 lacking.0 number within;
        ended = subst (λ (r : ReplicaKnown). MayEndAt k t v Swapped (length (volume_at_moment settings k history v n).log) lacking.0 r.end) lacking.3 (ends_at Swapped n lacking.0 says within);
        short = ltb-true settings.capacity ((at.1).end + needle_total size + 8) lacking.4;
        lower = each_below
            (λ i. (other : ℕ) × MayEndAt k t v Swapped (length (volume_at_moment settings k history v n).log) i other × (other + needle_total size + 8 ≤ settings.capacity)) lacking.0
            (λ i less. (
              (replica_at (volume_at_moment settings k history v n) i).end,
              ends_at Swapped n i says (omega (arith, less, within)),
              ltb-false settings.capacity ((replica_at (volume_at_moment settings k history v n) i).end + needle_total size + 8)
                  (lower_fit settings size 0 (volume_at_moment settings k history v n).replicas at found i (omega (arith, less, number))),
            ));
      }

  -- what refused a photo at a moment may have refused it in the block
  pub refused_then : (n size : ℕ) (refused : Refused)
      → refusal_by v (closed_by (volume_at_moment settings k history v n).frozen (drained_of settings k v)) (room_refusal_of settings v (volume_at_moment settings k history v n) size) ≡ Some refused
      → MayRefuse settings k items t size v refused
  refused_then n size refused is = by_closed (closed_by (volume_at_moment settings k history v n).frozen (drained_of settings k v)) refl is
    where
      by_room : closed settings k v ≡ None → (at : ℕ × ReplicaKnown)
          → find (λ at. lacks_room settings size at.1) (enumerate_from 0 (volume_at_moment settings k history v n).replicas) ≡ Some at
          → MayRefuse settings k items t size v (NoRoom v (machine_of settings v at.0) (at.1).end (needle_total size))
      by_room opened at found =
          let lacking = lacking_at settings size 0 (volume_at_moment settings k history v n).replicas at found in
          let within : lacking.0 < settings.replicas = subst (λ (many : ℕ). lacking.0 < many) (replicas_many h v n below) lacking.1 in (
            refl,
            opened,
            (
              lacking.0,
              there_by at.0 lacking.0 (omega (arith, lacking.2)) within,
              subst (λ (r : ReplicaKnown). MayEnd settings k items t v lacking.0 r.end) lacking.3 (end_then h v n lacking.0 below within),
            ),
            refl,
            (length (volume_at_moment settings k history v n).log, lacks_at (WasSwapped k t v) n size at (λ j inside was found. was) found),
          )

      by_closed : (o : Option ℕ) → closed_by (volume_at_moment settings k history v n).frozen (drained_of settings k v) ≡ o
          → refusal_by v o (room_refusal_of settings v (volume_at_moment settings k history v n) size) ≡ Some refused → MayRefuse settings k items t size v refused
      by_closed (Some m) closed because =
          let same : Closed v m ≡ refused = cc in
          subst (MayRefuse settings k items t size v) same (refl, closed_then h v n m below closed)
      by_closed None closed because =
          let found = option_map_some (λ (at : ℕ × ReplicaKnown). NoRoom v (machine_of settings v at.0) (at.1).end (needle_total size))
          (find (λ at. lacks_room settings size at.1) (enumerate_from 0 (volume_at_moment settings k history v n).replicas)) refused because in
          subst (MayRefuse settings k items t size v) found.2 (by_room (open_before h v n below closed) found.0 found.1)

  -- what refused a photo for want of room at a moment lacked it at the moment's front
  pub lacks_then : (Swapped : ℕ → Type 0) (n size m end need : ℕ) → SaysSwapped Swapped n
      → refusal_by v (closed_by (volume_at_moment settings k history v n).frozen (drained_of settings k v)) (room_refusal_of settings v (volume_at_moment settings k history v n) size)
      ≡ Some (NoRoom v m end need)
      → LacksRoom settings k t v Swapped (length (volume_at_moment settings k history v n).log) m end need
  lacks_then Swapped n size m end need says is = by_closed (closed_by (volume_at_moment settings k history v n).frozen (drained_of settings k v)) is
    where
      room_of : (at : ℕ × ReplicaKnown) → NoRoom v (machine_of settings v at.0) (at.1).end (needle_total size) ≡ NoRoom v m end need
          → LacksRoom settings k t v Swapped (length (volume_at_moment settings k history v n).log) (machine_of settings v at.0) (at.1).end (needle_total size)
          → LacksRoom settings k t v Swapped (length (volume_at_moment settings k history v n).log) m end need
      room_of at same lacks =
          let machine : machine_of settings v at.0 ≡ m = cc in
          let ended : (at.1).end ≡ end = cc in
          let needed : needle_total size ≡ need = cc in
          subst (λ (x : ℕ). LacksRoom settings k t v Swapped (length (volume_at_moment settings k history v n).log) x end need) machine
          (subst (λ (x : ℕ). LacksRoom settings k t v Swapped (length (volume_at_moment settings k history v n).log) (machine_of settings v at.0) x need) ended
          (subst (λ (x : ℕ). LacksRoom settings k t v Swapped (length (volume_at_moment settings k history v n).log) (machine_of settings v at.0) (at.1).end x) needed lacks))

      by_closed : (o : Option ℕ) → refusal_by v o (room_refusal_of settings v (volume_at_moment settings k history v n) size) ≡ Some (NoRoom v m end need)
          → LacksRoom settings k t v Swapped (length (volume_at_moment settings k history v n).log) m end need
      by_closed (Some by) because = let clash : Closed v by ≡ NoRoom v m end need = cc in absurd cc
      by_closed None because =
          let found = option_map_some (λ (at : ℕ × ReplicaKnown). NoRoom v (machine_of settings v at.0) (at.1).end (needle_total size))
          (find (λ at. lacks_room settings size at.1) (enumerate_from 0 (volume_at_moment settings k history v n).replicas)) (NoRoom v m end need) because in
          room_of found.0 found.2 (lacks_at Swapped n size found.0 says found.1)
