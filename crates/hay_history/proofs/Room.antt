-- Where a block stored photos, each replica is left with room for the mark at its end.
use Rattle.std.proofs.Common.{◌≡◌, ◌⊎◌, inl, inr, ℕ, zero, suc, ◌<◌, ◌≤◌, ◌+◌, cond, List, [], ◌++◌, length, slice_get, sum_by, count_by, Some, None, refl, sym, ap, subst, ◌∙◌}
use Rattle.std.proofs.Common.{arith, append_assoc, append-nil}
use Rattle.std.proofs.lemmas.List.Sums.{sum_by-append}
use Rattle.std.proofs.lemmas.Option.{slice_get_cases}
use Rattle.hay_needle.specs.declared.needle.Pair.{Pair}
use Rattle.hay_needle.specs.declared.needle.Cookie.{Cookie}
use Rattle.hay_needle.specs.declared.settings.Settings.{Settings}
use Rattle.hay_needle.specs.Sizes.{needle_total}
use Rattle.hay_script.specs.declared.Command.TheVariants as command
use Rattle.hay_core.specs.declared.entry.Entry.TheVariants as entry
use Rattle.hay_core.specs.declared.entry.CoreTag.{CoreTag}
use Rattle.hay_core.specs.declared.entry.Logged.{Logged}
use Rattle.hay_legal.specs.declared.known.Known.{Known}
use Rattle.hay_legal.specs.declared.known.ReplicaKnown.{ReplicaKnown}
use Rattle.hay_legal.specs.declared.known.VolumeKnown.{VolumeKnown}
use Rattle.hay_legal.specs.declared.turn.Item.{Item}
use Rattle.hay_legal.specs.declared.turn.Item.TheVariants as asks
use Rattle.hay_legal.specs.declared.turn.LaneItem.{LaneItem}
use Rattle.hay_legal.specs.Known.{replica_at, volume_at}
use Rattle.hay_legal.specs.Blocks.{entry_of_item, is_put, new_entries, put_total}
use Rattle.hay_history.specs.LaneSteps.{Did, Leads, Standing, Step}
use Rattle.hay_history.specs.LaneSteps.Did.{Entered}
use Rattle.hay_history.specs.Histories.{Course, History, behind, first_of, refusal_then}
use Rattle.hay_history.specs.Commands.{CameInLanes}
use Rattle.hay_history.proofs.Changes.{leads_extends, log_by}
use Rattle.hay_history.proofs.Flags.{replica_is}
use Rattle.hay_history.proofs.Freezing.{of_line}
use Rattle.hay_history.proofs.Histories.{behind_step, leads_at}
use Rattle.hay_history.proofs.Lines.{course_of}
use Rattle.hay_history.proofs.Own.{Saw, SawTaken}
use Rattle.hay_history.proofs.Doings.{StepBy}
use Rattle.hay_history.proofs.Volumes.{end_by, new_entries_at, room_then}

-- what a step that is a put entered, and what any other enters
put_or_none : (tag : CoreTag) (did : Did)
    → ((pair : Pair) × (cookie : Cookie) × (bytes : List ℕ) × (did ≡ Entered (entry.Put pair cookie bytes)))
    ⊎ ((count_by is_put (log_by tag did) ≡ 0) × (sum_by put_total (log_by tag did) ≡ 0))
put_or_none tag (Entered (entry.Put pair cookie bytes)) = inl (pair, cookie, bytes, refl)
put_or_none tag (Entered (entry.Del pair)) = inr (refl, refl)
put_or_none tag _ = inr (refl, refl)

-- a put that was taken had room for its photo
room_taken : (c : Course) (item : Item) (v n : ℕ) (pair : Pair) (cookie : Cookie) (bytes : List ℕ) → entry_of_item c.settings item ≡ Some (entry.Put pair cookie bytes)
    → SawTaken c item v n → refusal_then c v n (length bytes) ≡ None
room_taken c (asks.Command (command.Put other photo)) v n pair cookie bytes is saw =
    let same : photo ≡ bytes = cc in
    subst (λ (b : List ℕ). refusal_then c v n (length b) ≡ None) same saw.1
room_taken c (asks.Command (command.Del other)) v n pair cookie bytes is saw = absurd cc
room_taken c _ v n pair cookie bytes is saw = absurd saw

module _ {settings : Settings} {k : Known} {items : List LaneItem} {history : History} {t : Known} (h : CameInLanes settings k items history t)
    (v j : ℕ) (below : v < settings.volumes) (within : j < settings.replicas) where
  abbrev then : ℕ → Standing
  then n = behind (first_of settings k v) (history.volumes v) n

  -- nothing was put until then, or the replica has room for the mark
  abbrev HasRoom : Standing → Type 0
  HasRoom a =
      ((more : List Logged) × ((a.volume).log ≡ (volume_at k v).log ++ more) × (count_by is_put more ≡ 0))
      ⊎ ((replica_at a.volume j).end + 8 ≤ settings.capacity)

  room_step : (n : ℕ) (s : Step) → slice_get (history.volumes v) n ≡ Some s → HasRoom (then n) → HasRoom s.after
  room_step n s at before = elim (put_or_none s.tag s.did) [
    | inl put ↦
        let line = of_line h v n s below at in
        let bytes : List ℕ = put.2 in
        let is : s.did ≡ Entered (entry.Put put.0 put.1 bytes) = put.3 in
        let entered = subst (λ (d : Did). StepBy (course_of h line.item) v line.item n d) is line.by in
        let saw = subst (λ (d : Did). Saw (course_of h line.item) (line.item).item v n d) is line.saw in
        let room = room_then h v n (length bytes) j below within (room_taken (course_of h line.item) (line.item).item v n put.0 put.1 bytes (entered.0).0 saw) in
        let total : sum_by put_total (log_by s.tag s.did) ≡ 0 + needle_total (length bytes) = ap (λ (d : Did). sum_by put_total (log_by s.tag d)) is in
        inr (omega (arith, end, room, total))
    | inr none ↦ elim before [
      | inl still ↦ inl (
        still.0 ++ log_by s.tag s.did,
        (leads_extends settings v s.tag s.did (then n) s.after leads).log ∙ ap (λ (log : List Logged). log ++ log_by s.tag s.did) still.1
            ∙ append_assoc (volume_at k v).log still.0 (log_by s.tag s.did),
        omega (arith, still.2, none.0, sum_by-append (λ (l : Logged). cond (is_put l) 1 0) still.0 (log_by s.tag s.did)),
      )
      | inr room ↦ inr (omega (arith, end, room, none.1))
    ]
  ]
    where
      leads : Leads settings v s.tag s.did (then n) s.after
      leads = (leads_at settings v (first_of settings k v) (history.volumes v) n s (h.follows v below) at).0

      end : (replica_at (s.after).volume j).end ≤ (replica_at (then n).volume j).end + sum_by put_total (log_by s.tag s.did)
      end = end_by settings v s.tag s.did (then n) s.after j leads

  has_room : (n : ℕ) → n ≤ length (history.volumes v) → HasRoom (then n)
  has_room zero le = inl ([], sym (append-nil (volume_at k v).log), refl)
  has_room (suc n) le = elim (slice_get_cases (history.volumes v) n).1 [
    | inl some ↦
        let one : n + 1 ≡ suc n = omega arith in
        subst (λ (m : ℕ). HasRoom (then m)) one
        (subst HasRoom (sym (behind_step (first_of settings k v) (history.volumes v) n some.0 some.2)) (room_step n some.0 some.2 (has_room n (omega (arith, le)))))
    | inr past ↦ absurd (omega (arith, le, past.0))
  ]

  pub room_legal : (count_by is_put (new_entries k t v) ≡ 0) ⊎ ((replica_at (volume_at t v) j).end + 8 ≤ settings.capacity)
  room_legal = elim (has_room (length (history.volumes v)) (omega arith)) [
    | inl none ↦ inl (ap (count_by is_put) (new_entries_at k t v none.0 (ap (λ (volume : VolumeKnown). volume.log) is_last ∙ none.1)) ∙ none.2)
    | inr room ↦ inr (omega (arith, room, ap (λ (r : ReplicaKnown). r.end) (replica_is j is_last)))
  ]
    where
      is_last : volume_at t v ≡ (then (length (history.volumes v))).volume
      is_last = (h.volumes v below).volume
