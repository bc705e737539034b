-- Behind each command the places of photos that are seen lie within the cells of their replicas, as they did before it.
use Rattle.std.proofs.Common.{◌≡◌, ◌≢◌, ◌≤◌, ℕ, Bool, true, false, List, length, map, Option, Some, None, inl, inr, refl, sym, ap, subst, ◌∙◌, arith}
use Rattle.std.specs.Prelude.{slice_set}
use Rattle.std.proofs.lemmas.Bool.{cases_eq}
use Rattle.std.proofs.lemmas.Option.{same_Some}
use Rattle.hay_needle.specs.declared.needle.Pair.{Pair}
use Rattle.hay_needle.specs.declared.settings.Settings.{Settings}
use Rattle.hay_core.specs.declared.entry.CoreTag.{CoreTag}
use Rattle.hay_script.specs.declared.Command.{Command}
use Rattle.hay_script.specs.declared.Command.TheVariants as asks
use Rattle.hay_reply.specs.declared.Reply.{Reply}
use Rattle.hay_reply.specs.declared.Reply.TheVariants as reply
use Rattle.hay_legal.specs.Known.{machine_of, replica_on}
use Rattle.hay_logical.specs.declared.fault.LogicalFault.{LogicalFault}
use Rattle.hay_logical.specs.declared.fault.LogicalFault.TheVariants as refusal
use Rattle.hay_logical.specs.declared.unsure.Change.TheVariants.{Delete, Put}
use Rattle.hay_logical.specs.declared.unsure.Unsure.{Unsure}
use Rattle.hay_logical.specs.Fits.{At}
use Rattle.hay_logical.specs.Seen.{AreLonger, BeginRefusedSeen, BeginsTo, BreaksPutSeen, ChangesAt, CompactRefusedSeen, CompactsTo, DeleteSeen, DeletesSeen, EndsAlone}
use Rattle.hay_logical.specs.Seen.{FinishRefusedSeen, FinishesTo, FlushRefusedSeen, FlushesTo, FreezesSeen, ReplicaSeen, StepRefusedSeen, StepsPartly, StepsTo, Sticks, SwapSeen}
use Rattle.hay_logical.specs.Seen.{VolumeSeen, grown}
use Rattle.hay_logical.specs.Sights.{AwaitsLook, AwaitsLookAt, DeletesSights, FindsNone, FindsPhoto, KeepsSights, LiesWithinEach, LooksAtPair, LooksInVain, Sights, StoresSights, SwapsSights}
use Rattle.hay_logical.proofs.Lists.{at_below, at_set_other, at_there}
use Rattle.hay_logical.proofs.Within.{within_erases, within_kept, within_longer, within_looks, within_stores, within_swaps}
use Rattle.hay_cluster.specs.Changes.{IsReadOnly}
use Rattle.hay_cluster.specs.declared.maintenance.Maintenance.{Maintenance}
use Rattle.hay_cluster.specs.declared.maintenance.Maintenance.TheVariants.{Flush, Begin, Step, Finish, Compact}
use Rattle.hay_cluster.specs.Maintenance.{IsRefusedAs, done_as}
use Rattle.hay_cluster.specs.Seen.{Answers, AnswersDelete, AnswersDrain, AnswersPut, AnswersWork, GetsHome, MovesVolume, PlacesLie, StoreSeen, VolumeLies, WorkRefusedSeen, WorkSeen, home_seen}
use Rattle.hay_cluster.specs.Sights.{ChangesPhotos, DeleteSights, KeepsPhotos, LeavesSights, LooksAtHome, PutSights, ReadSights, Told, WorkSights, told_by}
use Rattle.hay_cluster.specs.Sights.Told.{Missing, Nothing, Shown, Unreadable, Wanting}
use Rattle.hay_cluster.proofs.Lists.{length-set, slice_get-set}
use Rattle.hay_cluster.proofs.Sighting.{at_mapped}

-- ONE VOLUME

-- it has as many replicas, and the cells of none end earlier
abbrev IsLonger : VolumeSeen → VolumeSeen → Type 0
IsLonger old new = (length new.replicas ≡ length old.replicas) × AreLonger old.replicas new.replicas

same_replica : (xs : List ReplicaSeen) (j : ℕ) (r r' : ReplicaSeen) → At xs j r → At xs j r' → r.end ≤ r'.end
same_replica xs j r r' at at' = let same : r ≡ r' = same_Some r r' (sym at ∙ at') in let e = ap (λ (x : ReplicaSeen). x.end) same in omega (arith, e)

same_longer : (old new : VolumeSeen) → new ≡ old → IsLonger old new
same_longer old new same =
    subst (λ (w : VolumeSeen). IsLonger old w) (sym same) (refl, λ j r r' at at'. same_replica old.replicas j r r' at at')

freezes_longer : (m : ℕ) (pending : Option Unsure) (old new : VolumeSeen) → FreezesSeen m pending old new → IsLonger old new
freezes_longer m pending old new freezes = (freezes.many, freezes.longer)

changes_longer : (at : ℕ) (Becomes : ReplicaSeen → ReplicaSeen → Type 0) (old new : VolumeSeen) → ((r r' : ReplicaSeen) → Becomes r r' → r'.end ≡ r.end)
    → ChangesAt at Becomes old new → IsLonger old new
changes_longer at Becomes old new stays c =
    let replicas : new.replicas ≡ slice_set old.replicas at c.after = ap (λ (w : VolumeSeen). w.replicas) c.is in (
      ap (λ (xs : List ReplicaSeen). length xs) replicas ∙ length-set old.replicas at c.after,
      λ j r r' was now.
          let there : At (slice_set old.replicas at c.after) j r' = subst (λ (xs : List ReplicaSeen). At xs j r') replicas now in
          elim (cases_eq j at) [
            | inl here ↦
                let first : c.before ≡ r = same_Some c.before r (sym c.was ∙ subst (λ n. At old.replicas n r) here was) in
                let then : c.after ≡ r' = same_Some c.after r' (sym (slice_get-set old.replicas at c.before c.after c.was) ∙ subst (λ n. At (slice_set old.replicas at c.after) n r') here there) in
                let same : (c.after).end ≡ (c.before).end = stays c.before c.after c.becomes in
                let e = sym (ap (λ (x : ReplicaSeen). x.end) then) ∙ same ∙ ap (λ (x : ReplicaSeen). x.end) first in omega (arith, e)
            | inr apart ↦ same_replica old.replicas j r r' was (sym (at_set_other old.replicas j at c.after apart) ∙ there)
          ],
    )

ends_alone : (r r' : ReplicaSeen) → EndsAlone r r' → r'.end ≡ r.end
ends_alone r r' ends = ap (λ (x : ReplicaSeen). x.end) ends.1

longer_lies : (a b : Sights) (old new : VolumeSeen) → IsLonger old new → KeepsSights a b → VolumeLies a old → VolumeLies b new
longer_lies a b old new longer kept lies = record {
  from = λ j x there.
      let r = at_there old.replicas j (let low = at_below new.replicas j x there in let many = longer.0 in omega (arith, low, many)) in
      let far = longer.1 j r.0 x r.1 there in
      let low = lies.from j r.0 r.1 in
      omega (arith, far, low);
  within = within_longer b old.replicas new.replicas longer.0 longer.1 (within_kept a b old.replicas kept lies.within);
}

keeps_same : (a : Sights) → KeepsSights a a
keeps_same a pair j = refl

-- PUTS AND DELETES

puts_lies : (a b : Sights) (pair : Pair) (size position : ℕ) (old new : VolumeSeen) → new.replicas ≡ map (grown size) old.replicas → StoresSights pair old.replicas a b
    → VolumeLies a old → VolumeLies b new
puts_lies a b pair size position old new grows stores lies = record {
  from = λ j x there.
      let r = at_mapped (grown size) old.replicas j x (subst (λ (xs : List ReplicaSeen). At xs j x) grows there) in
      let e = ap (λ (y : ReplicaSeen). y.end) r.2 in
      let low = lies.from j r.0 r.1 in
      omega (arith, e, low);
  within = subst (λ (xs : List ReplicaSeen). LiesWithinEach b xs) (sym grows) (within_stores a b old.replicas pair size stores lies.from lies.within);
}

delete_ends : (r r' : ReplicaSeen) → DeleteSeen r r' → r'.end ≡ r.end
delete_ends r r' (inl same) = ap (λ (x : ReplicaSeen). x.end) same
delete_ends r r' (inr ends) = ends_alone r r' ends

deletes_lies : (a b : Sights) (pair : Pair) (replicas : ℕ) (old new : VolumeSeen) → DeletesSeen old new → DeletesSights pair replicas a b → VolumeLies a old → VolumeLies b new
deletes_lies a b pair replicas old new seen deletes lies =
    longer_lies b b old new (seen.count, λ j r r' at at'. let e = delete_ends r r' (seen.each j r r' at at') in omega (arith, e)) (keeps_same b) (record {
      from = lies.from;
      within = within_erases deletes.found b old.replicas pair deletes.erases (within_looks a deletes.found old.replicas pair ((deletes.finds).looks) lies.within);
    })

-- WORK

swaps_lies : (a b : Sights) (at : ℕ) (Becomes : ReplicaSeen → ReplicaSeen → Type 0) (old new : VolumeSeen) → ((r r' : ReplicaSeen) → Becomes r r' → 64 ≤ r'.end) → ChangesAt at Becomes old new
    → SwapsSights at new.replicas a b → VolumeLies a old → VolumeLies b new
swaps_lies a b at Becomes old new from c swaps lies =
    let replicas : new.replicas ≡ slice_set old.replicas at c.after = ap (λ (w : VolumeSeen). w.replicas) c.is in
    record {
      from = λ j x there.
          let set : At (slice_set old.replicas at c.after) j x = subst (λ (xs : List ReplicaSeen). At xs j x) replicas there in
          elim (cases_eq j at) [
            | inl here ↦
                let same : c.after ≡ x = same_Some c.after x (sym (slice_get-set old.replicas at c.before c.after c.was) ∙ subst (λ n. At (slice_set old.replicas at c.after) n x) here set) in
                subst (λ (y : ReplicaSeen). 64 ≤ y.end) same (from c.before c.after c.becomes)
            | inr apart ↦ lies.from j x (sym (at_set_other old.replicas j at c.after apart) ∙ set)
          ];
      within = subst (λ (xs : List ReplicaSeen). LiesWithinEach b xs) (sym replicas)
          (within_swaps a b old.replicas at c.after (subst (λ (xs : List ReplicaSeen). SwapsSights at xs a b) replicas swaps) lies.within);
    }

swap_from : (generation end : ℕ) (r r' : ReplicaSeen) → SwapSeen generation end r r' → 64 ≤ r'.end
swap_from generation end r r' swap = let e = ap (λ (x : ReplicaSeen). x.end) swap.is in let low = swap.from in omega (arith, e, low)

module _ (settings : Settings) (v at : ℕ) (old new : VolumeSeen) where
  flush_longer : (fault : LogicalFault) → FlushRefusedSeen settings v at old new fault → IsLonger old new
  flush_longer (refusal.ReadOnly m) (inl frozen) = same_longer old new frozen.0
  flush_longer (refusal.ReadOnly m) (inr stuck) = same_longer old new ((stuck.0).0).1
  flush_longer (refusal.Failed m faults) h = changes_longer at Sticks old new (λ r r' sticks. ap (λ (x : ReplicaSeen). x.end) sticks.1) h.2
  flush_longer refusal.NoMemory h = same_longer old new h.1
  flush_longer _ h = absurd h

  begin_longer : (fault : LogicalFault) → BeginRefusedSeen settings v at old new fault → IsLonger old new
  begin_longer (refusal.ReadOnly m) h = same_longer old new h.0
  begin_longer (refusal.Busy m goal) h = same_longer old new ((h.0).0).1
  begin_longer (refusal.Worn m) h = same_longer old new ((h.0).0).1
  begin_longer (refusal.Failed m faults) h = same_longer old new ((h.0).0).1
  begin_longer refusal.NoMemory h = same_longer old new (h.0).1
  begin_longer _ h = absurd h

  step_longer : (cells : ℕ) (fault : LogicalFault) → StepRefusedSeen settings v at cells old new fault → IsLonger old new
  step_longer cells (refusal.ReadOnly m) h = same_longer old new h.0
  step_longer cells refusal.Idle h = same_longer old new (h.0).1
  step_longer cells (refusal.Failed m faults) h = changes_longer at EndsAlone old new ends_alone h.2
  step_longer cells (refusal.Damaged m place) h = changes_longer at EndsAlone old new ends_alone (h.0).2
  step_longer cells refusal.NoMemory h = changes_longer at StepsPartly old new (λ r r' partly. ap (λ (x : ReplicaSeen). x.end) partly.1) h.1
  step_longer cells _ h = absurd h

  finish_longer : (fault : LogicalFault) → FinishRefusedSeen settings v at old new fault → IsLonger old new
  finish_longer (refusal.ReadOnly m) h = same_longer old new h.0
  finish_longer refusal.Idle h = same_longer old new (h.0).1
  finish_longer (refusal.Failed m faults) (inl ended) = changes_longer at EndsAlone old new ends_alone ended.2
  finish_longer (refusal.Failed m faults) (inr froze) = freezes_longer m old.unsure old new froze.2
  finish_longer (refusal.Damaged m place) h = changes_longer at EndsAlone old new ends_alone (h.0).2
  finish_longer refusal.NoMemory h = changes_longer at EndsAlone old new ends_alone h.1
  finish_longer _ h = absurd h

  compact_longer : (fault : LogicalFault) → CompactRefusedSeen settings v at old new fault → IsLonger old new
  compact_longer (refusal.ReadOnly m) h = same_longer old new h.0
  compact_longer (refusal.Busy m goal) h = same_longer old new ((h.0).0).1
  compact_longer (refusal.Worn m) h = same_longer old new ((h.0).0).1
  compact_longer (refusal.Failed m faults) (machine, begins, inl same) = same_longer old new same.1
  compact_longer (refusal.Failed m faults) (machine, begins, inr froze) = freezes_longer m old.unsure old new froze
  compact_longer (refusal.Damaged m place) h = same_longer old new ((h.0).0).1
  compact_longer refusal.NoMemory h = same_longer old new (h.0).1
  compact_longer _ h = absurd h

  refused_longer : (work : Maintenance) (fault : LogicalFault) → WorkRefusedSeen settings work v at fault old new → IsLonger old new
  refused_longer Flush fault h = flush_longer fault h
  refused_longer Begin fault h = begin_longer fault h
  refused_longer (Step cells) fault h = step_longer cells fault h
  refused_longer Finish fault h = finish_longer fault h
  refused_longer Compact fault h = compact_longer fault h

-- STORES

module _ (old new : StoreSeen) where
  -- the places of a volume still lie within its replicas
  abbrev Stay : Type 0
  Stay = (v : ℕ) (replicas : List ReplicaSeen) → LiesWithinEach (old.places v) replicas → LiesWithinEach (new.places v) replicas

  kept_stay : KeepsPhotos old new → Stay
  kept_stay kept v replicas lies = within_kept (old.places v) (new.places v) replicas (kept v) lies

  looks_stay : (u : ℕ) (pair : Pair) (Changes : Sights → Sights → Type 0) → ((a b : Sights) → Changes a b → LooksAtPair pair a b) → ChangesPhotos u Changes old new → Stay
  looks_stay u pair Changes looks c v replicas lies = elim (cases_eq v u) [
    | inl here ↦
        let changed : Changes (old.places v) (new.places v) = subst (λ n. Changes (old.places n) (new.places n)) (sym here) c.changes in
        within_looks (old.places v) (new.places v) replicas pair (looks (old.places v) (new.places v) changed) lies
    | inr apart ↦ within_kept (old.places v) (new.places v) replicas (c.others v apart) lies
  ]

  home_stay : (home : Option ℕ) (pair : Pair) → LooksAtHome home pair old new → Stay
  home_stay None pair kept = kept_stay kept
  home_stay (Some u) pair c = looks_stay u pair (LooksAtPair pair) (λ a b looks. looks) c

  still_lies : new.volumes ≡ old.volumes → Stay → PlacesLie old → PlacesLie new
  still_lies same stay lie v volume at =
      let lies = lie v volume (subst (λ (vs : List VolumeSeen). At vs v volume) same at) in
      record { from = lies.from; within = stay v volume.replicas lies.within }

  moved_lies : (u : ℕ) (before after : VolumeSeen) → At old.volumes u before → new.volumes ≡ slice_set old.volumes u after → ((w : ℕ) → w ≢ u → KeepsSights (old.places w) (new.places w))
      → (VolumeLies (old.places u) before → VolumeLies (new.places u) after) → PlacesLie old → PlacesLie new
  moved_lies u before after was set others on lie v volume at =
      let there : At (slice_set old.volumes u after) v volume = subst (λ (vs : List VolumeSeen). At vs v volume) set at in
      elim (cases_eq v u) [
        | inl here ↦
            let same : after ≡ volume = same_Some after volume (sym (slice_get-set old.volumes u before after was) ∙ subst (λ n. At (slice_set old.volumes u after) n volume) here there) in
            subst (λ n. VolumeLies (new.places n) volume) (sym here) (subst (λ (w : VolumeSeen). VolumeLies (new.places u) w) same (on (lie u before was)))
        | inr apart ↦
            let lies = lie v volume (sym (at_set_other old.volumes v u after apart) ∙ there) in
            record { from = lies.from; within = within_kept (old.places v) (new.places v) volume.replicas (others v apart) lies.within }
      ]

  -- one volume moved so that no end came nearer, and looks were all that changed of the photos
  longer_moved : (u : ℕ) (Moves : VolumeSeen → VolumeSeen → Type 0) → ((a b : VolumeSeen) → Moves a b → IsLonger a b) → (mid : StoreSeen) → mid.volumes ≡ old.volumes
      → MovesVolume u Moves mid new → Stay
      → PlacesLie old → PlacesLie new
  longer_moved u Moves longer mid same moved stay lie v volume at =
      let was : At old.volumes u moved.before = subst (λ (vs : List VolumeSeen). At vs u moved.before) same moved.was in
      let set : new.volumes ≡ slice_set old.volumes u moved.after = moved.volumes ∙ ap (λ (vs : List VolumeSeen). slice_set vs u moved.after) same in
      let there : At (slice_set old.volumes u moved.after) v volume = subst (λ (vs : List VolumeSeen). At vs v volume) set at in
      elim (cases_eq v u) [
        | inl here ↦
            let after : moved.after ≡ volume =
            same_Some moved.after volume (sym (slice_get-set old.volumes u moved.before moved.after was) ∙ subst (λ n. At (slice_set old.volumes u moved.after) n volume) here there) in
            let lies : VolumeLies (old.places u) moved.before = lie u moved.before was in
            let stays : VolumeLies (new.places u) moved.before = record { from = lies.from; within = stay u (moved.before).replicas lies.within } in
            subst (λ n. VolumeLies (new.places n) volume) (sym here)
            (subst (λ (w : VolumeSeen). VolumeLies (new.places u) w) after
            (longer_lies (new.places u) (new.places u) moved.before moved.after (longer moved.before moved.after moved.moves) (keeps_same (new.places u)) stays))
        | inr apart ↦
            let lies = lie v volume (sym (at_set_other old.volumes v u moved.after apart) ∙ there) in
            record { from = lies.from; within = stay v volume.replicas lies.within }
      ]

gets_volumes : (settings : Settings) (pair : Pair) (size v : ℕ) (old mid : StoreSeen) → GetsHome settings pair size v old mid → mid.volumes ≡ old.volumes
gets_volumes settings pair size v old mid (inl (home, takes, keeps)) = keeps.volumes
gets_volumes settings pair size v old mid (inr (taker, moves)) = moves.volumes

breaks_longer : (tag : CoreTag) (m : ℕ) (a b : VolumeSeen) → BreaksPutSeen tag m a b → IsLonger a b
breaks_longer tag m a b breaks = freezes_longer m (Some (record { tag = tag; change = Put breaks.ends })) a b breaks.freezes

-- COMMANDS

module _ (settings : Settings) (tag : CoreTag) (old new : StoreSeen) where
  put_lies : (pair : Pair) (size : ℕ) (said : Reply) → AnswersPut settings tag pair size said old new → PutSights settings pair (told_by said) old new → PlacesLie old → PlacesLie new
  put_lies pair size (reply.Stored v p d c) ((mid, gets, moved), rows) (volume, at, changes) lie =
      let same = gets_volumes settings pair size v old mid gets in
      let was : At old.volumes v moved.before = subst (λ (vs : List VolumeSeen). At vs v moved.before) same moved.was in
      let one : volume ≡ moved.before = same_Some volume moved.before (sym at ∙ was) in
      let stores : StoresSights pair (moved.before).replicas (old.places v) (new.places v) =
      subst (λ (w : VolumeSeen). StoresSights pair w.replicas (old.places v) (new.places v)) one changes.changes in
      let grows = ap (λ (w : VolumeSeen). w.replicas) (moved.moves).2 in
      moved_lies old new v moved.before moved.after was (moved.volumes ∙ ap (λ (vs : List VolumeSeen). slice_set vs v moved.after) same) changes.others
      (puts_lies (old.places v) (new.places v) pair size p moved.before moved.after grows stores) lie
  put_lies pair size (reply.Failed v m n) (mid, gets, moved) kept lie =
      longer_moved old new v (BreaksPutSeen tag m) (breaks_longer tag m) mid (gets_volumes settings pair size v old mid gets) moved (kept_stay old new kept) lie
  put_lies pair size reply.NoMem (inl keeps) kept lie = still_lies old new keeps.volumes (kept_stay old new kept) lie
  put_lies pair size reply.NoMem (inr (v, mid, gets, inl keeps)) kept lie =
      still_lies old new (keeps.volumes ∙ gets_volumes settings pair size v old mid gets) (kept_stay old new kept) lie
  put_lies pair size reply.NoMem (inr (v, mid, gets, inr moved)) kept lie =
      longer_moved old new v (BreaksPutSeen tag (machine_of settings v 0)) (breaks_longer tag (machine_of settings v 0)) mid (gets_volumes settings pair size v old mid gets) moved
      (kept_stay old new kept) lie
  put_lies pair size (reply.Full tries) answers kept lie = still_lies old new (answers.0).volumes (kept_stay old new kept) lie
  put_lies pair size (reply.ReadOnly tries) answers kept lie = still_lies old new (answers.0).volumes (kept_stay old new kept) lie
  put_lies pair size reply.ReadOnlyDir answers kept lie = still_lies old new (answers.2).volumes (kept_stay old new kept) lie
  put_lies pair size (reply.FailedDir n) answers kept lie = still_lies old new (answers.2).volumes (kept_stay old new kept) lie
  put_lies pair size _ answers sights lie = absurd answers

  delete_lies : (pair : Pair) (said : Reply) → AnswersDelete settings tag pair said old new → DeleteSights settings pair (told_by said) old new → PlacesLie old → PlacesLie new
  delete_lies pair (reply.Unknown d) answers kept lie = still_lies old new (answers.0).volumes (kept_stay old new kept) lie
  delete_lies pair (reply.ReadOnly tries) answers kept lie = still_lies old new (answers.0).volumes (kept_stay old new kept) lie
  delete_lies pair (reply.Deleted v p d) (opened, moved, rows) changes lie =
      moved_lies old new v moved.before moved.after moved.was moved.volumes changes.others
      (deletes_lies (old.places v) (new.places v) pair settings.replicas moved.before moved.after (moved.moves).2 changes.changes) lie
  delete_lies pair (reply.Absent v f d) answers changes lie =
      still_lies old new (answers.1).volumes (looks_stay old new v pair (FindsNone pair settings.replicas) (λ a b finds. finds.looks) changes) lie
  delete_lies pair (reply.Failed v m n) (opened, how) sights lie =
      let pending : Option Unsure = Some (record { tag = tag; change = Delete pair }) in
      let stay : Stay old new = elim sights [
        | inl found ↦ looks_stay old new v pair (FindsPhoto pair settings.replicas) (λ a b finds. finds.looks) found.1
        | inr vain ↦ looks_stay old new v pair (LooksInVain settings v pair m AwaitsLook) (λ a b in_vain. in_vain.looks) vain.1
      ] in
      elim how [
        | inl keeps ↦ still_lies old new keeps.volumes stay lie
        | inr moved ↦ longer_moved old new v (FreezesSeen m pending) (freezes_longer m pending) old refl moved stay lie
      ]
  delete_lies pair (reply.Damaged v m at) answers changes lie =
      still_lies old new (answers.1).volumes (looks_stay old new v pair (LooksInVain settings v pair m (AwaitsLookAt at)) (λ a b in_vain. in_vain.looks) changes) lie
  delete_lies pair reply.NoMem keeps home lie = still_lies old new keeps.volumes (home_stay old new (home_seen old pair) pair home) lie
  delete_lies pair _ answers sights lie = absurd answers

  read_stay : (pair : Pair) (told : Told) → ReadSights settings pair told old new → Stay old new
  read_stay pair (Shown v m) c = looks_stay old new v pair (LooksAtPair pair) (λ a b looks. looks) c.0
  read_stay pair (Missing v m) c = looks_stay old new v pair (LooksAtPair pair) (λ a b looks. looks) c.0
  read_stay pair (Unreadable v causes) c = looks_stay old new v pair (LooksAtPair pair) (λ a b looks. looks) c
  read_stay pair Wanting home = home_stay old new (home_seen old pair) pair home
  read_stay pair Nothing kept = kept_stay old new kept
  read_stay pair _ none = absurd none

  read_only_kept : (v by : ℕ) (said : Reply) → IsReadOnly v by said → WorkSights settings (told_by said) old new → KeepsPhotos old new
  read_only_kept v by said (inl closed) sights = subst (λ (r : Reply). WorkSights settings (told_by r) old new) closed sights
  read_only_kept v by said (inr none) sights = subst (λ (r : Reply). WorkSights settings (told_by r) old new) none sights

  refused_kept : (v m : ℕ) (fault : LogicalFault) (said : Reply) → IsRefusedAs v m fault said → WorkSights settings (told_by said) old new → KeepsPhotos old new
  refused_kept v m (refusal.ReadOnly by) said told sights = read_only_kept v by said told sights
  refused_kept v m (refusal.Failed by f) said told sights = subst (λ (r : Reply). WorkSights settings (told_by r) old new) told sights
  refused_kept v m (refusal.Busy by goal) said told sights = subst (λ (r : Reply). WorkSights settings (told_by r) old new) told sights
  refused_kept v m (refusal.Worn by) said told sights = subst (λ (r : Reply). WorkSights settings (told_by r) old new) told sights
  refused_kept v m refusal.Idle said told sights = subst (λ (r : Reply). WorkSights settings (told_by r) old new) told sights
  refused_kept v m (refusal.Damaged by place) said told sights = subst (λ (r : Reply). WorkSights settings (told_by r) old new) told sights
  refused_kept v m refusal.NoMemory said told sights = subst (λ (r : Reply). WorkSights settings (told_by r) old new) told sights
  refused_kept v m _ said told sights = absurd told

  done_swaps : (v m at number : ℕ) → replica_on settings v m ≡ Some at → (moved : VolumeSeen) → At new.volumes v moved → (generation : ℕ)
      → WorkSights settings (told_by (reply.Compacted v m generation)) old new
      → ChangesPhotos v (SwapsSights at moved.replicas) old new
  done_swaps v m at number there moved is generation (at', there', (volume, now, changes)) =
      let one : at' ≡ at = same_Some at' at (sym there' ∙ there) in
      let two : volume ≡ moved = same_Some volume moved (sym now ∙ is) in
      subst (λ n. ChangesPhotos v (SwapsSights n moved.replicas) old new) one (subst (λ (w : VolumeSeen). ChangesPhotos v (SwapsSights at' w.replicas) old new) two changes)

  done_lies : (v m at number : ℕ) (work : Maintenance) (said : Reply) → replica_on settings v m ≡ Some at → said ≡ done_as v m work number → MovesVolume v (WorkSeen work at number) old new
      → WorkSights settings (told_by said) old new → PlacesLie old → PlacesLie new
  done_lies v m at number Flush said there is moved sights lie =
      let kept : KeepsPhotos old new = subst (λ (r : Reply). WorkSights settings (told_by r) old new) is sights in
      longer_moved old new v (WorkSeen Flush at number) (λ a b done. changes_longer at (FlushesTo number) a b (λ r r' flushes. ap (λ (x : ReplicaSeen). x.end) flushes.2) done.1)
      old refl moved (kept_stay old new kept) lie
  done_lies v m at number Begin said there is moved sights lie =
      let kept : KeepsPhotos old new = subst (λ (r : Reply). WorkSights settings (told_by r) old new) is sights in
      longer_moved old new v (WorkSeen Begin at number) (λ a b done. changes_longer at (BeginsTo number) a b (λ r r' begins. ap (λ (x : ReplicaSeen). x.end) begins.2) done.1) old
      refl moved (kept_stay old new kept) lie
  done_lies v m at number (Step cells) said there is moved sights lie =
      let kept : KeepsPhotos old new = subst (λ (r : Reply). WorkSights settings (told_by r) old new) is sights in
      longer_moved old new v (WorkSeen (Step cells) at number) (λ a b done. changes_longer at (StepsTo cells number) a b (λ r r' steps. ap (λ (x : ReplicaSeen). x.end) steps.only)
      done.1) old refl moved (kept_stay old new kept) lie
  done_lies v m at number Finish said there is moved sights lie =
      let now : At new.volumes v moved.after = subst (λ (vs : List VolumeSeen). At vs v moved.after) (sym moved.volumes) (slice_get-set old.volumes v moved.before moved.after moved.was) in
      let swaps = done_swaps v m at number there moved.after now number (subst (λ (r : Reply). WorkSights settings (told_by r) old new) is sights) in
      let done = moved.moves in
      moved_lies old new v moved.before moved.after moved.was moved.volumes swaps.others
      (swaps_lies (old.places v) (new.places v) at (FinishesTo number done.0) moved.before moved.after (λ r r' finishes. swap_from number done.0 r r' finishes.1) (done.1).1 swaps.changes) lie
  done_lies v m at number Compact said there is moved sights lie =
      let now : At new.volumes v moved.after = subst (λ (vs : List VolumeSeen). At vs v moved.after) (sym moved.volumes) (slice_get-set old.volumes v moved.before moved.after moved.was) in
      let swaps = done_swaps v m at number there moved.after now number (subst (λ (r : Reply). WorkSights settings (told_by r) old new) is sights) in
      let done = moved.moves in
      moved_lies old new v moved.before moved.after moved.was moved.volumes swaps.others
      (swaps_lies (old.places v) (new.places v) at (CompactsTo number done.0) moved.before moved.after (λ r r' compacts. swap_from number done.0 r r' compacts.1) (done.1).1 swaps.changes) lie

  work_lies : (work : Maintenance) (v m : ℕ) (said : Reply) → AnswersWork settings work v m said old new → WorkSights settings (told_by said) old new → PlacesLie old → PlacesLie new
  work_lies work v m said (inl (none, is, keeps)) sights lie =
      still_lies old new keeps.volumes (kept_stay old new (subst (λ (r : Reply). WorkSights settings (told_by r) old new) is sights)) lie
  work_lies work v m said (inr (inl (at, number, there, is, moved))) sights lie = done_lies v m at number work said there is moved sights lie
  work_lies work v m said (inr (inr (at, fault, there, told, moved))) sights lie =
      longer_moved old new v (WorkRefusedSeen settings work v at fault) (λ a b refused. refused_longer settings v at a b work fault refused) old refl moved
      (kept_stay old new (refused_kept v m fault said told sights)) lie

  drain_lies : (m : ℕ) (to : Bool) (done said : Reply) → AnswersDrain m to done said old new → KeepsPhotos old new → PlacesLie old → PlacesLie new
  drain_lies m to done said (inl (is, moves)) kept lie = still_lies old new moves.volumes (kept_stay old new kept) lie
  drain_lies m to done said (inr (is, keeps)) kept lie = still_lies old new keeps.volumes (kept_stay old new kept) lie

  -- so it is of each command
  pub places_lie : (command : Command) (said : Reply) → Answers settings tag command said old new → LeavesSights settings command said old new → PlacesLie old → PlacesLie new
  places_lie (asks.Put pair photo) said answers sights lie = put_lies pair (length photo) said answers sights lie
  places_lie (asks.Del pair) said answers sights lie = delete_lies pair said answers sights lie
  places_lie (asks.Read pair cookie) said answers sights lie = still_lies old new (answers.0).volumes (read_stay pair (told_by said) sights) lie
  places_lie (asks.Get url) said answers sights lie = still_lies old new (answers.0).volumes (read_stay url.pair (told_by said) sights) lie
  places_lie (asks.Url pair) said answers kept lie = still_lies old new (answers.0).volumes (kept_stay old new kept) lie
  places_lie (asks.Flush v m) said answers sights lie = work_lies Flush v m said answers sights lie
  places_lie (asks.Compact v m) said answers sights lie = work_lies Compact v m said answers sights lie
  places_lie (asks.Begin v m) said answers sights lie = work_lies Begin v m said answers sights lie
  places_lie (asks.Step v m cells) said answers sights lie = work_lies (Step cells) v m said answers sights lie
  places_lie (asks.Finish v m) said answers sights lie = work_lies Finish v m said answers sights lie
  places_lie (asks.Drain m) said answers kept lie = drain_lies m true (reply.Drained m) said answers kept lie
  places_lie (asks.Undrain m) said answers kept lie = drain_lies m false (reply.Undrained m) said answers kept lie
  places_lie (asks.Fuse v m calls) said answers kept lie = still_lies old new answers.volumes (kept_stay old new kept) lie
  places_lie (asks.FuseDir calls) said answers kept lie = still_lies old new answers.volumes (kept_stay old new kept) lie
  places_lie (asks.Restart pick) said answers sights lie = absurd answers
