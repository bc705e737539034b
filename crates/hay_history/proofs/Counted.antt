-- The counts of a disk that froze its volume, beside those that other lines print of it.
use Rattle.std.proofs.Common.{◌≡◌, ◌≢◌, ◌⊎◌, inl, inr, ℕ, ◌<◌, ◌≤◌, ◌+◌, ◌-◌, ◌^◌, true, List, [], ◌∷◌, Contains, Option, Some, None, refl, sym, ap, subst, ◌∙◌, arith}
use Rattle.std.specs.List.{AllByRecursion as Each, AllZip}
use Rattle.std.proofs.lemmas.Bool.{cases_eq, cases_lt}
use Rattle.std.proofs.lemmas.Option.{none-some, same_Some}
use Rattle.hay_needle.specs.declared.needle.Pair.{Pair}
use Rattle.hay_needle.specs.declared.settings.Settings.{Settings}
use Rattle.hay_url.specs.declared.Url.{Url as UrlParts}
use Rattle.hay_script.specs.declared.Command.TheVariants as command
use Rattle.hay_reply.specs.declared.Cause.TheVariants.{Disk}
use Rattle.hay_reply.specs.declared.Passed.{Passed}
use Rattle.hay_reply.specs.declared.Reply.{Reply}
use Rattle.hay_reply.specs.declared.Reply.TheVariants as reply
use Rattle.hay_core.specs.declared.entry.Entry.TheVariants as entry
use Rattle.hay_legal.specs.declared.known.Known.{Known}
use Rattle.hay_legal.specs.declared.known.VolumeKnown.{VolumeKnown}
use Rattle.hay_legal.specs.declared.turn.Item.{Item}
use Rattle.hay_legal.specs.declared.turn.Item.TheVariants as asks
use Rattle.hay_legal.specs.declared.turn.LaneItem.{LaneItem}
use Rattle.hay_legal.specs.Known.{drained_of, machine_of, replica_on}
use Rattle.hay_legal.specs.Plain.{order_from, put_entry, start_of}
use Rattle.hay_legal.specs.Blocks.{CountedBeside, FreezesLast, told, tag_of}
use Rattle.hay_legal.specs.Blocks.Told.{Blamed}
use Rattle.hay_legal.proofs.Subject.Effects.{each_append}
use Rattle.hay_history.specs.LaneSteps.{Did, IsThawed, Leads, Standing, Step}
use Rattle.hay_history.specs.LaneSteps.Did.{Ends, Pends, Poises, Sticks}
use Rattle.hay_history.specs.Histories.{Course, History, changes, changes_it, own, standing, volume_then}
use Rattle.hay_history.specs.Commands.{CameInLanes, CompactDid, CompactFailed, DelDid, FlushDid, GetDid, IsLast, ItemDid, LookFailed, PassedFor, PutDid, Ran, RanAs, RoseIn}
use Rattle.hay_history.proofs.Charges.{count_grows, one_line}
use Rattle.hay_history.proofs.Laying.{last_step}
use Rattle.hay_history.proofs.Lines.{answered, course_of, own_leads}
use Rattle.hay_history.proofs.Lists.{each_from, each_in, each_kept, each_weaker, first_or_rest, in_rest, is_first, none_in}
use Rattle.hay_history.proofs.Meeting.{FrostSeen, FrozeAt, SawFrozen, SawThawed, thawed_of}
use Rattle.hay_history.proofs.Placing.{on_machine, order_within, same_machine}
use Rattle.hay_history.proofs.Tallies.{grows_to}
use Rattle.hay_history.proofs.Trying.{one_own, tried_or_changed}
use Rattle.hay_history.proofs.Volumes.{frozen_stays, moment, thawed_by, volume_at_moment}

-- LISTS

-- what stands in the second list stands beside something of the first
zip_beside : {A B : Type 0} (R : A → B → Type 0) (xs : List A) (ys : List B) (y : B) → AllZip R xs ys → Contains ys y → (x : A) × Contains xs x × R x y
zip_beside R [] [] y zip at = absurd (none_in y at)
zip_beside R (x ∷ xs) [] y zip at = absurd zip
zip_beside R [] (z ∷ ys) y zip at = absurd zip
zip_beside R (x ∷ xs) (z ∷ ys) y zip at = elim (first_or_rest z ys y at) [
  | inl same ↦ (x, is_first x xs, subst (R x) same zip.0)
  | inr rest ↦ let found = zip_beside R xs ys y zip.1 rest in (found.0, in_rest x xs found.0 found.1, found.2)
]

-- only `failed` blames a disk
blamed_is : (r : Reply) (v m f : ℕ) → told r ≡ Blamed v m f → r ≡ reply.Failed v m f
blamed_is (reply.Failed v' m' f') v m f says =
    let volume : v' ≡ v = cc in
    let machine : m' ≡ m = cc in
    let count : f' ≡ f = cc in
    cc
blamed_is _ v m f says = absurd cc

-- WHAT FAILED

-- A call of the disk of the replica on m failed in a step on an open volume, and its count rose to f. The line changed nothing there
-- behind it. The step is the line's own, or it leaves the volume open.
pub record FailedAt (c : Course) (v m f : ℕ) : Type 0 where
  pub j : ℕ
  pub there : replica_on c.settings v m ≡ Some j
  pub place : ℕ
  pub rose : RoseIn c v place j f
  pub thawed : (volume_then c v place).frozen ≡ None
  pub last : Each (λ at. at.0 ≤ place) (changes c v)
  pub whose : ((step : Step) × Contains (own c v) (place, step)) ⊎ ((volume_then c v (place + 1)).frozen ≡ None)

last_change : (c : Course) (v place : ℕ) → IsLast c v place → Each (λ at. at.0 ≤ place) (changes c v)
last_change c v place last = each_kept (λ (at : ℕ × Step). at.0 ≤ place) (λ at. changes_it (at.1).did) (own c v) last

failed_named : (c : Course) (v m v' m' f : ℕ) → (v' ≡ v) × (m' ≡ m) → FailedAt c v m f → FailedAt c v' m' f
failed_named c v m v' m' f names x = subst (λ (w : ℕ). FailedAt c w m' f) (sym names.0) (subst (λ (n : ℕ). FailedAt c v n f) (sym names.1) x)

module _ {settings : Settings} {k : Known} {items : List LaneItem} {history : History} {t : Known} (h : CameInLanes settings k items history t) (item : LaneItem)
    (among : Contains items item) where
  -- a step of the line that finds its volume thawed
  own_thawed : (v place : ℕ) (step : Step) (did : Did) → v < settings.volumes → Contains (own (course_of h item) v) (place, step) → step.did ≡ did
      → ((a b : Standing) → Leads settings v (tag_of item) did a b → IsThawed a) → (volume_then (course_of h item) v place).frozen ≡ None
  own_thawed v place step did below mine is thaws =
      thaws (standing (course_of h item) v place) (standing (course_of h item) v (place + 1))
      (subst (λ (d : Did). Leads settings v (tag_of item) d (standing (course_of h item) v place) (standing (course_of h item) v (place + 1))) is
      (own_leads h item v below among (place, step) mine).0)

  put_failed : (pair : Pair) (bytes : List ℕ) (v m f : ℕ) → PutDid (course_of h item) pair bytes (reply.Failed v m f) → FailedAt (course_of h item) v m f
  put_failed pair bytes v m f did =
      let c = course_of h item in
      let step = did.step in
      let mine = one_own c v (Pends m (put_entry settings pair bytes) true) step in
      record {
        j = (did.failed).0;
        there = (did.failed).1;
        place = step.place;
        rose = (did.failed).2;
        thawed = own_thawed v step.place step.step (Pends m (put_entry settings pair bytes) true) did.below mine step.is (λ a b leads. leads.0);
        last = last_change c v step.place (did.failed).3;
        whose = inl (step.step, mine);
      }

  del_failed : (pair : Pair) (v m f : ℕ) → DelDid (course_of h item) pair (reply.Failed v m f) → FailedAt (course_of h item) v m f
  del_failed pair v m f did = elim did.which [
    | inl try ↦
        let failed = (try.1).1 in
        record {
          j = failed.0;
          there = failed.1;
          place = (try.0).place;
          rose = failed.2;
          thawed = (thawed_of (volume_then (course_of h item) v (try.0).place).frozen (drained_of settings k v) (try.1).0).0;
          last = last_change (course_of h item) v (try.0).place failed.3;
          whose = inl ((try.0).step, (try.0).among);
        }
    | inr one ↦
        let failed = (one.1).1 in
        record {
          j = failed.0;
          there = failed.1;
          place = (one.0).place;
          rose = failed.2;
          thawed = (thawed_of (volume_then (course_of h item) v (one.0).place).frozen (drained_of settings k v) (one.1).0).0;
          last = last_change (course_of h item) v (one.0).place failed.3;
          whose = inl ((one.0).step, one_own (course_of h item) v (Pends m (entry.Del pair) true) one.0);
        }
  ]

  flush_failed : (u n : ℕ) (o : Option ℕ) (v m f : ℕ) → replica_on settings u n ≡ o → FlushDid (course_of h item) u n o (reply.Failed v m f) → FailedAt (course_of h item) v m f
  flush_failed u n None v m f there did = absurd did
  flush_failed u n (Some j) v m f there did =
      let c = course_of h item in
      let step = (did.1).step in
      let mine = one_own c u (Sticks j) step in
      failed_named c u n v m f did.0 (record {
        j = j;
        there = there;
        place = step.place;
        rose = (did.1).failed;
        thawed = own_thawed u step.place step.step (Sticks j) (on_machine settings u n j there).0 mine step.is (λ a b leads. leads.0);
        last = last_change c u step.place (did.1).last;
        whose = inl (step.step, mine);
      })

  -- a compaction that failed in its last step
  ran_failed : (u n j f : ℕ) (did : Did) → replica_on settings u n ≡ Some j → (to : RanAs (course_of h item) u j did) → RoseIn (course_of h item) u to.place j f
      → IsLast (course_of h item) u to.place → ((a b : Standing) → Leads settings u (tag_of item) did a b → IsThawed a) → FailedAt (course_of h item) u n f
  ran_failed u n j f did there to rose last thaws =
      let mine = last_step (course_of h item) u j did to in
      record {
        j = j;
        there = there;
        place = to.place;
        rose = rose;
        thawed = own_thawed u to.place to.step did (on_machine settings u n j there).0 mine to.is thaws;
        last = last_change (course_of h item) u to.place last;
        whose = inl (to.step, mine);
      }

  -- the steps of a compaction that another line ended stand before its end
  ran_before : (u j : ℕ) (ran : Ran (course_of h item) u j []) → Each (λ at. at.0 ≤ ran.until) (changes (course_of h item) u)
  ran_before u j ran =
      subst (Each (λ at. at.0 ≤ ran.until)) (sym ran.steps) (
        omega (arith, ran.behind_it),
        each_append (λ at. at.0 ≤ ran.until) ran.middle []
            (each_weaker (λ (at : ℕ × Step). at.0 < ran.until) (λ at. at.0 ≤ ran.until) (λ at less. omega (arith, less)) ran.middle ran.inside) tt,
      )

  compact_failed : (u n j f : ℕ) → replica_on settings u n ≡ Some j → CompactFailed (course_of h item) u n j f → FailedAt (course_of h item) u n f
  compact_failed u n j f there (inl began) =
      let try = began.step in
      record {
        j = j;
        there = there;
        place = try.place;
        rose = began.failed;
        thawed = began.thawed;
        last = last_change (course_of h item) u try.place began.last;
        whose = inl (try.step, try.among);
      }
  compact_failed u n j f there (inr (inl ends)) = ran_failed u n j f (Ends j) there ends.0 ends.1 ends.2 (λ a b leads. leads.0)
  compact_failed u n j f there (inr (inr (inl poises))) = ran_failed u n j f (Poises n j) there poises.0 poises.1 poises.2 (λ a b leads. leads.0)
  compact_failed u n j f there (inr (inr (inr until))) =
      let ran = until.ran in
      record {
        j = j;
        there = there;
        place = ran.until;
        rose = until.rose;
        thawed = thawed_by (volume_then (course_of h item) u ran.until).frozen (volume_then (course_of h item) u (ran.until + 1)).frozen
            (λ m. frozen_stays h u ran.until (ran.until + 1) m (on_machine settings u n j there).0 (omega arith)) until.thawed;
        last = ran_before u j ran;
        whose = inr until.thawed;
      }

  compact_on_failed : (u n : ℕ) (o : Option ℕ) (v m f : ℕ) → replica_on settings u n ≡ o → CompactDid (course_of h item) u n o (reply.Failed v m f)
      → FailedAt (course_of h item) v m f
  compact_on_failed u n None v m f there did = absurd did
  compact_on_failed u n (Some j) v m f there did = failed_named (course_of h item) u n v m f did.0 (compact_failed u n j f there did.1)

  no_get_failed : (url : UrlParts) (o : Option ℕ) (v m f : ℕ) → GetDid (course_of h item) url o (reply.Failed v m f) → ⊥
  no_get_failed url None v m f did = did
  no_get_failed url (Some start) v m f did = did.0

  item_failed : (it : Item) (v m f : ℕ) → ItemDid (course_of h item) it (reply.Failed v m f) → FailedAt (course_of h item) v m f
  item_failed (asks.Command (command.Put pair bytes)) v m f did = put_failed pair bytes v m f did
  item_failed (asks.Command (command.Del pair)) v m f did = del_failed pair v m f did
  item_failed (asks.Command (command.Flush u n)) v m f did = flush_failed u n (replica_on settings u n) v m f refl did
  item_failed (asks.Command (command.Compact u n)) v m f did = compact_on_failed u n (replica_on settings u n) v m f refl did
  item_failed (asks.Command (command.Get url)) v m f did = absurd (no_get_failed url (replica_on settings url.volume url.machine) v m f did)
  item_failed asks.Bad v m f did = let clash : reply.Failed v m f ≡ reply.BadLine = did.0 in absurd cc
  item_failed it v m f did = absurd did

  pub blamed_at : (v m f : ℕ) → told item.reply ≡ Blamed v m f → FailedAt (course_of h item) v m f
  blamed_at v m f says = item_failed item.item v m f (subst (ItemDid (course_of h item) item.item) (blamed_is item.reply v m f says) (answered h item among).did)

  -- WHAT A READER PASSED OVER

  abbrev Passes : ℕ → ℕ → List Passed → Type 0
  Passes start v causes =
      AllZip (λ j passed. (passed.machine ≡ machine_of settings v j) × PassedFor (course_of h item) v j passed.cause) (order_from settings start) causes

  get_passes : (url : UrlParts) (o : Option ℕ) (v p d : ℕ) (causes : List Passed) → GetDid (course_of h item) url o (reply.Unreadable v p d causes) → (start : ℕ) × Passes start v causes
  get_passes url None v p d causes did = absurd did
  get_passes url (Some start) v p d causes did = (start, (did.0).each)

  no_flush_unreadable : (u n : ℕ) (o : Option ℕ) (v p d : ℕ) (causes : List Passed) → FlushDid (course_of h item) u n o (reply.Unreadable v p d causes) → ⊥
  no_flush_unreadable u n None v p d causes did = did
  no_flush_unreadable u n (Some j) v p d causes did = did

  no_compact_unreadable : (u n : ℕ) (o : Option ℕ) (v p d : ℕ) (causes : List Passed) → CompactDid (course_of h item) u n o (reply.Unreadable v p d causes) → ⊥
  no_compact_unreadable u n None v p d causes did = did
  no_compact_unreadable u n (Some j) v p d causes did = did

  item_passes : (it : Item) (v p d : ℕ) (causes : List Passed) → ItemDid (course_of h item) it (reply.Unreadable v p d causes) → (start : ℕ) × Passes start v causes
  item_passes (asks.Command (command.Read pair cookie)) v p d causes did = (start_of settings (tag_of item), did.each)
  item_passes (asks.Command (command.Get url)) v p d causes did = get_passes url (replica_on settings url.volume url.machine) v p d causes did
  item_passes (asks.Command (command.Flush u n)) v p d causes did = absurd (no_flush_unreadable u n (replica_on settings u n) v p d causes did)
  item_passes (asks.Command (command.Compact u n)) v p d causes did = absurd (no_compact_unreadable u n (replica_on settings u n) v p d causes did)
  item_passes asks.Bad v p d causes did = let clash : reply.Unreadable v p d causes ≡ reply.BadLine = did.0 in absurd cc
  item_passes it v p d causes did = absurd did

  -- it looked at the replica on m, whose disk failed with this count
  looked : (v m j g p d : ℕ) (causes : List Passed) → settings.replicas ≤ settings.machines → replica_on settings v m ≡ Some j
      → item.reply ≡ reply.Unreadable v p d causes → Contains causes (record { machine = m; cause = Disk g }) → LookFailed (course_of h item) v j g
  looked v m j g p d causes narrow there says cause =
      let passes = item_passes item.item v p d causes (subst (ItemDid (course_of h item) item.item) says (answered h item among).did) in
      let found = zip_beside (λ j passed. (passed.machine ≡ machine_of settings v j) × PassedFor (course_of h item) v j passed.cause) (order_from settings passes.0) causes
      (record { machine = m; cause = Disk g }) passes.1 cause in
      let on = on_machine settings v m j there in
      let within = each_in (λ i. i < settings.replicas) (order_from settings passes.0) found.0 (order_within settings passes.0) found.1 in
      let same : found.0 ≡ j = same_machine settings narrow v found.0 j within on.1 (sym found.2.0 ∙ sym on.2) in
      subst (λ (i : ℕ). LookFailed (course_of h item) v i g) same found.2.1

  -- a step of the line stands between what its lane had seen before it and behind it
  stands_between : (v : ℕ) (at : ℕ × Step) → Contains (own (course_of h item) v) at → ((h.from item.line).volumes v ≤ at.0) × (at.0 < (h.to item.line).volumes v)
  stands_between v at mine =
      each_in (λ (x : ℕ × Step). ((h.from item.line).volumes v ≤ x.0) × (x.0 < (h.to item.line).volumes v)) (own (course_of h item) v) at ((answered h item among).steps v) mine

-- BESIDE THE FREEZE

module _ {settings : Settings} {k : Known} {items : List LaneItem} {history : History} {t : Known} (h : CameInLanes settings k items history t)
    (v : ℕ) (below : v < settings.volumes) where
  abbrev count : ℕ → ℕ → ℕ
  count j n = (moment settings k history v n).faults j

  counts_grow : (j n m : ℕ) → n ≤ m → count j n ≤ count j m
  counts_grow j n m le = grows_to (count j) (λ n. count_grows h v j n below) n m le

  -- a volume that is thawed then was not frozen before
  not_frozen : (n m by : ℕ) → (volume_at_moment settings k history v m).frozen ≡ None → (volume_at_moment settings k history v n).frozen ≡ Some by → m < n
  not_frozen n m by thawed frozen = elim (cases_lt m n) [
    | inl less ↦ less
    | inr le ↦ absurd (none-some by (sym thawed ∙ frozen_stays h v n m by below le frozen))
  ]

  -- the call that failed as the line froze the volume is that of the freeze
  froze_there : (by : LaneItem) → Contains items by → (m f : ℕ) → (failed : FailedAt (course_of h by) v m f) → (froze : FrozeAt (course_of h by) v) → failed.place ≡ froze.place
  froze_there by among m f failed froze =
      let before : failed.place < froze.place + 1 = not_frozen (froze.place + 1) failed.place froze.machine failed.thawed froze.frozen in
      let behind : froze.place ≤ failed.place = each_in (λ (at : ℕ × Step). at.0 ≤ failed.place) (changes (course_of h by) v) (froze.place, froze.step) failed.last change in
      omega (arith, before, behind)
    where
      change : Contains (changes (course_of h by) v) (froze.place, froze.step)
      change = elim (tried_or_changed (course_of h by) v (froze.place, froze.step) froze.mine) [
        | inr changed ↦ changed
        | inl tried ↦
            let leads = subst (λ (d : Did). Leads settings v (tag_of by) d (standing (course_of h by) v froze.place) (standing (course_of h by) v (froze.place + 1))) tried
            (own_leads h by v below among (froze.place, froze.step) froze.mine).0 in
            absurd (none-some froze.machine (sym froze.thawed ∙ sym (ap (λ (x : VolumeKnown). x.frozen) leads) ∙ froze.frozen))
      ]

  -- a call that failed in another line on the open volume failed before the freeze
  fails_before : (by other : LaneItem) → other.line ≢ by.line → (m m' f g : ℕ) → (froze : FrozeAt (course_of h by) v) → (failed : FailedAt (course_of h other) v m g)
      → failed.place < froze.place
  fails_before by other apart m m' f g froze failed =
      let until : failed.place < froze.place + 1 = not_frozen (froze.place + 1) failed.place froze.machine failed.thawed froze.frozen in
      elim (cases_eq failed.place froze.place) [
        | inr differs ↦ omega (arith, until, differs)
        | inl same ↦ elim failed.whose [
          | inl mine ↦ absurd (apart (one_line h other by v froze.place mine.0 froze.step
              (subst (λ (n : ℕ). Contains (own (course_of h other) v) (n, mine.0)) same mine.1) froze.mine))
          | inr thawed ↦ absurd (none-some froze.machine
              (sym thawed ∙ ap (λ (n : ℕ). (volume_at_moment settings k history v (n + 1)).frozen) same ∙ froze.frozen))
        ]
      ]

  pub freezes_last : (froze : Option LaneItem) → FrostSeen h v froze → FreezesLast items v froze
  freezes_last froze seen by m f is says =
      each_from (λ other. (g : ℕ) → other.line ≢ by.line → told other.reply ≡ Blamed v m g → (g < f) ⊎ (f ≡ 2 ^ 64 - 1)) items (λ other among g apart said.
      let saw = seen by is in
      let own_failed = blamed_at h by saw.0 v m f says in
      let failed = blamed_at h other among v m g said in
      let there : own_failed.place ≡ (saw.1).place = froze_there by saw.0 m f own_failed saw.1 in
      let less : failed.place < (saw.1).place = fails_before by other apart m m f g saw.1 failed in
      let same : failed.j ≡ own_failed.j = same_Some failed.j own_failed.j (sym failed.there ∙ own_failed.there) in
      let grown : count own_failed.j (failed.place + 1) ≤ count own_failed.j own_failed.place = counts_grow own_failed.j (failed.place + 1) own_failed.place (omega (arith, less, there)) in
      let number : g ≡ count own_failed.j (failed.place + 1) = (failed.rose).1 ∙ ap (λ (j : ℕ). count j (failed.place + 1)) same in
      let is_f : f ≡ count own_failed.j (own_failed.place + 1) = (own_failed.rose).1 in
      elim (own_failed.rose).0 [
        | inl more ↦ inl (omega (arith, number, grown, more, is_f))
        | inr top ↦ inr (is_f ∙ top)
      ])

  -- a reader that passed the replica over for a higher count looked behind the freeze, and for a lower one before it
  beside : (narrow : settings.replicas ≤ settings.machines) (Is : ℕ → ℕ → Type 0) (froze : Option LaneItem) → FrostSeen h v froze → (item : LaneItem) → Contains items item
      → CountedBeside Is v froze item
      → (f : ℕ) × (g : ℕ) × (j : ℕ) × (n : ℕ) × (at : ℕ × Step) × (m : ℕ) × Is f g × Contains (own (course_of h item) v) at × (g ≡ count j (at.0 + 1)) × (f ≡ count j (n + 1))
      × ((volume_at_moment settings k history v n).frozen ≡ None) × ((volume_at_moment settings k history v (n + 1)).frozen ≡ Some m)
  beside narrow Is froze seen item among (by, m, f, g, p, d, causes, is, says, reads, cause, compares) =
      let saw = seen by is in
      let failed = blamed_at h by saw.0 v m f says in
      let there : failed.place ≡ (saw.1).place = froze_there by saw.0 m f failed saw.1 in
      let look = looked h item among v m failed.j g p d causes narrow failed.there reads cause in (
        f,
        g,
        failed.j,
        (saw.1).place,
        look.0,
        (saw.1).machine,
        compares,
        look.1,
        (look.2).1,
        (failed.rose).1 ∙ ap (λ (n : ℕ). count failed.j (n + 1)) there,
        (saw.1).thawed,
        (saw.1).frozen,
      )

  pub counted_frozen : settings.replicas ≤ settings.machines → (froze : Option LaneItem) → FrostSeen h v froze → (item : LaneItem) → Contains items item
      → CountedBeside (λ f g. f < g) v froze item → SawFrozen (course_of h item) v
  counted_frozen narrow froze seen item among counted = by (beside narrow (λ f g. f < g) froze seen item among counted)
    where
      by : (f : ℕ) × (g : ℕ) × (j : ℕ) × (n : ℕ) × (at : ℕ × Step) × (m : ℕ) × (f < g) × Contains (own (course_of h item) v) at × (g ≡ count j (at.0 + 1)) × (f ≡ count j (n + 1))
          × ((volume_at_moment settings k history v n).frozen ≡ None) × ((volume_at_moment settings k history v (n + 1)).frozen ≡ Some m)
          → SawFrozen (course_of h item) v
      by (f, g, j, n, at, m, more, mine, is_g, is_f, thawed, frozen) =
          let until = (stands_between h item among v at mine).1 in
          let later : n + 1 ≤ at.0 = elim (cases_lt n at.0) [
            | inl less ↦ omega (arith, less)
            | inr le ↦ let grown = counts_grow j (at.0 + 1) (n + 1) (omega (arith, le)) in absurd (omega (arith, more, is_g, is_f, grown))
          ] in
          (at.0, m, omega (arith, until), frozen_stays h v (n + 1) at.0 m below later frozen)

  pub counted_thawed : settings.replicas ≤ settings.machines → (froze : Option LaneItem) → FrostSeen h v froze → (item : LaneItem) → Contains items item
      → CountedBeside (λ f g. g < f) v froze item → SawThawed (course_of h item) v
  counted_thawed narrow froze seen item among counted = by (beside narrow (λ f g. g < f) froze seen item among counted)
    where
      by : (f : ℕ) × (g : ℕ) × (j : ℕ) × (n : ℕ) × (at : ℕ × Step) × (m : ℕ) × (g < f) × Contains (own (course_of h item) v) at × (g ≡ count j (at.0 + 1)) × (f ≡ count j (n + 1))
          × ((volume_at_moment settings k history v n).frozen ≡ None) × ((volume_at_moment settings k history v (n + 1)).frozen ≡ Some m)
          → SawThawed (course_of h item) v
      by (f, g, j, n, at, m, less, mine, is_g, is_f, thawed, frozen) =
          let since = (stands_between h item among v at mine).0 in
          let sooner : at.0 ≤ n = elim (cases_lt n at.0) [
            | inr le ↦ le
            | inl later ↦ let grown = counts_grow j (n + 1) (at.0 + 1) (omega (arith, later)) in absurd (omega (arith, less, is_g, is_f, grown))
          ] in (
            at.0,
            since,
            thawed_by (volume_at_moment settings k history v at.0).frozen (volume_at_moment settings k history v n).frozen (λ by. frozen_stays h v at.0 n by below sooner) thawed,
          )
