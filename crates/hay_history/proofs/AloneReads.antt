-- A line alone that reads, or that asks for a URL, is legal as a plain turn.
use Rattle.std.proofs.Common.{◌≡◌, ◌⊎◌, inl, inr, ℕ, ◌+◌, ◌-◌, ◌^◌, ◌<◌, ◌≤◌, Bool, true, false, cond, List, [], ◌∷◌, length, filter, count_by, take, Option, Some, None, refl}
use Rattle.std.proofs.Common.{sym, ap, subst, ◌∙◌, arith}
use Rattle.std.specs.Prelude.{◌==◌, ltb, not, take_while}
use Rattle.std.specs.List.{AllByRecursion as Each, prefix_len}
use Rattle.std.proofs.Math.Bool.{or-true}
use Rattle.std.proofs.lemmas.Bool.{cases_Bool, cases_eq, eq-eqb, lt-ltb, ne_eqb}
use Rattle.std.proofs.lemmas.List.Sums.{sum_by-cons}
use Rattle.std.proofs.lemmas.Option.{same_Some}
use Rattle.hay_needle.specs.declared.needle.Pair.{Pair}
use Rattle.hay_needle.specs.declared.needle.Cookie.{Cookie}
use Rattle.hay_needle.specs.declared.needle.Outcome.{Outcome}
use Rattle.hay_needle.specs.declared.needle.Outcome.TheVariants as outcome
use Rattle.hay_needle.specs.declared.settings.Settings.{Settings}
use Rattle.hay_needle.specs.Tables.{outcome_at}
use Rattle.hay_url.specs.declared.Url.{Url as UrlParts}
use Rattle.hay_reply.specs.declared.Cause.{Cause}
use Rattle.hay_reply.specs.declared.Cause.TheVariants.{Arm, Disk, Damage}
use Rattle.hay_reply.specs.declared.Passed.{Passed}
use Rattle.hay_reply.specs.declared.Reply.{Reply}
use Rattle.hay_reply.specs.declared.Reply.TheVariants as reply
use Rattle.hay_legal.specs.declared.known.DirKnown.{DirKnown}
use Rattle.hay_legal.specs.declared.known.Known.{Known}
use Rattle.hay_legal.specs.declared.known.VolumeKnown.{VolumeKnown}
use Rattle.hay_legal.specs.declared.turn.LaneItem.{LaneItem}
use Rattle.hay_legal.specs.Known.{CameUp, Leaves, arm_count, fault_count, home_in, home_of, machine_of, now, replica_at, replica_on, slot_of, volume_at}
use Rattle.hay_legal.specs.Plain.{HasCause, IsOpen, IsShown, IsUnreadable, LeavesElsewhere, LegalGetAt, LegalShow, LegalUrl, PassedReplicas, change_volume, disk_rose}
use Rattle.hay_legal.specs.Plain.{first_machine, frozen_by, order_from}
use Rattle.hay_legal.specs.Blocks.{tag_of}
use Rattle.hay_history.specs.LaneSteps.{Did, IsThawed, Leads, Standing, Step}
use Rattle.hay_history.specs.LaneSteps.Did.{Freezes, Tries}
use Rattle.hay_history.specs.Histories.{History, NoRows, NoSteps, OnlyOn, SeesHome, changes, changes_it, first_of, own, rows_standing, standing, volume_then}
use Rattle.hay_history.specs.Commands.{CameInLanes, DidNothing, GetDid, LookFailed, LookFroze, OnlyLooks, PassedFor, PassedOver, ShowDid, Showed, ShowedNone, UrlDid}
use Rattle.hay_history.proofs.Alone.{all_own, among, between, counts_rise, count_to_last, leaves_as, left_still, many_changed, rows_left_still, rows_still, still, volumes_changed}
use Rattle.hay_history.proofs.Beside.{block_drains, block_fuses}
use Rattle.hay_history.proofs.Counts.{each_count}
use Rattle.hay_history.proofs.Lines.{course_of, own_leads, starts, stops}
use Rattle.hay_history.proofs.Lists.{each_both, each_in, each_take, each_weaker, zip_weaker}
use Rattle.hay_history.proofs.Placing.{on_machine, order_within, same_machine}
use Rattle.hay_history.proofs.Rows.{home_below}

-- LISTS

-- a line whose steps all tried changed nothing
pub no_changes : (xs : List (ℕ × Step)) → Each (λ at. (at.1).did ≡ Tries) xs → filter (λ at. changes_it (at.1).did) xs ≡ []
no_changes [] each = refl
no_changes (x ∷ xs) each = rw (ap changes_it each.0) (no_changes xs each.1)

counted_more : {X : Type 0} (f g : X → Bool) (xs : List X) → Each (λ x. f x ≡ true → g x ≡ true) xs → count_by f xs ≤ count_by g xs
counted_more f g [] each = omega arith
counted_more {X} f g (x ∷ xs) each =
    let rest : count_by f xs ≤ count_by g xs = counted_more f g xs each.1 in
    let first : cond (f x) 1 0 ≤ cond (g x) 1 0 = elim (cases_Bool (f x)) [
      | inl t ↦ rw (t, each.0 t) (omega arith)
      | inr n ↦ rw n (omega arith)
    ] in
    omega (arith, rest, first, sum_by-cons (λ (y : X). cond (f y) 1 0) x xs, sum_by-cons (λ (y : X). cond (g y) 1 0) x xs)

same_prefix : {X : Type 0} (f g : X → Bool) (xs : List X) → Each (λ x. f x ≡ g x) xs → prefix_len f xs ≡ prefix_len g xs
same_prefix f g [] each = refl
same_prefix f g (x ∷ xs) each = rw each.0 (ap (λ (n : ℕ). cond (g x) (1 + n) 0) (same_prefix f g xs each.1))

-- WHAT A LINE OF A LANE LEAVES

module _ {settings : Settings} {k : Known} {history : History} {t : Known} (item : LaneItem) (h : CameInLanes settings k (item ∷ []) history t) where
  pub as_before : NoRows (course_of h item) → ((u : ℕ) → u < settings.volumes → volume_at t u ≡ volume_at k u) → Leaves k k t
  as_before rows volumes = leaves_as item h k refl volumes (rows_left_still item h rows) (block_drains h) (block_fuses h)

  pub nothing_left : DidNothing (course_of h item) → Leaves k k t
  nothing_left nothing = as_before nothing.1 (λ u below. left_still item h u below (nothing.0 u))

  pub volume_left : (v : ℕ) (change : VolumeKnown → VolumeKnown) → NoRows (course_of h item) → OnlyOn (course_of h item) v → v < settings.volumes
      → volume_at t v ≡ change (volume_at k v) → Leaves k (change_volume k v change) t
  volume_left v change rows elsewhere below here =
      leaves_as item h (change_volume k v change) (many_changed item h v change)
      (volumes_changed item h v change below here (λ u within other. left_still item h u within (elsewhere u other)))
      (rows_left_still item h rows) (block_drains h) (block_fuses h)

  looks_still : (v : ℕ) → OnlyLooks (course_of h item) v → NoSteps (course_of h item)
  looks_still v looks u = elim (cases_eq u v) [
    | inl same ↦ subst (λ (w : ℕ). changes (course_of h item) w ≡ []) (sym same) (no_changes (own (course_of h item) v) looks.2)
    | inr other ↦ looks.1 u other
  ]

  looked : (v : ℕ) → OnlyLooks (course_of h item) v → Leaves k k t
  looked v looks = nothing_left (looks_still v looks, looks.0)

  pub home_seen : (pair : Pair) (d : ℕ) (home : Option ℕ) → NoRows (course_of h item) → SeesHome (course_of h item) pair d home
      → (home_of k pair ≡ home) × (d ≡ length k.directory.rows)
  home_seen pair d home rows sees =
      let same : (rows_standing (course_of h item) sees.moment).directory ≡ k.directory = rows_still item h sees.moment rows in (
        sym (ap (λ (x : DirKnown). home_in x.rows pair) same) ∙ sees.is,
        sees.front ∙ ap (λ (x : DirKnown). length x.rows) same,
      )

  -- COUNTS

  abbrev slot : ℕ → ℕ → ℕ
  slot v j = slot_of settings v j

  pub look_came_up : (v j f : ℕ) → v < settings.volumes → j < settings.replicas → LookFailed (course_of h item) v j f
      → CameUp (fault_count k (slot v j)) f (fault_count t (slot v j))
  look_came_up v j f below within (at, mine, rose_to) =
      let first = counts_rise item h v j 0 at.0 below (omega arith) in
      let last = count_to_last item h v j (at.0 + 1) below within in (
        elim rose_to.0 [ inl less ↦ inl (omega (arith, first, less, rose_to.1)) | inr top ↦ inr (rose_to.1 ∙ top) ],
        omega (arith, last, rose_to.1),
      )

  pub came_up_rose : (v j f : ℕ) → CameUp (fault_count k (slot v j)) f (fault_count t (slot v j)) → disk_rose settings k t v j ≡ true
  came_up_rose v j f (inl less, high) =
      rw (lt-ltb (fault_count k (slot v j)) (fault_count t (slot v j)) (omega (arith, less, high))) refl
  came_up_rose v j f (inr top, high) =
      let most : fault_count t (slot v j) ≤ 2 ^ 64 - 1 = each_count (2 ^ 64 - 1) t.faults (slot v j) h.faults_end in
      let is : fault_count t (slot v j) ≡ 2 ^ 64 - 1 = omega (arith, top, high, most) in
      rw (eq-eqb (fault_count t (slot v j)) (2 ^ 64 - 1) is) (or-true (ltb (fault_count k (slot v j)) (fault_count t (slot v j))))

  -- SHOWN PHOTOS

  -- the replicas before the one on this machine
  passed_same : (v m start replica : ℕ) → replica_on settings v m ≡ Some replica
      → take_while (λ j. not (machine_of settings v j == m)) (order_from settings start) ≡ take_while (λ i. not (i == replica)) (order_from settings start)
  passed_same v m start replica there =
      let on = on_machine settings v m replica there in
      ap (λ (n : ℕ). take n (order_from settings start))
      (same_prefix (λ j. not (machine_of settings v j == m)) (λ i. not (i == replica)) (order_from settings start)
      (each_weaker (λ i. i < settings.replicas) (λ i. not (machine_of settings v i == m) ≡ not (i == replica)) (λ i within. ap not (elim (cases_eq i replica) [
        | inl same ↦ eq-eqb (machine_of settings v i) m (ap (machine_of settings v) same ∙ on.2) ∙ sym (eq-eqb i replica same)
        | inr other ↦
            ne_eqb (machine_of settings v i) m (λ e. other (same_machine settings (h.regular).machines v i replica within on.1 (e ∙ sym on.2)))
            ∙ sym (ne_eqb i replica other)
      ])) (order_from settings start) (order_within settings start)))

  passed_before : (v m start replica : ℕ) → v < settings.volumes → replica_on settings v m ≡ Some replica
      → PassedOver (course_of h item) v (take_while (λ j. not (machine_of settings v j == m)) (order_from settings start))
      → PassedReplicas settings k t (tag_of item) v start replica
  passed_before v m start replica below there over =
      let passed : List ℕ = take_while (λ i. not (i == replica)) (order_from settings start) in
      let given = subst (PassedOver (course_of h item) v) (passed_same v m start replica there) over in
      let inside : Each (λ j. j < settings.replicas) passed =
      each_take (λ j. j < settings.replicas) (prefix_len (λ i. not (i == replica)) (order_from settings start)) (order_from settings start) (order_within settings start) in
      let fewer : count_by (λ i. not (disk_rose settings k t v i)) passed ≤ count_by given.to_arm passed =
      counted_more (λ i. not (disk_rose settings k t v i)) given.to_arm passed
      (each_both (λ j. j < settings.replicas) (λ j. (given.to_arm j ≡ true) ⊎ ((f : ℕ) × LookFailed (course_of h item) v j f))
      (λ j. not (disk_rose settings k t v j) ≡ true → given.to_arm j ≡ true)
      (λ j within laid still. elim laid [
        | inl arm ↦ arm
        | inr disk ↦
            let rose = came_up_rose v j disk.0 (look_came_up v j disk.0 below within disk.1) in
            let clash : false ≡ true = sym (ap not rose) ∙ still in absurd cc
      ]) passed inside given.disks) in
      let low : arm_count k item.lane ≤ ((course_of h item).from).arm = (starts h item (among item h)).arm in
      let high : ((course_of h item).to).arm ≤ arm_count t item.lane = (stops h item (among item h)).arm in
      elim given.arm [
        | inl some ↦ inl (omega (arith, some, low, high, fewer))
        | inr top ↦
            let most : arm_count t item.lane ≤ 2 ^ 64 - 1 = each_count (2 ^ 64 - 1) t.arms item.lane h.arms_end in
            inr (omega (arith, top, high, most))
      ]

  shown : (start : ℕ) (pair : Pair) (v m p d : ℕ) (what : Outcome) → Showed (course_of h item) start pair v m p d what
      → IsShown settings k (tag_of item) start pair v m p d what t
  shown start pair v m p d what did =
      let stood : volume_then (course_of h item) v did.moment ≡ volume_at k v = still item h v did.moment did.below (looks_still v did.looks v) in
      let home = home_seen pair d (Some v) (did.looks).0 did.home in
      record {
        seen = record { home = home.0; front = did.front ∙ ap (λ (x : VolumeKnown). length x.log) stood; rows = home.1 };
        replica = did.replica;
        there = did.there;
        stands = sym (ap (λ (x : VolumeKnown). outcome_at (now x (replica_at x did.replica)) pair) stood) ∙ did.stood;
        passed = passed_before v m start did.replica did.below did.there did.passed;
        leaves = looked v did.looks;
      }

  caused : (v j : ℕ) (cause : Cause) → v < settings.volumes → j < settings.replicas → PassedFor (course_of h item) v j cause
      → HasCause settings k t (tag_of item) v j cause
  caused v j (Arm f) below within came =
      let low : arm_count k item.lane ≤ ((course_of h item).from).arm = (starts h item (among item h)).arm in
      let high : ((course_of h item).to).arm ≤ arm_count t item.lane = (stops h item (among item h)).arm in
      (elim came.0 [ inl less ↦ inl (omega (arith, less, low)) | inr top ↦ inr top ], omega (arith, came.1, high))
  caused v j (Disk f) below within failed = look_came_up v j f below within failed
  caused v j (Damage at) below within never = never

  shown_by_none : (start : ℕ) (pair : Pair) (v p d : ℕ) (causes : List Passed) → ShowedNone (course_of h item) start pair v p d causes
      → IsUnreadable settings k (tag_of item) start pair v p d causes t
  shown_by_none start pair v p d causes did =
      let stood : volume_then (course_of h item) v did.moment ≡ volume_at k v = still item h v did.moment did.below (looks_still v did.looks v) in
      let home = home_seen pair d (Some v) (did.looks).0 did.home in
      record {
        seen = record { home = home.0; front = did.front ∙ ap (λ (x : VolumeKnown). length x.log) stood; rows = home.1 };
        each = zip_weaker (λ j passed. (passed.machine ≡ machine_of settings v j) × PassedFor (course_of h item) v j passed.cause)
            (λ j passed. (passed.machine ≡ machine_of settings v j) × HasCause settings k t (tag_of item) v j passed.cause) (order_from settings start) causes
            (λ j passed at is. (is.0, caused v j passed.cause did.below (each_in (λ i. i < settings.replicas) (order_from settings start) j (order_within settings start) at) is.1))
            did.each;
        arms = did.arms;
        leaves = looked v did.looks;
      }

  -- WANT OF MEMORY

  abbrev pub Froze : ℕ → Standing → Standing → Type 0
  Froze m a b = (b.volume ≡ a.volume) ⊎ (IsThawed a × (b.volume ≡ frozen_by m a.volume))

  froze_trans : (m : ℕ) (a b c : Standing) → Froze m a b → Froze m b c → Froze m a c
  froze_trans m a b c (inl x) (inl y) = inl (y ∙ x)
  froze_trans m a b c (inl x) (inr y) = inr (sym (ap (λ (v : VolumeKnown). v.frozen) x) ∙ y.0, y.1 ∙ ap (frozen_by m) x)
  froze_trans m a b c (inr x) (inl y) = inr (x.0, y ∙ x.1)
  froze_trans m a b c (inr x) (inr y) =
      let clash : Some m ≡ None = sym (ap (λ (v : VolumeKnown). v.frozen) x.1) ∙ y.0 in absurd cc

  abbrev Led : ℕ → ℕ → Did → Type 0
  Led v i e = Leads settings v (tag_of item) e (standing (course_of h item) v i) (standing (course_of h item) v (i + 1))

  pub froze_between : (pair : Pair) (froze : LookFroze (course_of h item) pair) → froze.v < settings.volumes → (n d : ℕ)
      → Froze (first_machine settings froze.v) (standing (course_of h item) froze.v n) (standing (course_of h item) froze.v (n + d))
  froze_between pair froze below n d =
      let v = froze.v in
      let m = first_machine settings v in
      between (Froze m) (first_of settings k v) (history.volumes v) (λ a. inl refl) (froze_trans m) d n (λ i s low high at.
      let mine = all_own item h v below i s at in
      let leads = (own_leads h item v below (among item h) (i, s) mine).0 in
      elim (each_in (λ (x : ℕ × Step). ((x.1).did ≡ Tries) ⊎ ((x.1).did ≡ Freezes m)) (own (course_of h item) v) (i, s) froze.steps mine) [
        | inl tried ↦ inl (subst (λ (e : Did). Led v i e) tried leads)
        | inr froze_it ↦ inr (subst (λ (e : Did). Led v i e) froze_it leads)
      ])

  -- what a line that may have frozen its pair's home leaves
  pub froze_left : (pair : Pair) → NoRows (course_of h item) → (froze : LookFroze (course_of h item) pair) → (froze.v < settings.volumes) × (home_of k pair ≡ Some froze.v)
      × (Leaves k k t ⊎ (IsOpen k froze.v × Leaves k (change_volume k froze.v (frozen_by (first_machine settings froze.v))) t))
  froze_left pair rows froze =
      let below = home_below h item pair froze.d froze.v froze.home in
      let many : ℕ = length (history.volumes froze.v) in
      let plus : 0 + many ≡ many = omega arith in
      let all = subst (λ (n : ℕ). Froze (first_machine settings froze.v) (standing (course_of h item) froze.v 0) (standing (course_of h item) froze.v n)) plus
      (froze_between pair froze below 0 many) in (
        below,
        (home_seen pair froze.d (Some froze.v) rows froze.home).0,
        elim all [
          | inl same ↦ inl (as_before rows (λ u within. elim (cases_eq u froze.v) [
            | inl is ↦ subst (λ (w : ℕ). volume_at t w ≡ volume_at k w) (sym is) ((h.volumes froze.v below).volume ∙ same)
            | inr other ↦ left_still item h u within (froze.elsewhere u other)
          ]))
          | inr is ↦ inr (is.0, volume_left froze.v (frozen_by (first_machine settings froze.v)) rows froze.elsewhere below ((h.volumes froze.v below).volume ∙ is.1))
        ],
      )

  -- READS

  pub show_plain : (start : ℕ) (pair : Pair) (cookie : Cookie) (r : Reply) → ShowDid (course_of h item) start pair cookie r
      → LegalShow settings k (tag_of item) start pair cookie r t
  show_plain start pair cookie (reply.Photo v m p d bytes) did = shown start pair v m p d (outcome.Photo (record { cookie = cookie; bytes = bytes })) did
  show_plain start pair cookie (reply.Gone v m p d) did = shown start pair v m p d outcome.Nothing did
  show_plain start pair cookie (reply.WrongCookie v m p d) did =
      (did.0, did.1, did.2, shown start pair v m p d (outcome.Photo (record { cookie = did.0; bytes = did.1 })) did.3)
  show_plain start pair cookie (reply.Unreadable v p d causes) did = shown_by_none start pair v p d causes did
  show_plain start pair cookie (reply.Unknown d) did = (home_seen pair d None (did.1).1 did.0, nothing_left did.1)
  show_plain start pair cookie reply.NoMem did = elim did.1 [
    | inl none ↦ inl (nothing_left (none, did.0))
    | inr froze ↦
        let left = froze_left pair did.0 froze in
        elim left.2 [ inl same ↦ inl same | inr is ↦ inr (froze.v, left.1, is.0, is.1) ]
  ]
  show_plain start pair cookie r did = search

  get_elsewhere : (url : UrlParts) → Leaves k k t → LeavesElsewhere k url t
  get_elsewhere url leaves v home other = leaves

  pub get_plain : (url : UrlParts) (o : Option ℕ) (r : Reply) → GetDid (course_of h item) url o r → LegalGetAt settings k (tag_of item) url o r t
  get_plain url None reply.Nowhere did = nothing_left did
  get_plain url None reply.NoMem did = nothing_left did
  get_plain url None r did = search
  get_plain url (Some start) (reply.Moved v d) did =
      let home = home_seen url.pair d (Some v) (did.2).1 did.0 in (home.0, did.1, home.1, nothing_left did.2)
  get_plain url (Some start) (reply.Photo v m p d bytes) did =
      (show_plain start url.pair url.cookie (reply.Photo v m p d bytes) did.0, did.1, get_elsewhere url (looked v (did.0).looks))
  get_plain url (Some start) (reply.Gone v m p d) did =
      (show_plain start url.pair url.cookie (reply.Gone v m p d) did.0, did.1, get_elsewhere url (looked v (did.0).looks))
  get_plain url (Some start) (reply.WrongCookie v m p d) did =
      (show_plain start url.pair url.cookie (reply.WrongCookie v m p d) did.0, did.1, get_elsewhere url (looked v ((did.0).3).looks))
  get_plain url (Some start) (reply.Unreadable v p d causes) did =
      (show_plain start url.pair url.cookie (reply.Unreadable v p d causes) did.0, did.1, get_elsewhere url (looked v (did.0).looks))
  get_plain url (Some start) (reply.Unknown d) did =
      (show_plain start url.pair url.cookie (reply.Unknown d) did.0, tt, get_elsewhere url (nothing_left (did.0).1))
  get_plain url (Some start) reply.NoMem did = elim did.1 [
    | inl none ↦ (inl (nothing_left (none, did.0)), tt, get_elsewhere url (nothing_left (none, did.0)))
    | inr froze ↦
        let left = froze_left url.pair did.0 froze.0 in
        elim left.2 [
          | inl same ↦ (inl same, tt, get_elsewhere url same)
          | inr is ↦ (
            inr ((froze.0).v, left.1, is.0, is.1),
            tt,
            λ v home other. absurd (let same : (froze.0).v ≡ v = same_Some (froze.0).v v (sym left.1 ∙ home) in other (sym same ∙ froze.1)),
          )
        ]
  ]
  get_plain url (Some start) r did = search

  pub url_plain : (pair : Pair) (r : Reply) → UrlDid (course_of h item) pair r → LegalUrl settings k (tag_of item) pair r t
  url_plain pair (reply.Url d url) did =
      let home = home_seen pair d (Some url.volume) (did.4).1 did.0 in
      record { home = home.0; pair_is = did.1; cookie = did.2; machine = did.3; rows = home.1; leaves = nothing_left did.4 }
  url_plain pair (reply.Unknown d) did = (home_seen pair d None (did.1).1 did.0, nothing_left did.1)
  url_plain pair reply.NoMem did = nothing_left did
  url_plain pair r did = search
