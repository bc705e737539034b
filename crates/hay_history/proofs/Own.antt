-- What a line's own steps may be, by its command and its reply.
use Rattle.std.proofs.Common.{◌≡◌, ◌⊎◌, inl, inr, ℕ, Bool, true, false, List, [], ◌∷◌, ◌++◌, length, Contains, Option, Some, None, refl, sym, ap, subst, ◌∙◌, ◌+◌, ◌<◌}
use Rattle.std.specs.Prelude.{◌≢◌, ◌==◌, ◌&&◌}
use Rattle.std.specs.List.{AllByRecursion as Each}
use Rattle.std.proofs.lemmas.Bool.{cases_Bool, cases_eq, eq-eqb, eqb-true, eqb-false}
use Rattle.hay_needle.specs.declared.needle.Pair.{Pair}
use Rattle.hay_needle.specs.declared.needle.Cookie.{Cookie}
use Rattle.hay_needle.specs.declared.settings.Settings.{Settings}
use Rattle.hay_url.specs.declared.Url.{Url as UrlParts}
use Rattle.hay_script.specs.declared.Command.{Command}
use Rattle.hay_script.specs.declared.Command.TheVariants as command
use Rattle.hay_reply.specs.declared.ClosedBy.{ClosedBy}
use Rattle.hay_reply.specs.declared.Reply.{Reply}
use Rattle.hay_reply.specs.declared.Reply.TheVariants.{Stored, Deleted, Photo, Gone, WrongCookie, Moved, ReadOnly, Failed, Unreadable, Flushed, Compacted, NoMem}
use Rattle.hay_core.specs.declared.entry.Entry.{Entry}
use Rattle.hay_core.specs.declared.entry.Entry.TheVariants as entry
use Rattle.hay_legal.specs.declared.turn.Item.{Item}
use Rattle.hay_legal.specs.declared.turn.Item.TheVariants as asks
use Rattle.hay_legal.specs.declared.turn.LaneItem.{LaneItem}
use Rattle.hay_legal.specs.Known.{EachPair, machine_of, replica_at, replica_on}
use Rattle.hay_legal.specs.Plain.{first_machine, put_entry, start_of}
use Rattle.hay_legal.specs.Blocks.{HasReplica, SticksBy, acknowledged, entry_of_item, is_compacted}
use Rattle.hay_legal.proofs.Subject.Effects.{each_append}
use Rattle.hay_history.specs.LaneSteps.{Did, Step}
use Rattle.hay_history.specs.LaneSteps.Did.{Begins, Ends, Entered, Examines, Flushes, Freezes, Fuses, Pends, Poises, Sticks, Swaps, Tries}
use Rattle.hay_history.specs.Histories.{Course, NoSteps, OneStep, OneTry, OnlyOn, SeesHome, SeesOpen, changes, changes_it, closing_then, own, refusal_then, volume_then}
use Rattle.hay_history.specs.Commands.{CommandDid, CompactDid, CompactFailed, CompactRefused, CompactWanting, DelDid, FlushDid, GetDid, ItemDid, LeftPending, LookFroze}
use Rattle.hay_history.specs.Commands.{LookWanting, OnlyLooks, PutDid, Ran, RanAs, ShowDid, UrlDid, stood_then}
use Rattle.hay_history.proofs.Placing.{machine_there}
use Rattle.hay_history.proofs.Lists.{each_in, first_or_rest, none_in, one_in, pair_kept}
use Rattle.hay_history.proofs.Trying.{tried_or_changed}
use Rattle.hay_history.proofs.Lines.{own_in_order}

-- a line asks for the compaction of replica j
abbrev pub IsCompact : Settings → Item → ℕ → ℕ → ℕ → Type 0
IsCompact settings item v m j = (item ≡ asks.Command (command.Compact v m)) × (replica_on settings v m ≡ Some j)

-- a command that looks at places of its pair's home
abbrev pub MayLook : Item → Type 0
MayLook (asks.Command (command.Read pair cookie)) = Unit {0}
MayLook (asks.Command (command.Get url)) = Unit {0}
MayLook (asks.Command (command.Del pair)) = Unit {0}
MayLook _ = ⊥

-- A line with this item and this reply may have done this on the volume v.
abbrev pub MayDo : Settings → Item → Reply → ℕ → Did → Type 0
MayDo settings item reply v Tries = Unit {0}
MayDo settings item reply v (Entered change) = (entry_of_item settings item ≡ Some change) × (p : ℕ) × (acknowledged reply ≡ Some (v, p))
MayDo settings item reply v (Pends m change true) = (entry_of_item settings item ≡ Some change) × (f : ℕ) × (reply ≡ Failed v m f)
MayDo settings item reply v (Pends m change false) = (entry_of_item settings item ≡ Some change) × (reply ≡ NoMem) × (m ≡ first_machine settings v)
MayDo settings item reply v (Freezes m) = MayLook item × (reply ≡ NoMem) × (m ≡ first_machine settings v)
MayDo settings item reply v (Flushes j) =
    (m : ℕ) × (n : ℕ) × (item ≡ asks.Command (command.Flush v m)) × (replica_on settings v m ≡ Some j) × (reply ≡ Flushed v m n)
MayDo settings item reply v (Sticks j) =
    (m : ℕ) × (f : ℕ) × (item ≡ asks.Command (command.Flush v m)) × (replica_on settings v m ≡ Some j) × (reply ≡ Failed v m f)
MayDo settings item reply v (Begins j) = (m : ℕ) × IsCompact settings item v m j
MayDo settings item reply v (Examines j n) = (m : ℕ) × IsCompact settings item v m j
MayDo settings item reply v (Ends j) = (m : ℕ) × IsCompact settings item v m j
MayDo settings item reply v (Swaps j end cells true) = (m : ℕ) × IsCompact settings item v m j × (reply ≡ NoMem)
MayDo settings item reply v (Swaps j end cells false) = (m : ℕ) × (g : ℕ) × IsCompact settings item v m j × (reply ≡ Compacted v m g)
MayDo settings item reply v (Poises m j) = (f : ℕ) × IsCompact settings item v m j × (reply ≡ Failed v m f)
MayDo settings item reply v (Fuses j) = ⊥

-- WHERE THE STEPS ARE

pub no_step : (c : Course) (v : ℕ) (at : ℕ × Step) → NoSteps c → Contains (own c v) at → (at.1).did ≡ Tries
no_step c v at none among = elim (tried_or_changed c v at among) [
  | inl try ↦ try
  | inr change ↦ absurd (none_in at (subst (λ (l : List (ℕ × Step)). Contains l at) (none v) change))
]

pub only_there : (c : Course) (u v : ℕ) (at : ℕ × Step) → OnlyOn c u → Contains (own c v) at → ((at.1).did ≡ Tries) ⊎ (u ≡ v)
only_there c u v at only among =
    elim (cases_Bool (u == v)) [
      | inl t ↦ inr (eqb-true u v t)
      | inr f ↦
          let apart : v ≢ u = λ e. eqb-false u v f (sym e) in
          elim (tried_or_changed c v at among) [
            | inl try ↦ inl try
            | inr change ↦ absurd (none_in at (subst (λ (l : List (ℕ × Step)). Contains l at) (only v apart) change))
          ]
    ]

-- a line with one step did that
pub the_step : (c : Course) (v : ℕ) (did : Did) (at : ℕ × Step) → OneStep c v did → Contains (own c v) at → ((at.1).did ≡ Tries) ⊎ ((one_at : ℕ × Step) × (one_at ≡ at) × ((at.1).did ≡ did))
the_step c v did at one among = elim (tried_or_changed c v at among) [
  | inl try ↦ inl try
  | inr change ↦ elim (first_or_rest (one.place, one.step) [] at (subst (λ (l : List (ℕ × Step)). Contains l at) one.only change)) [
    | inl e ↦ inr ((one.place, one.step), e, ap (λ (p : ℕ × Step). (p.1).did) (sym e) ∙ one.is)
    | inr rest ↦ absurd (none_in at rest)
  ]
]

module _ (c : Course) (item : Item) (reply : Reply) where
  abbrev pub Does : ℕ → Did → Type 0
  Does v did = MayDo c.settings item reply v did

  -- each step of the line may be one that its command and reply allow
  abbrev pub AllMay : Type 0
  AllMay = (v : ℕ) (at : ℕ × Step) → Contains (own c v) at → Does v (at.1).did

  pub may_none : NoSteps c → AllMay
  may_none none v at among = subst (λ (d : Did). Does v d) (sym (no_step c v at none among)) tt

  pub may_on : (u : ℕ) → OnlyOn c u → ((at : ℕ × Step) → Contains (own c u) at → Does u (at.1).did) → AllMay
  may_on u only each v at among =
      elim (only_there c u v at only among) [
        | inl try ↦ subst (λ (d : Did). Does v d) (sym try) tt
        | inr there ↦ subst (λ (w : ℕ). Does w (at.1).did) there (each at (subst (λ (w : ℕ). Contains (own c w) at) (sym there) among))
      ]

  pub may_one : (u : ℕ) (did : Did) → OnlyOn c u → OneStep c u did → Does u did → AllMay
  may_one u did only one does =
      may_on u only (λ at among. elim (the_step c u did at one among) [
        | inl try ↦ subst (λ (d : Did). Does u d) (sym try) tt
        | inr it ↦ subst (λ (d : Did). Does u d) (sym it.2) does
      ])

  pub may_try : (u : ℕ) → OnlyOn c u → OneTry c u → AllMay
  may_try u only one =
      may_on u only (λ at among. elim (tried_or_changed c u at among) [
        | inl try ↦ subst (λ (d : Did). Does u d) (sym try) tt
        | inr change ↦ absurd (none_in at (subst (λ (l : List (ℕ × Step)). Contains l at) one.none change))
      ])

  pub may_each : (u : ℕ) (Q : Did → Type 0) → OnlyOn c u → Each (λ at. Q (at.1).did) (own c u) → ((did : Did) → Q did → Does u did) → AllMay
  may_each u Q only each does =
      may_on u only (λ at among. does (at.1).did (each_in (λ (x : ℕ × Step). Q (x.1).did) (own c u) at each among))

  pub may_look : (u : ℕ) → OnlyLooks c u → AllMay
  may_look u looks = may_each u (λ did. did ≡ Tries) looks.1 looks.2 (λ did is. subst (λ (d : Did). Does u d) (sym is) tt)

  pub may_pend : (pair : Pair) (change : Entry) (Takes : ℕ → ℕ → Type 0) → entry_of_item c.settings item ≡ Some change → reply ≡ NoMem
      → LeftPending c pair change Takes → AllMay
  may_pend pair change Takes is_change wanting left =
      may_one left.v (Pends (first_machine c.settings left.v) change false) left.elsewhere left.step (is_change, wanting, refl)

  pub may_freeze : (pair : Pair) → MayLook item → reply ≡ NoMem → LookFroze c pair → AllMay
  may_freeze pair looks wanting froze =
      may_each froze.v (λ did. (did ≡ Tries) ⊎ (did ≡ Freezes (first_machine c.settings froze.v))) froze.elsewhere froze.steps (λ did q. elim q [
        | inl is ↦ subst (λ (d : Did). Does froze.v d) (sym is) tt
        | inr is ↦ subst (λ (d : Did). Does froze.v d) (sym is) (looks, wanting, refl)
      ])

  pub may_want : (pair : Pair) → MayLook item → reply ≡ NoMem → LookWanting c pair → AllMay
  may_want pair looks wanting h = elim h.1 [ inl none ↦ may_none none | inr froze ↦ may_freeze pair looks wanting froze ]

  -- the examining steps of a compaction
  examines_each : (u m j : ℕ) → IsCompact c.settings item u m j → (middle : List (ℕ × Step))
      → Each (λ at. (n : ℕ) × ((at.1).did ≡ Examines j n)) middle → Each (λ at. Does u (at.1).did) middle
  examines_each u m j is [] h = tt
  examines_each u m j is (at ∷ middle) h =
      (subst (λ (d : Did). Does u d) (sym (h.0).1) (m, is), examines_each u m j is middle h.1)

  pub may_run : (u m j : ℕ) (last : List (ℕ × Step)) → IsCompact c.settings item u m j → Ran c u j last → Each (λ at. Does u (at.1).did) last → AllMay
  may_run u m j last is ran each =
      let all : Each (λ at. Does u (at.1).did) ((ran.place, ran.first) ∷ (ran.middle ++ last)) = (
        subst (λ (d : Did). Does u d) (sym ran.begins) (m, is),
        each_append (λ (at : ℕ × Step). Does u (at.1).did) ran.middle last (examines_each u m j is ran.middle ran.examines) each,
      ) in
      may_on u ran.elsewhere (λ at among. elim (tried_or_changed c u at among) [
        | inl try ↦ subst (λ (d : Did). Does u d) (sym try) tt
        | inr change ↦ each_in (λ (x : ℕ × Step). Does u (x.1).did) ((ran.place, ran.first) ∷ (ran.middle ++ last)) at all
            (subst (λ (l : List (ℕ × Step)). Contains l at) ran.steps change)
      ])

  pub may_run_to : (u m j : ℕ) (did : Did) → IsCompact c.settings item u m j → (to : RanAs c u j did) → Does u did → AllMay
  may_run_to u m j did is to does = may_run u m j ((to.place, to.step) ∷ []) is to.ran (subst (λ (d : Did). Does u d) (sym to.is) does, tt)

-- BY COMMAND AND REPLY

put_may : (c : Course) (pair : Pair) (bytes : List ℕ) (reply : Reply) → PutDid c pair bytes reply → AllMay c (asks.Command (command.Put pair bytes)) reply
put_may c pair bytes (Stored u p d cookie) h =
    may_one c (asks.Command (command.Put pair bytes)) (Stored u p d cookie) u (Entered (entry.Put pair cookie bytes)) h.elsewhere h.step
    (ap (λ (x : Cookie). Some (entry.Put pair x bytes)) (sym h.own_cookie), p, refl)
put_may c pair bytes (Failed u m f) h =
    may_one c (asks.Command (command.Put pair bytes)) (Failed u m f) u (Pends m (put_entry c.settings pair bytes) true) h.elsewhere h.step (refl, f, refl)
put_may c pair bytes NoMem h =
    elim h [
      | inl pends ↦ may_none c (asks.Command (command.Put pair bytes)) NoMem pends.0
      | inr changes ↦ elim changes.1 [
        | inl none ↦ may_none c (asks.Command (command.Put pair bytes)) NoMem none
        | inr left ↦ may_pend c (asks.Command (command.Put pair bytes)) NoMem pair (put_entry c.settings pair bytes)
            (λ v n. refusal_then c v n (length bytes) ≡ None) refl refl left
      ]
    ]
put_may c pair bytes reply h = search (h, may_none c (asks.Command (command.Put pair bytes)) reply)

show_may : (c : Course) (item : Item) (start : ℕ) (pair : Pair) (cookie : Cookie) (reply : Reply) → MayLook item → ShowDid c start pair cookie reply → AllMay c item reply
show_may c item start pair cookie (Photo u m p d bytes) other h = may_look c item (Photo u m p d bytes) u h.looks
show_may c item start pair cookie (Gone u m p d) other h = may_look c item (Gone u m p d) u h.looks
show_may c item start pair cookie (WrongCookie u m p d) other h = may_look c item (WrongCookie u m p d) u (h.3).looks
show_may c item start pair cookie (Unreadable u p d causes) other h = may_look c item (Unreadable u p d causes) u h.looks
show_may c item start pair cookie NoMem other h = may_want c item NoMem pair other refl h
show_may c item start pair cookie reply other h = search (h, may_none c item reply)

get_may : (c : Course) (url : UrlParts) (o : Option ℕ) (reply : Reply) → GetDid c url o reply → AllMay c (asks.Command (command.Get url)) reply
get_may c url None NoMem h = may_none c (asks.Command (command.Get url)) NoMem h.0
get_may c url None reply h = search (h, may_none c (asks.Command (command.Get url)) reply)
get_may c url (Some start) (Moved u d) h = may_none c (asks.Command (command.Get url)) (Moved u d) (h.2).0
get_may c url (Some start) NoMem h = elim h.1 [
  | inl none ↦ may_none c (asks.Command (command.Get url)) NoMem none
  | inr froze ↦ may_freeze c (asks.Command (command.Get url)) NoMem url.pair tt refl froze.0
]
get_may c url (Some start) reply h = show_may c (asks.Command (command.Get url)) start url.pair url.cookie reply tt h.0

del_may : (c : Course) (pair : Pair) (reply : Reply) → DelDid c pair reply → AllMay c (asks.Command (command.Del pair)) reply
del_may c pair (Deleted u p d) h =
    may_one c (asks.Command (command.Del pair)) (Deleted u p d) u (Entered (entry.Del pair)) h.elsewhere h.step (refl, p, refl)
del_may c pair (Failed u m f) h =
    elim h.which [
      | inl try ↦ may_try c (asks.Command (command.Del pair)) (Failed u m f) u h.elsewhere try.0
      | inr one ↦ may_one c (asks.Command (command.Del pair)) (Failed u m f) u (Pends m (entry.Del pair) true) h.elsewhere one.0 (refl, f, refl)
    ]
del_may c pair NoMem h =
    elim h.1 [
      | inl none ↦ may_none c (asks.Command (command.Del pair)) NoMem none
      | inr some ↦ elim some [
        | inl froze ↦ may_freeze c (asks.Command (command.Del pair)) NoMem pair tt refl froze.0
        | inr left ↦ may_pend c (asks.Command (command.Del pair)) NoMem pair (entry.Del pair)
            (λ v n. (closing_then c v n ≡ None) × (stood_then c v n pair ≡ true)) refl refl left
      ]
    ]
del_may c pair reply h = search (h, may_none c (asks.Command (command.Del pair)) reply)

url_may : (c : Course) (pair : Pair) (reply : Reply) → UrlDid c pair reply → AllMay c (asks.Command (command.Url pair)) reply
url_may c pair NoMem h = may_none c (asks.Command (command.Url pair)) NoMem h.0
url_may c pair reply h = search (h, may_none c (asks.Command (command.Url pair)) reply)

flush_may : (c : Course) (u m : ℕ) (o : Option ℕ) (reply : Reply) → replica_on c.settings u m ≡ o → FlushDid c u m o reply → AllMay c (asks.Command (command.Flush u m)) reply
flush_may c u m None NoMem there h = may_none c (asks.Command (command.Flush u m)) NoMem h.0
flush_may c u m None reply there h = search (h, may_none c (asks.Command (command.Flush u m)) reply)
flush_may c u m (Some j) (Flushed u' m' n) there h =
    may_one c (asks.Command (command.Flush u m)) (Flushed u' m' n) u (Flushes j) (h.1).elsewhere (h.1).step
    (m, n, refl, there, ap (λ (x : ℕ). Flushed x m' n) (h.0).0 ∙ ap (λ (x : ℕ). Flushed u x n) (h.0).1)
flush_may c u m (Some j) (Failed u' m' f) there h =
    may_one c (asks.Command (command.Flush u m)) (Failed u' m' f) u (Sticks j) (h.1).elsewhere (h.1).step
    (m, f, refl, there, ap (λ (x : ℕ). Failed x m' f) (h.0).0 ∙ ap (λ (x : ℕ). Failed u x f) (h.0).1)
flush_may c u m (Some j) NoMem there h = may_none c (asks.Command (command.Flush u m)) NoMem h.0
flush_may c u m (Some j) reply there h = search (h, may_none c (asks.Command (command.Flush u m)) reply)

refused_may : (c : Course) (u m j : ℕ) (by : List ClosedBy) → replica_on c.settings u m ≡ Some j → CompactRefused c u j by → AllMay c (asks.Command (command.Compact u m)) (ReadOnly by)
refused_may c u m j by there (inl none) = may_none c (asks.Command (command.Compact u m)) (ReadOnly by) (none.1).0
refused_may c u m j [] there (inr ran) = absurd ran
refused_may c u m j (by ∷ []) there (inr ran) = may_run c (asks.Command (command.Compact u m)) (ReadOnly (by ∷ [])) u m j [] (refl, there) (ran.1).ran tt
refused_may c u m j (by ∷ next ∷ rest) there (inr ran) = absurd ran

failed_may : (c : Course) (u m j u' m' f : ℕ) → replica_on c.settings u m ≡ Some j → (u' ≡ u) × (m' ≡ m) → CompactFailed c u m j f
    → AllMay c (asks.Command (command.Compact u m)) (Failed u' m' f)
failed_may c u m j u' m' f there same (inl begins) = may_try c (asks.Command (command.Compact u m)) (Failed u' m' f) u begins.elsewhere begins.step
failed_may c u m j u' m' f there same (inr (inl ends)) =
    may_run_to c (asks.Command (command.Compact u m)) (Failed u' m' f) u m j (Ends j) (refl, there) ends.0 (m, (refl, there))
failed_may c u m j u' m' f there same (inr (inr (inl poises))) =
    may_run_to c (asks.Command (command.Compact u m)) (Failed u' m' f) u m j (Poises m j) (refl, there) poises.0
    (f, (refl, there), ap (λ (x : ℕ). Failed x m' f) same.0 ∙ ap (λ (x : ℕ). Failed u x f) same.1)
failed_may c u m j u' m' f there same (inr (inr (inr until))) = may_run c (asks.Command (command.Compact u m)) (Failed u' m' f) u m j [] (refl, there) until.ran tt

wanting_may : (c : Course) (u m j : ℕ) → replica_on c.settings u m ≡ Some j → CompactWanting c u j → AllMay c (asks.Command (command.Compact u m)) NoMem
wanting_may c u m j there (inl none) = may_none c (asks.Command (command.Compact u m)) NoMem none.0
wanting_may c u m j there (inr (inl ends)) = may_run_to c (asks.Command (command.Compact u m)) NoMem u m j (Ends j) (refl, there) ends (m, (refl, there))
wanting_may c u m j there (inr (inr (inl swaps))) =
    may_run_to c (asks.Command (command.Compact u m)) NoMem u m j (Swaps j swaps.0 swaps.1 true) (refl, there) swaps.2 (m, (refl, there), refl)
wanting_may c u m j there (inr (inr (inr (inl until)))) = may_run c (asks.Command (command.Compact u m)) NoMem u m j [] (refl, there) (until.1).ran tt
wanting_may c u m j there (inr (inr (inr (inr frozen)))) = may_run c (asks.Command (command.Compact u m)) NoMem u m j [] (refl, there) (frozen.1).ran tt

compact_may : (c : Course) (u m : ℕ) (o : Option ℕ) (reply : Reply) → replica_on c.settings u m ≡ o → CompactDid c u m o reply → AllMay c (asks.Command (command.Compact u m)) reply
compact_may c u m None NoMem there h = may_none c (asks.Command (command.Compact u m)) NoMem h.0
compact_may c u m None reply there h = search (h, may_none c (asks.Command (command.Compact u m)) reply)
compact_may c u m (Some j) (Compacted u' m' g) there h =
    may_run_to c (asks.Command (command.Compact u m)) (Compacted u' m' g) u m j (Swaps j (h.1).0 (h.1).1 false) (refl, there) (h.1).2
    (m, g, (refl, there), ap (λ (x : ℕ). Compacted x m' g) (h.0).0 ∙ ap (λ (x : ℕ). Compacted u x g) (h.0).1)
compact_may c u m (Some j) (ReadOnly by) there h = refused_may c u m j by there h
compact_may c u m (Some j) (Failed u' m' f) there h = failed_may c u m j u' m' f there h.0 h.1
compact_may c u m (Some j) NoMem there h = wanting_may c u m j there h
compact_may c u m (Some j) reply there h = search (h, may_none c (asks.Command (command.Compact u m)) reply)

command_may : (c : Course) (request : Command) (reply : Reply) → CommandDid c request reply → AllMay c (asks.Command request) reply
command_may c (command.Put pair bytes) reply h = put_may c pair bytes reply h
command_may c (command.Read pair cookie) reply h = show_may c (asks.Command (command.Read pair cookie)) (start_of c.settings c.tag) pair cookie reply tt h
command_may c (command.Get url) reply h = get_may c url (replica_on c.settings url.volume url.machine) reply h
command_may c (command.Del pair) reply h = del_may c pair reply h
command_may c (command.Url pair) reply h = url_may c pair reply h
command_may c (command.Flush u m) reply h = flush_may c u m (replica_on c.settings u m) reply refl h
command_may c (command.Compact u m) reply h = compact_may c u m (replica_on c.settings u m) reply refl h
command_may c _ reply h = absurd h

-- each step of a line is one that its command and reply allow
pub item_may : (c : Course) (item : Item) (reply : Reply) → ItemDid c item reply → AllMay c item reply
item_may c (asks.Command request) reply h = command_may c request reply h
item_may c asks.Bad reply h = may_none c asks.Bad reply (h.1).0

-- WHAT A LINE SAW OF A VOLUME THAT IT FROZE

-- that its change was taken, where it made it or left it pending at this place
abbrev pub SawTaken : Course → Item → ℕ → ℕ → Type 0
SawTaken c (asks.Command (command.Put pair bytes)) v n = ((d : ℕ) × SeesHome c pair d (Some v)) × (refusal_then c v n (length bytes) ≡ None)
SawTaken c (asks.Command (command.Del pair)) v n =
    ((d : ℕ) × SeesHome c pair d (Some v)) × (closing_then c v n ≡ None) × (stood_then c v n pair ≡ true)
SawTaken c _ v n = ⊥

-- that it is the home of its pair, where it looked at places of it
abbrev pub SawHome : Course → Item → ℕ → Type 0
SawHome c (asks.Command (command.Read pair cookie)) v = (d : ℕ) × SeesHome c pair d (Some v)
SawHome c (asks.Command (command.Get url)) v =
    ((d : ℕ) × SeesHome c url.pair d (Some v)) × (v ≡ url.volume) × HasReplica c.settings url.volume url.machine
SawHome c (asks.Command (command.Del pair)) v = ((d : ℕ) × SeesHome c pair d (Some v)) × SeesOpen c v
SawHome c _ v = ⊥

abbrev pub Saw : Course → Item → ℕ → ℕ → Did → Type 0
Saw c item v n (Entered change) = SawTaken c item v n
Saw c item v n (Pends m change failed) = SawTaken c item v n
Saw c item v n (Freezes m) = SawHome c item v
Saw c item v n _ = Unit {0}

module _ (c : Course) (item : Item) where
  abbrev pub AllSaw : Type 0
  AllSaw = (v : ℕ) (at : ℕ × Step) → Contains (own c v) at → Saw c item v at.0 (at.1).did

  saw_none : NoSteps c → AllSaw
  saw_none none v at among = subst (λ (d : Did). Saw c item v at.0 d) (sym (no_step c v at none among)) tt

  saw_on : (u : ℕ) → OnlyOn c u → ((at : ℕ × Step) → Contains (own c u) at → Saw c item u at.0 (at.1).did) → AllSaw
  saw_on u only each v at among =
      elim (only_there c u v at only among) [
        | inl try ↦ subst (λ (d : Did). Saw c item v at.0 d) (sym try) tt
        | inr there ↦ subst (λ (w : ℕ). Saw c item w at.0 (at.1).did) there (each at (subst (λ (w : ℕ). Contains (own c w) at) (sym there) among))
      ]

  saw_one : (u : ℕ) (did : Did) → OnlyOn c u → (one : OneStep c u did) → Saw c item u one.place did → AllSaw
  saw_one u did only one saw =
      saw_on u only (λ at among. elim (tried_or_changed c u at among) [
        | inl try ↦ subst (λ (d : Did). Saw c item u at.0 d) (sym try) tt
        | inr change ↦
            subst (λ (x : ℕ × Step). Saw c item u x.0 (x.1).did) (one_in (one.place, one.step) at (subst (λ (l : List (ℕ × Step)). Contains l at) one.only change))
            (subst (λ (d : Did). Saw c item u one.place d) (sym one.is) saw)
      ])

  saw_try : (u : ℕ) → OnlyOn c u → OneTry c u → AllSaw
  saw_try u only one =
      saw_on u only (λ at among. elim (tried_or_changed c u at among) [
        | inl try ↦ subst (λ (d : Did). Saw c item u at.0 d) (sym try) tt
        | inr change ↦ absurd (none_in at (subst (λ (l : List (ℕ × Step)). Contains l at) one.none change))
      ])

  saw_look : (u : ℕ) → OnlyLooks c u → AllSaw
  saw_look u looks =
      saw_on u looks.1 (λ at among.
      subst (λ (d : Did). Saw c item u at.0 d) (sym (each_in (λ (x : ℕ × Step). (x.1).did ≡ Tries) (own c u) at looks.2 among)) tt)

  saw_froze : (pair : Pair) → (froze : LookFroze c pair) → SawHome c item froze.v → AllSaw
  saw_froze pair froze saw =
      saw_on froze.v froze.elsewhere (λ at among.
      elim (each_in (λ (x : ℕ × Step). ((x.1).did ≡ Tries) ⊎ ((x.1).did ≡ Freezes (first_machine c.settings froze.v))) (own c froze.v) at froze.steps among) [
        | inl is ↦ subst (λ (d : Did). Saw c item froze.v at.0 d) (sym is) tt
        | inr is ↦ subst (λ (d : Did). Saw c item froze.v at.0 d) (sym is) saw
      ])

  -- a line that makes no change and looks at no place froze no volume so
  saw_idle : (reply : Reply) → entry_of_item c.settings item ≡ None → (MayLook item → ⊥) → AllMay c item reply → AllSaw
  saw_idle reply none looks may v at among = by (at.1).did (may v at among)
    where
      by : (did : Did) → MayDo c.settings item reply v did → Saw c item v at.0 did
      by (Entered change) does = let clash : None ≡ Some change = sym none ∙ does.0 in absurd cc
      by (Pends m change true) does = let clash : None ≡ Some change = sym none ∙ does.0 in absurd cc
      by (Pends m change false) does = let clash : None ≡ Some change = sym none ∙ does.0 in absurd cc
      by (Freezes m) does = absurd (looks does.0)
      by _ does = tt

put_saw : (c : Course) (pair : Pair) (bytes : List ℕ) (reply : Reply) → PutDid c pair bytes reply → AllSaw c (asks.Command (command.Put pair bytes))
put_saw c pair bytes (Stored u p d cookie) h =
    saw_one c (asks.Command (command.Put pair bytes)) u (Entered (entry.Put pair cookie bytes)) h.elsewhere h.step ((d, h.home), h.room)
put_saw c pair bytes (Failed u m f) h =
    saw_one c (asks.Command (command.Put pair bytes)) u (Pends m (put_entry c.settings pair bytes) true) h.elsewhere h.step ((h.d, h.home), h.room)
put_saw c pair bytes NoMem h =
    elim h [
      | inl pends ↦ saw_none c (asks.Command (command.Put pair bytes)) pends.0
      | inr changes ↦ elim changes.1 [
        | inl none ↦ saw_none c (asks.Command (command.Put pair bytes)) none
        | inr left ↦ saw_one c (asks.Command (command.Put pair bytes)) left.v (Pends (first_machine c.settings left.v) (put_entry c.settings pair bytes) false)
            left.elsewhere left.step ((left.d, left.home), left.takes)
      ]
    ]
put_saw c pair bytes reply h = search (h, saw_none c (asks.Command (command.Put pair bytes)))

show_saw : (c : Course) (item : Item) (start : ℕ) (pair : Pair) (cookie : Cookie) (reply : Reply) → (reply ≡ NoMem → LookWanting c pair → AllSaw c item)
    → ShowDid c start pair cookie reply → AllSaw c item
show_saw c item start pair cookie (Photo u m p d bytes) wants h = saw_look c item u h.looks
show_saw c item start pair cookie (Gone u m p d) wants h = saw_look c item u h.looks
show_saw c item start pair cookie (WrongCookie u m p d) wants h = saw_look c item u (h.3).looks
show_saw c item start pair cookie (Unreadable u p d causes) wants h = saw_look c item u h.looks
show_saw c item start pair cookie NoMem wants h = wants refl h
show_saw c item start pair cookie reply wants h = search (h, saw_none c item)

get_saw : (c : Course) (url : UrlParts) (o : Option ℕ) (reply : Reply) → replica_on c.settings url.volume url.machine ≡ o → GetDid c url o reply
    → AllSaw c (asks.Command (command.Get url))
get_saw c url None NoMem there h = saw_none c (asks.Command (command.Get url)) h.0
get_saw c url None reply there h = search (h, saw_none c (asks.Command (command.Get url)))
get_saw c url (Some start) (Moved u d) there h = saw_none c (asks.Command (command.Get url)) (h.2).0
get_saw c url (Some start) NoMem there h = elim h.1 [
  | inl none ↦ saw_none c (asks.Command (command.Get url)) none
  | inr froze ↦ saw_froze c (asks.Command (command.Get url)) url.pair froze.0 (((froze.0).d, (froze.0).home), froze.1, (start, there))
]
get_saw c url (Some start) reply there h = show_saw c (asks.Command (command.Get url)) start url.pair url.cookie reply (λ is look. absurd cc) h.0

del_saw : (c : Course) (pair : Pair) (reply : Reply) → DelDid c pair reply → AllSaw c (asks.Command (command.Del pair))
del_saw c pair (Deleted u p d) h = saw_one c (asks.Command (command.Del pair)) u (Entered (entry.Del pair)) h.elsewhere h.step ((d, h.home), h.«open», h.stood)
del_saw c pair (Failed u m f) h =
    elim h.which [
      | inl try ↦ saw_try c (asks.Command (command.Del pair)) u h.elsewhere try.0
      | inr one ↦ saw_one c (asks.Command (command.Del pair)) u (Pends m (entry.Del pair) true) h.elsewhere one.0 ((h.d, h.home), (one.1).0, one.2)
    ]
del_saw c pair NoMem h =
    elim h.1 [
      | inl none ↦ saw_none c (asks.Command (command.Del pair)) none
      | inr some ↦ elim some [
        | inl froze ↦ saw_froze c (asks.Command (command.Del pair)) pair froze.0 (((froze.0).d, (froze.0).home), froze.1)
        | inr left ↦ saw_one c (asks.Command (command.Del pair)) left.v (Pends (first_machine c.settings left.v) (entry.Del pair) false)
            left.elsewhere left.step ((left.d, left.home), (left.takes).0, (left.takes).1)
      ]
    ]
del_saw c pair reply h = search (h, saw_none c (asks.Command (command.Del pair)))

command_saw : (c : Course) (request : Command) (reply : Reply) → CommandDid c request reply → AllSaw c (asks.Command request)
command_saw c (command.Put pair bytes) reply h = put_saw c pair bytes reply h
command_saw c (command.Read pair cookie) reply h =
    show_saw c (asks.Command (command.Read pair cookie)) (start_of c.settings c.tag) pair cookie reply
    (λ is look. elim look.1 [
      | inl none ↦ saw_none c (asks.Command (command.Read pair cookie)) none
      | inr froze ↦ saw_froze c (asks.Command (command.Read pair cookie)) pair froze (froze.d, froze.home)
    ])
    h
command_saw c (command.Get url) reply h = get_saw c url (replica_on c.settings url.volume url.machine) reply refl h
command_saw c (command.Del pair) reply h = del_saw c pair reply h
command_saw c (command.Url pair) reply h = saw_idle c (asks.Command (command.Url pair)) reply refl (λ never. never) (url_may c pair reply h)
command_saw c (command.Flush u m) reply h =
    saw_idle c (asks.Command (command.Flush u m)) reply refl (λ never. never) (flush_may c u m (replica_on c.settings u m) reply refl h)
command_saw c (command.Compact u m) reply h =
    saw_idle c (asks.Command (command.Compact u m)) reply refl (λ never. never) (compact_may c u m (replica_on c.settings u m) reply refl h)
command_saw c _ reply h = absurd h

-- a line saw what its command needs of a volume that it froze
pub item_saw : (c : Course) (item : Item) (reply : Reply) → ItemDid c item reply → AllSaw c item
item_saw c (asks.Command request) reply h = command_saw c request reply h
item_saw c asks.Bad reply h = saw_none c asks.Bad (h.1).0

-- WHERE THE STEPS OF A COMPACTION ARE

-- the line began a compaction of the replica before this place, and it stood until the line ended it or saw it ended
pub record RanBefore (c : Course) (v j n : ℕ) : Type 0 where
  pub last : List (ℕ × Step)
  pub ran : Ran c v j last
  pub before : ran.place < n

-- none of these steps begins a compaction of the replica
abbrev pub NoBegins : ℕ → List (ℕ × Step) → Type 0
NoBegins j steps = Each (λ at. (at.1).did ≢ Begins j) steps

pub is_begin : (j : ℕ) (did : Did) → (did ≡ Begins j) ⊎ (did ≢ Begins j)
is_begin j (Begins i) = elim (cases_eq i j) [ inl same ↦ inl (ap Begins same) | inr apart ↦ inr (λ e. let same : i ≡ j = cc in apart same) ]
is_begin j Tries = inr (λ e. cc)
is_begin j (Entered change) = inr (λ e. cc)
is_begin j (Pends m change failed) = inr (λ e. cc)
is_begin j (Freezes m) = inr (λ e. cc)
is_begin j (Flushes i) = inr (λ e. cc)
is_begin j (Sticks i) = inr (λ e. cc)
is_begin j (Examines i n) = inr (λ e. cc)
is_begin j (Ends i) = inr (λ e. cc)
is_begin j (Swaps i end cells freezes) = inr (λ e. cc)
is_begin j (Poises m i) = inr (λ e. cc)
is_begin j (Fuses i) = inr (λ e. cc)

pub record RanFrom (c : Course) (v j n : ℕ) : Type 0 where
  pub last : List (ℕ × Step)
  pub none : NoBegins j last
  pub ran : Ran c v j last
  pub here : ran.place ≡ n

-- what a reply tells of the end of its line's compaction
abbrev pub EndsBy : Course → ℕ → ℕ → ℕ → Reply → Type 0
EndsBy c v j until (Compacted v' m' g) = g ≡ (replica_at (volume_then c v until) j).generation + 1
EndsBy c v j until (Failed v' m' f) = Unit {0}
EndsBy c v j until (ReadOnly by) = Unit {0}
EndsBy c v j until NoMem = Unit {0}
EndsBy c v j until _ = ⊥

-- a step of a compact of replica j that stands at this place
abbrev pub InRun : Course → ℕ → ℕ → Reply → ℕ → Did → Type 0
InRun c v j r n Tries = Unit {0}
InRun c v j r n (Begins i) = (from : RanFrom c v j n) × EndsBy c v j (from.ran).until r
InRun c v j r n _ = RanBefore c v j n

module _ (c : Course) (v j : ℕ) (r : Reply) where
  abbrev AllInRun : Type 0
  AllInRun = (at : ℕ × Step) → Contains (own c v) at → InRun c v j r at.0 (at.1).did

  -- a step that is in the run where it stands behind the first
  abbrev InRest : ℕ × Step → Type 0
  InRest at = RanBefore c v j at.0 → InRun c v j r at.0 (at.1).did

  idle : NoSteps c → AllInRun
  idle none at among = subst (λ (d : Did). InRun c v j r at.0 d) (sym (no_step c v at none among)) tt

  examines_in_run : (middle : List (ℕ × Step)) → Each (λ at. (n : ℕ) × ((at.1).did ≡ Examines j n)) middle → Each InRest middle
  examines_in_run [] h = tt
  examines_in_run (at ∷ middle) h =
      (subst (λ (d : Did). RanBefore c v j at.0 → InRun c v j r at.0 d) (sym (h.0).1) (λ before. before), examines_in_run middle h.1)

  ran_in_run : (last : List (ℕ × Step)) (ran : Ran c v j last) → NoBegins j last → Each InRest last → EndsBy c v j ran.until r → AllInRun
  ran_in_run last ran none each by at among =
      elim (tried_or_changed c v at among) [
        | inl try ↦ subst (λ (d : Did). InRun c v j r at.0 d) (sym try) tt
        | inr change ↦ elim (first_or_rest (ran.place, ran.first) (ran.middle ++ last) at (subst (λ (l : List (ℕ × Step)). Contains l at) ran.steps change)) [
          | inl first ↦ subst (λ (d : Did). InRun c v j r at.0 d) (sym ran.begins ∙ ap (λ (x : ℕ × Step). (x.1).did) first)
              (record { last = last; none = none; ran = ran; here = ap (λ (x : ℕ × Step). x.0) first }, by)
          | inr rest ↦ each_in InRest (ran.middle ++ last) at (each_append InRest ran.middle last (examines_in_run ran.middle ran.examines) each) rest (record {
            last = last;
            ran = ran;
            before = each_in (λ (b : ℕ × Step). ran.place < b.0) (ran.middle ++ last) at
                (subst (EachPair (λ (a b : ℕ × Step). a.0 < b.0)) ran.steps (pair_kept (λ (a b : ℕ × Step). a.0 < b.0) (λ at. changes_it (at.1).did) (own c v)
                (own_in_order ((c.history).volumes v) (c.tag).line))).0 rest;
          })
        ]
      ]

  ran_to_in_run : (did : Did) (to : RanAs c v j did) → did ≢ Begins j → ((n : ℕ) → RanBefore c v j n → InRun c v j r n did) → EndsBy c v j (to.ran).until r → AllInRun
  ran_to_in_run did to other by ends =
      ran_in_run ((to.place, to.step) ∷ []) to.ran ((λ is. other (sym to.is ∙ is)), tt) (subst (λ (d : Did). RanBefore c v j to.place → InRun c v j r to.place d) (sym to.is) (by to.place), tt) ends

refused_in_run : (c : Course) (v j : ℕ) (by : List ClosedBy) → CompactRefused c v j by → AllInRun c v j (ReadOnly by)
refused_in_run c v j by (inl frozen) = idle c v j (ReadOnly by) (frozen.1).0
refused_in_run c v j [] (inr ran) = absurd ran
refused_in_run c v j (by ∷ []) (inr ran) = ran_in_run c v j (ReadOnly (by ∷ [])) [] (ran.1).ran tt tt tt
refused_in_run c v j (by ∷ more ∷ rest) (inr ran) = absurd ran

failed_in_run : (c : Course) (v m j v' m' f : ℕ) → CompactFailed c v m j f → AllInRun c v j (Failed v' m' f)
failed_in_run c v m j v' m' f (inl began) =
    λ at among. elim (tried_or_changed c v at among) [
      | inl try ↦ subst (λ (d : Did). InRun c v j (Failed v' m' f) at.0 d) (sym try) tt
      | inr change ↦ absurd (none_in at (subst (λ (l : List (ℕ × Step)). Contains l at) (began.step).none change))
    ]
failed_in_run c v m j v' m' f (inr (inl ends)) = ran_to_in_run c v j (Failed v' m' f) (Ends j) ends.0 (λ e. cc) (λ n before. before) tt
failed_in_run c v m j v' m' f (inr (inr (inl poises))) = ran_to_in_run c v j (Failed v' m' f) (Poises m j) poises.0 (λ e. cc) (λ n before. before) tt
failed_in_run c v m j v' m' f (inr (inr (inr until))) = ran_in_run c v j (Failed v' m' f) [] until.ran tt tt tt

wanting_in_run : (c : Course) (v j : ℕ) → CompactWanting c v j → AllInRun c v j NoMem
wanting_in_run c v j (inl nothing) = idle c v j NoMem nothing.0
wanting_in_run c v j (inr (inl ends)) = ran_to_in_run c v j NoMem (Ends j) ends (λ e. cc) (λ n before. before) tt
wanting_in_run c v j (inr (inr (inl swaps))) = ran_to_in_run c v j NoMem (Swaps j swaps.0 swaps.1 true) swaps.2 (λ e. cc) (λ n before. before) tt
wanting_in_run c v j (inr (inr (inr (inl until)))) = ran_in_run c v j NoMem [] (until.1).ran tt tt tt
wanting_in_run c v j (inr (inr (inr (inr frozen)))) = ran_in_run c v j NoMem [] (frozen.1).ran tt tt tt

compact_in_run : (c : Course) (v m j : ℕ) (r : Reply) → CompactDid c v m (Some j) r → AllInRun c v j r
compact_in_run c v m j (Compacted v' m' g) h =
    ran_to_in_run c v j (Compacted v' m' g) (Swaps j (h.1).0 (h.1).1 false) (h.1).2 (λ e. cc) (λ n before. before)
    (subst (λ (n : ℕ). g ≡ (replica_at (volume_then c v n) j).generation + 1) (sym ((h.1).2).last) (h.1).3)
compact_in_run c v m j (ReadOnly by) h = refused_in_run c v j by h
compact_in_run c v m j (Failed v' m' f) h = failed_in_run c v m j v' m' f h.1
compact_in_run c v m j NoMem h = wanting_in_run c v j h
compact_in_run c v m j r h = search (h, idle c v j r)

-- where a step of a compact of replica j is
pub in_run : (c : Course) (item : Item) (r : Reply) (v m j : ℕ) → ItemDid c item r → IsCompact c.settings item v m j
    → (at : ℕ × Step) → Contains (own c v) at → InRun c v j r at.0 (at.1).did
in_run c item r v m j h is =
    compact_in_run c v m j r (subst (λ (o : Option ℕ). CompactDid c v m o r) is.1 (subst (λ (i : Item). ItemDid c i r) is.0 h))

-- WHICH COMMANDS A REPLY MAY ANSWER

-- a reply that tells of a change, a flush or a compaction is that of a line that asked for it
abbrev pub Says : Item → Reply → Type 0
Says (asks.Command (command.Put pair bytes)) (Stored v p d cookie) = Unit {0}
Says (asks.Command (command.Del pair)) (Deleted v p d) = Unit {0}
Says (asks.Command (command.Flush u m)) (Flushed v m' n) = Unit {0}
Says (asks.Command (command.Compact u m)) (Compacted v m' g) = Unit {0}
Says _ (Stored v p d cookie) = ⊥
Says _ (Deleted v p d) = ⊥
Says _ (Flushed v m n) = ⊥
Says _ (Compacted v m g) = ⊥
Says _ _ = Unit {0}

show_says : (c : Course) (start : ℕ) (pair : Pair) (cookie : Cookie) (r : Reply) → ShowDid c start pair cookie r → Says asks.Bad r
show_says c start pair cookie NoMem h = tt
show_says c start pair cookie r h = assumption (h)

get_says : (c : Course) (url : UrlParts) (o : Option ℕ) (r : Reply) → GetDid c url o r → Says asks.Bad r
get_says c url None NoMem h = tt
get_says c url None r h = assumption (h)
get_says c url (Some start) (Moved v d) h = tt
get_says c url (Some start) NoMem h = tt
get_says c url (Some start) r h = show_says c start url.pair url.cookie r h.0

flush_says : (c : Course) (u m : ℕ) (o : Option ℕ) (r : Reply) → FlushDid c u m o r → Says (asks.Command (command.Flush u m)) r
flush_says c u m None NoMem h = tt
flush_says c u m None r h = assumption (h)
flush_says c u m (Some j) NoMem h = tt
flush_says c u m (Some j) r h = assumption (h)

compact_says : (c : Course) (u m : ℕ) (o : Option ℕ) (r : Reply) → CompactDid c u m o r → Says (asks.Command (command.Compact u m)) r
compact_says c u m None NoMem h = tt
compact_says c u m None r h = assumption (h)
compact_says c u m (Some j) NoMem h = tt
compact_says c u m (Some j) r h = assumption (h)

command_says : (c : Course) (request : Command) (r : Reply) → CommandDid c request r → Says (asks.Command request) r
command_says c (command.Put pair bytes) NoMem h = tt
command_says c (command.Put pair bytes) r h = assumption (h)
command_says c (command.Del pair) NoMem h = tt
command_says c (command.Del pair) r h = assumption (h)
command_says c (command.Read pair cookie) r h = show_says c (start_of c.settings c.tag) pair cookie r h
command_says c (command.Get url) r h = get_says c url (replica_on c.settings url.volume url.machine) r h
command_says c (command.Url pair) NoMem h = tt
command_says c (command.Url pair) r h = assumption (h)
command_says c (command.Flush u m) r h = flush_says c u m (replica_on c.settings u m) r h
command_says c (command.Compact u m) r h = compact_says c u m (replica_on c.settings u m) r h
command_says c _ r h = absurd h

pub item_says : (c : Course) (item : Item) (r : Reply) → ItemDid c item r → Says item r
item_says c (asks.Command request) r h = command_says c request r h
item_says c asks.Bad r h = subst (Says asks.Bad) (sym h.0) tt

-- WHAT A LINE IS ANSWERED FOR

-- a reply, as a line of a block
abbrev pub line_of : ℕ → ℕ → Item → Reply → LaneItem
line_of line lane item reply = record { line = line; lane = lane; item = item; reply = reply }

-- a step that leaves an index stuck is that of a flush whose reply says so
pub sticks_line : (settings : Settings) (v j line lane : ℕ) (item : Item) (reply : Reply) → MayDo settings item reply v (Sticks j)
    → SticksBy v (machine_of settings v j) (line_of line lane item reply)
sticks_line settings v j line lane item reply may =
    let same : may.0 ≡ machine_of settings v j = sym (machine_there settings v may.0 j may.3) in
    subst (λ (r : Reply). SticksBy v (machine_of settings v j) (line_of line lane item r)) (sym may.4)
    (subst (λ (i : Item). SticksBy v (machine_of settings v j) (line_of line lane i (Failed v may.0 may.1))) (sym may.2) (refl, same))

-- a line that asks for a compaction of replica j
pub compacts_line : (settings : Settings) (v m j line lane : ℕ) (item : Item) (reply : Reply) → IsCompact settings item v m j
    → is_compacted v (machine_of settings v j) (line_of line lane item reply) ≡ true
compacts_line settings v m j line lane item reply is =
    let same : m ≡ machine_of settings v j = sym (machine_there settings v m j is.1) in
    subst (λ (i : Item). is_compacted v (machine_of settings v j) (line_of line lane i reply) ≡ true) (sym is.0)
    (ap (λ (b : Bool). b && (m == machine_of settings v j)) (eq-eqb v v refl) ∙ eq-eqb m (machine_of settings v j) same)
