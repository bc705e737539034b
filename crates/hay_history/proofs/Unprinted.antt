-- At which fronts lines met a volume that they tell of without printing its front, and in what order.
use Rattle.std.proofs.Common.{◌≡◌, ◌≢◌, ◌⊎◌, refl, inl, inr, ℕ, ◌<◌, ◌≤◌, ◌+◌, ◌==◌, false, cond, List, [], ◌∷◌, ◌++◌, length, count_by, Contains, Option, Some, None, sym, ap, subst, ◌∙◌, arith}
use Rattle.std.specs.List.{AllByRecursion as Each, AllZip}
use Rattle.std.proofs.lemmas.Bool.{cases_eq, cases_lt, cond_both, eqb-true}
use Rattle.std.proofs.lemmas.List.Sums.{sum_by-append}
use Rattle.std.proofs.lemmas.Option.{none-some, slice_get_within}
use Rattle.hay_needle.specs.declared.needle.Pair.{Pair}
use Rattle.hay_needle.specs.declared.settings.Settings.{Settings}
use Rattle.hay_url.specs.declared.Url.{Url as UrlParts}
use Rattle.hay_script.specs.declared.Command.TheVariants as command
use Rattle.hay_reply.specs.declared.Refused.{Refused}
use Rattle.hay_reply.specs.declared.Refused.TheVariants.{Closed, NoRoom}
use Rattle.hay_reply.specs.declared.Reply.{Reply}
use Rattle.hay_reply.specs.declared.Reply.TheVariants as reply
use Rattle.hay_core.specs.declared.entry.Logged.{Logged}
use Rattle.hay_legal.specs.declared.known.Known.{Known}
use Rattle.hay_legal.specs.declared.known.ReplicaKnown.{ReplicaKnown}
use Rattle.hay_legal.specs.declared.known.VolumeKnown.{VolumeKnown}
use Rattle.hay_legal.specs.declared.turn.Item.{Item}
use Rattle.hay_legal.specs.declared.turn.Item.TheVariants as asks
use Rattle.hay_legal.specs.declared.turn.LaneItem.{LaneItem}
use Rattle.hay_legal.specs.Known.{EachPair, all_lanes, all_tries, drained_of, machine_of, replica_at, replica_on, volume_at}
use Rattle.hay_legal.specs.Plain.{with_bare}
use Rattle.hay_legal.specs.Blocks.{FlushedSince, InOrder, LackedRoom, MeetingsAreLegal, RecordsAreLegal, SwappedBefore, flushed_on, fronts_told, is_put, made_on, new_entries}
use Rattle.hay_legal.specs.Blocks.{printed, puts_until, refusals_of, tag_of, tells_unprinted, volume_print}
use Rattle.hay_history.specs.LaneSteps.{Did, Leads, Step}
use Rattle.hay_history.specs.Histories.{Course, History, IsLater, IsMoment, SeesRefusal, first_of, own, refusal_then, standing}
use Rattle.hay_history.specs.Commands.{CameInLanes, CompactDid, FlushDid, GetDid, HomeRefuses, ItemDid, PutRefused}
use Rattle.hay_history.proofs.Charges.{one_line}
use Rattle.hay_history.proofs.Doings.{FlushedOne, line_did}
use Rattle.hay_history.proofs.Fronts.{Within, Shows, lane_goes_on, log_from, log_grows, log_to, logs_later, one_within, volume_shows}
use Rattle.hay_history.proofs.Histories.{Found, along}
use Rattle.hay_history.proofs.Indexes.{precedes, swap_line}
use Rattle.hay_history.proofs.Lines.{answered, course_of, one_leads, own_at}
use Rattle.hay_history.proofs.Lists.{each_below, each_from, each_in, each_weaker, pair_both, pair_by}
use Rattle.hay_history.proofs.Meeting.{refused_room, thawed_of}
use Rattle.hay_history.proofs.Placing.{line_choice, tries_apart}
use Rattle.hay_history.proofs.Printed.{flushed_as, flushed_is}
use Rattle.hay_history.proofs.Refusing.{entries_then, lacks_then}
use Rattle.hay_history.proofs.ReplicaSteps.{change_same, effect, flushes_at}
use Rattle.hay_history.proofs.Sizes.{Cleared, cleared_same, cleared_step, cleared_trans, logs_joined}
use Rattle.hay_history.proofs.Trying.{one_own}
use Rattle.hay_history.proofs.Volumes.{SwapsIt, frozen_stays, moment, new_entries_at, replicas_many, volume_at_moment}

-- WHERE A LINE MET A VOLUME WITHOUT ROOM

module _ (c : Course) (v : ℕ) where
  -- the volume refused so at this moment, where the refusal is for want of room on it
  abbrev pub RefusedAt : ℕ → ℕ → Refused → Type 0
  RefusedAt size n r = (m end need : ℕ) → r ≡ NoRoom v m end need → refusal_then c v n size ≡ Some r

  -- a moment of the line at which the volume refused as the refusals tell
  pub record RoomMet (size : ℕ) (refused : List Refused) : Type 0 where
    pub moment : ℕ
    pub seen : IsMoment c v moment
    pub each : Each (RefusedAt size moment) refused

  -- a refusal of another try is not of this volume
  of_other : (size n u : ℕ) (r : Refused) → SeesRefusal c size u r → (u ≡ v → ⊥) → RefusedAt size n r
  of_other size n u r sees other m end need is =
      absurd (other (refused_room c size u v m end need sees.moment (sees.is ∙ ap (λ (x : Refused). Some x) is)).0)

  others : (size n : ℕ) (tries : List ℕ) (refused : List Refused) → AllZip (SeesRefusal c size) tries refused → Each (λ u. v ≢ u) tries → Each (RefusedAt size n) refused
  others size n [] [] zip apart = tt
  others size n (u ∷ tries) (r ∷ refused) zip apart = (of_other size n u r zip.0 (λ e. apart.0 (sym e)), others size n tries refused zip.1 apart.1)
  others size n [] (r ∷ refused) zip apart = absurd zip
  others size n (u ∷ tries) [] zip apart = absurd zip

  tries_met : (size now : ℕ) → IsMoment c v now → (tries : List ℕ) (refused : List Refused) → EachPair ◌≢◌ tries → AllZip (SeesRefusal c size) tries refused
      → RoomMet size refused
  tries_met size now seen [] [] apart zip = record { moment = now; seen = seen; each = tt }
  tries_met size now seen (u ∷ tries) (r ∷ refused) apart zip = elim (cases_eq u v) [
    | inl same ↦ record {
      moment = (zip.0).moment;
      seen = subst (λ (w : ℕ). IsMoment c w (zip.0).moment) same (zip.0).seen;
      each = (
        (λ m end need is. subst (λ (w : ℕ). refusal_then c w (zip.0).moment size ≡ Some r) same (zip.0).is),
        others size (zip.0).moment tries refused zip.1 (subst (λ (w : ℕ). Each (λ x. w ≢ x) tries) same apart.0),
      );
    }
    | inr other ↦
        let rest = tries_met size now seen tries refused apart.1 zip.1 in
        record { moment = rest.moment; seen = rest.seen; each = (of_other size rest.moment u r zip.0 other, rest.each) }
  ]
  tries_met size now seen [] (r ∷ refused) apart zip = absurd zip
  tries_met size now seen (u ∷ tries) [] apart zip = absurd zip

  home_met : (size now : ℕ) (pair : Pair) (refused : List Refused) → IsMoment c v now → HomeRefuses c pair size refused → RoomMet size refused
  home_met size now pair [] seen home = absurd home
  home_met size now pair (r ∷ []) seen home = tries_met size now seen (home.1 ∷ []) (r ∷ []) (tt, tt) (home.3, tt)
  home_met size now pair (r ∷ next ∷ rest) seen home = absurd home

  put_met : (size now : ℕ) (pair : Pair) (refused : List Refused) → IsMoment c v now → PutRefused c pair size refused → RoomMet size refused
  put_met size now pair refused seen did = elim did.because [
    | inl tries ↦ tries_met size now seen (all_tries c.settings pair) refused (tries_apart c.settings pair) tries.0.1
    | inr home ↦ home_met size now pair refused seen home
  ]

  full_get : (url : UrlParts) (o : Option ℕ) (refused : List Refused) → GetDid c url o (reply.Full refused) → ⊥
  full_get url None refused did = did
  full_get url (Some start) refused did = did.0

  full_flush : (u m : ℕ) (o : Option ℕ) (refused : List Refused) → FlushDid c u m o (reply.Full refused) → ⊥
  full_flush u m None refused did = did
  full_flush u m (Some j) refused did = did

  full_compact : (u m : ℕ) (o : Option ℕ) (refused : List Refused) → CompactDid c u m o (reply.Full refused) → ⊥
  full_compact u m None refused did = did
  full_compact u m (Some j) refused did = did

  -- a line whose reply tells that the volume lacked room saw it so at a moment
  pub room_met : (now : ℕ) → IsMoment c v now → (it : Item) (r : Reply) → ItemDid c it r → (size : ℕ) × RoomMet size (refusals_of r)
  room_met now seen (asks.Command (command.Put pair bytes)) (reply.Full refused) did = (length bytes, put_met (length bytes) now pair refused seen did.0)
  room_met now seen (asks.Command (command.Get url)) (reply.Full refused) did = absurd (full_get url (replica_on c.settings url.volume url.machine) refused did)
  room_met now seen (asks.Command (command.Flush u m)) (reply.Full refused) did = absurd (full_flush u m (replica_on c.settings u m) refused did)
  room_met now seen (asks.Command (command.Compact u m)) (reply.Full refused) did = absurd (full_compact u m (replica_on c.settings u m) refused did)
  room_met now seen asks.Bad (reply.Full refused) did = let clash : reply.Full refused ≡ reply.BadLine = did.0 in absurd cc
  room_met now seen it (reply.Full refused) did = search
  room_met now seen it r did = (0, record { moment = now; seen = seen; each = tt })

-- WHERE EACH LINE MET IT

module _ {settings : Settings} {k : Known} {items : List LaneItem} {history : History} {t : Known} (h : CameInLanes settings k items history t)
    (v : ℕ) (below : v < settings.volumes) where
  abbrev then : ℕ → VolumeKnown
  then n = volume_at_moment settings k history v n

  abbrev front_at : ℕ → ℕ
  front_at n = length (then n).log

  -- in the line's own step behind this moment it flushed so many records of replica j
  record FlushedIn (item : LaneItem) (n j number : ℕ) : Type 0 where
    step : Step
    mine : Contains (own (course_of h item) v) (n, step)
    number_is : number ≡ (replica_at (then n) j).bare
    none_left : (replica_at (then (n + 1)) j).bare ≡ 0
    log : (then (n + 1)).log ≡ (then n).log

  -- the line met the volume at this moment, where it was as the line tells
  record MetAt (item : LaneItem) (n : ℕ) : Type 0 where
    among : Contains items item
    seen : IsMoment (course_of h item) v n
    room : Each (LackedRoom settings k items t v (front_at n) item) (refusals_of item.reply)
    flushed : (j : ℕ) → j < settings.replicas → Each (FlushedIn item n j) (flushed_on v (machine_of settings v j) item)

  -- a swap of the replica before a moment at which a line saw the volume thawed is that of a line that may have come before it
  swapped_before : (item : LaneItem) → Contains items item → ((m : ℕ) → made_on v m item ≡ []) → (n : ℕ) → IsMoment (course_of h item) v n → (then n).frozen ≡ None
      → (j : ℕ) → j < settings.replicas → Found (SwapsIt j) (first_of settings k v) (history.volumes v) n → SwappedBefore settings items v item j
  swapped_before item among none n seen thawed j within found =
      let narrow : settings.replicas ≤ settings.machines = (h.regular).machines in
      let swap = swap_line h v j below within narrow 0 n (record {
        place = found.place;
        low = omega arith;
        high = found.below;
        step = found.step;
        at = found.at;
        end = (found.did).0;
        cells = (found.did).1;
        freezes = (found.did).2;
        is = (found.did).3;
      }) in
      elim swap.which [
        | inl made ↦ (
          swap.line,
          swap.among,
          made,
          precedes h v j below within narrow swap.line item swap.among among
              (λ same. made (ap (made_on v (machine_of settings v j)) same ∙ none (machine_of settings v j)))
              (λ later.
              let order = later.volumes v in
              let from = swap.since in
              let high = swap.high in
              let to = seen.1 in
              omega (arith, order, from, high, to)),
        )
        | inr hidden ↦
            let high = swap.high in
            absurd (none-some (hidden.0).0 (sym thawed ∙ frozen_stays h v (swap.place + 1) n (hidden.0).0 below (omega (arith, high)) (hidden.0).1))
      ]

  lacked : (item : LaneItem) → Contains items item → ((m : ℕ) → made_on v m item ≡ []) → (size n : ℕ) → IsMoment (course_of h item) v n → (r : Refused)
      → RefusedAt (course_of h item) v size n r → LackedRoom settings k items t v (front_at n) item r
  lacked item among none size n seen (NoRoom u m end need) refused = λ same.
      let is : NoRoom u m end need ≡ NoRoom v m end need = ap (λ (w : ℕ). NoRoom w m end need) same in
      let because = refused m end need is ∙ ap (λ (x : Refused). Some x) is in
      let thawed = (thawed_of (then n).frozen (drained_of settings k v) (refused_room (course_of h item) size v v m end need n because).1).0 in
      lacks_then h v below (SwappedBefore settings items v item) n size m end need
      (λ j within was found. swapped_before item among none n seen thawed j within found) because
  lacked item among none size n seen (Closed u m) refused = tt

  flush_met : (item : LaneItem) → Contains items item → (one : FlushedOne (course_of h item) v item) → (j : ℕ) → j < settings.replicas
      → Each (FlushedIn item (one.step).place j) (flushed_on v (machine_of settings v j) item)
  flush_met item among one j within =
      subst (λ (xs : List ℕ). Each (FlushedIn item (one.step).place j) xs) (sym (flushed_is (course_of h item) v j item (h.regular).machines within one))
      (cond_both (one.j == j) ((replica_at (then (one.step).place) one.j).bare ∷ []) [] (Each (FlushedIn item (one.step).place j))
      (λ same. (here (eqb-true one.j j same), tt)) (λ other. tt))
    where
      leads : Leads settings v (tag_of item) (Did.Flushes one.j) (standing (course_of h item) v (one.step).place) (standing (course_of h item) v ((one.step).place + 1))
      leads = one_leads h item v (Did.Flushes one.j) below among one.step

      here : one.j ≡ j → FlushedIn item (one.step).place j (replica_at (then (one.step).place) one.j).bare
      here same = record {
        step = (one.step).step;
        mine = one_own (course_of h item) v (Did.Flushes one.j) one.step;
        number_is = ap (λ (i : ℕ). (replica_at (then (one.step).place) i).bare) same;
        none_left = ap (λ (volume : VolumeKnown). (replica_at volume j).bare) leads.3
            ∙ ap (λ (r : ReplicaKnown). r.bare) (change_same (then (one.step).place) one.j j (with_bare 0) same (omega (arith, replicas_many h v (one.step).place below, within)));
        log = ap (λ (volume : VolumeKnown). volume.log) leads.3;
      }

  -- a line that made and flushed nothing of the volume
  quiet_met : (item : LaneItem) → Contains items item → ((m : ℕ) → (made_on v m item ≡ []) × (flushed_on v m item ≡ [])) → (n : ℕ) × MetAt item n
  quiet_met item among none =
      let answer = answered h item among in
      let found = room_met (course_of h item) v ((h.from item.line).volumes v) (omega arith, (answer.later).volumes v) item.item item.reply answer.did in
      let met = found.1 in (
        met.moment,
        record {
          among = among;
          seen = met.seen;
          room = each_weaker (RefusedAt (course_of h item) v found.0 met.moment) (LackedRoom settings k items t v (front_at met.moment) item)
              (λ r. lacked item among (λ m. (none m).0) found.0 met.moment met.seen r) (refusals_of item.reply) met.each;
          flushed = λ j within. subst (λ (xs : List ℕ). Each (FlushedIn item met.moment j) xs) (sym (none (machine_of settings v j)).1) tt;
        },
      )

  -- a reply without refusals
  no_refusals : (item : LaneItem) (n : ℕ) (r : Reply) → item.reply ≡ r → refusals_of r ≡ [] → Each (LackedRoom settings k items t v (front_at n) item) (refusals_of item.reply)
  no_refusals item n r said none =
      subst (λ (refused : List Refused). Each (LackedRoom settings k items t v (front_at n) item) refused) (sym (ap refusals_of said ∙ none)) tt

  met : (item : LaneItem) → Contains items item → (n : ℕ) × MetAt item n
  met item among = elim (line_did (course_of h item) v item (answered h item among).did) [
    | inl quiet ↦ quiet_met item among quiet.1
    | inr some ↦ elim some [
      | inl one ↦
          let bounds = one_within (course_of h item) item v (Did.Flushes one.j) one.step (answered h item among) in (
            (one.step).place,
            record {
              among = among;
              seen = (bounds.0, omega (arith, bounds.1));
              room = no_refusals item (one.step).place _ one.said refl;
              flushed = flush_met item among one;
            },
          )
      | inr one ↦
          let n : ℕ = (h.from item.line).volumes v in (
            n,
            record {
              among = among;
              seen = (omega arith, ((answered h item among).later).volumes v);
              room = no_refusals item n _ one.said refl;
              flushed = λ j within. subst (λ (xs : List ℕ). Each (FlushedIn item n j) xs) (sym (flushed_as v (machine_of settings v j) item _ one.said)) tt;
            },
          )
    ]
  ]

  chosen : (place : ℕ → ℕ) × Each (λ item. MetAt item (place item.line)) items
  chosen = line_choice MetAt 0 items h.distinct (each_from (λ item. (n : ℕ) × MetAt item n) items met)

  abbrev front_of : ℕ → ℕ
  front_of line = front_at (chosen.0 line)

  met_by : (item : LaneItem) → Contains items item → MetAt item (chosen.0 item.line)
  met_by item among = each_in (λ item. MetAt item (chosen.0 item.line)) items item chosen.1 among

  tells : (item : LaneItem) → Contains items item
      → Shows (fronts_told front_of v) (log_from h v) (log_to h v) (length (volume_at k v).log) (length (volume_at t v).log) item
  tells item among =
      let shows = volume_shows h v below item among in
      let at = met_by item among in
      let n : ℕ = chosen.0 item.line in
      record {
        starts = shows.starts;
        stops = shows.stops;
        within = cond_both (tells_unprinted v item.reply) (printed (front_of item.line) false ∷ []) (volume_print v item.reply) (Each (Within (log_from h v item) (log_to h v item)))
            (λ told. ((log_grows h v ((h.from item.line).volumes v) n below (at.seen).0, log_grows h v n ((h.to item.line).volumes v) below (at.seen).1), tt))
            (λ other. shows.within);
        once = cond_both (tells_unprinted v item.reply) (printed (front_of item.line) false ∷ []) (volume_print v item.reply) (EachPair InOrder)
            (λ told. (tt, tt)) (λ other. shows.once);
      }

  -- RECORDS

  module _ (j : ℕ) (within : j < settings.replicas) where
    cleared_between : (n m : ℕ) → n ≤ m → (flushes : ℕ) × Cleared j (moment settings k history v n) flushes (moment settings k history v m)
    cleared_between n m le =
        along settings v (λ a b. j < length (a.volume).replicas → (flushes : ℕ) × Cleared j a flushes b) (first_of settings k v) (history.volumes v)
        (λ a inside. (0, cleared_same j a))
        (λ a b c x y inside.
        let first = x inside in
        let rest = y (subst (λ (many : ℕ). j < many) (sym (first.1).many) inside) in
        (first.0 + rest.0, cleared_trans j a b c first.0 rest.0 first.1 rest.1))
        (λ tag did a b leads rises inside. (flushes_at j a did, cleared_step j a did b (effect settings v j tag did a b leads inside)))
        (h.follows v below) n m le (omega (arith, replicas_many h v n below, within))

    -- the puts until a moment, and those from there to another
    joined : (n m : ℕ) (until since : List Logged) → (then n).log ≡ (volume_at k v).log ++ until → (then m).log ≡ (then n).log ++ since
        → (then m).log ≡ (volume_at k v).log ++ (until ++ since)
    joined n m until since is more = logs_joined (volume_at k v) (then n) (then m) until since is more

    puts_then : (n : ℕ) (until : List Logged) → (then n).log ≡ (volume_at k v).log ++ until → puts_until k t v (front_at n) ≡ count_by is_put until
    puts_then n until is = ap (λ (log : List Logged). count_by is_put log) (entries_then h v below n until is)

    both_counted : (xs ys : List Logged) → count_by is_put (xs ++ ys) ≡ count_by is_put xs + count_by is_put ys
    both_counted xs ys = sum_by-append (λ (l : Logged). cond (is_put l) 1 0) xs ys

    -- since the puts of before the block
    since_first : (item : LaneItem) (n number : ℕ) → FlushedIn item n j number → number ≤ (replica_at (volume_at k v) j).bare + puts_until k t v (front_at n)
    since_first item n number flushed =
        let until = (cleared_between 0 n (omega arith)).1 in
        omega (arith, until.most, flushed.number_is, puts_then n until.new until.log)

    -- since an earlier flush
    since_flush : (a b : LaneItem) (n m number other : ℕ) → FlushedIn a n j number → FlushedIn b m j other → n < m → FlushedSince k t v (front_at n) (front_at m) other
    since_flush a b n m number other first second less =
        let until = (cleared_between 0 n (omega arith)).1 in
        let since = (cleared_between (n + 1) m (omega (arith, less))).1 in
        let log : (then m).log ≡ (then n).log ++ since.new = since.log ∙ ap (λ (log : List Logged). log ++ since.new) first.log in
        omega (
          arith,
          since.most,
          first.none_left,
          second.number_is,
          puts_then n until.new until.log,
          puts_then m (until.new ++ since.new) (joined n m until.new since.new until.log log),
          both_counted until.new since.new,
        )

    -- what is left since a flush
    left_since : (a : LaneItem) (n number : ℕ) → FlushedIn a n j number
        → (replica_at (volume_at t v) j).bare + puts_until k t v (front_at n) ≤ count_by is_put (new_entries k t v)
    left_since a n number first =
        let last : ℕ = length (history.volumes v) in
        let inside = slice_get_within (history.volumes v) n first.step (own_at (history.volumes v) a.line (n, first.step) first.mine).0 in
        let until = (cleared_between 0 n (omega arith)).1 in
        let since = (cleared_between (n + 1) last (omega (arith, inside))).1 in
        let is_last : volume_at t v ≡ then last = (h.volumes v below).volume in
        let bare : (replica_at (volume_at t v) j).bare ≡ (replica_at (then last) j).bare = ap (λ (volume : VolumeKnown). (replica_at volume j).bare) is_last in
        let log : (then last).log ≡ (then n).log ++ since.new = since.log ∙ ap (λ (log : List Logged). log ++ since.new) first.log in
        let all : new_entries k t v ≡ until.new ++ since.new =
        new_entries_at k t v (until.new ++ since.new)
        (ap (λ (volume : VolumeKnown). volume.log) is_last ∙ joined n last until.new since.new until.log log) in
        let counted : count_by is_put (new_entries k t v) ≡ count_by is_put (until.new ++ since.new) = ap (λ (log : List Logged). count_by is_put log) all in
        omega (arith, bare, counted, since.most, first.none_left, puts_then n until.new until.log, both_counted until.new since.new)

    abbrev flushes : LaneItem → List ℕ
    flushes item = flushed_on v (machine_of settings v j) item

    flushes_met : (item : LaneItem) → Contains items item → Each (FlushedIn item (chosen.0 item.line) j) (flushes item)
    flushes_met item among = (met_by item among).flushed j within

    place_within : (item : LaneItem) → Contains items item → (n number : ℕ) → FlushedIn item n j number
        → ((h.from item.line).volumes v ≤ n) × (n < (h.to item.line).volumes v)
    place_within item among n number flushed =
        each_in (λ (at : ℕ × Step). ((h.from item.line).volumes v ≤ at.0) × (at.0 < (h.to item.line).volumes v)) (own (course_of h item) v) (n, flushed.step)
        ((answered h item among).steps v) flushed.mine

    either_first : (a b : LaneItem) → Contains items a → Contains items b → a.line ≢ b.line → (a.lane ≡ b.lane → IsLater (h.to a.line) (h.from b.line))
        → (number other : ℕ) → FlushedIn a (chosen.0 a.line) j number → FlushedIn b (chosen.0 b.line) j other
        → FlushedSince k t v (front_of a.line) (front_of b.line) other ⊎ ((a.lane ≢ b.lane) × FlushedSince k t v (front_of b.line) (front_of a.line) number)
    either_first a b in_a in_b apart later number other first second = elim (cases_lt (chosen.0 a.line) (chosen.0 b.line)) [
      | inl less ↦ inl (since_flush a b (chosen.0 a.line) (chosen.0 b.line) number other first second less)
      | inr more ↦ elim (cases_lt (chosen.0 b.line) (chosen.0 a.line)) [
        | inl less ↦ inr (
          (λ same.
              let order = (later same).volumes v in
              let until = (place_within a in_a (chosen.0 a.line) number first).1 in
              let from = ((met_by b in_b).seen).0 in
              omega (arith, order, until, from, less)),
          since_flush b a (chosen.0 b.line) (chosen.0 a.line) other number second first less,
        )
        | inr least ↦
            let same : chosen.0 b.line ≡ chosen.0 a.line = omega (arith, more, least) in
            absurd (apart (one_line h a b v (chosen.0 a.line) first.step second.step first.mine
            (subst (λ (n : ℕ). Contains (own (course_of h b) v) (n, second.step)) same second.mine)))
      ]
    ]

    records_legal : RecordsAreLegal k items t v (machine_of settings v j) front_of (replica_at (volume_at k v) j) (replica_at (volume_at t v) j)
    records_legal = record {
      first = each_from _ items (λ a among.
          each_weaker (FlushedIn a (chosen.0 a.line) j) _ (λ number flushed. since_first a (chosen.0 a.line) number flushed) (flushes a) (flushes_met a among));
      between = pair_by (λ a b. (a.line ≢ b.line) × (a.lane ≡ b.lane → IsLater (h.to a.line) (h.from b.line))) _ items
          (λ a b in_a in_b both.
          each_weaker (FlushedIn a (chosen.0 a.line) j) _ (λ number first.
          each_weaker (FlushedIn b (chosen.0 b.line) j) _ (λ other second. either_first a b in_a in_b both.0 both.1 number other first second)
          (flushes b) (flushes_met b in_b)) (flushes a) (flushes_met a in_a))
          (pair_both (λ a b. a.line ≢ b.line) (λ a b. a.lane ≡ b.lane → IsLater (h.to a.line) (h.from b.line)) items h.distinct h.«order»);
      last = each_from _ items (λ a among.
          each_weaker (FlushedIn a (chosen.0 a.line) j) _ (λ number flushed. left_since a (chosen.0 a.line) number flushed) (flushes a) (flushes_met a among));
    }

  pub meetings_legal : MeetingsAreLegal settings k items t v
  meetings_legal = record {
    met = front_of;
    fronts = each_from _ all_lanes (λ lane in_lanes.
        lane_goes_on (fronts_told front_of v) (log_from h v) (log_to h v) (length (volume_at k v).log) (length (volume_at t v).log) lane items
        (each_from _ items tells) (logs_later h v below));
    room = each_weaker (λ item. MetAt item (chosen.0 item.line)) (λ item. Each (LackedRoom settings k items t v (front_of item.line) item) (refusals_of item.reply))
        (λ item at. at.room) items chosen.1;
    records = each_below
        (λ j. RecordsAreLegal k items t v (machine_of settings v j) front_of (replica_at (volume_at k v) j) (replica_at (volume_at t v) j))
        settings.replicas records_legal;
  }
