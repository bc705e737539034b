-- The generations that a block made of a replica.
use Rattle.std.proofs.Common.{◌≡◌, ◌≢◌, ◌⊎◌, inl, inr, ℕ, ◌<◌, ◌≤◌, ◌+◌, ◌-◌, ◌==◌, ◌&&◌, Bool, true, false, cond, List, [], ◌∷◌, ◌++◌, length, slice_get, Contains, flat_map}
use Rattle.std.proofs.Common.{Option, Some, None, refl, sym, ap, subst, ◌∙◌, arith, eq-eqb, eqb-true}
use Rattle.std.specs.List.{AllByRecursion as Each}
use Rattle.std.proofs.lemmas.Bool.{cases_eq, cond_both}
use Rattle.std.proofs.lemmas.List.Concat.{length-flat_map}
use Rattle.std.proofs.lemmas.List.Elements.{Contains-append_right}
use Rattle.std.proofs.lemmas.Option.{none-some, slice_get_within}
use Rattle.hay_needle.specs.declared.settings.Settings.{Settings}
use Rattle.hay_needle.specs.declared.settings.TheConstants.{LAST_GENERATION}
use Rattle.hay_url.specs.declared.Url.{Url as UrlParts}
use Rattle.hay_script.specs.declared.Command.TheVariants as command
use Rattle.hay_reply.specs.declared.Reply.{Reply}
use Rattle.hay_reply.specs.declared.Reply.TheVariants as reply
use Rattle.hay_legal.specs.declared.known.Known.{Known}
use Rattle.hay_legal.specs.declared.known.ReplicaKnown.{ReplicaKnown}
use Rattle.hay_legal.specs.declared.known.VolumeKnown.{VolumeKnown}
use Rattle.hay_legal.specs.declared.turn.Item.{Item}
use Rattle.hay_legal.specs.declared.turn.Item.TheVariants as asks
use Rattle.hay_legal.specs.declared.turn.LaneItem.{LaneItem}
use Rattle.hay_legal.specs.Known.{EachPair, all_lanes, machine_of, replica_at, replica_on, volume_at}
use Rattle.hay_legal.specs.Plain.{Names, first_machine}
use Rattle.hay_legal.specs.Blocks.{GenerationsAreLegal, InOrder, Printed, froze_at_compact, generation_print, is_wanting, lane_items, made_on, printed, tag_of}
use Rattle.hay_history.specs.LaneSteps.{Did, Leads, Standing, Step}
use Rattle.hay_history.proofs.Trying.{changed}
use Rattle.hay_history.specs.Histories.{Course, History, IsLater, IsMoment, behind, first_of, own, standing}
use Rattle.hay_history.specs.Commands.{CameInLanes, CompactDid, FlushDid, GetDid, ItemDid, MetBusy, MetWorn}
use Rattle.hay_history.proofs.Histories.{behind_step, leads_at}
use Rattle.hay_history.proofs.Lists.{each_flat, each_from, each_in, in_rest, is_first, pair_by, pair_flat, pair_weaker}
use Rattle.hay_history.proofs.Fronts.{Within, lane_in_order}
use Rattle.hay_history.proofs.Lines.{answered, course_of, own_at, own_leads, stops}
use Rattle.hay_history.proofs.Own.{line_of}
use Rattle.hay_history.proofs.Placing.{on_machine, same_machine}
use Rattle.hay_history.proofs.Volumes.{Persists, frozen_stays, generation_grows, persists_on, replicas_many, run_goal}
use Rattle.hay_history.proofs.Changes.{leads_becomes}
use Rattle.hay_history.proofs.Changes.Becomes.{Goes, Grows, IsFlushed, IsPoised, IsStuck, IsSwapped, Rests, Starts, Stays}
use Rattle.hay_history.proofs.Weights.{along_weighed, weigh, weighs_some}
use Rattle.hay_history.proofs.Doings.{CompactedOne, LineDid, line_did}
use Rattle.hay_history.proofs.ReplicaSteps.{effect, hidden_at, made_at, other_is, same_is, swaps_at}
use Rattle.hay_history.proofs.Sizes.{Grown, generation_of, grown_same, grown_step, grown_trans}
use Rattle.hay_history.proofs.Printed.{made_as, made_is, made_printed, printed_weight}

three : (n m : ℕ) → (n < m) ⊎ (n ≡ m) ⊎ (m < n)
three n m = grind arith

abbrev number_of : ReplicaKnown → ℕ
number_of r = r.generation

-- SWAPS THAT A REPLY TELLS, AND OTHERS

hidden_is : (j : ℕ) (a : Standing) (did : Did) → 0 < hidden_at j a did → (end : ℕ) × (cells : ℕ) × (did ≡ Did.Swaps j end cells true)
hidden_is j a (Did.Swaps i end cells true) some = elim (cases_eq i j) [
  | inl same ↦ (end, cells, ap (λ (n : ℕ). Did.Swaps n end cells true) same)
  | inr other ↦ absurd (omega (arith, some, other_is i j 1 other))
]
hidden_is j a _ some = absurd (omega (arith, some))

split : (j : ℕ) (a : Standing) (did : Did) → swaps_at j a did ≡ made_at j a did + hidden_at j a did
split j a (Did.Swaps i end cells true) = omega arith
split j a _ = omega arith

swaps_split : (j : ℕ) (before : Standing) (steps : List Step) → weigh (swaps_at j) before steps ≡ weigh (made_at j) before steps + weigh (hidden_at j) before steps
swaps_split j before [] = omega arith
swaps_split j before (step ∷ steps) = omega (arith, split j before step.did, swaps_split j step.after steps)

-- WHAT STANDS OF A REPLICA

-- over steps the number of a volume's replicas stays
pub within_then : {settings : Settings} {k : Known} {items : List LaneItem} {history : History} {t : Known} (h : CameInLanes settings k items history t)
    (v n j : ℕ) → v < settings.volumes → j < settings.replicas → j < length ((behind (first_of settings k v) (history.volumes v) n).volume).replicas
within_then h v n j below within = subst (λ (m : ℕ). j < m) (sym (replicas_many h v n below)) within

abbrev pub last_of : Settings → Known → History → ℕ → Standing
last_of settings k history v = behind (first_of settings k v) (history.volumes v) (length (history.volumes v))

-- how far a replica grew in the block
pub grown : {settings : Settings} {k : Known} {items : List LaneItem} {history : History} {t : Known} (h : CameInLanes settings k items history t)
    (v j : ℕ) → v < settings.volumes → j < settings.replicas
    → Grown j (first_of settings k v) (weigh (swaps_at j) (first_of settings k v) (history.volumes v)) (last_of settings k history v)
grown {settings} {k} {items} {history} {t} h v j below within =
    along_weighed settings v (swaps_at j) (λ a n b. j < length (a.volume).replicas → Grown j a n b) (first_of settings k v) (history.volumes v)
    (λ a inside. grown_same j a)
    (λ a b c n m x y inside. grown_trans j a b c n m (x inside) (y (subst (λ (m : ℕ). j < m) (sym (x inside).many) inside)))
    (λ i s a at leads falls inside. grown_step j a s.did s.after (effect settings v j s.tag s.did a s.after leads inside))
    (h.follows v below)
    (omega (arith, (h.store).replicas v below, within))

-- GENERATIONS

-- a replica's generation is as it was, or has a number
abbrev Numbered : ℕ → VolumeKnown → VolumeKnown → Type 0
Numbered j a b = ((replica_at b j).generation ≡ (replica_at a j).generation) ⊎ ((replica_at b j).generation ≤ LAST_GENERATION)

numbered_persists : (j : ℕ) → Persists (Numbered j)
numbered_persists j = record {
  same = λ a. inl refl;
  trans = λ a b c h g. elim g [ inr least ↦ inr least | inl same ↦ elim h [ inl before ↦ inl (same ∙ before) | inr least ↦ inr (omega (arith, same, least)) ] ];
  each = λ settings v tag did a b leads. elim (leads_becomes settings v tag did a b leads j) [
    | Stays e ↦ inl (ap number_of e)
    | Grows pair cookie bytes is e ↦ inl (ap number_of e)
    | Rests e ↦ inl (ap number_of e)
    | IsFlushed is e ↦ inl (ap number_of e)
    | IsStuck is e ↦ inl (ap number_of e)
    | Starts is none less e ↦ inl (ap number_of e)
    | Goes n run is stands within e ↦ inl (ap number_of e)
    | IsSwapped end cells freezes is stands sizes e ↦
        let next : (replica_at b.volume j).generation ≡ (replica_at a.volume j).generation + 1 = ap number_of e in
        inr (omega (arith, next, stands.2))
    | IsPoised m is e ↦ inl (ap number_of e)
  ];
}

numbered : {settings : Settings} {k : Known} {items : List LaneItem} {history : History} {t : Known} (h : CameInLanes settings k items history t)
    (v j : ℕ) → v < settings.volumes → Numbered j (volume_at k v) (volume_at t v)
numbered h v j below = persists_on h (Numbered j) (numbered_persists j) v 0 below

-- a line made this generation
record MadeAt (c : Course) (v j g : ℕ) : Type 0 where
  place : ℕ
  step : Step
  end : ℕ
  cells : ℕ
  own : Contains (own c v) (place, step)
  is : step.did ≡ Did.Swaps j end cells false
  number : g ≡ generation_of (standing c v place) j + 1

made_one : (c : Course) (v j : ℕ) (item : LaneItem) (one : CompactedOne c v item) (b : Bool) → (one.j == j) ≡ b
    → Each (MadeAt c v j) (cond b (((replica_at (standing c v (one.swaps).place).volume one.j).generation + 1) ∷ []) [])
made_one c v j item one false same = tt
made_one c v j item one true same =
    let to = one.swaps in
    let this : one.j ≡ j = eqb-true one.j j same in (
      record {
        place = to.place;
        step = to.step;
        end = one.end;
        cells = one.cells;
        own = changed c v (to.place, to.step) (subst (λ (xs : List (ℕ × Step)). Contains xs (to.place, to.step)) (sym (to.ran).steps)
            (in_rest ((to.ran).place, (to.ran).first) ((to.ran).middle ++ (to.place, to.step) ∷ []) (to.place, to.step)
            (Contains-append_right (to.ran).middle ((to.place, to.step) ∷ []) (to.place, to.step) (is_first (to.place, to.step) []))));
        is = to.is ∙ ap (λ (n : ℕ). Did.Swaps n one.end one.cells false) this;
        number = ap (λ (n : ℕ). generation_of (standing c v to.place) n + 1) this;
      },
      tt,
    )

made_each : (c : Course) (v j : ℕ) (item : LaneItem) → (c.settings).replicas ≤ (c.settings).machines → j < (c.settings).replicas → LineDid c v item
    → Each (MadeAt c v j) (made_on v (machine_of c.settings v j) item)
made_each c v j item narrow within h = elim h [
  | inl quiet ↦ subst (λ (xs : List ℕ). Each (MadeAt c v j) xs) (sym (quiet.1 (machine_of c.settings v j)).0) tt
  | inr some ↦ elim some [
    | inl one ↦ subst (λ (xs : List ℕ). Each (MadeAt c v j) xs) (sym (made_as v (machine_of c.settings v j) item _ one.said)) tt
    | inr one ↦ subst (λ (xs : List ℕ). Each (MadeAt c v j) xs) (sym (made_is c v j item narrow within one))
        (made_one c v j item one (one.j == j) refl)
  ]
]

-- a line prints one generation at most
made_alone : (R : ℕ → ℕ → Type 0) (v m line lane : ℕ) (it : _) (r : Reply) → EachPair R (made_on v m (record { line = line; lane = lane; item = it; reply = r }))
made_alone R v m line lane it (reply.Compacted v' m' g) = alone ((v' == v) && (m' == m))
  where
    alone : (b : Bool) → EachPair R (cond b (g ∷ []) [])
    alone true = (tt, tt)
    alone false = tt
made_alone R v m line lane it _ = tt

one_front : (b : Bool) (shown : Printed) → EachPair InOrder (cond b (shown ∷ []) [])
one_front true shown = (tt, tt)
one_front false shown = tt

-- a line prints one front of the generations at most
generation_once : (v m line lane : ℕ) (it : Item) (r : Reply) → EachPair InOrder (generation_print v m (line_of line lane it r))
generation_once v m line lane it (reply.Compacted v' m' g) = one_front ((v' == v) && (m' == m)) (printed g true)
generation_once v m line lane it (reply.Busy v' m' g) = one_front ((v' == v) && (m' == m)) (printed (g - 1) false)
generation_once v m line lane it (reply.Worn v' m') = one_front ((v' == v) && (m' == m)) (printed LAST_GENERATION false)
generation_once v m line lane it _ = tt

pub both_true : (a b : Bool) → (a && b) ≡ true → (a ≡ true) × (b ≡ true)
both_true true b e = (refl, e)
both_true false b e = let clash : false ≡ true = e in absurd cc

-- only a compact is busy or worn
busy_get : (c : Course) (url : UrlParts) (o : Option ℕ) (v m g : ℕ) → GetDid c url o (reply.Busy v m g) → ⊥
busy_get c url None v m g did = did
busy_get c url (Some start) v m g did = did.0

busy_flush : (c : Course) (u w : ℕ) (o : Option ℕ) (v m g : ℕ) → FlushDid c u w o (reply.Busy v m g) → ⊥
busy_flush c u w None v m g did = did
busy_flush c u w (Some j) v m g did = did

worn_get : (c : Course) (url : UrlParts) (o : Option ℕ) (v m : ℕ) → GetDid c url o (reply.Worn v m) → ⊥
worn_get c url None v m did = did
worn_get c url (Some start) v m did = did.0

worn_flush : (c : Course) (u w : ℕ) (o : Option ℕ) (v m : ℕ) → FlushDid c u w o (reply.Worn v m) → ⊥
worn_flush c u w None v m did = did
worn_flush c u w (Some j) v m did = did

module _ {settings : Settings} {k : Known} {items : List LaneItem} {history : History} {t : Known} (h : CameInLanes settings k items history t)
    (v j : ℕ) (below : v < settings.volumes) (within : j < settings.replicas) (narrow : settings.replicas ≤ settings.machines) where
  made_by : (item : LaneItem) → Contains items item → Each (MadeAt (course_of h item) v j) (made_on v (machine_of settings v j) item)
  made_by item among = made_each (course_of h item) v j item narrow within (line_did (course_of h item) v item (answered h item among).did)

  -- the generation stands behind the step
  number_behind : (item : LaneItem) → Contains items item → (g : ℕ) → (made : MadeAt (course_of h item) v j g) → generation_of (standing (course_of h item) v (made.place + 1)) j ≡ g
  number_behind item among g made =
      let before : Standing = standing (course_of h item) v made.place in
      let after : Standing = standing (course_of h item) v (made.place + 1) in
      let leads = (own_leads h item v below among (made.place, made.step) made.own).0 in
      let grows = grown_step j before (made.step).did after (effect settings v j (tag_of item) (made.step).did before after leads (within_then h v made.place j below within)) in
      let one : swaps_at j before (made.step).did ≡ 1 = ap (swaps_at j before) made.is ∙ ap (λ (b : Bool). cond b 1 0) (eq-eqb j j refl) in
      omega (arith, grows.generation, one, made.number)

  place_within : (item : LaneItem) (g : ℕ) → (made : MadeAt (course_of h item) v j g) → made.place < length (history.volumes v)
  place_within item g made = slice_get_within (history.volumes v) made.place made.step (own_at (history.volumes v) item.line (made.place, made.step) made.own).0

  in_range : (item : LaneItem) → Contains items item → (g : ℕ) → MadeAt (course_of h item) v j g
      → (generation_of (first_of settings k v) j < g) × (g ≤ generation_of (last_of settings k history v) j)
  in_range item among g made =
      let low : generation_of (first_of settings k v) j ≤ generation_of (standing (course_of h item) v made.place) j = generation_grows h v 0 made.place j below (omega arith) in
      let high : generation_of (standing (course_of h item) v (made.place + 1)) j ≤ generation_of (last_of settings k history v) j =
      generation_grows h v (made.place + 1) (length (history.volumes v)) j below (omega (arith, place_within item g made)) in
      (omega (arith, low, made.number), omega (arith, high, number_behind item among g made))

  earlier : (a b : LaneItem) → Contains items a → (x y : ℕ) → (p : MadeAt (course_of h a) v j x) → (q : MadeAt (course_of h b) v j y) → p.place < q.place → x < y
  earlier a b in_a x y p q less =
      let grows : generation_of (standing (course_of h a) v (p.place + 1)) j ≤ generation_of (standing (course_of h b) v q.place) j =
      generation_grows h v (p.place + 1) q.place j below (omega (arith, less)) in
      omega (arith, grows, number_behind a in_a x p, q.number)

  places_differ : (a b : LaneItem) → a.line ≢ b.line → (x y : ℕ) → (p : MadeAt (course_of h a) v j x) → (q : MadeAt (course_of h b) v j y) → p.place ≡ q.place → ⊥
  places_differ a b differ x y p q same =
      let at_p = own_at (history.volumes v) a.line (p.place, p.step) p.own in
      let at_q = own_at (history.volumes v) b.line (q.place, q.step) q.own in
      let steps : Some p.step ≡ Some q.step = sym at_p.0 ∙ ap (slice_get (history.volumes v)) same ∙ at_q.0 in
      let step : p.step ≡ q.step = cc in
      differ (sym at_p.1 ∙ ap (λ (s : Step). (s.tag).line) step ∙ at_q.1)

  numbers_differ : (a b : LaneItem) → Contains items a → Contains items b → a.line ≢ b.line → (x y : ℕ) → MadeAt (course_of h a) v j x → MadeAt (course_of h b) v j y → x ≢ y
  numbers_differ a b in_a in_b differ x y p q same = elim (three p.place q.place) [
    | inl less ↦ absurd (omega (arith, same, earlier a b in_a x y p q less))
    | inr rest ↦ elim rest [
      | inl equal ↦ places_differ a b differ x y p q equal
      | inr more ↦ absurd (omega (arith, same, earlier b a in_b y x q p more))
    ]
  ]

  -- A swap behind which want of memory froze the volume comes behind each that a reply tells of.
  hidden_last : (item : LaneItem) → Contains items item → (g : ℕ) → MadeAt (course_of h item) v j g → 0 < weigh (hidden_at j) (first_of settings k v) (history.volumes v)
      → g < generation_of (last_of settings k history v) j
  hidden_last item among g made some = elim (three made.place q) [
    | inl earlier ↦
        let grows : generation_of (then (made.place + 1)) j ≤ generation_of (then q) j = generation_grows h v (made.place + 1) q j below (omega (arith, earlier)) in
        omega (arith, grows, number_behind item among g made, next, until_last)
    | inr rest ↦ elim rest [
      | inl same ↦
          let steps : Some made.step ≡ Some s = sym (own_at (history.volumes v) item.line (made.place, made.step) made.own).0 ∙ ap (slice_get (history.volumes v)) same ∙ at in
          let is : made.step ≡ s = cc in
          let clash : Did.Swaps j made.end made.cells false ≡ Did.Swaps j hides.0 hides.1 true = sym made.is ∙ ap (λ (x : Step). x.did) is ∙ hides.2 in
          absurd cc
      | inr later ↦
          let leads = (own_leads h item v below among (made.place, made.step) made.own).0 in
          let thawed = (subst (λ (d : Did). Leads settings v (tag_of item) d (then made.place) (then (made.place + 1))) made.is leads).0 in
          absurd (none-some (first_machine settings v) (sym thawed ∙ frozen_stays h v (q + 1) made.place (first_machine settings v) below (omega (arith, later)) frozen))
    ]
  ]
    where
      found : (i : ℕ) × (s : Step) × (slice_get (history.volumes v) i ≡ Some s) × (0 < hidden_at j (behind (first_of settings k v) (history.volumes v) i) s.did)
      found = weighs_some (hidden_at j) (first_of settings k v) (history.volumes v) some

      q : ℕ
      q = found.0

      s : Step
      s = found.1

      at : slice_get (history.volumes v) q ≡ Some s
      at = found.2

      then : ℕ → Standing
      then n = behind (first_of settings k v) (history.volumes v) n

      hides : (end : ℕ) × (cells : ℕ) × (s.did ≡ Did.Swaps j end cells true)
      hides = hidden_is j (then q) s.did found.3

      leads : Leads settings v s.tag (Did.Swaps j hides.0 hides.1 true) (then q) (then (q + 1))
      leads =
          subst (λ (b : Standing). Leads settings v s.tag (Did.Swaps j hides.0 hides.1 true) (then q) b) (sym (behind_step (first_of settings k v) (history.volumes v) q s at))
          (subst (λ (d : Did). Leads settings v s.tag d (then q) s.after) hides.2 (leads_at settings v (first_of settings k v) (history.volumes v) q s (h.follows v below) at).0)

      frozen : ((then (q + 1)).volume).frozen ≡ Some (first_machine settings v)
      frozen = ap (λ (volume : VolumeKnown). volume.frozen) leads.4

      next : generation_of (then (q + 1)) j ≡ generation_of (then q) j + 1
      next =
          let grows = grown_step j (then q) (Did.Swaps j hides.0 hides.1 true) (then (q + 1))
          (effect settings v j s.tag (Did.Swaps j hides.0 hides.1 true) (then q) (then (q + 1)) leads (within_then h v q j below within)) in
          omega (arith, grows.generation, same_is j j 1 refl)

      until_last : generation_of (then (q + 1)) j ≤ generation_of (last_of settings k history v) j
      until_last = generation_grows h v (q + 1) (length (history.volumes v)) j below (omega (arith, slice_get_within (history.volumes v) q s at))

  once : EachPair (λ g h. g ≢ h) (flat_map (made_on v (machine_of settings v j)) items)
  once = pair_flat (λ g h. g ≢ h) (made_on v (machine_of settings v j)) items
      (λ item among. made_alone (λ g h. g ≢ h) v (machine_of settings v j) item.line item.lane item.item item.reply)
      (pair_by (λ a b. a.line ≢ b.line) (λ a b. Each (λ x. Each (λ y. x ≢ y) (made_on v (machine_of settings v j) b)) (made_on v (machine_of settings v j) a)) items
      (λ a b in_a in_b differ.
      each_from _ (made_on v (machine_of settings v j) a) (λ x at_x. each_from _ (made_on v (machine_of settings v j) b) (λ y at_y.
      numbers_differ a b in_a in_b differ x y
      (each_in (MadeAt (course_of h a) v j) (made_on v (machine_of settings v j) a) x (made_by a in_a) at_x)
      (each_in (MadeAt (course_of h b) v j) (made_on v (machine_of settings v j) b) y (made_by b in_b) at_y))))
      h.distinct)

  number_made : weigh (made_at j) (first_of settings k v) (history.volumes v) ≡ length (flat_map (made_on v (machine_of settings v j)) items)
  number_made =
      sym (printed_weight h (made_at j) v (λ item. length (made_on v (machine_of settings v j) item)) below
      (λ item among did. made_printed (course_of h item) v j item narrow within did))
      ∙ sym (length-flat_map (made_on v (machine_of settings v j)) items)

  -- WHAT A LANE PRINTS OF GENERATIONS

  -- the generation when a line began, and when it ended
  abbrev number_from : LaneItem → ℕ
  number_from item = generation_of (standing (course_of h item) v ((h.from item.line).volumes v)) j

  abbrev number_to : LaneItem → ℕ
  number_to item = generation_of (standing (course_of h item) v ((h.to item.line).volumes v)) j

  made_within : (item : LaneItem) → Contains items item → (g : ℕ) → MadeAt (course_of h item) v j g → Within (number_from item) (number_to item) (printed g true)
  made_within item among g made =
      let bounds = each_in (λ (at : ℕ × Step). ((h.from item.line).volumes v ≤ at.0) × (at.0 < (h.to item.line).volumes v)) (own (course_of h item) v)
      (made.place, made.step) ((answered h item among).steps v) made.own in
      let until = bounds.1 in
      let low = generation_grows h v ((h.from item.line).volumes v) made.place j below bounds.0 in
      let high = generation_grows h v (made.place + 1) ((h.to item.line).volumes v) j below (omega (arith, until)) in
      let number = made.number in
      let behind_it = number_behind item among g made in
      (omega (arith, low, number), omega (arith, high, behind_it))

  seen_within : (item : LaneItem) (n g : ℕ) → IsMoment (course_of h item) v n → g ≡ generation_of (standing (course_of h item) v n) j
      → Within (number_from item) (number_to item) (printed g false)
  seen_within item n g seen is =
      let low = generation_grows h v ((h.from item.line).volumes v) n j below seen.0 in
      let high = generation_grows h v n ((h.to item.line).volumes v) j below seen.1 in
      (omega (arith, low, is), omega (arith, high, is))

  -- a compact of the replica that a reply names
  of_replica : (P : ℕ → ℕ → Type 0) (u m v' m' i : ℕ) → replica_on settings u m ≡ Some i → Names u m v' m' → ((v' == v) && (m' == machine_of settings v j)) ≡ true → P u i → P v j
  of_replica P u m v' m' i there on named holds =
      let both = both_true (v' == v) (m' == machine_of settings v j) named in
      let volume : u ≡ v = sym on.0 ∙ eqb-true v' v both.0 in
      let machine : m ≡ machine_of settings v j = sym on.1 ∙ eqb-true m' (machine_of settings v j) both.1 in
      let at = on_machine settings u m i there in
      let replica : i ≡ j = same_machine settings narrow v i j at.1 within (ap (λ (w : ℕ). machine_of settings w i) (sym volume) ∙ at.2 ∙ machine) in
      subst (P v) replica (subst (λ (w : ℕ). P w i) volume holds)

  busy_met : (item : LaneItem) (it : Item) (v' m' g : ℕ) → ItemDid (course_of h item) it (reply.Busy v' m' g)
      → ((v' == v) && (m' == machine_of settings v j)) ≡ true → MetBusy (course_of h item) v j g
  busy_met item (asks.Command (command.Compact u m)) v' m' g did named = by (replica_on settings u m) refl did
    where
      by : (o : Option ℕ) → replica_on settings u m ≡ o → CompactDid (course_of h item) u m o (reply.Busy v' m' g) → MetBusy (course_of h item) v j g
      by None there did = absurd did
      by (Some i) there did = of_replica (λ w n. MetBusy (course_of h item) w n g) u m v' m' i there did.0 named did.2
  busy_met item (asks.Command (command.Get url)) v' m' g did named = absurd (busy_get (course_of h item) url (replica_on settings url.volume url.machine) v' m' g did)
  busy_met item (asks.Command (command.Flush u m)) v' m' g did named = absurd (busy_flush (course_of h item) u m (replica_on settings u m) v' m' g did)
  busy_met item asks.Bad v' m' g did named = let clash : reply.Busy v' m' g ≡ reply.BadLine = did.0 in absurd cc
  busy_met item it v' m' g did named = search

  worn_met : (item : LaneItem) (it : Item) (v' m' : ℕ) → ItemDid (course_of h item) it (reply.Worn v' m')
      → ((v' == v) && (m' == machine_of settings v j)) ≡ true → MetWorn (course_of h item) v j
  worn_met item (asks.Command (command.Compact u m)) v' m' did named = by (replica_on settings u m) refl did
    where
      by : (o : Option ℕ) → replica_on settings u m ≡ o → CompactDid (course_of h item) u m o (reply.Worn v' m') → MetWorn (course_of h item) v j
      by None there did = absurd did
      by (Some i) there did = of_replica (λ w n. MetWorn (course_of h item) w n) u m v' m' i there did.0 named did.2
  worn_met item (asks.Command (command.Get url)) v' m' did named = absurd (worn_get (course_of h item) url (replica_on settings url.volume url.machine) v' m' did)
  worn_met item (asks.Command (command.Flush u m)) v' m' did named = absurd (worn_flush (course_of h item) u m (replica_on settings u m) v' m' did)
  worn_met item asks.Bad v' m' did named = let clash : reply.Worn v' m' ≡ reply.BadLine = did.0 in absurd cc
  worn_met item it v' m' did named = search

  prints_within : (item : LaneItem) → Contains items item → Each (Within (number_from item) (number_to item)) (generation_print v (machine_of settings v j) item)
  prints_within item among = by item.reply (answered h item among).did (made_by item among)
    where
      made : (b : Bool) (g : ℕ) → Each (MadeAt (course_of h item) v j) (cond b (g ∷ []) []) → Each (Within (number_from item) (number_to item)) (cond b (printed g true ∷ []) [])
      made true g each = (made_within item among g each.0, tt)
      made false g each = tt

      by : (r : Reply) → ItemDid (course_of h item) item.item r
          → Each (MadeAt (course_of h item) v j) (made_on v (machine_of settings v j) (line_of item.line item.lane item.item r))
          → Each (Within (number_from item) (number_to item)) (generation_print v (machine_of settings v j) (line_of item.line item.lane item.item r))
      by (reply.Compacted v' m' g) did each = made ((v' == v) && (m' == machine_of settings v j)) g each
      by (reply.Busy v' m' g) did each =
          cond_both ((v' == v) && (m' == machine_of settings v j)) (printed (g - 1) false ∷ []) [] (Each (Within (number_from item) (number_to item)))
          (λ named.
          let met = busy_met item item.item v' m' g did named in
          let run = met.3 in
          let goal : (run.0).goal ≡ g = run.2 in
          let next = run_goal h v met.0 j below within run.0 run.1 in
          (seen_within item met.0 (g - 1) met.1 (omega (arith, goal, next)), tt)) (λ other. tt)
      by (reply.Worn v' m') did each =
          cond_both ((v' == v) && (m' == machine_of settings v j)) (printed LAST_GENERATION false ∷ []) [] (Each (Within (number_from item) (number_to item)))
          (λ named. let met = worn_met item item.item v' m' did named in (seen_within item met.0 LAST_GENERATION met.1 (sym met.4), tt)) (λ other. tt)
      by _ did each = tt

  prints_rise : Each (λ lane. EachPair InOrder (flat_map (generation_print v (machine_of settings v j)) (lane_items items lane))) all_lanes
  prints_rise = each_from _ all_lanes (λ lane in_lanes.
      lane_in_order (generation_print v (machine_of settings v j)) number_from number_to
      (generation_of (first_of settings k v) j) (generation_of (last_of settings k history v) j) lane items
      (each_from _ items (λ item among. record {
        starts = generation_grows h v 0 ((h.from item.line).volumes v) j below (omega arith);
        stops = generation_grows h v ((h.to item.line).volumes v) (length (history.volumes v)) j below ((stops h item among).volumes v);
        within = prints_within item among;
        once = generation_once v (machine_of settings v j) item.line item.lane item.item item.reply;
      }))
      (pair_weaker (λ a b. a.lane ≡ b.lane → IsLater (h.to a.line) (h.from b.line)) (λ a b. a.lane ≡ b.lane → number_to a ≤ number_from b)
      (λ a b later same. generation_grows h v ((h.to a.line).volumes v) ((h.from b.line).volumes v) j below ((later same).volumes v))
      items h.«order»))

  pub generations_legal : (froze : Option LaneItem)
      → weigh (hidden_at j) (first_of settings k v) (history.volumes v) ≡ cond (froze_at_compact v (machine_of settings v j) is_wanting froze) 1 0
      → GenerationsAreLegal settings items v j froze (replica_at (volume_at k v) j) (replica_at (volume_at t v) j)
  generations_legal froze hidden = record {
    inside_range = each_flat _ (made_on v (machine_of settings v j)) items (λ item among.
        each_from _ (made_on v (machine_of settings v j) item) (λ g at.
        let made = each_in (MadeAt (course_of h item) v j) (made_on v (machine_of settings v j) item) g (made_by item among) at in
        let range = in_range item among g made in
        (range.0, omega (arith, above item among g made range.1 (froze_at_compact v (machine_of settings v j) is_wanting froze) hidden, number))));
    once = once;
    last = λ grew. elim (numbered h v j below) [
      | inl same ↦ absurd (omega (arith, grew, same))
      | inr least ↦ least
    ];
    rising = prints_rise;
    all = omega (arith, number, (grown h v j below within).generation, swaps_split j (first_of settings k v) (history.volumes v), number_made, hidden);
  }
    where
      above : (item : LaneItem) → Contains items item → (g : ℕ) → MadeAt (course_of h item) v j g → g ≤ generation_of (last_of settings k history v) j
          → (hides : Bool) → weigh (hidden_at j) (first_of settings k v) (history.volumes v) ≡ cond hides 1 0 → g + cond hides 1 0 ≤ generation_of (last_of settings k history v) j
      above item among g made least false is = omega (arith, least)
      above item among g made least true is = let less = hidden_last item among g made (omega (arith, is)) in omega (arith, less)

      number : generation_of (last_of settings k history v) j ≡ (replica_at (volume_at t v) j).generation
      number = ap (λ (volume : VolumeKnown). (replica_at volume j).generation) (sym (h.volumes v below).volume)
