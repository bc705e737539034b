-- A stuck index is loose only behind a swap of its replica, which is that of a line that may stand there.
use Rattle.std.proofs.Common.{◌≡◌, ◌≢◌, ◌⊎◌, inl, inr, ℕ, zero, suc, ◌<◌, ◌≤◌, ◌+◌, ◌-◌, ◌==◌, ◌&&◌, Bool, true, false, cond, List, [], ◌∷◌, length, slice_get, sum_by, Contains}
use Rattle.std.proofs.Common.{Option, Some, None, refl, sym, ap, subst, ◌∙◌, arith, eq-eqb, eqb-true, ne_eqb}
use Rattle.std.proofs.lemmas.Bool.{cases_Bool, cases_eq, cases_lt, cond_both}
use Rattle.std.proofs.lemmas.List.Sums.{sum_by-cons}
use Rattle.std.proofs.lemmas.Option.{none-some}
use Rattle.hay_core.proofs.SideLaws.{slice_all}
use Rattle.hay_needle.specs.declared.settings.Settings.{Settings}
use Rattle.hay_core.specs.declared.entry.CoreTag.{CoreTag}
use Rattle.hay_script.specs.declared.Command.TheVariants as command
use Rattle.hay_reply.specs.declared.Reply.{Reply}
use Rattle.hay_reply.specs.declared.Reply.TheVariants as reply
use Rattle.hay_legal.specs.declared.known.Known.{Known}
use Rattle.hay_legal.specs.declared.known.ReplicaKnown.{ReplicaKnown}
use Rattle.hay_legal.specs.declared.known.VolumeKnown.{VolumeKnown}
use Rattle.hay_legal.specs.declared.turn.Item.{Item}
use Rattle.hay_legal.specs.declared.turn.Item.TheVariants as asks
use Rattle.hay_legal.specs.declared.turn.LaneItem.{LaneItem}
use Rattle.hay_legal.specs.Known.{EachPair, machine_of, replica_at, replica_on, volume_at}
use Rattle.hay_legal.specs.Plain.{Names, with_stuck}
use Rattle.hay_legal.specs.Blocks.{IndexIsLegal, MayPrecede, MetLoose, MetStuck, StandsBefore, SticksBy, SwappedWhere, froze_at_compact, is_wanting, made_on, sticks_on}
use Rattle.hay_history.specs.LaneSteps.{Did, Leads, Standing, Step}
use Rattle.hay_history.specs.LaneSteps.Did.{Flushes, Sticks}
use Rattle.hay_history.specs.Histories.{History, IsLater, behind, first_of, own, steps_of}
use Rattle.hay_history.specs.Commands.{CameInLanes, FlushDid, ItemDid}
use Rattle.hay_history.proofs.Changes.{leads_becomes, leads_extends}
use Rattle.hay_history.proofs.Changes.Becomes.{Goes, Grows, IsFlushed, IsPoised, IsStuck, IsSwapped, Rests, Starts, Stays}
use Rattle.hay_history.proofs.CompactLines.{at_or_past, stuck_behind}
use Rattle.hay_history.proofs.Freezing.{frozen_is, of_line}
use Rattle.hay_history.proofs.Fronts.{one_within}
use Rattle.hay_history.proofs.Generations.{both_true}
use Rattle.hay_history.proofs.Histories.{behind_past, behind_step, leads_at}
use Rattle.hay_history.proofs.Lines.{answered, course_of, one_leads, stops}
use Rattle.hay_history.proofs.Lists.{each_from, first_or_rest, in_rest, is_first, none_in, pair_by}
use Rattle.hay_history.proofs.Own.{MayDo, line_of}
use Rattle.hay_history.proofs.Placing.{machine_there}
use Rattle.hay_history.proofs.Printed.{weigh_of_lines}
use Rattle.hay_history.proofs.ReplicaSteps.{change_same, hidden_at}
use Rattle.hay_history.proofs.Trying.{one_own}
use Rattle.hay_history.proofs.Volumes.{frozen_stays, replica_there, volume_at_moment}
use Rattle.hay_history.proofs.Weights.{along_weighed, weigh, weight_at}

-- THE ORDER OF LINES

contained : {X : Type 0} (xs : List X) (x : X) → Contains xs x → (i : ℕ) × (slice_get xs i ≡ Some x)
contained [] x at = absurd (none_in x at)
contained (y ∷ ys) x at = elim (first_or_rest y ys x at) [
  | inl is ↦ (0, ap Some is)
  | inr rest ↦ let later = contained ys x rest in (suc later.0, later.1)
]

stands_pair : {X : Type 0} (R : X → X → Type 0) (xs : List X) (a b : X) (i n : ℕ) → EachPair R xs → i < n → slice_get xs i ≡ Some a → slice_get xs n ≡ Some b → R a b
stands_pair R [] a b i n pairs less at then = let no : None ≡ Some a = at in absurd cc
stands_pair R (x ∷ xs) a b zero zero pairs less at then = absurd (omega (arith, less))
stands_pair {X} R (x ∷ xs) a b zero (suc n) pairs less at then =
    let same : x ≡ a = cc in
    subst (λ (y : X). R y b) same (slice_all (R x) xs n b pairs.0 then)
stands_pair R (x ∷ xs) a b (suc i) zero pairs less at then = absurd (omega (arith, less))
stands_pair R (x ∷ xs) a b (suc i) (suc n) pairs less at then = stands_pair R xs a b i n pairs.1 (omega (arith, less)) at then

-- of two lines one stands before the other
in_some_order : (items : List LaneItem) (a b : LaneItem) → Contains items a → Contains items b → (a ≡ b) ⊎ StandsBefore items a b ⊎ StandsBefore items b a
in_some_order items a b in_a in_b =
    let first = contained items a in_a in
    let second = contained items b in_b in
    elim (cases_lt first.0 second.0) [
      | inl less ↦ inr (inl (first.0, second.0, less, first.1, second.1))
      | inr more ↦ elim (cases_eq first.0 second.0) [
        | inl same ↦
            let both : Some a ≡ Some b = sym first.1 ∙ ap (slice_get items) same ∙ second.1 in
            inl cc
        | inr other ↦ inr (inr (second.0, first.0, omega (arith, more, other), second.1, first.1))
      ]
    ]

-- a step weighs no more than all
weigh_least : (w : Standing → Did → ℕ) (before : Standing) (steps : List Step) (i : ℕ) (s : Step) → slice_get steps i ≡ Some s → w (behind before steps i) s.did ≤ weigh w before steps
weigh_least w before [] i s at = let no : None ≡ Some s = at in absurd cc
weigh_least w before (x ∷ xs) zero s at =
    let same : x ≡ s = cc in
    let here : w before x.did ≡ w before s.did = ap (λ (step : Step). w before step.did) same in
    omega (arith, here)
weigh_least w before (x ∷ xs) (suc i) s at = let rest = weigh_least w x.after xs i s at in omega (arith, rest)

hidden_one : (b : Bool) → 1 ≤ cond b 1 0 → b ≡ true
hidden_one true le = refl
hidden_one false le = absurd (omega (arith, le))

-- a line that met the index loose, or left it stuck, made no generation
loose_made : (v m line lane : ℕ) (it : Item) (r : Reply) → MetLoose v m (line_of line lane it r) → made_on v m (line_of line lane it r) ≡ []
loose_made v m line lane (asks.Command (command.Flush u w)) (reply.Flushed v' m' n) met = refl
loose_made v m line lane (asks.Command (command.Flush u w)) (reply.Failed v' m' f) met = refl
loose_made v m line lane it r met = absurd met

sticks_made : (v m line lane : ℕ) (it : Item) (r : Reply) → SticksBy v m (line_of line lane it r) → made_on v m (line_of line lane it r) ≡ []
sticks_made v m line lane (asks.Command (command.Flush u w)) (reply.Failed v' m' f) met = refl
sticks_made v m line lane it r met = absurd met

stuck_made : (v m line lane : ℕ) (it : Item) (r : Reply) → MetStuck v m (line_of line lane it r) → made_on v m (line_of line lane it r) ≡ []
stuck_made v m line lane it r (inl sticks) = sticks_made v m line lane it r sticks
stuck_made v m line lane (asks.Command (command.Flush u w)) (reply.ReadOnly (by ∷ [])) (inr met) = refl
stuck_made v m line lane it r (inr met) = absurd met

-- HOW OFTEN AN INDEX GETS STUCK

abbrev bit : Bool → ℕ
bit b = cond b 1 0

bit_within : (b : Bool) → bit b ≤ 1
bit_within true = omega arith
bit_within false = omega arith

abbrev sticks_at : ℕ → Standing → Did → ℕ
sticks_at j a (Did.Sticks i) = cond (i == j) 1 0
sticks_at j a _ = 0

-- a step that leaves the index stuck, or swaps the replica, or keeps both as they are
index_kept : (settings : Settings) (v j : ℕ) (tag : CoreTag) (did : Did) (a b : Standing) → Leads settings v tag did a b
    → bit (replica_at a.volume j).stuck + (replica_at a.volume j).generation ≤ (replica_at b.volume j).generation + bit (replica_at b.volume j).stuck
index_kept settings v j tag did a b h =
    elim (leads_becomes settings v tag did a b h j) [
      | Stays e ↦ same (ap stuck_of e) (ap number_of e)
      | Grows pair cookie bytes is e ↦ same (ap stuck_of e) (ap number_of e)
      | Rests e ↦ same (ap stuck_of e) (ap number_of e)
      | IsFlushed is e ↦ same (ap stuck_of e) (ap number_of e)
      | IsStuck is e ↦
          let one : bit (replica_at b.volume j).stuck ≡ 1 = ap (λ (r : ReplicaKnown). bit r.stuck) e in
          let number = ap number_of e in
          omega (arith, one, number, most)
      | Starts is none less e ↦ same (ap stuck_of e) (ap number_of e)
      | Goes n run is stands left e ↦ same (ap stuck_of e) (ap number_of e)
      | IsSwapped end cells freezes is stands sizes e ↦
          let number : (replica_at b.volume j).generation ≡ (replica_at a.volume j).generation + 1 = ap number_of e in
          omega (arith, number, most)
      | IsPoised m is e ↦ same (ap stuck_of e) (ap number_of e)
    ]
  where
    stuck_of : ReplicaKnown → Bool
    stuck_of r = r.stuck

    number_of : ReplicaKnown → ℕ
    number_of r = r.generation

    most : bit (replica_at a.volume j).stuck ≤ 1
    most = bit_within (replica_at a.volume j).stuck

    same : (replica_at b.volume j).stuck ≡ (replica_at a.volume j).stuck → (replica_at b.volume j).generation ≡ (replica_at a.volume j).generation
        → bit (replica_at a.volume j).stuck + (replica_at a.volume j).generation ≤ (replica_at b.volume j).generation + bit (replica_at b.volume j).stuck
    same stuck number = let bits = ap bit stuck in omega (arith, bits, number)

-- over steps in which the index of replica j got stuck so many times
abbrev StuckOften : ℕ → ℕ → Standing → ℕ → Standing → Type 0
StuckOften many j a n b = length (a.volume).replicas ≡ many
    → (length (b.volume).replicas ≡ many)
    × (n + bit (replica_at a.volume j).stuck + (replica_at a.volume j).generation ≤ (replica_at b.volume j).generation + bit (replica_at b.volume j).stuck)

often_step : (settings : Settings) (v j : ℕ) (tag : CoreTag) (did : Did) (a b : Standing) → j < length (a.volume).replicas → Leads settings v tag did a b
    → sticks_at j a did + bit (replica_at a.volume j).stuck + (replica_at a.volume j).generation ≤ (replica_at b.volume j).generation + bit (replica_at b.volume j).stuck
often_step settings v j tag (Did.Sticks i) a b within h = elim (cases_eq i j) [
  | inl same ↦
      let is : replica_at b.volume j ≡ with_stuck (replica_at a.volume j) =
      ap (λ (x : VolumeKnown). replica_at x j) h.3 ∙ change_same a.volume i j with_stuck same within in
      let before : bit (replica_at a.volume j).stuck ≡ 0 =
      ap bit (subst (λ (n : ℕ). (replica_at a.volume n).stuck ≡ false) same h.2) in
      let after : bit (replica_at b.volume j).stuck ≡ 1 = ap (λ (r : ReplicaKnown). bit r.stuck) is in
      let number : (replica_at b.volume j).generation ≡ (replica_at a.volume j).generation = ap (λ (r : ReplicaKnown). r.generation) is in
      let one = bit_within (i == j) in
      omega (arith, before, after, number, one)
  | inr other ↦
      let none : bit (i == j) ≡ 0 = ap bit (ne_eqb i j other) in
      let kept = index_kept settings v j tag (Did.Sticks i) a b h in
      omega (arith, none, kept)
]
often_step settings v j tag did a b within h = let kept = index_kept settings v j tag did a b h in omega (arith, kept)

-- SUMS

part_of_sum : {X : Type 0} (f : X → ℕ) (xs : List X) (x : X) → Contains xs x → f x ≤ sum_by f xs
part_of_sum f [] x at = absurd (none_in x at)
part_of_sum f (y ∷ ys) x at = elim (first_or_rest y ys x at) [
  | inl is ↦ let same = ap f is in omega (arith, same, sum_by-cons f y ys)
  | inr rest ↦ let later = part_of_sum f ys x rest in omega (arith, later, sum_by-cons f y ys)
]

sum_within : {X : Type 0} (f g : X → ℕ) (xs : List X) → ((x : X) → Contains xs x → f x ≤ g x) → sum_by f xs ≤ sum_by g xs
sum_within f g [] each = omega arith
sum_within f g (x ∷ xs) each =
    let here = each x (is_first x xs) in
    let rest = sum_within f g xs (λ y at. each y (in_rest x xs y at)) in
    omega (arith, here, rest, sum_by-cons f x xs, sum_by-cons g x xs)

module _ {settings : Settings} {k : Known} {items : List LaneItem} {history : History} {t : Known} (h : CameInLanes settings k items history t)
    (v j : ℕ) (below : v < settings.volumes) (within : j < settings.replicas) (narrow : settings.replicas ≤ settings.machines) where
  abbrev pub on : ℕ
  on = machine_of settings v j

  abbrev stuck_at : ℕ → Bool
  stuck_at n = (replica_at (volume_at_moment settings k history v n) j).stuck

  abbrev pub frozen_at : ℕ → Option ℕ
  frozen_at n = (volume_at_moment settings k history v n).frozen

  -- SWAPS

  -- a step between two moments that swapped the replica
  pub record SwapsAt (n m : ℕ) : Type 0 where
    pub place : ℕ
    pub low : n ≤ place
    pub high : place < m
    pub step : Step
    pub at : slice_get (history.volumes v) place ≡ Some step
    pub end : ℕ
    pub cells : ℕ
    pub freezes : Bool
    pub is : step.did ≡ Did.Swaps j end cells freezes

  stuck_step : (n : ℕ) (s : Step) → slice_get (history.volumes v) n ≡ Some s → stuck_at n ≡ true → ((replica_at (s.after).volume j).stuck ≡ true) ⊎ SwapsAt n (n + 1)
  stuck_step n s at stuck =
      let first : Standing = first_of settings k v in
      let steps : List Step = history.volumes v in
      elim (leads_becomes settings v s.tag s.did (behind first steps n) s.after (leads_at settings v first steps n s (h.follows v below) at).0 j) [
        | Stays e ↦ inl (ap stuck_of e ∙ stuck)
        | Grows pair cookie bytes is e ↦ inl (ap stuck_of e ∙ stuck)
        | Rests e ↦ inl (ap stuck_of e ∙ stuck)
        | IsFlushed is e ↦ inl (ap stuck_of e ∙ stuck)
        | IsStuck is e ↦ inl (ap stuck_of e)
        | Starts is none less e ↦ inl (ap stuck_of e ∙ stuck)
        | Goes i run is stands left e ↦ inl (ap stuck_of e ∙ stuck)
        | IsSwapped end cells freezes is stands sizes e ↦
            inr (record { place = n; low = omega arith; high = omega arith; step = s; at = at; end = end; cells = cells; freezes = freezes; is = is })
        | IsPoised m is e ↦ inl (ap stuck_of e ∙ stuck)
      ]
    where
      stuck_of : ReplicaKnown → Bool
      stuck_of r = r.stuck

  stuck_next : (n : ℕ) → stuck_at n ≡ true → (stuck_at (n + 1) ≡ true) ⊎ SwapsAt n (n + 1)
  stuck_next n stuck =
      let first : Standing = first_of settings k v in
      let steps : List Step = history.volumes v in
      elim (at_or_past steps n) [
        | inl there ↦ elim (stuck_step n there.0 there.1 stuck) [
          | inl still ↦ inl (ap (λ (st : Standing). (replica_at st.volume j).stuck) (behind_step first steps n there.0 there.1) ∙ still)
          | inr swap ↦ inr swap
        ]
        | inr past ↦ inl (ap (λ (st : Standing). (replica_at st.volume j).stuck)
            (behind_past first steps (n + 1) (omega (arith, past)) ∙ sym (behind_past first steps n past)) ∙ stuck)
      ]

  loosened_in : (n d : ℕ) → stuck_at n ≡ true → stuck_at (n + d) ≡ false → SwapsAt n (n + d)
  loosened_in n zero stuck loose =
      let plus : n ≡ n + 0 = omega arith in
      let clash : true ≡ false = sym stuck ∙ ap stuck_at plus ∙ loose in absurd cc
  loosened_in n (suc d) stuck loose =
      let plus : n + d + 1 ≡ n + suc d = omega arith in
      elim (cases_Bool (stuck_at (n + d))) [
        | inl still ↦ elim (stuck_next (n + d) still) [
          | inl yet ↦ let clash : true ≡ false = sym yet ∙ ap stuck_at plus ∙ loose in absurd cc
          | inr swap ↦
              let low = swap.low in
              let high = swap.high in
              record {
                place = swap.place;
                low = omega (arith, low);
                high = omega (arith, high);
                step = swap.step;
                at = swap.at;
                end = swap.end;
                cells = swap.cells;
                freezes = swap.freezes;
                is = swap.is;
              }
        ]
        | inr was ↦
            let swap = loosened_in n d stuck was in
            let high = swap.high in
            record { place = swap.place; low = swap.low; high = omega (arith, high); step = swap.step; at = swap.at; end = swap.end; cells = swap.cells; freezes = swap.freezes; is = swap.is }
      ]

  -- between a moment at which the index is stuck and one at which it is loose the replica was swapped
  loosened : (n m : ℕ) → n ≤ m → stuck_at n ≡ true → stuck_at m ≡ false → SwapsAt n m
  loosened n m le stuck loose =
      let plus : n + (m - n) ≡ m = omega (arith, le) in
      subst (λ (i : ℕ). SwapsAt n i) plus (loosened_in n (m - n) stuck (ap stuck_at plus ∙ loose))

  -- THE LINE OF A SWAP

  -- the line of a swap made a generation, or the volume is frozen behind it
  pub record SwapLine (n m : ℕ) : Type 0 where
    pub line : LaneItem
    pub among : Contains items line
    pub place : ℕ
    pub low : n ≤ place
    pub high : place < m
    pub since : (h.from line.line).volumes v ≤ place
    pub until : place < (h.to line.line).volumes v
    pub which : (made_on v on line ≢ [])
        ⊎ (((by : ℕ) × (frozen_at (place + 1) ≡ Some by)) × (1 ≤ weigh (hidden_at j) (first_of settings k v) (history.volumes v)))

  made_here : (m g : ℕ) → m ≡ on → cond ((v == v) && (m == on)) (g ∷ []) [] ≡ g ∷ []
  made_here m g same = ap (λ (b : Bool). cond (b && (m == on)) (g ∷ []) []) (eq-eqb v v refl) ∙ ap (λ (b : Bool). cond b (g ∷ []) []) (eq-eqb m on same)

  tells_swap : (line lane : ℕ) (it : Item) (r : Reply) (end cells : ℕ) → MayDo settings it r v (Did.Swaps j end cells false) → made_on v on (line_of line lane it r) ≢ []
  tells_swap line lane it r end cells may none =
      let same : may.0 ≡ on = sym (machine_there settings v may.0 j (may.2).1) in
      let clash : may.1 ∷ [] ≡ [] =
      sym (made_here may.0 may.1 same) ∙ subst (λ (x : Reply). made_on v on (line_of line lane it x) ≡ []) may.3 none in
      absurd cc

  hides_swap : (n : ℕ) (s : Step) (end cells : ℕ) → slice_get (history.volumes v) n ≡ Some s → s.did ≡ Did.Swaps j end cells true
      → ((by : ℕ) × (frozen_at (n + 1) ≡ Some by)) × (1 ≤ weigh (hidden_at j) (first_of settings k v) (history.volumes v))
  hides_swap n s end cells at is =
      let first : Standing = first_of settings k v in
      let steps : List Step = history.volumes v in
      let led = subst (λ (d : Did). Leads settings v s.tag d (behind first steps n) s.after) is (leads_at settings v first steps n s (h.follows v below) at).0 in
      let least = weigh_least (hidden_at j) first steps n s at in
      let one : hidden_at j (behind first steps n) s.did ≡ 1 =
      ap (hidden_at j (behind first steps n)) is ∙ ap (λ (b : Bool). cond b 1 0) (eq-eqb j j refl) in (
        (_, ap (λ (st : Standing). (st.volume).frozen) (behind_step first steps n s at) ∙ frozen_is led.4),
        omega (arith, least, one),
      )

  pub swap_line : (n m : ℕ) → SwapsAt n m → SwapLine n m
  swap_line n m swap =
      let line = of_line h v swap.place swap.step below swap.at in
      let may = subst (λ (d : Did). MayDo settings (line.item).item (line.item).reply v d) swap.is (line.by).0 in
      record {
        line = line.item;
        among = line.among;
        place = swap.place;
        low = swap.low;
        high = swap.high;
        since = (line.stands).0;
        until = (line.stands).1;
        which = by line.item swap.freezes swap.is may;
      }
    where
      by : (x : LaneItem) (freezes : Bool) → (swap.step).did ≡ Did.Swaps j swap.end swap.cells freezes
          → MayDo settings x.item x.reply v (Did.Swaps j swap.end swap.cells freezes)
          → (made_on v on x ≢ [])
          ⊎ (((by : ℕ) × (frozen_at (swap.place + 1) ≡ Some by)) × (1 ≤ weigh (hidden_at j) (first_of settings k v) (history.volumes v)))
      by x false is may = inl (tells_swap x.line x.lane x.item x.reply swap.end swap.cells may)
      by x true is may = inr (hides_swap swap.place swap.step swap.end swap.cells swap.at is)

  -- lines of one lane stand in the order in which they came
  pub precedes : (a b : LaneItem) → Contains items a → Contains items b → a ≢ b → (IsLater (h.to b.line) (h.from a.line) → ⊥) → MayPrecede items a b
  precedes a b in_a in_b differ never same = elim (in_some_order items a b in_a in_b) [
    | inl one ↦ absurd (differ one)
    | inr two ↦ elim two [
      | inl before ↦ before
      | inr after ↦ absurd (never (stands_pair (λ a b. a.lane ≡ b.lane → IsLater (h.to a.line) (h.from b.line)) items b a after.0 after.1 h.«order» after.2 after.3 after.4 (sym same)))
    ]
  ]

  -- WHAT A FLUSH SAW

  -- a line saw the index loose, and its volume thawed
  record SawLoose (item : LaneItem) : Type 0 where
    moment : ℕ
    since : (h.from item.line).volumes v ≤ moment
    until : moment < (h.to item.line).volumes v
    loose : stuck_at moment ≡ false
    thawed : frozen_at moment ≡ None

  -- a line saw the index stuck, or the volume frozen
  record SawStuck (item : LaneItem) : Type 0 where
    moment : ℕ
    since : (h.from item.line).volumes v ≤ moment
    until : moment ≤ (h.to item.line).volumes v
    stuck : (stuck_at moment ≡ true) ⊎ ((by : ℕ) × (frozen_at moment ≡ Some by))

  flush_there : (item : LaneItem) (u m : ℕ) (r : Reply) → Names v on u m → FlushDid (course_of h item) u m (replica_on settings u m) r
      → FlushDid (course_of h item) v on (Some j) r
  flush_there item u m r is did =
      subst (λ (o : Option ℕ). FlushDid (course_of h item) v on o r) (replica_there settings v j narrow below within)
      (subst (λ (w : ℕ). FlushDid (course_of h item) v w (replica_on settings v w) r) is.1
      (subst (λ (w : ℕ). FlushDid (course_of h item) w m (replica_on settings w m) r) is.0 did))

  saw_loose : (item : LaneItem) → Contains items item → (it : Item) (r : Reply) → ItemDid (course_of h item) it r → MetLoose v on (line_of item.line item.lane it r) → SawLoose item
  saw_loose item among (asks.Command (command.Flush u m)) (reply.Flushed v' m' n) did met =
      let step = ((flush_there item u m (reply.Flushed v' m' n) met did).1).step in
      let led = one_leads h item v (Flushes j) below among step in
      let bounds = one_within (course_of h item) item v (Flushes j) step (answered h item among) in
      record { moment = step.place; since = bounds.0; until = bounds.1; loose = led.2; thawed = led.0 }
  saw_loose item among (asks.Command (command.Flush u m)) (reply.Failed v' m' f) did met =
      let step = ((flush_there item u m (reply.Failed v' m' f) met did).1).step in
      let led = one_leads h item v (Sticks j) below among step in
      let bounds = one_within (course_of h item) item v (Sticks j) step (answered h item among) in
      record { moment = step.place; since = bounds.0; until = bounds.1; loose = led.2; thawed = led.0 }
  saw_loose item among it r did met = absurd met

  -- behind a flush that failed
  record LeftStuck (item : LaneItem) : Type 0 where
    moment : ℕ
    since : (h.from item.line).volumes v ≤ moment
    until : moment ≤ (h.to item.line).volumes v
    stuck : stuck_at moment ≡ true

  left_stuck_by : (item : LaneItem) → Contains items item → (it : Item) (r : Reply) → ItemDid (course_of h item) it r → SticksBy v on (line_of item.line item.lane it r) → LeftStuck item
  left_stuck_by item among (asks.Command (command.Flush u m)) (reply.Failed v' m' f) did met =
      let step = ((flush_there item u m (reply.Failed v' m' f) met did).1).step in
      let bounds = one_within (course_of h item) item v (Sticks j) step (answered h item among) in
      let since = bounds.0 in
      let until = bounds.1 in
      record { moment = step.place + 1; since = omega (arith, since); until = omega (arith, until); stuck = stuck_behind h item v j below within among step }
  left_stuck_by item among it r did met = absurd met

  saw_stuck : (item : LaneItem) → Contains items item → (it : Item) (r : Reply) → ItemDid (course_of h item) it r → MetStuck v on (line_of item.line item.lane it r) → SawStuck item
  saw_stuck item among it r did (inl sticks) =
      let left = left_stuck_by item among it r did sticks in
      record { moment = left.moment; since = left.since; until = left.until; stuck = inl left.stuck }
  saw_stuck item among (asks.Command (command.Flush u m)) (reply.ReadOnly (by ∷ [])) did (inr met) =
      elim (flush_there item u m (reply.ReadOnly (by ∷ [])) met.0 did).0 [
        | inl frozen ↦ record { moment = (frozen.1).moment; since = ((frozen.1).seen).0; until = ((frozen.1).seen).1; stuck = inr (by.machine, (frozen.1).is) }
        | inr stuck ↦ record { moment = (stuck.1).0; since = ((stuck.1).1).0; until = ((stuck.1).1).1; stuck = inl (stuck.1).3 }
      ]
  saw_stuck item among it r did (inr met) = absurd met

  -- a swap behind a moment of one line, and before one of another
  swap_behind : (a : LaneItem) → Contains items a → made_on v on a ≡ [] → (n m : ℕ) → (h.from a.line).volumes v ≤ n → (swap : SwapLine n m) → made_on v on swap.line ≢ []
      → MayPrecede items a swap.line
  swap_behind a in_a none n m since swap made =
      precedes a swap.line in_a swap.among (λ same. made (ap (made_on v on) (sym same) ∙ none))
      (λ later.
      let apart = later.volumes v in
      let until = swap.until in
      let low = swap.low in
      omega (arith, apart, until, low, since))

  swap_before : (b : LaneItem) → Contains items b → made_on v on b ≡ [] → (n m : ℕ) → m < (h.to b.line).volumes v → (swap : SwapLine n m) → made_on v on swap.line ≢ []
      → MayPrecede items swap.line b
  swap_before b in_b none n m until swap made =
      precedes swap.line b swap.among in_b (λ same. made (ap (made_on v on) same ∙ none))
      (λ later.
      let apart = later.volumes v in
      let since = swap.since in
      let high = swap.high in
      omega (arith, apart, since, high, until))

  -- a volume that is thawed then was not frozen behind an earlier swap
  never_frozen : (n m by : ℕ) → n ≤ m → frozen_at n ≡ Some by → frozen_at m ≡ None → ⊥
  never_frozen n m by le frozen thawed = none-some by (sym thawed ∙ frozen_stays h v n m by below le frozen)

  met_before : (b : LaneItem) → Contains items b → (replica_at (volume_at k v) j).stuck ≡ true → MetLoose v on b → SwappedWhere items v on (λ swap. MayPrecede items swap b)
  met_before b in_b stuck met =
      let saw = saw_loose b in_b b.item b.reply (answered h b in_b).did met in
      let swap = swap_line 0 saw.moment (loosened 0 saw.moment (omega arith) stuck saw.loose) in
      let high = swap.high in
      elim swap.which [
        | inl made ↦ (swap.line, swap.among, made, swap_before b in_b (loose_made v on b.line b.lane b.item b.reply met) 0 saw.moment saw.until swap made)
        | inr hidden ↦ absurd (never_frozen (swap.place + 1) saw.moment (hidden.0).0 (omega (arith, high)) (hidden.0).1 saw.thawed)
      ]

  met_between : (a b : LaneItem) → Contains items a → Contains items b → IsLater (h.to a.line) (h.from b.line) → MetStuck v on a → MetLoose v on b
      → SwappedWhere items v on (λ swap. MayPrecede items a swap × MayPrecede items swap b)
  met_between a b in_a in_b later stuck loose =
      let saw = saw_stuck a in_a a.item a.reply (answered h a in_a).did stuck in
      let then = saw_loose b in_b b.item b.reply (answered h b in_b).did loose in
      let apart = later.volumes v in
      let until = saw.until in
      let since = then.since in
      let le : saw.moment ≤ then.moment = omega (arith, apart, until, since) in
      elim saw.stuck [
        | inr frozen ↦ absurd (never_frozen saw.moment then.moment frozen.0 le frozen.1 then.thawed)
        | inl was ↦
            let swap = swap_line saw.moment then.moment (loosened saw.moment then.moment le was then.loose) in
            let high = swap.high in
            elim swap.which [
              | inl made ↦ (
                swap.line,
                swap.among,
                made,
                (
                  swap_behind a in_a (stuck_made v on a.line a.lane a.item a.reply stuck) saw.moment then.moment saw.since swap made,
                  swap_before b in_b (loose_made v on b.line b.lane b.item b.reply loose) saw.moment then.moment then.until swap made,
                ),
              )
              | inr hidden ↦ absurd (never_frozen (swap.place + 1) then.moment (hidden.0).0 (omega (arith, high)) (hidden.0).1 then.thawed)
            ]
      ]

  met_behind : (froze : Option LaneItem)
      → weigh (hidden_at j) (first_of settings k v) (history.volumes v) ≡ cond (froze_at_compact v on is_wanting froze) 1 0
      → (a : LaneItem) → Contains items a → (replica_at (volume_at t v) j).stuck ≡ false → SticksBy v on a
      → SwappedWhere items v on (λ swap. MayPrecede items a swap) ⊎ (froze_at_compact v on is_wanting froze ≡ true)
  met_behind froze hidden a in_a loose sticks =
      let left = left_stuck_by a in_a a.item a.reply (answered h a in_a).did sticks in
      let many : ℕ = length (history.volumes v) in
      let last = (stops h a in_a).volumes v in
      let until = left.until in
      let now : stuck_at many ≡ false = sym (ap (λ (x : VolumeKnown). (replica_at x j).stuck) (h.volumes v below).volume) ∙ loose in
      let swap = swap_line left.moment many (loosened left.moment many (omega (arith, last, until)) left.stuck now) in
      elim swap.which [
        | inl made ↦ inl (
          swap.line,
          swap.among,
          made,
          swap_behind a in_a (sticks_made v on a.line a.lane a.item a.reply sticks) left.moment many left.since swap made,
        )
        | inr some ↦ let least = some.1 in inr (hidden_one (froze_at_compact v on is_wanting froze) (omega (arith, least, hidden)))
      ]

  -- each line that left the index stuck has a step that did
  own_sticks : (item : LaneItem) → Contains items item → (it : Item) (r : Reply) → ItemDid (course_of h item) it r
      → sticks_on v on (line_of item.line item.lane it r) ≤ sum_by (weight_at (sticks_at j) (first_of settings k v) (history.volumes v)) (own (course_of h item) v)
  own_sticks item among (asks.Command (command.Flush u m)) (reply.Failed v' m' f) did =
      cond_both ((u == v) && (m == on)) 1 0
      (λ n. n ≤ sum_by (weight_at (sticks_at j) (first_of settings k v) (history.volumes v)) (own (course_of h item) v))
      (λ named.
      let both = both_true (u == v) (m == on) named in
      let step = ((flush_there item u m (reply.Failed v' m' f) (eqb-true u v both.0, eqb-true m on both.1) did).1).step in
      let mine = one_own (course_of h item) v (Sticks j) step in
      let part = part_of_sum (weight_at (sticks_at j) (first_of settings k v) (history.volumes v)) (own (course_of h item) v) (step.place, step.step) mine in
      let weight : sticks_at j (behind (first_of settings k v) (history.volumes v) step.place) (step.step).did ≡ 1 =
      ap (sticks_at j (behind (first_of settings k v) (history.volumes v) step.place)) step.is ∙ ap bit (eq-eqb j j refl) in
      omega (arith, part, weight))
      (λ other. omega arith)
  own_sticks item among it r did = omega arith

  sticks_once : sum_by (sticks_on v on) items + bit (replica_at (volume_at k v) j).stuck + (replica_at (volume_at k v) j).generation
      ≤ (replica_at (volume_at t v) j).generation + bit (replica_at (volume_at t v) j).stuck
  sticks_once =
      let first : Standing = first_of settings k v in
      let steps : List Step = history.volumes v in
      let lines = sum_within (sticks_on v on) (λ item. sum_by (weight_at (sticks_at j) first steps) (steps_of steps item.line)) items
      (λ item among. own_sticks item among item.item item.reply (answered h item among).did) in
      let all = weigh_of_lines h (sticks_at j) v below in
      let often = (along_weighed settings v (sticks_at j) (StuckOften settings.replicas j) first steps
      (λ a many. (many, omega arith))
      (λ a b c n m x y many. let x' = x many in let y' = y x'.0 in (y'.0, omega (arith, x'.1, y'.1)))
      (λ i s a at leads falls many. (
        (leads_extends settings v s.tag s.did a s.after leads).many ∙ many,
        often_step settings v j s.tag s.did a s.after (subst (λ (n : ℕ). j < n) (sym many) within) leads,
      ))
      (h.follows v below) ((h.store).replicas v below)).1 in
      let last = ap (λ (x : VolumeKnown). replica_at x j) (h.volumes v below).volume in
      let number = ap (λ (r : ReplicaKnown). r.generation) last in
      let stuck = ap (λ (r : ReplicaKnown). bit r.stuck) last in
      omega (arith, lines, all, often, number, stuck)

  pub index_legal : (froze : Option LaneItem)
      → weigh (hidden_at j) (first_of settings k v) (history.volumes v) ≡ cond (froze_at_compact v on is_wanting froze) 1 0
      → IndexIsLegal items v on froze (replica_at (volume_at k v) j) (replica_at (volume_at t v) j)
  index_legal froze hidden = record {
    before = each_from _ items met_before;
    between = pair_by (λ a b. a.lane ≡ b.lane → IsLater (h.to a.line) (h.from b.line))
        (λ a b. a.lane ≡ b.lane → MetStuck v on a → MetLoose v on b → SwappedWhere items v on (λ swap. MayPrecede items a swap × MayPrecede items swap b)) items
        (λ a b in_a in_b later same stuck loose. met_between a b in_a in_b (later same) stuck loose) h.«order»;
    behind = each_from _ items (met_behind froze hidden);
    once = sticks_once;
  }
