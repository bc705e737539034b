-- What a lane prints of a volume or of the Directory never goes back.
use Rattle.std.proofs.Common.{◌≡◌, ◌⊎◌, ℕ, ◌<◌, ◌≤◌, ◌+◌, Bool, true, false, cond, List, [], ◌∷◌, length, Contains, Option, Some, None, refl, sym, ap, subst, ◌∙◌, inl, inr, arith}
use Rattle.std.specs.Prelude.{◌==◌, flat_map}
use Rattle.std.specs.List.{AllByRecursion as Each}
use Rattle.std.proofs.lemmas.Bool.{cond_both, eqb-true}
use Rattle.std.proofs.lemmas.List.{length-take, length_push}
use Rattle.hay_needle.specs.declared.needle.Pair.{Pair}
use Rattle.hay_needle.specs.declared.needle.Cookie.{Cookie}
use Rattle.hay_needle.specs.declared.needle.Outcome.{Outcome}
use Rattle.hay_needle.specs.declared.settings.Settings.{Settings}
use Rattle.hay_url.specs.declared.Url.{Url as UrlParts}
use Rattle.hay_script.specs.declared.Command.{Command}
use Rattle.hay_script.specs.declared.Command.TheVariants as command
use Rattle.hay_reply.specs.declared.Reply.{Reply}
use Rattle.hay_reply.specs.declared.Reply.TheVariants.{Stored, Deleted, Photo, Gone, Absent, WrongCookie, Unknown, Moved, Url, Unreadable, NoMem}
use Rattle.hay_core.specs.declared.entry.Entry.{Entry}
use Rattle.hay_core.specs.declared.entry.CoreTag.{CoreTag}
use Rattle.hay_legal.specs.declared.known.Known.{Known}
use Rattle.hay_legal.specs.declared.turn.Item.{Item}
use Rattle.hay_legal.specs.declared.turn.Item.TheVariants as asks
use Rattle.hay_legal.specs.declared.turn.LaneItem.{LaneItem}
use Rattle.hay_legal.specs.Known.{EachPair, all_lanes, replica_on, volume_at, volumes_of}
use Rattle.hay_legal.specs.Plain.{start_of}
use Rattle.hay_legal.specs.Blocks.{Between, FrontsAreLegal, FrontsGrow, InOrder, Printed, lane_items, printed, row_added, row_fronts, row_print, tag_of, volume_print}
use Rattle.hay_legal.proofs.Subject.Effects.{each_append}
use Rattle.hay_history.specs.LaneSteps.{Did, Leads, Standing, Step}
use Rattle.hay_history.specs.LaneSteps.Did.{Entered}
use Rattle.hay_history.proofs.Trying.{changed}
use Rattle.hay_history.specs.Histories.{Course, History, IsLater, IsMoment, IsRowMoment, OneStep, SeesHome, own, row_note, rows_standing, standing, volume_then}
use Rattle.hay_history.specs.Commands.{AnsweredBy, CameInLanes, CommandDid, CompactDid, DelDid, FlushDid, GetDid, ItemDid, PutDid, ShowDid, Showed, UrlDid}
use Rattle.hay_history.proofs.Changes.{leads_extends}
use Rattle.hay_history.proofs.Lists.{each_both, each_in, each_from, each_weaker, pair_append, pair_weaker, range_below}
use Rattle.hay_history.proofs.Lines.{answered, course_of, own_leads}
use Rattle.hay_history.proofs.Volumes.{log_at_last, log_kept, volume_at_moment}
use Rattle.hay_history.proofs.OwnRows.{prints_behind, rows_between, rows_rise}
use Rattle.hay_history.proofs.Rows.{rows_at_last, rows_grow, rows_moment}

-- WHAT A REPLY PRINTS

-- the length of a volume's log at a moment of the line, or one more than it was before the line's own entry
abbrev pub Prints : Course → ℕ → Printed → Type 0
Prints c v shown =
    ((moment : ℕ) × IsMoment c v moment × (shown ≡ printed (length (volume_then c v moment).log) false))
    ⊎ ((change : Entry) × (one : OneStep c v (Entered change)) × (shown ≡ printed (length (volume_then c v one.place).log + 1) true))

-- the number of rows at a moment of the line
abbrev pub PrintsRows : Course → Printed → Type 0
PrintsRows c shown =
    (moment : ℕ) × IsRowMoment c moment × (shown ≡ printed (length ((rows_standing c moment).directory).rows) false)

abbrev pub AllPrints : Course → ℕ → Reply → Type 0
AllPrints c v reply = Each (Prints c v) (volume_print v reply) × Each (PrintsRows c) (row_print reply)

print_of : (c : Course) (v v' : ℕ) (shown : Printed) → Prints c v' shown → Each (Prints c v) (cond (v' == v) (shown ∷ []) [])
print_of c v v' shown h =
    cond_both (v' == v) (shown ∷ []) [] (Each (Prints c v))
    (λ same. (subst (λ (u : ℕ). Prints c u shown) (eqb-true v' v same) h, tt)) (λ other. tt)

row_print_of : (c : Course) (pair : Pair) (d : ℕ) (home : Option ℕ) → SeesHome c pair d home → Each (PrintsRows c) (printed d false ∷ [])
row_print_of c pair d home h = ((h.moment, h.seen, ap (λ (n : ℕ). printed n false) h.front), tt)

put_prints : (c : Course) (v : ℕ) (pair : Pair) (bytes : List ℕ) (reply : Reply) → PutDid c pair bytes reply → AllPrints c v reply
put_prints c v pair bytes (Stored v' p d cookie) h = (
  print_of c v v' (printed p true) (inr (_, h.step, ap (λ (n : ℕ). printed n true) h.position)),
  row_print_of c pair d (Some v') h.home,
)
put_prints c v pair bytes reply h = search

showed_prints : (c : Course) (v start : ℕ) (pair : Pair) (v' m p d : ℕ) (shown : Outcome) → Showed c start pair v' m p d shown
    → Each (Prints c v) (cond (v' == v) (printed p false ∷ []) []) × Each (PrintsRows c) (printed d false ∷ [])
showed_prints c v start pair v' m p d shown h = (
  print_of c v v' (printed p false) (inl (h.moment, h.seen, ap (λ (n : ℕ). printed n false) h.front)),
  row_print_of c pair d (Some v') h.home,
)

show_prints : (c : Course) (v start : ℕ) (pair : Pair) (cookie : Cookie) (reply : Reply) → ShowDid c start pair cookie reply → AllPrints c v reply
show_prints c v start pair cookie (Photo v' m p d bytes) h = showed_prints c v start pair v' m p d _ h
show_prints c v start pair cookie (Gone v' m p d) h = showed_prints c v start pair v' m p d _ h
show_prints c v start pair cookie (WrongCookie v' m p d) h = showed_prints c v start pair v' m p d _ h.3
show_prints c v start pair cookie (Unreadable v' p d causes) h = (
  print_of c v v' (printed p false) (inl (h.moment, h.seen, ap (λ (n : ℕ). printed n false) h.front)),
  row_print_of c pair d (Some v') h.home,
)
show_prints c v start pair cookie (Unknown d) h = (tt, row_print_of c pair d None h.0)
show_prints c v start pair cookie reply h = search

get_prints : (c : Course) (v : ℕ) (url : UrlParts) (o : Option ℕ) (reply : Reply) → GetDid c url o reply → AllPrints c v reply
get_prints c v url (Some start) (Moved v' d) h = (tt, row_print_of c url.pair d (Some v') h.0)
get_prints c v url (Some start) NoMem h = (tt, tt)
get_prints c v url (Some start) reply h = show_prints c v start url.pair url.cookie reply h.0
get_prints c v url None NoMem h = (tt, tt)
get_prints c v url None reply h = search

del_prints : (c : Course) (v : ℕ) (pair : Pair) (reply : Reply) → DelDid c pair reply → AllPrints c v reply
del_prints c v pair (Deleted v' p d) h = (
  print_of c v v' (printed p true) (inr (_, h.step, ap (λ (n : ℕ). printed n true) h.position)),
  row_print_of c pair d (Some v') h.home,
)
del_prints c v pair (Absent v' p d) h = (
  print_of c v v' (printed p false) (inl (h.moment, h.seen, ap (λ (n : ℕ). printed n false) h.front)),
  row_print_of c pair d (Some v') h.home,
)
del_prints c v pair (Unknown d) h = (tt, row_print_of c pair d None h.0)
del_prints c v pair reply h = search

url_prints : (c : Course) (v : ℕ) (pair : Pair) (reply : Reply) → UrlDid c pair reply → AllPrints c v reply
url_prints c v pair (Url d url) h = (tt, row_print_of c pair d (Some url.volume) h.0)
url_prints c v pair (Unknown d) h = (tt, row_print_of c pair d None h.0)
url_prints c v pair reply h = search

flush_prints : (c : Course) (w v m : ℕ) (o : Option ℕ) (reply : Reply) → FlushDid c v m o reply → AllPrints c w reply
flush_prints c w v m None NoMem h = (tt, tt)
flush_prints c w v m None reply h = search
flush_prints c w v m (Some j) NoMem h = (tt, tt)
flush_prints c w v m (Some j) reply h = search

compact_prints : (c : Course) (w v m : ℕ) (o : Option ℕ) (reply : Reply) → CompactDid c v m o reply → AllPrints c w reply
compact_prints c w v m None NoMem h = (tt, tt)
compact_prints c w v m None reply h = search
compact_prints c w v m (Some j) NoMem h = (tt, tt)
compact_prints c w v m (Some j) reply h = search

command_prints : (c : Course) (v : ℕ) (asked : Command) (reply : Reply) → CommandDid c asked reply → AllPrints c v reply
command_prints c v (command.Put pair bytes) reply h = put_prints c v pair bytes reply h
command_prints c v (command.Read pair cookie) reply h = show_prints c v (start_of c.settings c.tag) pair cookie reply h
command_prints c v (command.Get url) reply h = get_prints c v url (replica_on c.settings url.volume url.machine) reply h
command_prints c v (command.Del pair) reply h = del_prints c v pair reply h
command_prints c v (command.Url pair) reply h = url_prints c v pair reply h
command_prints c v (command.Flush u m) reply h = flush_prints c v u m (replica_on c.settings u m) reply h
command_prints c v (command.Compact u m) reply h = compact_prints c v u m (replica_on c.settings u m) reply h
command_prints c v _ reply h = absurd h

pub item_prints : (c : Course) (v : ℕ) (item : Item) (reply : Reply) → ItemDid c item reply → AllPrints c v reply
item_prints c v (asks.Command asked) reply h = command_prints c v asked reply h
item_prints c v asks.Bad reply h = subst (λ (r : Reply). AllPrints c v r) (sym h.0) (tt, tt)

one_print : (v v' : ℕ) (shown : Printed) → EachPair InOrder (cond (v' == v) (shown ∷ []) [])
one_print v v' shown = cond_both (v' == v) (shown ∷ []) [] (EachPair InOrder) (λ same. (tt, tt)) (λ other. tt)

-- a reply prints one front of a volume, or none
prints_once : (v : ℕ) (reply : Reply) → EachPair InOrder (volume_print v reply)
prints_once v (Stored v' p d cookie) = one_print v v' (printed p true)
prints_once v (Deleted v' p d) = one_print v v' (printed p true)
prints_once v (Photo v' m p d bytes) = one_print v v' (printed p false)
prints_once v (Gone v' m p d) = one_print v v' (printed p false)
prints_once v (Absent v' p d) = one_print v v' (printed p false)
prints_once v (WrongCookie v' m p d) = one_print v v' (printed p false)
prints_once v (Unreadable v' p d causes) = one_print v v' (printed p false)
prints_once v _ = tt

row_prints_once : (reply : Reply) → EachPair InOrder (row_print reply)
row_prints_once (Stored v p d cookie) = (tt, tt)
row_prints_once (Deleted v p d) = (tt, tt)
row_prints_once (Photo v m p d bytes) = (tt, tt)
row_prints_once (Gone v m p d) = (tt, tt)
row_prints_once (Absent v p d) = (tt, tt)
row_prints_once (WrongCookie v m p d) = (tt, tt)
row_prints_once (Unreadable v p d causes) = (tt, tt)
row_prints_once (Unknown d) = (tt, tt)
row_prints_once (Moved v d) = (tt, tt)
row_prints_once (Url d url) = (tt, tt)
row_prints_once _ = tt

-- WHAT A LANE PRINTS

-- between what stood when its line began and what stood when it ended
abbrev pub Within : ℕ → ℕ → Printed → Type 0
Within low high shown = InOrder (printed low false) shown × (shown.front ≤ high)

in_order_below : (a b : Printed) (n : ℕ) → a.front ≤ n → InOrder (printed n false) b → InOrder a b
in_order_below a b n le h = by b.front b.entered le h
  where
    by : (front : ℕ) (entered : Bool) → a.front ≤ n → InOrder (printed n false) (record { front = front; entered = entered })
        → InOrder a (record { front = front; entered = entered })
    by front true le h = omega (arith, le, h)
    by front false le h = omega (arith, le, h)

in_order_front : (n : ℕ) (b : Printed) → InOrder (printed n false) b → n ≤ b.front
in_order_front n b h = by b.front b.entered h
  where
    by : (front : ℕ) (entered : Bool) → InOrder (printed n false) (record { front = front; entered = entered }) → n ≤ front
    by front true h = omega (arith, h)
    by front false h = h

module _ (show : LaneItem → List Printed) (low high : LaneItem → ℕ) where
  -- what a line prints stands between these two
  pub record Shows (start finish : ℕ) (item : LaneItem) : Type 0 where
    pub starts : start ≤ low item
    pub stops : high item ≤ finish
    pub within : Each (Within (low item) (high item)) (show item)
    pub once : EachPair InOrder (show item)

  each_of_lane : (P : Printed → Type 0) (lane : ℕ) (items : List LaneItem) → Each (λ item. item.lane ≡ lane → Each P (show item)) items
      → Each P (flat_map show (lane_items items lane))
  each_of_lane P lane [] each = tt
  each_of_lane P lane (item ∷ items) each =
      cond_both (item.lane == lane) (item ∷ lane_items items lane) (lane_items items lane) (λ rest. Each P (flat_map show rest))
      (λ same. each_append P (show item) (flat_map show (lane_items items lane)) (each.0 (eqb-true item.lane lane same)) (each_of_lane P lane items each.1))
      (λ other. each_of_lane P lane items each.1)

  lane_between : (start finish lane : ℕ) (items : List LaneItem) → Each (Shows start finish) items
      → Each (Between start finish) (flat_map show (lane_items items lane))
  lane_between start finish lane items shows =
      each_of_lane (Between start finish) lane items
      (each_weaker (Shows start finish) (λ item. item.lane ≡ lane → Each (Between start finish) (show item))
      (λ item h own. each_weaker (Within (low item) (high item)) (Between start finish)
      (λ shown is. let after : low item ≤ shown.front = in_order_front (low item) shown is.0 in
      (omega (arith, h.starts, after), omega (arith, is.1, h.stops)))
      (show item) h.within)
      items shows)

  pub lane_in_order : (start finish lane : ℕ) (items : List LaneItem) → Each (Shows start finish) items
      → EachPair (λ a b. a.lane ≡ b.lane → high a ≤ low b) items → EachPair InOrder (flat_map show (lane_items items lane))
  lane_in_order start finish lane [] shows later = tt
  lane_in_order start finish lane (item ∷ items) shows later =
      cond_both (item.lane == lane) (item ∷ lane_items items lane) (lane_items items lane) (λ rest. EachPair InOrder (flat_map show rest))
      (λ same. pair_append InOrder (show item) (flat_map show (lane_items items lane)) (shows.0).once
      (lane_in_order start finish lane items shows.1 later.1)
      (each_weaker (Within (low item) (high item)) (λ a. Each (InOrder a) (flat_map show (lane_items items lane)))
      (λ a is. behind (eqb-true item.lane lane same) a is.1) (show item) (shows.0).within))
      (λ other. lane_in_order start finish lane items shows.1 later.1)
    where
      behind : item.lane ≡ lane → (a : Printed) → a.front ≤ high item → Each (InOrder a) (flat_map show (lane_items items lane))
      behind own a le =
          each_of_lane (InOrder a) lane items
          (each_both (Shows start finish) (λ b. item.lane ≡ b.lane → high item ≤ low b) (λ b. b.lane ≡ lane → Each (InOrder a) (show b))
          (λ b h after same. let less : high item ≤ low b = after (own ∙ sym same) in
          each_weaker (Within (low b) (high b)) (InOrder a) (λ shown is. in_order_below a shown (low b) (omega (arith, le, less)) is.0) (show b) h.within)
          items shows.1 later.0)

  pub lane_goes_on : (start finish lane : ℕ) (items : List LaneItem) → Each (Shows start finish) items
      → EachPair (λ a b. a.lane ≡ b.lane → high a ≤ low b) items → FrontsGrow start finish (flat_map show (lane_items items lane))
  lane_goes_on start finish lane items shows later = (lane_in_order start finish lane items shows later, lane_between start finish lane items shows)

-- THE LOGS

pub log_grows : {settings : Settings} {k : Known} {items : List LaneItem} {history : History} {t : Known} (h : CameInLanes settings k items history t)
    (v n m : ℕ) → v < settings.volumes → n ≤ m
    → length (volume_at_moment settings k history v n).log ≤ length (volume_at_moment settings k history v m).log
log_grows {settings} {k} {items} {history} h v n m below le =
    let kept = ap length (log_kept h v n m below le) in
    let short = length-take (length (volume_at_moment settings k history v n).log) (volume_at_moment settings k history v m).log in
    omega (arith, kept, short)

-- the line's own entry makes the log longer by one
entered_longer : (settings : Settings) (v : ℕ) (tag : CoreTag) (change : Entry) (a b : Standing) → Leads settings v tag (Entered change) a b
    → length (b.volume).log ≡ length (a.volume).log + 1
entered_longer settings v tag change a b h = ap length (leads_extends settings v tag (Entered change) a b h).log ∙ length_push (a.volume).log _

-- an own step that is the only one, and its place between what the lane had seen before the line and behind it
pub one_within : (c : Course) (item : LaneItem) (v : ℕ) (did : Did) (one : OneStep c v did) → AnsweredBy ItemDid c item
    → ((c.from).volumes v ≤ one.place) × (one.place < (c.to).volumes v)
one_within c item v did one h =
    each_in (λ (at : ℕ × Step). ((c.from).volumes v ≤ at.0) × (at.0 < (c.to).volumes v)) (own c v) (one.place, one.step) (h.steps v)
    (changed c v (one.place, one.step) (subst (λ (l : List (ℕ × Step)). Contains l (one.place, one.step)) (sym one.only) (0, omega arith, refl)))

one_longer : {settings : Settings} {k : Known} {items : List LaneItem} {history : History} {t : Known} (h : CameInLanes settings k items history t)
    (item : LaneItem) (v : ℕ) (change : Entry) (one : OneStep (course_of h item) v (Entered change)) → v < settings.volumes → Contains items item
    → length (volume_at_moment settings k history v (one.place + 1)).log ≡ length (volume_at_moment settings k history v one.place).log + 1
one_longer {settings} {k} {items} {history} {t} h item v change one below among =
    let own_step : Contains (own (course_of h item) v) (one.place, one.step) =
    changed (course_of h item) v (one.place, one.step) (subst (λ steps. Contains steps (one.place, one.step)) (sym one.only) (0, omega arith, refl)) in
    let led = (own_leads h item v below among (one.place, one.step) own_step).0 in
    entered_longer settings v (tag_of item) change (standing (course_of h item) v one.place) (standing (course_of h item) v (one.place + 1))
    (subst (λ (did : Did). Leads settings v (tag_of item) did (standing (course_of h item) v one.place) (standing (course_of h item) v (one.place + 1))) one.is led)

-- how long a volume's log was when a line began, and when it ended
abbrev pub log_from : {settings : Settings} {k : Known} {items : List LaneItem} {history : History} {t : Known} → CameInLanes settings k items history t → ℕ → LaneItem → ℕ
log_from {settings} {k} {items} {history} h v item = length (volume_at_moment settings k history v ((h.from item.line).volumes v)).log

abbrev pub log_to : {settings : Settings} {k : Known} {items : List LaneItem} {history : History} {t : Known} → CameInLanes settings k items history t → ℕ → LaneItem → ℕ
log_to {settings} {k} {items} {history} h v item = length (volume_at_moment settings k history v ((h.to item.line).volumes v)).log

print_within : {settings : Settings} {k : Known} {items : List LaneItem} {history : History} {t : Known} (h : CameInLanes settings k items history t)
    (item : LaneItem) (v : ℕ) (shown : Printed) → v < settings.volumes → Contains items item → Prints (course_of h item) v shown
    → Within (log_from h v item) (log_to h v item) shown
print_within {settings} {k} {items} {history} {t} h item v shown below among prints =
    elim prints [
      | inl (moment, seen, is) ↦ subst (Within (log_from h v item) (log_to h v item)) (sym is)
          (log_grows h v ((h.from item.line).volumes v) moment below seen.0, log_grows h v moment ((h.to item.line).volumes v) below seen.1)
      | inr (change, one, is) ↦
          let within = one_within (course_of h item) item v (Entered change) one (answered h item among) in
          let longer = one_longer h item v change one below among in
          let before = log_grows h v ((h.from item.line).volumes v) one.place below within.0 in
          let later = log_grows h v (one.place + 1) ((h.to item.line).volumes v) below (omega (arith, within.1)) in
          subst (Within (log_from h v item) (log_to h v item)) (sym is) (omega (arith, before), omega (arith, longer, later))
    ]

pub volume_shows : {settings : Settings} {k : Known} {items : List LaneItem} {history : History} {t : Known} (h : CameInLanes settings k items history t)
    (v : ℕ) → v < settings.volumes → (item : LaneItem) → Contains items item
    → Shows (λ item. volume_print v item.reply) (log_from h v) (log_to h v) (length (volume_at k v).log) (length (volume_at t v).log) item
volume_shows h v below item among = record {
  starts = (log_at_last h v ((h.from item.line).volumes v) below).2;
  stops = (log_at_last h v ((h.to item.line).volumes v) below).1;
  within = each_weaker (Prints (course_of h item) v) (Within (log_from h v item) (log_to h v item))
      (λ shown prints. print_within h item v shown below among prints) (volume_print v item.reply)
      (item_prints (course_of h item) v item.item item.reply (answered h item among).did).0;
  once = prints_once v item.reply;
}

pub logs_later : {settings : Settings} {k : Known} {items : List LaneItem} {history : History} {t : Known} (h : CameInLanes settings k items history t)
    (v : ℕ) → v < settings.volumes → EachPair (λ a b. a.lane ≡ b.lane → log_to h v a ≤ log_from h v b) items
logs_later {items = items} h v below =
    pair_weaker (λ a b. a.lane ≡ b.lane → IsLater (h.to a.line) (h.from b.line)) (λ a b. a.lane ≡ b.lane → log_to h v a ≤ log_from h v b)
    (λ a b later same. log_grows h v ((h.to a.line).volumes v) ((h.from b.line).volumes v) below ((later same).volumes v))
    items h.«order»

-- THE ROWS

abbrev rows_from : {settings : Settings} {k : Known} {items : List LaneItem} {history : History} {t : Known} → CameInLanes settings k items history t → LaneItem → ℕ
rows_from {settings} {k} {items} {history} h item = length ((rows_moment k history (h.from item.line).rows).directory).rows

abbrev rows_to : {settings : Settings} {k : Known} {items : List LaneItem} {history : History} {t : Known} → CameInLanes settings k items history t → LaneItem → ℕ
rows_to {settings} {k} {items} {history} h item = length ((rows_moment k history (h.to item.line).rows).directory).rows

rows_show : {settings : Settings} {k : Known} {items : List LaneItem} {history : History} {t : Known} (h : CameInLanes settings k items history t)
    (item : LaneItem) → Contains items item
    → Shows (row_fronts (row_note k history)) (rows_from h) (rows_to h) (length k.directory.rows) (length t.directory.rows) item
rows_show {k = k} {history = history} h item among = record {
  starts = (rows_at_last h (h.from item.line).rows).2;
  stops = (rows_at_last h (h.to item.line).rows).1;
  within = each_append (Within (rows_from h item) (rows_to h item)) (row_added (row_note k history) item) (row_print item.reply)
      (rows_between h item among (Within (rows_from h item) (rows_to h item)) (λ n low high. (low, high)))
      (each_weaker (PrintsRows (course_of h item)) (Within (rows_from h item) (rows_to h item))
      (λ shown prints. subst (Within (rows_from h item) (rows_to h item)) (sym prints.2)
      (rows_grow h (h.from item.line).rows prints.0 prints.1.0, rows_grow h prints.0 (h.to item.line).rows prints.1.1))
      (row_print item.reply) (item_prints (course_of h item) 0 item.item item.reply (answered h item among).did).1);
  once = pair_append InOrder (row_added (row_note k history) item) (row_print item.reply)
      (rows_rise (length k.directory.rows) (row_note k history).rows item) (row_prints_once item.reply) (prints_behind h item among);
}

rows_later : {settings : Settings} {k : Known} {items : List LaneItem} {history : History} {t : Known} (h : CameInLanes settings k items history t)
    → EachPair (λ a b. a.lane ≡ b.lane → rows_to h a ≤ rows_from h b) items
rows_later {items = items} h =
    pair_weaker (λ a b. a.lane ≡ b.lane → IsLater (h.to a.line) (h.from b.line)) (λ a b. a.lane ≡ b.lane → rows_to h a ≤ rows_from h b)
    (λ a b later same. rows_grow h (h.to a.line).rows (h.from b.line).rows (later same).rows)
    items h.«order»

pub fronts_legal : {settings : Settings} {k : Known} {items : List LaneItem} {history : History} {t : Known} → CameInLanes settings k items history t
    → FrontsAreLegal settings k items (row_note k history) t
fronts_legal {settings} {k} {items} {history} {t} h = record {
  volumes = each_from _ all_lanes (λ lane in_lanes. each_from _ (volumes_of settings) (λ v in_volumes.
      let below = range_below settings.volumes v in_volumes in
      lane_goes_on (λ item. volume_print v item.reply) (log_from h v) (log_to h v) (length (volume_at k v).log) (length (volume_at t v).log) lane items
      (each_from _ items (volume_shows h v below)) (logs_later h v below)));
  directory = each_from _ all_lanes (λ lane in_lanes.
      lane_goes_on (row_fronts (row_note k history)) (rows_from h) (rows_to h) (length k.directory.rows) (length t.directory.rows) lane items
      (each_from _ items (rows_show h)) (rows_later h));
}
