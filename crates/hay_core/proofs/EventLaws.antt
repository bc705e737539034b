-- What each event keeps of a volume.
use Rattle.std.proofs.Common.{◌≡◌, ℕ, zero, suc, Bool, true, false, not, ◌&&◌, cond, List, [], ◌∷◌, ◌++◌, length, take, map, Option, Some, None, refl, sym, ap, ◌∙◌, append_assoc, subst, arith}
use Rattle.std.specs.Prelude.{slice_get, nat_eq, nat_le, nat_lt, option_map, is_some}
use Rattle.std.specs.List.{AllByRecursion}
use Rattle.std.proofs.lemmas.List.{append-nil}
use Rattle.std.proofs.lemmas.Bool.{cond_both, and_parts, not-true, false≢true, true≢false, false_from_ne_true}
use Rattle.hay_needle.specs.declared.needle.Pair.{Pair}
use Rattle.hay_needle.specs.declared.needle.Outcome.{Outcome}
use Rattle.hay_needle.specs.declared.needle.Outcome.TheVariants as outcome
use Rattle.hay_needle.specs.declared.needle.Needle.{Needle}
use Rattle.hay_needle.specs.declared.needle.Row.{Row}
use Rattle.hay_core.specs.declared.machine.Side.{Side}
use Rattle.hay_core.specs.declared.machine.Spot.{Spot}
use Rattle.hay_core.specs.declared.machine.Doubt.{Doubt}
use Rattle.hay_core.specs.declared.entry.Logged.{Logged}
use Rattle.hay_core.specs.declared.machine.Hold.{Hold}
use Rattle.hay_core.specs.Spots.{spots_of, spot_in}
use Rattle.hay_needle.specs.Tables.{look, look_after, rows_of}
use Rattle.hay_core.specs.Entries.{logged_row, rows_after}
use Rattle.hay_core.specs.Sides
use Rattle.hay_core.specs.Sides.{settle, made, broken, files_of, with_progress, next_progress, after_ok, after_failed, after_harm, no_copy}
use Rattle.hay_core.specs.Transitions
use Rattle.hay_core.specs.Transitions.{Stepped, allowed, change, change_in, change_of, at_first, put_first, first_call, first_of_two, device_ok, device_failed, read_failed, publish}
use Rattle.hay_core.specs.Transitions.{end_hold, begin, look_up, stop, open_call, after_event, after_events}
use Rattle.hay_core.specs.declared.machine.Reader.{Reader}
use Rattle.hay_core.specs.declared.machine.Core.{Core}
use Rattle.hay_core.specs.declared.machine.Event.{Event}
use Rattle.hay_core.specs.declared.machine.Event.TheVariants as event
use Rattle.hay_core.specs.Goodness.{CoreGood, HoldLogged, ReaderGood, RowGood, HoldFlags, CalmHold, Shows, with_change, settled_change, DoubtGood, SideGood, SideFits, IsSure}
use Rattle.hay_core.proofs.SpotLaws.{spots_show}
use Rattle.hay_needle.proofs.TableLaws.{look_twice, look_append}
use Rattle.hay_core.proofs.DeviceLaws.{settle_bounds}
use Rattle.hay_core.proofs.SideLaws.{settle_stays, settle_table}
use Rattle.hay_core.proofs.CallLaws.{all_both, allowed_good, device_ok_good, device_failed_good, read_failed_good}
use Rattle.hay_core.proofs.HoldLaws.{settled_none, begin_good, publish_good, end_hold_good}

-- a look
row_good : (p : Pair) (up : Bool) → up ≡ true → (log : List Logged) (l : Option Logged) (o : Option Hold) (sides : List Side) → AllByRecursion (SideFits up o) sides
    → AllByRecursion (SideGood p up log l o) sides
    → RowGood p log sides (map (λ s. spot_in s.spots p) sides)
row_good p up is_up log l o [] fits all = tt
row_good p up is_up log l o (s ∷ sides) fits all =
    let P : Bool → Type 0 = λ b. Shows s (spot_in s.spots p) (look (rows_after (cond b log []) s.base) p) in
    (subst P is_up (all.0.mapped (fits.0.is_open is_up)), row_good p up is_up log l o sides fits.1 all.1)

put_good : (log : List Logged) (sides : List Side) (r : Reader) (readers : List Reader) → ReaderGood log sides r → AllByRecursion (ReaderGood log sides) readers
    → AllByRecursion (ReaderGood log sides) (Transitions.with_reader r readers)
put_good log sides r [] good all = (good, tt)
put_good log sides r (x ∷ readers) good all =
    cond_both (nat_eq x.number r.number) (r ∷ readers) (x ∷ Transitions.with_reader r readers) (λ (rs : List Reader). AllByRecursion (ReaderGood log sides) rs)
    (λ t. (good, all.1)) (λ f. (all.0, put_good log sides r readers good all.1))

take_whole : (log : List Logged) → take (length log) log ≡ log
take_whole [] = refl
take_whole (x ∷ log) = ap (λ (xs : List Logged). x ∷ xs) (take_whole log)

pub look_good : (reader : ℕ) (p : Pair) (c : Core) → CoreGood c → CoreGood (look_up reader p c).core
look_good reader p c g =
    let r : Reader = record { number = reader; pair = p; front = length c.log; row = map (λ s. spot_in s.spots p) c.sides } in
    allowed_good c.up (record c { readers = Transitions.with_reader r c.readers }) c
    (λ up.
    let P : List Logged → Type 0 = λ log. RowGood p log c.sides (map (λ s. spot_in s.spots p) c.sides) in
    let good : ReaderGood c.log c.sides r = record {
      front = omega arith;
      row = subst P (sym (take_whole c.log))
          (row_good p c.up up c.log (change_in c.hold c.pending) c.hold c.sides g.fits (g.sides p));
    } in
    record {
      flags = g.flags;
      readers_up = λ down. absurd (true≢false (sym up ∙ down));
      sides = g.sides;
      fits = g.fits;
      sure = g.sure;
      calm = g.calm;
      readers = put_good c.log c.sides r c.readers good g.readers;
      logged = g.logged;
    })
    g

pub fetch_good : (replica : ℕ) (o : Option Reader) (c : Core) → CoreGood c → CoreGood (Transitions.fetch_by replica o c).core
fetch_good replica None c g = g
fetch_good replica (Some r) c g = at (slice_get c.sides replica) (slice_get r.row replica)
  where
    at : (s : Option Side) (x : Option Spot) → CoreGood (Transitions.fetch_at s x c).core
    at None x = g
    at (Some s) None = g
    at (Some s) (Some x) = g

-- a stop
kept_side : Bool → Side → Side
kept_side true s = settle s.doubt s
kept_side false s = s

stopped_good : (p : Pair) (up : Bool) (log : List Logged) (l : Option Logged) (o : Option Hold) (k r : Bool) (s : Side) → SideGood p up log l o s → SideGood p false log l None (Sides.stopped k r s)
stopped_good p up log l o true r s g = record {
  tabled =
      let P : List Row → Type 0 = λ base. look (rows_of (settle s.doubt s).current) p ≡ look (with_change (settled_change (settle s.doubt s).settled l) (rows_after log base)) p in
      subst P (sym (settle_stays s.doubt s).grows.base) (settle_table p (rows_after log s.base) l s.doubt s g.doubted g.tabled);
  mapped = λ is. absurd (false≢true is);
  opened = λ down is. absurd (false≢true is);
  doubted = tt;
  copied = λ f. tt;
}
stopped_good p up log l o false r s g = record {
  tabled = g.tabled;
  mapped = λ is. absurd (false≢true is);
  opened = λ down is. absurd (false≢true is);
  doubted = tt;
  copied = λ f. tt;
}

stopped_fits : (up : Bool) (o : Option Hold) (k r : Bool) (s : Side) → SideFits up o s → SideFits false None (Sides.stopped k r s)
stopped_fits up o true true s f = let b = settle_bounds s.doubt s f.rows f.most f.copy in record { is_open = λ no. absurd (false≢true no); rows = omega arith; most = b.1; copy = tt; held = tt }
stopped_fits up o true false s f =
    let b = settle_bounds s.doubt s f.rows f.most f.copy in record { is_open = λ no. absurd (false≢true no); rows = omega arith; most = omega (arith, b.0, b.1); copy = tt; held = tt }
stopped_fits up o false true s f = record { is_open = λ no. absurd (false≢true no); rows = omega arith; most = f.most; copy = tt; held = tt }
stopped_fits up o false false s f = record { is_open = λ no. absurd (false≢true no); rows = omega arith; most = omega (arith, f.rows, f.most); copy = tt; held = tt }

all_stopped : (P Q : Side → Type 0) → ((k r : Bool) (s : Side) → P s → Q (Sides.stopped k r s)) → (keep rows : List Bool) (sides : List Side) → AllByRecursion P sides
    → AllByRecursion Q (Transitions.stopped_sides keep rows sides)
all_stopped P Q h [] rows sides all = tt
all_stopped P Q h (k ∷ keep) [] sides all = tt
all_stopped P Q h (k ∷ keep) (r ∷ rows) [] all = tt
all_stopped P Q h (k ∷ keep) (r ∷ rows) (s ∷ sides) all = (h k r s all.0, all_stopped P Q h keep rows sides all.1)

pub stop_good : (keep rows : List Bool) (c : Core) → CoreGood c → CoreGood (stop keep rows c).core
stop_good keep rows c g =
    let S : List Side = Transitions.stopped_sides keep rows c.sides in
    allowed_good (nat_eq (length keep) (length c.sides) && nat_eq (length rows) (length c.sides))
    (record c { sides = S; hold = None; readers = []; pending = change c; up = false }) c
    (λ allowed.
    let sure : AllByRecursion IsSure S = all_stopped (λ s. SideFits c.up c.hold s) IsSure (λ k r s f. refl) keep rows c.sides g.fits in
    record {
      flags = λ up f. absurd (false≢true up);
      readers_up = λ down. refl;
      sides =
          λ p. all_stopped (λ s. SideGood p c.up c.log (change c) c.hold s) (λ s. SideGood p false c.log (change c) None s)
          (λ k r s good. stopped_good p c.up c.log (change c) c.hold k r s good) keep rows c.sides (g.sides p);
      fits = all_stopped (λ s. SideFits c.up c.hold s) (λ s. SideFits false None s) (λ k r s f. stopped_fits c.up c.hold k r s f) keep rows c.sides g.fits;
      sure = λ down. sure;
      calm = λ f. sure;
      readers = tt;
      logged = tt;
    })
    g

-- an opening
change_rows : Option Logged → List Row
change_rows None = []
change_rows (Some l) = logged_row l ∷ []

with_rows : (l : Option Logged) (rows : List Row) → with_change l rows ≡ rows ++ change_rows l
unfolding change_rows
with_rows None rows = sym (append-nil rows)
with_rows (Some l) rows = refl

-- the whole log and the change, made once more, leave the table
replayed : (p : Pair) (log : List Logged) (l : Option Logged) (base table : List Row) → look table p ≡ look (with_change l (rows_after log base)) p
    → look table p ≡ look (with_change l (rows_after log table)) p
replayed p log l base table h =
    let more : List Row = map logged_row log ++ change_rows l in
    let whole : (rows : List Row) → look (with_change l (rows_after log rows)) p ≡ look_after more p (look rows p) = λ rows.
    ap (λ (xs : List Row). look xs p) (with_rows l (rows_after log rows) ∙ append_assoc rows (map logged_row log) (change_rows l)) ∙ look_append rows more p outcome.Nothing in
    let is : look table p ≡ look_after more p (look base p) = h ∙ whole base in
    sym (whole table ∙ ap (λ (o : Outcome). look_after more p o) is ∙ look_twice more p (look base p) ∙ sym is)

opened_good : (p : Pair) (log : List Logged) (l : Option Logged) (s : Side) → IsSure s → SideGood p false log l None s → SideGood p false log l None (Sides.opened s)
opened_good p log l s sure g = record {
  tabled = replayed p log (settled_change s.settled l) s.base (rows_of s.current) g.tabled;
  mapped = λ is.
      let P : List Row → Type 0 = λ rows. Shows s (spot_in (spots_of (length s.past) 0 s.current) p) (look rows p) in
      subst P (sym (append-nil (rows_of s.current))) (spots_show s.past s.current p);
  opened = λ down is. refl;
  doubted = let D : Doubt → Type 0 = λ d. DoubtGood p l s.fresh s.current d in subst D (sym sure) tt;
  copied = λ f. g.copied refl;
}

pub all_at : (P : Side → Type 0) (f : Side → Side) → ((s : Side) → P s → P (f s)) → (j : ℕ) (sides : List Side) → AllByRecursion P sides → AllByRecursion P (Transitions.at_side j f sides)
all_at P f h j [] all = tt
all_at P f h zero (s ∷ sides) all = (h s all.0, all.1)
all_at P f h (suc j) (s ∷ sides) all = (all.0, all_at P f h j sides all.1)

-- all sides are open
risen_good : (p : Pair) (log : List Logged) (l : Option Logged) (s : Side) → s.is_open ≡ true → IsSure s → SideGood p false log l None s → SideGood p true [] None None s
risen_good p log l s is sure g = record {
  tabled = g.opened refl is ∙ ap (λ (rows : List Row). look rows p) (sym (settled_none s.settled (rows_after [] s.base) ∙ append-nil s.base));
  mapped = g.mapped;
  opened = λ up. absurd (true≢false up);
  doubted = let D : Doubt → Type 0 = λ d. DoubtGood p None s.fresh s.current d in subst D (sym sure) tt;
  copied = λ f. g.copied refl;
}

pub all_open : (sides : List Side) → Rattle.std.specs.List.list_all (λ s. s.is_open) sides ≡ true → AllByRecursion (λ s. s.is_open ≡ true) sides
all_open [] e = tt
all_open (s ∷ sides) e = let a = and_parts s.is_open (Rattle.std.specs.List.list_all (λ s. s.is_open) sides) e in (a.0, all_open sides a.1)

pub closed_down : (j : ℕ) (up : Bool) (o : Option Hold) (sides : List Side) → AllByRecursion (SideFits up o) sides → Transitions.side_passes j (λ s. not s.is_open) sides ≡ true → up ≡ false
closed_down j up o [] all e = absurd (false≢true e)
closed_down zero up o (s ∷ sides) all e = false_from_ne_true up (λ t. false≢true (sym (not-true s.is_open e) ∙ all.0.is_open t))
closed_down (suc j) up o (s ∷ sides) all e = closed_down j up o sides all.1 e

down_hold : (o : Option Hold) (up frozen : Bool) (pending : Option Logged) → up ≡ false → HoldFlags o up frozen pending → o ≡ None
down_hold None up frozen pending down f = refl
down_hold (Some h) up frozen pending down f = absurd (true≢false (sym f.0 ∙ down))

pub weak : (P Q : Side → Type 0) → ((s : Side) → P s → Q s) → (sides : List Side) → AllByRecursion P sides → AllByRecursion Q sides
weak P Q h [] all = tt
weak P Q h (s ∷ sides) all = (h s all.0, weak P Q h sides all.1)

pub open_good : (j : ℕ) (c : Core) → CoreGood c → CoreGood (open_call j c).core
open_good j c g =
    let S : List Side = Transitions.at_side j Sides.opened c.sides in
    allowed_good (Transitions.side_passes j (λ s. not s.is_open) c.sides) (Transitions.risen (Rattle.std.specs.List.list_all (λ s. s.is_open) S) S c) c
    (λ allowed.
    let down : c.up ≡ false = closed_down j c.up c.hold c.sides g.fits allowed in
    let free : c.hold ≡ None = down_hold c.hold c.up c.frozen c.pending down g.flags in
    let l : Option Logged = c.pending in
    let sure : AllByRecursion IsSure c.sides = g.sure down in
    let U : Pair → Bool → Option Hold → Type 0 = λ p up o. AllByRecursion (SideGood p up c.log (change_in o c.pending) o) c.sides in
    let goods : (p : Pair) → AllByRecursion (SideGood p false c.log l None) c.sides = λ p.
    let V : Bool → Type 0 = λ up. U p up None in
    let W : Option Hold → Type 0 = λ o. U p c.up o in
    subst V down (subst W free (g.sides p)) in
    let X : Bool → Option Hold → Type 0 = λ up o. AllByRecursion (SideFits up o) c.sides in
    let fits : AllByRecursion (SideFits false None) c.sides =
    let V : Bool → Type 0 = λ up. X up None in
    let W : Option Hold → Type 0 = λ o. X c.up o in
    subst V down (subst W free g.fits) in
    let now : (p : Pair) → AllByRecursion (λ s. IsSure s × SideGood p false c.log l None s) S = λ p.
    all_at (λ s. IsSure s × SideGood p false c.log l None s) Sides.opened (λ s both. (both.0, opened_good p c.log l s both.0 both.1)) j c.sides
    (all_both IsSure (λ s. SideGood p false c.log l None s) c.sides sure (goods p)) in
    let fit : AllByRecursion (SideFits false None) S = all_at (λ s. SideFits false None s) Sides.opened
    (λ s f. record { is_open = λ no. absurd (false≢true no); rows = f.rows; most = f.most; copy = f.copy; held = tt }) j c.sides fits in
    let now_sure : AllByRecursion IsSure S = all_at IsSure Sides.opened (λ s h. h) j c.sides sure in
    let rise : (b : Bool) → Rattle.std.specs.List.list_all (λ s. s.is_open) S ≡ b → CoreGood (Transitions.risen b S c) =
    λ b. elim b as (λ b. Rattle.std.specs.List.list_all (λ s. s.is_open) S ≡ b → CoreGood (Transitions.risen b S c)) [
      | true ↦ λ open_all.
          let each = all_open S open_all in
          let F : Option Hold → Type 0 = λ o. HoldFlags o true false None in
          let Y : Pair → Option Hold → Type 0 = λ p o. AllByRecursion (SideGood p true [] (change_in o None) o) S in
          let Z : Option Hold → Type 0 = λ o. AllByRecursion (SideFits true o) S in
          let C : Option Hold → Type 0 = λ o. CalmHold o S in
          let R : List Reader → Type 0 = λ rs. AllByRecursion (ReaderGood [] S) rs in
          record {
            flags = subst F (sym free) (λ up f. refl);
            readers_up = λ no. absurd (true≢false no);
            sides = λ p. subst (Y p) (sym free)
                (weak (λ s. s.is_open ≡ true × (IsSure s × SideGood p false c.log l None s)) (λ s. SideGood p true [] None None s)
                (λ s all. risen_good p c.log l s all.0 all.1.0 all.1.1) S (all_both (λ s. s.is_open ≡ true) (λ s. IsSure s × SideGood p false c.log l None s) S each (now p)));
            fits = subst Z (sym free) (weak (λ s. s.is_open ≡ true × SideFits false None s) (λ s. SideFits true None s)
                (λ s all. record { is_open = λ up. all.0; rows = all.1.rows; most = all.1.most; copy = all.1.copy; held = tt }) S
                (all_both (λ s. s.is_open ≡ true) (λ s. SideFits false None s) S each fit));
            sure = λ no. now_sure;
            calm = λ f. subst C (sym free) now_sure;
            readers = subst R (sym (g.readers_up down)) tt;
            logged = let K : Option Hold → Type 0 = λ o. HoldLogged o [] in subst K (sym free) tt;
          }
      | false ↦ λ some_closed.
          let Y : Pair → Bool → Option Hold → Type 0 = λ p up o. AllByRecursion (SideGood p up c.log (change_in o c.pending) o) S in
          let Z : Bool → Option Hold → Type 0 = λ up o. AllByRecursion (SideFits up o) S in
          let C : Option Hold → Type 0 = λ o. CalmHold o S in
          let R : List Reader → Type 0 = λ rs. AllByRecursion (ReaderGood c.log S) rs in
          record {
            flags = g.flags;
            readers_up = g.readers_up;
            sides = λ p.
                let V : Bool → Type 0 = λ up. Y p up None in
                let W : Option Hold → Type 0 = λ o. Y p c.up o in
                subst W (sym free) (subst V (sym down) (weak (λ s. IsSure s × SideGood p false c.log l None s) (λ s. SideGood p false c.log l None s) (λ s both. both.1) S (now p)));
            fits =
                let V : Bool → Type 0 = λ up. Z up None in
                let W : Option Hold → Type 0 = λ o. Z c.up o in
                subst W (sym free) (subst V (sym down) fit);
            sure = λ no. now_sure;
            calm = λ f. subst C (sym free) now_sure;
            readers = subst R (sym (g.readers_up down)) tt;
            logged = g.logged;
          }
    ] in
    rise (Rattle.std.specs.List.list_all (λ s. s.is_open) S) refl)
    g

-- each event, and each list of events
pub event_good : (e : Event) (c : Core) → CoreGood c → CoreGood (after_event c e).core
event_good (event.Begin tag w) c g = begin_good tag w c g
event_good event.DeviceOk c g = device_ok_good c g
event_good event.DeviceFailed c g = device_failed_good c g
event_good event.ReadFailed c g = read_failed_good c g
event_good event.Publish c g = publish_good c g
event_good event.EndHold c g = end_hold_good c g
event_good (event.Look reader pair) c g = look_good reader pair c g
event_good (event.Fetch reader replica) c g = fetch_good replica (Transitions.reader_by reader c.readers) c g
event_good (event.Stop keep rows) c g = stop_good keep rows c g
event_good (event.OpenCall replica) c g = open_good replica c g

pub events_good : (events : List Event) (c : Core) → CoreGood c → CoreGood (after_events c events)
events_good [] c g = g
events_good (e ∷ events) c g = events_good events (after_event c e).core (event_good e c g)

-- a new volume
new_sides : (P : Side → Type 0) → P Transitions.new_side → (n : ℕ) → AllByRecursion P (Rattle.std.specs.Prelude.replicate n Transitions.new_side)
new_sides P h zero = tt
new_sides P h (suc n) = (h, new_sides P h n)

pub new_good : (n : ℕ) → CoreGood (Transitions.new_core n)
new_good n = record {
  flags = λ up f. refl;
  readers_up = λ no. absurd (true≢false no);
  sides = λ p. new_sides (λ s. SideGood p true [] None None s) (record { tabled = refl; mapped = λ is. refl; opened = λ no is. refl; doubted = tt; copied = λ f. tt }) n;
  fits = new_sides (λ s. SideFits true None s) (record { is_open = λ up. refl; rows = omega arith; most = omega arith; copy = tt; held = tt }) n;
  sure = λ no. new_sides IsSure refl n;
  calm = λ f. new_sides IsSure refl n;
  readers = tt;
  logged = tt;
}

-- what a fetch shows is what the table of its side has, behind the entries that the look saw
pub shows_is : (s : Side) (x : Spot) (o : Outcome) → Shows s x o → Sides.shown s x ≡ o
shows_is s Rattle.hay_core.specs.declared.machine.Spot.TheVariants.Absent o h = sym h
shows_is s Rattle.hay_core.specs.declared.machine.Spot.TheVariants.Gone o h = sym h
shows_is s (Rattle.hay_core.specs.declared.machine.Spot.TheVariants.Live g n) o h = ap (λ (c : Option Needle). Sides.photo_of c) h.1 ∙ sym h.2
