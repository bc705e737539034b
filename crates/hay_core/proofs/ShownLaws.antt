-- What the steps promise to who reads and to who opens.
use Rattle.std.proofs.Common.{◌≡◌, ℕ, zero, suc, Bool, true, false, not, ◌&&◌, ◌||◌, List, [], ◌∷◌, ◌++◌, take, map, Option, Some, None, refl, sym, ap, ◌∙◌, inl, inr, subst}
use Rattle.std.specs.Prelude.{slice_get, nat_eq, is_some}
use Rattle.std.specs.List.{AllByRecursion}
use Rattle.std.proofs.lemmas.Bool.{cases_Bool, cond-true, cond-false, true≢false, and_parts, or_cases, not-true}
use Rattle.hay_needle.specs.declared.needle.Pair.{Pair}
use Rattle.hay_needle.specs.declared.needle.Outcome.{Outcome}
use Rattle.hay_core.specs.declared.machine.Side.{Side}
use Rattle.hay_core.specs.declared.machine.Spot.{Spot}
use Rattle.hay_core.specs.declared.entry.Logged.{Logged}
use Rattle.hay_core.specs.declared.machine.Reader.{Reader}
use Rattle.hay_core.specs.declared.machine.Hold.{Hold}
use Rattle.hay_core.specs.declared.machine.Core.{Core}
use Rattle.hay_core.specs.declared.machine.CoreReply.TheVariants.{Done, Shown}
use Rattle.hay_core.specs.declared.machine.Event.TheVariants as event
use Rattle.hay_needle.specs.Tables.{look}
use Rattle.hay_core.specs.Entries.{rows_after}
use Rattle.hay_core.specs.Sides
use Rattle.hay_core.specs.Transitions
use Rattle.hay_core.specs.Transitions.{after_event, reader_by}
use Rattle.hay_core.specs.Goodness.{CoreGood, HoldLogged, ReaderGood, RowGood, Shows, SideGood, with_change, settled_change}
use Rattle.hay_core.specs.Invariants.{ShowsFront}
use Rattle.hay_core.proofs.EventLaws.{shows_is}

row_at : (p : Pair) (log : List Logged) (sides : List Side) (row : List Spot) (j : ℕ) (s : Side) (x : Spot) → RowGood p log sides row → slice_get sides j ≡ Some s
    → slice_get row j ≡ Some x → Shows s x (look (rows_after log s.base) p)
row_at p log [] row j s x h a b = absurd cc
row_at p log (t ∷ sides) [] j s x h a b = absurd h
row_at p log (t ∷ sides) (y ∷ row) zero s x h a b =
    let one : t ≡ s = cc in
    let two : y ≡ x = cc in
    let P : Side → Type 0 = λ s. Shows s y (look (rows_after log s.base) p) in
    let Q : Spot → Type 0 = λ x. Shows s x (look (rows_after log s.base) p) in
    subst Q two (subst P one h.0)
row_at p log (t ∷ sides) (y ∷ row) (suc j) s x h a b = row_at p log sides row j s x h.1 a b

seen_at : (P : Reader → Type 0) (reader : ℕ) (readers : List Reader) (r : Reader) → AllByRecursion P readers → reader_by reader readers ≡ Some r → P r
seen_at P reader [] r all e = absurd cc
seen_at P reader (x ∷ readers) r all e =
    elim (cases_Bool (nat_eq x.number reader)) [
      | inl t ↦
          let is : Some x ≡ Some r = sym (cond-true (nat_eq x.number reader) (Some x) (reader_by reader readers) t) ∙ e in
          let same : x ≡ r = cc in
          subst P same all.0
      | inr f ↦ seen_at P reader readers r all.1 (sym (cond-false (nat_eq x.number reader) (Some x) (reader_by reader readers) f) ∙ e)
    ]

pub fetch_shows : (reader replica : ℕ) (c : Core) (o : Outcome) → CoreGood c → (after_event c (event.Fetch reader replica)).reply ≡ Shown o → ShowsFront c reader replica o
fetch_shows reader replica c o g e = by (reader_by reader c.readers) refl e
  where
    at : (r : Reader) → reader_by reader c.readers ≡ Some r → (s : Option Side) → slice_get c.sides replica ≡ s → (x : Option Spot) → slice_get r.row replica ≡ x
        → (Transitions.fetch_at s x c).reply ≡ Shown o → ShowsFront c reader replica o
    at r is None a x b e = absurd cc
    at r is (Some s) a None b e = absurd cc
    at r is (Some s) a (Some x) b e =
        let good = seen_at (ReaderGood c.log c.sides) reader c.readers r g.readers is in
        let same : Sides.shown s x ≡ o = cc in
        record {
          reader = r;
          side = s;
          by_number = is;
          of_side = a;
          shown = sym same ∙ shows_is s x (look (rows_after (take r.front c.log) s.base) r.pair)
              (row_at r.pair (take r.front c.log) c.sides r.row replica s x good.row a b);
        }

    by : (r : Option Reader) → reader_by reader c.readers ≡ r → (Transitions.fetch_by replica r c).reply ≡ Shown o → ShowsFront c reader replica o
    by None is e = absurd cc
    by (Some r) is e = at r is (slice_get c.sides replica) refl (slice_get r.row replica) refl e

side_at : (P : Side → Type 0) (sides : List Side) (j : ℕ) (s : Side) → AllByRecursion P sides → slice_get sides j ≡ Some s → P s
side_at P [] j s all e = absurd cc
side_at P (t ∷ sides) zero s all e = let same : t ≡ s = cc in subst P same all.0
side_at P (t ∷ sides) (suc j) s all e = side_at P sides j s all.1 e

-- an opened side's table is that of the whole log, with the change under way where it is settled
pub opens : (c : Core) (j : ℕ) (s : Side) (p : Pair) → CoreGood c → slice_get c.sides j ≡ Some s
    → look (Sides.opened s).base p ≡ look (with_change (settled_change s.settled (Transitions.change c)) (rows_after c.log s.base)) p
opens c j s p g e = (side_at (λ s. SideGood p c.up c.log (Transitions.change c) c.hold s) c.sides j s (g.sides p) e).tabled

-- a holding that made a change and ends unfailed leaves it at the end of the log
pub ended_logged : (c : Core) (h : Hold) → CoreGood c → c.hold ≡ Some h → h.failed ≡ false → Transitions.publishes h.work ≡ true → (after_event c event.EndHold).reply ≡ Done
    → (front : List Logged) × ((after_event c event.EndHold).core.log ≡ front ++ Transitions.entry_list (Transitions.change_of h.tag h.work))
ended_logged c h g is ok pub_work e =
    let K : Option Hold → Type 0 = λ o. HoldLogged o c.log in
    let L : Option Hold → Type 0 = λ o. (Transitions.end_hold o c).reply ≡ Done in
    let out : (b : Bool) (next : Core) → (Transitions.allowed b next c).reply ≡ Done → b ≡ true =
    λ b next. elim b as (λ b. (Transitions.allowed b next c).reply ≡ Done → b ≡ true) [ true ↦ λ e. refl | false ↦ λ e. absurd cc ] in
    let test = h.failed || (not (is_some (Transitions.first_call h.work c.sides)) && (h.published || not (Transitions.publishes h.work))) in
    let next : Core = record c { sides = map (Sides.ended h.work h.failed) c.sides; hold = None; pending = Transitions.change_in (Some h) c.pending } in
    let told : test ≡ true = out test next (subst L is e) in
    let rest = sym (ap (λ (b : Bool). b || (not (is_some (Transitions.first_call h.work c.sides)) && (h.published || not (Transitions.publishes h.work)))) ok) ∙ told in
    let either = (and_parts (not (is_some (Transitions.first_call h.work c.sides))) (h.published || not (Transitions.publishes h.work)) rest).1 in
    let published : h.published ≡ true =
    elim (or_cases h.published (not (Transitions.publishes h.work)) either) [ inl t ↦ t | inr n ↦ absurd (true≢false (sym pub_work ∙ not-true (Transitions.publishes h.work) n)) ] in
    let entry = (subst K is g.logged) published in
    let same : (b : Bool) → (Transitions.allowed b next c).core.log ≡ c.log = λ b. elim b as (λ b. (Transitions.allowed b next c).core.log ≡ c.log) [ true ↦ refl | false ↦ refl ] in
    let M : Option Hold → Type 0 = λ o. (Transitions.end_hold o c).core.log ≡ c.log in
    (entry.0, subst M (sym is) (same test) ∙ entry.1)
