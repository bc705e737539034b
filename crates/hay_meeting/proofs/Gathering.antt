-- Lines of all lanes: each lane's sights and notes, and what of a lock's acts is whose.
use Rattle.std.proofs.Common.{◌≡◌, ◌≢◌, ℕ, ◌<◌, List, [], ◌∷◌, ◌++◌, length, filter, take, drop, get_or, refl, sym, ap, subst, ◌∙◌, arith, Some, Contains, slice_get}
use Rattle.std.specs.Prelude.{◌==◌}
use Rattle.std.specs.List.{AllByRecursion as Each}
use Rattle.std.proofs.lemmas.Option.{slice_get-get_or}
use mathlib.Core.List.{IsPrefix}
use mathlib.Core.Logic.{dite}
use native.Mathlib.Decide.{dec_lt}
use Rattle.std.proofs.lemmas.Bool.{ne_eqb}
use Rattle.std.proofs.Math.Seq.{take-append_seam, drop-append_seam}
use Rattle.hay_needle.specs.declared.settings.Settings.{Settings}
use Rattle.hay_reply.specs.declared.Reply.TheVariants.{NoMem}
use Rattle.hay_core.specs.declared.entry.CoreTag.{CoreTag}
use Rattle.hay_legal.specs.declared.known.Known.{Known}
use Rattle.hay_legal.specs.declared.turn.Item.TheVariants.{Bad}
use Rattle.hay_legal.specs.declared.turn.LaneItem.{LaneItem}
use Rattle.hay_legal.specs.Known.{EachPair}
use Rattle.hay_legal.specs.Blocks.{tag_of}
use Rattle.hay_history.proofs.Lists.{each_in, each_weaker, pair_by, pair_kept, same_of}
use Rattle.hay_turn.specs.Acts.{acts_of, AllBelow}
use Rattle.hay_turn.proofs.ActLists.{acts_of_append}
use Rattle.hay_turn.proofs.Prefixes.{prefix_trans}
use Rattle.hay_meeting.specs.Acts.{Happened, Start}
use Rattle.hay_meeting.specs.Chains.{BeginsAtLock, IsChain, Lines, Note, WholeAt}
use Rattle.hay_meeting.specs.Locks.{BearsAt, IsLaterAt, Lock, LockSight, entries, of_line, replayed}
use Rattle.hay_meeting.specs.Sights.{IsLaterSight, Sight}
use Rattle.hay_meeting.proofs.Chaining.{IsIn, IsOwned, Place, chain_later, each_by_seat, in_order, is_in, made_by, mine, of_line_of_seat, own_by, owned}
use Rattle.hay_meeting.proofs.Picking.{from_map, in_map, in_part, in_whole, pair_by_part, pair_map, pair_unmap, pick, picked}
use Rattle.hay_meeting.proofs.Replays.{prefix_length}

below_rest : {E : Type 0} (seat : E → ℕ) (lanes : ℕ) (xs ys : List E) → AllBelow seat lanes (xs ++ ys) → AllBelow seat lanes ys
below_rest seat lanes [] ys below = below
below_rest seat lanes (x ∷ xs) ys below = below_rest seat lanes xs ys below.1

pub each_replayed : {S E X T : Type 0} (lock : Lock S E X T) (stamp : T → CoreTag) (stamped : (before : S) (act : E) → stamp (lock.step before act) ≡ lock.tag act) (P : CoreTag → Type 0)
    (start : S) (acts : List E) → Each (λ act. P (lock.tag act)) acts → Each (λ step. P (stamp step)) (replayed lock start acts)
each_replayed lock stamp stamped P start [] each = tt
each_replayed lock stamp stamped P start (act ∷ acts) each = (subst P (sym (stamped start act)) each.0, each_replayed lock stamp stamped P (lock.next act start) acts each.1)

abbrev no_item : LaneItem
no_item = record { line = 0; lane = 0; item = Bad; reply = NoMem }

abbrev no_sight : Sight
no_sight = record { volumes = λ v. record { seen = []; own = []; shown = [] }; directory = record { seen = []; own = []; shown = [] }; arm = 0 }

abbrev no_note : Note
no_note = record { item = no_item; before = no_sight; after = no_sight }

module _ {settings : Settings} {start : Start} {lanes : ℕ} {before after : List Sight} {items : List LaneItem} {h0 h : Happened} {k t : Known}
    (x : Lines settings start lanes before after items h0 h k t) where
  abbrev pub notes : ℕ → List Note
  notes = (x.lines).notes

  -- the lane's sights before the lines and behind them
  abbrev pub first : ℕ → Sight
  first lane = get_or before lane no_sight

  abbrev pub final : ℕ → Sight
  final lane = get_or after lane no_sight

  pub at_first_sight : (lane : ℕ) → lane < lanes → slice_get before lane ≡ Some (first lane)
  at_first_sight lane low = slice_get-get_or before lane no_sight (omega (arith, low, (x.begins).many))

  pub at_final : (lane : ℕ) → lane < lanes → slice_get after lane ≡ Some (final lane)
  at_final lane low = slice_get-get_or after lane no_sight (omega (arith, low, (x.ends).many))

  pub chain : (lane : ℕ) → lane < lanes → IsChain settings start k.drained lane (first lane) (notes lane) (final lane)
  chain lane low = (x.lines).chain lane (first lane) (final lane) (at_first_sight lane low) (at_final lane low)

  -- ITEMS AND NOTES

  pub item_in : (lane : ℕ) (note : Note) → Contains (notes lane) note → Contains items note.item
  item_in lane note among =
      in_whole (λ (i : LaneItem). i.lane) items lane note.item
      (subst (λ z. Contains z note.item) (sym ((x.lines).each lane)) (in_map (λ (n : Note). n.item) (notes lane) note among))

  pub note_for : (item : LaneItem) → Contains items item → (note : Note) × Contains (notes item.lane) note × (note.item ≡ item)
  note_for item among =
      from_map (λ (n : Note). n.item) (notes item.lane) item
      (subst (λ z. Contains z item) ((x.lines).each item.lane) (in_part (λ (i : LaneItem). i.lane) items item among))

  pub low_of : (item : LaneItem) → Contains items item → item.lane < lanes
  low_of item among = each_in (λ (i : LaneItem). i.lane < lanes) items item (x.lines).low among

  notes_apart : (lane : ℕ) → EachPair (λ m n. (m.item).line ≢ (n.item).line) (notes lane)
  notes_apart lane =
      pair_unmap (λ (n : Note). n.item) (λ a b. a.line ≢ b.line) (notes lane)
      (subst (EachPair (λ a b. a.line ≢ b.line)) ((x.lines).each lane) (pair_kept (λ (a b : LaneItem). a.line ≢ b.line) (λ i. i.lane == lane) items x.distinct))

  -- the note of a line, by its number
  abbrev pub note_of : ℕ → Note
  note_of line = pick (λ (n : Note). (n.item).line) no_note (notes (pick (λ (i : LaneItem). i.line) no_item items line).lane) line

  pub note_found : (item : LaneItem) → Contains items item → (note : Note) → Contains (notes item.lane) note → note.item ≡ item → note_of item.line ≡ note
  note_found item among note at is =
      let one : pick (λ (i : LaneItem). i.line) no_item items item.line ≡ item = picked (λ (i : LaneItem). i.line) no_item items item x.distinct among in
      ap (λ (i : LaneItem). pick (λ (n : Note). (n.item).line) no_note (notes i.lane) item.line) one
      ∙ (ap (pick (λ (n : Note). (n.item).line) no_note (notes item.lane)) (ap (λ (i : LaneItem). i.line) (sym is))
      ∙ picked (λ (n : Note). (n.item).line) no_note (notes item.lane) note (notes_apart item.lane) at)

  pub in_chain : (item : LaneItem) (among : Contains items item) (note : Note) → Contains (notes item.lane) note → IsIn settings start k.drained item.lane (first item.lane) (final item.lane) note
  in_chain item among note at = is_in settings start k.drained item.lane (notes item.lane) (first item.lane) (final item.lane) (chain item.lane (low_of item among)) note at

  pub home_lane : (lane : ℕ) → lane < lanes → (note : Note) → Contains (notes lane) note → (note.item).lane ≡ lane
  home_lane lane low note at = (is_in settings start k.drained lane (notes lane) (first lane) (final lane) (chain lane low) note at).lane_is

  pub found_in : (lane : ℕ) → lane < lanes → (note : Note) → Contains (notes lane) note → note_of (note.item).line ≡ note
  found_in lane low note at = note_found note.item (item_in lane note at) note (subst (λ l. Contains (notes l) note) (sym (home_lane lane low note at)) at) refl

  -- what holds of a lane's notes as they stand holds of the lines, in each lane
  pub by_notes : (Behind : LaneItem → LaneItem → Type 0)
      → ((lane : ℕ) → lane < lanes → (m n : Note) → Contains (notes lane) m → Contains (notes lane) n → IsLaterSight m.after n.before → Behind m.item n.item)
      → EachPair (λ a b. a.lane ≡ b.lane → Behind a b) items
  by_notes Behind behind = pair_by_part (λ (i : LaneItem). i.lane) Behind items each_lane
    where
      none_there : (lane : ℕ) (items : List LaneItem) → Each (λ item. item.lane < lanes) items → (lane < lanes → ⊥) → filter (λ item. item.lane == lane) items ≡ []
      none_there lane [] low high = refl
      none_there lane (i ∷ items) low high = rw (ne_eqb i.lane lane (λ e. high (omega (arith, low.0, e)))) (none_there lane items low.1 high)

      each_lane : (lane : ℕ) → EachPair Behind (filter (λ item. item.lane == lane) items)
      each_lane lane = dite (dec_lt lane lanes)
          (λ low. subst (EachPair Behind) (sym ((x.lines).each lane)) (pair_map (λ (n : Note). n.item) Behind (notes lane)
          (pair_by (λ (m n : Note). IsLaterSight m.after n.before) (λ m n. Behind m.item n.item) (notes lane) (behind lane low)
          (in_order settings start k.drained lane (notes lane) (first lane) (final lane) (chain lane low)))))
          (λ high. subst (EachPair Behind) (sym (none_there lane items (x.lines).low high)) tt)

  -- ONE LOCK

  module _ {S E X T : Type 0} (place : Place settings start k.drained S E X T) {old all : List E} (begins : BeginsAtLock place.lock place.at lanes before old)
      (ends : WholeAt place.lock place.at lanes after all) where
    abbrev lock : Lock S E X T
    lock = place.lock

    abbrev at : Sight → LockSight E X
    at = place.at

    -- the acts of the lines
    pub parts : IsPrefix old all
    parts =
        let s = begins.seen 0 (first 0) (at_first_sight 0 x.some) in
        let l = place.is_later (first 0) (final 0) (chain_later settings start k.drained 0 (notes 0) (first 0) (final 0) (chain 0 x.some)) in
        let p = prefix_trans (at (first 0)).seen (at (final 0)).seen all l.seen (ends.seen 0 (final 0) (at_final 0 x.some)) in
        prefix_trans old (at (first 0)).seen all s p

    abbrev pub new : List E
    new = drop (length old) all

    pub whole : all ≡ old ++ new
    whole = sym parts.1 ∙ ap (λ z. old ++ z) (sym (drop-append_seam old parts.0) ∙ ap (drop (length old)) parts.1)

    pub taken_is : take (length old) all ≡ old
    taken_is = ap (take (length old)) whole ∙ take-append_seam old new

    -- a lane's new acts are those of its lines
    new_of : (lane : ℕ) (low : lane < lanes) → acts_of lock.seat lane new ≡ made_by settings start k.drained lane place (notes lane) (first lane) (final lane) (chain lane low)
    new_of lane low =
        let a : LockSight E X = at (first lane) in
        let b : LockSight E X = at (final lane) in
        let made : List E = made_by settings start k.drained lane place (notes lane) (first lane) (final lane) (chain lane low) in
        let own0 : acts_of lock.seat lane old ≡ a.own = begins.own lane (first lane) (at_first_sight lane low) in
        let own1 : acts_of lock.seat lane all ≡ b.own = ends.own lane (final lane) (at_final lane low) in
        let joined : a.own ++ acts_of lock.seat lane new ≡ a.own ++ made =
        ap (λ z. z ++ acts_of lock.seat lane new) (sym own0)
        ∙ (sym (acts_of_append lock.seat lane old new) ∙ (ap (acts_of lock.seat lane) (sym whole)
        ∙ (own1 ∙ own_by settings start k.drained lane place (notes lane) (first lane) (final lane) (chain lane low)))) in
        sym (drop-append_seam a.own (acts_of lock.seat lane new)) ∙ (ap (drop (length a.own)) joined ∙ drop-append_seam a.own made)

    -- each act is a line's
    pub record IsOurs (act : E) : Type 0 where
      pub item : LaneItem
      pub among : Contains items item
      pub tag : lock.tag act ≡ tag_of item
      pub seat : lock.seat act ≡ item.lane

    pub ours : Each IsOurs new
    ours = each_by_seat lock IsOurs lanes new (below_rest lock.seat lanes old new (subst (AllBelow lock.seat lanes) whole ends.below))
        (λ lane low. subst (Each IsOurs) (sym (new_of lane low))
        (each_weaker (IsOwned settings start k.drained lane place (notes lane)) IsOurs
        (λ act o. record { item = (o.note).item; among = item_in lane o.note o.among; tag = (o.made).tag; seat = (o.made).seat })
        (made_by settings start k.drained lane place (notes lane) (first lane) (final lane) (chain lane low))
        (owned settings start k.drained lane place (notes lane) (first lane) (final lane) (chain lane low))))

    -- the acts of a line are of its lane's seat
    of_seat : (item : LaneItem) → Contains items item → of_line lock item.line new ≡ of_line lock item.line (acts_of lock.seat item.lane new)
    of_seat item among = of_line_of_seat lock item.line item.lane new
        (each_weaker IsOurs (λ act. (lock.tag act).line ≡ item.line → lock.seat act ≡ item.lane)
        (λ act o e. o.seat ∙ ap (λ (i : LaneItem). i.lane) (same_of (λ (i : LaneItem). i.line) items o.item item x.distinct o.among among (sym (ap (λ (c : CoreTag). c.line) o.tag) ∙ e)))
        new ours)

    pub bears_at : (item : LaneItem) (among : Contains items item) (note : Note) → Contains (notes item.lane) note → note.item ≡ item
        → BearsAt lock (length old) all (note.item).line (at note.before) (at note.after)
    bears_at item among note there is =
        let i = in_chain item among note there in
        let low = low_of item among in
        let a : Sight = first item.lane in
        let z : Sight = final item.lane in
        let from : IsLaterAt (at a) (at note.before) = place.is_later a note.before i.from in
        let to : IsLaterAt (at note.after) (at z) = place.is_later note.after z i.to in record {
          low =
              let l = prefix_length (at a).seen (at note.before).seen from.seen in let f = prefix_length old (at a).seen (begins.seen item.lane a (at_first_sight item.lane low)) in
              omega (arith, l, f);
          low_shown = subst (λ w. IsPrefix (entries lock w) (at note.before).shown) (sym taken_is)
              (prefix_trans (entries lock old) (at a).shown (at note.before).shown (begins.shown item.lane a (at_first_sight item.lane low)) from.shown);
          seen = prefix_trans (at note.after).seen (at z).seen all to.seen (ends.seen item.lane z (at_final item.lane low));
          shown = prefix_trans (at note.after).shown (at z).shown (entries lock all) to.shown (ends.shown item.lane z (at_final item.lane low));
          mine = subst (λ (j : LaneItem). of_line lock j.line new ≡ drop (length (at note.before).own) (at note.after).own) (sym is)
              (of_seat item among ∙ (ap (of_line lock item.line) (new_of item.lane low)
              ∙ (ap (λ (j : LaneItem). of_line lock j.line (made_by settings start k.drained item.lane place (notes item.lane) a z (chain item.lane low))) (sym is)
              ∙ mine settings start k.drained item.lane place (notes item.lane) a z (chain item.lane low) (notes_apart item.lane) note there)));
        }
