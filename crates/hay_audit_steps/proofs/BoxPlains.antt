-- Every plain line and each restart over a box, and that the boxes behind them are boxes of the store.
use Rattle.std.proofs.Common.{◌≡◌, ℕ, zero, suc, ◌+◌, ◌<◌, Bool, true, false, List, [], ◌∷◌, ◌++◌, length, Option, Some, None, refl, sym, ap, subst, ◌∙◌, arith}
use Rattle.std.specs.Prelude.{cond, find, option_map, ◌==◌, map, flat_map, nat_lt, is_some, replicate, slice_index_or, slice_set}
use Rattle.std.specs.List.{AllZip, AllByRecursion as Each}
use Rattle.std.proofs.lemmas.Bool.Decides.{Decides-ltb}
use Rattle.hay_needle.specs.declared.settings.Settings.{Settings}
use Rattle.hay_needle.specs.declared.needle.Pair.{Pair}
use Rattle.hay_core.specs.declared.entry.CoreTag.{CoreTag}
use Rattle.hay_core.specs.declared.entry.Entry.{Entry}
use Rattle.hay_script.specs.declared.Command.TheVariants as command
use Rattle.hay_reply.specs.declared.Note.{Note}
use Rattle.hay_reply.specs.declared.Refused.{Refused}
use Rattle.hay_reply.specs.declared.Reply.{Reply}
use Rattle.hay_reply.specs.declared.Reply.TheVariants as reply
use Rattle.hay_legal.specs.declared.known.HomeRow.{HomeRow}
use Rattle.hay_legal.specs.declared.known.Run.{Run}
use Rattle.hay_legal.specs.declared.known.ReplicaKnown.{ReplicaKnown}
use Rattle.hay_legal.specs.declared.known.VolumeKnown.{VolumeKnown}
use Rattle.hay_legal.specs.declared.known.Known.{Known}
use Rattle.hay_legal.specs.declared.turn.Item.{Item}
use Rattle.hay_legal.specs.declared.turn.Item.TheVariants as item
use Rattle.hay_legal.specs.Known.{machine_of, replicas_of, empty_volume, fresh_unharmed, replica_on, taker_of, tries_of, volume_at}
use Rattle.hay_legal.specs.Plain.{OnReplica, LegalCompact, LegalFinish, LegalFlush, LegalStep, replica_of}
use Rattle.hay_legal.specs.Restarts.{kept_entry, is_kept}
use Rattle.hay_legal.specs.Subject.{IsOf}
use Rattle.hay_legal.proofs.Subject.Entries.{is_of-fresh, plain_is_of, restart_is_of}
use Rattle.hay_legal.proofs.Subject.Standing.{replica_bounded}
use Rattle.hay_audit_steps.specs.BoxNext.{finished_boxes, room_above, swapped_box}
use Rattle.hay_audit_steps.specs.BoxPlain.{BoxesStandForStates, FreshBoxIsFirst, IsBoxOf, NotesAreCounted, PlainLinesKeepBoxes, PlainLinesStepBoxes, RestartsKeepBoxes, box_plain}
use Rattle.hay_audit_steps.specs.BoxPlain.{exact_box, no_slacks, on_place}
use Rattle.hay_audit_steps.specs.BoxReopen.{base_of, before_others, high_of, low_of, parts_of, reopened_stores, restart_boxes, restarted_box, restarted_from, restarted_with}
use Rattle.hay_audit_steps.specs.BoxReopen.{then_others, volume_kept, volume_of}
use Rattle.hay_audit_steps.specs.Boxes.{Box, Has, IsBoxStep, IsFilled, Within, fill, fill_replicas, fill_volumes, ranged, set_slack}
use Rattle.hay_audit_steps.specs.Next.{next_plain}
use Rattle.hay_audit_steps.specs.Parts.{Part, as_it_was, as_swapped, choices_with, may_swap, reopened_choices, reopened_parts}
use Rattle.hay_audit_steps.specs.Places.{compacted_boxes, copied_all, copied_some, copied_parts, flushed_boxes, flushed_part, flushed_parts, part_at, stepped_boxes, stepped_parts}
use Rattle.hay_audit_steps.specs.Places.{tight_part, with_part}
use Rattle.hay_audit_steps.specs.Reached.{note_count, volumes_note_count}
use Rattle.hay_audit_steps.specs.Reopen.{Read, new_rows, restart_row}
use Rattle.hay_audit_steps.specs.Rooms.{IsWhole, lowest, put_box, put_by, put_boxes, refuse_box, refused_boxes, try_cuts, all_refused_at}
use Rattle.hay_audit_steps.specs.Slacks.{Lies, Slack, fill_replica, fill_run, no_slack}
use Rattle.hay_audit_steps.specs.CheckerSteps.{plain_row}
use Rattle.hay_audit_steps.proofs.BoxReopens.{restarts_step_boxes}
use Rattle.hay_audit_steps.proofs.Choices.{each_choice}
use Rattle.hay_audit_steps.proofs.Cuts.{within_at, within_own}
use Rattle.hay_audit_steps.proofs.Divide.{IsPartOf, filled_there, has_lowest}
use Rattle.hay_audit_steps.proofs.Finishes.{finishes_step_boxes}
use Rattle.hay_audit_steps.proofs.Laying.{each_both}
use Rattle.hay_audit_steps.proofs.Lifting.{same_replica, volume_fill}
use Rattle.hay_audit_steps.proofs.Places.{compacts_step_boxes, flushes_step_boxes, steps_step_boxes}
use Rattle.hay_audit_steps.proofs.PutBoxes.{puts_step_boxes}
use Rattle.hay_audit_steps.proofs.Refusals.{SameRefusals, all_refused_divide}
use Rattle.hay_audit_steps.proofs.Rooming.{AllSame, long_fill, try_cuts_divide}
use Rattle.hay_audit_steps.proofs.Sizeless.{sizeless_lines_step_boxes}
use Rattle.hay_audit_steps.proofs.Wider.{both_set, set_length}

-- PLACES OF A STORE

volume_bounded : (settings : Settings) (v m j : ℕ) → replica_on settings v m ≡ Some j → v < settings.volumes
volume_bounded settings v m j e = by_test (nat_lt v settings.volumes) refl
  where
    by_test : (test : Bool) → nat_lt v settings.volumes ≡ test → v < settings.volumes
    by_test true g = (Decides-ltb v settings.volumes).0 g
    by_test false g = absurd (let none : None ≡ Some j = sym (ap (λ (b : Bool). cond b (find (λ i. machine_of settings v i == m) (replicas_of settings)) None) g) ∙ e in cc)

volumes_long : (xss : List (List Slack)) (volumes : List VolumeKnown) → length (fill_volumes xss volumes) ≡ length volumes
volumes_long [] volumes = refl
volumes_long (xs ∷ xss) [] = refl
volumes_long (xs ∷ xss) (w ∷ volumes) = ap suc (volumes_long xss volumes)

-- how many volumes and replicas the states of a box have, its base has
record HasShape (settings : Settings) (b : Known) : Type 0 where
  volumes : length b.volumes ≡ settings.volumes
  replicas : (v : ℕ) → v < settings.volumes → length (volume_at b v).replicas ≡ settings.replicas

base_shape : (settings : Settings) (xss : List (List Slack)) (b : Known) → IsOf settings (fill xss b) → HasShape settings b
base_shape settings xss b is = record {
  volumes = sym (volumes_long xss b.volumes) ∙ is.volumes;
  replicas = λ v below.
      sym (ap (λ (w : VolumeKnown). length w.replicas) (volume_fill xss b v) ∙ long_fill (slice_index_or xss v []) (volume_at b v).replicas) ∙ is.replicas v below;
}

shape_of : (settings : Settings) (box : Box) → IsBoxOf settings box → HasShape settings box.base
shape_of settings box is = base_shape settings box.low box.base (is.states (lowest box) (has_lowest box is.whole))

-- a replica of the settings has its place in the box
place_on : (settings : Settings) (box : Box) (v m j : ℕ) → IsBoxOf settings box → replica_on settings v m ≡ Some j → IsFilled box v j
place_on settings box v m j is on =
    filled_there box v j is.whole
    (omega (arith, replica_bounded settings v m j on, (shape_of settings box is).replicas v (volume_bounded settings v m j on)))

-- EVERY PLAIN LINE

on_step : (box : Box) (on : Option ℕ) (boxes : ℕ → List Box)
    → (row : Known → Known → Type 0) → ((j : ℕ) → on ≡ Some j → IsBoxStep row box (boxes j)) → (on ≡ None → (k t : Known) → row k t → ⊥) → IsBoxStep row box (on_place on boxes)
on_step box (Some j) boxes row step none = step j refl
on_step box None boxes row step none = record { sound = tt; complete = λ k faults arms fuses t has f a h. absurd (none refl (record k { faults = faults; arms = arms; fuses = fuses }) t h) }

pub plain_lines_step_boxes : PlainLinesStepBoxes
plain_lines_step_boxes settings box line (item.Command (command.Put pair bytes)) r known is = puts_step_boxes settings box line pair bytes r known is.whole
plain_lines_step_boxes settings box line (item.Command (command.Flush v m)) (reply.Flushed v' m' n) known is =
    on_step box (replica_on settings v m) (λ j. flushed_boxes box v m j v' m' n) (plain_row settings line (item.Command (command.Flush v m)) (reply.Flushed v' m' n))
    (λ j on. flushes_step_boxes settings box line v m j v' m' n on (place_on settings box v m j is on))
    (λ none k t h. subst (λ (o : Option ℕ). OnReplica k o (LegalFlush settings k v m) (reply.Flushed v' m' n) t) none h)
plain_lines_step_boxes settings box line (item.Command (command.Step v m cells)) (reply.Stepped v' m' n) known is =
    on_step box (replica_on settings v m) (λ j. stepped_boxes box v m j cells v' m' n) (plain_row settings line (item.Command (command.Step v m cells)) (reply.Stepped v' m' n))
    (λ j on. steps_step_boxes settings box line v m j cells v' m' n on (place_on settings box v m j is on))
    (λ none k t h. subst (λ (o : Option ℕ). OnReplica k o (λ j. LegalStep settings k v m j cells) (reply.Stepped v' m' n) t) none h)
plain_lines_step_boxes settings box line (item.Command (command.Compact v m)) (reply.Compacted v' m' g) known is =
    on_step box (replica_on settings v m) (λ j. compacted_boxes box v m j v' m' g) (plain_row settings line (item.Command (command.Compact v m)) (reply.Compacted v' m' g))
    (λ j on. compacts_step_boxes settings box line v m j v' m' g on (place_on settings box v m j is on))
    (λ none k t h. subst (λ (o : Option ℕ). OnReplica k o (LegalCompact settings k v m) (reply.Compacted v' m' g) t) none h)
plain_lines_step_boxes settings box line (item.Command (command.Finish v m)) (reply.Compacted v' m' g) known is =
    on_step box (replica_on settings v m) (λ j. finished_boxes box v m j v' m' g) (plain_row settings line (item.Command (command.Finish v m)) (reply.Compacted v' m' g))
    (λ j on. finishes_step_boxes settings box line v m j v' m' g on (place_on settings box v m j is on))
    (λ none k t h. subst (λ (o : Option ℕ). OnReplica k o (LegalFinish settings k v m) (reply.Compacted v' m' g) t) none h)
plain_lines_step_boxes settings box line asked r known is = sizeless_lines_step_boxes settings box line asked r known tt

-- RANGES OF THE SETTINGS

-- a range for each replica of the settings, and some sizes within
record IsWide (settings : Settings) (box : Box) : Type 0 where
  volumes : length box.low ≡ settings.volumes
  replicas : (v : ℕ) → v < settings.volumes → length (slice_index_or box.low v []) ≡ settings.replicas
  some : Within box.low box.high

zip_by : (volumes : List VolumeKnown) (lows : List (List Slack)) → length volumes ≡ length lows
    → ((v : ℕ) → v < length lows → length (slice_index_or volumes v empty_volume).replicas ≡ length (slice_index_or lows v []))
    → AllZip (λ volume row. length volume.replicas ≡ length row) volumes lows
zip_by [] [] e h = tt
zip_by (w ∷ volumes) (l ∷ lows) e h = (h 0 (omega arith), zip_by volumes lows (omega (arith, e)) (λ v below. h (suc v) (omega (arith, below))))
zip_by [] (l ∷ lows) e h = absurd (omega (arith, e))
zip_by (w ∷ volumes) [] e h = absurd (omega (arith, e))

zip_of : (volumes : List VolumeKnown) (lows : List (List Slack)) (v : ℕ) → AllZip (λ volume row. length volume.replicas ≡ length row) volumes lows
    → (length volumes ≡ length lows) × (length (slice_index_or volumes v empty_volume).replicas ≡ length (slice_index_or lows v []))
zip_of [] [] v h = (refl, refl)
zip_of (w ∷ volumes) (l ∷ lows) zero h = (ap suc (zip_of volumes lows 0 h.1).0, h.0)
zip_of (w ∷ volumes) (l ∷ lows) (suc v) h = let rest = zip_of volumes lows v h.1 in (ap suc rest.0, rest.1)
zip_of [] (l ∷ lows) v h = absurd h
zip_of (w ∷ volumes) [] v h = absurd h

whole_of : (settings : Settings) (box : Box) → IsWide settings box → ((k : Known) → Has box k → IsOf settings k) → IsBoxOf settings box
whole_of settings box wide states =
    let first : Has box (lowest box) = (box.low, record { least = within_own box.low; most = wide.some }, refl) in
    let shape = base_shape settings box.low box.base (states (lowest box) first) in
    record {
      whole = record {
        shaped = zip_by box.base.volumes box.low (shape.volumes ∙ sym wide.volumes)
            (λ v below. let within : v < settings.volumes = omega (arith, below, wide.volumes) in shape.replicas v within ∙ sym (wide.replicas v within));
        some = wide.some;
      };
      states = states;
    }

wide_of : (settings : Settings) (box : Box) → HasShape settings box.base → IsWhole box → IsWide settings box
wide_of settings box shape is = record {
  volumes = sym (zip_of box.base.volumes box.low 0 is.shaped).0 ∙ shape.volumes;
  replicas = λ v below. sym (zip_of box.base.volumes box.low v is.shaped).1 ∙ shape.replicas v below;
  some = is.some;
}

index_other : (xss : List (List Slack)) (v w : ℕ) (ys : List Slack) → length ys ≡ length (slice_index_or xss v [])
    → length (slice_index_or (slice_set xss v ys) w []) ≡ length (slice_index_or xss w [])
index_other [] v w ys e = refl
index_other (xs ∷ xss) zero zero ys e = e
index_other (xs ∷ xss) zero (suc w) ys e = refl
index_other (xs ∷ xss) (suc v) zero ys e = refl
index_other (xs ∷ xss) (suc v) (suc w) ys e = index_other xss v w ys e

-- one range set anew
wide_set : (settings : Settings) (box : Box) (b : Known) (v j : ℕ) (x y : Slack) → IsWide settings box → Lies x y
    → IsWide settings (record { base = b; low = set_slack box.low v j x; high = set_slack box.high v j y })
wide_set settings box b v j x y wide lies = record {
  volumes = set_length box.low v (slice_set (slice_index_or box.low v []) j x) ∙ wide.volumes;
  replicas = λ w below. index_other box.low v w (slice_set (slice_index_or box.low v []) j x) (set_length (slice_index_or box.low v []) j x) ∙ wide.replicas w below;
  some = both_set box.low box.high v j x y wide.some lies;
}

-- EACH OF A LIST

each_wide : (settings : Settings) (box : Box) (cs : List Known) → IsWide settings box → Each (IsWide settings) (map (ranged box) cs)
each_wide settings box [] wide = tt
each_wide settings box (c ∷ cs) wide = (record { volumes = wide.volumes; replicas = wide.replicas; some = wide.some }, each_wide settings box cs wide)

each_flat : (P : Box → Type 0) (f : Box → List Box) (ds : List Box) → Each (λ d. Each P (f d)) ds → Each P (flat_map f ds)
each_flat P f [] h = tt
each_flat P f (d ∷ ds) h = each_both P (f d) (flat_map f ds) h.0 (each_flat P f ds h.1)

each_of : (P Q : Box → Type 0) (ds : List Box) → ((d : Box) → P d → Q d) → Each P ds → Each Q ds
each_of P Q [] step h = tt
each_of P Q (d ∷ ds) step h = (step d h.0, each_of P Q ds step h.1)

each_where : {X : Type 0} (P : X → Type 0) (test : Bool) (xs : List X) → Each P xs → Each P (cond test xs [])
each_where P true xs h = h
each_where P false xs h = tt

each_part : (settings : Settings) (box : Box) (v j : ℕ) (parts : List Part) → IsWide settings box → Each (λ p. Lies p.low p.high) parts → Each (IsWide settings) (map (with_part box v j) parts)
each_part settings box v j [] wide h = tt
each_part settings box v j (p ∷ parts) wide h = (wide_set settings box (with_part box v j p).base v j p.low p.high wide h.0, each_part settings box v j parts wide h.1)

on_each : (P : Box → Type 0) (on : Option ℕ) (boxes : ℕ → List Box) → ((j : ℕ) → Each P (boxes j)) → Each P (on_place on boxes)
on_each P None boxes h = tt
on_each P (Some j) boxes h = h j

-- PUTS

part_wide : (settings : Settings) (box d : Box) → HasShape settings box.base → IsPartOf box d → IsWide settings d
part_wide settings box d shape part = wide_of settings d (subst (λ (b : Known). HasShape settings b) (sym part.base) shape) part.whole

refused_wide : (settings : Settings) (pair : Pair) (bytes : List ℕ) (refused : List Refused) (rest : Bool) (box : Box) → HasShape settings box.base → IsWhole box
    → AllSame settings (length bytes) (tries_of settings box.base pair) box → Each (IsWide settings) (refused_boxes settings pair (length bytes) refused rest box)
refused_wide settings pair bytes refused rest box shape is same =
    each_flat (IsWide settings) (refuse_box settings pair (length bytes) refused rest) (all_refused_at settings (length bytes) (tries_of settings box.base pair) refused box)
    (each_of (λ d. IsPartOf box d × SameRefusals settings (length bytes) (tries_of settings box.base pair) d) (λ d. Each (IsWide settings) (refuse_box settings pair (length bytes) refused rest d))
    (all_refused_at settings (length bytes) (tries_of settings box.base pair) refused box)
    (λ d h. each_wide settings d _ (part_wide settings box d shape h.0))
    (all_refused_divide settings (length bytes) (tries_of settings box.base pair) refused box is same).each)

put_wide : (settings : Settings) (tag : CoreTag) (pair : Pair) (bytes : List ℕ) (r : Reply) (box : Box) → HasShape settings box.base → IsWhole box
    → AllSame settings (length bytes) (tries_of settings box.base pair) box → Each (IsWide settings) (put_box settings tag pair bytes r box)
put_wide settings tag pair bytes (reply.Full refused) box shape is same = refused_wide settings pair bytes refused _ box shape is same
put_wide settings tag pair bytes (reply.ReadOnly by) box shape is same = refused_wide settings pair bytes _ true box shape is same
put_wide settings tag pair bytes r box shape is same =
    each_wide settings box (put_by settings box.base tag pair bytes r (taker_of settings (lowest box) pair (length bytes))) (wide_of settings box shape is)

puts_wide : (settings : Settings) (tag : CoreTag) (pair : Pair) (bytes : List ℕ) (r : Reply) (box : Box) → HasShape settings box.base → IsWhole box
    → Each (IsWide settings) (put_boxes settings tag pair bytes r box)
puts_wide settings tag pair bytes r box shape is =
    each_flat (IsWide settings) (put_box settings tag pair bytes r) (try_cuts settings (length bytes) (tries_of settings box.base pair) box)
    (each_of (λ d. IsPartOf box d × AllSame settings (length bytes) (tries_of settings box.base pair) d) (λ d. Each (IsWide settings) (put_box settings tag pair bytes r d))
    (try_cuts settings (length bytes) (tries_of settings box.base pair) box)
    (λ d h. put_wide settings tag pair bytes r d (subst (λ (b : Known). HasShape settings b) (sym (h.0).base) shape) (h.0).whole
    (subst (λ (b : Known). AllSame settings (length bytes) (tries_of settings b pair) d) (sym (h.0).base) h.1))
    (try_cuts_divide settings (length bytes) (tries_of settings box.base pair) box is).each)

-- ONE REPLICA

lie_where : (test : Bool) (p : Part) → Lies p.low p.high → Each (λ (q : Part). Lies q.low q.high) (cond test (p ∷ []) [])
lie_where true p lies = (lies, tt)
lie_where false p lies = tt

flushed_lie : (part : Part) (n : ℕ) → Lies part.low part.high → Each (λ p. Lies p.low p.high) (flushed_parts part n)
flushed_lie part n lies = lie_where _ (flushed_part part) (record { end = lies.end; cells = lies.cells; bare = omega arith })

either_lie : (test one other : Bool) (p q : Part) → Lies p.low p.high → Lies q.low q.high → Each (λ (r : Part). Lies r.low r.high) (cond test (cond one (p ∷ []) []) (cond other (q ∷ []) []))
either_lie true one other p q h g = lie_where one p h
either_lie false one other p q h g = lie_where other q g

copied_lie : (part : Part) (run : Run) (cells n : ℕ) → Lies part.low part.high → Each (λ p. Lies p.low p.high) (copied_parts part run cells n)
copied_lie part run cells n lies =
    either_lie (nat_lt n cells) _ _ (copied_all part run n) (copied_some part run n)
    (record { end = lies.end; cells = omega arith; bare = lies.bare }) (record { end = lies.end; cells = omega arith; bare = lies.bare })

stepped_lie : (part : Part) (o : Option Run) (cells n : ℕ) → Lies part.low part.high → Each (λ p. Lies p.low p.high) (stepped_parts part o cells n)
stepped_lie part None cells n lies = tt
stepped_lie part (Some run) cells n lies = copied_lie part run cells n lies

plain_wide : (settings : Settings) (box : Box) (line : ℕ) (asked : Item) (r : Reply) → HasShape settings box.base → IsWhole box → Each (IsWide settings) (box_plain settings line asked r box)
plain_wide settings box line (item.Command (command.Put pair bytes)) r shape is = puts_wide settings (record { lane = 0; line = line }) pair bytes r box shape is
plain_wide settings box line (item.Command (command.Flush v m)) (reply.Flushed v' m' n) shape is =
    on_each (IsWide settings) (replica_on settings v m) (λ j. flushed_boxes box v m j v' m' n)
    (λ j. each_where (IsWide settings) _ _ (each_part settings box v j (flushed_parts (part_at box v j) n) (wide_of settings box shape is)
    (flushed_lie (part_at box v j) n (within_at box.low box.high v j is.some))))
plain_wide settings box line (item.Command (command.Step v m cells)) (reply.Stepped v' m' n) shape is =
    on_each (IsWide settings) (replica_on settings v m) (λ j. stepped_boxes box v m j cells v' m' n)
    (λ j. each_where (IsWide settings) _ _ (each_part settings box v j (stepped_parts (part_at box v j) (replica_of box.base v j).run cells n) (wide_of settings box shape is)
    (stepped_lie (part_at box v j) (replica_of box.base v j).run cells n (within_at box.low box.high v j is.some))))
plain_wide settings box line (item.Command (command.Compact v m)) (reply.Compacted v' m' g) shape is =
    on_each (IsWide settings) (replica_on settings v m) (λ j. compacted_boxes box v m j v' m' g)
    (λ j. each_where (IsWide settings) _ (map (with_part box v j) (tight_part box v j ∷ []))
    (each_part settings box v j (tight_part box v j ∷ []) (wide_of settings box shape is) (record { end = omega arith; cells = omega arith; bare = omega arith }, tt)))
plain_wide settings box line (item.Command (command.Finish v m)) (reply.Compacted v' m' g) shape is =
    on_each (IsWide settings) (replica_on settings v m) (λ j. finished_boxes box v m j v' m' g)
    (λ j. each_where (IsWide settings) _ (swapped_box box v j ∷ []) (
      wide_set settings box (swapped_box box v j).base v j no_slack (room_above box v j)
          (wide_of settings box shape is) (record { end = omega arith; cells = omega arith; bare = omega arith }),
      tt,
    ))
plain_wide settings box line asked r shape is = each_wide settings box (next_plain settings line asked r box.base) (wide_of settings box shape is)

each_kept : (settings : Settings) (ds : List Box) → Each (IsWide settings) ds → Each (λ d. (k : Known) → Has d k → IsOf settings k) ds → Each (IsBoxOf settings) ds
each_kept settings [] h g = tt
each_kept settings (d ∷ ds) h g = (whole_of settings d h.0 g.0, each_kept settings ds h.1 g.1)

pub plain_lines_keep_boxes : PlainLinesKeepBoxes
plain_lines_keep_boxes settings box line asked r known is =
    each_kept settings (box_plain settings line asked r box) (plain_wide settings box line asked r (shape_of settings box is) is.whole)
    (each_of (λ d. (t : Known) → Has d t → (k : Known) × Has box k × plain_row settings line asked r k t) (λ d. (t : Known) → Has d t → IsOf settings t) (box_plain settings line asked r box)
    (λ d h t has. let from = h t has in plain_is_of settings from.0 line asked r t (is.states from.0 from.1) from.2)
    (plain_lines_step_boxes settings box line asked r known is).sound)

-- RESTARTS

abbrev AllLie : List Part → Type 0
AllLie parts = Each (λ p. Lies p.low p.high) parts

was_lies : (volume : VolumeKnown) (part : Part) (kept : List Entry) (stuck : Bool) → Lies part.low part.high → Lies (as_it_was volume part kept stuck).low (as_it_was volume part kept stuck).high
was_lies volume part kept false lies = lies
was_lies volume part kept true lies = record { end = lies.end; cells = lies.cells; bare = omega arith }

reopened_lie : (volume : VolumeKnown) (part : Part) (kept : List Entry) → Lies part.low part.high → AllLie (reopened_parts volume part kept)
reopened_lie volume part kept lies = (
  was_lies volume part kept part.base.stuck lies,
  each_where (λ p. Lies p.low p.high) (may_swap volume part) (as_swapped volume part kept ∷ []) (record { end = omega arith; cells = omega arith; bare = omega arith }, tt),
)

choices_lie : (volume : VolumeKnown) (kept : List Bool) (j : ℕ) (parts : List Part) → AllLie parts → Each AllLie (reopened_choices volume kept j parts)
choices_lie volume kept j [] h = (tt, tt)
choices_lie volume kept j (part ∷ parts) h =
    each_choice (λ p. Lies p.low p.high) AllLie AllLie (λ first rest p q. (p, q)) (reopened_parts volume part (kept_entry volume.pending (is_kept kept j))) (reopened_choices volume kept (j + 1) parts)
    (reopened_lie volume part (kept_entry volume.pending (is_kept kept j)) h.0) (choices_lie volume kept (j + 1) parts h.1)

parts_lie : (bases : List ReplicaKnown) (lows highs : List Slack) → AllZip Lies lows highs → AllLie (parts_of bases lows highs)
parts_lie [] lows highs h = tt
parts_lie (b ∷ bases) [] highs h = tt
parts_lie (b ∷ bases) (l ∷ lows) [] h = tt
parts_lie (b ∷ bases) (l ∷ lows) (y ∷ highs) h = (h.0, parts_lie bases lows highs h.1)

abbrev StoreLies : List (List Part) → Type 0
StoreLies store = Each AllLie store

same_stores : (a b : Read (List (List (List Part)))) → Some a ≡ Some b → a ≡ b
same_stores a b e = cc

stores_lie : (settings : Settings) (v : ℕ) (volumes : List VolumeKnown) (lows highs : List (List Slack)) (notes : List Note) (read : Read (List (List (List Part)))) → Within lows highs
    → reopened_stores settings v volumes lows highs notes ≡ Some read → Each StoreLies read.value
stores_lie settings v [] lows highs notes read some e = subst (λ (r : Read (List (List (List Part)))). Each StoreLies r.value) (same_stores (record { value = [] ∷ []; rest = notes }) read e) (tt, tt)
stores_lie settings v (w ∷ volumes) [] highs notes read some e =
    subst (λ (r : Read (List (List (List Part)))). Each StoreLies r.value) (same_stores (record { value = [] ∷ []; rest = notes }) read e) (tt, tt)
stores_lie settings v (w ∷ volumes) (l ∷ lows) [] notes read some e = absurd some
stores_lie settings v (volume ∷ volumes) (low ∷ lows) (high ∷ highs) notes read some e =
    by_kept (λ ns r g. stores_lie settings (v + 1) volumes lows highs ns r some.1 g) (volume_kept settings v volume notes volume.pending) e
  where
    by_others : (kept : List Bool) (o : Option (Read (List (List (List Part))))) → ((r : Read (List (List (List Part)))) → o ≡ Some r → Each StoreLies r.value)
        → before_others (reopened_choices volume kept 0 (parts_of volume.replicas low high)) o ≡ Some read → Each StoreLies read.value
    by_others kept None on g = absurd (let lie : None ≡ Some read = g in cc)
    by_others kept (Some r) on g =
        let is : record { value = choices_with (reopened_choices volume kept 0 (parts_of volume.replicas low high)) r.value; rest = r.rest } ≡ read =
        same_stores (record { value = choices_with (reopened_choices volume kept 0 (parts_of volume.replicas low high)) r.value; rest = r.rest }) read g in
        subst (λ (x : Read (List (List (List Part)))). Each StoreLies x.value) is
        (each_choice AllLie StoreLies StoreLies (λ first rest p q. (p, q)) (reopened_choices volume kept 0 (parts_of volume.replicas low high)) r.value
        (choices_lie volume kept 0 (parts_of volume.replicas low high) (parts_lie volume.replicas low high some.0)) (on r refl))

    by_kept : ((ns : List Note) (r : Read (List (List (List Part)))) → reopened_stores settings (v + 1) volumes lows highs ns ≡ Some r → Each StoreLies r.value)
        → (o : Option (Read (List Bool))) → then_others volume (parts_of volume.replicas low high) o (reopened_stores settings (v + 1) volumes lows highs) ≡ Some read → Each StoreLies read.value
    by_kept on None g = absurd (let lie : None ≡ Some read = g in cc)
    by_kept on (Some kept) g = by_others kept.value (reopened_stores settings (v + 1) volumes lows highs kept.rest) (λ r q. on kept.rest r q) g

long_parts : (parts : List Part) → length (map base_of parts) ≡ length (map low_of parts)
long_parts [] = refl
long_parts (part ∷ parts) = ap suc (long_parts parts)

store_shaped : (store : List (List Part)) → AllZip (λ volume row. length volume.replicas ≡ length row) (map volume_of store) (map (λ parts. map low_of parts) store)
store_shaped [] = tt
store_shaped (parts ∷ store) = (long_parts parts, store_shaped store)

lows_lie : (parts : List Part) → AllLie parts → AllZip Lies (map low_of parts) (map high_of parts)
lows_lie [] h = tt
lows_lie (part ∷ parts) h = (h.0, lows_lie parts h.1)

store_within : (store : List (List Part)) → StoreLies store → Within (map (λ parts. map low_of parts) store) (map (λ parts. map high_of parts) store)
store_within [] h = tt
store_within (parts ∷ store) h = (lows_lie parts h.0, store_within store h.1)

each_store : (b : Known) (rows : List HomeRow) (stores : List (List (List Part))) → Each StoreLies stores → Each IsWhole (map (restarted_box b rows) stores)
each_store b rows [] h = tt
each_store b rows (store ∷ stores) h = (record { shaped = store_shaped store; some = store_within store h.0 }, each_store b rows stores h.1)

rows_whole : (b : Known) (d : ℕ) (stores : List (List (List Part))) (new : Option (List HomeRow)) → Each StoreLies stores → Each IsWhole (restarted_with b d stores new)
rows_whole b d stores None h = tt
rows_whole b d stores (Some new) h = each_where IsWhole _ _ (each_store b (b.directory.rows ++ new) stores h)

from_whole : (settings : Settings) (box : Box) (d : ℕ) (notes : List Note) → IsWhole box → (o : Option (Read (List (List (List Part)))))
    → reopened_stores settings 0 box.base.volumes box.low box.high notes ≡ o
    → Each IsWhole (restarted_from box.base d o)
from_whole settings box d notes is None e = tt
from_whole settings box d notes is (Some read) e =
    rows_whole box.base d read.value (new_rows box.base.directory.pending read.rest) (stores_lie settings 0 box.base.volumes box.low box.high notes read is.some e)

restart_whole : (settings : Settings) (box : Box) (r : Reply) (notes : List Note) → IsWhole box → Each IsWhole (restart_boxes settings box r notes)
restart_whole settings box (reply.Restarted d) notes is = from_whole settings box d notes is (reopened_stores settings 0 box.base.volumes box.low box.high notes) refl
restart_whole settings box r notes is = tt

each_of_both : (settings : Settings) (ds : List Box) → Each IsWhole ds → Each (λ d. (k : Known) → Has d k → IsOf settings k) ds → Each (IsBoxOf settings) ds
each_of_both settings [] h g = tt
each_of_both settings (d ∷ ds) h g = (record { whole = h.0; states = g.0 }, each_of_both settings ds h.1 g.1)

pub restarts_keep_boxes : RestartsKeepBoxes
restarts_keep_boxes settings box r notes known is =
    each_of_both settings (restart_boxes settings box r notes) (restart_whole settings box r notes is.whole)
    (each_of (λ d. (t : Known) → Has d t → (k : Known) × Has box k × restart_row settings r notes k t) (λ d. (t : Known) → Has d t → IsOf settings t) (restart_boxes settings box r notes)
    (λ d h t has. let from = h t has in restart_is_of settings from.0 r notes t (is.states from.0 from.1) from.2)
    (restarts_step_boxes settings box r notes known is.whole).sound)

-- THE FIRST BOX

exact_shape : (volumes : List VolumeKnown) → AllZip (λ volume row. length volume.replicas ≡ length row) volumes (map no_slacks volumes)
exact_shape [] = tt
exact_shape (w ∷ volumes) = (sym (long_same (length w.replicas)), exact_shape volumes)
  where
    long_same : (n : ℕ) → length (replicate n no_slack) ≡ n
    long_same zero = refl
    long_same (suc n) = ap suc (long_same n)

no_run : (o : Option Run) → o ≡ option_map (fill_run 0) o
no_run None = refl
no_run (Some run) = ap (λ (n : ℕ). Some (record run { left = n })) (omega arith)

none_more : (x : Slack) → Lies x no_slack → x ≡ no_slack
none_more x h =
    ap (λ (n : ℕ). record x { end = n }) (let e : x.end ≡ 0 = omega (arith, h.end) in e)
    ∙ ap (λ (n : ℕ). record x { end = 0; cells = n }) (let e : x.cells ≡ 0 = omega (arith, h.cells) in e)
    ∙ ap (λ (n : ℕ). record x { end = 0; cells = 0; bare = n }) (let e : x.bare ≡ 0 = omega (arith, h.bare) in e)

fill_nothing : (r : ReplicaKnown) → fill_replica no_slack r ≡ r
fill_nothing r = same_replica r (r.end + 0) r.end (r.cells + 0) r.cells (r.bare + 0) r.bare (option_map (fill_run 0) r.run) r.run
    (omega arith) (omega arith) (omega arith) (sym (no_run r.run))

replicas_exact : (xs : List Slack) (replicas : List ReplicaKnown) → AllZip Lies xs (replicate (length replicas) no_slack) → fill_replicas xs replicas ≡ replicas
replicas_exact [] [] h = refl
replicas_exact [] (r ∷ replicas) h = absurd h
replicas_exact (x ∷ xs) [] h = absurd h
replicas_exact (x ∷ xs) (r ∷ replicas) h =
    ap (λ (y : Slack). fill_replica y r ∷ fill_replicas xs replicas) (none_more x h.0)
    ∙ ap (λ (s : ReplicaKnown). s ∷ fill_replicas xs replicas) (fill_nothing r)
    ∙ ap (λ (rs : List ReplicaKnown). r ∷ rs) (replicas_exact xs replicas h.1)

volumes_exact : (xss : List (List Slack)) (volumes : List VolumeKnown) → Within xss (map no_slacks volumes) → fill_volumes xss volumes ≡ volumes
volumes_exact [] [] h = refl
volumes_exact [] (w ∷ volumes) h = absurd h
volumes_exact (xs ∷ xss) [] h = absurd h
volumes_exact (xs ∷ xss) (w ∷ volumes) h =
    ap (λ (rs : List ReplicaKnown). record w { replicas = rs } ∷ fill_volumes xss volumes) (replicas_exact xs w.replicas h.0)
    ∙ ap (λ (ws : List VolumeKnown). w ∷ ws) (volumes_exact xss volumes h.1)

exact_alone : (b k : Known) → Has (exact_box b) k → k ≡ b
exact_alone b k has = has.2 ∙ ap (λ (ws : List VolumeKnown). record b { volumes = ws }) (volumes_exact has.0 b.volumes (has.1).most)

exact_whole : (b : Known) → IsWhole (exact_box b)
exact_whole b = record { shaped = exact_shape b.volumes; some = within_own (map no_slacks b.volumes) }

pub fresh_box_is_first : FreshBoxIsFirst
fresh_box_is_first settings =
    let b : Known = fresh_unharmed settings in
    let first = has_lowest (exact_box (fresh_unharmed settings)) (exact_whole (fresh_unharmed settings)) in
    record {
      of = record {
        whole = exact_whole (fresh_unharmed settings);
        states = λ k has. subst (λ (q : Known). IsOf settings q) (sym (exact_alone (fresh_unharmed settings) k has)) (is_of-fresh settings);
      };
      fresh = subst (λ (q : Known). Has (exact_box (fresh_unharmed settings)) q) (exact_alone (fresh_unharmed settings) (lowest (exact_box (fresh_unharmed settings))) first) first;
      alone = exact_alone (fresh_unharmed settings);
    }

pub boxes_stand_for_states : BoxesStandForStates
boxes_stand_for_states settings box is = (lowest box, has_lowest box is.whole)

notes_fill : (xss : List (List Slack)) (volumes : List VolumeKnown) → volumes_note_count (fill_volumes xss volumes) ≡ volumes_note_count volumes
notes_fill [] volumes = refl
notes_fill (xs ∷ xss) [] = refl
notes_fill (xs ∷ xss) (w ∷ volumes) =
    ap (λ (n : ℕ). cond (is_some w.pending) n 0 + volumes_note_count (fill_volumes xss volumes)) (long_fill xs w.replicas)
    ∙ ap (λ (n : ℕ). cond (is_some w.pending) (length w.replicas) 0 + n) (notes_fill xss volumes)

pub notes_are_counted : NotesAreCounted
notes_are_counted box k has =
    ap (λ (q : Known). note_count q) has.2 ∙ ap (λ (n : ℕ). n + cond (is_some box.base.directory.pending) 1 0) (notes_fill has.0 box.base.volumes)
