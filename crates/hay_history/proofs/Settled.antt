-- What a lane that met a freeze prints from then on: the last fronts.
use Rattle.std.proofs.Common.{◌≡◌, inl, inr, ℕ, ◌<◌, ◌≤◌, ◌+◌, List, length, Option, refl, sym, ap, ◌∙◌, arith}
use Rattle.std.specs.List.{AllByRecursion as Each}
use Rattle.std.proofs.lemmas.Option.{none-some}
use Rattle.hay_needle.specs.declared.needle.Pair.{Pair}
use Rattle.hay_needle.specs.declared.settings.Settings.{Settings}
use Rattle.hay_core.specs.declared.entry.Entry.{Entry}
use Rattle.hay_core.specs.declared.entry.Entry.TheVariants as entry
use Rattle.hay_legal.specs.declared.known.DirKnown.{DirKnown}
use Rattle.hay_legal.specs.declared.known.Known.{Known}
use Rattle.hay_legal.specs.declared.known.VolumeKnown.{VolumeKnown}
use Rattle.hay_legal.specs.declared.turn.LaneItem.{LaneItem}
use Rattle.hay_legal.specs.Known.{EachPair, volume_at}
use Rattle.hay_legal.specs.Blocks.{IsAt, MetFrozen, MetRowsFrozen, Printed, row_print, tag_of, volume_print}
use Rattle.hay_history.specs.LaneSteps.{Leads, Standing, IsThawed}
use Rattle.hay_history.specs.LaneSteps.Did.{Entered}
use Rattle.hay_history.specs.Histories.{History, IsLater, first_rows, row_note, standing}
use Rattle.hay_history.specs.Commands.{CameInLanes, RowPends}
use Rattle.hay_history.proofs.Fronts.{Prints, PrintsRows, item_prints, one_within}
use Rattle.hay_history.proofs.Histories.{along_rows}
use Rattle.hay_history.proofs.Lines.{answered, course_of, one_leads}
use Rattle.hay_history.proofs.Lists.{each_weaker, pair_by}
use Rattle.hay_history.proofs.Frosts.{frozen_seen}
use Rattle.hay_history.proofs.Meeting.{FrostSeen}
use Rattle.hay_history.proofs.OwnRows.{rows_frozen_seen}
use Rattle.hay_history.proofs.Rows.{StaysFrozen, rows_frozen_then, stays_frozen_step, stays_frozen_trans}
use Rattle.hay_history.proofs.Volumes.{frozen_keeps, frozen_stays}

entered_thawed : (settings : Settings) (v : ℕ) (item : LaneItem) (change : Entry) (a b : Standing) → Leads settings v (tag_of item) (Entered change) a b → IsThawed a
entered_thawed settings v item (entry.Put pair cookie bytes) a b leads = leads.0
entered_thawed settings v item (entry.Del pair) a b leads = leads.0

pub lanes_settle : {settings : Settings} {k : Known} {items : List LaneItem} {history : History} {t : Known} (h : CameInLanes settings k items history t)
    (v : ℕ) → v < settings.volumes → settings.replicas ≤ settings.machines → (froze : Option LaneItem) → FrostSeen h v froze
    → EachPair (λ a b. a.lane ≡ b.lane → MetFrozen settings k items (row_note k history) t v froze a → Each (IsAt (length (volume_at t v).log)) (volume_print v b.reply)) items
lanes_settle {settings} {k} {items} {history} {t} h v below narrow froze seen =
    pair_by (λ a b. a.lane ≡ b.lane → IsLater (h.to a.line) (h.from b.line))
    (λ a b. a.lane ≡ b.lane → MetFrozen settings k items (row_note k history) t v froze a → Each (IsAt (length (volume_at t v).log)) (volume_print v b.reply)) items
    (λ a b in_a in_b later same met.
    let first = frozen_seen h v below narrow froze seen a in_a met in
    let apart = (later same).volumes v in
    let until = first.2 in
    each_weaker (Prints (course_of h b) v) (IsAt (length (volume_at t v).log)) (λ shown prints. elim prints [
      | inl (moment, seen, is) ↦
          let since = seen.0 in
          let frozen = frozen_stays h v first.0 moment first.1 below (omega (arith, apart, until, since)) first.3 in
          ap (λ (p : Printed). p.front) is ∙ sym (ap (λ (x : VolumeKnown). length x.log) (frozen_keeps h v moment first.1 below frozen))
      | inr (change, one, is) ↦
          let bounds = one_within (course_of h b) b v (Entered change) one (answered h b in_b) in
          let since = bounds.0 in
          let frozen = frozen_stays h v first.0 one.place first.1 below (omega (arith, apart, until, since)) first.3 in
          let thawed = entered_thawed settings v b change (standing (course_of h b) v one.place) (standing (course_of h b) v (one.place + 1)) (one_leads h b v (Entered change) below in_b one) in
          absurd (none-some first.1 (sym thawed ∙ frozen))
    ])
    (volume_print v b.reply) (item_prints (course_of h b) v b.item b.reply (answered h b in_b).did).0)
    h.«order»

-- what such a lane prints of the rows from then on is their last number
pub lanes_see_rows : {settings : Settings} {k : Known} {items : List LaneItem} {history : History} {t : Known} (h : CameInLanes settings k items history t)
    (froze : LaneItem) (pair : Pair) (size : ℕ) → RowPends (course_of h froze) pair size
    → EachPair (λ a b. a.lane ≡ b.lane → MetRowsFrozen froze a → Each (IsAt (length t.directory.rows)) (row_print b.reply)) items
lanes_see_rows {settings} {k} {items} {history} {t} h froze pair size pends =
    pair_by (λ a b. a.lane ≡ b.lane → IsLater (h.to a.line) (h.from b.line))
    (λ a b. a.lane ≡ b.lane → MetRowsFrozen froze a → Each (IsAt (length t.directory.rows)) (row_print b.reply)) items
    (λ a b in_a in_b later same met.
    let first = rows_frozen_seen h froze pair size pends a in_a met in
    each_weaker (PrintsRows (course_of h b)) (IsAt (length t.directory.rows)) (λ shown prints.
    let apart = (later same).rows in
    let until = first.1 in
    let since = prints.1.0 in
    let kept = along_rows StaysFrozen (first_rows k) history.directory (λ a frozen. refl) stays_frozen_trans stays_frozen_step h.follows_rows first.0 prints.0
    (omega (arith, apart, until, since)) first.2 in
    let last = rows_frozen_then h prints.0 (ap (λ (d : DirKnown). d.frozen) kept ∙ first.2) in
    ap (λ (p : Printed). p.front) prints.2 ∙ sym (ap (λ (d : DirKnown). length d.rows) last))
    (row_print b.reply) (item_prints (course_of h b) 0 b.item b.reply (answered h b in_b).did).1)
    h.«order»
