-- A lane that met a volume frozen in the block meets it so from then on.
use Rattle.std.proofs.Common.{◌≡◌, inl, inr, ℕ, ◌<◌, ◌≤◌, ◌+◌, List, Contains, Option, sym, ◌∙◌, arith}
use Rattle.std.proofs.lemmas.Option.{none-some}
use Rattle.hay_needle.specs.declared.settings.Settings.{Settings}
use Rattle.hay_legal.specs.declared.known.Known.{Known}
use Rattle.hay_legal.specs.declared.turn.LaneItem.{LaneItem}
use Rattle.hay_legal.specs.Known.{EachPair}
use Rattle.hay_legal.specs.Blocks.{MetFrozen, MetThawed}
use Rattle.hay_history.specs.Histories.{History, IsLater, row_note}
use Rattle.hay_history.specs.Commands.{CameInLanes}
use Rattle.hay_history.proofs.Counted.{counted_frozen, counted_thawed}
use Rattle.hay_history.proofs.Lines.{answered, course_of}
use Rattle.hay_history.proofs.Lists.{pair_by}
use Rattle.hay_history.proofs.Meeting.{FrostSeen, SawFrozen, SawThawed, as_stuck_thawed, met_freeze, met_open}
use Rattle.hay_history.proofs.Passing.{got_thawed, passed_frozen}
use Rattle.hay_history.proofs.Volumes.{frozen_stays}

module _ {settings : Settings} {k : Known} {items : List LaneItem} {history : History} {t : Known} (h : CameInLanes settings k items history t)
    (v : ℕ) (below : v < settings.volumes) (narrow : settings.replicas ≤ settings.machines) (froze : Option LaneItem) (seen : FrostSeen h v froze) where
  -- a line that froze the volume, or met it frozen, saw it so
  pub frozen_seen : (a : LaneItem) → Contains items a → MetFrozen settings k items (row_note k history) t v froze a → SawFrozen (course_of h a) v
  frozen_seen a in_a (inl is) =
      let at = (seen a is).1 in
      let until = (at.stands).1 in
      (at.place + 1, at.machine, omega (arith, until), at.frozen)
  frozen_seen a in_a (inr (inl freeze)) = met_freeze h a a.line a.lane v a.item a.reply below (answered h a in_a).did freeze
  frozen_seen a in_a (inr (inr (inl passed))) = passed_frozen h a in_a v below passed
  frozen_seen a in_a (inr (inr (inr counted))) = counted_frozen h v below narrow froze seen a in_a counted

  -- and one that froze it, or met it open, saw it thawed
  thawed_seen : (b : LaneItem) → Contains items b → MetThawed k (row_note k history) t v froze b → SawThawed (course_of h b) v
  thawed_seen b in_b (inl is) = let at = (seen b is).1 in (at.place, (at.stands).0, at.thawed)
  thawed_seen b in_b (inr (inl opened)) = met_open h b in_b b.item b.reply v (answered h b in_b).did opened
  thawed_seen b in_b (inr (inr (inl stuck))) = as_stuck_thawed h b b.line b.lane v b.item b.reply below (answered h b in_b).did stuck
  thawed_seen b in_b (inr (inr (inr (inl got)))) = got_thawed h b in_b v got
  thawed_seen b in_b (inr (inr (inr (inr counted)))) = counted_thawed h v below narrow froze seen b in_b counted

  pub lanes_meet : EachPair (λ a b. a.lane ≡ b.lane → MetFrozen settings k items (row_note k history) t v froze a → MetThawed k (row_note k history) t v froze b → ⊥) items
  lanes_meet =
      pair_by (λ a b. a.lane ≡ b.lane → IsLater (h.to a.line) (h.from b.line))
      (λ a b. a.lane ≡ b.lane → MetFrozen settings k items (row_note k history) t v froze a → MetThawed k (row_note k history) t v froze b → ⊥) items
      (λ a b in_a in_b later same met opened.
      let first : SawFrozen (course_of h a) v = frozen_seen a in_a met in
      let then : SawThawed (course_of h b) v = thawed_seen b in_b opened in
      let apart = (later same).volumes v in
      let still = frozen_stays h v first.0 then.0 first.1 below (omega (arith, first.2, then.1, apart)) first.3 in
      none-some first.1 (sym then.2 ∙ still))
      h.«order»
