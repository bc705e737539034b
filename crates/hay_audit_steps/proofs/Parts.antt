-- What a restart makes of a replica of which some sizes are not known.
use Rattle.std.proofs.Common.{◌≡◌, ◌+◌, ◌-◌, ◌<◌, ◌≤◌, Bool, true, false, List, [], ◌∷◌, length, None, refl, sym, ap, subst, ◌∙◌, ◌⊎◌, inl, inr, arith}
use Rattle.std.specs.Prelude.{cond, ◌&&◌, nat_lt}
use Rattle.std.specs.List.{AllByRecursion as Each}
use Rattle.std.proofs.lemmas.Bool.{and_parts, and_from, cond-true}
use Rattle.std.proofs.lemmas.Bool.Decides.{Decides-ltb}
use Rattle.hay_needle.specs.Tables.{Table, live_end}
use Rattle.hay_core.specs.declared.entry.Entry.{Entry}
use Rattle.hay_legal.specs.declared.known.ReplicaKnown.{ReplicaKnown}
use Rattle.hay_legal.specs.declared.known.VolumeKnown.{VolumeKnown}
use Rattle.hay_legal.specs.Known.{now}
use Rattle.hay_legal.specs.Restarts.{ReopenedReplica, StandsAsItWas, StandsSwapped, BareIs, with_entries, added_cells}
use Rattle.hay_audit_steps.specs.CheckerSteps.{AnyOf}
use Rattle.hay_audit_steps.specs.Slacks.{Slack, fill_replica, Lies}
use Rattle.hay_audit_steps.specs.Reopen.{reopened_replica}
use Rattle.hay_audit_steps.specs.Law.{PartsAreSound, PartsAreComplete}
use Rattle.hay_audit_steps.specs.Parts.{Part, In, as_it_was, end_above, cells_above, as_swapped, may_swap, reopened_parts}
use Rattle.hay_audit_steps.proofs.Reopens.{same_new}

-- SOUND

was_sound : (volume : VolumeKnown) (part : Part) (kept : List Entry) (stuck : Bool) → part.base.stuck ≡ stuck → Lies part.low part.high
    → (new : ReplicaKnown) → In (as_it_was volume part kept stuck) new → (old : ReplicaKnown) × In part old × ReopenedReplica volume old kept new
was_sound volume part kept false e some new h =
    let x : Slack = h.slack in (
      fill_replica x part.base,
      record { slack = x; least = h.least; most = h.most; is = refl },
      subst (λ (r : ReplicaKnown). ReopenedReplica volume (fill_replica x part.base) kept r) (sym h.is)
          (record {
            base = refl;
            stands = inl (record {
              end = omega arith;
              cells = omega arith;
              bare = subst (λ (b : Bool). BareIs b (part.base.bare + x.bare + added_cells kept) (part.base.bare + added_cells kept + x.bare)) (sym e) (omega arith);
              generation = refl;
            });
            loose = refl;
            idle = refl;
            settled = refl;
          }),
    )
was_sound volume part kept true e some new h =
    let x : Slack = h.slack in
    let y : Slack = record x { bare = part.high.bare } in (
      fill_replica y part.base,
      record {
        slack = y;
        least = record { end = (h.least).end; cells = (h.least).cells; bare = some.bare };
        most = record { end = (h.most).end; cells = (h.most).cells; bare = omega arith };
        is = refl;
      },
      subst (λ (r : ReplicaKnown). ReopenedReplica volume (fill_replica y part.base) kept r) (sym h.is)
          (record {
            base = refl;
            stands = inl (record {
              end = omega arith;
              cells = omega arith;
              bare = subst (λ (b : Bool). BareIs b (part.base.bare + part.high.bare + added_cells kept) (0 + x.bare)) (sym e) (omega (arith, (h.most).bare));
              generation = refl;
            });
            loose = refl;
            idle = refl;
            settled = refl;
          }),
    )

swapped_sound : (volume : VolumeKnown) (part : Part) (kept : List Entry) → may_swap volume part ≡ true → Lies part.low part.high
    → (new : ReplicaKnown) → In (as_swapped volume part kept) new → (old : ReplicaKnown) × In part old × ReopenedReplica volume old kept new
swapped_sound volume part kept may some new h =
    let x : Slack = h.slack in
    let y : Slack = part.high in
    let parts = and_parts part.base.poised (nat_lt (live_end (now volume part.base)) (end_above volume part + 1) && nat_lt (length (now volume part.base)) (cells_above volume part + 1)) may in
    let sizes = and_parts (nat_lt (live_end (now volume part.base)) (end_above volume part + 1)) (nat_lt (length (now volume part.base)) (cells_above volume part + 1)) parts.1 in
    let ends : live_end (now volume part.base) < end_above volume part + 1 = (Decides-ltb (live_end (now volume part.base)) (end_above volume part + 1)).0 sizes.0 in
    let cells : length (now volume part.base) < cells_above volume part + 1 = (Decides-ltb (length (now volume part.base)) (cells_above volume part + 1)).0 sizes.1 in (
      fill_replica y part.base,
      record { slack = y; least = some; most = record { end = omega arith; cells = omega arith; bare = omega arith }; is = refl },
      subst (λ (r : ReplicaKnown). ReopenedReplica volume (fill_replica y part.base) kept r) (sym h.is)
          (record {
            base = refl;
            stands = inr (record {
              poised = parts.0;
              end = omega arith;
              no_longer = omega (arith, (h.most).end, ends);
              cells = omega arith;
              no_more = omega (arith, (h.most).cells, cells);
              bare = omega (arith, (h.most).bare);
              generation = refl;
            });
            loose = refl;
            idle = refl;
            settled = refl;
          }),
    )

pub parts_sound : PartsAreSound
parts_sound volume part kept some = (was_sound volume part kept part.base.stuck refl some, by_test (may_swap volume part) refl)
  where
    by_test : (test : Bool) → may_swap volume part ≡ test
        → Each (λ p. (new : ReplicaKnown) → In p new → (old : ReplicaKnown) × In part old × ReopenedReplica volume old kept new) (cond test (as_swapped volume part kept ∷ []) [])
    by_test true e = (swapped_sound volume part kept e some, tt)
    by_test false e = tt

-- COMPLETE

was_complete : (volume : VolumeKnown) (part : Part) (kept : List Entry) (stuck : Bool) → part.base.stuck ≡ stuck
    → (old new : ReplicaKnown) (h : In part old) → new.base ≡ with_entries (now volume old) kept → StandsAsItWas old kept new → new.stuck ≡ false → new.run ≡ None → new.poised ≡ false
    → In (as_it_was volume part kept stuck) new
was_complete volume part kept false e old new h base stands loose idle settled =
    let x : Slack = h.slack in
    let bare : BareIs part.base.stuck (old.bare + added_cells kept) new.bare = subst (λ (r : ReplicaKnown). BareIs r.stuck (old.bare + added_cells kept) new.bare) h.is stands.bare in
    let exact : new.bare ≡ old.bare + added_cells kept = subst (λ (b : Bool). BareIs b (old.bare + added_cells kept) new.bare) e bare in
    record {
      slack = x;
      least = h.least;
      most = h.most;
      is = same_new new (fill_replica x (reopened_replica volume part.base kept))
          (base ∙ ap (λ (r : ReplicaKnown). with_entries (now volume r) kept) h.is)
          (omega (arith, stands.end, ap (λ (r : ReplicaKnown). r.end) h.is))
          (omega (arith, stands.cells, ap (λ (r : ReplicaKnown). r.cells) h.is))
          (omega (arith, exact, ap (λ (r : ReplicaKnown). r.bare) h.is))
          (stands.generation ∙ ap (λ (r : ReplicaKnown). r.generation) h.is) loose idle settled;
    }
was_complete volume part kept true e old new h base stands loose idle settled =
    let x : Slack = h.slack in
    let y : Slack = record x { bare = new.bare } in
    let bare : BareIs part.base.stuck (old.bare + added_cells kept) new.bare = subst (λ (r : ReplicaKnown). BareIs r.stuck (old.bare + added_cells kept) new.bare) h.is stands.bare in
    let most : new.bare ≤ old.bare + added_cells kept = subst (λ (b : Bool). BareIs b (old.bare + added_cells kept) new.bare) e bare in
    record {
      slack = y;
      least = record { end = (h.least).end; cells = (h.least).cells; bare = omega arith };
      most = record { end = (h.most).end; cells = (h.most).cells; bare = omega (arith, most, ap (λ (r : ReplicaKnown). r.bare) h.is, (h.most).bare) };
      is = same_new new (fill_replica y (record (reopened_replica volume part.base kept) { bare = 0 }))
          (base ∙ ap (λ (r : ReplicaKnown). with_entries (now volume r) kept) h.is)
          (omega (arith, stands.end, ap (λ (r : ReplicaKnown). r.end) h.is))
          (omega (arith, stands.cells, ap (λ (r : ReplicaKnown). r.cells) h.is))
          (omega arith)
          (stands.generation ∙ ap (λ (r : ReplicaKnown). r.generation) h.is) loose idle settled;
    }

swapped_complete : (volume : VolumeKnown) (part : Part) (kept : List Entry) (old new : ReplicaKnown) (h : In part old) → new.base ≡ with_entries (now volume old) kept → StandsSwapped volume old new
    → new.stuck ≡ false → new.run ≡ None → new.poised ≡ false → (may_swap volume part ≡ true) × In (as_swapped volume part kept) new
swapped_complete volume part kept old new h base stands loose idle settled =
    let table : now volume old ≡ now volume part.base = ap (λ (r : ReplicaKnown). now volume r) h.is in
    let live : live_end (now volume old) ≡ live_end (now volume part.base) = ap (λ (t : Table). live_end t) table in
    let many : length (now volume old) ≡ length (now volume part.base) = ap (λ (t : Table). length t) table in
    let end : old.end ≡ part.base.end + (h.slack).end = ap (λ (r : ReplicaKnown). r.end) h.is in
    let cells : old.cells ≡ part.base.cells + (h.slack).cells = ap (λ (r : ReplicaKnown). r.cells) h.is in
    let ends : live_end (now volume part.base) < end_above volume part + 1 = omega (arith, stands.end, stands.no_longer, live, end, (h.most).end) in
    let fewer : length (now volume part.base) < cells_above volume part + 1 = omega (arith, stands.cells, stands.no_more, many, cells, (h.most).cells) in
    let x : Slack = record { end = new.end - live_end (now volume part.base); cells = new.cells - length (now volume part.base); bare = 0 } in (
      and_from part.base.poised _ (sym (ap (λ (r : ReplicaKnown). r.poised) h.is) ∙ stands.poised)
          (and_from (nat_lt (live_end (now volume part.base)) (end_above volume part + 1)) (nat_lt (length (now volume part.base)) (cells_above volume part + 1))
          ((Decides-ltb (live_end (now volume part.base)) (end_above volume part + 1)).1 ends) ((Decides-ltb (length (now volume part.base)) (cells_above volume part + 1)).1 fewer)),
      record {
        slack = x;
        least = record { end = omega arith; cells = omega arith; bare = omega arith };
        most = record { end = omega (arith, stands.no_longer, end, (h.most).end); cells = omega (arith, stands.no_more, cells, (h.most).cells); bare = omega arith };
        is = same_new new (fill_replica x (as_swapped volume part kept).base)
            (base ∙ ap (λ (t : Table). with_entries t kept) table)
            (omega (arith, stands.end, live)) (omega (arith, stands.cells, many)) (omega (arith, stands.bare))
            (stands.generation ∙ ap (λ (r : ReplicaKnown). r.generation + 1) h.is) loose idle settled;
      },
    )

pub parts_complete : PartsAreComplete
parts_complete volume part kept old new h reopened = by_form reopened.stands
  where
    by_form : StandsAsItWas old kept new ⊎ StandsSwapped volume old new → AnyOf (λ p. In p new) (reopened_parts volume part kept)
    by_form (inl stands) = inl (was_complete volume part kept part.base.stuck refl old new h reopened.base stands reopened.loose reopened.idle reopened.settled)
    by_form (inr stands) =
        let both = swapped_complete volume part kept old new h reopened.base stands reopened.loose reopened.idle reopened.settled in
        inr (subst (λ (ps : List Part). AnyOf (λ p. In p new) ps) (sym (cond-true (may_swap volume part) (as_swapped volume part kept ∷ []) [] both.0)) (inl both.1))
