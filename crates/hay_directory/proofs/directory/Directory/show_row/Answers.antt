use Rattle.std.proofs.Common.{◌≡◌, ◌<◌, Option, Some, false, take, refl, sym, ap, subst, ◌∙◌}
use Rattle.std.specs.Prelude.{IfSome, replicate}
use Rattle.hay_directory.specs.declared.mode.Mode.TheVariants.{Frozen}
use Rattle.hay_directory.specs.declared.mode.Unsure.{Unsure}
use Rattle.hay_directory.specs.Rows.{home_row}
use Rattle.hay_directory.specs.State.{State, Stands, IsRowWritten, is_closed, unsure_of}
use Rattle.hay_directory.proofs.HomeLaws.{set_within}
use Rattle.hay_directory.proofs.SeenLaws.{home_set, others_kept}
use Rattle.hay_directory.proofs.Standing.{kept_homeless, kept_shown, not_closed, stands_now, stands_shown, with_row}
use Rattle.hay_directory.proofs.directory.Directory.show_row.Goals as goal

pub invariant_of-self : goal.invariant_of-self
unfolding IsRowWritten
invariant_of-self g c =
    let files = g.D.Disk.files in
    let was = c.self.inside in
    let row = home_row c.args.written.unsure.row in
    let frozen : was.mode ≡ Frozen c.args.written.unsure = ap (λ (d : State _). d.mode) c.self.view_is ∙ c.requires.unshown.mode in
    let pends : unsure_of was.mode ≡ Some c.args.written.unsure = ap unsure_of frozen in
    let kept = c.self.invariant.kept (ap is_closed frozen) in
    let below : row.volume < was.settings.volumes = subst (λ (u : Option Unsure). IfSome u (λ unsure. unsure.row.volume < was.settings.volumes)) pends c.self.invariant.pending in
    record {
      machines = c.self.invariant.machines;
      long = c.self.invariant.long;
      within = set_within was.settings.volumes _ _ row.pair row.volume c.self.invariant.within c.in-Ok.ensures.ok below;
      kept = λ up. kept_shown _ _ kept (c.in-Ok.ensures.more (kept_homeless _ c.args.written.unsure kept frozen)) refl refl;
      pending = tt;
      undrained = λ closed. not_closed (take was.settings.machines was.drained) (replicate was.settings.machines false) closed;
      stands = λ tells up.
          let old = c.requires.written tells in
          let w = subst (λ (d : State _). IsRowWritten files d old.0 old.1 row) (sym c.self.view_is) old.2 in (
            with_row old.0 row,
            stands_now files _ (with_row old.0 row) old.1 (stands_shown files _ _ old.0 old.1 row w refl refl refl c.in-Ok.ensures.ok refl refl refl),
          );
    }

pub returns-clause-shown : goal.returns-clause-shown
unfolding Stands IsRowWritten
returns-clause-shown g c = λ tells known drained written.
    let files = g.D.Disk.files in
    let was = c.self.inside in
    let row = home_row c.args.written.unsure.row in
    let w = subst (λ (d : State _). IsRowWritten files d known drained row) (sym c.self.view_is) written in
    stands_shown files _ _ known drained row w refl refl refl c.in-Ok.ensures.ok refl refl refl

pub returns-clause-seen : goal.returns-clause-seen
returns-clause-seen g c =
    let frozen : c.self.inside.mode ≡ Frozen c.args.written.unsure = ap (λ (d : State _). d.mode) c.self.view_is ∙ c.requires.unshown.mode in
    let kept = c.self.invariant.kept (ap is_closed frozen) in
    let row = c.args.written.unsure.row in
    rw (← c.self.view_is) (
      ap unsure_of frozen,
      record {
        homeless = kept_homeless _ c.args.written.unsure kept frozen;
        home = home_set row.pair row.volume _ _ c.in-Ok.ensures.ok;
        others = λ other apart. others_kept row.pair other (Some row.volume) _ _ c.in-Ok.ensures.ok apart;
        rows = refl;
        pending = refl;
        drained = refl;
      },
    )
