use Rattle.std.proofs.Common.{map, take, ◌≡◌, true, false, Err, inr, refl, ap, sym, subst, ◌∙◌, arith}
use Rattle.std.specs.Prelude.{Option, replicate}
use Rattle.std.proofs.lemmas.List.{length-map}
use Rattle.std.proofs.lemmas.Result.{err_from_is_err_and}
use Rattle.hay_dirfile.specs.declared.fault.OpenFault.{OpenFault}
use Rattle.hay_legal.specs.Restarts.{directory_with}
use Rattle.hay_directory.specs.declared.mode.Unsure.{Unsure}
use Rattle.hay_directory.specs.Homes.{home_among}
use Rattle.hay_directory.specs.Notes.{notes_by}
use Rattle.hay_directory.specs.Rows.{OpensRows, home_row}
use Rattle.hay_directory.specs.State.{State, Stands, Stopped, is_closed, unsure_of}
use Rattle.hay_directory.proofs.HomeLaws.{homes_within}
use Rattle.hay_directory.proofs.RowLaws.{not_void}
use Rattle.hay_directory.proofs.Standing.{not_closed, on_err, same_fault, reopened, stands_opened, stopped_still}
use Rattle.hay_directory.proofs.directory.Directory.open_rows.Goals as goal

pub returns-in_err-loaded-clause-stopped : goal.returns-in_err-loaded-clause-stopped
unfolding Stopped
returns-in_err-loaded-clause-stopped g c = λ tells known stopped.
    let files = g.D.Disk.files in
    let s = subst (λ (d : State _). Stopped files d known) (sym c.self.view_is) stopped in
    on_err c.from_residual.result _ (stopped_still files _ _ known s refl refl (c.load.ensures.same tells))

pub returns-in_err-loaded-clause-damaged : goal.returns-in_err-loaded-clause-damaged
returns-in_err-loaded-clause-damaged g c = rw (← c.self.view_is) (λ tells file at is.
    let fault = err_from_is_err_and c.from_residual.result c.from_residual.ensures.1 in
    let said = same_fault c.from_residual.result fault.0 c.in_err-loaded.field-0.0 (OpenFault.Damaged file at) fault.1 fault.2 is in
    c.in_err-loaded.ensures.damaged tells file at (ap Err said))

pub returns-in_err-loaded-clause-file : goal.returns-in_err-loaded-clause-file
returns-in_err-loaded-clause-file g c = λ file at is.
    let fault = err_from_is_err_and c.from_residual.result c.from_residual.ensures.1 in
    let said = same_fault c.from_residual.result fault.0 c.in_err-loaded.field-0.0 (OpenFault.Damaged file at) fault.1 fault.2 is in
    c.in_err-loaded.ensures.file file at (ap Err said)

pub returns-in_err-loaded-clause-whole : goal.returns-in_err-loaded-clause-whole
unfolding OpensRows
returns-in_err-loaded-clause-whole g c = rw (← c.self.view_is) (λ tells rows file at has is.
    let fault = err_from_is_err_and c.from_residual.result c.from_residual.ensures.1 in
    let said = same_fault c.from_residual.result fault.0 c.in_err-loaded.field-0.0 (OpenFault.Damaged file at) fault.1 fault.2 is in
    c.in_err-loaded.ensures.whole tells rows file at has (ap Err said))

pub invariant_of-self-2 : goal.invariant_of-self-2
invariant_of-self-2 g c =
    let files = g.D.Disk.files in
    let was = c.self.inside in
    record {
      machines = c.self.invariant.machines;
      long = c.self.invariant.long;
      within = homes_within was.settings.volumes _ (map home_row c.in_ok-loaded.loaded.rows.items) c.in_ok-loaded.ensures.within c.in_ok-loaded.ensures.homes;
      pending = tt;
      kept = λ up. record { few = omega (arith, c.in_ok-loaded.ensures.few); homeless = tt };
      undrained = λ closed. not_closed (take was.settings.machines was.drained) (replicate was.settings.machines false) closed;
      stands = λ tells up.
          let found = c.in_ok-loaded.ensures.found tells in (
            directory_with (map home_row c.in_ok-loaded.loaded.rows.items),
            stands_opened files was.settings (files was.disk 0) _ _ (map home_row c.in_ok-loaded.loaded.rows.items)
                found refl refl refl,
          );
    }

pub returns-clause-opened : goal.returns-clause-opened
unfolding OpensRows Stands
returns-clause-opened g c = rw (← c.self.view_is) (λ tells fresh.
    let files = g.D.Disk.files in
    let was = c.self.inside in
    let found = c.in_ok-loaded.ensures.found tells in
    let unsure = c.unsure-unsure.ensures ∙ ap unsure_of fresh in
    let drains = c.self.invariant.undrained (ap is_closed fresh) in (
      c.in_ok-loaded.ensures.notes ∙ ap (λ (u : Option Unsure). notes_by u (home_among c.in_ok-loaded.loaded.homes.volumes)) unsure,
      found.found,
      stands_opened files was.settings (files was.disk 0) _ _ (map home_row c.in_ok-loaded.loaded.rows.items) found refl refl drains,
    ))

pub returns-clause-rows : goal.returns-clause-rows
unfolding OpensRows
returns-clause-rows g c = rw (← c.self.view_is) (λ tells. inr ((c.in_ok-loaded.ensures.found tells).settled).journal)

pub returns-clause-reopened : goal.returns-clause-reopened
unfolding Stopped Stands
returns-clause-reopened g c = λ tells known stopped.
    let files = g.D.Disk.files in
    let s = subst (λ (d : State _). Stopped files d known) (sym c.self.view_is) stopped in
    let closed : is_closed c.self.inside.mode ≡ true = ap (λ (d : State _). is_closed d.mode) c.self.view_is ∙ c.requires.closed in
    let drains = c.self.invariant.undrained closed ∙ ap (λ (d : State _). replicate d.settings.machines false) c.self.view_is in
    reopened files _ _ _ known c.in_ok-loaded.loaded.notes (map home_row c.in_ok-loaded.loaded.rows.items) (c.in_ok-loaded.ensures.found tells) s refl refl drains
    (c.in_ok-loaded.ensures.notes ∙ ap (λ (u : Option Unsure). notes_by u (home_among c.in_ok-loaded.loaded.homes.volumes)) c.unsure-unsure.ensures)

pub returns-clause-undamaged : goal.returns-clause-undamaged
returns-clause-undamaged g c = rw (← c.self.view_is) (λ tells some. c.in_ok-loaded.ensures.undamaged tells some)

pub returns-clause-undamaged_now : goal.returns-clause-undamaged_now
returns-clause-undamaged_now g c = rw (← c.self.view_is) (λ tells. c.in_ok-loaded.ensures.undamaged_now tells)

pub returns-in_err-loaded-clause-nothing : goal.returns-in_err-loaded-clause-nothing
unfolding OpensRows
returns-in_err-loaded-clause-nothing g c = rw (← c.self.view_is) (λ tells void image rows other is opens. c.load.ensures.nothing tells void (image 0) rows other is opens)

pub returns-clause-nothing : goal.returns-clause-nothing
unfolding OpensRows
returns-clause-nothing g c = rw (← c.self.view_is) (λ tells void image rows other is opens. c.load.ensures.nothing tells void (image 0) rows other is opens)

pub returns-clause-undrained : goal.returns-clause-undrained
returns-clause-undrained g c =
    let closed : is_closed c.self.inside.mode ≡ true = ap (λ (d : State _). is_closed d.mode) c.self.view_is ∙ c.requires.closed in
    c.self.invariant.undrained closed ∙ ap (λ (d : State _). replicate d.settings.machines false) c.self.view_is

pub returns-clause-seen : goal.returns-clause-seen
returns-clause-seen g c =
    let closed : is_closed c.self.inside.mode ≡ true = ap (λ (d : State _). is_closed d.mode) c.self.view_is ∙ c.requires.closed in
    rw (← c.self.view_is) (record {
      homes = c.in_ok-loaded.ensures.homes;
      rows_are = c.in_ok-loaded.ensures.count ∙ sym (length-map c.in_ok-loaded.loaded.rows.items home_row);
      pending = refl;
      drained = c.self.invariant.undrained closed;
    })

pub returns-in_err-loaded-clause-refused_seen : goal.returns-in_err-loaded-clause-refused_seen
returns-in_err-loaded-clause-refused_seen g c =
    let closed : is_closed c.self.inside.mode ≡ true = ap (λ (d : State _). is_closed d.mode) c.self.view_is ∙ c.requires.closed in
    rw (← c.self.view_is) (on_err c.from_residual.result _ (record { pending = refl; drained = c.self.invariant.undrained closed }))

pub returns-clause-formatted : goal.returns-clause-formatted
returns-clause-formatted g c = λ tells.
    let found = c.in_ok-loaded.ensures.found tells in
    not_void c.self.inside.settings _ (map home_row c.in_ok-loaded.loaded.rows.items) (found.settled).journal
