use Rattle.std.proofs.Common.{◌≡◌, ◌<◌, ◌∙◌, Some, length, slice_get, refl, sym, ap, subst, arith}
use Rattle.std.proofs.lemmas.Option.{slice_get_read}
use Rattle.hay_needle.specs.declared.settings.Settings.{Settings}
use Rattle.hay_shared_volume.proofs.Made.{are_at, are_seated, are_unseen, is_made_of}
use Rattle.hay_shared_volume.proofs.Regular.{is_regular}
use Rattle.hay_shared_volume.proofs.volume.SharedVolume.new.Goals as goal

-- the first seat, of which there is one
first_seat : (g : _) (c : goal.After-of-first g) → slice_get c.in-Ok.field-0.seats.items 0 ≡ Some c.of-first.result.value
first_seat g c =
    let many = (c.in-Ok.ensures.made.1).count in
    let some = c.requires.some in
    slice_get_read c.in-Ok.field-0.seats.items (length c.in-Ok.field-0.seats.items) 0 c.index.result.now refl (omega (arith, many, some)) c.index.ensures ∙ ap Some (sym c.of-first.ensures)

pub returns-in-Ok-clause-made : goal.returns-in-Ok-clause-made
returns-in-Ok-clause-made g c number of =
    is_made_of _ c.args.volume c.args.lanes c.in-Ok.field-0.seats.items c.in-Ok.ensures.made.1 (first_seat g c) c.args.settings c.in-Ok.field-0.room number refl
    c.in-Ok.ensures.made.0 c.requires.some of

pub returns-in-Ok-clause-seated : goal.returns-in-Ok-clause-seated
returns-in-Ok-clause-seated g c number of =
    are_seated _ c.args.volume c.args.lanes c.in-Ok.field-0.seats.items c.in-Ok.ensures.made.1 (first_seat g c) c.args.settings number of.settings_are of.number_is c.requires.few

pub returns-in-Ok-clause-unseen : goal.returns-in-Ok-clause-unseen
returns-in-Ok-clause-unseen g c =
    are_unseen (record { settings = c.args.settings; lock = c.in-Ok.field-0.lock; first = c.of-first.result }) c.args.volume c.args.lanes c.in-Ok.field-0.seats.items
    c.in-Ok.ensures.made.1 (first_seat g c)

pub returns-in-Ok-clause-told : goal.returns-in-Ok-clause-told
returns-in-Ok-clause-told g c number of =
    are_at (record { settings = c.args.settings; lock = c.in-Ok.field-0.lock; first = c.of-first.result }) c.args.volume c.args.lanes c.in-Ok.field-0.seats.items
    c.in-Ok.ensures.made.1 (first_seat g c)
    g.D.Disk.Tells g.D.Disk.files g.P.Piece.Tells g.D.Disk.fault_count g.D.Disk.fuse_count c.args.settings number of

pub returns-in-Ok-clause-regular : goal.returns-in-Ok-clause-regular
returns-in-Ok-clause-regular g c number of known stands =
    is_regular g.D.Disk.files g.P.Piece.Tells (λ disk n. g.met.D.Disk.may_leave_now disk n stands.tells) c.args.volume known c.args.settings of.settings_are stands.stands
    (λ j below. c.read_goals.ensures stands.tells known stands.stands j (subst (λ (s : Settings). j < s.replicas) of.settings_are below))

pub returns-in-Err-clause-regular : goal.returns-in-Err-clause-regular
returns-in-Err-clause-regular g c number of known stands =
    is_regular g.D.Disk.files g.P.Piece.Tells (λ disk n. g.met.D.Disk.may_leave_now disk n stands.tells) c.args.volume known c.args.settings of.settings_are stands.stands
    (λ j below. c.read_goals.ensures stands.tells known stands.stands j (subst (λ (s : Settings). j < s.replicas) of.settings_are below))
