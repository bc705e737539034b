use Rattle.std.proofs.Common.{◌≡◌, Err, sym, ap, ◌∙◌, inr, ◌++◌, List, length, arith}
use Rattle.std.proofs.lemmas.Option.{slice_get_within}
use Rattle.hay_needle.specs.declared.settings.Settings.{Settings}
use Rattle.hay_reply.specs.declared.Note.{Note}
use Rattle.hay_open.specs.declared.fault.OpenFault.{OpenFault}
use Rattle.hay_open.specs.declared.fault.OpenFault.TheVariants as opening
use Rattle.hay_logical.specs.declared.fault.Unopened.{Unopened}
use Rattle.hay_logical.specs.ReplicaCalls.{IsRefusedAt}
use Rattle.hay_cluster.specs.Faults.{not_opened}
use Rattle.hay_legal.specs.Known.{slot_of}
use Rattle.hay_cluster.proofs.OpeningVolumes.{damage_told, moves_opened, moves_refused}
use Rattle.hay_cluster.proofs.opening.open_volume.Goals as goal

pub returns-in-Err-clause-refused : goal.returns-in-Err-clause-refused
returns-in-Err-clause-refused g c =
    let replica = c.in-Err.field-0.replica in
    let fault = c.in-Err.field-0.fault in
    let told : c.not_opened.result ≡ not_opened (slot_of c.args.settings.now c.args.number replica) fault = c.not_opened.ensures ∙ ap (λ slot. not_opened slot fault) c.slot_of.ensures.is in
    inr (record {
      refusal = record { replica = replica; fault = fault };
      told = told;
      cause = c.in-Err.ensures.refused;
      whole = λ tells k stopped slot file at is.
          let damaged : fault ≡ opening.Damaged file at = damage_told (slot_of c.args.settings.now c.args.number replica) fault slot file at (sym told ∙ is) in
          c.in-Err.ensures.whole tells k stopped replica file at (ap (λ (f : OpenFault). let u : Unopened = record { replica = replica; fault = f } in Err u) damaged);
    })

pub returns-in-Err-clause-moves : goal.returns-in-Err-clause-moves
returns-in-Err-clause-moves g c =
    let e = c.in-Err.ensures in
    moves_refused g.D.Disk.Tells g.D.Disk.files g.D.Piece.Piece.Tells g.D.Disk.fault_count g.D.Disk.fuse_count c.args.volume.now c.open.new.self e.same e.counts e.left e.kept

pub returns-in_err-append-in-Ok-clause-moves : goal.returns-in_err-append-in-Ok-clause-moves
returns-in_err-append-in-Ok-clause-moves g c =
    let e = c.in-Ok.ensures in
    moves_opened g.D.Disk.Tells g.D.Disk.files g.D.Piece.Piece.Tells g.D.Disk.fault_count g.D.Disk.fuse_count c.args.volume.now c.open.new.self _ e.same e.counts e.reopened e.kept

pub returns-in_ok-append-in-Ok-clause-moves : goal.returns-in_ok-append-in-Ok-clause-moves
returns-in_ok-append-in-Ok-clause-moves g c =
    let e = c.in-Ok.ensures in
    moves_opened g.D.Disk.Tells g.D.Disk.files g.D.Piece.Piece.Tells g.D.Disk.fault_count g.D.Disk.fuse_count c.args.volume.now c.open.new.self _ e.same e.counts e.reopened e.kept

pub returns-in_ok-append-in-Ok-clause-opened : goal.returns-in_ok-append-in-Ok-clause-opened
returns-in_ok-append-in-Ok-clause-opened g c =
    let e = c.in-Ok.ensures in (
      c.in-Ok.more,
      c.in_ok-append-in-Ok.ensures.items ∙ ap (λ (l : List Note). c.args.notes.now.items ++ l) c.into_vec.ensures,
      record {
        moves =
            moves_opened g.D.Disk.Tells g.D.Disk.files g.D.Piece.Piece.Tells g.D.Disk.fault_count g.D.Disk.fuse_count c.args.volume.now c.open.new.self c.in-Ok.more e.same e.counts e.reopened e.kept;
        up = e.«open»;
        first = e.first;
        reopened = e.reopened;
        undamaged = λ tells j r r' at at'. (e.undamaged tells j r at, e.undamaged_now tells j r r' at at', e.formatted tells j r' at');
        told = e.told;
        told_places = e.told_places;
        finds = e.finds;
        live = e.live;
        read = e.read;
        fits = e.fits;
        seen = e.seen;
        lie = e.within;
        formatted = e.formatted;
      },
    )

pub slot_of-requires-clause-replica : goal.slot_of-requires-clause-replica
slot_of-requires-clause-replica g c =
    let of : IsRefusedAt g.D.Disk.Tells g.D.Disk.files g.D.Disk.fault_count c.args.volume.now.replicas c.open.new.self.replicas c.in-Err.field-0 = c.in-Err.ensures.refused in
    let low = slice_get_within c.args.volume.now.replicas c.in-Err.field-0.replica of.before of.was in
    let all : length c.args.volume.now.replicas ≡ c.args.settings.now.replicas = c.requires.is.all ∙ ap (λ (s : Settings). s.replicas) c.requires.is.settings_are in
    omega (arith, low, all)

pub returns-in_ok-append-in-Ok-clause-drew : goal.returns-in_ok-append-in-Ok-clause-drew
returns-in_ok-append-in-Ok-clause-drew g c = c.in-Ok.ensures.drew
