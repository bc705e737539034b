use Rattle.std.proofs.Common.{◌≡◌, ◌≢◌, ◌⊎◌, inl, inr, subst}
use Rattle.std.specs.Prelude.{Result, Err, IsErrOf, IsOk}
use Rattle.std.proofs.lemmas.Result.{err_from_is_err_and}
use Rattle.hay_loading.specs.declared.stops.Stop.{Stop}
use Rattle.hay_loading.specs.declared.stops.Stop.TheVariants as stop
use Rattle.hay_loading.specs.Endings.{Ends}
use Rattle.hay_loading.proofs.Refusing.{ends_unbegun, not_read, same_stop}
use Rattle.hay_loading.proofs.Statuses.{stopped}
use Rattle.hay_loading.proofs.load.load_headed.Goals as goal

pub returns-in_err-write_header-clause-ends : goal.returns-in_err-write_header-clause-ends
returns-in_err-write_header-clause-ends g c = λ script told.
    let disks = g.H.Shelf.disks c.args.shelf.now in
    let count = g.H.Shelf.fault_count c.args.shelf.now in
    let wrong : Result (Unit {0}) Stop = Err c.in_err-write_header.field-0.0 in
    let same : wrong ≡ c.from_residual.result = (let p = err_from_is_err_and c.from_residual.result c.from_residual.ensures.1 in cc (p.1, p.2)) in
    subst (λ (r : Result (Unit {0}) Stop). Ends g.H.Disk.Disk.Tells c.args.settings script disks disks count count (g.K.Sink.written c.args.sink.now)
    (g.K.Sink.written c.write_header.new.sink) (g.S.Source.left c.args.source.now) r) same
    (ends_unbegun g.H.Disk.Disk.Tells c.args.settings script disks count (g.K.Sink.written c.args.sink.now) (g.K.Sink.written c.write_header.new.sink)
    (g.S.Source.left c.args.source.now) told c.requires.disks_in
    c.in_err-write_header.ensures.part
    c.in_err-write_header.field-0.0 (same_stop c.in_err-write_header.field-0.0 stop.Output stop.NoMemory c.in_err-write_header.ensures.stops))

pub returns-clause-ends : goal.returns-clause-ends
returns-clause-ends g c = λ script told. c.load_script.ensures.ends script (g.K.Sink.written c.args.sink.now) told c.in_ok-write_header.ensures.wrote

pub returns-clause-halts : goal.returns-clause-halts
returns-clause-halts g c = λ stops script told. c.load_script.ensures.halts stops script (g.K.Sink.written c.args.sink.now) told c.in_ok-write_header.ensures.wrote

pub returns-clause-halts_over : goal.returns-clause-halts_over
returns-clause-halts_over g c = λ stops script told. c.load_script.ensures.halts_over stops script (g.K.Sink.written c.args.sink.now) told c.in_ok-write_header.ensures.wrote

pub returns-in_err-write_header-clause-sound : goal.returns-in_err-write_header-clause-sound
returns-in_err-write_header-clause-sound g c = λ tells ends.
    let same : c.from_residual.result ≡ stopped c.in_err-write_header.field-0.0 = (let p = err_from_is_err_and c.from_residual.result c.from_residual.ensures.1 in cc (p.1, p.2)) in
    let why = c.in_err-write_header.field-0.0 in
    let left = g.S.Source.left c.args.source.now in
    absurd (not_read why left (elim (same_stop why stop.Output stop.NoMemory c.in_err-write_header.ensures.stops) [ inl is ↦ inl is | inr is ↦ inr (inl is) ])
    (subst (λ (r : Result (Unit {0}) Stop). IsOk r ⊎ IsErrOf r stop.Input ⊎ IsErrOf r stop.TooLong ⊎ (left ≢ left)) same ends))
