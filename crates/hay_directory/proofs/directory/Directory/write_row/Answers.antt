use Rattle.std.proofs.Common.{◌≡◌, ◌+◌, true, Err, refl, sym, ap, subst, ◌∙◌}
use Rattle.hay_dirfile.specs.declared.journal.Journal.{Journal}
use Rattle.hay_directory.specs.declared.mode.Mode.TheVariants.{Open}
use Rattle.hay_directory.specs.Rows.{home_row}
use Rattle.hay_directory.specs.State.{State, Stands, IsRowWritten, is_closed, is_frozen, unsure_of}
use Rattle.hay_directory.proofs.SeenLaws.{frozen_pending}
use Rattle.hay_directory.proofs.Standing.{row_written, serving, sound_failed, stands_failed, stands_kept, stood_now, takes}
use Rattle.hay_directory.proofs.directory.Directory.write_row.Goals as goal

pub invariant_of-self-in-Ok-settle_row : goal.invariant_of-self-in-Ok-settle_row
invariant_of-self-in-Ok-settle_row g c =
    let row = c.args.row in
    let t = takes _ _ (home_row row) c.self.view_is c.requires.up (sym c.is_frozen.ensures.frozen ∙ c.if-is_frozen.false) c.requires.volume c.requires.homeless in
    sound_failed g.D.Disk.Tells g.D.Disk.files _ _ c.args.tag (home_row row) c.self.invariant t refl refl refl c.reserve.ensures.kept c.reserve.ensures.len c.settle_row.ensures.left refl

pub invariant_of-self-in-Err-Failed : goal.invariant_of-self-in-Err-Failed
invariant_of-self-in-Err-Failed g c =
    let row = c.args.row in
    let t = takes _ _ (home_row row) c.self.view_is c.requires.up (sym c.is_frozen.ensures.frozen ∙ c.if-is_frozen.false) c.requires.volume c.requires.homeless in
    sound_failed g.D.Disk.Tells g.D.Disk.files _ _ c.args.tag (home_row row) c.self.invariant t refl refl refl c.reserve.ensures.kept c.reserve.ensures.len c.settle_row.ensures.left refl

pub returns-in-Ok-settle_row-clause-written : goal.returns-in-Ok-settle_row-clause-written
unfolding Stands IsRowWritten
returns-in-Ok-settle_row-clause-written g c = λ tells known drained stands.
    let files = g.D.Disk.files in
    let was = c.self.inside in
    let row = c.args.row in
    let t = takes _ _ (home_row row) c.self.view_is c.requires.up (sym c.is_frozen.ensures.frozen ∙ c.if-is_frozen.false) c.requires.volume c.requires.homeless in
    let done = c.in-Ok-settle_row.ensures in
    let s = subst (λ (d : State _). Stands files d known drained) (sym c.self.view_is) stands in
    let moved : c.settle_row.new.self.end ≡ was.journal.end + 24 = ap (λ (j : Journal). j.end) (done.moved tells) in
    row_written files _ _ known drained (home_row row) s t refl refl c.reserve.ensures.kept (done.added tells) (done.solid tells) (done.next tells) moved refl

pub returns-in-Ok-settle_row-clause-sound : goal.returns-in-Ok-settle_row-clause-sound
unfolding IsRowWritten
returns-in-Ok-settle_row-clause-sound g c = λ tells.
    let files = g.D.Disk.files in
    let was = c.self.inside in
    let row = c.args.row in
    let t = takes _ _ (home_row row) c.self.view_is c.requires.up (sym c.is_frozen.ensures.frozen ∙ c.if-is_frozen.false) c.requires.volume c.requires.homeless in
    let done = c.in-Ok-settle_row.ensures in
    let old = c.self.invariant.stands tells (ap is_closed t.serves) in
    let moved : c.settle_row.new.self.end ≡ was.journal.end + 24 = ap (λ (j : Journal). j.end) (done.moved tells) in
    (old.0, _, row_written files _ _ old.0 _ (home_row row) old.1 t refl refl c.reserve.ensures.kept (done.added tells) (done.solid tells) (done.next tells) moved refl)

pub returns-in-Ok-settle_row-clause-given_up : goal.returns-in-Ok-settle_row-clause-given_up
unfolding Stands
returns-in-Ok-settle_row-clause-given_up g c = λ tells known drained stands.
    let files = g.D.Disk.files in
    let was = c.self.inside in
    let row = c.args.row in
    let t = takes _ _ (home_row row) c.self.view_is c.requires.up (sym c.is_frozen.ensures.frozen ∙ c.if-is_frozen.false) c.requires.volume c.requires.homeless in
    let s = subst (λ (d : State _). Stands files d known drained) (sym c.self.view_is) stands in
    stands_failed files _ _ known drained c.args.tag (home_row row) s t refl refl refl c.reserve.ensures.kept (c.settle_row.ensures.left tells) refl

pub returns-in-Err-Failed-clause-pending : goal.returns-in-Err-Failed-clause-pending
unfolding Stands
returns-in-Err-Failed-clause-pending g c = λ tells known drained faults stands is.
    let files = g.D.Disk.files in
    let was = c.self.inside in
    let row = c.args.row in
    let t = takes _ _ (home_row row) c.self.view_is c.requires.up (sym c.is_frozen.ensures.frozen ∙ c.if-is_frozen.false) c.requires.volume c.requires.homeless in
    let s = subst (λ (d : State _). Stands files d known drained) (sym c.self.view_is) stands in
    stands_failed files _ _ known drained c.args.tag (home_row row) s t refl refl refl c.reserve.ensures.kept (c.settle_row.ensures.left tells) refl

pub returns-in_default-clause-no_memory : goal.returns-in_default-clause-no_memory
unfolding Stands
returns-in_default-clause-no_memory g c = λ tells known drained stands is.
    let files = g.D.Disk.files in
    let s = subst (λ (d : State _). Stands files d known drained) (sym c.self.view_is) stands in
    stands_kept files _ _ known drained s refl refl refl c.reserve.ensures.kept refl refl refl

pub returns-in-Err-NoMemory-clause-no_memory : goal.returns-in-Err-NoMemory-clause-no_memory
unfolding Stands
returns-in-Err-NoMemory-clause-no_memory g c = λ tells known drained stands is.
    let files = g.D.Disk.files in
    let was = c.self.inside in
    let serves : was.mode ≡ Open =
    serving was.mode (ap (λ (d : State _). is_closed d.mode) c.self.view_is ∙ c.requires.up)
    (ap (λ (d : State _). is_frozen d.mode) c.self.view_is ∙ sym c.is_frozen.ensures.frozen ∙ c.if-is_frozen.false) in
    let s = subst (λ (d : State _). Stands files d known drained) (sym c.self.view_is) stands in
    stands_kept files _ _ known drained s (sym serves) refl refl c.reserve.ensures.kept (c.in-Err-NoMemory.ensures.no_memory tells (ap Err c.in-Err-NoMemory.field-0-is))
    c.in-Err-NoMemory.ensures.stayed refl

pub returns-then-is_frozen-clause-stood : goal.returns-then-is_frozen-clause-stood
returns-then-is_frozen-clause-stood g c = stood_now g.D.Disk.Tells g.D.Disk.files _ _ c.self.invariant c.self.view_is c.requires.up

pub returns-in_default-clause-stood : goal.returns-in_default-clause-stood
returns-in_default-clause-stood g c = stood_now g.D.Disk.Tells g.D.Disk.files _ _ c.self.invariant c.self.view_is c.requires.up

pub returns-in-Ok-settle_row-clause-stood : goal.returns-in-Ok-settle_row-clause-stood
returns-in-Ok-settle_row-clause-stood g c = stood_now g.D.Disk.Tells g.D.Disk.files _ _ c.self.invariant c.self.view_is c.requires.up

pub returns-in-Err-NoMemory-clause-stood : goal.returns-in-Err-NoMemory-clause-stood
returns-in-Err-NoMemory-clause-stood g c = stood_now g.D.Disk.Tells g.D.Disk.files _ _ c.self.invariant c.self.view_is c.requires.up

pub returns-in-Err-Failed-clause-stood : goal.returns-in-Err-Failed-clause-stood
returns-in-Err-Failed-clause-stood g c = stood_now g.D.Disk.Tells g.D.Disk.files _ _ c.self.invariant c.self.view_is c.requires.up

pub returns-then-is_frozen-clause-refused_seen : goal.returns-then-is_frozen-clause-refused_seen
returns-then-is_frozen-clause-refused_seen g c =
    let frozen : is_frozen c.self.inside.mode ≡ true = ap (λ (d : State _). is_frozen d.mode) c.self.view_is ∙ sym c.is_frozen.ensures.frozen ∙ c.if-is_frozen.true in
    rw (← c.self.view_is) (frozen_pending c.self.inside.mode frozen, record { homes = λ pair. refl; rows = refl; pending = refl; drained = refl })

pub returns-in_default-clause-refused_seen : goal.returns-in_default-clause-refused_seen
returns-in_default-clause-refused_seen g c =
    let t = takes _ _ (home_row c.args.row) c.self.view_is c.requires.up (sym c.is_frozen.ensures.frozen ∙ c.if-is_frozen.false) c.requires.volume c.requires.homeless in
    rw (← c.self.view_is) (ap unsure_of t.serves, record { homes = c.reserve.ensures.kept.at; rows = refl; pending = refl; drained = refl })

pub returns-in-Err-NoMemory-clause-refused_seen : goal.returns-in-Err-NoMemory-clause-refused_seen
returns-in-Err-NoMemory-clause-refused_seen g c =
    let t = takes _ _ (home_row c.args.row) c.self.view_is c.requires.up (sym c.is_frozen.ensures.frozen ∙ c.if-is_frozen.false) c.requires.volume c.requires.homeless in
    rw (← c.self.view_is) (ap unsure_of t.serves, record { homes = c.reserve.ensures.kept.at; rows = refl; pending = ap unsure_of (sym t.serves); drained = refl })

pub returns-in-Err-Failed-clause-refused_seen : goal.returns-in-Err-Failed-clause-refused_seen
returns-in-Err-Failed-clause-refused_seen g c =
    let t = takes _ _ (home_row c.args.row) c.self.view_is c.requires.up (sym c.is_frozen.ensures.frozen ∙ c.if-is_frozen.false) c.requires.volume c.requires.homeless in
    rw (← c.self.view_is) (record { none = ap unsure_of t.serves; pending = refl; homes = c.reserve.ensures.kept.at; rows = refl; drained = refl })

pub returns-in-Ok-settle_row-clause-seen : goal.returns-in-Ok-settle_row-clause-seen
returns-in-Ok-settle_row-clause-seen g c =
    let t = takes _ _ (home_row c.args.row) c.self.view_is c.requires.up (sym c.is_frozen.ensures.frozen ∙ c.if-is_frozen.false) c.requires.volume c.requires.homeless in
    rw (← c.self.view_is) (record { none = ap unsure_of t.serves; pending = refl; homes = c.reserve.ensures.kept.at; rows = refl; drained = refl })
