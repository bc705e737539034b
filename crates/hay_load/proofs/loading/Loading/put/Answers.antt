use Rattle.std.proofs.Common.{◌∙◌, List, Option, refl, sym, subst}
use Rattle.hay_batch.proofs.StoredLaws.{stands_left}
use Rattle.hay_load.specs.declared.batch.Gathered.{Gathered}
use Rattle.hay_load.specs.Gathering.{Group, put_step}
use Rattle.hay_load.specs.Loads.{LeavesFirst, Loads, batch_of, held_of}
use Rattle.hay_load.proofs.Taking.{apart_groups, joined_groups, left_first, loads_none}
use Rattle.hay_load.proofs.loading.Loading.put.Goals as goal

pub returns-in_err-new-clause-left : goal.returns-in_err-new-clause-left
returns-in_err-new-clause-left g c = λ tells s image stands leaves.
    left_first c.args.self.now.store.settings (put_step c.args.number (held_of c.args.self.now.held) c.args.photo).groups image s
    (stands_left g.D.Disk.files s c.args.self.now.store image c.requires.loading.shape stands leaves)

pub returns-in_default-clause-left : goal.returns-in_default-clause-left
returns-in_default-clause-left g c = λ tells s image stands leaves.
    left_first c.args.self.now.store.settings (put_step c.args.number (held_of c.args.self.now.held) c.args.photo).groups image s
    (stands_left g.D.Disk.files s c.args.self.now.store image c.requires.loading.shape stands leaves)

pub returns-in_err-with-clause-left : goal.returns-in_err-with-clause-left
returns-in_err-with-clause-left g c = λ tells s image stands leaves.
    left_first c.args.self.now.store.settings (put_step c.args.number (held_of c.args.self.now.held) c.args.photo).groups image s
    (stands_left g.D.Disk.files s c.args.self.now.store image c.requires.loading.shape stands leaves)

pub returns-then-joins-clause-left : goal.returns-then-joins-clause-left
returns-then-joins-clause-left g c = λ tells s image stands leaves.
    left_first c.args.self.now.store.settings (put_step c.args.number (held_of c.args.self.now.held) c.args.photo).groups image s
    (stands_left g.D.Disk.files s c.args.self.now.store image c.requires.loading.shape stands leaves)

pub returns-in_default-clause-loads : goal.returns-in_default-clause-loads
returns-in_default-clause-loads g c =
    subst (λ (held : Option Gathered). Loads g.D.Disk.Tells g.D.Disk.files (put_step c.args.number (held_of held) c.args.photo).groups c.args.self.now.store c.args.self.now.store
    c.args.out.now.items c.args.out.now.items) (sym c.in_default.is ∙ c.take.ensures.value)
    (loads_none g.D.Disk.Tells g.D.Disk.files c.args.self.now.store c.args.self.now.store c.args.out.now.items c.args.out.now.items refl refl)

pub returns-then-joins-clause-loads : goal.returns-then-joins-clause-loads
returns-then-joins-clause-loads g c =
    subst (λ (held : Option Gathered). Loads g.D.Disk.Tells g.D.Disk.files (put_step c.args.number (held_of held) c.args.photo).groups c.args.self.now.store c.args.self.now.store
    c.args.out.now.items c.args.out.now.items) c.in-Some.ensures.value
    (subst (λ (l : List Group). Loads g.D.Disk.Tells g.D.Disk.files l c.args.self.now.store c.args.self.now.store c.args.out.now.items c.args.out.now.items)
    (sym (joined_groups c.args.number (batch_of c.in-Some.batch) c.args.photo (sym c.joins.ensures ∙ c.if-joins.true)))
    (loads_none g.D.Disk.Tells g.D.Disk.files c.args.self.now.store c.args.self.now.store c.args.out.now.items c.args.out.now.items refl refl))

pub returns-clause-left : goal.returns-clause-left
returns-clause-left g c = λ tells s image stands leaves.
    subst (λ (held : Option Gathered). LeavesFirst c.args.self.now.store.settings (put_step c.args.number (held_of held) c.args.photo).groups image s) c.in-Some.ensures.value
    (subst (λ (l : List Group). LeavesFirst c.args.self.now.store.settings l image s)
    (sym (apart_groups c.args.number (batch_of c.in-Some.batch) c.args.photo (sym c.joins.ensures ∙ c.if-joins.false))) (c.load.ensures.left tells s image stands leaves))

pub returns-in_err-new-2-clause-left : goal.returns-in_err-new-2-clause-left
returns-in_err-new-2-clause-left g c = λ tells s image stands leaves.
    subst (λ (held : Option Gathered). LeavesFirst c.args.self.now.store.settings (put_step c.args.number (held_of held) c.args.photo).groups image s) c.in-Some.ensures.value
    (subst (λ (l : List Group). LeavesFirst c.args.self.now.store.settings l image s)
    (sym (apart_groups c.args.number (batch_of c.in-Some.batch) c.args.photo (sym c.joins.ensures ∙ c.if-joins.false))) (c.load.ensures.left tells s image stands leaves))
