use Rattle.hay_disk.specs.declared.disk.DiskFault.{DiskFault}
use Rattle.std.proofs.Common.{◌≡◌, ◌<◌, ℕ, List, [], ◌∷◌, length, Result, Err, false, refl, sym, ap, ◌∙◌, arith}
use Rattle.hay_physical.proofs.Standing.{count_flushed, index_solid, solid_flushed, stand_flushed, stand_stuck}
use Rattle.hay_physical.proofs.state.OpenFiles.flush.Goals as goal

some_items : {A : Type 0} (xs : List A) → (xs ≡ [] → ⊥) → 0 < length xs
some_items [] some = absurd (some refl)
some_items (x ∷ xs) some = omega arith

pub returns-in-Ok-clause-flushed : goal.returns-in-Ok-clause-flushed
returns-in-Ok-clause-flushed g c = λ tells sup s stand.
    let files = g.D.Disk.files in
    let opened = c.args.self.now in
    let done = c.in-Ok.ensures in
    let live : opened.index.frozen ≡ false = sym c.is_frozen.ensures ∙ c.if-is_frozen.false in
    let solid = solid_flushed (files c.args.disk.now opened.index.file) (files c.flush.new.disk opened.index.file) opened.index.pending (index_solid sup (files c.args.disk.now) opened s stand live)
    (λ none. ap (λ d. files d opened.index.file) (done.nothing none).2) (done.solid tells) in (
      count_flushed sup (files c.args.disk.now) opened s c.in-Ok.count stand done.number,
      stand_flushed sup (files c.args.disk.now) (files c.flush.new.disk) opened c.flush.new.self s stand live
          (record { moved = done.moved; added = done.added tells; solid = solid; gate = done.next tells; others = done.others tells }),
    )

pub returns-in-Err-Failed-clause-refused : goal.returns-in-Err-Failed-clause-refused
returns-in-Err-Failed-clause-refused g c = λ tells sup s stand.
    let files = g.D.Disk.files in
    let opened = c.args.self.now in
    let refused = c.in-Err-Failed.ensures in
    let live : opened.index.frozen ≡ false = sym c.is_frozen.ensures ∙ c.if-is_frozen.false in
    stand_stuck sup (files c.args.disk.now) (files c.flush.new.disk) opened c.flush.new.self s stand live
    (refused.froze (ap (λ (f : DiskFault). let r : Result ℕ DiskFault = Err f in r) c.in-Err-Failed.field-0-is)) (refused.others tells) (refused.left tells)

pub returns-in-Err-Failed-clause-tried : goal.returns-in-Err-Failed-clause-tried
returns-in-Err-Failed-clause-tried g c = λ faults is. some_items (c.args.self.now).index.pending (λ none. let never = (c.in-Err-Failed.ensures.nothing none).0 in cc)
