use Rattle.std.proofs.Common.{◌≡◌, ap, sym, subst, take, drop, inr}
use Rattle.hay_needle.specs.Needle.{HeadBytes, head_of_cell}
use Rattle.hay_index.specs.Records.{IsIndex}
use Rattle.hay_index.proofs.ReadLaws.{found}
use Rattle.hay_open.specs.Damage.{IsRecordAt}
use Rattle.hay_open.proofs.Misfits.{pair_differs}
use Rattle.hay_open.proofs.record.fitting_head.Goals as goal
use Rattle.hay_open.proofs.record.fitting_head.Goals.{then-ne-via-then-ne, then-ne-via-else-ne+then-head-row}

pub returns-then-ne-clause-damaged : goal.returns-then-ne-clause-damaged
returns-then-ne-clause-damaged g c = λ tells file at told.
    let head = c.in-Some.head in
    let volume = (g.D.Disk.files c.args.disk.now c.args.volume).now in
    let stands = found c.in_ok-head.field-0 head (λ h. HeadBytes (take 36 (drop c.args.row.now.at volume)) (head_of_cell h)) c.in-Some.is (c.in_ok-head.ensures.stands tells) in
    let differs : head.pair ≡ c.args.row.now.pair → head.size ≡ c.args.row.now.size → ⊥ =
    elim c.then-ne.branch [
      | then-ne-via-then-ne w ↦ λ pair size. pair_differs head.pair c.args.row.now.pair w.if-ne.ensures pair
      | then-ne-via-else-ne+then-head-row w ↦ λ pair size. w.if-head-row.true size
    ] in
    let same = ap (λ files. (files c.args.index).now) (c.head_at.ensures.same tells) in
    let own : c.args.index ≡ file = cc in
    let here : c.in_ok-at.at ≡ at = cc in
    inr (
      sym own,
      (head_of_cell head, stands, differs),
      λ superblock records end is below.
          subst (λ n. IsRecordAt superblock (g.D.Disk.files c.args.disk.now c.args.index).now c.args.number n) here
          (subst (λ l. IsRecordAt superblock l c.args.number c.in_ok-at.at) same (c.in_ok-at.ensures.place tells superblock records end
          (subst (λ l. IsIndex superblock l records end) (sym same) is) below)),
    )
