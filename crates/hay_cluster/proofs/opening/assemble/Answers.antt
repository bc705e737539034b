use Rattle.std.proofs.Common.{◌≡◌, ◌*◌, None, List, [], ◌∷◌, ◌++◌, length, take, drop, sym, ap, subst, ◌∙◌, arith}
use Rattle.std.proofs.lemmas.List.{length-append, take_at}
use Rattle.std.specs.Prelude.{reverse}
use Rattle.std.specs.List.{AllByRecursion, flat_map}
use Rattle.hay_mount.specs.Mounts.{InOrder}
use Rattle.hay_logical.specs.Volumes.{IsClosed, Volume}
use Rattle.hay_cluster.specs.Opening.{IsEmptyVolume}
use Rattle.hay_cluster.specs.Store.{IsShaped, Open, volume_disks}
use Rattle.hay_cluster.proofs.OpeningFill.{AreFilled, are_filled, first_turned}
use Rattle.hay_cluster.proofs.opening.assemble.Goals as goal

pub invariant_of-result : goal.invariant_of-result
invariant_of-result g c =
    let items = c.args.volumes.items in
    let vs = c.fill_volumes.new.volumes in
    let long : length vs ≡ length items = (let same = c.fill_volumes.auto.volumes in omega (arith, same, c.as_mut_slice.ensures.len, c.args.volumes.ok.0)) in
    let whole : take c.args.volumes.len (vs ++ drop (length vs) items) ≡ vs =
    take_at vs (drop (length vs) items) c.args.volumes.len (let here : length vs ≡ c.args.volumes.len = omega (arith, long, c.args.volumes.ok.0) in here) in
    let filled : AreFilled c.args.settings 0 vs (reverse c.pop.new.self.items) = are_filled c.args.settings 0 c.as_mut_slice.result.now vs (reverse c.pop.new.self.items)
    (subst (λ (l : List (Volume g.row.D.Denot g.row.D-Piece.Denot)). InOrder (IsEmptyVolume c.args.settings) 0 l) (sym c.as_mut_slice.ensures.value) c.requires.empty) c.fill_volumes.ensures in
    subst (λ (l : List (Volume g.row.D.Denot g.row.D-Piece.Denot)). let store : Open g.row.D.Denot
    g.row.D-Piece.Denot g.row.A.Denot = record { settings = c.args.settings; directory = c.new.result; volumes = l; arms = c.args.seats.items } in IsShaped store) (sym whole)
    (record { built = c.requires.built; directory = c.new.ensures.settings; many = long ∙ c.requires.many; volumes = filled.shape; lanes = c.requires.lanes })

pub returns-clause-shape : goal.returns-clause-shape
returns-clause-shape g c =
    let items = c.args.volumes.items in
    let vs = c.fill_volumes.new.volumes in
    let long : length vs ≡ length items = (let same = c.fill_volumes.auto.volumes in omega (arith, same, c.as_mut_slice.ensures.len, c.args.volumes.ok.0)) in
    let whole : take c.args.volumes.len (vs ++ drop (length vs) items) ≡ vs =
    take_at vs (drop (length vs) items) c.args.volumes.len (let here : length vs ≡ c.args.volumes.len = omega (arith, long, c.args.volumes.ok.0) in here) in
    let filled : AreFilled c.args.settings 0 vs (reverse c.pop.new.self.items) = are_filled c.args.settings 0 c.as_mut_slice.result.now vs (reverse c.pop.new.self.items)
    (subst (λ (l : List (Volume g.row.D.Denot g.row.D-Piece.Denot)). InOrder (IsEmptyVolume c.args.settings) 0 l) (sym c.as_mut_slice.ensures.value) c.requires.empty) c.fill_volumes.ensures in
    subst (λ (l : List (Volume g.row.D.Denot g.row.D-Piece.Denot)). let store : Open g.row.D.Denot
    g.row.D-Piece.Denot g.row.A.Denot = record { settings = c.args.settings; directory = c.new.result; volumes = l; arms = c.args.seats.items } in IsShaped store) (sym whole)
    (record { built = c.requires.built; directory = c.new.ensures.settings; many = long ∙ c.requires.many; volumes = filled.shape; lanes = c.requires.lanes })

pub unreachable-requires : goal.unreachable-requires
unreachable-requires g c =
    let no = (c.in_default.ensures).cases in
    omega (arith, no.0, c.reverse.ensures.len, c.requires.disks, c.args.disks.ok.0)

pub fill_volumes-requires : goal.fill_volumes-requires
fill_volumes-requires g c =
    let fewer = ap (λ (l : List g.row.D.Denot). length l) (c.in-Some.ensures).items ∙ length-append c.pop.new.self.items (c.in-Some.first ∷ []) in
    let same = ap (λ (l : List (Volume g.row.D.Denot g.row.D-Piece.Denot)). length l * c.args.settings.replicas) c.as_mut_slice.ensures.value in
    let many = ap (λ n. n * c.args.settings.replicas) c.requires.many in
    let enough : length c.pop.new.self.items ≡ length c.as_mut_slice.result.now * c.args.settings.replicas =
    omega (arith, fewer, c.reverse.ensures.len, c.reverse.new.self.ok.0, c.args.disks.ok.0, c.requires.disks, same, many) in
    record { empty = subst (λ (l : List (Volume g.row.D.Denot g.row.D-Piece.Denot)). InOrder (IsEmptyVolume c.args.settings) 0 l) (sym c.as_mut_slice.ensures.value) c.requires.empty; enough = enough }

pub returns-clause-closed : goal.returns-clause-closed
returns-clause-closed g c =
    let items = c.args.volumes.items in
    let vs = c.fill_volumes.new.volumes in
    let long : length vs ≡ length items = (let same = c.fill_volumes.auto.volumes in omega (arith, same, c.as_mut_slice.ensures.len, c.args.volumes.ok.0)) in
    let whole : take c.args.volumes.len (vs ++ drop (length vs) items) ≡ vs =
    take_at vs (drop (length vs) items) c.args.volumes.len (let here : length vs ≡ c.args.volumes.len = omega (arith, long, c.args.volumes.ok.0) in here) in
    let filled : AreFilled c.args.settings 0 vs (reverse c.pop.new.self.items) = are_filled c.args.settings 0 c.as_mut_slice.result.now vs (reverse c.pop.new.self.items)
    (subst (λ (l : List (Volume g.row.D.Denot g.row.D-Piece.Denot)). InOrder (IsEmptyVolume c.args.settings) 0 l) (sym c.as_mut_slice.ensures.value) c.requires.empty) c.fill_volumes.ensures in
    subst (λ (l : List (Volume g.row.D.Denot g.row.D-Piece.Denot)). AllByRecursion IsClosed l) (sym whole) filled.closed

pub returns-clause-unsure : goal.returns-clause-unsure
returns-clause-unsure g c =
    let items = c.args.volumes.items in
    let vs = c.fill_volumes.new.volumes in
    let long : length vs ≡ length items = (let same = c.fill_volumes.auto.volumes in omega (arith, same, c.as_mut_slice.ensures.len, c.args.volumes.ok.0)) in
    let whole : take c.args.volumes.len (vs ++ drop (length vs) items) ≡ vs =
    take_at vs (drop (length vs) items) c.args.volumes.len (let here : length vs ≡ c.args.volumes.len = omega (arith, long, c.args.volumes.ok.0) in here) in
    let filled : AreFilled c.args.settings 0 vs (reverse c.pop.new.self.items) = are_filled c.args.settings 0 c.as_mut_slice.result.now vs (reverse c.pop.new.self.items)
    (subst (λ (l : List (Volume g.row.D.Denot g.row.D-Piece.Denot)). InOrder (IsEmptyVolume c.args.settings) 0 l) (sym c.as_mut_slice.ensures.value) c.requires.empty) c.fill_volumes.ensures in
    subst (λ (l : List (Volume g.row.D.Denot g.row.D-Piece.Denot)). AllByRecursion (λ (v : Volume g.row.D.Denot g.row.D-Piece.Denot). v.unsure ≡ None) l) (sym whole) filled.sure

pub returns-clause-disks : goal.returns-clause-disks
returns-clause-disks g c =
    let items = c.args.volumes.items in
    let vs = c.fill_volumes.new.volumes in
    let long : length vs ≡ length items = (let same = c.fill_volumes.auto.volumes in omega (arith, same, c.as_mut_slice.ensures.len, c.args.volumes.ok.0)) in
    let whole : take c.args.volumes.len (vs ++ drop (length vs) items) ≡ vs =
    take_at vs (drop (length vs) items) c.args.volumes.len (let here : length vs ≡ c.args.volumes.len = omega (arith, long, c.args.volumes.ok.0) in here) in
    let filled : AreFilled c.args.settings 0 vs (reverse c.pop.new.self.items) = are_filled c.args.settings 0 c.as_mut_slice.result.now vs (reverse c.pop.new.self.items)
    (subst (λ (l : List (Volume g.row.D.Denot g.row.D-Piece.Denot)). InOrder (IsEmptyVolume c.args.settings) 0 l) (sym c.as_mut_slice.ensures.value) c.requires.empty) c.fill_volumes.ensures in
    ap (λ (l : List (Volume g.row.D.Denot g.row.D-Piece.Denot)). (c.new.result).disk ∷ flat_map volume_disks l) whole
    ∙ ap (λ (d : g.row.D.Denot). d ∷ flat_map volume_disks vs) c.new.ensures.disk
    ∙ ap (λ (l : List g.row.D.Denot). c.in-Some.first ∷ l) (sym filled.disks)
    ∙ first_turned c.args.disks.items c.reverse.new.self.items c.pop.new.self.items c.in-Some.first c.reverse.ensures.items (c.in-Some.ensures).items
