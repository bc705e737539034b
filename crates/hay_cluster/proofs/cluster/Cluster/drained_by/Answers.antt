use Rattle.std.proofs.Common.{◌≡◌, ℕ, Bool, false, Option, Some, None, map, sym, ap, subst, ◌∙◌, arith}
use Rattle.std.specs.Prelude.{find, slice_index_or}
use Rattle.hay_legal.specs.Known.{machine_of, replicas_of}
use Rattle.hay_cluster.specs.Store.{Open}
use Rattle.hay_legal.proofs.Finds.{map_hit, map_none}
use Rattle.hay_legal.proofs.Machines.{below_next}
use Rattle.hay_cluster.proofs.cluster.Cluster.drained_by.Goals as goal

pub returns-then-drained : goal.returns-then-drained
returns-then-drained g c =
    let store : Open g.row.D.Denot g.row.D-Piece.Denot g.row.A.Denot = record {
      settings = c.self.inside.settings;
      directory = c.self.inside.directory;
      volumes = c.self.inside.volumes.items;
      arms = c.self.inside.seats.items;
    } in
    let test : ℕ → Bool = λ m. slice_index_or (store.directory).drained m false in
    let machine = machine_of store.settings c.args.volume in
    let hit = map_hit test machine (store.settings).replicas c.loop-replica.replica c.loop-replica-test.true
    (ap test (sym c.machine_of-machine.ensures.is) ∙ sym c.drained.ensures.is ∙ c.if-drained.true) c.loop-replica.invariant in
    let found : Option ℕ → Type 0 = λ o. o ≡ find test (map machine (replicas_of store.settings)) in
    let here : Some c.machine_of-machine.result ≡ find test (map machine (replicas_of store.settings)) = ap (λ m. Some m) c.machine_of-machine.ensures.is ∙ sym hit in
    subst (λ (st : Open g.row.D.Denot g.row.D-Piece.Denot g.row.A.Denot). Some c.machine_of-machine.result
    ≡ find (λ m. slice_index_or (st.directory).drained m false) (map (machine_of st.settings c.args.volume) (replicas_of st.settings))) c.self.view_is here

pub loop-replica-preserved : goal.loop-replica-preserved
loop-replica-preserved g c =
    let store : Open g.row.D.Denot g.row.D-Piece.Denot g.row.A.Denot = record {
      settings = c.self.inside.settings;
      directory = c.self.inside.directory;
      volumes = c.self.inside.volumes.items;
      arms = c.self.inside.seats.items;
    } in
    below_next (λ i. slice_index_or (store.directory).drained (machine_of store.settings c.args.volume i) false) c.loop-replica.replica c.loop-replica.invariant
    (ap (λ m. slice_index_or (store.directory).drained m false) (sym c.machine_of-machine.ensures.is) ∙ sym c.drained.ensures.is ∙ c.if-drained.false)

pub returns : goal.returns
returns g c =
    let store : Open g.row.D.Denot g.row.D-Piece.Denot g.row.A.Denot = record {
      settings = c.self.inside.settings;
      directory = c.self.inside.directory;
      volumes = c.self.inside.volumes.items;
      arms = c.self.inside.seats.items;
    } in
    let test : ℕ → Bool = λ m. slice_index_or (store.directory).drained m false in
    let missed : None ≡ find test (map (machine_of store.settings c.args.volume) (replicas_of store.settings)) =
    sym (map_none test (machine_of store.settings c.args.volume) (store.settings).replicas (λ i below. c.loop-replica.invariant i (omega (arith, below, c.loop-replica-test.false)))) in
    subst (λ (st : Open g.row.D.Denot g.row.D-Piece.Denot g.row.A.Denot). None ≡ find (λ m. slice_index_or (st.directory).drained m false)
    (map (machine_of st.settings c.args.volume) (replicas_of st.settings))) c.self.view_is missed
