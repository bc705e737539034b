-- What a store remembers as it was opened.
use Rattle.std.proofs.Common.{◌≡◌, ◌<◌, ℕ, List, Option, Some, None, sym, ap, subst, ◌∙◌, arith}
use Rattle.std.specs.List.{slice_get}
use Rattle.hay_needle.specs.declared.settings.Settings.{Settings}
use Rattle.hay_batch.specs.declared.replica.LoadReplica.{LoadReplica}
use Rattle.hay_batch.specs.declared.store.LoadStore.{LoadStore}
use Rattle.hay_batch.specs.declared.store.LoadVolume.{LoadVolume}
use Rattle.hay_batch.specs.Shelves.{RecallsEnd, RecallsRows, replica_super, slot_of}
use Rattle.hay_batch.specs.Stores.{IsShaped, ReplicaAt}
use Rattle.hay_batch.proofs.Loading.{replica_there}
use Rattle.hay_load.specs.Answers.{Remembered, counted}
use Rattle.hay_load.specs.Loads.{Remembers}
use Rattle.hay_loading.specs.Endings.{Begins}

-- where the cells of each replica end
end_in : {D : Type 0} → Option (LoadReplica D) → ℕ
end_in None = 0
end_in (Some r) = r.volume.end

ends_in : {D : Type 0} → Option (LoadVolume D) → ℕ → ℕ
ends_in None j = 0
ends_in (Some w) j = end_in (slice_get w.replicas.items j)

pub ends_of : {D : Type 0} → LoadStore D → ℕ → ℕ → ℕ
ends_of store v j = ends_in (slice_get store.volumes.items v) j

end_at : {D : Type 0} (store : LoadStore D) (v j : ℕ) (r : LoadReplica D) → ReplicaAt store v j r → r.volume.end ≡ ends_of store v j
unfolding end_in ends_in ends_of
end_at {D} store v j r there = sym (ap (λ (w : Option (LoadVolume D)). ends_in w j) there.1 ∙ ap (λ (x : Option (LoadReplica D)). end_in x) there.2)

module _ {D : Type 0} (Tells : Type 0) (settings : Settings) (contents : ℕ → ℕ → List ℕ) (store : LoadStore D) (same : store.settings ≡ settings) (shape : IsShaped store)
    (rows : RecallsRows Tells settings (contents 0 0) store.directory.homes store.directory.rows)
    (ends : (v j : ℕ) (r : LoadReplica D) → ReplicaAt store v j r → RecallsEnd Tells (replica_super settings v j) (contents (slot_of settings v j)) r.volume) where
  there : (v j : ℕ) → v < settings.volumes → j < settings.replicas → (r : LoadReplica D) × ReplicaAt store v j r
  there v j below low = replica_there store v j shape (subst (λ (s : Settings). v < s.volumes) (sym same) below) (subst (λ (s : Settings). j < s.replicas) (sym same) low)

  abbrev pub first_of : Remembered
  first_of = record { rows = rows.rows; ends = ends_of store }

  pub begins_first : Begins Tells settings contents first_of
  unfolding there
  begins_first = record {
    within = rows.within;
    reads = rows.reads;
    from = λ v j below low.
        let r = there v j below low in
        let from = (ends v j r.0 r.1).from in
        let end = end_at store v j r.0 r.1 in
        omega (arith, from, end);
    found = λ tells v j s below low opens. let r = there v j below low in sym (end_at store v j r.0 r.1) ∙ (ends v j r.0 r.1).found tells s opens;
  }

  pub remembers_first : Remembers store first_of
  remembers_first = record {
    homes = rows.are;
    count = ap (λ (n : ℕ). counted n) rows.many;
    ends = end_at store;
    rooms = λ v j r at. (ends v j r at).room ∙ ap (λ (s : Settings). s.capacity) (sym same);
  }
