-- One line after another, from the first of a script.
use Rattle.std.proofs.Common.{◌≡◌, ◌⊎◌, ℕ, ◌<◌, Bool, false, List, [], ◌++◌, Option, Some, None, refl, sym, ap, subst, ◌∙◌, arith}
use Rattle.std.proofs.lemmas.List.{append-nil}
use Rattle.hay_needle.specs.declared.settings.Settings.{Settings}
use Rattle.hay_disk.specs.Disk.{Files}
use Rattle.hay_disk.specs.Streams.{Wrote}
use Rattle.hay_lines.specs.Stream.{IsReadToEnd}
use Rattle.hay_batch.specs.declared.replica.LoadReplica.{LoadReplica}
use Rattle.hay_batch.specs.declared.store.LoadStore.{LoadStore}
use Rattle.hay_batch.specs.declared.store.LoadVolume.{LoadVolume}
use Rattle.hay_batch.specs.Replicas.{At}
use Rattle.hay_batch.specs.Stores.{IsShaped, KeepsCounts, ReplicaAt}
use Rattle.hay_batch.proofs.Lists.{at_below, at_same}
use Rattle.hay_batch.proofs.Loading.{replica_there}
use Rattle.hay_load.specs.declared.batch.Gathered.{Gathered}
use Rattle.hay_load.specs.declared.loading.Loading.{Loading}
use Rattle.hay_load.specs.Gathering.{Group, OpenBatch, closed}
use Rattle.hay_load.specs.Loads.{held_of}
use Rattle.hay_loading.specs.declared.stops.Stop.{Stop}
use Rattle.hay_loading.specs.declared.stops.Stop.TheVariants as stop
use Rattle.hay_loading.specs.Endings.{IsFront, script_groups}
use Rattle.hay_loading.specs.Lines.{BreaksIn, ComeNext, Makes, ServesAll, ServesUntil, Stops, StopsIn, Takes, Told, TookWhole, rest_groups}
use Rattle.hay_loading.proofs.Reading.{makes_all, makes_more, next_more}
use Rattle.hay_loading.proofs.Taking.{count_end, told_more}
use Rattle.hay_loading.proofs.Whole.{breaks_off, breaks_whole, whole_more}

-- COUNTS

same_replica : {D : Type 0} (store : LoadStore D) (v j : ℕ) (r r' : LoadReplica D) → ReplicaAt store v j r → ReplicaAt store v j r' → r' ≡ r
same_replica {D} store v j r r' was is =
    let volume : is.0 ≡ was.0 = at_same store.volumes.items v is.0 was.0 is.1 was.1 in
    at_same was.0.replicas.items j r' r (subst (λ (w : LoadVolume D). At w.replicas.items j r') volume is.2) was.2

pub counts_same : {D : Type 0} (fault_count fuse_count : D → ℕ) (store : LoadStore D) → KeepsCounts fault_count fuse_count store store
counts_same {D} fault_count fuse_count store = record {
  directory = omega arith;
  directory_fuses = refl;
  replicas = λ v j r r' was is. let same = ap (λ (x : LoadReplica D). fault_count x.disk) (same_replica store v j r r' was is) in omega (arith, same);
  fuses = λ v j r r' was is. ap (λ (x : LoadReplica D). fuse_count x.disk) (same_replica store v j r r' was is);
}

pub counts_more : {D : Type 0} (fault_count fuse_count : D → ℕ) (old mid new : LoadStore D) → IsShaped old → IsShaped mid → mid.settings ≡ old.settings
    → KeepsCounts fault_count fuse_count old mid → KeepsCounts fault_count fuse_count mid new → KeepsCounts fault_count fuse_count old new
counts_more {D} fault_count fuse_count old mid new shape shape' same first second =
    let between : (v j : ℕ) (r : LoadReplica D) → ReplicaAt old v j r → (r' : LoadReplica D) × ReplicaAt mid v j r' = λ v j r there.
    let volumes : mid.settings.volumes ≡ old.settings.volumes = ap (λ (x : Settings). x.volumes) same in
    let replicas : mid.settings.replicas ≡ old.settings.replicas = ap (λ (x : Settings). x.replicas) same in
    let volume : v < mid.settings.volumes = (let below = at_below old.volumes.items v there.0 there.1 in let many = shape.volumes in omega (arith, below, many, volumes)) in
    let replica : j < mid.settings.replicas = (let below = at_below there.0.replicas.items j r there.2 in let many = shape.replicas v there.0 there.1 in omega (arith, below, many, replicas)) in
    replica_there mid v j shape' volume replica in
    record {
      directory = (let a = first.directory in let b = second.directory in omega (arith, a, b));
      directory_fuses = second.directory_fuses ∙ first.directory_fuses;
      replicas = λ v j r r'' was is. let m = between v j r was in let a = first.replicas v j r m.0 was m.1 in let b = second.replicas v j m.0 r'' m.1 is in omega (arith, a, b);
      fuses = λ v j r r'' was is. let m = between v j r was in second.fuses v j m.0 r'' m.1 is ∙ first.fuses v j r m.0 was m.1;
    }

-- LINES

module _ {D : Type 0} (Tells : Type 0) (files : D → Files) (first mid : Loading D) (number : ℕ) (left written rest middle : Option (List ℕ)) (same : mid.store.settings ≡ first.store.settings)
    (takes : Takes Tells files first 1 left written mid number rest middle false) where
  -- of the lines behind
  makes_same : (groups : List Group) (number' : ℕ) (new : Loading D) (rest' : Option (List ℕ)) → Makes mid.store.settings number (held_of mid.held) rest groups number' (held_of new.held) rest'
      → Makes first.store.settings number (held_of mid.held) rest groups number' (held_of new.held) rest'
  makes_same groups number' new rest' makes = subst (λ (x : Settings). Makes x number (held_of mid.held) rest groups number' (held_of new.held) rest') same makes

  pub takes_more : (new : Loading D) (number' : ℕ) (rest' written' : Option (List ℕ)) (ended : Bool) → Takes Tells files mid number rest middle new number' rest' written' ended → ended ≡ false
      → Takes Tells files first 1 left written new number' rest' written' false
  takes_more new number' rest' written' ended next unmet = record {
    groups = takes.groups ++ next.groups;
    whole = λ met. whole_more first.store.settings 1 (held_of first.held) number number' (held_of mid.held) (held_of new.held) left rest rest' takes.groups next.groups (takes.whole refl)
        (subst (λ (x : Settings). TookWhole x number (held_of mid.held) rest next.groups number' (held_of new.held) rest') same (next.whole unmet));
    makes = makes_more first.store.settings 1 number (held_of first.held) (held_of mid.held) left rest takes.groups next.groups takes.makes number' (held_of new.held) rest'
        (makes_same next.groups number' new rest' next.makes);
    told = told_more Tells files takes.groups next.groups first.store mid.store new.store written middle written' same takes.told next.told;
  }

  module _ (none : first.held ≡ None) where
    from_first : (script : List ℕ) → rest_groups first.store.settings 1 (held_of first.held) script ≡ script_groups first.store.settings script
    from_first script = ap (λ (h : Option Gathered). rest_groups first.store.settings 1 (held_of h) script) none

    whole_first : (script : List ℕ) → left ≡ Some script → TookWhole first.store.settings 1 None (Some script) takes.groups number (held_of mid.held) rest
    whole_first script told =
        let by : Option (List ℕ) → Option OpenBatch → Type 0 = λ l h. TookWhole first.store.settings 1 h l takes.groups number (held_of mid.held) rest in
        subst (λ (l : Option (List ℕ)). by l None) told (subst (λ (h : Option OpenBatch). by left h) (ap held_of none) (takes.whole refl))

    pub until_line : (faults fuses : D → ℕ) (why : Stop) (store' : LoadStore D) (written' after : Option (List ℕ)) → IsShaped mid.store → KeepsCounts faults fuses first.store mid.store
        → Stops Tells files faults why mid number rest middle store' written' after → ServesUntil Tells files faults fuses why left after first.store store' written written'
    until_line faults fuses why store' written' after shape counts s =
        let front : (script : List ℕ) → left ≡ Some script → IsFront (takes.groups ++ s.groups) (script_groups first.store.settings script) = λ script told.
        let next = subst (λ (x : Settings). ComeNext x number (held_of mid.held) rest s.groups) same s.next in
        subst (λ (l : List Group). IsFront (takes.groups ++ s.groups) l) (from_first script)
        (next_more first.store.settings 1 number (held_of first.held) (held_of mid.held) left rest takes.groups s.groups takes.makes next script told) in
        let broke : BreaksIn first.store.settings number (held_of mid.held) s.groups why rest after =
        subst (λ (x : Settings). BreaksIn x number (held_of mid.held) s.groups why rest after) same s.broke in
        record {
          groups = takes.groups;
          next = s.groups;
          broke = λ script told. breaks_off first.store.settings why number (held_of mid.held) script takes.groups s.groups rest after (whole_first script told) (front script told) broke;
          front = front;
          one = s.one;
          mid = mid.store;
          middle = middle;
          told = takes.told;
          settings = same;
          shape = shape;
          counts = counts;
          stops = s.stops;
        }

    -- the next line is the last
    module _ (new : Loading D) (number' : ℕ) (rest' middle' : Option (List ℕ)) (ended : Bool) (next : Takes Tells files mid number rest middle new number' rest' middle' ended)
        (over : IsReadToEnd rest rest') where
      pub groups_all : (script : List ℕ) → left ≡ Some script → script_groups first.store.settings script ≡ (takes.groups ++ next.groups) ++ closed (held_of new.held)
      groups_all script told =
          sym (from_first script)
          ∙ makes_all first.store.settings 1 number (held_of first.held) (held_of mid.held) left rest takes.groups next.groups takes.makes number' (held_of new.held) rest'
          (makes_same next.groups number' new rest' next.makes) over script told

      pub told_both : Told Tells files Wrote (takes.groups ++ next.groups) first.store new.store written middle'
      told_both = told_more Tells files takes.groups next.groups first.store mid.store new.store written middle middle' same takes.told next.told

      pub serves_all : (store' : LoadStore D) (written' : Option (List ℕ)) → new.store.settings ≡ first.store.settings
          → Told Tells files Wrote (closed (held_of new.held)) new.store store' middle' written'
          → ServesAll Tells files left first.store store' written written'
      serves_all store' written' same' last = record {
        groups = (takes.groups ++ next.groups) ++ closed (held_of new.held);
        all = λ script told. sym (groups_all script told);
        told = told_more Tells files (takes.groups ++ next.groups) (closed (held_of new.held)) first.store new.store store' written middle' written' same' told_both last;
      }

      pub until_end : (faults fuses : D → ℕ) (why : Stop) (store' : LoadStore D) (written' after : Option (List ℕ)) → new.store.settings ≡ first.store.settings → IsShaped new.store
          → KeepsCounts faults fuses first.store new.store → (why ≡ stop.Output) ⊎ (why ≡ stop.NoMemory) ⊎ (why ≡ stop.Store) → IsReadToEnd left after
          → StopsIn Tells files faults why (closed (held_of new.held)) new.store store' middle' written' → ServesUntil Tells files faults fuses why left after first.store store' written written'
      until_end faults fuses why store' written' after same' shape counts ends whole stops =
          let front : (script : List ℕ) → left ≡ Some script → IsFront ((takes.groups ++ next.groups) ++ closed (held_of new.held)) (script_groups first.store.settings script) = λ script told.
          ([], groups_all script told ∙ sym (append-nil ((takes.groups ++ next.groups) ++ closed (held_of new.held)))) in
          record {
            groups = takes.groups ++ next.groups;
            next = closed (held_of new.held);
            broke = λ script told. breaks_whole first.store.settings why script (takes.groups ++ next.groups) (closed (held_of new.held)) after ends
                (subst (λ (l : Option (List ℕ)). IsReadToEnd l after) told whole) (front script told);
            front = front;
            one = count_end (held_of new.held);
            mid = new.store;
            middle = middle';
            told = told_both;
            settings = same';
            shape = shape;
            counts = counts;
            stops = stops;
          }

-- THE SAME STORE

pub store_begun : {D : Type 0} (load : Loading D) (store : LoadStore D) → load ≡ record { store = store; held = None } → load.store ≡ store
store_begun {D} load store made = ap (λ (x : Loading D). x.store) made

pub serves_at : {D : Type 0} (Tells : Type 0) (files : D → Files) (left : Option (List ℕ)) (store other store' : LoadStore D) (written written' : Option (List ℕ)) → store ≡ other
    → ServesAll Tells files left store store' written written' → ServesAll Tells files left other store' written written'
serves_at {D} Tells files left store other store' written written' same serves = subst (λ (x : LoadStore D). ServesAll Tells files left x store' written written') same serves

pub until_at : {D : Type 0} (Tells : Type 0) (files : D → Files) (faults fuses : D → ℕ) (why : Stop) (left after : Option (List ℕ)) (store other store' : LoadStore D)
    (written written' : Option (List ℕ)) → store ≡ other
    → ServesUntil Tells files faults fuses why left after store store' written written' → ServesUntil Tells files faults fuses why left after other store' written written'
until_at {D} Tells files faults fuses why left after store other store' written written' same until = subst
    (λ (x : LoadStore D). ServesUntil Tells files faults fuses why left after x store' written written') same until

pub settings_at : {D : Type 0} (store other store' : LoadStore D) → store ≡ other → store'.settings ≡ store.settings → store'.settings ≡ other.settings
settings_at {D} store other store' same kept = kept ∙ ap (λ (x : LoadStore D). x.settings) same

pub counts_at : {D : Type 0} (faults fuses : D → ℕ) (store other store' : LoadStore D) → store ≡ other → KeepsCounts faults fuses store store' → KeepsCounts faults fuses other store'
counts_at {D} faults fuses store other store' same counts = subst (λ (x : LoadStore D). KeepsCounts faults fuses x store') same counts
