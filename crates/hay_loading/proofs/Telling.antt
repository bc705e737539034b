-- What was told of groups, by what a load of them answered and by what was written.
use Rattle.std.proofs.Common.{◌≡◌, ◌≢◌, ◌⊎◌, inl, inr, ℕ, ◌<◌, List, [], ◌++◌, length, Option, Result, Ok, Err, refl, ap, subst, ◌∙◌, arith}
use Rattle.std.specs.Prelude.{IsErrOf, IsOk, OnErr, OnOk}
use Rattle.std.proofs.lemmas.Bool.{false≢true}
use Rattle.std.proofs.lemmas.Result.{IfErr-at_err}
use Rattle.hay_disk.specs.Disk.{Files}
use Rattle.hay_disk.specs.Streams.{Wrote, WrotePart}
use Rattle.hay_batch.specs.declared.store.LoadStore.{LoadStore}
use Rattle.hay_load.specs.declared.loading.LoadEnd.{LoadEnd}
use Rattle.hay_load.specs.Answers.{reply_lines}
use Rattle.hay_load.specs.Gathering.{Group}
use Rattle.hay_load.specs.Loads.{FailsFirst, Loads}
use Rattle.hay_loading.specs.declared.stops.Stop.{Stop}
use Rattle.hay_loading.specs.declared.stops.Stop.TheVariants as stop
use Rattle.hay_loading.specs.Lines.{FailsTold, Leaves, StopsIn, Told, Writing}

ok_gives : {T E : Type 0} (r : Result T E) (P : Type 0) → OnOk r P → IsOk r → P
ok_gives (Ok x) P on ok = on
ok_gives (Err e) P on ok = absurd (false≢true ok)

pub on_ok_always : {T E : Type 0} (r : Result T E) (P : Type 0) → P → OnOk r P
on_ok_always (Ok x) P p = p
on_ok_always (Err e) P p = tt

abbrev Answer : Type 0
Answer = Result (Unit {0}) Stop

-- none of the others
other_stop : (r : Answer) (why : Stop) (P : Type 0) → r ≡ Err why → OnErr r P → P
other_stop r why P is stops = IfErr-at_err (λ (x : Stop). P) is stops

-- the stop of an answer, by what the answer is
stop_by : (r : Answer) (why : Stop) → r ≡ Err why → (r ≡ Err stop.Output) ⊎ (r ≡ Err stop.NoMemory) ⊎ (r ≡ Err stop.Store) → (why ≡ stop.Output) ⊎ (why ≡ stop.NoMemory) ⊎ (why ≡ stop.Store)
stop_by r why is (inl e) = inl cc
stop_by r why is (inr (inl e)) = inr (inl cc)
stop_by r why is (inr (inr e)) = inr (inr cc)

pub told_stop : (r : Answer) (why : Stop) → r ≡ Err why → OnErr r ((r ≡ Err stop.Output) ⊎ (r ≡ Err stop.NoMemory) ⊎ (r ≡ Err stop.Store))
    → (why ≡ stop.Output) ⊎ (why ≡ stop.NoMemory) ⊎ (why ≡ stop.Store)
told_stop r why is stops = stop_by r why is (other_stop r why ((r ≡ Err stop.Output) ⊎ (r ≡ Err stop.NoMemory) ⊎ (r ≡ Err stop.Store)) is stops)

module _ {D : Type 0} (Tells : Type 0) (files : D → Files) (fault_count : D → ℕ) (groups : List Group) (old new : LoadStore D) (written written' : Option (List ℕ))
    (told : Result (Unit {0}) LoadEnd) (empty text slice : List ℕ)
    (none : empty ≡ []) (same : slice ≡ text) (loads : OnOk told (Loads Tells files groups old new empty text)) where
  told_of : (Writes : Writing) → IsOk told → Writes written slice written' → Told Tells files Writes groups old new written written'
  told_of Writes ok wrote = record {
    text = text;
    loads = subst (λ (l : List ℕ). Loads Tells files groups old new l text) none (ok_gives told (Loads Tells files groups old new empty text) loads ok);
    wrote = subst (λ (l : List ℕ). Writes written l written') same wrote;
  }

  -- where there was something to write
  some_of : IsOk told → 0 < length slice → groups ≢ []
  some_of ok some nothing =
      let done = ok_gives told (Loads Tells files groups old new empty text) loads ok in
      let lines : reply_lines groups done.replies ≡ [] = ap (λ (l : List Group). reply_lines l done.replies) nothing in
      let no_text : text ≡ [] = done.told ∙ ap (λ (l : List ℕ). empty ++ l) lines ∙ ap (λ (l : List ℕ). l ++ []) none in
      let length_is = ap (λ (l : List ℕ). length l) (same ∙ no_text) in
      omega (arith, some, length_is)

  pub told_all : (r : Answer) → OnOk r (IsOk told × Wrote written slice written') → OnOk r (Told Tells files Wrote groups old new written written')
  told_all (Ok done) w = told_of Wrote w.0 w.1
  told_all (Err why) w = tt

  module _ (failed : IsErrOf told LoadEnd.Failed → FailsFirst fault_count groups old new empty text) (leaves : Leaves Tells files groups old new) where
    fails_of : (Writes : Writing) → IsErrOf told LoadEnd.Failed → Writes written slice written' → FailsTold Tells files fault_count Writes groups old new written written'
    fails_of Writes is wrote = record {
      text = text;
      fails = subst (λ (l : List ℕ). FailsFirst fault_count groups old new l text) none (failed is);
      wrote = subst (λ (l : List ℕ). Writes written l written') same wrote;
      leaves = leaves;
    }

    pub stops_in : (r : Answer) → (r ≡ Err stop.Store → IsErrOf told LoadEnd.Failed × Wrote written slice written') → (r ≡ Err stop.NoMemory → written' ≡ written)
        → (r ≡ Err stop.Output → (IsOk told ⊎ IsErrOf told LoadEnd.Failed) × WrotePart written slice written' × (0 < length slice))
        → OnErr r ((r ≡ Err stop.Output) ⊎ (r ≡ Err stop.NoMemory) ⊎ (r ≡ Err stop.Store)) → (why : Stop) → r ≡ Err why → StopsIn Tells files fault_count why groups old new written written'
    stops_in r store memory output stops stop.Output is =
        let part = output is in
        elim part.0 [
          | inl ok ↦ inl (told_of WrotePart ok part.1, some_of ok part.2)
          | inr fails ↦ inr (fails_of WrotePart fails part.1)
        ]
    stops_in r store memory output stops stop.NoMemory is = (leaves, memory is)
    stops_in r store memory output stops stop.Store is = let whole = store is in fails_of Wrote whole.0 whole.1
    stops_in r store memory output stops stop.Input is = elim (other_stop r stop.Input ((r ≡ Err stop.Output) ⊎ (r ≡ Err stop.NoMemory) ⊎ (r ≡ Err stop.Store)) is stops) [
      | inl e ↦ absurd cc
      | inr (inl e) ↦ absurd cc
      | inr (inr e) ↦ absurd cc
    ]
    stops_in r store memory output stops stop.TooLong is = elim (other_stop r stop.TooLong ((r ≡ Err stop.Output) ⊎ (r ≡ Err stop.NoMemory) ⊎ (r ≡ Err stop.Store)) is stops) [
      | inl e ↦ absurd cc
      | inr (inl e) ↦ absurd cc
      | inr (inr e) ↦ absurd cc
    ]

-- no line was read
pub read_stops : {D X : Type 0} (Tells : Type 0) (files : D → Files) (fault_count : D → ℕ) (store : LoadStore D) (written : Option (List ℕ)) (r : Result X Stop) (why : Stop) → r ≡ Err why
    → OnErr r ((r ≡ Err stop.Input) ⊎ (r ≡ Err stop.NoMemory) ⊎ (r ≡ Err stop.TooLong)) → Leaves Tells files [] store store → StopsIn Tells files fault_count why [] store store written written
read_stops Tells files fault_count store written r stop.Input is stops leaves = (refl, refl)
read_stops Tells files fault_count store written r stop.NoMemory is stops leaves = (leaves, refl)
read_stops Tells files fault_count store written r stop.TooLong is stops leaves = (refl, refl)
read_stops Tells files fault_count store written r stop.Output is stops leaves = elim (IfErr-at_err (λ (x : Stop). (r ≡ Err stop.Input) ⊎ (r ≡ Err stop.NoMemory) ⊎ (r ≡ Err stop.TooLong)) is stops) [
  | inl e ↦ absurd cc
  | inr (inl e) ↦ absurd cc
  | inr (inr e) ↦ absurd cc
]
read_stops Tells files fault_count store written r stop.Store is stops leaves = elim (IfErr-at_err (λ (x : Stop). (r ≡ Err stop.Input) ⊎ (r ≡ Err stop.NoMemory) ⊎ (r ≡ Err stop.TooLong)) is stops) [
  | inl e ↦ absurd cc
  | inr (inl e) ↦ absurd cc
  | inr (inr e) ↦ absurd cc
]
