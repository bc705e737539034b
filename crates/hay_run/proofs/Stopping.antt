-- What was read, with which a run stops.
use Rattle.std.proofs.Common.{◌≡◌, ◌⊎◌, inl, inr, ℕ, ◌≤◌, Bool, List, length, Option, None, subst, lit≤}
use Rattle.std.specs.Prelude.{Result, Err, OnErr}
use Rattle.std.proofs.lemmas.Result.{IfErr-at_err}
use Rattle.hay_script.specs.declared.Line.{Line}
use Rattle.hay_script.specs.declared.Line.TheVariants as line
use Rattle.hay_legal.specs.Items.{Asked, outside}
use Rattle.hay_cluster.specs.Store.{Open}
use Rattle.hay_disk.specs.Streams.{WrotePart}
use Rattle.hay_run.specs.declared.stops.Stop.{Stop}
use Rattle.hay_run.specs.declared.stops.Stop.TheVariants as stop
use Rattle.hay_run.specs.declared.turns.TurnRead.{TurnRead}
use Rattle.hay_run.specs.declared.turns.TurnRead.TheVariants as read
use Rattle.hay_run.specs.Items.{TookItems}
use Rattle.hay_run.specs.Reads.{items_asked}
use Rattle.hay_run.specs.Stopping.{RefusedAsked, BrokeAsked}
use Rattle.hay_run.specs.Turns.{Writing, Standing, RefusesRestart, Broke}

-- a line asks for one thing at most
outside-one : (number : ℕ) (said : Line) → length (outside number said).0 ≤ 1
outside-one number line.Skip = lit≤ tt
outside-one number (line.Plain command) = lit≤ tt
outside-one number (line.Lanes lanes) = lit≤ tt
outside-one number line.Bad = lit≤ tt
outside-one number line.End = lit≤ tt
outside-one number (line.InLane lane command) = lit≤ tt

-- so does all that a turn reads
pub asked-one : (number : ℕ) (what : TurnRead) → length (items_asked number what) ≤ 1
asked-one number read.Nothing = lit≤ tt
asked-one number (read.Line said) = outside-one number said
asked-one number (read.Block block) = lit≤ tt

-- of two stops neither is a refusal of the store, and each is one of three
pub never_store : {T : Type 0} (r : Result T Stop) → OnErr r ((r ≡ Err stop.Output) ⊎ (r ≡ Err stop.NoMemory)) → r ≡ Err stop.Store → ⊥
never_store r kinds is = by (IfErr-at_err (λ (w : Stop). (r ≡ Err stop.Output) ⊎ (r ≡ Err stop.NoMemory)) is kinds)
  where
    by : (r ≡ Err stop.Output) ⊎ (r ≡ Err stop.NoMemory) → ⊥
    by (inl e) = cc
    by (inr e) = cc

-- what stops an answer stops no reading, and the other way round
pub not_reading : {T : Type 0} (r : Result T Stop) (why : Stop) → OnErr r ((r ≡ Err stop.Output) ⊎ (r ≡ Err stop.NoMemory) ⊎ (r ≡ Err stop.Store)) → r ≡ Err why
    → (why ≡ stop.Input) ⊎ (why ≡ stop.TooLong) → ⊥
not_reading r why kinds is reads = by (IfErr-at_err (λ (w : Stop). (r ≡ Err stop.Output) ⊎ (r ≡ Err stop.NoMemory) ⊎ (r ≡ Err stop.Store)) is kinds) reads
  where
    by : (r ≡ Err stop.Output) ⊎ (r ≡ Err stop.NoMemory) ⊎ (r ≡ Err stop.Store) → (why ≡ stop.Input) ⊎ (why ≡ stop.TooLong) → ⊥
    by (inl e) (inl f) = cc
    by (inl e) (inr f) = cc
    by (inr (inl e)) (inl f) = cc
    by (inr (inl e)) (inr f) = cc
    by (inr (inr e)) (inl f) = cc
    by (inr (inr e)) (inr f) = cc

pub not_answering : {T : Type 0} (r : Result T Stop) (why : Stop) → OnErr r ((r ≡ Err stop.Input) ⊎ (r ≡ Err stop.NoMemory) ⊎ (r ≡ Err stop.TooLong)) → r ≡ Err why
    → (why ≡ stop.Output) ⊎ (why ≡ stop.Store) → ⊥
not_answering r why kinds is answers = by (IfErr-at_err (λ (w : Stop). (r ≡ Err stop.Input) ⊎ (r ≡ Err stop.NoMemory) ⊎ (r ≡ Err stop.TooLong)) is kinds) answers
  where
    by : (r ≡ Err stop.Input) ⊎ (r ≡ Err stop.NoMemory) ⊎ (r ≡ Err stop.TooLong) → (why ≡ stop.Output) ⊎ (why ≡ stop.Store) → ⊥
    by (inl e) (inl f) = cc
    by (inl e) (inr f) = cc
    by (inr (inl e)) (inl f) = cc
    by (inr (inl e)) (inr f) = cc
    by (inr (inr e)) (inl f) = cc
    by (inr (inr e)) (inr f) = cc

pub three_kinds : {T : Type 0} (r : Result T Stop) → (r ≡ Err stop.Output) ⊎ (r ≡ Err stop.NoMemory) → (r ≡ Err stop.Output) ⊎ (r ≡ Err stop.NoMemory) ⊎ (r ≡ Err stop.Store)
three_kinds r (inl e) = inl e
three_kinds r (inr e) = inr (inl e)

module _ {D P A : Type 0} (Tells : Type 0) where
  pub refused_asked : (Writes : Writing) (Begins Left : Standing D P A) (number next : ℕ) (asked : List Asked) (store store' : Open D P A)
      (written written' before after : Option (List ℕ)) (ended : Bool)
      → TookItems number None before asked next after ended → RefusedAsked Tells Writes Begins Left number asked store written store' written'
      → RefusesRestart Tells Writes Begins Left store number before written store' after written'
  refused_asked Writes Begins Left number next asked store store' written written' before after ended took refused =
      let P : List Asked → Type 0 = λ all. TookItems number None before all next after ended in
      record {
        pick = refused.0;
        next = next;
        ended = ended;
        took = subst P refused.1 took;
        refused = refused.2;
      }

  pub broke_asked : (Begins Left : Standing D P A) (number next : ℕ) (asked : List Asked) (store store' : Open D P A) (written written' before after : Option (List ℕ)) (ended : Bool)
      → length asked ≤ 1 → TookItems number None before asked next after ended → BrokeAsked Tells Begins Left number asked store written store' written'
      → Broke Tells Begins Left store number before written store' after written'
  broke_asked Begins Left number next asked store store' written written' before after ended one took (inl answers) = inl (record {
    asked = asked;
    one = one;
    next = next;
    ended = ended;
    took = took;
    answers = answers;
  })
  broke_asked Begins Left number next asked store store' written written' before after ended one took (inr refused) =
      inr (refused_asked WrotePart Begins Left number next asked store store' written written' before after ended took refused)
