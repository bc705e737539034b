-- What was done at each status, by why the load stopped.
use Rattle.std.proofs.Common.{◌≡◌, ◌⊎◌, inl, inr, ℕ, List, Option, Result, Ok, Err, refl, sym, ap, ◌∙◌, arith}
use Rattle.std.specs.Prelude.{IsErrOf}
use Rattle.hay_needle.specs.declared.settings.Settings.{Settings}
use Rattle.hay_disk.specs.Shelf.{HeldDisk}
use Rattle.hay_loading.specs.declared.stops.Stop.{Stop}
use Rattle.hay_loading.specs.declared.stops.Stop.TheVariants as stop
use Rattle.hay_loading.specs.Endings.{Ends, IsStatus, LoadsTo}
use Rattle.hay_loading.specs.Stops.{status_of}

pub is_status : (why : Stop) (status : ℕ) → status ≡ status_of why → IsStatus status
is_status stop.Output status is = inr (inl is)
is_status stop.Input status is = inr (inr (inl is))
is_status stop.NoMemory status is = inr (inr (inr (inl is)))
is_status stop.Store status is = inr (inr (inr (inr (inl is))))
is_status stop.TooLong status is = inr (inr (inr (inr (inr is))))

-- the stops of two statuses
pub input_by : (why : Stop) → status_of why ≡ 4 → why ≡ stop.Input
input_by stop.Output is = absurd (omega (arith, is))
input_by stop.Input is = refl
input_by stop.NoMemory is = absurd (omega (arith, is))
input_by stop.Store is = absurd (omega (arith, is))
input_by stop.TooLong is = absurd (omega (arith, is))

pub long_by : (why : Stop) → status_of why ≡ 7 → why ≡ stop.TooLong
long_by stop.Output is = absurd (omega (arith, is))
long_by stop.Input is = absurd (omega (arith, is))
long_by stop.NoMemory is = absurd (omega (arith, is))
long_by stop.Store is = absurd (omega (arith, is))
long_by stop.TooLong is = refl

never_zero : (why : Stop) → status_of why ≡ 0 → ⊥
never_zero stop.Output is = omega (arith, is)
never_zero stop.Input is = omega (arith, is)
never_zero stop.NoMemory is = omega (arith, is)
never_zero stop.Store is = omega (arith, is)
never_zero stop.TooLong is = omega (arith, is)

abbrev pub stopped : Stop → Result (Unit {0}) Stop
stopped why = Err why

-- and of the statuses at which a script was read as far as it could be
pub read_by : (WasRead : Type 0) (why : Stop) (status : ℕ) → status ≡ status_of why → (status ≡ 0) ⊎ (status ≡ 4) ⊎ (status ≡ 7) ⊎ WasRead
    → IsErrOf (stopped why) stop.Input ⊎ IsErrOf (stopped why) stop.TooLong ⊎ WasRead
read_by WasRead why status is (inl zeroth) = absurd (never_zero why (sym is ∙ zeroth))
read_by WasRead why status is (inr (inl four)) = inl (ap stopped (input_by why (sym is ∙ four)))
read_by WasRead why status is (inr (inr (inl seven))) = inr (inl (ap stopped (long_by why (sym is ∙ seven))))
read_by WasRead why status is (inr (inr (inr read))) = inr (inr read)

module _ (Tells : Type 0) (settings : Settings) (script : List ℕ) (old new : ℕ → HeldDisk) (shelf shelf' : ℕ) (before after rest : Option (List ℕ)) where
  pub to_all : Ends Tells settings script old new shelf shelf' before after rest (Ok tt) → LoadsTo Tells settings script old new shelf shelf' before after rest 0
  to_all ends = record {
    all = λ is. ends;
    output = λ is. absurd (omega (arith, is));
    input = λ is. absurd (omega (arith, is));
    memory = λ is. absurd (omega (arith, is));
    store = λ is. absurd (omega (arith, is));
    long = λ is. absurd (omega (arith, is));
  }

  pub to_stop : (why : Stop) (status : ℕ) → status ≡ status_of why → Ends Tells settings script old new shelf shelf' before after rest (Err why)
      → LoadsTo Tells settings script old new shelf shelf' before after rest status
  to_stop stop.Output status three ends = record {
    all = λ is. absurd (omega (arith, is, three));
    output = λ is. ends;
    input = λ is. absurd (omega (arith, is, three));
    memory = λ is. absurd (omega (arith, is, three));
    store = λ is. absurd (omega (arith, is, three));
    long = λ is. absurd (omega (arith, is, three));
  }
  to_stop stop.Input status four ends = record {
    all = λ is. absurd (omega (arith, is, four));
    output = λ is. absurd (omega (arith, is, four));
    input = λ is. ends;
    memory = λ is. absurd (omega (arith, is, four));
    store = λ is. absurd (omega (arith, is, four));
    long = λ is. absurd (omega (arith, is, four));
  }
  to_stop stop.NoMemory status five ends = record {
    all = λ is. absurd (omega (arith, is, five));
    output = λ is. absurd (omega (arith, is, five));
    input = λ is. absurd (omega (arith, is, five));
    memory = λ is. ends;
    store = λ is. absurd (omega (arith, is, five));
    long = λ is. absurd (omega (arith, is, five));
  }
  to_stop stop.Store status six ends = record {
    all = λ is. absurd (omega (arith, is, six));
    output = λ is. absurd (omega (arith, is, six));
    input = λ is. absurd (omega (arith, is, six));
    memory = λ is. absurd (omega (arith, is, six));
    store = λ is. ends;
    long = λ is. absurd (omega (arith, is, six));
  }
  to_stop stop.TooLong status seven ends = record {
    all = λ is. absurd (omega (arith, is, seven));
    output = λ is. absurd (omega (arith, is, seven));
    input = λ is. absurd (omega (arith, is, seven));
    memory = λ is. absurd (omega (arith, is, seven));
    store = λ is. absurd (omega (arith, is, seven));
    long = λ is. ends;
  }
