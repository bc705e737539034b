-- What each line's reply says of the counts, by its steps: which steps its counts are charged to, and what is laid to its arm.
use Rattle.std.proofs.Common.{◌≡◌, ◌⊎◌, ℕ, ◌≤◌, ◌+◌, ◌-◌, ◌^◌, Bool, true, false, List, [], ◌∷◌, ◌++◌, count_by, Contains, Option, Some, None, refl, sym, ap, subst, ◌∙◌, inl, inr, arith, unwrap_or}
use Rattle.std.specs.List.{AllByRecursion as Each, AllZip}
use Rattle.std.proofs.lemmas.List.Elements.{Contains-push}
use Rattle.hay_needle.specs.declared.needle.Pair.{Pair}
use Rattle.hay_needle.specs.declared.needle.Cookie.{Cookie}
use Rattle.hay_disk.specs.Counts.{Rose}
use Rattle.hay_url.specs.declared.Url.{Url as UrlParts}
use Rattle.hay_script.specs.declared.Command.TheVariants as command
use Rattle.hay_reply.specs.declared.Cause.{Cause}
use Rattle.hay_reply.specs.declared.Cause.TheVariants.{Arm, Disk, Damage}
use Rattle.hay_reply.specs.declared.Passed.{Passed}
use Rattle.hay_reply.specs.declared.Reply.{Reply}
use Rattle.hay_reply.specs.declared.Reply.TheVariants as reply
use Rattle.hay_core.specs.declared.entry.Entry.TheVariants as entry
use Rattle.hay_legal.specs.declared.turn.Item.{Item}
use Rattle.hay_legal.specs.declared.turn.Item.TheVariants as asks
use Rattle.hay_legal.specs.Known.{EachPair, machine_of, replica_on}
use Rattle.hay_legal.specs.Plain.{ArmRises, order_from, put_entry, start_of}
use Rattle.hay_legal.specs.Blocks.{before_machine}
use Rattle.hay_history.specs.LaneSteps.{Did, RowStep, Step}
use Rattle.hay_history.specs.LaneSteps.Did.{Ends, Fuses, Pends, Poises, Sticks, Tries}
use Rattle.hay_history.proofs.Trying.{changed, changed_row}
use Rattle.hay_history.specs.Histories.{Course, OneStep, OneTry, changes, own, own_rows, rows_standing}
use Rattle.hay_history.specs.Commands.{CompactDid, CompactFailed, DelDid, FlushDid, GetDid, ItemDid, LookFailed, OnlyLooks, PassedFor, PassedOver, PutDid, RanAs, RanUntil, RoseIn, ShowDid, UrlDid}
use Rattle.hay_history.proofs.Lists.{each_in, each_weaker, zip_weaker}
use Rattle.hay_history.proofs.Placing.{order_apart, zip_choice}

-- CHARGES

-- a step that ends no run, unless it freezes the volume
abbrev pub is_quiet : Did → Bool
is_quiet Tries = true
is_quiet (Pends m change failed) = true
is_quiet (Sticks j) = true
is_quiet (Poises m j) = true
is_quiet (Fuses j) = true
is_quiet _ = false

pub record QuietStep (c : Course) (v place : ℕ) : Type 0 where
  pub step : Step
  pub among : Contains (own c v) (place, step)
  pub quiet : is_quiet step.did ≡ true

-- the line's run of a replica ended in this step
abbrev pub EndedRun : Course → ℕ → ℕ → ℕ → Type 0
EndedRun c v j place =
    ((ends : RanAs c v j (Ends j)) × (ends.place ≡ place)) ⊎ ((f : ℕ) × (until : RanUntil c v j f) × ((until.ran).until ≡ place))

-- A count of a disk that a line prints, or a replica that is laid to its disk, is charged to a step of the volume.
pub record Charge (c : Course) (v j f : ℕ) : Type 0 where
  pub place : ℕ
  pub rose : RoseIn c v place j f
  pub how : QuietStep c v place ⊎ EndedRun c v j place

pub step_charge : (c : Course) (v j f : ℕ) (did : Did) (one : OneStep c v did) → is_quiet did ≡ true → RoseIn c v one.place j f → Charge c v j f
step_charge c v j f did one quiet rose = record {
  place = one.place;
  rose = rose;
  how = inl (record {
    step = one.step;
    among = changed c v (one.place, one.step) (subst (λ (l : List (ℕ × Step)). Contains l (one.place, one.step)) (sym one.only) (0, omega arith, refl));
    quiet = ap is_quiet one.is ∙ quiet;
  });
}

pub try_charge : (c : Course) (v j f : ℕ) (one : OneTry c v) → RoseIn c v one.place j f → Charge c v j f
try_charge c v j f one rose = record { place = one.place; rose = rose; how = inl (record { step = one.step; among = one.among; quiet = ap is_quiet one.is }) }

pub look_charge : (c : Course) (v j f : ℕ) → OnlyLooks c v → LookFailed c v j f → Charge c v j f
look_charge c v j f looks failed = record {
  place = (failed.0).0;
  rose = failed.2;
  how = inl (record {
    step = (failed.0).1;
    among = failed.1;
    quiet = ap is_quiet (each_in (λ (at : ℕ × Step). (at.1).did ≡ Tries) (own c v) failed.0 looks.2 failed.1);
  });
}

-- WHAT A LINE IS LAID TO

-- replicas that were passed over, each laid to the arm or charged to its disk
pub record LaidOver (c : Course) (v : ℕ) (to_arm : ℕ → Bool) (passed : List ℕ) : Type 0 where
  pub arm : ((c.from).arm + count_by to_arm passed ≤ (c.to).arm) ⊎ ((c.to).arm ≡ 2 ^ 64 - 1)
  pub disks : Each (λ j. (to_arm j ≡ true) ⊎ ((f : ℕ) × Charge c v j f)) passed

abbrev pub is_arm : Cause → Bool
is_arm (Arm f) = true
is_arm _ = false

abbrev pub ChargedFor : Course → ℕ → ℕ → Cause → Type 0
ChargedFor c v j (Arm f) = PassedFor c v j (Arm f)
ChargedFor c v j (Disk f) = Charge c v j f
ChargedFor c v j (Damage at) = ⊥

abbrev pub LaidAs : Course → ℕ → (ℕ → Bool) → ℕ → Passed → Type 0
LaidAs c v to_arm j passed = (to_arm j ≡ is_arm passed.cause) × ((passed.machine ≡ machine_of c.settings v j) × ChargedFor c v j passed.cause)

pub record LaidAll (c : Course) (start v : ℕ) (to_arm : ℕ → Bool) (causes : List Passed) : Type 0 where
  pub each : AllZip (LaidAs c v to_arm) (order_from c.settings start) causes
  pub arms : EachPair (λ a b. ArmRises a.cause b.cause) causes

-- a count of the Directory's disk is charged to a step of the line's own
pub record RowCharge (c : Course) (f : ℕ) : Type 0 where
  pub place : ℕ
  pub step : RowStep
  pub among : Contains (own_rows c) (place, step)
  pub rose : Rose (rows_standing c place).faults (rows_standing c (place + 1)).faults
  pub printed : f ≡ (rows_standing c (place + 1)).faults

abbrev pub Laid : Course → ℕ → (ℕ → Bool) → Reply → Type 0
Laid c start to_arm (reply.Photo v m p d bytes) = LaidOver c v to_arm (before_machine c.settings start v m)
Laid c start to_arm (reply.Gone v m p d) = LaidOver c v to_arm (before_machine c.settings start v m)
Laid c start to_arm (reply.WrongCookie v m p d) = LaidOver c v to_arm (before_machine c.settings start v m)
Laid c start to_arm (reply.Unreadable v p d causes) = LaidAll c start v to_arm causes
Laid c start to_arm (reply.Failed v m f) = (j : ℕ) × (replica_on c.settings v m ≡ Some j) × Charge c v j f
Laid c start to_arm (reply.FailedDir f) = RowCharge c f
Laid c start to_arm _ = Unit {0}

abbrev pub LaidSo : Course → ℕ → Reply → Type 0
LaidSo c start r = (to_arm : ℕ → Bool) × Laid c start to_arm r

-- READS

none_to_arm : ℕ → Bool
none_to_arm j = false

over_laid : (c : Course) (v : ℕ) (passed : List ℕ) (over : PassedOver c v passed) → OnlyLooks c v → LaidOver c v over.to_arm passed
over_laid c v passed over looks = record {
  arm = over.arm;
  disks =
      each_weaker (λ j. (over.to_arm j ≡ true) ⊎ ((f : ℕ) × LookFailed c v j f)) (λ j. (over.to_arm j ≡ true) ⊎ ((f : ℕ) × Charge c v j f))
      (λ j h. elim h [ inl arm ↦ inl arm | inr disk ↦ inr (disk.0, look_charge c v j disk.0 looks disk.1) ])
      passed over.disks;
}

cause_charged : (c : Course) (v j : ℕ) (cause : Cause) → OnlyLooks c v → PassedFor c v j cause → ChargedFor c v j cause
cause_charged c v j (Arm f) looks h = h
cause_charged c v j (Disk f) looks h = look_charge c v j f looks h
cause_charged c v j (Damage at) looks h = h

none_laid : (c : Course) (start : ℕ) (v : ℕ) (causes : List Passed) → AllZip (λ j passed. (passed.machine ≡ machine_of c.settings v j) × PassedFor c v j passed.cause)
    (order_from c.settings start) causes
    → EachPair (λ a b. ArmRises a.cause b.cause) causes → OnlyLooks c v → (to_arm : ℕ → Bool) × LaidAll c start v to_arm causes
none_laid c start v causes each arms looks =
    let charged = zip_weaker (λ j passed. (passed.machine ≡ machine_of c.settings v j) × PassedFor c v j passed.cause)
    (λ j passed. (passed.machine ≡ machine_of c.settings v j) × ChargedFor c v j passed.cause) (order_from c.settings start) causes
    (λ j passed among h. (h.0, cause_charged c v j passed.cause looks h.1)) each in
    let chosen = zip_choice (λ j passed. (passed.machine ≡ machine_of c.settings v j) × ChargedFor c v j passed.cause) (λ passed. is_arm passed.cause)
    (order_from c.settings start) causes (order_apart c.settings start) charged in
    (chosen.0, record { each = chosen.1; arms = arms })

show_laid : (c : Course) (start : ℕ) (pair : Pair) (cookie : Cookie) (r : Reply) → ShowDid c start pair cookie r → LaidSo c start r
show_laid c start pair cookie (reply.Photo v m p d bytes) h = ((h.passed).to_arm, over_laid c v (before_machine c.settings start v m) h.passed h.looks)
show_laid c start pair cookie (reply.Gone v m p d) h = ((h.passed).to_arm, over_laid c v (before_machine c.settings start v m) h.passed h.looks)
show_laid c start pair cookie (reply.WrongCookie v m p d) h = (((h.3).passed).to_arm, over_laid c v (before_machine c.settings start v m) (h.3).passed (h.3).looks)
show_laid c start pair cookie (reply.Unreadable v p d causes) h = none_laid c start v causes h.each h.arms h.looks
show_laid c start pair cookie reply.NoMem h = (none_to_arm, tt)
show_laid c start pair cookie r h = search (none_to_arm)

get_laid : (c : Course) (url : UrlParts) (on : Option ℕ) (r : Reply) → GetDid c url on r → LaidSo c (unwrap_or on 0) r
get_laid c url None reply.NoMem h = (none_to_arm, tt)
get_laid c url None r h = search (none_to_arm)
get_laid c url (Some start) (reply.Moved v d) h = (none_to_arm, tt)
get_laid c url (Some start) reply.NoMem h = (none_to_arm, tt)
get_laid c url (Some start) r h = show_laid c start url.pair url.cookie r h.0

-- THE OTHER COMMANDS

put_laid : (c : Course) (start : ℕ) (pair : Pair) (bytes : List ℕ) (r : Reply) → PutDid c pair bytes r → LaidSo c start r
put_laid c start pair bytes (reply.Failed v m f) h =
    (none_to_arm, ((h.failed).0, (h.failed).1, step_charge c v (h.failed).0 f (Pends m (put_entry c.settings pair bytes) true) h.step refl (h.failed).2))
put_laid c start pair bytes (reply.FailedDir f) h =
    let pends = (h.pends).step in (
      none_to_arm,
      record {
        place = pends.place;
        step = pends.step;
        among = changed_row c (pends.place, pends.step) (subst (λ (l : List (ℕ × RowStep)). Contains l (pends.place, pends.step)) (sym pends.only) (0, omega arith, refl));
        rose = h.rose;
        printed = h.printed;
      },
    )
put_laid c start pair bytes reply.NoMem h = (none_to_arm, tt)
put_laid c start pair bytes r h = search (none_to_arm)

del_laid : (c : Course) (start : ℕ) (pair : Pair) (r : Reply) → DelDid c pair r → LaidSo c start r
del_laid c start pair (reply.Failed v m f) h =
    elim h.which [
      | inl try ↦ let failed = (try.1).1 in (none_to_arm, (failed.0, failed.1, try_charge c v failed.0 f try.0 failed.2))
      | inr one ↦ let failed = (one.1).1 in (none_to_arm, (failed.0, failed.1, step_charge c v failed.0 f (Pends m (entry.Del pair) true) one.0 refl failed.2))
    ]
del_laid c start pair reply.NoMem h = (none_to_arm, tt)
del_laid c start pair r h = search (none_to_arm)

url_laid : (c : Course) (start : ℕ) (pair : Pair) (r : Reply) → UrlDid c pair r → LaidSo c start r
url_laid c start pair reply.NoMem h = (none_to_arm, tt)
url_laid c start pair r h = search (none_to_arm)

-- the reply names the replica of its command
named : (c : Course) (v m v' m' j f : ℕ) → replica_on c.settings v m ≡ Some j → (v' ≡ v) × (m' ≡ m) → Charge c v j f
    → (i : ℕ) × (replica_on c.settings v' m' ≡ Some i) × Charge c v' i f
named c v m v' m' j f on names charge = (
  j,
  ap (λ (w : ℕ). replica_on c.settings w m') names.0 ∙ ap (λ (n : ℕ). replica_on c.settings v n) names.1 ∙ on,
  subst (λ (w : ℕ). Charge c w j f) (sym names.0) charge,
)

flush_laid : (c : Course) (start v m : ℕ) (on : Option ℕ) (r : Reply) → replica_on c.settings v m ≡ on → FlushDid c v m on r → LaidSo c start r
flush_laid c start v m None reply.NoMem is h = (none_to_arm, tt)
flush_laid c start v m None r is h = search (none_to_arm)
flush_laid c start v m (Some j) (reply.Failed v' m' f) is h =
    (none_to_arm, named c v m v' m' j f is h.0 (step_charge c v j f (Sticks j) (h.1).step refl (h.1).failed))
flush_laid c start v m (Some j) reply.NoMem is h = (none_to_arm, tt)
flush_laid c start v m (Some j) r is h = search (none_to_arm)

pub last_step : (c : Course) (v j : ℕ) (did : Did) (ran : RanAs c v j did) → Contains (own c v) (ran.place, ran.step)
last_step c v j did ran =
    let parts : changes c v ≡ (((ran.ran).place, (ran.ran).first) ∷ (ran.ran).middle) ++ (ran.place, ran.step) ∷ [] = (ran.ran).steps in
    changed c v (ran.place, ran.step) (subst (λ (l : List (ℕ × Step)). Contains l (ran.place, ran.step)) (sym parts)
    (Contains-push (((ran.ran).place, (ran.ran).first) ∷ (ran.ran).middle) (ran.place, ran.step)))

compact_charge : (c : Course) (v m j f : ℕ) → CompactFailed c v m j f → Charge c v j f
compact_charge c v m j f (inl begins) = try_charge c v j f begins.step begins.failed
compact_charge c v m j f (inr (inl ends)) = record { place = (ends.0).place; rose = ends.1; how = inr (inl (ends.0, refl)) }
compact_charge c v m j f (inr (inr (inl poises))) = record {
  place = (poises.0).place;
  rose = poises.1;
  how = inl (record { step = (poises.0).step; among = last_step c v j (Poises m j) poises.0; quiet = ap is_quiet (poises.0).is });
}
compact_charge c v m j f (inr (inr (inr until))) = record { place = (until.ran).until; rose = until.rose; how = inr (inr (f, until, refl)) }

compact_laid : (c : Course) (start v m : ℕ) (on : Option ℕ) (r : Reply) → replica_on c.settings v m ≡ on → CompactDid c v m on r → LaidSo c start r
compact_laid c start v m None reply.NoMem is h = (none_to_arm, tt)
compact_laid c start v m None r is h = search (none_to_arm)
compact_laid c start v m (Some j) (reply.Failed v' m' f) is h = (none_to_arm, named c v m v' m' j f is h.0 (compact_charge c v m j f h.1))
compact_laid c start v m (Some j) reply.NoMem is h = (none_to_arm, tt)
compact_laid c start v m (Some j) r is h = search (none_to_arm)

-- EVERY LINE

-- where a reader of the line began
abbrev pub start_in : Course → Item → ℕ
start_in c (asks.Command (command.Get url)) = unwrap_or (replica_on c.settings url.volume url.machine) 0
start_in c _ = start_of c.settings c.tag

pub item_laid : (c : Course) (i : Item) (r : Reply) → ItemDid c i r → LaidSo c (start_in c i) r
item_laid c (asks.Command (command.Put pair bytes)) r h = put_laid c (start_of c.settings c.tag) pair bytes r h
item_laid c (asks.Command (command.Read pair cookie)) r h = show_laid c (start_of c.settings c.tag) pair cookie r h
item_laid c (asks.Command (command.Get url)) r h = get_laid c url (replica_on c.settings url.volume url.machine) r h
item_laid c (asks.Command (command.Del pair)) r h = del_laid c (start_of c.settings c.tag) pair r h
item_laid c (asks.Command (command.Url pair)) r h = url_laid c (start_of c.settings c.tag) pair r h
item_laid c (asks.Command (command.Flush v m)) r h = flush_laid c (start_of c.settings c.tag) v m (replica_on c.settings v m) r refl h
item_laid c (asks.Command (command.Compact v m)) r h = compact_laid c (start_of c.settings c.tag) v m (replica_on c.settings v m) r refl h
item_laid c (asks.Command cmd) r h = absurd h
item_laid c asks.Bad r h = (none_to_arm, subst (λ (x : Reply). Laid c (start_of c.settings c.tag) none_to_arm x) (sym h.0) tt)
