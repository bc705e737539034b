-- Which settings the words of a run name.
use Rattle.std.proofs.Common.{◌≡◌, ℕ, ◌≤◌, List, [], ◌∷◌, Option, Some, None, sym, ◌∙◌, arith, lit≤}
use Rattle.std.specs.Prelude.{codes}
use Rattle.std.proofs.lemmas.Grind.{common_steps}
use Rattle.hay_needle.specs.declared.settings.Settings.{Settings}
use Rattle.hay_needle.specs.declared.settings.TheConstants.{MAX_CAPACITY, MAX_MACHINES, MAX_REPLICAS, MAX_VOLUMES, MIN_CAPACITY, USUAL_CAPACITY}
use Rattle.hay_cli.specs.declared.Mode.{Mode}
use Rattle.hay_cli.specs.declared.Mode.TheVariants.{Run, Check, Load, Audit, Drill}
use Rattle.hay_cli.specs.Commands.{IsStore, Says, Text, audit_names, number_in, number_or, run_names, value_of}
use Rattle.hay_cli.proofs.Spelled.{mode_read}
use Rattle.hay_cluster.specs.Store.{IsBuilt}
use Rattle.hay_run.specs.Words.{HasBuilt, SaysAudit, SaysCheck, SaysDrill, SaysLoad, SaysRun}

-- a number that is read is within its bounds
number_within : (low high n : ℕ) (text : Text) → number_in low high text ≡ Some n → (low ≤ n) × (n ≤ high)
number_within low high n text is = (grind (arith, common_steps), grind (arith, common_steps))

within : (usual low high n : ℕ) (text : Option Text) → low ≤ usual → usual ≤ high → number_or usual low high text ≡ Some n → (low ≤ n) × (n ≤ high)
within usual low high n None small large is = let same : usual ≡ n = cc in (omega (arith, small, same), omega (arith, large, same))
within usual low high n (Some text) small large is = number_within low high n text is

-- the settings of options are within the limits
built : (names words : List Text) (settings : Settings) → IsStore names words settings → IsBuilt settings
built names words settings says =
    let values = says.2 in
    let machines = within 1 1 MAX_MACHINES settings.machines (value_of says.0 (codes "machines")) (lit≤ tt) (lit≤ tt) values.machines in
    let volumes = within 1 1 MAX_VOLUMES settings.volumes (value_of says.0 (codes "volumes")) (lit≤ tt) (lit≤ tt) values.volumes in
    let replicas = within 1 1 MAX_REPLICAS settings.replicas (value_of says.0 (codes "replicas")) (lit≤ tt) (lit≤ tt) values.replicas in
    let capacity = within USUAL_CAPACITY MIN_CAPACITY MAX_CAPACITY settings.capacity (value_of says.0 (codes "capacity")) (lit≤ tt) (lit≤ tt) values.capacity in
    record {
      some_machines = machines.0;
      few_machines = machines.1;
      some_volumes = volumes.0;
      few_volumes = volumes.1;
      some_replicas = replicas.0;
      few_replicas = replicas.1;
      no_more_replicas = values.no_more;
      low = capacity.0;
      high = capacity.1;
    }

pub mode_built : (words : List Text) (mode : Mode) → Says words mode → HasBuilt mode
mode_built [] mode says = absurd says
mode_built (word ∷ words) (Run settings) says = built run_names words settings says.1
mode_built (word ∷ words) (Check settings) says = built run_names words settings says.1
mode_built (word ∷ words) (Load settings) says = built run_names words settings says.1
mode_built (word ∷ words) (Audit settings) says = built audit_names words settings says.1
mode_built (word ∷ words) (Drill count first) says = (number_within 1 1000 count says.1.count_word says.1.count_is).1

-- the words of a run name one store
pub same_run : (words : List Text) (settings other : Settings) → SaysRun words settings → SaysRun words other → settings ≡ other
same_run words settings other says says' =
    let a = mode_read words (Run settings) says in
    let b = mode_read words (Run other) says' in
    let same : Some (Run settings) ≡ Some (Run other) = sym a ∙ b in cc

pub same_check : (words : List Text) (settings other : Settings) → SaysCheck words settings → SaysCheck words other → settings ≡ other
same_check words settings other says says' =
    let a = mode_read words (Check settings) says in
    let b = mode_read words (Check other) says' in
    let same : Some (Check settings) ≡ Some (Check other) = sym a ∙ b in cc

-- no words are both
pub not_both : (words : List Text) (settings other : Settings) → SaysRun words settings → SaysCheck words other → ⊥
not_both words settings other run check =
    let a = mode_read words (Run settings) run in
    let b = mode_read words (Check other) check in
    let same : Some (Run settings) ≡ Some (Check other) = sym a ∙ b in cc

pub same_load : (words : List Text) (settings other : Settings) → SaysLoad words settings → SaysLoad words other → settings ≡ other
same_load words settings other says says' =
    let a = mode_read words (Load settings) says in
    let b = mode_read words (Load other) says' in
    let same : Some (Load settings) ≡ Some (Load other) = sym a ∙ b in cc

-- the words of a load say nothing else
pub load_alone : (words : List Text) (mode : Mode) (settings : Settings) → Says words mode → SaysLoad words settings → mode ≡ Load settings
load_alone words mode settings says load =
    let a = mode_read words mode says in
    let b = mode_read words (Load settings) load in
    let same : Some mode ≡ Some (Load settings) = sym a ∙ b in cc

pub run_no_load : (words : List Text) (settings other : Settings) → SaysRun words settings → SaysLoad words other → ⊥
run_no_load words settings other run load = let same : Run settings ≡ Load other = load_alone words (Run settings) other run load in cc

pub check_no_load : (words : List Text) (settings other : Settings) → SaysCheck words settings → SaysLoad words other → ⊥
check_no_load words settings other check load = let same : Check settings ≡ Load other = load_alone words (Check settings) other check load in cc

pub drill_no_load : (words : List Text) (count first : ℕ) (other : Settings) → Says words (Drill count first) → SaysLoad words other → ⊥
drill_no_load words count first other drill load = let same : Drill count first ≡ Load other = load_alone words (Drill count first) other drill load in cc

-- the words of a drill say its numbers, and nothing else
pub drill_alone : (words : List Text) (mode : Mode) (count first : ℕ) → Says words mode → SaysDrill words count first → mode ≡ Drill count first
drill_alone words mode count first says drill =
    let a = mode_read words mode says in
    let b = mode_read words (Drill count first) drill in
    let same : Some mode ≡ Some (Drill count first) = sym a ∙ b in cc

pub same_drill : (words : List Text) (count first other start : ℕ) → SaysDrill words count first → SaysDrill words other start → (count ≡ other) × (first ≡ start)
same_drill words count first other start says drill =
    let same : Drill count first ≡ Drill other start = drill_alone words (Drill count first) other start says drill in (cc, cc)

pub run_no_drill : (words : List Text) (settings : Settings) (count first : ℕ) → SaysRun words settings → SaysDrill words count first → ⊥
run_no_drill words settings count first run drill = let same : Run settings ≡ Drill count first = drill_alone words (Run settings) count first run drill in cc

pub check_no_drill : (words : List Text) (settings : Settings) (count first : ℕ) → SaysCheck words settings → SaysDrill words count first → ⊥
check_no_drill words settings count first check drill = let same : Check settings ≡ Drill count first = drill_alone words (Check settings) count first check drill in cc

pub load_no_drill : (words : List Text) (settings : Settings) (count first : ℕ) → SaysLoad words settings → SaysDrill words count first → ⊥
load_no_drill words settings count first load drill = let same : Load settings ≡ Drill count first = drill_alone words (Load settings) count first load drill in cc

pub audit_no_drill : (words : List Text) (settings : Settings) (count first : ℕ) → SaysAudit words settings → SaysDrill words count first → ⊥
audit_no_drill words settings count first audit drill = let same : Audit settings ≡ Drill count first = drill_alone words (Audit settings) count first audit drill in cc

-- the words of an audit name one store, and say nothing else
pub audit_alone : (words : List Text) (mode : Mode) (settings : Settings) → Says words mode → SaysAudit words settings → mode ≡ Audit settings
audit_alone words mode settings says audit =
    let a = mode_read words mode says in
    let b = mode_read words (Audit settings) audit in
    let same : Some mode ≡ Some (Audit settings) = sym a ∙ b in cc

pub same_audit : (words : List Text) (settings other : Settings) → SaysAudit words settings → SaysAudit words other → settings ≡ other
same_audit words settings other says audit = let same : Audit settings ≡ Audit other = audit_alone words (Audit settings) other says audit in cc

pub run_no_audit : (words : List Text) (settings other : Settings) → SaysRun words settings → SaysAudit words other → ⊥
run_no_audit words settings other run audit = let same : Run settings ≡ Audit other = audit_alone words (Run settings) other run audit in cc

pub check_no_audit : (words : List Text) (settings other : Settings) → SaysCheck words settings → SaysAudit words other → ⊥
check_no_audit words settings other check audit = let same : Check settings ≡ Audit other = audit_alone words (Check settings) other check audit in cc

pub load_no_audit : (words : List Text) (settings other : Settings) → SaysLoad words settings → SaysAudit words other → ⊥
load_no_audit words settings other load audit = let same : Load settings ≡ Audit other = audit_alone words (Load settings) other load audit in cc

pub audit_no_load : (words : List Text) (settings other : Settings) → SaysAudit words settings → SaysLoad words other → ⊥
audit_no_load words settings other audit load = let same : Audit settings ≡ Load other = load_alone words (Audit settings) other audit load in cc
