-- What is known of one replica, and what a line changes on it.
use Rattle.std.specs.Prelude.{Some}
use Rattle.hay_legal.specs.declared.known.ReplicaKnown.{ReplicaKnown}
use Rattle.hay_legal.specs.Plain as plain
use Rattle.hay_audit.specs.declared.replicas.Standing.{Standing}
use Rattle.hay_audit.specs.declared.replicas.Change.{Change}
use Rattle.hay_audit.specs.declared.replicas.Change.TheVariants.{Copied, Flushed, Stuck, Swapped, Run, NoRun, Poised}

-- what is known of a replica, but for its photos and its end
abbrev pub standing_by : ReplicaKnown → Standing
standing_by replica = record { cells = replica.cells; bare = replica.bare; generation = replica.generation; stuck = replica.stuck; run = replica.run }

abbrev pub changed : Change → ReplicaKnown → ReplicaKnown
changed Flushed replica = plain.with_bare 0 replica
changed Stuck replica = plain.with_stuck replica
changed (Run run) replica = plain.with_run run replica
changed NoRun replica = plain.without_run replica
changed Poised replica = plain.poised replica
changed (Copied cells run) replica = record replica { cells = cells; run = Some run }
changed (Swapped end cells generation) replica = record (plain.swapped end cells replica) { generation = generation }
