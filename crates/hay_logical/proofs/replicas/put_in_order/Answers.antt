use Rattle.std.proofs.Common.{Err, Option, inl, inr, false, ◌≡◌, ◌≤◌, ◌<◌, ◌+◌, ℕ, ◌∷◌, [], length, length-append, refl, sym, ap, subst, ◌∙◌, arith}
use Rattle.std.specs.Prelude.{slice_index_or, slice_set}
use Rattle.hay_map.specs.Places.{place_in}
use Rattle.hay_map.specs.declared.place.Place.TheVariants as place
use Rattle.hay_open.specs.Stored.{Stored}
use Rattle.hay_physical.specs.OpenCopies.{Copy, IsUp, end_of, is_frozen}
use Rattle.hay_physical.specs.Replicas as physical
use Rattle.hay_physical.specs.CompactionRuns.{HasRun, Run}
use Rattle.hay_logical.specs.Fits.{At}
use Rattle.hay_logical.specs.ReplicaCalls.{KeepsBytes, StaysInReach, LosesRun}
use Rattle.hay_logical.proofs.Calls.{Counted, loses_none, place_before, place_last, open_up, put_cause, puts_on, reach_still, up_open, went_counts}
use Rattle.hay_logical.proofs.Lists.{at_read, at_same, broken_above, broken_below, broken_is, broken_was, went_all, went_every, went_next, went_start, went_step}
use Rattle.hay_logical.proofs.Looking.{bytes_same}
use Rattle.std.proofs.lemmas.Bool.{cases_lt}
use Rattle.hay_logical.specs.Seen.{grown, replica_seen}
use Rattle.hay_logical.specs.Sights.Sight.{Live}
use Rattle.hay_logical.proofs.Seen.{grown_longer, seen_grown, seen_phase}
use Rattle.hay_logical.proofs.replicas.put_in_order.Goals as goal

pub loop-j-init : goal.loop-j-init
loop-j-init g c = record { went = went_start _ c.args.replicas.now; seen = went_start _ c.args.replicas.now; places = rw c.new-row.ensures refl }

pub put-requires-clause-open : goal.put-requires-clause-open
put-requires-clause-open g c =
    let within : c.loop-j.j < length c.loop-j.replicas = omega arith in
    let here : Copy g.row.D.Denot = slice_index_or c.loop-j.replicas c.loop-j.j c.index-replicas-j.result in
    let there : At c.loop-j.replicas c.loop-j.j here = at_read c.loop-j.replicas c.loop-j.j c.index-replicas-j.result within in
    up_open here (c.requires.up c.loop-j.j here (went_next _ c.loop-j.j c.args.replicas.now c.loop-j.replicas here c.loop-j.invariant.went there))

pub returns-in-Err-clause-counts : goal.returns-in-Err-clause-counts
returns-in-Err-clause-counts g c =
    let within : c.loop-j.j < length c.loop-j.replicas = omega arith in
    let there = at_read c.loop-j.replicas c.loop-j.j c.index-replicas-j.result within in
    went_counts g.D.Disk.fault_count g.D.Disk.fuse_count (λ i. Counted g.D.Disk.fault_count g.D.Disk.fuse_count) (c.loop-j.j + 1) c.args.replicas.now _
    (went_step _ (λ i. Counted g.D.Disk.fault_count g.D.Disk.fuse_count) c.loop-j.j c.args.replicas.now c.loop-j.replicas _ c.put.new.self c.loop-j.invariant.went there
    (λ i r r' h p. (p.1, p.2)) (c.put.ensures.counts, c.put.ensures.fuses))
    (λ i r r' h. h)

pub returns-in-Err-clause-broken : goal.returns-in-Err-clause-broken
returns-in-Err-clause-broken g c =
    let within : c.loop-j.j < length c.loop-j.replicas = omega arith in
    let here : Copy g.row.D.Denot = slice_index_or c.loop-j.replicas c.loop-j.j c.index-replicas-j.result in
    let there : At c.loop-j.replicas c.loop-j.j here = at_read c.loop-j.replicas c.loop-j.j c.index-replicas-j.result within in
    let was : At c.args.replicas.now c.loop-j.j here = broken_was _ c.loop-j.j c.args.replicas.now c.loop-j.replicas here c.put.new.self c.loop-j.invariant.went there in
    record {
      before = here;
      after = c.put.new.self;
      was = was;
      is = broken_is _ c.loop-j.j c.args.replicas.now c.loop-j.replicas here c.put.new.self c.loop-j.invariant.went there;
      below = λ i r r' h e f.
          let p = broken_below _ c.loop-j.j c.args.replicas.now c.loop-j.replicas here c.put.new.self c.loop-j.invariant.went there i r r' h e f in
          (p.0.up, p.0.sup, p.0.stuck, λ tells s stands. (p.0.stands tells s stands).0);
      there = record {
        «open» = c.put.ensures.«open»;
        sup = c.put.ensures.sup;
        stuck = c.put.ensures.stuck;
        stands = λ tells s stands. c.in-Err.ensures.refused tells s stands;
      };
      above = λ i r r' h e f.
          subst (λ x. LosesRun g.D.Disk.Tells g.D.Disk.files r x) (sym (broken_above _ c.loop-j.j c.args.replicas.now c.loop-j.replicas here c.put.new.self c.loop-j.invariant.went there i r r' h e f))
          (loses_none g.D.Disk.Tells g.D.Disk.files r);
      cause = put_cause g.D.Disk.fault_count here c.put.new.self (length c.args.bytes.now) c.in-Err.fault (c.requires.up c.loop-j.j here was) (c.requires.room c.loop-j.j here was)
          (λ e. c.in-Err.ensures.thawed (ap Err e)) (λ end need capacity e. c.in-Err.ensures.fits end need capacity (ap Err e)) c.in-Err.ensures.causes c.in-Err.ensures.froze;
    }

pub loop-j-preserved : goal.loop-j-preserved
loop-j-preserved g c =
    let within : c.loop-j.j < length c.loop-j.replicas = omega arith in
    let here : Copy g.row.D.Denot = slice_index_or c.loop-j.replicas c.loop-j.j c.index-replicas-j.result in
    let there : At c.loop-j.replicas c.loop-j.j here = at_read c.loop-j.replicas c.loop-j.j c.index-replicas-j.result within in
    let places : length c.loop-j.row ≡ c.loop-j.j = c.loop-j.invariant.places in
    let same : (i : ℕ) → i < c.loop-j.j → place_in c.push.new.self i ≡ place_in c.loop-j.row i =
    λ i h. rw c.push.ensures (place_before c.loop-j.row (place.Live c.in-Ok.needle) i (let less : i < length c.loop-j.row = omega (arith, h, places) in less)) in
    let last : place_in c.push.new.self c.loop-j.j ≡ place.Live c.in-Ok.needle = rw c.push.ensures (place_last c.loop-j.row (place.Live c.in-Ok.needle) c.loop-j.j places) in
    record {
      went = went_step _ _ c.loop-j.j c.args.replicas.now c.loop-j.replicas here c.put.new.self c.loop-j.invariant.went there
          (λ i r r' h p. (
            puts_on g.D.Disk.Tells g.D.Disk.files g.D.Piece.Piece.Tells c.args.pair c.args.cookie c.args.bytes.now r r' (place_in c.loop-j.row i)
                (place_in c.push.new.self i) (same i h) p.0,
            p.1,
            p.2,
            p.3,
          )) (
            puts_on g.D.Disk.Tells g.D.Disk.files g.D.Piece.Piece.Tells c.args.pair c.args.cookie c.args.bytes.now here c.put.new.self (place.Live c.in-Ok.needle)
                (place_in c.push.new.self c.loop-j.j) last
                (record {
                  up = c.in-Ok.ensures.up;
                  sup = c.put.ensures.sup;
                  stuck = c.put.ensures.stuck;
                  stands = λ tells s stands. c.in-Ok.ensures.stored tells s stands;
                  run = c.in-Ok.ensures.run;
                  live = ap (λ n. Live n) c.in-Ok.ensures.there;
                  deletable = c.in-Ok.ensures.can_delete;
                  apart = c.in-Ok.ensures.apart;
                  whole = c.in-Ok.ensures.whole;
                }),
            c.put.ensures.counts,
            c.put.ensures.fuses,
            λ tells. record { deletes = c.put.ensures.deletes tells; sees = c.put.ensures.sees tells },
          );
      seen = went_step _ (λ i r r'. replica_seen r' ≡ grown (length c.args.bytes.now)
          (replica_seen r)) c.loop-j.j c.args.replicas.now c.loop-j.replicas here c.put.new.self c.loop-j.invariant.seen there (λ i r r' h p. p)
          (seen_grown here c.put.new.self (length c.args.bytes.now) c.put.ensures.generation (c.put.ensures.goal c.in-Ok.ensures.up) c.put.ensures.stuck c.in-Ok.ensures.moved c.in-Ok.ensures.bare
          (c.put.ensures.place c.in-Ok.ensures.up));
      places = ap length c.push.ensures ∙ length-append c.loop-j.row (place.Live c.in-Ok.needle ∷ []) ∙ ap (λ n. n + 1) places;
    }

pub returns-clause-counts : goal.returns-clause-counts
returns-clause-counts g c =
    went_counts g.D.Disk.fault_count g.D.Disk.fuse_count _ _ c.args.replicas.now _ c.loop-j.invariant.went (λ i r r' p. (p.1, p.2))

pub returns-clause-places : goal.returns-clause-places
returns-clause-places g c = c.loop-j.invariant.places ∙ (let e : c.loop-j.j ≡ length c.args.replicas.now = omega arith in e)

pub returns-clause-put : goal.returns-clause-put
returns-clause-put g c = λ j r r' e f. (went_all _ _ c.args.replicas.now _ c.loop-j.invariant.went (let all : length c.args.replicas.now ≤ c.loop-j.j = omega arith in all) j r r' e f).0

pub returns-clause-reach : goal.returns-clause-reach
returns-clause-reach g c = λ j r r' e f.
    went_every _ (StaysInReach g.D.Disk.Tells g.D.Disk.files) _ c.args.replicas.now _ c.loop-j.invariant.went (λ i r r' p. p.3) (λ x tells. reach_still g.D.Disk.files x) j r r' e f

pub returns-in-Err-clause-reach : goal.returns-in-Err-clause-reach
returns-in-Err-clause-reach g c = λ j r r' e f.
    let within : c.loop-j.j < length c.loop-j.replicas = omega arith in
    let here : Copy g.row.D.Denot = slice_index_or c.loop-j.replicas c.loop-j.j c.index-replicas-j.result in
    let there : At c.loop-j.replicas c.loop-j.j here = at_read c.loop-j.replicas c.loop-j.j c.index-replicas-j.result within in
    let K : ℕ → Copy g.row.D.Denot → Copy g.row.D.Denot → Type 0 = λ i x y. StaysInReach g.D.Disk.Tells g.D.Disk.files x y in
    went_every K (StaysInReach g.D.Disk.Tells g.D.Disk.files) (c.loop-j.j + 1) c.args.replicas.now _
    (went_step _ K c.loop-j.j c.args.replicas.now c.loop-j.replicas here c.put.new.self c.loop-j.invariant.went there (λ i x y h p. p.3)
    (λ tells. record { deletes = c.put.ensures.deletes tells; sees = c.put.ensures.sees tells }))
    (λ i x y p. p) (λ x tells. reach_still g.D.Disk.files x) j r r' e f

pub returns-in-Err-clause-others : goal.returns-in-Err-clause-others
returns-in-Err-clause-others g c = λ i r r' h e f.
    let within : c.loop-j.j < length c.loop-j.replicas = omega arith in
    let here : Copy g.row.D.Denot = slice_index_or c.loop-j.replicas c.loop-j.j c.index-replicas-j.result in
    let there : At c.loop-j.replicas c.loop-j.j here = at_read c.loop-j.replicas c.loop-j.j c.index-replicas-j.result within in
    broken_above _ c.loop-j.j c.args.replicas.now c.loop-j.replicas here c.put.new.self c.loop-j.invariant.went there i r r' h e f

pub returns-in-Err-clause-run : goal.returns-in-Err-clause-run
returns-in-Err-clause-run g c = λ r r' e f.
    let within : c.loop-j.j < length c.loop-j.replicas = omega arith in
    let here : Copy g.row.D.Denot = slice_index_or c.loop-j.replicas c.loop-j.j c.index-replicas-j.result in
    let there : At c.loop-j.replicas c.loop-j.j here = at_read c.loop-j.replicas c.loop-j.j c.index-replicas-j.result within in
    let was : At c.args.replicas.now c.loop-j.j here = broken_was _ c.loop-j.j c.args.replicas.now c.loop-j.replicas here c.put.new.self c.loop-j.invariant.went there in
    let is = broken_is _ c.loop-j.j c.args.replicas.now c.loop-j.replicas here c.put.new.self c.loop-j.invariant.went there in
    let r_is : here ≡ r = at_same c.args.replicas.now c.loop-j.j here r was e in
    let r'_is : c.put.new.self ≡ r' = at_same _ c.loop-j.j c.put.new.self r' is f in
    subst (λ (x : Copy g.row.D.Denot). IsUp r' → g.D.Disk.Tells → (s : Stored) (run : Option Run) → physical.Stands g.D.Disk.files x s → HasRun g.D.Disk.files x s run
    → HasRun g.D.Disk.files r' s run) r_is
    (subst (λ (x : Copy g.row.D.Denot). IsUp x → g.D.Disk.Tells → (s : Stored) (run : Option Run) → physical.Stands g.D.Disk.files here s → HasRun g.D.Disk.files here s run
    → HasRun g.D.Disk.files x s run) r'_is
    (λ up tells s run stands has. c.in-Err.ensures.run_stays tells s run stands has up))

pub returns-in-Err-clause-untouched : goal.returns-in-Err-clause-untouched
returns-in-Err-clause-untouched g c = λ un tells i r r' e f.
    let within : c.loop-j.j < length c.loop-j.replicas = omega arith in
    let here : Copy g.row.D.Denot = slice_index_or c.loop-j.replicas c.loop-j.j c.index-replicas-j.result in
    let there : At c.loop-j.replicas c.loop-j.j here = at_read c.loop-j.replicas c.loop-j.j c.index-replicas-j.result within in
    let was : At c.args.replicas.now c.loop-j.j here = broken_was _ c.loop-j.j c.args.replicas.now c.loop-j.replicas here c.put.new.self c.loop-j.invariant.went there in
    let is = broken_is _ c.loop-j.j c.args.replicas.now c.loop-j.replicas here c.put.new.self c.loop-j.invariant.went there in
    let thawed : is_frozen c.put.new.self ≡ false =
    subst (λ (x : Copy g.row.D.Denot). is_frozen x ≡ false) (at_same _ c.loop-j.j un.replica c.put.new.self
    (subst (λ k. At (slice_set c.loop-j.replicas c.loop-j.j c.put.new.self) k un.replica) (sym un.first) un.there) is) un.thawed in
    let same = c.put.ensures.unchanged tells (c.in-Err.is ∙ ap Err un.fault) (open_up c.put.new.self c.put.ensures.«open» thawed) in
    elim (cases_lt c.loop-j.j i) [
      | inl more ↦
          subst (λ (x : Copy g.row.D.Denot). KeepsBytes (g.D.Disk.files r.disk) (g.D.Disk.files x.disk))
          (sym (broken_above _ c.loop-j.j c.args.replicas.now c.loop-j.replicas here c.put.new.self c.loop-j.invariant.went there i r r' more e f)) (bytes_same (g.D.Disk.files r.disk))
      | inr most ↦
          let first = un.first in
          let at : i ≡ c.loop-j.j = omega (arith, first, most) in
          let before : here ≡ r = at_same c.args.replicas.now c.loop-j.j here r was (subst (λ k. At c.args.replicas.now k r) at e) in
          let after : c.put.new.self ≡ r' = at_same _ c.loop-j.j c.put.new.self r' is (subst (λ k. At (slice_set c.loop-j.replicas c.loop-j.j c.put.new.self) k r') at f) in
          subst (λ (x : Copy g.row.D.Denot). KeepsBytes (g.D.Disk.files x.disk) (g.D.Disk.files r'.disk)) before
          (subst (λ (x : Copy g.row.D.Denot). KeepsBytes (g.D.Disk.files here.disk) (g.D.Disk.files x.disk)) after
          (subst (KeepsBytes (g.D.Disk.files here.disk)) (sym same) (bytes_same (g.D.Disk.files here.disk))))
    ]

pub returns-clause-seen : goal.returns-clause-seen
returns-clause-seen g c = λ j r r' e f. went_all _ _ c.args.replicas.now _ c.loop-j.invariant.seen (let all : length c.args.replicas.now ≤ c.loop-j.j = omega arith in all) j r r' e f

pub returns-in-Err-clause-refused_seen : goal.returns-in-Err-clause-refused_seen
returns-in-Err-clause-refused_seen g c = λ un i r r' e f.
    let within : c.loop-j.j < length c.loop-j.replicas = omega arith in
    let here : Copy g.row.D.Denot = slice_index_or c.loop-j.replicas c.loop-j.j c.index-replicas-j.result in
    let there : At c.loop-j.replicas c.loop-j.j here = at_read c.loop-j.replicas c.loop-j.j c.index-replicas-j.result within in
    let was : At c.args.replicas.now c.loop-j.j here = broken_was _ c.loop-j.j c.args.replicas.now c.loop-j.replicas here c.put.new.self c.loop-j.invariant.went there in
    let is = broken_is _ c.loop-j.j c.args.replicas.now c.loop-j.replicas here c.put.new.self c.loop-j.invariant.went there in
    let thawed : is_frozen c.put.new.self ≡ false =
    subst (λ (x : Copy g.row.D.Denot). is_frozen x ≡ false) (at_same _ c.loop-j.j un.replica c.put.new.self
    (subst (λ k. At (slice_set c.loop-j.replicas c.loop-j.j c.put.new.self) k un.replica) (sym un.first) un.there) is) un.thawed in
    let same = seen_phase here c.put.new.self (c.in-Err.ensures.kept (open_up c.put.new.self c.put.ensures.«open» thawed)) in
    elim (cases_lt c.loop-j.j i) [
      | inl more ↦ ap replica_seen (broken_above _ c.loop-j.j c.args.replicas.now c.loop-j.replicas here c.put.new.self c.loop-j.invariant.went there i r r' more e f)
      | inr most ↦
          let first = un.first in
          let at : i ≡ c.loop-j.j = omega (arith, first, most) in
          let before : here ≡ r = at_same c.args.replicas.now c.loop-j.j here r was (subst (λ k. At c.args.replicas.now k r) at e) in
          let after : c.put.new.self ≡ r' = at_same _ c.loop-j.j c.put.new.self r' is (subst (λ k. At (slice_set c.loop-j.replicas c.loop-j.j c.put.new.self) k r') at f) in
          ap replica_seen (sym after) ∙ same ∙ ap replica_seen before
    ]

pub returns-clause-ends : goal.returns-clause-ends
returns-clause-ends g c = λ j r r' e f.
    went_every _ (λ (x y : Copy g.row.D.Denot). end_of x ≤ end_of y) _ c.args.replicas.now _ c.loop-j.invariant.seen (λ i x y p. grown_longer (length c.args.bytes.now) x y p)
    (λ x. omega arith) j r r' e f

pub returns-in-Err-clause-ends : goal.returns-in-Err-clause-ends
returns-in-Err-clause-ends g c = λ j r r' e f.
    let within : c.loop-j.j < length c.loop-j.replicas = omega arith in
    let here : Copy g.row.D.Denot = slice_index_or c.loop-j.replicas c.loop-j.j c.index-replicas-j.result in
    let there : At c.loop-j.replicas c.loop-j.j here = at_read c.loop-j.replicas c.loop-j.j c.index-replicas-j.result within in
    let K : ℕ → Copy g.row.D.Denot → Copy g.row.D.Denot → Type 0 = λ i x y. end_of x ≤ end_of y in
    went_every K (λ (x y : Copy g.row.D.Denot). end_of x ≤ end_of y) (c.loop-j.j + 1) c.args.replicas.now _
    (went_step _ K c.loop-j.j c.args.replicas.now c.loop-j.replicas here c.put.new.self c.loop-j.invariant.seen there (λ i x y h p. grown_longer (length c.args.bytes.now) x y p) c.put.ensures.grows)
    (λ i x y p. p) (λ x. omega arith) j r r' e f
