use Rattle.std.proofs.Common.{Err, None, option_map, ◌≡◌, ◌⊎◌, ◌≤◌, ◌<◌, ◌+◌, ℕ, length, refl, sym, ap, subst, ◌∙◌, arith}
use Rattle.std.specs.Prelude.{slice_index_or}
use Rattle.hay_map.specs.Places.{place_in}
use Rattle.hay_map.specs.declared.place.Place.TheVariants as place
use Rattle.hay_physical.specs.OpenCopies.{Copy, end_of, goal_of, is_stuck}
use Rattle.hay_physical.specs.CompactionRuns.{HasLastAt, HasRun, loosened}
use Rattle.hay_physical.specs.Replicas as physical
use Rattle.hay_logical.specs.Fits.{At}
use Rattle.hay_logical.specs.ReplicaCalls.{DeletesAt, FollowsAt, LosesRun, StaysBeside}
use Rattle.hay_logical.proofs.Calls.{Counted, beside_on, counted_same, delete_rose, deletes_on, ended_or, follows_on, follows_where, loses_none, reach_still, stays_where, up_open, went_counts}
use Rattle.hay_logical.proofs.Lists.{Went, at_read, broken_above, broken_below, broken_is, broken_was, went_all, went_each, went_every, went_next, went_start, went_step}
use Rattle.std.proofs.Common.{inl}
use Rattle.hay_logical.specs.Seen.{DeleteSeen, replica_seen}
use Rattle.hay_logical.proofs.Seen.{delete_longer, delete_seen}
use Rattle.hay_logical.proofs.replicas.delete_in_order.Goals as goal
use Rattle.hay_logical.proofs.replicas.delete_in_order.Goals.{in-Live+in-Ok, in_default}

pub delete-requires-clause-open : goal.delete-requires-clause-open
delete-requires-clause-open g c =
    let within : c.loop-j.j < length c.loop-j.replicas = omega arith in
    let here : Copy g.row.D.Denot = slice_index_or c.loop-j.replicas c.loop-j.j c.index-replicas-j.result in
    let there : At c.loop-j.replicas c.loop-j.j here = at_read c.loop-j.replicas c.loop-j.j c.index-replicas-j.result within in
    up_open here (c.requires.up c.loop-j.j here (went_next _ c.loop-j.j c.args.replicas.now c.loop-j.replicas here c.loop-j.invariant.went there))

pub delete-requires-clause-flag : goal.delete-requires-clause-flag
delete-requires-clause-flag g c = λ tells up.
    let within : c.loop-j.j < length c.loop-j.replicas = omega arith in
    let here : Copy g.row.D.Denot = slice_index_or c.loop-j.replicas c.loop-j.j c.index-replicas-j.result in
    let there : At c.loop-j.replicas c.loop-j.j here = at_read c.loop-j.replicas c.loop-j.j c.index-replicas-j.result within in
    let live : place_in c.args.row.now c.loop-j.j ≡ place.Live c.in-Live.needle = sym c.place.ensures ∙ c.in-Live.is in
    subst (λ n. physical.MayDelete g.D.Disk.files here n) (sym c.at.ensures)
    (c.requires.live tells c.loop-j.j here (went_next _ c.loop-j.j c.args.replicas.now c.loop-j.replicas here c.loop-j.invariant.went there) c.in-Live.needle live)

pub returns-in-Err-clause-counts : goal.returns-in-Err-clause-counts
returns-in-Err-clause-counts g c =
    let within : c.loop-j.j < length c.loop-j.replicas = omega arith in
    let here : Copy g.row.D.Denot = slice_index_or c.loop-j.replicas c.loop-j.j c.index-replicas-j.result in
    let there : At c.loop-j.replicas c.loop-j.j here = at_read c.loop-j.replicas c.loop-j.j c.index-replicas-j.result within in
    went_counts g.D.Disk.fault_count g.D.Disk.fuse_count (λ i. Counted g.D.Disk.fault_count g.D.Disk.fuse_count) (c.loop-j.j + 1) c.args.replicas.now _
    (went_step _ (λ i. Counted g.D.Disk.fault_count g.D.Disk.fuse_count) c.loop-j.j c.args.replicas.now c.loop-j.replicas here c.delete.new.self c.loop-j.invariant.went there
    (λ i r r' h p. p.1) (c.delete.ensures.counts, c.delete.ensures.fuses))
    (λ i r r' h. h)

pub returns-in-Err-clause-broken : goal.returns-in-Err-clause-broken
returns-in-Err-clause-broken g c =
    let within : c.loop-j.j < length c.loop-j.replicas = omega arith in
    let here : Copy g.row.D.Denot = slice_index_or c.loop-j.replicas c.loop-j.j c.index-replicas-j.result in
    let there : At c.loop-j.replicas c.loop-j.j here = at_read c.loop-j.replicas c.loop-j.j c.index-replicas-j.result within in
    let was : At c.args.replicas.now c.loop-j.j here = broken_was _ c.loop-j.j c.args.replicas.now c.loop-j.replicas here c.delete.new.self c.loop-j.invariant.went there in
    let up = c.requires.up c.loop-j.j here was in
    record {
      before = here;
      after = c.delete.new.self;
      needle = c.in-Live.needle;
      was = was;
      is = broken_is _ c.loop-j.j c.args.replicas.now c.loop-j.replicas here c.delete.new.self c.loop-j.invariant.went there;
      live = sym c.place.ensures ∙ c.in-Live.is;
      below = λ i r r' h e f. (broken_below _ c.loop-j.j c.args.replicas.now c.loop-j.replicas here c.delete.new.self c.loop-j.invariant.went there i r r' h e f).0;
      frozen = c.in-Err.ensures.froze;
      sup = c.delete.ensures.sup;
      stuck = c.delete.ensures.stuck;
      left = λ tells s stands live.
          subst (λ n. physical.Holds g.D.Disk.files c.delete.new.self (is_stuck here) s (physical.without_cell s n)) c.at.ensures
          ((c.in-Err.ensures.refused tells s stands (subst (λ n. physical.HasLive n s.cells) (sym c.at.ensures) live)).1);
      above = λ i r r' h e f.
          subst (λ x. LosesRun g.D.Disk.Tells g.D.Disk.files r x) (sym (broken_above _ c.loop-j.j c.args.replicas.now c.loop-j.replicas here c.delete.new.self
          c.loop-j.invariant.went there i r r' h e f))
          (loses_none g.D.Disk.Tells g.D.Disk.files r);
      rose = delete_rose g.D.Disk.fault_count here c.delete.new.self c.in-Err.field-0 up (λ e. c.in-Err.ensures.thawed (ap Err e)) c.in-Err.ensures.causes;
      printed = c.faults.ensures;
    }

pub loop-j-init : goal.loop-j-init
loop-j-init g c = record { went = went_start _ c.args.replicas.now; seen = went_start _ c.args.replicas.now }

pub loop-j-preserved : goal.loop-j-preserved
loop-j-preserved g c =
    let within : c.loop-j.j < length c.loop-j.replicas = omega arith in
    let here : Copy g.row.D.Denot = slice_index_or c.loop-j.replicas c.loop-j.j c.index-replicas-j.result in
    let there : At c.loop-j.replicas c.loop-j.j here = at_read c.loop-j.replicas c.loop-j.j c.index-replicas-j.result within in
    let R : ℕ → Copy g.row.D.Denot → Copy g.row.D.Denot → Type 0 =
    λ i r r'. DeletesAt g.D.Disk.Tells g.D.Disk.files (place_in c.args.row.now i) r r' × Counted g.D.Disk.fault_count g.D.Disk.fuse_count r r'
    × StaysBeside g.D.Disk.Tells g.D.Disk.files (place_in c.args.row.now i) r r'
    × FollowsAt g.D.Disk.Tells g.D.Disk.files g.D.Disk.fault_count c.args.pair (place_in c.args.row.now i) r r' in
    let S : ℕ → Copy g.row.D.Denot → Copy g.row.D.Denot → Type 0 = λ i r r'. DeleteSeen (replica_seen r) (replica_seen r') in
    elim c.match-place.branch [
      | in-Live+in-Ok w ↦ record {
        went = subst (λ rs. Went R (c.loop-j.j + 1) c.args.replicas.now rs) (sym w.replicas-is)
            (went_step R R c.loop-j.j c.args.replicas.now c.loop-j.replicas here w.delete.new.self c.loop-j.invariant.went there (λ i r r' h p. p) (
              deletes_on g.D.Disk.Tells g.D.Disk.files here w.delete.new.self (place.Live w.in-Live.needle) (place_in c.args.row.now c.loop-j.j) (sym c.place.ensures ∙ w.in-Live.is) (
                w.in-Ok.ensures.up,
                w.delete.ensures.sup,
                w.delete.ensures.stuck,
                λ tells s stands live.
                    subst (λ n. physical.Stands g.D.Disk.files w.delete.new.self (physical.without_cell s n)) w.at.ensures
                    (w.in-Ok.ensures.deleted tells s stands (subst (λ n. physical.HasLive n s.cells) (sym w.at.ensures) live)),
              ),
              (w.delete.ensures.counts, w.delete.ensures.fuses),
              beside_on g.D.Disk.Tells g.D.Disk.files here w.delete.new.self (place.Live w.in-Live.needle) (place_in c.args.row.now c.loop-j.j) (sym c.place.ensures ∙ w.in-Live.is) (λ tells. record {
                deletes = w.delete.ensures.deletes tells;
                sees = subst (λ n. physical.KeepsSight g.D.Disk.files (physical.ApartFrom n) here w.delete.new.self) w.at.ensures (w.delete.ensures.sees tells);
              }),
              follows_on g.D.Disk.Tells g.D.Disk.files g.D.Disk.fault_count c.args.pair here w.delete.new.self (place.Live w.in-Live.needle) (place_in c.args.row.now c.loop-j.j)
                  (sym c.place.ensures ∙ w.in-Live.is) (record {
                    run = λ tells s run stands has last.
                        subst (λ n. HasRun g.D.Disk.files w.delete.new.self (physical.without_cell s n) (option_map loosened run) ⊎ (goal_of w.delete.new.self ≡ None)) w.at.ensures
                        (w.in-Ok.ensures.run tells s run stands has (subst (λ n. HasLastAt s.cells c.args.pair n) (sym w.at.ensures) last));
                    goal = ended_or here w.delete.new.self (g.D.Disk.fault_count w.delete.new.self.disk) w.in-Ok.ensures.goal;
                  }),
            ));
        seen = subst (λ rs. Went S (c.loop-j.j + 1) c.args.replicas.now rs) (sym w.replicas-is)
            (went_step S S c.loop-j.j c.args.replicas.now c.loop-j.replicas here w.delete.new.self c.loop-j.invariant.seen there (λ i r r' h p. p)
            (delete_seen here w.delete.new.self w.delete.ensures.stays w.delete.ensures.stuck w.delete.ensures.bare w.delete.ensures.place
            (ended_or here w.delete.new.self (g.D.Disk.fault_count w.delete.new.self.disk) w.in-Ok.ensures.goal)));
      }
      | in_default w ↦ record {
        went = subst (λ rs. Went R (c.loop-j.j + 1) c.args.replicas.now rs) (sym w.replicas-is)
            (went_step R R c.loop-j.j c.args.replicas.now c.loop-j.replicas here here c.loop-j.invariant.went there (λ i r r' h p. p) (
              stays_where g.D.Disk.Tells g.D.Disk.files (place_in c.args.row.now c.loop-j.j) here (λ needle e. w.in_default.not-Live needle (c.place.ensures ∙ e)),
              counted_same g.D.Disk.fault_count g.D.Disk.fuse_count here here refl,
              λ tells. reach_still g.D.Disk.files here,
              follows_where g.D.Disk.Tells g.D.Disk.files g.D.Disk.fault_count c.args.pair (place_in c.args.row.now c.loop-j.j) here (λ needle e. w.in_default.not-Live needle (c.place.ensures ∙ e)),
            ));
        seen = subst (λ rs. Went S (c.loop-j.j + 1) c.args.replicas.now rs) (sym w.replicas-is)
            (went_step S S c.loop-j.j c.args.replicas.now c.loop-j.replicas here here c.loop-j.invariant.seen there (λ i r r' h p. p) (inl refl));
      }
    ]

pub returns-clause-counts : goal.returns-clause-counts
returns-clause-counts g c = went_counts g.D.Disk.fault_count g.D.Disk.fuse_count _ _ c.args.replicas.now _ c.loop-j.invariant.went (λ i r r' p. p.1)

pub returns-clause-deleted : goal.returns-clause-deleted
returns-clause-deleted g c = λ j r r' e f. (went_all _ _ c.args.replicas.now _ c.loop-j.invariant.went (let all : length c.args.replicas.now ≤ c.loop-j.j = omega arith in all) j r r' e f).0

pub returns-clause-follow : goal.returns-clause-follow
returns-clause-follow g c = λ j r r' e f. (went_all _ _ c.args.replicas.now _ c.loop-j.invariant.went (let all : length c.args.replicas.now ≤ c.loop-j.j = omega arith in all) j r r' e f).3

pub returns-clause-reach : goal.returns-clause-reach
returns-clause-reach g c = λ j r r' e f. (went_all _ _ c.args.replicas.now _ c.loop-j.invariant.went (let all : length c.args.replicas.now ≤ c.loop-j.j = omega arith in all) j r r' e f).2

pub returns-in-Err-clause-reach : goal.returns-in-Err-clause-reach
returns-in-Err-clause-reach g c = λ j r r' e f.
    let within : c.loop-j.j < length c.loop-j.replicas = omega arith in
    let here : Copy g.row.D.Denot = slice_index_or c.loop-j.replicas c.loop-j.j c.index-replicas-j.result in
    let there : At c.loop-j.replicas c.loop-j.j here = at_read c.loop-j.replicas c.loop-j.j c.index-replicas-j.result within in
    let K : ℕ → Copy g.row.D.Denot → Copy g.row.D.Denot → Type 0 = λ i x y. StaysBeside g.D.Disk.Tells g.D.Disk.files (place_in c.args.row.now i) x y in
    went_each K K (c.loop-j.j + 1) c.args.replicas.now _
    (went_step _ K c.loop-j.j c.args.replicas.now c.loop-j.replicas here c.delete.new.self c.loop-j.invariant.went there (λ i x y h p. p.2)
    (beside_on g.D.Disk.Tells g.D.Disk.files here c.delete.new.self (place.Live c.in-Live.needle) (place_in c.args.row.now c.loop-j.j) (sym c.place.ensures ∙ c.in-Live.is) (λ tells. record {
      deletes = c.delete.ensures.deletes tells;
      sees = subst (λ n. physical.KeepsSight g.D.Disk.files (physical.ApartFrom n) here c.delete.new.self) c.at.ensures (c.delete.ensures.sees tells);
    })))
    (λ i x y p. p) (λ i x tells. reach_still g.D.Disk.files x) j r r' e f

pub returns-clause-seen : goal.returns-clause-seen
returns-clause-seen g c = λ j r r' e f. went_all _ _ c.args.replicas.now _ c.loop-j.invariant.seen (let all : length c.args.replicas.now ≤ c.loop-j.j = omega arith in all) j r r' e f

pub returns-clause-ends : goal.returns-clause-ends
returns-clause-ends g c = λ j r r' e f.
    went_every _ (λ (x y : Copy g.row.D.Denot). end_of x ≤ end_of y) _ c.args.replicas.now _ c.loop-j.invariant.seen (λ i x y p. delete_longer x y p) (λ x. omega arith) j r r' e f

pub returns-in-Err-clause-ends : goal.returns-in-Err-clause-ends
returns-in-Err-clause-ends g c = λ j r r' e f.
    let within : c.loop-j.j < length c.loop-j.replicas = omega arith in
    let here : Copy g.row.D.Denot = slice_index_or c.loop-j.replicas c.loop-j.j c.index-replicas-j.result in
    let there : At c.loop-j.replicas c.loop-j.j here = at_read c.loop-j.replicas c.loop-j.j c.index-replicas-j.result within in
    let K : ℕ → Copy g.row.D.Denot → Copy g.row.D.Denot → Type 0 = λ i x y. end_of x ≤ end_of y in
    let same = c.delete.ensures.stays.1 in
    went_every K (λ (x y : Copy g.row.D.Denot). end_of x ≤ end_of y) (c.loop-j.j + 1) c.args.replicas.now _
    (went_step _ K c.loop-j.j c.args.replicas.now c.loop-j.replicas here c.delete.new.self c.loop-j.invariant.seen there (λ i x y h p. delete_longer x y p) (omega (arith, same)))
    (λ i x y p. p) (λ x. omega arith) j r r' e f
