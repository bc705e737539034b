use Rattle.std.proofs.Common.{◌≡◌, ◌+◌, ◌-◌, ◌<◌, ℕ, List, ◌∷◌, [], ◌++◌, Vec, Global, length, refl, sym, ap, subst, ◌∙◌, arith, Some, slice_get, vec_len}
use Rattle.std.specs.List.{AllByRecursion}
use Rattle.std.specs.Vec.{with_items}
use Rattle.hay_lane.specs.declared.lane.Lane.{Lane}
use Rattle.hay_block.specs.Seats.{HaveMore}
use Rattle.hay_block.proofs.Framing.{ended_is_frame, fewer_in, may_take, taken_fit}
use Rattle.hay_block.proofs.Lists.{last_at, same_item}
use Rattle.hay_shared_volume.specs.Making.{AreSeated, IsMadeOf, IsVolumeOf}
use Rattle.hay_shared_volume.specs.Seats.{IsSeatOf}
use Rattle.hay_volume_lock.specs.Seats.{Seated}
use Rattle.hay_block.proofs.frame.end_lock.Goals as goal

pub take_seats-seats-requires-clause-some : goal.take_seats-seats-requires-clause-some
take_seats-seats-requires-clause-some g c =
    subst (λ (ls : List (Lane (Seated g.row.D.Denot g.row.P.Denot) g.row.T.Denot g.row.A.Denot)).
    AllByRecursion (λ (l : Lane (Seated g.row.D.Denot g.row.P.Denot) g.row.T.Denot g.row.A.Denot). 0 < vec_len l.volumes) ls) (sym c.as_mut_slice.ensures.value)
    (may_take c.args.frame c.requires.frame (omega (arith, c.requires.some, c.args.frame.shared.volumes.ok.0)))

pub close-volume-requires : goal.close-volume-requires
close-volume-requires g c =
    let seats : List (Seated g.row.D.Denot g.row.P.Denot) = c.take_seats-seats.result.items in
    let last : ℕ = vec_len c.args.frame.shared.volumes - 1 in
    let lanes : Vec (Lane (Seated g.row.D.Denot g.row.P.Denot) g.row.T.Denot g.row.A.Denot) Global = with_items c.args.frame.lanes c.take_seats-seats.new.lanes in
    let more : HaveMore lanes.items seats c.args.frame.lanes.items =
    fewer_in c.args.frame.lanes c.as_mut_slice.result.now c.take_seats-seats.new.lanes seats c.as_mut_slice.ensures.value c.as_mut_slice.ensures.len c.take_seats-seats.ensures.same
    c.take_seats-seats.ensures.seats in
    let as_many : length seats ≡ length c.args.frame.lanes.items = c.take_seats-seats.ensures.as_many ∙ ap length c.as_mut_slice.ensures.value in
    let popped : c.args.frame.shared.volumes.items ≡ c.pop.new.self.items ++ c.in-Some.lock ∷ [] = c.in-Some.ensures.items in
    let lock_is : c.requires.made.1 ≡ c.in-Some.lock = same_item c.args.frame.shared.volumes.items last c.requires.made.2
    (last_at c.pop.new.self.items c.args.frame.shared.volumes.items c.in-Some.lock (vec_len c.args.frame.shared.volumes) popped (let n = c.args.frame.shared.volumes.ok.0 in omega (arith, n))) in
    let many : vec_len c.args.frame.lanes ≡ length seats = omega (arith, as_many, c.args.frame.lanes.ok.0) in
    let fewer : vec_len c.pop.new.self + length (c.in-Some.lock ∷ []) ≡ vec_len c.args.frame.shared.volumes = c.in-Some.ensures.len in
    let number : last ≡ length c.pop.new.self.items = let n = c.pop.new.self.ok.0 in omega (arith, fewer, n) in
    record {
      made = (
        c.requires.made.0,
        c.args.frame.shared.settings,
        last,
        subst (IsMadeOf c.in-Some.lock c.args.room c.requires.made.0 c.args.frame.shared.settings last) many
            (subst (λ z. IsMadeOf z c.args.room c.requires.made.0 c.args.frame.shared.settings last (vec_len c.args.frame.lanes)) lock_is c.requires.made.3),
        subst (λ n. AreSeated (IsSeatOf n) c.in-Some.lock c.args.frame.shared.settings (length seats) seats) (sym number)
            (taken_fit c.args.frame c.requires.frame c.pop.new.self c.in-Some.lock popped lanes seats more as_many),
      );
    }

pub returns : goal.returns
returns g c =
    let seats : List (Seated g.row.D.Denot g.row.P.Denot) = c.take_seats-seats.result.items in
    let last : ℕ = vec_len c.args.frame.shared.volumes - 1 in
    let lanes : Vec (Lane (Seated g.row.D.Denot g.row.P.Denot) g.row.T.Denot g.row.A.Denot) Global = with_items c.args.frame.lanes c.take_seats-seats.new.lanes in
    let more : HaveMore lanes.items seats c.args.frame.lanes.items =
    fewer_in c.args.frame.lanes c.as_mut_slice.result.now c.take_seats-seats.new.lanes seats c.as_mut_slice.ensures.value c.as_mut_slice.ensures.len c.take_seats-seats.ensures.same
    c.take_seats-seats.ensures.seats in
    let as_many : length seats ≡ length c.args.frame.lanes.items = c.take_seats-seats.ensures.as_many ∙ ap length c.as_mut_slice.ensures.value in
    let popped : c.args.frame.shared.volumes.items ≡ c.pop.new.self.items ++ c.in-Some.lock ∷ [] = c.in-Some.ensures.items in
    let popped_at : slice_get c.args.frame.shared.volumes.items last ≡ Some c.in-Some.lock =
    last_at c.pop.new.self.items c.args.frame.shared.volumes.items c.in-Some.lock (vec_len c.args.frame.shared.volumes) popped (let n = c.args.frame.shared.volumes.ok.0 in omega (arith, n)) in
    let lock_is : c.requires.made.1 ≡ c.in-Some.lock = same_item c.args.frame.shared.volumes.items last c.requires.made.2 popped_at in
    let many : vec_len c.args.frame.lanes ≡ length seats = omega (arith, as_many, c.args.frame.lanes.ok.0) in
    let fewer : vec_len c.pop.new.self + length (c.in-Some.lock ∷ []) ≡ vec_len c.args.frame.shared.volumes = c.in-Some.ensures.len in
    let number : last ≡ length c.pop.new.self.items = let n = c.pop.new.self.ok.0 in omega (arith, fewer, n) in
    let of = c.close-volume.ensures.of c.requires.made.0 c.args.frame.shared.settings last
    (subst (IsMadeOf c.in-Some.lock c.args.room c.requires.made.0 c.args.frame.shared.settings last) many
    (subst (λ z. IsMadeOf z c.args.room c.requires.made.0 c.args.frame.shared.settings last (vec_len c.args.frame.lanes)) lock_is c.requires.made.3)) in
    record {
      frame = ended_is_frame c.args.frame c.requires.frame c.pop.new.self c.in-Some.lock popped lanes seats more as_many c.push_reserved.new.self c.close-volume.result.0 c.push_reserved.ensures.items
          (subst (IsVolumeOf c.close-volume.result.0 c.args.frame.shared.settings) number of)
          c.push_reserved-2.new.self c.close-volume.result.1 c.push_reserved-2.ensures.items c.in-Some.ensures.capacity c.push_reserved.ensures.capacity c.push_reserved-2.ensures.capacity;
      lanes = refl;
      ends = λ before lock at made.
          let same : lock ≡ c.in-Some.lock = same_item c.args.frame.shared.volumes.items last at popped_at in
          record {
            lock = c.in-Some.lock;
            locks = popped;
            settings = refl;
            directory = refl;
            drained = refl;
            seats = seats;
            lanes = more;
            as_many = as_many ∙ more.many;
            behind = c.close-volume.result.0;
            waiting = c.push_reserved.ensures.items;
            tags = c.close-volume.result.1;
            told = c.push_reserved-2.ensures.items;
            left = c.close-volume.ensures.left before c.args.frame.shared.settings last
                (subst (IsMadeOf c.in-Some.lock c.args.room before c.args.frame.shared.settings last) many
                (subst (λ z. IsMadeOf z c.args.room before c.args.frame.shared.settings last (vec_len c.args.frame.lanes)) same made))
                (subst (λ n. AreSeated (IsSeatOf n) c.in-Some.lock c.args.frame.shared.settings (length seats) seats) (sym number)
                (taken_fit c.args.frame c.requires.frame c.pop.new.self c.in-Some.lock popped lanes seats more as_many));
          };
    }
