use Rattle.std.proofs.Common.{◌≡◌, ◌+◌, ◌<◌, List, ◌∷◌, [], ◌++◌, Vec, Global, length, map, refl, sym, ap, subst, ◌∙◌, arith, vec_len, vec_capacity}
use Rattle.std.specs.List.{AllByRecursion}
use Rattle.std.specs.Vec.{with_items}
use Rattle.hay_reply.specs.declared.Reply.{Reply}
use Rattle.hay_lane.specs.declared.lane.Lane.{Lane}
use Rattle.hay_block.specs.declared.worker.Job.{Job}
use Rattle.hay_block.specs.Seats.{HaveMore}
use Rattle.hay_block.proofs.Framing.{is_next, last_made, may_give, more_in, next_is_frame, room_stays, same_waiting}
use Rattle.hay_block.proofs.Lists.{none_there}
use Rattle.hay_block.proofs.Stepping.{back_here, run_step}
use Rattle.hay_shared_volume.specs.Making.{IsMadeOf, IsVolumeOf}
use Rattle.hay_volume_lock.specs.Seats.{Seated}
use Rattle.hay_block.proofs.frame.+run_from.Goals as goal

pub answer_lines-requires-clause-none : goal.answer_lines-requires-clause-none
answer_lines-requires-clause-none g t c κs within =
    none_there c.args.frame.waiting.items (vec_len c.args.frame.waiting) c.is_empty.result c.is_empty.ensures c.if-is_empty.true c.args.frame.waiting.ok.0

pub returns-in_default-with_capacity-clause-frame : goal.returns-in_default-with_capacity-clause-frame
returns-in_default-with_capacity-clause-frame g t c =
    same_waiting c.args.frame c.requires.frame c.push_reserved.new.self (c.push_reserved.ensures.items ∙ sym c.in-Some.ensures.items) (c.push_reserved.ensures.capacity ∙ c.in-Some.ensures.capacity)

pub returns-in_default-with_capacity-clause-refused : goal.returns-in_default-with_capacity-clause-refused
returns-in_default-with_capacity-clause-refused g t c =
    back_here c.args.frame c.args.frame.lanes c.push_reserved.new.self refl (c.push_reserved.ensures.items ∙ sym c.in-Some.ensures.items)

pub new-requires-clause-of : goal.new-requires-clause-of
new-requires-clause-of g t c =
    (length c.args.frame.shared.volumes.items, is_next c.args.frame c.args.frame.shared.volumes c.args.frame.lanes c.pop.new.self c.requires.frame c.in-Some.volume c.in-Some.ensures.items)

pub give_seats-requires-clause-as_many : goal.give_seats-requires-clause-as_many
give_seats-requires-clause-as_many g t c =
    let next : IsVolumeOf c.in-Some.volume c.args.frame.shared.settings (length c.args.frame.shared.volumes.items) =
    is_next c.args.frame c.args.frame.shared.volumes c.args.frame.lanes c.pop.new.self c.requires.frame c.in-Some.volume c.in-Some.ensures.items in
    let seated = c.in-Ok-new.ensures.seated (length c.args.frame.shared.volumes.items) next in
    let as_many : length c.in-Ok-new.seats.items ≡ length c.args.frame.lanes.items = omega (arith, seated.many, c.len-lanes.ensures, c.args.frame.lanes.ok.0) in
    as_many ∙ ap length (sym c.as_mut_slice.ensures.value)

pub give_seats-requires-clause-room : goal.give_seats-requires-clause-room
give_seats-requires-clause-room g t c =
    let fewer : vec_len c.pop.new.self + length (c.in-Some.volume ∷ []) ≡ vec_len c.args.frame.waiting = c.in-Some.ensures.len in
    subst (λ (ls : List (Lane (Seated g.row.D.Denot g.row.P.Denot) g.row.T.Denot g.row.A.Denot)).
    AllByRecursion (λ (l : Lane (Seated g.row.D.Denot g.row.P.Denot) g.row.T.Denot g.row.A.Denot). vec_len l.volumes < vec_capacity l.volumes) ls)
    (sym c.as_mut_slice.ensures.value) (may_give c.args.frame c.requires.frame (omega (arith, fewer, c.args.frame.waiting.ok.0)) c.requires.rooms)

pub run_from-frame-requires-clause-frame : goal.run_from-frame-requires-clause-frame
run_from-frame-requires-clause-frame g t c κs within =
    let waited : c.args.frame.waiting.items ≡ c.pop.new.self.items ++ c.in-Some.volume ∷ [] = c.in-Some.ensures.items in
    let next : IsVolumeOf c.in-Some.volume c.args.frame.shared.settings (length c.args.frame.shared.volumes.items) =
    is_next c.args.frame c.args.frame.shared.volumes c.args.frame.lanes c.pop.new.self c.requires.frame c.in-Some.volume c.in-Some.ensures.items in
    let seated = c.in-Ok-new.ensures.seated (length c.args.frame.shared.volumes.items) next in
    let seats : List (Seated g.row.D.Denot g.row.P.Denot) = c.in-Ok-new.seats.items in
    let lanes : Vec (Lane (Seated g.row.D.Denot g.row.P.Denot) g.row.T.Denot g.row.A.Denot) Global = with_items c.args.frame.lanes c.give_seats.new.lanes in
    let more : HaveMore c.args.frame.lanes.items seats lanes.items =
    more_in c.args.frame.lanes c.as_mut_slice.result.now c.give_seats.new.lanes seats c.as_mut_slice.ensures.value c.as_mut_slice.ensures.len c.give_seats.ensures.same c.give_seats.ensures.seats in
    let as_many : length seats ≡ length c.args.frame.lanes.items = omega (arith, seated.many, c.len-lanes.ensures, c.args.frame.lanes.ok.0) in
    next_is_frame c.args.frame c.push_reserved-in-Ok-new.new.self lanes c.pop.new.self c.requires.frame c.in-Some.volume waited c.in-Some.ensures.capacity c.in-Ok-new.lock
    c.push_reserved-in-Ok-new.ensures.items c.push_reserved-in-Ok-new.ensures.capacity seats more (record { many = as_many; each = seated.each }) c.requires.untold

pub run_from-frame-requires-clause-rooms : goal.run_from-frame-requires-clause-rooms
run_from-frame-requires-clause-rooms g t c κs within =
    let next : IsVolumeOf c.in-Some.volume c.args.frame.shared.settings (length c.args.frame.shared.volumes.items) =
    is_next c.args.frame c.args.frame.shared.volumes c.args.frame.lanes c.pop.new.self c.requires.frame c.in-Some.volume c.in-Some.ensures.items in
    let seated = c.in-Ok-new.ensures.seated (length c.args.frame.shared.volumes.items) next in
    let seats : List (Seated g.row.D.Denot g.row.P.Denot) = c.in-Ok-new.seats.items in
    let lanes : Vec (Lane (Seated g.row.D.Denot g.row.P.Denot) g.row.T.Denot g.row.A.Denot) Global = with_items c.args.frame.lanes c.give_seats.new.lanes in
    let more : HaveMore c.args.frame.lanes.items seats lanes.items =
    more_in c.args.frame.lanes c.as_mut_slice.result.now c.give_seats.new.lanes seats c.as_mut_slice.ensures.value c.as_mut_slice.ensures.len c.give_seats.ensures.same c.give_seats.ensures.seats in
    let as_many : length seats ≡ length c.args.frame.lanes.items = omega (arith, seated.many, c.len-lanes.ensures, c.args.frame.lanes.ok.0) in
    room_stays c.args.frame.shared.settings.volumes more as_many c.requires.rooms

pub end_lock-requires-clause-made : goal.end_lock-requires-clause-made
end_lock-requires-clause-made g t c =
    let waited : c.args.frame.waiting.items ≡ c.pop.new.self.items ++ c.in-Some.volume ∷ [] = c.in-Some.ensures.items in
    let next : IsVolumeOf c.in-Some.volume c.args.frame.shared.settings (length c.args.frame.shared.volumes.items) =
    is_next c.args.frame c.args.frame.shared.volumes c.args.frame.lanes c.pop.new.self c.requires.frame c.in-Some.volume waited in
    let made = last_made IsMadeOf c.args.frame.shared c.run_from-frame.result.0.shared c.push_reserved-in-Ok-new.new.self c.in-Ok-new.lock c.in-Ok-new.room c.in-Some.volume
    (vec_len c.run_from-frame.result.0.lanes) c.push_reserved-in-Ok-new.ensures.items c.run_from-frame.ensures.shared (c.in-Ok-new.ensures.made (length c.args.frame.shared.volumes.items) next)
    (omega (arith, c.len-lanes.ensures, c.run_from-frame.ensures.lanes)) in
    (c.in-Some.volume, c.in-Ok-new.lock, made.0, made.1)

pub returns-in-Ok-new : goal.returns-in-Ok-new
returns-in-Ok-new g t c =
    let waited : c.args.frame.waiting.items ≡ c.pop.new.self.items ++ c.in-Some.volume ∷ [] = c.in-Some.ensures.items in
    let next : IsVolumeOf c.in-Some.volume c.args.frame.shared.settings (length c.args.frame.shared.volumes.items) =
    is_next c.args.frame c.args.frame.shared.volumes c.args.frame.lanes c.pop.new.self c.requires.frame c.in-Some.volume waited in
    let seated = c.in-Ok-new.ensures.seated (length c.args.frame.shared.volumes.items) next in
    let seats : List (Seated g.row.D.Denot g.row.P.Denot) = c.in-Ok-new.seats.items in
    let lanes : Vec (Lane (Seated g.row.D.Denot g.row.P.Denot) g.row.T.Denot g.row.A.Denot) Global = with_items c.args.frame.lanes c.give_seats.new.lanes in
    let more : HaveMore c.args.frame.lanes.items seats lanes.items =
    more_in c.args.frame.lanes c.as_mut_slice.result.now c.give_seats.new.lanes seats c.as_mut_slice.ensures.value c.as_mut_slice.ensures.len c.give_seats.ensures.same c.give_seats.ensures.seats in
    let as_many : length seats ≡ length c.args.frame.lanes.items = omega (arith, seated.many, c.len-lanes.ensures, c.args.frame.lanes.ok.0) in
    let made = last_made IsMadeOf c.args.frame.shared c.run_from-frame.result.0.shared c.push_reserved-in-Ok-new.new.self c.in-Ok-new.lock c.in-Ok-new.room c.in-Some.volume
    (vec_len c.run_from-frame.result.0.lanes) c.push_reserved-in-Ok-new.ensures.items c.run_from-frame.ensures.shared (c.in-Ok-new.ensures.made (length c.args.frame.shared.volumes.items) next)
    (omega (arith, c.len-lanes.ensures, c.run_from-frame.ensures.lanes)) in
    let step =
    run_step c.args.frame c.push_reserved-in-Ok-new.new.self lanes c.pop.new.self c.in-Ok-new.lock c.requires.frame c.run_from-frame.ensures.frame c.end_lock.ensures.frame
    c.push_reserved-in-Ok-new.ensures.items waited more as_many c.in-Ok-new.ensures.unseen c.run_from-frame.ensures.shared
    (c.end_lock.ensures.ends c.in-Some.volume c.in-Ok-new.lock made.0 made.1)
    (c.in-Ok-new.ensures.told (length c.args.frame.shared.volumes.items) next) (c.in-Ok-new.ensures.regular (length c.args.frame.shared.volumes.items) next)
    (map (λ (js : Vec Job Global). js.items) c.args.jobs.now) c.run_from-frame.result.1 (λ (replies : Vec (Vec Reply Global) Global). map (λ (rs : Vec Reply Global). rs.items) replies.items) in
    record {
      frame = c.end_lock.ensures.frame;
      shared = step.0;
      lanes = c.end_lock.ensures.lanes ∙ c.run_from-frame.ensures.lanes;
      answered = step.1 c.run_from-frame.ensures.answered;
      refused = step.2 c.run_from-frame.ensures.refused;
    }

pub returns-in-Err-clause-frame : goal.returns-in-Err-clause-frame
returns-in-Err-clause-frame g t c =
    same_waiting c.args.frame c.requires.frame c.push_reserved-in-Err.new.self
    (c.push_reserved-in-Err.ensures.items ∙ (ap (λ v. c.pop.new.self.items ++ v ∷ []) c.in-Err.ensures.refused ∙ sym c.in-Some.ensures.items))
    (c.push_reserved-in-Err.ensures.capacity ∙ c.in-Some.ensures.capacity)

pub returns-in-Err-clause-refused : goal.returns-in-Err-clause-refused
returns-in-Err-clause-refused g t c =
    back_here c.args.frame c.args.frame.lanes c.push_reserved-in-Err.new.self refl
    (c.push_reserved-in-Err.ensures.items ∙ (ap (λ v. c.pop.new.self.items ++ v ∷ []) c.in-Err.ensures.refused ∙ sym c.in-Some.ensures.items))
