use Rattle.std.proofs.Common.{◌≡◌, ◌<◌, length, Err, Some, inl, inr, refl, sym, ap, subst, ◌∙◌, arith}
use Rattle.hay_map.specs.Places.{place_in}
use Rattle.hay_map.specs.Rows.{row_at}
use Rattle.hay_map.specs.declared.place.Place.TheVariants as place
use Rattle.hay_compact.specs.Finishing.{IsSeen}
use Rattle.hay_physical.specs.declared.fault.ReplicaFault.{ReplicaFault}
use Rattle.hay_logical.specs.Draws.{DrawsAtMost, look_total}
use Rattle.hay_logical.specs.ReplicaCalls.{IsSeenBy, LookAwaited}
use Rattle.hay_logical.proofs.Looking.{Looked, becomes_same, becomes_seen, same_places, same_sets, set_here, set_places, sets_this, sight_seen, sights_looked, sights_none}
use Rattle.hay_physical.specs.OpenCopies.{volume_bytes}
use Rattle.hay_physical.proofs.Whole.{whole_of}
use Rattle.hay_logical.specs.Needles.{IsToldBy, LacksSeen}
use Rattle.hay_logical.specs.Sights.{AwaitsLook, sight, sights_of}
use Rattle.hay_logical.specs.Sights.Sight.{Unseen}
use Rattle.hay_logical.proofs.Needles.{told_place, told_same}
use Rattle.hay_logical.proofs.SightChanges.{awaited_by, cell_sight, seen_sight, sees_kept, sees_set}
use Rattle.hay_logical.proofs.sights.see.Goals as goal

pub returns-in-Ok-see-clause-sights : goal.returns-in-Ok-see-clause-sights
returns-in-Ok-see-clause-sights g c =
    let T = g.D.Disk.Tells in
    let files = g.D.Disk.files in
    let seen = c.in-Ok.ensures in
    let was : place_in (row_at c.args.rows.now c.args.pair) c.args.at ≡ place.Unseen c.in-Unseen.place c.in-Unseen.size =
    sym (c.place.ensures ∙ ap (λ l. place_in l c.args.at) c.row-row.ensures.row) ∙ c.in-Unseen.is in
    let long : c.args.at < length (row_at c.args.rows.now c.args.pair) =
    let w = c.requires.within in let l = c.row-row.ensures.long in subst (λ x. c.args.at < length x) c.row-row.ensures.row (omega (arith, w, l)) in
    sights_looked T files g.D.Disk.fault_count g.D.Piece.Piece.Tells c.args.pair c.args.rows.now c.see.new.self c.args.at c.args.replica.now c.cell.new.self c.in-Unseen.place
    c.in-Unseen.size c.in-Ok.seen _
    (record { same = c.cell.ensures.same; stands = c.cell.ensures.stands; run = c.cell.ensures.run; deletes = c.cell.ensures.deletes; sees = c.cell.ensures.sees }) was
    (set_places c.args.pair c.args.at c.args.rows.now c.see.new.self c.in-Ok.seen c.in-Ok-see.ensures.ok.rows long)
    (λ tells. becomes_seen T files g.D.Piece.Piece.Tells c.in-Unseen.place c.in-Unseen.size c.args.pair c.in-Ok.seen c.args.replica.now c.cell.new.self seen.needle.0 seen.needle.3 seen.needle.1.place
    (λ cell stands here. (seen.known tells cell stands here).1) (seen.can_delete tells)
    (whole_of g.D.Piece.Piece.Tells (Some seen.needle.0) c.in-Ok.seen (seen.known tells seen.needle.0 (seen.needle.4 tells) seen.needle.1.place).1))
    c.requires.«open» c.cell.ensures.holds (λ tells. record { now = c.cell.ensures.now tells; solid = c.cell.ensures.solid tells; leaves = c.cell.ensures.leaves tells })
    (sight_seen T files g.D.Piece.Piece.Tells seen.needle.0 c.in-Ok.seen seen.needle.3) (λ tells k e cell stands here size. cc) tt

pub returns-in-Ok-see-clause-row : goal.returns-in-Ok-see-clause-row
returns-in-Ok-see-clause-row g c =
    let seen = c.in-Ok.ensures in
    let was : place_in (row_at c.args.rows.now c.args.pair) c.args.at ≡ place.Unseen c.in-Unseen.place c.in-Unseen.size =
    sym (c.place.ensures ∙ ap (λ l. place_in l c.args.at) c.row-row.ensures.row) ∙ c.in-Unseen.is in
    let long : c.args.at < length (row_at c.args.rows.now c.args.pair) =
    let w = c.requires.within in let l = c.row-row.ensures.long in subst (λ x. c.args.at < length x) c.row-row.ensures.row (omega (arith, w, l)) in
    record {
      width = c.in-Ok-see.ensures.ok.replicas;
      set = sets_this c.args.pair c.args.at c.args.rows.now c.see.new.self c.in-Ok.seen c.in-Ok-see.ensures.ok.rows long;
      sees = sees_set c.args.rows.now c.see.new.self c.args.pair c.args.at c.in-Unseen.place c.in-Unseen.size c.in-Ok.seen c.in-Ok-see.ensures.ok.rows long (ap (λ p. sight p) was)
          (cell_sight seen.needle.0 c.in-Unseen.place c.in-Ok.seen seen.needle.1.place seen.needle.3);
      kept = tt;
      unseen = tt;
    }

pub returns-in-Ok-clause-sights : goal.returns-in-Ok-clause-sights
returns-in-Ok-clause-sights g c =
    let T = g.D.Disk.Tells in
    let files = g.D.Disk.files in
    let was : place_in (row_at c.args.rows.now c.args.pair) c.args.at ≡ place.Unseen c.in-Unseen.place c.in-Unseen.size =
    sym (c.place.ensures ∙ ap (λ l. place_in l c.args.at) c.row-row.ensures.row) ∙ c.in-Unseen.is in
    let looked : Looked T files c.in-Unseen.place c.in-Unseen.size c.args.replica.now c.cell.new.self = record {
      same = c.cell.ensures.same;
      stands = c.cell.ensures.stands;
      run = c.cell.ensures.run;
      deletes = c.cell.ensures.deletes;
      sees = c.cell.ensures.sees;
    } in
    sights_looked T files g.D.Disk.fault_count g.D.Piece.Piece.Tells c.args.pair c.args.rows.now c.see.new.self c.args.at c.args.replica.now c.cell.new.self c.in-Unseen.place
    c.in-Unseen.size (place.Unseen c.in-Unseen.place c.in-Unseen.size) _
    looked was (same_places c.args.pair c.args.at c.args.rows.now c.see.new.self (place.Unseen c.in-Unseen.place c.in-Unseen.size) was c.in-Err-see.ensures.err.rows)
    (λ tells. becomes_same T files g.D.Piece.Piece.Tells tells c.in-Unseen.place c.in-Unseen.size c.args.pair c.args.replica.now c.cell.new.self looked)
    c.requires.«open» c.cell.ensures.holds (λ tells. record { now = c.cell.ensures.now tells; solid = c.cell.ensures.solid tells; leaves = c.cell.ensures.leaves tells }) tt
    (λ tells k e cell stands here size. cc) tt

pub returns-in-None-clause-sights : goal.returns-in-None-clause-sights
returns-in-None-clause-sights g c =
    let seen : IsSeen c.place.result.now = elim c.in-None.is [
      | inl none ↦ subst IsSeen (sym none) tt
      | inr others ↦ elim others [ inl live ↦ subst IsSeen (sym live.1) tt | inr gone ↦ subst IsSeen (sym gone) tt ]
    ] in
    sights_none g.D.Disk.Tells g.D.Disk.files g.D.Disk.fault_count g.D.Piece.Piece.Tells c.args.pair c.args.rows.now c.args.rows.now c.args.at c.args.replica.now c.args.replica.now refl refl
    (subst IsSeen (c.place.ensures ∙ ap (λ l. place_in l c.args.at) c.row-row.ensures.row) seen)

pub returns-in-None-clause-row : goal.returns-in-None-clause-row
returns-in-None-clause-row g c =
    let seen : IsSeen c.place.result.now = elim c.in-None.is [
      | inl none ↦ subst IsSeen (sym none) tt
      | inr others ↦ elim others [ inl live ↦ subst IsSeen (sym live.1) tt | inr gone ↦ subst IsSeen (sym gone) tt ]
    ] in
    let here : IsSeen (place_in (row_at c.args.rows.now c.args.pair) c.args.at) = subst IsSeen (c.place.ensures ∙ ap (λ l. place_in l c.args.at) c.row-row.ensures.row) seen in
    record {
      width = refl;
      set = same_sets c.args.pair c.args.at c.args.rows.now c.args.rows.now (λ q. refl);
      sees = sees_kept c.args.pair c.args.at (sights_of c.args.rows.now) (sights_of c.args.rows.now) (λ q j. refl) (seen_sight (place_in (row_at c.args.rows.now c.args.pair) c.args.at) here);
      kept = tt;
      unseen = tt;
    }

pub returns-in-Ok-clause-row : goal.returns-in-Ok-clause-row
returns-in-Ok-clause-row g c =
    let was : place_in (row_at c.args.rows.now c.args.pair) c.args.at ≡ place.Unseen c.in-Unseen.place c.in-Unseen.size =
    sym (c.place.ensures ∙ ap (λ l. place_in l c.args.at) c.row-row.ensures.row) ∙ c.in-Unseen.is in
    record { width = c.in-Err-see.ensures.err.replicas; set = tt; sees = tt; kept = c.in-Err-see.ensures.err.rows; unseen = subst (λ p. AwaitsLook (sight p)) (sym was) tt }

pub returns-clause-row : goal.returns-clause-row
returns-clause-row g c =
    let was : place_in (row_at c.args.rows.now c.args.pair) c.args.at ≡ place.Unseen c.in-Unseen.place c.in-Unseen.size =
    sym (c.place.ensures ∙ ap (λ l. place_in l c.args.at) c.row-row.ensures.row) ∙ c.in-Unseen.is in
    record {
      width = refl;
      set = tt;
      sees = tt;
      kept = λ q. refl;
      unseen = subst (λ p. LookAwaited (sight p) c.in-Err.fault) (sym was)
          (awaited_by c.in-Unseen.place c.in-Unseen.size c.in-Err.fault _ _ c.in-Err.ensures.causes (λ k e. c.in-Err.ensures.place k (ap (λ (f : ReplicaFault). Err f) e)));
    }

pub returns-clause-sights : goal.returns-clause-sights
returns-clause-sights g c =
    let T = g.D.Disk.Tells in
    let files = g.D.Disk.files in
    let was : place_in (row_at c.args.rows.now c.args.pair) c.args.at ≡ place.Unseen c.in-Unseen.place c.in-Unseen.size =
    sym (c.place.ensures ∙ ap (λ l. place_in l c.args.at) c.row-row.ensures.row) ∙ c.in-Unseen.is in
    let looked : Looked T files c.in-Unseen.place c.in-Unseen.size c.args.replica.now c.cell.new.self = record {
      same = c.cell.ensures.same;
      stands = c.cell.ensures.stands;
      run = c.cell.ensures.run;
      deletes = c.cell.ensures.deletes;
      sees = c.cell.ensures.sees;
    } in
    sights_looked T files g.D.Disk.fault_count g.D.Piece.Piece.Tells c.args.pair c.args.rows.now c.args.rows.now c.args.at c.args.replica.now c.cell.new.self c.in-Unseen.place
    c.in-Unseen.size (place.Unseen c.in-Unseen.place c.in-Unseen.size) _
    looked was (same_places c.args.pair c.args.at c.args.rows.now c.args.rows.now (place.Unseen c.in-Unseen.place c.in-Unseen.size) was (λ q. refl))
    (λ tells. becomes_same T files g.D.Piece.Piece.Tells tells c.in-Unseen.place c.in-Unseen.size c.args.pair c.args.replica.now c.cell.new.self looked)
    c.requires.«open» c.cell.ensures.holds (λ tells. record { now = c.cell.ensures.now tells; solid = c.cell.ensures.solid tells; leaves = c.cell.ensures.leaves tells }) tt
    (λ tells k e. c.in-Err.ensures.damaged tells k (ap (λ (f : ReplicaFault). Err f) (let same : c.in-Err.fault ≡ ReplicaFault.Damaged k = cc in same))) c.in-Err.ensures.causes

pub returns-in-Ok-see-clause-drawn : goal.returns-in-Ok-see-clause-drawn
returns-in-Ok-see-clause-drawn g c = λ tells.
    let was : place_in (row_at c.args.rows.now c.args.pair) c.args.at ≡ place.Unseen c.in-Unseen.place c.in-Unseen.size =
    sym (c.place.ensures ∙ ap (λ l. place_in l c.args.at) c.row-row.ensures.row) ∙ c.in-Unseen.is in
    subst (λ p. DrawsAtMost g.D.Disk.drawn (look_total p) c.args.replica.now c.cell.new.self) (sym was) (c.cell.ensures.drawn tells)

pub returns-in-Ok-clause-drawn : goal.returns-in-Ok-clause-drawn
returns-in-Ok-clause-drawn g c = λ tells.
    let was : place_in (row_at c.args.rows.now c.args.pair) c.args.at ≡ place.Unseen c.in-Unseen.place c.in-Unseen.size =
    sym (c.place.ensures ∙ ap (λ l. place_in l c.args.at) c.row-row.ensures.row) ∙ c.in-Unseen.is in
    subst (λ p. DrawsAtMost g.D.Disk.drawn (look_total p) c.args.replica.now c.cell.new.self) (sym was) (c.cell.ensures.drawn tells)

pub returns-clause-drawn : goal.returns-clause-drawn
returns-clause-drawn g c = λ tells.
    let was : place_in (row_at c.args.rows.now c.args.pair) c.args.at ≡ place.Unseen c.in-Unseen.place c.in-Unseen.size =
    sym (c.place.ensures ∙ ap (λ l. place_in l c.args.at) c.row-row.ensures.row) ∙ c.in-Unseen.is in
    subst (λ p. DrawsAtMost g.D.Disk.drawn (look_total p) c.args.replica.now c.cell.new.self) (sym was) (c.cell.ensures.drawn tells)

pub returns-in-None-clause-drawn : goal.returns-in-None-clause-drawn
returns-in-None-clause-drawn g c = λ tells n. omega arith

pub returns-in-Ok-see-clause-needle : goal.returns-in-Ok-see-clause-needle
returns-in-Ok-see-clause-needle g c = λ unseen.
    let seen = c.in-Ok.ensures in
    let long : c.args.at < length (row_at c.args.rows.now c.args.pair) =
    let w = c.requires.within in let l = c.row-row.ensures.long in subst (λ x. c.args.at < length x) c.row-row.ensures.row (omega (arith, w, l)) in
    let here : place_in (row_at c.see.new.self c.args.pair) c.args.at ≡ c.in-Ok.seen = set_here c.args.pair c.args.at c.args.rows.now c.see.new.self c.in-Ok.seen c.in-Ok-see.ensures.ok.rows long in
    subst (λ p. IsSeenBy g.D.Disk.Tells g.D.Piece.Piece.Tells c.cell.new.out.items p) (sym here)
    (record { cell = seen.needle.0; needle = seen.needle.1.is; sight = seen.needle.3; place = λ tells. (seen.known tells seen.needle.0 (seen.needle.4 tells) seen.needle.1.place).1 })

pub returns-in-None-clause-needle : goal.returns-in-None-clause-needle
returns-in-None-clause-needle g c = λ unseen.
    let seen : IsSeen c.place.result.now = elim c.in-None.is [
      | inl none ↦ subst IsSeen (sym none) tt
      | inr others ↦ elim others [ inl live ↦ subst IsSeen (sym live.1) tt | inr gone ↦ subst IsSeen (sym gone) tt ]
    ] in
    absurd (unseen (subst IsSeen (c.place.ensures ∙ ap (λ l. place_in l c.args.at) c.row-row.ensures.row) seen))

pub returns-in-None-clause-told : goal.returns-in-None-clause-told
returns-in-None-clause-told g c = λ tells. record {
  told = told_same (volume_bytes g.D.Disk.files c.args.replica.now) (sights_of c.args.rows.now c.args.pair c.args.at) (sights_of c.args.rows.now c.args.pair c.args.at) refl;
  lacks = λ place e. absurd cc;
}

pub returns-in-Ok-see-clause-told : goal.returns-in-Ok-see-clause-told
returns-in-Ok-see-clause-told g c = λ tells.
    let file = volume_bytes g.D.Disk.files c.args.replica.now in
    let was : place_in (row_at c.args.rows.now c.args.pair) c.args.at ≡ place.Unseen c.in-Unseen.place c.in-Unseen.size =
    sym (c.place.ensures ∙ ap (λ l. place_in l c.args.at) c.row-row.ensures.row) ∙ c.in-Unseen.is in
    let long : c.args.at < length (row_at c.args.rows.now c.args.pair) =
    let w = c.requires.within in let l = c.row-row.ensures.long in subst (λ x. c.args.at < length x) c.row-row.ensures.row (omega (arith, w, l)) in
    let here : place_in (row_at c.see.new.self c.args.pair) c.args.at ≡ c.in-Ok.seen = set_here c.args.pair c.args.at c.args.rows.now c.see.new.self c.in-Ok.seen c.in-Ok-see.ensures.ok.rows long in
    record {
      told = subst (λ p. IsToldBy file (sight p) (sights_of c.see.new.self c.args.pair c.args.at)) (sym was)
          (subst (λ p. IsToldBy file (Unseen c.in-Unseen.place c.in-Unseen.size) (sight p)) (sym here) (told_place file c.in-Unseen.place c.in-Unseen.size c.in-Ok.seen (c.in-Ok.ensures.told tells)));
      lacks = λ place e. absurd cc;
    }

pub returns-in-Ok-clause-told : goal.returns-in-Ok-clause-told
returns-in-Ok-clause-told g c = λ tells. record {
  told = told_same (volume_bytes g.D.Disk.files c.args.replica.now) (sights_of c.args.rows.now c.args.pair c.args.at) (sights_of c.see.new.self c.args.pair c.args.at)
      (ap (λ l. sight (place_in l c.args.at)) (c.in-Err-see.ensures.err.rows c.args.pair));
  lacks = λ place e. absurd cc;
}

pub returns-clause-told : goal.returns-clause-told
returns-clause-told g c = λ tells.
    let file = volume_bytes g.D.Disk.files c.args.replica.now in
    let was : place_in (row_at c.args.rows.now c.args.pair) c.args.at ≡ place.Unseen c.in-Unseen.place c.in-Unseen.size =
    sym (c.place.ensures ∙ ap (λ l. place_in l c.args.at) c.row-row.ensures.row) ∙ c.in-Unseen.is in
    record {
      told = told_same file (sights_of c.args.rows.now c.args.pair c.args.at) (sights_of c.args.rows.now c.args.pair c.args.at) refl;
      lacks = λ there e.
          let same : c.in-Err.fault ≡ ReplicaFault.Damaged there = cc in
          let by = ap (λ (f : ReplicaFault). Err f) same in
          subst (λ p. LacksSeen file there (sight p)) (sym was) (c.in-Err.ensures.place there by, c.in-Err.ensures.lacks tells there by);
    }
