use Rattle.std.proofs.Common.{◌≡◌, length, sym, ap, subst, ◌∙◌}
use Rattle.std.specs.Prelude.{IfErr, IfOk, OnErr, OnOk}
use Rattle.hay_needle.specs.declared.needle.Pair.{Pair}
use Rattle.hay_needle.specs.Tables.{outcome_at}
use Rattle.hay_legal.specs.Known as legal
use Rattle.hay_legal.specs.Known.{replica_at}
use Rattle.hay_map.specs.Places.{PlaceMeans, place_in}
use Rattle.hay_map.specs.Rows.{row_at}
use Rattle.hay_compact.specs.Finishing.{IsSeen}
use Rattle.hay_logical.specs.Answers.{IsSightFault}
use Rattle.hay_logical.specs.ReplicaCalls.{IsSeenBy, SetsPlaceAt}
use Rattle.hay_logical.specs.Sights.{SeeRefusedSights, SeesPair, sights_of}
use Rattle.hay_logical.proofs.logical.Logical.see.Goals as goal
use Rattle.hay_logical.proofs.logical.Logical.see.Goals.{in-Ok, in-Err}

pub returns-clause-undamaged : goal.returns-clause-undamaged
returns-clause-undamaged g c = λ tells k stands m at e. elim c.match-see_in.branch [
  | in-Ok w ↦ let wrong = sym w.result-is ∙ e in cc
  | in-Err w ↦ c.see_in.ensures.undamaged tells k stands m at (let was = w.in-Err.is in let is = w.result-is in cc)
]

pub returns-clause-seen : goal.returns-clause-seen
returns-clause-seen g c = elim c.match-see_in.branch [
  | in-Ok w ↦
      let seen = subst (λ x. OnOk x (IsSeen (place_in (row_at c.see_in.new.self.rows c.args.pair) c.args.replica))) w.in-Ok.is c.see_in.ensures.seen in
      subst (λ r. IfOk r (λ looked. IsSeen (place_in looked.row c.args.replica))) (sym w.result-is)
      (subst (λ l. IsSeen (place_in l c.args.replica)) (sym (w.row.ensures.row ∙ ap (λ v. row_at v.rows c.args.pair) c.self.view_is)) seen)
  | in-Err w ↦ rw w.result-is tt
]

pub returns-clause-kept : goal.returns-clause-kept
returns-clause-kept g c = elim c.match-see_in.branch [
  | in-Ok w ↦ rw w.result-is tt
  | in-Err w ↦
      let kept = subst (λ x. OnErr x ((other : Pair) → row_at c.see_in.new.self.rows other ≡ row_at c.args.self.now.rows other)) w.in-Err.is c.see_in.ensures.kept in
      subst (λ r. OnErr r ((other : Pair) → row_at c.see_in.new.self.rows other ≡ row_at c.args.self.now.rows other)) (sym w.result-is) kept
]

pub returns-clause-causes : goal.returns-clause-causes
returns-clause-causes g c = elim c.match-see_in.branch [
  | in-Ok w ↦ rw w.result-is tt
  | in-Err w ↦
      let cause =
      subst (λ x. IfErr x (IsSightFault g.D.Disk.fault_count c.args.self.now.settings c.args.self.now.number c.args.self.now.replicas c.see_in.new.self.replicas)) w.in-Err.is
      c.see_in.ensures.causes in
      subst (λ r. IfErr r (IsSightFault g.D.Disk.fault_count c.args.self.now.settings c.args.self.now.number c.args.self.now.replicas c.see_in.new.self.replicas)) (sym w.result-is) cause
]

pub returns-clause-known : goal.returns-clause-known
returns-clause-known g c = λ tells k stands. elim c.match-see_in.branch [
  | in-Ok w ↦
      let known =
      subst (λ x. OnOk x ((c.see_in.new.self.front ≡ length k.log) × PlaceMeans g.D.Piece.Piece.Tells c.args.pair
      (place_in (row_at c.see_in.new.self.rows c.args.pair) c.args.replica) (outcome_at (legal.now k (replica_at k c.args.replica)) c.args.pair))) w.in-Ok.is
      (c.see_in.ensures.known tells k stands) in
      subst (λ r. IfOk r (λ looked. (looked.front ≡ length k.log) × PlaceMeans g.D.Piece.Piece.Tells c.args.pair (place_in looked.row c.args.replica)
      (outcome_at (legal.now k (replica_at k c.args.replica)) c.args.pair))) (sym w.result-is) (
        ap (λ v. v.front) c.self.view_is ∙ known.0,
        subst (λ l. PlaceMeans g.D.Piece.Piece.Tells c.args.pair (place_in l c.args.replica)
            (outcome_at (legal.now k (replica_at k c.args.replica)) c.args.pair)) (sym (w.row.ensures.row ∙ ap (λ v. row_at v.rows c.args.pair) c.self.view_is)) known.1,
      )
  | in-Err w ↦ rw w.result-is tt
]

pub returns-clause-row : goal.returns-clause-row
returns-clause-row g c = elim c.match-see_in.branch [
  | in-Ok w ↦
      let set =
      subst (λ x. OnOk x (SetsPlaceAt c.args.pair c.args.replica (place_in (row_at c.see_in.new.self.rows c.args.pair) c.args.replica) c.args.self.now.rows
      c.see_in.new.self.rows)) w.in-Ok.is c.see_in.ensures.row in
      subst (λ r. IfOk r (λ looked. SetsPlaceAt c.args.pair c.args.replica (place_in looked.row c.args.replica) c.args.self.now.rows c.see_in.new.self.rows)) (sym w.result-is)
      (subst (λ l. SetsPlaceAt c.args.pair c.args.replica (place_in l c.args.replica) c.args.self.now.rows c.see_in.new.self.rows)
      (sym (w.row.ensures.row ∙ ap (λ v. row_at v.rows c.args.pair) c.self.view_is)) set)
  | in-Err w ↦ rw w.result-is tt
]

pub returns-clause-answered : goal.returns-clause-answered
returns-clause-answered g c = elim c.match-see_in.branch [
  | in-Ok w ↦
      subst (λ r. IfOk r (λ looked. (looked.front ≡ c.see_in.new.self.front) × (looked.row ≡ row_at c.see_in.new.self.rows c.args.pair))) (sym w.result-is)
      (ap (λ v. v.front) c.self.view_is, w.row.ensures.row ∙ ap (λ v. row_at v.rows c.args.pair) c.self.view_is)
  | in-Err w ↦ rw w.result-is tt
]

pub returns-clause-machine : goal.returns-clause-machine
returns-clause-machine g c = λ m count e. elim c.match-see_in.branch [
  | in-Ok w ↦ let wrong = sym w.result-is ∙ e in cc
  | in-Err w ↦ c.see_in.ensures.machine m count (let was = w.in-Err.is in let is = w.result-is in cc)
]

pub returns-clause-needle : goal.returns-clause-needle
returns-clause-needle g c = λ unseen. elim c.match-see_in.branch [
  | in-Ok w ↦
      let by =
      subst (λ x. OnOk x (IsSeenBy g.D.Disk.Tells g.D.Piece.Piece.Tells c.see_in.new.out.items (place_in (row_at c.see_in.new.self.rows c.args.pair) c.args.replica)))
      w.in-Ok.is (c.see_in.ensures.needle unseen) in
      subst (λ r. IfOk r (λ looked. IsSeenBy g.D.Disk.Tells g.D.Piece.Piece.Tells c.see_in.new.out.items (place_in looked.row c.args.replica))) (sym w.result-is)
      (subst (λ l. IsSeenBy g.D.Disk.Tells g.D.Piece.Piece.Tells c.see_in.new.out.items (place_in l c.args.replica)) (sym (w.row.ensures.row ∙ ap (λ v. row_at v.rows c.args.pair) c.self.view_is)) by)
  | in-Err w ↦ rw w.result-is tt
]

pub returns-clause-sights : goal.returns-clause-sights
returns-clause-sights g c = elim c.match-see_in.branch [
  | in-Ok w ↦
      let sees = subst (λ x. OnOk x (SeesPair c.args.pair c.args.replica (sights_of c.args.self.now.rows) (sights_of c.see_in.new.self.rows))) w.in-Ok.is c.see_in.ensures.sights in
      subst (λ r. OnOk r (SeesPair c.args.pair c.args.replica (sights_of c.args.self.now.rows) (sights_of c.see_in.new.self.rows))) (sym w.result-is) sees
  | in-Err w ↦ rw w.result-is tt
]

pub returns-clause-refused_sights : goal.returns-clause-refused_sights
returns-clause-refused_sights g c = elim c.match-see_in.branch [
  | in-Ok w ↦ rw w.result-is tt
  | in-Err w ↦
      let refused = subst (λ x. IfErr x (SeeRefusedSights c.args.pair c.args.replica (sights_of c.args.self.now.rows) (sights_of c.see_in.new.self.rows))) w.in-Err.is c.see_in.ensures.see_refused in
      subst (λ r. IfErr r (SeeRefusedSights c.args.pair c.args.replica (sights_of c.args.self.now.rows) (sights_of c.see_in.new.self.rows))) (sym w.result-is) refused
]

pub returns-clause-told : goal.returns-clause-told
returns-clause-told g c = c.see_in.ensures.told

pub returns-clause-damaged : goal.returns-clause-damaged
returns-clause-damaged g c = λ tells m place e. elim c.match-see_in.branch [
  | in-Ok w ↦ let wrong = sym w.result-is ∙ e in cc
  | in-Err w ↦ c.see_in.ensures.damaged tells m place (let was = w.in-Err.is in let is = w.result-is in cc)
]

pub returns-clause-lacks : goal.returns-clause-lacks
returns-clause-lacks g c = λ tells m place e. elim c.match-see_in.branch [
  | in-Ok w ↦ let wrong = sym w.result-is ∙ e in cc
  | in-Err w ↦ c.see_in.ensures.lacks tells m place (let was = w.in-Err.is in let is = w.result-is in cc)
]
