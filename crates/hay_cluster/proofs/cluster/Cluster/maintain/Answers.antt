use Rattle.std.proofs.Common.{◌≡◌, ◌<◌, None, Some, refl, sym, ap, subst, ◌∙◌, inl, inr}
use Rattle.std.specs.Prelude.{Err, Ok}
use Rattle.std.proofs.lemmas.Option.{same_Some}
use Rattle.std.proofs.lemmas.Result.{IfErr-at_err, IfOk-at_ok}
use Rattle.hay_logical.specs.declared.fault.LogicalFault.TheVariants as refusal
use Rattle.hay_logical.specs.Seen.{SeesAt}
use Rattle.hay_logical.specs.Sights.{Sights}
use Rattle.hay_cluster.specs.Needles.{FileAt, LacksWork, LeadsPart, LeadsSwap, LeadsWork}
use Rattle.hay_cluster.specs.Seen.{VolumeAt}
use Rattle.hay_cluster.proofs.Needling.{done_number, done_undamaged, memory_undone, nowhere_done, refused_done, refused_memory, work_damage}
use Rattle.hay_needle.specs.declared.settings.Settings.{Settings}
use Rattle.hay_reply.specs.declared.Reply.{Reply}
use Rattle.hay_legal.specs.Known.{replica_on}
use Rattle.hay_cluster.specs.Maintenance.{MayWantMemory, command_of, done_as}
use Rattle.hay_cluster.specs.State.{Answered}
use Rattle.hay_cluster.specs.Store.{Open, contents_in, disks_of}
use Rattle.hay_cluster.proofs.Maintaining.{maintained, not_maintained, nowhere}
use Rattle.hay_cluster.proofs.Suiting.{done_suits, memory_suits, nowhere_suits, undone_suits, work_refuses, work_suits}
use Rattle.hay_cluster.specs.Causes.{RefusesOn}
use Rattle.hay_cluster.proofs.Changing.{replica_machine}
use Rattle.hay_cluster.specs.Leaving.{AnySlot, IsApart, IsApartOn}
use Rattle.hay_cluster.proofs.Leaving.{done_leaves, head_leaves, keeps-all, leaves-fewer, leaves_contents, refused_leaves}
use Rattle.hay_cluster.specs.Seen.{store_seen}
use Rattle.hay_cluster.proofs.Seeing.{keeps_all}
use Rattle.hay_cluster.proofs.Sighting.{keeps_photos, unworked_sights, worked_sights}
use Rattle.hay_cluster.proofs.cluster.Cluster.maintain.Goals as goal

pub returns-in_default-clause-legal : goal.returns-in_default-clause-legal
returns-in_default-clause-legal g c = λ tells k tag stands.
    let same = ap (λ (st : Open g.row.D.Denot g.row.D-Piece.Denot g.row.A.Denot). st.settings) c.self.view_is in
    let none : replica_on (c.args.self.now).settings c.args.volume c.args.machine ≡ None =
    ap (λ (s : Settings). replica_on s c.args.volume c.args.machine) (sym same) ∙ sym c.replica_on.ensures.is ∙ c.in_default.is in
    nowhere g.D.Disk.files g.D.Piece.Piece.Tells g.D.Disk.fault_count g.D.Disk.fuse_count g.A.Arm.fault_count c.args.self.now k c.args.volume c.args.machine tag c.args.work none stands

pub returns-in-Ok-clause-legal : goal.returns-in-Ok-clause-legal
returns-in-Ok-clause-legal g c = λ tells k tag stands.
    let same = ap (λ (st : Open g.row.D.Denot g.row.D-Piece.Denot g.row.A.Denot). st.settings) c.self.view_is in
    let there : replica_on (c.args.self.now).settings c.args.volume c.args.machine ≡ Some c.in-Some.replica =
    ap (λ (s : Settings). replica_on s c.args.volume c.args.machine) (sym same) ∙ sym c.replica_on.ensures.is ∙ c.in-Some.is in
    let within : c.args.volume < (c.args.self.now).settings.volumes = subst (λ (s : Settings). c.args.volume < s.volumes) same (c.in-Some.ensures).within.1 in
    let moved = c.maintain_in.ensures.moves tells k stands in
    subst (λ (r : Reply). Answered g.D.Disk.files g.D.Piece.Piece.Tells g.D.Disk.fault_count g.D.Disk.fuse_count g.A.Arm.fault_count k tag
    (command_of c.args.work c.args.volume c.args.machine) r c.maintain_in.new.self) (sym c.done.ensures.is)
    (maintained g.D.Disk.files g.D.Piece.Piece.Tells g.D.Disk.fault_count g.D.Disk.fuse_count g.A.Arm.fault_count c.args.self.now c.maintain_in.new.self k c.args.volume
    c.args.machine c.in-Some.replica moved.before moved.after
    (record { same = c.maintain_in.ensures.settings; within = within; there = there; stands = stands; was = moved.was; stood = moved.stood; comes = moved.comes })
    tag c.args.work c.in-Ok.number (IfOk-at_ok _ c.in-Ok.is moved.does.0))

pub returns-in-Err-clause-legal : goal.returns-in-Err-clause-legal
returns-in-Err-clause-legal g c = λ tells k tag stands.
    let same = ap (λ (st : Open g.row.D.Denot g.row.D-Piece.Denot g.row.A.Denot). st.settings) c.self.view_is in
    let there : replica_on (c.args.self.now).settings c.args.volume c.args.machine ≡ Some c.in-Some.replica =
    ap (λ (s : Settings). replica_on s c.args.volume c.args.machine) (sym same) ∙ sym c.replica_on.ensures.is ∙ c.in-Some.is in
    let within : c.args.volume < (c.args.self.now).settings.volumes = subst (λ (s : Settings). c.args.volume < s.volumes) same (c.in-Some.ensures).within.1 in
    let moved = c.maintain_in.ensures.moves tells k stands in
    not_maintained g.D.Disk.files g.D.Piece.Piece.Tells g.D.Disk.fault_count g.D.Disk.fuse_count g.A.Arm.fault_count c.args.self.now c.maintain_in.new.self k c.args.volume
    c.args.machine c.in-Some.replica moved.before moved.after
    (record { same = c.maintain_in.ensures.settings; within = within; there = there; stands = stands; was = moved.was; stood = moved.stood; comes = moved.comes })
    tag c.args.work c.in-Err.fault c.refused.result (IfErr-at_err _ c.in-Err.is c.maintain_in.ensures.causes) (IfErr-at_err _ c.in-Err.is moved.does.1) c.refused.ensures.is

pub refused-requires : goal.refused-requires
refused-requires g c = work_refuses c.args.work _ c.in-Err.fault (IfErr-at_err _ c.in-Err.is c.maintain_in.ensures.causes).0

pub returns-in_default-clause-suits : goal.returns-in_default-clause-suits
returns-in_default-clause-suits g c = λ line.
    let same = ap (λ (st : Open g.row.D.Denot g.row.D-Piece.Denot g.row.A.Denot). st.settings) c.self.view_is in
    nowhere_suits (c.args.self.now).settings c.args.volume c.args.machine line c.args.work
    (ap (λ (s : Settings). replica_on s c.args.volume c.args.machine) (sym same) ∙ sym c.replica_on.ensures.is ∙ c.in_default.is)

pub returns-in-Ok-clause-suits : goal.returns-in-Ok-clause-suits
returns-in-Ok-clause-suits g c = λ line.
    let same = ap (λ (st : Open g.row.D.Denot g.row.D-Piece.Denot g.row.A.Denot). st.settings) c.self.view_is in
    let there : replica_on (c.args.self.now).settings c.args.volume c.args.machine ≡ Some c.in-Some.replica =
    ap (λ (s : Settings). replica_on s c.args.volume c.args.machine) (sym same) ∙ sym c.replica_on.ensures.is ∙ c.in-Some.is in
    work_suits (c.args.self.now).settings c.args.volume c.args.machine line c.in-Some.replica c.args.work c.done.result there
    (done_suits (c.args.self.now).settings c.args.volume c.args.machine c.args.work c.in-Ok.number c.done.result c.done.ensures.is)

pub returns-in-Err-clause-suits : goal.returns-in-Err-clause-suits
returns-in-Err-clause-suits g c = λ line.
    let same = ap (λ (st : Open g.row.D.Denot g.row.D-Piece.Denot g.row.A.Denot). st.settings) c.self.view_is in
    let there : replica_on (c.args.self.now).settings c.args.volume c.args.machine ≡ Some c.in-Some.replica =
    ap (λ (s : Settings). replica_on s c.args.volume c.args.machine) (sym same) ∙ sym c.replica_on.ensures.is ∙ c.in-Some.is in
    let cause = IfErr-at_err _ c.in-Err.is c.maintain_in.ensures.causes in
    let refuses = subst (λ m. RefusesOn c.args.work m c.in-Err.fault) (replica_machine (c.args.self.now).settings c.args.volume c.args.machine c.in-Some.replica there) cause.0 in
    elim (undone_suits (c.args.self.now).settings c.args.volume c.args.machine c.args.work c.in-Err.fault c.refused.result refuses cause.2 c.refused.ensures.is) [
      | inl suits ↦ work_suits (c.args.self.now).settings c.args.volume c.args.machine line c.in-Some.replica c.args.work c.refused.result there suits
      | inr none ↦ memory_suits (c.args.self.now).settings c.args.volume c.args.machine line c.in-Some.replica c.args.work c.refused.result there none
    ]

pub returns-in_default-clause-contents : goal.returns-in_default-clause-contents
returns-in_default-clause-contents g c = λ tells. inr (keeps-all (c.args.self.now).settings AnySlot (contents_in g.D.Disk.files c.args.self.now))

pub returns-in-Ok-clause-contents : goal.returns-in-Ok-clause-contents
returns-in-Ok-clause-contents g c = λ tells.
    let same = ap (λ (st : Open g.row.D.Denot g.row.D-Piece.Denot g.row.A.Denot). st.settings) c.self.view_is in
    let there : replica_on (c.args.self.now).settings c.args.volume c.args.machine ≡ Some c.in-Some.replica =
    ap (λ (s : Settings). replica_on s c.args.volume c.args.machine) (sym same) ∙ sym c.replica_on.ensures.is ∙ c.in-Some.is in
    let apart = leaves_contents g.D.Disk.files (c.args.self.now).settings (IsApartOn (c.args.self.now).settings c.args.volume c.args.machine) c.args.self.now c.maintain_in.new.self
    (leaves-fewer (IsApart (c.args.self.now).settings c.args.volume c.in-Some.replica) (IsApartOn (c.args.self.now).settings c.args.volume c.args.machine)
    (disks_of c.args.self.now) (disks_of c.maintain_in.new.self) (λ slot far. far c.in-Some.replica there) c.maintain_in.ensures.others) in
    let old = contents_in g.D.Disk.files c.args.self.now in
    let new = contents_in g.D.Disk.files c.maintain_in.new.self in
    let after = (store_seen c.maintain_in.new.self).volumes in
    let head = head_leaves (c.args.self.now).settings c.args.volume c.args.machine old new c.args.work c.maintain_in.result c.done.result after c.in-Some.replica there
    (λ n is. let one : c.in-Ok.number ≡ n = (let both = sym c.in-Ok.is ∙ is in cc) in c.done.ensures.is ∙ ap (done_as c.args.volume c.args.machine c.args.work) one)
    (λ volume at thawed. c.maintain_in.ensures.head_file tells (volume, at, thawed)) in
    done_leaves (c.args.self.now).settings c.args.volume c.args.machine old new c.args.work c.in-Ok.number c.done.result after c.done.ensures.is apart head

pub returns-in-Err-clause-contents : goal.returns-in-Err-clause-contents
returns-in-Err-clause-contents g c = λ tells.
    let same = ap (λ (st : Open g.row.D.Denot g.row.D-Piece.Denot g.row.A.Denot). st.settings) c.self.view_is in
    let there : replica_on (c.args.self.now).settings c.args.volume c.args.machine ≡ Some c.in-Some.replica =
    ap (λ (s : Settings). replica_on s c.args.volume c.args.machine) (sym same) ∙ sym c.replica_on.ensures.is ∙ c.in-Some.is in
    let apart = leaves_contents g.D.Disk.files (c.args.self.now).settings (IsApartOn (c.args.self.now).settings c.args.volume c.args.machine) c.args.self.now c.maintain_in.new.self
    (leaves-fewer (IsApart (c.args.self.now).settings c.args.volume c.in-Some.replica) (IsApartOn (c.args.self.now).settings c.args.volume c.args.machine)
    (disks_of c.args.self.now) (disks_of c.maintain_in.new.self) (λ slot far. far c.in-Some.replica there) c.maintain_in.ensures.others) in
    let old = contents_in g.D.Disk.files c.args.self.now in
    let new = contents_in g.D.Disk.files c.maintain_in.new.self in
    let after = (store_seen c.maintain_in.new.self).volumes in
    let head = head_leaves (c.args.self.now).settings c.args.volume c.args.machine old new c.args.work c.maintain_in.result c.refused.result after c.in-Some.replica there
    (λ n is. let both : Err c.in-Err.fault ≡ Ok n = sym c.in-Err.is ∙ is in absurd cc) (λ volume at thawed. c.maintain_in.ensures.head_file tells (volume, at, thawed)) in
    refused_leaves (c.args.self.now).settings c.args.volume c.args.machine old new c.in-Err.fault c.refused.result after c.refused.ensures.is apart head
    (IfErr-at_err _ c.in-Err.is (c.maintain_in.ensures.kept tells))

pub returns-in_default-clause-seen : goal.returns-in_default-clause-seen
returns-in_default-clause-seen g c =
    let same = ap (λ (st : Open g.row.D.Denot g.row.D-Piece.Denot g.row.A.Denot). st.settings) c.self.view_is in
    inl (ap (λ (s : Settings). replica_on s c.args.volume c.args.machine) (sym same) ∙ sym c.replica_on.ensures.is ∙ c.in_default.is, refl, keeps_all (store_seen c.args.self.now))

pub returns-in-Ok-clause-seen : goal.returns-in-Ok-clause-seen
returns-in-Ok-clause-seen g c =
    let same = ap (λ (st : Open g.row.D.Denot g.row.D-Piece.Denot g.row.A.Denot). st.settings) c.self.view_is in
    let there : replica_on (c.args.self.now).settings c.args.volume c.args.machine ≡ Some c.in-Some.replica =
    ap (λ (s : Settings). replica_on s c.args.volume c.args.machine) (sym same) ∙ sym c.replica_on.ensures.is ∙ c.in-Some.is in
    inr (inl (c.in-Some.replica, c.in-Ok.number, there, c.done.ensures.is, IfOk-at_ok _ c.in-Ok.is c.maintain_in.ensures.seen))

pub returns-in-Err-clause-seen : goal.returns-in-Err-clause-seen
returns-in-Err-clause-seen g c =
    let same = ap (λ (st : Open g.row.D.Denot g.row.D-Piece.Denot g.row.A.Denot). st.settings) c.self.view_is in
    let there : replica_on (c.args.self.now).settings c.args.volume c.args.machine ≡ Some c.in-Some.replica =
    ap (λ (s : Settings). replica_on s c.args.volume c.args.machine) (sym same) ∙ sym c.replica_on.ensures.is ∙ c.in-Some.is in
    inr (inr (c.in-Some.replica, c.in-Err.fault, there, c.refused.ensures.is, IfErr-at_err _ c.in-Err.is c.maintain_in.ensures.refused_seen))

pub returns-in_default-clause-sights : goal.returns-in_default-clause-sights
returns-in_default-clause-sights g c =
    keeps_photos (store_seen c.args.self.now)

pub returns-in-Ok-clause-sights : goal.returns-in-Ok-clause-sights
returns-in-Ok-clause-sights g c =
    let same = ap (λ (st : Open g.row.D.Denot g.row.D-Piece.Denot g.row.A.Denot). st.settings) c.self.view_is in
    let there : replica_on (c.args.self.now).settings c.args.volume c.args.machine ≡ Some c.in-Some.replica =
    ap (λ (s : Settings). replica_on s c.args.volume c.args.machine) (sym same) ∙ sym c.replica_on.ensures.is ∙ c.in-Some.is in
    worked_sights (c.args.self.now).settings c.args.volume c.args.machine (store_seen c.args.self.now) (store_seen c.maintain_in.new.self) c.args.work c.in-Some.replica
    c.in-Ok.number c.done.result c.done.ensures.is there c.in-Ok.ensures.sights

pub returns-in-Err-clause-sights : goal.returns-in-Err-clause-sights
returns-in-Err-clause-sights g c =
    unworked_sights (c.args.self.now).settings c.args.volume c.args.machine (store_seen c.args.self.now) (store_seen c.maintain_in.new.self) c.in-Err.fault c.refused.result
    c.refused.ensures.is c.in-Err.ensures.refused_sights

pub returns-in_default-clause-damaged : goal.returns-in_default-clause-damaged
returns-in_default-clause-damaged g c = λ tells by place is. absurd cc

pub returns-in-Ok-clause-damaged : goal.returns-in-Ok-clause-damaged
returns-in-Ok-clause-damaged g c = λ tells by place is.
    absurd (done_undamaged c.args.volume c.done.result c.args.volume by place is c.args.machine c.in-Ok.number c.args.work c.done.ensures.is)

pub returns-in-Err-clause-damaged : goal.returns-in-Err-clause-damaged
returns-in-Err-clause-damaged g c = λ tells by place is j on.
    let same = ap (λ (st : Open g.row.D.Denot g.row.D-Piece.Denot g.row.A.Denot). st.settings) c.self.view_is in
    let there : replica_on (c.args.self.now).settings c.args.volume c.args.machine ≡ Some c.in-Some.replica =
    ap (λ (s : Settings). replica_on s c.args.volume c.args.machine) (sym same) ∙ sym c.replica_on.ensures.is ∙ c.in-Some.is in
    let fault : c.in-Err.fault ≡ refusal.Damaged by place = work_damage c.args.volume c.refused.result c.args.volume by place is c.args.machine c.in-Err.fault c.refused.ensures.is in
    subst (λ i. FileAt (c.args.self.now).settings (contents_in g.D.Disk.files c.args.self.now) (store_seen c.args.self.now) c.args.volume i
    (LacksWork ((store_seen c.args.self.now).places c.args.volume) i c.args.work place)) (same_Some c.in-Some.replica j (sym there ∙ on))
    (c.maintain_in.ensures.damaged tells by place (c.in-Err.is ∙ ap Err fault))

pub returns-in_default-clause-told : goal.returns-in_default-clause-told
returns-in_default-clause-told g c = λ tells. record {
  done = λ number is. absurd (nowhere_done c.args.volume c.args.machine number c.args.work is);
  part = λ is. absurd cc;
  froze = λ freezes j on.
      let same = ap (λ (st : Open g.row.D.Denot g.row.D-Piece.Denot g.row.A.Denot). st.settings) c.self.view_is in
      let none : replica_on (c.args.self.now).settings c.args.volume c.args.machine ≡ None =
      ap (λ (s : Settings). replica_on s c.args.volume c.args.machine) (sym same) ∙ sym c.replica_on.ensures.is ∙ c.in_default.is in
      let wrong : Some j ≡ None = sym on ∙ none in absurd cc;
}

pub returns-in-Ok-clause-told : goal.returns-in-Ok-clause-told
returns-in-Ok-clause-told g c = λ tells.
    let settings = (c.args.self.now).settings in
    let contents = contents_in g.D.Disk.files c.args.self.now in
    let old = store_seen c.args.self.now in
    let new = store_seen c.maintain_in.new.self in
    let sights : Sights = old.places c.args.volume in
    let same = ap (λ (st : Open g.row.D.Denot g.row.D-Piece.Denot g.row.A.Denot). st.settings) c.self.view_is in
    let there : replica_on settings c.args.volume c.args.machine ≡ Some c.in-Some.replica =
    ap (λ (s : Settings). replica_on s c.args.volume c.args.machine) (sym same) ∙ sym c.replica_on.ensures.is ∙ c.in-Some.is in
    record {
      done = λ number is j on.
          let one : number ≡ c.in-Ok.number = done_number c.args.volume c.args.machine c.args.work number c.in-Ok.number (sym is ∙ c.done.ensures.is) in
          let led =
          IfOk-at_ok (λ n. FileAt settings contents old c.args.volume c.in-Some.replica (λ r file.
          VolumeAt c.args.volume (SeesAt c.in-Some.replica (λ r'. LeadsWork sights c.in-Some.replica c.args.work n r r' file)) new)) c.in-Ok.is (c.maintain_in.ensures.lead tells) in
          subst (λ i. FileAt settings contents old c.args.volume i (λ r file. VolumeAt c.args.volume (SeesAt i (λ r'. LeadsWork sights i c.args.work number r r' file)) new))
          (same_Some c.in-Some.replica j (sym there ∙ on))
          (subst (λ n. FileAt settings contents old c.args.volume c.in-Some.replica (λ r file.
          VolumeAt c.args.volume (SeesAt c.in-Some.replica (λ r'. LeadsWork sights c.in-Some.replica c.args.work n r r' file)) new)) (sym one) led);
      part = λ is. absurd (memory_undone c.args.volume c.args.machine c.in-Ok.number c.args.work (sym is ∙ c.done.ensures.is));
      froze = λ freezes j on.
          subst (λ i. FileAt settings contents old c.args.volume i (LeadsSwap sights i c.args.work)) (same_Some c.in-Some.replica j (sym there ∙ on)) (c.maintain_in.ensures.froze tells freezes);
    }

pub returns-in-Err-clause-told : goal.returns-in-Err-clause-told
returns-in-Err-clause-told g c = λ tells.
    let settings = (c.args.self.now).settings in
    let contents = contents_in g.D.Disk.files c.args.self.now in
    let old = store_seen c.args.self.now in
    let new = store_seen c.maintain_in.new.self in
    let sights : Sights = old.places c.args.volume in
    let same = ap (λ (st : Open g.row.D.Denot g.row.D-Piece.Denot g.row.A.Denot). st.settings) c.self.view_is in
    let there : replica_on settings c.args.volume c.args.machine ≡ Some c.in-Some.replica =
    ap (λ (s : Settings). replica_on s c.args.volume c.args.machine) (sym same) ∙ sym c.replica_on.ensures.is ∙ c.in-Some.is in
    record {
      done = λ number is. absurd (refused_done c.args.volume c.args.machine number c.args.work c.refused.result c.in-Err.fault c.refused.ensures.is is);
      part = λ is j on.
          let led =
          IfErr-at_err (λ fault. MayWantMemory fault → FileAt settings contents old c.args.volume c.in-Some.replica
          (λ r file. VolumeAt c.args.volume (SeesAt c.in-Some.replica (λ r'. LeadsPart sights c.in-Some.replica c.args.work r r' file)) new)) c.in-Err.is (c.maintain_in.ensures.part tells) in
          subst (λ i. FileAt settings contents old c.args.volume i (λ r file. VolumeAt c.args.volume (SeesAt i (λ r'. LeadsPart sights i c.args.work r r' file)) new))
          (same_Some c.in-Some.replica j (sym there ∙ on))
          (led (refused_memory c.args.volume c.args.machine c.refused.result c.in-Err.fault c.refused.ensures.is is));
      froze = λ freezes j on.
          subst (λ i. FileAt settings contents old c.args.volume i (LeadsSwap sights i c.args.work)) (same_Some c.in-Some.replica j (sym there ∙ on)) (c.maintain_in.ensures.froze tells freezes);
    }
