use Rattle.std.proofs.Common.{◌≡◌, ℕ, refl, ◌∙◌, sym, subst}
use Rattle.std.proofs.lemmas.Result.{IfErr-at_err, IfErr-weaker, IfOk-weaker, on_ok_weaker}
use Rattle.hay_cluster.specs.declared.fault.ClusterFault.TheVariants.{Damaged, Failed}
use Rattle.hay_cluster.specs.Outside.{AreSoundBelow, IsDamagedDisk}
use Rattle.hay_cluster.specs.Store.{contents_in}
use Rattle.hay_cluster.proofs.Formatted.{refused_formatted}
use Rattle.hay_cluster.proofs.OpeningDamage.{TellsSlot, restart_damaged, restart_first, restart_sound}
use Rattle.hay_cluster.proofs.OpeningDraws.{restart_drew}
use Rattle.hay_cluster.proofs.OpeningReads.{opened_live, opened_read, restart_reads}
use Rattle.hay_cluster.proofs.OpeningStore.{MovedParts, StoppedParts, opens_up, restart_cause, restart_fuses, restart_later, restart_left, restart_opened, restart_whole, stops_closed, stops_idle}
use Rattle.hay_cluster.proofs.SeenOpening.{opened_fit, opens_seen, pending_told, tells_seen}
use Rattle.hay_cluster.proofs.cluster.Cluster.restart.Goals as goal

pub open_parts-requires-clause-closed : goal.open_parts-requires-clause-closed
open_parts-requires-clause-closed g c =
    stops_closed g.D.Disk.Tells g.D.Disk.files g.D.Piece.Piece.Tells g.D.Disk.fault_count g.D.Disk.fuse_count _ _ c.stop.ensures.volumes

pub open_parts-requires-clause-idle : goal.open_parts-requires-clause-idle
open_parts-requires-clause-idle g c = λ tells.
    stops_idle g.D.Disk.Tells g.D.Disk.files g.D.Piece.Piece.Tells g.D.Disk.fault_count g.D.Disk.fuse_count tells _ _ c.stop.ensures.volumes

pub returns-clause-reopened : goal.returns-clause-reopened
returns-clause-reopened g c = λ tells k stands.
    let stopped : StoppedParts g.D.Disk.Tells g.D.Disk.files g.D.Piece.Piece.Tells g.D.Disk.fault_count g.D.Disk.fuse_count g.A.Arm.fault_count
    c.args.self.now c.stop.new.self = record { settings = c.stop.ensures.settings; arms = c.stop.ensures.arms; directory = c.stop.ensures.directory; volumes = c.stop.ensures.volumes } in
    let moved : MovedParts g.D.Disk.Tells g.D.Disk.files g.D.Piece.Piece.Tells g.D.Disk.fault_count g.D.Disk.fuse_count g.A.Arm.fault_count
    c.stop.new.self c.open_parts.new.self = record {
      settings = c.open_parts.ensures.settings;
      arms = c.open_parts.ensures.arms;
      directory = c.open_parts.ensures.directory;
      volumes = c.open_parts.ensures.volumes;
    } in
    IfOk-weaker c.open_parts.result _ _
    (λ notes opens. restart_opened g.D.Disk.Tells g.D.Disk.files g.D.Piece.Piece.Tells g.D.Disk.fault_count g.D.Disk.fuse_count g.A.Arm.fault_count tells c.args.self.now
    c.stop.new.self c.open_parts.new.self k notes stands stopped moved opens) c.open_parts.ensures.opened

pub returns-clause-up : goal.returns-clause-up
returns-clause-up g c =
    IfOk-weaker c.open_parts.result _ _
    (λ notes opens. record {
      directory = opens.directory.up;
      volumes = opens_up g.D.Disk.Tells g.D.Disk.files g.D.Piece.Piece.Tells g.D.Disk.fault_count g.D.Disk.fuse_count _ _
          opens.of_volumes opens.volumes;
    }) c.open_parts.ensures.opened

pub returns-clause-sound : goal.returns-clause-sound
returns-clause-sound g c = λ tells.
    let stopped : StoppedParts g.D.Disk.Tells g.D.Disk.files g.D.Piece.Piece.Tells g.D.Disk.fault_count g.D.Disk.fuse_count g.A.Arm.fault_count
    c.args.self.now c.stop.new.self = record { settings = c.stop.ensures.settings; arms = c.stop.ensures.arms; directory = c.stop.ensures.directory; volumes = c.stop.ensures.volumes } in
    let moved : MovedParts g.D.Disk.Tells g.D.Disk.files g.D.Piece.Piece.Tells g.D.Disk.fault_count g.D.Disk.fuse_count g.A.Arm.fault_count
    c.stop.new.self c.open_parts.new.self = record {
      settings = c.open_parts.ensures.settings;
      arms = c.open_parts.ensures.arms;
      directory = c.open_parts.ensures.directory;
      volumes = c.open_parts.ensures.volumes;
    } in
    IfOk-weaker c.open_parts.result _ _
    (λ notes opens. restart_sound g.D.Disk.Tells g.D.Disk.files g.D.Piece.Piece.Tells g.D.Disk.fault_count g.D.Disk.fuse_count g.A.Arm.fault_count tells c.args.self.now
    c.stop.new.self c.open_parts.new.self notes c.stop.ensures.shape stopped moved opens) c.open_parts.ensures.opened

pub returns-clause-left : goal.returns-clause-left
returns-clause-left g c = λ tells k stands.
    let stopped : StoppedParts g.D.Disk.Tells g.D.Disk.files g.D.Piece.Piece.Tells g.D.Disk.fault_count g.D.Disk.fuse_count g.A.Arm.fault_count
    c.args.self.now c.stop.new.self = record { settings = c.stop.ensures.settings; arms = c.stop.ensures.arms; directory = c.stop.ensures.directory; volumes = c.stop.ensures.volumes } in
    let moved : MovedParts g.D.Disk.Tells g.D.Disk.files g.D.Piece.Piece.Tells g.D.Disk.fault_count g.D.Disk.fuse_count g.A.Arm.fault_count
    c.stop.new.self c.open_parts.new.self = record {
      settings = c.open_parts.ensures.settings;
      arms = c.open_parts.ensures.arms;
      directory = c.open_parts.ensures.directory;
      volumes = c.open_parts.ensures.volumes;
    } in
    IfErr-weaker c.open_parts.result _ _
    (λ fault refused. restart_left g.D.Disk.Tells g.D.Disk.files g.D.Piece.Piece.Tells g.D.Disk.fault_count g.D.Disk.fuse_count g.A.Arm.fault_count tells c.args.self.now
    c.stop.new.self c.open_parts.new.self k stands stopped moved) c.open_parts.ensures.refused

pub returns-clause-formatted : goal.returns-clause-formatted
returns-clause-formatted g c = λ tells k stands.
    let stopped : StoppedParts g.D.Disk.Tells g.D.Disk.files g.D.Piece.Piece.Tells g.D.Disk.fault_count g.D.Disk.fuse_count g.A.Arm.fault_count
    c.args.self.now c.stop.new.self = record { settings = c.stop.ensures.settings; arms = c.stop.ensures.arms; directory = c.stop.ensures.directory; volumes = c.stop.ensures.volumes } in
    let moved : MovedParts g.D.Disk.Tells g.D.Disk.files g.D.Piece.Piece.Tells g.D.Disk.fault_count g.D.Disk.fuse_count g.A.Arm.fault_count
    c.stop.new.self c.open_parts.new.self = record {
      settings = c.open_parts.ensures.settings;
      arms = c.open_parts.ensures.arms;
      directory = c.open_parts.ensures.directory;
      volumes = c.open_parts.ensures.volumes;
    } in
    IfErr-weaker c.open_parts.result _ _
    (λ fault refused. refused_formatted g.D.Disk.files (λ disk n. g.met.D.Disk.may_leave_now disk n tells) g.D.Disk.Tells g.D.Piece.Piece.Tells g.D.Disk.fault_count
    g.D.Disk.fuse_count g.A.Arm.fault_count tells c.args.self.now c.stop.new.self c.open_parts.new.self k stands stopped moved c.open_parts.ensures.shape) c.open_parts.ensures.refused

pub returns-clause-cause : goal.returns-clause-cause
returns-clause-cause g c =
    let stopped : StoppedParts g.D.Disk.Tells g.D.Disk.files g.D.Piece.Piece.Tells g.D.Disk.fault_count g.D.Disk.fuse_count g.A.Arm.fault_count
    c.args.self.now c.stop.new.self = record { settings = c.stop.ensures.settings; arms = c.stop.ensures.arms; directory = c.stop.ensures.directory; volumes = c.stop.ensures.volumes } in
    let moved : MovedParts g.D.Disk.Tells g.D.Disk.files g.D.Piece.Piece.Tells g.D.Disk.fault_count g.D.Disk.fuse_count g.A.Arm.fault_count
    c.stop.new.self c.open_parts.new.self = record {
      settings = c.open_parts.ensures.settings;
      arms = c.open_parts.ensures.arms;
      directory = c.open_parts.ensures.directory;
      volumes = c.open_parts.ensures.volumes;
    } in
    IfErr-weaker c.open_parts.result _ _
    (λ fault refused. restart_cause g.D.Disk.Tells g.D.Disk.files g.D.Piece.Piece.Tells g.D.Disk.fault_count g.D.Disk.fuse_count g.A.Arm.fault_count c.args.self.now c.stop.new.self
    c.open_parts.new.self fault c.stop.ensures.shape stopped moved refused) c.open_parts.ensures.refused

pub returns-clause-whole : goal.returns-clause-whole
returns-clause-whole g c = λ tells k stands slot file at is.
    let stopped : StoppedParts g.D.Disk.Tells g.D.Disk.files g.D.Piece.Piece.Tells g.D.Disk.fault_count g.D.Disk.fuse_count g.A.Arm.fault_count
    c.args.self.now c.stop.new.self = record { settings = c.stop.ensures.settings; arms = c.stop.ensures.arms; directory = c.stop.ensures.directory; volumes = c.stop.ensures.volumes } in
    IfErr-at_err (λ fault. (s f a : ℕ) → fault ≡ Damaged s f a → ⊥) is
    (IfErr-weaker c.open_parts.result _ _
    (λ fault refused. restart_whole g.D.Disk.Tells g.D.Disk.files g.D.Piece.Piece.Tells g.D.Disk.fault_count g.D.Disk.fuse_count g.A.Arm.fault_count tells c.args.self.now
    c.stop.new.self c.open_parts.new.self k fault stands stopped refused) c.open_parts.ensures.refused)
    slot file at refl

pub returns-clause-damaged : goal.returns-clause-damaged
returns-clause-damaged g c = λ tells slot file at is.
    let stopped : StoppedParts g.D.Disk.Tells g.D.Disk.files g.D.Piece.Piece.Tells g.D.Disk.fault_count g.D.Disk.fuse_count g.A.Arm.fault_count
    c.args.self.now c.stop.new.self = record { settings = c.stop.ensures.settings; arms = c.stop.ensures.arms; directory = c.stop.ensures.directory; volumes = c.stop.ensures.volumes } in
    let moved : MovedParts g.D.Disk.Tells g.D.Disk.files g.D.Piece.Piece.Tells g.D.Disk.fault_count g.D.Disk.fuse_count g.A.Arm.fault_count
    c.stop.new.self c.open_parts.new.self = record {
      settings = c.open_parts.ensures.settings;
      arms = c.open_parts.ensures.arms;
      directory = c.open_parts.ensures.directory;
      volumes = c.open_parts.ensures.volumes;
    } in
    IfErr-at_err (λ fault. (n f a : ℕ) → fault ≡ Damaged n f a → IsDamagedDisk (c.args.self.now).settings (contents_in g.D.Disk.files c.open_parts.new.self) n f a) is
    (IfErr-weaker c.open_parts.result _ _
    (λ fault refused. restart_damaged g.D.Disk.Tells g.D.Disk.files g.D.Piece.Piece.Tells g.D.Disk.fault_count g.D.Disk.fuse_count g.A.Arm.fault_count tells c.args.self.now
    c.stop.new.self c.open_parts.new.self fault c.stop.ensures.shape stopped moved refused) c.open_parts.ensures.refused)
    slot file at refl

pub returns-clause-counts : goal.returns-clause-counts
returns-clause-counts g c =
    let stopped : StoppedParts g.D.Disk.Tells g.D.Disk.files g.D.Piece.Piece.Tells g.D.Disk.fault_count g.D.Disk.fuse_count g.A.Arm.fault_count
    c.args.self.now c.stop.new.self = record { settings = c.stop.ensures.settings; arms = c.stop.ensures.arms; directory = c.stop.ensures.directory; volumes = c.stop.ensures.volumes } in
    let moved : MovedParts g.D.Disk.Tells g.D.Disk.files g.D.Piece.Piece.Tells g.D.Disk.fault_count g.D.Disk.fuse_count g.A.Arm.fault_count
    c.stop.new.self c.open_parts.new.self = record {
      settings = c.open_parts.ensures.settings;
      arms = c.open_parts.ensures.arms;
      directory = c.open_parts.ensures.directory;
      volumes = c.open_parts.ensures.volumes;
    } in
    restart_later g.D.Disk.Tells g.D.Disk.files g.D.Piece.Piece.Tells g.D.Disk.fault_count g.D.Disk.fuse_count g.A.Arm.fault_count c.args.self.now c.stop.new.self c.open_parts.new.self stopped moved

pub returns-clause-fuses : goal.returns-clause-fuses
returns-clause-fuses g c =
    let stopped : StoppedParts g.D.Disk.Tells g.D.Disk.files g.D.Piece.Piece.Tells g.D.Disk.fault_count g.D.Disk.fuse_count g.A.Arm.fault_count
    c.args.self.now c.stop.new.self = record { settings = c.stop.ensures.settings; arms = c.stop.ensures.arms; directory = c.stop.ensures.directory; volumes = c.stop.ensures.volumes } in
    let moved : MovedParts g.D.Disk.Tells g.D.Disk.files g.D.Piece.Piece.Tells g.D.Disk.fault_count g.D.Disk.fuse_count g.A.Arm.fault_count
    c.stop.new.self c.open_parts.new.self = record {
      settings = c.open_parts.ensures.settings;
      arms = c.open_parts.ensures.arms;
      directory = c.open_parts.ensures.directory;
      volumes = c.open_parts.ensures.volumes;
    } in
    restart_fuses g.D.Disk.Tells g.D.Disk.files g.D.Piece.Piece.Tells g.D.Disk.fault_count g.D.Disk.fuse_count g.A.Arm.fault_count c.args.self.now c.stop.new.self c.open_parts.new.self stopped moved

pub returns-clause-fits : goal.returns-clause-fits
returns-clause-fits g c =
    IfOk-weaker c.open_parts.result _ _
    (λ notes opens. opened_fit g.D.Disk.Tells g.D.Disk.files g.D.Piece.Piece.Tells g.D.Disk.fault_count g.D.Disk.fuse_count c.stop.new.self c.open_parts.new.self notes opens)
    c.open_parts.ensures.opened

pub returns-clause-drew : goal.returns-clause-drew
returns-clause-drew g c = λ tells.
    on_ok_weaker c.open_parts.result
    (λ all. restart_drew g.D.Disk.files g.D.Disk.drawn c.args.self.now c.stop.new.self c.open_parts.new.self c.stop.ensures.shape c.open_parts.ensures.shape c.stop.ensures.settings
    c.open_parts.ensures.settings (c.stop.ensures.drawn tells) all) (c.open_parts.ensures.drew tells)

pub returns-clause-opens : goal.returns-clause-opens
returns-clause-opens g c =
    IfOk-weaker c.open_parts.result _ _
    (λ notes opens. opens_seen g.D.Disk.Tells g.D.Disk.files g.D.Piece.Piece.Tells g.D.Disk.fault_count g.D.Disk.fuse_count (c.args.self.now).settings c.stop.new.self
    c.open_parts.new.self notes c.stop.ensures.settings
    (c.open_parts.ensures.settings ∙ c.stop.ensures.settings) c.stop.ensures.shape c.open_parts.ensures.shape opens) c.open_parts.ensures.opened

pub returns-clause-tells : goal.returns-clause-tells
returns-clause-tells g c =
    let stopped : StoppedParts g.D.Disk.Tells g.D.Disk.files g.D.Piece.Piece.Tells g.D.Disk.fault_count g.D.Disk.fuse_count g.A.Arm.fault_count
    c.args.self.now c.stop.new.self = record { settings = c.stop.ensures.settings; arms = c.stop.ensures.arms; directory = c.stop.ensures.directory; volumes = c.stop.ensures.volumes } in
    IfOk-weaker c.open_parts.result _ _
    (λ notes opens. tells_seen g.D.Disk.Tells g.D.Disk.files g.D.Piece.Piece.Tells g.D.Disk.fault_count g.D.Disk.fuse_count g.A.Arm.fault_count c.args.self.now c.stop.new.self
    c.open_parts.new.self notes c.stop.ensures.shape stopped opens) c.open_parts.ensures.opened

pub returns-clause-failed_first : goal.returns-clause-failed_first
returns-clause-failed_first g c = λ tells slot faults is.
    let stopped : StoppedParts g.D.Disk.Tells g.D.Disk.files g.D.Piece.Piece.Tells g.D.Disk.fault_count g.D.Disk.fuse_count g.A.Arm.fault_count
    c.args.self.now c.stop.new.self = record { settings = c.stop.ensures.settings; arms = c.stop.ensures.arms; directory = c.stop.ensures.directory; volumes = c.stop.ensures.volumes } in
    let moved : MovedParts g.D.Disk.Tells g.D.Disk.files g.D.Piece.Piece.Tells g.D.Disk.fault_count g.D.Disk.fuse_count g.A.Arm.fault_count
    c.stop.new.self c.open_parts.new.self = record {
      settings = c.open_parts.ensures.settings;
      arms = c.open_parts.ensures.arms;
      directory = c.open_parts.ensures.directory;
      volumes = c.open_parts.ensures.volumes;
    } in
    IfErr-at_err (λ fault. (n f : ℕ) → fault ≡ Failed n f → AreSoundBelow (c.args.self.now).settings n (contents_in g.D.Disk.files c.open_parts.new.self)) is
    (IfErr-weaker c.open_parts.result _ _
    (λ fault refused n f told. restart_first g.D.Disk.Tells g.D.Disk.files g.D.Piece.Piece.Tells g.D.Disk.fault_count g.D.Disk.fuse_count g.A.Arm.fault_count tells c.args.self.now
    c.stop.new.self c.open_parts.new.self fault c.stop.ensures.shape stopped moved refused n (subst (λ x. TellsSlot x n) (sym told) refl)) c.open_parts.ensures.refused)
    slot faults refl

pub returns-clause-damaged_first : goal.returns-clause-damaged_first
returns-clause-damaged_first g c = λ tells slot file at is.
    let stopped : StoppedParts g.D.Disk.Tells g.D.Disk.files g.D.Piece.Piece.Tells g.D.Disk.fault_count g.D.Disk.fuse_count g.A.Arm.fault_count
    c.args.self.now c.stop.new.self = record { settings = c.stop.ensures.settings; arms = c.stop.ensures.arms; directory = c.stop.ensures.directory; volumes = c.stop.ensures.volumes } in
    let moved : MovedParts g.D.Disk.Tells g.D.Disk.files g.D.Piece.Piece.Tells g.D.Disk.fault_count g.D.Disk.fuse_count g.A.Arm.fault_count
    c.stop.new.self c.open_parts.new.self = record {
      settings = c.open_parts.ensures.settings;
      arms = c.open_parts.ensures.arms;
      directory = c.open_parts.ensures.directory;
      volumes = c.open_parts.ensures.volumes;
    } in
    IfErr-at_err (λ fault. (n f a : ℕ) → fault ≡ Damaged n f a → AreSoundBelow (c.args.self.now).settings n (contents_in g.D.Disk.files c.open_parts.new.self)) is
    (IfErr-weaker c.open_parts.result _ _
    (λ fault refused n f a told. restart_first g.D.Disk.Tells g.D.Disk.files g.D.Piece.Piece.Tells g.D.Disk.fault_count g.D.Disk.fuse_count g.A.Arm.fault_count tells
    c.args.self.now c.stop.new.self c.open_parts.new.self fault c.stop.ensures.shape stopped moved refused n (subst (λ x. TellsSlot x n) (sym told) refl)) c.open_parts.ensures.refused)
    slot file at refl

pub returns-clause-told : goal.returns-clause-told
returns-clause-told g c = λ tells.
    let stopped : StoppedParts g.D.Disk.Tells g.D.Disk.files g.D.Piece.Piece.Tells g.D.Disk.fault_count g.D.Disk.fuse_count g.A.Arm.fault_count
    c.args.self.now c.stop.new.self = record { settings = c.stop.ensures.settings; arms = c.stop.ensures.arms; directory = c.stop.ensures.directory; volumes = c.stop.ensures.volumes } in
    IfOk-weaker c.open_parts.result _ _
    (λ notes opens. pending_told g.D.Disk.Tells g.D.Disk.files g.D.Piece.Piece.Tells g.D.Disk.fault_count g.D.Disk.fuse_count g.A.Arm.fault_count tells c.args.self.now
    c.stop.new.self c.open_parts.new.self notes
    c.open_parts.ensures.shape (c.open_parts.ensures.settings ∙ c.stop.ensures.settings) stopped opens) c.open_parts.ensures.opened

pub returns-clause-reads : goal.returns-clause-reads
returns-clause-reads g c = λ tells.
    let stopped : StoppedParts g.D.Disk.Tells g.D.Disk.files g.D.Piece.Piece.Tells g.D.Disk.fault_count g.D.Disk.fuse_count g.A.Arm.fault_count
    c.args.self.now c.stop.new.self = record { settings = c.stop.ensures.settings; arms = c.stop.ensures.arms; directory = c.stop.ensures.directory; volumes = c.stop.ensures.volumes } in
    let moved : MovedParts g.D.Disk.Tells g.D.Disk.files g.D.Piece.Piece.Tells g.D.Disk.fault_count g.D.Disk.fuse_count g.A.Arm.fault_count
    c.stop.new.self c.open_parts.new.self = record {
      settings = c.open_parts.ensures.settings;
      arms = c.open_parts.ensures.arms;
      directory = c.open_parts.ensures.directory;
      volumes = c.open_parts.ensures.volumes;
    } in
    IfOk-weaker c.open_parts.result _ _
    (λ notes opens. restart_reads g.D.Disk.Tells g.D.Disk.files g.D.Piece.Piece.Tells g.D.Disk.fault_count g.D.Disk.fuse_count g.A.Arm.fault_count tells
    (λ disk n. g.met.D.Disk.may_leave_now disk n tells) c.args.self.now
    c.stop.new.self c.open_parts.new.self notes c.stop.ensures.shape stopped moved opens) c.open_parts.ensures.opened

pub returns-clause-live : goal.returns-clause-live
returns-clause-live g c = λ tells.
    IfOk-weaker c.open_parts.result _ _
    (λ notes opens. opened_live g.D.Disk.Tells g.D.Disk.files g.D.Piece.Piece.Tells g.D.Disk.fault_count g.D.Disk.fuse_count tells c.args.self.now.settings
    c.stop.new.self c.open_parts.new.self notes
    (c.open_parts.ensures.settings ∙ c.stop.ensures.settings) c.open_parts.ensures.shape opens) c.open_parts.ensures.opened

pub returns-clause-reads_each : goal.returns-clause-reads_each
returns-clause-reads_each g c = λ tells.
    IfOk-weaker c.open_parts.result _ _
    (λ notes opens. opened_read g.D.Disk.Tells g.D.Disk.files g.D.Piece.Piece.Tells g.D.Disk.fault_count g.D.Disk.fuse_count tells c.args.self.now.settings
    c.stop.new.self c.open_parts.new.self notes
    (c.open_parts.ensures.settings ∙ c.stop.ensures.settings) c.open_parts.ensures.shape opens) c.open_parts.ensures.opened
