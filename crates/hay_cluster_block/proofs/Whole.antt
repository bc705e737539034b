-- A store that was taken apart for a block, and the store that was made again behind it.
use Rattle.std.proofs.Common.{◌≡◌, ◌≢◌, ◌≤◌, ◌++◌, ◌+◌, ℕ, Bool, List, Vec, Global, map, length, reverse, take, drop, refl, sym, subst, ◌∙◌, arith, Result}
use Rattle.std.specs.Prelude.{IfOk, IsErr, OnErr}
use Rattle.std.specs.List.{AllZip}
use Rattle.hay_base.specs.declared.memory.NoMemory.{NoMemory}
use Rattle.hay_needle.specs.declared.settings.Settings.{Settings}
use Rattle.hay_disk.specs.Disk.{Files}
use Rattle.hay_reply.specs.declared.Note.{Note}
use Rattle.hay_reply.specs.declared.Reply.{Reply}
use Rattle.hay_legal.specs.declared.known.Known.{Known}
use Rattle.hay_legal.specs.declared.turn.LaneItem.{LaneItem}
use Rattle.hay_legal.specs.declared.turn.LogNote.{LogNote}
use Rattle.hay_legal.specs.declared.turn.RowNote.{RowNote}
use Rattle.hay_legal.specs.Known.{EachPair, NoneFalls}
use Rattle.hay_directory.specs.State.{State, home_of}
use Rattle.hay_logical.specs.Volumes.{Volume}
use Rattle.hay_lane.specs.Lanes.{IsLaterArm}
use Rattle.hay_block.specs.declared.store.BlockNotes.{BlockNotes}
use Rattle.hay_block.specs.declared.worker.Job.{Job}
use Rattle.hay_block.specs.Lines.{AreItems}
use Rattle.hay_block.specs.Parts.{NotesTell}
use Rattle.hay_block.specs.Stores.{AreStill, AreVolumes, CountsRise, FusesStay, RanLegally}
use Rattle.hay_locks.specs.Making.{DirectoryStands, IsDirectoryOf, rows_count_of}
use Rattle.hay_shared_volume.specs.Making.{VolumeStands, count_of}
use Rattle.hay_shared_volume.specs.Making as locks
use Rattle.hay_cluster.specs.Causes.{StaySure}
use Rattle.hay_cluster.specs.State.{Stands}
use Rattle.hay_cluster.specs.Store.{IsShaped, IsUp, Open, disks_of}
use Rattle.hay_cluster_block.proofs.Behind.{ran_block}
use Rattle.hay_cluster_block.proofs.Rising.{all_many, arms_rise, arms_sure}
use Rattle.hay_cluster_block.proofs.Standing.{AllStand, given_directory, given_volumes, made, none_falls, none_set, parts_stand, shape_behind, stays_as, up_behind}
use Rattle.hay_cluster_block.specs.Blocks.{RanBlock, StaysAs}
use Rattle.hay_cluster_block.specs.Notes.{entered_notes}

pub stays_self : {D P A : Type 0} (DiskTells : Type 0) (files : D → Files) (Tells : Type 0) (faults fuses : D → ℕ) (arm_faults : A → ℕ) (store : Open D P A)
    → StaysAs DiskTells files Tells faults fuses arm_faults store store
stays_self DiskTells files Tells faults fuses arm_faults store = record { stands = λ tells k stood. stood; directory_is = refl; faults_are = refl; fuses_are = refl; arms_are = refl }

module _ {D P A : Type 0} {settings : Settings} {directory : State D} {before : List (Volume D P)} {arms : List A} {cluster : Open D P A}
    (was : cluster ≡ made settings directory before arms) (shaped : IsShaped cluster) (up : IsUp cluster) where
  pub shape_was : IsShaped (made settings directory before arms)
  shape_was = subst IsShaped was shaped

  up_was : IsUp (made settings directory before arms)
  up_was = subst IsUp was up

  pub were : AreVolumes locks.IsVolumeOf settings before
  were = given_volumes settings directory before arms shape_was up_was

  pub was_directory : IsDirectoryOf directory settings
  was_directory = given_directory settings directory before arms shape_was up_was

  -- the arms are all back
  pub many_behind : (n : ℕ) (first others last : List A) → first ≡ take n arms → others ≡ reverse (drop n arms) → n ≤ 8 → length last ≡ n → length (last ++ reverse others) ≡ 8
  many_behind n first others last first_are others_are few many =
      let lanes : length arms ≡ 8 = shape_was.lanes in (all_many n arms first others last first_are others_are (omega (arith, lanes, few)) many).0 ∙ lanes

  pub room_again : (capacity n : ℕ) (first others last : List A) → first ≡ take n arms → others ≡ reverse (drop n arms) → n ≤ 8 → length last ≡ n → length arms ≤ capacity
      → length last + length others ≤ capacity
  room_again capacity n first others last first_are others_are few many wide =
      let lanes : length arms ≡ 8 = shape_was.lanes in
      let all = (all_many n arms first others last first_are others_are (omega (arith, lanes, few)) many).1 in
      omega (arith, all, wide)

  pub shape_again : (new : State D) (after : List (Volume D P)) (n : ℕ) (first others last : List A) → first ≡ take n arms → others ≡ reverse (drop n arms) → n ≤ 8
      → length last ≡ n → AreVolumes locks.IsVolumeOf settings after → IsDirectoryOf new settings
      → IsShaped (made settings new after (last ++ reverse others))
  shape_again new after n first others last first_are others_are few many are of =
      shape_behind settings new after (last ++ reverse others) are of shape_was.built (many_behind n first others last first_are others_are few many)

  module _ {new : State D} {after : List (Volume D P)} {whole : List A} {store : Open D P A} (is : store ≡ made settings new after whole)
      (are : AreVolumes locks.IsVolumeOf settings after) (of : IsDirectoryOf new settings) where
    pub is_up : IsUp store
    is_up = subst IsUp (sym is) (up_behind settings new after whole are of)

    pub counts_rise : (faults : D → ℕ) → CountsRise settings (count_of faults) (rows_count_of faults) before directory after new
        → NoneFalls (map faults (disks_of cluster)) (map faults (disks_of store))
    counts_rise faults rise =
        subst (λ (z : Open D P A). NoneFalls (map faults (disks_of z)) (map faults (disks_of store))) (sym was)
        (subst (λ (z : Open D P A). NoneFalls (map faults (disks_of (made settings directory before arms))) (map faults (disks_of z))) (sym is)
        (none_falls settings directory new before after were are faults rise))

    pub fuses_same : (fuses : D → ℕ) → FusesStay settings (count_of fuses) (rows_count_of fuses) before directory after new
        → map fuses (disks_of store) ≡ map fuses (disks_of cluster)
    fuses_same fuses stay =
        subst (λ (z : Open D P A). map fuses (disks_of store) ≡ map fuses (disks_of z)) (sym was)
        (subst (λ (z : Open D P A). map fuses (disks_of z) ≡ map fuses (disks_of (made settings directory before arms))) (sym is)
        (none_set settings directory new before after were are fuses stay))

  module _ {new : State D} {after : List (Volume D P)} {whole : List A} {store : Open D P A} (is : store ≡ made settings new after whole) (is_sure : A → Bool) (arm_faults : A → ℕ)
      (later : AllZip (IsLaterArm is_sure arm_faults) arms whole) where
    pub arms_later : NoneFalls (map arm_faults cluster.arms) (map arm_faults store.arms)
    arms_later =
        subst (λ (z : Open D P A). NoneFalls (map arm_faults z.arms) (map arm_faults store.arms)) (sym was)
        (subst (λ (z : Open D P A). NoneFalls (map arm_faults arms) (map arm_faults z.arms)) (sym is) (arms_rise is_sure arm_faults arms whole later))

    pub arms_stay : StaySure is_sure arm_faults cluster.arms store.arms
    arms_stay =
        subst (λ (z : Open D P A). StaySure is_sure arm_faults z.arms store.arms) (sym was)
        (subst (λ (z : Open D P A). StaySure is_sure arm_faults arms z.arms) (sym is) (arms_sure is_sure arm_faults arms whole later))

  module _ {new : State D} {after : List (Volume D P)} {whole : List A} {store : Open D P A} (is : store ≡ made settings new after whole)
      (are : AreVolumes locks.IsVolumeOf settings after) (of : IsDirectoryOf new settings) (many : length whole ≡ 8)
      (DiskTells : Type 0) (files : D → Files) (Tells : Type 0) (faults fuses : D → ℕ) (arm_faults : A → ℕ) where
    shape_is : IsShaped (made settings new after whole)
    shape_is = shape_behind settings new after whole are of shape_was.built many

    -- no line was answered
    pub stays : new ≡ directory → whole ≡ arms → AreStill (VolumeStands DiskTells files Tells) (count_of faults) (count_of fuses) settings before after
        → StaysAs DiskTells files Tells faults fuses arm_faults cluster store
    stays same arms_same still =
        subst (λ (z : Open D P A). StaysAs DiskTells files Tells faults fuses arm_faults z store) (sym was)
        (subst (λ (z : Open D P A). StaysAs DiskTells files Tells faults fuses arm_faults (made settings directory before arms) z) (sym is)
        (stays_as DiskTells files Tells faults fuses arm_faults settings directory new before after arms whole shape_is were are same arms_same still))

    -- all lines were
    module _ (jobs : List (Vec Job Global)) (replies : List (Vec Reply Global)) (first others last : List A) (split : arms ≡ first ++ others) (rest : whole ≡ last ++ others) where
      abbrev pub Runs : Known → List LaneItem → List LogNote → RowNote → Type 0
      Runs k items logs rows =
          RanLegally (VolumeStands DiskTells files Tells) (count_of faults) (count_of fuses) (DirectoryStands DiskTells files) (rows_count_of faults) (rows_count_of fuses) arm_faults
          settings k items logs rows after new last (map arm_faults others)

      pub ran : AllZip (λ (js : Vec Job Global) (rs : Vec Reply Global). length js.items ≡ length rs.items) jobs replies
          → (entered : Result BlockNotes NoMemory) (told : Result (Vec Note Global) NoMemory)
          → IfOk entered (λ e. IfOk told (λ notes. notes.items ≡ entered_notes (home_of new) jobs e)) → OnErr entered (IsErr told)
          → ((k : Known) → AllStand DiskTells files Tells faults fuses arm_faults settings before directory first (map arm_faults others) k → (items : List LaneItem)
          → AreItems (map (λ (js : Vec Job Global). js.items) jobs) (map (λ (rs : Vec Reply Global). rs.items) replies) items → EachPair (λ a b. a.line ≢ b.line) items
          → (logs : List LogNote) × (rows : RowNote) × IfOk entered (NotesTell logs rows) × Runs k items logs rows)
          → DiskTells → (k : Known) → Stands files Tells faults fuses arm_faults cluster k → (items : List LaneItem)
          → AreItems (map (λ (js : Vec Job Global). js.items) jobs) (map (λ (rs : Vec Reply Global). rs.items) replies) items → EachPair (λ a b. a.line ≢ b.line) items
          → RanBlock files Tells faults fuses arm_faults k items told store
      ran replied entered told tells_are wanted legal tells k stood items are_items distinct =
          let stand = parts_stand DiskTells files Tells faults fuses arm_faults settings tells directory before arms first others were split k
          (subst (λ (z : Open D P A). Stands files Tells faults fuses arm_faults z k) was stood) in
          let r = legal k stand items are_items distinct in
          subst (λ (z : Open D P A). RanBlock files Tells faults fuses arm_faults k items told z) (sym is)
          (ran_block DiskTells files Tells faults fuses arm_faults settings jobs replies new after whole last others shape_is are rest replied entered told tells_are wanted k items
          are_items distinct r.0 r.1 r.2 r.3)
