-- What a block leaves, from what was run at all its locks.
use Rattle.std.proofs.Common.{◌≡◌, ◌<◌, ◌≤◌, ℕ, List, [], ◌∷◌, map, length, refl, sym, ap, subst, ◌∙◌, arith, Some, slice_get, Vec, Global}
use Rattle.std.specs.Prelude.{Bool}
use Rattle.std.specs.List.{AllByRecursion as Each, AllZip, flat_map}
use Rattle.std.proofs.lemmas.List.{length-map}
use Rattle.std.proofs.lemmas.Option.{slice_get_within}
use Rattle.hay_needle.specs.declared.settings.Settings.{Settings}
use Rattle.hay_core.specs.declared.entry.Entry.{Entry}
use Rattle.hay_front.specs.declared.front.Tag.{Tag}
use Rattle.hay_reply.specs.declared.Reply.{Reply}
use Rattle.hay_reply.specs.Fits.{FitsReply}
use Rattle.hay_legal.specs.declared.known.DirKnown.{DirKnown}
use Rattle.hay_legal.specs.declared.known.HomeRow.{HomeRow}
use Rattle.hay_legal.specs.declared.known.VolumeKnown.{VolumeKnown}
use Rattle.hay_lanes.specs.Lanes.{AnswersAll, AnswersLanes}
use Rattle.hay_meeting.specs.declared.act.DirAct.{DirAct}
use Rattle.hay_meeting.specs.declared.act.VolumeAct.{VolumeAct}
use Rattle.hay_meeting.specs.Acts.{Start, row_lock}
use Rattle.hay_meeting.specs.Locks.{LockSight}
use Rattle.hay_meeting.proofs.Closing.{there}
use Rattle.hay_lane.specs.declared.lane.Lane.{Lane}
use Rattle.hay_lane.specs.Blames.{Blames, causes_told}
use Rattle.hay_lane.specs.Lanes.{IsLaterArm}
use Rattle.hay_shared_volume.specs.Tellings.{StoreVolume}
use Rattle.hay_lane.proofs.Arms.{later_on, later_same}
use Rattle.hay_lane.proofs.Blaming.{blames_more, blames_none}
use Rattle.hay_block.specs.declared.worker.Job.{Job}
use Rattle.hay_block.specs.Frames.{RanAll, shared_by}
use Rattle.hay_block.specs.Lines.{Answers, AnswersBad, AnswersSuited, BlameArms}
use Rattle.hay_shared_volume.specs.Making.{AreSeated, AreUnseen}
use Rattle.hay_block.specs.Making.{LeavesDirectory}
use Rattle.hay_block.specs.Stores.{AreStill, CountsRise}
use Rattle.hay_block.proofs.Framing.{nothing_made}
use Rattle.hay_block.proofs.Lists.{each_by, mapped, same_item, zip_by, zip_mapped, zip_same}

-- REPLIES, whatever the disks tell

module _ {W J O : Type 0} (gives : W → ℕ → J → W → O → Type 0) where
  as_long : (lane : ℕ) (w : W) (jobs : List J) (after : W) (outs : List O) → AnswersAll gives lane w jobs after outs → length jobs ≡ length outs
  as_long lane w [] after outs (same, none) = sym (ap length none)
  as_long lane w (job ∷ jobs) after outs (x, out, rest, outs_are, answered, more) =
      let less = as_long lane x jobs after rest more in
      let long = ap length outs_are in
      omega (arith, less, long)

  each_out : (P : O → Type 0) → ((w : W) (lane : ℕ) (job : J) (x : W) (out : O) → gives w lane job x out → P out)
      → (lane : ℕ) (w : W) (jobs : List J) (after : W) (outs : List O) → AnswersAll gives lane w jobs after outs → Each P outs
  each_out P fits lane w [] after outs (same, none) = subst (Each P) (sym none) tt
  each_out P fits lane w (job ∷ jobs) after outs (x, out, rest, outs_are, answered, more) =
      subst (Each P) (sym outs_are) (fits w lane job x out answered, each_out P fits lane x jobs after rest more)

  -- each line has its reply
  pub replies_long : {workers after : List W} {jobs : List (List J)} {outs : List (List O)} → length jobs ≡ length workers → AnswersLanes gives workers jobs after outs
      → AllZip (λ js rs. length js ≡ length rs) jobs outs
  replies_long {workers} {after} {jobs} {outs} given all = zip_by (λ js rs. length js ≡ length rs) jobs outs (sym all.lanes_stay)
      (λ lane js rs at_js at_rs.
      let w = there workers lane (let within = slice_get_within jobs lane js at_js in omega (arith, within, given)) in
      let r = all.each lane w.0 js w.1 at_js in
      as_long lane w.0 js r.0 r.1 r.4 ∙ ap length (same_item outs lane r.3 at_rs))

  -- and all are such
  pub replies_are : (P : O → Type 0) → ((w : W) (lane : ℕ) (job : J) (x : W) (out : O) → gives w lane job x out → P out)
      → {workers after : List W} {jobs : List (List J)} {outs : List (List O)} → length jobs ≡ length workers → AnswersLanes gives workers jobs after outs → Each (Each P) outs
  replies_are P fits {workers} {after} {jobs} {outs} given all = each_by (Each P) outs (λ lane rs at_rs.
      let within = slice_get_within outs lane rs at_rs in
      let same = all.lanes_stay in
      let js = there jobs lane (omega (arith, within, same)) in
      let w = there workers lane (omega (arith, within, same, given)) in
      let r = all.each lane w.0 js.0 w.1 js.1 in
      subst (Each P) (same_item outs lane r.3 at_rs) (each_out P fits lane w.0 js.0 r.0 r.1 r.4))

  zip_out : (R : J → O → Type 0) → ((w : W) (lane : ℕ) (job : J) (x : W) (out : O) → gives w lane job x out → R job out)
      → (lane : ℕ) (w : W) (jobs : List J) (after : W) (outs : List O) → AnswersAll gives lane w jobs after outs → AllZip R jobs outs
  zip_out R is lane w [] after outs (same, none) = subst (AllZip R []) (sym none) tt
  zip_out R is lane w (job ∷ jobs) after outs (x, out, rest, outs_are, answered, more) =
      subst (AllZip R (job ∷ jobs)) (sym outs_are) (is w lane job x out answered, zip_out R is lane x jobs after rest more)

  -- and each is such for its line
  pub replies_so : (R : J → O → Type 0) → ((w : W) (lane : ℕ) (job : J) (x : W) (out : O) → gives w lane job x out → R job out)
      → {workers after : List W} {jobs : List (List J)} {outs : List (List O)} → length jobs ≡ length workers → AnswersLanes gives workers jobs after outs → AllZip (AllZip R) jobs outs
  replies_so R is {workers} {after} {jobs} {outs} given all = zip_by (AllZip R) jobs outs (sym all.lanes_stay)
      (λ lane js rs at_js at_rs.
      let w = there workers lane (let within = slice_get_within jobs lane js at_js in omega (arith, within, given)) in
      let r = all.each lane w.0 js w.1 at_js in
      subst (AllZip R js) (same_item outs lane r.3 at_rs) (zip_out R is lane w.0 js r.0 r.1 r.4))

  chained : (R : W → List O → W → Type 0) → ((w : W) → R w [] w) → ((w : W) (lane : ℕ) (job : J) (x : W) (out : O) (rest : List O) (y : W) → gives w lane job x out → R x rest y → R w (out ∷ rest) y)
      → (lane : ℕ) (w : W) (jobs : List J) (after : W) (outs : List O) → AnswersAll gives lane w jobs after outs → R w outs after
  chained R none on lane w [] after outs (same, none_out) = subst (λ os. R w os after) (sym none_out) (subst (R w []) (sym same) (none w))
  chained R none on lane w (job ∷ jobs) after outs (x, out, rest, outs_are, answered, more) =
      subst (λ os. R w os after) (sym outs_are) (on w lane job x out rest after answered (chained R none on lane x jobs after rest more))

  -- what each answer adds to those behind it, all of a lane's have
  pub lanes_chained : (R : W → List O → W → Type 0) → ((w : W) → R w [] w)
      → ((w : W) (lane : ℕ) (job : J) (x : W) (out : O) (rest : List O) (y : W) → gives w lane job x out → R x rest y → R w (out ∷ rest) y)
      → {workers after : List W} {jobs : List (List J)} {outs : List (List O)} → length jobs ≡ length workers → AnswersLanes gives workers jobs after outs
      → (lane : ℕ) (rs : List O) → slice_get outs lane ≡ Some rs → (w : W) × (x : W) × (slice_get workers lane ≡ Some w) × (slice_get after lane ≡ Some x) × R w rs x
  lanes_chained R none on {workers} {after} {jobs} {outs} given all lane rs at_rs =
      let within = slice_get_within outs lane rs at_rs in
      let same = all.lanes_stay in
      let js = there jobs lane (omega (arith, within, same)) in
      let w = there workers lane (omega (arith, within, same, given)) in
      let r = all.each lane w.0 js.0 w.1 js.1 in
      (w.0, r.0, w.1, r.2, subst (λ os. R w.0 os r.0) (same_item outs lane r.3 at_rs) (chained R none on lane w.0 js.0 r.0 r.1 r.4))

  -- WORKERS

  left_by : (R : W → W → Type 0) → ((w : W) → R w w) → ((a b c : W) → R a b → R b c → R a c) → ((w : W) (lane : ℕ) (job : J) (x : W) (out : O) → gives w lane job x out → R w x)
      → (lane : ℕ) (w : W) (jobs : List J) (after : W) (outs : List O) → AnswersAll gives lane w jobs after outs → R w after
  left_by R same on step lane w [] after outs (is, none) = subst (R w) (sym is) (same w)
  left_by R same on step lane w (job ∷ jobs) after outs (x, out, rest, outs_are, answered, more) =
      on w x after (step w lane job x out answered) (left_by R same on step lane x jobs after rest more)

  -- what each answer leaves of a worker is left of it by all
  pub workers_left : (R : W → W → Type 0) → ((w : W) → R w w) → ((a b c : W) → R a b → R b c → R a c) → ((w : W) (lane : ℕ) (job : J) (x : W) (out : O) → gives w lane job x out → R w x)
      → {workers after : List W} {jobs : List (List J)} {outs : List (List O)} → length jobs ≡ length workers → AnswersLanes gives workers jobs after outs → AllZip R workers after
  workers_left R same on step {workers} {after} {jobs} {outs} given all = zip_by R workers after (sym all.workers_stay)
      (λ lane w x at_w at_x.
      let within = slice_get_within workers lane w at_w in
      let js = there jobs lane (omega (arith, within, given)) in
      let r = all.each lane w js.0 at_w js.1 in
      subst (R w) (same_item after lane r.2 at_x) (left_by R same on step lane w js.0 r.0 r.1 r.4))

-- COUNTS, whatever the disks tell

module _ {V D S T A W : Type 0} {fits : ℕ → V → Settings → ℕ → S → Type 0} {fits_rows : D → Settings → ℕ → T → Type 0} {is_at : S → StoreVolume → Type 0} {is_at_rows : T → Start → Type 0}
    {of : S → LockSight VolumeAct Entry} {of_rows : T → LockSight DirAct HomeRow} {arm_sure : A → Bool} {arm_faults : A → ℕ} {stands : W → VolumeKnown → Type 0} {faults fuses : W → ℕ → ℕ}
    {settings : Settings} {lock : D} {drained : Vec Bool Global} {volumes : List W} {seats : List T} {arms : List A} {behind : List W} {tags : List (Vec Tag Global)}
    {seats_behind : List T} {arms_behind : List A}
    {jobs : List (List Job)} {replies : List (List Reply)}
    (all : RanAll fits fits_rows is_at is_at_rows of of_rows arm_sure arm_faults stands faults fuses settings lock drained volumes seats arms behind tags seats_behind arms_behind jobs replies) where
  abbrev pub Gives : Lane S T A → ℕ → Job → Lane S T A → Reply → Type 0
  Gives before lane job after reply = Answers fits fits_rows is_at is_at_rows of of_rows arm_sure arm_faults (shared_by settings all.locks lock drained) lane job before after reply

  -- no count of a disk fell
  pub counts_rise : length volumes ≡ settings.volumes → (v j : ℕ) (a b : W) → slice_get volumes v ≡ Some a → slice_get behind v ≡ Some b → j < settings.replicas → faults a j ≤ faults b j
  counts_rise many v j a b at_a at_b within =
      let t = all.took v (let low = slice_get_within volumes v a at_a in omega (arith, low, many)) in
      subst (λ z. faults z j ≤ faults b j) (same_item volumes v t.was at_a) (subst (λ z. faults t.before j ≤ faults z j) (same_item behind v t.is at_b) ((t.left).rises j within))

  pub given_lanes : length jobs ≡ length arms → length jobs ≡ length all.lanes
  given_lanes given = given ∙ (sym (ap length all.arms_are) ∙ length-map all.lanes (λ l. l.arm))

  -- no count of an arm fell, and sure ones are so still
  pub all_later : length jobs ≡ length arms → AllZip (IsLaterArm arm_sure arm_faults) arms arms_behind
  all_later given =
      subst (λ z. AllZip (IsLaterArm arm_sure arm_faults) z arms_behind) all.arms_are
      (subst (λ z. AllZip (IsLaterArm arm_sure arm_faults) (map (λ l. l.arm) all.lanes) z) all.arms_behind_are
      (zip_mapped (λ l. l.arm) (λ l. l.arm) (IsLaterArm arm_sure arm_faults) all.lanes all.after
      (workers_left Gives (λ l m. IsLaterArm arm_sure arm_faults l.arm m.arm) (λ l. later_same refl) (λ a b c x y. later_on x y) (λ before lane job after reply gives. gives.arm)
      (given_lanes given) all.answers)))

  -- each line has its reply, which there is
  pub all_replied : length jobs ≡ length arms → AllZip (λ js rs. length js ≡ length rs) jobs replies
  all_replied given = replies_long Gives (given_lanes given) all.answers

  pub all_suit : length jobs ≡ length arms → AllZip (AllZip (AnswersSuited settings)) jobs replies
  all_suit given = replies_so Gives (AnswersSuited settings) (λ before lane job after reply gives. gives.suits) (given_lanes given) all.answers

  pub all_bad : length jobs ≡ length arms → AllZip (AllZip AnswersBad) jobs replies
  all_bad given = replies_so Gives AnswersBad (λ before lane job after reply gives. gives.bad) (given_lanes given) all.answers

  pub all_fit : length jobs ≡ length arms → Each (Each FitsReply) replies
  all_fit given = replies_are Gives FitsReply (λ before lane job after reply gives. gives.fits_reply) (given_lanes given) all.answers

  -- a lane's arm, from its first line to its last
  abbrev LaneLeaves : Lane S T A → List Reply → Lane S T A → Type 0
  LaneLeaves before replies after = IsLaterArm arm_sure arm_faults before.arm after.arm × Blames arm_sure arm_faults before.arm after.arm (flat_map causes_told replies)

  lane_leaves : (before : Lane S T A) (lane : ℕ) (job : Job) (next : Lane S T A) (reply : Reply) (rest : List Reply) (after : Lane S T A) → Gives before lane job next reply
      → LaneLeaves next rest after → LaneLeaves before (reply ∷ rest) after
  lane_leaves before lane job next reply rest after gives leaves = (
    later_on gives.arm leaves.0,
    blames_more arm_sure arm_faults before.arm next.arm after.arm (causes_told reply) (flat_map causes_told rest) gives.arm leaves.0 gives.blames leaves.1,
  )

  -- no arm is told as a cause but the lane's own
  pub all_blame : length jobs ≡ length arms → BlameArms arm_sure arm_faults arms arms_behind replies
  all_blame given = record {
    each = λ lane rs at_rs.
        let of_arm : Lane S T A → A = λ l. l.arm in
        let leaves = lanes_chained Gives LaneLeaves (λ l. (later_same refl, blames_none arm_sure arm_faults l.arm l.arm [] refl)) lane_leaves (given_lanes given) all.answers lane rs at_rs in (
          (leaves.0).arm,
          (leaves.1).arm,
          ap (λ z. slice_get z lane) (sym all.arms_are) ∙ mapped of_arm all.lanes lane leaves.0 leaves.2,
          ap (λ z. slice_get z lane) (sym all.arms_behind_are) ∙ mapped of_arm all.after lane leaves.1 leaves.3,
          (leaves.4).1,
        );
  }

-- WHERE NO LINE WAS ANSWERED

-- a Directory at whose lock nothing happened is as it was
pub directory_same : {T F : Type 0} {of_rows : T → LockSight DirAct HomeRow} {stands : F → DirKnown → List Bool → Type 0} {faults fuses : F → ℕ} {directory after : F}
    {seats : List T} {tags : List Tag}
    → LeavesDirectory of_rows stands faults fuses directory seats after tags → AreUnseen of_rows seats → after ≡ directory
directory_same {T} {F} {of_rows} {stands} {faults} {fuses} {directory} {after} {seats} leaves new = leaves.untouched (nothing_made row_lock of_rows seats leaves.history leaves.ended new)

-- arms that are as they were
pub same_arms : {A : Type 0} (arm_sure : A → Bool) (arm_faults : A → ℕ) {old new : List A} → new ≡ old → AllZip (IsLaterArm arm_sure arm_faults) old new
same_arms arm_sure arm_faults {old} {new} same = subst (λ z. AllZip (IsLaterArm arm_sure arm_faults) old z) (sym same) (zip_same (IsLaterArm arm_sure arm_faults) (λ arm. later_same refl) old)

-- volumes that stand as they stood have the counts that they had
pub still_counts : {W F : Type 0} {stands : W → VolumeKnown → Type 0} {faults fuses : W → ℕ → ℕ} {row_faults : F → ℕ} {settings : Settings} {old new : List W} {before after : F}
    → AreStill stands faults fuses settings old new → after ≡ before → CountsRise settings faults row_faults old before new after
still_counts {W} {F} {stands} {faults} {fuses} {row_faults} still same = record {
  volumes = λ v j a b at_a at_b within. let e = (still.each v a b at_a at_b).faults_are j within in omega (arith, e);
  rows = let e = ap row_faults same in omega (arith, e);
}

-- what was made of a Directory, by its lock and the count of seats
pub made_rows : {D Q F : Type 0} (is_made : D → Q → F → Settings → ℕ → Type 0) {lock after : D} {room : Q} {directory : F} {settings : Settings} {n : ℕ} (lanes : ℕ)
    → is_made lock room directory settings n → after ≡ lock → n ≡ lanes → is_made after room directory settings lanes
made_rows is_made {lock} {after} {room} {directory} {settings} {n} lanes made lock_is many =
    subst (λ z. is_made z room directory settings lanes) (sym lock_is) (subst (is_made lock room directory settings) many made)

pub seated_rows : {D T : Type 0} (fits : D → Settings → ℕ → T → Type 0) (settings : Settings) {lanes : ℕ} (lock after : D) (seats : List T) → AreSeated fits lock settings lanes seats → after ≡ lock
    → AreSeated fits after settings (length seats) seats
seated_rows fits settings lock after seats sits lock_is =
    let at : AreSeated fits lock settings (length seats) seats = record { many = refl; each = sits.each } in
    subst (λ z. AreSeated fits z settings (length seats) seats) (sym lock_is) at
