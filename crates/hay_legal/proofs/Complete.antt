-- The laws of specs/Subject.antt on turns in which nothing failed.
use Rattle.std.proofs.Common.{◌≡◌, ◌≢◌, ℕ, zero, suc, ◌+◌, ◌-◌, ◌^◌, ◌<◌, ◌≤◌, true, false, List, [], ◌∷◌, ◌++◌, length, map, Option, Some, None, refl, sym, ap, subst, ◌∙◌, ◌⊎◌, inl, inr, arith, lit<}
use Rattle.std.specs.List.{AllByRecursion as Each, AllZip, enumerate_from}
use Rattle.std.proofs.lemmas.List.FromFn.{length-map-range_with_len}
use Rattle.std.specs.Prelude.{◌%◌, nat_lt, slice_index, find, Contains, option_map}
use Rattle.std.proofs.lemmas.Bool.Decides.{nat_tests}
use Rattle.std.proofs.lemmas.Bool.{cond-false}
use Rattle.hay_needle.specs.declared.needle.Pair.{Pair}
use Rattle.hay_needle.specs.declared.needle.Cookie.{Cookie}
use Rattle.hay_needle.specs.declared.needle.Outcome.TheVariants as outcome
use Rattle.hay_needle.specs.declared.settings.Settings.{Settings}
use Rattle.hay_url.specs.declared.Url.{Url as UrlParts}
use Rattle.hay_script.specs.declared.Command.{Command}
use Rattle.hay_script.specs.declared.Command.TheVariants as command
use Rattle.hay_reply.specs.declared.Cause.{Cause}
use Rattle.hay_reply.specs.declared.Cause.TheVariants as cause
use Rattle.hay_reply.specs.declared.Passed.{Passed}
use Rattle.hay_reply.specs.declared.Refused.{Refused}
use Rattle.hay_reply.specs.declared.Refused.TheVariants.{NoRoom}
use Rattle.hay_reply.specs.declared.Note.{Note}
use Rattle.hay_reply.specs.declared.Reply.{Reply}
use Rattle.hay_reply.specs.declared.Reply.TheVariants as reply
use Rattle.hay_core.specs.declared.entry.CoreTag.{CoreTag}
use Rattle.hay_core.specs.declared.entry.Entry.TheVariants as entry
use Rattle.hay_needle.specs.Sizes.{needle_total}
use Rattle.hay_needle.specs.Tables.{outcome_at}
use Rattle.hay_legal.specs.declared.known.ReplicaKnown.{ReplicaKnown}
use Rattle.hay_legal.specs.declared.known.VolumeKnown.{VolumeKnown}
use Rattle.hay_legal.specs.declared.known.Known.{Known}
use Rattle.hay_legal.specs.declared.turn.Item.{Item}
use Rattle.hay_legal.specs.declared.turn.Item.TheVariants as item
use Rattle.hay_legal.specs.declared.turn.Turn.{Turn}
use Rattle.hay_legal.specs.declared.turn.Turn.TheVariants.{Plain, Lanes, Restart}
use Rattle.hay_legal.specs.Known.{NoneFalls, fault_count, arm_count, slot_of, machine_of, replica_on, volume_at, replica_at, home_of, tries_of, now, lacks_room, refusal_by, refusal_of, room_refusal}
use Rattle.hay_legal.specs.Plain.{LegalPlain, LegalCommand, LegalGetAt, LegalShow, LegalFlush, LegalCompact, LegalBegin, LegalStep, LegalFinish, LegalFuse, OnReplica, RoseTo}
use Rattle.hay_legal.specs.Plain.{HasCause, IsUnreadable, order_from, start_of, as_closed, DirectoryOpen}
use Rattle.hay_legal.specs.Restarts.{LegalRestart}
use Rattle.hay_legal.specs.Legal.{Legal, LegalTurn, known_after}
use Rattle.hay_legal.specs.Subject.{known_behind, HasPhoto, NothingFailed, BlamesNothing, NothingIsBlamed, MayTake, IsStoredOrNoMem, TakenPutIsStored, HasEverywhere}
use Rattle.hay_legal.specs.Subject.{IsShownOrNoMem, StandingPhotoIsShown, StandingPhotoIsGot}
use Rattle.hay_legal.proofs.Subject.Shown.{legal_split, at-now, last_look, spared_look, bytes_in, cookie_in}
use Rattle.hay_legal.proofs.Subject.Effects.{plain_effect}
use Rattle.hay_legal.proofs.Subject.Standing.{Standing, shown_stands}
use Rattle.hay_legal.proofs.Rising.{same_falls}
use Rattle.hay_legal.proofs.Steps.{none_falls}

-- COUNTS OVER TURNS

pub falls_trans : (xs ys zs : List ℕ) → NoneFalls xs ys → NoneFalls ys zs → NoneFalls xs zs
falls_trans [] [] [] h g = tt
falls_trans (x ∷ xs) (y ∷ ys) (z ∷ zs) h g = (omega (arith, h.0, g.0), falls_trans xs ys zs h.1 g.1)
falls_trans [] (y ∷ ys) zs h g = absurd h
falls_trans (x ∷ xs) [] zs h g = absurd h
falls_trans xs [] (z ∷ zs) h g = absurd g
falls_trans xs (y ∷ ys) [] h g = absurd g

falls_both : (xs ys : List ℕ) → NoneFalls xs ys → NoneFalls ys xs → ys ≡ xs
falls_both [] [] h g = refl
falls_both (x ∷ xs) (y ∷ ys) h g =
    let first : y ≡ x = omega (arith, h.0, g.0) in
    let rest = falls_both xs ys h.1 g.1 in
    ap (λ (n : ℕ). n ∷ ys) first ∙ ap (λ (ns : List ℕ). x ∷ ns) rest
falls_both [] (y ∷ ys) h g = absurd h
falls_both (x ∷ xs) [] h g = absurd h

abbrev pub Rise : Known → Known → Type 0
Rise k t = NoneFalls k.faults t.faults × NoneFalls k.arms t.arms

restart_counts : (settings : Settings) (k : Known) (r : Reply) (notes : List Note) (t : Known) → LegalRestart settings k r notes t → Rise k t
restart_counts settings k (reply.Restarted d) notes t h = ((h.opened).faults, same_falls k.arms t.arms (h.opened).arms)
restart_counts settings k reply.NoMem notes t h = ((h.leaves).faults, same_falls k.arms t.arms (h.leaves).arms)
restart_counts settings k _ notes t h = absurd h

pub turn_counts : (settings : Settings) (k : Known) (turn : Turn) → LegalTurn settings k turn → Rise k (known_after turn)
turn_counts settings k (Plain line i r after) h =
    elim (plain_effect settings k line i r after h) [
      | inl calm ↦ ((calm.leaves).faults, (calm.leaves).arms)
      | inr change ↦ (change.4, change.5)
    ]
turn_counts settings k (Lanes items logs rows after) h = ((h.counts).faults, (h.counts).arms)
turn_counts settings k (Restart line pick r notes after) h = restart_counts settings k r notes after h

pub rise_trans : (a b c : Known) → Rise a b → Rise b c → Rise a c
rise_trans a b c h g = (falls_trans a.faults b.faults c.faults h.0 g.0, falls_trans a.arms b.arms c.arms h.1 g.1)

-- the counts never fall over turns
pub counts_rise : (settings : Settings) (k t : Known) (turns : List Turn) → Legal settings k turns t → Rise k t
counts_rise settings k t [] h = subst (λ (x : Known). Rise k x) (sym h) (none_falls k.faults, none_falls k.arms)
counts_rise settings k t (turn ∷ turns) h =
    rise_trans k (known_after turn) t (turn_counts settings k turn h.0) (counts_rise settings (known_after turn) t turns h.1)

-- what rose nowhere over the turns rose nowhere in one
pub nothing_failed_within : (k b after t : Known) → Rise k b → Rise b after → Rise after t → NothingFailed k t → NothingFailed b after
nothing_failed_within k b after t first here last calm =
    let end : Rise after k = (subst (λ (xs : List ℕ). NoneFalls after.faults xs) calm.faults last.0, subst (λ (xs : List ℕ). NoneFalls after.arms xs) calm.arms last.1) in
    let same_faults : b.faults ≡ k.faults = falls_both k.faults b.faults first.0 (falls_trans b.faults after.faults k.faults here.0 end.0) in
    let same_arms : b.arms ≡ k.arms = falls_both k.arms b.arms first.1 (falls_trans b.arms after.arms k.arms here.1 end.1) in
    record {
      faults = falls_both b.faults after.faults here.0 (subst (λ (xs : List ℕ). NoneFalls after.faults xs) (sym same_faults) end.0);
      arms = falls_both b.arms after.arms here.1 (subst (λ (xs : List ℕ). NoneFalls after.arms xs) (sym same_arms) end.1);
      disks = subst (λ (xs : List ℕ). Each (λ count. count < 2 ^ 64 - 1) xs) (sym same_faults) calm.disks;
      lanes = subst (λ (xs : List ℕ). Each (λ count. count < 2 ^ 64 - 1) xs) (sym same_arms) calm.lanes;
    }

-- a turn within turns in which nothing failed
calm_turn : (settings : Settings) (k t : Known) (earlier later : List Turn) (turn : Turn) → Legal settings k (earlier ++ turn ∷ later) t → NothingFailed k t
    → LegalTurn settings (known_behind k earlier) turn × NothingFailed (known_behind k earlier) (known_after turn)
calm_turn settings k t earlier later turn legal calm =
    let parts = legal_split settings k t earlier (turn ∷ later) legal in
    let b : Known = known_behind k earlier in (
      parts.1.0,
      nothing_failed_within k b (known_after turn) t (counts_rise settings k b earlier parts.0)
          (turn_counts settings b turn parts.1.0) (counts_rise settings (known_after turn) t later parts.1.1) calm,
    )

-- NO COUNT ROSE

pub count_below : (xs : List ℕ) (i : ℕ) → Each (λ count. count < 2 ^ 64 - 1) xs → slice_index xs i < 2 ^ 64 - 1
count_below [] i h = lit< tt
count_below (x ∷ xs) zero h = h.0
count_below (x ∷ xs) (suc i) h = count_below xs i h.1

not_rose : (before after end : ℕ) → (before < after) ⊎ (after ≡ end) → after ≡ before → before < end → ⊥
not_rose before after end (inl more) same below = omega (arith, more, same)
not_rose before after end (inr at_end) same below = omega (arith, at_end, same, below)

not_rose_to : (settings : Settings) (k : Known) (v j f : ℕ) (t : Known) → NothingFailed k t → RoseTo settings k v j f t → ⊥
not_rose_to settings k v j f t calm h =
    not_rose (fault_count k (slot_of settings v j)) f (2 ^ 64 - 1) h.rose
    (sym h.count ∙ ap (λ (xs : List ℕ). slice_index xs (slot_of settings v j)) calm.faults)
    (count_below k.faults (slot_of settings v j) calm.disks)

-- a count that did not rise, and does not stand at its end, is not printed
not_come_up : (before printed after end : ℕ) → ((before < printed) ⊎ (printed ≡ end)) × (printed ≤ after) → after ≡ before → before < end → ⊥
not_come_up before printed after end (inl above, below) same low = omega (arith, above, below, same)
not_come_up before printed after end (inr at_end, below) same low = omega (arith, at_end, below, same, low)

no_cause : (settings : Settings) (k t : Known) (tag : CoreTag) (v j : ℕ) (c : Cause) → NothingFailed k t → HasCause settings k t tag v j c → ⊥
no_cause settings k t tag v j (cause.Arm f) calm h =
    not_come_up (arm_count k tag.lane) f (arm_count t tag.lane) (2 ^ 64 - 1) h (ap (λ (xs : List ℕ). slice_index xs tag.lane) calm.arms)
    (count_below k.arms tag.lane calm.lanes)
no_cause settings k t tag v j (cause.Disk f) calm h =
    not_come_up (fault_count k (slot_of settings v j)) f (fault_count t (slot_of settings v j)) (2 ^ 64 - 1) h
    (ap (λ (xs : List ℕ). slice_index xs (slot_of settings v j)) calm.faults) (count_below k.faults (slot_of settings v j) calm.disks)
no_cause settings k t tag v j (cause.Damage at) calm h = h

abbrev Passes : Settings → Known → Known → CoreTag → ℕ → ℕ → Passed → Type 0
Passes settings k t tag v j passed = (passed.machine ≡ machine_of settings v j) × HasCause settings k t tag v j passed.cause

no_causes : (settings : Settings) (k t : Known) (tag : CoreTag) (v : ℕ) (js : List ℕ) (causes : List Passed) → NothingFailed k t → 0 < length js
    → AllZip (Passes settings k t tag v) js causes → ⊥
no_causes settings k t tag v [] causes calm some h = omega (arith, some)
no_causes settings k t tag v (j ∷ js) (passed ∷ causes) calm some h = no_cause settings k t tag v j passed.cause calm h.0.1
no_causes settings k t tag v (j ∷ js) [] calm some h = h

length-order : (settings : Settings) (start : ℕ) → length (order_from settings start) ≡ settings.replicas
length-order settings start = length-map-range_with_len (λ i. (start + i) % settings.replicas) 0 settings.replicas

pub unreadable_blames : (settings : Settings) (k : Known) (tag : CoreTag) (start : ℕ) (pair : Pair) (v p d : ℕ) (causes : List Passed) (t : Known) → 0 < settings.replicas
    → NothingFailed k t → IsUnreadable settings k tag start pair v p d causes t → BlamesNothing (reply.Unreadable v p d causes)
unreadable_blames settings k tag start pair v p d causes t some calm h =
    let more : 0 < length (order_from settings start) = subst (λ (n : ℕ). 0 < n) (sym (length-order settings start)) some in
    no_causes settings k t tag v (order_from settings start) causes calm more h.each

-- a reply to a command on a replica
pub on_replica_never : (k : Known) (o : Option ℕ) (legal : ℕ → Reply → Known → Type 0) (r : Reply) (t : Known) → r ≢ reply.Nowhere → r ≢ reply.NoMem
    → ((j : ℕ) → legal j r t → ⊥) → OnReplica k o legal r t → ⊥
on_replica_never k (Some j) legal r t n m never h = never j h
on_replica_never k None legal reply.Nowhere t n m never h = n refl
on_replica_never k None legal reply.NoMem t n m never h = m refl
on_replica_never k None legal _ t n m never h = h

get_never : (settings : Settings) (k : Known) (tag : CoreTag) (url : UrlParts) (o : Option ℕ) (v m f : ℕ) (t : Known) → LegalGetAt settings k tag url o (reply.Failed v m f) t → ⊥
get_never settings k tag url (Some start) v m f t h = absurd h.0
get_never settings k tag url None v m f t h = absurd h

get_never_dir : (settings : Settings) (k : Known) (tag : CoreTag) (url : UrlParts) (o : Option ℕ) (f : ℕ) (t : Known) → LegalGetAt settings k tag url o (reply.FailedDir f) t → ⊥
get_never_dir settings k tag url (Some start) f t h = absurd h.0
get_never_dir settings k tag url None f t h = absurd h

get_never_damaged : (settings : Settings) (k : Known) (tag : CoreTag) (url : UrlParts) (o : Option ℕ) (v m at : ℕ) (t : Known) → LegalGetAt settings k tag url o (reply.Damaged v m at) t → ⊥
get_never_damaged settings k tag url (Some start) v m at t h = absurd h.0
get_never_damaged settings k tag url None v m at t h = absurd h

never_failed : (settings : Settings) (k : Known) (tag : CoreTag) (c : Command) (v m f : ℕ) (t : Known) → NothingFailed k t
    → LegalCommand settings k tag c (reply.Failed v m f) t → ⊥
never_failed settings k tag (command.Put pair bytes) v m f t calm h = not_rose_to settings k v h.replica f t calm h.rose
never_failed settings k tag (command.Read pair cookie) v m f t calm h = h
never_failed settings k tag (command.Get url) v m f t calm h = get_never settings k tag url (replica_on settings url.volume url.machine) v m f t h
never_failed settings k tag (command.Del pair) v m f t calm h = not_rose_to settings k v h.replica f t calm h.rose
never_failed settings k tag (command.Url pair) v m f t calm h = h
never_failed settings k tag (command.Flush v' m') v m f t calm h =
    on_replica_never k (replica_on settings v' m') (LegalFlush settings k v' m') (reply.Failed v m f) t (λ e. cc) (λ e. cc) (λ j g. not_rose_to settings k v' j f t calm g.3) h
never_failed settings k tag (command.Compact v' m') v m f t calm h =
    on_replica_never k (replica_on settings v' m') (LegalCompact settings k v' m') (reply.Failed v m f) t (λ e. cc) (λ e. cc) (λ j g. not_rose_to settings k v' j f t calm g.3) h
never_failed settings k tag (command.Begin v' m') v m f t calm h =
    on_replica_never k (replica_on settings v' m') (LegalBegin settings k v' m') (reply.Failed v m f) t (λ e. cc) (λ e. cc) (λ j g. not_rose_to settings k v' j f t calm g.3) h
never_failed settings k tag (command.Step v' m' n) v m f t calm h =
    on_replica_never k (replica_on settings v' m') (λ j. LegalStep settings k v' m' j n) (reply.Failed v m f) t (λ e. cc) (λ e. cc) (λ j g. not_rose_to settings k v' j f t calm g.3) h
never_failed settings k tag (command.Finish v' m') v m f t calm h =
    on_replica_never k (replica_on settings v' m') (LegalFinish settings k v' m') (reply.Failed v m f) t (λ e. cc) (λ e. cc) (λ j g. not_rose_to settings k v' j f t calm g.3) h
never_failed settings k tag (command.Drain m') v m f t calm h = h
never_failed settings k tag (command.Undrain m') v m f t calm h = h
never_failed settings k tag (command.Fuse v' m' n) v m f t calm h =
    on_replica_never k (replica_on settings v' m') (λ j. LegalFuse settings k v' m' j n) (reply.Failed v m f) t (λ e. cc) (λ e. cc) (λ j g. g) h
never_failed settings k tag (command.FuseDir n) v m f t calm h = h
never_failed settings k tag (command.Restart pick) v m f t calm h = h

never_failed_dir : (settings : Settings) (k : Known) (tag : CoreTag) (c : Command) (f : ℕ) (t : Known) → NothingFailed k t
    → LegalCommand settings k tag c (reply.FailedDir f) t → ⊥
never_failed_dir settings k tag (command.Put pair bytes) f t calm h =
    not_rose (fault_count k 0) f (2 ^ 64 - 1) h.rose (sym h.count ∙ ap (λ (xs : List ℕ). slice_index xs 0) calm.faults) (count_below k.faults 0 calm.disks)
never_failed_dir settings k tag (command.Get url) f t calm h = get_never_dir settings k tag url (replica_on settings url.volume url.machine) f t h
never_failed_dir settings k tag (command.Flush v m) f t calm h =
    on_replica_never k (replica_on settings v m) (LegalFlush settings k v m) (reply.FailedDir f) t (λ e. cc) (λ e. cc) (λ j g. g) h
never_failed_dir settings k tag (command.Compact v m) f t calm h =
    on_replica_never k (replica_on settings v m) (LegalCompact settings k v m) (reply.FailedDir f) t (λ e. cc) (λ e. cc) (λ j g. g) h
never_failed_dir settings k tag (command.Begin v m) f t calm h =
    on_replica_never k (replica_on settings v m) (LegalBegin settings k v m) (reply.FailedDir f) t (λ e. cc) (λ e. cc) (λ j g. g) h
never_failed_dir settings k tag (command.Step v m n) f t calm h =
    on_replica_never k (replica_on settings v m) (λ j. LegalStep settings k v m j n) (reply.FailedDir f) t (λ e. cc) (λ e. cc) (λ j g. g) h
never_failed_dir settings k tag (command.Finish v m) f t calm h =
    on_replica_never k (replica_on settings v m) (LegalFinish settings k v m) (reply.FailedDir f) t (λ e. cc) (λ e. cc) (λ j g. g) h
never_failed_dir settings k tag (command.Fuse v m n) f t calm h =
    on_replica_never k (replica_on settings v m) (λ j. LegalFuse settings k v m j n) (reply.FailedDir f) t (λ e. cc) (λ e. cc) (λ j g. g) h
never_failed_dir settings k tag _ f t calm h = h

never_damaged : (settings : Settings) (k : Known) (tag : CoreTag) (c : Command) (w n at : ℕ) (t : Known) → LegalCommand settings k tag c (reply.Damaged w n at) t → ⊥
never_damaged settings k tag (command.Get url) w n at t h = get_never_damaged settings k tag url (replica_on settings url.volume url.machine) w n at t h
never_damaged settings k tag (command.Flush v m) w n at t h =
    on_replica_never k (replica_on settings v m) (LegalFlush settings k v m) (reply.Damaged w n at) t (λ e. cc) (λ e. cc) (λ j g. g) h
never_damaged settings k tag (command.Compact v m) w n at t h =
    on_replica_never k (replica_on settings v m) (LegalCompact settings k v m) (reply.Damaged w n at) t (λ e. cc) (λ e. cc) (λ j g. g) h
never_damaged settings k tag (command.Begin v m) w n at t h =
    on_replica_never k (replica_on settings v m) (LegalBegin settings k v m) (reply.Damaged w n at) t (λ e. cc) (λ e. cc) (λ j g. g) h
never_damaged settings k tag (command.Step v m cells) w n at t h =
    on_replica_never k (replica_on settings v m) (λ j. LegalStep settings k v m j cells) (reply.Damaged w n at) t (λ e. cc) (λ e. cc) (λ j g. g) h
never_damaged settings k tag (command.Finish v m) w n at t h =
    on_replica_never k (replica_on settings v m) (LegalFinish settings k v m) (reply.Damaged w n at) t (λ e. cc) (λ e. cc) (λ j g. g) h
never_damaged settings k tag (command.Fuse v m calls) w n at t h =
    on_replica_never k (replica_on settings v m) (λ j. LegalFuse settings k v m j calls) (reply.Damaged w n at) t (λ e. cc) (λ e. cc) (λ j g. g) h
never_damaged settings k tag _ w n at t h = h

get_blames : (settings : Settings) (k : Known) (tag : CoreTag) (url : UrlParts) (o : Option ℕ) (v p d : ℕ) (causes : List Passed) (t : Known) → 0 < settings.replicas → NothingFailed k t
    → LegalGetAt settings k tag url o (reply.Unreadable v p d causes) t → BlamesNothing (reply.Unreadable v p d causes)
get_blames settings k tag url (Some start) v p d causes t some calm h = unreadable_blames settings k tag start url.pair v p d causes t some calm h.0
get_blames settings k tag url None v p d causes t some calm h = absurd h

command_blames : (settings : Settings) (k : Known) (tag : CoreTag) (c : Command) (v p d : ℕ) (causes : List Passed) (t : Known) → 0 < settings.replicas → NothingFailed k t
    → LegalCommand settings k tag c (reply.Unreadable v p d causes) t → BlamesNothing (reply.Unreadable v p d causes)
command_blames settings k tag (command.Read pair cookie) v p d causes t some calm h = unreadable_blames settings k tag (start_of settings tag) pair v p d causes t some calm h
command_blames settings k tag (command.Get url) v p d causes t some calm h = get_blames settings k tag url (replica_on settings url.volume url.machine) v p d causes t some calm h
command_blames settings k tag (command.Flush w m) v p d causes t some calm h =
    absurd (on_replica_never k (replica_on settings w m) (LegalFlush settings k w m) (reply.Unreadable v p d causes) t (λ e. cc) (λ e. cc) (λ j g. g) h)
command_blames settings k tag (command.Compact w m) v p d causes t some calm h =
    absurd (on_replica_never k (replica_on settings w m) (LegalCompact settings k w m) (reply.Unreadable v p d causes) t (λ e. cc) (λ e. cc) (λ j g. g) h)
command_blames settings k tag (command.Begin w m) v p d causes t some calm h =
    absurd (on_replica_never k (replica_on settings w m) (LegalBegin settings k w m) (reply.Unreadable v p d causes) t (λ e. cc) (λ e. cc) (λ j g. g) h)
command_blames settings k tag (command.Step w m n) v p d causes t some calm h =
    absurd (on_replica_never k (replica_on settings w m) (λ j. LegalStep settings k w m j n) (reply.Unreadable v p d causes) t (λ e. cc) (λ e. cc) (λ j g. g) h)
command_blames settings k tag (command.Finish w m) v p d causes t some calm h =
    absurd (on_replica_never k (replica_on settings w m) (LegalFinish settings k w m) (reply.Unreadable v p d causes) t (λ e. cc) (λ e. cc) (λ j g. g) h)
command_blames settings k tag (command.Fuse w m n) v p d causes t some calm h =
    absurd (on_replica_never k (replica_on settings w m) (λ j. LegalFuse settings k w m j n) (reply.Unreadable v p d causes) t (λ e. cc) (λ e. cc) (λ j g. g) h)
command_blames settings k tag _ v p d causes t some calm h = absurd h

answer_blames : (settings : Settings) (k : Known) (tag : CoreTag) (c : Command) (r : Reply) (t : Known) → 0 < settings.replicas → NothingFailed k t
    → LegalCommand settings k tag c r t → BlamesNothing r
answer_blames settings k tag c (reply.Failed v m f) t some calm h = never_failed settings k tag c v m f t calm h
answer_blames settings k tag c (reply.FailedDir f) t some calm h = never_failed_dir settings k tag c f t calm h
answer_blames settings k tag c (reply.Damaged v m at) t some calm h = never_damaged settings k tag c v m at t h
answer_blames settings k tag c (reply.Unreadable v p d causes) t some calm h = command_blames settings k tag c v p d causes t some calm h
answer_blames settings k tag c _ t some calm h = tt

item_blames : (settings : Settings) (k : Known) (line : ℕ) (i : Item) (r : Reply) (t : Known) → 0 < settings.replicas → NothingFailed k t
    → LegalPlain settings k line i r t → BlamesNothing r
item_blames settings k line (item.Command c) r t some calm h = answer_blames settings k (record { lane = 0; line = line }) c r t some calm h
item_blames settings k line item.Bad r t some calm h = subst BlamesNothing (sym h.0) tt

pub nothing_is_blamed : NothingIsBlamed
nothing_is_blamed settings k t earlier later line i r after some legal calm =
    let turn = calm_turn settings k t earlier later (Plain line i r after) legal calm in
    item_blames settings (known_behind k earlier) line i r after some turn.1 turn.0

-- PUTS THAT ARE TAKEN

has_room : (capacity need : ℕ) → need ≤ capacity → nat_lt capacity need ≡ false
has_room capacity need h = grind (arith, nat_tests, h)

abbrev Fits : Settings → ℕ → ReplicaKnown → Type 0
Fits settings size replica = replica.end + needle_total size + 8 ≤ settings.capacity

none_lacks : (settings : Settings) (size n : ℕ) (replicas : List ReplicaKnown) → Each (Fits settings size) replicas
    → find (λ at. lacks_room settings size at.1) (enumerate_from n replicas) ≡ None
none_lacks settings size n [] h = refl
none_lacks settings size n (r ∷ replicas) h =
    cond-false (lacks_room settings size r) (Some (n, r)) (find (λ at. lacks_room settings size at.1) (enumerate_from (n + 1) replicas))
    (has_room settings.capacity (r.end + needle_total size + 8) h.0)
    ∙ none_lacks settings size (n + 1) replicas h.1

takes : (settings : Settings) (k : Known) (pair : Pair) (size v : ℕ) → MayTake settings k pair size v → refusal_of settings k size v ≡ None
takes settings k pair size v h =
    ap (λ (by : Option ℕ). refusal_by v by (room_refusal settings k v size)) h.«open»
    ∙ ap (option_map (λ at. NoRoom v (machine_of settings v at.0) (at.1).end (needle_total size))) (none_lacks settings size 0 (volume_at k v).replicas h.room)

-- a list in which each item has an answer
each_answers : (f : ℕ → Option Refused) (xs : List ℕ) (ys : List Refused) (v : ℕ) → map f xs ≡ map Some ys → Contains xs v → f v ≡ None → ⊥
each_answers f [] ys v e at none = omega (arith, at.1)
each_answers f (x ∷ xs) [] v e at none = absurd cc
each_answers f (x ∷ xs) (y ∷ ys) v e (zero, below, is) none =
    let head : f x ≡ Some y = cc in
    let there : Some y ≡ None = sym head ∙ ap f is ∙ none in absurd cc
each_answers f (x ∷ xs) (y ∷ ys) v e (suc i, below, is) none =
    let tail : map f xs ≡ map Some ys = cc in
    each_answers f xs ys v tail (i, omega (arith, below), is) none

put_taken : (settings : Settings) (k : Known) (tag : CoreTag) (pair : Pair) (bytes : List ℕ) (r : Reply) (t : Known) (v : ℕ) → NothingFailed k t
    → MayTake settings k pair (length bytes) v → DirectoryOpen k pair → LegalCommand settings k tag (command.Put pair bytes) r t → IsStoredOrNoMem r
put_taken settings k tag pair bytes (reply.Stored w p d c) t v calm takes_it dir h = tt
put_taken settings k tag pair bytes reply.NoMem t v calm takes_it dir h = tt
put_taken settings k tag pair bytes (reply.Full refused) t v calm takes_it dir h =
    each_answers (refusal_of settings k (length bytes)) (tries_of settings k pair) refused v h.0 takes_it.tried (takes settings k pair (length bytes) v takes_it)
put_taken settings k tag pair bytes (reply.ReadOnly by) t v calm takes_it dir h =
    each_answers (refusal_of settings k (length bytes)) (tries_of settings k pair) (map as_closed by) v h.0 takes_it.tried (takes settings k pair (length bytes) v takes_it)
put_taken settings k tag pair bytes reply.ReadOnlyDir t v calm takes_it dir h =
    let clash : true ≡ false = sym h.1 ∙ dir (h.0).missing in absurd cc
put_taken settings k tag pair bytes (reply.Failed w m f) t v calm takes_it dir h = never_failed settings k tag (command.Put pair bytes) w m f t calm h
put_taken settings k tag pair bytes (reply.FailedDir f) t v calm takes_it dir h = never_failed_dir settings k tag (command.Put pair bytes) f t calm h
put_taken settings k tag pair bytes _ t v calm takes_it dir h = absurd h

pub taken_put_is_stored : TakenPutIsStored
taken_put_is_stored settings k t earlier later line pair bytes r after v legal calm takes_it dir =
    let turn = calm_turn settings k t earlier later (Plain line (item.Command (command.Put pair bytes)) r after) legal calm in
    put_taken settings (known_behind k earlier) (record { lane = 0; line = line }) pair bytes r after v turn.1 takes_it dir turn.0

-- READS OF WHAT STANDS EVERYWHERE

-- what is the last change, or was there from the beginning, stands
photo_stands : (volume : VolumeKnown) (replica : ReplicaKnown) (pair : Pair) (cookie : Cookie) (bytes : List ℕ) → HasPhoto volume replica pair cookie bytes
    → outcome_at (now volume replica) pair ≡ outcome.Photo (record { cookie = cookie; bytes = bytes })
photo_stands volume replica pair cookie bytes (inl last) =
    at-now volume replica pair ∙ last_look volume.log pair (entry.Put pair cookie bytes) (outcome_at replica.base pair) last
photo_stands volume replica pair cookie bytes (inr began) =
    at-now volume replica pair ∙ spared_look volume.log pair (outcome_at replica.base pair) began.0 ∙ began.1

everywhere_stands : (settings : Settings) (k : Known) (pair : Pair) (cookie : Cookie) (bytes : List ℕ) → HasEverywhere settings k pair cookie bytes
    → Standing settings k pair (outcome.Photo (record { cookie = cookie; bytes = bytes }))
everywhere_stands settings k pair cookie bytes h = record {
  volume = h.volume;
  home = h.home;
  each = λ j below. photo_stands (volume_at k h.volume) (replica_at (volume_at k h.volume) j) pair cookie bytes (h.each j below);
}

show_everywhere : (settings : Settings) (k : Known) (tag : CoreTag) (start : ℕ) (pair : Pair) (cookie : Cookie) (bytes : List ℕ) (r : Reply) (t : Known) → 0 < settings.replicas
    → NothingFailed k t → Standing settings k pair (outcome.Photo (record { cookie = cookie; bytes = bytes })) → LegalShow settings k tag start pair cookie r t → IsShownOrNoMem bytes r
show_everywhere settings k tag start pair cookie bytes (reply.Photo v m p d bytes') t some calm stands h =
    ap bytes_in (shown_stands settings k tag start pair v m p d _ (outcome.Photo (record { cookie = cookie; bytes = bytes' })) t stands h)
show_everywhere settings k tag start pair cookie bytes (reply.Gone v m p d) t some calm stands h =
    let same = shown_stands settings k tag start pair v m p d _ outcome.Nothing t stands h in absurd cc
show_everywhere settings k tag start pair cookie bytes (reply.WrongCookie v m p d) t some calm stands h =
    let same = shown_stands settings k tag start pair v m p d _ (outcome.Photo (record { cookie = h.0; bytes = h.1 })) t stands h.3 in
    absurd (h.2 (ap (cookie_in cookie) same))
show_everywhere settings k tag start pair cookie bytes (reply.Unknown d) t some calm stands h =
    let none : None ≡ Some stands.volume = sym h.0.0 ∙ stands.home in absurd cc
show_everywhere settings k tag start pair cookie bytes (reply.Unreadable v p d causes) t some calm stands h =
    unreadable_blames settings k tag start pair v p d causes t some calm h
show_everywhere settings k tag start pair cookie bytes reply.NoMem t some calm stands h = tt
show_everywhere settings k tag start pair cookie bytes _ t some calm stands h = absurd h

pub standing_photo_is_shown : StandingPhotoIsShown
standing_photo_is_shown settings k t earlier later line pair cookie bytes r after some legal calm has =
    let turn = calm_turn settings k t earlier later (Plain line (item.Command (command.Read pair cookie)) r after) legal calm in
    let b : Known = known_behind k earlier in
    let tag : CoreTag = record { lane = 0; line = line } in
    show_everywhere settings b tag (start_of settings tag) pair cookie bytes r after some turn.1 (everywhere_stands settings b pair cookie bytes has)
    turn.0

get_everywhere : (settings : Settings) (k : Known) (tag : CoreTag) (url : UrlParts) (start : ℕ) (bytes : List ℕ) (r : Reply) (t : Known) → 0 < settings.replicas
    → NothingFailed k t → Standing settings k url.pair (outcome.Photo (record { cookie = url.cookie; bytes = bytes })) → home_of k url.pair ≡ Some url.volume
    → LegalGetAt settings k tag url (Some start) r t → IsShownOrNoMem bytes r
get_everywhere settings k tag url start bytes (reply.Moved v d) t some calm stands home h =
    let homes : Some v ≡ Some url.volume = sym h.0 ∙ home in
    let same : v ≡ url.volume = cc in absurd (h.1 same)
get_everywhere settings k tag url start bytes r t some calm stands home h = show_everywhere settings k tag start url.pair url.cookie bytes r t some calm stands h.0

pub standing_photo_is_got : StandingPhotoIsGot
standing_photo_is_got settings k t earlier later line url bytes r after replica some legal calm has home there =
    let turn = calm_turn settings k t earlier later (Plain line (item.Command (command.Get url)) r after) legal calm in
    let b : Known = known_behind k earlier in
    let tag : CoreTag = record { lane = 0; line = line } in
    get_everywhere settings b tag url replica bytes r after some turn.1 (everywhere_stands settings b url.pair url.cookie bytes has) home
    (subst (λ (o : Option ℕ). LegalGetAt settings b tag url o r after) there turn.0)
