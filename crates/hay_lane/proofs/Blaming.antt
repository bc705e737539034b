-- Of the causes that a lane tells, which are of its arm.
use Rattle.std.proofs.Common.{◌≡◌, ◌≤◌, inl, inr, ℕ, Bool, true, List, [], ◌∷◌, ◌++◌, length, map, take, drop, Option, Some, None, refl, sym, ap, subst, ◌∙◌, arith}
use Rattle.std.specs.Prelude.{Ok}
use Rattle.std.specs.List.{AllByRecursion as Each}
use Rattle.std.proofs.lemmas.List.{take-append-drop}
use Rattle.hay_base.specs.declared.memory.NoMemory.{NoMemory}
use Rattle.hay_needle.specs.declared.needle.Cookie.{Cookie}
use Rattle.hay_needle.specs.declared.needle.Pair.{Pair}
use Rattle.hay_needle.specs.declared.settings.Settings.{Settings}
use Rattle.hay_map.specs.declared.place.Place.{Place}
use Rattle.hay_script.specs.declared.Command.{Command}
use Rattle.hay_script.specs.declared.Command.TheVariants as asks
use Rattle.hay_reply.specs.declared.Cause.{Cause}
use Rattle.hay_reply.specs.declared.Cause.TheVariants.{Arm, Damage, Disk}
use Rattle.hay_reply.specs.declared.Reply.{Reply}
use Rattle.hay_reply.specs.declared.Reply.TheVariants as reply
use Rattle.hay_legal.specs.Known.{EachPair}
use Rattle.hay_legal.specs.Known as known
use Rattle.hay_legal.specs.Plain as plain
use Rattle.hay_legal.specs.Suiting.{AtReplica, IsReadOnlyAt, Suits, SuitsBegin, SuitsCompact, SuitsDel, SuitsFlush, SuitsFuse, SuitsMachine, SuitsPut, SuitsRun, SuitsUrl, start_at}
use Rattle.hay_reader.specs.Causes.{ArmRises, HasArmCause, IsDamage, Passes, passed_now}
use Rattle.hay_reader.specs.Causes as reader
use Rattle.hay_reader.specs.Shown.{NoArm, ReadsRow, ShowsRead, reply_at}
use Rattle.hay_reader.specs.declared.causes.PassedReplica.{PassedReplica}
use Rattle.hay_reader.specs.declared.seat.ReadReply.{ReadReply}
use Rattle.hay_reader.specs.declared.seat.ReadReply.TheVariants as read
use Rattle.hay_reader.specs.declared.trial.Shown.{Shown}
use Rattle.hay_reader.specs.declared.trial.Shown.TheVariants as shown
use Rattle.hay_shared_volume.specs.declared.answers.SightFault.{SightFault}
use Rattle.hay_shared_volume.specs.declared.answers.SightFault.TheVariants as fault
use Rattle.hay_lane.specs.Blames.{Blames, BlamesArm, BlamesOn, MayBlame, causes_told}
use Rattle.hay_lane.specs.Lanes.{IsLaterArm}
use Rattle.hay_lane.specs.Reads.{IsFoundAs, IsFoundReply, IsSightCause, causes_found, causes_in, causes_read, passed_at}
use Rattle.hay_lane.specs.declared.reads.Found.{Found}
use Rattle.hay_lane.specs.declared.reads.Found.TheVariants as found

-- LISTS

each_append : {X : Type 0} (P : X → Type 0) (xs ys : List X) → Each P xs → Each P ys → Each P (xs ++ ys)
each_append P [] ys first rest = rest
each_append P (x ∷ xs) ys first rest = (first.0, each_append P xs ys first.1 rest)

each_on : {X : Type 0} (P Q : X → Type 0) → ((x : X) → P x → Q x) → (xs : List X) → Each P xs → Each Q xs
each_on P Q on [] each = tt
each_on P Q on (x ∷ xs) each = (on x each.0, each_on P Q on xs each.1)

map_append : {X Y : Type 0} (f : X → Y) (xs ys : List X) → map f (xs ++ ys) ≡ map f xs ++ map f ys
map_append f [] ys = refl
map_append f (x ∷ xs) ys = ap (λ l. f x ∷ l) (map_append f xs ys)

-- CAUSES OF AN ARM

-- its count stood lower before
from_earlier : (S T : Type 0) (first before after : ℕ) → (S → T) → first ≤ before → (cause : Cause) → MayBlame T before after cause → MayBlame S first after cause
from_earlier S T first before after on low (Arm f) (none, (rose, most)) =
    ((λ sure. none (on sure)), (elim rose [ inl less ↦ inl (omega (arith, low, less)) | inr greatest ↦ inr greatest ], most))
from_earlier S T first before after on low (Disk f) may = tt
from_earlier S T first before after on low (Damage at) may = tt

-- and higher behind
to_later : (S : Type 0) (before after last : ℕ) → after ≤ last → (cause : Cause) → MayBlame S before after cause → MayBlame S before last cause
to_later S before after last up (Arm f) (none, (rose, most)) = (none, (rose, omega (arith, up, most)))
to_later S before after last up (Disk f) may = tt
to_later S before after last up (Damage at) may = tt

-- of a cause and one behind it the later one is greater
rises_on : (S T : Type 0) (before between after : ℕ) (a b : Cause) → MayBlame S before between a → MayBlame T between after b → plain.ArmRises a b
rises_on S T before between after (Arm f) (Arm g) (none, (rose, low)) (none', (rose', most)) =
    elim rose' [ inl less ↦ inl (omega (arith, low, less)) | inr greatest ↦ inr greatest ]
rises_on S T before between after (Arm f) (Disk g) x y = tt
rises_on S T before between after (Arm f) (Damage at) x y = tt
rises_on S T before between after (Disk f) b x y = tt
rises_on S T before between after (Damage at) b x y = tt

pairs_on : (S T : Type 0) (before between after : ℕ) (xs ys : List Cause) → Each (MayBlame S before between) xs → Each (MayBlame T between after) ys → EachPair plain.ArmRises xs
    → EachPair plain.ArmRises ys → EachPair plain.ArmRises (xs ++ ys)
pairs_on S T before between after [] ys first rest own more = more
pairs_on S T before between after (x ∷ xs) ys first rest own more = (
  each_append (plain.ArmRises x) xs ys own.0 (each_on (MayBlame T between after) (plain.ArmRises x) (λ y may. rises_on S T before between after x y first.0 may) ys rest),
  pairs_on S T before between after xs ys first.1 rest own.1 more,
)

-- one use of an arm behind another
blames_on : (S T : Type 0) (before between after : ℕ) (xs ys : List Cause) → (S → T) → before ≤ between → between ≤ after → BlamesArm S before between xs → BlamesArm T between after ys
    → BlamesArm S before after (xs ++ ys)
blames_on S T before between after xs ys on low up x y = record {
  each = each_append (MayBlame S before after) xs ys (each_on (MayBlame S before between) (MayBlame S before after) (to_later S before between after up) xs x.each)
      (each_on (MayBlame T between after) (MayBlame S before after) (from_earlier S T before between after on low) ys y.each);
  rises = pairs_on S T before between after xs ys x.each y.each x.rises y.rises;
}

-- what is known where the arm is sure
pub blames_where : (S T : Type 0) (before after : ℕ) (causes : List Cause) → (S → T) → BlamesArm T before after causes → BlamesArm S before after causes
blames_where S T before after causes on blames = record {
  each = each_on (MayBlame T before after) (MayBlame S before after) (from_earlier S T before before after on (omega arith)) causes blames.each;
  rises = blames.rises;
}

-- READS

own_cause : (S : Type 0) (before after : ℕ) (cause : Cause) → HasArmCause before after cause → (S → IsDamage cause) → MayBlame S before after cause
own_cause S before after (Arm f) has none = (none, has.0)
own_cause S before after (Disk f) has none = tt
own_cause S before after (Damage at) has none = tt

own_rises : (a b : Cause) → ArmRises a b → plain.ArmRises a b
own_rises (Arm f) (Arm g) rises = rises
own_rises (Arm f) (Disk g) rises = tt
own_rises (Arm f) (Damage at) rises = tt
own_rises (Disk f) b rises = tt
own_rises (Damage at) b rises = tt

own_each : (S : Type 0) (before after : ℕ) (causes : List PassedReplica) → Each (λ over. HasArmCause before after over.cause) causes → (S → Each (λ over. IsDamage over.cause) causes)
    → Each (MayBlame S before after) (causes_in causes)
own_each S before after [] each none = tt
own_each S before after (over ∷ causes) each none =
    (own_cause S before after over.cause each.0 (λ sure. (none sure).0), own_each S before after causes each.1 (λ sure. (none sure).1))

own_later : (a : Cause) (causes : List PassedReplica) → Each (λ over. ArmRises a over.cause) causes → Each (plain.ArmRises a) (causes_in causes)
own_later a [] each = tt
own_later a (over ∷ causes) each = (own_rises a over.cause each.0, own_later a causes each.1)

own_pairs : (causes : List PassedReplica) → reader.EachPair (λ a b. ArmRises a.cause b.cause) causes → EachPair plain.ArmRises (causes_in causes)
own_pairs [] pairs = tt
own_pairs (over ∷ causes) pairs = (own_later over.cause causes pairs.0, own_pairs causes pairs.1)

module _ {A : Type 0} (is_sure : A → Bool) (faults : A → ℕ) where
  -- no cause, no blame
  pub blames_none : (old new : A) (causes : List Cause) → causes ≡ [] → Blames is_sure faults old new causes
  blames_none old new causes none = subst (Blames is_sure faults old new) (sym none) (record { each = tt; rises = tt })

  -- an arm that goes on
  pub blames_more : (first old new : A) (xs ys : List Cause) → IsLaterArm is_sure faults first old → IsLaterArm is_sure faults old new → Blames is_sure faults first old xs
      → Blames is_sure faults old new ys
      → Blames is_sure faults first new (xs ++ ys)
  blames_more first old new xs ys was later x y =
      blames_on (is_sure first ≡ true) (is_sure old ≡ true) (faults first) (faults old) (faults new) xs ys (λ sure. (was.sure sure).0) was.rises later.rises x y

  -- those of a call behind the ones that were passed over before it
  with_passed : (old new : A) (start replicas : ℕ) (passed causes : List PassedReplica) → IsLaterArm is_sure faults old new → Passes start replicas (faults old) (faults new) passed causes
      → (is_sure old ≡ true → Each (λ over. IsDamage over.cause) (passed_now passed causes)) → BlamesOn is_sure faults old new (causes_in passed) (causes_in causes)
  with_passed old new start replicas passed causes later passes none first was blames =
      let now = passed_now passed causes in
      let split : passed ++ now ≡ causes = ap (λ z. z ++ now) (sym passes.begins) ∙ take-append-drop (length passed) causes in
      let own : Blames is_sure faults old new (causes_in now) = record {
        each = own_each (is_sure old ≡ true) (faults old) (faults new) now passes.each none;
        rises = own_pairs now passes.rises;
      } in
      subst (λ z. Blames is_sure faults first new (causes_in z)) split
      (subst (Blames is_sure faults first new) (sym (map_append (λ (over : PassedReplica). over.cause) passed now))
      (blames_more first old new (causes_in passed) (causes_in now) was later blames own))

  pub reads_blame : {P : Type 0} (Tells : Type 0) (old new : A) (start : ℕ) (row : List (Place P)) (cookie : Cookie) (passed : List PassedReplica) (put : List ℕ) (what : ReadReply)
      → IsLaterArm is_sure faults old new → ReadsRow Tells (record { sure = is_sure old; before = faults old; after = faults new }) start row cookie passed put what
      → (is_sure old ≡ true → NoArm passed what) → BlamesOn is_sure faults old new (causes_in passed) (causes_read what)
  reads_blame Tells old new start row cookie passed put (read.Photo j) later reads none first was blames = blames_none first new [] refl
  reads_blame Tells old new start row cookie passed put (read.Gone j) later reads none first was blames = blames_none first new [] refl
  reads_blame Tells old new start row cookie passed put (read.WrongCookie j) later reads none first was blames = blames_none first new [] refl
  reads_blame Tells old new start row cookie passed put (read.Unseen j causes) later reads none first was blames =
      with_passed old new start (length row) passed causes later ((reads.before).passes) none first was blames
  reads_blame Tells old new start row cookie passed put (read.Unreadable causes) later reads none first was blames =
      with_passed old new start (length row) passed causes later ((reads.0).passes) none first was blames

  -- a read's first fetches
  pub first_blames : {P : Type 0} (Tells : Type 0) (old new : A) (start : ℕ) (row : List (Place P)) (cookie : Cookie) (put : List ℕ) (what : ReadReply)
      → IsLaterArm is_sure faults old new → ReadsRow Tells (record { sure = is_sure old; before = faults old; after = faults new }) start row cookie [] put what
      → (is_sure old ≡ true → NoArm [] what) → Blames is_sure faults old new (causes_read what)
  first_blames Tells old new start row cookie put what later reads none =
      reads_blame Tells old new start row cookie [] put what later reads none old (record { rises = omega arith; sure = λ sure. (sure, refl) }) (blames_none old old [] refl)

  shown_blames : (old : A) (j : ℕ) (passed : List PassedReplica) (what : Shown) → BlamesOn is_sure faults old old (causes_in passed) (causes_read (reply_at j passed what))
  shown_blames old j passed shown.Photo first was blames = blames_none first old [] refl
  shown_blames old j passed shown.Gone first was blames = blames_none first old [] refl
  shown_blames old j passed shown.WrongCookie first was blames = blames_none first old [] refl
  shown_blames old j passed shown.Unseen first was blames = blames

  -- a place that was seen is shown without the arm
  pub seen_blames : {P : Type 0} (old : A) (cookie : Cookie) (put bytes : List ℕ) (passed : List PassedReplica) (j : ℕ) (at : Place P) (what : ReadReply) → ShowsRead cookie put bytes passed j at what
      → BlamesOn is_sure faults old old (causes_in passed) (causes_read what)
  seen_blames old cookie put bytes passed j at what shows =
      subst (λ z. BlamesOn is_sure faults old old (causes_in passed) (causes_read z)) (sym shows.2) (shown_blames old j passed shows.0)

  sight_cause : (old : A) (why : SightFault) (cause : Cause) → IsSightCause {E = NoMemory} why (Ok cause) → Blames is_sure faults old old (cause ∷ [])
  sight_cause old (fault.Failed f) cause is =
      let same : cause ≡ Disk f = cc in
      subst (λ z. Blames is_sure faults old old (z ∷ [])) (sym same) (record { each = (tt, tt); rises = (tt, tt) })
  sight_cause old (fault.Damaged at) cause is =
      let same : cause ≡ Damage at = cc in
      subst (λ z. Blames is_sure faults old old (z ∷ [])) (sym same) (record { each = (tt, tt); rises = (tt, tt) })
  sight_cause old fault.NoMemory cause is = absurd cc

  -- a replica whose place was not seen is passed over for its disk, and then the read goes on
  pub passed_blames : {P : Type 0} (Tells : Type 0) (old new : A) (start : ℕ) (row : List (Place P)) (cookie : Cookie) (causes pushed : List PassedReplica) (put : List ℕ) (what : ReadReply)
      (replica : ℕ) (why : SightFault) (cause : Cause) → IsSightCause {E = NoMemory} why (Ok cause) → pushed ≡ causes ++ record { replica = replica; cause = cause } ∷ []
      → IsLaterArm is_sure faults old new → ReadsRow Tells (record { sure = is_sure old; before = faults old; after = faults new }) start row cookie pushed put what
      → (is_sure old ≡ true → NoArm pushed what) → BlamesOn is_sure faults old new (causes_in causes) (causes_read what)
  passed_blames Tells old new start row cookie causes pushed put what replica why cause is pushed_is later reads none first was blames =
      let same : IsLaterArm is_sure faults old old = record { rises = omega arith; sure = λ sure. (sure, refl) } in
      let one : List PassedReplica = record { replica = replica; cause = cause } ∷ [] in
      let more : causes_in pushed ≡ causes_in causes ++ cause ∷ [] = ap causes_in pushed_is ∙ map_append (λ (over : PassedReplica). over.cause) causes one in
      reads_blame Tells old new start row cookie pushed put what later reads none first was
      (subst (Blames is_sure faults first old) (sym more) (blames_more first old old (causes_in causes) (cause ∷ []) was same blames (sight_cause old why cause is)))

  -- WHAT WAS FOUND, AND ITS REPLY

  pub found_blames : (old new : A) (what : ReadReply) (it : Found) → IsFoundAs what it → Blames is_sure faults old new (causes_read what) → Blames is_sure faults old new (causes_found it)
  found_blames old new (read.Photo j) it is blames = subst (λ z. Blames is_sure faults old new (causes_found z)) (sym is) (blames_none old new [] refl)
  found_blames old new (read.Gone j) it is blames = subst (λ z. Blames is_sure faults old new (causes_found z)) (sym is) (blames_none old new [] refl)
  found_blames old new (read.WrongCookie j) it is blames = subst (λ z. Blames is_sure faults old new (causes_found z)) (sym is) (blames_none old new [] refl)
  found_blames old new (read.Unreadable causes) it is blames = subst (λ z. Blames is_sure faults old new (causes_found z)) (sym is) blames
  found_blames old new (read.Unseen j causes) it is blames = absurd is

  passed_told : (settings : Settings) (v : ℕ) (causes : List PassedReplica) → map (λ passed. passed.cause) (map (passed_at settings v) causes) ≡ causes_in causes
  passed_told settings v [] = refl
  passed_told settings v (over ∷ causes) = ap (λ l. over.cause ∷ l) (passed_told settings v causes)

  pub reply_blames : (old new : A) (settings : Settings) (v p d : ℕ) (put : List ℕ) (what : Found) (said : Reply) → IsFoundReply settings v p d put what said
      → Blames is_sure faults old new (causes_found what) → Blames is_sure faults old new (causes_told said)
  reply_blames old new settings v p d put (found.Photo j) said is blames = blames_none old new (causes_told said) (ap causes_told is)
  reply_blames old new settings v p d put (found.Gone j) said is blames = blames_none old new (causes_told said) (ap causes_told is)
  reply_blames old new settings v p d put (found.WrongCookie j) said is blames = blames_none old new (causes_told said) (ap causes_told is)
  reply_blames old new settings v p d put (found.Unreadable causes) said (inl is) blames =
      subst (Blames is_sure faults old new) (sym (ap causes_told is ∙ passed_told settings v causes)) blames
  reply_blames old new settings v p d put (found.Unreadable causes) said (inr is) blames = blames_none old new (causes_told said) (ap causes_told is)

-- WHAT THE OTHER COMMANDS ARE ANSWERED

abbrev ReadsNone : Command → Type 0
ReadsNone (asks.Put pair photo) = Unit {0}
ReadsNone (asks.Read pair cookie) = ⊥
ReadsNone (asks.Get url) = ⊥
ReadsNone (asks.Del pair) = Unit {0}
ReadsNone (asks.Url pair) = Unit {0}
ReadsNone (asks.Flush v m) = Unit {0}
ReadsNone (asks.Compact v m) = Unit {0}
ReadsNone (asks.Begin v m) = Unit {0}
ReadsNone (asks.Step v m cells) = Unit {0}
ReadsNone (asks.Finish v m) = Unit {0}
ReadsNone (asks.Drain m) = Unit {0}
ReadsNone (asks.Undrain m) = Unit {0}
ReadsNone (asks.Fuse v m calls) = Unit {0}
ReadsNone (asks.FuseDir calls) = Unit {0}
ReadsNone (asks.Restart pick) = Unit {0}

is_none : (said done : Reply) → said ≡ done → causes_told done ≡ [] → causes_told said ≡ []
is_none said done is none = ap causes_told is ∙ none

at_none : (at : Option ℕ) (suits : ℕ → Reply → Type 0) (said : Reply) → ((replica : ℕ) → suits replica said → causes_told said ≡ []) → AtReplica at suits said → causes_told said ≡ []
at_none (Some replica) suits said none (inl has) = none replica has
at_none (Some replica) suits said none (inr is) = is_none said reply.NoMem is refl
at_none None suits said none (inl is) = is_none said reply.Nowhere is refl
at_none None suits said none (inr is) = is_none said reply.NoMem is refl

module _ (settings : Settings) (said : Reply) where
  closed_none : (v : ℕ) → IsReadOnlyAt settings v said → causes_told said ≡ []
  closed_none v (by, on, is) = is_none said (reply.ReadOnly (record { volume = v; machine = by } ∷ [])) is refl

  put_none : (pair : Pair) (size : ℕ) → SuitsPut settings pair size said → causes_told said ≡ []
  put_none pair size (inl (v, p, d, below, is)) = ap causes_told is
  put_none pair size (inr (inl (refused, by, wants, is))) = ap causes_told is
  put_none pair size (inr (inr (inl (closed, by, is)))) = ap causes_told is
  put_none pair size (inr (inr (inr (inl is)))) = ap causes_told is
  put_none pair size (inr (inr (inr (inr (inl (v, m, count, on, is)))))) = ap causes_told is
  put_none pair size (inr (inr (inr (inr (inr (inl (count, is))))))) = ap causes_told is
  put_none pair size (inr (inr (inr (inr (inr (inr is)))))) = ap causes_told is

  del_none : SuitsDel settings said → causes_told said ≡ []
  del_none (inl (v, p, d, below, is)) = ap causes_told is
  del_none (inr (inl (v, p, d, below, is))) = ap causes_told is
  del_none (inr (inr (inl (d, is)))) = ap causes_told is
  del_none (inr (inr (inr (inl (by, on, is))))) = ap causes_told is
  del_none (inr (inr (inr (inr (inl (v, m, count, on, is)))))) = ap causes_told is
  del_none (inr (inr (inr (inr (inr (inl (v, m, at, on, is))))))) = ap causes_told is
  del_none (inr (inr (inr (inr (inr (inr is)))))) = ap causes_told is

  url_none : (start : ℕ) (pair : Pair) → SuitsUrl settings start pair said → causes_told said ≡ []
  url_none start pair (inl (v, d, below, is)) = ap causes_told is
  url_none start pair (inr (inl (d, is))) = ap causes_told is
  url_none start pair (inr (inr is)) = ap causes_told is

  flush_none : (v m : ℕ) → SuitsFlush settings v m said → causes_told said ≡ []
  flush_none v m (inl (n, is)) = ap causes_told is
  flush_none v m (inr (inl is)) = closed_none v is
  flush_none v m (inr (inr (n, is))) = ap causes_told is

  begin_none : (v m : ℕ) → SuitsBegin settings v m said → causes_told said ≡ []
  begin_none v m (inl (n, is)) = ap causes_told is
  begin_none v m (inr (inl is)) = closed_none v is
  begin_none v m (inr (inr (inl (n, is)))) = ap causes_told is
  begin_none v m (inr (inr (inr (inl is)))) = ap causes_told is
  begin_none v m (inr (inr (inr (inr (n, is))))) = ap causes_told is

  run_none : (did : ℕ → Reply) (v m : ℕ) → ((n : ℕ) → causes_told (did n) ≡ []) → SuitsRun settings did v m said → causes_told said ≡ []
  run_none did v m none (inl (n, is)) = is_none said (did n) is (none n)
  run_none did v m none (inr (inl is)) = closed_none v is
  run_none did v m none (inr (inr (inl is))) = ap causes_told is
  run_none did v m none (inr (inr (inr (inl (n, is))))) = ap causes_told is
  run_none did v m none (inr (inr (inr (inr (n, is))))) = ap causes_told is

  compact_none : (v m : ℕ) → SuitsCompact settings v m said → causes_told said ≡ []
  compact_none v m (inl (n, is)) = ap causes_told is
  compact_none v m (inr (inl is)) = closed_none v is
  compact_none v m (inr (inr (inl (n, is)))) = ap causes_told is
  compact_none v m (inr (inr (inr (inl is)))) = ap causes_told is
  compact_none v m (inr (inr (inr (inr (inl (n, is)))))) = ap causes_told is
  compact_none v m (inr (inr (inr (inr (inr (n, is)))))) = ap causes_told is

  machine_none : (m : ℕ) (done : Reply) → causes_told done ≡ [] → SuitsMachine settings m done said → causes_told said ≡ []
  machine_none m done none (inl (below, is)) = is_none said done is none
  machine_none m done none (inr (high, is)) = ap causes_told is

  fuse_none : (at : Option ℕ) (done : Reply) → causes_told done ≡ [] → SuitsFuse at done said → causes_told said ≡ []
  fuse_none (Some replica) done none is = is_none said done is none
  fuse_none None done none is = ap causes_told is

  -- no command but a read and a get is told why replicas were passed over
  pub spared : (line : ℕ) (command : Command) → ReadsNone command → Suits settings line command said → causes_told said ≡ []
  spared line (asks.Put pair photo) other suits = put_none pair (length photo) suits
  spared line (asks.Read pair cookie) other suits = absurd other
  spared line (asks.Get url) other suits = absurd other
  spared line (asks.Del pair) other suits = del_none suits
  spared line (asks.Url pair) other suits = url_none (start_at settings line) pair suits
  spared line (asks.Flush v m) other suits = at_none (known.replica_on settings v m) (λ replica. SuitsFlush settings v m) said (λ replica. flush_none v m) suits
  spared line (asks.Compact v m) other suits = at_none (known.replica_on settings v m) (λ replica. SuitsCompact settings v m) said (λ replica. compact_none v m) suits
  spared line (asks.Begin v m) other suits = at_none (known.replica_on settings v m) (λ replica. SuitsBegin settings v m) said (λ replica. begin_none v m) suits
  spared line (asks.Step v m cells) other suits =
      at_none (known.replica_on settings v m) (λ replica. SuitsRun settings (reply.Stepped v m) v m) said (λ replica. run_none (reply.Stepped v m) v m (λ n. refl)) suits
  spared line (asks.Finish v m) other suits =
      at_none (known.replica_on settings v m) (λ replica. SuitsRun settings (reply.Compacted v m) v m) said (λ replica. run_none (reply.Compacted v m) v m (λ n. refl)) suits
  spared line (asks.Drain m) other suits = machine_none m (reply.Drained m) refl suits
  spared line (asks.Undrain m) other suits = machine_none m (reply.Undrained m) refl suits
  spared line (asks.Fuse v m calls) other suits = fuse_none (known.replica_on settings v m) (reply.Fused v m calls) refl suits
  spared line (asks.FuseDir calls) other suits = ap causes_told suits
  spared line (asks.Restart pick) other suits = absurd suits
