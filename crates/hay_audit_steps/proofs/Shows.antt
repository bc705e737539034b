-- The rows of readers.
use Rattle.std.proofs.Common.{◌≡◌, ◌≢◌, ℕ, ◌-◌, ◌^◌, ◌<◌, ◌≤◌, Bool, true, false, List, [], ◌∷◌, length, Option, Some, None, refl, sym, ap, subst, ◌∙◌, inl, inr, arith}
use Rattle.std.specs.Prelude.{cond, not, ◌&&◌, ◌||◌, ◌==◌, max, map, is_none, nat_lt, slice_set, slice_index, count_by, take_while}
use Rattle.std.specs.Bool.{Decides}
use Rattle.std.specs.List.{AllZip, AllByRecursion as Each}
use Rattle.std.specs.Str.{bytes_eq}
use Rattle.std.proofs.lemmas.Bool.{eqb-true, eq-eqb, and_parts, and_from}
use Rattle.std.proofs.lemmas.Bool.Decides.{Decides-eqb, Decides-and, Decides-or, Decides-not, Decides-ltb}
use Rattle.std.proofs.lemmas.Slice.Eq.{bytes_eq-Decides}
use Rattle.std.proofs.lemmas.List.Sums.{sum_by-cons}
use Rattle.hay_needle.specs.declared.needle.Pair.{Pair}
use Rattle.hay_needle.specs.declared.needle.Cookie.{Cookie}
use Rattle.hay_needle.specs.declared.needle.Photo.{Photo}
use Rattle.hay_needle.specs.declared.needle.Outcome.{Outcome}
use Rattle.hay_needle.specs.declared.needle.Outcome.TheVariants as outcome
use Rattle.hay_needle.specs.declared.settings.Settings.{Settings}
use Rattle.hay_needle.specs.Tables.{outcome_at}
use Rattle.hay_core.specs.declared.entry.CoreTag.{CoreTag}
use Rattle.hay_reply.specs.declared.Cause.{Cause}
use Rattle.hay_reply.specs.declared.Cause.TheVariants as cause
use Rattle.hay_reply.specs.declared.Passed.{Passed}
use Rattle.hay_reply.specs.declared.Reply.{Reply}
use Rattle.hay_reply.specs.declared.Reply.TheVariants as reply
use Rattle.hay_legal.specs.declared.known.Known.{Known}
use Rattle.hay_legal.specs.Known.{NoneFalls, home_of, volume_at, replica_at, now, slot_of, machine_of, replica_on, has_risen, fault_count, arm_count, CameUp, EachPair}
use Rattle.hay_legal.specs.Plain.{LegalShow, IsShown, HasCause, ArmRises, PassedReplicas, order_from, disk_rose}
use Rattle.hay_audit_steps.specs.CheckerSteps.{Below, IsStep, with_counts}
use Rattle.hay_audit_steps.specs.Laid.{laid}
use Rattle.hay_audit_steps.specs.Next.{is_at, is_seen, cookie_eq, shows_photo, shows_nothing, shows_other, slots_before, shown_by, next_show, caused, may_cause, may_pass}
use Rattle.hay_audit_steps.specs.Next.{all_caused, arm_rises, rises_on, arms_rise}
use Rattle.hay_audit_steps.proofs.Counts.{falls_refl, falls_trans, falls_set, falls_at, falls_length, falls_raised, index_set, index_there}
use Rattle.hay_audit_steps.proofs.Laying.{unrisen, Laid, Good, laid_sound, laid_complete}
use Rattle.hay_audit_steps.proofs.Rows.{IsRow, comes, kept, tested, never, calm, each_by, any_by}
use Rattle.hay_audit_steps.proofs.Tests.{tells_at, tells_cookie, tells_none, tells_flag, tells_rise}

abbrev pub show_row : Settings → CoreTag → ℕ → Pair → Cookie → Reply → Known → Known → Type 0
show_row settings tag start pair cookie r k t = LegalShow settings k tag start pair cookie r t

-- WHAT IS SEEN

abbrev Seen : Known → Pair → ℕ → ℕ → ℕ → Type 0
Seen b pair v p d = (home_of b pair ≡ Some v) × ((p ≡ length (volume_at b v).log) × (d ≡ length b.directory.rows))

tells_seen : (b : Known) (pair : Pair) (v p d : ℕ) → Decides (is_seen b pair v p d) (Seen b pair v p d)
tells_seen b pair v p d =
    Decides-and (is_at (home_of b pair) v) _ (tells_at (home_of b pair) v)
    (Decides-and (p == length (volume_at b v).log) (d == length b.directory.rows) (Decides-eqb p (length (volume_at b v).log)) (Decides-eqb d (length b.directory.rows)))

unrisen_of : (settings : Settings) (k t : Known) (v : ℕ) (js : List ℕ)
    → count_by (λ i. not (disk_rose settings k t v i)) js ≡ unrisen k t (map (slot_of settings v) js)
unrisen_of settings k t v [] = refl
unrisen_of settings k t v (j ∷ js) =
    let head = sum_by-cons (λ i. cond (not (disk_rose settings k t v i)) 1 0) j js in
    let tail = sum_by-cons (λ s. cond (not (has_rose k t s)) 1 0) (slot_of settings v j) (map (slot_of settings v) js) in
    let rest = unrisen_of settings k t v js in
    omega (arith, head, tail, rest)
  where
    has_rose : Known → Known → ℕ → Bool
    has_rose k t s = nat_lt (fault_count k s) (fault_count t s) || fault_count t s == 2 ^ 64 - 1

-- a replica that showed what stands, behind those that were passed over
shown_step : (settings : Settings) (b : Known) (tag : CoreTag) (start : ℕ) (pair : Pair) (v m p d j : ℕ) (shown : Outcome)
    → replica_on settings v m ≡ Some j → Seen b pair v p d → outcome_at (now (volume_at b v) (replica_at (volume_at b v) j)) pair ≡ shown
    → IsStep (λ k t. IsShown settings k tag start pair v m p d shown t) b (laid b tag.lane (slots_before settings v start j))
shown_step settings b tag start pair v m p d j shown on seen is = record {
  sound = each_by (Laid b tag.lane (slots_before settings v start j)) (λ t. IsShown settings b tag start pair v m p d shown t) _
      (λ x laid. record {
        seen = record { home = seen.0; front = seen.1.0; rows = seen.1.1 };
        replica = j;
        there = on;
        stands = is;
        passed = elim laid.passed [
          | inl sum ↦ inl (omega (arith, sum, unrisen_of settings b x v (take_while (λ i. not (i == j)) (order_from settings start))))
          | inr top ↦ inr top
        ];
        leaves = record { volumes = laid.volumes; directory = laid.directory; drained = laid.drained; fuses = laid.fuses; faults = laid.faults; arms = laid.arms };
      })
      (laid_sound b tag.lane (slots_before settings v start j));
  complete = λ faults arms fuses t f a r.
      let same : r.replica ≡ j = same_some r.replica j (sym r.there ∙ on) in
      let passed : PassedReplicas settings (with_counts b faults arms fuses) t tag v start j =
      subst (λ (i : ℕ). PassedReplicas settings (with_counts b faults arms fuses) t tag v start i) same r.passed in
      any_by (Good (with_counts b faults arms fuses) t tag.lane (slots_before settings v start j)) (λ c. Below c t) _ (λ c good. good.below)
      (laid_complete b (with_counts b faults arms fuses) t tag.lane (slots_before settings v start j) f a (r.leaves).faults
      (comes b (with_counts b faults arms fuses) (with_counts b faults arms fuses) t refl refl refl f a r.leaves)
      (elim passed [
        | inl sum ↦ inl (omega (arith, sum, unrisen_of settings (with_counts b faults arms fuses) t v (take_while (λ i. not (i == j)) (order_from settings start))))
        | inr top ↦ inr top
      ]));
}
  where
    same_some : (x y : ℕ) → Some x ≡ Some y → x ≡ y
    same_some x y e = cc

-- the same for replies that tell a part of what stands
shown_steps : (settings : Settings) (b : Known) (tag : CoreTag) (start : ℕ) (pair : Pair) (v m p d : ℕ) (shows : Outcome → Bool) (row : Known → Known → Type 0) (Told : Outcome → Type 0)
    → ((o : Outcome) → Decides (shows o) (Told o))
    → ((k t : Known) → row k t → (o : Outcome) × Told o × IsShown settings k tag start pair v m p d o t)
    → ((k t : Known) (o : Outcome) → Told o → IsShown settings k tag start pair v m p d o t → row k t)
    → (on : Option ℕ) → replica_on settings v m ≡ on
    → IsStep row b (shown_by settings b tag start pair v p d shows on)
shown_steps settings b tag start pair v m p d shows row Told tells out into None e =
    never row b (λ faults arms fuses t f a r. let h = out (with_counts b faults arms fuses) t r in let none : None ≡ Some h.2.replica = sym e ∙ h.2.there in absurd cc)
shown_steps settings b tag start pair v m p d shows row Told tells out into (Some j) e =
    let o : Outcome = outcome_at (now (volume_at b v) (replica_at (volume_at b v) j)) pair in
    tested row b (laid b tag.lane (slots_before settings v start j)) (Seen b pair v p d × Told o) (is_seen b pair v p d && shows o)
    (Decides-and (is_seen b pair v p d) (shows o) (tells_seen b pair v p d) (tells o))
    (λ needs.
    let step = shown_step settings b tag start pair v m p d j o e needs.0 refl in
    record {
      sound = each_by (λ t. IsShown settings b tag start pair v m p d o t) (λ t. row b t) _ (λ t h. into b t o needs.1 h) step.sound;
      complete = λ faults arms fuses t f a r.
          let h = out (with_counts b faults arms fuses) t r in
          let same : h.2.replica ≡ j = same_some h.2.replica j (sym h.2.there ∙ e) in
          let is : o ≡ h.0 = subst (λ (i : ℕ). outcome_at (now (volume_at b v) (replica_at (volume_at b v) i)) pair ≡ h.0) same h.2.stands in
          step.complete faults arms fuses t f a (subst (λ (u : Outcome). IsShown settings (with_counts b faults arms fuses) tag start pair v m p d u t) (sym is) h.2);
    })
    (λ faults arms fuses t f a r.
    let h = out (with_counts b faults arms fuses) t r in
    let same : h.2.replica ≡ j = same_some h.2.replica j (sym h.2.there ∙ e) in
    let is : o ≡ h.0 = subst (λ (i : ℕ). outcome_at (now (volume_at b v) (replica_at (volume_at b v) i)) pair ≡ h.0) same h.2.stands in
    (((h.2.seen).home, ((h.2.seen).front, (h.2.seen).rows)), subst Told (sym is) h.1))
  where
    same_some : (x y : ℕ) → Some x ≡ Some y → x ≡ y
    same_some x y e = cc

photo_is : (photo : Photo) (cookie : Cookie) (bytes : List ℕ) → photo.cookie ≡ cookie → photo.bytes ≡ bytes → outcome.Photo photo ≡ outcome.Photo (record { cookie = cookie; bytes = bytes })
photo_is photo cookie bytes e g =
    ap (λ (c : Cookie). outcome.Photo (record { cookie = c; bytes = photo.bytes })) e ∙ ap (λ (bs : List ℕ). outcome.Photo (record { cookie = cookie; bytes = bs })) g

tells_photo : (cookie : Cookie) (bytes : List ℕ) (o : Outcome) → Decides (shows_photo cookie bytes o) (o ≡ outcome.Photo (record { cookie = cookie; bytes = bytes }))
tells_photo cookie bytes outcome.Nothing = (λ h. absurd cc, λ h. absurd cc)
tells_photo cookie bytes (outcome.Photo photo) =
    let both = Decides-and (cookie_eq photo.cookie cookie) (bytes_eq photo.bytes bytes) (tells_cookie photo.cookie cookie) (bytes_eq-Decides photo.bytes bytes) in
    (λ h. photo_is photo cookie bytes (both.0 h).0 (both.0 h).1, λ h. both.1 (cc, cc))

tells_nothing : (o : Outcome) → Decides (shows_nothing o) (o ≡ outcome.Nothing)
tells_nothing outcome.Nothing = (λ h. refl, λ h. refl)
tells_nothing (outcome.Photo photo) = (λ h. absurd cc, λ h. absurd cc)

abbrev IsOther : Cookie → Outcome → Type 0
IsOther cookie outcome.Nothing = ⊥
IsOther cookie (outcome.Photo photo) = photo.cookie ≢ cookie

tells_other : (cookie : Cookie) (o : Outcome) → Decides (shows_other cookie o) (IsOther cookie o)
tells_other cookie outcome.Nothing = (λ h. absurd cc, λ h. absurd h)
tells_other cookie (outcome.Photo photo) = Decides-not (cookie_eq photo.cookie cookie) (tells_cookie photo.cookie cookie)

-- EVERY REPLICA PASSED OVER

come_up : (before stood printed after : ℕ) → has_risen before printed ≡ true → max stood printed ≤ after → CameUp before printed after
come_up before stood printed after may h = ((tells_rise before printed).0 may, omega (arith, h))

come_least : (stood before printed after : ℕ) → stood ≤ after → CameUp before printed after → max stood printed ≤ after
come_least stood before printed after h up = omega (arith, h, up.1)

may_back : (b before printed after : ℕ) → b ≤ before → CameUp before printed after → has_risen b printed ≡ true
may_back b before printed after h up = (tells_rise b printed).1 (elim up.0 [ inl more ↦ inl (omega (arith, h, more)) | inr top ↦ inr top ])

-- a count that came up is not 0, so it stands in the list
there_back : (counts later : List ℕ) (i before printed : ℕ) → length counts ≡ length later → CameUp before printed (slice_index later i) → nat_lt i (length counts) ≡ true
there_back counts later i before printed e up =
    let there : i < length later = index_there later i (elim up.0 [ inl more ↦ omega (arith, more, up.1) | inr top ↦ omega (arith, top, up.1) ]) in
    (Decides-ltb i (length counts)).1 (omega (arith, e, there))

-- a count in a list that came up
come_set : (counts later : List ℕ) (i printed : ℕ) → nat_lt i (length counts) ≡ true → NoneFalls (slice_set counts i (max (slice_index counts i) printed)) later
    → max (slice_index counts i) printed ≤ slice_index later i
come_set counts later i printed has h =
    let there : i < length counts = (Decides-ltb i (length counts)).0 has in
    omega (arith, falls_at (slice_set counts i (max (slice_index counts i) printed)) later i h, index_set counts i (max (slice_index counts i) printed) there)

grown : (settings : Settings) (lane v j : ℕ) (why : Cause) (c : Known) → NoneFalls c.faults (caused settings lane v j why c).faults × NoneFalls c.arms (caused settings lane v j why c).arms
grown settings lane v j (cause.Arm f) c = (falls_refl c.faults, falls_raised c.arms lane (max (arm_count c lane) f) (omega arith))
grown settings lane v j (cause.Disk f) c =
    (falls_raised c.faults (slot_of settings v j) (max (fault_count c (slot_of settings v j)) f) (omega arith), falls_refl c.arms)
grown settings lane v j (cause.Damage at) c = (falls_refl c.faults, falls_refl c.arms)

all_grown : (settings : Settings) (lane v : ℕ) (order : List ℕ) (causes : List Passed) (c : Known)
    → NoneFalls c.faults (all_caused settings lane v order causes c).faults × NoneFalls c.arms (all_caused settings lane v order causes c).arms
all_grown settings lane v [] [] c = (falls_refl c.faults, falls_refl c.arms)
all_grown settings lane v [] (passed ∷ causes) c = (falls_refl c.faults, falls_refl c.arms)
all_grown settings lane v (j ∷ order) [] c = (falls_refl c.faults, falls_refl c.arms)
all_grown settings lane v (j ∷ order) (passed ∷ causes) c =
    let rest : Known = all_caused settings lane v order causes c in
    let first = all_grown settings lane v order causes c in
    let last = grown settings lane v j passed.cause rest in (
      falls_trans c.faults rest.faults (caused settings lane v j passed.cause rest).faults first.0 last.0,
      falls_trans c.arms rest.arms (caused settings lane v j passed.cause rest).arms first.1 last.1,
    )

-- the volumes, the Directory and the drains stay
pub record Stays (c e : Known) : Type 0 where
  pub volumes : e.volumes ≡ c.volumes
  pub directory : e.directory ≡ c.directory
  pub drained : e.drained ≡ c.drained
  pub fuses : e.fuses ≡ c.fuses

caused_stays : (settings : Settings) (lane v j : ℕ) (why : Cause) (c : Known) → Stays c (caused settings lane v j why c)
caused_stays settings lane v j (cause.Arm f) c = record { volumes = refl; directory = refl; drained = refl; fuses = refl }
caused_stays settings lane v j (cause.Disk f) c = record { volumes = refl; directory = refl; drained = refl; fuses = refl }
caused_stays settings lane v j (cause.Damage at) c = record { volumes = refl; directory = refl; drained = refl; fuses = refl }

all_stay : (settings : Settings) (lane v : ℕ) (order : List ℕ) (causes : List Passed) (c : Known) → Stays c (all_caused settings lane v order causes c)
all_stay settings lane v [] [] c = record { volumes = refl; directory = refl; drained = refl; fuses = refl }
all_stay settings lane v [] (passed ∷ causes) c = record { volumes = refl; directory = refl; drained = refl; fuses = refl }
all_stay settings lane v (j ∷ order) [] c = record { volumes = refl; directory = refl; drained = refl; fuses = refl }
all_stay settings lane v (j ∷ order) (passed ∷ causes) c =
    let first = all_stay settings lane v order causes c in
    let last = caused_stays settings lane v j passed.cause (all_caused settings lane v order causes c) in
    record { volumes = last.volumes ∙ first.volumes; directory = last.directory ∙ first.directory; drained = last.drained ∙ first.drained; fuses = last.fuses ∙ first.fuses }

-- what was caused is a cause
cause_sound : (settings : Settings) (b c t : Known) (tag : CoreTag) (v j : ℕ) (why : Cause) → length c.faults ≡ length b.faults → length c.arms ≡ length b.arms
    → may_cause settings b tag.lane v j why ≡ true
    → NoneFalls (caused settings tag.lane v j why c).faults t.faults → NoneFalls (caused settings tag.lane v j why c).arms t.arms
    → HasCause settings b t tag v j why
cause_sound settings b c t tag v j (cause.Arm f) disks lanes may faults arms =
    let parts = and_parts (nat_lt tag.lane (length b.arms)) (has_risen (arm_count b tag.lane) f) may in
    let has : nat_lt tag.lane (length c.arms) ≡ true = ap (λ (n : ℕ). nat_lt tag.lane n) lanes ∙ parts.0 in
    come_up (arm_count b tag.lane) (arm_count c tag.lane) f (arm_count t tag.lane) parts.1 (come_set c.arms t.arms tag.lane f has arms)
cause_sound settings b c t tag v j (cause.Disk f) disks lanes may faults arms =
    let slot : ℕ = slot_of settings v j in
    let parts = and_parts (nat_lt (slot_of settings v j) (length b.faults)) (has_risen (fault_count b (slot_of settings v j)) f) may in
    let has : nat_lt (slot_of settings v j) (length c.faults) ≡ true = ap (λ (n : ℕ). nat_lt (slot_of settings v j) n) disks ∙ parts.0 in
    come_up (fault_count b (slot_of settings v j)) (fault_count c (slot_of settings v j)) f (fault_count t (slot_of settings v j)) parts.1
    (come_set c.faults t.faults (slot_of settings v j) f has faults)
cause_sound settings b c t tag v j (cause.Damage at) disks lanes may faults arms = absurd (let none : false ≡ true = may in cc)

abbrev EachCaused : Settings → Known → Known → CoreTag → ℕ → List ℕ → List Passed → Type 0
EachCaused settings b t tag v order causes = AllZip (λ j passed. (passed.machine ≡ machine_of settings v j) × HasCause settings b t tag v j passed.cause) order causes

causes_sound : (settings : Settings) (b t : Known) (tag : CoreTag) (v : ℕ) (order : List ℕ) (causes : List Passed)
    → may_pass settings b tag.lane v order causes ≡ true
    → NoneFalls (all_caused settings tag.lane v order causes b).faults t.faults → NoneFalls (all_caused settings tag.lane v order causes b).arms t.arms
    → EachCaused settings b t tag v order causes
causes_sound settings b t tag v [] [] may faults arms = tt
causes_sound settings b t tag v [] (passed ∷ causes) may faults arms = absurd (let none : false ≡ true = may in cc)
causes_sound settings b t tag v (j ∷ order) [] may faults arms = absurd (let none : false ≡ true = may in cc)
causes_sound settings b t tag v (j ∷ order) (passed ∷ causes) may faults arms =
    let parts = and_parts (passed.machine == machine_of settings v j) (may_cause settings b tag.lane v j passed.cause && may_pass settings b tag.lane v order causes) may in
    let others = and_parts (may_cause settings b tag.lane v j passed.cause) (may_pass settings b tag.lane v order causes) parts.1 in
    let c : Known = all_caused settings tag.lane v order causes b in
    let more = all_grown settings tag.lane v order causes b in
    let last = grown settings tag.lane v j passed.cause c in (
      (
        eqb-true passed.machine (machine_of settings v j) parts.0,
        cause_sound settings b c t tag v j passed.cause (sym (falls_length b.faults c.faults more.0)) (sym (falls_length b.arms c.arms more.1)) others.0 faults arms,
      ),
      causes_sound settings b t tag v order causes others.1
          (falls_trans c.faults (caused settings tag.lane v j passed.cause c).faults t.faults last.0 faults)
          (falls_trans c.arms (caused settings tag.lane v j passed.cause c).arms t.arms last.1 arms),
    )

-- a cause needs this, and leaves no less
cause_back : (settings : Settings) (b k c t : Known) (tag : CoreTag) (v j : ℕ) (why : Cause) → NoneFalls b.faults k.faults → NoneFalls b.arms k.arms
    → NoneFalls k.faults t.faults → NoneFalls k.arms t.arms → Below c t → HasCause settings k t tag v j why
    → (may_cause settings b tag.lane v j why ≡ true) × Below (caused settings tag.lane v j why c) t
cause_back settings b k c t tag v j (cause.Arm f) first1 first2 then1 then2 below h = (
  and_from (nat_lt tag.lane (length b.arms)) (has_risen (arm_count b tag.lane) f)
      (there_back b.arms t.arms tag.lane (arm_count k tag.lane) f (falls_length b.arms k.arms first2 ∙ falls_length k.arms t.arms then2) h)
      (may_back (arm_count b tag.lane) (arm_count k tag.lane) f (arm_count t tag.lane) (falls_at b.arms k.arms tag.lane first2) h),
  record {
    volumes = below.volumes;
    directory = below.directory;
    drained = below.drained;
    faults = below.faults;
    arms = falls_set c.arms t.arms tag.lane (max (arm_count c tag.lane) f) below.arms
        (come_least (arm_count c tag.lane) (arm_count k tag.lane) f (arm_count t tag.lane) (falls_at c.arms t.arms tag.lane below.arms) h);
  },
)
cause_back settings b k c t tag v j (cause.Disk f) first1 first2 then1 then2 below h = (
  and_from (nat_lt (slot_of settings v j) (length b.faults)) (has_risen (fault_count b (slot_of settings v j)) f)
      (there_back b.faults t.faults (slot_of settings v j) (fault_count k (slot_of settings v j)) f (falls_length b.faults k.faults first1 ∙ falls_length k.faults t.faults then1) h)
      (may_back (fault_count b (slot_of settings v j)) (fault_count k (slot_of settings v j)) f (fault_count t (slot_of settings v j)) (falls_at b.faults k.faults (slot_of settings v j) first1) h),
  record {
    volumes = below.volumes;
    directory = below.directory;
    drained = below.drained;
    faults = falls_set c.faults t.faults (slot_of settings v j) (max (fault_count c (slot_of settings v j)) f) below.faults
        (come_least (fault_count c (slot_of settings v j)) (fault_count k (slot_of settings v j)) f (fault_count t (slot_of settings v j))
        (falls_at c.faults t.faults (slot_of settings v j) below.faults) h);
    arms = below.arms;
  },
)
cause_back settings b k c t tag v j (cause.Damage at) first1 first2 then1 then2 below h = absurd h

causes_back : (settings : Settings) (b k t : Known) (tag : CoreTag) (v : ℕ) (order : List ℕ) (causes : List Passed) → NoneFalls b.faults k.faults → NoneFalls b.arms k.arms
    → NoneFalls k.faults t.faults → NoneFalls k.arms t.arms → Below b t → EachCaused settings k t tag v order causes
    → (may_pass settings b tag.lane v order causes ≡ true) × Below (all_caused settings tag.lane v order causes b) t
causes_back settings b k t tag v [] [] first1 first2 then1 then2 below h = (refl, below)
causes_back settings b k t tag v [] (passed ∷ causes) first1 first2 then1 then2 below h = absurd h
causes_back settings b k t tag v (j ∷ order) [] first1 first2 then1 then2 below h = absurd h
causes_back settings b k t tag v (j ∷ order) (passed ∷ causes) first1 first2 then1 then2 below h =
    let rest = causes_back settings b k t tag v order causes first1 first2 then1 then2 below h.1 in
    let here = cause_back settings b k (all_caused settings tag.lane v order causes b) t tag v j passed.cause first1 first2 then1 then2 rest.1 h.0.1 in (
      and_from (passed.machine == machine_of settings v j) _ (eq-eqb passed.machine (machine_of settings v j) h.0.0)
          (and_from (may_cause settings b tag.lane v j passed.cause) (may_pass settings b tag.lane v order causes) here.0 rest.0),
      here.1,
    )

tells_arm : (a c : Cause) → Decides (arm_rises a c) (ArmRises a c)
tells_arm (cause.Arm f) (cause.Arm g) = Decides-or (nat_lt f g) (g == 2 ^ 64 - 1) (Decides-ltb f g) (Decides-eqb g (2 ^ 64 - 1))
tells_arm (cause.Arm f) (cause.Disk g) = (λ h. tt, λ h. refl)
tells_arm (cause.Arm f) (cause.Damage g) = (λ h. tt, λ h. refl)
tells_arm (cause.Disk f) c = (λ h. tt, λ h. refl)
tells_arm (cause.Damage f) c = (λ h. tt, λ h. refl)

tells_on : (a : Passed) (causes : List Passed) → Decides (rises_on a.cause causes) (Each (λ c. ArmRises a.cause c.cause) causes)
tells_on a [] = (λ h. tt, λ h. refl)
tells_on a (c ∷ causes) = Decides-and (arm_rises a.cause c.cause) (rises_on a.cause causes) (tells_arm a.cause c.cause) (tells_on a causes)

tells_arms : (causes : List Passed) → Decides (arms_rise causes) (EachPair (λ a c. ArmRises a.cause c.cause) causes)
tells_arms [] = (λ h. tt, λ h. refl)
tells_arms (a ∷ causes) = Decides-and (rises_on a.cause causes) (arms_rise causes) (tells_on a causes) (tells_arms causes)

-- an unreadable reply needs this
abbrev NeedsUnreadable : Settings → Known → CoreTag → ℕ → Pair → ℕ → ℕ → ℕ → List Passed → Type 0
NeedsUnreadable settings b tag start pair v p d causes =
    Seen b pair v p d × ((may_pass settings b tag.lane v (order_from settings start) causes ≡ true) × EachPair (λ a c. ArmRises a.cause c.cause) causes)

unreadable_row : (settings : Settings) (b : Known) (tag : CoreTag) (start : ℕ) (pair : Pair) (cookie : Cookie) (v p d : ℕ) (causes : List Passed)
    → IsRow (show_row settings tag start pair cookie (reply.Unreadable v p d causes)) b (all_caused settings tag.lane v (order_from settings start) causes b)
    (NeedsUnreadable settings b tag start pair v p d causes)
unreadable_row settings b tag start pair cookie v p d causes =
    let e : Known = all_caused settings tag.lane v (order_from settings start) causes b in
    let stay = all_stay settings tag.lane v (order_from settings start) causes b in
    let more = all_grown settings tag.lane v (order_from settings start) causes b in
    record {
      yes = λ needs. record {
        seen = record { home = needs.0.0; front = needs.0.1.0; rows = needs.0.1.1 };
        each = causes_sound settings b e tag v (order_from settings start) causes needs.1.0 (falls_refl e.faults) (falls_refl e.arms);
        arms = needs.1.1;
        leaves = record { volumes = stay.volumes; directory = stay.directory; drained = stay.drained; fuses = stay.fuses; faults = more.0; arms = more.1 };
      };
      back = λ faults arms fuses t f a r.
          let below = comes b (with_counts b faults arms fuses) (with_counts b faults arms fuses) t refl refl refl f a r.leaves in
          let both = causes_back settings b (with_counts b faults arms fuses) t tag v (order_from settings start) causes f a (r.leaves).faults (r.leaves).arms below r.each in
          ((((r.seen).home, ((r.seen).front, (r.seen).rows)), (both.0, r.arms)), both.1);
    }

pub show_step : (settings : Settings) (b : Known) (tag : CoreTag) (start : ℕ) (pair : Pair) (cookie : Cookie) (r : Reply) → r ≢ reply.NoMem
    → IsStep (show_row settings tag start pair cookie r) b (next_show settings b tag start pair cookie r)
show_step settings b tag start pair cookie (reply.Photo v m p d bytes) known =
    shown_steps settings b tag start pair v m p d (shows_photo cookie bytes) (show_row settings tag start pair cookie (reply.Photo v m p d bytes))
    (λ o. o ≡ outcome.Photo (record { cookie = cookie; bytes = bytes })) (tells_photo cookie bytes)
    (λ k t h. (outcome.Photo (record { cookie = cookie; bytes = bytes }), refl, h))
    (λ k t o e h. subst (λ (u : Outcome). IsShown settings k tag start pair v m p d u t) e h) (replica_on settings v m) refl
show_step settings b tag start pair cookie (reply.Gone v m p d) known =
    shown_steps settings b tag start pair v m p d shows_nothing (show_row settings tag start pair cookie (reply.Gone v m p d))
    (λ o. o ≡ outcome.Nothing) tells_nothing
    (λ k t h. (outcome.Nothing, refl, h))
    (λ k t o e h. subst (λ (u : Outcome). IsShown settings k tag start pair v m p d u t) e h) (replica_on settings v m) refl
show_step settings b tag start pair cookie (reply.WrongCookie v m p d) known =
    shown_steps settings b tag start pair v m p d (shows_other cookie) (show_row settings tag start pair cookie (reply.WrongCookie v m p d))
    (IsOther cookie) (tells_other cookie)
    (λ k t h. (outcome.Photo (record { cookie = h.0; bytes = h.1 }), h.2, h.3))
    other_back (replica_on settings v m) refl
  where
    other_back : (k t : Known) (o : Outcome) → IsOther cookie o → IsShown settings k tag start pair v m p d o t → show_row settings tag start pair cookie (reply.WrongCookie v m p d) k t
    other_back k t outcome.Nothing other h = absurd other
    other_back k t (outcome.Photo photo) other h = (photo.cookie, photo.bytes, other, h)
show_step settings b tag start pair cookie (reply.Unreadable v p d causes) known =
    kept (show_row settings tag start pair cookie (reply.Unreadable v p d causes)) b (all_caused settings tag.lane v (order_from settings start) causes b)
    (NeedsUnreadable settings b tag start pair v p d causes) _
    (Decides-and (is_seen b pair v p d) _ (tells_seen b pair v p d)
    (Decides-and (may_pass settings b tag.lane v (order_from settings start) causes) (arms_rise causes)
    (tells_flag (may_pass settings b tag.lane v (order_from settings start) causes)) (tells_arms causes)))
    (unreadable_row settings b tag start pair cookie v p d causes)
show_step settings b tag start pair cookie (reply.Unknown d) known =
    kept (show_row settings tag start pair cookie (reply.Unknown d)) b b _ _
    (Decides-and (is_none (home_of b pair)) (d == length b.directory.rows) (tells_none (home_of b pair)) (Decides-eqb d (length b.directory.rows)))
    (calm (show_row settings tag start pair cookie (reply.Unknown d)) b _ (λ needs leaves. ((needs.0, needs.1), leaves)) (λ faults arms fuses t r. ((r.0.0, r.0.1), r.1)))
show_step settings b tag start pair cookie reply.NoMem known = absurd (known refl)
show_step settings b tag start pair cookie r known = never (show_row settings tag start pair cookie r) b (λ faults arms fuses t first a lie. lie)
