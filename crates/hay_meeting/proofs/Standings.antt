-- What stands behind acts on a volume, and on the Directory.
use Rattle.std.proofs.Common.{◌≡◌, inl, inr, ℕ, zero, suc, ◌+◌, ◌<◌, ◌≤◌, Bool, true, false, List, [], ◌∷◌, ◌++◌, length, take, fold, slice_get, refl, sym, ap, subst, ◌∙◌, arith}
use Rattle.std.proofs.Common.{append_assoc, append-nil, length-append, Some}
use Rattle.std.specs.Prelude.{slice_index_or}
use Rattle.std.specs.List.{AllByRecursion as Each}
use Rattle.std.proofs.lemmas.List.{length-map, take_all}
use Rattle.std.proofs.lemmas.Option.{none-some}
use Rattle.std.proofs.lemmas.Bool.{cases_lt}
use Rattle.std.proofs.lemmas.List.Sums.{fold-append}
use mathlib.Core.List.{map-append}
use Rattle.hay_needle.specs.declared.needle.Pair.{Pair}
use Rattle.hay_disk.specs.Counts.{IsNext, Rose}
use Rattle.hay_legal.specs.declared.known.DirKnown.{DirKnown}
use Rattle.hay_needle.specs.declared.settings.Settings.{Settings}
use Rattle.hay_needle.specs.Tables.{Table}
use Rattle.hay_core.specs.declared.entry.CoreTag.{CoreTag}
use Rattle.hay_core.specs.declared.entry.Entry.{Entry}
use Rattle.hay_core.specs.declared.entry.Entry.TheVariants as entry
use Rattle.hay_core.specs.declared.entry.Logged.{Logged}
use Rattle.hay_core.specs.Entries.{apply_entry, entries_of}
use Rattle.hay_legal.specs.declared.known.HomeRow.{HomeRow}
use Rattle.hay_legal.specs.declared.known.ReplicaKnown.{ReplicaKnown}
use Rattle.hay_legal.specs.declared.known.VolumeKnown.{VolumeKnown}
use Rattle.hay_legal.specs.Known.{now, replica_at}
use Rattle.hay_legal.specs.Plain.{ended_where, with_del, without_run}
use Rattle.hay_history.specs.LaneSteps.{Follows, FollowsRows, Leads, LeadsFuses, NoneFall, RowsStanding, Standing}
use Rattle.hay_history.specs.Histories.{begun_by, begun_in, behind, rows_behind}
use Rattle.hay_history.proofs.Changes.{Extends, leads_extends, log_by}
use Rattle.hay_meeting.specs.declared.act.DirAct.{DirAct}
use Rattle.hay_meeting.specs.declared.act.DirDid.{DirDid}
use Rattle.hay_meeting.specs.declared.act.DirDid.TheVariants as act_row
use Rattle.hay_meeting.specs.declared.act.VolumeAct.{VolumeAct}
use Rattle.hay_meeting.specs.declared.act.VolumeDid.{VolumeDid}
use Rattle.hay_meeting.specs.declared.act.VolumeDid.TheVariants as act
use Rattle.hay_meeting.specs.Acts.{IsSized, begun_of, did_of, directory_by, entry_of, known_by, left_by, row_lock, row_of, rows_left_by, volume_lock}
use Rattle.hay_meeting.specs.Locks.{add_shown, entries, left, replayed}
use Rattle.hay_meeting.specs.Sights.{Agrees}

-- STEP BY STEP

pub behind_replayed : (start : Standing) (acts : List VolumeAct) (n : ℕ) → behind start (replayed volume_lock start acts) n ≡ left volume_lock start (take n acts)
behind_replayed start [] zero = refl
behind_replayed start [] (suc n) = refl
behind_replayed start (act ∷ acts) zero = refl
behind_replayed start (act ∷ acts) (suc n) = behind_replayed (left_by act start) acts n

pub rows_behind_replayed : (start : RowsStanding) (acts : List DirAct) (n : ℕ) → rows_behind start (replayed row_lock start acts) n ≡ left row_lock start (take n acts)
rows_behind_replayed start [] zero = refl
rows_behind_replayed start [] (suc n) = refl
rows_behind_replayed start (act ∷ acts) zero = refl
rows_behind_replayed start (act ∷ acts) (suc n) = rows_behind_replayed (rows_left_by act start) acts n

pub begun_replayed : (j : ℕ) (before : CoreTag) (start : Standing) (acts : List VolumeAct) (n : ℕ) → begun_by j before (replayed volume_lock start acts) n ≡ begun_of j before (take n acts)
begun_replayed j before start [] zero = refl
begun_replayed j before start [] (suc n) = refl
begun_replayed j before start (act ∷ acts) zero = refl
begun_replayed j before start (act ∷ acts) (suc n) = begun_replayed j (begun_in j act.tag (did_of act.did) before) (left_by act start) acts n

pub begun_append : (j : ℕ) (before : CoreTag) (xs ys : List VolumeAct) → begun_of j before (xs ++ ys) ≡ begun_of j (begun_of j before xs) ys
begun_append j before [] ys = refl
begun_append j before (x ∷ xs) ys = begun_append j (begun_in j x.tag (did_of x.did) before) xs ys

-- what follows behind acts
pub follows_behind : (settings : Settings) (v : ℕ) (start : Standing) (xs ys : List VolumeAct) → Follows settings v start (replayed volume_lock start (xs ++ ys))
    → Follows settings v (left volume_lock start xs) (replayed volume_lock (left volume_lock start xs) ys)
follows_behind settings v start [] ys f = f
follows_behind settings v start (x ∷ xs) ys f = follows_behind settings v (left_by x start) xs ys f.3

pub follows_first : (settings : Settings) (v : ℕ) (start : Standing) (xs ys : List VolumeAct) → Follows settings v start (replayed volume_lock start (xs ++ ys))
    → Follows settings v start (replayed volume_lock start xs)
follows_first settings v start [] ys f = tt
follows_first settings v start (x ∷ xs) ys f = (f.0, f.1, f.2, follows_first settings v (left_by x start) xs ys f.3)

pub rows_follow_behind : (start : RowsStanding) (xs ys : List DirAct) → FollowsRows start (replayed row_lock start (xs ++ ys))
    → FollowsRows (left row_lock start xs) (replayed row_lock (left row_lock start xs) ys)
rows_follow_behind start [] ys f = f
rows_follow_behind start (x ∷ xs) ys f = rows_follow_behind (rows_left_by x start) xs ys f.3

pub sized_behind : (replicas : ℕ) (xs ys : List VolumeAct) → Each (IsSized replicas) (xs ++ ys) → Each (IsSized replicas) ys
sized_behind replicas [] ys each = each
sized_behind replicas (x ∷ xs) ys each = sized_behind replicas xs ys each.1

-- FROM ANOTHER STANDING THAT AGREES

pub agrees_trans : (replicas : ℕ) (a b c : Standing) → Agrees replicas a b → Agrees replicas b c → Agrees replicas a c
agrees_trans replicas a b c p q = record { volume = p.volume ∙ q.volume; faults = λ j below. p.faults j below ∙ q.faults j below; fuses = λ j below. p.fuses j below ∙ q.fuses j below }

pub same_agrees : (replicas : ℕ) (a b : Standing) → a ≡ b → Agrees replicas a b
same_agrees replicas a b same = subst (Agrees replicas a) same (record { volume = refl; faults = λ j below. refl; fuses = λ j below. refl })

next_agrees : (replicas : ℕ) (act : VolumeAct) (a b : Standing) → Agrees replicas a b → Agrees replicas (left_by act a) (left_by act b)
next_agrees replicas act a b same = record {
  volume = ap (known_by act.tag act.did) same.volume;
  faults = λ j below. ap (slice_index_or act.faults j) (same.faults j below);
  fuses = λ j below. ap (slice_index_or act.fuses j) (same.fuses j below);
}

pub left_agrees : (replicas : ℕ) (acts : List VolumeAct) (a b : Standing) → Agrees replicas a b → Agrees replicas (left volume_lock a acts) (left volume_lock b acts)
left_agrees replicas [] a b same = same
left_agrees replicas (act ∷ acts) a b same = left_agrees replicas acts (left_by act a) (left_by act b) (next_agrees replicas act a b same)

-- a delete ends no more compactions than there are replicas
ended_short : (n : ℕ) (ended : List Bool) (rs : List ReplicaKnown) → length rs ≤ n → ended_where (take n ended) rs ≡ ended_where ended rs
ended_short zero [] rs le = refl
ended_short zero (b ∷ ended) [] le = refl
ended_short zero (b ∷ ended) (r ∷ rs) le = absurd (omega (arith, le))
ended_short (suc n) [] rs le = refl
ended_short (suc n) (b ∷ ended) [] le = refl
ended_short (suc n) (true ∷ ended) (r ∷ rs) le = ap (λ z. without_run r ∷ z) (ended_short n ended rs (omega (arith, le)))
ended_short (suc n) (false ∷ ended) (r ∷ rs) le = ap (λ z. r ∷ z) (ended_short n ended rs (omega (arith, le)))

within_take : (n : ℕ) (ended : List Bool) (j : ℕ) → slice_get (take n ended) j ≡ Some true → (j < n) × (slice_get ended j ≡ Some true)
within_take zero ended j at = absurd (none-some true (cc at))
within_take (suc n) [] j at = absurd (none-some true (cc at))
within_take (suc n) (b ∷ ended) zero at = (omega arith, at)
within_take (suc n) (b ∷ ended) (suc j) at = let r = within_take n ended j at in let below = r.0 in (omega (arith, below), r.1)

module _ (settings : Settings) (v : ℕ) (x : VolumeAct) (s s' : Standing) (same : Agrees settings.replicas s' s) (sized : IsSized settings.replicas x)
    (few : length (s.volume).replicas ≤ settings.replicas) where
  -- s' with another volume
  abbrev at : VolumeKnown → Standing
  at z = record { volume = z; faults = s'.faults; fuses = s'.fuses }

  abbrev after_of : VolumeDid → Standing → Standing
  after_of d z = record { volume = known_by x.tag d z.volume; faults = λ j. slice_index_or x.faults j (z.faults j); fuses = λ j. slice_index_or x.fuses j (z.fuses j) }

  abbrev Led : VolumeDid → VolumeKnown → Type 0
  Led d z = Leads settings v x.tag (did_of d) (at z) (after_of d (at z))

  moved : (d : VolumeDid) → Led d s.volume → Led d s'.volume
  moved d led = subst (Led d) (sym same.volume) led

  deleted_again : (ended : List Bool) (pair : Pair) → Leads settings v x.tag (did_of (act.Entered (entry.Del pair) ended)) s (after_of (act.Entered (entry.Del pair) ended) s)
      → Leads settings v x.tag (did_of (act.Entered (entry.Del pair) ended)) (at s.volume) (after_of (act.Entered (entry.Del pair) ended) (at s.volume))
  deleted_again ended pair (thawed, (which, rose, is)) =
      let n : ℕ = settings.replicas in (
        thawed,
        (
          take n which,
          (λ j on. let at_j = within_take n which j on in
              subst (λ (m : ℕ). Rose m (slice_index_or x.faults j m)) (sym (same.faults j at_j.0)) (rose j at_j.1)),
          is ∙ ap (λ (rs : List ReplicaKnown). record (with_del which x.tag pair s.volume) { replicas = rs }) (sym (ended_short n which (s.volume).replicas few)),
        ),
      )

  leads_by : (d : VolumeDid) → Leads settings v x.tag (did_of d) s (after_of d s) → Leads settings v x.tag (did_of d) s' (after_of d s')
  leads_by act.Tries led = refl
  leads_by (act.Entered (entry.Put pair cookie bytes) ended) led = moved (act.Entered (entry.Put pair cookie bytes) ended) led
  leads_by (act.Entered (entry.Del pair) ended) led = moved (act.Entered (entry.Del pair) ended) (deleted_again ended pair led)
  leads_by (act.Pends m change failed) led = moved (act.Pends m change failed) led
  leads_by (act.Freezes m) led = moved (act.Freezes m) led
  leads_by (act.Flushes j) led = moved (act.Flushes j) led
  leads_by (act.Sticks j) led = moved (act.Sticks j) led
  leads_by (act.Begins j) led = moved (act.Begins j) led
  leads_by (act.Examines j n) led = moved (act.Examines j n) led
  leads_by (act.Ends j) led = moved (act.Ends j) led
  leads_by (act.Swaps j end cells frozen) led = moved (act.Swaps j end cells frozen) led
  leads_by (act.Poises m j) led = moved (act.Poises m j) led
  leads_by (act.Fuses j) led = moved (act.Fuses j) led

  -- a count for each replica leaves those of no replica as they were
  other_count : (counts : List ℕ) (j m : ℕ) → length counts ≤ j → slice_index_or counts j m ≡ m
  other_count [] j m le = refl
  other_count (c ∷ counts) zero m le = absurd (omega (arith, le))
  other_count (c ∷ counts) (suc j) m le = other_count counts j m (omega (arith, le))

  falls_again : NoneFall s.faults (left_by x s).faults → NoneFall s'.faults (left_by x s').faults
  falls_again falls j = elim (cases_lt j settings.replicas) [
    | inl below ↦ subst (λ (m : ℕ). m ≤ slice_index_or x.faults j m) (sym (same.faults j below)) (falls j)
    | inr high ↦ let e = other_count x.faults j (s'.faults j) (omega (arith, high, sized.faults)) in omega (arith, e)
  ]

  -- a fuse of a replica, and of no other
  fused_same : (i : ℕ) → (left_by x s).fuses i ≡ s.fuses i → (left_by x s').fuses i ≡ s'.fuses i
  fused_same i as_it_was = elim (cases_lt i settings.replicas) [
    | inl below ↦ subst (λ (m : ℕ). slice_index_or x.fuses i m ≡ m) (sym (same.fuses i below)) as_it_was
    | inr high ↦ other_count x.fuses i (s'.fuses i) (omega (arith, high, sized.fuses))
  ]

  fuses_by : (d : VolumeDid) → Leads settings v x.tag (did_of d) s (after_of d s) → LeadsFuses (did_of d) s.fuses (left_by x s).fuses → LeadsFuses (did_of d) s'.fuses (left_by x s').fuses
  fuses_by act.Tries led h = λ i. fused_same i (h i)
  fuses_by (act.Entered change ended) led h = λ i. fused_same i (h i)
  fuses_by (act.Pends m change failed) led h = λ i. fused_same i (h i)
  fuses_by (act.Freezes m) led h = λ i. fused_same i (h i)
  fuses_by (act.Flushes j) led h = λ i. fused_same i (h i)
  fuses_by (act.Sticks j) led h = λ i. fused_same i (h i)
  fuses_by (act.Begins j) led h = λ i. fused_same i (h i)
  fuses_by (act.Examines j n) led h = λ i. fused_same i (h i)
  fuses_by (act.Ends j) led h = λ i. fused_same i (h i)
  fuses_by (act.Swaps j end cells frozen) led h = λ i. fused_same i (h i)
  fuses_by (act.Poises m j) led h = λ i. fused_same i (h i)
  fuses_by (act.Fuses j) led h = (
    subst (λ (m : ℕ). IsNext m (slice_index_or x.fuses j m)) (sym (same.fuses j led.0)) h.0,
    (λ i differs. fused_same i (h.1 i differs)),
  )

pub follows_again : (settings : Settings) (v : ℕ) (acts : List VolumeAct) (s s' : Standing) → Agrees settings.replicas s' s → Each (IsSized settings.replicas) acts
    → length (s.volume).replicas ≤ settings.replicas → Follows settings v s (replayed volume_lock s acts) → Follows settings v s' (replayed volume_lock s' acts)
follows_again settings v [] s s' same sized few follows = tt
follows_again settings v (x ∷ acts) s s' same sized few (leads, falls, fuses, rest) =
    let many : length ((left_by x s).volume).replicas ≡ length (s.volume).replicas = (leads_extends settings v x.tag (did_of x.did) s (left_by x s) leads).many in
    let next = follows_again settings v acts (left_by x s) (left_by x s') (next_agrees settings.replicas x s' s same) sized.1 (omega (arith, many, few)) rest in
    (leads_by settings v x s s' same sized.0 few x.did leads, falls_again settings v x s s' same sized.0 few falls, fuses_by settings v x s s' same sized.0 few x.did leads fuses, next)

-- ENTRIES, AND WHAT REPLICAS BEGAN WITH

abbrev pub logged_of : List VolumeAct → List Logged
logged_of [] = []
logged_of (x ∷ acts) = log_by x.tag (did_of x.did) ++ logged_of acts

logged_entry : (tag : CoreTag) (d : VolumeDid) (rest : List Logged) → entries_of (log_by tag (did_of d) ++ rest) ≡ add_shown (entry_of d) (entries_of rest)
logged_entry tag act.Tries rest = refl
logged_entry tag (act.Entered change ended) rest = refl
logged_entry tag (act.Pends m change failed) rest = refl
logged_entry tag (act.Freezes m) rest = refl
logged_entry tag (act.Flushes j) rest = refl
logged_entry tag (act.Sticks j) rest = refl
logged_entry tag (act.Begins j) rest = refl
logged_entry tag (act.Examines j n) rest = refl
logged_entry tag (act.Ends j) rest = refl
logged_entry tag (act.Swaps j end cells frozen) rest = refl
logged_entry tag (act.Poises m j) rest = refl
logged_entry tag (act.Fuses j) rest = refl

pub logged_entries : (acts : List VolumeAct) → entries_of (logged_of acts) ≡ entries volume_lock acts
logged_entries [] = refl
logged_entries (x ∷ acts) = logged_entry x.tag x.did (logged_of acts) ∙ ap (add_shown (entry_of x.did)) (logged_entries acts)

pub extends : (settings : Settings) (v : ℕ) (s : Standing) (acts : List VolumeAct) → Follows settings v s (replayed volume_lock s acts)
    → Extends (logged_of acts) s.volume (left volume_lock s acts).volume
extends settings v s [] follows = record { log = sym (append-nil (s.volume).log); bases = λ j. refl; many = refl }
extends settings v s (x ∷ acts) (leads, falls, fuses, rest) =
    let one = leads_extends settings v x.tag (did_of x.did) s (left_by x s) leads in
    let more = extends settings v (left_by x s) acts rest in record {
      log = more.log ∙ (ap (λ z. z ++ logged_of acts) one.log ∙ append_assoc (s.volume).log (log_by x.tag (did_of x.did)) (logged_of acts));
      bases = λ j. more.bases j ∙ one.bases j;
      many = more.many ∙ one.many;
    }

-- a volume's front behind acts, and what stands there by its replicas
pub front_behind : (settings : Settings) (v : ℕ) (s : Standing) (acts : List VolumeAct) → Follows settings v s (replayed volume_lock s acts)
    → length ((left volume_lock s acts).volume).log ≡ length (s.volume).log + length (entries volume_lock acts)
front_behind settings v s acts follows =
    ap length (extends settings v s acts follows).log
    ∙ (length-append (s.volume).log (logged_of acts)
    ∙ ap (λ (n : ℕ). length (s.volume).log + n) (sym (length-map (logged_of acts) (λ logged. logged.entry)) ∙ ap length (logged_entries acts)))

now_is : (volume : VolumeKnown) (replica : ReplicaKnown) → now volume replica ≡ fold apply_entry replica.base (entries_of volume.log)
now_is volume replica =
    ap (λ (es : List Entry). fold apply_entry replica.base es)
    (ap (λ (n : ℕ). take n (entries_of volume.log)) (sym (length-map volume.log (λ logged. logged.entry))) ∙ take_all (length (entries_of volume.log)) (entries_of volume.log) (omega arith))

pub table_behind : (settings : Settings) (v : ℕ) (s : Standing) (acts : List VolumeAct) (j : ℕ) → Follows settings v s (replayed volume_lock s acts)
    → now (left volume_lock s acts).volume (replica_at (left volume_lock s acts).volume j)
    ≡ fold apply_entry (now s.volume (replica_at s.volume j)) (entries volume_lock acts)
table_behind settings v s acts j follows =
    let more = extends settings v s acts follows in
    let last : VolumeKnown = (left volume_lock s acts).volume in
    let base : Table = (replica_at s.volume j).base in
    now_is last (replica_at last j)
    ∙ (ap (λ (t : Table). fold apply_entry t (entries_of last.log)) (more.bases j)
    ∙ (ap (λ (l : List Logged). fold apply_entry base (entries_of l)) more.log
    ∙ (ap (fold apply_entry base) (map-append (λ (l : Logged). l.entry) (s.volume).log (logged_of acts))
    ∙ (fold-append apply_entry base (entries_of (s.volume).log) (entries_of (logged_of acts))
    ∙ (ap (λ (t : Table). fold apply_entry t (entries_of (logged_of acts))) (sym (now_is s.volume (replica_at s.volume j)))
    ∙ ap (fold apply_entry (now s.volume (replica_at s.volume j))) (logged_entries acts))))))

-- THE DIRECTORY

added_rows : (tag : CoreTag) (d : DirDid) (directory : DirKnown) (rest : List HomeRow) → (directory_by tag d directory).rows ++ rest ≡ directory.rows ++ add_shown (row_of d) rest
added_rows tag act_row.TriesRow directory rest = refl
added_rows tag (act_row.AddsRow row) directory rest = append_assoc directory.rows (row ∷ []) rest
added_rows tag (act_row.PendsRow row) directory rest = refl
added_rows tag (act_row.Drains m is) directory rest = refl
added_rows tag act_row.FusesRow directory rest = refl

pub rows_behind_acts : (s : RowsStanding) (acts : List DirAct) → ((left row_lock s acts).directory).rows ≡ (s.directory).rows ++ entries row_lock acts
rows_behind_acts s [] = sym (append-nil (s.directory).rows)
rows_behind_acts s (x ∷ acts) = rows_behind_acts (rows_left_by x s) acts ∙ added_rows x.tag x.did s.directory (entries row_lock acts)
