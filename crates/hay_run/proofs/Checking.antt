-- Laws of what a check tells.
use Rattle.std.proofs.Common.{◌≡◌, ◌⊎◌, ◌<◌, ◌≤◌, ◌+◌, ℕ, Bool, true, false, List, [], ◌∷◌, ◌++◌, length, take, Option, Some, None, Result, Ok, Err, refl, sym, ap, subst, ◌∙◌}
use Rattle.std.proofs.Common.{append_assoc, arith, inl, inr, ◌||◌}
use Rattle.std.specs.List.{list_any}
use Rattle.std.specs.Prelude.{IfOk}
use Rattle.std.proofs.lemmas.Bool.{cases_lt}
use Rattle.std.proofs.lemmas.List.{append-nil}
use Rattle.std.proofs.lemmas.List.Folds.{list_any-append}
use Rattle.std.proofs.Math.Seq.{take-append-add}
use Rattle.hay_disk.specs.Counts.{Rose}
use Rattle.hay_disk.specs.Disk.{KeepsOthers}
use Rattle.hay_disk.specs.Shelf.{HeldDisk}
use Rattle.hay_disk.specs.Streams.{Wrote, WrotePart}
use Rattle.hay_mount.specs.Mounts.{SameFrom}
use Rattle.hay_needle.specs.declared.settings.Settings.{Settings}
use Rattle.hay_needle.specs.declared.settings.Super.{Super}
use Rattle.hay_check.specs.Verdicts.{CheckOf, IsJournalVerdict, IsReplicaVerdict}
use Rattle.hay_check.specs.declared.verdict.CheckFault.{CheckFault}
use Rattle.hay_check.specs.declared.verdict.Verdict.{Verdict}
use Rattle.hay_reply.specs.declared.Note.{Note}
use Rattle.hay_reply.specs.declared.Note.TheVariants.{OpenShelf, OpenFailed}
use Rattle.hay_reply.specs.Fits.{FitsNote}
use Rattle.hay_reply.specs.Replies.{header_line, note_line}
use Rattle.hay_cluster.specs.declared.fault.ClusterFault.{ClusterFault}
use Rattle.hay_cluster.specs.declared.fault.ClusterFault.TheVariants as refusal
use Rattle.hay_run.specs.declared.stops.Stop.{Stop}
use Rattle.hay_run.specs.declared.stops.Stop.TheVariants as stop
use Rattle.hay_run.specs.Stops.{note_of}
use Rattle.hay_legal.specs.Known.{disk_count, slot_of}
use Rattle.hay_legal.specs.Stands.{Contents, Outside}
use Rattle.hay_legal.specs.Statuses.{Ending, read_contents, status_of}
use Rattle.hay_legal.specs.Statuses.Ending.{NoMemory, NotOpened, OutputFault, ReadAll}
use Rattle.hay_logical.specs.Fits.{super_of}
use Rattle.hay_run.specs.Checking.{AreVerdicts, ChecksTo, CutsShort, IsBreak, IsFaultAt, IsUnchanged, IsVerdictIn, IsVerdictOn, check_status, check_text, is_damaged, verdict_line, verdict_lines}
use Rattle.hay_run.proofs.Turning.{wrote_more, wrote_nothing, wrote_part}

-- what was written in part behind what was written whole
pub part_more : (before mid after : Option (List ℕ)) (a b : List ℕ) → Wrote before a mid → WrotePart mid b after → WrotePart before (a ++ b) after
part_more before mid after a b whole part =
    let P : List ℕ → Type 0 = λ text. Wrote before text after in
    (length a + part.0, subst P (sym (take-append-add a b part.0)) (wrote_more before mid after a (take part.0 b) whole part.1))

-- a count that rose from a later one rose from an earlier one
rose_since : (first mid last : ℕ) → first ≤ mid → Rose mid last → Rose first last
rose_since first mid last later (inl above) = inl (omega arith)
rose_since first mid last later (inr full) = inr full

-- one of two stops
abbrev stopped : Stop → Result (Unit {0}) Stop
stopped why = Err why

pub same_stop : (why a b : Stop) → (stopped why ≡ stopped a) ⊎ (stopped why ≡ stopped b) → (why ≡ a) ⊎ (why ≡ b)
same_stop why a b (inl is) = inl cc
same_stop why a b (inr is) = inr cc

-- the text before the first disk
pub text-first : (settings : Settings) → check_text settings [] ≡ header_line settings
text-first settings = append-nil (header_line settings)

-- ONE DISK MORE

pub lines-snoc : (slot : ℕ) (verdicts : List Verdict) (verdict : Verdict) → verdict_lines slot (verdicts ++ verdict ∷ []) ≡ verdict_lines slot verdicts ++ verdict_line (slot + length verdicts) verdict
lines-snoc slot [] verdict = append-nil (verdict_line slot verdict) ∙ ap (λ n. verdict_line n verdict) (omega arith)
lines-snoc slot (first ∷ verdicts) verdict =
    ap (λ (text : List ℕ). verdict_line slot first ++ text) (lines-snoc (slot + 1) verdicts verdict)
    ∙ sym (append_assoc (verdict_line slot first) (verdict_lines (slot + 1) verdicts) (verdict_line (slot + 1 + length verdicts) verdict))
    ∙ ap (λ n. (verdict_line slot first ++ verdict_lines (slot + 1) verdicts) ++ verdict_line n verdict) (omega arith)

pub text-snoc : (settings : Settings) (slot : ℕ) (verdicts : List Verdict) (verdict : Verdict) → length verdicts ≡ slot
    → check_text settings (verdicts ++ verdict ∷ []) ≡ check_text settings verdicts ++ verdict_line slot verdict
text-snoc settings slot verdicts verdict long =
    ap (λ (text : List ℕ). (header_line settings) ++ text) (lines-snoc 0 verdicts verdict)
    ∙ sym (append_assoc (header_line settings) (verdict_lines 0 verdicts) (verdict_line (0 + length verdicts) verdict))
    ∙ ap (λ n. check_text settings verdicts ++ verdict_line n verdict) (omega (arith, long))

pub damage-snoc : (damaged : Bool) (verdicts : List Verdict) (verdict : Verdict) → damaged ≡ list_any is_damaged verdicts
    → (damaged || is_damaged verdict) ≡ list_any is_damaged (verdicts ++ verdict ∷ [])
damage-snoc damaged verdicts verdict is =
    sym (list_any-append is_damaged verdicts (verdict ∷ []) ∙ ap (λ b. list_any is_damaged verdicts || b) (or_false (is_damaged verdict)) ∙ ap (λ b. b || is_damaged verdict) (sym is))
  where
    or_false : (b : Bool) → (b || false) ≡ b
    or_false true = refl
    or_false false = refl

-- the verdict by the superblock of a replica
pub verdict_by : (settings : Settings) (slot : ℕ) (contents : Contents) (sup : Super) → (slot ≡ 0 → ⊥)
    → ((v j : ℕ) → j < settings.replicas → slot ≡ slot_of settings v j → sup ≡ super_of settings v j)
    → (r : Result Verdict CheckFault) → IfOk r (CheckOf sup contents) → IfOk r (IsVerdictOn settings slot contents)
verdict_by settings slot contents sup behind is (Err fault) checked = tt
verdict_by settings slot contents sup behind is (Ok verdict) checked = record {
  journal = λ first. absurd (behind first);
  replica = λ v j below within here. subst (λ s. CheckOf s contents verdict) (is v j within here) checked;
}

-- and by its kind
pub first_kind : (slot : ℕ) (r : Result Verdict CheckFault) → slot ≡ 0 → IfOk r IsJournalVerdict → IfOk r (IsVerdictIn slot)
first_kind slot (Err fault) first kind = tt
first_kind slot (Ok verdict) first kind = record { journal = λ _. kind; replica = λ behind. absurd (omega (arith, first, behind)) }

pub other_kind : (slot : ℕ) (r : Result Verdict CheckFault) → (slot ≡ 0 → ⊥) → IfOk r IsReplicaVerdict → IfOk r (IsVerdictIn slot)
other_kind slot (Err fault) behind kind = tt
other_kind slot (Ok verdict) behind kind = record { journal = λ first. absurd (behind first); replica = λ _. kind }

-- WHAT IS LEFT

unchanged_same : (Tells : Type 0) (old new : HeldDisk) → new ≡ old → IsUnchanged Tells old new
unchanged_same Tells old new same = record {
  now = λ tells n. ap (λ (held : HeldDisk). (held.files n).now) same;
  left = λ tells. inl (ap (λ (held : HeldDisk). held.files) same);
  faults = let count = ap (λ (held : HeldDisk). held.fault_count) same in omega (arith, count);
  fuses = ap (λ (held : HeldDisk). held.fuse_count) same;
  back = ap (λ (held : HeldDisk). held.is_out) same;
}

-- the disks in the slots below one were checked, then the one in it, and the others are as they were
pub unchanged_all : (Tells : Type 0) (at : ℕ) (old mid new : ℕ → HeldDisk) → ((slot : ℕ) → slot < at → IsUnchanged Tells (old slot) (mid slot))
    → SameFrom at old mid → KeepsOthers at mid new → IsUnchanged Tells (mid at) (new at) → (slot : ℕ) → IsUnchanged Tells (old slot) (new slot)
unchanged_all Tells at old mid new below rest others one slot = elim (cases_lt slot at) [
  | inl less ↦ subst (λ held. IsUnchanged Tells (old slot) held) (sym (others slot (λ is. absurd (omega arith)))) (below slot less)
  | inr more ↦ elim (cases_lt at slot) [
    | inl above ↦ unchanged_same Tells (old slot) (new slot) (others slot (λ is. absurd (omega arith)) ∙ rest slot more)
    | inr equal ↦
        let here : at ≡ slot = omega arith in
        let at_it : IsUnchanged Tells (old at) (new at) = subst (λ held. IsUnchanged Tells held (new at)) (rest at (omega arith)) one in
        subst (λ k. IsUnchanged Tells (old k) (new k)) here at_it
  ]
]

-- HOW A CHECK ENDS

module _ (Tells : Type 0) (settings : Settings) (taken given : Outside) (before after : Option (List ℕ)) where
  abbrev Ends : Result Bool Stop → Type 0
  Ends result = ChecksTo Tells settings (check_status result) taken given before after

  pub ends_all : (verdicts : List Verdict) → AreVerdicts Tells settings (read_contents taken) verdicts → length verdicts ≡ disk_count settings
      → (damaged : Bool) → damaged ≡ list_any is_damaged verdicts → Wrote before (check_text settings verdicts) after → Ends (Ok damaged)
  ends_all verdicts are long false is wrote = record { verdicts = verdicts; are = are; ends = inl (long, inl (refl, sym is), wrote) }
  ends_all verdicts are long true is wrote = record { verdicts = verdicts; are = are; ends = inl (long, inr (refl, sym is), wrote) }

  cut_short : (verdicts : List Verdict) → AreVerdicts Tells settings (read_contents taken) verdicts → CutsShort settings taken given verdicts before after
      → (why : Stop) → (why ≡ stop.Output) ⊎ (why ≡ stop.NoMemory) → Ends (Err why)
  cut_short verdicts are cut why (inl is) =
      subst (λ w. Ends (Err w)) (sym is) (record { verdicts = verdicts; are = are; ends = inr (inr (inl refl, cut)) })
  cut_short verdicts are cut why (inr is) =
      subst (λ w. Ends (Err w)) (sym is) (record { verdicts = verdicts; are = are; ends = inr (inr (inr refl, cut)) })

  -- a line of the text was not written whole
  pub ends_cut : (verdicts : List Verdict) → AreVerdicts Tells settings (read_contents taken) verdicts → WrotePart before (check_text settings verdicts) after
      → (why : Stop) → (why ≡ stop.Output) ⊎ (why ≡ stop.NoMemory) → (r : Result Bool Stop) → Err why ≡ r → Ends r
  ends_cut verdicts are part why stops r is = subst Ends is (cut_short verdicts are (inl part) why stops)

  -- the note of the fault for which the disk in a slot was not checked
  abbrev Breaks : ℕ → ClusterFault → Type 0
  Breaks slot fault = (note_of fault ≡ None) ⊎ ((note : Note) × (note_of fault ≡ Some note) × IsBreak settings taken given slot note)

  pub breaks : (slot shelf disk : ℕ) (fault : ClusterFault) → slot < disk_count settings → taken.shelf ≤ shelf → taken.faults slot ≡ disk
      → ((note : Note) → note_of fault ≡ Some note → FitsNote note) → IsFaultAt slot shelf given.shelf disk (given.faults slot) fault → Breaks slot fault
  breaks slot shelf disk (refusal.Shelf faults) within later same fits why =
      inr (OpenShelf faults, refl, (fits (OpenShelf faults) refl, within, inl (faults, refl, rose_since taken.shelf shelf given.shelf later why.0, why.1)))
  breaks slot shelf disk (refusal.Failed faulty faults) within later same fits why =
      let rose : Rose (taken.faults slot) (given.faults slot) = rw same why.1 in
      inr (OpenFailed faulty faults, refl, (fits (OpenFailed faulty faults) refl, within, inr (faults, ap (λ s. OpenFailed s faults) why.0, within, rose, why.2)))
  breaks slot shelf disk (refusal.Damaged faulty file at) within later same fits why = absurd why
  breaks slot shelf disk refusal.NoMemory within later same fits why = inl refl

  -- the disk behind those that were checked was not
  pub ends_refused : (verdicts : List Verdict) → AreVerdicts Tells settings (read_contents taken) verdicts → (slot : ℕ) → length verdicts ≡ slot → (mid : Option (List ℕ))
      → Wrote before (check_text settings verdicts) mid
      → (fault : ClusterFault) → Breaks slot fault → (why : Stop)
      → (why ≡ stop.Store → (note : Note) × (note_of fault ≡ Some note) × Wrote mid (note_line note) after)
      → ((note : Note) → note_of fault ≡ Some note → (why ≡ stop.Store) ⊎ WrotePart mid (note_line note) after)
      → (note_of fault ≡ None → (why ≡ stop.NoMemory) × (after ≡ mid))
      → (why ≡ stop.Output) ⊎ (why ≡ stop.NoMemory) ⊎ (why ≡ stop.Store) → Ends (Err why)
  ends_refused verdicts are slot count mid wrote fault (inl none) why told part wanting stops =
      let w = wanting none in
      let P : Option (List ℕ) → Type 0 = λ written. WrotePart before (check_text settings verdicts) written in
      cut_short verdicts are (inl (subst P (sym w.1) (wrote_part before mid (check_text settings verdicts) wrote))) why (inr w.0)
  ends_refused verdicts are slot count mid wrote fault (inr (note, is, break)) why told part wanting stops = by (part note is) stops
    where
      text : List ℕ
      text = check_text settings verdicts

      here_of : IsBreak settings taken given (length verdicts) note
      here_of = subst (λ k. IsBreak settings taken given k note) (sym count) break

      whole : why ≡ stop.Store → Ends (Err why)
      whole store =
          let t = told store in
          let same : note ≡ t.0 = (let p : Some note ≡ Some t.0 = sym is ∙ t.1 in cc) in
          let P : Note → Type 0 = λ n. IsBreak settings taken given (length verdicts) n in
          subst (λ w. Ends (Err w)) (sym store) (record {
            verdicts = verdicts;
            are = are;
            ends = inr (inl (refl, (t.0, subst P same here_of, wrote_more before mid after text (note_line t.0) wrote t.2)));
          })

      cut : WrotePart mid (note_line note) after → CutsShort settings taken given verdicts before after
      cut rest = inr (note, here_of, part_more before mid after text (note_line note) wrote rest)

      by : (why ≡ stop.Store) ⊎ WrotePart mid (note_line note) after → (why ≡ stop.Output) ⊎ (why ≡ stop.NoMemory) ⊎ (why ≡ stop.Store) → Ends (Err why)
      by (inl store) others = whole store
      by (inr rest) (inl output) = cut_short verdicts are (cut rest) why (inl output)
      by (inr rest) (inr (inl memory)) = cut_short verdicts are (cut rest) why (inr memory)
      by (inr rest) (inr (inr store)) = whole store

-- AT EACH STATUS

-- nothing was checked for want of memory
pub check_nothing : (Tells : Type 0) (settings : Settings) (status : ℕ) (outside : Outside) (written : Option (List ℕ)) → status ≡ 5
    → ChecksTo Tells settings status outside outside written written
check_nothing Tells settings status outside written is = record {
  verdicts = [];
  are = record { few = omega arith; kinds = tt; each = λ tells. tt };
  ends = inr (inr (inr is, inl (0, wrote_nothing written)));
}

-- which statuses there are
pub check_statuses : (Tells : Type 0) (settings : Settings) (status : ℕ) (taken given : Outside) (before after : Option (List ℕ)) → ChecksTo Tells settings status taken given before after
    → {W X : Type 0} → W → (status ≡ 2) ⊎ ((ending : Ending) × (status ≡ status_of ending)) ⊎ ((status ≡ 8) × W) ⊎ X
check_statuses Tells settings status taken given before after ends w = elim ends.ends [
  | inl all ↦ elim all.1 [
    | inl sound ↦ inr (inl (ReadAll, sound.0))
    | inr damaged ↦ inr (inr (inl (damaged.0, w)))
  ]
  | inr (inl broken) ↦ inr (inl (NotOpened, broken.0))
  | inr (inr cut) ↦ elim cut.0 [
    | inl output ↦ inr (inl (OutputFault, output))
    | inr memory ↦ inr (inl (NoMemory, memory))
  ]
]
