-- The transcript of a run whose store was not opened ends with the line that tells why, whatever the disks tell.
use Rattle.std.specs.Prelude.{flat_map, Bool}
use Rattle.std.proofs.Common.{◌≡◌, ◌⊎◌, inl, inr, ℕ, List, [], ◌∷◌, ◌++◌, map, Option, Some, sym, ap, subst, ◌∙◌, append_assoc, append-nil}
use Rattle.std.proofs.lemmas.Grind.{flat_map-append}
use Rattle.hay_disk.specs.Shelf.{HeldDisk}
use Rattle.hay_disk.specs.Streams.{Wrote, WrotePart}
use Rattle.hay_needle.specs.declared.settings.Settings.{Settings}
use Rattle.hay_reply.specs.declared.Note.{Note}
use Rattle.hay_reply.specs.declared.Reply.{Reply}
use Rattle.hay_reply.specs.declared.Reply.TheVariants.{BadLine, Restarted}
use Rattle.hay_reply.specs.Replies.{header_line, note_line, note_text, numbered_line}
use Rattle.hay_legal.specs.declared.turn.Item.TheVariants as item
use Rattle.hay_legal.specs.declared.turn.LaneItem.{LaneItem}
use Rattle.hay_legal.specs.declared.turn.Turn.{Turn}
use Rattle.hay_legal.specs.Items.{Asked}
use Rattle.hay_legal.specs.Items.Asked.{Alone, Block}
use Rattle.hay_legal.specs.Stands.{Outside}
use Rattle.hay_legal.specs.Statuses.Ending.{NotOpened}
use Rattle.hay_legal.specs.Transcript.{answered_line, transcript_text}
use Rattle.hay_drill.specs.Script.{drill_script, settings}
use Rattle.hay_run.specs.declared.stops.Stop.{Stop}
use Rattle.hay_run.specs.declared.stops.Stop.TheVariants as stop
use Rattle.hay_run.specs.Causing.{AnswerTexts, CausedRun, IsTextOf, Tally}
use Rattle.hay_run.specs.Drills.{RefusedRun}
use Rattle.hay_run.specs.Stops.{ending_of}
use Rattle.hay_run.specs.Told.{IsOneLine, Told, told_line}
use Rattle.hay_run.specs.Told.Told.{Noted, Replied}
use Rattle.hay_run.proofs.Drilled.{header_ends, header_text, items_text, notes_text, told_item, told_of, told_turns}
use Rattle.hay_run.proofs.Drilling.{IsLines, any_note, told_ends, told_text}

-- A TRANSCRIPT ENDS WITH A LINE FEED

lines_behind : (front : List ℕ) → IsLines front → (told : List Told) → IsLines (front ++ flat_map told_line told)
lines_behind front lines [] = subst IsLines (sym (append-nil front)) lines
lines_behind front lines (t ∷ told) =
    let ends : front ++ told_line t ≡ (front ++ told_text t) ++ 10 ∷ [] = ap (λ (l : List ℕ). front ++ l) (told_ends t) ∙ sym (append_assoc front (told_text t) (10 ∷ [])) in
    subst IsLines (append_assoc front (told_line t) (flat_map told_line told)) (lines_behind (front ++ told_line t) (inr (front ++ told_text t, ends)) told)

header_lines : (store : Settings) → IsLines (header_line store)
header_lines store = inr (header_text store, sym (append-nil (header_line store)) ∙ header_ends store [])

pub transcript_lines : (store : Settings) (turns : List Turn) → IsLines (transcript_text store turns)
transcript_lines store turns =
    let same : transcript_text store turns ≡ header_line store ++ flat_map told_line (flat_map told_of turns) = ap (λ (l : List ℕ). header_line store ++ l) (told_turns turns) in
    subst IsLines (sym same) (lines_behind (header_line store) (header_lines store) (flat_map told_of turns))

-- SO DOES EACH TEXT WITH ITS CAUSES

-- lines, one after another
abbrev HasLines : List ℕ → Type 0
HasLines text = (told : List Told) × (text ≡ flat_map told_line told)

both_lines : (a b : List ℕ) → HasLines a → HasLines b → HasLines (a ++ b)
both_lines a b x y =
    (x.0 ++ y.0, ap (λ (t : List ℕ). t ++ b) x.1 ∙ ap (λ (t : List ℕ). flat_map told_line x.0 ++ t) y.1 ∙ sym (flat_map-append told_line x.0 y.0))

one_line : (number : ℕ) (r : Reply) → HasLines (numbered_line number r)
one_line number r = (Replied number r ∷ [], sym (append-nil (told_line (Replied number r))))

note_lines : (notes : List Note) → HasLines (flat_map note_line notes)
note_lines notes = (map (λ n. Noted n) notes, notes_text notes)

item_lines : (items : List LaneItem) → HasLines (flat_map answered_line items)
item_lines items = (map told_item items, items_text items)

module _ (Tells : Type 0) (store : Settings) where
  text_lines : (before after : Tally) (asked : Asked) (text : List ℕ) → IsTextOf Tells store before after asked text → HasLines text
  text_lines before after (Alone number (item.Command c)) text (fuses, inl r) =
      subst HasLines (sym r.10) (both_lines (numbered_line number (Restarted r.1)) (flat_map note_line r.2) (one_line number (Restarted r.1)) (note_lines r.2))
  text_lines before after (Alone number (item.Command c)) text (fuses, inr r) = subst HasLines (sym r.is) (one_line number r.said)
  text_lines before after (Alone number item.Bad) text h = subst HasLines (sym h.1) (one_line number BadLine)
  text_lines before after (Block lines) text (fuses, bad, r) =
      subst HasLines (sym r.is) (both_lines (flat_map answered_line r.items) (flat_map note_line r.notes) (item_lines r.items) (note_lines r.notes))

  all_lines : (before after : Tally) (asked : List Asked) (text : List ℕ) → AnswerTexts Tells store before after asked text → HasLines text
  all_lines before after [] text h = ([], h.0)
  all_lines before after (a ∷ others) text h =
      subst HasLines (sym h.3) (both_lines h.1 h.2 (text_lines before h.0 a h.1 h.5) (all_lines h.0 after others h.2 h.6))

-- THE LAST LINE

-- a note's line stands behind lines
abbrev pub EndsWithNote : List ℕ → Type 0
EndsWithNote text = (note : Note) × (front : List ℕ) × IsLines front × (text ≡ front ++ note_line note)

module _ (Tells : Type 0) (store : Settings) (script : List ℕ) (left : Option (List ℕ)) (taken given : Outside) (sure : ℕ → Bool) (disks disks' : ℕ → HeldDisk) (held : List ℕ)
    (written : Option (List ℕ)) where
  ends_with_note : (run : CausedRun Tells store NotOpened script left taken given sure disks disks' held written) → EndsWithNote run.text
  ends_with_note run =
      (elim run.causes [
        | inl o ↦ (let b = o.behind.1 in let lines : HasLines o.answered = all_lines Tells store o.old o.mid o.whole o.answered o.answers in (
          b.0,
          header_line store ++ o.answered,
          subst (λ (t : List ℕ). IsLines (header_line store ++ t)) (sym lines.1) (lines_behind (header_line store) (header_lines store) lines.0),
          o.text_is ∙ ap (λ (t : List ℕ). header_line store ++ o.answered ++ t) b.3,
        ))
        | inr u ↦ (u.told.0, header_line store, header_lines store, u.told.3)
      ])

-- what the attempt to write the last line of a transcript came to
abbrev pub TriedLast : List ℕ → Option (List ℕ) → Option (List ℕ) → Stop → Type 0
TriedLast transcript written before why = (front line : List ℕ) → IsOneLine line → transcript ≡ front ++ line ++ 10 ∷ [] → IsLines front
    → ((why ≡ stop.Store) × Wrote before (line ++ 10 ∷ []) written) ⊎ ((why ≡ stop.Output) × WrotePart before (line ++ 10 ∷ []) written)

only_store : (one other : Stop) → one ≡ stop.Store → one ≡ stop.Output → ⊥
only_store one other a b = cc

module _ (Tells : Type 0) (count first : ℕ) (left : Option (List ℕ)) (taken given : Outside) (sure : ℕ → Bool) (disks disks' : ℕ → HeldDisk) (transcript : List ℕ)
    (before written : Option (List ℕ)) where
  abbrev pub CausedBy : Stop → Type 0
  CausedBy why = CausedRun Tells settings (ending_of why) (drill_script count first) left taken given sure disks disks' [] (Some transcript)

  store_refused : (result : Stop) → CausedBy stop.Store → TriedLast transcript written before result → result ≡ stop.Store
      → RefusedRun Tells count first taken given sure disks disks' before written
  store_refused result caused tells is =
      let last = ends_with_note Tells settings (drill_script count first) left taken given sure disks disks' [] (Some transcript) caused in
      let text_is : Some transcript ≡ Some caused.text = caused.wrote in
      let same : transcript ≡ caused.text = cc in
      let note : Note = last.0 in
      let front : List ℕ = last.1 in
      let ends : note_line note ≡ note_text note ++ 10 ∷ [] = told_ends (Noted note) in
      let whole : transcript ≡ front ++ note_line note = same ∙ last.3 in
      let cut : transcript ≡ front ++ note_text note ++ 10 ∷ [] = whole ∙ ap (λ (l : List ℕ). front ++ l) ends ∙ sym (append_assoc front (note_text note) (10 ∷ [])) in
      record {
        transcript = transcript;
        left = left;
        caused = caused;
        note = note;
        front = front;
        last = whole;
        told = λ held was.
            (elim (tells front (note_text note) (any_note note) cut last.2) [
              | inl all ↦ (let P : Option (List ℕ) → Type 0 = λ b. Wrote b (note_text note ++ 10 ∷ []) written in
                  subst P was all.1 ∙ ap (λ (l : List ℕ). Some (held ++ l)) (sym ends))
              | inr part ↦ absurd (only_store result result is part.0)
            ]);
      }

  no_memory : (why : Stop) → why ≡ stop.NoMemory → why ≡ stop.Store → ⊥
  no_memory why a b = cc

  -- a drill whose store was not opened
  pub refused_run : (why result : Stop) → CausedBy why
      → ((why ≡ stop.Store) × TriedLast transcript written before result) ⊎ ((result ≡ stop.NoMemory) × (written ≡ before) × (why ≡ stop.Store → ⊥))
      → result ≡ stop.Store → RefusedRun Tells count first taken given sure disks disks' before written
  refused_run why result caused (inl told) is = store_refused result (subst CausedBy told.0 caused) told.1 is
  refused_run why result caused (inr told) is = absurd (no_memory result told.0 is)

-- a run over a source and a sink in memory
pub held_causes : (Tells : Type 0) (count first : ℕ) (left : Option (List ℕ)) (taken given : Outside) (sure : ℕ → Bool) (disks disks' : ℕ → HeldDisk) (transcript : List ℕ)
    (why : Stop) (store : Settings)
    (script : List ℕ) (written : Option (List ℕ)) → store ≡ settings → script ≡ drill_script count first → written ≡ Some transcript
    → CausedRun Tells store (ending_of why) script left taken given sure disks disks' [] written
    → CausedRun Tells settings (ending_of why) (drill_script count first) left taken given sure disks disks' [] (Some transcript)
held_causes Tells count first left taken given sure disks disks' transcript why store script written is_store is_script is_written run =
    let a : CausedRun Tells settings (ending_of why) script left taken given sure disks disks' [] written =
    subst (λ (s : Settings). CausedRun Tells s (ending_of why) script left taken given sure disks disks' [] written) is_store run in
    let b : CausedRun Tells settings (ending_of why) (drill_script count first) left taken given sure disks disks' [] written =
    subst (λ (l : List ℕ). CausedRun Tells settings (ending_of why) l left taken given sure disks disks' [] written) is_script a in
    subst (λ (w : Option (List ℕ)). CausedRun Tells settings (ending_of why) (drill_script count first) left taken given sure disks disks' [] w) is_written b
