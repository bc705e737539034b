-- From texts that have their causes to a whole run.
use Rattle.std.proofs.Common.{◌≡◌, ◌≢◌, ◌⊎◌, inl, inr, ℕ, ◌+◌, ◌<◌, ◌≤◌, false, List, [], ◌∷◌, ◌++◌, length, take, Option, Some, None, refl, sym, ap, subst, ◌∙◌, append_assoc}
use Rattle.std.proofs.Common.{length-append, arith, lit≤}
use Rattle.std.specs.Prelude.{Bool, Result, Ok, Err, OnOk}
use Rattle.std.proofs.lemmas.List.{append-nil}
use Rattle.hay_disk.specs.Streams.{Wrote, WrotePart}
use Rattle.hay_needle.specs.declared.settings.Settings.{Settings}
use Rattle.hay_reply.specs.declared.Note.{Note}
use Rattle.hay_reply.specs.Fits.{FitsNote}
use Rattle.hay_reply.specs.declared.Note.TheVariants.{OpenShelf, OpenFailed, OpenDamaged}
use Rattle.hay_reply.specs.declared.Reply.TheVariants.{NoMem}
use Rattle.hay_reply.specs.Replies.{header_line, note_line, numbered_line}
use Rattle.hay_script.specs.declared.words.TheConstants.{MAX_SCRIPT}
use Rattle.hay_legal.specs.Items.{Asked, items_of}
use Rattle.hay_legal.specs.Known.{disk_count}
use Rattle.hay_legal.specs.Stands.{Outside}
use Rattle.hay_legal.specs.Statuses.{Ending, IsFront, read_contents}
use Rattle.hay_disk.specs.Shelf.{HeldDisk}
use Rattle.hay_cluster.specs.Outside.{IsKept, IsUndamaged}
use Rattle.hay_legal.specs.Statuses.Ending.{ReadAll, OutputFault, NoMemory, NotOpened}
use Rattle.hay_cluster.specs.declared.fault.ClusterFault.{ClusterFault}
use Rattle.hay_cluster.specs.declared.fault.ClusterFault.TheVariants as refusal
use Rattle.hay_run.specs.declared.stops.Stop.{Stop}
use Rattle.hay_run.specs.declared.stops.Stop.TheVariants as stop
use Rattle.hay_run.specs.Causing.{Tally, Caused, ToldRefusal, ToldWanting, IsUnopenedFront, StopCaused, TookLastItem, StopTook, AllCaused, CausedUntil, AsksBy, IsPartBehind}
use Rattle.hay_run.specs.Causing.{StandsBehind, BeginsAt, EndsAt, CausedRun, ending_in}
use Rattle.hay_run.specs.Items.{TookItems}
use Rattle.hay_run.specs.Runs.{IsFirstRefusal, ReadBytes}
use Rattle.hay_run.specs.Stops.{ending_of, note_of}
use Rattle.hay_lines.specs.Stream.{Held, rest_of}
use Rattle.hay_run.specs.Turns.{HoldsNone}
use Rattle.hay_run.proofs.Asking.{took_items_more}
use Rattle.hay_run.proofs.Ran.{front_take, front_behind}
use Rattle.hay_run.proofs.Reading.{ReadsFront, rest_none, breaks_off, over_part, front_some, front_read}

-- what holds of each outcome holds of this one
pub by_outcome : (P : Ending → Type 0) (r : Result (Unit {0}) Stop) → OnOk r (P ReadAll) → ((why : Stop) → r ≡ Err why → P (ending_of why)) → P (ending_in r)
by_outcome P (Ok done) all stops = all
by_outcome P (Err why) all stops = stops why refl

-- WHAT WAS READ

pub record RunRead (ending : Ending) (script : List ℕ) (left : Option (List ℕ)) (whole last : List Asked) : Type 0 where
  pub read : List ℕ
  pub bytes : ReadBytes ending script read left
  pub asks : AsksBy ending script read whole last

module _ (Tells : Type 0) where
  module _ (script : List ℕ) (asked : List Asked) (number : ℕ) (rest left : Option (List ℕ)) (held : Held) (took : TookItems 1 None (Some script) asked number rest false) where
    last_front : (last : List Asked) → TookLastItem number last rest (rest_of left held) → ReadsFront script (asked ++ last) left
    last_front last (one, (next, ended, t)) = front_read script (asked ++ last) next left held ended (took_items_more 1 number next (Some script) rest (rest_of left held) asked last ended took t)

    memory_read : (last : List Asked) → StopTook stop.NoMemory number last rest (rest_of left held) → RunRead NoMemory script left asked last
    memory_read last (inl t) = let r = last_front last t in record { read = r.read; bytes = (r.rest, r.script_is, r.left_is); asks = (t.0, r.front, r.whole) }
    memory_read last (inr t) =
        let r = front_some script asked number rest left held took t.1 in
        let P : List Asked → Type 0 = λ l. (length l ≤ 1) × IsFront (asked ++ l) (items_of r.read) × IsFront (asked ++ l) (items_of script) in
        let none : P [] = (
          lit≤ tt,
          subst (λ (l : List Asked). IsFront l (items_of r.read)) (sym (append-nil asked)) r.front,
          subst (λ (l : List Asked). IsFront l (items_of script)) (sym (append-nil asked)) r.whole,
        ) in
        record { read = r.read; bytes = (r.rest, r.script_is, r.left_is); asks = subst P (sym t.0) none }

    pub stop_read : (why : Stop) (settings : Settings) (before after : Tally) (last : List Asked) (written written' : Option (List ℕ)) → HoldsNone why held
        → (why ≡ stop.TooLong → (end : List ℕ) → left ≡ Some end → length script ≡ MAX_SCRIPT + 1 + length end)
        → StopTook why number last rest (rest_of left held) → StopCaused Tells settings before after why last written written' → RunRead (ending_of why) script left asked last
    stop_read stop.Input settings before after last written written' none full t caused =
        let off = breaks_off script asked number rest (rest_of left held) took t in
        record { read = off.read; bytes = (off.rest, off.script_is, sym (rest_none left held none) ∙ off.after_is); asks = (off.items, caused.0) }
    stop_read stop.TooLong settings before after last written written' none full t caused =
        let over = over_part script asked number rest (rest_of left held) took t in
        let left_is = sym (rest_none left held none) ∙ over.after_is in
        record {
          read = over.read;
          bytes = (
            omega (arith, full refl over.rest left_is, ap length over.script_is, length-append over.read (over.byte ∷ over.rest)),
            (over.byte, over.rest, over.script_is, left_is),
          );
          asks = (over.items, caused.0);
        }
    stop_read stop.Output settings before after last written written' none full t caused =
        let r = last_front last t in record { read = r.read; bytes = (r.rest, r.script_is, r.left_is); asks = (t.0, r.front, r.whole) }
    stop_read stop.NoMemory settings before after last written written' none full t caused = memory_read last t
    stop_read stop.Store settings before after last written written' none full t caused =
        let r = last_front last t in record { read = r.read; bytes = (r.rest, r.script_is, r.left_is); asks = (caused.0.restart, r.front, r.whole) }

  -- WHAT WAS WRITTEN

  abbrev PartOf : Ending → Settings → Tally → Tally → List Asked → List ℕ → Option (List ℕ) → Type 0
  PartOf ending settings before after last base written' = (part : List ℕ) × (written' ≡ Some (base ++ part)) × StandsBehind Tells ending settings before after last part

  part_of : (settings : Settings) (before after : Tally) (last : List Asked) (base : List ℕ) (written' : Option (List ℕ))
      → Caused Tells WrotePart settings before after last (Some base) written' ⊎ ToldWanting before after last (Some base) written'
      ⊎ ToldRefusal Tells WrotePart settings before after last (Some base) written'
      → (part : List ℕ) × (written' ≡ Some (base ++ part)) × IsPartBehind Tells settings before after last part
  part_of settings before after last base written' (inl c) =
      let n = c.wrote.0 in (take n c.text, c.wrote.1, inl (c.text, c.answers, front_take n c.text))
  part_of settings before after last base written' (inr (inl (not, (n, wrote)))) =
      let line = numbered_line not.restart.0 NoMem in (take n line, wrote, inr (inl (not, front_take n line)))
  part_of settings before after last base written' (inr (inr (not, (note, fits, cause, (n, wrote))))) =
      (take n (note_line note), wrote, inr (inr (not, (note, fits, cause, front_take n (note_line note)))))

  pub stop_part : (why : Stop) (settings : Settings) (before after : Tally) (last : List Asked) (base : List ℕ) (written' : Option (List ℕ))
      → StopCaused Tells settings before after why last (Some base) written' → PartOf (ending_of why) settings before after last base written'
  stop_part stop.Input settings before after last base written' (none, same, wrote) = ([], wrote ∙ ap (λ (l : List ℕ). Some l) (sym (append-nil base)), (refl, same))
  stop_part stop.TooLong settings before after last base written' (none, same, wrote) = ([], wrote ∙ ap (λ (l : List ℕ). Some l) (sym (append-nil base)), (refl, same))
  stop_part stop.Output settings before after last base written' c = part_of settings before after last base written' c
  stop_part stop.NoMemory settings before after last base written' c = part_of settings before after last base written' c
  stop_part stop.Store settings before after last base written' (not, (note, fits, cause, wrote)) = (note_line note, wrote, (not, (note, fits, cause, refl)))

  -- what stands behind the header
  behind_held : (held header text part : List ℕ) → ((held ++ header) ++ text) ++ part ≡ held ++ ((header ++ text) ++ part)
  behind_held held header text part = simp append_assoc

  module _ (settings : Settings) (script : List ℕ) (left : Option (List ℕ)) (taken given : Outside) (sure : ℕ → Bool) (disks disks' : ℕ → HeldDisk) (held : List ℕ) (written' : Option (List ℕ)) where
    module _ (old new : Tally) (begins : BeginsAt Tells settings taken sure old) (ends : EndsAt Tells settings new given) (sound : Tells → IsUndamaged settings (read_contents taken)) where
      pub all_caused : AllCaused Tells settings old new (Some script) (Some (held ++ header_line settings)) written' → left ≡ Some []
          → CausedRun Tells settings ReadAll script left taken given sure disks disks' held written'
      all_caused a over = record {
        read = script;
        bytes = (refl, over);
        text = header_line settings ++ a.caused.text ++ [];
        wrote = a.caused.wrote ∙ ap (λ (l : List ℕ). Some l) (sym (append-nil ((held ++ header_line settings) ++ a.caused.text)) ∙ behind_held held (header_line settings) a.caused.text []);
        causes = inl (record {
          whole = a.asked;
          last = [];
          asks = (a.all, refl);
          old = old;
          mid = new;
          new = new;
          sound = sound;
          begins = begins;
          ends = ends;
          answered = a.caused.text;
          answers = a.caused.answers;
          part = [];
          behind = (refl, refl);
          text_is = refl;
        });
      }

      pub until_caused : (why : Stop) → (why ≡ stop.TooLong → (end : List ℕ) → left ≡ Some end → length script ≡ MAX_SCRIPT + 1 + length end)
          → CausedUntil Tells settings old new why (Some script) (Some (held ++ header_line settings)) left written'
          → CausedRun Tells settings (ending_of why) script left taken given sure disks disks' held written'
      until_caused why full u =
          let t = u.stops in
          let base = (held ++ header_line settings) ++ u.caused.text in
          let r = stop_read script u.asked u.number u.rest left u.held u.took why settings u.mid new t.asked u.text written' u.none full t.took t.caused in
          let P : Option (List ℕ) → Type 0 = λ w. StopCaused Tells settings u.mid new why t.asked w written' in
          let p = stop_part why settings u.mid new t.asked base written' (subst P u.caused.wrote t.caused) in
          record {
            read = r.read;
            bytes = r.bytes;
            text = header_line settings ++ u.caused.text ++ p.0;
            wrote = p.1 ∙ ap (λ (l : List ℕ). Some l) (behind_held held (header_line settings) u.caused.text p.0);
            causes = inl (record {
              whole = u.asked;
              last = t.asked;
              asks = r.asks;
              old = old;
              mid = u.mid;
              new = new;
              sound = sound;
              begins = begins;
              ends = ends;
              answered = u.caused.text;
              answers = u.caused.answers;
              part = p.0;
              behind = p.2;
              text_is = refl;
            });
          }

    -- RUNS THAT OPENED NO STORE

    module _ (kept : Tells → (slot : ℕ) → slot < disk_count settings → IsKept slot (disks slot) (disks' slot)) (arms : (lane : ℕ) → lane < 8 → given.arms lane ≡ taken.arms lane)
        (fuses : (slot : ℕ) → slot < disk_count settings → given.fuses slot ≡ taken.fuses slot) where
      abbrev Behind : List ℕ → Type 0
      Behind text = (written' ≡ Some (held ++ text)) × IsUnopenedFront Tells settings taken given text

      output_front : (text : List ℕ) → Behind text → left ≡ Some script → CausedRun Tells settings OutputFault script left taken given sure disks disks' held written'
      output_front text (wrote, front) told = record {
        read = [];
        bytes = (script, refl, told);
        text = text;
        wrote = wrote;
        causes = inr (record { unread = refl; kept = kept; arms = arms; fuses = fuses; told = front });
      }

      memory_front : (text : List ℕ) → Behind text → left ≡ Some script → CausedRun Tells settings NoMemory script left taken given sure disks disks' held written'
      memory_front text (wrote, front) told = record {
        read = [];
        bytes = (script, refl, told);
        text = text;
        wrote = wrote;
        causes = inr (record { unread = refl; kept = kept; arms = arms; fuses = fuses; told = front });
      }

      store_told : (note : Note) → FitsNote note → IsFirstRefusal Tells settings taken given note → Wrote (Some (held ++ header_line settings)) (note_line note) written'
          → left ≡ Some script → CausedRun Tells settings NotOpened script left taken given sure disks disks' held written'
      store_told note fits why wrote told = record {
        read = [];
        bytes = (script, refl, told);
        text = header_line settings ++ note_line note;
        wrote = wrote ∙ ap (λ (l : List ℕ). Some l) (append_assoc held (header_line settings) (note_line note));
        causes = inr (record { unread = refl; kept = kept; arms = arms; fuses = fuses; told = (note, fits, why, refl) });
      }

      -- nothing was written
      pub nothing_caused : written' ≡ Some held → left ≡ Some script → CausedRun Tells settings NoMemory script left taken given sure disks disks' held written'
      nothing_caused wrote told =
          memory_front [] (wrote ∙ ap (λ (l : List ℕ). Some l) (sym (append-nil held)), inl (header_line settings, refl)) told

      -- the header was not written, or only a front of it
      header_part : WrotePart (Some held) (header_line settings) written' → (text : List ℕ) × Behind text
      header_part (n, wrote) = (take n (header_line settings), (wrote, inl (front_take n (header_line settings))))

      pub header_caused : (r : Result (Unit {0}) Stop) → (r ≡ Err stop.Output) ⊎ (r ≡ Err stop.NoMemory) → WrotePart (Some held) (header_line settings) written' → left ≡ Some script
          → CausedRun Tells settings (ending_in r) script left taken given sure disks disks' held written'
      header_caused r (inl e) wrote told =
          let part =
          header_part wrote in subst (λ (w : Result (Unit {0}) Stop). CausedRun Tells settings (ending_in w) script left taken given sure disks disks' held written') (sym e)
          (output_front part.0 part.1 told)
      header_caused r (inr e) wrote told =
          let part =
          header_part wrote in subst (λ (w : Result (Unit {0}) Stop). CausedRun Tells settings (ending_in w) script left taken given sure disks disks' held written') (sym e)
          (memory_front part.0 part.1 told)

      -- the first opening was refused
      module _ (why : Stop) where
        abbrev PartOfNote : Note → Type 0
        PartOfNote note = (why ≡ stop.Store) ⊎ WrotePart (Some (held ++ header_line settings)) (note_line note) written'

        abbrev FitsFor : ClusterFault → Type 0
        FitsFor fault = (note : Note) → note_of fault ≡ Some note → FitsNote note

        abbrev Because : ClusterFault → Type 0
        Because fault = (note : Note) → note_of fault ≡ Some note → IsFirstRefusal Tells settings taken given note

        note_part : (note : Note) → FitsNote note → IsFirstRefusal Tells settings taken given note → why ≢ stop.Store → PartOfNote note → (text : List ℕ) × Behind text
        note_part note fits because other (inl is) = absurd (other is)
        note_part note fits because other (inr (n, wrote)) = (
          header_line settings ++ take n (note_line note),
          (
            wrote ∙ ap (λ (l : List ℕ). Some l) (append_assoc held (header_line settings) (take n (note_line note))),
            inr (note, fits, because, front_behind (header_line settings) (take n (note_line note)) (note_line note) (front_take n (note_line note))),
          ),
        )

        refused_part : (fault : ClusterFault) → FitsFor fault → Because fault → why ≢ stop.Store → (note_of fault ≡ None → (why ≡ stop.NoMemory) × (written' ≡ Some (held ++ header_line settings)))
            → ((note : Note) → note_of fault ≡ Some note → PartOfNote note) → (text : List ℕ) × Behind text
        refused_part (refusal.Shelf count) fits because other wanting part =
            note_part (OpenShelf count) (fits (OpenShelf count) refl) (because (OpenShelf count) refl) other (part (OpenShelf count) refl)
        refused_part (refusal.Failed slot count) fits because other wanting part =
            note_part (OpenFailed slot count) (fits (OpenFailed slot count) refl) (because (OpenFailed slot count) refl) other (part (OpenFailed slot count) refl)
        refused_part (refusal.Damaged slot file at) fits because other wanting part =
            note_part (OpenDamaged slot file at) (fits (OpenDamaged slot file at) refl) (because (OpenDamaged slot file at) refl) other (part (OpenDamaged slot file at) refl)
        refused_part refusal.NoMemory fits because other wanting part = (header_line settings, ((wanting refl).1, inl ([], sym (append-nil (header_line settings)))))

        pub refused_caused : (fault : ClusterFault) → FitsFor fault → Because fault
            → (why ≡ stop.Store → (note : Note) × (note_of fault ≡ Some note) × Wrote (Some (held ++ header_line settings)) (note_line note) written')
            → ((note : Note) → note_of fault ≡ Some note → PartOfNote note)
            → (note_of fault ≡ None → (why ≡ stop.NoMemory) × (written' ≡ Some (held ++ header_line settings)))
            → (why ≡ stop.Output) ⊎ (why ≡ stop.NoMemory) ⊎ (why ≡ stop.Store) → left ≡ Some script
            → CausedRun Tells settings (ending_of why) script left taken given sure disks disks' held written'
        refused_caused fault fits because told part wanting (inl e) unread =
            let p = refused_part fault fits because (λ is. cc) wanting part in
            subst (λ (w : Stop). CausedRun Tells settings (ending_of w) script left taken given sure disks disks' held written') (sym e) (output_front p.0 p.1 unread)
        refused_caused fault fits because told part wanting (inr (inl e)) unread =
            let p = refused_part fault fits because (λ is. cc) wanting part in
            subst (λ (w : Stop). CausedRun Tells settings (ending_of w) script left taken given sure disks disks' held written') (sym e) (memory_front p.0 p.1 unread)
        refused_caused fault fits because told part wanting (inr (inr e)) unread =
            let note = told e in
            subst (λ (w : Stop). CausedRun Tells settings (ending_of w) script left taken given sure disks disks' held written') (sym e)
            (store_told note.0 (fits note.0 note.1) (because note.0 note.1) note.2 unread)
