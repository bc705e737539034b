-- What an act leaves behind the lock.
use Rattle.std.proofs.Common.{◌≡◌, ◌≤◌, ℕ, Bool, true, false, List, [], ◌∷◌, ◌++◌, map, Option, Some, None, refl, sym, ap, subst, ◌∙◌, append-nil, arith}
use Rattle.std.specs.Prelude.{slice_set}
use Rattle.std.proofs.lemmas.Bool.{true≢false}
use Rattle.std.proofs.lemmas.List.{map-append}
use Rattle.hay_disk.specs.Counts.{IsNext}
use Rattle.hay_disk.specs.Disk.{Files}
use Rattle.hay_core.specs.declared.entry.CoreTag.{CoreTag}
use Rattle.hay_legal.specs.declared.known.DirKnown.{DirKnown}
use Rattle.hay_legal.specs.declared.known.HomeRow.{HomeRow}
use Rattle.hay_front.specs.Entries.{LogEntry}
use Rattle.hay_front.specs.Fronts.{with_deed}
use Rattle.hay_front.specs.declared.front.Tag.{Tag}
use Rattle.hay_history.specs.LaneSteps.{FollowsRows, IsMissing, LeadsDrains, LeadsRowFuses, LeadsRows, RowsStanding}
use Rattle.hay_meeting.specs.declared.act.DirAct.{DirAct}
use Rattle.hay_meeting.specs.declared.act.DirDid.{DirDid}
use Rattle.hay_meeting.specs.declared.act.DirDid.TheVariants as did
use Rattle.hay_meeting.specs.Acts.{directory_by, drained_by, row_did_of, row_lock, row_of, rows_left_by}
use Rattle.hay_meeting.specs.Locks.{add_shown, left, replayed}
use Rattle.hay_meeting.proofs.Replays.{entries_append, left_append}
use Rattle.hay_directory.specs.declared.mode.Mode.{Mode}
use Rattle.hay_directory.specs.declared.mode.Mode.TheVariants.{Frozen, Open}
use Rattle.hay_directory.specs.Rows.{dir_row}
use Rattle.hay_directory.specs.Homes.{KeepsHomes, SetsHome}
use Rattle.hay_directory.specs.State.{IsUp, State, Stands, home_of, is_closed, is_frozen}
use Rattle.hay_directory.proofs.HomeLaws.{homes_settled}
use Rattle.hay_directory.proofs.Standing.{serving}
use Rattle.hay_views.specs.HomeLooks.{HomesShown}
use Rattle.hay_directory_lock.specs.Begun.{BegunAt}
use Rattle.hay_directory_lock.specs.Acts.{add_tag, mode_behind, mode_by, tag_of, tags_of}
use Rattle.hay_directory_lock.specs.Standing.{HomeFront, KeptFor, MayBeKnown}
use Rattle.hay_directory_lock.proofs.Unfused.{unfused_more}

follow_on : (start : RowsStanding) (xs : List DirAct) (act : DirAct) → FollowsRows start (replayed row_lock start xs)
    → FollowsRows (left row_lock start xs) (replayed row_lock (left row_lock start xs) (act ∷ [])) → FollowsRows start (replayed row_lock start (xs ++ act ∷ []))
follow_on start [] act before is = is
follow_on start (x ∷ xs) act before is = (before.0, before.1, before.2, follow_on (rows_left_by x start) xs act before.3 is)

mode_on : (mode : Mode) (xs : List DirAct) (act : DirAct) → mode_behind mode (xs ++ act ∷ []) ≡ mode_by act.tag act.did (mode_behind mode xs)
mode_on mode [] act = refl
mode_on mode (x ∷ xs) act = mode_on (mode_by x.tag x.did mode) xs act

add_append : (row : Option HomeRow) (tag : Tag) (rest more : List Tag) → add_tag row tag (rest ++ more) ≡ add_tag row tag rest ++ more
add_append None tag rest more = refl
add_append (Some row) tag rest more = refl

tags_on : (xs : List DirAct) (act : DirAct) → tags_of (xs ++ act ∷ []) ≡ tags_of xs ++ add_tag (row_of act.did) (tag_of act) []
tags_on [] act = refl
tags_on (x ∷ xs) act = ap (λ (l : List Tag). add_tag (row_of x.did) (tag_of x) l) (tags_on xs act) ∙ add_append (row_of x.did) (tag_of x) (tags_of xs) (add_tag (row_of act.did) (tag_of act) [])

not_none : (xs : List DirAct) (act : DirAct) → xs ++ act ∷ [] ≡ [] → ⊥
not_none [] act is = absurd cc
not_none (x ∷ xs) act is = absurd cc

same_front : (f : HomeFront) → f.shown ≡ record f.shown { deeds = (f.shown).deeds ++ [] }
same_front f = ap (λ (l : List HomeRow). record f.shown { deeds = l }) (sym (append-nil (f.shown).deeds))

same_tags : (f : HomeFront) → map (λ e. e.tag) f.log ≡ map (λ e. e.tag) f.log ++ []
same_tags f = sym (append-nil (map (λ e. e.tag) f.log))

not_later : {a b : ℕ} → a ≡ b → b ≤ a
not_later is = omega (arith, is)

module _ {D : Type 0} (Tells : Type 0) (files : D → Files) (faults fuses : D → ℕ) where
  -- the act that did this and left that
  abbrev pub act_of : CoreTag → DirDid → State D → DirAct
  act_of tag done d = record { seat = tag.lane; tag = tag; did = done; faults = faults d.disk; fuses = fuses d.disk }

  -- what an act leaves of what stood
  record Leaves (act : DirAct) (d d' : State D) (f f' : HomeFront) : Type 0 where
    settings : d'.settings ≡ d.settings
    up : IsUp d'
    mode : d'.mode ≡ mode_by act.tag act.did d.mode
    told : Tells → (k : DirKnown) (drained : List Bool) → Stands files d k drained → Stands files d' (directory_by act.tag act.did k) (drained_by act.did drained)
    known : (k : DirKnown) → MayBeKnown d k → MayBeKnown d' (directory_by act.tag act.did k)
    drained : d'.drained ≡ drained_by act.did d.drained
    faults_are : faults d'.disk ≡ act.faults
    fuses_are : fuses d'.disk ≡ act.fuses
    leads : (s : RowsStanding) → MayBeKnown d s.directory → LeadsRows act.tag (row_did_of act.did) s (rows_left_by act s)
    later : faults d.disk ≤ act.faults
    drains : (s : RowsStanding) → LeadsDrains (row_did_of act.did) s.drained (drained_by act.did s.drained)
    fused : LeadsRowFuses (row_did_of act.did) (fuses d.disk) act.fuses
    front_is : f'.shown ≡ record f.shown { deeds = (f.shown).deeds ++ add_shown (row_of act.did) [] }
    tags : map (λ e. e.tag) f'.log ≡ map (λ e. e.tag) f.log ++ add_tag (row_of act.did) (tag_of act) []
    serves : is_frozen d'.mode ≡ false → f'.closed ≡ false

  kept_by : (begun : BegunAt D) (acts : List DirAct) (act : DirAct) (d d' : State D) (f f' : HomeFront) → KeptFor Tells files faults fuses begun acts d f
      → Leaves act d d' f f' → KeptFor Tells files faults fuses begun (acts ++ act ∷ []) d' f'
  kept_by begun acts act d d' f f' k m =
      let next : (s : RowsStanding) → left row_lock s (acts ++ act ∷ []) ≡ rows_left_by act (left row_lock s acts) = λ s. left_append row_lock s acts (act ∷ []) in
      record {
        from = k.from;
        of = record {
          settings = m.settings ∙ (k.of).settings;
          up = m.up;
          untouched = λ none. absurd (not_none acts act none);
          mode = m.mode ∙ ap (λ (mode : Mode). mode_by act.tag act.did mode) (k.of).mode ∙ sym (mode_on (begun.directory).mode acts act);
          told = λ tells s stands. subst (λ (r : RowsStanding). Stands files d' r.directory r.drained) (sym (next s))
              (m.told tells (left row_lock s acts).directory (left row_lock s acts).drained ((k.of).told tells s stands));
          known = λ s is. subst (λ (r : RowsStanding). MayBeKnown d' r.directory) (sym (next s)) (m.known (left row_lock s acts).directory ((k.of).known s is));
          counted = λ s is.
              let before = (k.of).counted s is in
              record {
                drained = m.drained ∙ ap (λ (l : List Bool). drained_by act.did l) before.drained ∙ ap (λ (r : RowsStanding). r.drained) (sym (next s));
                faults_are = m.faults_are ∙ ap (λ (r : RowsStanding). r.faults) (sym (next s));
                fuses_are = m.fuses_are ∙ ap (λ (r : RowsStanding). r.fuses) (sym (next s));
              };
          follows = λ s at.
              let before = (k.of).counted s at.counted in
              follow_on s acts act ((k.of).follows s at) (
                m.leads (left row_lock s acts) ((k.of).known s at.known),
                subst (λ n. n ≤ act.faults) before.faults_are m.later,
                (m.drains (left row_lock s acts), subst (λ n. LeadsRowFuses (row_did_of act.did) n act.fuses) before.fuses_are m.fused),
                tt,
              );
          rises = (let before = (k.of).rises in omega (arith, before, m.later, m.faults_are));
          fuses_stay = λ none. m.fuses_are ∙ unfused_more acts act (fuses (begun.directory).disk) (fuses d.disk) act.fuses m.fused (k.of).fuses_stay none;
        };
        front_is = ap (λ (w : HomesShown). w.front) m.front_is ∙ k.front_is;
        base = ap (λ (w : HomesShown). w.base) m.front_is ∙ k.base;
        shown = ap (λ (w : HomesShown). w.deeds) m.front_is ∙ ap (λ (l : List HomeRow). l ++ add_shown (row_of act.did) []) k.shown ∙ sym (entries_append row_lock acts (act ∷ []));
        tags = m.tags ∙ ap (λ (l : List Tag). l ++ add_tag (row_of act.did) (tag_of act) []) k.tags ∙ sym (tags_on acts act);
        serves = m.serves;
      }

  module _ {begun : BegunAt D} {acts : List DirAct} {d : State D} {f : HomeFront} (k : KeptFor Tells files faults fuses begun acts d f) where
    missing : (row : HomeRow) (s : RowsStanding) → is_frozen d.mode ≡ false → home_of d row.pair ≡ None → MayBeKnown d s.directory → IsMissing s row
    missing row s thawed homeless is = (sym is.frozen ∙ thawed, sym (is.homes row.pair) ∙ homeless)

    module _ (tag : CoreTag) (act : DirAct) (d' : State D) where
      -- nothing was changed
      pub tried : act ≡ act_of tag did.TriesRow d' → d'.settings ≡ d.settings → ((known : DirKnown) (drained : List Bool) → Tells → Stands files d known drained → Stands files d' known drained)
          → KeepsHomes d.homes d'.homes → d'.drained ≡ d.drained → d'.mode ≡ d.mode → faults d.disk ≤ faults d'.disk → fuses d'.disk ≡ fuses d.disk
          → KeptFor Tells files faults fuses begun (acts ++ act ∷ []) d' f
      tried is settings told homes drains mode later fused =
          subst (λ (a : DirAct). KeptFor Tells files faults fuses begun (acts ++ a ∷ []) d' f) (sym is)
          (kept_by begun acts (act_of tag did.TriesRow d') d d' f f k
          (record {
            settings = settings;
            up = ap is_closed mode ∙ (k.of).up;
            mode = mode;
            told = λ tells known drained stands. told known drained tells stands;
            known = λ known is. record { mode = mode ∙ is.mode; frozen = ap is_frozen mode ∙ is.frozen; homes = λ pair. homes.at pair ∙ is.homes pair };
            drained = drains;
            faults_are = refl;
            fuses_are = refl;
            leads = λ s is. refl;
            later = later;
            drains = λ s. refl;
            fused = fused;
            front_is = same_front f;
            tags = same_tags f;
            serves = λ thawed. k.serves (sym (ap is_frozen mode) ∙ thawed);
          }))

      -- the row is pending
      pub pended : (row : HomeRow) (f' : HomeFront) → act ≡ act_of tag (did.PendsRow row) d' → d'.settings ≡ d.settings
          → ((known : DirKnown) (drained : List Bool) → Tells → Stands files d known drained
          → Stands files d' (record known { frozen = true; pending = Some (record { tag = tag; row = row }) }) drained)
          → KeepsHomes d.homes d'.homes → d'.drained ≡ d.drained → d'.mode ≡ Frozen (record { tag = tag; row = dir_row row }) → faults d.disk ≤ faults d'.disk → fuses d'.disk ≡ fuses d.disk
          → is_frozen d.mode ≡ false → home_of d row.pair ≡ None → f'.shown ≡ f.shown → f'.log ≡ f.log
          → KeptFor Tells files faults fuses begun (acts ++ act ∷ []) d' f'
      pended row f' is settings told homes drains mode later fused thawed homeless front log =
          subst (λ (a : DirAct). KeptFor Tells files faults fuses begun (acts ++ a ∷ []) d' f') (sym is)
          (kept_by begun acts (act_of tag (did.PendsRow row) d') d d' f f' k
          (record {
            settings = settings;
            up = ap is_closed mode;
            mode = mode;
            told = λ tells known drained stands. told known drained tells stands;
            known = λ known is. record { mode = mode; frozen = ap is_frozen mode; homes = λ pair. homes.at pair ∙ is.homes pair };
            drained = drains;
            faults_are = refl;
            fuses_are = refl;
            leads = λ s is. (missing row s thawed homeless is, refl);
            later = later;
            drains = λ s. refl;
            fused = fused;
            front_is = front ∙ same_front f;
            tags = ap (λ (l : List (LogEntry HomeRow)). map (λ e. e.tag) l) log ∙ same_tags f;
            serves = λ thaws. absurd (true≢false (sym (ap is_frozen mode) ∙ thaws));
          }))

      -- the row was added
      pub added : (row : HomeRow) (f' : HomeFront) → act ≡ act_of tag (did.AddsRow row) d' → d'.settings ≡ d.settings
          → ((known : DirKnown) (drained : List Bool) → Tells → Stands files d known drained → Stands files d' (record known { rows = known.rows ++ row ∷ [] }) drained)
          → (mid : List ((ℕ × ℕ) × ℕ)) → KeepsHomes d.homes mid → SetsHome row.pair (Some row.volume) mid d'.homes → d'.drained ≡ d.drained → d'.mode ≡ Open
          → faults d.disk ≤ faults d'.disk → fuses d'.disk ≡ fuses d.disk
          → is_frozen d.mode ≡ false → home_of d row.pair ≡ None → f'.shown ≡ with_deed f.shown row
          → f'.log ≡ f.log ++ record { tag = record { seat = tag.lane; lane = tag.lane; line = tag.line }; deed = row } ∷ [] → f'.closed ≡ false
          → KeptFor Tells files faults fuses begun (acts ++ act ∷ []) d' f'
      added row f' is settings told mid homes set drains mode later fused thawed homeless front log closed =
          let same : d'.mode ≡ d.mode = mode ∙ sym (serving d.mode (k.of).up thawed) in
          subst (λ (a : DirAct). KeptFor Tells files faults fuses begun (acts ++ a ∷ []) d' f') (sym is)
          (kept_by begun acts (act_of tag (did.AddsRow row) d') d d' f f' k
          (record {
            settings = settings;
            up = ap is_closed mode;
            mode = same;
            told = λ tells known drained stands. told known drained tells stands;
            known = λ known is. record {
              mode = same ∙ is.mode;
              frozen = ap is_frozen same ∙ is.frozen;
              homes = (homes_settled known.rows row mid d'.homes (record { are = λ pair. homes.at pair ∙ is.homes pair }) (sym (is.homes row.pair) ∙ homeless) set).are;
            };
            drained = drains;
            faults_are = refl;
            fuses_are = refl;
            leads = λ s is. (missing row s thawed homeless is, refl);
            later = later;
            drains = λ s. refl;
            fused = fused;
            front_is = front;
            tags = ap (λ (l : List (LogEntry HomeRow)). map (λ e. e.tag) l) log
                ∙ map-append (λ (e : LogEntry HomeRow). e.tag) f.log (record { tag = record { seat = tag.lane; lane = tag.lane; line = tag.line }; deed = row } ∷ []);
            serves = λ thaws. closed;
          }))

      -- a machine was drained, or no longer
      pub drains_set : (machine : ℕ) (is_drained : Bool) → act ≡ act_of tag (did.Drains machine is_drained) d' → d' ≡ record d { drained = slice_set d.drained machine is_drained }
          → ((known : DirKnown) (drained : List Bool) → Stands files d known drained → Stands files d' known (slice_set drained machine is_drained))
          → KeptFor Tells files faults fuses begun (acts ++ act ∷ []) d' f
      drains_set machine is_drained is only told =
          let mode : d'.mode ≡ d.mode = ap (λ (x : State D). x.mode) only in
          let disk : d'.disk ≡ d.disk = ap (λ (x : State D). x.disk) only in
          subst (λ (a : DirAct). KeptFor Tells files faults fuses begun (acts ++ a ∷ []) d' f) (sym is)
          (kept_by begun acts (act_of tag (did.Drains machine is_drained) d') d d' f f k
          (record {
            settings = ap (λ (x : State D). x.settings) only;
            up = ap is_closed mode ∙ (k.of).up;
            mode = mode;
            told = λ tells known drained stands. told known drained stands;
            known = λ known is. record { mode = mode ∙ is.mode; frozen = ap is_frozen mode ∙ is.frozen; homes = λ pair. ap (λ (x : State D). home_of x pair) only ∙ is.homes pair };
            drained = ap (λ (x : State D). x.drained) only;
            faults_are = refl;
            fuses_are = refl;
            leads = λ s is. refl;
            later = not_later (ap faults disk);
            drains = λ s. refl;
            fused = ap fuses disk;
            front_is = same_front f;
            tags = same_tags f;
            serves = λ thawed. k.serves (sym (ap is_frozen mode) ∙ thawed);
          }))

      -- a fuse was set
      pub fuse_set : act ≡ act_of tag did.FusesRow d' → d' ≡ record d { disk = d'.disk }
          → (Tells → (known : DirKnown) (drained : List Bool) → Stands files d known drained → Stands files d' known drained)
          → faults d'.disk ≡ faults d.disk → IsNext (fuses d.disk) (fuses d'.disk) → KeptFor Tells files faults fuses begun (acts ++ act ∷ []) d' f
      fuse_set is only told same next =
          let mode : d'.mode ≡ d.mode = ap (λ (x : State D). x.mode) only in
          subst (λ (a : DirAct). KeptFor Tells files faults fuses begun (acts ++ a ∷ []) d' f) (sym is)
          (kept_by begun acts (act_of tag did.FusesRow d') d d' f f k
          (record {
            settings = ap (λ (x : State D). x.settings) only;
            up = ap is_closed mode ∙ (k.of).up;
            mode = mode;
            told = λ tells known drained stands. told tells known drained stands;
            known = λ known is. record { mode = mode ∙ is.mode; frozen = ap is_frozen mode ∙ is.frozen; homes = λ pair. ap (λ (x : State D). home_of x pair) only ∙ is.homes pair };
            drained = ap (λ (x : State D). x.drained) only;
            faults_are = refl;
            fuses_are = refl;
            leads = λ s is. refl;
            later = not_later same;
            drains = λ s. refl;
            fused = next;
            front_is = same_front f;
            tags = same_tags f;
            serves = λ thawed. k.serves (sym (ap is_frozen mode) ∙ thawed);
          }))
