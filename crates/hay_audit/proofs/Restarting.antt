-- What a candidate comes to behind a restart.
use Rattle.std.proofs.Common.{◌≡◌, ◌≢◌, ℕ, suc, ◌+◌, List, [], ◌∷◌, ◌++◌, length, drop, refl, sym, ap, subst, ◌∙◌, append_assoc}
use Rattle.std.specs.Prelude.{flat_map, map}
use Rattle.std.specs.List.{AllZip, AllByRecursion as Each}
use Rattle.hay_needle.specs.declared.settings.Settings.{Settings}
use Rattle.hay_script.specs.declared.Command.TheVariants as command
use Rattle.hay_reply.specs.declared.Note.{Note}
use Rattle.hay_reply.specs.declared.Reply.{Reply}
use Rattle.hay_reply.specs.declared.Reply.TheVariants as reply
use Rattle.hay_reply.specs.Fits.{FitsNote, FitsReply}
use Rattle.hay_reply.specs.Replies.{note_line, note_text, numbered_line}
use Rattle.hay_legal.specs.declared.known.VolumeKnown.{VolumeKnown}
use Rattle.hay_legal.specs.declared.known.Known.{Known}
use Rattle.hay_legal.specs.declared.turn.Item.{Item}
use Rattle.hay_legal.specs.declared.turn.Item.TheVariants as item
use Rattle.hay_legal.specs.Items.Asked.{Alone}
use Rattle.hay_audit_steps.specs.BoxPlain.{IsBoxOf}
use Rattle.hay_audit_steps.specs.BoxReopen.{restart_boxes}
use Rattle.hay_audit_steps.specs.Boxes.{Box, Has, IsBoxStep, fill_volumes}
use Rattle.hay_audit_steps.specs.Reached.{Candidate as Kept, IsAdvance, candidate, note_count}
use Rattle.hay_audit_steps.specs.Reopen.{restart_row}
use Rattle.hay_audit_steps.specs.Rooms.{lowest}
use Rattle.hay_audit_steps.specs.Slacks.{Lies, Slack}
use Rattle.hay_audit_steps.proofs.Advancing.{restarts_advance, unread_notes_end}
use Rattle.hay_audit_steps.proofs.BoxPlains.{notes_are_counted, restarts_keep_boxes}
use Rattle.hay_audit_steps.proofs.BoxReopens.{restarts_step_boxes}
use Rattle.hay_audit_steps.proofs.Divide.{has_lowest}
use Rattle.hay_audit_steps.proofs.Feeds.{note_text_line}
use Rattle.hay_audit_steps.proofs.Wider.{zip_long}
use Rattle.hay_audit.specs.declared.judge.Candidate.{Candidate}
use Rattle.hay_audit.specs.Candidates.{Goes, all_standing, placed, standing}
use Rattle.hay_audit.specs.Outside.{IsRestart}
use Rattle.hay_audit.proofs.Lists.{drop_twice}
use Rattle.hay_audit.proofs.Placing.{none_more, placed_all, standing_on}

-- HOW MANY VOLUMES

pub record AreSoMany (settings : Settings) (box : Box) : Type 0 where
  pub volumes : length box.base.volumes ≡ settings.volumes
  pub low : length box.low ≡ settings.volumes
  pub high : length box.high ≡ settings.volumes

volumes_long : (xss : List (List Slack)) (volumes : List VolumeKnown) → length (fill_volumes xss volumes) ≡ length volumes
volumes_long [] volumes = refl
volumes_long (xs ∷ xss) [] = refl
volumes_long (xs ∷ xss) (w ∷ volumes) = ap suc (volumes_long xss volumes)

shaped_long : (volumes : List VolumeKnown) (lows : List (List Slack)) → AllZip (λ volume row. length volume.replicas ≡ length row) volumes lows → length volumes ≡ length lows
shaped_long [] [] h = refl
shaped_long (w ∷ volumes) (l ∷ lows) h = ap suc (shaped_long volumes lows h.1)
shaped_long [] (l ∷ lows) h = absurd h
shaped_long (w ∷ volumes) [] h = absurd h

pub so_many : (settings : Settings) (box : Box) → IsBoxOf settings box → AreSoMany settings box
so_many settings box of =
    let all : length box.base.volumes ≡ settings.volumes = sym (volumes_long box.low box.base.volumes) ∙ (of.states (lowest box) (has_lowest box of.whole)).volumes in
    let lows : length box.low ≡ settings.volumes = sym (shaped_long box.base.volumes box.low (of.whole).shaped) ∙ all in
    record { volumes = all; low = lows; high = sym (zip_long (λ (xs : List Slack) ys. AllZip Lies xs ys) box.low box.high (of.whole).some) ∙ lows }

-- WHERE THE NOTES END

pub notes_start : (transcript front rest : List ℕ) (notes : List Note) → transcript ≡ front ++ 10 ∷ (flat_map note_line notes ++ rest) → (ahead : List ℕ) × (transcript ≡ ahead ++ 10 ∷ rest)
notes_start transcript front rest [] e = (front, e)
notes_start transcript front rest (note ∷ notes) e =
    notes_start transcript (front ++ 10 ∷ note_text note) rest notes
    (e
    ∙ ap (λ (xs : List ℕ). front ++ 10 ∷ xs) (append_assoc (note_line note) (flat_map note_line notes) rest ∙ note_text_line note (flat_map note_line notes ++ rest))
    ∙ sym (append_assoc front (10 ∷ note_text note) (10 ∷ (flat_map note_line notes ++ rest))))

-- A RESTART

not_wanting : (d : ℕ) → reply.Restarted d ≢ reply.NoMem
not_wanting d e = absurd cc

-- the notes that stand at the front of a text, as many as a restart tells
pub record AreNotes (box : Box) (text : List ℕ) (notes : List Note) (behind : ℕ) : Type 0 where
  pub many : length notes ≡ note_count box.base
  pub fits : Each FitsNote notes
  pub parts : flat_map note_line notes ++ drop behind text ≡ text

pub restart_goes : (settings : Settings) (line : ℕ) (asked : Item) (transcript text more : List ℕ) (c : Candidate) (old new : List Candidate) (r : Reply) (d behind further : ℕ)
    (notes : List Note) (states : List Box)
    → IsRestart asked → IsBoxOf settings c.state → text ≡ drop c.at transcript → r ≡ reply.Restarted d → FitsReply r → numbered_line line r ++ drop behind text ≡ text
    → more ≡ drop (c.at + behind) transcript
    → AreNotes c.state more notes further → states ≡ restart_boxes settings c.state (reply.Restarted d) notes → new ≡ old ++ map (placed ((c.at + behind) + further)) states
    → Goes settings line asked transcript c old new
restart_goes settings line (item.Command (command.Restart pick)) transcript text more c old new r d behind further notes states restart of is restarted fits read on h made added =
    let rest : drop behind text ≡ more = ap (λ (xs : List ℕ). drop behind xs) is ∙ sym (drop_twice c.at behind transcript) ∙ sym on in
    let whole : numbered_line line (reply.Restarted d) ++ (flat_map note_line notes ++ drop further more) ≡ text =
    ap (λ (x : Reply). numbered_line line x ++ (flat_map note_line notes ++ drop further more)) (sym restarted)
    ∙ ap (λ (xs : List ℕ). numbered_line line r ++ xs) (h.parts ∙ sym rest) ∙ read in
    let step : IsBoxStep (restart_row settings (reply.Restarted d) notes) c.state states =
    subst (λ (ds : List Box). IsBoxStep (restart_row settings (reply.Restarted d) notes) c.state ds) (sym made)
    (restarts_step_boxes settings c.state (reply.Restarted d) notes (not_wanting d) of.whole) in
    let advance = restarts_advance Has settings c.state line pick d notes (drop further more) states (subst (λ (x : Reply). FitsReply x) restarted fits) h.fits
    (λ k has. notes_are_counted c.state k has ∙ sym h.many) step in (
      map (candidate (drop further more)) states,
      ap (λ (xs : List Candidate). all_standing transcript xs) added
          ∙ standing_on transcript old (map (placed ((c.at + behind) + further)) states)
          ∙ ap (λ (zs : List (Kept Box)). all_standing transcript old ++ zs)
          (placed_all transcript (drop further more) ((c.at + behind) + further) states (drop_twice (c.at + behind) further transcript ∙ ap (λ (xs : List ℕ). drop further xs) (sym on))),
      subst (λ (t : List ℕ). IsAdvance Has settings (Alone line (item.Command (command.Restart pick))) (candidate t c.state) (map (candidate (drop further more)) states)) (whole ∙ is) advance,
    )
restart_goes settings line asked transcript text more c old new r d behind further notes states restart of is restarted fits read on h made added = absurd restart

pub restart_keeps : (settings : Settings) (box : Box) (d : ℕ) (notes : List Note) (states : List Box) → IsBoxOf settings box
    → states ≡ restart_boxes settings box (reply.Restarted d) notes → Each (IsBoxOf settings) states
restart_keeps settings box d notes states of made =
    subst (λ (ds : List Box). Each (IsBoxOf settings) ds) (sym made) (restarts_keep_boxes settings box (reply.Restarted d) notes (not_wanting d) of)

-- a restart that was not answered that it restarted, or whose notes are not there
pub unread_goes : (settings : Settings) (line : ℕ) (asked : Item) (transcript text : List ℕ) (c : Candidate) (old : List Candidate) (r : Reply) (behind : ℕ)
    → IsRestart asked → text ≡ drop c.at transcript → FitsReply r → r ≢ reply.NoMem → numbered_line line r ++ drop behind text ≡ text
    → ((d : ℕ) (notes : List Note) (rest : List ℕ) → r ≡ reply.Restarted d → length notes ≡ note_count c.state.base → Each FitsNote notes
    → flat_map note_line notes ++ rest ≢ drop (c.at + behind) transcript)
    → Goes settings line asked transcript c old old
unread_goes settings line (item.Command (command.Restart pick)) transcript text c old r behind restart is fits known read none =
    let rest : drop (c.at + behind) transcript ≡ drop behind text = drop_twice c.at behind transcript ∙ ap (λ (xs : List ℕ). drop behind xs) (sym is) in (
      [],
      none_more (all_standing transcript old),
      subst (λ (t : List ℕ). IsAdvance Has settings (Alone line (item.Command (command.Restart pick))) (candidate t c.state) []) (read ∙ is)
          (unread_notes_end Has settings c.state line pick r (drop behind text) fits known
          (λ d k notes more e has many each stands. none d notes more e (many ∙ notes_are_counted c.state k has) each (stands ∙ sym rest))),
    )
unread_goes settings line asked transcript text c old r behind restart is fits known read none = absurd restart
