-- A line that was read moves a candidate on.
use Rattle.std.proofs.Common.{◌≡◌, ◌≢◌, ℕ, suc, ◌+◌, List, [], ◌∷◌, ◌++◌, length, map, Option, Some, None, Bool, refl, sym, ap, subst, ◌∙◌, inl, inr, arith, append_assoc}
use Rattle.std.specs.Prelude.{flat_map, is_some, cond}
use Rattle.std.specs.List.{AllByRecursion as Each}
use Rattle.hay_needle.specs.declared.settings.Settings.{Settings}
use Rattle.hay_script.specs.declared.Command.TheVariants as command
use Rattle.hay_reply.specs.declared.Reply.{Reply}
use Rattle.hay_reply.specs.declared.Reply.TheVariants as reply
use Rattle.hay_reply.specs.declared.Note.{Note}
use Rattle.hay_reply.specs.Fits.{FitsReply, FitsNote}
use Rattle.hay_reply.specs.Replies.{numbered_line, note_line}
use Rattle.hay_legal.specs.declared.known.Pending.{Pending}
use Rattle.hay_legal.specs.declared.known.PendingRow.{PendingRow}
use Rattle.hay_legal.specs.declared.known.VolumeKnown.{VolumeKnown}
use Rattle.hay_legal.specs.declared.known.Known.{Known}
use Rattle.hay_legal.specs.declared.turn.Item.{Item}
use Rattle.hay_legal.specs.declared.turn.Item.TheVariants as item
use Rattle.hay_legal.specs.declared.turn.LaneItem.{LaneItem}
use Rattle.hay_legal.specs.declared.turn.Turn.{Turn}
use Rattle.hay_legal.specs.declared.turn.Turn.TheVariants.{Plain, Lanes, Restart}
use Rattle.hay_legal.specs.Items.{Asked, item_of_turn}
use Rattle.hay_legal.specs.Items.Asked.{Alone}
use Rattle.hay_legal.specs.Known.{NoneFalls}
use Rattle.hay_legal.specs.Plain.{LegalPlain}
use Rattle.hay_legal.specs.Restarts.{LegalRestart, IsRestarted, MayKeep, ReopenedVolumes, replica_notes, pending_notes, volume_notes, row_notes}
use Rattle.hay_audit_steps.specs.Law.{ExactStatesStep, LinesAdvance, RestartsAdvance, UnreadLinesEnd, UnreadNotesEnd}
use Rattle.hay_audit_steps.specs.CheckerSteps.{Below, AnyOf, IsStepOf, with_counts, plain_row}
use Rattle.hay_audit_steps.specs.Reopen.{restart_row}
use Rattle.hay_audit_steps.specs.Reached.{Candidate, Leads, IsAdvance, Is, candidate, IsNoRestart, volume_note_count, volumes_note_count, note_count}
use Rattle.hay_audit_steps.proofs.Feeds.{one_reply, one_notes}

-- STEPS AS ADVANCES

advance_sound : {S : Type 0} (Has : S → Known → Type 0) (settings : Settings) (s : S) (asked : Asked) (rest rest' : List ℕ) (row : Known → Known → Type 0) (next : List S)
    → ((k t : Known) → row k t → (turn : Turn) × Leads settings asked k rest turn t rest')
    → Each (λ (d : S). (t : Known) → Has d t → (k : Known) × Has s k × row k t) next
    → Each (λ (d : Candidate S). (t : Known) → Has d.state t → (k : Known) × (turn : Turn) × Has s k × Leads settings asked k rest turn t d.rest) (map (candidate rest') next)
advance_sound {S} Has settings s asked rest rest' row [] made h = tt
advance_sound {S} Has settings s asked rest rest' row (d ∷ next) made h = (
  (λ t has. let from = h.0 t has in let turn = made from.0 t from.2 in (from.0, turn.0, from.1, turn.1)),
  advance_sound Has settings s asked rest rest' row next made h.1,
)

any_candidate : {S : Type 0} (Has : S → Known → Type 0) (rest : List ℕ) (t : Known) (next : List S) → AnyOf (λ (d : S). (e : Known) × Has d e × Below e t) next
    → AnyOf (λ (d : Candidate S). (d.rest ≡ rest) × (e : Known) × Has d.state e × Below e t) (map (candidate rest) next)
any_candidate {S} Has rest t [] h = h
any_candidate {S} Has rest t (d ∷ next) h = elim h [ inl here ↦ inl (refl, here.0, here.1, here.2) | inr there ↦ inr (any_candidate Has rest t next there) ]

advance_by : {S : Type 0} (Has : S → Known → Type 0) (settings : Settings) (s : S) (asked : Asked) (rest rest' : List ℕ) (row : Known → Known → Type 0) (next : List S)
    → ((k t : Known) → row k t → (turn : Turn) × Leads settings asked k rest turn t rest')
    → ((k : Known) (faults arms fuses : List ℕ) (turn : Turn) (t : Known) (behind : List ℕ) → Has s k → Leads settings asked (with_counts k faults arms fuses) rest turn t behind
    → (behind ≡ rest') × row (with_counts k faults arms fuses) t)
    → IsStepOf Has row s next
    → IsAdvance Has settings asked (candidate rest s) (map (candidate rest') next)
advance_by {S} Has settings s asked rest rest' row next made back step = record {
  sound = advance_sound Has settings s asked rest rest' row next made step.sound;
  complete = λ k faults arms fuses turn t behind has f a leads.
      let h = back k faults arms fuses turn t behind has leads in
      subst (λ (x : List ℕ). AnyOf (λ (d : Candidate S). (d.rest ≡ x) × (e : Known) × Has d.state e × Below e t) (map (candidate rest') next)) (sym h.0)
      (any_candidate Has rest' t next (step.complete k faults arms fuses t has f a h.1));
}

-- EXACT STATES

pub exact_states_step : ExactStatesStep
exact_states_step row k next step = record {
  sound = each_exact next step.sound;
  complete = λ x faults arms fuses t is f a r.
      any_exact t next
      (step.complete faults arms fuses t (subst (λ (y : Known). NoneFalls y.faults faults) is f) (subst (λ (y : Known). NoneFalls y.arms arms) is a)
      (subst (λ (y : Known). row (with_counts y faults arms fuses) t) is r));
}
  where
    each_exact : (ds : List Known) → Each (row k) ds → Each (λ (d : Known). (t : Known) → Is d t → (x : Known) × Is k x × row x t) ds
    each_exact [] h = tt
    each_exact (d ∷ ds) h = ((λ t is. (k, refl, subst (λ (y : Known). row k y) (sym is) h.0)), each_exact ds h.1)

    any_exact : (t : Known) (ds : List Known) → AnyOf (λ (d : Known). Below d t) ds → AnyOf (λ (d : Known). (e : Known) × Is d e × Below e t) ds
    any_exact t [] h = h
    any_exact t (d ∷ ds) h = elim h [ inl here ↦ inl (d, refl, here) | inr there ↦ inr (any_exact t ds there) ]

-- PLAIN LINES

-- what a turn of a plain line is
record OfLine (settings : Settings) (k : Known) (line : ℕ) (i : Item) (rest : List ℕ) (t : Known) (rest' : List ℕ) : Type 0 where
  reply : Reply
  legal : LegalPlain settings k line i reply t
  fits : FitsReply reply
  text : numbered_line line reply ++ rest' ≡ rest

line_of : (settings : Settings) (k : Known) (line : ℕ) (i : Item) (rest : List ℕ) (turn : Turn) (t : Known) (rest' : List ℕ) → IsNoRestart i
    → Leads settings (Alone line i) k rest turn t rest' → OfLine settings k line i rest t rest'
line_of settings k line i rest (Plain n i' r after) t rest' plain leads =
    let number : n ≡ line = (let e : Alone n i' ≡ Alone line i = leads.item in cc) in
    let same : i' ≡ i = (let e : Alone n i' ≡ Alone line i = leads.item in cc) in
    let end : after ≡ t = leads.after in
    record {
      reply = r;
      legal = subst (λ (m : ℕ). LegalPlain settings k m i r t) number
          (subst (λ (x : Item). LegalPlain settings k n x r t) same
          (subst (λ (x : Known). LegalPlain settings k n i' r x) end leads.legal));
      fits = leads.fits;
      text = subst (λ (m : ℕ). numbered_line m r ++ rest' ≡ rest) number leads.text;
    }
line_of settings k line i rest (Lanes items logs rows after) t rest' plain leads = absurd (lie items leads.item)
  where
    lie : (items : List LaneItem) → item_of_turn (Lanes items logs rows after) ≡ Alone line i → ⊥
    lie items e = cc
line_of settings k line i rest (Restart n pick r notes after) t rest' plain leads =
    let same : item.Command (command.Restart pick) ≡ i = (let e : Alone n (item.Command (command.Restart pick)) ≡ Alone line i = leads.item in cc) in
    absurd (subst (λ (x : Item). IsNoRestart x) (sym same) plain)

pub lines_advance : {S : Type 0} (Has : S → Known → Type 0) → LinesAdvance Has
lines_advance {S} Has settings s line i r rest next plain fits step =
    advance_by Has settings s (Alone line i) (numbered_line line r ++ rest) rest (plain_row settings line i r) next
    (λ k t legal. (Plain line i r t, record { item = refl; legal = legal; after = refl; fits = fits; text = refl }))
    (λ k faults arms fuses turn t behind has leads.
    let is = line_of settings (with_counts k faults arms fuses) line i (numbered_line line r ++ rest) turn t behind plain leads in
    let one = one_reply line r is.reply rest behind fits is.fits is.text in
    (one.1, subst (λ (x : Reply). LegalPlain settings (with_counts k faults arms fuses) line i x t) one.0 is.legal))
    step

-- RESTARTS

replica_notes_long : (settings : Settings) (v line j : ℕ) (kept : List Bool) → length (replica_notes settings v line j kept) ≡ length kept
replica_notes_long settings v line j [] = refl
replica_notes_long settings v line j (x ∷ kept) = ap suc (replica_notes_long settings v line (j + 1) kept)

pending_notes_long : (settings : Settings) (v : ℕ) (volume : VolumeKnown) (pending : Option Pending) (kept : List Bool) → MayKeep settings v volume pending kept
    → length (pending_notes settings v pending kept) ≡ cond (is_some pending) (length volume.replicas) 0
pending_notes_long settings v volume None kept may = refl
pending_notes_long settings v volume (Some pending) kept may = replica_notes_long settings v (pending.tag).line 0 kept ∙ may.0

long_on : (xs ys : List Note) → length (xs ++ ys) ≡ length xs + length ys
long_on [] ys = let e : length ys ≡ 0 + length ys = omega arith in e
long_on (x ∷ xs) ys = omega (arith, long_on xs ys)

volume_notes_long : (settings : Settings) (v : ℕ) (olds news : List VolumeKnown) (kept : List (List Bool)) → ReopenedVolumes settings v olds kept news
    → length (volume_notes settings v olds kept) ≡ volumes_note_count olds
volume_notes_long settings v [] [] [] h = refl
volume_notes_long settings v (old ∷ olds) (new ∷ news) (k ∷ kept) h =
    long_on (pending_notes settings v old.pending k) (volume_notes settings (v + 1) olds kept)
    ∙ ap (λ (n : ℕ). n + length (volume_notes settings (v + 1) olds kept)) (pending_notes_long settings v old old.pending k (h.0).may)
    ∙ ap (λ (n : ℕ). volume_note_count old + n) (volume_notes_long settings (v + 1) olds news kept h.1)
volume_notes_long settings v [] [] (k ∷ kept) h = absurd h
volume_notes_long settings v [] (new ∷ news) [] h = absurd h
volume_notes_long settings v [] (new ∷ news) (k ∷ kept) h = absurd h
volume_notes_long settings v (old ∷ olds) [] [] h = absurd h
volume_notes_long settings v (old ∷ olds) [] (k ∷ kept) h = absurd h
volume_notes_long settings v (old ∷ olds) (new ∷ news) [] h = absurd h

row_notes_long : (pending : Option PendingRow) (row : Bool) → length (row_notes pending row) ≡ cond (is_some pending) 1 0
row_notes_long None row = refl
row_notes_long (Some pending) row = refl

-- a restart tells as many notes as are asked for
notes_long : (settings : Settings) (k : Known) (d : ℕ) (notes : List Note) (t : Known) → IsRestarted settings k d notes t → length notes ≡ note_count k
notes_long settings k d notes t r =
    ap (λ (ns : List Note). length ns) r.told
    ∙ long_on (volume_notes settings 0 k.volumes r.kept) (row_notes k.directory.pending r.row)
    ∙ ap (λ (n : ℕ). n + length (row_notes k.directory.pending r.row)) (volume_notes_long settings 0 k.volumes t.volumes r.kept (r.opened).volumes)
    ∙ ap (λ (n : ℕ). volumes_note_count k.volumes + n) (row_notes_long k.directory.pending r.row)

-- what a turn of a restart is
record OfRestart (settings : Settings) (k : Known) (line : ℕ) (rest : List ℕ) (t : Known) (rest' : List ℕ) : Type 0 where
  reply : Reply
  notes : List Note
  legal : LegalRestart settings k reply notes t
  fits : FitsReply reply
  note_fits : Each FitsNote notes
  text : numbered_line line reply ++ (flat_map note_line notes ++ rest') ≡ rest

restart_of : (settings : Settings) (k : Known) (line pick : ℕ) (rest : List ℕ) (turn : Turn) (t : Known) (rest' : List ℕ)
    → Leads settings (Alone line (item.Command (command.Restart pick))) k rest turn t rest' → OfRestart settings k line rest t rest'
restart_of settings k line pick rest (Plain n i r after) t rest' leads =
    let same : i ≡ item.Command (command.Restart pick) = (let e : Alone n i ≡ Alone line (item.Command (command.Restart pick)) = leads.item in cc) in
    absurd (subst (λ (x : Item). LegalPlain settings k n x r after) same leads.legal)
restart_of settings k line pick rest (Lanes items logs rows after) t rest' leads = absurd (lie items leads.item)
  where
    lie : (items : List LaneItem) → item_of_turn (Lanes items logs rows after) ≡ Alone line (item.Command (command.Restart pick)) → ⊥
    lie items e = cc
restart_of settings k line pick rest (Restart n other r notes after) t rest' leads =
    let number : n ≡ line = (let e : Alone n (item.Command (command.Restart other)) ≡ Alone line (item.Command (command.Restart pick)) = leads.item in cc) in
    let end : after ≡ t = leads.after in
    record {
      reply = r;
      notes = notes;
      legal = subst (λ (x : Known). LegalRestart settings k r notes x) end leads.legal;
      fits = (leads.fits).0;
      note_fits = (leads.fits).1;
      text = subst (λ (m : ℕ). numbered_line m r ++ (flat_map note_line notes ++ rest') ≡ rest) number
          (sym (append_assoc (numbered_line n r) (flat_map note_line notes) rest') ∙ leads.text);
    }

pub restarts_advance : {S : Type 0} (Has : S → Known → Type 0) → RestartsAdvance Has
restarts_advance {S} Has settings s line pick d notes rest next fits note_fits many step =
    advance_by Has settings s (Alone line (item.Command (command.Restart pick))) (numbered_line line (reply.Restarted d) ++ (flat_map note_line notes ++ rest)) rest
    (restart_row settings (reply.Restarted d) notes) next
    (λ k t legal. (
      Restart line pick (reply.Restarted d) notes t,
      record { item = refl; legal = legal; after = refl; fits = (fits, note_fits); text = append_assoc (numbered_line line (reply.Restarted d)) (flat_map note_line notes) rest },
    ))
    (λ k faults arms fuses turn t behind has leads.
    let low : Known = with_counts k faults arms fuses in
    let is = restart_of settings (with_counts k faults arms fuses) line pick (numbered_line line (reply.Restarted d) ++ (flat_map note_line notes ++ rest)) turn t behind leads in
    let first = one_reply line (reply.Restarted d) is.reply (flat_map note_line notes ++ rest) (flat_map note_line is.notes ++ behind) fits is.fits is.text in
    let legal : IsRestarted settings (with_counts k faults arms fuses) d is.notes t = subst (λ (x : Reply). LegalRestart settings (with_counts k faults arms fuses) x is.notes t) first.0 is.legal in
    let long : length is.notes ≡ length notes = notes_long settings (with_counts k faults arms fuses) d is.notes t legal ∙ many k has in
    let more = one_notes notes is.notes rest behind note_fits is.note_fits long first.1 in
    (more.1, subst (λ (ns : List Note). IsRestarted settings (with_counts k faults arms fuses) d ns t) more.0 legal))
    step

-- WHAT IS NOT READ

-- the text of each turn of one line begins with a reply
begins_so : (settings : Settings) (k : Known) (line : ℕ) (i : Item) (rest : List ℕ) (turn : Turn) (t : Known) (rest' : List ℕ)
    → Leads settings (Alone line i) k rest turn t rest' → (r : Reply) × (behind : List ℕ) × FitsReply r × (numbered_line line r ++ behind ≡ rest)
begins_so settings k line i rest (Plain n i' r after) t rest' leads =
    let number : n ≡ line = (let e : Alone n i' ≡ Alone line i = leads.item in cc) in
    (r, rest', leads.fits, subst (λ (m : ℕ). numbered_line m r ++ rest' ≡ rest) number leads.text)
begins_so settings k line i rest (Lanes items logs rows after) t rest' leads = absurd (lie items leads.item)
  where
    lie : (items : List LaneItem) → item_of_turn (Lanes items logs rows after) ≡ Alone line i → ⊥
    lie items e = cc
begins_so settings k line i rest (Restart n pick r notes after) t rest' leads =
    let number : n ≡ line = (let e : Alone n (item.Command (command.Restart pick)) ≡ Alone line i = leads.item in cc) in (
      r,
      flat_map note_line notes ++ rest',
      (leads.fits).0,
      subst (λ (m : ℕ). numbered_line m r ++ (flat_map note_line notes ++ rest') ≡ rest) number
          (sym (append_assoc (numbered_line n r) (flat_map note_line notes) rest') ∙ leads.text),
    )

pub unread_lines_end : {S : Type 0} (Has : S → Known → Type 0) → UnreadLinesEnd Has
unread_lines_end {S} Has settings c line i unread = record {
  sound = tt;
  complete = λ k faults arms fuses turn t behind has f a leads.
      let h = begins_so settings (with_counts k faults arms fuses) line i c.rest turn t behind leads in
      absurd (unread h.0 h.1 h.2 h.3);
}

pub unread_notes_end : {S : Type 0} (Has : S → Known → Type 0) → UnreadNotesEnd Has
unread_notes_end {S} Has settings s line pick r rest fits known unread = record {
  sound = tt;
  complete = λ k faults arms fuses turn t behind has f a leads.
      let is = restart_of settings (with_counts k faults arms fuses) line pick (numbered_line line r ++ rest) turn t behind leads in
      let first = one_reply line r is.reply rest (flat_map note_line is.notes ++ behind) fits is.fits is.text in
      absurd (none r known unread k faults arms fuses t behind has is.notes is.note_fits
      (subst (λ (x : Reply). LegalRestart settings (with_counts k faults arms fuses) x is.notes t) first.0 is.legal) first.1);
}
  where
    none : (r : Reply) → r ≢ reply.NoMem
        → ((d : ℕ) (k : Known) (notes : List Note) (behind : List ℕ) → r ≡ reply.Restarted d → Has s k → length notes ≡ note_count k → Each FitsNote notes → flat_map note_line notes ++ behind ≢ rest)
        → (k : Known) (faults arms fuses : List ℕ) (t : Known) (behind : List ℕ) → Has s k → (notes : List Note) → Each FitsNote notes
        → LegalRestart settings (with_counts k faults arms fuses) r notes t → flat_map note_line notes ++ behind ≡ rest → ⊥
    none (reply.Restarted d) known unread k faults arms fuses t behind has notes note_fits legal e =
        unread d k notes behind refl has (notes_long settings (with_counts k faults arms fuses) d notes t legal) note_fits e
    none reply.NoMem known unread k faults arms fuses t behind has notes note_fits legal e = known refl
    none r known unread k faults arms fuses t behind has notes note_fits legal e = legal
