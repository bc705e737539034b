-- One turn after another.
use Rattle.std.proofs.Common.{◌≡◌, ◌⊎◌, inl, inr, ℕ, List, [], ◌∷◌, ◌++◌, map, Option, Some, None, refl, sym, ap, subst, ◌∙◌, append_assoc, length, take}
use Rattle.std.specs.Prelude.{flat_map}
use Rattle.std.specs.List.{AllByRecursion}
use Rattle.std.specs.Prelude.{Result, Err, OnErr}
use Rattle.std.proofs.lemmas.Grind.{flat_map-append}
use Rattle.std.proofs.lemmas.List.{append-nil, map-append}
use Rattle.std.proofs.Math.Seq.{take-length}
use Rattle.std.proofs.lemmas.Result.{IfErr-at_err}
use Rattle.hay_disk.specs.Streams.{Wrote, WrotePart}
use Rattle.hay_needle.specs.declared.settings.Settings.{Settings}
use Rattle.hay_script.specs.declared.Command.{Command}
use Rattle.hay_script.specs.declared.Command.TheVariants as asks
use Rattle.hay_reply.specs.Fits.{FitsNote, FitsReply}
use Rattle.hay_reply.specs.declared.Note.{Note}
use Rattle.hay_reply.specs.declared.Reply.{Reply}
use Rattle.hay_reply.specs.declared.Reply.TheVariants.{BadLine, Restarted}
use Rattle.hay_reply.specs.Replies.{numbered_line, note_line}
use Rattle.hay_legal.specs.declared.known.Known.{Known}
use Rattle.hay_legal.specs.declared.turn.Item.{Item}
use Rattle.hay_legal.specs.declared.turn.Item.TheVariants as item
use Rattle.hay_legal.specs.declared.turn.LaneItem.{LaneItem}
use Rattle.hay_legal.specs.declared.turn.LogNote.{LogNote}
use Rattle.hay_legal.specs.declared.turn.RowNote.{RowNote}
use Rattle.hay_legal.specs.declared.turn.Turn.{Turn}
use Rattle.hay_legal.specs.declared.turn.Turn.TheVariants.{Plain, Lanes, Restart}
use Rattle.hay_legal.specs.Items.{Asked, InBlock, item_of_turn, line_asked}
use Rattle.hay_legal.specs.Items.Asked.{Alone, Block}
use Rattle.hay_legal.specs.Known.{Leaves, FaultsRose}
use Rattle.hay_legal.specs.Blocks.{LegalBlock}
use Rattle.hay_legal.specs.Legal.{Legal, known_after}
use Rattle.hay_legal.specs.Plain.{LegalCommand}
use Rattle.hay_legal.specs.Restarts.{LegalRestart}
use Rattle.hay_legal.specs.Transcript.{turn_text}
use Rattle.hay_cluster.specs.Store.{Open}
use Rattle.hay_run.specs.Turns.{Writing, Standing, AnswersTurns, Appends, FitsAnswers, IsGoingOn}
use Rattle.hay_run.proofs.Counting.{NoneFalls-same}

-- what holds of each error holds of these two
pub on_either : {T P : Type 0} {E : Type 0} (r : Result T E) (a b : E) → OnErr r P → (r ≡ Err a) ⊎ (r ≡ Err b) → P
on_either {T} {P} {E} r a b h (inl e) = IfErr-at_err (λ (x : E). P) e h
on_either {T} {P} {E} r a b h (inr e) = IfErr-at_err (λ (x : E). P) e h

-- WHAT IS WRITTEN

pub wrote_nothing : (before : Option (List ℕ)) → Wrote before [] before
wrote_nothing None = tt
wrote_nothing (Some old) = ap (λ (bytes : List ℕ). Some bytes) (sym (append-nil old))

pub wrote_more : (before mid after : Option (List ℕ)) (a b : List ℕ) → Wrote before a mid → Wrote mid b after → Wrote before (a ++ b) after
wrote_more None mid after a b h k = tt
wrote_more (Some old) None after a b h k = cc
wrote_more (Some old) (Some new) after a b h k =
    let same : new ≡ old ++ a = cc in
    k ∙ ap (λ (bytes : List ℕ). Some (bytes ++ b)) same ∙ ap (λ (bytes : List ℕ). Some bytes) (append_assoc old a b)

-- nothing changes

leaves_same : (k : Known) → Leaves k k k
leaves_same k = record { volumes = refl; directory = refl; drained = refl; fuses = refl; faults = NoneFalls-same k.faults; arms = NoneFalls-same k.arms }

pub rises_same : (k : Known) → FaultsRose k k
rises_same k = record { volumes = refl; directory = refl; drained = refl; fuses = refl; faults = NoneFalls-same k.faults; arms = refl }

-- one turn behind others

pub legal_more : (settings : Settings) (k : Known) (turns : List Turn) (mid : Known) (more : List Turn) (t : Known) → Legal settings k turns mid → Legal settings mid more t
    → Legal settings k (turns ++ more) t
legal_more settings k [] mid more t h legal = let P : Known → Type 0 = λ known. Legal settings known more t in subst P h legal
legal_more settings k (first ∷ turns) mid more t h legal = (h.0, legal_more settings (known_after first) turns mid more t h.1 legal)

wrote_part-by : (before after : Option (List ℕ)) (text : List ℕ) → Wrote before text after → Wrote before (take (length text) text) after
wrote_part-by before after text wrote = let P : List ℕ → Type 0 = λ bytes. Wrote before bytes after in subst P (sym (take-length text)) wrote

-- what was written whole was written in part
pub wrote_part : (before after : Option (List ℕ)) (text : List ℕ) → Wrote before text after → WrotePart before text after
wrote_part before after text wrote = (length text, wrote_part-by before after text wrote)

-- TURNS THAT GO ON

pub each_more : (Is : Turn → Type 0) (turns more : List Turn) → AllByRecursion Is turns → AllByRecursion Is more → AllByRecursion Is (turns ++ more)
each_more Is [] more h k = k
each_more Is (turn ∷ turns) more h k = (h.0, each_more Is turns more h.1 k)

pub plain_goes_on : (line : ℕ) (item : Item) (reply : Reply) (after : Known) → IsGoingOn (Plain line item reply after)
plain_goes_on line item reply after = λ line' pick notes after' is. cc

pub block_goes_on : (items : List LaneItem) (logs : List LogNote) (rows : RowNote) (after : Known) → IsGoingOn (Lanes items logs rows after)
block_goes_on items logs rows after = λ line pick notes after' is. cc

pub restarted_goes_on : (line pick d : ℕ) (notes : List Note) (after : Known) → IsGoingOn (Restart line pick (Restarted d) notes after)
restarted_goes_on line pick d notes after = λ line' pick' notes' after' is. cc

-- WHAT A SINK HOLDS

pub appends_nothing : (written : Option (List ℕ)) → Appends written written
appends_nothing written held is = ([], is ∙ ap (λ (bytes : List ℕ). Some bytes) (sym (append-nil held)))

pub appends_more : (a b c : Option (List ℕ)) → Appends a b → Appends b c → Appends a c
appends_more a b c h k held is =
    let first = h held is in
    let next = k (held ++ first.0) first.1 in
    (first.0 ++ next.0, next.1 ∙ ap (λ (bytes : List ℕ). Some bytes) (append_assoc held first.0 next.0))

pub wrote_appends : (before after : Option (List ℕ)) (text : List ℕ) → Wrote before text after → Appends before after
wrote_appends None after text wrote = λ held is. cc
wrote_appends (Some old) after text wrote = λ held is. (text, (let same : old ≡ held = cc in subst (λ (bytes : List ℕ). after ≡ Some (bytes ++ text)) same wrote))

pub part_appends : (before after : Option (List ℕ)) (text : List ℕ) → WrotePart before text after → Appends before after
part_appends before after text part = wrote_appends before after (take part.0 text) part.1

-- ANSWERS

module _ {D P A : Type 0} (Left : Standing D P A) where
  pub answers_nothing : (k : Known) (written : Option (List ℕ)) (store : Open D P A) → Left store k
      → AnswersTurns IsGoingOn Wrote Left k [] written store written
  answers_nothing k written store left = record {
    turns = [];
    t = k;
    each = tt;
    fits = tt;
    items = refl;
    legal = refl;
    left = left;
    wrote = wrote_nothing written;
  }

  pub answers_bad : (Is : Turn → Type 0) → ((line : ℕ) (item : Item) (reply : Reply) (after : Known) → Is (Plain line item reply after))
      → (Writes : Writing) (k : Known) (number : ℕ) (written written' : Option (List ℕ)) (store : Open D P A)
      → Left store k → Writes written (numbered_line number BadLine) written'
      → AnswersTurns Is Writes Left k (Alone number item.Bad ∷ []) written store written'
  answers_bad Is is Writes k number written written' store left wrote =
      let P : List ℕ → Type 0 = λ text. Writes written text written' in
      record {
        turns = Plain number item.Bad BadLine k ∷ [];
        t = k;
        each = (is number item.Bad BadLine k, tt);
        fits = (tt, tt);
        items = refl;
        legal = ((refl, leaves_same k), refl);
        left = left;
        wrote = subst P (sym (append-nil (numbered_line number BadLine))) wrote;
      }

  pub answers_plain : (Is : Turn → Type 0) → ((line : ℕ) (item : Item) (reply : Reply) (after : Known) → Is (Plain line item reply after))
      → (Writes : Writing) (k t : Known) (number : ℕ) (command : Command) (reply : Reply) (written written' : Option (List ℕ)) (store : Open D P A)
      → FitsReply reply → LegalCommand store.settings k (record { lane = 0; line = number }) command reply t → Left store t → Writes written (numbered_line number reply) written'
      → AnswersTurns Is Writes Left k (Alone number (item.Command command) ∷ []) written store written'
  answers_plain Is is Writes k t number command reply written written' store fits legal left wrote =
      let P : List ℕ → Type 0 = λ text. Writes written text written' in
      record {
        turns = Plain number (item.Command command) reply t ∷ [];
        t = t;
        each = (is number (item.Command command) reply t, tt);
        fits = (fits, tt);
        items = refl;
        legal = (legal, refl);
        left = left;
        wrote = subst P (sym (append-nil (numbered_line number reply))) wrote;
      }

  pub answers_restart : (Is : Turn → Type 0) (Writes : Writing) (k t : Known) (number pick : ℕ) (reply : Reply) (notes : List Note) (written written' : Option (List ℕ)) (store : Open D P A)
      → Is (Restart number pick reply notes t) → FitsReply reply × AllByRecursion FitsNote notes
      → LegalRestart store.settings k reply notes t → Left store t → Writes written (numbered_line number reply ++ flat_map note_line notes) written'
      → AnswersTurns Is Writes Left k (Alone number (item.Command (asks.Restart pick)) ∷ []) written store written'
  answers_restart Is Writes k t number pick reply notes written written' store is fits legal left wrote =
      let P : List ℕ → Type 0 = λ text. Writes written text written' in
      record {
        turns = Restart number pick reply notes t ∷ [];
        t = t;
        each = (is, tt);
        fits = (fits, tt);
        items = refl;
        legal = (legal, refl);
        left = left;
        wrote = subst P (sym (append-nil (numbered_line number reply ++ flat_map note_line notes))) wrote;
      }

  pub answers_block : (Is : Turn → Type 0) → ((items : List LaneItem) (logs : List LogNote) (rows : RowNote) (after : Known) → Is (Lanes items logs rows after))
      → (Writes : Writing) (k t : Known) (lines : List InBlock)
      (items : List LaneItem) (logs : List LogNote) (rows : RowNote) (written written' : Option (List ℕ)) (store : Open D P A)
      → map line_asked items ≡ lines → AllByRecursion (λ answered. FitsReply answered.reply) items → LegalBlock store.settings k items logs rows t → Left store t
      → Writes written (turn_text (Lanes items logs rows t)) written'
      → AnswersTurns Is Writes Left k (Block lines ∷ []) written store written'
  answers_block Is is Writes k t lines items logs rows written written' store asked fits legal left wrote =
      let P : List ℕ → Type 0 = λ text. Writes written text written' in
      record {
        turns = Lanes items logs rows t ∷ [];
        t = t;
        each = (is items logs rows t, tt);
        fits = (fits, tt);
        items = ap (λ (own : List InBlock). Block own ∷ []) asked;
        legal = (legal, refl);
        left = left;
        wrote = subst P (sym (append-nil (turn_text (Lanes items logs rows t)))) wrote;
      }

-- turns behind others
pub answers_more : {D P A : Type 0} (Stands : Standing D P A)
    → (k : Known) (asked more : List Asked) (written written' written'' : Option (List ℕ)) (store store' : Open D P A)
    → store'.settings ≡ store.settings
    → (first : AnswersTurns IsGoingOn Wrote Stands k asked written store written') → AnswersTurns IsGoingOn Wrote Stands first.t more written' store' written''
    → AnswersTurns IsGoingOn Wrote Stands k (asked ++ more) written store' written''
answers_more Stands k asked more written written' written'' store store' same first next =
    let P : Settings → Type 0 = λ settings. Legal settings k first.turns first.t in
    let Q : List ℕ → Type 0 = λ text. Wrote written text written'' in
    record {
      turns = first.turns ++ next.turns;
      t = next.t;
      each = each_more IsGoingOn first.turns next.turns first.each next.each;
      fits = each_more FitsAnswers first.turns next.turns first.fits next.fits;
      items = map-append item_of_turn first.turns next.turns ∙ ap (λ (items : List Asked). items ++ map item_of_turn next.turns) first.items ∙ ap (λ (items : List Asked). asked ++ items) next.items;
      legal = legal_more store'.settings k first.turns first.t next.turns next.t (subst P (sym same) first.legal) next.legal;
      left = next.left;
      wrote =
          subst Q (sym (flat_map-append turn_text first.turns next.turns)) (wrote_more written written' written'' (flat_map turn_text first.turns) (flat_map turn_text next.turns)
          first.wrote next.wrote);
    }
