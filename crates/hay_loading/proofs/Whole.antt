-- Whole lines that were taken, and the groups that end with them.
use Rattle.std.proofs.Common.{◌≡◌, ◌⊎◌, inl, inr, ℕ, ◌+◌, Bool, true, false, List, [], ◌∷◌, ◌++◌, length, Option, Some, None, Result, Err, refl, sym, ap, subst, ◌∙◌, append_assoc, append-nil, arith}
use Rattle.std.specs.Prelude.{IsErrOf, OnErr, map}
use Rattle.std.proofs.lemmas.Bool.{false≢true}
use Rattle.std.proofs.lemmas.Grind.{common_steps}
use Rattle.std.proofs.lemmas.Result.{IfErr-at_err}
use Rattle.hay_needle.specs.declared.settings.Settings.{Settings}
use Rattle.hay_disk.specs.Streams.{Took}
use Rattle.hay_script.specs.declared.Line.{Line}
use Rattle.hay_script.specs.declared.words.TheConstants.{MAX_SCRIPT}
use Rattle.hay_legal.specs.Items.{fed_part, has_feed}
use Rattle.hay_lines.specs.Lines.{NoFeed, fed_text, TookFed, TookLine, TookOver, TookPart, TookSome}
use Rattle.hay_lines.specs.Said.{SaysNext}
use Rattle.hay_lines.specs.Stream.{Held, IsReadToEnd, TookAll, rest_of}
use Rattle.hay_lines.proofs.Taking.{took_more}
use Rattle.hay_load.specs.Gathering.{Group, OpenBatch, line_step}
use Rattle.hay_loading.specs.declared.stops.Stop.{Stop}
use Rattle.hay_loading.specs.declared.stops.Stop.TheVariants as stop
use Rattle.hay_loading.specs.Endings.{IsFront, ReadsTo, ended_from, groups_before, says, script_groups}
use Rattle.hay_loading.specs.Lines.{BreaksIn, BreaksOff, EndsWithin, TookWhole, ended_groups}
use Rattle.hay_lines.proofs.Feeding.{lines_of-fed}
use Rattle.hay_loading.proofs.Reading.{last_of_none}

-- THE PART OF BYTES THAT A LINE FEED ENDS

no_feed : (part : List ℕ) → NoFeed part → has_feed part ≡ false
no_feed [] free = refl
no_feed (b ∷ part) free = let others = no_feed part free.1 in let first = free.0 in grind (arith, common_steps)

pub fed-none : (part : List ℕ) → NoFeed part → fed_part part ≡ []
fed-none [] free = refl
fed-none (b ∷ part) free = let none = no_feed (b ∷ part) free in rw none refl

has_feed-in : (bytes x : List ℕ) → has_feed (bytes ++ 10 ∷ x) ≡ true
has_feed-in [] x = refl
has_feed-in (b ∷ bytes) x = let others = has_feed-in bytes x in grind (arith, common_steps)

pub fed-feed : (bytes x : List ℕ) → fed_part (bytes ++ 10 ∷ x) ≡ bytes ++ 10 ∷ fed_part x
fed-feed [] x = refl
fed-feed (b ∷ bytes) x = let some = has_feed-in (b ∷ bytes) x in rw some (ap (λ (l : List ℕ). b ∷ l) (fed-feed bytes x))

-- WHOLE LINES

took_none : (left : Option (List ℕ)) (held : Held) → held.bytes ≡ [] → Took left [] (rest_of left held)
took_none None held none = tt
took_none (Some all) held none = (all, ap (λ (l : List ℕ). Some (l ++ all)) none, refl)

module _ (settings : Settings) (number : ℕ) (held : Option OpenBatch) where
  -- none were taken
  pub whole_none : (left : Option (List ℕ)) (all : Held) → all.bytes ≡ [] → TookWhole settings number held left [] number held (rest_of left all)
  whole_none left all none = record { bytes = []; took = took_none left all none; fed = λ more. refl; ends = λ more. refl }

  whole_fed : (said : Line) (held' : Option OpenBatch) (text : List ℕ) (before after : Option (List ℕ)) → TookFed before text after → said ≡ says text
      → held' ≡ (line_step settings number held said).held
      → TookWhole settings number held before (line_step settings number held said).groups (number + 1) held' after
  whole_fed said held' text before after took is held_is =
      let all : (more : List ℕ) → (took.bytes ++ 10 ∷ []) ++ more ≡ took.bytes ++ 10 ∷ more = λ more. append_assoc took.bytes (10 ∷ []) more in
      let same : said ≡ says (fed_text took.bytes) = is ∙ ap says took.text_is in
      record {
        bytes = took.bytes ++ 10 ∷ [];
        took = took.took;
        fed = λ more. ap fed_part (all more) ∙ fed-feed took.bytes more ∙ sym (all (fed_part more));
        ends = λ more.
            ap (λ (l : List ℕ). ended_groups settings number held l) (all more)
            ∙ ap (λ (l : List (List ℕ)). ended_from settings number held (map says l)) (lines_of-fed took.bytes more took.free)
            ∙ ap (λ (s : Line). (line_step settings number held s).groups ++ ended_groups settings (number + 1) (line_step settings number held s).held more) (sym same)
            ∙ ap (λ (h : Option OpenBatch). (line_step settings number held said).groups ++ ended_groups settings (number + 1) h more) (sym held_is);
      }

  fed_line : (before after : Option (List ℕ)) (text : List ℕ) (ended : Bool) → TookLine before text after ended → ended ≡ false → TookFed before text after
  fed_line before after text ended (inl w) unmet = w.0
  fed_line before after text ended (inr w) unmet = absurd (false≢true (sym unmet ∙ w.1))

  -- one was
  pub whole_line : (said : Line) (held' : Option OpenBatch) (before after : Option (List ℕ)) (ended : Bool) → SaysNext None (Some said) before after ended
      → held' ≡ (line_step settings number held said).held → ended ≡ false
      → TookWhole settings number held before (line_step settings number held said).groups (number + 1) held' after
  whole_line said held' before after ended next held_is unmet =
      whole_fed said held' next.0 before after (fed_line before after next.0 ended next.1 unmet) next.2 held_is

  -- the end was met in place of one
  pub whole_over : (before after : Option (List ℕ)) (ended : Bool) → SaysNext None None before after ended → ended ≡ false
      → TookWhole settings number held before [] number held after
  whole_over before after ended next unmet = absurd (false≢true (sym unmet ∙ next.1))

  -- behind whole lines come more
  pub whole_more : (number' number'' : ℕ) (held' held'' : Option OpenBatch) (left left' left'' : Option (List ℕ)) (groups more : List Group)
      → TookWhole settings number held left groups number' held' left' → TookWhole settings number' held' left' more number'' held'' left''
      → TookWhole settings number held left (groups ++ more) number'' held'' left''
  whole_more number' number'' held' held'' left left' left'' groups more first second = record {
    bytes = first.bytes ++ second.bytes;
    took = took_more left left' left'' first.bytes second.bytes first.took second.took;
    fed = λ x.
        ap fed_part (append_assoc first.bytes second.bytes x) ∙ first.fed (second.bytes ++ x) ∙ ap (λ (l : List ℕ). first.bytes ++ l) (second.fed x)
        ∙ sym (append_assoc first.bytes second.bytes (fed_part x));
    ends = λ x.
        ap (λ (l : List ℕ). ended_groups settings number held l) (append_assoc first.bytes second.bytes x) ∙ first.ends (second.bytes ++ x)
        ∙ ap (λ (l : List Group). groups ++ l) (second.ends x) ∙ sym (append_assoc groups more (ended_groups settings number'' held'' x));
  }

-- WHERE A SCRIPT BREAKS OFF

just_these : (settings : Settings) (number : ℕ) (held : Option OpenBatch) (script : List ℕ) (groups : List Group) (mid : Option (List ℕ))
    (whole : TookWhole settings 1 None (Some script) groups number held mid) (part : List ℕ) → NoFeed part → groups ≡ groups_before settings (whole.bytes ++ part)
just_these settings number held script groups mid whole part free =
    sym (append-nil groups) ∙ sym (whole.ends [])
    ∙ ap (λ (l : List ℕ). ended_groups settings 1 None l) (ap (λ (l : List ℕ). whole.bytes ++ l) (sym (fed-none part free)) ∙ sym (whole.fed part))

one_byte : (piece : List ℕ) → length piece ≡ 1 → (byte : ℕ) × (piece ≡ byte ∷ [])
one_byte [] one = absurd (omega (arith, one))
one_byte (byte ∷ []) one = (byte, refl)
one_byte (byte ∷ other ∷ piece) one = absurd (omega (arith, one))

-- WHAT WAS READ

-- of what the reader took, what it holds was taken of the source
take_held : (rest bytes : List ℕ) (left' : Option (List ℕ)) (all : Held) → Took (Some rest) bytes (rest_of left' all) → Took (Some rest) (bytes ++ all.bytes) left'
take_held rest bytes None all took = absurd (let lost = took.1 in cc)
take_held rest bytes (Some left) all took =
    let same : all.bytes ++ left ≡ took.0 = (let is = took.1 in cc) in
    (left, refl, took.2 ∙ ap (λ (l : List ℕ). bytes ++ l) (sym same) ∙ sym (append_assoc bytes all.bytes left))

-- where nothing is left to the reader, nothing is left to the source
take_last : (rest : List ℕ) (left' : Option (List ℕ)) (all : Held) → rest_of left' all ≡ Some [] → Took (Some rest) rest left'
take_last rest None all is = absurd cc
take_last rest (Some left) all is =
    let nothing : all.bytes ++ left ≡ [] = cc in
    ([], ap (λ (l : List ℕ). Some l) (last_of_none all.bytes left nothing), sym (append-nil rest))

module _ (settings : Settings) (number : ℕ) (held : Option OpenBatch) (left left' : Option (List ℕ)) (all : Held) where
  -- whole lines end within what was taken
  whole_within : (groups : List Group) (number' : ℕ) (held' : Option OpenBatch) → TookWhole settings number held left groups number' held' (rest_of left' all)
      → EndsWithin settings number held groups left left'
  whole_within groups number' held' whole = λ rest told. (
    whole.bytes ++ all.bytes,
    take_held rest whole.bytes left' all (subst (λ (l : Option (List ℕ)). Took l whole.bytes (rest_of left' all)) told whole.took),
    inl (
      ended_groups settings number' held' (fed_part all.bytes),
      ap (λ (l : List ℕ). ended_groups settings number held l) (whole.fed all.bytes) ∙ whole.ends (fed_part all.bytes),
    ),
  )

  -- and so does no line
  pub none_within : TookSome left (rest_of left' all) → EndsWithin settings number held [] left left'
  none_within some = λ rest told.
      let piece = subst (λ (l : Option (List ℕ)). TookSome l (rest_of left' all)) told some in (
        piece.0 ++ all.bytes,
        take_held rest piece.0 left' all piece.1,
        inl (ended_groups settings number held (fed_part (piece.0 ++ all.bytes)), refl),
      )

  last_within : (text : List ℕ) (groups : List Group) → TookAll left text (rest_of left' all) → EndsWithin settings number held groups left left'
  last_within text groups last = λ rest told.
      let both = subst (λ (l : Option (List ℕ)). TookAll l text (rest_of left' all)) told last in (rest, take_last rest left' all both.1, inr refl)

  line_by : (said : Line) (text : List ℕ) (ended : Bool) → TookLine left text (rest_of left' all) ended → said ≡ says text
      → EndsWithin settings number held (line_step settings number held said).groups left left'
  line_by said text ended (inl w) is =
      let step = line_step settings number held said in
      whole_within step.groups (number + 1) step.held (whole_fed settings number held said step.held text left (rest_of left' all) w.0 is refl)
  line_by said text ended (inr w) is = last_within text (line_step settings number held said).groups w.0.all

  -- what a line ends
  pub line_within : (said : Line) (ended : Bool) → SaysNext None (Some said) left (rest_of left' all) ended → EndsWithin settings number held (line_step settings number held said).groups left left'
  line_within said ended next = line_by said next.0 ended next.1 next.2

-- behind whole lines
reads_behind : (settings : Settings) (number : ℕ) (held : Option OpenBatch) (script : List ℕ) (groups next : List Group) (mid after : Option (List ℕ))
    → TookWhole settings 1 None (Some script) groups number held mid → IsFront (groups ++ next) (script_groups settings script) → EndsWithin settings number held next mid after
    → ReadsTo settings script after (groups ++ next)
reads_behind settings number held script groups next mid after whole front within =
    let behind = within whole.took.0 whole.took.1 in
    let took : Took mid behind.0 after = subst (λ (l : Option (List ℕ)). Took l behind.0 after) (sym whole.took.1) behind.1 in
    record {
      read = whole.bytes ++ behind.0;
      bytes = took_more (Some script) mid after whole.bytes behind.0 whole.took took;
      ends = elim behind.2 [
        | inl f ↦ inl (
          f.0,
          ap (λ (l : List ℕ). ended_groups settings 1 None l) (whole.fed behind.0) ∙ whole.ends (fed_part behind.0) ∙ ap (λ (l : List Group). groups ++ l) f.1 ∙ sym (append_assoc groups next f.0),
        )
        | inr all ↦ inr (ap (λ (l : List ℕ). whole.bytes ++ l) all ∙ sym whole.took.2, front)
      ];
    }

pub breaks_off : (settings : Settings) (why : Stop) (number : ℕ) (held : Option OpenBatch) (script : List ℕ) (groups next : List Group) (mid after : Option (List ℕ))
    → TookWhole settings 1 None (Some script) groups number held mid → IsFront (groups ++ next) (script_groups settings script) → BreaksIn settings number held next why mid after
    → BreaksOff settings why script groups next after
breaks_off settings stop.Output number held script groups next mid after whole front broke = reads_behind settings number held script groups next mid after whole front broke
breaks_off settings stop.Input number held script groups next mid after whole front broke = (
  whole.bytes ++ broke.0,
  took_more (Some script) mid after whole.bytes broke.0 whole.took broke.2,
  just_these settings number held script groups mid whole broke.0 broke.1,
)
breaks_off settings stop.NoMemory number held script groups next mid after whole front broke = reads_behind settings number held script groups next mid after whole front broke
breaks_off settings stop.Store number held script groups next mid after whole front broke = reads_behind settings number held script groups next mid after whole front broke
breaks_off settings stop.TooLong number held script groups next mid after whole front broke =
    let part = broke.1 in
    let one = broke.2 in
    let byte = one_byte one.0 one.1 in
    let read : List ℕ = whole.bytes ++ part.0 in
    let front : Took (Some script) read broke.0 = took_more (Some script) mid broke.0 whole.bytes part.0 whole.took part.2 in
    let over : Took (Some script) (read ++ one.0) after = took_more (Some script) broke.0 after read one.0 front one.2 in (
      read,
      (byte.0, subst (λ (l : List ℕ). Took (Some script) (read ++ l) after) byte.1 over),
      just_these settings number held script groups mid whole part.0 part.1,
    )

-- where the whole script was read
reads_whole : (settings : Settings) (script : List ℕ) (groups : List Group) (after : Option (List ℕ)) → IsReadToEnd (Some script) after → IsFront groups (script_groups settings script)
    → ReadsTo settings script after groups
reads_whole settings script groups after over front = record { read = script; bytes = ([], over, sym (append-nil script)); ends = inr (refl, front) }

pub breaks_whole : (settings : Settings) (why : Stop) (script : List ℕ) (groups next : List Group) (after : Option (List ℕ)) → (why ≡ stop.Output) ⊎ (why ≡ stop.NoMemory) ⊎ (why ≡ stop.Store)
    → IsReadToEnd (Some script) after → IsFront (groups ++ next) (script_groups settings script) → BreaksOff settings why script groups next after
breaks_whole settings stop.Output script groups next after stops over front = reads_whole settings script (groups ++ next) after over front
breaks_whole settings stop.NoMemory script groups next after stops over front = reads_whole settings script (groups ++ next) after over front
breaks_whole settings stop.Store script groups next after stops over front = reads_whole settings script (groups ++ next) after over front
breaks_whole settings stop.Input script groups next after (inl is) over front = absurd cc
breaks_whole settings stop.Input script groups next after (inr (inl is)) over front = absurd cc
breaks_whole settings stop.Input script groups next after (inr (inr is)) over front = absurd cc
breaks_whole settings stop.TooLong script groups next after (inl is) over front = absurd cc
breaks_whole settings stop.TooLong script groups next after (inr (inl is)) over front = absurd cc
breaks_whole settings stop.TooLong script groups next after (inr (inr is)) over front = absurd cc

-- how a line that was taken breaks in, and one that was not
module _ (settings : Settings) (number : ℕ) (held : Option OpenBatch) where
  pub line_broke : (groups : List Group) (why : Stop) (left after : Option (List ℕ)) → (why ≡ stop.Output) ⊎ (why ≡ stop.NoMemory) ⊎ (why ≡ stop.Store)
      → EndsWithin settings number held groups left after → BreaksIn settings number held groups why left after
  line_broke groups stop.Output left after stops within = within
  line_broke groups stop.NoMemory left after stops within = within
  line_broke groups stop.Store left after stops within = within
  line_broke groups stop.Input left after (inl is) within = absurd cc
  line_broke groups stop.Input left after (inr (inl is)) within = absurd cc
  line_broke groups stop.Input left after (inr (inr is)) within = absurd cc
  line_broke groups stop.TooLong left after (inl is) within = absurd cc
  line_broke groups stop.TooLong left after (inr (inl is)) within = absurd cc
  line_broke groups stop.TooLong left after (inr (inr is)) within = absurd cc

  pub read_broke : {X : Type 0} (r : Result X Stop) (why : Stop) (left after : Option (List ℕ)) → r ≡ Err why
      → OnErr r ((r ≡ Err stop.Input) ⊎ (r ≡ Err stop.NoMemory) ⊎ (r ≡ Err stop.TooLong)) → (IsErrOf r stop.Input → TookPart left after)
      → (IsErrOf r stop.NoMemory → EndsWithin settings number held [] left after) → (IsErrOf r stop.TooLong → TookOver left after) → BreaksIn settings number held [] why left after
  read_broke r stop.Input left after is stops failed memory over = failed is
  read_broke r stop.NoMemory left after is stops failed memory over = memory is
  read_broke r stop.TooLong left after is stops failed memory over = over is
  read_broke r stop.Output left after is stops failed memory over = elim (IfErr-at_err (λ (x : Stop). (r ≡ Err stop.Input) ⊎ (r ≡ Err stop.NoMemory) ⊎ (r ≡ Err stop.TooLong)) is stops) [
    | inl e ↦ absurd cc
    | inr (inl e) ↦ absurd cc
    | inr (inr e) ↦ absurd cc
  ]
  read_broke r stop.Store left after is stops failed memory over = elim (IfErr-at_err (λ (x : Stop). (r ≡ Err stop.Input) ⊎ (r ≡ Err stop.NoMemory) ⊎ (r ≡ Err stop.TooLong)) is stops) [
    | inl e ↦ absurd cc
    | inr (inl e) ↦ absurd cc
    | inr (inr e) ↦ absurd cc
  ]
