-- What a run does that is asked for nothing.
use Rattle.std.proofs.Common.{◌≡◌, inl, inr, ℕ, false, List, [], ◌∷◌, ◌++◌, Option, Some, None, refl, sym, subst, ◌∙◌}
use Rattle.std.specs.Prelude.{Result, Ok, Err, OnOk}
use Rattle.hay_needle.specs.declared.settings.Settings.{Settings}
use Rattle.hay_legal.specs.Items.{Asked, items_of}
use Rattle.hay_run.specs.declared.stops.Stop.{Stop}
use Rattle.hay_run.specs.declared.stops.Stop.TheVariants as stop
use Rattle.hay_run.specs.Causing.{AllCaused, AnswerTexts, CausedUntil, IsRestart, StopCaused, StopTook, Tally, TookLastItem}
use Rattle.hay_run.specs.Draws.{AsksNothing}
use Rattle.hay_run.specs.Items.{AsksAll, TookItems}
use Rattle.hay_lines.specs.Stream.{Held, rest_of}
use Rattle.hay_run.proofs.Asking.{took_items_more}
use Rattle.hay_run.proofs.Reading.{front_read, rest_none}

-- a store that is asked for nothing stays as it was opened
pub nothing_asked : (Tells : Type 0) (settings : Settings) (old new : Tally) (script written written' : Option (List ℕ)) → AllCaused Tells settings old new script written written'
    → AsksNothing script → new ≡ old
nothing_asked Tells settings old new script written written' all (bytes, told, none) =
    let asks : all.asked ≡ items_of bytes = subst (λ (s : Option (List ℕ)). AsksAll s all.asked) told all.all in
    let answers : AnswerTexts Tells settings old new [] (all.caused).text = subst (λ (l : List Asked). AnswerTexts Tells settings old new l (all.caused).text) (asks ∙ none) (all.caused).answers in
    answers.1

-- WHERE IT STOPS

none_first : (asked last others : List Asked) → [] ≡ (asked ++ last) ++ others → (asked ≡ []) × (last ≡ [])
none_first [] [] others is = (refl, refl)
none_first [] (one ∷ last) others is = cc
none_first (one ∷ asked) last others is = cc

none_front : (asked : List Asked) (others : List Asked) → [] ≡ asked ++ others → asked ≡ []
none_front [] others is = refl
none_front (one ∷ asked) others is = cc

abbrev held_none : Held
held_none = record { bytes = []; taken = 0; ended = false }

no_restart : IsRestart [] → ⊥
no_restart (number, pick, is) = cc

module _ (Tells : Type 0) (settings : Settings) where
  answered_none : (before after : Tally) (asked : List Asked) (text : List ℕ) → asked ≡ [] → AnswerTexts Tells settings before after asked text → after ≡ before
  answered_none before after asked text none answers =
      let nothing : AnswerTexts Tells settings before after [] text = subst (λ (l : List Asked). AnswerTexts Tells settings before after l text) none answers in
      nothing.1

  module _ (before after : Tally) (written written' : Option (List ℕ)) where
    stopped_none : (why : Stop) → StopCaused Tells settings before after why [] written written' → after ≡ before
    stopped_none stop.Input caused = caused.1
    stopped_none stop.TooLong caused = caused.1
    stopped_none stop.Output (inl caused) = caused.answers.1
    stopped_none stop.Output (inr (inl (not, part))) = absurd (no_restart not.restart)
    stopped_none stop.Output (inr (inr (not, note))) = absurd (no_restart not.restart)
    stopped_none stop.NoMemory (inl caused) = caused.answers.1
    stopped_none stop.NoMemory (inr (inl (not, part))) = absurd (no_restart not.restart)
    stopped_none stop.NoMemory (inr (inr (not, note))) = absurd (no_restart not.restart)
    stopped_none stop.Store (not, note) = absurd (no_restart not.restart)

  -- no item was read of a script that has none
  module _ (script : List ℕ) (none : items_of script ≡ []) (asked : List Asked) (number : ℕ) (rest : Option (List ℕ)) (took : TookItems 1 None (Some script) asked number rest false) where
    whole_none : asked ≡ []
    whole_none =
        let here : TookItems 1 None (Some script) asked number (rest_of rest held_none) false =
        subst (λ (r : Option (List ℕ)). TookItems 1 None (Some script) asked number r false) (sym (rest_none rest held_none refl)) took in
        let front = (front_read script asked number rest held_none false here).whole in
        none_front asked front.0 (sym none ∙ front.1)

    module _ (left : Option (List ℕ)) (held : Held) where
      last_none : (last : List Asked) → TookLastItem number last rest (rest_of left held) → last ≡ []
      last_none last (one, (next, ended, t)) =
          let front = (front_read script (asked ++ last) next left held ended (took_items_more 1 number next (Some script) rest (rest_of left held) asked last ended took t)).whole in
          (none_first asked last front.0 (sym none ∙ front.1)).1

      stop_none : (why : Stop) (before after : Tally) (last : List Asked) (written written' : Option (List ℕ)) → StopTook why number last rest (rest_of left held)
          → StopCaused Tells settings before after why last written written' → last ≡ []
      stop_none stop.Input before after last written written' t caused = caused.0
      stop_none stop.TooLong before after last written written' t caused = caused.0
      stop_none stop.Output before after last written written' t caused = last_none last t
      stop_none stop.NoMemory before after last written written' (inl t) caused = last_none last t
      stop_none stop.NoMemory before after last written written' (inr (is, t)) caused = is
      stop_none stop.Store before after last written written' t caused = last_none last t

  nothing_stopped : (old new : Tally) (why : Stop) (script written left written' : Option (List ℕ)) → CausedUntil Tells settings old new why script written left written'
      → AsksNothing script → new ≡ old
  nothing_stopped old new why script written left written' u (bytes, told, none) =
      let took : TookItems 1 None (Some bytes) u.asked u.number u.rest false = subst (λ (s : Option (List ℕ)). TookItems 1 None s u.asked u.number u.rest false) told u.took in
      let t = u.stops in
      let last = stop_none bytes none u.asked u.number u.rest took left u.held why u.mid new t.asked u.text written' t.took t.caused in
      stopped_none u.mid new u.text written' why (subst (λ (l : List Asked). StopCaused Tells settings u.mid new why l u.text written') last t.caused)
      ∙ answered_none old u.mid u.asked (u.caused).text (whole_none bytes none u.asked u.number u.rest took) (u.caused).answers

  -- so it stays however the run ends
  pub nothing_done : (old new : Tally) (script written left written' : Option (List ℕ)) (r : Result (Unit {0}) Stop) → OnOk r (AllCaused Tells settings old new script written written')
      → ((why : Stop) → r ≡ Err why → CausedUntil Tells settings old new why script written left written') → AsksNothing script → new ≡ old
  nothing_done old new script written left written' (Ok done) all until nothing = nothing_asked Tells settings old new script written written' all nothing
  nothing_done old new script written left written' (Err why) all until nothing = nothing_stopped old new why script written left written' (until why refl) nothing
