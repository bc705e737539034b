-- A drill gives each disk back with as many fuses set as it had, whatever the disks tell.
use Rattle.std.proofs.Common.{◌≡◌, ◌⊎◌, inl, inr, ℕ, ◌<◌, ◌≤◌, Bool, List, [], ◌∷◌, ◌++◌, Option, refl, sym, ap, subst, ◌∙◌, append-nil}
use Rattle.std.specs.Prelude.{slice_index}
use Rattle.std.specs.List.{AllByRecursion as Each}
use Rattle.hay_disk.specs.Shelf.{HeldDisk}
use Rattle.hay_needle.specs.declared.settings.Settings.{Settings}
use Rattle.hay_script.specs.declared.Command.{Command}
use Rattle.hay_script.specs.declared.Command.TheVariants as asks
use Rattle.hay_legal.specs.declared.turn.Item.TheVariants as item
use Rattle.hay_legal.specs.Items.{Asked, items_of}
use Rattle.hay_legal.specs.Items.Asked.{Alone, Block}
use Rattle.hay_legal.specs.Known.{disk_count}
use Rattle.hay_legal.specs.Stands.{Outside}
use Rattle.hay_legal.specs.Statuses.{Ending, IsFront}
use Rattle.hay_legal.specs.Statuses.Ending.{ReadAll, OutputFault, InputFault, NoMemory, NotOpened, TooLong}
use Rattle.hay_cluster.specs.Causes.{LeavesFuses}
use Rattle.hay_drill.specs.Script.{drill_script, settings}
use Rattle.hay_run.specs.Causing.{AnswerTexts, AsksBy, CausedRun, IsPartBehind, IsTextOf, OpenedText, StandsBehind, Tally, UnopenedText}
use Rattle.hay_run.specs.Runs.{ReadBytes}
use Rattle.hay_run.proofs.Unfusing.{IsMild, IsMildAsked, all_mild, before_mild}

mild_fuses : (store : Settings) (command : Command) (before after : List ℕ) → IsMild command → LeavesFuses store command before after → after ≡ before
mild_fuses store (asks.Put pair photo) before after mild same = same
mild_fuses store (asks.Read pair cookie) before after mild same = same
mild_fuses store (asks.Get url) before after mild same = same
mild_fuses store (asks.Del pair) before after mild same = same
mild_fuses store (asks.Url pair) before after mild same = same
mild_fuses store (asks.Flush v m) before after mild same = same
mild_fuses store (asks.Compact v m) before after mild same = same
mild_fuses store (asks.Begin v m) before after mild same = same
mild_fuses store (asks.Step v m cells) before after mild same = same
mild_fuses store (asks.Finish v m) before after mild same = same
mild_fuses store (asks.Drain m) before after mild same = same
mild_fuses store (asks.Undrain m) before after mild same = same
mild_fuses store (asks.Fuse v m calls) before after mild set = absurd mild
mild_fuses store (asks.FuseDir calls) before after mild set = absurd mild
mild_fuses store (asks.Restart pick) before after mild same = same

pub fuses_same : {a b : Tally} → a ≡ b → a.fuses ≡ b.fuses
fuses_same e = ap (λ (tally : Tally). tally.fuses) e

pub each_apart : {A : Type 0} (P : A → Type 0) (xs ys : List A) → Each P (xs ++ ys) → Each P xs × Each P ys
each_apart P [] ys each = (tt, each)
each_apart P (x ∷ xs) ys each = let rest = each_apart P xs ys each.1 in ((each.0, rest.0), rest.1)

-- WHAT WAS READ

read_front : (ending : Ending) (script read : List ℕ) (left : Option (List ℕ)) → ReadBytes ending script read left → (rest : List ℕ) × (script ≡ read ++ rest)
read_front ReadAll script read left (is, none) = ([], is ∙ sym (append-nil read))
read_front TooLong script read left (long, (byte, rest, is, more)) = (byte ∷ rest, is)
read_front OutputFault script read left (rest, is, more) = (rest, is)
read_front InputFault script read left (rest, is, more) = (rest, is)
read_front NoMemory script read left (rest, is, more) = (rest, is)
read_front NotOpened script read left (rest, is, more) = (rest, is)

module _ (count first : ℕ) (read rest : List ℕ) (is : drill_script count first ≡ read ++ rest) where
  front_mild : (whole last : List Asked) → IsFront (whole ++ last) (items_of read) → Each IsMildAsked whole × Each IsMildAsked last
  front_mild whole last (more, same) =
      each_apart IsMildAsked whole last (each_apart IsMildAsked (whole ++ last) more (subst (Each IsMildAsked) same (all_mild count first read rest is))).0

  asked_mild : (ending : Ending) (whole last : List Asked) → AsksBy ending (drill_script count first) read whole last → Each IsMildAsked whole × Each IsMildAsked last
  asked_mild ReadAll whole last asks = (subst (Each IsMildAsked) (sym asks.0) (all_mild count first read rest is), subst (Each IsMildAsked) (sym asks.1) tt)
  asked_mild InputFault whole last asks = (subst (Each IsMildAsked) (sym asks.0) (before_mild count first read rest is), subst (Each IsMildAsked) (sym asks.1) tt)
  asked_mild TooLong whole last asks = (subst (Each IsMildAsked) (sym asks.0) (before_mild count first read rest is), subst (Each IsMildAsked) (sym asks.1) tt)
  asked_mild OutputFault whole last asks = front_mild whole last asks.1
  asked_mild NoMemory whole last asks = front_mild whole last asks.1
  asked_mild NotOpened whole last asks = front_mild whole last asks.1

-- WHAT WAS ANSWERED

module _ (Tells : Type 0) (store : Settings) where
  text_unfused : (before after : Tally) (asked : Asked) (text : List ℕ) → IsMildAsked asked → IsTextOf Tells store before after asked text → after.fuses ≡ before.fuses
  text_unfused before after (Alone number (item.Command command)) text mild told = mild_fuses store command before.fuses after.fuses mild told.0
  text_unfused before after (Alone number item.Bad) text mild told = fuses_same told.0
  text_unfused before after (Block lines) text mild told = told.0

  pub texts_unfused : (before after : Tally) (asked : List Asked) (text : List ℕ) → Each IsMildAsked asked → AnswerTexts Tells store before after asked text → after.fuses ≡ before.fuses
  texts_unfused before after [] text mild (none, same) = fuses_same same
  texts_unfused before after (asked ∷ others) text mild (mid, first, rest, is, later, told, more) =
      texts_unfused mid after others rest mild.1 more ∙ text_unfused before mid asked first mild.0 told

  part_unfused : (before after : Tally) (last : List Asked) (part : List ℕ) → Each IsMildAsked last → IsPartBehind Tells store before after last part → after.fuses ≡ before.fuses
  part_unfused before after last part mild (inl (text, told, front)) = texts_unfused before after last text mild told
  part_unfused before after last part mild (inr (inl (not, front))) = not.fuses
  part_unfused before after last part mild (inr (inr (not, note))) = not.fuses

  behind_unfused : (ending : Ending) (before after : Tally) (last : List Asked) (part : List ℕ) → Each IsMildAsked last → StandsBehind Tells ending store before after last part
      → after.fuses ≡ before.fuses
  behind_unfused ReadAll before after last part mild behind = fuses_same behind.1
  behind_unfused InputFault before after last part mild behind = fuses_same behind.1
  behind_unfused TooLong before after last part mild behind = fuses_same behind.1
  behind_unfused OutputFault before after last part mild behind = part_unfused before after last part mild behind
  behind_unfused NoMemory before after last part mild behind = part_unfused before after last part mild behind
  behind_unfused NotOpened before after last part mild behind = (behind.0).fuses

module _ (Tells : Type 0) (count first : ℕ) (ending : Ending) (left : Option (List ℕ)) (taken given : Outside) (sure : ℕ → Bool) (disks disks' : ℕ → HeldDisk) (held : List ℕ)
    (written : Option (List ℕ)) where
  opened_unfused : (read text : List ℕ) → ReadBytes ending (drill_script count first) read left → OpenedText Tells settings ending (drill_script count first) read taken given sure text
      → (slot : ℕ) → slot < disk_count settings → given.fuses slot ≡ taken.fuses slot
  opened_unfused read text bytes opened slot within =
      let front = read_front ending (drill_script count first) read left bytes in
      let mild = asked_mild count first read front.0 front.1 ending opened.whole opened.last opened.asks in
      let same : (opened.new).fuses ≡ (opened.old).fuses =
      behind_unfused Tells settings ending opened.mid opened.new opened.last opened.part mild.1 opened.behind
      ∙ texts_unfused Tells settings opened.old opened.mid opened.whole opened.answered mild.0 opened.answers in
      (opened.ends).fuses slot within ∙ (ap (λ fuses. slice_index fuses slot) same ∙ (opened.begins).fuses slot within)

  run_unfused : CausedRun Tells settings ending (drill_script count first) left taken given sure disks disks' held written
      → (slot : ℕ) → slot < disk_count settings → given.fuses slot ≡ taken.fuses slot
  run_unfused run slot within = elim (run.causes) [
    | inl opened ↦ opened_unfused run.read run.text run.bytes opened slot within
    | inr unopened ↦ unopened.fuses slot within
  ]

  -- in the terms of a run of a script that it wrote, in the store that it is run in
  pub drill_unfused : (store : Settings) (script : List ℕ) → store ≡ settings → script ≡ drill_script count first
      → CausedRun Tells store ending script left taken given sure disks disks' held written
      → (slot : ℕ) → slot < disk_count settings → given.fuses slot ≡ taken.fuses slot
  drill_unfused store script is_store is_script run =
      run_unfused (subst (λ (l : List ℕ). CausedRun Tells settings ending l left taken given sure disks disks' held written) is_script
      (subst (λ (s : Settings). CausedRun Tells s ending script left taken given sure disks disks' held written) is_store run))
