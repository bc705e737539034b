-- How many fuses were set on a disk never falls over a run, and stays where no line asks for one, whatever the disks and the sink tell.
use Rattle.std.proofs.Common.{◌≡◌, ◌⊎◌, inl, inr, ℕ, zero, suc, ◌<◌, ◌^◌, false, List, [], ◌∷◌, ◌++◌, Option, None, Some, refl, sym, ap, subst, ◌∙◌, arith}
use Rattle.std.specs.Prelude.{Err, OnOk, Result, slice_index, slice_set}
use Rattle.std.specs.List.{AllByRecursion as Each, AllZip}
use Rattle.std.proofs.lemmas.Bool.{cases_lt}
use Rattle.std.proofs.lemmas.Result.{on_ok_weaker}
use Rattle.hay_disk.specs.Counts.{IsNext}
use Rattle.hay_disk.specs.Shelf.{HeldDisk}
use Rattle.hay_disk.specs.Streams.{WrotePart}
use Rattle.hay_mount.specs.Mounts.{SameFrom}
use Rattle.hay_needle.specs.declared.settings.Settings.{Settings}
use Rattle.hay_script.specs.declared.Command.{Command}
use Rattle.hay_script.specs.declared.Command.TheVariants as asks
use Rattle.hay_legal.specs.declared.turn.Item.TheVariants as item
use Rattle.hay_legal.specs.Items.{Asked, items_of}
use Rattle.hay_legal.specs.Items.Asked.{Alone, Block}
use Rattle.hay_legal.specs.Known.{replica_on}
use Rattle.hay_legal.specs.Statuses.{Ending, IsFront}
use Rattle.hay_cluster.specs.Causes.{LeavesFuses, SetsFuse, SetsFuseOn}
use Rattle.hay_lines.specs.Stream.{Held, rest_of}
use Rattle.hay_run.specs.declared.stops.Stop.{Stop}
use Rattle.hay_run.specs.declared.stops.Stop.TheVariants as stop
use Rattle.hay_run.specs.Causing.{AllCaused, AnswerTexts, Caused, CausedUntil, IsTextOf, StopCaused, StopTook, Tally, ToldRefusal, ToldWanting, TookLastItem}
use Rattle.hay_run.specs.Fuses.{IsNoFuse, KeepsFuses}
use Rattle.hay_run.specs.Items.{TookItems}
use Rattle.hay_run.proofs.Asking.{took_items_more}
use Rattle.hay_run.proofs.Caused.{by_outcome}
use Rattle.hay_run.proofs.Reading.{front_read, rest_none}
use Rattle.hay_run.proofs.Unfused.{each_apart, fuses_same, texts_unfused}
use Rattle.hay_run.proofs.Unfusing.{IsMild, IsMildAsked}

-- ON A DISK

pub same_kept : (before after : ℕ) → after ≡ before → KeepsFuses before after
same_kept before after same = omega (arith, same)

more_kept : (a b c : ℕ) → KeepsFuses a b → KeepsFuses b c → KeepsFuses a c
more_kept a b c h k = omega (arith, h, k)

next_kept : (before after : ℕ) → IsNext before after → KeepsFuses before after
next_kept before after (inl more) = omega (arith, more)
next_kept before after (inr most) = omega (arith, most)

-- of the disks of a shelf, of which none but the first ones were used
pub shelf_keeps : (n : ℕ) (old new : ℕ → HeldDisk) → ((slot : ℕ) → slot < n → KeepsFuses (old slot).fuse_count (new slot).fuse_count) → SameFrom n old new
    → (slot : ℕ) → KeepsFuses (old slot).fuse_count (new slot).fuse_count
shelf_keeps n old new first same slot = elim (cases_lt slot n) [
  | inl below ↦ first slot below
  | inr above ↦ same_kept (old slot).fuse_count (new slot).fuse_count (ap (λ (d : HeldDisk). d.fuse_count) (same slot above))
]

pub shelf_same : (n : ℕ) (old new : ℕ → HeldDisk) → ((slot : ℕ) → slot < n → (new slot).fuse_count ≡ (old slot).fuse_count) → SameFrom n old new
    → (slot : ℕ) → (new slot).fuse_count ≡ (old slot).fuse_count
shelf_same n old new first same slot = elim (cases_lt slot n) [
  | inl below ↦ first slot below
  | inr above ↦ ap (λ (d : HeldDisk). d.fuse_count) (same slot above)
]

-- ON EACH DISK OF A STORE

abbrev pub AllKeepFuses : List ℕ → List ℕ → Type 0
AllKeepFuses before after = AllZip KeepsFuses before after

all_same : (fuses : List ℕ) → AllKeepFuses fuses fuses
all_same [] = tt
all_same (n ∷ fuses) = (same_kept n n refl, all_same fuses)

all_kept : (a b : List ℕ) → b ≡ a → AllKeepFuses a b
all_kept a b same = subst (λ (fuses : List ℕ). AllKeepFuses a fuses) (sym same) (all_same a)

all_more : (a b c : List ℕ) → AllKeepFuses a b → AllKeepFuses b c → AllKeepFuses a c
all_more [] [] [] h k = tt
all_more (x ∷ a) (y ∷ b) (z ∷ c) h k = (more_kept x y z h.0 k.0, all_more a b c h.1 k.1)
all_more [] [] (z ∷ c) h k = absurd k
all_more [] (y ∷ b) c h k = absurd h
all_more (x ∷ a) [] c h k = absurd h
all_more (x ∷ a) (y ∷ b) [] h k = absurd k

pub all_at : (a b : List ℕ) (slot : ℕ) → AllKeepFuses a b → KeepsFuses (slice_index a slot) (slice_index b slot)
all_at [] [] slot h = omega arith
all_at (x ∷ a) (y ∷ b) zero h = h.0
all_at (x ∷ a) (y ∷ b) (suc slot) h = all_at a b slot h.1
all_at [] (y ∷ b) slot h = absurd h
all_at (x ∷ a) [] slot h = absurd h

-- BY A COMMAND

set_keeps : (slot : ℕ) (before : List ℕ) (n : ℕ) → IsNext (slice_index before slot) n → AllKeepFuses before (slice_set before slot n)
set_keeps slot [] n next = tt
set_keeps zero (x ∷ before) n next = (next_kept x n next, all_same before)
set_keeps (suc slot) (x ∷ before) n next = (same_kept x x refl, set_keeps slot before n next)

set_one : (slot : ℕ) (before after : List ℕ) → SetsFuse slot before after → AllKeepFuses before after
set_one slot before after (n, next, set) = subst (λ (fuses : List ℕ). AllKeepFuses before fuses) (sym set) (set_keeps slot before n next)

set_on : (settings : Settings) (v m : ℕ) (before after : List ℕ) → SetsFuseOn settings v m before after → AllKeepFuses before after
set_on settings v m before after sets = by (replica_on settings v m) refl
  where
    by : (at : Option ℕ) → replica_on settings v m ≡ at → AllKeepFuses before after
    by (Some j) is = let one = rw is at sets in set_one _ before after one
    by None is = let same : after ≡ before = rw is at sets in all_kept before after same

command_keeps : (settings : Settings) (command : Command) (before after : List ℕ) → LeavesFuses settings command before after → AllKeepFuses before after
command_keeps settings (asks.Fuse v m calls) before after leaves = set_on settings v m before after leaves
command_keeps settings (asks.FuseDir calls) before after leaves = set_one 0 before after leaves
command_keeps settings (asks.Put pair photo) before after leaves = all_kept before after leaves
command_keeps settings (asks.Read pair cookie) before after leaves = all_kept before after leaves
command_keeps settings (asks.Get url) before after leaves = all_kept before after leaves
command_keeps settings (asks.Del pair) before after leaves = all_kept before after leaves
command_keeps settings (asks.Url pair) before after leaves = all_kept before after leaves
command_keeps settings (asks.Flush v m) before after leaves = all_kept before after leaves
command_keeps settings (asks.Drain m) before after leaves = all_kept before after leaves
command_keeps settings (asks.Undrain m) before after leaves = all_kept before after leaves
command_keeps settings (asks.Compact v m) before after leaves = all_kept before after leaves
command_keeps settings (asks.Begin v m) before after leaves = all_kept before after leaves
command_keeps settings (asks.Step v m cells) before after leaves = all_kept before after leaves
command_keeps settings (asks.Finish v m) before after leaves = all_kept before after leaves
command_keeps settings (asks.Restart pick) before after leaves = all_kept before after leaves

-- OVER A RUN

module _ (Tells : Type 0) (settings : Settings) where
  text_keeps : (before after : Tally) (asked : Asked) (text : List ℕ) → IsTextOf Tells settings before after asked text → AllKeepFuses before.fuses after.fuses
  text_keeps before after (Alone number (item.Command command)) text told = command_keeps settings command before.fuses after.fuses told.0
  text_keeps before after (Alone number item.Bad) text told = all_kept before.fuses after.fuses (fuses_same told.0)
  text_keeps before after (Block lines) text told = all_kept before.fuses after.fuses told.0

  texts_keep : (before after : Tally) (asked : List Asked) (text : List ℕ) → AnswerTexts Tells settings before after asked text → AllKeepFuses before.fuses after.fuses
  texts_keep before after [] text (none, same) = all_kept before.fuses after.fuses (fuses_same same)
  texts_keep before after (asked ∷ others) text (mid, first, rest, is, later, told, more) =
      all_more before.fuses mid.fuses after.fuses (text_keeps before mid asked first told) (texts_keep mid after others rest more)

  part_keeps : (before after : Tally) (last : List Asked) (written written' : Option (List ℕ)) → Caused Tells WrotePart settings before after last written written'
      ⊎ ToldWanting before after last written written' ⊎ ToldRefusal Tells WrotePart settings before after last written written' → AllKeepFuses before.fuses after.fuses
  part_keeps before after last written written' (inl c) = texts_keep before after last c.text c.answers
  part_keeps before after last written written' (inr (inl (not, front))) = all_kept before.fuses after.fuses not.fuses
  part_keeps before after last written written' (inr (inr (not, note))) = all_kept before.fuses after.fuses not.fuses

  stop_keeps : (why : Stop) (before after : Tally) (last : List Asked) (written written' : Option (List ℕ)) → StopCaused Tells settings before after why last written written'
      → AllKeepFuses before.fuses after.fuses
  stop_keeps stop.Input before after last written written' (none, same, wrote) = all_kept before.fuses after.fuses (fuses_same same)
  stop_keeps stop.TooLong before after last written written' (none, same, wrote) = all_kept before.fuses after.fuses (fuses_same same)
  stop_keeps stop.Output before after last written written' caused = part_keeps before after last written written' caused
  stop_keeps stop.NoMemory before after last written written' caused = part_keeps before after last written written' caused
  stop_keeps stop.Store before after last written written' (not, note) = all_kept before.fuses after.fuses not.fuses

  pub run_keeps : (old new : Tally) (script written script' written' : Option (List ℕ)) (r : Result (Unit {0}) Stop) → OnOk r (AllCaused Tells settings old new script written written')
      → ((why : Stop) → r ≡ Err why → CausedUntil Tells settings old new why script written script' written') → AllKeepFuses old.fuses new.fuses
  run_keeps old new script written script' written' r all until =
      by_outcome (λ (e : Ending). AllKeepFuses old.fuses new.fuses) r (on_ok_weaker r (λ a. texts_keep old new a.asked a.caused.text a.caused.answers) all)
      (λ why is. let u = until why is in all_more old.fuses u.mid.fuses new.fuses (texts_keep old u.mid u.asked u.caused.text u.caused.answers)
      (stop_keeps why u.mid new u.stops.asked u.text written' u.stops.caused))

-- WHERE NONE IS ASKED FOR

mild_command : (number : ℕ) (command : Command) → IsNoFuse (Alone number (item.Command command)) → IsMild command
mild_command number (asks.Fuse v m calls) none = (none number).0 v m calls refl
mild_command number (asks.FuseDir calls) none = (none number).1 calls refl
mild_command number (asks.Put pair photo) none = tt
mild_command number (asks.Read pair cookie) none = tt
mild_command number (asks.Get url) none = tt
mild_command number (asks.Del pair) none = tt
mild_command number (asks.Url pair) none = tt
mild_command number (asks.Flush v m) none = tt
mild_command number (asks.Drain m) none = tt
mild_command number (asks.Undrain m) none = tt
mild_command number (asks.Compact v m) none = tt
mild_command number (asks.Begin v m) none = tt
mild_command number (asks.Step v m cells) none = tt
mild_command number (asks.Finish v m) none = tt
mild_command number (asks.Restart pick) none = tt

mild_asked : (asked : Asked) → IsNoFuse asked → IsMildAsked asked
mild_asked (Alone number (item.Command command)) none = mild_command number command none
mild_asked (Alone number item.Bad) none = tt
mild_asked (Block lines) none = tt

mild_items : (asked : List Asked) → Each IsNoFuse asked → Each IsMildAsked asked
mild_items [] none = tt
mild_items (asked ∷ others) none = (mild_asked asked none.0, mild_items others none.1)

module _ (Tells : Type 0) (settings : Settings) (script : List ℕ) (none : Each IsNoFuse (items_of script)) where
  front_mild : (asked : List Asked) → IsFront asked (items_of script) → Each IsMildAsked asked
  front_mild asked (more, same) = (each_apart IsMildAsked asked more (subst (Each IsMildAsked) same (mild_items (items_of script) none))).0

  part_unfused : (before after : Tally) (last : List Asked) (written written' : Option (List ℕ)) → Each IsMildAsked last → Caused Tells WrotePart settings before after last written written'
      ⊎ ToldWanting before after last written written' ⊎ ToldRefusal Tells WrotePart settings before after last written written' → after.fuses ≡ before.fuses
  part_unfused before after last written written' mild (inl c) = texts_unfused Tells settings before after last c.text mild c.answers
  part_unfused before after last written written' mild (inr (inl (not, front))) = not.fuses
  part_unfused before after last written written' mild (inr (inr (not, note))) = not.fuses

  module _ (asked : List Asked) (number : ℕ) (rest left : Option (List ℕ)) (held : Held) (took : TookItems 1 None (Some script) asked number rest false) where
    whole_mild : Each IsMildAsked asked
    whole_mild =
        let empty : Held = record { bytes = []; taken = 0; ended = false } in
        let P : Option (List ℕ) → Type 0 = λ l. TookItems 1 None (Some script) asked number l false in
        front_mild asked (front_read script asked number rest empty false (subst P (sym (rest_none rest empty refl)) took)).whole

    last_mild : (last : List Asked) → TookLastItem number last rest (rest_of left held) → Each IsMildAsked last
    last_mild last (one, (next, ended, t)) =
        let r = front_read script (asked ++ last) next left held ended (took_items_more 1 number next (Some script) rest (rest_of left held) asked last ended took t) in
        (each_apart IsMildAsked asked last (front_mild (asked ++ last) r.whole)).1

    stop_unfused : (why : Stop) (before after : Tally) (last : List Asked) (written written' : Option (List ℕ)) → StopTook why number last rest (rest_of left held)
        → StopCaused Tells settings before after why last written written' → after.fuses ≡ before.fuses
    stop_unfused stop.Input before after last written written' t (nothing, same, wrote) = fuses_same same
    stop_unfused stop.TooLong before after last written written' t (nothing, same, wrote) = fuses_same same
    stop_unfused stop.Output before after last written written' t caused = part_unfused before after last written written' (last_mild last t) caused
    stop_unfused stop.NoMemory before after last written written' (inl t) caused = part_unfused before after last written written' (last_mild last t) caused
    stop_unfused stop.NoMemory before after last written written' (inr (nothing, some)) caused =
        part_unfused before after last written written' (subst (Each IsMildAsked) (sym nothing) tt) caused
    stop_unfused stop.Store before after last written written' t (not, note) = not.fuses

  pub run_unfused : (old new : Tally) (before written after written' : Option (List ℕ)) (r : Result (Unit {0}) Stop) → before ≡ Some script
      → OnOk r (AllCaused Tells settings old new before written written')
      → ((why : Stop) → r ≡ Err why → CausedUntil Tells settings old new why before written after written') → new.fuses ≡ old.fuses
  run_unfused old new before written after written' r told all until =
      by_outcome (λ (e : Ending). new.fuses ≡ old.fuses) r
      (on_ok_weaker r (λ a.
      let b : AllCaused Tells settings old new (Some script) written written' = subst (λ (l : Option (List ℕ)). AllCaused Tells settings old new l written written') told a in
      texts_unfused Tells settings old new b.asked b.caused.text (subst (Each IsMildAsked) (sym b.all) (mild_items (items_of script) none)) b.caused.answers) all)
      (λ why is.
      let u : CausedUntil Tells settings old new why (Some script) written after written' =
      subst (λ (l : Option (List ℕ)). CausedUntil Tells settings old new why l written after written') told (until why is) in
      stop_unfused u.asked u.number u.rest after u.held u.took why u.mid new u.stops.asked u.text written' u.stops.took u.stops.caused
      ∙ texts_unfused Tells settings old u.mid u.asked u.caused.text (whole_mild u.asked u.number u.rest after u.held u.took) u.caused.answers)

-- REFUSED

-- a command behind which a disk has fewer fuses than before
pub fuse_unset_by_a_command : (settings : Settings) (command : Command) (before after : List ℕ) (slot : ℕ) → slice_index before slot < 2 ^ 64
    → slice_index after slot < slice_index before slot → LeavesFuses settings command before after → ⊥
fuse_unset_by_a_command settings command before after slot counted fewer leaves =
    let kept = all_at before after slot (command_keeps settings command before after leaves) in omega (arith, kept, counted, fewer)

-- a disk that a run gives back with fewer than it was taken with
pub fewer_fuses_given_back : (old new : ℕ → HeldDisk) (slot : ℕ) → (old slot).fuse_count < 2 ^ 64 → (new slot).fuse_count < (old slot).fuse_count
    → ((slot : ℕ) → KeepsFuses (old slot).fuse_count (new slot).fuse_count) → ⊥
fewer_fuses_given_back old new slot counted fewer keeps = let kept = keeps slot in omega (arith, kept, counted, fewer)
