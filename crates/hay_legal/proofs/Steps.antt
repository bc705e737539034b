-- Short words for worked transcripts.
use Rattle.std.specs.Prelude.{◌≡◌, ℕ, List, [], ◌∷◌, replicate, refl, map}
use Rattle.std.proofs.Common.{arith}
use Rattle.hay_needle.specs.declared.settings.Settings.{Settings}
use Rattle.hay_needle.specs.declared.needle.Pair.{Pair}
use Rattle.hay_needle.specs.declared.needle.Cookie.{Cookie}
use Rattle.hay_script.specs.declared.Command.{Command}
use Rattle.hay_reply.specs.declared.Reply.{Reply}
use Rattle.hay_core.specs.declared.entry.CoreTag.{CoreTag}
use Rattle.hay_legal.specs.declared.known.Known.{Known}
use Rattle.hay_legal.specs.declared.turn.Item.TheVariants as item
use Rattle.hay_legal.specs.declared.turn.Turn.{Turn}
use Rattle.hay_legal.specs.declared.turn.Turn.TheVariants.{Plain}
use Rattle.hay_legal.specs.Items.{items_of, item_of_turn}
use Rattle.hay_legal.specs.Transcript.{transcript_text}
use Rattle.hay_legal.specs.Known.{NoneFalls, Leaves, with_home}
use Rattle.hay_legal.specs.Plain.{with_put, with_del, change_volume}
use Rattle.hay_legal.specs.Legal.{Legal}

abbrev pub shaped : ℕ → ℕ → ℕ → Settings
shaped machines volumes replicas = record { machines = machines; volumes = volumes; replicas = replicas; capacity = 67108864; secret = replicate 32 0 }

abbrev pub one : Settings
one = shaped 1 1 1

abbrev pub pair : ℕ → Pair
pair alt = record { key = 0; alt = alt }

abbrev pub own : Cookie
own = record { 0 = 0x903df1a0ade0b876 }

abbrev pub at_line : ℕ → CoreTag
at_line line = record { lane = 0; line = line }

abbrev pub plain : ℕ → Command → Reply → Known → Turn
plain line command reply after = Plain line (item.Command command) reply after

abbrev pub put_on : Known → ℕ → ℕ → ℕ → List ℕ → Known
put_on k v line alt bytes = with_home (change_volume k v (λ volume. with_put volume (at_line line) (pair alt) own bytes)) (pair alt) v

abbrev pub del_on : Known → ℕ → ℕ → ℕ → Known
del_on k v line alt = change_volume k v (with_del [] (at_line line) (pair alt))

abbrev pub with_faults : Known → List ℕ → Known
with_faults k faults = record k { faults = faults }

pub none_falls : (xs : List ℕ) → NoneFalls xs xs
none_falls [] = tt
none_falls (x ∷ xs) = (omega arith, none_falls xs)

-- where no count rose
pub same_counts : (k t : Known) → t.faults ≡ k.faults → t.arms ≡ k.arms → Leaves k t t
same_counts k t faults arms = record {
  volumes = refl;
  directory = refl;
  drained = refl;
  fuses = refl;
  faults = rw faults (none_falls k.faults);
  arms = rw arms (none_falls k.arms);
}

-- where counts of disks rose
pub more_faults : (k t : Known) (faults : List ℕ) → NoneFalls k.faults faults → t.arms ≡ k.arms → Leaves k t (with_faults t faults)
more_faults k t faults rose arms = record {
  volumes = refl;
  directory = refl;
  drained = refl;
  fuses = refl;
  faults = rose;
  arms = rw arms (none_falls k.arms);
}

-- where counts of arms rose
pub more_arms : (k : Known) (arms : List ℕ) → NoneFalls k.arms arms → Leaves k k (record k { arms = arms })
more_arms k arms rose = record {
  volumes = refl;
  directory = refl;
  drained = refl;
  fuses = refl;
  faults = none_falls k.faults;
  arms = rose;
}

-- A transcript that turns explain.
pub record Explains (settings : Settings) (k : Known) (script transcript : List ℕ) : Type 0 where
  pub turns : List Turn
  pub t : Known
  pub items : map item_of_turn turns ≡ items_of script
  pub legal : Legal settings k turns t
  pub text : transcript_text settings turns ≡ transcript
