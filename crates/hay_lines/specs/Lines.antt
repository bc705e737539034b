-- Lines of a script, as they are taken.
use Rattle.std.specs.Prelude.{◌≡◌, ◌≢◌, ◌⊎◌, ◌==◌, ℕ, ◌<◌, ◌≤◌, Bool, true, false, List, [], ◌∷◌, ◌++◌, length, Option, if◌then◌else◌}
use Rattle.hay_disk.specs.Streams.{Took}
use Rattle.hay_script.specs.declared.words.TheConstants.{MAX_LINE}
use Rattle.hay_script.specs.Script.{seen_byte, words_of, is_blank, is_skipped}
use Rattle.hay_lines.specs.declared.start.LineRead.{LineRead}
use Rattle.hay_lines.specs.declared.start.LineRead.TheVariants.{Line, TooLong, Skipped, End}
use Rattle.hay_lines.specs.declared.start.LineStart.{LineStart}
use Rattle.hay_lines.specs.declared.start.LineStart.TheVariants.{Blank, BlankReturn, Comment, Words}
use Rattle.hay_lines.specs.Stream.{TookAll, TookOne}

-- no byte is a line feed
abbrev pub NoFeed : List ℕ → Type 0
NoFeed [] = Unit {0}
NoFeed (b ∷ bytes) = (b ≢ 10) × NoFeed bytes

-- the text of a line that a line feed ends: a carriage return at its end counts as a space
abbrev pub fed_text : List ℕ → List ℕ
fed_text [] = []
fed_text (b ∷ bytes) = seen_byte b (bytes ++ 10 ∷ []) ∷ fed_text bytes

-- A line with this text was taken, with its line feed.
pub record TookFed (before : Option (List ℕ)) (text : List ℕ) (after : Option (List ℕ)) : Type 0 where
  pub bytes : List ℕ
  pub free : NoFeed bytes
  pub text_is : text ≡ fed_text bytes
  pub took : Took before (bytes ++ 10 ∷ []) after

-- The last line was taken, which no line feed ends.
pub record TookLast (before : Option (List ℕ)) (text : List ℕ) (after : Option (List ℕ)) : Type 0 where
  pub free : NoFeed text
  pub some : 0 < length text
  pub all : TookAll before text after

-- a line was taken, and the end was met if it was the last one, without a line feed
abbrev pub TookLine : Option (List ℕ) → List ℕ → Option (List ℕ) → Bool → Type 0
TookLine before text after ended =
    (TookFed before text after × (ended ≡ false)) ⊎ (TookLast before text after × (ended ≡ true))

-- the front of a line was taken
abbrev pub TookPart : Option (List ℕ) → Option (List ℕ) → Type 0
TookPart before after = (part : List ℕ) × NoFeed part × Took before part after

-- the front of a line was taken, and one byte more
abbrev pub TookOver : Option (List ℕ) → Option (List ℕ) → Type 0
TookOver before after = (mid : Option (List ℕ)) × TookPart before mid × TookOne mid after

-- what is kept of the bytes of a line so far: all of them, and of a line that is too long nothing is said
abbrev pub Keeps : Bool → List ℕ → List ℕ → Type 0
Keeps false kept given = (kept ≡ given) × (length kept ≤ MAX_LINE)
Keeps true kept given = MAX_LINE < length given

-- what is kept of a line with this text: the line, or, where it is too long, whether it says nothing
abbrev pub KeepsText : LineRead → List ℕ → List ℕ → Type 0
KeepsText Line kept text = (kept ≡ text) × (length text ≤ MAX_LINE)
KeepsText TooLong kept text = (MAX_LINE < length text) × (is_skipped (words_of text) ≡ false)
KeepsText Skipped kept text = (MAX_LINE < length text) × (is_skipped (words_of text) ≡ true)
KeepsText End kept text = ⊥

-- a line was taken, or the end was met
abbrev pub ReadsLine : LineRead → List ℕ → Option (List ℕ) → Option (List ℕ) → Bool → Type 0
ReadsLine End kept before after ended = TookAll before [] after × (ended ≡ true)
ReadsLine read kept before after ended = (text : List ℕ) × TookLine before text after ended × KeepsText read kept text

-- how a line begins that began so and has this byte next
abbrev pub start_behind : LineStart → ℕ → LineStart
start_behind Blank b = if is_blank b then Blank else if b == 13 then BlankReturn else if b == 35 then Comment else Words
start_behind BlankReturn b = Words
start_behind Comment b = Comment
start_behind Words b = Words

-- what came of a line that is too long, by its beginning: where a line feed ends it, and where none does
abbrev pub long_fed : LineStart → LineRead
long_fed Words = TooLong
long_fed _ = Skipped

abbrev pub long_last : LineStart → LineRead
long_last Blank = Skipped
long_last Comment = Skipped
long_last _ = TooLong

-- lines with these texts were taken, each with its line feed
abbrev pub TookFeds : Option (List ℕ) → List (List ℕ) → Option (List ℕ) → Type 0
TookFeds before [] after = Took before [] after
TookFeds before (text ∷ texts) after = (mid : Option (List ℕ)) × TookFed before text mid × TookFeds mid texts after

-- and these were all, the last perhaps without a line feed
abbrev pub TookToEnd : Option (List ℕ) → List (List ℕ) → Option (List ℕ) → Type 0
TookToEnd before [] after = TookAll before [] after
TookToEnd before (text ∷ texts) after =
    (TookLast before text after × (texts ≡ [])) ⊎ ((mid : Option (List ℕ)) × TookFed before text mid × TookToEnd mid texts after)

-- lines were taken, and the end was met or not
abbrev pub TookLines : Option (List ℕ) → List (List ℕ) → Option (List ℕ) → Bool → Type 0
TookLines before texts after ended =
    (TookFeds before texts after × (ended ≡ false)) ⊎ (TookToEnd before texts after × (ended ≡ true))

-- some bytes were taken
abbrev pub TookSome : Option (List ℕ) → Option (List ℕ) → Type 0
TookSome before after = (piece : List ℕ) × Took before piece after
