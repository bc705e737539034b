-- The one frame of an input.
use Rattle.std.proofs.Common.{◌≡◌, inl, inr, ℕ, ◌+◌, ◌<◌, ◌≤◌, List, [], ◌∷◌, ◌++◌}
use Rattle.std.proofs.Common.{length, Option, Some, None, refl, sym, ap, ◌∙◌, append_assoc, length-append, arith}
use Rattle.std.specs.Prelude.{codes, drop}
use Rattle.std.proofs.lemmas.List.{append-nil}
use Rattle.hay_disk.specs.Streams.{Took}
use Rattle.hay_script.specs.Script.{below}
use Rattle.hay_script.specs.declared.words.TheConstants.{MAX_SCRIPT}
use Rattle.hay_lines.specs.Lines.{NoFeed}
use Rattle.hay_lines.specs.Stream.{TookAll}
use Rattle.hay_lines.proofs.Taking.{NoFeed-append}
use Rattle.hay_frame.specs.declared.frame.TheConstants.{TRANSCRIPT}
use Rattle.hay_frame.specs.declared.line.TheConstants.{LINE}
use Rattle.hay_frame.specs.Frames.{IsFramed, IsUnframed, IsOverlong, TookFrame, TookNoLine, TookShort, TookBeyond, length_in}
use Rattle.hay_frame.proofs.Numbers.{below_digits, digits_free, length_in_word, word_of_length}

-- THE FIRST LINE FEED

pub feed_later : (line rest front more : List ℕ) → NoFeed front → line ++ 10 ∷ rest ≡ front ++ more → length front ≤ length line
feed_later line rest [] more free e = omega arith
feed_later [] rest (b ∷ front) more free e = let first : b ≡ 10 = cc in absurd (free.0 first)
feed_later (a ∷ line) rest (b ∷ front) more free e =
    let tails : line ++ 10 ∷ rest ≡ front ++ more = cc in
    let h = feed_later line rest front more free.1 tails in
    omega (arith, h)

pub one_line : (line rest line' rest' : List ℕ) → NoFeed line → NoFeed line' → line ++ 10 ∷ rest ≡ line' ++ 10 ∷ rest'
    → (line ≡ line') × (rest ≡ rest')
one_line [] rest [] rest' free free' e = (refl, cc)
one_line [] rest (b ∷ line') rest' free free' e = let first : b ≡ 10 = cc in absurd (free'.0 first)
one_line (a ∷ line) rest [] rest' free free' e = let first : a ≡ 10 = cc in absurd (free.0 first)
one_line (a ∷ line) rest (b ∷ line') rest' free free' e =
    let tails : line ++ 10 ∷ rest ≡ line' ++ 10 ∷ rest' = cc in
    let h = one_line line rest line' rest' free.1 free'.1 tails in
    let first : a ≡ b = cc in
    (cc (h.0), h.1)

-- THE FRAME

-- the first line of a frame
pub word_free : (digits : List ℕ) (n : ℕ) → below (MAX_SCRIPT + 1) digits ≡ Some n → NoFeed (codes "script " ++ digits)
word_free digits n number =
    NoFeed-append (codes "script ") digits (λ same. cc, (λ same. cc, (λ same. cc, (λ same. cc, (λ same. cc, (λ same. cc, (λ same. cc, tt)))))))
    (digits_free digits (below_digits (MAX_SCRIPT + 1) digits n number).all)

-- the input's first line and what is behind it are those of the frame
pub frame_by : (input script transcript line rest : List ℕ) → IsFramed input script transcript → NoFeed line → input ≡ line ++ 10 ∷ rest
    → (length_in line ≡ Some (length script)) × (rest ≡ script ++ transcript)
frame_by input script transcript line rest framed free e =
    let own = one_line line rest (codes "script " ++ framed.digits) (script ++ transcript) free
    (word_free framed.digits (length script) framed.number) (sym e ∙ framed.input_is) in
    (ap length_in own.0 ∙ length_in_word framed.digits ∙ framed.number, own.1)

-- no more than one script and one transcript is framed by an input
same_front : (a b c d : List ℕ) → length a ≡ length c → a ++ b ≡ c ++ d → (a ≡ c) × (b ≡ d)
same_front [] b [] d long e = (refl, e)
same_front [] b (y ∷ c) d long e = absurd (omega (arith, long))
same_front (x ∷ a) b [] d long e = absurd (omega (arith, long))
same_front (x ∷ a) b (y ∷ c) d long e =
    let tails : a ++ b ≡ c ++ d = cc in
    let h = same_front a b c d (omega (arith, long)) tails in
    let first : x ≡ y = cc in
    (cc (h.0), h.1)

pub one_frame : (input script transcript script' transcript' : List ℕ) → IsFramed input script transcript → IsFramed input script' transcript'
    → (script ≡ script') × (transcript ≡ transcript')
one_frame input script transcript script' transcript' one other =
    let h = frame_by input script' transcript' (codes "script " ++ one.digits) (script ++ transcript) other
    (word_free one.digits (length script) one.number) one.input_is in
    let same : Some (length script') ≡ Some (length script) = sym h.0 ∙ length_in_word one.digits ∙ one.number in
    same_front script transcript script' transcript' (cc (same)) h.1

-- a good line, a script of its length and a transcript are a frame
framed_by : (input line script transcript : List ℕ) → length_in line ≡ Some (length script) → input ≡ line ++ 10 ∷ (script ++ transcript)
    → IsFramed input script transcript
framed_by input line script transcript says e =
    let word = word_of_length line (length script) says in
    record { digits = drop 7 line; number = word.1; input_is = e ∙ ap (λ (l : List ℕ). l ++ 10 ∷ (script ++ transcript)) word.0 }

line_and : (line rest : List ℕ) → (line ++ 10 ∷ []) ++ rest ≡ line ++ 10 ∷ rest
line_and line rest = append_assoc line (10 ∷ []) rest

pub frame_taken : (before mid rest after : Option (List ℕ)) (line script transcript : List ℕ) → Took before (line ++ 10 ∷ []) mid
    → length_in line ≡ Some (length script) → Took mid script rest → TookAll rest transcript after → TookFrame before script transcript after
frame_taken None mid rest after line script transcript first says body tail = tt
frame_taken (Some input) None rest after line script transcript first says body tail = cc
frame_taken (Some input) (Some behind) None after line script transcript first says body tail = cc
frame_taken (Some input) (Some behind) (Some last) after line script transcript first says body tail =
    let same : behind ≡ first.0 = cc in
    let again : last ≡ body.0 = cc in
    let cut : behind ≡ script ++ transcript = body.2 ∙ ap (λ (l : List ℕ). script ++ l) (sym again ∙ tail.0) in
    let whole : input ≡ line ++ 10 ∷ (script ++ transcript) = first.2 ∙ line_and line first.0
    ∙ ap (λ (l : List ℕ). line ++ 10 ∷ l) (sym same ∙ cut) in
    (framed_by input line script transcript says whole, tail.1)

-- WHAT IS NO FRAME

line_short : (digits : List ℕ) (n : ℕ) → below (MAX_SCRIPT + 1) digits ≡ Some n → length (codes "script " ++ digits) < LINE
line_short digits n number =
    let few = (below_digits (MAX_SCRIPT + 1) digits n number).few in
    omega (arith, few, length-append (codes "script ") digits)

long_line : (before after : Option (List ℕ)) (front : List ℕ) → NoFeed front → Took before front after → LINE ≤ length front → IsUnframed before
long_line None after front free took long = λ input script transcript is framed. cc
long_line (Some all) after front free took long = λ input script transcript is framed.
    let same : all ≡ input = cc in
    let line = codes "script " ++ framed.digits in
    let later = feed_later line (script ++ transcript) front took.0 free (sym framed.input_is ∙ sym same ∙ took.2) in
    absurd (omega (arith, later, long, line_short framed.digits (length script) framed.number))

no_feed : (before after : Option (List ℕ)) (front : List ℕ) → NoFeed front → TookAll before front after → IsUnframed before
no_feed None after front free whole = λ input script transcript is framed. cc
no_feed (Some all) after front free whole = λ input script transcript is framed.
    let same : all ≡ input = cc in
    let line = codes "script " ++ framed.digits in
    let e : line ++ 10 ∷ (script ++ transcript) ≡ front ++ [] = sym framed.input_is ∙ sym same ∙ whole.0 ∙ sym (append-nil front) in
    let later = feed_later line (script ++ transcript) front [] free e in
    absurd (omega (arith, later, ap length e, length-append line (10 ∷ (script ++ transcript)), length-append front []))

pub no_line : (before after : Option (List ℕ)) → TookNoLine before after → IsUnframed before
no_line before after none = elim none.2 [
  | inl long ↦ long_line before after none.0 none.1 long.0 long.1
  | inr whole ↦ no_feed before after none.0 none.1 whole
]

pub bad_line : (before after : Option (List ℕ)) (line : List ℕ) → NoFeed line → Took before (line ++ 10 ∷ []) after → length_in line ≡ None
    → IsUnframed before
bad_line None after line free took says = λ input script transcript is framed. cc
bad_line (Some all) after line free took says = λ input script transcript is framed.
    let same : all ≡ input = cc in
    let own = frame_by input script transcript line took.0 framed free (sym same ∙ took.2 ∙ line_and line took.0) in
    cc (own.0, says)

pub bad_script : (before mid after : Option (List ℕ)) (line : List ℕ) (n : ℕ) → NoFeed line → Took before (line ++ 10 ∷ []) mid
    → length_in line ≡ Some n → TookShort n mid after → IsUnframed before
bad_script None mid after line n free took says short = λ input script transcript is framed. cc
bad_script (Some all) None after line n free took says short = λ input script transcript is framed. cc
bad_script (Some all) (Some behind) after line n free took says short = λ input script transcript is framed.
    let same : all ≡ input = cc in
    let again : behind ≡ took.0 = cc in
    let own = frame_by input script transcript line took.0 framed free (sym same ∙ took.2 ∙ line_and line took.0) in
    let number : n ≡ length script = cc (own.0, says) in
    let cut : short.0 ≡ script ++ transcript = sym short.2.0 ∙ again ∙ own.1 in
    absurd (omega (arith, number, short.1, ap length cut, length-append script transcript))

-- A FRAME THAT IS TOO LONG

pub overlong : (before mid rest after : Option (List ℕ)) (line script : List ℕ) → Took before (line ++ 10 ∷ []) mid
    → length_in line ≡ Some (length script) → Took mid script rest → TookBeyond TRANSCRIPT rest after → IsOverlong before after
overlong None mid rest after line script first says body beyond = λ input is. cc
overlong (Some all) None rest after line script first says body beyond = λ input is. cc
overlong (Some all) (Some behind) None after line script first says body beyond = λ input is. cc
overlong (Some all) (Some behind) (Some last) after line script first says body beyond = λ input is.
    let same : all ≡ input = cc in
    let here : behind ≡ first.0 = cc in
    let again : last ≡ body.0 = cc in
    let tail = beyond.0 ++ beyond.1 ∷ beyond.3.0 in
    let ends : last ≡ tail = beyond.3.2 ∙ append_assoc beyond.0 (beyond.1 ∷ []) beyond.3.0 in
    let cut : behind ≡ script ++ tail = body.2 ∙ ap (λ (l : List ℕ). script ++ l) (sym again ∙ ends) in
    let whole : input ≡ line ++ 10 ∷ (script ++ tail) = sym same ∙ first.2 ∙ line_and line first.0
    ∙ ap (λ (l : List ℕ). line ++ 10 ∷ l) (sym here ∙ cut) in
    (script, beyond.0, beyond.1, beyond.3.0, framed_by input line script tail says whole, beyond.2, beyond.3.1)
