-- Candidates at their places of a transcript.
use Rattle.std.proofs.Common.{◌≡◌, ◌≢◌, ℕ, zero, suc, ◌+◌, ◌<◌, ◌≤◌, List, [], ◌∷◌, ◌++◌, length, drop, refl, sym, ap, subst, ◌∙◌, inl, inr, arith, append_assoc, codes}
use Rattle.std.specs.Prelude.{◌^◌, map}
use Rattle.std.specs.List.{AllByRecursion as Each}
use Rattle.std.proofs.lemmas.List.{length-drop}
use Rattle.hay_needle.specs.declared.settings.Settings.{Settings}
use Rattle.hay_reply.specs.declared.Reply.{Reply}
use Rattle.hay_reply.specs.Fits.{FitsReply}
use Rattle.hay_reply.specs.Replies.{field, header_line, numbered_line}
use Rattle.hay_legal.specs.Known.{fresh_unharmed}
use Rattle.hay_legal.specs.declared.turn.Item.{Item}
use Rattle.hay_legal.specs.declared.turn.Item.TheVariants as item
use Rattle.hay_legal.specs.Items.Asked.{Alone}
use Rattle.hay_audit_steps.specs.BoxPlain.{IsBoxOf, box_plain, exact_box}
use Rattle.hay_audit_steps.specs.Boxes.{Box, Has}
use Rattle.hay_audit_steps.specs.Judged.{Begins, IsAny, IsOpenItem, IsUsed}
use Rattle.hay_audit_steps.specs.Reached.{Candidate as Kept, AllAdvance, IsNoRestart, candidate}
use Rattle.hay_audit_steps.proofs.BoxPlains.{boxes_stand_for_states, fresh_box_is_first}
use Rattle.hay_audit.specs.declared.judge.Candidate.{Candidate}
use Rattle.hay_audit.specs.Candidates.{AreKept, Goes, IsKept, IsLineStart, all_standing, placed, standing}
use Rattle.hay_audit.specs.Outside.{IsRestart}
use Rattle.hay_audit.proofs.Judging.{IsTold, line_advances, one_more_advances, unread_ends}
use Rattle.hay_audit.proofs.Lists.{drop_twice}
use Rattle.hay_audit.proofs.Opening.{no_mem_is_open}

pub none_more : {X : Type 0} (xs : List X) → xs ≡ xs ++ []
none_more [] = refl
none_more (x ∷ xs) = ap (λ (ys : List _). x ∷ ys) (none_more xs)

pub standing_on : (transcript : List ℕ) (xs ys : List Candidate) → all_standing transcript (xs ++ ys) ≡ all_standing transcript xs ++ all_standing transcript ys
standing_on transcript [] ys = refl
standing_on transcript (x ∷ xs) ys = ap (λ (zs : List (Kept Box)). standing transcript x ∷ zs) (standing_on transcript xs ys)

pub placed_all : (transcript rest : List ℕ) (at : ℕ) (states : List Box) → drop at transcript ≡ rest → all_standing transcript (map (placed at) states) ≡ map (candidate rest) states
placed_all transcript rest at [] e = refl
placed_all transcript rest at (k ∷ states) e =
    ap (λ (xs : List ℕ). candidate xs k ∷ all_standing transcript (map (placed at) states)) e
    ∙ ap (λ (zs : List (Kept Box)). candidate rest k ∷ zs) (placed_all transcript rest at states e)

pub goes_to : (settings : Settings) (line : ℕ) (asked : Item) (transcript text : List ℕ) (c : Candidate) (old new : List Candidate) (r : Reply) (behind : ℕ) (states : List Box)
    → text ≡ drop c.at transcript → IsNoRestart asked → FitsReply r → IsTold asked r → IsBoxOf settings c.state → states ≡ box_plain settings line asked r c.state
    → numbered_line line r ++ drop behind text ≡ text
    → new ≡ old ++ map (placed (c.at + behind)) states → Goes settings line asked transcript c old new
goes_to settings line asked transcript text c old new r behind states is plain fits told of made read added =
    let rest : drop (c.at + behind) transcript ≡ drop behind text = drop_twice c.at behind transcript ∙ ap (λ (xs : List ℕ). drop behind xs) (sym is) in (
      map (candidate (drop behind text)) states,
      ap (λ (xs : List Candidate). all_standing transcript xs) added
          ∙ standing_on transcript old (map (placed (c.at + behind)) states)
          ∙ ap (λ (zs : List (Kept Box)). all_standing transcript old ++ zs) (placed_all transcript (drop behind text) (c.at + behind) states rest),
      line_advances settings line asked c.state r (drop c.at transcript) (drop behind text) states plain fits told of made (read ∙ is),
    )

pub goes_nowhere : (settings : Settings) (line : ℕ) (asked : Item) (transcript text : List ℕ) (c : Candidate) (old : List Candidate)
    → text ≡ drop c.at transcript → ((r : Reply) (rest : List ℕ) → FitsReply r → numbered_line line r ++ rest ≢ text) → Goes settings line asked transcript c old old
goes_nowhere settings line asked transcript text c old is none =
    ([], none_more (all_standing transcript old), unread_ends settings line asked (standing transcript c) (λ r rest fits e. none r rest fits (e ∙ sym is)))

each_placed : (settings : Settings) (transcript : List ℕ) (at : ℕ) (states : List Box) → at ≤ length transcript → IsLineStart transcript at → Each (IsBoxOf settings) states
    → AreKept settings transcript (map (placed at) states)
each_placed settings transcript at [] h start of = tt
each_placed settings transcript at (d ∷ states) h start of = (record { within = h; start = start; of = of.0 }, each_placed settings transcript at states h start of.1)

each_kept : (settings : Settings) (transcript : List ℕ) (old more : List Candidate) → AreKept settings transcript old → AreKept settings transcript more → AreKept settings transcript (old ++ more)
each_kept settings transcript [] more h g = g
each_kept settings transcript (c ∷ old) more h g = (h.0, each_kept settings transcript old more h.1 g)

-- candidates of the settings, behind one line more
pub placed_kept : (settings : Settings) (transcript text : List ℕ) (at behind : ℕ) (old new : List Candidate) (states : List Box) → text ≡ drop at transcript
    → at ≤ length transcript → behind ≤ length text
    → (ahead : List ℕ) × (transcript ≡ ahead ++ 10 ∷ drop behind text) → Each (IsBoxOf settings) states → new ≡ old ++ map (placed (at + behind)) states
    → AreKept settings transcript old → AreKept settings transcript new
placed_kept settings transcript text at behind old new states is within more starts of added h =
    let long : length text ≡ length (drop at transcript) = ap (λ (xs : List ℕ). length xs) is in
    let rest : drop (at + behind) transcript ≡ drop behind text = drop_twice at behind transcript ∙ ap (λ (xs : List ℕ). drop behind xs) (sym is) in
    subst (λ (xs : List Candidate). AreKept settings transcript xs) (sym added)
    (each_kept settings transcript old (map (placed (at + behind)) states) h
    (each_placed settings transcript (at + behind) states (omega (arith, within, more, long, length-drop at transcript))
    (starts.0, starts.1 ∙ ap (λ (xs : List ℕ). starts.0 ++ 10 ∷ xs) (sym rest)) of))

-- the item of a reply that is read is not open
pub told_so : (transcript text : List ℕ) (line : ℕ) (asked : Item) (at behind : ℕ) (r : Reply) → line < 2 ^ 64 → (IsOpenItem transcript (Alone line asked) → ⊥)
    → IsLineStart transcript at → text ≡ drop at transcript
    → numbered_line line r ++ drop behind text ≡ text → IsTold asked r
told_so transcript text line item.Bad at behind r small shut start is read wants = refl
told_so transcript text line (item.Command command) at behind r small shut start is read wants = absurd (shut (no_mem_is_open transcript text (drop behind text) line at r small start is read wants))

-- ALL CANDIDATES

abbrev pub Advanced : Settings → ℕ → Item → List ℕ → List Candidate → List Candidate → List Candidate → Type 0
Advanced settings line asked transcript all rest out =
    (done : List Candidate) × (all ≡ done ++ rest) × AllAdvance Has settings (Alone line asked) (all_standing transcript done) (all_standing transcript out)

pub advanced_more : (settings : Settings) (line : ℕ) (asked : Item) (transcript : List ℕ) (all rest more old new : List Candidate) (c : Candidate)
    → Advanced settings line asked transcript all rest old → rest ≡ c ∷ more → Goes settings line asked transcript c old new → Advanced settings line asked transcript all more new
advanced_more settings line asked transcript all rest more old new c h first goes = (
  h.0 ++ c ∷ [],
  h.1 ∙ ap (λ (xs : List Candidate). h.0 ++ xs) first ∙ sym (append_assoc h.0 (c ∷ []) more),
  subst (λ (zs : List (Kept Box)). AllAdvance Has settings (Alone line asked) (all_standing transcript (h.0 ++ c ∷ [])) zs) (sym goes.1)
      (subst (λ (zs : List (Kept Box)). AllAdvance Has settings (Alone line asked) zs (all_standing transcript old ++ goes.0)) (sym (standing_on transcript h.0 (c ∷ [])))
      (one_more_advances settings (Alone line asked) (all_standing transcript h.0) (standing transcript c) (all_standing transcript old) goes.0 h.2 goes.2)),
)

-- USED CANDIDATES

pub not_used_here : (transcript : List ℕ) (c : Candidate) (cs : List Candidate) → c.at ≤ length transcript → (c.at ≡ length transcript → ⊥)
    → IsUsed Has (all_standing transcript (c ∷ cs)) → IsUsed Has (all_standing transcript cs)
not_used_here transcript c cs within other (inr there) = there
not_used_here transcript c cs within other (inl here) =
    let none : length (drop c.at transcript) ≡ 0 = ap (λ (xs : List ℕ). length xs) here.0 in
    absurd (other (omega (arith, within, none, length-drop c.at transcript)))

-- where candidates are kept, some state is
pub any_kept : (settings : Settings) (transcript : List ℕ) (cs : List Candidate) → AreKept settings transcript cs → (cs ≡ [] → ⊥) → IsAny Has (all_standing transcript cs)
any_kept settings transcript [] kept some = absurd (some refl)
any_kept settings transcript (c ∷ cs) kept some = inl (boxes_stand_for_states settings c.state (kept.0).of)

pub used_here : (settings : Settings) (transcript : List ℕ) (c : Candidate) (cs : List Candidate) → IsKept settings transcript c → c.at ≡ length transcript
    → IsUsed Has (all_standing transcript (c ∷ cs))
used_here settings transcript c cs kept all = let some = boxes_stand_for_states settings c.state kept.of in inl (drop_all c.at transcript all, some.0, some.1)
  where
    drop_all : (n : ℕ) (xs : List ℕ) → n ≡ length xs → drop n xs ≡ []
    drop_all zero [] e = refl
    drop_all zero (x ∷ xs) e = absurd (omega (arith, e))
    drop_all (suc n) [] e = refl
    drop_all (suc n) (x ∷ xs) e = drop_all n xs (omega (arith, e))

-- THE FIRST CANDIDATE

pub begins_so : (settings : Settings) (transcript text : List ℕ) (box : Box) → box ≡ exact_box (fresh_unharmed settings) → header_line settings ++ text ≡ transcript
    → Begins Has settings transcript (candidate text box)
begins_so settings transcript text box is header =
    let first = fresh_box_is_first settings in record {
      header = header;
      fresh = subst (λ (b : Box). Has b (fresh_unharmed settings)) (sym is) first.fresh;
      alone = λ k has. first.alone k (subst (λ (b : Box). Has b k) is has);
    }

header_starts : (settings : Settings) (transcript text : List ℕ) → transcript ≡ header_line settings ++ text → (front : List ℕ) × (transcript ≡ front ++ 10 ∷ text)
header_starts settings transcript text e =
    let front : List ℕ = codes "haystack" ++ field settings.machines ++ field settings.volumes ++ field settings.replicas ++ field settings.capacity in
    (front, e ∙ append_assoc front (codes "\n") text)

within_head : (head text : List ℕ) (n : ℕ) → length head ≡ n → n ≤ length (head ++ text)
within_head [] text n e = omega (arith, e)
within_head (b ∷ head) text n e = let rest = within_head head text (length head) refl in let one : suc (length head) ≡ n = e in omega (arith, one, rest)

pub kept_first : (settings : Settings) (transcript head : List ℕ) (box : Box) (n : ℕ) → box ≡ exact_box (fresh_unharmed settings) → head ≡ header_line settings → length head ≡ n
    → transcript ≡ head ++ drop (length head) transcript → IsKept settings transcript (record { state = box; at = n })
kept_first settings transcript head box n is header long e =
    let whole : transcript ≡ header_line settings ++ drop n transcript = e ∙ ap (λ (m : ℕ). head ++ drop m transcript) long ∙ ap (λ (xs : List ℕ). xs ++ drop n transcript) header in
    record {
      within = subst (λ (xs : List ℕ). n ≤ length xs) (sym e) (within_head head (drop (length head) transcript) n long);
      start = header_starts settings transcript (drop n transcript) whole;
      of = subst (λ (b : Box). IsBoxOf settings b) (sym is) (fresh_box_is_first settings).of;
    }

pub is_no_bad : (asked : Item) → IsRestart asked → asked ≡ item.Bad → ⊥
is_no_bad item.Bad restart e = restart
is_no_bad (item.Command command) restart e = absurd cc
