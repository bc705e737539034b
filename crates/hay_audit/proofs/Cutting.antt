-- Boxes that are cut, part by part.
use Rattle.std.proofs.Common.{◌≡◌, ℕ, zero, suc, ◌+◌, ◌-◌, ◌<◌, ◌≤◌, Bool, true, false, List, [], ◌∷◌, ◌++◌, length, drop, get_or, refl, sym, ap, ◌∙◌, ◌⊎◌, inl, inr, arith, append_assoc, flat_map}
use Rattle.std.proofs.Common.{append-nil as append_nil}
use Rattle.std.specs.Prelude.{cond, max, min, slice_index_or, slice_set}
use Rattle.std.specs.List.{range_with_len}
use Rattle.std.proofs.lemmas.Bool.{cases_Bool}
use Rattle.std.proofs.lemmas.List.{drop_more}
use Rattle.hay_needle.specs.declared.settings.Settings.{Settings}
use Rattle.hay_reply.specs.declared.Refused.{Refused}
use Rattle.hay_legal.specs.Known.{closed}
use Rattle.hay_audit_steps.specs.Boxes.{Box, above, set_slack, slack_at, up_to}
use Rattle.hay_audit_steps.specs.Next.{is_least}
use Rattle.hay_audit_steps.specs.Rooms.{all_refused_at, cut_at, refused_at, replicas_at, room_cut, try_cuts, volume_cuts, where_end}
use Rattle.hay_audit_steps.specs.Slacks.{Slack, no_slack}
use Rattle.hay_audit_steps.proofs.Cuts.{slack_set}
use Rattle.hay_audit_steps.proofs.Places.{tells_least}
use Rattle.hay_audit.specs.Ranging.{IsDecidedAt}
use Rattle.hay_audit.proofs.Lists.{flat_one, flat_twice, range_next, set_same}

-- ENDS ON ONE SIDE

slack_same : (xss : List (List Slack)) (v j : ℕ) → set_slack xss v j (slack_at xss v j) ≡ xss
slack_same xss v j = ap (λ (row : List Slack). slice_set xss v row) (set_same (slice_index_or xss v []) j no_slack) ∙ set_same xss v []

kept_there : (d : Box) (v j : ℕ) → (slack_at d.low v j).end ≤ (slack_at d.high v j).end → where_end v j d ≡ d ∷ []
kept_there d v j h = ap (λ (b : Bool). cond b (d ∷ []) []) ((tells_least (slack_at d.low v j).end (slack_at d.high v j).end).1 h)

dropped_there : (d : Box) (v j : ℕ) → ((slack_at d.low v j).end ≤ (slack_at d.high v j).end → ⊥) → where_end v j d ≡ []
dropped_there d v j h = elim (cases_Bool (is_least (slack_at d.low v j).end (slack_at d.high v j).end)) [
  | inl yes_so ↦ absurd (h ((tells_least (slack_at d.low v j).end (slack_at d.high v j).end).0 yes_so))
  | inr not_so ↦ ap (λ (b : Bool). cond b (d ∷ []) []) not_so
]

pub not_cut : (box : Box) (v j most : ℕ) → IsDecidedAt box v j most → cut_at v j most box ≡ box ∷ []
not_cut box v j most h = elim h.side [
  | inl below ↦
      let least : min (slack_at box.high v j).end most ≡ (slack_at box.high v j).end = omega (arith, below) in
      let same : up_to box v j most ≡ box =
      ap (λ (n : ℕ). record box { high = set_slack box.high v j (record (slack_at box.high v j) { end = n }) }) least
      ∙ ap (λ (xss : List (List Slack)). record box { high = xss }) (slack_same box.high v j) in
      let here : slack_at (above box v j most).low v j ≡ record (slack_at box.low v j) { end = max (slack_at box.low v j).end (most + 1) } =
      slack_set box.low v j (record (slack_at box.low v j) { end = max (slack_at box.low v j).end (most + 1) }) h.low in
      ap (λ (xs : List Box). xs ++ where_end v j (above box v j most)) (ap (λ (d : Box). where_end v j d) same ∙ kept_there box v j h.some)
      ∙ ap (λ (xs : List Box). (box ∷ []) ++ xs) (dropped_there (above box v j most) v j (λ lie. omega (arith, below, lie, ap (λ (s : Slack). s.end) here)))
  | inr over ↦
      let most_of : max (slack_at box.low v j).end (most + 1) ≡ (slack_at box.low v j).end = omega (arith, over) in
      let same : above box v j most ≡ box =
      ap (λ (n : ℕ). record box { low = set_slack box.low v j (record (slack_at box.low v j) { end = n }) }) most_of
      ∙ ap (λ (xss : List (List Slack)). record box { low = xss }) (slack_same box.low v j) in
      let here : slack_at (up_to box v j most).high v j ≡ record (slack_at box.high v j) { end = min (slack_at box.high v j).end most } =
      slack_set box.high v j (record (slack_at box.high v j) { end = min (slack_at box.high v j).end most }) h.high in
      ap (λ (xs : List Box). xs ++ where_end v j (above box v j most)) (dropped_there (up_to box v j most) v j (λ lie. omega (arith, over, lie, ap (λ (s : Slack). s.end) here)))
      ∙ ap (λ (d : Box). where_end v j d) same ∙ kept_there box v j h.some
]

-- PART BY PART

flat_each : {X : Type 0} (xs : List X) → flat_map (λ (x : X). x ∷ []) xs ≡ xs
flat_each [] = refl
flat_each (x ∷ xs) = ap (λ (zs : List _). x ∷ zs) (flat_each xs)

-- the replicas from number j on
abbrev pub cuts_from : Settings → ℕ → ℕ → ℕ → ℕ → List Box → List Box
cuts_from settings size v j n states = flat_map (volume_cuts settings size v (range_with_len j (n - j))) states

pub cuts_more : (settings : Settings) (size v j n : ℕ) (states next : List Box) → j < n → next ≡ flat_map (room_cut settings size v j) states
    → cuts_from settings size v (j + 1) n next ≡ cuts_from settings size v j n states
cuts_more settings size v j n states next h made =
    ap (λ (xs : List Box). cuts_from settings size v (j + 1) n xs) made
    ∙ sym (flat_twice (room_cut settings size v j) (volume_cuts settings size v (range_with_len (j + 1) (n - (j + 1)))) states)
    ∙ ap (λ (js : List ℕ). flat_map (volume_cuts settings size v js) states) (sym (range_next j n h))

pub cuts_none : (settings : Settings) (size v n : ℕ) (states : List Box) → cuts_from settings size v n n states ≡ states
cuts_none settings size v n states =
    ap (λ (m : ℕ). flat_map (volume_cuts settings size v (range_with_len n m)) states) (let e : n - n ≡ 0 = omega arith in e) ∙ flat_each states

pub cuts_all : (settings : Settings) (size v n : ℕ) (state : Box) → n ≡ length (replicas_at state v)
    → cuts_from settings size v 0 n (state ∷ []) ≡ volume_cuts settings size v (range_with_len 0 n) state
cuts_all settings size v n state h =
    flat_one (volume_cuts settings size v (range_with_len 0 (n - 0))) state ∙ ap (λ (m : ℕ). volume_cuts settings size v (range_with_len 0 m) state) (let e : n - 0 ≡ n = omega arith in e)

pub tries_more : (settings : Settings) (size v : ℕ) (tries : List ℕ) (states next : List Box) → next ≡ flat_map (λ state. volume_cuts settings size v (replicas_at state v) state) states
    → flat_map (try_cuts settings size tries) next ≡ flat_map (try_cuts settings size (v ∷ tries)) states
tries_more settings size v tries states next made =
    ap (λ (xs : List Box). flat_map (try_cuts settings size tries) xs) made
    ∙ sym (flat_twice (λ state. volume_cuts settings size v (replicas_at state v) state) (try_cuts settings size tries) states)

pub tries_none : (settings : Settings) (size : ℕ) (states : List Box) → flat_map (try_cuts settings size []) states ≡ states
tries_none settings size states = flat_each states

-- EACH TRY REFUSES

pub refused_more : (settings : Settings) (size v : ℕ) (tries : List ℕ) (r : Refused) (refused : List Refused) (states next : List Box)
    → next ≡ flat_map (λ state. refused_at settings size state v (closed settings state.base v) r) states
    → flat_map (all_refused_at settings size tries refused) next ≡ flat_map (all_refused_at settings size (v ∷ tries) (r ∷ refused)) states
refused_more settings size v tries r refused states next made =
    ap (λ (xs : List Box). flat_map (all_refused_at settings size tries refused) xs) made
    ∙ sym (flat_twice (λ state. refused_at settings size state v (closed settings state.base v) r) (all_refused_at settings size tries refused) states)

-- behind the refusal of one number more, whatever stands past the end
pub refused_on : (settings : Settings) (size i : ℕ) (tries : List ℕ) (refused : List Refused) (states next whole : List Box) (d : Refused) → i < length refused → length tries ≡ length refused
    → next ≡ flat_map (λ state. refused_at settings size state (get_or tries i 0) (closed settings state.base (get_or tries i 0)) (get_or refused i d)) states
    → flat_map (all_refused_at settings size (drop i tries) (drop i refused)) states ≡ whole
    → flat_map (all_refused_at settings size (drop (i + 1) tries) (drop (i + 1) refused)) next ≡ whole
refused_on settings size i tries refused states next whole d below same made so_far =
    refused_more settings size (get_or tries i 0) (drop (i + 1) tries) (get_or refused i d) (drop (i + 1) refused) states next made
    ∙ ap (λ (vs : List ℕ). flat_map (all_refused_at settings size vs (get_or refused i d ∷ drop (i + 1) refused)) states) (sym (drop_more tries i 0 (omega (arith, below, same))))
    ∙ ap (λ (rs : List Refused). flat_map (all_refused_at settings size (drop i tries) rs) states) (sym (drop_more refused i d below))
    ∙ so_far

pub refused_none : (settings : Settings) (size : ℕ) (states : List Box) → flat_map (all_refused_at settings size [] []) states ≡ states
refused_none settings size states = flat_each states

pub other_count : (settings : Settings) (size : ℕ) (tries : List ℕ) (refused : List Refused) (box : Box) → (length tries ≡ length refused → ⊥) → all_refused_at settings size tries refused box ≡ []
other_count settings size [] [] box h = absurd (h refl)
other_count settings size [] (r ∷ refused) box h = refl
other_count settings size (v ∷ tries) [] box h = refl
other_count settings size (v ∷ tries) (r ∷ refused) box h = none (refused_at settings size box v (closed settings box.base v) r) (λ d. other_count settings size tries refused d (λ e. h (ap suc e)))
  where
    none : (states : List Box) → ((d : Box) → all_refused_at settings size tries refused d ≡ []) → flat_map (all_refused_at settings size tries refused) states ≡ []
    none [] g = refl
    none (d ∷ states) g = ap (λ (xs : List Box). xs ++ flat_map (all_refused_at settings size tries refused) states) (g d) ∙ none states g
