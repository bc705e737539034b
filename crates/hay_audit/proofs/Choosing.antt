-- What a restart may find, one choice behind another.
use Rattle.std.proofs.Common.{◌≡◌, ℕ, zero, suc, min, ◌+◌, ◌<◌, ◌≤◌, Bool, List, [], ◌∷◌, ◌++◌, length, map, drop, Option, Some, None, refl, sym, ap, ◌∙◌, arith, append_assoc}
use Rattle.std.proofs.Common.{flat_map, drop_of_length-le, get_or}
use Rattle.std.proofs.Common.{append-nil as append_nil}
use Rattle.std.proofs.lemmas.Bool.{cond-true, eq-eqb}
use Rattle.hay_needle.specs.declared.settings.Settings.{Settings}
use Rattle.hay_reply.specs.declared.Note.{Note}
use Rattle.hay_legal.specs.declared.known.HomeRow.{HomeRow}
use Rattle.hay_legal.specs.declared.known.Known.{Known}
use Rattle.hay_legal.specs.declared.known.ReplicaKnown.{ReplicaKnown}
use Rattle.hay_legal.specs.declared.known.VolumeKnown.{VolumeKnown}
use Rattle.hay_legal.specs.Restarts.{is_kept, kept_entry}
use Rattle.hay_audit_steps.specs.BoxReopen.{before_others, parts_of, reopened_stores, restarted_box, restarted_from, restarted_with, then_others, volume_kept}
use Rattle.hay_audit_steps.specs.Boxes.{Box, part_of}
use Rattle.hay_audit_steps.specs.Parts.{Part, choices_with, reopened_choices, reopened_parts}
use Rattle.hay_audit_steps.specs.Reopen.{Read, new_rows}
use Rattle.hay_audit_steps.specs.Slacks.{Slack}
use Rattle.hay_audit.specs.Choosing.{behind, frame_of, stored_box}
use Rattle.hay_audit.proofs.Lists.{drop_twice, dropped_none, flat_twice}
use Rattle.hay_audit.proofs.Reopened.{at_place}

-- each list of the first before each of the others
abbrev pub chosen : {X : Type 0} → List (List X) → List (List X) → List (List X)
chosen fronts rests = flat_map (λ front. map (λ rest. front ++ rest) rests) fronts

flat_same : {X Y : Type 0} (f g : X → List Y) (xs : List X) → ((x : X) → f x ≡ g x) → flat_map f xs ≡ flat_map g xs
flat_same f g [] h = refl
flat_same f g (x ∷ xs) h = ap (λ (ys : List _). ys ++ flat_map f xs) (h x) ∙ ap (λ (ys : List _). g x ++ ys) (flat_same f g xs h)

map_on : {X Y : Type 0} (f : X → Y) (xs ys : List X) → map f (xs ++ ys) ≡ map f xs ++ map f ys
map_on f [] ys = refl
map_on f (x ∷ xs) ys = ap (λ (zs : List _). f x ∷ zs) (map_on f xs ys)

map_twice : {X Y Z : Type 0} (f : X → Y) (g : Y → Z) (xs : List X) → map g (map f xs) ≡ map (λ x. g (f x)) xs
map_twice f g [] = refl
map_twice f g (x ∷ xs) = ap (λ (zs : List _). g (f x) ∷ zs) (map_twice f g xs)

map_same : {X Y : Type 0} (f g : X → Y) (xs : List X) → ((x : X) → f x ≡ g x) → map f xs ≡ map g xs
map_same f g [] h = refl
map_same f g (x ∷ xs) h = ap (λ (y : _). y ∷ map f xs) (h x) ∙ ap (λ (ys : List _). g x ∷ ys) (map_same f g xs h)

-- a list before each choice of one more, and each rest
front_with : {X : Type 0} (front : List X) (firsts : List X) (rests : List (List X))
    → map (λ rest. front ++ rest) (choices_with firsts rests) ≡ flat_map (λ (longer : List X). map (λ rest. longer ++ rest) rests) (map (behind front) firsts)
front_with front [] rests = refl
front_with front (first ∷ firsts) rests =
    map_on (λ rest. front ++ rest) (map (λ rest. first ∷ rest) rests) (choices_with firsts rests)
    ∙ ap (λ (zs : List (List _)). zs ++ map (λ rest. front ++ rest) (choices_with firsts rests))
    (map_twice (λ rest. first ∷ rest) (λ rest. front ++ rest) rests ∙ map_same (λ rest. front ++ (first ∷ rest)) (λ rest. (front ++ first ∷ []) ++ rest) rests
    (λ rest. sym (append_assoc front (first ∷ []) rest)))
    ∙ ap (λ (zs : List (List _)). map (λ rest. (front ++ first ∷ []) ++ rest) rests ++ zs) (front_with front firsts rests)

pub chosen_more : {X : Type 0} (fronts : List (List X)) (firsts : List X) (rests : List (List X)) (made : List (List X)) → made ≡ flat_map (λ front. map (behind front) firsts) fronts
    → chosen made rests ≡ chosen fronts (choices_with firsts rests)
chosen_more fronts firsts rests made is =
    ap (λ (zs : List (List _)). chosen zs rests) is
    ∙ sym (flat_twice (λ front. map (behind front) firsts) (λ longer. map (λ rest. longer ++ rest) rests) fronts)
    ∙ flat_same (λ front. flat_map (λ longer. map (λ rest. longer ++ rest) rests) (map (behind front) firsts)) (λ front. map (λ rest. front ++ rest) (choices_with firsts rests)) fronts
    (λ front. sym (front_with front firsts rests))

pub chosen_first : {X : Type 0} (rests : List (List X)) → chosen ([] ∷ []) rests ≡ rests
chosen_first [] = refl
chosen_first (rest ∷ rests) = ap (λ (zs : List (List _)). rest ∷ zs) (chosen_first rests)

pub choices_begin : {X : Type 0} (fronts rests : List (List X)) (front : List X) → fronts ≡ front ∷ [] → front ≡ [] → chosen fronts rests ≡ rests
choices_begin fronts rests front one none = ap (λ (zs : List (List _)). chosen zs rests) (one ∙ ap (λ (z : List _). z ∷ []) none) ∙ chosen_first rests

pub chosen_last : {X : Type 0} (fronts : List (List X)) → chosen fronts ([] ∷ []) ≡ fronts
chosen_last [] = refl
chosen_last (front ∷ fronts) = ap (λ (z : List _). z ∷ chosen fronts ([] ∷ [])) (append_nil front) ∙ ap (λ (zs : List (List _)). front ∷ zs) (chosen_last fronts)

-- ONE REPLICA MORE

pub choices_more : (volume : VolumeKnown) (kept : List Bool) (j : ℕ) (old : ReplicaKnown) (low high : Slack) (replicas : List ReplicaKnown) (lows highs : List Slack) (made next : List (List Part))
    → next ≡ flat_map (λ front. map (behind front) (reopened_parts volume (part_of old low high) (kept_entry volume.pending (is_kept kept j)))) made
    → chosen next (reopened_choices volume kept (j + 1) (parts_of replicas lows highs)) ≡ chosen made (reopened_choices volume kept j (parts_of (old ∷ replicas) (low ∷ lows) (high ∷ highs)))
choices_more volume kept j old low high replicas lows highs made next is =
    chosen_more made (reopened_parts volume (part_of old low high) (kept_entry volume.pending (is_kept kept j))) (reopened_choices volume kept (j + 1) (parts_of replicas lows highs)) next is

parts_none : (replicas : List ReplicaKnown) (highs : List Slack) → parts_of replicas [] highs ≡ []
parts_none [] highs = refl
parts_none (r ∷ replicas) highs = refl

none_high : (replicas : List ReplicaKnown) (lows : List Slack) → parts_of replicas lows [] ≡ []
none_high [] lows = refl
none_high (r ∷ replicas) [] = refl
none_high (r ∷ replicas) (l ∷ lows) = refl

-- behind the shortest list there is nothing
pub parts_end : (replicas : List ReplicaKnown) (lows highs : List Slack) (n : ℕ) → min (min (length replicas) (length lows)) (length highs) ≤ n
    → parts_of (drop n replicas) (drop n lows) (drop n highs) ≡ []
parts_end [] lows highs n h = ap (λ (rs : List ReplicaKnown). parts_of rs (drop n lows) (drop n highs)) (dropped_none n)
parts_end (r ∷ replicas) [] highs n h = ap (λ (ls : List Slack). parts_of (drop n (r ∷ replicas)) ls (drop n highs)) (dropped_none n) ∙ parts_none (drop n (r ∷ replicas)) (drop n highs)
parts_end (r ∷ replicas) (l ∷ lows) [] n h = ap (λ (hs : List Slack). parts_of (drop n (r ∷ replicas)) (drop n (l ∷ lows)) hs) (dropped_none n) ∙ none_high (drop n (r ∷ replicas)) (drop n (l ∷ lows))
parts_end (r ∷ replicas) (l ∷ lows) (x ∷ highs) zero h = absurd (omega (arith, h))
parts_end (r ∷ replicas) (l ∷ lows) (x ∷ highs) (suc n) h = parts_end replicas lows highs n (omega (arith, h))

pub choices_on : (volume : VolumeKnown) (kept : List Bool) (j : ℕ) (old : ReplicaKnown) (low high : Slack) (replicas : List ReplicaKnown) (lows highs : List Slack) (made next : List (List Part))
    → j < length replicas → j < length lows → j < length highs → old ≡ get_or replicas j old → low ≡ get_or lows j low → high ≡ get_or highs j high
    → next ≡ flat_map (λ front. map (behind front) (reopened_parts volume (part_of old low high) (kept_entry volume.pending (is_kept kept j)))) made
    → chosen next (reopened_choices volume kept (j + 1) (parts_of (drop (j + 1) replicas) (drop (j + 1) lows) (drop (j + 1) highs)))
    ≡ chosen made (reopened_choices volume kept j (parts_of (drop j replicas) (drop j lows) (drop j highs)))
choices_on volume kept j old low high replicas lows highs made next here low_here high_here is low_is high_is choose =
    choices_more volume kept j old low high (drop (j + 1) replicas) (drop (j + 1) lows) (drop (j + 1) highs) made next choose
    ∙ ap (λ (rs : List ReplicaKnown). chosen made (reopened_choices volume kept j (parts_of rs (low ∷ drop (j + 1) lows) (high ∷ drop (j + 1) highs)))) (sym (at_place replicas j old here is))
    ∙ ap (λ (ls : List Slack). chosen made (reopened_choices volume kept j (parts_of (drop j replicas) ls (high ∷ drop (j + 1) highs)))) (sym (at_place lows j low low_here low_is))
    ∙ ap (λ (hs : List Slack). chosen made (reopened_choices volume kept j (parts_of (drop j replicas) (drop j lows) hs))) (sym (at_place highs j high high_here high_is))

pub choices_end : (volume : VolumeKnown) (kept : List Bool) (n : ℕ) (replicas : List ReplicaKnown) (lows highs : List Slack) (made : List (List Part))
    → min (min (length replicas) (length lows)) (length highs) ≤ n
    → chosen made (reopened_choices volume kept n (parts_of (drop n replicas) (drop n lows) (drop n highs))) ≡ made
choices_end volume kept n replicas lows highs made h =
    ap (λ (ps : List Part). chosen made (reopened_choices volume kept n ps)) (parts_end replicas lows highs n h) ∙ chosen_last made

-- ONE VOLUME MORE

abbrev pub before_stores : List (List (List Part)) → Option (Read (List (List (List Part)))) → Option (Read (List (List (List Part))))
before_stores fronts None = None
before_stores fronts (Some read) = Some (record { value = chosen fronts read.value; rest = read.rest })

pub stores_first : (read : Option (Read (List (List (List Part))))) → read ≡ before_stores ([] ∷ []) read
stores_first None = refl
stores_first (Some read) = ap (λ (zs : List (List (List Part))). Some (record { value = zs; rest = read.rest })) (sym (chosen_first read.value))

pub stores_last : (fronts : List (List (List Part))) (notes : List Note) → before_stores fronts (Some (record { value = [] ∷ []; rest = notes })) ≡ Some (record { value = fronts; rest = notes })
stores_last fronts notes = ap (λ (zs : List (List (List Part))). Some (record { value = zs; rest = notes })) (chosen_last fronts)

pub stores_more : (fronts next : List (List (List Part))) (choices : List (List Part)) (later : Option (Read (List (List (List Part))))) → next ≡ flat_map (λ front. map (behind front) choices) fronts
    → before_stores next later ≡ before_stores fronts (before_others choices later)
stores_more fronts next choices None is = refl
stores_more fronts next choices (Some read) is = ap (λ (zs : List (List (List Part))). Some (record { value = zs; rest = read.rest })) (chosen_more fronts choices read.value next is)

-- what the first notes say of one volume
pub store_step : (settings : Settings) (v : ℕ) (volume : VolumeKnown) (volumes : List VolumeKnown) (low high : List Slack) (lows highs : List (List Slack)) (notes rest : List Note)
    (kept : List Bool) (fronts next : List (List (List Part)))
    → volume_kept settings v volume notes volume.pending ≡ Some (record { value = kept; rest = rest })
    → next ≡ flat_map (λ front. map (behind front) (reopened_choices volume kept 0 (parts_of volume.replicas low high))) fronts
    → before_stores next (reopened_stores settings (v + 1) volumes lows highs rest) ≡ before_stores fronts (reopened_stores settings v (volume ∷ volumes) (low ∷ lows) (high ∷ highs) notes)
store_step settings v volume volumes low high lows highs notes rest kept fronts next told made =
    stores_more fronts next (reopened_choices volume kept 0 (parts_of volume.replicas low high)) (reopened_stores settings (v + 1) volumes lows highs rest) made
    ∙ ap (λ (o : Option (Read (List Bool))). before_stores fronts (then_others volume (parts_of volume.replicas low high) o (reopened_stores settings (v + 1) volumes lows highs))) (sym told)

pub store_stops : (settings : Settings) (v : ℕ) (volume : VolumeKnown) (volumes : List VolumeKnown) (low high : List Slack) (lows highs : List (List Slack)) (notes : List Note)
    (fronts : List (List (List Part)))
    → volume_kept settings v volume notes volume.pending ≡ None → before_stores fronts (reopened_stores settings v (volume ∷ volumes) (low ∷ lows) (high ∷ highs) notes) ≡ None
store_stops settings v volume volumes low high lows highs notes fronts told =
    ap (λ (o : Option (Read (List Bool))). before_stores fronts (then_others volume (parts_of volume.replicas low high) o (reopened_stores settings (v + 1) volumes lows highs))) told

pub stores_begin : (fronts : List (List (List Part))) (read : Option (Read (List (List (List Part))))) → fronts ≡ [] ∷ [] → read ≡ before_stores fronts read
stores_begin fronts read is = stores_first read ∙ ap (λ (zs : List (List (List Part))). before_stores zs read) (sym is)

abbrev behind_all : List (List (List Part)) → Settings → ℕ → List VolumeKnown → List (List Slack) → List (List Slack) → List Note → Option (Read (List (List (List Part))))
behind_all fronts settings v volumes lows highs notes = before_stores fronts (reopened_stores settings v volumes lows highs notes)

-- as many notes were used as tell of a volume, behind those of the volumes before
pub stores_on : (settings : Settings) (v used more : ℕ) (fronts next : List (List (List Part))) (volumes : List VolumeKnown) (lows highs : List (List Slack))
    (notes rest : List Note) (volume : VolumeKnown) (low high : List Slack) (kept : List Bool)
    (whole : Option (Read (List (List (List Part)))))
    → v < length volumes → v < length lows → v < length highs → volume ≡ get_or volumes v volume → low ≡ get_or lows v low → high ≡ get_or highs v high → rest ≡ drop used notes
    → volume_kept settings v volume rest volume.pending ≡ Some (record { value = kept; rest = drop more rest })
    → next ≡ flat_map (λ front. map (behind front) (reopened_choices volume kept 0 (parts_of volume.replicas low high))) fronts
    → whole ≡ before_stores fronts (reopened_stores settings v (drop v volumes) (drop v lows) (drop v highs) (drop used notes))
    → whole ≡ before_stores next (reopened_stores settings (v + 1) (drop (v + 1) volumes) (drop (v + 1) lows) (drop (v + 1) highs) (drop (used + more) notes))
stores_on settings v used more fronts next volumes lows highs notes rest volume low high kept whole here low_here high_here is low_is high_is on told made so_far =
    so_far
    ∙ ap (λ (vs : List VolumeKnown). behind_all fronts settings v vs (drop v lows) (drop v highs) (drop used notes)) (at_place volumes v volume here is)
    ∙ ap (λ (ls : List (List Slack)). behind_all fronts settings v (volume ∷ drop (v + 1) volumes) ls (drop v highs) (drop used notes)) (at_place lows v low low_here low_is)
    ∙ ap (λ (hs : List (List Slack)). behind_all fronts settings v (volume ∷ drop (v + 1) volumes) (low ∷ drop (v + 1) lows) hs (drop used notes)) (at_place highs v high high_here high_is)
    ∙ ap (λ (ns : List Note). behind_all fronts settings v (volume ∷ drop (v + 1) volumes) (low ∷ drop (v + 1) lows) (high ∷ drop (v + 1) highs) ns) (sym on)
    ∙ sym (store_step settings v volume (drop (v + 1) volumes) low high (drop (v + 1) lows) (drop (v + 1) highs) rest (drop more rest) kept fronts next told made)
    ∙ ap (λ (ns : List Note). behind_all next settings (v + 1) (drop (v + 1) volumes) (drop (v + 1) lows) (drop (v + 1) highs) ns)
    (ap (λ (ns : List Note). drop more ns) on ∙ sym (drop_twice used more notes))

pub stores_stop : (settings : Settings) (v used : ℕ) (fronts : List (List (List Part))) (volumes : List VolumeKnown) (lows highs : List (List Slack)) (notes rest : List Note)
    (volume : VolumeKnown) (low high : List Slack)
    (whole : Option (Read (List (List (List Part)))))
    → v < length volumes → v < length lows → v < length highs → volume ≡ get_or volumes v volume → low ≡ get_or lows v low → high ≡ get_or highs v high → rest ≡ drop used notes
    → volume_kept settings v volume rest volume.pending ≡ None
    → whole ≡ before_stores fronts (reopened_stores settings v (drop v volumes) (drop v lows) (drop v highs) (drop used notes)) → whole ≡ None
stores_stop settings v used fronts volumes lows highs notes rest volume low high whole here low_here high_here is low_is high_is on told so_far =
    so_far
    ∙ ap (λ (vs : List VolumeKnown). behind_all fronts settings v vs (drop v lows) (drop v highs) (drop used notes)) (at_place volumes v volume here is)
    ∙ ap (λ (ls : List (List Slack)). behind_all fronts settings v (volume ∷ drop (v + 1) volumes) ls (drop v highs) (drop used notes)) (at_place lows v low low_here low_is)
    ∙ ap (λ (hs : List (List Slack)). behind_all fronts settings v (volume ∷ drop (v + 1) volumes) (low ∷ drop (v + 1) lows) hs (drop used notes)) (at_place highs v high high_here high_is)
    ∙ ap (λ (ns : List Note). behind_all fronts settings v (volume ∷ drop (v + 1) volumes) (low ∷ drop (v + 1) lows) (high ∷ drop (v + 1) highs) ns) (sym on)
    ∙ store_stops settings v volume (drop (v + 1) volumes) low high (drop (v + 1) lows) (drop (v + 1) highs) rest fronts told

pub stores_done : (settings : Settings) (v used : ℕ) (fronts : List (List (List Part))) (volumes : List VolumeKnown) (lows highs : List (List Slack)) (notes : List Note)
    (whole : Option (Read (List (List (List Part)))))
    → length volumes ≤ v → whole ≡ before_stores fronts (reopened_stores settings v (drop v volumes) (drop v lows) (drop v highs) (drop used notes))
    → whole ≡ Some (record { value = fronts; rest = drop used notes })
stores_done settings v used fronts volumes lows highs notes whole past so_far =
    so_far
    ∙ ap (λ (vs : List VolumeKnown). behind_all fronts settings v vs (drop v lows) (drop v highs) (drop used notes)) (drop_of_length-le volumes past)
    ∙ stores_last fronts (drop used notes)

-- The boxes behind a restart, by the stores and the rows that were read.
pub boxes_made : (b frame : Known) (d : ℕ) (stores : List (List (List Part))) (new : List HomeRow) (rest : List Note) (read : Option (Read (List (List (List Part))))) (made : List Box)
    → read ≡ Some (record { value = stores; rest = rest }) → Some new ≡ new_rows b.directory.pending rest → d ≡ length (b.directory.rows ++ new)
    → frame ≡ frame_of b new → made ≡ map (stored_box frame) stores → made ≡ restarted_from b d read
boxes_made b frame d stores new rest read made read_is new_is many frame_is made_is =
    made_is ∙ ap (λ (f : Known). map (stored_box f) stores) frame_is
    ∙ sym (cond-true _ (map (restarted_box b (b.directory.rows ++ new)) stores) [] (eq-eqb d (length (b.directory.rows ++ new)) many))
    ∙ ap (λ (rows : Option (List HomeRow)). restarted_with b d stores rows) new_is
    ∙ ap (λ (r : Option (Read (List (List (List Part))))). restarted_from b d r) (sym read_is)
