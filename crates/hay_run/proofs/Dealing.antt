-- The lines of a block, dealt out to their lanes and brought together again.
use Rattle.std.proofs.Common.{◌≡◌, ◌≢◌, ◌⊎◌, inl, inr, ℕ, zero, suc, ◌+◌, ◌<◌, ◌≤◌, ◌==◌, Bool, true, false, cond, List, [], ◌∷◌, ◌++◌, map, length, take, Some, refl, sym, ap}
use Rattle.std.proofs.Common.{subst, ◌∙◌, arith, append_assoc, eq-eqb, ne_eqb, length-append}
use Rattle.std.specs.Prelude.{Vec, filter, slice_get, slice_index_or, slice_set}
use Rattle.std.specs.Global.{Global}
use Rattle.std.specs.List.{AllByRecursion as Each, AllZip}
use Rattle.std.proofs.lemmas.Bool.{cases_eq}
use Rattle.std.proofs.lemmas.List.Elements.{filter-append}
use Rattle.hay_reply.specs.declared.Reply.{Reply}
use Rattle.hay_reply.specs.Replies.{numbered_line}
use Rattle.hay_legal.specs.declared.turn.Item.{Item}
use Rattle.hay_legal.specs.declared.turn.LaneItem.{LaneItem}
use Rattle.hay_legal.specs.Items.{InBlock, line_asked}
use Rattle.hay_legal.specs.Known.{EachPair}
use Rattle.hay_legal.specs.Transcript.{answered_line}
use Rattle.hay_block.specs.declared.worker.Job.{Job}
use Rattle.hay_block.specs.Lines.{AreItems, answered_lines}
use Rattle.hay_run.specs.declared.deal.Place.{Place}
use Rattle.hay_run.specs.Blocks.{AreAnswered, AreJobs, ArePlaces, job_of, lane_jobs, lane_lines, place_of, with_job}

-- PLACES IN LISTS

get_within : {X : Type 0} (xs : List X) (i : ℕ) (x : X) → slice_get xs i ≡ Some x → i < length xs
get_within [] i x at = absurd cc
get_within (y ∷ xs) zero x at = omega arith
get_within (y ∷ xs) (suc i) x at = let less = get_within xs i x at in omega (arith, less)

get_here : {X : Type 0} (xs : List X) (i : ℕ) (d : X) → i < length xs → slice_get xs i ≡ Some (slice_index_or xs i d)
get_here [] i d below = absurd (omega (arith, below))
get_here (x ∷ xs) zero d below = refl
get_here (x ∷ xs) (suc i) d below = get_here xs i d (let less : i < length xs = omega (arith, below) in less)

get_set : {X : Type 0} (xs : List X) (i : ℕ) (x : X) → i < length xs → slice_get (slice_set xs i x) i ≡ Some x
get_set [] i x below = absurd (omega (arith, below))
get_set (y ∷ xs) zero x below = refl
get_set (y ∷ xs) (suc i) x below = get_set xs i x (let less : i < length xs = omega (arith, below) in less)

get_set_other : {X : Type 0} (xs : List X) (i j : ℕ) (x : X) → i ≢ j → slice_get (slice_set xs j x) i ≡ slice_get xs i
get_set_other [] i j x differs = refl
get_set_other (y ∷ xs) zero zero x differs = absurd (differs refl)
get_set_other (y ∷ xs) zero (suc j) x differs = refl
get_set_other (y ∷ xs) (suc i) zero x differs = refl
get_set_other (y ∷ xs) (suc i) (suc j) x differs = get_set_other xs i j x (λ same. differs (ap suc same))

length_set : {X : Type 0} (xs : List X) (i : ℕ) (x : X) → length (slice_set xs i x) ≡ length xs
length_set [] i x = refl
length_set (y ∷ xs) zero x = refl
length_set (y ∷ xs) (suc i) x = let rest = length_set xs i x in omega (arith, rest)

get_behind : {X : Type 0} (xs : List X) (y : X) → slice_get (xs ++ y ∷ []) (length xs) ≡ Some y
get_behind [] y = refl
get_behind (x ∷ xs) y = get_behind xs y

get_before : {X : Type 0} (xs ys : List X) (i : ℕ) → i < length xs → slice_get (xs ++ ys) i ≡ slice_get xs i
get_before [] ys i below = absurd (omega (arith, below))
get_before (x ∷ xs) ys zero below = refl
get_before (x ∷ xs) ys (suc i) below = get_before xs ys i (let less : i < length xs = omega (arith, below) in less)

take_before : {X : Type 0} (xs ys : List X) (i : ℕ) → i ≤ length xs → take i (xs ++ ys) ≡ take i xs
take_before xs ys zero below = refl
take_before [] ys (suc i) below = absurd (omega (arith, below))
take_before (x ∷ xs) ys (suc i) below = ap (λ (l : List _). x ∷ l) (take_before xs ys i (let less : i ≤ length xs = omega (arith, below) in less))

take_whole : {X : Type 0} (xs : List X) → take (length xs) xs ≡ xs
take_whole [] = refl
take_whole (x ∷ xs) = ap (λ (l : List _). x ∷ l) (take_whole xs)

pub each_at : {X : Type 0} (P : X → Type 0) (xs : List X) (i : ℕ) (x : X) → Each P xs → slice_get xs i ≡ Some x → P x
each_at P [] i x each at = absurd cc
each_at P (y ∷ xs) zero x each at = let same : y ≡ x = cc at in subst P same each.0
each_at P (y ∷ xs) (suc i) x each at = each_at P xs i x each.1 at

pub each_by : {X : Type 0} (P : X → Type 0) (xs : List X) → ((i : ℕ) (x : X) → slice_get xs i ≡ Some x → P x) → Each P xs
each_by P [] by = tt
each_by P (x ∷ xs) by = (by 0 x refl, each_by P xs (λ i y at. by (suc i) y at))

each_unmapped : {X Y : Type 0} (f : X → Y) (P : Y → Type 0) (xs : List X) → Each P (map f xs) → Each (λ x. P (f x)) xs
each_unmapped f P [] each = tt
each_unmapped f P (x ∷ xs) each = (each.0, each_unmapped f P xs each.1)

-- WHAT A FILTER KEEPS

filter_mapped : {X Y : Type 0} (f : X → Y) (p : Y → Bool) (xs : List X) → filter p (map f xs) ≡ map f (filter (λ x. p (f x)) xs)
filter_mapped f p [] = refl
filter_mapped f p (x ∷ xs) = kept (p (f x)) refl (filter_mapped f p xs)
  where
    kept : (b : Bool) → p (f x) ≡ b → filter p (map f xs) ≡ map f (filter (λ y. p (f y)) xs) → filter p (map f (x ∷ xs)) ≡ map f (filter (λ y. p (f y)) (x ∷ xs))
    kept true is rest = rw is (ap (λ (l : List _). f x ∷ l) rest)
    kept false is rest = rw is rest

-- what passes the test stands in what is kept behind what is kept of those before it
filter_at : {X : Type 0} (p : X → Bool) (xs : List X) (i : ℕ) (x : X) → slice_get xs i ≡ Some x → p x ≡ true → slice_get (filter p xs) (length (filter p (take i xs))) ≡ Some x
filter_at p [] i x at passes = absurd cc
filter_at p (y ∷ xs) zero x at passes = let same : y ≡ x = cc at in let yes : p y ≡ true = ap p same ∙ passes in rw yes (ap Some same)
filter_at p (y ∷ xs) (suc i) x at passes = kept (p y) refl (filter_at p xs i x at passes)
  where
    kept : (b : Bool) → p y ≡ b → slice_get (filter p xs) (length (filter p (take i xs))) ≡ Some x → slice_get (filter p (y ∷ xs)) (length (filter p (take (suc i) (y ∷ xs)))) ≡ Some x
    kept true is rest = rw is rest
    kept false is rest = rw is rest

pub each_pushed : {X : Type 0} (P : X → Type 0) (xs : List X) (y : X) → Each P xs → P y → Each P (xs ++ y ∷ [])
each_pushed P [] y each one = (one, tt)
each_pushed P (x ∷ xs) y each one = (each.0, each_pushed P xs y each.1 one)

-- DEALT OUT

pub no_jobs : (lanes : ℕ) (jobs : List (List Job)) → length jobs ≡ lanes → Each (λ own. own ≡ []) jobs → AreJobs lanes [] jobs
no_jobs lanes jobs many each = record { many = many; each = λ lane own at. each_at (λ o. o ≡ []) jobs lane own each at }

own_line : (lane : ℕ) (line : InBlock) → line.lane ≡ lane → lane_lines lane (line ∷ []) ≡ line ∷ []
own_line lane line same = rw (eq-eqb line.lane lane same) refl

other_line : (lane : ℕ) (line : InBlock) → line.lane ≢ lane → lane_lines lane (line ∷ []) ≡ []
other_line lane line differs = rw (ne_eqb line.lane lane differs) refl

map_behind : {X Y : Type 0} (f : X → Y) (xs ys : List X) → map f (xs ++ ys) ≡ map f xs ++ map f ys
map_behind f [] ys = refl
map_behind f (x ∷ xs) ys = ap (λ (l : List _). f x ∷ l) (map_behind f xs ys)

nothing_behind : {X : Type 0} (xs : List X) → xs ++ [] ≡ xs
nothing_behind [] = refl
nothing_behind (x ∷ xs) = ap (λ (l : List _). x ∷ l) (nothing_behind xs)

pub jobs_more : (lanes : ℕ) (lines : List InBlock) (jobs : List (List Job)) (line : InBlock) → line.lane < lanes → AreJobs lanes lines jobs → AreJobs lanes (lines ++ line ∷ []) (with_job jobs line)
jobs_more lanes lines jobs line below are = record {
  many = length_set jobs line.lane (lane_jobs jobs line.lane ++ job_of line ∷ []) ∙ are.many;
  each = λ lane own at. by lane own at (cases_eq lane line.lane);
}
  where
    within : line.lane < length jobs
    within = let many = are.many in omega (arith, below, many)

    kept : (lane : ℕ) → lane_lines lane (lines ++ line ∷ []) ≡ lane_lines lane lines ++ lane_lines lane (line ∷ [])
    kept lane = filter-append (λ (l : InBlock). l.lane == lane) lines (line ∷ [])

    by : (lane : ℕ) (own : List Job) → slice_get (with_job jobs line) lane ≡ Some own → (lane ≡ line.lane) ⊎ (lane ≢ line.lane) → own ≡ map job_of (lane_lines lane (lines ++ line ∷ []))
    by lane own at (inl same) =
        let here = get_set jobs line.lane (lane_jobs jobs line.lane ++ job_of line ∷ []) within in
        let moved : slice_get (with_job jobs line) line.lane ≡ Some own = subst (λ (n : ℕ). slice_get (with_job jobs line) n ≡ Some own) same at in
        let is : own ≡ lane_jobs jobs line.lane ++ job_of line ∷ [] = cc (here, moved) in
        let before : lane_jobs jobs line.lane ≡ map job_of (lane_lines line.lane lines) = are.each line.lane (lane_jobs jobs line.lane) (get_here jobs line.lane [] within) in
        let lines_are : map job_of (lane_lines lane (lines ++ line ∷ [])) ≡ map job_of (lane_lines lane lines) ++ job_of line ∷ [] =
        ap (λ (l : List InBlock). map job_of l) (kept lane ∙ ap (λ (l : List InBlock). lane_lines lane lines ++ l) (own_line lane line (sym same)))
        ∙ map_behind job_of (lane_lines lane lines) (line ∷ []) in
        is ∙ ap (λ (l : List Job). l ++ job_of line ∷ []) (before ∙ ap (λ (n : ℕ). map job_of (lane_lines n lines)) (sym same)) ∙ sym lines_are
    by lane own at (inr differs) =
        let before : own ≡ map job_of (lane_lines lane lines) = are.each lane own (sym (get_set_other jobs lane line.lane (lane_jobs jobs line.lane ++ job_of line ∷ []) differs) ∙ at) in
        before ∙ ap (λ (l : List InBlock). map job_of l)
        (sym (nothing_behind (lane_lines lane lines)) ∙ ap (λ (l : List InBlock). lane_lines lane lines ++ l) (sym (other_line lane line (λ e. differs (sym e)))) ∙ sym (kept lane))

pub length_mapped : {X Y : Type 0} (f : X → Y) (xs : List X) → length (map f xs) ≡ length xs
length_mapped f [] = refl
length_mapped f (x ∷ xs) = let rest = length_mapped f xs in omega (arith, rest)

-- how many lines a lane has
pub jobs_many : (lanes : ℕ) (lines : List InBlock) (jobs : List (List Job)) (lane : ℕ) → lane < lanes → AreJobs lanes lines jobs → length (lane_jobs jobs lane) ≡ length (lane_lines lane lines)
jobs_many lanes lines jobs lane below are =
    let many = are.many in
    ap length (are.each lane (lane_jobs jobs lane) (get_here jobs lane [] (omega (arith, below, many)))) ∙ length_mapped job_of (lane_lines lane lines)

pub no_places : ArePlaces [] []
no_places = record { many = refl; each = λ i line at. absurd cc }

-- the place of a line is that in the lines with others behind them
place_before : (lines more : List InBlock) (i : ℕ) (line : InBlock) → i ≤ length lines → place_of (lines ++ more) i line ≡ place_of lines i line
place_before lines more i line below =
    ap (λ (l : List InBlock). record { line = line.line; lane = line.lane; nth = length (lane_lines line.lane l) }) (take_before lines more i below)

pub places_more : (lines : List InBlock) (places : List Place) (line : InBlock) (place : Place) → ArePlaces lines places
    → place ≡ record { line = line.line; lane = line.lane; nth = length (lane_lines line.lane lines) } → ArePlaces (lines ++ line ∷ []) (places ++ place ∷ [])
places_more lines places line place are is = record {
  many = length-append places (place ∷ []) ∙ (let many = are.many in let long = length-append lines (line ∷ []) in omega (arith, many, long));
  each = λ i l at. by i l at (cases_eq i (length lines));
}
  where
    last : place ≡ place_of (lines ++ line ∷ []) (length lines) line
    last = is ∙ ap (λ (l : List InBlock). record { line = line.line; lane = line.lane; nth = length (lane_lines line.lane l) })
        (sym (take_before lines (line ∷ []) (length lines) (omega arith) ∙ take_whole lines))

    by : (i : ℕ) (l : InBlock) → slice_get (lines ++ line ∷ []) i ≡ Some l → (i ≡ length lines) ⊎ (i ≢ length lines)
        → slice_get (places ++ place ∷ []) i ≡ Some (place_of (lines ++ line ∷ []) i l)
    by i l at (inl same) =
        let here = get_behind lines line in
        let moved : slice_get (lines ++ line ∷ []) (length lines) ≡ Some l = subst (λ (n : ℕ). slice_get (lines ++ line ∷ []) n ≡ Some l) same at in
        let is_line : line ≡ l = cc (here, moved) in
        ap (λ (n : ℕ). slice_get (places ++ place ∷ []) n) (same ∙ sym are.many) ∙ get_behind places place
        ∙ ap Some (last ∙ ap (λ (n : ℕ). place_of (lines ++ line ∷ []) n line) (sym same) ∙ ap (λ (k : InBlock). place_of (lines ++ line ∷ []) i k) is_line)
    by i l at (inr differs) =
        let bound = get_within (lines ++ line ∷ []) i l at in
        let long = length-append lines (line ∷ []) in
        let below : i < length lines = omega (arith, bound, long, differs) in
        let many = are.many in
        let within : i < length places = omega (arith, below, many) in
        let less : i ≤ length lines = omega (arith, below) in
        get_before places (place ∷ []) i within ∙ are.each i l (sym (get_before lines (line ∷ []) i below) ∙ at) ∙ ap Some (sym (place_before lines (line ∷ []) i l less))

-- all lines were dealt
all_dealt : (done rest lines : List InBlock) → done ++ rest ≡ lines → rest ≡ [] → done ≡ lines
all_dealt done rest lines all none = sym (nothing_behind done) ∙ ap (λ (l : List InBlock). done ++ l) (sym none) ∙ all

pub jobs_done : (lanes : ℕ) (done rest lines : List InBlock) (jobs : List (List Job)) → AreJobs lanes done jobs → done ++ rest ≡ lines → rest ≡ [] → AreJobs lanes lines jobs
jobs_done lanes done rest lines jobs are all none = subst (λ (l : List InBlock). AreJobs lanes l jobs) (all_dealt done rest lines all none) are

pub places_done : (done rest lines : List InBlock) (places : List Place) → ArePlaces done places → done ++ rest ≡ lines → rest ≡ [] → ArePlaces lines places
places_done done rest lines places are all none = subst (λ (l : List InBlock). ArePlaces l places) (all_dealt done rest lines all none) are

-- one more
pub line_dealt : (done rest before lines : List InBlock) (line : InBlock) → before ≡ line ∷ rest → done ++ before ≡ lines → (done ++ line ∷ []) ++ rest ≡ lines
line_dealt done rest before lines line is all = append_assoc done (line ∷ []) rest ∙ ap (λ (l : List InBlock). done ++ l) (sym is) ∙ all

each_behind : (P : InBlock → Type 0) (done rest : List InBlock) (line : InBlock) → Each P (done ++ line ∷ rest) → P line
each_behind P [] rest line each = each.0
each_behind P (x ∷ done) rest line each = each_behind P done rest line each.1

pub next_low : (lanes : ℕ) (done rest before lines : List InBlock) (line : InBlock) → before ≡ line ∷ rest → done ++ before ≡ lines → Each (λ line. line.lane < lanes) lines → line.lane < lanes
next_low lanes done rest before lines line is all low =
    each_behind (λ (l : InBlock). l.lane < lanes) done rest line (subst (λ (l : List InBlock). Each (λ line. line.lane < lanes) l) (sym all ∙ ap (λ (l : List InBlock). done ++ l) is) low)

-- lists of jobs as vectors have them
map_set : (jobs : List (Vec Job Global)) (i : ℕ) (new : Vec Job Global) → map (λ own. own.items) (slice_set jobs i new) ≡ slice_set (map (λ own. own.items) jobs) i new.items
map_set [] i new = refl
map_set (own ∷ jobs) zero new = refl
map_set (own ∷ jobs) (suc i) new = ap (λ (l : List (List Job)). own.items ∷ l) (map_set jobs i new)

read_mapped : {X : Type 0} (lists : List (Vec X Global)) (i : ℕ) (own : Vec X Global) → i < length lists → own ≡ slice_index_or lists i own
    → slice_index_or (map (λ own. own.items) lists) i [] ≡ own.items
read_mapped [] i own below is = absurd (omega (arith, below))
read_mapped (first ∷ lists) zero own below is = ap (λ (v : Vec _ Global). v.items) (sym is)
read_mapped (first ∷ lists) (suc i) own below is = read_mapped lists i own (let less : i < length lists = omega (arith, below) in less) is

pub dealt_more : (jobs : List (Vec Job Global)) (lane : ℕ) (line : InBlock) (own new : Vec Job Global) → lane ≡ line.lane → line.lane < length jobs
    → own ≡ slice_index_or jobs lane own → new.items ≡ own.items ++ job_of line ∷ []
    → map (λ own. own.items) (slice_set jobs lane new) ≡ with_job (map (λ own. own.items) jobs) line
dealt_more jobs lane line own new same below is more =
    ap (λ (n : ℕ). map (λ own. own.items) (slice_set jobs n new)) same ∙ map_set jobs line.lane new
    ∙ ap (λ (l : List Job). slice_set (map (λ own. own.items) jobs) line.lane l)
    (more ∙ ap (λ (l : List Job). l ++ job_of line ∷ []) (sym (read_mapped jobs line.lane own below (subst (λ (n : ℕ). own ≡ slice_index_or jobs n own) same is))))

pub jobs_long : (lanes : ℕ) (lines : List InBlock) (jobs : List (Vec Job Global)) → AreJobs lanes lines (map (λ own. own.items) jobs) → length jobs ≡ lanes
jobs_long lanes lines jobs are = sym (length_mapped (λ (own : Vec Job Global). own.items) jobs) ∙ are.many

-- BROUGHT TOGETHER

-- what the lanes answer, with this answer taken from this lane
abbrev rest_by : (ℕ → List Reply) → ℕ → List Reply → ℕ → List Reply
rest_by of lane rest n = cond (n == lane) rest (of n)

-- and of the lanes below N there are as many left as lines
abbrev Left : (ℕ → List Reply) → List InBlock → ℕ → ℕ → List Reply → Type 0
Left of lines taken N rest = (lane : ℕ) → lane < N → length (rest_by of taken rest lane) ≡ length (lane_lines lane lines)

pub record Merged (N : ℕ) (lines : List InBlock) (of : ℕ → List Reply) : Type 0 where
  pub items : List LaneItem
  pub asked : map line_asked items ≡ lines
  pub each : (lane : ℕ) → lane < N → map (λ item. item.reply) (filter (λ item. item.lane == lane) items) ≡ of lane

-- lines whose lanes have a reply for each can be brought together with them
pub merged : (N : ℕ) (lines : List InBlock) (of : ℕ → List Reply) → Each (λ line. line.lane < N) lines → ((lane : ℕ) → lane < N → length (of lane) ≡ length (lane_lines lane lines)) → Merged N lines of
merged N [] of low many = record { items = []; asked = refl; each = λ lane below. sym (no_replies (of lane) (many lane below)) }
  where
    no_replies : (rs : List Reply) → length rs ≡ 0 → rs ≡ []
    no_replies [] e = refl
    no_replies (r ∷ rs) e = absurd (omega (arith, e))
merged N (line ∷ lines) of low many = first (of line.lane) refl (λ rest left. merged N lines (rest_by of line.lane rest) low.1 left)
  where
    own : length (lane_lines line.lane (line ∷ lines)) ≡ suc (length (lane_lines line.lane lines))
    own = rw (eq-eqb line.lane line.lane refl) refl

    left : (reply : Reply) (rest : List Reply) → of line.lane ≡ reply ∷ rest → Left of lines line.lane N rest
    left reply rest is lane below = elim (cases_eq lane line.lane) [
      | inl same ↦
          let yes = eq-eqb lane line.lane same in
          let k = many line.lane low.0 in
          let e = ap length is in
          let here : length rest ≡ length (lane_lines line.lane lines) = omega (arith, own, k, e) in
          rw yes (here ∙ ap (λ (n : ℕ). length (lane_lines n lines)) (sym same))
      | inr differs ↦
          let no = ne_eqb lane line.lane differs in
          let other = ne_eqb line.lane lane (λ e. differs (sym e)) in
          let k : length (of lane) ≡ length (lane_lines lane lines) = rw other at (many lane below) in
          rw no k
    ]

    by : (reply : Reply) (rest : List Reply) (items : List LaneItem) (lane : ℕ) → of line.lane ≡ reply ∷ rest
        → map (λ (i : LaneItem). i.reply) (filter (λ (i : LaneItem). i.lane == lane) items) ≡ rest_by of line.lane rest lane → (line.lane ≡ lane) ⊎ (line.lane ≢ lane)
        → map (λ (i : LaneItem). i.reply) (filter (λ (i : LaneItem). i.lane == lane) (record { line = line.line; lane = line.lane; item = line.item; reply = reply } ∷ items)) ≡ of lane
    by reply rest items lane is behind (inl same) =
        let yes = eq-eqb line.lane lane same in
        let back = eq-eqb lane line.lane (sym same) in
        let tail : map (λ (i : LaneItem). i.reply) (filter (λ (i : LaneItem). i.lane == lane) items) ≡ rest = rw back at behind in
        rw yes (ap (λ (l : List Reply). reply ∷ l) tail ∙ sym is ∙ ap of same)
    by reply rest items lane is behind (inr differs) =
        let no = ne_eqb line.lane lane differs in
        let back = ne_eqb lane line.lane (λ e. differs (sym e)) in
        let tail : map (λ (i : LaneItem). i.reply) (filter (λ (i : LaneItem). i.lane == lane) items) ≡ of lane = rw back at behind in
        rw no tail

    first : (rs : List Reply) → of line.lane ≡ rs → ((rest : List Reply) → Left of lines line.lane N rest → Merged N lines (rest_by of line.lane rest)) → Merged N (line ∷ lines) of
    first [] is next = absurd (let k = many line.lane low.0 in let e = ap length is in omega (arith, own, k, e))
    first (reply ∷ rest) is next =
        let behind = next rest (left reply rest is) in
        record {
          items = record { line = line.line; lane = line.lane; item = line.item; reply = reply } ∷ behind.items;
          asked = ap (λ (l : List InBlock). line ∷ l) behind.asked;
          each = λ lane below. by reply rest behind.items lane is (behind.each lane below) (cases_eq line.lane lane);
        }

low_items : (n : ℕ) (items : List LaneItem) (lines : List InBlock) → map line_asked items ≡ lines → Each (λ line. line.lane < n) lines → Each (λ item. item.lane < n) items
low_items n items lines is low = each_unmapped line_asked (λ line. line.lane < n) items (subst (λ (l : List InBlock). Each (λ line. line.lane < n) l) (sym is) low)

-- lanes that answered as many lines as they have
pub answered_by : (lanes : ℕ) (lines : List InBlock) (jobs : List (List Job)) (replies : List (List Reply)) → Each (λ line. line.lane < lanes) lines → AreJobs lanes lines jobs
    → AllZip (λ js rs. length js ≡ length rs) jobs replies → (items : List LaneItem) × AreAnswered lines replies items
answered_by lanes lines jobs replies low are same =
    let m = merged lanes lines (λ lane. slice_index_or replies lane []) low many in (
      m.items,
      record {
        asked = m.asked;
        low = subst (λ (n : ℕ). Each (λ item. item.lane < n) m.items) (sym long) (low_items lanes m.items lines m.asked low);
        each = λ lane own at.
            let below : lane < lanes = (let w = get_within replies lane own at in omega (arith, w, long)) in
            let here : slice_index_or replies lane [] ≡ own = (let h = get_here replies lane [] (get_within replies lane own at) in cc (h, at)) in
            m.each lane below ∙ here;
      },
    )
  where
    zip_long : {A B : Type 0} (R : A → B → Type 0) (xs : List A) (ys : List B) → AllZip R xs ys → length ys ≡ length xs
    zip_long R [] [] all = refl
    zip_long R [] (b ∷ ys) all = absurd all
    zip_long R (a ∷ xs) [] all = absurd all
    zip_long R (a ∷ xs) (b ∷ ys) all = let rest = zip_long R xs ys all.1 in omega (arith, rest)

    long : length replies ≡ lanes
    long = zip_long (λ (js : List Job) (rs : List Reply). length js ≡ length rs) jobs replies same ∙ are.many

    zip_here : (xs : List (List Job)) (ys : List (List Reply)) (lane : ℕ) → AllZip (λ js rs. length js ≡ length rs) xs ys → length (slice_index_or xs lane []) ≡ length (slice_index_or ys lane [])
    zip_here [] [] lane all = refl
    zip_here [] (b ∷ ys) lane all = absurd all
    zip_here (a ∷ xs) [] lane all = absurd all
    zip_here (a ∷ xs) (b ∷ ys) zero all = all.0
    zip_here (a ∷ xs) (b ∷ ys) (suc lane) all = zip_here xs ys lane all.1

    many : (lane : ℕ) → lane < lanes → length (slice_index_or replies lane []) ≡ length (lane_lines lane lines)
    many lane below = sym (zip_here jobs replies lane same) ∙ jobs_many lanes lines jobs lane below are

-- WHAT EACH LINE WAS ANSWERED

-- the lane's reply at the place of a line is what it was answered
pub reply_at : (lines : List InBlock) (replies : List (List Reply)) (items : List LaneItem) (i : ℕ) (item : LaneItem) (own : List Reply) → AreAnswered lines replies items
    → slice_get items i ≡ Some item
    → slice_get replies item.lane ≡ Some own → slice_get own (length (lane_lines item.lane (take i lines))) ≡ Some item.reply
reply_at lines replies items i item own are at lane_at =
    subst (λ (l : List Reply). slice_get l (length (lane_lines item.lane (take i lines))) ≡ Some item.reply) (are.each item.lane own lane_at)
    (ap (λ (n : ℕ). slice_get (map (λ (x : LaneItem). x.reply) kept) n) count ∙ mapped_at kept (length (filter (λ (x : LaneItem). x.lane == item.lane) (take i items)))
    (filter_at (λ (x : LaneItem). x.lane == item.lane) items i item at (eq-eqb item.lane item.lane refl)))
  where
    kept : List LaneItem
    kept = filter (λ (x : LaneItem). x.lane == item.lane) items

    mapped_at : (xs : List LaneItem) (n : ℕ) → slice_get xs n ≡ Some item → slice_get (map (λ (x : LaneItem). x.reply) xs) n ≡ Some item.reply
    mapped_at [] n e = absurd cc
    mapped_at (x ∷ xs) zero e = let same : x ≡ item = cc e in ap (λ (y : LaneItem). Some y.reply) same
    mapped_at (x ∷ xs) (suc n) e = mapped_at xs n e

    take_mapped : (n : ℕ) (xs : List LaneItem) → take n (map line_asked xs) ≡ map line_asked (take n xs)
    take_mapped zero xs = refl
    take_mapped (suc n) [] = refl
    take_mapped (suc n) (x ∷ xs) = ap (λ (l : List InBlock). line_asked x ∷ l) (take_mapped n xs)

    count : length (lane_lines item.lane (take i lines)) ≡ length (filter (λ (x : LaneItem). x.lane == item.lane) (take i items))
    count = ap (λ (l : List InBlock). length (lane_lines item.lane l)) (ap (λ (l : List InBlock). take i l) (sym are.asked) ∙ take_mapped i items)
        ∙ ap length (filter_mapped line_asked (λ (l : InBlock). l.lane == item.lane) (take i items))
        ∙ length_mapped line_asked (filter (λ (x : LaneItem). x.lane == item.lane) (take i items))

-- THE ITEMS OF THE LANES

asked_kept : (lane : ℕ) (items : List LaneItem) → map line_asked (filter (λ item. item.lane == lane) items) ≡ lane_lines lane (map line_asked items)
asked_kept lane items = sym (filter_mapped line_asked (λ (l : InBlock). l.lane == lane) items)

lane_items : (lane : ℕ) (items : List LaneItem) → filter (λ item. item.lane == lane) items
    ≡ answered_lines lane (map job_of (map line_asked (filter (λ item. item.lane == lane) items))) (map (λ item. item.reply) (filter (λ item. item.lane == lane) items))
lane_items lane [] = refl
lane_items lane (item ∷ items) = by (cases_eq item.lane lane) (lane_items lane items)
  where
    by : (item.lane ≡ lane) ⊎ (item.lane ≢ lane)
        → filter (λ (i : LaneItem). i.lane == lane) items ≡ answered_lines lane (map job_of (map line_asked (filter (λ (i : LaneItem). i.lane == lane) items)))
        (map (λ (i : LaneItem). i.reply) (filter (λ (i : LaneItem). i.lane == lane) items))
        → filter (λ (i : LaneItem). i.lane == lane) (item ∷ items) ≡ answered_lines lane (map job_of (map line_asked (filter (λ (i : LaneItem). i.lane == lane) (item ∷ items))))
        (map (λ (i : LaneItem). i.reply) (filter (λ (i : LaneItem). i.lane == lane) (item ∷ items)))
    by (inl same) rest =
        rw (eq-eqb item.lane lane same) (
        ap (λ (n : ℕ). record { line = item.line; lane = n; item = item.item; reply = item.reply } ∷ filter (λ (i : LaneItem). i.lane == lane) items) same
        ∙ ap (λ (l : List LaneItem). record { line = item.line; lane = lane; item = item.item; reply = item.reply } ∷ l) rest
        )
    by (inr differs) rest = rw (ne_eqb item.lane lane differs) rest

pub are_items : (lanes : ℕ) (lines : List InBlock) (jobs : List (List Job)) (replies : List (List Reply)) (items : List LaneItem) → Each (λ line. line.lane < lanes) lines
    → AreJobs lanes lines jobs → AreAnswered lines replies items → AreItems jobs replies items
are_items lanes lines jobs replies items low are answered = record {
  low = subst (λ (n : ℕ). Each (λ item. item.lane < n) items) (sym are.many) (low_items lanes items lines answered.asked low);
  each = λ lane js rs at_js at_rs.
      lane_items lane items
      ∙ ap (λ (l : List InBlock). answered_lines lane (map job_of l) (map (λ (i : LaneItem). i.reply) (filter (λ (i : LaneItem). i.lane == lane) items)))
      (asked_kept lane items ∙ ap (λ (l : List InBlock). lane_lines lane l) answered.asked)
      ∙ ap (λ (l : List Job). answered_lines lane l (map (λ (i : LaneItem). i.reply) (filter (λ (i : LaneItem). i.lane == lane) items))) (sym (are.each lane js at_js))
      ∙ ap (λ (l : List Reply). answered_lines lane js l) (answered.each lane rs at_rs);
}

-- WHAT HOLDS OF EACH LINE

pub distinct_items : (items : List LaneItem) (lines : List InBlock) → map line_asked items ≡ lines → EachPair (λ a b. a.line ≢ b.line) lines → EachPair (λ a b. a.line ≢ b.line) items
distinct_items items lines is distinct = unmapped items (subst (λ (l : List InBlock). EachPair (λ a b. a.line ≢ b.line) l) (sym is) distinct)
  where
    unmapped : (xs : List LaneItem) → EachPair (λ a b. a.line ≢ b.line) (map line_asked xs) → EachPair (λ a b. a.line ≢ b.line) xs
    unmapped [] pairs = tt
    unmapped (x ∷ xs) pairs = (each_unmapped line_asked (λ (b : InBlock). x.line ≢ b.line) xs pairs.0, unmapped xs pairs.1)

pub zip_mapped : {A B X Y : Type 0} (f : A → X) (g : B → Y) (R : X → Y → Type 0) (xs : List A) (ys : List B) → AllZip (λ x y. R (f x) (g y)) xs ys → AllZip R (map f xs) (map g ys)
zip_mapped f g R [] [] all = tt
zip_mapped f g R [] (y ∷ ys) all = all
zip_mapped f g R (x ∷ xs) [] all = all
zip_mapped f g R (x ∷ xs) (y ∷ ys) all = (all.0, zip_mapped f g R xs ys all.1)

pub each_mapped : {X Y : Type 0} (f : X → Y) (P : Y → Type 0) (xs : List X) → Each (λ x. P (f x)) xs → Each P (map f xs)
each_mapped f P [] each = tt
each_mapped f P (x ∷ xs) each = (each.0, each_mapped f P xs each.1)

each_kept : {X : Type 0} (P : X → Type 0) (p : X → Bool) (xs : List X) → Each P xs → Each P (filter p xs)
each_kept P p [] each = tt
each_kept P p (x ∷ xs) each = by (p x) refl (each_kept P p xs each.1)
  where
    by : (b : Bool) → p x ≡ b → Each P (filter p xs) → Each P (filter p (x ∷ xs))
    by true is rest = rw is (each.0, rest)
    by false is rest = rw is rest

-- each job is that of a line
pub each_job : (P : Item → Type 0) (lanes : ℕ) (lines : List InBlock) (jobs : List (List Job)) → Each (λ line. P line.item) lines → AreJobs lanes lines jobs
    → Each (λ own. Each (λ job. P job.item) own) jobs
each_job P lanes lines jobs each are =
    each_by (λ (own : List Job). Each (λ job. P job.item) own) jobs (λ lane own at.
    subst (λ (l : List Job). Each (λ job. P job.item) l) (sym (are.each lane own at))
    (each_mapped job_of (λ (job : Job). P job.item) (lane_lines lane lines) (each_kept (λ (line : InBlock). P line.item) (λ line. line.lane == lane) lines each)))

-- so each reply is that to a line
pub each_reply : (P : Reply → Type 0) (lines : List InBlock) (replies : List (List Reply)) (items : List LaneItem) → Each (λ own. Each P own) replies
    → AreAnswered lines replies items → Each (λ item. P item.reply) items
each_reply P lines replies items each are =
    each_by (λ (item : LaneItem). P item.reply) items (λ i item at.
    let below : item.lane < length replies = each_at (λ (x : LaneItem). x.lane < length replies) items i item are.low at in
    let here = get_here replies item.lane [] below in
    each_at P (slice_index_or replies item.lane []) (length (lane_lines item.lane (take i lines))) item.reply
    (each_at (λ (own : List Reply). Each P own) replies item.lane (slice_index_or replies item.lane []) each here)
    (reply_at lines replies items i item (slice_index_or replies item.lane []) are at here))

mapped_here : {X Y : Type 0} (f : X → Y) (xs : List X) (n : ℕ) (x : X) → slice_get xs n ≡ Some x → slice_get (map f xs) n ≡ Some (f x)
mapped_here f [] n x e = absurd cc
mapped_here f (y ∷ xs) zero x e = let same : y ≡ x = cc e in ap (λ z. Some (f z)) same
mapped_here f (y ∷ xs) (suc n) x e = mapped_here f xs n x e

zip_at : {A B : Type 0} (R : A → B → Type 0) (xs : List A) (ys : List B) (n : ℕ) (x : A) (y : B) → AllZip R xs ys → slice_get xs n ≡ Some x → slice_get ys n ≡ Some y → R x y
zip_at R [] [] n x y all at_x at_y = absurd cc
zip_at R [] (b ∷ ys) n x y all at_x at_y = absurd all
zip_at R (a ∷ xs) [] n x y all at_x at_y = absurd all
zip_at R (a ∷ xs) (b ∷ ys) zero x y all at_x at_y =
    let one : a ≡ x = cc at_x in let two : b ≡ y = cc at_y in subst (λ z. R z y) one (subst (R a) two all.0)
zip_at R (a ∷ xs) (b ∷ ys) (suc n) x y all at_x at_y = zip_at R xs ys n x y all.1 at_x at_y

-- what holds of each job and its reply holds of each line
pub each_answer : (R : Job → Reply → Type 0) (lanes : ℕ) (lines : List InBlock) (jobs : List (List Job)) (replies : List (List Reply)) (items : List LaneItem)
    → AllZip (λ js rs. AllZip R js rs) jobs replies → AreJobs lanes lines jobs → length jobs ≡ length replies → AreAnswered lines replies items
    → Each (λ item. R (job_of (line_asked item)) item.reply) items
each_answer R lanes lines jobs replies items all are long answered =
    each_by (λ (item : LaneItem). R (job_of (line_asked item)) item.reply) items (λ i item at.
    let below : item.lane < length replies = each_at (λ (x : LaneItem). x.lane < length replies) items i item answered.low at in
    let within : item.lane < length jobs = omega (arith, below, long) in
    let here = get_here replies item.lane [] below in
    let there = get_here jobs item.lane [] within in
    let nth = length (lane_lines item.lane (take i lines)) in
    let line_is : slice_get lines i ≡ Some (line_asked item) = ap (λ (l : List InBlock). slice_get l i) (sym answered.asked) ∙ mapped_here line_asked items i item at in
    let job_is : slice_get (slice_index_or jobs item.lane []) nth ≡ Some (job_of (line_asked item)) =
    ap (λ (l : List Job). slice_get l nth) (are.each item.lane (slice_index_or jobs item.lane []) there)
    ∙ mapped_here job_of (lane_lines item.lane lines) nth (line_asked item) (filter_at (λ (l : InBlock). l.lane == item.lane) lines i (line_asked item) line_is (eq-eqb item.lane item.lane refl)) in
    zip_at R (slice_index_or jobs item.lane []) (slice_index_or replies item.lane []) nth (job_of (line_asked item)) item.reply
    (zip_at (λ (js : List Job) (rs : List Reply). AllZip R js rs) jobs replies item.lane (slice_index_or jobs item.lane []) (slice_index_or replies item.lane []) all there here)
    job_is (reply_at lines replies items i item (slice_index_or replies item.lane []) answered at here))

-- WHERE A LINE STANDS

-- the place of a line, and the reply that stands there
pub record Found (places : List Place) (replies : List (List Reply)) (i : ℕ) (item : LaneItem) (place : Place) : Type 0 where
  pub line : place.line ≡ item.line
  pub lane : place.lane < length replies
  pub nth : place.nth < length (slice_index_or replies place.lane [])
  pub reply : slice_get (slice_index_or replies place.lane []) place.nth ≡ Some item.reply

pub found : (lines : List InBlock) (places : List Place) (replies : List (List Reply)) (items : List LaneItem) (i : ℕ) (item : LaneItem) (place : Place)
    → ArePlaces lines places → AreAnswered lines replies items → slice_get items i ≡ Some item → slice_get places i ≡ Some place → Found places replies i item place
found lines places replies items i item place are answered at place_at =
    let line_is : slice_get lines i ≡ Some (line_asked item) = ap (λ (l : List InBlock). slice_get l i) (sym answered.asked) ∙ mapped_here line_asked items i item at in
    let place_is : place ≡ place_of lines i (line_asked item) = cc (place_at, are.each i (line_asked item) line_is) in
    let below : item.lane < length replies = each_at (λ (x : LaneItem). x.lane < length replies) items i item answered.low at in
    let here = get_here replies item.lane [] below in
    let reply_is = reply_at lines replies items i item (slice_index_or replies item.lane []) answered at here in
    subst (λ (p : Place). Found places replies i item p) (sym place_is) (record {
      line = refl;
      lane = below;
      nth = get_within (slice_index_or replies item.lane []) (length (lane_lines item.lane (take i lines))) item.reply reply_is;
      reply = reply_is;
    })

pub same_many : (lines : List InBlock) (places : List Place) (replies : List (List Reply)) (items : List LaneItem) → ArePlaces lines places → AreAnswered lines replies items
    → length items ≡ length places
same_many lines places replies items are answered = sym (length_mapped line_asked items) ∙ ap length answered.asked ∙ sym are.many

some_at : {X : Type 0} (xs : List X) (i : ℕ) → i < length xs → (x : X) × (slice_get xs i ≡ Some x)
some_at [] i below = absurd (omega (arith, below))
some_at (x ∷ xs) zero below = (x, refl)
some_at (x ∷ xs) (suc i) below = some_at xs i (let less : i < length xs = omega (arith, below) in less)

-- the line whose place this is, with its reply
pub record Answered (places : List Place) (replies : List (List Reply)) (items : List LaneItem) (i : ℕ) (place : Place) : Type 0 where
  pub item : LaneItem
  pub here : slice_get items i ≡ Some item
  pub found : Found places replies i item place

pub answered_at : (lines : List InBlock) (places : List Place) (replies : List (List Reply)) (items : List LaneItem) (i : ℕ) (place : Place)
    → ArePlaces lines places → AreAnswered lines replies items → slice_get places i ≡ Some place → Answered places replies items i place
answered_at lines places replies items i place are answered at =
    let within = get_within places i place at in
    let many = same_many lines places replies items are answered in
    let below : i < length items = omega (arith, within, many) in
    let line = some_at items i below in
    record { item = line.0; here = line.1; found = found lines places replies items i line.0 place are answered line.1 at }

-- lists of replies as vectors have them
pub lane_there : (places : List Place) (replies : List (Vec Reply Global)) (items : List LaneItem) (i : ℕ) (place : Place)
    → Answered places (map (λ own. own.items) replies) items i place → place.lane < length replies
lane_there places replies items i place line = let low = (line.found).lane in let long = length_mapped (λ (own : Vec Reply Global). own.items) replies in omega (arith, low, long)

pub reply_there : (places : List Place) (replies : List (Vec Reply Global)) (items : List LaneItem) (i : ℕ) (place : Place) (own : Vec Reply Global) → own ≡ slice_index_or replies place.lane own
    → Answered places (map (λ own. own.items) replies) items i place → place.nth < length own.items
reply_there places replies items i place own is line =
    subst (λ (l : List Reply). place.nth < length l) (read_mapped replies place.lane own (lane_there places replies items i place line) is) (line.found).nth

-- so its text is that of the reply at its place
pub line_text : (places : List Place) (replies : List (Vec Reply Global)) (items : List LaneItem) (i : ℕ) (place : Place) (own : Vec Reply Global) (reply : Reply)
    → own ≡ slice_index_or replies place.lane own
    → reply ≡ slice_index_or own.items place.nth reply → (line : Answered places (map (λ own. own.items) replies) items i place) → numbered_line place.line reply ≡ answered_line line.item
line_text places replies items i place own reply is here line =
    let item = line.item in
    let at : slice_get own.items place.nth ≡ Some item.reply =
    subst (λ (l : List Reply). slice_get l place.nth ≡ Some item.reply) (read_mapped replies place.lane own (lane_there places replies items i place line) is) (line.found).reply in
    let there = get_here own.items place.nth reply (reply_there places replies items i place own is line) in
    let same : reply ≡ item.reply = cc (here, there, at) in
    ap (λ (r : Reply). numbered_line place.line r) same ∙ ap (λ (n : ℕ). numbered_line n item.reply) (line.found).line
