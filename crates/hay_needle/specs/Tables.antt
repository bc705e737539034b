-- What the needles of a volume mean: each pair has the photo of its last needle.
use Rattle.std.specs.Prelude.{ℕ, ◌+◌, List, [], ◌∷◌, length, map, fold, sum_by, not, Bool, true, nat_eq, ◌&&◌, if◌then◌else◌, Option, Some, None}
use Rattle.std.specs.declared.cmp.Ordering.{Ordering}
use Rattle.std.specs.Ordering.{nat_cmp, ordering_then, eq_by_cmp}
use Rattle.std.specs.FinMap.Entries.{put, where_key, find}
use Rattle.hay_needle.specs.declared.needle.Pair.{Pair}
use Rattle.hay_needle.specs.declared.needle.Photo.{Photo}
use Rattle.hay_needle.specs.declared.needle.Outcome.{Outcome}
use Rattle.hay_needle.specs.declared.needle.Outcome.TheVariants as outcome
use Rattle.hay_needle.specs.declared.needle.Needle.{Needle}
use Rattle.hay_needle.specs.declared.needle.Row.{Row}
use Rattle.hay_needle.specs.Sizes.{needle_total}

-- PAIRS

-- by key, then by alternate key
abbrev pub pair_cmp : Pair → Pair → Ordering
pair_cmp p q = ordering_then (nat_cmp p.key q.key) (nat_cmp p.alt q.alt)

abbrev pub pair_eq : Pair → Pair → Bool
pair_eq a b = nat_eq a.key b.key && nat_eq a.alt b.alt

-- TABLES

-- The photos that stand, each pair once, in the order of the pairs. So two tables with the same outcomes are equal.
abbrev pub Table : Type 0
Table = List (Pair × Photo)

abbrev pub outcome_by : Option Photo → Outcome
outcome_by (Some photo) = outcome.Photo photo
outcome_by None = outcome.Nothing

-- what stands at a pair
abbrev pub outcome_at : Table → Pair → Outcome
outcome_at table pair = outcome_by (find pair_cmp pair table)

-- a photo that was put
abbrev pub with_photo : Table → Pair → Photo → Table
with_photo table pair photo = put pair_cmp pair photo table

-- a pair whose photo was deleted
abbrev pub without_pair : Table → Pair → Table
without_pair table pair = where_key pair_cmp (λ other. not (eq_by_cmp pair_cmp pair other)) table

abbrev pub with_outcome : Table → Pair → Outcome → Table
with_outcome table pair outcome.Nothing = without_pair table pair
with_outcome table pair (outcome.Photo photo) = with_photo table pair photo

abbrev pub needle_outcome : Needle → Outcome
needle_outcome n = if n.deleted then outcome.Nothing else outcome.Photo n.photo

-- the table of the needles of a file: the last needle of a pair decides
abbrev pub table_of : List Needle → Table
table_of needles = fold (λ table n. with_outcome table n.pair (needle_outcome n)) [] needles

-- where a file ends that has one needle for each photo of the table
abbrev pub live_end : Table → ℕ
live_end table = 64 + sum_by (λ photo. needle_total (length (photo.1).bytes)) table

-- LOOKING UP A PAIR IN A LIST OF ROWS

-- what stands at the pair after the rows, where `before` stood there
abbrev pub look_after : List Row → Pair → Outcome → Outcome
look_after [] pair before = before
look_after (r ∷ rows) pair before = look_after rows pair (if pair_eq r.pair pair then r.outcome else before)

abbrev pub look : List Row → Pair → Outcome
look rows pair = look_after rows pair outcome.Nothing

abbrev pub needle_row : Needle → Row
needle_row n = record { pair = n.pair; outcome = needle_outcome n }

-- the rows of the needles of a file
abbrev pub rows_of : List Needle → List Row
rows_of needles = map needle_row needles

-- THE LAST NEEDLE OF A PAIR

-- whether none of the needles has the pair
abbrev pub lacks : Pair → List Needle → Bool
lacks pair [] = true
lacks pair (n ∷ needles) = not (pair_eq n.pair pair) && lacks pair needles

-- whether a needle with these behind it is the last of its pair and not deleted
abbrev pub is_live : Needle → List Needle → Bool
is_live n needles = not n.deleted && lacks n.pair needles

-- the needles that are the last of their pair and not deleted, in order
abbrev pub live_needles : List Needle → List Needle
live_needles [] = []
live_needles (n ∷ needles) = if is_live n needles then n ∷ live_needles needles else live_needles needles

-- the needles, the last one of the pair flagged as deleted
abbrev pub flag_last : Pair → List Needle → List Needle
flag_last pair [] = []
flag_last pair (n ∷ needles) =
    if (pair_eq n.pair pair && lacks pair needles) then record n { deleted = true } ∷ needles else n ∷ flag_last pair needles
