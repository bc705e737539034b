-- What holds of the Directory at the moments of a block.
use Rattle.std.proofs.Common.{◌≢◌, ◌≡◌, ◌⊎◌, ℕ, zero, suc, ◌<◌, ◌≤◌, ◌+◌, Bool, true, false, List, [], ◌∷◌, ◌++◌, length, slice_get, Contains, Option, Some, None, refl, sym, ap}
use Rattle.std.proofs.Common.{subst, ◌∙◌, inl, inr, arith}
use Rattle.std.specs.Prelude.{map, take}
use Rattle.std.specs.List.{AllByRecursion as Each}
use Rattle.std.proofs.Math.Seq.{take-append_seam}
use Rattle.std.proofs.lemmas.List.{append-nil, append_assoc, length-append}
use Rattle.std.proofs.lemmas.Bool.{true≢false}
use Rattle.hay_needle.specs.declared.needle.Pair.{Pair}
use Rattle.hay_needle.specs.declared.settings.Settings.{Settings}
use Rattle.hay_url.specs.declared.Url.{Url as UrlParts}
use Rattle.hay_needle.specs.declared.needle.Cookie.{Cookie}
use Rattle.hay_script.specs.declared.Command.{Command}
use Rattle.hay_script.specs.declared.Command.TheVariants as command
use Rattle.hay_reply.specs.declared.ClosedBy.{ClosedBy}
use Rattle.hay_reply.specs.declared.Refused.{Refused}
use Rattle.hay_reply.specs.declared.Reply.{Reply}
use Rattle.hay_reply.specs.declared.Reply.TheVariants.{Stored, Moved, Full, ReadOnly, ReadOnlyDir, Failed, FailedDir, NoMem}
use Rattle.hay_core.specs.declared.entry.CoreTag.{CoreTag}
use Rattle.hay_legal.specs.declared.known.DirKnown.{DirKnown}
use Rattle.hay_legal.specs.declared.known.HomeRow.{HomeRow}
use Rattle.hay_legal.specs.declared.known.Known.{Known}
use Rattle.hay_legal.specs.declared.turn.Item.{Item}
use Rattle.hay_legal.specs.declared.turn.Item.TheVariants as asks
use Rattle.hay_legal.specs.declared.turn.LaneItem.{LaneItem}
use Rattle.hay_legal.specs.Known.{home_in, home_of, replica_on}
use Rattle.hay_legal.specs.Plain.{as_closed, start_of}
use Rattle.hay_legal.specs.Blocks.{HomeAt, MayHaveFrozen, tag_of}
use Rattle.hay_legal.proofs.Subject.Effects.{each_append, each_try, home_stays}
use Rattle.hay_legal.proofs.Subject.Entries.{home_bounded}
use Rattle.hay_history.specs.LaneSteps.{FollowsRows, LeadsRows, RowDid, RowsStanding, RowStep}
use Rattle.hay_history.specs.LaneSteps.RowDid.{AddsRow, Drains, FusesRow, PendsRow, TriesRow}
use Rattle.hay_history.proofs.Trying.{tried_or_changed_row}
use Rattle.hay_history.specs.Histories.{row_changes, Course, History, NoRows, OneRowStep, SeesHome, first_rows, own_rows, rows_behind}
use Rattle.hay_history.specs.Commands.{AddedRow, CameInLanes, CommandDid, CompactDid, CompactFailed, CompactRefused, CompactWanting, DelDid, FlushDid, GetDid, HomeRefuses}
use Rattle.hay_history.specs.Commands.{ItemDid, PutDid, PutRefused, RowPends, ShowDid, UrlDid}
use Rattle.hay_history.proofs.Histories.{along_rows, along_rows_last}
use Rattle.hay_history.proofs.Lists.{one_in}
use Rattle.hay_history.proofs.Lines.{answered, course_of, row_owner}

abbrev pub rows_moment : Known → History → ℕ → RowsStanding
rows_moment k history n = rows_behind (first_rows k) history.directory n

-- THE STEPS OF THE DIRECTORY

-- the rows only grow
abbrev pub Lengthens : RowsStanding → RowsStanding → Type 0
Lengthens a b = (new : List HomeRow) × ((b.directory).rows ≡ (a.directory).rows ++ new)

pub lengthens_same : (a : RowsStanding) → Lengthens a a
lengthens_same a = ([], sym (append-nil (a.directory).rows))

pub lengthens_trans : (a b c : RowsStanding) → Lengthens a b → Lengthens b c → Lengthens a c
lengthens_trans a b c h g =
    (h.0 ++ g.0, g.1 ∙ ap (λ (rows : List HomeRow). rows ++ g.0) h.1 ∙ append_assoc (a.directory).rows h.0 g.0)

pub lengthens_step : (tag : CoreTag) (did : RowDid) (a b : RowsStanding) → LeadsRows tag did a b → a.faults ≤ b.faults → Lengthens a b
lengthens_step tag TriesRow a b h le = ([], ap (λ (d : DirKnown). d.rows) h ∙ sym (append-nil (a.directory).rows))
lengthens_step tag (AddsRow row) a b h le = (row ∷ [], ap (λ (d : DirKnown). d.rows) h.1)
lengthens_step tag (PendsRow row) a b h le = ([], ap (λ (d : DirKnown). d.rows) h.1 ∙ sym (append-nil (a.directory).rows))
lengthens_step tag (Drains m is) a b h le = ([], ap (λ (d : DirKnown). d.rows) h ∙ sym (append-nil (a.directory).rows))
lengthens_step tag FusesRow a b h le = ([], ap (λ (d : DirKnown). d.rows) h ∙ sym (append-nil (a.directory).rows))

-- a frozen Directory stays as it is
abbrev pub StaysFrozen : RowsStanding → RowsStanding → Type 0
StaysFrozen a b = (a.directory).frozen ≡ true → b.directory ≡ a.directory

pub stays_frozen_trans : (a b c : RowsStanding) → StaysFrozen a b → StaysFrozen b c → StaysFrozen a c
stays_frozen_trans a b c h g frozen = g (ap (λ (d : DirKnown). d.frozen) (h frozen) ∙ frozen) ∙ h frozen

pub stays_frozen_step : (tag : CoreTag) (did : RowDid) (a b : RowsStanding) → LeadsRows tag did a b → a.faults ≤ b.faults → StaysFrozen a b
stays_frozen_step tag TriesRow a b h le frozen = h
stays_frozen_step tag (AddsRow row) a b h le frozen = absurd (true≢false (sym frozen ∙ h.0.0))
stays_frozen_step tag (PendsRow row) a b h le frozen = absurd (true≢false (sym frozen ∙ h.0.0))
stays_frozen_step tag (Drains m is) a b h le frozen = h
stays_frozen_step tag FusesRow a b h le frozen = h

-- THE STEPS OF A LINE ON THE DIRECTORY

-- a line that added its row may be answered so: a refusal is that of the pair's home
abbrev pub MayAnswerAdded : Course → Pair → ℕ → Reply → Type 0
MayAnswerAdded c pair size (Stored v p d cookie) = Unit {0}
MayAnswerAdded c pair size (Full refused) = HomeRefuses c pair size refused
MayAnswerAdded c pair size (ReadOnly by) = HomeRefuses c pair size (map as_closed by)
MayAnswerAdded c pair size (Failed v m f) = Unit {0}
MayAnswerAdded c pair size NoMem = Unit {0}
MayAnswerAdded c pair size _ = ⊥

abbrev pub HasRows : Course → Pair → List ℕ → Reply → Type 0
HasRows c pair bytes reply =
    (AddedRow c pair (length bytes) × MayAnswerAdded c pair (length bytes) reply) ⊎ (RowPends c pair (length bytes) × MayHaveFrozen reply)

refused_rows_of : (c : Course) (pair : Pair) (bytes : List ℕ) (refused : List Refused) → PutRefused c pair (length bytes) refused
    → NoRows c ⊎ (AddedRow c pair (length bytes) × HomeRefuses c pair (length bytes) refused)
refused_rows_of c pair bytes refused h = elim h.row [
  | inl none ↦ inl none
  | inr added ↦ elim h.because [ inl tries ↦ inl tries.1 | inr home ↦ inr (added, home) ]
]

put_rows : (c : Course) (pair : Pair) (bytes : List ℕ) (reply : Reply) → PutDid c pair bytes reply → NoRows c ⊎ HasRows c pair bytes reply
put_rows c pair bytes (Stored v p d cookie) h = elim h.row [ inl none ↦ inl none | inr added ↦ inr (inl (added, tt)) ]
put_rows c pair bytes (Full refused) h = elim (refused_rows_of c pair bytes refused h.0) [ inl none ↦ inl none | inr added ↦ inr (inl added) ]
put_rows c pair bytes (ReadOnly by) h = elim (refused_rows_of c pair bytes (map as_closed by) h) [ inl none ↦ inl none | inr added ↦ inr (inl added) ]
put_rows c pair bytes ReadOnlyDir h = inl h.1
put_rows c pair bytes (Failed v m f) h = elim h.row [ inl none ↦ inl none | inr added ↦ inr (inl (added, tt)) ]
put_rows c pair bytes (FailedDir f) h = inr (inr (h.pends, tt))
put_rows c pair bytes NoMem h =
    elim h [
      | inl pends ↦ inr (inr (pends.1, tt))
      | inr wanting ↦ elim wanting.0 [ inl none ↦ inl none | inr added ↦ inr (inl (added, tt)) ]
    ]
put_rows c pair bytes _ h = absurd h

show_rows : (c : Course) (start : ℕ) (pair : Pair) (cookie : Cookie) (reply : Reply) → ShowDid c start pair cookie reply → NoRows c
show_rows c start pair cookie NoMem h = h.0
show_rows c start pair cookie r h = search (h)

get_rows : (c : Course) (url : UrlParts) (o : Option ℕ) (reply : Reply) → GetDid c url o reply → NoRows c
get_rows c url (Some start) (Moved v d) h = h.2.1
get_rows c url (Some start) NoMem h = h.0
get_rows c url (Some start) reply h = show_rows c start url.pair url.cookie reply h.0
get_rows c url None NoMem h = h.1
get_rows c url None reply h = search (h)

del_rows : (c : Course) (pair : Pair) (reply : Reply) → DelDid c pair reply → NoRows c
del_rows c pair NoMem h = h.0
del_rows c pair r h = search (h)

url_rows : (c : Course) (pair : Pair) (reply : Reply) → UrlDid c pair reply → NoRows c
url_rows c pair NoMem h = h.1
url_rows c pair r h = search (h)

flush_rows : (c : Course) (v m : ℕ) (o : Option ℕ) (reply : Reply) → FlushDid c v m o reply → NoRows c
flush_rows c v m None NoMem h = h.1
flush_rows c v m None r h = search (h)
flush_rows c v m (Some j) NoMem h = h.1
flush_rows c v m (Some j) r h = search (h)

refused_rows : (c : Course) (v j : ℕ) (by : List ClosedBy) → CompactRefused c v j by → NoRows c
refused_rows c v j by (inl frozen) = frozen.1.1
refused_rows c v j [] (inr never) = absurd never
refused_rows c v j (by ∷ []) (inr ran) = ((ran.1).ran).rows
refused_rows c v j (by ∷ next ∷ rest) (inr never) = absurd never

failed_rows : (c : Course) (v m j f : ℕ) → CompactFailed c v m j f → NoRows c
failed_rows c v m j f (inl begins) = begins.rows
failed_rows c v m j f (inr (inl ends)) = ((ends.0).ran).rows
failed_rows c v m j f (inr (inr (inl poises))) = ((poises.0).ran).rows
failed_rows c v m j f (inr (inr (inr until))) = (until.ran).rows

wanting_rows : (c : Course) (v j : ℕ) → CompactWanting c v j → NoRows c
wanting_rows c v j (inl none) = none.1
wanting_rows c v j (inr (inl ends)) = (ends.ran).rows
wanting_rows c v j (inr (inr (inl swaps))) = ((swaps.2).ran).rows
wanting_rows c v j (inr (inr (inr (inl until)))) = ((until.1).ran).rows
wanting_rows c v j (inr (inr (inr (inr frozen)))) = ((frozen.1).ran).rows

compact_rows : (c : Course) (v m : ℕ) (o : Option ℕ) (reply : Reply) → CompactDid c v m o reply → NoRows c
compact_rows c v m None NoMem h = h.1
compact_rows c v m None reply h = search (h)
compact_rows c v m (Some j) (ReadOnly by) h = refused_rows c v j by h
compact_rows c v m (Some j) (Failed v' m' f) h = failed_rows c v m j f h.1
compact_rows c v m (Some j) NoMem h = wanting_rows c v j h
compact_rows c v m (Some j) reply h = search (h)

-- only a put has steps on the Directory
abbrev pub PutHasRows : Course → Item → Reply → Type 0
PutHasRows c item reply = (pair : Pair) × (bytes : List ℕ) × (item ≡ asks.Command (command.Put pair bytes)) × HasRows c pair bytes reply

command_rows : (c : Course) (asked : Command) (reply : Reply) → CommandDid c asked reply → NoRows c ⊎ PutHasRows c (asks.Command asked) reply
command_rows c (command.Put pair bytes) reply h = elim (put_rows c pair bytes reply h) [ inl none ↦ inl none | inr rows ↦ inr (pair, bytes, refl, rows) ]
command_rows c (command.Read pair cookie) reply h = inl (show_rows c (start_of c.settings c.tag) pair cookie reply h)
command_rows c (command.Get url) reply h = inl (get_rows c url (replica_on c.settings url.volume url.machine) reply h)
command_rows c (command.Del pair) reply h = inl (del_rows c pair reply h)
command_rows c (command.Url pair) reply h = inl (url_rows c pair reply h)
command_rows c (command.Flush v m) reply h = inl (flush_rows c v m (replica_on c.settings v m) reply h)
command_rows c (command.Compact v m) reply h = inl (compact_rows c v m (replica_on c.settings v m) reply h)
command_rows c _ reply h = absurd h

pub item_rows : (c : Course) (item : Item) (reply : Reply) → ItemDid c item reply → NoRows c ⊎ PutHasRows c item reply
item_rows c (asks.Command asked) reply h = command_rows c asked reply h
item_rows c asks.Bad reply h = inl h.1.1

none_contained : {X : Type 0} (xs : List X) (x : X) → xs ≡ [] → Contains xs x → ⊥
none_contained xs x e among = let long : length xs ≡ 0 = ap length e in omega (arith, long, among.1)

-- the line of a new row, and the put that it is
pub record RowsLine (settings : Settings) (k : Known) (items : List LaneItem) (history : History) (t : Known) (h : CameInLanes settings k items history t) (tag : CoreTag) (row : HomeRow)
    : Type 0 where
  pub item : LaneItem
  pub among : Contains items item
  pub own : tag_of item ≡ tag
  pub pair : Pair
  pub bytes : List ℕ
  pub put : item.item ≡ asks.Command (command.Put pair bytes)
  pub reply : MayAnswerAdded (course_of h item) pair (length bytes) item.reply
  pub added : AddedRow (course_of h item) pair (length bytes)
  pub is : added.row ≡ row

-- the line that froze the Directory with a row pending
pub record PendsLine (settings : Settings) (k : Known) (items : List LaneItem) (history : History) (t : Known) (h : CameInLanes settings k items history t) (tag : CoreTag) (row : HomeRow)
    : Type 0 where
  pub item : LaneItem
  pub among : Contains items item
  pub own : tag_of item ≡ tag
  pub pair : Pair
  pub bytes : List ℕ
  pub put : item.item ≡ asks.Command (command.Put pair bytes)
  pub reply : MayHaveFrozen item.reply
  pub pends : RowPends (course_of h item) pair (length bytes)
  pub is : record { pair = pair; volume = pends.v } ≡ row

-- an own step that is the only one did what that did
own_did : (c : Course) (did : RowDid) (i : ℕ) (s : RowStep) → OneRowStep c did → Contains (row_changes c) (i, s) → s.did ≡ did
own_did c did i s one among =
    ap (λ (at : ℕ × RowStep). (at.1).did) (sym (one_in (one.place, one.step) (i, s) (subst (λ rows. Contains rows (i, s)) one.only among))) ∙ one.is

-- a step that adds or leaves a row is one of those that changed something
turned : (c : Course) (i : ℕ) (s : RowStep) (did : RowDid) → s.did ≡ did → did ≢ TriesRow → Contains (own_rows c) (i, s) → Contains (row_changes c) (i, s)
turned c i s did is other own = elim (tried_or_changed_row c (i, s) own) [ inl tried ↦ absurd (other (sym is ∙ tried)) | inr changed_it ↦ changed_it ]

-- each step of the Directory tried, or it is a put's
abbrev pub puts_row : RowDid → Bool
puts_row TriesRow = true
puts_row (AddsRow row) = true
puts_row (PendsRow row) = true
puts_row (Drains m is) = false
puts_row FusesRow = false

pub each_puts_row : {settings : Settings} {k : Known} {items : List LaneItem} {history : History} {t : Known} (h : CameInLanes settings k items history t)
    (i : ℕ) (s : RowStep) → slice_get history.directory i ≡ Some s → puts_row s.did ≡ true
each_puts_row h i s at =
    let found = row_owner h i s at in
    let c = course_of h found.0 in
    elim (tried_or_changed_row c (i, s) found.3) [
      | inl tried ↦ ap puts_row tried
      | inr change ↦ elim (item_rows c (found.0).item (found.0).reply (answered h found.0 found.1).did) [
        | inl none ↦ absurd (none_contained _ _ none change)
        | inr (pair, bytes, put, has) ↦ elim has [
          | inl added ↦ ap puts_row (own_did c (AddsRow (added.0).row) i s (added.0).step change)
          | inr pends ↦ ap puts_row (own_did c (PendsRow (record { pair = pair; volume = (pends.0).v })) i s (pends.0).step change)
        ]
      ]
    ]

adds_of : {settings : Settings} {k : Known} {items : List LaneItem} {history : History} {t : Known} (h : CameInLanes settings k items history t)
    (i : ℕ) (s : RowStep) (row : HomeRow) → s.did ≡ AddsRow row → (item : LaneItem) → Contains items item → tag_of item ≡ s.tag
    → Contains (own_rows (course_of h item)) (i, s) → NoRows (course_of h item) ⊎ PutHasRows (course_of h item) item.item item.reply
    → RowsLine settings k items history t h s.tag row
adds_of h i s row did item among tag own rows =
    let change = turned (course_of h item) i s (AddsRow row) did (λ e. cc) own in
    elim rows [
      | inl none ↦ absurd (none_contained _ _ none change)
      | inr (pair, bytes, put, has) ↦ elim has [
        | inl added ↦
            let same : AddsRow (added.0).row ≡ AddsRow row = sym (own_did (course_of h item) (AddsRow (added.0).row) i s (added.0).step change) ∙ did in
            record { item = item; among = among; own = tag; pair = pair; bytes = bytes; put = put; reply = added.1; added = added.0; is = cc }
        | inr pends ↦
            let other : PendsRow (record { pair = pair; volume = (pends.0).v }) ≡ AddsRow row =
            sym (own_did (course_of h item) (PendsRow (record { pair = pair; volume = (pends.0).v })) i s (pends.0).step change) ∙ did in
            absurd cc
      ]
    ]

pub adds_line : {settings : Settings} {k : Known} {items : List LaneItem} {history : History} {t : Known} (h : CameInLanes settings k items history t)
    (i : ℕ) (s : RowStep) (row : HomeRow) → slice_get history.directory i ≡ Some s → s.did ≡ AddsRow row → RowsLine settings k items history t h s.tag row
adds_line h i s row at did =
    let found = row_owner h i s at in
    adds_of h i s row did found.0 found.1 found.2 found.3
    (item_rows (course_of h found.0) (found.0).item (found.0).reply (answered h found.0 found.1).did)

pends_of : {settings : Settings} {k : Known} {items : List LaneItem} {history : History} {t : Known} (h : CameInLanes settings k items history t)
    (i : ℕ) (s : RowStep) (row : HomeRow) → s.did ≡ PendsRow row → (item : LaneItem) → Contains items item → tag_of item ≡ s.tag
    → Contains (own_rows (course_of h item)) (i, s) → NoRows (course_of h item) ⊎ PutHasRows (course_of h item) item.item item.reply
    → PendsLine settings k items history t h s.tag row
pends_of h i s row did item among tag own rows =
    let change = turned (course_of h item) i s (PendsRow row) did (λ e. cc) own in
    elim rows [
      | inl none ↦ absurd (none_contained _ _ none change)
      | inr (pair, bytes, put, has) ↦ elim has [
        | inl added ↦
            let other : AddsRow (added.0).row ≡ PendsRow row =
            sym (own_did (course_of h item) (AddsRow (added.0).row) i s (added.0).step change) ∙ did in absurd cc
        | inr pends ↦
            let same : PendsRow (record { pair = pair; volume = (pends.0).v }) ≡ PendsRow row =
            sym (own_did (course_of h item) (PendsRow (record { pair = pair; volume = (pends.0).v })) i s (pends.0).step change) ∙ did in
            record { item = item; among = among; own = tag; pair = pair; bytes = bytes; put = put; reply = pends.1; pends = pends.0; is = cc }
      ]
    ]

pub pends_line : {settings : Settings} {k : Known} {items : List LaneItem} {history : History} {t : Known} (h : CameInLanes settings k items history t)
    (i : ℕ) (s : RowStep) (row : HomeRow) → slice_get history.directory i ≡ Some s → s.did ≡ PendsRow row → PendsLine settings k items history t h s.tag row
pends_line h i s row at did =
    let found = row_owner h i s at in
    pends_of h i s row did found.0 found.1 found.2 found.3
    (item_rows (course_of h found.0) (found.0).item (found.0).reply (answered h found.0 found.1).did)

-- THE ROWS

lengthens_take : (a b : RowsStanding) → Lengthens a b
    → (take (length (a.directory).rows) (b.directory).rows ≡ (a.directory).rows) × (length (a.directory).rows ≤ length (b.directory).rows)
lengthens_take a b h =
    let long : length (b.directory).rows ≡ length (a.directory).rows + length h.0 = ap length h.1 ∙ length-append (a.directory).rows h.0 in (
      ap (take (length (a.directory).rows)) h.1 ∙ take-append_seam (a.directory).rows h.0,
      omega (arith, long),
    )

pub lengthens_to : (before : RowsStanding) (steps : List RowStep) → FollowsRows before steps → (n m : ℕ) → n ≤ m
    → Lengthens (rows_behind before steps n) (rows_behind before steps m)
lengthens_to before steps = along_rows Lengthens before steps lengthens_same lengthens_trans lengthens_step

pub lengthens_last : (before : RowsStanding) (steps : List RowStep) → FollowsRows before steps → (n : ℕ)
    → Lengthens (rows_behind before steps n) (rows_behind before steps (length steps))
lengthens_last before steps = along_rows_last Lengthens before steps lengthens_same lengthens_trans lengthens_step

pub frozen_last : (before : RowsStanding) (steps : List RowStep) → FollowsRows before steps → (n : ℕ)
    → StaysFrozen (rows_behind before steps n) (rows_behind before steps (length steps))
frozen_last before steps = along_rows_last StaysFrozen before steps (λ a frozen. refl) stays_frozen_trans stays_frozen_step

-- the number of rows grows with the moments
pub rows_grow : {settings : Settings} {k : Known} {items : List LaneItem} {history : History} {t : Known} (h : CameInLanes settings k items history t)
    (n m : ℕ) → n ≤ m → length ((rows_moment k history n).directory).rows ≤ length ((rows_moment k history m).directory).rows
rows_grow {k = k} {history = history} h n m le =
    (lengthens_take (rows_moment k history n) (rows_moment k history m) (lengthens_to (first_rows k) history.directory h.follows_rows n m le)).1

-- the rows of a moment are kept, and their number grew
pub rows_at_last : {settings : Settings} {k : Known} {items : List LaneItem} {history : History} {t : Known} (h : CameInLanes settings k items history t)
    (n : ℕ) → (take (length ((rows_moment k history n).directory).rows) t.directory.rows ≡ ((rows_moment k history n).directory).rows)
    × (length ((rows_moment k history n).directory).rows ≤ length t.directory.rows)
    × (length k.directory.rows ≤ length ((rows_moment k history n).directory).rows)
rows_at_last {k = k} {history = history} {t = t} h n =
    let before : Lengthens (rows_moment k history 0) (rows_moment k history n) = lengthens_to (first_rows k) history.directory h.follows_rows 0 n (omega arith) in
    let later : Lengthens (rows_moment k history n) (rows_moment k history (length history.directory)) = lengthens_last (first_rows k) history.directory h.follows_rows n in
    let then = lengthens_take (rows_moment k history n) (rows_moment k history (length history.directory)) later in
    let first = lengthens_take (rows_moment k history 0) (rows_moment k history n) before in
    subst
    (λ (d : DirKnown). (take (length ((rows_moment k history n).directory).rows) d.rows ≡ ((rows_moment k history n).directory).rows)
    × (length ((rows_moment k history n).directory).rows ≤ length d.rows)
    × (length k.directory.rows ≤ length ((rows_moment k history n).directory).rows))
    (sym (h.directory).directory) (then.0, then.1, first.1)

-- a home that a line saw is the pair's home at that front
pub home_then : {settings : Settings} {k : Known} {items : List LaneItem} {history : History} {t : Known} (h : CameInLanes settings k items history t)
    (item : LaneItem) (pair : Pair) (d : ℕ) (home : Option ℕ) → SeesHome (course_of h item) pair d home
    → HomeAt t pair d home × (length k.directory.rows ≤ d) × (d ≤ length t.directory.rows)
home_then {k = k} {history = history} {t = t} h item pair d home sees =
    let at = rows_at_last h sees.moment in
    subst (λ (n : ℕ). HomeAt t pair n home × (length k.directory.rows ≤ n) × (n ≤ length t.directory.rows)) (sym sees.front)
    (ap (λ (rows : List HomeRow). home_in rows pair) at.0 ∙ sees.is, at.2, at.1)

pub none_before : (rows new : List HomeRow) (pair : Pair) → home_in (rows ++ new) pair ≡ None → home_in rows pair ≡ None
none_before rows new pair e = by (home_in rows pair) refl
  where
    by : (home : Option ℕ) → home_in rows pair ≡ home → home_in rows pair ≡ None
    by None is = is
    by (Some v) is = let never : Some v ≡ None = sym (home_stays rows new pair v is) ∙ e in absurd cc

-- a pair that was seen without a home had none before the block
pub no_home_before : {settings : Settings} {k : Known} {items : List LaneItem} {history : History} {t : Known} (h : CameInLanes settings k items history t)
    (item : LaneItem) (pair : Pair) (d : ℕ) → SeesHome (course_of h item) pair d None → home_of k pair ≡ None
no_home_before {k = k} {history = history} h item pair d sees =
    let grown = lengthens_to (first_rows k) history.directory h.follows_rows 0 sees.moment (omega arith) in
    none_before k.directory.rows grown.0 pair (sym (ap (λ (rows : List HomeRow). home_in rows pair) grown.1) ∙ sees.is)

-- what holds of each row of before and of each row that a step added holds of each row
pub rows_hold : (P : HomeRow → Type 0) (before : RowsStanding) (steps : List RowStep) (n : ℕ) → Each P (before.directory).rows → FollowsRows before steps
    → ((i : ℕ) (s : RowStep) (row : HomeRow) → slice_get steps i ≡ Some s → s.did ≡ AddsRow row → P row)
    → Each P ((rows_behind before steps n).directory).rows
rows_hold P before steps zero first f new = first
rows_hold P before [] (suc n) first f new = first
rows_hold P before (step ∷ steps) (suc n) first f new =
    rows_hold P step.after steps n (by step.tag step.did before step.after f.0 first (λ row did. new 0 step row refl did)) f.3
    (λ i s row at did. new (suc i) s row at did)
  where
    by : (tag : CoreTag) (did : RowDid) (a b : RowsStanding) → LeadsRows tag did a b → Each P (a.directory).rows → ((row : HomeRow) → did ≡ AddsRow row → P row)
        → Each P (b.directory).rows
    by tag TriesRow a b h old new = subst (λ (d : DirKnown). Each P d.rows) (sym h) old
    by tag (AddsRow row) a b h old new =
        subst (λ (d : DirKnown). Each P d.rows) (sym h.1) (each_append P (a.directory).rows (row ∷ []) old (new row refl, tt))
    by tag (PendsRow row) a b h old new = subst (λ (d : DirKnown). Each P d.rows) (sym h.1) old
    by tag (Drains m is) a b h old new = subst (λ (d : DirKnown). Each P d.rows) (sym h) old
    by tag FusesRow a b h old new = subst (λ (d : DirKnown). Each P d.rows) (sym h) old

pub new_row_below : {settings : Settings} {k : Known} {items : List LaneItem} {history : History} {t : Known} (h : CameInLanes settings k items history t)
    (i : ℕ) (s : RowStep) (row : HomeRow) → slice_get history.directory i ≡ Some s → s.did ≡ AddsRow row → row.volume < settings.volumes
new_row_below {settings} h i s row at did =
    let line = adds_line h i s row at did in
    subst (λ (r : HomeRow). r.volume < settings.volumes) line.is
    (each_try settings line.pair ((line.added).row).volume ((line.added).taker).tried)

-- a home that was seen is a volume of the store
pub home_below : {settings : Settings} {k : Known} {items : List LaneItem} {history : History} {t : Known} (h : CameInLanes settings k items history t)
    (item : LaneItem) (pair : Pair) (d v : ℕ) → SeesHome (course_of h item) pair d (Some v) → v < settings.volumes
home_below {settings} {k} {items} {history} {t} h item pair d v sees =
    home_bounded settings ((rows_moment k history sees.moment).directory).rows pair v
    (rows_hold (λ row. row.volume < settings.volumes) (first_rows k) history.directory sees.moment (h.store).homes h.follows_rows (λ i s row at did. new_row_below h i s row at did))
    sees.is

-- a Directory that is frozen at a moment is left as it was then
pub rows_frozen_then : {settings : Settings} {k : Known} {items : List LaneItem} {history : History} {t : Known} (h : CameInLanes settings k items history t)
    (n : ℕ) → ((rows_moment k history n).directory).frozen ≡ true → t.directory ≡ (rows_moment k history n).directory
rows_frozen_then {k = k} {history = history} h n frozen = (h.directory).directory ∙ frozen_last (first_rows k) history.directory h.follows_rows n frozen
