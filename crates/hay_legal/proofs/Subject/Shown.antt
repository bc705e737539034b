-- What a reader is shown is the last change of its pair.
use Rattle.std.proofs.Common.{◌≡◌, ◌≢◌, ℕ, true, false, List, [], ◌∷◌, ◌++◌, length, take, map, fold, Option, Some, None, refl, sym, ap, subst, ◌∙◌, ◌⊎◌, inl, inr}
use Rattle.std.proofs.lemmas.Bool.{cases_Bool, cond-true, cond-false, true≢false}
use Rattle.hay_needle.specs.declared.needle.Pair.{Pair}
use Rattle.hay_needle.specs.declared.needle.Cookie.{Cookie}
use Rattle.hay_needle.specs.declared.needle.Outcome.{Outcome}
use Rattle.hay_needle.specs.declared.needle.Outcome.TheVariants as outcome
use Rattle.hay_needle.specs.declared.settings.Settings.{Settings}
use Rattle.hay_needle.specs.Tables.{outcome_at, pair_eq, look_after}
use Rattle.hay_needle.proofs.TableLaws.{pair_same, pair_refl, look_append}
use Rattle.hay_script.specs.declared.Command.{Command}
use Rattle.hay_script.specs.declared.Command.TheVariants as command
use Rattle.hay_reply.specs.declared.Reply.{Reply}
use Rattle.hay_reply.specs.declared.Reply.TheVariants as reply
use Rattle.hay_core.specs.declared.entry.Entry.{Entry}
use Rattle.hay_core.specs.declared.entry.Entry.TheVariants as entry
use Rattle.hay_core.specs.declared.entry.CoreTag.{CoreTag}
use Rattle.hay_core.specs.declared.entry.Logged.{Logged}
use Rattle.hay_core.specs.Entries.{apply_entry, entries_of, after, entry_row, logged_row}
use Rattle.hay_core.proofs.EntryLaws.{at-fold}
use Rattle.hay_legal.specs.declared.known.ReplicaKnown.{ReplicaKnown}
use Rattle.hay_legal.specs.declared.known.VolumeKnown.{VolumeKnown}
use Rattle.hay_legal.specs.declared.known.Known.{Known}
use Rattle.hay_legal.specs.declared.turn.Turn.{Turn}
use Rattle.hay_legal.specs.Known.{now, replica_on}
use Rattle.hay_url.specs.declared.Url.{Url as UrlParts}
use Rattle.hay_legal.specs.Plain.{LegalCommand, LegalShow, LegalGetAt, IsShown, start_of}
use Rattle.hay_legal.specs.Legal.{Legal, known_after}
use Rattle.hay_legal.specs.Subject.{known_behind, pair_of, Spares, IsLast, HasPhoto, HasNothing, AsksFor, IsSeenOn, IsTrueOf, ShowsTheLastChange}

-- LISTS OF TURNS

-- what is legal in two parts
pub legal_split : (settings : Settings) (k t : Known) (earlier later : List Turn) → Legal settings k (earlier ++ later) t
    → Legal settings k earlier (known_behind k earlier) × Legal settings (known_behind k earlier) later t
legal_split settings k t [] later h = (refl, h)
legal_split settings k t (turn ∷ earlier) later h =
    let rest = legal_split settings (known_after turn) t earlier later h.1 in ((h.0, rest.0), rest.1)

-- THE LAST CHANGE OF A PAIR

abbrev pub outcome_of : Entry → Outcome
outcome_of (entry.Put pair cookie bytes) = outcome.Photo (record { cookie = cookie; bytes = bytes })
outcome_of (entry.Del pair) = outcome.Nothing

pub row_pair : (e : Entry) → (entry_row e).pair ≡ pair_of e
row_pair (entry.Put pair cookie bytes) = refl
row_pair (entry.Del pair) = refl

pub row_outcome : (e : Entry) → (entry_row e).outcome ≡ outcome_of e
row_outcome (entry.Put pair cookie bytes) = refl
row_outcome (entry.Del pair) = refl

pub whole : (log : List Logged) → take (length log) (entries_of log) ≡ entries_of log
whole [] = refl
whole (l ∷ log) = ap (λ (es : List Entry). l.entry ∷ es) (whole log)

-- what stands now at a pair, by the rows of the log
pub at-now : (volume : VolumeKnown) (replica : ReplicaKnown) (pair : Pair)
    → outcome_at (now volume replica) pair ≡ look_after (map logged_row volume.log) pair (outcome_at replica.base pair)
at-now volume replica pair =
    ap (λ (es : List Entry). outcome_at (fold apply_entry replica.base es) pair) (whole volume.log) ∙ at-fold replica.base volume.log pair

-- a test of two pairs that are apart
pub pair_differs : (a b : Pair) → a ≢ b → pair_eq a b ≡ false
pair_differs a b apart = elim (cases_Bool (pair_eq a b)) [ inl t ↦ absurd (apart (pair_same a b t)) | inr f ↦ f ]

-- a log that spares the pair leaves what stood there
pub spared_look : (log : List Logged) (pair : Pair) (o : Outcome) → Spares pair log → look_after (map logged_row log) pair o ≡ o
spared_look [] pair o h = refl
spared_look (l ∷ log) pair o h =
    let apart : pair_eq (entry_row l.entry).pair pair ≡ false = pair_differs _ pair (λ e. h.0 (sym (row_pair l.entry) ∙ e)) in
    ap (λ (x : Outcome). look_after (map logged_row log) pair x) (cond-false _ (entry_row l.entry).outcome o apart) ∙ spared_look log pair o h.1

pub map-append_rows : (xs ys : List Logged) → map logged_row (xs ++ ys) ≡ map logged_row xs ++ map logged_row ys
map-append_rows [] ys = refl
map-append_rows (x ∷ xs) ys = ap (λ rows. logged_row x ∷ rows) (map-append_rows xs ys)

-- the last change decides
pub last_look : (log : List Logged) (pair : Pair) (change : Entry) (o : Outcome) → IsLast log pair change → look_after (map logged_row log) pair o ≡ outcome_of change
last_look log pair change o last =
    let same : pair_eq (entry_row change).pair pair ≡ true = ap (λ (p : Pair). pair_eq p pair) (row_pair change ∙ last.own) ∙ pair_refl pair in
    ap (λ (xs : List Logged). look_after (map logged_row xs) pair o) last.parts
    ∙ ap (λ rows. look_after rows pair o) (map-append_rows last.front _)
    ∙ look_append (map logged_row last.front) _ pair o
    ∙ ap (λ (x : Outcome). look_after (map logged_row last.back) pair x) (cond-true _ (entry_row change).outcome _ same)
    ∙ spared_look last.back pair _ last.spared
    ∙ row_outcome change

-- each log has a last change of the pair, or none
pub last_or_spared : (log : List Logged) (pair : Pair) → ((change : Entry) × IsLast log pair change) ⊎ Spares pair log
last_or_spared [] pair = inr tt
last_or_spared (l ∷ log) pair =
    elim (last_or_spared log pair) [
      | inl last ↦ inl (
        last.0,
        record {
          front = l ∷ (last.1).front;
          tag = (last.1).tag;
          back = (last.1).back;
          parts = ap (λ (xs : List Logged). l ∷ xs) (last.1).parts;
          own = (last.1).own;
          spared = (last.1).spared;
        },
      )
      | inr spared ↦ elim (cases_Bool (pair_eq (pair_of l.entry) pair)) [
        | inl t ↦ inl (l.entry, record { front = []; tag = l.tag; back = log; parts = refl; own = pair_same _ pair t; spared = spared })
        | inr f ↦ inr ((λ e. true≢false (sym (ap (λ (p : Pair). pair_eq p pair) e ∙ pair_refl pair) ∙ f)), spared)
      ]
    ]

-- what is shown is the last change, or what the replica began with
abbrev pub cookie_in : Cookie → Outcome → Cookie
cookie_in other outcome.Nothing = other
cookie_in other (outcome.Photo photo) = photo.cookie

abbrev pub bytes_in : Outcome → List ℕ
bytes_in outcome.Nothing = []
bytes_in (outcome.Photo photo) = photo.bytes

pub put_is : (change : Entry) (pair : Pair) (cookie : Cookie) (bytes : List ℕ) → pair_of change ≡ pair
    → outcome_of change ≡ outcome.Photo (record { cookie = cookie; bytes = bytes }) → change ≡ entry.Put pair cookie bytes
put_is (entry.Put p c b) pair cookie bytes own e =
    let same_cookie : c ≡ cookie = ap (cookie_in cookie) e in
    let same_bytes : b ≡ bytes = ap bytes_in e in
    cc
put_is (entry.Del p) pair cookie bytes own e = absurd cc

pub del_is : (change : Entry) (pair : Pair) → pair_of change ≡ pair → outcome_of change ≡ outcome.Nothing → change ≡ entry.Del pair
del_is (entry.Put p c b) pair own e = absurd cc
del_is (entry.Del p) pair own e = cc

pub photo_from : (volume : VolumeKnown) (replica : ReplicaKnown) (pair : Pair) (cookie : Cookie) (bytes : List ℕ)
    → outcome_at (now volume replica) pair ≡ outcome.Photo (record { cookie = cookie; bytes = bytes }) → HasPhoto volume replica pair cookie bytes
photo_from volume replica pair cookie bytes e =
    let seen = sym (at-now volume replica pair) ∙ e in
    elim (last_or_spared volume.log pair) [
      | inl last ↦ inl (subst (λ (change : Entry). IsLast volume.log pair change)
          (put_is last.0 pair cookie bytes (last.1).own (sym (last_look volume.log pair last.0 _ last.1) ∙ seen)) last.1)
      | inr spared ↦ inr (spared, sym (spared_look volume.log pair _ spared) ∙ seen)
    ]

pub nothing_from : (volume : VolumeKnown) (replica : ReplicaKnown) (pair : Pair)
    → outcome_at (now volume replica) pair ≡ outcome.Nothing → HasNothing volume replica pair
nothing_from volume replica pair e =
    let seen = sym (at-now volume replica pair) ∙ e in
    elim (last_or_spared volume.log pair) [
      | inl last ↦ inl (subst (λ (change : Entry). IsLast volume.log pair change)
          (del_is last.0 pair (last.1).own (sym (last_look volume.log pair last.0 _ last.1) ∙ seen)) last.1)
      | inr spared ↦ inr (spared, sym (spared_look volume.log pair _ spared) ∙ seen)
    ]

-- A PHOTO THAT IS SHOWN IS THE LAST CHANGE

-- the replies that tell what stands at a pair
abbrev pub Tells : Reply → Type 0
Tells (reply.Photo v m p d bytes) = Unit {0}
Tells (reply.Gone v m p d) = Unit {0}
Tells (reply.WrongCookie v m p d) = Unit {0}
Tells (reply.Unknown d) = Unit {0}
Tells (reply.Unreadable v p d causes) = Unit {0}
Tells _ = ⊥

pub get_at : (settings : Settings) (k : Known) (tag : CoreTag) (url : UrlParts) (o : Option ℕ) (r : Reply) (t : Known) → Tells r
    → LegalGetAt settings k tag url o r t → (start : ℕ) × LegalShow settings k tag start url.pair url.cookie r t
get_at settings k tag url (Some start) (reply.Photo v m p d bytes) t tells h = (start, h.0)
get_at settings k tag url (Some start) (reply.Gone v m p d) t tells h = (start, h.0)
get_at settings k tag url (Some start) (reply.WrongCookie v m p d) t tells h = (start, h.0)
get_at settings k tag url (Some start) (reply.Unknown d) t tells h = (start, h.0)
get_at settings k tag url (Some start) (reply.Unreadable v p d causes) t tells h = (start, h.0)
get_at settings k tag url (Some start) _ t tells h = absurd tells
get_at settings k tag url None (reply.Photo v m p d bytes) t tells h = absurd h
get_at settings k tag url None (reply.Gone v m p d) t tells h = absurd h
get_at settings k tag url None (reply.WrongCookie v m p d) t tells h = absurd h
get_at settings k tag url None (reply.Unknown d) t tells h = absurd h
get_at settings k tag url None (reply.Unreadable v p d causes) t tells h = absurd h
get_at settings k tag url None _ t tells h = absurd tells

pub asked : (settings : Settings) (k : Known) (tag : CoreTag) (c : Command) (r : Reply) (t : Known) (pair : Pair) (cookie : Cookie) → Tells r
    → AsksFor c pair cookie → LegalCommand settings k tag c r t → (start : ℕ) × LegalShow settings k tag start pair cookie r t
asked settings k tag (command.Read p c) r t pair cookie tells asks h = (
  start_of settings tag,
  subst (λ (q : Cookie). LegalShow settings k tag (start_of settings tag) pair q r t) asks.1
      (subst (λ (q : Pair). LegalShow settings k tag (start_of settings tag) q c r t) asks.0 h),
)
asked settings k tag (command.Get url) r t pair cookie tells asks h =
    let at = get_at settings k tag url _ r t tells h in
    (at.0, subst (λ (q : Cookie). LegalShow settings k tag at.0 pair q r t) asks.1 (subst (λ (q : Pair). LegalShow settings k tag at.0 q url.cookie r t) asks.0 at.1))
asked settings k tag _ r t pair cookie tells asks h = absurd asks

pub seen_by : (settings : Settings) (k : Known) (tag : CoreTag) (start : ℕ) (pair : Pair) (v m p d : ℕ) (shown : Outcome) (t : Known)
    (Has : VolumeKnown → ReplicaKnown → Type 0)
    → ((volume : VolumeKnown) (replica : ReplicaKnown) → outcome_at (now volume replica) pair ≡ shown → Has volume replica)
    → IsShown settings k tag start pair v m p d shown t → IsSeenOn settings k pair v m p d Has
seen_by settings k tag start pair v m p d shown t Has has h = record {
  home = (h.seen).home;
  replica = h.replica;
  there = h.there;
  front = (h.seen).front;
  rows = (h.seen).rows;
  has = has _ _ h.stands;
}

pub show_true : (settings : Settings) (k : Known) (tag : CoreTag) (start : ℕ) (pair : Pair) (cookie : Cookie) (r : Reply) (t : Known)
    → LegalShow settings k tag start pair cookie r t → IsTrueOf settings k pair cookie r
show_true settings k tag start pair cookie (reply.Photo v m p d bytes) t h =
    seen_by settings k tag start pair v m p d _ t _ (λ volume replica e. photo_from volume replica pair cookie bytes e) h
show_true settings k tag start pair cookie (reply.Gone v m p d) t h =
    seen_by settings k tag start pair v m p d _ t _ (λ volume replica e. nothing_from volume replica pair e) h
show_true settings k tag start pair cookie (reply.WrongCookie v m p d) t h =
    (h.0, h.1, h.2, seen_by settings k tag start pair v m p d _ t _ (λ volume replica e. photo_from volume replica pair h.0 h.1 e) h.3)
show_true settings k tag start pair cookie (reply.Unreadable v p d causes) t h = h.seen
show_true settings k tag start pair cookie (reply.Unknown d) t h = h.0
show_true settings k tag start pair cookie reply.NoMem t h = tt
show_true settings k tag start pair cookie _ t h = absurd h

get_true : (settings : Settings) (k : Known) (tag : CoreTag) (url : UrlParts) (o : Option ℕ) (r : Reply) (t : Known)
    → LegalGetAt settings k tag url o r t → IsTrueOf settings k url.pair url.cookie r
get_true settings k tag url (Some start) (reply.Moved v d) t h = (h.0, h.2)
get_true settings k tag url (Some start) r t h = show_true settings k tag start url.pair url.cookie r t h.0
get_true settings k tag url None reply.Nowhere t h = tt
get_true settings k tag url None reply.NoMem t h = tt
get_true settings k tag url None _ t h = absurd h

pub answer_true : (settings : Settings) (k : Known) (tag : CoreTag) (c : Command) (r : Reply) (t : Known) (pair : Pair) (cookie : Cookie)
    → AsksFor c pair cookie → LegalCommand settings k tag c r t → IsTrueOf settings k pair cookie r
answer_true settings k tag (command.Read p c) r t pair cookie asks h =
    subst (λ (q : Cookie). IsTrueOf settings k pair q r) asks.1
    (subst (λ (q : Pair). IsTrueOf settings k q c r) asks.0 (show_true settings k tag (start_of settings tag) p c r t h))
answer_true settings k tag (command.Get url) r t pair cookie asks h =
    subst (λ (q : Cookie). IsTrueOf settings k pair q r) asks.1
    (subst (λ (q : Pair). IsTrueOf settings k q url.cookie r) asks.0 (get_true settings k tag url (replica_on settings url.volume url.machine) r t h))
answer_true settings k tag _ r t pair cookie asks h = absurd asks

pub shows_the_last_change : ShowsTheLastChange
shows_the_last_change settings k t earlier later line c r after pair cookie legal asks =
    answer_true settings (known_behind k earlier) (record { lane = 0; line = line }) c r after pair cookie asks (legal_split settings k t earlier _ legal).1.0
