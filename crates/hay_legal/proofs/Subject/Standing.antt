-- What stands at a pair, and what is read of it.
use Rattle.std.proofs.Common.{◌≡◌, ◌≢◌, ℕ, ◌+◌, ◌<◌, Bool, false, cond, List, [], ◌∷◌, ◌++◌, length, map, Option, Some, None, refl, sym, ap, subst, ◌∙◌, ◌⊎◌, inl, inr, arith}
use Rattle.std.specs.List.{AllByRecursion as Each}
use Rattle.std.specs.Prelude.{◌==◌, nat_lt, find, is_none}
use Rattle.std.proofs.lemmas.List.FromFn.{length-range_with_len, get_or-range_with_len}
use Rattle.std.proofs.lemmas.Bool.{cases_Bool, cond-true, cond-false}
use Rattle.hay_needle.specs.declared.needle.Pair.{Pair}
use Rattle.hay_needle.specs.declared.needle.Cookie.{Cookie}
use Rattle.hay_needle.specs.declared.needle.Outcome.{Outcome}
use Rattle.hay_needle.specs.declared.needle.Outcome.TheVariants as outcome
use Rattle.hay_needle.specs.declared.settings.Settings.{Settings}
use Rattle.hay_needle.specs.Tables.{Table, outcome_at, pair_eq, look_after}
use Rattle.hay_needle.proofs.TableLaws.{pair_refl, look_append}
use Rattle.hay_script.specs.declared.Command.{Command}
use Rattle.hay_script.specs.declared.Command.TheVariants as command
use Rattle.hay_reply.specs.declared.Reply.{Reply}
use Rattle.hay_reply.specs.declared.Reply.TheVariants as reply
use Rattle.hay_core.specs.declared.entry.Entry.TheVariants as entry
use Rattle.hay_core.specs.declared.entry.CoreTag.{CoreTag}
use Rattle.hay_core.specs.declared.entry.Logged.{Logged}
use Rattle.hay_core.specs.Entries.{after, entry_row, logged_row}
use Rattle.hay_legal.specs.declared.known.VolumeKnown.{VolumeKnown}
use Rattle.hay_legal.specs.declared.known.HomeRow.{HomeRow}
use Rattle.hay_legal.specs.declared.known.DirKnown.{DirKnown}
use Rattle.hay_legal.specs.declared.known.Known.{Known}
use Rattle.hay_legal.specs.declared.turn.Item.{Item}
use Rattle.hay_legal.specs.declared.turn.Item.TheVariants as item
use Rattle.hay_legal.specs.declared.turn.Turn.{Turn}
use Rattle.hay_legal.specs.declared.turn.Turn.TheVariants.{Plain, Lanes, Restart}
use Rattle.hay_legal.specs.Known.{now, home_of, home_in, volume_at, replica_at, refusal_of, machine_of, replicas_of, replica_on}
use Rattle.hay_url.specs.declared.Url.{Url as UrlParts}
use Rattle.hay_url.specs.Url.{cookie_of}
use Rattle.hay_legal.specs.Plain.{IsStored, IsDeleted, LegalPlain, LegalCommand, LegalShow, LegalGetAt, IsShown, start_of}
use Rattle.hay_legal.specs.Legal.{Legal}
use Rattle.hay_legal.specs.Subject.{known_behind, pair_of, AsksFor, IsOf, changed_pair, LeavesAlone, SaysNothing, IsReadAs, IsRefusedAsGone, IsRefusedForItsCookie, StoredIsRead, DeletedIsGone}
use Rattle.hay_legal.proofs.Subject.Shown.{legal_split, outcome_of, row_pair, row_outcome, at-now, pair_differs, map-append_rows, cookie_in, bytes_in, Tells, asked}
use Rattle.hay_legal.proofs.Subject.Effects.{SameLog, RowsGrow, calm_undisturbed, find_of, home_stays, taken_home, Adds, Disturbed, put_disturbed, del_disturbed, plain_effect}
use Rattle.hay_legal.proofs.Subject.Entries.{is_of_behind, home_bounded, taken_bounded}

-- WHAT STANDS AT A PAIR

-- what a replica of a volume has now at a pair
abbrev pub at_replica : VolumeKnown → ℕ → Pair → Outcome
at_replica volume j pair = outcome_at (now volume (replica_at volume j)) pair

-- Every replica of the pair's home has this.
pub record Standing (settings : Settings) (k : Known) (pair : Pair) (shown : Outcome) : Type 0 where
  pub volume : ℕ
  pub home : home_of k pair ≡ Some volume
  pub each : (j : ℕ) → j < settings.replicas → at_replica (volume_at k volume) j pair ≡ shown

pub same_now : (old new : VolumeKnown) (j : ℕ) (pair : Pair) → SameLog old new → at_replica new j pair ≡ at_replica old j pair
same_now old new j pair same =
    at-now new (replica_at new j) pair
    ∙ ap (λ (log : List Logged). look_after (map logged_row log) pair (outcome_at (replica_at new j).base pair)) same.log
    ∙ ap (λ (table : Table). look_after (map logged_row old.log) pair (outcome_at table pair)) (same.bases j)
    ∙ sym (at-now old (replica_at old j) pair)

pub adds_now : (old new : VolumeKnown) (logged : Logged) (j : ℕ) (pair : Pair) → Adds old logged new
    → at_replica new j pair ≡ cond (pair_eq (entry_row logged.entry).pair pair) (entry_row logged.entry).outcome (at_replica old j pair)
adds_now old new logged j pair adds =
    at-now new (replica_at new j) pair
    ∙ ap (λ (log : List Logged). look_after (map logged_row log) pair (outcome_at (replica_at new j).base pair)) adds.log
    ∙ ap (λ (table : Table). look_after (map logged_row (old.log ++ logged ∷ [])) pair (outcome_at table pair)) (adds.bases j)
    ∙ ap (λ rows. look_after rows pair (outcome_at (replica_at old j).base pair)) (map-append_rows old.log (logged ∷ []))
    ∙ look_append (map logged_row old.log) (logged_row logged ∷ []) pair (outcome_at (replica_at old j).base pair)
    ∙ ap (λ (o : Outcome). cond (pair_eq (entry_row logged.entry).pair pair) (entry_row logged.entry).outcome o) (sym (at-now old (replica_at old j) pair))

pub home_grows : (settings : Settings) (k t : Known) (pair : Pair) (v : ℕ) → RowsGrow settings k t → home_of k pair ≡ Some v → home_of t pair ≡ Some v
home_grows settings k t pair v grow home =
    ap (λ (rows : List HomeRow). home_in rows pair) grow.rows ∙ home_stays k.directory.rows grow.new pair v home

-- a home stands over plain turns
pub plain_home : (settings : Settings) (k : Known) (line : ℕ) (i : Item) (r : Reply) (t : Known) (pair : Pair) (v : ℕ) → LegalPlain settings k line i r t
    → home_of k pair ≡ Some v → home_of t pair ≡ Some v
plain_home settings k line i r t pair v h home =
    elim (plain_effect settings k line i r t h) [
      | inl calm ↦ home_grows settings k t pair v (calm_undisturbed settings k t calm).grow home
      | inr change ↦ home_grows settings k t pair v (change.3).grow home
    ]

-- a plain turn that acknowledges no change of the pair
pub standing_plain : (settings : Settings) (k : Known) (line : ℕ) (i : Item) (r : Reply) (t : Known) (pair : Pair) (shown : Outcome)
    → LegalPlain settings k line i r t → changed_pair i r ≢ Some pair → Standing settings k pair shown → Standing settings t pair shown
standing_plain settings k line i r t pair shown h quiet stands =
    elim (plain_effect settings k line i r t h) [
      | inl calm ↦ let same = calm_undisturbed settings k t calm in record {
        volume = stands.volume;
        home = home_grows settings k t pair stands.volume same.grow stands.home;
        each = λ j below. same_now (volume_at k stands.volume) (volume_at t stands.volume) j pair (same.each stands.volume) ∙ stands.each j below;
      }
      | inr change ↦
          let other : pair_eq (entry_row (change.1).entry).pair pair ≡ false =
          pair_differs (entry_row (change.1).entry).pair pair (λ e. quiet (change.2 ∙ ap (λ (p : Pair). Some p) (sym (row_pair (change.1).entry) ∙ e))) in
          record {
            volume = stands.volume;
            home = home_grows settings k t pair stands.volume (change.3).grow stands.home;
            each = λ j below. elim ((change.3).each stands.volume) [
              | inl same ↦ same_now (volume_at k stands.volume) (volume_at t stands.volume) j pair same ∙ stands.each j below
              | inr adds ↦ adds_now (volume_at k stands.volume) (volume_at t stands.volume) change.1 j pair adds.1
                  ∙ cond-false (pair_eq (entry_row (change.1).entry).pair pair) (entry_row (change.1).entry).outcome (at_replica (volume_at k stands.volume) j pair) other
                  ∙ stands.each j below
            ];
          }
    ]

pub standing_between : (settings : Settings) (k t : Known) (turns : List Turn) (pair : Pair) (shown : Outcome)
    → Legal settings k turns t → Each (LeavesAlone pair) turns → Standing settings k pair shown → Standing settings t pair shown
standing_between settings k t [] pair shown legal quiet stands = subst (λ (x : Known). Standing settings x pair shown) (sym legal) stands
standing_between settings k t (Plain line i r after ∷ turns) pair shown legal quiet stands =
    standing_between settings after t turns pair shown legal.1 quiet.1 (standing_plain settings k line i r after pair shown legal.0 quiet.0 stands)
standing_between settings k t (Lanes items logs rows after ∷ turns) pair shown legal quiet stands = absurd quiet.0
standing_between settings k t (Restart line pick r notes after ∷ turns) pair shown legal quiet stands = absurd quiet.0

-- an acknowledged change stands
pub standing_changed : (settings : Settings) (k : Known) (v : ℕ) (logged : Logged) (t : Known) → v < length k.volumes → home_of t (pair_of logged.entry) ≡ Some v
    → Disturbed settings k v logged t → Standing settings t (pair_of logged.entry) (outcome_of logged.entry)
standing_changed settings k v logged t below home h = record {
  volume = v;
  home = home;
  each = λ j within. adds_now (volume_at k v) (volume_at t v) logged j (pair_of logged.entry) (h.here below)
      ∙ cond-true (pair_eq (entry_row logged.entry).pair (pair_of logged.entry)) (entry_row logged.entry).outcome (at_replica (volume_at k v) j (pair_of logged.entry))
      (ap (λ (p : Pair). pair_eq p (pair_of logged.entry)) (row_pair logged.entry) ∙ pair_refl (pair_of logged.entry))
      ∙ row_outcome logged.entry;
}

-- WHAT IS READ OF WHAT STANDS

pub replica_bounded : (settings : Settings) (v m j : ℕ) → replica_on settings v m ≡ Some j → j < settings.replicas
replica_bounded settings v m j e =
    let test : ℕ → Bool = λ i. machine_of settings v i == m in
    elim (cases_Bool (nat_lt v settings.volumes)) [
      | inl t ↦
          let at = (find_of test (replicas_of settings) j (sym (cond-true (nat_lt v settings.volumes) (find test (replicas_of settings)) None t) ∙ e)).1 in
          let below : at.0 < settings.replicas = subst (λ (n : ℕ). at.0 < n) (length-range_with_len 0 settings.replicas) at.1 in
          let plus : at.0 ≡ 0 + at.0 = omega arith in
          let is : at.0 ≡ j = plus ∙ sym (get_or-range_with_len 0 settings.replicas at.0 j below) ∙ at.2 in
          subst (λ (n : ℕ). n < settings.replicas) is below
      | inr f ↦ let none : None ≡ Some j = sym (cond-false (nat_lt v settings.volumes) (find test (replicas_of settings)) None f) ∙ e in absurd cc
    ]

-- what is shown is what stands
pub shown_stands : (settings : Settings) (k : Known) (tag : CoreTag) (start : ℕ) (pair : Pair) (v m p d : ℕ) (shown shown' : Outcome) (t : Known)
    → Standing settings k pair shown → IsShown settings k tag start pair v m p d shown' t → shown' ≡ shown
shown_stands settings k tag start pair v m p d shown shown' t stands h =
    let homes : Some stands.volume ≡ Some v = sym stands.home ∙ (h.seen).home in
    let same : stands.volume ≡ v = cc in
    sym h.stands
    ∙ ap (λ (u : ℕ). at_replica (volume_at k u) h.replica pair) (sym same)
    ∙ stands.each h.replica (replica_bounded settings v m h.replica h.there)

abbrev pub ReadsPhoto : Cookie → Cookie → List ℕ → Reply → Type 0
ReadsPhoto cookie own bytes r = (cookie ≡ own → IsReadAs bytes r) × (cookie ≢ own → IsRefusedForItsCookie r)

pub show_photo : (settings : Settings) (k : Known) (tag : CoreTag) (start : ℕ) (pair : Pair) (cookie own : Cookie) (bytes : List ℕ) (r : Reply) (t : Known) → Tells r
    → Standing settings k pair (outcome.Photo (record { cookie = own; bytes = bytes })) → LegalShow settings k tag start pair cookie r t
    → ReadsPhoto cookie own bytes r
show_photo settings k tag start pair cookie own bytes (reply.Photo v m p d bytes') t tells stands h =
    let same = shown_stands settings k tag start pair v m p d _ (outcome.Photo (record { cookie = cookie; bytes = bytes' })) t stands h in
    (λ e. ap bytes_in same, λ apart. absurd (apart (ap (cookie_in own) same)))
show_photo settings k tag start pair cookie own bytes (reply.Gone v m p d) t tells stands h =
    let same = shown_stands settings k tag start pair v m p d _ outcome.Nothing t stands h in absurd cc
show_photo settings k tag start pair cookie own bytes (reply.WrongCookie v m p d) t tells stands h =
    let same = shown_stands settings k tag start pair v m p d _ (outcome.Photo (record { cookie = h.0; bytes = h.1 })) t stands h.3 in
    (λ e. absurd (h.2 (ap (cookie_in own) same ∙ sym e)), λ apart. tt)
show_photo settings k tag start pair cookie own bytes (reply.Unknown d) t tells stands h =
    let none : None ≡ Some stands.volume = sym h.0.0 ∙ stands.home in absurd cc
show_photo settings k tag start pair cookie own bytes (reply.Unreadable v p d causes) t tells stands h = (λ e. tt, λ apart. tt)
show_photo settings k tag start pair cookie own bytes _ t tells stands h = absurd tells

pub show_gone : (settings : Settings) (k : Known) (tag : CoreTag) (start : ℕ) (pair : Pair) (cookie : Cookie) (r : Reply) (t : Known) → Tells r
    → Standing settings k pair outcome.Nothing → LegalShow settings k tag start pair cookie r t → IsRefusedAsGone r
show_gone settings k tag start pair cookie (reply.Photo v m p d bytes) t tells stands h =
    let same = shown_stands settings k tag start pair v m p d _ (outcome.Photo (record { cookie = cookie; bytes = bytes })) t stands h in absurd cc
show_gone settings k tag start pair cookie (reply.Gone v m p d) t tells stands h = tt
show_gone settings k tag start pair cookie (reply.WrongCookie v m p d) t tells stands h =
    let same = shown_stands settings k tag start pair v m p d _ (outcome.Photo (record { cookie = h.0; bytes = h.1 })) t stands h.3 in absurd cc
show_gone settings k tag start pair cookie (reply.Unknown d) t tells stands h =
    let none : None ≡ Some stands.volume = sym h.0.0 ∙ stands.home in absurd cc
show_gone settings k tag start pair cookie (reply.Unreadable v p d causes) t tells stands h = tt
show_gone settings k tag start pair cookie _ t tells stands h = absurd tells

-- a fact about the reply to a reader, which each reply that tells nothing has
pub answered : (settings : Settings) (k : Known) (tag : CoreTag) (c : Command) (r : Reply) (t : Known) (pair : Pair) (cookie : Cookie) (Fact : Reply → Type 0) → Tells r
    → AsksFor c pair cookie → ((start : ℕ) → LegalShow settings k tag start pair cookie r t → Fact r) → LegalCommand settings k tag c r t → Fact r
answered settings k tag c r t pair cookie Fact tells asks fact h =
    let shows = asked settings k tag c r t pair cookie tells asks h in fact shows.0 shows.1

-- the replies that no reader gets
abbrev pub IsStrange : Reply → Type 0
IsStrange (reply.Photo v m p d bytes) = ⊥
IsStrange (reply.Gone v m p d) = ⊥
IsStrange (reply.WrongCookie v m p d) = ⊥
IsStrange (reply.Unknown d) = ⊥
IsStrange (reply.Unreadable v p d causes) = ⊥
IsStrange (reply.Moved v d) = ⊥
IsStrange reply.Nowhere = ⊥
IsStrange reply.NoMem = ⊥
IsStrange _ = Unit {0}

pub show_never : (settings : Settings) (k : Known) (tag : CoreTag) (start : ℕ) (pair : Pair) (cookie : Cookie) (r : Reply) (t : Known) → IsStrange r
    → LegalShow settings k tag start pair cookie r t → ⊥
show_never settings k tag start pair cookie (reply.Photo v m p d bytes) t strange h = strange
show_never settings k tag start pair cookie (reply.Gone v m p d) t strange h = strange
show_never settings k tag start pair cookie (reply.WrongCookie v m p d) t strange h = strange
show_never settings k tag start pair cookie (reply.Unknown d) t strange h = strange
show_never settings k tag start pair cookie (reply.Unreadable v p d causes) t strange h = strange
show_never settings k tag start pair cookie reply.NoMem t strange h = strange
show_never settings k tag start pair cookie _ t strange h = h

pub get_strange : (settings : Settings) (k : Known) (tag : CoreTag) (url : UrlParts) (o : Option ℕ) (r : Reply) (t : Known) → IsStrange r
    → LegalGetAt settings k tag url o r t → ⊥
get_strange settings k tag url (Some start) (reply.Moved v d) t strange h = strange
get_strange settings k tag url (Some start) r t strange h = show_never settings k tag start url.pair url.cookie r t strange h.0
get_strange settings k tag url None reply.Nowhere t strange h = strange
get_strange settings k tag url None reply.NoMem t strange h = strange
get_strange settings k tag url None _ t strange h = h

pub reader_never : (settings : Settings) (k : Known) (tag : CoreTag) (c : Command) (r : Reply) (t : Known) (pair : Pair) (cookie : Cookie) → IsStrange r
    → AsksFor c pair cookie → LegalCommand settings k tag c r t → ⊥
reader_never settings k tag (command.Read p q) r t pair cookie strange asks h = show_never settings k tag (start_of settings tag) p q r t strange h
reader_never settings k tag (command.Get url) r t pair cookie strange asks h = get_strange settings k tag url (replica_on settings url.volume url.machine) r t strange h
reader_never settings k tag _ r t pair cookie strange asks h = asks

pub tells_or_nothing : (settings : Settings) (k : Known) (tag : CoreTag) (c : Command) (r : Reply) (t : Known) (pair : Pair) (cookie : Cookie)
    → AsksFor c pair cookie → LegalCommand settings k tag c r t → Tells r ⊎ SaysNothing r
tells_or_nothing settings k tag c (reply.Photo v m p d bytes) t pair cookie asks h = inl tt
tells_or_nothing settings k tag c (reply.Gone v m p d) t pair cookie asks h = inl tt
tells_or_nothing settings k tag c (reply.WrongCookie v m p d) t pair cookie asks h = inl tt
tells_or_nothing settings k tag c (reply.Unknown d) t pair cookie asks h = inl tt
tells_or_nothing settings k tag c (reply.Unreadable v p d causes) t pair cookie asks h = inr tt
tells_or_nothing settings k tag c (reply.Moved v d) t pair cookie asks h = inr tt
tells_or_nothing settings k tag c reply.Nowhere t pair cookie asks h = inr tt
tells_or_nothing settings k tag c reply.NoMem t pair cookie asks h = inr tt
tells_or_nothing settings k tag c r t pair cookie asks h = absurd (reader_never settings k tag c r t pair cookie tt asks h)

pub silent_as : (bytes : List ℕ) (r : Reply) → SaysNothing r → IsReadAs bytes r × IsRefusedForItsCookie r × IsRefusedAsGone r
silent_as bytes (reply.Photo v m p d bytes') h = absurd h
silent_as bytes (reply.Gone v m p d) h = absurd h
silent_as bytes (reply.WrongCookie v m p d) h = absurd h
silent_as bytes r h = (h, h, h)

pub answer_photo : (settings : Settings) (k : Known) (tag : CoreTag) (c : Command) (r : Reply) (t : Known) (pair : Pair) (cookie own : Cookie) (bytes : List ℕ)
    → Standing settings k pair (outcome.Photo (record { cookie = own; bytes = bytes })) → AsksFor c pair cookie → LegalCommand settings k tag c r t
    → ReadsPhoto cookie own bytes r
answer_photo settings k tag c r t pair cookie own bytes stands asks h =
    elim (tells_or_nothing settings k tag c r t pair cookie asks h) [
      | inl tells ↦ answered settings k tag c r t pair cookie (ReadsPhoto cookie own bytes) tells asks
          (λ start. show_photo settings k tag start pair cookie own bytes r t tells stands) h
      | inr silent ↦ (λ e. (silent_as bytes r silent).0, λ apart. (silent_as bytes r silent).1)
    ]

pub answer_gone : (settings : Settings) (k : Known) (tag : CoreTag) (c : Command) (r : Reply) (t : Known) (pair : Pair) (cookie : Cookie)
    → Standing settings k pair outcome.Nothing → AsksFor c pair cookie → LegalCommand settings k tag c r t → IsRefusedAsGone r
answer_gone settings k tag c r t pair cookie stands asks h =
    elim (tells_or_nothing settings k tag c r t pair cookie asks h) [
      | inl tells ↦ answered settings k tag c r t pair cookie IsRefusedAsGone tells asks (λ start. show_gone settings k tag start pair cookie r t tells stands) h
      | inr silent ↦ (silent_as [] r silent).2
    ]

-- behind the turn of a put that was answered stored
pub stored_stands : (settings : Settings) (b : Known) (line : ℕ) (pair : Pair) (bytes : List ℕ) (v p d : ℕ) (c : Cookie) (after : Known) → IsOf settings b
    → LegalPlain settings b line (item.Command (command.Put pair bytes)) (reply.Stored v p d c) after
    → Standing settings after pair (outcome.Photo (record { cookie = cookie_of settings.secret pair.key; bytes = bytes }))
stored_stands settings b line pair bytes v p d c after is h =
    let tag : CoreTag = record { lane = 0; line = line } in
    let logged : Logged = record { tag = tag; entry = entry.Put pair c bytes } in
    let put : IsStored settings b tag pair bytes v p d c after = h in
    let test : ℕ → Bool = λ u. is_none (refusal_of settings b (length bytes) u) in
    let below : v < length b.volumes = subst (λ (n : ℕ). v < n) (sym is.volumes) (taken_bounded settings b pair v test (home_of b pair) is refl put.taker) in
    let home : home_of after pair ≡ Some v = ap (λ (dir : DirKnown). home_in dir.rows pair) (put.leaves).directory ∙ taken_home settings b pair v test (home_of b pair) refl put.taker in
    subst (λ (own : Cookie). Standing settings after pair (outcome.Photo (record { cookie = own; bytes = bytes }))) put.own
    (standing_changed settings b v logged after below home (put_disturbed settings b tag pair bytes v p d c after put))

pub deleted_stands : (settings : Settings) (b : Known) (line : ℕ) (pair : Pair) (v p d : ℕ) (after : Known) → IsOf settings b
    → LegalPlain settings b line (item.Command (command.Del pair)) (reply.Deleted v p d) after → Standing settings after pair outcome.Nothing
deleted_stands settings b line pair v p d after is h =
    let tag : CoreTag = record { lane = 0; line = line } in
    let logged : Logged = record { tag = tag; entry = entry.Del pair } in
    let deleted : IsDeleted settings b tag pair v p d after = h in
    let below : v < length b.volumes = subst (λ (n : ℕ). v < n) (sym is.volumes) (home_bounded settings b.directory.rows pair v is.homes (deleted.home).home) in
    let home : home_of after pair ≡ Some v = ap (λ (dir : DirKnown). home_in dir.rows pair) (deleted.leaves).directory ∙ (deleted.home).home in
    standing_changed settings b v logged after below home (del_disturbed settings b tag pair v p d after deleted)

pub stored_is_read : StoredIsRead
stored_is_read settings k t earlier between later line line' pair bytes v p d c after after' request cookie r is legal quiet asks =
    let parts = legal_split settings k t earlier _ legal in
    let b : Known = known_behind k earlier in
    let now_of : IsOf settings b = is_of_behind settings k b earlier is parts.0 in
    let rest = legal_split settings after t between _ parts.1.1 in
    answer_photo settings (known_behind after between) (record { lane = 0; line = line' }) request r after' pair cookie (cookie_of settings.secret pair.key) bytes
    (standing_between settings after (known_behind after between) between pair _ rest.0 quiet
    (stored_stands settings b line pair bytes v p d c after now_of parts.1.0)) asks rest.1.0

pub deleted_is_gone : DeletedIsGone
deleted_is_gone settings k t earlier between later line line' pair v p d after after' request cookie r is legal quiet asks =
    let parts = legal_split settings k t earlier _ legal in
    let b : Known = known_behind k earlier in
    let now_of : IsOf settings b = is_of_behind settings k b earlier is parts.0 in
    let rest = legal_split settings after t between _ parts.1.1 in
    answer_gone settings (known_behind after between) (record { lane = 0; line = line' }) request r after' pair cookie
    (standing_between settings after (known_behind after between) between pair _ rest.0 quiet
    (deleted_stands settings b line pair v p d after now_of parts.1.0)) asks rest.1.0
