-- A needle that is seen through its hole, and what reading it gives.
use Rattle.std.proofs.Common.{◌≡◌, ◌≢◌, ℕ, add-one, ◌+◌, ◌<◌, ◌≤◌, eqb, Bool, List, ◌∷◌, ◌++◌, length, take, drop, get_or, set, refl, sym, ap, ◌∙◌, subst, arith}
use Rattle.std.specs.Prelude.{not, Result, Ok, Err, IfErr}
use Rattle.std.proofs.lemmas.List.{set_split, set-append_left, take-append-drop, drop_more, take_all, length-append}
use Rattle.hay_disk.specs.Disk.{IsBut}
use Rattle.hay_needle.specs.declared.needle.Cookie.{Cookie}
use Rattle.hay_needle.specs.declared.needle.NeedleView.{NeedleView}
use Rattle.hay_needle.specs.declared.needle.Photo.{Photo}
use Rattle.hay_needle.specs.Needle.{BeginsWithNeedle, needle_of_view}
use Rattle.hay_needle.specs.declared.needle.Needle.{Needle}
use Rattle.hay_needle.proofs.Needles.{length-needle, one_needle, reflagged}
use Rattle.hay_map.specs.Sealed.{SealedNeedle}
use Rattle.hay_map.specs.declared.place.Place.{Place}
use Rattle.hay_map.specs.declared.place.Place.TheVariants as place
use Rattle.hay_reply.specs.declared.Cause.{Cause}
use Rattle.hay_reply.specs.declared.Cause.TheVariants as cause
use Rattle.hay_reader.specs.declared.trial.Shown.{Shown}
use Rattle.hay_reader.specs.declared.trial.Shown.TheVariants as shown
use Rattle.hay_reader.specs.Tried.{HasItsPhoto, HasPhoto, IsOfSeen, IsRead, NeedleGives, PlaceGives, ReadsBytes, ShowsPhoto, IsDamageAt}

-- all but the byte at the hole are as they were
but_set : (bytes seen : List ℕ) (hole : ℕ) → hole < length bytes → IsBut hole bytes seen → seen ≡ set bytes hole (get_or seen hole 0)
but_set bytes seen hole h but =
    let inside : hole < length seen = omega (arith, but.long) in
    sym (take-append-drop hole seen)
    ∙ ap (λ (rest : List ℕ). take hole seen ++ rest) (drop_more seen hole 0 inside)
    ∙ ap (λ (front : List ℕ). front ++ get_or seen hole 0 ∷ drop (hole + 1) seen) but.before
    ∙ ap (λ (rest : List ℕ). take hole bytes ++ get_or seen hole 0 ∷ rest) but.after
    ∙ ap (λ (k : ℕ). take hole bytes ++ get_or seen hole 0 ∷ drop k bytes) (add-one hole)
    ∙ sym (set_split bytes hole (get_or seen hole 0) h)

but_back : (bytes seen : List ℕ) (hole : ℕ) → IsBut hole bytes seen → IsBut hole seen bytes
but_back bytes seen hole but = record { before = sym but.before; after = sym but.after; long = sym but.long }

-- whatever the flags are, a needle of the same photo begins there
seen_photo : (bytes seen : List ℕ) (photo : Photo) → IsBut 28 bytes seen → HasPhoto bytes photo → HasPhoto seen photo
seen_photo bytes seen photo but has =
    let needle : List ℕ = has.1.needle in
    let rest : List ℕ = has.1.rest in
    let flags : ℕ = get_or seen 28 0 in
    let long = length-needle needle has.0 has.1.is in
    let inside : 28 < length needle = omega arith in
    let whole : 28 < length bytes = omega (arith, ap length has.1.parts, length-append needle rest) in (
      record has.0 { deleted = not (eqb flags 0) },
      record {
        needle = set needle 28 flags;
        rest = rest;
        parts = but_set bytes seen 28 whole but ∙ ap (λ (xs : List ℕ). set xs 28 flags) has.1.parts ∙ set-append_left needle rest 28 flags inside;
        is = reflagged needle has.0 flags has.1.is;
      },
      has.2,
    )

reads_seen : (bytes seen : List ℕ) (cookie : Cookie) (put : List ℕ) (r : Result Shown Cause) → IsBut 28 bytes seen → ReadsBytes cookie put seen r → ReadsBytes cookie put bytes r
reads_seen bytes seen cookie put (Ok shown.Photo) but reads = seen_photo seen bytes _ (but_back bytes seen 28 but) reads
reads_seen bytes seen cookie put (Ok shown.WrongCookie) but reads = (reads.0, reads.1, seen_photo seen bytes reads.0 (but_back bytes seen 28 but) reads.2)
reads_seen bytes seen cookie put (Ok shown.Gone) but reads = reads
reads_seen bytes seen cookie put (Ok shown.Unseen) but reads = reads
reads_seen bytes seen cookie put (Err why) but reads = λ needle begins.
    let there = seen_photo bytes seen needle.photo but (needle, begins, refl) in
    reads there.0 there.1

-- what reading gives of all that was fetched, it gives of the needle
pub reads_whole : (bytes seen : List ℕ) (count : ℕ) (cookie : Cookie) (put : List ℕ) (r : Result Shown Cause) → IsBut 28 bytes seen → length seen ≤ count
    → ReadsBytes cookie put (take count seen) r → ReadsBytes cookie put bytes r
reads_whole bytes seen count cookie put r but all reads = reads_seen bytes seen cookie put r but (subst (λ (xs : List ℕ). ReadsBytes cookie put xs r) (take_all count seen all) reads)

-- the try of a needle that was fetched
pub needle_gives : (Tells : Type 0) (sure : Bool) (cookie : Cookie) (put seen : List ℕ) (needle : SealedNeedle) (at : ℕ) (r : Result Shown Cause) → at ≡ needle.at → IfErr r (IsDamageAt at)
    → ReadsBytes cookie put seen r → (Tells → ReadsBytes cookie put needle.bytes r) → NeedleGives Tells sure cookie put needle r
needle_gives Tells sure cookie put seen needle at (Ok shown.Photo) is damage reads whole = (tt, whole)
needle_gives Tells sure cookie put seen needle at (Ok shown.WrongCookie) is damage reads whole = (tt, whole)
needle_gives Tells sure cookie put seen needle at (Ok shown.Gone) is damage reads whole = absurd reads
needle_gives Tells sure cookie put seen needle at (Ok shown.Unseen) is damage reads whole = absurd reads
needle_gives Tells sure cookie put seen needle at (Err (cause.Arm f)) is damage reads whole = absurd damage
needle_gives Tells sure cookie put seen needle at (Err (cause.Disk f)) is damage reads whole = absurd damage
needle_gives Tells sure cookie put seen needle at (Err (cause.Damage there)) is damage reads whole = (damage ∙ is, whole)

same_cookie : (a b : Cookie) → a.0 ≡ b.0 → a ≡ b
same_cookie a b e = ap {B = Cookie} (λ (k : ℕ). record { 0 = k }) e

-- the photo of the needle that was read, where the cookie is the one that is asked for
pub photo_read : (bytes put : List ℕ) (v : NeedleView) (cookie : Cookie) → BeginsWithNeedle bytes (needle_of_view v) → v.cookie.0 ≡ cookie.0 → put ≡ v.bytes.now
    → HasPhoto bytes (record { cookie = cookie; bytes = put })
photo_read bytes put v cookie begins same out =
    let photo : Cookie → List ℕ → Photo = λ k xs. record { cookie = k; bytes = xs } in (
      needle_of_view v,
      begins,
      ap (λ (k : Cookie). photo k v.bytes.now) (same_cookie v.cookie cookie same) ∙ ap (λ (xs : List ℕ). photo cookie xs) (sym out),
    )

pub other_cookie : (v : NeedleView) (cookie : Cookie) → v.cookie.0 ≢ cookie.0 → v.cookie ≢ cookie
other_cookie v cookie ne e = ne (ap (λ (k : Cookie). k.0) e)

-- A NEEDLE THAT WAS READ TO SEE ITS PLACE

same_photo : (bytes others : List ℕ) (a b : Photo) → HasPhoto bytes a → HasPhoto bytes b → HasPhoto others a → HasPhoto others b
same_photo bytes others a b has also there =
    let same : a ≡ b = sym has.2 ∙ ap (λ (n : Needle). n.photo) (one_needle bytes has.0 also.0 has.1 also.1) ∙ also.2 in
    subst (λ (p : Photo). HasPhoto others p) same there

-- what bytes show, others of the same photo show
shows_same : (cookie : Cookie) (put bytes others : List ℕ) (photo : Photo) (what : Shown) → HasPhoto bytes photo → HasPhoto others photo → ShowsPhoto cookie put bytes what
    → ShowsPhoto cookie put others what
shows_same cookie put bytes others photo shown.Photo has there shows = same_photo bytes others photo _ has shows there
shows_same cookie put bytes others photo shown.WrongCookie has there shows = (shows.0, shows.1, same_photo bytes others photo shows.0 has shows.2 there)
shows_same cookie put bytes others photo shown.Gone has there shows = absurd shows
shows_same cookie put bytes others photo shown.Unseen has there shows = absurd shows

is_read : (cookie : Cookie) (put bytes : List ℕ) (what : Shown) → ShowsPhoto cookie put bytes what → IsRead what
is_read cookie put bytes shown.Photo shows = tt
is_read cookie put bytes shown.WrongCookie shows = tt
is_read cookie put bytes shown.Gone shows = shows
is_read cookie put bytes shown.Unseen shows = shows

-- what is shown of a needle is of a place that was seen
pub of_seen : (cookie : Cookie) (put bytes : List ℕ) (what : Shown) → ShowsPhoto cookie put bytes what → IsOfSeen what
of_seen cookie put bytes shown.Photo shows = tt
of_seen cookie put bytes shown.WrongCookie shows = tt
of_seen cookie put bytes shown.Gone shows = absurd shows
of_seen cookie put bytes shown.Unseen shows = shows

-- what bytes of its photo show, a place gives
pub place_shown : {P : Type 0} (Tells : Type 0) (sure : Bool) (cookie : Cookie) (put bytes : List ℕ) (there : Place P) (needle : SealedNeedle) (what : Shown) → there ≡ place.Live needle
    → HasItsPhoto bytes there → ShowsPhoto cookie put bytes what → PlaceGives Tells sure cookie put there (Ok what)
place_shown {P} Tells sure cookie put bytes there needle what is its shows =
    let own = subst (λ (p : Place P). HasItsPhoto bytes p) is its in
    subst (λ (p : Place P). PlaceGives Tells sure cookie put p (Ok what)) (sym is)
    (is_read cookie put bytes what shows, λ tells. shows_same cookie put bytes needle.bytes own.0 what own.1 own.2 shows)
