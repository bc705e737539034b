-- A read, a get or a url did what its reply says.
use Rattle.std.proofs.Common.{◌≡◌, ◌⊎◌, inl, inr, ℕ, ◌<◌, Bool, true, List, refl, ap, ◌∙◌, Option, None, Some, take_while, not}
use Rattle.std.specs.Prelude.{◌==◌}
use Rattle.hay_needle.specs.declared.needle.Pair.{Pair}
use Rattle.hay_needle.specs.declared.needle.Cookie.{Cookie}
use Rattle.hay_needle.specs.declared.needle.Outcome.{Outcome}
use Rattle.hay_needle.specs.declared.settings.Settings.{Settings}
use Rattle.hay_needle.specs.Tables.{Table, outcome_at}
use Rattle.hay_url.specs.declared.Url.{Url as UrlParts}
use Rattle.hay_reply.specs.declared.Cause.{Cause}
use Rattle.hay_reply.specs.declared.Cause.TheVariants.{Arm, Damage, Disk}
use Rattle.hay_reply.specs.declared.Passed.{Passed}
use Rattle.hay_reply.specs.declared.Reply.{Reply}
use Rattle.hay_reply.specs.declared.Reply.TheVariants.{Gone, Moved, NoMem, Nowhere, Photo, Unknown, Unreadable, Url, WrongCookie}
use Rattle.hay_legal.specs.declared.known.Known.{Known}
use Rattle.hay_legal.specs.declared.turn.LaneItem.{LaneItem}
use Rattle.hay_legal.specs.Known.{machine_of}
use Rattle.hay_legal.specs.Plain.{first_machine, order_from}
use Rattle.hay_history.specs.LaneSteps.Did.{Freezes, Tries}
use Rattle.hay_history.specs.Histories.{Course}
use Rattle.hay_history.specs.Commands.{GetDid, LookFailed, LookFroze, LookWanting, OnlyLooks, PassedFor, PassedOver, ShowDid, Showed, ShowedNone, UrlDid}
use Rattle.hay_history.proofs.Lists.{each_weaker, zip_weaker}
use Rattle.hay_meeting.specs.Acts.{Happened, Start}
use Rattle.hay_meeting.specs.Replies.{GetDidHere, LookFailedHere, LookFrozeHere, LookWantingHere, OnlyLooksHere, PassedForHere, PassedOverHere, ShowDidHere, ShowedHere, ShowedNoneHere, UrlDidHere}
use Rattle.hay_meeting.specs.Sights.{Bears, Cut, Doings, Sight, Work}
use Rattle.hay_meeting.proofs.Courses.{c}
use Rattle.hay_meeting.proofs.Seeing.{among_own, doing_among, did_nothing, each_own, front_seen, home_seen, no_rows, no_steps, only_on, rose_in}

module _ {settings : Settings} {start : Start} {drained : List Bool} {k : Known} {cut : Cut} {h : Happened} {item : LaneItem} {a b : Sight} {doings : Doings}
    (bears : Bears settings start drained k cut h item a b) (work : Work item a b doings) where
  abbrev line : Course
  line = c bears work

  only_looks : (v : ℕ) → OnlyLooksHere settings start drained item a b doings v → OnlyLooks line v
  only_looks v (rows, only, tries) = (no_rows bears work rows, only_on bears work only, each_own bears work v (λ at. (at.1).did ≡ Tries) tries)

  look_failed : (v j f : ℕ) → v < settings.volumes → LookFailedHere settings start drained item a b doings v j f → LookFailed line v j f
  look_failed v j f below (doing, among, rose) = (_, among_own bears work v doing among, rose_in bears work doing below (doing_among bears work v doing among) rose)

  passed_over : (v : ℕ) (passed : List ℕ) → v < settings.volumes → PassedOverHere settings start drained item a b doings v passed → PassedOver line v passed
  passed_over v passed below x = record {
    to_arm = x.to_arm;
    arm = x.arm;
    disks = each_weaker (λ j. (x.to_arm j ≡ true) ⊎ ((f : ℕ) × LookFailedHere settings start drained item a b doings v j f)) (λ j. (x.to_arm j ≡ true) ⊎ ((f : ℕ) × LookFailed line v j f))
        (λ j which. elim which [ inl arm ↦ inl arm | inr disk ↦ inr (disk.0, look_failed v j disk.0 below disk.1) ]) passed x.disks;
  }

  showed : {first : ℕ} {pair : Pair} {v m p d : ℕ} {shown : Outcome} → ShowedHere settings start drained item a b doings first pair v m p d shown → Showed line first pair v m p d shown
  showed {first} {pair} {v} {m} x =
      let then = front_seen bears work x.below x.front in record {
        home = home_seen bears work x.home;
        below = x.below;
        moment = then.moment;
        seen = then.seen;
        front = then.front;
        replica = x.replica;
        there = x.there;
        stood = ap (λ (t : Table). outcome_at t pair) (then.tables x.replica) ∙ x.stood;
        passed = passed_over v (take_while (λ j. not (machine_of settings v j == m)) (order_from settings first)) x.below x.passed;
        looks = only_looks v x.looks;
      }

  passed_for : (v j : ℕ) (cause : Cause) → v < settings.volumes → PassedForHere settings start drained item a b doings v j cause → PassedFor line v j cause
  passed_for v j (Arm f) below x = x
  passed_for v j (Disk f) below x = look_failed v j f below x
  passed_for v j (Damage at) below x = absurd x

  showed_none : {first : ℕ} {pair : Pair} {v p d : ℕ} {causes : List Passed} → ShowedNoneHere settings start drained item a b doings first pair v p d causes → ShowedNone line first pair v p d causes
  showed_none {first} {pair} {v} {p} {d} {causes} x =
      let then = front_seen bears work x.below x.front in record {
        home = home_seen bears work x.home;
        below = x.below;
        moment = then.moment;
        seen = then.seen;
        front = then.front;
        each =
            zip_weaker (λ j passed. (passed.machine ≡ machine_of settings v j) × PassedForHere settings start drained item a b doings v j passed.cause)
            (λ j passed. (passed.machine ≡ machine_of settings v j) × PassedFor line v j passed.cause)
            (order_from settings first) causes (λ j passed among is. (is.0, passed_for v j passed.cause x.below is.1)) x.each;
        arms = x.arms;
        looks = only_looks v x.looks;
      }

  pub look_froze : {pair : Pair} (x : LookFrozeHere settings start drained item a b doings pair) → (froze : LookFroze line pair) × (froze.v ≡ x.v)
  look_froze x = (
    record {
      d = x.d;
      v = x.v;
      home = home_seen bears work x.home;
      elsewhere = only_on bears work x.elsewhere;
      steps = each_own bears work x.v (λ at. ((at.1).did ≡ Tries) ⊎ ((at.1).did ≡ Freezes (first_machine settings x.v))) x.steps;
    },
    refl,
  )

  wanting : (pair : Pair) → LookWantingHere settings start drained item a b doings pair → LookWanting line pair
  wanting pair (rows, inl none) = (no_rows bears work rows, inl (no_steps bears work none))
  wanting pair (rows, inr froze) = (no_rows bears work rows, inr (look_froze froze).0)

  pub show_did : (first : ℕ) (pair : Pair) (cookie : Cookie) (reply : Reply) → ShowDidHere settings start drained item a b doings first pair cookie reply → ShowDid line first pair cookie reply
  show_did first pair cookie (Photo v m p d bytes) x = showed x
  show_did first pair cookie (Gone v m p d) x = showed x
  show_did first pair cookie (WrongCookie v m p d) (other, bytes, differs, x) = (other, bytes, differs, showed x)
  show_did first pair cookie (Unreadable v p d causes) x = showed_none x
  show_did first pair cookie (Unknown d) (home, none) = (home_seen bears work home, did_nothing bears work none)
  show_did first pair cookie NoMem x = wanting pair x
  show_did first pair cookie _ x = absurd x

  pub get_did : (url : UrlParts) (there : Option ℕ) (reply : Reply) → GetDidHere settings start drained item a b doings url there reply → GetDid line url there reply
  get_did url None Nowhere none = did_nothing bears work none
  get_did url None NoMem none = did_nothing bears work none
  get_did url None _ x = absurd x
  get_did url (Some first) (Moved v d) (home, differs, none) = (home_seen bears work home, differs, did_nothing bears work none)
  get_did url (Some first) NoMem (rows, inl none) = (no_rows bears work rows, inl (no_steps bears work none))
  get_did url (Some first) NoMem (rows, inr (froze, at)) = let r = look_froze froze in (no_rows bears work rows, inr (r.0, r.1 ∙ at))
  get_did url (Some first) reply x = (show_did first url.pair url.cookie reply x.0, x.1)

  pub url_did : (pair : Pair) (reply : Reply) → UrlDidHere settings start drained item a b doings pair reply → UrlDid line pair reply
  url_did pair (Url d url) (home, own_pair, cookie, machine, none) = (home_seen bears work home, own_pair, cookie, machine, did_nothing bears work none)
  url_did pair (Unknown d) (home, none) = (home_seen bears work home, did_nothing bears work none)
  url_did pair NoMem none = did_nothing bears work none
  url_did pair _ x = absurd x
