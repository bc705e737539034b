-- What a lane knows of a pair's home agrees with all that it prints of the Directory.
use Rattle.std.proofs.Common.{◌≡◌, inl, inr, ℕ, ◌≤◌, List, [], ◌∷◌, length, map, Contains, Option, Some, None, refl, sym, ap, subst, ◌∙◌, arith}
use Rattle.std.specs.List.{AllByRecursion as Each}
use Rattle.std.proofs.lemmas.Option.{none-some}
use Rattle.hay_needle.specs.declared.needle.Pair.{Pair}
use Rattle.hay_needle.specs.declared.settings.Settings.{Settings}
use Rattle.hay_script.specs.declared.Command.TheVariants as command
use Rattle.hay_reply.specs.declared.Refused.{Refused}
use Rattle.hay_reply.specs.declared.Refused.TheVariants.{Closed, NoRoom}
use Rattle.hay_reply.specs.declared.Reply.{Reply}
use Rattle.hay_reply.specs.declared.Reply.TheVariants as reply
use Rattle.hay_legal.specs.declared.known.HomeRow.{HomeRow}
use Rattle.hay_legal.specs.declared.known.Known.{Known}
use Rattle.hay_legal.specs.declared.turn.Item.{Item}
use Rattle.hay_legal.specs.declared.turn.Item.TheVariants as asks
use Rattle.hay_legal.specs.declared.turn.LaneItem.{LaneItem}
use Rattle.hay_legal.specs.Known.{EachPair, home_in}
use Rattle.hay_legal.specs.Plain.{as_closed}
use Rattle.hay_legal.specs.Blocks.{HomeAt, HomeRefuses, HomesAgree, MetHome, MetNoHome, Printed, TriesRefuse, row_print, volume_named}
use Rattle.hay_legal.proofs.Subject.Effects.{home_stays}
use Rattle.hay_history.specs.Histories.{History, IsLater, IsRowMoment, SeesHome, SeesRefusal, first_rows, row_note}
use Rattle.hay_history.specs.Commands.{CameInLanes, ItemDid, PutRefused}
use Rattle.hay_history.proofs.Fronts.{PrintsRows, item_prints}
use Rattle.hay_history.proofs.Lines.{answered, course_of}
use Rattle.hay_history.proofs.Lists.{each_weaker, pair_by}
use Rattle.hay_history.proofs.Meeting.{refused_closed, refused_room}
use Rattle.hay_history.proofs.Own.{line_of}
use Rattle.hay_history.proofs.OwnRows.{adds_none}
use Rattle.hay_history.proofs.PutLines.{home_refuses, tries_refuse}
use Rattle.hay_history.proofs.Rows.{home_then, lengthens_to, none_before, rows_moment}
use Rattle.hay_history.proofs.Takers.{row_missing}

module _ {settings : Settings} {k : Known} {items : List LaneItem} {history : History} {t : Known} (h : CameInLanes settings k items history t) (item : LaneItem) where
  -- WHAT A LINE SAW

  -- a refusal names the volume that was tried
  names_try : (size u : ℕ) (refused : Refused) → SeesRefusal (course_of h item) size u refused → u ≡ volume_named refused
  names_try size u (Closed v m) sees = (refused_closed (course_of h item) size u v m sees.moment sees.is).0
  names_try size u (NoRoom v m end need) sees = (refused_room (course_of h item) size u v m end need sees.moment sees.is).0

  abbrev Saw : Pair → Option ℕ → Type 0
  Saw pair home = (d : ℕ) × SeesHome (course_of h item) pair d home

  refused_home : (pair : Pair) (bytes : List ℕ) (refused : Refused) (v : ℕ) → PutRefused (course_of h item) pair (length bytes) (refused ∷ []) → volume_named refused ≡ v
      → (TriesRefuse settings k items t pair bytes (refused ∷ []) → ⊥) → Saw pair (Some v)
  refused_home pair bytes refused v did named never = elim did.because [
    | inl tries ↦ absurd (never (tries_refuse h item pair bytes (refused ∷ []) tries.0))
    | inr home ↦ (
      home.0,
      subst (λ (u : ℕ). SeesHome (course_of h item) pair home.0 (Some u)) (names_try (length bytes) home.1 refused home.3 ∙ named) home.2,
    )
  ]

  refused_missing : (pair : Pair) (bytes : List ℕ) (refused : List Refused) → PutRefused (course_of h item) pair (length bytes) refused
      → (HomeRefuses settings k items t pair bytes refused → ⊥) → Saw pair None
  refused_missing pair bytes refused did never = elim did.because [
    | inl tries ↦ (tries.0).0
    | inr home ↦ absurd (never (home_refuses h item pair bytes refused home))
  ]

  saw_home : (line lane : ℕ) (it : Item) (r : Reply) (pair : Pair) (v : ℕ) → ItemDid (course_of h item) it r → MetHome settings k items t (line_of line lane it r) pair v
      → Saw pair (Some v)
  saw_home line lane (asks.Command (command.Put pair' bytes)) (reply.Full (refused ∷ [])) pair v did met =
      refused_home pair bytes refused v (subst (λ (p : Pair). PutRefused (course_of h item) p (length bytes) (refused ∷ [])) met.0 did.0) met.1.0 met.1.1
  saw_home line lane (asks.Command (command.Put pair' bytes)) (reply.ReadOnly (by ∷ [])) pair v did met =
      refused_home pair bytes (as_closed by) v (subst (λ (p : Pair). PutRefused (course_of h item) p (length bytes) (as_closed by ∷ [])) met.0 did) met.1.0 met.1.1
  saw_home line lane (asks.Command (command.Put pair' bytes)) (reply.Failed v' m f) pair v did met = (
    did.d,
    subst (λ (u : ℕ). SeesHome (course_of h item) pair did.d (Some u)) met.1
        (subst (λ (p : Pair). SeesHome (course_of h item) p did.d (Some v')) met.0 did.home),
  )
  saw_home line lane (asks.Command (command.Del pair')) (reply.ReadOnly (by ∷ [])) pair v did met = (
    (did.0.0).0,
    subst (λ (u : ℕ). SeesHome (course_of h item) pair (did.0.0).0 (Some u)) met.1
        (subst (λ (p : Pair). SeesHome (course_of h item) p (did.0.0).0 (Some by.volume)) met.0 (did.0.0).1),
  )
  saw_home line lane (asks.Command (command.Del pair')) (reply.Failed v' m f) pair v did met = (
    did.d,
    subst (λ (u : ℕ). SeesHome (course_of h item) pair did.d (Some u)) met.1
        (subst (λ (p : Pair). SeesHome (course_of h item) p did.d (Some v')) met.0 did.home),
  )
  saw_home line lane (asks.Command (command.Put pair' bytes)) (reply.Full refused) pair v did met = absurd met.1
  saw_home line lane (asks.Command (command.Put pair' bytes)) (reply.ReadOnly by) pair v did met = absurd met.1
  saw_home line lane it r pair v did met = absurd met

  saw_none : (line lane : ℕ) (it : Item) (r : Reply) (pair : Pair) → Contains items item → ItemDid (course_of h item) it r
      → MetNoHome settings k items t (line_of line lane it r) pair → Saw pair None
  saw_none line lane (asks.Command (command.Put pair' bytes)) (reply.Full refused) pair among did met =
      refused_missing pair bytes refused (subst (λ (p : Pair). PutRefused (course_of h item) p (length bytes) refused) met.0 did.0) met.1
  saw_none line lane (asks.Command (command.Put pair' bytes)) (reply.ReadOnly by) pair among did met =
      refused_missing pair bytes (map as_closed by) (subst (λ (p : Pair). PutRefused (course_of h item) p (length bytes) (map as_closed by)) met.0 did) met.1
  saw_none line lane (asks.Command (command.Put pair' bytes)) reply.ReadOnlyDir pair among did met =
      subst (λ (p : Pair). Saw p None) met did.2
  saw_none line lane (asks.Command (command.Put pair' bytes)) (reply.FailedDir f) pair among did met =
      subst (λ (p : Pair). Saw p None) met (_, row_missing h item pair' (length bytes) among did.pends)
  saw_none line lane it r pair among did met = absurd met

  -- WHAT STOOD LATER AND EARLIER

  stays_home : (pair : Pair) (v n m : ℕ) → n ≤ m → home_in ((rows_moment k history n).directory).rows pair ≡ Some v → home_in ((rows_moment k history m).directory).rows pair ≡ Some v
  stays_home pair v n m le is =
      let grown = lengthens_to (first_rows k) history.directory h.follows_rows n m le in
      ap (λ (rows : List HomeRow). home_in rows pair) grown.1 ∙ home_stays ((rows_moment k history n).directory).rows grown.0 pair v is

  was_missing : (pair : Pair) (n m : ℕ) → n ≤ m → home_in ((rows_moment k history m).directory).rows pair ≡ None → home_in ((rows_moment k history n).directory).rows pair ≡ None
  was_missing pair n m le is =
      let grown = lengthens_to (first_rows k) history.directory h.follows_rows n m le in
      none_before ((rows_moment k history n).directory).rows grown.0 pair (sym (ap (λ (rows : List HomeRow). home_in rows pair) grown.1) ∙ is)

  -- what stood of the home at each moment of the line stands at each front that it prints
  prints_home : (pair : Pair) (home : Option ℕ) → Contains items item
      → ((n : ℕ) → IsRowMoment (course_of h item) n → home_in ((rows_moment k history n).directory).rows pair ≡ home)
      → Each (λ shown. HomeAt t pair shown.front home) (row_print item.reply)
  prints_home pair home among stood =
      each_weaker (PrintsRows (course_of h item)) (λ shown. HomeAt t pair shown.front home) (λ shown prints.
      let at = home_then h item pair (length ((rows_moment k history prints.0).directory).rows) home
      (record { moment = prints.0; seen = prints.1; front = refl; is = stood prints.0 prints.1 }) in
      subst (λ (p : Printed). HomeAt t pair p.front home) (sym prints.2) at.0)
      (row_print item.reply) (item_prints (course_of h item) 0 item.item item.reply (answered h item among).did).1

pub homes_agree : {settings : Settings} {k : Known} {items : List LaneItem} {history : History} {t : Known} (h : CameInLanes settings k items history t)
    → EachPair (λ a b. a.lane ≡ b.lane → HomesAgree settings k items (row_note k history) t a b) items
homes_agree {settings} {k} {items} {history} {t} h =
    pair_by (λ a b. a.lane ≡ b.lane → IsLater (h.to a.line) (h.from b.line)) (λ a b. a.lane ≡ b.lane → HomesAgree settings k items (row_note k history) t a b) items
    (λ a b in_a in_b later same.
    let apart = (later same).rows in
    record {
      kept = λ pair v met.
          let saw = saw_home h a a.line a.lane a.item a.reply pair v (answered h a in_a).did met in
          let until = ((saw.1).seen).1 in
          prints_home h b pair (Some v) in_b (λ n seen.
          let since = seen.0 in stays_home h b pair v (saw.1).moment n (omega (arith, until, apart, since)) (saw.1).is);
      missing = λ pair met.
          let saw = saw_none h b b.line b.lane b.item b.reply pair in_b (answered h b in_b).did met in
          let since = ((saw.1).seen).0 in
          prints_home h a pair None in_a (λ n seen.
          let until = seen.1 in was_missing h a pair n (saw.1).moment (omega (arith, until, apart, since)) (saw.1).is);
      apart = λ pair v met none.
          let saw = saw_home h a a.line a.lane a.item a.reply pair v (answered h a in_a).did met in
          let then = saw_none h b b.line b.lane b.item b.reply pair in_b (answered h b in_b).did none in
          let until = ((saw.1).seen).1 in
          let since = ((then.1).seen).0 in
          let still = stays_home h a pair v (saw.1).moment (then.1).moment (omega (arith, until, apart, since)) (saw.1).is in
          none-some v (sym (then.1).is ∙ still);
      laid = λ pair v bytes met put.
          let saw = saw_home h a a.line a.lane a.item a.reply pair v (answered h a in_a).did met in
          let until = ((saw.1).seen).1 in
          adds_none h b in_b pair bytes v (saw.1).moment put (omega (arith, until, apart)) (saw.1).is;
    })
    h.«order»
