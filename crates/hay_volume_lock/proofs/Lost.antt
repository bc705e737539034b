-- What a line finds of its compaction that other lanes ended.
use Rattle.std.proofs.Common.{◌≡◌, ◌⊎◌, inl, inr, ℕ, ◌<◌, Bool, List, [], ◌∷◌, ◌++◌, Option, Some, None, refl, sym, ap, subst, ◌∙◌, append-nil, append_assoc}
use Rattle.std.specs.Prelude.{if◌then◌else◌, slice_index_or}
use Rattle.std.specs.List.{AllByRecursion as Each}
use Rattle.std.proofs.lemmas.Bool.{eq-eqb}
use Rattle.std.proofs.lemmas.Option.{none-some}
use mathlib.Core.List.{IsPrefix}
use Rattle.hay_core.specs.declared.entry.CoreTag.{CoreTag}
use Rattle.hay_core.specs.declared.entry.Entry.{Entry}
use Rattle.hay_disk.specs.Disk.{Files}
use Rattle.hay_needle.specs.declared.settings.Settings.{Settings}
use Rattle.hay_legal.specs.declared.known.VolumeKnown.{VolumeKnown}
use Rattle.hay_legal.specs.Known.{replica_at}
use Rattle.hay_history.specs.LaneSteps.{Follows, Standing}
use Rattle.hay_logical.specs.Stands.{Stands}
use Rattle.hay_meeting.specs.declared.act.VolumeAct.{VolumeAct}
use Rattle.hay_meeting.specs.Acts.{IsSized, nobody, volume_lock}
use Rattle.hay_meeting.specs.Facts.{volume_stood}
use Rattle.hay_meeting.specs.Locks.{LockSight, replayed}
use Rattle.hay_meeting.specs.Sights.{stood}
use Rattle.hay_meeting.proofs.Standings.{follows_behind}
use Rattle.hay_turn.specs.Acts.{acts_of}
use Rattle.hay_turn.proofs.ActLists.{acts_of_append}
use Rattle.hay_holdings.specs.Holdings.{Holding}
use Rattle.hay_holdings.specs.Volumes.{HasRunOf, RunDeleted, RunFrozen, VolumeCall}
use Rattle.hay_volume_lock.specs.Answers.{Found, IsAt, Never, StoreVolume}
use Rattle.hay_volume_lock.specs.Compactions.{OfOwn}
use Rattle.hay_volume_lock.specs.Ended.{ended_at}
use Rattle.hay_volume_lock.specs.Keeping.{IsKept, ended_of, standing_of, stood_of}
use Rattle.hay_volume_lock.specs.declared.guarded.Guarded.{Guarded}
use Rattle.hay_volume_lock.specs.declared.guarded.Opened.{Opened}
use Rattle.hay_volume_lock.proofs.Holding.{stood_is}
use Rattle.hay_volume_lock.proofs.Losing.{IsGone, IsOther, gone_along}

-- LISTS

some_is : {A : Type 0} {a b : A} → Some a ≡ Some b → a ≡ b
some_is same = cc same

each_at : {A : Type 0} (P : A → Type 0) (xs : List A) (x : A) (ys : List A) → Each P (xs ++ x ∷ ys) → P x
each_at P [] x ys each = each.0
each_at P (z ∷ xs) x ys each = each_at P xs x ys each.1

rest_none : {A : Type 0} (xs ys : List A) → xs ++ ys ≡ xs → ys ≡ []
rest_none [] ys same = same
rest_none (x ∷ xs) ys same = rest_none xs ys (let rest : xs ++ ys ≡ xs = cc same in rest)

last_none : {A : Type 0} (xs ys : List A) → xs ++ ys ≡ [] → ys ≡ []
last_none [] ys same = same
last_none (x ∷ xs) ys same = absurd (cc same)

-- an act of a number is among its acts
among : (n : ℕ) (first : List VolumeAct) (act : VolumeAct) (rest : List VolumeAct) → acts_of (λ act. act.seat) n (first ++ act ∷ rest) ≡ [] → act.seat ≡ n → ⊥
among n first act rest none own =
    let left : acts_of (λ act. act.seat) n (act ∷ rest) ≡ [] =
    last_none (acts_of (λ act. act.seat) n first) (acts_of (λ act. act.seat) n (act ∷ rest)) (sym (acts_of_append (λ act. act.seat) n first (act ∷ rest)) ∙ none) in
    let some : acts_of (λ act. act.seat) n (act ∷ rest) ≡ act ∷ acts_of (λ act. act.seat) n rest =
    ap (λ (b : Bool). if b then act ∷ acts_of (λ act. act.seat) n rest else acts_of (λ act. act.seat) n rest) (eq-eqb act.seat n own) in
    (let wrong : act ∷ acts_of (λ act. act.seat) n rest ≡ [] = sym some ∙ left in cc wrong)

-- the acts of the line's lane that were seen are its own
abbrev pub IsOwnSight : CoreTag → LockSight VolumeAct Entry → Type 0
IsOwnSight tag a = acts_of volume_lock.seat tag.lane a.seen ≡ a.own

-- so it is where both sights are such
abbrev pub OwnSights : CoreTag → VolumeCall → VolumeCall
OwnSights tag Is a b = IsOwnSight tag a → IsOwnSight tag b → Is a b

module _ {D P : Type 0} (Tells : Type 0) (files : D → Files) (PieceTells : Type 0) (faults fuses : D → ℕ) (tag : CoreTag) (old : Guarded D P) (j : ℕ)
    (within : j < ((old.logical).settings).replicas) where
  abbrev owner : CoreTag
  owner = slice_index_or old.begun j nobody

  abbrev Kept : Opened D P → List VolumeAct → Type 0
  Kept opened held = IsKept Tells files PieceTells faults fuses opened held old

  module _ (opened : Opened D P) (k : VolumeKnown) (volume : StoreVolume) (at : IsAt faults fuses opened k volume) (tells : Tells) (s : Stands files PieceTells opened.volume k) where
    there : (acts : List VolumeAct) → stood_of faults fuses opened k acts ≡ stood volume.start volume.number acts
    there acts = stood_is faults fuses opened k volume acts at

    module _ (first more : List VolumeAct) (h : Kept opened (first ++ more)) (none : acts_of (λ act. act.seat) tag.lane more ≡ []) (in_volume : j < (volume.settings).replicas) where
      in_opened : j < ((opened.volume).settings).replicas
      in_opened = subst (λ (z : Settings). j < z.replicas) h.same_settings within

      follows : Follows volume.settings volume.number (volume.start.volumes volume.number) (replayed volume_lock (volume.start.volumes volume.number) (first ++ more))
      follows =
          subst (λ (z : Standing). Follows volume.settings volume.number z (replayed volume_lock z (first ++ more))) (sym at.start)
          (subst (λ (z : Settings). Follows z volume.number (standing_of faults fuses opened k) (replayed volume_lock (standing_of faults fuses opened k) (first ++ more))) (sym at.settings)
          (subst (λ (n : ℕ). Follows (opened.volume).settings n (standing_of faults fuses opened k) (replayed volume_lock (standing_of faults fuses opened k) (first ++ more)))
          (sym at.number) (h.follows tells k s)))

      -- each act since is another lane's
      other_act : (before : List VolumeAct) (act : VolumeAct) → IsPrefix before more → IsPrefix (before ++ act ∷ []) more
          → IsOther volume.settings volume.start volume.number j tag in_volume (first ++ before) act
      other_act before act begins (rest, parts) =
          let whole : more ≡ before ++ act ∷ rest = sym parts ∙ append_assoc before (act ∷ []) rest in
          let all : first ++ more ≡ (first ++ before) ++ act ∷ rest = ap (λ l. first ++ l) whole ∙ sym (append_assoc first before (act ∷ rest)) in
          let prefix : IsPrefix ((first ++ before) ++ act ∷ []) (first ++ more) = (rest, append_assoc (first ++ before) (act ∷ []) rest ∙ sym all) in
          let f = follows_behind volume.settings volume.number (volume.start.volumes volume.number) (first ++ before) (act ∷ rest)
          (subst (λ (l : List VolumeAct). Follows volume.settings volume.number (volume.start.volumes volume.number) (replayed volume_lock (volume.start.volumes volume.number) l)) all follows) in
          let sized : IsSized ((opened.volume).settings).replicas act =
          each_at (IsSized ((opened.volume).settings).replicas) (first ++ before) act rest (subst (Each (IsSized ((opened.volume).settings).replicas)) all h.sized) in
          record {
            follows = (f.0, f.1, f.2, tt);
            sized = sized.faults ∙ ap (λ (z : Settings). z.replicas) (sym at.settings);
            seat = each_at (λ act. act.seat ≡ (act.tag).lane) (first ++ before) act rest (subst (Each (λ act. act.seat ≡ (act.tag).lane)) all h.lanes);
            other = among tag.lane before act rest (ap (acts_of (λ act. act.seat) tag.lane) (sym whole) ∙ none);
            owned = h.owned (record { held = first ++ before; act = act }) prefix j in_opened;
            cuts = λ ends. let cut = h.cuts tells k s (record { held = first ++ before; act = act }) prefix j ends in
                (cut.0, sym (ap (λ (z : Standing). (replica_at z.volume j).run) (there (first ++ before))) ∙ cut.1);
          }

      -- it stands or is gone
      pub stands_or_gone : HasRunOf volume.settings volume.start volume.number j tag first
          → HasRunOf volume.settings volume.start volume.number j tag (first ++ more) ⊎ IsGone volume.settings volume.start volume.number j tag in_volume (first ++ more)
      stands_or_gone has = gone_along volume.settings volume.start volume.number j tag in_volume first more other_act (inl has)

  -- AS A HOLDING FOUND IT

  abbrev Stood : VolumeKnown → Type 0
  Stood k = Stands files PieceTells old.logical k

  -- the line's own compaction does not stand
  abbrev IsAway : VolumeKnown → Type 0
  IsAway k = owner ≡ tag → (replica_at k j).run ≡ None

  module _ (opened : Opened D P) (held : List VolumeAct) (h : Kept opened held) (tells : Tells) (k : VolumeKnown) (s : Stands files PieceTells opened.volume k)
      (volume : StoreVolume) (at : IsAt faults fuses opened k volume)
      (a b : LockSight VolumeAct Entry) (holding : Holding volume_lock tag held None a b) (own_then : IsOwnSight tag a) (own_now : IsOwnSight tag b) where
    abbrev more : List VolumeAct
    more = (holding.from).0

    none_since : acts_of (λ act. act.seat) tag.lane more ≡ []
    none_since = rest_none (acts_of (λ act. act.seat) tag.lane a.seen) (acts_of (λ act. act.seat) tag.lane more)
        (sym (acts_of_append (λ act. act.seat) tag.lane a.seen more)
        ∙ ap (acts_of (λ act. act.seat) tag.lane) ((holding.from).1 ∙ sym (append-nil held) ∙ sym holding.seen)
        ∙ own_now ∙ holding.own ∙ append-nil a.own ∙ sym own_then)

    held_within : j < (volume.settings).replicas
    held_within = subst (λ (z : Settings). j < z.replicas) (h.same_settings ∙ sym at.settings) within

    gone_now : IsAway (stood_of faults fuses opened k held).volume → HasRunOf volume.settings volume.start volume.number j tag a.seen
        → IsGone volume.settings volume.start volume.number j tag held_within held
    gone_now away has = elim (now) [
      | inl stands ↦ absurd (none-some stands.run
          (sym (away (h.begun j (subst (λ (z : Settings). j < z.replicas) h.same_settings within) ∙ stands.begun))
          ∙ ap (λ (z : Standing). (replica_at z.volume j).run) (there opened k volume at tells s held) ∙ stands.stands))
      | inr gone ↦ gone
    ]
      where
        now : HasRunOf volume.settings volume.start volume.number j tag held ⊎ IsGone volume.settings volume.start volume.number j tag held_within held
        now = subst (λ (l : List VolumeAct). HasRunOf volume.settings volume.start volume.number j tag l ⊎ IsGone volume.settings volume.start volume.number j tag held_within l) (holding.from).1
            (stands_or_gone opened k volume at tells s a.seen more (subst (Kept opened) (sym (holding.from).1) h) none_since held_within has)

  pub frozen_lost : (m : ℕ) → (Tells → (k : VolumeKnown) → Stood k → (k.frozen ≡ Some m) × IsAway k)
      → Found Tells files PieceTells faults fuses tag old None (λ volume. OwnSights tag (OfOwn volume tag j (RunFrozen volume.settings volume.start volume.number tag j tag m)))
  frozen_lost m known opened held h tells k s volume at a b holding own_then own_now has =
      let is = known tells (stood_of faults fuses opened k held).volume (h.stands tells k s) in
      let gone = gone_now opened held h tells k s volume at a b holding own_then own_now is.1 has in
      record {
        held = held;
        made = None;
        holding = holding;
        is = (refl, gone.ended, sym (ap (λ (z : Standing). (z.volume).frozen) (there opened k volume at tells s held)) ∙ is.0);
      }

  -- not frozen, and this is kept of a delete that ended one of the lane's
  module _ (few : tag.lane < 8) (kept : Option ℕ) (slot : ended_at old.ended j tag.lane ≡ kept) (known : Tells → (k : VolumeKnown) → Stood k → (k.frozen ≡ None) × IsAway k) where
    slot_is : (opened : Opened D P) (held : List VolumeAct) → Kept opened held → kept ≡ ended_of j tag.lane nobody None held
    slot_is opened held h = sym slot ∙ h.ended j tag.lane (subst (λ (z : Settings). j < z.replicas) h.same_settings within) few

    pub deleted_lost : (f : ℕ) → kept ≡ Some f
        → Found Tells files PieceTells faults fuses tag old None (λ volume. OwnSights tag (OfOwn volume tag j (RunDeleted volume.settings volume.start volume.number tag j tag f)))
    deleted_lost f is opened held h tells k s volume at a b holding own_then own_now has =
        let now = known tells (stood_of faults fuses opened k held).volume (h.stands tells k s) in
        let gone = gone_now opened held h tells k s volume at a b holding own_then own_now now.1 has in
        let thawed : (volume_stood volume.start volume.number held).frozen ≡ None = sym (ap (λ (z : Standing). (z.volume).frozen) (there opened k volume at tells s held)) ∙ now.0 in
        let by = gone.deleted thawed in
        let same : f ≡ by.count = some_is (sym is ∙ slot_is opened held h ∙ by.kept) in
        record {
          held = held;
          made = None;
          holding = holding;
          is = (refl, thawed, (gone.ended, by.thawed, ((by.rose).0, (by.rose).1, same ∙ (by.rose).2)));
        }

    pub never_lost : kept ≡ None → Found Tells files PieceTells faults fuses tag old None (λ volume. OwnSights tag (OfOwn volume tag j Never))
    never_lost none opened held h tells k s volume at a b holding own_then own_now has =
        let now = known tells (stood_of faults fuses opened k held).volume (h.stands tells k s) in
        let gone = gone_now opened held h tells k s volume at a b holding own_then own_now now.1 has in
        let thawed : (volume_stood volume.start volume.number held).frozen ≡ None = sym (ap (λ (z : Standing). (z.volume).frozen) (there opened k volume at tells s held)) ∙ now.0 in
        none-some (gone.deleted thawed).count (sym none ∙ slot_is opened held h ∙ (gone.deleted thawed).kept)
