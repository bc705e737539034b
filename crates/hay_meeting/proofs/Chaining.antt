-- What holds of each line of a lane.
use Rattle.std.proofs.Common.{◌≡◌, ◌≢◌, ℕ, ◌<◌, Bool, List, [], ◌∷◌, ◌++◌, length, map, drop, refl, sym, ap, ap₂, subst, ◌∙◌, inl, inr, arith, append_assoc, append-nil, Contains}
use Rattle.std.specs.List.{AllByRecursion as Each}
use Rattle.std.proofs.lemmas.Bool.{eq-eqb, ne_eqb}
use Rattle.std.proofs.lemmas.List.Elements.{filter-append}
use Rattle.std.proofs.Math.Seq.{drop-append_seam}
use mathlib.Core.Logic.{dite}
use native.Mathlib.Decide.{ℕ_discrete}
use Rattle.hay_needle.specs.declared.settings.Settings.{Settings}
use Rattle.hay_core.specs.declared.entry.CoreTag.{CoreTag}
use Rattle.hay_legal.specs.declared.turn.LaneItem.{LaneItem}
use Rattle.hay_legal.specs.Known.{EachPair}
use Rattle.hay_legal.specs.Blocks.{tag_of}
use Rattle.hay_legal.proofs.Subject.Effects.{each_append}
use Rattle.hay_history.proofs.Lists.{each_both, each_in, each_weaker, first_or_rest, in_rest, is_first, none_in}
use Rattle.hay_turn.specs.Acts.{acts_of, AllBelow}
use Rattle.hay_turn.proofs.Prefixes.{prefix_self, prefix_trans}
use Rattle.hay_core.specs.declared.entry.Entry.{Entry}
use Rattle.hay_legal.specs.declared.known.HomeRow.{HomeRow}
use Rattle.hay_history.specs.LaneSteps.{RowsStanding, RowStep, Standing, Step}
use Rattle.hay_meeting.specs.declared.act.DirAct.{DirAct}
use Rattle.hay_meeting.specs.declared.act.VolumeAct.{VolumeAct}
use Rattle.hay_meeting.specs.Acts.{Start, row_lock, volume_lock}
use Rattle.hay_meeting.specs.Chains.{GoesOn, IsChain, Note}
use Rattle.hay_meeting.specs.Locks.{Doing, IsLaterAt, Lock, LockSight, Worked, is_of_line, of_line}
use Rattle.hay_meeting.specs.Sights.{Doings, IsLaterSight, Sight, Work}
use Rattle.hay_meeting.proofs.Picking.{each_map}

-- LATER SIGHTS

pub same_at : {E X : Type 0} (a : LockSight E X) → IsLaterAt a a
same_at a = record { seen = prefix_self a.seen; shown = prefix_self a.shown }

pub later_at : {E X : Type 0} (a b c : LockSight E X) → IsLaterAt a b → IsLaterAt b c → IsLaterAt a c
later_at a b c p q = record { seen = prefix_trans a.seen b.seen c.seen p.seen q.seen; shown = prefix_trans a.shown b.shown c.shown p.shown q.shown }

pub same_sight : (a : Sight) → IsLaterSight a a
same_sight a = record { volumes = λ v. same_at (a.volumes v); directory = same_at a.directory; arm = omega arith }

pub later_still : (a b c : Sight) → IsLaterSight a b → IsLaterSight b c → IsLaterSight a c
later_still a b c p q = record {
  volumes = λ v. later_at (a.volumes v) (b.volumes v) (c.volumes v) (p.volumes v) (q.volumes v);
  directory = later_at a.directory b.directory c.directory p.directory q.directory;
  arm = let l = p.arm in let r = q.arm in omega (arith, l, r);
}

pub work_later : {item : LaneItem} {a b : Sight} {doings : Doings} → Work item a b doings → IsLaterSight a b
work_later work = record { volumes = λ v. (work.volumes v).later; directory = (work.directory).later; arm = work.arm }

-- ACTS OF A LINE AND OF A SEAT

module _ {S E X T : Type 0} (lock : Lock S E X T) where
  pub of_line_all : (line : ℕ) (acts : List E) → Each (λ act. (lock.tag act).line ≡ line) acts → of_line lock line acts ≡ acts
  of_line_all line [] each = refl
  of_line_all line (act ∷ acts) each = rw (eq-eqb (lock.tag act).line line each.0) (ap (λ z. act ∷ z) (of_line_all line acts each.1))

  pub of_line_none : (line : ℕ) (acts : List E) → Each (λ act. (lock.tag act).line ≢ line) acts → of_line lock line acts ≡ []
  of_line_none line [] each = refl
  of_line_none line (act ∷ acts) each = rw (ne_eqb (lock.tag act).line line each.0) (of_line_none line acts each.1)

  -- all acts of a line are of one seat, if each of them is
  pub of_line_of_seat : (line lane : ℕ) (acts : List E) → Each (λ act. (lock.tag act).line ≡ line → lock.seat act ≡ lane) acts
      → of_line lock line acts ≡ of_line lock line (acts_of lock.seat lane acts)
  of_line_of_seat line lane [] each = refl
  of_line_of_seat line lane (act ∷ acts) each =
      let rest = of_line_of_seat line lane acts each.1 in
      dite (ℕ_discrete (lock.tag act).line line)
      (λ e. rw (eq-eqb (lock.seat act) lane (each.0 e)) (rw (eq-eqb (lock.tag act).line line e) (ap (λ z. act ∷ z) rest)))
      (λ ne. dite (ℕ_discrete (lock.seat act) lane)
      (λ s. rw (eq-eqb (lock.seat act) lane s) (rw (ne_eqb (lock.tag act).line line ne) rest))
      (λ s. rw (ne_eqb (lock.seat act) lane s) (rw (ne_eqb (lock.tag act).line line ne) rest)))

  -- what holds of the acts of each seat holds of each act
  pub each_by_seat : (P : E → Type 0) (lanes : ℕ) (acts : List E) → AllBelow lock.seat lanes acts → ((lane : ℕ) → lane < lanes → Each P (acts_of lock.seat lane acts)) → Each P acts
  each_by_seat P lanes [] below each = tt
  each_by_seat P lanes (act ∷ acts) below each = (
    (rw (eq-eqb (lock.seat act) (lock.seat act) refl) at (each (lock.seat act) below.0)).0,
    each_by_seat P lanes acts below.1 (λ lane low. dite (ℕ_discrete (lock.seat act) lane)
        (λ e. (rw (eq-eqb (lock.seat act) lane e) at (each lane low)).1)
        (λ ne. rw (ne_eqb (lock.seat act) lane ne) at (each lane low))),
  )

-- A LOCK'S PLACE in the sights of a lane and in the doings of its lines

pub record Place (settings : Settings) (start : Start) (drained : List Bool) (S E X T : Type 0) : Type 0 where
  pub lock : Lock S E X T
  pub at : Sight → LockSight E X
  pub is_later : (a b : Sight) → IsLaterSight a b → IsLaterAt (at a) (at b)
  pub doings : (note : Note) → GoesOn settings start drained note → List (Doing E)
  pub worked : (note : Note) (goes : GoesOn settings start drained note) → Worked lock (tag_of note.item) (at note.before) (at note.after) (doings note goes)

abbrev pub volume_place : {settings : Settings} {start : Start} {drained : List Bool} → ℕ → Place settings start drained Standing VolumeAct Entry Step
volume_place v = record {
  lock = volume_lock;
  at = λ s. s.volumes v;
  is_later = λ a b later. later.volumes v;
  doings = λ note goes. (goes.doings).volumes v;
  worked = λ note goes. (goes.work).volumes v;
}

abbrev pub row_place : {settings : Settings} {start : Start} {drained : List Bool} → Place settings start drained RowsStanding DirAct HomeRow RowStep
row_place = record {
  lock = row_lock;
  at = λ s. s.directory;
  is_later = λ a b later. later.directory;
  doings = λ note goes. (goes.doings).rows;
  worked = λ note goes. (goes.work).directory;
}

-- A CHAIN

module _ (settings : Settings) (start : Start) (drained : List Bool) (lane : ℕ) where
  pub chain_later : (notes : List Note) (a b : Sight) → IsChain settings start drained lane a notes b → IsLaterSight a b
  chain_later [] a b chain = subst (IsLaterSight a) (sym chain) (same_sight a)
  chain_later (note ∷ notes) a b chain =
      later_still a note.after b (subst (λ (s : Sight). IsLaterSight s note.after) chain.0 (work_later (chain.2).work)) (chain_later notes note.after b chain.3)

  -- a line of the chain
  pub record IsIn (a b : Sight) (note : Note) : Type 0 where
    pub goes : GoesOn settings start drained note
    pub lane_is : (note.item).lane ≡ lane
    pub from : IsLaterSight a note.before
    pub to : IsLaterSight note.after b

  pub is_in : (notes : List Note) (a b : Sight) → IsChain settings start drained lane a notes b → (note : Note) → Contains notes note → IsIn a b note
  is_in [] a b chain note among = absurd (none_in note among)
  is_in (first ∷ notes) a b chain note among =
      elim (first_or_rest first notes note among) [
        | inl e ↦ subst (IsIn a b) e (record {
          goes = chain.2;
          lane_is = chain.1;
          from = subst (IsLaterSight a) (sym chain.0) (same_sight a);
          to = chain_later notes first.after b chain.3;
        })
        | inr later ↦ let r = is_in notes first.after b chain.3 note later in record {
          goes = r.goes;
          lane_is = r.lane_is;
          from = later_still a first.after note.before (subst (λ (s : Sight). IsLaterSight s first.after) chain.0 (work_later (chain.2).work)) r.from;
          to = r.to;
        }
      ]

  -- each line stands behind the earlier ones
  pub in_order : (notes : List Note) (a b : Sight) → IsChain settings start drained lane a notes b → EachPair (λ m n. IsLaterSight m.after n.before) notes
  in_order [] a b chain = tt
  in_order (note ∷ notes) a b chain = (behind notes note.after b chain.3, in_order notes note.after b chain.3)
    where
      behind : (notes : List Note) (a b : Sight) → IsChain settings start drained lane a notes b → Each (λ n. IsLaterSight a n.before) notes
      behind [] a b chain = tt
      behind (note ∷ notes) a b chain = (
        subst (IsLaterSight a) (sym chain.0) (same_sight a),
        each_weaker (λ n. IsLaterSight note.after n.before) (λ n. IsLaterSight a n.before)
            (λ n l. later_still a note.after n.before (subst (λ (s : Sight). IsLaterSight s note.after) chain.0 (work_later (chain.2).work)) l) notes (behind notes note.after b chain.3),
      )

  -- OF ONE LOCK

  module _ {S E X T : Type 0} (place : Place settings start drained S E X T) where
    abbrev lock : Lock S E X T
    lock = place.lock

    abbrev at : Sight → LockSight E X
    at = place.at

    -- an act was made for a line
    pub record IsMadeFor (item : LaneItem) (act : E) : Type 0 where
      pub tag : lock.tag act ≡ tag_of item
      pub seat : lock.seat act ≡ item.lane

    -- it was made for one of the lines
    pub record IsOwned (notes : List Note) (act : E) : Type 0 where
      pub note : Note
      pub among : Contains notes note
      pub made : IsMadeFor note.item act

    pub made_line : {item : LaneItem} {act : E} → IsMadeFor item act → (lock.tag act).line ≡ item.line
    made_line x = ap (λ (t : CoreTag). t.line) x.tag

    abbrev pub made_for : (note : Note) → GoesOn settings start drained note → List E
    made_for note goes = map (λ doing. doing.act) (place.doings note goes)

    each_made : (note : Note) (goes : GoesOn settings start drained note) → Each (IsMadeFor note.item) (made_for note goes)
    each_made note goes =
        let w = place.worked note goes in
        let all : List (Doing E) = place.doings note goes in
        each_map (λ (doing : Doing E). doing.act) (IsMadeFor note.item) all
        (each_both (λ (d : Doing E). lock.tag d.act ≡ tag_of note.item) (λ d. lock.seat d.act ≡ (note.item).lane) (λ d. IsMadeFor note.item d.act)
        (λ d p q. record { tag = p; seat = q }) all w.tags w.seats)

    -- all acts of the lane's lines
    abbrev pub made_by : (notes : List Note) (a b : Sight) → IsChain settings start drained lane a notes b → List E
    made_by [] a b chain = []
    made_by (note ∷ notes) a b chain = made_for note chain.2 ++ made_by notes note.after b chain.3

    pub own_by : (notes : List Note) (a b : Sight) (chain : IsChain settings start drained lane a notes b) → (at b).own ≡ (at a).own ++ made_by notes a b chain
    own_by [] a b chain = ap (λ (s : Sight). (at s).own) chain ∙ sym (append-nil (at a).own)
    own_by (note ∷ notes) a b chain =
        own_by notes note.after b chain.3
        ∙ (ap (λ z. z ++ made_by notes note.after b chain.3) ((place.worked note chain.2).own ∙ ap (λ (s : Sight). (at s).own ++ made_for note chain.2) chain.0)
        ∙ append_assoc (at a).own (made_for note chain.2) (made_by notes note.after b chain.3))

    pub owned : (notes : List Note) (a b : Sight) (chain : IsChain settings start drained lane a notes b) → Each (IsOwned notes) (made_by notes a b chain)
    owned [] a b chain = tt
    owned (note ∷ notes) a b chain =
        each_append (IsOwned (note ∷ notes)) (made_for note chain.2) (made_by notes note.after b chain.3)
        (each_weaker (IsMadeFor note.item) (IsOwned (note ∷ notes)) (λ act m. record { note = note; among = is_first note notes; made = m }) (made_for note chain.2) (each_made note chain.2))
        (each_weaker (IsOwned notes) (IsOwned (note ∷ notes)) (λ act m. record { note = m.note; among = in_rest note notes m.note m.among; made = m.made })
        (made_by notes note.after b chain.3) (owned notes note.after b chain.3))

    new_own : (note : Note) (goes : GoesOn settings start drained note) → made_for note goes ≡ drop (length (at note.before).own) (at note.after).own
    new_own note goes = sym (ap (drop (length (at note.before).own)) (place.worked note goes).own ∙ drop-append_seam (at note.before).own (made_for note goes))

    -- the acts of a line are those by which its lane's own ones grew
    abbrev IsMine : Note → List E → Type 0
    IsMine note acts = of_line lock (note.item).line acts ≡ drop (length (at note.before).own) (at note.after).own

    pub mine : (notes : List Note) (a b : Sight) (chain : IsChain settings start drained lane a notes b) → EachPair (λ m n. (m.item).line ≢ (n.item).line) notes
        → (note : Note) → Contains notes note → IsMine note (made_by notes a b chain)
    mine [] a b chain apart note among = absurd (none_in note among)
    mine (first ∷ notes) a b chain apart note among =
        let made : List E = made_for first chain.2 in
        let rest : List E = made_by notes first.after b chain.3 in
        let split : (line : ℕ) → of_line lock line (made ++ rest) ≡ of_line lock line made ++ of_line lock line rest = λ line. filter-append (is_of_line lock line) made rest in
        elim (first_or_rest first notes note among) [
          | inl e ↦ subst (λ (n : Note). IsMine n (made ++ rest)) e
              (split (first.item).line
              ∙ ((ap₂ (λ x y. x ++ y)
              (of_line_all lock (first.item).line made (each_weaker (IsMadeFor first.item) (λ act. (lock.tag act).line ≡ (first.item).line) (λ act m. made_line m) made (each_made first chain.2)))
              (of_line_none lock (first.item).line rest (each_weaker (IsOwned notes) (λ act. (lock.tag act).line ≢ (first.item).line)
              (λ act m. λ z. each_in (λ n. (first.item).line ≢ (n.item).line) notes m.note apart.0 m.among (sym z ∙ made_line m.made)) rest (owned notes first.after b chain.3)))
              ∙ append-nil made)
              ∙ new_own first chain.2))
          | inr later ↦ split (note.item).line
              ∙ (ap (λ x. x ++ of_line lock (note.item).line rest)
              (of_line_none lock (note.item).line made (each_weaker (IsMadeFor first.item) (λ act. (lock.tag act).line ≢ (note.item).line)
              (λ act m. λ z. each_in (λ n. (first.item).line ≢ (n.item).line) notes note apart.0 later (sym (made_line m) ∙ z)) made (each_made first chain.2)))
              ∙ mine notes first.after b chain.3 apart.1 note later)
        ]
