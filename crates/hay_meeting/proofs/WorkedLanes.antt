-- A worked block of three lanes, from what each lane saw and did: a put adds the row of its pair while a compaction stands, a delete of
-- another lane ends the compaction as the disk fails, a read answers at a front from before the delete, and a put fails.
use Rattle.std.specs.Prelude.{◌≡◌, ◌≢◌, ℕ, zero, suc, ◌<◌, ◌≤◌, ◌==◌, ◌+◌, length, true, false, filter, List, [], ◌∷◌, codes, refl, Some, None, slice_get, slice_index_or}
use Rattle.std.specs.List.{AllByRecursion as Each}
use Rattle.std.proofs.Common.{sym, subst, arith, lit≤, lit<, inl, inr}
use Rattle.std.proofs.lemmas.Bool.{ne_eqb}
use mathlib.Core.List.{IsPrefix}
use Rattle.hay_needle.specs.declared.settings.TheConstants.{LAST_GENERATION}
use Rattle.hay_disk.specs.Counts.{Rose}
use Rattle.hay_url.proofs.Cookies.{cookie_of-zero}
use Rattle.hay_core.specs.declared.entry.CoreTag.{CoreTag}
use Rattle.hay_core.specs.declared.entry.Entry.{Entry}
use Rattle.hay_core.specs.declared.entry.Entry.TheVariants as entry
use Rattle.hay_script.specs.declared.Command.TheVariants as command
use Rattle.hay_reply.specs.declared.Reply.TheVariants as reply
use Rattle.hay_legal.specs.declared.known.DirKnown.{DirKnown}
use Rattle.hay_legal.specs.declared.known.HomeRow.{HomeRow}
use Rattle.hay_legal.specs.declared.known.Known.{Known}
use Rattle.hay_legal.specs.declared.known.ReplicaKnown.{ReplicaKnown}
use Rattle.hay_legal.specs.declared.known.Run.{Run}
use Rattle.hay_legal.specs.declared.turn.LaneItem.{LaneItem}
use Rattle.hay_legal.specs.Blocks.{LegalBlock}
use Rattle.hay_legal.specs.Known.{arm_count, empty_replica, empty_volume, fault_count, fresh_unharmed, fuse_count, replica_at, slot_of, volume_at}
use Rattle.hay_legal.specs.Plain.{put_entry}
use Rattle.hay_legal.specs.Subject.{IsOf}
use Rattle.hay_legal.proofs.Steps.{one, own, pair}
use Rattle.hay_history.specs.LaneSteps.{Follows}
use Rattle.hay_history.specs.Histories.{first_of}
use Rattle.hay_history.specs.Commands.{IsRegular}
use Rattle.hay_history.proofs.Worked.{line_of, of_first, tag}
use Rattle.hay_turn.specs.Acts.{acts_of}
use Rattle.hay_meeting.specs.declared.act.DirAct.{DirAct}
use Rattle.hay_meeting.specs.declared.act.DirDid.TheVariants as did_row
use Rattle.hay_meeting.specs.declared.act.VolumeAct.{VolumeAct}
use Rattle.hay_meeting.specs.declared.act.VolumeDid.{VolumeDid}
use Rattle.hay_meeting.specs.declared.act.VolumeDid.TheVariants as did
use Rattle.hay_meeting.specs.Acts.{AreSound, Happened, IsSized, Start, row_lock, volume_lock}
use Rattle.hay_meeting.specs.Facts.{changed}
use Rattle.hay_meeting.specs.Chains.{IsChain, items_of, Lines, Note, WholeAt}
use Rattle.hay_meeting.specs.Locks.{Doing, Lock, LockSight, Worked, entries, replayed}
use Rattle.hay_meeting.specs.Replies.{DidHere}
use Rattle.hay_meeting.specs.Sights.{Agrees, Doings, Sight, Work, rows_stood, stood}
use Rattle.hay_meeting.proofs.Meeting.{lanes_make_blocks}
use Rattle.hay_meeting.proofs.Opening.{lanes_begin, nothing_yet, opened_at, store_opens}
use Rattle.hay_meeting.proofs.Phases.{only_saw}
use Rattle.hay_meeting.proofs.Replying.{goes_on}

-- WHAT STANDS

-- the one replica has a photo of pair 1
abbrev first_replica : ReplicaKnown
first_replica = record empty_replica { base = (pair 1, record { cookie = own; bytes = codes "a" }) ∷ []; end = 120; cells = 1 }

abbrev one_row : DirKnown
one_row = record { rows = record { pair = pair 1; volume = 0 } ∷ []; frozen = false; pending = None }

abbrev before : Known
before = record (fresh_unharmed one) { volumes = record empty_volume { replicas = first_replica ∷ [] } ∷ []; directory = one_row }

abbrev start : Start
start = opened_at one before

-- THE ACTS

-- of the one volume, and of no other
abbrev on_one : {X : Type 0} → X → X → ℕ → X
on_one here nothing zero = here
on_one here nothing (suc v) = nothing

-- behind which so many calls of the replica's disk have failed
abbrev act : ℕ → ℕ → VolumeDid → ℕ → VolumeAct
act lane line what faults = record { seat = lane; tag = tag lane line; did = what; faults = faults ∷ []; fuses = 0 ∷ [] }

abbrev photo_b : Entry
photo_b = entry.Put (pair 2) own (codes "b")

abbrev begins : VolumeAct
begins = act 2 4 (did.Begins 0) 0

abbrev puts : VolumeAct
puts = act 0 2 (did.Entered photo_b []) 0

abbrev examines : VolumeAct
examines = act 2 4 (did.Examines 0 1) 0

abbrev deletes : VolumeAct
deletes = act 1 3 (did.Entered (entry.Del (pair 1)) (true ∷ [])) 1

abbrev pends : VolumeAct
pends = act 2 6 (did.Pends 0 (put_entry one (pair 2) (codes "c")) true) 2

abbrev new_row : HomeRow
new_row = record { pair = pair 2; volume = 0 }

abbrev adds : DirAct
adds = record { seat = 0; tag = tag 0 2; did = did_row.AddsRow new_row; faults = 0; fuses = 0 }

abbrev all : List VolumeAct
all = begins ∷ puts ∷ examines ∷ deletes ∷ pends ∷ []

abbrev h : Happened
h = record { volumes = on_one all []; directory = adds ∷ [] }

abbrev behind : Known
behind = record (fresh_unharmed one) { volumes = (stood start 0 all).volume ∷ []; directory = (rows_stood start (adds ∷ [])).directory; faults = 0 ∷ 2 ∷ [] }

-- THE SIGHTS

abbrev nothing : {E X : Type 0} → LockSight E X
nothing = record { seen = []; own = []; shown = [] }

abbrev sight : LockSight VolumeAct Entry → LockSight DirAct HomeRow → Sight
sight volume directory = record { volumes = on_one volume nothing; directory = directory; arm = 0 }

abbrev at_first : Sight
at_first = sight nothing nothing

abbrev with_row : LockSight DirAct HomeRow
with_row = record { seen = adds ∷ []; own = adds ∷ []; shown = new_row ∷ [] }

abbrev behind_put : Sight
behind_put = sight (record { seen = begins ∷ puts ∷ []; own = puts ∷ []; shown = photo_b ∷ [] }) with_row

abbrev behind_del : Sight
behind_del = sight (record { seen = begins ∷ puts ∷ examines ∷ deletes ∷ []; own = deletes ∷ []; shown = photo_b ∷ entry.Del (pair 1) ∷ [] }) nothing

abbrev behind_compact : Sight
behind_compact = sight (record { seen = begins ∷ puts ∷ examines ∷ deletes ∷ []; own = begins ∷ examines ∷ []; shown = photo_b ∷ entry.Del (pair 1) ∷ [] }) nothing

abbrev behind_failed : Sight
behind_failed =
    sight (record { seen = all; own = begins ∷ examines ∷ pends ∷ []; shown = photo_b ∷ entry.Del (pair 1) ∷ [] }) (record { seen = adds ∷ []; own = []; shown = new_row ∷ [] })

-- THE LINES

abbrev put_b : LaneItem
put_b = line_of 0 2 (command.Put (pair 2) (codes "b")) (reply.Stored 0 1 2 own)

abbrev del_a : LaneItem
del_a = line_of 1 3 (command.Del (pair 1)) (reply.Deleted 0 2 1)

abbrev compact : LaneItem
compact = line_of 2 4 (command.Compact 0 0) (reply.Failed 0 0 1)

-- its lane has not seen the delete
abbrev read_a : LaneItem
read_a = line_of 0 5 (command.Read (pair 1) own) (reply.Photo 0 0 1 2 (codes "a"))

abbrev put_c : LaneItem
put_c = line_of 2 6 (command.Put (pair 2) (codes "c")) (reply.Failed 0 0 2)

abbrev items : List LaneItem
items = put_b ∷ del_a ∷ compact ∷ read_a ∷ put_c ∷ []

-- WHAT EACH SAW AND DID

of_each : (P : ℕ → Type 0) → P 0 → ((v : ℕ) → P (suc v)) → (v : ℕ) → P v
of_each P here others zero = here
of_each P here others (suc v) = others v

-- it did nothing on a lock, and saw no more
unseen : {S E X T : Type 0} (lock : Lock S E X T) (tag : CoreTag) → Worked lock tag nothing nothing []
unseen lock tag = only_saw lock (record { seen = ([], refl); shown = ([], refl) }) refl

-- doings on the one volume alone
abbrev on_volume : List (Doing VolumeAct) → Doings
on_volume doings = record { volumes = on_one doings []; rows = [] }

abbrev doing : List VolumeAct → VolumeAct → Doing VolumeAct
doing held act = record { held = held; act = act }

abbrev put_doings : List (Doing VolumeAct)
put_doings = doing (begins ∷ []) puts ∷ []

work_of_put : Work put_b at_first behind_put (record { volumes = on_one put_doings []; rows = record { held = []; act = adds } ∷ [] })
work_of_put = record {
  volumes = of_each (λ v. Worked volume_lock (tag 0 2) (at_first.volumes v) (behind_put.volumes v) (on_one put_doings [] v)) (record {
    later = record { seen = (_, refl); shown = (_, refl) };
    own = refl;
    rises = ((_, refl), tt);
    each = (record { from = (_, refl); shown_from = (_, refl); to = ([], refl); shown_to = ([], refl) }, tt);
    tags = (refl, tt);
    seats = (refl, tt);
  }) (λ v. unseen volume_lock (tag 0 2));
  directory = record {
    later = record { seen = (_, refl); shown = (_, refl) };
    own = refl;
    rises = ((_, refl), tt);
    each = (record { from = (_, refl); shown_from = (_, refl); to = ([], refl); shown_to = ([], refl) }, tt);
    tags = (refl, tt);
    seats = (refl, tt);
  };
  arm = lit≤ tt;
}

nowhere_else : (doings : List (Doing VolumeAct)) (u : ℕ) → u ≢ 0 → changed (on_one doings [] u) ≡ []
nowhere_else doings zero differs = absurd (differs refl)
nowhere_else doings (suc u) differs = refl

put_b_did : DidHere one start (false ∷ []) put_b at_first behind_put (record { volumes = on_one put_doings []; rows = record { held = []; act = adds } ∷ [] }) put_b.item put_b.reply
put_b_did = record {
  row = inr (record {
    row = new_row;
    doing = record { one = record { held = []; act = adds }; only = refl; is = refl };
    own_pair = refl;
    taker = record {
      tried = (0, lit< tt, refl);
      takes = record { below = lit< tt; held = begins ∷ []; between = record { from = (_, refl); shown_from = (_, refl); to = (_, refl); shown_to = (_, refl) }; is = refl };
      before = tt;
    };
  });
  home = record { sight = with_row; from = record { seen = (_, refl); shown = (_, refl) }; to = record { seen = ([], refl); shown = ([], refl) }; front = refl; is = refl };
  below = lit< tt;
  own_cookie = sym cookie_of-zero;
  elsewhere = nowhere_else put_doings;
  doing = record { one = doing (begins ∷ []) puts; only = refl; is = refl };
  room = refl;
  position = refl;
}

-- the delete saw the Directory before the new row
abbrev del_doings : List (Doing VolumeAct)
del_doings = doing (begins ∷ puts ∷ examines ∷ []) deletes ∷ []

work_of_del : Work del_a at_first behind_del (on_volume del_doings)
work_of_del = record {
  volumes = of_each (λ v. Worked volume_lock (tag 1 3) (at_first.volumes v) (behind_del.volumes v) (on_one del_doings [] v)) (record {
    later = record { seen = (_, refl); shown = (_, refl) };
    own = refl;
    rises = ((_, refl), tt);
    each = (record { from = (_, refl); shown_from = (_, refl); to = ([], refl); shown_to = ([], refl) }, tt);
    tags = (refl, tt);
    seats = (refl, tt);
  }) (λ v. unseen volume_lock (tag 1 3));
  directory = unseen row_lock (tag 1 3);
  arm = lit≤ tt;
}

del_a_did : DidHere one start (false ∷ []) del_a at_first behind_del (on_volume del_doings) del_a.item del_a.reply
del_a_did = record {
  home = record { sight = nothing; from = record { seen = ([], refl); shown = ([], refl) }; to = record { seen = ([], refl); shown = ([], refl) }; front = refl; is = refl };
  below = lit< tt;
  rows = refl;
  elsewhere = nowhere_else del_doings;
  doing = record { one = doing (begins ∷ puts ∷ examines ∷ []) deletes; only = refl; is = refl };
  «open» = refl;
  stood = refl;
  position = refl;
}

-- the compaction began and examined a cell, and its lane found it ended by the delete
abbrev compact_doings : List (Doing VolumeAct)
compact_doings = doing [] begins ∷ doing (begins ∷ puts ∷ []) examines ∷ []

work_of_compact : Work compact at_first behind_compact (on_volume compact_doings)
work_of_compact = record {
  volumes = of_each (λ v. Worked volume_lock (tag 2 4) (at_first.volumes v) (behind_compact.volumes v) (on_one compact_doings [] v)) (record {
    later = record { seen = (_, refl); shown = (_, refl) };
    own = refl;
    rises = ((_, refl), ((_, refl), tt));
    each = (
      record { from = (_, refl); shown_from = (_, refl); to = (_, refl); shown_to = (_, refl) },
      (record { from = (_, refl); shown_from = (_, refl); to = (_, refl); shown_to = (_, refl) }, tt),
    );
    tags = (refl, (refl, tt));
    seats = (refl, (refl, tt));
  }) (λ v. unseen volume_lock (tag 2 4));
  directory = unseen row_lock (tag 2 4);
  arm = lit≤ tt;
}

compact_did : DidHere one start (false ∷ []) compact at_first behind_compact (on_volume compact_doings) compact.item compact.reply
compact_did = (
  (refl, refl),
  inr (inr (inr (record {
    ran = record {
      below = lit< tt;
      rows = refl;
      elsewhere = nowhere_else compact_doings;
      first = doing [] begins;
      begins = refl;
      middle = doing (begins ∷ puts ∷ []) examines ∷ [];
      examines = ((1, refl), tt);
      steps = refl;
      until = doing (begins ∷ puts ∷ examines ∷ []) deletes;
      ran = record {
        between = record { from = (_, refl); shown_from = (_, refl); to = ([], refl); shown_to = ([], refl) };
        own = record { run = record { goal = 1; left = 1 }; stands = refl; begun = refl };
        none = refl;
      };
      behind_it = lit< tt;
      inside = (lit< tt, tt);
    };
    thawed = refl;
    rose = record { within = lit< tt; rose = inl (lit< tt); printed = refl };
  }))),
)

-- the read looks by its seats alone, at a front from before the delete
work_of_read : Work read_a behind_put behind_put (record { volumes = λ v. []; rows = [] })
work_of_read = record {
  volumes = of_each (λ v. Worked volume_lock (tag 0 5) (behind_put.volumes v) (behind_put.volumes v) [])
      (only_saw volume_lock (record { seen = ([], refl); shown = ([], refl) }) refl) (λ v. unseen volume_lock (tag 0 5));
  directory = only_saw row_lock (record { seen = ([], refl); shown = ([], refl) }) refl;
  arm = lit≤ tt;
}

read_a_did : DidHere one start (false ∷ []) read_a behind_put behind_put (record { volumes = λ v. []; rows = [] }) read_a.item read_a.reply
read_a_did = record {
  home = record { sight = with_row; from = record { seen = ([], refl); shown = ([], refl) }; to = record { seen = ([], refl); shown = ([], refl) }; front = refl; is = refl };
  below = lit< tt;
  front = record { sight = behind_put.volumes 0; from = record { seen = ([], refl); shown = ([], refl) }; to = record { seen = ([], refl); shown = ([], refl) }; front = refl };
  replica = 0;
  there = refl;
  stood = refl;
  passed = record { to_arm = λ j. false; arm = inl (lit≤ tt); disks = tt };
  looks = (refl, (λ u differs. refl), tt);
}

abbrev failed_doings : List (Doing VolumeAct)
failed_doings = doing (begins ∷ puts ∷ examines ∷ deletes ∷ []) pends ∷ []

work_of_failed : Work put_c behind_compact behind_failed (on_volume failed_doings)
work_of_failed = record {
  volumes = of_each (λ v. Worked volume_lock (tag 2 6) (behind_compact.volumes v) (behind_failed.volumes v) (on_one failed_doings [] v)) (record {
    later = record { seen = (_, refl); shown = ([], refl) };
    own = refl;
    rises = (([], refl), tt);
    each = (record { from = ([], refl); shown_from = ([], refl); to = ([], refl); shown_to = ([], refl) }, tt);
    tags = (refl, tt);
    seats = (refl, tt);
  }) (λ v. unseen volume_lock (tag 2 6));
  directory = only_saw row_lock (record { seen = (_, refl); shown = (_, refl) }) refl;
  arm = lit≤ tt;
}

put_c_did : DidHere one start (false ∷ []) put_c behind_compact behind_failed (on_volume failed_doings) put_c.item put_c.reply
put_c_did = record {
  row = inl refl;
  d = 2;
  home = record { sight = behind_failed.directory; from = record { seen = (_, refl); shown = (_, refl) }; to = record { seen = ([], refl); shown = ([], refl) }; front = refl; is = refl };
  below = lit< tt;
  elsewhere = nowhere_else failed_doings;
  doing = record { one = doing (begins ∷ puts ∷ examines ∷ deletes ∷ []) pends; only = refl; is = refl };
  room = refl;
  failed = record { replica = 0; there = refl; rose = record { within = lit< tt; rose = inl (lit< tt); printed = refl }; last = (lit≤ tt, tt) };
}

-- THE LANES

abbrev notes : ℕ → List Note
notes zero = record { item = put_b; before = at_first; after = behind_put } ∷ record { item = read_a; before = behind_put; after = behind_put } ∷ []
notes (suc zero) = record { item = del_a; before = at_first; after = behind_del } ∷ []
notes (suc (suc zero)) = record { item = compact; before = at_first; after = behind_compact } ∷ record { item = put_c; before = behind_compact; after = behind_failed } ∷ []
notes (suc (suc (suc lane))) = []

abbrev firsts : List Sight
firsts = at_first ∷ at_first ∷ at_first ∷ []

abbrev lasts : List Sight
lasts = behind_put ∷ behind_del ∷ behind_failed ∷ []

-- of three lanes
of_three : {A : Type 0} (x y z : A) (P : ℕ → A → Type 0) → P 0 x → P 1 y → P 2 z → (lane : ℕ) (s : A) → slice_get (x ∷ y ∷ z ∷ []) lane ≡ Some s → P lane s
of_three x y z P p q r zero s at = subst (P 0) (cc at) p
of_three x y z P p q r (suc zero) s at = subst (P 1) (cc at) q
of_three x y z P p q r (suc (suc zero)) s at = subst (P 2) (cc at) r
of_three x y z P p q r (suc (suc (suc lane))) s at = absurd (cc at)

chains : (lane : ℕ) (a b : Sight) → slice_get firsts lane ≡ Some a → slice_get lasts lane ≡ Some b → IsChain one start (false ∷ []) lane a (notes lane) b
chains lane a b at_a at_b =
    of_three at_first at_first at_first (λ lane a. slice_get lasts lane ≡ Some b → IsChain one start (false ∷ []) lane a (notes lane) b)
    (λ at. (refl, refl, goes_on _ (record { doings = _; work = work_of_put; did = put_b_did }), (refl, refl, goes_on _ (record { doings = _; work = work_of_read; did = read_a_did }), sym (cc at))))
    (λ at. (refl, refl, goes_on _ (record { doings = _; work = work_of_del; did = del_a_did }), sym (cc at)))
    (λ at. (
      refl,
      refl,
      goes_on _ (record { doings = _; work = work_of_compact; did = compact_did }),
      (refl, refl, goes_on _ (record { doings = _; work = work_of_failed; did = put_c_did }), sym (cc at)),
    ))
    lane a at_a at_b

each_lane : (lane : ℕ) → filter (λ (item : LaneItem). item.lane == lane) items ≡ items_of (notes lane)
each_lane zero = refl
each_lane (suc zero) = refl
each_lane (suc (suc zero)) = refl
each_lane (suc (suc (suc lane))) =
    let n : ℕ = suc (suc (suc lane)) in
    rw (ne_eqb 0 n (λ e. omega (arith, e)), ne_eqb 1 n (λ e. omega (arith, e)), ne_eqb 2 n (λ e. omega (arith, e))) refl

-- BEFORE THE LINES, AND BEHIND THEM

-- a count of the one replica that does not fall, and one that is as it was
rises : (counts : ℕ → ℕ) (n : ℕ) → counts 0 ≤ n → (j : ℕ) → counts j ≤ slice_index_or (n ∷ []) j (counts j)
rises counts n le zero = le
rises counts n le (suc j) = omega arith

stays : (counts : ℕ → ℕ) → counts 0 ≡ 0 → (j : ℕ) → slice_index_or (0 ∷ []) j (counts j) ≡ counts j
stays counts same zero = sym same
stays counts same (suc j) = refl

sound : AreSound one start h
sound = record {
  follows = of_first (λ v. Follows one v (start.volumes v) (replayed volume_lock (start.volumes v) (h.volumes v))) (
    (refl, lit< tt, refl, lit< tt, refl),
    rises _ 0 (lit≤ tt),
    stays _ refl,
    (
      (refl, refl),
      rises _ 0 (lit≤ tt),
      stays _ refl,
      (
        (refl, lit< tt, (record { goal = 1; left = 2 }, refl, lit≤ tt, refl)),
        rises _ 0 (lit≤ tt),
        stays _ refl,
        (
          (refl, (true ∷ [], ended_rose, refl)),
          rises _ 1 (lit≤ tt),
          stays _ refl,
          ((refl, refl), rises _ 2 (lit≤ tt), stays _ refl, tt),
        ),
      ),
    ),
  );
  sized = of_first (λ v. Each (IsSized 1) (h.volumes v)) (
    record { faults = refl; fuses = refl },
    (record { faults = refl; fuses = refl }, (record { faults = refl; fuses = refl }, (record { faults = refl; fuses = refl }, (record { faults = refl; fuses = refl }, tt)))),
  );
  follows_rows = (((refl, refl), refl), lit≤ tt, (refl, refl), tt);
}
  where
    ended_rose : (j : ℕ) → slice_get (true ∷ []) j ≡ Some true
        → Rose ((stood start 0 (begins ∷ puts ∷ examines ∷ [])).faults j) ((stood start 0 (begins ∷ puts ∷ examines ∷ deletes ∷ [])).faults j)
    ended_rose zero on = inl (lit< tt)
    ended_rose (suc j) on = absurd (cc on)

-- of the one replica of the one volume
of_one : (P : ℕ → ℕ → Type 0) → P 0 0 → (v j : ℕ) → v < 1 → j < 1 → P v j
of_one P here v j below within = of_first (λ v. P v j) (of_first (P 0) here j within) v below

store : IsOf one before
store = record {
  volumes = refl;
  replicas = of_first (λ v. length (volume_at before v).replicas ≡ 1) refl;
  homes = (lit< tt, tt);
  pending = λ pending there. cc;
}

regular : IsRegular one before
regular = record {
  machines = lit≤ tt;
  slots = refl;
  ends = of_one (λ v j. 64 ≤ (replica_at (volume_at before v) j).end) (lit≤ tt);
  numbers = of_one (λ v j. (run : Run) → (replica_at (volume_at before v) j).run ≡ Some run → (replica_at (volume_at before v) j).generation < LAST_GENERATION) (λ run there. lit< tt);
  runs = of_one (λ v j. (run : Run) → (replica_at (volume_at before v) j).run ≡ Some run → run.goal ≡ (replica_at (volume_at before v) j).generation + 1) (λ run there. cc);
}

whole_volumes : (v : ℕ) → WholeAt volume_lock (λ s. s.volumes v) 3 lasts (h.volumes v)
whole_volumes = of_each (λ v. WholeAt volume_lock (λ s. s.volumes v) 3 lasts (h.volumes v)) (record {
  below = (lit< tt, (lit< tt, (lit< tt, (lit< tt, (lit< tt, tt)))));
  seen = of_three behind_put behind_del behind_failed (λ lane s. IsPrefix (s.volumes 0).seen all) (_, refl) (_, refl) ([], refl);
  own = of_three behind_put behind_del behind_failed (λ lane s. acts_of (λ (act : VolumeAct). act.seat) lane all ≡ (s.volumes 0).own) refl refl refl;
  shown = of_three behind_put behind_del behind_failed (λ lane s. IsPrefix (s.volumes 0).shown (entries volume_lock all)) (_, refl) ([], refl) ([], refl);
}) (λ v. record {
  below = tt;
  seen = of_three behind_put behind_del behind_failed (λ lane s. IsPrefix (s.volumes (suc v)).seen []) ([], refl) ([], refl) ([], refl);
  own = of_three behind_put behind_del behind_failed (λ lane s. [] ≡ (s.volumes (suc v)).own) refl refl refl;
  shown = of_three behind_put behind_del behind_failed (λ lane s. IsPrefix (s.volumes (suc v)).shown []) ([], refl) ([], refl) ([], refl);
})

unowned : (v : ℕ) → (at_first.volumes v).own ≡ []
unowned = of_each (λ v. (at_first.volumes v).own ≡ []) refl (λ v. refl)

lines : Lines one start 3 firsts lasts items nothing_yet h before behind
lines = record {
  some = lit< tt;
  few = lit≤ tt;
  begins = lanes_begin firsts (of_three at_first at_first at_first (λ lane s. (v : ℕ) → (s.volumes v).own ≡ []) unowned unowned unowned)
      (of_three at_first at_first at_first (λ lane s. (s.directory).own ≡ []) refl refl refl);
  ends = record {
    many = refl;
    sound = sound;
    volumes = whole_volumes;
    directory = record {
      below = (lit< tt, tt);
      seen = of_three behind_put behind_del behind_failed (λ lane s. IsPrefix (s.directory).seen (adds ∷ [])) ([], refl) (_, refl) ([], refl);
      own = of_three behind_put behind_del behind_failed (λ lane s. acts_of (λ (act : DirAct). act.seat) lane (adds ∷ []) ≡ (s.directory).own) refl refl refl;
      shown = of_three behind_put behind_del behind_failed (λ lane s. IsPrefix (s.directory).shown (entries row_lock (adds ∷ []))) ([], refl) (_, refl) ([], refl);
    };
  };
  lines = record { notes = notes; low = (lit< tt, (lit< tt, (lit< tt, (lit< tt, (lit< tt, tt))))); each = each_lane; chain = chains };
  distinct = (
    ((λ e. omega (arith, e)), ((λ e. omega (arith, e)), ((λ e. omega (arith, e)), ((λ e. omega (arith, e)), tt)))),
    (
      ((λ e. omega (arith, e)), ((λ e. omega (arith, e)), ((λ e. omega (arith, e)), tt))),
      (((λ e. omega (arith, e)), ((λ e. omega (arith, e)), tt)), (((λ e. omega (arith, e)), tt), (tt, tt))),
    ),
  );
  from = store_opens one before store regular refl;
  last = record {
    stands = record {
      volumes = of_first (λ v. Agrees 1 (first_of one behind v) (stood start v (h.volumes v)))
          (record {
            volume = refl;
            faults = of_first (λ j. fault_count behind (slot_of one 0 j) ≡ (stood start 0 all).faults j) refl;
            fuses = of_first (λ j. fuse_count behind (slot_of one 0 j) ≡ (stood start 0 all).fuses j) refl;
          });
      rows = refl;
    };
    count = refl;
    fuse_slots = refl;
    fault_slots = refl;
    arm_slots = refl;
    other_arms = λ lane high. refl;
    faults_end = (omega arith, (omega arith, tt));
    arms_end = (omega arith, (omega arith, (omega arith, (omega arith, (omega arith, (omega arith, (omega arith, (omega arith, tt))))))));
  };
  arms_before = of_three at_first at_first at_first (λ lane s. s.arm ≡ arm_count before lane) refl refl refl;
  arms_behind = of_three behind_put behind_del behind_failed (λ lane s. s.arm ≡ arm_count behind lane) refl refl refl;
}

-- So it is legal, with these notes.
lanes_are_legal : LegalBlock one before items (record { volume = 0; from = 0; lines = 2 ∷ 3 ∷ [] } ∷ []) (record { from = 1; rows = record { line = 2; volume = 0 } ∷ [] }) behind
lanes_are_legal = (lanes_make_blocks one start 3 firsts lasts items nothing_yet h before behind lines (tt, (tt, (tt, (tt, (tt, tt)))))).0
