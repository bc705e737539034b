-- Two worked plain turns on three machines, of two volumes with two replicas each: machine 1 is drained, and then a put is refused, since
-- each volume has a replica there.
use Rattle.std.specs.Prelude.{◌≡◌, ℕ, zero, suc, ◌<◌, ◌≤◌, ◌==◌, ◌+◌, true, false, filter, List, [], ◌∷◌, codes, refl, Some, slice_get}
use Rattle.std.proofs.Common.{sym, ap, subst, arith, lit≤, lit<, inl}
use Rattle.std.proofs.lemmas.Bool.{eq-eqb, ne_eqb}
use Rattle.hay_needle.specs.declared.settings.Settings.{Settings}
use Rattle.hay_needle.specs.declared.settings.TheConstants.{LAST_GENERATION}
use Rattle.hay_script.specs.declared.Command.TheVariants as command
use Rattle.hay_reply.specs.declared.Reply.TheVariants as reply
use Rattle.hay_legal.specs.declared.known.Known.{Known}
use Rattle.hay_legal.specs.declared.known.Run.{Run}
use Rattle.hay_legal.specs.declared.turn.LaneItem.{LaneItem}
use Rattle.hay_legal.specs.Known.{arm_count, fresh_unharmed, replica_at, volume_at}
use Rattle.hay_legal.specs.Plain.{LegalPlain}
use Rattle.hay_legal.proofs.Steps.{pair, shaped}
use Rattle.hay_legal.proofs.Subject.Entries.{is_of-fresh}
use Rattle.hay_history.proofs.Worked.{line_of, tag}
use Rattle.hay_meeting.specs.declared.act.DirAct.{DirAct}
use Rattle.hay_meeting.specs.declared.act.DirDid.TheVariants as did_row
use Rattle.hay_meeting.specs.Acts.{AreSound, Happened, Start, row_lock, volume_lock}
use Rattle.hay_meeting.specs.Chains.{IsChain, IsWhole, Lines, Note, StoreAt, items_of}
use Rattle.hay_meeting.specs.Locks.{LockSight}
use Rattle.hay_meeting.specs.Replies.{DidHere}
use Rattle.hay_meeting.specs.Sights.{Doings, Sight, Work}
use Rattle.hay_meeting.proofs.Meeting.{a_line_makes_a_plain_turn}
use Rattle.hay_meeting.proofs.Opening.{lanes_begin, nothing_yet, opened_at, store_opens}
use Rattle.hay_meeting.proofs.Phases.{only_saw}
use Rattle.hay_meeting.proofs.Replying.{goes_on}

abbrev six : Settings
six = shaped 3 2 2

abbrev before : Known
before = fresh_unharmed six

abbrev drained : Known
drained = record before { drained = false ∷ true ∷ false ∷ [] }

abbrev start : Start
start = opened_at six before

abbrev drains : DirAct
drains = record { seat = 0; tag = tag 0 1; did = did_row.Drains 1 true; faults = 0; fuses = 0 }

abbrev h : Happened
h = record { volumes = λ v. []; directory = drains ∷ [] }

abbrev nothing : {E X : Type 0} → LockSight E X
nothing = record { seen = []; own = []; shown = [] }

abbrev at_first : Sight
at_first = record { volumes = λ v. nothing; directory = nothing; arm = 0 }

abbrev behind_drain : Sight
behind_drain = record { volumes = λ v. nothing; directory = record { seen = drains ∷ []; own = drains ∷ []; shown = [] }; arm = 0 }

abbrev drain : LaneItem
drain = line_of 0 1 (command.Drain 1) (reply.Drained 1)

abbrev put : LaneItem
put = line_of 0 2 (command.Put (pair 0) (codes "a")) (reply.ReadOnly (record { volume = 0; machine = 1 } ∷ record { volume = 1; machine = 1 } ∷ []))

-- of one lane
of_one_lane : {A : Type 0} (x : A) (P : ℕ → A → Type 0) → P 0 x → (lane : ℕ) (s : A) → slice_get (x ∷ []) lane ≡ Some s → P lane s
of_one_lane x P p zero s at = subst (P 0) (cc at) p
of_one_lane x P p (suc lane) s at = absurd (cc at)

abbrev on_first : List Note → ℕ → List Note
on_first notes zero = notes
on_first notes (suc lane) = []

each_lane : (item : LaneItem) (note : Note) → item.lane ≡ 0 → note.item ≡ item → (lane : ℕ) → filter (λ (i : LaneItem). i.lane == lane) (item ∷ []) ≡ items_of (on_first (note ∷ []) lane)
each_lane item note first is zero = rw (eq-eqb item.lane 0 first) (ap (λ (i : LaneItem). i ∷ []) (sym is))
each_lane item note first is (suc lane) = rw (ne_eqb item.lane (suc lane) (λ e. omega (arith, e, first))) refl

-- THE DRAIN

abbrev drain_doings : Doings
drain_doings = record { volumes = λ v. []; rows = record { held = []; act = drains } ∷ [] }

drain_work : Work drain at_first behind_drain drain_doings
drain_work = record {
  volumes = λ v. only_saw volume_lock (record { seen = ([], refl); shown = ([], refl) }) refl;
  directory = record {
    later = record { seen = (_, refl); shown = ([], refl) };
    own = refl;
    rises = (([], refl), tt);
    each = (record { from = ([], refl); shown_from = ([], refl); to = ([], refl); shown_to = ([], refl) }, tt);
    tags = (refl, tt);
    seats = (refl, tt);
  };
  arm = lit≤ tt;
}

drain_did : DidHere six start before.drained drain at_first behind_drain drain_doings drain.item drain.reply
drain_did = (refl, lit< tt, ((λ v. refl), record { one = record { held = []; act = drains }; only = refl; is = refl }))

sound : AreSound six start h
sound = record {
  follows = λ v below. tt;
  sized = λ v below. tt;
  follows_rows = (refl, lit≤ tt, (refl, refl), tt);
}

whole : IsWhole six start 1 (behind_drain ∷ []) h
whole = record {
  many = refl;
  sound = sound;
  volumes = λ v. record { below = tt; seen = of_one_lane behind_drain _ ([], refl); own = of_one_lane behind_drain _ refl; shown = of_one_lane behind_drain _ ([], refl) };
  directory = record { below = (lit< tt, tt); seen = of_one_lane behind_drain _ ([], refl); own = of_one_lane behind_drain _ refl; shown = of_one_lane behind_drain _ ([], refl) };
}

store_first : StoreAt six start before nothing_yet
store_first = store_opens six before (is_of-fresh six) (record {
  machines = lit≤ tt;
  slots = refl;
  ends = each_replica (λ v j. 64 ≤ (replica_at (volume_at before v) j).end) (lit≤ tt) (lit≤ tt) (lit≤ tt) (lit≤ tt);
  numbers =
      each_replica (λ v j. (run : Run) → (replica_at (volume_at before v) j).run ≡ Some run → (replica_at (volume_at before v) j).generation < LAST_GENERATION) (λ run there. lit< tt)
      (λ run there. lit< tt) (λ run there. lit< tt) (λ run there. lit< tt);
  runs =
      each_replica (λ v j. (run : Run) → (replica_at (volume_at before v) j).run ≡ Some run → run.goal ≡ (replica_at (volume_at before v) j).generation + 1) (λ run there. cc)
      (λ run there. cc) (λ run there. cc) (λ run there. cc);
}) refl
  where
    -- of two volumes with two replicas each
    below_two : (P : ℕ → Type 0) → P 0 → P 1 → (n : ℕ) → n < 2 → P n
    below_two P p q zero below = p
    below_two P p q (suc zero) below = q
    below_two P p q (suc (suc n)) below = absurd (omega (arith, below))

    each_replica : (P : ℕ → ℕ → Type 0) → P 0 0 → P 0 1 → P 1 0 → P 1 1 → (v j : ℕ) → v < 2 → j < 2 → P v j
    each_replica P a b c d v j below within = below_two (λ v. P v j) (below_two (P 0) a b j within) (below_two (P 1) c d j within) v below

drain_lines : Lines six start 1 (at_first ∷ []) (behind_drain ∷ []) (drain ∷ []) nothing_yet h before drained
drain_lines = record {
  some = lit< tt;
  few = lit≤ tt;
  from = store_first;
  begins = lanes_begin (at_first ∷ []) (of_one_lane at_first (λ lane s. (v : ℕ) → (s.volumes v).own ≡ []) (λ v. refl)) (of_one_lane at_first (λ lane s. (s.directory).own ≡ []) refl);
  arms_before = of_one_lane at_first (λ lane s. s.arm ≡ arm_count before lane) refl;
  lines = record {
    notes = on_first (record { item = drain; before = at_first; after = behind_drain } ∷ []);
    low = (lit< tt, tt);
    each = each_lane drain (record { item = drain; before = at_first; after = behind_drain }) refl refl;
    chain = λ lane a b at_a at_b.
        of_one_lane at_first (λ lane a. slice_get (behind_drain ∷ []) lane ≡ Some b → IsChain six start before.drained lane a
        (on_first (record { item = drain; before = at_first; after = behind_drain } ∷ []) lane) b)
        (λ at. (refl, refl, goes_on _ (record { doings = drain_doings; work = drain_work; did = drain_did }), sym (cc at))) lane a at_a at_b;
  };
  distinct = (tt, tt);
  ends = whole;
  arms_behind = of_one_lane behind_drain (λ lane s. s.arm ≡ arm_count drained lane) refl;
  last = record {
    stands = record { volumes = λ v below. record { volume = refl; faults = λ j within. refl; fuses = λ j within. refl }; rows = refl };
    count = refl;
    fuse_slots = refl;
    fault_slots = refl;
    arm_slots = refl;
    other_arms = λ lane high. refl;
    faults_end = (omega arith, (omega arith, (omega arith, (omega arith, (omega arith, tt)))));
    arms_end = (omega arith, (omega arith, (omega arith, (omega arith, (omega arith, (omega arith, (omega arith, (omega arith, tt))))))));
  };
}

pub drain_is_legal : LegalPlain six before 1 drain.item drain.reply drained × StoreAt six start drained h
drain_is_legal = a_line_makes_a_plain_turn six start 1 (at_first ∷ []) (behind_drain ∷ []) drain nothing_yet h before drained drain_lines refl

-- THE PUT

abbrev no_doings : Doings
no_doings = record { volumes = λ v. []; rows = [] }

put_work : Work put behind_drain behind_drain no_doings
put_work = record {
  volumes = λ v. only_saw volume_lock (record { seen = ([], refl); shown = ([], refl) }) refl;
  directory = only_saw row_lock (record { seen = ([], refl); shown = ([], refl) }) refl;
  arm = lit≤ tt;
}

put_did : DidHere six start drained.drained put behind_drain behind_drain no_doings put.item put.reply
put_did = record {
  row = inl refl;
  nothing = λ v. refl;
  because = inl (
    (
      (0, record { sight = behind_drain.directory; from = record { seen = ([], refl); shown = ([], refl) }; to = record { seen = ([], refl); shown = ([], refl) }; front = refl; is = refl }),
      (
        record { below = lit< tt; held = []; between = record { from = ([], refl); shown_from = ([], refl); to = ([], refl); shown_to = ([], refl) }; is = refl },
        (record { below = lit< tt; held = []; between = record { from = ([], refl); shown_from = ([], refl); to = ([], refl); shown_to = ([], refl) }; is = refl }, tt),
      ),
    ),
    refl,
  );
}

put_lines : Lines six start 1 (behind_drain ∷ []) (behind_drain ∷ []) (put ∷ []) h h drained drained
put_lines = record {
  some = lit< tt;
  few = lit≤ tt;
  from = drain_is_legal.1;
  begins = record {
    many = refl;
    volumes = λ v. record { seen = of_one_lane behind_drain _ ([], refl); own = of_one_lane behind_drain _ refl; shown = of_one_lane behind_drain _ ([], refl) };
    directory = record { seen = of_one_lane behind_drain _ ([], refl); own = of_one_lane behind_drain _ refl; shown = of_one_lane behind_drain _ ([], refl) };
  };
  arms_before = of_one_lane behind_drain (λ lane s. s.arm ≡ arm_count drained lane) refl;
  lines = record {
    notes = on_first (record { item = put; before = behind_drain; after = behind_drain } ∷ []);
    low = (lit< tt, tt);
    each = each_lane put (record { item = put; before = behind_drain; after = behind_drain }) refl refl;
    chain = λ lane a b at_a at_b.
        of_one_lane behind_drain (λ lane a. slice_get (behind_drain ∷ []) lane ≡ Some b → IsChain six start drained.drained lane a
        (on_first (record { item = put; before = behind_drain; after = behind_drain } ∷ []) lane) b)
        (λ at. (refl, refl, goes_on _ (record { doings = no_doings; work = put_work; did = put_did }), sym (cc at))) lane a at_a at_b;
  };
  distinct = (tt, tt);
  ends = whole;
  arms_behind = of_one_lane behind_drain (λ lane s. s.arm ≡ arm_count drained lane) refl;
  last = record {
    stands = (drain_is_legal.1).stands;
    count = refl;
    fuse_slots = refl;
    fault_slots = refl;
    arm_slots = refl;
    other_arms = λ lane high. refl;
    faults_end = (omega arith, (omega arith, (omega arith, (omega arith, (omega arith, tt)))));
    arms_end = (omega arith, (omega arith, (omega arith, (omega arith, (omega arith, (omega arith, (omega arith, (omega arith, tt))))))));
  };
}

pub put_is_legal : LegalPlain six drained 2 put.item put.reply drained × StoreAt six start drained h
put_is_legal = a_line_makes_a_plain_turn six start 1 (behind_drain ∷ []) (behind_drain ∷ []) put h h drained drained put_lines refl
