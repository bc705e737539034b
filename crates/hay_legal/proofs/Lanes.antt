-- A worked block of lanes, and blocks that are not legal.
use Rattle.std.specs.Prelude.{◌≡◌, ℕ, true, false, List, [], ◌∷◌, codes, refl, Option, Some, None, slice_index_or, slice_get, Contains}
use Rattle.std.specs.List.{AllByRecursion as Each, enumerate_from}
use Rattle.std.proofs.lemmas.Option.{same_Some}
use Rattle.hay_needle.specs.declared.needle.Outcome.{Outcome}
use Rattle.hay_needle.specs.declared.needle.Outcome.TheVariants as outcome
use Rattle.hay_needle.specs.Tables.{outcome_at}
use Rattle.hay_core.specs.declared.entry.Logged.{Logged}
use Rattle.std.proofs.Common.{sym, arith, lit≤, lit<, ap, subst, inl, inr, ◌∙◌}
use Rattle.std.specs.Fmt.{digits}
use Rattle.hay_url.proofs.Cookies.{cookie_of-zero}
use Rattle.hex.specs.Hex.{decode_pairs, encode_with}
use Rattle.hay_script.specs.declared.Command.TheVariants as command
use Rattle.hay_reply.specs.declared.Reply.TheVariants as reply
use Rattle.hay_reply.specs.declared.Reply.{Reply}
use Rattle.hay_core.specs.declared.entry.Entry.TheVariants as entry
use Rattle.hay_core.specs.declared.entry.Entry.{Entry}
use Rattle.hay_needle.specs.declared.needle.Cookie.{Cookie}
use Rattle.hay_legal.specs.declared.known.Known.{Known}
use Rattle.hay_legal.specs.declared.known.Pending.{Pending}
use Rattle.hay_legal.specs.declared.turn.Item.TheVariants as item
use Rattle.hay_legal.specs.declared.turn.LaneItem.{LaneItem}
use Rattle.hay_legal.specs.declared.turn.LogNote.{LogNote}
use Rattle.hay_legal.specs.declared.turn.RowNote.{RowNote}
use Rattle.hay_legal.specs.declared.turn.Turn.TheVariants.{Lanes}
use Rattle.hay_legal.specs.Known.{fresh_unharmed, empty_replica, empty_volume, volume_at, replica_at}
use Rattle.hay_legal.specs.Blocks.{LegalBlock, IsMade, MayHaveFrozen, acknowledged}
use Rattle.hay_legal.proofs.Steps.{one, pair, own, plain, none_falls, same_counts, Explains}

-- two puts of two lanes, in the order of their lines
abbrev both : Known
both = record (fresh_unharmed one) {
  volumes = record empty_volume {
    log = record { tag = record { lane = 0; line = 2 }; entry = entry.Put (pair 1) own (codes "a") }
        ∷ record { tag = record { lane = 1; line = 3 }; entry = entry.Put (pair 1) own (codes "b") } ∷ [];
    replicas = record empty_replica { end = 176; cells = 2; bare = 2 } ∷ [];
  } ∷ [];
  directory = record { rows = record { pair = pair 1; volume = 0 } ∷ []; frozen = false; pending = None };
}

abbrev put_line : ℕ → ℕ → List ℕ → Reply → LaneItem
put_line line lane bytes reply = record { line = line; lane = lane; item = item.Command (command.Put (pair 1) bytes); reply = reply }

abbrev put_a : LaneItem
put_a = put_line 2 0 (codes "a") (reply.Stored 0 1 1 own)

abbrev put_b : LaneItem
put_b = put_line 3 1 (codes "b") (reply.Stored 0 2 1 own)

abbrev read_c : LaneItem
read_c = record { line = 4; lane = 2; item = item.Command (command.Read (pair 1) own); reply = reply.Photo 0 0 1 1 (codes "a") }

abbrev lines : List LaneItem
lines = put_a ∷ put_b ∷ read_c ∷ []

abbrev entry_with : List ℕ → Cookie → Option Entry
entry_with bytes cookie = Some (entry.Put (pair 1) cookie bytes)

block : LegalBlock one (fresh_unharmed one) lines (record { volume = 0; from = 0; lines = 2 ∷ 3 ∷ [] } ∷ []) (record { from = 0; rows = record { line = 2; volume = 0 } ∷ [] }) both
block = record {
  notes = refl;
  entered = (
    (lit< tt, (_, refl, record { tag = refl; entry = ap (entry_with (codes "a")) cookie_of-zero })),
    (
      (lit< tt, (_, refl, record { tag = refl; entry = ap (entry_with (codes "b")) cookie_of-zero })),
      (tt, tt),
    ),
  );
  log = (
    record {
      kept = refl;
      made = (
        (put_a, (0, lit< tt, refl), refl, record { tag = refl; entry = ap (entry_with (codes "a")) cookie_of-zero }),
        (
          (put_b, (1, lit< tt, refl), refl, record { tag = refl; entry = ap (entry_with (codes "b")) cookie_of-zero }),
          tt,
        ),
      );
    },
    tt,
  );
  homes = record {
    kept = refl;
    from = refl;
    each = (
      record {
        volume = refl;
        item = put_a;
        among = (0, lit< tt, refl);
        line = refl;
        bytes = codes "a";
        put = refl;
        reply = tt;
        «open» = refl;
        gets = record { missing = refl; tried = (0, lit< tt, refl); takes = (refl, ((64, (lit≤ tt, lit≤ tt), lit≤ tt), tt)); before = tt };
      },
      tt,
    );
    distinct = (tt, tt);
  };
  fronts = record {
    volumes = (
      (((tt, tt), ((lit≤ tt, lit≤ tt), tt)), tt),
      (
        (((tt, tt), ((lit≤ tt, lit≤ tt), tt)), tt),
        ((((tt, tt), ((lit≤ tt, lit≤ tt), tt)), tt), (((tt, tt), tt), (((tt, tt), tt), (((tt, tt), tt), (((tt, tt), tt), (((tt, tt), tt), tt)))))),
      ),
    );
    directory = (
      (((lit≤ tt, tt), (tt, tt)), ((lit≤ tt, lit≤ tt), ((lit≤ tt, lit≤ tt), tt))),
      (
        ((tt, tt), ((lit≤ tt, lit≤ tt), tt)),
        (((tt, tt), ((lit≤ tt, lit≤ tt), tt)), ((tt, tt), ((tt, tt), ((tt, tt), ((tt, tt), ((tt, tt), tt)))))),
      ),
    );
  };
  pairs = (((λ e. absurd (omega (arith, e))), ((λ e. absurd (omega (arith, e))), tt)), (((λ e. absurd (omega (arith, e))), tt), (tt, tt)));
  lines = (
    (refl, sym cookie_of-zero, (refl, ((64, (lit≤ tt, lit≤ tt), lit≤ tt), tt))),
    (
      (refl, sym cookie_of-zero, (refl, ((64, (lit≤ tt, lit≤ tt), lit≤ tt), tt))),
      (record { home = refl; replica = 0; there = refl; stands = refl }, tt),
    ),
  );
  counts = record {
    faults = none_falls (fresh_unharmed one).faults;
    arms = none_falls (fresh_unharmed one).arms;
    to_arm = λ line j. false;
    as_printed = ((λ v p d causes is. absurd cc), ((λ v p d causes is. absurd cc), ((λ v p d causes is. absurd cc), tt)));
    disk = ((((tt, tt), inl (lit≤ tt), (tt, (tt, (tt, (tt, (tt, (tt, (tt, (tt, tt))))))))), tt), tt);
    directory = ((tt, tt), inl (lit≤ tt));
    arm = (
      ((tt, tt), inl (lit≤ tt)),
      (
        ((tt, tt), inl (lit≤ tt)),
        (
          ((tt, tt), inl (lit≤ tt)),
          (((tt, tt), inl (lit≤ tt)), (((tt, tt), inl (lit≤ tt)), (((tt, tt), inl (lit≤ tt)), (((tt, tt), inl (lit≤ tt)), (((tt, tt), inl (lit≤ tt)), tt))))),
        ),
      ),
    );
  };
  volumes = (
    record {
      many = refl;
      froze = None;
      freeze = (refl, refl);
      lanes = (((λ e met opened. omega (arith, e)), ((λ e met opened. omega (arith, e)), tt)), (((λ e met opened. omega (arith, e)), tt), (tt, tt)));
      settled = (((λ e met. absurd (omega (arith, e))), ((λ e met. absurd (omega (arith, e))), tt)), (((λ e met. absurd (omega (arith, e))), tt), (tt, tt)));
      counted = λ by m f is says. absurd cc;
      meetings = record {
        met = λ line. 0;
        fronts = (((tt, tt), ((lit≤ tt, lit≤ tt), tt)), (((tt, tt), ((lit≤ tt, lit≤ tt), tt)), (((tt, tt), ((lit≤ tt, lit≤ tt), tt)), ((tt, tt), ((tt, tt), ((tt, tt), ((tt, tt), ((tt, tt), tt))))))));
        room = (tt, (tt, (tt, tt)));
        records = (record { first = (tt, (tt, (tt, tt))); between = ((tt, (tt, tt)), ((tt, tt), (tt, tt))); last = (tt, (tt, (tt, tt))) }, tt);
      };
      replicas = (
        record {
          base = refl;
          generations = record { inside_range = tt; once = tt; all = refl; last = λ less. omega (arith, less); rising = (tt, (tt, (tt, (tt, (tt, (tt, (tt, (tt, tt)))))))) };
          sizes = inl (refl, refl, refl);
          room = inr (lit≤ tt);
          bare = ((λ e. lit≤ tt), inl (refl, refl));
          run = inl (refl, refl);
          stuck = inl (refl, refl);
          index = record {
            before = ((λ e loose. absurd loose), ((λ e loose. absurd loose), ((λ e loose. absurd loose), tt)));
            between = (((λ e met loose. absurd loose), ((λ e met loose. absurd loose), tt)), (((λ e met loose. absurd loose), tt), (tt, tt)));
            behind = ((λ e sticks. absurd sticks), ((λ e sticks. absurd sticks), ((λ e sticks. absurd sticks), tt)));
            once = lit≤ tt;
          };
          poised = refl;
        },
        tt,
      );
    },
    tt,
  );
  directory = inl (refl, refl);
  drained = refl;
  fuses = refl;
  many = refl;
}

row_15 : Explains one (fresh_unharmed one)
    (codes "lanes 3\n0 put 0 1 61\n1 put 0 1 62\n2 read 0 1 903df1a0ade0b876\nend\nread 0 1 903df1a0ade0b876")
    (codes "haystack 1 1 1 67108864\n2 stored 0 1 1 903df1a0ade0b876\n3 stored 0 2 1 903df1a0ade0b876\n4 photo 0 0 1 1 61\nlog 0 0 2 3\nrows 0 2:0\n6 photo 0 0 2 1 62\n")
unfolding decode_pairs encode_with digits
row_15 = record {
  turns = Lanes lines (record { volume = 0; from = 0; lines = 2 ∷ 3 ∷ [] } ∷ []) (record { from = 0; rows = record { line = 2; volume = 0 } ∷ [] }) both
      ∷ plain 6 (command.Read (pair 1) own) (reply.Photo 0 0 2 1 (codes "b")) both ∷ [];
  t = both;
  items = refl;
  legal =
      (block, (record { seen = record { home = refl; front = refl; rows = refl }; replica = 0; there = refl; stands = refl; passed = inl (lit≤ tt); leaves = same_counts both both refl refl }, refl));
  text = refl;
}

-- a put that failed and froze its volume, and what met the freeze in other lanes
abbrev frozen : Known
frozen = record (fresh_unharmed one) {
  volumes = record empty_volume {
    frozen = Some 0;
    pending = Some (record { tag = record { lane = 0; line = 2 }; entry = entry.Put (pair 1) own (codes "a"); failed = true });
    replicas = empty_replica ∷ [];
  } ∷ [];
  directory = record { rows = record { pair = pair 1; volume = 0 } ∷ []; frozen = false; pending = None };
  faults = 0 ∷ 1 ∷ [];
}

abbrev put_failed : LaneItem
put_failed = put_line 2 0 (codes "a") (reply.Failed 0 0 1)

abbrev put_refused : LaneItem
put_refused = put_line 3 1 (codes "b") (reply.ReadOnly (record { volume = 0; machine = 0 } ∷ []))

abbrev flush_refused : LaneItem
flush_refused = record { line = 4; lane = 2; item = item.Command (command.Flush 0 0); reply = reply.ReadOnly (record { volume = 0; machine = 0 } ∷ []) }

abbrev met_freeze : List LaneItem
met_freeze = put_failed ∷ put_refused ∷ flush_refused ∷ []

abbrev left_pending : Cookie → Option Pending
left_pending cookie = Some (record { tag = record { lane = 0; line = 2 }; entry = entry.Put (pair 1) cookie (codes "a"); failed = true })

freezing_block : LegalBlock one (fresh_unharmed one) met_freeze [] (record { from = 0; rows = record { line = 2; volume = 0 } ∷ [] }) frozen
freezing_block = record {
  notes = refl;
  entered = (tt, (tt, (tt, tt)));
  log = (record { kept = refl; made = tt }, tt);
  homes = record {
    kept = refl;
    from = refl;
    each = (
      record {
        volume = refl;
        item = put_failed;
        among = (0, lit< tt, refl);
        line = refl;
        bytes = codes "a";
        put = refl;
        reply = tt;
        «open» = refl;
        gets = record { missing = refl; tried = (0, lit< tt, refl); takes = (refl, ((64, (lit≤ tt, lit≤ tt), lit≤ tt), tt)); before = tt };
      },
      tt,
    );
    distinct = (tt, tt);
  };
  fronts = record {
    volumes = (((tt, tt), tt), (((tt, tt), tt), (((tt, tt), tt), (((tt, tt), tt), (((tt, tt), tt), (((tt, tt), tt), (((tt, tt), tt), (((tt, tt), tt), tt))))))));
    directory = (((tt, tt), ((lit≤ tt, lit≤ tt), tt)), ((tt, tt), ((tt, tt), ((tt, tt), ((tt, tt), ((tt, tt), ((tt, tt), ((tt, tt), tt))))))));
  };
  pairs = (((λ e. absurd (omega (arith, e))), ((λ e. absurd (omega (arith, e))), tt)), (((λ e. absurd (omega (arith, e))), tt), (tt, tt)));
  lines = (
    ((1, lit≤ tt, lit≤ tt, refl), (0, refl), (refl, ((64, (lit≤ tt, lit≤ tt), lit≤ tt), tt)), (refl, ap left_pending (sym cookie_of-zero))),
    (inr (0, (1, lit≤ tt, lit≤ tt, refl), (refl, inr refl)), (inl (refl, refl), tt)),
  );
  counts = record {
    faults = (lit≤ tt, (lit≤ tt, tt));
    arms = none_falls (fresh_unharmed one).arms;
    to_arm = λ line j. false;
    as_printed = ((λ v p d causes is. absurd cc), ((λ v p d causes is. absurd cc), ((λ v p d causes is. absurd cc), tt)));
    disk = ((((((inl (lit< tt), lit≤ tt), tt), (tt, tt)), inl (lit≤ tt), ((tt, tt), (tt, (tt, (tt, (tt, (tt, (tt, (tt, tt))))))))), tt), tt);
    directory = ((tt, tt), inl (lit≤ tt));
    arm = (
      ((tt, tt), inl (lit≤ tt)),
      (
        ((tt, tt), inl (lit≤ tt)),
        (
          ((tt, tt), inl (lit≤ tt)),
          (((tt, tt), inl (lit≤ tt)), (((tt, tt), inl (lit≤ tt)), (((tt, tt), inl (lit≤ tt)), (((tt, tt), inl (lit≤ tt)), (((tt, tt), inl (lit≤ tt)), tt))))),
        ),
      ),
    );
  };
  volumes = (
    record {
      many = refl;
      froze = Some put_failed;
      freeze = record {
        among = (0, lit< tt, refl);
        «open» = refl;
        machine = 0;
        frozen = refl;
        change = Some (entry.Put (pair 1) own (codes "a"));
        freezes = ((refl, refl), ap (entry_with (codes "a")) (sym cookie_of-zero));
        pending = refl;
      };
      lanes = (((λ e met opened. omega (arith, e)), ((λ e met opened. omega (arith, e)), tt)), (((λ e met opened. omega (arith, e)), tt), (tt, tt)));
      settled = (((λ e met. absurd (omega (arith, e))), ((λ e met. absurd (omega (arith, e))), tt)), (((λ e met. absurd (omega (arith, e))), tt), (tt, tt)));
      counted = λ by m f is says. ((λ g apart said. absurd (apart (ap (λ (x : LaneItem). x.line) (same_Some put_failed by is)))), ((λ g apart said. absurd cc), ((λ g apart said. absurd cc), tt)));
      meetings = record {
        met = λ line. 0;
        fronts = ((tt, tt), ((tt, tt), ((tt, tt), ((tt, tt), ((tt, tt), ((tt, tt), ((tt, tt), ((tt, tt), tt))))))));
        room = (tt, (tt, (tt, tt)));
        records = (record { first = (tt, (tt, (tt, tt))); between = ((tt, (tt, tt)), ((tt, tt), (tt, tt))); last = (tt, (tt, (tt, tt))) }, tt);
      };
      replicas = (
        record {
          base = refl;
          generations = record { inside_range = tt; once = tt; all = refl; last = λ less. omega (arith, less); rising = (tt, (tt, (tt, (tt, (tt, (tt, (tt, (tt, tt)))))))) };
          sizes = inl (refl, refl, refl);
          room = inr (lit≤ tt);
          bare = ((λ e. lit≤ tt), inl (refl, refl));
          run = inl (refl, refl);
          stuck = inl (refl, refl);
          index = record {
            before = ((λ e loose. absurd loose), ((λ e loose. absurd loose), ((λ e loose. absurd loose), tt)));
            between = (((λ e met loose. absurd loose), ((λ e met loose. absurd loose), tt)), (((λ e met loose. absurd loose), tt), (tt, tt)));
            behind = ((λ e sticks. absurd sticks), ((λ e sticks. absurd sticks), ((λ e sticks. absurd sticks), tt)));
            once = lit≤ tt;
          };
          poised = refl;
        },
        tt,
      );
    },
    tt,
  );
  directory = inl (refl, refl);
  drained = refl;
  fuses = refl;
  many = refl;
}

-- BLOCKS THAT ARE NOT LEGAL

abbrev alone : Reply → List LaneItem
alone reply = put_line 2 0 (codes "a") reply ∷ []

the_only : (reply : Reply) (item : LaneItem) → Contains (alone reply) item → put_line 2 0 (codes "a") reply ≡ item
the_only reply item among =
    let at : among.0 ≡ 0 = omega (arith, among.1) in
    subst (λ k. slice_index_or (alone reply) k item ≡ item) at among.2

position_in : Option (ℕ × ℕ) → ℕ
position_in None = 0
position_in (Some at) = at.1

-- a position that skips one
skips : (log : List Logged) (logged : Logged) → slice_get log 1 ≡ Some logged
    → Each (IsMade one (alone (reply.Stored 0 2 1 own)) 0) (enumerate_from 1 log) → ⊥
unfolding position_in
skips [] logged e made = cc
skips (first ∷ log) logged e made =
    let m = made.0 in
    let same : put_line 2 0 (codes "a") (reply.Stored 0 2 1 own) ≡ m.0 = the_only (reply.Stored 0 2 1 own) m.0 m.1 in
    let said : Some (0, 2) ≡ Some (0, 1) = ap (λ i. acknowledged i.reply) same ∙ m.2 in
    let e : 2 ≡ 1 = ap position_in said in
    omega (arith, e)

position_skipped : (logs : List LogNote) (rows : RowNote) (t : Known) → LegalBlock one (fresh_unharmed one) (alone (reply.Stored 0 2 1 own)) logs rows t → ⊥
position_skipped logs rows t b = skips _ _ (b.entered.0).1.1 (b.log.0).made

-- the Directory frozen by nothing
no_freeze : (logs : List LogNote) (rows : RowNote) (t : Known) → LegalBlock one (fresh_unharmed one) (alone reply.ReadOnlyDir) logs rows t → ⊥
no_freeze logs rows t b =
    elim b.directory [
      | inl same ↦ let clash : true ≡ false = sym (b.lines.0).1 ∙ same.0 in absurd cc
      | inr froze ↦
          let same : put_line 2 0 (codes "a") reply.ReadOnlyDir ≡ froze.item = the_only reply.ReadOnlyDir froze.item froze.among in
          subst (λ i. MayHaveFrozen i.reply) (sym same) froze.reply
    ]

abbrev reads : List LaneItem
reads = record { line = 2; lane = 0; item = item.Command (command.Read (pair 1) own); reply = reply.Photo 0 0 0 1 (codes "a") } ∷ []

-- a photo at a front at which nothing stood
is_photo : Outcome → ℕ
is_photo outcome.Nothing = 0
is_photo (outcome.Photo photo) = 1

photo_too_early : (logs : List LogNote) (rows : RowNote) (t : Known) → LegalBlock one (fresh_unharmed one) reads logs rows t → ⊥
unfolding is_photo
photo_too_early logs rows t b =
    let shown = b.lines.0 in
    let j : shown.replica ≡ 0 = cc in
    let base : (replica_at (volume_at t 0) 0).base ≡ [] = (((b.volumes.0).replicas).0).base in
    let stands : outcome_at (replica_at (volume_at t 0) 0).base (pair 1) ≡ outcome.Photo (record { cookie = own; bytes = codes "a" }) =
    subst (λ i. outcome_at (replica_at (volume_at t 0) i).base (pair 1) ≡ outcome.Photo (record { cookie = own; bytes = codes "a" })) j shown.stands in
    let nothing : outcome.Nothing ≡ outcome.Photo (record { cookie = own; bytes = codes "a" }) =
    subst (λ table. outcome_at table (pair 1) ≡ outcome.Photo (record { cookie = own; bytes = codes "a" })) base stands in
    let e : 0 ≡ 1 = ap is_photo nothing in
    omega (arith, e)
