-- Worked transcripts, each explained by legal turns.
use Rattle.std.specs.Prelude.{◌≡◌, ◌≢◌, ℕ, zero, suc, ◌<◌, true, false, List, [], ◌∷◌, codes, replicate, refl, Some, None, slice_get}
use Rattle.std.proofs.Common.{sym, arith, lit≤, lit<, ap, inl, inr}
use Rattle.std.specs.Fmt.{digits}
use Rattle.hay_url.proofs.Cookies.{cookie_of-zero}
use Rattle.hex.specs.Hex.{decode_pairs, encode_with}
use Rattle.hay_script.specs.declared.Command.TheVariants as command
use Rattle.hay_reply.specs.declared.Reply.TheVariants as reply
use Rattle.hay_reply.specs.declared.Note.TheVariants as note
use Rattle.hay_reply.specs.declared.Cause.TheVariants as cause
use Rattle.hay_reply.specs.declared.Refused.TheVariants as refused
use Rattle.hay_needle.specs.Tables.{Table}
use Rattle.hay_needle.specs.declared.needle.Cookie.{Cookie}
use Rattle.hay_legal.specs.declared.known.Known.{Known}
use Rattle.hay_legal.specs.declared.turn.Turn.TheVariants.{Restart}
use Rattle.hay_legal.specs.Known.{fresh_unharmed, empty_replica, empty_volume}
use Rattle.hay_legal.specs.Plain.{change_replica, put_frozen, row_pending, with_run, swapped, poised_by, with_bare, with_fuses, with_drain}
use Rattle.hay_legal.proofs.Steps.{shaped, one, pair, own, at_line, plain, put_on, del_on, with_faults, none_falls, same_counts, more_faults, more_arms, Explains}

abbrev photo_alone : List ℕ → Cookie → Table
photo_alone bytes cookie = (pair 1, record { cookie = cookie; bytes = bytes }) ∷ []

not_zero : own ≢ record { 0 = 0 }
not_zero e = let n : 0x903df1a0ade0b876 ≡ 0 = ap (λ c. c.0) e in omega (arith, n)

no_less : (j : ℕ) → j < 0 → ⊥
no_less j h = omega (arith, h)

two_only : (j : ℕ) → 1 < j → j < 2 → ⊥
two_only j h l = omega (arith, h, l)

true_below_one : (j : ℕ) → j < 1 → slice_get (true ∷ false ∷ []) j ≡ Some true
true_below_one zero h = refl
true_below_one (suc j) h = absurd (omega (arith, h))

one_only : (j : ℕ) → 0 < j → j < 1 → ⊥
one_only j h l = omega (arith, h, l)

abbrev row_1_1 : Known
row_1_1 = put_on (fresh_unharmed one) 0 1 1 (codes "hello")

row_1 : Explains one (fresh_unharmed one)
    (codes "put 0 1 68656c6c6f\nread 0 1 903df1a0ade0b876")
    (codes "haystack 1 1 1 67108864\n1 stored 0 1 1 903df1a0ade0b876\n2 photo 0 0 1 1 68656c6c6f\n")
unfolding decode_pairs encode_with digits
row_1 = record {
  turns = plain 1 (command.Put (pair 1) (codes "hello")) (reply.Stored 0 1 1 own) row_1_1
      ∷ plain 2 (command.Read (pair 1) own) (reply.Photo 0 0 1 1 (codes "hello")) row_1_1 ∷ [];
  t = row_1_1;
  items = refl;
  legal = (
    record { taker = refl; directory = λ missing. refl; own = sym cookie_of-zero; position = refl; rows = refl; leaves = same_counts (fresh_unharmed one) row_1_1 refl refl },
    (record { seen = record { home = refl; front = refl; rows = refl }; replica = 0; there = refl; stands = refl; passed = inl (lit≤ tt); leaves = same_counts row_1_1 row_1_1 refl refl }, refl),
  );
  text = refl;
}

abbrev row_5_1 : Known
row_5_1 = put_on (fresh_unharmed one) 0 1 1 (codes "a")

abbrev row_5_2 : Known
row_5_2 = put_on row_5_1 0 2 1 (codes "b")

abbrev row_5_3 : Known
row_5_3 = del_on row_5_2 0 4 1

row_5 : Explains one (fresh_unharmed one)
    (codes "put 0 1 61\nput 0 1 62\nread 0 1 903df1a0ade0b876\ndel 0 1\nread 0 1 903df1a0ade0b876\ndel 0 1")
    (codes "haystack 1 1 1 67108864\n1 stored 0 1 1 903df1a0ade0b876\n2 stored 0 2 1 903df1a0ade0b876\n3 photo 0 0 2 1 62\n4 deleted 0 3 1\n5 gone 0 0 3 1\n6 gone 0 3 1\n")
unfolding decode_pairs encode_with digits
row_5 = record {
  turns = plain 1 (command.Put (pair 1) (codes "a")) (reply.Stored 0 1 1 own) row_5_1
      ∷ plain 2 (command.Put (pair 1) (codes "b")) (reply.Stored 0 2 1 own) row_5_2
      ∷ plain 3 (command.Read (pair 1) own) (reply.Photo 0 0 2 1 (codes "b")) row_5_2
      ∷ plain 4 (command.Del (pair 1)) (reply.Deleted 0 3 1) row_5_3
      ∷ plain 5 (command.Read (pair 1) own) (reply.Gone 0 0 3 1) row_5_3
      ∷ plain 6 (command.Del (pair 1)) (reply.Absent 0 3 1) row_5_3 ∷ [];
  t = row_5_3;
  items = refl;
  legal = (
    record { taker = refl; directory = λ missing. refl; own = sym cookie_of-zero; position = refl; rows = refl; leaves = same_counts (fresh_unharmed one) row_5_1 refl refl },
    (
      record { taker = refl; directory = λ missing. refl; own = sym cookie_of-zero; position = refl; rows = refl; leaves = same_counts row_5_1 row_5_2 refl refl },
      (
        record { seen = record { home = refl; front = refl; rows = refl }; replica = 0; there = refl; stands = refl; passed = inl (lit≤ tt); leaves = same_counts row_5_2 row_5_2 refl refl },
        (
          record { home = record { home = refl; «open» = refl; rows = refl }; stood = refl; position = refl; ended = []; cause = λ j e. cc; leaves = same_counts row_5_2 row_5_3 refl refl },
          (
            record { seen = record { home = refl; front = refl; rows = refl }; replica = 0; there = refl; stands = refl; passed = inl (lit≤ tt); leaves = same_counts row_5_3 row_5_3 refl refl },
            (record { home = record { home = refl; «open» = refl; rows = refl }; nothing = refl; front = refl; leaves = same_counts row_5_3 row_5_3 refl refl }, refl),
          ),
        ),
      ),
    ),
  );
  text = refl;
}

abbrev row_6_1 : Known
row_6_1 = put_on (fresh_unharmed one) 0 1 1 (codes "a")

abbrev row_6_2 : Known
row_6_2 = del_on row_6_1 0 3 1

row_6 : Explains one (fresh_unharmed one)
    (codes "put 0 1 61\nread 0 1 0\ndel 0 1\nread 0 1 0\nread 5 1 0")
    (codes "haystack 1 1 1 67108864\n1 stored 0 1 1 903df1a0ade0b876\n2 wrong cookie 0 0 1 1\n3 deleted 0 2 1\n4 gone 0 0 2 1\n5 unknown 1\n")
unfolding decode_pairs encode_with digits
row_6 = record {
  turns = plain 1 (command.Put (pair 1) (codes "a")) (reply.Stored 0 1 1 own) row_6_1
      ∷ plain 2 (command.Read (pair 1) (record { 0 = 0 })) (reply.WrongCookie 0 0 1 1) row_6_1
      ∷ plain 3 (command.Del (pair 1)) (reply.Deleted 0 2 1) row_6_2
      ∷ plain 4 (command.Read (pair 1) (record { 0 = 0 })) (reply.Gone 0 0 2 1) row_6_2
      ∷ plain 5 (command.Read (record { key = 5; alt = 1 }) (record { 0 = 0 })) (reply.Unknown 1) row_6_2 ∷ [];
  t = row_6_2;
  items = refl;
  legal = (
    record { taker = refl; directory = λ missing. refl; own = sym cookie_of-zero; position = refl; rows = refl; leaves = same_counts (fresh_unharmed one) row_6_1 refl refl },
    (
      (
        own,
        (codes "a"),
        not_zero,
        record {
          seen = record { home = refl; front = refl; rows = refl };
          replica = 0;
          there = refl;
          stands = refl;
          passed = inl (lit≤ tt);
          leaves = same_counts row_6_1 row_6_1 refl refl;
        },
      ),
      (
        record { home = record { home = refl; «open» = refl; rows = refl }; stood = refl; position = refl; ended = []; cause = λ j e. cc; leaves = same_counts row_6_1 row_6_2 refl refl },
        (
          record { seen = record { home = refl; front = refl; rows = refl }; replica = 0; there = refl; stands = refl; passed = inl (lit≤ tt); leaves = same_counts row_6_2 row_6_2 refl refl },
          (((refl, refl), same_counts row_6_2 row_6_2 refl refl), refl),
        ),
      ),
    ),
  );
  text = refl;
}

abbrev row_8_1 : Known
row_8_1 = put_on (fresh_unharmed one) 0 1 1 (codes "a")

abbrev row_8_2 : Known
row_8_2 = put_on row_8_1 0 2 2 (codes "b")

abbrev row_8_3 : Known
row_8_3 = change_replica row_8_2 0 0 (with_bare 0)

abbrev row_8_4 : Known
row_8_4 = put_on row_8_3 0 4 3 (codes "c")

abbrev row_8_5 : Known
row_8_5 = del_on row_8_4 0 5 1

abbrev row_8_6 : Known
row_8_6 = record row_8_5 {
  volumes = record empty_volume {
    replicas = record empty_replica
        { base = (pair 2, record { cookie = own; bytes = codes "b" }) ∷ (pair 3, record { cookie = own; bytes = codes "c" }) ∷ []; end = 232; cells = 3; bare = 1 } ∷ [];
  } ∷ [];
}

row_8 : Explains one (fresh_unharmed one)
    (codes "put 0 1 61\nput 0 2 62\nflush 0 0\nput 0 3 63\ndel 0 1\nrestart 0\nread 0 1 903df1a0ade0b876\nread 0 2 903df1a0ade0b876\nread 0 3 903df1a0ade0b876")
    (codes "haystack 1 1 1 67108864\n1 stored 0 1 1 903df1a0ade0b876\n2 stored 0 2 2 903df1a0ade0b876\n3 flushed 0:0 2\n4 stored 0 3 3 903df1a0ade0b876\n5 deleted 0 4 3\n6 restarted 3\n7 gone 0 0 0 3\n8 photo 0 0 0 3 62\n9 photo 0 0 0 3 63\n")
unfolding decode_pairs encode_with digits
row_8 = record {
  turns = plain 1 (command.Put (pair 1) (codes "a")) (reply.Stored 0 1 1 own) row_8_1
      ∷ plain 2 (command.Put (pair 2) (codes "b")) (reply.Stored 0 2 2 own) row_8_2
      ∷ plain 3 (command.Flush 0 0) (reply.Flushed 0 0 2) row_8_3
      ∷ plain 4 (command.Put (pair 3) (codes "c")) (reply.Stored 0 3 3 own) row_8_4
      ∷ plain 5 (command.Del (pair 1)) (reply.Deleted 0 4 3) row_8_5
      ∷ Restart 6 0 (reply.Restarted 3) ([]) row_8_6
      ∷ plain 7 (command.Read (pair 1) own) (reply.Gone 0 0 0 3) row_8_6
      ∷ plain 8 (command.Read (pair 2) own) (reply.Photo 0 0 0 3 (codes "b")) row_8_6
      ∷ plain 9 (command.Read (pair 3) own) (reply.Photo 0 0 0 3 (codes "c")) row_8_6 ∷ [];
  t = row_8_6;
  items = refl;
  legal = (
    record { taker = refl; directory = λ missing. refl; own = sym cookie_of-zero; position = refl; rows = refl; leaves = same_counts (fresh_unharmed one) row_8_1 refl refl },
    (
      record { taker = refl; directory = λ missing. refl; own = sym cookie_of-zero; position = refl; rows = refl; leaves = same_counts row_8_1 row_8_2 refl refl },
      (
        ((refl, refl), refl, refl, refl, same_counts row_8_2 row_8_3 refl refl),
        (
          record { taker = refl; directory = λ missing. refl; own = sym cookie_of-zero; position = refl; rows = refl; leaves = same_counts row_8_3 row_8_4 refl refl },
          (
            record { home = record { home = refl; «open» = refl; rows = refl }; stood = refl; position = refl; ended = []; cause = λ j e. cc; leaves = same_counts row_8_4 row_8_5 refl refl },
            (
              record {
                kept = [] ∷ [];
                row = false;
                opened = record {
                  volumes = (
                    record {
                      may = refl;
                      replicas = (
                        record { base = refl; stands = inl (record { end = refl; cells = refl; bare = refl; generation = refl }); loose = refl; idle = refl; settled = refl },
                        tt,
                      );
                      log = refl;
                      frozen = refl;
                      pending = refl;
                    },
                    tt,
                  );
                  rows = refl;
                  directory = refl;
                  drained = refl;
                  fuses = refl;
                  faults = none_falls row_8_5.faults;
                  arms = refl;
                };
                told = refl;
                rows = refl;
              },
              (
                record { seen = record { home = refl; front = refl; rows = refl }; replica = 0; there = refl; stands = refl; passed = inl (lit≤ tt); leaves = same_counts row_8_6 row_8_6 refl refl },
                (
                  record { seen = record { home = refl; front = refl; rows = refl }; replica = 0; there = refl; stands = refl; passed = inl (lit≤ tt); leaves = same_counts row_8_6 row_8_6 refl refl },
                  (
                    record {
                      seen = record { home = refl; front = refl; rows = refl };
                      replica = 0;
                      there = refl;
                      stands = refl;
                      passed = inl (lit≤ tt);
                      leaves = same_counts row_8_6 row_8_6 refl refl;
                    },
                    refl,
                  ),
                ),
              ),
            ),
          ),
        ),
      ),
    ),
  );
  text = refl;
}

abbrev row_10_1 : Known
row_10_1 = put_on (fresh_unharmed one) 0 1 1 (codes "a")

abbrev row_10_2 : Known
row_10_2 = with_fuses row_10_1 1 1

abbrev row_10_3 : Known
row_10_3 = put_frozen one row_10_2 (at_line 3) (pair 1) (codes "b") 0 0 true

abbrev row_10_4 : Known
row_10_4 = with_faults row_10_3 (0 ∷ 1 ∷ [])

abbrev row_10_5 : Known
row_10_5 = record row_10_4 {
  volumes = record empty_volume {
    replicas = record empty_replica
        { base = (pair 1, record { cookie = own; bytes = codes "b" }) ∷ []; end = 176; cells = 2; bare = 2 } ∷ [];
  } ∷ [];
}

row_10 : Explains one (fresh_unharmed one)
    (codes "put 0 1 61\nfuse 0 0 3\nput 0 1 62\nput 0 2 63\nrestart 1\nread 0 1 903df1a0ade0b876")
    (codes "haystack 1 1 1 67108864\n1 stored 0 1 1 903df1a0ade0b876\n2 fused 0:0 3\n3 failed 0:0 1\n4 readonly 0:0\n5 restarted 1\nkept 0:0 3\n6 photo 0 0 0 1 62\n")
unfolding decode_pairs encode_with digits
row_10 = record {
  turns = plain 1 (command.Put (pair 1) (codes "a")) (reply.Stored 0 1 1 own) row_10_1
      ∷ plain 2 (command.Fuse 0 0 3) (reply.Fused 0 0 3) row_10_2
      ∷ plain 3 (command.Put (pair 1) (codes "b")) (reply.Failed 0 0 1) row_10_4
      ∷ plain 4 (command.Put (pair 2) (codes "c")) (reply.ReadOnly (record { volume = 0; machine = 0 } ∷ [])) row_10_4
      ∷ Restart 5 1 (reply.Restarted 1) (note.Kept 0 0 3 ∷ []) row_10_5
      ∷ plain 6 (command.Read (pair 1) own) (reply.Photo 0 0 0 1 (codes "b")) row_10_5 ∷ [];
  t = row_10_5;
  items = refl;
  legal = (
    record { taker = refl; directory = λ missing. refl; own = sym cookie_of-zero; position = refl; rows = refl; leaves = same_counts (fresh_unharmed one) row_10_1 refl refl },
    (
      ((refl, refl), refl, (1, inl refl, same_counts row_10_1 row_10_2 refl refl)),
      (
        record {
          taker = refl;
          directory = λ e. refl;
          replica = 0;
          there = refl;
          rose = record { count = refl; rose = inl (lit< tt) };
          leaves = more_faults row_10_2 row_10_3 (0 ∷ 1 ∷ []) (lit≤ tt, (lit≤ tt, tt)) refl;
        },
        (
          (refl, same_counts row_10_4 row_10_4 refl refl),
          (
            record {
              kept = (true ∷ []) ∷ [];
              row = false;
              opened = record {
                volumes = (
                  record {
                    may = (refl, (0, 0, refl, refl, record { below = λ j h. absurd (no_less j h); nothing = λ j h e. cc; above = λ j h l e. absurd (one_only j h l) }));
                    replicas = (
                      record {
                        base = ap (photo_alone (codes "b")) (sym cookie_of-zero);
                        stands = inl (record { end = refl; cells = refl; bare = refl; generation = refl });
                        loose = refl;
                        idle = refl;
                        settled = refl;
                      },
                      tt,
                    );
                    log = refl;
                    frozen = refl;
                    pending = refl;
                  },
                  tt,
                );
                rows = refl;
                directory = refl;
                drained = refl;
                fuses = refl;
                faults = none_falls row_10_4.faults;
                arms = refl;
              };
              told = refl;
              rows = refl;
            },
            (
              record {
                seen = record { home = refl; front = refl; rows = refl };
                replica = 0;
                there = refl;
                stands = refl;
                passed = inl (lit≤ tt);
                leaves = same_counts row_10_5 row_10_5 refl refl;
              },
              refl,
            ),
          ),
        ),
      ),
    ),
  );
  text = refl;
}

-- The fourth changing call passes, and the next put fails at once: it was the first of its pair, and its row stays.
abbrev row_10_later_3 : Known
row_10_later_3 = put_on row_10_2 0 3 1 (codes "b")

abbrev row_10_later_4 : Known
row_10_later_4 = with_faults (put_frozen one row_10_later_3 (at_line 4) (pair 2) (codes "c") 0 0 true) (0 ∷ 1 ∷ [])

abbrev row_10_later_5 : Known
row_10_later_5 = record row_10_later_4 {
  volumes = record empty_volume { replicas = record empty_replica { base = (pair 1, record { cookie = own; bytes = codes "b" }) ∷ []; end = 176; cells = 2; bare = 2 } ∷ [] } ∷ [];
}

row_10_later : Explains one (fresh_unharmed one)
    (codes "put 0 1 61\nfuse 0 0 4\nput 0 1 62\nput 0 2 63\nrestart 0\nread 0 1 903df1a0ade0b876")
    (codes "haystack 1 1 1 67108864\n1 stored 0 1 1 903df1a0ade0b876\n2 fused 0:0 4\n3 stored 0 2 1 903df1a0ade0b876\n4 failed 0:0 1\n5 restarted 2\nlost 0:0 4\n6 photo 0 0 0 2 62\n")
unfolding decode_pairs encode_with digits
row_10_later = record {
  turns = plain 1 (command.Put (pair 1) (codes "a")) (reply.Stored 0 1 1 own) row_10_1
      ∷ plain 2 (command.Fuse 0 0 4) (reply.Fused 0 0 4) row_10_2
      ∷ plain 3 (command.Put (pair 1) (codes "b")) (reply.Stored 0 2 1 own) row_10_later_3
      ∷ plain 4 (command.Put (pair 2) (codes "c")) (reply.Failed 0 0 1) row_10_later_4
      ∷ Restart 5 0 (reply.Restarted 2) (note.Lost 0 0 4 ∷ []) row_10_later_5
      ∷ plain 6 (command.Read (pair 1) own) (reply.Photo 0 0 0 2 (codes "b")) row_10_later_5 ∷ [];
  t = row_10_later_5;
  items = refl;
  legal = (
    record { taker = refl; directory = λ missing. refl; own = sym cookie_of-zero; position = refl; rows = refl; leaves = same_counts (fresh_unharmed one) row_10_1 refl refl },
    (
      ((refl, refl), refl, (1, inl refl, same_counts row_10_1 row_10_2 refl refl)),
      (
        record { taker = refl; directory = λ missing. refl; own = sym cookie_of-zero; position = refl; rows = refl; leaves = same_counts row_10_2 row_10_later_3 refl refl },
        (
          record {
            taker = refl;
            directory = λ e. refl;
            replica = 0;
            there = refl;
            rose = record { count = refl; rose = inl (lit< tt) };
            leaves = more_faults row_10_later_3 (put_frozen one row_10_later_3 (at_line 4) (pair 2) (codes "c") 0 0 true) (0 ∷ 1 ∷ []) (lit≤ tt, (lit≤ tt, tt)) refl;
          },
          (
            record {
              kept = (false ∷ []) ∷ [];
              row = false;
              opened = record {
                volumes = (
                  record {
                    may = (refl, (0, 0, refl, refl, record { below = λ j h. absurd (no_less j h); nothing = λ j h e. cc; above = λ j h l e. absurd (one_only j h l) }));
                    replicas = (
                      record { base = refl; stands = inl (record { end = refl; cells = refl; bare = refl; generation = refl }); loose = refl; idle = refl; settled = refl },
                      tt,
                    );
                    log = refl;
                    frozen = refl;
                    pending = refl;
                  },
                  tt,
                );
                rows = refl;
                directory = refl;
                drained = refl;
                fuses = refl;
                faults = none_falls row_10_later_4.faults;
                arms = refl;
              };
              told = refl;
              rows = refl;
            },
            (
              record {
                seen = record { home = refl; front = refl; rows = refl };
                replica = 0;
                there = refl;
                stands = refl;
                passed = inl (lit≤ tt);
                leaves = same_counts row_10_later_5 row_10_later_5 refl refl;
              },
              refl,
            ),
          ),
        ),
      ),
    ),
  );
  text = refl;
}

abbrev row_12_1 : Known
row_12_1 = put_on (fresh_unharmed (shaped 2 1 2)) 0 1 1 (codes "a")

abbrev row_12_2 : Known
row_12_2 = with_fuses row_12_1 2 1

abbrev row_12_3 : Known
row_12_3 = put_frozen (shaped 2 1 2) row_12_2 (at_line 3) (pair 1) (codes "b") 0 1 true

abbrev row_12_4 : Known
row_12_4 = with_faults row_12_3 (0 ∷ 0 ∷ 1 ∷ [])

abbrev row_12_5 : Known
row_12_5 = record row_12_4 {
  volumes = record empty_volume {
    replicas = record empty_replica
        { base = (pair 1, record { cookie = own; bytes = codes "b" }) ∷ []; end = 176; cells = 2; bare = 2 }
        ∷ record empty_replica { base = (pair 1, record { cookie = own; bytes = codes "a" }) ∷ []; end = 120; cells = 1; bare = 1 } ∷ [];
  } ∷ [];
}

abbrev row_12_6 : Known
row_12_6 = put_on row_12_5 0 8 1 (codes "c")

row_12 : Explains (shaped 2 1 2) (fresh_unharmed (shaped 2 1 2))
    (codes "put 0 1 61\nfuse 0 1 0\nput 0 1 62\nread 0 1 903df1a0ade0b876\nrestart 0\nread 0 1 903df1a0ade0b876\nread 0 1 903df1a0ade0b876\nput 0 1 63\nread 0 1 903df1a0ade0b876")
    (codes "haystack 2 1 2 67108864\n1 stored 0 1 1 903df1a0ade0b876\n2 fused 0:1 0\n3 failed 0:1 1\n4 photo 0 0 1 1 61\n5 restarted 1\nkept 0:0 3\nlost 0:1 3\n6 photo 0 0 0 1 62\n7 photo 0 1 0 1 61\n8 stored 0 1 1 903df1a0ade0b876\n9 photo 0 1 1 1 63\n")
unfolding decode_pairs encode_with digits
row_12 = record {
  turns = plain 1 (command.Put (pair 1) (codes "a")) (reply.Stored 0 1 1 own) row_12_1
      ∷ plain 2 (command.Fuse 0 1 0) (reply.Fused 0 1 0) row_12_2
      ∷ plain 3 (command.Put (pair 1) (codes "b")) (reply.Failed 0 1 1) row_12_4
      ∷ plain 4 (command.Read (pair 1) own) (reply.Photo 0 0 1 1 (codes "a")) row_12_4
      ∷ Restart 5 0 (reply.Restarted 1) (note.Kept 0 0 3 ∷ note.Lost 0 1 3 ∷ []) row_12_5
      ∷ plain 6 (command.Read (pair 1) own) (reply.Photo 0 0 0 1 (codes "b")) row_12_5
      ∷ plain 7 (command.Read (pair 1) own) (reply.Photo 0 1 0 1 (codes "a")) row_12_5
      ∷ plain 8 (command.Put (pair 1) (codes "c")) (reply.Stored 0 1 1 own) row_12_6
      ∷ plain 9 (command.Read (pair 1) own) (reply.Photo 0 1 1 1 (codes "c")) row_12_6 ∷ [];
  t = row_12_6;
  items = refl;
  legal = (
    record { taker = refl; directory = λ missing. refl; own = sym cookie_of-zero; position = refl; rows = refl; leaves = same_counts (fresh_unharmed (shaped 2 1 2)) row_12_1 refl refl },
    (
      ((refl, refl), refl, (1, inl refl, same_counts row_12_1 row_12_2 refl refl)),
      (
        record {
          taker = refl;
          directory = λ e. refl;
          replica = 1;
          there = refl;
          rose = record { count = refl; rose = inl (lit< tt) };
          leaves = more_faults row_12_2 row_12_3 (0 ∷ 0 ∷ 1 ∷ []) (lit≤ tt, (lit≤ tt, (lit≤ tt, tt))) refl;
        },
        (
          record { seen = record { home = refl; front = refl; rows = refl }; replica = 0; there = refl; stands = refl; passed = inl (lit≤ tt); leaves = same_counts row_12_4 row_12_4 refl refl },
          (
            record {
              kept = (true ∷ false ∷ []) ∷ [];
              row = false;
              opened = record {
                volumes = (
                  record {
                    may = (refl, (1, 1, refl, refl, record { below = λ j h. true_below_one j h; nothing = λ j h e. cc; above = λ j h l e. absurd (two_only j h l) }));
                    replicas = (
                      record {
                        base = ap (photo_alone (codes "b")) (sym cookie_of-zero);
                        stands = inl (record { end = refl; cells = refl; bare = refl; generation = refl });
                        loose = refl;
                        idle = refl;
                        settled = refl;
                      },
                      (
                        record {
                          base = refl;
                          stands = inl (record { end = refl; cells = refl; bare = refl; generation = refl });
                          loose = refl;
                          idle = refl;
                          settled = refl;
                        },
                        tt,
                      ),
                    );
                    log = refl;
                    frozen = refl;
                    pending = refl;
                  },
                  tt,
                );
                rows = refl;
                directory = refl;
                drained = refl;
                fuses = refl;
                faults = none_falls row_12_4.faults;
                arms = refl;
              };
              told = refl;
              rows = refl;
            },
            (
              record { seen = record { home = refl; front = refl; rows = refl }; replica = 0; there = refl; stands = refl; passed = inl (lit≤ tt); leaves = same_counts row_12_5 row_12_5 refl refl },
              (
                record { seen = record { home = refl; front = refl; rows = refl }; replica = 1; there = refl; stands = refl; passed = inl (lit≤ tt); leaves = same_counts row_12_5 row_12_5 refl refl },
                (
                  record { taker = refl; directory = λ missing. refl; own = sym cookie_of-zero; position = refl; rows = refl; leaves = same_counts row_12_5 row_12_6 refl refl },
                  (
                    record {
                      seen = record { home = refl; front = refl; rows = refl };
                      replica = 1;
                      there = refl;
                      stands = refl;
                      passed = inl (lit≤ tt);
                      leaves = same_counts row_12_6 row_12_6 refl refl;
                    },
                    refl,
                  ),
                ),
              ),
            ),
          ),
        ),
      ),
    ),
  );
  text = refl;
}

abbrev row_21_1 : Known
row_21_1 = put_on (fresh_unharmed (shaped 2 2 1)) 0 1 1 (codes "a")

abbrev row_21_2 : Known
row_21_2 = with_drain row_21_1 0 true

abbrev row_21_3 : Known
row_21_3 = put_on row_21_2 1 5 2 (codes "c")

abbrev row_21_4 : Known
row_21_4 = with_drain row_21_3 1 true

abbrev row_21_5 : Known
row_21_5 = with_drain row_21_4 0 false

abbrev row_21_6 : Known
row_21_6 = put_on row_21_5 0 10 1 (codes "b")

row_21 : Explains (shaped 2 2 1) (fresh_unharmed (shaped 2 2 1))
    (codes "put 0 1 61\ndrain 0\nput 0 1 62\ndel 0 1\nput 0 2 63\ndrain 1\nput 0 3 64\nread 0 1 903df1a0ade0b876\nundrain 0\nput 0 1 62\ndrain 2")
    (codes "haystack 2 2 1 67108864\n1 stored 0 1 1 903df1a0ade0b876\n2 drained 0\n3 readonly 0:0\n4 readonly 0:0\n5 stored 1 1 2 903df1a0ade0b876\n6 drained 1\n7 readonly 0:0 1:1\n8 photo 0 0 1 2 61\n9 undrained 0\n10 stored 0 2 2 903df1a0ade0b876\n11 nowhere\n")
unfolding decode_pairs encode_with digits
row_21 = record {
  turns = plain 1 (command.Put (pair 1) (codes "a")) (reply.Stored 0 1 1 own) row_21_1
      ∷ plain 2 (command.Drain 0) (reply.Drained 0) row_21_2
      ∷ plain 3 (command.Put (pair 1) (codes "b")) (reply.ReadOnly (record { volume = 0; machine = 0 } ∷ [])) row_21_2
      ∷ plain 4 (command.Del (pair 1)) (reply.ReadOnly (record { volume = 0; machine = 0 } ∷ [])) row_21_2
      ∷ plain 5 (command.Put (pair 2) (codes "c")) (reply.Stored 1 1 2 own) row_21_3
      ∷ plain 6 (command.Drain 1) (reply.Drained 1) row_21_4
      ∷ plain 7 (command.Put (pair 3) (codes "d")) (reply.ReadOnly (record { volume = 0; machine = 0 } ∷ record { volume = 1; machine = 1 } ∷ [])) row_21_4
      ∷ plain 8 (command.Read (pair 1) own) (reply.Photo 0 0 1 2 (codes "a")) row_21_4
      ∷ plain 9 (command.Undrain 0) (reply.Undrained 0) row_21_5
      ∷ plain 10 (command.Put (pair 1) (codes "b")) (reply.Stored 0 2 2 own) row_21_6
      ∷ plain 11 (command.Drain 2) (reply.Nowhere) row_21_6 ∷ [];
  t = row_21_6;
  items = refl;
  legal = (
    record { taker = refl; directory = λ missing. refl; own = sym cookie_of-zero; position = refl; rows = refl; leaves = same_counts (fresh_unharmed (shaped 2 2 1)) row_21_1 refl refl },
    (
      (refl, lit< tt, same_counts row_21_1 row_21_2 refl refl),
      (
        (refl, same_counts row_21_2 row_21_2 refl refl),
        (
          ((refl, refl), same_counts row_21_2 row_21_2 refl refl),
          (
            record { taker = refl; directory = λ missing. refl; own = sym cookie_of-zero; position = refl; rows = refl; leaves = same_counts row_21_2 row_21_3 refl refl },
            (
              (refl, lit< tt, same_counts row_21_3 row_21_4 refl refl),
              (
                (refl, same_counts row_21_4 row_21_4 refl refl),
                (
                  record {
                    seen = record { home = refl; front = refl; rows = refl };
                    replica = 0;
                    there = refl;
                    stands = refl;
                    passed = inl (lit≤ tt);
                    leaves = same_counts row_21_4 row_21_4 refl refl;
                  },
                  (
                    (refl, lit< tt, same_counts row_21_4 row_21_5 refl refl),
                    (
                      record { taker = refl; directory = λ missing. refl; own = sym cookie_of-zero; position = refl; rows = refl; leaves = same_counts row_21_5 row_21_6 refl refl },
                      ((lit≤ tt, same_counts row_21_6 row_21_6 refl refl), refl),
                    ),
                  ),
                ),
              ),
            ),
          ),
        ),
      ),
    ),
  );
  text = refl;
}

abbrev row_9_1 : Known
row_9_1 = put_on (fresh_unharmed one) 0 1 1 (codes "a")

abbrev row_9_2 : Known
row_9_2 = change_replica row_9_1 0 0 (with_run (record { goal = 1; left = 1 }))

abbrev row_9_3 : Known
row_9_3 = change_replica row_9_2 0 0 (with_run (record { goal = 1; left = 0 }))

abbrev row_9_4 : Known
row_9_4 = put_on row_9_3 0 4 1 (codes "b")

abbrev row_9_5 : Known
row_9_5 = del_on row_9_4 0 5 1

abbrev row_9_6 : Known
row_9_6 = change_replica row_9_5 0 0 (swapped 120 1)

abbrev row_9_7 : Known
row_9_7 = record row_9_6 { volumes = record empty_volume { replicas = record empty_replica { end = 120; cells = 1; generation = 1 } ∷ [] } ∷ [] }

row_9 : Explains one (fresh_unharmed one)
    (codes "put 0 1 61\nbegin 0 0\nstep 0 0 1\nput 0 1 62\ndel 0 1\nfinish 0 0\nread 0 1 903df1a0ade0b876\nrestart 0\nread 0 1 903df1a0ade0b876")
    (codes "haystack 1 1 1 67108864\n1 stored 0 1 1 903df1a0ade0b876\n2 begun 0:0 1\n3 stepped 0:0 1\n4 stored 0 2 1 903df1a0ade0b876\n5 deleted 0 3 1\n6 compacted 0:0 1\n7 gone 0 0 3 1\n8 restarted 1\n9 gone 0 0 0 1\n")
unfolding decode_pairs encode_with digits
row_9 = record {
  turns = plain 1 (command.Put (pair 1) (codes "a")) (reply.Stored 0 1 1 own) row_9_1
      ∷ plain 2 (command.Begin 0 0) (reply.Begun 0 0 1) row_9_2
      ∷ plain 3 (command.Step 0 0 1) (reply.Stepped 0 0 1) row_9_3
      ∷ plain 4 (command.Put (pair 1) (codes "b")) (reply.Stored 0 2 1 own) row_9_4
      ∷ plain 5 (command.Del (pair 1)) (reply.Deleted 0 3 1) row_9_5
      ∷ plain 6 (command.Finish 0 0) (reply.Compacted 0 0 1) row_9_6
      ∷ plain 7 (command.Read (pair 1) own) (reply.Gone 0 0 3 1) row_9_6
      ∷ Restart 8 0 (reply.Restarted 1) ([]) row_9_7
      ∷ plain 9 (command.Read (pair 1) own) (reply.Gone 0 0 0 1) row_9_7 ∷ [];
  t = row_9_7;
  items = refl;
  legal = (
    record { taker = refl; directory = λ missing. refl; own = sym cookie_of-zero; position = refl; rows = refl; leaves = same_counts (fresh_unharmed one) row_9_1 refl refl },
    (
      ((refl, refl), refl, (refl, lit< tt), refl, same_counts row_9_1 row_9_2 refl refl),
      (
        ((refl, refl), refl, (record { goal = 1; left = 1 }, refl, refl, same_counts row_9_2 row_9_3 refl refl)),
        (
          record { taker = refl; directory = λ missing. refl; own = sym cookie_of-zero; position = refl; rows = refl; leaves = same_counts row_9_3 row_9_4 refl refl },
          (
            record { home = record { home = refl; «open» = refl; rows = refl }; stood = refl; position = refl; ended = []; cause = λ j e. cc; leaves = same_counts row_9_4 row_9_5 refl refl },
            (
              ((refl, refl), refl, ((record { goal = 1; left = 1 }, refl), lit< tt), refl, (120, 1, (lit≤ tt, lit≤ tt, lit≤ tt, lit≤ tt), same_counts row_9_5 row_9_6 refl refl)),
              (
                record { seen = record { home = refl; front = refl; rows = refl }; replica = 0; there = refl; stands = refl; passed = inl (lit≤ tt); leaves = same_counts row_9_6 row_9_6 refl refl },
                (
                  record {
                    kept = [] ∷ [];
                    row = false;
                    opened = record {
                      volumes = (
                        record {
                          may = refl;
                          replicas = (
                            record {
                              base = refl;
                              stands = inl (record { end = refl; cells = refl; bare = refl; generation = refl });
                              loose = refl;
                              idle = refl;
                              settled = refl;
                            },
                            tt,
                          );
                          log = refl;
                          frozen = refl;
                          pending = refl;
                        },
                        tt,
                      );
                      rows = refl;
                      directory = refl;
                      drained = refl;
                      fuses = refl;
                      faults = none_falls row_9_6.faults;
                      arms = refl;
                    };
                    told = refl;
                    rows = refl;
                  },
                  (
                    record {
                      seen = record { home = refl; front = refl; rows = refl };
                      replica = 0;
                      there = refl;
                      stands = refl;
                      passed = inl (lit≤ tt);
                      leaves = same_counts row_9_7 row_9_7 refl refl;
                    },
                    refl,
                  ),
                ),
              ),
            ),
          ),
        ),
      ),
    ),
  );
  text = refl;
}

abbrev row_11_at_0_1 : Known
row_11_at_0_1 = put_on (fresh_unharmed one) 0 1 1 (codes "a")

abbrev row_11_at_0_2 : Known
row_11_at_0_2 = change_replica row_11_at_0_1 0 0 (with_run (record { goal = 1; left = 1 }))

abbrev row_11_at_0_3 : Known
row_11_at_0_3 = change_replica row_11_at_0_2 0 0 (with_run (record { goal = 1; left = 0 }))

abbrev row_11_at_0_4 : Known
row_11_at_0_4 = with_fuses row_11_at_0_3 1 1

abbrev row_11_at_0_5 : Known
row_11_at_0_5 = poised_by 0 row_11_at_0_4 0 0

abbrev row_11_at_0_6 : Known
row_11_at_0_6 = with_faults row_11_at_0_5 (0 ∷ 1 ∷ [])

abbrev row_11_at_0_7 : Known
row_11_at_0_7 = record row_11_at_0_6 {
  volumes = record empty_volume {
    replicas = record empty_replica
        { base = (pair 1, record { cookie = own; bytes = codes "a" }) ∷ []; end = 120; cells = 1; bare = 1; generation = 0 } ∷ [];
  } ∷ [];
}

abbrev row_11_at_0_8 : Known
row_11_at_0_8 = change_replica row_11_at_0_7 0 0 (swapped 120 1)

row_11_at_0 : Explains one (fresh_unharmed one)
    (codes "put 0 1 61\nbegin 0 0\nstep 0 0 1\nfuse 0 0 6\nfinish 0 0\nput 0 1 62\nrestart 0\nread 0 1 903df1a0ade0b876\ncompact 0 0")
    (codes "haystack 1 1 1 67108864\n1 stored 0 1 1 903df1a0ade0b876\n2 begun 0:0 1\n3 stepped 0:0 1\n4 fused 0:0 6\n5 failed 0:0 1\n6 readonly 0:0\n7 restarted 1\n8 photo 0 0 0 1 61\n9 compacted 0:0 1\n")
unfolding decode_pairs encode_with digits
row_11_at_0 = record {
  turns = plain 1 (command.Put (pair 1) (codes "a")) (reply.Stored 0 1 1 own) row_11_at_0_1
      ∷ plain 2 (command.Begin 0 0) (reply.Begun 0 0 1) row_11_at_0_2
      ∷ plain 3 (command.Step 0 0 1) (reply.Stepped 0 0 1) row_11_at_0_3
      ∷ plain 4 (command.Fuse 0 0 6) (reply.Fused 0 0 6) row_11_at_0_4
      ∷ plain 5 (command.Finish 0 0) (reply.Failed 0 0 1) row_11_at_0_6
      ∷ plain 6 (command.Put (pair 1) (codes "b")) (reply.ReadOnly (record { volume = 0; machine = 0 } ∷ [])) row_11_at_0_6
      ∷ Restart 7 0 (reply.Restarted 1) ([]) row_11_at_0_7
      ∷ plain 8 (command.Read (pair 1) own) (reply.Photo 0 0 0 1 (codes "a")) row_11_at_0_7
      ∷ plain 9 (command.Compact 0 0) (reply.Compacted 0 0 1) row_11_at_0_8 ∷ [];
  t = row_11_at_0_8;
  items = refl;
  legal = (
    record { taker = refl; directory = λ missing. refl; own = sym cookie_of-zero; position = refl; rows = refl; leaves = same_counts (fresh_unharmed one) row_11_at_0_1 refl refl },
    (
      ((refl, refl), refl, (refl, lit< tt), refl, same_counts row_11_at_0_1 row_11_at_0_2 refl refl),
      (
        ((refl, refl), refl, (record { goal = 1; left = 1 }, refl, refl, same_counts row_11_at_0_2 row_11_at_0_3 refl refl)),
        (
          ((refl, refl), refl, (1, inl refl, same_counts row_11_at_0_3 row_11_at_0_4 refl refl)),
          (
            (
              (refl, refl),
              refl,
              (record { goal = 1; left = 0 }, refl),
              record { count = refl; rose = inl (lit< tt) },
              inr (more_faults row_11_at_0_4 row_11_at_0_5 (0 ∷ 1 ∷ []) (lit≤ tt, (lit≤ tt, tt)) refl),
            ),
            (
              (refl, same_counts row_11_at_0_6 row_11_at_0_6 refl refl),
              (
                record {
                  kept = [] ∷ [];
                  row = false;
                  opened = record {
                    volumes = (
                      record {
                        may = refl;
                        replicas = (
                          record {
                            base = refl;
                            stands = inl (record { end = refl; cells = refl; bare = refl; generation = refl });
                            loose = refl;
                            idle = refl;
                            settled = refl;
                          },
                          tt,
                        );
                        log = refl;
                        frozen = refl;
                        pending = refl;
                      },
                      tt,
                    );
                    rows = refl;
                    directory = refl;
                    drained = refl;
                    fuses = refl;
                    faults = none_falls row_11_at_0_6.faults;
                    arms = refl;
                  };
                  told = refl;
                  rows = refl;
                },
                (
                  record {
                    seen = record { home = refl; front = refl; rows = refl };
                    replica = 0;
                    there = refl;
                    stands = refl;
                    passed = inl (lit≤ tt);
                    leaves = same_counts row_11_at_0_7 row_11_at_0_7 refl refl;
                  },
                  (((refl, refl), refl, (refl, lit< tt), refl, (120, 1, (refl, refl), same_counts row_11_at_0_7 row_11_at_0_8 refl refl)), refl),
                ),
              ),
            ),
          ),
        ),
      ),
    ),
  );
  text = refl;
}

abbrev row_11_at_1_1 : Known
row_11_at_1_1 = put_on (fresh_unharmed one) 0 1 1 (codes "a")

abbrev row_11_at_1_2 : Known
row_11_at_1_2 = change_replica row_11_at_1_1 0 0 (with_run (record { goal = 1; left = 1 }))

abbrev row_11_at_1_3 : Known
row_11_at_1_3 = change_replica row_11_at_1_2 0 0 (with_run (record { goal = 1; left = 0 }))

abbrev row_11_at_1_4 : Known
row_11_at_1_4 = with_fuses row_11_at_1_3 1 1

abbrev row_11_at_1_5 : Known
row_11_at_1_5 = poised_by 0 row_11_at_1_4 0 0

abbrev row_11_at_1_6 : Known
row_11_at_1_6 = with_faults row_11_at_1_5 (0 ∷ 1 ∷ [])

abbrev row_11_at_1_7 : Known
row_11_at_1_7 = record row_11_at_1_6 {
  volumes = record empty_volume {
    replicas = record empty_replica
        { base = (pair 1, record { cookie = own; bytes = codes "a" }) ∷ []; end = 120; cells = 1; bare = 0; generation = 1 } ∷ [];
  } ∷ [];
}

abbrev row_11_at_1_8 : Known
row_11_at_1_8 = change_replica row_11_at_1_7 0 0 (swapped 120 1)

row_11_at_1 : Explains one (fresh_unharmed one)
    (codes "put 0 1 61\nbegin 0 0\nstep 0 0 1\nfuse 0 0 6\nfinish 0 0\nput 0 1 62\nrestart 1\nread 0 1 903df1a0ade0b876\ncompact 0 0")
    (codes "haystack 1 1 1 67108864\n1 stored 0 1 1 903df1a0ade0b876\n2 begun 0:0 1\n3 stepped 0:0 1\n4 fused 0:0 6\n5 failed 0:0 1\n6 readonly 0:0\n7 restarted 1\n8 photo 0 0 0 1 61\n9 compacted 0:0 2\n")
unfolding decode_pairs encode_with digits
row_11_at_1 = record {
  turns = plain 1 (command.Put (pair 1) (codes "a")) (reply.Stored 0 1 1 own) row_11_at_1_1
      ∷ plain 2 (command.Begin 0 0) (reply.Begun 0 0 1) row_11_at_1_2
      ∷ plain 3 (command.Step 0 0 1) (reply.Stepped 0 0 1) row_11_at_1_3
      ∷ plain 4 (command.Fuse 0 0 6) (reply.Fused 0 0 6) row_11_at_1_4
      ∷ plain 5 (command.Finish 0 0) (reply.Failed 0 0 1) row_11_at_1_6
      ∷ plain 6 (command.Put (pair 1) (codes "b")) (reply.ReadOnly (record { volume = 0; machine = 0 } ∷ [])) row_11_at_1_6
      ∷ Restart 7 1 (reply.Restarted 1) ([]) row_11_at_1_7
      ∷ plain 8 (command.Read (pair 1) own) (reply.Photo 0 0 0 1 (codes "a")) row_11_at_1_7
      ∷ plain 9 (command.Compact 0 0) (reply.Compacted 0 0 2) row_11_at_1_8 ∷ [];
  t = row_11_at_1_8;
  items = refl;
  legal = (
    record { taker = refl; directory = λ missing. refl; own = sym cookie_of-zero; position = refl; rows = refl; leaves = same_counts (fresh_unharmed one) row_11_at_1_1 refl refl },
    (
      ((refl, refl), refl, (refl, lit< tt), refl, same_counts row_11_at_1_1 row_11_at_1_2 refl refl),
      (
        ((refl, refl), refl, (record { goal = 1; left = 1 }, refl, refl, same_counts row_11_at_1_2 row_11_at_1_3 refl refl)),
        (
          ((refl, refl), refl, (1, inl refl, same_counts row_11_at_1_3 row_11_at_1_4 refl refl)),
          (
            (
              (refl, refl),
              refl,
              (record { goal = 1; left = 0 }, refl),
              record { count = refl; rose = inl (lit< tt) },
              inr (more_faults row_11_at_1_4 row_11_at_1_5 (0 ∷ 1 ∷ []) (lit≤ tt, (lit≤ tt, tt)) refl),
            ),
            (
              (refl, same_counts row_11_at_1_6 row_11_at_1_6 refl refl),
              (
                record {
                  kept = [] ∷ [];
                  row = false;
                  opened = record {
                    volumes = (
                      record {
                        may = refl;
                        replicas = (
                          record {
                            base = refl;
                            stands = inr (record {
                              poised = refl;
                              end = lit≤ tt;
                              no_longer = lit≤ tt;
                              cells = lit≤ tt;
                              no_more = lit≤ tt;
                              bare = refl;
                              generation = refl;
                            });
                            loose = refl;
                            idle = refl;
                            settled = refl;
                          },
                          tt,
                        );
                        log = refl;
                        frozen = refl;
                        pending = refl;
                      },
                      tt,
                    );
                    rows = refl;
                    directory = refl;
                    drained = refl;
                    fuses = refl;
                    faults = none_falls row_11_at_1_6.faults;
                    arms = refl;
                  };
                  told = refl;
                  rows = refl;
                },
                (
                  record {
                    seen = record { home = refl; front = refl; rows = refl };
                    replica = 0;
                    there = refl;
                    stands = refl;
                    passed = inl (lit≤ tt);
                    leaves = same_counts row_11_at_1_7 row_11_at_1_7 refl refl;
                  },
                  (((refl, refl), refl, (refl, lit< tt), refl, (120, 1, (refl, refl), same_counts row_11_at_1_7 row_11_at_1_8 refl refl)), refl),
                ),
              ),
            ),
          ),
        ),
      ),
    ),
  );
  text = refl;
}

abbrev row_14_1 : Known
row_14_1 = put_on (fresh_unharmed (shaped 2 1 2)) 0 1 1 (codes "a")

abbrev row_14_2 : Known
row_14_2 = record row_14_1 { arms = 1 ∷ 0 ∷ 0 ∷ 0 ∷ 0 ∷ 0 ∷ 0 ∷ 0 ∷ [] }

abbrev row_14_3 : Known
row_14_3 = record row_14_2 { arms = 3 ∷ 0 ∷ 0 ∷ 0 ∷ 0 ∷ 0 ∷ 0 ∷ 0 ∷ [] }

row_14 : Explains (shaped 2 1 2) (fresh_unharmed (shaped 2 1 2))
    (codes "put 0 1 61\nread 0 1 903df1a0ade0b876\nread 0 1 903df1a0ade0b876")
    (codes "haystack 2 1 2 67108864\n1 stored 0 1 1 903df1a0ade0b876\n2 photo 0 1 1 1 61\n3 unreadable 0 1 1 1:arm:2 0:arm:3\n")
unfolding decode_pairs encode_with digits
row_14 = record {
  turns = plain 1 (command.Put (pair 1) (codes "a")) (reply.Stored 0 1 1 own) row_14_1
      ∷ plain 2 (command.Read (pair 1) own) (reply.Photo 0 1 1 1 (codes "a")) row_14_2
      ∷ plain 3 (command.Read (pair 1) own) (reply.Unreadable 0 1 1 (record { machine = 1; cause = cause.Arm 2 } ∷ record { machine = 0; cause = cause.Arm 3 } ∷ [])) row_14_3 ∷ [];
  t = row_14_3;
  items = refl;
  legal = (
    record { taker = refl; directory = λ missing. refl; own = sym cookie_of-zero; position = refl; rows = refl; leaves = same_counts (fresh_unharmed (shaped 2 1 2)) row_14_1 refl refl },
    (
      record {
        seen = record { home = refl; front = refl; rows = refl };
        replica = 1;
        there = refl;
        stands = refl;
        passed = inl (lit≤ tt);
        leaves = more_arms row_14_1 (1 ∷ 0 ∷ 0 ∷ 0 ∷ 0 ∷ 0 ∷ 0 ∷ 0 ∷ []) (lit≤ tt, (lit≤ tt, (lit≤ tt, (lit≤ tt, (lit≤ tt, (lit≤ tt, (lit≤ tt, (lit≤ tt, tt))))))));
      },
      (
        record {
          seen = record { home = refl; front = refl; rows = refl };
          each = ((refl, (inl (lit< tt), lit≤ tt)), ((refl, (inl (lit< tt), lit≤ tt)), tt));
          arms = ((inl (lit< tt), tt), (tt, tt));
          leaves = more_arms row_14_2 (3 ∷ 0 ∷ 0 ∷ 0 ∷ 0 ∷ 0 ∷ 0 ∷ 0 ∷ [])
              (lit≤ tt, (lit≤ tt, (lit≤ tt, (lit≤ tt, (lit≤ tt, (lit≤ tt, (lit≤ tt, (lit≤ tt, tt))))))));
        },
        refl,
      ),
    ),
  );
  text = refl;
}

abbrev row_22_at_0_1 : Known
row_22_at_0_1 = with_fuses (fresh_unharmed one) 0 1

abbrev row_22_at_0_2 : Known
row_22_at_0_2 = row_pending row_22_at_0_1 (at_line 2) (pair 1) 0

abbrev row_22_at_0_3 : Known
row_22_at_0_3 = with_faults row_22_at_0_2 (1 ∷ 0 ∷ [])

abbrev row_22_at_0_4 : Known
row_22_at_0_4 = record row_22_at_0_3 { directory = record { rows = []; frozen = false; pending = None } }

row_22_at_0 : Explains one (fresh_unharmed one)
    (codes "fuse dir 0\nput 0 1 61\nput 0 2 62\nrestart 0\nread 0 1 903df1a0ade0b876")
    (codes "haystack 1 1 1 67108864\n1 fused dir 0\n2 failed dir 1\n3 readonly dir\n4 restarted 0\nlost dir 2\n5 unknown 0\n")
unfolding decode_pairs encode_with digits
row_22_at_0 = record {
  turns = plain 1 (command.FuseDir 0) (reply.FusedDir 0) row_22_at_0_1
      ∷ plain 2 (command.Put (pair 1) (codes "a")) (reply.FailedDir 1) row_22_at_0_3
      ∷ plain 3 (command.Put (pair 2) (codes "b")) (reply.ReadOnlyDir) row_22_at_0_3
      ∷ Restart 4 0 (reply.Restarted 0) (note.LostDir 2 ∷ []) row_22_at_0_4
      ∷ plain 5 (command.Read (pair 1) own) (reply.Unknown 0) row_22_at_0_4 ∷ [];
  t = row_22_at_0_4;
  items = refl;
  legal = (
    (refl, (1, inl refl, same_counts (fresh_unharmed one) row_22_at_0_1 refl refl)),
    (
      record {
        needs = record { volume = 0; missing = refl; taker = refl };
        before = refl;
        count = refl;
        rose = inl (lit< tt);
        leaves = more_faults row_22_at_0_1 row_22_at_0_2 (1 ∷ 0 ∷ []) (lit≤ tt, (lit≤ tt, tt)) refl;
      },
      (
        (record { volume = 0; missing = refl; taker = refl }, refl, same_counts row_22_at_0_3 row_22_at_0_3 refl refl),
        (
          record {
            kept = [] ∷ [];
            row = false;
            opened = record {
              volumes = (
                record {
                  may = refl;
                  replicas = (
                    record { base = refl; stands = inl (record { end = refl; cells = refl; bare = refl; generation = refl }); loose = refl; idle = refl; settled = refl },
                    tt,
                  );
                  log = refl;
                  frozen = refl;
                  pending = refl;
                },
                tt,
              );
              rows = refl;
              directory = refl;
              drained = refl;
              fuses = refl;
              faults = none_falls row_22_at_0_3.faults;
              arms = refl;
            };
            told = refl;
            rows = refl;
          },
          (((refl, refl), same_counts row_22_at_0_4 row_22_at_0_4 refl refl), refl),
        ),
      ),
    ),
  );
  text = refl;
}

abbrev row_22_at_3_1 : Known
row_22_at_3_1 = with_fuses (fresh_unharmed one) 0 1

abbrev row_22_at_3_2 : Known
row_22_at_3_2 = row_pending row_22_at_3_1 (at_line 2) (pair 1) 0

abbrev row_22_at_3_3 : Known
row_22_at_3_3 = with_faults row_22_at_3_2 (1 ∷ 0 ∷ [])

abbrev row_22_at_3_4 : Known
row_22_at_3_4 = record row_22_at_3_3 { directory = record { rows = record { pair = pair 1; volume = 0 } ∷ []; frozen = false; pending = None } }

row_22_at_3 : Explains one (fresh_unharmed one)
    (codes "fuse dir 3\nput 0 1 61\nput 0 2 62\nrestart 1\nread 0 1 903df1a0ade0b876")
    (codes "haystack 1 1 1 67108864\n1 fused dir 3\n2 failed dir 1\n3 readonly dir\n4 restarted 1\nkept dir 2\n5 gone 0 0 0 1\n")
unfolding decode_pairs encode_with digits
row_22_at_3 = record {
  turns = plain 1 (command.FuseDir 3) (reply.FusedDir 3) row_22_at_3_1
      ∷ plain 2 (command.Put (pair 1) (codes "a")) (reply.FailedDir 1) row_22_at_3_3
      ∷ plain 3 (command.Put (pair 2) (codes "b")) (reply.ReadOnlyDir) row_22_at_3_3
      ∷ Restart 4 1 (reply.Restarted 1) (note.KeptDir 2 ∷ []) row_22_at_3_4
      ∷ plain 5 (command.Read (pair 1) own) (reply.Gone 0 0 0 1) row_22_at_3_4 ∷ [];
  t = row_22_at_3_4;
  items = refl;
  legal = (
    (refl, (1, inl refl, same_counts (fresh_unharmed one) row_22_at_3_1 refl refl)),
    (
      record {
        needs = record { volume = 0; missing = refl; taker = refl };
        before = refl;
        count = refl;
        rose = inl (lit< tt);
        leaves = more_faults row_22_at_3_1 row_22_at_3_2 (1 ∷ 0 ∷ []) (lit≤ tt, (lit≤ tt, tt)) refl;
      },
      (
        (record { volume = 0; missing = refl; taker = refl }, refl, same_counts row_22_at_3_3 row_22_at_3_3 refl refl),
        (
          record {
            kept = [] ∷ [];
            row = true;
            opened = record {
              volumes = (
                record {
                  may = refl;
                  replicas = (
                    record { base = refl; stands = inl (record { end = refl; cells = refl; bare = refl; generation = refl }); loose = refl; idle = refl; settled = refl },
                    tt,
                  );
                  log = refl;
                  frozen = refl;
                  pending = refl;
                },
                tt,
              );
              rows = refl;
              directory = refl;
              drained = refl;
              fuses = refl;
              faults = none_falls row_22_at_3_3.faults;
              arms = refl;
            };
            told = refl;
            rows = refl;
          },
          (
            record {
              seen = record { home = refl; front = refl; rows = refl };
              replica = 0;
              there = refl;
              stands = refl;
              passed = inl (lit≤ tt);
              leaves = same_counts row_22_at_3_4 row_22_at_3_4 refl refl;
            },
            refl,
          ),
        ),
      ),
    ),
  );
  text = refl;
}

abbrev row_23_1 : Known
row_23_1 = change_replica (fresh_unharmed one) 0 0 (with_run (record { goal = 1; left = 0 }))

abbrev row_23_2 : Known
row_23_2 = change_replica row_23_1 0 0 (with_run (record { goal = 1; left = 0 }))

abbrev row_23_3 : Known
row_23_3 = change_replica row_23_2 0 0 (swapped 64 0)

row_23 : Explains one (fresh_unharmed one)
    (codes "begin 0 0\nbegin 0 0\ncompact 0 0\nstep 0 0 5\nfinish 0 0\nfinish 0 0\nstep 0 0 1\nbegin 1 0")
    (codes "haystack 1 1 1 67108864\n1 begun 0:0 1\n2 busy 0:0 1\n3 busy 0:0 1\n4 stepped 0:0 0\n5 compacted 0:0 1\n6 idle 0:0\n7 idle 0:0\n8 nowhere\n")
unfolding decode_pairs encode_with digits
row_23 = record {
  turns = plain 1 (command.Begin 0 0) (reply.Begun 0 0 1) row_23_1
      ∷ plain 2 (command.Begin 0 0) (reply.Busy 0 0 1) row_23_1
      ∷ plain 3 (command.Compact 0 0) (reply.Busy 0 0 1) row_23_1
      ∷ plain 4 (command.Step 0 0 5) (reply.Stepped 0 0 0) row_23_2
      ∷ plain 5 (command.Finish 0 0) (reply.Compacted 0 0 1) row_23_3
      ∷ plain 6 (command.Finish 0 0) (reply.Idle 0 0) row_23_3
      ∷ plain 7 (command.Step 0 0 1) (reply.Idle 0 0) row_23_3
      ∷ plain 8 (command.Begin 1 0) (reply.Nowhere) row_23_3 ∷ [];
  t = row_23_3;
  items = refl;
  legal = (
    ((refl, refl), refl, (refl, lit< tt), refl, same_counts (fresh_unharmed one) row_23_1 refl refl),
    (
      ((refl, refl), refl, (record { goal = 1; left = 0 }, refl, refl), same_counts row_23_1 row_23_1 refl refl),
      (
        ((refl, refl), refl, (record { goal = 1; left = 0 }, refl, refl), same_counts row_23_1 row_23_1 refl refl),
        (
          ((refl, refl), refl, (record { goal = 1; left = 0 }, refl, refl, same_counts row_23_1 row_23_2 refl refl)),
          (
            ((refl, refl), refl, ((record { goal = 1; left = 0 }, refl), lit< tt), refl, (64, 0, (lit≤ tt, lit≤ tt, lit≤ tt, lit≤ tt), same_counts row_23_2 row_23_3 refl refl)),
            (
              ((refl, refl), refl, refl, same_counts row_23_3 row_23_3 refl refl),
              (
                ((refl, refl), refl, refl, same_counts row_23_3 row_23_3 refl refl),
                (same_counts row_23_3 row_23_3 refl refl, refl),
              ),
            ),
          ),
        ),
      ),
    ),
  );
  text = refl;
}

abbrev row_7_1 : Known
row_7_1 = put_on (fresh_unharmed (record (shaped 1 2 1) { capacity = 4096 })) 0 1 1 (replicate 3976 97)

abbrev row_7_2 : Known
row_7_2 = put_on row_7_1 1 3 2 ([])

abbrev row_7_3 : Known
row_7_3 = put_on row_7_2 1 6 3 (replicate 3928 99)

row_7 : Explains (record (shaped 1 2 1) { capacity = 4096 }) (fresh_unharmed (record (shaped 1 2 1) { capacity = 4096 }))
    (codes "put 0 1 x3976:61\nput 0 1 -\nput 0 2 -\nput 0 2 x3977:62\nput 0 3 x3976:63\nput 0 3 x3928:63")
    (codes "haystack 1 2 1 4096\n1 stored 0 1 1 903df1a0ade0b876\n2 full 0:0:4088:48\n3 stored 1 1 2 903df1a0ade0b876\n4 full 1:0:112:4032\n5 full 0:0:4088:4024 1:0:112:4024\n6 stored 1 2 3 903df1a0ade0b876\n")
unfolding decode_pairs encode_with digits
row_7 = record {
  turns = plain 1 (command.Put (pair 1) (replicate 3976 97)) (reply.Stored 0 1 1 own) row_7_1
      ∷ plain 2 (command.Put (pair 1) []) (reply.Full (refused.NoRoom 0 0 4088 48 ∷ [])) row_7_1
      ∷ plain 3 (command.Put (pair 2) ([])) (reply.Stored 1 1 2 own) row_7_2
      ∷ plain 4 (command.Put (pair 2) (replicate 3977 98)) (reply.Full (refused.NoRoom 1 0 112 4032 ∷ [])) row_7_2
      ∷ plain 5 (command.Put (pair 3) (replicate 3976 99)) (reply.Full (refused.NoRoom 0 0 4088 4024 ∷ refused.NoRoom 1 0 112 4024 ∷ [])) row_7_2
      ∷ plain 6 (command.Put (pair 3) (replicate 3928 99)) (reply.Stored 1 2 3 own) row_7_3 ∷ [];
  t = row_7_3;
  items = refl;
  legal = (
    record {
      taker = refl;
      directory = λ missing. refl;
      own = sym cookie_of-zero;
      position = refl;
      rows = refl;
      leaves = same_counts (fresh_unharmed (record (shaped 1 2 1) { capacity = 4096 })) row_7_1 refl refl;
    },
    (
      (refl, refl, same_counts row_7_1 row_7_1 refl refl),
      (
        record { taker = refl; directory = λ missing. refl; own = sym cookie_of-zero; position = refl; rows = refl; leaves = same_counts row_7_1 row_7_2 refl refl },
        (
          (refl, refl, same_counts row_7_2 row_7_2 refl refl),
          (
            (refl, refl, same_counts row_7_2 row_7_2 refl refl),
            (record { taker = refl; directory = λ missing. refl; own = sym cookie_of-zero; position = refl; rows = refl; leaves = same_counts row_7_2 row_7_3 refl refl }, refl),
          ),
        ),
      ),
    ),
  );
  text = refl;
}
