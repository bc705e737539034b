-- Worked transcripts, and ones that are not legal.
use Rattle.std.specs.Prelude.{◌≡◌, ℕ, Bool, true, false, List, [], ◌∷◌, ◌++◌, codes, replicate, refl, Option, Some, None, slice_get, map, slice_index}
use Rattle.std.proofs.Common.{sym, arith, lit≤, lit<, ap, subst, inl, ◌∙◌}
use Rattle.hay_needle.specs.declared.settings.Settings.{Settings}
use Rattle.hay_needle.specs.declared.needle.Pair.{Pair}
use Rattle.hay_needle.specs.declared.needle.Cookie.{Cookie}
use Rattle.hay_url.proofs.Cookies.{cookie_of-zero}
use Rattle.hex.specs.Hex.{decode_pairs, encode_with}
use Rattle.std.specs.Fmt.{digits}
use Rattle.hay_script.specs.declared.Command.TheVariants as command
use Rattle.hay_reply.specs.declared.Reply.TheVariants as reply
use Rattle.hay_legal.specs.declared.known.Known.{Known}
use Rattle.hay_legal.specs.declared.turn.Item.TheVariants as item
use Rattle.hay_legal.specs.declared.turn.Turn.{Turn}
use Rattle.hay_legal.specs.declared.turn.Turn.TheVariants.{Plain}
use Rattle.hay_legal.specs.Items.{items_of, item_of_turn}
use Rattle.hay_legal.specs.Transcript.{transcript_text}
use Rattle.hay_legal.specs.Known.{fresh_unharmed, replica_on, NoneFalls, Leaves, with_home, now, volume_at, replica_at}
use Rattle.hay_needle.specs.Tables.{outcome_at}
use Rattle.hay_needle.specs.declared.needle.Outcome.{Outcome}
use Rattle.hay_needle.specs.declared.needle.Outcome.TheVariants as outcome
use Rattle.hay_legal.specs.Plain.{with_put, put_frozen, change_volume, LegalPlain}
use Rattle.hay_legal.specs.Restarts.{replica_notes, volume_notes, ReopenedVolumes, LegalRestart}
use Rattle.std.proofs.lemmas.List.{append-nil}
use Rattle.hay_legal.specs.declared.known.VolumeKnown.{VolumeKnown}
use Rattle.hay_reply.specs.declared.Refused.{Refused}
use Rattle.hay_reply.specs.declared.Note.{Note}
use Rattle.hay_reply.specs.declared.Note.TheVariants as note
use Rattle.hay_legal.specs.Legal.{Legal}

abbrev one : Settings
one = record { machines = 1; volumes = 1; replicas = 1; capacity = 67108864; secret = replicate 32 0 }

abbrev first : Pair
first = record { key = 0; alt = 1 }

abbrev own : Cookie
own = record { 0 = 0x903df1a0ade0b876 }

none_falls : (xs : List ℕ) → NoneFalls xs xs
none_falls [] = tt
none_falls (x ∷ xs) = (omega arith, none_falls xs)

-- where no count rose
same_counts : (k t : Known) → t.faults ≡ k.faults → t.arms ≡ k.arms → Leaves k t t
same_counts k t faults arms = record {
  volumes = refl;
  directory = refl;
  drained = refl;
  fuses = refl;
  faults = rw faults (none_falls k.faults);
  arms = rw arms (none_falls k.arms);
}

-- A transcript that turns explain.
record Explains (settings : Settings) (k : Known) (script transcript : List ℕ) : Type 0 where
  turns : List Turn
  t : Known
  items : map item_of_turn turns ≡ items_of script
  legal : Legal settings k turns t
  text : transcript_text settings turns ≡ transcript

-- upload and read
abbrev stored_hello : Known
stored_hello = with_home (change_volume (fresh_unharmed one) 0 (λ volume. with_put volume (record { lane = 0; line = 1 }) first own (codes "hello"))) first 0

row_1 : Explains one (fresh_unharmed one) (codes "put 0 1 68656c6c6f\nread 0 1 903df1a0ade0b876")
    (codes "haystack 1 1 1 67108864\n1 stored 0 1 1 903df1a0ade0b876\n2 photo 0 0 1 1 68656c6c6f\n")
unfolding decode_pairs encode_with digits
row_1 = record {
  turns = Plain 1 (item.Command (command.Put first (codes "hello"))) (reply.Stored 0 1 1 own) stored_hello
      ∷ Plain 2 (item.Command (command.Read first own)) (reply.Photo 0 0 1 1 (codes "hello")) stored_hello ∷ [];
  t = stored_hello;
  items = refl;
  legal = (
    record { taker = refl; directory = λ missing. refl; own = sym cookie_of-zero; position = refl; rows = refl; leaves = same_counts (fresh_unharmed one) stored_hello refl refl },
    (
      record {
        seen = record { home = refl; front = refl; rows = refl };
        replica = 0;
        there = refl;
        stands = refl;
        passed = inl (lit≤ tt);
        leaves = same_counts stored_hello stored_hello refl refl;
      },
      refl,
    ),
  );
  text = refl;
}

-- a byte of the photo, if one stands
byte_of : ℕ → Outcome → ℕ
byte_of n outcome.Nothing = 0
byte_of n (outcome.Photo photo) = slice_index photo.bytes n

-- another photo than the one that stands
wrong_photo : (t : Known) → LegalPlain one stored_hello 2 (item.Command (command.Read first own)) (reply.Photo 0 0 1 1 (codes "hallo")) t → ⊥
unfolding byte_of
wrong_photo t shown =
    let same : shown.replica ≡ 0 = cc in
    let stands : outcome_at (now (volume_at stored_hello 0) (replica_at (volume_at stored_hello 0) 0)) first ≡ outcome.Photo (record { cookie = own; bytes = codes "hallo" }) =
    subst (λ j. outcome_at (now (volume_at stored_hello 0) (replica_at (volume_at stored_hello 0) j)) first ≡ outcome.Photo (record { cookie = own; bytes = codes "hallo" })) same shown.stands in
    let e : 101 ≡ 97 = ap (byte_of 1) stands in
    omega (arith, e)

-- a position that skips one
skipped : (t : Known) → LegalPlain one stored_hello 2 (item.Command (command.Put first (codes "b"))) (reply.Stored 0 3 1 own) t → ⊥
skipped t stored = let e : 3 ≡ 2 = stored.position in omega (arith, e)

-- gone, where a photo stands
gone_too_early : (t : Known) → LegalPlain one stored_hello 2 (item.Command (command.Read first own)) (reply.Gone 0 0 1 1) t → ⊥
unfolding byte_of
gone_too_early t shown =
    let same : shown.replica ≡ 0 = cc in
    let stands : outcome_at (now (volume_at stored_hello 0) (replica_at (volume_at stored_hello 0) 0)) first ≡ outcome.Nothing =
    subst (λ j. outcome_at (now (volume_at stored_hello 0) (replica_at (volume_at stored_hello 0) j)) first ≡ outcome.Nothing) same shown.stands in
    let e : 104 ≡ 0 = ap (byte_of 0) stands in
    omega (arith, e)

-- full, where there is room
first_of : List (Option Refused) → ℕ
first_of [] = 0
first_of (None ∷ rest) = 1
first_of (Some refused ∷ rest) = 2

full_with_room : (refused : List Refused) (t : Known) → LegalPlain one stored_hello 2 (item.Command (command.Put first (codes "b"))) (reply.Full refused) t → ⊥
unfolding first_of
full_with_room [] t h = let e : 1 ≡ 0 = ap first_of h.0 in omega (arith, e)
full_with_room (r ∷ rest) t h = let e : 1 ≡ 2 = ap first_of h.0 in omega (arith, e)

-- after a put that failed on replica 1, replica 0 cannot have lost it
two : Settings
two = record { machines = 2; volumes = 1; replicas = 2; capacity = 67108864; secret = replicate 32 0 }

abbrev failed_on_one : Known
failed_on_one =
    put_frozen (record { machines = 2; volumes = 1; replicas = 2; capacity = 67108864; secret = replicate 32 0 })
    (fresh_unharmed (record { machines = 2; volumes = 1; replicas = 2; capacity = 67108864; secret = replicate 32 0 })) (record { lane = 0; line = 1 }) first (codes "a") 0 1 true

is_true : Option Bool → ℕ
is_true (Some true) = 1
is_true _ = 0

note_is_kept : List Note → ℕ
note_is_kept (note.Kept v m line ∷ notes) = 1
note_is_kept _ = 0

first_note : (kept : List Bool) (rest : List Note) → slice_get kept 0 ≡ Some true
    → note_is_kept (replica_notes (record { machines = 2; volumes = 1; replicas = 2; capacity = 67108864; secret = replicate 32 0 }) 0 1 0 kept ++ rest) ≡ 1
unfolding note_is_kept is_true
first_note [] rest e = cc
first_note (true ∷ kept) rest e = refl
first_note (false ∷ kept) rest e = let n : 0 ≡ 1 = ap is_true e in absurd (omega (arith, n))

abbrev two_machines : Settings
two_machines = record { machines = 2; volumes = 1; replicas = 2; capacity = 67108864; secret = replicate 32 0 }

lost_in : (kept : List (List Bool)) (news : List VolumeKnown) → ReopenedVolumes two_machines 0 failed_on_one.volumes kept news
    → (note.Lost 0 0 1 ∷ note.Lost 0 1 1 ∷ []) ≡ volume_notes two_machines 0 failed_on_one.volumes kept ++ [] → ⊥
unfolding note_is_kept
lost_in [] news r told = absurd r
lost_in (ks ∷ kepts) [] r told = absurd r
lost_in (ks ∷ kepts) (new ∷ news) r told =
    let after = (r.0).may.1 in
    let machine : after.0 ≡ 1 = cc in
    let replica : after.1 ≡ 1 = let on : replica_on two_machines 0 1 ≡ Some after.1 = subst (λ m. replica_on two_machines 0 m ≡ Some after.1) machine after.3 in cc in
    let kept : slice_get ks 0 ≡ Some true = after.4.below 0 (rw replica (lit< tt)) in
    let e : 0 ≡ 1 = ap note_is_kept told ∙ ap note_is_kept (append-nil _) ∙ first_note ks _ kept in
    omega (arith, e)

lost_below : (t : Known) → LegalRestart two_machines failed_on_one (reply.Restarted 1) (note.Lost 0 0 1 ∷ note.Lost 0 1 1 ∷ []) t → ⊥
lost_below t h = lost_in h.kept t.volumes h.opened.volumes h.told
