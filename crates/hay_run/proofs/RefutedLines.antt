-- Replies to lines of blocks that no run has, whatever the disks tell, each as a lemma.
use Rattle.std.proofs.Common.{◌≡◌, ◌≢◌, ℕ, zero, suc, ◌+◌, ◌%◌, ◌<◌, ◌≤◌, List, [], ◌∷◌, length, map, Contains, Option, Some, inl, inr, refl, sym, ap, subst, ◌∙◌, arith}
use Rattle.std.specs.List.{AllByRecursion as Each, AllZip, range_with_len}
use Rattle.std.proofs.lemmas.List.{length-map}
use Rattle.std.proofs.lemmas.List.FromFn.{length-range_with_len}
use Rattle.std.proofs.Math.Nat.{mod-lt}
use Rattle.hay_needle.specs.declared.needle.Cookie.{Cookie}
use Rattle.hay_needle.specs.declared.needle.Pair.{Pair}
use Rattle.hay_needle.specs.declared.settings.Settings.{Settings}
use Rattle.hay_needle.specs.Sizes.{needle_total}
use Rattle.hay_url.specs.declared.Url.{Url as UrlParts}
use Rattle.hay_script.specs.declared.Command.{Command}
use Rattle.hay_script.specs.declared.Command.TheVariants as asks
use Rattle.hay_reply.specs.declared.Passed.{Passed}
use Rattle.hay_reply.specs.declared.Refused.{Refused}
use Rattle.hay_reply.specs.declared.Refused.TheVariants.{NoRoom}
use Rattle.hay_reply.specs.declared.Reply.{Reply}
use Rattle.hay_reply.specs.declared.Reply.TheVariants.{Full, Restarted, Stored, Unreadable}
use Rattle.hay_legal.specs.declared.turn.Item.{Item}
use Rattle.hay_legal.specs.declared.turn.Item.TheVariants as item
use Rattle.hay_legal.specs.declared.turn.LaneItem.{LaneItem}
use Rattle.hay_legal.specs.Items.{InBlock}
use Rattle.hay_legal.specs.Known.{machine_of, replica_on}
use Rattle.hay_legal.specs.Plain.{order_from}
use Rattle.hay_legal.specs.Suiting.{AtReplica, HasNoRoom, NamesEach, Refuses, ShowsOf, Suits, SuitsGet, SuitsItem, SuitsPut, SuitsRead, start_at}
use Rattle.hay_history.proofs.Lists.{each_in, first_or_rest, none_in}
use Rattle.hay_cluster.specs.Causes.{Counts}
use Rattle.hay_run.specs.Blocks.{FitsLine, IsBlockText}

-- each of these was refused by some volume
refused_by : (R : ℕ → Refused → Type 0) (tries : List ℕ) (refused : List Refused) (one : Refused) → AllZip R tries refused → Contains refused one → (v : ℕ) × R v one
refused_by R tries [] one each among = absurd (none_in one among)
refused_by R [] (refusal ∷ refused) one each among = absurd each
refused_by R (v ∷ tries) (refusal ∷ refused) one each among = elim (first_or_rest refusal refused one among) [
  | inl same ↦ (v, subst (R v) same each.0)
  | inr more ↦ refused_by R tries refused one each.1 more
]

-- each number of the order is one of so many
each_below : (P : ℕ → Type 0) (at : ℕ → ℕ) (start n from many : ℕ) → 0 < n → ((j : ℕ) → j < n → P (at j)) → Each P (map at (map (λ i. (start + i) % n) (range_with_len from many)))
each_below P at start n from zero some so = tt
each_below P at start n from (suc many) some so = (so ((start + from) % n) (mod-lt (start + from) some), each_below P at start n (from + 1) many some so)

each_machine : (P : ℕ → Type 0) (causes : List Passed) → Each P (map (λ passed. passed.machine) causes) → Each (λ passed. P passed.machine) causes
each_machine P [] each = tt
each_machine P (passed ∷ causes) each = (each.0, each_machine P causes each.1)

module _ (settings : Settings) (Sure : ℕ → Type 0) (before after : Counts) (home : Pair → Option ℕ) (lines : List InBlock) (text : List ℕ)
    (block : IsBlockText settings Sure before after home lines text) (answered : LaneItem)
    (among : Contains block.items answered) where
  suits : (command : Command) (reply : Reply) → answered.item ≡ item.Command command → answered.reply ≡ reply → Suits settings answered.line command reply
  suits command reply asked said =
      let so : SuitsItem settings answered.line answered.item answered.reply = (each_in (FitsLine settings) block.items answered block.fits among).1 in
      subst (λ (r : Reply). Suits settings answered.line command r) said (subst (λ (i : Item). SuitsItem settings answered.line i answered.reply) asked so)

  not_stored : (v p d : ℕ) (c : Cookie) → SuitsRead settings (start_at settings answered.line) (Stored v p d c) → ⊥
  not_stored v p d c (inl (rows, is)) = cc
  not_stored v p d c (inr (inl (w, within, inl (m, front, rows, bytes, on, few, is)))) = cc
  not_stored v p d c (inr (inl (w, within, inr (inl (m, front, rows, on, is))))) = cc
  not_stored v p d c (inr (inl (w, within, inr (inr (inl (m, front, rows, on, is)))))) = cc
  not_stored v p d c (inr (inl (w, within, inr (inr (inr (front, rows, causes, each, is)))))) = cc
  not_stored v p d c (inr (inr is)) = cc

  -- a read is answered as a put
  pub read_told_as_stored : (pair : Pair) (cookie c : Cookie) (v p d : ℕ) → answered.item ≡ item.Command (asks.Read pair cookie) → answered.reply ≡ Stored v p d c → ⊥
  read_told_as_stored pair cookie c v p d asked said = not_stored v p d c (suits (asks.Read pair cookie) (Stored v p d c) asked said)

  not_restarted : (rows : ℕ) → SuitsRead settings (start_at settings answered.line) (Restarted rows) → ⊥
  not_restarted rows (inl (d, is)) = cc
  not_restarted rows (inr (inl (w, within, inl (m, front, d, bytes, on, few, is)))) = cc
  not_restarted rows (inr (inl (w, within, inr (inl (m, front, d, on, is))))) = cc
  not_restarted rows (inr (inl (w, within, inr (inr (inl (m, front, d, on, is)))))) = cc
  not_restarted rows (inr (inl (w, within, inr (inr (inr (front, d, causes, each, is)))))) = cc
  not_restarted rows (inr (inr is)) = cc

  -- or as a restart
  pub read_told_as_a_restart : (pair : Pair) (cookie : Cookie) (rows : ℕ) → answered.item ≡ item.Command (asks.Read pair cookie) → answered.reply ≡ Restarted rows → ⊥
  read_told_as_a_restart pair cookie rows asked said = not_restarted rows (suits (asks.Read pair cookie) (Restarted rows) asked said)

  -- PUTS

  no_room : (pair : Pair) (size v m end need : ℕ) (refused : List Refused) → SuitsPut settings pair size (Full refused) → Contains refused (NoRoom v m end need)
      → HasNoRoom settings size end need
  no_room pair size v m end need refused (inl (w, p, d, below, is)) among = cc
  no_room pair size v m end need refused (inr (inl (tried, by, wants, is))) among =
      let same : refused ≡ tried = cc in
      let one = refused_by (Refuses settings size) by.0 tried (NoRoom v m end need) by.2 (subst (λ (rs : List Refused). Contains rs (NoRoom v m end need)) same among) in
      one.1.2
  no_room pair size v m end need refused (inr (inr (inl (closed, by, is)))) among = cc
  no_room pair size v m end need refused (inr (inr (inr (inl is)))) among = cc
  no_room pair size v m end need refused (inr (inr (inr (inr (inl (w, n, count, on, is)))))) among = cc
  no_room pair size v m end need refused (inr (inr (inr (inr (inr (inl (count, is))))))) among = cc
  no_room pair size v m end need refused (inr (inr (inr (inr (inr (inr is)))))) among = cc

  -- a put is told that a volume is full whose replica has room at the end that is told
  pub full_of_a_volume_with_room : (pair : Pair) (photo : List ℕ) (refused : List Refused) (v m end need : ℕ) → answered.item ≡ item.Command (asks.Put pair photo)
      → answered.reply ≡ Full refused → Contains refused (NoRoom v m end need) → end + needle_total (length photo) + 8 ≤ settings.capacity → ⊥
  full_of_a_volume_with_room pair photo refused v m end need asked said among room =
      let full = (no_room pair (length photo) v m end need refused (suits (asks.Put pair photo) (Full refused) asked said) among).1 in
      absurd (omega (arith, full, room))

  -- or that it needs other bytes than its needle has
  pub full_with_another_need : (pair : Pair) (photo : List ℕ) (refused : List Refused) (v m end need : ℕ) → answered.item ≡ item.Command (asks.Put pair photo)
      → answered.reply ≡ Full refused → Contains refused (NoRoom v m end need) → need ≢ needle_total (length photo) → ⊥
  full_with_another_need pair photo refused v m end need asked said among other =
      other (no_room pair (length photo) v m end need refused (suits (asks.Put pair photo) (Full refused) asked said) among).0

  -- READS

  shows_each : (start w v p d : ℕ) (causes : List Passed) → ShowsOf settings start w (Unreadable v p d causes) → NamesEach settings start v causes
  shows_each start w v p d causes (inl (m, front, rows, bytes, on, few, is)) = cc
  shows_each start w v p d causes (inr (inl (m, front, rows, on, is))) = cc
  shows_each start w v p d causes (inr (inr (inl (m, front, rows, on, is)))) = cc
  shows_each start w v p d causes (inr (inr (inr (front, rows, over, each, is)))) =
      let volume : w ≡ v = cc in
      let same : over ≡ causes = cc in
      subst (λ u. NamesEach settings start u causes) volume (subst (λ (cs : List Passed). NamesEach settings start w cs) same each)

  names_each : (v p d : ℕ) (causes : List Passed) → SuitsRead settings (start_at settings answered.line) (Unreadable v p d causes) → NamesEach settings (start_at settings answered.line) v causes
  names_each v p d causes (inl (rows, is)) = cc
  names_each v p d causes (inr (inl (w, within, shows))) = shows_each (start_at settings answered.line) w v p d causes shows
  names_each v p d causes (inr (inr is)) = cc

  got_each : (url : UrlParts) (start v p d : ℕ) (causes : List Passed) → AtReplica (Some start) (SuitsGet settings url) (Unreadable v p d causes) → NamesEach settings start v causes
  got_each url start v p d causes (inl (inl (rows, is))) = cc
  got_each url start v p d causes (inl (inr (inl (w, rows, within, other, is)))) = cc
  got_each url start v p d causes (inl (inr (inr shows))) = shows_each start url.volume v p d causes shows
  got_each url start v p d causes (inr is) = cc

  each_named : (start v : ℕ) (causes : List Passed) → NamesEach settings start v causes → length causes ≡ settings.replicas
  each_named start v causes each =
      sym (length-map causes (λ passed. passed.machine)) ∙ ap length each ∙ length-map (order_from settings start) (machine_of settings v)
      ∙ length-map (range_with_len 0 settings.replicas) (λ i. (start + i) % settings.replicas) ∙ length-range_with_len 0 settings.replicas

  -- a read passes over fewer replicas than there are, over none, or over one twice
  pub unreadable_of_too_few : (pair : Pair) (cookie : Cookie) (v p d : ℕ) (causes : List Passed) → answered.item ≡ item.Command (asks.Read pair cookie)
      → answered.reply ≡ Unreadable v p d causes → length causes ≢ settings.replicas → ⊥
  unreadable_of_too_few pair cookie v p d causes asked said other =
      other (each_named (start_at settings answered.line) v causes (names_each v p d causes (suits (asks.Read pair cookie) (Unreadable v p d causes) asked said)))

  -- so of a URL, from its replica on
  pub unreadable_url_of_too_few : (url : UrlParts) (start v p d : ℕ) (causes : List Passed) → replica_on settings url.volume url.machine ≡ Some start
      → answered.item ≡ item.Command (asks.Get url) → answered.reply ≡ Unreadable v p d causes → length causes ≢ settings.replicas → ⊥
  unreadable_url_of_too_few url start v p d causes there asked said other =
      let at = subst (λ (o : Option ℕ). AtReplica o (SuitsGet settings url) (Unreadable v p d causes)) there (suits (asks.Get url) (Unreadable v p d causes) asked said) in
      other (each_named start v causes (got_each url start v p d causes at))

  pub unreadable_of_no_replica : (pair : Pair) (cookie : Cookie) (v p d : ℕ) → 0 < settings.replicas → answered.item ≡ item.Command (asks.Read pair cookie)
      → answered.reply ≡ Unreadable v p d [] → ⊥
  unreadable_of_no_replica pair cookie v p d some asked said = unreadable_of_too_few pair cookie v p d [] asked said (λ none. absurd (omega (arith, some, none)))

  -- or over a machine that has no replica of the volume
  pub unreadable_of_a_strange_machine : (pair : Pair) (cookie : Cookie) (v p d : ℕ) (causes : List Passed) (passed : Passed) → 0 < settings.replicas
      → answered.item ≡ item.Command (asks.Read pair cookie) → answered.reply ≡ Unreadable v p d causes → Contains causes passed
      → ((j : ℕ) → j < settings.replicas → passed.machine ≢ machine_of settings v j) → ⊥
  unreadable_of_a_strange_machine pair cookie v p d causes passed some asked said over strange =
      let start = start_at settings answered.line in
      let each = names_each v p d causes (suits (asks.Read pair cookie) (Unreadable v p d causes) asked said) in
      let Is : ℕ → Type 0 = λ m. (j : ℕ) × (j < settings.replicas) × (m ≡ machine_of settings v j) in
      let all : Each Is (map (machine_of settings v) (order_from settings start)) =
      each_below Is (machine_of settings v) start settings.replicas 0 settings.replicas some (λ j below. (j, below, refl)) in
      let one = each_in (λ (cause : Passed). Is cause.machine) causes passed (each_machine Is causes (subst (Each Is) (sym each) all)) over in
      strange one.0 one.1 one.2
