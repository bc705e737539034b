-- Sizes of kept boxes, behind so many items.
use Rattle.std.proofs.Common.{◌≡◌, ℕ, suc, ◌+◌, ◌<◌, ◌≤◌, List, [], ◌∷◌, length, map, Option, Some, None, option_map, refl, sym, ap, subst, ◌∙◌, arith}
use Rattle.std.specs.Prelude.{◌^◌}
use Rattle.std.specs.List.{AllByRecursion as Each, AllZip}
use Rattle.std.proofs.lemmas.List.{length-map}
use Rattle.hay_needle.specs.declared.settings.Settings.{Settings}
use Rattle.hay_needle.specs.Tables.{live_end}
use Rattle.hay_script.specs.declared.words.TheConstants.{MAX_SCRIPT}
use Rattle.hay_core.specs.declared.entry.Entry.{Entry}
use Rattle.hay_core.specs.declared.entry.Entry.TheVariants as entry
use Rattle.hay_core.specs.declared.entry.Logged.{Logged}
use Rattle.hay_legal.specs.declared.known.Known.{Known}
use Rattle.hay_legal.specs.declared.known.Pending.{Pending}
use Rattle.hay_legal.specs.declared.known.ReplicaKnown.{ReplicaKnown}
use Rattle.hay_legal.specs.declared.known.Run.{Run}
use Rattle.hay_legal.specs.declared.known.VolumeKnown.{VolumeKnown}
use Rattle.hay_legal.specs.declared.turn.Turn.{Turn}
use Rattle.hay_legal.specs.Items.{Asked, item_of_turn}
use Rattle.hay_legal.specs.Known.{empty_replica, empty_volume, fresh_unharmed, now, replica_at}
use Rattle.hay_audit_steps.specs.BoxNext.{least_end}
use Rattle.hay_audit_steps.specs.Boxes.{Box, Has, Within, fill, fill_replicas, fill_volumes}
use Rattle.hay_audit_steps.specs.Judged.{Begins}
use Rattle.hay_audit_steps.specs.Reached.{Candidate as Kept, Runs}
use Rattle.hay_audit_steps.specs.Rooms.{IsWhole}
use Rattle.hay_audit_steps.specs.Slacks.{Lies, Slack, fill_replica, fill_run}
use Rattle.hay_audit_steps.proofs.Cuts.{within_own}
use Rattle.hay_audit.specs.declared.judge.Candidate.{Candidate}
use Rattle.hay_audit.specs.Behind.{IsBehind}
use Rattle.hay_audit.specs.Candidates.{AreKept, AreSmall, all_standing, standing}
use Rattle.hay_audit.specs.Outside.{IsWithinAsked}
use Rattle.hay_audit.specs.Sizes.{ChangeMayGrow, IsSlight, IsSmall, MayGrow, PendingMayGrow, RunMayGrow, VolumeMayGrow}
use Rattle.hay_audit.proofs.Growing.{IsGrown, IsLeft, IsPhoto, IsPhotoPending, IsReplicaGrown, IsVolumeGrown, fresh_grown, most_end, turns_grown}
use Rattle.hay_audit.proofs.Small.{each_index}
use Rattle.hay_audit.proofs.Tallying.{log_size, now_above}

-- ONE REPLICA

run_grows : (n cells : ℕ) (run : Option Run) → n ≤ MAX_SCRIPT → IsLeft n (option_map (fill_run cells) run) → RunMayGrow run
run_grows n cells None few h = tt
run_grows n cells (Some run) few h = omega (arith, few, h)

replica_grows : (n : ℕ) (log : List Logged) (r : ReplicaKnown) (x : Slack) → n ≤ MAX_SCRIPT → IsReplicaGrown n log (fill_replica x r) → MayGrow r
replica_grows n log r x few h =
    (omega (arith, few, h.end), omega (arith, few, h.cells), omega (arith, few, h.bare), omega (arith, few, h.generation), run_grows n x.cells r.run few h.left)

replica_slight : (n : ℕ) (log : List Logged) (r : ReplicaKnown) (x : Slack) → n ≤ MAX_SCRIPT → IsReplicaGrown n log (fill_replica x r) → IsSlight x
replica_slight n log r x few h = record { end = omega (arith, few, h.end); cells = omega (arith, few, h.cells); bare = omega (arith, few, h.bare) }

-- THE REPLICAS OF A VOLUME

-- what stood when a log began, with the log, is no more than that
abbrev IsFew : ℕ → List Logged → ReplicaKnown → Type 0
IsFew n log r = live_end r.base + log_size log ≤ most_end n

record AreFit (n : ℕ) (log : List Logged) (rs : List ReplicaKnown) (highs : List Slack) : Type 0 where
  grow : Each MayGrow rs
  slight : Each IsSlight highs
  few : Each (IsFew n log) rs

replicas_fit : (n : ℕ) (log : List Logged) (rs : List ReplicaKnown) (lows highs : List Slack) → n ≤ MAX_SCRIPT → length rs ≡ length lows → AllZip Lies lows highs
    → Each (IsReplicaGrown n log) (fill_replicas highs rs) → AreFit n log rs highs
replicas_fit n log [] [] [] few e h g = record { grow = tt; slight = tt; few = tt }
replicas_fit n log [] [] (x ∷ highs) few e h g = absurd h
replicas_fit n log [] (l ∷ lows) highs few e h g = absurd (omega (arith, e))
replicas_fit n log (r ∷ rs) [] highs few e h g = absurd (omega (arith, e))
replicas_fit n log (r ∷ rs) (l ∷ lows) [] few e h g = absurd h
replicas_fit n log (r ∷ rs) (l ∷ lows) (x ∷ highs) few e h g =
    let rest = replicas_fit n log rs lows highs few (omega (arith, e)) h.1 g.1 in record {
      grow = (replica_grows n log r x few g.0, rest.grow);
      slight = (replica_slight n log r x few g.0, rest.slight);
      few = ((g.0).photos_end, rest.few);
    }

-- THE VOLUMES

-- whatever replica is looked at
abbrev AreTold : VolumeKnown → Type 0
AreTold volume = (j : ℕ) → live_end (now volume (replica_at volume j)) < 2 ^ 64

change_grows : (e : Entry) → IsPhoto e → ChangeMayGrow e
change_grows (entry.Put pair cookie bytes) h = omega (arith, h)
change_grows (entry.Del pair) h = tt

pending_grows : (pending : Option Pending) → IsPhotoPending pending → PendingMayGrow pending
pending_grows None h = tt
pending_grows (Some pending) h = change_grows pending.entry h

tells : (n : ℕ) (volume : VolumeKnown) → n ≤ MAX_SCRIPT → 64 + log_size volume.log ≤ most_end n → Each (IsFew n volume.log) volume.replicas → AreTold volume
tells n volume few log each = λ j.
    let here : IsFew n volume.log (replica_at volume j) = each_index (IsFew n volume.log) volume.replicas j empty_replica (omega (arith, log)) each in
    omega (arith, few, here, (now_above volume (replica_at volume j)).end)

record VolumesFit (volumes : List VolumeKnown) (highs : List (List Slack)) : Type 0 where
  grow : Each VolumeMayGrow volumes
  slight : Each (λ row. Each IsSlight row) highs
  told : Each AreTold volumes

volumes_fit : (n : ℕ) (volumes : List VolumeKnown) (lows highs : List (List Slack)) → n ≤ MAX_SCRIPT → AllZip (λ volume ls. length volume.replicas ≡ length ls) volumes lows → Within lows highs
    → Each (IsVolumeGrown n) (fill_volumes highs volumes) → VolumesFit volumes highs
volumes_fit n [] [] [] few e h g = record { grow = tt; slight = tt; told = tt }
volumes_fit n [] [] (x ∷ highs) few e h g = absurd h
volumes_fit n [] (l ∷ lows) highs few e h g = absurd e
volumes_fit n (v ∷ volumes) [] highs few e h g = absurd e
volumes_fit n (v ∷ volumes) (l ∷ lows) [] few e h g = absurd h
volumes_fit n (v ∷ volumes) (l ∷ lows) (x ∷ highs) few e h g =
    let rest = volumes_fit n volumes lows highs few e.1 h.1 g.1 in
    let here = replicas_fit n v.log v.replicas l x few e.0 h.0 (g.0).replicas in record {
      grow = ((pending_grows v.pending (g.0).pending, here.grow), rest.grow);
      slight = (here.slight, rest.slight);
      told = (tells n v few (g.0).log here.few, rest.told);
    }

none_told : AreTold empty_volume
none_told = λ j. omega (arith, (now_above empty_volume (replica_at empty_volume j)).end)

-- THE BOXES

-- a box whose highest state has grown so far
box_small : (n : ℕ) (box : Box) → n ≤ MAX_SCRIPT → IsWhole box → IsGrown n (fill box.high box.base) → IsSmall box
box_small n box few whole g =
    let fit = volumes_fit n box.base.volumes box.low box.high few whole.shaped whole.some g in record {
      volumes = fit.grow;
      most = fit.slight;
      photos = λ v j. each_index AreTold box.base.volumes v empty_volume none_told fit.told j;
    }

-- what is known of a candidate behind these items: each of its states is behind legal turns of them
abbrev IsSound : Settings → List Asked → Kept Box → Kept Box → Type 0
IsSound settings items c d = (t : Known) → Has d.state t → (k : Known) × (turns : List Turn) × Has c.state k × Runs settings items k c.rest turns t d.rest

grown_behind : (settings : Settings) (transcript : List ℕ) (items : List Asked) (c d : Kept Box) (n : ℕ) (t : Known) → Begins Has settings transcript c → Each IsWithinAsked items → n ≡ length items
    → IsSound settings items c d → Has d.state t → IsGrown n t
grown_behind settings transcript items c d n t begins within count sound has =
    let run = sound t has in
    let many : length run.1 ≡ n = sym (length-map run.1 item_of_turn) ∙ ap (λ (xs : List Asked). length xs) (run.3).asked ∙ sym count in
    subst (λ (m : ℕ). IsGrown m t) (let e : 0 + length run.1 ≡ n = omega (arith, many) in e)
    (turns_grown 0 settings run.0 run.1 t (subst (λ (xs : List Asked). Each IsWithinAsked xs) (sym (run.3).asked) within)
    (subst (λ (k : Known). IsGrown 0 k) (sym (begins.alone run.0 run.2)) (fresh_grown settings)) (run.3).legal)

each_small : (settings : Settings) (transcript : List ℕ) (items : List Asked) (c : Kept Box) (n : ℕ) (cs : List Candidate) → Begins Has settings transcript c
    → Each IsWithinAsked items → n ≡ length items → n ≤ MAX_SCRIPT
    → Each (IsSound settings items c) (all_standing transcript cs) → AreKept settings transcript cs → AreSmall cs
each_small settings transcript items c n [] begins within count few sound kept = tt
each_small settings transcript items c n (d ∷ cs) begins within count few sound kept = (
  box_small n d.state few ((kept.0).of).whole
      (grown_behind settings transcript items c (standing transcript d) n (fill (d.state).high (d.state).base) begins within count sound.0
      ((d.state).high, record { least = (((kept.0).of).whole).some; most = within_own (d.state).high }, refl)),
  each_small settings transcript items c n cs begins within count few sound.1 kept.1,
)

-- behind so many items of a script all candidates are small
pub behind_small : (settings : Settings) (script transcript : List ℕ) (c : Kept Box) (cs : List Candidate) (number turns : ℕ) (left : List ℕ)
    → IsBehind settings script transcript c (all_standing transcript cs) number turns left → AreKept settings transcript cs → turns ≤ MAX_SCRIPT → AreSmall cs
behind_small settings script transcript c cs number turns left behind kept few =
    each_small settings transcript behind.items c turns cs behind.begins behind.within behind.count few (behind.reached).sound kept
