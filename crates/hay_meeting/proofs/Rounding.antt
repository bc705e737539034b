-- A round tells that its acts are all that happened, and begins the next lines.
use Rattle.std.proofs.Common.{◌≡◌, ℕ, ◌<◌, List, length, sym, ap, subst, ◌∙◌, arith, Some, slice_get}
use Rattle.std.proofs.lemmas.Option.{slice_get_within}
use mathlib.Core.List.{IsPrefix}
use Rattle.hay_needle.specs.declared.settings.Settings.{Settings}
use Rattle.hay_turn.specs.Acts.{acts_of}
use Rattle.hay_turn.proofs.ActLists.{acts_of_append}
use Rattle.hay_turn.proofs.Prefixes.{prefix_self}
use Rattle.hay_meeting.specs.Acts.{Happened, Start, row_lock, volume_lock}
use Rattle.hay_meeting.specs.Chains.{BeginsAt, IsWhole}
use Rattle.hay_meeting.specs.Locks.{Lock, LockSight}
use Rattle.hay_meeting.specs.Rounds.{IsRound, IsRoundOf}
use Rattle.hay_meeting.specs.Sights.{Sight}
use Rattle.hay_meeting.proofs.Closing.{there}
use Rattle.hay_meeting.proofs.Replays.{prefix_length, same_prefix}

-- what lies between a list and itself is that list
between_same : {A : Type 0} (xs ys zs : List A) → IsPrefix xs ys → IsPrefix ys zs → zs ≡ xs → ys ≡ xs
between_same xs ys zs p q same =
    let l = prefix_length xs ys p in
    let r = prefix_length ys zs q in
    same_prefix ys xs zs q (subst (IsPrefix xs) (sym same) (prefix_self xs)) (omega (arith, l, r, ap length same))

module _ {S E X T : Type 0} (lock : Lock S E X T) where
  acts_prefix : (lane : ℕ) (xs ys : List E) → IsPrefix xs ys → IsPrefix (acts_of lock.seat lane xs) (acts_of lock.seat lane ys)
  acts_prefix lane xs ys p = (acts_of lock.seat lane p.0, sym (acts_of_append lock.seat lane xs p.0) ∙ ap (acts_of lock.seat lane) p.1)

  -- the lane's own acts are those of its number among all
  pub own_in : {lane : ℕ} {h : List E} {a b : LockSight E X} → IsRoundOf lock lane h a b → acts_of lock.seat lane h ≡ a.own
  own_in {lane} {h} {a} {b} x =
      subst (λ z. acts_of lock.seat lane h ≡ z) x.own_seen
      (between_same (acts_of lock.seat lane a.seen) (acts_of lock.seat lane h) (acts_of lock.seat lane b.seen)
      (acts_prefix lane a.seen h x.gathered) (acts_prefix lane h b.seen x.told) (x.own_told ∙ (x.own ∙ sym x.own_seen)))

module _ {settings : Settings} {start : Start} {lanes : ℕ} {old new : List Sight} {h : Happened} (round : IsRound settings start lanes old new h) where
  -- the sight of a lane behind the round, or before it
  new_of : (lane : ℕ) (a : Sight) → slice_get old lane ≡ Some a → (b : Sight) × (slice_get new lane ≡ Some b)
  new_of lane a at = let low : lane < length old = slice_get_within old lane a at in there new lane (omega (arith, low, round.many, round.same))

  old_of : (lane : ℕ) (b : Sight) → slice_get new lane ≡ Some b → (a : Sight) × (slice_get old lane ≡ Some a)
  old_of lane b at = let low : lane < length new = slice_get_within new lane b at in there old lane (omega (arith, low, round.many, round.same))

  pub is_whole : IsWhole settings start lanes old h
  is_whole = record {
    many = round.many;
    sound = round.sound;
    volumes = λ v. record {
      below = round.below v;
      seen = λ lane a at. let b = new_of lane a at in (round.volumes lane a b.0 at b.1 v).gathered;
      own = λ lane a at. let b = new_of lane a at in own_in volume_lock (round.volumes lane a b.0 at b.1 v);
      shown = λ lane a at. let b = new_of lane a at in (round.volumes lane a b.0 at b.1 v).shown_before;
    };
    directory = record {
      below = round.rows_below;
      seen = λ lane a at. let b = new_of lane a at in (round.directory lane a b.0 at b.1).gathered;
      own = λ lane a at. let b = new_of lane a at in own_in row_lock (round.directory lane a b.0 at b.1);
      shown = λ lane a at. let b = new_of lane a at in (round.directory lane a b.0 at b.1).shown_before;
    };
  }

  pub begins_at : BeginsAt lanes new h
  begins_at = record {
    many = round.same;
    volumes = λ v. record {
      seen = λ lane b at. let a = old_of lane b at in (round.volumes lane a.0 b a.1 at v).told;
      own = λ lane b at. let a = old_of lane b at in let r = round.volumes lane a.0 b a.1 at v in own_in volume_lock r ∙ sym r.own;
      shown = λ lane b at. let a = old_of lane b at in (round.volumes lane a.0 b a.1 at v).shown;
    };
    directory = record {
      seen = λ lane b at. let a = old_of lane b at in (round.directory lane a.0 b a.1 at).told;
      own = λ lane b at. let a = old_of lane b at in let r = round.directory lane a.0 b a.1 at in own_in row_lock r ∙ sym r.own;
      shown = λ lane b at. let a = old_of lane b at in (round.directory lane a.0 b a.1 at).shown;
    };
  }
