-- What has room where all sizes are lowest.
use Rattle.std.proofs.Common.{◌≡◌, ℕ, zero, suc, ◌+◌, Bool, true, false, List, [], ◌∷◌, ◌++◌, drop, map, Option, Some, None, refl, sym, ap, ◌∙◌, arith}
use Rattle.std.proofs.Common.{append-nil as append_nil}
use Rattle.std.specs.Prelude.{◌&&◌, cond, nat_lt, find, is_none, option_map, slice_index_or}
use Rattle.std.specs.List.{enumerate_from}
use Rattle.hay_needle.specs.Sizes.{needle_total}
use Rattle.hay_needle.specs.declared.settings.Settings.{Settings}
use Rattle.hay_reply.specs.declared.Refused.{Refused}
use Rattle.hay_reply.specs.declared.Refused.TheVariants.{Closed, NoRoom}
use Rattle.hay_legal.specs.declared.known.ReplicaKnown.{ReplicaKnown}
use Rattle.hay_legal.specs.declared.known.VolumeKnown.{VolumeKnown}
use Rattle.hay_legal.specs.Known.{closed, empty_volume, lacks_room, machine_of, refusal_by, refusal_of, room_refusal, room_refusal_of, volume_at}
use Rattle.hay_audit_steps.specs.Boxes.{Box, fill_replicas}
use Rattle.hay_audit_steps.specs.Rooms.{first_true, full_at, lowest, refused_at, rooms}
use Rattle.hay_audit_steps.proofs.Fills.{closed_fill}
use Rattle.hay_audit_steps.proofs.Lifting.{volume_fill}
use Rattle.hay_audit_steps.specs.Slacks.{Slack, fill_replica, no_slack}
use Rattle.hay_audit.specs.Ranging.{low_replicas, room_refused}
use Rattle.hay_audit.proofs.Lists.{dropped_none}

-- the lowest replica without room, and its end
abbrev pub LacksAt : Settings → ℕ → ℕ → Box → Option (ℕ × ℕ) → Type 0
LacksAt settings size v box least = option_map (λ at. (at.0, (at.1).end)) (find (λ at. lacks_room settings size at.1) (enumerate_from 0 (low_replicas box v))) ≡ least

low_is : (box : Box) (v : ℕ) → (volume_at (lowest box) v).replicas ≡ low_replicas box v
low_is box v = ap (λ (w : VolumeKnown). w.replicas) (volume_fill box.low box.base v)

first_is : (settings : Settings) (size n : ℕ) (rs : List ReplicaKnown)
    → option_map (λ at. at.0) (find (λ at. lacks_room settings size at.1) (enumerate_from n rs)) ≡ option_map (λ i. i + n) (first_true (map (lacks_room settings size) rs))
first_is settings size n [] = refl
first_is settings size n (r ∷ rs) = by_test (lacks_room settings size r) (first_is settings size (n + 1) rs)
  where
    one_more : (o : Option ℕ) → option_map (λ i. i + (n + 1)) o ≡ option_map (λ i. i + n) (option_map suc o)
    one_more None = refl
    one_more (Some i) = ap (λ (m : ℕ). Some m) (omega arith)

    by_test : (lacks : Bool) → option_map (λ at. at.0) (find (λ at. lacks_room settings size at.1) (enumerate_from (n + 1) rs))
        ≡ option_map (λ i. i + (n + 1)) (first_true (map (lacks_room settings size) rs))
        → option_map (λ at. at.0) (cond lacks (Some (n, r)) (find (λ at. lacks_room settings size at.1) (enumerate_from (n + 1) rs)))
        ≡ option_map (λ i. i + n) (first_true (lacks ∷ map (lacks_room settings size) rs))
    by_test true h = ap (λ (m : ℕ). Some m) (omega arith)
    by_test false h = h ∙ one_more (first_true (map (lacks_room settings size) rs))

at_zero : (o : Option ℕ) → option_map (λ i. i + 0) o ≡ o
at_zero None = refl
at_zero (Some i) = ap (λ (m : ℕ). Some m) (omega arith)

number_of : (o : Option (ℕ × ReplicaKnown)) → option_map (λ (p : ℕ × ℕ). p.0) (option_map (λ (at : ℕ × ReplicaKnown). (at.0, (at.1).end)) o) ≡ option_map (λ (at : ℕ × ReplicaKnown). at.0) o
number_of None = refl
number_of (Some at) = refl

pub first_lacking : (settings : Settings) (size v : ℕ) (box : Box) (least : Option (ℕ × ℕ)) → LacksAt settings size v box least
    → first_true (rooms settings size (lowest box) v) ≡ option_map (λ at. at.0) least
first_lacking settings size v box least h =
    ap (λ (rs : List ReplicaKnown). first_true (map (lacks_room settings size) rs)) (low_is box v)
    ∙ sym (at_zero (first_true (map (lacks_room settings size) (low_replicas box v))))
    ∙ sym (first_is settings size 0 (low_replicas box v))
    ∙ sym (number_of (find (λ at. lacks_room settings size at.1) (enumerate_from 0 (low_replicas box v))))
    ∙ ap (λ (o : Option (ℕ × ℕ)). option_map (λ at. at.0) o) h

-- WHO REFUSES

room_is : (settings : Settings) (size v : ℕ) (o : Option (ℕ × ReplicaKnown))
    → option_map (λ at. NoRoom v (machine_of settings v at.0) (at.1).end (needle_total size)) o ≡ room_refused settings v size (option_map (λ at. (at.0, (at.1).end)) o)
room_is settings size v None = refl
room_is settings size v (Some at) = refl

pub refusal_low : (settings : Settings) (size v : ℕ) (box : Box) (least : Option (ℕ × ℕ)) → LacksAt settings size v box least
    → refusal_of settings (lowest box) size v ≡ refusal_by v (closed settings box.base v) (room_refused settings v size least)
refusal_low settings size v box least h =
    ap (λ (by : Option ℕ). refusal_by v by (room_refusal settings (lowest box) v size)) (closed_fill box.low settings box.base v)
    ∙ ap (λ (room : Option Refused). refusal_by v (closed settings box.base v) room)
    (ap (λ (rs : List ReplicaKnown). option_map (λ at. NoRoom v (machine_of settings v at.0) (at.1).end (needle_total size))
    (find (λ at. lacks_room settings size at.1) (enumerate_from 0 rs))) (low_is box v)
    ∙ room_is settings size v (find (λ at. lacks_room settings size at.1) (enumerate_from 0 (low_replicas box v)))
    ∙ ap (λ (o : Option (ℕ × ℕ)). room_refused settings v size o) h)

by_both : (settings : Settings) (size v : ℕ) (by : Option ℕ) (least : Option (ℕ × ℕ)) → is_none (refusal_by v by (room_refused settings v size least)) ≡ is_none by && is_none least
by_both settings size v None None = refl
by_both settings size v None (Some at) = refl
by_both settings size v (Some m) least = refl

pub takes_low : (settings : Settings) (size v : ℕ) (box : Box) (least : Option (ℕ × ℕ)) → LacksAt settings size v box least
    → is_none (refusal_of settings (lowest box) size v) ≡ is_none (closed settings box.base v) && is_none least
takes_low settings size v box least h = ap (λ (o : Option Refused). is_none o) (refusal_low settings size v box least h) ∙ by_both settings size v (closed settings box.base v) least

-- ONE REPLICA MORE

-- a replica's number and its end
abbrev pub number_end : ℕ × ReplicaKnown → ℕ × ℕ
number_end at = (at.0, (at.1).end)

record IsFilledNext (lows : List Slack) (j : ℕ) (r : ReplicaKnown) (rest : List ReplicaKnown) : Type 0 where
  filled : ReplicaKnown
  parts : fill_replicas (drop j lows) (r ∷ rest) ≡ filled ∷ fill_replicas (drop (j + 1) lows) rest
  end : filled.end ≡ r.end + (slice_index_or lows j no_slack).end

fill_next : (lows : List Slack) (j : ℕ) (r : ReplicaKnown) (rest : List ReplicaKnown) → IsFilledNext lows j r rest
fill_next [] j r rest = record {
  filled = r;
  parts = ap (λ (xs : List Slack). fill_replicas xs (r ∷ rest)) (dropped_none j) ∙ ap (λ (xs : List Slack). r ∷ fill_replicas xs rest) (sym (dropped_none (j + 1)));
  end = let none : (slice_index_or [] j no_slack).end ≡ 0 = none_there j in omega (arith, none);
}
  where
    none_there : (i : ℕ) → (slice_index_or [] i no_slack).end ≡ 0
    none_there zero = refl
    none_there (suc i) = refl
fill_next (x ∷ lows) zero r rest = record { filled = fill_replica x r; parts = refl; end = refl }
fill_next (x ∷ lows) (suc j) r rest =
    let next = fill_next lows j r rest in record {
      filled = next.filled;
      parts = next.parts ∙ ap (λ (n : ℕ). next.filled ∷ fill_replicas (drop n (x ∷ lows)) rest) (let e : suc (j + 1) ≡ suc j + 1 = omega arith in e);
      end = next.end;
    }

abbrev pub lacking_from : Settings → ℕ → ℕ → List Slack → List ReplicaKnown → Option (ℕ × ℕ)
lacking_from settings size j lows replicas = option_map number_end (find (λ at. lacks_room settings size at.1) (enumerate_from j (fill_replicas lows replicas)))

pub lacking_next : (settings : Settings) (size j : ℕ) (lows : List Slack) (replicas rest : List ReplicaKnown) (r : ReplicaKnown) (lacks : Bool) → drop j replicas ≡ r ∷ rest
    → lacks ≡ nat_lt settings.capacity ((r.end + (slice_index_or lows j no_slack).end) + needle_total size + 8)
    → lacking_from settings size j (drop j lows) (drop j replicas) ≡ cond lacks (Some (j, r.end + (slice_index_or lows j no_slack).end)) (lacking_from settings size (j + 1) (drop (j + 1) lows) rest)
lacking_next settings size j lows replicas rest r lacks first is =
    let next = fill_next lows j r rest in
    let here : lacks_room settings size next.filled ≡ lacks = ap (λ (n : ℕ). nat_lt settings.capacity (n + needle_total size + 8)) next.end ∙ sym is in
    ap (λ (rs : List ReplicaKnown). lacking_from settings size j (drop j lows) rs) first
    ∙ ap (λ (fs : List ReplicaKnown). option_map number_end (find (λ at. lacks_room settings size at.1) (enumerate_from j fs))) next.parts
    ∙ ap (λ (b : Bool). option_map number_end (cond b (Some (j, next.filled)) (find (λ at. lacks_room settings size at.1) (enumerate_from (j + 1) (fill_replicas (drop (j + 1) lows) rest))))) here
    ∙ by_test lacks next.filled next.end
  where
    by_test : (b : Bool) (s : ReplicaKnown) → s.end ≡ r.end + (slice_index_or lows j no_slack).end
        → option_map number_end (cond b (Some (j, s)) (find (λ at. lacks_room settings size at.1) (enumerate_from (j + 1) (fill_replicas (drop (j + 1) lows) rest))))
        ≡ cond b (Some (j, r.end + (slice_index_or lows j no_slack).end)) (lacking_from settings size (j + 1) (drop (j + 1) lows) rest)
    by_test true s e = ap (λ (n : ℕ). Some (j, n)) e
    by_test false s e = refl

pub lacking_none : (settings : Settings) (size j : ℕ) (lows : List Slack) → lacking_from settings size j lows [] ≡ None
lacking_none settings size j [] = refl
lacking_none settings size j (x ∷ lows) = refl

-- where there is no such volume
pub lacking_nowhere : (settings : Settings) (size v : ℕ) (box : Box) → volume_at box.base v ≡ empty_volume → LacksAt settings size v box None
lacking_nowhere settings size v box none =
    ap (λ (w : VolumeKnown). option_map number_end (find (λ at. lacks_room settings size at.1) (enumerate_from 0 (fill_replicas (slice_index_or box.low v []) w.replicas)))) none
    ∙ lacking_none settings size 0 (slice_index_or box.low v [])

-- a volume that is closed
pub closed_low : (settings : Settings) (size v m : ℕ) (box : Box) → closed settings box.base v ≡ Some m → refusal_of settings (lowest box) size v ≡ Some (Closed v m)
closed_low settings size v m box is = ap (λ (by : Option ℕ). refusal_by v by (room_refusal settings (lowest box) v size)) (closed_fill box.low settings box.base v ∙ is)

-- where no replica lacks room, none is refused for it
pub nothing_lacks : (settings : Settings) (size v : ℕ) (box : Box) (refused : Refused) (out : List Box) (v' m end need : ℕ) → LacksAt settings size v box None → refused ≡ NoRoom v' m end need
    → out ≡ out ++ refused_at settings size box v None refused
nothing_lacks settings size v box refused out v' m end need h e =
    sym (append_nil out)
    ∙ ap (λ (ds : List Box). out ++ ds)
    (sym (ap (λ (r : Refused). refused_at settings size box v None r) e ∙ ap (λ (o : Option ℕ). full_at box v end o) (first_lacking settings size v box None h)))
