-- Which volume takes a photo, over a box.
use Rattle.std.proofs.Common.{◌≡◌, ℕ, ◌+◌, ◌<◌, ◌≤◌, Bool, true, false, List, [], ◌∷◌, Option, Some, None, refl, sym, ap, ◌∙◌, ◌⊎◌, inl, inr, arith}
use Rattle.std.specs.Prelude.{cond, not, ◌&&◌, ◌||◌, nat_lt, is_none, option_map, find}
use Rattle.std.specs.List.{AllByRecursion as Each, list_any, enumerate_from}
use Rattle.std.proofs.lemmas.Bool.{cases_Bool, cond-true, cond-false}
use Rattle.std.proofs.lemmas.Bool.Decides.{Decides-ltb}
use Rattle.hay_needle.specs.declared.settings.Settings.{Settings}
use Rattle.hay_needle.specs.Sizes.{needle_total}
use Rattle.hay_reply.specs.declared.Refused.{Refused}
use Rattle.hay_reply.specs.declared.Refused.TheVariants.{NoRoom}
use Rattle.hay_legal.specs.declared.known.ReplicaKnown.{ReplicaKnown}
use Rattle.hay_legal.specs.declared.known.Known.{Known}
use Rattle.hay_legal.specs.Known.{volume_at, closed, lacks_room, room_refusal, refusal_by, refusal_of, tries_of, machine_of}
use Rattle.hay_audit_steps.specs.BoxLaw.{TakersAreDecided, RoomsAreDecided, NarrowedBoxesStep}
use Rattle.hay_audit_steps.specs.BoxNext.{takes}
use Rattle.hay_audit_steps.specs.Slacks.{Slack, fill_replica}
use Rattle.hay_audit_steps.specs.Boxes.{Box, Has, fill}

finds_none : (settings : Settings) (size v n : ℕ) (replicas : List ReplicaKnown)
    → is_none (option_map (λ at. NoRoom v (machine_of settings v at.0) (at.1).end (needle_total size)) (find (λ at. lacks_room settings size at.1) (enumerate_from n replicas)))
    ≡ not (list_any (lacks_room settings size) replicas)
finds_none settings size v n [] = refl
finds_none settings size v n (r ∷ replicas) = by_first (cases_Bool (lacks_room settings size r)) (finds_none settings size v (n + 1) replicas)
  where
    told : ℕ → Option (ℕ × ReplicaKnown) → Option Refused
    told w o = option_map (λ at. NoRoom w (machine_of settings w at.0) (at.1).end (needle_total size)) o

    by_first : (lacks_room settings size r ≡ true) ⊎ (lacks_room settings size r ≡ false)
        → is_none (option_map (λ at. NoRoom v (machine_of settings v at.0) (at.1).end (needle_total size))
        (find (λ at. lacks_room settings size at.1) (enumerate_from (n + 1) replicas))) ≡ not (list_any (lacks_room settings size) replicas)
        → is_none (option_map (λ at. NoRoom v (machine_of settings v at.0) (at.1).end (needle_total size))
        (find (λ at. lacks_room settings size at.1) (enumerate_from n (r ∷ replicas)))) ≡ not (list_any (lacks_room settings size) (r ∷ replicas))
    by_first (inl lacking) rest =
        ap (λ (o : Option (ℕ × ReplicaKnown)). is_none (option_map (λ at. NoRoom v (machine_of settings v at.0) (at.1).end (needle_total size)) o))
        (cond-true (lacks_room settings size r) (Some (n, r)) (find (λ at. lacks_room settings size at.1) (enumerate_from (n + 1) replicas)) lacking)
        ∙ sym (ap (λ (b : Bool). not (b || list_any (lacks_room settings size) replicas)) lacking)
    by_first (inr room) rest =
        ap (λ (o : Option (ℕ × ReplicaKnown)). is_none (option_map (λ at. NoRoom v (machine_of settings v at.0) (at.1).end (needle_total size)) o))
        (cond-false (lacks_room settings size r) (Some (n, r)) (find (λ at. lacks_room settings size at.1) (enumerate_from (n + 1) replicas)) room)
        ∙ rest ∙ sym (ap (λ (b : Bool). not (b || list_any (lacks_room settings size) replicas)) room)

refuses_none : (v : ℕ) (o : Option ℕ) (room : Option Refused) → is_none (refusal_by v o room) ≡ (is_none o && is_none room)
refuses_none v None room = refl
refuses_none v (Some m) room = refl

pub takes_is : (settings : Settings) (k : Known) (size v : ℕ) → is_none (refusal_of settings k size v) ≡ takes settings k size v
takes_is settings k size v =
    refuses_none v (closed settings k v) (room_refusal settings k v size)
    ∙ ap (λ (b : Bool). is_none (closed settings k v) && b) (finds_none settings size v 0 (volume_at k v).replicas)

find_same : (f g : ℕ → Bool) (xs : List ℕ) → Each (λ x. f x ≡ g x) xs → find f xs ≡ find g xs
find_same f g [] h = refl
find_same f g (x ∷ xs) h =
    ap (λ (b : Bool). cond b (Some x) (find f xs)) h.0 ∙ ap (λ (o : Option ℕ). cond (g x) (Some x) o) (find_same f g xs h.1)

each_take : (settings : Settings) (k : Known) (size : ℕ) (free : ℕ → Bool) (tries : List ℕ) → Each (λ v. takes settings k size v ≡ free v) tries
    → Each (λ v. is_none (refusal_of settings k size v) ≡ free v) tries
each_take settings k size free [] h = tt
each_take settings k size free (v ∷ tries) h = (takes_is settings k size v ∙ h.0, each_take settings k size free tries h.1)

pub taker_decided : TakersAreDecided
taker_decided settings box pair size free xss each =
    find_same (λ v. is_none (refusal_of settings (fill xss box.base) size v)) free (tries_of settings box.base pair)
    (each_take settings (fill xss box.base) size free (tries_of settings box.base pair) each)

-- a replica's room is decided by where its end lies
room_above : (settings : Settings) (size : ℕ) (r : ReplicaKnown) (x : Slack) → settings.capacity < r.end + x.end + needle_total size + 8 → lacks_room settings size (fill_replica x r) ≡ true
room_above settings size r x h = (Decides-ltb settings.capacity (r.end + x.end + needle_total size + 8)).1 h

room_up_to : (settings : Settings) (size : ℕ) (r : ReplicaKnown) (x : Slack) → r.end + x.end + needle_total size + 8 ≤ settings.capacity → lacks_room settings size (fill_replica x r) ≡ false
room_up_to settings size r x h = by_test (cases_Bool (nat_lt settings.capacity (r.end + x.end + needle_total size + 8)))
  where
    by_test : (nat_lt settings.capacity (r.end + x.end + needle_total size + 8) ≡ true) ⊎ (nat_lt settings.capacity (r.end + x.end + needle_total size + 8) ≡ false)
        → nat_lt settings.capacity (r.end + x.end + needle_total size + 8) ≡ false
    by_test (inl lie) = absurd (omega (arith, h, (Decides-ltb settings.capacity (r.end + x.end + needle_total size + 8)).0 lie))
    by_test (inr is) = is

pub rooms_are_decided : RoomsAreDecided
rooms_are_decided settings size r x = (room_above settings size r x, room_up_to settings size r x)

pub narrowed : NarrowedBoxesStep
narrowed row box part next inside forced step = record {
  sound = each_out next step.sound;
  complete = λ k faults arms fuses t has f a r. step.complete k faults arms fuses t (forced k faults arms fuses t has r) f a r;
}
  where
    each_out : (ns : List Box) → Each (λ n. (t : Known) → Has n t → (k : Known) × Has part k × row k t) ns → Each (λ n. (t : Known) → Has n t → (k : Known) × Has box k × row k t) ns
    each_out [] h = tt
    each_out (n ∷ ns) h = ((λ t has. let one = h.0 t has in (one.0, inside one.0 one.1, one.2)), each_out ns h.1)
