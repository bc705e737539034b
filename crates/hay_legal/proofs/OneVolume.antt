-- The rows over one volume with one replica, from the facts that its code knows.
use Rattle.std.specs.Prelude.{◌≡◌, ℕ, ◌+◌, ◌%◌, ◌<◌, ◌≤◌, ◌⊎◌, true, false, nat_lt, cond, List, [], ◌∷◌, ◌++◌, replicate, refl, Some, None, map, length, is_none, find}
use Rattle.std.proofs.Common.{arith, ap, inl, inr, ◌∙◌}
use Rattle.std.proofs.lemmas.Bool.Decides.{nat_tests}
use Rattle.hay_needle.specs.declared.settings.Settings.{Settings}
use Rattle.hay_needle.specs.declared.needle.Pair.{Pair}
use Rattle.hay_needle.specs.declared.needle.Cookie.{Cookie}
use Rattle.hay_needle.specs.declared.needle.Outcome.TheVariants as outcome
use Rattle.hay_url.specs.Url.{cookie_of}
use Rattle.hay_reply.specs.declared.Reply.TheVariants as reply
use Rattle.hay_reply.specs.declared.Refused.TheVariants.{NoRoom}
use Rattle.hay_core.specs.declared.entry.CoreTag.{CoreTag}
use Rattle.hay_core.specs.declared.entry.Entry.TheVariants as entry
use Rattle.hay_needle.specs.Tables.{outcome_at}
use Rattle.hay_needle.specs.Sizes.{needle_total}
use Rattle.hay_core.specs.declared.entry.Logged.{Logged}
use Rattle.hay_legal.specs.declared.known.ReplicaKnown.{ReplicaKnown}
use Rattle.hay_legal.specs.declared.known.VolumeKnown.{VolumeKnown}
use Rattle.hay_legal.specs.declared.known.HomeRow.{HomeRow}
use Rattle.hay_legal.specs.declared.known.Known.{Known}
use Rattle.hay_legal.specs.Known.{home_in, settled, refusal_of, taker_of, tries_by, now}
use Rattle.hay_legal.specs.Plain.{LegalPut, LegalShow, grown}
use Rattle.hay_legal.proofs.Steps.{none_falls}

abbrev pub only : ℕ → List ℕ → Settings
only capacity secret = record { machines = 1; volumes = 1; replicas = 1; capacity = capacity; secret = secret }

abbrev pub volume_with : List Logged → ReplicaKnown → VolumeKnown
volume_with log replica = record { log = log; frozen = None; pending = None; replicas = replica ∷ [] }

abbrev pub known_with : List Logged → ReplicaKnown → List HomeRow → ℕ → Known
known_with log replica rows faults = record {
  volumes = volume_with log replica ∷ [];
  directory = record { rows = rows; frozen = false; pending = None };
  drained = false ∷ [];
  faults = 0 ∷ faults ∷ [];
  arms = replicate 8 0;
  fuses = 0 ∷ 0 ∷ [];
}

-- every home is volume 0
abbrev pub AllInZero : List HomeRow → Pair → Type 0
AllInZero rows pair = (home_in rows pair ≡ None) ⊎ (home_in rows pair ≡ Some 0)

mod_one : (n : ℕ) → n % 1 ≡ 0
mod_one n = omega arith

-- the only try is volume 0
tries_zero : (capacity : ℕ) (secret : List ℕ) (rows : List HomeRow) (pair : Pair) → AllInZero rows pair
    → tries_by (only capacity secret) pair (home_in rows pair) ≡ 0 ∷ []
tries_zero capacity secret rows pair (inl none) = rw none (ap (λ n. n ∷ []) (mod_one (pair.key + 0)))
tries_zero capacity secret rows pair (inr zero) = rw zero refl

has_room : (capacity need : ℕ) → need ≤ capacity → nat_lt capacity need ≡ false
has_room capacity need h = grind (arith, nat_tests, h)

no_refusal : (capacity : ℕ) (secret : List ℕ) (log : List Logged) (replica : ReplicaKnown) (rows : List HomeRow) (faults size : ℕ)
    → replica.end + needle_total size + 8 ≤ capacity
    → refusal_of (only capacity secret) (known_with log replica rows faults) size 0 ≡ None
no_refusal capacity secret log replica rows faults size fits = rw (has_room capacity _ fits) refl

pub takes : (capacity : ℕ) (secret : List ℕ) (log : List Logged) (replica : ReplicaKnown) (rows : List HomeRow) (faults size : ℕ) (pair : Pair)
    → AllInZero rows pair → replica.end + needle_total size + 8 ≤ capacity
    → taker_of (only capacity secret) (known_with log replica rows faults) pair size ≡ Some 0
takes capacity secret log replica rows faults size pair zero fits =
    ap (find (λ v. is_none (refusal_of (only capacity secret) (known_with log replica rows faults) size v))) (tries_zero capacity secret rows pair zero)
    ∙ ap (λ r. cond (is_none r) (Some 0) None) (no_refusal capacity secret log replica rows faults size fits)

-- stored, where the photo fits
pub stored : (capacity : ℕ) (secret : List ℕ) (log : List Logged) (replica : ReplicaKnown) (rows : List HomeRow) (faults : ℕ) (tag : CoreTag) (pair : Pair) (bytes : List ℕ)
    → AllInZero rows pair → replica.end + needle_total (length bytes) + 8 ≤ capacity
    → LegalPut (only capacity secret) (known_with log replica rows faults) tag pair bytes
    (reply.Stored 0 (length log + 1) (length (settled rows pair 0)) (cookie_of secret pair.key))
    (known_with (log ++ record { tag = tag; entry = entry.Put pair (cookie_of secret pair.key) bytes } ∷ []) (grown (length bytes) replica) (settled rows pair 0) faults)
stored capacity secret log replica rows faults tag pair bytes zero fits = record {
  taker = takes capacity secret log replica rows faults (length bytes) pair zero fits;
  directory = λ missing. refl;
  own = refl;
  position = refl;
  rows = refl;
  leaves = record { volumes = refl; directory = refl; drained = refl; fuses = refl; faults = none_falls (0 ∷ faults ∷ []); arms = none_falls (replicate 8 0) };
}

-- full, where it does not
pub full : (capacity : ℕ) (secret : List ℕ) (log : List Logged) (replica : ReplicaKnown) (rows : List HomeRow) (faults : ℕ) (tag : CoreTag) (pair : Pair) (bytes : List ℕ)
    → AllInZero rows pair → capacity < replica.end + needle_total (length bytes) + 8
    → LegalPut (only capacity secret) (known_with log replica rows faults) tag pair bytes
    (reply.Full (NoRoom 0 0 replica.end (needle_total (length bytes)) ∷ [])) (known_with log replica rows faults)
full capacity secret log replica rows faults tag pair bytes zero lacks =
    let no_room : nat_lt capacity (replica.end + needle_total (length bytes) + 8) ≡ true = grind (arith, nat_tests, lacks) in (
      ap (map (refusal_of (only capacity secret) (known_with log replica rows faults) (length bytes))) (tries_zero capacity secret rows pair zero)
          ∙ rw no_room refl,
      refl,
      record { volumes = refl; directory = refl; drained = refl; fuses = refl; faults = none_falls (0 ∷ faults ∷ []); arms = none_falls (replicate 8 0) },
    )

-- a photo, where the table has it
pub shown : (capacity : ℕ) (secret : List ℕ) (log : List Logged) (replica : ReplicaKnown) (rows : List HomeRow) (faults : ℕ) (tag : CoreTag) (pair : Pair) (cookie : Cookie) (bytes : List ℕ)
    → home_in rows pair ≡ Some 0
    → outcome_at (now (volume_with log replica) replica) pair ≡ outcome.Photo (record { cookie = cookie; bytes = bytes })
    → LegalShow (only capacity secret) (known_with log replica rows faults) tag 0 pair cookie
    (reply.Photo 0 0 (length log) (length rows) bytes) (known_with log replica rows faults)
shown capacity secret log replica rows faults tag pair cookie bytes home stands = record {
  seen = record { home = home; front = refl; rows = refl };
  replica = 0;
  there = refl;
  stands = stands;
  passed = inl (omega arith);
  leaves = record { volumes = refl; directory = refl; drained = refl; fuses = refl; faults = none_falls (0 ∷ faults ∷ []); arms = none_falls (replicate 8 0) };
}
