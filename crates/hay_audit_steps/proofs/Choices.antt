-- What a restart makes of a volume with all its replicas.
use Rattle.std.proofs.Common.{◌≡◌, ℕ, zero, suc, ◌+◌, ◌≤◌, Bool, true, false, List, [], ◌∷◌, length, Option, Some, None, refl, sym, ap, subst, ◌∙◌, inl, inr}
use Rattle.std.specs.Prelude.{map, not, slice_index_or}
use Rattle.std.specs.List.{AllByRecursion as Each}
use Rattle.hay_needle.specs.declared.settings.Settings.{Settings}
use Rattle.hay_needle.specs.Tables.{Table, outcome_at, live_end}
use Rattle.hay_core.specs.Entries.{after, entries_of}
use Rattle.hay_core.specs.declared.entry.Logged.{Logged}
use Rattle.hay_core.specs.declared.entry.Entry.{Entry}
use Rattle.hay_core.specs.declared.entry.Entry.TheVariants as entry
use Rattle.hay_legal.specs.declared.known.Pending.{Pending}
use Rattle.hay_legal.specs.declared.known.ReplicaKnown.{ReplicaKnown}
use Rattle.hay_legal.specs.declared.known.VolumeKnown.{VolumeKnown}
use Rattle.hay_legal.specs.Known.{empty_volume, empty_replica, now, stands}
use Rattle.hay_legal.specs.Restarts.{ReopenedReplica, ReopenedReplicas, ReopenedVolume, MayKeep, KeptAfter, KeptBelow, nothing_at, with_entries, kept_entry, is_kept}
use Rattle.hay_audit_steps.specs.Law.{VolumesReopenSound, VolumesReopenComplete}
use Rattle.hay_audit_steps.specs.CheckerSteps.{AnyOf}
use Rattle.hay_audit_steps.specs.Slacks.{Lies}
use Rattle.hay_audit_steps.specs.Parts.{Part, In, InParts, InVolumeParts, ArePartsOf, choices_with, reopened_parts, reopened_choices}
use Rattle.hay_audit_steps.proofs.Laying.{any_left, any_right, each_both}
use Rattle.hay_audit_steps.proofs.Parts.{parts_sound, parts_complete}

-- CHOICES

each_with : {X : Type 0} (Q R : List X → Type 0) (first : X) → ((rest : List X) → Q rest → R (first ∷ rest)) → (rests : List (List X)) → Each Q rests
    → Each R (map (λ rest. first ∷ rest) rests)
each_with Q R first step [] h = tt
each_with Q R first step (rest ∷ rests) h = (step rest h.0, each_with Q R first step rests h.1)

pub each_choice : {X : Type 0} (P : X → Type 0) (Q R : List X → Type 0) → ((first : X) (rest : List X) → P first → Q rest → R (first ∷ rest))
    → (firsts : List X) (rests : List (List X)) → Each P firsts → Each Q rests → Each R (choices_with firsts rests)
each_choice P Q R step [] rests h g = tt
each_choice P Q R step (first ∷ firsts) rests h g =
    each_both R (map (λ rest. first ∷ rest) rests) (choices_with firsts rests)
    (each_with Q R first (λ rest q. step first rest h.0 q) rests g) (each_choice P Q R step firsts rests h.1 g)

any_with : {X : Type 0} (Q R : List X → Type 0) (first : X) → ((rest : List X) → Q rest → R (first ∷ rest)) → (rests : List (List X)) → AnyOf Q rests
    → AnyOf R (map (λ rest. first ∷ rest) rests)
any_with Q R first step [] h = absurd h
any_with Q R first step (rest ∷ rests) h = elim h [ inl here ↦ inl (step rest here) | inr there ↦ inr (any_with Q R first step rests there) ]

pub any_choice : {X : Type 0} (P : X → Type 0) (Q R : List X → Type 0) → ((first : X) (rest : List X) → P first → Q rest → R (first ∷ rest))
    → (firsts : List X) (rests : List (List X)) → AnyOf P firsts → AnyOf Q rests → AnyOf R (choices_with firsts rests)
any_choice P Q R step [] rests h g = absurd h
any_choice P Q R step (first ∷ firsts) rests h g = elim h [
  | inl here ↦ any_left R (map (λ rest. first ∷ rest) rests) (choices_with firsts rests) (any_with Q R first (λ rest q. step first rest here q) rests g)
  | inr there ↦ any_right R (map (λ rest. first ∷ rest) rests) (choices_with firsts rests) (any_choice P Q R step firsts rests there g)
]

-- BOTH WAYS

abbrev ComesOf : VolumeKnown → List Bool → ℕ → List Part → List Part → Type 0
ComesOf volume kept j parts nexts =
    (news : List ReplicaKnown) → InParts nexts news → (olds : List ReplicaKnown) × InParts parts olds × ReopenedReplicas volume kept j olds news

none_come : (volume : VolumeKnown) (kept : List Bool) (j : ℕ) → ComesOf volume kept j [] []
none_come volume kept j [] h = ([], tt, tt)
none_come volume kept j (new ∷ news) h = absurd h

one_more_comes : (volume : VolumeKnown) (kept : List Bool) (j : ℕ) (part : Part) (parts : List Part) (first : Part) (rest : List Part)
    → ((new : ReplicaKnown) → In first new → (old : ReplicaKnown) × In part old × ReopenedReplica volume old (kept_entry volume.pending (is_kept kept j)) new)
    → ComesOf volume kept (j + 1) parts rest → ComesOf volume kept j (part ∷ parts) (first ∷ rest)
one_more_comes volume kept j part parts first rest one others [] h = absurd h
one_more_comes volume kept j part parts first rest one others (new ∷ news) h =
    let old = one new h.0 in
    let olds = others news h.1 in
    (old.0 ∷ olds.0, (old.1, olds.1), (old.2, olds.2))

choices_sound : (volume : VolumeKnown) (kept : List Bool) (j : ℕ) (parts : List Part) → Each (λ part. Lies part.low part.high) parts
    → Each (ComesOf volume kept j parts) (reopened_choices volume kept j parts)
choices_sound volume kept j [] some = (none_come volume kept j, tt)
choices_sound volume kept j (part ∷ parts) some =
    each_choice _ (ComesOf volume kept (j + 1) parts) (ComesOf volume kept j (part ∷ parts))
    (λ first rest one others. one_more_comes volume kept j part parts first rest one others)
    (reopened_parts volume part (kept_entry volume.pending (is_kept kept j))) (reopened_choices volume kept (j + 1) parts)
    (parts_sound volume part (kept_entry volume.pending (is_kept kept j)) some.0) (choices_sound volume kept (j + 1) parts some.1)

choices_complete : (volume : VolumeKnown) (kept : List Bool) (j : ℕ) (parts : List Part) (olds news : List ReplicaKnown) → InParts parts olds → ReopenedReplicas volume kept j olds news
    → AnyOf (λ nexts. InParts nexts news) (reopened_choices volume kept j parts)
choices_complete volume kept j [] [] [] h reopened = inl tt
choices_complete volume kept j [] [] (new ∷ news) h reopened = absurd reopened
choices_complete volume kept j [] (old ∷ olds) news h reopened = absurd h
choices_complete volume kept j (part ∷ parts) [] news h reopened = absurd h
choices_complete volume kept j (part ∷ parts) (old ∷ olds) [] h reopened = absurd reopened
choices_complete volume kept j (part ∷ parts) (old ∷ olds) (new ∷ news) h reopened =
    any_choice (λ first. In first new) (λ rest. InParts rest news) (λ nexts. InParts nexts (new ∷ news)) (λ first rest one others. (one, others))
    (reopened_parts volume part (kept_entry volume.pending (is_kept kept j))) (reopened_choices volume kept (j + 1) parts)
    (parts_complete volume part (kept_entry volume.pending (is_kept kept j)) old new h.0 reopened.0) (choices_complete volume kept (j + 1) parts olds news h.1 reopened.1)

-- THE SAME VOLUME WITH OTHER SIZES

abbrev Bases : List Part → List ReplicaKnown
Bases parts = map (λ part. part.base) parts

bases_of : (parts : List Part) (replicas : List ReplicaKnown) (j : ℕ) → InParts parts replicas
    → (slice_index_or replicas j empty_replica).base ≡ (slice_index_or (Bases parts) j empty_replica).base
bases_of [] [] j h = refl
bases_of (part ∷ parts) (r ∷ replicas) zero h = ap (λ (x : ReplicaKnown). x.base) (h.0).is
bases_of (part ∷ parts) (r ∷ replicas) (suc j) h = bases_of parts replicas j h.1
bases_of [] (r ∷ replicas) j h = absurd h
bases_of (part ∷ parts) [] j h = absurd h

long_of : (parts : List Part) (replicas : List ReplicaKnown) → InParts parts replicas → length replicas ≡ length (Bases parts)
long_of [] [] h = refl
long_of (part ∷ parts) (r ∷ replicas) h = ap suc (long_of parts replicas h.1)
long_of [] (r ∷ replicas) h = absurd h
long_of (part ∷ parts) [] h = absurd h

abbrev with_replicas : VolumeKnown → List ReplicaKnown → VolumeKnown
with_replicas volume replicas = record volume { replicas = replicas }

-- where tables and numbers of replicas are the same, the same may be kept
record IsLike (a c : VolumeKnown) : Type 0 where
  frozen : a.frozen ≡ c.frozen
  long : length a.replicas ≡ length c.replicas
  nothing : (change : Entry) (j : ℕ) → nothing_at a change j ≡ nothing_at c change j

kept_like : (a c : VolumeKnown) (change : Entry) (f : ℕ) (kept : List Bool) → IsLike a c → KeptBelow a change f kept → KeptBelow c change f kept
kept_like a c change f kept like h = record {
  below = h.below;
  nothing = λ j within none. h.nothing j within (like.nothing change j ∙ none);
  above = λ j more within some. h.above j more within (like.nothing change j ∙ some);
}

after_like : (settings : Settings) (v : ℕ) (a c : VolumeKnown) (pending : Pending) (failed : Bool) (kept : List Bool) → IsLike a c
    → KeptAfter settings v a pending failed kept → KeptAfter settings v c pending failed kept
after_like settings v a c pending true kept like h = (h.0, h.1, sym like.frozen ∙ h.2, h.3, kept_like a c pending.entry h.1 kept like h.4)
after_like settings v a c pending false kept like h = h

may_like : (settings : Settings) (v : ℕ) (a c : VolumeKnown) (pending : Option Pending) (kept : List Bool) → IsLike a c
    → MayKeep settings v a pending kept → MayKeep settings v c pending kept
may_like settings v a c None kept like h = h
may_like settings v a c (Some pending) kept like h = (h.0 ∙ like.long, after_like settings v a c pending pending.failed kept like h.1)

like_back : (a c : VolumeKnown) → IsLike a c → IsLike c a
like_back a c like = record { frozen = sym like.frozen; long = sym like.long; nothing = λ change j. sym (like.nothing change j) }

nothing_in : (volume : VolumeKnown) (parts : List Part) (replicas : List ReplicaKnown) → Bases parts ≡ volume.replicas → InParts parts replicas → (change : Entry) (j : ℕ)
    → nothing_at (with_replicas volume replicas) change j ≡ nothing_at volume change j
nothing_in volume parts replicas bases h (entry.Put pair cookie bytes) j = refl
nothing_in volume parts replicas bases h (entry.Del pair) j =
    ap (λ (table : Table). not (stands (outcome_at (after (entries_of volume.log) (length volume.log) table) pair)))
    (bases_of parts replicas j h ∙ ap (λ (rs : List ReplicaKnown). (slice_index_or rs j empty_replica).base) bases)

is_like : (volume : VolumeKnown) (parts : List Part) (replicas : List ReplicaKnown) → Bases parts ≡ volume.replicas → InParts parts replicas → IsLike (with_replicas volume replicas) volume
is_like volume parts replicas bases h = record {
  frozen = refl;
  long = long_of parts replicas h ∙ ap (λ (rs : List ReplicaKnown). length rs) bases;
  nothing = nothing_in volume parts replicas bases h;
}

-- the log alone counts for a replica
replica_again : (a c : VolumeKnown) (old new : ReplicaKnown) (kept : List Entry) → a.log ≡ c.log → ReopenedReplica a old kept new → ReopenedReplica c old kept new
replica_again a c old new kept log h =
    let table : now a old ≡ now c old = ap (λ (logged : List Logged). after (entries_of logged) (length logged) old.base) log in
    record {
      base = h.base ∙ ap (λ (t : Table). with_entries t kept) table;
      stands = elim h.stands [
        | inl stands ↦ inl stands
        | inr swapped ↦ inr (record {
          poised = swapped.poised;
          end = subst (λ (t : Table). live_end t ≤ new.end) table swapped.end;
          no_longer = swapped.no_longer;
          cells = subst (λ (t : Table). length t ≤ new.cells) table swapped.cells;
          no_more = swapped.no_more;
          bare = swapped.bare;
          generation = swapped.generation;
        })
      ];
      loose = h.loose;
      idle = h.idle;
      settled = h.settled;
    }

replicas_again : (a c : VolumeKnown) (kept : List Bool) (j : ℕ) (olds news : List ReplicaKnown) → a.log ≡ c.log → a.pending ≡ c.pending
    → ReopenedReplicas a kept j olds news → ReopenedReplicas c kept j olds news
replicas_again a c kept j [] [] log pending h = tt
replicas_again a c kept j (old ∷ olds) (new ∷ news) log pending h = (
  subst (λ (p : Option Pending). ReopenedReplica c old (kept_entry p (is_kept kept j)) new) pending (replica_again a c old new (kept_entry a.pending (is_kept kept j)) log h.0),
  replicas_again a c kept (j + 1) olds news log pending h.1,
)
replicas_again a c kept j [] (new ∷ news) log pending h = absurd h
replicas_again a c kept j (old ∷ olds) [] log pending h = absurd h

-- A VOLUME

volume_comes : (settings : Settings) (v : ℕ) (volume : VolumeKnown) (parts : List Part) (kept : List Bool) → ArePartsOf volume parts → MayKeep settings v volume volume.pending kept
    → (choices : List (List Part)) → Each (ComesOf volume kept 0 parts) choices
    → Each (λ nexts. (new : VolumeKnown) → InVolumeParts empty_volume nexts new → (old : VolumeKnown) × InVolumeParts volume parts old × ReopenedVolume settings v old kept new) choices
volume_comes settings v volume parts kept are may [] h = tt
volume_comes settings v volume parts kept are may (nexts ∷ choices) h = (
  (λ new is.
      let olds = h.0 new.replicas is.replicas in
      let old : VolumeKnown = with_replicas volume olds.0 in (
        with_replicas volume olds.0,
        record { same = refl; replicas = olds.1 },
        record {
          may = may_like settings v volume (with_replicas volume olds.0) volume.pending kept (like_back (with_replicas volume olds.0) volume (is_like volume parts olds.0 are.bases olds.1)) may;
          replicas = replicas_again volume (with_replicas volume olds.0) kept 0 olds.0 new.replicas refl refl olds.2;
          log = ap (λ (x : VolumeKnown). x.log) is.same;
          frozen = ap (λ (x : VolumeKnown). x.frozen) is.same;
          pending = ap (λ (x : VolumeKnown). x.pending) is.same;
        },
      )),
  volume_comes settings v volume parts kept are may choices h.1,
)

pub volumes_reopen_sound : VolumesReopenSound
volumes_reopen_sound settings v volume parts kept are may =
    volume_comes settings v volume parts kept are may (reopened_choices volume kept 0 parts) (choices_sound volume kept 0 parts are.some)

any_volume : (new : VolumeKnown) → new ≡ with_replicas empty_volume new.replicas → (choices : List (List Part)) → AnyOf (λ nexts. InParts nexts new.replicas) choices
    → AnyOf (λ nexts. InVolumeParts empty_volume nexts new) choices
any_volume new same [] h = h
any_volume new same (nexts ∷ choices) h = elim h [ inl here ↦ inl (record { same = same; replicas = here }) | inr there ↦ inr (any_volume new same choices there) ]

new_same : (new : VolumeKnown) → new.log ≡ [] → new.frozen ≡ None → new.pending ≡ None → new ≡ with_replicas empty_volume new.replicas
new_same new log frozen pending =
    ap (λ (x : _). record new { log = x }) log
    ∙ ap (λ (x : _). record new { log = []; frozen = x }) frozen
    ∙ ap (λ (x : _). record new { log = []; frozen = None; pending = x }) pending

pub volumes_reopen_complete : VolumesReopenComplete
volumes_reopen_complete settings v volume parts kept old new are is h =
    let log : old.log ≡ volume.log = ap (λ (x : VolumeKnown). x.log) is.same in
    let pending : old.pending ≡ volume.pending = ap (λ (x : VolumeKnown). x.pending) is.same in
    let may : MayKeep settings v (with_replicas volume old.replicas) volume.pending kept =
    subst (λ (x : VolumeKnown). MayKeep settings v x x.pending kept) is.same h.may in (
      may_like settings v (with_replicas volume old.replicas) volume volume.pending kept (is_like volume parts old.replicas are.bases is.replicas) may,
      any_volume new (new_same new h.log h.frozen h.pending) (reopened_choices volume kept 0 parts)
          (choices_complete volume kept 0 parts old.replicas new.replicas is.replicas (replicas_again old volume kept 0 old.replicas new.replicas log pending h.replicas)),
    )
