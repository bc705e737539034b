-- The disks of the replicas that are tried before one.
use Rattle.std.proofs.Common.{◌≡◌, ℕ, ◌+◌, ◌-◌, ◌<◌, ◌%◌, Bool, List, [], ◌∷◌, ◌++◌, refl, sym, ap, ◌∙◌, append_assoc}
use Rattle.std.specs.Prelude.{cond, map, not, take_while, ◌==◌}
use Rattle.std.specs.List.{range_with_len}
use Rattle.std.proofs.lemmas.Bool.{eq-eqb, ne_eqb}
use Rattle.std.proofs.lemmas.List.Sums.{take_while-cons}
use Rattle.hay_needle.specs.declared.settings.Settings.{Settings}
use Rattle.hay_legal.specs.Known.{slot_of}
use Rattle.hay_audit.proofs.Lists.{range_next}

-- those from the number i on
abbrev pub slots_from : Settings → ℕ → ℕ → ℕ → ℕ → List ℕ
slots_from settings v start j i =
    map (slot_of settings v) (take_while (λ n. not (n == j)) (map (λ n. (start + n) % settings.replicas) (range_with_len i (settings.replicas - i))))

slots_step : (settings : Settings) (v start j i : ℕ) → i < settings.replicas
    → slots_from settings v start j i
    ≡ map (slot_of settings v) (cond (not ((start + i) % settings.replicas == j)) ((start + i) % settings.replicas
    ∷ take_while (λ n. not (n == j)) (map (λ n. (start + n) % settings.replicas) (range_with_len (i + 1) (settings.replicas - (i + 1))))) [])
slots_step settings v start j i h =
    ap (λ (ns : List ℕ). map (slot_of settings v) (take_while (λ n. not (n == j)) (map (λ n. (start + n) % settings.replicas) ns))) (range_next i settings.replicas h)
    ∙ ap (λ (ns : List ℕ). map (slot_of settings v) ns)
    (take_while-cons (λ n. not (n == j)) ((start + i) % settings.replicas) (map (λ n. (start + n) % settings.replicas) (range_with_len (i + 1) (settings.replicas - (i + 1)))))

nothing_behind : (xs : List ℕ) → xs ++ [] ≡ xs
nothing_behind [] = refl
nothing_behind (x ∷ xs) = ap (λ (ys : List ℕ). x ∷ ys) (nothing_behind xs)

-- what is before is all, where the replica itself comes
pub slots_here : (settings : Settings) (v start j i at : ℕ) (slots : List ℕ) → i < settings.replicas → at ≡ (start + i) % settings.replicas → at ≡ j → slots ++ slots_from settings v start j i ≡ slots
slots_here settings v start j i at slots h is e =
    ap (λ (ns : List ℕ). slots ++ ns)
    (slots_step settings v start j i h
    ∙ ap (λ (b : Bool). map (slot_of settings v) (cond (not b) ((start + i) % settings.replicas
    ∷ take_while (λ n. not (n == j)) (map (λ n. (start + n) % settings.replicas) (range_with_len (i + 1) (settings.replicas - (i + 1))))) []))
    (eq-eqb ((start + i) % settings.replicas) j (sym is ∙ e)))
    ∙ nothing_behind slots

-- and goes on, where another comes
pub slots_next : (settings : Settings) (v start j i at slot : ℕ) (slots new : List ℕ) → i < settings.replicas → at ≡ (start + i) % settings.replicas → (at ≡ j → ⊥)
    → slot ≡ slot_of settings v at → new ≡ slots ++ slot ∷ []
    → slots ++ slots_from settings v start j i ≡ new ++ slots_from settings v start j (i + 1)
slots_next settings v start j i at slot slots new h is apart own made =
    ap (λ (ns : List ℕ). slots ++ ns)
    (slots_step settings v start j i h
    ∙ ap (λ (b : Bool). map (slot_of settings v) (cond (not b) ((start + i) % settings.replicas
    ∷ take_while (λ n. not (n == j)) (map (λ n. (start + n) % settings.replicas) (range_with_len (i + 1) (settings.replicas - (i + 1))))) []))
    (ne_eqb ((start + i) % settings.replicas) j (λ e. apart (is ∙ e))))
    ∙ sym (append_assoc slots (slot_of settings v ((start + i) % settings.replicas) ∷ []) (slots_from settings v start j (i + 1)))
    ∙ ap (λ (n : ℕ). (slots ++ n ∷ []) ++ slots_from settings v start j (i + 1)) (ap (λ (n : ℕ). slot_of settings v n) (sym is) ∙ sym own)
    ∙ ap (λ (ns : List ℕ). ns ++ slots_from settings v start j (i + 1)) (sym made)
