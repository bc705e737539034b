-- A change of each value of a map by `retain`, at any key.
use Rattle.std.proofs.Common.{◌≡◌, Bool, true, false, cond, List, [], ◌∷◌, Option, Some, None, refl, sym, ◌∙◌, ap, subst, arith}
use Rattle.std.specs.Map.{lookup}
use Rattle.std.specs.Map.Calls.{RetainsPairs}
use Rattle.hay_disk.specs.Disk.{IsSolid}
use Rattle.hay_memdisk.specs.declared.file.MemFile.{MemFile}
use Rattle.hay_memdisk.specs.Mem.{file_at, drawn_at, Cycles, Settles}

-- what each call does to a value, the whole does at each key
pub each_value : {F K X : Type 0} (T : F → K → X → Bool → X → F → Type 0) (R : Option X → Option X → Type 0) (none : R None None)
    (calls : (g : F) (k : K) (v : X) (b : Bool) (w : X) (g' : F) → T g k v b w g' → (b ≡ true) × R (Some v) (Some w)) (f : F) (es kept : List (K × X)) → RetainsPairs T f es kept
    → (test : K → Bool) → R (lookup test es) (lookup test kept)
each_value {F} {K} {X} T R none calls f [] kept retains test = subst (λ (l : List (K × X)). R None (lookup test l)) (sym retains) none
each_value {F} {K} {X} T R none calls f (e ∷ es) kept (b, w, f', rest, called, retains, is) test =
    let met = calls f e.0 e.1 b w f' called in
    let kept_is : kept ≡ (e.0, w) ∷ rest = is ∙ ap (λ (c : Bool). cond c ((e.0, w) ∷ rest) rest) met.0 in
    let there : R (lookup test es) (lookup test rest) = each_value T R none calls f' es rest retains test in
    subst (λ (l : List (K × X)). R (lookup test (e ∷ es)) (lookup test l)) (sym kept_is) (at (test e.0) e.1 w met.1 (lookup test es) (lookup test rest) there)
  where
    at : (hit : Bool) (old new : X) → R (Some old) (Some new) → (olds news : Option X) → R olds news → R (cond hit (Some old) olds) (cond hit (Some new) news)
    at true old new here olds news there = here
    at false old new here olds news there = there

-- nothing becomes of a file that there is not
none_solid : IsSolid (file_at None)
none_solid = record { places = λ k. refl; shortest = omega arith; longest = omega arith }

-- what a stop does to each file
abbrev pub CyclesAt : Option MemFile → Option MemFile → Type 0
CyclesAt old new = Cycles (file_at old) (file_at new) (drawn_at new)

pub none_cycles : CyclesAt None None
none_cycles = record { left = record { no_shorter = omega arith; no_longer = omega arith; same = λ k _. refl }; solid = none_solid; free = λ k. refl; drawn = refl }

-- what a settling does to each file
abbrev pub SettlesAt : Option MemFile → Option MemFile → Type 0
SettlesAt old new = Settles (file_at old) (file_at new) (drawn_at old) (drawn_at new)

pub none_settles : SettlesAt None None
none_settles = record { now = refl; solid = none_solid; free = λ k. refl; drawn = refl }
