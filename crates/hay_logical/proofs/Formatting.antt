-- A replica that was opened is formatted.
use Rattle.std.proofs.Common.{◌≡◌, inl, ℕ, List, [], ◌∷◌, length, refl, sym, ap, ◌∙◌, arith}
use Rattle.hay_needle.specs.declared.settings.Super.{Super}
use Rattle.hay_disk.specs.Disk.{Files}
use Rattle.hay_open.specs.Stored.{OpensAs, Stored, fresh_stored}
use Rattle.hay_physical.specs.OpenCopies.{Copy, contents_of}
use Rattle.hay_physical.specs.Replicas.{Stands}
use Rattle.hay_logical.specs.ReplicaCalls.{KeepsDisk}

stands_formatted : {D : Type 0} (files : D → Files) (r : Copy D) (s : Stored) → Stands files r s → contents_of files r.disk 0 ≡ [] → ⊥
unfolding Stands
stands_formatted files r s stands void = omega (arith, stands.stand.head.is.closed.room, ap length void)

void_opens : (sup : Super) (contents : ℕ → List ℕ) → contents 0 ≡ [] → OpensAs sup contents fresh_stored
unfolding OpensAs
void_opens sup contents void = inl (void, refl)

pub opened_formatted : {D : Type 0} (files : D → Files) (r r' : Copy D) (old : List ℕ) → contents_of files r.disk 0 ≡ old
    → ((s : Stored) → OpensAs r.sup (contents_of files r.disk) s → Stands files r' s)
    → KeepsDisk files r r' → contents_of files r'.disk 0 ≡ [] → ⊥
opened_formatted files r r' [] is opens keeps void = stands_formatted files r' fresh_stored (opens fresh_stored (void_opens r.sup (contents_of files r.disk) is)) void
opened_formatted files r r' (x ∷ xs) is opens keeps void =
    let some : contents_of files r.disk 0 ≡ [] → ⊥ = λ none. (let wrong : x ∷ xs ≡ [] = sym is ∙ none in absurd cc) in
    let wrong : x ∷ xs ≡ [] = sym is ∙ sym (keeps.kept some 0).0 ∙ void in
    absurd cc
