-- The bytes of each replica's files through the calls of a volume that change none.
use Rattle.std.proofs.Common.{◌≡◌, ℕ, ◌<◌, List, length, sym, ap, subst, ◌∙◌, arith}
use Rattle.std.specs.Prelude.{map}
use Rattle.hay_disk.specs.Disk.{Files}
use Rattle.hay_open.specs.Stored.{volume_file}
use Rattle.hay_physical.specs.OpenCopies.{Copy, generation_of, volume_bytes}
use Rattle.hay_logical.specs.ReplicaCalls.{CallsOne, KeepsBytes, KeepsFiles}
use Rattle.hay_logical.proofs.Lists.{at_below, at_map, at_same, at_there}
use Rattle.hay_logical.specs.Fits.{At}
use Rattle.hay_logical.specs.Seen.{ReplicaSeen, replica_seen}
use Rattle.hay_logical.proofs.Looking.{bytes_same}
use Rattle.hay_logical.proofs.Methods.{one_each}

pub bytes_more : (a b c : Files) → KeepsBytes a b → KeepsBytes b c → KeepsBytes a c
bytes_more a b c first second = record {
  now = λ n. second.now n ∙ first.now n;
  solid = λ n solid. second.solid n (first.solid n solid);
  leaves = λ image leaves. first.leaves image (second.leaves image leaves);
}

module _ {D : Type 0} (DiskTells : Type 0) (files : D → Files) where
  -- nothing was called
  pub files_same : (xs : List (Copy D)) → KeepsFiles DiskTells files xs xs
  files_same xs tells j r r' e f = subst (λ (x : Copy D). KeepsBytes (files r.disk) (files x.disk)) (at_same xs j r r' e f) (bytes_same (files r.disk))

  -- one replica was, and its bytes stay
  pub files_one : (at : ℕ) (old new : List (Copy D)) (one : CallsOne at old new) → (DiskTells → KeepsBytes (files (one.before).disk) (files (one.after).disk)) → KeepsFiles DiskTells files old new
  files_one at old new one keeps tells =
      one_each (λ (x y : Copy D). KeepsBytes (files x.disk) (files y.disk)) at old new one (keeps tells) (λ x. bytes_same (files x.disk))

  -- two calls
  pub files_more : (a b c : List (Copy D)) → length b ≡ length a → KeepsFiles DiskTells files a b → KeepsFiles DiskTells files b c → KeepsFiles DiskTells files a c
  files_more a b c count first second tells j r r' e f =
      let x = at_there b j (let h = at_below a j r e in let less : j < length b = omega (arith, h, count) in less) in
      bytes_more (files r.disk) (files (x.0).disk) (files r'.disk) (first tells j r x.0 e x.1) (second tells j x.0 r' x.1 f)

-- Looks have left its bytes.
pub looked_bytes : {D : Type 0} (files : D → Files) (r x : Copy D) → KeepsBytes (files r.disk) (files x.disk) → generation_of x ≡ generation_of r → volume_bytes files x ≡ volume_bytes files r
looked_bytes files r x keeps same = ap (λ n. (files x.disk (volume_file n)).now) same ∙ keeps.now (volume_file (generation_of r))

-- so it is of each replica
pub bytes_through : {D : Type 0} (DiskTells : Type 0) (files : D → Files) → DiskTells → (olds mids : List (Copy D)) → KeepsFiles DiskTells files olds mids
    → map replica_seen mids ≡ map replica_seen olds
    → (j : ℕ) (r x : Copy D) → At olds j r → At mids j x → volume_bytes files x ≡ volume_bytes files r
bytes_through {D} DiskTells files tells olds mids keeps same j r x e f =
    let before : At (map replica_seen mids) j (replica_seen r) = subst (λ (l : List ReplicaSeen). At l j (replica_seen r)) (sym same) (at_map replica_seen olds j r e) in
    let alike : replica_seen x ≡ replica_seen r = at_same (map replica_seen mids) j (replica_seen x) (replica_seen r) (at_map replica_seen mids j x f) before in
    looked_bytes files r x (keeps tells j r x e f) (ap (λ (s : ReplicaSeen). s.generation) alike)
