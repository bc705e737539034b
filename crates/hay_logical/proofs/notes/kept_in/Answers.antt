use Rattle.std.proofs.Common.{◌≡◌, ◌<◌, ◌+◌, ◌++◌, ◌∷◌, [], Some, inl, inr, length, length-append, sym, ap, subst, ◌∙◌, arith}
use Rattle.std.specs.Prelude.{slice_get}
use Rattle.std.proofs.lemmas.Bool.{cases_lt}
use Rattle.hay_physical.specs.OpenCopies.{Copy, end_of}
use Rattle.hay_logical.specs.Fits.{At}
use Rattle.hay_logical.specs.Notes.{keeps}
use Rattle.hay_logical.proofs.Lists.{at_below, at_first, at_last, at_read, at_same}
use Rattle.std.proofs.lemmas.List.{length-map}
use Rattle.hay_logical.specs.Seen.{ReplicaSeen, replica_seen}
use Rattle.hay_logical.specs.Sights.{sights_of}
use Rattle.hay_logical.proofs.Seen.{map_at}
use Rattle.hay_logical.proofs.notes.kept_in.Goals as goal

pub end-requires : goal.end-requires
end-requires g c =
    let within : c.loop-j.j < length c.args.replicas.now = omega arith in
    c.requires.«open» c.loop-j.j c.index-replicas-j.result
    (subst (λ x. At c.args.replicas.now c.loop-j.j x) (sym c.index-replicas-j.is) (at_read c.args.replicas.now c.loop-j.j c.index-replicas-j.result within))

pub loop-j-preserved : goal.loop-j-preserved
loop-j-preserved g c =
    let here : Copy g.row.D.Denot = c.index-replicas-j.result in
    let within : c.loop-j.j < length c.args.replicas.now = omega arith in
    let there : At c.args.replicas.now c.loop-j.j here = subst (λ x. At c.args.replicas.now c.loop-j.j x) (sym c.index-replicas-j.is) (at_read c.args.replicas.now c.loop-j.j here within) in
    let count = c.loop-j.invariant.count in
    record {
      count = ap length c.push.ensures.items ∙ length-append c.loop-j.kept.items (c.is_kept.result ∷ []) ∙ ap (λ n. n + 1) count;
      each = λ i r h e. elim (cases_lt i c.loop-j.j) [
        | inl less ↦ ap (λ xs. slice_get xs i) c.push.ensures.items ∙ at_first c.loop-j.kept.items (c.is_kept.result ∷ []) i _ (c.loop-j.invariant.each i r less e)
        | inr most ↦
            let at_j : i ≡ c.loop-j.j = omega (arith, h, most) in
            let r_is : r ≡ here = at_same c.args.replicas.now c.loop-j.j r here (subst (λ n. At c.args.replicas.now n r) at_j e) there in
            let told : slice_get c.push.new.self.items c.loop-j.j ≡ Some c.is_kept.result =
            ap (λ xs. slice_get xs c.loop-j.j) c.push.ensures.items
            ∙ subst (λ n. At (c.loop-j.kept.items ++ c.is_kept.result ∷ []) n c.is_kept.result) count (at_last c.loop-j.kept.items c.is_kept.result) in
            ap (λ n. slice_get c.push.new.self.items n) at_j ∙ told
            ∙ ap Some (c.is_kept.ensures ∙ ap (λ n. keeps c.args.change.now (sights_of c.args.rows.now) c.loop-j.j n) (c.end.ensures.is ∙ ap (λ (x : Copy g.row.D.Denot). end_of x) (sym r_is))
            ∙ ap (λ n. keeps c.args.change.now (sights_of c.args.rows.now) n (end_of r)) (sym at_j))
      ];
    }

pub returns : goal.returns
returns g c = record {
  count = c.loop-j.invariant.count ∙ (let e : c.loop-j.j ≡ length c.args.replicas.now = omega arith in e) ∙ sym (length-map c.args.replicas.now replica_seen);
  each = λ j s e.
      let x = map_at replica_seen c.args.replicas.now j s e in
      let h = at_below c.args.replicas.now j x.0 x.1 in
      let less : j < c.loop-j.j = omega arith in
      c.loop-j.invariant.each j x.0 less x.1 ∙ ap (λ (r : ReplicaSeen). Some (keeps c.args.change.now (sights_of c.args.rows.now) j r.end)) (sym x.2);
}
