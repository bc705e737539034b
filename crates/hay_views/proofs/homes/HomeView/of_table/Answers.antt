use Rattle.std.proofs.Common.{◌≡◌, ◌<◌, ◌++◌, ◌∷◌, [], ℕ, List, Option, sym, ap, subst, ◌∙◌, append-nil, append_assoc}
use Rattle.std.specs.Prelude.{IfSome}
use Rattle.std.specs.Map.Iter.{deref_pair}
use Rattle.std.proofs.lemmas.Map.Iter.{hash_map_turn}
use Rattle.hay_legal.specs.declared.known.HomeRow.{HomeRow}
use Rattle.hay_legal.specs.Known.{home_in}
use Rattle.hay_directory.specs.Rows.{RowsWithin}
use Rattle.hay_views.specs.HomeLooks.{rows_among}
use Rattle.hay_views.proofs.HomeLaw.{within_more}
use Rattle.hay_views.proofs.HomeTables.{homes_listed, keys_equal}
use Rattle.hay_views.proofs.homes.HomeView.of_table.Goals as goal

pub loop-key-preserved : goal.loop-key-preserved
loop-key-preserved c =
    let rows = c.loop-key.rows in
    let key = c.in-Some.key.now in
    let row : HomeRow = record { pair = record { key = key.0; alt = key.1 }; volume = c.in-Some.volume.now } in
    let gives = c.into_iter-key-iterator.ensures.into_iter_gives in
    let got = hash_map_turn deref_pair c.loop-key.yielded c.into_iter-key-iterator.result c.loop-key.key-iterator c.next.new.self c.next.result (c.in-Some.key, c.in-Some.volume)
    c.loop-key.yielded_by c.in-Some.is c.next.ensures.steps keys_equal c.args.homes gives.0 gives.4 in
    record {
      rows = ap (λ (l : List HomeRow). l ++ rows_among c.next.new.self) c.add.ensures ∙ append_assoc rows (row ∷ []) (rows_among c.next.new.self)
          ∙ ap (λ (l : List ((ℕ × ℕ) × ℕ)). rows ++ rows_among l) (sym c.in-Some.ensures.steps) ∙ c.loop-key.invariant.rows;
      within = λ within. subst (RowsWithin c.args.volumes) (sym c.add.ensures)
          (within_more c.args.volumes rows row (c.loop-key.invariant.within within)
          (subst (λ (home : Option ℕ). IfSome home (λ v. v < c.args.volumes)) got.1 (within.at row.pair)));
    }

pub invariant_of-result : goal.invariant_of-result
invariant_of-result c = λ pair.
    let rows = c.loop-key.rows in
    let whole : rows ≡ rows_among c.args.homes.entries =
    sym (append-nil rows) ∙ ap (λ (l : List ((ℕ × ℕ) × ℕ)). rows ++ rows_among l) (sym c.in-None.ensures.steps.0) ∙ c.loop-key.invariant.rows in
    sym (ap (λ (l : List HomeRow). home_in l pair) whole ∙ homes_listed c.args.homes.entries pair)
